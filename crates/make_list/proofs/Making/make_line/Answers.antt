-- Words say no call that is refused. Assumes nothing.
use Rattle.std.proofs.Common.{◌≡◌, Some, Ok}
use Rattle.call_words.specs.Words.{words_of}
use Rattle.call_words.proofs.Taken.{words_taken}
use Rattle.make_list.proofs.Making.make_line.Goals as goal

pub write_call-requires : goal.write_call-requires
write_call-requires g c =
    let e : words_of c.args.self.now.line.items ≡ Ok (Some c.in-Ok-Some.call) = cc in
    (words_taken _ _ e).0
