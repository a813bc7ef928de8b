-- `text` meets its contract: four columns before the newline that is there. Assumes nothing.
use mir.Val.{bool_byte}
use Rattle.std.proofs.Common.{◌≡◌, Bool, true, false, cond, refl}
use Rattle.call_list.specs.Answer.{text_of}
use Rattle.call_list.proofs.Laying.{four_laid}
use Rattle.call_list.proofs.text.Goals as goal

-- a flag as a number
flag_is : (b : Bool) → bool_byte b ≡ cond b 1 0
flag_is true = refl
flag_is false = refl

pub returns : goal.returns
unfolding text_of
returns c =
    rw (← c.from-state.ensures, ← c.unwrap_or-rate.ensures, ← c.is_some-published.ensures, ← flag_is c.is_some-published.result)
    (four_laid _ _ _ _ _ _ _ _ _ refl c.put_column.ensures c.put_column-2.ensures c.put_column-3.ensures c.put_column-4.ensures)
