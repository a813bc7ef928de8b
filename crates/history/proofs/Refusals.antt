-- Over every list of calls each is refused exactly where document 01 says. Assumes nothing.
use Rattle.refusal.proofs.Alike.{alike_number}
use Rattle.loss_controller.specs.Result.{average_reported_loss_ratio}
use Rattle.history.specs.Refusals.{Refusals2}
use Rattle.history.proofs.Weighed.{ratio_taken}
use Rattle.history.proofs.Step.{any_answer, reached}

pub refusals : Refusals2
unfolding average_reported_loss_ratio
refusals use_bytes calls =
    let r = reached use_bytes calls in
    record { each = λ call. alike_number (any_answer _ _ r call); ratio = rw (ratio_taken _ _ r.tied.windowed) }
