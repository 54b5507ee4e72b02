-- `answer` is right because the last candidate of a filled table is reached exactly where a valid chain ends there, and its trace is then the best one.
use Rattle.std.proofs.Common.{refl, arith}
use Rattle.chains.proofs.Answering.{none_found, way_leads, best_written}
use Rattle.chains.proofs.answer.Goals as goal

pub returns-in_err-reached : goal.returns-in_err-reached
returns-in_err-reached c =
    let some = c.requires.finished.some in
    λ m s. rw c.from_residual.ensures (none_found s (omega arith) c.in_err-reached.was, refl)

pub trace-count-requires : goal.trace-count-requires
trace-count-requires c =
    let p = c.requires in
    let some = p.finished.some in
    let few = p.finished.few in
    let room = p.room in
    record { leads = way_leads p.finished.searched (omega arith) c.in_ok-reached.was; within = omega arith; fits = omega arith; small = omega arith }

pub returns : goal.returns
returns c =
    let p = c.requires.finished in
    let some = p.some in
    λ m s. best_written s (omega arith) c.in_ok-reached.was p.few c.trace-count.ensures.counted c.trace-count.ensures.written
