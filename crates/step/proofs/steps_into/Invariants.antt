-- `steps_into` is right because each entry is written once. The invariant: the entries of the sources so far are their steps.
use Rattle.std.proofs.Common.{◌≡◌, ◌+◌, ◌<◌, ℕ, get_or, None}
use Rattle.gaze.specs.Step.{steps}
use Rattle.chains.specs.Tables.{step}
use Rattle.step.proofs.steps_into.Given as goal

abbrev pub invariant-loop-place : goal.invariant-loop-place
invariant-loop-place l = (i : ℕ) → i < l.place → get_or l.row i None ≡ step (steps l.fn.prepared) (l.fn.first + i) l.fn.target
