-- `marks` is right because marking a line's slots leaves the earlier marks. The invariant: each line so far is one that does not ask, or its slots are
-- marked.
use Rattle.std.proofs.Common.{◌⊎◌, ◌<◌, ℕ, false, get_or}
use Rattle.std.specs.Fn.{FnReturnsAt}
use Rattle.gaze.specs.declared.Qualifier.{Qualifier}
use Rattle.step.specs.Steps.{SlotsMarked}
use Rattle.step.proofs.prepared.marks.Given as goal

abbrev pub invariant-loop-q : goal.invariant-loop-q
invariant-loop-q g l =
    (k : ℕ) (d : Qualifier) → k < l.q-index → FnReturnsAt g.F.Fn l.asks (get_or l.qualifiers k d) false ⊎ SlotsMarked l.marks (get_or l.qualifiers k d)
