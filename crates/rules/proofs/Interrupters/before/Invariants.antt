-- The table is right because features stand in order of position: a later one takes its place's entry over. The features before the index are looked
-- at, and no entry lies beyond one that is still to come.
use Rattle.rules.proofs.LastSeen.{SeenTo}
use Rattle.rules.proofs.Interrupters.before.Given as goal

abbrev pub invariant-loop-feature : goal.invariant-loop-feature
invariant-loop-feature l = SeenTo l.feature-items l.target l.feature-index l.last
