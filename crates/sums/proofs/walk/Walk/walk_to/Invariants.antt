-- `walk_to` is right because each turn stands on the next plateau, and so does not pass `p`. The loop's invariant: the walk stands on a plateau that starts by `p`.
use Rattle.std.proofs.Common.{◌≡◌, ◌-◌, ◌≤◌}
use Rattle.sums.proofs.walk.Walk.walk_to.Given as goal

abbrev pub invariant-loop-self : goal.invariant-loop-self
invariant-loop-self l = (l.self.segments ≡ l.initial.self.segments) × (l.self.at ≤ l.p)

abbrev pub decreases-loop-self : goal.decreases-loop-self
decreases-loop-self l = 4000001 - l.self.to
