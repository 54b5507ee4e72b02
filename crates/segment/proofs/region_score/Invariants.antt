-- `region_score` is right because it takes each segment that the Q line asks for. The invariant: `chosen` has those among the segments that were looked at.
use Rattle.std.proofs.Common.{◌≡◌, take}
use Rattle.gaze.specs.SegmentScore.{chosen}
use Rattle.segment.proofs.region_score.Given as goal

abbrev pub invariant-loop-segment : goal.invariant-loop-segment
invariant-loop-segment l = l.chosen.items ≡ chosen l.q l.s l.t (take l.segment-index l.segments)
