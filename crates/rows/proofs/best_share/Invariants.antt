-- `best_share` is right because it looks at each row once, and passes over a row only where no share of its score can change the maximum. The invariant:
-- the maximum is that of the shares of the rows that were looked at.
use Rattle.std.proofs.Common.{◌≡◌, take}
use Rattle.gaze.specs.SegmentScore.{share}
use Rattle.rows.proofs.Maxima.{maximum_of}
use Rattle.rows.proofs.best_share.Given as goal

abbrev pub invariant-loop-row : goal.invariant-loop-row
invariant-loop-row l = l.largest ≡ maximum_of (share l.a l.b) (take l.row-index l.rows)
