-- A segment of a sheet is good, whatever the length of the sequence.
use Prim.Native.Nat.{ℕ, ◌≤◌}
use native.Mathlib.Omega.{arith}
use Rattle.gaze.specs.declared.Segment.{Segment}
use Rattle.gaze.specs.Ranges.{SegmentRanges}
use Rattle.rows.specs.Rows.{Good}

pub good_within : (bases : ℕ) (g : Segment) → bases ≤ 4000000 → SegmentRanges bases g → Good g
good_within bases g h r =
    let e = r.end in
    record { ordered = e.0; bounded = omega arith; score = r.score }

-- of the longest sequence
pub good_of : {g : Segment} → SegmentRanges 4000000 g → Good g
good_of {g} r = good_within 4000000 g (omega arith) r
