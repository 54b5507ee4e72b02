-- A segment in the ranges of a sheet's segments is a record in range, and one in their order is a record in order.
use mathlib.Core.Path.{◌≡◌}
use mathlib.Core.Bool.{true}
use native.Mathlib.Omega.{arith}
use Rattle.std.proofs.lemmas.Bool.Decides.{nat_tests}
use Rattle.std.specs.declared.cmp.Ordering.TheVariants.{Less}
use Rattle.gaze.specs.declared.Segment.{Segment}
use Rattle.gaze.specs.Ranges.{SegmentRanges, segment_keys}
use Rattle.gaze.specs.Ranges as ranges
use Rattle.kinds.specs.Kinds.{S, between, thousandths, in_range}
use Rattle.kinds.specs.Order.{order}
use Rattle.records.specs.Records.{row_of}

pub ranges_record : (g : Segment) → SegmentRanges 4000000 g → in_range S 4000000 (row_of g) ≡ true
unfolding in_range row_of between thousandths
ranges_record g r = grind (arith, nat_tests)

pub before_keys : (a b : Segment) → ranges.Before (segment_keys a) (segment_keys b) → order (segment_keys a) (segment_keys b) ≡ Less
unfolding order
before_keys a b h = grind (arith, nat_tests)
