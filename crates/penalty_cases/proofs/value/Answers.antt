-- `value` is right because its points are in range and in order, and of such `penalty_at` gives the penalty.
use Rattle.std.proofs.Common.{arith, refl, inl, inr}
use Rattle.gaze.specs.Lists.{Each, Adjacent}
use Rattle.gaze.specs.Ranges.{PointRanges, Group, point_keys}
use Rattle.penalty_cases.specs.Cases.{points}
use Rattle.penalty_cases.proofs.value.Goals as goal

in_range : Group 512 PointRanges point_keys points
unfolding Each Adjacent
in_range =
    record {
      few = omega arith;
      each = (search arith, (search arith, (search arith, (search arith, (search arith, tt)))));
      ordered = (inr (refl, inl (omega arith)), (inl (omega arith), (inl (omega arith), (inr (refl, inl (omega arith)), tt))));
    }

pub of-requires : goal.of-requires
of-requires c = rw (c.point.ensures, c.point-2.ensures, c.point-3.ensures, c.point-4.ensures, c.point-5.ensures) in_range
