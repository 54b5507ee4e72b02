-- `sum_rates` is right because over a plateau the sum of the largest rates is a product. The invariant: `sum` is the sum from `from` up to `at`, which is
-- left out.
use Rattle.std.proofs.Common.{◌≡◌, ◌-◌, ◌≤◌, ◌*◌, nat_abs}
use Rattle.gaze.specs.SegmentScore.{largest_rate, sum_over}
use Rattle.rows.proofs.sum_rates.Given as goal

abbrev pub invariant-loop-at : goal.invariant-loop-at
invariant-loop-at l =
    record {
      begun : l.from ≤ l.at;
      within : l.at ≤ l.to;
      is : l.sum ≡ sum_over (largest_rate l.rows) l.from (l.at - l.from);
      small : nat_abs l.sum ≤ (l.at - l.from) * 10000000000;
    }

abbrev pub decreases-loop-at : goal.decreases-loop-at
decreases-loop-at l = l.to - l.at
