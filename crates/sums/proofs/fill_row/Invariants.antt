-- `fill_row` is right because positions never fall, so the walk goes on from one to the plateau that holds the next. The loop's invariant: the sums of the
-- candidates before `i` are filled, what stands behind those of the last is as it was, and the walk stands on a plateau that starts by every position from
-- `i` on.
use Rattle.std.proofs.Common.{◌≡◌, ℕ, ◌≤◌, ◌<◌, length, get_or}
use Rattle.sums.specs.Sums.{position}
use Rattle.sums.specs.Table.{nothing}
use Rattle.sums.proofs.Filling.{Summed}
use Rattle.sums.proofs.fill_row.Given as goal

abbrev pub invariant-loop-i : goal.invariant-loop-i
invariant-loop-i l =
    record {
      long : length l.row ≡ 1026;
      segments : l.walk.segments ≡ l.rows;
      behind : (j : ℕ) → l.i ≤ j → j < length l.candidates → l.walk.at ≤ position l.candidates j;
      filled : (j : ℕ) → j < l.i → Summed l.rows (position l.candidates j) (get_or l.row j nothing);
      kept : (j : ℕ) → length l.candidates ≤ j → get_or l.row j nothing ≡ get_or l.initial.row j nothing;
    }
