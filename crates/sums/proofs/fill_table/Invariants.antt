-- `fill_table` is right because each turn fills the row of one slot, and leaves the others. The loop's invariant: the rows before this one are filled, and
-- what is not filled is as it was.
use Rattle.std.proofs.Common.{◌≡◌, ℕ, ◌<◌, true, false, [], get_or, length}
use Rattle.slots.specs.Slots.{slot_in}
use Rattle.sums.specs.Table.{FilledRow, Kept}
use Rattle.sums.proofs.fill_table.Given as goal

abbrev pub invariant-loop-slot : goal.invariant-loop-slot
invariant-loop-slot l =
    record {
      long : length l.table ≡ 64;
      filled : (j : ℕ) → j < l.slot → get_or l.summed j false ≡ true → FilledRow (slot_in l.slots j) l.candidates (get_or l.table j []);
      kept : Kept l.summed l.candidates l.initial.table l.table;
    }
