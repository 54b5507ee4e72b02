use Rattle.std.proofs.Common.{◌≡◌, ◌∙◌, arith, true, false, [], get_or, below_more, length-set}
use Rattle.std.proofs.lemmas.List.{set-get_or}
use Rattle.slots.specs.Slots.{slot_in}
use Rattle.sums.specs.Table.{FilledRow}
use Rattle.sums.proofs.Filling.{set_more, kept_more}
use Rattle.sums.proofs.fill_table.Goals as goal
use Rattle.sums.proofs.fill_table.Goals.{then-summed-slot, else-summed-slot}

pub loop-slot-preserved : goal.loop-slot-preserved
loop-slot-preserved c =
    let a = c.args in
    let l = c.loop-slot in
    elim c.if-summed-slot.branch [
      | then-summed-slot w ↦
          rw w.table-is
          (record {
            long = length-set l.table l.slot _ ∙ l.invariant.long;
            filled = set_more (λ j row. get_or a.summed.now j false ≡ true → FilledRow (slot_in a.slots.now j) a.candidates.now row) [] l.table l.slot _ (omega (arith, l.invariant.long))
                (λ on. rw w.slot.ensures.rows at w.fill_row.ensures.filled) l.invariant.filled;
            kept = kept_more l.slot _ w.if-summed-slot.true (omega (arith, l.invariant.long)) w.fill_row.ensures.kept l.invariant.kept;
          })
      | else-summed-slot w ↦
          rw (w.table-is, set-get_or l.table l.slot [])
          (record {
            long = l.invariant.long;
            filled = below_more (λ j. get_or a.summed.now j false ≡ true → FilledRow (slot_in a.slots.now j) a.candidates.now (get_or l.table j [])) l.slot l.invariant.filled
                (λ on. let off = w.if-summed-slot.false in absurd (cc));
            kept = l.invariant.kept;
          })
    ]
