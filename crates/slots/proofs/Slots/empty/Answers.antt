-- `empty` is right because each slot is a part of no rows.
use Rattle.std.proofs.Common.{replicate}
use Rattle.std.proofs.lemmas.List.{get_or-replicate}
use Rattle.slots.proofs.Grouping.{none_view, none_grouped}
use Rattle.slots.proofs.Slots.empty.Goals as goal

pub invariant_of-result : goal.invariant_of-result
invariant_of-result c = none_grouped _ c.new.ensures c.new-2.ensures (λ j h. get_or-replicate 65 j 0 0 h)

pub returns : goal.returns
returns c =
    none_view (record { rows = c.new.result; starts = c.new-2.result; at = replicate 65 0 }) c.new.ensures c.new-2.ensures (λ j h. get_or-replicate 65 j 0 0 h)
