use Rattle.std.proofs.Common.{arith, ap, length, length-append}
use Rattle.std.proofs.lemmas.List.{length-take}
use Rattle.std.proofs.lemmas.List.Sums.{length-filter, count_by-le-length}
use Rattle.slots.proofs.push_ending.Goals as goal

pub push-requires : goal.push-requires
push-requires c = grind (arith, ap length c.loop-row.invariant, length-append, length-filter, count_by-le-length, length-take)
