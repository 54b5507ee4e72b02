use Rattle.std.proofs.Common.{sym}
use Rattle.slots.proofs.Grouping.{slot_is}
use Rattle.slots.proofs.Slots.slot.Goals as goal

pub returns-clause-rows : goal.returns-clause-rows
returns-clause-rows c = rw c.as_slice.ensures.value (sym (slot_is c.self.inside c.args.self.now c.self.view_is c.args.j c.requires))
