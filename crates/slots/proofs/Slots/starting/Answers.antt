-- `starting` is right because no row before the first that does not start before `s` starts at `s`.
use Rattle.std.proofs.Common.{arith, drop, length, take_all, ◌-◌}
use lib.ListN.{length-drop}
use Rattle.slots.proofs.StartOrder.{starting_later}
use Rattle.slots.proofs.Slots.starting.Goals as goal

pub returns : goal.returns
returns c =
    let s = c.args.s in
    let first = c.first_in_slot in
    let rows = c.slot.result.now in
    rw (c.starting.ensures, take_all (length rows - first.result) (drop first.result rows) (omega (arith, length-drop first.result rows)), c.slot.ensures.rows)
    (starting_later s _ first.result first.ensures.first.0)
