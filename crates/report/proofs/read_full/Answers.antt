use Rattle.std.proofs.Common.{length, ◌-◌, rules}
use Rattle.report.proofs.Reading.{more_taken}
use Rattle.report.proofs.read_full.Goals as goal

pub loop-done-preserved : goal.loop-done-preserved
loop-done-preserved g c =
    let before = c.loop-done.invariant in
    let read = c.in_ok-n.ensures in
    let at = c.loop-done.done in (
      search rules,
      search rules,
      more_taken _ _ _ at c.in_ok-n.n (length c.loop-done.bytes - at) c.loop-done.bytes c.read_some.new.bytes before.1 read.within.0 before.2 read.taken,
    )
