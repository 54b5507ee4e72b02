use Rattle.std.proofs.Common.{◌≡◌, ◌≤◌, ◌+◌, refl, arith}
use Rattle.sums.proofs.Nearness.{at_rest, opened_more}
use Rattle.sums.proofs.window.Window.open_rows.Goals as goal

pub loop-row-preserved : goal.loop-row-preserved
loop-row-preserved c =
    let a = c.args in
    let l = c.loop-row in
    let i : l.self.next ≡ a.self.now.next + l.row-index = l.invariant.1 in
    let v : c.row.inside.segment ≡ c.row-item.result = c.row.view_is in
    let r = at_rest a.self.now.next a.rows.now l.row-index c.row-item.result c.loop-row-test.true c.row-item.is in
    let h : c.row.inside.segment.start ≤ 4000000 = let g = c.row.invariant.good in omega (arith, g.ordered, g.bounded) in (
      opened_more a.rows.now l.invariant.0 c.row.inside.segment _ c.requires.rising (omega (arith, r.0)) (rw (i, v) r.1) h c.push.ensures.items refl refl,
      omega arith,
    )
