use Rattle.std.proofs.Common.{◌≡◌, false, sym, ◌∙◌, arith, take, take_all}
use Rattle.whole.proofs.Bits.{back, small_back}
use Rattle.gaze.specs.SegmentScore.{share}
use Rattle.rows.specs.Maximum.{can_win}
use Rattle.rows.proofs.Maxima.{maximum_of, one_more, no_more, largest_is}
use Rattle.rows.proofs.Shares.{share_beaten}
use Rattle.rows.proofs.best_share.Goals as goal
use Rattle.rows.proofs.best_share.Goals.{then-can_win, else-can_win}

pub loop-row-preserved : goal.loop-row-preserved
loop-row-preserved c =
    let a = c.args in
    let l = c.loop-row in
    let g = c.row-item.result in
    let r = rw c.row.view_is at c.row.invariant.good in
    let score = small_back c.row.inside.segment.score 10000000 c.row.invariant.good.score (omega arith) in
    elim c.if-can_win.branch [
      | then-can_win w ↦
          let more = one_more (share a.a a.b) a.rows.now l.row-index g c.loop-row-test.true c.row-item.is in
          let s = back w.share.result w.share.type_inv in
          let t = back w.larger_with.result w.larger_with.type_inv in
          cc
      | else-can_win w ↦
          let n : can_win (maximum_of (share a.a a.b) (take l.row-index a.rows.now)) g.score ≡ false = cc in
          w.largest-is ∙ (l.invariant ∙ sym (no_more (share a.a a.b) a.rows.now l.row-index g c.loop-row-test.true c.row-item.is g.score (share_beaten a.a a.b g r.ordered) n))
    ]

pub returns : goal.returns
returns c =
    let r = c.unwrap_or in
    let a = c.args in
    let l = c.loop-row in
    let all = take_all l.row-index a.rows.now c.loop-row-test.false in
    let is = largest_is (share a.a a.b) a.a a.b a.rows.now in
    let b = back r.result r.type_inv in
    cc
