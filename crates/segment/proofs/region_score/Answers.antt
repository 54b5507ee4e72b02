use Rattle.std.proofs.Common.{◌∙◌, sym, arith, pos, ◌≤◌, length}
use Rattle.gaze.specs.declared.Segment.{Segment}
use Rattle.gaze.specs.Lists.{keep}
use Rattle.gaze.specs.SegmentScore.{asked}
use Rattle.gaze.proofs.ListLaws.{each_at}
use Rattle.rows.specs.Rows.{Good}
use Rattle.segment.proofs.Choosing.{kept_few, kept_more, kept_same}
use Rattle.segment.proofs.region_score.Goals as goal
use Rattle.segment.proofs.region_score.Goals.{then-asked, else-asked}

-- what a place past the end has
abbrev blank : Segment
blank = record { kind = 0; start = 0; end = 0; score = pos 0 }

pub loop-segment-init : goal.loop-segment-init
unfolding keep
loop-segment-init c = c.new-chosen.ensures

pub asked-requires-clause-start_bounded : goal.asked-requires-clause-start_bounded
asked-requires-clause-start_bounded c =
    let g = each_at Good blank c.args.segments.now c.requires.each c.loop-segment.segment-index c.loop-segment-test.true in
    omega (arith, g.ordered, g.bounded)

pub of-requires : goal.of-requires
of-requires c =
    each_at Good blank c.args.segments.now c.requires.each c.loop-segment.segment-index c.loop-segment-test.true

pub push-requires : goal.push-requires
push-requires c =
    let a = c.args in
    let l = c.loop-segment in
    let few : length l.chosen.items ≤ l.segment-index = rw l.invariant (kept_few (asked a.q a.s a.t) a.segments.now l.segment-index) in
    (omega arith, omega arith)

pub loop-segment-preserved : goal.loop-segment-preserved
loop-segment-preserved c =
    let a = c.args in
    let l = c.loop-segment in
    elim c.if-asked.branch [
      | then-asked w ↦
          let kept = kept_more (asked a.q a.s a.t) a.segments.now l.segment-index blank c.loop-segment-test.true (sym c.asked.ensures ∙ w.if-asked.true) in
          cc
      | else-asked w ↦
          let kept = kept_same (asked a.q a.s a.t) a.segments.now l.segment-index blank c.loop-segment-test.true (sym c.asked.ensures ∙ w.if-asked.false) in
          cc
    ]
