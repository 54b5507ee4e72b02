use Rattle.std.proofs.Common.{arith, length-append, ap, sym, ◌∙◌, length}
use Rattle.gaze.specs.Ranges.{SegmentRanges}
use Rattle.gaze.proofs.ListLaws.{each_at}
use Rattle.rows.proofs.Ranges.{good_of}
use Rattle.slots.specs.Slots.{in_slot}
use Rattle.slots.proofs.Counting.{filter_room}
use Rattle.slots.proofs.push_slot.Goals as goal

pub fits-requires-clause-start_bounded : goal.fits-requires-clause-start_bounded
fits-requires-clause-start_bounded c =
    (each_at (SegmentRanges 4000000) _ c.args.segments.now c.requires.each c.loop-segment.segment-index c.loop-segment-test.true).start.1

pub of-requires : goal.of-requires
of-requires c =
    good_of (each_at (SegmentRanges 4000000) _ c.args.segments.now c.requires.each c.loop-segment.segment-index c.loop-segment-test.true)

pub push-requires : goal.push-requires
push-requires c =
    let fits = rw c.class_phase-phase.ensures at c.fits.ensures in
    grind (
      arith,
      length-append,
      ap length c.loop-segment.invariant,
      filter_room (in_slot c.args.j) c.args.segments.now c.loop-segment.segment-index _ c.loop-segment-test.true (sym fits ∙ c.if-fits.true),
    )
