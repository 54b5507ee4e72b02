use Rattle.std.proofs.Common.{arith, refl, ap, length, ◌∙◌, ◌+◌, length-append, filter}
use Rattle.std.proofs.lemmas.List.Kept.{IsNonDecreasingBy-filter}
use Rattle.slots.specs.Held.{starts_of}
use Rattle.slots.specs.Slots.{in_slot, slots_of}
use Rattle.slots.proofs.StartOrder.{in_order_rising}
use Rattle.slots.proofs.Counting.{counted, counted_next, counted_most}
use Rattle.slots.proofs.Grouping.{grouped_none, grouped_more, grouped_view, grouped_whole, filter_keeps, filter_length}
use Rattle.gaze.proofs.ListLaws.{listed_same}
use Rattle.slots.proofs.Slots.of.Goals as goal

pub loop-j-init : goal.loop-j-init
unfolding counted
loop-j-init c = record { grouped = grouped_none _ _ _ c.new-rows.ensures refl refl; counted = ap length c.new-rows.ensures }

pub push_slot-requires-clause-room : goal.push_slot-requires-clause-room
push_slot-requires-clause-room c =
    let l = c.args.segments.now in
    omega (arith, c.requires.few, c.loop-j.invariant.counted, counted_next c.loop-j.j l, counted_most (c.loop-j.j + 1) l)

pub loop-j-preserved : goal.loop-j-preserved
loop-j-preserved c =
    let i = c.loop-j.invariant in
    let j = c.loop-j.j in
    let l = c.args.segments.now in
    record {
      grouped = grouped_more _ i.grouped c.loop-j-test.true c.push_slot.ensures c.len.ensures.value;
      counted =
          omega (
            arith,
            i.counted,
            ap length c.push_slot.ensures,
            length-append c.loop-j.rows.items (filter (in_slot j) l),
            counted_next j l,
          );
    }

pub invariant_of-result : goal.invariant_of-result
invariant_of-result c =
    let p = c.requires in
    grouped_whole _ (omega arith) _ c.loop-j.invariant.grouped (c.list_starts.ensures ∙ ap starts_of c.as_slice.ensures.value)
    (λ j h. omega (arith, p.few, filter_length (in_slot j) c.args.segments.now))
    (λ j h. IsNonDecreasingBy-filter (λ g. g.start) (in_slot j) c.args.segments.now (in_order_rising c.args.segments.now p.ordered))

pub returns : goal.returns
unfolding slots_of
returns c =
    grouped_view _ (omega arith) c.loop-j.invariant.grouped
    ∙ listed_same _ _ 0 64 (λ j l u. filter_keeps (in_slot j) c.args.segments.now)
