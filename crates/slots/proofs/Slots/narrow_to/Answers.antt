use Rattle.std.proofs.Common.{arith, ap, length, ◌∙◌, ◌≡◌, ◌++◌, length-append}
use Rattle.slots.specs.Held.{starts_of}
use Rattle.slots.specs.Slots.{ending}
use Rattle.slots.proofs.Grouping.{grouped_more, grouped_view, grouped_whole, filter_keeps, left, left_room, left_few, left_rising, left_used, left_unused}
use Rattle.gaze.proofs.ListLaws.{listed_same}
use Rattle.slots.proofs.Slots.narrow_to.Goals as goal
use Rattle.slots.proofs.Slots.narrow_to.Goals.{then-used-j, else-used-j}

pub loop-j-preserved : goal.loop-j-preserved
loop-j-preserved c =
    let a = c.args in
    let s = c.slots in
    let l = c.loop-j in
    let low = c.loop-j-test.true in
    let at_same : c.if-used-j.self-inside.at ≡ l.self-inside.at =
    elim c.if-used-j.branch [ then-used-j w ↦ ap (λ s. s.at) w.self-inside-is | else-used-j w ↦ ap (λ s. s.at) w.self-inside-is ] in
    let more : c.if-used-j.self-inside.rows.items ≡ l.self-inside.rows.items ++ left a.used.now a.t a.slots.now l.j =
    elim c.if-used-j.branch [
      | then-used-j w ↦
          ap (λ s. s.rows.items) w.self-inside-is
          ∙ (rw w.as_slice.ensures.value at w.push_ending.ensures
          ∙ left_used a.used.now a.t a.slots.now s.inside s.view_is s.invariant l.j low l.self-inside.rows.items w.if-used-j.true)
      | else-used-j w ↦ ap (λ s. s.rows.items) w.self-inside-is ∙ left_unused a.used.now a.t a.slots.now l.self-inside.rows.items l.j w.if-used-j.false
    ] in
    record {
      grouped = rw at_same (grouped_more _ l.invariant.grouped low more c.len.ensures.value);
      room =
          omega (
            arith,
            ap length more,
            length-append l.self-inside.rows.items (left a.used.now a.t a.slots.now l.j),
            left_room a.used.now a.t a.slots.now s.inside s.view_is s.invariant l.j low,
            l.invariant.room,
          );
    }

pub invariant_of-self : goal.invariant_of-self
invariant_of-self c =
    let a = c.args in
    let s = c.slots in
    grouped_whole _ (omega arith) _ c.loop-j.invariant.grouped (c.list_starts.ensures ∙ ap starts_of c.as_slice-2.ensures.value)
    (left_few a.used.now a.t a.slots.now s.inside s.view_is s.invariant)
    (left_rising a.used.now a.t a.slots.now s.inside s.view_is s.invariant)

pub returns : goal.returns
unfolding ending
returns c = grouped_view _ (omega arith) c.loop-j.invariant.grouped ∙ listed_same _ _ 0 64 (λ j l u. filter_keeps _ _)
