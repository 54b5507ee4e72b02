-- `pair_score` is right because the table holds both sums, and what the sum along with the target has more than the sum before the source is the sum over the
-- region.
use Rattle.std.proofs.Common.{◌<◌, ◌+◌, ◌∙◌, rules, refl, arith, to_z-of_z, w64, SFits, length, get_or, []}
use Rattle.whole.proofs.Bits.{back}
use Rattle.slots.specs.Slots.{slot_in}
use Rattle.sums.specs.Sums.{position}
use Rattle.sums.specs.Table.{nothing}
use Rattle.sums.proofs.Summing.{difference}
use Rattle.sums.proofs.RunningSums.pair_score.Goals as goal

pub returns-clause-difference : goal.returns-clause-difference
returns-clause-difference c =
    let s = c.self.inside in
    let q = c.self.invariant in
    let a = c.args in
    let on = c.if-not-self-slot.false in
    let row = q.filled.rows a.slot c.requires.slot_low on in
    let i : a.i < length s.candidates.now = rw (← c.self.view_is) at c.requires.i_low in
    let j : a.j < length s.candidates.now = rw (← c.self.view_is) at c.requires.j_low in
    let along : SFits w64 ((get_or (get_or s.table.now a.slot []) a.j nothing).along) = search rules in
    let before : SFits w64 ((get_or (get_or s.table.now a.slot []) a.i nothing).before) = search rules in
    rw (
      back c.floor.result c.floor.type_inv,
      c.floor.ensures,
      back c.minus.result c.minus.type_inv,
      c.minus.ensures,
      to_z-of_z along,
      to_z-of_z before,
      row.along a.j j,
      row.before a.i i,
      ← c.self.view_is,
      on,
    ) refl

pub returns-clause-score : goal.returns-clause-score
returns-clause-score c = λ ordered.
    let s = c.self.inside in
    let q = c.self.invariant in
    let a = c.args in
    let on = c.if-not-self-slot.false in
    let places = q.places a.slot c.requires.slot_low on in
    let i : a.i < length s.candidates.now = rw (← c.self.view_is) at c.requires.i_low in
    let j : a.j < length s.candidates.now = rw (← c.self.view_is) at c.requires.j_low in
    let rises = places.rises a.i a.j ordered j in
    let start = position s.candidates.now a.i in
    let end = position s.candidates.now a.j in
    returns-clause-difference c
    ∙ rw (← c.self.view_is, on, difference (slot_in s.slots.now a.slot) start (end + 1) (places.low a.i i) (omega (arith, rises))) refl
