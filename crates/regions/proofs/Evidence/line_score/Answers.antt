-- `line_score` is right because a Q line's segment score over the region is that of the rows which its match leaves of the slot that it asks for.
use Rattle.slots.proofs.Lines.{score_any, score_from_source, score_to_target, score_both}
use Rattle.sums.specs.Sums.{position}
use Rattle.whole.proofs.Bits.{back}
use Prim.Native.Nat.{ℕ}
use native.Mathlib.Omega.{arith}
use Rattle.regions.proofs.Evidence.line_score.Goals as goal

pub returns-in-0 : goal.returns-in-0
returns-in-0 c =
    let r = c.requires in
    let s : ℕ = position c.args.self.now.candidates.now c.args.source in
    let t : ℕ = position c.args.self.now.candidates.now c.args.target in
    rw (back c.slot_score.result c.slot_score.type_inv, c.slot_score.ensures, c.slot_of-slot.ensures.value, c.candidate-t.ensures)
    (score_any c.args.self.now.sheet.now.segments r.slots c.args.q.now r.ranged.kind r.ranged.phase s t c.in-0.is)

pub returns-in-1 : goal.returns-in-1
returns-in-1 c =
    let r = c.requires in
    let s : ℕ = position c.args.self.now.candidates.now c.args.source in
    let t : ℕ = position c.args.self.now.candidates.now c.args.target in
    rw (back c.score_rows.result c.score_rows.type_inv, c.score_rows.ensures, c.starting.ensures, c.slot_of-slot.ensures.value, c.candidate-s.ensures, c.candidate-t.ensures)
    (score_from_source c.args.self.now.sheet.now.segments r.slots c.args.q.now r.ranged.kind r.ranged.phase s t c.in-1.is)

pub returns-in-2 : goal.returns-in-2
returns-in-2 c =
    let r = c.requires in
    let s : ℕ = position c.args.self.now.candidates.now c.args.source in
    let t : ℕ = position c.args.self.now.candidates.now c.args.target in
    rw (back c.score_rows-in-2.result c.score_rows-in-2.type_inv, c.score_rows-in-2.ensures, c.slot.ensures.rows, c.slot_of-slot.ensures.value, c.candidate-s.ensures, c.candidate-t.ensures)
    (score_to_target c.args.self.now.sheet.now.segments r.slots c.args.q.now r.ranged.kind r.ranged.phase s t c.args.self.now.narrowed.now (r.narrowed (omega (arith, c.in-2.is))) c.in-2.is)

pub returns-in_default : goal.returns-in_default
returns-in_default c =
    let r = c.requires in
    let s : ℕ = position c.args.self.now.candidates.now c.args.source in
    let t : ℕ = position c.args.self.now.candidates.now c.args.target in
    rw (back c.score_rows-in_default.result c.score_rows-in_default.type_inv, c.score_rows-in_default.ensures, c.starting-in_default.ensures, c.slot_of-slot.ensures.value, c.candidate-s.ensures, c.candidate-t.ensures)
    (score_both c.args.self.now.sheet.now.segments r.slots c.args.q.now r.ranged.kind r.ranged.phase s t c.args.self.now.narrowed.now (r.narrowed (omega arith)) (omega (arith, r.ranged.matching)))
