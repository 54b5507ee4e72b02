-- A type and a class are all that a phase asks of a segment: which slot a Q line asks for at a target position, and in which slots a segment stands.
use mathlib.Core.Path.{◌≡◌, refl, ap, ◌∙◌}
use mathlib.Core.Logic.{◌⊎◌, inl, inr}
use mathlib.Core.Bool.{Bool, true, false, ◌&&◌}
use Prim.Native.Nat.{ℕ, zero, suc, ◌+◌, ◌-◌, ◌*◌, ◌/◌, ◌%◌, ◌≤◌, ◌<◌}
use native.Mathlib.Omega.{arith}
use borrow.Author.Tests.{ne_eqb, eqb-true, eqb-false}
use lib.Dec.{eqb, ltb, ltb→lt, nltb→le}
use lib.IntN.{pos, negsuc, ◌-ℤ◌}
use Rattle.std.proofs.lemmas.Bool.{cases_Bool}
use Rattle.whole.proofs.Linear.{by_cases}
use Rattle.gaze.proofs.Tests.{both_true, same_test}
use Rattle.gaze.specs.declared.Segment.{Segment}
use Rattle.gaze.specs.SegmentScore.{reduced, meets_phase}
use Rattle.segment.specs.Choice.{fits}
use Rattle.slots.specs.Slots.{class_of, class_phase, in_slot, slot_of}

-- t - start, reduced, without a difference
reduced_is : (t start : ℕ) → reduced (pos t -ℤ pos start) ≡ (t + 2 * start) % 3
reduced_is t zero = omega arith
reduced_is t (suc a) =
    by_cases (ltb t (suc a)) (negsuc (suc a - suc t)) (pos (t - suc a)) (λ z. reduced z ≡ (t + 2 * suc a) % 3)
    (λ h. let l = ltb→lt t (suc a) h in omega arith)
    (λ h. let l = nltb→le t (suc a) h in omega arith)

-- ---- the slot of a Q line
phase_class : (phase t : ℕ) (g : Segment) → phase < 3 → meets_phase phase t g ≡ meets_phase 0 ((t + 2 * phase) % 3) g
phase_class phase t g h =
    let n : phase ≡ 3 → ⊥ = λ e. omega arith in
    rw (ne_eqb phase 3 n, reduced_is t g.start, reduced_is ((t + 2 * phase) % 3) g.start)
    (same_test ((t + 2 * g.start) % 3) phase (((t + 2 * phase) % 3 + 2 * g.start) % 3) 0 (λ e. omega arith) (λ e. omega arith))

class_fits : (kind phase t : ℕ) (g : Segment) → phase ≤ 3 → fits kind phase t g ≡ fits kind (class_phase (class_of phase t)) (class_of phase t) g
class_fits kind phase t g h = go (cases_Bool (eqb phase 3))
  where
    low : (t + 2 * phase) % 3 ≡ 3 → ⊥
    low q = omega arith

    less : (phase ≡ 3 → ⊥) → phase < 3
    less q = omega (arith, q)

    go : (eqb phase 3 ≡ true) ⊎ (eqb phase 3 ≡ false) → fits kind phase t g ≡ fits kind (class_phase (class_of phase t)) (class_of phase t) g
    go (inl e) = rw e refl
    go (inr e) =
        ap (λ (b : Bool). eqb g.kind kind && b) (phase_class phase t g (less (eqb-false phase 3 e)))
        ∙ rw (e, ne_eqb ((t + 2 * phase) % 3) 3 low) refl

class_low : (phase t : ℕ) → class_of phase t < 4
class_low phase t = go (cases_Bool (eqb phase 3))
  where
    go : (eqb phase 3 ≡ true) ⊎ (eqb phase 3 ≡ false) → class_of phase t < 4
    go (inl e) = rw e (omega arith)
    go (inr e) = rw e (omega arith)

pub slot_low : (kind phase t : ℕ) → kind ≤ 15 → slot_of kind phase t < 64
slot_low kind phase t h = let l = class_low phase t in omega arith

-- what a Q line asks of type and phase is what its slot asks
pub slot_fits : (kind phase t : ℕ) (g : Segment) → phase ≤ 3 → fits kind phase t g ≡ in_slot (slot_of kind phase t) g
slot_fits kind phase t g h =
    let c = class_of phase t in
    let l = class_low phase t in
    let d : (4 * kind + c) / 4 ≡ kind = omega arith in
    let m : (4 * kind + c) % 4 ≡ c = omega arith in
    class_fits kind phase t g h ∙ rw (d, m) refl

-- ---- the slots of a segment: that of its start's remainder, and the last of its type
pub slots_of_one : (j : ℕ) (g : Segment) → in_slot j g ≡ true → (j ≡ 4 * g.kind + g.start % 3) ⊎ (j ≡ 4 * g.kind + 3)
slots_of_one j g h =
    go (both_true (eqb g.kind (j / 4)) (meets_phase (class_phase (j % 4)) (j % 4) g) h) (cases_Bool (eqb (j % 4) 3))
  where
    low : (j % 4 ≡ 3 → ⊥) → j % 4 < 3
    low n = omega (arith, n)

    first : (kind start : ℕ) → kind ≡ j / 4 → j % 4 < 3 → (j % 4 + 2 * start) % 3 ≡ 0 → j ≡ 4 * kind + start % 3
    first kind start h l d = omega arith

    go : (eqb g.kind (j / 4) ≡ true) × (meets_phase (class_phase (j % 4)) (j % 4) g ≡ true) → (eqb (j % 4) 3 ≡ true) ⊎ (eqb (j % 4) 3 ≡ false)
        → (j ≡ 4 * g.kind + g.start % 3) ⊎ (j ≡ 4 * g.kind + 3)
    go u (inl e) =
        let k = eqb-true g.kind (j / 4) u.0 in
        let c = eqb-true (j % 4) 3 e in
        inr (omega arith)
    go u (inr e) =
        let c : eqb ((j % 4 + 2 * g.start) % 3) 0 ≡ true = rw (e, reduced_is (j % 4) g.start) at u.1 in
        inl (first g.kind g.start (eqb-true g.kind (j / 4) u.0) (low (eqb-false (j % 4) 3 e)) (eqb-true ((j % 4 + 2 * g.start) % 3) 0 c))
