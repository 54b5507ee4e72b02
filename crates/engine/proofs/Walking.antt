-- A chain step by step: the front of it that has been walked, and what a step more, a step that is not legal, and the whole walk say.
use mathlib.Core.Path.{◌≡◌, refl, sym, ap, ap₂, ◌∙◌, subst}
use mathlib.Core.Logic.{⊎_elim}
use mathlib.Core.Bool.{Bool, true, false, not, cond}
use mathlib.Core.List.{List, [], ◌∷◌}
use Prim.Native.Nat.{ℕ, zero, suc, ◌+◌, ◌-◌, ◌*◌, ◌^◌, ◌≤◌, ◌<◌}
use native.Mathlib.Nat.{eq-or-lt_of_le}
use native.Mathlib.Numerals.{add-one}
use native.Mathlib.Omega.{arith}
use lib.Dec.{T}
use lib.IntN.{ℤ, pos, nat_abs, ◌+ℤ◌}
use lib.ListN.{length, get_or, take}
use lib.Seq.{take_all}
use mir.Syntax.{w64}
use mir.Val.{SFits}
use Rattle.std.specs.Prelude.{None, Some}
use Rattle.std.proofs.lemmas.Option.{none-some}
use Rattle.whole.proofs.Bits.{small_fits}
use Rattle.whole.proofs.Size.{abs_sum}
use Rattle.gaze.specs.Chain.{Steps, Chain, FirstBad, Valid, legal_step, total}
use Rattle.gaze.specs.Sheet.{Sheet, end_number}
use Rattle.gaze.specs.Step.{steps, legal, gain}
use Rattle.gaze.specs.Ranges.{InRange}
use Rattle.gaze.proofs.Bounds.{gain_size}
use Rattle.gaze.proofs.Entries.{length_to, total_front, valid_of}
use Rattle.gaze.proofs.ListLaws.{adjacent_at}
use Rattle.chains.specs.Tables.{step}

-- ---- a step by what is said of it
module _ (sheet : Sheet) (s t : ℕ) where
  by_step : (b : Bool) {z : ℤ} → Some z ≡ cond b (Some (gain sheet s t)) None → T b × (z ≡ gain sheet s t)
  by_step true e = (tt, cc)
  by_step false e = absurd (none-some _ (sym e))

  by_none : (b : Bool) → None ≡ cond b (Some (gain sheet s t)) None → T (not b)
  by_none true e = absurd (none-some _ e)
  by_none false e = tt

  some_step : {z : ℤ} → Some z ≡ step (steps sheet) s t → T (legal sheet s t) × (z ≡ gain sheet s t)
  some_step e = by_step (legal sheet s t) e

  no_step : None ≡ step (steps sheet) s t → T (not (legal sheet s t))
  no_step e = by_none (legal sheet s t) e

-- ---- the front of a chain that has been walked: k entries, whose steps are all legal and together are worth z
pub record Walked (sheet : Sheet) (c : List ℕ) (k : ℕ) (z : ℤ) : Type 0 where
  pub legal_so_far : (i : ℕ) → 0 < i → i < k → T (legal_step (steps sheet) c i)
  pub worth : z ≡ total (steps sheet) (take k c)
  pub size : nat_abs z ≤ k * 2 ^ 50

pub walked_none : (sheet : Sheet) (c : List ℕ) → Walked sheet c 1 (pos 0)
unfolding total
walked_none sheet c = record { legal_so_far = λ i h l. absurd (none_below h l); worth = nothing_yet (steps sheet) c; size = omega arith }
  where
    none_below : {i : ℕ} → 0 < i → i < 1 → ⊥
    none_below h l = omega arith

    nothing_yet : (m : Steps) (c : List ℕ) → pos 0 ≡ total m (take 1 c)
    nothing_yet m [] = refl
    nothing_yet m (a ∷ l) = refl

pub source_before : {e : ℕ} {c : List ℕ} → Chain e c → (k : ℕ) → 1 ≤ k → k < length c → get_or c (k - 1) 0 < get_or c k 0
source_before {e} {c} p k from_one within =
    let same : suc (k - 1) ≡ k = omega arith in
    subst (λ (j : ℕ). get_or c (k - 1) 0 < get_or c j 0) same (adjacent_at (λ a b. a < b) 0 c p.rises (k - 1) (omega arith))

pub gained_small : {sheet : Sheet} {gained : ℤ} → InRange sheet → (s t : ℕ) → Some gained ≡ step (steps sheet) s t → nat_abs gained ≤ 2 ^ 50
gained_small {sheet} r s t taken = rw ((some_step sheet s t taken).1) (gain_size sheet r s t)

-- a chain has no more entries than there are candidates
pub walked_fits : {sheet : Sheet} {c : List ℕ} {k : ℕ} {z : ℤ} → InRange sheet → Chain (end_number sheet) c → Walked sheet c k z → k < length c
    → (gained : ℤ) → nat_abs gained ≤ 2 ^ 50 → SFits w64 (z +ℤ gained)
walked_fits {sheet} {c} {k} {z} r p w within gained small =
    let few = length_to (end_number sheet) c p in
    small_fits (z +ℤ gained) (1027 * 2 ^ 50) (omega (arith, abs_sum z gained, w.size, r.features.few)) (omega arith)

module _ {sheet : Sheet} {c : List ℕ} {k : ℕ} {z : ℤ} (w : Walked sheet c k z) (from_one : 1 ≤ k) (within : k < length c) where
  module _ {gained : ℤ} (taken : Some gained ≡ step (steps sheet) (get_or c (k - 1) 0) (get_or c k 0)) where
    gained_is : gained ≡ gain sheet (get_or c (k - 1) 0) (get_or c k 0)
    gained_is = (some_step sheet (get_or c (k - 1) 0) (get_or c k 0) taken).1

    pub walked_more : {new : ℤ} → nat_abs gained ≤ 2 ^ 50 → new ≡ z +ℤ gained → Walked sheet c (k + 1) new
    walked_more {new} small e =
        record {
          legal_so_far = λ i h l. ⊎_elim
              (λ (eq : i ≡ k). subst (λ (j : ℕ). T (legal_step (steps sheet) c j)) (sym eq) (some_step sheet (get_or c (k - 1) 0) (get_or c k 0) taken).0)
              (λ (lt : i < k). w.legal_so_far i h lt)
              (eq-or-lt_of_le (down l));
          worth = e ∙ (ap₂ ◌+ℤ◌ w.worth gained_is ∙ sym (front k from_one within));
          size = rw e (omega (arith, abs_sum z gained, w.size));
        }
      where
        down : {i k : ℕ} → i < k + 1 → i ≤ k
        down h = omega arith

        one_down : (j : ℕ) → suc j - 1 ≡ j
        one_down j = omega arith

        front : (k : ℕ) → 1 ≤ k → k < length c → total (steps sheet) (take (k + 1) c) ≡ total (steps sheet) (take k c) +ℤ gain sheet (get_or c (k - 1) 0) (get_or c k 0)
        front zero h l = absurd (none h)
          where
            none : 1 ≤ 0 → ⊥
            none h = omega arith
        front (suc j) h l = rw (add-one (suc j), one_down j) (total_front (steps sheet) c j l)

  pub breaks_here : None ≡ step (steps sheet) (get_or c (k - 1) 0) (get_or c k 0) → FirstBad (steps sheet) c k
  breaks_here e =
      record { from_one = from_one; within = within; bad = no_step sheet (get_or c (k - 1) 0) (get_or c k 0) e; before = w.legal_so_far }

pub walked_all : {sheet : Sheet} {c : List ℕ} {k : ℕ} {z : ℤ} → Walked sheet c k z → Chain (end_number sheet) c → length c ≤ k
    → Valid (steps sheet) (end_number sheet) c × (z ≡ total (steps sheet) c)
walked_all {sheet} {c} {k} w p all = (
  valid_of (steps sheet) (end_number sheet) c p (λ i h l. w.legal_so_far i h (omega arith)),
  w.worth ∙ ap (total (steps sheet)) (take_all k c all),
)
