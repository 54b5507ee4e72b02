-- A chain by its entries: what their order says of their size, the score of a front, and validity step by step.
use mathlib.Core.Path.{◌≡◌, refl, sym, ap, ◌∙◌, subst}
use Rattle.std.specs.Prelude.{Some}
use mathlib.Core.List.{List, [], ◌∷◌}
use Prim.Native.Nat.{ℕ, zero, suc, ◌+◌, ◌-◌, ◌≤◌, ◌<◌}
use native.Mathlib.Numerals.{add-one}
use native.Mathlib.Omega.{arith}
use lib.Dec.{T}
use lib.IntN.{ℤ, ◌+ℤ◌, +ℤ_assoc, +ℤ_idl, +ℤ_idr}
use lib.ListN.{length, get_or, take}
use Rattle.std.specs.List.Sorted.{IsStrictlyIncreasing}
use Rattle.gaze.specs.Chain.{Steps, first, last, Chain, Valid, total, legal_step}
use Rattle.gaze.proofs.Tests.{none_below}
use Rattle.gaze.proofs.ListLaws.{adjacent_of, adjacent_at}

none_past : {n : ℕ} → suc n < 1 → ⊥
none_past h = omega arith

-- ---- the ends, by their places
first_is : (c : List ℕ) → 0 < length c → first c ≡ Some (get_or c 0 0)
unfolding first
first_is [] h = absurd (none_below h)
first_is (a ∷ l) h = refl

last_is : (c : List ℕ) → 0 < length c → last c ≡ Some (get_or c (length c - 1) 0)
unfolding last
last_is [] h = absurd (none_below h)
last_is (a ∷ []) h = refl
last_is (a ∷ b ∷ l) h = last_is (b ∷ l) (omega arith) ∙ ap (λ (k : ℕ). Some (get_or (a ∷ b ∷ l) k 0)) (up (length l))
  where
    up : (n : ℕ) → suc (suc n - 1) ≡ suc (suc n) - 1
    up n = omega arith

some_first : (c : List ℕ) → first c ≡ Some 0 → 0 < length c
unfolding first
some_first [] h = let z : ◌≡◌ {A = ℕ} 0 1 = cc in omega arith
some_first (a ∷ l) h = omega arith

some_inj : {a b : ℕ} → Some a ≡ Some b → a ≡ b
some_inj p = cc

module _ (e : ℕ) (c : List ℕ) where
  pub chain_of : 0 < length c → get_or c 0 0 ≡ 0 → get_or c (length c - 1) 0 ≡ e → IsStrictlyIncreasing c → Chain e c
  chain_of n a b r =
      record {
        starts = first_is c n ∙ ap Some a;
        ends = last_is c n ∙ ap Some b;
        rises = adjacent_of (λ a b. a < b) 0 c (λ i h. rw add-one at (r i (omega arith)));
      }

  module _ (p : Chain e c) where
    pub not_empty : 0 < length c
    not_empty = some_first c p.starts

    pub chain_first : get_or c 0 0 ≡ 0
    chain_first = some_inj (sym (first_is c not_empty) ∙ p.starts)

    pub chain_last : get_or c (length c - 1) 0 ≡ e
    chain_last = some_inj (sym (last_is c not_empty) ∙ p.ends)

    pub chain_rises : IsStrictlyIncreasing c
    chain_rises i h = rw add-one (adjacent_at (λ a b. a < b) 0 c p.rises i (omega arith))

    -- ---- a rising list leaves room
    rise_by : (i n : ℕ) → i + n < length c → get_or c i 0 + n ≤ get_or c (i + n) 0
    rise_by i zero h = rw (zero_right i) (omega arith)
      where
        zero_right : (i : ℕ) → i + 0 ≡ i
        zero_right i = omega arith
    rise_by i (suc n) h =
        let a = rise_by i n (omega arith) in
        let b = chain_rises (i + n) (omega arith) in
        rw (suc_right i n) (omega arith)
      where
        suc_right : (i n : ℕ) → i + suc n ≡ i + n + 1
        suc_right i n = omega arith

    pub entry_from : (i : ℕ) → i < length c → i ≤ get_or c i 0
    entry_from i h =
        let a = rise_by 0 i (rw (zero_left i) h) in
        omega (arith, rw (zero_left i) at a)
      where
        zero_left : (i : ℕ) → 0 + i ≡ i
        zero_left i = omega arith

    pub entry_to : (i : ℕ) → i < length c → get_or c i 0 ≤ e
    entry_to i h =
        let a = rise_by i (length c - 1 - i) (omega arith) in
        let b : get_or c (i + (length c - 1 - i)) 0 ≡ e = rw (the_last i (length c) h) chain_last in
        omega arith
      where
        the_last : (i n : ℕ) → i < n → i + (n - 1 - i) ≡ n - 1
        the_last i n h = omega arith

    pub length_to : length c ≤ suc e
    length_to =
        let n = not_empty in
        let a = entry_from (length c - 1) (omega arith) in
        let b = chain_last in
        omega arith

-- ---- the score of a front, one step longer
pub total_front : (m : Steps) (c : List ℕ) (j : ℕ) → suc j < length c
    → total m (take (suc (suc j)) c) ≡ total m (take (suc j) c) +ℤ m.gain (get_or c j 0) (get_or c (suc j) 0)
unfolding total
total_front m [] j h = absurd (none_below h)
total_front m (a ∷ []) j h = absurd (none_past h)
total_front m (a ∷ b ∷ l) zero h = +ℤ_idr (m.gain a b) ∙ sym (+ℤ_idl (m.gain a b))
total_front m (a ∷ b ∷ l) (suc j) h =
    ap (λ (z : ℤ). m.gain a b +ℤ z) (total_front m (b ∷ l) j (omega arith))
    ∙ sym (+ℤ_assoc (m.gain a b) (total m (take (suc j) (b ∷ l))) (m.gain (get_or (b ∷ l) j 0) (get_or (b ∷ l) (suc j) 0)))

-- ---- validity, step by step
one_down : (k : ℕ) → suc k - 1 ≡ k
one_down k = omega arith

pub all_legal : (m : Steps) (e : ℕ) (c : List ℕ) → Valid m e c → (k : ℕ) → 0 < k → k < length c → T (legal_step m c k)
all_legal m e c v zero h l = absurd (none_below h)
all_legal m e c v (suc k) h l =
    subst (λ (i : ℕ). T (m.legal (get_or c i 0) (get_or c (suc k) 0))) (sym (one_down k)) (adjacent_at (λ s t. T (m.legal s t)) 0 c v.legal k l)

pub valid_of : (m : Steps) (e : ℕ) (c : List ℕ) → Chain e c → ((k : ℕ) → 0 < k → k < length c → T (legal_step m c k)) → Valid m e c
valid_of m e c p f =
    record {
      chain = p;
      legal = adjacent_of (λ s t. T (m.legal s t)) 0 c
          (λ i h. subst (λ (j : ℕ). T (m.legal (get_or c j 0) (get_or c (suc i) 0))) (one_down i) (f (suc i) (omega arith) h));
    }
