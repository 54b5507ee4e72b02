-- The dynamic programme as a function, and what it finds: the best chain, or that there is none.
use mathlib.Core.Path.{◌≡◌, refl, sym, ap, ◌∙◌}
use mathlib.Core.Bool.{Bool, true, false, not, ◌&&◌}
use Rattle.std.specs.Prelude.{Option, None, Some}
use mathlib.Core.List.{List, [], ◌∷◌, ◌++◌, reverse}
use Prim.Native.Nat.{ℕ, zero, suc, ◌+◌, ◌<◌, zero-le}
use native.Mathlib.Omega.{arith}
use lib.Dec.{T, T_not}
use lib.IntN.{ℤ, pos, ◌+ℤ◌}
use lib.ListN.{length, get_or, length-append, get_or-append}
use lib.Seq.{get_or_at}
use lib.Signed.{lt_z, lt_z_yes, lt_z_no}
use Rattle.gaze.specs.Chain.{Steps, Valid, Best, Assembled}
use Rattle.gaze.proofs.Tests.{both, not_both}
use Rattle.gaze.proofs.Picked.{Picked, pick_none, pick_skip, pick_keep, pick_take}
use Rattle.gaze.proofs.Table.{Table, Filled, Agree, filled_more, filled_best, filled_none, trace_back}

pub record Cell : Type 0 where
  pub reach : Bool
  pub value : ℤ
  pub from : ℕ

abbrev pub unreached : Cell
unreached = record { reach = false; value = pos 0; from = 0 }

abbrev pub at_zero : Cell
at_zero = record { reach = true; value = pos 0; from = 0 }

abbrev pub table : List Cell → Table
table cs =
    record {
      reach = λ s. (get_or cs s unreached).reach;
      value = λ s. (get_or cs s unreached).value;
      from = λ s. (get_or cs s unreached).from;
    }

-- Source s is looked at for the target e, where c is the choice among the earlier ones: it takes c's place unless it is no
-- source of e or gives less.
unfoldable pub consider : Steps → Table → ℕ → ℕ → Cell → Cell
consider m t e s c =
    elim (m.legal s e && t.reach s) [
      | true ↦ let v = t.value s +ℤ m.gain s e in elim (c.reach && lt_z v c.value) [ true ↦ c | false ↦ record { reach = true; value = v; from = s } ]
      | false ↦ c
    ]

-- The choice among the sources below i.
unfoldable pub choose : Steps → Table → ℕ → ℕ → Cell
choose m t e zero = unreached
choose m t e (suc i) = consider m t e i (choose m t e i)

-- The entries 0 to e.
unfoldable pub fill : Steps → ℕ → List Cell
fill m zero = at_zero ∷ []
fill m (suc e) = let cs = fill m e in cs ++ (choose m (table cs) (suc e) (suc e) ∷ [])

abbrev PickedCell : Steps → Table → ℕ → ℕ → Cell → Type 0
PickedCell m t e i c = Picked m t.reach t.value e 0 i c.reach c.value c.from

module _ (m : Steps) (t : Table) (e : ℕ) where
  consider_picked : (i : ℕ) (c : Cell) → PickedCell m t e i c → PickedCell m t e (suc i) (consider m t e i c)
  unfolding consider
  consider_picked i c p =
      go (m.legal i e && t.reach i) (both (m.legal i e) (t.reach i)) (not_both (m.legal i e) (t.reach i))
      (c.reach && less) (both c.reach less) (not_both c.reach less)
    where
      offer : ℤ
      offer = t.value i +ℤ m.gain i e

      less : Bool
      less = lt_z (t.value i +ℤ m.gain i e) c.value

      go : (b : Bool) → (T b → T (m.legal i e) × T (t.reach i)) → (T (not b) → T (m.legal i e) → T (not (t.reach i)))
          → (d : Bool) → (T d → T c.reach × T less) → (T (not d) → T c.reach → T (not less))
          → PickedCell m t e (suc i) (elim b [
            | true ↦ elim d [ true ↦ c | false ↦ record { reach = true; value = offer; from = i } ]
            | false ↦ c
          ])
      go true f g true f' g' = pick_keep m t.reach t.value e p (f' tt).0 (lt_z_yes (f' tt).1)
      go true f g false f' g' =
          pick_take m t.reach t.value e p zero-le (λ y. lt_z_no (g' tt y)) (f tt).0 (f tt).1
      go false f g d f' g' = pick_skip m t.reach t.value e p (λ x y. T_not (t.reach i) (g tt x) y)

  choose_picked : (i : ℕ) → PickedCell m t e i (choose m t e i)
  unfolding choose
  choose_picked zero = pick_none m t.reach t.value e 0 (pos 0) 0
  choose_picked (suc i) = consider_picked i (choose m t e i) (choose_picked i)

fill_length : (m : Steps) (e : ℕ) → length (fill m e) ≡ suc e
unfolding fill
fill_length m zero = refl
fill_length m (suc e) = length-append (fill m e) _ ∙ go (fill_length m e)
  where
    go : {n : ℕ} → n ≡ suc e → n + 1 ≡ suc (suc e)
    go h = omega arith

grow : (cs : List Cell) (c : Cell) (k : ℕ) → length cs ≡ k → Agree (table cs) (table (cs ++ (c ∷ []))) k
grow cs c k h =
    record {
      reach = λ s lt. ap (λ (c : Cell). c.reach) (same s lt);
      value = λ s lt. ap (λ (c : Cell). c.value) (same s lt);
      from = λ s lt. ap (λ (c : Cell). c.from) (same s lt);
    }
  where
    same : (s : ℕ) → s < k → get_or cs s unreached ≡ get_or (cs ++ (c ∷ [])) s unreached
    same s lt = sym (get_or-append cs (c ∷ []) unreached s (rw h lt))

pub fill_filled : (m : Steps) (e : ℕ) → Filled m (table (fill m e)) (suc e)
unfolding fill
fill_filled m zero =
    record { start = tt; zero_value = refl; cells = λ e up lt. absurd (go up lt) }
  where
    go : {x : ℕ} → 0 < x → x < 1 → ⊥
    go h k = omega arith
fill_filled m (suc e) =
    let cs = fill m e in
    let c = choose m (table cs) (suc e) (suc e) in
    filled_more m (table cs) (table (cs ++ (c ∷ []))) (suc e) (grow cs c (suc e) (fill_length m e)) (omega arith) (fill_filled m e)
    (rw (get_or_at cs c [] unreached (suc e) (fill_length m e)) (choose_picked m (table cs) (suc e) (suc e)))

-- The programme's answer: is END reached, and by which chain.
unfoldable pub reached : Steps → ℕ → Bool
reached m e = (table (fill m e)).reach e

unfoldable pub answer : Steps → ℕ → List ℕ
answer m e = reverse (trace_back (table (fill m e)).from e e)

module _ (m : Steps) (e : ℕ) where
  pub answer_best : T (reached m e) → Best m e (answer m e)
  unfolding reached answer
  answer_best y = filled_best m (table (fill m e)) (suc e) (fill_filled m e) e (omega arith) y

  pub answer_none : T (not (reached m e)) → (c : List ℕ) → Valid m e c → ⊥
  unfolding reached
  answer_none n c v = filled_none m (table (fill m e)) (suc e) (fill_filled m e) e (omega arith) n c v

  -- so there is always an answer
  pub assembled : (a : Option (List ℕ)) × Assembled m e a
  assembled = go (reached m e) answer_best answer_none
    where
      go : (b : Bool) → (T b → Best m e (answer m e)) → (T (not b) → (c : List ℕ) → Valid m e c → ⊥) → (a : Option (List ℕ)) × Assembled m e a
      go true f g = (Some (answer m e), f tt)
      go false f g = (None, g tt)
