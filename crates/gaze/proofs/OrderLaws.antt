-- The order of a group's lines: by keys it is transitive, so a line stands before every later one.
use mathlib.Core.Path.{◌∙◌}
use mathlib.Core.Logic.{inl, inr}
use mathlib.Core.List.{List, [], ◌∷◌}
use Prim.Native.Nat.{ℕ}
use native.Mathlib.Omega.{arith}
use Rattle.gaze.specs.Lists.{Each, Adjacent}
use Rattle.gaze.specs.Ranges.{Before, InOrder}
use Rattle.gaze.proofs.ListLaws.{each_map}

pub before_trans : (x y z : List ℕ) → Before x y → Before y z → Before x z
before_trans [] y z p q = absurd p
before_trans (a ∷ x) [] z p q = absurd p
before_trans (a ∷ x) (b ∷ y) [] p q = absurd q
before_trans (a ∷ x) (b ∷ y) (c ∷ z) (inl h) (inl k) = inl (omega arith)
before_trans (a ∷ x) (b ∷ y) (c ∷ z) (inl h) (inr k) = inl (let e = k.0 in omega arith)
before_trans (a ∷ x) (b ∷ y) (c ∷ z) (inr h) (inl k) = inl (let e = h.0 in omega arith)
before_trans (a ∷ x) (b ∷ y) (c ∷ z) (inr h) (inr k) = inr (h.0 ∙ k.0, before_trans x y z h.1 k.1)

module _ {A : Type 0} (keys : A → List ℕ) where
  pub order_rest : (a : A) (l : List A) → InOrder keys (a ∷ l) → InOrder keys l
  unfolding Adjacent
  order_rest a [] p = tt
  order_rest a (b ∷ l) p = p.1

  pub order_head : (a : A) (l : List A) → InOrder keys (a ∷ l) → Each (λ b. Before (keys a) (keys b)) l
  unfolding Adjacent Each
  order_head a [] p = tt
  order_head a (b ∷ l) p =
      (p.0, each_map (λ c. Before (keys b) (keys c)) (λ c. Before (keys a) (keys c)) l (λ c h. before_trans (keys a) (keys b) (keys c) p.0 h) (order_head b l p.1))
