-- A line that is not in disorder after the one before it stands after it by their keys.
use Rattle.std.proofs.Common.{Bool, true, false, List, [], ◌∷◌, ◌≡◌, refl, ℕ, ◌<◌, arith, length, None, inl, inr, eqb-true, ltb-true}
use Rattle.std.specs.Prelude.{cond, eqb, ltb, ◌⊎◌}
use Rattle.std.specs.Cmp.Lexicographic.{slice_cmp}
use Rattle.std.specs.Ordering.{nat_cmp, ordering_then}
use Rattle.std.specs.declared.cmp.Ordering.{Ordering}
use Rattle.std.specs.declared.cmp.Ordering.TheVariants.{Less, Equal, Greater}
use Rattle.gaze.specs.Ranges.{Before}
use Rattle.kinds.specs.Order.{order, disorder}

before_of : (x y : List ℕ) → length x ≡ length y → order x y ≡ Less → Before x y
unfolding order
before_of [] [] n e = cc
before_of [] (b ∷ y) n e = let z : ⊥ = omega arith in absurd z
before_of (a ∷ x) [] n e = let z : ⊥ = omega arith in absurd z
before_of (a ∷ x) (b ∷ y) n e = go (ltb a b) refl (eqb a b) refl (before_of x y (omega arith)) e
  where
    go : (p : Bool) → ltb a b ≡ p → (q : Bool) → eqb a b ≡ q → (slice_cmp nat_cmp x y ≡ Less → Before x y)
        → ordering_then (cond p Less (cond q Equal Greater)) (slice_cmp nat_cmp x y) ≡ Less → (a < b) ⊎ ((a ≡ b) × Before x y)
    go true p q r others e = inl (ltb-true a b p)
    go false p true q others e = inr (eqb-true a b q, others e)
    go false p false q others e = cc

in_order : (o : Ordering) → disorder o ≡ None → o ≡ Less
in_order Less e = refl
in_order Equal e = cc
in_order Greater e = cc

pub stands_before : (x y : List ℕ) → length x ≡ length y → disorder (order x y) ≡ None → Before x y
stands_before x y n e = before_of x y n (in_order (order x y) e)
