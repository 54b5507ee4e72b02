-- What the outcome of a test says, and the two ways in which numbers can stand.
use mathlib.Core.Path.{◌≡◌, refl, sym}
use mathlib.Core.Logic.{◌⊎◌, inl, inr, ⊎_elim}
use mathlib.Core.Bool.{Bool, true, false, not, ◌&&◌, true≢false}
use Prim.Native.Nat.{ℕ, zero, suc, ◌≤◌, ◌<◌, zero-le}
use native.Mathlib.Omega.{arith}
use borrow.Author.Tests.{eq-eqb, ne_eqb, eqb-true, eqb-false}
use lib.Dec.{T, eqb}

pub bool_cases : (b : Bool) → T b ⊎ T (not b)
bool_cases true = inl tt
bool_cases false = inr tt

pub both : (a b : Bool) → T (a && b) → T a × T b
both true b h = (tt, h)
both false b h = absurd h

pub not_both : (a b : Bool) → T (not (a && b)) → T a → T (not b)
not_both true b h y = h
not_both false b h y = absurd y

pub both_true : (a b : Bool) → a && b ≡ true → (a ≡ true) × (b ≡ true)
both_true true b h = (refl, h)
both_true false b h = absurd (true≢false (sym h))

-- two tests of equality that hold together
pub same_test : (a b c d : ℕ) → (a ≡ b → c ≡ d) → (c ≡ d → a ≡ b) → eqb a b ≡ eqb c d
same_test a b c d f g = go (eqb a b) refl
  where
    go : (x : Bool) → eqb a b ≡ x → x ≡ eqb c d
    go true e = sym (eq-eqb c d (f (eqb-true a b e)))
    go false e = sym (ne_eqb c d (λ h. eqb-false a b e (g h)))

pub none_below : {n : ℕ} → n < 0 → ⊥
none_below h = omega arith

pub at_or_below : (i s : ℕ) → (i ≤ s) ⊎ (s < i)
at_or_below zero s = inl zero-le
at_or_below (suc i) zero = inr (omega arith)
at_or_below (suc i) (suc s) = ⊎_elim (λ h. inl (omega arith)) (λ h. inr (omega arith)) (at_or_below i s)
