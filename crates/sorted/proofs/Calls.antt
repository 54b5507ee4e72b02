-- What `array::from_fn` gives where no call changes the closure: what each call answers stands at its number.
use Rattle.std.proofs.Common.{◌≡◌, ℕ, ◌+◌, ◌<◌, ◌≤◌, zero, suc, List, get_or, refl, subst, sym, arith, ⊎_elim}
use Rattle.std.specs.Fn.{Mut, Called}
use Rattle.std.specs.Array.{IsFromFnResult, IsFromFnResultFrom}
use native.Mathlib.Nat.{eq-or-lt_of_le}

module _ {F B : Type 0} (g : Mut F (ℕ × Unit {0}) B) (P : ℕ → B → Type 0) (f : F) (ys : List B)
    (answer : (x : ℕ) (y : B) (f' : F) → Called g f (x, tt) y f' → P x y × (f' ≡ f)) where
  from : (i n : ℕ) (f' : F) → f' ≡ f → IsFromFnResultFrom g f' ys i n → (x : ℕ) → i ≤ x → x < i + n → (d : B) → P x (get_or ys x d)
  from i zero f' same made x le lt d = absurd (omega arith)
  from i (suc n) f' same made x le lt d =
      ⊎_elim
      (λ here. subst (λ j. P j (get_or ys j d)) here (subst (P i) (sym (made.2.1 d)) one.0))
      (λ later. from (i + 1) n made.0 one.1 made.4 x (omega arith) (omega arith) d)
      (eq-or-lt_of_le le)
    where
      one : P i made.1 × (made.0 ≡ f)
      one = answer i made.1 made.0 (subst (λ q. Called g q (i, tt) made.1 made.0) same made.3)

  pub at_each : (n : ℕ) → IsFromFnResult g f ys n → (x : ℕ) → x < n → (d : B) → P x (get_or ys x d)
  at_each n made x lt d = from 0 n f refl made.each x (omega arith) (omega arith) d
