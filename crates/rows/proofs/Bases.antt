-- Sums over bases: in two parts, of what is the same at each base, and of the same number at each base.
use mathlib.Core.Path.{◌≡◌, refl, sym, ap, ap₂, ◌∙◌}
use Prim.Native.Nat.{ℕ, zero, suc, ◌+◌, ◌-◌, ◌≤◌, ◌<◌}
use native.Mathlib.Nat.{add-suc, add-zero, add_assoc}
use native.Mathlib.Omega.{arith}
use lib.IntN.{ℤ, pos, ◌+ℤ◌, ◌*ℤ◌, *ℤ-zero, +ℤ_idr, +ℤ_assoc}
use Rattle.whole.proofs.Order.{*ℤ_suc}
use Rattle.gaze.specs.SegmentScore.{sum_over}

sum_split : (f : ℕ → ℤ) (a n m : ℕ) → sum_over f a (n + m) ≡ sum_over f a n +ℤ sum_over f (a + n) m
unfolding sum_over
sum_split f a n zero = ap (sum_over f a) (add-zero n) ∙ sym (+ℤ_idr (sum_over f a n))
sum_split f a n (suc m) =
    ap (sum_over f a) (add-suc n m)
    ∙ (ap₂ ◌+ℤ◌ (sum_split f a n m) (ap f (sym (add_assoc a n m)))
    ∙ +ℤ_assoc (sum_over f a n) (sum_over f (a + n) m) (f (a + n + m)))

-- from a to c is from a to b and from b to c
pub sum_joined : (f : ℕ → ℤ) (a b c : ℕ) → a ≤ b → b ≤ c → sum_over f a (c - a) ≡ sum_over f a (b - a) +ℤ sum_over f b (c - b)
sum_joined f a b c h k =
    let n : c - a ≡ (b - a) + (c - b) = omega arith in
    let e : a + (b - a) ≡ b = omega arith in
    ap (sum_over f a) n ∙ (sum_split f a (b - a) (c - b) ∙ ap (λ (x : ℕ). sum_over f a (b - a) +ℤ sum_over f x (c - b)) e)

-- of two functions that are the same at each base
pub sum_same : (f g : ℕ → ℤ) (a n : ℕ) → ((x : ℕ) → a ≤ x → x < a + n → f x ≡ g x) → sum_over f a n ≡ sum_over g a n
unfolding sum_over
sum_same f g a zero h = refl
sum_same f g a (suc n) h = ap₂ ◌+ℤ◌ (sum_same f g a n (λ x l u. h x l (omega arith))) (h (a + n) (omega arith) (omega arith))

-- of one number, which stands at each base
pub sum_flat : (f : ℕ → ℤ) (a n : ℕ) (z : ℤ) → ((y : ℕ) → a ≤ y → y < a + n → f y ≡ z) → sum_over f a n ≡ z *ℤ pos n
unfolding sum_over
sum_flat f a zero z h = sym (*ℤ-zero z)
sum_flat f a (suc n) z h =
    ap₂ ◌+ℤ◌ (sum_flat f a n z (λ y l m. h y l (omega arith))) (h (a + n) (omega arith) (omega arith)) ∙ sym (*ℤ_suc z n)
