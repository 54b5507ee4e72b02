-- How large a sum, a difference, a product or the larger of two can be.
use mathlib.Core.Path.{◌≡◌, refl}
use mathlib.Core.Bool.{Bool, true, false, cond}
use Prim.Native.Nat.{ℕ, zero, suc, ◌+◌, ◌*◌, ◌≤◌}
use native.Mathlib.Omega.{arith}
use native.Mathlib.Nat.{mul-le-mul}
use lib.IntN.{ℤ, pos, negsuc, neg_ℤ, nat_abs, ◌+ℤ◌, ◌-ℤ◌, ◌*ℤ◌}
use lib.Signed.{mag, le_z}
use Rattle.whole.specs.Whole.{larger_of}
use Rattle.whole.proofs.Linear.{sum_law, dif_law, abs_law, abs_of}

pub abs_sum : (x y : ℤ) → nat_abs (x +ℤ y) ≤ nat_abs x + nat_abs y
abs_sum x y =
    abs_of (x +ℤ y) (nat_abs x + nat_abs y) (omega (arith, sum_law x y, abs_law x, abs_law y)) (omega (arith, sum_law x y, abs_law x, abs_law y))

pub abs_dif : (x y : ℤ) → nat_abs (x -ℤ y) ≤ nat_abs x + nat_abs y
abs_dif x y =
    abs_of (x -ℤ y) (nat_abs x + nat_abs y) (omega (arith, dif_law x y, abs_law x, abs_law y)) (omega (arith, dif_law x y, abs_law x, abs_law y))

abs_neg : (n : ℕ) → nat_abs (neg_ℤ (pos n)) ≡ n
abs_neg zero = refl
abs_neg (suc n) = refl

pub abs_mul : (x : ℤ) (k : ℕ) → nat_abs (x *ℤ pos k) ≡ nat_abs x * k
abs_mul (pos a) k = refl
abs_mul (negsuc a) k = abs_neg (suc a * k)

pub abs_mul_le : (x : ℤ) (k b d : ℕ) → nat_abs x ≤ b → k ≤ d → nat_abs (x *ℤ pos k) ≤ b * d
abs_mul_le x k b d h l = omega (arith, abs_mul x k, mul-le-mul h l)

pub abs_larger : (x y : ℤ) (b : ℕ) → nat_abs x ≤ b → nat_abs y ≤ b → nat_abs (larger_of x y) ≤ b
abs_larger x y b h k = go (le_z x y)
  where
    go : (c : Bool) → nat_abs (cond c y x) ≤ b
    go true = k
    go false = h

pub mag_le : (z : ℤ) → mag z ≤ nat_abs z
mag_le (pos n) = omega arith
mag_le (negsuc n) = omega arith
