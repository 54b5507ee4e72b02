-- The quotient rounded towards minus infinity: its size, its value where the division comes out even, and what a part of a number can be.
use mathlib.Core.Path.{◌≡◌, refl, ap, ◌∙◌}
use mathlib.Core.Bool.{true}
use Prim.Native.Nat.{ℕ, zero, suc, ◌+◌, ◌-◌, ◌*◌, ◌/◌, ◌≤◌, ◌<◌}
use native.Mathlib.Nat.{div-le_self, div-le_of_le-mul, mul_comm, div-lt_iff_lt-mul, zero-div, mul-div_cancel, div-eq_of_lt-le, suc-mul, mul-le-mul_right}
use native.Mathlib.Numerals.{add-one}
use native.Mathlib.Omega.{arith}
use borrow.Author.Tests.{le-leb}
use lib.Dec.{leb}
use lib.IntN.{ℤ, pos, negsuc, neg_ℤ, nat_abs, ◌*ℤ◌, *ℤ-zero}
use lib.Signed.{le_z}
use Rattle.whole.specs.Whole.{floor_of}
use Rattle.whole.proofs.Comparisons.{le_through}

pub abs_floor : (z : ℤ) (m : ℕ) → nat_abs (floor_of z m) ≤ nat_abs z
abs_floor (pos a) m = div-le_self a m
abs_floor (negsuc a) m = let h = div-le_self a m in omega arith

pub abs_floor_le : (z : ℤ) (m b : ℕ) → 0 < m → nat_abs z ≤ b * m → nat_abs (floor_of z m) ≤ b
abs_floor_le (pos a) m b h l = div-le_of_le-mul m (rw (mul_comm m b) l)
abs_floor_le (negsuc a) m b h l = (div-lt_iff_lt-mul h).1 l

-- ---- even divisions
pub floor_none : (z : ℤ) (m : ℕ) → floor_of (z *ℤ pos 0) m ≡ pos 0
floor_none z m = rw (*ℤ-zero z) (ap pos (zero-div m))

negative_even : (a n : ℕ) → 0 < n → floor_of (neg_ℤ (pos (suc a * n))) n ≡ negsuc a
negative_even a n h =
    let e : suc a * n ≡ suc (a * n + (n - 1)) = suc-mul a n ∙ omega arith in
    rw e (ap negsuc (div-eq_of_lt-le n (omega arith) (omega (arith, suc-mul a n, ap (λ (k : ℕ). k * n) (add-one a)))))

pub floor_cancel : (z : ℤ) (n : ℕ) → 0 < n → floor_of (z *ℤ pos n) n ≡ z
floor_cancel (pos a) n h = ap pos (mul-div_cancel a h)
floor_cancel (negsuc a) n h = negative_even a n h

-- ---- a part of z, o of n, is above neither z nor 0
floor_low : (k n : ℕ) → le_z (floor_of (neg_ℤ (pos k)) n) (pos 0) ≡ true
floor_low zero n = ap (λ (m : ℕ). leb m 0) (zero-div n)
floor_low (suc k) n = refl

pub floor_share : (z value : ℤ) (o n : ℕ) → o ≤ n → le_z (pos 0) value ≡ true → le_z z value ≡ true → le_z (floor_of (z *ℤ pos o) n) value ≡ true
floor_share (pos a) value o n h k l = le_through (pos (a * o / n)) (pos a) value (le-leb (a * o / n) a (div-le_of_le-mul n (low a o n h))) l
  where
    low : (a o n : ℕ) → o ≤ n → a * o ≤ n * a
    low a o n h = omega (arith, mul-le-mul_right a h, mul_comm a o)
floor_share (negsuc a) value o n h k l = le_through (floor_of (neg_ℤ (pos (suc a * o))) n) (pos 0) value (floor_low (suc a * o) n) k
