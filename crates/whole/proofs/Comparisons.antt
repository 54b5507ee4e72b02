-- Tests of the order, and the larger of two.
use mathlib.Core.Path.{◌≡◌, refl}
use mathlib.Core.Bool.{Bool, true, false, cond}
use Prim.Native.Nat.{zero-le}
use borrow.Author.Tests.{le-leb}
use lib.Dec.{T}
use lib.IntN.{ℤ, pos, negsuc}
use lib.Signed.{le_z, lt_z, ◌≤ℤ◌, lt_z_no}
use Rattle.whole.specs.Whole.{larger_of}
use Rattle.whole.proofs.Order.{≤ℤ_trans, ≤ℤ_antisymm}

-- ---- tests
le_test : {x y : ℤ} → le_z x y ≡ true → x ≤ℤ y
le_test h = record { le = rw h tt }

pub test_true : (b : Bool) → T b → b ≡ true
test_true true h = refl
test_true false h = absurd h

pub le_through : (x y z : ℤ) → le_z x y ≡ true → le_z y z ≡ true → le_z x z ≡ true
le_through x y z h k = test_true (le_z x z) (≤ℤ_trans {a = x} {b = y} {c = z} (le_test h) (le_test k)).le

pub not_below : (x y : ℤ) → lt_z x y ≡ false → le_z y x ≡ true
not_below x y h = test_true (le_z y x) (lt_z_no {a = x} {b = y} (rw h tt)).le

-- ---- the larger of two
-- a number not above it does not change it
pub larger_kept : (value z : ℤ) → le_z z value ≡ true → value ≡ larger_of value z
larger_kept value z h = go (le_z value z) refl
  where
    go : (b : Bool) → le_z value z ≡ b → value ≡ cond (le_z value z) z value
    go true e = rw e (≤ℤ_antisymm (le_test e) (le_test h))
    go false e = rw e refl

-- where 0 has entered, it is not below 0, and stays so
pub larger_above : (value z : ℤ) → le_z (pos 0) value ≡ true → le_z (pos 0) (larger_of value z) ≡ true
larger_above value z h = go (le_z value z) refl
  where
    go : (b : Bool) → le_z value z ≡ b → le_z (pos 0) (cond b z value) ≡ true
    go true e = le_through (pos 0) value z h e
    go false e = h

pub larger_of_zero : (value : ℤ) → le_z (pos 0) (larger_of value (pos 0)) ≡ true
larger_of_zero (pos n) = larger_above (pos n) (pos 0) (le-leb 0 n zero-le)
larger_of_zero (negsuc n) = refl

-- a second 0 changes nothing
pub larger_again : (v : ℤ) → larger_of (larger_of v (pos 0)) (pos 0) ≡ larger_of v (pos 0)
larger_again v = go (le_z v (pos 0)) refl
  where
    go : (b : Bool) → le_z v (pos 0) ≡ b → larger_of (cond b (pos 0) v) (pos 0) ≡ cond b (pos 0) v
    go true e = refl
    go false e = rw e refl
