-- From whole numbers to the machine's 64 bits and back.
use mathlib.Core.Path.{◌≡◌}
use Prim.Native.Nat.{ℕ, ◌<◌, ◌≤◌, ◌^◌}
use native.Mathlib.Omega.{arith}
use lib.IntN.{ℤ, nat_abs}
use lib.Signed.{mag}
use mir.Syntax.{w64}
use mir.Val.{SFits, of_z, to_z}
use mir.Facts.{to_z-of_z}
use Rattle.whole.proofs.Size.{mag_le}

-- a number of at most b, less than 2^63, fits
pub small_fits : (z : ℤ) (b : ℕ) → nat_abs z ≤ b → b < 2 ^ 63 → SFits w64 z
small_fits z b h l = record { sfits = omega (arith, mag_le z) }

-- a call's result, read back from its bits: `back c.f.result c.f.ok`
pub back : (z : ℤ) → mag z < 2 ^ 63 → to_z w64 (of_z w64 z) ≡ z
back z h = to_z-of_z {w = w64} (record { sfits = h })

pub small_back : (z : ℤ) (b : ℕ) → nat_abs z ≤ b → b < 2 ^ 63 → to_z w64 (of_z w64 z) ≡ z
small_back z b h l = to_z-of_z (small_fits z b h l)
