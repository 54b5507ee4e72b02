-- The order of ℤ, what the library leaves out, and how sums go with it: each law by the linear ones.
use mathlib.Core.Path.{◌≡◌, ap, ◌∙◌}
use Prim.Native.Nat.{ℕ, suc}
use native.Mathlib.Omega.{arith}
use lib.IntN.{ℤ, pos, ◌+ℤ◌, ◌-ℤ◌, ◌*ℤ◌, +ℤ_comm, +ℤ-neg_ℤ_cancel, *ℤ_comm, suc_ℤ-*ℤ}
use lib.Signed.{◌≤ℤ◌, ◌<ℤ◌}
use Rattle.whole.proofs.Linear.{up, dn, sum_law, le_law, le_of, lt_law, lt_of, eq_of}

pub ≤ℤ_antisymm : {a b : ℤ} → a ≤ℤ b → b ≤ℤ a → a ≡ b
≤ℤ_antisymm {a} {b} h k = eq_of a b (omega (arith, le_law a b h, le_law b a k))

pub ≤ℤ_trans : {a b c : ℤ} → a ≤ℤ b → b ≤ℤ c → a ≤ℤ c
≤ℤ_trans {a} {b} {c} h k = le_of a c (omega (arith, le_law a b h, le_law b c k))

pub ≤ℤ_<ℤ_trans : {a b c : ℤ} → a ≤ℤ b → b <ℤ c → a <ℤ c
≤ℤ_<ℤ_trans {a} {b} {c} h k = lt_of a c (omega (arith, le_law a b h, lt_law b c k))

pub <ℤ_le : {a b : ℤ} → a <ℤ b → a ≤ℤ b
<ℤ_le {a} {b} h = le_of a b (omega (arith, lt_law a b h))

pub <ℤ_ne : {a b : ℤ} → a <ℤ b → a ≡ b → ⊥
<ℤ_ne {a} {b} h e = omega (arith, lt_law a b h, ap up e, ap dn e)

-- ---- sums
pub ≤ℤ_more : (a : ℤ) (k : ℕ) → a ≤ℤ (a +ℤ pos k)
≤ℤ_more a k = le_of a (a +ℤ pos k) (omega (arith, sum_law a (pos k)))

pub +ℤ_mono_l : {a b : ℤ} (c : ℤ) → a ≤ℤ b → (a +ℤ c) ≤ℤ (b +ℤ c)
+ℤ_mono_l {a} {b} c h = le_of (a +ℤ c) (b +ℤ c) (omega (arith, sum_law a c, sum_law b c, le_law a b h))

pub +ℤ_cancel_r : {a b : ℤ} (c : ℤ) → a +ℤ c ≡ b +ℤ c → a ≡ b
+ℤ_cancel_r {a} {b} c e = eq_of a b (omega (arith, sum_law a c, sum_law b c, ap up e, ap dn e))

pub +ℤ_drop_first : (x y : ℤ) → (x +ℤ y) -ℤ x ≡ y
+ℤ_drop_first x y = ap (λ (z : ℤ). z -ℤ x) (+ℤ_comm x y) ∙ +ℤ-neg_ℤ_cancel y x

-- once more of z
pub *ℤ_suc : (z : ℤ) (n : ℕ) → z *ℤ pos (suc n) ≡ z *ℤ pos n +ℤ z
*ℤ_suc z n = *ℤ_comm z (pos (suc n)) ∙ (suc_ℤ-*ℤ (pos n) z ∙ ap (λ (y : ℤ). y +ℤ z) (*ℤ_comm (pos n) z))
