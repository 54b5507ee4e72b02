-- `omega` reads no ℤ, but a whole number is the difference of two natural ones, z = up z - dn z. Each law below is linear over ℕ with
-- no side condition; handed these, `omega` does sums, differences, order and equality of whole numbers.
use mathlib.Core.Path.{◌≡◌, refl, ap}
use mathlib.Core.Bool.{Bool, true, false, not, cond}
use Prim.Native.Nat.{ℕ, zero, suc, ◌+◌, ◌-◌, ◌≤◌, ◌<◌}
use native.Mathlib.Omega.{arith}
use lib.Dec.{T, ltb, ltb→lt, nltb→le, lt→ltb, le→leb, leb→le}
use lib.IntN.{ℤ, pos, negsuc, neg_ℤ, nat_abs, sub_ℕ, ◌+ℤ◌, ◌-ℤ◌}
use lib.Signed.{◌≤ℤ◌, ◌<ℤ◌}

abbrev pub up : ℤ → ℕ
up (pos n) = n
up (negsuc n) = 0

abbrev pub dn : ℤ → ℕ
dn (pos n) = 0
dn (negsuc n) = suc n

-- ---- sums and differences
pub by_cases : (c : Bool) (x y : ℤ) (P : ℤ → Type 0) → (T c → P x) → (T (not c) → P y) → P (cond c x y)
by_cases true x y P f g = f tt
by_cases false x y P f g = g tt

sub_law : (a b : ℕ) → up (sub_ℕ a b) + b ≡ a + dn (sub_ℕ a b)
sub_law a b =
    by_cases (ltb a b) (negsuc (b - suc a)) (pos (a - b)) (λ z. up z + b ≡ a + dn z)
    (λ t. let h = ltb→lt a b t in omega arith)
    (λ t. let h = nltb→le a b t in omega arith)

pub sum_law : (x y : ℤ) → up (x +ℤ y) + (dn x + dn y) ≡ up x + up y + dn (x +ℤ y)
sum_law (pos a) (pos b) = omega arith
sum_law (pos a) (negsuc b) = omega (arith, sub_law a (suc b))
sum_law (negsuc a) (pos b) = omega (arith, sub_law b (suc a))
sum_law (negsuc a) (negsuc b) = omega arith

pub neg_law : (x : ℤ) → (up (neg_ℤ x) ≡ dn x) × (dn (neg_ℤ x) ≡ up x)
neg_law (pos zero) = (refl, refl)
neg_law (pos (suc n)) = (refl, refl)
neg_law (negsuc n) = (refl, refl)

pub dif_law : (x y : ℤ) → up (x -ℤ y) + (dn x + up y) ≡ up x + dn y + dn (x -ℤ y)
dif_law x y = omega (arith, sum_law x (neg_ℤ y), neg_law y)

-- ---- order: `-law` reads a fact of ℤ, `-of` makes one
pub le_law : (x y : ℤ) → x ≤ℤ y → up x + dn y ≤ up y + dn x
le_law (pos a) (pos b) h = let k = leb→le a b h.le in omega arith
le_law (pos a) (negsuc b) h = absurd h.le
le_law (negsuc a) (pos b) h = omega arith
le_law (negsuc a) (negsuc b) h = let k = leb→le b a h.le in omega arith

pub le_of : (x y : ℤ) → up x + dn y ≤ up y + dn x → x ≤ℤ y
le_of (pos a) (pos b) h = record { le = le→leb a b (omega arith) }
le_of (pos a) (negsuc b) h = absurd (never a b h)
  where
    never : (a b : ℕ) → a + suc b ≤ 0 + 0 → ⊥
    never a b h = omega arith
le_of (negsuc a) (pos b) h = record { le = tt }
le_of (negsuc a) (negsuc b) h = record { le = le→leb b a (omega arith) }

pub lt_law : (x y : ℤ) → x <ℤ y → up x + dn y < up y + dn x
lt_law (pos a) (pos b) h = let k = ltb→lt a b h.lt in omega arith
lt_law (pos a) (negsuc b) h = absurd h.lt
lt_law (negsuc a) (pos b) h = omega arith
lt_law (negsuc a) (negsuc b) h = let k = ltb→lt b a h.lt in omega arith

pub lt_of : (x y : ℤ) → up x + dn y < up y + dn x → x <ℤ y
lt_of (pos a) (pos b) h = record { lt = lt→ltb a b (omega arith) }
lt_of (pos a) (negsuc b) h = absurd (never a b h)
  where
    never : (a b : ℕ) → a + suc b < 0 + 0 → ⊥
    never a b h = omega arith
lt_of (negsuc a) (pos b) h = record { lt = tt }
lt_of (negsuc a) (negsuc b) h = record { lt = lt→ltb b a (omega arith) }

-- ---- equality: an equation is read by `ap up` and `ap dn`
pub eq_of : (x y : ℤ) → up x + dn y ≡ up y + dn x → x ≡ y
eq_of (pos a) (pos b) h = ap pos (omega arith)
eq_of (pos a) (negsuc b) h = absurd (never a b h)
  where
    never : (a b : ℕ) → a + suc b ≡ 0 + 0 → ⊥
    never a b h = omega arith
eq_of (negsuc a) (pos b) h = absurd (never a b h)
  where
    never : (a b : ℕ) → 0 + 0 ≡ b + suc a → ⊥
    never a b h = omega arith
eq_of (negsuc a) (negsuc b) h = ap negsuc (omega arith)

-- ---- size
pub abs_law : (z : ℤ) → nat_abs z ≡ up z + dn z
abs_law (pos n) = omega arith
abs_law (negsuc n) = omega arith

pub abs_of : (z : ℤ) (b : ℕ) → up z ≤ b + dn z → dn z ≤ b + up z → nat_abs z ≤ b
abs_of (pos n) b h k = omega arith
abs_of (negsuc n) b h k = omega arith
