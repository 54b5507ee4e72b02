-- A pair of types as one number, 32 × source + target, which is that of no other pair.
use mathlib.Core.Path.{◌≡◌, refl, sym}
use mathlib.Core.Logic.{inl, inr}
use mathlib.Core.Bool.{Bool, true, false, ◌&&◌, true≢false}
use Prim.Native.Nat.{ℕ, ◌+◌, ◌*◌, ◌≤◌}
use native.Mathlib.Omega.{arith}
use borrow.Author.Tests.{eq-eqb, ne_eqb, eqb-true}
use lib.Dec.{eqb}
use Rattle.gaze.specs.Ranges.{SourceType}

pub source_small : (x : ℕ) → SourceType x → x ≤ 31
source_small x (inl e) = omega arith
source_small x (inr w) = w.1

both_same : (x y : Bool) (n m : ℕ) → (x ≡ true → y ≡ true → n ≡ m) → (n ≡ m → (x ≡ true) × (y ≡ true)) → x && y ≡ eqb n m
both_same true true n m f g = sym (eq-eqb n m (f refl refl))
both_same true false n m f g = sym (ne_eqb n m (λ e. true≢false (sym (g e).1)))
both_same false y n m f g = sym (ne_eqb n m (λ e. true≢false (sym (g e).0)))

-- the test by types is one by the pair's number
pub by_pair : (a b source target : ℕ) → b ≤ 31 → target ≤ 31 → eqb source a && eqb target b ≡ eqb (32 * source + target) (32 * a + b)
by_pair a b source target h k =
    both_same (eqb source a) (eqb target b) (32 * source + target) (32 * a + b)
    (λ e f. let h = eqb-true source a e in let k = eqb-true target b f in omega arith)
    (λ e. (eq-eqb source a (omega arith), eq-eqb target b (omega arith)))
