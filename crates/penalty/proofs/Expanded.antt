-- A table that holds a function's values, shown by one test that is computed over the whole of it.
use mathlib.Core.Path.{◌≡◌, ap, ◌∙◌}
use mathlib.Core.Bool.{Bool, true, false, ◌&&◌}
use mathlib.Core.List.{List, [], ◌∷◌}
use Prim.Native.Nat.{ℕ, zero, suc, ◌+◌, ◌<◌}
use native.Mathlib.Omega.{arith}
use lib.Dec.{T, eqb, eqb→eq}
use lib.IntN.{ℤ, pos, negsuc}
use lib.ListN.{length, get_or}
use Rattle.gaze.proofs.Tests.{both}

abbrev pub same : ℤ → ℤ → Bool
same (pos a) (pos b) = eqb a b
same (pos a) (negsuc b) = false
same (negsuc a) (pos b) = false
same (negsuc a) (negsuc b) = eqb a b

same_eq : (x y : ℤ) → T (same x y) → x ≡ y
same_eq (pos a) (pos b) t = ap pos (eqb→eq a b t)
same_eq (pos a) (negsuc b) t = absurd t
same_eq (negsuc a) (pos b) t = absurd t
same_eq (negsuc a) (negsuc b) t = ap negsuc (eqb→eq a b t)

-- The entries are f i, f (i + 1), ..
abbrev pub holds_from : (ℕ → ℤ) → ℕ → List ℤ → Bool
holds_from f i [] = true
holds_from f i (z ∷ l) = same z (f i) && holds_from f (suc i) l

from : (f : ℕ → ℤ) (l : List ℤ) (i : ℕ) → T (holds_from f i l) → (k : ℕ) → k < length l → get_or l k (pos 0) ≡ f (i + k)
from f [] i t k h = absurd (none h)
  where
    none : {k : ℕ} → k < 0 → ⊥
    none h = omega arith
from f (z ∷ l) i t zero h = same_eq z (f i) (both (same z (f i)) (holds_from f (suc i) l) t).0 ∙ ap f (here i)
  where
    here : (i : ℕ) → i ≡ i + 0
    here i = omega arith
from f (z ∷ l) i t (suc k) h = from f l (suc i) (both (same z (f i)) (holds_from f (suc i) l) t).1 k (omega arith) ∙ ap f (next i k)
  where
    next : (i k : ℕ) → suc i + k ≡ i + suc k
    next i k = omega arith

pub expanded : (f : ℕ → ℤ) (l : List ℤ) → T (holds_from f 0 l) → (k : ℕ) → k < length l → get_or l k (pos 0) ≡ f k
expanded f l t k h = from f l 0 t k h ∙ ap f (start k)
  where
    start : (k : ℕ) → 0 + k ≡ k
    start k = omega arith
