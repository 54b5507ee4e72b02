-- The sum of a list that grows at the end.
use mathlib.Core.Path.{◌≡◌, sym, ap, ◌∙◌}
use mathlib.Core.List.{List, [], ◌∷◌, ◌++◌}
use lib.IntN.{ℤ, ◌+ℤ◌, +ℤ_idl, +ℤ_idr, +ℤ_assoc}
use Rattle.whole.specs.Whole.{sum_of}

pub sum_snoc : (l : List ℤ) (z : ℤ) → sum_of (l ++ (z ∷ [])) ≡ sum_of l +ℤ z
sum_snoc [] z = +ℤ_idr z ∙ sym (+ℤ_idl z)
sum_snoc (y ∷ l) z = ap (λ (x : ℤ). y +ℤ x) (sum_snoc l z) ∙ sym (+ℤ_assoc y (sum_of l) z)
