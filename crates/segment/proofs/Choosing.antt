-- What is kept of the first entries of a list, as one more is looked at.
use mathlib.Core.Path.{◌≡◌, ap, ◌∙◌}
use mathlib.Core.Bool.{Bool, true, false}
use mathlib.Core.List.{List, [], ◌∷◌, ◌++◌}
use Prim.Native.Nat.{ℕ, ◌+◌, ◌≤◌, ◌<◌}
use native.Mathlib.Omega.{arith}
use lib.ListN.{length, get_or, take}
use Rattle.std.proofs.lemmas.List.{take_more, length-take}
use Rattle.gaze.specs.Lists.{keep}
use Rattle.gaze.proofs.ListLaws.{keep_in, keep_out, keep_length}

module _ {A : Type 0} (test : A → Bool) (l : List A) (i : ℕ) where
  pub kept_few : length (keep test (take i l)) ≤ i
  kept_few = omega (arith, keep_length test (take i l), length-take i l)

  module _ (d : A) (h : i < length l) where
    pub kept_more : test (get_or l i d) ≡ true → keep test (take (i + 1) l) ≡ keep test (take i l) ++ (get_or l i d ∷ [])
    kept_more passes = ap (keep test) (take_more l i d h) ∙ keep_in test (take i l) (get_or l i d) passes

    pub kept_same : test (get_or l i d) ≡ false → keep test (take (i + 1) l) ≡ keep test (take i l)
    kept_same fails = ap (keep test) (take_more l i d h) ∙ keep_out test (take i l) (get_or l i d) fails
