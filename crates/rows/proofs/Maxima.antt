-- The maximum over the rows that were looked at, and when one more row does not change it.
use mathlib.Core.Path.{◌≡◌, refl, sym, ap, ◌∙◌}
use mathlib.Core.Bool.{Bool, true, false, ◌||◌}
use mathlib.Core.List.{List, [], ◌∷◌, ◌++◌, map, map-append, foldl-append}
use Rattle.std.specs.Prelude.{Option, None, Some, unwrap_or}
use Rattle.std.proofs.Common.{ℕ, ◌+◌, ◌<◌, length, take, get_or}
use Rattle.std.proofs.lemmas.List.{take_more}
use lib.IntN.{ℤ, pos}
use lib.Signed.{le_z, lt_z}
use Rattle.whole.specs.Whole.{larger_of}
use Rattle.whole.proofs.Comparisons.{larger_kept, not_below}
use Rattle.gaze.specs.declared.Segment.{Segment}
use Rattle.gaze.specs.Lists.{keep}
use Rattle.gaze.specs.SegmentScore.{enters, largest}
use Rattle.gaze.proofs.ListLaws.{keep_all}
use Rattle.rows.specs.Maximum.{larger_with, can_win}

-- the maximum of some numbers; there is none of none
abbrev maximum : List ℤ → Option ℤ
maximum [] = None
maximum (z ∷ l) = Some (largest (z ∷ l))

maximum_more : (l : List ℤ) (z : ℤ) → maximum (l ++ (z ∷ [])) ≡ Some (larger_with (maximum l) z)
maximum_more [] z = refl
maximum_more (y ∷ l) z = ap Some (foldl-append larger_of y l (z ∷ []))

maximum_is : (l : List ℤ) → unwrap_or (maximum l) (pos 0) ≡ largest l
maximum_is [] = refl
maximum_is (z ∷ l) = refl

-- a number that is above neither the score nor 0 changes no maximum that the score cannot change
abbrev pub Beaten : ℤ → ℤ → Type 0
Beaten z score = (value : ℤ) → le_z (pos 0) value ≡ true → le_z score value ≡ true → le_z z value ≡ true

beaten_keeps : (o : Option ℤ) (z score : ℤ) → Beaten z score → can_win o score ≡ false → Some (larger_with o z) ≡ o
beaten_keeps None z score h n = cc
beaten_keeps (Some value) z score h n = go (lt_z value (pos 0)) (lt_z value score) refl refl n
  where
    go : (a b : Bool) → lt_z value (pos 0) ≡ a → lt_z value score ≡ b → (a || b) ≡ false → Some (larger_of value z) ≡ Some value
    go false false e f n = ap Some (sym (larger_kept value z (h value (not_below value (pos 0) e) (not_below value score f))))
    go false true e f n = cc
    go true b e f n = cc

-- ---- the maximum of what each segment of a list gives
module _ (v : Segment → ℤ) where
  abbrev pub maximum_of : List Segment → Option ℤ
  maximum_of l = maximum (map v l)

  -- with one segment more
  module _ (l : List Segment) (i : ℕ) (g : Segment) (h : i < length l) (is : g ≡ get_or l i g) where
    pub one_more : maximum_of (take (i + 1) l) ≡ Some (larger_with (maximum_of (take i l)) (v g))
    one_more =
        rw (take_more l i g h, ← is, map-append v (take i l) (g ∷ [])) (maximum_more (map v (take i l)) (v g))

    pub no_more : (score : ℤ) → Beaten (v g) score → can_win (maximum_of (take i l)) score ≡ false → maximum_of (take (i + 1) l) ≡ maximum_of (take i l)
    no_more score b n = one_more ∙ beaten_keeps (maximum_of (take i l)) (v g) score b n

  -- of all, as the definition says it
  pub largest_is : (a b : ℕ) (l : List Segment) → unwrap_or (maximum_of l) (pos 0) ≡ largest (map v (keep (enters a b) l))
  largest_is a b l = rw (keep_all (enters a b) l (λ g. refl)) (maximum_is (map v l))
