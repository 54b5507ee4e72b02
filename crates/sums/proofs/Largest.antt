-- The largest rate at a base does not depend on the order of the segments, and once 0 has entered it another 0 does not change it. So it is the join of what
-- the parts of the list give, where a list with nothing in it gives none.
use Rattle.std.proofs.Common.{◌≡◌, refl, sym, ap, ◌∙◌, arith}
use Rattle.std.proofs.lemmas.Int.{ints}
use mathlib.Core.List.{map, foldl}
use Rattle.std.specs.Prelude.{List, [], ◌∷◌, ◌++◌, ℕ, ℤ, pos, Option, Some, None}
use Rattle.whole.specs.Whole.{larger_of}
use Rattle.gaze.specs.declared.Segment.{Segment}
use Rattle.gaze.specs.SegmentScore.{largest, rate_at, largest_rate}
use Rattle.rows.proofs.Plateaus.{largest_rate_of}

larger_swap : (a b : ℤ) → larger_of a b ≡ larger_of b a
larger_swap a b = grind (arith, ints)

larger_regroup : (a b c : ℤ) → larger_of (larger_of a b) c ≡ larger_of a (larger_of b c)
larger_regroup a b c = grind (arith, ints)

-- the larger of two numbers that may be missing
abbrev pub join : Option ℤ → Option ℤ → Option ℤ
join None b = b
join (Some a) None = Some a
join (Some a) (Some b) = Some (larger_of a b)

abbrev pub value : Option ℤ → ℤ
value None = pos 0
value (Some z) = z

abbrev pub top : ℕ → List Segment → Option ℤ
top x [] = None
top x (g ∷ l) = join (Some (rate_at x g)) (top x l)

pub join_swap : (a b : Option ℤ) → join a b ≡ join b a
join_swap None None = refl
join_swap None (Some b) = refl
join_swap (Some a) None = refl
join_swap (Some a) (Some b) = ap Some (larger_swap a b)

pub join_regroup : (a b c : Option ℤ) → join (join a b) c ≡ join a (join b c)
join_regroup None b c = refl
join_regroup (Some a) None c = refl
join_regroup (Some a) (Some b) None = refl
join_regroup (Some a) (Some b) (Some c) = ap Some (larger_regroup a b c)

pub top_joined : (x : ℕ) (l m : List Segment) → top x (l ++ m) ≡ join (top x l) (top x m)
top_joined x [] m = refl
top_joined x (g ∷ l) m = ap (join (Some (rate_at x g))) (top_joined x l m) ∙ sym (join_regroup (Some (rate_at x g)) (top x l) (top x m))

-- ---- the largest rate is the top
folded : (x : ℕ) (z : ℤ) (l : List Segment) → foldl larger_of z (map (rate_at x) l) ≡ value (join (Some z) (top x l))
folded x z [] = refl
folded x z (g ∷ l) = folded x (larger_of z (rate_at x g)) l ∙ ap value (join_regroup (Some z) (Some (rate_at x g)) (top x l))

of_all : (x : ℕ) (l : List Segment) → largest (map (rate_at x) l) ≡ value (top x l)
of_all x [] = refl
of_all x (g ∷ l) = folded x (rate_at x g) l

pub largest_is : (l : List Segment) (x : ℕ) → largest_rate l x ≡ value (top x l)
largest_is l x = largest_rate_of l x ∙ of_all x l
