-- The segment score of one Q line for the region from the position s of a source to the position t of a target. Nothing here says how it
-- is computed fast.
use Rattle.std.specs.Prelude.{Bool, true, cond, ◌&&◌, ◌||◌, ℕ, zero, suc, ◌+◌, ◌-◌, ◌%◌, min, max, leb, eqb, ℤ, pos, negsuc, ◌+ℤ◌, ◌-ℤ◌, ◌*ℤ◌}
use mathlib.Core.List.{List, [], ◌∷◌, map, foldl}
use Rattle.whole.specs.Whole.{floor_of, larger_of}
use Rattle.gaze.specs.declared.Qualifier.{Qualifier}
use Rattle.gaze.specs.declared.Segment.{Segment}
use Rattle.gaze.specs.Lists.{keep}

-- ---- S: all segments on the sheet of the line's type that meet its phase and match
-- A number reduced to 0, 1 or 2, also where it is negative.
abbrev pub reduced : ℤ → ℕ
reduced (pos n) = n % 3
reduced (negsuc n) = 2 - n % 3

-- Phase 3 takes all; otherwise t - start, reduced, equals the phase.
abbrev pub meets_phase : ℕ → ℕ → Segment → Bool
meets_phase phase t g = eqb phase 3 || eqb (reduced (pos t -ℤ pos g.start)) phase

-- Match 1 and 3 ask that the segment starts at s, match 2 and 3 that it ends at t, match 0 neither.
abbrev pub meets_match : ℕ → ℕ → ℕ → Segment → Bool
meets_match matching s t g =
    (eqb matching 0 || eqb matching 2 || eqb g.start s) && (eqb matching 0 || eqb matching 1 || eqb g.end t)

abbrev pub asked : Qualifier → ℕ → ℕ → Segment → Bool
asked q s t g = eqb g.kind q.kind && (meets_phase q.phase t g && meets_match q.matching s t g)

abbrev pub chosen : Qualifier → ℕ → ℕ → List Segment → List Segment
chosen q s t segments = keep (asked q s t) segments

-- ---- a region from a to b, both ends included, and a segment
abbrev pub size : Segment → ℕ
size g = g.end + 1 - g.start

-- How many bases of the segment lie in the region.
abbrev pub overlap : ℕ → ℕ → Segment → ℕ
overlap a b g = min b g.end + 1 - max a g.start

-- Which of S enter the maximum over a region; over the base x the region is from x to x. All do: one that does not touch enters with 0.
abbrev pub enters : ℕ → ℕ → Segment → Bool
enters a b g = true

-- The largest of some numbers; of none, 0.
abbrev pub largest : List ℤ → ℤ
largest [] = pos 0
largest (z ∷ l) = foldl larger_of z l

-- ---- method 1: the largest share
-- The part of the score that the overlap is worth: 0 where they do not touch.
abbrev pub share : ℕ → ℕ → Segment → ℤ
share a b g = floor_of (g.score *ℤ pos (overlap a b g)) (size g)

abbrev pub largest_share : ℕ → ℕ → List Segment → ℤ
largest_share a b segments = largest (map (share a b) (keep (enters a b) segments))

-- ---- method 2: base by base, the largest rate
-- In millionths per base.
abbrev pub rate : Segment → ℤ
rate g = floor_of (g.score *ℤ pos 1000) (size g)

abbrev pub holds : ℕ → Segment → Bool
holds x g = leb g.start x && leb x g.end

-- What a segment gives at the base x: its rate where it holds x, else 0.
abbrev pub rate_at : ℕ → Segment → ℤ
rate_at x g = cond (holds x g) (rate g) (pos 0)

abbrev pub largest_rate : List Segment → ℕ → ℤ
largest_rate segments x = largest (map (rate_at x) (keep (enters x x) segments))

-- f a + f (a + 1) + .., n numbers.
unfoldable pub sum_over : (ℕ → ℤ) → ℕ → ℕ → ℤ
sum_over f a zero = pos 0
sum_over f a (suc n) = sum_over f a n +ℤ f (a + n)

abbrev pub summed_rates : ℕ → ℕ → List Segment → ℤ
summed_rates a b segments = floor_of (sum_over (largest_rate segments) a (b + 1 - a)) 1000

-- ---- by the line's method
abbrev pub segment_score : Qualifier → ℕ → ℕ → List Segment → ℤ
segment_score q s t segments =
    cond (eqb q.method 1) (largest_share s t (chosen q s t segments)) (summed_rates s t (chosen q s t segments))
