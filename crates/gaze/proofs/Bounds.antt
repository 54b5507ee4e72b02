-- Every gain of a sheet whose fields are in range is at most 2^50 in size, so the gains of the 1,025 steps that a chain can have add up
-- within 64 bits. The bounds leave room: they hold too where a penalty goes on rising beyond its last point, and whoever enters a maximum.
use mathlib.Core.Path.{◌≡◌, refl, sym, subst}
use mathlib.Core.Logic.{inl, inr}
use mathlib.Core.Bool.{Bool, true, false, cond}
use Rattle.std.specs.Prelude.{Option, None, Some}
use mathlib.Core.List.{List, [], ◌∷◌, map, foldl}
use Prim.Native.Nat.{ℕ, zero, suc, ◌+◌, ◌-◌, ◌*◌, ◌^◌, ◌≤◌, min, max}
use native.Mathlib.Nat.{mul-le-mul_right, suc-mul}
use native.Mathlib.Omega.{arith}
use lib.Dec.{T, leb, eqb, eqb→eq}
use lib.IntN.{ℤ, pos, nat_abs, ◌-ℤ◌, ◌*ℤ◌}
use lib.ListN.{length}
use Rattle.whole.specs.Whole.{floor_of, larger_of, sum_of}
use Rattle.whole.proofs.Size.{abs_sum, abs_dif, abs_mul_le, abs_larger}
use Rattle.whole.proofs.Quotients.{abs_floor, abs_floor_le}
use Rattle.gaze.specs.declared.Point.{Point}
use Rattle.gaze.specs.declared.Rule.{Rule}
use Rattle.gaze.specs.declared.Qualifier.{Qualifier}
use Rattle.gaze.specs.declared.Feature.{Feature}
use Rattle.gaze.specs.declared.Segment.{Segment}
use Rattle.gaze.specs.Lists.{Each, keep}
use Rattle.gaze.specs.Sheet.{Sheet, candidate}
use Rattle.gaze.specs.Penalty.{on_line, beyond, past, interpolated, intron_points, intron_penalty, points_of, penalty}
use Rattle.gaze.specs.SegmentScore.{chosen, overlap, size, enters, largest, share, largest_share, rate, holds, rate_at, largest_rate, sum_over, summed_rates, segment_score}
use Rattle.gaze.specs.Step.{distance, rule_of, of_pair, region_score, gained, by_rule, gain}
use Rattle.gaze.specs.Ranges.{Thousandths, PointRanges, QualifierRanges, SegmentRanges, Before, InOrder, qualifier_keys, InRange}
use Rattle.gaze.proofs.ListLaws.{each_map, each_mapped, each_kept}
use Rattle.gaze.proofs.OrderLaws.{order_rest, order_head}
use Rattle.gaze.proofs.Tests.{both}
use Rattle.gaze.proofs.Candidates.{Placed, placed}

by_test : (b : Bool) (x y : ℤ) (n : ℕ) → nat_abs x ≤ n → nat_abs y ≤ n → nat_abs (cond b x y) ≤ n
by_test true x y n h k = h
by_test false x y n h k = k

-- ---- penalties: 10,000,000 at a point, and a line that may rise by 20,000,000 for each base of 4,000,000
abbrev PenaltySize : ℤ → Type 0
PenaltySize z = nat_abs z ≤ 80000010000000

abbrev Costs : Point → Type 0
Costs p = Thousandths p.penalty

on_line_size : (p q : Point) (d : ℕ) → Costs p → Costs q → d ≤ 4000000 → PenaltySize (on_line p q d)
on_line_size p q d h k l =
    omega (
      arith,
      abs_sum p.penalty (floor_of ((q.penalty -ℤ p.penalty) *ℤ pos (d - p.distance)) (q.distance - p.distance)),
      abs_floor ((q.penalty -ℤ p.penalty) *ℤ pos (d - p.distance)) (q.distance - p.distance),
      abs_mul_le (q.penalty -ℤ p.penalty) (d - p.distance) 20000000 4000000 (omega (arith, abs_dif q.penalty p.penalty)) (omega arith),
    )

beyond_size : (p q : Point) (d : ℕ) → Costs p → Costs q → d ≤ 4000000 → PenaltySize (beyond p q d)
beyond_size p q d h k l = omega arith

past_size : (p q : Point) (l : List Point) (d : ℕ) → Costs p → Costs q → Each Costs l → d ≤ 4000000 → PenaltySize (past p q l d)
unfolding past Each
past_size p q [] d h k e b =
    by_test (leb d q.distance) (on_line p q d) (beyond p q d) 80000010000000 (on_line_size p q d h k b) (beyond_size p q d h k b)
past_size p q (r ∷ l) d h k e b =
    by_test (leb d q.distance) (on_line p q d) (past q r l d) 80000010000000 (on_line_size p q d h k b) (past_size q r l d k e.0 e.1 b)

interpolated_size : (l : List Point) (d : ℕ) → Each Costs l → d ≤ 4000000 → PenaltySize (interpolated l d)
unfolding interpolated Each
interpolated_size [] d e b = omega arith
interpolated_size (p ∷ []) d e b = let h = e.0 in omega arith
interpolated_size (p ∷ q ∷ l) d e b =
    let h = e.0 in
    by_test (leb d p.distance) p.penalty (past p q l d) 80000010000000 (omega arith) (past_size p q l d h e.1.0 e.1.1 b)

intron_size : (d : ℕ) → d ≤ 4000000 → PenaltySize (intron_penalty d)
unfolding intron_penalty Each
intron_size d b =
    interpolated_size intron_points (min d 1023) (omega arith, (omega arith, (omega arith, (omega arith, (omega arith, tt))))) (omega arith)

pub penalty_size : (points : List Point) (function d : ℕ) → Each PointRanges points → d ≤ 4000000 → PenaltySize (penalty points function d)
unfolding penalty
penalty_size points function d e b =
    by_test (eqb function 0) (pos 0) (cond (eqb function 17) (intron_penalty d) (interpolated (points_of points function) d)) 80000010000000
    (omega arith)
    (by_test (eqb function 17) (intron_penalty d) (interpolated (points_of points function) d) 80000010000000
    (intron_size d b)
    (interpolated_size (points_of points function) d
    (each_kept Costs (λ p. eqb p.function function) points (each_map PointRanges Costs points (λ p r. r.penalty) e))
    b))

-- ---- segment scores: 10,000,000 for each base of 4,000,000
abbrev SegmentsSize : ℤ → Type 0
SegmentsSize z = nat_abs z ≤ 40000000000000

abbrev pub Short : Segment → Type 0
Short g = SegmentRanges 4000000 g

larger_size : (n : ℕ) (z : ℤ) (l : List ℤ) → nat_abs z ≤ n → Each (λ y. nat_abs y ≤ n) l → nat_abs (foldl larger_of z l) ≤ n
unfolding Each
larger_size n z [] h e = h
larger_size n z (y ∷ l) h e = larger_size n (larger_of z y) l (abs_larger z y n h e.0) e.1

pub largest_size : (n : ℕ) (l : List ℤ) → Each (λ y. nat_abs y ≤ n) l → nat_abs (largest l) ≤ n
unfolding Each
largest_size n [] e = omega arith
largest_size n (z ∷ l) e = larger_size n z l e.0 e.1

share_size : (a b : ℕ) (g : Segment) → Short g → SegmentsSize (share a b g)
share_size a b g r =
    let s = r.start in
    let e = r.end in
    omega (
      arith,
      abs_floor (g.score *ℤ pos (overlap a b g)) (size g),
      abs_mul_le g.score (overlap a b g) 10000000 4000000 r.score (bases g.start g.end s.0 e.1),
    )
  where
    bases : (s e : ℕ) → 1 ≤ s → e ≤ 4000000 → min b e + 1 - max a s ≤ 4000000
    bases s e h k = omega arith

shares_size : (a b : ℕ) (l : List Segment) → Each Short l → SegmentsSize (largest_share a b l)
shares_size a b l e =
    largest_size 40000000000000 (map (share a b) (keep (enters a b) l))
    (each_mapped Short SegmentsSize (share a b) (keep (enters a b) l) (share_size a b) (each_kept Short (enters a b) l e))

pub rate_size : (x : ℕ) (g : Segment) → Thousandths g.score → nat_abs (rate_at x g) ≤ 10000000000
rate_size x g r =
    by_test (holds x g) (rate g) (pos 0) 10000000000
    (omega (arith, abs_floor (g.score *ℤ pos 1000) (size g), abs_mul_le g.score 1000 10000000 1000 r (omega arith)))
    (omega arith)

largest_rate_size : (l : List Segment) (x : ℕ) → Each Short l → nat_abs (largest_rate l x) ≤ 10000000000
largest_rate_size l x e =
    largest_size 10000000000 (map (rate_at x) (keep (enters x x) l))
    (each_mapped Short (λ z. nat_abs z ≤ 10000000000) (rate_at x) (keep (enters x x) l) (λ g r. rate_size x g r.score) (each_kept Short (enters x x) l e))

pub sum_over_size : (f : ℕ → ℤ) (a n b : ℕ) → ((x : ℕ) → nat_abs (f x) ≤ b) → nat_abs (sum_over f a n) ≤ n * b
unfolding sum_over
sum_over_size f a zero b h = omega arith
sum_over_size f a (suc n) b h =
    omega (arith, sum_over_size f a n b h, h (a + n), abs_sum (sum_over f a n) (f (a + n)), suc-mul n b)

rates_size : (a b : ℕ) (l : List Segment) → 1 ≤ a → b ≤ 4000000 → Each Short l → SegmentsSize (summed_rates a b l)
rates_size a b l h k e =
    let n : b + 1 - a ≤ 4000000 = omega arith in
    abs_floor_le (sum_over (largest_rate l) a (b + 1 - a)) 1000 40000000000000 (omega arith)
    (omega (
      arith,
      sum_over_size (largest_rate l) a (b + 1 - a) 10000000000 (λ x. largest_rate_size l x e),
      mul-le-mul_right 10000000000 n,
    ))

pub segment_score_size : (q : Qualifier) (s t : ℕ) (l : List Segment) → 1 ≤ s → t ≤ 4000000 → Each Short l → SegmentsSize (segment_score q s t l)
segment_score_size q s t l h k e =
    let c : Each Short (chosen q s t l) = each_kept Short _ l e in
    by_test (eqb q.method 1) (largest_share s t (chosen q s t l)) (summed_rates s t (chosen q s t l)) 40000000000000
    (shares_size s t (chosen q s t l) c) (rates_size s t (chosen q s t l) h k c)

-- ---- a rule has at most 16 Q lines: they stand in strict order by type, and there are 16 types
module _ (s t : Feature) where
  -- a line before another of the same pair has a smaller type
  type_rises : (q r : Qualifier) → T (of_pair s t q) → T (of_pair s t r) → Before (qualifier_keys q) (qualifier_keys r) → suc q.kind ≤ r.kind
  type_rises q r h k b =
      let hq = both (eqb q.source s.kind) (eqb q.target t.kind) h in
      let hr = both (eqb r.source s.kind) (eqb r.target t.kind) k in
      go
      (eqb→eq q.source s.kind hq.0) (eqb→eq r.source s.kind hr.0)
      (eqb→eq q.target t.kind hq.1) (eqb→eq r.target t.kind hr.1) b
    where
      go : q.source ≡ s.kind → r.source ≡ s.kind → q.target ≡ t.kind → r.target ≡ t.kind
          → Before (qualifier_keys q) (qualifier_keys r) → suc q.kind ≤ r.kind
      go a b c d (inl h) = omega arith
      go a b c d (inr (e, inl h)) = omega arith
      go a b c d (inr (e, inr (f, inl h))) = h
      go a b c d (inr (e, inr (f, inr (g, h)))) = absurd h

  -- n is no larger than the type of any line of the pair
  abbrev From : ℕ → Qualifier → Type 0
  From n q = T (of_pair s t q) → n ≤ q.kind

  few_left : (n : ℕ) (l : List Qualifier) → n ≤ 16 → Each QualifierRanges l → InOrder qualifier_keys l → Each (From n) l
      → length (keep (of_pair s t) l) + n ≤ 16
  unfolding Each keep
  few_left n [] h e o f = omega arith
  few_left n (q ∷ l) h e o f =
      go (of_pair s t q) refl
      (few_left n l h e.1 (order_rest qualifier_keys q l o) f.1)
      (λ y. few_left (suc q.kind) l (let k = e.0.kind in omega arith) e.1 (order_rest qualifier_keys q l o)
      (each_map (λ r. Before (qualifier_keys q) (qualifier_keys r)) (From (suc q.kind)) l (λ r b z. type_rises q r y z b) (order_head qualifier_keys q l o)))
    where
      go : (b : Bool) → of_pair s t q ≡ b → length (keep (of_pair s t) l) + n ≤ 16 → (T (of_pair s t q) → length (keep (of_pair s t) l) + suc q.kind ≤ 16)
          → length (cond b (q ∷ keep (of_pair s t) l) (keep (of_pair s t) l)) + n ≤ 16
      go true is skip take =
          let y : T (of_pair s t q) = subst T (sym is) tt in
          let k = take y in
          let m = f.0 y in
          omega arith
      go false is skip take = skip

  few_qualifiers : (l : List Qualifier) → Each QualifierRanges l → InOrder qualifier_keys l → length (keep (of_pair s t) l) ≤ 16
  few_qualifiers l e o =
      let k = few_left 0 l (omega arith) e o (each_map QualifierRanges (From 0) l (λ q r y. omega arith) e) in
      omega arith

sum_size : (n : ℕ) (f : Qualifier → ℤ) (l : List Qualifier) → ((q : Qualifier) → nat_abs (f q) ≤ n) → nat_abs (sum_of (map f l)) ≤ length l * n
sum_size n f [] h = omega arith
sum_size n f (q ∷ l) h =
    omega (arith, sum_size n f l h, h q, abs_sum (f q) (sum_of (map f l)), suc-mul (length l) n)

-- ---- the gain
module _ (sheet : Sheet) (r : InRange sheet) where
  pub short : Each Short sheet.segments
  short = each_map (SegmentRanges sheet.sequence_length) Short sheet.segments within r.segments.each
    where
      within : (g : Segment) → SegmentRanges sheet.sequence_length g → Short g
      within g q =
          let h = r.sequence_length in
          let s = q.start in
          let e = q.end in
          record { kind = q.kind; start = (s.0, omega arith); end = (e.0, omega arith); score = q.score }

  pub region_size : (s t : Feature) → Placed s → Placed t → nat_abs (region_score sheet.qualifiers sheet.segments s t) ≤ 640000000000000
  region_size s t h k =
      let a = h.position in
      let b = k.position in
      omega (
        arith,
        sum_size 40000000000000 (λ q. segment_score q s.position t.position sheet.segments) (keep (of_pair s t) sheet.qualifiers)
            (λ q. segment_score_size q s.position t.position sheet.segments a.0 b.1 short),
        mul-le-mul_right 40000000000000 (few_qualifiers s t sheet.qualifiers r.qualifiers.each r.qualifiers.ordered),
      )

  gained_size : (rule : Rule) (s t : Feature) → Placed s → Placed t → nat_abs (gained sheet rule s t) ≤ 2 ^ 50
  gained_size rule s t h k =
      let b = k.position in
      omega (
        arith,
        abs_sum (region_score sheet.qualifiers sheet.segments s t -ℤ penalty sheet.points rule.function (distance s t)) t.score,
        abs_dif (region_score sheet.qualifiers sheet.segments s t) (penalty sheet.points rule.function (distance s t)),
        region_size s t h k,
        penalty_size sheet.points rule.function (distance s t) r.points.each (omega arith),
        k.score,
      )

  pub gain_size : (a b : ℕ) → nat_abs (gain sheet a b) ≤ 2 ^ 50
  unfolding gain
  gain_size a b = go (rule_of sheet.rules (candidate sheet a) (candidate sheet b))
    where
      go : (o : Option Rule) → nat_abs (by_rule o (λ rule. gained sheet rule (candidate sheet a) (candidate sheet b)) (pos 0)) ≤ 2 ^ 50
      go None = omega arith
      go (Some rule) = gained_size rule (candidate sheet a) (candidate sheet b) (placed sheet r a) (placed sheet r b)
