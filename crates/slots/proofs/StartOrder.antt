-- Segments in the order of their starts: so stand those of a sheet, and those that start at a position stand together.
use mathlib.Core.Path.{◌≡◌, refl, sym, ap, ◌∙◌}
use mathlib.Core.Logic.{inl, inr, ⊎_elim}
use mathlib.Core.Bool.{Bool, true, false}
use mathlib.Core.List.{List, [], ◌∷◌}
use Prim.Native.Nat.{ℕ, zero, suc, ◌+◌, ◌≤◌, ◌<◌}
use native.Mathlib.Nat.{eq-or-lt_of_le}
use native.Mathlib.Omega.{arith}
use lib.Dec.{ltb}
use lib.IntN.{pos}
use lib.ListN.{length, get_or, take, drop}
use Rattle.std.specs.Prelude.{Option, Some, None, MatchOption}
use Rattle.std.specs.Option.{unwrap_or}
use Rattle.std.specs.List.{AllWithin, HoldsAt}
use Rattle.std.specs.List.Sorted.{IsNonDecreasingBy, IsPartitionPoint}
use Rattle.std.proofs.lemmas.List.{get_or-drop, get_or-map, length-drop, length-map}
use Rattle.std.proofs.lemmas.Bool.Decides.{leb_tells, eqb_tells}
use Rattle.gaze.specs.declared.Segment.{Segment}
use Rattle.gaze.specs.Lists.{keep}
use Rattle.gaze.specs.Ranges.{Before, InOrder, segment_keys}
use Rattle.gaze.proofs.Tests.{none_below}
use Rattle.gaze.proofs.ListLaws.{adjacent_all}
use Rattle.gaze.proofs.OrderLaws.{before_trans}
use Rattle.slots.specs.Held.{starts_of}
use Rattle.slots.specs.Slots.{starts_at, Rising}

-- ---- the segments of a sheet
no_later : (a b : Segment) → Before (segment_keys a) (segment_keys b) → a.start ≤ b.start
no_later a b (inl p) = omega arith
no_later a b (inr p) = let e = p.0 in omega arith

pub in_order_rising : (l : List Segment) → InOrder segment_keys l → Rising l
in_order_rising l o i j d h k = ⊎_elim same later (eq-or-lt_of_le h)
  where
    same : i ≡ j → (get_or l i d).start ≤ (get_or l j d).start
    same e = rw e (omega arith)

    later : i < j → (get_or l i d).start ≤ (get_or l j d).start
    later lt =
        no_later (get_or l i d) (get_or l j d)
        (adjacent_all (λ a b. Before (segment_keys a) (segment_keys b)) (λ a b c. before_trans (segment_keys a) (segment_keys b) (segment_keys c)) d l o i j lt k)

-- ---- a list of which the first n fail, and one of which the first n pass and no others
keep_from : (test : Segment → Bool) (n : ℕ) (l : List Segment) → AllWithin (λ g. test g ≡ false) l 0 n → keep test l ≡ keep test (drop n l)
unfolding keep
keep_from test zero l fails = refl
keep_from test (suc n) [] fails = refl
keep_from test (suc n) (g ∷ l) fails =
    rw (fails 0 g (omega arith) (omega arith)) (keep_from test n l (λ i d h k. fails (suc i) d (omega arith) (omega arith)))

keep_front : (test : Segment → Bool) (n : ℕ) (l : List Segment) → AllWithin (λ g. test g ≡ true) l 0 n → AllWithin (λ g. test g ≡ false) l n (length l)
    → keep test l ≡ take n l
unfolding keep
keep_front test zero [] passes fails = refl
keep_front test (suc n) [] passes fails = refl
keep_front test zero (g ∷ l) passes fails =
    rw (fails 0 g (omega arith) (omega arith)) (keep_front test zero l (λ i d h k. absurd (none_below k)) (λ i d h k. fails (suc i) d (omega arith) (omega arith)))
keep_front test (suc n) (g ∷ l) passes fails =
    rw (passes 0 g (omega arith) (omega arith))
    (ap (λ (m : List Segment). g ∷ m)
    (keep_front test n l (λ i d h k. passes (suc i) d (omega arith) (omega arith)) (λ i d h k. fails (suc i) d (omega arith) (omega arith))))

-- ---- the starts beside the segments
pub blank : Segment
blank = record { kind = 0; start = 0; end = 0; score = pos 0 }

pub rising_starts : (l : List Segment) → Rising l → IsNonDecreasingBy (λ x. x) (starts_of l)
rising_starts l rising i j x h k =
    let within : j < length l = omega (arith, k, length-map l (λ g. g.start)) in
    rw (get_or-map (λ g. g.start) l i blank x (omega arith), get_or-map (λ g. g.start) l j blank x within) (rising i j blank h within)

pub first_of_starts : (s : ℕ) (l : List Segment) (first : ℕ) → first ≤ length l
    → IsPartitionPoint (λ x. ltb x s ≡ true) (λ x. ltb x s ≡ false) (starts_of l) first
    → IsPartitionPoint (λ g. ltb g.start s ≡ true) (λ g. ltb g.start s ≡ false) l first
first_of_starts s l first within p = (
  λ i d h k. rw (← start_at i d (omega arith)) (p.0 i d.start h k),
  λ i d h k. rw (← start_at i d k) (p.1 i d.start h (omega (arith, length-map l (λ g. g.start)))),
)
  where
    start_at : (i : ℕ) (d : Segment) → i < length l → get_or (starts_of l) i d.start ≡ (get_or l i d).start
    start_at i d k = get_or-map (λ g. g.start) l i d d.start k

pub starting_later : (s : ℕ) (l : List Segment) (first : ℕ) → AllWithin (λ g. ltb g.start s ≡ true) l 0 first
    → keep (starts_at s) (drop first l) ≡ keep (starts_at s) l
starting_later s l first earlier = sym (keep_from (starts_at s) first l (λ i d h k. grind (arith, leb_tells, eqb_tells, earlier i d h k)))

-- ---- the first that does not start before s, and of those from it on the first that starts behind s
-- behind it all do
pub record Behind (s : ℕ) (l : List Segment) (count : ℕ) : Type 0 where
  pub within : count ≤ length l
  pub by_source : AllWithin (λ g. g.start ≤ s) l 0 count
  pub behind : AllWithin (λ g. s < g.start) l count (length l)

pub all_behind : (s : ℕ) (l : List Segment) (r : Option ℕ) → Rising l
    → MatchOption r (AllWithin (λ g. g.start ≤ s) l 0 (length l)) (λ i. (i < length l) × HoldsAt (λ g. s < g.start) l i × AllWithin (λ g. g.start ≤ s) l 0 i)
    → Behind s l (unwrap_or r (length l))
all_behind s l None rising m =
    record { within = omega arith; by_source = m; behind = λ i d h k. absurd (omega arith) }
all_behind s l (Some count) rising m =
    record {
      within = omega (arith, m.0);
      by_source = m.2;
      behind = λ i d h k. let a = m.1 d in let b = rising count i d h k in omega arith;
    }

pub starting_together : (s : ℕ) (l : List Segment) (first count : ℕ)
    → IsPartitionPoint (λ g. ltb g.start s ≡ true) (λ g. ltb g.start s ≡ false) l first
    → Behind s (drop first l) count
    → take count (drop first l) ≡ keep (starts_at s) l
starting_together s l first count p q =
    sym (keep_from (starts_at s) first l before ∙ keep_front (starts_at s) count (drop first l) at_source behind)
  where
    before : AllWithin (λ g. starts_at s g ≡ false) l 0 first
    before i d h k = grind (arith, leb_tells, eqb_tells, p.0 i d h k)

    at_source : AllWithin (λ g. starts_at s g ≡ true) (drop first l) 0 count
    at_source i d h k =
        let a = q.by_source i d h k in
        let n = q.within in
        let b = p.1 (first + i) d (omega arith) (omega (arith, length-drop first l)) in
        grind (arith, leb_tells, eqb_tells, get_or-drop first l i d)

    behind : AllWithin (λ g. starts_at s g ≡ false) (drop first l) count (length (drop first l))
    behind i d h k = grind (arith, eqb_tells, q.behind i d h k)
