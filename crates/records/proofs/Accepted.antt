-- A score is given exactly where the region is in range and the records would do as the S lines of a sheet of 4,000,000 bases.
use mathlib.Core.Path.{◌≡◌, refl, ap}
use mathlib.Core.Bool.{Bool, true, false, cond}
use mathlib.Core.List.{List, [], ◌∷◌}
use Prim.Native.Nat.{ℕ, ◌+◌, ◌≤◌, ◌<◌}
use native.Mathlib.Omega.{arith}
use borrow.Author.Tests.{leb-false, lt-leb}
use Rattle.std.proofs.lemmas.Bool.Decides.{nat_tests}
use lib.Dec.{leb}
use lib.IntN.{ℤ}
use lib.ListN.{length}
use Rattle.std.specs.Prelude.{Option, Some, None, Result, Ok, Err}
use Rattle.gaze.specs.declared.Qualifier.{Qualifier}
use Rattle.gaze.specs.declared.Segment.{Segment}
use Rattle.gaze.specs.Lists.{Each, Adjacent}
use Rattle.gaze.specs.Ranges.{SegmentRanges, segment_keys, InOrder, Group}
use Rattle.gaze.specs.Ranges as ranges
use Rattle.gaze.specs.SegmentScore.{segment_score}
use Rattle.refusal.specs.declared.Reason.{Reason}
use Rattle.refusal.specs.declared.Reason.TheVariants.{Crowded, Range}
use Rattle.refusal.specs.declared.Refusal.{Refusal}
use Rattle.kinds.specs.Kinds.{S, Q, in_range}
use Rattle.kinds.specs.Records.{ranged, qualifier_of}
use Rattle.kinds.specs.Order.{disorder}
use Rattle.kinds.proofs.Fields.{segment_ranges}
use Rattle.kinds.proofs.Order.{stands_before}
use Rattle.records.specs.declared.Region.{Region}
use Rattle.records.specs.Records.{row_of, disorder_after, record_fault, unless, checked}
use Rattle.records.specs.Answers.{line_of, bases_in_range, asked_by, scored, answered, region_answer}
use Rattle.records.proofs.Records.{ranges_record, before_keys}

-- where there is a record before it, a record comes after it in the order
abbrev After : Option Segment → Segment → Type 0
After None g = Unit {0}
After (Some before) g = ranges.Before (segment_keys before) (segment_keys g)

-- ---- one record
record Passed (passed : ℕ) (before : Option Segment) (g : Segment) : Type 0 where
  room : passed < 1024
  ranges : SegmentRanges 4000000 g
  after : After before g

after_of : (before : Option Segment) (g : Segment) → disorder_after before g ≡ None → After before g
after_of None g e = tt
after_of (Some before) g e = stands_before (segment_keys before) (segment_keys g) refl e

passed_of : (passed : ℕ) (before : Option Segment) (g : Segment) → record_fault passed before g ≡ None → Passed passed before g
unfolding record_fault row_of
passed_of passed before g = go (leb 1024 passed) refl (in_range S 4000000 (row_of g)) refl
  where
    go : (a : Bool) → leb 1024 passed ≡ a → (b : Bool) → in_range S 4000000 (row_of g) ≡ b
        → cond a (Some Crowded) (cond b (disorder_after before g) (Some Range)) ≡ None → Passed passed before g
    go true p b q e = cc
    go false p false q e = cc
    go false p true q e = record { room = leb-false 1024 passed p; ranges = segment_ranges 4000000 (row_of g) q; after = after_of before g e }

fault_none : (passed : ℕ) (before : Option Segment) (g : Segment) → Passed passed before g → record_fault passed before g ≡ None
unfolding record_fault
fault_none passed before g p = rw (lt-leb 1024 passed p.room, ranges_record g p.ranges) (none before p.after)
  where
    none : (before : Option Segment) → After before g → disorder_after before g ≡ None
    none None a = refl
    none (Some before) a = ap disorder (before_keys before g a)

-- ---- all of them
-- the records, and the one before them
abbrev behind : Option Segment → List Segment → List Segment
behind None l = l
behind (Some before) l = before ∷ l

-- what S lines have to meet, of records that stand after so many others
pub record Lines (passed : ℕ) (before : Option Segment) (l : List Segment) : Type 0 where
  pub few : passed + length l ≤ 1024
  pub each : Each (SegmentRanges 4000000) l
  pub ordered : InOrder segment_keys (behind before l)

joined : (before : Option Segment) (g : Segment) (l : List Segment) → After before g → InOrder segment_keys (g ∷ l) → InOrder segment_keys (behind before (g ∷ l))
unfolding Adjacent
joined None g l a o = o
joined (Some before) g l a o = (a, o)

parted : (before : Option Segment) (g : Segment) (l : List Segment) → InOrder segment_keys (behind before (g ∷ l)) → After before g × InOrder segment_keys (g ∷ l)
unfolding Adjacent
parted None g l o = (tt, o)
parted (Some before) g l o = o

pub checked_lines : (passed : ℕ) (before : Option Segment) (l : List Segment) → passed ≤ 1024 → checked passed before l ≡ Ok tt → Lines passed before l
unfolding checked Each Adjacent
checked_lines passed None [] h e = record { few = omega arith; each = tt; ordered = tt }
checked_lines passed (Some before) [] h e = record { few = omega arith; each = tt; ordered = tt }
checked_lines passed before (g ∷ l) h e = go (record_fault passed before g) refl (checked_lines (passed + 1) (Some g) l) e
  where
    go : (o : Option Reason) → record_fault passed before g ≡ o → (passed + 1 ≤ 1024 → checked (passed + 1) (Some g) l ≡ Ok tt → Lines (passed + 1) (Some g) l)
        → unless o (passed + 1) (checked (passed + 1) (Some g) l) ≡ Ok tt → Lines passed before (g ∷ l)
    go (Some reason) f others e = cc
    go None f others e =
        let p = passed_of passed before g f in
        let rest = others (omega (arith, p.room)) e in
        record { few = omega (arith, rest.few); each = (p.ranges, rest.each); ordered = joined before g l p.after rest.ordered }

pub lines_checked : (passed : ℕ) (before : Option Segment) (l : List Segment) → Lines passed before l → checked passed before l ≡ Ok tt
unfolding checked Each
lines_checked passed before [] n = refl
lines_checked passed before (g ∷ l) n =
    let o = parted before g l n.ordered in
    rw (fault_none passed before g (record { room = omega (arith, n.few); ranges = n.each.0; after = o.0 }))
    (lines_checked (passed + 1) (Some g) l (record { few = omega (arith, n.few); each = n.each.1; ordered = o.1 }))

-- ---- the region
pub record Bounded (region : Region) : Type 0 where
  pub ordered : region.source ≤ region.target
  pub bounded : region.target ≤ 4000000

pub asked_bounded : (region : Region) (q : Qualifier) → asked_by region ≡ Some q → Bounded region
unfolding asked_by
asked_bounded region q = go (bases_in_range region) refl
  where
    go : (b : Bool) → bases_in_range region ≡ b → cond b (ranged Q qualifier_of 0 (line_of region)) None ≡ Some q → Bounded region
    go false n e = cc
    go true y e = record { ordered = grind (arith, nat_tests); bounded = grind (arith, nat_tests) }

-- ---- what is said
pub record Accepted (region : Region) (records : List Segment) (score : ℤ) : Type 0 where
  pub q : Qualifier
  pub asked : asked_by region ≡ Some q
  pub lines : Group 1024 (SegmentRanges 4000000) segment_keys records
  pub is : score ≡ segment_score q region.source region.target records

pub scored_only : (region : Region) (records : List Segment) (score : ℤ) → region_answer region records ≡ Ok score → Accepted region records score
unfolding region_answer
scored_only region records score = go (asked_by region) refl
  where
    by_check : (q : Qualifier) → asked_by region ≡ Some q → (r : Result (Unit {0}) Refusal) → checked 0 None records ≡ r → scored region q records r ≡ Ok score
        → Accepted region records score
    by_check q a (Err refusal) c e = cc
    by_check q a (Ok u) c e =
        let n = checked_lines 0 None records (omega arith) c in
        record { q = q; asked = a; lines = record { few = omega (arith, n.few); each = n.each; ordered = n.ordered }; is = (cc) }

    go : (o : Option Qualifier) → asked_by region ≡ o → answered region records o ≡ Ok score → Accepted region records score
    go None a e = cc
    go (Some q) a e = by_check q a (checked 0 None records) refl e

pub scored_all : (region : Region) (records : List Segment) (score : ℤ) → Accepted region records score → region_answer region records ≡ Ok score
unfolding region_answer
scored_all region records score a =
    let n = a.lines in
    rw (a.asked, lines_checked 0 None records (record { few = omega (arith, n.few); each = n.each; ordered = n.ordered }), a.is) refl
