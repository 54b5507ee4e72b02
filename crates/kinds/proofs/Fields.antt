-- What the ranges of a row's numbers say of the line that the row is.
use Rattle.std.proofs.Common.{Bool, true, false, List, ◌≡◌, refl, ℕ, zero, suc, ◌≤◌, arith, inl, inr, leb-true, ℤ, pos}
use Rattle.std.specs.Prelude.{cond, not, ◌&&◌, ◌⊎◌, eqb, leb, negsuc, nat_abs}
use Rattle.std.specs.Int.Signed.{le_z}
use lib.Dec.{T}
use lib.Signed.{non_neg}
use borrow.Author.Tests.{eqb-false}
use Rattle.gaze.specs.declared.Interruption.TheVariants.{None, FromSource, FromTarget}
use Rattle.gaze.specs.Ranges.{Within, Thousandths, SourceType, InterruptionRanges, PointRanges, RuleRanges, QualifierRanges, FeatureRanges, SegmentRanges}
use Rattle.gaze.proofs.Tests.{both_true}
use Rattle.kinds.specs.Kinds.{P, R, Q, F, S, field, between, thousandths, source_type, interruption, in_range}
use Rattle.kinds.specs.Records.{interruption_of, point_of, rule_of, qualifier_of, feature_of, segment_of}

-- ---- both parts of each test that is true
three : (a b c : Bool) → (a && b && c) ≡ true → (a ≡ true) × (b ≡ true) × (c ≡ true)
three a b c e =
    let q = both_true (a && b) c e in
    let p = both_true a b q.0 in
    (p.0, p.1, q.1)

five : (a b c d e : Bool) → (a && b && c && d && e) ≡ true → (a ≡ true) × (b ≡ true) × (c ≡ true) × (d ≡ true) × (e ≡ true)
five a b c d e h =
    let r = both_true (a && b && c && d) e h in
    let q = both_true (a && b && c) d r.0 in
    let p = three a b c q.0 in
    (p.0, p.1, p.2, q.1, r.1)

-- ---- numbers
pub record Whole (low high : ℕ) (z : ℤ) : Type 0 where
  pub plain : T (non_neg z)
  pub within : Within low high (nat_abs z)

pub whole : (low high : ℕ) (z : ℤ) → between (pos low) (pos high) z ≡ true → Whole low high z
unfolding between
whole low high (pos n) e =
    let p = both_true (leb low n) (leb n high) e in
    record { plain = tt; within = (leb-true low n p.0, leb-true n high p.1) }
whole low high (negsuc n) e = cc

small : (z : ℤ) → thousandths z ≡ true → Thousandths z
unfolding thousandths
small (pos n) e = leb-true n 10000000 e
small (negsuc n) e =
    let p = both_true (leb n 9999999) true e in
    let h = leb-true n 9999999 p.0 in
    omega arith

at_most : (y z : ℤ) → T (non_neg y) → T (non_neg z) → le_z y z ≡ true → nat_abs y ≤ nat_abs z
at_most (pos m) (pos n) p q e = leb-true m n e
at_most (pos m) (negsuc n) p q e = absurd q
at_most (negsuc m) z p q e = absurd p

source : (z : ℤ) → source_type z ≡ true → SourceType (nat_abs z)
unfolding between
source z e =
    let p = both_true (between (pos 0) (pos 31) z) (not (between (pos 1) (pos 1) z)) e in
    not_one z (whole 0 31 z p.0) p.1
  where
    not_one : (z : ℤ) → Whole 0 31 z → not (between (pos 1) (pos 1) z) ≡ true → SourceType (nat_abs z)
    not_one (pos zero) w q = inl refl
    not_one (pos (suc zero)) w q = cc
    not_one (pos (suc (suc n))) w q = inr (omega arith, w.within.1)
    not_one (negsuc n) w q = absurd w.plain

-- ---- lines
interrupted : (row : List ℤ) → interruption row ≡ true → InterruptionRanges (interruption_of (nat_abs (field row 5)) (nat_abs (field row 6)) (nat_abs (field row 7)))
unfolding interruption
interrupted row = go (between (pos 0) (pos 0) (field row 5)) refl
  where
    ranges : (kind type remainder : ℕ) → (kind ≡ 0) ⊎ (Within 2 31 type × (remainder ≤ 2)) → InterruptionRanges (interruption_of kind type remainder)
    ranges kind type remainder = by (eqb kind 0) refl (eqb kind 1)
      where
        by : (a : Bool) → eqb kind 0 ≡ a → (b : Bool) → (kind ≡ 0) ⊎ (Within 2 31 type × (remainder ≤ 2))
            → InterruptionRanges (cond a None (cond b (FromSource type remainder) (FromTarget type remainder)))
        by true e b h = tt
        by false e b (inl z) = absurd (eqb-false kind 0 e z)
        by false e true (inr h) = h
        by false e false (inr h) = h

    go : (b : Bool) → between (pos 0) (pos 0) (field row 5) ≡ b
        → cond b
        (between (pos 0) (pos 0) (field row 6) && between (pos 0) (pos 0) (field row 7))
        (between (pos 1) (pos 2) (field row 5) && between (pos 2) (pos 31) (field row 6) && between (pos 0) (pos 2) (field row 7)) ≡ true
        → InterruptionRanges (interruption_of (nat_abs (field row 5)) (nat_abs (field row 6)) (nat_abs (field row 7)))
    go true k e =
        let none = whole 0 0 (field row 5) k in
        ranges (nat_abs (field row 5)) (nat_abs (field row 6)) (nat_abs (field row 7)) (inl (omega (arith, none.within.1)))
    go false k e =
        let p = three (between (pos 1) (pos 2) (field row 5)) (between (pos 2) (pos 31) (field row 6)) (between (pos 0) (pos 2) (field row 7)) e in
        ranges (nat_abs (field row 5)) (nat_abs (field row 6)) (nat_abs (field row 7)) (inr ((whole 2 31 (field row 6) p.1).within, (whole 0 2 (field row 7) p.2).within.1))

module _ (bases : ℕ) (row : List ℤ) where
  pub point_ranges : in_range P bases row ≡ true → PointRanges (point_of row)
  unfolding in_range
  point_ranges e =
      let p = three (between (pos 1) (pos 16) (field row 0)) (between (pos 0) (pos 4000000) (field row 1)) (thousandths (field row 2)) e in
      record {
        function = (whole 1 16 (field row 0) p.0).within;
        distance = (whole 0 4000000 (field row 1) p.1).within.1;
        penalty = small (field row 2) p.2;
      }

  pub rule_ranges : in_range R bases row ≡ true → RuleRanges (rule_of row)
  unfolding in_range
  rule_ranges e =
      let a = source_type (field row 0) in
      let b = between (pos 1) (pos 31) (field row 1) in
      let c = between (pos 0) (pos 4000000) (field row 2) in
      let d = between (pos 0) (pos 4000000) (field row 3) in
      let l = le_z (field row 2) (field row 3) in
      let f = between (pos 0) (pos 3) (field row 4) in
      let g = interruption row in
      let h = between (pos 0) (pos 17) (field row 8) in
      let r = both_true (a && b && c && d && l && f && g) h e in
      let q = three (a && b && c && d && l) f g r.0 in
      let p = five a b c d l q.0 in
      let min = whole 0 4000000 (field row 2) p.2 in
      let max = whole 0 4000000 (field row 3) p.3 in
      record {
        source = source (field row 0) p.0;
        target = (whole 1 31 (field row 1) p.1).within;
        min = at_most (field row 2) (field row 3) min.plain max.plain p.4;
        max = max.within.1;
        phase = (whole 0 3 (field row 4) q.1).within.1;
        interruption = interrupted row q.2;
        function = (whole 0 17 (field row 8) r.1).within.1;
      }

  pub qualifier_ranges : in_range Q bases row ≡ true → QualifierRanges (qualifier_of row)
  unfolding in_range
  qualifier_ranges e =
      let a = source_type (field row 0) in
      let b = between (pos 1) (pos 31) (field row 1) in
      let c = between (pos 0) (pos 15) (field row 2) in
      let d = between (pos 1) (pos 2) (field row 3) in
      let f = between (pos 0) (pos 3) (field row 4) in
      let g = between (pos 0) (pos 3) (field row 5) in
      let q = both_true (a && b && c && d && f) g e in
      let p = five a b c d f q.0 in
      record {
        source = source (field row 0) p.0;
        target = (whole 1 31 (field row 1) p.1).within;
        kind = (whole 0 15 (field row 2) p.2).within.1;
        method = (whole 1 2 (field row 3) p.3).within;
        phase = (whole 0 3 (field row 4) p.4).within.1;
        matching = (whole 0 3 (field row 5) q.1).within.1;
      }

  pub feature_ranges : in_range F bases row ≡ true → FeatureRanges bases (feature_of row)
  unfolding in_range
  feature_ranges e =
      let p = three (between (pos 2) (pos 31) (field row 0)) (between (pos 1) (pos bases) (field row 1)) (thousandths (field row 2)) e in
      record {
        kind = (whole 2 31 (field row 0) p.0).within;
        position = (whole 1 bases (field row 1) p.1).within;
        score = small (field row 2) p.2;
      }

  pub segment_ranges : in_range S bases row ≡ true → SegmentRanges bases (segment_of row)
  unfolding in_range
  segment_ranges e =
      let p = five (between (pos 0) (pos 15) (field row 0)) (between (pos 1) (pos bases) (field row 1)) (between (pos 1) (pos bases) (field row 2)) (le_z (field row 1) (field row 2)) (thousandths (field row 3)) e in
      let start = whole 1 bases (field row 1) p.1 in
      let end = whole 1 bases (field row 2) p.2 in
      record {
        kind = (whole 0 15 (field row 0) p.0).within.1;
        start = start.within;
        end = (at_most (field row 1) (field row 2) start.plain end.plain p.3, end.within.1);
        score = small (field row 3) p.4;
      }
