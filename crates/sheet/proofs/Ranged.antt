-- Every sheet that is accepted keeps to the ranges and the orders of the table, and has an L line.
use Rattle.std.proofs.Common.{Bool, true, false, List, [], ◌∷◌, ◌≡◌, refl, sym, ap, subst, ℕ, ◌-◌, ◌<◌, ◌≤◌, arith, length, Option, Some, None, Result, Ok, Err}
use Rattle.std.specs.Prelude.{cond, ◌&&◌, leb, ℤ}
use Rattle.std.proofs.lemmas.List.{length-take-le}
use Rattle.text.specs.Words.{next_place}
use Rattle.text.specs.Lines.{lines}
use Rattle.text.proofs.Lines.{lines_at}
use Rattle.refusal.specs.declared.Refusal.{Refusal}
use Rattle.refusal.specs.declared.Reason.TheVariants.{Size}
use Rattle.gaze.specs.declared.Point.{Point}
use Rattle.gaze.specs.declared.Rule.{Rule}
use Rattle.gaze.specs.declared.Qualifier.{Qualifier}
use Rattle.gaze.specs.declared.Feature.{Feature}
use Rattle.gaze.specs.declared.Segment.{Segment}
use Rattle.gaze.specs.Lists.{Each}
use Rattle.gaze.specs.Sheet.{Sheet}
use Rattle.gaze.specs.Ranges.{Within, PointRanges, RuleRanges, QualifierRanges, FeatureRanges, SegmentRanges, InRange, point_keys, rule_keys, qualifier_keys, feature_keys, segment_keys}
use Rattle.kinds.specs.declared.Length.{Length}
use Rattle.kinds.specs.Kinds.{L, P, R, Q, F, S, field, in_range}
use Rattle.kinds.specs.Records.{length_of, point_of, rule_of, qualifier_of, feature_of, segment_of}
use Rattle.kinds.specs.Keys.{length_keys}
use Rattle.group.specs.declared.Placed.{Placed}
use Rattle.group.specs.Group.{read}
use Rattle.group.proofs.Sound.{sound, some_line}
use Rattle.trailer.specs.declared.Trailer.{Trailer}
use Rattle.trailer.specs.Trailer.{part, trailer_of}
use Rattle.trailer.proofs.Offsets.{Rising, rising}
use Rattle.links.specs.Links.{lines_in, has_rule, has_points, linked}
use Rattle.sheet.specs.Reading.{and_then, group_at, bases_of, of_groups, with_trailer, reading}
use Rattle.kinds.proofs.Fields.{whole, point_ranges, rule_ranges, qualifier_ranges, feature_ranges, segment_ranges}

-- ---- the L line, where the group has bytes
length_ranges : (row : List ℤ) → in_range L 0 row ≡ true → Within 1 4000000 (length_of row).bases
unfolding in_range
length_ranges row e = (whole 1 4000000 (field row 0) e).within

some_length : (bytes : List ℕ) (to : ℕ) (lengths : List (Placed Length)) → 1 ≤ to → to ≤ length bytes → group_at L length_of length_keys 0 bytes 0 to ≡ Ok lengths → 0 < length lengths
some_length bytes to lengths h k e =
    let n = length-take-le (to - 0) bytes (omega arith) in
    some (part bytes 0 to) (omega (arith, n)) e
  where
    some : (text : List ℕ) → 0 < length text → read L length_of length_keys 0 0 [] (lines text) ≡ Ok lengths → 0 < length lengths
    some text h e = some_line L length_of length_keys 0 0 _ _ lengths (rw (lines_at text 0 (next_place 10 0 text) h refl) at e)

bases_within : (bytes : List ℕ) (to : ℕ) (lengths : List (Placed Length)) → 1 ≤ to → to ≤ length bytes → group_at L length_of length_keys 0 bytes 0 to ≡ Ok lengths
    → Within 1 4000000 (bases_of lengths)
unfolding Each
bases_within bytes to lengths h k e =
    go lengths (some_length bytes to lengths h k e)
    (sound L length_of length_keys 0 (λ l. Within 1 4000000 l.bases) length_ranges (λ a b. refl) 0 (lines (part bytes 0 to)) lengths e).each
  where
    go : (lengths : List (Placed Length)) → 0 < length lengths → Each (λ l. Within 1 4000000 l.bases) (lines_in lengths) → Within 1 4000000 (bases_of lengths)
    go [] h e = let x : ⊥ = omega arith in absurd x
    go (l ∷ ls) h e = e.0

-- ---- the groups that were read
pub record Groups (bytes : List ℕ) (t : Trailer) (lengths : List (Placed Length)) (points : List (Placed Point)) (rules : List (Placed Rule)) (qualifiers : List (Placed Qualifier))
    (features : List (Placed Feature)) (segments : List (Placed Segment)) : Type 0 where
  pub l : group_at L length_of length_keys 0 bytes 0 t.p ≡ Ok lengths
  pub p : group_at P point_of point_keys 0 bytes t.p t.r ≡ Ok points
  pub r : group_at R rule_of rule_keys 0 bytes t.r t.q ≡ Ok rules
  pub q : group_at Q qualifier_of qualifier_keys 0 bytes t.q t.f ≡ Ok qualifiers
  pub f : group_at F feature_of feature_keys (bases_of lengths) bytes t.f t.s ≡ Ok features
  pub s : group_at S segment_of segment_keys (bases_of lengths) bytes t.s t.top ≡ Ok segments

module _ {bytes : List ℕ} {t : Trailer} {lengths : List (Placed Length)} {points : List (Placed Point)} {rules : List (Placed Rule)} {qualifiers : List (Placed Qualifier)}
    {features : List (Placed Feature)} {segments : List (Placed Segment)} (rises : Rising t (length bytes)) (g : Groups bytes t lengths points rules qualifiers features segments) where
  pub lengths_some : 0 < length lengths
  lengths_some = some_length bytes t.p lengths rises.first (omega (arith, rises)) g.l

  pub groups_in_range : InRange (record {
    sequence_length = bases_of lengths;
    points = lines_in points;
    rules = lines_in rules;
    qualifiers = lines_in qualifiers;
    features = lines_in features;
    segments = lines_in segments;
  })
  groups_in_range =
      let bases = bases_of lengths in
      record {
        sequence_length = bases_within bytes t.p lengths rises.first (omega (arith, rises)) g.l;
        points = sound P point_of point_keys 0 PointRanges (point_ranges 0) (λ a b. refl) t.p (lines (part bytes t.p t.r)) points g.p;
        rules = sound R rule_of rule_keys 0 RuleRanges (rule_ranges 0) (λ a b. refl) t.r (lines (part bytes t.r t.q)) rules g.r;
        qualifiers = sound Q qualifier_of qualifier_keys 0 QualifierRanges (qualifier_ranges 0) (λ a b. refl) t.q (lines (part bytes t.q t.f)) qualifiers g.q;
        features = sound F feature_of feature_keys bases (FeatureRanges bases) (feature_ranges bases) (λ a b. refl) t.f (lines (part bytes t.f t.s)) features g.f;
        segments = sound S segment_of segment_keys bases (SegmentRanges bases) (segment_ranges bases) (λ a b. refl) t.s (lines (part bytes t.s t.top)) segments g.s;
      }

-- ---- what an accepted text has passed
passed : {A B : Type 0} (r : Result A Refusal) (go : A → Result B Refusal) (b : B) → and_then r go ≡ Ok b → (a : A) × (r ≡ Ok a) × (go a ≡ Ok b)
passed (Ok a) go b e = (a, refl, e)
passed (Err refusal) go b e = cc

-- a text that is accepted: its trailer, and its groups as they were read
pub record Accepted (bytes : List ℕ) (sheet : Sheet) : Type 0 where
  pub trailer : Trailer
  pub trailer_is : trailer_of bytes ≡ Some trailer
  pub lengths : List (Placed Length)
  pub lengths_are : group_at L length_of length_keys 0 bytes 0 trailer.p ≡ Ok lengths
  pub some : 0 < length lengths
  pub bases : sheet.sequence_length ≡ bases_of lengths
  pub in_range : InRange sheet

same : (s t : Sheet) → ◌≡◌ {A = Result Sheet Refusal} (Ok s) (Ok t) → s ≡ t
same s t e = cc

of_trailer : (bytes : List ℕ) (t : Trailer) (sheet : Sheet) → trailer_of bytes ≡ Some t → of_groups bytes t ≡ Ok sheet → Accepted bytes sheet
unfolding of_groups
of_trailer bytes t sheet h e =
    let l = passed (group_at L length_of length_keys 0 bytes 0 t.p) _ sheet e in
    let p = passed (group_at P point_of point_keys 0 bytes t.p t.r) _ sheet l.2 in
    let r = passed (group_at R rule_of rule_keys 0 bytes t.r t.q) _ sheet p.2 in
    let q = passed (group_at Q qualifier_of qualifier_keys 0 bytes t.q t.f) _ sheet r.2 in
    let f = passed (group_at F feature_of feature_keys (bases_of l.0) bytes t.f t.s) _ sheet q.2 in
    let s = passed (group_at S segment_of segment_keys (bases_of l.0) bytes t.s t.top) _ sheet f.2 in
    let x = passed (linked (λ q. has_rule (lines_in r.0) q.source q.target) q.0) _ sheet s.2 in
    let y = passed (linked (λ r. has_points (lines_in p.0) r.function) r.0) _ sheet x.2 in
    let rises = rising bytes t h in
    let g : Groups bytes t l.0 p.0 r.0 q.0 f.0 s.0 = record { l = l.1; p = p.1; r = r.1; q = q.1; f = f.1; s = s.1 } in
    let k = same _ sheet y.2 in
    record {
      trailer = t;
      trailer_is = h;
      lengths = l.0;
      lengths_are = l.1;
      some = lengths_some rises g;
      bases = sym (ap (λ (s : Sheet). s.sequence_length) k);
      in_range = subst InRange k (groups_in_range rises g);
    }

pub accepted : (bytes : List ℕ) (sheet : Sheet) → reading bytes ≡ Ok sheet → Accepted bytes sheet
unfolding reading
accepted bytes sheet = go (leb 1 (length bytes) && leb (length bytes) 65536) (trailer_of bytes) refl
  where
    go : (b : Bool) (t : Option Trailer) → trailer_of bytes ≡ t → cond b (with_trailer bytes t) (Err (record { reason = Size; place = 0 })) ≡ Ok sheet → Accepted bytes sheet
    go true (Some t) h e = of_trailer bytes t sheet h e
    go true None h e = cc
    go false t h e = cc

pub in_range_of_accepted : (bytes : List ℕ) (sheet : Sheet) → reading bytes ≡ Ok sheet → InRange sheet
in_range_of_accepted bytes sheet e = (accepted bytes sheet e).in_range
