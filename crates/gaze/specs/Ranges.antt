-- The ranges of a sheet's fields and the order of its lines, as the table of the sheet has them: what the parts below the reader may take for
-- granted, and what the reader shows of every sheet that it accepts.
use Rattle.std.specs.Prelude.{◌≡◌, ◌⊎◌, List, [], ◌∷◌, ℕ, ◌≤◌, ◌<◌, ℤ, nat_abs, length}
use Rattle.gaze.specs.declared.Point.{Point}
use Rattle.gaze.specs.declared.Interruption.{Interruption}
use Rattle.gaze.specs.declared.Interruption.TheVariants.{None, FromSource, FromTarget}
use Rattle.gaze.specs.declared.Rule.{Rule}
use Rattle.gaze.specs.declared.Qualifier.{Qualifier}
use Rattle.gaze.specs.declared.Feature.{Feature}
use Rattle.gaze.specs.declared.Segment.{Segment}
use Rattle.gaze.specs.Lists.{Each, Adjacent}
use Rattle.gaze.specs.Sheet.{Sheet}

abbrev pub Within : ℕ → ℕ → ℕ → Type 0
Within lo hi x = (lo ≤ x) × (x ≤ hi)

-- A score or a penalty.
abbrev pub Thousandths : ℤ → Type 0
Thousandths z = nat_abs z ≤ 10000000

abbrev pub SourceType : ℕ → Type 0
SourceType x = (x ≡ 0) ⊎ Within 2 31 x

-- ---- the lines, each by itself
pub record PointRanges (p : Point) : Type 0 where
  pub function : Within 1 16 p.function
  pub distance : p.distance ≤ 4000000
  pub penalty : Thousandths p.penalty

abbrev pub InterruptionRanges : Interruption → Type 0
InterruptionRanges None = Unit {0}
InterruptionRanges (FromSource kind remainder) = Within 2 31 kind × (remainder ≤ 2)
InterruptionRanges (FromTarget kind remainder) = Within 2 31 kind × (remainder ≤ 2)

pub record RuleRanges (r : Rule) : Type 0 where
  pub source : SourceType r.source
  pub target : Within 1 31 r.target
  pub min : r.min ≤ r.max
  pub max : r.max ≤ 4000000
  pub phase : r.phase ≤ 3
  pub interruption : InterruptionRanges r.interruption
  pub function : r.function ≤ 17

pub record QualifierRanges (q : Qualifier) : Type 0 where
  pub source : SourceType q.source
  pub target : Within 1 31 q.target
  pub kind : q.kind ≤ 15
  pub method : Within 1 2 q.method
  pub phase : q.phase ≤ 3
  pub matching : q.matching ≤ 3

pub record FeatureRanges (sequence_length : ℕ) (f : Feature) : Type 0 where
  pub kind : Within 2 31 f.kind
  pub position : Within 1 sequence_length f.position
  pub score : Thousandths f.score

pub record SegmentRanges (sequence_length : ℕ) (g : Segment) : Type 0 where
  pub kind : g.kind ≤ 15
  pub start : Within 1 sequence_length g.start
  pub end : Within g.start sequence_length g.end
  pub score : Thousandths g.score

-- ---- strict order: a line stands before the next, by the first key at which they differ
abbrev pub Before : List ℕ → List ℕ → Type 0
Before [] y = ⊥
Before (a ∷ x) [] = ⊥
Before (a ∷ x) (b ∷ y) = (a < b) ⊎ ((a ≡ b) × Before x y)

abbrev pub InOrder : {A : Type 0} → (A → List ℕ) → List A → Type 0
InOrder keys l = Adjacent (λ a b. Before (keys a) (keys b)) l

abbrev pub point_keys : Point → List ℕ
point_keys p = p.function ∷ p.distance ∷ []

abbrev pub rule_keys : Rule → List ℕ
rule_keys r = r.source ∷ r.target ∷ []

abbrev pub qualifier_keys : Qualifier → List ℕ
qualifier_keys q = q.source ∷ q.target ∷ q.kind ∷ []

abbrev pub feature_keys : Feature → List ℕ
feature_keys f = f.position ∷ f.kind ∷ []

abbrev pub segment_keys : Segment → List ℕ
segment_keys g = g.start ∷ g.end ∷ g.kind ∷ []

-- ---- a group: no more lines than its most, each in its ranges, all in order
pub record Group {A : Type 0} (most : ℕ) (In : A → Type 0) (keys : A → List ℕ) (l : List A) : Type 0 where
  pub few : length l ≤ most
  pub each : Each In l
  pub ordered : InOrder keys l

pub record InRange (sheet : Sheet) : Type 0 where
  pub sequence_length : Within 1 4000000 sheet.sequence_length
  pub points : Group 512 PointRanges point_keys sheet.points
  pub rules : Group 256 RuleRanges rule_keys sheet.rules
  pub qualifiers : Group 256 QualifierRanges qualifier_keys sheet.qualifiers
  pub features : Group 1024 (FeatureRanges sheet.sequence_length) feature_keys sheet.features
  pub segments : Group 1024 (SegmentRanges sheet.sequence_length) segment_keys sheet.segments
