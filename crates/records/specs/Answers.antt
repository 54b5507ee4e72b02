-- The score of one region over lent records, or the refusal.
use Rattle.std.specs.Prelude.{Bool, cond, ◌&&◌, List, [], ◌∷◌, leb, ℤ, pos, Option, Some, None, Result, Ok, Err}
use Rattle.gaze.specs.declared.Qualifier.{Qualifier}
use Rattle.gaze.specs.declared.Segment.{Segment}
use Rattle.gaze.specs.SegmentScore.{segment_score}
use Rattle.refusal.specs.declared.Reason.TheVariants.{Range}
use Rattle.refusal.specs.declared.Refusal.{Refusal}
use Rattle.kinds.specs.Kinds.{Q}
use Rattle.kinds.specs.Records.{ranged, qualifier_of}
use Rattle.records.specs.declared.Region.{Region}
use Rattle.records.specs.Records.{checked}

-- The numbers of the region's Q line: one of the pair BEGIN, END, since a segment score asks for no pair.
abbrev pub line_of : Region → List ℤ
line_of region = pos 0 ∷ pos 1 ∷ pos region.kind ∷ pos region.method ∷ pos region.phase ∷ pos region.matching ∷ []

abbrev pub bases_in_range : Region → Bool
bases_in_range region = leb 1 region.source && leb region.source region.target && leb region.target 4000000

-- The region's Q line, where the region is in range.
unfoldable pub asked_by : Region → Option Qualifier
asked_by region = cond (bases_in_range region) (ranged Q qualifier_of 0 (line_of region)) None

abbrev pub scored : Region → Qualifier → List Segment → Result (Unit {0}) Refusal → Result ℤ Refusal
scored region q records (Ok _) = Ok (segment_score q region.source region.target records)
scored region q records (Err refusal) = Err refusal

abbrev pub answered : Region → List Segment → Option Qualifier → Result ℤ Refusal
answered region records None = Err (record { reason = Range; place = 0 })
answered region records (Some q) = scored region q records (checked 0 None records)

-- A region out of range is refused before the records are read; then the first record at fault is.
unfoldable pub region_answer : Region → List Segment → Result ℤ Refusal
region_answer region records = answered region records (asked_by region)
