-- What the tables of a sheet hold, beside the sheet's own lines: the longest sequence for the sheet's, marks, and slots that are narrowed.
use mathlib.Core.Path.{◌≡◌, refl, sym, ap, subst}
use mathlib.Core.Logic.{⊎_elim}
use mathlib.Core.Bool.{Bool, false, ◌&&◌}
use mathlib.Core.List.{List}
use Prim.Native.Nat.{ℕ, suc, ◌+◌, ◌≤◌, ◌<◌}
use native.Mathlib.Nat.{eq-or-lt_of_le}
use native.Mathlib.Omega.{arith}
use lib.Dec.{T, eqb, leb, le→leb}
use lib.ListN.{length, get_or}
use Rattle.std.proofs.lemmas.Bool.{false≢true}
use Rattle.std.proofs.lemmas.List.{get_or_default}
use Rattle.gaze.specs.declared.Feature.{Feature}
use Rattle.gaze.specs.declared.Qualifier.{Qualifier}
use Rattle.gaze.specs.Lists.{Each}
use Rattle.gaze.specs.Ranges.{Group, QualifierRanges, FeatureRanges, SegmentRanges, feature_keys, segment_keys, InRange}
use Rattle.gaze.specs.Sheet.{Sheet, begin, end, candidates, candidate, end_number}
use Rattle.gaze.proofs.Bounds.{short}
use Rattle.gaze.proofs.Candidates.{placed, never_falls, candidates_length}
use Rattle.gaze.proofs.ListLaws.{each_map, each_of, each_at}
use Rattle.slots.specs.Slots.{slots_of, ending}
use Rattle.slots.proofs.Classes.{slot_low}
use Rattle.slots.proofs.Lines.{ending_at}
use Rattle.sums.specs.Sums.{Places, position}
use Rattle.regions.specs.Evidence.{Narrowed}
use Rattle.step.specs.Steps.{NarrowedTo, SlotsMarked}

module _ {sheet : Sheet} (r : InRange sheet) where
  pub segments_short : Group 1024 (SegmentRanges 4000000) segment_keys sheet.segments
  segments_short = record { few = r.segments.few; each = short sheet r; ordered = r.segments.ordered }

  pub features_short : Group 1024 (FeatureRanges 4000000) feature_keys sheet.features
  features_short =
      record {
        few = r.features.few;
        each = each_map (FeatureRanges sheet.sequence_length) (FeatureRanges 4000000) sheet.features within r.features.each;
        ordered = r.features.ordered;
      }
    where
      within : (f : Feature) → FeatureRanges sheet.sequence_length f → FeatureRanges 4000000 f
      within f q =
          let h = r.sequence_length in
          let k = q.position in
          record { kind = q.kind; position = (k.0, omega arith); score = q.score }

  -- a candidate as it is read
  pub candidate_of : (l : List Feature) (t : ℕ) (d : Feature) → l ≡ candidates sheet → t ≤ end_number sheet → get_or l t d ≡ candidate sheet t
  unfolding candidate
  candidate_of l t d e h =
      rw e (get_or_default (candidates sheet) t d (end sheet) (rw (candidates_length sheet r) (omega arith)))

  pub position_of : (l : List Feature) (t : ℕ) (d : Feature) → l ≡ candidates sheet → t ≤ end_number sheet → (get_or l t d).position ≡ (candidate sheet t).position
  position_of l t d e h = ap (λ (f : Feature). f.position) (candidate_of l t d e h)

  pub places_of : Places (candidates sheet)
  places_of =
      record {
        few = rw (candidates_length sheet r) (omega (arith, r.features.few));
        low = λ i h. rw (place i h) (placed sheet r i).position.0;
        high = λ i h. rw (place i h) (placed sheet r i).position.1;
        rises = λ i j l h. rw (place i (omega arith), place j h) (never_falls sheet r i j l (within j h));
      }
    where
      within : (i : ℕ) → i < length (candidates sheet) → i ≤ end_number sheet
      within i h = let k : i < suc (end_number sheet) = rw (candidates_length sheet r) at h in omega arith

      place : (i : ℕ) → i < length (candidates sheet) → position (candidates sheet) i ≡ (candidate sheet i).position
      place i h = position_of (candidates sheet) i begin refl (within i h)

  -- each line that asks for it finds its rows that end at the target
  pub narrowed_is : (used : List Bool) (t : ℕ) → Each (λ q. 2 ≤ q.matching → SlotsMarked used q) sheet.qualifiers
      → NarrowedTo sheet t (ending used (candidate sheet t).position (slots_of sheet.segments))
  narrowed_is used t m =
      each_of (Narrowed (slots_of sheet.segments) (ending used (candidate sheet t).position (slots_of sheet.segments)) (candidate sheet t).position) d sheet.qualifiers
      (λ i h. narrow (get_or sheet.qualifiers i d) (each_at QualifierRanges d sheet.qualifiers r.qualifiers.each i h) (each_at (λ q. 2 ≤ q.matching → SlotsMarked used q) d sheet.qualifiers m i h))
    where
      d : Qualifier
      d = record { source = 0; target = 0; kind = 0; method = 0; phase = 0; matching = 0 }

      narrow : (q : Qualifier) → QualifierRanges q → (2 ≤ q.matching → SlotsMarked used q)
          → Narrowed (slots_of sheet.segments) (ending used (candidate sheet t).position (slots_of sheet.segments)) (candidate sheet t).position q
      narrow q ranged marked h = ending_at used (candidate sheet t).position (slots_of sheet.segments) _ (slot_low q.kind q.phase _ ranged.kind) (marked h _)

-- ---- what holds of each line so far, one line more
pub one_line_more : (P : Qualifier → Type 0) (l : List Qualifier) (i : ℕ) (e : Qualifier) → i < length l → ((k : ℕ) (d : Qualifier) → k < i → P (get_or l k d)) → P (get_or l i e)
    → (k : ℕ) (d : Qualifier) → k < i + 1 → P (get_or l k d)
one_line_more P l i e within before here k d h =
    ⊎_elim
    (λ (eq : k ≡ i). rw (eq, get_or_default l i d e within) here)
    (λ (lt : k < i). before k d lt)
    (eq-or-lt_of_le (le_down h))
  where
    le_down : {a b : ℕ} → a < b + 1 → a ≤ b
    le_down h = omega arith

pub not_asked : {m n : ℕ} → false ≡ leb 2 m → m ≡ n → 2 ≤ n → ⊥
not_asked {m} {n} e k h = subst T (sym e) (le→leb 2 m (omega arith))

pub not_summed : {m n : ℕ} → false ≡ (eqb m 2 && eqb n 0) → m ≡ 2 → n ≡ 0 → ⊥
not_summed e k h = false≢true (rw (k, h) at e)
