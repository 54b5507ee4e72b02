-- What holds of a sheet's evidence for the step from candidate s to candidate t.
use mathlib.Core.Path.{◌≡◌, ap, ◌∙◌}
use mathlib.Core.List.{List, map}
use Prim.Native.Nat.{ℕ, ◌≤◌, ◌<◌}
use native.Mathlib.Omega.{arith}
use lib.IntN.{nat_abs}
use lib.ListN.{length, get_or}
use Rattle.std.proofs.lemmas.List.{get_or_default}
use Rattle.whole.specs.Whole.{sum_of}
use Rattle.gaze.specs.declared.Feature.{Feature}
use Rattle.gaze.specs.declared.Qualifier.{Qualifier}
use Rattle.gaze.specs.Lists.{Each, keep}
use Rattle.gaze.specs.Sheet.{begin, end, candidate}
use Rattle.gaze.specs.Step.{region_score}
use Rattle.gaze.proofs.ListLaws.{each_kept}
use Rattle.gaze.proofs.Candidates.{Placed, placed, never_falls, candidates_length}
use Rattle.gaze.proofs.Bounds.{short, segment_score_size, region_size}
use Rattle.lines.specs.Lines.{of_types}
use Rattle.sums.specs.Sums.{position}
use Rattle.regions.specs.declared.Evidence.{Evidence}
use Rattle.regions.specs.Evidence.{Region, Narrowed, Holds, worth}

module _ {e : Evidence} {t : ℕ} (h : Holds e t) where
  pub held_within : (i : ℕ) → i ≤ t → i < length e.candidates.now
  held_within i le = rw (h.candidates, candidates_length e.sheet.now h.ranged) (omega (arith, h.to_end))

  pub candidate_is : (i : ℕ) → i ≤ t → get_or e.candidates.now i begin ≡ candidate e.sheet.now i
  unfolding candidate
  candidate_is i le =
      get_or_default e.candidates.now i begin (end e.sheet.now) (held_within i le) ∙ ap (λ (l : List Feature). get_or l i (end e.sheet.now)) h.candidates

  position_is : (i : ℕ) → i ≤ t → position e.candidates.now i ≡ (candidate e.sheet.now i).position
  position_is i le = ap (λ (f : Feature). f.position) (candidate_is i le)

  pub held_placed : (i : ℕ) → i ≤ t → Placed (get_or e.candidates.now i begin)
  held_placed i le = rw (candidate_is i le) (placed e.sheet.now h.ranged i)

  module _ (s : ℕ) (le : s ≤ t) where
    pub region_of : Region e.candidates.now s t
    region_of =
        record {
          ordered = le;
          within = held_within t (omega arith);
          rises = rw (position_is s le, position_is t (omega arith)) (never_falls e.sheet.now h.ranged s t le h.to_end);
          bounded = (held_placed t (omega arith)).position.1;
        }

    pub line_small : (q : Qualifier) → nat_abs (worth e s t q) ≤ 40000000000000
    line_small q =
        segment_score_size q (position e.candidates.now s) (position e.candidates.now t) e.sheet.now.segments (held_placed s le).position.0 (held_placed t (omega arith)).position.1 (short e.sheet.now h.ranged)

    pub total_is : {a b : Feature} (lines : List Qualifier) → a ≡ get_or e.candidates.now s begin → b ≡ get_or e.candidates.now t begin → lines ≡ keep (of_types a.kind b.kind) e.lines.now
        → sum_of (map (worth e s t) lines) ≡ region_score e.sheet.now.qualifiers e.sheet.now.segments (candidate e.sheet.now s) (candidate e.sheet.now t)
    total_is {a} {b} lines a_is b_is is =
        ap (λ (l : List Qualifier). sum_of (map (worth e s t) l))
        (is ∙ (ap (λ (f : Feature). keep (of_types f.kind b.kind) e.lines.now) a_is
        ∙ ap (λ (f : Feature). keep (of_types (get_or e.candidates.now s begin).kind f.kind) e.lines.now) b_is))
        ∙ (ap (λ (f : Feature). region_score e.lines.now e.sheet.now.segments f (get_or e.candidates.now t begin)) (candidate_is s le)
        ∙ (ap (λ (f : Feature). region_score e.lines.now e.sheet.now.segments (candidate e.sheet.now s) f) (candidate_is t (omega arith))
        ∙ ap (λ (l : List Qualifier). region_score l e.sheet.now.segments (candidate e.sheet.now s) (candidate e.sheet.now t)) h.lines))

    pub total_small : nat_abs (region_score e.sheet.now.qualifiers e.sheet.now.segments (candidate e.sheet.now s) (candidate e.sheet.now t)) ≤ 640000000000000
    total_small =
        region_size e.sheet.now h.ranged (candidate e.sheet.now s) (candidate e.sheet.now t) (placed e.sheet.now h.ranged s) (placed e.sheet.now h.ranged t)

  pub held_narrowed : (source target : ℕ) → Each (Narrowed e.slots.now e.narrowed.now (position e.candidates.now t)) (keep (of_types source target) e.lines.now)
  held_narrowed source target =
      each_kept (Narrowed e.slots.now e.narrowed.now (position e.candidates.now t)) (of_types source target) e.lines.now
      (rw (position_is t (omega arith), h.lines) h.narrowed)
