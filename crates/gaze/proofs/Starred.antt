-- The starred bench values, one table: each is a theorem about the definitions. Chains are shown to be the best, and not only listed.
use Rattle.std.specs.Prelude.{Err}
use mathlib.Core.Path.{◌≡◌, refl, ap, subst}
use mathlib.Core.List.{List, [], ◌∷◌}
use Prim.Native.Nat.{ℕ, ◌≤◌, ◌<◌, min}
use native.Mathlib.Omega.{arith}
use lib.Dec.{T}
use lib.IntN.{ℤ, pos, negsuc}
use Rattle.gaze.specs.declared.Point.{Point}
use Rattle.gaze.specs.declared.Interruption.TheVariants.{None, FromSource}
use Rattle.gaze.specs.declared.Rule.{Rule}
use Rattle.gaze.specs.declared.Qualifier.{Qualifier}
use Rattle.gaze.specs.declared.Feature.{Feature}
use Rattle.gaze.specs.declared.Segment.{Segment}
use Rattle.gaze.specs.declared.Fault.TheVariants.{BadStep}
use Rattle.gaze.specs.Lists.{keep, first_of, some_of, Adjacent}
use Rattle.gaze.specs.Chain.{first, last, total, Valid, Best, legal_step, Judged}
use Rattle.gaze.specs.Sheet.{Sheet, candidates, candidate, end_number}
use Rattle.gaze.specs.Penalty.{past, interpolated, intron_points, intron_penalty, penalty}
use Rattle.gaze.specs.SegmentScore.{sum_over, segment_score}
use Rattle.gaze.specs.Step.{rule_of, legal, gain, steps}
use Rattle.gaze.proofs.Table.{trace_back}
use Rattle.gaze.proofs.Programme.{consider, choose, fill, reached, answer, answer_best, answer_none}

-- ---- sheet one, and what is changed in it: 2 is start, 3 is stop
abbrev start : ℕ → ℤ → Feature
start position score = record { kind = 2; position = position; score = score }

abbrev stop : ℕ → ℤ → Feature
stop position score = record { kind = 3; position = position; score = score }

abbrev free_rule : ℕ → ℕ → Rule
free_rule source target =
    record { source = source; target = target; min = 0; max = 100; phase = 3; interruption = None; function = 0 }

abbrev coding_rule : Rule
coding_rule =
    record { source = 2; target = 3; min = 5; max = 100; phase = 2; interruption = FromSource 3 2; function = 1 }

abbrev point : ℕ → ℤ → Point
point distance penalty = record { function = 1; distance = distance; penalty = penalty }

abbrev segment : ℕ → ℕ → ℤ → Segment
segment start end score = record { kind = 0; start = start; end = end; score = score }

abbrev qualifier : ℕ → Qualifier
qualifier method = record { source = 2; target = 3; kind = 0; method = method; phase = 3; matching = 0 }

abbrev sheet : List Rule → List Feature → Sheet
sheet rules features =
    record {
      sequence_length = 100;
      points = point 0 (pos 1000) ∷ point 20 (pos 0) ∷ [];
      rules = rules;
      qualifiers = qualifier 2 ∷ [];
      features = features;
      segments = segment 10 21 (pos 2400) ∷ [];
    }

abbrev all_rules : List Rule
all_rules = free_rule 0 1 ∷ free_rule 0 2 ∷ coding_rule ∷ free_rule 3 1 ∷ []

-- with the scores of the starts at 10 and at 13
abbrev with_starts : ℤ → ℤ → Sheet
with_starts x y = sheet all_rules (start 10 x ∷ start 13 y ∷ stop 24 (pos 500) ∷ stop 39 (pos 3000) ∷ [])

abbrev sheet_one : Sheet
sheet_one = with_starts (pos 1500) (pos 200)

abbrev without_stop_24 : Sheet
without_stop_24 = sheet all_rules (start 10 (pos 1500) ∷ start 13 (pos 200) ∷ stop 39 (pos 3000) ∷ [])

abbrev without_ends : Sheet
without_ends =
    sheet (free_rule 0 2 ∷ coding_rule ∷ []) (start 10 (pos 1500) ∷ start 13 (pos 200) ∷ stop 24 (pos 500) ∷ stop 39 (pos 3000) ∷ [])

abbrev slope : List Point
slope = point 0 (pos 0) ∷ point 3 (negsuc 9) ∷ []

abbrev Wins : Sheet → List ℕ → ℤ → Type 0
Wins sheet chain score = Best (steps sheet) (end_number sheet) chain × (total (steps sheet) chain ≡ score)

-- ---- the table
pub record Starred : Type 0 where
  pub one : Wins sheet_one (0 ∷ 1 ∷ 3 ∷ 5 ∷ []) (pos 4100)
  pub start_10_scored_low : Wins (with_starts (negsuc 4999) (pos 200)) (0 ∷ 2 ∷ 3 ∷ 5 ∷ []) (pos 2050)
  pub tie : Wins (with_starts (pos 1500) (pos 2250)) (0 ∷ 2 ∷ 3 ∷ 5 ∷ []) (pos 4100)
  pub tied : total (steps (with_starts (pos 1500) (pos 2250))) (0 ∷ 1 ∷ 3 ∷ 5 ∷ []) ≡ pos 4100
  pub interrupted : Judged (steps sheet_one) 5 (0 ∷ 1 ∷ 4 ∷ 5 ∷ []) (Err (BadStep 2))
  pub stop_24_deleted : Wins without_stop_24 (0 ∷ 1 ∷ 3 ∷ 4 ∷ []) (pos 6900)
  pub no_structure : (c : List ℕ) → Valid (steps without_ends) 5 c → ⊥
  pub slope_1 : penalty slope 1 1 ≡ negsuc 3
  pub slope_2 : penalty slope 1 2 ≡ negsuc 6
  pub slope_3 : penalty slope 1 3 ≡ negsuc 9
  pub slope_4 : penalty slope 1 4 ≡ negsuc 9
  pub share_alone : segment_score (qualifier 1) 10 12 (segment 10 21 (negsuc 2400) ∷ []) ≡ negsuc 600
  pub share_with_far : segment_score (qualifier 1) 10 12 (segment 10 21 (negsuc 2400) ∷ segment 50 60 (pos 5) ∷ []) ≡ pos 0
  pub rates_floored : segment_score (qualifier 2) 10 12 (segment 10 12 (pos 100) ∷ []) ≡ pos 99
  pub intron_20 : penalty [] 17 20 ≡ pos 6000
  pub intron_48 : penalty [] 17 48 ≡ pos 1500
  pub intron_100 : penalty [] 17 100 ≡ pos 191
  pub intron_from_1023 : (d : ℕ) → 1023 ≤ d → penalty [] 17 d ≡ pos 4000

pub starred : Starred
unfolding keep first_of some_of Adjacent first last total candidates candidate past interpolated intron_penalty penalty sum_over rule_of legal gain trace_back consider choose fill reached answer
starred =
    record {
      one = (answer_best (steps sheet_one) 5 tt, refl);
      start_10_scored_low = (answer_best (steps (with_starts (negsuc 4999) (pos 200))) 5 tt, refl);
      tie = (answer_best (steps (with_starts (pos 1500) (pos 2250))) 5 tt, refl);
      tied = refl;
      interrupted = (
        record { starts = refl; ends = refl; rises = (omega arith, (omega arith, (omega arith, tt))) },
        record {
          from_one = omega arith;
          within = omega arith;
          bad = tt;
          before = λ i h k. subst (λ (j : ℕ). T (legal_step (steps sheet_one) (0 ∷ 1 ∷ 4 ∷ 5 ∷ []) j)) (only_one i h k) tt;
        },
      );
      stop_24_deleted = (answer_best (steps without_stop_24) 4 tt, refl);
      no_structure = answer_none (steps without_ends) 5 tt;
      slope_1 = refl;
      slope_2 = refl;
      slope_3 = refl;
      slope_4 = refl;
      share_alone = refl;
      share_with_far = refl;
      rates_floored = refl;
      intron_20 = refl;
      intron_48 = refl;
      intron_100 = refl;
      intron_from_1023 = λ d h. ap (interpolated intron_points) (lowest d h);
    }
  where
    only_one : (i : ℕ) → 0 < i → i < 2 → 1 ≡ i
    only_one i h k = omega arith

    lowest : (d : ℕ) → 1023 ≤ d → min d 1023 ≡ 1023
    lowest d h = omega arith
