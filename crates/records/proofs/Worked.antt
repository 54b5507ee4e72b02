-- Worked examples of a region over lent records, each a theorem about the definitions: the scope's starred scores, and the edges of each check.
use mathlib.Core.Path.{◌≡◌, refl}
use mathlib.Core.List.{[], ◌∷◌}
use Prim.Native.Nat.{ℕ}
use lib.IntN.{ℤ, pos, negsuc}
use Rattle.std.specs.Prelude.{Result, Ok, Err}
use Rattle.gaze.specs.declared.Segment.{Segment}
use Rattle.gaze.specs.Lists.{keep}
use Rattle.gaze.specs.SegmentScore.{sum_over}
use Rattle.refusal.specs.declared.Reason.{Reason}
use Rattle.refusal.specs.declared.Reason.TheVariants.{Range, Disorder}
use Rattle.refusal.specs.declared.Refusal.{Refusal}
use Rattle.kinds.specs.Kinds.{between, thousandths, in_range}
use Rattle.kinds.specs.Records.{ranged}
use Rattle.kinds.specs.Order.{order}
use Rattle.records.specs.declared.Region.{Region}
use Rattle.records.specs.Records.{row_of, record_fault, checked}
use Rattle.records.specs.Answers.{asked_by, region_answer}

abbrev region : ℕ → ℕ → ℕ → Region
region method source target = record { source = source; target = target; kind = 0; method = method; phase = 3; matching = 0 }

abbrev segment : ℕ → ℕ → ℤ → Segment
segment start end score = record { kind = 0; start = start; end = end; score = score }

abbrev low : Segment
low = segment 10 21 (negsuc 2400)

abbrev refused : Reason → ℕ → Result ℤ Refusal
refused reason place = Err (record { reason = reason; place = place })

pub record Worked : Type 0 where
  pub share_alone : region_answer (region 1 10 12) (low ∷ []) ≡ Ok (negsuc 600)
  pub share_with_far : region_answer (region 1 10 12) (low ∷ segment 50 60 (pos 5) ∷ []) ≡ Ok (pos 0)
  pub rates_floored : region_answer (region 2 10 12) (segment 10 12 (pos 100) ∷ []) ≡ Ok (pos 99)
  pub no_records : region_answer (region 1 10 12) [] ≡ Ok (pos 0)
  pub region_turned : region_answer (region 1 12 10) (low ∷ []) ≡ refused Range 0
  pub region_too_far : region_answer (region 1 10 4000001) (low ∷ []) ≡ refused Range 0
  pub no_method : region_answer (region 3 10 12) (low ∷ []) ≡ refused Range 0
  pub last_end : region_answer (region 1 10 12) (low ∷ segment 50 4000000 (pos 5) ∷ []) ≡ Ok (pos 0)
  pub end_too_far : region_answer (region 1 10 12) (low ∷ segment 50 4000001 (pos 5) ∷ []) ≡ refused Range 2
  pub repeated : region_answer (region 1 10 12) (low ∷ segment 10 21 (pos 5) ∷ []) ≡ refused Disorder 2
  pub range_before_order : region_answer (region 1 10 12) (low ∷ segment 10 9 (pos 5) ∷ []) ≡ refused Range 2

pub worked : Worked
unfolding keep sum_over between thousandths in_range ranged order row_of record_fault checked asked_by region_answer
worked =
    record {
      share_alone = refl;
      share_with_far = refl;
      rates_floored = refl;
      no_records = refl;
      region_turned = refl;
      region_too_far = refl;
      no_method = refl;
      last_end = refl;
      end_too_far = refl;
      repeated = refl;
      range_before_order = refl;
    }
