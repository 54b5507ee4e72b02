-- Which record a line is, by the numbers of its fields; and what a line's bytes say.
use Rattle.std.specs.Prelude.{cond, eqb, List, ℕ, ℤ, nat_abs, Option, Some, None as Nothing, Result, Ok, Err}
use Rattle.gaze.specs.declared.Point.{Point}
use Rattle.gaze.specs.declared.Interruption.{Interruption}
use Rattle.gaze.specs.declared.Interruption.TheVariants.{None, FromSource, FromTarget}
use Rattle.gaze.specs.declared.Rule.{Rule}
use Rattle.gaze.specs.declared.Qualifier.{Qualifier}
use Rattle.gaze.specs.declared.Feature.{Feature}
use Rattle.gaze.specs.declared.Segment.{Segment}
use Rattle.text.specs.Fields.{line}
use Rattle.refusal.specs.declared.Reason.{Reason}
use Rattle.refusal.specs.declared.Reason.TheVariants.{Malformed, Range}
use Rattle.kinds.specs.declared.Length.{Length}
use Rattle.kinds.specs.Kinds.{Letter, byte_of, fields_of, field, in_range}

-- The number of no sign at a place of a row.
abbrev pub number : List ℤ → ℕ → ℕ
number row place = nat_abs (field row place)

abbrev pub length_of : List ℤ → Length
length_of row = record { bases = number row 0 }

abbrev pub point_of : List ℤ → Point
point_of row = record { function = number row 0; distance = number row 1; penalty = field row 2 }

-- Interruption kind 0 is none, 1 source, 2 target.
abbrev pub interruption_of : ℕ → ℕ → ℕ → Interruption
interruption_of kind type remainder = cond (eqb kind 0) None (cond (eqb kind 1) (FromSource type remainder) (FromTarget type remainder))

abbrev pub rule_of : List ℤ → Rule
rule_of row =
    record {
      source = number row 0;
      target = number row 1;
      min = number row 2;
      max = number row 3;
      phase = number row 4;
      interruption = interruption_of (number row 5) (number row 6) (number row 7);
      function = number row 8;
    }

abbrev pub qualifier_of : List ℤ → Qualifier
qualifier_of row =
    record { source = number row 0; target = number row 1; kind = number row 2; method = number row 3; phase = number row 4; matching = number row 5 }

abbrev pub feature_of : List ℤ → Feature
feature_of row = record { kind = number row 0; position = number row 1; score = field row 2 }

abbrev pub segment_of : List ℤ → Segment
segment_of row = record { kind = number row 0; start = number row 1; end = number row 2; score = field row 3 }

-- The record that a row of numbers is, where every number lies in its range.
unfoldable pub ranged : {A : Type 0} → Letter → (List ℤ → A) → ℕ → List ℤ → Option A
ranged letter of bases row = cond (in_range letter bases row) (Some (of row)) Nothing

abbrev pub or_out_of_range : {A : Type 0} → Option A → Result A Reason
or_out_of_range (Some a) = Ok a
or_out_of_range Nothing = Err Range

abbrev pub of_row : {A : Type 0} → Letter → (List ℤ → A) → ℕ → Option (List ℤ) → Result A Reason
of_row letter of bases (Some row) = or_out_of_range (ranged letter of bases row)
of_row letter of bases Nothing = Err Malformed

-- What a line of a group says, by its bytes without the LF, in a sequence of so many bases. 32 is the space between fields.
unfoldable pub line_of : {A : Type 0} → Letter → (List ℤ → A) → ℕ → List ℕ → Result A Reason
line_of letter of bases bytes = of_row letter of bases (line (byte_of letter) 32 (fields_of letter) bytes)
