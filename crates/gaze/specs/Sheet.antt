-- A sheet, and its candidates.
use Rattle.std.specs.Prelude.{List, [], ◌∷◌, ◌++◌, ℕ, suc, pos, length, get_or}
use Rattle.gaze.specs.declared.Point.{Point}
use Rattle.gaze.specs.declared.Rule.{Rule}
use Rattle.gaze.specs.declared.Qualifier.{Qualifier}
use Rattle.gaze.specs.declared.Feature.{Feature}
use Rattle.gaze.specs.declared.Segment.{Segment}

-- The L line's number, and the P, R, Q, F and S lines in order.
pub record Sheet : Type 0 where
  pub sequence_length : ℕ
  pub points : List Point
  pub rules : List Rule
  pub qualifiers : List Qualifier
  pub features : List Feature
  pub segments : List Segment

abbrev pub begin : Feature
begin = record { kind = 0; position = 1; score = pos 0 }

abbrev pub end : Sheet → Feature
end sheet = record { kind = 1; position = sheet.sequence_length; score = pos 0 }

-- Candidates are numbered 0 to n+1: BEGIN, the F lines in order, END.
unfoldable pub candidates : Sheet → List Feature
candidates sheet = begin ∷ (sheet.features ++ (end sheet ∷ []))

unfoldable pub candidate : Sheet → ℕ → Feature
candidate sheet k = get_or (candidates sheet) k (end sheet)

abbrev pub end_number : Sheet → ℕ
end_number sheet = suc (length sheet.features)
