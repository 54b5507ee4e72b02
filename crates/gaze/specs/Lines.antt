-- The sheet that a value of the type `Sheet` is, and what is true of every such value.
use Rattle.gaze.specs.Sheet.{Sheet}
use Rattle.gaze.specs.Ranges.{InRange}
use Rattle.gaze.specs.declared.Sheet.TheInside.{Inside}

abbrev pub lines_of : Inside → Sheet
lines_of s =
    record {
      sequence_length = s.bases;
      points = s.points.items;
      rules = s.rules.items;
      qualifiers = s.qualifiers.items;
      features = s.features.items;
      segments = s.segments.items;
    }

abbrev pub IsInRange : Inside → Type 0
IsInRange s = InRange (lines_of s)
