-- What is true of every value of the type `Lines`.
use Rattle.std.specs.Prelude.{map}
use Rattle.gaze.specs.Ranges.{Group, QualifierRanges, qualifier_keys}
use Rattle.sorted.specs.Sorted.{FirstRows}
use Rattle.lines.specs.Lines.{pair}
use Rattle.lines.specs.declared.Lines.TheInside.{Inside}

pub record IsTabled (l : Inside) : Type 0 where
  pub qualifiers : Group 256 QualifierRanges qualifier_keys l.qualifiers.now
  pub first : FirstRows (map pair l.qualifiers.now) l.first
