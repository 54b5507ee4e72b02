-- What is true of every value of the type `Curves`.
use Rattle.std.specs.Prelude.{map}
use Rattle.gaze.specs.Ranges.{Group, PointRanges, point_keys}
use Rattle.sorted.specs.Sorted.{FirstRows}
use Rattle.penalty.specs.Intron.{IntronTable}
use Rattle.penalty.specs.declared.Curves.TheInside.{Inside}

pub record IsTabled (c : Inside) : Type 0 where
  pub points : Group 512 PointRanges point_keys c.points.now
  pub first : FirstRows (map (λ p. p.function) c.points.now) c.first
  pub intron : IntronTable c.intron
