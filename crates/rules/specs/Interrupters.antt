-- The features of a sheet and one target, at which steps end.
use Rattle.std.specs.Prelude.{List}
use Rattle.gaze.specs.declared.Feature.{Feature}

pub record Ended : Type 0 where
  pub features : List Feature
  pub target : Feature
