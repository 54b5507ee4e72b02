-- What is held for the steps into one target.
use Rattle.std.specs.Prelude.{◌≡◌}
use Rattle.gaze.specs.Sheet.{candidate}
use Rattle.regions.specs.Evidence.{Holds}
use Rattle.step.specs.declared.aim.Target.TheInside.{Inside}

pub record IsAimed (t : Inside) : Type 0 where
  pub held : Holds t.evidence t.number
  pub rules : t.rules.now ≡ t.evidence.sheet.now.rules
  pub curves : t.curves.now ≡ t.evidence.sheet.now.points
  pub features : t.interrupters.features ≡ t.evidence.sheet.now.features
  pub target : t.interrupters.target ≡ candidate t.evidence.sheet.now t.number
  pub feature : t.feature ≡ candidate t.evidence.sheet.now t.number
