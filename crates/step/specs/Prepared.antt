-- What the tables of a sheet hold.
use Rattle.std.specs.Prelude.{◌≡◌, ◌≤◌}
use Rattle.gaze.specs.Lists.{Each}
use Rattle.gaze.specs.Ranges.{InRange}
use Rattle.gaze.specs.Sheet.{candidates}
use Rattle.slots.specs.Slots.{slots_of}
use Rattle.step.specs.Steps.{SlotsMarked}
use Rattle.step.specs.declared.prepared.Prepared.TheInside.{Inside}

pub record IsPrepared (p : Inside) : Type 0 where
  pub ranged : InRange p.sheet.now
  pub candidates : p.candidates.items ≡ candidates p.sheet.now
  pub rules : p.rules ≡ p.sheet.now.rules
  pub curves : p.curves ≡ p.sheet.now.points
  pub lines : p.lines ≡ p.sheet.now.qualifiers
  pub slots : p.slots ≡ slots_of p.sheet.now.segments
  pub narrowed : Each (λ q. 2 ≤ q.matching → SlotsMarked p.narrowed q) p.sheet.now.qualifiers
  pub summed : Each (λ q. q.method ≡ 2 → q.matching ≡ 0 → SlotsMarked p.summed q) p.sheet.now.qualifiers
