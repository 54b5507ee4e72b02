-- What is true of running sums that are looked up.
use Rattle.std.specs.Prelude.{◌≡◌, true, false, ℕ, ◌<◌, length, get_or}
use Rattle.sums.specs.declared.RunningSums.TheInside.{Inside}
use Rattle.sums.specs.Sums.{Places}
use Rattle.sums.specs.Table.{Filled}

-- The table has a filled row for each slot that is summed up. Where none is, it may be empty.
pub record IsHeld (sums : Inside) : Type 0 where
  pub places : (j : ℕ) → j < 64 → get_or sums.summed j false ≡ true → Places sums.candidates.now
  pub long : (j : ℕ) → j < 64 → get_or sums.summed j false ≡ true → j < length sums.table.now
  pub filled : Filled sums.summed sums.slots.now sums.candidates.now sums.table.now
