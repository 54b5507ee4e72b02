-- What a table of function 17 holds.
use Rattle.std.specs.Prelude.{◌≡◌, List, ℕ, ◌<◌, ℤ, pos, get_or}
use Rattle.gaze.specs.Penalty.{intron_penalty}

-- One number for each distance from 0 to 1,023.
pub record IntronTable (table : List ℤ) : Type 0 where
  pub at : (d : ℕ) → d < 1024 → get_or table d (pos 0) ≡ intron_penalty d
