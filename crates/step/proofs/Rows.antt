-- A row of steps from the first source on.
use mathlib.Core.Path.{◌≡◌}
use mathlib.Core.List.{List}
use Prim.Native.Nat.{ℕ, ◌+◌, ◌≤◌, ◌<◌}
use native.Mathlib.Omega.{arith}
use lib.IntN.{ℤ}
use lib.ListN.{length, get_or}
use Rattle.std.specs.Prelude.{Option, None}
use Rattle.gaze.specs.Chain.{Steps}
use Rattle.chains.specs.Tables.{Row, step}

-- where it has a place for each source before the target
pub whole_row : {m : Steps} {t : ℕ} {row : List (Option ℤ)} → t ≤ length row
    → ((i : ℕ) → i < length row → get_or row i None ≡ step m (0 + i) t) → Row m t row
whole_row long steps_are = record { is = λ s lt. let same : 0 + s ≡ s = omega arith in rw same at (steps_are s (omega arith)) }
