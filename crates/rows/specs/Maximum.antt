-- A maximum that is taken number by number: none before the first.
use Rattle.std.specs.Prelude.{Bool, true, ◌||◌, ℤ, pos, Option, None, Some}
use Rattle.std.specs.Int.Signed.{lt_z}
use Rattle.whole.specs.Whole.{larger_of}

-- The maximum with one more number.
abbrev pub larger_with : Option ℤ → ℤ → ℤ
larger_with None z = z
larger_with (Some value) z = larger_of value z

-- Whether 0 or a number is above the maximum.
abbrev pub can_win : Option ℤ → ℤ → Bool
can_win None z = true
can_win (Some value) z = lt_z value (pos 0) || lt_z value z
