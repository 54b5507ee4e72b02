-- The table of the sheet: each group's letter, how many fields its lines have, how many lines it has at most, and the ranges of the fields. A row holds
-- a line's numbers from its place 0 on.
use Rattle.std.specs.Prelude.{Bool, not, ◌&&◌, cond, List, ℕ, ℤ, pos, negsuc, get_or}
use Rattle.std.specs.Int.Signed.{le_z}

-- The groups, each by its letter.
pub data Letter : Type 0 where
  L : Letter
  P : Letter
  R : Letter
  Q : Letter
  F : Letter
  S : Letter

abbrev pub byte_of : Letter → ℕ
byte_of L = 76
byte_of P = 80
byte_of R = 82
byte_of Q = 81
byte_of F = 70
byte_of S = 83

abbrev pub fields_of : Letter → ℕ
fields_of L = 1
fields_of P = 3
fields_of R = 9
fields_of Q = 6
fields_of F = 3
fields_of S = 4

abbrev pub most_of : Letter → ℕ
most_of L = 1
most_of P = 512
most_of R = 256
most_of Q = 256
most_of F = 1024
most_of S = 1024

-- what stands at a place of a row
abbrev pub field : List ℤ → ℕ → ℤ
field row place = get_or row place (pos 0)

-- low ≤ x ≤ high
unfoldable pub between : ℤ → ℤ → ℤ → Bool
between low high x = le_z low x && le_z x high

-- a score or a penalty: −10,000,000..10,000,000
unfoldable pub thousandths : ℤ → Bool
thousandths x = le_z (negsuc 9999999) x && le_z x (pos 10000000)

-- 0 or 2..31
abbrev pub source_type : ℤ → Bool
source_type x = between (pos 0) (pos 31) x && not (between (pos 1) (pos 1) x)

-- Kind, type and remainder stand at places 5, 6 and 7. For kind 0, type and remainder must both be 0.
unfoldable pub interruption : List ℤ → Bool
interruption row =
    cond (between (pos 0) (pos 0) (field row 5))
    (between (pos 0) (pos 0) (field row 6) && between (pos 0) (pos 0) (field row 7))
    (between (pos 1) (pos 2) (field row 5) && between (pos 2) (pos 31) (field row 6) && between (pos 0) (pos 2) (field row 7))

-- Every field lies in its range, in a sequence of so many bases.
unfoldable pub in_range : Letter → ℕ → List ℤ → Bool
in_range L bases row = between (pos 1) (pos 4000000) (field row 0)
in_range P bases row = between (pos 1) (pos 16) (field row 0) && between (pos 0) (pos 4000000) (field row 1) && thousandths (field row 2)
in_range R bases row =
    source_type (field row 0)
    && between (pos 1) (pos 31) (field row 1)
    && between (pos 0) (pos 4000000) (field row 2)
    && between (pos 0) (pos 4000000) (field row 3)
    && le_z (field row 2) (field row 3)
    && between (pos 0) (pos 3) (field row 4)
    && interruption row
    && between (pos 0) (pos 17) (field row 8)
in_range Q bases row =
    source_type (field row 0)
    && between (pos 1) (pos 31) (field row 1)
    && between (pos 0) (pos 15) (field row 2)
    && between (pos 1) (pos 2) (field row 3)
    && between (pos 0) (pos 3) (field row 4)
    && between (pos 0) (pos 3) (field row 5)
in_range F bases row = between (pos 2) (pos 31) (field row 0) && between (pos 1) (pos bases) (field row 1) && thousandths (field row 2)
in_range S bases row =
    between (pos 0) (pos 15) (field row 0)
    && between (pos 1) (pos bases) (field row 1)
    && between (pos 1) (pos bases) (field row 2)
    && le_z (field row 1) (field row 2)
    && thousandths (field row 3)
