-- A sheet number: 1 to 9 decimal digits with no leading zero (0 alone is fine), with "-" before it if negative; "-0" is malformed.
-- A word is a list of bytes.
use Rattle.std.specs.Prelude.{Bool, true, not, ◌&&◌, cond, List, [], ◌∷◌, ℕ, ◌+◌, ◌-◌, ◌*◌, ltb, leb, eqb, ℤ, pos, neg_ℤ, length, get_or, Option, Some, None}

-- "0" to "9"
abbrev pub is_digit : ℕ → Bool
is_digit byte = leb 48 byte && leb byte 57

unfoldable pub all_digits : List ℕ → Bool
all_digits [] = true
all_digits (byte ∷ word) = is_digit byte && all_digits word

-- the number that digits write, after digits whose number is v
unfoldable pub value_from : ℕ → List ℕ → ℕ
value_from v [] = v
value_from v (digit ∷ digits) = value_from (10 * v + (digit - 48)) digits

abbrev pub value : List ℕ → ℕ
value digits = value_from 0 digits

-- a "0" with more after it
unfoldable pub leading_zero : List ℕ → Bool
leading_zero word = ltb 1 (length word) && eqb (get_or word 0 0) 48

-- 1 to 9 digits with no leading zero
unfoldable pub plain : List ℕ → Bool
plain word = leb 1 (length word) && leb (length word) 9 && not (leading_zero word) && all_digits word

-- the number that a word with no sign writes, if it writes one
unfoldable pub unsigned : List ℕ → Option ℤ
unsigned word = cond (plain word) (Some (pos (value word))) None

-- the number that "-" and this word write: "-0" is malformed
unfoldable pub negative : List ℕ → Option ℤ
negative word = cond (plain word && not (eqb (value word) 0)) (Some (neg_ℤ (pos (value word)))) None

-- the number that a word writes, if it writes one
unfoldable pub number : List ℕ → Option ℤ
number [] = None
number (byte ∷ word) = cond (eqb byte 45) (negative word) (unsigned (byte ∷ word))
