-- The definitions computed on examples.
use mathlib.Core.Bool.{true, false}
use mathlib.Core.List.{List, [], ◌∷◌}
use mathlib.Core.Path.{◌≡◌, refl}
use Prim.Native.Char.{code}
use Prim.Native.String.{String}
use lib.IntN.{ℤ, pos, negsuc}
use Rattle.std.proofs.Common.{Option, Some, None}
use Rattle.text.specs.Number.{all_digits, value_from, leading_zero, plain, unsigned, negative, number}
use Rattle.text.specs.Words.{before, onwards, next_place}
use Rattle.text.specs.Fields.{fields, line}
use Rattle.text.specs.Lines.{lines}
use Rattle.text.proofs.Ascii.{ascii}

-- ---- numbers; `negsuc 4` is -5
abbrev read : String → Option ℤ
read word = number (ascii word)

numbers : (read "0" ≡ Some (pos 0))
    × (read "-5" ≡ Some (negsuc 4))
    × (read "123456789" ≡ Some (pos 123456789))
    × (read "-999999999" ≡ Some (negsuc 999999998))
unfolding ascii number negative unsigned plain leading_zero all_digits value_from
numbers = (refl, refl, refl, refl)

not_numbers : (read "" ≡ None)
    × (read "-" ≡ None)
    × (read "-0" ≡ None)
    × (read "007" ≡ None)
    × (read "-07" ≡ None)
    × (read "+5" ≡ None)
    × (read "--5" ≡ None)
    × (read "1234567890" ≡ None)
    × (read "5\0" ≡ None)
unfolding ascii number negative unsigned plain leading_zero all_digits value_from
not_numbers = (refl, refl, refl, refl, refl, refl, refl, refl, refl)

-- ---- lines of the letter L and one field, with spaces between
abbrev read_length : String → Option (List ℤ)
read_length bytes = line (code "L") (code " ") 1 (ascii bytes)

a_length : read_length "L 100" ≡ Some (pos 100 ∷ [])
unfolding ascii line fields before onwards number negative unsigned plain leading_zero all_digits value_from
a_length = refl

not_lengths : (read_length "" ≡ None)
    × (read_length "L" ≡ None)
    × (read_length "L " ≡ None)
    × (read_length "l 100" ≡ None)
    × (read_length "L  100" ≡ None)
    × (read_length "L 100 " ≡ None)
    × (read_length "L 100 5" ≡ None)
    × (read_length "L\t100" ≡ None)
    × (read_length "L 100\r" ≡ None)
    × (read_length "L 100\0" ≡ None)
unfolding ascii line fields before onwards number negative unsigned plain leading_zero all_digits value_from
not_lengths = (refl, refl, refl, refl, refl, refl, refl, refl, refl, refl)

two_fields : line (code "T") (code " ") 2 (ascii "T 6 -1") ≡ Some (pos 6 ∷ negsuc 0 ∷ [])
unfolding ascii line fields before onwards number negative unsigned plain leading_zero all_digits value_from
two_fields = refl

-- ---- words and lines
places : (next_place (code " ") 0 (ascii "ab cd") ≡ 2) × (next_place (code " ") 2 (ascii "ab cd") ≡ 2) × (next_place (code " ") 3 (ascii "ab cd") ≡ 5)
unfolding ascii next_place before
places = (refl, refl, refl)

some_lines : lines (ascii "ab\n\nc\n")
    ≡ record { bytes = ascii "ab"; ended = true } ∷ record { bytes = []; ended = true } ∷ record { bytes = ascii "c"; ended = true } ∷ []
unfolding ascii lines
some_lines = refl

not_ended : lines (ascii "ab\nc") ≡ record { bytes = ascii "ab"; ended = true } ∷ record { bytes = ascii "c"; ended = false } ∷ []
unfolding ascii lines
not_ended = refl
