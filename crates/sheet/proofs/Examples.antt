-- Worked examples, one for each way to be refused, at the first and at the last place where it can arise, as small as can be; and sheet one, whole.
use Rattle.std.proofs.Common.{[], ◌∷◌, ◌≡◌, refl, ℕ, pos, Ok, Err}
use Prim.Native.String.{String}
use Rattle.text.specs.Number.{all_digits, value_from, leading_zero, plain, unsigned, negative, number}
use Rattle.text.specs.Words.{before, onwards}
use Rattle.text.specs.Fields.{fields, line}
use Rattle.text.specs.Lines.{lines}
use Rattle.text.proofs.Ascii.{ascii}
use Rattle.refusal.specs.declared.Reason.{Reason}
use Rattle.refusal.specs.declared.Reason.TheVariants.{Size, Trailer as NoTrailer, Malformed, Range, Disorder, Link, Crowded}
use Rattle.gaze.specs.declared.Rule.{Rule}
use Rattle.gaze.specs.declared.Interruption.TheVariants.{None, FromSource}
use Rattle.gaze.specs.Lists.{some_of}
use Rattle.gaze.specs.Sheet.{Sheet}
use Rattle.kinds.specs.Kinds.{between, thousandths, interruption, in_range}
use Rattle.kinds.specs.Records.{ranged, line_of}
use Rattle.kinds.specs.Order.{order}
use Rattle.group.specs.Group.{in_turn, read}
use Rattle.trailer.specs.Trailer.{begins, last_begin, offset, offsets_of, trailer_of}
use Rattle.links.specs.Links.{has_rule, has_points, linked}
use Rattle.sheet.specs.Reading.{of_groups, reading}

-- The text is refused with this reason and place.
abbrev Refused : String → Reason → ℕ → Type 0
Refused text reason place = reading (ascii text) ≡ Err (record { reason = reason; place = place })

-- Size: no bytes.
empty :
    Refused "" Size 0
unfolding ascii all_digits value_from leading_zero plain unsigned negative number before onwards fields line lines some_of between thousandths interruption in_range ranged line_of order in_turn read begins last_begin offset offsets_of trailer_of has_rule has_points linked of_groups reading
empty = refl

-- Trailer: no LF at the end, a last line that is no T line, and offsets that are wrong.
trailers :
    (Refused "T" NoTrailer 0)
    × (Refused "L 1\nT 4 4 4 4 4" NoTrailer 0)
    × (Refused "L 1\nT 4 4 4 4 4\n\n" NoTrailer 0)
    × (Refused "L 1\nL 2\n" NoTrailer 0)
    × (Refused "L 1\nT 4 4 4 4\n" NoTrailer 0)
    × (Refused "L 1\nT 4 4 4 4 4 4\n" NoTrailer 0)
    × (Refused "L 1\nT 4 4 4 4 04\n" NoTrailer 0)
    × (Refused "L 1\nT 4 4 4 4 -0\n" NoTrailer 0)
    × (Refused "L 1\nT 4 4 4 4 4 \n" NoTrailer 0)
    × (Refused "L 1\r\nT 5 5 5 5 5\r\n" NoTrailer 0)
unfolding ascii all_digits value_from leading_zero plain unsigned negative number before onwards fields line lines some_of between thousandths interruption in_range ranged line_of order in_turn read begins last_begin offset offsets_of trailer_of has_rule has_points linked of_groups reading
trailers = (refl, refl, refl, refl, refl, refl, refl, refl, refl, refl)

-- Below 1, falling, beyond the T line, inside a line; and every one at the T line, which is right but for the malformed line.
offsets :
    (Refused "T 0 0 0 0 0\n" NoTrailer 0)
    × (Refused "L 1\nT 0 4 4 4 4\n" NoTrailer 0)
    × (Refused "L 1\nT -4 4 4 4 4\n" NoTrailer 0)
    × (Refused "L 1\nL 2\nT 8 4 8 8 8\n" NoTrailer 0)
    × (Refused "L 1\nT 4 4 4 4 16\n" NoTrailer 0)
    × (Refused "L 1\nT 2 4 4 4 4\n" NoTrailer 0)
    × (Refused "L 1\nT 4 4 4 4 5\n" NoTrailer 0)
    × (Refused "L\nT 2 2 2 2 2\n" Malformed 0)
unfolding ascii all_digits value_from leading_zero plain unsigned negative number before onwards fields line lines some_of between thousandths interruption in_range ranged line_of order in_turn read begins last_begin offset offsets_of trailer_of has_rule has_points linked of_groups reading
offsets = (refl, refl, refl, refl, refl, refl, refl, refl)

-- Malformed: at the first line and at the last. An empty line is a line; a second trailer stands in group S.
malformed :
    (Refused "\nT 1 1 1 1 1\n" Malformed 0)
    × (Refused "l 1\nT 4 4 4 4 4\n" Malformed 0)
    × (Refused "L -0\nT 5 5 5 5 5\n" Malformed 0)
    × (Refused "L 01\nT 5 5 5 5 5\n" Malformed 0)
    × (Refused "L 1000000000\nT 13 13 13 13 13\n" Malformed 0)
    × (Refused "L 1\r\nT 5 5 5 5 5\n" Malformed 0)
    × (Refused "L\t1\nT 4 4 4 4 4\n" Malformed 0)
    × (Refused "L 1 1\nT 6 6 6 6 6\n" Malformed 0)
    × (Refused "L 1\n\nT 4 4 4 4 4\n" Malformed 4)
    × (Refused "L 1\nF 2 1 0\nT 4 4 4 4 4\n" Malformed 4)
    × (Refused "L 1\nT 4 4 4 4 4\nT 4 4 4 4 4\n" Malformed 4)
unfolding ascii all_digits value_from leading_zero plain unsigned negative number before onwards fields line lines some_of between thousandths interruption in_range ranged line_of order in_turn read begins last_begin offset offsets_of trailer_of has_rule has_points linked of_groups reading
malformed = (refl, refl, refl, refl, refl, refl, refl, refl, refl, refl, refl)

-- Crowded: a second L line, whatever its number; where it is malformed, that.
beyond :
    (Refused "L 1\nL 2\nT 8 8 8 8 8\n" Crowded 4)
    × (Refused "L 1\nL 0\nT 8 8 8 8 8\n" Crowded 4)
    × (Refused "L 1\nL -0\nT 9 9 9 9 9\n" Malformed 4)
unfolding ascii all_digits value_from leading_zero plain unsigned negative number before onwards fields line lines some_of between thousandths interruption in_range ranged line_of order in_turn read begins last_begin offset offsets_of trailer_of has_rule has_points linked of_groups reading
beyond = (refl, refl, refl)

-- Range: the sequence's length.
length :
    (Refused "L 0\nT 4 4 4 4 4\n" Range 0)
    × (Refused "L 4000001\nT 10 10 10 10 10\n" Range 0)
unfolding ascii all_digits value_from leading_zero plain unsigned negative number before onwards fields line lines some_of between thousandths interruption in_range ranged line_of order in_turn read begins last_begin offset offsets_of trailer_of has_rule has_points linked of_groups reading
length = (refl, refl)

-- Range: kind 0 asks for type and remainder 0; min is at most max; a source is not END and a target not BEGIN; a position, and a segment, end at the length.
ranges :
    (Refused "L 9\nP 17 0 0\nT 4 13 13 13 13\n" Range 4)
    × (Refused "L 9\nR 0 1 0 0 3 0 2 0 0\nT 4 4 24 24 24\n" Range 4)
    × (Refused "L 9\nR 0 1 0 0 3 1 0 0 0\nT 4 4 24 24 24\n" Range 4)
    × (Refused "L 9\nR 0 1 2 1 3 0 0 0 0\nT 4 4 24 24 24\n" Range 4)
    × (Refused "L 9\nR 1 1 0 0 3 0 0 0 0\nT 4 4 24 24 24\n" Range 4)
    × (Refused "L 9\nQ 0 0 0 1 3 0\nT 4 4 4 18 18\n" Range 4)
    × (Refused "L 9\nF 2 10 0\nT 4 4 4 4 13\n" Range 4)
    × (Refused "L 9\nF 2 9 10000001\nT 4 4 4 4 19\n" Range 4)
    × (Refused "L 9\nS 0 5 4 0\nT 4 4 4 4 4\n" Range 4)
    × (Refused "L 9\nS 0 9 10 0\nT 4 4 4 4 4\n" Range 4)
unfolding ascii all_digits value_from leading_zero plain unsigned negative number before onwards fields line lines some_of between thousandths interruption in_range ranged line_of order in_turn read begins last_begin offset offsets_of trailer_of has_rule has_points linked of_groups reading
ranges = (refl, refl, refl, refl, refl, refl, refl, refl, refl, refl)

-- Disorder: a repeat, and a step back, in each group; F by position first, S by start, end and type. A field out of range comes first.
orders :
    (Refused "L 9\nP 1 5 0\nP 1 5 1\nT 4 20 20 20 20\n" Disorder 12)
    × (Refused "L 9\nR 2 2 0 0 3 0 0 0 0\nR 0 3 0 0 3 0 0 0 0\nT 4 4 44 44 44\n" Disorder 24)
    × (Refused "L 9\nQ 2 3 1 1 3 0\nQ 2 3 1 2 3 0\nT 4 4 4 32 32\n" Disorder 18)
    × (Refused "L 9\nF 2 5 0\nF 2 5 1\nT 4 4 4 4 20\n" Disorder 12)
    × (Refused "L 9\nF 3 5 0\nF 2 5 0\nT 4 4 4 4 20\n" Disorder 12)
    × (Refused "L 9\nS 0 5 6 0\nS 1 5 5 0\nT 4 4 4 4 4\n" Disorder 14)
    × (Refused "L 9\nS 1 5 5 0\nS 1 5 5 1\nT 4 4 4 4 4\n" Disorder 14)
    × (Refused "L 9\nF 2 5 0\nF 2 5 -10000001\nT 4 4 4 4 28\n" Range 12)
unfolding ascii all_digits value_from leading_zero plain unsigned negative number before onwards fields line lines some_of between thousandths interruption in_range ranged line_of order in_turn read begins last_begin offset offsets_of trailer_of has_rule has_points linked of_groups reading
orders = (refl, refl, refl, refl, refl, refl, refl, refl)

-- Link: a Q line without its rule, before an R line without its points; both after every line has passed. Functions 0 and 17 want no point.
links :
    (Refused "L 9\nQ 2 3 0 1 3 0\nT 4 4 4 18 18\n" Link 4)
    × (Refused "L 9\nR 2 3 0 9 3 0 0 0 0\nQ 2 3 0 1 3 0\nQ 2 4 0 1 3 0\nT 4 4 24 52 52\n" Link 38)
    × (Refused "L 9\nR 2 3 0 9 3 0 0 0 1\nT 4 4 24 24 24\n" Link 4)
    × (Refused "L 9\nP 2 0 0\nR 0 2 0 9 3 0 0 0 17\nR 2 3 0 9 3 0 0 0 1\nT 4 12 53 53 53\n" Link 33)
    × (Refused "L 9\nR 2 3 0 9 3 0 0 0 1\nQ 2 4 0 1 3 0\nT 4 4 24 38 38\n" Link 24)
    × (Refused "L 9\nR 2 3 0 9 3 0 0 0 1\nS 0 10 10 0\nT 4 4 24 24 24\n" Range 24)
unfolding ascii all_digits value_from leading_zero plain unsigned negative number before onwards fields line lines some_of between thousandths interruption in_range ranged line_of order in_turn read begins last_begin offset offsets_of trailer_of has_rule has_points linked of_groups reading
links = (refl, refl, refl, refl, refl, refl)

-- A NUL byte fits no form.
nul : reading (76 ∷ 32 ∷ 49 ∷ 0 ∷ 10 ∷ ascii "T 5 5 5 5 5\n") ≡ Err (record { reason = Malformed; place = 0 })
unfolding ascii all_digits value_from leading_zero plain unsigned negative number before onwards fields line lines some_of between thousandths interruption in_range ranged line_of order in_turn read begins last_begin offset offsets_of trailer_of has_rule has_points linked of_groups reading
nul = refl

-- Groups may be empty: their offsets are the T line's own. The length may be 4,000,000.
bare : Sheet
bare = record { sequence_length = 4000000; points = []; rules = []; qualifiers = []; features = []; segments = [] }

nothing_but_length : reading (ascii "L 4000000\nT 10 10 10 10 10\n") ≡ Ok bare
unfolding ascii all_digits value_from leading_zero plain unsigned negative number before onwards fields line lines some_of between thousandths interruption in_range ranged line_of order in_turn read begins last_begin offset offsets_of trailer_of has_rule has_points linked of_groups reading bare
nothing_but_length = refl

-- Sheet one.
abbrev free_rule : ℕ → ℕ → Rule
free_rule source target =
    record { source = source; target = target; min = 0; max = 100; phase = 3; interruption = None; function = 0 }

sheet_one : Sheet
sheet_one =
    record {
      sequence_length = 100;
      points = record { function = 1; distance = 0; penalty = pos 1000 } ∷ record { function = 1; distance = 20; penalty = pos 0 } ∷ [];
      rules =
          free_rule 0 1
          ∷ free_rule 0 2
          ∷ record { source = 2; target = 3; min = 5; max = 100; phase = 2; interruption = FromSource 3 2; function = 1 }
          ∷ free_rule 3 1
          ∷ [];
      qualifiers = record { source = 2; target = 3; kind = 0; method = 2; phase = 3; matching = 0 } ∷ [];
      features =
          record { kind = 2; position = 10; score = pos 1500 }
          ∷ record { kind = 2; position = 13; score = pos 200 }
          ∷ record { kind = 3; position = 24; score = pos 500 }
          ∷ record { kind = 3; position = 39; score = pos 3000 }
          ∷ [];
      segments = record { kind = 0; start = 10; end = 21; score = pos 2400 } ∷ [];
    }

sheet_one_read :
    reading (ascii
    "L 100\nP 1 0 1000\nP 1 20 0\nR 0 1 0 100 3 0 0 0 0\nR 0 2 0 100 3 0 0 0 0\nR 2 3 5 100 2 1 3 2 1\nR 3 1 0 100 3 0 0 0 0\nQ 2 3 0 2 3 0\nF 2 10 1500\nF 2 13 200\nF 3 24 500\nF 3 39 3000\nS 0 10 21 2400\nT 6 26 114 128 174\n")
    ≡ Ok sheet_one
unfolding ascii all_digits value_from leading_zero plain unsigned negative number before onwards fields line lines some_of between thousandths interruption in_range ranged line_of order in_turn read begins last_begin offset offsets_of trailer_of has_rule has_points linked of_groups reading sheet_one
sheet_one_read = refl
