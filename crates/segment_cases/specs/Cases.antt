-- The segments that the cases are asked of, in the order of a sheet. Each type has a case of its own.
use Rattle.std.specs.Prelude.{List, [], ◌∷◌, ℕ, ℤ, pos, negsuc}
use Rattle.gaze.specs.declared.Segment.{Segment}

abbrev pub segment : ℕ → ℕ → ℕ → ℤ → Segment
segment kind start end score = record { kind = kind; start = start; end = end; score = score }

abbrev pub cases : List Segment
cases =
    segment 3 1 1 (pos 10000000)
    ∷ segment 2 10 12 (pos 100)
    ∷ segment 0 10 21 (negsuc 2400)
    ∷ segment 1 10 21 (negsuc 2400)
    ∷ segment 6 10 21 (negsuc 2400)
    ∷ segment 6 13 15 (pos 7)
    ∷ segment 1 50 60 (pos 5)
    ∷ segment 5 100 110 (pos 500)
    ∷ segment 5 100 120 (pos 700)
    ∷ segment 5 105 120 (pos 900)
    ∷ segment 4 4000000 4000000 (negsuc 9999999)
    ∷ []
