-- The trailer, which is the last line and points back: T and five byte offsets, where the groups P, R, Q, F and S begin.
use Rattle.std.specs.Prelude.{Bool, true, ◌&&◌, cond, List, ℕ, zero, suc, ◌-◌, eqb, ℤ, pos, nat_abs, length, get_or, take, drop, Option, Some, None}
use Rattle.std.specs.Option.{option_and_then}
use Rattle.text.specs.Fields.{line}
use Rattle.kinds.specs.Kinds.{between, field}
use Rattle.trailer.specs.declared.Trailer.{Trailer}

-- A line begins at a place: it is the top of the sheet, or an LF stands before it.
unfoldable pub begins : List ℕ → ℕ → Bool
begins bytes zero = true
begins bytes (suc place) = eqb (get_or bytes place 0) 10

-- Where the last line begins of those that begin at a place or before it.
unfoldable pub last_begin : List ℕ → ℕ → ℕ
last_begin bytes zero = zero
last_begin bytes (suc place) = cond (begins bytes (suc place)) (suc place) (last_begin bytes place)

-- Where the sheet's last line begins, of which the last byte is the LF.
abbrev pub last_line : List ℕ → ℕ
last_line bytes = last_begin bytes (length bytes - 1)

-- The bytes from one place up to another.
abbrev pub part : List ℕ → ℕ → ℕ → List ℕ
part bytes from to = take (to - from) (drop from bytes)

-- The offset z, where the one before it is `low` and the T line begins at `top`, if it is right: it does not fall, is not beyond the T line, and a line begins there.
unfoldable pub offset : List ℕ → ℕ → ℕ → ℤ → Option ℕ
offset bytes top low z = cond (between (pos low) (pos top) z && begins bytes (nat_abs z)) (Some (nat_abs z)) None

-- The five offsets, of which the first is not below 1, and where the T line begins.
unfoldable pub offsets_of : List ℕ → ℕ → List ℤ → Option Trailer
offsets_of bytes top row =
    option_and_then (λ p.
    option_and_then (λ r.
    option_and_then (λ q.
    option_and_then (λ f.
    option_and_then (λ s. Some (record { p = p; r = r; q = q; f = f; s = s; top = top }))
    (offset bytes top f (field row 4)))
    (offset bytes top q (field row 3)))
    (offset bytes top r (field row 2)))
    (offset bytes top p (field row 1)))
    (offset bytes top 1 (field row 0))

-- The last byte is LF, the last line is a well-formed T line, and every offset is right. 84 is the letter, 32 the space.
unfoldable pub trailer_of : List ℕ → Option Trailer
trailer_of bytes =
    cond (eqb (get_or bytes (length bytes - 1) 0) 10)
    (option_and_then (offsets_of bytes (last_line bytes)) (line 84 32 5 (part bytes (last_line bytes) (length bytes - 1))))
    None
