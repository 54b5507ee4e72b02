-- Laws of `lines`, as a reader goes along a text.
use mathlib.Core.Bool.{Bool, true, false, cond}
use mathlib.Core.List.{List, [], ◌∷◌}
use mathlib.Core.Path.{◌≡◌, refl, ap, ◌∙◌}
use Prim.Native.Nat.{ℕ, ◌+◌, ◌-◌, ◌<◌, ◌≤◌}
use native.Mathlib.Omega.{arith}
use lib.Dec.{eqb, ltb}
use lib.ListN.{length, take, drop, drop_of_length-le, length-drop}
use lib.Seq.{drop-drop}
use borrow.Author.Tests.{lt-ltb, le-ltb, ltb-true, ltb-false}
use Rattle.text.specs.Words.{before, onwards, next_place}
use Rattle.text.specs.Lines.{led_by, lines}
use Rattle.text.proofs.Words.{found}

-- a text is cut into its first line and those after its LF
abbrev Cut : List ℕ → Type 0
Cut text = lines text ≡ record { bytes = before 10 text; ended = ltb 0 (length (onwards 10 text)) } ∷ lines (drop 1 (onwards 10 text))

lines_cut : (text : List ℕ) → 0 < length text → Cut text
unfolding lines before onwards
lines_cut [] h = let z : ⊥ = omega arith in absurd z
lines_cut (byte ∷ text) h = go (eqb byte 10) text (lines_cut text)
  where
    go : (t : Bool) (text : List ℕ) → (0 < length text → Cut text)
        → cond t (record { bytes = []; ended = true } ∷ lines text) (led_by byte (lines text))
        ≡ record { bytes = cond t [] (byte ∷ before 10 text); ended = ltb 0 (length (cond t (byte ∷ text) (onwards 10 text))) } ∷ lines (drop 1 (cond t (byte ∷ text) (onwards 10 text)))
    go true text ih = rw (lt-ltb 0 (length (byte ∷ text)) (omega arith))
    go false [] ih = refl
    go false (next ∷ text) ih = ap (led_by byte) (ih (omega arith))

more_left : (a b : ℕ) → ltb 0 (b - a) ≡ ltb a b
more_left a b = go (ltb a b) refl
  where
    go : (t : Bool) → ltb a b ≡ t → ltb 0 (b - a) ≡ t
    go true e = lt-ltb 0 (b - a) (omega (arith, ltb-true))
    go false e = le-ltb 0 (b - a) (omega (arith, ltb-false))

-- the line that begins at a place, where `find` says that its LF or the end of the text stands
pub lines_at : (text : List ℕ) (place end : ℕ) → place < length text → end ≡ next_place 10 place text
    → lines (drop place text) ≡ record { bytes = take (end - place) (drop place text); ended = ltb end (length text) } ∷ lines (drop (end + 1) text)
lines_at text place end h e =
    let f = found 10 place text end (omega arith) e in
    lines_cut (drop place text) (omega (arith, length-drop place text))
    ∙ rw (f.word, f.rest, drop-drop 1 end text, length-drop end text, more_left end (length text)) refl

pub lines_end : (text : List ℕ) (place : ℕ) → length text ≤ place → lines (drop place text) ≡ []
unfolding lines
lines_end text place h = rw (drop_of_length-le text h)
