-- Laws of `before`, `onwards` and `next_place`: where a search finds the separator, and what its result says of the text.
use Rattle.std.proofs.Common.{◌≡◌, refl, sym, Bool, true, false, cond, List, [], ◌∷◌, ◌++◌, ℕ, ◌+◌, ◌-◌, ◌<◌, ◌≤◌, ◌∙◌, eqb, length, ap, take, drop, Option, arith, length-append, length-drop}
use Rattle.std.proofs.Math.Seq.{take-append_seam, drop-append_seam, drop-drop}
use Rattle.std.proofs.lemmas.Bool.{eq-eqb, ne_eqb}
use Rattle.std.proofs.lemmas.Iterator.{index_from_first}
use Rattle.std.specs.List.{AllWithin, HoldsAt}
use Rattle.std.specs.Option.{MatchOption, unwrap_or}
use Rattle.text.specs.Words.{before, onwards, next_place}

-- what `position` finds
pub first_separator : (separator : ℕ) (text : List ℕ) (r : Option ℕ)
    → MatchOption r (AllWithin (λ b. b ≡ separator → ⊥) text 0 (length text)) (λ i. (i < length text) × HoldsAt (λ b. b ≡ separator) text i × AllWithin (λ b. b ≡ separator → ⊥) text 0 i)
    → length (before separator text) ≡ unwrap_or r (length text)
unfolding before
first_separator separator =
    index_from_first
    (λ w. length (before separator w))
    (λ b. b ≡ separator)
    (λ b. b ≡ separator → ⊥)
    refl
    (λ b w e. simp (eq-eqb b separator e))
    (λ b w e. simp (ne_eqb b separator e) (omega arith))

-- ---- a text is what stands before the separator and what stands from there on
parts : (separator : ℕ) (text : List ℕ) → before separator text ++ onwards separator text ≡ text
unfolding before onwards
parts separator [] = refl
parts separator (byte ∷ text) = go (eqb byte separator) (parts separator text)
  where
    go : (t : Bool) → before separator text ++ onwards separator text ≡ text
        → cond t [] (byte ∷ before separator text) ++ cond t (byte ∷ text) (onwards separator text) ≡ byte ∷ text
    go true e = refl
    go false e = ap (λ w. byte ∷ w) e

pub before_is : (separator : ℕ) (text : List ℕ) → before separator text ≡ take (length (before separator text)) text
before_is separator text = sym (ap (take (length (before separator text))) (sym (parts separator text)) ∙ take-append_seam (before separator text) (onwards separator text))

pub onwards_is : (separator : ℕ) (text : List ℕ) → onwards separator text ≡ drop (length (before separator text)) text
onwards_is separator text = sym (ap (drop (length (before separator text))) (sym (parts separator text)) ∙ drop-append_seam (before separator text) (onwards separator text))

-- r is where the first separator of the text from `place` on stands, or the end of the text
pub record Found (separator place : ℕ) (text : List ℕ) (r : ℕ) : Type 0 where
  pub low : place ≤ r
  pub high : r ≤ length text
  pub word : before separator (drop place text) ≡ take (r - place) (drop place text)
  pub rest : onwards separator (drop place text) ≡ drop r text

pub found : (separator place : ℕ) (text : List ℕ) (r : ℕ) → place ≤ length text → r ≡ next_place separator place text → Found separator place text r
unfolding next_place
found separator place text r h e =
    let s = drop place text in
    let l = simp length-append at (ap length (parts separator s)) in
    let n : length (before separator s) ≡ r - place = omega arith in
    let m : place + length (before separator s) ≡ r = omega arith in
    record {
      low = omega arith;
      high = omega (arith, length-drop place text);
      word = before_is separator s ∙ ap (λ k. take k s) n;
      rest = onwards_is separator s ∙ drop-drop (length (before separator s)) place text ∙ ap (λ k. drop k text) m;
    }
