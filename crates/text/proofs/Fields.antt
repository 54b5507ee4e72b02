-- Laws of `fields` and `line`, as a reader goes along a line.
use Rattle.std.proofs.Common.{◌≡◌, ◌≢◌, refl, sym, ap, ◌∙◌, Bool, true, false, eqb, List, [], ◌∷◌, ◌++◌, append_assoc, append-nil, ℕ, ◌+◌, ◌-◌, ◌<◌, ◌≤◌, ℤ, Option, Some, None, length, take, set, arith}
use Prim.Native.Nat.{suc}
use Rattle.std.proofs.Math.Seq.{take_all}
use Rattle.std.proofs.Math.ListN.{length-set}
use Rattle.std.proofs.lemmas.Bool.{eq-eqb, ne_eqb}
use Rattle.std.proofs.lemmas.Grind.{take-set_at}
use Rattle.std.specs.Bool.{then_some}
use Rattle.std.specs.Option.{option_map}
use Rattle.text.specs.Number.{number}
use Rattle.text.specs.Words.{before, onwards}
use Rattle.text.specs.Fields.{joined, fields, line}

-- ---- a line or a rest that begins with the byte that it has to, or does not
pub lettered : (letter separator count : ℕ) (bytes rest : List ℕ) → bytes ≡ letter ∷ rest → line letter separator count bytes ≡ fields separator count rest
unfolding line
lettered letter separator count bytes rest e = rw e (simp (eq-eqb letter letter refl))

pub not_lettered : (letter separator count : ℕ) (bytes : List ℕ) → ((rest : List ℕ) → bytes ≢ letter ∷ rest) → line letter separator count bytes ≡ None
unfolding line
not_lettered letter separator count [] h = refl
not_lettered letter separator count (b ∷ rest) h = simp (ne_eqb b letter (λ e. h rest (ap (λ x. x ∷ rest) e)))

separated : (separator count : ℕ) (rest word : List ℕ) → rest ≡ separator ∷ word
    → fields separator (suc count) rest ≡ joined (number (before separator word)) (fields separator count (onwards separator word))
unfolding fields
separated separator count rest word e = rw e (simp (eq-eqb separator separator refl))

not_separated : (separator count : ℕ) (rest : List ℕ) → ((word : List ℕ) → rest ≢ separator ∷ word) → fields separator (suc count) rest ≡ None
unfolding fields
not_separated separator count [] h = refl
not_separated separator count (b ∷ rest) h = simp (ne_eqb b separator (λ e. h rest (ap (λ x. x ∷ rest) e)))

-- ---- a line whose fields are read up to a place
-- the numbers read so far, and then those of other fields
abbrev after : List ℤ → Option (List ℤ) → Option (List ℤ)
after zs others = option_map (λ others. zs ++ others) others

after_none : (f : Option (List ℤ)) → after [] f ≡ f
after_none (Some zs) = refl
after_none None = refl

after_one : (zs : List ℤ) (z : ℤ) (f : Option (List ℤ)) → after zs (joined (Some z) f) ≡ after (zs ++ (z ∷ [])) f
after_one zs z (Some others) = ap Some (sym (append_assoc zs (z ∷ []) others))
after_one zs z None = refl

-- `read` of `count` numbers stand in the row, and `all` is what the line holds if `rest` stands behind their fields
pub record Reading (separator count : ℕ) (all : Option (List ℤ)) (row : List ℤ) (read : ℕ) (rest : List ℕ) : Type 0 where
  pub wide : length row ≡ count
  pub left : all ≡ after (take read row) (fields separator (count - read) rest)

pub none_read : (separator count : ℕ) (all : Option (List ℤ)) (row : List ℤ) (rest : List ℕ) → length row ≡ count → all ≡ fields separator count rest → Reading separator count all row 0 rest
none_read separator count all row rest w e =
    let n : count - 0 ≡ count = omega arith in
    record { wide = w; left = e ∙ rw n (sym (after_none (fields separator count rest))) }

module _ {separator count : ℕ} {all : Option (List ℤ)} {row : List ℤ} {read : ℕ} {rest : List ℕ} (g : Reading separator count all row read rest) where
  left_are : (n : ℕ) (f : Option (List ℤ)) → count - read ≡ n → fields separator n rest ≡ f → all ≡ after (take read row) f
  left_are n f e q = g.left ∙ rw (e, q) refl

  one_more : read < count → count - read ≡ suc (count - (read + 1))
  one_more l = omega arith

  next_field : read < count → (word : List ℕ) → rest ≡ separator ∷ word → (x : Option ℤ) → x ≡ number (before separator word)
      → all ≡ after (take read row) (joined x (fields separator (count - (read + 1)) (onwards separator word)))
  next_field l word e x w =
      let n = count - (read + 1) in
      let others = fields separator n (onwards separator word) in
      left_are (suc n) (joined x others) (one_more l) (separated separator n rest word e ∙ ap (λ y. joined y others) (sym w))

  pub one_read : read < count → (word : List ℕ) → rest ≡ separator ∷ word → (z : ℤ) → Some z ≡ number (before separator word)
      → Reading separator count all (set row read z) (read + 1) (onwards separator word)
  one_read l word e z w =
      let others = fields separator (count - (read + 1)) (onwards separator word) in
      record {
        wide = simp length-set g.wide;
        left =
            next_field l word e (Some z) w
            ∙ after_one (take read row) z others
            ∙ ap (λ zs. after zs others) (sym (take-set_at row read (read + 1) z refl (omega (arith, g.wide))));
      }

  pub no_separator : read < count → ((word : List ℕ) → rest ≢ separator ∷ word) → all ≡ None
  no_separator l h = left_are (suc (count - (read + 1))) None (one_more l) (not_separated separator (count - (read + 1)) rest h)

  pub no_number : read < count → (word : List ℕ) → rest ≡ separator ∷ word → None ≡ number (before separator word) → all ≡ None
  no_number l word e w = next_field l word e None w

  pub all_read : count ≤ read → (t : Bool) → t ≡ eqb (length rest) 0 → all ≡ then_some t row
  unfolding fields
  all_read l t e = left_are 0 (then_some t []) (omega arith) (ended rest t e) ∙ row_is t
    where
      ended : (rest : List ℕ) (t : Bool) → t ≡ eqb (length rest) 0 → fields separator 0 rest ≡ then_some t []
      ended [] t e = rw e refl
      ended (b ∷ rest) t e = rw (e, ne_eqb (suc (length rest)) 0 (λ z. omega arith)) refl

      row_is : (t : Bool) → after (take read row) (then_some t []) ≡ then_some t row
      row_is true = ap Some (append-nil (take read row) ∙ take_all read row (omega (arith, g.wide)))
      row_is false = refl

-- what the line holds where reading ends
pub ruleset line_ends = (not_lettered, no_separator, no_number, all_read)
