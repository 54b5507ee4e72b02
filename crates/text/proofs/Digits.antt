-- Laws of digits, of the number that they write, and of the words that are numbers.
use Rattle.std.proofs.Common.{◌≡◌, refl, ap, true, ◌&&◌, List, [], ◌∷◌, ℕ, ◌+◌, ◌-◌, ◌*◌, ◌^◌, ◌<◌, ◌≤◌, length, get_or, drop, arith, add-one, drop-cons}
use Prim.Native.Nat.{zero, suc}
use Rattle.std.proofs.Math.Nat.{pow-succ', pow-le-pow_right}
use Rattle.std.proofs.Math.ListN.{drop_of_length-le}
use Rattle.std.proofs.lemmas.Bool.{and_parts, ne_eqb}
use Rattle.std.proofs.lemmas.Bool.Decides.{nat_tests}
use Rattle.std.specs.List.{list_all}
use Rattle.text.specs.Number.{is_digit, all_digits, value_from, value, plain, unsigned, number}

pub each_digit : (w : List ℕ) → list_all is_digit w ≡ all_digits w
unfolding all_digits
each_digit [] = refl
each_digit (b ∷ w) = ap (λ t. is_digit b && t) (each_digit w)

-- ---- as a loop goes along a word: one digit more, and none left
pub value_on : (v : ℕ) (w : List ℕ) (i : ℕ) → i < length w → value_from v (drop i w) ≡ value_from (10 * v + (get_or w i 0 - 48)) (drop (i + 1) w)
unfolding value_from
value_on v w i h = rw (add-one, drop-cons w i 0)

pub value_end : (v : ℕ) (w : List ℕ) (i : ℕ) → length w ≤ i → value_from v (drop i w) ≡ v
unfolding value_from
value_end v w i h = rw (drop_of_length-le w h)

-- ---- a digit among digits
digit_range : (byte : ℕ) → is_digit byte ≡ true → (48 ≤ byte) × (byte ≤ 57)
digit_range byte e = grind (arith, nat_tests)

pub digit_at : (w : List ℕ) (i : ℕ) → i < length w → all_digits w ≡ true → (48 ≤ get_or w i 0) × (get_or w i 0 ≤ 57)
unfolding all_digits
digit_at [] i h e = absurd (omega arith)
digit_at (b ∷ w) zero h e = digit_range b (and_parts (is_digit b) (all_digits w) e).0
digit_at (b ∷ w) (suc i) h e = digit_at w i (omega arith) (and_parts (is_digit b) (all_digits w) e).1

-- ---- the number that digits write: at least that of its front, and less than 10 to the power of their number
pub value_grows : (v : ℕ) (w : List ℕ) → v ≤ value_from v w
unfolding value_from
value_grows v [] = omega arith
value_grows v (b ∷ w) = omega (arith, value_grows (10 * v + (b - 48)) w)

value_bound : (v i : ℕ) (w : List ℕ) → v < 10 ^ i → all_digits w ≡ true → value_from v w < 10 ^ (i + length w)
unfolding value_from all_digits
value_bound v i [] h e = let n : i + 0 ≡ i = omega arith in rw n h
value_bound v i (b ∷ w) h e =
    let p = and_parts (is_digit b) (all_digits w) e in
    let r = digit_range b p.0 in
    let k : 10 * v + (b - 48) < 10 ^ suc i = rw (pow-succ' 10 i) (omega arith) in
    let n : i + suc (length w) ≡ suc i + length w = omega arith in
    rw n (value_bound (10 * v + (b - 48)) (suc i) w k p.1)

pub value_below : (w : List ℕ) → all_digits w ≡ true → length w ≤ 9 → value w < 10 ^ 9
value_below w e h =
    let l : 0 + length w ≤ 9 = omega arith in
    let k : 10 ^ (0 + length w) ≤ 10 ^ 9 = pow-le-pow_right (omega arith) l in
    omega (arith, value_bound 0 0 w (omega arith) e)

pub ruleset digits_along = (value_on, value_end, digit_at, value_grows, value_below)

-- ---- plain words
pub plain_digits : (w : List ℕ) → plain w ≡ true → all_digits w ≡ true
unfolding plain
plain_digits w e = grind (arith, nat_tests)

pub plain_short : (w : List ℕ) → plain w ≡ true → length w ≤ 9
unfolding plain
plain_short w e = grind (arith, nat_tests)

pub plain_below : (w : List ℕ) → plain w ≡ true → value w < 10 ^ 9
plain_below w e = value_below w (plain_digits w e) (plain_short w e)

pub ruleset plain_words = (plain_digits, plain_short, plain_below)

-- ---- a word that does not begin with "-"
pub number_unsigned : (w : List ℕ) → (0 < length w → get_or w 0 0 ≡ 45 → ⊥) → number w ≡ unsigned w
unfolding number unsigned plain
number_unsigned [] h = refl
number_unsigned (b ∷ w) h = simp (ne_eqb b 45 (h (omega arith)))
