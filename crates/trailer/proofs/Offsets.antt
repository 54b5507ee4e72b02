-- Laws of the trailer's definitions, and that the offsets of a right trailer rise.
use Rattle.std.proofs.Common.{Bool, true, false, length, leb-true, ◌≡◌, ◌<◌, ◌≤◌, ◌-◌, ℕ, zero, suc, List, refl, arith, get_or, ℤ, pos, Option, Some, None, Result, Ok, Err, w64, to_z, of_z, SFits, Fits}
use Rattle.std.specs.Prelude.{eqb, leb, cond, ◌&&◌, negsuc, nat_abs}
use Rattle.std.specs.Int.{FitsUnsignedBits}
use Rattle.std.specs.Option.{option_and_then}
use Rattle.std.proofs.lemmas.Option.{option_and_then_some}
use Rattle.std.specs.Result.{OkIff, result_ok}
use Rattle.std.proofs.Math.Facts.{to_z-of_z, Fits-of_z}
use Rattle.kinds.specs.Kinds.{between, field}
use Rattle.text.specs.Fields.{line}
use Rattle.trailer.specs.declared.Trailer.{Trailer}
use Rattle.trailer.specs.Trailer.{begins, last_begin, offset, offsets_of, last_line, part, trailer_of}

-- ---- where lines begin
pub begins_past : (bytes : List ℕ) (place : ℕ) → 0 < place → begins bytes place ≡ eqb (get_or bytes (place - 1) 0) 10
unfolding begins
begins_past bytes zero h = let z : ⊥ = omega arith in absurd z
begins_past bytes (suc place) h = let k : suc place - 1 ≡ place = omega arith in rw k

pub last_begin_is : (bytes : List ℕ) (place : ℕ) → 1 ≤ place → last_begin bytes place ≡ cond (begins bytes place) place (last_begin bytes (place - 1))
unfolding last_begin
last_begin_is bytes zero h = let z : ⊥ = omega arith in absurd z
last_begin_is bytes (suc place) h = let k : suc place - 1 ≡ place = omega arith in rw k

-- ---- one offset
pub offset_at : (bytes : List ℕ) (top low place : ℕ) → offset bytes top low (pos place) ≡ cond ((leb low place && leb place top) && begins bytes place) (Some place) None
unfolding offset between
offset_at bytes top low place = refl

-- what `try_from` makes of a number
converted : {E : Type 0} (r : Result ℕ E) (z : ℤ) → OkIff r (FitsUnsignedBits 64 z) (nat_abs z) → (place : ℕ) → Some place ≡ result_ok r → z ≡ pos place
converted (Ok x) (pos n) e place h = let k : x ≡ n = e.1 in cc
converted (Ok x) (negsuc n) e place h = absurd e.0
converted (Err d) z e place h = cc

out : {E : Type 0} (r : Result ℕ E) (z : ℤ) → Fits w64 (of_z w64 z) → OkIff r (FitsUnsignedBits 64 z) (nat_abs z) → None ≡ result_ok r → (bytes : List ℕ) (top low : ℕ)
    → None ≡ offset bytes top low z
unfolding offset between
out (Ok x) z f e h bytes top low = cc
out (Err d) (pos n) f e h bytes top low = absurd (e f.fits)
out (Err d) (negsuc n) f e h bytes top low = refl

module _ {E : Type 0} (r : Result ℕ E) (z : ℤ) (f : SFits w64 z) (e : OkIff r (FitsUnsignedBits 64 (to_z w64 (of_z w64 z))) (nat_abs (to_z w64 (of_z w64 z)))) where
  pub number_is : (place : ℕ) → Some place ≡ result_ok r → z ≡ pos place
  number_is place h = converted r z (rw (to_z-of_z f) at e) place h

  pub none_is : None ≡ result_ok r → (bytes : List ℕ) (top low : ℕ) → None ≡ offset bytes top low z
  none_is h bytes top low = out r z (Fits-of_z f) (rw (to_z-of_z f) at e) h bytes top low

-- ---- the first offset is not below 1, none falls, and all stay within the sheet
pub record Rising (t : Trailer) (size : ℕ) : Type 0 where
  pub first : 1 ≤ t.p
  pub p_r : t.p ≤ t.r
  pub r_q : t.r ≤ t.q
  pub q_f : t.q ≤ t.f
  pub f_s : t.f ≤ t.s
  pub s_t : t.s ≤ t.top
  pub inside : t.top ≤ size

last_below : (bytes : List ℕ) (k : ℕ) → last_begin bytes k ≤ k
unfolding last_begin
last_below bytes zero = omega arith
last_below bytes (suc k) = go (begins bytes (suc k)) (last_below bytes k)
  where
    go : (b : Bool) → last_begin bytes k ≤ k → cond b (suc k) (last_begin bytes k) ≤ suc k
    go true h = omega arith
    go false h = omega arith

-- what an offset that is right is followed by
module _ (bytes : List ℕ) (t : Trailer) (top low : ℕ) (then : ℕ → Option Trailer) where
  follows : (z : ℤ) → option_and_then then (offset bytes top low z) ≡ Some t → (place : ℕ) × (low ≤ place) × (place ≤ top) × (then place ≡ Some t)
  unfolding offset between
  follows (pos n) h = go (leb low n) (leb n top) (begins bytes n) refl refl h
    where
      go : (a b c : Bool) → leb low n ≡ a → leb n top ≡ b → option_and_then then (cond ((a && b) && c) (Some n) None) ≡ Some t
          → (place : ℕ) × (low ≤ place) × (place ≤ top) × (then place ≡ Some t)
      go true true true e f h = (n, leb-true low n e, leb-true n top f, h)
      go true true false e f h = cc
      go true false c e f h = cc
      go false b c e f h = cc
  follows (negsuc n) h = cc

module _ (bytes : List ℕ) (t : Trailer) where
  of_five : (top : ℕ) (row : List ℤ) → top ≤ length bytes → offsets_of bytes top row ≡ Some t → Rising t (length bytes)
  unfolding offsets_of
  of_five top row h e =
      let p = follows bytes t top 1 _ (field row 0) e in
      let r = follows bytes t top p.0 _ (field row 1) p.3 in
      let q = follows bytes t top r.0 _ (field row 2) r.3 in
      let f = follows bytes t top q.0 _ (field row 3) q.3 in
      let s = follows bytes t top f.0 _ (field row 4) f.3 in
      let k : ◌≡◌ {A = Trailer} (record { p = p.0; r = r.0; q = q.0; f = f.0; s = s.0; top = top }) t = cc (s.3) in
      rw (← k) (record { first = p.1; p_r = r.1; r_q = q.1; q_f = f.1; f_s = s.1; s_t = s.2; inside = h })

  pub rising : trailer_of bytes ≡ Some t → Rising t (length bytes)
  unfolding trailer_of
  rising = go (eqb (get_or bytes (length bytes - 1) 0) 10)
    where
      go : (b : Bool) → cond b (option_and_then (offsets_of bytes (last_line bytes)) (line 84 32 5 (part bytes (last_line bytes) (length bytes - 1)))) None ≡ Some t → Rising t (length bytes)
      go true e = let below = last_below bytes (length bytes - 1) in option_and_then_some _ _ _ e (λ row _ e. of_five (last_line bytes) row (omega arith) e)
      go false e = cc
