-- What a read of n bytes behind `at` others leaves in the front of a buffer, and takes from the reader.
use Rattle.std.proofs.Common.{◌≡◌, ℕ, ◌+◌, ◌≤◌, List, ◌++◌, Option, None, Some, length, take, drop, ap, ap₂, sym, subst, ◌∙◌, append_assoc, le_refl, drop_at, length-take-le}
use Rattle.std.proofs.lemmas.Slice.{take-put_mid_below}
use Rattle.std.specs.Io.KnownBytes.{Consumes}
use borrow.Rule.Slice.PartMut.{put_mid, post_of}
use lib.Seq.{take-add, take-append-le}

filled : (at n k : ℕ) (xs ys : List ℕ) → at ≤ length xs → n ≤ length ys → take (at + n) (put_mid at k xs ys) ≡ take at xs ++ take n ys
filled at n k xs ys within fits =
    let rest = post_of at k xs in
    take-add at n (put_mid at k xs ys)
    ∙ ap₂ (λ front l. front ++ take n l) (take-put_mid_below at k xs ys at (le_refl at) within) (drop_at (take at xs) (ys ++ rest) at (length-take-le at xs within))
    ∙ ap (λ l. take at xs ++ l) (take-append-le n ys rest fits)

both : (a b c : Option (List ℕ)) (first second : List ℕ) → Consumes a b first → Consumes b c second → Consumes a c (first ++ second)
both None b c first second p q = tt
both (Some x) None c first second p q = absurd p
both (Some x) (Some y) None first second p q = absurd q
both (Some x) (Some y) (Some z) first second p q = p ∙ ap (λ l. first ++ l) q ∙ sym (append_assoc first second z)

pub more_taken : (a b c : Option (List ℕ)) (at n k : ℕ) (xs ys : List ℕ) → at ≤ length xs → n ≤ length ys → Consumes a b (take at xs) → Consumes b c (take n ys)
    → Consumes a c (take (at + n) (put_mid at k xs ys))
more_taken a b c at n k xs ys within fits before read =
    subst (Consumes a c) (sym (filled at n k xs ys within fits)) (both a b c (take at xs) (take n ys) before read)

-- what a write of n bytes behind `at` others leaves behind them
pub behind : (at n k : ℕ) (xs ys : List ℕ) → at ≤ length xs → n ≤ length ys → drop at (take (at + n) (put_mid at k xs ys)) ≡ take n ys
behind at n k xs ys within fits = ap (drop at) (filled at n k xs ys within fits) ∙ drop_at (take at xs) (take n ys) at (length-take-le at xs within)
