-- Laws of `some_of` and `linked`: a test of the lines that are placed, and a walk along them.
use Rattle.std.proofs.Common.{Bool, List, [], ◌∷◌, ◌≡◌, refl, sym, ap, ℕ, suc, ◌+◌, ◌<◌, ◌≤◌, length, get_or, drop, drop-cons, add-one, Ok, Err}
use Rattle.std.specs.Prelude.{cond, ◌||◌}
use Rattle.std.specs.List.{list_any}
use Rattle.std.proofs.Math.ListN.{drop_of_length-le}
use Rattle.gaze.specs.Lists.{some_of}
use Rattle.refusal.specs.declared.Reason.TheVariants.{Link}
use Rattle.group.specs.declared.Placed.{Placed}
use Rattle.links.specs.Links.{lines_in, linked}

pub some_line : {A : Type 0} (test : A → Bool) (l : List (Placed A)) → some_of test (lines_in l) ≡ list_any (λ p. test p.line) l
unfolding some_of
some_line test [] = refl
some_line test (p ∷ l) = ap (λ (b : Bool). test p.line || b) (some_line test l)

module _ {A : Type 0} (test : A → Bool) (l : List (Placed A)) (i : ℕ) where
  pub linked_at : (p : Placed A) → i < length l → p ≡ get_or l i p
      → linked test (drop i l) ≡ cond (test p.line) (linked test (drop (i + 1) l)) (Err (record { reason = Link; place = p.place }))
  unfolding linked
  linked_at p h e =
      rw (add-one, drop-cons l i p h) (ap (λ (q : Placed A). cond (test q.line) (linked test (drop (suc i) l)) (Err (record { reason = Link; place = q.place }))) (sym e))

  pub linked_end : length l ≤ i → linked test (drop i l) ≡ Ok tt
  unfolding linked
  linked_end h = rw (drop_of_length-le l h)
