-- What `penalty` is by the function's number, and that a function's own points are all that it looks at.
use Rattle.std.proofs.Common.{◌≡◌, ℕ, List, cond, refl, ap, pos}
use Rattle.std.specs.Prelude.{eqb}
use borrow.Author.Tests.{ne_eqb}
use Rattle.gaze.specs.declared.Point.{Point}
use Rattle.gaze.specs.Penalty.{interpolated, intron_penalty, points_of, penalty}

module _ (points : List Point) (function d : ℕ) where
  pub penalty_none : function ≡ 0 → penalty points function d ≡ pos 0
  unfolding penalty
  penalty_none e = rw e refl

  pub penalty_intron : function ≡ 17 → penalty points function d ≡ intron_penalty d
  unfolding penalty
  penalty_intron e = rw e refl

  pub penalty_points : (function ≡ 0 → ⊥) → (function ≡ 17 → ⊥) → penalty points function d ≡ interpolated (points_of points function) d
  unfolding penalty
  penalty_points z s = rw (ne_eqb function 0 z, ne_eqb function 17 s) refl

-- the penalty sees no more of the points than those of the function
pub same_points : (points others : List Point) (function d : ℕ) → points_of points function ≡ points_of others function
    → penalty points function d ≡ penalty others function d
unfolding penalty
same_points points others function d e =
    ap (λ (l : List Point). cond (eqb function 0) (pos 0) (cond (eqb function 17) (intron_penalty d) (interpolated l d))) e
