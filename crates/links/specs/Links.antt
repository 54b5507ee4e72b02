-- Refusal 6: a Q line without its rule, or a rule whose function 1 to 16 has no point.
use Rattle.std.specs.Prelude.{Bool, ◌&&◌, ◌||◌, cond, List, [], ◌∷◌, map, ℕ, eqb, Result, Ok, Err}
use Rattle.gaze.specs.declared.Point.{Point}
use Rattle.gaze.specs.declared.Rule.{Rule}
use Rattle.gaze.specs.Lists.{some_of}
use Rattle.refusal.specs.declared.Reason.TheVariants.{Link}
use Rattle.refusal.specs.declared.Refusal.{Refusal}
use Rattle.group.specs.declared.Placed.{Placed}

abbrev pub lines_in : {A : Type 0} → List (Placed A) → List A
lines_in l = map (λ p. p.line) l

-- There is a rule of this source and target.
unfoldable pub has_rule : List Rule → ℕ → ℕ → Bool
has_rule rules source target = some_of (λ r. eqb r.source source && eqb r.target target) rules

-- Function 0 is zero and function 17 is shipped; any other has a point.
unfoldable pub has_points : List Point → ℕ → Bool
has_points points function = eqb function 0 || eqb function 17 || some_of (λ p. eqb p.function function) points

-- The first line that lacks what it needs is refused, at its own place.
unfoldable pub linked : {A : Type 0} → (A → Bool) → List (Placed A) → Result (Unit {0}) Refusal
linked has [] = Ok tt
linked has (l ∷ ls) = cond (has l.line) (linked has ls) (Err (record { reason = Link; place = l.place }))
