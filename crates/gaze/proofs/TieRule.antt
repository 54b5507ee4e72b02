-- The tie order in other words: `Later (reverse c) (reverse d)` says exactly that c and d end in the same candidates, and that
-- just before those c has the later one.
use mathlib.Core.Path.{◌≡◌, refl, sym, ap, ◌∙◌}
use mathlib.Core.Logic.{◌↔◌}
use mathlib.Core.List.{List, [], ◌∷◌, ◌++◌, reverse, reverse-append, reverse-cons, reverse-reverse, append_assoc}
use Prim.Native.Nat.{ℕ, ◌<◌}
use Rattle.gaze.specs.Chain.{Later, here, there}

pub record Part (c d : List ℕ) : Type 0 where
  pub tail : List ℕ
  pub front_c : List ℕ
  pub front_d : List ℕ
  pub x : ℕ
  pub y : ℕ
  pub c_is : c ≡ front_c ++ x ∷ tail
  pub d_is : d ≡ front_d ++ y ∷ tail
  pub later : y < x

-- read the other way round
record Split (x y : List ℕ) : Type 0 where
  head : List ℕ
  rest_x : List ℕ
  rest_y : List ℕ
  a : ℕ
  b : ℕ
  x_is : x ≡ head ++ a ∷ rest_x
  y_is : y ≡ head ++ b ∷ rest_y
  less : b < a

later_split : {x y : List ℕ} → Later x y → Split x y
later_split (here {a = a} {b = b} {x = x} {y = y} h) =
    record { head = []; rest_x = x; rest_y = y; a = a; b = b; x_is = refl; y_is = refl; less = h }
later_split (there {a = a} l) =
    let s = later_split l in
    record {
      head = a ∷ s.head;
      rest_x = s.rest_x;
      rest_y = s.rest_y;
      a = s.a;
      b = s.b;
      x_is = ap (λ (z : List ℕ). a ∷ z) s.x_is;
      y_is = ap (λ (z : List ℕ). a ∷ z) s.y_is;
      less = s.less;
    }

split_later : (p x y : List ℕ) {a b : ℕ} → b < a → Later (p ++ a ∷ x) (p ++ b ∷ y)
split_later [] x y h = here h
split_later (c ∷ p) x y h = there (split_later p x y h)

reverse_middle : (p : List ℕ) (a : ℕ) (q : List ℕ) → reverse (p ++ a ∷ q) ≡ reverse q ++ a ∷ reverse p
reverse_middle p a q = reverse-append p (a ∷ q) ∙ (ap (λ (z : List ℕ). z ++ reverse p) (reverse-cons a q) ∙ append_assoc (reverse q) (a ∷ []) (reverse p))

pub tie_means : (c d : List ℕ) → Later (reverse c) (reverse d) ↔ Part c d
tie_means c d = (to, from)
  where
    to : Later (reverse c) (reverse d) → Part c d
    to l =
        let s = later_split l in
        record {
          tail = reverse s.head;
          front_c = reverse s.rest_x;
          front_d = reverse s.rest_y;
          x = s.a;
          y = s.b;
          c_is = sym (reverse-reverse c) ∙ (ap reverse s.x_is ∙ reverse_middle s.head s.a s.rest_x);
          d_is = sym (reverse-reverse d) ∙ (ap reverse s.y_is ∙ reverse_middle s.head s.b s.rest_y);
          later = s.less;
        }

    from : Part c d → Later (reverse c) (reverse d)
    from p =
        rw (p.c_is, p.d_is, reverse_middle p.front_c p.x p.tail, reverse_middle p.front_d p.y p.tail) (split_later (reverse p.tail) (reverse p.front_c) (reverse p.front_d) p.later)
