-- The slots together have at most two rows for each segment, since each segment stands in two slots at the most. So the rows have room.
use mathlib.Core.Path.{◌≡◌, refl, ap}
use mathlib.Core.Logic.{◌⊎◌, inl, inr}
use mathlib.Core.Bool.{Bool, true, false, cond}
use mathlib.Core.List.{List, [], ◌∷◌}
use Prim.Native.Nat.{ℕ, zero, suc, ◌+◌, ◌-◌, ◌*◌, ◌%◌, ◌≤◌, ◌<◌, min}
use native.Mathlib.Numerals.{add-one}
use native.Mathlib.Omega.{arith}
use lib.ListN.{length, get_or, take}
use Rattle.std.specs.List.{filter}
use Rattle.gaze.specs.declared.Segment.{Segment}
use Rattle.slots.specs.Slots.{in_slot}
use Rattle.slots.proofs.Classes.{slots_of_one}

-- how many rows the slots below j have
unfoldable pub counted : ℕ → List Segment → ℕ
counted zero l = 0
counted (suc j) l = counted j l + length (filter (in_slot j) l)

-- in how many of them one segment stands
hits : ℕ → Segment → ℕ
hits zero g = 0
hits (suc j) g = hits j g + cond (in_slot j g) 1 0

-- ---- one segment stands in two at the most: passed(j, x) is 1 once j is beyond x
abbrev passed : ℕ → ℕ → ℕ
passed j x = min 1 (j - x)

passed_on : (j x : ℕ) → passed j x ≤ passed (suc j) x
passed_on j x = omega arith

passed_at : (j x : ℕ) → j ≡ x → (passed j x ≡ 0) × (passed (suc j) x ≡ 1)
passed_at j x e = (omega arith, omega arith)

stays : (h a b c d : ℕ) → h ≤ a + b → a ≤ c → b ≤ d → h + 0 ≤ c + d
stays h a b c d l m n = omega arith

first_hit : (h a b c d : ℕ) → h ≤ a + b → (a ≡ 0) × (c ≡ 1) → b ≤ d → h + 1 ≤ c + d
first_hit h a b c d l m n = omega arith

second_hit : (h a b c d : ℕ) → h ≤ a + b → a ≤ c → (b ≡ 0) × (d ≡ 1) → h + 1 ≤ c + d
second_hit h a b c d l m n = omega arith

hits_step : (j x y h : ℕ) (b : Bool) → h ≤ passed j x + passed j y → (b ≡ true → (j ≡ x) ⊎ (j ≡ y)) → h + cond b 1 0 ≤ passed (suc j) x + passed (suc j) y
hits_step j x y h true l f = go (f refl)
  where
    go : (j ≡ x) ⊎ (j ≡ y) → h + 1 ≤ passed (suc j) x + passed (suc j) y
    go (inl e) = first_hit h (passed j x) (passed j y) (passed (suc j) x) (passed (suc j) y) l (passed_at j x e) (passed_on j y)
    go (inr e) = second_hit h (passed j x) (passed j y) (passed (suc j) x) (passed (suc j) y) l (passed_on j x) (passed_at j y e)
hits_step j x y h false l f = stays h (passed j x) (passed j y) (passed (suc j) x) (passed (suc j) y) l (passed_on j x) (passed_on j y)

hits_most : (j : ℕ) (g : Segment) → hits j g ≤ passed j (4 * g.kind + g.start % 3) + passed j (4 * g.kind + 3)
unfolding hits
hits_most zero g = omega arith
hits_most (suc j) g =
    hits_step j (4 * g.kind + g.start % 3) (4 * g.kind + 3) (hits j g) (in_slot j g) (hits_most j g) (slots_of_one j g)

-- ---- and so all of them
counted_none : (j : ℕ) → counted j [] ≡ 0
unfolding counted
counted_none zero = refl
counted_none (suc j) = rw (counted_none j) refl

one_more : (b : Bool) (g : Segment) (l : List Segment) → length (cond b (g ∷ l) l) ≡ length l + cond b 1 0
one_more true g l = omega arith
one_more false g l = omega arith

counted_cons : (j : ℕ) (g : Segment) (l : List Segment) → counted j (g ∷ l) ≡ counted j l + hits j g
unfolding counted hits
counted_cons zero g l = omega arith
counted_cons (suc j) g l = omega (arith, counted_cons j g l, one_more (in_slot j g) g (filter (in_slot j) l))

pub counted_most : (j : ℕ) (l : List Segment) → counted j l ≤ 2 * length l
counted_most j [] = omega (arith, counted_none j)
counted_most j (g ∷ l) = omega (arith, counted_cons j g l, hits_most j g, counted_most j l)

pub counted_next : (j : ℕ) (l : List Segment) → counted (j + 1) l ≡ counted j l + length (filter (in_slot j) l)
unfolding counted
counted_next j l = ap (λ (i : ℕ). counted i l) (add-one j)

-- ---- one that passes behind the first i of a list leaves room for it
pub filter_room : (test : Segment → Bool) (l : List Segment) (i : ℕ) (d : Segment) → i < length l → test (get_or l i d) ≡ true
    → length (filter test (take i l)) < length (filter test l)
filter_room test [] i d h t = absurd (none_in h)
  where
    none_in : {i : ℕ} → i < 0 → ⊥
    none_in h = omega arith
filter_room test (g ∷ l) zero d h t = rw t (omega arith)
filter_room test (g ∷ l) (suc i) d h t = go (test g) (filter_room test l i d (omega arith) t)
  where
    go : (b : Bool) → length (filter test (take i l)) < length (filter test l)
        → length (cond b (g ∷ filter test (take i l)) (filter test (take i l))) < length (cond b (g ∷ filter test l) (filter test l))
    go true k = omega arith
    go false k = k
