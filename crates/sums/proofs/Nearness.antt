-- Among many segments that give 0 one is as good as all. So of the segments that end before a base all but one can be dropped, for every base from there on at
-- once; and those that start behind a base do not matter there but for the first.
use Rattle.std.proofs.Common.{◌≡◌, refl, sym, ap, ◌∙◌, arith, take-append-drop, get_or-drop, get_or-take, length-take, take_all, append_assoc, length-append, length-drop, leb-false}
use Rattle.std.specs.List.{AllWithin}
use Rattle.std.proofs.lemmas.List.{take_more, get_or_default}
use Rattle.std.specs.Prelude.{Bool, true, false, cond, not, ◌&&◌, ◌||◌, List, [], ◌∷◌, ◌++◌, ℕ, zero, suc, ◌+◌, ◌-◌, ◌≤◌, ◌<◌, leb, ℤ, pos, Option, Some, None, length, get_or, take, drop}
use Rattle.std.specs.List.Retain.{RetainsInTurn}
use borrow.Author.Tests.{lt-leb}
use Rattle.gaze.specs.declared.Segment.{Segment}
use Rattle.gaze.specs.SegmentScore.{rate, rate_at, largest_rate}
use Rattle.slots.specs.Slots.{Rising}
use Rattle.sums.specs.declared.window.Window.{Window}
use Rattle.sums.specs.Window.{Alike, Near, Opened}
use Rattle.sums.proofs.Largest.{join, join_swap, join_regroup, value, top, top_joined, largest_is}

-- ---- what a segment gives at a base
rate_before : (x : ℕ) (g : Segment) → x < g.start → rate_at x g ≡ pos 0
rate_before x g h = simp (lt-leb g.start x h)

rate_behind : (x : ℕ) (g : Segment) → g.end < x → rate_at x g ≡ pos 0
rate_behind x g h = go (leb g.start x) (leb x g.end) (lt-leb x g.end h)
  where
    go : (a b : Bool) → b ≡ false → cond (a && b) (rate g) (pos 0) ≡ pos 0
    go true b e = rw e refl
    go false b e = refl

-- ---- a 0 that has entered
record Zeroed (top : Option ℤ) : Type 0 where
  pub is : join top (Some (pos 0)) ≡ top

zeroed_first : (a : Option ℤ) → Zeroed (join (Some (pos 0)) a)
zeroed_first a =
    record { is = join_swap (join (Some (pos 0)) a) (Some (pos 0)) ∙ sym (join_regroup (Some (pos 0)) (Some (pos 0)) a) }

zeroed_more : (a b : Option ℤ) → Zeroed b → Zeroed (join a b)
zeroed_more a b z = record { is = join_regroup a b (Some (pos 0)) ∙ ap (join a) z.is }

zeroed_at : (x : ℕ) (d : Segment) (l : List Segment) (i : ℕ) → i < length l → rate_at x (get_or l i d) ≡ pos 0 → Zeroed (top x l)
zeroed_at x d [] i h e = absurd (none h)
  where
    none : {i : ℕ} → i < 0 → ⊥
    none h = omega arith
zeroed_at x d (g ∷ l) zero h e = rw e (zeroed_first (top x l))
zeroed_at x d (g ∷ l) (suc i) h e = zeroed_more (Some (rate_at x g)) (top x l) (zeroed_at x d l i (omega arith) e)

-- segments that give 0 add nothing to it
idle_added : (x : ℕ) (d : Segment) (a : Option ℤ) (l : List Segment) → Zeroed a → ((i : ℕ) → i < length l → rate_at x (get_or l i d) ≡ pos 0) → join a (top x l) ≡ a
idle_added x d None [] z h = refl
idle_added x d (Some a) [] z h = refl
idle_added x d a (g ∷ l) z h =
    ap (λ (r : ℤ). join a (join (Some r) (top x l))) (h zero (omega arith))
    ∙ (sym (join_regroup a (Some (pos 0)) (top x l))
    ∙ (ap (λ (b : Option ℤ). join b (top x l)) z.is ∙ idle_added x d a l z (λ i u. h (suc i) (omega arith))))

-- ---- one list for another
alike_same : (x : ℕ) (one other : List Segment) → top x one ≡ top x other → Alike x one other
alike_same x one other h more =
    largest_is (one ++ more) x
    ∙ (ap value (top_joined x one more ∙ (ap (λ (a : Option ℤ). join a (top x more)) h ∙ sym (top_joined x other more)))
    ∙ sym (largest_is (other ++ more) x))

-- ---- segments that are dropped
-- what those that were kept give, where one that ends before `from` is among them
abbrev met : Bool → Option ℤ
met true = Some (pos 0)
met false = None

joined_under : (a b u v : Option ℤ) → join a u ≡ join a v → join a (join b u) ≡ join a (join b v)
joined_under a b u v e = outward u ∙ (ap (join b) e ∙ sym (outward v))
  where
    outward : (u : Option ℤ) → join a (join b u) ≡ join b (join a u)
    outward u = sym (join_regroup a b u) ∙ (ap (λ (c : Option ℤ). join c u) (join_swap a b) ∙ join_regroup b a u)

-- one more is looked at: it is kept, or it gives 0 as one before it
looked_at : (x : ℕ) (g : Segment) (some all : List Segment) (stays far : Bool) → (stays ≡ false → rate_at x g ≡ pos 0)
    → join (met (far || not stays)) (top x some) ≡ join (met (far || not stays)) (top x all)
    → join (met far) (top x (cond (stays || not far) (g ∷ some) some)) ≡ join (met far) (top x (g ∷ all))
looked_at x g some all true true idle e = joined_under (Some (pos 0)) (Some (rate_at x g)) (top x some) (top x all) e
looked_at x g some all true false idle e = joined_under None (Some (rate_at x g)) (top x some) (top x all) e
looked_at x g some all false true idle e = rw (idle refl) (e ∙ join_regroup (Some (pos 0)) (Some (pos 0)) (top x all))
looked_at x g some all false false idle e = rw (idle refl) e

-- of those that end before `from` the first is kept: `Far` says of a state of the test whether it was met
module _ {F : Type 0} (R : F → Segment → Bool → F → Segment → Type 0) (Far : F → Bool → Type 0) (from : ℕ)
    (says : (f : F) (far : Bool) (g : Segment) (stays : Bool) (f' : F) (g' : Segment) → Far f far → R f g stays f' g'
    → (stays ≡ (leb from g.end || not far)) × (g' ≡ g) × Far f' (far || not (leb from g.end))) where
  retained : (f : F) (far : Bool) (all some : List Segment) → Far f far → RetainsInTurn R f all some → (x : ℕ) → from ≤ x
      → join (met far) (top x some) ≡ join (met far) (top x all)
  retained f far [] some is h x u = rw h refl
  retained f far (g ∷ all) some is h x u =
      let said = says f far g h.0 h.1 h.2 is h.3 in
      rw (h.6, said.0, said.1)
      (looked_at x g h.4 all (leb from g.end) far (λ e. rate_behind x g (let k = leb-false from g.end e in omega arith))
      (retained h.1 (far || not (leb from g.end)) all h.4 said.2 h.5 x u))

  pub near_retained : (f : F) (all some : List Segment) → Far f false → RetainsInTurn R f all some → length some ≤ length all → Near from all some
  near_retained f all some is h few = record { few = few; alike = λ x u. alike_same x some all (retained f false all some is h x u) }

-- ---- segments that are opened
-- the first of those that start behind a base is as good as all
pub first_enough : (x n : ℕ) (g : Segment) (segments : List Segment) → n < length segments → g ≡ get_or segments n g
    → AllWithin (λ f. x < f.start) segments n (length segments)
    → largest_rate (take (n + 1) segments) x ≡ largest_rate segments x
first_enough x n g segments h is behind =
    let some = take (n + 1) segments in
    let rest = drop (n + 1) segments in
    let one : get_or some n g ≡ g = get_or-take (n + 1) segments n g (omega arith) ∙ sym is in
    let zeroed : Zeroed (top x some) = zeroed_at x g some n (rw (length-take (n + 1) segments) (omega arith)) (rw one (rate_before x g later_start)) in
    let none : join (top x some) (top x rest) ≡ top x some = idle_added x g (top x some) rest zeroed (λ i l. later i (omega (arith, l, length-drop (n + 1) segments))) in
    largest_is some x ∙ (ap value (sym none ∙ sym (top_joined x some rest)) ∙ (sym (largest_is (some ++ rest) x) ∙ ap (λ (l : List Segment). largest_rate l x) (take-append-drop (n + 1) segments)))
  where
    later_start : x < g.start
    later_start =
        let e : (get_or segments n g).start ≡ g.start = ap (λ (f : Segment). f.start) (sym is) in
        let b = behind n g (omega arith) h in
        omega arith

    later : (i : ℕ) → n + 1 + i < length segments → rate_at x (get_or (drop (n + 1) segments) i g) ≡ pos 0
    later i l = rw (get_or-drop (n + 1) segments i g) (rate_before x (get_or segments (n + 1 + i) g) (behind (n + 1 + i) g (omega arith) l))

-- where one starts behind a base and the starts rise, all from it on do
all_later : (x n : ℕ) (g : Segment) (segments : List Segment) → Rising segments → n < length segments → g ≡ get_or segments n g → x < g.start
    → AllWithin (λ f. x < f.start) segments n (length segments)
all_later x n g segments rising h is u i d k l =
    let first : g.start ≡ (get_or segments n d).start = ap (λ (f : Segment). f.start) (is ∙ get_or_default segments n g d h) in
    let behind = rising n i d k l in
    omega arith

-- what stands at i of those from n on
pub at_rest : (n : ℕ) (l : List Segment) (i : ℕ) (g : Segment) → i < length (take (length l - n) (drop n l)) → g ≡ get_or (take (length l - n) (drop n l)) i g
    → (n + i < length l) × (g ≡ get_or l (n + i) g)
at_rest n l i g h is =
    let e : take (length l - n) (drop n l) ≡ drop n l = take_all (length l - n) (drop n l) (rw (length-drop n l) (omega arith)) in
    let k : i < length l - n = rw (e, length-drop n l) at h in
    (omega arith, rw (e, get_or-drop n l i g) at is)

module _ (segments : List Segment) {from : ℕ} {window : Window} (q : Opened segments from window) where
  -- the next one is opened
  pub opened_more : (g : Segment) (window' : Window) → Rising segments → window.next < length segments → g ≡ get_or segments window.next g → g.start ≤ 4000000
      → window'.rows.items ≡ window.rows.items ++ (g ∷ []) → window'.next ≡ window.next + 1 → window'.ahead ≡ g.start → Opened segments from window'
  opened_more g window' rising h is low rows next ahead =
      record {
        within = omega arith;
        bounded = omega arith;
        few = rw rows (simp length-append (omega (arith, q.few)));
        alike = λ x u more.
            rw (rows, next, take_more segments window.next g h, ← is, append_assoc window.rows.items (g ∷ []) more, append_assoc (take window.next segments) (g ∷ []) more)
            (q.alike x u (g ∷ more));
        enough = λ x u. rw next (first_enough x window.next g segments h is (all_later x window.next g segments rising h is (omega arith)));
      }
