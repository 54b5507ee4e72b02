-- The laws of `Each`, `Adjacent`, `keep` and `listed`: by place, and over lists that grow at the end.
use mathlib.Core.Logic.{⊎_elim}
use mathlib.Core.Path.{◌≡◌, refl, sym, ap, ap₂, ◌∙◌}
use mathlib.Core.Bool.{Bool, true, false, cond, ◌&&◌, ◌||◌}
use mathlib.Core.List.{List, [], ◌∷◌, ◌++◌, append-nil, append_assoc, map, map-append}
use Prim.Native.Nat.{ℕ, zero, suc, ◌+◌, ◌-◌, ◌<◌, ◌≤◌}
use native.Mathlib.Nat.{eq-or-lt_of_le}
use native.Mathlib.Omega.{arith}
use lib.ListN.{length, get_or, replicate, length-append, length-replicate, get_or-replicate, get_or-append, get_or-eq_default}
use lib.Seq.{get_or_at}
use Rattle.gaze.specs.Lists.{Each, Adjacent, keep, listed, some_of}
use Rattle.gaze.proofs.Tests.{none_below, at_or_below}

-- ---- each entry, by its place; d stands past the end
pub each_of : {A : Type 0} (P : A → Type 0) (d : A) (l : List A) → ((i : ℕ) → i < length l → P (get_or l i d)) → Each P l
unfolding Each
each_of P d [] f = tt
each_of P d (a ∷ l) f = (f zero (omega arith), each_of P d l (λ i h. f (suc i) (omega arith)))

pub each_at : {A : Type 0} (P : A → Type 0) (d : A) (l : List A) → Each P l → (i : ℕ) → i < length l → P (get_or l i d)
unfolding Each
each_at P d [] p i h = absurd (none_below h)
each_at P d (a ∷ l) p zero h = p.0
each_at P d (a ∷ l) p (suc i) h = each_at P d l p.1 i (omega arith)

pub each_append : {A : Type 0} (P : A → Type 0) (l m : List A) → Each P l → Each P m → Each P (l ++ m)
unfolding Each
each_append P [] m p q = q
each_append P (a ∷ l) m p q = (p.0, each_append P l m p.1 q)

pub each_map : {A : Type 0} (P Q : A → Type 0) (l : List A) → ((a : A) → P a → Q a) → Each P l → Each Q l
unfolding Each
each_map P Q [] f p = tt
each_map P Q (a ∷ l) f p = (f a p.0, each_map P Q l f p.1)

pub each_mapped : {A B : Type 0} (P : A → Type 0) (Q : B → Type 0) (f : A → B) (l : List A) → ((a : A) → P a → Q (f a)) → Each P l → Each Q (map f l)
unfolding Each
each_mapped P Q f [] h p = tt
each_mapped P Q f (a ∷ l) h p = (h a p.0, each_mapped P Q f l h p.1)

-- what holds of each holds of each that is kept
pub each_kept : {A : Type 0} (P : A → Type 0) (test : A → Bool) (l : List A) → Each P l → Each P (keep test l)
unfolding Each keep
each_kept P test [] p = tt
each_kept P test (a ∷ l) p = go (test a) (each_kept P test l p.1)
  where
    go : (b : Bool) → Each P (keep test l) → Each P (cond b (a ∷ keep test l) (keep test l))
    go true q = (p.0, q)
    go false q = q

-- ---- one entry over and over
pub repeated : {A : Type 0} (n : ℕ) (a : A) (j : ℕ) → get_or (replicate n a) j a ≡ a
repeated n a j =
    ⊎_elim
    (λ h. get_or-eq_default (replicate n a) a (rw (length-replicate n a) h))
    (λ h. get_or-replicate n j a a h)
    (at_or_below n j)

-- ---- adjacent entries, by their places
pub adjacent_of : {A : Type 0} (R : A → A → Type 0) (d : A) (l : List A) → ((i : ℕ) → suc i < length l → R (get_or l i d) (get_or l (suc i) d)) → Adjacent R l
unfolding Adjacent
adjacent_of R d [] f = tt
adjacent_of R d (a ∷ []) f = tt
adjacent_of R d (a ∷ b ∷ l) f = (f zero (omega arith), adjacent_of R d (b ∷ l) (λ i h. f (suc i) (omega arith)))

pub adjacent_at : {A : Type 0} (R : A → A → Type 0) (d : A) (l : List A) → Adjacent R l → (i : ℕ) → suc i < length l → R (get_or l i d) (get_or l (suc i) d)
unfolding Adjacent
adjacent_at R d [] p i h = absurd (none_in h)
  where
    none_in : {i : ℕ} → suc i < 0 → ⊥
    none_in h = omega arith
adjacent_at R d (a ∷ []) p i h = absurd (none_in h)
  where
    none_in : {i : ℕ} → suc i < 1 → ⊥
    none_in h = omega arith
adjacent_at R d (a ∷ b ∷ l) p zero h = p.0
adjacent_at R d (a ∷ b ∷ l) p (suc i) h = adjacent_at R d (b ∷ l) p.1 i (omega arith)

-- where R is transitive, each entry and every later one
pub adjacent_all : {A : Type 0} (R : A → A → Type 0) → ((a b c : A) → R a b → R b c → R a c) → (d : A) (l : List A) → Adjacent R l
    → (i j : ℕ) → i < j → j < length l → R (get_or l i d) (get_or l j d)
adjacent_all R trans d l p i zero h k = absurd (none_below h)
adjacent_all R trans d l p i (suc j) h k =
    ⊎_elim
    (λ (e : i ≡ j). rw e (adjacent_at R d l p j k))
    (λ (lt : i < j). trans (get_or l i d) (get_or l j d) (get_or l (suc j) d) (adjacent_all R trans d l p i j lt (omega arith)) (adjacent_at R d l p j k))
    (eq-or-lt_of_le (le_down h))
  where
    le_down : {a b : ℕ} → a < suc b → a ≤ b
    le_down h = omega arith

-- one entry more at the end
pub adjacent_more : {A : Type 0} (R : A → A → Type 0) (d : A) (l : List A) (a : A) → Adjacent R l → (0 < length l → R (get_or l (length l - 1) d) a) → Adjacent R (l ++ (a ∷ []))
unfolding Adjacent
adjacent_more R d [] a p f = tt
adjacent_more R d (b ∷ []) a p f = (f (omega arith), tt)
adjacent_more R d (b ∷ e ∷ l) a p f =
    let k : length (b ∷ e ∷ l) - 1 ≡ suc (length (e ∷ l) - 1) = omega arith in
    (p.0, adjacent_more R d (e ∷ l) a p.1 (λ h. rw k at (f (omega arith))))

-- of entries made from those of another list, of each of which P holds
pub adjacent_mapped : {A B : Type 0} (P : A → Type 0) (R : A → A → Type 0) (S : B → B → Type 0) (f : A → B) (l : List A) → ((a b : A) → P a → P b → R a b → S (f a) (f b)) → Each P l → Adjacent R l → Adjacent S (map f l)
unfolding Each Adjacent
adjacent_mapped P R S f [] h e p = tt
adjacent_mapped P R S f (a ∷ []) h e p = tt
adjacent_mapped P R S f (a ∷ b ∷ l) h e p = (h a b e.0 e.1.0 p.0, adjacent_mapped P R S f (b ∷ l) h e.1 p.1)

-- ---- what is kept of a list that grows at the end
keep_one : {A : Type 0} (b : Bool) (a : A) (l m : List A) → cond b (a ∷ (l ++ m)) (l ++ m) ≡ cond b (a ∷ l) l ++ m
keep_one true a l m = refl
keep_one false a l m = refl

pub keep_append : {A : Type 0} (test : A → Bool) (l m : List A) → keep test (l ++ m) ≡ keep test l ++ keep test m
unfolding keep
keep_append test [] m = refl
keep_append test (a ∷ l) m = rw (keep_append test l m) (keep_one (test a) a (keep test l) (keep test m))

pub keep_in : {A : Type 0} (test : A → Bool) (l : List A) (a : A) → test a ≡ true → keep test (l ++ (a ∷ [])) ≡ keep test l ++ (a ∷ [])
unfolding keep
keep_in test l a h = keep_append test l (a ∷ []) ∙ simp h

pub keep_out : {A : Type 0} (test : A → Bool) (l : List A) (a : A) → test a ≡ false → keep test (l ++ (a ∷ [])) ≡ keep test l
unfolding keep
keep_out test l a h = keep_append test l (a ∷ []) ∙ simp (h, append-nil)

pub keep_length : {A : Type 0} (test : A → Bool) (l : List A) → length (keep test l) ≤ length l
unfolding keep
keep_length test [] = omega arith
keep_length test (a ∷ l) = go (test a) (keep_length test l)
  where
    go : (b : Bool) → length (keep test l) ≤ length l → length (cond b (a ∷ keep test l) (keep test l)) ≤ suc (length l)
    go true h = omega arith
    go false h = omega arith

pub keep_same : {A : Type 0} (p q : A → Bool) (l : List A) → ((a : A) → p a ≡ q a) → keep p l ≡ keep q l
unfolding keep
keep_same p q [] h = refl
keep_same p q (a ∷ l) h = rw (h a, keep_same p q l h) refl

pub keep_all : {A : Type 0} (test : A → Bool) (l : List A) → ((a : A) → test a ≡ true) → keep test l ≡ l
unfolding keep
keep_all test [] h = refl
keep_all test (a ∷ l) h = rw (h a, keep_all test l h) refl

-- of entries that all pass, and of entries that all do not
pub keep_each : {A : Type 0} (test : A → Bool) (l : List A) → Each (λ a. test a ≡ true) l → keep test l ≡ l
unfolding Each keep
keep_each test [] p = refl
keep_each test (a ∷ l) p = rw (p.0, keep_each test l p.1) refl

pub keep_no : {A : Type 0} (test : A → Bool) (l : List A) → Each (λ a. test a ≡ false) l → keep test l ≡ []
unfolding Each keep
keep_no test [] p = refl
keep_no test (a ∷ l) p = rw (p.0, keep_no test l p.1) refl

-- by one test and then by another
pub keep_twice : {A : Type 0} (p q : A → Bool) (l : List A) → keep q (keep p l) ≡ keep (λ a. p a && q a) l
unfolding keep
keep_twice p q [] = refl
keep_twice p q (a ∷ l) = rw (← keep_twice p q l) (go (p a))
  where
    go : (b : Bool) → keep q (cond b (a ∷ keep p l) (keep p l)) ≡ cond (b && q a) (a ∷ keep q (keep p l)) (keep q (keep p l))
    go true = refl
    go false = refl

-- a test that a function does not change
pub keep_map : {A B : Type 0} (f : A → B) (p : B → Bool) (q : A → Bool) (l : List A) → ((a : A) → p (f a) ≡ q a) → keep p (map f l) ≡ map f (keep q l)
unfolding keep
keep_map f p q [] h = refl
keep_map f p q (a ∷ l) h = rw (h a, keep_map f p q l h) (go (q a))
  where
    go : (b : Bool) → cond b (f a ∷ map f (keep q l)) (map f (keep q l)) ≡ map f (cond b (a ∷ keep q l) (keep q l))
    go true = refl
    go false = refl

-- ---- the list that a function gives

pub listed_length : {A : Type 0} (f : ℕ → A) (lo n : ℕ) → length (listed f lo n) ≡ n
unfolding listed
listed_length f lo zero = refl
listed_length f lo (suc n) = length-append (listed f lo n) (f (lo + n) ∷ []) ∙ one_more (listed_length f lo n)
  where
    one_more : {k : ℕ} → k ≡ n → k + 1 ≡ suc n
    one_more h = omega arith

pub listed_at : {A : Type 0} (f : ℕ → A) (lo n : ℕ) (d : A) (i : ℕ) → i < n → get_or (listed f lo n) i d ≡ f (lo + i)
unfolding listed
listed_at f lo zero d i h = absurd (none_below h)
listed_at f lo (suc n) d i h = ⊎_elim at_end (before (listed_at f lo n d i)) (eq-or-lt_of_le (le_down h))
  where
    le_down : {a b : ℕ} → a < suc b → a ≤ b
    le_down h = omega arith

    at_end : i ≡ n → get_or (listed f lo n ++ (f (lo + n) ∷ [])) i d ≡ f (lo + i)
    at_end e = rw e (get_or_at (listed f lo n) (f (lo + n)) [] d n (listed_length f lo n))

    before : (i < n → get_or (listed f lo n) i d ≡ f (lo + i)) → i < n → get_or (listed f lo n ++ (f (lo + n) ∷ [])) i d ≡ f (lo + i)
    before shorter lt = get_or-append (listed f lo n) (f (lo + n) ∷ []) d i (rw (listed_length f lo n) lt) ∙ shorter lt

pub each_listed : {A : Type 0} (P : A → Type 0) (f : ℕ → A) (lo n : ℕ) → ((i : ℕ) → lo ≤ i → i < lo + n → P (f i)) → Each P (listed f lo n)
unfolding listed Each
each_listed P f lo zero h = tt
each_listed P f lo (suc n) h =
    each_append P (listed f lo n) (f (lo + n) ∷ []) (each_listed P f lo n (λ i l u. h i l (omega arith))) (h (lo + n) (omega arith) (omega arith), tt)

-- the same list, where the functions agree
pub listed_same : {A : Type 0} (f g : ℕ → A) (lo n : ℕ) → ((i : ℕ) → lo ≤ i → i < lo + n → f i ≡ g i) → listed f lo n ≡ listed g lo n
unfolding listed
listed_same f g lo zero h = refl
listed_same f g lo (suc n) h =
    ap₂ ◌++◌ (listed_same f g lo n (λ i l u. h i l (omega arith))) (ap (λ (a : _). a ∷ []) (h (lo + n) (omega arith) (omega arith)))

-- in two parts
pub listed_joined : {A : Type 0} (f : ℕ → A) (lo m n : ℕ) → listed f lo (m + n) ≡ listed f lo m ++ listed f (lo + m) n
unfolding listed
listed_joined f lo m zero = rw (zero_right m) (sym (append-nil (listed f lo m)))
  where
    zero_right : (m : ℕ) → m + 0 ≡ m
    zero_right m = omega arith
listed_joined f lo m (suc n) =
    ap (listed f lo) (suc_right m n)
    ∙ (ap₂ (λ (l : List _) (i : ℕ). l ++ (f i ∷ [])) (listed_joined f lo m n) (regroup lo m n)
    ∙ append_assoc (listed f lo m) (listed f (lo + m) n) (f (lo + m + n) ∷ []))
  where
    suc_right : (m n : ℕ) → m + suc n ≡ suc (m + n)
    suc_right m n = omega arith

    regroup : (lo m n : ℕ) → lo + (m + n) ≡ lo + m + n
    regroup lo m n = omega arith

-- the first of them apart
pub listed_first : {A : Type 0} (f : ℕ → A) (lo n : ℕ) → listed f lo (suc n) ≡ f lo ∷ listed f (suc lo) n
unfolding listed
listed_first f lo zero = rw (zero_right lo) refl
  where
    zero_right : (m : ℕ) → m + 0 ≡ m
    zero_right m = omega arith
listed_first f lo (suc n) = rw (listed_first f lo n, suc_right lo n) refl
  where
    suc_right : (m n : ℕ) → m + suc n ≡ suc m + n
    suc_right m n = omega arith

keep_joined : {A : Type 0} (test : A → Bool) (f : ℕ → A) (k m n : ℕ) → n ≡ k + m
    → keep test (listed f 0 n) ≡ keep test (listed f 0 k) ++ keep test (listed f k m)
keep_joined test f k m n e =
    let zero_left : 0 + k ≡ k = omega arith in
    ap (λ (i : ℕ). keep test (listed f 0 i)) e
    ∙ (ap (keep test) (listed_joined f 0 k m ∙ ap (λ (i : ℕ). listed f 0 k ++ listed f i m) zero_left)
    ∙ keep_append test (listed f 0 k) (listed f k m))

-- what is kept of it, where those from lo to hi pass, and no others do
pub listed_part : {A : Type 0} (test : A → Bool) (f : ℕ → A) (lo hi n : ℕ) → lo ≤ hi → hi ≤ n
    → ((i : ℕ) → i < lo → test (f i) ≡ false)
    → ((i : ℕ) → lo ≤ i → i < hi → test (f i) ≡ true)
    → ((i : ℕ) → hi ≤ i → i < n → test (f i) ≡ false)
    → keep test (listed f 0 n) ≡ listed f lo (hi - lo)
listed_part test f lo hi n h k before within after =
    let none_before = keep_no test (listed f 0 lo) (each_listed (λ a. test a ≡ false) f 0 lo (λ i l u. before i (omega arith))) in
    let all_within = keep_each test (listed f lo (hi - lo)) (each_listed (λ a. test a ≡ true) f lo (hi - lo) (λ i l u. within i l (omega arith))) in
    let none_after = keep_no test (listed f hi (n - hi)) (each_listed (λ a. test a ≡ false) f hi (n - hi) (λ i l u. after i l (omega arith))) in
    keep_joined test f hi (n - hi) n (omega arith)
    ∙ (ap₂ ◌++◌ (keep_joined test f lo (hi - lo) hi (omega arith) ∙ ap₂ ◌++◌ none_before all_within) none_after
    ∙ append-nil (listed f lo (hi - lo)))

-- what a function makes of a list, where another gives the same by place
pub map_by_place : {A B : Type 0} (g : A → B) (f : ℕ → B) (d : A) (lo : ℕ) (l : List A) → ((i : ℕ) → i < length l → f (lo + i) ≡ g (get_or l i d)) → map g l ≡ listed f lo (length l)
unfolding listed
map_by_place g f d lo [] h = refl
map_by_place g f d lo (a ∷ l) h =
    ap₂ ◌∷◌ (sym (ap f (zero_right lo) ∙ h zero (omega arith))) (map_by_place g f d (suc lo) l (λ i k. ap f (suc_left lo i) ∙ h (suc i) (omega arith)))
    ∙ sym (listed_first f lo (length l))
  where
    zero_right : (lo : ℕ) → lo ≡ lo + 0
    zero_right lo = omega arith

    suc_left : (lo i : ℕ) → suc lo + i ≡ lo + suc i
    suc_left lo i = omega arith

-- ---- whether some entry passes
pub some_append : {A : Type 0} (test : A → Bool) (l m : List A) → some_of test (l ++ m) ≡ (some_of test l || some_of test m)
unfolding some_of
some_append test [] m = refl
some_append test (a ∷ l) m = rw (some_append test l m) (either (test a) (some_of test l) (some_of test m))
  where
    either : (a b c : Bool) → (a || (b || c)) ≡ ((a || b) || c)
    either true b c = refl
    either false b c = refl

pub some_same : {A : Type 0} (p q : A → Bool) (l : List A) → ((a : A) → p a ≡ q a) → some_of p l ≡ some_of q l
unfolding some_of
some_same p q [] h = refl
some_same p q (a ∷ l) h = ap₂ ◌||◌ (h a) (some_same p q l h)

pub some_none : {A : Type 0} (P : A → Type 0) (test : A → Bool) (l : List A) → ((a : A) → P a → test a ≡ false) → Each P l → some_of test l ≡ false
unfolding some_of Each
some_none P test [] h e = refl
some_none P test (a ∷ l) h e = rw (h a e.0) (some_none P test l h e.1)

pub map_listed : {A B : Type 0} (h : A → B) (f : ℕ → A) (lo n : ℕ) → map h (listed f lo n) ≡ listed (λ i. h (f i)) lo n
unfolding listed
map_listed h f lo zero = refl
map_listed h f lo (suc n) =
    map-append h (listed f lo n) (f (lo + n) ∷ []) ∙ ap (λ (l : List _). l ++ (h (f (lo + n)) ∷ [])) (map_listed h f lo n)
