-- Laws of byte strings and of searching a list.
use mathlib.Core.Path.{◌≡◌, refl, sym, ap, ◌∙◌}
use Prim.Native.Nat.{ℕ, zero, suc, ◌+◌, ◌-◌, ◌*◌, ◌/◌, ◌≤◌, ◌<◌}
use native.Mathlib.Numerals.{add-one}
use native.Mathlib.Omega.{arith}
use native.Mathlib.Nat.{le_of_suc-le-suc, div-mul-le_self}
use mathlib.Core.Bool.{Bool, true, false, true≢false}
use mathlib.Core.Option.{Option, some}
use mathlib.Core.List.{List, [], ◌∷◌, ◌++◌}
use lib.ListN.{length, take, drop, get_or, length-drop, drop_of_length-le, take-append-drop}
use lib.Seq.{take-suc, drop-cons, get_or-drop, drop-drop}
use lib.Dec.{eqb}
use borrow.Author.Tests.{eqb-true, eq-eqb}
use Rattle.std.specs.Cmp.Lexicographic.{pointwise}
use Rattle.std.specs.Prelude.{nat_eq}
use Rattle.std.specs.Simd.{first_chunks}
use Rattle.text_lexical.specs.Bytes.{every, same, before, run, find, is_some, each}
use Rattle.text_lexical.proofs.Tests.{by-test, both, and_both}

-- ---- strings of one class

pub every-head : (p : ℕ → Bool) (b : ℕ) (s : List ℕ) → every p (b ∷ s) ≡ true → p b ≡ true
unfolding every
every-head p b s h = (both (p b) (every p s) h).0

pub every-tail : (p : ℕ → Bool) (b : ℕ) (s : List ℕ) → every p (b ∷ s) ≡ true → every p s ≡ true
unfolding every
every-tail p b s h = (both (p b) (every p s) h).1

pub every-cons : (p : ℕ → Bool) (b : ℕ) (s : List ℕ) → p b ≡ true → every p s ≡ true → every p (b ∷ s) ≡ true
unfolding every
every-cons p b s hb hs = and_both (p b) (every p s) hb hs

pub every_append : (p : ℕ → Bool) (s t : List ℕ) → every p s ≡ true → every p t ≡ true → every p (s ++ t) ≡ true
unfolding every
every_append p [] t hs ht = ht
every_append p (b ∷ s) t hs ht = every-cons p b (s ++ t) (every-head p b s hs) (every_append p s t (every-tail p b s hs) ht)

pub every-mono : (p q : ℕ → Bool) → ((b : ℕ) → p b ≡ true → q b ≡ true) → (s : List ℕ) → every p s ≡ true → every q s ≡ true
unfolding every
every-mono p q f [] h = refl
every-mono p q f (b ∷ s) h = every-cons q b s (f b (every-head p b s h)) (every-mono p q f s (every-tail p b s h))

pub every-split : (p : ℕ → Bool) (s t : List ℕ) → every p (s ++ t) ≡ true → (every p s ≡ true) × (every p t ≡ true)
unfolding every
every-split p [] t h = (refl, h)
every-split p (b ∷ s) t h =
    let (hs, ht) = every-split p s t (every-tail p b (s ++ t) h) in
    (every-cons p b s (every-head p b (s ++ t) h) hs, ht)

pub every_take : (p : ℕ → Bool) (n : ℕ) (s : List ℕ) → every p s ≡ true → every p (take n s) ≡ true
every_take p n s h = (every-split p (take n s) (drop n s) (rw (take-append-drop n s) h)).0

pub every_drop : (p : ℕ → Bool) (n : ℕ) (s : List ℕ) → every p s ≡ true → every p (drop n s) ≡ true
every_drop p n s h = (every-split p (take n s) (drop n s) (rw (take-append-drop n s) h)).1

pub same-eq : (s t : List ℕ) → same s t ≡ true → s ≡ t
unfolding same
same-eq [] [] h = refl
same-eq [] (y ∷ t) h = absurd (true≢false (sym h))
same-eq (x ∷ s) [] h = absurd (true≢false (sym h))
same-eq (x ∷ s) (y ∷ t) h =
    let (e, r) = both (eqb x y) (same s t) h in
    rw (eqb-true x y e, same-eq s t r)

pub eq-same : (s t : List ℕ) → s ≡ t → same s t ≡ true
unfolding same
eq-same s t e = rw (← e) (refl-same s)
  where
    refl-same : (u : List ℕ) → same u u ≡ true
    refl-same [] = refl
    refl-same (x ∷ u) = and_both (eqb x x) (same u u) (eq-eqb x x refl) (refl-same u)

-- So the library's equality of bytes finds.
pub pointwise-same : (s t : List ℕ) → pointwise nat_eq s t ≡ same s t
unfolding same
pointwise-same [] [] = refl
pointwise-same [] (y ∷ t) = refl
pointwise-same (x ∷ s) [] = refl
pointwise-same (x ∷ s) (y ∷ t) = by-test (eqb x y) (λ e. rw (same, e) (pointwise-same s t)) (λ e. rw (same, e))

-- ---- runs of a class

pub take-run : (p : ℕ → Bool) (s : List ℕ) → take (run p s) s ≡ before p s
unfolding run before
take-run p [] = refl
take-run p (b ∷ s) = by-test (p b) (λ e. rw (before, e) (ap (λ (x : List ℕ). b ∷ x) (take-run p s))) (λ e. rw (before, e))

pub every-run : (p : ℕ → Bool) (s : List ℕ) → every p (before p s) ≡ true
unfolding before every
every-run p [] = refl
every-run p (b ∷ s) = by-test (p b) (λ e. rw (before, e, every, e) (every-run p s)) (λ e. rw (before, e))

pub run-le : (p : ℕ → Bool) (s : List ℕ) → run p s ≤ length s
unfolding run before
run-le p [] = omega arith
run-le p (b ∷ s) = by-test (p b) (λ e. rw (before, e) (omega (arith, run-le p s))) (λ e. rw (before, e) (omega arith))

pub past-run : (p : ℕ → Bool) (s : List ℕ) (j : ℕ) → run p s < j → j ≤ length s → every p (take j s) ≡ false
unfolding run before every
past-run p [] j h l = absurd (omega arith)
past-run p (b ∷ s) zero h l = absurd (omega arith)
past-run p (b ∷ s) (suc j) h l =
    by-test (p b) (λ e. rw (every, e) (past-run p s j (le_of_suc-le-suc (rw (before, e) at h)) (omega arith))) (λ e. rw (every, e))

-- A run stops at a byte outside the class,
pub run-stop : (p : ℕ → Bool) (s : List ℕ) → run p s < length s → p (get_or s (run p s) 0) ≡ false
unfolding run before
run-stop p [] h = absurd (omega arith)
run-stop p (b ∷ s) h = by-test (p b) (λ e. rw (before, e) (run-stop p s (omega (arith, rw (before, e) at h)))) (λ e. rw (before, e) e)

-- and so does not go on there.
run-ended : (p : ℕ → Bool) (t : List ℕ) → run p (drop (run p t) t) ≡ 0
unfolding run before
run-ended p [] = refl
run-ended p (b ∷ t) = by-test (p b) (λ e. rw (before, e) (run-ended p t)) (λ e. rw (before, e, before, e))

pub run-over : (p : ℕ → Bool) (s : List ℕ) (from : ℕ) → run p (drop (from + run p (drop from s)) s) ≡ 0
run-over p s from = rw (← drop-drop (run p (drop from s)) from s) (run-ended p (drop from s))

-- A run is what of it has been passed, and the rest.
pub run_past : (p : ℕ → Bool) (k : ℕ) (s : List ℕ) → k ≤ length s → every p (take k s) ≡ true → run p s ≡ k + run p (drop k s)
unfolding run before
run_past p zero s l h = omega arith
run_past p (suc k) [] l h = absurd (omega arith)
run_past p (suc k) (b ∷ s) l h =
    let e = every-head p b (take k s) h in
    rw (before, e) (omega (arith, run_past p k s (omega arith) (every-tail p b (take k s) h)))

-- A text does not begin with a byte of the class.
unfoldable pub ends : (ℕ → Bool) → List ℕ → Bool
ends p [] = true
ends p (b ∷ s) = elim (p b) [ true ↦ false | false ↦ true ]

pub ends-head : (p : ℕ → Bool) (b : ℕ) (s : List ℕ) → ends p (b ∷ s) ≡ true → p b ≡ false
unfolding ends
ends-head p b s h = by-test (p b) (λ e. absurd (true≢false (sym h ∙ rw (ends, e)))) (λ e. e)

-- What is of the class, and then something else.
pub before-append : (p : ℕ → Bool) (s t : List ℕ) → every p s ≡ true → ends p t ≡ true → before p (s ++ t) ≡ s
unfolding before every ends
before-append p [] [] hs ht = refl
before-append p [] (b ∷ t) hs ht = rw (before, ends-head p b t ht)
before-append p (b ∷ s) t hs ht =
    rw (before, every-head p b s hs) (ap (λ (x : List ℕ). b ∷ x) (before-append p s t (every-tail p b s hs) ht))

pub run-append : (p : ℕ → Bool) (s t : List ℕ) → every p s ≡ true → ends p t ≡ true → run p (s ++ t) ≡ length s
unfolding run
run-append p s t hs ht = ap length (before-append p s t hs ht)

pub before-all : (p : ℕ → Bool) (s : List ℕ) → every p s ≡ true → before p s ≡ s
unfolding before every
before-all p [] h = refl
before-all p (b ∷ s) h = rw (before, every-head p b s h) (ap (λ (x : List ℕ). b ∷ x) (before-all p s (every-tail p b s h)))

-- A run byte by byte, as a loop over a slice meets it.
pub run-yes : (p : ℕ → Bool) (s : List ℕ) (i : ℕ) → i < length s → p (get_or s i 0) ≡ true → run p (drop i s) ≡ suc (run p (drop (suc i) s))
unfolding run before
run-yes p s i l e = rw (drop-cons s i 0 l, before, e)

pub run-no : (p : ℕ → Bool) (s : List ℕ) (i : ℕ) → i < length s → p (get_or s i 0) ≡ false → run p (drop i s) ≡ 0
unfolding run before
run-no p s i l e = rw (drop-cons s i 0 l, before, e)

pub run_end : (p : ℕ → Bool) (s : List ℕ) (i : ℕ) → length s ≤ i → run p (drop i s) ≡ 0
unfolding run before
run_end p s i l = rw (drop_of_length-le s l)

-- A class of bytes byte by byte, as a loop over them meets it.
every-snoc-yes : (p : ℕ → Bool) (s : List ℕ) (b : ℕ) → p b ≡ true → every p (s ++ (b ∷ [])) ≡ every p s
unfolding every
every-snoc-yes p [] b h = rw h
every-snoc-yes p (x ∷ s) b h = ap (λ (r : Bool). elim (p x) [ true ↦ r | false ↦ false ]) (every-snoc-yes p s b h)

every-snoc-no : (p : ℕ → Bool) (s : List ℕ) (b : ℕ) → p b ≡ false → every p (s ++ (b ∷ [])) ≡ false
unfolding every
every-snoc-no p [] b h = rw h
every-snoc-no p (x ∷ s) b h = by-test (p x) (λ e. rw (every, e) (every-snoc-no p s b h)) (λ e. rw (every, e))

module _ (p : ℕ → Bool) (s : List ℕ) (j : ℕ) (l : j < length s) where
  pub every-yes : p (get_or s j 0) ≡ true → every p (take (suc j) s) ≡ every p (take j s)
  every-yes e = rw (take-suc s j 0 l) (every-snoc-yes p (take j s) (get_or s j 0) e)

  pub every-no : p (get_or s j 0) ≡ false → every p (take (suc j) s) ≡ false
  every-no e = rw (take-suc s j 0 l) (every-snoc-no p (take j s) (get_or s j 0) e)

-- A part of a text with its next byte.
pub part-more : (s : List ℕ) (at i : ℕ) → at ≤ i → i < length s → take (i + 1 - at) (drop at s) ≡ take (i - at) (drop at s) ++ (get_or s i 0 ∷ [])
part-more s at i o l =
    let m : i + 1 - at ≡ suc (i - at) = omega arith in
    let a : at + (i - at) ≡ i = omega arith in
    let g : get_or (drop at s) (i - at) 0 ≡ get_or s i 0 = get_or-drop at s (i - at) 0 ∙ ap (λ (x : ℕ). get_or s x 0) a in
    rw m (take-suc (drop at s) (i - at) 0 (omega (arith, length-drop at s)) ∙ rw g)

-- A run block by block: a block of the class is passed.
pub run-block : (p : ℕ → Bool) (n : ℕ) (s : List ℕ) (i : ℕ) → i + n ≤ length s → every p (take n (drop i s)) ≡ true
    → run p (drop i s) ≡ n + run p (drop (i + n) s)
run-block p n s i l h = rw (← drop-drop n i s) (run_past p n (drop i s) (simp length-drop (omega arith)) h)

-- ---- searching a list

-- What is found passes the test that it was looked for by, and any that each entry passes.
pub found : {A : Type 0} (p q : A → Bool) (l : List A) (a : A) → find p l ≡ some a → each q l ≡ true → (p a ≡ true) × (q a ≡ true)
unfolding find each is_some
found p q [] a h k = absurd (true≢false (sym (ap is_some h)))
found {A} p q (x ∷ l) a h k =
    let (qx, ql) = both (q x) (each q l) k in
    go (p x) refl qx (λ e. found p q l a e ql) h
  where
    go : (v : Bool) → p x ≡ v → q x ≡ true → (find p l ≡ some a → (p a ≡ true) × (q a ≡ true))
        → ◌≡◌ {A = Option A} (elim v [ true ↦ some x | false ↦ find p l ]) (some a) → (p a ≡ true) × (q a ≡ true)
    go true e qx f g = let i : x ≡ a = cc in (rw (← i) e, rw (← i) qx)
    go false e qx f g = f g

-- ---- a text by blocks

-- Blocks of n bytes stand in a text from a place on, one after the other.
pub record BlocksFrom (n : ℕ) (s : List ℕ) (i : ℕ) (blocks : List (List ℕ)) : Type 0 where
  pub in_text : i + length blocks * n ≤ length s
  each-is : blocks ≡ first_chunks n (length blocks) (drop i s)

pub blocks-begin : (n : ℕ) (s : List ℕ) (at : ℕ) (u : List ℕ) (blocks : List (List ℕ)) → at ≤ length s → u ≡ drop at s → blocks ≡ first_chunks n (length u / n) u
    → length blocks ≡ length u / n → BlocksFrom n s at blocks
blocks-begin n s at u blocks l q e k =
    record {
      in_text = rw k (omega (arith, length-drop at s, ap length q, div-mul-le_self (length u) n));
      each-is = rw (k, ← q) e;
    }

-- The next of them.
pub blocks-next : (n : ℕ) (s : List ℕ) (i : ℕ) (blocks : List (List ℕ)) (k : ℕ) (d : List ℕ) → BlocksFrom n s i (drop k blocks) → k < length blocks
    → (get_or blocks k d ≡ take n (drop i s)) × (i + n ≤ length s) × BlocksFrom n s (i + n) (drop (k + 1) blocks)
blocks-next n s i blocks k d q l =
    let e : drop k blocks ≡ get_or blocks k d ∷ drop (k + 1) blocks = drop-cons blocks k d l ∙ rw (add-one k) in
    go (get_or blocks k d) (drop (k + 1) blocks) (rw e at q)
  where
    go : (b : List ℕ) (bs : List (List ℕ)) → BlocksFrom n s i (b ∷ bs) → (b ≡ take n (drop i s)) × (i + n ≤ length s) × BlocksFrom n s (i + n) bs
    go b bs r =
        let e : b ∷ bs ≡ take n (drop i s) ∷ first_chunks n (length bs) (drop n (drop i s)) = r.each-is in
        (cc, omega (arith, r.in_text), record { in_text = omega (arith, r.in_text); each-is = rw (← drop-drop n i s) cc })
