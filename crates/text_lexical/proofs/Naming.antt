-- Names of registers by their bytes: each is the present set's, computed once for each run of names, and there is no other.
use Prim.Native.Nat.{ℕ, suc, ◌+◌, ◌-◌, ◌%◌, ◌≤◌, ◌<◌}
use mathlib.Core.Path.{◌≡◌, refl, sym, ap, ◌∙◌}
use native.Mathlib.Omega.{arith}
use native.Mathlib.Numerals.{add-one}
use mathlib.Core.Logic.{◌⊎◌, inl, inr, ⊎_elim}
use mathlib.Core.Bool.{Bool, true, false, ◌&&◌, ◌||◌, and-eq-true_iff}
use mathlib.Core.Option.{Option, none, some}
use mathlib.Core.List.{List, [], ◌∷◌}
use lib.ListN.{length, drop, get_or, length-take, length-drop}
use lib.Seq.{drop-cons}
use lib.Dec.{leb, ltb, eqb}
use borrow.Author.Tests.{ne_eqb, eqb-true, leb-true, ltb-true}
use Rattle.std.specs.Prelude.{Some, None}
use Rattle.std.specs.Option.{unwrap_or}
use Rattle.text_lexical.specs.Bytes.{bytes, between, letter, digit, name_start, name_part, every, same, run, find, each}
use Rattle.text_lexical.specs.Names.{Name, name, named, numbered, conventional, present}
use Rattle.text_lexical.specs.Promised.{index_of, name_meant, name_number, register_number}
use Rattle.text_lexical.specs.Words.{part, word_end, word_at, up_to, longest, RegisterWordIs}
use Rattle.text_lexical.specs.declared.name.RegisterName.{RegisterName}
use Rattle.text_lexical.specs.declared.name.RegisterName.TheVariants.{Is as Named, NoSuch, Other as NoName}
use Rattle.text_lexical.specs.declared.name.Pair.{Pair}
use Rattle.text_lexical.specs.declared.name.TheConstants.{PAIRS}
use Rattle.text_lexical.proofs.Tests.{by-test, not-true, no_both, or_elim, Each, in-run}
use Rattle.text_lexical.proofs.Strings.{same-eq, found, run-le, run_past, run-yes, run-no}

-- The register that a spelling names, by its number.
abbrev Is : List ℕ → ℕ → Type 0
Is u n = some (register_number n) ≡ name_number (named present u)

-- ---- the table, by the last three bits of the first of two bytes

-- A letter's names: how many digits may follow it, and the register of the first; the other byte that may follow, and its register. Where there
-- is no letter, one with other last bits stands for it, which has no names.
abbrev blank-pair : Pair
blank-pair = record { letter = 1; digits = 0; first = 0; other = 0; number = 0 }

abbrev pair : ℕ → Pair
pair n = unwrap_or (get_or PAIRS n None) blank-pair

pub pair-is : (a : ℕ) (p : Pair) → get_or PAIRS (a % 8) None ≡ Some p → pair (a % 8) ≡ p
pair-is a p e = rw e

-- ---- what is in the table is a name

-- A run of names that end in digits, from a digit on; the number is the last byte less another number.
module _ (front : ℕ → List ℕ) (less : ℕ) where
  abbrev Run : ℕ → Type 0
  Run b = Is (front b) (b - less)

  in-names : (k b n : ℕ) → Each Run 48 k → 48 ≤ b → b < 48 + k → n ≡ b - less → Is (front b) n
  in-names k b n each l h e = rw e (in-run Run 48 k b l h each)

ten-names : Each (Run (λ b. 114 ∷ 49 ∷ b ∷ []) 38) 48 6
unfolding find present numbered conventional name bytes same named register_number
ten-names = (refl, (refl, (refl, (refl, (refl, (refl, tt))))))

pub three-named : (b : ℕ) → 48 ≤ b → b ≤ 53 → Is (114 ∷ 49 ∷ b ∷ []) (b - 38)
three-named b l h = in-names (λ b. 114 ∷ 49 ∷ b ∷ []) 38 6 b (b - 38) ten-names l (omega arith) refl

pub four-named : some (some 0) ≡ name_number (named present (122 ∷ 101 ∷ 114 ∷ 111 ∷ []))
unfolding find present numbered conventional name bytes same named
four-named = refl

-- A digit's register is one of the sixteen or the next, and the digit names it.
abbrev Few : ℕ → Type 0
Few n = (pair n).first + (pair n).digits ≤ 17

few : Each Few 0 8
few = (omega arith, (omega arith, (omega arith, (omega arith, (omega arith, (omega arith, (omega arith, (omega arith, tt))))))))

-- No letter has more names than there are digits.
abbrev Ten : ℕ → Type 0
Ten n = (pair n).digits ≤ 10

ten : Each Ten 0 8
ten = (omega arith, (omega arith, (omega arith, (omega arith, (omega arith, (omega arith, (omega arith, (omega arith, tt))))))))

abbrev ByDigit : ℕ → Type 0
ByDigit n = Each (Run (λ b. (pair n).letter ∷ b ∷ []) (48 - (pair n).first)) 48 ((pair n).digits)

a-names : ByDigit 1
unfolding find present numbered conventional name bytes same named register_number
a-names = (refl, (refl, (refl, (refl, (refl, (refl, tt))))))

r-names : ByDigit 2
unfolding find present numbered conventional name bytes same named register_number
r-names = (refl, (refl, (refl, (refl, (refl, (refl, (refl, (refl, (refl, (refl, tt))))))))))

s-names : ByDigit 3
unfolding find present numbered conventional name bytes same named register_number
s-names = (refl, (refl, tt))

t-names : ByDigit 4
unfolding find present numbered conventional name bytes same named register_number
t-names = (refl, (refl, (refl, tt)))

-- So does the other byte, where there is a letter.
abbrev ByOther : ℕ → Type 0
ByOther n = (pair n).letter % 8 ≡ n → Is ((pair n).letter ∷ (pair n).other ∷ []) ((pair n).number)

by-other : Each ByOther 0 8
unfolding find present numbered conventional name bytes same named register_number
by-other = (λ h. absurd (omega arith), (λ h. refl, (λ h. refl, (λ h. refl, (λ h. refl, (λ h. absurd (omega arith), (λ h. refl, (λ h. refl, tt))))))))

module _ (first second : ℕ) (letter : (pair (first % 8)).letter ≡ first) where
  few-here : Few (first % 8)
  few-here = in-run Few 0 8 (first % 8) (omega arith) (omega arith) few

  pub digit-named : 48 ≤ second → second - 48 < (pair (first % 8)).digits → Is (first ∷ second ∷ []) ((pair (first % 8)).first + (second - 48))
  digit-named l k =
      let d = in-run ByDigit 0 8 (first % 8) (omega arith) (omega arith) (tt, (a-names, (r-names, (s-names, (t-names, (tt, (tt, (tt, tt)))))))) in
      let r = in-names (λ b. (pair (first % 8)).letter ∷ b ∷ []) (48 - (pair (first % 8)).first) ((pair (first % 8)).digits) second ((pair (first % 8)).first + (second - 48)) d l (omega arith) (omega (arith, few-here)) in
      r ∙ ap (λ (x : ℕ). name_number (named present (x ∷ second ∷ []))) letter

  pub other-named : second ≡ (pair (first % 8)).other → Is (first ∷ second ∷ []) ((pair (first % 8)).number)
  other-named f =
      let r = in-run ByOther 0 8 (first % 8) (omega arith) (omega arith) by-other (ap (λ (x : ℕ). x % 8) letter) in
      rw f (r ∙ ap (λ (x : ℕ). name_number (named present (x ∷ (pair (first % 8)).other ∷ []))) letter)

-- ---- and there is no other name

-- Two, three or four bytes that pass the code's tests.
unfoldable listed : List ℕ → Bool
listed [] = false
listed (a ∷ []) = false
listed (a ∷ b ∷ []) =
    eqb ((pair (a % 8)).letter) a && ((leb 48 b && ltb (b - 48) ((pair (a % 8)).digits)) || eqb b ((pair (a % 8)).other))
listed (a ∷ b ∷ c ∷ []) = eqb a 114 && (eqb b 49 && between 48 53 c)
listed (a ∷ b ∷ c ∷ d ∷ []) = eqb a 122 && (eqb b 101 && (eqb c 114 && eqb d 111))
listed (a ∷ b ∷ c ∷ d ∷ e ∷ s) = false

all_listed : each (λ n. listed n.spelling) present ≡ true
unfolding each listed present numbered conventional name bytes between
all_listed = refl

none_named : (u : List ℕ) → listed u ≡ false → none ≡ name_number (named present u)
unfolding named
none_named u h = go (named present u) refl
  where
    go : (o : Option Name) → named present u ≡ o → none ≡ name_number o
    go none e = refl
    go (some n) e =
        let (p, q) = found (λ x. same x.spelling u) (λ x. listed x.spelling) present n e all_listed in
        no_both (rw (same-eq n.spelling u p) at q) h

-- By the first test that fails.
pub no-letter : (a b : ℕ) → ((pair (a % 8)).letter ≡ a → ⊥) → none ≡ name_number (named present (a ∷ b ∷ []))
unfolding listed
no-letter a b h = none_named (a ∷ b ∷ []) (rw (listed, ne_eqb ((pair (a % 8)).letter) a h))

pub no-pair : (a b : ℕ) → get_or PAIRS (a % 8) None ≡ None → none ≡ name_number (named present (a ∷ b ∷ []))
no-pair a b h =
    no-letter a b (λ e. let one : 1 ≡ a = rw h at e in let some_pair : get_or PAIRS 1 None ≡ None = rw (← one) at h in let z : ◌≡◌ {A = ℕ} 0 1 = cc in absurd (omega arith))

pub no_second : (a b : ℕ) → (48 ≤ b → b ≤ 57 → b - 48 < (pair (a % 8)).digits → ⊥) → (b ≡ (pair (a % 8)).other → ⊥) → none ≡ name_number (named present (a ∷ b ∷ []))
unfolding listed
no_second a b f g =
    none_named (a ∷ b ∷ []) (not-true (listed (a ∷ b ∷ [])) (λ t.
    let (l, r) = (and-eq-true_iff (eqb ((pair (a % 8)).letter) a) _).0 t in
    or_elim (leb 48 b && ltb (b - 48) ((pair (a % 8)).digits)) (eqb b ((pair (a % 8)).other)) r
    (λ d. let (x, y) = (and-eq-true_iff (leb 48 b) (ltb (b - 48) ((pair (a % 8)).digits))).0 d in
    let l = leb-true 48 b x in
    let k = ltb-true (b - 48) ((pair (a % 8)).digits) y in
    f l (omega (arith, in-run Ten 0 8 (a % 8) (omega arith) (omega arith) ten)) k)
    (λ o. g (eqb-true b ((pair (a % 8)).other) o))))

pub no-three : (a b c : ℕ) → (a ≡ 114 → b ≡ 49 → between 48 53 c ≡ true → ⊥) → none ≡ name_number (named present (a ∷ b ∷ c ∷ []))
unfolding listed
no-three a b c f =
    none_named (a ∷ b ∷ c ∷ []) (not-true (listed (a ∷ b ∷ c ∷ [])) (λ t.
    let (x, r) = (and-eq-true_iff (eqb a 114) _).0 t in
    let (y, z) = (and-eq-true_iff (eqb b 49) _).0 r in
    f (eqb-true a 114 x) (eqb-true b 49 y) z))

pub no-four : (a b c d : ℕ) → (a ≡ 122 → b ≡ 101 → c ≡ 114 → d ≡ 111 → ⊥) → none ≡ name_number (named present (a ∷ b ∷ c ∷ d ∷ []))
unfolding listed
no-four a b c d f =
    none_named (a ∷ b ∷ c ∷ d ∷ []) (not-true (listed (a ∷ b ∷ c ∷ d ∷ [])) (λ t.
    let (x, r) = (and-eq-true_iff (eqb a 122) _).0 t in
    let (y, q) = (and-eq-true_iff (eqb b 101) _).0 r in
    let (z, w) = (and-eq-true_iff (eqb c 114) _).0 q in
    f (eqb-true a 122 x) (eqb-true b 101 y) (eqb-true c 114 z) (eqb-true d 111 w)))

-- A spelling of another length is no name.
pub no_length : (u : List ℕ) → (length u ≡ 2 → ⊥) → (length u ≡ 3 → ⊥) → (length u ≡ 4 → ⊥) → none ≡ name_number (named present u)
unfolding listed
no_length [] f g h = none_named [] refl
no_length (a ∷ []) f g h = none_named (a ∷ []) refl
no_length (a ∷ b ∷ []) f g h = absurd (f refl)
no_length (a ∷ b ∷ c ∷ []) f g h = absurd (g refl)
no_length (a ∷ b ∷ c ∷ d ∷ []) f g h = absurd (h refl)
no_length (a ∷ b ∷ c ∷ d ∷ e ∷ s) f g h = none_named (a ∷ b ∷ c ∷ d ∷ e ∷ s) refl

-- ---- the register that the word at a place names

pub two_at : (s : List ℕ) (at : ℕ) → at + 2 ≤ length s → part s at 2 ≡ get_or s at 0 ∷ get_or s (at + 1) 0 ∷ []
two_at s at h = rw (drop-cons s at 0 (omega arith), drop-cons s (suc at) 0 (omega arith), add-one at)

pub three-at : (s : List ℕ) (at : ℕ) → at + 3 ≤ length s → part s at 3 ≡ get_or s at 0 ∷ get_or s (at + 1) 0 ∷ get_or s (at + 2) 0 ∷ []
three-at s at h =
    let v : suc at + 1 ≡ at + 2 = omega arith in
    rw (drop-cons s at 0 (omega arith)) (ap (λ (t : List ℕ). get_or s at 0 ∷ t) (rw (add-one at, ← v) (two_at s (suc at) (omega arith))))

pub four-at : (s : List ℕ) (at : ℕ) → at + 4 ≤ length s → part s at 4 ≡ get_or s at 0 ∷ get_or s (at + 1) 0 ∷ get_or s (at + 2) 0 ∷ get_or s (at + 3) 0 ∷ []
four-at s at h =
    let v : suc at + 1 ≡ at + 2 = omega arith in
    let w : suc at + 2 ≡ at + 3 = omega arith in
    rw (drop-cons s at 0 (omega arith)) (ap (λ (t : List ℕ). get_or s at 0 ∷ t) (rw (add-one at, ← v, ← w) (three-at s (suc at) (omega arith))))

pub part-next : (s : List ℕ) (at k : ℕ) → at + k < length s → name_part (get_or s (at + k) 0) ≡ true → run name_part (drop (at + k) s) ≡ 1 + run name_part (drop (at + suc k) s)
part-next s at k l h = let v : at + suc k ≡ suc (at + k) = omega arith in rw v (omega (arith, run-yes name_part s (at + k) l h))

-- A name's bytes are parts of a name.
all-parts : each (λ n. every name_part n.spelling) present ≡ true
unfolding each every name_part name_start letter digit between present numbered conventional name bytes
all-parts = refl

named-parts : (u : List ℕ) (o : Option ℕ) → name_number (named present u) ≡ some o → every name_part u ≡ true
unfolding named
named-parts u o h = go (named present u) refl h
  where
    go : (x : Option Name) → named present u ≡ x → name_number x ≡ some o → every name_part u ≡ true
    go none e k = absurd (let z : ◌≡◌ {A = ℕ} 0 1 = cc in omega arith)
    go (some n) e k =
        let (p, q) = found (λ x. same x.spelling u) (λ x. every name_part x.spelling) present n e all-parts in
        rw (same-eq n.spelling u p) at q

-- The longest of the present names has four bytes.
pub longest-present : longest present ≡ 4
unfolding longest present numbered conventional name bytes
longest-present = refl

module _ (s : List ℕ) (at : ℕ) (l : at + 4 < length s) where
  -- A word that has two bytes at least goes on after them.
  two-or-fewer : (run name_part (drop at s) ≡ 2 + run name_part (drop (at + 2) s)) ⊎ (run name_part (drop at s) < 2)
  two-or-fewer =
      let v : at + 2 ≡ suc (suc at) = omega arith in
      by-test (name_part (get_or s at 0))
      (λ a. let y = run-yes name_part s at (omega arith) a in by-test (name_part (get_or s (suc at) 0))
      (λ b. inl (rw v (omega (arith, y, run-yes name_part s (suc at) (omega arith) b))))
      (λ b. inr (omega (arith, y, run-no name_part s (suc at) (omega arith) b))))
      (λ a. inr (omega (arith, run-no name_part s at (omega arith) a)))

  no_word : (run name_part (drop at s) ≡ 2 → ⊥) → (run name_part (drop at s) ≡ 3 → ⊥) → (run name_part (drop at s) ≡ 4 → ⊥) → none ≡ name_number (named present (word_at s at))
  no_word f g h =
      let n : length (word_at s at) ≡ run name_part (drop at s) = rw (length-take (word_end s at - at) (drop at s)) (omega (arith, run-le name_part (drop at s))) in
      no_length (word_at s at) (λ e. f (sym n ∙ e)) (λ e. g (sym n ∙ e)) (λ e. h (sym n ∙ e))

  -- No name has five bytes.
  pub long-word : 3 ≤ run name_part (drop (at + 2) s) → RegisterWordIs present s at None
  long-word m h n e =
      let z = no_word (λ k. ⊎_elim (λ w. omega arith) (λ w. omega arith) two-or-fewer) (λ k. ⊎_elim (λ w. omega arith) (λ w. omega arith) two-or-fewer) (λ k. ⊎_elim (λ w. omega arith) (λ w. omega arith) two-or-fewer) in
      let y : ◌≡◌ {A = ℕ} 0 1 = cc in
      omega arith

  -- Bytes up to the first one, past two, that is no part of a name: the word, where they are a name or the word is.
  module _ (end : ℕ) (q : end ≡ at + 2 + run name_part (drop (at + 2) s)) where
    other_word : (n : ℕ) → (name_number (named present (part s at (end - at))) ≡ some (some n) → ⊥) → name_number (named present (word_at s at)) ≡ some (some n) → ⊥
    other_word n f e =
        ⊎_elim (λ w. let z : word_end s at ≡ end = omega arith in f (rw z at e))
        (λ w. let z = no_word (λ k. omega arith) (λ k. omega arith) (λ k. omega arith) in let y : ◌≡◌ {A = ℕ} 0 1 = cc in omega arith)
        two-or-fewer

    pub named-word : (n : RegisterName) → name_meant n ≡ name_number (named present (part s at (end - at))) → RegisterWordIs present s at (up_to n end)
    named-word (Named r) e =
        let y = run_past name_part (end - at) (drop at s) (omega (arith, length-drop at s, length-drop (at + 2) s, run-le name_part (drop (at + 2) s)))
        (named-parts (part s at (end - at)) (some (index_of r)) (sym e)) in
        (rw longest-present l, omega arith, ⊎_elim (λ w. omega arith) (λ w. absurd (omega arith)) two-or-fewer, sym e)
    named-word NoSuch e = λ l n. other_word n (λ k. let y : ◌≡◌ {A = ℕ} 0 1 = cc in omega arith)
    named-word NoName e = λ l n. other_word n (λ k. let y : ◌≡◌ {A = ℕ} 0 1 = cc in omega arith)
