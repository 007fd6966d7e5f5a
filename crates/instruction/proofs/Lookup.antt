-- Mnemonics that are looked for: by a key, at its slot, and by an opcode.
use mathlib.Core.Path.{◌≡◌, refl, sym, ap, ◌∙◌}
use Prim.Native.Nat.{ℕ, zero, suc, ◌+◌, ◌%◌}
use native.Mathlib.Omega.{arith}
use mathlib.Core.Bool.{Bool, true, false, true≢false}
use mathlib.Core.Option.{some, none}
use mathlib.Core.Option.{Option as MathOption}
use mathlib.Core.List.{List, [], ◌∷◌, map}
use lib.ListN.{get_or}
use lib.Dec.{eqb}
use borrow.Author.Tests.{eqb-true, ne_eqb}
use Rattle.std.specs.Prelude.{Option, Some, None}
use Rattle.std.specs.Option.{is_some as is_code_some, MatchOption}
use Rattle.text_lexical.specs.Bytes.{bytes, between, letter, digit, name_start, name_part, lower, every, same, find, each}
use Rattle.text_lexical.specs.Promised.{packed, key_of, name_key}
use Rattle.text_lexical.proofs.Tests.{by-test, both, no_both, or_left, or_right}
use Rattle.text_lexical.proofs.Strings.{every-head, every-tail, every-cons}
use Rattle.text_lexical.proofs.Keys.{Below, by_key, found-by-key, none-without-key, lowered-below}
use Rattle.instruction.specs.Table.{Row, row, table, row_named, row_coded}
use Rattle.instruction.specs.Promised.{row_for, row_of, found_meant}
use Rattle.instruction.specs.declared.opcode.Mnemonic.{Mnemonic}
use Rattle.instruction.specs.declared.opcode.TheConstants.{SLOTS, CODED}
use Rattle.instruction.proofs.Rows.{lower_case, named-row, row-facts}
use Rattle.instruction.proofs.Columns.{row-in-table, opcode-row, mnemonic-below, mnemonic-packed, table-keyed}

-- Nothing is found where no entry passes.
find-none : {A : Type 0} (p q : A → Bool) → ((a : A) → q a ≡ true → p a ≡ false) → (l : List A) → each q l ≡ true → find p l ≡ none
unfolding find each
find-none p q f [] h = refl
find-none p q f (a ∷ l) h = let (t, k) = both (q a) (each q l) h in rw (find, f a t) (find-none p q f l k)

-- ---- by a key

-- A spelling names the row whose mnemonic has its key.
pub row-by-key : (s : List ℕ) → Below s → (k : ℕ) → Some k ≡ key_of s → row_named s ≡ find (λ q. eqb (packed q.mnemonic) k) table
unfolding row_named by_key
row-by-key s h k e = found-by-key (λ r. r.mnemonic) table table-keyed s h k e

-- One without a key names none.
pub row-without-key : (s : List ℕ) → None ≡ key_of s → row_named s ≡ none
unfolding row_named
row-without-key s e = none-without-key (λ r. r.mnemonic) table table-keyed s e

-- Letters in lower case are those of a name.
lowered-letter : (b : ℕ) → lower_case (lower b) ≡ true → name_part b ≡ true
unfolding lower lower_case name_part name_start letter
lowered-letter b h =
    let named : letter b ≡ true → name_part b ≡ true = λ l. or_left (name_start b) (digit b) (or_left (letter b) (eqb b 95) l) in
    by-test (between 65 90 b)
    (λ u. named (or_right (between 97 122 b) (between 65 90 b) u))
    (λ u. named (or_left (between 97 122 b) (between 65 90 b) (rw (lower, u) at h)))

lowered-name : (s : List ℕ) → every lower_case (map lower s) ≡ true → every name_part s ≡ true
unfolding every
lowered-name [] h = refl
lowered-name (b ∷ s) h =
    every-cons name_part b s (lowered-letter b (every-head lower_case (lower b) (map lower s) h)) (lowered-name s (every-tail lower_case (lower b) (map lower s) h))

-- One with a byte that is no part of a name names none.
row-without-name : (s : List ℕ) → every name_part s ≡ false → row_named (map lower s) ≡ none
row-without-name s f = go (row_named (map lower s)) refl
  where
    go : (o : MathOption Row) → row_named (map lower s) ≡ o → row_named (map lower s) ≡ none
    go none e = e
    go (some r) e =
        let (t, m) = named-row (map lower s) r e in
        no_both (lowered-name s (rw m at (row-facts r t).letters)) f

-- The key of a name tells the row that the name has in lower case; what has no key has none.
pub row-by-name : (s : List ℕ) → Below s → (key : Option ℕ) → key ≡ name_key s → (o : Option Mnemonic)
    → MatchOption key (o ≡ None) (λ k. found_meant o ≡ find (λ q. eqb (packed q.mnemonic) k) table) → found_meant o ≡ row_named (map lower s)
unfolding name_key
row-by-name s below key e o n =
    by-test (every name_part s)
    (λ y. keyed key (rw (name_key, y) at e) n)
    (λ f. let z : key ≡ None = rw (name_key, f) at e in unkeyed key z n ∙ sym (row-without-name s f))
  where
    unkeyed : (key : Option ℕ) → key ≡ None → MatchOption key (o ≡ None) (λ k. found_meant o ≡ find (λ q. eqb (packed q.mnemonic) k) table) → found_meant o ≡ none
    unkeyed None z f = rw f
    unkeyed (Some k) z f = absurd (true≢false (ap is_code_some z))

    keyed : (key : Option ℕ) → key ≡ key_of (map lower s) → MatchOption key (o ≡ None) (λ k. found_meant o ≡ find (λ q. eqb (packed q.mnemonic) k) table) → found_meant o ≡ row_named (map lower s)
    keyed None h f = rw f (sym (row-without-key (map lower s) h))
    keyed (Some k) h f = f ∙ sym (row-by-key (map lower s) (lowered-below s below) k h)

-- The key of a mnemonic is its row's.
pub key-row : (m : Mnemonic) → find (λ q. eqb (packed q.mnemonic) (packed (row_of m).mnemonic)) table ≡ some (row_of m)
key-row m = sym (row-by-key (row_of m).mnemonic (mnemonic-below m) (packed (row_of m).mnemonic) (sym (mnemonic-packed m))) ∙ row-in-table m

-- What stands where an entry is looked for has a number.
holds : (Mnemonic → ℕ) → Option Mnemonic → ℕ → Bool
holds f None n = false
holds f (Some m) n = eqb (f m) n

-- At the slot of each row's key there is a mnemonic with that key.
abbrev key : Mnemonic → ℕ
key m = packed (row_of m).mnemonic

slotted : Row → Bool
slotted r = holds key (get_or SLOTS (packed r.mnemonic % 293) None) (packed r.mnemonic)

slots-hold : each slotted table ≡ true
unfolding each slotted holds row_for row_named find same table row bytes packed
slots-hold = refl

-- So where a key's slot has none with the key, no row has it:
key-none : (k : ℕ) → holds key (get_or SLOTS (k % 293) None) k ≡ false → find (λ q. eqb (packed q.mnemonic) k) table ≡ none
unfolding slotted
key-none k h =
    find-none (λ q. eqb (packed q.mnemonic) k) slotted
    (λ r t. ne_eqb (packed r.mnemonic) k (λ e. true≢false (sym (rw e at t) ∙ h))) table slots-hold

-- the slot is empty,
pub slot-empty : (k : ℕ) → get_or SLOTS (k % 293) None ≡ None → none ≡ find (λ q. eqb (packed q.mnemonic) k) table
unfolding holds
slot-empty k e = sym (key-none k (rw e))

-- or another mnemonic's.
pub slot-other : (k : ℕ) (m : Mnemonic) → get_or SLOTS (k % 293) None ≡ Some m → (key m ≡ k → ⊥) → none ≡ find (λ q. eqb (packed q.mnemonic) k) table
unfolding holds
slot-other k m e n = sym (key-none k (rw e (ne_eqb (key m) k n)))

-- ---- by an opcode

abbrev opcode : Mnemonic → ℕ
opcode m = (row_of m).opcode

coded : Row → Bool
coded r = holds opcode (get_or CODED r.opcode None) r.opcode

-- Each row's opcode has a mnemonic with that opcode,
opcodes-hold : each coded table ≡ true
unfolding each coded holds row_for row_named find same table row bytes
opcodes-hold = refl

-- and each mnemonic stands at its opcode.
stands : Option Mnemonic → ℕ → Bool
stands None c = true
stands (Some m) c = eqb (opcode m) c

all-from : ℕ → List (Option Mnemonic) → Bool
all-from c [] = true
all-from c (o ∷ l) = elim (stands o c) [ true ↦ all-from (suc c) l | false ↦ false ]

all-stand : all-from 0 CODED ≡ true
unfolding all-from stands row_for row_named find same table row bytes
all-stand = refl

stands-at : (a : ℕ) (l : List (Option Mnemonic)) (i : ℕ) → all-from a l ≡ true → stands (get_or l i None) (a + i) ≡ true
unfolding all-from stands
stands-at a [] i h = refl
stands-at a (o ∷ l) zero h = let e : a + 0 ≡ a = omega arith in rw e (both (stands o a) (all-from (suc a) l) h).0
stands-at a (o ∷ l) (suc i) h = let e : a + suc i ≡ suc a + i = omega arith in rw e (stands-at (suc a) l i (both (stands o a) (all-from (suc a) l) h).1)

-- What stands at an opcode is the mnemonic with it, if there is one.
pub coded-meant : (c : ℕ) → found_meant (get_or CODED c None) ≡ row_coded c
unfolding row_coded coded holds stands
coded-meant c = go (get_or CODED c None) refl
  where
    go : (o : Option Mnemonic) → get_or CODED c None ≡ o → found_meant o ≡ row_coded c
    go None e = sym (find-none (λ r. eqb r.opcode c) coded (λ r t. ne_eqb r.opcode c (λ q. true≢false (sym (rw (q, e) at t)))) table opcodes-hold)
    go (Some m) e = let q : opcode m ≡ c = let z : 0 + c ≡ c = omega arith in eqb-true (opcode m) c (rw (e, z) at (stands-at 0 CODED c all-stand)) in rw (← q) (sym (opcode-row m))
