-- The table of the bytes of names follows the definitions: computed tests over all bytes, carried to each.
use mathlib.Core.Path.{◌≡◌, refl, sym, ap, ◌∙◌}
use Prim.Native.Nat.{ℕ, ◌<◌}
use mathlib.Core.Bool.{Bool, true, false, not, ◌&&◌, true≢false}
use lib.ListN.{get_or}
use lib.Dec.{eqb}
use borrow.Author.Tests.{eqb-true, eq-eqb}
use Rattle.std.specs.Prelude.{Option, Some, None}
use Rattle.text_lexical.specs.Bytes.{between, letter, digit, name_start, name_part, lower}
use Rattle.text_lexical.specs.Promised.{name_byte}
use Rattle.text_lexical.specs.declared.bytes.TheConstants.{NAME_BYTES}
use Rattle.text_lexical.proofs.Tests.{by-test, no_both, or_left, each_below, below-each}

some_value : Option ℕ → ℕ
some_value (Some x) = x
some_value None = 0

is_there : Option ℕ → Bool
is_there (Some x) = true
is_there None = false

none≢some : {x : ℕ} → ◌≡◌ {A = Option ℕ} None (Some x) → ⊥
unfolding is_there
none≢some e = true≢false (sym (ap is_there e))

-- What stands in the table for a byte.
entry : ℕ → ℕ
entry b = elim (name_part b) [ true ↦ lower b | false ↦ 0 ]

entry-test : ℕ → Bool
entry-test b = eqb (get_or NAME_BYTES b 0) (entry b)

entries-hold : each_below entry-test 256 ≡ true
unfolding each_below entry-test entry name_part name_start letter digit between lower
entries-hold = refl

-- A byte of a name is not 0 in lower case.
solid_test : ℕ → Bool
solid_test b = elim (name_part b) [ true ↦ not (eqb (lower b) 0) | false ↦ true ]

all-solid : each_below solid_test 256 ≡ true
unfolding each_below solid_test name_part name_start letter digit between lower
all-solid = refl

-- A name begins with a byte of a name that is no digit.
start_test : ℕ → Bool
start_test b = elim (name_start b) [ true ↦ name_part b && not (digit b) | false ↦ not (name_part b && not (digit b)) ]

all-start : each_below start_test 256 ≡ true
unfolding each_below start_test name_part name_start letter digit between
all-start = refl

not-not : (v : Bool) → not (not v) ≡ true → not v ≡ false
not-not true h = refl
not-not false h = sym h

module _ (b : ℕ) (h : b < 256) where
  its_entry : get_or NAME_BYTES b 0 ≡ entry b
  unfolding entry-test
  its_entry = eqb-true (get_or NAME_BYTES b 0) (entry b) (below-each entry-test 256 entries-hold b h)

  -- The entry of a byte that no name has is 0, and no other is.
  pub no_name : get_or NAME_BYTES b 0 ≡ 0 → None ≡ name_byte b
  unfolding entry solid_test name_byte
  no_name e =
      by-test (name_part b)
      (λ p. let q : get_or NAME_BYTES b 0 ≡ lower b = rw (entry, p) at its_entry in
      let n : not (eqb (lower b) 0) ≡ true = rw (solid_test, p) at (below-each solid_test 256 all-solid b h) in
      no_both n (rw (eq-eqb (lower b) 0 (sym q ∙ e)) refl))
      (λ p. rw (name_byte, p) refl)

  pub a_name : (get_or NAME_BYTES b 0 ≡ 0 → ⊥) → Some (get_or NAME_BYTES b 0) ≡ name_byte b
  unfolding entry name_byte
  a_name f =
      by-test (name_part b)
      (λ p. let q : get_or NAME_BYTES b 0 ≡ lower b = rw (entry, p) at its_entry in rw (name_byte, p, q) refl)
      (λ p. absurd (f (rw (entry, p) at its_entry)))

  -- Of the bytes of a name the digits begin none, and all others do.
  pub start_byte : name_part b ≡ true → not (digit b) ≡ name_start b
  unfolding start_test
  start_byte p =
      by-test (name_start b)
      (λ q. let t : (name_part b && not (digit b)) ≡ true = rw (start_test, q) at (below-each start_test 256 all-start b h) in (rw p at t) ∙ sym q)
      (λ q. let t : not (name_part b && not (digit b)) ≡ true = rw (start_test, q) at (below-each start_test 256 all-start b h) in
      let u : not (not (digit b)) ≡ true = rw p at t in not-not (digit b) u ∙ sym q)

-- A byte that no name has begins none.
pub no_start : (b : ℕ) → name_part b ≡ false → false ≡ name_start b
unfolding name_part
no_start b p = by-test (name_start b) (λ q. no_both (or_left (name_start b) (digit b) q) p) sym

-- ---- what the answer says of a byte

pub name_none : (b : ℕ) → None ≡ name_byte b → name_part b ≡ false
unfolding name_byte
name_none b = go (name_part b)
  where
    go : (v : Bool) → ◌≡◌ {A = Option ℕ} None (elim v [ true ↦ Some (lower b) | false ↦ None ]) → v ≡ false
    go true e = absurd (none≢some e)
    go false e = refl

pub name_some : (b x : ℕ) → Some x ≡ name_byte b → (name_part b ≡ true) × (x ≡ lower b)
unfolding name_byte some_value
name_some b x = go (name_part b)
  where
    go : (v : Bool) → ◌≡◌ {A = Option ℕ} (Some x) (elim v [ true ↦ Some (lower b) | false ↦ None ]) → (v ≡ true) × (x ≡ lower b)
    go true e = (refl, ap some_value e)
    go false e = absurd (none≢some (sym e))
