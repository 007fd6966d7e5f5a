-- The code's mnemonics and the rows of the table: each mnemonic has a row of the table, and each row a mnemonic.
use mathlib.Core.Path.{◌≡◌, refl}
use mathlib.Core.Bool.{true}
use mathlib.Core.List.{List, map}
use mathlib.Core.Option.{some}
use Prim.Native.Nat.{ℕ, ◌≤◌}
use lib.ListN.{length, take}
use lib.Dec.{leb, ltb}
use borrow.Author.Tests.{leb-true}
use borrow.Author.Rules.{rules}
use Rattle.std.specs.Prelude.{Some}
use Rattle.text_lexical.specs.Bytes.{bytes, every, each, same, find}
use Rattle.text_lexical.specs.Promised.{packed, key_of}
use Rattle.text_lexical.specs.Words.{LettersOf}
use Rattle.text_lexical.specs.declared.name.Letters.{Letters}
use Rattle.text_lexical.proofs.Tests.{both}
use Rattle.text_lexical.proofs.Strings.{same-eq}
use Rattle.text_lexical.proofs.Keys.{Below, is_keyed, every-below, key-short}
use Rattle.text_lexical.proofs.Letters.{letters-spell}
use Rattle.instruction.specs.Table.{Row, row, table, row_named, row_coded}
use Rattle.instruction.specs.Promised.{row_for, row_of, mnemonics, mnemonic_for}
use Rattle.instruction.specs.Fits.{InTable}
use Rattle.instruction.specs.declared.opcode.Mnemonic.{Mnemonic}
use Rattle.instruction.proofs.Rows.{carried, row-facts, same_row}

-- The rows of the mnemonics are the table, in its order.
pub mnemonic-rows : map row_of mnemonics ≡ table
unfolding mnemonics row_for row_named find same table row bytes
mnemonic-rows = refl

-- The row of a mnemonic is one of the table.
pub row-in-table : (m : Mnemonic) → InTable (row_of m)
unfolding row_for row_named find same table row bytes
row-in-table m = search rules

-- A mnemonic is the one of its row's spelling,
pub mnemonic-back : (m : Mnemonic) → mnemonic_for (row_of m).mnemonic ≡ m
unfolding mnemonic_for mnemonics row_for row_named find same table row bytes
mnemonic-back m = search rules

-- and a row of the table is the one of its spelling's mnemonic.
rows-back : each (λ r. same (row_of (mnemonic_for r.mnemonic)).mnemonic r.mnemonic) table ≡ true
unfolding each mnemonic_for mnemonics row_for row_named find same table row bytes
rows-back = refl

pub row-back : (r : Row) → InTable r → row_of (mnemonic_for r.mnemonic) ≡ r
row-back r h =
    let m = mnemonic_for r.mnemonic in
    same_row (row_of m) r (row-in-table m) h
    (same-eq (row_of m).mnemonic r.mnemonic (carried (λ r. same (row_of (mnemonic_for r.mnemonic)).mnemonic r.mnemonic) rows-back r h))

-- Its opcode names it.
pub opcode-row : (m : Mnemonic) → row_coded (row_of m).opcode ≡ some (row_of m)
opcode-row m = (row-facts (row_of m) (row-in-table m)).coded

-- ---- spellings

-- A spelling of at most seven bytes.
pub record Short (s : List ℕ) : Type 0 where
  pub few : length s ≤ 7
  pub bytes_small : every (λ b. ltb b 256) s ≡ true

pub table-keyed : each (λ r. is_keyed r.mnemonic) table ≡ true
unfolding each is_keyed every table row bytes
table-keyed = refl

-- Mnemonics are such spellings,
pub mnemonic-short : (m : Mnemonic) → Short (row_of m).mnemonic
unfolding is_keyed
mnemonic-short m =
    let s = (row_of m).mnemonic in
    let (n, b) = both (leb (length s) 7) (every (λ b. ltb b 256) s) (carried (λ r. is_keyed r.mnemonic) table-keyed (row_of m) (row-in-table m)) in
    record { few = leb-true (length s) 7 n; bytes_small = b }

pub mnemonic-below : (m : Mnemonic) → Below (row_of m).mnemonic
mnemonic-below m = every-below (row_of m).mnemonic (mnemonic-short m).bytes_small

-- and the letters of their keys are theirs.
pub mnemonic-letters : (m : Mnemonic) (l : Letters) → LettersOf (packed (row_of m).mnemonic) l → take l.length l.bytes ≡ (row_of m).mnemonic
mnemonic-letters m l h = let q = mnemonic-short m in letters-spell (row_of m).mnemonic l q.few q.bytes_small h

-- Their keys have their bytes.
pub mnemonic-packed : (m : Mnemonic) → key_of (row_of m).mnemonic ≡ Some (packed (row_of m).mnemonic)
mnemonic-packed m = key-short (row_of m).mnemonic (mnemonic-short m).few
