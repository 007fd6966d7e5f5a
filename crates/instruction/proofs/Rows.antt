-- What holds of every row of the table: a test computed once over the table, and carried to a row that is found in it.
use mathlib.Core.Path.{◌≡◌, refl, sym, ap, ◌∙◌}
use Prim.Native.Nat.{ℕ, ◌≤◌, ◌<◌}
use native.Mathlib.Omega.{arith}
use mathlib.Core.Bool.{Bool, true, false, not, ◌&&◌, true≢false, and-eq-true_iff}
use mathlib.Core.Option.{Option, some}
use mathlib.Core.List.{List, [], ◌∷◌, map}
use lib.ListN.{length}
use lib.Dec.{leb, ltb, eqb}
use borrow.Author.Tests.{leb-true, le-leb, lt-leb, ltb-true, eqb-true, eq-eqb, not-true}
use Rattle.text_lexical.specs.Bytes.{bytes, between, letter, digit, name_start, name_part, lower, every, same, find, is_some, each}
use Rattle.text_lexical.proofs.Tests.{both, between-true}
use Rattle.text_lexical.proofs.Strings.{every-head, every-tail, same-eq, eq-same, found}
use Rattle.text.specs.Tokens.{is_identifier}
use Rattle.instruction.specs.Table.{Place, reg, num, mark, places, Row, row, table, row_named, row_coded}
use Rattle.instruction.specs.Fits.{InTable, places_of, number_range, width_of, number_width}

-- "fifty mnemonics"
pub fifty : length table ≡ 50
unfolding table
fifty = refl

-- ---- a row found in the table

-- A test that every row passes is passed by a row of the table.
pub carried : (q : Row → Bool) → each q table ≡ true → (r : Row) → InTable r → q r ≡ true
unfolding row_named
carried q k r h = (found (λ s. same s.mnemonic r.mnemonic) q table r h k).1

-- No two entries are alike.
unfoldable pub unique : {A : Type 0} → (A → A → Bool) → List A → Bool
unique like [] = true
unique like (a ∷ l) = elim (each (λ b. not (like a b)) l) [ true ↦ unique like l | false ↦ false ]

-- What is found in any way is found again as the entry that is like it.
found-again : {A : Type 0} (like : A → A → Bool) → ((a : A) → like a a ≡ true) → (p : A → Bool) (l : List A) (a : A)
    → unique like l ≡ true → find p l ≡ some a → find (λ b. like b a) l ≡ some a
unfolding unique find is_some
found-again like self p [] a u h = absurd (true≢false (sym (ap is_some h)))
found-again {A} like self p (x ∷ l) a u h =
    let (ux, ul) = both (each (λ b. not (like x b)) l) (unique like l) u in
    go (p x) ux (λ e. found-again like self p l a ul e) h
  where
    go : (v : Bool) → each (λ b. not (like x b)) l ≡ true → (find p l ≡ some a → find (λ b. like b a) l ≡ some a)
        → ◌≡◌ {A = Option A} (elim v [ true ↦ some x | false ↦ find p l ]) (some a) → find (λ b. like b a) (x ∷ l) ≡ some a
    go true ux f g = let i : x ≡ a = cc in rw (find, i, self a) (ap some i)
    go false ux f g = rw (find, not-true (like x a) (found p (λ b. not (like x b)) l a g ux).1) (f g)

-- ---- the rules

-- a to z
unfoldable pub lower_case : ℕ → Bool
lower_case b = between 97 122 b

-- A mark comes next, or nothing.
unfoldable pub marked : List Place → Bool
marked [] = true
marked (reg bit ∷ ps) = false
marked (num bit width signed ∷ ps) = false
marked (mark m ∷ ps) = true

-- A register or a number is followed by a mark or by nothing.
unfoldable pub apart : List Place → Bool
apart [] = true
apart (reg bit ∷ ps) = elim (marked ps) [ true ↦ apart ps | false ↦ false ]
apart (num bit width signed ∷ ps) = elim (marked ps) [ true ↦ apart ps | false ↦ false ]
apart (mark m ∷ ps) = apart ps

-- What is asked of each row.
rule : Row → Bool
rule r =
    is_identifier r.mnemonic && (every lower_case r.mnemonic && (ltb r.opcode 128
    && (apart (places_of r) && leb (number_width (places_of r)) 21)))

table-ruled : each rule table ≡ true
unfolding each rule table row bytes is_identifier name_start name_part letter digit lower_case between every apart marked places is_some number_range width_of number_width
table-ruled = refl

-- No two rows have the same mnemonic.
mnemonics-unique : unique (λ r s. same r.mnemonic s.mnemonic) table ≡ true
unfolding unique each table row bytes same
mnemonics-unique = refl

-- Nor the same opcode.
opcodes-unique : unique (λ r s. eqb r.opcode s.opcode) table ≡ true
unfolding unique each table row
opcodes-unique = refl

-- ---- a row that is found

-- A row found in any way is in the table, and it passes the test that it was looked for by.
found-row : (p : Row → Bool) (r : Row) → find p table ≡ some r → InTable r × (p r ≡ true)
unfolding row_named
found-row p r h = (
  found-again (λ q s. same q.mnemonic s.mnemonic) (λ q. eq-same q.mnemonic q.mnemonic refl) p table r mnemonics-unique h,
  (found p rule table r h table-ruled).0,
)

-- A row found by a name is in the table, and the name is its mnemonic.
pub named-row : (s : List ℕ) (r : Row) → row_named s ≡ some r → InTable r × (r.mnemonic ≡ s)
unfolding row_named
named-row s r h =
    let (t, e) = found-row (λ q. same q.mnemonic s) r h in
    (t, same-eq r.mnemonic s e)

-- A row found by an opcode is in the table, and the opcode is its own.
pub coded-row : (c : ℕ) (r : Row) → row_coded c ≡ some r → InTable r × (r.opcode ≡ c)
unfolding row_coded
coded-row c r h =
    let (t, e) = found-row (λ q. eqb q.opcode c) r h in
    (t, eqb-true r.opcode c e)

-- Lower-case letters are left as they are.
lower-same : (s : List ℕ) → every lower_case s ≡ true → map lower s ≡ s
unfolding lower between lower_case
lower-same [] h = refl
lower-same (b ∷ s) h =
    let r = between-true 97 122 b (every-head lower_case b s h) in
    rw (lower, le-leb 65 b (omega arith), lt-leb b 90 (omega arith), lower-same s (every-tail lower_case b s h))

-- Rows of the table with the same mnemonic are the same.
pub same_row : (r s : Row) → InTable r → InTable s → r.mnemonic ≡ s.mnemonic → r ≡ s
same_row r s h k e = let n = ap row_named e in cc

-- What holds of a row of the table.
pub record RowFacts (r : Row) : Type 0 where
  -- its mnemonic is an Identifier
  pub identifier : is_identifier r.mnemonic ≡ true
  -- of lower-case letters
  pub letters : every lower_case r.mnemonic ≡ true
  -- that names it, lowered
  pub again : row_named (map lower r.mnemonic) ≡ some r
  -- its opcode names it
  pub coded : row_coded r.opcode ≡ some r
  -- and has seven bits
  pub small : r.opcode < 128
  -- its places stand apart
  pub stands : apart (places_of r) ≡ true
  -- its number has at most 21 bits
  pub narrow : number_width (places_of r) ≤ 21

-- All of this holds of each row of the table.
pub row-facts : (r : Row) → InTable r → RowFacts r
unfolding rule row_named row_coded
row-facts r h =
    let (i, k) = (and-eq-true_iff (is_identifier r.mnemonic) _).0 (carried rule table-ruled r h) in
    let (l, k) = (and-eq-true_iff (every lower_case r.mnemonic) _).0 k in
    let (o, k) = (and-eq-true_iff (ltb r.opcode 128) _).0 k in
    let (a, n) = (and-eq-true_iff (apart (places_of r)) _).0 k in
    record {
      identifier = i;
      letters = l;
      again = ap row_named (lower-same r.mnemonic l) ∙ h;
      coded = found-again (λ q s. eqb q.opcode s.opcode) (λ q. eq-eqb q.opcode q.opcode refl) _ table r opcodes-unique h;
      small = ltb-true r.opcode 128 o;
      stands = a;
      narrow = leb-true _ 21 n;
    }
