-- What an instruction was read of; and that it fits: its registers are of the sixteen, and it has what its form asks for.
use mathlib.Core.Path.{◌≡◌, refl, subst}
use Prim.Native.Nat.{ℕ, zero, suc, pred, ◌-◌}
use mathlib.Core.Bool.{Bool, true, false}
use mathlib.Core.Option.{Option, none, some}
use mathlib.Core.List.{List, [], ◌∷◌, map}
use lib.ListN.{length, take}
use lib.Dec.{ltb, eqb}
use borrow.Author.Tests.{ltb-true, eqb-true}
use Rattle.text_lexical.specs.Bytes.{Result, value, refused, blank, lower, same, find, is_some, each}
use Rattle.text_lexical.specs.Names.{Name, named}
use Rattle.text_lexical.proofs.Tests.{by-test, both, and_both}
use Rattle.text_lexical.proofs.Strings.{found}
use Rattle.text.specs.Tokens.{Class, Register, Identifier, Number, Hex, Binary, Directive, Mark, Match, longest, Token, register, comma, colon, opening, closing, within, number_token, pattern_token, register_token, mark_token, token_of, Sized, sized, matched, front, infront, tokens_past, tokens}
use Rattle.text.specs.Lines.{Line, content, kept, line_of, record_of, read_line}
use Rattle.text.specs.NameSets.{is_numbered, Naming}
use Rattle.instruction.specs.Table.{Place, reg, num, mark, Row, row_named}
use Rattle.instruction.specs.Operands.{Draft, takes_label, read_register, read_identifier, mark_byte, read_amount, DraftOperands, separator_byte, separator_refusal, no_operands, with_register, with_amount, read_place, read_operands, made, read_row, read_mnemonic, read_instruction, behind}
use Rattle.instruction.specs.Fits.{InTable, places_of, Regs, number_range, has_number}
use Rattle.instruction.proofs.Rows.{named-row}
use Rattle.instruction.proofs.Results.{not_refused, test-value, option-value, result_value, through-value, when_some, each_take, each-drop}

-- A token that names a register names one of sixteen.
unfoldable pub numbered_token : Token → Bool
numbered_token t = elim (read_register t) [ value n ↦ ltb n 16 | refused k ↦ true ]

-- ---- operands

-- Operands have what places ask for.
abbrev Fitting : List Place → DraftOperands → Type 0
Fitting ps o = Regs ps o.registers × (is_some o.amount ≡ has_number ps)

read-operands : (label : Bool) (ps : List Place) (ts : List Token) (o : DraftOperands) → each numbered_token ts ≡ true → read_operands label ps ts ≡ value o → Fitting ps o
unfolding read_operands read_place Regs number_range has_number is_some each no_operands numbered_token with_register with_amount
read-operands label [] ts o h e = let q : no_operands ≡ o = cc in subst (Fitting []) q (tt, refl)
read-operands label (p ∷ ps) [] o h e = not_refused e
read-operands label (reg bit ∷ ps) (t ∷ ts) o h e =
    let (ht, h) = both (numbered_token t) (each numbered_token ts) h in
    let (n, f, e) = result_value (read_register t) _ o e in
    let (o', e, q) = through-value (with_register n) (λ o. record { registers = n ∷ o.registers; amount = o.amount }) (λ o. refl) (λ k. refl) _ o e in
    let (r, m) = read-operands label ps ts o' h e in
    subst (Fitting (reg bit ∷ ps)) q ((ltb-true n 16 (rw (numbered_token, f) at ht), r), m)
read-operands label (num bit width signed ∷ ps) (t ∷ ts) o h e =
    let (a, f, e) = result_value (read_amount (record { width = width; signed = signed }) label t) _ o e in
    let (o', e, q) = through-value (with_amount a) (λ o. record { registers = o.registers; amount = some a }) (λ o. refl) (λ k. refl) _ o e in
    subst (Fitting (num bit width signed ∷ ps)) q ((read-operands label ps ts o' (both (numbered_token t) _ h).1 e).0, refl)
read-operands label (mark m ∷ ps) (t ∷ ts) o h e =
    read-operands label ps ts o (both (numbered_token t) _ h).1 (test-value (eqb (mark_byte t) (separator_byte m)) _ (separator_refusal m) o e).1

-- ---- an instruction

-- What a line has of an instruction fits, whatever number its amount comes to.
pub record DraftFits (d : Draft) : Type 0 where
  -- its row is one of the table
  pub in_table : InTable d.row
  -- it has the registers that its form names
  pub registers : Regs (places_of d.row) d.registers
  -- and an amount exactly if its form has a number
  pub amount : is_some d.amount ≡ has_number (places_of d.row)

-- What an instruction was read of: a mnemonic, which is an Identifier, and as many operand tokens as the form of its row has places.
pub record ReadOf (l : Line) (d : Draft) : Type 0 where
  pub mnemonic : Token
  pub after : List Token
  pub are_first : l.first ≡ mnemonic ∷ after
  pub spelling : List ℕ
  pub spelled : read_identifier mnemonic ≡ some spelling
  pub row : Row
  pub is_row : row_named (map lower spelling) ≡ some row
  pub as_many : l.count - 1 ≡ length (places_of row)
  pub operands : DraftOperands
  pub are_read : read_operands (takes_label row.form) (places_of row) after ≡ value operands
  pub is_made : record { row = row; registers = operands.registers; amount = operands.amount } ≡ d

pub instruction-read : (l : Line) (d : Draft) → read_instruction l ≡ value d → ReadOf l d
unfolding read_instruction read_mnemonic read_row made
instruction-read l d e = go l.first refl e
  where
    go : (ts : List Token) → l.first ≡ ts → ◌≡◌ {A = Result Draft} (elim ts [ [] ↦ refused 14 | t ∷ us ↦ read_mnemonic t (l.count - 1) us ]) (value d) → ReadOf l d
    go [] q e = not_refused e
    go (t ∷ us) q e =
        let (s, f, e) = option-value (read_identifier t) _ 14 d e in
        let (r, g, e) = option-value (row_named (map lower s)) _ 15 d e in
        let (c, e) = test-value (eqb (l.count - 1) (length (places_of r))) _ 16 d e in
        let (o, e, m) = through-value (made r) (λ o. record { row = r; registers = o.registers; amount = o.amount }) (λ o. refl) (λ k. refl) _ d e in
        record {
          mnemonic = t;
          after = us;
          are_first = q;
          spelling = s;
          spelled = f;
          row = r;
          is_row = g;
          as_many = eqb-true (l.count - 1) (length (places_of r)) c;
          operands = o;
          are_read = e;
          is_made = m;
        }

-- What is read from a line fits, if the line's tokens name registers of the sixteen.
pub read_fits : (l : Line) (d : Draft) → each numbered_token l.first ≡ true → read_instruction l ≡ value d → DraftFits d
unfolding each
read_fits l d h e =
    let r = instruction-read l d e in
    let h : each numbered_token (r.mnemonic ∷ r.after) ≡ true = rw r.are_first at h in
    let (f, n) = read-operands (takes_label r.row.form) (places_of r.row) r.after r.operands (both (numbered_token r.mnemonic) (each numbered_token r.after) h).1 r.are_read in
    subst DraftFits r.is_made (record { in_table = (named-row (map lower r.spelling) r.row r.is_row).0; registers = f; amount = n })

-- ---- the tokens of a text

within-numbered : (v : Bool) (t : Token) → numbered_token t ≡ true → when_some numbered_token (within v t) ≡ true
unfolding within when_some
within-numbered true t h = h
within-numbered false t h = refl

register-numbered : (r : Option ℕ) → is_numbered r ≡ true → numbered_token (register r) ≡ true
unfolding numbered_token read_register is_numbered
register-numbered none h = refl
register-numbered (some n) h = h

sized-numbered : (n : ℕ) (o : Option Token) → when_some numbered_token o ≡ true → when_some (λ t. numbered_token t.token) (sized n o) ≡ true
unfolding sized when_some
sized-numbered n none h = refl
sized-numbered n (some t) h = h

infront-numbered : (t : Token) (o : Option (List Token)) → numbered_token t ≡ true → when_some (each numbered_token) o ≡ true → when_some (each numbered_token) (infront t o) ≡ true
unfolding infront when_some each
infront-numbered t none h k = refl
infront-numbered t (some ts) h k = and_both (numbered_token t) (each numbered_token ts) h k

record-numbered : (o : Option (List Token)) → when_some (each numbered_token) o ≡ true → when_some (λ l. each numbered_token l.first) (record_of o) ≡ true
unfolding record_of line_of when_some
record-numbered none h = refl
record-numbered (some ts) h = each_take numbered_token kept ts h

module _ (names : List Name) (N : Naming names) where
  token-numbered : (c : Class) (s : List ℕ) → when_some numbered_token (token_of names c s) ≡ true
  unfolding token_of when_some numbered_token read_register register_token named number_token pattern_token mark_token
  token-numbered Register s = go (find (λ n. same n.spelling s) names) refl
    where
      go : (o : Option Name) → find (λ n. same n.spelling s) names ≡ o → when_some numbered_token (register_token o) ≡ true
      go none e = refl
      go (some n) e = register-numbered n.number (found (λ m. same m.spelling s) (λ m. is_numbered m.number) names n e N.sixteen).1
  token-numbered Identifier s = refl
  token-numbered Number [] = refl
  token-numbered Number (b ∷ s) = by-test (eqb b 45) (λ e. rw (number_token, e) (within-numbered _ _ refl)) (λ e. rw (number_token, e) (within-numbered _ _ refl))
  token-numbered Hex s = within-numbered _ _ refl
  token-numbered Binary s = within-numbered _ _ refl
  token-numbered Directive s = refl
  token-numbered Mark [] = refl
  token-numbered Mark (b ∷ s) = go (eqb b 44) (eqb b 58) (eqb b 40)
    where
      go : (u v w : Bool) → when_some numbered_token (elim u [ true ↦ some comma | false ↦ elim v [ true ↦ some colon | false ↦ elim w [ true ↦ some opening | false ↦ some closing ] ] ]) ≡ true
      go true v w = refl
      go false true w = refl
      go false false true = refl
      go false false false = refl

  front-numbered : (s : List ℕ) → when_some (λ t. numbered_token t.token) (front names s) ≡ true
  unfolding front matched when_some
  front-numbered s = go (longest names s (length s))
    where
      go : (o : Option Match) → when_some (λ t. numbered_token t.token) (matched names s o) ≡ true
      go none = refl
      go (some m) = sized-numbered m.size _ (token-numbered m.class (take m.size s))

  past-numbered : (n : ℕ) (s : List ℕ) → when_some (each numbered_token) (tokens_past names n s) ≡ true
  unfolding tokens_past when_some each
  past-numbered n [] = refl
  past-numbered (suc n) (b ∷ s) = past-numbered n s
  past-numbered zero (b ∷ s) =
      by-test (blank b) (λ e. rw (tokens_past, e) (past-numbered zero s))
      (λ e. rw (tokens_past, e) (go (front names (b ∷ s)) (front-numbered (b ∷ s)) (λ n. past-numbered n s)))
    where
      go : (o : Option Sized) → when_some (λ t. numbered_token t.token) o ≡ true → ((n : ℕ) → when_some (each numbered_token) (tokens_past names n s) ≡ true)
          → when_some (each numbered_token) (elim o [ none ↦ none | some t ↦ infront t.token (tokens_past names (pred t.size) s) ]) ≡ true
      go none h f = refl
      go (some t) h f = infront-numbered t.token _ h (f (pred t.size))

  -- The tokens that a line keeps name registers of the sixteen, whatever the names.
  pub line-numbered : (l : List ℕ) (line : Line) → read_line names l ≡ some line → each numbered_token line.first ≡ true
  unfolding read_line tokens when_some
  line-numbered l line e =
      subst (λ o. when_some (λ (x : Line). each numbered_token x.first) o ≡ true) e (record-numbered (tokens names (content l)) (past-numbered 0 (content l)))

-- Without its first tokens too.
pub behind-numbered : (k : ℕ) (l : Line) → each numbered_token l.first ≡ true → each numbered_token (behind k l).first ≡ true
unfolding behind
behind-numbered k l h = each-drop numbered_token k l.first h
