-- The amount of an instruction that was read: a numeric token among its operands is it, and lies in the range of its form.
use mathlib.Core.Path.{◌≡◌, refl, sym, ap, ◌∙◌, subst}
use Prim.Native.Nat.{ℕ}
use native.Mathlib.Omega.{arith}
use mathlib.Core.Bool.{Bool, true, false, not, true≢false}
use mathlib.Core.Option.{Option, none, some}
use mathlib.Core.List.{List, [], ◌∷◌, ◌++◌, map}
use lib.ListN.{length, length-append}
use lib.Dec.{eqb}
use lib.IntN.{ℤ}
use borrow.Author.Tests.{not-true}
use Rattle.text_lexical.specs.Bytes.{value, lower, is_some}
use Rattle.text_lexical.specs.Numbers.{NumberRange}
use Rattle.text_lexical.proofs.Tests.{both}
use Rattle.text.specs.Tokens.{Token}
use Rattle.text.specs.Lines.{Line}
use Rattle.text.specs.Values.{read_number}
use Rattle.instruction.specs.Table.{Separator, a-comma, an-opening, a-closing, Place, reg, num, mark}
use Rattle.instruction.specs.Operands.{Amount, exactly, Draft, takes_label, read_identifier, read_register, mark_byte, read_exactly, read_amount, DraftOperands, with_register, with_amount, separator_byte, separator_refusal, read_place, read_operands, read_instruction}
use Rattle.instruction.specs.Fits.{places_of, number_range, has_number}
use Rattle.instruction.proofs.Rows.{named-row}
use Rattle.instruction.proofs.Results.{test-value, result_value, through-value}
use Rattle.instruction.proofs.Placing.{single, one-number}
use Rattle.instruction.proofs.Reading.{ReadOf, instruction-read}

-- A token that is read as nothing but a number.
pub record Numeric (t : Token) : Type 0 where
  pub no_identifier : read_identifier t ≡ none
  pub no_register : (n : ℕ) → read_register t ≡ value n → ⊥
  pub no_mark : mark_byte t ≡ 0

-- There is a range, and an amount is what a token is read as in it.
pub record IsAmount (o : Option NumberRange) (a : Option Amount) (t : Token) : Type 0 where
  pub range : NumberRange
  pub is_range : o ≡ some range
  pub number : ℤ
  pub is_read : read_number range t ≡ value number
  pub is_amount : a ≡ some (exactly number)

-- ---- operands

exactly-read : (r : NumberRange) (t : Token) (a : Amount) → read_exactly r t ≡ value a → (z : ℤ) × (read_number r t ≡ value z) × (a ≡ exactly z)
unfolding read_exactly
exactly-read r t a e = let (z, f, q) = result_value (read_number r t) (λ z. value (exactly z)) a e in (z, f, cc)

number-read : (r : NumberRange) (label : Bool) (t : Token) (a : Amount) → read_identifier t ≡ none → read_amount r label t ≡ value a → read_exactly r t ≡ value a
unfolding read_amount
number-read r false t a h e = e
number-read r true t a h e = rw (read_amount, h) at e

-- No mark between operands has the byte 0.
no-separator : (m : Separator) → eqb 0 (separator_byte m) ≡ true → ⊥
no-separator a-comma h = true≢false (sym h)
no-separator an-opening h = true≢false (sym h)
no-separator a-closing h = true≢false (sym h)

operands-amount : (label : Bool) (ps : List Place) (left : List Token) (t : Token) (right : List Token) (o : DraftOperands) → Numeric t → single ps ≡ true
    → length (left ++ (t ∷ right)) ≡ length ps → read_operands label ps (left ++ (t ∷ right)) ≡ value o → IsAmount (number_range ps) o.amount t
unfolding read_operands read_place single number_range has_number is_some with_register with_amount
operands-amount label [] left t right o n s l e = absurd (omega (arith, length-append left (t ∷ right)))
operands-amount label (reg bit ∷ ps) [] t right o n s l e = let (k, f, e) = result_value (read_register t) _ o e in absurd (n.no_register k f)
operands-amount label (num bit width signed ∷ ps) [] t right o n s l e =
    let r : NumberRange = record { width = width; signed = signed } in
    let (a, f, e) = result_value (read_amount r label t) _ o e in
    let (o', e, q) = through-value (with_amount a) (λ o. record { registers = o.registers; amount = some a }) (λ o. refl) (λ k. refl) _ o e in
    let (z, g, h) = exactly-read r t a (number-read r label t a n.no_identifier f) in
    record { range = r; is_range = refl; number = z; is_read = g; is_amount = sym (ap (λ (x : DraftOperands). x.amount) q) ∙ ap some h }
operands-amount label (mark m ∷ ps) [] t right o n s l e =
    let (h, e) = test-value (eqb (mark_byte t) (separator_byte m)) _ (separator_refusal m) o e in
    absurd (no-separator m (rw n.no_mark at h))
operands-amount label (reg bit ∷ ps) (u ∷ left) t right o n s l e =
    let (k, f, e) = result_value (read_register u) _ o e in
    let (o', e, q) = through-value (with_register k) (λ o. record { registers = k ∷ o.registers; amount = o.amount }) (λ o. refl) (λ k. refl) _ o e in
    subst (λ (x : DraftOperands). IsAmount (number_range ps) x.amount t) q (operands-amount label ps left t right o' n s (omega arith) e)
operands-amount label (num bit width signed ∷ ps) (u ∷ left) t right o n s l e =
    let (k, f, e) = result_value (read_amount (record { width = width; signed = signed }) label u) _ o e in
    let (o', e, q) = through-value (with_amount k) (λ o. record { registers = o.registers; amount = some k }) (λ o. refl) (λ k. refl) _ o e in
    let (only, s) = both (not (has_number ps)) (single ps) s in
    let a = operands-amount label ps left t right o' n s (omega arith) e in
    absurd (true≢false (sym (ap is_some a.is_range) ∙ not-true (has_number ps) only))
operands-amount label (mark m ∷ ps) (u ∷ left) t right o n s l e =
    let (h, e) = test-value (eqb (mark_byte u) (separator_byte m)) _ (separator_refusal m) o e in
    operands-amount label ps left t right o n s (omega arith) e

-- ---- an instruction

-- A numeric token is not the mnemonic, so it is among the operands.
pub instruction-amount : (l : Line) (d : Draft) (left : List Token) (t : Token) (right : List Token) → Numeric t
    → l.first ≡ left ++ (t ∷ right) → l.count ≡ length l.first → read_instruction l ≡ value d → IsAmount (number_range (places_of d.row)) d.amount t
instruction-amount l d left t right n f c e = go left f (instruction-read l d e)
  where
    go : (left : List Token) → l.first ≡ left ++ (t ∷ right) → ReadOf l d → IsAmount (number_range (places_of d.row)) d.amount t
    go [] f r =
        let q : r.mnemonic ∷ r.after ≡ t ∷ right = sym r.are_first ∙ f in
        let m : r.mnemonic ≡ t = cc in
        let x : none ≡ some r.spelling = sym n.no_identifier ∙ ap read_identifier (sym m) ∙ r.spelled in
        cc
    go (u ∷ left) f r =
        let q : r.mnemonic ∷ r.after ≡ u ∷ (left ++ (t ∷ right)) = sym r.are_first ∙ f in
        let m : r.after ≡ left ++ (t ∷ right) = cc in
        let long : length (left ++ (t ∷ right)) ≡ length (places_of r.row) = let k = ap length f in omega (arith, r.as_many) in
        subst (λ (x : Draft). IsAmount (number_range (places_of x.row)) x.amount t) r.is_made
        (operands-amount (takes_label r.row.form) (places_of r.row) left t right r.operands n (one-number r.row (named-row (map lower r.spelling) r.row r.is_row).0) long
        (rw m at r.are_read))
