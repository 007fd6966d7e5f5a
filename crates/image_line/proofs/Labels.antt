-- The label that a record's line names: an instruction that was read of the record's tokens has it as the last of them.
use Prim.Native.Nat.{ℕ, suc, ◌+◌, ◌-◌, ◌≤◌, ◌<◌}
use mathlib.Core.Path.{◌≡◌, refl, sym, ap, ◌∙◌}
use native.Mathlib.Omega.{arith}
use mathlib.Core.Bool.{Bool, true, false}
use mathlib.Core.Logic.{◌⊎◌, inl, inr}
use mathlib.Core.Option.{none, some}
use mathlib.Core.List.{List, [], ◌∷◌}
use lib.ListN.{length, take, drop, get_or, length-take, length-drop, length-map, get_or-map}
use lib.Seq.{get_or-take, get_or-drop}
use lib.Dec.{eqb}
use Rattle.std.specs.Prelude.{Ok}
use Rattle.text_lexical.specs.Bytes.{value}
use Rattle.text_lexical.specs.Numbers.{NumberRange}
use Rattle.text.specs.Tokens.{Token, identifier, comma}
use Rattle.text.specs.Values.{read_number}
use Rattle.text.specs.Lines.{kept}
use Rattle.text.specs.Promised.{meant, filler, firsts}
use Rattle.text.specs.declared.parser.Line.{Line}
use Rattle.instruction.specs.Table.{Place, reg, num, mark, places}
use Rattle.instruction.specs.Operands.{exactly, to, takes_label, read_identifier, read_register, mark_byte, read_exactly, read_amount, DraftOperands, no_operands, with_register, with_amount, separator_byte, separator_refusal, read_place, read_operands, read_instruction, behind}
use Rattle.instruction.specs.Operands.{Amount as MeantAmount, Draft as MeantDraft}
use Rattle.instruction.specs.Promised.{row_of, spelled_in, amount_meant, amount_for, amount_back, draft_meant, label_start}
use Rattle.instruction.specs.declared.instruction.Target.{Target}
use Rattle.instruction.specs.declared.instruction.Amount.{Amount}
use Rattle.instruction.specs.declared.instruction.Amount.TheVariants.{Number, Label}
use Rattle.instruction.specs.declared.instruction.Draft.{Draft}
use Rattle.instruction.proofs.Forms.{six-places, NumberLast, form-last}
use Rattle.instruction.proofs.Reading.{instruction-read}
use Rattle.instruction.proofs.Results.{not_refused, test-value, result_value, through-value}
use Rattle.instruction_operands.specs.Promised.{LastToken, ParsedIs}
use Rattle.image.specs.Assembling.{coding}
use Rattle.image.specs.Promised.{record_meant}
use Rattle.image_line.specs.Promised.{EndsIn, EndsInIf, EffectIs}
use Rattle.image_line.specs.declared.line.Effect.TheVariants.{Codes}

-- ---- the token that is read as a label

not-exact {ℓ} : {X : Type ℓ} (r : NumberRange) (t : Token) (u : List ℕ) → read_exactly r t ≡ value (to u) → X
unfolding read_exactly
not-exact r t u e = let (z, f, q) = result_value (read_number r t) (λ z. value (exactly z)) (to u) e in cc

-- It is an Identifier, where a label may stand for the number.
label-read : (r : NumberRange) (label : Bool) (t : Token) (u : List ℕ) → read_amount r label t ≡ value (to u) → (label ≡ true) × (t ≡ identifier u)
unfolding read_amount read_identifier
label-read r false t u e = not-exact r t u e
label-read r true (identifier v) u e = (refl, cc)
label-read r true t u e = not-exact r t u e

-- ---- it is the last operand

abbrev LastIs : List Token → List ℕ → Type 0
LastIs ts u = (0 < length ts) × (get_or ts (length ts - 1) comma ≡ identifier u)

later : (t : Token) (ts : List Token) (u : List ℕ) → LastIs ts u → LastIs (t ∷ ts) u
later t ts u (l, e) = let n : suc (length ts) - 1 ≡ suc (length ts - 1) = omega arith in (omega arith, rw n e)

-- The label of operands was read of their last token.
last-read : (label : Bool) (ps : List Place) (ts : List Token) (o : DraftOperands) (u : List ℕ) → (label ≡ true → NumberLast ps) → length ts ≡ length ps
    → read_operands label ps ts ≡ value o → o.amount ≡ some (to u) → LastIs ts u
unfolding read_operands read_place no_operands with_register with_amount NumberLast
last-read label [] ts o u n l e a = let q : no_operands ≡ o = cc in let z : none ≡ some (to u) = ap (λ (x : DraftOperands). x.amount) q ∙ a in cc
last-read label (p ∷ ps) [] o u n l e a = not_refused e
last-read label (reg bit ∷ ps) (t ∷ ts) o u n l e a =
    let (k, f, e) = result_value (read_register t) _ o e in
    let (o', e, q) = through-value (with_register k) (λ o. record { registers = k ∷ o.registers; amount = o.amount }) (λ o. refl) (λ k. refl) _ o e in
    later t ts u (last-read label ps ts o' u n (omega arith) e (ap (λ (x : DraftOperands). x.amount) q ∙ a))
last-read label (num bit width signed ∷ ps) (t ∷ ts) o u n l e a =
    let (k, f, e) = result_value (read_amount (record { width = width; signed = signed }) label t) _ o e in
    let (o', e, q) = through-value (with_amount k) (λ o. record { registers = o.registers; amount = some k }) (λ o. refl) (λ k. refl) _ o e in
    let z : some k ≡ some (to u) = ap (λ (x : DraftOperands). x.amount) q ∙ a in
    let m : k ≡ to u = cc in
    let (b, i) = label-read _ label t u (f ∙ ap value m) in
    let none_after : length ps ≡ 0 = ap (λ (x : List Place). length x) (n b) in
    let first : suc (length ts) - 1 ≡ 0 = omega arith in
    (omega arith, rw first i)
last-read label (mark m ∷ ps) (t ∷ ts) o u n l e a =
    later t ts u (last-read label ps ts o u n (omega arith) (test-value (eqb (mark_byte t) (separator_byte m)) _ (separator_refusal m) o e).1 a)

-- ---- of an instruction

-- An amount that a form takes is there.
pub amount-taken : (ps : List Place) (a : MeantAmount) → (amount_for ps a ≡ some a) ⊎ (amount_for ps a ≡ none)
unfolding amount_for
amount-taken [] a = inr refl
amount-taken (reg bit ∷ ps) a = amount-taken ps a
amount-taken (num bit width signed ∷ ps) a = inl refl
amount-taken (mark m ∷ ps) a = amount-taken ps a

-- ---- of a record

module _ (s : List ℕ) (l : Line) (places-kept : length l.tokens ≡ kept) (at : ℕ) (few : at ≤ 2) where
  -- The last token, where all are kept.
  last-token : 0 < l.count → l.count ≤ kept → get_or (firsts s l.tokens l.count) (l.count - 1) comma ≡ meant s (get_or l.tokens (l.count - 1) filler)
  last-token h k =
      get_or-map (meant s) (take l.count l.tokens) (l.count - 1) filler
      ∙ ap (meant s) (get_or-take l.count l.tokens (l.count - 1) filler (omega arith))

  firsts-all : l.count ≤ kept → length (firsts s l.tokens l.count) ≡ l.count
  firsts-all k = rw (length-map (take l.count l.tokens) (meant s), length-take l.count l.tokens) (omega arith)

  ends-in : (d : MeantDraft) (p : Target) → read_instruction (behind at (record_meant s l)) ≡ value d → d.amount ≡ some (to (spelled_in s p)) → LastToken l (Label p) → EndsIn s l p
  unfolding behind
  ends-in d p e a last =
      let r = instruction-read (behind at (record_meant s l)) d e in
      let ts = drop 1 (drop at (firsts s l.tokens l.count)) in
      let f = rw (← ap (drop 1) r.are_first) at r.are_read in
      let n = r.as_many in
      let six = six-places r.row.form in
      let all_kept : l.count ≤ kept = omega arith in
      let many = firsts-all all_kept in
      let long : length ts ≡ length (places r.row.form) = omega (arith, length-drop 1 (drop at (firsts s l.tokens l.count)), length-drop at (firsts s l.tokens l.count)) in
      let (some-tokens, is) = last-read (takes_label r.row.form) (places r.row.form) ts r.operands (spelled_in s p) (form-last r.row.form) long f (ap (λ (x : MeantDraft). x.amount) r.is_made ∙ a) in
      let place : at + (1 + (length ts - 1)) ≡ l.count - 1 = omega arith in
      let here : get_or ts (length ts - 1) comma ≡ get_or (firsts s l.tokens l.count) (l.count - 1) comma
      = get_or-drop 1 (drop at (firsts s l.tokens l.count)) (length ts - 1) comma ∙ get_or-drop at (firsts s l.tokens l.count) (1 + (length ts - 1)) comma
      ∙ ap (λ (i : ℕ). get_or (firsts s l.tokens l.count) i comma) place in
      let not_empty : 0 < l.count = omega arith in
      record { not_empty = not_empty; all_kept = all_kept; last = last; reads = sym (last-token not_empty all_kept) ∙ sym here ∙ is }

  -- An instruction that was parsed.
  ends-if : {d : Draft} → ParsedIs s l at (Ok d) → EndsInIf s l d.amount
  ends-if {d} h = go d.amount refl h.settled.1
    where
      go : (a : Amount) → d.amount ≡ a → LastToken l a → EndsInIf s l a
      go (Number w) e k = tt
      go (Label p) e k =
          let a : amount_meant (spelled_in s) d.amount ≡ to (spelled_in s p) = ap (amount_meant (spelled_in s)) e in
          ends-in (draft_meant (spelled_in s) d) p (sym h.means)
          (elim (amount-taken (places (row_of d.mnemonic).form) (amount_meant (spelled_in s) d.amount)) [
            | inl q ↦ q ∙ ap some a
            | inr q ↦ let z : Label p ≡ amount_back (label_start d.amount) none = sym e ∙ ap (λ (x : Draft). x.amount) h.settled.0 ∙ ap (amount_back (label_start d.amount)) q in cc
          ])
          k

  pub effect_coded : {d : Draft} → ParsedIs s l at (Ok d) → EffectIs s l (Ok (Codes d)) (coding (read_instruction (behind at (record_meant s l))))
  unfolding coding
  effect_coded h = record { means = ap coding h.means; settled = (h.settled.0, ends-if h) }
