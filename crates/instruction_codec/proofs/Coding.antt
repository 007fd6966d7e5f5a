-- A word's instruction from its row and its fields.
use mathlib.Core.Path.{◌≡◌, refl, sym, ap, ◌∙◌}
use Prim.Native.Nat.{ℕ, ◌+◌, ◌%◌, ◌^◌}
use mathlib.Core.Bool.{Bool, true, false}
use mathlib.Core.Option.{none, some}
use mathlib.Core.List.{[], ◌∷◌}
use lib.Dec.{ltb}
use Rattle.std.specs.Prelude.{Ok, Some, None}
use Rattle.std.specs.Prelude.{Option as StdOption}
use Rattle.std.proofs.lemmas.Option.{none-some, same_Some}
use Rattle.text_lexical.specs.Bytes.{value, refused}
use Rattle.text_lexical.specs.Numbers.{meant_by}
use Rattle.text_lexical.specs.Promised.{index_of, whole_meant, whole_for}
use Rattle.text_lexical.specs.declared.number.Whole.{Whole}
use Rattle.text_lexical.proofs.Numbers.{whole-meant}
use Rattle.instruction.specs.Table.{Form, R, I, Shift, Load, Store, Branch, Jump, System, places, row_coded}
use Rattle.instruction.specs.Words.{field_at, registers_in, number_in, unused_from, taken, instruction_of}
use Rattle.instruction.specs.Promised.{row_of, form_meant, row_meant, keep, parts_of, registers_for, number_for, instruction_meant}
use Rattle.instruction.specs.Forms.{layout_of}
use Rattle.instruction.specs.declared.field.Field.{Field}
use Rattle.instruction.specs.declared.form.Form.{Form as CodeForm}
use Rattle.instruction.specs.declared.form.Layout.{Layout}
use Rattle.instruction.specs.declared.opcode.Mnemonic.{Mnemonic}
use Rattle.instruction.specs.declared.instruction.Instruction.{Instruction}
use Rattle.instruction.specs.declared.instruction.Operands.{Operands}
use Rattle.instruction_codec.specs.Promised.{DecodesTo, highest_number}

-- What a form keeps of operands whose number is settled has a settled number.
kept-settled : (f : Form) (o : Operands) → o.number ≡ whole_for (whole_meant o.number) → (keep f o).number ≡ whole_for (whole_meant (keep f o).number)
kept-settled R o h = refl
kept-settled I o h = h
kept-settled Shift o h = h
kept-settled Load o h = h
kept-settled Store o h = h
kept-settled Branch o h = h
kept-settled Jump o h = h
kept-settled System o h = refl

-- ---- what a form reads of a word

-- A word's instruction has no bit set from the end of its form's highest field on.
layout-ends : (f : Form) → unused_from (places f) ≡ (layout_of f).highest.bit + (layout_of f).highest.range.width
unfolding places unused_from
layout-ends R = refl
layout-ends I = refl
layout-ends Shift = refl
layout-ends Load = refl
layout-ends Store = refl
layout-ends Branch = refl
layout-ends Jump = refl
layout-ends System = refl

-- The registers of a line stand where the layout has them.
module _ (w x y t : ℕ) where
  layout-registers : (f : Form) → x ≡ field_at w (layout_of f).first 4 → y ≡ field_at w (layout_of f).second 4 → t ≡ field_at w (layout_of f).highest.bit 4
      → registers_for (places f) (x ∷ y ∷ t ∷ []) ≡ registers_in w (places f)
  unfolding places registers_for registers_in
  layout-registers R ex ey et = rw (ex, ey, et)
  layout-registers I ex ey et = rw (ex, ey)
  layout-registers Shift ex ey et = rw (ex, ey)
  layout-registers Load ex ey et = rw (ex, ey)
  layout-registers Store ex ey et = rw (ex, ey)
  layout-registers Branch ex ey et = rw (ex, ey)
  layout-registers Jump ex ey et = rw ex
  layout-registers System ex ey et = refl

-- The number is the highest field's, where a form has one.
abbrev highest_meant : Field → ℕ → Whole
highest_meant h w = whole_for (meant_by h.range.signed h.range.width (field_at w h.bit h.range.width))

layout-number : (w : ℕ) (f : Form) → number_for (places f) (whole_meant (highest_meant (layout_of f).highest w)) ≡ number_in w (places f)
unfolding places number_for number_in
layout-number w R = refl
layout-number w I = ap some (whole-meant _)
layout-number w Shift = ap some (whole-meant _)
layout-number w Load = ap some (whole-meant _)
layout-number w Store = ap some (whole-meant _)
layout-number w Branch = ap some (whole-meant _)
layout-number w Jump = ap some (whole-meant _)
layout-number w System = refl

if-some : (b : Bool) (x y : Whole) → Some y ≡ elim b as (λ b. StdOption Whole) [ true ↦ Some x | false ↦ None ] → (b ≡ true) × (y ≡ x)
if-some true x y e = (refl, same_Some y x e)
if-some false x y e = absurd (none-some y (sym e))

if-none : (b : Bool) (x : Whole) → None ≡ elim b as (λ b. StdOption Whole) [ true ↦ Some x | false ↦ None ] → b ≡ false
if-none true x e = absurd (none-some x e)
if-none false x e = refl

-- ---- decoding

-- No row has the opcode.
pub word_unknown : (w : ℕ) → row_coded (w % 128) ≡ none → refused 30 ≡ instruction_of w
unfolding instruction_of
word_unknown w e = rw (instruction_of, e)

module _ (w : ℕ) (m : Mnemonic) (f : CodeForm) (l : Layout) (e : form_meant f ≡ (row_of m).form) (k : l ≡ layout_of (form_meant f))
    (c : some (row_of m) ≡ row_coded (w % 128)) where
  its-layout : l ≡ layout_of (row_of m).form
  its-layout = k ∙ ap layout_of e

  its-end : unused_from (places (row_of m).form) ≡ l.highest.bit + l.highest.range.width
  its-end = layout-ends (row_of m).form ∙ sym (ap (λ (l : Layout). l.highest.bit + l.highest.range.width) its-layout)

  -- A bit is set that its form does not use.
  pub word_unused : None ≡ highest_number w l.highest → refused 31 ≡ instruction_of w
  unfolding instruction_of
  word_unused t =
      let q = if-none (ltb w (2 ^ (l.highest.bit + l.highest.range.width))) (highest_meant l.highest w) t in
      rw (instruction_of, ← c, its-end, q)

  -- No such bit is: the instruction has the row, and the operands that its form's layout has in the word.
  pub word_taken : (i : Instruction) (o : Operands) → Some o.number ≡ highest_number w l.highest
      → index_of o.first ≡ field_at w l.first 4 → index_of o.second ≡ field_at w l.second 4 → index_of o.third ≡ field_at w l.highest.bit 4
      → parts_of i ≡ record { mnemonic = (row_of m).mnemonic; operands = keep (row_of m).form o }
      → instruction_meant i ≡ row_meant (row_of m) o → DecodesTo w (Ok i)
  unfolding instruction_of taken
  word_taken i o n x y t p v =
      let g = (row_of m).form in
      let q = if-some (ltb w (2 ^ (l.highest.bit + l.highest.range.width))) (highest_meant l.highest w) o.number n in
      let rs = layout-registers w _ _ _ g (rw its-layout at x) (rw its-layout at y) (rw its-layout at t) in
      let z : number_for (places g) (whole_meant o.number) ≡ number_in w (places g) = rw (q.1, its-layout) (layout-number w g) in
      record {
        means = ap value v ∙ rw (instruction_of, ← c, its-end, q.0) (ap value (rw (taken, rs, z)));
        settled = rw p (kept-settled g o (rw q.1 (ap whole_for (sym (whole-meant _)))));
      }
