-- How long the text of a form is, and so that of an instruction: at most 39 bytes, with a number of 64 bits and a sign.
use mathlib.Core.Path.{◌≡◌, refl, ap, ap₂, subst}
use Prim.Native.Nat.{ℕ, suc, ◌+◌, ◌≤◌, ◌<◌, ◌^◌}
use native.Mathlib.Omega.{arith}
use mathlib.Core.Option.{Option, none, some}
use mathlib.Core.List.{List, [], ◌∷◌, ◌++◌, map}
use lib.IntN.{ℤ, pos, negsuc, nat_abs}
use lib.ListN.{length, length-append}
use Rattle.text_lexical.specs.Numbers.{signed_decimal}
use Rattle.text_lexical.specs.Promised.{index_of, whole_meant}
use Rattle.text_lexical.specs.declared.register.Register.{Register}
use Rattle.text_lexical.proofs.Numbers.{decimal-length}
use Rattle.instruction.specs.Table.{Place, reg, num, mark, Form, R, I, Shift, Load, Store, Branch, Jump, System, places, Row}
use Rattle.instruction.specs.Text.{register_text, number_text, separator_text, places_text, operands_text, instruction_text}
use Rattle.instruction.specs.Promised.{row_for, mnemonic_for, registers_for, number_for, parts_of, instruction_meant}
use Rattle.instruction.specs.declared.instruction.Instruction.{Instruction}
use Rattle.instruction.specs.declared.opcode.Mnemonic.{Mnemonic}
use Rattle.instruction.proofs.Columns.{mnemonic-short, row-back}
use Rattle.instruction.proofs.Meaning.{meant-fits}
use Rattle.instruction.proofs.Parts.{register-below}
use Rattle.instruction_codec.specs.Promised.{form_text}

-- A register's text has at most 3 bytes, and a number's at most 21.
pub register-length : (r : ℕ) → r < 16 → length (register_text r) ≤ 3
unfolding register_text
register-length r h = omega (arith, decimal-length 1 r (omega arith))

pub number-length : (z : ℤ) → nat_abs z < 2 ^ 64 → length (signed_decimal z) ≤ 21
unfolding signed_decimal
number-length (pos n) h = omega (arith, decimal-length 19 n (omega arith))
number-length (negsuc n) h = omega (arith, decimal-length 19 (suc n) (omega arith))

-- How many bytes the text of places has at most.
most_at : List Place → ℕ
most_at [] = 0
most_at (reg bit ∷ ps) = 3 + most_at ps
most_at (num bit width signed ∷ ps) = 21 + most_at ps
most_at (mark m ∷ ps) = length (separator_text m) + most_at ps

-- A number, where there is one, has at most 64 bits and a sign.
abbrev pub SixtyFour : Option ℤ → Type 0
SixtyFour none = Unit {0}
SixtyFour (some z) = nat_abs z < 2 ^ 64

number-text-length : (n : Option ℤ) → SixtyFour n → length (number_text n) ≤ 21
unfolding number_text
number-text-length none h = omega arith
number-text-length (some z) h = number-length z h

places-length : (ps : List Place) (rs : List Register) (n : Option ℤ) → length (number_text n) ≤ 21 → length (places_text ps (map index_of rs) n) ≤ most_at ps
unfolding places_text most_at
places-length [] rs n h = omega arith
places-length (reg bit ∷ ps) [] n h = omega (arith, places-length ps [] n h)
places-length (reg bit ∷ ps) (r ∷ rs) n h = rw length-append (omega (arith, register-length (index_of r) (register-below r), places-length ps rs n h))
places-length (num bit width signed ∷ ps) rs n h = rw length-append (omega (arith, h, places-length ps rs n h))
places-length (mark m ∷ ps) rs n h = rw length-append (omega (arith, places-length ps rs n h))

operands-length : (f : Form) (rs : List Register) (n : Option ℤ) → length (number_text n) ≤ 21 → length (operands_text (places f) (map index_of rs) n) ≤ 32
unfolding places operands_text most_at
operands-length R rs n h = omega (arith, places-length (places R) rs n h)
operands-length I rs n h = omega (arith, places-length (places I) rs n h)
operands-length Shift rs n h = omega (arith, places-length (places Shift) rs n h)
operands-length Load rs n h = omega (arith, places-length (places Load) rs n h)
operands-length Store rs n h = omega (arith, places-length (places Store) rs n h)
operands-length Branch rs n h = omega (arith, places-length (places Branch) rs n h)
operands-length Jump rs n h = omega (arith, places-length (places Jump) rs n h)
operands-length System rs n h = omega arith

-- The text of a form, with any registers, a number or none, and any mnemonic, of another form too, has at most 39 bytes.
pub form-bound : (f : Form) (m : Mnemonic) (rs : List Register) (n : Option ℤ) → SixtyFour n → length (form_text f m (map index_of rs) n) ≤ 39
unfolding form_text
form-bound f m rs n h = rw length-append (omega (arith, operands-length f rs n (number-text-length n h), (mnemonic-short m).few))

-- A form's text has of registers and of a number only what the form takes.
places-taken : (ps : List Place) (rs : List ℕ) (n : Option ℤ) → places_text ps rs n ≡ places_text ps (registers_for ps rs) n
unfolding places_text registers_for
places-taken [] rs n = refl
places-taken (reg bit ∷ ps) [] n = refl
places-taken (reg bit ∷ ps) (r ∷ rs) n = ap (λ (x : List ℕ). register_text r ++ x) (places-taken ps rs n)
places-taken (num bit width signed ∷ ps) rs n = ap (λ (x : List ℕ). number_text n ++ x) (places-taken ps rs n)
places-taken (mark m ∷ ps) rs n = ap (λ (x : List ℕ). separator_text m ++ x) (places-taken ps rs n)

operands-taken : (ps : List Place) (rs : List ℕ) (n : Option ℤ) → operands_text ps rs n ≡ operands_text ps (registers_for ps rs) n
unfolding operands_text
operands-taken [] rs n = refl
operands-taken (p ∷ ps) rs n = ap (λ (x : List ℕ). 32 ∷ x) (places-taken (p ∷ ps) rs n)

number-taken : (ps : List Place) (z : ℤ) → nat_abs z < 2 ^ 64 → SixtyFour (number_for ps z)
unfolding number_for
number-taken [] z h = tt
number-taken (reg bit ∷ ps) z h = number-taken ps z h
number-taken (num bit width signed ∷ ps) z h = h
number-taken (mark m ∷ ps) z h = number-taken ps z h

-- An instruction's text is that of its form.
pub text-bound : (i : Instruction) → nat_abs (whole_meant (parts_of i).operands.number) < 2 ^ 64 → length (instruction_text (instruction_meant i)) ≤ 39
unfolding instruction_text form_text
text-bound i h =
    let r = row_for (parts_of i).mnemonic in
    let o = (parts_of i).operands in
    let ps = places r.form in
    let m = mnemonic_for r.mnemonic in
    let rs = o.first ∷ o.second ∷ o.third ∷ [] in
    let n = number_for ps (whole_meant o.number) in
    let e : form_text r.form m (map index_of rs) n ≡ instruction_text (instruction_meant i)
    = ap₂ (λ (x y : List ℕ). x ++ y) (ap (λ (x : Row). x.mnemonic) (row-back r (meant-fits i).in_table)) (operands-taken ps (map index_of rs) n) in
    subst (λ (x : List ℕ). length x ≤ 39) e (form-bound r.form m rs n (number-taken ps (whole_meant o.number) h))
