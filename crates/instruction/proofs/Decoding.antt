-- An instruction and its word tell one another: the word of an instruction that fits is decoded to it, its number reduced, and a
-- word that is decoded is the word of what it is decoded to.
use mathlib.Core.Path.{◌≡◌, refl, sym, ap, ◌∙◌, subst}
use mathlib.Core.Logic.{◌↔◌}
use Prim.Native.Nat.{ℕ, ◌%◌, ◌^◌, ◌<◌}
use native.Mathlib.Nat.{lt_of_lt_of_le}
use mathlib.Core.Bool.{true≢false}
use mathlib.Core.Option.{Option, none, some}
use lib.Dec.{ltb}
use lib.IntN.{ℤ}
use lib.Pow.{pow_mono}
use borrow.Author.Tests.{ltb-true, lt-ltb}
use Rattle.text_lexical.specs.Bytes.{value, is_some}
use Rattle.text_lexical.specs.Numbers.{NumberRange}
use Rattle.text_lexical.proofs.Numbers.{residue-lt, residue-meant}
use Rattle.instruction.specs.Table.{Row, row_coded}
use Rattle.instruction.specs.Operands.{Instruction}
use Rattle.instruction.specs.Words.{modulo, reduced, word_of, registers_in, unused_from, taken, instruction_of}
use Rattle.instruction.specs.Fits.{places_of, number_range, has_number, width_of, number_width, Fits, reduced_in, reduced_to}
use Rattle.instruction.proofs.Rows.{coded-row, row-facts}
use Rattle.instruction.proofs.Results.{test-value, option-value, nothing}
use Rattle.instruction.proofs.Placing.{read_number_lem, read-registers, read-reduced, unused-most, Placed, placed, placed-tells}

-- ---- an instruction's word

-- What the word of an instruction that fits tells.
told : (i : Instruction) (f : Fits i) → Placed i.row f.in_table i.registers i.number (word_of i)
unfolding word_of
told i f = placed i.row f.in_table i.registers i.number f.registers

-- The word of an instruction that fits is decoded to it, its number reduced.
pub decode-encode : (i : Instruction) → Fits i → instruction_of (word_of i) ≡ value (reduced_to i)
unfolding instruction_of taken reduced_to
decode-encode i f =
    let t = told i f in
    rw (instruction_of, t.opcode, (row-facts i.row f.in_table).coded, lt-ltb _ _ t.unused)
    (λ j. value (record { row = i.row; registers = t.registers j; number = t.number j }))

-- The word of an instruction that fits has 32 bits.
pub word_bound : (i : Instruction) → Fits i → word_of i < 2 ^ 32
word_bound i f = lt_of_lt_of_le (told i f).unused (pow_mono (unused-most i.row f.in_table))

-- ---- a word's instruction

-- What holds of all that is taken from a word by its opcode's row holds of the instruction that the word is decoded to.
decoded : (P : Instruction → Type 0) (w : ℕ) (i : Instruction)
    → ((r : Row) → row_coded (w % 128) ≡ some r → w < 2 ^ unused_from (places_of r) → P (taken r w)) → instruction_of w ≡ value i → P i
unfolding instruction_of
decoded P w i f h =
    let (r, e, g) = option-value (row_coded (w % 128)) _ 30 i h in
    let (l, t) = test-value (ltb w (2 ^ unused_from (places_of r))) _ 31 i g in
    let q : taken r w ≡ i = cc in
    subst P q (f r e (ltb-true _ _ l))

taken-fits : (w : ℕ) (r : Row) → row_coded (w % 128) ≡ some r → Fits (taken r w)
unfolding taken
taken-fits w r e =
    record { in_table = (coded-row (w % 128) r e).0; registers = read-registers w (places_of r); number = read_number_lem w (places_of r) }

-- What a word is decoded to fits.
pub decoded-fits : (w : ℕ) (i : Instruction) → instruction_of w ≡ value i → Fits i
decoded-fits w i = decoded Fits w i (λ r e l. taken-fits w r e)

-- Its number is the one that its field means.
pub decoded-reduced : (w : ℕ) (i : Instruction) → instruction_of w ≡ value i → reduced_to i ≡ i
unfolding reduced_to taken
decoded-reduced w i =
    decoded (λ j. reduced_to j ≡ j) w i
    (λ r e l. λ j. record { row = r; registers = registers_in w (places_of r); number = read-reduced w (places_of r) j })

-- The word of what a word is decoded to is that word.
pub encode-decode : (w : ℕ) (i : Instruction) → instruction_of w ≡ value i → word_of i ≡ w
unfolding taken
encode-decode w i =
    decoded (λ j. word_of j ≡ w) w i
    (λ r e l. let (h, o) = coded-row (w % 128) r e in
    let t = told (taken r w) (taken-fits w r e) in
    placed-tells r h (word_of (taken r w)) w t.unused l (t.opcode ∙ o) t.registers (t.number ∙ read-reduced w (places_of r)))

-- A word is decoded exactly if it is the word of an instruction that fits.
pub decodes-iff : (w : ℕ) → ((i : Instruction) × (instruction_of w ≡ value i)) ↔ ((i : Instruction) × (Fits i) × (word_of i ≡ w))
decodes-iff w = (
  (λ d. (d.0, decoded-fits w d.0 d.1, encode-decode w d.0 d.1)),
  (λ d. (reduced_to d.0, ap instruction_of (sym d.2) ∙ decode-encode d.0 d.1)),
)

-- ---- instructions of one word

-- What a field keeps of a number leaves the same as the number.
pub modulo-reduced : (o : Option NumberRange) (n : Option ℤ) → is_some n ≡ is_some o → modulo (width_of o) (reduced_in o n) ≡ modulo (width_of o) n
unfolding modulo reduced_in reduced width_of is_some
modulo-reduced none n h = sym (ap (modulo 0) (nothing n h))
modulo-reduced (some f) none h = absurd (true≢false (sym h))
modulo-reduced (some f) (some z) h = rw (residue-meant f.signed f.width _ (residue-lt f.width z))

or_zero : Option ℕ → ℕ
or_zero none = 0
or_zero (some v) = v

reduced-modulo : (k : ℕ) (n : Option ℤ) → reduced k n ≡ or_zero (modulo k n)
unfolding reduced modulo or_zero
reduced-modulo k none = refl
reduced-modulo k (some z) = refl

-- A field keeps the same of numbers that leave the same.
reduced-same : (o : Option NumberRange) (n m : Option ℤ) → modulo (width_of o) n ≡ modulo (width_of o) m → reduced_in o n ≡ reduced_in o m
unfolding reduced_in width_of
reduced-same none n m e = refl
reduced-same (some f) n m e = rw (reduced-modulo f.width n, reduced-modulo f.width m, e)

-- Instructions that fit have the same word only if they have the same row, the same registers, and the same number modulo 2 to the
-- width of its field.
pub word-tells : (i j : Instruction) → Fits i → Fits j → word_of i ≡ word_of j
    → (i.row ≡ j.row) × (i.registers ≡ j.registers)
    × (modulo (number_width (places_of i.row)) i.number ≡ modulo (number_width (places_of i.row)) j.number)
unfolding reduced_to has_number number_width
word-tells i j f g e =
    let v : value (reduced_to i) ≡ value (reduced_to j) = sym (decode-encode i f) ∙ ap instruction_of e ∙ decode-encode j g in
    let q : reduced_to i ≡ reduced_to j = cc in
    let r : i.row ≡ j.row = ap (λ (x : Instruction). x.row) q in (
      r,
      ap (λ (x : Instruction). x.registers) q,
      sym (modulo-reduced (number_range (places_of i.row)) i.number f.number)
          ∙ ap (λ (x : Instruction). modulo (number_width (places_of x.row)) x.number) q
          ∙ modulo-reduced (number_range (places_of j.row)) j.number g.number
          ∙ ap (λ (x : Row). modulo (number_width (places_of x)) j.number) (sym r),
    )

-- If they have the same row, the same registers, and the same number so reduced, they have the same word.
pub same_word : (i j : Instruction) → Fits i → Fits j → i.row ≡ j.row → i.registers ≡ j.registers
    → modulo (number_width (places_of i.row)) i.number ≡ modulo (number_width (places_of i.row)) j.number → word_of i ≡ word_of j
unfolding reduced_to number_width
same_word i j f g r s n =
    let m = reduced-same (number_range (places_of i.row)) i.number j.number n ∙ ap (λ (x : Row). reduced_in (number_range (places_of x)) j.number) r in
    let q : reduced_to i ≡ reduced_to j = λ k. record { row = r k; registers = s k; number = m k } in
    sym (encode-decode (word_of i) (reduced_to i) (decode-encode i f)) ∙ ap word_of q ∙ encode-decode (word_of j) (reduced_to j) (decode-encode j g)
