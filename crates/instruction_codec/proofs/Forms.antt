-- The words of forms, and the operands in a word by its form.
use mathlib.Core.Path.{◌≡◌, refl, ap, subst}
use Prim.Native.Nat.{ℕ, suc, ◌+◌, ◌-◌, ◌*◌, ◌/◌, ◌%◌, ◌^◌, ◌≤◌, ◌<◌}
use native.Mathlib.Nat.{mod-eq_of_lt, div-lt_iff_lt-mul, le-div_iff_mul-le, le_trans, mul-le-mul_right}
use native.Mathlib.Omega.{arith}
use mathlib.Core.Bool.{Bool, true, false}
use mathlib.Core.Option.{none, some}
use mathlib.Core.List.{[], ◌∷◌}
use lib.IntN.{ℤ}
use lib.Pow.{pow_pos, pow_mono, pow-add}
use borrow.Author.Tests.{lt-ltb, le-ltb}
use Rattle.std.specs.Prelude.{Some, None}
use Rattle.text_lexical.specs.Numbers.{residue, meant_by}
use Rattle.text_lexical.specs.Promised.{Reduced, whole_for}
use Rattle.text_lexical.specs.declared.number.Whole.TheVariants.{NotNegative, Negative}
use Rattle.text_lexical.proofs.Numbers.{residue-lt}
use Rattle.instruction.specs.Table.{R, I, Shift, Store, Jump, System, places}
use Rattle.instruction.specs.Words.{reduced, fields, field_at}
use Rattle.instruction.specs.Promised.{row_of}
use Rattle.instruction.specs.declared.field.Field.{Field}
use Rattle.instruction.specs.declared.opcode.Mnemonic.{Mnemonic}
use Rattle.instruction_codec.specs.Promised.{form_word, IsField, highest_number}

-- ---- the words of forms

module _ (m : Mnemonic) (a b : ℕ) where
  -- Three registers.
  pub word_registers : (c : ℕ) → form_word R m (a ∷ b ∷ c ∷ []) none ≡ (row_of m).opcode + (a * 0x80 + b * 0x800) + c * 0x8000
  unfolding form_word places fields
  word_registers c = omega arith

  module _ (z : ℤ) where
    -- Two registers and a number of seventeen bits.
    pub word_number : form_word I m (a ∷ b ∷ []) (some z) ≡ (row_of m).opcode + (a * 0x80 + b * 0x800) + residue 17 z * 0x8000
    unfolding form_word places fields reduced
    word_number = omega arith

    -- Of eight bits.
    pub word_shift : form_word Shift m (a ∷ b ∷ []) (some z) ≡ (row_of m).opcode + (a * 0x80 + b * 0x800) + residue 8 z * 0x8000
    unfolding form_word places fields reduced
    word_shift = omega arith

    -- A store's registers stand the other way round.
    pub word_store : form_word Store m (a ∷ b ∷ []) (some z) ≡ (row_of m).opcode + (a * 0x800 + b * 0x80) + residue 17 z * 0x8000
    unfolding form_word places fields reduced
    word_store = omega arith

    -- One register and a number of twenty-one bits.
    pub word_jump : form_word Jump m (a ∷ []) (some z) ≡ (row_of m).opcode + a * 0x80 + residue 21 z * 0x800
    unfolding form_word places fields reduced
    word_jump = omega arith

-- No operands.
pub word_system : (m : Mnemonic) → form_word System m [] none ≡ (row_of m).opcode
unfolding form_word places fields
word_system m = omega arith

-- ---- a field's bits

-- What is left of a number by a field's most number is its residue.
pub residue_kept : (k most r : ℕ) (z : ℤ) → most ≡ 2 ^ k - 1 → Reduced (suc most) z r → r ≡ residue k z
residue_kept k most r z e d = d.at_width k (omega (arith, e, pow_pos k))

-- A number reduced to a field loses no bit at the field's place.
module _ (f : Field) (z : ℤ) (w : IsField f) where
  reduced_ends : suc (residue f.range.width z) * 2 ^ f.bit ≤ 2 ^ 32
  reduced_ends =
      le_trans (mul-le-mul_right (2 ^ f.bit) (residue-lt f.range.width z))
      (subst (λ (n : ℕ). n ≤ 2 ^ 32) (pow-add 2 f.range.width f.bit) (pow_mono {i = f.range.width + f.bit} {j = 32} (omega (arith, w.ends))))

  pub reduced_fits : residue f.range.width z * 2 ^ f.bit + 2 ^ f.bit ≤ 2 ^ 32
  reduced_fits = omega (arith, reduced_ends)

  pub reduced_kept : residue f.range.width z * 2 ^ f.bit % 2 ^ 32 ≡ residue f.range.width z * 2 ^ f.bit
  reduced_kept = mod-eq_of_lt (omega (arith, reduced_ends, pow_pos f.bit))

-- The number of a field's bits: below zero from the half of its values on.
module _ (s : Bool) (k v : ℕ) (l : v < 2 ^ k) where
  pub number_below : s ≡ true → 2 ^ k ≤ 2 * v → Negative (2 ^ k - v) ≡ whole_for (meant_by s k v)
  unfolding meant_by
  number_below e h =
      rw (e, meant_by, le-ltb (v + v) (2 ^ k) (omega (arith, h)))
      (ap (λ (n : ℕ). Negative n) (omega (arith, l)))

  pub number_unsigned : s ≡ false → NotNegative v ≡ whole_for (meant_by s k v)
  unfolding meant_by
  number_unsigned e = rw e

  pub number_above : 2 * v < 2 ^ k → NotNegative v ≡ whole_for (meant_by s k v)
  unfolding meant_by
  number_above h = go s
    where
      go : (s : Bool) → NotNegative v ≡ whole_for (meant_by s k v)
      go false = refl
      go true = rw (meant_by, lt-ltb (v + v) (2 ^ k) (omega (arith, h)))

-- The bits from a word's highest field on are the field's, unless one above it is set.
module _ (w : ℕ) (f : Field) where
  end : 2 ^ f.range.width * 2 ^ f.bit ≡ 2 ^ (f.bit + f.range.width)
  end = omega (arith, pow-add 2 f.bit f.range.width)

  pub highest_some : w / 2 ^ f.bit < 2 ^ f.range.width → Some (whole_for (meant_by f.range.signed f.range.width (w / 2 ^ f.bit))) ≡ highest_number w f
  unfolding field_at
  highest_some l =
      let t : w < 2 ^ (f.bit + f.range.width) = rw end at ((div-lt_iff_lt-mul (pow_pos f.bit)).0 l) in
      rw (highest_number, lt-ltb w (2 ^ (f.bit + f.range.width)) t, field_at, mod-eq_of_lt l)

  pub highest_none : 2 ^ f.range.width ≤ w / 2 ^ f.bit → None ≡ highest_number w f
  highest_none l =
      let t : 2 ^ (f.bit + f.range.width) ≤ w = rw end at ((le-div_iff_mul-le (pow_pos f.bit)).0 l) in
      rw (highest_number, le-ltb w (2 ^ (f.bit + f.range.width)) t)
