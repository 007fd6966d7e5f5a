-- What the code's values mean in terms of the definitions, and what its functions promise.
use Rattle.std.specs.Prelude.{ℕ, suc, ◌+◌, ◌-◌, ◌*◌, ◌%◌, ◌^◌, ◌<◌, ◌≡◌, Bool, true, false, List, [], ◌∷◌, map, length, drop, get_or, leb, ltb, ℤ, pos, negsuc}
use Rattle.std.specs.Prelude.{Option as CodeOption, Some, None}
use Rattle.std.proofs.Math.Option.{Option, none, some}
use Rattle.text_lexical.specs.Bytes.{digit, hex_digit, binary_digit, name_part, lower, every, before, run}
use Rattle.text_lexical.specs.Numbers.{digit_value, value_of, minus, residue}
use Rattle.text_lexical.specs.Numbers.{NumberRange as MeantRange}
use Rattle.text_lexical.specs.Names.{Name}
use Rattle.text_lexical.specs.declared.register.Register.{Register}
use Rattle.text_lexical.specs.declared.register.Register.TheVariants.{R0, R1, R2, R3, R4, R5, R6, R7, R8, R9, R10, R11, R12, R13, R14, R15}
use Rattle.text_lexical.specs.declared.name.RegisterName.{RegisterName}
use Rattle.text_lexical.specs.declared.name.RegisterName.TheVariants.{Is, NoSuch, Other}
use Rattle.text_lexical.specs.declared.number.Radix.{Radix}
use Rattle.text_lexical.specs.declared.number.Radix.TheVariants.{Binary, Decimal, Hex}
use Rattle.text_lexical.specs.declared.number.Digits.{Digits}
use Rattle.text_lexical.specs.declared.number.Whole.{Whole}
use Rattle.text_lexical.specs.declared.number.Whole.TheVariants.{NotNegative, Negative}
use Rattle.text_lexical.specs.declared.number.NumberRange.{NumberRange}

-- ---- registers

abbrev pub index_of : Register → ℕ
index_of R0 = 0
index_of R1 = 1
index_of R2 = 2
index_of R3 = 3
index_of R4 = 4
index_of R5 = 5
index_of R6 = 6
index_of R7 = 7
index_of R8 = 8
index_of R9 = 9
index_of R10 = 10
index_of R11 = 11
index_of R12 = 12
index_of R13 = 13
index_of R14 = 14
index_of R15 = 15

-- The register with a number; there is none above R15.
unfoldable pub register_at : ℕ → Register
register_at n = get_or (R0 ∷ R1 ∷ R2 ∷ R3 ∷ R4 ∷ R5 ∷ R6 ∷ R7 ∷ R8 ∷ R9 ∷ R10 ∷ R11 ∷ R12 ∷ R13 ∷ R14 ∷ R15 ∷ []) n R15

-- The number of the register that a name names, if it is a name and names one.
abbrev pub name_number : Option Name → Option (Option ℕ)
name_number none = none
name_number (some n) = some n.number

-- The register with a number, if it is one of the sixteen.
unfoldable pub register_number : ℕ → Option ℕ
register_number n = elim (ltb n 16) [ true ↦ some n | false ↦ none ]

abbrev pub name_meant : RegisterName → Option (Option ℕ)
name_meant (Is r) = some (some (index_of r))
name_meant NoSuch = some none
name_meant Other = none

-- The bytes of a spelling as a number, the first lowest, with a 1 after them.
unfoldable pub packed : List ℕ → ℕ
packed [] = 1
packed (b ∷ s) = b + 256 * packed s

-- The key of a spelling, if it has at most seven bytes.
unfoldable pub key_of : List ℕ → CodeOption ℕ
key_of s = elim (leb (length s) 7) [ true ↦ Some (packed s) | false ↦ None ]

-- A byte of a name in lower case, as keys have it; none where no name has the byte.
unfoldable pub name_byte : ℕ → CodeOption ℕ
name_byte b = elim (name_part b) [ true ↦ Some (lower b) | false ↦ None ]

-- The key of a name in lower case, if each byte is part of one.
unfoldable pub name_key : List ℕ → CodeOption ℕ
name_key s = elim (every name_part s) [ true ↦ key_of (map lower s) | false ↦ None ]

-- ---- numbers

-- A value, where it fits 64 bits.
unfoldable pub fitting : ℕ → CodeOption ℕ
fitting n = elim (ltb n (2 ^ 64)) [ true ↦ Some n | false ↦ None ]

abbrev pub base_of : Radix → ℕ
base_of Binary = 2
base_of Decimal = 10
base_of Hex = 16

-- The digits of a radix.
abbrev pub is_digit_of : Radix → ℕ → Bool
is_digit_of Binary = binary_digit
is_digit_of Decimal = digit
is_digit_of Hex = hex_digit

-- The value of a digit of the radix.
unfoldable pub digit_of : Radix → ℕ → CodeOption ℕ
digit_of radix b = elim (is_digit_of radix b) [ true ↦ Some (digit_value b) | false ↦ None ]

-- The digits of a radix from a place on: their value, where it fits, and where they end.
abbrev pub digits_at : List ℕ → ℕ → Radix → Digits
digits_at s at radix =
    record {
      value = fitting (value_of (base_of radix) (before (is_digit_of radix) (drop at s)));
      end = at + run (is_digit_of radix) (drop at s);
    }

abbrev pub whole_meant : Whole → ℤ
whole_meant (NotNegative n) = pos n
whole_meant (Negative n) = minus n

-- The one that is read for a number: negative exactly below zero.
abbrev pub whole_for : ℤ → Whole
whole_for (pos n) = NotNegative n
whole_for (negsuc n) = Negative (suc n)

-- What a whole number leaves modulo another, from 0 on.
abbrev pub remainder : ℕ → ℤ → ℕ
remainder m (pos n) = n % m
remainder m (negsuc n) = m - suc (n % m)

-- Of a power of two, whichever power it is, that is the residue of that width.
pub record Reduced (modulus : ℕ) (z : ℤ) (r : ℕ) : Type 0 where
  pub exact : r ≡ remainder modulus z
  pub at_width : (k : ℕ) → modulus ≡ 2 ^ k → r ≡ residue k z

abbrev pub range_meant : NumberRange → MeantRange
range_meant r = record { width = r.width; signed = r.signed }

-- How many numbers of a range are below zero: half of them, or none.
unfoldable pub below_zero : MeantRange → ℕ
below_zero r = elim r.signed [ true ↦ 2 ^ (r.width - 1) | false ↦ 0 ]

-- A range that has at least one bit, and whose size has room in 32.
pub record IsRange (r : NumberRange) : Type 0 where
  pub some_bits : 0 < r.width
  pub few_bits : r.width < 32
