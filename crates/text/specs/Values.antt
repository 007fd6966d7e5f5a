-- The number that a token means, for operands and for `.config`. Quotations are document 01's, and document 02's where it is named.
use Rattle.std.specs.Prelude.{ℕ, ◌^◌, true, false, ltb, ℤ, pos}
use Rattle.text_lexical.specs.Bytes.{Result, value, refused}
use Rattle.text_lexical.specs.Numbers.{NumberRange, lies_in}
use Rattle.text.specs.Tokens.{Token, identifier, register, number, hex, binary, directive, comma, colon, opening, closing}

-- "Decimal immediates must now lie in" their range (document 02, c); "35 number out of its range".
unfoldable pub read_decimal : NumberRange → ℤ → Result ℤ
read_decimal r z = elim (lies_in r z) [ true ↦ value z | false ↦ refused 35 ]

-- "Hex and binary are bit patterns and must fit 17, 21 or 8 bits" (document 02, c).
unfoldable pub read_pattern : NumberRange → ℕ → Result ℤ
read_pattern r n = elim (ltb n (2 ^ r.width)) [ true ↦ value (pos n) | false ↦ refused 35 ]

-- Number, Hex or Binary; "8 number expected (also operands)", and 35 "just after 8 at the same operand" (document 02, c).
unfoldable pub read_number : NumberRange → Token → Result ℤ
read_number r (number z) = read_decimal r z
read_number r (hex n) = read_pattern r n
read_number r (binary n) = read_pattern r n
read_number r (identifier s) = refused 8
read_number r (register o) = refused 8
read_number r (directive s) = refused 8
read_number r comma = refused 8
read_number r colon = refused 8
read_number r opening = refused 8
read_number r closing = refused 8
