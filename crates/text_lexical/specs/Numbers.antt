-- Numbers: the value of digits, reduction modulo a power of two, the signed reading of a field, ranges, printed decimals, and
-- numbers as little-endian bytes. Quotations are document 01's, and document 02's where it is named.
use Rattle.std.specs.Prelude.{ℕ, zero, suc, ◌+◌, ◌-◌, ◌*◌, ◌/◌, ◌%◌, ◌^◌, Bool, true, false, List, [], ◌∷◌, ◌++◌, leb, ltb, ℤ, pos, negsuc}

-- ---- digits

-- A digit's value: 0 to 9, and 10 to 15 for a to f and A to F.
unfoldable pub digit_value : ℕ → ℕ
digit_value b = elim (leb b 57) [ true ↦ b - 48 | false ↦ elim (leb b 70) [ true ↦ b - 55 | false ↦ b - 87 ] ]

-- The value of digits, the highest first, behind those whose value is `a`.
unfoldable pub value_from : ℕ → ℕ → List ℕ → ℕ
value_from radix a [] = a
value_from radix a (d ∷ ds) = value_from radix (a * radix + digit_value d) ds

-- The value of digits. "leading zeros don't count"
unfoldable pub value_of : ℕ → List ℕ → ℕ
value_of radix ds = value_from radix 0 ds

-- ---- whole numbers

-- -n. (ℤ is the library's: `pos n` is n, `negsuc n` is -(n + 1).)
unfoldable pub minus : ℕ → ℤ
minus zero = pos zero
minus (suc n) = negsuc n

unfoldable pub is_negative : ℤ → Bool
is_negative (pos n) = false
is_negative (negsuc n) = true

-- What a whole number leaves modulo 2^k, from 0 to 2^k - 1, for any width k.
unfoldable pub residue : ℕ → ℤ → ℕ
residue k (pos n) = n % 2 ^ k
residue k (negsuc n) = 2 ^ k - suc (n % 2 ^ k)

-- The number that k bits mean: "signed over 17 or 21 bits", or from 0 on.
unfoldable pub meant_by : Bool → ℕ → ℕ → ℤ
meant_by false k v = pos v
meant_by true k v = elim (ltb (v + v) (2 ^ k)) [ true ↦ pos v | false ↦ negsuc (2 ^ k - suc v) ]

-- ---- ranges

-- The numbers of a field: so many bits, and whether they have a sign.
pub record NumberRange : Type 0 where
  pub width : ℕ
  pub signed : Bool

-- Whether a number is one of so many bits with a sign: "signed 17 bits" (document 02, a), "-65,536..65,535" (c);
unfoldable pub is_signed : ℕ → ℤ → Bool
is_signed width (pos n) = ltb n (2 ^ (width - 1))
is_signed width (negsuc n) = ltb n (2 ^ (width - 1))

-- and without one: "0..255" (c).
unfoldable pub is_unsigned : ℕ → ℤ → Bool
is_unsigned width (pos n) = ltb n (2 ^ width)
is_unsigned width (negsuc n) = false

unfoldable pub lies_in : NumberRange → ℤ → Bool
lies_in r z = elim r.signed [ true ↦ is_signed r.width z | false ↦ is_unsigned r.width z ]

-- ---- printed decimals

-- n < 10^(k+1) in decimal, with no leading zero.
unfoldable pub decimal_in : ℕ → ℕ → List ℕ
decimal_in zero n = (48 + n % 10) ∷ []
decimal_in (suc k) n = elim (ltb n 10) [ true ↦ (48 + n % 10) ∷ [] | false ↦ decimal_in k (n / 10) ++ ((48 + n % 10) ∷ []) ]

-- "decimal numbers"; n is below 10^(n+1).
unfoldable pub decimal : ℕ → List ℕ
decimal n = decimal_in n n

unfoldable pub signed_decimal : ℤ → List ℕ
signed_decimal (pos n) = decimal n
signed_decimal (negsuc n) = 45 ∷ decimal (suc n)

-- ---- little-endian bytes

-- The k lowest bytes of n, the lowest first.
unfoldable pub little : ℕ → ℕ → List ℕ
little zero n = []
little (suc k) n = n % 256 ∷ little k (n / 256)

-- The number of such bytes.
unfoldable pub unlittle : List ℕ → ℕ
unlittle [] = 0
unlittle (b ∷ s) = b + 256 * unlittle s
