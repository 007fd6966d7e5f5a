-- Tokens: the byte strings of each class, the longest match, and what a match means. Quotations are document 01's.
use Rattle.std.specs.Prelude.{ℕ, zero, suc, pred, ◌^◌, Bool, true, false, List, [], ◌∷◌, length, take, drop, leb, ltb, eqb, ℤ, pos}
use Rattle.std.proofs.Math.Option.{Option, none, some}
use Rattle.text_lexical.specs.Bytes.{digit, hex_digit, binary_digit, blank, mark, name_start, name_part, every, one_or_more, find, is_some}
use Rattle.text_lexical.specs.Numbers.{value_of, minus}
use Rattle.text_lexical.specs.Names.{Name, named}

-- ---- the classes

-- "Identifier: letter or `_`, then letters, digits, `_`."
unfoldable pub is_identifier : List ℕ → Bool
is_identifier [] = false
is_identifier (b ∷ s) = elim (name_start b) [ true ↦ every name_part s | false ↦ false ]

-- Register: a spelling of the name set.
unfoldable pub is_register : List Name → List ℕ → Bool
is_register names s = is_some (named names s)

-- "Number: optional `-`, digits"
unfoldable pub is_number : List ℕ → Bool
is_number [] = false
is_number (b ∷ s) = elim (eqb b 45) [ true ↦ one_or_more digit s | false ↦ one_or_more digit (b ∷ s) ]

-- `0`, the letter, and digits of the class
unfoldable pub is_prefixed : ℕ → (ℕ → Bool) → List ℕ → Bool
is_prefixed x p [] = false
is_prefixed x p (a ∷ []) = false
is_prefixed x p (a ∷ b ∷ s) = elim (eqb a 48) [ true ↦ elim (eqb b x) [ true ↦ one_or_more p s | false ↦ false ] | false ↦ false ]

-- "Hex: `0x` and hex digits"
abbrev pub is_hex : List ℕ → Bool
is_hex s = is_prefixed 120 hex_digit s

-- "Binary: `0b` and 0/1"
abbrev pub is_binary : List ℕ → Bool
is_binary s = is_prefixed 98 binary_digit s

-- "Directive: `.` and an Identifier's spelling, register names included (`.r1`)."
unfoldable pub is_directive : List ℕ → Bool
is_directive [] = false
is_directive (b ∷ s) = elim (eqb b 46) [ true ↦ is_identifier s | false ↦ false ]

-- "Also `, : ( )`."
unfoldable pub is_mark : List ℕ → Bool
is_mark [] = false
is_mark (b ∷ []) = mark b
is_mark (b ∷ c ∷ s) = false

pub data Class : Type 0 where
  Register Identifier Number Hex Binary Directive Mark : Class

unfoldable pub is_in : List Name → Class → List ℕ → Bool
is_in names Register s = is_register names s
is_in names Identifier s = is_identifier s
is_in names Number s = is_number s
is_in names Hex s = is_hex s
is_in names Binary s = is_binary s
is_in names Directive s = is_directive s
is_in names Mark s = is_mark s

-- "Register beats Identifier at equal length", so it stands before it.
unfoldable pub classes : List Class
classes = Register ∷ Identifier ∷ Number ∷ Hex ∷ Binary ∷ Directive ∷ Mark ∷ []

-- The first class that a byte string is in.
unfoldable pub class_of : List Name → List ℕ → Option Class
class_of names s = find (λ c. is_in names c s) classes

-- ---- "The longest match wins"

pub record Match : Type 0 where
  pub size : ℕ
  pub class : Class

-- The longest that is in a class, of the beginnings of s with k bytes or fewer.
unfoldable pub longest : List Name → List ℕ → ℕ → Option Match
longest names s zero = none
longest names s (suc k) =
    elim (class_of names (take (suc k) s)) [ some c ↦ some (record { size = suc k; class = c }) | none ↦ longest names s k ]

-- ---- what a match means

pub data Token : Type 0 where
  identifier : List ℕ → Token
  -- the register's number; none: the name names no register
  register : Option ℕ → Token
  number : ℤ → Token
  hex binary : ℕ → Token
  -- the spelling after the dot
  directive : List ℕ → Token
  comma colon opening closing : Token

unfoldable pub within : Bool → Token → Option Token
within true t = some t
within false t = none

-- Number: "within i64", that is from -2^63 to 2^63 - 1.
unfoldable pub number_token : List ℕ → Option Token
number_token [] = none
number_token (b ∷ s) =
    elim (eqb b 45) [
      | true ↦ within (leb (value_of 10 s) (2 ^ 63)) (number (minus (value_of 10 s)))
      | false ↦ within (ltb (value_of 10 (b ∷ s)) (2 ^ 63)) (number (pos (value_of 10 (b ∷ s))))
    ]

-- Hex and Binary: "both below 2^64"
unfoldable pub pattern_token : (ℕ → Token) → ℕ → List ℕ → Option Token
pattern_token kind radix s = within (ltb (value_of radix (drop 2 s)) (2 ^ 64)) (kind (value_of radix (drop 2 s)))

unfoldable pub register_token : Option Name → Option Token
register_token none = none
register_token (some n) = some (register n.number)

unfoldable pub mark_token : List ℕ → Option Token
mark_token [] = none
mark_token (b ∷ s) =
    elim (eqb b 44) [
      | true ↦ some comma
      | false ↦ elim (eqb b 58) [
        | true ↦ some colon
        | false ↦ elim (eqb b 40) [ true ↦ some opening | false ↦ some closing ]
      ]
    ]

-- The token that a byte string of a class means; none: "A value too large is a bad token".
unfoldable pub token_of : List Name → Class → List ℕ → Option Token
token_of names Register s = register_token (named names s)
token_of names Identifier s = some (identifier s)
token_of names Number s = number_token s
token_of names Hex s = pattern_token hex 16 s
token_of names Binary s = pattern_token binary 2 s
token_of names Directive s = some (directive (drop 1 s))
token_of names Mark s = mark_token s

-- ---- the tokens of a text

-- A token, and how many bytes it takes.
pub record Sized : Type 0 where
  pub token : Token
  pub size : ℕ

unfoldable pub sized : ℕ → Option Token → Option Sized
sized n none = none
sized n (some t) = some (record { token = t; size = n })

unfoldable pub matched : List Name → List ℕ → Option Match → Option Sized
matched names s none = none
matched names s (some m) = sized m.size (token_of names m.class (take m.size s))

-- The token that a text begins with; none: "Anything else is a bad token."
unfoldable pub front : List Name → List ℕ → Option Sized
front names s = matched names s (longest names s (length s))

unfoldable pub infront : Token → Option (List Token) → Option (List Token)
infront t none = none
infront t (some ts) = some (t ∷ ts)

-- The tokens of a text, of which the first n bytes belong to a token that is read already; none: a bad token in it.
unfoldable pub tokens_past : List Name → ℕ → List ℕ → Option (List Token)
tokens_past names n [] = some []
tokens_past names (suc n) (b ∷ s) = tokens_past names n s
tokens_past names zero (b ∷ s) =
    elim (blank b) [
      | true ↦ tokens_past names zero s
      | false ↦ elim (front names (b ∷ s)) [ none ↦ none | some t ↦ infront t.token (tokens_past names (pred t.size) s) ]
    ]

unfoldable pub tokens : List Name → List ℕ → Option (List Token)
tokens names s = tokens_past names 0 s
