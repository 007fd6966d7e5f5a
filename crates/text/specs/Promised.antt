-- What the code's values mean in terms of the definitions, and what its functions answer.
use Rattle.std.specs.Prelude.{ℕ, zero, suc, ◌+◌, ◌-◌, ◌≤◌, ◌<◌, ◌≡◌, Bool, true, false, ◌||◌, List, [], ◌∷◌, ◌++◌, map, length, take, drop, get_or, replicate, eqb, ℤ, pos, nat_abs, Some, None, Ok, Err}
use Rattle.std.specs.Prelude.{Option as Maybe, Result as Answer}
use Rattle.std.proofs.Math.Option.{Option, none, some}
use Rattle.text_lexical.specs.Bytes.{Result, value, refused, digit, name_start, name_part, blank, margin, mark, run}
use Rattle.text_lexical.specs.Numbers.{minus}
use Rattle.text_lexical.specs.Names.{Name}
use Rattle.text_lexical.specs.Promised.{index_of, register_at, whole_meant, whole_for, range_meant}
use Rattle.text_lexical.specs.declared.number.Radix.{Radix}
use Rattle.text_lexical.specs.declared.number.Radix.TheVariants.{Binary as BinaryRadix, Decimal as DecimalRadix, Hex as HexRadix}
use Rattle.text_lexical.specs.declared.number.Whole.{Whole}
use Rattle.text_lexical.specs.declared.number.NumberRange.{NumberRange}
use Rattle.refusal.specs.Refusals.{refusal_at, answered}
use Rattle.refusal.specs.declared.refusal.Refusal.{Refusal}
use Rattle.refusal.specs.declared.refusal.Refusal.TheVariants.{BadToken}
use Rattle.text.specs.Tokens.{identifier, register, number, hex, binary, directive, comma, colon, opening, closing, Number as NumberClass, longest, mark_token, Sized, front}
use Rattle.text.specs.Tokens.{Token as Meant}
use Rattle.text.specs.Values.{read_number}
use Rattle.text.specs.Lines.{kept}
use Rattle.text.specs.Places.{left_at, end_at}
use Rattle.text.specs.declared.lexer.Kind.{Kind}
use Rattle.text.specs.declared.lexer.Kind.TheVariants.{Identifier, Register as RegisterKind, NoRegister, Number, Negative, Hex, Binary, Directive, Comma, Colon, LParen, RParen}
use Rattle.text.specs.declared.lexer.Token.{Token}
use Rattle.text.specs.declared.lexer.Scan.{Scan}
use Rattle.text.specs.declared.lexer.Scan.TheVariants.{Found, Bad, End}
use Rattle.text.specs.declared.parser.Line.{Line}
use Rattle.text.specs.declared.parser.NumberAt.{NumberAt}
use Rattle.text.specs.declared.reader.Reader.{Reader}

-- ---- numbers

-- What is answered for the number that is read of a token, or for its refusal.
abbrev pub extract_for : Result ℤ → Answer Whole Refusal
extract_for (value z) = Ok (whole_for z)
extract_for (refused n) = Err (refusal_at n)

abbrev pub extract_meant : Answer Whole Refusal → Result ℤ
extract_meant r = answered whole_meant r

-- ---- tokens

-- The token that a kind means, with its spelling.
abbrev pub kind_meant : Kind → List ℕ → Meant
kind_meant Identifier u = identifier u
kind_meant (RegisterKind r) u = register (some (index_of r))
kind_meant NoRegister u = register none
kind_meant (Number n) u = number (pos n)
kind_meant (Negative n) u = number (minus n)
kind_meant (Hex n) u = hex n
kind_meant (Binary n) u = binary n
kind_meant Directive u = directive (drop 1 u)
kind_meant Comma u = comma
kind_meant Colon u = colon
kind_meant LParen u = opening
kind_meant RParen u = closing

-- What is read of a kind as a number of a range, whatever its spelling: the number is in the kind.
abbrev pub extracted : NumberRange → Kind → Answer Whole Refusal
extracted r k = extract_for (read_number (range_meant r) (kind_meant k []))

-- The spelling of a token of a text, and the token that it means.
abbrev pub spelling : List ℕ → Token → List ℕ
spelling s t = take t.length (drop t.start s)

abbrev pub meant : List ℕ → Token → Meant
meant s t = kind_meant t.kind (spelling s t)

abbrev pub register_kind : Option ℕ → Kind
register_kind (some n) = RegisterKind (register_at n)
register_kind none = NoRegister

abbrev pub signed_kind : Bool → ℕ → Kind
signed_kind true n = Negative n
signed_kind false n = Number n

-- The kind of a number in a radix.
abbrev pub pattern_kind : Radix → ℕ → Kind
pattern_kind HexRadix n = Hex n
pattern_kind BinaryRadix n = Binary n
pattern_kind DecimalRadix n = Number n

-- The kind of a token, by its meaning and its spelling. A Number is negative exactly if its spelling begins with `-`: so is `-0`.
abbrev pub kind_for : Meant → List ℕ → Kind
kind_for (identifier v) u = Identifier
kind_for (register r) u = register_kind r
kind_for (number z) u = signed_kind (eqb (get_or u 0 0) 45) (nat_abs z)
kind_for (hex n) u = Hex n
kind_for (binary n) u = Binary n
kind_for (directive v) u = Directive
kind_for comma u = Comma
kind_for colon u = Colon
kind_for opening u = LParen
kind_for closing u = RParen

-- The kind of a token with a spelling, if it is one.
abbrev pub kind_made : List ℕ → Option Meant → Maybe Kind
kind_made u none = None
kind_made u (some t) = Some (kind_for t u)

-- The kind of the mark that a byte is, if it is one.
unfoldable pub mark_kind : ℕ → Maybe Kind
mark_kind b = elim (mark b) [ true ↦ kind_made (b ∷ []) (mark_token (b ∷ [])) | false ↦ None ]

-- Whether a kind is the mark of a byte.
abbrev pub mark_of_byte : Kind → ℕ → Bool
mark_of_byte Comma b = eqb b 44
mark_of_byte Colon b = eqb b 58
mark_of_byte LParen b = eqb b 40
mark_of_byte RParen b = eqb b 41
mark_of_byte Identifier b = false
mark_of_byte (RegisterKind r) b = false
mark_of_byte NoRegister b = false
mark_of_byte (Number n) b = false
mark_of_byte (Negative n) b = false
mark_of_byte (Hex n) b = false
mark_of_byte (Binary n) b = false
mark_of_byte Directive b = false

-- ---- where a line ends

-- Where the line ends, if nothing is left to read of it from a place on.
unfoldable pub ending_at : List ℕ → ℕ → Maybe ℕ
ending_at s at = elim (left_at s at) [ [] ↦ Some (end_at s at) | b ∷ l ↦ None ]

-- ---- the next token of a line

-- A token of so many bytes at a place, and the place after it; or none.
abbrev pub found_at : List ℕ → ℕ → Option Sized → Scan
found_at s at none = Bad
found_at s at (some t) = Found (record { kind = kind_for t.token (take t.size (drop at s)); start = at; length = t.size }) (at + t.size)

-- The token that what is left of the line begins with, by a set of names.
unfoldable pub token_at : List Name → List ℕ → ℕ → Scan
token_at names s at = found_at s at (front names (left_at s at))

-- What stands at a place: a token, or something that is none; where nothing is left, the line's end.
unfoldable pub stands_at : List Name → List ℕ → ℕ → Scan
stands_at names s at = elim (left_at s at) [ [] ↦ End (end_at s at) | b ∷ l ↦ token_at names s at ]

-- The place past the blanks from a place on.
abbrev pub past : List ℕ → ℕ → ℕ
past s from = from + run blank (drop from s)

-- What is found next from a place on.
unfoldable pub scan_at : List Name → List ℕ → ℕ → Scan
scan_at names s from = stands_at names s (past s from)

-- The whole number of a token that is found, and the place after it; none where no token is found, or one that is no number of the range.
abbrev pub number_with : Answer Whole Refusal → ℕ → Maybe NumberAt
number_with (Ok w) next = Some (record { number = w; end = next })
number_with (Err r) next = None

abbrev pub number_of : NumberRange → Scan → Maybe NumberAt
number_of r (Found t next) = number_with (extracted r t.kind) next
number_of r Bad = None
number_of r (End e) = None

-- The whole number of a range whose token stands at a place, by a set of names.
unfoldable pub number_at : List Name → List ℕ → ℕ → NumberRange → Maybe NumberAt
number_at names s at r = number_of r (token_at names s at)

-- The length of a token that is found, if it is an Identifier.
abbrev pub length_with : Kind → ℕ → Maybe ℕ
length_with Identifier n = Some n
length_with k n = None

abbrev pub length_of : Scan → Maybe ℕ
length_of (Found t next) = length_with t.kind t.length
length_of Bad = None
length_of (End e) = None

-- The length of the Identifier that stands at a place, by a set of names.
unfoldable pub identifier_length : List Name → List ℕ → ℕ → Maybe ℕ
identifier_length names s at = length_of (token_at names s at)

-- Where the name at a place ends, if its first byte is a name's.
unfoldable pub name_end : List ℕ → ℕ → Maybe ℕ
name_end s at = elim (name_start (get_or s at 0)) [ true ↦ Some (at + 1 + run name_part (drop (at + 1) s)) | false ↦ None ]

-- A number's first byte: a digit or `-`.
unfoldable pub number_start : ℕ → Bool
number_start b = digit b || eqb b 45

-- The token at a place, if the byte there is a first byte of such a token.
unfoldable pub scan_if : (ℕ → Bool) → List Name → List ℕ → ℕ → Maybe Scan
scan_if p names s at = elim (p (get_or s at 0)) [ true ↦ Some (token_at names s at) | false ↦ None ]

-- Decimal digits at a place, which no longer match begins.
pub record IsDecimal (names : List Name) (s : List ℕ) (at : ℕ) : Type 0 where
  pub in_text : at < length s
  pub is_digit : digit (get_or s at 0) ≡ true
  pub is_number : longest names (drop at s) (length (drop at s)) ≡ some (record { size = run digit (drop at s); class = NumberClass })

-- The byte after the `0` of a number that is not decimal.
abbrev pub PrefixIs : Radix → ℕ → Type 0
PrefixIs HexRadix b = b ≡ 120
PrefixIs BinaryRadix b = b ≡ 98
PrefixIs DecimalRadix b = ⊥

pub record Prefixed (s : List ℕ) (at : ℕ) (radix : Radix) : Type 0 where
  pub in_text : at + 1 < length s
  pub is_zero : get_or s at 0 ≡ 48
  pub is_prefix : PrefixIs radix (get_or s (at + 1) 0)

-- At a place stands no blank, and neither a word nor a directive nor a number begins there.
pub record NoWord (s : List ℕ) (at : ℕ) : Type 0 where
  pub no_blank : blank (get_or s at 0) ≡ false
  pub no_start : name_start (get_or s at 0) ≡ false
  pub no_dot : get_or s at 0 ≡ 46 → ⊥
  pub no_number : number_start (get_or s at 0) ≡ false

-- ---- the reader

-- Where it reads on: after a token, and else where it was.
abbrev pub place_after : Scan → ℕ → ℕ
place_after (Found t next) from = next
place_after Bad from = from
place_after (End e) from = from

-- What it holds once it has answered.
abbrev pub moved : Reader → Scan → Reader
moved d r = record { text = d.text; position = place_after r d.position }

-- ---- the record of a line

abbrev pub infront_of : Token → Option (List Token) → Option (List Token)
infront_of t none = none
infront_of t (some ts) = some (t ∷ ts)

-- What is found next, and the tokens from the place after it on.
abbrev pub followed : Scan → (ℕ → Option (List Token)) → Option (List Token)
followed (Found t next) rest = infront_of t (rest next)
followed Bad rest = none
followed (End e) rest = some []

-- The tokens of a line from a place on, one after the other, up to the n-th; none: a bad token.
unfoldable pub tokens_from : List Name → ℕ → List ℕ → ℕ → Option (List Token)
tokens_from names zero s at = some []
tokens_from names (suc n) s at = followed (scan_at names s at) (tokens_from names n s)

-- All of them: each takes a byte at least, so that there are no more than bytes.
abbrev pub all_from : List Name → List ℕ → ℕ → Option (List Token)
all_from names s at = tokens_from names (suc (length s)) s at

-- What fills the places that no token takes.
abbrev pub filler : Token
filler = record { kind = Comma; start = 0; length = 0 }

-- The places of a record: the line's first tokens, and what fills the places after them.
unfoldable pub first_kept : List Token → List Token
first_kept ts = take kept ts ++ replicate (kept - length ts) filler

-- The record of the line from a place on that has these tokens, unless one is bad.
abbrev pub line_with : List ℕ → ℕ → Option (List Token) → Answer Line Refusal
line_with s from none = Err BadToken
line_with s from (some ts) = Ok (record { tokens = first_kept ts; count = length ts; end = end_at s from })

-- The record of the line from a place on, whose tokens begin after its margin.
unfoldable pub record_at : List Name → List ℕ → ℕ → Answer Line Refusal
record_at names s from = line_with s from (all_from names s (from + run margin (drop from s)))

-- The tokens that a record keeps: of its places the first `count`, so all of them where there are more.
abbrev pub firsts : List ℕ → List Token → ℕ → List Meant
firsts s ts count = map (meant s) (take count ts)

-- What a line's record promises of its tokens: there are as many as a line keeps, and each is a part of the text.
pub record Kept (s : List ℕ) (l : Line) : Type 0 where
  pub places : length l.tokens ≡ kept
  pub inside_text : (i : ℕ) → (get_or l.tokens i filler).start + (get_or l.tokens i filler).length ≤ length s
