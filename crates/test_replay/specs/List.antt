-- Reading a list: what its bytes say from a place on. A place past the list's end holds 0.
use Rattle.std.specs.Prelude.{ℕ, zero, suc, ◌+◌, ◌-◌, ◌*◌, ◌%◌, ◌^◌, min, Bool, true, false, ◌&&◌, ◌||◌, List, [], ◌∷◌, length, drop, ◌==◌, nat_le, nat_lt, slice_index, Option, Some, None}
use Rattle.test_replay.specs.declared.list.Number.{Number}
use Rattle.test_replay.specs.declared.list.Piece.{Piece}
use Rattle.test_replay.specs.declared.list.Spelled.{Spelled}

-- ---- places

-- The byte at a place.
abbrev pub byte_at : List ℕ → ℕ → ℕ
byte_at s at = slice_index s at

-- The place so many bytes behind a place. Places have 64 bits, and behind the last comes the first.
unfoldable pub behind : ℕ → ℕ → ℕ
behind at n = (at + n) % 2 ^ 64

-- A line's tag and a space stand at a place.
unfoldable pub has_tag : List ℕ → ℕ → ℕ → Bool
has_tag s at tag = byte_at s at == tag && byte_at s (behind at 1) == 32

-- An empty line or the list's end is at a place.
unfoldable pub is_record_end : List ℕ → ℕ → Bool
is_record_end s at = byte_at s at == 10 || at == length s

-- How many bytes go up to the end of the first empty line, or all where there is none; `front` is the byte in front of them.
unfoldable pub through_empty : ℕ → List ℕ → ℕ
through_empty front [] = 0
through_empty front (b ∷ s) = elim (front == 10 && b == 10) [ true ↦ 1 | false ↦ suc (through_empty b s) ]

-- Where the record behind the next empty line begins. What stands before the place does not count.
unfoldable pub next_record : List ℕ → ℕ → ℕ
next_record s from = from + through_empty 0 (drop from s)

-- ---- numbers

-- A value that a digit of a radix has.
abbrev pub below : ℕ → ℕ → Option ℕ
below radix d = elim (nat_lt d radix) [ true ↦ Some d | false ↦ None ]

-- The value of a digit of a radix, with a to f for 10 to 15.
unfoldable pub digit_value : ℕ → ℕ → Option ℕ
digit_value radix b =
    elim (nat_le 48 b && nat_le b 57) [
      | true ↦ below radix (b - 48)
      | false ↦ elim (nat_le 97 b && nat_le b 102) [ true ↦ below radix (b - 87) | false ↦ None ]
    ]

-- The values of the digits that a list begins with.
unfoldable pub digits : ℕ → List ℕ → List ℕ
digits radix [] = []
digits radix (b ∷ s) = elim (digit_value radix b) [ Some d ↦ d ∷ digits radix s | None ↦ [] ]

-- The value of digits, the highest first, behind those whose value is `a`.
unfoldable pub value_from : ℕ → ℕ → List ℕ → ℕ
value_from radix a [] = a
value_from radix a (d ∷ ds) = value_from radix (a * radix + d) ds

-- A value in 64 bits: the largest of them for one that does not fit.
unfoldable pub fitted : ℕ → ℕ
fitted n = min n (2 ^ 64 - 1)

-- The number at a place, and the place behind the byte that ends it.
unfoldable pub number_at : ℕ → List ℕ → ℕ → Number
number_at radix s from =
    let ds = digits radix (drop from s) in
    record { value = fitted (value_from radix 0 ds); next = behind (from + length ds) 1 }

-- ---- spelled bytes

-- A digit's value in hex; 0 for what is no digit.
unfoldable pub hex_digit : ℕ → ℕ
hex_digit b = elim (digit_value 16 b) [ Some d ↦ d | None ↦ 0 ]

-- The byte that two digits in hex spell, and the place behind them.
unfoldable pub hex_byte_at : List ℕ → ℕ → Spelled
hex_byte_at s at = record { byte = hex_digit (byte_at s at) * 16 + hex_digit (byte_at s (behind at 1)); next = behind at 2 }

-- A byte that stands for itself, or behind `\` one that two digits spell.
unfoldable pub unescaped_at : List ℕ → ℕ → Spelled
unescaped_at s at = elim (byte_at s at == 92) [ true ↦ hex_byte_at s (behind at 1) | false ↦ record { byte = byte_at s at; next = behind at 1 } ]

-- ---- lines

-- The bytes that a line spells from a place on, up to byte 10, and no more than `most`.
unfoldable pub line_bytes : ℕ → List ℕ → ℕ → List ℕ
line_bytes zero s at = []
line_bytes (suc most) s at = elim (byte_at s at == 10) [ true ↦ [] | false ↦ (unescaped_at s at).byte ∷ line_bytes most s (unescaped_at s at).next ]

-- The place behind their spelling.
unfoldable pub line_end : ℕ → List ℕ → ℕ → ℕ
line_end zero s at = at
line_end (suc most) s at = elim (byte_at s at == 10) [ true ↦ at | false ↦ line_end most s (unescaped_at s at).next ]

-- What goes into a room of so many bytes behind the first two: as much of the line as leaves a byte 10 its place.
unfoldable pub line_for : ℕ → List ℕ → ℕ → List ℕ
line_for size s from = line_bytes (size - 3) s from

-- Where that stands, and the place behind the line's byte 10.
unfoldable pub piece_for : ℕ → List ℕ → ℕ → Piece
piece_for size s from = record { start = 2; end = 2 + length (line_for size s from); next = behind (line_end (size - 3) s from) 1 }
