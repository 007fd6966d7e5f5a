-- A line where it stands in a text, as the code reads it: from a place on, up to byte 10 or the text's end.
use Rattle.std.specs.Prelude.{ℕ, ◌+◌, ◌≤◌, ◌<◌, ◌≡◌, List, length, drop, get_or}
use Rattle.text_lexical.specs.Bytes.{inside, before}
use Rattle.text.specs.Lines.{trim_end, cut, indent}

-- The line's bytes from a place on.
unfoldable pub rest_at : List ℕ → ℕ → List ℕ
rest_at s at = before inside (drop at s)

-- What there is to read of them: cut at the first `#`, the end trimmed.
unfoldable pub left_at : List ℕ → ℕ → List ℕ
left_at s at = trim_end (cut (rest_at s at))

-- Where the line ends.
unfoldable pub end_at : List ℕ → ℕ → ℕ
end_at s at = at + length (rest_at s at)

-- No comment begins from one place up to another.
abbrev pub Uncut : List ℕ → ℕ → ℕ → Type 0
Uncut s from to = (i : ℕ) → from ≤ i → i < to → get_or s i 0 ≡ 35 → ⊥

-- The content of a line starts at a place: no margin stands there.
pub record StartsAt (s : List ℕ) (at : ℕ) : Type 0 where
  pub in_text : at ≤ length s
  pub no_indent : indent (rest_at s at) ≡ 0
