-- What a line is, by its first tokens: a label, a directive, an instruction, or nothing. Quotations are document 01's.
use Rattle.std.specs.Prelude.{ℕ, true, false, List, [], ◌∷◌, eqb}
use Rattle.text_lexical.specs.Bytes.{bytes, same}
use Rattle.text.specs.Tokens.{Token, identifier, register, number, hex, binary, directive, comma, colon, opening, closing}
use Rattle.instruction.specs.Operands.{mark_byte}

pub data Kind : Type 0 where
  -- "Empty lines do nothing."
  empty : Kind
  -- "Identifier then colon is a label"
  labelled : (spelling : List ℕ) → Kind
  -- "A first token `.config` (that case only)"
  config : Kind
  -- "other directives do nothing"
  ignored : Kind
  -- "Otherwise the line is an instruction"
  plain : Kind

-- A first token that is an Identifier: a label if a colon is next.
unfoldable pub identifier_kind : List ℕ → List Token → Kind
identifier_kind s [] = plain
identifier_kind s (t ∷ ts) = elim (eqb (mark_byte t) 58) [ true ↦ labelled s | false ↦ plain ]

unfoldable pub kind_of : List Token → Kind
kind_of [] = empty
kind_of (identifier s ∷ ts) = identifier_kind s ts
kind_of (directive d ∷ ts) = elim (same d (bytes "config")) [ true ↦ config | false ↦ ignored ]
kind_of (register r ∷ ts) = plain
kind_of (number z ∷ ts) = plain
kind_of (hex n ∷ ts) = plain
kind_of (binary n ∷ ts) = plain
kind_of (comma ∷ ts) = plain
kind_of (colon ∷ ts) = plain
kind_of (opening ∷ ts) = plain
kind_of (closing ∷ ts) = plain
