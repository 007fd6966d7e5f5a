-- When the record of a line is what the list has for it. The list's format is described in oracle/README.md, which is quoted.
use Rattle.std.specs.Prelude.{ℕ, zero, suc, ◌+◌, ◌%◌, ◌^◌, Bool, ◌&&◌, List, [], ◌∷◌, ◌==◌, eqb, Result, Ok, Err}
use Rattle.text_lexical.specs.Promised.{index_of}
use Rattle.text.specs.declared.lexer.Kind.{Kind}
use Rattle.text.specs.declared.lexer.Kind.TheVariants.{Identifier, Register, NoRegister, Number, Negative, Hex, Binary, Directive, Comma, Colon, LParen, RParen}
use Rattle.text.specs.declared.lexer.Token.{Token}
use Rattle.text.specs.declared.parser.Line.{Line}
use Rattle.refusal.specs.Refusals.{number_of}
use Rattle.refusal.specs.declared.refusal.Refusal.{Refusal}
use Rattle.test_replay.specs.declared.list.Piece.{Piece}
use Rattle.test_replay.specs.List.{byte_at, behind, number_at, is_record_end}
use Rattle.test_tokens.specs.declared.list.Entry.{Entry}
use Rattle.test_tokens.specs.declared.list.Spelling.{Spelling}

-- ---- tokens

-- A kind's letter and number: "VALUE is a number's magnitude, a register's number (16 for `a5`, which names none), otherwise 0".
unfoldable pub spelling_of : Kind → Spelling
spelling_of Identifier = record { letter = 105; value = 0 }
spelling_of (Register r) = record { letter = 114; value = index_of r }
spelling_of NoRegister = record { letter = 114; value = 16 }
spelling_of (Number n) = record { letter = 110; value = n }
spelling_of (Negative n) = record { letter = 109; value = n }
spelling_of (Hex n) = record { letter = 104; value = n }
spelling_of (Binary n) = record { letter = 98; value = n }
spelling_of Directive = record { letter = 100; value = 0 }
spelling_of Comma = record { letter = 44; value = 0 }
spelling_of Colon = record { letter = 58; value = 0 }
spelling_of LParen = record { letter = 40; value = 0 }
spelling_of RParen = record { letter = 41; value = 0 }

-- A token that was read, as the list would have it.
unfoldable pub entry_of : Token → Entry
entry_of t =
    record { tag = 107; kind = (spelling_of t.kind).letter; start = t.start; length = t.length; value = (spelling_of t.kind).value }

-- `k KIND START LENGTH VALUE` at a place, for a line that begins at `from` of the text: "START counts from the line's first byte".
unfoldable pub entry_at : List ℕ → ℕ → ℕ → Entry
entry_at s at from =
    let start = number_at 10 s (behind at 4) in
    let size = number_at 10 s start.next in
    record {
      tag = byte_at s at;
      kind = byte_at s (behind at 2);
      start = (start.value + from) % 2 ^ 64;
      length = size.value;
      value = (number_at 10 s size.next).value;
    }

-- The place after that line.
unfoldable pub entry_end : List ℕ → ℕ → ℕ
entry_end s at = (number_at 10 s (number_at 10 s (number_at 10 s (behind at 4)).next).next).next

-- What stands in a place that no token takes, where the list has nothing: a comma of no length.
abbrev pub filler : Entry
filler = record { tag = 107; kind = 44; start = 0; length = 0; value = 0 }

-- Two such tokens are one, each field of them.
abbrev pub same_entry : Entry → Entry → Bool
same_entry held e =
    held.tag == e.tag
    && held.kind == e.kind
    && held.start == e.start
    && held.length == e.length
    && held.value == e.value

-- ---- lines

-- The places of a line hold the tokens that the list has from a place on, as many as are left, and then fillers; and there the list's record
-- ends.
unfoldable pub same_tokens : ℕ → ℕ → List Token → List ℕ → ℕ → Bool
same_tokens left from [] s at = is_record_end s at
same_tokens zero from (t ∷ ts) s at = same_entry (entry_of t) filler && same_tokens zero from ts s at
same_tokens (suc left) from (t ∷ ts) s at = same_entry (entry_of t) (entry_at s at from) && same_tokens left from ts s (entry_end s at)

-- What is read of a line is what the list has after it: "`b`: a token of it is bad"; "`n COUNT`: or all its tokens, then the first nine of them". No line is
-- refused for anything else.
unfoldable pub same_line : Result Line Refusal → Piece → List ℕ → Bool
same_line (Ok l) p s =
    let count = number_at 10 s (behind p.next 2) in
    (byte_at s p.next == 110) && l.count == count.value && l.end == p.end && same_tokens l.count p.start l.tokens s count.next
same_line (Err r) p s = eqb (number_of r) 3 && byte_at s p.next == 98 && is_record_end s (behind p.next 2)
