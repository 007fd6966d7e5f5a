-- When a text and a refusal are what the list has. The list's format is described in oracle/README.md.
use Rattle.std.specs.Prelude.{ℕ, ◌+◌, ◌-◌, Bool, true, false, ◌&&◌, List, length, ◌==◌, nat_le, nat_lt}
use Rattle.test_replay.specs.List.{byte_at, behind, has_tag, is_record_end, number_at}
use Rattle.std.specs.List.{list_all, enumerate_from}
use Rattle.test_words.specs.declared.calls.Text.{Text}
use Rattle.test_replay.specs.declared.tally.Outcome.{Outcome}
use Rattle.test_replay.specs.declared.tally.Outcome.TheVariants.{Differs, Refused}

-- ---- texts

-- What has to stand at a place of the room: after eight `$` the `count` bytes that the list has from a place on, and then `$`.
unfoldable pub room_byte : ℕ → List ℕ → ℕ → ℕ → ℕ
room_byte count s at i = elim (nat_le 8 i && nat_lt (i - 8) count) [ true ↦ byte_at s (behind at (i - 8)) | false ↦ 36 ]

-- The room has room for it all, and has just that; and there the list's line ends.
unfoldable pub holds_text : List ℕ → ℕ → List ℕ → ℕ → Bool
holds_text room count s at =
    nat_le (8 + count) (length room)
    && byte_at s (behind at count) == 10
    && list_all (λ p. p.1 == room_byte count s at p.0) (enumerate_from 0 room)

-- The room has a text, said to be as long as it is, and the list's line at a place has it under this tag.
unfoldable pub same_text : List ℕ → Text → ℕ → List ℕ → ℕ → Bool
same_text room text tag s at =
    (text.end == behind 8 text.length) && has_tag s at tag && holds_text room text.length s (behind at 2)

-- ---- refusals

-- A refusal is `r NUMBER` at a place of the list, and there the record ends; else the record differs.
unfoldable pub refusal_at : ℕ → List ℕ → ℕ → Outcome
refusal_at number s at =
    let wanted = number_at 10 s (behind at 2) in
    elim (has_tag s at 114 && wanted.value == number && is_record_end s wanted.next) [ true ↦ Refused number | false ↦ Differs ]
