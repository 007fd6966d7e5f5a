-- When a buffer that was filled, and lent in part, has just what it has to have.
use Rattle.std.specs.Prelude.{ℕ, ◌+◌, ◌%◌, Bool, true, false, ◌&&◌, List, length, take, ◌==◌, nat_le, nat_lt, slice_index_or}
use Rattle.std.specs.List.{list_all, enumerate_from}

-- What stands at a place before a buffer is lent.
unfoldable pub filler_at : ℕ → ℕ
filler_at at = 128 + at % 127

-- What has to stand at a place of a buffer that has these bytes, and is as it was filled after them.
unfoldable pub buffer_byte : List ℕ → ℕ → ℕ
buffer_byte bytes i = elim (nat_lt i (length bytes)) [ true ↦ slice_index_or bytes i 0 | false ↦ filler_at i ]

-- The buffer is so up to a place, up to which it and the bytes go.
unfoldable pub holds_bytes : List ℕ → List ℕ → ℕ → Bool
holds_bytes room bytes count =
    nat_le count (length room)
    && nat_le (length bytes) count
    && list_all (λ p. p.1 == buffer_byte bytes p.0) (enumerate_from 0 (take count room))
