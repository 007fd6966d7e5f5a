-- Laws of bytes written one after the other, of bytes copied into a buffer, and of the bytes of a number.
use mathlib.Core.Path.{◌≡◌, refl, ap₂}
use mathlib.Core.List.{List, [], ◌∷◌}
use Prim.Native.Nat.{ℕ, ◌+◌, ◌-◌, ◌/◌, ◌%◌}
use native.Mathlib.Omega.{arith}
use lib.ListN.{length}
use lib.Seq.{drop-drop}
use borrow.Rule.Slice.PartMut.{put_mid}
use Rattle.std.specs.Int.{to_le_bytes, w32}
use Rattle.text_lexical.specs.Numbers.{little}
use Rattle.text_writer.specs.Promised.{put, Written}
-- The laws of texts in a buffer stand next to those of the sinks, which are specs.
pub use Rattle.text_writer.specs.Laws.{put-none, put_byte, put-length, put-append}
pub use Rattle.text_writer.specs.Laws.{written_none, written_byte, written-length, written-append, room-before, room-behind}

-- ---- bytes, all at once

-- Bytes that are copied into as many of a buffer's are written there.
pub written-copied : (l : List ℕ) (at : ℕ) (s t : List ℕ) → t ≡ s → Written l at s (at + length s) (put_mid at (at + length s - at) l t)
unfolding put
written-copied l at s t e =
    let k : at + length s - at ≡ length s = omega arith in
    record { ends = refl; holds = rw (e, k, drop-drop (length s) at l) refl }

-- ---- the bytes of a number

-- The bytes of a number of 32 bits.
pub little-four : (v : ℕ) → to_le_bytes w32 v ≡ little 4 v
unfolding little
little-four v =
    let a : v / 65536 % 256 ≡ v / 256 / 256 % 256 = omega arith in
    let b : v / 16777216 % 256 ≡ v / 256 / 256 / 256 % 256 = omega arith in
    ap₂ (λ (x y : ℕ). v % 256 ∷ v / 256 % 256 ∷ x ∷ y ∷ []) a b
