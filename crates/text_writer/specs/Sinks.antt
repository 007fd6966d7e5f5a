-- What takes a text piece by piece: what every such sink keeps, and the two that there are.
use Rattle.std.specs.Prelude.{ℕ, ◌+◌, ◌-◌, ◌^◌, ◌≤◌, max, min, ⊤, ◌≡◌, List, [], ◌++◌, length}
use Rattle.text_writer.specs.Promised.{Written}
use Rattle.text_writer.specs.declared.sink.Length.{Length}
use Rattle.text_writer.specs.declared.sink.Writer.{Writer}

-- Pieces that fit together fit one after the other, and are then one text.
pub record SinkLaws {S : Type 0} (Fits : S → List ℕ → Type 0) (Took : S → List ℕ → S → Type 0) : Type 0 where
  pub fits_front : (s : S) (a b : List ℕ) → Fits s (a ++ b) → Fits s a
  pub fits_after : (s : S) (a : List ℕ) (t : S) (b : List ℕ) → Fits s (a ++ b) → Took s a t → Fits t b
  pub took_none : (s : S) → Took s [] s
  pub took_append : (s : S) (a : List ℕ) (t : S) (b : List ℕ) (u : S) → Fits s (a ++ b) → Took s a t → Took t b u → Took s (a ++ b) u

-- ---- a length

-- Every text may be counted.
abbrev pub HasLength : Length → List ℕ → Type 0
HasLength s text = ⊤

-- So much more, as long as it is a number of 64 bits, and then the largest of these.
abbrev pub lengthened : ℕ → ℕ → ℕ
lengthened n k = max n (min (n + k) (2 ^ 64 - 1))

-- As many bytes more as a text has.
abbrev pub Counted : Length → List ℕ → Length → Type 0
Counted s text t = t.length ≡ lengthened s.length (length text)

-- ---- a buffer

-- There is room for a text behind the place.
abbrev pub HasRoom : Writer → List ℕ → Type 0
HasRoom s text = s.at + length text ≤ length s.out.now

-- A text was written at the place, and the next is written behind it, into the same buffer.
pub record WrittenOn (s : Writer) (text : List ℕ) (t : Writer) : Type 0 where
  pub written : Written s.out.now s.at text t.at t.out.now
  pub same_buffer : t.out.ghost_name ≡ s.out.ghost_name
