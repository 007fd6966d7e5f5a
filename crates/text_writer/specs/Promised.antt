-- What a writer leaves in a buffer.
use Rattle.std.specs.Prelude.{ℕ, ◌+◌, ◌≡◌, List, ◌++◌, length, take, drop}

-- A buffer in which a text was put at a place.
unfoldable pub put : List ℕ → ℕ → List ℕ → List ℕ
put old at text = take at old ++ (text ++ drop (at + length text) old)

-- A text was written at a place: where it ends, and the buffer afterwards.
pub record Written (old : List ℕ) (at : ℕ) (text : List ℕ) (end : ℕ) (new : List ℕ) : Type 0 where
  pub ends : end ≡ at + length text
  pub holds : new ≡ put old at text
