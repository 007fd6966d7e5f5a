-- A label is spelled as the part of the source that its line's content begins with, and takes a byte at least.
use Prim.Native.Nat.{ℕ, ◌+◌, ◌<◌}
use mathlib.Core.Path.{◌≡◌, sym}
use mathlib.Core.Option.{some}
use mathlib.Core.List.{List}
use lib.ListN.{length, take, drop}
use Rattle.text_lexical.specs.Bytes.{inside}
use Rattle.text_lexical.specs.Names.{Name}
use Rattle.text.specs.Lines.{indent}
use Rattle.text.specs.Places.{rest_at}
use Rattle.text.proofs.Parts.{before-front}
use Rattle.image.specs.Settings.{Settings}
use Rattle.image.proofs.Spelled.{label-front, line-spelled}
use Rattle.image_passes.specs.Promised.{read_at}

module _ (names : List Name) (s : List ℕ) (at : ℕ) (setup : Settings) (u : List ℕ) (e : (read_at names s at setup).label ≡ some u) where
  pub label-part : u ≡ take (length u) (drop (at + indent (rest_at s at)) s)
  unfolding rest_at
  label-part = sym (line-spelled names (record { setup = setup }) s at (rest_at s at) u 0 (before-front inside (drop at s)) e).spells

  pub label-solid : 0 < length u
  label-solid = (label-front names (record { setup = setup }) (rest_at s at) u e).1
