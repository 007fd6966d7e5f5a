-- What a line that has a label begins with.
use mathlib.Core.Path.{◌≡◌, refl, ap}
use Prim.Native.Nat.{ℕ}
use mathlib.Core.Bool.{Bool, true, false}
use mathlib.Core.List.{List, [], ◌∷◌}
use lib.Dec.{eqb}
use borrow.Author.Tests.{eqb-true}
use Rattle.text_lexical.specs.Bytes.{bytes, same}
use Rattle.text.specs.Tokens.{Token, identifier, directive}
use Rattle.instruction.specs.Operands.{mark_byte}
use Rattle.instruction.specs.Kinds.{labelled, config, ignored, plain, identifier_kind, kind_of}

-- An Identifier of a spelling, and a colon.
pub record BeginsWith (s : List ℕ) (ts : List Token) : Type 0 where
  pub second : Token
  pub after : List Token
  pub are : ts ≡ identifier s ∷ second ∷ after
  pub is_colon : mark_byte second ≡ 58

pub labelled-first : (s : List ℕ) (ts : List Token) → kind_of ts ≡ labelled s → BeginsWith s ts
unfolding kind_of identifier_kind
labelled-first s [] e = cc
labelled-first s (identifier v ∷ []) e = cc
labelled-first s (identifier v ∷ t ∷ ts) e = go (eqb (mark_byte t) 58) refl e
  where
    go : (b : Bool) → eqb (mark_byte t) 58 ≡ b → elim b [ true ↦ labelled v | false ↦ plain ] ≡ labelled s → BeginsWith s (identifier v ∷ t ∷ ts)
    go true c e =
        let q : v ≡ s = cc in
        record { second = t; after = ts; are = ap (λ (u : List ℕ). identifier u ∷ t ∷ ts) q; is_colon = eqb-true (mark_byte t) 58 c }
    go false c e = cc
labelled-first s (directive v ∷ ts) e = go (same v (bytes "config")) e
  where
    go : (b : Bool) → elim b [ true ↦ config | false ↦ ignored ] ≡ labelled s → BeginsWith s (directive v ∷ ts)
    go true e = cc
    go false e = cc
labelled-first s (t ∷ ts) e = cc
