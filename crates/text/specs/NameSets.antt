-- What is asked of a set of register names, so that what is proved over a set serves every set. Quotations are document 01's.
use Rattle.std.specs.Prelude.{ℕ, ◌<◌, ◌≡◌, Bool, true, List, ◌∷◌, ltb}
use Rattle.std.proofs.Math.Option.{Option, none, some}
use Rattle.text_lexical.specs.Bytes.{each}
use Rattle.text_lexical.specs.Numbers.{decimal}
use Rattle.text_lexical.specs.Names.{Name}
use Rattle.text.specs.Tokens.{is_identifier, Register, register, token_of}

-- "Registers are 4 bits wide."
unfoldable pub is_numbered : Option ℕ → Bool
is_numbered none = true
is_numbered (some n) = ltb n 16

pub record Naming (names : List Name) : Type 0 where
  -- each spelling is an Identifier's
  pub identifiers : each (λ n. is_identifier n.spelling) names ≡ true
  -- each register named is one of sixteen
  pub sixteen : each (λ n. is_numbered n.number) names ≡ true
  -- "`r0`..`r15`" name the registers 0 to 15
  pub numbered : (n : ℕ) → n < 16 → token_of names Register (114 ∷ decimal n) ≡ some (register (some n))
