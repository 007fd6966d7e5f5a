-- The sets of register names that the promises range over.
use Rattle.std.specs.Prelude.{◌≡◌, true, not, List, [], ◌∷◌, ℕ}
use Rattle.text_lexical.specs.Bytes.{each}
use Rattle.text_lexical.specs.Names.{Name}
use Rattle.text.specs.Tokens.{is_register}
use Rattle.text.specs.NameSets.{Naming}
use Rattle.instruction.specs.Table.{table}
use Rattle.image.specs.Settings.{limb_bits_key, data_limbs_key, addr_limbs_key}

-- The keys of `.config`.
unfoldable pub keys : List (List ℕ)
keys = limb_bits_key ∷ data_limbs_key ∷ addr_limbs_key ∷ []

pub record NameSet : Type 0 where
  pub names : List Name
  pub naming : Naming names
  -- no mnemonic is a name, so each is an Identifier
  pub mnemonics_free : each (λ r. not (is_register names r.mnemonic)) table ≡ true
  -- and no key of `.config`
  pub keys_free : each (λ k. not (is_register names k)) keys ≡ true
