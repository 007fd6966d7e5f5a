-- The three settings, their checks, and the `.config` line. Quotations are document 01's, and document 02's where it is named.
use Rattle.std.specs.Prelude.{ℕ, ◌%◌, true, false, List, [], ◌∷◌, drop, eqb, nat_abs}
use Rattle.std.proofs.Math.Option.{Option, none, some}
use Rattle.text_lexical.specs.Bytes.{Result, value, refused, bytes, between, same}
use Rattle.text_lexical.specs.Numbers.{NumberRange}
use Rattle.text.specs.Tokens.{Token}
use Rattle.text.specs.Values.{read_number}
use Rattle.text.specs.Lines.{Line}
use Rattle.instruction.specs.Operands.{read_identifier}

pub record Settings : Type 0 where
  pub limb_bits : ℕ
  pub data_limbs : ℕ
  pub addr_limbs : ℕ

unfoldable pub settings : ℕ → ℕ → ℕ → Settings
settings limb_bits data_limbs addr_limbs = record { limb_bits = limb_bits; data_limbs = data_limbs; addr_limbs = addr_limbs }

-- "Settings begin at 20, 2, 2."
unfoldable pub begin : Settings
begin = settings 20 2 2

-- "10 limb_bits outside 16..30; 11 limb_bits odd; 12 data_limbs outside 1..4; 13 addr_limbs outside 1..2": the first that
-- applies; none: the settings are good.
unfoldable pub settings_fault : Settings → Option ℕ
settings_fault s =
    elim (between 16 30 s.limb_bits) [
      | false ↦ some 10
      | true ↦ elim (eqb (s.limb_bits % 2) 0) [
        | false ↦ some 11
        | true ↦ elim (between 1 4 s.data_limbs) [
          | false ↦ some 12
          | true ↦ elim (between 1 2 s.addr_limbs) [ false ↦ some 13 | true ↦ none ]
        ]
      ]
    ]

-- ---- the `.config` line

unfoldable pub limb_bits_key : List ℕ
limb_bits_key = bytes "limb_bits"

unfoldable pub data_limbs_key : List ℕ
data_limbs_key = bytes "data_limbs"

unfoldable pub addr_limbs_key : List ℕ
addr_limbs_key = bytes "addr_limbs"

-- The settings with the field of a key set; "9 unknown key".
unfoldable pub set_field : Settings → List ℕ → ℕ → Result Settings
set_field s key v =
    elim (same key limb_bits_key) [
      | true ↦ value (settings v s.data_limbs s.addr_limbs)
      | false ↦ elim (same key data_limbs_key) [
        | true ↦ value (settings s.limb_bits v s.addr_limbs)
        | false ↦ elim (same key addr_limbs_key) [ true ↦ value (settings s.limb_bits s.data_limbs v) | false ↦ refused 9 ]
      ]
    ]

-- "and checks it". (The other two fields have passed their checks before.)
unfoldable pub checked : Result Settings → Result Settings
checked (refused n) = refused n
checked (value s) = elim (settings_fault s) [ some n ↦ refused n | none ↦ value s ]

-- "A setting must be 0..255" (document 02, c).
unfoldable pub setting_range : NumberRange
setting_range = record { width = 8; signed = false }

-- "7 key not an Identifier; 8 number expected", and 35, which `read_number` says: "seen before its key is looked up" (document 02, c). None
-- is below zero, so that the field is set to the number itself.
unfoldable pub configured_by : Settings → Token → Token → Result Settings
configured_by s key v =
    elim (read_identifier key) [
      | none ↦ refused 7
      | some k ↦ elim (read_number setting_range v) [ refused n ↦ refused n | value z ↦ checked (set_field s k (nat_abs z)) ]
    ]

unfoldable pub configured_with : Settings → List Token → Result Settings
configured_with s [] = refused 6
configured_with s (key ∷ []) = refused 6
configured_with s (key ∷ v ∷ ts) = configured_by s key v

-- The settings after a `.config` line: "6 `.config` line not of three tokens".
unfoldable pub configured : Settings → Line → Result Settings
configured s l = elim (eqb l.count 3) [ true ↦ configured_with s (drop 1 l.first) | false ↦ refused 6 ]
