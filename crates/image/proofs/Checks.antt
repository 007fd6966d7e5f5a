-- A setting's number, a field of settings set, and the `.config` line, as the code decides them.
use mathlib.Core.Path.{◌≡◌, refl, sym, ap, ◌∙◌}
use Prim.Native.Nat.{ℕ, ◌^◌, ◌≤◌, ◌<◌}
use native.Mathlib.Omega.{arith}
use mathlib.Core.Bool.{true, false}
use mathlib.Core.List.{List, [], ◌∷◌, map}
use lib.ListN.{length, take, drop, get_or}
use lib.Dec.{ltb}
use lib.IntN.{ℤ, pos, negsuc, nat_abs}
use borrow.Author.Tests.{ltb-true, eq-eqb, ne_eqb}
use Rattle.text_lexical.specs.Bytes.{Result, value, refused, same}
use Rattle.text_lexical.specs.Numbers.{is_unsigned, lies_in}
use Rattle.text_lexical.specs.declared.number.NumberRange.{NumberRange}
use Rattle.text.specs.Tokens.{Token as MeantToken, number, hex, binary}
use Rattle.text.specs.Values.{read_decimal, read_pattern, read_number}
use Rattle.text.specs.Lines.{Line as Record, kept}
use Rattle.text.specs.Promised.{extracted, extract_meant, kind_meant, spelling, meant}
use Rattle.text.specs.declared.lexer.Kind.{Kind}
use Rattle.text.specs.declared.lexer.Kind.TheVariants.{Identifier}
use Rattle.text.specs.declared.lexer.Token.{Token}
use Rattle.text.specs.declared.parser.Line.{Line}
use Rattle.text.proofs.Meanings.{extracted-number}
use Rattle.instruction.specs.Operands.{read_identifier}
use Rattle.instruction.proofs.Results.{not_refused, test-value, no-identifier}
use Rattle.image.specs.Settings.{Settings, settings, limb_bits_key, data_limbs_key, addr_limbs_key, set_field, checked, setting_range, configured_by, configured_with, configured}
use Rattle.image.specs.Promised.{record_meant}

-- ---- a setting's number

-- The numbers of settings, as the code has them.
abbrev setting_numbers : NumberRange
setting_numbers = record { width = 8; signed = false }

-- A number that is read as a setting's is one of a byte.
within-byte : (n : ℕ) (z : ℤ) → ◌≡◌ {A = Result ℤ} (elim (ltb n (2 ^ 8)) [ true ↦ value (pos n) | false ↦ refused 35 ]) (value z) → nat_abs z < 256
within-byte n z e =
    let (l, q) = test-value (ltb n (2 ^ 8)) (value (pos n)) 35 z e in
    let a : pos n ≡ z = cc in
    rw (← a) (ltb-true n (2 ^ 8) l)

setting-below : (t : MeantToken) (z : ℤ) → read_number setting_range t ≡ value z → nat_abs z < 256
unfolding read_number read_decimal read_pattern setting_range lies_in is_unsigned
setting-below (number (pos n)) z e = within-byte n z e
setting-below (number (negsuc n)) z e = not_refused e
setting-below (hex n) z e = within-byte n z e
setting-below (binary n) z e = within-byte n z e
setting-below t z e = not_refused e

pub setting-byte : (k : Kind) (z : ℤ) → extract_meant (extracted setting_numbers k) ≡ value z → nat_abs z < 256
unfolding setting_range
setting-byte k z e = setting-below (kind_meant k []) z (sym (extracted-number setting_numbers k []) ∙ e)

-- ---- a field set

module _ (s : Settings) (key : List ℕ) (v : ℕ) where
  -- by each key, in order
  pub set-limb-bits : same key limb_bits_key ≡ true → set_field s key v ≡ value (settings v s.data_limbs s.addr_limbs)
  unfolding set_field
  set-limb-bits e = rw (set_field, e)

  module _ (a : same key limb_bits_key ≡ false) where
    pub set-data-limbs : same key data_limbs_key ≡ true → set_field s key v ≡ value (settings s.limb_bits v s.addr_limbs)
    unfolding set_field
    set-data-limbs e = rw (set_field, a, e)

    pub set-addr-limbs : same key data_limbs_key ≡ false → same key addr_limbs_key ≡ true → set_field s key v ≡ value (settings s.limb_bits s.data_limbs v)
    unfolding set_field
    set-addr-limbs e f = rw (set_field, a, e, f)

    -- and by no other
    pub set-none : same key data_limbs_key ≡ false → same key addr_limbs_key ≡ false → set_field s key v ≡ refused 9
    unfolding set_field
    set-none e f = rw (set_field, a, e, f)

-- ---- the line

-- The second and the third of a list's first three.
second-third : {A B : Type 0} (f : A → B) (l : List A) (d : A) → 3 ≤ length l → drop 1 (map f (take 3 l)) ≡ f (get_or l 1 d) ∷ f (get_or l 2 d) ∷ []
second-third f [] d h = absurd (omega arith)
second-third f (a ∷ []) d h = absurd (omega arith)
second-third f (a ∷ b ∷ []) d h = absurd (omega arith)
second-third f (a ∷ b ∷ c ∷ l) d h = refl

-- A line that has not three tokens is refused.
pub config-count : (setup : Settings) (l : Record) → (l.count ≡ 3 → ⊥) → configured setup l ≡ refused 6
unfolding configured
config-count setup l h = rw (configured, ne_eqb l.count 3 h)

module _ (setup : Settings) (s : List ℕ) (l : Line) (d : Token) (full : length l.tokens ≡ kept) (three : l.count ≡ 3) where
  -- one of three is read by its second token and its third
  config-by : configured setup (record_meant s l) ≡ configured_by setup (meant s (get_or l.tokens 1 d)) (meant s (get_or l.tokens 2 d))
  unfolding configured configured_with
  config-by =
      rw (configured, eq-eqb l.count 3 three)
      (ap (configured_with setup) (ap (λ (n : ℕ). drop 1 (map (meant s) (take n l.tokens))) three ∙ second-third (meant s) l.tokens d (omega arith)))

  -- the second has to be an Identifier
  pub config-key : ((get_or l.tokens 1 d).kind ≡ Identifier → ⊥) → configured setup (record_meant s l) ≡ refused 7
  unfolding configured_by
  config-key h = config-by ∙ rw (configured_by, no-identifier (get_or l.tokens 1 d).kind (spelling s (get_or l.tokens 1 d)) h)

  module _ (named : (get_or l.tokens 1 d).kind ≡ Identifier) where
    -- and the third a number
    by_number : (o : Result ℤ) → extract_meant (extracted setting_numbers (get_or l.tokens 2 d).kind) ≡ o
        → configured setup (record_meant s l) ≡ elim o [ refused n ↦ refused n | value z ↦ checked (set_field setup (spelling s (get_or l.tokens 1 d)) (nat_abs z)) ]
    unfolding configured_by read_identifier setting_range
    by_number o e = config-by ∙ rw (configured_by, named, ← extracted-number setting_numbers (get_or l.tokens 2 d).kind (spelling s (get_or l.tokens 2 d)), e)

    pub config-number : (n : ℕ) → extract_meant (extracted setting_numbers (get_or l.tokens 2 d).kind) ≡ refused n → configured setup (record_meant s l) ≡ refused n
    config-number n e = by_number (refused n) e

    -- which the field is set to, and which is below 256
    pub config-sets : (z : ℤ) → extract_meant (extracted setting_numbers (get_or l.tokens 2 d).kind) ≡ value z → {v : ℕ} → (nat_abs z < 256 → v ≡ nat_abs z)
        → configured setup (record_meant s l) ≡ checked (set_field setup (spelling s (get_or l.tokens 1 d)) v)
    config-sets z e is = rw (is (setting-byte (get_or l.tokens 2 d).kind z e)) (by_number (value z) e)
