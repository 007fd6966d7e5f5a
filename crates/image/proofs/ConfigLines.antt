-- Settings that lines lead to pass their checks, and a listed `.config` line sets its field again.
use mathlib.Core.Path.{◌≡◌, refl, sym, ap, ◌∙◌}
use Prim.Native.Nat.{ℕ, ◌^◌, ◌<◌}
use native.Mathlib.Omega.{arith}
use mathlib.Core.Bool.{Bool, true, false}
use mathlib.Core.Option.{Option, none, some}
use mathlib.Core.List.{List, [], ◌∷◌, ◌++◌, append-nil}
use lib.ListN.{drop}
use lib.Dec.{eqb}
use borrow.Author.Tests.{lt-ltb}
use lib.IntN.{ℤ, pos, nat_abs}
use Rattle.text_lexical.specs.Bytes.{Result, value, refused, bytes, between, letter, digit, name_start, name_part, every, same, each}
use Rattle.text_lexical.specs.Numbers.{is_unsigned, lies_in, decimal, signed_decimal}
use Rattle.text_lexical.specs.Names.{Name}
use Rattle.text_lexical.proofs.Strings.{every_append, ends}
use Rattle.text.specs.Tokens.{Token, identifier, number, directive, is_identifier, is_register, infront, tokens}
use Rattle.text.specs.Values.{read_decimal, read_number}
use Rattle.text.specs.Lines.{Line, lines, line_of, read_line}
use Rattle.text.proofs.Tokens.{tokens-nil, Within64, reads-directive, reads-space, reads-identifier, reads-decimal}
use Rattle.text.proofs.Lines.{visible, closed-append, Trimmed, decimal-visible, decimal-closed, high-plain, read-visible}
use Rattle.instruction.specs.Operands.{Draft, read_identifier, read_instruction, behind}
use Rattle.image.specs.Settings.{Settings, begin, settings_fault, set_field, checked, setting_range, configured_by, configured_with, configured}
use Rattle.instruction.specs.Kinds.{Kind, empty, labelled, config, ignored, plain, kind_of}
use Rattle.image.specs.Assembling.{Context, first_context, Effect, nothing, sets, codes, faulty, setting, coding, after_label, read_kind, read_on, changed_by, context_after, reads_from, reads}
use Rattle.image.specs.Meaning.{settings_in, settings_of}
use Rattle.image.proofs.Settings.{no-fault, begin-good}

-- ---- settings that lines lead to

abbrev pub GoodIf : Result Settings → Type 0
GoodIf (value s) = settings_fault s ≡ none
GoodIf (refused n) = Unit {0}

good-checked : (r : Result Settings) → GoodIf (checked r)
unfolding checked
good-checked (refused n) = tt
good-checked (value s) = go (settings_fault s) refl
  where
    go : (o : Option ℕ) → settings_fault s ≡ o → GoodIf (elim o [ some n ↦ refused n | none ↦ value s ])
    go none e = e
    go (some n) e = tt

good-by : (s : Settings) (key v : Token) → GoodIf (configured_by s key v)
unfolding configured_by
good-by s key v = go (read_identifier key)
  where
    by_number : (k : List ℕ) (o : Result ℤ) → GoodIf (elim o [ refused n ↦ refused n | value z ↦ checked (set_field s k (nat_abs z)) ])
    by_number k (refused n) = tt
    by_number k (value z) = good-checked (set_field s k (nat_abs z))

    go : (o : Option (List ℕ)) → GoodIf (elim o [
      | none ↦ refused 7
      | some k ↦ elim (read_number setting_range v) [ refused n ↦ refused n | value z ↦ checked (set_field s k (nat_abs z)) ]
    ])
    go none = tt
    go (some k) = by_number k (read_number setting_range v)

good-with : (s : Settings) (ts : List Token) → GoodIf (configured_with s ts)
unfolding configured_with
good-with s [] = tt
good-with s (key ∷ []) = tt
good-with s (key ∷ v ∷ ts) = good-by s key v

pub good-configured : (s : Settings) (l : Line) → GoodIf (configured s l)
unfolding configured
good-configured s l = go (eqb l.count 3)
  where
    go : (v : Bool) → GoodIf (elim v [ true ↦ configured_with s (drop 1 l.first) | false ↦ refused 6 ])
    go true = good-with s (drop 1 l.first)
    go false = tt

-- What a line reads as leaves such settings.
GoodOn : Effect → Type 0
GoodOn (sets s) = settings_fault s ≡ none
GoodOn nothing = Unit {0}
GoodOn (codes d) = Unit {0}
GoodOn (faulty n) = Unit {0}

good-setting : (r : Result Settings) → GoodIf r → GoodOn (setting r)
unfolding setting GoodOn
good-setting (value s) g = g
good-setting (refused n) g = tt

good-coding : (r : Result Draft) → GoodOn (coding r)
unfolding coding GoodOn
good-coding (value d) = tt
good-coding (refused n) = tt

good-after : (l : Line) → GoodOn (after_label l)
unfolding after_label GoodOn
good-after l = go l.first
  where
    go : (ts : List Token) → GoodOn (elim ts [ [] ↦ nothing | t ∷ us ↦ coding (read_instruction l) ])
    go [] = tt
    go (t ∷ us) = good-coding (read_instruction l)

good-kind : (c : Context) (l : Line) (k : Kind) → GoodOn (read_kind c l k).effect
unfolding read_kind GoodOn
good-kind c l empty = tt
good-kind c l (labelled s) = good-after (behind 2 l)
good-kind c l config = good-setting (configured c.setup l) (good-configured c.setup l)
good-kind c l ignored = tt
good-kind c l plain = good-coding (read_instruction l)

good-read : (c : Context) (o : Option Line) → GoodOn (read_on c o).effect
unfolding read_on GoodOn
good-read c none = tt
good-read c (some l) = good-kind c l (kind_of l.first)

good-changed : (s : Settings) → settings_fault s ≡ none → (e : Effect) → GoodOn e → settings_fault (changed_by s e) ≡ none
unfolding changed_by GoodOn
good-changed s h (sets s') g = g
good-changed s h nothing g = h
good-changed s h (codes d) g = h
good-changed s h (faulty n) g = h

good-from : (names : List Name) (c : Context) (s : Settings) → settings_fault s ≡ none → (ls : List (List ℕ)) → settings_fault (settings_in s (reads_from names c ls)) ≡ none
unfolding settings_in reads_from
good-from names c s h [] = h
good-from names c s h (l ∷ ls) =
    let e = (read_on c (read_line names l)).effect in
    good-from names (context_after c e) (changed_by s e) (good-changed s h e (good-read c (read_line names l))) ls

-- Whatever the source, its settings pass the checks.
pub settings-pass : (names : List Name) (source : List ℕ) → settings_fault (settings_of names source) ≡ none
unfolding settings_of reads
settings-pass names source = good-from names first_context begin (no-fault begin begin-good) (lines source)

-- ---- a listed `.config` line

-- What is asked of a key.
pub record Key (names : List Name) (key : List ℕ) : Type 0 where
  pub is-identifier : is_identifier key ≡ true
  pub no_register : is_register names key ≡ false
  pub is-visible : every visible key ≡ true

-- The line, without its end.
unfoldable pub config_text : List ℕ → ℕ → List ℕ
config_text key v = bytes ".config " ++ (key ++ (32 ∷ decimal v))

module _ (names : List Name) (ok : each (λ n. is_identifier n.spelling) names ≡ true) (key : List ℕ) (k : Key names key) (v : ℕ) (small : v < 100) where
  config-tokens : tokens names (config_text key v) ≡ some (directive (bytes "config") ∷ identifier key ∷ number (pos v) ∷ [])
  unfolding config_text bytes is_identifier every name_start name_part letter digit between ends infront signed_decimal Within64
  config-tokens =
      reads-directive names ok (bytes "config") (32 ∷ (key ++ (32 ∷ decimal v))) refl refl
      ∙ ap (infront (directive (bytes "config"))) (reads-space names ok (key ++ (32 ∷ decimal v))
      ∙ reads-identifier names ok key (32 ∷ decimal v) k.is-identifier k.no_register refl
      ∙ ap (infront (identifier key)) (reads-space names ok (decimal v)
      ∙ ap (tokens names) (sym (append-nil (decimal v)))
      ∙ reads-decimal names ok (pos v) [] (omega arith) refl
      ∙ ap (infront (number (pos v))) (tokens-nil names)))

  pub config-visible : every visible (config_text key v) ≡ true
  unfolding config_text bytes every visible between
  config-visible = every_append visible key (32 ∷ decimal v) k.is-visible (decimal-visible v)

  config-trimmed : Trimmed (config_text key v)
  unfolding config_text bytes
  config-trimmed =
      record {
        head = 46;
        tail = bytes "config " ++ (key ++ (32 ∷ decimal v));
        front = refl;
        plain = high-plain 46 (omega arith);
        closed = closed-append (bytes ".config ") (key ++ (32 ∷ decimal v)) (closed-append key (32 ∷ decimal v) (closed-append (32 ∷ []) (decimal v) (decimal-closed v)));
      }

  in-range : lies_in setting_range (pos v) ≡ true
  unfolding setting_range lies_in is_unsigned
  in-range = lt-ltb v (2 ^ 8) (omega arith)

  -- Its number is one of a setting.
  listed-number : read_number setting_range (number (pos v)) ≡ value (pos v)
  unfolding read_number read_decimal
  listed-number = rw (read_decimal, in-range)

  -- It sets the field of its key.
  pub config-read : (c : Context) (s : Settings) → set_field c.setup key v ≡ value s → settings_fault s ≡ none
      → read_on c (read_line names (config_text key v)) ≡ record { label = none; effect = sets s }
  unfolding read_on read_kind setting kind_of same bytes line_of configured configured_with configured_by read_identifier checked
  config-read c s e g =
      rw (read-visible names (config_text key v) _ config-trimmed config-visible config-tokens, configured_by, listed-number, e, checked, g)
