-- The text of settings and words, taken as a source, is read to those settings and the words' instructions.
use mathlib.Core.Path.{◌≡◌, refl, sym, ap, ap₂, ◌∙◌, subst}
use Prim.Native.Nat.{ℕ, suc, ◌+◌, ◌≤◌}
use native.Mathlib.Nat.{add_assoc, add-zero}
use native.Mathlib.Omega.{arith}
use mathlib.Core.Bool.{true, false}
use mathlib.Core.Option.{Option, none, some}
use mathlib.Core.List.{List, [], ◌∷◌, ◌++◌, flat_map, append_assoc}
use lib.ListN.{length, length-append}
use lib.IntN.{ℤ}
use borrow.Author.Tests.{le-leb, lt-ltb}
use Rattle.text_lexical.specs.Bytes.{value, bytes, ascii, between, every, same, before, after, each, inside}
use Rattle.text_lexical.specs.Names.{Name}
use Rattle.text_lexical.proofs.Strings.{every_append, every-mono}
use Rattle.text.specs.Tokens.{is_identifier, tokens, tokens_past}
use Rattle.text.specs.Lines.{Line, lines, indent, content, trim, trim_end, cut, line_of, record_of, read_line}
use Rattle.text.proofs.Lines.{lines_cons, visible, visible-inside, visible-ascii}
use Rattle.instruction.specs.Operands.{Instruction, read_instruction}
use Rattle.instruction.specs.Words.{instruction_of}
use Rattle.instruction.specs.Text.{instruction_text}
use Rattle.instruction.proofs.Text.{exact, drafted}
use Rattle.image.specs.Settings.{Settings, settings, begin, limb_bits_key, data_limbs_key, addr_limbs_key, set_field}
use Rattle.instruction.specs.Kinds.{plain, kind_of}
use Rattle.image.specs.Assembling.{State, start, next, Context, first_context, Effect, nothing, sets, codes, faulty, Read, coding, read_kind, read_on, changed_by, context_after, reads_from, reads, entering, with_settings, most_words, with_instruction, doing, step, context_of, finished, walk, words_of, address_in, fault_in, accepted, read_to, most_bytes, reading}
use Rattle.image.specs.Listing.{line_text, setting_text, settings_text, word_text}
use Rattle.image.specs.Meaning.{resolved, settled, coded_by, coded_in, instructions_of, is_target, names_target, any_target, settings_in}
use Rattle.image.proofs.Settings.{Good, no-fault, small-bits, small-data, small-addr}
use Rattle.image.proofs.ConfigLines.{Key, config_text, config-visible, config-read}
use Rattle.image.proofs.Listed.{AllDecoded}
use Rattle.image.proofs.Lengths.{settings-short, word_line, words-short}
use Rattle.image.proofs.Walking.{words_in}
use Rattle.image.proofs.Targets.{no-target}

-- ---- lines that go on

-- What a line does is no refusal.
abbrev Goes : Effect → Type 0
Goes nothing = Unit {0}
Goes (sets s) = Unit {0}
Goes (codes d) = Unit {0}
Goes (faulty n) = ⊥

-- Lines without labels that are not refused.
abbrev AllGo : List Read → Type 0
AllGo [] = Unit {0}
AllGo (r ∷ rs) = (r.label ≡ none) × Goes r.effect × AllGo rs

-- What they come to, from a state on.
after_all : State → List Read → State
after_all st rs = record { labels = st.labels; words = st.words + words_in rs; setup = settings_in st.setup rs }

goes : (st : State) (e : Effect) → Goes e → st.words + words_of e ≤ 32768
    → doing e (next st) ≡ next (record { labels = st.labels; words = st.words + words_of e; setup = changed_by st.setup e })
unfolding doing words_of changed_by with_settings with_instruction most_words
goes st nothing g h = ap (λ (n : ℕ). next (record { labels = st.labels; words = n; setup = st.setup })) (sym (add-zero st.words))
goes st (sets s) g h = ap (λ (n : ℕ). next (record { labels = st.labels; words = n; setup = s })) (sym (add-zero st.words))
goes st (codes d) g h =
    let n : suc st.words ≡ st.words + 1 = omega arith in
    rw (with_instruction, lt-ltb st.words 32768 (omega arith)) (ap (λ (n : ℕ). next (record { labels = st.labels; words = n; setup = st.setup })) n)
goes st (faulty n) g h = absurd g

-- A walk over such lines is finished.
walk-goes : (names : List Name) (room line at : ℕ) (st : State) (ls : List (List ℕ)) → AllGo (reads_from names (context_of st) ls)
    → st.words + words_in (reads_from names (context_of st) ls) ≤ 32768
    → walk names room line at st ls ≡ finished (after_all st (reads_from names (context_of st) ls))
unfolding walk step entering reads_from context_of context_after words_in settings_in after_all
walk-goes names room line at st [] g h = ap (λ (n : ℕ). finished (record { labels = st.labels; words = n; setup = st.setup })) (sym (add-zero st.words))
walk-goes names room line at st (l ∷ ls) g h =
    let r = read_on (record { setup = st.setup }) (read_line names l) in
    let rs = reads_from names (record { setup = changed_by st.setup r.effect }) ls in
    let st' : State = record { labels = st.labels; words = st.words + words_of r.effect; setup = changed_by st.setup r.effect } in
    let s : step room st (at + indent l) r ≡ next st' = ap (λ (o : Option (List ℕ)). doing r.effect (entering room st (at + indent l) o)) g.0 ∙ goes st r.effect g.1 (omega arith) in
    rw (walk, s)
    (walk-goes names room (suc line) (at + suc (length l)) st' ls g.2 (omega arith)
    ∙ ap (λ (n : ℕ). finished (record { labels = st.labels; words = n; setup = settings_in (changed_by st.setup r.effect) rs })) (add_assoc st.words (words_of r.effect) (words_in rs)))

-- ---- one line more

-- A line that is read so, and what follows it.
reads-line : (names : List Name) (c : Context) (t rest : List ℕ) (r : Read) → every visible t ≡ true → read_on c (read_line names t) ≡ r
    → reads_from names c (lines (line_text t ++ rest)) ≡ r ∷ reads_from names (context_after c r.effect) (lines rest)
unfolding reads_from line_text
reads-line names c t rest r h e =
    ap (reads_from names c) (ap lines (append_assoc t (10 ∷ []) rest) ∙ lines_cons t rest (every-mono visible inside visible-inside t h))
    ∙ ap (λ (x : Read). x ∷ reads_from names (context_after c x.effect) (lines rest)) e

-- After the last line's end there is one more line, which is empty.
reads-end : (names : List Name) (c : Context) → reads_from names c (lines []) ≡ record { label = none; effect = nothing } ∷ []
unfolding reads_from lines read_on read_kind read_line record_of line_of kind_of tokens tokens_past content trim trim_end cut before after
reads-end names c = refl

-- ---- the words' lines

-- The text of a word's instruction reads as that instruction.
pub record Reads (names : List Name) (w : ℕ) : Type 0 where
  pub instruction : Instruction
  pub decoded : instruction_of w ≡ value instruction
  pub is-visible : every visible (instruction_text instruction) ≡ true
  pub line : Line
  pub is-line : read_line names (instruction_text instruction) ≡ some line
  pub is_plain : kind_of line.first ≡ plain
  pub is_read : read_instruction line ≡ value (drafted instruction)

abbrev pub AllRead : List Name → List ℕ → Type 0
AllRead names [] = Unit {0}
AllRead names (w ∷ ws) = Reads names w × AllRead names ws

-- The instructions of the words.
unfoldable pub instructions_in : (names : List Name) (ws : List ℕ) → AllRead names ws → List Instruction
instructions_in names [] r = []
instructions_in names (w ∷ ws) r = r.0.instruction ∷ instructions_in names ws r.1

-- They are decoded.
all-decoded : (names : List Name) (ws : List ℕ) → AllRead names ws → AllDecoded ws
all-decoded names [] r = tt
all-decoded names (w ∷ ws) r = ((r.0.instruction, r.0.decoded), all-decoded names ws r.1)

-- What their lines do: each has its instruction exactly, and the last line, which is empty, does nothing.
word_reads : (names : List Name) (ws : List ℕ) → AllRead names ws → List Read
word_reads names [] r = record { label = none; effect = nothing } ∷ []
word_reads names (w ∷ ws) r = record { label = none; effect = codes (drafted r.0.instruction) } ∷ word_reads names ws r.1

word-read : (names : List Name) (w : ℕ) (c : Context) (r : Reads names w)
    → read_on c (read_line names (instruction_text r.instruction)) ≡ record { label = none; effect = codes (drafted r.instruction) }
unfolding read_on read_kind coding
word-read names w c r = rw (r.is-line, r.is_plain, r.is_read)

words-are-read : (names : List Name) (c : Context) (ws : List ℕ) (r : AllRead names ws) → reads_from names c (lines (flat_map word_text ws)) ≡ word_reads names ws r
unfolding flat_map word_reads context_after changed_by
words-are-read names c [] r = reads-end names c
words-are-read names c (w ∷ ws) r =
    let t = instruction_text r.0.instruction in
    ap (λ (x : List ℕ). reads_from names c (lines (x ++ flat_map word_text ws))) (word_line w r.0.instruction r.0.decoded)
    ∙ reads-line names c t (flat_map word_text ws) _ r.0.is-visible (word-read names w c r.0)
    ∙ ap (λ (x : List Read). record { label = none; effect = codes (drafted r.0.instruction) } ∷ x) (words-are-read names c ws r.1)

-- They go on,
words-go : (names : List Name) (ws : List ℕ) (r : AllRead names ws) → AllGo (word_reads names ws r)
unfolding word_reads
words-go names [] r = (refl, tt, tt)
words-go names (w ∷ ws) r = (refl, tt, words-go names ws r.1)

-- come to as many words,
words-count : (names : List Name) (ws : List ℕ) (r : AllRead names ws) → words_in (word_reads names ws r) ≡ length ws
unfolding word_reads words_in words_of
words-count names [] r = refl
words-count names (w ∷ ws) r = omega (arith, words-count names ws r.1)

-- leave the settings,
words-setup : (names : List Name) (s : Settings) (ws : List ℕ) (r : AllRead names ws) → settings_in s (word_reads names ws r) ≡ s
unfolding word_reads settings_in changed_by
words-setup names s [] r = refl
words-setup names s (w ∷ ws) r = words-setup names s ws r.1

-- name no label,
exact-target : (n : Option ℤ) → is_target (exact n) ≡ false
unfolding exact is_target
exact-target none = refl
exact-target (some z) = refl

words-target : (names : List Name) (ws : List ℕ) (r : AllRead names ws) → any_target (word_reads names ws r) ≡ false
unfolding word_reads any_target names_target drafted
words-target names [] r = refl
words-target names (w ∷ ws) r = rw (exact-target r.0.instruction.number) (words-target names ws r.1)

-- and have the words' instructions, wherever labels are.
exact-settled : (addresses : List ℕ → Option ℕ) (words : ℕ) (i : Instruction) → settled addresses words (drafted i) ≡ i
unfolding settled drafted exact resolved
exact-settled addresses words i = ap (λ (n : Option ℤ). record { row = i.row; registers = i.registers; number = n }) (go i.number)
  where
    go : (n : Option ℤ) → ◌≡◌ {A = Option ℤ} (elim (exact n) [ some a ↦ some (resolved addresses words a) | none ↦ none ]) n
    go none = refl
    go (some z) = refl

words-coded : (names : List Name) (addresses : List ℕ → Option ℕ) (words : ℕ) (ws : List ℕ) (r : AllRead names ws)
    → coded_in addresses words (word_reads names ws r) ≡ instructions_in names ws r
unfolding word_reads coded_in coded_by instructions_in
words-coded names addresses words [] r = refl
words-coded names addresses words (w ∷ ws) r =
    ap₂ (λ (i : Instruction) (is : List Instruction). i ∷ is) (exact-settled addresses words r.0.instruction) (words-coded names addresses (words + words_of (codes (drafted r.0.instruction))) ws r.1)

line-ascii : (t : List ℕ) → every visible t ≡ true → every ascii (line_text t) ≡ true
unfolding line_text every ascii
line-ascii t h = every_append ascii t (10 ∷ []) (every-mono visible ascii visible-ascii t h) refl

words-ascii : (names : List Name) (ws : List ℕ) → AllRead names ws → every ascii (flat_map word_text ws) ≡ true
unfolding flat_map every
words-ascii names [] r = refl
words-ascii names (w ∷ ws) r =
    every_append ascii (word_text w) (flat_map word_text ws) (rw (word_line w r.0.instruction r.0.decoded) (line-ascii (instruction_text r.0.instruction) r.0.is-visible)) (words-ascii names ws r.1)

-- ---- the settings' lines

-- The three keys.
pub record Keys (names : List Name) : Type 0 where
  pub limb_bits : Key names limb_bits_key
  pub data_limbs : Key names data_limbs_key
  pub addr_limbs : Key names addr_limbs_key

set-bits : (s : Settings) (v : ℕ) → set_field s limb_bits_key v ≡ value (settings v s.data_limbs s.addr_limbs)
unfolding set_field same bytes limb_bits_key
set-bits s v = refl

set-data : (s : Settings) (v : ℕ) → set_field s data_limbs_key v ≡ value (settings s.limb_bits v s.addr_limbs)
unfolding set_field same bytes limb_bits_key data_limbs_key
set-data s v = refl

set-addr : (s : Settings) (v : ℕ) → set_field s addr_limbs_key v ≡ value (settings s.limb_bits s.data_limbs v)
unfolding set_field same bytes limb_bits_key data_limbs_key addr_limbs_key
set-addr s v = refl

-- A line that sets settings.
set_read : Settings → Read
set_read s = record { label = none; effect = sets s }

module _ (names : List Name) (ok : each (λ n. is_identifier n.spelling) names ≡ true) (k : Keys names) (s : Settings) (g : Good s) where
  bits-visible : every visible (config_text limb_bits_key s.limb_bits) ≡ true
  bits-visible = config-visible names ok limb_bits_key k.limb_bits s.limb_bits (small-bits s g)

  data-visible : every visible (config_text data_limbs_key s.data_limbs) ≡ true
  data-visible = config-visible names ok data_limbs_key k.data_limbs s.data_limbs (small-data s g)

  addr-visible : every visible (config_text addr_limbs_key s.addr_limbs) ≡ true
  addr-visible = config-visible names ok addr_limbs_key k.addr_limbs s.addr_limbs (small-addr s g)

  -- each line, after which these are the settings
  bits-read : read_on first_context (read_line names (config_text limb_bits_key s.limb_bits)) ≡ set_read (settings s.limb_bits 2 2)
  unfolding set_read begin settings between
  bits-read =
      config-read names ok limb_bits_key k.limb_bits s.limb_bits (small-bits s g) first_context (settings s.limb_bits 2 2) (set-bits begin s.limb_bits)
      (no-fault (settings s.limb_bits 2 2) (record { bits = g.bits; even = g.even; data_limbs = refl; addr_limbs = refl }))

  data-read : read_on (record { setup = settings s.limb_bits 2 2 }) (read_line names (config_text data_limbs_key s.data_limbs)) ≡ set_read (settings s.limb_bits s.data_limbs 2)
  unfolding set_read settings between
  data-read =
      config-read names ok data_limbs_key k.data_limbs s.data_limbs (small-data s g) (record { setup = settings s.limb_bits 2 2 }) (settings s.limb_bits s.data_limbs 2)
      (set-data (settings s.limb_bits 2 2) s.data_limbs)
      (no-fault (settings s.limb_bits s.data_limbs 2) (record { bits = g.bits; even = g.even; data_limbs = g.data_limbs; addr_limbs = refl }))

  addr-read : read_on (record { setup = settings s.limb_bits s.data_limbs 2 }) (read_line names (config_text addr_limbs_key s.addr_limbs)) ≡ set_read s
  unfolding set_read settings
  addr-read =
      config-read names ok addr_limbs_key k.addr_limbs s.addr_limbs (small-addr s g) (record { setup = settings s.limb_bits s.data_limbs 2 }) s
      (set-addr (settings s.limb_bits s.data_limbs 2) s.addr_limbs) (no-fault s g)

  -- the three lines, and what follows them
  settings-read : (rest : List ℕ)
      → reads names (settings_text s ++ rest) ≡ set_read (settings s.limb_bits 2 2) ∷ set_read (settings s.limb_bits s.data_limbs 2) ∷ set_read s ∷ reads_from names (record { setup = s }) (lines rest)
  unfolding reads settings_text setting_text config_text set_read context_after changed_by
  settings-read rest =
      let a = config_text limb_bits_key s.limb_bits in
      let b = config_text data_limbs_key s.data_limbs in
      let c = config_text addr_limbs_key s.addr_limbs in
      let s₁ = settings s.limb_bits 2 2 in
      let s₂ = settings s.limb_bits s.data_limbs 2 in
      ap (λ (x : List ℕ). reads_from names first_context (lines x)) (apart a b c)
      ∙ reads-line names first_context a (line_text b ++ (line_text c ++ rest)) (set_read s₁) bits-visible bits-read
      ∙ ap (λ (x : List Read). set_read s₁ ∷ x) (reads-line names (record { setup = s₁ }) b (line_text c ++ rest) (set_read s₂) data-visible data-read
      ∙ ap (λ (x : List Read). set_read s₂ ∷ x) (reads-line names (record { setup = s₂ }) c rest (set_read s) addr-visible addr-read))
    where
      apart : (a b c : List ℕ) → (line_text a ++ (line_text b ++ line_text c)) ++ rest ≡ line_text a ++ (line_text b ++ (line_text c ++ rest))
      apart a b c = append_assoc (line_text a) (line_text b ++ line_text c) rest ∙ ap (λ (x : List ℕ). line_text a ++ x) (append_assoc (line_text b) (line_text c) rest)

  text-visible : (rest : List ℕ) → every ascii rest ≡ true → every ascii (settings_text s ++ rest) ≡ true
  unfolding settings_text setting_text config_text
  text-visible rest h =
      every_append ascii (settings_text s) rest
      (every_append ascii _ _ (line-ascii (config_text limb_bits_key s.limb_bits) bits-visible)
      (every_append ascii _ _ (line-ascii (config_text data_limbs_key s.data_limbs) data-visible) (line-ascii (config_text addr_limbs_key s.addr_limbs) addr-visible))) h

  module _ (ws : List ℕ) (r : AllRead names ws) where
    -- What all lines of the text do.
    text_reads : List Read
    text_reads = set_read (settings s.limb_bits 2 2) ∷ set_read (settings s.limb_bits s.data_limbs 2) ∷ set_read s ∷ word_reads names ws r

    text-read : reads names (settings_text s ++ flat_map word_text ws) ≡ text_reads
    unfolding text_reads
    text-read =
        settings-read (flat_map word_text ws)
        ∙ ap (λ (x : List Read). set_read (settings s.limb_bits 2 2) ∷ set_read (settings s.limb_bits s.data_limbs 2) ∷ set_read s ∷ x)
        (words-are-read names (record { setup = s }) ws r)

    -- They have the words' instructions,
    pub text-instructions : instructions_of names (settings_text s ++ flat_map word_text ws) ≡ instructions_in names ws r
    unfolding instructions_of coded_in coded_by words_of text_reads set_read
    text-instructions =
        ap (λ (x : List Read). coded_in (address_in 0 x) 0 x) text-read ∙ words-coded names (address_in 0 text_reads) 0 ws r

    text-no-fault : fault_in (reads names (settings_text s ++ flat_map word_text ws)) ≡ none
    unfolding any_target names_target text_reads set_read
    text-no-fault = ap fault_in text-read ∙ no-target text_reads (words-target names ws r)

    text-walk : (room : ℕ) → length ws ≤ 32768
        → walk names room 1 0 start (lines (settings_text s ++ flat_map word_text ws)) ≡ finished (record { labels = []; words = length ws; setup = s })
    unfolding text_reads set_read start context_of reads words_in words_of settings_in changed_by after_all
    text-walk room few =
        let n : 0 + words_in text_reads ≡ length ws = omega (arith, words-count names ws r) in
        let ls = lines (settings_text s ++ flat_map word_text ws) in
        walk-goes names room 1 0 start ls (subst AllGo (sym text-read) (refl, tt, (refl, tt, (refl, tt, words-go names ws r)))) (rw text-read (omega arith))
        ∙ ap (λ (x : List Read). finished (after_all start x)) text-read
        ∙ ap₂ (λ (n : ℕ) (x : Settings). finished (record { labels = []; words = n; setup = x })) n (words-setup names s ws r)

    -- and are accepted.
    pub text-reading : (room : ℕ) → length ws ≤ 32768
        → reading names (settings_text s ++ flat_map word_text ws) room ≡ accepted (record { labels = []; words = length ws; setup = s })
    unfolding reading read_to most_bytes
    text-reading room few =
        rw (
          reading,
          le-leb (length (settings_text s ++ flat_map word_text ws)) 1048576 (omega (arith, length-append (settings_text s) (flat_map word_text ws), settings-short s g, words-short ws (all-decoded names ws r))),
          text-visible (flat_map word_text ws) (words-ascii names ws r),
          text-walk room few,
          read_to,
          text-no-fault,
        )
