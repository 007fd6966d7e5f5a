-- What an edited instruction leaves as it is: labels, settings, how many words there are, and all bytes of an image but those of its own
-- word. A line more that does nothing leaves these and the image as they are.
use mathlib.Core.Path.{◌≡◌, refl, sym, ap, ◌∙◌, subst}
use Prim.Native.Nat.{ℕ, suc, ◌+◌, ◌*◌}
use native.Mathlib.Omega.{arith}
use mathlib.Core.Option.{Option, none}
use mathlib.Core.List.{List, [], ◌∷◌, ◌++◌, map, flat_map, append_assoc, append-nil}
use lib.ListN.{length, length-append, length-map}
use Rattle.std.proofs.lemmas.List.{map-append}
use Rattle.std.proofs.lemmas.Grind.{flat_map-append}
use Rattle.text_lexical.specs.Bytes.{before, after}
use Rattle.text_lexical.specs.Numbers.{little}
use Rattle.text_lexical.specs.Names.{Name}
use Rattle.text.specs.Tokens.{tokens_past, tokens}
use Rattle.text.specs.Lines.{lines, trim_end, trim, cut, content, line_of, record_of, read_line}
use Rattle.text.proofs.Lines.{lines-ended}
use Rattle.instruction.specs.Operands.{Instruction, Draft}
use Rattle.instruction.specs.Words.{word_of}
use Rattle.instruction.specs.Kinds.{kind_of}
use Rattle.image.specs.Settings.{Settings, begin}
use Rattle.image.specs.Program.{header_bytes, header_for, image}
use Rattle.image.specs.Assembling.{Context, first_context, nothing, codes, Read, read_kind, read_on, changed_by, context_after, reads_from, reads, words_of, address_in}
use Rattle.image.specs.Meaning.{settled, coded_by, coded_in, instructions_of, settings_in, settings_of, image_of}
use Rattle.image.proofs.Images.{code-length, header-length}
use Rattle.image.proofs.Walking.{words_in, coded-length, own_label, labels_in, same-addresses}
use Rattle.image.proofs.Placed.{coded-append, placed-instruction}

-- ---- lines that are alike

-- Lines with the same labels at the same addresses, the same settings, and as many words.
pub record Alike (rs rs' : List Read) : Type 0 where
  pub labels : (words : ℕ) → labels_in words rs ≡ labels_in words rs'
  pub setup : (s : Settings) → settings_in s rs ≡ settings_in s rs'
  pub words : words_in rs ≡ words_in rs'

pub alike-same : (rs : List Read) → Alike rs rs
alike-same rs = record { labels = λ n. refl; setup = λ s. refl; words = refl }

pub alike-back : (rs rs' : List Read) → Alike rs rs' → Alike rs' rs
alike-back rs rs' a = record { labels = λ n. sym (a.labels n); setup = λ s. sym (a.setup s); words = sym a.words }

pub alike-on : (rs rs' rs'' : List Read) → Alike rs rs' → Alike rs' rs'' → Alike rs rs''
alike-on rs rs' rs'' a b = record { labels = λ n. a.labels n ∙ b.labels n; setup = λ s. a.setup s ∙ b.setup s; words = a.words ∙ b.words }

-- The same lines above them.
pub alike-below : (above rs rs' : List Read) → Alike rs rs' → Alike (above ++ rs) (above ++ rs')
unfolding labels_in settings_in words_in
alike-below [] rs rs' a = a
alike-below (r ∷ above) rs rs' a =
    let b = alike-below above rs rs' a in
    record {
      labels = λ n. ap (λ (ls : List (List ℕ × ℕ)). own_label n r.label ++ ls) (b.labels (n + words_of r.effect));
      setup = λ s. b.setup (changed_by s r.effect);
      words = ap (λ (n : ℕ). words_of r.effect + n) b.words;
    }

-- Another instruction in the place of one, with the same label.
pub alike-edited : (label : Option (List ℕ)) (d d' : Draft) (below : List Read)
    → Alike (record { label = label; effect = codes d } ∷ below) (record { label = label; effect = codes d' } ∷ below)
unfolding labels_in settings_in words_in words_of changed_by
alike-edited label d d' below = record { labels = λ n. refl; setup = λ s. refl; words = refl }

-- A line that does nothing.
unfoldable pub idle : Read
idle = record { label = none; effect = nothing }

pub alike-idle : Alike [] (idle ∷ [])
unfolding idle labels_in own_label settings_in words_in words_of changed_by
alike-idle = record { labels = λ n. refl; setup = λ s. refl; words = refl }

-- It is the line that a byte 10 at the end adds to a source.
lines-idle : (names : List Name) (c : Context) (ls : List (List ℕ)) → reads_from names c (ls ++ ([] ∷ [])) ≡ reads_from names c ls ++ (idle ∷ [])
unfolding reads_from read_on read_kind kind_of read_line record_of line_of tokens tokens_past content trim trim_end cut after before idle
lines-idle names c [] = refl
lines-idle names c (l ∷ ls) =
    let r = read_on c (read_line names l) in
    ap (λ (rs : List Read). r ∷ rs) (lines-idle names (context_after c r.effect) ls)

pub reads-ended : (names : List Name) (source : List ℕ) → reads names (source ++ (10 ∷ [])) ≡ reads names source ++ (idle ∷ [])
unfolding reads
reads-ended names source = ap (reads_from names first_context) (lines-ended source) ∙ lines-idle names first_context (lines source)

-- ---- two sources whose lines are alike

module _ (names : List Name) (source source' : List ℕ) (a : Alike (reads names source) (reads names source')) where
  pub alike-addresses : address_in 0 (reads names source) ≡ address_in 0 (reads names source')
  alike-addresses = same-addresses 0 (reads names source) (reads names source') (a.labels 0)

  pub alike-settings : settings_of names source ≡ settings_of names source'
  unfolding settings_of
  alike-settings = a.setup begin

  pub alike-words : length (instructions_of names source) ≡ length (instructions_of names source')
  unfolding instructions_of
  alike-words = coded-length (address_in 0 (reads names source)) 0 (reads names source) ∙ a.words ∙ sym (coded-length (address_in 0 (reads names source')) 0 (reads names source'))

-- A line more that does nothing, after all others.
module _ (names : List Name) (source source' : List ℕ) (e : reads names source' ≡ reads names source ++ (idle ∷ [])) where
  pub idle-alike : Alike (reads names source) (reads names source')
  idle-alike =
      let rs = reads names source in
      subst (λ (x : List Read). Alike x (reads names source')) (append-nil rs) (rw e (alike-below rs [] (idle ∷ []) alike-idle))

  idle-instructions : instructions_of names source ≡ instructions_of names source'
  unfolding instructions_of coded_in coded_by idle
  idle-instructions =
      let at = address_in 0 (reads names source) in
      sym (append-nil (coded_in at 0 (reads names source))) ∙ sym (coded-append at 0 (reads names source) (idle ∷ []))
      ∙ (λ i. coded_in (alike-addresses names source source' idle-alike i) 0 (sym e i))

  pub idle-image : image_of names source ≡ image_of names source'
  unfolding image_of
  idle-image = λ i. image (alike-settings names source source' idle-alike i) (map word_of (idle-instructions i)) []

-- ---- the word of one instruction within an image

-- The bytes of an image before some words and one more that others follow.
abbrev bytes_before : Settings → (above below : List ℕ) → (size : ℕ) → List ℕ
bytes_before s above below size = header_bytes (header_for s (4 * (length above + suc (length below))) size) ++ flat_map (little 4) above

-- The bytes of that word are between them and those of the others.
image-split : (s : Settings) (above below bs : List ℕ) (w : ℕ)
    → image s (above ++ (w ∷ below)) bs ≡ bytes_before s above below (length bs) ++ (little 4 w ++ (flat_map (little 4) below ++ bs))
unfolding image flat_map
image-split s above below bs w =
    (λ i. header_bytes (header_for s (4 * length-append above (w ∷ below) i) (length bs)) ++ (flat_map-append (little 4) above (w ∷ below) i ++ bs))
    ∙ simp append_assoc

module _ (above below : List Read) where
  -- The words of the lines above an instruction, and of those below it, where labels have these addresses,
  abbrev words_above : (List ℕ → Option ℕ) → List ℕ
  words_above addresses = map word_of (coded_in addresses 0 above)

  abbrev words_below : (List ℕ → Option ℕ) → List ℕ
  words_below addresses = map word_of (coded_in addresses (words_in above + 1) below)

  -- and the bytes before its word, those of its word, and those after it.
  unfoldable pub bytes_above : Settings → (List ℕ → Option ℕ) → List ℕ
  bytes_above s addresses = bytes_before s (words_above addresses) (words_below addresses) 0

  unfoldable pub bytes_below : (List ℕ → Option ℕ) → List ℕ
  bytes_below addresses = flat_map (little 4) (words_below addresses) ++ []

  abbrev pub bytes_of : (List ℕ → Option ℕ) → Draft → List ℕ
  bytes_of addresses d = little 4 (word_of (settled addresses (words_in above) d))

  abbrev pub image_by : Settings → (List ℕ → Option ℕ) → Draft → List ℕ
  image_by s addresses d = bytes_above s addresses ++ (bytes_of addresses d ++ bytes_below addresses)

  pub bytes-above-length : (s : Settings) (addresses : List ℕ → Option ℕ) → length (bytes_above s addresses) ≡ 32 + 4 * words_in above
  unfolding bytes_above
  bytes-above-length s addresses =
      let ws = words_above addresses in
      let h = header_for s (4 * (length ws + suc (length (words_below addresses)))) 0 in
      let is = coded_in addresses 0 above in
      omega (arith, length-append (header_bytes h) (flat_map (little 4) ws), header-length h, code-length ws, length-map is word_of, coded-length addresses 0 above)

  -- They are the bytes of a source's image if its lines are these, and that instruction's between them.
  pub word-placed : (names : List Name) (source : List ℕ) (label : Option (List ℕ)) (d : Draft)
      → reads names source ≡ above ++ (record { label = label; effect = codes d } ∷ below)
      → image_of names source ≡ image_by (settings_of names source) (address_in 0 (reads names source)) d
  unfolding image_of bytes_above bytes_below words_of
  word-placed names source label d e =
      let at = address_in 0 (reads names source) in
      let setup = settings_of names source in
      let one = settled at (words_in above) d in
      let upper = coded_in at 0 above in
      let lower = coded_in at (words_in above + 1) below in
      ap (λ (is : List Instruction). image setup (map word_of is) []) (placed-instruction names source above (record { label = label; effect = codes d }) below e d refl)
      ∙ ap (λ (ws : List ℕ). image setup ws []) (map-append word_of upper (one ∷ lower))
      ∙ image-split setup (map word_of upper) (map word_of lower) [] (word_of one)
