-- An edited line touches its own word, whatever the names, the label tables and the image buffers.
use Prim.Native.Nat.{ℕ, ◌+◌, ◌*◌}
use mathlib.Core.Path.{◌≡◌, refl, sym, ap, ap₂, ◌∙◌}
use native.Mathlib.Omega.{arith}
use mathlib.Core.Bool.{Bool, true, false}
use mathlib.Core.Option.{Option}
use mathlib.Core.List.{List, [], ◌∷◌, ◌++◌, map}
use lib.ListN.{length, take, drop, length-append, length-map}
use lib.Seq.{drop-drop, take_at, drop_at}
use Rattle.text_lexical.specs.Numbers.{little}
use Rattle.text_lexical.specs.Names.{Name}
use Rattle.text.specs.Lines.{lines, read_line}
use Rattle.instruction.specs.Operands.{Draft}
use Rattle.instruction.specs.Words.{word_of}
use Rattle.image.specs.Settings.{Settings}
use Rattle.image.specs.Assembling.{Label, Context, first_context, codes, Read, read_on, changed_by, context_after, reads_from, reads, address_in, Assembled as Reading, assembling}
use Rattle.image.specs.Meaning.{settled, instructions_of, settings_of, image_of, Accepted}
use Rattle.image.specs.Lent.{assembled, entered, addressed}
use Rattle.image_labels.specs.Promised.{entry_of}
use Rattle.image_labels.specs.declared.label.Label.{Label as Entry}
use Rattle.image_assembler.specs.Promised.{answer_meant}
use Rattle.image.proofs.Over.{take-over}
use Rattle.image.proofs.Spelled.{AllSpelled, entered-spelled}
use Rattle.image.proofs.Walking.{words_in, labels_in, accepted-assembles}
use Rattle.image.proofs.Edited.{Alike, alike-back, alike-on, alike-below, alike-edited, alike-addresses, alike-settings, alike-words, alike-same, reads-ended, idle-alike, idle-image, bytes_above, bytes_below, bytes_of, image_by, bytes-above-length, word-placed}
use Rattle.guarantees.specs.Calls.{label_count, AcceptedCall}
use Rattle.guarantees.specs.Edits.{left_by, read_below, Edit, words_above, place, AgreeBut, IsWordOf, labels_of, entry_read, called_labels, ended, Edits}
use Rattle.guarantees.proofs.Calls.{answers, accepted-here, filled-image}
use Rattle.guarantees.proofs.Targets.{drafted-length}

-- ---- bytes that differ in four

module _ (front word back : List ℕ) (at : ℕ) (f : length front ≡ at) (w : length word ≡ 4) where
  abbrev bytes : List ℕ
  bytes = front ++ (word ++ back)

  word-at : take 4 (drop at bytes) ≡ word
  word-at = ap (take 4) (drop_at front (word ++ back) at f) ∙ take_at word back 4 w

  front-of : take at bytes ≡ front
  front-of = take_at front (word ++ back) at f

  back-of : drop (at + 4) bytes ≡ back
  back-of = sym (drop-drop 4 at bytes) ∙ ap (drop 4) (drop_at front (word ++ back) at f) ∙ drop_at word back 4 w

  length-of : length bytes ≡ at + 4 + length back
  length-of = omega (arith, length-append front (word ++ back), length-append word back)

agree : (front word word' back : List ℕ) (at : ℕ) → length front ≡ at → length word ≡ 4 → length word' ≡ 4 → AgreeBut at (front ++ (word ++ back)) (front ++ (word' ++ back))
agree front word word' back at f w w' =
    record {
      as_long = length-of front word back at f w ∙ sym (length-of front word' back at f w');
      within = omega (arith, length-of front word back at f w);
      before = front-of front word back at f w ∙ sym (front-of front word' back at f w');
      after = back-of front word back at f w ∙ sym (back-of front word' back at f w');
    }

-- ---- a line among those of a source

reads-append : (names : List Name) (c : Context) (above below : List (List ℕ))
    → reads_from names c (above ++ below) ≡ reads_from names c above ++ reads_from names (left_by names c above) below
unfolding reads_from left_by
reads-append names c [] below = refl
reads-append names c (l ∷ above) below =
    let r = read_on c (read_line names l) in
    ap (λ (rs : List Read). r ∷ rs) (reads-append names (context_after c r.effect) above below)

-- An instruction leaves the context as it is, so the lines below it are read as if it were not there.
pub reads-at : (names : List Name) (source : List ℕ) (above : List (List ℕ)) (line : List ℕ) (below : List (List ℕ)) (label : Option (List ℕ)) (d : Draft)
    → lines source ≡ above ++ (line ∷ below) → read_below names above line ≡ record { label = label; effect = codes d }
    → reads names source ≡ reads_from names first_context above ++ (record { label = label; effect = codes d } ∷ reads_from names (left_by names first_context above) below)
unfolding reads reads_from context_after changed_by
reads-at names source above line below label d e h =
    let c = left_by names first_context above in
    let upper = reads_from names first_context above in
    ap (reads_from names first_context) e ∙ reads-append names first_context above (line ∷ below)
    ∙ ap (λ (r : Read). upper ++ (r ∷ reads_from names (context_after c r.effect) below)) h

-- Its word is at its place.
pub own-word : (names : List Name) (source : List ℕ) (above below : List Read) (label : Option (List ℕ)) (d : Draft)
    → reads names source ≡ above ++ (record { label = label; effect = codes d } ∷ below) → (words : ℕ) → words_in above ≡ words
    → IsWordOf names source (image_of names source) (32 + 4 * words) words d
unfolding little
own-word names source above below label d e words h =
    let at = address_in 0 (reads names source) in
    let setup = settings_of names source in
    ap (λ (b : List ℕ). take 4 (drop (32 + 4 * words) b)) (word-placed above below names source label d e)
    ∙ word-at (bytes_above above below setup at) (bytes_of above below at d) (bytes_below above below at) (32 + 4 * words)
    (bytes-above-length above below setup at ∙ ap (λ (n : ℕ). 32 + 4 * n) h) refl
    ∙ ap (λ (n : ℕ). little 4 (word_of (settled at n d))) h

-- ---- two sources that differ in one line

module _ {names : List Name} {s s' : List ℕ} (e : Edit names s s') where
  abbrev upper : List Read
  upper = reads_from names first_context e.above

  abbrev lower : List Read
  lower = reads_from names (left_by names first_context e.above) e.below

  reads-one : reads names s ≡ upper ++ (record { label = e.label; effect = codes e.draft } ∷ lower)
  reads-one = reads-at names s e.above e.line e.below e.label e.draft e.stands e.holds

  reads-other : reads names s' ≡ upper ++ (record { label = e.label; effect = codes e.draft' } ∷ lower)
  reads-other = reads-at names s' e.above e.line' e.below e.label e.draft' e.stands' e.holds'

  pub edit-alike : Alike (reads names s) (reads names s')
  edit-alike =
      rw (reads-one, reads-other)
      (alike-below upper (record { label = e.label; effect = codes e.draft } ∷ lower) (record { label = e.label; effect = codes e.draft' } ∷ lower)
      (alike-edited e.label e.draft e.draft' lower))

  before : words_in upper ≡ words_above e
  before = sym (drafted-length upper)

  abbrev addresses : List ℕ → Option ℕ
  addresses = address_in 0 (reads names s)

  image-one : image_of names s ≡ image_by upper lower (settings_of names s) addresses e.draft
  image-one = word-placed upper lower names s e.label e.draft reads-one

  -- The other's labels have the same addresses.
  image-other : image_of names s' ≡ image_by upper lower (settings_of names s) addresses e.draft'
  image-other =
      word-placed upper lower names s' e.label e.draft' reads-other
      ∙ ap₂ (λ (x : Settings) (a : List ℕ → Option ℕ). image_by upper lower x a e.draft') (sym (alike-settings names s s' edit-alike)) (sym (alike-addresses names s s' edit-alike))

  edit-agrees : AgreeBut (place e) (image_of names s) (image_of names s')
  unfolding little
  edit-agrees =
      let setup = settings_of names s in
      let front : length (bytes_above upper lower setup addresses) ≡ place e = bytes-above-length upper lower setup addresses ∙ ap (λ (n : ℕ). 32 + 4 * n) before in
      rw (image-one, image-other)
      (agree (bytes_above upper lower setup addresses) (bytes_of upper lower addresses e.draft) (bytes_of upper lower addresses e.draft') (bytes_below upper lower addresses)
      (place e) front refl refl)

  edit-words : IsWordOf names s (image_of names s) (place e) (words_above e) e.draft × IsWordOf names s' (image_of names s') (place e) (words_above e) e.draft'
  edit-words = (
    own-word names s upper lower e.label e.draft reads-one (words_above e) before,
    own-word names s' upper lower e.label e.draft' reads-other (words_above e) before,
  )

-- ---- the end of a source

-- With a final byte 10 a source has the same labels, settings and count of words, and the same image.
ended-alike : (names : List Name) (b : Bool) (s : List ℕ) → Alike (reads names s) (reads names (ended b s))
ended-alike names false s = alike-same (reads names s)
ended-alike names true s = idle-alike names s (s ++ (10 ∷ [])) (reads-ended names s)

ended-image : (names : List Name) (b : Bool) (s : List ℕ) → image_of names s ≡ image_of names (ended b s)
ended-image names false s = refl
ended-image names true s = idle-image names s (s ++ (10 ∷ [])) (reads-ended names s)

-- The word at a place is the same instruction's.
ended-word : (names : List Name) (b : Bool) (s : List ℕ) (at words : ℕ) (d : Draft)
    → IsWordOf names (ended b s) (image_of names (ended b s)) at words d → IsWordOf names s (image_of names s) at words d
ended-word names b s at words d h =
    ap (λ (x : List ℕ). take 4 (drop at x)) (ended-image names b s) ∙ h
    ∙ ap (λ (a : List ℕ → Option ℕ). little 4 (word_of (settled a words d))) (sym (alike-addresses names s (ended b s) (ended-alike names b s)))

-- ---- two sources that differ in one line, once a final byte 10 is added to either, both or none

module _ {names : List Name} (s s' : List ℕ) (b b' : Bool) (e : Edit names (ended b s) (ended b' s')) where
  ended-edit-alike : Alike (reads names s) (reads names s')
  ended-edit-alike = alike-on _ _ _ (ended-alike names b s) (alike-on _ _ _ (edit-alike e) (alike-back _ _ (ended-alike names b' s')))

  ended-edit-agrees : AgreeBut (place e) (image_of names s) (image_of names s')
  ended-edit-agrees = rw (ended-image names b s, ended-image names b' s') (edit-agrees e)

  ended-edit-words : IsWordOf names s (image_of names s) (place e) (words_above e) e.draft × IsWordOf names s' (image_of names s') (place e) (words_above e) e.draft'
  ended-edit-words =
      let (w, w') = edit-words e in
      (ended-word names b s (place e) (words_above e) e.draft w, ended-word names b' s' (place e) (words_above e) e.draft' w')

-- ---- what is entered, and what calls answer

-- The labels of an accepted source are those of its lines,
accepted-labels : (names : List Name) (s : List ℕ) (t i : ℕ) → Accepted names s t i → labels_of (assembling names s t i) ≡ labels_in 0 (reads names s)
unfolding entered
accepted-labels names s t i k = let a = accepted-assembles names s t i k in ap labels_of a.answer ∙ a.means.labels

-- the entries of labels that are spelled where they start are read as they,
entries-read : (s : List ℕ) (ls : List Label) → AllSpelled s ls → map (entry_read s) (map entry_of ls) ≡ map addressed ls
unfolding AllSpelled
entries-read s [] h = refl
entries-read s (l ∷ ls) (h, hs) = ap₂ (λ (u : List ℕ) (ms : List (List ℕ × ℕ)). (u, l.address) ∷ ms) h.spells (entries-read s ls hs)

module _ {names : List Name} {source : List ℕ} (c : AcceptedCall names source) where
  abbrev read : Reading
  read = assembling names source (length c.table) (length c.image)

  call-answers : answer_meant c.answer ≡ assembled (length (instructions_of names source)) (length (entered read)) (settings_of names source)
  call-answers = answers names source (length c.table) c.image c.image' (answer_meant c.answer) c.promised.answer c.promised.image_holds (accepted-here c)

  -- and a call leaves the labels of its source in the table,
  call-labels : called_labels c ≡ labels_of read
  call-labels =
      let es = map entry_of (entered read) in
      let n : label_count (answer_meant c.answer) ≡ length es = ap label_count call-answers ∙ sym (length-map (entered read) entry_of) in
      ap₂ (λ (k : ℕ) (t : List Entry). map (entry_read source) (take k t)) n c.promised.table_holds
      ∙ ap (map (entry_read source)) (take-over es c.table)
      ∙ entries-read source (entered read) (entered-spelled names source (length c.table) (length c.image))

module _ (names : List Name) (s s' : List ℕ) (a : Alike (reads names s) (reads names s')) where
  -- so sources whose lines are alike have the same,
  alike-labels : (t t' i i' : ℕ) → Accepted names s t i → Accepted names s' t' i' → labels_of (assembling names s t i) ≡ labels_of (assembling names s' t' i')
  alike-labels t t' i i' k k' = accepted-labels names s t i k ∙ a.labels 0 ∙ sym (accepted-labels names s' t' i' k')

  -- and calls with them enter the same and answer the same.
  module _ (c : AcceptedCall names s) (c' : AcceptedCall names s') where
    alike-read : labels_of (read c) ≡ labels_of (read c')
    alike-read = alike-labels (length c.table) (length c'.table) (length c.image) (length c'.image) (accepted-here c) (accepted-here c')

    alike-called : called_labels c ≡ called_labels c'
    alike-called = call-labels c ∙ alike-read ∙ sym (call-labels c')

    alike-answers : answer_meant c.answer ≡ answer_meant c'.answer
    alike-answers =
        let ls = entered (read c) in
        let ls' = entered (read c') in
        let count : length ls ≡ length ls' = sym (length-map ls addressed) ∙ ap length alike-read ∙ length-map ls' addressed in
        call-answers c ∙ (λ j. assembled (alike-words names s s' a j) (count j) (alike-settings names s s' a j)) ∙ sym (call-answers c')

-- ---- the promises

pub edits : Edits
edits =
    record {
      touched = λ names s s' b b' e t t' i i' k k'.
          let a = ended-edit-alike s s' b b' e in
          (ended-edit-agrees s s' b b' e, alike-settings names s s' a, alike-labels names s s' a t t' i i' k k');
      own_word = λ names s s' b b' e. ended-edit-words s s' b b' e;
      end_untouched = λ names s t t' i i' k k'.
          let a = ended-alike names true s in
          (ended-image names true s, alike-settings names s (ended true s) a, alike-labels names s (ended true s) a t t' i i' k k');
      calls_touched = λ names s s' b b' e c c'.
          let a = ended-edit-alike s s' b b' e in
          (rw (filled-image c, filled-image c') (ended-edit-agrees s s' b b' e), alike-answers names s s' a c c', alike-called names s s' a c c');
      calls_own_word = λ names s s' b b' e c c'. rw (filled-image c, filled-image c') (ended-edit-words s s' b b' e);
      calls_end_untouched = λ names s c c'.
          let a = ended-alike names true s in (
            filled-image c ∙ ended-image names true s ∙ sym (filled-image c'),
            alike-answers names s (ended true s) a c c',
            alike-called names s (ended true s) a c c',
          );
    }
