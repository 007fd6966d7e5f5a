-- Laws of the two walks over a source.
use Prim.Native.Nat.{ℕ, suc, ◌+◌, ◌-◌, ◌≤◌, ◌<◌}
use mathlib.Core.Path.{◌≡◌, refl, sym, ap, ap₂, subst, ◌∙◌}
use native.Mathlib.Omega.{arith}
use native.Mathlib.Numerals.{add-one}
use mathlib.Core.Bool.{Bool, true, false, not, true≢false}
use mathlib.Core.Option.{Option, none, some}
use mathlib.Core.List.{List, [], ◌∷◌, ◌++◌, map, flat_map, append-nil, append_assoc, map-append}
use lib.ListN.{length, drop}
use lib.Dec.{eqb, ltb}
use borrow.Author.Tests.{ltb-true, ltb-false}
use Rattle.std.specs.Int.{to_le_bytes, w32}
use Rattle.std.specs.Prelude.{Some, None, Result, Ok, Err, cond, count_by}
use Rattle.std.specs.Prelude.{Option as Maybe}
use Rattle.std.proofs.lemmas.List.Sums.{sum_by-cons}
use Rattle.refusal.specs.Refusals.{number_of}
use Rattle.refusal.specs.declared.refusal.Refusal.{Refusal}
use Rattle.text_lexical.specs.Bytes.{inside}
use Rattle.text_lexical.specs.Numbers.{little}
use Rattle.text_lexical.specs.Names.{Name}
use Rattle.text_lexical.specs.declared.number.Whole.{Whole}
use Rattle.text.specs.Lines.{extended, lines, indent, read_line}
use Rattle.text.specs.Lines.{Line as Record}
use Rattle.text.specs.Places.{rest_at, end_at}
use Rattle.text_lexical.proofs.Tests.{split}
use Rattle.text_writer.specs.Sinks.{SinkLaws}
use Rattle.text_writer.proofs.Sinks.{Left, left-all, left-fits, left-next}
use Rattle.text_writer.proofs.Writing.{little-four}
use Rattle.text.proofs.Lines.{line_at, last_line}
use Rattle.instruction.specs.Operands.{Instruction}
use Rattle.instruction.specs.Words.{word_of}
use Rattle.instruction.specs.Promised.{operands_with, parts_meant, spelled_in, draft_meant, draft_for, label_start, DraftSettled}
use Rattle.instruction.specs.declared.instruction.Draft.{Draft}
use Rattle.image.specs.Settings.{begin}
use Rattle.image.specs.Assembling.{nothing, sets, codes, faulty, changed_by, context_after, reads_from, reads, most_words, words_of, target_fault, Fault, first_fault, fault_in}
use Rattle.image.specs.Assembling.{Effect as MeantEffect, Read as MeantRead}
use Rattle.image.specs.Meaning.{coded_by, coded_in, instructions_of}
use Rattle.image.specs.Promised.{settings_meant}
use Rattle.image.specs.declared.config.Config.{Config}
use Rattle.image.proofs.Walking.{words_in, coded-length}
use Rattle.image_line.specs.Promised.{context_for, effect_meant, effect_label, effect_for, end_of, next_line, LineIs}
use Rattle.image_line.specs.declared.line.Effect.{Effect}
use Rattle.image_line.specs.declared.line.Effect.TheVariants.{Nothing, Sets, Codes}
use Rattle.image_line.specs.declared.line.Read.{Read}
use Rattle.image_passes.specs.Promised.{read_at, all_read, Readable, code_bytes, addresses, number_of_draft, coded_until, bytes_until, line_refused, refused_for, PutsWords}
use Rattle.image_passes.proofs.Reaching.{reads_after}
use Rattle.image_passes.proofs.Resolving.{number-good, number-bad, draft-word}
use Rattle.image_passes.proofs.Steps.{effect_is, effect-for}

-- ---- counting lines

-- There is one line more than line ends.
pub lines_count : (u : List ℕ) → 1 + count_by (λ b. not (inside b)) u ≡ length (lines u)
unfolding lines extended inside
lines_count [] = refl
lines_count (b ∷ u) = ap (λ (n : ℕ). 1 + n) (sum_by-cons (λ b. cond (not (inside b)) 1 0) b u) ∙ go (eqb b 10) (lines u) (lines_count u)
  where
    go : (v : Bool) (ls : List (List ℕ)) → 1 + count_by (λ b. not (inside b)) u ≡ length ls
        → 1 + (cond (not (not v)) 1 0 + count_by (λ b. not (inside b)) u) ≡ length {A = List ℕ} (elim v [ true ↦ [] ∷ ls | false ↦ extended b ls ])
    go true ls h = omega (arith, h)
    go false [] h = absurd (omega (arith, h))
    go false (l ∷ ls) h = omega (arith, h)

-- ---- where the next line begins

pub next-some : (size end : ℕ) {n : ℕ} → next_line size end ≡ Some n → (end < size) × (n ≡ end + 1)
next-some size end {n} = go (ltb end size) refl
  where
    go : (b : Bool) → ltb end size ≡ b → elim b [ true ↦ Some (end + 1) | false ↦ None ] ≡ Some n → (end < size) × (n ≡ end + 1)
    go true h e = (ltb-true end size h, let z : end + 1 ≡ n = cc in sym z)
    go false h e = let y : ◌≡◌ {A = ℕ} 0 1 = cc in absurd (omega arith)

pub next-none : (size end : ℕ) → next_line size end ≡ None → size ≤ end
next-none size end = go (ltb end size) refl
  where
    go : (b : Bool) → ltb end size ≡ b → ◌≡◌ {A = Maybe ℕ} (elim b [ true ↦ Some (end + 1) | false ↦ None ]) None → size ≤ end
    go true h e = let y : ◌≡◌ {A = ℕ} 0 1 = cc in absurd (omega arith)
    go false h e = ltb-false end size h

-- ---- the bytes of words

flat_append : {A : Type 0} (f : A → List ℕ) (xs ys : List A) → flat_map f (xs ++ ys) ≡ flat_map f xs ++ flat_map f ys
unfolding flat_map
flat_append f [] ys = refl
flat_append f (x ∷ xs) ys = ap (λ (l : List ℕ). f x ++ l) (flat_append f xs ys) ∙ sym (append_assoc (f x) (flat_map f xs) (flat_map f ys))

unfoldable pub bytes_of : List Instruction → List ℕ
bytes_of is = flat_map (little 4) (map word_of is)

bytes-append : (is js : List Instruction) → bytes_of (is ++ js) ≡ bytes_of is ++ bytes_of js
unfolding bytes_of
bytes-append is js = ap (flat_map (little 4)) (map-append word_of is js) ∙ flat_append (little 4) (map word_of is) (map word_of js)

-- ---- the lines up to the first whose label is refused

module _ (a : List ℕ → Option ℕ) (words : ℕ) (r : MeantRead) (rs : List MeantRead) where
  -- A line whose label is not refused: its word, if it has one, comes before those of the others,
  until-cons : target_fault a words r.effect ≡ none → bytes_of (coded_until a words (r ∷ rs)) ≡ bytes_of (coded_by a words r.effect) ++ bytes_of (coded_until a (words + words_of r.effect) rs)
  unfolding coded_until
  until-cons e = rw (coded_until, e) (bytes-append (coded_by a words r.effect) (coded_until a (words + words_of r.effect) rs))

  -- and one of those decides.
  fault-cons : (line : ℕ) → target_fault a words r.effect ≡ none → first_fault a line words (r ∷ rs) ≡ first_fault a (suc line) (words + words_of r.effect) rs
  unfolding first_fault
  fault-cons line e = rw (first_fault, e)

  -- A line whose label is refused decides, and none of their words is put.
  until-stop : {n : ℕ} → target_fault a words r.effect ≡ some n → bytes_of (coded_until a words (r ∷ rs)) ≡ []
  unfolding coded_until bytes_of flat_map
  until-stop e = rw (coded_until, e)

  fault-stop : (line : ℕ) {n : ℕ} → target_fault a words r.effect ≡ some n → first_fault a line words (r ∷ rs) ≡ some (record { number = n; line = line })
  unfolding first_fault
  fault-stop line e = rw (first_fault, e)

-- Where no label is refused, they are all the lines.
until-all : (a : List ℕ → Option ℕ) (line words : ℕ) (rs : List MeantRead) → first_fault a line words rs ≡ none → coded_until a words rs ≡ coded_in a words rs
unfolding first_fault coded_until coded_in
until-all a line words [] h = refl
until-all a line words (r ∷ rs) h = go (target_fault a words r.effect) h (until-all a (suc line) (words + words_of r.effect) rs)
  where
    later : ℕ
    later = words + words_of r.effect

    go : (o : Option ℕ) → ◌≡◌ {A = Option Fault} (elim o [ some n ↦ some (record { number = n; line = line }) | none ↦ first_fault a (suc line) later rs ]) none
        → (first_fault a (suc line) later rs ≡ none → coded_until a later rs ≡ coded_in a later rs)
        → ◌≡◌ {A = List Instruction} (elim o [ some n ↦ [] | none ↦ coded_by a words r.effect ++ coded_until a later rs ]) (coded_by a words r.effect ++ coded_in a later rs)
    go none h k = ap (λ (is : List Instruction). coded_by a words r.effect ++ is) (k h)
    go (some n) h k = let y : ◌≡◌ {A = ℕ} 0 1 = cc in absurd (omega arith)

-- So where no label of a source is refused, all its words are put.
pub bytes-all : (names : List Name) (s : List ℕ) → fault_in (reads names s) ≡ none → bytes_until names s ≡ code_bytes names s
unfolding fault_in code_bytes instructions_of
bytes-all names s h = ap (λ (is : List Instruction). flat_map (little 4) (map word_of is)) (until-all (addresses names s) 1 0 (reads names s) h)

-- ---- a line and those after it

pub line-split : (s : List ℕ) (at : ℕ) → at ≤ length s → (rest : List (List ℕ)) × (lines (drop at s) ≡ rest_at s at ∷ rest)
line-split s at h = split (end_at s at) (length s) (λ l. (_, line_at s at h l)) (λ l. (_, last_line s at h l))

-- A line that can be read has no bad token, and others after it can be read too.
read-on : (names : List Name) (l : List ℕ) (ls : List (List ℕ)) → all_read names (l ∷ ls) ≡ true → (read_line names l ≡ none → ⊥) × (all_read names ls ≡ true)
unfolding all_read
read-on names l ls h = go (read_line names l) h
  where
    go : (o : Option Record) → elim o [ none ↦ false | some _ ↦ all_read names ls ] ≡ true → (o ≡ none → ⊥) × (all_read names ls ≡ true)
    go none e = absurd (true≢false (sym e))
    go (some r) e = (λ z. no_record z, e)
      where
        no_record : {r : Record} → ◌≡◌ {A = Option Record} (some r) none → ⊥
        no_record z = let y : ◌≡◌ {A = ℕ} 0 1 = cc in absurd (omega arith)

-- ---- the second walk

-- Why the source is refused for a label, and the words that are left, are those of lines that read so, from the one with a number on, after
-- so many words.
pub record Ahead {S : Type 0} (Fits : S → List ℕ → Type 0) (Took : S → List ℕ → S → Type 0) (names : List Name) (s : List ℕ) (first now : S) (line words : ℕ) (rs : List MeantRead) : Type 0 where
  pub most : words + words_in rs ≤ 32768
  pub fault : fault_in (reads names s) ≡ first_fault (addresses names s) line words rs
  pub left : Left Fits Took first (bytes_until names s) now (bytes_of (coded_until (addresses names s) words rs))

-- The words of the lines before a place are put, and the lines from there on are left, where the settings there are these.
pub record Worded {S : Type 0} (Fits : S → List ℕ → Type 0) (Took : S → List ℕ → S → Type 0) (names : List Name) (s : List ℕ) (first now : S) (at line words : ℕ) (c : Config) : Type 0 where
  pub in_text : at ≤ length s
  pub few_lines : line ≤ at + 1
  pub readable : all_read names (lines (drop at s)) ≡ true
  pub ahead : Ahead Fits Took names s first now line words (reads_after names s at c)

module _ {S : Type 0} {Fits : S → List ℕ → Type 0} {Took : S → List ℕ → S → Type 0} (laws : SinkLaws Fits Took) {names : List Name} {s : List ℕ} {first : S} where
  pub worded_none : (c : Config) → settings_meant c ≡ begin → Readable names s → length (instructions_of names s) ≤ 32768 → Fits first (bytes_until names s)
      → Worded Fits Took names s first first 0 1 0 c
  unfolding bytes_of instructions_of fault_in reads
  worded_none c e h few k =
      let rs = reads names s in
      let starts : Ahead Fits Took names s first first 1 0 rs = record { most = omega (arith, few, coded-length (addresses names s) 0 rs); fault = refl; left = left-all laws refl k } in
      record { in_text = omega arith; few_lines = omega arith; readable = h; ahead = rw e starts }

  module _ {now : S} {at line words : ℕ} {c : Config} (d : Worded Fits Took names s first now at line words c) {r : Read} (h : LineIs names s at (context_for c) r) where
    abbrev a : List ℕ → Option ℕ
    a = addresses names s

    here : read_line names (rest_at s at) ≡ none → ⊥
    here = let (rest, q) = line-split s at d.in_text in (read-on names (rest_at s at) rest (rw q at d.readable)).0

    ends : r.end ≡ end_at s at
    unfolding end_of
    ends = h.ends ∙ go (read_line names (rest_at s at)) here
      where
        go : (o : Option Record) → (o ≡ none → ⊥) → elim o [ none ↦ at + indent (rest_at s at) | some x ↦ end_at s at ] ≡ end_at s at
        go none k = absurd (k refl)
        go (some x) k = refl

    -- What is left after the line is less.
    pub worded_less : {n : ℕ} → next_line (length s) r.end ≡ Some n → length s - n < length s - at
    unfolding end_at
    worded_less e = let (k, z) = next-some (length s) r.end e in omega (arith, ends, k, z)

    -- What the line does, and those after it.
    abbrev read : MeantRead
    read = read_at names s at (settings_meant c)

    does : effect_meant s r.effect ≡ read.effect
    does = effect_is c h

    abbrev reads-on : List (List ℕ) → List MeantRead
    reads-on rest = reads_from names (record { setup = changed_by (settings_meant c) read.effect }) rest

    here-ahead : (rest : List (List ℕ)) → lines (drop at s) ≡ rest_at s at ∷ rest → Ahead Fits Took names s first now line words (read ∷ reads-on rest)
    unfolding reads_from context_after
    here-ahead rest q = rw q at d.ahead

    -- ---- a line whose label, if it names one, is not refused

    -- What it does is done: so many words there are then, and these settings, and its word is put.
    pub record Did (t : S) (words' : ℕ) (c' : Config) : Type 0 where
      pub no-fault : target_fault a words read.effect ≡ none
      pub words_are : words' ≡ words + words_of read.effect
      pub setup_is : settings_meant c' ≡ changed_by (settings_meant c) read.effect
      pub put : (text u : List ℕ) → Left Fits Took first text now (bytes_of (coded_by a words read.effect) ++ u) → Left Fits Took first text t u

    -- Nothing is done,
    pub nothing_done : r.effect ≡ Ok Nothing → Did now words c
    unfolding target_fault words_of changed_by coded_by bytes_of flat_map
    nothing_done b =
        let e : read.effect ≡ nothing = sym does ∙ ap (effect_meant s) b in
        record { no-fault = rw e; words_are = rw e (omega arith); setup_is = rw e; put = λ text u l. rw e at l }

    -- as for a line that is refused;
    pub refused_done : {f : Refusal} → r.effect ≡ Err f → Did now words c
    unfolding target_fault words_of changed_by coded_by bytes_of flat_map
    refused_done {f} b =
        let e : read.effect ≡ faulty (number_of f) = sym does ∙ ap (effect_meant s) b in
        record { no-fault = rw e; words_are = rw e (omega arith); setup_is = rw e; put = λ text u l. rw e at l }

    -- settings are set,
    pub settings_set : {c' : Config} → r.effect ≡ Ok (Sets c') → Did now words c'
    unfolding target_fault words_of changed_by coded_by bytes_of flat_map
    settings_set {c'} b =
        let e : read.effect ≡ sets (settings_meant c') = sym does ∙ ap (effect_meant s) b in
        record { no-fault = rw e; words_are = rw e (omega arith); setup_is = rw e; put = λ text u l. rw e at l }

    -- or a word is put.
    module _ {k : Draft} (b : r.effect ≡ Ok (Codes k)) where
      coded : read.effect ≡ codes (draft_meant (spelled_in s) k)
      coded = sym does ∙ ap (effect_meant s) b

      draft_settled : DraftSettled (spelled_in s) k
      draft_settled =
          let x : ◌≡◌ {A = Result Effect Refusal} (Ok (Codes k)) (Ok (Codes (draft_for (label_start k.amount) (draft_meant (spelled_in s) k))))
          = sym b ∙ effect-for c h ∙ ap₂ effect_for (ap effect_label b) coded in
          cc

      -- What looking up its label asks for.
      pub few_words : words ≤ most_words
      unfolding most_words
      few_words = omega (arith, d.ahead.most)

      module _ {number : Whole} (n : Ok number ≡ number_of_draft a words (draft_meant (spelled_in s) k)) {w : ℕ} (e : w ≡ word_of (parts_meant (record { mnemonic = k.mnemonic; operands = operands_with k.registers number }))) where
        not-refused : target_fault a words read.effect ≡ none
        unfolding target_fault
        not-refused = ap (target_fault a words) coded ∙ (number-good a words (draft_meant (spelled_in s) k) n).0

        word-bytes : bytes_of (coded_by a words read.effect) ≡ to_le_bytes w32 w
        unfolding bytes_of flat_map coded_by
        word-bytes =
            ap (λ (x : MeantEffect). bytes_of (coded_by a words x)) coded ∙ append-nil _
            ∙ ap (little 4) (sym (e ∙ ap word_of (draft-word a words (spelled_in s) k draft_settled n))) ∙ sym (little-four w)

        word-left : (rest : List (List ℕ)) → lines (drop at s) ≡ rest_at s at ∷ rest
            → Left Fits Took first (bytes_until names s) now (to_le_bytes w32 w ++ bytes_of (coded_until a (words + words_of read.effect) (reads-on rest)))
        word-left rest q =
            subst (λ (u : List ℕ). Left Fits Took first (bytes_until names s) now u)
            (until-cons a words read (reads-on rest) not-refused ∙ ap (λ (u : List ℕ). u ++ bytes_of (coded_until a (words + words_of read.effect) (reads-on rest))) word-bytes)
            (here-ahead rest q).left

        -- It fits.
        pub word_fits : Fits now (to_le_bytes w32 w)
        word_fits = let (rest, q) = line-split s at d.in_text in left-fits laws _ (word-left rest q)

        pub word_put : {t : S} → Took now (to_le_bytes w32 w) t → Did t (words + 1) c
        unfolding words_of changed_by
        word_put {t} k' =
            record {
              no-fault = not-refused;
              words_are = rw coded;
              setup_is = rw coded;
              put = λ text u l. left-next laws k' (rw word-bytes at l);
            }

      -- The label is refused: the words so far are put, and the line decides.
      pub label_refused : {f : Refusal} → Err f ≡ number_of_draft a words (draft_meant (spelled_in s) k) → PutsWords Took names s first now (Err (line_refused f line))
      unfolding target_fault
      label_refused {f} n =
          let (m, (x, y)) = number-bad a words (draft_meant (spelled_in s) k) n in
          let z : target_fault a words read.effect ≡ some m = ap (target_fault a words) coded ∙ x in
          let (rest, q) = line-split s at d.in_text in
          let l = here-ahead rest q in
          record {
            answer = ap (λ (g : Refusal). Err (line_refused g line)) y ∙ sym (ap refused_for (l.fault ∙ fault-stop a words read (reads-on rest) line z));
            took = l.left.taken now (subst (λ (u : List ℕ). Took now u now) (sym (until-stop a words read (reads-on rest) z)) (laws.took_none now));
          }

    -- ---- the lines after it

    module _ {t : S} {words' : ℕ} {c' : Config} (done : Did t words' c') where
      ahead-on : (rest : List (List ℕ)) → lines (drop at s) ≡ rest_at s at ∷ rest → Ahead Fits Took names s first t (line + 1) words' (reads_from names (context_for c') rest)
      unfolding words_in
      ahead-on rest q =
          let l = here-ahead rest q in
          let on : Ahead Fits Took names s first t (suc line) (words + words_of read.effect) (reads-on rest) =
          record {
            most = omega (arith, l.most);
            fault = l.fault ∙ fault-cons a words read (reads-on rest) line done.no-fault;
            left = done.put _ _ (subst (λ (u : List ℕ). Left Fits Took first (bytes_until names s) now u) (until-cons a words read (reads-on rest) done.no-fault) l.left);
          } in
          rw (done.setup_is, done.words_are, add-one line) on

      -- Then the next line is read,
      pub worded_more : {n : ℕ} → next_line (length s) r.end ≡ Some n → Worded Fits Took names s first t n (line + 1) words' c'
      unfolding end_at
      worded_more e =
          let (k, z) = next-some (length s) r.end e in
          let next : suc (end_at s at) ≡ r.end + 1 = omega (arith, ends) in
          let v : lines (drop at s) ≡ rest_at s at ∷ lines (drop (r.end + 1) s) =
          line_at s at d.in_text (rw (← ends) k) ∙ ap (λ (x : ℕ). rest_at s at ∷ lines (drop x s)) next in
          rw z (record {
            in_text = omega arith;
            few_lines = omega (arith, d.few_lines, ends);
            readable = (read-on names (rest_at s at) (lines (drop (r.end + 1) s)) (rw v at d.readable)).1;
            ahead = ahead-on (lines (drop (r.end + 1) s)) v;
          })

      -- or all words are put.
      pub worded_all : next_line (length s) r.end ≡ None → PutsWords Took names s first t (Ok tt)
      unfolding reads_from first_fault coded_until bytes_of flat_map
      worded_all e =
          let l = ahead-on [] (last_line s at d.in_text (rw (← ends) (next-none (length s) r.end e))) in
          record { answer = sym (ap refused_for l.fault); took = l.left.taken t (laws.took_none t) }
