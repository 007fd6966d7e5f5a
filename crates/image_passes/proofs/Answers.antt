-- What the first walk begins with, and what its end says of the source and of the image.
use Prim.Native.Nat.{ℕ, suc, ◌+◌, ◌*◌, ◌≤◌, ◌<◌}
use mathlib.Core.Path.{◌≡◌, refl, sym, ap, ap₂, ◌∙◌, subst}
use native.Mathlib.Omega.{arith}
use mathlib.Core.Bool.{Bool, true, false}
use mathlib.Core.Option.{Option, none, some}
use mathlib.Core.List.{List, [], ◌∷◌, ◌++◌, map, flat_map, append-nil}
use lib.ListN.{length, take, length-map, length-append}
use lib.Seq.{take_all}
use lib.Dec.{leb}
use borrow.Author.Tests.{leb-true, le-leb, lt-leb}
use Rattle.std.specs.Prelude.{⊤, Result, Ok, Err}
use Rattle.refusal.specs.Refusals.{refusal_at}
use Rattle.refusal.specs.declared.refusal.Refusal.TheVariants.{NotAscii}
use Rattle.text_lexical.specs.Bytes.{ascii, every, run, before}
use Rattle.text_lexical.specs.Numbers.{little}
use Rattle.text_lexical.specs.Names.{Name}
use Rattle.text_lexical.proofs.Strings.{take-run, every-run, past-run}
use Rattle.text_writer.specs.Promised.{Written}
use Rattle.text_writer.specs.Laws.{writer_laws}
use Rattle.text_writer.specs.Sinks.{HasRoom, WrittenOn}
use Rattle.text_writer.specs.declared.sink.Writer.{Writer}
use Rattle.text_writer.proofs.Sinks.{PutTwo, put_two}
use Rattle.text.specs.Lines.{lines, indent, read_line}
use Rattle.text.specs.Lines.{Line as Record}
use Rattle.instruction.specs.Words.{word_of}
use Rattle.image.specs.Settings.{Settings, settings, begin}
use Rattle.image.specs.Program.{header_bytes, header_for, header_size, image, image_length}
use Rattle.image.specs.Assembling.{Label, State, start, Step, next, stop, read_on, reads, address_of, entering, doing, step, context_of, Walk, finished, stopped, walk, Fault, fault_in, accepted, rust_line_of, refusing, read_to, most_bytes, reading}
use Rattle.image.specs.Assembling.{line_refused as assembling_refused}
use Rattle.image.specs.Meaning.{instructions_of, settings_of, image_of}
use Rattle.image.specs.Promised.{settings_meant, config_for}
use Rattle.image_labels.specs.Promised.{address_at}
use Rattle.image_labels.specs.Tree.{unlinked, Linked}
use Rattle.image_labels.specs.declared.label.Labels.{Labels}
use Rattle.image_passes.specs.Promised.{all_read, Readable, code_bytes, bytes_until, refused_at, line_refused, first_line, begun, ReadThrough, WalkEnds, Accepts, ReadingEnds, Entered, refused_for, Ready, Fills}
use Rattle.image.specs.declared.config.Config.{Config}
use Rattle.image_passes.specs.declared.first_pass.Cursor.{Cursor}
use Rattle.image_passes.specs.declared.first_pass.Found.{Found}
use Rattle.image_passes.specs.declared.first_pass.Stopped.{Stopped}
use Rattle.image.proofs.Images.{code-length, header-length}
use Rattle.image.proofs.Refused.{OfFault}
use Rattle.image.proofs.Walking.{finished-words, finished-few, finished-setup, finished-addresses}
use Rattle.image.proofs.Targets.{no-target}
use Rattle.image.proofs.Over.{written_over}
use Rattle.image_passes.proofs.Faults.{Numbered, fault-named}
use Rattle.image_passes.proofs.Reaching.{ReachedFrom}
use Rattle.image_passes.proofs.Passes.{bytes-all}

-- ---- a finished walk has read every line

abbrev Done : Walk → Type 0
Done (finished st) = Unit {0}
Done (stopped n line st) = ⊥

walk-reads : (names : List Name) (room line at : ℕ) (st : State) (ls : List (List ℕ)) → Done (walk names room line at st ls) → all_read names ls ≡ true
unfolding walk all_read step entering doing read_on
walk-reads names room line at st [] h = refl
walk-reads names room line at st (l ∷ ls) h = go (read_line names l) h (λ st'. walk-reads names room (suc line) (at + suc (length l)) st' ls)
  where
    go : (o : Option Record) → Done (elim (step room st (at + indent l) (read_on (context_of st) o)) [ next st' ↦ walk names room (suc line) (at + suc (length l)) st' ls | stop n st' ↦ stopped n line st' ])
        → ((st' : State) → Done (walk names room (suc line) (at + suc (length l)) st' ls) → all_read names ls ≡ true)
        → elim o [ none ↦ false | some _ ↦ all_read names ls ] ≡ true
    go none f k = absurd f
    go (some r) f k = on (step room st (at + indent l) (read_on (context_of st) (some r))) f
      where
        on : (d : Step) → Done (elim d [ next st' ↦ walk names room (suc line) (at + suc (length l)) st' ls | stop n st' ↦ stopped n line st' ]) → all_read names ls ≡ true
        on (next st') g = k st' g
        on (stop n st') g = absurd g

-- ---- the bytes of the image

module _ {names : List Name} {s : List ℕ} {words : ℕ} {setup : Settings} (r : Ready names s words setup) where
  -- No label is refused, so all words are put.
  all-put : bytes_until names s ≡ code_bytes names s
  all-put = bytes-all names s r.faultless

  code-long : length (bytes_until names s) ≡ 4 * words
  unfolding code_bytes
  code-long = ap (λ (u : List ℕ). length u) all-put ∙ code-length (map word_of (instructions_of names s)) ∙ ap (λ n. 4 * n) (length-map (instructions_of names s) word_of ∙ r.words_are)

  image_is : header_bytes (header_for setup (4 * words) 0) ++ bytes_until names s ≡ image_of names s
  unfolding image_of image code_bytes
  image_is =
      rw (all-put, ← r.setup_is, ← r.words_are, ← length-map (instructions_of names s) word_of)
      (ap (λ (x : List ℕ). header_bytes (header_for (settings_of names s) (4 * length (map word_of (instructions_of names s))) 0) ++ x) (sym (append-nil (flat_map (little 4) (map word_of (instructions_of names s))))))

  abbrev header : List ℕ
  header = header_bytes (header_for setup (4 * words) 0)

  -- A buffer that is long enough has room for the header,
  pub header_fits : (old : List ℕ) → image_length words ≤ length old → 0 + length header ≤ length old
  unfolding image_length header_size
  header_fits old h = omega (arith, header-length (header_for setup (4 * words) 0), h)

  -- and for the words after it,
  pub puts_image : (w : Writer) → w.at ≡ 0 → image_length words ≤ length w.out.now → PutTwo HasRoom WrittenOn w (header ++ bytes_until names s) header (bytes_until names s)
  unfolding image_length header_size
  puts_image w first h =
      put_two writer_laws (record { are = refl })
      (omega (arith, length-append header (bytes_until names s), header-length (header_for setup (4 * words) 0), code-long, first, h))

  -- which are the image.
  pub fills_image : {w t : Writer} {new : List ℕ} → WrittenOn w (header ++ bytes_until names s) t → w.at ≡ 0 → image_length words ≤ length w.out.now → new ≡ t.out.now
      → Fills names s words w.out.now new (Ok tt)
  fills_image {w} {t} {new} k first h e =
      let l : leb (image_length words) (length w.out.now) ≡ true = le-leb (image_length words) (length w.out.now) h in
      let z : Written w.out.now 0 (header ++ bytes_until names s) t.at new =
      rw e (subst (λ (at : ℕ). Written w.out.now at (header ++ bytes_until names s) t.at t.out.now) first k.written) in
      record { answer = rw l; holds = rw (l, ← image_is) (written_over z) }

  -- The buffer is too short.
  pub fills-not : (old : List ℕ) → length old < image_length words → Fills names s words old old (Err (record { needed = image_length words }))
  fills-not old h =
      let l : leb (image_length words) (length old) ≡ false = lt-leb (image_length words) (length old) h in
      record { answer = rw l; holds = rw l }

-- ---- before any line

module _ (s : List ℕ) where
  not-every : run ascii s < length s → every ascii s ≡ false
  not-every h = ap (every ascii) (sym (take_all (length s) s (omega arith))) ∙ past-run ascii s (length s) h (omega arith)

  all_ascii : length s ≤ run ascii s → every ascii s ≡ true
  all_ascii clean = ap (every ascii) (sym (sym (take-run ascii s) ∙ take_all (run ascii s) s clean)) ∙ every-run ascii s

  -- What the walk begins with.
  pub begins-high : {line : ℕ} → run ascii s < length s → line ≡ length (lines (take (run ascii s) s)) → Err (refused_at NotAscii 0 line) ≡ begun s
  unfolding begun
  begins-high h e = rw (begun, not-every h, e, take-run ascii s)

  pub begins-first : (c : Config) → settings_meant c ≡ begin → length s ≤ run ascii s → Ok (record { at = 0; line = 1; found = record { words = 0; config = c; targets = false } }) ≡ begun s
  unfolding begun settings
  begins-first c e clean =
      ap (λ (x : Settings). Ok (record { at = 0; line = 1; found = record { words = 0; config = config_for x; targets = false } })) e ∙ rw (begun, all_ascii clean)

-- What document 01's walk begins with.
abbrev Begins : List Name → List ℕ → ℕ → Result Cursor Stopped → Type 0
Begins names s room (Ok c) = (c ≡ first_line) × ReachedFrom names s room [] c
Begins names s room (Err t) = WalkEnds names s room [] (Err t)

pub begins-stand : (names : List Name) (s : List ℕ) → length s ≤ most_bytes → (room : ℕ) {b : Result Cursor Stopped} → b ≡ begun s → Begins names s room b
unfolding begun reading start settings reads
begins-stand names s short room e = rw e (go (every ascii s) refl)
  where
    go : (v : Bool) → every ascii s ≡ v → Begins names s room (elim v [ true ↦ Ok first_line | false ↦ Err (refused_at NotAscii 0 (length (lines (before ascii s)))) ])
    go true e = (
      refl,
      record { clean = record { short = le-leb (length s) most_bytes short; ascii_only = e }; state = start; on = refl; labels_are = refl; words_are = refl; setup_is = refl; targets_are = refl },
    )
    go false e = rw (reading, le-leb (length s) most_bytes short, e)

-- ---- the end

module _ {names : List Name} {s : List ℕ} {room : ℕ} {ls : List Label} {f : Found} (j : ReadThrough names s room ls f) where
  -- Each line of a source that was read through can be read,
  through-readable : Readable names s
  through-readable = walk-reads names room 1 0 start (lines s) (subst Done (sym j.walked) tt)

  -- and it has as many instructions as words were counted.
  through-words : length (instructions_of names s) ≡ f.words
  through-words = sym (finished-words names s room j.state j.walked) ∙ j.words_are

  through-few : f.words ≤ 32768
  through-few = rw (← j.words_are) (finished-few names s room j.state j.walked)

  -- What the second walk asks for: the labels, by their spellings,
  pub through-entered : (labels : Labels) → labels.source.now ≡ s → Linked labels → labels.count ≤ most_bytes
      → ((u : List ℕ) → address_at s (take labels.count (unlinked labels.count labels.table.now)) u ≡ address_of ls u) → Entered names labels
  unfolding most_bytes
  through-entered labels same linked few at =
      let short : length s ≤ most_bytes = leb-true (length s) most_bytes j.short in
      record {
        short = rw same short;
        readable = rw same through-readable;
        most = rw (same, through-words) through-few;
        linked = linked;
        few = few;
        addressed = λ u. rw same (at u ∙ ap (λ (l : List Label). address_of l u) (sym j.labels_are) ∙ finished-addresses names s room j.state j.walked u);
      }

  -- and no refusal for one of them.
  pub through-ready : fault_in (reads names s) ≡ none → Ready names s f.words (settings_meant f.config)
  through-ready h =
      record {
        readable = through-readable;
        words_are = through-words;
        most = through-few;
        setup_is = sym (finished-setup names s room j.state j.walked) ∙ j.setup_is;
        faultless = h;
      }

  -- Whether it is refused for one of them is asked only if it names any.
  pub through-untargeted : f.targets ≡ false → fault_in (reads names s) ≡ none
  through-untargeted h = no-target (reads names s) (j.targets_are ∙ h)

  reading-through : reading names s room ≡ read_to (reads names s) (finished j.state)
  unfolding reading
  reading-through = rw (reading, j.short, j.clean, j.walked)

  -- Without such a refusal it is accepted,
  pub through-accepts : fault_in (reads names s) ≡ none → Accepts names s room ls f.words (settings_meant f.config)
  unfolding read_to
  through-accepts h =
      record { state = j.state; accepts = reading-through ∙ rw (read_to, h); labels_are = j.labels_are; words_are = j.words_are; setup_is = j.setup_is }

  -- and with one it is refused.
  pub through-refused : {t : Stopped} → Err t ≡ refused_for (fault_in (reads names s)) → ReadingEnds names s room ls (Err t)
  unfolding read_to assembling_refused
  through-refused {t} h = go (fault_in (reads names s)) refl (fault-named (reads names s)) h
    where
      go : (o : Option Fault) → fault_in (reads names s) ≡ o → OfFault (λ (x : Fault). Numbered x.number) o → ◌≡◌ {A = Result ⊤ Stopped} (Err t) (refused_for o)
          → ReadingEnds names s room ls (Err t)
      go none e n h = let y : ◌≡◌ {A = ℕ} 0 1 = cc in absurd (omega arith)
      go (some x) e n h =
          let z : t ≡ line_refused (refusal_at x.number) x.line = cc in
          rw z
          (reading-through ∙ ap (λ (o : Option Fault). elim o [ none ↦ accepted j.state | some k ↦ assembling_refused k j.state.labels ]) e
          ∙ ap₂ (λ (m : ℕ) (l : List Label). refusing m (rust_line_of m x.line) x.line l none) (sym n) j.labels_are)
