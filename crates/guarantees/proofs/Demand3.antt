-- Demand 3 holds of the definitions, whichever name sets the sources are read by.
use mathlib.Core.Path.{◌≡◌, refl, sym, ap, ap₂, ◌∙◌}
use Prim.Native.Nat.{ℕ, ◌≤◌}
use native.Mathlib.Omega.{arith}
use mathlib.Core.Bool.{Bool, true, false, not, ◌||◌, true≢false}
use mathlib.Core.Option.{Option, none, some}
use mathlib.Core.List.{List, [], ◌∷◌, map}
use lib.ListN.{length, length-map}
use lib.Dec.{leb, eqb}
use lib.IntN.{ℤ}
use borrow.Author.Tests.{leb-true, le-leb, eqb-true, not-true}
use Rattle.text_lexical.specs.Bytes.{bytes, letter, digit, between, name_start, name_part, every, same, is_some, each}
use Rattle.text_lexical.proofs.Tests.{both, or_elim, no_both}
use Rattle.text.specs.Tokens.{is_identifier, is_register}
use Rattle.text.proofs.Lines.{visible}
use Rattle.instruction.specs.Operands.{Instruction}
use Rattle.instruction.specs.Table.{places, Row, row, table}
use Rattle.instruction.specs.Words.{modulo, word_of}
use Rattle.instruction.specs.Fits.{InTable, places_of, number_range, has_number, width_of, number_width, Fits}
use Rattle.instruction.proofs.Rows.{carried, same_row}
use Rattle.instruction.proofs.Decoding.{word-tells, same_word}
use Rattle.image.specs.Settings.{Settings, limb_bits_key, data_limbs_key, addr_limbs_key}
use Rattle.image.specs.Program.{image, image_length, header_of, code_of}
use Rattle.image.specs.Assembling.{State, Assembled, accepted, fitted, assembling}
use Rattle.image.specs.Listing.{words_of, text_of, written, rejected as unlisted, Refusal, refusal, listing_fault, listing}
use Rattle.image.specs.Meaning.{instructions_of, settings_of, image_of, is_accepted, Accepted, is_written, Listed}
use Rattle.image.proofs.Settings.{good}
use Rattle.image.proofs.Images.{byte, image-length}
use Rattle.image.proofs.Listed.{words-of-image, settings-of-image, image-listed, listed-usual}
use Rattle.image.proofs.Walking.{reading-means, accepted-assembles}
use Rattle.image.proofs.ConfigLines.{Key, settings-pass}
use Rattle.image.proofs.Round.{Keys, text-instructions, text-reading}
use Rattle.image.proofs.Fitting.{AllFit, source_fits, fit_words, fit-decoded, words-read, words-again}
use Rattle.guarantees.specs.NameSets.{keys, NameSet}
use Rattle.guarantees.specs.Promises.{bits_for, Same, Agree, AreBytes, Demand3}

-- ---- instructions agree exactly if their words are equal

-- The width of a row's number is the one that the promise states.
stated : Row → Bool
stated r = not (has_number (places_of r)) || eqb (number_width (places_of r)) (bits_for r.mnemonic)

table-stated : each stated table ≡ true
unfolding stated bits_for each table row bytes places number_range has_number is_some width_of number_width same
table-stated = refl

stated-modulo : (r : Row) → InTable r → (n : Option ℤ) → is_some n ≡ has_number (places_of r) → modulo (number_width (places_of r)) n ≡ modulo (bits_for r.mnemonic) n
unfolding stated modulo is_some
stated-modulo r h none e = refl
stated-modulo r h (some z) e =
    let w = or_elim (not (has_number (places_of r))) _ (carried stated table-stated r h) (λ k. no_both (sym e) (not-true (has_number (places_of r)) k)) (λ k. eqb-true (number_width (places_of r)) (bits_for r.mnemonic) k) in
    rw w

same-words : (i j : Instruction) → Fits i → Fits j → Same i j → word_of i ≡ word_of j
same-words i j f g s =
    let r = same_row i.row j.row f.in_table g.in_table s.mnemonic in
    let at_i = stated-modulo i.row f.in_table in
    same_word i j f g r s.registers (at_i i.number f.number ∙ s.number ∙ sym (at_i j.number (rw r g.number)))

words_same : (i j : Instruction) → Fits i → Fits j → word_of i ≡ word_of j → Same i j
words_same i j f g e =
    let (r, s, n) = word-tells i j f g e in
    let at_i = stated-modulo i.row f.in_table in
    record { mnemonic = ap (λ (x : Row). x.mnemonic) r; registers = s; number = sym (at_i i.number f.number) ∙ n ∙ at_i j.number (rw r g.number) }

agree-words : (is js : List Instruction) → AllFit is → AllFit js → Agree is js → map word_of is ≡ map word_of js
agree-words [] [] f g a = refl
agree-words [] (j ∷ js) f g a = absurd a
agree-words (i ∷ is) [] f g a = absurd a
agree-words (i ∷ is) (j ∷ js) f g a = rw (same-words i j f.0 g.0 a.0, agree-words is js f.1 g.1 a.1)

words-agree : (is js : List Instruction) → AllFit is → AllFit js → map word_of is ≡ map word_of js → Agree is js
words-agree [] [] f g e = tt
words-agree [] (j ∷ js) f g e = let z : ◌≡◌ {A = ℕ} 0 1 = cc in omega arith
words-agree (i ∷ is) [] f g e = let z : ◌≡◌ {A = ℕ} 0 1 = cc in omega arith
words-agree (i ∷ is) (j ∷ js) f g e =
    let head : word_of i ≡ word_of j = cc in
    let tail : map word_of is ≡ map word_of js = cc in
    (words_same i j f.0 g.0 head, words-agree is js f.1 g.1 tail)

-- ---- an accepted source

-- What is known of its image.
record Imaged (N : NameSet) (s : List ℕ) (size : ℕ) : Type 0 where
  few : length (map word_of (instructions_of N.names s)) ≤ 32768
  fits : AllFit (instructions_of N.names s)
  room : image_length (length (map word_of (instructions_of N.names s))) ≤ size

imaged : (N : NameSet) (s : List ℕ) (t size : ℕ) → Accepted N.names s t size → Imaged N s size
imaged N s t size h =
    let a = accepted-assembles N.names s t size h in
    let e : length (map word_of (instructions_of N.names s)) ≡ a.state.words = length-map (instructions_of N.names s) word_of ∙ sym a.means.words in
    record { few = rw e a.means.few; fits = source_fits N.names N.naming s; room = rw e a.fits }

-- an image tells its settings and its words
image-tells : (N N' : NameSet) (s s' : List ℕ) (i i' : ℕ) → Imaged N s i → Imaged N' s' i' → image_of N.names s ≡ image_of N'.names s'
    → (settings_of N.names s ≡ settings_of N'.names s') × Agree (instructions_of N.names s) (instructions_of N'.names s')
unfolding image_of
image-tells N N' s s' i i' a b e =
    let c = settings_of N.names s in
    let c' = settings_of N'.names s' in
    let is = instructions_of N.names s in
    let is' = instructions_of N'.names s' in
    let ws = map word_of is in
    let ws' = map word_of is' in
    let g = settings-pass N.names s in
    let g' = settings-pass N'.names s' in (
      sym (settings-of-image c ws [] g a.few (omega arith)) ∙ ap (λ (x : List ℕ). (header_of x).setup) e ∙ settings-of-image c' ws' [] g' b.few (omega arith),
      words-agree is is' a.fits b.fits (sym (words-of-image c ws [] g a.few (omega arith) (fit_words is a.fits)) ∙ ap (λ (x : List ℕ). words_of (code_of x)) e ∙ words-of-image c' ws' [] g' b.few (omega arith) (fit_words is' b.fits)),
    )

-- ---- what is listed

-- The listing accepts an image that has a text and whose text has room.
listed-none : (b : List ℕ) (n : ℕ) → Listed b n → (listing_fault b ≡ none) × (length (text_of b) ≤ n)
unfolding listing is_written
listed-none b n h = go (listing_fault b) refl h
  where
    room : (v : Bool) → leb (length (text_of b)) n ≡ v
        → is_written (elim v [ true ↦ written (text_of b) | false ↦ unlisted (refusal 32 none (some (length (text_of b)))) ]) ≡ true → length (text_of b) ≤ n
    room true e g = leb-true (length (text_of b)) n e
    room false e g = absurd (true≢false (sym g))

    go : (o : Option Refusal) → listing_fault b ≡ o
        → is_written (elim o [
          | some r ↦ unlisted r
          | none ↦ elim (leb (length (text_of b)) n) [ true ↦ written (text_of b) | false ↦ unlisted (refusal 32 none (some (length (text_of b)))) ]
        ]) ≡ true → (listing_fault b ≡ none) × (length (text_of b) ≤ n)
    go (some r) e g = absurd (true≢false (sym g))
    go none e g = (e, room (leb (length (text_of b)) n) refl g)

none_written : (b : List ℕ) (n : ℕ) → listing_fault b ≡ none → length (text_of b) ≤ n → listing b n ≡ written (text_of b)
unfolding listing
none_written b n h l = rw (listing, h, le-leb (length (text_of b)) n l)

none-listed : (b : List ℕ) (n : ℕ) → listing_fault b ≡ none → length (text_of b) ≤ n → Listed b n
unfolding is_written
none-listed b n h l = ap is_written (none_written b n h l)

-- ---- the text of what is listed, as a source

key_of : (N : NameSet) (key : List ℕ) → is_identifier key ≡ true → not (is_register N.names key) ≡ true → every visible key ≡ true → Key N.names key
key_of N key i r v = record { is-identifier = i; no_register = not-true (is_register N.names key) r; is-visible = v }

keys_of : (N : NameSet) → Keys N.names
unfolding keys each limb_bits_key data_limbs_key addr_limbs_key bytes is_identifier name_start name_part letter digit between every visible
keys_of N =
    let (a, x) = both (not (is_register N.names limb_bits_key)) _ N.keys_free in
    let (b, y) = both (not (is_register N.names data_limbs_key)) _ x in
    let (c, z) = both (not (is_register N.names addr_limbs_key)) _ y in
    record {
      limb_bits = key_of N limb_bits_key refl a refl;
      data_limbs = key_of N data_limbs_key refl b refl;
      addr_limbs = key_of N addr_limbs_key refl c refl;
    }

fitted-yes : (st : State) (size : ℕ) → image_length st.words ≤ size → is_accepted (fitted size (accepted st)) ≡ true
unfolding fitted is_accepted
fitted-yes st size h = rw (fitted, le-leb (image_length st.words) size h)

text-back : (N : NameSet) (b : List ℕ) (t size : ℕ) → AreBytes b → listing_fault b ≡ none → length b ≤ size
    → Accepted N.names (text_of b) t size × (image_of N.names (text_of b) ≡ b)
unfolding text_of assembling image_of byte
text-back N b t size h e l =
    let u = listed-usual b e in
    let c = (header_of b).setup in
    let ws = words_of (code_of b) in
    let r = words-read N.names N.naming N.mnemonics_free ws u.words in
    let g = good c u.settings-good in
    let d = text-reading N.names N.naming.identifiers (keys_of N) c g ws r t u.few in
    let k = text-instructions N.names N.naming.identifiers (keys_of N) c g ws r in
    let m = rw d at (reading-means N.names (text_of b) t) in
    let back : image c ws [] ≡ b = ap (image c ws) (sym u.no-data) ∙ u.is-image h in
    let n : image_length (length ws) ≡ length b = omega (arith, image-length c ws [], ap length back) in (
      ap (λ (a : Assembled). is_accepted (fitted size a)) d ∙ fitted-yes _ size (omega arith),
      ap₂ (λ (x : Settings) (y : List Instruction). image x (map word_of y) []) (sym m.setup) k
          ∙ ap (λ (x : List ℕ). image c x []) (words-again N.names ws r) ∙ back,
    )

-- ---- the promises

pub demand-3 : Demand3
unfolding image_of
demand-3 =
    record {
      images_tell = λ N N' s s' t t' i i' h h'.
          let a = imaged N s t i h in
          let b = imaged N' s' t' i' h' in (
            image-tells N N' s s' i i' a b,
            (λ e. ap₂ (λ (x : Settings) (y : List ℕ). image x y []) e.0 (agree-words (instructions_of N.names s) (instructions_of N'.names s') a.fits b.fits e.1)),
          );
      lists_exactly = λ N b n h. (
        (λ l. let (e, k) = listed-none b n l in
            let (x, y) = text-back N b 0 (length b) h e (omega arith) in
            (record { source = text_of b; table = 0; size = length b; is_accepted = x; same_image = y }, k)),
        (λ l. let s = l.0 in
            let a = imaged N s.source s.table s.size s.is_accepted in
            let is = instructions_of N.names s.source in
            none-listed b n (rw (← s.same_image) (image-listed (settings_of N.names s.source) (map word_of is) (settings-pass N.names s.source) a.few (fit_words is a.fits) (fit-decoded is a.fits))) l.1),
      );
      writes_text = λ b n l. let (e, k) = listed-none b n l in none_written b n e k;
      text_assembles = λ N b n t i h l k. text-back N b t i h (listed-none b n l).0 k;
    }
