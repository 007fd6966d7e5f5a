-- Which images have a text: those of good settings and at most 32,768 words that are instructions' words, and no others.
use mathlib.Core.Path.{◌≡◌, refl, sym, ap, ap₂, ◌∙◌}
use Prim.Native.Nat.{ℕ, suc, ◌+◌, ◌*◌, ◌%◌, ◌^◌, ◌≤◌, ◌<◌}
use native.Mathlib.Omega.{arith}
use mathlib.Core.Bool.{true, and-eq-true_iff}
use mathlib.Core.Option.{Option, none, some}
use mathlib.Core.List.{List, [], ◌∷◌, ◌++◌, flat_map}
use lib.ListN.{length, drop, length-drop, take-append-drop, drop_of_length-le}
use lib.Seq.{length-take-le, drop-drop}
use lib.Dec.{ltb, eqb}
use borrow.Author.Tests.{eqb-true, eq-eqb, leb-true, le-leb, ltb-false, le-ltb}
use Rattle.text_lexical.specs.Bytes.{Result, value, refused, every}
use Rattle.text_lexical.specs.Numbers.{little}
use Rattle.text_lexical.proofs.Strings.{every_take, every_drop}
use Rattle.instruction.specs.Operands.{Instruction}
use Rattle.instruction.specs.Words.{instruction_of}
use Rattle.image.specs.Settings.{Settings, settings_fault}
use Rattle.image.specs.Program.{Header, header_bytes, header_size, header_for, image, image_length, header_of, code_of, data_of, magic, version, entry, stack_size}
use Rattle.image.specs.Opening.{header_fault, opening_fault}
use Rattle.image.specs.Assembling.{most_words}
use Rattle.image.specs.Listing.{words_of, Refusal, refusal, is_usual, words_fault, listing_fault}
use Rattle.image.proofs.Faults.{passed, passed-not, passed_on}
use Rattle.image.proofs.Images.{byte, Words, words_back, code-back, words-length, image-length, image-header, image_code, header-front}

-- ---- words that are instructions' words

abbrev pub Decoded : ℕ → Type 0
Decoded w = (i : Instruction) × (instruction_of w ≡ value i)

abbrev pub AllDecoded : List ℕ → Type 0
AllDecoded [] = Unit {0}
AllDecoded (w ∷ ws) = Decoded w × AllDecoded ws

pub words-decoded : (i : ℕ) (ws : List ℕ) → words_fault i ws ≡ none → AllDecoded ws
unfolding words_fault
words-decoded i [] h = tt
words-decoded i (w ∷ ws) h = go (instruction_of w) refl (words-decoded (suc i) ws) h
  where
    go : (r : Result Instruction) → instruction_of w ≡ r → (words_fault (suc i) ws ≡ none → AllDecoded ws)
        → ◌≡◌ {A = Option Refusal} (elim r [ value _ ↦ words_fault (suc i) ws | refused n ↦ some (refusal n (some i) none) ]) none → Decoded w × AllDecoded ws
    go (value x) e f g = ((x, e), f g)
    go (refused n) e f g = let z : ◌≡◌ {A = ℕ} 0 1 = cc in absurd (omega arith)

pub decoded-words : (i : ℕ) (ws : List ℕ) → AllDecoded ws → words_fault i ws ≡ none
unfolding words_fault
decoded-words i [] a = refl
decoded-words i (w ∷ ws) a = rw (words_fault, a.0.1) (decoded-words (suc i) ws a.1)

-- ---- an image of settings, words and data

module _ (s : Settings) (ws bs : List ℕ) (good : settings_fault s ≡ none) (few : length ws ≤ 32768) (short : length bs < 2 ^ 32) where
  pub image-opens : opening_fault (image s ws bs) ≡ none
  unfolding opening_fault header_fault header_for header_size image_length
  image-opens =
      let h = image-header s ws bs few short in
      let n = image-length s ws bs in
      let m : (header_of (image s ws bs)).magic ≡ magic = ap (λ (x : Header). x.magic) h in
      let v : (header_of (image s ws bs)).version ≡ version = ap (λ (x : Header). x.version) h in
      let g : settings_fault (header_of (image s ws bs)).setup ≡ none = ap (λ (x : Header). settings_fault x.setup) h ∙ good in
      let c : (header_of (image s ws bs)).code_size ≡ 4 * length ws = ap (λ (x : Header). x.code_size) h in
      let d : (header_of (image s ws bs)).data_size ≡ length bs = ap (λ (x : Header). x.data_size) h in
      rw (
        opening_fault,
        le-ltb (length (image s ws bs)) 32 (omega arith),
        header_fault,
        eq-eqb _ _ m,
        eq-eqb _ _ v,
        g,
        eq-eqb ((header_of (image s ws bs)).code_size % 4) 0 (omega arith),
        eq-eqb (length (image s ws bs)) (32 + (header_of (image s ws bs)).code_size + (header_of (image s ws bs)).data_size) (omega arith),
      )

  -- its words and its settings are read back
  pub words-of-image : Words ws → words_of (code_of (image s ws bs)) ≡ ws
  words-of-image h = ap words_of (image_code s ws bs few short) ∙ words_back ws h

  pub settings-of-image : (header_of (image s ws bs)).setup ≡ s
  unfolding header_for
  settings-of-image = ap (λ (h : Header). h.setup) (image-header s ws bs few short)

  -- With a header that is not refused as unusual and with instructions' words it has a text.
  pub image-text : is_usual (header_for s (4 * length ws) (length bs)) ≡ true → Words ws → AllDecoded ws → listing_fault (image s ws bs) ≡ none
  unfolding listing_fault
  image-text u h a = rw (listing_fault, image-opens, image-header s ws bs few short, u, words-of-image h) (decoded-words 0 ws a)

-- An image that assembling writes has no data.
pub image-listed : (s : Settings) (ws : List ℕ) → settings_fault s ≡ none → length ws ≤ 32768 → Words ws → AllDecoded ws
    → listing_fault (image s ws []) ≡ none
unfolding is_usual header_for entry stack_size most_words
image-listed s ws good few = image-text s ws [] good few (omega arith) (rw (le-leb (4 * length ws) (4 * 32768) (omega arith)))

-- ---- bytes that have a text

usual-header : (h : Header) (n d : ℕ) → h.magic ≡ magic → h.version ≡ version → h.flags ≡ 0 → h.entry ≡ entry → h.code_size ≡ n → h.data_size ≡ d
    → h.bss_size ≡ 0 → h.stack_size ≡ stack_size → header_for h.setup n d ≡ h
unfolding header_for
usual-header h n d m v f e c i b s =
    sym (λ j. record {
      magic = m j;
      version = v j;
      setup = h.setup;
      flags = f j;
      entry = e j;
      code_size = c j;
      data_size = i j;
      bss_size = b j;
      stack_size = s j;
    })

pub record Usual (b : List ℕ) : Type 0 where
  pub settings-good : settings_fault (header_of b).setup ≡ none
  pub words : AllDecoded (words_of (code_of b))
  pub few : length (words_of (code_of b)) ≤ 32768
  pub no-data : data_of b ≡ []
  pub is-image : every byte b ≡ true → image (header_of b).setup (words_of (code_of b)) (data_of b) ≡ b

-- What opening has found of an image that it does not refuse.
pub record Sound (b : List ℕ) : Type 0 where
  pub long : 32 ≤ length b
  pub magic-is : (header_of b).magic ≡ magic
  pub version-is : (header_of b).version ≡ version
  pub settings-good : settings_fault (header_of b).setup ≡ none
  pub fours : (header_of b).code_size % 4 ≡ 0
  pub total : length b ≡ 32 + (header_of b).code_size + (header_of b).data_size

pub sound : (b : List ℕ) → opening_fault b ≡ none → Sound b
unfolding opening_fault header_fault header_size
sound b h =
    let (o1, p1) = passed-not (ltb (length b) 32) 24 _ h in
    let (f, p4) = passed_on (λ n. n) (header_fault (header_of b)) _ p1 in
    let (o2, p2) = passed (eqb (header_of b).magic magic) 25 _ f in
    let (o3, o4) = passed (eqb (header_of b).version version) 26 _ p2 in
    let (o5, p5) = passed (eqb ((header_of b).code_size % 4) 0) 27 _ p4 in
    let (o6, p6) = passed (eqb (length b) (32 + (header_of b).code_size + (header_of b).data_size)) 28 none p5 in
    record {
      long = ltb-false (length b) 32 o1;
      magic-is = eqb-true (header_of b).magic magic o2;
      version-is = eqb-true (header_of b).version version o3;
      settings-good = o4;
      fours = eqb-true ((header_of b).code_size % 4) 0 o5;
      total = eqb-true (length b) (32 + (header_of b).code_size + (header_of b).data_size) o6;
    }

-- What is asked of a header that is not refused as unusual.
pub record Customary (h : Header) : Type 0 where
  pub flags-are : h.flags ≡ 0
  pub entry-is : h.entry ≡ entry
  pub no-data : h.data_size ≡ 0
  pub no-bss : h.bss_size ≡ 0
  pub stack_is : h.stack_size ≡ stack_size
  pub few : h.code_size ≤ 4 * 32768

pub customary : (h : Header) → is_usual h ≡ true → Customary h
unfolding is_usual most_words
customary h u =
    let (u1, q1) = (and-eq-true_iff (eqb h.flags 0) _).0 u in
    let (u2, q2) = (and-eq-true_iff (eqb h.entry entry) _).0 q1 in
    let (u3, q3) = (and-eq-true_iff (eqb h.data_size 0) _).0 q2 in
    let (u4, q4) = (and-eq-true_iff (eqb h.bss_size 0) _).0 q3 in
    let (u5, u6) = (and-eq-true_iff (eqb h.stack_size stack_size) _).0 q4 in
    record {
      flags-are = eqb-true h.flags 0 u1;
      entry-is = eqb-true h.entry entry u2;
      no-data = eqb-true h.data_size 0 u3;
      no-bss = eqb-true h.bss_size 0 u4;
      stack_is = eqb-true h.stack_size stack_size u5;
      few = leb-true h.code_size (4 * 32768) u6;
    }

module _ (b : List ℕ) (s : Sound b) where
  -- The code and the data have the sizes that the header names,
  pub code-sized : length (code_of b) ≡ (header_of b).code_size
  unfolding code_of header_size
  code-sized = length-take-le (header_of b).code_size (drop 32 b) (omega (arith, length-drop 32 b, s.total))

  pub data-sized : length (data_of b) ≡ (header_of b).data_size
  unfolding data_of header_size
  data-sized = omega (arith, length-drop (32 + (header_of b).code_size) b, s.total)

  -- there are as many words as fill the code,
  pub words-sized : 4 * length (words_of (code_of b)) ≡ (header_of b).code_size
  words-sized = words-length (code_of b) (ap (λ (n : ℕ). n % 4) code-sized ∙ s.fours) ∙ code-sized

  -- and words and data are all that follows the header.
  parts : every byte b ≡ true → flat_map (little 4) (words_of (code_of b)) ++ data_of b ≡ drop 32 b
  unfolding code_of data_of header_size
  parts h =
      ap (λ (x : List ℕ). x ++ data_of b) (code-back (code_of b) (every_take byte (header_of b).code_size (drop 32 b) (every_drop byte 32 b h)) (ap (λ (n : ℕ). n % 4) code-sized ∙ s.fours))
      ∙ ap (λ (x : List ℕ). code_of b ++ x) (sym (drop-drop (header_of b).code_size 32 b))
      ∙ take-append-drop (header_of b).code_size (drop 32 b)

  -- So bytes are the image of their settings, words and data, if the other fields are as assembling writes them.
  pub sound-image : (header_of b).flags ≡ 0 → (header_of b).entry ≡ entry → (header_of b).bss_size ≡ 0 → (header_of b).stack_size ≡ stack_size
      → every byte b ≡ true → image (header_of b).setup (words_of (code_of b)) (data_of b) ≡ b
  unfolding image
  sound-image f e z t h =
      ap₂ (λ (x : Header) (y : List ℕ). header_bytes x ++ y)
      (usual-header (header_of b) _ _ s.magic-is s.version-is f e (sym words-sized) (sym data-sized) z t)
      (parts h)
      ∙ header-front b h s.long

pub listed-usual : (b : List ℕ) → listing_fault b ≡ none → Usual b
unfolding listing_fault data_of header_size
listed-usual b h =
    let (o, h1) = passed_on (λ n. refusal n none none) (opening_fault b) _ h in
    let (u, h2) = passed (is_usual (header_of b)) (refusal 29 none none) _ h1 in
    let s = sound b o in
    let c = customary (header_of b) u in
    record {
      settings-good = s.settings-good;
      words = words-decoded 0 (words_of (code_of b)) h2;
      few = omega (arith, c.few, words-sized b s);
      no-data = drop_of_length-le b {i = 32 + (header_of b).code_size} (omega (arith, s.total, c.no-data));
      is-image = sound-image b s c.flags-are c.entry-is c.no-bss c.stack_is;
    }
