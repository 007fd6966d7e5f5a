-- The text of an image as the code puts it, and listing.
use mathlib.Core.Path.{◌≡◌, refl, sym, ap, ap₂, ◌∙◌, subst}
use mathlib.Core.Bool.{true, false}
use mathlib.Core.Option.{Option, none, some}
use mathlib.Core.List.{List, [], ◌∷◌, ◌++◌, map, flat_map, append_assoc}
use Prim.Native.Nat.{ℕ, zero, suc, ◌+◌, ◌-◌, ◌*◌, ◌/◌, ◌^◌, ◌≤◌, ◌<◌}
use native.Mathlib.Numerals.{add-one}
use native.Mathlib.Omega.{arith}
use lib.ListN.{length, take, drop, get_or, get_or-map, length-map, length-append, length-drop, drop_of_length-le}
use lib.Seq.{drop-cons, drop-drop}
use borrow.Author.Tests.{le-leb, lt-leb}
use Rattle.std.specs.Prelude.{Ok, Err, Result as Answer}
use Rattle.std.specs.Int.{from_le_bytes, w32}
use Rattle.std.specs.Simd.{first_chunks}
use Rattle.text_lexical.specs.Bytes.{Result, value, refused, bytes}
use Rattle.text_lexical.specs.Numbers.{unlittle, decimal}
use Rattle.text_writer.specs.Sinks.{SinkLaws}
use Rattle.text_writer.proofs.Sinks.{Left, left-next, Two, Three}
use Rattle.instruction.specs.Operands.{Instruction}
use Rattle.instruction.specs.Words.{instruction_of}
use Rattle.instruction.specs.Text.{instruction_text}
use Rattle.instruction.proofs.Decoding.{decoded-fits, decoded-reduced}
use Rattle.instruction.proofs.Text.{text-length}
use Rattle.image.specs.Settings.{Settings, limb_bits_key, data_limbs_key, addr_limbs_key}
use Rattle.image.specs.Program.{header_size, Header, number_at, header_of, code_of, data_of}
use Rattle.image.specs.Opening.{Opened as MeantOpened, opening_fault, opening}
use Rattle.image.specs.Listing.{words_of, line_text, setting_text, settings_text, word_text, text_of}
use Rattle.image.specs.Listing.{Listing as Answered, refusal, is_usual, words_fault, listing_fault, rejected, written, listing}
use Rattle.image.specs.Lent.{over, listed, unlisted, list_answer_of, text_after}
use Rattle.image.specs.Promised.{settings_meant, header_meant, opened_meant}
use Rattle.image.specs.declared.program.Opened.{Opened}
use Rattle.image.proofs.Images.{words-length}
use Rattle.image.proofs.Settings.{good}
use Rattle.image.proofs.Listed.{Sound, sound, customary, code-sized}
use Rattle.image.proofs.Lengths.{line-length, word_line, settings-short}
use Rattle.image_listing.specs.Promised.{error_meant, PutsWords, Lists}
use Rattle.image_listing.specs.declared.disassembler.ListError.{ListError}
use Rattle.image_listing.specs.declared.disassembler.ListError.TheVariants.{TooShort as TextTooShort}

-- ---- words

-- Four bytes as the library reads them.
from-four : (a b c d : ℕ) → from_le_bytes w32 (a ∷ b ∷ c ∷ d ∷ []) ≡ unlittle (a ∷ b ∷ c ∷ d ∷ [])
unfolding unlittle
from-four a b c d = omega arith

-- The words of a code part are its runs of four bytes.
chunked : (k : ℕ) (s : List ℕ) → length s / 4 ≡ k → words_of s ≡ map (from_le_bytes w32) (first_chunks 4 k s)
unfolding words_of
chunked zero [] h = refl
chunked zero (a ∷ []) h = refl
chunked zero (a ∷ b ∷ []) h = refl
chunked zero (a ∷ b ∷ c ∷ []) h = refl
chunked zero (a ∷ b ∷ c ∷ d ∷ s) h = absurd (omega arith)
chunked (suc k) [] h = absurd (omega arith)
chunked (suc k) (a ∷ []) h = absurd (omega arith)
chunked (suc k) (a ∷ b ∷ []) h = absurd (omega arith)
chunked (suc k) (a ∷ b ∷ c ∷ []) h = absurd (omega arith)
chunked (suc k) (a ∷ b ∷ c ∷ d ∷ s) h = ap₂ (λ (x : ℕ) (y : List ℕ). x ∷ y) (sym (from-four a b c d)) (chunked k s (omega arith))

-- The first word of bytes, and the others.
words-next : (x : List ℕ) → 4 ≤ length x → words_of x ≡ unlittle (take 4 x) ∷ words_of (drop 4 x)
unfolding words_of
words-next [] h = absurd (omega arith)
words-next (a ∷ []) h = absurd (omega arith)
words-next (a ∷ b ∷ []) h = absurd (omega arith)
words-next (a ∷ b ∷ c ∷ []) h = absurd (omega arith)
words-next (a ∷ b ∷ c ∷ d ∷ x) h = refl

-- The word at a place, and those behind it.
pub words-from : (b : List ℕ) (at : ℕ) → at + 4 ≤ length b → words_of (drop at b) ≡ number_at at 4 b ∷ words_of (drop (at + 4) b)
unfolding number_at
words-from b at h =
    words-next (drop at b) (omega (arith, length-drop at b))
    ∙ ap (λ (x : List ℕ). unlittle (take 4 (drop at b)) ∷ words_of x) (drop-drop 4 at b)

-- At the end there is none.
pub words-end : (b : List ℕ) (at : ℕ) → length b ≤ at → words_of (drop at b) ≡ []
unfolding words_of
words-end b at h = ap words_of (drop_of_length-le b h)

-- A word that is refused has no line.
pub word_none : (w n : ℕ) → instruction_of w ≡ refused n → word_text w ≡ []
unfolding word_text
word_none w n e = rw (word_text, e)

-- ---- the lines of words, put

-- The lines of the words before one are put, and none of them is faulty.
pub record Puts {S : Type 0} (Fits : S → List ℕ → Type 0) (Took : S → List ℕ → S → Type 0) (s : S) (ws : List ℕ) (t : S) (index : ℕ)
    : Type 0 where
  pub left : Left Fits Took s (flat_map word_text ws) t (flat_map word_text (drop index ws))
  pub fault : words_fault 0 ws ≡ words_fault index (drop index ws)

module _ (code : List ℕ) {words : List (List ℕ)} (e : words ≡ first_chunks 4 (length code / 4) code) where
  words-are : words_of code ≡ map (from_le_bytes w32) words
  words-are = chunked (length code / 4) code refl ∙ ap (map (from_le_bytes w32)) (sym e)

  count : length (words_of code) ≡ length words
  count = ap length words-are ∙ length-map words (from_le_bytes w32)

  -- The word that is read is the next one.
  next : (i w : ℕ) → i < length words → w ≡ from_le_bytes w32 (get_or words i []) → drop i (words_of code) ≡ w ∷ drop (i + 1) (words_of code)
  next i w h r =
      let n : get_or (words_of code) i (from_le_bytes w32 []) ≡ w = rw words-are (get_or-map (from_le_bytes w32) words i []) ∙ sym r in
      drop-cons (words_of code) i (from_le_bytes w32 []) (omega (arith, count)) ∙ rw (n, add-one i) refl

  module _ {S : Type 0} {Fits : S → List ℕ → Type 0} {Took : S → List ℕ → S → Type 0} (laws : SinkLaws Fits Took) {s t : S} {i : ℕ}
      (p : Puts Fits Took s (words_of code) t i) where
    -- After the last word all lines are put,
    pub puts-all : length words ≤ i → (words_fault 0 (words_of code) ≡ none) × Took s (flat_map word_text (words_of code)) t
    unfolding words_fault flat_map
    puts-all h =
        let d : drop i (words_of code) ≡ [] = drop_of_length-le (words_of code) (omega (arith, count)) in
        (p.fault ∙ ap (words_fault i) d, p.left.taken t (subst (λ (x : List ℕ). Took t (flat_map word_text x) t) (sym d) (laws.took_none t)))

    module _ {w : ℕ} (more : i < length words) (r : w ≡ from_le_bytes w32 (get_or words i [])) where
      -- before that, a word that is no instruction's is the first faulty one,
      pub first-faulty : (n : ℕ) → refused n ≡ instruction_of w → words_fault 0 (words_of code) ≡ some (refusal n (some i) none)
      unfolding words_fault
      first-faulty n d = p.fault ∙ ap (words_fault i) (next i w more r) ∙ rw (words_fault, ← d) refl

      module _ (j : Instruction) (d : value j ≡ instruction_of w) where
        -- and an instruction's has the next line,
        pub line-left : Left Fits Took s (flat_map word_text (words_of code)) t
            (instruction_text j ++ ((10 ∷ []) ++ flat_map word_text (drop (i + 1) (words_of code))))
        unfolding flat_map word_text line_text
        line-left =
            let rest = flat_map word_text (drop (i + 1) (words_of code)) in
            let l : word_text w ≡ instruction_text j ++ (10 ∷ []) = rw (word_text, ← d) refl in
            subst (Left Fits Took s (flat_map word_text (words_of code)) t)
            (ap (flat_map word_text) (next i w more r) ∙ ap (λ (x : List ℕ). x ++ rest) l ∙ append_assoc (instruction_text j) (10 ∷ []) rest) p.left

        -- which is put.
        pub puts-next : {u v : S} → Took t (instruction_text j) u → Took u (10 ∷ []) v → Puts Fits Took s (words_of code) v (i + 1)
        unfolding words_fault
        puts-next k m =
            record {
              left = left-next laws m (left-next laws k line-left);
              fault = p.fault ∙ ap (words_fault i) (next i w more r) ∙ rw (words_fault, ← d, add-one i) refl;
            }

-- What is known where the lines of words were put is known of more, where that follows.
pub puts-words : (ws : List ℕ) {a b : Type 0} (r : Answer (Unit {0}) ListError) → (a → b) → PutsWords ws r a → PutsWords ws r b
puts-words ws (Ok u) f h = (h.0, f h.1)
puts-words ws (Err e) f h = h

-- ---- the lines of settings

abbrev pub limb-line : Settings → List ℕ
limb-line s = line_text (bytes ".config limb_bits " ++ decimal s.limb_bits)

abbrev pub data-line : Settings → List ℕ
data-line s = line_text (bytes ".config data_limbs " ++ decimal s.data_limbs)

abbrev pub addr-line : Settings → List ℕ
addr-line s = line_text (bytes ".config addr_limbs " ++ decimal s.addr_limbs)

pub settings-lines : (s : Settings) → Three (settings_text s) (limb-line s) (data-line s) (addr-line s)
unfolding settings_text setting_text limb_bits_key data_limbs_key addr_limbs_key bytes
settings-lines s = record { are = refl }

-- A line of a setting, whose value is printed as a number that equals it, and the whole text.
pub setting-line : (front : List ℕ) (n k : ℕ) → k ≡ n → Three (line_text (front ++ decimal n)) front (decimal k) (10 ∷ [])
unfolding line_text
setting-line front n k e = record { are = rw e (append_assoc front (decimal n) (10 ∷ [])) }

pub all-lines : (s : Settings) (ws : List ℕ) → Two (settings_text s ++ flat_map word_text ws) (settings_text s) (flat_map word_text ws)
all-lines s ws = record { are = refl }

-- ---- how long the text is

-- A word's line has at most 22 bytes, and one that is no instruction's has none.
word-bound : (w : ℕ) → length (word_text w) ≤ 22
unfolding word_text
word-bound w = go (instruction_of w) refl
  where
    go : (r : Result Instruction) → instruction_of w ≡ r → length (word_text w) ≤ 22
    go (value i) e =
        let l = text-length i (decoded-fits w i e) (decoded-reduced w i e) in
        omega (arith, ap length (word_line w i e), line-length (instruction_text i), l)
    go (refused n) e = omega (arith, ap length (word_none w n e))

words-bound : (ws : List ℕ) → length (flat_map word_text ws) ≤ 22 * length ws
unfolding flat_map
words-bound [] = omega arith
words-bound (w ∷ ws) = omega (arith, length-append (word_text w) (flat_map word_text ws), word-bound w, words-bound ws)

-- ---- listing

-- A refusal leaves the buffer.
pub lists-not : (b old : List ℕ) (e : ListError) → listing_fault b ≡ some (error_meant e) → Lists b old old (Err e)
unfolding listing list_answer_of text_after
lists-not b old e h =
    let q : listing b (length old) ≡ rejected (error_meant e) = rw (listing, h) in
    record { answer = ap list_answer_of (sym q); text = ap (λ (x : Answered). text_after x old) (sym q) }

module _ (b old : List ℕ) (good : listing_fault b ≡ none) (n : ℕ) (size : n ≡ length (text_of b)) where
  -- A buffer that is too short is left too.
  pub lists-short : length old < n → Lists b old old (Err (TextTooShort n))
  unfolding listing list_answer_of text_after refusal
  lists-short h =
      let f = refusal 32 none (some (length (text_of b))) in
      let e : listing b (length old) ≡ rejected f = rw (listing, good, lt-leb (length (text_of b)) (length old) (omega arith)) in
      record {
        answer = ap (λ (x : ℕ). unlisted 32 none (some x)) size ∙ ap list_answer_of (sym e);
        text = ap (λ (x : Answered). text_after x old) (sym e);
      }

  -- Else the text is at its front.
  pub lists-text : (new : List ℕ) → n ≤ length old → new ≡ over (text_of b) old → Lists b old new (Ok n)
  unfolding listing list_answer_of text_after
  lists-text new h a =
      let e : listing b (length old) ≡ written (text_of b) = rw (listing, good, le-leb (length (text_of b)) (length old) (omega arith)) in
      record {
        answer = ap (λ (x : ℕ). listed x) size ∙ ap list_answer_of (sym e);
        text = a ∙ ap (λ (x : Answered). text_after x old) (sym e);
      }

-- What opening refuses is refused.
pub unopened : (b : List ℕ) (n : ℕ) → refused n ≡ opening b → listing_fault b ≡ some (refusal n none none)
unfolding opening listing_fault
unopened b n h = go (opening_fault b) refl h
  where
    go : (o : Option ℕ) → opening_fault b ≡ o → ◌≡◌ {A = Result MeantOpened} (refused n) (elim o [
      | some n ↦ refused n
      | none ↦ value (record { header = header_of b; code_end = header_size + (header_of b).code_size; code = code_of b; initialized = data_of b })
    ]) → listing_fault b ≡ some (refusal n none none)
    go (some k) e h = let q : k ≡ n = cc in rw (listing_fault, e, q)
    go none e h = let z : ◌≡◌ {A = ℕ} 0 1 = cc in absurd (omega arith)

-- The code part of an image that was opened.
abbrev pub code_in : List ℕ → Opened → List ℕ
code_in b o = take (o.code_end - 32) (drop 32 b)

-- An image that is opened has no fault of opening, the header that was read, and its code stands where it says.
pub record Opens (b : List ℕ) (o : Opened) : Type 0 where
  pub no-fault : opening_fault b ≡ none
  pub header_is : header_meant o.header ≡ header_of b
  pub end_is : o.code_end ≡ 32 + (header_of b).code_size
  pub code_is : code_in b o ≡ code_of b

-- It is what opening's answer says.
pub opens : (b : List ℕ) (o : Opened) → value (opened_meant b o) ≡ opening b → Opens b o
unfolding opening header_size
opens b o e = go (opening_fault b) refl e
  where
    as_opened : Result MeantOpened → MeantOpened
    as_opened (value x) = x
    as_opened (refused n) = opened_meant b o

    go : (f : Option ℕ) → opening_fault b ≡ f → value (opened_meant b o) ≡ elim f [
      | some n ↦ refused n
      | none ↦ value (record { header = header_of b; code_end = header_size + (header_of b).code_size; code = code_of b; initialized = data_of b })
    ] → Opens b o
    go (some k) q e = let z : ◌≡◌ {A = ℕ} 0 1 = cc in absurd (omega arith)
    go none q e =
        let m = ap as_opened e in
        record {
          no-fault = q;
          header_is = ap (λ (x : MeantOpened). x.header) m;
          end_is = ap (λ (x : MeantOpened). x.code_end) m;
          code_is = ap (λ (x : MeantOpened). x.code) m;
        }

module _ {b : List ℕ} {o : Opened} (p : Opens b o) where
  found : Sound b
  found = sound b p.no-fault

  -- The code stands behind the header, in the image.
  pub code-begins : 32 ≤ o.code_end
  code-begins = omega (arith, p.end_is)

  pub code-ends : o.code_end ≤ length b
  code-ends = omega (arith, p.end_is, found.total)

  -- A header that assembling does not write is refused,
  pub unusual : is_usual (header_meant o.header) ≡ false → listing_fault b ≡ some (refusal 29 none none)
  unfolding listing_fault
  unusual u = rw (listing_fault, p.no-fault, ← p.header_is, u) refl

  -- of another image only the words are left to be looked at,
  pub usual-fault : is_usual (header_meant o.header) ≡ true → listing_fault b ≡ words_fault 0 (words_of (code_in b o))
  unfolding listing_fault
  usual-fault u = rw (listing_fault, p.no-fault, ← p.header_is, u, p.code_is) refl

  -- its text is that of the settings that were read and of the code,
  pub usual-text : text_of b ≡ settings_text (settings_meant o.header.config) ++ flat_map word_text (words_of (code_in b o))
  unfolding text_of
  usual-text =
      ap₂ (λ (s : Settings) (x : List ℕ). settings_text s ++ flat_map word_text (words_of x))
      (sym (ap (λ (x : Header). x.setup) p.header_is)) (sym p.code_is)

  -- and can be measured.
  pub usual-length : is_usual (header_meant o.header) ≡ true
      → length (settings_text (settings_meant o.header.config) ++ flat_map word_text (words_of (code_in b o))) < 2 ^ 64
  usual-length u =
      let c = customary (header_of b) (sym (ap is_usual p.header_is) ∙ u) in
      let s = settings-short (header_of b).setup (good (header_of b).setup found.settings-good) in
      let z = code-sized b found in
      let n = words-length (code_of b) (omega (arith, z, found.fours)) in
      rw (length-append, ap (λ (x : Header). x.setup) p.header_is, p.code_is) (omega (arith, s, words-bound (words_of (code_of b)), n, z, c.few))
