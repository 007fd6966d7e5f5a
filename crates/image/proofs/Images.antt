-- The header and the words of an image, written and read back.
use mathlib.Core.Path.{◌≡◌, refl, sym, ap, ap₂, ◌∙◌, subst}
use Prim.Native.Nat.{ℕ, ◌+◌, ◌*◌, ◌/◌, ◌%◌, ◌^◌, ◌≤◌, ◌<◌}
use native.Mathlib.Omega.{arith}
use mathlib.Core.Bool.{Bool, true}
use mathlib.Core.List.{List, [], ◌∷◌, ◌++◌, flat_map, append_assoc}
use lib.ListN.{length, take, drop, length-append, length-drop, take-append-drop}
use lib.Seq.{length-take-le, drop-drop, take_at}
use lib.Dec.{ltb}
use borrow.Author.Tests.{ltb-true}
use Rattle.text_lexical.specs.Bytes.{every}
use Rattle.text_lexical.specs.Numbers.{little, unlittle}
use Rattle.text_lexical.proofs.Strings.{every-head, every-tail, every-split, every_take, every_drop}
use Rattle.image.specs.Settings.{Settings, settings}
use Rattle.image.specs.Program.{Header, header_bytes, header_size, header_for, image, image_length, number_at, header_of, code_of, magic, version, entry, stack_size}
use Rattle.image.specs.Listing.{words_of}

-- ---- little-endian numbers of four bytes

pub unlittle-little : (m : ℕ) → m < 2 ^ 32 → unlittle (little 4 m) ≡ m
unfolding little unlittle
unlittle-little m h = omega arith

-- A byte.
unfoldable pub byte : ℕ → Bool
byte b = ltb b 256

pub byte-lt : (b : ℕ) → byte b ≡ true → b < 256
unfolding byte
byte-lt b h = ltb-true b 256 h

-- Bytes are those of their number.
pub little-back : (x : List ℕ) → every byte x ≡ true → little (length x) (unlittle x) ≡ x
unfolding little unlittle
little-back [] h = refl
little-back (b ∷ x) h =
    let l = byte-lt b (every-head byte b x h) in
    let low : (b + 256 * unlittle x) % 256 ≡ b = omega arith in
    let high : (b + 256 * unlittle x) / 256 ≡ unlittle x = omega arith in
    rw (low, high, little-back x (every-tail byte b x h))

-- ---- words

pub code-length : (ws : List ℕ) → length (flat_map (little 4) ws) ≡ 4 * length ws
unfolding flat_map little
code-length [] = refl
code-length (w ∷ ws) = omega (arith, code-length ws)

-- Each word has 32 bits.
abbrev pub Words : List ℕ → Type 0
Words [] = Unit {0}
Words (w ∷ ws) = (w < 2 ^ 32) × Words ws

pub words_back : (ws : List ℕ) → Words ws → words_of (flat_map (little 4) ws) ≡ ws
unfolding words_of flat_map little
words_back [] h = refl
words_back (w ∷ ws) h = ap₂ (λ (x : ℕ) (y : List ℕ). x ∷ y) (unlittle-little w h.0) (words_back ws h.1)

-- Bytes in fours are the bytes of their words.
pub code-back : (c : List ℕ) → every byte c ≡ true → length c % 4 ≡ 0 → flat_map (little 4) (words_of c) ≡ c
unfolding words_of flat_map
code-back [] h e = refl
code-back (a ∷ []) h e = absurd (omega arith)
code-back (a ∷ b ∷ []) h e = absurd (omega arith)
code-back (a ∷ b ∷ c ∷ []) h e = absurd (omega arith)
code-back (a ∷ b ∷ c ∷ d ∷ s) h e =
    let (front, rest) = every-split byte (a ∷ b ∷ c ∷ d ∷ []) s h in
    ap₂ (λ (x y : List ℕ). x ++ y) (little-back (a ∷ b ∷ c ∷ d ∷ []) front) (code-back s rest (omega arith))

pub words-length : (c : List ℕ) → length c % 4 ≡ 0 → 4 * length (words_of c) ≡ length c
unfolding words_of
words-length [] e = refl
words-length (a ∷ []) e = absurd (omega arith)
words-length (a ∷ b ∷ []) e = absurd (omega arith)
words-length (a ∷ b ∷ c ∷ []) e = absurd (omega arith)
words-length (a ∷ b ∷ c ∷ d ∷ s) e = omega (arith, words-length s (omega arith))

-- ---- the header

-- Each field of four bytes has 32 bits.
pub record Sizes (h : Header) : Type 0 where
  pub magic-fits : h.magic < 2 ^ 32
  pub version-fits : h.version < 2 ^ 32
  pub entry-fits : h.entry < 2 ^ 32
  pub code_fits : h.code_size < 2 ^ 32
  pub data-fits : h.data_size < 2 ^ 32
  pub bss-fits : h.bss_size < 2 ^ 32
  pub stack-fits : h.stack_size < 2 ^ 32

low_byte : (x : ℕ) → x + 256 * 0 ≡ x
low_byte x = omega arith

-- A header that is written is read back, whatever follows it.
pub header-back : (h : Header) (rest : List ℕ) → Sizes h → header_of (header_bytes h ++ rest) ≡ h
unfolding header_of header_bytes number_at little unlittle settings
header-back h rest z =
    λ i. record {
      magic = unlittle-little h.magic z.magic-fits i;
      version = unlittle-little h.version z.version-fits i;
      setup = record {
        limb_bits = low_byte h.setup.limb_bits i;
        data_limbs = low_byte h.setup.data_limbs i;
        addr_limbs = low_byte h.setup.addr_limbs i;
      };
      flags = low_byte h.flags i;
      entry = unlittle-little h.entry z.entry-fits i;
      code_size = unlittle-little h.code_size z.code_fits i;
      data_size = unlittle-little h.data_size z.data-fits i;
      bss_size = unlittle-little h.bss_size z.bss-fits i;
      stack_size = unlittle-little h.stack_size z.stack-fits i;
    }

pub header-length : (h : Header) → length (header_bytes h) ≡ 32
unfolding header_bytes little
header-length h = refl

pub behind-header : (h : Header) (rest : List ℕ) → drop header_size (header_bytes h ++ rest) ≡ rest
unfolding header_bytes little header_size
behind-header h rest = refl

-- ---- the image

-- An image of words and of data below 2^32 bytes.
module _ (s : Settings) (ws bs : List ℕ) where
  pub image-length : length (image s ws bs) ≡ image_length (length ws) + length bs
  unfolding image image_length header_size header_bytes little
  image-length = omega (arith, length-append (flat_map (little 4) ws) bs, code-length ws)

  module _ (few : length ws ≤ 32768) (short : length bs < 2 ^ 32) where
    pub image-header : header_of (image s ws bs) ≡ header_for s (4 * length ws) (length bs)
    unfolding image header_for magic version entry stack_size
    image-header =
        header-back (header_for s (4 * length ws) (length bs)) (flat_map (little 4) ws ++ bs) (record {
          magic-fits = omega arith;
          version-fits = omega arith;
          entry-fits = omega arith;
          code_fits = omega arith;
          data-fits = short;
          bss-fits = omega arith;
          stack-fits = omega arith;
        })

    -- Its code is read back.
    pub image_code : code_of (image s ws bs) ≡ flat_map (little 4) ws
    unfolding code_of image header_for
    image_code =
        ap₂ (λ (h : Header) (b : List ℕ). take h.code_size b) image-header (behind-header (header_for s (4 * length ws) (length bs)) (flat_map (little 4) ws ++ bs))
        ∙ take_at (flat_map (little 4) ws) bs (4 * length ws) (code-length ws)

-- ---- bytes as an image

-- So many bytes, and then so many, from a place on.
unfoldable pub pieces : ℕ → List ℕ → List ℕ → List ℕ
pieces at [] b = []
pieces at (k ∷ ks) b = take k (drop at b) ++ pieces (at + k) ks b

unfoldable pub reach : ℕ → List ℕ → ℕ
reach at [] = at
reach at (k ∷ ks) = reach (at + k) ks

pieces-join : (at : ℕ) (ks b : List ℕ) → pieces at ks b ++ drop (reach at ks) b ≡ drop at b
unfolding pieces reach
pieces-join at [] b = refl
pieces-join at (k ∷ ks) b =
    append_assoc (take k (drop at b)) (pieces (at + k) ks b) (drop (reach (at + k) ks) b)
    ∙ ap (λ (x : List ℕ). take k (drop at b) ++ x) (pieces-join (at + k) ks b ∙ sym (drop-drop k at b))
    ∙ take-append-drop k (drop at b)

field-bytes : (at : ℕ) (b : List ℕ) → every byte b ≡ true → at + 4 ≤ length b → little 4 (number_at at 4 b) ≡ take 4 (drop at b)
unfolding number_at
field-bytes at b h l =
    let n : length (take 4 (drop at b)) ≡ 4 = length-take-le 4 (drop at b) (omega (arith, length-drop at b)) in
    subst (λ (k : ℕ). little k (unlittle (take 4 (drop at b))) ≡ take 4 (drop at b)) n (little-back (take 4 (drop at b)) (every_take byte 4 (drop at b) (every_drop byte at b h)))

field-byte : (at : ℕ) (b : List ℕ) → at + 1 ≤ length b → number_at at 1 b ∷ [] ≡ take 1 (drop at b)
unfolding number_at unlittle
field-byte at b l = one (take 1 (drop at b)) (length-take-le 1 (drop at b) (omega (arith, length-drop at b)))
  where
    one : (x : List ℕ) → length x ≡ 1 → unlittle x ∷ [] ≡ x
    one [] e = absurd (omega arith)
    one (a ∷ []) e = ap (λ (y : ℕ). y ∷ []) (low_byte a)
    one (a ∷ c ∷ x) e = absurd (omega arith)

-- The sizes of a header's fields.
unfoldable pub field_sizes : List ℕ
field_sizes = 4 ∷ 4 ∷ 1 ∷ 1 ∷ 1 ∷ 1 ∷ 4 ∷ 4 ∷ 4 ∷ 4 ∷ 4 ∷ []

header-pieces : (b : List ℕ) → every byte b ≡ true → 32 ≤ length b → header_bytes (header_of b) ≡ pieces 0 field_sizes b
unfolding header_bytes header_of settings pieces field_sizes little
header-pieces b h l =
    let m = field-bytes 0 b h (omega arith) in
    let v = field-bytes 4 b h (omega arith) in
    let limb = field-byte 8 b (omega arith) in
    let limbs = field-byte 9 b (omega arith) in
    let addr = field-byte 10 b (omega arith) in
    let flag = field-byte 11 b (omega arith) in
    let ent = field-bytes 12 b h (omega arith) in
    let code = field-bytes 16 b h (omega arith) in
    let init = field-bytes 20 b h (omega arith) in
    let bss = field-bytes 24 b h (omega arith) in
    let stack = field-bytes 28 b h (omega arith) in
    λ i. m i ++ (v i ++ (limb i ++ (limbs i ++ (addr i ++ (flag i ++ (ent i ++ (code i ++ (init i ++ (bss i ++ (stack i ++ []))))))))))

-- Bytes are their header, and then what stands behind it.
pub header-front : (b : List ℕ) → every byte b ≡ true → 32 ≤ length b → header_bytes (header_of b) ++ drop 32 b ≡ b
unfolding field_sizes reach
header-front b h l = ap (λ (x : List ℕ). x ++ drop 32 b) (header-pieces b h l) ∙ pieces-join 0 field_sizes b
