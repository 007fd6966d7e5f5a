-- The header of an image as the code reads it, and opening.
use mathlib.Core.Path.{◌≡◌, sym, ap, ◌∙◌}
use Prim.Native.Nat.{ℕ, ◌+◌, ◌-◌, ◌*◌, ◌%◌, ◌≤◌, ◌<◌}
use native.Mathlib.Nat.{add-zero}
use native.Mathlib.Omega.{arith}
use mathlib.Core.Option.{none, some}
use mathlib.Core.List.{List, [], ◌∷◌}
use lib.ListN.{length, take, drop, get_or, length-drop}
use lib.Seq.{get_or-drop}
use borrow.Author.Tests.{eq-eqb, ne_eqb, lt-ltb, le-ltb}
use Rattle.text_lexical.specs.Bytes.{value, refused}
use Rattle.text_lexical.specs.Numbers.{unlittle}
use Rattle.image.specs.Program.{Header, header_size, number_at, header_of, code_of, data_of}
use Rattle.image.specs.Opening.{header_fault, opening_fault, opening}
use Rattle.image.specs.Promised.{header_meant, opened_meant}
use Rattle.image.specs.declared.program.ProgramHeader.{ProgramHeader}

-- ---- bytes read

-- The number of the first four bytes.
four-of : (x : List ℕ) → 4 ≤ length x → unlittle (take 4 x) ≡ get_or x 0 0 + 256 * get_or x 1 0 + 65536 * get_or x 2 0 + 16777216 * get_or x 3 0
unfolding unlittle
four-of [] h = absurd (omega arith)
four-of (a ∷ []) h = absurd (omega arith)
four-of (a ∷ b ∷ []) h = absurd (omega arith)
four-of (a ∷ b ∷ c ∷ []) h = absurd (omega arith)
four-of (a ∷ b ∷ c ∷ d ∷ x) h = omega arith

-- The number of four bytes at a place.
pub number-four : (at : ℕ) (b : List ℕ) → at + 4 ≤ length b
    → get_or b at 0 + 256 * get_or b (at + 1) 0 + 65536 * get_or b (at + 2) 0 + 16777216 * get_or b (at + 3) 0 ≡ number_at at 4 b
unfolding number_at
number-four at b h =
    sym (four-of (drop at b) (omega (arith, length-drop at b))
    ∙ rw (get_or-drop at b 0 0, get_or-drop at b 1 0, get_or-drop at b 2 0, get_or-drop at b 3 0, add-zero at))

-- The number of one byte is that byte.
one_of : (x : List ℕ) → 1 ≤ length x → unlittle (take 1 x) ≡ get_or x 0 0
unfolding unlittle
one_of [] h = absurd (omega arith)
one_of (a ∷ x) h = omega arith

-- The byte at a place.
pub number_one : (at : ℕ) (b : List ℕ) → at < length b → get_or b at 0 ≡ number_at at 1 b
unfolding number_at
number_one at b h = sym (one_of (drop at b) (omega (arith, length-drop at b)) ∙ rw (get_or-drop at b 0 0, add-zero at))

-- ---- opening

module _ (b : List ℕ) where
  -- under 32 bytes
  pub opening-short : length b < 32 → opening b ≡ refused 24
  unfolding opening opening_fault header_size
  opening-short h = rw (opening, opening_fault, lt-ltb (length b) 32 h)

  module _ (long : 32 ≤ length b) where
    -- refused for the header
    pub opening-header : (n : ℕ) → header_fault (header_of b) ≡ some n → opening b ≡ refused n
    unfolding opening opening_fault header_size
    opening-header n e = rw (opening, opening_fault, le-ltb (length b) 32 long, e)

    module _ (good : header_fault (header_of b) ≡ none) where
      -- for a code size
      pub opening_code : ((header_of b).code_size % 4 ≡ 0 → ⊥) → opening b ≡ refused 27
      unfolding opening opening_fault header_size
      opening_code e = rw (opening, opening_fault, le-ltb (length b) 32 long, good, ne_eqb ((header_of b).code_size % 4) 0 e)

      module _ (fours : (header_of b).code_size % 4 ≡ 0) where
        -- for the length
        pub opening-length : (length b ≡ 32 + (header_of b).code_size + (header_of b).data_size → ⊥) → opening b ≡ refused 28
        unfolding opening opening_fault header_size
        opening-length e =
            rw (
              opening,
              opening_fault,
              le-ltb (length b) 32 long,
              good,
              eq-eqb ((header_of b).code_size % 4) 0 fours,
              ne_eqb (length b) (32 + (header_of b).code_size + (header_of b).data_size) e,
            )

        -- opened
        pub opening-good : length b ≡ 32 + (header_of b).code_size + (header_of b).data_size
            → opening b ≡ value (record { header = header_of b; code_end = header_size + (header_of b).code_size; code = code_of b; initialized = data_of b })
        unfolding opening opening_fault header_size
        opening-good e =
            rw (
              opening,
              opening_fault,
              le-ltb (length b) 32 long,
              good,
              eq-eqb ((header_of b).code_size % 4) 0 fours,
              eq-eqb (length b) (32 + (header_of b).code_size + (header_of b).data_size) e,
            )

-- The parts of an image, by a header that was read from it.
pub opened-parts : (b : List ℕ) (h : ProgramHeader) → header_meant h ≡ header_of b
    → value (opened_meant b (record { header = h; code_end = 32 + h.code_size })) ≡ value (record { header = header_of b; code_end = header_size + (header_of b).code_size; code = code_of b; initialized = data_of b })
unfolding code_of data_of header_size
opened-parts b h e =
    let s : h.code_size ≡ (header_of b).code_size = ap (λ (x : Header). x.code_size) e in
    let n : 32 + h.code_size - 32 ≡ (header_of b).code_size = omega arith in
    let m : 32 + h.code_size ≡ 32 + (header_of b).code_size = omega arith in
    λ i. value (record { header = e i; code_end = m i; code = take (n i) (drop 32 b); initialized = drop (m i) b })
