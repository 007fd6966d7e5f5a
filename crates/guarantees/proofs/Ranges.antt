-- Numbers that fit: the word of a line is read with the number that went in, in every accepted call.
use Prim.Native.Nat.{ℕ, ◌^◌, ◌<◌}
use mathlib.Core.Path.{◌≡◌, refl, sym, ap, ◌∙◌}
use mathlib.Core.Bool.{true, true≢false}
use mathlib.Core.Option.{Option, some}
use mathlib.Core.List.{List}
use lib.ListN.{take, drop}
use lib.Dec.{ltb}
use lib.IntN.{ℤ, pos}
use borrow.Author.Tests.{ltb-true}
use Rattle.text_lexical.specs.Bytes.{value}
use Rattle.text_lexical.specs.Numbers.{NumberRange, residue, meant_by, lies_in, little}
use Rattle.text_lexical.proofs.Numbers.{residue-small}
use Rattle.text.specs.Tokens.{Token, number, hex, binary}
use Rattle.text.specs.Values.{read_decimal, read_pattern, read_number}
use Rattle.instruction.specs.Operands.{Instruction, Amount, Draft, read_identifier, read_register, mark_byte}
use Rattle.instruction.specs.Words.{reduced, word_of}
use Rattle.instruction.specs.Fits.{places_of, number_range, reduced_in, reduced_to}
use Rattle.instruction.proofs.Results.{not_refused, test-value}
use Rattle.instruction.proofs.Ranges.{lies-kept, form-bits}
use Rattle.instruction.proofs.Decoding.{decode-encode}
use Rattle.instruction.proofs.Amounts.{Numeric, IsAmount}
use Rattle.image.specs.Assembling.{first_context, Read, reads_from, reads, address_in}
use Rattle.image.specs.Meaning.{resolved, settled}
use Rattle.image.proofs.Coded.{line-amount}
use Rattle.image.proofs.Fitting.{fit_on, fit-settled}
use Rattle.guarantees.specs.Calls.{AcceptedCall, filled}
use Rattle.guarantees.specs.Edits.{left_by, words_on}
use Rattle.guarantees.specs.NameSets.{NameSet}
use Rattle.guarantees.specs.Ranges.{TokenOf, place, bits_meant, comes_out_as, is_numeric, ComesOut, Ranges}
use Rattle.guarantees.proofs.Calls.{filled-image}
use Rattle.guarantees.proofs.Targets.{drafted-length}
use Rattle.guarantees.proofs.Edits.{reads-at, own-word}

-- ---- a token

-- A number is nothing else.
numeric : (t : Token) → is_numeric t ≡ true → Numeric t
unfolding is_numeric read_identifier read_register mark_byte
numeric (number z) h = record { no_identifier = refl; no_register = λ n. not_refused; no_mark = refl }
numeric (hex n) h = record { no_identifier = refl; no_register = λ n. not_refused; no_mark = refl }
numeric (binary n) h = record { no_identifier = refl; no_register = λ n. not_refused; no_mark = refl }
numeric t h = absurd (true≢false (sym h))

-- A field keeps of a number in its range what comes out of it.
pattern-kept : (r : NumberRange) (n : ℕ) (z : ℤ) → read_pattern r n ≡ value z → some (meant_by r.signed r.width (residue r.width z)) ≡ bits_meant r n
unfolding read_pattern bits_meant
pattern-kept r n z e =
    let (l, e) = test-value (ltb n (2 ^ r.width)) (value (pos n)) 35 z e in
    let q : pos n ≡ z = cc in
    rw (bits_meant, l) (ap (λ (v : ℕ). some (meant_by r.signed r.width v)) (ap (residue r.width) (sym q) ∙ residue-small r.width n (ltb-true n (2 ^ r.width) l)))

number-kept : (r : NumberRange) (t : Token) (z : ℤ) → 0 < r.width → read_number r t ≡ value z → some (meant_by r.signed r.width (residue r.width z)) ≡ comes_out_as r t
unfolding read_number read_decimal comes_out_as
number-kept r (number w) z b e =
    let (l, e) = test-value (lies_in r w) (value w) 35 z e in
    let q : w ≡ z = cc in
    rw (comes_out_as, l) (ap (λ (v : ℤ). some (meant_by r.signed r.width (residue r.width v))) (sym q) ∙ ap some (lies-kept r w b l))
number-kept r (hex n) z b e = pattern-kept r n z e
number-kept r (binary n) z b e = pattern-kept r n z e
number-kept r t z b e = not_refused e

-- ---- a line

-- What its word keeps of an instruction whose amount a token is.
reduced-draft : (addresses : List ℕ → Option ℕ) (words : ℕ) (d : Draft) (t : Token) (a : IsAmount (number_range (places_of d.row)) d.amount t)
    → reduced_to (settled addresses words d) ≡ record { row = d.row; registers = d.registers; number = comes_out_as a.range t }
unfolding reduced_to settled resolved reduced_in reduced
reduced-draft addresses words d t a =
    let n : (settled addresses words d).number ≡ some a.number =
    ap (λ (o : Option Amount). (settled addresses words (record { row = d.row; registers = d.registers; amount = o })).number) a.is_amount in
    let k : reduced_in (number_range (places_of d.row)) (settled addresses words d).number ≡ comes_out_as a.range t =
    (λ j. reduced_in (a.is_range j) (n j)) ∙ number-kept a.range t a.number (form-bits d.row.form a.range a.is_range) a.is_read in
    ap (λ (x : Option ℤ). record { row = d.row; registers = d.registers; number = x }) k

module _ (N : NameSet) (source : List ℕ) (c : AcceptedCall N.names source) (t : TokenOf N.names source) (h : is_numeric t.token ≡ true) where
  abbrev upper : List Read
  upper = reads_from N.names first_context t.above

  abbrev words : ℕ
  words = words_on N.names t.above

  abbrev own : Instruction
  own = settled (address_in 0 (reads N.names source)) words t.draft

  -- Its word is at its place.
  word-there : take 4 (drop (place t) (filled c)) ≡ little 4 (word_of own)
  word-there =
      ap (λ (b : List ℕ). take 4 (drop (place t) b)) (filled-image c)
      ∙ own-word N.names source upper (reads_from N.names (left_by N.names first_context t.above) t.below) t.label t.draft
      (reads-at N.names source t.above t.line t.below t.label t.draft t.stands t.holds) words (sym (drafted-length upper))

  comes-out : ComesOut (filled c) t
  comes-out =
      let context = left_by N.names first_context t.above in
      let effect = ap (λ (r : Read). r.effect) t.holds in
      let a = line-amount t.draft t.token (numeric t.token h) N.names context t.line t.left t.right t.among effect in
      record {
        range = a.range;
        is_range = a.is_range;
        word = word_of own;
        is_there = word-there;
        is_read = decode-encode own (fit-settled (address_in 0 (reads N.names source)) words t.draft (fit_on N.names N.naming context t.line t.draft effect))
            ∙ ap value (reduced-draft (address_in 0 (reads N.names source)) words t.draft t.token a);
      }

pub ranges : Ranges
ranges = record { comes_out = λ N source c t h. comes-out N source c t h }
