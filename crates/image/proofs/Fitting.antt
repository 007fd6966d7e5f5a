-- The instructions of a source fit their forms, so their words decode again; and the text of a word that decodes reads as its
-- instruction.
use mathlib.Core.Path.{◌≡◌, refl, ap, ◌∙◌}
use Prim.Native.Nat.{ℕ, ◌+◌}
use mathlib.Core.Bool.{true, not}
use mathlib.Core.Option.{Option, none, some}
use mathlib.Core.List.{List, [], ◌∷◌, ◌++◌, map}
use lib.Dec.{eqb}
use lib.IntN.{ℤ}
use borrow.Author.Tests.{not-true}
use Rattle.text_lexical.specs.Bytes.{is_some, each}
use Rattle.text_lexical.specs.Names.{Name}
use Rattle.text_lexical.proofs.Tests.{both}
use Rattle.text.specs.Tokens.{Token, identifier, is_register}
use Rattle.text.specs.Lines.{Line, lines, line_of, read_line}
use Rattle.text.specs.NameSets.{Naming}
use Rattle.instruction.specs.Table.{table}
use Rattle.instruction.specs.Operands.{Instruction, Amount, Draft, behind, mark_byte}
use Rattle.instruction.specs.Words.{word_of}
use Rattle.instruction.specs.Fits.{places_of, has_number, Fits, reduced_to}
use Rattle.instruction.proofs.Rows.{carried}
use Rattle.instruction.proofs.Decoding.{decode-encode, word_bound, decoded-fits, decoded-reduced, encode-decode}
use Rattle.instruction.proofs.Reading.{numbered_token, DraftFits, read_fits, line-numbered, behind-numbered}
use Rattle.instruction.proofs.Text.{operand_tokens, no_colon, no-colon, tokens-kept, tokens-read, text-visible, text-line}
use Rattle.instruction.specs.Kinds.{plain, identifier_kind, kind_of}
use Rattle.image.specs.Assembling.{Context, first_context, Effect, nothing, sets, codes, faulty, read_on, context_after, reads_from, reads, words_of, address_in}
use Rattle.image.specs.Meaning.{resolved, settled, coded_by, coded_in, instructions_of}
use Rattle.image.proofs.Images.{Words}
use Rattle.image.proofs.Coded.{Coded, unlabelled, after-colon, coded}
use Rattle.image.proofs.Listed.{Decoded, AllDecoded}
use Rattle.image.proofs.Round.{Reads, AllRead, instructions_in}

-- ---- the instructions of a source

abbrev pub AllFit : List Instruction → Type 0
AllFit [] = Unit {0}
AllFit (i ∷ is) = Fits i × AllFit is

fit_append : (is js : List Instruction) → AllFit is → AllFit js → AllFit (is ++ js)
fit_append [] js a b = b
fit_append (i ∷ is) js a b = (a.0, fit_append is js a.1 b)

-- What a line has of an instruction fits.
fit-read : (l : Line) (d : Draft) → each numbered_token l.first ≡ true → Coded l d → DraftFits d
fit-read l d h (unlabelled e) = read_fits l d h e
fit-read l d h (after-colon s k e) = read_fits (behind 2 l) d (behind-numbered 2 l h) e

pub fit_on : (names : List Name) → Naming names → (c : Context) (l : List ℕ) (d : Draft) → (read_on c (read_line names l)).effect ≡ codes d → DraftFits d
unfolding read_on
fit_on names N c l d = go (read_line names l) refl
  where
    go : (o : Option Line) → read_line names l ≡ o → (read_on c o).effect ≡ codes d → DraftFits d
    go none e h = cc
    go (some x) e h = fit-read x d (line-numbered names N l x e) (coded c x d h)

-- So does the instruction, whatever number a label comes to.
pub fit-settled : (addresses : List ℕ → Option ℕ) (words : ℕ) (d : Draft) → DraftFits d → Fits (settled addresses words d)
unfolding settled is_some
fit-settled addresses words d f = record { in_table = f.in_table; registers = f.registers; number = go d.amount f.amount }
  where
    go : (o : Option Amount) → is_some o ≡ has_number (places_of d.row)
        → is_some {A = ℤ} (elim o [ some a ↦ some (resolved addresses words a) | none ↦ none ]) ≡ has_number (places_of d.row)
    go none h = h
    go (some a) h = h

fit-coded : (addresses : List ℕ → Option ℕ) (words : ℕ) (e : Effect) → ((d : Draft) → e ≡ codes d → DraftFits d) → AllFit (coded_by addresses words e)
unfolding coded_by
fit-coded addresses words (codes d) f = (fit-settled addresses words d (f d refl), tt)
fit-coded addresses words nothing f = tt
fit-coded addresses words (sets s) f = tt
fit-coded addresses words (faulty n) f = tt

fit-lines : (names : List Name) → Naming names → (addresses : List ℕ → Option ℕ) (words : ℕ) (c : Context) (ls : List (List ℕ))
    → AllFit (coded_in addresses words (reads_from names c ls))
unfolding coded_in reads_from
fit-lines names N addresses words c [] = tt
fit-lines names N addresses words c (l ∷ ls) =
    let e = (read_on c (read_line names l)).effect in
    fit_append (coded_by addresses words e) _ (fit-coded addresses words e (fit_on names N c l)) (fit-lines names N addresses (words + words_of e) (context_after c e) ls)

pub source_fits : (names : List Name) → Naming names → (source : List ℕ) → AllFit (instructions_of names source)
unfolding instructions_of reads
source_fits names N source = fit-lines names N (address_in 0 (reads names source)) 0 first_context (lines source)

-- ---- their words

pub fit_words : (is : List Instruction) → AllFit is → Words (map word_of is)
fit_words [] f = tt
fit_words (i ∷ is) f = (word_bound i f.0, fit_words is f.1)

pub fit-decoded : (is : List Instruction) → AllFit is → AllDecoded (map word_of is)
fit-decoded [] f = tt
fit-decoded (i ∷ is) f = ((reduced_to i, decode-encode i f.0), fit-decoded is f.1)

-- ---- the text of a word

plain-first : (m : List ℕ) (ts : List Token) → each no_colon ts ≡ true → kind_of (identifier m ∷ ts) ≡ plain
unfolding kind_of identifier_kind each no_colon
plain-first m [] h = refl
plain-first m (t ∷ ts) h = let (ht, hs) = both (not (eqb (mark_byte t) 58)) (each no_colon ts) h in rw (identifier_kind, not-true (eqb (mark_byte t) 58) ht)

module _ (names : List Name) (N : Naming names) (free : each (λ r. not (is_register names r.mnemonic)) table ≡ true) where
  word-reads : (w : ℕ) → Decoded w → Reads names w
  word-reads w d =
      let i = d.0 in
      let f = decoded-fits w i d.1 in
      let r = decoded-reduced w i d.1 in
      let n = not-true (is_register names i.row.mnemonic) (carried (λ r. not (is_register names r.mnemonic)) free i.row f.in_table) in
      record {
        instruction = i;
        decoded = d.1;
        is-visible = text-visible i f;
        line = line_of (identifier i.row.mnemonic ∷ operand_tokens i);
        is-line = text-line i f r names N n;
        is_plain = ap kind_of (tokens-kept i f) ∙ plain-first i.row.mnemonic (operand_tokens i) (no-colon i);
        is_read = tokens-read i f r;
      }

  pub words-read : (ws : List ℕ) → AllDecoded ws → AllRead names ws
  words-read [] a = tt
  words-read (w ∷ ws) a = (word-reads w a.0, words-read ws a.1)

-- the instructions of words have those words
pub words-again : (names : List Name) (ws : List ℕ) (r : AllRead names ws) → map word_of (instructions_in names ws r) ≡ ws
unfolding instructions_in
words-again names [] r = refl
words-again names (w ∷ ws) r = rw (encode-decode w r.0.instruction r.0.decoded, words-again names ws r.1)
