-- What the instruction of a line was read of; a numeric token on the line is its amount.
use mathlib.Core.Path.{◌≡◌, refl, sym, ap, ◌∙◌}
use Prim.Native.Nat.{ℕ, suc, ◌-◌, ◌≤◌}
use native.Mathlib.Omega.{arith}
use mathlib.Core.Option.{Option, none, some}
use mathlib.Core.List.{List, [], ◌∷◌, ◌++◌}
use lib.ListN.{length, drop}
use lib.Seq.{take_all}
use Rattle.text_lexical.specs.Bytes.{Result, value, refused}
use Rattle.text_lexical.specs.Names.{Name}
use Rattle.text.specs.Tokens.{Token, identifier, tokens}
use Rattle.text.specs.Lines.{Line, content, kept, line_of, record_of, read_line}
use Rattle.instruction.specs.Operands.{Draft, read_identifier, mark_byte, read_instruction, behind}
use Rattle.instruction.specs.Fits.{places_of, number_range}
use Rattle.instruction.specs.Kinds.{Kind, empty, labelled, config, ignored, plain, kind_of}
use Rattle.instruction.proofs.Forms.{six-places}
use Rattle.instruction.proofs.Labelled.{BeginsWith, labelled-first}
use Rattle.instruction.proofs.Reading.{instruction-read}
use Rattle.instruction.proofs.Amounts.{Numeric, IsAmount, instruction-amount}
use Rattle.image.specs.Settings.{Settings, configured}
use Rattle.image.specs.Assembling.{Context, nothing, codes, setting, coding, after_label, read_kind, read_on}

-- ---- its tokens

-- A line's instruction was read of all its tokens, or of those after its label and the label's colon.
pub data Coded (l : Line) (d : Draft) : Type 0 where
  unlabelled : read_instruction l ≡ value d → Coded l d
  after-colon : (s : List ℕ) → kind_of l.first ≡ labelled s → read_instruction (behind 2 l) ≡ value d → Coded l d

coding-value : (r : Result Draft) (d : Draft) → coding r ≡ codes d → r ≡ value d
unfolding coding
coding-value (value x) d e = cc
coding-value (refused n) d e = cc

no-setting : (r : Result Settings) (d : Draft) → setting r ≡ codes d → ⊥
unfolding setting
no-setting (value s) d e = cc
no-setting (refused n) d e = cc

after-value : (l : Line) (d : Draft) → after_label l ≡ codes d → read_instruction l ≡ value d
unfolding after_label
after-value l d e = go l.first e
  where
    go : (ts : List Token) → elim ts [ [] ↦ nothing | t ∷ us ↦ coding (read_instruction l) ] ≡ codes d → read_instruction l ≡ value d
    go [] e = cc
    go (t ∷ us) e = coding-value (read_instruction l) d e

pub coded : (c : Context) (l : Line) (d : Draft) → (read_on c (some l)).effect ≡ codes d → Coded l d
unfolding read_on read_kind
coded c l d e = go (kind_of l.first) refl e
  where
    go : (k : Kind) → kind_of l.first ≡ k → (read_kind c l k).effect ≡ codes d → Coded l d
    go empty q e = cc
    go (labelled s) q e = after-colon s q (after-value (behind 2 l) d e)
    go config q e = absurd (no-setting (configured c.setup l) d e)
    go ignored q e = cc
    go plain q e = unlabelled (coding-value (read_instruction l) d e)

-- ---- a numeric token of the line

module _ (d : Draft) (t : Token) (n : Numeric t) where
  abbrev Its : Type 0
  Its = IsAmount (number_range (places_of d.row)) d.amount t

  -- A numeric token is neither of the two that a label takes.
  behind-label : (left right : List Token) (s : List ℕ) → kind_of (left ++ (t ∷ right)) ≡ labelled s → read_instruction (behind 2 (line_of (left ++ (t ∷ right)))) ≡ value d
      → length (left ++ (t ∷ right)) ≤ kept → Its
  unfolding line_of behind read_identifier
  behind-label left right s k f h = go left (labelled-first s (left ++ (t ∷ right)) k) f h
    where
      go : (left : List Token) → BeginsWith s (left ++ (t ∷ right)) → read_instruction (behind 2 (line_of (left ++ (t ∷ right)))) ≡ value d
          → length (left ++ (t ∷ right)) ≤ kept → Its
      go [] b f h =
          let q : t ∷ right ≡ identifier s ∷ b.second ∷ b.after = b.are in
          let i : t ≡ identifier s = cc in
          let x : none ≡ some s = sym n.no_identifier ∙ ap read_identifier i in
          cc
      go (a ∷ []) b f h =
          let q : a ∷ t ∷ right ≡ identifier s ∷ b.second ∷ b.after = b.are in
          let i : t ≡ b.second = cc in
          let x : ◌≡◌ {A = ℕ} 0 58 = sym n.no_mark ∙ ap mark_byte i ∙ b.is_colon in
          absurd (omega arith)
      go (a ∷ b ∷ left) w f h =
          let ts = left ++ (t ∷ right) in
          let all = take_all kept (a ∷ b ∷ ts) h in
          let two : suc (suc (length ts)) - 2 ≡ length ts = omega arith in
          instruction-amount (behind 2 (line_of (a ∷ b ∷ ts))) d left t right n (ap (drop 2) all) (two ∙ sym (ap (λ (x : List Token). length (drop 2 x)) all)) f

  of-line : (left right : List Token) → Coded (line_of (left ++ (t ∷ right))) d → Its
  unfolding line_of behind
  of-line left right (unlabelled f) =
      let ts = left ++ (t ∷ right) in
      let r = instruction-read (line_of ts) d f in
      let all = take_all kept ts (omega (arith, r.as_many, six-places r.row.form)) in
      instruction-amount (line_of ts) d left t right n all (sym (ap length all)) f
  of-line left right (after-colon s k f) =
      let ts = left ++ (t ∷ right) in
      let r = instruction-read (behind 2 (line_of ts)) d f in
      let h : length ts ≤ kept = omega (arith, r.as_many, six-places r.row.form) in
      behind-label left right s (ap kind_of (sym (take_all kept ts h)) ∙ k) f h

  pub line-amount : (names : List Name) (c : Context) (l : List ℕ) (left right : List Token) → tokens names (content l) ≡ some (left ++ (t ∷ right))
      → (read_on c (read_line names l)).effect ≡ codes d → Its
  unfolding read_line record_of
  line-amount names c l left right h e =
      of-line left right (coded c (line_of (left ++ (t ∷ right))) d (ap (λ (o : Option (List Token)). (read_on c (record_of o)).effect) (sym h) ∙ e))
