-- Statements that are like those of edits and are wrong: two accepted sources refute each. So what is promised needs the header before the
-- words, the count of words and not of lines, the word's own four bytes, an instruction on both lines, and one set of names.
use Prim.Native.Nat.{ℕ, ◌+◌, ◌*◌}
use mathlib.Core.Path.{◌≡◌, refl, ap, subst}
use mathlib.Core.Bool.{true}
use mathlib.Core.Option.{Option, none}
use mathlib.Core.List.{List, [], ◌∷◌, ◌++◌}
use native.Mathlib.Omega.{arith}
use lib.ListN.{length, get_or}
use Rattle.text_lexical.specs.Bytes.{bytes}
use Rattle.text_lexical.specs.Numbers.{decimal}
use Rattle.text_lexical.specs.Names.{Name, name, named, numbered, present}
use Rattle.text.specs.Lines.{lines}
use Rattle.text.specs.NameSets.{Naming}
use Rattle.text.proofs.NameSets.{up_to, names-it, is_name_of, numbers}
use Rattle.instruction.specs.Table.{row, System}
use Rattle.instruction.specs.Operands.{Draft}
use Rattle.image.specs.Assembling.{first_context, Effect, nothing, codes, reads_from}
use Rattle.image.specs.Meaning.{image_of, Accepted}
use Rattle.guarantees.specs.NameSets.{keys, NameSet}
use Rattle.guarantees.specs.Targets.{drafted_by, drafted}
use Rattle.guarantees.specs.Edits.{left_by, read_below, Edit, words_above, AgreeBut}
use Rattle.guarantees.specs.EditExamples.{pair, renumbered, jumped, removed}
use Rattle.guarantees.proofs.Computing.{computing}
use Rattle.guarantees.proofs.NameSets.{present-set}
use Rattle.guarantees.proofs.EditExamples.{renumbered-edit, jumped-edit}

-- ---- the place without the header

-- "the four of that instruction" counted from the first word's place.
abbrev pub WithoutHeader : Type 0
WithoutHeader = (names : List Name) (s s' : List ℕ) (e : Edit names s s') (t t' i i' : ℕ) → Accepted names s t i → Accepted names s' t' i'
    → AgreeBut (4 * words_above e) (image_of names s) (image_of names s')

-- Byte 33 is not the same in both.
pub without-header : WithoutHeader → ⊥
unfolding pair renumbered computing
without-header w =
    let e = renumbered-edit.edit in
    let a = w present renumbered.source renumbered.source' e 1024 1024 65536 65536 refl refl in
    let none-above : 4 * words_above e ≡ 0 = omega (arith, renumbered-edit.stands_at) in
    let b = subst (λ (n : ℕ). AgreeBut n (image_of present renumbered.source) (image_of present renumbered.source')) none-above a in
    let n : ◌≡◌ {A = ℕ} 128 0 = ap (λ (x : List ℕ). get_or x 29 0) b.after in
    omega arith

-- ---- the place by the lines above

-- Lines counted in place of words.
abbrev pub ByLines : Type 0
ByLines = (names : List Name) (s s' : List ℕ) (e : Edit names s s') (t t' i i' : ℕ) → Accepted names s t i → Accepted names s' t' i'
    → AgreeBut (32 + 4 * length e.above) (image_of names s) (image_of names s')

-- A comment and a setting are above, so that byte 37 is before that place, and it is not the same in both.
pub by-lines : ByLines → ⊥
unfolding pair jumped computing
by-lines w =
    let e = jumped-edit.edit in
    let a = w present jumped.source jumped.source' e 1024 1024 65536 65536 refl refl in
    let three-above : 32 + 4 * length e.above ≡ 44 = omega (arith, jumped-edit.lines_above) in
    let b = subst (λ (n : ℕ). AgreeBut n (image_of present jumped.source) (image_of present jumped.source')) three-above a in
    let n : ◌≡◌ {A = ℕ} 128 0 = ap (λ (x : List ℕ). get_or x 37 0) b.before in
    omega arith

-- ---- all bytes

-- The word's own four too.
abbrev pub AllBytes : Type 0
AllBytes = (names : List Name) (s s' : List ℕ) → Edit names s s' → (t t' i i' : ℕ) → Accepted names s t i → Accepted names s' t' i' → image_of names s ≡ image_of names s'

pub all-bytes : AllBytes → ⊥
unfolding pair renumbered computing
all-bytes w =
    let a = w present renumbered.source renumbered.source' renumbered-edit.edit 1024 1024 65536 65536 refl refl in
    let n : ◌≡◌ {A = ℕ} 128 0 = ap (λ (x : List ℕ). get_or x 33 0) a in
    omega arith

-- ---- an instruction on one of the lines

-- The other line does anything, after the same label.
pub record HalfEdit (names : List Name) (source source' : List ℕ) : Type 0 where
  pub above : List (List ℕ)
  pub line : List ℕ
  pub line' : List ℕ
  pub below : List (List ℕ)
  pub stands : lines source ≡ above ++ (line ∷ below)
  pub stands' : lines source' ≡ above ++ (line' ∷ below)
  pub label : Option (List ℕ)
  pub draft : Draft
  pub effect' : Effect
  pub holds : read_below names above line ≡ record { label = label; effect = codes draft }
  pub holds' : read_below names above line' ≡ record { label = label; effect = effect' }

abbrev pub HalfInstruction : Type 0
HalfInstruction = (names : List Name) (s s' : List ℕ) (e : HalfEdit names s s') (t t' i i' : ℕ) → Accepted names s t i → Accepted names s' t' i'
    → AgreeBut (32 + 4 * length (drafted (reads_from names first_context e.above))) (image_of names s) (image_of names s')

-- A comment in an instruction's place: one image has 44 bytes, and the other 40.
pub half-instruction : HalfInstruction → ⊥
unfolding left_by drafted_by drafted pair removed computing
half-instruction w =
    let e : HalfEdit present removed.source removed.source' = record {
      above = [];
      line = bytes "ecall";
      line' = bytes "# gone";
      below = bytes "a: ecall" ∷ bytes "jal r0, a" ∷ [];
      stands = refl;
      stands' = refl;
      label = none;
      draft = record { row = row "ecall" 0x50 System; registers = []; amount = none };
      effect' = nothing;
      holds = refl;
      holds' = refl;
    } in
    let a = w present removed.source removed.source' e 1024 1024 65536 65536 refl refl in
    let n : ◌≡◌ {A = ℕ} 44 40 = a.as_long in
    omega arith

-- ---- two sets of names

-- Each source is read by names of its own.
pub record EditAcross (names names' : List Name) (source source' : List ℕ) : Type 0 where
  pub above : List (List ℕ)
  pub line : List ℕ
  pub line' : List ℕ
  pub below : List (List ℕ)
  pub stands : lines source ≡ above ++ (line ∷ below)
  pub stands' : lines source' ≡ above ++ (line' ∷ below)
  pub label : Option (List ℕ)
  pub draft : Draft
  pub draft' : Draft
  pub holds : read_below names above line ≡ record { label = label; effect = codes draft }
  pub holds' : read_below names' above line' ≡ record { label = label; effect = codes draft' }

abbrev pub TwoSets : Type 0
TwoSets = (N N' : NameSet) (s s' : List ℕ) (e : EditAcross N.names N'.names s s') (t t' i i' : ℕ) → Accepted N.names s t i → Accepted N'.names s' t' i'
    → AgreeBut (32 + 4 * length (drafted (reads_from N.names first_context e.above))) (image_of N.names s) (image_of N'.names s')

-- The names of document 02, f): "zero, ra, sp, fp, a0 to a5, s0 to s3, t0, t1 for r0 to r15".
unfoldable calling : List Name
calling =
    numbered
    ++ (name (bytes "zero") 0 ∷ name (bytes "ra") 1 ∷ name (bytes "sp") 2 ∷ name (bytes "fp") 3
    ∷ name (bytes "a0") 4 ∷ name (bytes "a1") 5 ∷ name (bytes "a2") 6 ∷ name (bytes "a3") 7 ∷ name (bytes "a4") 8 ∷ name (bytes "a5") 9
    ∷ name (bytes "s0") 10 ∷ name (bytes "s1") 11 ∷ name (bytes "s2") 12 ∷ name (bytes "s3") 13
    ∷ name (bytes "t0") 14 ∷ name (bytes "t1") 15 ∷ [])

calling-numbered : up_to (λ n. is_name_of n (named calling (114 ∷ decimal n))) 16 ≡ true
unfolding up_to is_name_of names-it calling computing
calling-numbered = refl

calling-naming : Naming calling
unfolding calling computing
calling-naming = record { identifiers = refl; sixteen = refl; numbered = numbers calling calling-numbered }

unfoldable calling-set : NameSet
unfolding keys calling computing
calling-set = record { names = calling; naming = calling-naming; mnemonics_free = refl; keys_free = refl }

-- The common line names `t0`, which is r8 by the one set and r14 by the other.
pub two-sets : TwoSets → ⊥
unfolding left_by drafted_by drafted calling calling-set present-set computing
two-sets w =
    let s = bytes "ecall\nadd t0, r1, r1" in
    let s' = bytes "ebreak\nadd t0, r1, r1" in
    let e : EditAcross present calling s s' = record {
      above = [];
      line = bytes "ecall";
      line' = bytes "ebreak";
      below = bytes "add t0, r1, r1" ∷ [];
      stands = refl;
      stands' = refl;
      label = none;
      draft = record { row = row "ecall" 0x50 System; registers = []; amount = none };
      draft' = record { row = row "ebreak" 0x51 System; registers = []; amount = none };
      holds = refl;
      holds' = refl;
    } in
    let a = w present-set calling-set s s' e 1024 1024 65536 65536 refl refl in
    let n : ◌≡◌ {A = ℕ} 140 143 = ap (λ (x : List ℕ). get_or x 1 0) a.after in
    omega arith
