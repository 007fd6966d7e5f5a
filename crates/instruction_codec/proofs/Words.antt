-- Encoding and decoding undo one another. The premises are what the contracts of `encode` and `decode` promise of their answers, so
-- these are theorems on the code's instructions and words.
use mathlib.Core.Path.{◌≡◌, refl, sym, ap, ◌∙◌}
use mathlib.Core.Logic.{◌↔◌}
use Prim.Native.Nat.{ℕ}
use Rattle.std.specs.Prelude.{Ok, Err}
use Rattle.std.specs.Prelude.{Result as Answer}
use Rattle.refusal.specs.Refusals.{answered}
use Rattle.refusal.specs.declared.refusal.Refusal.{Refusal}
use Rattle.text_lexical.specs.Bytes.{value}
use Rattle.instruction.specs.Operands.{Instruction as Meant}
use Rattle.instruction.specs.Words.{word_of, instruction_of}
use Rattle.instruction.specs.Fits.{reduced_to}
use Rattle.instruction.specs.Promised.{instruction_meant}
use Rattle.instruction.specs.declared.instruction.Instruction.{Instruction}
use Rattle.instruction.proofs.Results.{not_refused}
use Rattle.instruction.proofs.Meaning.{word-decoded, decoded-word}

-- The word of an instruction is decoded to that instruction, of its number what the field keeps (`modulo-reduced` says that it is the
-- same modulo 2 to the field's width).
pub decode-of-encode : (i : Instruction) (w : ℕ) (d : Answer Instruction Refusal) → w ≡ word_of (instruction_meant i) → answered instruction_meant d ≡ instruction_of w
    → answered instruction_meant d ≡ value (reduced_to (instruction_meant i))
decode-of-encode i w d e h = h ∙ ap instruction_of e ∙ word-decoded i

-- The instruction that a word is decoded to is encoded as that word.
pub encode-of-decode : (w v : ℕ) (i : Instruction) → answered instruction_meant (Ok i) ≡ instruction_of w → v ≡ word_of (instruction_meant i) → v ≡ w
encode-of-decode w v i h e = e ∙ decoded-word w i h

is-decoded : {m : Meant} (d : Answer Instruction Refusal) → answered instruction_meant d ≡ value m → (i : Instruction) × (d ≡ Ok i)
is-decoded (Ok i) e = (i, refl)
is-decoded (Err r) e = not_refused e

-- A word is decoded exactly if it is the word of an instruction.
pub decoded-exactly : (w : ℕ) (d : Answer Instruction Refusal) → answered instruction_meant d ≡ instruction_of w
    → ((i : Instruction) × (d ≡ Ok i)) ↔ ((i : Instruction) × (word_of (instruction_meant i) ≡ w))
decoded-exactly w d h = (
  (λ p. (p.0, decoded-word w p.0 (ap (answered instruction_meant) (sym p.1) ∙ h))),
  (λ p. is-decoded d (decode-of-encode p.0 w d (sym p.1) h)),
)
