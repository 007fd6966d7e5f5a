-- Labels as jump targets: what an instruction that names a label comes to in every accepted call. Quotations are document 02's, a).
use Rattle.std.specs.Prelude.{ℕ, ◌≡◌, true, List, [], ◌∷◌, ◌++◌, length}
use Rattle.std.specs.Prelude.{Result as Answered}
use Rattle.std.proofs.Math.Option.{Option, some}
use Rattle.text_lexical.specs.Numbers.{is_signed}
use Rattle.text_lexical.specs.Names.{Name}
use Rattle.instruction.specs.Table.{Branch}
use Rattle.instruction.specs.Operands.{Instruction, to, Draft}
use Rattle.image.specs.Assembling.{Label, Effect, nothing, sets, codes, faulty, Read, reads, address_of, distance, assembling}
use Rattle.image.specs.Meaning.{instructions_of}
use Rattle.image.specs.Lent.{entered}
use Rattle.image_labels.specs.declared.label.Label.{Label as Entry}
use Rattle.image_assembler.specs.Promised.{answer_meant, Assembles}
use Rattle.image_assembler.specs.declared.assembler.Assembled.{Assembled}
use Rattle.image_assembler.specs.declared.assembler.AssembleError.{AssembleError}
use Rattle.guarantees.specs.Calls.{IsRefusal}

-- The instructions of some lines, as they stand there.
unfoldable pub drafted_by : Effect → List Draft
drafted_by (codes d) = d ∷ []
drafted_by nothing = []
drafted_by (sets s) = []
drafted_by (faulty n) = []

unfoldable pub drafted : List Read → List Draft
drafted [] = []
drafted (r ∷ rs) = drafted_by r.effect ++ drafted rs

-- "The last operand of jal and the six branches may now be an Identifier, meaning a label anywhere in the source": a line of a source, among
-- those above and below it, whose instruction names a label by a spelling.
pub record NamesLabel (names : List Name) (source : List ℕ) : Type 0 where
  pub above : List Read
  pub label : Option (List ℕ)
  pub draft : Draft
  pub below : List Read
  pub spelling : List ℕ
  pub stands : reads names source ≡ above ++ (record { label = label; effect = codes draft } ∷ below)
  pub names_it : draft.amount ≡ some (to spelling)

-- How many instructions are before it.
abbrev pub words_before : {names : List Name} {source : List ℕ} → NamesLabel names source → ℕ
words_before n = length (drafted n.above)

-- "Its number is the label's address minus the instruction's own address, in bytes": of the label that was entered with that spelling.
pub record IsResolved {names : List Name} {source : List ℕ} (labels : List Label) (n : NamesLabel names source) : Type 0 where
  pub address : ℕ
  pub is_entered : address_of labels n.spelling ≡ some address
  pub before : List Instruction
  pub after : List Instruction
  pub is_instruction : instructions_of names source
      ≡ before ++ (record { row = n.draft.row; registers = n.draft.registers; number = some (distance (words_before n) address) } ∷ after)
  pub place : length before ≡ words_before n
  -- "34 distance outside the branch's signed 17 bits": so a branch's is within them, and each is within the 21 of `jal`
  pub fits_17 : n.draft.row.form ≡ Branch → is_signed 17 (distance (words_before n) address) ≡ true
  pub fits_21 : is_signed 21 (distance (words_before n) address) ≡ true

-- In every call that is not refused each label that an instruction names is resolved.
pub record Targets : Type 0 where
  pub resolved : (names : List Name) (source : List ℕ) (table : List Entry) (image : List ℕ) (table' : List Entry) (image' : List ℕ) (r : Answered Assembled AssembleError)
      → Assembles names source table image table' image' r → (IsRefusal (answer_meant r) → ⊥)
      → (n : NamesLabel names source) → IsResolved (entered (assembling names source (length table) (length image))) n
