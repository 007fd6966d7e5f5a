-- The library's answers, as the list has them: a number, 0 where nothing is refused, and the other values in the order of the exported
-- functions' answers.
use Rattle.std.specs.Prelude.{ℕ, List, [], ◌∷◌, replicate, Result, Ok, Err}
use Rattle.refusal.specs.Refusals.{number_of}
use Rattle.refusal.specs.declared.refusal.Refusal.{Refusal}
use Rattle.image_assembler.specs.declared.assembler.Assembled.{Assembled}
use Rattle.image_assembler.specs.declared.assembler.AssembleError.{AssembleError}
use Rattle.image_assembler.specs.declared.assembler.AssembleError.TheVariants.{Refused as RefusedAssembling, TooShort as ImageTooShort}
use Rattle.image.specs.declared.program.Opened.{Opened}
use Rattle.image.specs.declared.program.ProgramHeader.{ProgramHeader}
use Rattle.image_listing.specs.declared.disassembler.ListError.{ListError}
use Rattle.image_listing.specs.declared.disassembler.ListError.TheVariants.{Refused as RefusedListing, Faulty, TooShort as TextTooShort}
use Rattle.test_vectors.specs.declared.answer.Answer.{Answer}

-- Words, labels, limb_bits, data_limbs, addr_limbs, the Rust's line, the line, the needed length.
unfoldable pub answer_given : Result Assembled AssembleError → Answer 8
answer_given (Ok a) =
    record {
      number = 0;
      values = a.words ∷ a.labels ∷ a.config.limb_bits ∷ a.config.data_limbs ∷ a.config.addr_limbs ∷ 0 ∷ 0 ∷ 0 ∷ [];
    }
answer_given (Err (RefusedAssembling r rust_line line labels)) =
    record { number = number_of r; values = 0 ∷ labels ∷ 0 ∷ 0 ∷ 0 ∷ rust_line ∷ line ∷ 0 ∷ [] }
answer_given (Err (ImageTooShort labels needed)) =
    record { number = 23; values = 0 ∷ labels ∷ 0 ∷ 0 ∷ 0 ∷ 0 ∷ 0 ∷ needed ∷ [] }

-- The header's fields in their order, and where the code ends.
abbrev pub header_values : ProgramHeader → ℕ → List ℕ
header_values h end =
    h.magic ∷ h.version ∷ h.config.limb_bits ∷ h.config.data_limbs ∷ h.config.addr_limbs ∷ h.flags ∷ h.entry_point
    ∷ h.code_size ∷ h.data_size ∷ h.bss_size ∷ h.stack_size ∷ end ∷ []

unfoldable pub header_given : Result Opened Refusal → Answer 12
header_given (Ok o) = record { number = 0; values = header_values o.header o.code_end }
header_given (Err r) = record { number = number_of r; values = replicate 12 0 }

-- The text's length, the index of a faulty word, the needed length.
unfoldable pub text_given : Result ℕ ListError → Answer 3
text_given (Ok n) = record { number = 0; values = n ∷ 0 ∷ 0 ∷ [] }
text_given (Err (RefusedListing r)) = record { number = number_of r; values = replicate 3 0 }
text_given (Err (Faulty r i)) = record { number = number_of r; values = 0 ∷ i ∷ 0 ∷ [] }
text_given (Err (TextTooShort n)) = record { number = 32; values = 0 ∷ 0 ∷ n ∷ [] }
