-- An answer that is handed on as numbers: what `assemble` promises of its answer holds of them.
use Prim.Native.Nat.{ℕ}
use mathlib.Core.Path.{ap, ◌∙◌}
use mathlib.Core.List.{List}
use Rattle.std.specs.Prelude.{Result}
use Rattle.text_lexical.specs.Names.{Name}
use Rattle.image_labels.specs.declared.label.Label.{Label}
use Rattle.image_assembler.specs.declared.assembler.Assembled.{Assembled}
use Rattle.image_assembler.specs.declared.assembler.AssembleError.{AssembleError}
use Rattle.image_assembler.specs.Promised.{answer_meant, Assembles}
use Rattle.capi.specs.Promised.{assemble_number, assemble_values, AnswerGiven, AssembleCall}

pub assemble-called : {names : List Name} {source image image' answer' : List ℕ} {table table' : List Label} {a : Result Assembled AssembleError} {r : ℕ}
    → Assembles names source table image table' image' a → AnswerGiven (answer_meant a) answer' r → AssembleCall names source table image table' image' answer' r
assemble-called h g = record {
  number = g.number ∙ ap assemble_number h.answer;
  answer = g.answer ∙ ap assemble_values h.answer;
  table_holds = h.table_holds;
  image_holds = h.image_holds;
}
