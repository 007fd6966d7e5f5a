-- `text::parser::number_at` meets its contract.
use Rattle.std.proofs.Common.{arith, sym, ap, ◌∙◌}
use Rattle.std.specs.Prelude.{Result as Answer}
use Rattle.refusal.specs.declared.refusal.Refusal.{Refusal}
use Rattle.text_lexical.specs.Names.{present}
use Rattle.text_lexical.specs.declared.number.Whole.{Whole}
use Rattle.text.specs.Promised.{number_with, number_of}
use Rattle.text.proofs.NameSets.{present-naming}
use Rattle.text.proofs.Numbers.{number-is, no-number-is, no-token, no-number, number_none}
use Rattle.text.proofs.parser.number_at.Goals as goal

pub returns-then-text-at : goal.returns-then-text-at
returns-then-text-at c = number_none present c.args.text.now c.args.at c.args.range present-naming (λ l. absurd (omega arith))

pub returns-in_err-token : goal.returns-in_err-token
returns-in_err-token c = c.from_residual.ensures ∙ no-number-is present c.args.text.now c.args.at c.args.range present-naming (sym c.in_err-token.was ∙ c.number.ensures)

pub returns-in_default : goal.returns-in_default
returns-in_default c = no-token c.args.range _ c.in_default.not-Found ∙ number-is present c.args.text.now c.args.at c.args.range present-naming _ (sym c.in_ok-token.was ∙ c.number.ensures)

pub returns-in_default-extract_number : goal.returns-in_default-extract_number
returns-in_default-extract_number c =
    no-number c.in-Found.next c.extract_number.result c.in_default-extract_number.not-Ok
    ∙ ap (λ (x : Answer Whole Refusal). number_with x c.in-Found.next) c.extract_number.ensures
    ∙ ap (number_of c.args.range) (sym c.in-Found.is)
    ∙ number-is present c.args.text.now c.args.at c.args.range present-naming _ (sym c.in_ok-token.was ∙ c.number.ensures)

pub returns : goal.returns
returns c =
    ap (λ (x : Answer Whole Refusal). number_with x c.in-Found.next) (sym c.in-Ok.is ∙ c.extract_number.ensures)
    ∙ ap (number_of c.args.range) (sym c.in-Found.is)
    ∙ number-is present c.args.text.now c.args.at c.args.range present-naming _ (sym c.in_ok-token.was ∙ c.number.ensures)
