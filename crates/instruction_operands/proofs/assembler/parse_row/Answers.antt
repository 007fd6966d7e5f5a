-- `instruction_operands::assembler::parse_row` meets its contract.
use Rattle.std.proofs.Common.{arith, sym, subst, ◌+◌, ◌∙◌}
use lib.ListN.{drop, length-drop}
use lib.Seq.{take_all}
use Rattle.instruction_operands.specs.Promised.{RowIs}
use Rattle.instruction_operands.proofs.Line.{row-other, row-read}
use Rattle.instruction_operands.proofs.assembler.parse_row.Goals as goal

pub returns-then-line-at : goal.returns-then-line-at
returns-then-line-at c =
    row-other c.args.mnemonic c.args.line.now c.args.at c.form.result c.form.ensures c.args.source.now (λ e. c.if-line-at.true (e ∙ sym c.operand_count.ensures))

pub returns : goal.returns
returns c =
    let rest = drop (c.args.at + 1) c.args.line.now.tokens in
    let left = c.new-tokens.ensures.left ∙ take_all _ rest (omega (arith, length-drop (c.args.at + 1) c.args.line.now.tokens)) in
    subst (λ s. RowIs s c.args.mnemonic c.args.line.now c.args.at c.read_operands.result) c.new-tokens.ensures.source
    (row-read c.args.mnemonic c.args.line.now c.args.at c.form.result c.form.ensures c.requires.token_there (c.if-line-at.false ∙ c.operand_count.ensures) c.new-tokens.result _ left _
    c.read_operands.ensures)
