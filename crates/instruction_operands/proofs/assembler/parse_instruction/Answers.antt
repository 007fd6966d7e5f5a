-- `instruction_operands::assembler::parse_instruction` meets its contract.
use Rattle.std.proofs.Common.{arith}
use Rattle.instruction_operands.proofs.Line.{no-token, no-word, no-mnemonic, row-is}
use Rattle.instruction_operands.proofs.assembler.parse_instruction.Goals as goal

pub returns-then-line-at : goal.returns-then-line-at
returns-then-line-at c = no-token c.args.source.now c.args.line.now c.args.at c.requires.kept_line c.requires.place_in_range c.if-line-at.true

pub returns-in_default : goal.returns-in_default
returns-in_default c = no-word c.args.source.now c.args.line.now c.args.at c.requires.kept_line c.requires.place_in_range c.if-line-at.false c.in_default.not-Identifier

pub returns-in_default-and_then : goal.returns-in_default-and_then
returns-in_default-and_then c =
    no-mnemonic c.args.source.now c.args.line.now c.args.at c.requires.kept_line c.requires.place_in_range c.if-line-at.false
    c.in-Identifier.is (λ i. omega (arith, c.type_inv.source i)) c.lower_key-key.result (rw c.spelling.ensures at c.lower_key-key.ensures) c.and_then.result c.and_then.ensures
    c.in_default-and_then.is

pub returns : goal.returns
returns c =
    row-is c.args.source.now c.args.line.now c.args.at c.requires.kept_line c.requires.place_in_range c.if-line-at.false
    c.in-Identifier.is (λ i. omega (arith, c.type_inv.source i)) c.lower_key-key.result (rw c.spelling.ensures at c.lower_key-key.ensures) c.and_then.result c.and_then.ensures
    c.in-Some.mnemonic c.in-Some.is c.parse_row.result c.parse_row.ensures
