-- `image_assembler::assembler::assemble` meets its contract.
use Rattle.std.proofs.Common.{rules, ◌∙◌, sym}
use borrow.Author.Tests.{ltb-true}
use Rattle.text_lexical.specs.Names.{present}
use Rattle.image_assembler.proofs.Walks.{overlong-assembles, resolves-end}
use Rattle.image_assembler.proofs.assembler.assemble.Goals as goal

pub returns-then-too_long : goal.returns-then-too_long
returns-then-too_long c =
    overlong-assembles present c.args.source.now c.args.table.now c.args.image.now (ltb-true _ _ (sym c.too_long.ensures ∙ c.if-too_long.true))

pub returns : goal.returns
returns c =
    let labels = c.resolve-verdict.ensures in
    let same = sym (c.unlink.ensures.lent.same_table ∙ labels.lent.same_table) in
    resolves-end labels (search rules ∙ c.unlink.ensures.table) c.finish-assembled.ensures
