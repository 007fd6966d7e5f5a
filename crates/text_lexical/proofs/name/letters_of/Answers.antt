-- `text_lexical::name::letters_of` meets its contract.
use Rattle.text_lexical.proofs.Letters.{letters-of}
use Rattle.text_lexical.proofs.name.letters_of.Goals as goal

pub returns : goal.returns
returns c =
    letters-of c.args.key c.ilog2.result c.to_le_bytes.result c.ilog2.ensures.power_le c.ilog2.ensures.next_power_gt c.ilog2.ensures.bound c.to_le_bytes.ensures
