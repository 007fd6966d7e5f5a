use Rattle.instruction_codec.proofs.Coding.{word_taken}
use Rattle.instruction_codec.proofs.encoder.decode.Goals as goal

pub returns : goal.returns
returns c =
    word_taken c.args.word c.in-Some.mnemonic c.form.result c.layout-layout.result c.form.ensures c.layout-layout.ensures (rw c.in-Some.is at c.find_opcode.ensures)
    c.from_parts.result _ (rw c.in-Some-number_in.is at c.number_in.ensures)
    c.register_in.ensures c.register_in-2.ensures c.register_in-3.ensures
    c.from_parts.ensures.value c.from_parts.ensures.means
