-- `instruction_codec::display::put_mnemonic` meets its contract.
use Rattle.std.proofs.Common.{sym, subst}
use Rattle.text_lexical.proofs.Keys.{packed-pos}
use Rattle.instruction.specs.Promised.{row_of}
use Rattle.instruction.proofs.Columns.{mnemonic-letters}
use Rattle.instruction_codec.proofs.display.put_mnemonic.Goals as goal

pub letters_of-letters-requires : goal.letters_of-letters-requires
letters_of-letters-requires g c = rw c.key.ensures (packed-pos (row_of c.args.mnemonic).mnemonic)

pub put_bytes-requires : goal.put_bytes-requires
put_bytes-requires g c =
    subst (g.S.Sink.Fits c.args.sink.now)
    (sym (mnemonic-letters c.args.mnemonic c.letters_of-letters.result (rw c.key.ensures at c.letters_of-letters.ensures)))
    c.requires

pub returns : goal.returns
returns g c =
    subst (λ x. g.S.Sink.Took c.args.sink.now x c.put_bytes.new.self)
    (mnemonic-letters c.args.mnemonic c.letters_of-letters.result (rw c.key.ensures at c.letters_of-letters.ensures))
    c.put_bytes.ensures
