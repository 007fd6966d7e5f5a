-- `image_line::bytes`: a line's bytes give a register as they promise.
use mathlib.Core.Path.{◌≡◌, refl}
use native.Mathlib.Omega.{arith}
use Rattle.std.proofs.Common.{rules}
use Rattle.std.specs.Prelude.{Some}
use Rattle.text_lexical.specs.Bytes.{blank}
use Rattle.text_lexical.specs.Names.{present}
use Rattle.text.proofs.Fronts.{run_in}
use Rattle.text.proofs.NameSets.{present-naming}
use Rattle.instruction.specs.Operands.{read_register}
use Rattle.image_line.proofs.Places.{register-reads}
use Rattle.image_line.proofs.Operands.{token-taken}
use Rattle.image_line.proofs.bytes.BytesOperandSource.register.Goals as goal

pub register_word-requires : goal.register_word-requires
register_word-requires c = let s = c.args.self.now in omega (arith, c.past_blanks-at.ensures, run_in blank s.text.now s.at s.in_text)

pub invariant_of-self : goal.invariant_of-self
invariant_of-self c =
    let s = c.args.self.now in
    let is_some : c.register_word.result ≡ Some c.in_ok-word.word = search rules in
    record { in_text = (register-reads present present-naming s.text.now s.at c.past_blanks-at.result c.in_ok-word.word c.past_blanks-at.ensures (rw is_some at c.register_word.ensures)).in_text }

pub returns : goal.returns
unfolding read_register
returns c =
    let s = c.args.self.now in
    let is_some : c.register_word.result ≡ Some c.in_ok-word.word = search rules in
    token-taken refl _ refl (register-reads present present-naming s.text.now s.at c.past_blanks-at.result c.in_ok-word.word c.past_blanks-at.ensures (rw is_some at c.register_word.ensures))
