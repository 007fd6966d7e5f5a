-- The program's example holds, by computation over the definitions.
use mathlib.Core.Path.{◌≡◌, refl}
use Rattle.text_lexical.specs.Bytes.{bytes}
use Rattle.guarantees.specs.Examples.{program, printed}
use Rattle.guarantees.proofs.Computing.{computing}
use Rattle.zkasm.specs.Zkasm.{refusal_text, output_of, program_output}

-- What the program prints for its example.
pub program-prints : program_output (bytes program) ≡ bytes printed
unfolding program printed computing refusal_text output_of program_output
program-prints = refl
