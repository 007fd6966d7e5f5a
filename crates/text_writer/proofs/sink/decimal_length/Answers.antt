use mathlib.Core.Path.{sym, ap}
use native.Mathlib.Omega.{arith}
use lib.ListN.{length}
use Rattle.text_writer.proofs.Decimals.{decimal-one, decimal-powers}
use Rattle.text_writer.proofs.sink.decimal_length.Goals as goal

pub returns-in-None-clause-value : goal.returns-in-None-clause-value
returns-in-None-clause-value c = sym (ap length (decimal-one c.args.n (omega (arith, c.in-None.ensures.none))))

pub returns-in-Some-clause-value : goal.returns-in-Some-clause-value
returns-in-Some-clause-value c = sym (decimal-powers c.in-Some.tens c.args.n c.in-Some.ensures.power_le c.in-Some.ensures.next_power_gt)
