use native.Mathlib.Omega.{arith}
use lib.ListN.{length}
use mathlib.Core.Path.{refl, sym, ap, subst}
use Rattle.text_writer.specs.Sinks.{WrittenOn}
use Rattle.text_writer.proofs.Decimals.{decimal-std, decimal-digit, written-digits}
use Rattle.text_writer.proofs.sink.WriterSink.put_decimal.Goals as goal

pub put-requires : goal.put-requires
put-requires c = omega (arith, ap length (decimal-digit c.args.n c.if-n-lt10.true), c.requires)

pub returns-then-n-lt10 : goal.returns-then-n-lt10
returns-then-n-lt10 c = subst (λ text. WrittenOn c.args.self.now text c.put.new.self) (sym (decimal-digit c.args.n c.if-n-lt10.true)) c.put.ensures

pub write_digits-requires : goal.write_digits-requires
write_digits-requires c =
    let e = ap length (decimal-std c.args.n (omega arith)) in
    (omega (arith, c.decimal_length.ensures.value), omega (arith, c.decimal_length.ensures.value, c.requires))

pub returns : goal.returns
returns c =
    let s = c.args.self.now in
    let d = c.write_digits.ensures in
    let e = c.decimal_length.ensures.value in
    let w = written-digits s.out.now s.at c.write_digits.result c.args.n c.write_digits.new.buf (omega arith) c.requires in
    record { written = rw e (w (rw e at d.start) (rw e at d.written) d.before); same_buffer = refl }
