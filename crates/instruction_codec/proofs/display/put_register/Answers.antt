use mathlib.Core.Path.{refl, sym, subst, ◌∙◌}
use Rattle.text_lexical.specs.Numbers.{decimal}
use Rattle.text_writer.proofs.Sinks.{left-all, left-fits, left-next}
use Rattle.instruction.specs.Text.{register_text}
use Rattle.instruction_codec.proofs.display.put_register.Goals as goal

pub put-requires : goal.put-requires
unfolding register_text
put-requires g c =
    let L = g.met.S.Sink.laws in
    left-fits L _ (left-all L refl c.requires)

pub put_decimal-requires : goal.put_decimal-requires
unfolding register_text
put_decimal-requires g c =
    let L = g.met.S.Sink.laws in
    let rest = left-next L c.put.ensures (left-all L refl c.requires) in
    subst (λ n. g.S.Sink.Fits c.put.new.self (decimal n)) (sym (c.from-2.ensures ∙ c.from.ensures)) rest.fits

pub returns : goal.returns
unfolding register_text
returns g c =
    let L = g.met.S.Sink.laws in
    let rest = left-next L c.put.ensures (left-all L refl c.requires) in
    rest.taken _ (rw (c.from-2.ensures ∙ c.from.ensures) at c.put_decimal.ensures)
