-- `instruction_codec::display::put_number` meets its contract.
use mathlib.Core.Path.{◌≡◌, refl, sym, ◌∙◌, subst}
use mathlib.Core.Bool.{true, false, true≢false}
use mathlib.Core.List.{◌∷◌}
use lib.IntN.{ℤ, pos, negsuc, nat_abs}
use Rattle.text_lexical.specs.Numbers.{is_negative, decimal, signed_decimal}
use Rattle.text_lexical.specs.Promised.{whole_meant}
use Rattle.text_writer.proofs.Sinks.{Left, left-all, left-fits, left-next}
use Rattle.instruction_codec.proofs.display.put_number.Goals.{then-is_negative, else-is_negative}
use Rattle.instruction_codec.proofs.display.put_number.Goals as goal

-- A number below 0 has a sign,
signed : (z : ℤ) → is_negative z ≡ true → signed_decimal z ≡ 45 ∷ decimal (nat_abs z)
unfolding is_negative signed_decimal
signed (pos n) h = absurd (true≢false (sym h))
signed (negsuc n) h = refl

-- any other has none.
unsigned : (z : ℤ) → is_negative z ≡ false → signed_decimal z ≡ decimal (nat_abs z)
unfolding is_negative signed_decimal
unsigned (pos n) h = refl
unsigned (negsuc n) h = absurd (true≢false h)

pub put-requires : goal.put-requires
put-requires g c =
    let L = g.met.S.Sink.laws in
    left-fits L _ (left-all L (signed (whole_meant c.args.number) (sym c.is_negative.ensures ∙ c.if-is_negative.true)) c.requires)

pub put_decimal-requires : goal.put_decimal-requires
put_decimal-requires g c =
    let L = g.met.S.Sink.laws in
    let z = whole_meant c.args.number in
    let T = λ (t : g.row.S.Denot). Left g.S.Sink.Fits g.S.Sink.Took c.args.sink.now (signed_decimal z) t (decimal (nat_abs z)) in
    let left : T c.if-is_negative.sink = elim c.if-is_negative.branch [
      | then-is_negative w ↦ subst T (sym w.sink-is) (left-next L w.put.ensures (left-all L (signed z (sym c.is_negative.ensures ∙ w.if-is_negative.true)) c.requires))
      | else-is_negative w ↦ subst T (sym w.sink-is) (left-all L (unsigned z (sym c.is_negative.ensures ∙ w.if-is_negative.false)) c.requires)
    ] in
    let put : Left g.S.Sink.Fits g.S.Sink.Took c.args.sink.now (signed_decimal z) c.if-is_negative.sink (decimal c.magnitude.result) = rw c.magnitude.ensures left in
    put.fits

pub returns : goal.returns
returns g c =
    let L = g.met.S.Sink.laws in
    let z = whole_meant c.args.number in
    let T = λ (t : g.row.S.Denot). Left g.S.Sink.Fits g.S.Sink.Took c.args.sink.now (signed_decimal z) t (decimal (nat_abs z)) in
    let left : T c.if-is_negative.sink = elim c.if-is_negative.branch [
      | then-is_negative w ↦ subst T (sym w.sink-is) (left-next L w.put.ensures (left-all L (signed z (sym c.is_negative.ensures ∙ w.if-is_negative.true)) c.requires))
      | else-is_negative w ↦ subst T (sym w.sink-is) (left-all L (unsigned z (sym c.is_negative.ensures ∙ w.if-is_negative.false)) c.requires)
    ] in
    let put : Left g.S.Sink.Fits g.S.Sink.Took c.args.sink.now (signed_decimal z) c.if-is_negative.sink (decimal c.magnitude.result) = rw c.magnitude.ensures left in
    put.taken _ c.put_decimal.ensures
