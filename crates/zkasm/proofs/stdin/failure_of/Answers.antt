use Rattle.std.proofs.Common.{◌≡◌, refl, sym, ◌∙◌, ap, Bool, true, false, ℤ, pos, negsuc, Option, Some, None, int_eq, eq-eqb, ne_eqb}
use mathlib.Core.Bool.{true≢false}
use Rattle.std.proofs.lemmas.Bool.Decides.{Decides-int_eq}
use Rattle.std.specs.Option.{option_eq}
use Rattle.zkasm.specs.Stdin.{interruption, failure_of, failed}
use Rattle.zkasm.specs.declared.stdin.Delivery.TheVariants.{Interrupted, Failed}
use Rattle.zkasm.proofs.stdin.failure_of.Goals as goal

told : (number : Option ℤ) (v : Bool) → option_eq int_eq number (Some (pos 4)) ≡ v → elim v [ true ↦ Interrupted | false ↦ Failed ] ≡ failed number
unfolding failure_of
told (Some (pos n)) true e =
    let i : pos n ≡ pos 4 = (Decides-int_eq (pos n) (pos 4)).0 e in
    let same : n ≡ 4 = cc in
    rw (failure_of, eq-eqb n interruption same)
told (Some (pos n)) false e = rw (failure_of, ne_eqb n interruption (λ same. true≢false (sym ((Decides-int_eq (pos n) (pos 4)).1 (ap pos same)) ∙ e)))
told (Some (negsuc n)) true e = absurd (true≢false (sym e))
told (Some (negsuc n)) false e = refl
told None true e = absurd (true≢false (sym e))
told None false e = refl

pub returns-then-eq : goal.returns-then-eq
returns-then-eq c = told c.args.number true (sym c.eq.ensures ∙ c.if-eq.true)

pub returns : goal.returns
returns c = told c.args.number false (sym c.eq.ensures ∙ c.if-eq.false)
