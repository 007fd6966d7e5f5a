use Rattle.std.proofs.Common.{◌≡◌, refl, sym, ap, ◌∙◌, ℕ, zero, suc}
use Rattle.std.specs.Prelude.{Ok}
use Rattle.zkasm.specs.Stdin.{failed, delivery_of}
use Rattle.zkasm.specs.declared.stdin.Delivery.TheVariants.{Piece}
use Rattle.zkasm.proofs.stdin.delivery_of.Goals as goal

some-came : (n : ℕ) → (n ≡ 0 → ⊥) → Piece n ≡ delivery_of (Ok n)
unfolding delivery_of
some-came zero h = absurd (h refl)
some-came (suc n) h = refl

pub returns-in-Ok : goal.returns-in-Ok
unfolding delivery_of
returns-in-Ok c = ap delivery_of (ap Ok (sym c.if-n-eq0.true) ∙ sym c.in-Ok.is)

pub returns-in-Ok-2 : goal.returns-in-Ok-2
returns-in-Ok-2 c =
    let i : Ok c.in-Ok.n ≡ Ok c.in-Ok-2.n = sym c.in-Ok.is ∙ c.in-Ok-2.is in
    let same : c.in-Ok.n ≡ c.in-Ok-2.n = cc in
    some-came c.in-Ok-2.n (λ z. c.if-n-eq0.false (same ∙ z)) ∙ ap delivery_of (sym c.in-Ok-2.is)

pub returns-in-Err : goal.returns-in-Err
unfolding delivery_of
returns-in-Err c = c.failure_of.ensures ∙ ap failed c.raw_os_error.ensures ∙ ap delivery_of (sym c.in-Err.is)
