use Rattle.std.proofs.Common.{◌≡◌, [], arith, refl, sym, ap, ◌∙◌, length}
use Rattle.std.proofs.KnownBytes.{Consumes-nil}
use Rattle.image.specs.Lent.{over}
use Rattle.zkasm.specs.Stdin.{input_room, start}
use Rattle.zkasm.proofs.Transcripts.{filled-small, still-room, next_fits, next-less, reads-on, whole-by-end}
use Rattle.zkasm.proofs.Sources.{takes}
use Rattle.zkasm.specs.declared.stdin.Step.TheVariants.{Done}
use Rattle.zkasm.proofs.stdin.read_input.Goals as goal

pub loop-more-init : goal.loop-more-init
unfolding over
loop-more-init g c = (c.blank-piece.ensures.room, (record { came = []; calls = start; holds = refl }, Consumes-nil _))

pub read_piece-delivery-requires-clause-room_left : goal.read_piece-delivery-requires-clause-room_left
read_piece-delivery-requires-clause-room_left g c =
    let r = c.loop-more.invariant.1.0 in
    omega (arith, filled-small r c.requires, still-room r c.requires)

pub step_after-requires : goal.step_after-requires
step_after-requires g c = next_fits c.loop-more.invariant.1.0 c.requires c.read_piece-delivery.ensures.piece

pub loop-more-smaller : goal.loop-more-smaller
loop-more-smaller g c =
    next-less c.loop-more.invariant.1.0 c.requires c.read_piece-delivery.ensures.piece c.in-Again.more c.in-Again.left (sym c.in-Again.is ∙ c.step_after.ensures)

pub loop-more-preserved : goal.loop-more-preserved
loop-more-preserved g c =
    let p = c.read_piece-delivery in
    let l = c.loop-more.invariant in
    let long : input_room ≡ length p.new.piece = l.0 ∙ sym p.auto.piece in
    (long, reads-on l.1.0 c.requires p.ensures.piece (sym c.in-Again.is ∙ c.step_after.ensures) (sym long) _ _ _ l.1.1 p.ensures.bytes.0)

pub returns-in-Done-clause-calls : goal.returns-in-Done-clause-calls
returns-in-Done-clause-calls g c =
    let p = c.read_piece-delivery in
    let l = c.loop-more.invariant in
    (reads-on l.1.0 c.requires p.ensures.piece (sym c.in-Done.is ∙ c.step_after.ensures) (p.auto.piece ∙ sym l.0) _ _ _ l.1.1 p.ensures.bytes.0).0

pub returns-in-Done-clause-source : goal.returns-in-Done-clause-source
returns-in-Done-clause-source g c =
    let p = c.read_piece-delivery in
    let l = c.loop-more.invariant in
    let e = sym c.in-Done.is ∙ c.step_after.ensures in
    let t = reads-on l.1.0 c.requires p.ensures.piece e (p.auto.piece ∙ sym l.0) _ _ _ l.1.1 p.ensures.bytes.0 in
    takes c.requires _ _ c.in-Done.outcome t (λ n i. p.ensures.bytes.1 (whole-by-end p.result _ _ (ap Done (sym i) ∙ e)))
