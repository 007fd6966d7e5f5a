-- `text_lexical::name::lower_word` meets its contract.
use Rattle.std.proofs.Common.{◌≡◌, ◌-◌, ◌∙◌, sym, arith, length}
use Rattle.text_lexical.specs.Bytes.{every}
use Rattle.text_lexical.proofs.Words.{spelling-begin, spelling-room, spelling-more, spelling-fits, parts_more, word-ends, word-long}
use Rattle.text_lexical.proofs.NameBytes.{name_none, name_some}
use Rattle.text_lexical.proofs.name.lower_word.Goals as goal

pub loop-i-init : goal.loop-i-init
unfolding every
loop-i-init c = let z : c.args.at - c.args.at ≡ 0 = omega arith in (spelling-begin _ _ c.requires, rw z)

pub key-requires : goal.key-requires
key-requires c = spelling-fits c.loop-i.invariant.0

pub returns-in_default : goal.returns-in_default
returns-in_default c =
    rw c.key.ensures (word-ends c.loop-i.invariant.0 c.loop-i.invariant.1 (λ _. name_none _ (sym c.in_default.is ∙ c.name_byte.ensures)))

pub returns-then-i-at-ge-KEY_BYTES : goal.returns-then-i-at-ge-KEY_BYTES
returns-then-i-at-ge-KEY_BYTES c =
    word-long c.loop-i.invariant.0 c.loop-i.invariant.1 c.run_end.result (omega arith) c.if-i-at-ge-KEY_BYTES.true
    (name_some _ _ (sym c.in-Some.is ∙ c.name_byte.ensures)).0 c.run_end.ensures

pub with-packed-requires : goal.with-packed-requires
with-packed-requires c = spelling-room c.loop-i.invariant.0 (omega arith)

pub loop-i-preserved : goal.loop-i-preserved
loop-i-preserved c = (
  rw (c.with-packed.ensures, (name_some _ _ (sym c.in-Some.is ∙ c.name_byte.ensures)).1) (spelling-more c.loop-i.invariant.0 (omega arith) (omega arith) (omega (arith, c.type_inv.text c.loop-i.i))),
  parts_more c.loop-i.invariant.0 (omega arith) c.loop-i.invariant.1 (name_some _ _ (sym c.in-Some.is ∙ c.name_byte.ensures)).0,
)

pub key-requires-2 : goal.key-requires-2
key-requires-2 c = spelling-fits c.loop-i.invariant.0

pub returns : goal.returns
returns c =
    let e : c.loop-i.i ≡ length c.args.text.now = omega arith in
    rw (c.key-2.ensures, ← e) (word-ends c.loop-i.invariant.0 c.loop-i.invariant.1 (λ h. absurd (omega arith)))
