-- `text_lexical::bytes::AsciiClass::has_all` meets its contract.
use Rattle.std.proofs.Common.{◌≡◌, ◌<◌, ◌∙◌, sym, ap, refl, arith, add-one, true, false, ℕ, max, length, get_or}
use Rattle.std.proofs.Math.Seq.{take_all}
use borrow.Author.Tests.{leb-true, leb-false, le-leb, lt-leb}
use Rattle.text_lexical.specs.Bytes.{every, ascii}
use Rattle.text_lexical.proofs.Tests.{by-test}
use Rattle.text_lexical.proofs.Strings.{every-yes, every-no}
use Rattle.text_lexical.proofs.bytes.AsciiClass.has_all.Goals as goal

larger-ascii : (b m : ℕ) → ascii b ≡ true → ascii (max b m) ≡ ascii m
unfolding ascii
larger-ascii b m e =
    let l = leb-true b 127 e in
    by-test (ascii m) (λ t. le-leb (max b m) 127 (omega (arith, leb-true m 127 t)) ∙ sym t) (λ t. lt-leb (max b m) 127 (omega (arith, leb-false m 127 t)) ∙ sym t)

larger_not : (b m : ℕ) → ascii b ≡ false → ascii (max b m) ≡ false
unfolding ascii
larger_not b m e = lt-leb (max b m) 127 (omega (arith, leb-false b 127 e))

pub loop-b-init : goal.loop-b-init
unfolding every ascii
loop-b-init c = refl

pub loop-b-preserved : goal.loop-b-preserved
loop-b-preserved c =
    let s = c.args.block.now in
    let j = c.loop-b.b-index in
    let l : j < length s = omega arith in
    let b = get_or s j 0 in
    rw (add-one j)
    (by-test (ascii b)
    (λ e. ap ascii c.max-most.ensures ∙ larger-ascii b c.loop-b.most e ∙ c.loop-b.invariant ∙ sym (every-yes ascii s j l e))
    (λ e. ap ascii c.max-most.ensures ∙ larger_not b c.loop-b.most e ∙ sym (every-no ascii s j l e)))

pub returns : goal.returns
returns c = c.has.ensures ∙ rw (take_all c.loop-b.b-index c.args.block.now (omega arith)) at c.loop-b.invariant
