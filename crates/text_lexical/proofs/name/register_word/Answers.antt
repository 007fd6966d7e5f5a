-- `text_lexical::name::register_word` meets its contract.
use Rattle.std.proofs.Common.{◌≡◌, ◌+◌, ◌-◌, ◌∙◌, sym, arith}
use Rattle.text_lexical.specs.Bytes.{name_part}
use Rattle.text_lexical.proofs.Strings.{run-no}
use Rattle.text_lexical.proofs.Naming.{two_at, three-at, four-at, part-next, longest-present, named-word, long-word}
use Rattle.text_lexical.proofs.name.register_word.Goals as goal

pub returns-then-text-at-le-LONGEST : goal.returns-then-text-at-le-LONGEST
returns-then-text-at-le-LONGEST c h n e = absurd (omega (arith, longest-present))

pub returns-then-not-is_name_part : goal.returns-then-not-is_name_part
returns-then-not-is_name_part c =
    let a = c.args in
    let s = a.text.now in
    let z : a.at + 2 - a.at ≡ 2 = omega arith in
    let r = run-no name_part s (a.at + 2) (omega arith) (sym c.is_name_part.ensures ∙ c.if-not-is_name_part.true) in
    rw c.up_to.ensures (named-word s a.at (omega arith) (a.at + 2) (omega arith) c.two_bytes.result (rw (z, two_at s a.at (omega arith)) c.two_bytes.ensures))

pub returns-then-not-is_name_part-2 : goal.returns-then-not-is_name_part-2
returns-then-not-is_name_part-2 c =
    let a = c.args in
    let s = a.text.now in
    let z : a.at + 3 - a.at ≡ 3 = omega arith in
    let third = part-next s a.at 2 (omega arith) (sym c.is_name_part.ensures ∙ c.if-not-is_name_part.false) in
    let r = run-no name_part s (a.at + 3) (omega arith) (sym c.is_name_part-2.ensures ∙ c.if-not-is_name_part-2.true) in
    rw c.up_to-then-not-is_name_part-2.ensures (named-word s a.at (omega arith) (a.at + 3) (omega arith) c.three_bytes.result (rw (z, three-at s a.at (omega arith)) c.three_bytes.ensures))

pub returns-then-not-is_name_part-3 : goal.returns-then-not-is_name_part-3
returns-then-not-is_name_part-3 c =
    let a = c.args in
    let s = a.text.now in
    let z : a.at + 4 - a.at ≡ 4 = omega arith in
    let third = part-next s a.at 2 (omega arith) (sym c.is_name_part.ensures ∙ c.if-not-is_name_part.false) in
    let fourth = part-next s a.at 3 (omega arith) (sym c.is_name_part-2.ensures ∙ c.if-not-is_name_part-2.false) in
    let r = run-no name_part s (a.at + 4) (omega arith) (sym c.is_name_part-3.ensures ∙ c.if-not-is_name_part-3.true) in
    rw c.up_to-then-not-is_name_part-3.ensures (named-word s a.at (omega arith) (a.at + 4) (omega arith) c.four_bytes.result (rw (z, four-at s a.at (omega arith)) c.four_bytes.ensures))

pub returns : goal.returns
returns c =
    let a = c.args in
    let s = a.text.now in
    let third = part-next s a.at 2 (omega arith) (sym c.is_name_part.ensures ∙ c.if-not-is_name_part.false) in
    let fourth = part-next s a.at 3 (omega arith) (sym c.is_name_part-2.ensures ∙ c.if-not-is_name_part-2.false) in
    let fifth = part-next s a.at 4 (omega arith) (sym c.is_name_part-3.ensures ∙ c.if-not-is_name_part-3.false) in
    long-word s a.at (omega arith) (omega arith)
