use native.Mathlib.Omega.{arith}
use Rattle.text_lexical.specs.Names.{present}
use Rattle.text.proofs.NameSets.{present-naming}
use Rattle.image_line.proofs.Places.{ended}
use Rattle.image_line.proofs.Lines.{no-mnemonics, word_bounds, bare-line, word_line}
use Rattle.image_line.proofs.fast.read_fast.Goals as goal

pub ending_at-requires : goal.ending_at-requires
ending_at-requires c = rw c.in_default.is at c.first_word-first.ensures.word

pub read_tail-requires : goal.read_tail-requires
read_tail-requires c = let here = rw c.in-Some.is at c.first_word-first.ensures.word in (word_bounds _ _ _ here.word here.in_text here.begins).1

pub returns-in_default : goal.returns-in_default
returns-in_default c =
    let (n, k) = ended present _ _ c.in_ok-end.end c.in_ok-end.ensures in
    bare-line present c.args.source.now c.args.start c.requires c.first_word-first.result.label _ _ c.first_word-first.ensures.label n k

pub returns : goal.returns
returns c =
    word_line present c.args.source.now c.args.start c.requires c.first_word-first.ensures c.in-Some.is c.in_ok-word.was present-naming no-mnemonics (λ i. omega (arith, c.type_inv.source i))
    c.in_ok-mnemonic.mnemonic c.in_ok-mnemonic.ensures _ _ c.in_ok-tail.ensures
