use Prim.Native.Nat.{◌<◌}
use mathlib.Core.Path.{sym, ◌∙◌}
use native.Mathlib.Omega.{arith}
use lib.ListN.{length}
use Rattle.text_lexical.specs.Names.{present}
use Rattle.text.proofs.NameSets.{present-naming}
use Rattle.image_line.proofs.Lines.{word_bounds, is-label-reads, unlabelled, after-label, label-in}
use Rattle.image_line.proofs.fast.first_word.Goals as goal

-- no word begins
pub returns-then-source-at : goal.returns-then-source-at
returns-then-source-at c = record { label = c.loop-at.invariant; word = label-in present c.args.source.now c.args.start c.loop-at.at c.loop-at.label c.requires c.loop-at.invariant }

pub returns-then-is_some : goal.returns-then-is_some
returns-then-is_some c =
    record {
      label = c.loop-at.invariant;
      word = record {
        in_text = omega (arith, c.if-source-at.false);
        begins = sym c.is_name_start.ensures ∙ c.if-not-is_name_start.false;
        word = c.lower_word-word.ensures;
      };
    }

pub run_end-at-requires : goal.run_end-at-requires
run_end-at-requires c =
    let b = sym c.is_name_start.ensures ∙ c.if-not-is_name_start.false in
    let (i, is) = is-label-reads present present-naming c.args.source.now c.loop-at.at c.lower_word-word.result.end (omega (arith, c.if-source-at.false)) b c.lower_word-word.ensures.ends
    (sym c.is_label.ensures ∙ c.if-not-is_label.false) in
    omega arith

pub loop-at-preserved : goal.loop-at-preserved
loop-at-preserved c =
    let s = c.args.source.now in
    let w = c.lower_word-word.result in
    let l : c.loop-at.at < length s = omega (arith, c.if-source-at.false) in
    let b = sym c.is_name_start.ensures ∙ c.if-not-is_name_start.false in
    let (h, k) = word_bounds s c.loop-at.at w c.lower_word-word.ensures l b in
    let (i, is) = is-label-reads present present-naming s c.loop-at.at w.end l b c.lower_word-word.ensures.ends (sym c.is_label.ensures ∙ c.if-not-is_label.false) in
    after-label present s c.args.start c.loop-at.at w.end c.run_end-at.result
    (unlabelled present s c.args.start c.loop-at.at c.loop-at.label (sym c.is_some.ensures ∙ c.if-is_some.false) c.loop-at.invariant) h is c.run_end-at.ensures
