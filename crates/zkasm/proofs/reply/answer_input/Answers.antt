use Rattle.std.proofs.Common.{refl, sym, ◌∙◌}
use lib.Seq.{length-take-le}
use Rattle.zkasm.specs.Stdin.{writing_of}
use Rattle.zkasm.specs.declared.stdin.Input.TheVariants.{Whole, TooLong, Incomplete}
use Rattle.zkasm.proofs.Transcripts.{whole-fits, whole-front, too-long-fills}
use Rattle.zkasm.proofs.Sources.{prints-front}
use Rattle.zkasm.proofs.reply.answer_input.Goals as goal

pub slice_bounds-input-end : goal.slice_bounds-input-end
slice_bounds-input-end g c = whole-fits (sym c.blank-input.ensures.room) c.in-Whole.ensures.calls

pub slice_bounds-report-end : goal.slice_bounds-report-end
slice_bounds-report-end g c = sym (length-take-le _ _ (whole-fits (sym c.blank-input.ensures.room) c.in-Whole.ensures.calls))

pub returns-in-Whole-clause-reply : goal.returns-in-Whole-clause-reply
unfolding writing_of
returns-in-Whole-clause-reply g c =
    let r = c.in-Whole.ensures.calls in
    record {
      read = Whole c.in-Whole.n;
      came = r.came;
      calls = r.calls;
      writes = rw (whole-front (sym c.blank-input.ensures.room) r) at c.report.ensures;
    }

pub returns-in-TooLong-clause-reply : goal.returns-in-TooLong-clause-reply
unfolding writing_of
returns-in-TooLong-clause-reply g c =
    let r = c.in-TooLong.ensures.calls in
    record {
      read = TooLong;
      came = r.came;
      calls = r.calls;
      writes = rw (too-long-fills (sym c.blank-input.ensures.room) r) at c.report-in-TooLong.ensures;
    }

pub returns-in-TooLong-clause-whole : goal.returns-in-TooLong-clause-whole
returns-in-TooLong-clause-whole g c =
    prints-front _ _ c.read_input.new.input _ _ (c.read_input.auto.input ∙ sym c.blank-input.ensures.room) c.in-TooLong.ensures.source c.report-in-TooLong.ensures.printed

pub returns-in-Incomplete-clause-reply : goal.returns-in-Incomplete-clause-reply
unfolding writing_of
returns-in-Incomplete-clause-reply g c =
    let r = c.in-Incomplete.ensures.calls in
    record { read = Incomplete; came = r.came; calls = r.calls; writes = (refl, refl) }
