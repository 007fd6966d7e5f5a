use mathlib.Core.Path.{◌≡◌, refl, sym, ◌∙◌, subst}
use Rattle.std.specs.Prelude.{Result, Ok, Err}
use Rattle.std.proofs.Common.{rules}
use Rattle.refusal.specs.declared.refusal.Refusal.{Refusal}
use Rattle.image_line.specs.declared.line.Effect.TheVariants.{Nothing, Sets, Codes}
use Rattle.image_passes.specs.Promised.{line_refused}
use Rattle.image_passes.proofs.Passes.{Did, worded_none, worded_less, worded_more, worded_all, few_words, label_refused, word_fits, word_put, settings_set, nothing_done, refused_done}
use Rattle.image_passes.proofs.second_pass.second_pass.Goals as goal
use Rattle.image_passes.proofs.second_pass.second_pass.Given.{Over}
use Rattle.image_passes.proofs.second_pass.second_pass.Goals.{Joined-read, in-Ok-Codes+in_ok-number-in-Ok-Codes, in-Ok-Sets, in-Ok-Nothing, in-Err}

-- What the line does is done.
done : (g : Over) (c : Joined-read g) → Did g.met.S.Sink.laws c.loop-draft.invariant c.read_line-read.ensures c.match-read.sink c.match-read.words c.match-read.config
done g c =
    let L = g.met.S.Sink.laws in
    let d = c.loop-draft.invariant in
    let h = c.read_line-read.ensures in
    elim c.match-read.branch [
      | in-Ok-Codes+in_ok-number-in-Ok-Codes w ↦
          let k = w.in-Ok-Codes.draft in
          let e : c.read_line-read.result.effect ≡ Ok (Codes k) = search rules in
          let n : w.resolved.result ≡ Ok w.in_ok-number-in-Ok-Codes.number = search rules in
          let p = rw w.to_le_bytes.ensures at w.put_bytes.ensures in
          rw (w.sink-is, w.words-is, w.config-is) (word_put L d h e (rw n at w.resolved.ensures) w.word_of.ensures p)
      | in-Ok-Sets w ↦
          let e : c.read_line-read.result.effect ≡ Ok (Sets w.in-Ok-Sets.changed) = search rules in
          rw (w.sink-is, w.words-is, w.config-is) (settings_set L d h e)
      | in-Ok-Nothing w ↦
          let e : c.read_line-read.result.effect ≡ Ok Nothing = search rules in
          rw (w.sink-is, w.words-is, w.config-is) (nothing_done L d h e)
      | in-Err w ↦ rw (w.sink-is, w.words-is, w.config-is) (refused_done L d h w.in-Err.is)
    ]

pub loop-draft-init : goal.loop-draft-init
loop-draft-init g c = worded_none g.met.S.Sink.laws c.begin-config.result c.begin-config.ensures c.requires.entered.readable c.requires.entered.most c.requires.room

pub resolved-requires-clause-few : goal.resolved-requires-clause-few
resolved-requires-clause-few g c =
    let e : c.read_line-read.result.effect ≡ Ok (Codes c.in-Ok-Codes.draft) = search rules in
    few_words g.met.S.Sink.laws c.loop-draft.invariant c.read_line-read.ensures e

-- A result that is no number is a refusal.
refused : {A : Type 0} (r : Result A Refusal) → ((x : A) → r ≡ Ok x → ⊥) → (f : Refusal) × (r ≡ Err f)
refused (Ok x) h = absurd (h x refl)
refused (Err f) h = (f, refl)

pub returns-in_err-number-in-Ok-Codes : goal.returns-in_err-number-in-Ok-Codes
returns-in_err-number-in-Ok-Codes g c =
    let e : c.read_line-read.result.effect ≡ Ok (Codes c.in-Ok-Codes.draft) = search rules in
    let (f, n) = refused c.resolved.result (λ x k. search rules) in
    let m : c.from_residual.result ≡ Err (line_refused f c.loop-draft.line) = search rules in
    rw m (label_refused g.met.S.Sink.laws c.loop-draft.invariant c.read_line-read.ensures e (rw n at c.resolved.ensures))

pub put_bytes-requires : goal.put_bytes-requires
put_bytes-requires g c =
    let L = g.met.S.Sink.laws in
    let e : c.read_line-read.result.effect ≡ Ok (Codes c.in-Ok-Codes.draft) = search rules in
    let n : c.resolved.result ≡ Ok c.in_ok-number-in-Ok-Codes.number = search rules in
    subst (g.S.Sink.Fits c.loop-draft.sink) (sym c.to_le_bytes.ensures)
    (word_fits L c.loop-draft.invariant c.read_line-read.ensures e (rw n at c.resolved.ensures) c.word_of.ensures)

pub returns-in-None : goal.returns-in-None
returns-in-None g c =
    worded_all g.met.S.Sink.laws c.loop-draft.invariant c.read_line-read.ensures (done g (goal.at.returns-in-None g c).Joined-read) (sym c.next_line.ensures ∙ c.in-None.is)

pub loop-draft-smaller : goal.loop-draft-smaller
loop-draft-smaller g c = worded_less g.met.S.Sink.laws c.loop-draft.invariant c.read_line-read.ensures (sym c.next_line.ensures ∙ c.in-Some.is)

pub loop-draft-preserved : goal.loop-draft-preserved
loop-draft-preserved g c =
    worded_more g.met.S.Sink.laws c.loop-draft.invariant c.read_line-read.ensures (done g (goal.at.loop-draft-preserved g c).Joined-read) (sym c.next_line.ensures ∙ c.in-Some.is)
