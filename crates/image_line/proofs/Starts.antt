-- Where the content of a line starts: the margin before it is skipped once, and the line is read from there on.
use Prim.Native.Nat.{ℕ, ◌+◌, ◌≤◌}
use mathlib.Core.Path.{◌≡◌, refl, sym, ap, ◌∙◌}
use native.Mathlib.Omega.{arith}
use mathlib.Core.Option.{Option, none, some}
use mathlib.Core.List.{List}
use lib.ListN.{length, drop}
use Rattle.std.specs.Prelude.{Ok, Err}
use Rattle.std.specs.Prelude.{Result as Answer}
use Rattle.refusal.specs.declared.refusal.Refusal.{Refusal}
use Rattle.text_lexical.specs.Bytes.{between, edge, inside, margin, run}
use Rattle.text_lexical.specs.Names.{Name}
use Rattle.text.specs.Tokens.{tokens}
use Rattle.text.specs.Lines.{Line, indent, record_of, read_line}
use Rattle.text.specs.Places.{rest_at, left_at, end_at, Uncut, StartsAt}
use Rattle.text.proofs.Left.{run-uncut, uncut_on, content-at, indent-at}
use Rattle.text.proofs.Endings.{margin-on, past-margin}
use Rattle.image.specs.Assembling.{Context}
use Rattle.instruction.specs.declared.instruction.Amount.{Amount}
use Rattle.instruction.specs.declared.instruction.Amount.TheVariants.{Number, Label}
use Rattle.image_line.specs.Promised.{LabelIf, OfDraft, end_of, LineIs}
use Rattle.image_line.specs.declared.line.Effect.{Effect}
use Rattle.image_line.specs.declared.line.Effect.TheVariants.{Nothing, Sets, Codes}
use Rattle.image_line.specs.declared.line.Read.{Read}

-- The record of a line is that of what is left from the start of its content on.
line_reads : (names : List Name) (s : List ℕ) (from : ℕ) → read_line names (rest_at s from) ≡ record_of (tokens names (left_at s (from + indent (rest_at s from))))
unfolding read_line
line_reads names s from = ap (λ (x : List ℕ). record_of (tokens names x)) (content-at s from ∙ ap (λ (n : ℕ). left_at s (from + n)) (sym (indent-at s from)))

pub starts-here : {s : List ℕ} {start : ℕ} → StartsAt s start → start ≡ start + indent (rest_at s start)
starts-here h = omega (arith, h.no_indent)

-- Where it starts, that is the place itself.
pub content-reads : (names : List Name) (s : List ℕ) (start : ℕ) → StartsAt s start → read_line names (rest_at s start) ≡ record_of (tokens names (left_at s start))
content-reads names s start h = line_reads names s start ∙ ap (λ (x : ℕ). record_of (tokens names (left_at s x))) (sym (starts-here h))

-- No comment begins in a margin.
margin-uncut : (s : List ℕ) (from start : ℕ) → start ≡ from + run margin (drop from s) → Uncut s from start
unfolding margin inside edge between
margin-uncut s from start q i l h e = run-uncut margin refl s from i l (omega arith) e

-- A label stands last on the line of an earlier place too.
module _ (names : List Name) (s : List ℕ) {from at : ℕ} where
  pub label-before : (a : Amount) → from ≤ at → Uncut s from at → end_at s at ≡ end_at s from → LabelIf names s at a → LabelIf names s from a
  label-before (Number w) l u e h = tt
  label-before (Label p) l u e h =
      record { in_text = h.in_text; no_earlier = omega (arith, h.no_earlier); uncut = uncut_on s from at p.start u h.uncut; last = h.last; ends = h.ends ∙ e }

  target-before : (e : Answer Effect Refusal) → from ≤ at → Uncut s from at → end_at s at ≡ end_at s from
      → OfDraft (λ d. LabelIf names s at d.amount) e → OfDraft (λ d. LabelIf names s from d.amount) e
  target-before (Ok Nothing) l u e h = tt
  target-before (Ok (Sets c)) l u e h = tt
  target-before (Ok (Codes d)) l u e h = label-before d.amount l u e h
  target-before (Err r) l u e h = tt

module _ (s : List ℕ) (from start : ℕ) (l : from ≤ length s) (q : start ≡ from + run margin (drop from s)) where
  starts : start + indent (rest_at s start) ≡ from + indent (rest_at s from)
  starts = sym (starts-here (past-margin s from start l q)) ∙ q ∙ ap (λ (n : ℕ). from + n) (sym (indent-at s from))

  module _ (names : List Name) where
    same_line_lem : read_line names (rest_at s start) ≡ read_line names (rest_at s from)
    same_line_lem = line_reads names s start ∙ ap (λ (x : ℕ). record_of (tokens names (left_at s x))) starts ∙ sym (line_reads names s from)

    same_end : end_of names s start ≡ end_of names s from
    unfolding end_of
    same_end =
        let (x, y, z) = margin-on s from start l q in
        ap (λ (o : Option Line). elim o [ none ↦ start + indent (rest_at s start) | some l ↦ end_at s start ]) same_line_lem
        ∙ ap (λ (n : ℕ). elim (read_line names (rest_at s from)) [ none ↦ n | some l ↦ end_at s start ]) starts
        ∙ ap (λ (n : ℕ). elim (read_line names (rest_at s from)) [ none ↦ from + indent (rest_at s from) | some l ↦ n ]) z

    -- and the line reads as it does from there.
    pub line-from : {c : Context} {r : Read} → LineIs names s start c r → LineIs names s from c r
    line-from {r = r} h =
        let (x, y, z) = margin-on s from start l q in
        record {
          is = rw (same_line_lem, starts, same_end) at h.is;
          target = target-before names s r.effect (omega arith) (margin-uncut s from start q) z h.target;
          reads = rw same_line_lem at h.reads;
          starts = h.starts ∙ starts;
          ends = h.ends ∙ same_end;
          in_text = h.in_text;
        }
