-- The answer for a line is settled by what it means and where the label stands that it names: an instruction's draft, the refusal, the place
-- and length of the line's own label.
use Prim.Native.Nat.{ℕ, ◌+◌, ◌≤◌}
use mathlib.Core.Path.{◌≡◌, refl, ap, ◌∙◌}
use native.Mathlib.Omega.{arith}
use mathlib.Core.List.{List}
use lib.ListN.{length, drop, length-take, length-drop}
use Rattle.std.specs.Prelude.{Some, None, Ok, Err}
use Rattle.std.specs.Prelude.{Option as Maybe, Result as Answer}
use Rattle.text_lexical.specs.Names.{Name}
use Rattle.text_lexical.specs.Words.{part}
use Rattle.text.specs.Lines.{indent, read_line}
use Rattle.text.specs.Places.{rest_at}
use Rattle.refusal.specs.declared.refusal.Refusal.{Refusal}
use Rattle.refusal.proofs.Numbers.{number-back}
use Rattle.instruction.specs.Promised.{spelled_in, DraftSettled}
use Rattle.instruction.specs.declared.instruction.Draft.{Draft}
use Rattle.image.specs.Settings.{settings}
use Rattle.image.specs.Assembling.{Context, read_on}
use Rattle.image.specs.Assembling.{Read as MeantRead}
use Rattle.image_line.specs.Promised.{LabelIf, effect_meant, OfDraft, effect_label, label_meant, label_length, read_meant, end_of, effect_for, label_for, LineIs}
use Rattle.image_line.specs.declared.line.Effect.{Effect}
use Rattle.image_line.specs.declared.line.Effect.TheVariants.{Nothing, Sets, Codes}
use Rattle.image_line.specs.declared.line.Read.{Read}

effect_is : (s : List ℕ) (e : Answer Effect Refusal) → OfDraft (DraftSettled (spelled_in s)) e → e ≡ effect_for (effect_label e) (effect_meant s e)
unfolding settings
effect_is s (Ok Nothing) k = refl
effect_is s (Ok (Sets c)) k = refl
effect_is s (Ok (Codes d)) k = ap (λ (x : Draft). Ok (Codes x)) k
effect_is s (Err r) k = rw (number-back r)

-- A label that is a part of the text.
label_is : (s : List ℕ) (start : ℕ) (l : Maybe ℕ) → start + label_length l ≤ length s → l ≡ label_for (label_meant s start l)
label_is s start None inside = refl
label_is s start (Some n) inside = let long : length (part s start n) ≡ n = omega (arith, length-take n (drop start s), length-drop start s, inside) in rw long

same_answer_lem : {b b' : ℕ} {l l' : Maybe ℕ} {f f' : Answer Effect Refusal} {e e' : ℕ} → b ≡ b' → l ≡ l' → f ≡ f' → e ≡ e'
    → ◌≡◌ {A = Read} (record { start = b; label = l; effect = f; end = e }) (record { start = b'; label = l'; effect = f'; end = e' })
same_answer_lem a b c d = rw (a, b, c, d)

pub answered : (names : List Name) (s : List ℕ) (from : ℕ) (c : Context) (r : Read) → read_meant s r ≡ read_on c (read_line names (rest_at s from))
    → r.start ≡ from + indent (rest_at s from) → r.end ≡ end_of names s from → r.start + label_length r.label ≤ length s → OfDraft (DraftSettled (spelled_in s)) r.effect
    → OfDraft (λ d. LabelIf names s from d.amount) r.effect → LineIs names s from c r
answered names s from c r reads starts ends inside k target =
    record {
      is = same_answer_lem starts (label_is s r.start r.label inside ∙ ap (λ (m : MeantRead). label_for m.label) reads)
          (effect_is s r.effect k ∙ ap (λ (m : MeantRead). effect_for (effect_label r.effect) m.effect) reads) ends;
      target = target;
      reads = reads;
      starts = starts;
      ends = ends;
      in_text = inside;
    }
