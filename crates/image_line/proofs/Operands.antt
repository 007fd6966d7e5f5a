-- The bytes of a line as a source of operands: the tokens that were taken up to a place.
use Prim.Native.Nat.{ℕ}
use native.Mathlib.Omega.{arith}
use mathlib.Core.Path.{◌≡◌, refl, ap, ◌∙◌}
use mathlib.Core.Option.{some}
use mathlib.Core.List.{List, [], ◌∷◌, ◌++◌, append-nil}
use Rattle.text_lexical.specs.Names.{Name}
use Rattle.text.specs.Tokens.{Token, infront, tokens}
use Rattle.text.specs.Places.{left_at, end_at}
use Rattle.text.proofs.Left.{uncut_on}
use Rattle.instruction.specs.declared.opcode.Mnemonic.{Mnemonic}
use Rattle.instruction.specs.declared.instruction.Amount.{Amount}
use Rattle.instruction.specs.declared.instruction.Amount.TheVariants.{Number, Label}
use Rattle.instruction.specs.declared.instruction.Draft.{Draft}
use Rattle.instruction_operands.specs.Sources.{TokenTaken, LastStands, OperandsIn}
use Rattle.image_line.specs.Promised.{Reads, along, BytesTook, bytes_spell, BytesStand, LabelIf, TailIs}
use Rattle.image_line.specs.declared.bytes.Bytes.{Bytes}

-- A token at a place, taken from there.
pub token-taken : {names : List Name} {s t : Bytes} {Holds : Token → Type 0} → t.text.now ≡ s.text.now → (k : Token) → Holds k → Reads names s.text.now s.at k t.at
    → TokenTaken (BytesTook names) Holds s t
unfolding along
token-taken same k h r =
    record { token = k; took = record { same_text = same; passed = record { means = r.means; on = omega (arith, r.on); place = r.in_text; uncut = r.uncut; ends = r.ends } }; holds = h }

along-some : (ts us : List Token) → along ts (some us) ≡ some (ts ++ us)
unfolding along infront
along-some [] us = refl
along-some (t ∷ ts) us = rw (along-some ts us)

-- A label that was taken last, if the line ends there.
label-at : (names : List Name) (s t : Bytes) (a : Amount) → LastStands (BytesTook names) (BytesStand names) s a t
    → tokens names (left_at s.text.now t.at) ≡ some [] → LabelIf names s.text.now s.at a
unfolding infront
label-at names s t (Number w) h nothing_left = tt
label-at names s t (Label p) (u, pre, took, stands) nothing_left =
    let r = rw took.same_text at stands.reads in
    record {
      in_text = omega (arith, stands.after, r.in_text);
      no_earlier = omega (arith, took.passed.on, stands.no_earlier);
      uncut = uncut_on s.text.now s.at u.at p.start took.passed.uncut (rw took.same_text at stands.uncut);
      last = r.means ∙ ap (infront _) nothing_left;
      ends = rw took.same_text at stands.ends ∙ took.passed.ends;
    }

-- Operands that were taken, if the line ends there.
pub tail-is : {names : List Name} {s t : Bytes} {m : Mnemonic} {d : Draft} {end : ℕ} → OperandsIn (BytesTook names) bytes_spell (BytesStand names) m s d t
    → tokens names (left_at s.text.now t.at) ≡ some [] → end ≡ end_at s.text.now t.at → TailIs names s.text.now s.at m d end
tail-is {names} {s} {t} {d = d} q nothing_left ends =
    let p = q.took.passed in
    record {
      operands = q.tokens;
      means = p.means ∙ ap (along q.tokens) nothing_left ∙ along-some q.tokens [] ∙ ap some (append-nil q.tokens);
      count = q.count;
      read = rw (append-nil q.tokens) at (q.means []);
      named = q.named;
      settled = q.settled;
      label = label-at names s t d.amount q.stands nothing_left;
      ends = ends ∙ p.ends;
    }
