-- A token at a place of a line, as the fast path finds it.
use Prim.Native.Nat.{ℕ, suc, ◌+◌, ◌-◌, ◌≤◌, ◌<◌}
use mathlib.Core.Path.{◌≡◌, refl, sym, ap, ◌∙◌}
use native.Mathlib.Omega.{arith}
use native.Mathlib.Numerals.{add-one}
use mathlib.Core.Bool.{Bool, true, false}
use mathlib.Core.Option.{Option, none, some}
use mathlib.Core.List.{List, [], ◌∷◌}
use lib.ListN.{length, take, drop, get_or, length-take, length-drop}
use lib.IntN.{ℤ}
use Rattle.std.specs.Prelude.{Some}
use Rattle.text_lexical.specs.Bytes.{value, digit, mark, name_start, name_part, blank, inside, every, before, run, is_some}
use Rattle.text_lexical.specs.Names.{Name}
use Rattle.text_lexical.specs.Numbers.{NumberRange as MeantRange}
use Rattle.text_lexical.specs.Promised.{index_of, name_number, whole_meant, whole_for, range_meant}
use Rattle.text_lexical.specs.declared.number.NumberRange.{NumberRange}
use Rattle.text_lexical.specs.Words.{RegisterWordIs}
use Rattle.text_lexical.specs.declared.name.RegisterName.TheVariants.{Is as Named}
use Rattle.text_lexical.specs.declared.name.RegisterWord.{RegisterWord}
use Rattle.text_lexical.proofs.Tests.{both, or_left}
use Rattle.text_lexical.proofs.Strings.{every-mono, every-run, take-run, run-yes, run-le}
use Rattle.text_lexical.proofs.Numbers.{whole-meant}
use Rattle.text.specs.Tokens.{Token, identifier, register, number, hex, binary, is_identifier, is_register, comma, colon, opening, closing, mark_token, infront, tokens}
use Rattle.text.specs.Values.{read_number}
use Rattle.text.specs.NameSets.{Naming}
use Rattle.text.specs.Places.{left_at, end_at, Uncut}
use Rattle.text.specs.Promised.{meant, spelling, mark_kind, number_at, identifier_length, ending_at, scan_at}
use Rattle.text.specs.declared.lexer.Token.{Token as KeptToken}
use Rattle.text.specs.declared.lexer.Kind.TheVariants.{Register as RegisterKind, Comma, Colon, LParen, RParen}
use Rattle.text.specs.declared.lexer.Scan.TheVariants.{Found}
use Rattle.text.specs.declared.parser.NumberAt.{NumberAt}
use Rattle.text.proofs.Scanning.{register-identifier}
use Rattle.text.proofs.Left.{blank-inside, blanks_at, none_read, end_on, run-uncut, uncut_on}
use Rattle.text.proofs.Endings.{ending-is}
use Rattle.text.proofs.Fronts.{part-cons, word_at}
use Rattle.text.proofs.Meanings.{extracted-for}
use Rattle.text.proofs.Numbers.{number-found}
use Rattle.text.proofs.Identifiers.{identifier-found}
use Rattle.instruction.proofs.Results.{not_refused, extracted-is}
use Rattle.text.proofs.Stepping.{past-blanks, mark-step, token_step, blank_step, stepped, uncut}
use Rattle.instruction.specs.Table.{Separator, a-comma, an-opening, a-closing}
use Rattle.instruction.specs.Operands.{exactly, mark_byte, read_identifier, read_exactly, read_amount, separator_byte}
use Rattle.instruction.specs.Promised.{spelled_in}
use Rattle.instruction.specs.declared.instruction.Target.{Target}
use Rattle.instruction.specs.declared.instruction.Amount.TheVariants.{Number, Label}
use Rattle.instruction.specs.declared.form.Mark.{Mark}
use Rattle.instruction_operands.specs.Sources.{Separates, AmountIn}
use Rattle.image_line.specs.Promised.{Reads}

-- ---- what a scan finds

pub stepped-reads : (names : List Name) (ok : Naming names) (s : List ℕ) (at : ℕ) (t : KeptToken) (next : ℕ) → Found t next ≡ scan_at names s at → Reads names s at (meant s t) next
stepped-reads names ok s at t next found =
    let p = stepped names ok s at (Found t next) found in
    let (st, sz, n, f, l, e) = p.leads in
    record { means = p.means; on = f; in_text = l; uncut = uncut names ok s at t next found; ends = e }

-- No comment begins among blanks.
pub blanks-uncut : (s : List ℕ) (from at : ℕ) → at ≡ from + run blank (drop from s) → Uncut s from at
unfolding blank
blanks-uncut s from at q i l h e = run-uncut blank refl s from i l (omega arith) e

-- Blanks after a token are skipped with it.
pub blanks-after : (names : List Name) (s : List ℕ) (at end next : ℕ) (t : Token) → Reads names s at t end → next ≡ end + run blank (drop end s) → Reads names s at t next
blanks-after names s at end next t r q =
    let n = run-le blank (drop end s) in
    let k = length-drop end s in
    let i : every inside (take (run blank (drop end s)) (drop end s)) ≡ true
    = rw (take-run blank (drop end s)) (every-mono blank inside blank-inside (before blank (drop end s)) (every-run blank (drop end s))) in
    record {
      means = r.means ∙ ap (infront t) (blanks_at names s end ∙ ap (λ (x : ℕ). tokens names (left_at s x)) (sym q));
      on = omega (arith, r.on);
      in_text = omega (arith, r.in_text);
      uncut = uncut_on s at end next r.uncut (blanks-uncut s end next q);
      ends = ap (end_at s) q ∙ end_on s end (run blank (drop end s)) (omega (arith, r.in_text)) i ∙ r.ends;
    }

-- Nothing is left of the line, which ends there.
pub ended : (names : List Name) (s : List ℕ) (at end : ℕ) → Some end ≡ ending_at s at → (tokens names (left_at s at) ≡ some []) × (end ≡ end_at s at)
ended names s at end e = let (none_left, ends) = ending-is s at (Some end) e in (none_read names s at none_left, ends)

-- ---- registers

some-named : (o : Option Name) (n : ℕ) → name_number o ≡ some (some n) → is_some o ≡ true
unfolding is_some
some-named none n h = let z : ◌≡◌ {A = ℕ} 0 1 = cc in absurd (omega arith)
some-named (some m) n h = refl

identifier-start : (b : ℕ) (t : List ℕ) → is_identifier (b ∷ t) ≡ true → name_start b ≡ true
unfolding is_identifier
identifier-start b t h = (both (name_start b) (every name_part t) h).0

-- A word goes on after the byte that begins it.
pub word-goes : (s : List ℕ) (at : ℕ) → at < length s → name_start (get_or s at 0) ≡ true → run name_part (drop at s) ≡ suc (run name_part (drop (at + 1) s))
unfolding name_part
word-goes s at l h = rw (add-one at) (run-yes name_part s at l (or_left (name_start (get_or s at 0)) (digit (get_or s at 0)) h))

-- A word past blanks that names a register.
pub register-reads : (names : List Name) (ok : Naming names) (s : List ℕ) (from at : ℕ) (r : RegisterWord) → at ≡ from + run blank (drop from s) → RegisterWordIs names s at (Some r)
    → Reads names s from (register (some (index_of r.register))) r.end
unfolding is_register
register-reads names ok s from at r q (room, g, m, n) =
    let e = r.end in
    let l : at < length s = omega (arith, run-le name_part (drop at s), length-drop at s) in
    let i = register-identifier names ok.identifiers (take (e - at) (drop at s)) (some-named _ _ n) in
    let b = identifier-start (get_or s at 0) _ (rw (part-cons s at e g l) at i) in
    let w = word_at names ok s at e (Named r.register) l b (omega (arith, word-goes s at l b)) (sym n) in
    stepped-reads names ok s from (record { kind = RegisterKind r.register; start = at; length = e - at }) e (token_step names s from at _ e q w)

-- ---- numbers and labels

exactly-read : (r : MeantRange) (t : Token) (z : ℤ) → read_number r t ≡ value z → read_exactly r t ≡ value (exactly z)
unfolding read_exactly
exactly-read r t z e = rw (read_exactly, e)

-- A number is read as an amount, with a label in its place or without.
amount-read : (r : MeantRange) (label : Bool) (t : Token) (z : ℤ) → read_number r t ≡ value z → read_amount r label t ≡ value (exactly z)
unfolding read_amount read_identifier read_number
amount-read r false t z e = exactly-read r t z e
amount-read r true (number n) z e = exactly-read r (number n) z e
amount-read r true (hex n) z e = exactly-read r (hex n) z e
amount-read r true (binary n) z e = exactly-read r (binary n) z e
amount-read r true t z e = not_refused e

pub number-reads : (names : List Name) (ok : Naming names) (s : List ℕ) (from at : ℕ) → at ≡ from + run blank (drop from s)
    → (range : NumberRange) (n : NumberAt) → Some n ≡ number_at names s at range
    → (spells : Target → List ℕ) (label : Bool) → (k : Token) × AmountIn spells range label (Number n.number) k × Reads names s from k n.end
number-reads names ok s from at q range n e spells label =
    let (t, f, w) = number-found names s at range n e in
    let (z, (v, k)) = extracted-is _ (w ∙ extracted-for range t.kind (spelling s t)) in
    let m : whole_meant n.number ≡ z = ap whole_meant k ∙ whole-meant z in (
      _,
      record { means = rw m (amount-read (range_meant range) label _ z v); settled = k ∙ ap whole_for (sym m) },
      stepped-reads names ok s from t n.end (token_step names s from at t n.end q f),
    )

-- A label past blanks, from before them and from its own place.
module _ (names : List Name) (ok : Naming names) (s : List ℕ) (from at : ℕ) (q : at ≡ from + run blank (drop from s)) (n : ℕ) (e : Some n ≡ identifier_length names s at) where
  abbrev pub target : Target
  target = record { start = at; length = n }

  label-reads-from : (place : ℕ) → at ≡ place + run blank (drop place s) → Reads names s place (identifier (spelled_in s target)) (at + n)
  label-reads-from place b =
      let (t, next, f, k, long) = identifier-found names s at n e in
      let found = token_step names s place at t next b f in
      let (st, sz, l, g, m, x) = (stepped names ok s place (Found t next) found).leads in
      let starts : t.start ≡ at = omega (arith, st) in
      let ends : next ≡ at + n = omega (arith, sz, g) in
      let same : meant s t ≡ identifier (take n (drop at s)) = rw (k, starts, ← long) in
      rw (← same, ← ends) (stepped-reads names ok s place t next found)

  -- It has a byte at least, and its end is within the text.
  pub label-bounds : (0 < n) × (at + n ≤ length s)
  label-bounds = let r = label-reads-from at (omega (arith, past-blanks s from at q)) in (omega (arith, r.on), r.in_text)

  pub label-amount : (range : NumberRange) (label : Bool) → label ≡ true → AmountIn (spelled_in s) range label (Label target) (identifier (spelled_in s target))
  unfolding read_amount read_identifier
  label-amount range label h = let (l, m) = label-bounds in record { means = rw h refl; settled = omega (arith, length-take n (drop at s), length-drop at s) }

  pub label-reads : Reads names s from (identifier (spelled_in s target)) (at + n) × Reads names s at (identifier (spelled_in s target)) (at + n)
  label-reads = (label-reads-from from q, label-reads-from at (omega (arith, past-blanks s from at q)))

-- ---- marks

pub colon-reads : (names : List Name) (ok : Naming names) (s : List ℕ) (at : ℕ) → at < length s → get_or s at 0 ≡ 58 → Reads names s at colon (at + 1)
unfolding mark_kind mark mark_token
colon-reads names ok s at l b = stepped-reads names ok s at _ (at + 1) (mark-step names ok s at Colon l (rw b refl))

-- The mark that follows an operand is one of three.
module _ (names : List Name) (ok : Naming names) (s : List ℕ) (from at : ℕ) (q : at ≡ from + run blank (drop from s)) (l : at < length s) where
  place-reads : (m : Separator) → get_or s at 0 ≡ separator_byte m → (k : Token) × (mark_byte k ≡ separator_byte m) × Reads names s from k (at + 1)
  unfolding mark_kind mark mark_token mark_byte
  place-reads a-comma b =
      (comma, refl, stepped-reads names ok s from _ (at + 1) (blank_step names s from at _ q (mark-step names ok s at Comma l (rw b refl))))
  place-reads an-opening b =
      (opening, refl, stepped-reads names ok s from _ (at + 1) (blank_step names s from at _ q (mark-step names ok s at LParen l (rw b refl))))
  place-reads a-closing b =
      (closing, refl, stepped-reads names ok s from _ (at + 1) (blank_step names s from at _ q (mark-step names ok s at RParen l (rw b refl))))

  pub mark-reads : (m : Mark) → Separates m → get_or s at 0 ≡ m.byte → (k : Token) × (mark_byte k ≡ m.byte) × Reads names s from k (at + 1)
  mark-reads m (k, e) b = rw e (place-reads k (rw e at b))
