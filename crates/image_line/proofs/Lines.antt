-- The key of a word, labels, and the line that a label, a mnemonic and its operands make.
use Prim.Native.Nat.{ℕ, suc, ◌+◌, ◌-◌, ◌≤◌, ◌<◌}
use mathlib.Core.Path.{◌≡◌, refl, sym, ap, ◌∙◌, subst}
use native.Mathlib.Omega.{arith}
use mathlib.Core.Bool.{Bool, true, false, not, and-eq-true_iff, true≢false}
use mathlib.Core.Option.{Option, none, some}
use mathlib.Core.List.{List, [], ◌∷◌, map}
use lib.ListN.{length, take, drop, get_or, length-take, get_or-eq_default}
use lib.Seq.{take_all, get_or-take, get_or-drop}
use lib.Dec.{eqb}
use borrow.Author.Tests.{eq-eqb, ne_eqb, eqb-true}
use Rattle.std.specs.Prelude.{Some, None, Ok}
use Rattle.std.specs.Prelude.{Option as Maybe, is_some as is_there}
use Rattle.text_lexical.specs.Bytes.{Result, value, bytes, between, name_start, name_part, lower, blank, same, run, find, is_some, each}
use Rattle.text_lexical.specs.Names.{Name, name, named, numbered, conventional, present}
use Rattle.text_lexical.specs.Promised.{packed, key_of, name_number, name_meant}
use Rattle.text_lexical.specs.Words.{word_end, part, WordIs}
use Rattle.text_lexical.specs.declared.name.Word.{Word}
use Rattle.text_lexical.specs.declared.name.RegisterName.{RegisterName}
use Rattle.text_lexical.specs.declared.name.RegisterName.TheVariants.{Is, NoSuch, Other}
use Rattle.text_lexical.proofs.Keys.{Below, lowered-below}
use Rattle.text_lexical.proofs.Tests.{split, no_both}
use Rattle.text_lexical.proofs.Strings.{same-eq, found}
use Rattle.text.specs.Tokens.{Token, identifier, colon, infront, tokens}
use Rattle.text.specs.Lines.{Line, kept, line_of, record_of, read_line}
use Rattle.text.specs.NameSets.{Naming}
use Rattle.text.specs.Places.{rest_at, left_at, end_at, Uncut, StartsAt}
use Rattle.text.specs.declared.lexer.Kind.TheVariants.{Identifier}
use Rattle.text.proofs.Left.{start-solid, uncut_on}
use Rattle.text.proofs.Fronts.{run_in, word_at}
use Rattle.text.proofs.Stepping.{solid-step}
use Rattle.instruction.specs.Table.{reg, Form, System, places, row, table, row_named}
use Rattle.instruction.specs.declared.opcode.Mnemonic.{Mnemonic}
use Rattle.instruction.specs.Operands.{takes_label, DraftOperands, read_identifier, read_register, mark_byte, read_place, read_operands, made, read_row, read_mnemonic, read_instruction, behind}
use Rattle.instruction.specs.Operands.{Draft as MeantDraft}
use Rattle.instruction.specs.Promised.{row_of, spelled_in, taken_for, draft_meant, DraftSettled}
use Rattle.instruction.specs.declared.instruction.Draft.{Draft}
use Rattle.instruction.proofs.Forms.{six-places}
use Rattle.instruction.proofs.Lookup.{row-by-key}
use Rattle.instruction_operands.specs.Sources.{form_of}
use Rattle.instruction.specs.Kinds.{plain, identifier_kind, kind_of}
use Rattle.image.specs.Assembling.{Context, nothing, codes, coding, after_label, read_kind, read_on}
use Rattle.image_line.specs.Promised.{Reads, LabelIf, TailIs, is_label, Labels, OptionalLabel, WordHere, FirstWordIs, OfDraft, read_meant, label_length, end_of, LineIs, ReadsAs}
use Rattle.image_line.specs.declared.fast.FirstWord.{FirstWord}
use Rattle.image_line.specs.declared.line.Effect.TheVariants.{Nothing, Codes}
use Rattle.image_line.specs.declared.line.Read.{Read}
use Rattle.image_line.proofs.Answers.{answered}
use Rattle.image_line.proofs.Starts.{starts-here, content-reads, label-before}
use Rattle.image_line.proofs.Places.{stepped-reads, word-goes, colon-reads, blanks-after}

-- ---- a mnemonic is no register's name

-- Names of which no mnemonic is one, in whatever case.
abbrev pub NoMnemonics : List Name → Type 0
NoMnemonics names = each (λ n. not (is_some (row_named (map lower n.spelling)))) names ≡ true

pub no-mnemonics : NoMnemonics present
unfolding each is_some present numbered conventional name bytes row_named find table row same lower between
no-mnemonics = refl

unnamed : (names : List Name) → NoMnemonics names → (u : List ℕ) (o : Option Name) → named names u ≡ o → is_some (row_named (map lower u)) ≡ true → name_number o ≡ none
unfolding named
unnamed names free u none e h = refl
unnamed names free u (some n) e h =
    let (p, q) = found (λ x. same x.spelling u) (λ x. not (is_some (row_named (map lower x.spelling)))) names n e free in
    let k : not (is_some (row_named (map lower u))) ≡ true = rw (same-eq n.spelling u p) at q in
    absurd (true≢false (sym k ∙ rw h))

-- A part of a text of bytes.
below-part : (k n : ℕ) (s : List ℕ) → Below s → Below (part s k n)
below-part k n s h i =
    split i n
    (λ l. rw (get_or-take n (drop k s) i 0 l, get_or-drop k s i 0) (h (k + i)))
    (λ l. rw (get_or-eq_default (take n (drop k s)) 0 {n = i} (omega (arith, length-take n (drop k s)))) (omega arith))

some-row : {A : Type 0} (o : Option A) (a : A) → o ≡ some a → is_some o ≡ true
unfolding is_some
some-row o a e = rw e

-- ---- what a line begins with

module _ (s : List ℕ) (at end : ℕ) (l : at < length s) (start : name_start (get_or s at 0) ≡ true) (ends : end ≡ word_end s at) where
  pub word_some : at < end
  word_some = omega (arith, word-goes s at l start)

  pub word_in : end ≤ length s
  word_in = omega (arith, run_in name_part s at (omega arith))

  module _ (names : List Name) (ok : Naming names) where
    name-reads : name_number (named names (part s at (end - at))) ≡ none → Reads names s at (identifier (part s at (end - at))) end
    name-reads n =
        stepped-reads names ok s at (record { kind = Identifier; start = at; length = end - at }) end (solid-step names s at _ l (start-solid _ start) (word_at names ok s at end Other l start (omega (arith, word-goes s at l start)) (sym n)))

    -- A mnemonic that is found by the key of the word.
    mnemonic-reads : NoMnemonics names → (key : ℕ) (m : Mnemonic) → Below s → Some key ≡ key_of (map lower (part s at (end - at))) → some (row_of m) ≡ find (λ q. eqb (packed q.mnemonic) key) table
        → (row_named (map lower (part s at (end - at))) ≡ some (row_of m)) × Reads names s at (identifier (part s at (end - at))) end
    mnemonic-reads free key m below k found_it =
        let u = part s at (end - at) in
        let n : row_named (map lower u) ≡ some (row_of m) = row-by-key (map lower u) (lowered-below u (below-part at (end - at) s below)) key k ∙ sym found_it in
        (n, name-reads (unnamed names free u (named names u) refl (some-row _ _ n)))

    -- A colon after a name that is no register's.
    label-reads : end < length s → get_or s end 0 ≡ 58 → name_number (named names (part s at (end - at))) ≡ none → Labels names s at end (end + 1)
    label-reads h c n = record { name = name-reads n; mark = colon-reads names ok s end h c }

-- Whether a word is a label, by the byte after it and by its name.
module _ (names : List Name) (s : List ℕ) (at end : ℕ) where
  pub no_colon : (get_or s end 0 ≡ 58 → ⊥) → false ≡ is_label names s at end
  unfolding is_label
  no_colon h = sym (rw (is_label, ne_eqb (get_or s end 0) 58 h))

  pub no_byte : length s ≤ end → false ≡ is_label names s at end
  no_byte h = no_colon (λ e. let z : get_or s end 0 ≡ 0 = get_or-eq_default s 0 {n = end} h in omega arith)

  no_name : get_or s end 0 ≡ 58 → name_number (named names (part s at (end - at))) ≡ none → true ≡ is_label names s at end
  unfolding is_label is_some
  no_name c n = sym (rw (is_label, c, n))

  a-name : (o : Option ℕ) → get_or s end 0 ≡ 58 → name_number (named names (part s at (end - at))) ≡ some o → false ≡ is_label names s at end
  unfolding is_label is_some
  a-name o c n = sym (rw (is_label, c, n))

-- The name that is found in a word after which a colon stands.
pub found_name : (names : List Name) (s : List ℕ) (at end : ℕ) (r : RegisterName) → get_or s end 0 ≡ 58 → name_meant r ≡ name_number (named names (part s at (end - at)))
    → (r ≡ Other → true ≡ is_label names s at end) × ((r ≡ Other → ⊥) → false ≡ is_label names s at end)
found_name names s at end Other c e = (λ h. no_name names s at end c (sym e), λ h. absurd (h refl))
found_name names s at end (Is r) c e = (λ h. let z : ◌≡◌ {A = ℕ} 0 1 = cc in absurd (omega arith), λ h. a-name names s at end _ c (sym e))
found_name names s at end NoSuch c e = (λ h. let z : ◌≡◌ {A = ℕ} 0 1 = cc in absurd (omega arith), λ h. a-name names s at end _ c (sym e))

no_number : (o : Option (Option ℕ)) → not (is_some o) ≡ true → o ≡ none
unfolding is_some
no_number none h = refl
no_number (some n) h = absurd (true≢false (sym h))

-- A word that is one.
pub is-label-reads : (names : List Name) → Naming names → (s : List ℕ) (at end : ℕ) → at < length s → name_start (get_or s at 0) ≡ true → end ≡ word_end s at → is_label names s at end ≡ true → (end < length s) × Labels names s at end (end + 1)
unfolding is_label
is-label-reads names ok s at end l start ends h =
    let (c, n) = (and-eq-true_iff (eqb (get_or s end 0) 58) (not (is_some (name_number (named names (part s at (end - at))))))).0 h in
    let inside_text : end < length s = split end (length s) (λ i. i) (λ i. no_both h (sym (no_byte names s at end i))) in
    (inside_text, label-reads s at end l start ends names ok inside_text (eqb-true (get_or s end 0) 58 c) (no_number _ n))

-- A word stands within the text.
pub word_bounds : (s : List ℕ) (at : ℕ) (w : Word) → WordIs s at w → at < length s → name_start (get_or s at 0) ≡ true → (at < w.end) × (w.end ≤ length s)
word_bounds s at w h l b = (word_some s at w.end l b h.ends, word_in s at w.end l b h.ends)

-- ---- the words of the loop

-- Where nothing stands before the first word, a label there is the line's, and blanks after it are skipped.
pub after-label : (names : List Name) (s : List ℕ) (start at end next : ℕ) → at ≡ start → at < end → Labels names s at end (end + 1)
    → next ≡ end + 1 + run blank (drop (end + 1) s) → OptionalLabel names s start (Some (end - at)) next
after-label names s start at end next a b is q =
    let e : start + (end - at) ≡ end = omega arith in
    rw e (record { name = rw a at is.name; mark = blanks-after names s end (end + 1) next colon is.mark q })

pub unlabelled : (names : List Name) (s : List ℕ) (start at : ℕ) (p : Maybe ℕ) → is_there p ≡ false → OptionalLabel names s start p at → at ≡ start
unlabelled names s start at None h a = a
unlabelled names s start at (Some n) h a = absurd (true≢false h)

pub label-in : (names : List Name) (s : List ℕ) (start at : ℕ) (p : Maybe ℕ) → start ≤ length s → OptionalLabel names s start p at → at ≤ length s
label-in names s start at None l a = omega arith
label-in names s start at (Some n) l is = is.mark.in_text

-- ---- the line

-- The first operand of a form is a register.
register-first : (label : Bool) (bit : ℕ) (t : Token) (rest : Result DraftOperands) (o : DraftOperands) → read_place label (reg bit) t rest ≡ value o → eqb (mark_byte t) 58 ≡ false
unfolding read_place read_register mark_byte
register-first label bit colon rest o h = cc
register-first label bit t rest o h = refl

no_label : (u : List ℕ) (t : Token) (ts : List Token) → eqb (mark_byte t) 58 ≡ false → kind_of (identifier u ∷ t ∷ ts) ≡ plain
unfolding kind_of identifier_kind
no_label u t ts e = rw (identifier_kind, e)

is_plain : (f : Form) (u : List ℕ) (ts : List Token) (o : DraftOperands) → length ts ≡ length (places f) → read_operands (takes_label f) (places f) ts ≡ value o
    → kind_of (identifier u ∷ ts) ≡ plain
unfolding kind_of identifier_kind places read_operands
is_plain f u [] o l h = refl
is_plain System u (t ∷ ts) o l h = absurd (omega arith)
is_plain f u (t ∷ ts) o l h = no_label u t ts (register-first _ _ t _ o h)

-- The tokens of a draft's mnemonic and operands, as they are spelled in a text.
record Written (s : List ℕ) (d : Draft) (u : List ℕ) (ts : List Token) : Type 0 where
  named-is : row_named (map lower u) ≡ some (row_of d.mnemonic)
  count : length ts ≡ length (places (form_of d.mnemonic))
  read : read_operands (takes_label (form_of d.mnemonic)) (places (form_of d.mnemonic)) ts
      ≡ value (taken_for (spelled_in s) (places (form_of d.mnemonic)) d.registers d.amount)

module _ {s : List ℕ} {d : Draft} {u : List ℕ} {ts : List Token} (w : Written s d u ts) where
  few : length ts ≤ 6
  few = omega (arith, w.count, six-places (form_of d.mnemonic))

  written-plain : kind_of (identifier u ∷ ts) ≡ plain
  written-plain = is_plain (form_of d.mnemonic) u ts _ w.count w.read

  -- They are read as an instruction.
  row_read : read_mnemonic (identifier u) (length ts) ts ≡ value (draft_meant (spelled_in s) d)
  unfolding read_mnemonic read_identifier read_row made
  row_read = rw (read_mnemonic, w.named-is, read_row, eq-eqb (length ts) (length (places (form_of d.mnemonic))) w.count, w.read)

kept-all : (ts : List Token) → length ts ≤ kept → line_of ts ≡ record { count = length ts; first = ts }
unfolding line_of
kept-all ts h = rw (take_all kept ts h)

-- A line by its tokens.
tokens-line : (names : List Name) (s : List ℕ) (start : ℕ) (ts : List Token) → StartsAt s start → tokens names (left_at s start) ≡ some ts → length ts ≤ kept
    → read_line names (rest_at s start) ≡ some (record { count = length ts; first = ts })
unfolding record_of
tokens-line names s start ts q e h = content-reads names s start q ∙ rw e (ap some (kept-all ts h))

-- A token before others.
one_more_lem : {o p : Option (List Token)} {t : Token} {ts : List Token} → o ≡ infront t p → p ≡ some ts → o ≡ some (t ∷ ts)
unfolding infront
one_more_lem {t = t} e h = e ∙ ap (infront t) h

label-tokens : {o p r : Option (List Token)} {v : List ℕ} {ts : List Token} → o ≡ infront (identifier v) p → p ≡ infront colon r → r ≡ some ts → o ≡ some (identifier v ∷ colon ∷ ts)
label-tokens d e h = one_more_lem d (one_more_lem e h)

-- What a line with these tokens reads as.
read_none : (c : Context) → read_on c (some (record { count = 0; first = [] })) ≡ record { label = none; effect = nothing }
unfolding read_on read_kind kind_of
read_none c = refl

read-label : (c : Context) (v : List ℕ) → read_on c (some (record { count = 2; first = identifier v ∷ colon ∷ [] })) ≡ record { label = some v; effect = nothing }
unfolding read_on read_kind kind_of identifier_kind mark_byte after_label behind
read-label c v = refl

first-row : (u : List ℕ) (ts : List Token) → read_instruction (record { count = suc (length ts); first = identifier u ∷ ts }) ≡ read_mnemonic (identifier u) (length ts) ts
unfolding read_instruction
first-row u ts = let e : suc (length ts) - 1 ≡ length ts = omega arith in rw e

module _ (c : Context) (s : List ℕ) (d : Draft) (u : List ℕ) (ts : List Token) (w : Written s d u ts) where
  read-instruction : read_on c (some (record { count = suc (length ts); first = identifier u ∷ ts })) ≡ record { label = none; effect = codes (draft_meant (spelled_in s) d) }
  unfolding read_on read_kind coding
  read-instruction = rw (written-plain w) (ap (λ (x : Result MeantDraft). record { label = none; effect = coding x }) (first-row u ts ∙ row_read w))

  read-labelled : (v : List ℕ) → read_on c (some (record { count = suc (suc (suc (length ts))); first = identifier v ∷ colon ∷ identifier u ∷ ts }))
      ≡ record { label = some v; effect = codes (draft_meant (spelled_in s) d) }
  unfolding read_on read_kind kind_of identifier_kind mark_byte after_label behind coding
  read-labelled v =
      let e : suc (suc (suc (length ts))) - 2 ≡ suc (length ts) = omega arith in
      rw e (ap (λ (x : Result MeantDraft). record { label = some v; effect = coding x }) (first-row u ts ∙ row_read w))

-- The line whose content starts at a place.
module _ (names : List Name) (s : List ℕ) (start : ℕ) (q : StartsAt s start) where
  line-some : (c : Context) (r : Read) (x : Line) → read_line names (rest_at s start) ≡ some x → read_meant s r ≡ read_on c (some x) → r.start ≡ start
      → r.end ≡ end_at s start → r.start + label_length r.label ≤ length s → OfDraft (DraftSettled (spelled_in s)) r.effect
      → OfDraft (λ d. LabelIf names s start d.amount) r.effect → LineIs names s start c r
  unfolding end_of
  line-some c r x e reads b n t k j = answered names s start c r (rw e reads) (b ∙ starts-here q) (rw (end_of, e) n) t k j

  -- A label alone, or nothing.
  pub bare-line : (p : Maybe ℕ) (at e : ℕ) → OptionalLabel names s start p at → tokens names (left_at s at) ≡ some [] → e ≡ end_at s at
      → ReadsAs names s start (record { start = start; label = p; effect = Ok Nothing; end = e })
  bare-line None at e a none_left ends c =
      let t : tokens names (left_at s start) ≡ some [] = rw a at none_left in
      line-some c (record { start = start; label = None; effect = Ok Nothing; end = e }) _ (tokens-line names s start [] q t (omega arith)) (sym (read_none c)) refl
      (ends ∙ ap (end_at s) a) (omega (arith, q.in_text)) tt tt
  bare-line (Some n) at e is none_left ends c =
      let v = part s start n in
      let k : start + n - start ≡ n = omega arith in
      let t : tokens names (left_at s start) ≡ some (identifier v ∷ colon ∷ []) = label-tokens (rw k at is.name.means) is.mark.means none_left in
      line-some c (record { start = start; label = Some n; effect = Ok Nothing; end = e }) _ (tokens-line names s start (identifier v ∷ colon ∷ []) q t (omega arith))
      (sym (read-label c v)) refl (ends ∙ is.mark.ends ∙ is.name.ends) is.name.in_text tt tt

  -- An instruction, after a label or not.
  instruction-line : (p : Maybe ℕ) (at end : ℕ) (u : List ℕ) (d : Draft) (e : ℕ) → OptionalLabel names s start p at → row_named (map lower u) ≡ some (row_of d.mnemonic)
      → Reads names s at (identifier u) end → TailIs names s end d.mnemonic d e
      → ReadsAs names s start (record { start = start; label = p; effect = Ok (Codes d); end = e })
  instruction-line None at end u d e a named-is rd tail c =
      let ts = tail.operands in
      let w : Written s d u ts = record { named-is = named-is; count = tail.count; read = tail.read } in
      let t : tokens names (left_at s start) ≡ some (identifier u ∷ ts) = rw a at (one_more_lem rd.means tail.means) in
      let ends = rd.ends ∙ ap (end_at s) a in
      let no_comment : Uncut s start end = rw a at rd.uncut in
      line-some c (record { start = start; label = None; effect = Ok (Codes d); end = e }) _ (tokens-line names s start (identifier u ∷ ts) q t (omega (arith, few w)))
      (sym (read-instruction c s d u ts w)) refl (tail.ends ∙ ends) (omega (arith, q.in_text)) tail.settled
      (label-before names s d.amount (omega (arith, rd.on)) no_comment ends tail.label)
  instruction-line (Some n) at end u d e is named-is rd tail c =
      let ts = tail.operands in
      let v = part s start n in
      let w : Written s d u ts = record { named-is = named-is; count = tail.count; read = tail.read } in
      let k : start + n - start ≡ n = omega arith in
      let t : tokens names (left_at s start) ≡ some (identifier v ∷ colon ∷ identifier u ∷ ts) = label-tokens (rw k at is.name.means) is.mark.means (one_more_lem rd.means tail.means) in
      let ends = rd.ends ∙ is.mark.ends ∙ is.name.ends in
      let no_comment : Uncut s start end = uncut_on s start (start + n) end is.name.uncut (uncut_on s (start + n) at end is.mark.uncut rd.uncut) in
      line-some c (record { start = start; label = Some n; effect = Ok (Codes d); end = e }) _
      (tokens-line names s start (identifier v ∷ colon ∷ identifier u ∷ ts) q t (omega (arith, few w)))
      (sym (read-labelled c s d u ts w v)) refl (tail.ends ∙ ends) is.name.in_text tail.settled
      (label-before names s d.amount (omega (arith, rd.on, is.mark.on, is.name.on)) no_comment ends tail.label)

  -- The same by what the line begins with, and the mnemonic that the key of its word is found at.
  pub word_line : {f : FirstWord} {w : Word} {key : ℕ} → FirstWordIs names s start f → f.word ≡ Some w → w.key ≡ Some key → Naming names → NoMnemonics names → Below s → (m : Mnemonic)
      → some (row_of m) ≡ find (λ q. eqb (packed q.mnemonic) key) table → (d : Draft) (e : ℕ) → TailIs names s w.end m d e
      → ReadsAs names s start (record { start = start; label = f.label; effect = Ok (Codes d); end = e })
  word_line {f} {w} {key} first is k ok free below m found_it d e tail =
      let here : WordHere s f.at w = rw is at first.word in
      let (named-is, rd) = mnemonic-reads s f.at w.end here.in_text here.begins here.word.ends names ok free key m below (sym k ∙ here.word.key_is) found_it in
      instruction-line f.label f.at w.end _ d e first.label (named-is ∙ ap (λ (x : Mnemonic). some (row_of x)) (sym tail.named)) rd
      (subst (λ (x : Mnemonic). TailIs names s w.end x d e) (sym tail.named) tail)
