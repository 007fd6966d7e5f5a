-- The tokens that a line's record keeps, as the code looks at them: the mnemonic's, and those after it.
use Prim.Native.Nat.{ℕ, zero, suc, ◌+◌, ◌-◌, ◌≤◌, ◌<◌}
use mathlib.Core.Path.{◌≡◌, refl, sym, ap, ◌∙◌}
use native.Mathlib.Omega.{arith}
use native.Mathlib.Numerals.{add-one}
use mathlib.Core.Bool.{Bool, true, false, true≢false}
use Rattle.std.specs.Option.{is_some, MatchOption}
use mathlib.Core.Option.{none, some}
use mathlib.Core.List.{List, [], ◌∷◌, ◌++◌, map}
use lib.ListN.{length, take, drop, get_or, length-take, length-map, length-append, drop_of_length-le, get_or-map}
use lib.Seq.{take-nil, drop-cons, get_or-take, get_or-drop, get_or-append_seam}
use lib.Dec.{eqb}
use borrow.Author.Tests.{eq-eqb, ne_eqb}
use Rattle.std.specs.Prelude.{Ok, Err, Some, None}
use Rattle.std.specs.Prelude.{Option as StdOption}
use Rattle.std.specs.Prelude.{Result as Answer}
use Rattle.text_lexical.specs.Bytes.{value, refused, lower, find}
use Rattle.text_lexical.specs.Promised.{packed, name_key}
use Rattle.text_lexical.proofs.Keys.{Below}
use Rattle.refusal.specs.declared.refusal.Refusal.{Refusal}
use Rattle.refusal.specs.declared.refusal.Refusal.TheVariants.{MnemonicExpected, UnknownMnemonic, OperandCount}
use Rattle.text.specs.Tokens.{Token}
use Rattle.text.specs.Lines.{Line as MeantLine}
use Rattle.text.specs.Promised.{kind_meant, filler, firsts, meant, spelling, Kept}
use Rattle.text.specs.declared.lexer.Kind.TheVariants.{Identifier}
use Rattle.text.specs.declared.lexer.Token.{Token as KeptToken}
use Rattle.text.specs.declared.parser.Line.{Line}
use Rattle.instruction.specs.Table.{Place, Form, Row, places, table, row_named}
use Rattle.instruction.specs.Operands.{takes_label, read_identifier, read_operands, made, read_row, read_mnemonic, read_instruction, behind}
use Rattle.instruction.specs.Promised.{row_of, form_meant, found_meant, spelled_in, taken_for, draft_meant}
use Rattle.instruction.specs.declared.form.Form.{Form as CodeForm}
use Rattle.instruction.specs.Forms.{mark_of, range_of}
use Rattle.instruction.specs.declared.form.Mark.{Mark}
use Rattle.instruction.specs.declared.form.Operand.{Operand}
use Rattle.instruction.specs.declared.instruction.Amount.{Amount}
use Rattle.instruction.specs.declared.instruction.Amount.TheVariants.{Number, Label}
use Rattle.instruction.specs.declared.instruction.Draft.{Draft}
use Rattle.instruction.specs.declared.opcode.Mnemonic.{Mnemonic}
use Rattle.instruction.proofs.Results.{no-identifier}
use Rattle.instruction.proofs.Forms.{six-places, Counting, counting-none, counting-mark, counting-most, counting-end}
use Rattle.instruction.proofs.Lookup.{row-by-name}
use Rattle.instruction_operands.specs.Sources.{LastStands, OperandsTaken}
use Rattle.instruction_operands.specs.Promised.{left_meant, TokensTook, TokensRefuse, tokens_spell, TokensStand, LastToken, RowIs, ParsedIs}
use Rattle.instruction_operands.specs.Laws.{left_before}
use Rattle.instruction_operands.specs.declared.tokens.Tokens.{Tokens}

-- ---- the tokens after the mnemonic

-- What stands at a place within a list does not depend on what stands past it.
pub get_d_any : {A : Type 0} (l : List A) (i : ℕ) (d e : A) → i < length l → get_or l i d ≡ get_or l i e
get_d_any l i d e h = let p = drop-cons l i d h in let q = drop-cons l i e h in cc

-- ---- how many tokens there are

module _ (f : Form) (ops : List Operand) (i : ℕ) {n : ℕ} (q : Counting (range_of f) (places f) n (drop i ops)) where
  module _ (o : Operand) (h : i < length ops) where
    counts-here : Counting (range_of f) (places f) n (get_or ops i o ∷ drop (i + 1) ops)
    counts-here = let e : drop i ops ≡ get_or ops i o ∷ drop (i + 1) ops = drop-cons ops i o h ∙ rw (add-one i) in rw e at q

    pub counts-operand : is_some (mark_of (get_or ops i o)) ≡ false → Counting (range_of f) (places f) (n + 1) (drop (i + 1) ops)
    counts-operand = go (mark_of (get_or ops i o)) refl
      where
        go : (m : StdOption Mark) → mark_of (get_or ops i o) ≡ m → is_some m ≡ false → Counting (range_of f) (places f) (n + 1) (drop (i + 1) ops)
        go None k e = counting-none counts-here k
        go (Some m) k e = absurd (true≢false e)

    pub counts-mark : is_some (mark_of (get_or ops i o)) ≡ true → Counting (range_of f) (places f) (n + 1 + 1) (drop (i + 1) ops)
    counts-mark = go (mark_of (get_or ops i o)) refl
      where
        go : (m : StdOption Mark) → mark_of (get_or ops i o) ≡ m → is_some m ≡ true → Counting (range_of f) (places f) (n + 1 + 1) (drop (i + 1) ops)
        go None k e = absurd (true≢false (sym e))
        go (Some m) k e = counting-mark counts-here k

  -- There are no more than six.
  pub counts-few : n ≤ 6
  counts-few = omega (arith, counting-most q, six-places f)

  pub counts-end : length ops ≤ i → n ≡ length (places f)
  counts-end h = let e : drop i ops ≡ [] = drop_of_length-le ops h in counting-end (rw e at q)

-- ---- the mnemonic's token

-- What an array of tokens is read as past its end.
abbrev pub past : KeptToken
past = record { kind = Identifier; start = 0; length = 0 }

-- ---- operand tokens

-- As many tokens are looked at as there are places.
read_take : (label : Bool) (ps : List Place) (ts : List Token) → read_operands label ps (take (length ps) ts) ≡ read_operands label ps ts
unfolding read_operands
read_take label [] ts = refl
read_take label (p ∷ ps) [] = refl
read_take label (p ∷ ps) (t ∷ ts) = rw (read_take label ps ts)

map-take : {A B : Type 0} (f : A → B) (n : ℕ) (l : List A) → map f (take n l) ≡ take n (map f l)
map-take f zero l = refl
map-take f (suc n) [] = refl
map-take f (suc n) (a ∷ l) = ap (λ x. f a ∷ x) (map-take f n l)

-- Of the first tokens, those after some.
drop-take : {A B : Type 0} (f : A → B) (k n m : ℕ) (l : List A) → m ≡ k + n → drop k (map f (take m l)) ≡ take n (map f (drop k l))
drop-take f zero n m l e = let q : m ≡ n = omega arith in rw q (map-take f n l)
drop-take f (suc k) n zero l e = absurd (omega arith)
drop-take f (suc k) n (suc m) [] e = sym (take-nil n)
drop-take f (suc k) n (suc m) (a ∷ l) e = drop-take f k n m l (omega arith)

-- What is read at places after the mnemonic is read of all tokens that are kept after it.
read_kept : (s : List ℕ) (ts : List KeptToken) (at count : ℕ) (label : Bool) (ps : List Place) → at < count → count - at - 1 ≡ length ps
    → read_operands label ps (drop (at + 1) (firsts s ts count)) ≡ read_operands label ps (map (meant s) (drop (at + 1) ts))
read_kept s ts at count label ps h e =
    ap (read_operands label ps) (drop-take (meant s) (at + 1) (length ps) count ts (omega arith)) ∙ read_take label ps (map (meant s) (drop (at + 1) ts))

-- ---- a row's operands

-- A row with another count of tokens.
pub row-refused : (r : Row) (count : ℕ) (ts : List Token) → (count ≡ length (places r.form) → ⊥) → refused 16 ≡ read_row r count ts
unfolding read_row
row-refused r count ts h = rw (read_row, ne_eqb count (length (places r.form)) h)

module _ (m : Mnemonic) (l : Line) (at : ℕ) (form : CodeForm) (f : form_meant form ≡ (row_of m).form) where
  -- There are not as many tokens as the form has.
  pub row-other : (s : List ℕ) → (l.count - at - 1 ≡ length (places (form_meant form)) → ⊥) → RowIs s m l at (Err OperandCount)
  row-other s h =
      record {
        means = row-refused (row_of m) (l.count - at - 1) (drop (at + 1) (firsts s l.tokens l.count)) (λ e. h (e ∙ ap (λ x. length (places x)) (sym f)));
        settled = tt;
      }

  -- There are as many.
  module _ (h : at < l.count) (e : l.count - at - 1 ≡ length (places (form_meant form))) (s t : Tokens) (left : s.left.now ≡ drop (at + 1) l.tokens) where
    as-many : made (row_of m) (read_operands (takes_label (row_of m).form) (places (row_of m).form) (left_meant s))
        ≡ read_row (row_of m) (l.count - at - 1) (drop (at + 1) (firsts s.source.now l.tokens l.count))
    unfolding read_row
    as-many =
        let r = row_of m in
        let c : l.count - at - 1 ≡ length (places r.form) = e ∙ ap (λ x. length (places x)) f in
        rw (read_row, eq-eqb (l.count - at - 1) (length (places r.form)) c)
        (ap (λ x. made r (read_operands (takes_label r.form) (places r.form) (map (meant s.source.now) x))) left
        ∙ ap (made r) (sym (read_kept s.source.now l.tokens at l.count (takes_label r.form) (places r.form) h c)))

    -- A label that is the last token that was taken is the last of the line.
    last-is : (ts : List Token) → TokensTook s ts t → length ts ≡ l.count - at - 1 → (a : Amount) → LastStands TokensTook TokensStand s a t → LastToken l a
    last-is ts took n (Number w) k = tt
    last-is ts (_, ks, took, is) n (Label p) (u, pre, (_, ks', took', is'), (k, first, place)) =
        let own : ks ++ t.left.now ≡ ks' ++ (k ∷ t.left.now) = sym took ∙ took' ∙ ap (λ (x : List KeptToken). ks' ++ x) first in
        let many : length ks ≡ length ts = sym (length-map ks (meant s.source.now)) ∙ ap length (sym is) in
        let before : suc (length ks') ≡ length ks = omega (arith, length-append ks t.left.now, length-append ks' (k ∷ t.left.now), ap length own) in
        let index : at + 1 + length ks' ≡ l.count - 1 = omega (arith, before, many, n, h) in
        let last : get_or l.tokens (l.count - 1) filler ≡ k
        = ap (λ i. get_or l.tokens i filler) (sym index) ∙ sym (get_or-drop (at + 1) l.tokens (length ks') filler)
        ∙ ap (λ (x : List KeptToken). get_or x (length ks') filler) (sym left ∙ took' ∙ ap (λ (x : List KeptToken). ks' ++ x) first) ∙ get_or-append_seam ks' k t.left.now filler in
        place ∙ (λ i. record { start = (sym last i).start; length = (sym last i).length })

    pub row-read : (r : Answer Draft Refusal) → OperandsTaken TokensTook TokensRefuse tokens_spell TokensStand m s r t → RowIs s.source.now m l at r
    unfolding made
    row-read (Err x) k = record { means = sym (ap (made (row_of m)) k) ∙ as-many; settled = tt }
    row-read (Ok d) k =
        let r = row_of m in
        let own : value (taken_for (spelled_in s.source.now) (places r.form) d.registers d.amount) ≡ read_operands (takes_label r.form) (places r.form) (left_meant s)
        = sym (k.means (left_meant t)) ∙ ap (read_operands (takes_label r.form) (places r.form)) (sym (left_before s k.tokens t k.took)) in
        record {
          means = ap (λ x. value (draft_meant (spelled_in s.source.now) (record { mnemonic = x; registers = d.registers; amount = d.amount }))) k.named ∙ ap (made r) own ∙ as-many;
          settled = (k.settled, last-is k.tokens k.took (k.count ∙ sym (e ∙ ap (λ x. length (places x)) f)) d.amount k.stands);
        }

-- ---- the mnemonic's token

-- A part of a text of bytes.
below-take : (n : ℕ) (s : List ℕ) → Below s → Below (take n s)
below-take zero s h i = omega arith
below-take (suc n) [] h i = omega arith
below-take (suc n) (b ∷ s) h zero = h 0
below-take (suc n) (b ∷ s) h (suc i) = below-take n s (λ j. h (suc j)) i

below-part : (k n : ℕ) (s : List ℕ) → Below s → Below (take n (drop k s))
below-part k n s h = below-take n (drop k s) (λ j. rw (get_or-drop k s j 0) (h (k + j)))

module _ (s : List ℕ) (l : Line) (at : ℕ) (k : Kept s l) (few : at ≤ 2) where
  -- There is none.
  pub no-token : l.count ≤ at → ParsedIs s l at (Err MnemonicExpected)
  unfolding read_instruction behind
  no-token h =
      record {
        means = rw (drop_of_length-le (firsts s l.tokens l.count) {i = at} (rw (length-map (take l.count l.tokens) (meant s), length-take l.count l.tokens) (omega arith)));
        settled = tt;
      }

  module _ (h : at < l.count) where
    abbrev word : List ℕ
    word = spelling s (get_or l.tokens at past)

    -- There is one.
    a-token : read_mnemonic (kind_meant (get_or l.tokens at past).kind word) (l.count - at - 1) (drop (at + 1) (firsts s l.tokens l.count))
        ≡ read_instruction (behind at (record { count = l.count; first = firsts s l.tokens l.count }))
    unfolding read_instruction behind
    a-token =
        let n : at < length (firsts s l.tokens l.count) = rw (length-map (take l.count l.tokens) (meant s), length-take l.count l.tokens) (omega (arith, k.places)) in
        rw (drop-cons (firsts s l.tokens l.count) at (meant s past) n, get_or-map (meant s) (take l.count l.tokens) at past, get_or-take l.count l.tokens at past h, add-one at)

    -- It is no Identifier.
    pub no-word : ((get_or l.tokens at past).kind ≡ Identifier → ⊥) → ParsedIs s l at (Err MnemonicExpected)
    unfolding read_mnemonic read_identifier
    no-word f = record { means = rw (read_mnemonic, no-identifier (get_or l.tokens at past).kind word f) at a-token; settled = tt }

    -- It is the one of the row that is found by the key of its spelling in lower case, if it has one.
    module _ (i : (get_or l.tokens at past).kind ≡ Identifier) (below : Below s) (key : StdOption ℕ)
        (e : key ≡ name_key word)
        (o : StdOption Mnemonic) (n : MatchOption key (o ≡ None) (λ k. found_meant o ≡ find (λ q. eqb (packed q.mnemonic) k) table)) where
      named : found_meant o ≡ row_named (map lower word)
      named = let t = get_or l.tokens at past in row-by-name word (below-part t.start t.length s below) key e o n

      pub no-mnemonic : o ≡ None → ParsedIs s l at (Err UnknownMnemonic)
      unfolding read_mnemonic read_identifier
      no-mnemonic e = record { means = (let q : none ≡ row_named (map lower word) = rw e at named in rw (i, read_mnemonic, ← q)) ∙ a-token; settled = tt }

      pub row-is : (m : Mnemonic) → o ≡ Some m → (r : Answer Draft Refusal) → RowIs s m l at r → ParsedIs s l at r
      unfolding read_mnemonic read_identifier
      row-is m e r p = record { means = p.means ∙ (let q : some (row_of m) ≡ row_named (map lower word) = rw e at named in rw (i, read_mnemonic, ← q)) ∙ a-token; settled = p.settled }

-- ---- a line without a label

-- Where no token is taken off, the line is read as it is.
pub behind-none : (l : MeantLine) → read_instruction (behind 0 l) ≡ read_instruction l
unfolding behind
behind-none l = let e : l.count - 0 ≡ l.count = omega arith in λ j. read_instruction (record { count = e j; first = l.first })
