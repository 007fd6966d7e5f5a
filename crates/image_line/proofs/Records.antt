-- What a line is and what it reads as, as the code looks at its record.
use Prim.Native.Nat.{ℕ, suc, ◌+◌, ◌-◌, ◌≤◌, ◌<◌}
use mathlib.Core.Path.{◌≡◌, refl, sym, ap, ap₂, ◌∙◌}
use native.Mathlib.Omega.{arith}
use mathlib.Core.Bool.{Bool, true, false}
use mathlib.Core.Option.{none, some}
use mathlib.Core.List.{List, [], ◌∷◌}
use lib.ListN.{length, take, drop, get_or, length-drop, length-take, length-map, drop_of_length-le, get_or-map}
use lib.Seq.{drop-cons, get_or-take, take_all}
use lib.Dec.{eqb}
use Rattle.std.specs.Prelude.{Some, None, Ok, Err}
use Rattle.std.specs.Prelude.{Option as Maybe, Result as Answer}
use Rattle.refusal.specs.declared.refusal.Refusal.{Refusal}
use Rattle.text_lexical.specs.Bytes.{Result, bytes, same}
use Rattle.text_lexical.specs.Names.{Name}
use Rattle.text.specs.Tokens.{tokens}
use Rattle.text.specs.Tokens.{Token as Meant}
use Rattle.text.specs.Lines.{kept, read_line}
use Rattle.text.specs.Lines.{Line as Record}
use Rattle.text.specs.NameSets.{Naming}
use Rattle.text.specs.Places.{rest_at, left_at, end_at, StartsAt}
use Rattle.text.specs.Promised.{kind_meant, filler, firsts, meant, spelling, record_at}
use Rattle.text.specs.declared.lexer.Kind.{Kind as TokenKind}
use Rattle.text.specs.declared.lexer.Kind.TheVariants.{Identifier, Directive, Colon}
use Rattle.text.specs.declared.lexer.Token.{Token}
use Rattle.text.specs.declared.parser.Line.{Line}
use Rattle.text.proofs.Recording.{LineRead, line_read_lem, StandsLast, last_token}
use Rattle.instruction.specs.Operands.{mark_byte, read_instruction, behind}
use Rattle.instruction.specs.Operands.{Draft as MeantDraft}
use Rattle.instruction.specs.Promised.{spelled_in, DraftSettled}
use Rattle.instruction.specs.declared.instruction.Target.{Target}
use Rattle.instruction.specs.declared.instruction.Amount.{Amount}
use Rattle.instruction.specs.declared.instruction.Amount.TheVariants.{Number as Exactly, Label}
use Rattle.instruction.specs.declared.instruction.Draft.{Draft}
use Rattle.instruction_operands.proofs.Line.{get_d_any, behind-none}
use Rattle.instruction.proofs.Labelled.{labelled-first}
use Rattle.image.specs.Settings.{configured}
use Rattle.instruction.specs.Kinds.{Kind, empty, labelled, config, ignored, plain, identifier_kind, kind_of}
use Rattle.image.specs.Assembling.{Context, nothing, setting, coding, after_label, read_kind, read_on}
use Rattle.image.specs.Assembling.{Effect as MeantEffect}
use Rattle.image.specs.Promised.{record_meant}
use Rattle.image_line.specs.Promised.{LabelIf, effect_meant, OfDraft, EndsInIf, EffectIs, label_meant, label_length, end_of, LineIs, Recorded}
use Rattle.image_line.specs.declared.line.Effect.{Effect}
use Rattle.image_line.specs.declared.line.Effect.TheVariants.{Nothing, Sets, Codes}
use Rattle.image_line.proofs.Answers.{answered}
use Rattle.image_line.proofs.Starts.{starts-here}

-- ---- the tokens of a record

pub recorded : {names : List Name} → Naming names → {s : List ℕ} (from : ℕ) {l : Line} → Ok l ≡ record_at names s from → Recorded s l
recorded {names} ok {s} from {l} e =
    let r = (line_read_lem names ok s from (Ok l) e).places in
    record { kept = record { places = r.places; inside_text = r.inside_text }; solid = r.solid }

-- What an array of tokens is read as past its end; the token that the code reads at one of the first two places.
abbrev pub past : Token
past = record { kind = Identifier; start = 0; length = 0 }

pub first-token : (ts : List Token) (i : ℕ) → length ts ≡ kept → i < 2 → get_or ts i past ≡ get_or ts i filler
first-token ts i n h = get_d_any ts i past filler (omega arith)

module _ (s : List ℕ) (ts : List Token) (count : ℕ) where
  firsts-length : length (firsts s ts count) ≤ count
  firsts-length = rw (length-map (take count ts) (meant s), length-take count ts) (omega arith)

  -- After some of them, the next one and what follows it.
  token-at : (i : ℕ) → i < count → i < length ts → drop i (firsts s ts count) ≡ meant s (get_or ts i filler) ∷ drop (suc i) (firsts s ts count)
  token-at i h l =
      let n : i < length (firsts s ts count) = rw (length-map (take count ts) (meant s), length-take count ts) (omega arith) in
      drop-cons (firsts s ts count) i (meant s filler) n ∙ rw (get_or-map (meant s) (take count ts) i filler, get_or-take count ts i filler h)

  tokens-end : (i : ℕ) → count ≤ i → drop i (firsts s ts count) ≡ []
  tokens-end i h = drop_of_length-le (firsts s ts count) {i = i} (omega (arith, firsts-length))

-- ---- what kind of line it is, as the code asks

-- A token that is no Colon,
other-mark : (k : TokenKind) (u : List ℕ) → (k ≡ Colon → ⊥) → eqb (mark_byte (kind_meant k u)) 58 ≡ false
unfolding mark_byte
other-mark Colon u h = absurd (h refl)
other-mark k u h = refl

-- and one that is neither an Identifier nor a directive.
other-plain : (k : TokenKind) (u : List ℕ) (ts : List Meant) → (k ≡ Identifier → ⊥) → (k ≡ Directive → ⊥) → kind_of (kind_meant k u ∷ ts) ≡ plain
unfolding kind_of
other-plain Identifier u ts h g = absurd (h refl)
other-plain Directive u ts h g = absurd (g refl)
other-plain k u ts h g = refl

-- A line without tokens.
pub kind_none : (s : List ℕ) (l : Line) → l.count ≡ 0 → empty ≡ kind_of (firsts s l.tokens l.count)
unfolding kind_of
kind_none s l e = rw (tokens-end s l.tokens l.count 0 (omega arith))

module _ {s : List ℕ} {l : Line} (r : Recorded s l) where
  -- The token at one of the first two places, by its kind as the code reads it, and those after it.
  token-is : (i : ℕ) → i < 2 → i < l.count
      → drop i (firsts s l.tokens l.count) ≡ kind_meant (get_or l.tokens i past).kind (spelling s (get_or l.tokens i filler)) ∷ drop (suc i) (firsts s l.tokens l.count)
  token-is i two h =
      let e : get_or l.tokens i past ≡ get_or l.tokens i filler = first-token l.tokens i r.kept.places two in
      token-at s l.tokens l.count i h (omega (arith, r.kept.places)) ∙ rw e

  -- An Identifier, by the token after it.
  module _ (some-tokens : 0 < l.count) (is : (get_or l.tokens 0 past).kind ≡ Identifier) where
    -- It stands alone,
    pub kind_alone : l.count < 2 → plain ≡ kind_of (firsts s l.tokens l.count)
    unfolding kind_of identifier_kind
    kind_alone h = sym (ap kind_of (token-is 0 (omega arith) some-tokens) ∙ rw (is, tokens-end s l.tokens l.count 1 (omega arith)))

    module _ (more : 2 ≤ l.count) where
      by-mark : (b : Bool) → eqb (mark_byte (kind_meant (get_or l.tokens 1 past).kind (spelling s (get_or l.tokens 1 filler)))) 58 ≡ b
          → elim b [ true ↦ labelled (spelling s (get_or l.tokens 0 filler)) | false ↦ plain ] ≡ kind_of (firsts s l.tokens l.count)
      unfolding kind_of identifier_kind
      by-mark b e = sym (ap kind_of (token-is 0 (omega arith) some-tokens) ∙ rw (is, token-is 1 (omega arith) (omega arith), identifier_kind, e))

      -- a Colon follows,
      pub kind_label : (get_or l.tokens 1 past).kind ≡ Colon → labelled (spelling s (get_or l.tokens 0 filler)) ≡ kind_of (firsts s l.tokens l.count)
      unfolding mark_byte
      kind_label k = by-mark true (rw k)

      -- or something else.
      pub kind_second : ((get_or l.tokens 1 past).kind ≡ Colon → ⊥) → plain ≡ kind_of (firsts s l.tokens l.count)
      kind_second h = by-mark false (other-mark _ _ h)

  -- A directive, by what follows its point,
  pub kind_directive : {b : Bool} → 0 < l.count → let t = get_or l.tokens 0 past in t.kind ≡ Directive
      → (let u = spelling s t in b ≡ same (take (length u - 1) (drop 1 u)) (bytes "config"))
      → elim b [ true ↦ config | false ↦ ignored ] ≡ kind_of (firsts s l.tokens l.count)
  unfolding kind_of
  kind_directive {b} h k g =
      let t = get_or l.tokens 0 past in
      let u = spelling s t in
      let e : t ≡ get_or l.tokens 0 filler = first-token l.tokens 0 r.kept.places (omega arith) in
      let q : b ≡ same (drop 1 u) (bytes "config") = g ∙ ap (λ v. same v (bytes "config")) (take_all _ (drop 1 u) (omega (arith, length-drop 1 u))) in
      sym (ap kind_of (token-is 0 (omega arith) h) ∙ rw (k, ← e, kind_of, ← q))

  -- and any other token.
  pub kind_plain : 0 < l.count → ((get_or l.tokens 0 past).kind ≡ Identifier → ⊥) → ((get_or l.tokens 0 past).kind ≡ Directive → ⊥) → plain ≡ kind_of (firsts s l.tokens l.count)
  kind_plain h f g = sym (ap kind_of (token-is 0 (omega arith) h) ∙ other-plain _ _ _ f g)

-- ---- a line by its record

-- Where a token follows a label, it is read as an instruction.
after-tokens : (r : Record) (t : Meant) (ts : List Meant) → r.first ≡ t ∷ ts → after_label r ≡ coding (read_instruction r)
unfolding after_label
after-tokens r t ts e = go r.first e
  where
    go : (us : List Meant) → us ≡ t ∷ ts → elim us [ [] ↦ nothing | v ∷ vs ↦ coding (read_instruction r) ] ≡ coding (read_instruction r)
    go [] e = let z : 0 ≡ suc (length ts) = ap (λ (x : List Meant). length x) e in absurd (omega arith)
    go (v ∷ vs) e = refl

-- What follows a label: nothing,
module _ (s : List ℕ) (l : Line) where
  pub after_none : l.count ≡ 2 → nothing ≡ after_label (behind 2 (record_meant s l))
  unfolding after_label behind
  after_none e =
      let none_left : drop 2 (firsts s l.tokens l.count) ≡ [] = tokens-end s l.tokens l.count 2 (omega arith) in
      rw (after_label, behind, none_left)

  -- or an instruction.
  pub after_some : Recorded s l → 2 < l.count → coding (read_instruction (behind 2 (record_meant s l))) ≡ after_label (behind 2 (record_meant s l))
  unfolding behind
  after_some t m = sym (after-tokens (behind 2 (record_meant s l)) _ _ (token-at s l.tokens l.count 2 m (omega (arith, t.kept.places))))

-- A line that begins with a label has two tokens at least.
label-tokens : (u : List ℕ) (ts : List Meant) → labelled u ≡ kind_of ts → 2 ≤ length ts
label-tokens u ts e = let b = labelled-first u ts (sym e) in rw b.are (omega arith)

pub two_tokens : (s : List ℕ) {u : List ℕ} (l : Line) → labelled u ≡ kind_of (firsts s l.tokens l.count) → 2 ≤ l.count
two_tokens s {u} l e = omega (arith, label-tokens u (firsts s l.tokens l.count) e, firsts-length s l.tokens l.count)

-- ---- the line at a place

-- What holds of an effect's draft, by what else holds of it.
of-draft : (P Q : Draft → Type 0) → ((d : Draft) → P d → Q d) → (e : Answer Effect Refusal) → OfDraft P e → OfDraft Q e
of-draft P Q f (Ok Nothing) h = tt
of-draft P Q f (Ok (Sets c)) h = tt
of-draft P Q f (Ok (Codes d)) h = f d h
of-draft P Q f (Err r) h = tt

module _ {names : List Name} (ok : Naming names) {s : List ℕ} {start : ℕ} (starts : StartsAt s start) where
  -- A line with a bad token.
  pub line_bad : {c : Context} {r : Refusal} → Err r ≡ record_at names s start → LineIs names s start c (record { start = start; label = None; effect = Err r; end = start })
  unfolding read_on end_of
  line_bad {c} {r} e =
      let h : LineRead names s start (Err r) = line_read_lem names ok s start (Err r) e in
      let q : read_line names (rest_at s start) ≡ none = h.means in
      answered names s start c (record { start = start; label = None; effect = Err r; end = start }) (rw q (rw h.places)) (starts-here starts)
      (rw (end_of, q) (starts-here starts)) (omega (arith, starts.in_text)) tt tt

  module _ {l : Line} (is : Ok l ≡ record_at names s start) where
    h : LineRead names s start (Ok l)
    h = line_read_lem names ok s start (Ok l) is

    -- The label that the record ends in stands last on the line.
    label-there : (a : Amount) → EndsInIf s l a → LabelIf names s start a
    label-there (Exactly w) k = tt
    label-there (Label p) k =
        let t : StandsLast names s start (get_or l.tokens (l.count - 1) filler) = last_token names ok starts is k.not_empty k.all_kept in
        let b : p.start ≡ (get_or l.tokens (l.count - 1) filler).start = ap (λ (x : Target). x.start) k.last in
        let n : p.length ≡ (get_or l.tokens (l.count - 1) filler).length = ap (λ (x : Target). x.length) k.last in
        record {
          in_text = omega (arith, b, n, h.places.inside_text (l.count - 1));
          no_earlier = omega (arith, b, t.no_earlier);
          uncut = rw b t.uncut;
          last = ap (λ (x : ℕ). tokens names (left_at s x)) b ∙ t.means ∙ ap (λ (x : Meant). some (x ∷ [])) k.reads;
          ends = ap (end_at s) b ∙ t.ends;
        }

    module _ {c : Context} where
      -- A line of a kind, by what it does and by its label, if it has one.
      module _ {k : Kind} (kind-is : k ≡ kind_of (firsts s l.tokens l.count)) where
        line-kind : (n : Maybe ℕ) (e : Answer Effect Refusal) → record { label = label_meant s start n; effect = effect_meant s e } ≡ read_kind c (record_meant s l) k
            → start + label_length n ≤ length s → OfDraft (λ d. DraftSettled (spelled_in s) d × EndsInIf s l d.amount) e
            → LineIs names s start c (record { start = start; label = n; effect = e; end = l.end })
        unfolding read_on end_of
        line-kind n e q inside settled =
            let means : read_line names (rest_at s start) ≡ some (record_meant s l) = h.means in
            answered names s start c (record { start = start; label = n; effect = e; end = l.end }) (rw means (q ∙ ap (read_kind c (record_meant s l)) kind-is)) (starts-here starts)
            (rw (end_of, means) h.places.ends) inside (of-draft _ _ (λ d k. k.0) e settled) (of-draft _ _ (λ d k. label-there d.amount k.1) e settled)

        -- without one
        line-bare : {e : Answer Effect Refusal} {m : MeantEffect} → EffectIs s l e m → record { label = none; effect = m } ≡ read_kind c (record_meant s l) k
            → LineIs names s start c (record { start = start; label = None; effect = e; end = l.end })
        line-bare {e} q b = line-kind None e (ap (λ (x : MeantEffect). record { label = none; effect = x }) q.means ∙ b) (omega (arith, starts.in_text)) q.settled

      -- An empty line, and a directive that does nothing.
      pub line_empty : empty ≡ kind_of (firsts s l.tokens l.count) → LineIs names s start c (record { start = start; label = None; effect = Ok Nothing; end = l.end })
      unfolding read_kind
      line_empty k = line-bare k (record { means = refl; settled = tt }) refl

      pub line_ignored : ignored ≡ kind_of (firsts s l.tokens l.count) → LineIs names s start c (record { start = start; label = None; effect = Ok Nothing; end = l.end })
      unfolding read_kind
      line_ignored k = line-bare k (record { means = refl; settled = tt }) refl

      -- A `.config` line.
      pub line_config : {e : Answer Effect Refusal} → config ≡ kind_of (firsts s l.tokens l.count) → EffectIs s l e (setting (configured c.setup (record_meant s l)))
          → LineIs names s start c (record { start = start; label = None; effect = e; end = l.end })
      unfolding read_kind
      line_config k q = line-bare k q refl

      -- An instruction.
      pub line_plain : {e : Answer Effect Refusal} → plain ≡ kind_of (firsts s l.tokens l.count) → EffectIs s l e (coding (read_instruction (behind 0 (record_meant s l))))
          → LineIs names s start c (record { start = start; label = None; effect = e; end = l.end })
      unfolding read_kind
      line_plain k q = line-bare k q (ap (λ (x : Result MeantDraft). record { label = none; effect = coding x }) (behind-none (record_meant s l)))

      -- A line that begins with a label: its first token stands where its content starts.
      pub line_labelled : {e : Answer Effect Refusal} → labelled (spelling s (get_or l.tokens 0 filler)) ≡ kind_of (firsts s l.tokens l.count)
          → EffectIs s l e (after_label (behind 2 (record_meant s l)))
          → LineIs names s start c (record { start = start; label = Some (get_or l.tokens 0 past).length; effect = e; end = l.end })
      unfolding read_kind
      line_labelled {e} k q =
          let t = get_or l.tokens 0 filler in
          let two : 2 ≤ l.count = two_tokens s l k in
          let here : t.start ≡ start = h.places.begins (omega (arith, two)) ∙ sym (starts-here starts) in
          rw (first-token l.tokens 0 h.places.places (omega arith))
          (line-kind k (Some t.length) e
          (ap₂ (λ (from : ℕ) (x : MeantEffect). record { label = some (take t.length (drop from s)); effect = x }) (sym here) q.means)
          (rw (← here) (h.places.inside_text 0)) q.settled)
