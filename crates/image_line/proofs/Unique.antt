-- The label that a line names stands at one place: two places of a line at which a label stands last, spelled alike, are the same. So what
-- `LineIs` promises of a line's answer leaves nothing of it free.
use Prim.Native.Nat.{ℕ, zero, suc, pred, ◌+◌, ◌-◌, ◌≤◌, ◌<◌}
use mathlib.Core.Path.{◌≡◌, refl, sym, ap, ap₂, ◌∙◌}
use native.Mathlib.Omega.{arith}
use mathlib.Core.Bool.{true, false, true≢false}
use mathlib.Core.Logic.{inl, inr}
use mathlib.Core.Option.{Option, none, some}
use mathlib.Core.List.{List, [], ◌∷◌}
use lib.ListN.{length, drop, get_or, length-take, length-drop, drop_of_length-le}
use lib.Seq.{drop-cons, get_or-take, get_or-drop}
use lib.Dec.{eqb}
use borrow.Author.Tests.{eqb-true, ne_eqb}
use Rattle.text_lexical.specs.Bytes.{between, blank, edge, inside, before}
use Rattle.text_lexical.specs.Names.{Name}
use Rattle.text_lexical.proofs.Tests.{by-test, not-true, split}
use Rattle.text_lexical.proofs.Strings.{run-no}
use Rattle.text.specs.Tokens.{Token, identifier, Sized, front, infront, tokens_past, tokens}
use Rattle.std.specs.Prelude.{Result as Answer}
use Rattle.text.specs.Lines.{kept_byte, trim_end, cut, read_line}
use Rattle.text.specs.NameSets.{Naming}
use Rattle.text.proofs.Tokens.{tokens-blank}
use Rattle.text.specs.Places.{rest_at, left_at, end_at, Uncut}
use Rattle.text.specs.Promised.{kind_meant, meant, spelling, found_at, token_at, stands_at, past, scan_at}
use Rattle.text.specs.declared.lexer.Kind.{Kind}
use Rattle.text.specs.declared.lexer.Kind.TheVariants.{Identifier}
use Rattle.text.specs.declared.lexer.Token.{Token as KeptToken}
use Rattle.text.specs.declared.lexer.Scan.{Scan}
use Rattle.text.specs.declared.lexer.Scan.TheVariants.{Found, Bad, End}
use Rattle.text.proofs.Left.{run-held, found-solid}
use Rattle.text.proofs.Endings.{end-run}
use Rattle.text.proofs.Stepping.{past-blank, after, stepped}
use Rattle.instruction.specs.Table.{places}
use Rattle.instruction.specs.Operands.{exactly, to}
use Rattle.instruction.specs.Operands.{Amount as MeantAmount, Draft as MeantDraft}
use Rattle.instruction.specs.Promised.{row_of, spelled_in, amount_meant, amount_for, draft_meant, amount_back, draft_for, label_start}
use Rattle.instruction.specs.declared.instruction.Target.{Target}
use Rattle.refusal.specs.declared.refusal.Refusal.{Refusal}
use Rattle.image.specs.Assembling.{Context, nothing, sets, codes, faulty, read_on}
use Rattle.image.specs.Assembling.{Effect as MeantEffect, Read as MeantRead}
use Rattle.image_line.specs.Promised.{LabelAt, LabelIf, effect_meant, OfDraft, effect_label, effect_for, line_read, LineIs}
use Rattle.image_line.specs.declared.line.Effect.{Effect}
use Rattle.image_line.specs.declared.line.Read.{Read}
use Rattle.image_line.proofs.Labels.{amount-taken}

-- ---- how much is left of a line

left : List ℕ → List ℕ
left t = trim_end (cut (before inside t))

kept-most : (b : ℕ) (t : List ℕ) → length (kept_byte b t) ≤ suc (length t)
unfolding kept_byte
kept-most b [] = by-test (edge b) (λ e. rw (kept_byte, e) (omega arith)) (λ e. rw (kept_byte, e) (omega arith))
kept-most b (c ∷ t) = omega arith

kept-all : (b : ℕ) (t : List ℕ) → 0 < length t → length (kept_byte b t) ≡ suc (length t)
unfolding kept_byte
kept-all b [] h = absurd (omega arith)
kept-all b (c ∷ t) h = refl

-- From the next byte on at most one byte less is left,
left-most : (b : ℕ) (t : List ℕ) → length (left (b ∷ t)) ≤ suc (length (left t))
unfolding left cut before trim_end
left-most b t =
    by-test (inside b)
    (λ i. by-test (eqb b 35) (λ e. rw (before, i, before, e) (omega arith)) (λ e. rw (before, i, before, e) (kept-most b (trim_end (cut (before inside t))))))
    (λ i. rw (before, i) (omega arith))

-- and just that if something is left and the byte neither ends the line nor begins a comment.
left-all : (b : ℕ) (t : List ℕ) → inside b ≡ true → (b ≡ 35 → ⊥) → 0 < length (left t) → length (left (b ∷ t)) ≡ suc (length (left t))
unfolding left cut before trim_end
left-all b t i f h = rw (before, i, before, ne_eqb b 35 f) (kept-all b (trim_end (cut (before inside t))) h)

module _ (s : List ℕ) where
  left-here : (at : ℕ) → at < length s → left_at s at ≡ left (get_or s at 0 ∷ drop (suc at) s)
  unfolding left_at rest_at left
  left-here at l = rw (drop-cons s at 0 l)

  left-next : (at : ℕ) → left_at s at ≡ left (drop at s)
  unfolding left_at rest_at left
  left-next at = refl

  most-left : (k at : ℕ) → length (left_at s at) ≤ k + length (left_at s (at + k))
  unfolding left cut before trim_end
  most-left zero at = let e : at + 0 ≡ at = omega arith in rw e (omega arith)
  most-left (suc k) at =
      let e : at + suc k ≡ suc at + k = omega arith in
      rw e
      (split at (length s)
      (λ l. let m = rw (← left-here at l, ← left-next (suc at)) at (left-most (get_or s at 0) (drop (suc at) s)) in omega (arith, m, most-left k (suc at)))
      (λ l. rw (left-next at, drop_of_length-le s l) (omega arith)))

  all-left : (k at : ℕ) → at + k ≤ length s → ((i : ℕ) → at ≤ i → i < at + k → inside (get_or s i 0) ≡ true) → Uncut s at (at + k)
      → 0 < length (left_at s (at + k)) → length (left_at s at) ≡ k + length (left_at s (at + k))
  all-left zero at l f g h = let e : at + 0 ≡ at = omega arith in rw e (omega arith)
  all-left (suc k) at l f g h =
      let e : at + suc k ≡ suc at + k = omega arith in
      let some-left : 0 < length (left_at s (suc at + k)) = rw e at h in
      let q = all-left k (suc at) (omega arith) (λ i a b. f i (omega arith) (omega arith)) (λ i a b c. g i (omega arith) (omega arith) c) some-left in
      let m = left-all (get_or s at 0) (drop (suc at) s) (f at (omega arith) (omega arith)) (g at (omega arith) (omega arith))
      (rw (← left-next (suc at)) (omega arith)) in
      let n = rw (← left-here at (omega arith), ← left-next (suc at)) at m in
      rw e (omega (arith, n, q))

-- ---- a label that stands alone

kind-identifier : (k : Kind) (v u : List ℕ) → kind_meant k v ≡ identifier u → v ≡ u
kind-identifier Identifier v u e = cc
kind-identifier k v u e = cc

infront-one : (t u : Token) (o : Option (List Token)) → infront t o ≡ some (u ∷ []) → (t ≡ u) × (o ≡ some [])
unfolding infront
infront-one t u none e = cc
infront-one t u (some ts) e = (cc, let q : ts ≡ [] = cc in ap some q)

infront-none {ℓ} : {X : Type ℓ} (t : Token) (o : Option (List Token)) → infront t o ≡ some [] → X
unfolding infront
infront-none t none e = cc
infront-none t (some ts) e = cc

blank-edge : (b : ℕ) → blank b ≡ true → edge b ≡ true
unfolding blank edge between
blank-edge b h =
    by-test (eqb b 9)
    (λ e. let q : b ≡ 9 = eqb-true b 9 e in rw q refl)
    (λ n. by-test (eqb b 32) (λ e. let q : b ≡ 32 = eqb-true b 32 e in rw q refl) (λ m. absurd (true≢false (sym (rw (n, m) at h)))))

module _ (names : List Name) where
  not-blank {ℓ} : {X : Type ℓ} (b : ℕ) (t : List ℕ) → blank b ≡ false → tokens names (b ∷ t) ≡ some [] → X
  unfolding tokens tokens_past
  not-blank {X = X} b t h e = go (front names (b ∷ t)) (rw (tokens_past, h) at e)
    where
      go : (o : Option Sized) → ◌≡◌ {A = Option (List Token)} (elim o [ none ↦ none | some k ↦ infront k.token (tokens_past names (pred k.size) t) ]) (some []) → X
      go none e = cc
      go (some k) e = infront-none k.token _ e

  -- Where no token is read, nothing is left.
  none-left : (t : List ℕ) → tokens names (trim_end t) ≡ some [] → trim_end t ≡ []
  unfolding trim_end kept_byte
  none-left [] e = refl
  none-left (b ∷ t) e = go (trim_end t) (none-left t) e
    where
      go : (u : List ℕ) → (tokens names u ≡ some [] → u ≡ []) → tokens names (kept_byte b u) ≡ some [] → kept_byte b u ≡ []
      go [] f e = by-test (edge b) (λ h. rw (kept_byte, h)) (λ h. not-blank b [] (not-true (blank b) (λ k. true≢false (sym (blank-edge b k) ∙ h))) (rw (kept_byte, h) at e))
      go (c ∷ u) f e = by-test (blank b) (λ h. let q : c ∷ u ≡ [] = f (sym (tokens-blank names b (c ∷ u) h) ∙ e) in cc) (λ h. not-blank b (c ∷ u) h e)

  module _ (ok : Naming names) (s : List ℕ) where
    -- A token that is found fits what is left from its place on.
    token-fits : (at : ℕ) (t : KeptToken) (next : ℕ) → Found t next ≡ scan_at names s at → t.length ≤ length (left_at s (past s at))
    unfolding scan_at stands_at token_at
    token-fits at t next e = by-left (left_at s (past s at)) e
      where
        by-front : (o : Option Sized) → front names (left_at s (past s at)) ≡ o → Found t next ≡ found_at s (past s at) o → t.length ≤ length (left_at s (past s at))
        by-front none q e = cc
        by-front (some z) q e =
            let n : t.length ≡ z.size = cc in
            let (h, l, i) = found-solid names ok.identifiers (left_at s (past s at)) z.token z.size q in omega arith

        by-left : (l : List ℕ)
            → Found t next ≡ elim l [ [] ↦ End (end_at s (past s at)) | b ∷ m ↦ found_at s (past s at) (front names (left_at s (past s at))) ]
            → t.length ≤ length (left_at s (past s at))
        by-left [] e = cc
        by-left (b ∷ m) e = by-front (front names (left_at s (past s at))) refl e

    -- An Identifier at a place, after which nothing is left.
    record Single (at : ℕ) (u : List ℕ) : Type 0 where
      token : KeptToken
      next : ℕ
      is : Found token next ≡ scan_at names s at
      spelled : spelling s token ≡ u
      nothing-left : left_at s next ≡ []

    single : (at : ℕ) (u : List ℕ) → tokens names (left_at s at) ≡ some (identifier u ∷ []) → Single at u
    unfolding left_at
    single at u e = go (scan_at names s at) refl (sym (stepped names ok s at (scan_at names s at) refl).means ∙ e)
      where
        go : (r : Scan) → r ≡ scan_at names s at → after names s r ≡ some (identifier u ∷ []) → Single at u
        go (Found t next) q h =
            let (k, n) = infront-one (meant s t) (identifier u) _ h in
            record { token = t; next = next; is = q; spelled = kind-identifier t.kind (spelling s t) u k; nothing-left = none-left (cut (rest_at s next)) n }
        go Bad q h = cc
        go (End x) q h = cc

    -- If it is spelled by the bytes at the place, it stands there, and just its bytes are left.
    module _ (p : Target) (inside_text : p.start + p.length ≤ length s) (h : Single p.start (spelled_in s p)) where
      as-long : h.token.length ≡ p.length
      as-long =
          let (b, z, q, m, i, k) = (stepped names ok s p.start (Found h.token h.next) h.is).leads in
          let e : length (spelling s h.token) ≡ length (spelled_in s p) = ap (λ (x : List ℕ). length x) h.spelled in
          omega (arith, length-take h.token.length (drop h.token.start s), length-drop h.token.start s, length-take p.length (drop p.start s), length-drop p.start s)

      no_blanks : past s p.start ≡ p.start
      no_blanks =
          let (b, z, q, m, i, k) = (stepped names ok s p.start (Found h.token h.next) h.is).leads in
          let long = as-long in
          let there : get_or (spelling s h.token) 0 0 ≡ get_or s (past s p.start) 0
          = get_or-take h.token.length (drop h.token.start s) 0 0 q ∙ get_or-drop h.token.start s 0 0 ∙ ap (λ (x : ℕ). get_or s x 0) (omega (arith, b)) in
          let here : get_or (spelled_in s p) 0 0 ≡ get_or s p.start 0
          = get_or-take p.length (drop p.start s) 0 0 (omega arith) ∙ get_or-drop p.start s 0 0 ∙ ap (λ (x : ℕ). get_or s x 0) (omega arith) in
          let same : get_or s p.start 0 ≡ get_or s (past s p.start) 0 = sym here ∙ ap (λ (x : List ℕ). get_or x 0 0) (sym h.spelled) ∙ there in
          let no_blank : blank (get_or s p.start 0) ≡ false = ap blank same ∙ past-blank s p.start (past s p.start) (omega arith) refl (omega arith) in
          omega (arith, run-no blank s p.start (omega arith) no_blank)

      just-left : (0 < p.length) × (length (left_at s p.start) ≡ p.length)
      just-left =
          let (b, z, q, m, i, k) = (stepped names ok s p.start (Found h.token h.next) h.is).leads in
          let long = as-long in
          let place = no_blanks in
          let least = rw place at (token-fits p.start h.token h.next h.is) in
          let most = most-left s p.length p.start in
          let end : p.start + p.length ≡ h.next = omega arith in
          let none_after : length (left_at s (p.start + p.length)) ≡ 0 = ap (λ (x : ℕ). length (left_at s x)) end ∙ ap (λ (x : List ℕ). length x) h.nothing-left in
          (omega arith, omega arith)

    -- Two places, one after the other.
    ordered : {from : ℕ} (p q : Target) → LabelAt names s from p → LabelAt names s from q → spelled_in s p ≡ spelled_in s q → p.start ≤ q.start → p ≡ q
    ordered {from} p q a b e l =
        let (n, j) = just-left p a.in_text (single p.start (spelled_in s p) a.last) in
        let (m, k) = just-left q b.in_text (single q.start (spelled_in s q) b.last) in
        let d = q.start - p.start in
        let there : p.start + d ≡ q.start = omega arith in
        let ends : end_at s q.start ≡ end_at s p.start = b.ends ∙ sym a.ends in
        let on-line : (i : ℕ) → p.start ≤ i → i < p.start + d → inside (get_or s i 0) ≡ true
        = λ i g h. let x : p.start + (i - p.start) ≡ i = omega arith in
        ap inside (ap (λ (y : ℕ). get_or s y 0) (sym x) ∙ sym (get_or-drop p.start s (i - p.start) 0))
        ∙ run-held inside (drop p.start s) (i - p.start) (omega (arith, end-run s p.start, end-run s q.start)) in
        let c = all-left s d p.start (omega (arith, b.in_text)) on-line (λ i g h. b.uncut i (omega (arith, a.no_earlier)) (omega arith)) (rw there (omega arith)) in
        let apart : length (left_at s p.start) ≡ d + length (left_at s q.start) = rw there at c in
        let long : p.length ≡ q.length
        = omega (arith, ap (λ (x : List ℕ). length x) e, length-take p.length (drop p.start s), length-drop p.start s, length-take q.length (drop q.start s), length-drop q.start s, a.in_text, b.in_text) in
        ap₂ (λ (x y : ℕ). record { start = x; length = y }) (omega arith) long

    -- So the place of a label is the only one.
    pub one_place : {from : ℕ} (p q : Target) → LabelAt names s from p → LabelAt names s from q → spelled_in s p ≡ spelled_in s q → p ≡ q
    one_place p q a b e = split p.start q.start (λ l. ordered p q a b e (omega arith)) (λ l. sym (ordered q p b a (sym e) l))

    -- ---- the answer for a line

    -- Where the label stands that an answer's draft names, and how it is spelled.
    placed : (from at : ℕ) (d : MeantDraft) (u : List ℕ) → d.amount ≡ some (to u) → (e : Answer Effect Refusal) → e ≡ effect_for at (codes d)
        → effect_meant s e ≡ codes d → OfDraft (λ d. LabelIf names s from d.amount) e
        → LabelAt names s from (record { start = at; length = length u }) × (spelled_in s (record { start = at; length = length u }) ≡ u)
    placed from at d u a e q m h =
        let n : codes (draft_meant (spelled_in s) (draft_for at d)) ≡ codes d = rw q at m in
        let z : draft_meant (spelled_in s) (draft_for at d) ≡ d = cc in
        let ps = places (row_of (draft_for at d).mnemonic).form in
        let y : amount_for ps (to (spelled_in s (record { start = at; length = length u }))) ≡ some (to u)
        = sym (ap (λ (x : Option MeantAmount). amount_for ps (amount_meant (spelled_in s) (amount_back at x))) a) ∙ ap (λ (x : MeantDraft). x.amount) z ∙ a in (
          rw a at (rw q at h),
          elim (amount-taken ps (to (spelled_in s (record { start = at; length = length u })))) [ inl k ↦ cc | inr k ↦ cc ],
        )

    same-label : (from : ℕ) (m : MeantEffect) (e f : Answer Effect Refusal) → e ≡ effect_for (effect_label e) m → f ≡ effect_for (effect_label f) m
        → effect_meant s e ≡ m → effect_meant s f ≡ m → OfDraft (λ d. LabelIf names s from d.amount) e → OfDraft (λ d. LabelIf names s from d.amount) f
        → effect_label e ≡ effect_label f
    same-label from nothing e f q r k j g h = ap effect_label q ∙ sym (ap effect_label r)
    same-label from (sets c) e f q r k j g h = ap effect_label q ∙ sym (ap effect_label r)
    same-label from (faulty n) e f q r k j g h = ap effect_label q ∙ sym (ap effect_label r)
    same-label from (codes d) e f q r k j g h = go d.amount refl
      where
        free : (o : Option MeantAmount) → d.amount ≡ o → ((at : ℕ) → label_start (amount_back at o) ≡ 0) → effect_label e ≡ effect_label f
        free o a n =
            ap effect_label q ∙ ap (λ (x : Option MeantAmount). label_start (amount_back (effect_label e) x)) a ∙ n (effect_label e)
            ∙ sym (ap effect_label r ∙ ap (λ (x : Option MeantAmount). label_start (amount_back (effect_label f) x)) a ∙ n (effect_label f))

        go : (o : Option MeantAmount) → d.amount ≡ o → effect_label e ≡ effect_label f
        go none a = free none a (λ at. refl)
        go (some (exactly z)) a = free (some (exactly z)) a (λ at. refl)
        go (some (to u)) a =
            let (l, n) = placed from (effect_label e) d u a e q k g in
            let (i, m) = placed from (effect_label f) d u a f r j h in
            ap (λ (x : Target). x.start) (one_place _ _ l i (n ∙ sym m))

    -- Two answers for a line are the same.
    pub one_answer : {from : ℕ} {c : Context} (a b : Read) → LineIs names s from c a → LineIs names s from c b → a ≡ b
    one_answer {from} {c} a b h k =
        h.is
        ∙ ap (line_read names s from c) (same-label from (read_on c (read_line names (rest_at s from))).effect a.effect b.effect
        (ap (λ (x : Read). x.effect) h.is) (ap (λ (x : Read). x.effect) k.is) (ap (λ (x : MeantRead). x.effect) h.reads) (ap (λ (x : MeantRead). x.effect) k.reads) h.target k.target)
        ∙ sym k.is
