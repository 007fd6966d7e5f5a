-- What a line is read of stands in it: its content begins after its indent, its first token where its content does, and lines stand in a
-- source one after the other. Nothing is asked of the names.
use Prim.Native.Nat.{ℕ, suc, pred, ◌+◌, ◌<◌}
use mathlib.Core.Path.{◌≡◌, refl, sym, ap, ◌∙◌, subst}
use native.Mathlib.Omega.{arith}
use mathlib.Core.Bool.{Bool, true, not}
use mathlib.Core.Option.{Option, none, some}
use mathlib.Core.List.{List, [], ◌∷◌, ◌++◌, append_assoc}
use lib.ListN.{length, take, drop, length-append, length-take, take-append-drop}
use lib.Seq.{drop-drop, drop_at}
use lib.Dec.{eqb}
use Rattle.text_lexical.specs.Bytes.{edge, before, after, run}
use Rattle.text_lexical.specs.Numbers.{value_of}
use Rattle.text_lexical.specs.Names.{Name, named}
use Rattle.text_lexical.proofs.Tests.{by-test}
use Rattle.text_lexical.proofs.Strings.{ends, ends-head}
use Rattle.text.specs.Tokens.{Class, Register, Identifier, Number, Hex, Binary, Directive, Mark, Match, longest, Token, identifier, hex, binary, pattern_token, register_token, token_of, Sized, sized, matched, front, infront, tokens_past, tokens}
use Rattle.text.specs.Lines.{extended, lines, kept_byte, trim_end, trim, cut, content, indent}
use Rattle.text.proofs.Left.{Within, longest-within, edge-blank}
use Rattle.text.proofs.Meanings.{no-token, Means, within-means, number-means, mark-means}

-- ---- the front of a string

pub record Front (u s : List ℕ) : Type 0 where
  pub rest : List ℕ
  pub whole : s ≡ u ++ rest

front-on : {u v s : List ℕ} → Front u v → Front v s → Front u s
front-on {u} f g = record { rest = f.rest ++ g.rest; whole = g.whole ∙ ap (λ (x : List ℕ). x ++ g.rest) f.whole ∙ append_assoc u f.rest g.rest }

-- What begins with a byte outside a class still does if it is cut.
front-ends : (p : ℕ → Bool) (u s : List ℕ) → Front u s → ends p s ≡ true → ends p u ≡ true
unfolding ends
front-ends p [] s f h = refl
front-ends p (b ∷ u) s f h = subst (λ (x : List ℕ). ends p x ≡ true) f.whole h

pub before-front : (p : ℕ → Bool) (s : List ℕ) → Front (before p s) s
unfolding before
before-front p [] = record { rest = []; whole = refl }
before-front p (b ∷ s) =
    let f = before-front p s in
    by-test (p b)
    (λ e. rw (before, e) (record { rest = f.rest; whole = ap (λ (x : List ℕ). b ∷ x) f.whole }))
    (λ e. rw (before, e) (record { rest = b ∷ s; whole = refl }))

trim_end-front : (s : List ℕ) → Front (trim_end s) s
unfolding trim_end kept_byte
trim_end-front [] = record { rest = []; whole = refl }
trim_end-front (b ∷ s) = go (trim_end s) (trim_end-front s)
  where
    go : (t : List ℕ) → Front t s → Front (kept_byte b t) (b ∷ s)
    go [] f = by-test (edge b) (λ e. rw (kept_byte, e) (record { rest = b ∷ s; whole = refl })) (λ e. rw (kept_byte, e) (record { rest = s; whole = refl }))
    go (c ∷ t) f = record { rest = f.rest; whole = ap (λ (x : List ℕ). b ∷ x) f.whole }

-- ---- the content of a line

after-drop : (p : ℕ → Bool) (s : List ℕ) → after p s ≡ drop (run p s) s
unfolding after run before
after-drop p [] = refl
after-drop p (b ∷ s) = by-test (p b) (λ e. rw (after, before, e) (after-drop p s)) (λ e. rw (after, before, e))

after-ends : (p : ℕ → Bool) (s : List ℕ) → ends p (after p s) ≡ true
unfolding after ends
after-ends p [] = refl
after-ends p (b ∷ s) = by-test (p b) (λ e. rw (after, e) (after-ends p s)) (λ e. rw (after, e, ends, e))

after-none : (p : ℕ → Bool) (s : List ℕ) → ends p s ≡ true → after p s ≡ s
unfolding after
after-none p [] h = refl
after-none p (b ∷ s) h = rw (after, ends-head p b s h)

trim-front : (s : List ℕ) → ends edge s ≡ true → Front (trim s) s
unfolding trim
trim-front s h = rw (after-none edge s h) (trim_end-front s)

-- It begins after the indent, with no edge.
content-front : (l : List ℕ) → Front (content l) (drop (indent l) l) × (ends edge (content l) ≡ true)
unfolding content indent cut trim
content-front l =
    let a = after edge l in
    let t : Front (trim l) a = trim_end-front a in
    let c : Front (cut (trim l)) (trim l) = before-front (λ b. not (eqb b 35)) (trim l) in
    let k : Front (cut (trim l)) a = front-on c t in
    let e : ends edge (cut (trim l)) ≡ true = front-ends edge (cut (trim l)) a k (after-ends edge l) in
    let f : Front (content l) a = front-on (trim-front (cut (trim l)) e) k in
    (rw (← after-drop edge l) f, front-ends edge (content l) a f (after-ends edge l))

-- ---- the first token of a text

register-no : (o : Option Name) (v : List ℕ) → register_token o ≡ some (identifier v) → ⊥
unfolding register_token
register-no none v e = no-token e
register-no (some n) v e = let q : ◌≡◌ {A = ℕ} 0 1 = cc in omega arith

-- What an Identifier's kind means tells its spelling.
meant-spelled : (u v : List ℕ) → Means (identifier v) u → u ≡ v
unfolding Means
meant-spelled u v e = cc

-- An Identifier is spelled as its match.
token-spelled : (names : List Name) (c : Class) (u v : List ℕ) → token_of names c u ≡ some (identifier v) → u ≡ v
unfolding token_of pattern_token Means
token-spelled names Register u v e = absurd (register-no (named names u) v e)
token-spelled names Identifier u v e = cc
token-spelled names Number u v e = meant-spelled u v (number-means u (identifier v) e)
token-spelled names Hex u v e = meant-spelled u v (within-means u _ (hex (value_of 16 (drop 2 u))) (identifier v) e refl)
token-spelled names Binary u v e = meant-spelled u v (within-means u _ (binary (value_of 2 (drop 2 u))) (identifier v) e refl)
token-spelled names Directive u v e = let z : ◌≡◌ {A = ℕ} 0 1 = cc in absurd (omega arith)
token-spelled names Mark u v e = meant-spelled u v (mark-means u (identifier v) e)

front-spelled : (names : List Name) (s : List ℕ) (t : Sized) (v : List ℕ) → front names s ≡ some t → t.token ≡ identifier v → Front v s × (0 < length v)
unfolding front matched sized Within
front-spelled names s t v h k = by-match (longest names s (length s)) (longest-within names s (length s)) h
  where
    by-token : (m : Match) → Within (length s) (some m) → (o : Option Token) → token_of names m.class (take m.size s) ≡ o → sized m.size o ≡ some t → Front v s × (0 < length v)
    by-token m w none e g = let z : ◌≡◌ {A = ℕ} 0 1 = cc in absurd (omega arith)
    by-token m w (some x) e g =
        let q : ◌≡◌ {A = Sized} (record { token = x; size = m.size }) t = cc in
        let i : x ≡ identifier v = ap (λ (y : Sized). y.token) q ∙ k in
        let u : take m.size s ≡ v = token-spelled names m.class (take m.size s) v (e ∙ ap (λ (y : Token). some y) i) in
        let n : length v ≡ length (take m.size s) = ap length (sym u) in
        (record { rest = drop m.size s; whole = sym (take-append-drop m.size s) ∙ ap (λ (y : List ℕ). y ++ drop m.size s) u }, omega (arith, n, length-take m.size s, w.0, w.1))

    by-match : (o : Option Match) → Within (length s) o → matched names s o ≡ some t → Front v s × (0 < length v)
    by-match none w g = let z : ◌≡◌ {A = ℕ} 0 1 = cc in absurd (omega arith)
    by-match (some m) w g = by-token m w (token_of names m.class (take m.size s)) refl g

-- So a text that does not begin with an edge begins with its first token, if that is an Identifier.
tokens-spelled : (names : List Name) (s v : List ℕ) (ts : List Token) → ends edge s ≡ true → tokens names s ≡ some (identifier v ∷ ts) → Front v s × (0 < length v)
unfolding tokens tokens_past infront
tokens-spelled names [] v ts h e = let z : ◌≡◌ {A = ℕ} 0 1 = cc in absurd (omega arith)
tokens-spelled names (b ∷ s) v ts h e = go (front names (b ∷ s)) refl (rw (tokens_past, edge-blank b (ends-head edge b s h)) at e)
  where
    behind : (t : Sized) (o : Option (List Token)) → infront t.token o ≡ some (identifier v ∷ ts) → t.token ≡ identifier v
    behind t none g = let z : ◌≡◌ {A = ℕ} 0 1 = cc in absurd (omega arith)
    behind t (some us) g = cc

    go : (o : Option Sized) → front names (b ∷ s) ≡ o
        → elim o [ none ↦ none | some t ↦ infront t.token (tokens_past names (pred t.size) s) ] ≡ some (identifier v ∷ ts) → Front v (b ∷ s) × (0 < length v)
    go none f g = let z : ◌≡◌ {A = ℕ} 0 1 = cc in absurd (omega arith)
    go (some t) f g = front-spelled names (b ∷ s) t v f (behind t (tokens_past names (pred t.size) s) g)

-- An Identifier that a line begins with stands after its indent, and takes a byte at least.
pub first-spelled : (names : List Name) (l v : List ℕ) (ts : List Token) → tokens names (content l) ≡ some (identifier v ∷ ts) → Front v (drop (indent l) l) × (0 < length v)
first-spelled names l v ts e =
    let (f, h) = content-front l in
    let (g, n) = tokens-spelled names (content l) v ts h e in
    (front-on g f, n)

-- ---- the lines of a source

-- Lines that stand one after the other, from a place on.
unfoldable pub Stand : List ℕ → ℕ → List (List ℕ) → Type 0
Stand s at [] = Unit {0}
Stand s at (l ∷ ls) = Front l (drop at s) × Stand s (at + suc (length l)) ls

-- The lines of a text behind another one.
lines-from : (a s : List ℕ) → Stand (a ++ s) (length a) (lines s)
unfolding lines extended Stand
lines-from a [] = (record { rest = drop (length a) (a ++ []); whole = refl }, tt)
lines-from a (b ∷ s) = go (lines-from (a ++ (b ∷ [])) s)
  where
    t : List ℕ
    t = a ++ (b ∷ s)

    here : drop (length a) t ≡ b ∷ s
    here = drop_at a (b ∷ s) (length a) refl

    next : drop (length a + 1) t ≡ s
    next = sym (drop-drop 1 (length a) t) ∙ ap (drop 1) here

    longer : (ls : List (List ℕ)) → Stand t (length a + 1) ls → Stand t (length a) (extended b ls)
    longer [] h = (record { rest = s; whole = here }, tt)
    longer (l ∷ ls) (f, h) =
        let n : length a + 1 + suc (length l) ≡ length a + suc (suc (length l)) = omega arith in (
          record { rest = f.rest; whole = here ∙ ap (λ (x : List ℕ). b ∷ x) (sym next ∙ f.whole) },
          subst (λ (k : ℕ). Stand t k ls) n h,
        )

    go : Stand ((a ++ (b ∷ [])) ++ s) (length (a ++ (b ∷ []))) (lines s) → Stand t (length a) (lines (b ∷ s))
    go h =
        let k : Stand t (length a + 1) (lines s) = rw (append_assoc a (b ∷ []) s, length-append a (b ∷ [])) at h in
        by-test (eqb b 10)
        (λ e. rw (lines, e) (record { rest = drop (length a) t; whole = refl }, k))
        (λ e. rw (lines, e) (longer (lines s) k))

pub lines-stand : (s : List ℕ) → Stand s 0 (lines s)
lines-stand s = lines-from [] s
