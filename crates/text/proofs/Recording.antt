-- The record of a line: what the tokens mean that are found one after the other, and the loop that keeps the first and counts all.
use mathlib.Core.Path.{◌≡◌, refl, sym, ap, ◌∙◌}
use Prim.Native.Nat.{ℕ, zero, suc, ◌+◌, ◌-◌, ◌≤◌, ◌<◌}
use native.Mathlib.Omega.{arith}
use mathlib.Core.Bool.{false}
use mathlib.Core.Logic.{◌⊎◌, inl, inr}
use mathlib.Core.List.{List, [], ◌∷◌, ◌++◌, map, append_assoc, append-nil}
use mathlib.Core.Option.{Option, none, some}
use Rattle.std.specs.Prelude.{Ok, Err}
use Rattle.std.specs.Prelude.{Result as Answer}
use lib.ListN.{length, take, drop, get_or, set, replicate, length-append, length-drop, length-take, length-map, length-replicate, get_or-append}
use lib.Seq.{take_all, take-append-le, take-append_seam, set_at, get_or-append-add, get_or-drop, get_or-take}
use Rattle.text_lexical.specs.Bytes.{blank, run, margin}
use Rattle.text_lexical.specs.Names.{Name}
use Rattle.text_lexical.proofs.Tests.{split, not-true, no_both}
use Rattle.text_lexical.proofs.Strings.{run-no, run_end, run-stop}
use Rattle.refusal.specs.declared.refusal.Refusal.{Refusal}
use Rattle.refusal.specs.declared.refusal.Refusal.TheVariants.{BadToken}
use Rattle.text.specs.Tokens.{infront, tokens}
use Rattle.text.specs.Tokens.{Token as Meant}
use Rattle.text.specs.Lines.{indent, kept, line_of, record_of, read_line}
use Rattle.text.specs.Lines.{Line as Record}
use Rattle.text.specs.NameSets.{Naming}
use Rattle.text.specs.Places.{rest_at, left_at, end_at, Uncut, StartsAt}
use Rattle.text.specs.Promised.{meant, past, scan_at, infront_of, followed, tokens_from, all_from, filler, first_kept, line_with, record_at, firsts}
use Rattle.text.specs.declared.lexer.Token.{Token}
use Rattle.text.specs.declared.lexer.Scan.{Scan}
use Rattle.text.specs.declared.lexer.Scan.TheVariants.{Found, Bad, End}
use Rattle.text.specs.declared.parser.Line.{Line}
use Rattle.text.proofs.Left.{blank-margin, blank-inside, left-byte, blanks_at, none_read, uncut_on, content-at, indent-at}
use Rattle.text.proofs.Endings.{run-within}
use Rattle.text.proofs.Stepping.{Leads, Stepped, stepped, uncut}

-- ---- the tokens of a line

-- What tokens of a text mean.
meant_all : List ℕ → Option (List Token) → Option (List Meant)
meant_all s none = none
meant_all s (some ts) = some (map (meant s) ts)

meant-infront : (s : List ℕ) (t : Token) (o : Option (List Token)) → infront (meant s t) (meant_all s o) ≡ meant_all s (infront_of t o)
unfolding infront meant_all
meant-infront s t none = refl
meant-infront s t (some ts) = refl

-- Past the text's end nothing is left.
past_end : (s : List ℕ) (at : ℕ) → length s < at → left_at s at ≡ []
past_end s at h = go (left_at s at) refl
  where
    go : (l : List ℕ) → left_at s at ≡ l → l ≡ []
    go [] e = refl
    go (b ∷ l) e = absurd (omega (arith, (left-byte s at b l e).0))

-- Each takes a byte at least, and is a part of the text.
Parts : List ℕ → List Token → Type 0
Parts s [] = Unit {0}
Parts s (t ∷ ts) = (0 < t.length) × (t.start + t.length ≤ length s) × Parts s ts

AllParts : List ℕ → Option (List Token) → Type 0
AllParts s none = Unit {0}
AllParts s (some ts) = Parts s ts

part_at : (s : List ℕ) (ts : List Token) (i : ℕ) → Parts s ts → i < length ts → (0 < (get_or ts i filler).length) × ((get_or ts i filler).start + (get_or ts i filler).length ≤ length s)
unfolding Parts
part_at s [] i h l = absurd (omega arith)
part_at s (t ∷ ts) zero (p, q, h) l = (p, q)
part_at s (t ∷ ts) (suc i) (p, q, h) l = part_at s ts i h (omega arith)

-- The first begins past the blanks.
FirstAt : ℕ → Option (List Token) → Type 0
FirstAt at none = Unit {0}
FirstAt at (some []) = Unit {0}
FirstAt at (some (t ∷ ts)) = t.start ≡ at

-- ---- the places of a record

length-kept : (ts : List Token) → length (first_kept ts) ≡ kept
unfolding first_kept
length-kept ts = omega (arith, length-append (take kept ts) (replicate (kept - length ts) filler), length-take kept ts, length-replicate (kept - length ts) filler)

fillers : (n i : ℕ) → get_or (replicate n filler) i filler ≡ filler
fillers zero i = refl
fillers (suc n) zero = refl
fillers (suc n) (suc i) = fillers n i

kept_at : (ts : List Token) (i : ℕ) → i < kept → i < length ts → get_or (first_kept ts) i filler ≡ get_or ts i filler
unfolding first_kept
kept_at ts i h l = get_or-append (take kept ts) (replicate (kept - length ts) filler) filler i (omega (arith, length-take kept ts)) ∙ get_or-take kept ts i filler h

kept-filled : (ts : List Token) (i : ℕ) → length (take kept ts) ≤ i → get_or (first_kept ts) i filler ≡ filler
unfolding first_kept
kept-filled ts i h =
    let e : i ≡ length (take kept ts) + (i - length (take kept ts)) = omega arith in
    ap (λ (x : ℕ). get_or (take kept ts ++ replicate (kept - length ts) filler) x filler) e
    ∙ get_or-append-add (take kept ts) (replicate (kept - length ts) filler) (i - length (take kept ts)) filler ∙ fillers (kept - length ts) (i - length (take kept ts))

-- A token more, where there is a place for it, and where there is none.
kept-stored : (ts : List Token) (n : ℕ) (t : Token) → n ≡ length ts → n < kept → set (first_kept ts) n t ≡ first_kept (ts ++ (t ∷ []))
unfolding first_kept
kept-stored ts n t e h =
    let m : kept - length ts ≡ suc (kept - 1 - length ts) = omega arith in
    let k : length (ts ++ (t ∷ [])) ≡ suc (length ts) = omega (arith, length-append ts (t ∷ [])) in
    let j : kept - suc (length ts) ≡ kept - 1 - length ts = omega arith in
    rw (m, k, j, take_all kept ts (omega arith), take_all kept (ts ++ (t ∷ [])) (omega arith), append_assoc ts (t ∷ []) (replicate (kept - 1 - length ts) filler))
    (set_at ts filler (replicate (kept - 1 - length ts) filler) t n (sym e))

kept_full : (ts : List Token) (t : Token) → kept ≤ length ts → first_kept ts ≡ first_kept (ts ++ (t ∷ []))
unfolding first_kept
kept_full ts t h =
    let m : kept - length ts ≡ 0 = omega arith in
    let k : kept - length (ts ++ (t ∷ [])) ≡ 0 = omega (arith, length-append ts (t ∷ [])) in
    rw (m, k, take-append-le kept ts (t ∷ []) h)

-- ---- what a record says of its line

-- The record that a line's record means; none: a bad token.
abbrev pub line_meant : List ℕ → Answer Line Refusal → Option Record
line_meant s (Ok l) = some (record { count = l.count; first = firsts s l.tokens l.count })
line_meant s (Err e) = none

map-take : (s : List ℕ) (n : ℕ) (ts : List Token) → map (meant s) (take n ts) ≡ take n (map (meant s) ts)
map-take s zero ts = refl
map-take s (suc n) [] = refl
map-take s (suc n) (t ∷ ts) = ap (λ (x : List Meant). meant s t ∷ x) (map-take s n ts)

firsts-kept : (s : List ℕ) (ts : List Token) → firsts s (first_kept ts) (length ts) ≡ take kept (map (meant s) ts)
unfolding first_kept
firsts-kept s ts =
    split (length ts) kept
    (λ h. let a = take_all kept ts (omega arith) in
    rw (a, take-append_seam ts (replicate (kept - length ts) filler), take_all kept (map (meant s) ts) (rw (length-map ts (meant s)) (omega arith))))
    (λ h. let m : kept - length ts ≡ 0 = omega arith in
    rw (m, append-nil (take kept ts), take_all (length ts) (take kept ts) (omega (arith, length-take kept ts))) (map-take s kept ts))

record-means : (s : List ℕ) (from : ℕ) (o : Option (List Token)) → record_of (meant_all s o) ≡ line_meant s (line_with s from o)
unfolding record_of meant_all line_of
record-means s from none = refl
record-means s from (some ts) = rw (length-map ts (meant s), firsts-kept s ts)

-- After the margin no blank stands.
no_blank : (s : List ℕ) (from at : ℕ) → at ≡ from + run margin (drop from s) → run blank (drop at s) ≡ 0
no_blank s from at q =
    split at (length s)
    (λ l. let g : get_or (drop from s) (run margin (drop from s)) 0 ≡ get_or s at 0 = get_or-drop from s (run margin (drop from s)) 0 ∙ ap (λ (x : ℕ). get_or s x 0) (sym q) in
    let m : margin (get_or s at 0) ≡ false = rw (← g) (run-stop margin (drop from s) (rw (length-drop from s) (omega arith))) in
    run-no blank s at l (not-true (blank (get_or s at 0)) (λ e. no_both (blank-margin (get_or s at 0) e) m)))
    (λ l. run_end blank s at l)

-- Where the tokens begin: after the line's margin.
abbrev begin : List ℕ → ℕ → ℕ
begin s from = from + run margin (drop from s)

-- ---- tokens that are read, and those to come

joined : List Token → Option (List Token) → Option (List Token)
joined ds none = none
joined ds (some ts) = some (ds ++ ts)

joined-none : (o : Option (List Token)) → o ≡ joined [] o
unfolding joined
joined-none none = refl
joined-none (some ts) = refl

joined-more : (ds : List Token) (t : Token) (o : Option (List Token)) → joined ds (infront_of t o) ≡ joined (ds ++ (t ∷ [])) o
unfolding joined
joined-more ds t none = refl
joined-more ds t (some ts) = rw (append_assoc ds (t ∷ []) ts)

-- Where the tokens of a line's record stand.
pub record PlacedIn (s : List ℕ) (from : ℕ) (l : Line) : Type 0 where
  -- where the line ends
  pub ends : l.end ≡ end_at s from
  -- the first token begins where the line's content does
  pub begins : 0 < l.count → (get_or l.tokens 0 filler).start ≡ from + indent (rest_at s from)
  pub places : length l.tokens ≡ kept
  -- each token is a part of the text, and each that is kept takes a byte at least
  pub inside_text : (i : ℕ) → (get_or l.tokens i filler).start + (get_or l.tokens i filler).length ≤ length s
  pub solid : (i : ℕ) → i < kept → i < l.count → 0 < (get_or l.tokens i filler).length

-- Without one a token is bad.
abbrev pub Placed : List ℕ → ℕ → Answer Line Refusal → Type 0
Placed s from (Ok l) = PlacedIn s from l
Placed s from (Err e) = e ≡ BadToken

-- ---- by any set of names

module _ (names : List Name) where
  -- ---- what a record says of its line

  -- What the record of a line has to say.
  pub record LineRead (s : List ℕ) (from : ℕ) (r : Answer Line Refusal) : Type 0 where
    pub means : read_line names (rest_at s from) ≡ line_meant s r
    pub places : Placed s from r

  line-with : (s : List ℕ) (from : ℕ) (o : Option (List Token)) → AllParts s o → FirstAt (begin s from) o
      → read_line names (rest_at s from) ≡ record_of (meant_all s o) → LineRead s from (line_with s from o)
  unfolding AllParts FirstAt
  line-with s from none p f e = record { means = e ∙ record-means s from none; places = refl }
  line-with s from (some ts) p f e =
      record {
        means = e ∙ record-means s from (some ts);
        places = record {
          ends = refl;
          begins = λ h. ap (λ (t : Token). t.start) (kept_at ts 0 (omega arith) h) ∙ first ts f h ∙ ap (λ (x : ℕ). from + x) (sym (indent-at s from));
          places = length-kept ts;
          inside_text = λ i. split i (length (take kept ts))
              (λ l. let n = length-take kept ts in rw (kept_at ts i (omega arith) (omega arith)) (part_at s ts i p (omega arith)).1)
              (λ l. rw (kept-filled ts i l) (omega arith));
          solid = λ i h k. rw (kept_at ts i h k) (part_at s ts i p k).0;
        };
      }
    where
      first : (us : List Token) → FirstAt (begin s from) (some us) → 0 < length us → (get_or us 0 filler).start ≡ begin s from
      first [] g h = absurd (omega arith)
      first (t ∷ us) g h = g

  -- ---- where tokens stand

  -- A token stands at a place of a line: from there on the line reads as it and those after it.
  record Stands (s : List ℕ) (from : ℕ) (t : Token) (ts : List Token) : Type 0 where
    no_earlier : from ≤ t.start
    means : tokens names (left_at s t.start) ≡ some (meant s t ∷ map (meant s) ts)
    uncut : Uncut s from t.start
    ends : end_at s t.start ≡ end_at s from

  AllStand : List ℕ → ℕ → List Token → Type 0
  AllStand s from [] = Unit {0}
  AllStand s from (t ∷ ts) = Stands s from t ts × AllStand s from ts

  AllStandIf : List ℕ → ℕ → Option (List Token) → Type 0
  AllStandIf s from none = Unit {0}
  AllStandIf s from (some ts) = AllStand s from ts

  -- from a place before on the line too
  stand-before : (s : List ℕ) (from at : ℕ) (ts : List Token) → from ≤ at → Uncut s from at → end_at s at ≡ end_at s from → AllStand s at ts → AllStand s from ts
  unfolding AllStand
  stand-before s from at [] l u e h = tt
  stand-before s from at (t ∷ ts) l u e (p, h) = (
    record { no_earlier = omega (arith, p.no_earlier); means = p.means; uncut = uncut_on s from at t.start u p.uncut; ends = p.ends ∙ e },
    stand-before s from at ts l u e h,
  )

  -- The last one alone is what the line reads as from its place on.
  pub record StandsLast (s : List ℕ) (from : ℕ) (t : Token) : Type 0 where
    pub no_earlier : from ≤ t.start
    pub means : tokens names (left_at s t.start) ≡ some (meant s t ∷ [])
    pub uncut : Uncut s from t.start
    pub ends : end_at s t.start ≡ end_at s from

  last-stands : (s : List ℕ) (from : ℕ) (ts : List Token) → 0 < length ts → AllStand s from ts → StandsLast s from (get_or ts (length ts - 1) filler)
  unfolding AllStand
  last-stands s from [] l h = absurd (omega arith)
  last-stands s from (t ∷ []) l (p, h) = record { no_earlier = p.no_earlier; means = p.means; uncut = p.uncut; ends = p.ends }
  last-stands s from (t ∷ u ∷ ts) l (p, h) =
      let e : suc (suc (length ts)) - 1 ≡ suc (suc (length ts) - 1) = omega arith in rw e (last-stands s from (u ∷ ts) (omega arith) h)

  -- The last token of a record that keeps all of them.
  abbrev LastStands : List ℕ → ℕ → Answer Line Refusal → Type 0
  LastStands s from (Ok l) = 0 < l.count → l.count ≤ kept → StandsLast s from (get_or l.tokens (l.count - 1) filler)
  LastStands s from (Err e) = Unit {0}

  last-with : (s : List ℕ) (from : ℕ) (o : Option (List Token)) → AllStandIf s from o → LastStands s from (line_with s from o)
  unfolding AllStandIf
  last-with s from none h = tt
  last-with s from (some ts) h = λ l k. rw (kept_at ts (length ts - 1) (omega arith) (omega arith)) (last-stands s from ts l h)

  -- ---- the loop

  -- The state of the loop, after `count` tokens, at the place `at`.
  pub record Reading (s : List ℕ) (from : ℕ) (ts : List Token) (count at : ℕ) : Type 0 where
    pub place : at ≤ length s
    pub few : count ≤ at
    read : List Token
    keeps : ts ≡ first_kept read
    counts : count ≡ length read
    all : all_from names s (begin s from) ≡ joined read (tokens_from names (suc (length s) - count) s at)
    ends : end_at s at ≡ end_at s from

  pub reading-begin : (s : List ℕ) (from : ℕ) → StartsAt s from → Reading s from (replicate kept filler) 0 from
  unfolding first_kept
  reading-begin s from h =
      let b : begin s from ≡ from = omega (arith, indent-at s from, h.no_indent) in
      let n : suc (length s) - 0 ≡ suc (length s) = omega arith in
      record {
        place = h.in_text;
        few = omega arith;
        read = [];
        keeps = refl;
        counts = refl;
        all = rw (n, b) (joined-none (all_from names s from));
        ends = refl;
      }

  module _ (ok : Naming names) where
    -- ---- the tokens of a line

    -- The tokens that are found one after the other are those that are read of the line.
    tokens-from : (n : ℕ) (s : List ℕ) (at : ℕ) → length s < n + at → tokens names (left_at s at) ≡ meant_all s (tokens_from names n s at)
    unfolding tokens_from meant_all
    tokens-from zero s at h = none_read names s at (past_end s at (omega arith))
    tokens-from (suc n) s at h = go (scan_at names s at) (stepped names ok s at (scan_at names s at) refl) (λ next l. tokens-from n s next (omega arith))
      where
        go : (r : Scan) → Stepped names s at r → ((next : ℕ) → at < next → tokens names (left_at s next) ≡ meant_all s (tokens_from names n s next))
            → tokens names (left_at s at) ≡ meant_all s (followed r (tokens_from names n s))
        go (Found t next) p f = p.means ∙ ap (infront (meant s t)) (f next p.leads.3) ∙ meant-infront s t (tokens_from names n s next)
        go Bad p f = p.means
        go (End stop) p f = p.means

    tokens-parts : (n : ℕ) (s : List ℕ) (at : ℕ) → AllParts s (tokens_from names n s at)
    unfolding tokens_from AllParts Parts
    tokens-parts zero s at = tt
    tokens-parts (suc n) s at = go (scan_at names s at) (stepped names ok s at (scan_at names s at) refl).leads (tokens-parts n s)
      where
        infront-parts : (t : Token) (o : Option (List Token)) → 0 < t.length → t.start + t.length ≤ length s → AllParts s o → AllParts s (infront_of t o)
        infront-parts t none p l h = tt
        infront-parts t (some ts) p l h = (p, l, h)

        go : (r : Scan) → Leads s at r → ((next : ℕ) → AllParts s (tokens_from names n s next)) → AllParts s (followed r (tokens_from names n s))
        go (Found t next) l f = infront-parts t (tokens_from names n s next) l.2 (omega (arith, l.1, l.4)) (f next)
        go Bad l f = tt
        go (End stop) l f = tt

    first-at : (n : ℕ) (s : List ℕ) (at : ℕ) → FirstAt (past s at) (tokens_from names n s at)
    unfolding tokens_from FirstAt
    first-at zero s at = tt
    first-at (suc n) s at = go (scan_at names s at) (stepped names ok s at (scan_at names s at) refl).leads
      where
        infront-first : (t : Token) (o : Option (List Token)) → t.start ≡ past s at → FirstAt (past s at) (infront_of t o)
        infront-first t none e = tt
        infront-first t (some ts) e = e

        go : (r : Scan) → Leads s at r → FirstAt (past s at) (followed r (tokens_from names n s))
        go (Found t next) l = infront-first t (tokens_from names n s next) l.0
        go Bad l = tt
        go (End stop) l = tt

    tokens-stand : (n : ℕ) (s : List ℕ) (at : ℕ) → length s < n + at → AllStandIf s at (tokens_from names n s at)
    unfolding tokens_from AllStandIf AllStand meant_all
    tokens-stand zero s at h = tt
    tokens-stand (suc n) s at h =
        go (scan_at names s at) refl (stepped names ok s at (scan_at names s at) refl).leads (tokens-from (suc n) s at h) (λ next l. tokens-stand n s next (omega arith))
      where
        infront-stands : (t : Token) (next : ℕ) (o : Option (List Token)) → Found t next ≡ scan_at names s at → Leads s at (Found t next) → tokens names (left_at s at) ≡ meant_all s (infront_of t o)
            → AllStandIf s next o → AllStandIf s at (infront_of t o)
        infront-stands t next none q l e f = tt
        infront-stands t next (some ts) q l e f =
            let (b, z, p, m, i, k) = l in (
              record {
                no_earlier = omega (arith, b);
                means = ap (λ (x : ℕ). tokens names (left_at s x)) b ∙ sym (blanks_at names s at) ∙ e;
                uncut = λ c m n. uncut names ok s at t next q c m (omega (arith, b));
                ends = ap (end_at s) b ∙ (run-within blank blank-inside s at (past s at) (omega arith) refl).2;
              },
              stand-before s at next ts (omega arith) (uncut names ok s at t next q) k f,
            )

        go : (r : Scan) → r ≡ scan_at names s at → Leads s at r → tokens names (left_at s at) ≡ meant_all s (followed r (tokens_from names n s))
            → ((next : ℕ) → at < next → AllStandIf s next (tokens_from names n s next)) → AllStandIf s at (followed r (tokens_from names n s))
        go (Found t next) q l e f = infront-stands t next (tokens_from names n s next) q l e (f next l.3)
        go Bad q l e f = tt
        go (End stop) q l e f = tt

    -- The record of the line from a place on says all of it.
    pub line_read_lem : (s : List ℕ) (from : ℕ) (r : Answer Line Refusal) → r ≡ record_at names s from → LineRead s from r
    unfolding read_line record_at
    line_read_lem s from r e =
        let at = begin s from in
        let p : past s at ≡ at = omega (arith, no_blank s from at refl) in
        rw e (line-with s from (all_from names s at) (tokens-parts (suc (length s)) s at) (rw p at (first-at (suc (length s)) s at))
        (ap record_of (ap (tokens names) (content-at s from) ∙ tokens-from (suc (length s)) s at (omega arith))))

    -- Where the last token stands of a line whose content starts at a place.
    pub last_token : {s : List ℕ} {from : ℕ} → StartsAt s from → {l : Line} → Ok l ≡ record_at names s from → 0 < l.count → l.count ≤ kept
        → StandsLast s from (get_or l.tokens (l.count - 1) filler)
    unfolding record_at
    last_token {s} {from} h {l} e = go (Ok l) e
      where
        go : (r : Answer Line Refusal) → r ≡ record_at names s from → LastStands s from r
        go r q =
            let b : begin s from ≡ from = omega (arith, indent-at s from, h.no_indent) in
            rw q (rw b (last-with s from (all_from names s from) (tokens-stand (suc (length s)) s from (omega arith))))

    module _ (s : List ℕ) (from : ℕ) (ts : List Token) (n at : ℕ) (r : Reading s from ts n at) where
      -- what is found next, and what is then left
      goes_on : (x : Scan) → x ≡ scan_at names s at → all_from names s (begin s from) ≡ joined r.read (followed x (tokens_from names (suc (length s) - (n + 1)) s))
      unfolding tokens_from
      goes_on x e =
          let m : suc (length s) - n ≡ suc (suc (length s) - (n + 1)) = omega (arith, r.few, r.place) in
          rw e (rw m at r.all)

      more : (us : List Token) (t : Token) (next : ℕ) → us ≡ first_kept (r.read ++ (t ∷ [])) → Found t next ≡ scan_at names s at → Reading s from us (n + 1) next
      more us t next k e =
          let (st, sz, p, f, l, end) = (stepped names ok s at _ e).leads in
          record {
            place = l;
            few = omega (arith, r.few);
            read = r.read ++ (t ∷ []);
            keeps = k;
            counts = omega (arith, r.counts, length-append r.read (t ∷ []));
            all = goes_on _ e ∙ joined-more r.read t (tokens_from names (suc (length s) - (n + 1)) s next);
            ends = end ∙ r.ends;
          }

      reading-store : (t : Token) (next : ℕ) → n < kept → Found t next ≡ scan_at names s at → Reading s from (set ts n t) (n + 1) next
      reading-store t next h e = more (set ts n t) t next (ap (λ (x : List Token). set x n t) r.keeps ∙ kept-stored r.read n t r.counts h) e

      reading-full : (t : Token) (next : ℕ) → kept ≤ n → Found t next ≡ scan_at names s at → Reading s from ts (n + 1) next
      reading-full t next h e = more ts t next (r.keeps ∙ kept_full r.read t (omega (arith, r.counts))) e

      -- The token is stored where there is room, and else counted only.
      pub reading-next : (t : Token) (next : ℕ) (us : List Token) → Found t next ≡ scan_at names s at → ((n < kept) × (us ≡ set ts n t)) ⊎ ((kept ≤ n) × (us ≡ ts))
          → Reading s from us (n + 1) next
      reading-next t next us e (inl (h, k)) = rw k (reading-store t next h e)
      reading-next t next us e (inr (h, k)) = rw k (reading-full t next h e)

      pub reading-end : (end : ℕ) → End end ≡ scan_at names s at → Ok (record { tokens = ts; count = n; end = end }) ≡ record_at names s from
      unfolding record_at joined
      reading-end end e =
          let z : end ≡ end_at s from = (stepped names ok s at _ e).leads r.place ∙ r.ends in
          rw (r.keeps, r.counts, z, goes_on _ e, append-nil r.read)

      pub reading-bad : Bad ≡ scan_at names s at → Err BadToken ≡ record_at names s from
      unfolding record_at joined
      reading-bad e = rw (goes_on _ e)
