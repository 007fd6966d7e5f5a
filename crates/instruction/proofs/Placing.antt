-- Where the places of a form put registers and number in a word: what is put there is read back, and a word is told by what is
-- read from it. Nothing here depends on which forms there are; that the forms of the table are well laid is one computed test.
use mathlib.Core.Path.{subst, ◌≡◌, refl, sym, ap, ◌∙◌}
use Prim.Native.Nat.{ℕ, zero, suc, ◌+◌, ◌*◌, ◌%◌, ◌^◌, ◌≤◌, ◌<◌}
use native.Mathlib.Nat.{add_assoc, add-zero, lt_of_lt_of_le, mod-eq_of_lt}
use native.Mathlib.Omega.{arith}
use mathlib.Core.Bool.{Bool, true, false, not, ◌&&◌, and-eq-true_iff}
use mathlib.Core.Option.{Option, none, some}
use mathlib.Core.List.{List, [], ◌∷◌}
use lib.ListN.{length}
use lib.Dec.{leb, eqb}
use lib.IntN.{ℤ}
use lib.Pow.{pow_pos, pow_mono}
use borrow.Author.Tests.{leb-true, eqb-true, eq-eqb, not-true}
use Rattle.text_lexical.specs.Bytes.{between, is_some, each}
use Rattle.text_lexical.specs.Numbers.{residue, meant_by}
use Rattle.text_lexical.proofs.Tests.{by-test, both, and_both, between-true}
use Rattle.text_lexical.proofs.Numbers.{residue-lt, residue-meant}
use Rattle.instruction.specs.Table.{Place, reg, num, mark, places, Row, row, table}
use Rattle.instruction.specs.Words.{reduced, fields, field_at, registers_in, number_in, unused_from}
use Rattle.instruction.specs.Fits.{InTable, places_of, Regs, number_range, has_number, reduced_in}
use Rattle.instruction.proofs.Fields.{disjoint, disjoint-sym, field_lt, field-empty, put-read, put_other, put-bound, field-up}
use Rattle.instruction.proofs.Rows.{carried, row-facts}
use Rattle.instruction.proofs.Results.{nothing, each_both}

-- ---- what is read from a word

-- A number, where there is a place for one.
pub read_number_lem : (w : ℕ) (ps : List Place) → is_some (number_in w ps) ≡ has_number ps
unfolding is_some number_in number_range has_number
read_number_lem w [] = refl
read_number_lem w (num bit width signed ∷ ps) = refl
read_number_lem w (reg bit ∷ ps) = read_number_lem w ps
read_number_lem w (mark m ∷ ps) = read_number_lem w ps

-- Registers that fit.
pub read-registers : (w : ℕ) (ps : List Place) → Regs ps (registers_in w ps)
unfolding Regs registers_in
read-registers w [] = tt
read-registers w (reg bit ∷ ps) = (field_lt w bit 4, read-registers w ps)
read-registers w (num bit width signed ∷ ps) = read-registers w ps
read-registers w (mark m ∷ ps) = read-registers w ps

-- A number that is read is reduced already.
pub read-reduced : (w : ℕ) (ps : List Place) → reduced_in (number_range ps) (number_in w ps) ≡ number_in w ps
unfolding number_range reduced_in reduced number_in
read-reduced w [] = refl
read-reduced w (num bit width signed ∷ ps) = rw (residue-meant signed width _ (field_lt w bit width))
read-reduced w (reg bit ∷ ps) = read-reduced w ps
read-reduced w (mark m ∷ ps) = read-reduced w ps

-- ---- tests on the fields of places

-- A test on the bit and the width of a place's field; a mark has none.
at_field : (ℕ → ℕ → Bool) → Place → Bool
at_field q (reg bit) = q bit 4
at_field q (num bit width signed) = q bit width
at_field q (mark m) = true

fields-both : (f g h : ℕ → ℕ → Bool) → ((b k : ℕ) → f b k ≡ true → g b k ≡ true → h b k ≡ true)
    → (ps : List Place) → each (at_field f) ps ≡ true → each (at_field g) ps ≡ true → each (at_field h) ps ≡ true
unfolding at_field
fields-both f g h t = each_both (at_field f) (at_field g) (at_field h) go
  where
    go : (p : Place) → at_field f p ≡ true → at_field g p ≡ true → at_field h p ≡ true
    go (reg bit) = t bit 4
    go (num bit width signed) = t bit width
    go (mark m) = λ x y. refl

-- It has no bit in common with another field.
clear_of : ℕ → ℕ → Place → Bool
clear_of b k = at_field (λ b' k'. disjoint b' k' b k)

-- It ends at a bit or below.
ends_by : ℕ → Place → Bool
ends_by t = at_field (λ b k. leb (b + k) t)

-- A word has nothing in it.
empty_in : ℕ → Place → Bool
empty_in w = at_field (λ b k. eqb (field_at w b k) 0)

-- Two words have the same in it.
same_in : ℕ → ℕ → Place → Bool
same_in w w' = at_field (λ b k. eqb (field_at w b k) (field_at w' b k))

-- No two places have a bit in common.
separate : List Place → Bool
separate [] = true
separate (p ∷ ps) = elim (at_field (λ b k. each (clear_of b k) ps) p) [ true ↦ separate ps | false ↦ false ]

-- ---- what is put is read back

-- A reduced number is below the power of its width.
pub reduced-lt : (k : ℕ) (n : Option ℤ) → reduced k n < 2 ^ k
unfolding reduced
reduced-lt k none = pow_pos k
reduced-lt k (some z) = residue-lt k z

-- A word differs from another only in the fields of places: every other field is the same, and no bit above them is set.
abbrev Within : List Place → ℕ → ℕ → Type 0
Within ps x w =
    ((b k : ℕ) → each (clear_of b k) ps ≡ true → field_at w b k ≡ field_at x b k)
    × ((t : ℕ) → each (ends_by t) ps ≡ true → x < 2 ^ t → w < 2 ^ t)

-- A value is put in the first place's field: the other places are still empty, and what they get leaves the value as it is.
put : (x bit k v : ℕ) (signed : Bool) (ps : List Place) → v < 2 ^ k
    → separate (num bit k signed ∷ ps) ≡ true → each (empty_in x) (num bit k signed ∷ ps) ≡ true
    → (separate ps ≡ true) × (each (empty_in (x + v * 2 ^ bit)) ps ≡ true)
    × ((w : ℕ) → Within ps (x + v * 2 ^ bit) w → (field_at w bit k ≡ v) × Within (num bit k signed ∷ ps) x w)
unfolding separate each at_field clear_of ends_by empty_in
put x bit k v signed ps h s e =
    let (c, s) = both (each (clear_of bit k) ps) (separate ps) s in
    let (z, e) = both (eqb (field_at x bit k) 0) (each (empty_in x) ps) e in
    let z = eqb-true (field_at x bit k) 0 z in (
      s,
      fields-both _ _ _ (λ b' k' d y. eq-eqb _ 0 (put_other x bit k v z h b' k' (disjoint-sym b' k' bit k d) ∙ eqb-true _ 0 y)) ps c e,
      λ w (o, l). (
        o bit k c ∙ put-read x bit k v z h,
        (
          (λ b' k' d. let (d, ds) = both (disjoint bit k b' k') _ d in o b' k' ds ∙ put_other x bit k v z h b' k' d),
          (λ t d m. let (d, ds) = both (leb (bit + k) t) _ d in l t ds (put-bound x bit k v z h t (leb-true (bit + k) t d) m)),
        ),
      ),
    )

-- Registers and number, put where a word has nothing, are read back.
put_all : (ps : List Place) (rs : List ℕ) (n : Option ℤ) (x : ℕ) → separate ps ≡ true → each (empty_in x) ps ≡ true → Regs ps rs
    → (registers_in (x + fields ps rs n) ps ≡ rs) × (number_in (x + fields ps rs n) ps ≡ reduced_in (number_range ps) n) × (Within ps x (x + fields ps rs n))
unfolding separate each at_field clear_of ends_by empty_in Regs registers_in number_in number_range reduced_in fields
put_all [] [] n x s e f = (refl, refl, ((λ b k h. rw add-zero), (λ t h l. rw add-zero l)))
put_all [] (r ∷ rs) n x s e f = absurd f
put_all (reg bit ∷ ps) [] n x s e f = absurd f
put_all (reg bit ∷ ps) (r ∷ rs) n x s e f =
    let (s, e, back) = put x bit 4 r true ps f.0 s e in
    let (hr, hn, hw) = put_all ps rs n (x + r * 2 ^ bit) s e f.1 in
    let (v, w) = back _ hw in
    let P : ℕ → Type 0 = λ y. (registers_in y (reg bit ∷ ps) ≡ r ∷ rs) × (number_in y (reg bit ∷ ps) ≡ reduced_in (number_range (reg bit ∷ ps)) n)
    × Within (reg bit ∷ ps) x y in
    subst P (add_assoc x (r * 2 ^ bit) (fields ps rs n)) ((λ i. v i ∷ hr i), hn, w)
put_all (num bit width signed ∷ ps) rs n x s e f =
    let (s, e, back) = put x bit width (reduced width n) signed ps (reduced-lt width n) s e in
    let (hr, hn, hw) = put_all ps rs n (x + reduced width n * 2 ^ bit) s e f in
    let (v, w) = back _ hw in
    let P : ℕ → Type 0 = λ y. (registers_in y (num bit width signed ∷ ps) ≡ rs)
    × (number_in y (num bit width signed ∷ ps) ≡ reduced_in (number_range (num bit width signed ∷ ps)) n)
    × Within (num bit width signed ∷ ps) x y in
    subst P (add_assoc x (reduced width n * 2 ^ bit) (fields ps rs n)) (hr, (λ i. some (meant_by signed width (v i))), w)
put_all (mark m ∷ ps) rs n x s e f = put_all ps rs n x s e f

-- ---- what is read tells the word

-- At most one place is for a number.
unfoldable pub single : List Place → Bool
single [] = true
single (num bit width signed ∷ ps) = elim (not (has_number ps)) [ true ↦ single ps | false ↦ false ]
single (reg bit ∷ ps) = single ps
single (mark m ∷ ps) = single ps

-- The end of the place that begins at a bit, and that bit where none does.
end_from : ℕ → List Place → ℕ
end_from a [] = a
end_from a (reg bit ∷ ps) = elim (eqb bit a) [ true ↦ bit + 4 | false ↦ end_from a ps ]
end_from a (num bit width signed ∷ ps) = elim (eqb bit a) [ true ↦ bit + width | false ↦ end_from a ps ]
end_from a (mark m ∷ ps) = end_from a ps

-- How far up from a bit so many places leave no gap.
climb : ℕ → ℕ → List Place → ℕ
climb zero a ps = a
climb (suc n) a ps = climb n (end_from a ps) ps

-- No number is read where there is no place for one.
no_number : (w : ℕ) (ps : List Place) → has_number ps ≡ false → number_in w ps ≡ none
no_number w ps h = nothing (number_in w ps) (read_number_lem w ps ∙ h)

module _ (w w' : ℕ) where
  -- What is read the same from two words is the same in both.
  read_same : (ps : List Place) → single ps ≡ true → registers_in w ps ≡ registers_in w' ps → number_in w ps ≡ number_in w' ps → each (same_in w w') ps ≡ true
  unfolding single registers_in number_in each same_in at_field
  read_same [] o r n = refl
  read_same (reg bit ∷ ps) o r n =
      let f : field_at w bit 4 ≡ field_at w' bit 4 = cc in
      let t : registers_in w ps ≡ registers_in w' ps = cc in
      and_both _ (each (same_in w w') ps) (eq-eqb _ _ f) (read_same ps o t n)
  read_same (num bit width signed ∷ ps) o r n =
      let (l, o) = both (not (has_number ps)) (single ps) o in
      let h = not-true (has_number ps) l in
      let m : meant_by signed width (field_at w bit width) ≡ meant_by signed width (field_at w' bit width) = cc in
      let f = sym (residue-meant signed width _ (field_lt w bit width)) ∙ ap (residue width) m ∙ residue-meant signed width _ (field_lt w' bit width) in
      and_both _ (each (same_in w w') ps) (eq-eqb _ _ f) (read_same ps o r (no_number w ps h ∙ sym (no_number w' ps h)))
  read_same (mark m ∷ ps) o r n = read_same ps o r n

  -- They have the same bits below a bit.
  abbrev SameTo : ℕ → Type 0
  SameTo a = w % 2 ^ a ≡ w' % 2 ^ a

  same_from : (a bit k end : ℕ) → eqb (field_at w bit k) (field_at w' bit k) ≡ true → SameTo a → SameTo end
      → SameTo (elim (eqb bit a) [ true ↦ bit + k | false ↦ end ])
  same_from a bit k end f s t =
      by-test (eqb bit a) (λ e. rw e (field-up w w' bit k (rw (eqb-true bit a e) s) (eqb-true _ _ f))) (λ e. rw e t)

  same_end : (ps : List Place) (a : ℕ) → each (same_in w w') ps ≡ true → SameTo a → SameTo (end_from a ps)
  unfolding each same_in at_field end_from
  same_end [] a e s = s
  same_end (reg bit ∷ ps) a e s = let (f, e) = both _ (each (same_in w w') ps) e in same_from a bit 4 (end_from a ps) f s (same_end ps a e s)
  same_end (num bit width signed ∷ ps) a e s = let (f, e) = both _ (each (same_in w w') ps) e in same_from a bit width (end_from a ps) f s (same_end ps a e s)
  same_end (mark m ∷ ps) a e s = same_end ps a e s

  same-climb : (n a : ℕ) (ps : List Place) → each (same_in w w') ps ≡ true → SameTo a → SameTo (climb n a ps)
  unfolding climb
  same-climb zero a ps e s = s
  same-climb (suc n) a ps e s = same-climb n (end_from a ps) ps e (same_end ps a e s)

-- ---- the places of the table's forms

-- Their fields lie above the opcode, have no bit in common, hold one number at most, and leave no gap below the unused bits of 32.
well_laid : List Place → Bool
well_laid ps =
    each (clear_of 0 7) ps && (separate ps && (single ps && (each (ends_by (unused_from ps)) ps
    && (between 7 32 (unused_from ps) && eqb (climb (length ps) 7 ps) (unused_from ps)))))

table-laid : each (λ r. well_laid (places_of r)) table ≡ true
unfolding each well_laid places table row clear_of at_field disjoint separate single is_some number_range has_number ends_by unused_from between climb end_from
table-laid = refl

record Layout (ps : List Place) : Type 0 where
  above : each (clear_of 0 7) ps ≡ true
  apart : separate ps ≡ true
  one : single ps ≡ true
  ends : each (ends_by (unused_from ps)) ps ≡ true
  least : 7 ≤ unused_from ps
  most : unused_from ps ≤ 32
  full : climb (length ps) 7 ps ≡ unused_from ps

layout : (r : Row) → InTable r → Layout (places_of r)
unfolding well_laid
layout r h =
    let ps = places_of r in
    let (a, k) = (and-eq-true_iff (each (clear_of 0 7) ps) _).0 (carried (λ r. well_laid (places_of r)) table-laid r h) in
    let (s, k) = (and-eq-true_iff (separate ps) _).0 k in
    let (o, k) = (and-eq-true_iff (single ps) _).0 k in
    let (e, k) = (and-eq-true_iff (each (ends_by (unused_from ps)) ps) _).0 k in
    let (b, f) = (and-eq-true_iff (between 7 32 (unused_from ps)) _).0 k in
    let (l, m) = between-true 7 32 (unused_from ps) b in
    record { above = a; apart = s; one = o; ends = e; least = l; most = m; full = eqb-true _ _ f }

module _ (r : Row) (h : InTable r) where
  -- Bits above 31 are unused.
  pub unused-most : unused_from (places_of r) ≤ 32
  unused-most = (layout r h).most

  -- At most one place is for a number.
  pub one-number : single (places_of r) ≡ true
  one-number = (layout r h).one

  -- What is read from a word: the row's opcode, registers, a number as its field keeps it, and no unused bit set.
  pub record Placed (rs : List ℕ) (n : Option ℤ) (w : ℕ) : Type 0 where
    pub opcode : w % 128 ≡ r.opcode
    pub unused : w < 2 ^ unused_from (places_of r)
    pub registers : registers_in w (places_of r) ≡ rs
    pub number : number_in w (places_of r) ≡ reduced_in (number_range (places_of r)) n

  -- It is read from the word that the opcode, the registers and the number make.
  pub placed : (rs : List ℕ) (n : Option ℤ) → Regs (places_of r) rs → Placed rs n (r.opcode + fields (places_of r) rs n)
  unfolding clear_of empty_in field_at
  placed rs n f =
      let ps = places_of r in
      let l = layout r h in
      let c = (row-facts r h).small in
      let e = fields-both _ _ _ (λ b k d d'. eq-eqb _ _ (field-empty r.opcode 7 b k c d)) ps l.above l.above in
      let (hr, hn, w) = put_all ps rs n r.opcode l.apart e f in
      record {
        opcode = let z = w.0 0 7 l.above in omega arith;
        unused = w.1 (unused_from ps) l.ends (lt_of_lt_of_le c (pow_mono l.least));
        registers = hr;
        number = hn;
      }

  -- Two words with the same opcode, registers and number, and no unused bit set, are the same.
  pub placed-tells : (w w' : ℕ) → w < 2 ^ unused_from (places_of r) → w' < 2 ^ unused_from (places_of r) → w % 128 ≡ w' % 128
      → registers_in w (places_of r) ≡ registers_in w' (places_of r) → number_in w (places_of r) ≡ number_in w' (places_of r) → w ≡ w'
  placed-tells w w' l l' o hr hn =
      let ps = places_of r in
      let m = layout r h in
      let c = same-climb w w' (length ps) 7 ps (read_same w w' ps m.one hr hn) o in
      sym (mod-eq_of_lt l) ∙ (rw m.full at c) ∙ mod-eq_of_lt l'
