-- Bytes packed into a key, one after the other, and the word at a place, whose bytes are packed while its end is looked for.
use Prim.Native.Nat.{ℕ, suc, ◌+◌, ◌-◌, ◌*◌, ◌^◌, ◌≤◌, ◌<◌}
use mathlib.Core.Path.{◌≡◌, refl, sym, ap, ◌∙◌}
use native.Mathlib.Nat.{pow-suc, pow-le-pow_right, mul-add, mul_assoc, mul_comm, mul-le-mul_right}
use native.Mathlib.Omega.{arith}
use mathlib.Core.Bool.{true, false}
use mathlib.Core.List.{List, [], ◌∷◌, ◌++◌, map, map-append}
use lib.ListN.{length, take, drop, get_or, length-map, length-take, length-drop, length-append}
use lib.Seq.{drop-drop}
use Rattle.std.specs.Prelude.{Some, None}
use Rattle.text_lexical.specs.Bytes.{name_part, lower, every, before, run}
use Rattle.text_lexical.specs.Promised.{packed, key_of, name_key}
use Rattle.text_lexical.specs.Words.{Roomy, with_byte, part, WordIs}
use Rattle.text_lexical.specs.declared.name.Packed.{Packed}
use Rattle.text_lexical.specs.declared.name.Word.{Word}
use Rattle.text_lexical.proofs.Tests.{split}
use Rattle.text_lexical.proofs.Strings.{every_append, every-cons, every-run, take-run, past-run, run-le, run_past, run-yes, run-no, run_end, part-more}
use Rattle.text_lexical.proofs.Keys.{key-short, key-long, lower-below}

-- ---- packing

packed-after : (u : List ℕ) (b : ℕ) → packed (u ++ (b ∷ [])) + 256 ^ length u ≡ packed u + 256 ^ length u * (b + 256)
unfolding packed
packed-after [] b = omega arith
packed-after (x ∷ u) b =
    let e = packed-after u b in
    let a : 256 * 256 ^ length u * (b + 256) ≡ 256 * (256 ^ length u * (b + 256)) = mul_assoc 256 (256 ^ length u) (b + 256) in
    rw (pow-suc 256 (length u)) (omega arith)

-- A byte times the scale.
pub product_small : (b scale : ℕ) → b < 256 → b * scale ≤ 255 * scale
product_small b scale h = mul-le-mul_right scale (omega arith)

-- These bytes are packed.
pub record Packs (u : List ℕ) (p : Packed) : Type 0 where
  scale-is : p.scale ≡ 256 ^ length u
  key_is : p.sum + p.scale ≡ packed u
  small : p.sum < p.scale

module _ {u : List ℕ} {p : Packed} (q : Packs u p) where
  scale-within : (n : ℕ) → length u ≤ n → p.scale ≤ 256 ^ n
  scale-within n h = rw q.scale-is (pow-le-pow_right {n = 256} (omega arith) h)

  pub packs-room : length u < 7 → Roomy p
  packs-room h = record { summed = q.small; scaled = scale-within 6 (omega arith) }

  pub packs-fit : length u ≤ 7 → p.sum + p.scale < 2 ^ 64
  packs-fit h = omega (arith, scale-within 7 h, q.small)

  pub packs-key : length u ≤ 7 → Some (p.sum + p.scale) ≡ key_of u
  packs-key h = ap Some q.key_is ∙ sym (key-short u h)

  packs-more : (b : ℕ) → b < 256 → Packs (u ++ (b ∷ [])) (with_byte p b)
  packs-more b h =
      let e : packed (u ++ (b ∷ [])) + p.scale ≡ packed u + p.scale * (b + 256) = rw q.scale-is (packed-after u b) in
      let d : p.scale * (b + 256) ≡ b * p.scale + p.scale * 256 = mul-add p.scale b 256 ∙ ap (λ (x : ℕ). x + p.scale * 256) (mul_comm p.scale b) in
      let n : length (u ++ (b ∷ [])) ≡ suc (length u) = rw (length-append u (b ∷ [])) (omega arith) in
      record {
        scale-is = rw (n, pow-suc 256 (length u), ← q.scale-is) (omega arith);
        key_is = omega (arith, e, d, q.key_is);
        small = omega (arith, q.small, product_small b p.scale h);
      }

-- ---- the bytes from one place to another, in lower case

pub length_part : (s : List ℕ) (at i : ℕ) → at ≤ i → i ≤ length s → length (map lower (part s at (i - at))) ≡ i - at
length_part s at i h l = rw (length-map (part s at (i - at)) lower, length-take (i - at) (drop at s), length-drop at s) (omega arith)

-- They are packed.
pub record Spelling (s : List ℕ) (at : ℕ) (p : Packed) (i : ℕ) : Type 0 where
  pub on : at ≤ i
  pub in_text : i ≤ length s
  pub few : i ≤ at + 7
  packs : Packs (map lower (part s at (i - at))) p

pub spelling-begin : (s : List ℕ) (at : ℕ) → at ≤ length s → Spelling s at (record { sum = 0; scale = 1 }) at
unfolding packed
spelling-begin s at h =
    let z : at - at ≡ 0 = omega arith in
    record { on = omega arith; in_text = h; few = omega arith; packs = rw z (record { scale-is = refl; key_is = refl; small = omega arith }) }

module _ {s : List ℕ} {at : ℕ} {p : Packed} {i : ℕ} (q : Spelling s at p i) where
  size : length (map lower (part s at (i - at))) ≡ i - at
  size = length_part s at i q.on q.in_text

  pub spelling-room : i - at < 7 → Roomy p
  spelling-room h = packs-room q.packs (omega (arith, size))

  pub spelling-fits : p.sum + p.scale < 2 ^ 64
  spelling-fits = packs-fit q.packs (omega (arith, size, q.few, q.on))

  pub spelling-key : Some (p.sum + p.scale) ≡ key_of (map lower (part s at (i - at)))
  spelling-key = packs-key q.packs (omega (arith, size, q.few, q.on))

  pub spelling-more : i < length s → i - at < 7 → get_or s i 0 < 256 → Spelling s at (with_byte p (lower (get_or s i 0))) (i + 1)
  spelling-more l k b =
      record {
        on = omega (arith, q.on);
        in_text = omega arith;
        few = omega (arith, q.on);
        packs = rw (part-more s at i q.on l, map-append lower (part s at (i - at)) (get_or s i 0 ∷ [])) (packs-more q.packs (lower (get_or s i 0)) (lower-below (get_or s i 0) b));
      }

  -- ---- the bytes of a word so far

  pub parts_more : i < length s → every name_part (part s at (i - at)) ≡ true → name_part (get_or s i 0) ≡ true → every name_part (part s at (i + 1 - at)) ≡ true
  unfolding every
  parts_more l e h = rw (part-more s at i q.on l) (every_append name_part (part s at (i - at)) (get_or s i 0 ∷ []) e (every-cons name_part (get_or s i 0) [] h refl))

  module _ (parts : every name_part (part s at (i - at)) ≡ true) where
    run_on : run name_part (drop at s) ≡ i - at + run name_part (drop i s)
    run_on =
        let m : at + (i - at) ≡ i = omega (arith, q.on) in
        rw (drop-drop (i - at) at s, m) at (run_past name_part (i - at) (drop at s) (omega (arith, length-drop at s, q.on, q.in_text)) parts)

    -- The word ends.
    pub word-ends : (i < length s → name_part (get_or s i 0) ≡ false) → WordIs s at (record { key = Some (p.sum + p.scale); end = i })
    word-ends g =
        let z : run name_part (drop i s) ≡ 0 = split i (length s) (λ l. run-no name_part s i l (g l)) (λ l. run_end name_part s i l) in
        record { ends = omega (arith, run_on, z, q.on); key_is = spelling-key }

    -- It goes on after seven bytes.
    pub word-long : (end : ℕ) → i < length s → 7 ≤ i - at → name_part (get_or s i 0) ≡ true → end ≡ i + run name_part (drop i s) → WordIs s at (record { key = None; end = end })
    word-long end l k h e =
        let more = run-yes name_part s i l h in
        let m : end ≤ length s = omega (arith, run-le name_part (drop i s), length-drop i s) in
        record {
          ends = omega (arith, run_on, q.on);
          key_is = sym (key-long (map lower (part s at (end - at))) (omega (arith, length_part s at end (omega (arith, q.on)) m)));
        }

-- ---- the key of a name

take_whole : (s : List ℕ) → take (length s) s ≡ s
take_whole [] = refl
take_whole (b ∷ s) = ap (λ (x : List ℕ). b ∷ x) (take_whole s)

module _ (s : List ℕ) (w : Word) (q : WordIs s 0 w) where
  -- Where the word at its front is not all of a spelling, a byte of this is no part of a name.
  pub no_name : w.end < length s → None ≡ name_key s
  unfolding name_key
  no_name h =
      let e : every name_part s ≡ false = rw (take_whole s) at (past-run name_part s (length s) (omega (arith, q.ends)) (omega arith)) in
      rw (name_key, e) refl

  pub whole_name : length s ≤ w.end → w.key ≡ name_key s
  unfolding name_key
  whole_name h =
      let n : run name_part s ≡ length s = omega (arith, q.ends, run-le name_part s) in
      let b : before name_part s ≡ s = sym (take-run name_part s) ∙ ap (λ j. take j s) n ∙ take_whole s in
      let e : every name_part s ≡ true = rw b at (every-run name_part s) in
      let k : w.end - 0 ≡ length s = omega (arith, q.ends) in
      let m : w.key ≡ key_of (map lower (take (w.end - 0) s)) = q.key_is in
      rw (name_key, e) (m ∙ ap (λ j. key_of (map lower (take j s))) k ∙ ap (λ x. key_of (map lower x)) (take_whole s))
