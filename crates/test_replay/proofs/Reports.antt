-- Laws of texts that are put into a report, one after the other, and of a number's digits.
use Rattle.std.proofs.Common.{◌≡◌, ℕ, zero, suc, ◌+◌, ◌/◌, ◌%◌, ◌^◌, ◌<◌, ◌≤◌, min, List, [], ◌∷◌, ◌++◌, length, get_or, drop, set, sym, refl, ap, ◌∙◌, append_assoc, append-nil, add-zero, add-suc, suc-add, lt_of_not-le, add-one, arith, length-append, drop_of_length-le, length-take-le, take, ◌-◌, drop-cons, le-ltb, lt-ltb, ne_eqb}
use native.Mathlib.Nat.{min-eq_left, min-eq_right}
use native.Mathlib.Decide.{dec_le}
use lib.Seq.{sets, length-sets, set_out, drop-drop}
use borrow.Rule.Slice.PartMut.{put_mid}
use lib.ListN.{take-append-drop}
use Rattle.std.proofs.lemmas.List.Edits.{sets-eq}
use Rattle.std.specs.Fmt.{decimal as written}
use Rattle.std.proofs.lemmas.Fmt.{decimal_digit, decimal_step}
use Rattle.test_replay.specs.declared.report.Report.{Report}
use Rattle.test_replay.specs.Report.{decimal_in, decimal, filled, refusal_text, refusals_from, Put}

-- ---- a text in a room

-- Past the room's end nothing is put.
sets-out : (l : List ℕ) (at : ℕ) (s : List ℕ) → length l ≤ at → sets l at s ≡ l
sets-out l at [] h = refl
sets-out l at (b ∷ s) h = rw (set_out l at b h) (sets-out l (suc at) s (omega arith))

sets-append : (l : List ℕ) (at : ℕ) (s t : List ℕ) → sets l at (s ++ t) ≡ sets (sets l at s) (at + length s) t
sets-append l at [] t = rw (add-zero at)
sets-append l at (b ∷ s) t = rw (add-suc at (length s), ← suc-add at (length s)) (sets-append (set l at b) (suc at) s t)

module _ {old new : Report} {text : List ℕ} (p : Put old text new) where
  pub put-length : length new.room.now ≡ length old.room.now
  put-length = ap length p.holds ∙ length-sets old.room.now old.end text

  -- A text, and then another after it.
  pub put-append : {last : Report} {after : List ℕ} → Put new after last → Put old (text ++ after) last
  put-append {last} {after} q =
      let l = put-length in
      let a = length-append text after in
      let w = old.within in
      let room = old.room.now in
      elim (dec_le (old.end + length text) (length room)) [
        | yes h ↦
            let e : new.end ≡ old.end + length text = p.ends ∙ min-eq_left h in
            record {
              holds = q.holds ∙ rw (e, p.holds) (sym (sets-append room old.end text after));
              ends = q.ends ∙ rw (l, e) (ap (λ (n : ℕ). min n (length room)) (omega arith));
              same_room = q.same_room ∙ p.same_room;
            }
        | no h ↦
            let g = lt_of_not-le h in
            let e : new.end ≡ length room = p.ends ∙ min-eq_right (omega arith) in
            let r : last.room.now ≡ new.room.now = q.holds ∙ sets-out new.room.now new.end after (omega arith) in
            record {
              holds = r ∙ p.holds ∙ sym (sets-append room old.end text after ∙ sets-out (sets room old.end text) (old.end + length text) after (rw (length-sets room old.end text) (omega arith)));
              ends = q.ends ∙ rw (l, e) (min-eq_right (omega arith) ∙ sym (min-eq_right (omega arith)));
              same_room = q.same_room ∙ p.same_room;
            }
      ]

-- No text.
pub put-none : (r : Report) → Put r [] r
put-none r = record { holds = refl; ends = sym (rw (add-zero r.end) (min-eq_left r.within)); same_room = refl }

-- A report of a place past its room's end, as `Report::at` makes one.
pub put-past : (r : Report) (at : ℕ) (text : List ℕ) → r.end ≡ min at (length r.room.now) → length r.room.now ≤ at → Put r text r
put-past r at text e h = record { holds = sym (sets-out r.room.now r.end text (omega (arith, e))); ends = omega (arith, e); same_room = refl }

-- A text that was put into a report which `Report::at` made of a room and any place, past its end too: what the room then has, by room and
-- place, and where the text ends, within the room, said twice, as a use of the room's part up to there asks it.
pub placed : (room : List ℕ) (at : ℕ) (text : List ℕ) {made new : Report} → made.end ≡ min at (length room) → made.room.now ≡ room → Put made text new
    → (new.room.now ≡ sets room at text) × (new.end ≡ min (at + length text) (length room)) × (new.end ≤ length new.room.now)
    × (new.end ≡ length (take new.end new.room.now))
placed room at text {made} {new} e r p =
    let w = new.within in
    let part : new.end ≡ length (take new.end new.room.now) = sym (length-take-le new.end new.room.now w) in
    elim (dec_le at (length room)) [
      | yes h ↦
          let place : made.end ≡ at = e ∙ min-eq_left h in
          (rw (r, place) at p.holds, rw (r, place) at p.ends, w, part)
      | no h ↦
          let past = lt_of_not-le h in
          let place : made.end ≡ length room = e ∙ min-eq_right (omega arith) in
          let held : new.room.now ≡ sets room (length room) text = rw (r, place) at p.holds in
          let ended : new.end ≡ min (length room + length text) (length room) = rw (r, place) at p.ends in
          (held ∙ sets-out room (length room) text (omega arith) ∙ sym (sets-out room at text (omega arith)), omega (arith, ended), w, part)
    ]

-- As much of a text as there is room for, put as one part.
pub put_part : (old : List ℕ) (at n : ℕ) (text : List ℕ) → at ≤ length old → n ≡ min (length text) (length old - at)
    → (put_mid at n old (take n text) ≡ sets old at text) × (at + n ≡ min (at + length text) (length old))
put_part old at n text h e =
    let w : length (take n text) ≡ n = length-take-le n text (omega arith) in
    let t : sets old at text ≡ sets (sets old at (take n text)) (at + length (take n text)) (drop n text) =
    rw (take-append-drop n text) at (sets-append old at (take n text) (drop n text)) in
    let m : sets old at (take n text) ≡ put_mid at n old (take n text) =
    sets-eq (take n text) old at (omega arith) ∙ rw (w, ← drop-drop n at old, append_assoc (take at old) (take n text) (drop n (drop at old))) in
    let r : sets (sets old at (take n text)) (at + length (take n text)) (drop n text) ≡ sets old at (take n text) =
    elim (dec_le (length text) n) [
      | yes k ↦ rw (drop_of_length-le text k)
      | no k ↦ let g = lt_of_not-le k in sets-out (sets old at (take n text)) (at + length (take n text)) (drop n text) (rw (length-sets old at (take n text)) (omega arith))
    ] in
    (sym (t ∙ r ∙ m), omega arith)

-- ---- a number's digits

-- As many digits as the number takes.
digits_are : (j n : ℕ) → n ≤ j → n < 2 ^ 64 → written n ≡ decimal_in j n
unfolding decimal_in
digits_are zero n l h = decimal_digit n (omega arith) ∙ ap (λ d. (48 + d) ∷ []) (omega arith)
digits_are (suc j) n l h =
    elim (dec_le 10 n) [
      | yes g ↦ rw (decimal_in, le-ltb n 10 g) (decimal_step n g h ∙ ap (λ ds. ds ++ ((48 + n % 10) ∷ [])) (digits_are j (n / 10) (omega arith) (omega arith)))
      | no g ↦ let m = lt_of_not-le g in rw (decimal_in, lt-ltb n 10 m) (decimal_digit n m ∙ ap (λ d. (48 + d) ∷ []) (omega arith))
    ]

-- A number is written in decimal as the library writes it.
pub decimal-is : (n : ℕ) → n < 2 ^ 64 → written n ≡ decimal n
unfolding decimal
decimal-is n h = digits_are n n (omega arith) h

-- ---- a text that is put piece by piece

-- What is put, and what is left, are all of the text.
pub record Telling (old : Report) (text : List ℕ) (new : Report) (rest : List ℕ) : Type 0 where
  pub said : List ℕ
  pub is-put : Put old said new
  pub left : said ++ rest ≡ text

pub telling-none : (r : Report) (text : List ℕ) → Telling r text r text
telling-none r text = record { said = []; is-put = put-none r; left = refl }

module _ {old new : Report} {text rest : List ℕ} (l : Telling old text new rest) where
  pub telling-more : {next : Report} {s after : List ℕ} → rest ≡ s ++ after → Put new s next → Telling old text next after
  telling-more {s = s} {after} e p =
      record { said = l.said ++ s; is-put = put-append l.is-put p; left = append_assoc l.said s after ∙ rw e at l.left }

  pub telling-all : rest ≡ [] → Put old text new
  telling-all e = rw (sym (append-nil l.said) ∙ rw e at l.left) at l.is-put

-- ---- the lines of refusals

module _ (counts : List ℕ) (number : ℕ) where
  pub refusals-more : number < length counts
      → refusals_from number (drop number counts) ≡ refusal_text number (get_or counts number 0) ++ refusals_from (number + 1) (drop (number + 1) counts)
  unfolding refusals_from
  refusals-more h = rw (add-one number, drop-cons counts number 0 h)

  pub refusals-none : length counts ≤ number → refusals_from number (drop number counts) ≡ []
  unfolding refusals_from
  refusals-none h = rw (drop_of_length-le counts h)

-- ---- a text that is filled with numbers

module _ (s : List ℕ) (i : ℕ) (h : i < length s) where
  pub filled-number : (ns : List ℕ) → 1 ≤ length ns → get_or s i 0 ≡ 35
      → filled (drop i s) ns ≡ decimal (get_or ns 0 0) ++ filled (drop (i + 1) s) (drop 1 ns)
  unfolding filled
  filled-number [] g e = absurd (omega arith)
  filled-number (n ∷ ns) g e = rw (add-one i, drop-cons s i 0 h, filled, e)

  pub filled-other : (ns : List ℕ) → (get_or s i 0 ≡ 35 → ⊥) → filled (drop i s) ns ≡ get_or s i 0 ∷ filled (drop (i + 1) s) ns
  unfolding filled
  filled-other [] e = rw (add-one i, drop-cons s i 0 h)
  filled-other (n ∷ ns) e = rw (add-one i, drop-cons s i 0 h, filled, ne_eqb (get_or s i 0) 35 e)

  pub filled-past : (ns : List ℕ) → length ns < 1 → filled (drop i s) ns ≡ get_or s i 0 ∷ filled (drop (i + 1) s) ns
  unfolding filled
  filled-past [] g = rw (add-one i, drop-cons s i 0 h)
  filled-past (n ∷ ns) g = absurd (omega arith)

pub filled_none : (s ns : List ℕ) (i : ℕ) → length s ≤ i → filled (drop i s) ns ≡ []
unfolding filled
filled_none s ns i h = rw (drop_of_length-le s h)
