-- What a line is refused for: a test that each number of one list passes is passed by the number of every line that is refused, and what
-- holds of 33 and 34 holds of a line that names a label which it does not reach. The walks take from it that such a number is a refusal's,
-- and the guarantees that it is one of those that they list.
use mathlib.Core.Path.{◌≡◌, refl, sym, subst}
use mathlib.Core.Bool.{true≢false}
use borrow.Author.Tests.{eqb-true}
use Rattle.std.specs.Prelude.{ℕ, suc, ◌+◌, ◌-◌, ◌%◌, ◌^◌, Bool, true, false, List, [], ◌∷◌, map, length, drop, ltb, eqb, nat_abs}
use Rattle.std.proofs.Math.Option.{Option, none, some}
use Rattle.text_lexical.specs.Bytes.{Result, value, refused, between, same, lower, each}
use Rattle.text_lexical.specs.Numbers.{NumberRange, lies_in}
use Rattle.text_lexical.proofs.Tests.{both}
use Rattle.text_lexical.proofs.Tests.{by-test as cases}
use Rattle.text.specs.Tokens.{Token, register, number, hex, binary}
use Rattle.text.specs.Values.{read_decimal, read_pattern, read_number}
use Rattle.text.specs.Lines.{Line}
use Rattle.instruction.specs.Table.{Place, reg, num, mark, Separator, a-comma, an-opening, a-closing, Form, places, Row, row_named}
use Rattle.instruction.specs.Operands.{Amount, exactly, to, DraftOperands, Draft, takes_label, read_identifier, read_register, read_exactly, read_amount, read_place, read_operands, mark_byte, separator_byte, separator_refusal, with_register, with_amount, made, read_row, read_mnemonic, read_instruction, behind}
use Rattle.instruction.specs.Kinds.{Kind, empty, labelled, config, ignored, plain, kind_of}
use Rattle.image.specs.Settings.{Settings, settings_fault, set_field, checked, setting_range, configured_by, configured_with, configured, limb_bits_key, data_limbs_key, addr_limbs_key}
use Rattle.image.specs.Assembling.{Context, Effect, nothing, sets, codes, faulty, setting, coding, after_label, read_kind, read_on, Read, words_of, address_in, distance, in_reach, amount_fault, draft_fault, target_fault, Fault, first_fault, fault_in}

-- ---- an answer by cases: what holds of each holds of it

module _ {B : Type 0} (P : B → Type 0) where
  pub by-test : {x y : B} (b : Bool) → P x → P y → P (elim b [ true ↦ x | false ↦ y ])
  by-test true h k = h
  by-test false h k = k

  pub by-option : {A : Type 0} {x : B} {f : A → B} (o : Option A) → P x → ((a : A) → P (f a)) → P (elim o [ none ↦ x | some a ↦ f a ])
  by-option none h k = h
  by-option (some a) h k = k a

  by-list : {A : Type 0} {x : B} {f : A → List A → B} (l : List A) → P x → ((a : A) (rest : List A) → P (f a rest)) → P (elim l [ [] ↦ x | a ∷ rest ↦ f a rest ])
  by-list [] h k = h
  by-list (a ∷ rest) h k = k a rest

-- A refusal has a number of which something holds.
abbrev pub OfResult : {A : Type 0} → (ℕ → Type 0) → Result A → Type 0
OfResult P (value a) = Unit {0}
OfResult P (refused n) = P n

pub by_result : {A B : Type 0} (P : ℕ → Type 0) (Q : B → Type 0) {f : A → B} {g : ℕ → B} (x : Result A) → OfResult P x
    → ((a : A) → Q (f a)) → ((n : ℕ) → P n → Q (g n)) → Q (elim x [ value a ↦ f a | refused n ↦ g n ])
by_result P Q (value a) h k l = k a
by_result P Q (refused n) h k l = l n h

-- There may be a fault, of which something holds.
abbrev pub OfFault : {A : Type 0} → (A → Type 0) → Option A → Type 0
OfFault Q none = Unit {0}
OfFault Q (some a) = Q a

pub by-fault : {A B : Type 0} {Q : A → Type 0} (P : B → Type 0) {x : B} {f : A → B} (o : Option A) → OfFault Q o
    → P x → ((a : A) → Q a → P (f a)) → P (elim o [ none ↦ x | some a ↦ f a ])
by-fault P none q h k = h
by-fault P (some a) q h k = k a q

-- What a line does: if it is refused, something holds of the number.
abbrev pub OfEffect : (ℕ → Type 0) → Effect → Type 0
OfEffect P nothing = Unit {0}
OfEffect P (sets s) = Unit {0}
OfEffect P (codes d) = Unit {0}
OfEffect P (faulty n) = P n

-- ---- settings

-- What holds of the numbers of the four checks holds of the one that fails.
pub of-settings : (P : ℕ → Type 0) → P 10 → P 11 → P 12 → P 13 → (s : Settings) → OfFault P (settings_fault s)
unfolding settings_fault
of-settings P ten eleven twelve thirteen s =
    let F = OfFault P in
    by-test F (between 16 30 s.limb_bits)
    (by-test F (eqb (s.limb_bits % 2) 0) (by-test F (between 1 4 s.data_limbs) (by-test F (between 1 2 s.addr_limbs) tt thirteen) twelve) eleven) ten

-- ---- a line

-- The numbers that a line can be refused with, its label aside: 3, 6 to 21, and 35.
abbrev pub line_numbers : List ℕ
line_numbers = 3 ∷ 6 ∷ 7 ∷ 8 ∷ 9 ∷ 10 ∷ 11 ∷ 12 ∷ 13 ∷ 14 ∷ 15 ∷ 16 ∷ 17 ∷ 18 ∷ 19 ∷ 20 ∷ 21 ∷ 35 ∷ []

abbrev is_in : List ℕ → ℕ → Bool
is_in [] n = false
is_in (m ∷ ms) n = elim (eqb m n) [ true ↦ true | false ↦ is_in ms n ]

of-each : (q : ℕ → Bool) (ms : List ℕ) → each q ms ≡ true → (n : ℕ) → is_in ms n ≡ true → q n ≡ true
unfolding each
of-each q [] h n i = absurd (true≢false (sym i))
of-each q (m ∷ ms) h n i =
    let (now, later) = both (q m) (each q ms) h in
    cases (eqb m n) (λ e. subst (λ x. q x ≡ true) (eqb-true m n e) now) (λ e. of-each q ms later n (rw (is_in, e) at i))

-- What each of these numbers passes, the number of every line that is refused passes.
module _ (q : ℕ → Bool) (ok : each q line_numbers ≡ true) where
  abbrev P : ℕ → Type 0
  P n = q n ≡ true

  listed : (n : ℕ) → is_in line_numbers n ≡ true → P n
  listed n i = of-each q line_numbers ok n i

  abbrev Of : {A : Type 0} → Result A → Type 0
  Of = OfResult P

  -- an operand
  of-pattern : (r : NumberRange) (n : ℕ) → Of (read_pattern r n)
  unfolding read_pattern
  of-pattern r n = by-test Of (ltb n (2 ^ r.width)) tt (listed 35 refl)

  of-number : (r : NumberRange) (t : Token) → Of (read_number r t)
  unfolding read_number read_decimal
  of-number r (number z) = by-test Of (lies_in r z) tt (listed 35 refl)
  of-number r (hex n) = of-pattern r n
  of-number r (binary n) = of-pattern r n
  of-number r t = listed 8 refl

  of-register : (t : Token) → Of (read_register t)
  unfolding read_register
  of-register (register (some n)) = tt
  of-register (register none) = listed 18 refl
  of-register t = listed 17 refl

  of-mark : (m : Separator) → P (separator_refusal m)
  of-mark a-comma = listed 19 refl
  of-mark an-opening = listed 20 refl
  of-mark a-closing = listed 21 refl

  of-exactly : (r : NumberRange) (t : Token) → Of (read_exactly r t)
  unfolding read_exactly
  of-exactly r t = by_result P Of (read_number r t) (of-number r t) (λ z. tt) (λ n l. l)

  of-amount : (r : NumberRange) (label : Bool) (t : Token) → Of (read_amount r label t)
  unfolding read_amount
  of-amount r false t = of-exactly r t
  of-amount r true t = by-option Of (read_identifier t) (of-exactly r t) (λ s. tt)

  with-register : (n : ℕ) (rest : Result DraftOperands) → Of rest → Of (with_register n rest)
  unfolding with_register
  with-register n (value o) k = tt
  with-register n (refused m) k = k

  with-amount : (a : Amount) (rest : Result DraftOperands) → Of rest → Of (with_amount a rest)
  unfolding with_amount
  with-amount a (value o) k = tt
  with-amount a (refused m) k = k

  of-place : (label : Bool) (p : Place) (t : Token) (rest : Result DraftOperands) → Of rest → Of (read_place label p t rest)
  unfolding read_place
  of-place label (reg bit) t rest k = by_result P Of (read_register t) (of-register t) (λ n. with-register n rest k) (λ n l. l)
  of-place label (num bit width signed) t rest k =
      let r : NumberRange = record { width = width; signed = signed } in
      by_result P Of (read_amount r label t) (of-amount r label t) (λ a. with-amount a rest k) (λ n l. l)
  of-place label (mark m) t rest k = by-test Of (eqb (mark_byte t) (separator_byte m)) k (of-mark m)

  of-operands : (label : Bool) (ps : List Place) (ts : List Token) → Of (read_operands label ps ts)
  unfolding read_operands
  of-operands label [] ts = tt
  of-operands label (p ∷ ps) [] = listed 16 refl
  of-operands label (p ∷ ps) (t ∷ ts) = of-place label p t (read_operands label ps ts) (of-operands label ps ts)

  -- an instruction
  of-made : (r : Row) (o : Result DraftOperands) → Of o → Of (made r o)
  unfolding made
  of-made r (value o) k = tt
  of-made r (refused n) k = k

  of-row : (r : Row) (count : ℕ) (ts : List Token) → Of (read_row r count ts)
  unfolding read_row
  of-row r count ts =
      let label = takes_label r.form in
      let ps = places r.form in
      by-test Of (eqb count (length ps)) (of-made r (read_operands label ps ts) (of-operands label ps ts)) (listed 16 refl)

  of-mnemonic : (t : Token) (count : ℕ) (ts : List Token) → Of (read_mnemonic t count ts)
  unfolding read_mnemonic
  of-mnemonic t count ts =
      by-option Of (read_identifier t) (listed 14 refl) (λ s. by-option Of (row_named (map lower s)) (listed 15 refl) (λ r. of-row r count ts))

  of-instruction : (l : Line) → Of (read_instruction l)
  unfolding read_instruction
  of-instruction l = by-list Of l.first (listed 14 refl) (λ t us. of-mnemonic t (l.count - 1) us)

  -- the `.config` line
  of-checked : (x : Result Settings) → Of x → Of (checked x)
  unfolding checked
  of-checked (refused n) k = k
  of-checked (value s) k = by-fault Of (settings_fault s) (of-settings P (listed 10 refl) (listed 11 refl) (listed 12 refl) (listed 13 refl) s) tt (λ n l. l)

  of-set : (s : Settings) (key : List ℕ) (v : ℕ) → Of (set_field s key v)
  unfolding set_field
  of-set s key v = by-test Of (same key limb_bits_key) tt (by-test Of (same key data_limbs_key) tt (by-test Of (same key addr_limbs_key) tt (listed 9 refl)))

  of-setting-tokens : (s : Settings) (ts : List Token) → Of (configured_with s ts)
  unfolding configured_with configured_by
  of-setting-tokens s [] = listed 6 refl
  of-setting-tokens s (key ∷ []) = listed 6 refl
  of-setting-tokens s (key ∷ v ∷ ts) =
      by-option Of (read_identifier key) (listed 7 refl) (λ k.
      by_result P Of (read_number setting_range v) (of-number setting_range v) (λ z. of-checked (set_field s k (nat_abs z)) (of-set s k (nat_abs z))) (λ n l. l))

  of-configured : (s : Settings) (l : Line) → Of (configured s l)
  unfolding configured
  of-configured s l = by-test Of (eqb l.count 3) (of-setting-tokens s (drop 1 l.first)) (listed 6 refl)

  -- what it does
  of-coding : (x : Result Draft) → Of x → OfEffect P (coding x)
  unfolding coding
  of-coding (refused n) k = k
  of-coding (value d) k = tt

  of-setting : (x : Result Settings) → Of x → OfEffect P (setting x)
  unfolding setting
  of-setting (refused n) k = k
  of-setting (value s) k = tt

  of-after : (l : Line) → OfEffect P (after_label l)
  unfolding after_label
  of-after l = by-list (OfEffect P) l.first tt (λ t us. of-coding (read_instruction l) (of-instruction l))

  of-kind : (c : Context) (l : Line) (k : Kind) → OfEffect P (read_kind c l k).effect
  unfolding read_kind
  of-kind c l empty = tt
  of-kind c l (labelled s) = of-after (behind 2 l)
  of-kind c l config = of-setting (configured c.setup l) (of-configured c.setup l)
  of-kind c l ignored = tt
  of-kind c l plain = of-coding (read_instruction l) (of-instruction l)

  pub of-line : (c : Context) (o : Option Line) → OfEffect P (read_on c o).effect
  unfolding read_on
  of-line c none = listed 3 refl
  of-line c (some l) = of-kind c l (kind_of l.first)

-- ---- labels that instructions name

-- What holds of 33 and 34 holds of the number of the first line that names a label which it does not reach.
module _ (P : ℕ → Type 0) (unknown : P 33) (far : P 34) (addresses : List ℕ → Option ℕ) where
  of-amount-fault : (words : ℕ) (f : Form) (a : Amount) → OfFault P (amount_fault addresses words f a)
  unfolding amount_fault
  of-amount-fault words f (exactly z) = tt
  of-amount-fault words f (to u) = by-option (OfFault P) (addresses u) unknown (λ a. by-test (OfFault P) (in_reach f (distance words a)) tt far)

  of-target-fault : (words : ℕ) (e : Effect) → OfFault P (target_fault addresses words e)
  unfolding target_fault draft_fault
  of-target-fault words (codes d) = by-option (OfFault P) d.amount tt (of-amount-fault words d.row.form)
  of-target-fault words nothing = tt
  of-target-fault words (sets s) = tt
  of-target-fault words (faulty n) = tt

  of-first-fault : (line words : ℕ) (rs : List Read) → OfFault (λ (f : Fault). P f.number) (first_fault addresses line words rs)
  unfolding first_fault
  of-first-fault line words [] = tt
  of-first-fault line words (r ∷ rs) =
      by-fault (OfFault (λ (f : Fault). P f.number)) (target_fault addresses words r.effect) (of-target-fault words r.effect)
      (of-first-fault (suc line) (words + words_of r.effect) rs) (λ n k. k)

pub of-fault : (P : ℕ → Type 0) → P 33 → P 34 → (rs : List Read) → OfFault (λ (f : Fault). P f.number) (fault_in rs)
unfolding fault_in
of-fault P unknown far rs = of-first-fault P unknown far (address_in 0 rs) 1 0 rs
