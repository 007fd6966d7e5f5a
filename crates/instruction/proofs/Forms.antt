-- Operands that are read one by one, from left to right, by the description of a form: what has been read of them, and what is left to
-- read. The laws hold over any list of places whose numbers are of one range; a loop that reads operands keeps `Reading` at its start, and
-- `Marking` between an operand and the mark after it.
use Prim.Native.Nat.{ℕ, zero, suc, pred, ◌+◌, ◌≤◌, ◌<◌}
use mathlib.Core.Path.{◌≡◌, refl, sym, ap, ◌∙◌, subst}
use native.Mathlib.Omega.{arith}
use mathlib.Core.Bool.{Bool, true, false, true≢false}
use mathlib.Core.Option.{Option, none, some}
use mathlib.Core.List.{List, [], ◌∷◌, ◌++◌, map, map-append, append_assoc, append-nil}
use lib.ListN.{length, get_or, set, replicate, length-append, length-replicate, length-map}
use lib.Seq.{set_at}
use lib.Dec.{eqb}
use lib.IntN.{ℤ}
use borrow.Author.Tests.{eq-eqb, ne_eqb}
use Rattle.std.specs.Prelude.{Some, None}
use Rattle.refusal.specs.Refusals.{number_of, refusals}
use Rattle.refusal.specs.declared.refusal.Refusal.{Refusal}
use Rattle.text_lexical.specs.Bytes.{Result, value, refused}
use Rattle.text_lexical.specs.Numbers.{NumberRange as MeantRange}
use Rattle.text_lexical.specs.Promised.{index_of, register_at, range_meant, IsRange}
use Rattle.text_lexical.specs.declared.number.NumberRange.{NumberRange}
use Rattle.text_lexical.specs.declared.register.Register.{Register}
use Rattle.text_lexical.specs.declared.register.Register.TheVariants.{R0}
use Rattle.text_lexical.proofs.Registers.{register-index}
use Rattle.text.specs.Tokens.{Token}
use Rattle.text.specs.Values.{read_number}
use Rattle.instruction.specs.Table.{Place, reg, num, mark, a-comma, an-opening, a-closing, Form, R, I, Shift, Load, Store, Branch, Jump, System, places}
use Rattle.instruction.specs.Operands.{Amount, exactly, to, takes_label, DraftOperands, no_operands, with_register, with_amount, read_register, read_exactly, read_amount, mark_byte, read_place, read_operands}
use Rattle.instruction.specs.Promised.{no_number_lem, row_of, registers_for, amount_meant, names_label, amount_for, taken_for, amount_back, label_start, DraftSettled}
use Rattle.instruction.specs.Forms.{operand_list, is_number, mark_of, range_of, RegisterPlace, register_place, NumberPlace, number_place, OperandPlace, MarkPlace, a_mark, MarkPlaces, no_mark, one_mark, Ahead, no_more, operand}
use Rattle.instruction.specs.declared.instruction.Target.{Target}
use Rattle.instruction.specs.declared.instruction.Amount.{Amount as KeptAmount}
use Rattle.instruction.specs.declared.instruction.Amount.TheVariants.{Number, Label}
use Rattle.instruction.specs.declared.opcode.Mnemonic.{Mnemonic}
use Rattle.instruction.specs.declared.form.Mark.{Mark}
use Rattle.instruction.specs.declared.form.Operand.{Operand}
use Rattle.instruction.proofs.Columns.{mnemonic-back}
use Rattle.instruction.proofs.Results.{not_refused}

-- ---- the operands of each form

-- Forms that have their operands in common, wherever these go to in a word.
jumping : {r : NumberRange} {x z : ℕ} → Ahead r (reg x ∷ mark a-comma ∷ num z r.width r.signed ∷ []) (operand_list Jump)
jumping = operand register_place (one_mark (a_mark a-comma)) (operand number_place no_mark no_more refl) refl

immediate : {r : NumberRange} {x y z : ℕ} → Ahead r (reg x ∷ mark a-comma ∷ reg y ∷ mark a-comma ∷ num z r.width r.signed ∷ []) (operand_list I)
immediate = operand register_place (one_mark (a_mark a-comma)) jumping refl

memory : {r : NumberRange} {x y z : ℕ} → Ahead r (reg x ∷ mark a-comma ∷ num z r.width r.signed ∷ mark an-opening ∷ reg y ∷ mark a-closing ∷ []) (operand_list Load)
memory =
    operand register_place (one_mark (a_mark a-comma))
    (operand number_place (one_mark (a_mark an-opening)) (operand register_place (one_mark (a_mark a-closing)) no_more refl) refl) refl

-- The operands of a form describe its places, and its range the number's.
pub form-ahead : (f : Form) → Ahead (range_of f) (places f) (operand_list f)
unfolding places
form-ahead R =
    operand register_place (one_mark (a_mark a-comma))
    (operand register_place (one_mark (a_mark a-comma)) (operand register_place no_mark no_more refl) refl) refl
form-ahead I = immediate
form-ahead Shift = immediate
form-ahead Load = memory
form-ahead Store = memory
form-ahead Branch = immediate
form-ahead Jump = jumping
form-ahead System = no_more

-- Its range is one, with a number or without.
pub form_range : (f : Form) → IsRange (range_of f)
form_range R = record { some_bits = omega arith; few_bits = omega arith }
form_range I = record { some_bits = omega arith; few_bits = omega arith }
form_range Shift = record { some_bits = omega arith; few_bits = omega arith }
form_range Load = record { some_bits = omega arith; few_bits = omega arith }
form_range Store = record { some_bits = omega arith; few_bits = omega arith }
form_range Branch = record { some_bits = omega arith; few_bits = omega arith }
form_range Jump = record { some_bits = omega arith; few_bits = omega arith }
form_range System = record { some_bits = omega arith; few_bits = omega arith }

-- No form has more than six operand tokens.
pub six-places : (f : Form) → length (places f) ≤ 6
unfolding places
six-places R = omega arith
six-places I = omega arith
six-places Shift = omega arith
six-places Load = omega arith
six-places Store = omega arith
six-places Branch = omega arith
six-places Jump = omega arith
six-places System = omega arith

-- ---- registers and numbers of places

regs_in : List Place → ℕ
regs_in [] = 0
regs_in (reg bit ∷ ps) = suc (regs_in ps)
regs_in (num bit width signed ∷ ps) = regs_in ps
regs_in (mark m ∷ ps) = regs_in ps

nums_in : List Place → ℕ
nums_in [] = 0
nums_in (reg bit ∷ ps) = nums_in ps
nums_in (num bit width signed ∷ ps) = suc (nums_in ps)
nums_in (mark m ∷ ps) = nums_in ps

-- Operands have room for the registers and the number of places.
pub record Room (ps : List Place) : Type 0 where
  few : regs_in ps ≤ 3
  single : nums_in ps ≤ 1

pub form-room : (f : Form) → Room (places f)
unfolding places regs_in nums_in
form-room R = record { few = omega arith; single = omega arith }
form-room I = record { few = omega arith; single = omega arith }
form-room Shift = record { few = omega arith; single = omega arith }
form-room Load = record { few = omega arith; single = omega arith }
form-room Store = record { few = omega arith; single = omega arith }
form-room Branch = record { few = omega arith; single = omega arith }
form-room Jump = record { few = omega arith; single = omega arith }
form-room System = record { few = omega arith; single = omega arith }

-- What a form takes of registers that are as many as its places, and of a number.
registers-first : (ps : List Place) (xs ys : List ℕ) → length xs ≡ regs_in ps → registers_for ps (xs ++ ys) ≡ xs
unfolding regs_in registers_for
registers-first [] [] ys h = refl
registers-first [] (x ∷ xs) ys h = absurd (omega arith)
registers-first (reg bit ∷ ps) [] ys h = absurd (omega arith)
registers-first (reg bit ∷ ps) (x ∷ xs) ys h = ap (λ l. x ∷ l) (registers-first ps xs ys (omega arith))
registers-first (num bit width signed ∷ ps) xs ys h = registers-first ps xs ys h
registers-first (mark m ∷ ps) xs ys h = registers-first ps xs ys h

no_amount : (ps : List Place) (a : Amount) → nums_in ps ≡ 0 → amount_for ps a ≡ none
unfolding nums_in amount_for
no_amount [] a h = refl
no_amount (reg bit ∷ ps) a h = no_amount ps a h
no_amount (num bit width signed ∷ ps) a h = absurd (omega arith)
no_amount (mark m ∷ ps) a h = no_amount ps a h

an-amount : (ps : List Place) (a : Amount) → 0 < nums_in ps → amount_for ps a ≡ some a
unfolding nums_in amount_for
an-amount [] a h = absurd (omega arith)
an-amount (reg bit ∷ ps) a h = an-amount ps a h
an-amount (num bit width signed ∷ ps) a h = refl
an-amount (mark m ∷ ps) a h = an-amount ps a h

-- No place follows a number's.
unfoldable pub NumberLast : List Place → Type 0
NumberLast [] = Unit {0}
NumberLast (reg bit ∷ ps) = NumberLast ps
NumberLast (num bit width signed ∷ ps) = ps ≡ []
NumberLast (mark m ∷ ps) = NumberLast ps

-- So it is where a label may stand for the number.
pub form-last : (f : Form) → takes_label f ≡ true → NumberLast (places f)
unfolding places NumberLast
form-last Branch h = refl
form-last Jump h = refl
form-last R h = absurd (true≢false (sym h))
form-last I h = absurd (true≢false (sym h))
form-last Shift h = absurd (true≢false (sym h))
form-last Load h = absurd (true≢false (sym h))
form-last Store h = absurd (true≢false (sym h))
form-last System h = absurd (true≢false (sym h))

-- ---- what has been read, before what is read after it

or_else : Option Amount → Option Amount → Option Amount
or_else none o = o
or_else (some a) o = some a

joined : List ℕ → Option Amount → Result DraftOperands → Result DraftOperands
joined rs n (value o) = value (record { registers = rs ++ o.registers; amount = or_else n o.amount })
joined rs n (refused k) = refused k

joined-none : (x : Result DraftOperands) → x ≡ joined [] none x
unfolding joined or_else
joined-none (value o) = refl
joined-none (refused k) = refl

joined-register : (rs : List ℕ) (n : Option Amount) (k : ℕ) (x : Result DraftOperands) → joined rs n (with_register k x) ≡ joined (rs ++ (k ∷ [])) n x
unfolding joined with_register
joined-register rs n k (value o) = rw (append_assoc rs (k ∷ []) o.registers)
joined-register rs n k (refused j) = refl

joined_amount : (rs : List ℕ) (a : Amount) (x : Result DraftOperands) → joined rs none (with_amount a x) ≡ joined rs (some a) x
unfolding joined or_else with_amount
joined_amount rs a (value o) = refl
joined_amount rs a (refused j) = refl

-- The amount has been read, or not.
counted : Option Amount → ℕ
counted none = 0
counted (some a) = 1

not-counted : (n : Option Amount) → counted n ≡ 0 → n ≡ none
unfolding counted
not-counted none h = refl
not-counted (some a) h = absurd (omega arith)

-- The code's amount for one that has been read; a 0 before.
Standing : (Target → List ℕ) → KeptAmount → Option Amount → Type 0
Standing spells a none = a ≡ Number no_number_lem
Standing spells a (some x) = (amount_meant spells a ≡ x) × (a ≡ amount_back (label_start a) (some x))

-- Of all places, some are left after the tokens that have been read: these gave so many registers of three, and perhaps the amount. After a
-- label none is left.
record Partly (spells : Target → List ℕ) (label : Bool) (all : List Place) (pre : List Token) (ps : List Place) (count : ℕ) (rs : List Register) (a : KeptAmount) : Type 0 where
  room : Room all
  got : List Register
  free : ℕ
  amount : Option Amount
  held : rs ≡ got ++ replicate free R0
  count-is : length got ≡ count
  three : count + free ≡ 3
  stands : Standing spells a amount
  last : label ≡ true → NumberLast ps
  done : names_label a ≡ true → ps ≡ []
  sum : length pre + length ps ≡ length all
  regs : count + regs_in ps ≡ regs_in all
  nums : counted amount + nums_in ps ≡ nums_in all
  reads : (ts : List Token) → read_operands label all (pre ++ ts) ≡ joined (map index_of got) amount (read_operands label ps ts)

partly-begin : (spells : Target → List ℕ) (label : Bool) (all : List Place) → Room all → (label ≡ true → NumberLast all)
    → Partly spells label all [] all 0 (replicate 3 R0) (Number no_number_lem)
unfolding counted Standing
partly-begin spells label all room last =
    record {
      room = room;
      got = [];
      free = 3;
      amount = none;
      held = refl;
      count-is = refl;
      three = refl;
      stands = refl;
      last = last;
      done = λ h. absurd (true≢false (sym h));
      sum = omega arith;
      regs = omega arith;
      nums = omega arith;
      reads = λ ts. joined-none (read_operands label all ts);
    }

-- ---- a token at a place

register-read : (label : Bool) {p : Place} (t : Token) {k : ℕ} → RegisterPlace p → read_register t ≡ value k → (x : Result DraftOperands)
    → read_place label p t x ≡ with_register k x
unfolding read_place
register-read label t register_place e x = rw (read_place, e)

amount_read : {r : NumberRange} (label : Bool) {p : Place} (t : Token) {a : Amount} → NumberPlace r p → read_amount (range_meant r) label t ≡ value a → (x : Result DraftOperands)
    → read_place label p t x ≡ with_amount a x
unfolding read_place
amount_read label t number_place e x = rw (read_place, e)

-- the same of one that is refused
pub register-refuses : (label : Bool) {p : Place} (t : Token) {k : ℕ} → RegisterPlace p → read_register t ≡ refused k → (x : Result DraftOperands)
    → read_place label p t x ≡ refused k
unfolding read_place
register-refuses label t register_place e x = rw (read_place, e)

pub amount-refuses : {r : NumberRange} (label : Bool) {p : Place} (t : Token) {k : ℕ} → NumberPlace r p → read_amount (range_meant r) label t ≡ refused k → (x : Result DraftOperands)
    → read_place label p t x ≡ refused k
unfolding read_place
amount-refuses label t number_place e x = rw (read_place, e)

register-counts : {p : Place} (ps : List Place) → RegisterPlace p → regs_in (p ∷ ps) ≡ suc (regs_in ps)
unfolding regs_in
register-counts ps register_place = refl

mark-asked : (label : Bool) {p : Place} {byte : ℕ} {k : Refusal} → MarkPlace p byte k → (t : Token) (x : Result DraftOperands)
    → read_place label p t x ≡ elim (eqb (mark_byte t) byte) [ true ↦ x | false ↦ refused (number_of k) ]
unfolding read_place refusals
mark-asked label (a_mark a-comma) t x = refl
mark-asked label (a_mark an-opening) t x = refl
mark-asked label (a_mark a-closing) t x = refl

pub mark-refuses : (label : Bool) {p : Place} {byte : ℕ} {k : Refusal} → MarkPlace p byte k → (t : Token) → (mark_byte t ≡ byte → ⊥) → (x : Result DraftOperands)
    → read_place label p t x ≡ refused (number_of k)
mark-refuses label {byte = byte} m t h x = mark-asked label m t x ∙ rw (ne_eqb (mark_byte t) byte h)

mark-regs : {p : Place} {byte : ℕ} {k : Refusal} (ps : List Place) → MarkPlace p byte k → regs_in (p ∷ ps) ≡ regs_in ps
unfolding regs_in
mark-regs ps (a_mark m) = refl

mark-nums : {p : Place} {byte : ℕ} {k : Refusal} (ps : List Place) → MarkPlace p byte k → nums_in (p ∷ ps) ≡ nums_in ps
unfolding nums_in
mark-nums ps (a_mark m) = refl

mark-last : {p : Place} {byte : ℕ} {k : Refusal} (ps : List Place) → MarkPlace p byte k → NumberLast (p ∷ ps) → NumberLast ps
unfolding NumberLast
mark-last ps (a_mark m) h = h

-- A label is read only where one may stand for the number.
label-allowed : (r : MeantRange) (spells : Target → List ℕ) (label : Bool) (t : Token) (a : KeptAmount) → read_amount r label t ≡ value (amount_meant spells a) → names_label a ≡ true → label ≡ true
unfolding read_amount read_exactly
label-allowed r spells true t a e h = refl
label-allowed r spells false t (Number w) e h = absurd (true≢false (sym h))
label-allowed r spells false t (Label p) e h = go (read_number r t) e
  where
    go : (x : Result ℤ) → ◌≡◌ {A = Result Amount} (elim x [ value z ↦ value (exactly z) | refused k ↦ refused k ]) (value (to (spells p))) → false ≡ true
    go (value z) e = let q : ◌≡◌ {A = ℕ} 0 1 = cc in absurd (omega arith)
    go (refused k) e = not_refused e

-- The next of three registers is put after those that were read.
put_next : (got : List Register) (free count : ℕ) (r : Register) → length got ≡ count → 0 < free
    → set (got ++ replicate free R0) count r ≡ (got ++ (r ∷ [])) ++ replicate (pred free) R0
put_next got zero count r h l = absurd (omega arith)
put_next got (suc k) count r h l = set_at got R0 (replicate k R0) r count h ∙ sym (append_assoc got (r ∷ []) (replicate k R0))

-- A list with an entry is not empty.
not-empty : {A X : Type 0} {x : A} {l : List A} → x ∷ l ≡ [] → X
not-empty e = let q : ◌≡◌ {A = ℕ} 0 1 = cc in absurd (omega arith)

module _ {spells : Target → List ℕ} {label : Bool} {all : List Place} {pre : List Token} {ps : List Place} {count : ℕ} {rs : List Register} {a : KeptAmount} where
  -- One token more, by what it adds to what has been read.
  read-on : {p : Place} (t : Token) (q : Partly spells label all pre (p ∷ ps) count rs a) (got : List Register) (amount : Option Amount)
      → ((x : Result DraftOperands) → joined (map index_of q.got) q.amount (read_place label p t x) ≡ joined (map index_of got) amount x)
      → (ts : List Token) → read_operands label all ((pre ++ (t ∷ [])) ++ ts) ≡ joined (map index_of got) amount (read_operands label ps ts)
  unfolding read_operands
  read-on t q got amount h ts = rw (append_assoc pre (t ∷ []) ts) (q.reads (t ∷ ts) ∙ h (read_operands label ps ts))

  partly-register : {p : Place} (t : Token) (r : Register) → RegisterPlace p → Partly spells label all pre (p ∷ ps) count rs a → read_register t ≡ value (index_of r)
      → Partly spells label all (pre ++ (t ∷ [])) ps (count + 1) (set rs count r) a
  unfolding regs_in nums_in NumberLast
  partly-register t r (register_place {bit = b}) q e =
      let free_one : 0 < q.free = omega (arith, q.three, q.regs, q.room.few) in
      record {
        room = q.room;
        got = q.got ++ (r ∷ []);
        free = pred q.free;
        amount = q.amount;
        held = rw q.held (put_next q.got q.free count r q.count-is free_one);
        count-is = rw (length-append q.got (r ∷ []), q.count-is);
        three = omega (arith, q.three);
        stands = q.stands;
        last = q.last;
        done = λ h. not-empty (q.done h);
        sum = rw (length-append pre (t ∷ [])) (omega (arith, q.sum));
        regs = omega (arith, q.regs);
        nums = q.nums;
        reads = read-on t q (q.got ++ (r ∷ [])) q.amount
            (λ x. rw (register-read label t (register_place {bit = b}) e x, joined-register (map index_of q.got) q.amount (index_of r) x, map-append index_of q.got (r ∷ [])));
      }

  partly-amount : {r : NumberRange} {p : Place} (t : Token) (a' : KeptAmount) → NumberPlace r p → Partly spells label all pre (p ∷ ps) count rs a
      → read_amount (range_meant r) label t ≡ value (amount_meant spells a') → a' ≡ amount_back (label_start a') (some (amount_meant spells a'))
      → Partly spells label all (pre ++ (t ∷ [])) ps count rs a'
  unfolding regs_in nums_in counted NumberLast Standing
  partly-amount {r} t a' (number_place {bit = b}) q e s =
      let none_yet : counted q.amount ≡ 0 = omega (arith, q.nums, q.room.single) in
      let end : label ≡ true → ps ≡ [] = q.last in
      record {
        room = q.room;
        got = q.got;
        free = q.free;
        amount = some (amount_meant spells a');
        held = q.held;
        count-is = q.count-is;
        three = q.three;
        stands = (refl, s);
        last = λ h. rw (end h) tt;
        done = λ h. end (label-allowed (range_meant r) spells label t a' e h);
        sum = rw (length-append pre (t ∷ [])) (omega (arith, q.sum));
        regs = q.regs;
        nums = omega (arith, q.nums);
        reads = read-on t q q.got (some (amount_meant spells a'))
            (λ x. rw (amount_read label t (number_place {bit = b}) e x, not-counted q.amount none_yet) (joined_amount (map index_of q.got) (amount_meant spells a') x));
      }

  partly-mark : {p : Place} {byte : ℕ} {k : Refusal} (t : Token) → MarkPlace p byte k → Partly spells label all pre (p ∷ ps) count rs a → mark_byte t ≡ byte
      → Partly spells label all (pre ++ (t ∷ [])) ps count rs a
  partly-mark {p} {byte} t m q e =
      record {
        room = q.room;
        got = q.got;
        free = q.free;
        amount = q.amount;
        held = q.held;
        count-is = q.count-is;
        three = q.three;
        stands = q.stands;
        last = λ h. mark-last ps m (q.last h);
        done = λ h. not-empty (q.done h);
        sum = rw (length-append pre (t ∷ [])) (omega (arith, q.sum));
        regs = omega (arith, q.regs, mark-regs ps m);
        nums = omega (arith, q.nums, mark-nums ps m);
        reads = read-on t q q.got q.amount (λ x. rw (mark-asked label m t x, eq-eqb (mark_byte t) byte e));
      }

  -- What is refused at the places that are left is refused at all of them.
  partly-refuses : Partly spells label all pre ps count rs a → (ts : List Token) (k : ℕ) → read_operands label ps ts ≡ refused k → read_operands label all (pre ++ ts) ≡ refused k
  unfolding joined
  partly-refuses q ts k e = q.reads ts ∙ rw e

-- ---- by the operands

-- The places of the first of the operands, and those after it.
record Next (r : NumberRange) (ps : List Place) (o : Operand) (os : List Operand) : Type 0 where
  place : Place
  marks : List Place
  rest : List Place
  splits : ps ≡ place ∷ (marks ++ rest)
  operand-place : OperandPlace r (is_number o) place
  mark-places : MarkPlaces (mark_of o) marks
  ahead : Ahead r rest os

next_of : {r : NumberRange} {ps : List Place} {o : Operand} {os : List Operand} → Ahead r ps (o ∷ os) → Next r ps o os
next_of (operand {p = p} {ms = ms} {ps = rest} o m a e) =
    record { place = p; marks = ms; rest = rest; splits = e; operand-place = o; mark-places = m; ahead = a }

none_ahead : {r : NumberRange} {ps : List Place} → Ahead r ps [] → ps ≡ []
none_ahead no_more = refl

none-marked : {ms : List Place} → MarkPlaces None ms → ms ≡ []
none-marked no_mark = refl

one-marked : {m : Mark} {ms : List Place} → MarkPlaces (Some m) ms → (p : Place) × (MarkPlace p m.byte m.refusal × (ms ≡ p ∷ []))
one-marked (one_mark {p = p} m) = (p, (m, refl))

-- ---- how many tokens there are

-- So many tokens are counted before the operands that are left.
pub record Counting (r : NumberRange) (all : List Place) (n : ℕ) (left : List Operand) : Type 0 where
  ps : List Place
  ahead : Ahead r ps left
  sum : n + length ps ≡ length all

pub counting-begin : {r : NumberRange} {all : List Place} {left : List Operand} → Ahead r all left → Counting r all 0 left
counting-begin {all} a = record { ps = all; ahead = a; sum = omega arith }

module _ {r : NumberRange} {all : List Place} {n : ℕ} {o : Operand} {os : List Operand} (q : Counting r all n (o ∷ os)) where
  pub counting-none : mark_of o ≡ None → Counting r all (n + 1) os
  counting-none e =
      let x = next_of q.ahead in
      let m = none-marked (subst (λ m. MarkPlaces m x.marks) e x.mark-places) in
      record { ps = x.rest; ahead = x.ahead; sum = omega (arith, q.sum, ap length (rw m at x.splits)) }

  pub counting-mark : {m : Mark} → mark_of o ≡ Some m → Counting r all (n + 1 + 1) os
  counting-mark e =
      let x = next_of q.ahead in
      let (p, (m, l)) = one-marked (subst (λ m. MarkPlaces m x.marks) e x.mark-places) in
      record { ps = x.rest; ahead = x.ahead; sum = omega (arith, q.sum, ap length (rw l at x.splits)) }

pub counting-most : {r : NumberRange} {all : List Place} {n : ℕ} {left : List Operand} → Counting r all n left → n ≤ length all
counting-most q = omega (arith, q.sum)

pub counting-end : {r : NumberRange} {all : List Place} {n : ℕ} → Counting r all n [] → n ≡ length all
counting-end q = omega (arith, q.sum, ap length (none_ahead q.ahead))

-- ---- what has been read, by the operands

-- Before the operands that are left,
pub record Reading (r : NumberRange) (spells : Target → List ℕ) (label : Bool) (all : List Place) (pre : List Token) (count : ℕ) (rs : List Register) (a : KeptAmount) (left : List Operand) : Type 0 where
  ps : List Place
  ahead : Ahead r ps left
  partly : Partly spells label all pre ps count rs a

-- and between an operand and the mark that may follow it.
pub record Marking (r : NumberRange) (spells : Target → List ℕ) (label : Bool) (all : List Place) (pre : List Token) (count : ℕ) (rs : List Register) (a : KeptAmount) (o : Operand) (os : List Operand) : Type 0 where
  marks : List Place
  rest : List Place
  mark-places : MarkPlaces (mark_of o) marks
  ahead : Ahead r rest os
  partly : Partly spells label all pre (marks ++ rest) count rs a

-- At first all operands of a form are left; a label may stand for the number as the form says.
pub reading-begin : (spells : Target → List ℕ) (f : Form) {left : List Operand} → left ≡ operand_list f
    → Reading (range_of f) spells (takes_label f) (places f) [] 0 (replicate 3 R0) (Number no_number_lem) left
reading-begin spells f e =
    record { ps = places f; ahead = rw e (form-ahead f); partly = partly-begin spells (takes_label f) (places f) (form-room f) (form-last f) }

module _ {r : NumberRange} {spells : Target → List ℕ} {label : Bool} {all : List Place} {pre : List Token} {count : ℕ} {rs : List Register} {a : KeptAmount} {o : Operand} {os : List Operand} where
  -- The place of the next operand, by whether it is a number's.
  ahead-at : (q : Reading r spells label all pre count rs a (o ∷ os)) {b : Bool} → is_number o ≡ b
      → let n = next_of q.ahead in OperandPlace r b n.place × Partly spells label all pre (n.place ∷ (n.marks ++ n.rest)) count rs a
  ahead-at q e =
      let n = next_of q.ahead in
      (subst (λ b. OperandPlace r b n.place) e n.operand-place, subst (λ ps. Partly spells label all pre ps count rs a) n.splits q.partly)

  pub reading-register : Reading r spells label all pre count rs a (o ∷ os) → is_number o ≡ false → (t : Token) (x : Register) → read_register t ≡ value (index_of x)
      → Marking r spells label all (pre ++ (t ∷ [])) (count + 1) (set rs count x) a o os
  reading-register q letter t x e =
      let n = next_of q.ahead in
      let (o, p) = ahead-at q letter in
      record { marks = n.marks; rest = n.rest; mark-places = n.mark-places; ahead = n.ahead; partly = partly-register t x o p e }

  pub reading-amount : Reading r spells label all pre count rs a (o ∷ os) → is_number o ≡ true → (t : Token) (a' : KeptAmount)
      → read_amount (range_meant r) label t ≡ value (amount_meant spells a') → a' ≡ amount_back (label_start a') (some (amount_meant spells a'))
      → Marking r spells label all (pre ++ (t ∷ [])) count rs a' o os
  reading-amount q digit t a' e s =
      let n = next_of q.ahead in
      let (o, p) = ahead-at q digit in
      record { marks = n.marks; rest = n.rest; mark-places = n.mark-places; ahead = n.ahead; partly = partly-amount t a' o p e s }

  pub marking-none : Marking r spells label all pre count rs a o os → mark_of o ≡ None → Reading r spells label all pre count rs a os
  marking-none q e =
      let m = none-marked (subst (λ m. MarkPlaces m q.marks) e q.mark-places) in
      record { ps = q.rest; ahead = q.ahead; partly = subst (λ ms. Partly spells label all pre (ms ++ q.rest) count rs a) m q.partly }

  -- The place of the mark that follows.
  mark-ahead : {m : Mark} (q : Marking r spells label all pre count rs a o os) → mark_of o ≡ Some m
      → (p : Place) × (MarkPlace p m.byte m.refusal × Partly spells label all pre (p ∷ q.rest) count rs a)
  mark-ahead q e =
      let (p, (m, l)) = one-marked (subst (λ m. MarkPlaces m q.marks) e q.mark-places) in
      (p, (m, subst (λ ms. Partly spells label all pre (ms ++ q.rest) count rs a) l q.partly))

  pub marking-mark : {m : Mark} → Marking r spells label all pre count rs a o os → mark_of o ≡ Some m → (t : Token) → mark_byte t ≡ m.byte
      → Reading r spells label all (pre ++ (t ∷ [])) count rs a os
  marking-mark q e t b = let (p, (m, y)) = mark-ahead q e in record { ps = q.rest; ahead = q.ahead; partly = partly-mark t m y b }

  -- No label was read where an operand or a mark is left.
  pub reading-unlabelled : Reading r spells label all pre count rs a (o ∷ os) → names_label a ≡ true → ⊥
  reading-unlabelled q h = let (o, p) = ahead-at q refl in not-empty (p.done h)

  pub marking-unlabelled : {m : Mark} → Marking r spells label all pre count rs a o os → mark_of o ≡ Some m → names_label a ≡ true → ⊥
  marking-unlabelled q e h = let (p, (m, y)) = mark-ahead q e in not-empty (y.done h)

  -- The place where the next token may be refused: what is refused there is refused at all places.
  pub reading-refuses : {b : Bool} → Reading r spells label all pre count rs a (o ∷ os) → is_number o ≡ b
      → (p : Place) × (ps : List Place) × OperandPlace r b p × ((ts : List Token) (k : ℕ) → read_operands label (p ∷ ps) ts ≡ refused k → read_operands label all (pre ++ ts) ≡ refused k)
  reading-refuses q e = let (o, p) = ahead-at q e in (_, _, o, partly-refuses p)

  pub marking-refuses : {m : Mark} → Marking r spells label all pre count rs a o os → mark_of o ≡ Some m
      → (p : Place) × (ps : List Place) × MarkPlace p m.byte m.refusal × ((ts : List Token) (k : ℕ) → read_operands label (p ∷ ps) ts ≡ refused k → read_operands label all (pre ++ ts) ≡ refused k)
  marking-refuses q e = let (p, (m, y)) = mark-ahead q e in (p, _, m, partly-refuses y)

  -- There is a place for the token of each operand that is left, and for that of the mark after it.
  pub operand-within : Reading r spells label all pre count rs a (o ∷ os) → length pre < length all
  operand-within q = let n = next_of q.ahead in omega (arith, q.partly.sum, ap length n.splits)

  pub mark-within : {m : Mark} → Marking r spells label all pre count rs a o os → mark_of o ≡ Some m → length pre < length all
  mark-within q e = let (p, (m, y)) = mark-ahead q e in omega (arith, y.sum)

  -- There is room for a register.
  pub register-room : Reading r spells label all pre count rs a (o ∷ os) → is_number o ≡ false → count < 3
  register-room q letter =
      let n = next_of q.ahead in
      let (o, p) = ahead-at q letter in
      omega (arith, register-counts (n.marks ++ n.rest) o, p.regs, p.room.few)

-- ---- the end

amount_is : (spells : Target → List ℕ) (all : List Place) (n : Option Amount) (a : KeptAmount) → Standing spells a n → counted n ≡ nums_in all → amount_for all (amount_meant spells a) ≡ n
unfolding counted Standing
amount_is spells all none a s h = no_amount all (amount_meant spells a) (sym h)
amount_is spells all (some x) a s h = an-amount all (amount_meant spells a) (omega arith) ∙ ap (λ x. some x) s.0

amount-back : (spells : Target → List ℕ) (n : Option Amount) (a : KeptAmount) → Standing spells a n → a ≡ amount_back (label_start a) n
unfolding Standing
amount-back spells none a s = s
amount-back spells (some x) a s = s.1

or-none : (n : Option Amount) → or_else n none ≡ n
unfolding or_else
or-none none = refl
or-none (some z) = refl

-- A register stands for the number that was read at its place, and R0 where none was.
none-held : (free i : ℕ) → get_or (replicate free R0) i R0 ≡ R0
none-held zero i = refl
none-held (suc free) zero = refl
none-held (suc free) (suc i) = none-held free i

held_at : (got : List Register) (free i : ℕ) → get_or (got ++ replicate free R0) i R0 ≡ register_at (get_or (map index_of got) i 0)
unfolding register_at
held_at [] free i = none-held free i
held_at (r ∷ got) free zero = sym (register-index r)
held_at (r ∷ got) free (suc i) = held_at got free i

-- Three registers are those at their places.
three-are : (rs : List Register) → length rs ≡ 3 → rs ≡ get_or rs 0 R0 ∷ get_or rs 1 R0 ∷ get_or rs 2 R0 ∷ []
three-are [] h = absurd (omega arith)
three-are (a ∷ []) h = absurd (omega arith)
three-are (a ∷ b ∷ []) h = absurd (omega arith)
three-are (a ∷ b ∷ c ∷ []) h = refl
three-are (a ∷ b ∷ c ∷ d ∷ rs) h = absurd (omega arith)

-- All places are read: the tokens are as many, this is what is read of them, and no part of it is free.
pub record Complete (spells : Target → List ℕ) (label : Bool) (all : List Place) (pre : List Token) (rs : List Register) (a : KeptAmount) : Type 0 where
  pub count : length pre ≡ length all
  pub means : (ts : List Token) → read_operands label all (pre ++ ts) ≡ value (taken_for spells all rs a)
  pub registers : let ns = registers_for all (map index_of rs) in rs ≡ register_at (get_or ns 0 0) ∷ register_at (get_or ns 1 0) ∷ register_at (get_or ns 2 0) ∷ []
  pub amount : a ≡ amount_back (label_start a) (amount_for all (amount_meant spells a))

module _ {spells : Target → List ℕ} {label : Bool} {all : List Place} {pre : List Token} {count : ℕ} {rs : List Register} {a : KeptAmount} where
  partly-end : Partly spells label all pre [] count rs a → Complete spells label all pre rs a
  unfolding read_operands no_operands joined regs_in nums_in
  partly-end q =
      let l : length rs ≡ 3 = rw (q.held, length-append q.got (replicate q.free R0), length-replicate q.free R0) (omega (arith, q.count-is, q.three)) in
      let registers : registers_for all (map index_of rs) ≡ map index_of q.got
      = ap (registers_for all) (ap (map index_of) q.held ∙ map-append index_of q.got (replicate q.free R0))
      ∙ registers-first all (map index_of q.got) _ (length-map q.got index_of ∙ q.count-is ∙ omega (arith, q.regs)) in
      let amount = amount_is spells all q.amount a q.stands (omega (arith, q.nums)) in
      record {
        count = omega (arith, q.sum);
        means = λ ts. q.reads ts ∙ rw (registers, amount, append-nil (map index_of q.got), or-none q.amount);
        registers = three-are rs l ∙ rw (registers, q.held, held_at q.got q.free 0, held_at q.got q.free 1, held_at q.got q.free 2);
        amount = rw amount (amount-back spells q.amount a q.stands);
      }

pub reading-end : {r : NumberRange} {spells : Target → List ℕ} {label : Bool} {all : List Place} {pre : List Token} {count : ℕ} {rs : List Register} {a : KeptAmount}
    → Reading r spells label all pre count rs a [] → Complete spells label all pre rs a
reading-end {spells = spells} {label} {all} {pre} {count} {rs} {a} q = partly-end (subst (λ ps. Partly spells label all pre ps count rs a) (none_ahead q.ahead) q.partly)

-- As a draft of a mnemonic with that form: no part of it is free.
pub draft-settled : {spells : Target → List ℕ} {label : Bool} {pre : List Token} {rs : List Register} {a : KeptAmount} (m : Mnemonic)
    → Complete spells label (places (row_of m).form) pre rs a → DraftSettled spells (record { mnemonic = m; registers = rs; amount = a })
draft-settled m q = λ i. record { mnemonic = sym (mnemonic-back m) i; registers = q.registers i; amount = q.amount i }
