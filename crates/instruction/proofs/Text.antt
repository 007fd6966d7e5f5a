-- The text of an instruction: its tokens, read again as the instruction, and its bytes, its ends and its length as a line.
use mathlib.Core.Path.{◌≡◌, refl, sym, ap, ◌∙◌}
use Prim.Native.Nat.{ℕ, zero, suc, ◌+◌, ◌-◌, ◌/◌, ◌^◌, ◌≤◌, ◌<◌}
use native.Mathlib.Nat.{le_trans}
use native.Mathlib.Omega.{arith}
use mathlib.Core.Bool.{Bool, true, false, not, ◌&&◌, true≢false, and-eq-true_iff}
use mathlib.Core.Option.{Option, none, some}
use mathlib.Core.List.{List, [], ◌∷◌, ◌++◌, append-nil}
use lib.ListN.{length, length-append}
use lib.Seq.{take_all}
use lib.Dec.{leb, eqb}
use lib.IntN.{ℤ, pos, negsuc}
use lib.Pow.{pow-add}
use borrow.Author.Tests.{leb-true, lt-ltb, le-ltb, eq-eqb, not-true}
use Rattle.text_lexical.specs.Bytes.{value, bytes, between, letter, digit, name_start, name_part, edge, every, find, is_some, each}
use Rattle.text_lexical.specs.Numbers.{NumberRange, lies_in, meant_by, decimal_in, decimal, signed_decimal}
use Rattle.text_lexical.specs.Names.{Name}
use Rattle.text_lexical.proofs.Tests.{split, both, between-true}
use Rattle.text_lexical.proofs.Strings.{every-head, every_append, every-mono, ends}
use Rattle.text_lexical.proofs.Numbers.{decimal-digits, decimal-length}
use Rattle.text.specs.Tokens.{is_identifier, is_register, Token, identifier, register, number, comma, opening, closing, infront, tokens}
use Rattle.text.specs.Values.{read_decimal, read_number}
use Rattle.text.specs.Lines.{Line, kept, line_of, read_line}
use Rattle.text.specs.NameSets.{Naming}
use Rattle.text.proofs.Tokens.{Within64, tokens-nil, reads-identifier, reads-register, reads-decimal, reads-comma, reads-opening, reads-closing, reads-space}
use Rattle.text.proofs.Lines.{visible, high-visible, high-plain, decimal-visible, Closed, closed-append, closed-every, decimal-closed, Trimmed, read-visible}
use Rattle.instruction.specs.Table.{Place, reg, num, mark, a-comma, an-opening, a-closing, I, places, Row, row, table, row_coded}
use Rattle.instruction.specs.Operands.{Instruction, exactly, Draft, Amount, takes_label, read_register, read_identifier, mark_byte, read_exactly, read_amount, no_operands, with_register, with_amount, read_place, read_operands, made, read_row, read_mnemonic, read_instruction}
use Rattle.instruction.specs.Words.{field_at, registers_in, number_in, unused_from, taken, instruction_of}
use Rattle.instruction.specs.Text.{register_text, number_text, separator_text, places_text, operands_text, instruction_text}
use Rattle.instruction.specs.Fits.{InTable, places_of, Regs, number_range, has_number, width_of, number_width, Fits, reduced_in, reduced_to}
use Rattle.instruction.proofs.Rows.{lower_case, marked, apart, carried, row-facts}
use Rattle.instruction.proofs.Results.{nothing}
use Rattle.instruction.proofs.Placing.{reduced-lt, single, one-number}
use Rattle.instruction.proofs.Ranges.{lies-within, Lies, lies-unasked, reduced-lies}

-- ---- the tokens of operands

-- The tokens of registers and a number at places.
places_tokens : List Place → List ℕ → Option ℤ → List Token
places_tokens [] rs n = []
places_tokens (reg bit ∷ ps) [] n = places_tokens ps [] n
places_tokens (reg bit ∷ ps) (r ∷ rs) n = register (some r) ∷ places_tokens ps rs n
places_tokens (num bit width signed ∷ ps) rs none = places_tokens ps rs none
places_tokens (num bit width signed ∷ ps) rs (some z) = number z ∷ places_tokens ps rs (some z)
places_tokens (mark a-comma ∷ ps) rs n = comma ∷ places_tokens ps rs n
places_tokens (mark an-opening ∷ ps) rs n = opening ∷ places_tokens ps rs n
places_tokens (mark a-closing ∷ ps) rs n = closing ∷ places_tokens ps rs n

-- The tokens of an instruction's operands.
unfoldable pub operand_tokens : Instruction → List Token
unfolding places_tokens
operand_tokens i = places_tokens (places_of i.row) i.registers i.number

-- There is a number where there is a place for one.
abbrev Given : List Place → Option ℤ → Type 0
Given ps n = has_number ps ≡ true → is_some n ≡ true

-- A token for each place.
places_count : (ps : List Place) (rs : List ℕ) (n : Option ℤ) → Regs ps rs → Given ps n → length (places_tokens ps rs n) ≡ length ps
unfolding places_tokens Regs is_some number_range has_number
places_count [] rs n f g = refl
places_count (reg bit ∷ ps) [] n f g = absurd f
places_count (reg bit ∷ ps) (r ∷ rs) n f g = ap suc (places_count ps rs n f.1 g)
places_count (num bit width signed ∷ ps) rs none f g = absurd (true≢false (sym (g refl)))
places_count (num bit width signed ∷ ps) rs (some z) f g = ap suc (places_count ps rs (some z) f (λ h. refl))
places_count (mark a-comma ∷ ps) rs n f g = ap suc (places_count ps rs n f g)
places_count (mark an-opening ∷ ps) rs n f g = ap suc (places_count ps rs n f g)
places_count (mark a-closing ∷ ps) rs n f g = ap suc (places_count ps rs n f g)

-- A number, where there is a place for one.
kept_in : Option NumberRange → Option ℤ → Option ℤ
kept_in none n = none
kept_in (some f) n = n

kept_whole : (o : Option NumberRange) (n : Option ℤ) → is_some n ≡ is_some o → kept_in o n ≡ n
unfolding kept_in is_some
kept_whole none n h = sym (nothing n h)
kept_whole (some f) n h = refl

-- The amount that is exactly a number, if there is one; and what a line has of an instruction whose number it tells.
unfoldable pub exact : Option ℤ → Option Amount
exact none = none
exact (some z) = some (exactly z)

unfoldable pub drafted : Instruction → Draft
drafted i = record { row = i.row; registers = i.registers; amount = exact i.number }

-- The token of a number in a range is read as exactly it, where a label may stand too.
number-read : (r : NumberRange) (label : Bool) (z : ℤ) → lies_in r z ≡ true → read_amount r label (number z) ≡ value (exactly z)
unfolding read_amount read_exactly read_number read_decimal read_identifier
number-read r true z l = rw (read_amount, read_exactly, read_number, read_decimal, l)
number-read r false z l = rw (read_amount, read_exactly, read_number, read_decimal, l)

-- They are read as the registers and exactly the number, if it is in its range.
places-read : (label : Bool) (ps : List Place) (rs : List ℕ) (n : Option ℤ) → Regs ps rs → Given ps n → single ps ≡ true → Lies (number_range ps) n
    → read_operands label ps (places_tokens ps rs n) ≡ value (record { registers = rs; amount = exact (kept_in (number_range ps) n) })
unfolding places_tokens Regs is_some number_range has_number kept_in read_operands read_place read_register mark_byte no_operands with_register with_amount exact single Lies
places-read label [] [] n f g o l = refl
places-read label [] (r ∷ rs) n f g o l = absurd f
places-read label (reg bit ∷ ps) [] n f g o l = absurd f
places-read label (reg bit ∷ ps) (r ∷ rs) n f g o l = rw (places-read label ps rs n f.1 g o l)
places-read label (num bit width signed ∷ ps) rs none f g o l = absurd (true≢false (sym (g refl)))
places-read label (num bit width signed ∷ ps) rs (some z) f g o l =
    let (e, o) = both (not (has_number ps)) (single ps) o in
    rw (read_place, number-read _ label z l, places-read label ps rs (some z) f (λ h. refl) o (lies-unasked (number_range ps) (some z) (not-true (has_number ps) e)))
places-read label (mark a-comma ∷ ps) rs n f g o l = places-read label ps rs n f g o l
places-read label (mark an-opening ∷ ps) rs n f g o l = places-read label ps rs n f g o l
places-read label (mark a-closing ∷ ps) rs n f g o l = places-read label ps rs n f g o l

-- A token is no colon.
unfoldable pub no_colon : Token → Bool
no_colon t = not (eqb (mark_byte t) 58)

places-no-colon : (ps : List Place) (rs : List ℕ) (n : Option ℤ) → each no_colon (places_tokens ps rs n) ≡ true
unfolding places_tokens each no_colon mark_byte
places-no-colon [] rs n = refl
places-no-colon (reg bit ∷ ps) [] n = places-no-colon ps [] n
places-no-colon (reg bit ∷ ps) (r ∷ rs) n = places-no-colon ps rs n
places-no-colon (num bit width signed ∷ ps) rs none = places-no-colon ps rs none
places-no-colon (num bit width signed ∷ ps) rs (some z) = places-no-colon ps rs (some z)
places-no-colon (mark a-comma ∷ ps) rs n = places-no-colon ps rs n
places-no-colon (mark an-opening ∷ ps) rs n = places-no-colon ps rs n
places-no-colon (mark a-closing ∷ ps) rs n = places-no-colon ps rs n

-- No operand is a colon, so a mnemonic before operands is no label.
pub no-colon : (i : Instruction) → each no_colon (operand_tokens i) ≡ true
unfolding operand_tokens
no-colon i = places-no-colon (places_of i.row) i.registers i.number

-- ---- the number's text

-- A number of so many digits is below that power of ten.
decimal_in-below : (k n : ℕ) → n ≤ k → n < 10 ^ length (decimal_in k n)
unfolding decimal_in
decimal_in-below zero n h = omega arith
decimal_in-below (suc k) n h =
    split n 10 (λ l. rw (decimal_in, lt-ltb n 10 l) (omega arith))
    (λ l. rw (decimal_in, le-ltb n 10 l, length-append) (omega (arith, pow-add 10 (length (decimal_in k (n / 10))) 1, decimal_in-below k (n / 10) (omega arith))))

-- A smaller number has no more digits.
decimal-longest : (n m : ℕ) → n ≤ m → length (decimal n) ≤ length (decimal m)
unfolding decimal
decimal-longest n m h =
    let d = decimal-digits m in
    let e = ap length d.shape in
    rw e (decimal-length (length d.tail) n (rw (← e) (omega (arith, decimal_in-below m m (omega arith)))))

-- How many bytes a number of a field takes at most: those of the largest, or a sign and those of the least.
field_room : Bool → ℕ → ℕ
field_room false k = length (decimal (2 ^ k - 1))
field_room true k = suc (length (decimal (2 ^ k / 2)))

-- A number of a field has room.
meant-length : (s : Bool) (k v : ℕ) → v < 2 ^ k → length (signed_decimal (meant_by s k v)) ≤ field_room s k
unfolding meant_by signed_decimal field_room
meant-length false k v h = decimal-longest v (2 ^ k - 1) (omega arith)
meant-length true k v h =
    split (v + v) (2 ^ k)
    (λ l. rw (meant_by, lt-ltb (v + v) (2 ^ k) l) (omega (arith, decimal-longest v (2 ^ k / 2) (omega arith))))
    (λ l. rw (meant_by, le-ltb (v + v) (2 ^ k) l) (omega (arith, decimal-longest (suc (2 ^ k - suc v)) (2 ^ k / 2) (omega arith))))

-- A number, if there is one, whose text is one token.
Readable : Option ℤ → Type 0
Readable none = Unit {0}
Readable (some z) = Within64 z

-- How many bytes the number takes at most.
room_in : Option NumberRange → ℕ
room_in none = 0
room_in (some f) = field_room f.signed f.width

reduced-readable : (o : Option NumberRange) (n : Option ℤ) → width_of o ≤ 21 → Readable (reduced_in o n)
unfolding width_of reduced_in Readable Lies
reduced-readable none n l = tt
reduced-readable (some f) n l = lies-within f _ l (reduced-lies (some f) n)

reduced-length : (o : Option NumberRange) (n : Option ℤ) → length (number_text (reduced_in o n)) ≤ room_in o
unfolding reduced_in number_text room_in
reduced-length none n = omega arith
reduced-length (some f) n = meant-length f.signed f.width _ (reduced-lt f.width n)

number-visible : (n : Option ℤ) → every visible (number_text n) ≡ true
unfolding number_text signed_decimal every visible between
number-visible none = refl
number-visible (some (pos n)) = decimal-visible n
number-visible (some (negsuc n)) = decimal-visible (suc n)

number-closed : (z : ℤ) → Closed (signed_decimal z)
unfolding signed_decimal
number-closed (pos n) = decimal-closed n
number-closed (negsuc n) = closed-append (45 ∷ []) (decimal (suc n)) (decimal-closed (suc n))

-- A byte above the space, alone.
closed-byte : (b : ℕ) → 33 ≤ b → Closed (b ∷ [])
closed-byte b l = record { init = []; last = b; back = refl; plain = high-plain b l }

-- ---- the operands' text

-- Its bytes are visible.
places-visible : (ps : List Place) (rs : List ℕ) (n : Option ℤ) → every visible (places_text ps rs n) ≡ true
unfolding places_text register_text every visible between
places-visible [] rs n = refl
places-visible (reg bit ∷ ps) [] n = places-visible ps [] n
places-visible (reg bit ∷ ps) (r ∷ rs) n = every_append visible (decimal r) (places_text ps rs n) (decimal-visible r) (places-visible ps rs n)
places-visible (num bit width signed ∷ ps) rs n = every_append visible (number_text n) (places_text ps rs n) (number-visible n) (places-visible ps rs n)
places-visible (mark a-comma ∷ ps) rs n = places-visible ps rs n
places-visible (mark an-opening ∷ ps) rs n = places-visible ps rs n
places-visible (mark a-closing ∷ ps) rs n = places-visible ps rs n

-- Behind a comma something follows.
closes : List Place → Bool
closes [] = true
closes (reg bit ∷ ps) = closes ps
closes (num bit width signed ∷ ps) = closes ps
closes (mark a-comma ∷ []) = false
closes (mark a-comma ∷ p ∷ ps) = closes (p ∷ ps)
closes (mark an-opening ∷ ps) = closes ps
closes (mark a-closing ∷ ps) = closes ps

-- The text of no places is empty, and the text of places ends in no edge.
Ending : List Place → List ℕ → Type 0
Ending [] s = s ≡ []
Ending (p ∷ ps) s = Closed s

closed-before : (ps : List Place) (s t : List ℕ) → Closed s → Ending ps t → Closed (s ++ t)
unfolding Ending
closed-before [] s t c e = rw (e, append-nil s) c
closed-before (p ∷ ps) s t c e = closed-append s t e

places-ending : (ps : List Place) (rs : List ℕ) (n : Option ℤ) → Regs ps rs → Given ps n → closes ps ≡ true → Ending ps (places_text ps rs n)
unfolding Ending closes places_text register_text number_text Regs is_some number_range has_number
places-ending [] rs n f g h = refl
places-ending (reg bit ∷ ps) [] n f g h = absurd f
places-ending (reg bit ∷ ps) (r ∷ rs) n f g h = closed-before ps (114 ∷ decimal r) _ (closed-append (114 ∷ []) _ (decimal-closed r)) (places-ending ps rs n f.1 g h)
places-ending (num bit width signed ∷ ps) rs none f g h = absurd (true≢false (sym (g refl)))
places-ending (num bit width signed ∷ ps) rs (some z) f g h = closed-before ps (signed_decimal z) _ (number-closed z) (places-ending ps rs (some z) f (λ h. refl) h)
places-ending (mark a-comma ∷ []) rs n f g h = absurd (true≢false (sym h))
places-ending (mark a-comma ∷ p ∷ ps) rs n f g h = closed-append (44 ∷ 32 ∷ []) _ (places-ending (p ∷ ps) rs n f g h)
places-ending (mark an-opening ∷ ps) rs n f g h = closed-before ps (40 ∷ []) _ (closed-byte 40 (omega arith)) (places-ending ps rs n f g h)
places-ending (mark a-closing ∷ ps) rs n f g h = closed-before ps (41 ∷ []) _ (closed-byte 41 (omega arith)) (places-ending ps rs n f g h)

-- How many bytes the operands take at most, where the number takes so many.
places_room : ℕ → List Place → ℕ
places_room m [] = 0
places_room m (reg bit ∷ ps) = 3 + places_room m ps
places_room m (num bit width signed ∷ ps) = m + places_room m ps
places_room m (mark s ∷ ps) = length (separator_text s) + places_room m ps

places-length : (ps : List Place) (rs : List ℕ) (n : Option ℤ) (m : ℕ) → Regs ps rs → length (number_text n) ≤ m → length (places_text ps rs n) ≤ places_room m ps
unfolding places_text register_text places_room Regs
places-length [] rs n m f l = omega arith
places-length (reg bit ∷ ps) [] n m f l = absurd f
places-length (reg bit ∷ ps) (r ∷ rs) n m f l = rw length-append (omega (arith, decimal-length 1 r (omega arith), places-length ps rs n m f.1 l))
places-length (num bit width signed ∷ ps) rs n m f l = rw length-append (omega (arith, places-length ps rs n m f l))
places-length (mark s ∷ ps) rs n m f l = rw length-append (omega (arith, places-length ps rs n m f l))

-- A mark comes next, or nothing, so what stands before is read whole.
ends-marked : (ps : List Place) (rs : List ℕ) (n : Option ℤ) → marked ps ≡ true → ends name_part (places_text ps rs n) ≡ true
unfolding marked places_text ends name_part name_start letter digit between
ends-marked [] rs n h = refl
ends-marked (reg bit ∷ ps) rs n h = absurd (true≢false (sym h))
ends-marked (num bit width signed ∷ ps) rs n h = absurd (true≢false (sym h))
ends-marked (mark a-comma ∷ ps) rs n h = refl
ends-marked (mark an-opening ∷ ps) rs n h = refl
ends-marked (mark a-closing ∷ ps) rs n h = refl

module _ (names : List Name) (N : Naming names) where
  -- The text of operands is read as their tokens.
  places-tokens : (ps : List Place) (rs : List ℕ) (n : Option ℤ) → apart ps ≡ true → Regs ps rs → Readable n
      → tokens names (places_text ps rs n) ≡ some (places_tokens ps rs n)
  unfolding apart Regs Readable places_text register_text number_text places_tokens infront
  places-tokens [] rs n a f h = tokens-nil names
  places-tokens (reg bit ∷ ps) [] n a f h = absurd f
  places-tokens (reg bit ∷ ps) (r ∷ rs) n a f h =
      let (m, a) = both (marked ps) (apart ps) a in
      reads-register names N.identifiers (114 ∷ decimal r) _ (some r) (N.numbered r f.0) (ends-marked ps rs n m)
      ∙ ap (infront (register (some r))) (places-tokens ps rs n a f.1 h)
  places-tokens (num bit width signed ∷ ps) rs none a f h = places-tokens ps rs none (both (marked ps) (apart ps) a).1 f h
  places-tokens (num bit width signed ∷ ps) rs (some z) a f h =
      let (m, a) = both (marked ps) (apart ps) a in
      reads-decimal names N.identifiers z _ h (ends-marked ps rs (some z) m) ∙ ap (infront (number z)) (places-tokens ps rs (some z) a f h)
  places-tokens (mark a-comma ∷ ps) rs n a f h =
      reads-comma names N.identifiers _ ∙ ap (infront comma) (reads-space names N.identifiers _ ∙ places-tokens ps rs n a f h)
  places-tokens (mark an-opening ∷ ps) rs n a f h = reads-opening names N.identifiers _ ∙ ap (infront opening) (places-tokens ps rs n a f h)
  places-tokens (mark a-closing ∷ ps) rs n a f h = reads-closing names N.identifiers _ ∙ ap (infront closing) (places-tokens ps rs n a f h)

  -- The tokens of a mnemonic and of operands behind it.
  operands-tokens : (m : List ℕ) (ps : List Place) (rs : List ℕ) (n : Option ℤ) → is_identifier m ≡ true → is_register names m ≡ false
      → tokens names (places_text ps rs n) ≡ some (places_tokens ps rs n) → tokens names (m ++ operands_text ps rs n) ≡ some (identifier m ∷ places_tokens ps rs n)
  unfolding operands_text places_text places_tokens infront ends name_part name_start letter digit between
  operands-tokens m [] rs n i r e = reads-identifier names N.identifiers m [] i r refl ∙ ap (infront (identifier m)) e
  operands-tokens m (p ∷ ps) rs n i r e =
      reads-identifier names N.identifiers m (32 ∷ places_text (p ∷ ps) rs n) i r refl
      ∙ ap (infront (identifier m)) (reads-space names N.identifiers _ ∙ e)

-- ---- an instruction's text

-- What is asked of each row: eight places at most, no comma at the end, and room for the text in 21 bytes.
text_rule : Row → Bool
text_rule r =
    leb (length (places_of r)) 8 && (closes (places_of r)
    && leb (length r.mnemonic + suc (places_room (room_in (number_range (places_of r))) (places_of r))) 21)

table-short : each text_rule table ≡ true
unfolding each text_rule table row bytes places closes places_room room_in field_room number_range decimal decimal_in
table-short = refl

record Short (r : Row) : Type 0 where
  few : length (places_of r) ≤ 8
  ended : closes (places_of r) ≡ true
  room : length r.mnemonic + suc (places_room (room_in (number_range (places_of r))) (places_of r)) ≤ 21

short : (r : Row) → InTable r → Short r
unfolding text_rule
short r h =
    let (f, k) = (and-eq-true_iff (leb (length (places_of r)) 8) _).0 (carried text_rule table-short r h) in
    let (e, l) = (and-eq-true_iff (closes (places_of r)) _).0 k in
    record { few = leb-true _ 8 f; ended = e; room = leb-true _ 21 l }

lower-visible : (b : ℕ) → lower_case b ≡ true → visible b ≡ true
unfolding lower_case
lower-visible b h = let r = between-true 97 122 b h in high-visible b (omega arith) (omega arith)

lower-plain : (b : ℕ) → lower_case b ≡ true → edge b ≡ false
unfolding lower_case
lower-plain b h = let r = between-true 97 122 b h in high-plain b (omega arith)

-- A mnemonic, and operands behind a space where there are some.
module _ (m : List ℕ) (rs : List ℕ) (n : Option ℤ) where
  operands-visible : (ps : List Place) → every lower_case m ≡ true → every visible (m ++ operands_text ps rs n) ≡ true
  unfolding operands_text every visible between
  operands-visible ps h = every_append visible m (operands_text ps rs n) (every-mono lower_case visible lower-visible m h) (go ps)
    where
      go : (ps : List Place) → every visible (operands_text ps rs n) ≡ true
      go [] = refl
      go (p ∷ ps) = places-visible (p ∷ ps) rs n

  operands-closed : (ps : List Place) → Closed m → Ending ps (places_text ps rs n) → Closed (m ++ operands_text ps rs n)
  unfolding operands_text Ending
  operands-closed [] c e = rw append-nil c
  operands-closed (p ∷ ps) c e = closed-append m (32 ∷ places_text (p ∷ ps) rs n) (closed-append (32 ∷ []) _ e)

  operands-length : (ps : List Place) (k : ℕ) → length (places_text ps rs n) ≤ k → length (m ++ operands_text ps rs n) ≤ length m + suc k
  unfolding operands_text
  operands-length [] k l = rw length-append (omega arith)
  operands-length (p ∷ ps) k l = rw length-append (omega arith)

-- What begins with a word of lower-case letters and ends in no edge.
trimmed-word : (m s : List ℕ) → is_identifier m ≡ true → every lower_case m ≡ true → (Closed m → Closed (m ++ s)) → Trimmed (m ++ s)
unfolding is_identifier
trimmed-word [] s i h c = absurd (true≢false (sym i))
trimmed-word (b ∷ m) s i h c =
    record { head = b; tail = m ++ s; front = refl; plain = lower-plain b (every-head lower_case b m h); closed = c (closed-every lower_case lower-plain b m h) }

-- A line with no more tokens than it keeps.
line-whole : (ts : List Token) → length ts ≤ kept → line_of ts ≡ record { count = length ts; first = ts }
unfolding line_of
line-whole ts l = rw (take_all kept ts l)

module _ (i : Instruction) (f : Fits i) where
  -- It has a number where it has a place for one.
  given : Given (places_of i.row) i.number
  given h = f.number ∙ h

  -- A token for each place.
  count : length (operand_tokens i) ≡ length (places_of i.row)
  unfolding operand_tokens
  count = places_count (places_of i.row) i.registers i.number f.registers given

  -- It has no more tokens than a line keeps.
  pub few-tokens : length (identifier i.row.mnemonic ∷ operand_tokens i) ≤ kept
  few-tokens = let l = (short i.row f.in_table).few in let c = count in omega arith

  -- So a line keeps them all.
  pub tokens-kept : (line_of (identifier i.row.mnemonic ∷ operand_tokens i)).first ≡ identifier i.row.mnemonic ∷ operand_tokens i
  tokens-kept = ap (λ (l : Line). l.first) (line-whole _ few-tokens)

  -- Its bytes are visible.
  pub text-visible : every visible (instruction_text i) ≡ true
  unfolding instruction_text
  text-visible = operands-visible i.row.mnemonic i.registers i.number (places_of i.row) (row-facts i.row f.in_table).letters

  -- Neither its first byte nor its last one is an edge.
  pub text-trimmed : Trimmed (instruction_text i)
  unfolding instruction_text
  text-trimmed =
      let r = row-facts i.row f.in_table in
      let e = places-ending (places_of i.row) i.registers i.number f.registers given (short i.row f.in_table).ended in
      trimmed-word i.row.mnemonic _ r.identifier r.letters (λ c. operands-closed i.row.mnemonic i.registers i.number (places_of i.row) c e)

  module _ (m : reduced_to i ≡ i) where
    -- Its number is the one that its field means.
    its-number : reduced_in (number_range (places_of i.row)) i.number ≡ i.number
    unfolding reduced_to
    its-number = ap (λ (j : Instruction). j.number) m

    -- It is in the field's range.
    pub its-range : Lies (number_range (places_of i.row)) i.number
    its-range = rw its-number at (reduced-lies (number_range (places_of i.row)) i.number)

    -- Its tokens are read as the instruction, its number exactly.
    pub tokens-read : read_instruction (line_of (identifier i.row.mnemonic ∷ operand_tokens i)) ≡ value (drafted i)
    unfolding read_instruction read_mnemonic read_identifier read_row made operand_tokens has_number drafted
    tokens-read =
        let c : suc (length (operand_tokens i)) - 1 ≡ length (places_of i.row) = let c = count in omega arith in
        rw (line-whole (identifier i.row.mnemonic ∷ operand_tokens i) few-tokens, c)
        (rw (
          read_mnemonic,
          (row-facts i.row f.in_table).again,
          read_row,
          eq-eqb (length (places_of i.row)) _ refl,
          places-read (takes_label i.row.form) (places_of i.row) i.registers i.number f.registers given (one-number i.row f.in_table) its-range,
          kept_whole (number_range (places_of i.row)) i.number f.number,
        ))

    -- It takes 21 bytes at most.
    pub text-length : length (instruction_text i) ≤ 21
    unfolding instruction_text
    text-length =
        let o = number_range (places_of i.row) in
        let l : length (number_text i.number) ≤ room_in o = rw its-number at (reduced-length o i.number) in
        le_trans (operands-length i.row.mnemonic i.registers i.number (places_of i.row) _
        (places-length (places_of i.row) i.registers i.number (room_in o) f.registers l)) (short i.row f.in_table).room

    -- Its tokens, read by any set of names in which the mnemonic is none.
    pub text-tokens : (names : List Name) → Naming names → is_register names i.row.mnemonic ≡ false
        → tokens names (instruction_text i) ≡ some (identifier i.row.mnemonic ∷ operand_tokens i)
    unfolding instruction_text operand_tokens number_width
    text-tokens names N h =
        let r = row-facts i.row f.in_table in
        let l = rw its-number at (reduced-readable (number_range (places_of i.row)) i.number r.narrow) in
        operands-tokens names N i.row.mnemonic (places_of i.row) i.registers i.number r.identifier h
        (places-tokens names N (places_of i.row) i.registers i.number r.stands f.registers l)

    -- As a line it is read as these tokens.
    pub text-line : (names : List Name) → Naming names → is_register names i.row.mnemonic ≡ false
        → read_line names (instruction_text i) ≡ some (line_of (identifier i.row.mnemonic ∷ operand_tokens i))
    text-line names N h = read-visible names (instruction_text i) _ text-trimmed text-visible (text-tokens names N h)

-- Some take 21 bytes: `addi r15, r15, -65536`.
pub longest-text : (i : Instruction) × (instruction_of 0x80007F88 ≡ value i) × (length (instruction_text i) ≡ 21)
unfolding instruction_of unused_from taken registers_in number_in field_at row_coded table row bytes places find meant_by instruction_text operands_text places_text register_text number_text signed_decimal decimal decimal_in
longest-text = (taken (row "addi" 0x08 I) 0x80007F88, refl, refl)
