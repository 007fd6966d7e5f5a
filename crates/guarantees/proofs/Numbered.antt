-- The numbers of refusals are those that the promises list.
use Prim.Native.Nat.{ℕ, suc, ◌+◌, ◌%◌, ◌^◌}
use mathlib.Core.Path.{◌≡◌, refl, sym}
use mathlib.Core.Bool.{Bool, true, false, true≢false}
use mathlib.Core.Option.{Option, none, some}
use mathlib.Core.List.{List, [], ◌∷◌, ◌++◌}
use lib.ListN.{length}
use lib.Dec.{leb, ltb, eqb}
use Rattle.text_lexical.specs.Bytes.{ascii, every, each}
use Rattle.text_lexical.specs.Names.{Name}
use Rattle.text.specs.Lines.{Line, lines, indent, read_line}
use Rattle.instruction.specs.Table.{places, row_coded}
use Rattle.instruction.specs.Words.{unused_from, instruction_of}
use Rattle.image.specs.Program.{Header, magic, version, header_size, header_of, code_of, image_length}
use Rattle.image.specs.Opening.{header_fault, opening_fault}
use Rattle.image.specs.Listing.{words_of, text_of, Refusal, refusal, is_usual, words_fault, listing_fault, Listing, written, rejected as unwritten, listing}
use Rattle.image.specs.Assembling.{State, start, Step, next, stop, is_known, enter, Context, Effect, nothing, sets, codes, faulty, Read, read_on, reads, entering, most_words, with_instruction, doing, step, context_of, Walk, finished, stopped, walk, fault_in, Assembled, accepted, rejected, refusing, line_refused, read_to, most_bytes, reading, fitted, assembling}
use Rattle.image.proofs.Refused.{by-test, by-option, OfResult, by_result, OfFault, by-fault, OfEffect, of-settings, of-line, of-fault}
use Rattle.guarantees.specs.Calls.{reading_numbers, assembling_numbers, opening_numbers, textless_numbers, listing_numbers, is_one_of, OneOf}

-- One of some numbers is one of more.
pub one-of-more : (ms ns : List ℕ) (n : ℕ) → OneOf ms n → OneOf (ms ++ ns) n
one-of-more [] ns n h = absurd (true≢false (sym h))
one-of-more (m ∷ ms) ns n h = go (eqb n m) h (one-of-more ms ns n)
  where
    go : (b : Bool) → elim b [ true ↦ true | false ↦ is_one_of ms n ] ≡ true → (OneOf ms n → OneOf (ms ++ ns) n)
        → elim b [ true ↦ true | false ↦ is_one_of (ms ++ ns) n ] ≡ true
    go true h f = refl
    go false h f = f h

-- ---- lines

abbrev OfStep : Step → Type 0
OfStep (next st) = Unit {0}
OfStep (stop n st) = OneOf reading_numbers n

-- What a line does.
abbrev OfLine : Effect → Type 0
OfLine = OfEffect (OneOf reading_numbers)

line-numbered : (c : Context) (o : Option Line) → OfLine (read_on c o).effect
unfolding each
line-numbered = of-line (is_one_of reading_numbers) refl

of_word : (st : State) → OfStep (with_instruction st)
unfolding with_instruction
of_word st = by-test OfStep (ltb st.words most_words) tt refl

of-doing : (e : Effect) (d : Step) → OfLine e → OfStep d → OfStep (doing e d)
unfolding doing
of-doing e (stop n st) h k = k
of-doing nothing (next st) h k = tt
of-doing (sets s) (next st) h k = tt
of-doing (codes d) (next st) h k = of_word st
of-doing (faulty n) (next st) h k = h

of-label : (room : ℕ) (st : State) (at : ℕ) (o : Option (List ℕ)) → OfStep (entering room st at o)
unfolding entering enter
of-label room st at none = tt
of-label room st at (some s) = by-test OfStep (is_known st.labels s) refl (by-test OfStep (ltb (length st.labels) room) tt refl)

of-step : (room : ℕ) (st : State) (at : ℕ) (r : Read) → OfLine r.effect → OfStep (step room st at r)
unfolding step
of-step room st at r h = of-doing r.effect (entering room st at r.label) h (of-label room st at r.label)

abbrev OfWalk : Walk → Type 0
OfWalk (finished st) = Unit {0}
OfWalk (stopped n line st) = OneOf reading_numbers n

of-walk : (names : List Name) (room line at : ℕ) (st : State) (ls : List (List ℕ)) → OfWalk (walk names room line at st ls)
unfolding walk
of-walk names room line at st [] = tt
of-walk names room line at st (l ∷ ls) =
    go (step room st (at + indent l) (read_on (context_of st) (read_line names l))) (of-step room st (at + indent l) (read_on (context_of st) (read_line names l)) (line-numbered (context_of st) (read_line names l)))
    (λ st'. of-walk names room (suc line) (at + suc (length l)) st' ls)
  where
    go : (d : Step) → OfStep d → ((st' : State) → OfWalk (walk names room (suc line) (at + suc (length l)) st' ls))
        → OfWalk (elim d [ next st' ↦ walk names room (suc line) (at + suc (length l)) st' ls | stop n st' ↦ stopped n line st' ])
    go (next st') h k = k st'
    go (stop n st') h k = h

-- ---- the answer

abbrev pub OfAnswer : List ℕ → Assembled → Type 0
OfAnswer ns (accepted st) = Unit {0}
OfAnswer ns (rejected r) = OneOf ns r.number

of-read : (rs : List Read) (w : Walk) → OfWalk w → OfAnswer reading_numbers (read_to rs w)
unfolding read_to line_refused refusing
of-read rs (finished st) h = by-fault (OfAnswer reading_numbers) (fault_in rs) (of-fault (OneOf reading_numbers) refl refl rs) tt (λ f k. k)
of-read rs (stopped n line st) h = h

pub reading-numbered : (names : List Name) (s : List ℕ) (room : ℕ) → OfAnswer reading_numbers (reading names s room)
unfolding reading refusing
reading-numbered names s room =
    let P = OfAnswer reading_numbers in
    by-test P (leb (length s) most_bytes) (by-test P (every ascii s) (of-read (reads names s) (walk names room 1 0 start (lines s)) (of-walk names room 1 0 start (lines s))) refl) refl

of-fitted : (size : ℕ) (a : Assembled) → OfAnswer reading_numbers a → OfAnswer assembling_numbers (fitted size a)
unfolding fitted refusing
of-fitted size (rejected r) h = one-of-more reading_numbers (23 ∷ []) r.number h
of-fitted size (accepted st) h = by-test (OfAnswer assembling_numbers) (leb (image_length st.words) size) tt refl

pub assembling-numbered : (names : List Name) (s : List ℕ) (room size : ℕ) → OfAnswer assembling_numbers (assembling names s room size)
unfolding assembling
assembling-numbered names s room size = of-fitted size (reading names s room) (reading-numbered names s room)

-- ---- opening and listing

abbrev OfOpening : Option ℕ → Type 0
OfOpening = OfFault (OneOf opening_numbers)

header-numbered : (h : Header) → OfOpening (header_fault h)
unfolding header_fault
header-numbered h =
    by-test OfOpening (eqb h.magic magic) (by-test OfOpening (eqb h.version version) (of-settings (OneOf opening_numbers) refl refl refl refl h.setup) refl) refl

pub opening_numbered : (b : List ℕ) → OfFault (OneOf opening_numbers) (opening_fault b)
unfolding opening_fault
opening_numbered b =
    let h = header_of b in
    by-test OfOpening (ltb (length b) header_size) refl
    (by-fault OfOpening (header_fault h) (header-numbered h)
    (by-test OfOpening (eqb (h.code_size % 4) 0) (by-test OfOpening (eqb (length b) (header_size + h.code_size + h.data_size)) tt refl) refl) (λ n k. k))

-- A refusal's number, if there is one.
abbrev pub OfRefusal : Option Refusal → Type 0
OfRefusal = OfFault (λ (r : Refusal). OneOf textless_numbers r.number)

of-decoded : (w : ℕ) → OfResult (OneOf textless_numbers) (instruction_of w)
unfolding instruction_of
of-decoded w =
    let P = OfResult (OneOf textless_numbers) in
    by-option P (row_coded (w % 128)) refl (λ r. by-test P (ltb w (2 ^ unused_from (places r.form))) tt refl)

words-numbered : (i : ℕ) (ws : List ℕ) → OfRefusal (words_fault i ws)
unfolding words_fault refusal
words-numbered i [] = tt
words-numbered i (w ∷ ws) = by_result (OneOf textless_numbers) OfRefusal (instruction_of w) (of-decoded w) (λ _. words-numbered (suc i) ws) (λ n k. k)

pub fault-numbered : (b : List ℕ) → OfRefusal (listing_fault b)
unfolding listing_fault refusal
fault-numbered b =
    by-fault OfRefusal (opening_fault b) (opening_numbered b) (by-test OfRefusal (is_usual (header_of b)) (words-numbered 0 (words_of (code_of b))) refl)
    (λ n k. one-of-more opening_numbers (29 ∷ 30 ∷ 31 ∷ []) n k)

abbrev pub OfListing : Listing → Type 0
OfListing (written t) = Unit {0}
OfListing (unwritten r) = OneOf listing_numbers r.number

pub listing_numbered : (b : List ℕ) (size : ℕ) → OfListing (listing b size)
unfolding listing refusal
listing_numbered b size =
    by-fault OfListing (listing_fault b) (fault-numbered b) (by-test OfListing (leb (length (text_of b)) size) tt refl)
    (λ r k. one-of-more textless_numbers (32 ∷ []) r.number k)
