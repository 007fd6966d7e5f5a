-- What a line comes to, by what it reads as.
use Prim.Native.Nat.{ℕ, suc, ◌+◌, ◌≤◌}
use mathlib.Core.Path.{◌≡◌, refl, sym, ap, ap₂, ◌∙◌}
use native.Mathlib.Omega.{arith}
use mathlib.Core.Bool.{Bool, true, false, ◌||◌}
use mathlib.Core.Option.{Option, none, some}
use mathlib.Core.List.{List}
use lib.Dec.{ltb}
use borrow.Author.Tests.{le-ltb, ltb-true}
use Rattle.std.specs.Prelude.{Result, Ok, Err}
use Rattle.refusal.specs.Refusals.{number_of, refusal_at}
use Rattle.refusal.specs.declared.refusal.Refusal.{Refusal}
use Rattle.refusal.specs.declared.refusal.Refusal.TheVariants.{TooManyWords}
use Rattle.refusal.proofs.Numbers.{number-back}
use Rattle.text_lexical.specs.Names.{Name}
use Rattle.text.specs.Lines.{indent, read_line}
use Rattle.text.specs.Lines.{Line as Record}
use Rattle.text.specs.Places.{rest_at, end_at}
use Rattle.instruction.specs.Operands.{exactly, to}
use Rattle.instruction.specs.Operands.{Amount as MeantAmount}
use Rattle.instruction.specs.Promised.{names_label, amount_back}
use Rattle.image.specs.Settings.{Settings, settings}
use Rattle.image.specs.Assembling.{State, Step, next, stop, nothing, codes, sets, faulty, read_on, changed_by, with_settings, most_words, with_instruction, doing}
use Rattle.image.specs.Assembling.{Effect as MeantEffect, Read as MeantRead}
use Rattle.image.specs.Meaning.{is_target, names_target}
use Rattle.image.specs.Promised.{settings_meant}
use Rattle.image_line.specs.Promised.{context_for, effect_meant, effect_label, effect_for, end_of, LineIs}
use Rattle.image_passes.specs.Promised.{effect_at, Rest, one_more, found_after, found_with, ended, rest_for, RestFits}
use Rattle.image.specs.declared.config.Config.{Config}
use Rattle.image_line.specs.declared.line.Effect.{Effect}
use Rattle.image_line.specs.declared.line.Read.{Read}
use Rattle.image_passes.specs.declared.first_pass.Done.{Done}
use Rattle.image_passes.specs.declared.first_pass.Found.{Found}
use Rattle.image_passes.proofs.Faults.{Named, effect-named}
use Rattle.image_passes.proofs.Reaching.{comes_to}

-- ---- what a line comes to

-- A refusal is the one with its number.
pub refusal_back : (r : Refusal) → refusal_at (number_of r) ≡ r
refusal_back r = number-back r

-- After 32,768 words one more is refused.
pub word-many : (names : Bool) (f : Found) → 32768 ≤ f.words → Err TooManyWords ≡ one_more names f
unfolding one_more most_words
word-many names f h = rw (one_more, le-ltb f.words 32768 h)

-- A state after a line that is not refused, its label aside, where there are so many words then.
abbrev pub grown : State → MeantEffect → ℕ → State
grown st e words = record { labels = st.labels; words = words; setup = changed_by st.setup e }

same-words : (st : State) (setup : Settings) {words : ℕ} → st.words ≡ words
    → ◌≡◌ {A = Step} (next (record { labels = st.labels; words = st.words; setup = setup })) (next (record { labels = st.labels; words = words; setup = setup }))
same-words st setup n = ap (λ (x : ℕ). next (record { labels = st.labels; words = x; setup = setup })) n

pub or-false : (b : Bool) → b ≡ (b || false)
or-false true = refl
or-false false = refl

-- A line that is not refused: what it does to a state with so many words, the settings then, whether a line so far names a label, and where it
-- ends.
pub record RestDone (e : MeantEffect) (f : Found) (end : ℕ) (d : Done) : Type 0 where
  pub does : (st : State) → st.words ≡ f.words → doing e (next st) ≡ next (grown st e d.found.words)
  pub settings : settings_meant d.found.config ≡ changed_by (settings_meant f.config) e
  pub targets : d.found.targets ≡ (f.targets || names_target e)
  pub ends : d.end ≡ end

-- What a line comes to, in either case.
abbrev RestIs : MeantEffect → Found → ℕ → Rest → Type 0
RestIs e f end (Err r) = (st : State) → st.words ≡ f.words → doing e (next st) ≡ stop (number_of r) st
RestIs e f end (Ok d) = RestDone e f end d

module _ (f : Found) (end : ℕ) where
  pub rest-is : (e : MeantEffect) → Named e → RestIs e f end (rest_for e f end)
  unfolding doing changed_by names_target with_settings with_instruction one_more settings
  rest-is nothing k = record { does = λ st n. same-words st st.setup n; settings = refl; targets = or-false f.targets; ends = refl }
  rest-is (sets setup) k = record { does = λ st n. same-words st setup n; settings = refl; targets = or-false f.targets; ends = refl }
  rest-is (codes i) k = by (ltb f.words most_words) refl
    where
      by : (b : Bool) → ltb f.words most_words ≡ b
          → RestIs (codes i) f end (ended (elim b [ true ↦ Ok (record { words = f.words + 1; config = f.config; targets = f.targets || is_target i.amount }) | false ↦ Err TooManyWords ]) end)
      by true l =
          record {
            does = λ st n.
                let k : ltb st.words most_words ≡ true = ap (λ (x : ℕ). ltb x most_words) n ∙ l in
                let m : suc st.words ≡ f.words + 1 = omega (arith, n) in
                rw (with_instruction, k) (ap (λ (x : ℕ). next (record { labels = st.labels; words = x; setup = st.setup })) m);
            settings = refl;
            targets = refl;
            ends = refl;
          }
      by false l = λ st n. let k : ltb st.words most_words ≡ false = ap (λ (x : ℕ). ltb x most_words) n ∙ l in rw (with_instruction, k)
  rest-is (faulty n) k = λ st _. ap (λ (m : ℕ). stop m st) (sym k)

  -- It leaves room.
  pub rest_fits : (line : ℕ) → line ≤ end + 1 → f.words ≤ 32768 → (e : MeantEffect) → RestFits line (rest_for e f end)
  unfolding one_more most_words
  rest_fits line few h nothing = (few, h)
  rest_fits line few h (sets setup) = (few, h)
  rest_fits line few h (codes i) = by (ltb f.words 32768) refl
    where
      by : (b : Bool) → ltb f.words 32768 ≡ b
          → RestFits line (ended (elim b [ true ↦ Ok (record { words = f.words + 1; config = f.config; targets = f.targets || is_target i.amount }) | false ↦ Err TooManyWords ]) end)
      by true l = (few, omega (arith, ltb-true f.words 32768 l))
      by false l = tt
  rest_fits line few h (faulty n) = tt

-- What the line at a place comes to.
pub line-is : (names : List Name) (s : List ℕ) (at : ℕ) (f : Found) → RestIs (effect_at names s at (settings_meant f.config)) f (end_at s at) (comes_to names s at f)
line-is names s at f = rest-is f (end_at s at) (effect_at names s at (settings_meant f.config)) (effect-named (context_for f.config) (read_line names (rest_at s at)))

-- ---- a line that was read

-- A code's draft names a label where the draft that it is for does.
names-back : (at : ℕ) (a : Option MeantAmount) → names_label (amount_back at a) ≡ is_target a
unfolding is_target
names-back at none = refl
names-back at (some (exactly z)) = refl
names-back at (some (to u)) = refl

found-for : (at : ℕ) (e : MeantEffect) (f : Found) → found_with (effect_for at e) f ≡ found_after e f
found-for at nothing f = refl
found-for at (sets s) f = refl
found-for at (codes d) f = ap (λ (b : Bool). one_more b f) (names-back at d.amount)
found-for at (faulty n) f = refl

module _ {names : List Name} {s : List ℕ} {from : ℕ} (c : Config) {r : Read} (h : LineIs names s from (context_for c) r) where
  -- What it does.
  pub effect_is : effect_meant s r.effect ≡ effect_at names s from (settings_meant c)
  effect_is = ap (λ (x : MeantRead). x.effect) h.reads

  pub effect-for : r.effect ≡ effect_for (effect_label r.effect) (effect_at names s from (settings_meant c))
  effect-for = ap (λ (x : Read). x.effect) h.is

-- What it comes to. A bad token leaves open where the line ends, but then it is refused.
pub comes-to : {names : List Name} {s : List ℕ} {from : ℕ} (f : Found) {r : Read} → LineIs names s from (context_for f.config) r
    → ended (found_with r.effect f) r.end ≡ comes_to names s from f
unfolding end_of read_on
comes-to {names} {s} {from} f {r} h =
    ap₂ (λ (x : Result Found Refusal) (n : ℕ). ended x n) (ap (λ (e : Result Effect Refusal). found_with e f) (effect-for f.config h) ∙ found-for (effect_label r.effect) (effect_at names s from (settings_meant f.config)) f) h.ends
    ∙ go (read_line names (rest_at s from))
  where
    go : (o : Option Record) → rest_for (read_on (context_for f.config) o).effect f (elim o [ none ↦ from + indent (rest_at s from) | some x ↦ end_at s from ]) ≡ rest_for (read_on (context_for f.config) o).effect f (end_at s from)
    go (some x) = refl
    go none = refl
