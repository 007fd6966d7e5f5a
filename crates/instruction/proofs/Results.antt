-- Laws of results, and of tests on each entry of a list.
use mathlib.Core.Path.{◌≡◌, refl, sym, ◌∙◌}
use Prim.Native.Nat.{ℕ, zero, suc}
use native.Mathlib.Omega.{arith}
use mathlib.Core.Bool.{Bool, true, false, true≢false}
use mathlib.Core.Option.{Option, none, some}
use mathlib.Core.List.{List, [], ◌∷◌}
use lib.ListN.{take, drop}
use lib.IntN.{ℤ}
use Rattle.text_lexical.specs.Bytes.{Result, value, refused, is_some, each}
use Rattle.text_lexical.specs.Promised.{whole_for}
use Rattle.text_lexical.specs.declared.number.Whole.{Whole}
use Rattle.text_lexical.proofs.Tests.{both, and_both}
use Rattle.text.specs.Promised.{kind_meant, extract_for}
use Rattle.text.specs.declared.lexer.Kind.{Kind}
use Rattle.text.specs.declared.lexer.Kind.TheVariants.{Identifier}
use Rattle.instruction.specs.Operands.{read_identifier}
use Rattle.std.specs.Prelude.{Ok}

-- ---- what a value tells of the tests before it

-- A refusal is no value.
pub not_refused {ℓ} : {X : Type ℓ} {A : Type 0} {k : ℕ} {a : A} → refused k ≡ value a → X
not_refused e = let z : ◌≡◌ {A = ℕ} 0 1 = cc in absurd (omega arith)

-- A value behind a test: the test holds.
pub test-value : {A : Type 0} (v : Bool) (r : Result A) (k : ℕ) (a : A) → ◌≡◌ {A = Result A} (elim v [ true ↦ r | false ↦ refused k ]) (value a)
    → (v ≡ true) × (r ≡ value a)
test-value true r k a e = (refl, e)
test-value false r k a e = not_refused e

-- A value behind something that may be missing: it is there.
pub option-value : {A B : Type 0} (o : Option A) (f : A → Result B) (k : ℕ) (b : B)
    → ◌≡◌ {A = Result B} (elim o [ none ↦ refused k | some a ↦ f a ]) (value b) → (a : A) × (o ≡ some a) × (f a ≡ value b)
option-value none f k b e = not_refused e
option-value (some a) f k b e = (a, refl, e)

-- A value behind another result: that one is a value too.
pub result_value : {A B : Type 0} (r : Result A) (f : A → Result B) (b : B)
    → ◌≡◌ {A = Result B} (elim r [ value a ↦ f a | refused k ↦ refused k ]) (value b) → (a : A) × (r ≡ value a) × (f a ≡ value b)
result_value (value a) f b e = (a, refl, e)
result_value (refused k) f b e = not_refused e

-- A number that was taken from a token is the one that the token is read as.
pub extracted-is : {w : Whole} (x : Result ℤ) → Ok w ≡ extract_for x → (z : ℤ) × ((x ≡ value z) × (w ≡ whole_for z))
extracted-is (value z) e = (z, (refl, cc))
extracted-is (refused n) e = absurd (let z : ◌≡◌ {A = ℕ} 0 1 = cc in omega arith)

-- No kind but Identifier is read as one.
pub no-identifier : (k : Kind) (u : List ℕ) → (k ≡ Identifier → ⊥) → read_identifier (kind_meant k u) ≡ none
unfolding read_identifier
no-identifier Identifier u f = absurd (f refl)
no-identifier k u f = refl

-- What is not there is missing.
pub nothing : {A : Type 0} (o : Option A) → is_some o ≡ false → o ≡ none
unfolding is_some
nothing none e = refl
nothing (some a) e = absurd (true≢false e)

-- A value that is made of another result's: that one is a value too.
pub through-value : {A B : Type 0} (f : Result A → Result B) (g : A → B) → ((a : A) → f (value a) ≡ value (g a)) → ((k : ℕ) → f (refused k) ≡ refused k)
    → (r : Result A) (b : B) → f r ≡ value b → (a : A) × (r ≡ value a) × (g a ≡ b)
through-value f g on off (value a) b e = let h = on a in (a, refl, cc)
through-value f g on off (refused k) b e = not_refused (sym (off k) ∙ e)

-- The test holds of what is there.
unfoldable pub when_some : {A : Type 0} → (A → Bool) → Option A → Bool
when_some p none = true
when_some p (some a) = p a

-- ---- each entry

-- What follows from two tests holds of each entry that passes both.
pub each_both : {A : Type 0} (p q r : A → Bool) → ((a : A) → p a ≡ true → q a ≡ true → r a ≡ true)
    → (l : List A) → each p l ≡ true → each q l ≡ true → each r l ≡ true
unfolding each
each_both p q r f [] hp hq = refl
each_both p q r f (a ∷ l) hp hq =
    let (pa, pl) = both (p a) (each p l) hp in
    let (qa, ql) = both (q a) (each q l) hq in
    and_both (r a) (each r l) (f a pa qa) (each_both p q r f l pl ql)

-- A test that each entry passes is passed by the first ones.
pub each_take : {A : Type 0} (p : A → Bool) (n : ℕ) (l : List A) → each p l ≡ true → each p (take n l) ≡ true
unfolding each
each_take p zero l h = refl
each_take p (suc n) [] h = refl
each_take p (suc n) (a ∷ l) h = let (pa, pl) = both (p a) (each p l) h in and_both (p a) (each p (take n l)) pa (each_take p n l pl)

-- And by those behind them.
pub each-drop : {A : Type 0} (p : A → Bool) (n : ℕ) (l : List A) → each p l ≡ true → each p (drop n l) ≡ true
unfolding each
each-drop p zero l h = h
each-drop p (suc n) [] h = refl
each-drop p (suc n) (a ∷ l) h = each-drop p n l (both (p a) (each p l) h).1
