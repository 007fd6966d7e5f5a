-- A text that is put piece by piece, into any sink.
use mathlib.Core.Path.{◌≡◌, sym, subst}
use mathlib.Core.List.{List, ◌++◌}
use Prim.Native.Nat.{ℕ}
use Rattle.text_writer.specs.Sinks.{SinkLaws}

-- What is left of a text that fits, when the sink has become `t`: it fits there, and where it was taken, the text was.
pub record Left {S : Type 0} (Fits : S → List ℕ → Type 0) (Took : S → List ℕ → S → Type 0) (s : S) (text : List ℕ) (t : S) (rest : List ℕ)
    : Type 0 where
  pub fits : Fits t rest
  pub taken : (u : S) → Took t rest u → Took s text u

module _ {S : Type 0} {Fits : S → List ℕ → Type 0} {Took : S → List ℕ → S → Type 0} (laws : SinkLaws Fits Took) {s : S} {text : List ℕ} where
  -- At first it is the text, in its pieces,
  pub left-all : {pieces : List ℕ} → text ≡ pieces → Fits s text → Left Fits Took s text s pieces
  left-all e h = record { fits = subst (Fits s) e h; taken = λ u k. subst (λ x. Took s x u) (sym e) k }

  -- whose first fits,
  pub left-fits : {t : S} {piece : List ℕ} (rest : List ℕ) → Left Fits Took s text t (piece ++ rest) → Fits t piece
  left-fits {t} {piece} rest l = laws.fits_front t piece rest l.fits

  -- and the others are left behind it.
  pub left-next : {t u : S} {piece rest : List ℕ} → Took t piece u → Left Fits Took s text t (piece ++ rest) → Left Fits Took s text u rest
  left-next {t} {u} {piece} {rest} k l =
      record {
        fits = laws.fits_after t piece u rest l.fits k;
        taken = λ v m. l.taken v (laws.took_append t piece u rest v l.fits k m);
      }

-- ---- a text in two pieces, or in three

pub record Two (text a b : List ℕ) : Type 0 where
  pub are : text ≡ a ++ b

pub record Three (text a b c : List ℕ) : Type 0 where
  pub are : text ≡ a ++ (b ++ c)

-- Where it fits, each piece fits after those before it, and then the text was taken.
pub record PutTwo {S : Type 0} (Fits : S → List ℕ → Type 0) (Took : S → List ℕ → S → Type 0) (s : S) (text a b : List ℕ) : Type 0 where
  pub first : Fits s a
  pub second : {t : S} → Took s a t → Fits t b
  pub taken : {t u : S} → Took s a t → Took t b u → Took s text u

pub record PutThree {S : Type 0} (Fits : S → List ℕ → Type 0) (Took : S → List ℕ → S → Type 0) (s : S) (text a b c : List ℕ) : Type 0 where
  pub first : Fits s a
  pub second : {t : S} → Took s a t → Fits t b
  pub third : {t u : S} → Took s a t → Took t b u → Fits u c
  pub taken : {t u v : S} → Took s a t → Took t b u → Took u c v → Took s text v

module _ {S : Type 0} {Fits : S → List ℕ → Type 0} {Took : S → List ℕ → S → Type 0} (laws : SinkLaws Fits Took) {s : S} {text : List ℕ} where
  pub put_two : {a b : List ℕ} → Two text a b → Fits s text → PutTwo Fits Took s text a b
  put_two {b = b} e h =
      let all = left-all laws e.are h in
      record { first = left-fits laws b all; second = λ k. (left-next laws k all).fits; taken = λ k m. (left-next laws k all).taken _ m }

  pub put_three : {a b c : List ℕ} → Three text a b c → Fits s text → PutThree Fits Took s text a b c
  put_three {b = b} {c = c} e h =
      let all = left-all laws e.are h in
      record {
        first = left-fits laws (b ++ c) all;
        second = λ k. left-fits laws c (left-next laws k all);
        third = λ k m. (left-next laws m (left-next laws k all)).fits;
        taken = λ k m n. (left-next laws m (left-next laws k all)).taken _ n;
      }
