use Rattle.std.proofs.result.Match.{err_is}
use Rattle.std.proofs.Common.{rules}
use Rattle.std.specs.Prelude.{Ok, Err, Result as Answer}
use Rattle.std.specs.Result.{MatchResult, IsErrAnd}
use mathlib.Core.Path.{◌≡◌, sym, ap, ◌∙◌}
use mathlib.Core.List.{List}
use Prim.Native.Nat.{ℕ}
use native.Mathlib.Omega.{arith}
use lib.ListN.{length}
use Rattle.refusal.specs.Refusals.{number_of, answered}
use Rattle.refusal.specs.declared.refusal.Refusal.{Refusal}
use Rattle.image.specs.Lent.{over}
use Rattle.image.specs.Listing.{text_of, refusal}
use Rattle.image.specs.Opening.{opening}
use Rattle.image.specs.Promised.{opened_meant}
use Rattle.image.specs.declared.program.Opened.{Opened}
use Rattle.image.proofs.Over.{written_over}
use Rattle.image_listing.specs.Promised.{Lists}
use Rattle.image_listing.specs.declared.disassembler.ListError.{ListError}
use Rattle.image_listing.specs.declared.disassembler.ListError.TheVariants.{Refused}
use Rattle.image_listing.proofs.Texts.{lists-not, lists-short, lists-text, unopened, Opens, opens, code-begins, code-ends}
use Rattle.image_listing.proofs.Texts.{unusual, usual-fault, usual-text, usual-length}
use Rattle.image_listing.proofs.disassembler.list.Goals as goal

-- An image is opened, or the refusal of opening is passed on.
module _ (b : List ℕ) (r : Answer Opened Refusal) (a : answered (opened_meant b) r ≡ opening b) {m : Answer Opened ListError} where
  opened-on : MatchResult r (λ x. m ≡ Ok x) (λ e. IsErrAnd m (λ y. y ≡ Refused e)) → (o : Opened) → m ≡ Ok o → Opens b o
  opened-on k o e = go r a k
    where
      go : (r : Answer Opened Refusal) → answered (opened_meant b) r ≡ opening b → MatchResult r (λ x. m ≡ Ok x) (λ e. IsErrAnd m (λ y. y ≡ Refused e)) → Opens b o
      go (Ok x) a k = let q : x ≡ o = cc in opens b o (rw (← q) a)
      go (Err f) a k = absurd (rw e at k)

  refused-on : MatchResult r (λ x. m ≡ Ok x) (λ e. IsErrAnd m (λ y. y ≡ Refused e)) → (old : List ℕ) (f : ListError) → m ≡ Err f → Lists b old old (Err f)
  unfolding refusal
  refused-on k old f e = go r a k
    where
      go : (r : Answer Opened Refusal) → answered (opened_meant b) r ≡ opening b → MatchResult r (λ x. m ≡ Ok x) (λ e. IsErrAnd m (λ y. y ≡ Refused e)) → Lists b old old (Err f)
      go (Ok x) a k = let z : ◌≡◌ {A = ℕ} 0 1 = cc in absurd (omega arith)
      go (Err n) a k = let q : f ≡ Refused n = rw e at k in rw q (lists-not b old (Refused n) (unopened b (number_of n) a))

pub returns-in_err-opened : goal.returns-in_err-opened
returns-in_err-opened c =
    let f = refused-on c.args.image.now c.open.result c.open.ensures c.map_err.ensures.cases c.args.text.now _ c.in_err-opened.was in
    rw (err_is _ _ c.from_residual.ensures.1) f

pub returns-then-not-is_usual : goal.returns-then-not-is_usual
unfolding refusal
returns-then-not-is_usual c =
    let p = opened-on c.args.image.now c.open.result c.open.ensures c.map_err.ensures.cases c.in_ok-opened.opened c.in_ok-opened.was in
    lists-not c.args.image.now c.args.text.now (Refused _) (unusual p (sym c.is_usual.ensures ∙ c.if-not-is_usual.true))

pub slice_bounds-code-count : goal.slice_bounds-code-count
slice_bounds-code-count c = code-begins (opened-on c.args.image.now c.open.result c.open.ensures c.map_err.ensures.cases c.in_ok-opened.opened c.in_ok-opened.was)

pub slice_bounds-code-start : goal.slice_bounds-code-start
slice_bounds-code-start c = code-begins (opened-on c.args.image.now c.open.result c.open.ensures c.map_err.ensures.cases c.in_ok-opened.opened c.in_ok-opened.was)

pub slice_bounds-code-end : goal.slice_bounds-code-end
slice_bounds-code-end c = code-ends (opened-on c.args.image.now c.open.result c.open.ensures c.map_err.ensures.cases c.in_ok-opened.opened c.in_ok-opened.was)

pub returns-in_err-put_text : goal.returns-in_err-put_text
returns-in_err-put_text c =
    let a = c.args in
    let p = opened-on a.image.now c.open.result c.open.ensures c.map_err.ensures.cases c.in_ok-opened.opened c.in_ok-opened.was in
    let f = usual-fault p (sym c.is_usual.ensures ∙ c.if-not-is_usual.false) in
    rw (err_is _ _ c.from_residual-in_err-put_text.ensures.1) (lists-not a.image.now a.text.now c.in_err-put_text.field-0.0 (f ∙ c.in_err-put_text.ensures))

pub returns-then-text-needed : goal.returns-then-text-needed
returns-then-text-needed c =
    let a = c.args in
    let p = opened-on a.image.now c.open.result c.open.ensures c.map_err.ensures.cases c.in_ok-opened.opened c.in_ok-opened.was in
    let u = sym c.is_usual.ensures ∙ c.if-not-is_usual.false in
    let f = usual-fault p u in
    let m = c.in_ok-put_text.ensures in
    lists-short a.image.now a.text.now (f ∙ m.0) _ (omega (arith, m.1, ap length (usual-text p), usual-length p u)) c.if-text-needed.true

pub returns : goal.returns
returns c =
    let a = c.args in
    let p = opened-on a.image.now c.open.result c.open.ensures c.map_err.ensures.cases c.in_ok-opened.opened c.in_ok-opened.was in
    let u = sym c.is_usual.ensures ∙ c.if-not-is_usual.false in
    let f = usual-fault p u in
    let m = c.in_ok-put_text.ensures in
    let e = c.in_ok-put_text-2.ensures in
    let same = sym e.1.same_buffer in
    let text : c.put_text-2.new.sink.out.now ≡ over (text_of a.image.now) a.text.now = rw (usual-text p) (written_over e.1.written) in
    lists-text a.image.now a.text.now (f ∙ m.0) _ (omega (arith, m.1, ap length (usual-text p), usual-length p u)) _ c.if-text-needed.false (search rules)
