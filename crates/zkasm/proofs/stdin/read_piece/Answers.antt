use Rattle.std.proofs.Common.{◌≡◌, ℕ, ◌+◌, ◌-◌, ◌≤◌, arith, sym, ap, List, ◌++◌, length, take, drop, length-append, length-drop, subst}
use lib.Seq.{length-take-le}
use borrow.Rule.Slice.PartMut.{put_mid}
use Rattle.text_writer.specs.Promised.{put}
use Rattle.text_writer.proofs.Writing.{put-none, written-copied}
use Rattle.zkasm.specs.Stdin.{count_of}
use Rattle.zkasm.specs.Promised.{Delivers}
use Rattle.zkasm.specs.declared.stdin.Delivery.{Delivery}
use Rattle.zkasm.specs.declared.stdin.Delivery.TheVariants.{Piece}
use Rattle.zkasm.proofs.Transcripts.{delivers-fit}
use Rattle.zkasm.proofs.Sources.{brings-longer, none_came}
use Rattle.zkasm.proofs.stdin.read_piece.Goals as goal

module _ (filled : ℕ) (input piece : List ℕ) {r : Delivery} (lent : length piece ≡ length input)
    (d : Delivers (length (take (length input - filled) piece)) r) where
  -- The room that is lent.
  lends : length (take (length input - filled) piece) ≡ length input - filled
  lends = length-take-le _ _ (omega (arith, lent))

  delivers : Delivers (length input - filled) r
  delivers = subst (λ k. Delivers k r) lends d

  -- A piece is no longer than that.
  few : (n : ℕ) → r ≡ Piece n → n ≤ length input - filled
  unfolding count_of
  few n e = omega (arith, delivers-fit delivers, ap count_of e)

  module _ (new : List ℕ) (same : length new ≡ length (take (length input - filled) piece)) where
    came-few : count_of r ≤ length new
    came-few = omega (arith, delivers-fit delivers, lends, same)

    -- Nor is it longer than the buffer that it was read into.
    within : (n : ℕ) → r ≡ Piece n → n ≤ length (new ++ drop (length input - filled) piece)
    within n e = omega (arith, few n e, lends, same, length-append new (drop (length input - filled) piece))

    sized : (n : ℕ) → r ≡ Piece n → length (take n (new ++ drop (length input - filled) piece)) ≡ n
    sized n e = length-take-le _ _ (within n e)

-- What is copied into a part of the buffer is put there.
copied : (filled : ℕ) (input s : List ℕ) (n : ℕ) (t : List ℕ) → t ≡ s → length s ≡ n → put_mid filled (filled + n - filled) input t ≡ put input filled s
copied filled input s n t e l = subst (λ k. put_mid filled (filled + k - filled) input t ≡ put input filled s) l (written-copied input filled s t e).holds

pub overflow_add-filled : goal.overflow_add-filled
overflow_add-filled g c =
    let d = c.read_some-delivery in
    let a = c.args in
    let p = c.requires.piece_as_long in
    omega (arith, c.requires.room_left, few a.filled a.input.now a.piece.now p d.ensures.delivery c.in-Piece.n c.in-Piece.is)

pub slice_bounds-copy_from_slice-end : goal.slice_bounds-copy_from_slice-end
slice_bounds-copy_from_slice-end g c =
    let d = c.read_some-delivery in
    let a = c.args in
    let p = c.requires.piece_as_long in
    omega (arith, c.requires.room_left, few a.filled a.input.now a.piece.now p d.ensures.delivery c.in-Piece.n c.in-Piece.is)

pub slice_bounds-copy_from_slice-end-in-Piece : goal.slice_bounds-copy_from_slice-end-in-Piece
slice_bounds-copy_from_slice-end-in-Piece g c =
    let d = c.read_some-delivery in
    let a = c.args in
    let p = c.requires.piece_as_long in
    within a.filled a.input.now a.piece.now p d.ensures.delivery d.new.piece d.auto.piece c.in-Piece.n c.in-Piece.is

pub slice_bounds-copy_from_slice-end-in-Piece-2 : goal.slice_bounds-copy_from_slice-end-in-Piece-2
slice_bounds-copy_from_slice-end-in-Piece-2 g c =
    let d = c.read_some-delivery in
    let a = c.args in
    let p = c.requires.piece_as_long in
    sym (sized a.filled a.input.now a.piece.now p d.ensures.delivery d.new.piece d.auto.piece c.in-Piece.n c.in-Piece.is)

pub copy_from_slice-requires : goal.copy_from_slice-requires
copy_from_slice-requires g c =
    let d = c.read_some-delivery in
    let a = c.args in
    let p = c.requires.piece_as_long in
    let f = few a.filled a.input.now a.piece.now p d.ensures.delivery c.in-Piece.n c.in-Piece.is in
    let n = sized a.filled a.input.now a.piece.now p d.ensures.delivery d.new.piece d.auto.piece c.in-Piece.n c.in-Piece.is in
    omega (arith, c.requires.room_left, f, n, length-take-le (a.filled + c.in-Piece.n - a.filled) (drop a.filled a.input.now) (omega (arith, f, length-drop a.filled a.input.now)))

pub returns-in-Piece-clause-piece : goal.returns-in-Piece-clause-piece
unfolding count_of
returns-in-Piece-clause-piece g c =
    let d = c.read_some-delivery in
    let a = c.args in
    let p = c.requires.piece_as_long in
    let n = sized a.filled a.input.now a.piece.now p d.ensures.delivery d.new.piece d.auto.piece c.in-Piece.n c.in-Piece.is in
    let k = c.copy_from_slice in
    record {
      delivers = rw c.in-Piece.is at (delivers a.filled a.input.now a.piece.now p d.ensures.delivery);
      holds = copied a.filled a.input.now _ c.in-Piece.n k.new.self k.ensures.after n;
    }

pub returns-in-Piece-clause-bytes : goal.returns-in-Piece-clause-bytes
returns-in-Piece-clause-bytes g c =
    let d = c.read_some-delivery in
    let f = came-few c.args.filled c.args.input.now c.args.piece.now c.requires.piece_as_long d.ensures.delivery d.new.piece d.auto.piece in
    rw c.in-Piece.is at (brings-longer _ _ d.new.piece (drop (length c.args.input.now - c.args.filled) c.args.piece.now) f d.ensures.bytes)

pub returns-in_default : goal.returns-in_default
returns-in_default g c =
    let d = c.read_some-delivery in
    let f = came-few c.args.filled c.args.input.now c.args.piece.now c.requires.piece_as_long d.ensures.delivery d.new.piece d.auto.piece in
    record {
      piece =
          record {
            delivers = delivers c.args.filled c.args.input.now c.args.piece.now c.requires.piece_as_long d.ensures.delivery;
            holds = rw (none_came d.result c.in_default.not-Piece) (sym (put-none _ _));
          };
      bytes = brings-longer _ _ d.new.piece (drop (length c.args.input.now - c.args.filled) c.args.piece.now) f d.ensures.bytes;
    }
