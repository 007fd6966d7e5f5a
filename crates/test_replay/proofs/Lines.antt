-- Laws of a line that is put into a room.
use Rattle.std.proofs.Common.{◌≡◌, ℕ, zero, suc, ◌+◌, ◌-◌, ◌<◌, List, [], ◌∷◌, ◌++◌, length, set, refl, add-zero, add-one, arith, length-set, eq-eqb, ne_eqb}
use lib.Seq.{sets}
use Rattle.test_replay.specs.List.{byte_at, behind, unescaped_at, line_bytes, line_end, line_for, piece_for}

-- What is left of a line at a place, put into the room as it is, makes of it what the whole line makes of the room before.
pub record Left (s : List ℕ) (from : ℕ) (old new : List ℕ) (end at : ℕ) : Type 0 where
  pub holds : sets new end (line_bytes (length new - suc end) s at ++ (10 ∷ [])) ≡ sets old 2 (line_bytes (length old - 3) s from ++ (10 ∷ []))
  pub ends : end + length (line_bytes (length new - suc end) s at) ≡ 2 + length (line_bytes (length old - 3) s from)
  pub leads : line_end (length new - suc end) s at ≡ line_end (length old - 3) s from

-- ---- a byte more

line-more : (most : ℕ) (s : List ℕ) (at : ℕ) → (byte_at s at ≡ 10 → ⊥)
    → (line_bytes (suc most) s at ≡ (unescaped_at s at).byte ∷ line_bytes most s (unescaped_at s at).next) × (line_end (suc most) s at ≡ line_end most s (unescaped_at s at).next)
unfolding line_bytes line_end
line-more most s at n = let b = ne_eqb (byte_at s at) 10 n in (rw (line_bytes, b), rw (line_end, b))

pub left-more : {s : List ℕ} {from : ℕ} {old new : List ℕ} {end at : ℕ} → Left s from old new end at
    → end < length new - 1 → (byte_at s at ≡ 10 → ⊥) → Left s from old (set new end (unescaped_at s at).byte) (end + 1) (unescaped_at s at).next
left-more {s} {from} {old} {new} {end} {at} l h n =
    let most = length (set new end (unescaped_at s at).byte) - suc (suc end) in
    let e : length new - suc end ≡ suc most = rw (length-set new end (unescaped_at s at).byte) (omega arith) in
    let m = line-more most s at n in
    rw (add-one end) (record {
      holds = rw (e, m.0) at l.holds;
      ends = omega (arith, rw (e, m.0) at l.ends);
      leads = rw (e, m.1) at l.leads;
    })

-- ---- nothing left: at byte 10, or where there is no more room

pub line-stop : (most : ℕ) (s : List ℕ) (at : ℕ) → byte_at s at ≡ 10 → (line_bytes most s at ≡ []) × (line_end most s at ≡ at)
unfolding line_bytes line_end
line-stop zero s at e = (refl, refl)
line-stop (suc most) s at e = let b = eq-eqb (byte_at s at) 10 e in (rw (line_bytes, b), rw (line_end, b))

pub line-full : (most : ℕ) (s : List ℕ) (at : ℕ) → most ≡ 0 → (line_bytes most s at ≡ []) × (line_end most s at ≡ at)
unfolding line_bytes line_end
line-full most s at e = (rw e, rw e)

pub left-none : {s : List ℕ} {from : ℕ} {old new : List ℕ} {end at : ℕ} → Left s from old new end at
    → (line_bytes (length new - suc end) s at ≡ []) × (line_end (length new - suc end) s at ≡ at)
    → (record { start = 2; end = end; next = behind at 1 } ≡ piece_for (length old) s from) × (set new end 10 ≡ sets old 2 (line_for (length old) s from ++ (10 ∷ [])))
unfolding line_for piece_for
left-none {end = end} l e = (rw (← l.leads, ← l.ends, e.0, e.1, add-zero end), rw e.0 at l.holds)
