-- Laws of the tokens that a line's places hold, place by place.
use Rattle.std.proofs.Common.{◌≡◌, ℕ, suc, ◌+◌, ◌-◌, ◌<◌, ◌≤◌, ◌&&◌, List, length, get_or, drop, add-one, arith, drop_of_length-le, drop-cons}
use Rattle.text.specs.declared.lexer.Token.{Token}
use Rattle.test_replay.specs.List.{is_record_end}
use Rattle.test_tokens.specs.Entries.{entry_of, entry_at, entry_end, filler, same_entry, same_tokens}

module _ (count i from : ℕ) (ts : List Token) (s : List ℕ) (at : ℕ) where
  -- A token that is left.
  pub tokens_more : (d : Token) → i < length ts → i < count →
      same_tokens (count - i) from (drop i ts) s at
      ≡ (same_entry (entry_of (get_or ts i d)) (entry_at s at from) && same_tokens (count - (i + 1)) from (drop (i + 1) ts) s (entry_end s at))
  unfolding same_tokens
  tokens_more d h g =
      let n : count - i ≡ suc (count - suc i) = omega arith in
      rw (add-one i, n, drop-cons ts i d h, same_tokens)

  -- A place past the tokens.
  pub tokens_blank : (d : Token) → i < length ts → count ≤ i →
      same_tokens (count - i) from (drop i ts) s at ≡ (same_entry (entry_of (get_or ts i d)) filler && same_tokens (count - (i + 1)) from (drop (i + 1) ts) s at)
  unfolding same_tokens
  tokens_blank d h g =
      let n : count - i ≡ 0 = omega arith in
      let m : count - suc i ≡ 0 = omega arith in
      rw (add-one i, n, m, drop-cons ts i d h, same_tokens)

  -- No place more.
  pub tokens_none : (left : ℕ) → length ts ≤ i → same_tokens left from (drop i ts) s at ≡ is_record_end s at
  unfolding same_tokens
  tokens_none left h = rw (drop_of_length-le ts h)
