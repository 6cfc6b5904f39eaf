use Rattle.std.proofs.Common.{◌≡◌, ℕ, ◌*◌, ◌<◌, vec_len}
use Rattle.bit_set.specs.Words.{word_bit, byte_bit}
use Rattle.bit_set.proofs.words.words_of.Given as goal

abbrev pub invariant-loop-place : goal.invariant-loop-place
invariant-loop-place l = record {
  count : vec_len l.words ≡ l.place;
  bits : (i : ℕ) → i < 64 * l.place → word_bit l.words.items i ≡ byte_bit l.bytes i;
}
