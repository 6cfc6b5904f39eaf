-- The front of a stream's bytes has its first bits.
use Rattle.std.proofs.Common.{◌≡◌, ℕ, zero, suc, ◌+◌, ◌*◌, ◌/◌, ◌%◌, ◌<◌, ◌≤◌, List, [], ◌∷◌, ◌++◌, map, refl, ap, ◌∙◌, arith}
use Rattle.std.specs.Prelude.{take, drop, slice_index, replicate}
use Rattle.std.specs.List.{range_with_len}
use Rattle.std.specs.Prelude.{IfSome, Option, Bool}
use Rattle.volume_model.proofs.host_base.Known.{one}
use Rattle.stream_map.specs.disk_model.Content.{Content}
use Rattle.stream_map.specs.disk_model.Bytes.{zeros}
use Rattle.state_model.specs.declared.stream.Stream.{Stream}
use Rattle.state_model.specs.Streams.{stream_bytes}
use Rattle.volume_model.specs.bit_set.Words.{byte_bit, bits_of_bytes}

-- a byte behind zeros, or past the end, is zero
zeros_at : (n i : ℕ) → slice_index (replicate n 0) i ≡ 0
zeros_at zero i = refl
zeros_at (suc n) zero = refl
zeros_at (suc n) (suc i) = zeros_at n i

-- the front of bytes with zeros behind them
front_at : (bytes : List ℕ) (k n i : ℕ) → i < k → slice_index (take k (bytes ++ replicate n 0)) i ≡ slice_index bytes i
front_at bytes zero n i lt = absurd (omega (arith, lt))
front_at [] (suc k) zero i lt = refl
front_at [] (suc k) (suc n) zero lt = refl
front_at [] (suc k) (suc n) (suc i) lt = front_at [] k n i (omega (arith, lt))
front_at (b ∷ bytes) (suc k) n zero lt = refl
front_at (b ∷ bytes) (suc k) n (suc i) lt = front_at bytes k n i (omega (arith, lt))

-- functions that agree on numbers below an end
map_below : {A : Type 0} (f g : ℕ → A) (end : ℕ) → ((i : ℕ) → i < end → f i ≡ g i) → (a n : ℕ) → a + n ≤ end → map f (range_with_len a n) ≡ map g (range_with_len a n)
map_below f g end same a zero le = refl
map_below f g end same a (suc n) le = ap (λ x. x ∷ map f (range_with_len (a + 1) n)) (same a (omega (arith, le))) ∙ ap (λ xs. g a ∷ xs) (map_below f g end same (a + 1) n (omega (arith, le)))

pub front_bits : (bytes : List ℕ) (k n : ℕ) → n ≤ 8 * k → bits_of_bytes (take k (drop 0 bytes ++ zeros k)) n ≡ bits_of_bytes bytes n
unfolding bits_of_bytes zeros
front_bits bytes k n le = map_below (byte_bit (take k (bytes ++ replicate k 0))) (byte_bit bytes) n (λ i lt. ap (λ (b : ℕ). Rattle.volume_model.specs.bit_set.Words.is_one b (i % 8)) (front_at bytes k k (i / 8) (omega (arith, lt, le)))) 0 n (omega arith)

-- the bits that were read are those of the stream
pub bits_known : (known : Option Content) (per : ℕ) (stream : Stream) (k n : ℕ) (room : List ℕ) (bits : List Bool) → n ≤ 8 * k → IfSome known (λ c. room ≡ take k (drop 0 (stream_bytes c per stream) ++ zeros k)) → bits ≡ bits_of_bytes room n
    → IfSome known (λ c. bits ≡ bits_of_bytes (stream_bytes c per stream) n)
bits_known known per stream k n room bits le read is = one known _ _ (λ c r. is ∙ ap (λ (xs : List ℕ). bits_of_bytes xs n) r ∙ front_bits (stream_bytes c per stream) k n le) read
