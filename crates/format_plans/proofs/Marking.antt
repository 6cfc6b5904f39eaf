-- The bits of the file table with one more.
use Rattle.std.specs.Prelude.{◌==◌, ◌||◌}
use Rattle.std.proofs.Common.{◌≡◌, ℕ, zero, suc, ◌+◌, ◌*◌, ◌/◌, ◌%◌, ◌<◌, ◌≤◌, inl, inr, Bool, true, false, cond, eqb, ltb, List, [], ◌∷◌, slice_index, Option, Some, refl, sym, ap, ◌∙◌, arith}
use Rattle.std.proofs.lemmas.Bool.{cases_lt, lt-ltb, le-ltb}
use Rattle.std.proofs.lemmas.List.{get_or-replicate}
use Rattle.std.proofs.lemmas.List.FromFn.{get_or-map-range_with_len}
use Rattle.disk_model.specs.declared.block.Body.{Body}
use Rattle.disk_model.specs.declared.block.BlockKind.TheVariants.{Plain}
use Rattle.disk_model.specs.Bytes.{zeros}
use Rattle.disk_model.specs.Content.{Content}
use Rattle.bit_set.specs.Bits.{bit}
use Rattle.bit_set.specs.Words.{is_one, bits_of_bytes}
use Rattle.bit_set.proofs.Views.{bit-bits_of_bytes}
use Rattle.state_model.specs.declared.stream.Stream.{Stream}
use Rattle.state_model.specs.Streams.{sector_bytes, sector_in, byte_at, extent_bytes}
use Rattle.volume_model.specs.Volumes.{bytes_or, count_of, record_bits}
use Rattle.volume_format.specs.declared.layout.Layout.{Layout}
use Rattle.volume_format.specs.Layouts.{IsLayout}
use Rattle.volume_format.specs.Files.{one_run}
use Rattle.format_rules.specs.format_blocks.Blocks.{block, whole, HasBlocks}
use Rattle.format_rules.specs.format_files.Volumes.{extents_at}
use Rattle.format_rules.proofs.format_files.Streams.{block_in_run}
use Rattle.format_rules.proofs.format_files.Linking.{vol, count_is}
use Rattle.format_rules.proofs.format_files.Bits.{record_bitmap_here}
use Rattle.format_plans.specs.Files.{bits_with}

-- ---- bytes

bits_byte : (k : ℕ) → k < 8 → slice_index bits_with k ≡ cond (ltb k 3) 255 (cond (eqb k 3) 1 0)
unfolding bits_with zeros
bits_byte zero lt = refl
bits_byte (suc zero) lt = refl
bits_byte (suc (suc zero)) lt = refl
bits_byte (suc (suc (suc zero))) lt = refl
bits_byte (suc (suc (suc (suc zero)))) lt = refl
bits_byte (suc (suc (suc (suc (suc zero))))) lt = refl
bits_byte (suc (suc (suc (suc (suc (suc zero)))))) lt = refl
bits_byte (suc (suc (suc (suc (suc (suc (suc zero))))))) lt = refl
bits_byte (suc (suc (suc (suc (suc (suc (suc (suc k)))))))) lt = absurd (omega arith)

-- the bit of a record with this number, in a byte and a bit of it
abbrev bit_by : ℕ → ℕ → Bool
bit_by k j = is_one (cond (ltb k 3) 255 (cond (eqb k 3) 1 0)) j

each_bit : (k j : ℕ) → k < 8 → j < 8 → bit_by k j ≡ ((8 * k + j == 24) || ltb (8 * k + j) 24)
each_bit k j k_lt j_lt = of_eight (λ k. bit_by k j ≡ ((8 * k + j == 24) || ltb (8 * k + j) 24))
    (row 0 refl refl refl refl refl refl refl refl) (row 1 refl refl refl refl refl refl refl refl) (row 2 refl refl refl refl refl refl refl refl) (row 3 refl refl refl refl refl refl refl refl)
    (row 4 refl refl refl refl refl refl refl refl) (row 5 refl refl refl refl refl refl refl refl) (row 6 refl refl refl refl refl refl refl refl) (row 7 refl refl refl refl refl refl refl refl) k k_lt
  where
    of_eight : (P : ℕ → Type 0) → P 0 → P 1 → P 2 → P 3 → P 4 → P 5 → P 6 → P 7 → (n : ℕ) → n < 8 → P n
    of_eight P a b c d e f g h zero lt = a
    of_eight P a b c d e f g h (suc zero) lt = b
    of_eight P a b c d e f g h (suc (suc zero)) lt = c
    of_eight P a b c d e f g h (suc (suc (suc zero))) lt = d
    of_eight P a b c d e f g h (suc (suc (suc (suc zero)))) lt = e
    of_eight P a b c d e f g h (suc (suc (suc (suc (suc zero))))) lt = f
    of_eight P a b c d e f g h (suc (suc (suc (suc (suc (suc zero)))))) lt = g
    of_eight P a b c d e f g h (suc (suc (suc (suc (suc (suc (suc zero))))))) lt = h
    of_eight P a b c d e f g h (suc (suc (suc (suc (suc (suc (suc (suc n)))))))) lt = absurd (omega arith)

    IsRow : ℕ → ℕ → Type 0
    IsRow k j = bit_by k j ≡ ((8 * k + j == 24) || ltb (8 * k + j) 24)

    row : (k : ℕ) → IsRow k 0 → IsRow k 1 → IsRow k 2 → IsRow k 3 → IsRow k 4 → IsRow k 5 → IsRow k 6 → IsRow k 7 → IsRow k j
    row k a b c d e f g h = of_eight (IsRow k) a b c d e f g h j j_lt

-- ---- what is read

module _ (d : Content) (stands : d (block 24 Plain) ≡ whole bits_with) where
  sector_here : sector_in d 8 (one_run (Some 3) 1) 0 ≡ bits_with
  sector_here = ap (sector_bytes d) (block_in_run 3 1 Plain 0 (omega arith) (omega arith)) ∙ ap (λ (b : Body). b.bytes) stands

  byte_here : (i : ℕ) → i < 8 → byte_at d 8 (extents_at 3 1 8) i ≡ slice_index bits_with i
  unfolding byte_at
  byte_here i lt =
      let first : i / 512 ≡ 0 = omega arith in
      let same : i % 512 ≡ i = omega arith in
      ap (λ (b : Bool). cond b (slice_index (sector_in d 8 (one_run (Some 3) 1) (i / 512)) (i % 512)) 0) (lt-ltb i 8 lt)
      ∙ ap (λ (s : ℕ). slice_index (sector_in d 8 (one_run (Some 3) 1) s) (i % 512)) first
      ∙ ap (λ (sector : List ℕ). slice_index sector (i % 512)) sector_here
      ∙ ap (slice_index bits_with) same

  extent_byte : (i : ℕ) → i < 8 → slice_index (extent_bytes d 8 (extents_at 3 1 8)) i ≡ slice_index bits_with i
  unfolding extent_bytes
  extent_byte i lt = get_or-map-range_with_len (byte_at d 8 (extents_at 3 1 8)) 0 8 i i 0 lt (omega arith) ∙ byte_here i lt

  pub marked : (v : Layout) → IsLayout v → (seed time : ℕ) (c : Content) → HasBlocks v seed time c → (n : ℕ) → n < 64 → bit (record_bits d (vol v time)) n ≡ ((n == 24) || ltb n 24)
  unfolding record_bits
  marked v layout seed time c has n lt =
      let bytes = extent_bytes d 8 (extents_at 3 1 8) in
      let place : 8 * (n / 8) + n % 8 ≡ n = omega arith in
      ap (λ (s : Option Stream). bit (bits_of_bytes (bytes_or d 8 s) (count_of (vol v time))) n) (record_bitmap_here v layout seed time c has)
      ∙ bit-bits_of_bytes bytes (count_of (vol v time)) n (omega (arith, count_is v time))
      ∙ ap (λ (b : ℕ). is_one b (n % 8)) (extent_byte (n / 8) (omega arith) ∙ bits_byte (n / 8) (omega arith))
      ∙ each_bit (n / 8) (n % 8) (omega arith) (omega arith)
      ∙ ap (λ (m : ℕ). (m == 24) || ltb m 24) place
