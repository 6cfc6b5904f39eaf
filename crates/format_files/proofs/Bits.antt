-- The bits of the two bitmaps of a new volume.
use Rattle.std.proofs.Common.{◌≡◌, ℕ, zero, suc, ◌+◌, ◌-◌, ◌*◌, ◌/◌, ◌%◌, ◌<◌, ◌≤◌, inl, inr, Bool, true, false, not, cond, eqb, leb, ltb, ◌||◌, List, [], map, slice_index, Option, Some, refl, sym, ap, ◌∙◌, arith}
use Rattle.std.specs.Prelude.{count_by}
use Rattle.std.specs.List.{range_with_len}
use Rattle.std.proofs.lemmas.Bool.{cases_lt, lt-ltb, le-ltb, lt-leb}
use Rattle.std.proofs.lemmas.List.{get_or-replicate}
use Rattle.std.proofs.lemmas.List.FromFn.{get_or-map-range_with_len}
use Rattle.std.proofs.lemmas.List.Sums.{sum_by-cons}
use Rattle.disk_model.specs.Bytes.{zeros}
use Rattle.disk_model.specs.Content.{Content}
use Rattle.bit_set.specs.Bits.{bit}
use Rattle.bit_set.specs.Words.{is_one, byte_bit, bits_of_bytes}
use Rattle.bit_set.proofs.Views.{bit-bits_of_bytes}
use Rattle.state_model.specs.declared.stream.Stream.{Stream}
use Rattle.state_model.specs.declared.stream.Stream.TheVariants.{Placed}
use Rattle.state_model.specs.Streams.{extent_bytes}
use Rattle.record_model.specs.Constants.{bitmap_type}
use Rattle.state_model.specs.Loads.{data_stream}
use Rattle.volume_model.specs.Volumes.{file_stream, bytes_or, count_of, cluster_bitmap, record_bitmap, cluster_bits, record_bits}
use Rattle.volume_model.specs.Nodes.{free_clusters}
use Rattle.format_blocks.specs.volume_format.declared.layout.Layout.{Layout}
use Rattle.format_blocks.specs.volume_format.Layouts.{IsLayout, used_clusters, room, cluster_bits_first, cluster_bits_bytes}
use Rattle.format_blocks.specs.volume_format.Files.{system_data}
use Rattle.format_blocks.specs.volume_format.Images.{cluster_bit, cluster_bits_byte, cluster_bits as bits_region, record_bits as record_region}
use Rattle.format_blocks.specs.Blocks.{HasBlocks}
use Rattle.format_files.specs.Volumes.{extents_at}
use Rattle.format_blocks.proofs.Sizing.{length-record_bits, length-cluster_bits}
use Rattle.format_files.proofs.Streams.{data_is, record_bitmap_is}
use Rattle.format_files.proofs.Loading.{same_map}
use Rattle.format_files.proofs.Linking.{vol, count_is, system_here}
use Rattle.format_files.proofs.Bytes.{extent_byte}

-- ---- bits of a byte

full_bit : (j : ℕ) → j < 8 → is_one 255 j ≡ true
full_bit zero lt = refl
full_bit (suc zero) lt = refl
full_bit (suc (suc zero)) lt = refl
full_bit (suc (suc (suc zero))) lt = refl
full_bit (suc (suc (suc (suc zero)))) lt = refl
full_bit (suc (suc (suc (suc (suc zero))))) lt = refl
full_bit (suc (suc (suc (suc (suc (suc zero)))))) lt = refl
full_bit (suc (suc (suc (suc (suc (suc (suc zero))))))) lt = refl
full_bit (suc (suc (suc (suc (suc (suc (suc (suc j)))))))) lt = absurd (omega arith)

clear_bit : (j : ℕ) → j < 8 → is_one 0 j ≡ false
clear_bit zero lt = refl
clear_bit (suc zero) lt = refl
clear_bit (suc (suc zero)) lt = refl
clear_bit (suc (suc (suc zero))) lt = refl
clear_bit (suc (suc (suc (suc zero)))) lt = refl
clear_bit (suc (suc (suc (suc (suc zero))))) lt = refl
clear_bit (suc (suc (suc (suc (suc (suc zero)))))) lt = refl
clear_bit (suc (suc (suc (suc (suc (suc (suc zero))))))) lt = refl
clear_bit (suc (suc (suc (suc (suc (suc (suc (suc j)))))))) lt = absurd (omega arith)

-- the bits of eight numbers that are 0 or 1, the lowest first
module _ (a b c d e f g h : ℕ) (a1 : a ≤ 1) (b1 : b ≤ 1) (c1 : c ≤ 1) (d1 : d ≤ 1) (e1 : e ≤ 1) (f1 : f ≤ 1) (g1 : g ≤ 1) (h1 : h ≤ 1) where
  abbrev eight : ℕ
  eight = a + 2 * b + 4 * c + 8 * d + 16 * e + 32 * f + 64 * g + 128 * h

  at_0 : eight / 1 % 2 ≡ a
  at_0 = omega arith

  at_1 : eight / 2 % 2 ≡ b
  at_1 = omega arith

  at_2 : eight / 4 % 2 ≡ c
  at_2 = omega arith

  at_3 : eight / 8 % 2 ≡ d
  at_3 = omega arith

  at_4 : eight / 16 % 2 ≡ e
  at_4 = omega arith

  at_5 : eight / 32 % 2 ≡ f
  at_5 = omega arith

  at_6 : eight / 64 % 2 ≡ g
  at_6 = omega arith

  at_7 : eight / 128 % 2 ≡ h
  at_7 = omega arith

one_bit : (b : Bool) → cond b 1 0 ≤ 1
one_bit true = omega arith
one_bit false = omega arith

test_bit : (b : Bool) → eqb (cond b 1 0) 1 ≡ b
test_bit true = refl
test_bit false = refl

abbrev is_set : Layout → ℕ → Bool
is_set v i = ltb i (used_clusters v) || leb v.clusters i

byte_bits : (v : Layout) (k j : ℕ) → j < 8 → is_one (cluster_bits_byte v k) j ≡ is_set v (8 * k + j)
unfolding cluster_bits_byte
byte_bits v k j lt = go j lt
  where
    bits : (i : ℕ) → ℕ
    bits i = cluster_bit v i

    small : (i : ℕ) → cluster_bit v i ≤ 1
    small i = one_bit (is_set v i)

    front : 8 * k ≡ 8 * k + 0
    front = omega arith

    go : (j : ℕ) → j < 8 → is_one (cluster_bits_byte v k) j ≡ is_set v (8 * k + j)
    go zero lt = ap (λ (n : ℕ). eqb n 1) (at_0 _ _ _ _ _ _ _ _ (small (8 * k)) (small (8 * k + 1)) (small (8 * k + 2)) (small (8 * k + 3)) (small (8 * k + 4)) (small (8 * k + 5)) (small (8 * k + 6)) (small (8 * k + 7))) ∙ test_bit (is_set v (8 * k)) ∙ ap (is_set v) front
    go (suc zero) lt = ap (λ (n : ℕ). eqb n 1) (at_1 _ _ _ _ _ _ _ _ (small (8 * k)) (small (8 * k + 1)) (small (8 * k + 2)) (small (8 * k + 3)) (small (8 * k + 4)) (small (8 * k + 5)) (small (8 * k + 6)) (small (8 * k + 7))) ∙ test_bit (is_set v (8 * k + 1))
    go (suc (suc zero)) lt = ap (λ (n : ℕ). eqb n 1) (at_2 _ _ _ _ _ _ _ _ (small (8 * k)) (small (8 * k + 1)) (small (8 * k + 2)) (small (8 * k + 3)) (small (8 * k + 4)) (small (8 * k + 5)) (small (8 * k + 6)) (small (8 * k + 7))) ∙ test_bit (is_set v (8 * k + 2))
    go (suc (suc (suc zero))) lt = ap (λ (n : ℕ). eqb n 1) (at_3 _ _ _ _ _ _ _ _ (small (8 * k)) (small (8 * k + 1)) (small (8 * k + 2)) (small (8 * k + 3)) (small (8 * k + 4)) (small (8 * k + 5)) (small (8 * k + 6)) (small (8 * k + 7))) ∙ test_bit (is_set v (8 * k + 3))
    go (suc (suc (suc (suc zero)))) lt = ap (λ (n : ℕ). eqb n 1) (at_4 _ _ _ _ _ _ _ _ (small (8 * k)) (small (8 * k + 1)) (small (8 * k + 2)) (small (8 * k + 3)) (small (8 * k + 4)) (small (8 * k + 5)) (small (8 * k + 6)) (small (8 * k + 7))) ∙ test_bit (is_set v (8 * k + 4))
    go (suc (suc (suc (suc (suc zero))))) lt = ap (λ (n : ℕ). eqb n 1) (at_5 _ _ _ _ _ _ _ _ (small (8 * k)) (small (8 * k + 1)) (small (8 * k + 2)) (small (8 * k + 3)) (small (8 * k + 4)) (small (8 * k + 5)) (small (8 * k + 6)) (small (8 * k + 7))) ∙ test_bit (is_set v (8 * k + 5))
    go (suc (suc (suc (suc (suc (suc zero)))))) lt = ap (λ (n : ℕ). eqb n 1) (at_6 _ _ _ _ _ _ _ _ (small (8 * k)) (small (8 * k + 1)) (small (8 * k + 2)) (small (8 * k + 3)) (small (8 * k + 4)) (small (8 * k + 5)) (small (8 * k + 6)) (small (8 * k + 7))) ∙ test_bit (is_set v (8 * k + 6))
    go (suc (suc (suc (suc (suc (suc (suc zero))))))) lt = ap (λ (n : ℕ). eqb n 1) (at_7 _ _ _ _ _ _ _ _ (small (8 * k)) (small (8 * k + 1)) (small (8 * k + 2)) (small (8 * k + 3)) (small (8 * k + 4)) (small (8 * k + 5)) (small (8 * k + 6)) (small (8 * k + 7))) ∙ test_bit (is_set v (8 * k + 7))
    go (suc (suc (suc (suc (suc (suc (suc (suc j)))))))) lt = absurd (omega arith)

-- ---- counting

abbrev weight : Bool → ℕ
weight b = cond (not b) 1 0

-- how many of the n places from a on aren't below u
count_from : (u a n : ℕ) → count_by not (map (λ i. ltb i u) (range_with_len a n)) ≡ (a + n - u) - (a - u)
count_from u a zero = omega arith
count_from u a (suc n) = elim (cases_lt a u) [
  | inl low ↦ (let head = sum_by-cons weight (ltb a u) (map (λ i. ltb i u) (range_with_len (a + 1) n)) in
      let here : weight (ltb a u) ≡ 0 = ap weight (lt-ltb a u low) in
      omega (arith, head, here, count_from u (a + 1) n))
  | inr high ↦ (let head = sum_by-cons weight (ltb a u) (map (λ i. ltb i u) (range_with_len (a + 1) n)) in
      let here : weight (ltb a u) ≡ 1 = ap weight (le-ltb a u high) in
      omega (arith, head, here, count_from u (a + 1) n))
]

-- ---- the bitmaps

module _ (v : Layout) (layout : IsLayout v) (seed time : ℕ) (c : Content) (has : HasBlocks v seed time c) where
  pub cluster_bitmap_is : cluster_bitmap (vol v time) ≡ Some (Placed (extents_at (cluster_bits_first v) v.bitmap_clusters (cluster_bits_bytes v)))
  unfolding data_stream system_data
  cluster_bitmap_is = ap (file_stream 0x80 []) (system_here v time 6 (omega arith)) ∙ data_is v layout time 6 (omega arith)

  pub record_bitmap_here : record_bitmap (vol v time) ≡ Some (Placed (extents_at 3 1 8))
  record_bitmap_here = ap (file_stream bitmap_type []) (system_here v time 0 (omega arith)) ∙ record_bitmap_is v layout time

  abbrev cluster_bytes : List ℕ
  cluster_bytes = extent_bytes c 8 (extents_at (cluster_bits_first v) v.bitmap_clusters (cluster_bits_bytes v))

  short : cluster_bits_bytes v ≤ 4096 * v.bitmap_clusters
  short = omega (arith, layout.bitmap_whole)

  cluster_byte : (k : ℕ) → k < cluster_bits_bytes v → slice_index cluster_bytes k ≡ cluster_bits_byte v k
  unfolding bits_region
  cluster_byte k lt =
      extent_byte c (cluster_bits_first v) v.bitmap_clusters (cluster_bits_bytes v) (bits_region v) has.cluster_bits_read (length-cluster_bits v) short k lt
      ∙ get_or-map-range_with_len (cluster_bits_byte v) 0 (4096 * v.bitmap_clusters) k k 0 (omega (arith, short)) (omega arith)

  set_below : (i : ℕ) → i < v.clusters → is_set v i ≡ ltb i (used_clusters v)
  set_below i lt = ap (λ (b : Bool). ltb i (used_clusters v) || b) (lt-leb v.clusters i lt) ∙ or_nothing (ltb i (used_clusters v))
    where
      or_nothing : (b : Bool) → (b || false) ≡ b
      or_nothing true = refl
      or_nothing false = refl

  cluster_byte_bit : (i : ℕ) → i < v.clusters → byte_bit cluster_bytes i ≡ ltb i (used_clusters v)
  cluster_byte_bit i lt =
      let inside : i / 8 < cluster_bits_bytes v = omega arith in
      let place : 8 * (i / 8) + i % 8 ≡ i = omega arith in
      ap (λ (b : ℕ). is_one b (i % 8)) (cluster_byte (i / 8) inside) ∙ byte_bits v (i / 8) (i % 8) (omega arith) ∙ ap (is_set v) place ∙ set_below i lt

  pub cluster_bits_are : cluster_bits c (vol v time) ≡ map (λ i. ltb i (used_clusters v)) (range_with_len 0 v.clusters)
  unfolding cluster_bits bits_of_bytes
  cluster_bits_are =
      ap (λ (s : Option Stream). bits_of_bytes (bytes_or c 8 s) v.clusters) cluster_bitmap_is
      ∙ same_map (byte_bit cluster_bytes) (λ i. ltb i (used_clusters v)) 0 v.clusters (λ i low high. cluster_byte_bit i (omega arith))

  pub cluster_bit_is : (i : ℕ) → i < v.clusters → bit (cluster_bits c (vol v time)) i ≡ ltb i (used_clusters v)
  cluster_bit_is i lt = ap (λ (bits : List Bool). bit bits i) cluster_bits_are ∙ get_or-map-range_with_len (λ i. ltb i (used_clusters v)) 0 v.clusters i i false lt (omega arith)

  pub free_are : free_clusters c (vol v time) ≡ room v
  unfolding free_clusters
  free_are =
      let least : 0 + v.clusters - used_clusters v - (0 - used_clusters v) ≡ v.clusters - used_clusters v = omega arith in
      ap (count_by not) cluster_bits_are ∙ count_from (used_clusters v) 0 v.clusters ∙ least

  -- ---- the bits of the records

  region_byte : (k : ℕ) → k < 8 → slice_index record_region k ≡ cond (ltb k 3) 255 0
  unfolding record_region zeros
  region_byte zero lt = refl
  region_byte (suc zero) lt = refl
  region_byte (suc (suc zero)) lt = refl
  region_byte (suc (suc (suc k))) lt = get_or-replicate 4093 k 0 0 (omega arith) ∙ sym (ap (λ (b : Bool). cond b 255 0) (le-ltb (suc (suc (suc k))) 3 (omega arith)))

  abbrev record_bytes_here : List ℕ
  record_bytes_here = extent_bytes c 8 (extents_at 3 1 8)

  record_byte : (k : ℕ) → k < 8 → slice_index record_bytes_here k ≡ cond (ltb k 3) 255 0
  record_byte k lt = extent_byte c 3 1 8 record_region has.record_bits_read length-record_bits (omega arith) k lt ∙ region_byte k lt

  byte_full : (b : Bool) (j : ℕ) → j < 8 → is_one (cond b 255 0) j ≡ b
  byte_full true j lt = full_bit j lt
  byte_full false j lt = clear_bit j lt

  below_24 : (n : ℕ) → ltb (n / 8) 3 ≡ ltb n 24
  below_24 n = elim (cases_lt n 24) [
    | inl lt ↦ lt-ltb (n / 8) 3 (omega arith) ∙ sym (lt-ltb n 24 lt)
    | inr le ↦ le-ltb (n / 8) 3 (omega arith) ∙ sym (le-ltb n 24 le)
  ]

  pub record_bit_is : (n : ℕ) → n < 64 → bit (record_bits c (vol v time)) n ≡ ltb n 24
  unfolding record_bits
  record_bit_is n lt =
      ap (λ (s : Option Stream). bit (bits_of_bytes (bytes_or c 8 s) (count_of (vol v time))) n) record_bitmap_here
      ∙ bit-bits_of_bytes record_bytes_here (count_of (vol v time)) n (omega (arith, count_is v time))
      ∙ ap (λ (b : ℕ). is_one b (n % 8)) (record_byte (n / 8) (omega arith))
      ∙ byte_full (ltb (n / 8) 3) (n % 8) (omega arith)
      ∙ below_24 n
