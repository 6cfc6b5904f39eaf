-- The bytes of streams that lie in one region.
use Rattle.std.proofs.Common.{◌≡◌, ℕ, ◌+◌, ◌*◌, ◌/◌, ◌%◌, ◌<◌, ◌≤◌, Bool, cond, List, length, take, drop, slice_index, Some, sym, ap, ◌∙◌, arith}
use Rattle.std.proofs.lemmas.Bool.{lt-ltb}
use Rattle.std.proofs.lemmas.List.{get_or-take, get_or-drop, ext_get_or, length-take-le}
use Rattle.std.proofs.lemmas.List.FromFn.{length-map-range_with_len, get_or-map-range_with_len}
use Rattle.disk_model.specs.declared.block.Body.{Body}
use Rattle.disk_model.specs.declared.block.BlockKind.TheVariants.{Plain}
use Rattle.disk_model.specs.Content.{Content}
use Rattle.sector_device.specs.Sectors.{sector_in as sector_of_bytes}
use Rattle.state_model.specs.Streams.{sector_bytes, sector_in, byte_at, extent_bytes}
use Rattle.format_blocks.specs.volume_format.Files.{one_run}
use Rattle.format_blocks.specs.Blocks.{block, HasSectors}
use Rattle.format_files.specs.Volumes.{extents_at}
use Rattle.format_files.proofs.Streams.{block_in_run}

module _ (c : Content) (first clusters bytes : ℕ) (region : List ℕ) (has : HasSectors c first region) (size : length region ≡ 4096 * clusters) (fits : bytes ≤ 4096 * clusters) where
  sector_here : (s : ℕ) → s < 8 * clusters → sector_in c 8 (one_run (Some first) clusters) s ≡ sector_of_bytes region s
  sector_here s lt =
      let place : 8 * first + 1 * s ≡ 8 * first + s = omega arith in
      ap (sector_bytes c) (block_in_run first clusters Plain s (omega arith) (omega arith))
      ∙ ap (λ (at : ℕ). (c (block at Plain)).bytes) place
      ∙ ap (λ (b : Body). b.bytes) (has s (omega arith))

  byte_of_sector : (i : ℕ) → slice_index (sector_of_bytes region (i / 512)) (i % 512) ≡ slice_index region i
  unfolding sector_of_bytes
  byte_of_sector i =
      let place : 512 * (i / 512) + i % 512 ≡ i = omega arith in
      get_or-take 512 (drop (512 * (i / 512)) region) (i % 512) 0 (omega arith) ∙ get_or-drop (512 * (i / 512)) region (i % 512) 0 ∙ ap (slice_index region) place

  pub byte_here : (i : ℕ) → i < bytes → byte_at c 8 (extents_at first clusters bytes) i ≡ slice_index region i
  unfolding byte_at
  byte_here i lt =
      ap (λ (b : Bool). cond b (slice_index (sector_in c 8 (one_run (Some first) clusters) (i / 512)) (i % 512)) 0) (lt-ltb i bytes lt)
      ∙ ap (λ (sector : List ℕ). slice_index sector (i % 512)) (sector_here (i / 512) (omega arith))
      ∙ byte_of_sector i

  pub length-extent : length (extent_bytes c 8 (extents_at first clusters bytes)) ≡ bytes
  unfolding extent_bytes
  length-extent = length-map-range_with_len (byte_at c 8 (extents_at first clusters bytes)) 0 bytes

  pub extent_byte : (i : ℕ) → i < bytes → slice_index (extent_bytes c 8 (extents_at first clusters bytes)) i ≡ slice_index region i
  unfolding extent_bytes
  extent_byte i lt = get_or-map-range_with_len (byte_at c 8 (extents_at first clusters bytes)) 0 bytes i i 0 lt (omega arith) ∙ byte_here i lt

  pub extent_is : extent_bytes c 8 (extents_at first clusters bytes) ≡ take bytes region
  extent_is = ext_get_or 0 (extent_bytes c 8 (extents_at first clusters bytes)) (take bytes region) (length-extent ∙ sym (length-take-le bytes region (omega arith))) (λ i lt.
      let inside : i < bytes = omega (arith, length-extent) in
      extent_byte i inside ∙ sym (get_or-take bytes region i 0 inside))
