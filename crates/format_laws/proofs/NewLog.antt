-- Where the log of a new volume lies, and that recovery by it finds no entry.
use Rattle.std.proofs.Common.{◌≡◌, ℕ, ◌+◌, ◌-◌, ◌*◌, ◌/◌, ◌<◌, ◌≤◌, Option, Some, Ok, ap, ◌∙◌, arith}
use Rattle.disk_model.specs.declared.block.Block.{Block}
use Rattle.disk_model.specs.declared.block.BlockKind.TheVariants.{Plain}
use Rattle.disk_model.specs.Sectors.{sectors}
use Rattle.disk_model.specs.Content.{Content}
use Rattle.state_model.specs.declared.stream.Stream.TheVariants.{Placed}
use Rattle.state_model.specs.Streams.{block_at}
use Rattle.format_rules.specs.volume_format.Files.{one_run}
use Rattle.log_page.specs.declared.places.LogPlace.{LogPlace}
use Rattle.log_page.specs.Places.{page_bytes}
use Rattle.log_reading.specs.LogPages.{sector_in, log_sector, sector_bytes, log_bytes}
use Rattle.log_reading.proofs.Bytes.{all_initialised}
use Rattle.log_recovery.specs.LogStates.{recovery_in}
use Rattle.image_read.specs.image_open.LogPlaces.{first_of, stream_sector, stream_place}
use Rattle.image_read.proofs.image_open.Alike.{in_stream}
use Rattle.format_rules.specs.format_blocks.Blocks.{block}
use Rattle.format_rules.specs.format_files.Volumes.{extents_at}
use Rattle.format_rules.proofs.format_files.Streams.{block_in_run}
use Rattle.format_laws.proofs.EmptyLog.{filler, empty_state, recovery_here, page_is, sector_is}

-- so many pages from cluster 52 on
unfoldable pub new_place : ℕ → ℕ → ℕ → LogPlace
new_place clusters device pages = stream_place 8 clusters device (Placed (extents_at 52 pages (4096 * pages)))

pub pages_are : (clusters device pages : ℕ) → (new_place clusters device pages).pages ≡ pages
unfolding new_place stream_place
pages_are clusters device pages = omega arith

module _ (clusters device pages : ℕ) (room : 416 + 8 * pages ≤ device) (some : 512 ≤ pages) (few : pages ≤ 2048) where
  run_sector : (s : ℕ) → s < 8 * pages → sector_in (new_place clusters device pages).runs s ≡ Some (416 + s)
  unfolding new_place stream_place stream_sector
  run_sector s inside =
      let count : 8 * (4096 * pages / page_bytes) ≡ 8 * pages = omega arith in
      let first : sectors Plain * s ≡ s = omega arith in
      let at : block_at 8 (one_run (Some 52) pages) Plain s ≡ Some (block (8 * 52 + s) Plain) =
      block_in_run 52 pages Plain s (omega arith) (omega arith) ∙ ap (λ (n : ℕ). Some (block (8 * 52 + n) Plain)) first in
      let place : 8 * 52 + s ≡ 416 + s = omega arith in
      in_stream 8 (8 * (4096 * pages / page_bytes)) (one_run (Some 52) pages) s (omega arith)
      ∙ ap (λ (o : Option Block). Some (first_of o)) at
      ∙ ap (λ (n : ℕ). Some n) place

  pub place_sector : (s : ℕ) → s < 8 * pages → log_sector (new_place clusters device pages) s ≡ Some (416 + s)
  unfolding new_place stream_place
  place_sector s inside = sector_is (new_place clusters device pages) s (416 + s) (omega arith) (omega arith) (run_sector s inside)

  -- each sector of the pages is initialised to its end
  pub initialised_past : (s : ℕ) → s < 8 * pages → 512 ≤ (new_place clusters device pages).initialised - 512 * s
  unfolding new_place stream_place
  initialised_past s inside = omega arith

  pub new_recovery : (c : Content) → ((s : ℕ) → s < 8 * pages → (c (block (416 + s) Plain)).bytes ≡ filler 512) → recovery_in c (new_place clusters device pages) ≡ Ok empty_state
  new_recovery c filled =
      let place = new_place clusters device pages in
      let count = pages_are clusters device pages in
      let sectors : (s : ℕ) → s < 8 * place.pages → log_bytes c place s ≡ filler 512 = λ s inside.
      let below : s < 8 * pages = omega (arith, inside, count) in
      ap (sector_bytes c (place.initialised - 512 * s)) (place_sector s below)
      ∙ all_initialised (place.initialised - 512 * s) (c (block (416 + s) Plain)).bytes (initialised_past s below)
      ∙ filled s below in
      recovery_here c place 4096 (omega arith) (omega arith) (omega (arith, count)) (omega (arith, count)) (page_is c place sectors)
