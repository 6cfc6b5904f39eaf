-- The log of a new volume is a ring of blank pages.
use Rattle.std.proofs.Common.{◌≡◌, ℕ, ◌+◌, ◌-◌, ◌*◌, ◌/◌, ◌^◌, ◌<◌, ◌≤◌, true, List, length, take, drop, Option, Some, None, refl, sym, ap, ◌∙◌, subst, arith}
use Rattle.std.proofs.Math.Path.{fun_ext}
use Rattle.std.proofs.Math.Pow.{pow_mono}
use Rattle.std.proofs.lemmas.Bool.{ltb-true}
use Rattle.disk_model.specs.declared.block.Body.{Body}
use Rattle.disk_model.specs.declared.block.BlockKind.TheVariants.{Plain}
use Rattle.disk_model.specs.Sectors.{sector_of}
use Rattle.disk_model.specs.Content.{Content, content_of}
use Rattle.sector_device.specs.Sectors.{sector_in}
use Rattle.sector_device.specs.Disks.{Disk, IsSettled, IsSized, seen}
use Rattle.state_model.specs.declared.stream.Stream.TheVariants.{Placed}
use Rattle.state_model.specs.Loads.{data_stream}
use Rattle.log_page.specs.declared.places.LogPlace.{LogPlace}
use Rattle.log_page.specs.declared.restart.Restart.{Restart}
use Rattle.log_page.specs.Places.{lap_of, sequence_bits, place_bits, digits}
use Rattle.log_page.specs.LiveLogs.{said_lsn}
use Rattle.log_page.specs.Restarts.{restart_of, is_blank, whole_one}
use Rattle.log_reading.specs.LogPages.{log_sector, sector_bytes, log_bytes, page_in}
use Rattle.log_reading.specs.Rings.{IsPageAt, IsRingPlace}
use Rattle.log_reading.proofs.Bytes.{all_initialised}
use Rattle.format_laws.specs.image_open.LogPlaces.{stream_place, place_of_log}
use Rattle.volume_format.specs.declared.layout.Layout.{Layout}
use Rattle.volume_format.specs.Layouts.{IsLayout, layout_of, used_clusters}
use Rattle.volume_format.specs.Files.{system_data, record_of}
use Rattle.volume_format.specs.Images.{formatted, log_bytes as new_bytes}
use Rattle.format_laws.specs.format_blocks.Blocks.{block, HasBlocks}
use Rattle.format_laws.specs.format_blocks.Regions.{CanFormat}
use Rattle.format_laws.proofs.format_blocks.Sizing.{length-log}
use Rattle.format_laws.proofs.format_blocks.Standing.{layout_fits}
use Rattle.format_laws.proofs.format_blocks.Bodies.{blocks_read}
use Rattle.format_laws.specs.format_files.Volumes.{extents_at, new_geometry}
use Rattle.format_laws.proofs.format_files.Streams.{data_is}
use Rattle.format_laws.proofs.EmptyLog.{filler, filler_part, page_is, no_restart, blank, unsaid, lap_left}
use Rattle.format_laws.proofs.NewLog.{new_place, pages_are, place_sector, initialised_past}
use Rattle.ring_laws.specs.Numbers.{IsInRing}
use Rattle.ring_laws.specs.PageBytes.{raw_page}
use Rattle.ring_laws.specs.RestartPages.{said_restart, IsBelow}
use Rattle.ring_laws.proofs.LogSectors.{read_is_raw}
use Rattle.store_model.specs.Geometry.{SectorBytes}
use Rattle.txn_core.specs.Openings.{IsBefore, OpensOn, LogsOpen}
use Rattle.format_store.specs.Openings.{new_log, NewLogsOpen}

absurd_none : {X Y : Type 0} {x : X} → None ≡ Some x → Y
absurd_none e = absurd cc

-- ---- the place

module _ (clusters device pages : ℕ) (room : 416 + 8 * pages ≤ device) (some : 512 ≤ pages) (few : pages ≤ 2048) (inside : 52 + pages ≤ clusters) where
  abbrev place : LogPlace
  place = new_place clusters device pages

  page_at : (n : ℕ) → n < pages → IsPageAt place n (416 + 8 * n)
  unfolding new_place stream_place
  page_at n lt = record {
    begun = omega arith;
    volume = omega arith;
    row = λ i small. place_sector clusters device pages room some few (8 * n + i) (omega arith) ∙ ap (λ (s : ℕ). Some s) (omega arith);
    initialised = omega arith;
  }

  ring_here : IsRingPlace place
  ring_here =
      let count = pages_are clusters device pages in
      let wide : 2 ^ 11 ≤ 2 ^ 52 = pow_mono {i = 11} {j = 52} (omega arith) in
      record {
        ring = omega (arith, count);
        small = omega (arith, count);
        pages = λ n lt. (416 + 8 * n, page_at n (omega (arith, count, lt)));
        apart = λ i j s less low a b.
            let first = sym (place_sector clusters device pages room some few i (omega (arith, count, less, low))) ∙ a in
            let second = sym (place_sector clusters device pages room some few j (omega (arith, count, low))) ∙ b in
            grind (arith, first, second, less);
      }

  -- ---- its pages

  module _ (at : SectorBytes) (filled : (s : ℕ) → s < 8 * pages → (content_of at (block (416 + s) Plain)).bytes ≡ filler 512) where
    raw_here : (k : ℕ) → k < pages → raw_page place at k ≡ filler 4096
    raw_here k lt =
        let count = pages_are clusters device pages in
        let bytes : (s : ℕ) → s < 8 * place.pages → log_bytes (content_of at) place s ≡ filler 512 = λ s low.
        let below : s < 8 * pages = omega (arith, low, count) in
        ap (sector_bytes (content_of at) (place.initialised - 512 * s)) (place_sector clusters device pages room some few s below)
        ∙ all_initialised (place.initialised - 512 * s) (content_of at (block (416 + s) Plain)).bytes (initialised_past clusters device pages room some few s below)
        ∙ filled s below in
        sym (read_is_raw place at k ring_here (omega (arith, count, lt))) ∙ page_is (content_of at) place bytes k (omega (arith, count, lt))

    nothing_said : (k : ℕ) → k < pages → said_restart (raw_page place at k) ≡ None
    nothing_said k lt = ap said_restart (raw_here k lt) ∙ ap whole_one (no_restart 4096 (omega arith) (omega arith))

    before : (restart : ℕ) → restart ≤ 1 → IsBefore place 1 restart at
    before restart least =
        let count = pages_are clusters device pages in
        let other : 1 - restart < pages = omega arith in
        record {
          laps = λ k lsn in_ring says. absurd_none (sym (ap said_lsn (raw_here k (omega (arith, count, in_ring))) ∙ unsaid 4096 (omega arith)) ∙ says);
          newer = rw (nothing_said restart (omega arith)) tt;
          blank = λ none. ap is_blank (raw_here (1 - restart) other) ∙ blank 4096;
          early = λ c says. absurd_none (sym (nothing_said (1 - restart) other) ∙ says);
        }

lap_room : (clusters device pages : ℕ) → 512 ≤ pages → pages ≤ 2048 → 1 < 2 ^ sequence_bits (new_place clusters device pages).pages
lap_room clusters device pages some few =
    let left : 1 + 2 ^ 16 < 2 ^ sequence_bits pages = ltb-true (1 + 2 ^ 16) (2 ^ sequence_bits pages) (lap_left pages (omega arith) few) in
    subst (λ (n : ℕ). 1 < 2 ^ sequence_bits n) (sym (pages_are clusters device pages)) (omega (arith, left))

-- ---- a new volume

module _ (old : List (List ℕ)) (seed time : ℕ) (can : CanFormat old seed time) where
  abbrev v : Layout
  v = layout_of (length old)

  layout : IsLayout v
  layout = layout_fits (length old) can.small can.least

  place_here : new_log (length old) time ≡ new_place v.clusters (length old) v.log_pages
  unfolding new_place record_of system_data
  place_here = ap (place_of_log 8 v.clusters (length old)) (data_is v layout time 2 (omega arith))

  device_room : 416 + 8 * v.log_pages ≤ length old
  unfolding layout_of
  device_room =
      let within = layout.inside in
      let count = layout.clusters in
      omega (arith, within, count)

  cluster_room : 52 + v.log_pages ≤ v.clusters
  cluster_room = let within = layout.inside in omega (arith, within)

  filled : (s : ℕ) → s < 8 * v.log_pages → (content_of (sector_of (formatted old seed time)) (block (416 + s) Plain)).bytes ≡ filler 512
  unfolding new_bytes sector_in filler
  filled s inside = ap (λ (b : Body). b.bytes) ((blocks_read old seed time can).log s (omega (arith, length-log v))) ∙ filler_part (512 * s) 512 (4096 * v.log_pages) (omega arith)

  opened : LogsOpen → (restart opens : ℕ) (disk : Disk) → ((s : ℕ) → seen disk s ≡ sector_of (formatted old seed time) s) → IsSized disk → IsSettled disk → restart ≤ 1
      → IsRingPlace (new_log (length old) time) × OpensOn (new_log (length old) time) 1 restart opens disk
  opened opens_at restart opens disk shows sized settled least =
      let ring = ring_here v.clusters (length old) v.log_pages device_room layout.log_some layout.log_small cluster_room in
      let shown = sym (fun_ext shows) in
      let is_before = before v.clusters (length old) v.log_pages device_room layout.log_some layout.log_small cluster_room (seen disk) (subst (λ (at : SectorBytes). (s : ℕ) → s < 8 * v.log_pages → (content_of at (block (416 + s) Plain)).bytes ≡ filler 512) shown filled) restart least in
      subst (λ (p : LogPlace). IsRingPlace p × OpensOn p 1 restart opens disk) (sym place_here)
      (ring, opens_at (new_place v.clusters (length old) v.log_pages) 1 restart opens disk ring (omega arith) (lap_room v.clusters (length old) v.log_pages layout.log_some layout.log_small) least sized settled is_before)

pub all_open : LogsOpen → NewLogsOpen
all_open opens_at = λ old seed time restart opens disk can shows sized settled least. opened old seed time can opens_at restart opens disk shows sized settled least
