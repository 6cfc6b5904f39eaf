-- The image of a new volume is opened and loaded, and stands for its tree.
use Rattle.std.proofs.Common.{◌≡◌, ℕ, ◌+◌, ◌*◌, ◌^◌, ◌<◌, ◌≤◌, true, leb, ltb, List, length, Result, Some, Ok, refl, sym, ap, ◌∙◌, subst, arith}
use Rattle.std.proofs.lemmas.Bool.{le-leb, lt-ltb}
use Rattle.host_base.specs.Answers.{◌>>=◌}
use Rattle.disk_model.specs.declared.block.Body.{Body}
use Rattle.disk_model.specs.declared.block.BlockKind.TheVariants.{Plain}
use Rattle.disk_model.specs.Bytes.{zeros}
use Rattle.disk_model.specs.Sectors.{IsDisk, sector_of, sectors, raw_from}
use Rattle.disk_model.specs.Content.{Content, HasSizes, content_of}
use Rattle.disk_model.proofs.Sectors.{length-raw_from, length-body_of}
use Rattle.sector_device.specs.Sectors.{sector_in}
use Rattle.record_model.specs.declared.values.VolumeInfo.{VolumeInfo}
use Rattle.record_model.specs.StdValues.{volume_info_of, volume_info_over}
use Rattle.record_model.proofs.FixedValues.{volume_info_read, volume_info_spelled}
use Rattle.record_model.proofs.UnitBytes.{length-zeros}
use Rattle.state_model.specs.declared.stream.Stream.TheVariants.{Placed}
use Rattle.state_model.specs.Loads.{Slot, slot_of, judged, data_stream}
use Rattle.boot_sector.specs.declared.boot.Boot.{Boot}
use Rattle.boot_sector.specs.BootSectors.{clusters, boot_of as read_boot, boot_spelling, FitsBoot}
use Rattle.boot_sector.proofs.Tables.{table_is_read, size_from_test}
use Rattle.boot_sector.proofs.Spelling.{boot_spells}
use Rattle.volume_model.specs.Volumes.{volume_of}
use Rattle.volume_state.specs.Trees.{IsState}
use Rattle.volume_state.specs.Versions.{info_or_none, file_info, volume_info}
use Rattle.log_model.specs.Logs.{recovered}
use Rattle.log_reading.specs.declared.fault.LogRefusal.{LogRefusal}
use Rattle.log_recovery.specs.LogStates.{LogState, recovery_in}
use Rattle.image_read.specs.image_open.declared.refusal.Refusal.TheVariants.{Short}
use Rattle.image_read.specs.image_open.Errors.{boot_refusal, map_refusal, log_refusal, refused_as}
use Rattle.image_read.specs.image_open.LogPlaces.{place_of_log}
use Rattle.image_read.specs.image_open.Volumes.{Opened, boot_in, sized_on, boot_on, geometry_of, log_record, log_place, recovered_at, recovered_in, opened_by, opened_in}
use Rattle.image_read.specs.Errors.{broken_refusal}
use Rattle.image_read.specs.Checks.{volume_on, judged_version, has_version, tree_on, volume_tree, loaded_in, check_in, check_of}
use Rattle.format_rules.specs.volume_format.declared.layout.Layout.{Layout}
use Rattle.format_rules.specs.volume_format.Layouts.{IsLayout, layout_of}
use Rattle.format_rules.specs.volume_format.Files.{system_data, standard, name_attribute, system_attrs, other_streams, volume_streams, system_record, record_of}
use Rattle.format_rules.specs.volume_format.Images.{boot_of, log_bytes, formatted}
use Rattle.format_rules.specs.format_blocks.Blocks.{block, HasBlocks}
use Rattle.format_rules.specs.format_files.Volumes.{extents_at, new_geometry}
use Rattle.format_rules.specs.Trees.{new_tree}
use Rattle.format_laws.specs.Images.{NewVolumeStands, NewImageStandsFor}
use Rattle.format_rules.proofs.format_blocks.Sizing.{length-log}
use Rattle.format_rules.proofs.format_blocks.Standing.{layout_fits, regions_stand}
use Rattle.format_rules.proofs.format_blocks.Bodies.{blocks_read}
use Rattle.format_rules.proofs.format_files.Streams.{data_is}
use Rattle.format_rules.proofs.format_files.Loading.{passes, goes_on}
use Rattle.format_rules.proofs.format_files.Tabling.{used, volume_loaded}
use Rattle.format_rules.proofs.format_files.Linking.{vol, system_here}
use Rattle.format_rules.proofs.Checking.{checked_here, state_here}
use Rattle.format_laws.proofs.EmptyLog.{filler, filler_part, empty_state, same_content}
use Rattle.format_laws.proofs.NewLog.{new_place, new_recovery}

module _ (v : Layout) (layout : IsLayout v) (seed time : ℕ) (seed_fits : seed < 2 ^ 64) (small : time < 2 ^ 64) (c : Content) (has : HasBlocks v seed time c) (device : ℕ) (room : v.sectors ≤ device) (sized : HasSizes c) where
  abbrev boot : Boot
  boot = boot_of v seed

  -- ---- the boot sector

  boot_fits : FitsBoot boot
  boot_fits =
      let count = layout.clusters in
      let inside = layout.inside in
      let few = layout.small in
      record {
        profile = record { per_cluster = size_from_test 8 refl; mft = omega arith; mirror = omega arith; small = omega arith };
        serial = seed_fits;
      }

  boot_read : read_boot (boot_spelling boot) ≡ Ok boot
  boot_read = table_is_read (boot_spelling boot) boot (boot_spells boot boot_fits)

  boot_here : boot_on c device ≡ Ok boot
  unfolding boot_on boot_in
  boot_here =
      goes_on _ boot (sized_on device) (ap (λ (b : Body). refused_as boot_refusal (read_boot b.bytes)) has.boot ∙ ap (refused_as boot_refusal) boot_read)
      ∙ passes (leb v.sectors device) (Short v.sectors device) (Ok boot) (le-leb v.sectors device room)

  -- ---- the log

  log_stream : data_stream (record_of v time 2) ≡ Some (Placed (extents_at 52 v.log_pages (4096 * v.log_pages)))
  unfolding record_of system_data
  log_stream = data_is v layout time 2 (omega arith)

  filled : (s : ℕ) → s < 8 * v.log_pages → (c (block (416 + s) Plain)).bytes ≡ filler 512
  unfolding log_bytes sector_in filler
  filled s inside = ap (λ (b : Body). b.bytes) (has.log s (omega (arith, length-log v))) ∙ filler_part (512 * s) 512 (4096 * v.log_pages) (omega arith)

  log_state : recovery_in c (new_place (clusters boot) device v.log_pages) ≡ Ok empty_state
  log_state =
      let count = layout.clusters in
      let inside = layout.inside in
      new_recovery (clusters boot) device v.log_pages (omega arith) layout.log_some layout.log_small c filled

  log_recovered : recovered_at c (new_place (clusters boot) device v.log_pages) ≡ Ok c
  unfolding recovered_at empty_state
  log_recovered =
      ap (λ (r : Result LogState LogRefusal). refused_as log_refusal r >>= λ state. Ok (recovered c state.log)) log_state
      ∙ ap (λ (d : Content). Ok d) (same_content c sized)

  log_record_read : log_record c new_geometry ≡ Ok (Some (record_of v time 2))
  unfolding log_record
  log_record_read =
      ap (λ (b : Body). refused_as map_refusal (judged 2 (slot_of b))) (has.table 2 (omega arith))
      ∙ ap (λ (p : Slot). refused_as map_refusal (judged 2 p)) (used v layout time small 2 (omega arith))

  place_here : log_place new_geometry (clusters boot) device (Some (record_of v time 2)) ≡ new_place (clusters boot) device v.log_pages
  unfolding new_place
  place_here = ap (place_of_log 8 (clusters boot) device) log_stream

  recovered_here : recovered_in c new_geometry (clusters boot) device ≡ Ok c
  unfolding recovered_in
  recovered_here =
      goes_on _ (Some (record_of v time 2)) (λ file. recovered_at c (log_place new_geometry (clusters boot) device file)) log_record_read
      ∙ ap (recovered_at c) place_here
      ∙ log_recovered

  opening : Content → Opened
  opening content = record { geometry = new_geometry; total = clusters boot; content = content }

  opened_here : opened_in c device ≡ Ok (opening c)
  unfolding opened_in opened_by geometry_of opening
  opened_here = goes_on _ boot (opened_by c device) boot_here ∙ goes_on _ c (λ content. Ok (opening content)) recovered_here

  -- ---- the version

  abbrev version : VolumeInfo
  version = record { major = 3; minor = 1; flags = 0 }

  version_read : volume_info_of (volume_info_over version (zeros 0x0C)) ≡ Ok version
  version_read = volume_info_read (volume_info_over version (zeros 0x0C)) version (volume_info_spelled version (zeros 0x0C) (record { major = omega arith; minor = omega arith; flags = omega arith }) (omega (arith, length-zeros 0x0C)))

  version_in : file_info (Some (system_record v time 3)) ≡ version
  unfolding system_record system_attrs system_data other_streams volume_streams standard name_attribute
  version_in = ap info_or_none version_read

  version_here : has_version (vol v time) ≡ Ok tt
  unfolding has_version volume_info
  version_here = ap (λ o. judged_version (file_info o)) (system_here v time 3 (omega arith)) ∙ ap judged_version version_in

  -- ---- the tree

  tree_here : volume_tree c (vol v time) ≡ Ok (new_tree v time)
  unfolding volume_tree tree_on
  tree_here = goes_on _ tt (λ _. tree_on c (vol v time)) version_here ∙ ap (refused_as broken_refusal) (checked_here v layout seed time small c has)

  total_is : clusters boot ≡ v.clusters
  total_is = layout.clusters

  -- the content is a state of the tree
  pub opened_state : (o : Opened) × (opened_in c device ≡ Ok o) × IsState o.content o.geometry o.total (new_tree v time)
  unfolding opening
  opened_state = (opening c, opened_here, subst (λ (total : ℕ). IsState c new_geometry total (new_tree v time)) (sym total_is) (state_here v layout seed time small c has))

  loaded_here : loaded_in volume_tree c new_geometry (clusters boot) ≡ Ok (new_tree v time)
  unfolding volume_on
  loaded_here =
      ap (λ (total : ℕ). refused_as map_refusal (volume_of c new_geometry total) >>= λ w. volume_tree c w) total_is
      ∙ goes_on _ (vol v time) (λ w. volume_tree c w) (ap (refused_as map_refusal) (volume_loaded v seed time c layout small has))
      ∙ tree_here

  pub check_here : check_in c device ≡ Ok (new_tree v time)
  unfolding check_in opening
  check_here = goes_on _ (opening c) (λ (o : Opened). loaded_in volume_tree o.content o.geometry o.total) opened_here ∙ loaded_here

body_sizes : (disk : List (List ℕ)) → IsDisk disk → HasSizes (content_of (sector_of disk))
body_sizes disk whole = λ b. length-body_of b.kind (raw_from (sector_of disk) b.first (sectors b.kind)) ∙ length-raw_from (sector_of disk) b.first (sectors b.kind) whole

device_sectors : (device : ℕ) → (layout_of device).sectors ≤ device
unfolding layout_of
device_sectors device = omega arith

pub formatted_stands : NewVolumeStands
unfolding check_of
formatted_stands = λ old seed time can.
    let disk = formatted old seed time in
    let stands = regions_stand old seed time can in
    let count = stands.counted in
    let some : ltb 0 (length (formatted old seed time)) ≡ true = lt-ltb 0 (length (formatted old seed time)) (omega (arith, count, can.least)) in
    let v = layout_of (length old) in
    let layout = layout_fits (length old) can.small can.least in
    let has = blocks_read old seed time can in
    passes (ltb 0 (length disk)) (Short 1 0) (check_in (content_of (sector_of disk)) (length disk)) some
    ∙ ap (check_in (content_of (sector_of disk))) count
    ∙ check_here v layout seed time can.seed_fits can.time_fits (content_of (sector_of disk)) has (length old) (device_sectors (length old)) (body_sizes disk stands.whole)

pub formatted_stands_for : NewImageStandsFor
formatted_stands_for = λ old seed time can.
    let disk = formatted old seed time in
    let stands = regions_stand old seed time can in
    let v = layout_of (length old) in
    let layout = layout_fits (length old) can.small can.least in
    let has = blocks_read old seed time can in
    let c = content_of (sector_of disk) in
    let s = opened_state v layout seed time can.seed_fits can.time_fits c has (length old) (device_sectors (length old)) (body_sizes disk stands.whole) in
    record { opening = s.0; opened = ap (opened_in c) stands.counted ∙ s.1; state = s.2 }
