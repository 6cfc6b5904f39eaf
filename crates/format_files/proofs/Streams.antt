-- The streams of the twelve system files.
use Rattle.std.proofs.Common.{◌≡◌, ℕ, ◌+◌, ◌-◌, ◌*◌, ◌/◌, ◌%◌, ◌^◌, ◌<◌, ◌≤◌, true, ltb, List, [], ◌∷◌, ◌++◌, Option, Some, None, Result, refl, ap, ◌∙◌, arith}
use Rattle.std.specs.List.{AllByRecursion, list_all}
use Rattle.std.proofs.lemmas.Bool.{eq-eqb, ltb-true, lt-ltb, le-leb, and_from}
use Rattle.disk_model.specs.Numbers.{spell}
use Rattle.disk_model.specs.declared.block.BlockKind.{BlockKind}
use Rattle.disk_model.specs.Sectors.{sectors}
use Rattle.record_model.specs.declared.attribute.Attr.{Attr}
use Rattle.record_model.specs.declared.runs.PairsFault.{PairsFault}
use Rattle.record_model.specs.declared.runs.Run.{Run}
use Rattle.record_model.specs.Records.{Record}
use Rattle.record_model.specs.Constants.{data_type, names_index, index_allocation, bitmap_type}
use Rattle.state_model.specs.declared.stream.Stream.{Stream}
use Rattle.state_model.specs.declared.stream.Stream.TheVariants.{Held, Placed}
use Rattle.state_model.specs.Streams.{is_attribute_of, attributes_of, runs_or, attribute_runs, joined, stream_of, block_at}
use Rattle.state_model.specs.Loads.{span, has_fitting_pairs, has_all_pairs, data_stream}
use Rattle.format_blocks.specs.volume_format.declared.layout.Layout.{Layout}
use Rattle.format_blocks.specs.volume_format.declared.naming.Data.{Data}
use Rattle.format_blocks.specs.volume_format.declared.naming.Data.TheVariants.{Absent, Empty, Clusters}
use Rattle.format_blocks.specs.volume_format.Layouts.{IsLayout, block_first, cluster_bits_bytes}
use Rattle.format_blocks.specs.volume_format.Files.{mapped, one_run, stream_sizes, in_clusters, bad_name, standard, name_attribute, system_attrs, system_data, other_streams, volume_streams, root_streams, extend_streams, system_record, reserved_record, spare_record, record_of}
use Rattle.format_blocks.specs.Blocks.{block}
use Rattle.format_files.specs.Volumes.{extents_at}
use Rattle.format_blocks.proofs.Naming.{of_twelve}
use Rattle.format_blocks.proofs.Fitting.{IsSmallRun, runs_read}
use Rattle.format_blocks.proofs.Recording.{by_kind}

-- ---- one run

placed_by : (clusters real initialised : ℕ) → List Run → Option Stream
placed_by clusters real initialised runs = Some (Placed (record { runs = runs ++ []; allocated = 4096 * clusters; real = real; initialised = initialised }))

pub mapped_stream : (id kind : ℕ) (name : List ℕ) (lcn : Option ℕ) (clusters real initialised : ℕ) → IsSmallRun lcn clusters
    → joined (mapped id kind name lcn clusters real initialised ∷ []) ≡ Some (Placed (record { runs = one_run lcn clusters; allocated = 4096 * clusters; real = real; initialised = initialised }))
unfolding attribute_runs placed_by
mapped_stream id kind name lcn clusters real initialised small = ap (λ (read : Result (List Run) PairsFault). placed_by clusters real initialised (runs_or read)) (runs_read lcn clusters small)

pub mapped_runs : (id kind : ℕ) (name : List ℕ) (lcn : Option ℕ) (clusters real initialised : ℕ) → IsSmallRun lcn clusters → attribute_runs (mapped id kind name lcn clusters real initialised) ≡ one_run lcn clusters
unfolding attribute_runs
mapped_runs id kind name lcn clusters real initialised small = ap runs_or (runs_read lcn clusters small)

pub mapped_spans : (id kind : ℕ) (name : List ℕ) (lcn : Option ℕ) (clusters real initialised : ℕ) → IsSmallRun lcn clusters → has_fitting_pairs (mapped id kind name lcn clusters real initialised) ≡ true
mapped_spans id kind name lcn clusters real initialised small =
    let some = small.some in
    let whole : 0 + (clusters + 0) ≡ clusters - 1 + 1 = omega arith in
    ap (span (stream_sizes clusters real initialised)) (runs_read lcn clusters small)
    ∙ eq-eqb ((0 + (clusters + 0)) % 2 ^ 64) ((clusters - 1 + 1) % 2 ^ 64) (ap (λ (n : ℕ). n % 2 ^ 64) whole)

-- a block of a stream in one run
pub block_in_run : (first clusters : ℕ) (kind : BlockKind) (n : ℕ) → 0 < sectors kind → sectors kind * n + sectors kind ≤ 8 * clusters → block_at 8 (one_run (Some first) clusters) kind n ≡ Some (block (8 * first + sectors kind * n) kind)
unfolding block_at
block_in_run first clusters kind n some inside =
    let at : ℕ = sectors kind * n in
    let low : (sectors kind * n + sectors kind - 1) / 8 < 0 + clusters = omega arith in
    let place : (first + (sectors kind * n / 8 - 0)) * 8 + sectors kind * n % 8 ≡ 8 * first + sectors kind * n = omega arith in
    rw (le-leb 0 (sectors kind * n / 8) (omega arith), lt-ltb ((sectors kind * n + sectors kind - 1) / 8) (0 + clusters) low) (ap (λ (s : ℕ). Some (block s kind)) place)

-- ---- which runs are small

small_run : (first clusters : ℕ) → 0 < clusters → clusters < 2 ^ 32 → first < 2 ^ 32 → IsSmallRun (Some first) clusters
small_run first clusters some few place = record { some = some; few = few; place = place }

module _ (v : Layout) (layout : IsLayout v) where
  pub log_run : IsSmallRun (Some 52) v.log_pages
  log_run = small_run 52 v.log_pages (omega (arith, layout.log_some)) (omega (arith, layout.log_small)) (omega arith)

  pub bits_run : IsSmallRun (Some (52 + v.log_pages)) v.bitmap_clusters
  bits_run = small_run (52 + v.log_pages) v.bitmap_clusters (omega (arith, layout.bitmap_some)) (omega (arith, layout.bitmap_small)) (omega (arith, layout.log_small))

  pub block_run : IsSmallRun (Some (block_first v)) 1
  block_run = small_run (block_first v) 1 (omega arith) (omega arith) (omega (arith, layout.log_small, layout.bitmap_small))

  pub bad_run : IsSmallRun None v.clusters
  bad_run = record { some = omega (arith, layout.inside); few = omega (arith, layout.small); place = tt }

pub fixed_run : (first clusters : ℕ) → 0 < clusters → clusters ≤ 64 → first ≤ 64 → IsSmallRun (Some first) clusters
fixed_run first clusters some few place = small_run first clusters some (omega arith) (omega arith)

-- ---- the streams

-- the stream of data
abbrev pub stream_of_data : Data → Option Stream
stream_of_data Absent = None
stream_of_data Empty = Some (Held [])
stream_of_data (Clusters first clusters bytes) = Some (Placed (extents_at first clusters bytes))

module _ (v : Layout) (layout : IsLayout v) (time : ℕ) where
  data_in : (first clusters bytes : ℕ) → IsSmallRun (Some first) clusters → joined (in_clusters 2 data_type [] first clusters bytes ∷ []) ≡ Some (Placed (extents_at first clusters bytes))
  data_in first clusters bytes small = mapped_stream 2 data_type [] (Some first) clusters bytes bytes small

  pub data_is : (n : ℕ) → n < 12 → data_stream (system_record v time n) ≡ stream_of_data (system_data v n)
  unfolding data_stream stream_of attributes_of is_attribute_of system_record system_attrs system_data other_streams standard name_attribute volume_streams root_streams extend_streams
  data_is n lt = of_twelve (λ k. data_stream (system_record v time k) ≡ stream_of_data (system_data v k))
      (data_in 4 16 65536 (fixed_run 4 16 (omega arith) (omega arith) (omega arith)))
      (data_in 2 1 4096 (fixed_run 2 1 (omega arith) (omega arith) (omega arith)))
      (data_in 52 v.log_pages (4096 * v.log_pages) (log_run v layout))
      refl
      refl
      refl
      (data_in (52 + v.log_pages) v.bitmap_clusters (cluster_bits_bytes v) (bits_run v layout))
      (data_in 0 2 8192 (fixed_run 0 2 (omega arith) (omega arith) (omega arith)))
      refl
      refl
      (data_in 20 32 131072 (fixed_run 20 32 (omega arith) (omega arith) (omega arith)))
      refl
      n lt

  -- the bitmap of the file table
  pub record_bitmap_is : stream_of bitmap_type [] (system_record v time 0).attrs ≡ Some (Placed (extents_at 3 1 8))
  unfolding stream_of attributes_of is_attribute_of system_record system_attrs system_data other_streams standard name_attribute
  record_bitmap_is = mapped_stream 3 0xB0 [] (Some 3) 1 8 8 (fixed_run 3 1 (omega arith) (omega arith) (omega arith))

  -- the root's index allocation, and its bitmap
  pub root_blocks_are : stream_of index_allocation names_index (system_record v time 5).attrs ≡ Some (Placed (extents_at (block_first v) 1 4096))
  unfolding stream_of attributes_of is_attribute_of system_record system_attrs system_data other_streams root_streams standard name_attribute
  root_blocks_are = mapped_stream 3 0xA0 (0x24 ∷ 0x49 ∷ 0x33 ∷ 0x30 ∷ []) (Some (block_first v)) 1 4096 4096 (block_run v layout)

  pub root_bitmap_is : stream_of bitmap_type names_index (system_record v time 5).attrs ≡ Some (Held (spell 8 1))
  unfolding stream_of attributes_of is_attribute_of system_record system_attrs system_data other_streams root_streams standard name_attribute
  root_bitmap_is = refl

  pub bad_stream_is : stream_of data_type bad_name (system_record v time 8).attrs ≡ Some (Placed (record { runs = one_run None v.clusters; allocated = 4096 * v.clusters; real = 4096 * v.clusters; initialised = 0 }))
  unfolding stream_of attributes_of is_attribute_of system_record system_attrs system_data other_streams standard name_attribute
  bad_stream_is = mapped_stream 2 data_type bad_name None v.clusters (4096 * v.clusters) 0 (bad_run v layout)

  -- ---- mapping pairs

  pairs_fit : (attrs : List Attr) → AllByRecursion (λ a. has_fitting_pairs a ≡ true) attrs → list_all has_fitting_pairs attrs ≡ true
  pairs_fit [] all = refl
  pairs_fit (a ∷ attrs) all = and_from (has_fitting_pairs a) (list_all has_fitting_pairs attrs) all.0 (pairs_fit attrs all.1)

  data_fits : (first clusters bytes : ℕ) → IsSmallRun (Some first) clusters → has_fitting_pairs (in_clusters 2 data_type [] first clusters bytes) ≡ true
  data_fits first clusters bytes small = mapped_spans 2 data_type [] (Some first) clusters bytes bytes small

  pub all_pairs : (n : ℕ) → n < 12 → has_all_pairs (system_record v time n) ≡ true
  unfolding has_all_pairs system_record system_attrs system_data other_streams standard name_attribute volume_streams root_streams extend_streams
  all_pairs n lt = of_twelve (λ k. has_all_pairs (system_record v time k) ≡ true)
      (pairs_fit (system_attrs v time 0) (refl, (refl, (data_fits 4 16 65536 (fixed_run 4 16 (omega arith) (omega arith) (omega arith)), (mapped_spans 3 0xB0 [] (Some 3) 1 8 8 (fixed_run 3 1 (omega arith) (omega arith) (omega arith)), tt)))))
      (pairs_fit (system_attrs v time 1) (refl, (refl, (data_fits 2 1 4096 (fixed_run 2 1 (omega arith) (omega arith) (omega arith)), tt))))
      (pairs_fit (system_attrs v time 2) (refl, (refl, (data_fits 52 v.log_pages (4096 * v.log_pages) (log_run v layout), tt))))
      refl
      refl
      (pairs_fit (system_attrs v time 5) (refl, (refl, (refl, (mapped_spans 3 0xA0 (0x24 ∷ 0x49 ∷ 0x33 ∷ 0x30 ∷ []) (Some (block_first v)) 1 4096 4096 (block_run v layout), (refl, tt))))))
      (pairs_fit (system_attrs v time 6) (refl, (refl, (data_fits (52 + v.log_pages) v.bitmap_clusters (cluster_bits_bytes v) (bits_run v layout), tt))))
      (pairs_fit (system_attrs v time 7) (refl, (refl, (data_fits 0 2 8192 (fixed_run 0 2 (omega arith) (omega arith) (omega arith)), tt))))
      (pairs_fit (system_attrs v time 8) (refl, (refl, (mapped_spans 2 data_type bad_name None v.clusters (4096 * v.clusters) 0 (bad_run v layout), tt))))
      refl
      (pairs_fit (system_attrs v time 10) (refl, (refl, (data_fits 20 32 131072 (fixed_run 20 32 (omega arith) (omega arith) (omega arith)), tt))))
      refl
      n lt

  pub all_pairs_of : (n : ℕ) → n < 64 → has_all_pairs (record_of v time n) ≡ true
  unfolding record_of has_all_pairs reserved_record standard
  all_pairs_of n lt = by_kind (λ (r : Record). list_all has_fitting_pairs r.attrs ≡ true) (ltb n 12) (ltb n 16) (system_record v time n) (reserved_record time n) (spare_record n) (λ is. all_pairs n (ltb-true n 12 is)) refl refl
