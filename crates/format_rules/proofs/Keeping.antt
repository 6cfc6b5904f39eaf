-- The streams of a new volume keep what streams have to keep.
use Rattle.std.specs.Prelude.{◌==◌, not}
use Rattle.std.proofs.Common.{◌≡◌, ℕ, zero, suc, ◌+◌, ◌*◌, ◌<◌, ◌≤◌, Bool, true, false, cond, eqb, leb, ◌&&◌, ◌||◌, List, [], ◌∷◌, Option, Some, None, refl, ap, ◌∙◌, arith}
use Rattle.std.specs.List.{AllByRecursion, list_all, list_any, range_with_len}
use Rattle.std.proofs.lemmas.Bool.{le-leb, eq-eqb, and_from}
use Rattle.disk_model.specs.declared.block.Body.{Body}
use Rattle.disk_model.specs.declared.block.BlockKind.{BlockKind}
use Rattle.disk_model.specs.declared.block.BlockKind.TheVariants.{FileRec, Index}
use Rattle.disk_model.specs.Sectors.{sectors}
use Rattle.disk_model.specs.Content.{Content}
use Rattle.record_model.specs.declared.attribute.Attr.{Attr}
use Rattle.record_model.specs.Records.{record_spelling}
use Rattle.record_model.specs.Nodes.{node_spelling}
use Rattle.record_model.specs.Constants.{data_type, names_index, index_allocation, bitmap_type}
use Rattle.state_model.specs.declared.stream.Stream.{Stream}
use Rattle.state_model.specs.declared.stream.Stream.TheVariants.{Placed}
use Rattle.state_model.specs.Rules.{implies, at_file, first_failing}
use Rattle.state_model.specs.Streams.{is_attribute_of, attributes_of, joined, stream_of, block_at}
use Rattle.state_model.specs.Loads.{data_stream}
use Rattle.volume_model.specs.Volumes.{file_in, count_of, size_or, record_bitmap, cluster_bitmap}
use Rattle.volume_model.specs.Sizes.{keeps_place, fits_volume, keeps_stream, has_hole, keeps_whole, is_torn_at, begun, has_torn, stream_has_torn, keeps_untorn, is_initialised, keeps_table, keeps_bitmaps, keeps_streams, keeps_sizes}
use Rattle.volume_state.specs.Rules.{broken_4, file_count}
use Rattle.format_files.specs.volume_format.declared.layout.Layout.{Layout}
use Rattle.format_files.specs.volume_format.Layouts.{IsLayout, block_first, cluster_bits_first, cluster_bits_bytes}
use Rattle.format_files.specs.volume_format.Files.{in_clusters, mapped, one_run, bad_name, standard, name_attribute, is_directory, system_attrs, system_data, other_streams, volume_streams, root_streams, extend_streams, system_record, reserved_record, record_of}
use Rattle.format_files.specs.volume_format.Indexes.{root_node}
use Rattle.format_files.specs.format_blocks.Blocks.{block, whole, HasBlocks}
use Rattle.format_files.specs.Volumes.{extents_at}
use Rattle.format_rules.specs.Rules.{NewVolumeKeepsSizes}
use Rattle.format_files.proofs.format_blocks.Naming.{of_twelve}
use Rattle.format_files.proofs.format_blocks.Fitting.{IsSmallRun}
use Rattle.format_files.proofs.Streams.{mapped_stream, fixed_run, log_run, bits_run, block_run, bad_run, block_in_run, data_is, record_bitmap_is, root_blocks_are, root_bitmap_is}
use Rattle.format_files.proofs.Linking.{vol, count_is, none_failing, of_sixteen, of_each}
use Rattle.format_files.proofs.Bits.{cluster_bitmap_is, record_bitmap_here}
use Rattle.format_files.proofs.Owning.{implied}

-- ---- sizes

fits_at : (first clusters bytes all : ℕ) → first + clusters ≤ all → bytes ≤ 4096 * clusters → fits_volume 8 all (Some (Placed (extents_at first clusters bytes))) ≡ true
fits_at first clusters bytes all inside short =
    let whole : 4096 * clusters ≡ (clusters + 0) * (512 * 8) = omega arith in
    and_from (leb (first + clusters) all && true) ((leb bytes bytes && leb bytes (4096 * clusters)) && eqb (4096 * clusters) ((clusters + 0) * (512 * 8)))
    (and_from (leb (first + clusters) all) true (le-leb (first + clusters) all inside) refl)
    (and_from (leb bytes bytes && leb bytes (4096 * clusters)) (eqb (4096 * clusters) ((clusters + 0) * (512 * 8)))
    (and_from (leb bytes bytes) (leb bytes (4096 * clusters)) (le-leb bytes bytes (omega arith)) (le-leb bytes (4096 * clusters) short))
    (eq-eqb (4096 * clusters) ((clusters + 0) * (512 * 8)) whole))

fits_hole : (clusters all : ℕ) → fits_volume 8 all (Some (Placed (record { runs = one_run None clusters; allocated = 4096 * clusters; real = 4096 * clusters; initialised = 0 }))) ≡ true
fits_hole clusters all =
    let whole : 4096 * clusters ≡ (clusters + 0) * (512 * 8) = omega arith in
    and_from (leb 0 (4096 * clusters) && leb (4096 * clusters) (4096 * clusters)) (eqb (4096 * clusters) ((clusters + 0) * (512 * 8)))
    (and_from (leb 0 (4096 * clusters)) (leb (4096 * clusters) (4096 * clusters)) (le-leb 0 (4096 * clusters) (omega arith)) (le-leb (4096 * clusters) (4096 * clusters) (omega arith)))
    (eq-eqb (4096 * clusters) ((clusters + 0) * (512 * 8)) whole)

each_stream : (all : ℕ) (attrs xs : List Attr) → AllByRecursion (λ a. keeps_stream 8 all attrs a ≡ true) xs → list_all (keeps_stream 8 all attrs) xs ≡ true
each_stream all attrs [] each = refl
each_stream all attrs (a ∷ xs) each = and_from (keeps_stream 8 all attrs a) (list_all (keeps_stream 8 all attrs) xs) each.0 (each_stream all attrs xs each.1)

module _ (v : Layout) (layout : IsLayout v) (time : ℕ) where
  abbrev pub all : ℕ
  all = v.clusters

  mapped_fits : (id kind : ℕ) (name : List ℕ) (first clusters bytes : ℕ) → IsSmallRun (Some first) clusters → first + clusters ≤ all → bytes ≤ 4096 * clusters → fits_volume 8 all (joined (mapped id kind name (Some first) clusters bytes bytes ∷ [])) ≡ true
  mapped_fits id kind name first clusters bytes small inside short = ap (fits_volume 8 all) (mapped_stream id kind name (Some first) clusters bytes bytes small) ∙ fits_at first clusters bytes all inside short

  bad_fits : fits_volume 8 all (joined (mapped 2 data_type bad_name None v.clusters (4096 * v.clusters) 0 ∷ [])) ≡ true
  bad_fits = ap (fits_volume 8 all) (mapped_stream 2 data_type bad_name None v.clusters (4096 * v.clusters) 0 (bad_run v layout)) ∙ fits_hole v.clusters all

  data_fits : (first clusters bytes : ℕ) → IsSmallRun (Some first) clusters → first + clusters ≤ all → bytes ≤ 4096 * clusters → fits_volume 8 all (joined (in_clusters 2 data_type [] first clusters bytes ∷ [])) ≡ true
  data_fits first clusters bytes small inside short = mapped_fits 2 data_type [] first clusters bytes small inside short

  abbrev pub Kept : ℕ → Type 0
  Kept n = list_all (keeps_stream 8 all (system_record v time n).attrs) (system_record v time n).attrs ≡ true

  pub streams_kept : (n : ℕ) → n < 12 → Kept n
  unfolding keeps_stream stream_of attributes_of is_attribute_of system_record system_attrs system_data other_streams standard name_attribute volume_streams root_streams extend_streams
  streams_kept n lt =
      let inside = layout.inside in
      let bits = layout.bitmap_whole in
      let s = λ (k : ℕ). (system_record v time k).attrs in
      of_twelve Kept
      (each_stream all (s 0) (s 0) (refl, (refl, (data_fits 4 16 65536 (fixed_run 4 16 (omega arith) (omega arith) (omega arith)) (omega arith) (omega arith), (mapped_fits 3 0xB0 [] 3 1 8 (fixed_run 3 1 (omega arith) (omega arith) (omega arith)) (omega arith) (omega arith), tt)))))
      (each_stream all (s 1) (s 1) (refl, (refl, (data_fits 2 1 4096 (fixed_run 2 1 (omega arith) (omega arith) (omega arith)) (omega arith) (omega arith), tt))))
      (each_stream all (s 2) (s 2) (refl, (refl, (data_fits 52 v.log_pages (4096 * v.log_pages) (log_run v layout) (omega arith) (omega arith), tt))))
      refl
      refl
      (each_stream all (s 5) (s 5) (refl, (refl, (refl, (mapped_fits 3 0xA0 (0x24 ∷ 0x49 ∷ 0x33 ∷ 0x30 ∷ []) (block_first v) 1 4096 (block_run v layout) (omega arith) (omega arith), (refl, tt))))))
      (each_stream all (s 6) (s 6) (refl, (refl, (data_fits (52 + v.log_pages) v.bitmap_clusters (cluster_bits_bytes v) (bits_run v layout) (omega arith) (omega arith), tt))))
      (each_stream all (s 7) (s 7) (refl, (refl, (data_fits 0 2 8192 (fixed_run 0 2 (omega arith) (omega arith) (omega arith)) (omega arith) (omega arith), tt))))
      (each_stream all (s 8) (s 8) (refl, (refl, (bad_fits, tt))))
      refl
      (each_stream all (s 10) (s 10) (refl, (refl, (data_fits 20 32 131072 (fixed_run 20 32 (omega arith) (omega arith) (omega arith)) (omega arith) (omega arith), tt))))
      refl
      n lt

  -- ---- whole streams

  abbrev stream : ℕ → List ℕ → ℕ → Option Stream
  stream kind name n = stream_of kind name (system_record v time n).attrs

  data_0 : stream data_type [] 0 ≡ Some (Placed (extents_at 4 16 65536))
  unfolding data_stream system_data
  data_0 = data_is v layout time 0 (omega arith)

  data_1 : stream data_type [] 1 ≡ Some (Placed (extents_at 2 1 4096))
  unfolding data_stream system_data
  data_1 = data_is v layout time 1 (omega arith)

  data_2 : stream data_type [] 2 ≡ Some (Placed (extents_at 52 v.log_pages (4096 * v.log_pages)))
  unfolding data_stream system_data
  data_2 = data_is v layout time 2 (omega arith)

  data_6 : stream data_type [] 6 ≡ Some (Placed (extents_at (cluster_bits_first v) v.bitmap_clusters (cluster_bits_bytes v)))
  unfolding data_stream system_data
  data_6 = data_is v layout time 6 (omega arith)

  extend_blocks : stream index_allocation names_index 11 ≡ None
  unfolding stream_of attributes_of is_attribute_of system_record system_attrs system_data other_streams extend_streams standard name_attribute
  extend_blocks = refl

  extend_bits : stream bitmap_type names_index 11 ≡ None
  unfolding stream_of attributes_of is_attribute_of system_record system_attrs system_data other_streams extend_streams standard name_attribute
  extend_bits = refl

  no_hole : (s : Option Stream) (first clusters bytes : ℕ) → s ≡ Some (Placed (extents_at first clusters bytes)) → not (has_hole s) ≡ true
  no_hole s first clusters bytes is = ap (λ (s : Option Stream). not (has_hole s)) is

  both_whole : (s t : Option Stream) → has_hole s ≡ false → has_hole t ≡ false → (not (has_hole s) && not (has_hole t)) ≡ true
  both_whole s t a b = and_from (not (has_hole s)) (not (has_hole t)) (ap not a) (ap not b)

  pub wholes_kept : (n : ℕ) → n < 12 → keeps_whole n (system_record v time n) ≡ true
  unfolding keeps_whole is_directory system_record
  wholes_kept n lt = of_twelve (λ k. keeps_whole k (system_record v time k) ≡ true)
      (zero_whole (no_hole (stream data_type [] 0) 4 16 65536 data_0) (no_hole (stream bitmap_type [] 0) 3 1 8 (record_bitmap_is v layout time)))
      (one_whole (no_hole (stream data_type [] 1) 2 1 4096 data_1))
      (one_whole (no_hole (stream data_type [] 2) 52 v.log_pages (4096 * v.log_pages) data_2))
      refl
      refl
      (both_whole (stream index_allocation names_index 5) (stream bitmap_type names_index 5) (ap has_hole (root_blocks_are v layout time)) (ap has_hole (root_bitmap_is v layout time)))
      (one_whole (no_hole (stream data_type [] 6) (cluster_bits_first v) v.bitmap_clusters (cluster_bits_bytes v) data_6))
      refl
      refl
      refl
      refl
      (both_whole (stream index_allocation names_index 11) (stream bitmap_type names_index 11) (ap has_hole extend_blocks) (ap has_hole extend_bits))
      n lt
    where
      one_whole : {a : Bool} → a ≡ true → ((a && true) && true) ≡ true
      one_whole {a} is = ap (λ (b : Bool). (b && true) && true) is

      zero_whole : {a b : Bool} → a ≡ true → b ≡ true → ((a && b) && true) ≡ true
      zero_whole {a} {b} is is' = and_from (a && b) true (and_from a b is is') refl

  pub tables_kept : (n : ℕ) → n < 12 → keeps_table n (system_record v time n) ≡ true
  tables_kept n lt = of_twelve (λ k. keeps_table k (system_record v time k) ≡ true) (ap is_initialised data_0) refl refl refl refl refl refl refl refl refl refl refl n lt

-- ---- torn blocks

none_any : (p : ℕ → Bool) (a n : ℕ) → ((k : ℕ) → a ≤ k → k < a + n → p k ≡ false) → list_any p (range_with_len a n) ≡ false
none_any p a zero none = refl
none_any p a (suc n) none =
    ap (λ (b : Bool). b || list_any p (range_with_len (a + 1) n)) (none a (omega arith) (omega arith)) ∙ none_any p (a + 1) n (λ k low high. none k (omega arith) (omega arith))

no_torn : (c : Content) (first clusters bytes : ℕ) (kind : BlockKind) (size count : ℕ) (bodies : ℕ → List ℕ) → begun size bytes ≡ count → 0 < sectors kind
    → ((k : ℕ) → k < count → sectors kind * k + sectors kind ≤ 8 * clusters) → ((k : ℕ) → k < count → c (block (8 * first + sectors kind * k) kind) ≡ whole (bodies k))
    → stream_has_torn c 8 kind size (Some (Placed (extents_at first clusters bytes))) ≡ false
unfolding has_torn
no_torn c first clusters bytes kind size count bodies counted some inside wholes =
    none_any (λ n. is_torn_at c (block_at 8 (one_run (Some first) clusters) kind n)) 0 (begun size bytes) (λ k low high.
    let below : k < count = omega (arith, counted) in
    ap (is_torn_at c) (block_in_run first clusters kind k some (inside k below)) ∙ ap (λ (b : Body). b.torn) (wholes k below))

module _ (v : Layout) (layout : IsLayout v) (seed time : ℕ) (c : Content) (has : HasBlocks v seed time c) where
  abbrev of_stream : ℕ → List ℕ → ℕ → Option Stream
  of_stream kind name n = stream_of kind name (system_record v time n).attrs

  table_untorn : stream_has_torn c 8 FileRec 1024 (of_stream data_type [] 0) ≡ false
  table_untorn = ap (stream_has_torn c 8 FileRec 1024) (data_0 v layout time)
      ∙ no_torn c 4 16 65536 FileRec 1024 64 (λ k. record_spelling (record_of v time k)) refl (omega arith) (λ k lt. omega arith) (λ k lt. has.table k lt)

  mirror_untorn : stream_has_torn c 8 FileRec 1024 (of_stream data_type [] 1) ≡ false
  mirror_untorn = ap (stream_has_torn c 8 FileRec 1024) (data_1 v layout time)
      ∙ no_torn c 2 1 4096 FileRec 1024 4 (λ k. record_spelling (record_of v time k)) refl (omega arith) (λ k lt. omega arith) (λ k lt. has.mirror k lt)

  root_place : (k : ℕ) → k < 1 → c (block (8 * block_first v + 8 * k) Index) ≡ whole (node_spelling (root_node v time))
  root_place k lt = let e : 8 * block_first v + 8 * k ≡ 8 * block_first v = omega arith in ap (λ (at : ℕ). c (block at Index)) e ∙ has.root

  root_untorn : stream_has_torn c 8 Index 4096 (of_stream index_allocation names_index 5) ≡ false
  root_untorn = ap (stream_has_torn c 8 Index 4096) (root_blocks_are v layout time)
      ∙ no_torn c (block_first v) 1 4096 Index 4096 1 (λ k. node_spelling (root_node v time)) refl (omega arith) (λ k lt. omega arith) root_place

  extend_untorn : stream_has_torn c 8 Index 4096 (of_stream index_allocation names_index 11) ≡ false
  extend_untorn = ap (stream_has_torn c 8 Index 4096) (extend_blocks v layout time)

  untorn_kept : (n : ℕ) → n < 12 → keeps_untorn c 8 n (system_record v time n) ≡ true
  unfolding keeps_untorn is_directory system_record
  untorn_kept n lt = of_twelve (λ k. keeps_untorn c 8 k (system_record v time k) ≡ true)
      (ap (λ (b : Bool). not b && true) table_untorn)
      (ap (λ (b : Bool). not b && true) mirror_untorn)
      refl refl refl
      (ap not root_untorn)
      refl refl refl refl refl
      (ap not extend_untorn)
      n lt

  -- ---- rule 4

  four_kept : (n : ℕ) → n < 12 → keeps_streams c (vol v time) n (system_record v time n) ≡ true
  unfolding keeps_streams
  four_kept n lt =
      let r = system_record v time n in
      and_from ((list_all (keeps_stream 8 v.clusters r.attrs) r.attrs && keeps_whole n r) && keeps_table n r) (keeps_untorn c 8 n r)
      (and_from (list_all (keeps_stream 8 v.clusters r.attrs) r.attrs && keeps_whole n r) (keeps_table n r)
      (and_from (list_all (keeps_stream 8 v.clusters r.attrs) r.attrs) (keeps_whole n r) (streams_kept v layout time n lt) (wholes_kept v layout time n lt))
      (tables_kept v layout time n lt))
      (untorn_kept n lt)

  reserved_kept : (n : ℕ) → 12 ≤ n → n < 16 → keeps_streams c (vol v time) n (reserved_record time n) ≡ true
  unfolding keeps_streams keeps_stream keeps_whole keeps_untorn stream_of attributes_of is_attribute_of reserved_record standard
  reserved_kept n low lt = of_sixteen (λ k. 12 ≤ k → keeps_streams c (vol v time) k (reserved_record time k) ≡ true) (λ k below above. absurd (omega arith)) (λ le. refl) (λ le. refl) (λ le. refl) (λ le. refl) n lt low

  bitmaps_kept : (n : ℕ) → keeps_bitmaps (vol v time) n ≡ true
  unfolding keeps_bitmaps
  bitmaps_kept n =
      let records : leb (count_of (vol v time)) (8 * size_or (record_bitmap (vol v time))) ≡ true =
      ap (λ (s : Option Stream). leb (count_of (vol v time)) (8 * size_or s)) (record_bitmap_here v layout seed time c has) ∙ le-leb (count_of (vol v time)) 64 (omega (arith, count_is v time)) in
      let clusters : leb v.clusters (8 * size_or (cluster_bitmap (vol v time))) ≡ true =
      ap (λ (s : Option Stream). leb v.clusters (8 * size_or s)) (cluster_bitmap_is v layout seed time c has) ∙ le-leb v.clusters (8 * cluster_bits_bytes v) (omega arith) in
      and_from (implies (n == 0) (leb (count_of (vol v time)) (8 * size_or (record_bitmap (vol v time))))) (implies (n == 6) (leb v.clusters (8 * size_or (cluster_bitmap (vol v time)))))
      (implied (n == 0) (leb (count_of (vol v time)) (8 * size_or (record_bitmap (vol v time)))) (λ is. records))
      (implied (n == 6) (leb v.clusters (8 * size_or (cluster_bitmap (vol v time)))) (λ is. clusters))

  rule_4 : (n : ℕ) → keeps_sizes c (vol v time) n ≡ true
  unfolding keeps_sizes
  rule_4 n = and_from (at_file (keeps_streams c (vol v time) n) (file_in (vol v time) n)) (keeps_bitmaps (vol v time) n)
      (of_each v time (λ k o. at_file (keeps_streams c (vol v time) k) o ≡ true) four_kept reserved_kept (λ k le. refl) n)
      (bitmaps_kept n)

-- the file table begins at the cluster that the boot sector says
table_in_place : (v : Layout) (time : ℕ) → keeps_place (vol v time) ≡ true
unfolding keeps_place block_at
table_in_place v time = refl

pub keeps_sizes_law : NewVolumeKeepsSizes
unfolding broken_4
keeps_sizes_law = λ v seed time c layout small has.
    ap (λ (t : Bool). cond t (first_failing (keeps_sizes c (vol v time)) (file_count (vol v time))) (Some 0)) (table_in_place v time)
    ∙ none_failing (keeps_sizes c (vol v time)) (file_count (vol v time)) (λ n lt. rule_4 v layout seed time c has n)
