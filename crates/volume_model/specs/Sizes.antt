-- What the streams of a file have to keep: their attributes, their places and sizes, and the blocks that must not be torn.
use Rattle.std.specs.Prelude.{ℕ, ◌+◌, ◌-◌, ◌*◌, ◌/◌, Bool, true, false, not, ◌&&◌, ◌||◌, ◌==◌, nat_le, nat_lt, is_some, List, [], ◌∷◌, Option, Some, None}
use Rattle.std.specs.List.{list_all, list_any, range_with_len}
use Rattle.upcase_order.specs.disk_model.declared.block.Block.{Block}
use Rattle.upcase_order.specs.disk_model.declared.block.BlockKind.{BlockKind}
use Rattle.upcase_order.specs.disk_model.declared.block.BlockKind.TheVariants.{FileRec, Index}
use Rattle.upcase_order.specs.disk_model.Content.{Content}
use Rattle.upcase_order.specs.record_model.declared.attribute.Attr.{Attr}
use Rattle.upcase_order.specs.record_model.declared.runs.Run.{Run}
use Rattle.upcase_order.specs.record_model.Records.{Record}
use Rattle.upcase_order.specs.record_model.Constants.{file_name, data_type, names_index, index_allocation, bitmap_type}
use Rattle.upcase_order.specs.state_model.declared.stream.Extents.{Extents}
use Rattle.upcase_order.specs.state_model.declared.stream.Stream.{Stream}
use Rattle.upcase_order.specs.state_model.declared.stream.Stream.TheVariants.{Held, Placed}
use Rattle.upcase_order.specs.state_model.Files.{is_directory_record}
use Rattle.upcase_order.specs.state_model.Rules.{implies, at_file}
use Rattle.upcase_order.specs.state_model.Streams.{attributes_of, attribute_runs, stream_of, block_at, first_vcn}
use Rattle.upcase_order.specs.state_model.Loads.{total_clusters}
use Rattle.volume_model.specs.Volumes.{Volume, count_of, file_in, table_file, mirror_file, log_file, bitmap_file, size_or, cluster_bitmap, record_bitmap}

-- ---- attributes

-- attributes with clusters, at least one each; the first begins at this VCN, and each other one at the end of the one before it
abbrev pub follow : ℕ → List Attr → Bool
follow vcn [] = true
follow vcn (a ∷ attributes) = first_vcn a == vcn && nat_lt 0 (total_clusters (attribute_runs a)) && follow (vcn + total_clusters (attribute_runs a)) attributes

-- a stream is one attribute that begins at VCN 0, as a value in the record does, or attributes with clusters that have each VCN once
abbrev pub are_joined : List Attr → Bool
are_joined [] = true
are_joined (a ∷ []) = first_vcn a == 0
are_joined (a ∷ b ∷ attributes) = follow 0 (a ∷ b ∷ attributes)

-- ---- places and sizes

abbrev pub lies_below : ℕ → ℕ → Option ℕ → Bool
lies_below clusters len None = true
lies_below clusters len (Some lcn) = nat_le (lcn + len) clusters

-- the run lies inside the volume, or is sparse
abbrev pub lies_inside : ℕ → Run → Bool
lies_inside clusters r = lies_below clusters r.len r.lcn

-- the initialised size is at most the real size, this at most the allocated one, and this is that of the clusters
abbrev pub has_sizes : ℕ → Extents → Bool
has_sizes per e = nat_le e.initialised e.real && nat_le e.real e.allocated && e.allocated == total_clusters e.runs * (512 * per)

abbrev pub fits_volume : ℕ → ℕ → Option Stream → Bool
fits_volume per clusters None = true
fits_volume per clusters (Some (Held value)) = true
fits_volume per clusters (Some (Placed e)) = list_all (lies_inside clusters) e.runs && has_sizes per e

-- the stream that an attribute belongs to; a file may have more names than one
unfoldable pub keeps_stream : ℕ → ℕ → List Attr → Attr → Bool
keeps_stream per clusters attrs a =
    (a.head.kind == file_name)
    || (are_joined (attributes_of a.head.kind a.name attrs) && fits_volume per clusters (stream_of a.head.kind a.name attrs))

-- ---- sparse runs

abbrev pub is_hole : Run → Bool
is_hole r = not (is_some r.lcn)

abbrev pub has_hole : Option Stream → Bool
has_hole None = false
has_hole (Some (Held value)) = false
has_hole (Some (Placed e)) = list_any is_hole e.runs

-- the files of the volume itself whose data has no sparse run
abbrev pub is_whole_file : ℕ → Bool
is_whole_file n = (n == table_file) || (n == mirror_file) || (n == log_file) || (n == bitmap_file)

-- the data of these files, the bitmap of the file table, and a directory's index allocation and its bitmap have no sparse run
unfoldable pub keeps_whole : ℕ → Record → Bool
keeps_whole n r =
    implies (is_whole_file n) (not (has_hole (stream_of data_type [] r.attrs)))
    && implies (n == table_file) (not (has_hole (stream_of bitmap_type [] r.attrs)))
    && implies (is_directory_record r) (not (has_hole (stream_of index_allocation names_index r.attrs)) && not (has_hole (stream_of bitmap_type names_index r.attrs)))

-- ---- torn blocks

abbrev pub is_torn_at : Content → Option Block → Bool
is_torn_at c None = false
is_torn_at c (Some b) = (c b).torn

-- how many blocks of this size begin below an initialised size
abbrev pub begun : ℕ → ℕ → ℕ
begun size initialised = (initialised + (size - 1)) / size

-- some block of this kind and size, which lies in one run and begins below the initialised size, is torn
unfoldable pub has_torn : Content → ℕ → BlockKind → ℕ → Extents → Bool
has_torn c per kind size e = list_any (λ n. is_torn_at c (block_at per e.runs kind n)) (range_with_len 0 (begun size e.initialised))

abbrev pub stream_has_torn : Content → ℕ → BlockKind → ℕ → Option Stream → Bool
stream_has_torn c per kind size None = false
stream_has_torn c per kind size (Some (Held value)) = false
stream_has_torn c per kind size (Some (Placed e)) = has_torn c per kind size e

-- no file record of the table or its mirror is torn, and no block of a directory's index
unfoldable pub keeps_untorn : Content → ℕ → ℕ → Record → Bool
keeps_untorn c per n r =
    implies ((n == table_file) || (n == mirror_file)) (not (stream_has_torn c per FileRec 1024 (stream_of data_type [] r.attrs)))
    && implies (is_directory_record r) (not (stream_has_torn c per Index 4096 (stream_of index_allocation names_index r.attrs)))

-- ---- the file table and the bitmaps

abbrev pub is_initialised : Option Stream → Bool
is_initialised None = true
is_initialised (Some (Held value)) = true
is_initialised (Some (Placed e)) = e.initialised == e.real

-- the data of the file table is initialised
abbrev pub keeps_table : ℕ → Record → Bool
keeps_table n r = implies (n == table_file) (is_initialised (stream_of data_type [] r.attrs))

-- the bitmap of the file table has a bit for each record, and $Bitmap one for each cluster
unfoldable pub keeps_bitmaps : Volume → ℕ → Bool
keeps_bitmaps v n =
    implies (n == table_file) (nat_le (count_of v) (8 * size_or (record_bitmap v)))
    && implies (n == bitmap_file) (nat_le v.clusters (8 * size_or (cluster_bitmap v)))

-- ---- where the file table begins

abbrev pub is_at : ℕ → Option Block → Bool
is_at first None = false
is_at first (Some b) = b.first == first

-- the block of a record by the runs of the file table
abbrev pub placed_record : Volume → ℕ → Option Block
placed_record v n = block_at v.per v.table.runs FileRec n

-- the records 0 to 3 are, by the runs of the file table, where the boot sector says
unfoldable pub keeps_place : Volume → Bool
keeps_place v = list_all (λ n. is_at (v.mft * v.per + 2 * n) (placed_record v n)) (range_with_len 0 4)

-- what a file's streams keep
unfoldable pub keeps_streams : Content → Volume → ℕ → Record → Bool
keeps_streams c v n r = list_all (keeps_stream v.per v.clusters r.attrs) r.attrs && keeps_whole n r && keeps_table n r && keeps_untorn c v.per n r

-- rule 4: the streams of a file have every VCN, lie in the volume and have lawful sizes; those of the volume itself and of
-- indexes are whole; and the bitmaps are long enough
unfoldable pub keeps_sizes : Content → Volume → ℕ → Bool
keeps_sizes c v n = at_file (keeps_streams c v n) (file_in v n) && keeps_bitmaps v n
