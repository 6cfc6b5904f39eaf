-- A volume as its file table is loaded, and the bits of its bitmaps.
use Rattle.std.specs.Prelude.{ℕ, ◌*◌, Bool, List, [], length, nat_le, if◌then◌else◌, Option, Some, None, Result, Ok, Err}
use Rattle.bit_set.specs.host_base.Answers.{◌>>=◌}
use Rattle.upcase_order.specs.disk_model.declared.block.Block.{Block}
use Rattle.upcase_order.specs.disk_model.declared.block.BlockKind.TheVariants.{FileRec}
use Rattle.upcase_order.specs.disk_model.Content.{Content}
use Rattle.upcase_order.specs.record_model.Records.{Record}
use Rattle.upcase_order.specs.record_model.Constants.{data_type, bitmap_type}
use Rattle.upcase_order.specs.state_model.declared.geometry.Geometry.{Geometry}
use Rattle.upcase_order.specs.state_model.declared.geometry.MapRefusal.{MapRefusal}
use Rattle.upcase_order.specs.state_model.declared.stream.Extents.{Extents}
use Rattle.upcase_order.specs.state_model.declared.stream.Stream.{Stream}
use Rattle.upcase_order.specs.state_model.Files.{Table, file_at}
use Rattle.upcase_order.specs.state_model.Streams.{stream_of, stream_bytes, real_size, block_at}
use Rattle.upcase_order.specs.state_model.Loads.{table_of, table_in, files_in, is_used}
use Rattle.bit_set.specs.Words.{bits_of_bytes}
use Rattle.upcase_order.specs.declared.upcase.UpcaseFault.{UpcaseFault}
use Rattle.upcase_order.specs.Tables.{upcase_of, standard_table}

-- A volume: the sectors of a cluster, how many clusters there are, the cluster at which the boot sector says that the file
-- table begins, the clusters and sizes of the file table by its own record, and its files by number: the base records in use,
-- each with all its attributes.
pub record Volume : Type 0 where
  pub per : ℕ
  pub clusters : ℕ
  pub mft : ℕ
  pub table : Extents
  pub files : List (Option Record)

-- the volume of a content, or the first refusal that applies
unfoldable pub volume_of : Content → Geometry → ℕ → Result Volume MapRefusal
volume_of c g clusters = table_of c g >>= λ e. files_in c g.per_cluster e >>= λ files. Ok (record { per = g.per_cluster; clusters = clusters; mft = g.mft; table = e; files = files })

-- ---- files

abbrev pub files_by_number : Volume → Table
files_by_number v = table_in v.files

-- how many records the file table has
abbrev pub count_of : Volume → ℕ
count_of v = length v.files

-- the file with this number
abbrev pub file_in : Volume → ℕ → Option Record
file_in v n = file_at (files_by_number v) n

abbrev pub block_bytes : Content → Option Block → List ℕ
block_bytes c None = []
block_bytes c (Some b) = (c b).bytes

-- the block of a record of the table; there is none wholly past its initialised size
unfoldable pub record_block : Volume → ℕ → Option Block
record_block v n = if nat_le v.table.initialised (1024 * n) then None else block_at v.per v.table.runs FileRec n

-- its bytes
unfoldable pub record_bytes : Content → Volume → ℕ → List ℕ
record_bytes c v n = block_bytes c (record_block v n)

-- the record with this number is in use; it may be one that holds attributes of another
unfoldable pub is_in_use : Content → Volume → ℕ → Bool
is_in_use c v n = is_used (record_bytes c v n)

-- the files of the volume itself
abbrev pub table_file : ℕ
table_file = 0

abbrev pub mirror_file : ℕ
mirror_file = 1

abbrev pub log_file : ℕ
log_file = 2

abbrev pub bitmap_file : ℕ
bitmap_file = 6

abbrev pub upcase_file : ℕ
upcase_file = 10

-- ---- streams

-- the stream of a file with this type and name
abbrev pub file_stream : ℕ → List ℕ → Option Record → Option Stream
file_stream kind name None = None
file_stream kind name (Some r) = stream_of kind name r.attrs

-- the bytes of a stream; none where there is no stream
abbrev pub bytes_or : Content → ℕ → Option Stream → List ℕ
bytes_or c per None = []
bytes_or c per (Some s) = stream_bytes c per s

abbrev pub size_or : Option Stream → ℕ
size_or None = 0
size_or (Some s) = real_size s

-- ---- bitmaps: bits count from the low bit of the first byte; one past the end is clear

abbrev pub cluster_bitmap : Volume → Option Stream
cluster_bitmap v = file_stream data_type [] (file_in v bitmap_file)

abbrev pub record_bitmap : Volume → Option Stream
record_bitmap v = file_stream bitmap_type [] (file_in v table_file)

-- the bits of the clusters, set where a cluster is in use
unfoldable pub cluster_bits : Content → Volume → List Bool
cluster_bits c v = bits_of_bytes (bytes_or c v.per (cluster_bitmap v)) v.clusters

-- the bits of the file records, set where a record is in use
unfoldable pub record_bits : Content → Volume → List Bool
record_bits c v = bits_of_bytes (bytes_or c v.per (record_bitmap v)) (count_of v)

-- ---- the table of upper-case units

abbrev pub table_or_standard : Result (List ℕ) UpcaseFault → List ℕ
table_or_standard (Ok table) = table
table_or_standard (Err fault) = standard_table

-- that of $UpCase; that of the format where its data hasn't 131,072 bytes
unfoldable pub upper_of : Content → Volume → List ℕ
upper_of c v = table_or_standard (upcase_of (bytes_or c v.per (file_stream data_type [] (file_in v upcase_file))))
