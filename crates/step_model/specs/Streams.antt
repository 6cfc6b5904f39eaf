-- The streams that an operation changes: what comes into their record, and which clusters they take.
use Rattle.std.specs.Prelude.{ℕ, ◌+◌, ◌-◌, ◌*◌, ◌/◌, max, Bool, true, false, ◌&&◌, ◌==◌, nat_lt, if◌then◌else◌, List, [], ◌∷◌, ◌++◌, Option}
use Rattle.plan_model.specs.record_model.declared.attribute.Attr.{Attr}
use Rattle.plan_model.specs.record_model.declared.runs.Run.{Run}
use Rattle.plan_model.specs.record_model.Constants.{standard_information, data_type, bitmap_type, index_root, index_allocation, names_index}
use Rattle.plan_model.specs.record_model.Nodes.{entries_length}
use Rattle.plan_model.specs.record_model.Records.{Record}
use Rattle.plan_model.specs.file_tree.declared.node.Node.{Node}
use Rattle.plan_model.specs.file_tree.declared.journal.Journal.{Journal}
use Rattle.plan_model.specs.index_model.Trees.{Tree, raws_of}
use Rattle.space_model.specs.Choosing.{chosen, with_runs}
use Rattle.plan_model.specs.state_model.declared.stream.Stream.{Stream}
use Rattle.plan_model.specs.state_model.Files.{has_type}
use Rattle.plan_model.specs.state_model.Loads.{total_clusters}
use Rattle.plan_model.specs.state_model.Streams.{stream_of}
use Rattle.plan_model.specs.volume_model.Volumes.{Volume, count_of, table_file, size_or, record_bitmap}
use Rattle.plan_model.specs.volume_model.Nodes.{clusters_or}
use Rattle.plan_model.specs.volume_state.Journals.{entries_name}
use Rattle.plan_model.specs.stream_laws.Sharing.{StreamKey, runs_in}
use Rattle.plan_model.specs.stream_laws.Tables.{table_key}
use Rattle.run_model.specs.tree_model.declared.script.Op.{Op}
use Rattle.run_model.specs.tree_model.Needs.{size_after, shrinks, clusters_for, chunk_clusters}
use Rattle.run_model.specs.tree_model.Effects.{valid_after, clusters_after}
use Rattle.run_model.specs.tree_model.Refusals.{more_records}
use Rattle.stream_runs.specs.Runs.{last_cluster}
use Rattle.step_model.specs.Placing.{Growth, runs_after}
use Rattle.step_model.specs.Used.{used_after, new_attr, own_attr, value_attr, placed_attr, is_in_record, stays_in}

-- A stream as it is to be: its size, how many of its bytes are initialised, and how many clusters it is to have where it doesn't stand in
-- its record.
pub record Wanted : Type 0 where
  pub stream : StreamKey
  pub real : ℕ
  pub initialised : ℕ
  pub clusters : ℕ

-- What comes of it: an attribute, where its length may change, and its clusters.
pub record Comes : Type 0 where
  pub attrs : List Attr
  pub growth : Growth

-- ---- one stream

-- the stream of a record, and its attribute, or a new one
abbrev pub stream_in : Record → StreamKey → Option Stream
stream_in r s = stream_of s.kind s.name r.attrs

abbrev pub attr_in : Record → StreamKey → Attr
attr_in r s = own_attr s.kind s.name r

-- a stream that stands in its record takes no clusters
abbrev pub in_record : StreamKey → Growth
in_record s = record { stream = s; old = []; clusters = 0; runs = []; stands = true }

abbrev pub as_value : Record → Wanted → Comes
as_value r w = record { attrs = value_attr w.real (attr_in r w.stream) ∷ []; growth = in_record w.stream }

-- with those runs it takes clusters among these bits
abbrev pub placed_among : List Bool → List Run → Wanted → Growth
placed_among bits old w = record { stream = w.stream; old = old; clusters = w.clusters; runs = chosen bits (last_cluster old) (w.clusters - total_clusters old); stands = false }

-- where no cluster comes or goes, the attribute keeps its length
abbrev pub attrs_placed : Record → Wanted → Growth → List Attr
attrs_placed r w g = if w.clusters == total_clusters g.old then [] else placed_attr w.real w.initialised (runs_after g) (attr_in r w.stream) ∷ []

abbrev pub placed_by : Record → Wanted → Growth → Comes
placed_by r w g = record { attrs = attrs_placed r w g; growth = g }

-- a stream in clusters
unfoldable pub in_clusters : List Bool → Record → Wanted → Comes
in_clusters bits r w = placed_by r w (placed_among bits (runs_in (stream_in r w.stream)) w)

-- A stream that stands in its record as long as that has at most 1,024 used bytes with the value and with these other attributes that come.
unfoldable pub comes : List Bool → Record → List Attr → Wanted → Comes
comes bits r others w =
    if stays_in (stream_in r w.stream) w.real (used_after (value_attr w.real (attr_in r w.stream) ∷ others) r)
    then as_value r w
    else in_clusters bits r w

-- ---- the written stream

abbrev pub data_of : ℕ → StreamKey
data_of n = record { file = n; kind = data_type; name = [] }

-- the unnamed data of a file that is written or cut
abbrev pub wanted_data : Op → Node → Wanted
wanted_data op node = record { stream = data_of node.number; real = size_after op node; initialised = valid_after op node; clusters = clusters_after false op node }

-- a value that is cut
abbrev pub is_value_cut : Record → Op → Node → Bool
is_value_cut r op node = is_in_record (stream_in r (data_of node.number)) && shrinks op node

-- A value that is cut stays in its record also where that is too full with it, since a cut needs no clusters. Other data leaves where it has to.
unfoldable pub data_comes : List Bool → Record → Op → Node → Comes
data_comes bits r op node = if is_value_cut r op node then as_value r (wanted_data op node) else comes bits r [] (wanted_data op node)

-- ---- streams of one record

-- what comes into a record, and which of its streams take clusters, one after the other
pub record Changed : Type 0 where
  pub attrs : List Attr
  pub growths : List Growth

abbrev pub no_change : Changed
no_change = record { attrs = []; growths = [] }

-- one stream more of the same record, that takes its clusters next
abbrev pub and_then : Comes → Comes → Changed
and_then a b = record { attrs = b.attrs ++ a.attrs; growths = a.growth ∷ b.growth ∷ [] }

-- ---- $MFT with its bitmap

-- the bytes of a bitmap with so many bits
abbrev pub bitmap_bytes : ℕ → ℕ
bitmap_bytes bits = (bits + 7) / 8

-- the clusters by which the file table grows, those of 256 records
abbrev pub table_clusters : ℕ
table_clusters = 64

abbrev pub wanted_table : Volume → Wanted
wanted_table v = record { stream = table_key; real = 1024 * (count_of v + more_records); initialised = 1024 * (count_of v + more_records); clusters = total_clusters v.table.runs + table_clusters }

abbrev pub bits_key : StreamKey
bits_key = record { file = table_file; kind = bitmap_type; name = [] }

-- a stream that is to have at least this size, and the clusters for it
abbrev pub wanted_size : StreamKey → Option Stream → ℕ → Wanted
wanted_size s old size = record { stream = s; real = max (size_or old) size; initialised = max (size_or old) size; clusters = max (clusters_or old) (clusters_for size) }

abbrev pub wanted_bits : Volume → Wanted
wanted_bits v = wanted_size bits_key (record_bitmap v) (bitmap_bytes (count_of v + more_records))

-- the bitmap takes its clusters behind the table
abbrev pub bits_behind : List Bool → Volume → Record → Comes → Changed
bits_behind bits v r table = and_then table (comes (with_runs table.growth.runs bits) r table.attrs (wanted_bits v))

unfoldable pub table_comes : List Bool → Volume → Record → Changed
table_comes bits v r = bits_behind bits v r (in_clusters bits r (wanted_table v))

-- ---- a directory's index

-- a directory without standard information gets one of 72 bytes when its times are set
abbrev pub info_comes : Record → List Attr
info_comes r = if has_type standard_information r then [] else value_attr 72 (new_attr standard_information []) ∷ []

-- the root of its index with these entries
abbrev pub root_comes : Record → Tree → Attr
root_comes r t = value_attr (0x20 + entries_length (raws_of t)) (own_attr index_root names_index r)

abbrev pub own_comes : Record → Tree → List Attr
own_comes r t = root_comes r t ∷ info_comes r

abbrev pub blocks_key : ℕ → StreamKey
blocks_key n = record { file = n; kind = index_allocation; name = names_index }

abbrev pub used_key : ℕ → StreamKey
used_key n = record { file = n; kind = bitmap_type; name = names_index }

-- the size of its blocks, with so many more
abbrev pub blocks_size : ℕ → Record → ℕ → ℕ
blocks_size n r more = size_or (stream_in r (blocks_key n)) + 4096 * more

abbrev pub wanted_blocks : ℕ → Record → ℕ → Wanted
wanted_blocks n r more = wanted_size (blocks_key n) (stream_in r (blocks_key n)) (blocks_size n r more)

-- eight bytes of its bitmap for each 64 blocks
abbrev pub wanted_used : ℕ → Record → ℕ → Wanted
wanted_used n r more = wanted_size (used_key n) (stream_in r (used_key n)) (8 * ((blocks_size n r more / 4096 + 63) / 64))

-- the bitmap takes its clusters behind the blocks
abbrev pub used_behind : List Bool → ℕ → Record → Tree → ℕ → Comes → Changed
used_behind bits n r t more blocks = and_then blocks (comes (with_runs blocks.growth.runs bits) r (blocks.attrs ++ own_comes r t) (wanted_used n r more))

abbrev pub with_own : Record → Tree → Changed → Changed
with_own r t c = record { attrs = c.attrs ++ own_comes r t; growths = c.growths }

-- The record of a directory whose index is this tree and has so many blocks more. One without blocks is its root alone.
unfoldable pub index_comes : List Bool → ℕ → Record → Tree → ℕ → Changed
index_comes bits n r t more =
    if blocks_size n r more == 0
    then with_own r t no_change
    else with_own r t (used_behind bits n r t more (in_clusters bits r (wanted_blocks n r more)))

-- ---- $J

-- the records of the change journal come to end there, and it grows by its chunk
abbrev pub wanted_entries : ℕ → Record → Journal → ℕ → Wanted
wanted_entries n r j end = record { stream = record { file = n; kind = data_type; name = entries_name }; real = end; initialised = end; clusters = total_clusters (runs_in (stream_in r (record { file = n; kind = data_type; name = entries_name }))) + chunk_clusters j }

abbrev pub one_change : Comes → Changed
one_change a = record { attrs = a.attrs; growths = a.growth ∷ [] }

-- it grows only where it comes to end past its clusters
unfoldable pub entries_come : List Bool → ℕ → Record → Journal → ℕ → Changed
entries_come bits n r j end = if nat_lt j.reach end then one_change (in_clusters bits r (wanted_entries n r j end)) else no_change
