-- The index of a directory on a volume: where its blocks lie, the names that it holds, and what they have to be.
use Rattle.std.specs.Prelude.{ℕ, ◌+◌, ◌*◌, ◌/◌, ◌^◌, Bool, false, List, [], ◌∷◌, map, find, min, max, nat_le, if◌then◌else◌, Option, Some, None, Result, Ok, Err}
use Rattle.std.specs.List.{range_with_len}
use Rattle.bit_set.specs.host_base.declared.file_ref.FileRef.{FileRef}
use Rattle.upcase_order.specs.disk_model.declared.block.Block.{Block}
use Rattle.upcase_order.specs.disk_model.declared.block.BlockKind.TheVariants.{Index}
use Rattle.upcase_order.specs.disk_model.Content.{Content}
use Rattle.upcase_order.specs.record_model.declared.attribute.OwnForm.{OwnForm}
use Rattle.upcase_order.specs.record_model.declared.attribute.OwnForm.TheVariants.{Resident, Mapped}
use Rattle.upcase_order.specs.record_model.declared.attribute.Attr.{Attr}
use Rattle.upcase_order.specs.record_model.declared.runs.Run.{Run}
use Rattle.upcase_order.specs.record_model.Records.{Record}
use Rattle.upcase_order.specs.record_model.Constants.{names_index, index_allocation}
use Rattle.upcase_order.specs.file_tree.declared.link.Link.{Link}
use Rattle.upcase_order.specs.index_model.Indexes.{Place}
use Rattle.upcase_order.specs.index_model.Walks.{Broken, walk_of}
use Rattle.upcase_order.specs.state_model.declared.stream.Extents.{Extents}
use Rattle.upcase_order.specs.state_model.declared.stream.Stream.{Stream}
use Rattle.upcase_order.specs.state_model.declared.stream.Stream.TheVariants.{Held, Placed}
use Rattle.upcase_order.specs.state_model.Files.{Table, reference, is_directory_record}
use Rattle.upcase_order.specs.state_model.Indexes.{is_names_root}
use Rattle.upcase_order.specs.state_model.Rules.{implies, at_file, is_index}
use Rattle.upcase_order.specs.state_model.Streams.{stream_of, block_at}
use Rattle.volume_model.specs.Volumes.{Volume, files_by_number, count_of, file_in}

-- ---- where the blocks lie

-- a block past the end of every disk, which is zeros
abbrev pub void_block : Block
void_block = record { first = 2 ^ 62; kind = Index }

abbrev pub or_void : Option Block → Block
or_void None = void_block
or_void (Some b) = b

-- the block of an index allocation with this number; it is zeros from the initialised size on, and where no run is
unfoldable pub index_block : ℕ → Extents → ℕ → Block
index_block per e i = if nat_le e.initialised (4096 * i) then void_block else or_void (block_at per e.runs Index i)

-- the VCN behind the last run
abbrev pub runs_end : List Run → ℕ
runs_end [] = 0
runs_end (r ∷ runs) = max (r.vcn + r.len) (runs_end runs)

-- how many blocks an index allocation has: those of its real size that begin in its runs
unfoldable pub block_count : ℕ → Extents → ℕ
block_count per e = min (e.real / 4096) (runs_end e.runs * per / 8)

unfoldable pub blocks_of : ℕ → Extents → List Block
blocks_of per e = map (index_block per e) (range_with_len 0 (block_count per e))

abbrev pub stream_blocks : ℕ → Option Stream → List Block
stream_blocks per None = []
stream_blocks per (Some (Held value)) = []
stream_blocks per (Some (Placed e)) = blocks_of per e

-- the clusters of a directory's index blocks
unfoldable pub index_stream : Record → Option Stream
index_stream r = stream_of index_allocation names_index r.attrs

-- where the blocks of a directory's index lie; VCNs count clusters
unfoldable pub index_place : ℕ → Record → Place
index_place per r = record { blocks = stream_blocks per (index_stream r); step = 8 / per }

-- ---- the names that it holds

abbrev pub form_value : OwnForm → Option (List ℕ)
form_value (Resident value indexed) = Some value
form_value (Mapped sizes pairs) = None

abbrev pub attr_value : Option Attr → Option (List ℕ)
attr_value None = None
attr_value (Some a) = form_value a.form

-- the value of a directory's index root, where it is resident
unfoldable pub root_value : Record → Option (List ℕ)
root_value r = attr_value (find is_names_root r.attrs)

abbrev pub links_read : Result (List Link) Broken → Option (List Link)
links_read (Ok links) = Some links
links_read (Err broken) = None

abbrev pub links_below : Content → Place → List ℕ → Option (List ℕ) → Option (List Link)
links_below c place upper None = None
links_below c place upper (Some value) = links_read (walk_of c place upper value)

-- the names that a directory's index holds, in its order; none where a node is at fault
unfoldable pub index_links : Content → ℕ → List ℕ → Record → Option (List Link)
index_links c per upper r = links_below c (index_place per r) upper (root_value r)

-- ---- what they have to be

abbrev pub lists_names : List ℕ → Table → ℕ → FileRef → Option (List Link) → Bool
lists_names upper p count directory None = false
lists_names upper p count directory (Some links) = is_index upper p count directory links

-- rule 3: a directory's index holds the names that stand in the directory, in order, and no two of them have equal units
unfoldable pub keeps_index : Content → Volume → List ℕ → ℕ → Bool
keeps_index c v upper n = at_file (λ r. implies (is_directory_record r) (lists_names upper (files_by_number v) (count_of v) (reference n r) (index_links c v.per upper r))) (file_in v n)
