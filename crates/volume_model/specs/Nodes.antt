-- The nodes that the files of a volume stand for, the numbers that are spare, and the clusters that are free.
use Rattle.std.specs.Prelude.{ℕ, ◌-◌, Bool, true, false, not, ◌&&◌, ◌||◌, ◌==◌, if◌then◌else◌, List, [], ◌∷◌, length, count_by, Option, Some, None}
use Rattle.std.specs.List.{range_with_len, filter_map}
use Rattle.std.specs.Option.{option_or}
use Rattle.bit_set.specs.host_base.declared.file_ref.FileRef.{FileRef}
use Rattle.upcase_order.specs.disk_model.declared.block.BlockKind.TheVariants.{FileRec}
use Rattle.upcase_order.specs.disk_model.Numbers.{field}
use Rattle.upcase_order.specs.disk_model.Content.{Content, is_signed}
use Rattle.upcase_order.specs.record_model.declared.attribute.Attr.{Attr}
use Rattle.upcase_order.specs.record_model.Records.{Record}
use Rattle.upcase_order.specs.record_model.Constants.{attribute_list, data_type, object_id, reparse_point}
use Rattle.upcase_order.specs.file_tree.declared.node.Kind.{Kind}
use Rattle.upcase_order.specs.file_tree.declared.node.Kind.TheVariants.{Directory, File, Fixed, Opaque, System}
use Rattle.upcase_order.specs.file_tree.declared.node.Why.{Why}
use Rattle.upcase_order.specs.file_tree.declared.node.Why.TheVariants.{Sparse}
use Rattle.upcase_order.specs.file_tree.declared.node.Node.{Node}
use Rattle.bit_set.specs.Bits.{bit}
use Rattle.upcase_order.specs.state_model.declared.stream.Stream.{Stream}
use Rattle.upcase_order.specs.state_model.declared.stream.Stream.TheVariants.{Held, Placed}
use Rattle.upcase_order.specs.state_model.Files.{record_links, is_directory_record, has_type, info_of, is_encrypted, is_compressed, is_sparse, why_by}
use Rattle.upcase_order.specs.file_tree.Walks.{first_user_record}
use Rattle.upcase_order.specs.state_model.Trees.{is_system, is_nameless}
use Rattle.upcase_order.specs.state_model.Streams.{attributes_of}
use Rattle.upcase_order.specs.state_model.Loads.{total_clusters, data_stream}
use Rattle.volume_model.specs.Volumes.{Volume, record_bytes, files_by_number, count_of, file_in, cluster_bits, record_bits, bytes_or, size_or}
use Rattle.volume_model.specs.Sizes.{has_hole}

-- ---- the unnamed data

abbrev pub valid_or : Option Stream → ℕ
valid_or None = 0
valid_or (Some (Held value)) = length value
valid_or (Some (Placed e)) = e.initialised

-- the clusters of a stream, those of sparse runs among them
abbrev pub clusters_or : Option Stream → ℕ
clusters_or None = 0
clusters_or (Some (Held value)) = 0
clusters_or (Some (Placed e)) = total_clusters e.runs

abbrev pub first_flags : List Attr → ℕ
first_flags [] = 0
first_flags (a ∷ attributes) = a.head.flags

-- the flags of the unnamed data, which are those of its first attribute
unfoldable pub data_flags : Record → ℕ
data_flags r = first_flags (attributes_of data_type [] r.attrs)

-- ---- why a file can't be changed, and its kind

-- the unnamed data has a sparse run
abbrev pub has_sparse_run : Record → Bool
has_sparse_run r = has_hole (data_stream r)

abbrev pub sparse_if : Bool → Option Why
sparse_if hole = if hole then Some Sparse else None

-- the first that applies: it has an attribute list, is a reparse point, is encrypted, compressed or sparse
unfoldable pub why_not : Record → Option Why
why_not r = option_or (why_by (has_type attribute_list r) (has_type reparse_point r) (data_flags r)) (sparse_if (has_sparse_run r))

-- its bytes aren't read
unfoldable pub is_unread : Record → Bool
is_unread r = has_type reparse_point r || is_encrypted (data_flags r) || is_compressed (data_flags r)

-- its bytes aren't changed
unfoldable pub is_unchanged : Record → Bool
is_unchanged r = has_type attribute_list r || is_sparse (data_flags r) || has_sparse_run r

unfoldable pub kind_in : Volume → ℕ → Record → Kind
kind_in v n r =
    if is_directory_record r then Directory
    else if is_system (files_by_number v) (count_of v) n (record_links n r) then System
    else if is_unread r then Opaque
    else if is_unchanged r then Fixed
    else File

-- directories and files of the volume itself show no data
abbrev pub shows_data : Kind → Bool
shows_data Directory = false
shows_data File = true
shows_data Fixed = true
shows_data Opaque = true
shows_data System = false

abbrev pub data_shown : Kind → Record → Option Stream
data_shown kind r = if shows_data kind then data_stream r else None

-- ---- nodes

-- a node of this kind, with this data, whose bytes are these
unfoldable pub node_with : ℕ → Record → Kind → Option Stream → List ℕ → Node
node_with n r kind shown bytes = record {
  number = n;
  seq = r.head.seq;
  kind = kind;
  why = why_not r;
  held = has_type object_id r;
  size = size_or shown;
  valid = valid_or shown;
  clusters = clusters_or shown;
  bytes = bytes;
  flags = (info_of r).flags;
  created = (info_of r).created;
  modified = (info_of r).modified;
  changed = (info_of r).changed;
  read_at = (info_of r).read_at;
}

-- the node of a file, by what gives the bytes of its data
unfoldable pub node_by : (Option Stream → List ℕ) → Volume → ℕ → Record → Node
node_by bytes v n r = node_with n r (kind_in v n r) (data_shown (kind_in v n r) r) (bytes (data_shown (kind_in v n r) r))

-- a record of the volume itself that has no name is no node
abbrev pub some_node : (Option Stream → List ℕ) → Volume → ℕ → Option Record → Option Node
some_node bytes v n None = None
some_node bytes v n (Some r) = if is_nameless n r then None else Some (node_by bytes v n r)

unfoldable pub node_at : (Option Stream → List ℕ) → Volume → ℕ → Option Node
node_at bytes v n = some_node bytes v n (file_in v n)

-- the nodes of a volume, by number
unfoldable pub nodes_by : (Option Stream → List ℕ) → Volume → List Node
nodes_by bytes v = filter_map (node_at bytes v) (range_with_len 0 (count_of v))

-- with their bytes, and without them
abbrev pub all_nodes : Content → Volume → List Node
all_nodes c v = nodes_by (bytes_or c v.per) v

abbrev pub no_bytes : Option Stream → List ℕ
no_bytes stream = []

abbrev pub bare_nodes : Volume → List Node
bare_nodes v = nodes_by no_bytes v

-- ---- spare numbers and free clusters

-- the sequence that a new file would get in a record that isn't in use
unfoldable pub spare_sequence : List ℕ → ℕ
spare_sequence bytes = if is_signed FileRec bytes && not (field 0x10 2 bytes == 0) then field 0x10 2 bytes else 1

unfoldable pub spare_at : Content → Volume → ℕ → Option FileRef
spare_at c v n = if bit (record_bits c v) n then None else Some (record { number = n; seq = spare_sequence (record_bytes c v n) })

-- the numbers of users whose bit is clear, with the sequence that a new file would get
unfoldable pub spare_numbers : Content → Volume → List FileRef
spare_numbers c v = filter_map (spare_at c v) (range_with_len first_user_record (count_of v - first_user_record))

-- how many clusters are free
unfoldable pub free_clusters : Content → Volume → ℕ
free_clusters c v = count_by not (cluster_bits c v)
