-- The file records of a new volume. All times are one; the names are of namespace 3 and stand in the root.
use Rattle.std.specs.Prelude.{ℕ, zero, suc, ◌+◌, ◌-◌, ◌*◌, ◌<◌, ◌≤◌, ◌^◌, ⊤, ◌==◌, ◌||◌, nat_lt, Bool, if◌then◌else◌, List, [], ◌∷◌, ◌++◌, length, Option, Some, None, codes}
use Rattle.host_base.specs.declared.file_ref.FileRef.{FileRef}
use Rattle.disk_model.specs.Numbers.{spell}
use Rattle.disk_model.specs.Bytes.{zeros}
use Rattle.record_model.specs.declared.attribute.Sizes.{Sizes}
use Rattle.record_model.specs.declared.attribute.OwnForm.TheVariants.{Resident, Mapped}
use Rattle.record_model.specs.declared.attribute.Attr.{Attr}
use Rattle.record_model.specs.declared.record.RecHead.{RecHead}
use Rattle.record_model.specs.declared.runs.Run.{Run}
use Rattle.record_model.specs.declared.values.FileNameValue.{FileNameValue}
use Rattle.record_model.specs.Attributes.{filled}
use Rattle.record_model.specs.Nodes.{no_file, last_entry}
use Rattle.record_model.specs.Pairs.{pairs_of}
use Rattle.record_model.specs.Records.{Record, record_spelling}
use Rattle.record_model.specs.StdValues.{std_info_over, file_name_over, volume_info_over}
use Rattle.record_model.specs.Constants.{standard_information, file_name, volume_name, volume_information, data_type, index_root, index_allocation, bitmap_type, names_index}
use Rattle.fixup_record.specs.Protecting.{protected_bytes}
use Rattle.index_node.specs.Roots.{root_spelling}
use Rattle.volume_format.specs.declared.layout.Layout.{Layout}
use Rattle.volume_format.specs.declared.naming.Data.{Data}
use Rattle.volume_format.specs.declared.naming.Data.TheVariants.{Absent, Empty, Clusters}
use Rattle.volume_format.specs.Layouts.{mirror_first, record_bits_first, table_first, upper_case_first, log_first, cluster_bits_first, block_first, cluster_bits_bytes}

abbrev pub bad_name : List ℕ
bad_name = codes "$Bad"

-- the check word of every new record and block
abbrev pub first_check : ℕ
first_check = 1

-- ---- the twelve system files

unfoldable pub system_name : ℕ → List ℕ
system_name n =
    if n == 0 then codes "$MFT"
    else if n == 1 then codes "$MFTMirr"
    else if n == 2 then codes "$LogFile"
    else if n == 3 then codes "$Volume"
    else if n == 4 then codes "$AttrDef"
    else if n == 5 then codes "."
    else if n == 6 then codes "$Bitmap"
    else if n == 7 then codes "$Boot"
    else if n == 8 then codes "$BadClus"
    else if n == 9 then codes "$Secure"
    else if n == 10 then codes "$UpCase"
    else codes "$Extend"

-- where the data without a name lie: their first cluster, their clusters, and their bytes
unfoldable pub system_data : Layout → ℕ → Data
system_data v n =
    if n == 0 then Clusters table_first 16 65536
    else if n == 1 then Clusters mirror_first 1 4096
    else if n == 2 then Clusters log_first v.log_pages (4096 * v.log_pages)
    else if n == 4 then Empty
    else if n == 6 then Clusters (cluster_bits_first v) v.bitmap_clusters (cluster_bits_bytes v)
    else if n == 7 then Clusters 0 2 8192
    else if n == 9 then Empty
    else if n == 10 then Clusters upper_case_first 32 131072
    else Absent

-- the root and `$Extend`
unfoldable pub is_directory : ℕ → Bool
is_directory n = n == 5 || n == 11

-- record 0 has sequence 1, each other of the first 24 its own number, and those behind them 1
unfoldable pub sequence : ℕ → ℕ
sequence n = if n == 0 then 1 else if nat_lt n 24 then n else 1

abbrev pub reference : ℕ → FileRef
reference n = record { number = n; seq = sequence n }

-- ---- attributes

abbrev pub resident : ℕ → ℕ → List ℕ → List ℕ → Attr
resident id kind name value = record { head = record { kind = kind; flags = 0; id = id }; name = name; form = Resident value 0 }

-- a stream of one run; its allocated size is that of its clusters
abbrev pub stream_sizes : ℕ → ℕ → ℕ → Sizes
stream_sizes clusters real initialised = record { first = 0; last = clusters - 1; unit = 0; allocated = 4096 * clusters; real = real; initialised = initialised; held = None }

abbrev pub one_run : Option ℕ → ℕ → List Run
one_run lcn clusters = record { vcn = 0; lcn = lcn; len = clusters } ∷ []

abbrev pub mapped : ℕ → ℕ → List ℕ → Option ℕ → ℕ → ℕ → ℕ → Attr
mapped id kind name lcn clusters real initialised = record {
  head = record { kind = kind; flags = 0; id = id };
  name = name;
  form = Mapped (stream_sizes clusters real initialised) (filled 0 (pairs_of (one_run lcn clusters)));
}

-- a stream in these clusters, all of whose bytes are initialised
abbrev pub in_clusters : ℕ → ℕ → List ℕ → ℕ → ℕ → ℕ → Attr
in_clusters id kind name first clusters bytes = mapped id kind name (Some first) clusters bytes bytes

-- standard information of 0x48 bytes; 6 is hidden and system
abbrev pub standard_value : ℕ → List ℕ
standard_value time = std_info_over (record { created = time; modified = time; changed = time; read_at = time; flags = 6 }) (zeros 0x48)

unfoldable pub standard : ℕ → Attr
standard time = resident 0 standard_information [] (standard_value time)

abbrev pub allocated_of : Data → ℕ
allocated_of Absent = 0
allocated_of Empty = 0
allocated_of (Clusters first clusters bytes) = 4096 * clusters

abbrev pub bytes_of : Data → ℕ
bytes_of Absent = 0
bytes_of Empty = 0
bytes_of (Clusters first clusters bytes) = bytes

-- the fields of a system file's name; 0x10000000 is a directory
abbrev pub name_fields : Layout → ℕ → ℕ → FileNameValue
name_fields v time n = record {
  parent = reference 5;
  created = time;
  modified = time;
  changed = time;
  read_at = time;
  allocated = allocated_of (system_data v n);
  real = bytes_of (system_data v n);
  flags = if is_directory n then 0x10000006 else 6;
  space = 3;
  name = system_name n;
}

unfoldable pub name_value : Layout → ℕ → ℕ → List ℕ
name_value v time n = file_name_over (name_fields v time n) (zeros (0x42 + 2 * length (system_name n)))

unfoldable pub name_attribute : Layout → ℕ → ℕ → Attr
name_attribute v time n = record { head = record { kind = file_name; flags = 0; id = 1 }; name = []; form = Resident (name_value v time n) 1 }

-- data whose place has a spelling: some clusters below 2 ^ 32, and no more bytes than they have
abbrev pub FitsData : Data → Type 0
FitsData Absent = ⊤
FitsData Empty = ⊤
FitsData (Clusters first clusters bytes) = (0 < clusters) × (clusters < 2 ^ 32) × (first < 2 ^ 32) × (bytes ≤ 4096 * clusters)

abbrev pub data_attrs : Data → List Attr
data_attrs Absent = []
data_attrs Empty = resident 2 data_type [] [] ∷ []
data_attrs (Clusters first clusters bytes) = in_clusters 2 data_type [] first clusters bytes ∷ []

-- `$MFT`: the bitmap of its records
abbrev pub table_streams : List Attr
table_streams = in_clusters 3 bitmap_type [] record_bits_first 1 8 ∷ []

-- `$Volume`: no label, and version 3.1
unfoldable pub volume_streams : List Attr
volume_streams = resident 2 volume_name [] [] ∷ resident 3 volume_information [] (volume_info_over (record { major = 3; minor = 1; flags = 0 }) (zeros 0x0C)) ∷ []

-- the root: its index is one block, whose bit in the index's bitmap is set
unfoldable pub root_streams : Layout → List Attr
root_streams v =
    resident 2 index_root names_index (root_spelling 1 (last_entry (Some 0) ∷ []))
    ∷ in_clusters 3 index_allocation names_index (block_first v) 1 4096
    ∷ resident 4 bitmap_type names_index (spell 8 1)
    ∷ []

-- `$BadClus`: one sparse run over all clusters
abbrev pub bad_streams : Layout → List Attr
bad_streams v = mapped 2 data_type bad_name None v.clusters (4096 * v.clusters) 0 ∷ []

-- `$Extend`: an empty index
unfoldable pub extend_streams : List Attr
extend_streams = resident 2 index_root names_index (root_spelling 1 (last_entry None ∷ [])) ∷ []

-- what a system file has behind its data
unfoldable pub other_streams : Layout → ℕ → List Attr
other_streams v n =
    if n == 0 then table_streams
    else if n == 3 then volume_streams
    else if n == 5 then root_streams v
    else if n == 8 then bad_streams v
    else if n == 11 then extend_streams
    else []

-- ---- records

-- a base record in no log; its attributes have the ids 0, 1 and so on
abbrev pub head_of : ℕ → ℕ → ℕ → ℕ → RecHead
head_of n links flags next_id = record { lsn = 0; seq = sequence n; links = links; flags = flags; base = no_file; next_id = next_id; number = n }

unfoldable pub system_attrs : Layout → ℕ → ℕ → List Attr
system_attrs v time n = standard time ∷ name_attribute v time n ∷ (data_attrs (system_data v n) ++ other_streams v n)

-- 1 is in use, 2 a directory
unfoldable pub system_record : Layout → ℕ → ℕ → Record
system_record v time n = record { head = head_of n 1 (if is_directory n then 3 else 1) (length (system_attrs v time n)); attrs = system_attrs v time n }

-- in use, with no name
unfoldable pub reserved_record : ℕ → ℕ → Record
reserved_record time n = record { head = head_of n 0 1 2; attrs = standard time ∷ resident 1 data_type [] [] ∷ [] }

-- not in use
abbrev pub spare_record : ℕ → Record
spare_record n = record { head = head_of n 0 0 0; attrs = [] }

-- the record with this number
unfoldable pub record_of : Layout → ℕ → ℕ → Record
record_of v time n = if nat_lt n 12 then system_record v time n else if nat_lt n 16 then reserved_record time n else spare_record n

-- the record on the disk
unfoldable pub record_bytes : Layout → ℕ → ℕ → List ℕ
record_bytes v time n = protected_bytes (record_spelling (record_of v time n)) first_check

-- the first records of the file table, one after the other
unfoldable pub table_bytes : Layout → ℕ → ℕ → List ℕ
table_bytes v time zero = []
table_bytes v time (suc n) = table_bytes v time n ++ record_bytes v time n
