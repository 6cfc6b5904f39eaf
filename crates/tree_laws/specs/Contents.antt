-- What of a volume's rules, parts and nodes two contents share, where they agree on what these read.
use Rattle.std.specs.Prelude.{◌≡◌, ◌≢◌, ℕ, ◌<◌, true, false, List, [], Some}
use Rattle.volume_state.specs.disk_model.declared.block.Block.{Block}
use Rattle.volume_state.specs.disk_model.Content.{Content}
use Rattle.volume_state.specs.disk_model.Writes.{Write, overlay}
use Rattle.volume_state.specs.record_model.Records.{Record}
use Rattle.volume_state.specs.record_model.Constants.{data_type}
use Rattle.volume_state.specs.bit_set.Bits.{bit}
use Rattle.volume_state.specs.state_model.Files.{is_directory_record}
use Rattle.volume_state.specs.state_model.Streams.{stream_of}
use Rattle.volume_state.specs.volume_model.Volumes.{Volume, count_of, file_in, file_stream, bytes_or, upcase_file, record_bitmap, record_bits, upper_of}
use Rattle.volume_state.specs.volume_model.Indexes.{index_stream, keeps_index}
use Rattle.volume_state.specs.volume_model.Sizes.{keeps_sizes}
use Rattle.volume_state.specs.volume_model.Owners.{keeps_record_bit}
use Rattle.volume_state.specs.volume_model.Nodes.{kind_in, data_shown, node_at, spare_numbers}
use Rattle.volume_state.specs.Journals.{entries_name, journal_file, journal_of}
use Rattle.stream_laws.specs.Frames.{SameBytesInSome, SameRecordIn, SameIndexIn}

-- no block is torn in the second content that isn't in the first
abbrev pub IsNoMoreTorn : Content → Content → Type 0
IsNoMoreTorn c d = (b : Block) → (d b).torn ≡ true → (c b).torn ≡ true

-- the contents have the same bytes in the data of $UpCase
abbrev pub SameUpper : Content → Content → Volume → Type 0
SameUpper c d v = SameBytesInSome c d v.per (file_stream data_type [] (file_in v upcase_file))

-- each record that isn't marked in use is the same in both
abbrev pub SameFreeRecords : Content → Content → Volume → Type 0
SameFreeRecords c d v = (m : ℕ) → m < count_of v → bit (record_bits c v) m ≡ false → SameRecordIn c d v.per v.table m

-- the contents have the same bodies in the blocks of the index of a directory
abbrev pub SameIndexAt : Content → Content → Volume → ℕ → Type 0
SameIndexAt c d v n = (r : Record) → file_in v n ≡ Some r → is_directory_record r ≡ true → SameIndexIn c d v.per (index_stream r)

-- the contents have the same bytes in the data that the node of a file shows
abbrev pub SameShownAt : Content → Content → Volume → ℕ → Type 0
SameShownAt c d v n = (r : Record) → file_in v n ≡ Some r → SameBytesInSome c d v.per (data_shown (kind_in v n r) r)

-- the contents have the same bytes in the records of the change journal
abbrev pub SameEntries : Content → Content → List ℕ → Volume → Type 0
SameEntries c d upper v = (r : Record) → journal_file upper v ≡ Some r → SameBytesInSome c d v.per (stream_of data_type entries_name r.attrs)

-- The contents agree on what all but this file show: no more is torn, and these are the same: the table of upper-case units,
-- the bits of the records, the records that aren't in use, the change journal, and the index and data of each other file.
pub record AgreeBut (n : ℕ) (c d : Content) (v : Volume) : Type 0 where
  pub torn : IsNoMoreTorn c d
  pub upper : SameUpper c d v
  pub bits : SameBytesInSome c d v.per (record_bitmap v)
  pub free : SameFreeRecords c d v
  pub journal : SameEntries c d (upper_of c v) v
  pub indexes : (m : ℕ) → m ≢ n → SameIndexAt c d v m
  pub shown : (m : ℕ) → m ≢ n → SameShownAt c d v m

-- Then the table of upper-case units, rules 3, 4, 7 and 9, the nodes and the spare numbers are those from before. Writes make
-- no more torn, and each content agrees with itself.
pub record FrameOfState : Type 0 where
  pub writes : (c : Content) (writes : List Write) → IsNoMoreTorn c (overlay c writes)
  pub itself : (n : ℕ) (c : Content) (v : Volume) → AgreeBut n c c v
  pub upper : (c d : Content) (v : Volume) → SameUpper c d v → upper_of d v ≡ upper_of c v
  pub index : (c d : Content) (v : Volume) (upper : List ℕ) (n : ℕ) → SameIndexAt c d v n → keeps_index d v upper n ≡ keeps_index c v upper n
  pub sizes : (c d : Content) (v : Volume) (n : ℕ) → IsNoMoreTorn c d → keeps_sizes c v n ≡ true → keeps_sizes d v n ≡ true
  pub record_bit : (c d : Content) (v : Volume) (n : ℕ) → SameBytesInSome c d v.per (record_bitmap v) → SameFreeRecords c d v → n < count_of v → keeps_record_bit c v n ≡ true → keeps_record_bit d v n ≡ true
  pub journal : (c d : Content) (v : Volume) (upper : List ℕ) → SameEntries c d upper v → journal_of d upper v ≡ journal_of c upper v
  pub node : (c d : Content) (v : Volume) (n : ℕ) → SameShownAt c d v n → node_at (bytes_or d v.per) v n ≡ node_at (bytes_or c v.per) v n
  pub spare : (c d : Content) (v : Volume) → SameBytesInSome c d v.per (record_bitmap v) → SameFreeRecords c d v → spare_numbers d v ≡ spare_numbers c v
