-- The tree of a volume where several files change at once.
use Rattle.std.specs.Prelude.{◌≡◌, ◌≢◌, ℕ, ◌<◌, Bool, true, false, not, ◌==◌, ◌≤◌, List, [], length, Option, Some, None}
use Rattle.std.specs.List.{cons_option, AllByRecursion}
use Rattle.volume_state.specs.disk_model.Content.{Content}
use Rattle.volume_state.specs.record_model.Records.{Record}
use Rattle.volume_state.specs.file_tree.declared.tree.Tree.{Tree}
use Rattle.volume_state.specs.bit_set.Bits.{bit}
use Rattle.volume_state.specs.state_model.declared.stream.Stream.{Stream}
use Rattle.volume_state.specs.state_model.Files.{Table, links_at, reference, is_directory_record}
use Rattle.volume_state.specs.state_model.Loads.{table_in}
use Rattle.volume_state.specs.state_model.Rules.{keeps_1, keeps_2, keeps_8}
use Rattle.volume_state.specs.file_tree.Walks.{first_user_record}
use Rattle.volume_state.specs.volume_model.Volumes.{Volume, count_of, file_in, bytes_or, upcase_file, record_bits, upper_of}
use Rattle.volume_state.specs.volume_model.Indexes.{keeps_index}
use Rattle.volume_state.specs.volume_model.Nodes.{node_at, nodes_by, spare_at, spare_numbers}
use Rattle.volume_state.specs.volume_model.Owners.{keeps_record_bit}
use Rattle.volume_state.specs.volume_model.Sizes.{keeps_sizes}
use Rattle.volume_state.specs.Rules.{file_count, broken_5, broken_6, broken_9}
use Rattle.volume_state.specs.Trees.{Holds, tree_of}
use Rattle.stream_laws.specs.Frames.{SameRecordIn}
use Rattle.stream_laws.specs.Rewrites.{with_files}
use Rattle.tree_laws.specs.Keeping.{PartReplaced, KeepsDirectory}
use Rattle.tree_laws.specs.Contents.{IsNoMoreTorn, SameUpper, SameIndexAt, SameShownAt}
use Rattle.tree_laws.specs.Leaves.{IsLeaf, names_there}
use Rattle.tree_laws.specs.Ways.{KeepsWays}

-- these numbers keep their names and being a directory or not, and each of their names stands in one of them
pub record KeepsPlaces (inside : ℕ → Bool) (p q : Table) : Type 0 where
  pub names : (m : ℕ) → inside m ≡ true → links_at q m ≡ links_at p m
  pub directory : (m : ℕ) → inside m ≡ true → KeepsDirectory m p q
  pub above : (m : ℕ) → inside m ≡ true → AllByRecursion (λ l. inside l.parent.number ≡ true) (links_at p m)

-- there are as many files, and those that aren't touched stay; they are among those that keep their places
pub record TouchesFiles (touched inside : ℕ → Bool) (old new : List (Option Record)) : Type 0 where
  pub count : length new ≡ length old
  pub others : (m : ℕ) → touched m ≡ false → table_in new m ≡ table_in old m
  pub places : KeepsPlaces inside (table_in old) (table_in new)
  pub within : (m : ℕ) → touched m ≡ false → inside m ≡ true

-- In the second content no more is torn. These are the same in both: the table of upper-case units; and of each file that isn't
-- touched the index, the record where it isn't in use, and the bit of the record, which is read from the new files.
pub record AgreesElsewhere (touched : ℕ → Bool) (c d : Content) (v w : Volume) : Type 0 where
  pub torn : IsNoMoreTorn c d
  pub upper : SameUpper c d v
  pub indexes : (m : ℕ) → touched m ≡ false → SameIndexAt c d v m
  pub bits : (m : ℕ) → m < count_of v → touched m ≡ false → bit (record_bits d w) m ≡ bit (record_bits c v) m
  pub free : (m : ℕ) → m < count_of v → touched m ≡ false → bit (record_bits c v) m ≡ false → SameRecordIn c d v.per v.table m

-- What the new files keep: rules 1, 3, 4 and 7 at each touched number, and 2 and 8 at each that leaves its place; rules 5, 6 and 9.
-- A directory that isn't touched has the same names of each file that leaves its place. $UpCase isn't touched.
pub record KeepsTouched (touched inside : ℕ → Bool) (c d : Content) (v w : Volume) : Type 0 where
  pub upcase : touched upcase_file ≡ false
  pub rule_1 : (m : ℕ) → m < count_of v → touched m ≡ true → keeps_1 (table_in w.files) m ≡ true
  pub rule_2 : (m : ℕ) → m < count_of v → inside m ≡ false → keeps_2 (table_in w.files) m ≡ true
  pub rule_3 : (m : ℕ) → m < count_of v → touched m ≡ true → keeps_index d w (upper_of c v) m ≡ true
  pub listed : (m n : ℕ) (r : Record) → touched m ≡ false → file_in v m ≡ Some r → is_directory_record r ≡ true → inside n ≡ false → names_there (reference m r) (links_at (table_in w.files) n) ≡ names_there (reference m r) (links_at (table_in v.files) n)
  pub rule_4 : (m : ℕ) → m < file_count v → touched m ≡ true → keeps_sizes d w m ≡ true
  pub rule_5 : broken_5 w ≡ None
  pub rule_6 : broken_6 d w ≡ None
  pub rule_7 : (m : ℕ) → m < count_of v → touched m ≡ true → keeps_record_bit d w m ≡ true
  pub rule_8 : (m : ℕ) → m < count_of v → inside m ≡ false → keeps_8 (table_in w.files) (count_of w) m ≡ true
  pub rule_9 : broken_9 d w ≡ None

-- All files may keep their places, or all but one in which no other has a name. Then the volume stands for its tree in the new
-- content. The nodes of files that aren't touched stay, where their data does, and so do the spare numbers among them. Where the
-- nodes of all files but one stay, so does the rest of the list of nodes; spare numbers alike.
pub record FilesChanged : Type 0 where
  pub all_keep : (p q : Table) → ((m : ℕ) → links_at q m ≡ links_at p m) → ((m : ℕ) → KeepsDirectory m p q) → KeepsPlaces (λ m. true) p q
  pub all_but : (p q : Table) (n : ℕ) → IsLeaf n p → ((m : ℕ) → m ≢ n → links_at q m ≡ links_at p m) → ((m : ℕ) → m ≢ n → KeepsDirectory m p q) → KeepsPlaces (λ m. not (m == n)) p q
  pub ways : (inside : ℕ → Bool) (p q : Table) → KeepsPlaces inside p q → KeepsWays inside p q
  pub holds : (touched inside : ℕ → Bool) (c d : Content) (v : Volume) (files : List (Option Record)) (t : Tree) → Holds c v t → TouchesFiles touched inside v.files files
      → AgreesElsewhere touched c d v (with_files v files) → KeepsTouched touched inside c d v (with_files v files) → Holds d (with_files v files) (tree_of d (with_files v files))
  pub node : (touched inside : ℕ → Bool) (c d : Content) (v : Volume) (files : List (Option Record)) (m : ℕ) → TouchesFiles touched inside v.files files → touched m ≡ false → SameShownAt c d v m
      → node_at (bytes_or d v.per) (with_files v files) m ≡ node_at (bytes_or c v.per) v m
  pub spare : (touched inside : ℕ → Bool) (c d : Content) (v : Volume) (files : List (Option Record)) (m : ℕ) → TouchesFiles touched inside v.files files → AgreesElsewhere touched c d v (with_files v files) → m < count_of v → touched m ≡ false
      → spare_at d (with_files v files) m ≡ spare_at c v m
  pub nodes_but : (bytes new_bytes : Option Stream → List ℕ) (v w : Volume) (n : ℕ) → count_of w ≡ count_of v → ((m : ℕ) → m < count_of v → m ≢ n → node_at new_bytes w m ≡ node_at bytes v m)
      → PartReplaced (cons_option (node_at bytes v n) []) (cons_option (node_at new_bytes w n) []) (nodes_by bytes v) (nodes_by new_bytes w)
  pub spare_but : (c d : Content) (v w : Volume) (n : ℕ) → count_of w ≡ count_of v → first_user_record ≤ n → n < count_of v → ((m : ℕ) → m < count_of v → m ≢ n → spare_at d w m ≡ spare_at c v m)
      → PartReplaced (cons_option (spare_at c v n) []) (cons_option (spare_at d w n) []) (spare_numbers c v) (spare_numbers d w)
