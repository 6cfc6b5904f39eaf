-- A file table that a draft has let grow first, from a state.
use Rattle.std.specs.Prelude.{◌≡◌, ℕ, ◌≤◌, Bool, true, List, [], Some, None}
use Rattle.std.specs.List.{AllByRecursion}
use Rattle.host_base.specs.declared.file_ref.FileRef.{FileRef}
use Rattle.disk_model.specs.Content.{Content, HasSizes}
use Rattle.record_model.specs.Records.{Record}
use Rattle.state_model.specs.declared.geometry.Geometry.{Geometry}
use Rattle.state_model.specs.Files.{is_directory_record}
use Rattle.volume_model.specs.Volumes.{Volume, bitmap_file, cluster_bits, file_in, table_file}
use Rattle.volume_state.specs.Trees.{tree_of}
use Rattle.tree_model.specs.declared.reply.Reply.TheVariants.{RecordFull}
use Rattle.tree_model.specs.Needs.{table_part}
use Rattle.tree_model.specs.Effects.{numbers_to_take, least_ref}
use Rattle.plan_owners.specs.States.{Stands}
use Rattle.plan_draft.specs.declared.touched.Touched.{Touched}
use Rattle.plan_draft.specs.Drafts.{drafted}
use Rattle.made_trees.specs.made_files.plan_values.Values.{IsOwnFile}
use Rattle.made_trees.specs.file_puts.declared.streams.VolumeStreams.{VolumeStreams}
use Rattle.made_trees.specs.file_puts.Written.{AreStreamsOf}
use Rattle.made_trees.specs.made_files.Made.{HasNumbers, IsSpare}
use Rattle.made_trees.specs.step_model.Placing.{wanted_by}
use Rattle.made_trees.specs.step_model.Plans.{bits_left, full_row, grows_table, table_change}
use Rattle.made_trees.specs.Grown.{IsOfTable, KeepsIndex, HasGrownBefore}
use Rattle.made_steps.specs.Behind.{table_used}
use Rattle.table_makes.specs.declared.grown.TableGrown.{TableGrown}
use Rattle.table_makes.specs.Growing.{IsTooFull, TableGrew}

-- In a state no number is spare. A draft that touched nothing has let the file table grow by clusters that are clear in the volume, whose streams and
-- records 0 and 6 these are.
pub record GrowsTableFirst (c : Content) (g : Geometry) (clusters : ℕ) (v : Volume) (s : VolumeStreams) (r q : Record) (new : List Touched) (x : TableGrown) (behind : List Bool) : Type 0 where
  pub sized : HasSizes c
  pub eight : g.per_cluster ≡ 8
  pub stands : Stands c g clusters v
  pub none : grows_table (tree_of c v) ≡ true
  pub streams : AreStreamsOf v s
  pub file : file_in v table_file ≡ Some r
  pub bits_file : file_in v bitmap_file ≡ Some q
  pub grew : TableGrew c (cluster_bits c v) s r q [] new x behind

-- Some volume has the longer table. The file table has grown in it as it may before a file is made in any directory without an attribute list, by the
-- clusters that a step counts, and no more than an operation counts for it; the directory's index stands as it stood, and record 0 isn't too full. The
-- volume's streams and the bits of its numbers are these, the number that the operation takes is spare, and the bits are those that a step leaves.
pub record HasTableFirst (c : Content) (g : Geometry) (clusters : ℕ) (v : Volume) (new : List Touched) (x : TableGrown) (behind : List Bool) : Type 0 where
  pub u : Volume
  pub per : u.per ≡ v.per
  pub count : u.clusters ≡ v.clusters
  pub before : (n : ℕ) (r : Record) → IsOwnFile v n r → is_directory_record r ≡ true → HasGrownBefore c g clusters v n r (table_change c v).growths u r new
  pub index : (n : ℕ) (r : Record) → IsOwnFile v n r → is_directory_record r ≡ true → KeepsIndex c v r (drafted new c) u r
  pub table : AllByRecursion IsOfTable (table_change c v).growths
  pub streams : AreStreamsOf u x.streams
  pub numbers : HasNumbers u x.numbers
  pub spare : (ref : FileRef) → least_ref (numbers_to_take (tree_of c v)) ≡ Some ref → IsSpare (drafted new c) u ref.number
  pub little : wanted_by (table_change c v).growths ≤ table_part (tree_of c v)
  pub room : full_row (table_used c v) ≡ None
  pub left : behind ≡ bits_left c v

abbrev pub TableTakesStep : Type 0
TableTakesStep = (c : Content) (g : Geometry) (clusters : ℕ) (v : Volume) (s : VolumeStreams) (r q : Record) (new : List Touched) (x : TableGrown) (behind : List Bool)
    → GrowsTableFirst c g clusters v s r q new x behind → HasTableFirst c g clusters v new x behind

-- In a state no number is spare, and the draft's count of this record 0 is that it would use so many bytes.
pub record RefusesTableFirst (c : Content) (g : Geometry) (clusters : ℕ) (v : Volume) (r : Record) (used : ℕ) : Type 0 where
  pub eight : g.per_cluster ≡ 8
  pub stands : Stands c g clusters v
  pub none : grows_table (tree_of c v) ≡ true
  pub file : file_in v table_file ≡ Some r
  pub full : IsTooFull (cluster_bits c v) r used

-- Then so a step counts them.
abbrev pub TableIsRefused : Type 0
TableIsRefused = (c : Content) (g : Geometry) (clusters : ℕ) (v : Volume) (r : Record) (used : ℕ) → RefusesTableFirst c g clusters v r used → full_row (table_used c v) ≡ Some (RecordFull used)
