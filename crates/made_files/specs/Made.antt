-- A file that a draft has put in a directory is the edit of a plan that makes it.
use Rattle.std.specs.Prelude.{◌≡◌, ◌≢◌, ℕ, ◌*◌, ◌<◌, ◌≤◌, ◌^◌, true, false, is_some, List, length, map, Some, Ok}
use Rattle.host_base.specs.declared.file_ref.FileRef.{FileRef}
use Rattle.utf16_name.specs.Lawful.{IsName}
use Rattle.disk_model.specs.declared.block.Block.{Block}
use Rattle.disk_model.specs.declared.block.BlockKind.TheVariants.{Plain, FileRec}
use Rattle.disk_model.specs.Content.{Content, HasSizes}
use Rattle.record_model.specs.Constants.{attribute_list}
use Rattle.record_model.specs.Records.{Record}
use Rattle.file_makes.specs.record_writer.Normal.{normal}
use Rattle.file_tree.specs.declared.link.Link.{Link}
use Rattle.file_tree.specs.Walks.{first_user_record}
use Rattle.bit_set.specs.Bits.{bit}
use Rattle.index_model.specs.declared.key.Key.{Key}
use Rattle.index_model.specs.Trees.{Tree, walk}
use Rattle.index_model.specs.Indexes.{node_block, links_of}
use Rattle.index_model.specs.Laws.{HoldsIndex}
use Rattle.index_plan.specs.Laws.{Once}
use Rattle.index_plan.specs.Search.{put}
use Rattle.file_makes.specs.index_change.declared.nodes_plan.NodesPlan.{NodesPlan}
use Rattle.file_makes.specs.index_change.declared.plan.DirPlan.{DirPlan}
use Rattle.file_makes.specs.index_change.Changing.{IsLaidOut, uses}
use Rattle.file_makes.specs.index_change.NodePlans.{PlansNodes, TakesFront}
use Rattle.file_makes.specs.index_change.Orders.{goes, link_of, put_link}
use Rattle.file_makes.specs.index_change.Plans.{root_room, seventeen, needs_level, NewIndex, TakesLittle}
use Rattle.state_model.specs.declared.geometry.Geometry.{Geometry}
use Rattle.state_model.specs.declared.stream.Extents.{Extents}
use Rattle.state_model.specs.declared.stream.Stream.TheVariants.{Placed}
use Rattle.state_model.specs.Files.{reference, is_directory_record, has_type}
use Rattle.state_model.specs.Streams.{block_at}
use Rattle.volume_model.specs.Indexes.{void_block, index_place, root_value}
use Rattle.volume_model.specs.Volumes.{Volume, count_of, file_in, record_bits, record_bitmap, upper_of}
use Rattle.volume_state.specs.Journals.{extend_file}
use Rattle.file_makes.specs.plan_owners.States.{Stands}
use Rattle.plan_bodies.specs.Bodies.{NewBody}
use Rattle.plan_draft.specs.declared.touched.Touched.{Touched}
use Rattle.plan_draft.specs.Drafts.{drafted}
use Rattle.file_makes.specs.plan_model.Informed.{IsApart}
use Rattle.file_makes.specs.plan_model.Made.{MakesFile}
use Rattle.file_makes.specs.plan_model.PlannedIndexes.{AreBeside}
use Rattle.draft_bits.specs.Effects.{IsKept}
use Rattle.file_makes.specs.draft_records.Records.{written_record}
use Rattle.file_makes.specs.plan_edits.Moves.{EditsDraft}
use Rattle.file_makes.specs.new_files.NewFiles.{new_key, link_in}
use Rattle.file_makes.specs.file_puts.declared.streams.VolumeStreams.{VolumeStreams}
use Rattle.file_makes.specs.file_puts.Written.{AreStreamsOf}
use Rattle.file_makes.specs.declared.newfile.NewFile.{NewFile}
use Rattle.file_makes.specs.Making.{made_record, rooted_record, PutsMade}

-- ---- the new file

-- its link, and the key by which its directory's index has it
abbrev pub made_link : NewFile → Link
made_link m = link_in m.parent m.name m.file

abbrev pub made_key : NewFile → Key
made_key m = new_key m.file m.parent m.name m.stamp

-- it has room in the fields of a record and of a name
pub record FitsFields (m : NewFile) : Type 0 where
  pub number : m.file.number < 2 ^ 32
  pub seq : m.file.seq < 2 ^ 16
  pub directory : m.parent.number < 2 ^ 48
  pub directory_seq : m.parent.seq < 2 ^ 16
  pub is_name : IsName m.name
  pub stamp_small : m.stamp < 2 ^ 64

-- a number of users whose record lies in the file table and is marked free
pub record IsSpare (c : Content) (v : Volume) (n : ℕ) : Type 0 where
  pub user : first_user_record ≤ n
  pub within : n < count_of v
  pub clear : bit (record_bits c v) n ≡ false
  pub lies : is_some (block_at v.per v.table.runs FileRec n) ≡ true

-- the bits of the numbers stand in these clusters, each below the initialised size and in a run
pub record HasNumbers (v : Volume) (numbers : Extents) : Type 0 where
  pub stream : record_bitmap v ≡ Some (Placed numbers)
  pub lawful : numbers.initialised ≤ numbers.real
  pub below : count_of v ≤ 8 * numbers.initialised
  pub lies : (s : ℕ) → 512 * s < numbers.initialised → is_some (block_at v.per numbers.runs Plain s) ≡ true

-- ---- its directory

-- A directory with this reference that has no attribute list, none of the volume's own but the root, whose record is as a plan writes it.
pub record IsParent (v : Volume) (parent : FileRef) (r : Record) : Type 0 where
  pub file : file_in v parent.number ≡ Some r
  pub directory : is_directory_record r ≡ true
  pub no_list : has_type attribute_list r ≡ false
  pub apart : IsApart parent.number
  pub not_extend : parent.number ≢ extend_file
  pub mirrored_none : 4 ≤ parent.number
  pub referred : parent ≡ reference parent.number r
  pub written : map normal r.attrs ≡ r.attrs

-- Its index is this tree below the root with this value, and these nodes are planned for it with the file's key, of these fresh VCNs. No name of it has
-- equal units; and no VCN that is used or taken has the block past the end of every disk.
pub record PlansEntry (c : Content) (v : Volume) (m : NewFile) (r : Record) (value : List ℕ) (used : ℕ) (t : Tree) (fresh : List ℕ) (nodes : NodesPlan) : Type 0 where
  pub root : root_value r ≡ Some value
  pub holds : HoldsIndex c (index_place v.per r) (upper_of c v) value t
  pub planned : PlansNodes c (index_place v.per r) (upper_of c v) value used (made_key m) fresh (Ok nodes)
  pub front : TakesFront fresh nodes
  pub enough : 17 ≤ length fresh
  pub once : Once t fresh
  pub laid : IsLaidOut (index_place v.per r) (uses t fresh)
  pub beside : AreBeside (upper_of c v) (made_link m) (links_of (walk t))
  pub real : (w : ℕ) (b : Block) → 0 < uses t nodes.taken.items w → node_block (index_place v.per r) w ≡ Some b → b ≢ void_block

-- ---- the edit

-- The file is put over a draft in a volume of which the streams, and the bits of the numbers, are these.
pub record MakesOfVolume (c : Content) (v : Volume) (s : VolumeStreams) (numbers : Extents) (m : NewFile) (r : Record) (value : List ℕ) (used : ℕ) (t : Tree) (fresh : List ℕ) (nodes : NodesPlan) (old new : List Touched) : Type 0 where
  pub sized : HasSizes c
  pub kept : IsKept old
  pub streams : AreStreamsOf v s
  pub bits : HasNumbers v numbers
  pub fields : FitsFields m
  pub number : IsSpare (drafted old c) v m.file.number
  pub directory : IsParent v m.parent r
  pub entry : PlansEntry (drafted old c) v m r value used t fresh nodes
  pub put : PutsMade c s numbers m r (index_place v.per r) value nodes old new

-- the directory's record with the root of this plan, as it is written
abbrev pub rooted_directory : DirPlan → Record → Record
rooted_directory plan r = written_record (rooted_record plan.root r)

-- What is put is the edit by which the file is made, of which the index is the one of the plan; what is touched stays whole bodies in order.
pub record IsMadeEdit (c : Content) (v : Volume) (s : VolumeStreams) (m : NewFile) (r : Record) (value : List ℕ) (used : ℕ) (t : Tree) (fresh : List ℕ) (plan : DirPlan) (old new : List Touched) : Type 0 where
  pub kept : IsKept new
  pub bodies : List NewBody
  pub edits : EditsDraft c old new bodies
  pub makes : MakesFile (drafted old c) v m.file.number m.parent.number (made_record (drafted old c) s.table m) r (rooted_directory plan r) (made_link m) bodies
  pub index : NewIndex (drafted old c) (index_place v.per r) (upper_of (drafted old c) v) value used t fresh (needs_level (upper_of (drafted old c) v) (root_room used value) (made_key m) (seventeen fresh) t)
      (put (goes (upper_of (drafted old c) v) (link_of (made_key m)).name) (made_key m) (walk t)) (put_link (upper_of (drafted old c) v) (link_of (made_key m)) (links_of (walk t))) plan
  pub little : TakesLittle (upper_of (drafted old c) v) value used (made_key m) fresh t plan
  pub holds : HoldsIndex (drafted new c) (index_place v.per (rooted_directory plan r)) (upper_of (drafted old c) v) plan.root index.tree

-- In a state that the draft before stands for, what is put of a new file is the edit that makes it.
abbrev pub MadeIsEdit : Type 0
MadeIsEdit = (c : Content) (g : Geometry) (clusters : ℕ) (v : Volume) (s : VolumeStreams) (numbers : Extents) (m : NewFile) (r : Record) (value : List ℕ) (used : ℕ) (t : Tree) (fresh : List ℕ) (nodes : NodesPlan) (old new : List Touched) → g.per_cluster ≡ 8 → Stands (drafted old c) g clusters v
    → (k : MakesOfVolume c v s numbers m r value used t fresh nodes old new) → IsMadeEdit c v s m r value used t fresh k.put.plan old new
