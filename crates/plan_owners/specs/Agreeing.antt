-- What a state's image is judged by: two contents that agree on what a volume owns.
use Rattle.std.specs.Prelude.{◌≡◌, ◌≢◌, ℕ, [], true, find, ◌==◌, Some, Ok}
use Rattle.log_model.specs.disk_model.declared.block.Block.{Block}
use Rattle.log_model.specs.disk_model.Content.{Content}
use Rattle.tree_laws.specs.record_model.declared.attribute.Attr.{Attr}
use Rattle.tree_laws.specs.record_model.Records.{Record}
use Rattle.tree_laws.specs.record_model.Constants.{attribute_list, data_type}
use Rattle.tree_laws.specs.state_model.declared.geometry.Geometry.{Geometry}
use Rattle.tree_laws.specs.state_model.Loads.{list_stream, attr_name}
use Rattle.tree_laws.specs.volume_model.Volumes.{Volume, volume_of, log_file}
use Rattle.tree_laws.specs.volume_model.Indexes.{void_block}
use Rattle.tree_laws.specs.volume_state.Trees.{IsState, tree_of}
use Rattle.tree_laws.specs.stream_laws.Frames.{SameBytesInSome}
use Rattle.tree_laws.specs.stream_laws.Owners.{IsLive}
use Rattle.tree_laws.specs.stream_laws.Sharing.{StreamKey, stream_at}
use Rattle.tree_laws.specs.stream_laws.Volumes.{base_record}
use Rattle.plan_owners.specs.States.{Stands}

-- the log: the unnamed data of $LogFile
abbrev pub log_key : StreamKey
log_key = record { file = log_file; kind = data_type; name = [] }

-- A block by which a state is judged: it is live, and none of the log.
pub record IsJudged (v : Volume) (b : Block) : Type 0 where
  pub live : IsLive v b
  pub other : live.owned.stream ≢ log_key

-- The contents have the same bytes in each block that the volume owns, but for those of the log and those wholly past their stream's
-- initialised size, and no more of them is torn; so they have in each attribute list as its own record has it, and in the block past the
-- end of every disk.
pub record AgreeOnOwned (c d : Content) (v : Volume) : Type 0 where
  pub bytes : (b : Block) → IsJudged v b → (d b).bytes ≡ (c b).bytes
  pub torn : (b : Block) → IsJudged v b → (d b).torn ≡ true → (c b).torn ≡ true
  pub lists : (n : ℕ) (r : Record) → base_record c v.per v.table n ≡ Some r → SameBytesInSome c d v.per (list_stream r)
  pub void : d void_block ≡ c void_block

-- the attribute list of a file with this record, as a stream of the volume
abbrev pub list_key : ℕ → Record → StreamKey
list_key n r = record { file = n; kind = attribute_list; name = attr_name (find (λ (a : Attr). a.head.kind == attribute_list) r.attrs) }

-- Then the second content is a state too, of the same volume and tree. An attribute list of which no other record has a part is
-- owned as the others are.
pub record OwnedIsAll : Type 0 where
  pub volume : (c d : Content) (g : Geometry) (clusters : ℕ) (v : Volume) → Stands c g clusters v → AgreeOnOwned c d v → volume_of d g clusters ≡ Ok v
  pub stands : (c d : Content) (g : Geometry) (clusters : ℕ) (v : Volume) → Stands c g clusters v → AgreeOnOwned c d v → Stands d g clusters v
  pub tree : (c d : Content) (g : Geometry) (clusters : ℕ) (v : Volume) → Stands c g clusters v → AgreeOnOwned c d v → tree_of d v ≡ tree_of c v
  pub state : (c d : Content) (g : Geometry) (clusters : ℕ) (v : Volume) → Stands c g clusters v → AgreeOnOwned c d v → IsState d g clusters (tree_of c v)
  pub list : (c d : Content) (v : Volume) (n : ℕ) (r : Record) → ((b : Block) → IsJudged v b → (d b).bytes ≡ (c b).bytes) → stream_at v (list_key n r) ≡ list_stream r → SameBytesInSome c d v.per (list_stream r)
