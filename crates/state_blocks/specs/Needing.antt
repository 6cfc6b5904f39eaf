-- The blocks from which a content is read as a state, and that two contents which agree on them are one state.
use Rattle.std.specs.Prelude.{◌≡◌, ◌⊎◌, ℕ, true, Some}
use Rattle.disk_model.specs.declared.block.Block.{Block}
use Rattle.disk_model.specs.Content.{Content}
use Rattle.plan_owners.specs.record_model.Records.{Record}
use Rattle.plan_owners.specs.state_model.declared.geometry.Geometry.{Geometry}
use Rattle.plan_owners.specs.state_model.declared.stream.Extents.{Extents}
use Rattle.plan_owners.specs.state_model.declared.stream.Stream.TheVariants.{Placed}
use Rattle.plan_owners.specs.state_model.Loads.{list_stream}
use Rattle.plan_owners.specs.volume_model.Volumes.{Volume, record_bytes, record_bits, cluster_bits, upper_of}
use Rattle.plan_owners.specs.volume_model.Indexes.{void_block}
use Rattle.plan_owners.specs.volume_state.Trees.{tree_of}
use Rattle.plan_owners.specs.stream_laws.Frames.{IsRead}
use Rattle.plan_owners.specs.stream_laws.Volumes.{base_record}
use Rattle.plan_owners.specs.States.{Stands}
use Rattle.plan_owners.specs.Agreeing.{IsJudged, AgreeOnOwned}

-- The block holds bytes of a file's attribute list, as the file's own record has it.
pub record IsListed (c : Content) (v : Volume) (b : Block) : Type 0 where
  pub number : ℕ
  pub file : Record
  pub is_file : base_record c v.per v.table number ≡ Some file
  pub list : Extents
  pub is_list : list_stream file ≡ Some (Placed list)
  pub read : IsRead v.per list b

-- A block from which the content is read as a state: the state is judged by it, or it holds bytes of an attribute list.
abbrev pub IsNeeded : Content → Volume → Block → Type 0
IsNeeded c v b = IsJudged v b ⊎ IsListed c v b

-- The second content has the same bytes in each of these blocks, and no more of them is torn; and the block past the end of every disk is the same.
pub record AgreeOnNeeded (c d : Content) (v : Volume) : Type 0 where
  pub bodies : (b : Block) → IsNeeded c v b → ((d b).bytes ≡ (c b).bytes) × ((d b).torn ≡ true → (c b).torn ≡ true)
  pub void : d void_block ≡ c void_block

-- Then it is a state too, of the same volume and tree, and needs no other blocks; the bytes of the records, both bitmaps and the table of upper-case units are the same.
pub record NeededIsAll : Type 0 where
  pub owned : (c d : Content) (v : Volume) → AgreeOnNeeded c d v → AgreeOnOwned c d v
  pub stands : (c d : Content) (g : Geometry) (clusters : ℕ) (v : Volume) → Stands c g clusters v → AgreeOnNeeded c d v → Stands d g clusters v
  pub tree : (c d : Content) (g : Geometry) (clusters : ℕ) (v : Volume) → Stands c g clusters v → AgreeOnNeeded c d v → tree_of d v ≡ tree_of c v
  pub needed : (c d : Content) (g : Geometry) (clusters : ℕ) (v : Volume) (b : Block) → Stands c g clusters v → AgreeOnNeeded c d v → IsNeeded d v b → IsNeeded c v b
  pub bytes : (c d : Content) (g : Geometry) (clusters : ℕ) (v : Volume) (n : ℕ) → Stands c g clusters v → AgreeOnNeeded c d v → record_bytes d v n ≡ record_bytes c v n
  pub records : (c d : Content) (v : Volume) → AgreeOnNeeded c d v → record_bits d v ≡ record_bits c v
  pub clusters : (c d : Content) (v : Volume) → AgreeOnNeeded c d v → cluster_bits d v ≡ cluster_bits c v
  pub upper : (c d : Content) (v : Volume) → AgreeOnNeeded c d v → upper_of d v ≡ upper_of c v
