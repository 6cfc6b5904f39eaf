-- Where the nodes of a directory's index lie in a state: each in a block of its own.
use Rattle.std.specs.Prelude.{◌≡◌, ◌≢◌, ◌⊎◌, ℕ, ◌+◌, ◌*◌, ◌<◌, ◌≤◌, true, List, Some, Ok}
use Rattle.disk_model.specs.declared.block.Block.{Block}
use Rattle.disk_model.specs.declared.block.BlockKind.TheVariants.{Index}
use Rattle.disk_model.specs.Content.{Content}
use Rattle.record_model.specs.declared.entry.Entry.{Entry}
use Rattle.record_model.specs.Pairs.{cluster_limit}
use Rattle.record_model.specs.Records.{Record}
use Rattle.index_model.specs.Trees.{Tree, times}
use Rattle.index_model.specs.Indexes.{Place, node_block, node_of_block}
use Rattle.index_model.specs.Laws.{HoldsIndex}
use Rattle.state_streams.specs.index_change.Changing.{IsLaidOut, uses}
use Rattle.state_model.specs.declared.geometry.Geometry.{Geometry}
use Rattle.state_model.specs.Files.{is_directory_record}
use Rattle.state_model.specs.Streams.{block_at}
use Rattle.volume_model.specs.Indexes.{void_block, index_stream, index_place}
use Rattle.volume_model.specs.Volumes.{Volume, file_in, size_or}
use Rattle.stream_laws.specs.Owners.{initialised_in}
use Rattle.stream_laws.specs.Sharing.{runs_in}
use Rattle.state_streams.specs.plan_owners.States.{Stands}

-- the VCN's block isn't the one past the end of every disk, or a node with this VCN stands in it
abbrev pub HasOwnBlock : Content → Place → ℕ → Type 0
HasOwnBlock c p w = (node_block p w ≢ Some void_block) ⊎ ((entries : List Entry) × (node_of_block c p w ≡ Ok entries))

-- the block with this number lies whole in the real size of a directory's index, and begins below its initialised size
pub record IsInitialised (r : Record) (w : ℕ) : Type 0 where
  pub begins : 4096 * w < initialised_in (index_stream r)
  pub whole : 4096 * (w + 1) ≤ size_or (index_stream r)

-- the block with this number is one in the clusters of a directory's index
pub record IsIndexBlock (per : ℕ) (r : Record) (w : ℕ) : Type 0 where
  pub block : Block
  pub node : node_block (index_place per r) w ≡ Some block
  pub lies : block_at per (runs_in (index_stream r)) Index w ≡ Some block
  pub real : block ≢ void_block

-- VCNs of a directory's index that have blocks of their own are laid out: their blocks are index blocks, and no two have the same one. At eight
-- sectors a cluster each block that the index has initialised lies in its clusters, in a volume of which the clusters don't pass the
-- limit. So the nodes of an index and the blocks that a plan may take are laid out where the latter are initialised.
pub record IndexesAreLaidOut : Type 0 where
  pub laid : (c : Content) (g : Geometry) (clusters : ℕ) (v : Volume) (n : ℕ) (r : Record) (count : ℕ → ℕ) → Stands c g clusters v → file_in v n ≡ Some r
      → ((w : ℕ) → 0 < count w → HasOwnBlock c (index_place v.per r) w) → IsLaidOut (index_place v.per r) count
  pub placed : (c : Content) (g : Geometry) (clusters : ℕ) (v : Volume) (n : ℕ) (r : Record) (w : ℕ) → Stands c g clusters v → g.per_cluster ≡ 8 → v.clusters ≤ cluster_limit → file_in v n ≡ Some r → is_directory_record r ≡ true
      → IsInitialised r w → IsIndexBlock v.per r w
  pub plans : (c : Content) (g : Geometry) (clusters : ℕ) (v : Volume) (n : ℕ) (r : Record) (upper value : List ℕ) (t : Tree) (fresh : List ℕ) → Stands c g clusters v → g.per_cluster ≡ 8 → v.clusters ≤ cluster_limit → file_in v n ≡ Some r → is_directory_record r ≡ true
      → HoldsIndex c (index_place v.per r) upper value t → ((w : ℕ) → 0 < times w fresh → IsInitialised r w) → IsLaidOut (index_place v.per r) (uses t fresh)
