-- Whose each block is, at eight sectors a cluster: by clusters, and by the kind of the stream's blocks.
use Rattle.std.specs.Prelude.{◌≡◌, ◌≢◌, ℕ, ◌/◌, ◌<◌, true}
use Rattle.log_model.specs.disk_model.declared.block.Block.{Block}
use Rattle.log_model.specs.disk_model.declared.block.BlockKind.{BlockKind}
use Rattle.log_model.specs.disk_model.Sectors.{are_rivals}
use Rattle.log_model.specs.disk_model.Content.{Content}
use Rattle.tree_laws.specs.bit_set.Bits.{bit}
use Rattle.log_model.specs.Logs.{is_in_grid}
use Rattle.tree_laws.specs.state_model.declared.geometry.Geometry.{Geometry}
use Rattle.tree_laws.specs.volume_model.Volumes.{Volume, cluster_bits}
use Rattle.tree_laws.specs.volume_model.Owners.{volume_runs, uses}
use Rattle.tree_laws.specs.stream_laws.Owners.{stream_kind, Owns}
use Rattle.tree_laws.specs.stream_laws.Sharing.{StreamKey, stream_at, runs_in}
use Rattle.plan_owners.specs.States.{Stands}

-- the cluster in which a block of the grid lies
abbrev pub cluster_of : Block → ℕ
cluster_of b = b.first / 8

-- the volume owns the cluster in a stream whose blocks are of this kind
pub record OwnsAs (v : Volume) (kind : BlockKind) (x : ℕ) : Type 0 where
  pub stream : StreamKey
  pub is_kind : stream_kind stream ≡ kind
  pub has : 0 < uses (runs_in (stream_at v stream)) x

-- Each block that a volume owns lies in the grid, in a cluster that is owned as its kind. A state owns a cluster as one kind, and its
-- bit is set. Rivals in the grid lie in one cluster. So no two blocks in clusters that a state owns as their kinds are rivals, and
-- none has a rival in a cluster that is clear.
pub record OwnersByKind : Type 0 where
  pub grid : (v : Volume) (b : Block) → v.per ≡ 8 → Owns v b → is_in_grid b ≡ true
  pub owned : (v : Volume) (b : Block) → v.per ≡ 8 → Owns v b → OwnsAs v b.kind (cluster_of b)
  pub one_kind : (c : Content) (g : Geometry) (clusters : ℕ) (v : Volume) (kind other : BlockKind) (x : ℕ) → Stands c g clusters v → OwnsAs v kind x → OwnsAs v other x → kind ≡ other
  pub inside : (c : Content) (g : Geometry) (clusters : ℕ) (v : Volume) (kind : BlockKind) (x : ℕ) → Stands c g clusters v → OwnsAs v kind x → x < v.clusters
  pub used : (v : Volume) (kind : BlockKind) (x : ℕ) → OwnsAs v kind x → 0 < uses (volume_runs v.files) x
  pub marked : (c : Content) (g : Geometry) (clusters : ℕ) (v : Volume) (kind : BlockKind) (x : ℕ) → Stands c g clusters v → OwnsAs v kind x → bit (cluster_bits c v) x ≡ true
  pub one_cluster : (a b : Block) → is_in_grid a ≡ true → is_in_grid b ≡ true → are_rivals a b ≡ true → cluster_of a ≡ cluster_of b
  pub two_kinds : (a b : Block) → are_rivals a b ≡ true → a.kind ≢ b.kind
