-- The laws of the live blocks and of what is said of them.
use Rattle.std.specs.Prelude.{◌≡◌, ℕ, ◌≤◌, Option, Some, None}
use Rattle.std.specs.List.{Contains}
use Rattle.disk_model.specs.declared.block.Block.{Block}
use Rattle.stream_laws.specs.volume_model.Volumes.{Volume}
use Rattle.stream_laws.specs.Owners.{IsLive}
use Rattle.volume_shadows.specs.Live.{live_blocks, least_live}

-- the list has exactly the live blocks
pub record LiveByList : Type 0 where
  pub live : (v : Volume) (b : Block) → IsLive v b → Contains (live_blocks v) b
  pub only : (v : Volume) (b : Block) → Contains (live_blocks v) b → IsLive v b

-- What is said least is said of a live block, and nothing less of any; where there is none, nothing is said of any.
pub record LeastIsSaid : Type 0 where
  pub none : (said : Block → Option ℕ) (v : Volume) (b : Block) → least_live said v ≡ None → IsLive v b → said b ≡ None
  pub some : (said : Block → Option ℕ) (v : Volume) (lsn : ℕ) → least_live said v ≡ Some lsn → (b : Block) × IsLive v b × (said b ≡ Some lsn)
  pub least : (said : Block → Option ℕ) (v : Volume) (lsn other : ℕ) (b : Block) → least_live said v ≡ Some lsn → IsLive v b → said b ≡ Some other → lsn ≤ other
