-- The laws of claims.
use Rattle.std.specs.Prelude.{◌≡◌, ◌↔◌, ℕ, ◌+◌, ◌≤◌, Bool, true, false, List, length}
use Rattle.store_model.specs.disk_model.declared.block.Block.{Block}
use Rattle.store_model.specs.sector_device.Disks.{Disk}
use Rattle.store_model.specs.log_model.declared.entry.Entry.{Entry}
use Rattle.store_model.specs.log_model.Logs.{is_shadowed}
use Rattle.store_model.specs.Logs.{AllBytes, IsClaimed}
use Rattle.store_model.specs.Geometry.{SectorBytes, Geometry}
use Rattle.store_model.specs.Stores.{Store, member, IsSound, Image, MayLeave, list_of, RecoversTo}
use Rattle.store_model.specs.Events.{Step}
use Rattle.store_model.specs.Runs.{commits_of, mounted, harms, Moves}
use Rattle.store_model.specs.Recovery.{IsStopped}
use Rattle.store_model.specs.Volumes.{is_known, IsVolume, window_of, AreWhole, IsRecovered}
use Rattle.store_model.specs.Laws.{IsRecoverable}
use Rattle.store_claims.specs.Claims.{claims_in, IsClaimedIn, claims_with, IsClaimedWith, claims, IsClaimedBack, will, WillBeClaimed, commits_behind}
use Rattle.store_claims.specs.Moves.{Keeps, ClaimsAfter, is_change_of}

-- Each claim is what it says, list by list and place by place.
pub record ClaimsAgree : Type 0 where
  pub in_list : (l : List Entry) (d k : ℕ) (b : Block) → (claims_in l d k b ≡ true) ↔ IsClaimedIn l d k b
  pub with_end : (tx : ℕ) (l : List Entry) (b : Block) → (claims_with tx l b ≡ true) ↔ IsClaimedWith tx l b
  pub of_store : (s : Store) (k : ℕ) (b : Block) → (claims s k b ≡ true) ↔ IsClaimedBack s k b
  pub of_present : (s : Store) (b : Block) → (will s b ≡ true) ↔ WillBeClaimed s b

-- What each event does to the claims.
pub record ClaimsMove : Type 0 where
  pub step : (geometry : Geometry) (s t : Store) (step : Step geometry s t) → IsSound geometry s → ClaimsAfter geometry s t step
  -- where no transaction is open, what is claimed of the newest content will be of the present one
  pub closed : (geometry : Geometry) (s : Store) → IsSound geometry s → s.window.is_open ≡ false → Keeps (claims s 0) (will s)
  -- a mounted store claims each block
  pub start : (tx : ℕ) (bytes : AllBytes) (torn : Block → Bool) (disk : Disk) (k : ℕ) (b : Block) → (claims (mounted tx bytes torn disk) k b ≡ true) × (will (mounted tx bytes torn disk) b ≡ true)

-- Nothing that is claimed is harmed.
pub record ClaimedStays : Type 0 where
  -- what is claimed of a content that is left, or will be of the present one, no event makes what a read gives
  pub spared : (geometry : Geometry) (s t : Store) (step : Step geometry s t) → IsSound geometry s → (k : ℕ) (b : Block) → claims s k b ≡ true → commits_of geometry s t step + k ≤ length t.window.waiting
      → harms geometry s t step b ≡ false
  pub present_spared : (geometry : Geometry) (s t : Store) (step : Step geometry s t) → IsSound geometry s → (b : Block) → will s b ≡ true → harms geometry s t step b ≡ false
  -- so it stays in that content
  pub moves : (geometry : Geometry) (s t : Store) (step : Step geometry s t) → IsSound geometry s → (k : ℕ) (b : Block) → claims s k b ≡ true → commits_of geometry s t step + k ≤ length t.window.waiting
      → Moves (commits_of geometry s t step) s.window t.window b
  pub members : (geometry : Geometry) (s t : Store) (step : Step geometry s t) → IsSound geometry s → (k : ℕ) (b : Block) → claims s k b ≡ true → commits_of geometry s t step + k ≤ (window_of t.window).waiting
      → (k ≤ (window_of s.window).waiting) × ((window_of t.window).before (commits_of geometry s t step + k) b ≡ (window_of s.window).before k b)
  -- and in the present one, unless the event changes it
  pub present : (geometry : Geometry) (s t : Store) (step : Step geometry s t) → IsSound geometry s → (b : Block) → will s b ≡ true → is_change_of geometry s t step b ≡ false
      → (window_of t.window).present b ≡ (window_of s.window).present b

-- The image recovers byte by byte to the member so many commits back, and its list shadows nothing that is claimed there.
pub record RefinesClaimed (geometry : Geometry) (s : Store) (image : Image) (k : ℕ) : Type 0 where
  pub within : k ≤ length s.window.waiting
  pub recovers : RecoversTo geometry s image (member s.window k) (s.window.was_torn k)
  pub claimed : (b : Block) → claims s k b ≡ true → IsClaimed (list_of s image) b

-- The image recovers to the content so many commits back, on all that is claimed there.
pub record RecoversClaimed (own : ℕ → Bool) (geometry : Geometry) (s : Store) (image : Image) (k : ℕ) : Type 0 where
  pub recoverable : IsRecoverable own geometry s image k
  -- no claimed block is shadowed by the image's list, nor by one that stopped recoveries leave
  pub clear : (b : Block) → claims s k b ≡ true → is_shadowed (list_of s image) b ≡ false
  pub stopped : (list : List Entry) (at : SectorBytes) → IsStopped geometry (member s.window k) (s.window.was_torn k) (list_of s image) image.sectors list at → (b : Block) → claims s k b ≡ true → is_shadowed list b ≡ false
  -- so it is recovered as it is in that content
  pub exact : (b : Block) → is_known own b ≡ true → claims s k b ≡ true → IsRecovered (list_of s image) image.sectors ((window_of s.window).before k) b

-- Each image that a crash may leave recovers to the content as many commits back as stand behind what recovery reads, on all that is claimed there.
pub record ClaimedRecovers : Type 0 where
  pub bytes : (geometry : Geometry) (s : Store) → IsSound geometry s → (image : Image) → MayLeave s image → RefinesClaimed geometry s image (commits_behind s image)
  pub contents : (own : ℕ → Bool) (geometry : Geometry) → IsVolume own geometry → (s : Store) → IsSound geometry s → (image : Image) → MayLeave s image → AreWhole image.sectors
      → RecoversClaimed own geometry s image (commits_behind s image)
