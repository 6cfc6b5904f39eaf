-- Windows that follow one another: which contents stay, and what that says of images that were left since a moment.
use Rattle.std.specs.Prelude.{◌≡◌, ◌⊎◌, ℕ, ◌+◌, ◌<◌, ◌≤◌, Bool, true, false, ◌||◌, List, [], Some, None}
use Rattle.area_laws.specs.disk_model.declared.block.Block.{Block}
use Rattle.area_laws.specs.log_model.declared.entry.Entry.{Entry}
use Rattle.area_laws.specs.log_model.Logs.{is_shadowed}
use Rattle.area_laws.specs.log_page.declared.places.LogPlace.{LogPlace}
use Rattle.area_laws.specs.log_page.declared.restart.Restart.{Restart}
use Rattle.area_laws.specs.log_page.LiveLogs.{live_log}
use Rattle.area_laws.specs.log_page.Restarts.{is_clean}
use Rattle.area_laws.specs.log_reading.Fronts.{chosen_in}
use Rattle.store_claims.specs.store_model.Geometry.{SectorBytes}
use Rattle.store_claims.specs.store_model.Volumes.{is_known, IsRecovered, RecoversToContent}
use Rattle.store_claims.specs.Windows.{StoreWindow}
use Rattle.area_laws.specs.ring_laws.PageBytes.{raw_page}
use Rattle.txn_laws.specs.Windows.{RecoversWithin, AfterBegin, AfterChange, AfterCommit, AfterGiveUp, AfterWrite, MovesTo}

-- So many commits came, and some blocks' bodies were dropped: of each other block, each content that is left is one of before, or newer.
pub record Follows (commits : ℕ) (lost : Block → Bool) (old new : StoreWindow) : Type 0 where
  pub waiting : new.waiting ≤ commits + old.waiting
  pub others : (k : ℕ) (b : Block) → commits + k ≤ new.waiting → lost b ≡ false → (k ≤ old.waiting) × (new.before (commits + k) b ≡ old.before k b)

-- The image recovers to the content after a commit since an earlier moment, whose window was the old one; or, on the blocks that were spared since, to a content of
-- that window, and so to one no older than what was known durable then.
pub record RecoversSince (place : LogPlace) (own : ℕ → Bool) (commits : ℕ) (lost : Block → Bool) (old new : StoreWindow) (image : SectorBytes) : Type 0 where
  pub restart : Restart
  pub chosen : chosen_in (raw_page place image 0) (raw_page place image 1) ≡ Some restart
  pub list : List Entry
  pub reads : live_log place.pages (raw_page place image) restart.oldest ≡ record { entries = list; foreign = None }
  pub closed : is_clean restart ≡ true → list ≡ []
  pub recovers : ((k : ℕ) × (k < commits) × (k ≤ new.waiting) × RecoversToContent own list image (new.before k))
      ⊎ ((k : ℕ) × (k ≤ old.waiting) × ((b : Block) → lost b ≡ false → is_known own b ≡ true → is_shadowed list b ≡ false → IsRecovered list image (old.before k) b))

pub record WindowsFollow : Type 0 where
  -- what each call does to the window
  pub write : (old new : StoreWindow) → AfterWrite old new → Follows 0 (λ b. false) old new
  pub begin : (old new : StoreWindow) → AfterBegin old new → Follows 0 (λ b. false) old new
  pub change : (c : Block) (at : ℕ) (put : List ℕ) (old new : StoreWindow) → AfterChange c at put old new → Follows 0 (λ b. false) old new
  pub commit : (old new : StoreWindow) → AfterCommit old new → Follows 1 (λ b. false) old new
  pub give_up : (old new : StoreWindow) → AfterGiveUp old new → Follows 0 (λ b. false) old new
  pub move : (lost : Block → Bool) (old new : StoreWindow) → MovesTo lost old new → Follows 0 lost old new
  -- one call behind another
  pub joined : (m n : ℕ) (lost gone : Block → Bool) (old mid new : StoreWindow) → Follows m lost old mid → Follows n gone mid new → Follows (n + m) (λ b. lost b || gone b) old new
  -- an image that recovers to a content of the window that followed
  pub since : (place : LogPlace) (own : ℕ → Bool) (commits : ℕ) (lost : Block → Bool) (old new : StoreWindow) (image : SectorBytes) → Follows commits lost old new → RecoversWithin place own new image
      → RecoversSince place own commits lost old new image
