-- What a crash leaves of a device that holds a store and its log, and that it recovers.
use Rattle.std.specs.Prelude.{◌≡◌, ◌⊎◌, ℕ, ◌<◌, ◌≤◌, Bool, true, false, List, Some, None}
use Rattle.log_reading.specs.disk_model.declared.block.Block.{Block}
use Rattle.log_reading.specs.disk_model.Content.{Content, content_of}
use Rattle.store_model.specs.fixup_record.Spellings.{has_spelling}
use Rattle.store_model.specs.log_model.declared.entry.Entry.{Entry}
use Rattle.store_model.specs.log_model.Logs.{is_shadowed, is_other, is_written_out, first_partial}
use Rattle.log_reading.specs.log_page.declared.restart.Restart.{Restart}
use Rattle.log_reading.specs.log_page.LiveLogs.{live_log}
use Rattle.log_reading.specs.Fronts.{chosen_in}
use Rattle.store_model.specs.sector_device.Disks.{Disk}
use Rattle.store_model.specs.Logs.{has_update}
use Rattle.store_model.specs.Geometry.{SectorBytes, CanLeave, Geometry}
use Rattle.store_model.specs.Stores.{Store, IsSound}
use Rattle.store_model.specs.Volumes.{is_known, IsVolume, AreWhole, RecoversToContent, IsRecovered, BearsContent, window_of, mounted_on}
use Rattle.store_model.specs.Runs.{Run, Spares}
use Rattle.ring_laws.specs.Numbers.{LogSession}
use Rattle.ring_laws.specs.PageBytes.{raw_page}
use Rattle.ring_laws.specs.StoreDisks.{disk_without}
use Rattle.ring_laws.specs.StoreLogs.{LogNumbers, HoldsLog, IsOfLog}

-- A crash left this of a device: recovery chooses a restart page, reads a list of entries from its oldest place on, and no entry of another shape, and leaves
-- the known blocks that the list doesn't shadow as they are in a content of the store's window.
pub record ImageRecovers (own : ℕ → Bool) (s : LogSession) (l : LogNumbers) (store : Store) (image : SectorBytes) : Type 0 where
  pub restart : Restart
  pub chosen : chosen_in (raw_page s.place image 0) (raw_page s.place image 1) ≡ Some restart
  pub list : List Entry
  pub of_log : IsOfLog l restart list
  pub reads : live_log s.place.pages (raw_page s.place image) restart.oldest ≡ record { entries = list; foreign = None }
  pub back : ℕ
  pub within : back ≤ (window_of store.window).waiting
  pub recovers : RecoversToContent own list image ((window_of store.window).before back)
  -- the list updates known blocks alone; it isn't refused for a block that it covers in part, and what recovery writes out are known blocks, whose recovered
  -- bodies have a spelling
  pub updates : (b : Block) → has_update list b ≡ true → is_known own b ≡ true
  pub no_partial : first_partial (content_of image) list ≡ None
  pub known : (b : Block) → is_written_out (content_of image) list b ≡ true → is_known own b ≡ true
  pub spelled : (b : Block) → is_written_out (content_of image) list b ≡ true → is_other (content_of image) list b ≡ true → has_spelling b.kind ((window_of store.window).before back b).bytes ≡ true

-- whatever a crash leaves of a device that holds a sound store and its log recovers
abbrev pub ImagesRecover : Type 0
ImagesRecover = (own : ℕ → Bool) (geometry : Geometry) → IsVolume own geometry → (s : LogSession) (l : LogNumbers) (store : Store) (disk : Disk) → IsSound geometry store → HoldsLog s l store disk → store.disk ≡ disk_without own disk
    → (image : SectorBytes) → CanLeave disk image → AreWhole image → ImageRecovers own s l store image

-- The image recovers to the content after a commit since an earlier moment, when the store was s; or, on the blocks that were spared since, to one of the window of
-- that moment.
pub record ImageRecoversSince (own : ℕ → Bool) (geometry : Geometry) (g : LogSession) (l : LogNumbers) (s : Store) (n : ℕ) (t : Store) (run : Run geometry s n t) (image : SectorBytes) : Type 0 where
  pub restart : Restart
  pub chosen : chosen_in (raw_page g.place image 0) (raw_page g.place image 1) ≡ Some restart
  pub list : List Entry
  pub of_log : IsOfLog l restart list
  pub reads : live_log g.place.pages (raw_page g.place image) restart.oldest ≡ record { entries = list; foreign = None }
  pub recovers : ((k : ℕ) × (k < n) × (k ≤ (window_of t.window).waiting) × RecoversToContent own list image ((window_of t.window).before k))
      ⊎ ((k : ℕ) × (k ≤ (window_of s.window).waiting) × ((b : Block) → Spares geometry s n t run b → is_known own b ≡ true → is_shadowed list b ≡ false → IsRecovered list image ((window_of s.window).before k) b))

-- whatever was done since a mount, and since any moment behind it
abbrev pub ImagesRecoverSince : Type 0
ImagesRecoverSince = (own : ℕ → Bool) (geometry : Geometry) → IsVolume own geometry → (tx : ℕ) (content : Content) (mounted : Disk) → BearsContent own mounted content
    → (m n : ℕ) (t u : Store) → Run geometry (mounted_on tx content mounted) m t → (run : Run geometry t n u) → (s : LogSession) (l : LogNumbers) (disk : Disk) → HoldsLog s l u disk → u.disk ≡ disk_without own disk
    → (image : SectorBytes) → CanLeave disk image → AreWhole image → ImageRecoversSince own geometry s l t n u run image
