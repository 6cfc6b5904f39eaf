-- What a crash leaves of a store whose window holds states.
use Rattle.std.specs.Prelude.{◌≡◌, ◌⊎◌, ℕ, ◌^◌, ◌≤◌, List, length, Some, None}
use Rattle.disk_model.specs.Sectors.{sector_of}
use Rattle.disk_model.specs.Content.{Content, content_of}
use Rattle.sector_device.specs.Moments.{Changes, MayLeaveNow, LeftSince}
use Rattle.log_model.specs.declared.entry.Entry.{Entry}
use Rattle.log_model.specs.Logs.{recovered}
use Rattle.state_store.specs.log_page.declared.places.LogPlace.{LogPlace}
use Rattle.state_store.specs.log_page.declared.restart.Restart.{Restart}
use Rattle.state_store.specs.log_page.LiveLogs.{live_log}
use Rattle.state_store.specs.log_reading.Fronts.{chosen_in}
use Rattle.state_store.specs.state_model.declared.geometry.Geometry.{Geometry}
use Rattle.state_store.specs.volume_model.Volumes.{Volume}
use Rattle.state_store.specs.volume_state.Trees.{tree_of}
use Rattle.state_store.specs.plan_owners.States.{Stands}
use Rattle.state_store.specs.state_blocks.Needing.{AgreeOnNeeded}
use Rattle.state_store.specs.store_model.Geometry.{SectorBytes}
use Rattle.state_store.specs.store_claims.Windows.{StoreWindow}
use Rattle.state_store.specs.ring_laws.PageBytes.{raw_page}
use Rattle.state_store.specs.txn_model.Values.{StoreFacts}
use Rattle.state_store.specs.txn_laws.Windows.{HasWindow, RecoversWithin, During}
use Rattle.member_states.specs.Members.{VolumeBase, base_of, BearsFound, MemberIs, MembersAre}

-- Recovery of the image reads a list of entries, and what it makes of the image is a state: it is the one so many commits back on each block from which that is read, and so it
-- is a state of the same volume, with the same tree.
pub record RecoversToState (place : LogPlace) (base : VolumeBase) (w : StoreWindow) (image : SectorBytes) : Type 0 where
  pub restart : Restart
  pub chosen : chosen_in (raw_page place image 0) (raw_page place image 1) ≡ Some restart
  pub list : List Entry
  pub reads : live_log place.pages (raw_page place image) restart.oldest ≡ record { entries = list; foreign = None }
  pub back : ℕ
  pub within : back ≤ w.waiting
  pub volume : Volume
  pub member : MemberIs base w back volume
  pub agrees : AgreeOnNeeded (w.before back) (recovered (content_of image) list) volume
  pub stands : Stands (recovered (content_of image) list) base.geometry base.clusters volume
  pub tree : tree_of (recovered (content_of image) list) volume ≡ tree_of (w.before back) volume

-- Every image that a crash leaves of a store whose window holds states recovers to one of them, where it bears what lies in the blocks by which the log is found, and the volume and the image end before the block that stands past the end of every disk.
pub record CrashesLeaveStates : Type 0 where
  -- an image that recovers to a content of the window recovers to a state
  pub recovers : (place : LogPlace) (base : VolumeBase) (w : StoreWindow) (image : List (List ℕ)) → place.clusters ≤ 2 ^ 59 → length image ≤ 2 ^ 62 → BearsFound base (sector_of image) → MembersAre base w
      → RecoversWithin place base.own w (sector_of image) → RecoversToState place base w (sector_of image)
  -- between two calls: so does each that a crash may leave now
  pub at_return : (count : ℕ) (changes : Changes) (f : StoreFacts) (lies : Content) (g : Geometry) (clusters : ℕ) (w : StoreWindow) (image : List (List ℕ)) → f.place.clusters ≤ 2 ^ 59 → count ≤ 2 ^ 62 → BearsFound (base_of f lies g clusters) (sector_of image) → MembersAre (base_of f lies g clusters) w
      → HasWindow changes f w → MayLeaveNow count changes image → RecoversToState f.place (base_of f lies g clusters) w (sector_of image)
  -- inside a call: so does each that counts as left since t, unless it counted so before, by the window before the call or the one after it
  pub during : (count moment : ℕ) (old now : Changes) (f : StoreFacts) (lies : Content) (g : Geometry) (clusters : ℕ) (w v : StoreWindow) (t : ℕ) (image : List (List ℕ)) → f.place.clusters ≤ 2 ^ 59 → length image ≤ 2 ^ 62 → BearsFound (base_of f lies g clusters) (sector_of image) → MembersAre (base_of f lies g clusters) w
      → MembersAre (base_of f lies g clusters) v → During count moment old now f w v → t ≤ moment → LeftSince count now t image
      → LeftSince count old t image ⊎ (RecoversToState f.place (base_of f lies g clusters) w (sector_of image) ⊎ RecoversToState f.place (base_of f lies g clusters) v (sector_of image))
