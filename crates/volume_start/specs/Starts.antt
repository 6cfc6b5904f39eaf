-- A volume that is started.
use Rattle.std.specs.Prelude.{◌≡◌, ◌≢◌, ◌⊎◌, ℕ, suc, ◌*◌, ◌^◌, ◌≤◌, false, List, length, Option, Some, None, Ok, Err, IfSome}
use Rattle.host_base.specs.Causes.{HasFailed}
use Rattle.disk_model.specs.Sectors.{sector_of}
use Rattle.disk_model.specs.Content.{content_of}
use Rattle.sector_device.specs.Moments.{Changes, LeftSince}
use Rattle.device_view.specs.Devices.{KeepsDevice}
use Rattle.state_model.specs.declared.stream.Extents.{Extents}
use Rattle.log_page.specs.declared.places.LogPlace.{LogPlace}
use Rattle.log_reading.specs.Rings.{IsRingPlace}
use Rattle.mounted_states.specs.map_change.Parts.{MapParts, parts_of}
use Rattle.mounted_states.specs.volume_map.Maps.{volume_in}
use Rattle.file_puts.specs.declared.streams.VolumeStreams.{VolumeStreams}
use Rattle.file_puts.specs.Written.{AreStreamsOf}
use Rattle.mounted_states.specs.image_open.declared.refusal.Refusal.{Refusal}
use Rattle.mounted_states.specs.image_open.LogPlaces.{LieAlike}
use Rattle.mounted_states.specs.image_open.Writing.{found_by}
use Rattle.mounted_states.specs.volume_mount.declared.mounted.Mounted.{Mounted}
use Rattle.mounted_states.specs.volume_mount.Answers.{MountsAs}
use Rattle.mounted_states.specs.volume_mount.Mounts.{MountedVolume, upper_in, tree_in, mounted_of}
use Rattle.ring_laws.specs.PageBytes.{raw_page}
use Rattle.ring_laws.specs.RestartPages.{said_restart}
use Rattle.txn_model.specs.Values.{StoreFacts, is_own}
use Rattle.txn_model.specs.Told.{pages_end}
use Rattle.txn_mount.specs.Contents.{UpdatesKnown}
use Rattle.txn_mount.specs.Images.{OneIsNewer}
use Rattle.txn_mount.specs.Mountable.{IsFar}
use Rattle.txn_mount.specs.Mounts.{StaysRecovered}
use Rattle.txn_state.specs.States.{StateOf, facts_of}
use Rattle.txn_mount.specs.txn_core.Views.{present_on}
use Rattle.mounted_states.specs.Shown.{ShowsMounted}
use Rattle.mounted_states.specs.Starts.{BeginsWith}
use Rattle.mounted_states.specs.Ready.{MayBeChanged}
use Rattle.start_mounts.specs.crash_mounts.Mounting.{MountsTree}
use Rattle.volume_start.specs.declared.fault.StartFault.{StartFault}
use Rattle.volume_start.specs.declared.fault.StartFault.TheVariants.{Refused, Device, Memory, Unfit, Unknown}
use Rattle.volume_start.specs.Fitting.{FitsStart}
use Rattle.volume_start.specs.Streams.{HasPlacedBits}

-- The session of a store that was mounted where this volume was begins at the lap that a mount by the volume's log begins, with no page yet; its log lies as a ring where the volume's lies, and has as many pages.
pub record BeginsLog (m : MountedVolume) (f : StoreFacts) : Type 0 where
  pub alike : LieAlike f.place m.opened.place
  pub ring : IsRingPlace f.place
  pub lap : f.log.lap ≡ m.opened.state.next_lap
  pub pages : f.log.pages ≡ f.place.pages
  pub empty : pages_end f ≡ 0

-- The first sectors were mounted as this volume. It begins at rest over the store, on a device that gives these sectors then, with this map, this table of upper-case units and these streams, and has what operations ask that
-- change it. Its clusters have eight sectors, what the store shows is the state that was mounted, and its session begins where the volume's log ends.
pub record IsStarted (count : ℕ) (first : List (List ℕ)) (gave : Option (List (List ℕ))) (now : Changes) (state : StateOf) (p : MapParts) (table : List ℕ) (s : VolumeStreams) : Type 0 where
  pub mounted : MountedVolume
  pub mounts : mounted_of first ≡ Ok mounted
  pub disk : List (List ℕ)
  pub given : gave ≡ Some disk
  pub map : p ≡ parts_of mounted.content mounted.volume
  pub table_is : table ≡ upper_in mounted
  pub begins : BeginsWith count first disk mounted now state p table
  pub may : MayBeChanged disk state p
  pub streams : AreStreamsOf p.volume s
  pub device : 8 * p.volume.clusters ≤ state.place.device
  pub eight : p.volume.per ≡ 8
  pub shows : ShowsMounted mounted (present_on disk (facts_of state))
  pub log : BeginsLog mounted (facts_of state)

-- so it is on a device whose disk was known before
abbrev pub StartsOn : {D : Type 0} → (D → Option (List (List ℕ))) → (D → ℕ) → (D → Changes) → (old new : D) → StateOf → MapParts → List ℕ → VolumeStreams → Type 0
StartsOn gives count changes old new state p table s = (first : List (List ℕ)) → gives old ≡ Some first → IsStarted (count new) first (gives new) (changes new) state p table s

-- What is so behind a start on any device, known or not: no transaction is open, each page of the log may be written where it lies, sectors have numbers up to 2^62, and what reads give is known then only where it was before.
pub record BeginsAnywhere (before now : Option (List (List ℕ))) (state : StateOf) : Type 0 where
  pub closed : state.is_open ≡ false
  pub ring : IsRingPlace state.place
  pub near : state.place.device ≤ 2 ^ 62
  pub unknown : before ≡ None → now ≡ None

-- a mount of its log would leave a body that recovery found, or the bits of its clusters don't lie in clusters
abbrev pub IsUnfit : Mounted → Type 0
IsUnfit mounted = (length mounted.opening.found.written.items ≢ length mounted.opening.found.recovered.blocks.bodies.items) ⊎ ((bitmap : Extents) → HasPlacedBits (volume_in mounted.map) bitmap → ⊥)

-- the sectors mount as such a volume
abbrev pub UnfitOn : List (List ℕ) → Type 0
UnfitOn first = (mounted : Mounted) × MountsAs (content_of (sector_of first)) (mounted_of first) (Ok mounted) × IsUnfit mounted

abbrev pub UnfitAs : List (List ℕ) → StartFault → Type 0
UnfitAs first fault = fault ≡ Unfit → UnfitOn first

-- the sectors mount as a volume of which no session may be written where its log lies, on a device of so many sectors
abbrev pub UnknownOn : ℕ → List (List ℕ) → Type 0
UnknownOn count first = (mounted : Mounted) × MountsAs (content_of (sector_of first)) (mounted_of first) (Ok mounted) × (FitsStart count mounted.opening.place → ⊥)

abbrev pub UnknownAs : ℕ → List (List ℕ) → StartFault → Type 0
UnknownAs count first fault = fault ≡ Unknown → UnknownOn count first

-- it is no refusal, and no failure of a device
abbrev pub IsInMemory : StartFault → Type 0
IsInMemory fault = (fault ≡ Memory) ⊎ ((fault ≡ Unfit) ⊎ (fault ≡ Unknown))

-- a refusal is that of the mount
abbrev pub RefusesAs : List (List ℕ) → StartFault → Type 0
RefusesAs first fault = (refusal : Refusal) → fault ≡ Refused refusal → mounted_of first ≡ Err refusal

-- ---- errors

-- Nothing was written: reads give the same of as many sectors, no write was begun, whatever a crash leaves since a moment of before could be left before, and neither the count of faults nor the moment fell.
pub record IsUnwritten {D : Type 0} (gives : D → Option (List (List ℕ))) (count : D → ℕ) (changes : D → Changes) (faults moment : D → ℕ) (old new : D) : Type 0 where
  pub same : gives new ≡ gives old
  pub sectors : count new ≡ count old
  pub writes : (changes new).writes ≡ (changes old).writes
  pub left : (n t : ℕ) (image : List (List ℕ)) → t ≤ moment old → LeftSince n (changes new) t image → LeftSince n (changes old) t image
  pub later : faults old ≤ faults new
  pub onwards : moment old ≤ moment new

-- What an error says that comes behind what a start has in memory, with the device that is given back: a failure is the device's, nothing was written unless it failed, and of a known device it is want of memory then.
pub record FailsBehind {D : Type 0} (gives : D → Option (List (List ℕ))) (count : D → ℕ) (changes : D → Changes) (faults moment : D → ℕ) (old : D) (e : StartFault × D) : Type 0 where
  pub fault : e.0 ≡ Device → HasFailed (faults old) (faults e.1) (moment e.1)
  pub unwritten : e.0 ≢ Device → IsUnwritten gives count changes faults moment old e.1
  pub known : IfSome (gives old) (λ first. (e.0 ≡ Device) ⊎ (e.0 ≡ Memory))

-- What an error of a start says, with the device that it gives back. A failure is the device's, a refusal the mount's; the volume is mounted that is unfit, or of which no session may be written. Nothing was written unless the device failed,
-- and a known device was only read, but where memory was wanting behind its sync.
pub record FailsStart {D : Type 0} (gives : D → Option (List (List ℕ))) (count : D → ℕ) (changes : D → Changes) (faults moment : D → ℕ) (old : D) (e : StartFault × D) : Type 0 where
  pub fault : e.0 ≡ Device → HasFailed (faults old) (faults e.1) (moment e.1)
  pub refused : IfSome (gives old) (λ first. RefusesAs first e.0)
  pub unknown : IfSome (gives old) (λ first. UnknownAs (count old) first e.0)
  pub unfit : IfSome (gives old) (λ first. UnfitAs first e.0)
  pub unwritten : e.0 ≢ Device → IsUnwritten gives count changes faults moment old e.1
  pub read : IfSome (gives old) (λ first. e.0 ≢ Device → e.0 ≢ Memory → KeepsDevice gives count changes faults moment old e.1)

-- ---- crashes

-- The log of the volume that was mounted from these sectors is sound: of its restart pages one is the newer, it updates blocks alone that a store may change, and the lap behind the next one isn't near the end of the laps.
pub record HasSoundLog (first : List (List ℕ)) (m : MountedVolume) : Type 0 where
  pub newer : OneIsNewer (said_restart (raw_page m.opened.place (sector_of first) 0)) (said_restart (raw_page m.opened.place (sector_of first) 1))
  pub updates : UpdatesKnown (is_own m.opened.place (found_by m.opened.geometry)) m.opened.state.log
  pub far : IsFar m.opened.place (suc m.opened.state.next_lap)

-- Each image of so many sectors that a crash could leave since a moment up to this one could be left before; or it mounts as the tree that was mounted from the first sectors, where the log of these is sound. Wherever nothing was unsynced
-- before, it recovers alike then: by the volume's log, of which a mount that writes finds the new session.
pub record StaysMounted (count moment : ℕ) (first : List (List ℕ)) (old now : Changes) (m : MountedVolume) : Type 0 where
  pub mounts : HasSoundLog first m → (t : ℕ) (image : List (List ℕ)) → t ≤ moment → LeftSince count now t image → LeftSince count old t image ⊎ MountsTree image (tree_in m)
  pub place : LogPlace
  pub alike : LieAlike place m.opened.place
  pub recovers : StaysRecovered moment place (found_by m.opened.geometry) old now

-- so it is on sectors that mount
abbrev pub StaysStarted : (count moment : ℕ) → List (List ℕ) → Changes → Changes → Type 0
StaysStarted count moment first old now = (m : MountedVolume) → mounted_of first ≡ Ok m → StaysMounted count moment first old now m
