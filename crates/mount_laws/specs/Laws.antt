-- What is known of the log of a mounted volume.
use Rattle.std.specs.Prelude.{◌≡◌, ℕ, ◌*◌, ◌^◌, ◌<◌, true, List, ◌++◌, is_some, Some, Ok}
use Rattle.disk_model.specs.Content.{Content}
use Rattle.record_model.specs.declared.attribute.Attr.{Attr}
use Rattle.record_model.specs.Records.{Record}
use Rattle.volume_mount.specs.state_model.declared.geometry.Geometry.{Geometry}
use Rattle.volume_mount.specs.state_model.Loads.{data_stream}
use Rattle.volume_mount.specs.volume_model.Volumes.{Volume, file_in, log_file}
use Rattle.plan_owners.specs.States.{Stands}
use Rattle.log_laws.specs.log_page.declared.places.LogPlace.{LogPlace}
use Rattle.volume_mount.specs.log_reading.LogPages.{log_sector}
use Rattle.volume_mount.specs.log_reading.Rings.{IsRingPlace}
use Rattle.volume_mount.specs.image_open.LogPlaces.{place_of_log, LieAlike}
use Rattle.volume_mount.specs.image_read.Checks.{has_version}
use Rattle.volume_mount.specs.Boot.{KeepsBoot}
use Rattle.volume_mount.specs.Mounts.{has_no_journal, has_pages, may_be_changed, MountedVolume, upper_in, mounted_in}

-- each page of the log of a mounted volume lies in one cluster of it, all of it is initialised, and no sector is that of two places in it
abbrev pub MountedOnRing : Type 0
MountedOnRing = (c : Content) (sectors : ℕ) (m : MountedVolume) (place : LogPlace) → mounted_in c sectors ≡ Ok m → LieAlike place m.opened.place → place.pages < 2 ^ 52 → IsRingPlace place

-- The content is a state with this volume, in clusters of eight sectors. The log lies where the volume's record 2 says by itself, without what an attribute list of it names, and each of its
-- sectors is there.
pub record LiesByRecord (sectors : ℕ) (c : Content) (g : Geometry) (total : ℕ) (place : LogPlace) (v : Volume) : Type 0 where
  pub eight : g.per_cluster ≡ 8
  pub stands : Stands c g total v
  pub file : Record
  pub is_file : file_in v log_file ≡ Some file
  pub base : Record
  pub more : List Attr
  pub attrs : file.attrs ≡ base.attrs ++ more
  pub lies : place ≡ place_of_log 8 total sectors (data_stream base)
  pub there : (n : ℕ) → n < 8 * place.pages → is_some (log_sector place n) ≡ true

-- so does that of a mounted volume
abbrev pub MountedByRecord : Type 0
MountedByRecord = (c : Content) (sectors : ℕ) (m : MountedVolume) → mounted_in c sectors ≡ Ok m → m.opened.place.pages < 2 ^ 52 → LiesByRecord sectors m.content m.opened.geometry m.opened.total m.opened.place m.volume

-- A mounted volume is of the version that is handled, has no change journal, and a log with the pages that it needs; and may be changed: the log's pages lie on the device, each
-- attribute list has one piece, and no stream but $Boot's data has the first cluster, whose bit is set.
pub record PassesMount (m : MountedVolume) : Type 0 where
  pub version : has_version m.volume ≡ Ok tt
  pub journal : has_no_journal (upper_in m) m.volume ≡ Ok tt
  pub pages : has_pages m.opened.place ≡ Ok tt
  pub change : may_be_changed m.opened.place m.content m.volume ≡ Ok tt
  pub boot : KeepsBoot m.content m.volume

abbrev pub MountedPasses : Type 0
MountedPasses = (c : Content) (sectors : ℕ) (m : MountedVolume) → mounted_in c sectors ≡ Ok m → m.opened.place.pages < 2 ^ 52 → PassesMount m
