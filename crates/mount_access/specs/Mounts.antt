-- A volume as it is mounted to look at it, for its journal, or for a change; or the first refusal that applies.
use Rattle.std.specs.Prelude.{ℕ, List, Result, Ok}
use Rattle.host_base.specs.Answers.{◌>>=◌}
use Rattle.disk_model.specs.declared.block.Block.{Block}
use Rattle.disk_model.specs.Content.{Content}
use Rattle.state_model.specs.declared.geometry.Geometry.{Geometry}
use Rattle.boot_sector.specs.declared.boot.Boot.{Boot}
use Rattle.boot_sector.specs.BootSectors.{clusters}
use Rattle.log_page.specs.declared.places.LogPlace.{LogPlace}
use Rattle.log_reading.specs.declared.fault.LogRefusal.{LogRefusal}
use Rattle.log_recovery.specs.LogStates.{LogState, recovery_in}
use Rattle.log_recovery.specs.Recovering.{shadow_lsn}
use Rattle.log_recovery.specs.Writing.{to_write_in}
use Rattle.volume_mount.specs.image_open.declared.refusal.Refusal.{Refusal}
use Rattle.volume_mount.specs.image_open.Errors.{log_refusal, refused_as}
use Rattle.volume_mount.specs.image_open.Clusters.{clusters_in}
use Rattle.volume_mount.specs.image_open.Volumes.{boot_on, geometry_of, log_record, log_place, on_disk}
use Rattle.volume_mount.specs.image_open.Writing.{OpenedToWrite, found_by}
use Rattle.volume_mount.specs.image_read.Checks.{volume_on, has_version, tree_on}
use Rattle.volume_mount.specs.image_read.Records.{place_on}
use Rattle.volume_mount.specs.Mounts.{MountedVolume, upper_in, content_behind, mounted_as, has_no_journal, has_pages, may_be_changed, unshadowed}
use Rattle.mount_access.specs.declared.access.Access.{Access}
use Rattle.mount_access.specs.declared.access.Access.TheVariants.{Look, Journal, Change}

-- ---- how it is opened

-- a cluster of a volume that is to be changed has eight sectors
abbrev pub has_clusters : Access → Content → Result (Unit {0}) Refusal
has_clusters Look c = Ok tt
has_clusters Journal c = Ok tt
has_clusters Change c = clusters_in c

-- what the log at this place says; that of a volume which is to be changed is refused too by a block that a mount would write out and may not
abbrev pub log_for : Access → Content → LogPlace → List Block → Result LogState LogRefusal
log_for Look c place kept = recovery_in c place
log_for Journal c place kept = recovery_in c place
log_for Change c place kept = to_write_in c place kept

-- where the file table lies, its clusters, where its log lies, and what this says
abbrev pub opened_as : Geometry → ℕ → LogPlace → LogState → OpenedToWrite
opened_as g total place state = record { geometry = g; total = total; place = place; state = state }

-- a volume of so many clusters whose log lies at this place
unfoldable pub opened_at_for : Access → Content → Geometry → ℕ → LogPlace → Result OpenedToWrite Refusal
opened_at_for how c g total place = refused_as log_refusal (log_for how c place (found_by g)) >>= λ state. Ok (opened_as g total place state)

-- the same where record 2 says that it lies, on a device of so many sectors
unfoldable pub opened_of_for : Access → Content → Geometry → ℕ → ℕ → Result OpenedToWrite Refusal
opened_of_for how c g total sectors = log_record c g >>= λ file. opened_at_for how c g total (log_place g total sectors file)

-- a volume with this boot sector
unfoldable pub opened_with_for : Access → Content → ℕ → Boot → Result OpenedToWrite Refusal
opened_with_for how c sectors b = opened_of_for how c (geometry_of b) (clusters b) sectors

-- the volume on a device of so many sectors; or what refuses its clusters, its boot sector, its record 2 or its log
unfoldable pub opened_for : Access → Content → ℕ → Result OpenedToWrite Refusal
opened_for how c sectors = has_clusters how c >>= λ _. boot_on c sectors >>= opened_with_for how c sectors

-- ---- what it is tried by

-- it breaks none of the nine rules
abbrev pub keeps_rules : MountedVolume → Result (Unit {0}) Refusal
keeps_rules m = tree_on m.content m.volume >>= λ _. Ok tt

-- it has a change journal whose records can be read
abbrev pub has_journal : MountedVolume → Result (Unit {0}) Refusal
has_journal m = place_on m.content m.volume >>= λ _. Ok tt

-- no live block is shadowed by its log
abbrev pub has_no_shadow : MountedVolume → Result (Unit {0}) Refusal
has_no_shadow m = unshadowed (shadow_lsn m.opened.state.log) m.volume >>= λ _. Ok tt

-- The tests of a volume that is loaded, in their order.
unfoldable pub tried_for : Access → MountedVolume → Result (Unit {0}) Refusal
tried_for Look m = has_version m.volume >>= λ _. keeps_rules m
tried_for Journal m = has_version m.volume >>= λ _. has_journal m >>= λ _. keeps_rules m
tried_for Change m =
    has_version m.volume >>= λ _. has_no_journal (upper_in m) m.volume >>= λ _. has_pages m.opened.place >>= λ _. keeps_rules m
    >>= λ _. may_be_changed m.opened.place m.content m.volume >>= λ _. has_no_shadow m

-- ---- what is mounted

-- a volume that passes them
abbrev pub passed : Access → MountedVolume → Result MountedVolume Refusal
passed how m = tried_for how m >>= λ _. Ok m

-- a volume that was opened, loaded from its recovered content
unfoldable pub loaded_for : Access → Content → OpenedToWrite → Result MountedVolume Refusal
loaded_for how c o = volume_on (content_behind c o) o.geometry o.total >>= λ v. passed how (mounted_as c o v)

-- the mounted volume of a content on a device of so many sectors
unfoldable pub mounted_in_for : Access → Content → ℕ → Result MountedVolume Refusal
mounted_in_for how c sectors = opened_for how c sectors >>= loaded_for how c

-- The volume on these sectors, mounted for this: how it was opened, its recovered content and what was loaded from this; or the first
-- refusal that applies.
unfoldable pub mounted_for : Access → List (List ℕ) → Result MountedVolume Refusal
mounted_for how disk = on_disk (mounted_in_for how) disk
