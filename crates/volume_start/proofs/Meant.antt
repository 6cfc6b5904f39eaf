-- What was mounted, and what its log says at the place of a plan.
use Rattle.std.proofs.Common.{◌≡◌, ℕ, Bool, false, List, length, Result, Ok, Err, refl, sym, ap, subst, ◌∙◌}
use Rattle.disk_model.specs.declared.block.Block.{Block}
use Rattle.disk_model.specs.Sectors.{sector_of}
use Rattle.disk_model.specs.Content.{Content, content_of}
use Rattle.volume_model.specs.Volumes.{Volume, record_bits, cluster_bits}
use Rattle.mounted_states.specs.volume_map.declared.head.Head.{Head}
use Rattle.mounted_states.specs.volume_map.Heads.{heads_of}
use Rattle.mounted_states.specs.volume_map.Maps.{volume_in}
use Rattle.mounted_states.specs.map_change.Parts.{MapParts, parts_of, parts_in, geometry_in}
use Rattle.log_page.specs.declared.places.LogPlace.{LogPlace}
use Rattle.log_area.specs.Areas.{new_area}
use Rattle.log_recovery.specs.Writing.{to_write_in}
use Rattle.mounted_states.specs.image_open.declared.refusal.Refusal.{Refusal}
use Rattle.mounted_states.specs.image_open.LogPlaces.{LieAlike}
use Rattle.mounted_states.specs.image_open.Writing.{found_by}
use Rattle.mounted_states.proofs.image_open.Alike.{to_write_alike}
use Rattle.mounted_states.specs.volume_mount.declared.mounted.Mounted.{Mounted}
use Rattle.mounted_states.specs.volume_mount.Mounts.{MountedVolume, mounted_of}
use Rattle.mounted_states.specs.volume_mount.Answers.{IsMounted as IsVolumeMounted, IsMountedAs}
use Rattle.txn_model.specs.Values.{StoreFacts}
use Rattle.txn_model.specs.Calls.{first_facts}
use Rattle.txn_mount.specs.Contents.{stays_torn}
use Rattle.mounted_states.specs.found_stays.Found.{AreOffLog}
use Rattle.mounted_states.specs.safe_blocks.Safe.{IsStoreOf, MountsHoldStates}
use Rattle.mounted_states.specs.Shown.{AllPutOut}
use Rattle.mounted_states.specs.Calls.{FoundLieOff}
use Rattle.mounted_states.proofs.Opened.{mounted_parts, on_sectors}
use Rattle.volume_start.specs.declared.plan.StartPlan.{StartPlan}
use Rattle.volume_start.specs.Fitting.{FitsStart}
use Rattle.volume_start.specs.Plans.{PlansOn}

-- the volume that is meant
pub record Meant (first : List (List ℕ)) (mounted : Mounted) : Type 0 where
  pub meant : MountedVolume
  pub is : mounted_of first ≡ Ok meant
  pub mounts : IsVolumeMounted (content_of (sector_of first)) meant mounted

pub meant_by : (first : List (List ℕ)) (mounted : Mounted) (r : Result MountedVolume Refusal) → mounted_of first ≡ r → IsMountedAs (content_of (sector_of first)) r mounted → Meant first mounted
meant_by first mounted (Ok m) is mounts = record { meant = m; is = is; mounts = mounts }
meant_by first mounted (Err e) is mounts = absurd mounts

parts_with : Volume → List Head → List Bool → List Bool → MapParts
parts_with v heads records clusters = record { volume = v; heads = heads; records = records; clusters = clusters }

-- its map is that of the recovered content
pub map_of_meant : (c : Content) (m : MountedVolume) (mounted : Mounted) → IsVolumeMounted c m mounted → parts_in mounted.map ≡ parts_of m.content m.volume
unfolding parts_with
map_of_meant c m mounted is =
    let v = volume_in mounted.map in
    let own : parts_with v mounted.map.heads.items mounted.map.record_bits mounted.map.cluster_bits ≡ parts_with v (heads_of m.content v) (record_bits m.content v) (cluster_bits m.content v) =
    ap (λ (h : List Head). parts_with v h mounted.map.record_bits mounted.map.cluster_bits) is.parts.heads
    ∙ ap (λ (r : List Bool). parts_with v (heads_of m.content v) r mounted.map.cluster_bits) is.parts.records
    ∙ ap (λ (b : List Bool). parts_with v (heads_of m.content v) (record_bits m.content v) b) is.parts.clusters
    in
    own ∙ ap (parts_of m.content) is.volume

module _ (law : MountsHoldStates) (first : List (List ℕ)) (plan : StartPlan) (count : ℕ) (fits : FitsStart count plan.place) (on : PlansOn first plan) where
  pub found_meant : Meant first on.mounted
  found_meant = meant_by first on.mounted (mounted_of first) refl on.mounts

  pub alike : LieAlike plan.place found_meant.meant.opened.place
  alike = subst (λ (p : LogPlace). LieAlike p found_meant.meant.opened.place) (sym on.of.place) found_meant.mounts.opened.place

  abbrev as_meant : StoreFacts
  as_meant = first_facts plan.place (new_area plan.place 0 0 0) (found_by found_meant.meant.opened.geometry)

  volume_is : parts_in plan.live.map ≡ parts_in on.mounted.map
  volume_is = ap parts_in on.of.live

  geometry_is : geometry_in plan.live.map ≡ found_meant.meant.opened.geometry
  geometry_is =
      let map = volume_is ∙ map_of_meant (content_of (sector_of first)) found_meant.meant on.mounted found_meant.mounts in
      (law.geometry (content_of (sector_of first)) (length first) found_meant.meant as_meant (parts_in plan.live.map) (on_sectors first found_meant.meant found_meant.is) (record { place = alike; found = refl; small = fits.ring.small }) (ap (λ (q : MapParts). q.volume) map)).0

  pub kept_is : plan.kept.items ≡ found_by found_meant.meant.opened.geometry
  kept_is = on.of.kept ∙ ap (λ x. found_by (geometry_in x)) (sym on.of.live) ∙ ap found_by geometry_is

  pub reads : to_write_in (content_of (sector_of first)) plan.place plan.kept.items ≡ Ok found_meant.meant.opened.state
  reads =
      ap (to_write_in (content_of (sector_of first)) plan.place) kept_is
      ∙ to_write_alike (content_of (sector_of first)) plan.place found_meant.meant.opened.place alike (found_by found_meant.meant.opened.geometry)
      ∙ (mounted_parts (content_of (sector_of first)) (length first) found_meant.meant (on_sectors first found_meant.meant found_meant.is)).read

  -- ---- the blocks by which the log is found

  is_store : IsStoreOf as_meant found_meant.meant
  is_store = record { place = alike; found = refl; small = fits.ring.small }

  -- they lie off it
  pub off_plan : FoundLieOff → AreOffLog plan.place plan.kept.items
  off_plan off_law = subst (AreOffLog plan.place) (sym kept_is) (off_law (content_of (sector_of first)) (length first) found_meant.meant as_meant (on_sectors first found_meant.meant found_meant.is) is_store)

  -- a mount puts out each body that recovery found
  pub none_torn : AllPutOut → (b : Block) → stays_torn (content_of (sector_of first)) found_meant.meant.opened.state.log b ≡ false
  none_torn out_law b = out_law (content_of (sector_of first)) found_meant.meant.opened.state on.mounted.opening.found found_meant.mounts.opened.found on.of.out b
