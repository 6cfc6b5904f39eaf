-- A log that is sound is so where it lies alike.
use Rattle.std.proofs.Common.{◌≡◌, ℕ, suc, ◌*◌, Bool, ◌||◌, List, Option, sym, ap, subst, ◌∙◌}
use mathlib.Core.Path.{fun_ext}
use Rattle.std.specs.Prelude.{unwrap_or}
use Rattle.std.specs.List.{list_any, range_with_len}
use Rattle.disk_model.specs.declared.block.Block.{Block}
use Rattle.disk_model.specs.Sectors.{sectors, sector_of, raw_from}
use Rattle.sector_device.specs.Disks.{is_within}
use Rattle.log_page.specs.declared.places.LogPlace.{LogPlace}
use Rattle.log_area.specs.Areas.{page_first}
use Rattle.store_model.specs.Geometry.{SectorBytes}
use Rattle.mounted_states.specs.image_open.LogPlaces.{LieAlike}
use Rattle.mounted_states.specs.image_open.Writing.{found_by}
use Rattle.mounted_states.specs.volume_mount.Mounts.{MountedVolume}
use Rattle.ring_laws.specs.PageBytes.{page_sector, raw_page}
use Rattle.ring_laws.specs.RestartPages.{said_restart}
use Rattle.txn_model.specs.Values.{is_own}
use Rattle.txn_mount.specs.Contents.{UpdatesKnown}
use Rattle.txn_mount.specs.Images.{OneIsNewer}
use Rattle.txn_mount.specs.Mountable.{IsFar}
use Rattle.volume_start.specs.Starts.{HasSoundLog}

module _ (p q : LogPlace) (alike : LieAlike p q) where
  page_alike : (k : ℕ) → page_sector p k ≡ page_sector q k
  unfolding page_sector
  page_alike k = ap (λ (o : Option ℕ). unwrap_or o 0) (alike.sectors (8 * k))

  raw_alike : (at : SectorBytes) (k : ℕ) → raw_page p at k ≡ raw_page q at k
  unfolding raw_page
  raw_alike at k = ap (λ (s : ℕ). raw_from at s 8) (page_alike k)

  first_alike : (k : ℕ) → page_first p k ≡ page_first q k
  first_alike k = ap (λ (o : Option ℕ). unwrap_or o 0) (alike.sectors (8 * k))

  own_alike : (found : List Block) → is_own p found ≡ is_own q found
  own_alike found = fun_ext (λ s.
      ap (λ (n : ℕ). list_any (λ k. is_within (page_first p k) 8 s) (range_with_len 0 n) || list_any (λ (b : Block). is_within b.first (sectors b.kind) s) found) alike.pages
      ∙ ap (λ (first : ℕ → ℕ). list_any (λ k. is_within (first k) 8 s) (range_with_len 0 q.pages) || list_any (λ (b : Block). is_within b.first (sectors b.kind) s) found) (fun_ext first_alike))

-- at this place
module _ (first : List (List ℕ)) (m : MountedVolume) (place : LogPlace) (alike : LieAlike place m.opened.place) (sound : HasSoundLog first m) where
  pub newer_there : OneIsNewer (said_restart (raw_page place (sector_of first) 0)) (said_restart (raw_page place (sector_of first) 1))
  newer_there =
      subst (λ (x : List ℕ). OneIsNewer (said_restart x) (said_restart (raw_page place (sector_of first) 1))) (sym (raw_alike place m.opened.place alike (sector_of first) 0))
      (subst (λ (x : List ℕ). OneIsNewer (said_restart (raw_page m.opened.place (sector_of first) 0)) (said_restart x)) (sym (raw_alike place m.opened.place alike (sector_of first) 1)) sound.newer)

  pub updates_there : UpdatesKnown (is_own place (found_by m.opened.geometry)) m.opened.state.log
  updates_there = subst (λ (own : ℕ → Bool). UpdatesKnown own m.opened.state.log) (sym (own_alike place m.opened.place alike (found_by m.opened.geometry))) sound.updates

  pub far_there : IsFar place (suc m.opened.state.next_lap)
  far_there = (let pages = alike.pages in rw pages sound.far)
