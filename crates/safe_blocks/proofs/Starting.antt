-- The window of a store at its start over a mounted volume holds the state of this volume.
use Rattle.std.proofs.Common.{◌≡◌, ℕ, ◌^◌, ◌<◌, ◌≤◌, Bool, List, length, Result, Ok, refl, sym, ap, subst, ◌∙◌}
use Rattle.std.specs.Prelude.{true}
use Rattle.host_base.specs.Answers.{◌>>=◌}
use Rattle.disk_model.specs.declared.block.Block.{Block}
use Rattle.disk_model.specs.Sectors.{sector_of}
use Rattle.disk_model.specs.Content.{Content, content_of}
use Rattle.sector_device.specs.Moments.{Changes}
use Rattle.record_model.proofs.Answering.{steps_from_ok}
use Rattle.log_page.specs.declared.places.LogPlace.{LogPlace}
use Rattle.state_model.specs.declared.geometry.Geometry.{Geometry}
use Rattle.volume_model.specs.Volumes.{Volume, cluster_bits}
use Rattle.stream_laws.proofs.Rewriting.{volume_parts}
use Rattle.spares_at_mount.specs.map_change.Parts.{MapParts}
use Rattle.spares_at_mount.specs.state_store.Volumes.{geometry_of}
use Rattle.volume_model.specs.Indexes.{void_block}
use Rattle.spares_at_mount.specs.plan_owners.States.{Stands}
use Rattle.spares_at_mount.specs.image_open.declared.refusal.Refusal.{Refusal}
use Rattle.spares_at_mount.specs.volume_mount.Boot.{keeps_boot}
use Rattle.spares_at_mount.specs.volume_mount.Mounts.{pages_lie, has_single_lists, changeable, MountedVolume, mounted_in}
use Rattle.spares_at_mount.specs.mount_laws.Laws.{MountedOnRing, LiesByRecord, MountedByRecord, MountedPasses}
use Rattle.spares_at_mount.proofs.Lying.{lies_in_log, alike_lies}
use Rattle.spares_at_mount.specs.txn_model.Values.{StoreFacts}
use Rattle.spares_at_mount.specs.txn_laws.Windows.{HasStart}
use Rattle.member_states.specs.Members.{base_of, is_found, void_body, MembersAre}
use Rattle.member_states.proofs.Starting.{holds_content}
use Rattle.member_states.proofs.Recovering.{void_is}
use Rattle.safe_blocks.specs.Safe.{SuitsStore, IsStoreOf}
use Rattle.safe_blocks.proofs.Listing.{own_lists}
use Rattle.safe_blocks.proofs.Blocks.{is_safe}

abbrev geometry_with : ℕ → ℕ → Geometry
geometry_with per mft = record { per_cluster = per; mft = mft }

unit_is : (r : Result (Unit {0}) Refusal) (x : Unit {0}) → r ≡ Ok x → r ≡ Ok tt
unit_is r tt is = is

-- what a volume that may be changed shows
asked : (place : LogPlace) (bits : List Bool) (v : Volume) → changeable place bits v ≡ Ok tt → has_single_lists v ≡ Ok tt
unfolding changeable
asked place bits v is =
    let lying = steps_from_ok (pages_lie place v) (λ _. has_single_lists v >>= λ _. keeps_boot bits v) tt is in
    let lists = steps_from_ok (has_single_lists v) (λ _. keeps_boot bits v) tt lying.2 in
    unit_is (has_single_lists v) lists.0 lists.1

module _ (by_record : MountedByRecord) (on_ring : MountedOnRing) (passes : MountedPasses) (c : Content) (sectors : ℕ) (m : MountedVolume) where
  module _ (f : StoreFacts) (is : mounted_in c sectors ≡ Ok m) (store : IsStoreOf f m) where
    small : m.opened.place.pages < 2 ^ 52
    small = subst (λ (n : ℕ). n < 2 ^ 52) store.place.pages store.small

    found_record : LiesByRecord sectors m.content m.opened.geometry m.opened.total m.opened.place m.volume
    found_record = by_record c sectors m is small

    shown : has_single_lists m.volume ≡ Ok tt
    shown = asked m.opened.place (cluster_bits m.content m.volume) m.volume (passes c sectors m is small).change

    suits_of : (d : Content) → Stands d m.opened.geometry m.opened.total m.volume → SuitsStore d m.opened.geometry m.opened.total f.place m.volume
    suits_of d s = record {
      eight = found_record.eight;
      stands = s;
      lists = own_lists d m.opened.geometry m.opened.total m.volume s shown;
      boot = (passes c sectors m is small).boot.others;
      ring = on_ring c sectors m f.place is store.place store.small;
      lies = alike_lies f.place m.opened.place m.volume store.place (lies_in_log sectors m.content m.opened.geometry m.opened.total m.opened.place m.volume found_record);
    }

  pub suits : (f : StoreFacts) (d : Content) → mounted_in c sectors ≡ Ok m → IsStoreOf f m → Stands d m.opened.geometry m.opened.total m.volume → SuitsStore d m.opened.geometry m.opened.total f.place m.volume
  suits f d is store s = suits_of f is store d s

  pub stands : (f : StoreFacts) → mounted_in c sectors ≡ Ok m → IsStoreOf f m → Stands m.content m.opened.geometry m.opened.total m.volume
  stands f is store = (found_record f is store).stands

  pub geometry : (f : StoreFacts) (p : MapParts) → mounted_in c sectors ≡ Ok m → IsStoreOf f m → p.volume ≡ m.volume → (geometry_of p ≡ m.opened.geometry) × (p.volume.clusters ≡ m.opened.total)
  geometry f p is store same =
      let parts = volume_parts m.content m.opened.geometry m.opened.total m.volume (found_record f is store).stands.loaded in (
        ap (λ (v : Volume). geometry_with v.per v.mft) same ∙ ap (λ (n : ℕ). geometry_with n m.volume.mft) (sym parts.per) ∙ ap (λ (n : ℕ). geometry_with m.opened.geometry.per_cluster n) (sym parts.place),
        ap (λ (v : Volume). v.clusters) same ∙ sym parts.count,
      )

  pub holds : (changes : Changes) (f : StoreFacts) (d lies : Content) (start : HasStart changes f d) → mounted_in c sectors ≡ Ok m → IsStoreOf f m → Stands d m.opened.geometry m.opened.total m.volume
      → ((x : Block) → is_found (base_of f lies m.opened.geometry m.opened.total) x ≡ true → d x ≡ lies x) → d void_block ≡ void_body → MembersAre (base_of f lies m.opened.geometry m.opened.total) start.window
  holds changes f d lies start is store s agrees void =
      holds_content changes f d lies m.opened.geometry m.opened.total m.volume start s (λ b needed. is_safe f lies d m.opened.geometry m.opened.total m.volume b (suits f d is store s) store.found agrees needed) void

  pub holds_mounted : (changes : Changes) (f : StoreFacts) (start : HasStart changes f m.content) → mounted_in c sectors ≡ Ok m → IsStoreOf f m → m.content void_block ≡ void_body → MembersAre (base_of f m.content m.opened.geometry m.opened.total) start.window
  holds_mounted changes f start is store void = holds changes f m.content m.content start is store (stands f is store) (λ x found. refl) void

  pub holds_disk : (changes : Changes) (f : StoreFacts) (disk : List (List ℕ)) (start : HasStart changes f (content_of (sector_of disk))) → mounted_in c sectors ≡ Ok m → IsStoreOf f m → Stands (content_of (sector_of disk)) m.opened.geometry m.opened.total m.volume → length disk ≤ 2 ^ 62
      → MembersAre (base_of f (content_of (sector_of disk)) m.opened.geometry m.opened.total) start.window
  holds_disk changes f disk start is store s few = holds changes f (content_of (sector_of disk)) (content_of (sector_of disk)) start is store s (λ x found. refl) (void_is disk few)
