-- What a mounted volume was opened by: what its log says, the recovered content, and that no live block is shadowed.
use Rattle.std.proofs.Common.{◌≡◌, ℕ, ◌≤◌, List, length, Option, Some, None, Result, Ok, Err, refl, ap, subst, ◌∙◌}
use Rattle.std.specs.Prelude.{nat_le, nat_lt}
use Rattle.std.proofs.lemmas.Bool.{leb-true}
use Rattle.host_base.specs.Answers.{◌>>=◌, needs}
use Rattle.disk_model.specs.Sectors.{sector_of}
use Rattle.disk_model.specs.Content.{Content, content_of}
use Rattle.record_model.proofs.Answering.{steps_from_ok, needs_from_ok}
use Rattle.boot_sector.specs.declared.boot.Boot.{Boot}
use Rattle.boot_sector.specs.BootSectors.{boot_of, clusters, fields_of, signs_of, sizes_fit, places_fit, most_clusters}
use Rattle.state_model.specs.declared.geometry.Geometry.{Geometry}
use Rattle.state_model.specs.declared.stream.Stream.{Stream}
use Rattle.state_model.specs.declared.stream.Stream.TheVariants.{Held, Placed}
use Rattle.volume_model.specs.Volumes.{Volume, cluster_bits, upper_of}
use Rattle.log_model.specs.Logs.{recovered}
use Rattle.log_page.specs.declared.places.LogPlace.{LogPlace}
use Rattle.log_recovery.specs.LogStates.{LogState}
use Rattle.log_recovery.specs.Recovering.{shadow_lsn}
use Rattle.log_recovery.specs.Writing.{to_write_in}
use Rattle.safe_blocks.specs.image_open.declared.refusal.Refusal.{Refusal}
use Rattle.safe_blocks.specs.image_open.Errors.{boot_refusal, log_refusal, refused_as}
use Rattle.safe_blocks.specs.image_open.LogPlaces.{stream_place, place_of_log}
use Rattle.safe_blocks.specs.image_open.Volumes.{boot_place, boot_in, boot_on, sized_on, geometry_of, log_record, log_place, data_of}
use Rattle.safe_blocks.specs.image_open.Clusters.{clusters_in}
use Rattle.safe_blocks.specs.image_open.Writing.{OpenedToWrite, found_by, log_to_write, opened_at, opened_of, opened_with, opened_behind, opened_to_write_in}
use Rattle.safe_blocks.specs.image_read.Checks.{volume_on, has_version, tree_on}
use Rattle.safe_blocks.specs.volume_shadows.Live.{least_live}
use Rattle.safe_blocks.specs.volume_mount.Mounts.{Said, has_no_journal, has_pages, may_be_changed, unless_said, unshadowed, placed, ruled, settled, paged, unjournaled, tried, loaded_on, MountedVolume, upper_in, content_behind, mounted_as, mounted_by, mounted_in, mounted_of}

unrefused : {A F : Type 0} (kind : F → Refusal) (read : Result A F) (x : A) → refused_as kind read ≡ Ok x → read ≡ Ok x
unrefused kind (Ok y) x e = cc
unrefused kind (Err f) x e = absurd cc

-- ---- how it was opened

-- what its log says, and of so many clusters
record OpenedBy (c : Content) (o : OpenedToWrite) : Type 0 where
  read : to_write_in c o.place (found_by o.geometry) ≡ Ok o.state
  clusters : o.place.clusters ≡ o.total
  few : o.total ≤ most_clusters

few_clusters : (bytes : List ℕ) (b : Boot) → boot_of bytes ≡ Ok b → clusters b ≤ most_clusters
few_clusters bytes b is =
    let signs = steps_from_ok (signs_of bytes) (λ _. sizes_fit bytes >>= λ _. places_fit (fields_of bytes) bytes >>= λ _. needs (nat_le (clusters (fields_of bytes)) most_clusters) _ >>= λ _. Ok (fields_of bytes)) b is in
    let sizes = steps_from_ok (sizes_fit bytes) (λ _. places_fit (fields_of bytes) bytes >>= λ _. needs (nat_le (clusters (fields_of bytes)) most_clusters) _ >>= λ _. Ok (fields_of bytes)) b signs.2 in
    let places = steps_from_ok (places_fit (fields_of bytes) bytes) (λ _. needs (nat_le (clusters (fields_of bytes)) most_clusters) _ >>= λ _. Ok (fields_of bytes)) b sizes.2 in
    let small = needs_from_ok (nat_le (clusters (fields_of bytes)) most_clusters) _ (λ _. Ok (fields_of bytes)) b places.2 in
    let same : fields_of bytes ≡ b = cc in
    subst (λ (x : Boot). clusters x ≤ most_clusters) same (leb-true (clusters (fields_of bytes)) most_clusters small.0)

clusters_of : (per total device : ℕ) (s : Option Stream) → (place_of_log per total device s).clusters ≡ total
unfolding stream_place
clusters_of per total device None = refl
clusters_of per total device (Some (Held value)) = refl
clusters_of per total device (Some (Placed e)) = refl

opened_with_state : Geometry → ℕ → LogPlace → LogState → OpenedToWrite
opened_with_state g total place state = record { geometry = g; total = total; place = place; state = state }

opened_by : (c : Content) (sectors : ℕ) (o : OpenedToWrite) → opened_to_write_in c sectors ≡ Ok o → OpenedBy c o
unfolding opened_to_write_in opened_behind opened_with opened_of opened_at boot_on boot_in opened_with_state
opened_by c sectors o is =
    let first = steps_from_ok (clusters_in c) (λ _. opened_behind c sectors) o is in
    let second = steps_from_ok (boot_on c sectors) (opened_with c sectors) o first.2 in
    let b = second.0 in
    let g = geometry_of b in
    let boot = steps_from_ok (boot_in c) (sized_on sectors) b second.1 in
    let sized = needs_from_ok (nat_le boot.0.sectors sectors) _ (λ _. Ok boot.0) b boot.2 in
    let same : boot.0 ≡ b = cc in
    let bytes : boot_of (c boot_place).bytes ≡ Ok b = unrefused boot_refusal (boot_of (c boot_place).bytes) boot.0 boot.1 ∙ ap (λ (y : Boot). Ok y) same in
    let third = steps_from_ok (log_record c g) (λ file. opened_at c g (clusters b) (log_place g (clusters b) sectors file)) o second.2 in
    let place = log_place g (clusters b) sectors third.0 in
    let fourth = steps_from_ok (log_to_write c place (found_by g)) (λ state. Ok (opened_with_state g (clusters b) place state)) o third.2 in
    let made : opened_with_state g (clusters b) place fourth.0 ≡ o = cc in
    subst (λ (x : OpenedToWrite). OpenedBy c x) made (record {
      read = unrefused log_refusal (to_write_in c place (found_by g)) fourth.0 fourth.1;
      clusters = clusters_of g.per_cluster (clusters b) sectors (data_of third.0);
      few = few_clusters (c boot_place).bytes b bytes;
    })

-- ---- what was mounted

pub record MountedBy (c : Content) (m : MountedVolume) : Type 0 where
  pub read : to_write_in c m.opened.place (found_by m.opened.geometry) ≡ Ok m.opened.state
  pub clusters : m.opened.place.clusters ≡ m.opened.total
  pub content : m.content ≡ recovered c m.opened.state.log
  pub clear : least_live (shadow_lsn m.opened.state.log) m.volume ≡ None
  pub few : m.opened.total ≤ most_clusters
  pub journal : has_no_journal (upper_in m) m.volume ≡ Ok tt

clear_of : (o : Option ℕ) (w v : Volume) → unless_said o w ≡ Ok v → (o ≡ None) × (w ≡ v)
clear_of None w v is = (refl, cc)
clear_of (Some lsn) w v is = absurd cc

same_unit : (x : Unit {0}) → x ≡ tt
same_unit tt = refl

tried_clear : (said : Said) (place : LogPlace) (c : Content) (w v : Volume) → tried said place c w ≡ Ok v → (least_live said v ≡ None) × (has_no_journal (upper_of c v) v ≡ Ok tt)
unfolding tried unjournaled paged settled placed unshadowed ruled
tried_clear said place c w v is =
    let version = steps_from_ok (has_version w) (λ _. unjournaled said (upper_of c w) place c w) v is in
    let journal = steps_from_ok (has_no_journal (upper_of c w) w) (λ _. paged said place c w) v version.2 in
    let pages = steps_from_ok (has_pages place) (λ _. settled said place c w) v journal.2 in
    let rules = steps_from_ok (ruled c w) (λ x. placed said place (cluster_bits c x) x) v pages.2 in
    let tree = steps_from_ok (tree_on c w) (λ _. Ok w) rules.0 rules.1 in
    let kept : w ≡ rules.0 = cc in
    let fit = steps_from_ok (may_be_changed place c rules.0) (λ _. unshadowed said rules.0) v rules.2 in
    let clear = clear_of (least_live said rules.0) rules.0 v fit.2 in (
      subst (λ (x : Volume). least_live said x ≡ None) clear.1 clear.0,
      subst (λ (x : Volume). has_no_journal (upper_of c x) x ≡ Ok tt) (kept ∙ clear.1) (journal.1 ∙ ap (λ (u : Unit {0}). Ok u) (same_unit journal.0)),
    )

pub mounted_parts : (c : Content) (sectors : ℕ) (m : MountedVolume) → mounted_in c sectors ≡ Ok m → MountedBy c m
unfolding mounted_in mounted_by loaded_on
mounted_parts c sectors m is =
    let first = steps_from_ok (opened_to_write_in c sectors) (mounted_by c) m is in
    let o = first.0 in
    let after : Content = content_behind c o in
    let said : Said = shadow_lsn o.state.log in
    let second = steps_from_ok (loaded_on said o.place after o.geometry o.total) (λ v. Ok (mounted_as c o v)) m first.2 in
    let third = steps_from_ok (volume_on after o.geometry o.total) (tried said o.place after) second.0 second.1 in
    let made : mounted_as c o second.0 ≡ m = cc in
    let by = opened_by c sectors o first.1 in
    let tests = tried_clear said o.place after third.0 second.0 third.2 in
    let parts : MountedBy c (mounted_as c o second.0) = record { read = by.read; clusters = by.clusters; content = refl; clear = tests.0; few = by.few; journal = tests.1 } in
    subst (MountedBy c) made parts

pub on_sectors : (disk : List (List ℕ)) (m : MountedVolume) → mounted_of disk ≡ Ok m → mounted_in (content_of (sector_of disk)) (length disk) ≡ Ok m
unfolding mounted_of
on_sectors disk m is = (needs_from_ok (nat_lt 0 (length disk)) _ (λ _. mounted_in (content_of (sector_of disk)) (length disk)) m is).1
