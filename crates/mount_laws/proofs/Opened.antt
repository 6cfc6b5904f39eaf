-- A volume that was opened for a mount that writes: its clusters have eight sectors, and its log is found by a record that recovery leaves.
use Rattle.std.proofs.Common.{◌≡◌, ℕ, ◌+◌, ◌*◌, ◌^◌, ◌<◌, ◌≤◌, Bool, true, false, ◌||◌, List, Option, Some, None, Result, Ok, Err, refl, sym, ap, ◌∙◌, subst, arith}
use Rattle.std.specs.Prelude.{is_some, nat_le, nat_lt, ◌==◌}
use Rattle.std.proofs.lemmas.Bool.{and_from, eqb-true, ltb-true, lt-ltb}
use Rattle.host_base.specs.Answers.{◌>>=◌, needs}
use Rattle.disk_model.specs.Numbers.{field}
use Rattle.disk_model.specs.Sectors.{overlap}
use Rattle.disk_model.specs.Content.{Content}
use Rattle.record_model.specs.Records.{Record}
use Rattle.record_model.proofs.Answering.{steps_from_ok, needs_from_ok}
use Rattle.volume_mount.specs.state_model.declared.geometry.Geometry.{Geometry}
use Rattle.volume_mount.specs.state_model.declared.stream.Stream.{Stream}
use Rattle.volume_mount.specs.state_model.declared.stream.Stream.TheVariants.{Held, Placed}
use Rattle.volume_mount.specs.state_model.Loads.{slot_of, judged, boot_block, data_stream}
use Rattle.boot_sector.specs.declared.boot.Boot.{Boot}
use Rattle.boot_sector.specs.declared.boot.BootFault.{BootFault}
use Rattle.boot_sector.specs.BootSectors.{boot_of, clusters, fields_of, signs_of, sizes_fit, places_fit, most_clusters}
use Rattle.volume_mount.specs.volume_model.Volumes.{Volume, file_in, log_file}
use Rattle.log_model.specs.Logs.{recovered}
use Rattle.log_laws.specs.log_page.declared.places.LogPlace.{LogPlace}
use Rattle.volume_mount.specs.log_reading.LogPages.{log_sector}
use Rattle.volume_mount.specs.log_reading.Rings.{IsRingPlace}
use Rattle.volume_mount.specs.log_recovery.LogStates.{LogState}
use Rattle.volume_mount.specs.log_recovery.Own.{is_own, is_in_log}
use Rattle.volume_mount.specs.log_recovery.Writing.{to_write_in}
use Rattle.volume_mount.specs.image_open.declared.refusal.Refusal.{Refusal}
use Rattle.volume_mount.specs.image_open.Errors.{boot_refusal, map_refusal, log_refusal, refused_as}
use Rattle.volume_mount.specs.image_open.LogPlaces.{stream_place, place_of_log}
use Rattle.volume_mount.specs.image_open.Volumes.{boot_place, boot_in, boot_on, sized_on, geometry_of, log_record, log_place, data_of}
use Rattle.volume_mount.specs.image_open.Clusters.{clusters_in, eight_sectors}
use Rattle.volume_mount.specs.image_open.Writing.{OpenedToWrite, found_by, log_to_write, opened_at, opened_of, opened_with, opened_behind, opened_to_write_in}
use Rattle.volume_mount.proofs.stream_laws.Rewriting.{volume_parts}
use Rattle.plan_owners.specs.States.{Stands}
use Rattle.mount_laws.proofs.Kept.{kept_stays}
use Rattle.mount_laws.proofs.Records.{parts, data_once, data_inside, its_slot, not_torn, judged_used}
use Rattle.mount_laws.proofs.Rings.{is_ring}

unrefused : {A F : Type 0} (kind : F → Refusal) (read : Result A F) (x : A) → refused_as kind read ≡ Ok x → read ≡ Ok x
unrefused kind (Ok y) x e = cc
unrefused kind (Err f) x e = absurd cc

-- ---- the boot sector

-- its sectors of a cluster, and a cluster below its clusters
record BootParts (bytes : List ℕ) (b : Boot) : Type 0 where
  per : b.per_cluster ≡ field 0x0D 1 bytes
  some : 0 < clusters b

boot_parts : (bytes : List ℕ) (b : Boot) → boot_of bytes ≡ Ok b → BootParts bytes b
unfolding places_fit fields_of
boot_parts bytes b is =
    let signs = steps_from_ok (signs_of bytes) (λ _. sizes_fit bytes >>= λ _. places_fit (fields_of bytes) bytes >>= λ _. needs (nat_le (clusters (fields_of bytes)) most_clusters) _ >>= λ _. Ok (fields_of bytes)) b is in
    let sizes = steps_from_ok (sizes_fit bytes) (λ _. places_fit (fields_of bytes) bytes >>= λ _. needs (nat_le (clusters (fields_of bytes)) most_clusters) _ >>= λ _. Ok (fields_of bytes)) b signs.2 in
    let places = steps_from_ok (places_fit (fields_of bytes) bytes) (λ _. needs (nat_le (clusters (fields_of bytes)) most_clusters) _ >>= λ _. Ok (fields_of bytes)) b sizes.2 in
    let small = needs_from_ok (nat_le (clusters (fields_of bytes)) most_clusters) _ (λ _. Ok (fields_of bytes)) b places.2 in
    let same : fields_of bytes ≡ b = cc in
    let mft = needs_from_ok (nat_lt (fields_of bytes).mft (clusters (fields_of bytes))) _ _ places.0 places.1 in
    let below = ltb-true _ _ mft.0 in
    subst (λ (x : Boot). BootParts bytes x) same (record { per = refl; some = omega (arith, below) })

eight : (per : ℕ) (boot : Result Boot BootFault) (b : Boot) (x : Unit {0}) → boot ≡ Ok b → eight_sectors boot per ≡ Ok x → per ≡ 8
unfolding eight_sectors
eight per (Ok a) b x is e = eqb-true per 8 (alone (per == 8) (passed (per == 8 || false) _ x e))
  where
    passed : (t : Bool) (r : Refusal) (y : Unit {0}) → needs t r ≡ Ok y → t ≡ true
    passed true r y h = refl
    passed false r y h = absurd cc

    alone : (t : Bool) → (t || false) ≡ true → t ≡ true
    alone true h = refl
    alone false h = absurd cc
eight per (Err f) b x is e = absurd cc

-- ---- what was opened

pub record OpenedParts (c : Content) (sectors : ℕ) (o : OpenedToWrite) : Type 0 where
  pub eight : o.geometry.per_cluster ≡ 8
  pub some : 0 < o.total
  pub file : Option Record
  pub read : log_record c o.geometry ≡ Ok file
  pub place : o.place ≡ log_place o.geometry o.total sectors file
  pub log : to_write_in c o.place (found_by o.geometry) ≡ Ok o.state

opened_as : Geometry → ℕ → LogPlace → LogState → OpenedToWrite
opened_as g total place state = record { geometry = g; total = total; place = place; state = state }

pub opened_parts : (c : Content) (sectors : ℕ) (o : OpenedToWrite) → opened_to_write_in c sectors ≡ Ok o → OpenedParts c sectors o
unfolding opened_to_write_in opened_behind opened_with opened_of opened_at boot_on boot_in clusters_in geometry_of opened_as
opened_parts c sectors o is =
    let first = steps_from_ok (clusters_in c) (λ _. opened_behind c sectors) o is in
    let second = steps_from_ok (boot_on c sectors) (opened_with c sectors) o first.2 in
    let b = second.0 in
    let g = geometry_of b in
    let third = steps_from_ok (log_record c g) (λ file. opened_at c g (clusters b) (log_place g (clusters b) sectors file)) o second.2 in
    let place = log_place g (clusters b) sectors third.0 in
    let fourth = steps_from_ok (log_to_write c place (found_by g)) (λ state. Ok (opened_as g (clusters b) place state)) o third.2 in
    let made : opened_as g (clusters b) place fourth.0 ≡ o = cc in
    let read = steps_from_ok (boot_in c) (sized_on sectors) b second.1 in
    let sized = needs_from_ok (nat_le read.0.sectors sectors) _ (λ _. Ok read.0) b read.2 in
    let same : read.0 ≡ b = cc in
    let boot : boot_of (c boot_place).bytes ≡ Ok b = unrefused boot_refusal (boot_of (c boot_place).bytes) read.0 read.1 ∙ ap (λ (x : Boot). Ok x) same in
    let found = boot_parts (c boot_place).bytes b boot in
    subst (λ (x : OpenedToWrite). OpenedParts c sectors x) made (record {
      eight = found.per ∙ eight (field 0x0D 1 (c boot_place).bytes) (boot_of (c boot_place).bytes) b first.0 boot first.1;
      some = found.some;
      file = third.0;
      read = third.1;
      place = refl;
      log = unrefused log_refusal (to_write_in c place (found_by g)) fourth.0 fourth.1;
    })

-- ---- its log

any_second : (t u : Bool) (b : Bool) → u ≡ true → (t || (b || (u || false))) ≡ true
any_second true u b is = refl
any_second false u true is = refl
any_second false true false is = refl
any_second false false false is = absurd cc

meets_itself : (g : Geometry) → overlap (boot_block g 2) (boot_block g 2) ≡ true
meets_itself g = let s = (boot_block g 2).first in and_from _ _ (lt-ltb s (s + 2) (omega arith)) (lt-ltb s (s + 2) (omega arith))

own_record : (g : Geometry) (place : LogPlace) → is_own place (found_by g) (boot_block g 2) ≡ true
own_record g place = any_second (is_in_log place (boot_block g 2)) (overlap (boot_block g 2) (boot_block g 2)) (overlap (boot_block g 2) boot_place) (meets_itself g)

-- no page of the log lies nowhere, and all of it is initialised
pub record IsWhole (place : LogPlace) : Type 0 where
  pub there : (n : ℕ) → n < 8 * place.pages → is_some (log_sector place n) ≡ true
  pub initialised : 4096 * place.pages ≤ place.initialised
  pub ring : 4 < place.pages
  pub small : place.pages < 2 ^ 52

module _ (c : Content) (sectors : ℕ) (o : OpenedToWrite) (p : OpenedParts c sectors o) (v : Volume) (stands : Stands (recovered c o.state.log) o.geometry o.total v) (f : Record) (is : file_in v log_file ≡ Some f) (w : IsWhole o.place) where
  abbrev rec : Content
  rec = recovered c o.state.log

  abbrev pub base : Record
  base = (parts rec o.geometry o.total v stands f is).base

  judged_record : judged 2 (slot_of (c (boot_block o.geometry 2))) ≡ Ok p.file
  unfolding log_record
  judged_record = unrefused map_refusal (judged 2 (slot_of (c (boot_block o.geometry 2)))) p.file p.read

  same_record : rec (boot_block o.geometry 2) ≡ c (boot_block o.geometry 2)
  same_record = kept_stays c o.place (found_by o.geometry) o.state (boot_block o.geometry 2) p.log (own_record o.geometry o.place) (not_torn (c (boot_block o.geometry 2)) p.file judged_record)

  its_file : p.file ≡ Some base
  its_file = judged_used (slot_of (c (boot_block o.geometry 2))) base p.file (sym (ap slot_of same_record) ∙ its_slot rec o.geometry o.total v stands f is) judged_record

  pub its_place : o.place ≡ place_of_log 8 o.total sectors (data_stream base)
  its_place = p.place ∙ ap (λ (x : ℕ). place_of_log x o.total sectors (data_of p.file)) p.eight ∙ ap (λ (r : Option Record). place_of_log 8 o.total sectors (data_of r)) its_file

  by_stream : (s : Option Stream) → data_stream base ≡ s → o.place ≡ place_of_log 8 o.total sectors s → IsRingPlace o.place
  unfolding stream_place
  by_stream None data_is at = absurd (omega (arith, w.ring, ap (λ (x : LogPlace). x.pages) at))
  by_stream (Some (Held value)) data_is at = absurd (omega (arith, w.ring, w.initialised, ap (λ (x : LogPlace). x.initialised) at))
  by_stream (Some (Placed e)) data_is at =
      subst (λ (x : LogPlace). IsRingPlace x) (sym at)
      (is_ring o.total sectors e (record {
        once = data_once rec o.geometry o.total v stands f is e data_is;
        inside = λ x used. let below = data_inside rec o.geometry o.total v stands f is e x data_is used in omega (arith, below, total);
        there = λ n below. subst (λ (x : LogPlace). n < 8 * x.pages → is_some (log_sector x n) ≡ true) at (w.there n) below;
        initialised = subst (λ (x : LogPlace). 4096 * x.pages ≤ x.initialised) at w.initialised;
        ring = subst (λ (x : LogPlace). 4 < x.pages) at w.ring;
        small = subst (λ (x : LogPlace). x.pages < 2 ^ 52) at w.small;
      }))
    where
      total : v.clusters ≡ o.total
      total = sym (volume_parts rec o.geometry o.total v stands.loaded).count

  pub lies_in_ring : IsRingPlace o.place
  lies_in_ring = by_stream (data_stream base) refl its_place
