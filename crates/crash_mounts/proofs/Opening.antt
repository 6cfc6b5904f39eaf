-- Contents that are alike in the blocks by which a log is found are opened alike.
use Rattle.std.proofs.Common.{◌≡◌, ℕ, Bool, true, false, [], ◌∷◌, Option, Result, Ok, refl, ap, ◌∙◌, subst}
use Rattle.std.specs.Prelude.{◌||◌}
use Rattle.std.specs.List.{list_any}
use Rattle.host_base.specs.Answers.{◌>>=◌}
use Rattle.disk_model.specs.declared.block.Body.{Body}
use Rattle.disk_model.specs.Numbers.{field}
use Rattle.disk_model.specs.Sectors.{same_block}
use Rattle.disk_model.specs.Content.{Content}
use Rattle.record_model.specs.Records.{Record}
use Rattle.record_model.proofs.Answering.{steps_from_ok}
use Rattle.state_model.specs.declared.geometry.Geometry.{Geometry}
use Rattle.state_model.specs.Loads.{slot_of, judged, boot_block}
use Rattle.boot_sector.specs.declared.boot.Boot.{Boot}
use Rattle.boot_sector.specs.BootSectors.{boot_of, clusters}
use Rattle.log_page.specs.declared.places.LogPlace.{LogPlace}
use Rattle.log_reading.specs.declared.fault.LogRefusal.{LogRefusal}
use Rattle.txn_mount.specs.log_recovery.LogStates.{LogState}
use Rattle.txn_mount.specs.log_recovery.Writing.{to_write_in}
use Rattle.mount_laws.specs.image_open.declared.refusal.Refusal.{Refusal}
use Rattle.mount_laws.specs.image_open.Errors.{boot_refusal, map_refusal, log_refusal, refused_as}
use Rattle.mount_laws.specs.image_open.Clusters.{clusters_in, eight_sectors}
use Rattle.mount_laws.specs.image_open.Volumes.{boot_place, boot_in, boot_on, sized_on, geometry_of, log_record, log_place}
use Rattle.mount_laws.specs.image_open.Writing.{OpenedToWrite, found_by, log_to_write, opened_at, opened_of, opened_with, opened_behind, opened_to_write_in}
use Rattle.store_model.proofs.Told.{same_self}
use Rattle.crash_mounts.specs.Opening.{AreFoundAlike, with_state, OpensAlike}

-- ---- the two blocks

pub or_first : (t u : Bool) → t ≡ true → (t || u) ≡ true
or_first true u is = refl
or_first false u is = absurd cc

pub or_second : (t u : Bool) → u ≡ true → (t || u) ≡ true
or_second true u is = refl
or_second false u is = is

pub boot_found : (g : Geometry) → list_any (same_block boot_place) (found_by g) ≡ true
boot_found g = or_first (same_block boot_place boot_place) (list_any (same_block boot_place) (boot_block g 2 ∷ [])) (same_self boot_place)

pub record_found : (g : Geometry) → list_any (same_block (boot_block g 2)) (found_by g) ≡ true
record_found g = or_second (same_block (boot_block g 2) boot_place) (list_any (same_block (boot_block g 2)) (boot_block g 2 ∷ [])) (or_first (same_block (boot_block g 2) (boot_block g 2)) false (same_self (boot_block g 2)))

-- ---- what is read of them

clusters_alike : (c d : Content) → d boot_place ≡ c boot_place → clusters_in d ≡ clusters_in c
unfolding clusters_in
clusters_alike c d same = ap (λ (x : Body). eight_sectors (boot_of x.bytes) (field 0x0D 1 x.bytes)) same

boot_alike : (c d : Content) (sectors : ℕ) → d boot_place ≡ c boot_place → boot_on d sectors ≡ boot_on c sectors
unfolding boot_on boot_in
boot_alike c d sectors same = ap (λ (x : Body). refused_as boot_refusal (boot_of x.bytes) >>= sized_on sectors) same

record_alike : (c d : Content) (g : Geometry) → d (boot_block g 2) ≡ c (boot_block g 2) → log_record d g ≡ log_record c g
unfolding log_record
record_alike c d g same = ap (λ (x : Body). refused_as map_refusal (judged 2 (slot_of x))) same

-- ---- opened

abbrev opened_as : Geometry → ℕ → LogPlace → LogState → OpenedToWrite
opened_as g total place state = record { geometry = g; total = total; place = place; state = state }

okay : Geometry → ℕ → LogPlace → LogState → Result OpenedToWrite Refusal
okay g total place state = Ok (opened_as g total place state)

opened_by_log : (d : Content) (g : Geometry) (total : ℕ) (place : LogPlace) (state : LogState) → to_write_in d place (found_by g) ≡ Ok state → opened_at d g total place ≡ Ok (opened_as g total place state)
unfolding opened_at
opened_by_log d g total place state is = ap (λ (r : Result LogState LogRefusal). refused_as log_refusal r >>= λ s. Ok (opened_as g total place s)) is

opened_by_parts : (d : Content) (sectors : ℕ) (b : Boot) (file : Option Record) (state : LogState) (u : Unit {0}) → clusters_in d ≡ Ok u → boot_on d sectors ≡ Ok b → log_record d (geometry_of b) ≡ Ok file
    → to_write_in d (log_place (geometry_of b) (clusters b) sectors file) (found_by (geometry_of b)) ≡ Ok state
    → opened_to_write_in d sectors ≡ Ok (opened_as (geometry_of b) (clusters b) (log_place (geometry_of b) (clusters b) sectors file) state)
unfolding opened_to_write_in opened_behind opened_with opened_of
opened_by_parts d sectors b file state u one two three four =
    ap (λ (r : Result (Unit {0}) Refusal). r >>= λ _. opened_behind d sectors) one
    ∙ ap (λ (r : Result Boot Refusal). r >>= opened_with d sectors) two
    ∙ ap (λ (r : Result (Option Record) Refusal). r >>= λ f. opened_at d (geometry_of b) (clusters b) (log_place (geometry_of b) (clusters b) sectors f)) three
    ∙ opened_by_log d (geometry_of b) (clusters b) (log_place (geometry_of b) (clusters b) sectors file) state four

abbrev Reopens : Content → Content → ℕ → LogState → OpenedToWrite → Type 0
Reopens c d sectors state o = AreFoundAlike o.geometry c d → to_write_in d o.place (found_by o.geometry) ≡ Ok state → opened_to_write_in d sectors ≡ Ok (with_state o state)

-- what was opened by these parts
reopens : (c d : Content) (sectors : ℕ) (state first : LogState) (b : Boot) (file : Option Record) (u : Unit {0}) (o : OpenedToWrite) → clusters_in c ≡ Ok u → boot_on c sectors ≡ Ok b → log_record c (geometry_of b) ≡ Ok file
    → opened_as (geometry_of b) (clusters b) (log_place (geometry_of b) (clusters b) sectors file) first ≡ o → Reopens c d sectors state o
reopens c d sectors state first b file u o one two three made =
    subst (Reopens c d sectors state) made
    (λ bears log.
    let boot : d boot_place ≡ c boot_place = bears boot_place (boot_found (geometry_of b)) in
    let file_same : d (boot_block (geometry_of b) 2) ≡ c (boot_block (geometry_of b) 2) = bears (boot_block (geometry_of b) 2) (record_found (geometry_of b)) in
    opened_by_parts d sectors b file state u (clusters_alike c d boot ∙ one) (boot_alike c d sectors boot ∙ two) (record_alike c d (geometry_of b) file_same ∙ three) log)

pub opens_alike : OpensAlike
unfolding opened_to_write_in opened_behind opened_with opened_of opened_at
opens_alike c d sectors o state is =
    let first = steps_from_ok (clusters_in c) (λ _. opened_behind c sectors) o is in
    let second = steps_from_ok (boot_on c sectors) (opened_with c sectors) o first.2 in
    let b = second.0 in
    let g = geometry_of b in
    let third = steps_from_ok (log_record c g) (λ file. opened_at c g (clusters b) (log_place g (clusters b) sectors file)) o second.2 in
    let place = log_place g (clusters b) sectors third.0 in
    let fourth = steps_from_ok (log_to_write c place (found_by g)) (λ s. Ok (opened_as g (clusters b) place s)) o third.2 in
    reopens c d sectors state fourth.0 b third.0 first.0 o first.1 second.1 third.1 cc
