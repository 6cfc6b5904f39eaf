-- A volume that is opened to look at it, for its journal, or for a change.
use Rattle.std.proofs.Common.{◌≡◌, ℕ, List, Option, Some, None, Result, Ok, Err, refl, ap, ◌∙◌}
use Rattle.host_base.specs.Answers.{◌>>=◌}
use Rattle.disk_model.specs.declared.block.Block.{Block}
use Rattle.disk_model.specs.Content.{Content}
use Rattle.state_model.specs.declared.geometry.Geometry.{Geometry}
use Rattle.boot_sector.specs.declared.boot.Boot.{Boot}
use Rattle.boot_sector.specs.BootSectors.{clusters}
use Rattle.log_model.specs.Logs.{recovered}
use Rattle.log_page.specs.declared.places.LogPlace.{LogPlace}
use Rattle.log_recovery.specs.LogStates.{LogState, recovery_in}
use Rattle.log_recovery.specs.Own.{is_own}
use Rattle.log_recovery.specs.Writing.{to_write_in, unless_foreign, first_update, is_barred}
use Rattle.volume_mount.specs.image_open.declared.refusal.Refusal.{Refusal}
use Rattle.volume_mount.specs.image_open.Errors.{log_refusal, refused_as}
use Rattle.volume_mount.specs.image_open.Volumes.{Opened, boot_on, geometry_of, log_record, log_place, recovered_at, recovered_in, opened_by, opened_in}
use Rattle.volume_mount.specs.image_open.Writing.{OpenedToWrite, found_by, opened_at, opened_of, opened_with, opened_behind, opened_to_write_in}
use Rattle.volume_mount.specs.Mounts.{content_behind}
use Rattle.mount_access.specs.declared.access.Access.{Access}
use Rattle.mount_access.specs.declared.access.Access.TheVariants.{Look, Journal, Change}
use Rattle.mount_access.specs.Mounts.{has_clusters, log_for, opened_as, opened_at_for, opened_of_for, opened_with_for, opened_for}
use Rattle.mount_access.proofs.Steps.{okay, steps, also, made_behind, made_alike}

pub unrefused : {A F : Type 0} (kind : F → Refusal) (read : Result A F) (x : A) → refused_as kind read ≡ Ok x → read ≡ Ok x
unrefused kind (Ok y) x e = cc
unrefused kind (Err f) x e = absurd cc

-- ---- what is opened for anything is opened to look

not_foreign : (foreign : Option ℕ) (x s : LogState) → unless_foreign foreign x ≡ Ok s → x ≡ s
not_foreign None x s is = cc
not_foreign (Some lsn) x s is = absurd cc

read_too : (c : Content) (place : LogPlace) (kept : List Block) (s : LogState) → to_write_in c place kept ≡ Ok s → recovery_in c place ≡ Ok s
unfolding to_write_in
read_too c place kept s is =
    let p = steps (recovery_in c place) (λ x. unless_foreign (first_update (is_barred (is_own place kept) c x.log) x.log) x) s is in
    p.1 ∙ ap okay (not_foreign (first_update (is_barred (is_own place kept) c p.0.log) p.0.log) p.0 s p.2)

log_too : (how : Access) (c : Content) (place : LogPlace) (kept : List Block) (s : LogState) → log_for how c place kept ≡ Ok s → log_for Look c place kept ≡ Ok s
log_too Look c place kept s is = is
log_too Journal c place kept s is = is
log_too Change c place kept s is = read_too c place kept s is

at_too : (how : Access) (c : Content) (g : Geometry) (total : ℕ) (place : LogPlace) (o : OpenedToWrite) → opened_at_for how c g total place ≡ Ok o → opened_at_for Look c g total place ≡ Ok o
unfolding opened_at_for
at_too how c g total place o is =
    also (refused_as log_refusal (log_for how c place (found_by g))) (refused_as log_refusal (log_for Look c place (found_by g)))
    (λ s. okay (opened_as g total place s)) (λ s. okay (opened_as g total place s)) o
    (λ s e. ap (refused_as log_refusal) (log_too how c place (found_by g) s (unrefused log_refusal (log_for how c place (found_by g)) s e))) (λ s e. e) is

of_too : (how : Access) (c : Content) (g : Geometry) (total sectors : ℕ) (o : OpenedToWrite) → opened_of_for how c g total sectors ≡ Ok o → opened_of_for Look c g total sectors ≡ Ok o
unfolding opened_of_for
of_too how c g total sectors o is =
    also (log_record c g) (log_record c g) (λ file. opened_at_for how c g total (log_place g total sectors file)) (λ file. opened_at_for Look c g total (log_place g total sectors file)) o
    (λ file e. e) (λ file e. at_too how c g total (log_place g total sectors file) o e) is

with_too : (how : Access) (c : Content) (sectors : ℕ) (b : Boot) (o : OpenedToWrite) → opened_with_for how c sectors b ≡ Ok o → opened_with_for Look c sectors b ≡ Ok o
unfolding opened_with_for
with_too how c sectors b o is = of_too how c (geometry_of b) (clusters b) sectors o is

any_unit : (x : Unit {0}) → okay {F = Refusal} tt ≡ Ok x
any_unit tt = refl

pub opened_too : (how : Access) (c : Content) (sectors : ℕ) (o : OpenedToWrite) → opened_for how c sectors ≡ Ok o → opened_for Look c sectors ≡ Ok o
unfolding opened_for
opened_too how c sectors o is =
    also (has_clusters how c) (has_clusters Look c) (λ _. boot_on c sectors >>= opened_with_for how c sectors) (λ _. boot_on c sectors >>= opened_with_for Look c sectors) o
    (λ x e. any_unit x)
    (λ x e. also (boot_on c sectors) (boot_on c sectors) (opened_with_for how c sectors) (opened_with_for Look c sectors) o (λ b e. e) (λ b e. with_too how c sectors b o e) e) is

-- ---- as a reader opens it

-- its file table, its clusters and its recovered content
abbrev pub seen_as : Content → OpenedToWrite → Opened
seen_as c o = record { geometry = o.geometry; total = o.total; content = content_behind c o }

seen_with : (c : Content) (sectors : ℕ) (b : Boot) → (opened_with_for Look c sectors b >>= λ o. Ok (seen_as c o)) ≡ opened_by c sectors b
unfolding opened_with_for opened_of_for opened_at_for opened_by recovered_in recovered_at
seen_with c sectors b =
    made_alike (log_record c (geometry_of b)) (λ file. refused_as log_refusal (recovery_in c (log_place (geometry_of b) (clusters b) sectors file)))
    (λ file s. opened_as (geometry_of b) (clusters b) (log_place (geometry_of b) (clusters b) sectors file) s) (λ s. recovered c s.log)
    (seen_as c) (λ content. record { geometry = geometry_of b; total = clusters b; content = content }) (λ file s. refl)

pub seen_to_look : (c : Content) (sectors : ℕ) → (opened_for Look c sectors >>= λ o. Ok (seen_as c o)) ≡ opened_in c sectors
unfolding opened_for opened_in
seen_to_look c sectors = made_behind (boot_on c sectors) (opened_with_for Look c sectors) (λ o. okay (seen_as c o)) (opened_by c sectors) (seen_with c sectors)

for_journal : (c : Content) (sectors : ℕ) → opened_for Journal c sectors ≡ opened_for Look c sectors
unfolding opened_for opened_with_for opened_of_for opened_at_for
for_journal c sectors = refl

pub seen_for_journal : (c : Content) (sectors : ℕ) → (opened_for Journal c sectors >>= λ o. Ok (seen_as c o)) ≡ opened_in c sectors
seen_for_journal c sectors = ap (λ r. r >>= λ o. okay (seen_as c o)) (for_journal c sectors) ∙ seen_to_look c sectors

-- ---- as a mount that writes opens it

pub opened_to_change : (c : Content) (sectors : ℕ) → opened_to_write_in c sectors ≡ opened_for Change c sectors
unfolding opened_to_write_in opened_behind opened_with opened_of opened_at opened_for opened_with_for opened_of_for opened_at_for
opened_to_change c sectors = refl
