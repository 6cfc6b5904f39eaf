-- What is mounted for a change is the mounted volume.
use Rattle.std.proofs.Common.{◌≡◌, ℕ, length, Option, Some, None, Ok, sym, ap, ◌∙◌}
use Rattle.std.specs.Prelude.{nat_lt}
use Rattle.host_base.specs.Answers.{◌>>=◌, needs}
use Rattle.disk_model.specs.Sectors.{sector_of}
use Rattle.disk_model.specs.Content.{Content, content_of}
use Rattle.volume_model.specs.Volumes.{Volume, upper_of}
use Rattle.log_recovery.specs.Recovering.{shadow_lsn}
use Rattle.volume_mount.specs.image_open.declared.refusal.Refusal.TheVariants.{Short}
use Rattle.volume_mount.specs.image_open.Writing.{OpenedToWrite, opened_to_write_in}
use Rattle.volume_mount.specs.image_read.Checks.{volume_on, has_version, tree_on}
use Rattle.volume_mount.specs.volume_shadows.Live.{least_live}
use Rattle.volume_mount.specs.Mounts.{content_behind, mounted_as, has_no_journal, has_pages, may_be_changed, Said, unless_said, unshadowed, ruled, placed, settled, paged, unjournaled, tried, loaded_on, mounted_by, mounted_in, mounted_of}
use Rattle.mount_access.specs.declared.access.Access.TheVariants.{Change}
use Rattle.mount_access.specs.Mounts.{tried_for, passed, loaded_for, mounted_in_for, mounted_for}
use Rattle.mount_access.specs.Laws.{ChangeIsTheMount}
use Rattle.mount_access.proofs.Steps.{okay, made_behind, same_behind, change_tests}
use Rattle.mount_access.proofs.Opened.{opened_to_change}

no_other : (lsn : Option ℕ) (v w : Volume) → unless_said lsn v ≡ Ok w → w ≡ v
no_other None v w is = cc
no_other (Some lsn) v w is = absurd cc

unshadowed_same : (said : Said) (v w : Volume) → unshadowed said v ≡ Ok w → w ≡ v
unfolding unshadowed
unshadowed_same said v w is = no_other (least_live said v) v w is

volume_changed : (c : Content) (o : OpenedToWrite) (v : Volume) → (tried (shadow_lsn o.state.log) o.place (content_behind c o) v >>= λ w. Ok (mounted_as c o w)) ≡ passed Change (mounted_as c o v)
unfolding tried unjournaled paged settled ruled placed tried_for
volume_changed c o v =
    change_tests (has_version v) (has_no_journal (upper_of (content_behind c o) v) v) (has_pages o.place) (tree_on (content_behind c o) v) (may_be_changed o.place (content_behind c o)) (unshadowed (shadow_lsn o.state.log)) v
    (mounted_as c o) (unshadowed_same (shadow_lsn o.state.log) v)

opened_changed : (c : Content) (o : OpenedToWrite) → mounted_by c o ≡ loaded_for Change c o
unfolding mounted_by loaded_on loaded_for
opened_changed c o =
    made_behind (volume_on (content_behind c o) o.geometry o.total) (tried (shadow_lsn o.state.log) o.place (content_behind c o)) (λ v. okay (mounted_as c o v)) (λ v. passed Change (mounted_as c o v)) (volume_changed c o)

content_changed : (c : Content) (sectors : ℕ) → mounted_in_for Change c sectors ≡ mounted_in c sectors
unfolding mounted_in mounted_in_for
content_changed c sectors =
    sym (same_behind (opened_to_write_in c sectors) (mounted_by c) (loaded_for Change c) (opened_changed c) ∙ ap (λ r. r >>= loaded_for Change c) (opened_to_change c sectors))

pub change_is_mount : ChangeIsTheMount
unfolding mounted_of mounted_for
change_is_mount disk =
    same_behind (needs (nat_lt 0 (length disk)) (Short 1 0)) (λ _. mounted_in_for Change (content_of (sector_of disk)) (length disk)) (λ _. mounted_in (content_of (sector_of disk)) (length disk))
    (λ _. content_changed (content_of (sector_of disk)) (length disk))
