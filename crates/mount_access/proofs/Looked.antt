-- What is mounted to look is what a check answers.
use Rattle.std.proofs.Common.{◌≡◌, ℕ, length, Ok, sym, ap, ◌∙◌}
use Rattle.std.specs.Prelude.{nat_lt}
use Rattle.host_base.specs.Answers.{◌>>=◌, needs}
use Rattle.disk_model.specs.Sectors.{sector_of}
use Rattle.disk_model.specs.Content.{Content, content_of}
use Rattle.file_tree.specs.declared.tree.Tree.{Tree}
use Rattle.volume_model.specs.Volumes.{Volume}
use Rattle.volume_state.specs.Laws.{bare}
use Rattle.volume_state.specs.Trees.{tree_of, checked}
use Rattle.volume_state.proofs.Reports.{reports}
use Rattle.volume_mount.specs.image_open.declared.refusal.Refusal.TheVariants.{Short}
use Rattle.volume_mount.specs.image_open.Volumes.{Opened}
use Rattle.volume_mount.specs.image_open.Writing.{OpenedToWrite}
use Rattle.volume_mount.specs.image_read.Errors.{broken_refusal}
use Rattle.volume_mount.specs.image_read.Checks.{volume_on, has_version, tree_on, volume_tree, loaded_in, check_in, check_of}
use Rattle.volume_mount.specs.Mounts.{MountedVolume, tree_in, content_behind, mounted_as}
use Rattle.mount_access.specs.declared.access.Access.TheVariants.{Look}
use Rattle.mount_access.specs.Mounts.{tried_for, passed, opened_for, loaded_for, mounted_in_for, mounted_for}
use Rattle.mount_access.specs.Laws.{LookIsTheCheck}
use Rattle.mount_access.proofs.Steps.{okay, made_behind, made_of_other, look_tests}
use Rattle.mount_access.proofs.Opened.{unrefused, seen_as, seen_to_look}

-- what a check shows of a mounted volume
abbrev shown : MountedVolume → Tree
shown m = bare (tree_in m)

tree_shown : (c : Content) (v : Volume) (t : Tree) → tree_on c v ≡ Ok t → t ≡ bare (tree_of c v)
unfolding tree_on
tree_shown c v t is =
    let r = reports c v t (unrefused broken_refusal (checked c v) t is) in
    r.2 ∙ ap bare r.1.tree

volume_shown : (c : Content) (o : OpenedToWrite) (v : Volume) → (passed Look (mounted_as c o v) >>= λ m. Ok (shown m)) ≡ volume_tree (content_behind c o) v
unfolding volume_tree tried_for
volume_shown c o v = sym (look_tests (has_version v) (tree_on (content_behind c o) v) (mounted_as c o v) shown (tree_shown (content_behind c o) v))

opened_shown : (c : Content) (o : OpenedToWrite) → loaded_in volume_tree (content_behind c o) o.geometry o.total ≡ (loaded_for Look c o >>= λ m. Ok (shown m))
unfolding loaded_for
opened_shown c o =
    sym (made_behind (volume_on (content_behind c o) o.geometry o.total) (λ v. passed Look (mounted_as c o v)) (λ m. okay (shown m)) (volume_tree (content_behind c o)) (volume_shown c o))

content_shown : (c : Content) (sectors : ℕ) → (mounted_in_for Look c sectors >>= λ m. Ok (shown m)) ≡ check_in c sectors
unfolding check_in mounted_in_for
content_shown c sectors =
    sym (made_of_other (opened_for Look c sectors) (seen_as c) (λ o. loaded_in volume_tree o.content o.geometry o.total) (loaded_for Look c) (λ m. okay (shown m)) (opened_shown c))
    ∙ ap (λ r. r >>= λ (o : Opened). loaded_in volume_tree o.content o.geometry o.total) (seen_to_look c sectors)

pub look_is_check : LookIsTheCheck
unfolding check_of mounted_for
look_is_check disk =
    sym (made_behind (needs (nat_lt 0 (length disk)) (Short 1 0)) (λ _. mounted_in_for Look (content_of (sector_of disk)) (length disk)) (λ m. okay (shown m))
    (λ _. check_in (content_of (sector_of disk)) (length disk)) (λ _. content_shown (content_of (sector_of disk)) (length disk)))
