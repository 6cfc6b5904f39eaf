-- What is mounted for anything is mounted to look, and the image stands for its tree.
use Rattle.std.proofs.Common.{◌≡◌, ℕ, List, length, None, Ok, refl, sym, ap, ◌∙◌, subst}
use Rattle.std.specs.Prelude.{nat_lt}
use Rattle.host_base.specs.Answers.{◌>>=◌, needs}
use Rattle.disk_model.specs.Sectors.{sector_of}
use Rattle.disk_model.specs.Content.{Content, content_of}
use Rattle.volume_model.specs.Volumes.{Volume, volume_of}
use Rattle.volume_state.specs.Rules.{first_broken}
use Rattle.volume_state.specs.Trees.{checked}
use Rattle.volume_state.proofs.Reports.{reports}
use Rattle.volume_mount.specs.image_open.declared.refusal.Refusal.TheVariants.{Short}
use Rattle.volume_mount.specs.image_open.Errors.{map_refusal}
use Rattle.volume_mount.specs.image_open.Writing.{OpenedToWrite}
use Rattle.volume_mount.specs.image_read.Errors.{broken_refusal}
use Rattle.volume_mount.specs.image_read.Checks.{volume_on, has_version, tree_on}
use Rattle.volume_mount.specs.image_read.States.{StandsFor}
use Rattle.volume_mount.specs.Mounts.{MountedVolume, upper_in, tree_in, content_behind, mounted_as, has_no_journal, has_pages, may_be_changed}
use Rattle.mount_access.specs.declared.access.Access.{Access}
use Rattle.mount_access.specs.declared.access.Access.TheVariants.{Look, Journal, Change}
use Rattle.mount_access.specs.Mounts.{keeps_rules, has_journal, has_no_shadow, tried_for, passed, opened_for, loaded_for, mounted_in_for, mounted_for}
use Rattle.mount_access.specs.Laws.{MountsToLook, StandsForItsTree}
use Rattle.mount_access.proofs.Steps.{okay, steps, also, third_test}
use Rattle.mount_access.proofs.Opened.{unrefused, opened_too, seen_as, seen_to_look}

-- ---- to look

tried_too : (how : Access) (m : MountedVolume) (x : Unit {0}) → tried_for how m ≡ Ok x → tried_for Look m ≡ Ok x
unfolding tried_for
tried_too Look m x is = is
tried_too Journal m x is =
    also (has_version m.volume) (has_version m.volume) (λ _. has_journal m >>= λ _. keeps_rules m) (λ _. keeps_rules m) x (λ y e. e)
    (λ y e. (steps (has_journal m) (λ _. keeps_rules m) x e).2) is
tried_too Change m x is =
    let journal = has_no_journal (upper_in m) m.volume in
    let pages = has_pages m.opened.place in
    let lies = may_be_changed m.opened.place m.content m.volume in
    also (has_version m.volume) (has_version m.volume) (λ _. journal >>= λ _. pages >>= λ _. keeps_rules m >>= λ _. lies >>= λ _. has_no_shadow m) (λ _. keeps_rules m) x (λ y e. e)
    (λ y e. third_test journal pages (keeps_rules m) lies (has_no_shadow m) x e) is

passed_too : (how : Access) (m n : MountedVolume) → passed how m ≡ Ok n → passed Look m ≡ Ok n
passed_too how m n is = also (tried_for how m) (tried_for Look m) (λ _. okay m) (λ _. okay m) n (tried_too how m) (λ x e. e) is

loaded_too : (how : Access) (c : Content) (o : OpenedToWrite) (m : MountedVolume) → loaded_for how c o ≡ Ok m → loaded_for Look c o ≡ Ok m
unfolding loaded_for
loaded_too how c o m is =
    let load = volume_on (content_behind c o) o.geometry o.total in
    also load load (λ v. passed how (mounted_as c o v)) (λ v. passed Look (mounted_as c o v)) m (λ v e. e) (λ v e. passed_too how (mounted_as c o v) m e) is

mounted_too : (how : Access) (c : Content) (sectors : ℕ) (m : MountedVolume) → mounted_in_for how c sectors ≡ Ok m → mounted_in_for Look c sectors ≡ Ok m
unfolding mounted_in_for
mounted_too how c sectors m is = also (opened_for how c sectors) (opened_for Look c sectors) (loaded_for how c) (loaded_for Look c) m (opened_too how c sectors) (λ o e. loaded_too how c o m e) is

pub to_look : MountsToLook
unfolding mounted_for
to_look how disk m is =
    let c = content_of (sector_of disk) in
    let some = needs (nat_lt 0 (length disk)) (Short 1 0) in
    also some some (λ _. mounted_in_for how c (length disk)) (λ _. mounted_in_for Look c (length disk)) m (λ x e. e) (λ x e. mounted_too how c (length disk) m e) is

-- ---- the tree

-- what a volume that is mounted to look has passed
record Passed (c : Content) (o : OpenedToWrite) (m : MountedVolume) : Type 0 where
  volume : Volume
  loaded : volume_of (content_behind c o) o.geometry o.total ≡ Ok volume
  kept : first_broken (content_behind c o) volume ≡ None
  same : mounted_as c o volume ≡ m

has_passed : (c : Content) (o : OpenedToWrite) (m : MountedVolume) → loaded_for Look c o ≡ Ok m → Passed c o m
unfolding loaded_for volume_on tried_for tree_on
has_passed c o m is =
    let content = content_behind c o in
    let load = steps (volume_on content o.geometry o.total) (λ v. passed Look (mounted_as c o v)) m is in
    let tests = steps (tried_for Look (mounted_as c o load.0)) (λ _. okay (mounted_as c o load.0)) m load.2 in
    let version = steps (has_version load.0) (λ _. tree_on content load.0 >>= λ _. Ok (tt {0})) tests.0 tests.1 in
    let tree = steps (tree_on content load.0) (λ _. okay (tt {0})) tests.0 version.2 in
    let report = reports content load.0 tree.0 (unrefused broken_refusal (checked content load.0) tree.0 tree.1) in
    record {
      volume = load.0;
      loaded = unrefused map_refusal (volume_of content o.geometry o.total) load.0 load.1;
      kept = report.1.kept;
      same = cc;
    }

looked_stands : (disk : List (List ℕ)) (m : MountedVolume) → mounted_for Look disk ≡ Ok m → StandsFor disk (tree_in m)
unfolding mounted_for mounted_in_for
looked_stands disk m is =
    let c = content_of (sector_of disk) in
    let some = steps (needs (nat_lt 0 (length disk)) (Short 1 0)) (λ _. opened_for Look c (length disk) >>= loaded_for Look c) m is in
    let opened = steps (opened_for Look c (length disk)) (loaded_for Look c) m some.2 in
    let p = has_passed c opened.0 m opened.2 in
    subst (λ (n : MountedVolume). StandsFor disk (tree_in n)) p.same (record {
      opening = seen_as c opened.0;
      opened = sym (seen_to_look c (length disk)) ∙ ap (λ r. r >>= λ o. okay (seen_as c o)) opened.1;
      state = record { volume = p.volume; loaded = p.loaded; holds = record { kept = p.kept; tree = refl } };
    })

pub stands_for_tree : StandsForItsTree
stands_for_tree how disk m is = looked_stands disk m (to_look how disk m is)
