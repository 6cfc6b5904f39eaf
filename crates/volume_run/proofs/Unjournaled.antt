-- A volume that is mounted has no change journal.
use Rattle.std.proofs.Common.{◌≡◌, ℕ, Bool, true, false, not, List, Option, Some, None, Result, Ok, Err, refl, sym, ap, ◌∙◌, subst}
use Rattle.std.specs.Prelude.{nat_lt, is_some, length}
use Rattle.host_base.specs.Answers.{◌>>=◌, needs}
use Rattle.record_model.proofs.Answering.{steps_from_ok, needs_from_ok}
use Rattle.disk_model.specs.Content.{Content, content_of}
use Rattle.disk_model.specs.Sectors.{sector_of}
use Rattle.state_model.specs.declared.geometry.Geometry.{Geometry}
use Rattle.volume_model.specs.Volumes.{Volume, cluster_bits, upper_of}
use Rattle.volume_state.specs.Journals.{journal_file, journal_of, some_journal, file_or_none, journal_of_file}
use Rattle.volume_state.specs.Trees.{volume_journal, tree_with, tree_of}
use Rattle.volume_mount.specs.log_recovery.Recovering.{shadow_lsn}
use Rattle.volume_mount.specs.volume_shadows.Live.{least_live}
use Rattle.log_page.specs.declared.places.LogPlace.{LogPlace}
use Rattle.volume_mount.specs.image_open.declared.refusal.Refusal.{Refusal}
use Rattle.volume_mount.specs.image_open.declared.refusal.Refusal.TheVariants.{Short, Unbuilt}
use Rattle.volume_mount.specs.image_open.Writing.{OpenedToWrite, opened_to_write_in}
use Rattle.volume_mount.specs.image_read.Checks.{volume_on, has_version, tree_on}
use Rattle.volume_mount.specs.Mounts.{MountedVolume, Said, unless_said, unshadowed, placed, journal_number, has_no_journal, has_pages, may_be_changed, ruled, settled, paged, unjournaled, tried, loaded_on, content_behind, mounted_as, mounted_by, mounted_in, mounted_of, tree_in}

none_of : {X : Type 0} (o : Option X) → not (is_some o) ≡ true → o ≡ None
none_of None e = refl
none_of (Some x) e = absurd cc

-- the value, where there is one
abbrev value_or : {A F : Type 0} → A → Result A F → A
value_or d (Ok x) = x
value_or d (Err f) = d

abbrev fine : (A F : Type 0) → A → Result A F
fine A F x = Ok x

ok_same : {A F : Type 0} (x y : A) → fine A F x ≡ fine A F y → x ≡ y
ok_same {A} {F} x y e = ap (λ (r : Result A F). value_or x r) e

journal_none : (c : Content) (v : Volume) → journal_number (upper_of c v) v ≡ None → (tree_of c v).journal ≡ None
unfolding tree_of tree_with volume_journal journal_of journal_file
journal_none c v none = ap (λ (o : Option ℕ). some_journal (journal_of_file c v.per (file_or_none v o))) none

number_none : (upper : List ℕ) (v : Volume) → has_no_journal upper v ≡ Ok tt → journal_number upper v ≡ None
unfolding has_no_journal
number_none upper v e = by_test (is_some (journal_number upper v)) refl e
  where
    by_test : (b : Bool) → is_some (journal_number upper v) ≡ b → needs (not b) (Unbuilt 6) ≡ Ok tt → journal_number upper v ≡ None
    by_test true is bad = absurd cc
    by_test false is fine = none_of (journal_number upper v) (ap not is)

same_unit : (x : Unit {0}) → x ≡ tt
same_unit tt = refl

unless_is : (said : Option ℕ) (v w : Volume) → unless_said said v ≡ Ok w → v ≡ w
unless_is None v w e = ok_same v w e
unless_is (Some lsn) v w e = absurd cc

-- what is tried and isn't refused has none, and is given back as it is
tried_is : (said : Said) (place : LogPlace) (c : Content) (v w : Volume) → tried said place c v ≡ Ok w → (tree_of c v).journal ≡ None × (v ≡ w)
unfolding tried unjournaled paged settled placed unshadowed ruled
tried_is said place c v w e =
    let version = steps_from_ok (has_version v) (λ _. unjournaled said (upper_of c v) place c v) w e in
    let journal = steps_from_ok (has_no_journal (upper_of c v) v) (λ _. paged said place c v) w version.2 in
    let pages = steps_from_ok (has_pages place) (λ _. settled said place c v) w journal.2 in
    let blocks = steps_from_ok (ruled c v) (λ x. placed said place (cluster_bits c x) x) w pages.2 in
    let lying = steps_from_ok (may_be_changed place c blocks.0) (λ _. unshadowed said blocks.0) w blocks.2 in
    let rules = steps_from_ok (tree_on c v) (λ _. Ok v) blocks.0 blocks.1 in
    (journal_none c v (number_none (upper_of c v) v (journal.1 ∙ ap (λ (x : Unit {0}). Ok x) (same_unit journal.0))), ok_same v blocks.0 rules.2 ∙ unless_is (least_live said blocks.0) blocks.0 w lying.2)

loaded_is : (said : Said) (place : LogPlace) (c : Content) (g : Geometry) (total : ℕ) (w : Volume) → loaded_on said place c g total ≡ Ok w → (tree_of c w).journal ≡ None
unfolding loaded_on
loaded_is said place c g total w e =
    let volume = steps_from_ok (volume_on c g total) (tried said place c) w e in
    let found = tried_is said place c volume.0 w volume.2 in
    subst (λ (v : Volume). (tree_of c v).journal ≡ None) found.1 found.0

by_opening : (c : Content) (o : OpenedToWrite) (m : MountedVolume) → mounted_by c o ≡ Ok m → (tree_in m).journal ≡ None
unfolding mounted_by
by_opening c o m e =
    let loaded = steps_from_ok (loaded_on (shadow_lsn o.state.log) o.place (content_behind c o) o.geometry o.total) (λ v. Ok (mounted_as c o v)) m e in
    subst (λ (x : MountedVolume). (tree_in x).journal ≡ None) (ok_same (mounted_as c o loaded.0) m loaded.2) (loaded_is (shadow_lsn o.state.log) o.place (content_behind c o) o.geometry o.total loaded.0 loaded.1)

pub no_journal : (disk : List (List ℕ)) (m : MountedVolume) → mounted_of disk ≡ Ok m → (tree_in m).journal ≡ None
unfolding mounted_of mounted_in
no_journal disk m e =
    let c = content_of (sector_of disk) in
    let some = needs_from_ok (nat_lt 0 (length disk)) (Short 1 0) (λ _. mounted_in c (length disk)) m e in
    let opened = steps_from_ok (opened_to_write_in c (length disk)) (mounted_by c) m some.1 in
    by_opening c opened.0 m opened.2
