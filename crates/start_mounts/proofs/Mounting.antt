-- An image that a stopped start left mounts as the tree that was mounted.
use Rattle.std.proofs.Common.{◌≡◌, ℕ, ◌^◌, ◌<◌, Bool, true, false, ◌&&◌, cond, List, [], length, Option, Some, None, Result, Ok, refl, sym, ap, subst, ◌∙◌, inl, inr}
use Rattle.std.specs.Prelude.{◌⊎◌, is_some}
use Rattle.host_base.specs.Answers.{◌>>=◌}
use Rattle.bit_set.specs.Bits.{bit}
use Rattle.disk_model.specs.declared.block.Block.{Block}
use Rattle.disk_model.specs.Sectors.{sector_of}
use Rattle.disk_model.specs.Content.{Content, content_of}
use Rattle.record_model.specs.Records.{Record}
use Rattle.record_model.proofs.Answering.{steps_from_ok}
use Rattle.volume_model.specs.Volumes.{Volume, cluster_bits}
use Rattle.volume_state.specs.Trees.{tree_of}
use Rattle.log_model.specs.declared.entry.Entry.{Entry}
use Rattle.log_model.specs.Logs.{is_in_grid, is_shadowed, first_rival, recovered}
use Rattle.log_page.specs.declared.places.LogPlace.{LogPlace}
use Rattle.log_recovery.specs.Recovering.{shadow_lsn}
use Rattle.log_recovery.specs.Writing.{to_write_in}
use Rattle.safe_blocks.specs.image_open.declared.refusal.Refusal.{Refusal}
use Rattle.safe_blocks.specs.image_open.Writing.{OpenedToWrite, found_by, opened_to_write_in}
use Rattle.safe_blocks.proofs.image_open.Alike.{to_write_alike}
use Rattle.safe_blocks.specs.plan_owners.States.{Stands}
use Rattle.safe_blocks.specs.state_blocks.Needing.{AgreeOnNeeded, NeededIsAll}
use Rattle.safe_blocks.specs.volume_shadows.Live.{least_live}
use Rattle.safe_blocks.proofs.volume_shadows.Listing.{least_is_of}
use Rattle.safe_blocks.specs.volume_mount.Boot.{keeps_boot}
use Rattle.safe_blocks.specs.volume_mount.Mounts.{pages_lie, has_single_lists, has_no_journal, changeable, may_be_changed, loaded_on, MountedVolume, tree_in, mounted_as, mounted_in, mounted_of}
use Rattle.safe_blocks.specs.volume_mount.Welcome.{IsWelcome}
use Rattle.safe_blocks.specs.mount_laws.Laws.{LiesByRecord, MountedByRecord, PassesMount, MountedPasses}
use Rattle.safe_blocks.specs.Safe.{NeededAreSafe, MountsHoldStates}
use Rattle.txn_mount.specs.Mountable.{StoppedMountsMount}
use Rattle.mounted_states.proofs.Opened.{on_sectors as first_sectors}
use Rattle.crash_mounts.specs.Loading.{StatesLoad}
use Rattle.crash_mounts.specs.Mounting.{MountsTree}
use Rattle.crash_mounts.specs.Opening.{OpensAlike, with_state}
use Rattle.crash_mounts.proofs.Mounting.{first_parts, some_sectors, as_mounted, on_sectors}
use Rattle.start_mounts.specs.Stopped.{IsLeftInStart, StoppedStartsMount}
use Rattle.start_mounts.proofs.Agreeing.{parts, stands_first, found, found_is, log_is, agrees}

-- what a volume that may be changed shows of its attribute lists
lists_in : (place : LogPlace) (bits : List Bool) (v : Volume) → changeable place bits v ≡ Ok tt → has_single_lists v ≡ Ok tt
unfolding changeable
lists_in place bits v is =
    let lying = steps_from_ok (pages_lie place v) (λ _. has_single_lists v >>= λ _. keeps_boot bits v) tt is in
    let lists = steps_from_ok (has_single_lists v) (λ _. keeps_boot bits v) tt lying.2 in
    unit_is (has_single_lists v) lists.0 lists.1
  where
    unit_is : (r : Result (Unit {0}) Refusal) (x : Unit {0}) → r ≡ Ok x → r ≡ Ok tt
    unit_is r tt is = is

-- ---- a log without entries shadows no block

unsaid : (b : Block) (lsn : ℕ) → shadow_lsn [] b ≡ Some lsn → ⊥
unfolding is_shadowed
unsaid b lsn is = by (is_in_grid b) is
  where
    by : (g : Bool) → cond (g && false) (first_rival [] b) None ≡ Some lsn → ⊥
    by true e = cc
    by false e = cc

none_clear : (v : Volume) → least_live (shadow_lsn []) v ≡ None
none_clear v = by (least_live (shadow_lsn []) v) refl
  where
    by : (o : Option ℕ) → least_live (shadow_lsn []) v ≡ o → o ≡ None
    by None is = refl
    by (Some lsn) is = (let live = least_is_of (shadow_lsn []) v lsn is in absurd (unsaid live.0 lsn live.2))

module _ (mounts : MountsHoldStates) (safe : NeededAreSafe) (mountable : StoppedMountsMount) (all : NeededIsAll) (opens : OpensAlike) (load : StatesLoad) (by_record : MountedByRecord) (passes : MountedPasses) (first image : List (List ℕ)) (m : MountedVolume) (place : LogPlace) (x : IsLeftInStart first image m place) where
  abbrev c : Content
  c = content_of (sector_of first)

  abbrev d : Content
  d = content_of (sector_of image)

  abbrev sectors : ℕ
  sectors = length first

  abbrev log : List Entry
  log = (found mounts safe mountable first image m place x).log

  -- ---- the first mount

  is : mounted_in (content_of (sector_of first)) (length first) ≡ Ok m
  is = first_sectors first m x.mounted

  small : m.opened.place.pages < 2 ^ 52
  small = subst (λ (n : ℕ). n < 2 ^ 52) x.alike.pages x.ring.small

  lying : LiesByRecord (length first) m.content m.opened.geometry m.opened.total m.opened.place m.volume
  lying = by_record c (length first) m is small

  passed : PassesMount m
  passed = passes c (length first) m is small

  opened_first : opened_to_write_in (content_of (sector_of first)) (length first) ≡ Ok m.opened
  opened_first = (first_parts c sectors m is).opened

  -- ---- the state

  agree : AgreeOnNeeded m.content (recovered (content_of (sector_of image)) log) m.volume
  agree = agrees mounts safe mountable first image m place x

  stands : Stands (recovered (content_of (sector_of image)) log) m.opened.geometry m.opened.total m.volume
  stands = all.stands m.content (recovered d log) m.opened.geometry m.opened.total m.volume (stands_first mounts safe mountable first image m place x) agree

  tree_is : tree_of (recovered (content_of (sector_of image)) log) m.volume ≡ tree_in m
  tree_is = all.tree m.content (recovered d log) m.opened.geometry m.opened.total m.volume (stands_first mounts safe mountable first image m place x) agree

  bits_are : cluster_bits (recovered (content_of (sector_of image)) log) m.volume ≡ cluster_bits m.content m.volume
  bits_are = all.clusters m.content (recovered d log) m.volume agree

  welcome : IsWelcome (recovered (content_of (sector_of image)) log) m.volume
  welcome = record {
    version = passed.version;
    no_journal = ap (λ (u : List ℕ). has_no_journal u m.volume) (all.upper m.content (recovered d log) m.volume agree) ∙ passed.journal;
    lists = lists_in m.opened.place (cluster_bits m.content m.volume) m.volume passed.change;
    log = ap (λ (o : Option Record). is_some o) lying.is_file;
    boot = record { others = passed.boot.others; marked = ap (λ (bits : List Bool). bit bits 0) bits_are ∙ passed.boot.marked };
  }

  fit : may_be_changed m.opened.place (recovered (content_of (sector_of image)) log) m.volume ≡ Ok tt
  fit = ap (λ (bits : List Bool). changeable m.opened.place bits m.volume) bits_are ∙ passed.change

  clear : least_live (shadow_lsn log) m.volume ≡ None
  clear = by (log_is mounts safe mountable first image m place x)
    where
      by : (log ≡ m.opened.state.log) ⊎ (log ≡ []) → least_live (shadow_lsn log) m.volume ≡ None
      by (inl same) = ap (λ (l : List Entry). least_live (shadow_lsn l) m.volume) same ∙ (parts mounts safe mountable first image m place x).clear
      by (inr none) = ap (λ (l : List Entry). least_live (shadow_lsn l) m.volume) none ∙ none_clear m.volume

  -- ---- the image

  abbrev opened : OpenedToWrite
  opened = with_state m.opened (found mounts safe mountable first image m place x)

  read : to_write_in (content_of (sector_of image)) m.opened.place (found_by m.opened.geometry) ≡ Ok (found mounts safe mountable first image m place x)
  read = sym (to_write_alike d place m.opened.place x.alike (found_by m.opened.geometry)) ∙ found_is mounts safe mountable first image m place x

  is_opened : opened_to_write_in (content_of (sector_of image)) (length first) ≡ Ok (with_state m.opened (found mounts safe mountable first image m place x))
  is_opened = opens c d sectors m.opened (found mounts safe mountable first image m place x) opened_first x.bears read

  loaded : loaded_on (shadow_lsn log) m.opened.place (recovered (content_of (sector_of image)) log) m.opened.geometry m.opened.total ≡ Ok m.volume
  loaded = load (shadow_lsn log) m.opened.place (recovered d log) m.opened.geometry m.opened.total m.volume stands welcome passed.pages fit clear

  mounts_image : mounted_of image ≡ Ok (mounted_as d opened m.volume)
  mounts_image = on_sectors image sectors (mounted_as d opened m.volume) x.long (some_sectors first m x.mounted).0 (as_mounted d sectors opened m.volume is_opened loaded)

  mounts_tree : MountsTree image (tree_in m)
  mounts_tree = record { now = mounted_as d opened m.volume; mounts = mounts_image; stands = tree_is }

pub starts_mount : MountsHoldStates → NeededAreSafe → StoppedMountsMount → NeededIsAll → OpensAlike → StatesLoad → MountedByRecord → MountedPasses → StoppedStartsMount
starts_mount mounts safe mountable all opens load by_record passes first image m place x = mounts_tree mounts safe mountable all opens load by_record passes first image m place x
