-- A store that was mounted where a volume was begins at rest over that volume.
use Rattle.std.proofs.Common.{◌≡◌, ℕ, ◌^◌, ◌<◌, ◌≤◌, Bool, true, List, length, Option, Some, None, Result, Ok, refl, sym, ap, subst, ◌∙◌, arith}
use Rattle.std.specs.Prelude.{◌⊎◌, is_some}
use Rattle.std.specs.List.{list_any}
use Rattle.host_base.specs.Answers.{◌>>=◌}
use Rattle.bit_set.specs.Bits.{bit}
use Rattle.boot_sector.specs.BootSectors.{most_clusters}
use Rattle.file_tree.specs.declared.tree.Tree.{Tree}
use Rattle.disk_model.specs.declared.block.Block.{Block}
use Rattle.disk_model.specs.Sectors.{sector_of, same_block}
use Rattle.disk_model.specs.Content.{Content, content_of}
use Rattle.sector_device.specs.Moments.{Changes}
use Rattle.log_page.specs.declared.places.LogPlace.{LogPlace}
use Rattle.record_model.specs.Records.{Record}
use Rattle.record_model.proofs.Answering.{steps_from_ok}
use Rattle.state_model.specs.declared.geometry.Geometry.{Geometry}
use Rattle.volume_model.specs.Volumes.{Volume, cluster_bits, upper_of}
use Rattle.volume_state.specs.Trees.{tree_of}
use Rattle.safe_blocks.specs.map_change.Parts.{MapParts, parts_of}
use Rattle.safe_blocks.specs.plan_owners.States.{Stands}
use Rattle.safe_blocks.specs.plan_spares.Plans.{HasOwnLists}
use Rattle.safe_blocks.specs.state_blocks.Needing.{IsNeeded, NeededIsAll}
use Rattle.safe_blocks.specs.image_open.Writing.{found_by}
use Rattle.safe_blocks.specs.image_open.declared.refusal.Refusal.{Refusal}
use Rattle.safe_blocks.specs.volume_mount.Boot.{keeps_boot}
use Rattle.safe_blocks.specs.volume_mount.Welcome.{IsWelcome}
use Rattle.safe_blocks.specs.volume_mount.Mounts.{pages_lie, has_single_lists, has_no_journal, changeable, MountedVolume, tree_in, mounted_in}
use Rattle.safe_blocks.specs.mount_laws.Laws.{LiesByRecord, MountedByRecord, PassesMount, MountedPasses}
use Rattle.store_model.specs.Volumes.{is_known}
use Rattle.txn_model.specs.Values.{StoreFacts, is_own, own_of}
use Rattle.safe_blocks.specs.txn_laws.Laws.{WindowsTell}
use Rattle.txn_state.specs.States.{StateOf, facts_of}
use Rattle.safe_blocks.specs.txn_core.Views.{present_on}
use Rattle.safe_blocks.specs.state_store.Volumes.{geometry_of, IsStateOf, SparesState}
use Rattle.safe_blocks.specs.spares_at_mount.Mounts.{LiesInLog, StoresSpare}
use Rattle.resting_states.specs.Starts.{BeginsAtRest}
use Rattle.safe_blocks.specs.Safe.{SuitsStore, NeededAreSafe, IsStoreOf, MountsHoldStates}
use Rattle.mounted_states.specs.Shown.{ShowsMounted}
use Rattle.mounted_states.specs.Starts.{IsMountedWith, BeginsWith, StoresBegin}
use Rattle.mounted_states.specs.Ready.{HasRunsAlone, MayBeChanged, StoresMayBeChanged}
use Rattle.mounted_states.proofs.Opened.{MountedBy, mounted_parts, on_sectors}
use Rattle.mounted_states.proofs.Showing.{shows_mounted}
use Rattle.mounted_states.proofs.Calls.{lie_off}
use Rattle.mounted_states.proofs.Ready.{journal_none, runs_lie}

-- what a volume that may be changed shows of its attribute lists
lists_in : (place : LogPlace) (bits : List Bool) (v : Volume) → changeable place bits v ≡ Ok tt → has_single_lists v ≡ Ok tt
unfolding changeable
lists_in place bits v is =
    let lying = steps_from_ok (pages_lie place v) (λ _. has_single_lists v >>= λ _. keeps_boot bits v) tt is in
    let lists = steps_from_ok (has_single_lists v) (λ _. keeps_boot bits v) tt lying.2 in
    unit_is (has_single_lists v) lists.0 lists.1
  where
    unit_is : (r : Result (Unit {0}) Refusal) (x : Unit {0}) → r ≡ Ok x → r ≡ Ok tt
    unit_is r tt is = is

module _ (mounts : MountsHoldStates) (safe : NeededAreSafe) (all : NeededIsAll) (spare : StoresSpare) (tells : WindowsTell) (count : ℕ) (first disk : List (List ℕ)) (m : MountedVolume) (old now : Changes) (state : StateOf) (p : MapParts) (table : List ℕ) (x : IsMountedWith count first disk m old now state p table) where
  abbrev c : Content
  c = content_of (sector_of first)

  abbrev f : StoreFacts
  f = facts_of state

  abbrev d : Content
  d = present_on disk (facts_of state)

  is : mounted_in (content_of (sector_of first)) (length first) ≡ Ok m
  is = on_sectors first m x.both.mounted

  parts : MountedBy (content_of (sector_of first)) m
  parts = mounted_parts (content_of (sector_of first)) (length first) m is

  store : IsStoreOf (facts_of state) m
  store = record { place = x.both.alike; found = x.both.found; small = x.both.small }

  shows : ShowsMounted m (present_on disk (facts_of state))
  shows = shows_mounted mounts safe all tells count first disk m old now (facts_of state) x.both

  suits : SuitsStore (present_on disk (facts_of state)) m.opened.geometry m.opened.total state.place m.volume
  suits = mounts.suits c (length first) m (facts_of state) d is store shows.stands

  -- ---- the map

  same_volume : p.volume ≡ m.volume
  same_volume = ap (λ (q : MapParts). q.volume) x.map

  places : (geometry_of p ≡ m.opened.geometry) × (p.volume.clusters ≡ m.opened.total)
  places = mounts.geometry c (length first) m (facts_of state) p is store same_volume

  stands_map : Stands (present_on disk (facts_of state)) (geometry_of p) p.volume.clusters p.volume
  stands_map =
      subst (λ (v : Volume). Stands d (geometry_of p) p.volume.clusters v) (sym same_volume)
      (subst (λ (n : ℕ). Stands d (geometry_of p) n m.volume) (sym places.1) (subst (λ (g : Geometry). Stands d g m.opened.total m.volume) (sym places.0) shows.stands))

  is_state : IsStateOf p table (present_on disk (facts_of state))
  is_state = record {
    stands = stands_map;
    map = x.map ∙ sym shows.map ∙ ap (parts_of d) (sym same_volume);
    upper = x.table_is ∙ sym shows.upper ∙ ap (upper_of d) (sym same_volume);
  }

  lists : HasOwnLists (present_on disk (facts_of state)) p.volume
  lists = subst (HasOwnLists d) (sym same_volume) suits.lists

  lies : LiesInLog state.place p.volume
  lies = subst (LiesInLog state.place) (sym same_volume) suits.lies

  eight : p.volume.per ≡ 8
  eight = ap (λ (g : Geometry). g.per_cluster) places.0 ∙ suits.eight

  spares : SparesState now (facts_of state) p.volume disk
  spares = spare (Some disk) now state p table x.both.after x.both.starts x.both.facts eight suits.ring lies is_state lists

  needed : (b : Block) → IsNeeded (present_on disk (facts_of state)) p.volume b → (is_known (own_of (facts_of state)) b ≡ true) ⊎ (list_any (same_block b) state.found ≡ true)
  needed b need =
      subst (λ (l : List Block). (is_known (is_own state.place l) b ≡ true) ⊎ (list_any (same_block b) l ≡ true)) (sym x.both.found)
      (safe.known d m.opened.geometry m.opened.total state.place m.volume b suits (subst (λ (v : Volume). IsNeeded d v b) same_volume need))

  near : state.place.device ≤ 2 ^ 62
  near = (let device = x.device in let few = x.both.few in omega (arith, device, few))

  begins : BeginsAtRest count now state (sector_of first) p table disk
  begins =
      let few = x.both.few in
      let inside = x.both.inside in
      record {
        sees = x.both.after;
        whole = x.both.given;
        few = few;
        start = x.both.starts;
        facts = x.both.facts;
        store = x.store;
        device = near;
        clusters = omega (arith, few, inside);
        shown = is_state;
        spares = spares;
        safe = needed;
        stays = x.both.stays;
        off = lie_off mounts c (length first) m (facts_of state) is store;
      }

  clusters_are : state.place.clusters ≡ p.volume.clusters
  clusters_are = x.both.alike.clusters ∙ parts.clusters ∙ sym places.1

  begins_with : BeginsWith count first disk m now state p table
  begins_with = record {
    begins = begins;
    holds = record { closed = ap (λ (h : StoreFacts). h.is_open) x.both.facts; near = near; shown = is_state; spares = spares };
    lists = lists;
    ring = suits.ring;
    lies = lies;
    geometry = places.0;
    total = places.1;
    clusters = clusters_are;
    found = x.both.found ∙ ap found_by (sym places.0);
    alike = x.both.alike;
    long = x.both.whole.counted;
  }

  -- ---- what it has to be changed

  journal : (tree_of (present_on disk (facts_of state)) p.volume).journal ≡ None
  journal = subst (λ (v : Volume). (tree_of d v).journal ≡ None) (sym same_volume) (ap (λ (t : Tree). t.journal) shows.tree ∙ ap (λ (t : Tree). t.journal) (tree_is m) ∙ journal_none m.content m.volume parts.journal)
    where
      tree_is : (x : MountedVolume) → tree_in x ≡ tree_of x.content x.volume
      tree_is x = refl

  few : p.volume.clusters ≤ most_clusters
  few = subst (λ (n : ℕ). n ≤ most_clusters) (sym places.1) parts.few

  module _ (by_record : MountedByRecord) (passes : MountedPasses) where
    small : m.opened.place.pages < 2 ^ 52
    small = subst (λ (n : ℕ). n < 2 ^ 52) x.both.alike.pages x.both.small

    lying : LiesByRecord (length first) m.content m.opened.geometry m.opened.total m.opened.place m.volume
    lying = by_record c (length first) m is small

    passed : PassesMount m
    passed = passes c (length first) m is small

    single : has_single_lists m.volume ≡ Ok tt
    single = lists_in m.opened.place (cluster_bits m.content m.volume) m.volume passed.change

    upper_is : upper_of d m.volume ≡ upper_of m.content m.volume
    upper_is = shows.upper

    bits_are : cluster_bits d m.volume ≡ cluster_bits m.content m.volume
    bits_are = ap (λ (q : MapParts). q.clusters) shows.map

    welcome : IsWelcome (present_on disk (facts_of state)) m.volume
    welcome = record {
      version = passed.version;
      no_journal = ap (λ (u : List ℕ). has_no_journal u m.volume) upper_is ∙ passed.journal;
      lists = single;
      log = ap (λ (o : Option Record). is_some o) lying.is_file;
      boot = record { others = passed.boot.others; marked = ap (λ (bits : List Bool). bit bits 0) bits_are ∙ passed.boot.marked };
    }

    may_be_changed : HasRunsAlone state.place → MayBeChanged disk state p
    may_be_changed alone = record {
      welcome = subst (IsWelcome d) (sym same_volume) welcome;
      journal = journal;
      few = few;
      runs = runs_lie state.place p.volume suits.ring lies alone;
    }

pub all_may : MountsHoldStates → NeededAreSafe → NeededIsAll → WindowsTell → StoresSpare → MountedByRecord → MountedPasses → StoresMayBeChanged
all_may mounts safe all tells spare by_record passes count first disk m old now state p table x alone = may_be_changed mounts safe all spare tells count first disk m old now state p table x by_record passes alone

pub all_begin : MountsHoldStates → NeededAreSafe → NeededIsAll → StoresSpare → WindowsTell → StoresBegin
all_begin mounts safe all spare tells count first disk m old now state p table x = begins_with mounts safe all spare tells count first disk m old now state p table x
