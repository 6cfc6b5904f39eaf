-- From both mounts to the start of a volume.
use Rattle.std.proofs.Common.{◌≡◌, ℕ, ◌*◌, ◌^◌, ◌<◌, ◌≤◌, List, length, Option, Some, None, Result, Ok, refl, sym, ap, subst, ◌∙◌, arith}
use mathlib.Core.Path.{fun_ext}
use Rattle.std.specs.Prelude.{IfSome}
use Rattle.disk_model.specs.declared.block.Block.{Block}
use Rattle.disk_model.specs.Sectors.{sector_of}
use Rattle.disk_model.specs.Content.{content_of}
use Rattle.sector_device.specs.Disks.{Disk, IsSettled, SeesDisk, seen}
use Rattle.sector_device.specs.Moments.{Changes}
use Rattle.sector_device.specs.Sectors.{IsDiskOf}
use Rattle.state_model.specs.declared.geometry.Geometry.{Geometry}
use Rattle.mounted_states.specs.volume_map.declared.map.VolumeMap.{VolumeMap}
use Rattle.mounted_states.specs.volume_map.Maps.{volume_in}
use Rattle.mounted_states.specs.map_change.Parts.{MapParts, parts_of, parts_in, geometry_in}
use Rattle.log_page.specs.declared.places.LogPlace.{LogPlace}
use Rattle.store_model.specs.Geometry.{SectorBytes}
use Rattle.file_puts.specs.Written.{AreStreamsOf}
use Rattle.file_puts.specs.plan_edits.Edits.{StateHasBitmap}
use Rattle.log_recovery.specs.LogStates.{LogState}
use Rattle.log_reading.specs.declared.fault.LogRefusal.{LogRefusal}
use Rattle.log_reading.specs.Rings.{IsRingPlace}
use Rattle.log_recovery.specs.Writing.{state_with, to_write_in}
use Rattle.mounted_states.specs.image_open.LogPlaces.{LieAlike}
use Rattle.mounted_states.specs.image_open.Writing.{found_by}
use Rattle.mounted_states.specs.volume_mount.Mounts.{MountedVolume, mounted_in}
use Rattle.mounted_states.specs.state_store.Volumes.{geometry_of}
use Rattle.txn_model.specs.Values.{StoreFacts}
use Rattle.txn_model.specs.Calls.{first_facts}
use Rattle.txn_model.specs.Told.{pages_end}
use Rattle.txn_state.specs.States.{StateOf, facts_of, IsStore}
use Rattle.txn_mount.specs.Mounts.{IsMounted, ShowsRecovered, ShowsDisk}
use Rattle.txn_mount.specs.Laws.{MayMount}
use Rattle.txn_mount.specs.Plans.{items_by}
use Rattle.mounted_states.specs.found_stays.Found.{HasFirst, StaysFirst, AreOffLog, StaysOver}
use Rattle.mounted_states.proofs.found_stays.Lying.{settled_has}
use Rattle.mounted_states.specs.safe_blocks.Safe.{IsStoreOf, MountsHoldStates}
use Rattle.mounted_states.specs.Shown.{AllPutOut, AreBothMounted, StoresShowMounted}
use Rattle.mounted_states.specs.Calls.{FoundLieOff, StoresKeepFound}
use Rattle.mounted_states.specs.Starts.{IsMountedWith, BeginsWith, StoresBegin}
use Rattle.mounted_states.specs.Ready.{HasRunsAlone, MayBeChanged, StoresMayBeChanged}
use Rattle.mounted_states.proofs.Opened.{on_sectors}
use Rattle.volume_start.specs.declared.plan.StartPlan.{StartPlan}
use Rattle.volume_start.specs.Fitting.{FitsStart}
use Rattle.volume_start.specs.Plans.{PlansOn}
use Rattle.volume_start.specs.Starts.{BeginsLog, IsStarted}
use Rattle.volume_start.specs.Streams.{HasStreams}
use Rattle.volume_start.proofs.Meant.{Meant, found_meant as found_on, map_of_meant, reads}

same_state : (x y : LogState) → ◌≡◌ {A = Result LogState LogRefusal} (Ok x) (Ok y) → x ≡ y
same_state x y is = cc

module _ {D : Type 0} (gives : D → Option (List (List ℕ))) (count : D → ℕ) (changes : D → Changes) (faults moment : D → ℕ) (sees : (d : D) → SeesDisk (gives d) (changes d).disk) (whole : (d : D) → IfSome (gives d) (IsDiskOf (count d))) (few : (d : D) → count d < 2 ^ 55)
    (mounts_law : MountsHoldStates) (off_law : FoundLieOff) (out_law : AllPutOut) (keeps_law : StoresKeepFound gives count changes faults moment) (begin_law : StoresBegin) (change_law : StoresMayBeChanged) (show_law : StoresShowMounted) (bits_law : StateHasBitmap)
    (old new : D) (plan : StartPlan) (state : StateOf) (fits : FitsStart (count old) plan.place) (store : IsStore (facts_of state)) (sectors : count new ≡ count old) (mounted : IsMounted gives count changes faults moment plan.place plan.kept.items old new (facts_of state))
    (shows : ShowsRecovered plan.place plan.kept.items (changes old) (changes new) (facts_of state)) (starts : ShowsDisk (changes new) (facts_of state)) (first : List (List ℕ)) (known : gives old ≡ Some first) (on : PlansOn first plan) (settled : IfSome (changes old).disk IsSettled) where
  abbrev f : StoreFacts
  f = facts_of state

  abbrev found_meant : Meant first on.mounted
  found_meant = found_on mounts_law first plan (count old) fits on

  abbrev m : MountedVolume
  m = found_meant.meant

  -- ---- the store's place

  place_is : state.place ≡ plan.place
  place_is = ap (λ (g : StoreFacts). g.place) mounted.start

  kept_is : state.found ≡ plan.kept.items
  kept_is = ap (λ (g : StoreFacts). g.found) mounted.start

  facts : facts_of state ≡ first_facts state.place state.log state.found
  facts = subst (λ (g : StoreFacts). g ≡ first_facts g.place g.log g.found) (sym mounted.start) refl

  alike : LieAlike state.place found_meant.meant.opened.place
  alike = subst (λ (p : LogPlace). LieAlike p found_meant.meant.opened.place) (sym (place_is ∙ on.of.place)) found_meant.mounts.opened.place

  small : state.place.pages < 2 ^ 52
  small = subst (λ (p : LogPlace). p.pages < 2 ^ 52) (sym place_is) fits.ring.small

  map_is : parts_in plan.live.map ≡ parts_of found_meant.meant.content found_meant.meant.volume
  map_is = ap parts_in on.of.live ∙ map_of_meant (content_of (sector_of first)) found_meant.meant on.mounted found_meant.mounts

  volume_is : volume_in plan.live.map ≡ found_meant.meant.volume
  volume_is = ap (λ (q : MapParts). q.volume) map_is

  mounted_is : mounted_in (content_of (sector_of first)) (length first) ≡ Ok found_meant.meant
  mounted_is = on_sectors first found_meant.meant found_meant.is

  -- ---- the blocks by which its log is found

  -- a store with the blocks that are meant
  abbrev as_meant : StoreFacts
  as_meant = first_facts state.place state.log (found_by found_meant.meant.opened.geometry)

  geometry_is : geometry_in plan.live.map ≡ found_meant.meant.opened.geometry
  geometry_is = (mounts_law.geometry (content_of (sector_of first)) (length first) found_meant.meant as_meant (parts_in plan.live.map) mounted_is (record { place = alike; found = refl; small = small }) volume_is).0

  found_is : state.found ≡ found_by found_meant.meant.opened.geometry
  found_is = kept_is ∙ on.of.kept ∙ ap (λ (x : VolumeMap). found_by (geometry_in x)) (sym on.of.live) ∙ ap found_by geometry_is

  store_of : IsStoreOf (facts_of state) found_meant.meant
  store_of = record { place = alike; found = found_is; small = small }

  off : AreOffLog state.place state.found
  off = off_law (content_of (sector_of first)) (length first) found_meant.meant (facts_of state) mounted_is store_of

  off_plan : AreOffLog plan.place plan.kept.items
  off_plan = subst (λ (l : List Block). AreOffLog plan.place l) kept_is (subst (λ (p : LogPlace). AreOffLog p state.found) place_is off)

  over : StaysOver (count old) plan.kept.items (sector_of first) (changes old) (changes new)
  over = keeps_law.done plan.place plan.kept.items (facts_of state) (sector_of first) old new off_plan mounted

  before : SeesDisk (Some first) (changes old).disk
  before = subst (λ (o : Option (List (List ℕ))). SeesDisk o (changes old).disk) known (sees old)

  stays_first : StaysFirst plan.kept.items (sector_of first) (changes old)
  stays_first = by (changes old).disk before settled
    where
      by : (o : Option Disk) → SeesDisk (Some first) o → IfSome o IsSettled → IfSome o (HasFirst plan.kept.items (sector_of first))
      by None saw still = tt
      by (Some d) saw still = subst (λ (at : SectorBytes). HasFirst plan.kept.items at d) (sym (fun_ext saw)) (settled_has plan.kept.items d still)

  stays : StaysFirst state.found (sector_of first) (changes new)
  stays = subst (λ (l : List Block). StaysFirst l (sector_of first) (changes new)) (sym kept_is) (over.stays stays_first)

  shows_state : ShowsRecovered state.place state.found (changes old) (changes new) (facts_of state)
  shows_state = subst (λ (l : List Block). ShowsRecovered state.place l (changes old) (changes new) (facts_of state)) (sym kept_is) (subst (λ (p : LogPlace). ShowsRecovered p plan.kept.items (changes old) (changes new) (facts_of state)) (sym place_is) shows)

  -- ---- its session

  lap_is : mounted.found.recovered.next_lap ≡ found_meant.meant.opened.state.next_lap
  lap_is = by (changes old).disk before mounted.calls.may
    where
      by : (o : Option Disk) → SeesDisk (Some first) o → IfSome o (MayMount plan.place plan.kept.items (state_with mounted.calls.list mounted.found.recovered) (items_by mounted.found mounted.calls.keys)) → mounted.found.recovered.next_lap ≡ found_meant.meant.opened.state.next_lap
      by None saw may = absurd saw
      by (Some raw) saw may =
          let at : sector_of first ≡ seen raw = fun_ext saw in
          let log : LogState = state_with mounted.calls.list mounted.found.recovered in
          let read : to_write_in (content_of (sector_of first)) plan.place plan.kept.items ≡ Ok log = ap (λ (s : SectorBytes). to_write_in (content_of s) plan.place plan.kept.items) at ∙ may.read in
          ap (λ (s : LogState). s.next_lap) (same_state log found_meant.meant.opened.state (sym read ∙ reads mounts_law first plan (count old) fits on))

  begins_log : BeginsLog found_meant.meant (facts_of state)
  begins_log = record {
    alike = alike;
    ring = subst IsRingPlace (sym place_is) fits.ring;
    lap = ap (λ (g : StoreFacts). g.log.lap) mounted.start ∙ lap_is;
    pages = ap (λ (g : StoreFacts). g.log.pages) mounted.start ∙ sym (ap (λ (g : StoreFacts). g.place.pages) mounted.start);
    empty = ap pages_end mounted.start;
  }

  -- ---- its disk

  many : count new ≤ 2 ^ 62
  many = (let most = few new in omega (arith, most))

  whole_first : IsDiskOf (count new) first
  whole_first = subst (λ (n : ℕ). IsDiskOf n first) (sym sectors) (subst (λ (o : Option (List (List ℕ))). IfSome o (IsDiskOf (count old))) known (whole old))

  inside_is : state.place.device ≤ count new
  inside_is = subst (λ (n : ℕ). state.place.device ≤ n) (sym sectors) (subst (λ (p : LogPlace). p.device ≤ count old) (sym place_is) fits.inside)

  whole_is : 8 * state.place.clusters ≤ state.place.device
  whole_is = subst (λ (p : LogPlace). 8 * p.clusters ≤ p.device) (sym place_is) fits.whole

  module _ (disk : List (List ℕ)) (gave : gives new ≡ Some disk) where
    both : AreBothMounted (count new) first disk found_meant.meant (changes old) (changes new) (facts_of state)
    both =
        let inside = inside_is in
        let all = whole_is in
        record {
          mounted = found_meant.is;
          before = before;
          settled = settled;
          whole = whole_first;
          after = subst (λ (o : Option (List (List ℕ))). SeesDisk o (changes new).disk) gave (sees new);
          given = subst (λ (o : Option (List (List ℕ))). IfSome o (IsDiskOf (count new))) gave (whole new);
          few = many;
          facts = facts;
          found = found_is;
          alike = alike;
          small = small;
          inside = omega (arith, inside, all);
          shows = shows_state;
          starts = starts;
          stays = stays;
          untorn = λ b needed. out_law (content_of (sector_of first)) found_meant.meant.opened.state on.mounted.opening.found found_meant.mounts.opened.found on.of.out b;
        }

    with_map : IsMountedWith (count new) first disk found_meant.meant (changes old) (changes new) state (parts_in plan.live.map) plan.upper
    with_map = record { both = both; store = store; device = inside_is; map = map_is; table_is = on.of.upper ∙ found_meant.mounts.upper }

    begins : BeginsWith (count new) first disk found_meant.meant (changes new) state (parts_in plan.live.map) plan.upper
    begins = begin_law (count new) first disk found_meant.meant (changes old) (changes new) state (parts_in plan.live.map) plan.upper with_map

    may : MayBeChanged disk state (parts_in plan.live.map)
    may = change_law (count new) first disk found_meant.meant (changes old) (changes new) state (parts_in plan.live.map) plan.upper with_map (subst (λ (p : LogPlace). HasRunsAlone p) (sym place_is) fits.alone)

    streams_of_map : HasStreams (volume_in plan.live.map) plan.streams
    streams_of_map = subst (λ (x : VolumeMap). HasStreams (volume_in x) plan.streams) (sym on.of.live) on.of.streams

    eight : (geometry_of (parts_in plan.live.map)).per_cluster ≡ 8
    eight = ap (λ (g : Geometry). g.per_cluster) begins.geometry ∙ per_is
      where
        per_is : found_meant.meant.opened.geometry.per_cluster ≡ 8
        per_is = (mounts_law.suits (content_of (sector_of first)) (length first) found_meant.meant (facts_of state) found_meant.meant.content mounted_is store_of (mounts_law.stands (content_of (sector_of first)) (length first) found_meant.meant (facts_of state) mounted_is store_of)).eight

    streams : AreStreamsOf (volume_in plan.live.map) plan.streams
    streams =
        let s = streams_of_map in
        let shown = begins.begins.shown in
        record { table = s.table; mirror = s.mirror; bitmap = bits_law.bits _ (geometry_of (parts_in plan.live.map)) (volume_in plan.live.map).clusters (volume_in plan.live.map) plan.streams.bitmap eight shown.stands s.bits.stream s.bits.spelled s.bits.all }

    started : IsStarted (count new) first (gives new) (changes new) state (parts_in plan.live.map) plan.upper plan.streams
    started = record {
      mounted = found_meant.meant;
      mounts = found_meant.is;
      disk = disk;
      given = gave;
      map = map_is;
      table_is = on.of.upper ∙ found_meant.mounts.upper;
      begins = begins;
      may = may;
      streams = streams;
      device = subst (λ (n : ℕ). 8 * n ≤ state.place.device) begins.clusters whole_is;
      eight = eight;
      shows = show_law (count new) first disk found_meant.meant (changes old) (changes new) (facts_of state) both;
      log = begins_log;
    }

  -- its disk is known
  known_then : (o : Option (List (List ℕ))) → gives new ≡ o → IsStarted (count new) first (gives new) (changes new) state (parts_in plan.live.map) plan.upper plan.streams
  known_then (Some disk) gave = started disk gave
  known_then None gave = absurd (by (changes old).disk refl before)
    where
      lost : (d : Disk) → (changes new).disk ≡ Some d → SeesDisk None (changes new).disk → ⊥
      lost d is saw = subst (λ (o : Option Disk). SeesDisk None o) is saw

      by : (o : Option Disk) → (changes old).disk ≡ o → SeesDisk (Some first) o → ⊥
      by None is saw = saw
      by (Some raw) is saw =
          let log : LogState = state_with mounted.calls.list mounted.found.recovered in
          let may = subst (λ (o : Option Disk). IfSome o (MayMount plan.place plan.kept.items (state_with mounted.calls.list mounted.found.recovered) (items_by mounted.found mounted.calls.keys))) is mounted.calls.may in
          let has = (shows raw log (record { known = is; read = may.read }) (subst (λ (o : Option Disk). IfSome o IsSettled) is settled)).has in
          lost has.0 has.1 (subst (λ (o : Option (List (List ℕ))). SeesDisk o (changes new).disk) gave (sees new))

  pub started_then : IsStarted (count new) first (gives new) (changes new) state (parts_in plan.live.map) plan.upper plan.streams
  started_then = known_then (gives new) refl
