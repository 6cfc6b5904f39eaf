-- A volume at rest rests behind changes that were put, or weren't.
use Rattle.std.proofs.Common.{◌≡◌, subst, ℕ, ◌^◌, ◌≤◌, false, List, [], ◌∷◌, Option, Some, Result, Ok, Err, refl, sym, ap, ◌∙◌, inl, inr, arith}
use Rattle.std.specs.Prelude.{is_some, unwrap_or}
use Rattle.std.specs.List.{AllByRecursion}
use Rattle.std.proofs.lemmas.List.Elements.{recursion_from_All}
use Rattle.disk_model.specs.declared.block.Block.{Block}
use Rattle.disk_model.specs.declared.block.Change.{Change}
use Rattle.disk_model.specs.Content.{Content, HasSizes, content_of}
use Rattle.sector_device.specs.Disks.{Disk, SeesDisk}
use Rattle.sector_device.specs.Moments.{Changes}
use Rattle.device_view.specs.Sizes.{sized_sectors}
use Rattle.log_model.specs.declared.entry.Entry.{Entry}
use Rattle.log_page.specs.declared.places.LogPlace.{LogPlace}
use Rattle.block_view.specs.Changes.{content_after}
use Rattle.volume_model.specs.Indexes.{void_block}
use Rattle.volume_model.specs.Volumes.{Volume}
use Rattle.member_states.proofs.stream_laws.Rewriting.{volume_parts}
use Rattle.member_states.specs.map_change.Parts.{MapParts, map_of}
use Rattle.store_model.specs.Geometry.{SectorBytes}
use Rattle.store_model.specs.Logs.{has_update}
use Rattle.store_model.specs.Stores.{Store}
use Rattle.store_claims.specs.Windows.{StoreWindow}
use Rattle.member_states.specs.txn_model.Values.{StoreFacts}
use Rattle.member_states.specs.txn_model.Calls.{begun_facts, changed_facts}
use Rattle.member_states.specs.txn_laws.Standing.{StandsBehind}
use Rattle.member_states.specs.txn_laws.Windows.{HasWindow}
use Rattle.member_states.specs.txn_state.States.{StateOf, facts_of, IsStore}
use Rattle.found_stays.specs.txn_core.Sizes.{sized_present}
use Rattle.found_stays.specs.txn_core.Views.{present_on}
use Rattle.found_stays.proofs.txn_core.PresentSizes.{keeps_sizes}
use Rattle.member_states.specs.state_store.declared.fault.PutFault.{PutFault}
use Rattle.member_states.specs.state_store.Volumes.{geometry_of}
use Rattle.member_states.specs.state_store.Changes.{MayLog, LeadsOn}
use Rattle.member_states.specs.state_store.Logging.{ChangedBy, StoppedBy}
use Rattle.member_states.specs.state_store.Windows.{AfterPutting}
use Rattle.member_states.specs.state_store.Puts.{PutsContent, PutsMap, PutsFacts, PutsOver}
use Rattle.member_states.specs.state_store.Spared.{PutsSpare}
use Rattle.member_states.proofs.state_store.Lists.{each_weaker, same_after, unchanged_by}
use Rattle.member_states.proofs.state_store.Following.{next_map}
use Rattle.member_states.proofs.state_store.Sparing.{place_stays}
use Rattle.member_states.proofs.state_store.Outcomes.{shows_state}
use Rattle.member_states.specs.Members.{VolumeBase, MembersAre}
use Rattle.member_states.specs.Leads.{VolumesMayPut}
use Rattle.member_states.specs.Puts.{PutsKeepStates}
use Rattle.member_states.proofs.Putting.{EndsBefore, unchanged_past}
use Rattle.found_stays.specs.Found.{StaysFirst, AreOffLog}
use Rattle.resting_states.specs.Resting.{base_from, Rests}
use Rattle.resting_states.specs.Puts.{AreAsked, PutsRest}
use Rattle.resting_states.proofs.Finding.{found_body}
use Rattle.resting_states.proofs.Storing.{put_store}

-- where no transaction is open none changed a block
pub shut_by : (changes : Changes) (f : StoreFacts) (w : StoreWindow) → HasWindow changes f w → f.is_open ≡ false → (b : Block) → is_some (f.before b) ≡ false
shut_by changes f w has closed b = behind has.0 has.2 has.3
  where
    behind : (raw : Disk) (m : Store) → StandsBehind f raw m → is_some (f.before b) ≡ false
    behind raw m h = sym (h.window.changed b) ∙ ap (λ (us : List Entry). has_update us b) (h.sound.closed (h.window.is_open ∙ closed))

-- ---- the log is found by the same blocks

changed_found : (gives : Option (List (List ℕ))) (xs : List Change) (f g : StoreFacts) → ChangedBy gives xs f g → g.found ≡ f.found
changed_found gives [] f g is = ap (λ (h : StoreFacts). h.found) is
changed_found gives (x ∷ xs) f g is = changed_found gives xs (changed_facts x.block x.offset x.new is.0 f) g is.2

stopped_found : (gives : Option (List (List ℕ))) (xs : List Change) (f g : StoreFacts) → StoppedBy gives xs f g → g.found ≡ f.found
stopped_found gives [] f g is = ap (λ (h : StoreFacts). h.found) is
stopped_found gives (x ∷ xs) f g (inl is) = ap (λ (h : StoreFacts). h.found) is
stopped_found gives (x ∷ xs) f g (inr is) = stopped_found gives xs (changed_facts x.block x.offset x.new is.0 f) g is.2

pub found_still : (result : Result (Unit {0}) PutFault) (xs : List Change) (gives : Option (List (List ℕ))) (f g : StoreFacts) → PutsFacts result xs gives f g → g.found ≡ f.found
found_still (Ok tt) [] gives f g is = ap (λ (h : StoreFacts). h.found) is
found_still (Ok tt) (x ∷ xs) gives f g is = ap (λ (h : StoreFacts). h.found) is.2 ∙ changed_found gives (x ∷ xs) (begun_facts f) is.0 is.1
found_still (Err failure) xs gives f g (inl is) = ap (λ (h : StoreFacts). h.found) is
found_still (Err failure) xs gives f g (inr is) = stopped_found gives xs (begun_facts f) g is

-- ---- what the states stand on

pub record SameGeometry (m n : MapParts) : Type 0 where
  pub per : n.volume.per ≡ m.volume.per
  pub mft : n.volume.mft ≡ m.volume.mft
  pub clusters : n.volume.clusters ≡ m.volume.clusters

same_self : (m n : MapParts) → n ≡ m → SameGeometry m n
same_self m n is = record { per = ap (λ (x : MapParts). x.volume.per) is; mft = ap (λ (x : MapParts). x.volume.mft) is; clusters = ap (λ (x : MapParts). x.volume.clusters) is }

-- the volume to which changes lead is found where the one before was
same_led : (m next : MapParts) (table : List ℕ) (xs : List Change) (c : Content) → LeadsOn m table xs c → map_of (content_after xs c) (geometry_of m) m.volume.clusters ≡ Ok next → SameGeometry m next
same_led m next table xs c leads is =
    let volume : next.volume ≡ leads.volume = ap (λ (x : MapParts). x.volume) (next_map m next table xs c leads is) in
    let parts = volume_parts (content_after xs c) (geometry_of m) m.volume.clusters leads.volume leads.stands.loaded in
    record { per = ap (λ (v : Volume). v.per) volume ∙ sym parts.per; mft = ap (λ (v : Volume). v.mft) volume ∙ sym parts.place; clusters = ap (λ (v : Volume). v.clusters) volume ∙ sym parts.count }

pub same_put : (result : Result (Unit {0}) PutFault) (m next : MapParts) (table : List ℕ) (xs : List Change) (c : Content) → LeadsOn m table xs c → PutsMap result xs (Some c) m next → SameGeometry m next
same_put (Ok tt) m next table xs c leads is = same_led m next table xs c leads is
same_put (Err failure) m next table xs c leads is = same_self m next is

pub same_base : (f g : StoreFacts) (first : SectorBytes) (m : MapParts) → g.place ≡ f.place → g.found ≡ f.found → base_from f first m ≡ base_from g first m
same_base f g first m place found = rw (place, found) refl

same_bases : (f g : StoreFacts) (first : SectorBytes) (m n : MapParts) → g.place ≡ f.place → g.found ≡ f.found → SameGeometry m n → base_from f first m ≡ base_from g first n
same_bases f g first m n place found same = rw (place, found, same.per, same.mft, same.clusters) refl

-- ---- the block past the end of every disk

pub one_content : (c d : Content) → Some d ≡ Some c → d ≡ c
one_content c d is = ap (λ (o : Option Content). unwrap_or o c) is

void_put : (result : Result (Unit {0}) PutFault) (m : MapParts) (table : List ℕ) (xs : List Change) (c d : Content) → HasSizes c → LeadsOn m table xs c → AllByRecursion (λ x. EndsBefore x.block) xs → PutsContent result xs (Some c) (Some d) → d void_block ≡ c void_block
void_put (Ok tt) m table xs c d sized leads ends is =
    ap (λ (e : Content). e void_block) (one_content (content_after xs c) d is ∙ sym (same_after xs c sized leads.writable)) ∙ unchanged_by xs c void_block (unchanged_past xs ends)
void_put (Err failure) m table xs c d sized leads ends is = ap (λ (e : Content). e void_block) (one_content c d is)

-- ---- the whole

module _ (spare : PutsSpare) (may : VolumesMayPut) (keep : PutsKeepStates) (result : Result (Unit {0}) PutFault) (count : ℕ) (before now : Changes) (old new : StateOf) (first : SectorBytes) (m next : MapParts) (table : List ℕ) (disk : List (List ℕ)) (xs : List Change) (w u : StoreWindow)
    (rests : Rests count before (facts_of old) first m table disk w) (asked : AreAsked old m table disk xs) (put : PutsOver result xs (Some disk) (Some disk) old new before now m next) (has : HasWindow now (facts_of new) u) (after : AfterPutting result xs w u) where
  abbrev f : StoreFacts
  f = facts_of old

  abbrev g : StoreFacts
  g = facts_of new

  each : AllByRecursion (MayLog f) xs
  each = recursion_from_All (MayLog f) xs asked.each

  place : g.place ≡ f.place
  place = place_stays result xs (Some disk) f g put.facts

  found : g.found ≡ f.found
  found = found_still result xs (Some disk) f g put.facts

  store : IsStore g
  store = put_store disk (sized_sectors (Some disk) count rests.whole) result xs f g rests.store rests.rest.closed asked.number each asked.apart (shut_by before f w rests.rest.has rests.rest.closed) put.facts

  stays : StaysFirst g.found first now
  stays = subst (λ (l : List Block). StaysFirst l first now) (sym found) (subst (λ (c : Changes). StaysFirst f.found first c) (sym put.unchanged) rests.stays)

  sees : SeesDisk (Some disk) now.disk
  sees = subst (λ (c : Changes). SeesDisk (Some disk) c.disk) (sym put.unchanged) rests.rest.sees

  ends : AllByRecursion (λ x. EndsBefore x.block) xs
  ends = each_weaker (MayLog f) (λ (x : Change). EndsBefore x.block) (λ x is. (let inside = is.inside in let near = rests.rest.near in omega (arith, inside, near))) xs each

  members : MembersAre (base_from g first next) u
  members =
      subst (λ (base : VolumeBase). MembersAre base u) (same_bases f g first m next place found (same_put result m next table xs (present_on disk f) asked.leads put.map))
      (keep.putting result f (content_of first) (geometry_of m) m.volume.clusters xs w u (may before f (content_of first) m table disk w xs rests.rest rests.state.stands asked.leads each asked.apart) after rests.rest.members)

  pub rests_put : Rests count now g first next table disk u
  rests_put = record {
    store = store;
    rest = record {
      has = has;
      sees = sees;
      closed = put.closed;
      near = subst (λ (p : LogPlace). p.device ≤ 2 ^ 62) (sym place) rests.rest.near;
      sized = sized_present (Some disk) count new (keeps_sizes new store) rests.whole;
      void = void_put result m table xs (present_on disk f) (present_on disk g) rests.rest.sized asked.leads ends put.content ∙ rests.rest.void;
      found = found_body now g first disk u has sees stays;
      spared = spare result xs disk old new before now m next table w u rests.rest.has rests.rest.closed each asked.apart asked.leads put after rests.rest.spared;
      members = members;
    };
    state = shows_state result xs m next table (Some (present_on disk f)) (Some (present_on disk g)) rests.state asked.leads put.content put.map;
    whole = rests.whole;
    few = rests.few;
    near = subst (λ (p : LogPlace). p.clusters ≤ 2 ^ 59) (sym place) rests.near;
    stays = stays;
    off = subst (λ (p : LogPlace). AreOffLog p g.found) (sym place) (subst (AreOffLog f.place) (sym found) rests.off);
  }

-- by what the device gives
pub put_known : (result : Result (Unit {0}) PutFault) (gives gave : Option (List (List ℕ))) (before now : Changes) (old new : StateOf) (m next : MapParts) (disk : List (List ℕ)) (xs : List Change) → gives ≡ Some disk → PutsOver result xs gives gave old new before now m next
    → PutsOver result xs (Some disk) (Some disk) old new before now m next
put_known result gives gave before now old new m next disk xs given put =
    subst (λ (o : Option (List (List ℕ))). PutsOver result xs o (Some disk) old new before now m next) given
    (subst (λ (o : Option (List (List ℕ))). PutsOver result xs gives o old new before now m next) (put.same ∙ given) put)

pub all_rest : PutsSpare → VolumesMayPut → PutsKeepStates → PutsRest
all_rest spare may keep = record {
  puts = λ result count gives gave before now old new first m next table disk xs w rests asked given put.
      (let known = put_known result gives gave before now old new m next disk xs given put in
      let v = put.windows w rests.rest.has in
      let has : HasWindow now (facts_of new) v.0 = subst (λ (c : Changes). HasWindow c (facts_of new) v.0) (sym put.unchanged) v.1 in
      record { window = v.0; follows = v.2; rests = rests_put spare may keep result count before now old new first m next table disk xs w v.0 rests asked known has v.2 });
  each = λ result count gives gave before now old new first m next table disk xs w u rests asked given put has after.
      rests_put spare may keep result count before now old new first m next table disk xs w u rests asked (put_known result gives gave before now old new m next disk xs given put) has after;
}
