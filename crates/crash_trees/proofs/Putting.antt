-- The trees of a volume behind changes that were put, or weren't.
use Rattle.std.proofs.Common.{◌≡◌, ℕ, zero, suc, ◌≤◌, List, [], ◌∷◌, Some, Result, Ok, Err, subst, refl, sym, ap, ◌∙◌, arith}
use mathlib.Core.Path.{fun_ext}
use Rattle.std.specs.List.{AllByRecursion}
use Rattle.std.proofs.lemmas.List.Elements.{recursion_from_All}
use Rattle.disk_model.specs.declared.block.Change.{Change}
use Rattle.disk_model.specs.Content.{Content}
use Rattle.disk_model.specs.Sectors.{sector_of}
use Rattle.sector_device.specs.Moments.{Changes}
use Rattle.file_tree.specs.declared.tree.Tree.{Tree}
use Rattle.block_view.specs.Changes.{content_after}
use Rattle.volume_model.specs.Volumes.{Volume}
use Rattle.volume_state.specs.Trees.{tree_of}
use Rattle.stream_laws.specs.Sharing.{stream_at, runs_in}
use Rattle.crash_mounts.specs.map_change.Parts.{MapParts, map_of}
use Rattle.crash_mounts.specs.plan_owners.Agreeing.{log_key}
use Rattle.crash_mounts.specs.plan_owners.States.{Stands}
use Rattle.crash_mounts.specs.state_blocks.Needing.{NeededIsAll}
use Rattle.log_page.specs.declared.places.LogPlace.{LogPlace}
use Rattle.log_reading.specs.Rings.{IsRingPlace}
use Rattle.crash_mounts.specs.image_open.LogPlaces.{LieAlike}
use Rattle.crash_mounts.specs.volume_mount.Mounts.{MountedVolume}
use Rattle.store_claims.specs.Windows.{StoreWindow}
use Rattle.crash_mounts.specs.txn_model.Values.{StoreFacts}
use Rattle.crash_mounts.specs.txn_state.States.{StateOf, facts_of}
use Rattle.crash_mounts.specs.txn_core.Views.{present_on}
use Rattle.crash_mounts.specs.state_store.declared.fault.PutFault.{PutFault}
use Rattle.crash_mounts.specs.state_store.Volumes.{geometry_of}
use Rattle.crash_mounts.specs.state_store.Changes.{MayLog, LeadsOn}
use Rattle.crash_mounts.specs.state_store.Windows.{AfterPut, StaysWindow, AfterPutting}
use Rattle.crash_mounts.specs.state_store.Puts.{PutsOver}
use Rattle.crash_mounts.proofs.state_store.Following.{next_map}
use Rattle.crash_mounts.proofs.state_store.Sparing.{place_stays}
use Rattle.crash_mounts.specs.member_states.Members.{VolumeBase, MemberIs}
use Rattle.crash_mounts.proofs.member_states.Putting.{one_volume}
use Rattle.crash_mounts.specs.volume_mount.Welcome.{IsWelcome}
use Rattle.crash_mounts.specs.Mounting.{base_behind}
use Rattle.resting_states.specs.Resting.{Rests}
use Rattle.resting_states.specs.Puts.{AreAsked, PutsRest}
use Rattle.resting_states.proofs.Putting.{SameGeometry, found_still, same_put, one_content, put_known}
use Rattle.crash_trees.specs.Trees.{StandsForTree, AreTrees, IsMountedOn, HoldsTrees}
use Rattle.crash_trees.specs.Puts.{ShowsNewest, KeepsWelcome, trees_after, TreesPut}
use Rattle.crash_trees.proofs.Reading.{base_is, newest_for, shows_newest}
use Rattle.crash_trees.proofs.Claiming.{none_on_log, putting_claimed}

-- ---- the map that is kept then

mount_next : (count : ℕ) (f g : StoreFacts) (first : List (List ℕ)) (mounted : MountedVolume) (m next : MapParts) → g.place ≡ f.place → g.found ≡ f.found → SameGeometry m next → IsMountedOn count f first mounted m → IsMountedOn count g first mounted next
mount_next count f g first mounted m next place found same k =
    let geometry : geometry_of next ≡ geometry_of m = rw (same.per, same.mft) refl in
    record {
      mounts = k.mounts;
      counted = k.counted;
      geometry = geometry ∙ k.geometry;
      clusters = same.clusters ∙ k.clusters;
      found = found ∙ k.found;
      alike = subst (λ (p : LogPlace). LieAlike p mounted.opened.place) (sym place) k.alike;
      ring = subst IsRingPlace (sym place) k.ring;
    }

-- ---- what stands for a tree stays

module _ (count : ℕ) (now : Changes) (f g : StoreFacts) (first : List (List ℕ)) (mounted : MountedVolume) (next : MapParts) (table : List ℕ) (disk : List (List ℕ)) (w u : StoreWindow) (rests : Rests count now g (sector_of first) next table disk u) (mount : IsMountedOn count g first mounted next) where
  abbrev base : VolumeBase
  base = base_behind first mounted g.place

  -- the same content, where it counts now
  moved : (k j : ℕ) (t : Tree) → j ≤ u.waiting → u.before j ≡ w.before k → StandsForTree (base_behind first mounted f.place) mounted w k t → StandsForTree base mounted u j t
  moved k j t low same x =
      let is = rests.rest.members.members j low in
      let here : MemberIs base u j is.0 = subst (λ (b : VolumeBase). MemberIs b u j is.0) (base_is count g first mounted next mount) is.1 in
      let there : Stands (u.before j) mounted.opened.geometry mounted.opened.total x.volume = subst (λ (c : Content). Stands c mounted.opened.geometry mounted.opened.total x.volume) (sym same) x.member.stands in
      let volume : is.0 ≡ x.volume = one_volume (u.before j) mounted.opened.geometry mounted.opened.total is.0 x.volume here.stands there in
      record {
        volume = x.volume;
        member = subst (MemberIs base u j) volume here;
        welcome = subst (λ (c : Content). IsWelcome c x.volume) (sym same) x.welcome;
        log = x.log;
        is_tree = ap (λ (c : Content). tree_of c x.volume) same ∙ x.is_tree;
      }

  pub stay_trees : (trees : List Tree) (xs : List Change) → AreTrees (base_behind first mounted f.place) mounted w trees → StaysWindow xs w u → AreTrees base mounted u trees
  stay_trees trees xs are after k low =
      let waits = after.waiting in
      let lies : k ≤ w.waiting = omega (arith, low, waits) in
      let x = are k lies in
      (x.0, x.1, moved k k x.0 low (fun_ext (after.others k lies)) x.2)

  pub more_trees : (trees : List Tree) (xs : List Change) (tree : Tree) → AreTrees (base_behind first mounted f.place) mounted w trees → AfterPut xs w u → StandsForTree base mounted u 0 tree → AreTrees base mounted u (tree ∷ trees)
  more_trees trees xs tree are after new zero low = (tree, refl, new)
  more_trees trees xs tree are after new (suc k) low =
      let waits = after.waiting in
      let lies : k ≤ w.waiting = omega (arith, low, waits) in
      let x = are k lies in
      (x.0, x.1, moved k (suc k) x.0 low (fun_ext (after.others k lies)) x.2)

-- ---- the new state

module _ (law : NeededIsAll) (count : ℕ) (now : Changes) (f g : StoreFacts) (first : List (List ℕ)) (mounted : MountedVolume) (m next : MapParts) (table : List ℕ) (disk : List (List ℕ)) (xs : List Change) (u : StoreWindow) (leads : LeadsOn m table xs (present_on disk f)) (keeps : KeepsWelcome (present_on disk f) m table xs leads)
    (welcome : IsWelcome (present_on disk f) m.volume) (log : runs_in (stream_at m.volume log_key) ≡ runs_in (stream_at mounted.volume log_key)) (rests : Rests count now g (sector_of first) next table disk u) (mount : IsMountedOn count g first mounted next) where
  pub new_stands : map_of (content_after xs (present_on disk f)) (geometry_of m) m.volume.clusters ≡ Ok next → present_on disk g ≡ content_after xs (present_on disk f) → StandsForTree (base_behind first mounted g.place) mounted u 0 (tree_of (present_on disk g) next.volume)
  new_stands map content =
      let volume : next.volume ≡ leads.volume = ap (λ (x : MapParts). x.volume) (next_map m next table xs (present_on disk f) leads map) in
      let there : IsWelcome (content_after xs (present_on disk f)) next.volume = subst (IsWelcome (content_after xs (present_on disk f))) (sym volume) (keeps.welcome welcome) in
      newest_for law count now g first mounted next table disk u rests mount (subst (λ (c : Content). IsWelcome c next.volume) (sym content) there)
      (ap (λ (v : Volume). runs_in (stream_at v log_key)) volume ∙ keeps.log ∙ log)

-- ---- the whole

put_trees : NeededIsAll → (result : Result (Unit {0}) PutFault) (count : ℕ) (before now : Changes) (old new : StateOf) (first : List (List ℕ)) (mounted : MountedVolume) (m next : MapParts) (table : List ℕ) (disk : List (List ℕ)) (trees : List Tree) (xs : List Change) (w u : StoreWindow) (asked : AreAsked old m table disk xs)
    → KeepsWelcome (present_on disk (facts_of old)) m table xs asked.leads → ShowsNewest (facts_of old) mounted m disk trees → AreTrees (base_behind first mounted (facts_of old).place) mounted w trees → PutsOver result xs (Some disk) (Some disk) old new before now m next
    → Rests count now (facts_of new) (sector_of first) next table disk u → IsMountedOn count (facts_of new) first mounted next → AfterPutting result xs w u
    → AreTrees (base_behind first mounted (facts_of new).place) mounted u (trees_after result xs (tree_of (present_on disk (facts_of new)) next.volume) trees)
put_trees law (Ok tt) count before now old new first mounted m next table disk trees [] w u asked keeps shows are put rests mount after = stay_trees count now (facts_of old) (facts_of new) first mounted next table disk w u rests mount trees [] are after
put_trees law (Ok tt) count before now old new first mounted m next table disk trees (x ∷ xs) w u asked keeps shows are put rests mount after =
    let f = facts_of old in
    let g = facts_of new in
    let content = one_content (content_after (x ∷ xs) (present_on disk f)) (present_on disk g) put.content in
    more_trees count now f g first mounted next table disk w u rests mount trees (x ∷ xs) (tree_of (present_on disk g) next.volume) are after
    (new_stands law count now f g first mounted m next table disk (x ∷ xs) u asked.leads keeps shows.welcome shows.log rests mount put.map content)
put_trees law (Err e) count before now old new first mounted m next table disk trees xs w u asked keeps shows are put rests mount after = stay_trees count now (facts_of old) (facts_of new) first mounted next table disk w u rests mount trees xs are after

module _ (law : NeededIsAll) (result : Result (Unit {0}) PutFault) (count : ℕ) (before now : Changes) (old new : StateOf) (first : List (List ℕ)) (mounted : MountedVolume) (m next : MapParts) (table : List ℕ) (disk : List (List ℕ)) (trees : List Tree) (xs : List Change) (w u : StoreWindow)
    (holds : HoldsTrees count before (facts_of old) first mounted m table disk trees w) (asked : AreAsked old m table disk xs) (keeps : KeepsWelcome (present_on disk (facts_of old)) m table xs asked.leads) (put : PutsOver result xs (Some disk) (Some disk) old new before now m next)
    (rests : Rests count now (facts_of new) (sector_of first) next table disk u) (after : AfterPutting result xs w u) where
  abbrev f : StoreFacts
  f = facts_of old

  abbrev g : StoreFacts
  g = facts_of new

  mount : IsMountedOn count (facts_of new) first mounted next
  mount = mount_next count f g first mounted m next (place_stays result xs (Some disk) f g put.facts) (found_still result xs (Some disk) f g put.facts) (same_put result m next table xs (present_on disk f) asked.leads put.map) holds.mount

  shows : ShowsNewest (facts_of old) mounted m disk trees
  shows = shows_newest law count before f first mounted m table disk w holds.rests holds.mount trees holds.each

  each : AllByRecursion (MayLog (facts_of old)) xs
  each = recursion_from_All (MayLog f) xs asked.each

  held : HoldsTrees count now (facts_of new) first mounted next table disk (trees_after result xs (tree_of (present_on disk (facts_of new)) next.volume) trees) u
  held = record {
    rests = rests;
    mount = mount;
    each = put_trees law result count before now old new first mounted m next table disk trees xs w u asked keeps shows holds.each put rests mount after;
    claims = putting_claimed result mounted.volume xs w u (none_on_log f mounted.volume m.volume xs shows.log each keeps.apart) after holds.claims;
  }

pub trees_put : NeededIsAll → PutsRest → TreesPut
trees_put law puts result count gives gave before now old new first mounted m next table disk trees xs w holds asked keeps given put =
    let known = put_known result gives gave before now old new m next disk xs given put in
    let r = puts.puts result count gives gave before now old new (sector_of first) m next table disk xs w holds.rests asked given put in
    record { window = r.window; follows = r.follows; holds = held law result count before now old new first mounted m next table disk trees xs w r.window holds asked keeps known r.rests r.follows }
