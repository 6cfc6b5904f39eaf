-- The trees of a volume, over its calls.
use Rattle.std.proofs.Common.{◌≡◌, subst, ℕ, suc, ◌<◌, List, [], ◌∷◌, length, Option, Some, Result, Ok, Err, sym, ap, ◌∙◌, inl, inr, arith}
use Rattle.std.specs.Prelude.{IfSome}
use Rattle.std.specs.List.{AllByRecursion}
use Rattle.std.specs.Option.{option_map}
use Rattle.host_base.specs.declared.outside.Failed.{Failed}
use Rattle.host_base.proofs.Known.{one}
use Rattle.disk_model.specs.declared.block.Change.{Change}
use Rattle.disk_model.specs.Content.{Content}
use Rattle.disk_model.specs.Sectors.{sector_of}
use Rattle.sector_device.specs.Moments.{Changes}
use Rattle.file_tree.specs.declared.tree.Tree.{Tree}
use Rattle.volume_model.specs.Owners.{uses}
use Rattle.stream_laws.specs.Sharing.{stream_at, runs_in}
use Rattle.working_volume.specs.plan_owners.Agreeing.{log_key}
use Rattle.working_volume.specs.plan_owners.Kinds.{cluster_of}
use Rattle.volume_state.specs.Trees.{tree_of}
use Rattle.working_volume.specs.volume_mount.Mounts.{MountedVolume}
use Rattle.working_volume.specs.map_change.Parts.{MapParts, map_of}
use Rattle.state_model.specs.declared.geometry.MapRefusal.{MapRefusal}
use Rattle.working_volume.specs.writes_keep.Writes.{IsOffLog}
use Rattle.working_volume.specs.file_puts.declared.streams.VolumeStreams.{VolumeStreams}
use Rattle.working_volume.specs.plans_lead.Leading.{LeadsAsAsked}
use Rattle.tree_model.specs.declared.script.Op.{Op}
use Rattle.tree_model.specs.declared.reply.Reply.{Reply}
use Rattle.flush_policy.specs.declared.facts.StoreStep.{StoreStep}
use Rattle.crash_trees.specs.found_stays.Found.{StaysOver}
use Rattle.crash_trees.specs.found_stays.Laws.{StepsStay}
use Rattle.store_claims.specs.Windows.{StoreWindow}
use Rattle.txn_model.specs.Values.{StoreFacts}
use Rattle.txn_state.specs.States.{StateOf, facts_of}
use Rattle.working_volume.specs.txn_core.Views.{present_on, present_content}
use Rattle.working_volume.specs.state_store.declared.fault.PutFault.{PutFault}
use Rattle.working_volume.specs.state_store.Rooms.{MayNumber}
use Rattle.working_volume.specs.state_store.Preparing.{KeepsSeen}
use Rattle.working_volume.specs.state_store.Puts.{PutsMap, PutsOver}
use Rattle.working_volume.specs.state_store.Volumes.{geometry_of}
use Rattle.working_volume.proofs.state_store.Following.{has_map}
use Rattle.working_volume.proofs.state_store.Lists.{same_after}
use Rattle.crash_trees.specs.txn_close.declared.fault.CloseFault.{CloseFault}
use Rattle.crash_trees.specs.txn_close.Ends.{Closes}
use Rattle.crash_trees.specs.resting_states.Turns.{IsTurned}
use Rattle.crash_trees.specs.Trees.{HoldsTrees}
use Rattle.crash_trees.specs.Starts.{TreesStart}
use Rattle.crash_trees.specs.Puts.{trees_after, TreesPut}
use Rattle.crash_trees.specs.Turns.{TreesTurn}
use Rattle.crash_trees.specs.Closing.{CloseLeaves, TreesClose}
use Rattle.crash_trees.specs.Mounting.{TreesMount}
use Rattle.working_volume.specs.declared.fault.DoFault.{DoFault}
use Rattle.working_volume.specs.declared.fault.DoFault.TheVariants.{NeedsRoom, Unknown}
use Rattle.working_volume.specs.Doing.{IsAnswered, ArePutAsAsked, Does}
use Rattle.volume_core.specs.Volumes.{SeenVolume, volume_tree}
use Rattle.volume_core.specs.Histories.{HasHistory, LeavesTrees}
use Rattle.volume_core.specs.Calls.{StartsHistory, KeepsHistory, LeavesNoMore, GoesOn, StaysPut, TurnsTrees, ClosesTrees}

one_map : (a b : MapParts) (r : Result MapParts MapRefusal) → r ≡ Ok a → r ≡ Ok b → b ≡ a
one_map a b r one two = cc

suc_is_more : (n : ℕ) → suc n ≡ n → ⊥
suc_is_more n is = omega (arith, is)

-- ---- the volume seen again

module _ {D : Type 0} (gives : D → Option (List (List ℕ))) (count : D → ℕ) (changes : D → Changes) (old new : SeenVolume D) (table : new.table ≡ old.table) (sectors : count new.store.device ≡ count old.store.device) where
  pub seen_again : (disk first : List (List ℕ)) (mounted : MountedVolume) (w : StoreWindow) (trees : List Tree) → gives new.store.device ≡ Some disk
      → HoldsTrees (count old.store.device) (changes new.store.device) (facts_of new.store.state) first mounted new.map old.table disk trees w → HasHistory gives count changes new first trees
  seen_again disk first mounted w trees given holds = record {
    disk = disk;
    given = given;
    mounted = mounted;
    window = w;
    holds = subst (λ (n : ℕ). HoldsTrees n (changes new.store.device) (facts_of new.store.state) first mounted new.map new.table disk trees w) (sym sectors)
        (subst (λ (t : List ℕ). HoldsTrees (count old.store.device) (changes new.store.device) (facts_of new.store.state) first mounted new.map t disk trees w) (sym table) holds);
  }

  -- behind a call that only read
  pub looked_trees : (failures moment : D → ℕ) → KeepsSeen gives count changes failures moment old.store new.store → new.map ≡ old.map → StaysPut gives count changes old new
  looked_trees failures moment kept map = record {
    history = λ first trees h.
        seen_again h.disk first h.mounted h.window trees (kept.same ∙ h.given)
        (subst (λ (x : MapParts). HoldsTrees (count old.store.device) (changes new.store.device) (facts_of new.store.state) first h.mounted x old.table h.disk trees h.window) (sym map)
        (subst (λ (x : StateOf). HoldsTrees (count old.store.device) (changes new.store.device) (facts_of x) first h.mounted old.map old.table h.disk trees h.window) (sym kept.state)
        (subst (λ (x : Changes). HoldsTrees (count old.store.device) x (facts_of old.store.state) first h.mounted old.map old.table h.disk trees h.window) (sym kept.unchanged) h.holds)));
    left = kept.unchanged;
  }

  -- ---- behind an operation

  module _ (law : TreesPut) (mounts : TreesMount) (s : VolumeStreams) (number : MayNumber (facts_of old.store.state)) where
    abbrev Over : Result (Unit {0}) PutFault → List Change → Type 0
    Over put xs = PutsOver put xs (gives old.store.device) (gives new.store.device) old.store.state new.store.state (changes old.store.device) (changes new.store.device) old.map new.map

    abbrev Asked : List Change → Type 0
    Asked xs = ArePutAsAsked old.store.state old.map old.table s (present_content (gives old.store.device) old.store.state) xs

    same_map : (disk first : List (List ℕ)) (mounted : MountedVolume) (w : StoreWindow) (trees : List Tree) → gives old.store.device ≡ Some disk → HoldsTrees (count old.store.device) (changes old.store.device) (facts_of old.store.state) first mounted old.map old.table disk trees w
        → Over (Ok tt) [] → new.map ≡ old.map
    same_map disk first mounted w trees given holds over =
        let c = present_on disk (facts_of old.store.state) in
        let is = subst (λ (o : Option (List (List ℕ))). PutsMap {E = PutFault} (Ok tt) [] (present_content o old.store.state) old.map new.map) given over.map in
        one_map old.map new.map (map_of c (geometry_of old.map) old.map.volume.clusters) (has_map old.map old.table c holds.rests.state)
        (ap (λ (d : Content). map_of d (geometry_of old.map) old.map.volume.clusters) (same_after [] c holds.rests.rest.sized tt) ∙ is)

    none_put : Over (Ok tt) [] → KeepsHistory gives count changes old new
    none_put over first trees h =
        seen_again h.disk first h.mounted h.window trees (over.same ∙ h.given)
        (subst (λ (x : MapParts). HoldsTrees (count old.store.device) (changes new.store.device) (facts_of new.store.state) first h.mounted x old.table h.disk trees h.window) (sym (same_map h.disk first h.mounted h.window trees h.given h.holds over))
        (subst (λ (f : StoreFacts). HoldsTrees (count old.store.device) (changes new.store.device) f first h.mounted old.map old.table h.disk trees h.window) (sym over.facts)
        (subst (λ (x : Changes). HoldsTrees (count old.store.device) x (facts_of old.store.state) first h.mounted old.map old.table h.disk trees h.window) (sym over.unchanged) h.holds)))

    off_log : (xs : List Change) → AllByRecursion (λ (x : Change). IsOffLog old.map.volume x.block) xs → AllByRecursion (λ (x : Change). uses (runs_in (stream_at old.map.volume log_key)) (cluster_of x.block) ≡ 0) xs
    off_log [] all = tt
    off_log (x ∷ xs) all = (all.0.apart, off_log xs all.1)

    trees_behind : (put : Result (Unit {0}) PutFault) (xs : List Change) (first : List (List ℕ)) (trees : List Tree) (h : HasHistory gives count changes old first trees) → Over put xs → Asked xs
        → HasHistory gives count changes new first (trees_after put xs (tree_of (present_on h.disk (facts_of new.store.state)) new.map.volume) trees)
    trees_behind put xs first trees h over asked =
        let c = present_on h.disk (facts_of old.store.state) in
        let k : LeadsAsAsked old.map old.table c s xs = subst (λ (o : Option (List (List ℕ))). IfSome (present_content o old.store.state) (λ d. LeadsAsAsked old.map old.table d s xs)) h.given asked.taken in
        let behind = law put (count old.store.device) (gives old.store.device) (gives new.store.device) (changes old.store.device) (changes new.store.device) old.store.state new.store.state first h.mounted old.map new.map old.table h.disk trees xs h.window h.holds
        (record { number = number; each = asked.each; apart = asked.apart; leads = k.leads }) (record { apart = off_log xs k.off; log = k.log; welcome = k.welcome }) h.given over in
        seen_again h.disk first h.mounted behind.window (trees_after put xs (tree_of (present_on h.disk (facts_of new.store.state)) new.map.volume) trees) (over.same ∙ h.given) behind.holds

    present_is : (disk : List (List ℕ)) → gives new.store.device ≡ Some disk → volume_tree gives new ≡ Some (tree_of (present_on disk (facts_of new.store.state)) new.map.volume)
    present_is disk given = ap (λ (o : Option (List (List ℕ))). option_map (λ c. tree_of c new.map.volume) (present_content o new.store.state)) given

    fewer : (put : Result (Unit {0}) PutFault) (xs : List Change) → Over put xs → LeavesNoMore (count old.store.device) (changes old.store.device) (changes new.store.device)
    fewer put xs over t image left =
        mounts.put_leaves put (count old.store.device) (gives old.store.device) (gives new.store.device) (changes old.store.device) (changes new.store.device) old.store.state new.store.state old.map new.map xs t image over left

    abbrev tree_by : Option (List (List ℕ)) → StoreFacts → MapParts → Option Tree
    tree_by o f m = option_map (λ c. tree_of c m.volume) (option_map (λ disk. present_on disk f) o)

    none_stays : Over (Ok tt) [] → (first : List (List ℕ)) (trees : List Tree) → HasHistory gives count changes old first trees → volume_tree gives new ≡ volume_tree gives old
    none_stays over first trees h =
        ap (λ (o : Option (List (List ℕ))). tree_by o (facts_of new.store.state) new.map) over.same
        ∙ ap (λ (f : StoreFacts). tree_by (gives old.store.device) f new.map) over.facts
        ∙ ap (tree_by (gives old.store.device) (facts_of old.store.state)) (same_map h.disk first h.mounted h.window trees h.given h.holds over)

    left_stays : (why : PutFault) (xs : List Change) → Over (Err why) xs → volume_tree gives new ≡ volume_tree gives old
    left_stays why xs over = ap (λ (o : Option Content). option_map (λ c. tree_of c new.map.volume) o) over.content ∙ ap (λ (m : MapParts). option_map (λ c. tree_of c m.volume) (present_content (gives old.store.device) old.store.state)) over.map

    goes_none : Over (Ok tt) [] → GoesOn gives count changes old new
    goes_none over = record {
      commits = inl over.commits;
      same = λ is. none_put over;
      stays = λ is. none_stays over;
      more = λ is. absurd (suc_is_more old.store.state.commits (sym is ∙ over.commits));
      left = fewer (Ok tt) [] over;
    }

    goes_some : (put : Result (Unit {0}) PutFault) (x : Change) (xs : List Change) → Over put (x ∷ xs) → Asked (x ∷ xs) → GoesOn gives count changes old new
    goes_some (Ok tt) x xs over asked = record {
      commits = inr over.commits;
      same = λ is. absurd (suc_is_more old.store.state.commits (sym over.commits ∙ is));
      stays = λ is. absurd (suc_is_more old.store.state.commits (sym over.commits ∙ is));
      more = λ is first trees h. record {
        tree = tree_of (present_on h.disk (facts_of new.store.state)) new.map.volume;
        present = present_is h.disk (over.same ∙ h.given);
        has = trees_behind (Ok tt) (x ∷ xs) first trees h over asked;
      };
      left = fewer (Ok tt) (x ∷ xs) over;
    }
    goes_some (Err why) x xs over asked = record {
      commits = inl over.commits;
      same = λ is first trees h. trees_behind (Err why) (x ∷ xs) first trees h over asked;
      stays = λ is first trees h. left_stays why (x ∷ xs) over;
      more = λ is. absurd (suc_is_more old.store.state.commits (sym is ∙ over.commits));
      left = fewer (Err why) (x ∷ xs) over;
    }

    put_none : (result : Result Reply DoFault) (put : Result (Unit {0}) PutFault) → IsAnswered result [] put → put ≡ Ok tt
    put_none (Ok said) put is = is
    put_none (Err (NeedsRoom pages room)) put is = absurd is
    put_none (Err Unknown) put is = is

    goes_by : (result : Result Reply DoFault) (put : Result (Unit {0}) PutFault) (xs : List Change) → Over put xs → (0 < length xs → Asked xs) → IsAnswered result xs put → GoesOn gives count changes old new
    goes_by result put [] over asked is = goes_none (subst (λ (r : Result (Unit {0}) PutFault). Over r []) (put_none result put is) over)
    goes_by result put (x ∷ xs) over asked is = goes_some put x xs over (asked (omega arith))

    pub goes_on : (op : Op) (stamp : ℕ) (result : Result Reply DoFault)
        → Does op stamp old.table s result (gives old.store.device) (gives new.store.device) old.store.state new.store.state (changes old.store.device) (changes new.store.device) old.map new.map → GoesOn gives count changes old new
    goes_on op stamp result does = goes_by result does.puts.put does.puts.list does.puts.over does.puts.asked does.puts.answered

  -- ---- behind a step of the store

  module _ (moment : D → ℕ) (law : TreesTurn gives count moment changes) (mounts : TreesMount) (stay : StepsStay gives moment changes) (step : StoreStep) (result : Result (Unit {0}) Failed) (turned : IsTurned gives count moment changes step result old.store new.store) (map : new.map ≡ old.map) where
    stays_over : (first : List (List ℕ)) (trees : List Tree) (h : HasHistory gives count changes old first trees) → StaysOver (count old.store.device) (facts_of old.store.state).found (sector_of first) (changes old.store.device) (changes new.store.device)
    stays_over first trees h = stay.windowed (count old.store.device) (sector_of first) step result old.store new.store h.window h.holds.rests.rest.has h.holds.rests.off turned.may turned.sent

    pub turns_trees : TurnsTrees gives count moment changes old new
    turns_trees = record {
      history = λ first trees h. (
          let on = law step result old.store new.store first h.mounted old.map old.table h.disk trees h.window h.holds h.given turned (stays_over first trees h) in
          seen_again on.disk first h.mounted on.behind.window trees on.given
          (subst (λ (x : MapParts). HoldsTrees (count old.store.device) (changes new.store.device) (facts_of new.store.state) first h.mounted x old.table on.disk trees on.behind.window) (sym map)
          (subst (λ (n : ℕ). HoldsTrees n (changes new.store.device) (facts_of new.store.state) first h.mounted old.map old.table on.disk trees on.behind.window) sectors on.behind.holds)));
      left = λ first trees t image h far early left.
          mounts.turn_leaves (count old.store.device) (moment old.store.device) (changes old.store.device) (changes new.store.device) (facts_of old.store.state) (facts_of new.store.state) first h.mounted old.map old.table h.disk trees h.window step result t image h.holds turned.step_is
          (stays_over first trees h) far early left;
    }

-- ---- between two calls

pub leaves_trees : {D : Type 0} (gives : D → Option (List (List ℕ))) (count : D → ℕ) (changes : D → Changes) (v : SeenVolume D) → TreesMount → LeavesTrees gives count changes v
leaves_trees {D} gives count changes v mounts = record {
  left = λ first trees image h far left.
      mounts.at_return (count v.store.device) (changes v.store.device) (facts_of v.store.state) first h.mounted v.map v.table h.disk trees h.window image h.holds far left;
}

pub starts_history : {D : Type 0} (gives : D → Option (List (List ℕ))) (count : D → ℕ) (changes : D → Changes) (v : SeenVolume D) → TreesStart → StartsHistory gives count changes v
starts_history {D} gives count changes v law first disk mounted given begins =
    let behind = law (count v.store.device) (changes v.store.device) v.store.state first mounted v.map v.table disk begins in
    record { disk = disk; given = given; mounted = mounted; window = behind.window; holds = behind.holds }

-- ---- once its store was closed

pub closes_trees : {D : Type 0} (gives : D → Option (List (List ℕ))) (count moment : D → ℕ) (changes : D → Changes) (v : SeenVolume D) (result : Result (Unit {0}) CloseFault) (device : D) → TreesClose gives count moment changes → CloseLeaves gives count moment changes → Closes gives count moment changes v.store result device
    → ClosesTrees gives count moment changes v result device
closes_trees {D} gives count moment changes v result device law inside closes = record {
  closes = closes;
  left = λ first trees h far. law v.store result device first h.mounted v.map v.table h.disk trees h.window h.holds closes far;
  inside = λ first trees h far. inside v.store result device first h.mounted v.map v.table h.disk trees h.window h.holds closes far;
}
