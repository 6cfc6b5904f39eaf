-- What a start gives to a volume over it.
use Rattle.std.proofs.Common.{◌≡◌, ℕ, ◌^◌, ◌≤◌, List, [], ◌∷◌, Option, Some, None, refl, sym, ap, subst, ◌∙◌, arith}
use Rattle.std.specs.Prelude.{IfSome}
use Rattle.sector_device.specs.Moments.{Changes}
use Rattle.file_tree.specs.declared.tree.Tree.{Tree}
use Rattle.volume_state.specs.Trees.{tree_of}
use Rattle.stream_laws.specs.Sharing.{stream_at, runs_in}
use Rattle.map_change.specs.Parts.{MapParts}
use Rattle.plan_owners.specs.Agreeing.{log_key}
use Rattle.volume_start.specs.file_puts.declared.streams.VolumeStreams.{VolumeStreams}
use Rattle.volume_core.specs.image_open.Writing.{found_by}
use Rattle.volume_core.specs.volume_mount.Mounts.{tree_in}
use Rattle.txn_state.specs.States.{StateOf, facts_of}
use Rattle.volume_core.specs.txn_core.Seen.{Seen}
use Rattle.volume_core.specs.txn_core.Views.{present_on, present_content}
use Rattle.volume_core.specs.state_store.Volumes.{geometry_of, HoldsState, IsStateOf, SparesState}
use Rattle.volume_core.specs.crash_trees.Trees.{IsMountedOn}
use Rattle.volume_core.specs.crash_trees.Starts.{BeginsAsMounted}
use Rattle.volume_core.specs.change_plan.States.{IsPlannable}
use Rattle.volume_core.specs.plans_lead.txn_model.Values.{StoreFacts}
use Rattle.volume_core.specs.plans_lead.Leading.{HasLogOf}
use Rattle.volume_core.specs.working_volume.Ready.{IsReady}
use Rattle.volume_core.specs.Volumes.{SeenVolume, present_tree}
use Rattle.volume_core.specs.Histories.{HasHistory}
use Rattle.volume_core.specs.Calls.{StartsHistory}
use Rattle.volume_start.specs.Starts.{IsStarted, StartsOn, BeginsAnywhere}
use Rattle.volume_open.specs.Opens.{IsOpened}

-- ---- a start on sectors that are known

module _ (count : ℕ) (first : List (List ℕ)) (gave : Option (List (List ℕ))) (now : Changes) (state : StateOf) (p : MapParts) (table : List ℕ) (s : VolumeStreams) (starts : IsStarted count first gave now state p table s) where
  plannable : IsPlannable (present_on starts.disk (facts_of state)) (geometry_of p) p.volume.clusters p.volume table s
  plannable =
      let shown = starts.begins.begins.shown in
      record { stands = shown.stands; eight = starts.eight; table = shown.upper; journal = starts.may.journal; streams = starts.streams }

  log_of : HasLogOf (facts_of state) p
  log_of = (let begins = starts.begins in record { ring = begins.ring; lies = begins.lies; clusters = begins.clusters; device = starts.device; found = begins.found })

  pub is_ready : IsReady (facts_of state) p table s (present_on starts.disk (facts_of state))
  is_ready = (let few : p.volume.clusters ≤ 16777216 = starts.may.few in let below : p.volume.clusters ≤ 2 ^ 32 = omega (arith, few) in record { plannable = plannable; few = below; lists = starts.begins.lists; log = log_of; runs = starts.may.runs; welcome = starts.may.welcome })

  is_mounted_on : IsMountedOn count (facts_of state) first starts.mounted p
  is_mounted_on =
      let begins = starts.begins in
      record {
        mounts = starts.mounts;
        counted = begins.long;
        geometry = begins.geometry;
        clusters = begins.total;
        found = begins.found ∙ ap found_by begins.geometry;
        alike = begins.alike;
        ring = begins.ring;
      }

  pub as_mounted : BeginsAsMounted count now state first starts.mounted p table starts.disk
  as_mounted = record { begins = starts.begins.begins; mount = is_mounted_on; welcome = starts.may.welcome; log = ap (λ (q : MapParts). runs_in (stream_at q.volume log_key)) starts.map }

  pub tree_is : tree_of (present_on starts.disk (facts_of state)) p.volume ≡ tree_in starts.mounted
  tree_is = ap (λ (q : MapParts). tree_of (present_on starts.disk (facts_of state)) q.volume) starts.map ∙ starts.shows.tree

-- ---- on any device

module _ {D : Type 0} (gives : D → Option (List (List ℕ))) (count : D → ℕ) (changes : D → Changes) (old : D) where
  module _ (new : D) (state : StateOf) (p : MapParts) (table : List ℕ) (s : VolumeStreams) (anywhere : BeginsAnywhere (gives old) (gives new) state) (starts : StartsOn gives count changes old new state p table s) where
    pub holds : HoldsState (gives new) (changes new) state p table
    holds = by (gives old) refl
      where
        by : (o : Option (List (List ℕ))) → gives old ≡ o → HoldsState (gives new) (changes new) state p table
        by None is =
            let none = anywhere.unknown is in
            record {
              closed = anywhere.closed;
              near = anywhere.near;
              shown = subst (λ (x : Option (List (List ℕ))). IfSome (present_content x state) (IsStateOf p table)) (sym none) tt;
              spares = subst (λ (x : Option (List (List ℕ))). IfSome x (SparesState (changes new) (facts_of state) p.volume)) (sym none) tt;
            }
        by (Some first) is = (let start = starts first is in subst (λ (x : Option (List (List ℕ))). HoldsState x (changes new) state p table) (sym start.given) start.begins.holds)

    pub ready : IfSome (present_content (gives new) state) (IsReady (facts_of state) p table s)
    ready = by (gives old) refl
      where
        by : (o : Option (List (List ℕ))) → gives old ≡ o → IfSome (present_content (gives new) state) (IsReady (facts_of state) p table s)
        by None is = subst (λ (x : Option (List (List ℕ))). IfSome (present_content x state) (IsReady (facts_of state) p table s)) (sym (anywhere.unknown is)) tt
        by (Some first) is =
            let start = starts first is in
            subst (λ (x : Option (List (List ℕ))). IfSome (present_content x state) (IsReady (facts_of state) p table s)) (sym start.given) (is_ready (count new) first (gives new) (changes new) state p table s start)

  -- the volume over it
  module _ (v : SeenVolume D) (s : VolumeStreams) (history : StartsHistory gives count changes v) (starts : StartsOn gives count changes old v.store.device v.store.state v.map v.table s) where
    opened : (first : List (List ℕ)) → gives old ≡ Some first → IsOpened gives count changes first v
    opened first known =
        let start = starts first known in
        let same = tree_is (count v.store.device) first (gives v.store.device) (changes v.store.device) v.store.state v.map v.table s start in
        record {
          mounted = start.mounted;
          mounts = start.mounts;
          history = subst (λ (t : Tree). HasHistory gives count changes v first (t ∷ [])) same
              (history first start.disk start.mounted start.given (as_mounted (count v.store.device) first (gives v.store.device) (changes v.store.device) v.store.state v.map v.table s start));
          tree = ap (λ (o : Option (List (List ℕ))). present_tree o v.store.state v.map) start.given ∙ ap (λ (t : Tree). Some t) same;
          durable = (let none = ap (λ (f : StoreFacts). f.commits) start.begins.begins.facts in omega (arith, none));
          map = start.map;
          table = start.table_is;
          log = start.log;
        }

    pub opens : IfSome (gives old) (λ first. IsOpened gives count changes first v)
    opens = by (gives old) refl
      where
        by : (o : Option (List (List ℕ))) → gives old ≡ o → IfSome o (λ first. IsOpened gives count changes first v)
        by None is = tt
        by (Some first) is = opened first is

  pub opens_by : (store : Seen D) (p : MapParts) (table : List ℕ) (s : VolumeStreams) (v : SeenVolume D) → v.store ≡ store → v.map ≡ p → v.table ≡ table → StartsOn gives count changes old store.device store.state p table s → StartsHistory gives count changes v
      → IfSome (gives old) (λ first. IsOpened gives count changes first v)
  opens_by store p table s v store_is map_is table_is starts history =
      opens v s history
      (subst (λ (x : Seen D). StartsOn gives count changes old x.device x.state v.map v.table s) (sym store_is)
      (subst (λ (x : MapParts). StartsOn gives count changes old store.device store.state x v.table s) (sym map_is)
      (subst (λ (x : List ℕ). StartsOn gives count changes old store.device store.state p x s) (sym table_is) starts)))
