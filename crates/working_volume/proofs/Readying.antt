-- The state behind changes is ready for the next operation.
use Rattle.std.proofs.Common.{◌≡◌, subst, ℕ, ◌+◌, ◌*◌, ◌/◌, ◌<◌, ◌≤◌, List, [], ◌∷◌, Option, Some, None, Result, Ok, Err, sym, ap, ap₂, ◌∙◌, inl, inr}
use Rattle.std.specs.Prelude.{IfSome, unwrap_or}
use Rattle.std.specs.List.{AllByRecursion}
use Rattle.disk_model.specs.declared.block.Change.{Change}
use Rattle.disk_model.specs.Content.{Content}
use Rattle.sector_device.specs.Moments.{Changes}
use Rattle.block_view.specs.Changes.{content_after}
use Rattle.log_page.specs.declared.places.Extent.{Extent}
use Rattle.log_page.specs.declared.places.LogPlace.{LogPlace}
use Rattle.log_reading.specs.Rings.{IsRingPlace}
use Rattle.log_area.specs.Areas.{page_first}
use Rattle.plans_lead.specs.image_open.Writing.{found_by}
use Rattle.state_model.specs.declared.geometry.Geometry.{Geometry}
use Rattle.record_model.specs.declared.runs.Run.{Run}
use Rattle.volume_model.specs.Volumes.{Volume}
use Rattle.volume_model.specs.Owners.{uses}
use Rattle.stream_laws.specs.Sharing.{stream_at, runs_in}
use Rattle.stream_laws.proofs.Rewriting.{volume_parts}
use Rattle.plans_lead.specs.map_change.Parts.{MapParts, parts_of, map_of}
use Rattle.plans_lead.specs.plan_owners.Agreeing.{log_key}
use Rattle.plans_lead.specs.spares_at_mount.Mounts.{LiesInLog}
use Rattle.plans_lead.specs.file_puts.declared.streams.VolumeStreams.{VolumeStreams}
use Rattle.plans_lead.specs.txn_model.Values.{StoreFacts}
use Rattle.plans_lead.specs.txn_model.Calls.{begun_facts, changed_facts}
use Rattle.plans_lead.specs.txn_state.States.{StateOf, facts_of}
use Rattle.plans_lead.specs.txn_core.Views.{present_on, present_content}
use Rattle.put_checks.specs.state_store.declared.fault.PutFault.{PutFault}
use Rattle.put_checks.specs.state_store.Volumes.{geometry_of, IsStateOf}
use Rattle.put_checks.specs.state_store.Logging.{ChangedBy, StoppedBy}
use Rattle.put_checks.specs.state_store.Puts.{PutsContent, PutsMap, PutsFacts, PutsOver}
use Rattle.put_checks.proofs.state_store.Following.{next_map, state_after}
use Rattle.put_checks.proofs.state_store.Sparing.{place_stays}
use Rattle.change_plan.specs.States.{HasFewClusters}
use Rattle.plans_lead.specs.Leading.{HasLogOf, LeadsAsAsked}
use Rattle.working_volume.specs.Ready.{RunsLieInLog, IsReady, IsTaken}

each_as : {X : Type 0} (P Q : X → Type 0) → ((x : X) → P x → Q x) → (xs : List X) → AllByRecursion P xs → AllByRecursion Q xs
each_as P Q f [] all = tt
each_as P Q f (x ∷ xs) all = (f x all.0, each_as P Q f xs all.1)

-- ---- the log is found by the same blocks

changed_found : (gives : Option (List (List ℕ))) (xs : List Change) (f g : StoreFacts) → ChangedBy gives xs f g → g.found ≡ f.found
changed_found gives [] f g is = ap (λ (h : StoreFacts). h.found) is
changed_found gives (x ∷ xs) f g is = changed_found gives xs (changed_facts x.block x.offset x.new is.0 f) g is.2

stopped_found : (gives : Option (List (List ℕ))) (xs : List Change) (f g : StoreFacts) → StoppedBy gives xs f g → g.found ≡ f.found
stopped_found gives [] f g is = ap (λ (h : StoreFacts). h.found) is
stopped_found gives (x ∷ xs) f g (inl is) = ap (λ (h : StoreFacts). h.found) is
stopped_found gives (x ∷ xs) f g (inr is) = stopped_found gives xs (changed_facts x.block x.offset x.new is.0 f) g is.2

found_stays : (result : Result (Unit {0}) PutFault) (xs : List Change) (gives : Option (List (List ℕ))) (f g : StoreFacts) → PutsFacts result xs gives f g → g.found ≡ f.found
found_stays (Ok tt) [] gives f g is = ap (λ (h : StoreFacts). h.found) is
found_stays (Ok tt) (x ∷ xs) gives f g is = ap (λ (h : StoreFacts). h.found) is.2 ∙ changed_found gives (x ∷ xs) (begun_facts f) is.0 is.1
found_stays (Err failure) xs gives f g (inl is) = ap (λ (h : StoreFacts). h.found) is
found_stays (Err failure) xs gives f g (inr is) = stopped_found gives xs (begun_facts f) g is

-- ---- of another store with the same log

same_ready : (f g : StoreFacts) (m : MapParts) (table : List ℕ) (s : VolumeStreams) (c : Content) → g.place ≡ f.place → g.found ≡ f.found → IsReady f m table s c → IsReady g m table s c
same_ready f g m table s c place found r = record {
  plannable = r.plannable;
  few = r.few;
  lists = r.lists;
  log = record {
    ring = subst IsRingPlace (sym place) r.log.ring;
    lies = subst (λ (p : LogPlace). LiesInLog p m.volume) (sym place) r.log.lies;
    clusters = ap (λ (p : LogPlace). p.clusters) place ∙ r.log.clusters;
    device = subst (λ (p : LogPlace). 8 * m.volume.clusters ≤ p.device) (sym place) r.log.device;
    found = found ∙ r.log.found;
  };
  runs = subst (λ (p : LogPlace). RunsLieInLog p m.volume) (sym place) r.runs;
  welcome = r.welcome;
}

-- ---- behind changes that were put

abbrev InLog : Volume → Extent → Type 0
InLog v e = (n : ℕ) → e.first ≤ n → n < e.first + e.sectors → 0 < uses (runs_in (stream_at v log_key)) (n / 8)

geometry_with : ℕ → ℕ → Geometry
geometry_with per mft = record { per_cluster = per; mft = mft }

module _ (f : StoreFacts) (m next : MapParts) (table : List ℕ) (s : VolumeStreams) (xs : List Change) (c : Content) (ready : IsReady f m table s c) (leads : LeadsAsAsked m table c s xs) (is : map_of (content_after xs c) (geometry_of m) m.volume.clusters ≡ Ok next) where
  abbrev d : Content
  d = content_after xs c

  abbrev w : Volume
  w = leads.leads.volume

  follows : next ≡ parts_of d w
  follows = next_map m next table xs c leads.leads is

  state : IsStateOf (parts_of d w) table d
  state = state_after m (parts_of d w) table xs c leads.leads (is ∙ ap (λ (x : MapParts). Ok x) follows)

  per : m.volume.per ≡ w.per
  per = (volume_parts d (geometry_of m) m.volume.clusters w leads.leads.stands.loaded).per

  count : m.volume.clusters ≡ w.clusters
  count = (volume_parts d (geometry_of m) m.volume.clusters w leads.leads.stands.loaded).count

  mft : m.volume.mft ≡ w.mft
  mft = (volume_parts d (geometry_of m) m.volume.clusters w leads.leads.stands.loaded).place

  used : (k : ℕ) → 0 < uses (runs_in (stream_at m.volume log_key)) k → 0 < uses (runs_in (stream_at w log_key)) k
  used k has = subst (λ (runs : List Run). 0 < uses runs k) (sym leads.log) has

  found : found_by (geometry_of m) ≡ found_by (geometry_of (parts_of d w))
  unfolding geometry_with
  found = ap₂ (λ (a b : ℕ). found_by (geometry_with a b)) per mft

  log : HasLogOf f (parts_of d w)
  log = record {
    ring = ready.log.ring;
    lies = λ k lt. used (page_first f.place k / 8) (ready.log.lies k lt);
    clusters = ready.log.clusters ∙ count;
    device = subst (λ (n : ℕ). 8 * n ≤ f.place.device) count ready.log.device;
    found = ready.log.found ∙ found;
  }

  ready_behind : IsReady f (parts_of d w) table s d
  ready_behind = record {
    plannable = record { stands = state.stands; eight = sym per ∙ ready.plannable.eight; table = state.upper; journal = leads.journal; streams = leads.streams };
    few = subst HasFewClusters count ready.few;
    lists = leads.lists;
    log = log;
    runs = each_as (InLog m.volume) (InLog w) (λ e lies n from below. used (n / 8) (lies n from below)) f.place.runs ready.runs;
    welcome = leads.welcome ready.welcome;
  }

  pub ready_next : IsReady f next table s d
  ready_next = subst (λ (x : MapParts). IsReady f x table s d) (sym follows) ready_behind

-- ---- behind a put

one_content : (c d : Content) → Some d ≡ Some c → d ≡ c
one_content c d is = ap (λ (o : Option Content). unwrap_or o c) is

known_ready : (result : Result (Unit {0}) PutFault) (xs : List Change) (f : StoreFacts) (m next : MapParts) (table : List ℕ) (s : VolumeStreams) (c d : Content) → PutsContent result xs (Some c) (Some d) → PutsMap result xs (Some c) m next → IsReady f m table s c → LeadsAsAsked m table c s xs
    → IsReady f next table s d
known_ready (Ok tt) xs f m next table s c d content map ready leads = subst (IsReady f next table s) (sym (one_content (content_after xs c) d content)) (ready_next f m next table s xs c ready leads map)
known_ready (Err failure) xs f m next table s c d content map ready leads =
    subst (IsReady f next table s) (sym (one_content c d content)) (subst (λ (x : MapParts). IsReady f x table s c) (sym map) ready)

pub put_ready : (result : Result (Unit {0}) PutFault) (xs : List Change) (gives gave : Option (List (List ℕ))) (old new : StateOf) (before now : Changes) (m next : MapParts) (table : List ℕ) (s : VolumeStreams) → PutsOver result xs gives gave old new before now m next
    → IfSome (present_content gives old) (IsReady (facts_of old) m table s) → IfSome (present_content gives old) (IsTaken (facts_of old) m table s xs) → IfSome (present_content gave new) (IsReady (facts_of new) next table s)
put_ready result xs gives gave old new before now m next table s put ready taken =
    subst (λ (o : Option (List (List ℕ))). IfSome (present_content o new) (IsReady (facts_of new) next table s)) (sym put.same)
    (by gives (subst (λ (o : Option (List (List ℕ))). PutsContent result xs (present_content gives old) (present_content o new)) put.same put.content) put.map put.facts ready taken)
  where
    by : (o : Option (List (List ℕ))) → PutsContent result xs (present_content o old) (present_content o new) → PutsMap result xs (present_content o old) m next → PutsFacts result xs o (facts_of old) (facts_of new) → IfSome (present_content o old) (IsReady (facts_of old) m table s)
        → IfSome (present_content o old) (IsTaken (facts_of old) m table s xs) → IfSome (present_content o new) (IsReady (facts_of new) next table s)
    by None content map facts is takes = tt
    by (Some disk) content map facts is takes =
        same_ready (facts_of old) (facts_of new) next table s (present_on disk (facts_of new)) (place_stays result xs (Some disk) (facts_of old) (facts_of new) facts) (found_stays result xs (Some disk) (facts_of old) (facts_of new) facts)
        (known_ready result xs (facts_of old) m next table s (present_on disk (facts_of old)) (present_on disk (facts_of new)) content map is takes.leads)

-- no change leaves the map, and what isn't put leaves all
pub still_ready : (gives gave : Option (List (List ℕ))) (old new : StateOf) (m : MapParts) (table : List ℕ) (s : VolumeStreams) → new ≡ old → gave ≡ gives → IfSome (present_content gives old) (IsReady (facts_of old) m table s) → IfSome (present_content gave new) (IsReady (facts_of new) m table s)
still_ready gives gave old new m table s state same ready =
    subst (λ (x : StateOf). IfSome (present_content gave x) (IsReady (facts_of x) m table s)) (sym state) (subst (λ (o : Option (List (List ℕ))). IfSome (present_content o old) (IsReady (facts_of old) m table s)) (sym same) ready)
