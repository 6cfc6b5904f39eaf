-- The changes of a plan are some that a volume takes.
use Rattle.std.proofs.Common.{◌≡◌, subst, ℕ, ◌+◌, ◌*◌, ◌/◌, ◌%◌, ◌<◌, ◌≤◌, Bool, true, false, ◌&&◌, ◌||◌, ltb, List, [], ◌∷◌, length, Option, Some, None, Result, Ok, Err, refl, ap, ◌∙◌, inl, inr, arith}
use Rattle.std.specs.Prelude.{◌^◌, IfSome, IfOk}
use Rattle.std.specs.List.{AllByRecursion, list_any}
use Rattle.std.proofs.lemmas.Bool.{cases_Bool, cases_lt, and_parts, eqb-true, ltb-true}
use Rattle.disk_model.specs.declared.block.Block.{Block}
use Rattle.disk_model.specs.declared.block.BlockKind.{BlockKind}
use Rattle.disk_model.specs.declared.block.BlockKind.TheVariants.{Plain, FileRec, Index}
use Rattle.disk_model.specs.declared.block.Change.{Change}
use Rattle.disk_model.specs.Content.{Content}
use Rattle.disk_model.specs.Sectors.{sectors}
use Rattle.sector_device.specs.Moments.{Changes}
use Rattle.log_model.specs.Logs.{may_begin}
use Rattle.log_page.specs.declared.places.Extent.{Extent}
use Rattle.volume_model.specs.Volumes.{Volume}
use Rattle.volume_model.specs.Owners.{uses}
use Rattle.stream_laws.specs.Sharing.{stream_at, runs_in}
use Rattle.plans_lead.specs.map_change.Parts.{MapParts}
use Rattle.tree_model.specs.declared.script.Op.{Op}
use Rattle.tree_model.specs.Steps.{is_given_up}
use Rattle.plans_lead.specs.plan_owners.Agreeing.{log_key}
use Rattle.plan_draft.specs.Touching.{rises}
use Rattle.plan_draft.specs.Finishing.{change_keys}
use Rattle.plans_lead.specs.file_puts.declared.streams.VolumeStreams.{VolumeStreams}
use Rattle.plans_lead.specs.writes_keep.Writes.{IsOffLog}
use Rattle.tree_model.specs.declared.reply.Reply.TheVariants as reply
use Rattle.plans_lead.specs.step_model.Steps.{Step}
use Rattle.plans_lead.specs.txn_model.Values.{StoreFacts}
use Rattle.plans_lead.specs.txn_state.States.{StateOf, facts_of}
use Rattle.plans_lead.specs.txn_core.Views.{present_on, present_content}
use Rattle.put_checks.specs.state_store.Volumes.{geometry_of, IsStateOf, SparesState, HoldsState}
use Rattle.change_plan.specs.declared.plan.ChangePlan.{ChangePlan}
use Rattle.change_plan.specs.declared.fault.PlanFault.{PlanFault}
use Rattle.change_plan.specs.declared.fault.PlanFault.TheVariants.{Fault, Memory, Unknown}
use Rattle.change_plan.specs.Plans.{IsSound, ComeOfDraft, Plans, PlansFrom, IsKnown, KnowsFrom}
use Rattle.plans_lead.specs.Leading.{IsFilePlan, PlansLeadOn}
use Rattle.put_checks.specs.Checks.{meets_run}
use Rattle.put_checks.specs.Laws.{ChecksAreMet}
use Rattle.working_volume.specs.Ready.{IsReady, IsTaken}

each_as : {X : Type 0} (P Q : X → Type 0) → ((x : X) → P x → Q x) → (xs : List X) → AllByRecursion P xs → AllByRecursion Q xs
each_as P Q f [] all = tt
each_as P Q f (x ∷ xs) all = (f x all.0, each_as P Q f xs all.1)

-- ---- beside the runs of the log

-- a block of the grid ends in its cluster
ends_within : (kind : BlockKind) (first : ℕ) → may_begin kind first ≡ true → first + sectors kind ≤ 8 * (first / 8) + 8
ends_within Plain first grid = omega arith
ends_within FileRec first grid = (let even : first % 2 ≡ 0 = eqb-true (first % 2) 0 grid in omega (arith, even))
ends_within Index first grid = (let even : first % 8 ≡ 0 = eqb-true (first % 8) 0 grid in omega (arith, even))

abbrev InLog : Volume → Extent → Type 0
InLog v e = (s : ℕ) → e.first ≤ s → s < e.first + e.sectors → 0 < uses (runs_in (stream_at v log_key)) (s / 8)

module _ (v : Volume) (b : Block) (off : IsOffLog v b) where
  -- no sector of the block is one of the run
  apart_at : (e : Extent) → InLog v e → (s : ℕ) → b.first ≤ s → s < b.first + sectors b.kind → e.first ≤ s → s < e.first + e.sectors → ⊥
  apart_at e lies s low high from below =
      let ends = ends_within b.kind b.first off.grid in
      let same : s / 8 ≡ b.first / 8 = omega (arith, ends, low, high) in
      let some : 0 < uses (runs_in (stream_at v log_key)) (b.first / 8) = subst (λ (k : ℕ). 0 < uses (runs_in (stream_at v log_key)) k) same (lies s from below) in
      let none : uses (runs_in (stream_at v log_key)) (b.first / 8) ≡ 0 = off.apart in
      omega (arith, some, none)

  some_sector : 0 < sectors b.kind
  some_sector = by b.kind
    where
      by : (k : BlockKind) → 0 < sectors k
      by Plain = omega arith
      by FileRec = omega arith
      by Index = omega arith

  unmet : (e : Extent) → InLog v e → meets_run b e ≡ true → ⊥
  unmet e lies met =
      let whole = and_parts (ltb 0 e.sectors) (ltb b.first (e.first + e.sectors) && ltb e.first (b.first + sectors b.kind)) met in
      let some : 0 < e.sectors = ltb-true 0 e.sectors whole.0 in
      let parts = and_parts (ltb b.first (e.first + e.sectors)) (ltb e.first (b.first + sectors b.kind)) whole.1 in
      let below : b.first < e.first + e.sectors = ltb-true b.first (e.first + e.sectors) parts.0 in
      let above : e.first < b.first + sectors b.kind = ltb-true e.first (b.first + sectors b.kind) parts.1 in
      elim (cases_lt b.first e.first) [
        | inl before ↦ apart_at e lies e.first (omega (arith, before)) above (omega arith) (omega (arith, some))
        | inr behind ↦ apart_at e lies b.first (omega arith) (omega (arith, some_sector)) behind below
      ]

  pub off_runs : (runs : List Extent) → AllByRecursion (InLog v) runs → list_any (meets_run b) runs ≡ false
  off_runs [] lie = refl
  off_runs (e ∷ es) lie = elim (cases_Bool (meets_run b e)) [
    | inl met ↦ absurd (unmet e lie.0 met)
    | inr not ↦ ap (λ (t : Bool). t || list_any (meets_run b) es) not ∙ off_runs es lie.1
  ]

-- ---- such a plan

module _ (lead : PlansLeadOn) (met : ChecksAreMet) (moments : Changes) (f : StoreFacts) (m : MapParts) (table : List ℕ) (s : VolumeStreams) (op : Op) (stamp : ℕ) (disk : List (List ℕ)) (state : IsStateOf m table (present_on disk f)) (spares : SparesState moments f m.volume disk)
    (ready : IsReady f m table s (present_on disk f)) (near : f.place.device ≤ 2 ^ 62) (changes : List Change) (in_order : rises 0 (change_keys changes) ≡ true) where
  abbrev c : Content
  c = present_on disk f

  file_plan : (k : ComeOfDraft c (geometry_of m) m.volume.clusters m.volume s op stamp changes) → IsFilePlan m table c s op k.number stamp k.a k.r k.written.change k.touched changes
  file_plan k = record {
    state = state;
    writes = k.written.puts;
    written = k.written.written;
    finished = record { rises = k.in_order; whole = k.whole; olds = k.olds; are = k.are };
    lists = ready.lists;
    whole = lead.whole moments f m.volume disk spares;
  }

  pub taken_of : ComeOfDraft c (geometry_of m) m.volume.clusters m.volume s op stamp changes → IsTaken f m table s changes c
  taken_of k =
      let leads = lead.leads m table c s op k.number stamp k.a k.r k.written.change k.touched changes (file_plan k) in
      record {
        leads = leads;
        passes = met f changes near (lead.logged m table c s op k.number stamp k.a k.r k.written.change k.touched changes f (file_plan k) ready.log ready.welcome.boot) leads.apart in_order
            (each_as (λ (x : Change). IsOffLog m.volume x.block) (λ (x : Change). list_any (meets_run x.block) f.place.runs ≡ false) (λ x off. off_runs m.volume x.block off f.place.runs ready.runs) changes leads.off);
      }

-- ---- where the content is known

pub plans_here : (known : Option Content) (upper : List ℕ) (f : StoreFacts) (m : MapParts) (s : VolumeStreams) (op : Op) (stamp : ℕ) (result : Result ChangePlan PlanFault) → IfSome known (IsReady f m upper s) → IfSome known (PlansFrom upper m.volume s op stamp result)
    → IfSome known (λ c. Plans result c (geometry_of m) m.volume.clusters m.volume s op stamp)
plans_here None upper f m s op stamp result ready plans = tt
plans_here (Some c) upper f m s op stamp result ready plans = plans (geometry_of m) m.volume.clusters ready.plannable

-- a plan that isn't there is a step that leaves the content
pub failed_step : (known : Option Content) (m : MapParts) (s : VolumeStreams) (op : Op) (stamp : ℕ) (failure : PlanFault) → failure ≡ Fault → IfSome known (λ c. Plans (Err failure) c (geometry_of m) m.volume.clusters m.volume s op stamp)
    → IfSome known (λ c. Step (geometry_of m) m.volume.clusters op stamp reply.Fault c c)
failed_step known m s op stamp failure is plans = subst (λ (e : PlanFault). IfSome known (λ c. Plans (Err e) c (geometry_of m) m.volume.clusters m.volume s op stamp)) is plans

pub memory_step : (known : Option Content) (m : MapParts) (s : VolumeStreams) (op : Op) (stamp : ℕ) (failure : PlanFault) → failure ≡ Memory → IfSome known (λ c. Plans (Err failure) c (geometry_of m) m.volume.clusters m.volume s op stamp)
    → IfSome known (λ c. Step (geometry_of m) m.volume.clusters op stamp reply.Memory c c)
memory_step known m s op stamp failure is plans = subst (λ (e : PlanFault). IfSome known (λ c. Plans (Err e) c (geometry_of m) m.volume.clusters m.volume s op stamp)) is plans

not_known : (result : Result ChangePlan PlanFault) → result ≡ Err Unknown → IsKnown result → ⊥
not_known result is known = subst IsKnown is known

pub never_unknown : (gives : Option (List (List ℕ))) (state : StateOf) (upper : List ℕ) (m : MapParts) (s : VolumeStreams) (result : Result ChangePlan PlanFault) → IfSome (present_content gives state) (IsReady (facts_of state) m upper s)
    → IfSome (present_content gives state) (KnowsFrom upper m.volume s result) → result ≡ Err Unknown → gives ≡ None
never_unknown None state upper m s result ready knows is = refl
never_unknown (Some disk) state upper m s result ready knows is = absurd (not_known result is (knows (geometry_of m) m.volume.clusters ready.plannable ready.few))

pub plan_taken : PlansLeadOn → ChecksAreMet → (gives : Option (List (List ℕ))) (moments : Changes) (state : StateOf) (m : MapParts) (table : List ℕ) (s : VolumeStreams) (op : Op) (stamp : ℕ) (result : Result ChangePlan PlanFault) → HoldsState gives moments state m table
    → IfSome (present_content gives state) (IsReady (facts_of state) m table s) → IfSome (present_content gives state) (λ c. Plans result c (geometry_of m) m.volume.clusters m.volume s op stamp) → IfOk result (IsSound (present_content gives state) op)
    → IfOk result (λ plan. 0 < length plan.changes.items → IfSome (present_content gives state) (IsTaken (facts_of state) m table s plan.changes.items))
plan_taken lead met gives moments state m table s op stamp (Err failure) holds ready plans sound = tt
plan_taken lead met None moments state m table s op stamp (Ok plan) holds ready plans sound = λ some. tt
plan_taken lead met (Some disk) moments state m table s op stamp (Ok plan) holds ready plans sound =
    λ some. taken_of lead met moments (facts_of state) m table s op stamp disk holds.shown holds.spares ready holds.near plan.changes.items sound.changes_are.in_order (plans.draft some)

pub plan_kept_on : (known : Option Content) (op : Op) (result : Result ChangePlan PlanFault) → IfOk result (IsSound known op) → IfOk result (λ plan. is_given_up plan.reply ≡ false)
plan_kept_on known op (Ok plan) sound = sound.kept_on
plan_kept_on known op (Err failure) sound = tt
