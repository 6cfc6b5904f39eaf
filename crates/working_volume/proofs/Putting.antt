-- What stands behind the put of a plan.
use Rattle.std.proofs.Common.{◌≡◌, subst, ℕ, ◌<◌, true, false, List, [], length, Bool, Option, Some, None, Result, Ok, Err, refl, sym, ap, ap₂, ◌∙◌, arith}
use Rattle.std.specs.Prelude.{◌≢◌, All, IfSome, OnErr, OnOk}
use Rattle.std.specs.Option.{option_map}
use Rattle.host_base.specs.Answers.{GivesOrFails}
use Rattle.host_base.specs.Causes.{HasFailed, last_moment}
use Rattle.host_base.proofs.Known.{one}
use Rattle.disk_model.specs.declared.block.Change.{Change}
use Rattle.disk_model.specs.Content.{Content}
use Rattle.sector_device.specs.Moments.{Changes}
use Rattle.sector_device.specs.Sectors.{IsDiskOf}
use Rattle.block_view.specs.Changes.{content_after}
use Rattle.plans_lead.specs.map_change.Parts.{MapParts}
use Rattle.state_model.specs.declared.geometry.Geometry.{Geometry}
use Rattle.volume_model.specs.Volumes.{Volume}
use Rattle.plans_lead.specs.file_puts.declared.streams.VolumeStreams.{VolumeStreams}
use Rattle.plans_lead.specs.Leading.{LeadsAsAsked}
use Rattle.put_checks.specs.Checks.{may_put}
use Rattle.change_plan.specs.Plans.{IsPlan}
use Rattle.plans_lead.specs.same_names.Names.{SameNames}
use Rattle.plans_lead.specs.names_stay.Held.{NamesStay}
use Rattle.plans_lead.specs.volume_tree.declared.names.Names.{Names}
use Rattle.plans_lead.specs.volume_tree.Named.{AreNamesOf}
use Rattle.tree_model.specs.declared.script.Op.{Op}
use Rattle.tree_model.specs.declared.reply.Reply.{Reply}
use Rattle.tree_model.specs.declared.reply.Reply.TheVariants as reply
use Rattle.tree_model.specs.Steps.{is_given_up}
use Rattle.plans_lead.specs.step_model.Steps.{Step}
use Rattle.plans_lead.specs.txn_model.Values.{StoreFacts}
use Rattle.plans_lead.specs.txn_state.States.{StateOf, facts_of, IsStore}
use Rattle.plans_lead.specs.txn_core.Seen.{Seen}
use Rattle.plans_lead.specs.txn_core.Views.{present_content}
use Rattle.put_checks.specs.state_store.declared.fault.PutFault.{PutFault}
use Rattle.put_checks.specs.state_store.Volumes.{geometry_of, HoldsState}
use Rattle.put_checks.specs.state_store.Changes.{MayLog, AreApart, LeadsOn, KeepsNamesBy}
use Rattle.put_checks.specs.state_store.Rooms.{room_in, room_cause}
use Rattle.put_checks.specs.state_store.Preparing.{KeepsSeen, FailsSeen}
use Rattle.put_checks.specs.state_store.Puts.{PutsOver, IsUnknownWhereBroken, HasPutCauses}
use Rattle.put_checks.proofs.state_store.Following.{allowed_by}
use Rattle.put_checks.proofs.state_store.Outcomes.{nothing_put}
use Rattle.put_checks.specs.state_store.turn_laws.device_view.Devices.{CountsOnDevice}
use Rattle.change_plan.specs.declared.fault.PlanFault.{PlanFault}
use Rattle.change_plan.specs.declared.fault.PlanFault.TheVariants as plans
use Rattle.change_plan.specs.Faults.{plan_cause}
use Rattle.change_plan.specs.declared.plan.ChangePlan.{ChangePlan}
use Rattle.change_plan.specs.States.{is_data_change}
use Rattle.working_volume.specs.declared.fault.DoFault.{DoFault}
use Rattle.working_volume.specs.declared.fault.DoFault.TheVariants.{Unknown}
use Rattle.working_volume.specs.Ready.{IsReady, IsTaken}
use Rattle.working_volume.specs.Doing.{put_answer, IsAnswered, PutsAndAnswers, DoesStep, Does, CountsChange}
use Rattle.working_volume.specs.Putting.{PutsPlan}
use Rattle.working_volume.proofs.Stepping.{stays, replies, changes, put_steps, is_answered, answer_unknown, answer_failed, answer_counts, failed_since}
use Rattle.working_volume.proofs.Readying.{put_ready, still_ready}

-- ---- changes that were put, or weren't

all_taken : (known : Option Content) (f : StoreFacts) (m : MapParts) (table : List ℕ) (s : VolumeStreams) (xs : List Change) → IfSome known (IsTaken f m table s xs) → IfSome known (λ c. LeadsAsAsked m table c s xs)
all_taken known f m table s xs taken = one known (IsTaken f m table s xs) (λ c. LeadsAsAsked m table c s xs) (λ c is. is.leads) taken

named_behind : (names_stay : NamesStay) (put : Result (Unit {0}) PutFault) (m next : MapParts) → OnOk put (SameNames m.volume.files next.volume.files) → OnErr put (next ≡ m) → (names : Names) → AreNamesOf names m.volume.files → AreNamesOf names next.volume.files
named_behind names_stay (Ok tt) m next same stay names is = names_stay names m.volume.files next.volume.files is same
named_behind names_stay (Err fault) m next same stay names is = subst (λ (x : MapParts). AreNamesOf names x.volume.files) (sym stay) is

pub tried : {D : Type 0} (names_stay : NamesStay) (gives : D → Option (List (List ℕ))) (count : D → ℕ) (moments : D → Changes) (failures moment : D → ℕ) (result : Result Reply DoFault) (plan : ChangePlan) (old new : Seen D) (m next : MapParts) (table : List ℕ) (put : Result (Unit {0}) PutFault)
    → 0 < length plan.changes.items → All (MayLog (facts_of old.state)) plan.changes.items → AreApart plan.changes.items → IfSome (present_content (gives old.device) old.state) (LeadsOn m table plan.changes.items) → is_given_up plan.reply ≡ false → result ≡ put_answer plan.reply put
    → HoldsState (gives new.device) (moments new.device) new.state next table → PutsOver put plan.changes.items (gives old.device) (gives new.device) old.state new.state (moments old.device) (moments new.device) m next → count new.device ≡ count old.device
    → GivesOrFails (λ u. u) room_cause put (room_in (facts_of old.state) plan.changes.items) → IsUnknownWhereBroken put (gives old.device) → HasPutCauses failures moment put old new → OnOk put (SameNames m.volume.files next.volume.files) → OnErr put (next ≡ m) → PutsPlan gives count moments failures moment result plan old new m next table
tried {D} names_stay gives count moments failures moment result plan old new m next table put some each apart leads kept is holds over sectors room broken causes same stay = record {
  holds = holds;
  puts = λ s taken. record {
    list = plan.changes.items;
    put = put;
    over = over;
    asked = λ more. record { each = each; apart = apart; leads = leads; taken = all_taken (present_content (gives old.device) old.state) (facts_of old.state) m table s plan.changes.items (taken more) };
    room = λ more. room;
    answered = is_answered result plan.changes.items put plan.reply some is;
  };
  steps = λ op stamp of_file step. put_steps op stamp m plan.reply plan.changes.items put result _ _ is of_file over.content step;
  ready = λ s ready taken. put_ready put plan.changes.items _ _ old.state new.state _ _ m next table s over ready (taken some);
  unknown = answer_unknown result plan.reply put (gives old.device) is broken;
  counts = answer_counts failures moment result plan.reply put old new is kept causes;
  sectors = sectors;
  named = λ names is. named_behind names_stay put m next same stay names is;
}

-- ---- none that were

-- nothing is put, and this is answered
pub nothing_done : (s : VolumeStreams) (result : Result Reply DoFault) (gives gave : Option (List (List ℕ))) (count : ℕ) (old new : StateOf) (before now : Changes) (m : MapParts) (table : List ℕ) → IsAnswered result [] (Ok tt) → new ≡ old → gave ≡ gives → now ≡ before → HoldsState gives before old m table → IsStore (facts_of old)
    → IfSome gives (IsDiskOf count) → PutsAndAnswers table s result gives gave old new before now m m
nothing_done s result gives gave count old new before now m table is state same unchanged holds k whole =
    subst (λ (x : StateOf). PutsAndAnswers table s result gives gave old x before now m m) (sym state)
    (subst (λ (x : Option (List (List ℕ))). PutsAndAnswers table s result gives x old old before now m m) (sym same)
    (subst (λ (x : Changes). PutsAndAnswers table s result gives gives old old before x m m) (sym unchanged)
    (record {
      list = [];
      put = Ok tt;
      over = nothing_put [] gives count old before m table refl holds.closed k whole holds.shown;
      asked = λ some. absurd (omega (arith, some));
      room = λ some. absurd (omega (arith, some));
      answered = is;
    })))

-- the content after no changes
after_none : (gives gave : Option (List (List ℕ))) (count : ℕ) (state : StateOf) (before : Changes) (m : MapParts) (table : List ℕ) → HoldsState gives before state m table → IsStore (facts_of state) → IfSome gives (IsDiskOf count) → present_content gives state ≡ option_map (content_after []) (present_content gives state)
after_none gives gave count state before m table holds k whole = (nothing_put {E = PutFault} [] gives count state before m table refl holds.closed k whole holds.shown).content

pub none_to_put : {D : Type 0} (gives : D → Option (List (List ℕ))) (count : D → ℕ) (moments : D → Changes) (failures moment : D → ℕ) (said : Reply) (plan : ChangePlan) (old : Seen D) (m : MapParts) (table : List ℕ) → plan.changes.items ≡ [] → said ≡ plan.reply → is_given_up plan.reply ≡ false
    → HoldsState (gives old.device) (moments old.device) old.state m table → IsStore (facts_of old.state) → IfSome (gives old.device) (IsDiskOf (count old.device)) → PutsPlan gives count moments failures moment (Ok said) plan old old m m table
none_to_put {D} gives count moments failures moment said plan old m table none is kept holds k whole = record {
  holds = holds;
  puts = λ s taken. nothing_done s (Ok said) (gives old.device) (gives old.device) (count old.device) old.state old.state (moments old.device) (moments old.device) m table refl refl refl refl holds k whole;
  steps = λ op stamp of_file step. subst (λ (r : Reply). DoesStep op stamp m (Ok r) (present_content (gives old.device) old.state) (present_content (gives old.device) old.state)) (sym is)
      (changes op stamp m plan.reply plan.changes.items (present_content (gives old.device) old.state) (present_content (gives old.device) old.state) (subst (λ (xs : List Change). present_content (gives old.device) old.state ≡ option_map (content_after xs) (present_content (gives old.device) old.state)) (sym none)
      (after_none (gives old.device) (gives old.device) (count old.device) old.state (moments old.device) m table holds k whole)) step);
  ready = λ s ready taken. ready;
  unknown = λ u. absurd cc;
  counts = record {
    onwards = record { later = omega arith; onwards = omega arith };
    fault = answer_failed (Ok said) plan.reply (Ok tt) (HasFailed (failures old.device) (failures old.device) (moment old.device)) (ap (λ (r : Reply). Ok r) is) kept tt;
    counted = λ early other. refl;
  };
  sectors = refl;
  named = λ names is. is;
}

-- ---- changes that weren't tried, since the store may not be given them

none_where : (gives : Option (List (List ℕ))) (state : StateOf) (passes : Bool) → IfSome (present_content gives state) (λ c. passes ≡ true) → passes ≡ false → gives ≡ None
none_where None state passes is isnt = refl
none_where (Some disk) state passes is isnt = absurd (let e : true ≡ false = sym is ∙ isnt in cc)

pub refused : {D : Type 0} (gives : D → Option (List (List ℕ))) (count : D → ℕ) (moments : D → Changes) (failures moment : D → ℕ) (plan : ChangePlan) (old : Seen D) (m : MapParts) (table : List ℕ) (passes : Bool) → IfSome (present_content (gives old.device) old.state) (λ c. passes ≡ true) → passes ≡ false
    → HoldsState (gives old.device) (moments old.device) old.state m table → IsStore (facts_of old.state) → IfSome (gives old.device) (IsDiskOf (count old.device)) → PutsPlan gives count moments failures moment (Err Unknown) plan old old m m table
refused {D} gives count moments failures moment plan old m table passes is isnt holds k whole = record {
  holds = holds;
  puts = λ s taken. nothing_done s (Err Unknown) (gives old.device) (gives old.device) (count old.device) old.state old.state (moments old.device) (moments old.device) m table refl refl refl refl holds k whole;
  steps = λ op stamp of_file step. stays op stamp m Unknown _ _ refl;
  ready = λ s ready taken. ready;
  unknown = λ u. none_where (gives old.device) old.state passes is isnt;
  counts = record {
    onwards = record { later = omega arith; onwards = omega arith };
    fault = λ f. absurd cc;
    counted = λ early other. refl;
  };
  sectors = refl;
  named = λ names is. is;
}

-- ---- a plan that failed

pub memory_counts : (fault : PlanFault) (before now moment : ℕ) → fault ≡ plans.Memory → CountsOnDevice {T = ChangePlan} plan_cause before now moment (Err fault) → now ≡ before
memory_counts fault before now moment is counts = subst (λ (e : PlanFault). CountsOnDevice {T = ChangePlan} plan_cause before now moment (Err e)) is counts

pub unknown_counts : (fault : PlanFault) (before now moment : ℕ) → fault ≡ plans.Unknown → CountsOnDevice {T = ChangePlan} plan_cause before now moment (Err fault) → now ≡ before
unknown_counts fault before now moment is counts = subst (λ (e : PlanFault). CountsOnDevice {T = ChangePlan} plan_cause before now moment (Err e)) is counts

-- ---- behind a reading of the store

module _ {D : Type 0} (gives : D → Option (List (List ℕ))) (count : D → ℕ) (moments : D → Changes) (failures moment : D → ℕ) (old mid : Seen D) (kept : KeepsSeen gives count moments failures moment old mid) where
  known : present_content (gives mid.device) mid.state ≡ present_content (gives old.device) old.state
  known = ap₂ present_content kept.same kept.state

  taken_since : (m : MapParts) (table : List ℕ) (s : VolumeStreams) (xs : List Change) → (0 < length xs → IfSome (present_content (gives old.device) old.state) (IsTaken (facts_of old.state) m table s xs)) → 0 < length xs → IfSome (present_content (gives mid.device) mid.state) (IsTaken (facts_of mid.state) m table s xs)
  taken_since m table s xs taken some =
      subst (λ (x : StateOf). IfSome (present_content (gives mid.device) x) (IsTaken (facts_of x) m table s xs)) (sym kept.state)
      (subst (λ (o : Option (List (List ℕ))). IfSome (present_content o old.state) (IsTaken (facts_of old.state) m table s xs)) (sym kept.same) (taken some))

  counts_since : (result : Result Reply DoFault) (new : Seen D) → (moment old.device < last_moment → failures mid.device ≡ failures old.device) → CountsChange failures moment result mid.device new.device → CountsChange failures moment result old.device new.device
  counts_since result new same counts =
      let first = kept.later in
      let start = kept.onwards in
      let then = counts.onwards.later in
      let rest = counts.onwards.onwards in
      record {
        onwards = record { later = omega (arith, first, then); onwards = omega (arith, start, rest) };
        fault = λ is. failed_since (failures old.device) (failures mid.device) (failures new.device) (moment new.device) kept.later (counts.fault is);
        counted = λ early other. counts.counted early other ∙ same (omega (arith, early, start, rest));
      }

  -- a plan that isn't there is answered so
  pub unplanned_counts : (result : Result Reply DoFault) → (result ≡ Ok reply.Fault → FailsSeen failures moment old mid) → (moment old.device < last_moment → result ≢ Ok reply.Fault → failures mid.device ≡ failures old.device) → CountsChange failures moment result old.device mid.device
  unplanned_counts result fault counted = record {
    onwards = record { later = kept.later; onwards = kept.onwards };
    fault = λ is. (fault is).failed;
    counted = λ early other. counted (let start = kept.onwards in omega (arith, early, start)) other;
  }

  pub since : (result : Result Reply DoFault) (plan : ChangePlan) (new : Seen D) (m next : MapParts) (table : List ℕ) → (moment old.device < last_moment → failures mid.device ≡ failures old.device) → PutsPlan gives count moments failures moment result plan mid new m next table → PutsPlan gives count moments failures moment result plan old new m next table
  since result plan new m next table same p = record {
    holds = p.holds;
    puts = λ s taken.
        subst (λ (x : StateOf). PutsAndAnswers table s result (gives old.device) (gives new.device) x new.state (moments old.device) (moments new.device) m next) kept.state
        (subst (λ (x : Option (List (List ℕ))). PutsAndAnswers table s result x (gives new.device) mid.state new.state (moments old.device) (moments new.device) m next) kept.same
        (subst (λ (x : Changes). PutsAndAnswers table s result (gives mid.device) (gives new.device) mid.state new.state x (moments new.device) m next) kept.unchanged (p.puts s (λ some. taken_since m table s plan.changes.items taken some))));
    steps = λ op stamp of_file.
        subst (λ (o : Option Content). IfSome o (λ c. Step (geometry_of m) m.volume.clusters op stamp plan.reply c (content_after plan.changes.items c)) → DoesStep op stamp m result o (present_content (gives new.device) new.state)) known (p.steps op stamp of_file);
    ready = λ s.
        subst (λ (x : StateOf). IfSome (present_content (gives old.device) x) (IsReady (facts_of x) m table s) → (0 < length plan.changes.items → IfSome (present_content (gives old.device) x) (IsTaken (facts_of x) m table s plan.changes.items)) → IfSome (present_content (gives new.device) new.state) (IsReady (facts_of new.state) next table s)) kept.state
        (subst (λ (o : Option (List (List ℕ))). IfSome (present_content o mid.state) (IsReady (facts_of mid.state) m table s) → (0 < length plan.changes.items → IfSome (present_content o mid.state) (IsTaken (facts_of mid.state) m table s plan.changes.items)) → IfSome (present_content (gives new.device) new.state) (IsReady (facts_of new.state) next table s)) kept.same (p.ready s));
    unknown = λ is. sym kept.same ∙ p.unknown is;
    counts = counts_since result new same p.counts;
    sectors = p.sectors ∙ kept.sectors;
    named = p.named;
  }

  pub holds_since : (m : MapParts) (table : List ℕ) → HoldsState (gives old.device) (moments old.device) old.state m table → HoldsState (gives mid.device) (moments mid.device) mid.state m table
  holds_since m table holds =
      subst (λ (x : StateOf). HoldsState (gives mid.device) (moments mid.device) x m table) (sym kept.state)
      (subst (λ (x : Option (List (List ℕ))). HoldsState x (moments mid.device) old.state m table) (sym kept.same)
      (subst (λ (x : Changes). HoldsState (gives old.device) x old.state m table) (sym kept.unchanged) holds))

  pub leads_since : (m : MapParts) (table : List ℕ) (s : VolumeStreams) (xs : List Change) → (0 < length xs → IfSome (present_content (gives old.device) old.state) (IsTaken (facts_of old.state) m table s xs)) → 0 < length xs → IfSome (present_content (gives mid.device) mid.state) (LeadsOn m table xs)
  leads_since m table s xs taken some = subst (λ (o : Option Content). IfSome o (LeadsOn m table xs)) (sym known) (one (present_content (gives old.device) old.state) (IsTaken (facts_of old.state) m table s xs) (LeadsOn m table xs) (λ c is. is.leads.leads) (taken some))

  pub allowed_since : (m : MapParts) (table : List ℕ) (s : VolumeStreams) (xs : List Change) → (0 < length xs → IfSome (present_content (gives old.device) old.state) (IsTaken (facts_of old.state) m table s xs)) → 0 < length xs → IfSome (present_content (gives mid.device) mid.state) (KeepsNamesBy SameNames m xs)
  allowed_since m table s xs taken some =
      subst (λ (o : Option Content). IfSome o (KeepsNamesBy SameNames m xs)) (sym known)
      (one (present_content (gives old.device) old.state) (IsTaken (facts_of old.state) m table s xs) (KeepsNamesBy SameNames m xs) (λ c is. allowed_by SameNames m table xs c is.leads.leads is.leads.names) (taken some))

  pub passes_since : (m : MapParts) (table : List ℕ) (s : VolumeStreams) (xs : List Change) → (0 < length xs → IfSome (present_content (gives old.device) old.state) (IsTaken (facts_of old.state) m table s xs)) → 0 < length xs
      → IfSome (present_content (gives mid.device) mid.state) (λ c. may_put mid.state.place mid.state.found xs ≡ true)
  passes_since m table s xs taken some =
      subst (λ (x : StateOf). IfSome (present_content (gives mid.device) x) (λ c. may_put x.place x.found xs ≡ true)) (sym kept.state)
      (subst (λ (o : Option (List (List ℕ))). IfSome (present_content o old.state) (λ c. may_put old.state.place old.state.found xs ≡ true)) (sym kept.same)
      (one (present_content (gives old.device) old.state) (IsTaken (facts_of old.state) m table s xs) (λ c. may_put old.state.place old.state.found xs ≡ true) (λ c is. is.passes) (taken some)))

  -- a plan that isn't there is an answer
  pub unplanned : (result : Result Reply DoFault) (op : Op) (stamp : ℕ) (m : MapParts) (table : List ℕ) (s : VolumeStreams) → IsAnswered result [] (Ok tt) → HoldsState (gives old.device) (moments old.device) old.state m table → IsStore (facts_of old.state) → IfSome (gives old.device) (IsDiskOf (count old.device))
      → DoesStep op stamp m result (present_content (gives old.device) old.state) (present_content (gives mid.device) mid.state) → Does op stamp table s result (gives old.device) (gives mid.device) old.state mid.state (moments old.device) (moments mid.device) m m
  unplanned result op stamp m table s is holds k whole step = record { puts = nothing_done s result (gives old.device) (gives mid.device) (count old.device) old.state mid.state (moments old.device) (moments mid.device) m table is kept.state kept.same kept.unchanged holds k whole; step = step }

  pub unplanned_unknown : (op : Op) (stamp : ℕ) (m : MapParts) (table : List ℕ) (s : VolumeStreams) → HoldsState (gives old.device) (moments old.device) old.state m table → IsStore (facts_of old.state) → IfSome (gives old.device) (IsDiskOf (count old.device))
      → Does op stamp table s (Err Unknown) (gives old.device) (gives mid.device) old.state mid.state (moments old.device) (moments mid.device) m m
  unplanned_unknown op stamp m table s holds k whole = unplanned (Err Unknown) op stamp m table s refl holds k whole (stays op stamp m Unknown _ _ known)

  pub unplanned_reply : (said : Reply) (op : Op) (stamp : ℕ) (m : MapParts) (table : List ℕ) (s : VolumeStreams) → IfSome (present_content (gives old.device) old.state) (λ c. Step (geometry_of m) m.volume.clusters op stamp said c c) → HoldsState (gives old.device) (moments old.device) old.state m table → IsStore (facts_of old.state)
      → IfSome (gives old.device) (IsDiskOf (count old.device)) → Does op stamp table s (Ok said) (gives old.device) (gives mid.device) old.state mid.state (moments old.device) (moments mid.device) m m
  unplanned_reply said op stamp m table s step holds k whole = unplanned (Ok said) op stamp m table s refl holds k whole (replies op stamp m said _ _ known step)

  pub ready_since : (m : MapParts) (table : List ℕ) (s : VolumeStreams) → IfSome (present_content (gives old.device) old.state) (IsReady (facts_of old.state) m table s) → IfSome (present_content (gives mid.device) mid.state) (IsReady (facts_of mid.state) m table s)
  ready_since m table s ready = still_ready (gives old.device) (gives mid.device) old.state mid.state m table s kept.state kept.same ready

-- ---- the whole

plan_step : (known : Option Content) (g : Geometry) (clusters : ℕ) (v : Volume) (s : VolumeStreams) (op : Op) (stamp : ℕ) (plan : ChangePlan) → IfSome known (λ c. IsPlan c g clusters v s op stamp plan) → IfSome known (λ c. Step g clusters op stamp plan.reply c (content_after plan.changes.items c))
plan_step known g clusters v s op stamp plan is = one known (λ c. IsPlan c g clusters v s op stamp plan) (λ c. Step g clusters op stamp plan.reply c (content_after plan.changes.items c)) (λ c k. k.step) is

pub does : {D : Type 0} (gives : D → Option (List (List ℕ))) (count : D → ℕ) (moments : D → Changes) (failures moment : D → ℕ) (result : Result Reply DoFault) (plan : ChangePlan) (old new : Seen D) (m next : MapParts) (table : List ℕ) (s : VolumeStreams) (op : Op) (stamp : ℕ) → is_data_change op ≡ true
    → IfSome (present_content (gives old.device) old.state) (λ c. IsPlan c (geometry_of m) m.volume.clusters m.volume s op stamp plan) → (0 < length plan.changes.items → IfSome (present_content (gives old.device) old.state) (IsTaken (facts_of old.state) m table s plan.changes.items)) → PutsPlan gives count moments failures moment result plan old new m next table
    → Does op stamp table s result (gives old.device) (gives new.device) old.state new.state (moments old.device) (moments new.device) m next
does {D} gives count moments failures moment result plan old new m next table s op stamp of_file plans taken p = record { puts = p.puts s taken; step = p.steps op stamp of_file (plan_step (present_content (gives old.device) old.state) (geometry_of m) m.volume.clusters m.volume s op stamp plan plans) }
