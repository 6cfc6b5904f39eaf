-- The step of an operation of which the changes were put, or weren't.
use Rattle.std.proofs.Common.{◌≡◌, subst, ℕ, ◌<◌, ◌≤◌, true, false, List, [], ◌∷◌, length, Option, Some, None, Result, Ok, Err, refl, sym, ap, ◌∙◌, inl, inr, arith}
use Rattle.std.specs.Prelude.{◌≢◌, IfSome, IfErr}
use Rattle.std.specs.Option.{option_map}
use Rattle.host_base.specs.Causes.{HasFailed}
use Rattle.disk_model.specs.declared.block.Change.{Change}
use Rattle.disk_model.specs.Content.{Content}
use Rattle.state_model.specs.declared.geometry.Geometry.{Geometry}
use Rattle.plans_lead.specs.map_change.Parts.{MapParts}
use Rattle.block_view.specs.Changes.{content_after}
use Rattle.tree_model.specs.declared.script.Op.{Op}
use Rattle.tree_model.specs.declared.script.Op.TheVariants as op
use Rattle.tree_model.specs.declared.reply.Reply.{Reply}
use Rattle.tree_model.specs.declared.reply.Reply.TheVariants as reply
use Rattle.tree_model.specs.Steps.{is_given_up}
use Rattle.plans_lead.specs.step_model.Steps.{Answer, GivenUp, answer_of, IsDoneIn, IsRefused, StepBy, Step}
use Rattle.plans_lead.specs.txn_core.Seen.{Seen}
use Rattle.put_checks.specs.state_store.turn_laws.device_view.Devices.{CountsOnDevice}
use Rattle.put_checks.specs.state_store.declared.fault.PutFault.{PutFault}
use Rattle.put_checks.specs.state_store.declared.fault.PutFault.TheVariants as faults
use Rattle.put_checks.specs.state_store.Volumes.{geometry_of}
use Rattle.put_checks.specs.state_store.Puts.{put_cause, PutsContent, IsUnknownWhereBroken, HasPutCauses}
use Rattle.change_plan.specs.States.{is_data_change}
use Rattle.working_volume.specs.declared.fault.DoFault.{DoFault}
use Rattle.working_volume.specs.declared.fault.DoFault.TheVariants.{NeedsRoom, Unknown}
use Rattle.working_volume.specs.Doing.{put_answer, IsAnswered, DoesStep, CountsChange}

-- ---- what is given up

fault_gives_up : (o : Op) → is_data_change o ≡ true → answer_of o reply.Fault ≡ GivenUp
fault_gives_up (op.Write path offset bytes) is = refl
fault_gives_up (op.Fill path offset count byte) is = refl
fault_gives_up (op.Truncate path size) is = refl
fault_gives_up other is = absurd cc

memory_gives_up : (o : Op) → is_data_change o ≡ true → answer_of o reply.Memory ≡ GivenUp
memory_gives_up (op.Write path offset bytes) is = refl
memory_gives_up (op.Fill path offset count byte) is = refl
memory_gives_up (op.Truncate path size) is = refl
memory_gives_up other is = absurd cc

-- a reply that gives up is a step that leaves the content, where the operation has some step from it
given_up_step : (g : Geometry) (clusters : ℕ) (o : Op) (stamp : ℕ) (said given : Reply) (c d : Content) → answer_of o given ≡ GivenUp → Step g clusters o stamp said c d → Step g clusters o stamp given c c
given_up_step g clusters o stamp said given c d is step = record {
  old = step.old;
  stands = step.stands;
  eight = step.eight;
  has = step.has;
  by = subst (λ (a : Answer). StepBy a (IsDoneIn c step.old g clusters o 0 stamp given c) (IsRefused c step.old o 0 given) (c ≡ c)) (sym is) refl;
}

-- ---- the step that was done

pub stays : (o : Op) (stamp : ℕ) (m : MapParts) (why : DoFault) (old new : Option Content) → new ≡ old → DoesStep o stamp m (Err why) old new
stays o stamp m why None new same = subst (DoesStep o stamp m (Err why) None) (sym same) tt
stays o stamp m why (Some c) new same = subst (DoesStep o stamp m (Err why) (Some c)) (sym same) refl

pub replies : (o : Op) (stamp : ℕ) (m : MapParts) (said : Reply) (old new : Option Content) → new ≡ old → IfSome old (λ c. Step (geometry_of m) m.volume.clusters o stamp said c c) → DoesStep o stamp m (Ok said) old new
replies o stamp m said None new same step = subst (DoesStep o stamp m (Ok said) None) (sym same) tt
replies o stamp m said (Some c) new same step = subst (DoesStep o stamp m (Ok said) (Some c)) (sym same) step

-- with the content after some changes
pub changes : (o : Op) (stamp : ℕ) (m : MapParts) (said : Reply) (xs : List Change) (old new : Option Content) → new ≡ option_map (content_after xs) old → IfSome old (λ c. Step (geometry_of m) m.volume.clusters o stamp said c (content_after xs c)) → DoesStep o stamp m (Ok said) old new
changes o stamp m said xs None new is step = subst (DoesStep o stamp m (Ok said) None) (sym is) tt
changes o stamp m said xs (Some c) new is step = subst (DoesStep o stamp m (Ok said) (Some c)) (sym is) step

gives_up : (o : Op) (stamp : ℕ) (m : MapParts) (said given : Reply) (xs : List Change) (old : Option Content) → answer_of o given ≡ GivenUp → IfSome old (λ c. Step (geometry_of m) m.volume.clusters o stamp said c (content_after xs c))
    → IfSome old (λ c. Step (geometry_of m) m.volume.clusters o stamp given c c)
gives_up o stamp m said given xs None is step = tt
gives_up o stamp m said given xs (Some c) is step = given_up_step (geometry_of m) m.volume.clusters o stamp said given c (content_after xs c) is step

by_put : (o : Op) (stamp : ℕ) (m : MapParts) (said : Reply) (xs : List Change) (put : Result (Unit {0}) PutFault) (old new : Option Content) → is_data_change o ≡ true → PutsContent put xs old new → IfSome old (λ c. Step (geometry_of m) m.volume.clusters o stamp said c (content_after xs c))
    → DoesStep o stamp m (put_answer said put) old new
by_put o stamp m said xs (Ok tt) old new of_file content step = changes o stamp m said xs old new content step
by_put o stamp m said xs (Err (faults.NeedsRoom pages room)) old new of_file content step = stays o stamp m (NeedsRoom pages room) old new content
by_put o stamp m said xs (Err faults.Fault) old new of_file content step = replies o stamp m reply.Fault old new content (gives_up o stamp m said reply.Fault xs old (fault_gives_up o of_file) step)
by_put o stamp m said xs (Err faults.Memory) old new of_file content step = replies o stamp m reply.Memory old new content (gives_up o stamp m said reply.Memory xs old (memory_gives_up o of_file) step)
by_put o stamp m said xs (Err faults.Broken) old new of_file content step = stays o stamp m Unknown old new content

pub put_steps : (o : Op) (stamp : ℕ) (m : MapParts) (said : Reply) (xs : List Change) (put : Result (Unit {0}) PutFault) (result : Result Reply DoFault) (old new : Option Content) → result ≡ put_answer said put → is_data_change o ≡ true → PutsContent put xs old new
    → IfSome old (λ c. Step (geometry_of m) m.volume.clusters o stamp said c (content_after xs c)) → DoesStep o stamp m result old new
put_steps o stamp m said xs put result old new is of_file content step = subst (λ (r : Result Reply DoFault). DoesStep o stamp m r old new) (sym is) (by_put o stamp m said xs put old new of_file content step)

-- ---- the answer

pub is_answered : (result : Result Reply DoFault) (xs : List Change) (put : Result (Unit {0}) PutFault) (said : Reply) → 0 < length xs → result ≡ put_answer said put → IsAnswered result xs put
is_answered result [] put said some is = absurd (omega (arith, some))
is_answered result (x ∷ xs) put said some is = (said, is)

broken_only : (said : Reply) (put : Result (Unit {0}) PutFault) → put_answer said put ≡ Err Unknown → put ≡ Err faults.Broken
broken_only said (Ok tt) is = absurd cc
broken_only said (Err (faults.NeedsRoom pages room)) is = absurd cc
broken_only said (Err faults.Fault) is = absurd cc
broken_only said (Err faults.Memory) is = absurd cc
broken_only said (Err faults.Broken) is = refl

unknown_where : (put : Result (Unit {0}) PutFault) (gives : Option (List (List ℕ))) → IsUnknownWhereBroken put gives → put ≡ Err faults.Broken → gives ≡ None
unknown_where put gives broken is = (subst (λ (r : Result (Unit {0}) PutFault). IsUnknownWhereBroken r gives) is broken) refl

pub answer_unknown : (result : Result Reply DoFault) (said : Reply) (put : Result (Unit {0}) PutFault) (gives : Option (List (List ℕ))) → result ≡ put_answer said put → IsUnknownWhereBroken put gives → result ≡ Err Unknown → gives ≡ None
answer_unknown result said put gives is broken unknown = unknown_where put gives broken (broken_only said put (sym is ∙ unknown))

kept_reply : (said : Reply) → is_given_up said ≡ false → said ≡ reply.Fault → ⊥
kept_reply said kept is = (let e : true ≡ false = sym (ap is_given_up is) ∙ kept in cc)

fault_only : (said : Reply) (put : Result (Unit {0}) PutFault) → is_given_up said ≡ false → put_answer said put ≡ Ok reply.Fault → put ≡ Err faults.Fault
fault_only said (Ok tt) kept is = absurd (kept_reply said kept cc)
fault_only said (Err (faults.NeedsRoom pages room)) kept is = absurd cc
fault_only said (Err faults.Fault) kept is = refl
fault_only said (Err faults.Memory) kept is = absurd cc
fault_only said (Err faults.Broken) kept is = absurd cc

pub answer_failed : (result : Result Reply DoFault) (said : Reply) (put : Result (Unit {0}) PutFault) (F : Type 0) → result ≡ put_answer said put → is_given_up said ≡ false → IfErr put (λ why. why ≡ faults.Fault → F) → result ≡ Ok reply.Fault → F
answer_failed result said put F is kept failed fault = (subst (λ (r : Result (Unit {0}) PutFault). IfErr r (λ why. why ≡ faults.Fault → F)) (fault_only said put kept (sym is ∙ fault)) failed) refl

counted_by : (said : Reply) (put : Result (Unit {0}) PutFault) (before now moment : ℕ) → CountsOnDevice put_cause before now moment put → put_answer said put ≢ Ok reply.Fault → now ≡ before
counted_by said (Ok tt) before now moment counts other = counts
counted_by said (Err (faults.NeedsRoom pages room)) before now moment counts other = counts
counted_by said (Err faults.Fault) before now moment counts other = absurd (other refl)
counted_by said (Err faults.Memory) before now moment counts other = counts
counted_by said (Err faults.Broken) before now moment counts other = counts

pub answer_counts : {D : Type 0} (failures moment : D → ℕ) (result : Result Reply DoFault) (said : Reply) (put : Result (Unit {0}) PutFault) (old new : Seen D) → result ≡ put_answer said put → is_given_up said ≡ false → HasPutCauses failures moment put old new → CountsChange failures moment result old.device new.device
answer_counts {D} failures moment result said put old new is kept causes = record {
  onwards = causes.onwards;
  fault = answer_failed result said put (HasFailed (failures old.device) (failures new.device) (moment new.device)) is kept causes.failed;
  counted = λ early other.
      counted_by said put (failures old.device) (failures new.device) (moment new.device) (causes.counted (let more = causes.onwards.onwards in omega (arith, early, more))) (λ same. other (is ∙ same));
}

pub failed_since : (before mid now moment : ℕ) → before ≤ mid → HasFailed mid now moment → HasFailed before now moment
failed_since before mid now moment later (inl rose) = inl (omega (arith, later, rose))
failed_since before mid now moment later (inr ends) = inr ends
