-- What a draft's write of a file comes to is a plan.
use Rattle.std.proofs.Common.{◌≡◌, ℕ, ◌<◌, Bool, true, false, List, [], length, Option, Some, None, Result, Ok, Err, refl, sym, ap, subst, ◌∙◌, arith}
use Rattle.std.specs.Prelude.{All, IfSome, IfOk, OnOk}
use Rattle.std.proofs.lemmas.List.Elements.{All-nil}
use Rattle.host_base.specs.Answers.{Cause}
use Rattle.host_base.specs.Causes.{Rose, Counts}
use Rattle.disk_model.specs.declared.block.Change.{Change}
use Rattle.disk_model.specs.Content.{Content, HasSizes}
use Rattle.record_model.specs.Records.{Record}
use Rattle.file_tree.specs.declared.node.Node.{Node}
use Rattle.state_model.specs.declared.geometry.Geometry.{Geometry}
use Rattle.volume_model.specs.Volumes.{Volume}
use Rattle.tree_model.specs.declared.script.Op.{Op}
use Rattle.tree_model.specs.declared.script.Op.TheVariants as op
use Rattle.tree_model.specs.declared.reply.Reply.{Reply}
use Rattle.tree_model.specs.declared.reply.Reply.TheVariants as reply
use Rattle.tree_model.specs.Steps.{is_given_up}
use Rattle.block_view.specs.Changes.{Fits, content_after}
use Rattle.plan_draft.specs.declared.touched.Touched.{Touched}
use Rattle.plan_draft.specs.Drafts.{drafted}
use Rattle.plan_draft.specs.Touching.{IsOldOf, rises}
use Rattle.plan_draft.specs.Finishing.{change_keys, WasOld}
use Rattle.found_files.specs.made_data.Made.{record_with_data}
use Rattle.found_files.specs.file_puts.declared.streams.VolumeStreams.{VolumeStreams}
use Rattle.found_files.specs.file_writes.declared.fault.WriteFault.{WriteFault}
use Rattle.found_files.specs.file_writes.declared.fault.WriteFault.TheVariants as write
use Rattle.found_files.specs.file_writes.Faults.{write_cause}
use Rattle.found_files.specs.file_changes.Calls.{IsAsked, StepsTo, StepsFrom}
use Rattle.found_files.specs.file_changes.Written.{IsWritten, WrittenFrom}
use Rattle.found_files.specs.step_model.Steps.{Answer, Done, answer_of, Step}
use Rattle.found_files.specs.change_steps.Changes.{change_reply, ChangesAreSteps}
use Rattle.found_files.specs.change_steps.Found.{HasChange}
use Rattle.state_model.specs.declared.stream.Extents.{Extents}
use Rattle.stream_laws.proofs.Rewriting.{volume_parts}
use Rattle.found_files.specs.draft_records.Records.{file_of}
use Rattle.found_files.proofs.written_clusters.Chaining.{none_drafted}
use Rattle.change_plan.specs.declared.plan.ChangePlan.{ChangePlan}
use Rattle.change_plan.specs.declared.fault.PlanFault.{PlanFault}
use Rattle.change_plan.specs.declared.fault.PlanFault.TheVariants.{Fault, Memory, Unknown}
use Rattle.change_plan.specs.Faults.{plan_cause}
use Rattle.change_plan.specs.States.{is_data_change, HasFewClusters}
use Rattle.change_plan.specs.Plans.{AreChanges, IsSound, IsPlan, Plans, IsKnown}
use Rattle.change_plan.specs.Drafting.{IsDraftOver, IsFinished, IsAnswer, Ends, PlansAsked, PlansFound, KnowsAsked, KnowsFound}
use Rattle.change_plan.specs.Laws.{FilesAreRead}

-- ---- no changes

pub none_after : (c : Content) → HasSizes c → content_after [] c ≡ c
none_after c sized = none_drafted c sized

none_changed : (content : Option Content) → AreChanges content []
unfolding rises
none_changed None = record { fit = All-nil Fits; in_order = refl; olds = tt }
none_changed (Some c) = record { fit = All-nil Fits; in_order = refl; olds = All-nil (WasOld c) }

-- an answer that is a step is a plan
pub answer_plans : (c : Content) (g : Geometry) (clusters : ℕ) (v : Volume) (s : VolumeStreams) (o : Op) (stamp : ℕ) (said : Reply) (plan : ChangePlan) → HasSizes c → Step g clusters o stamp said c c → IsAnswer said plan → IsPlan c g clusters v s o stamp plan
answer_plans c g clusters v s o stamp said plan sized step k = record {
  step =
      subst (λ (x : Reply). Step g clusters o stamp x c (content_after plan.changes.items c)) (sym k.reply_is)
      (subst (λ (l : List Change). Step g clusters o stamp said c (content_after l c)) (sym k.none) (subst (λ (d : Content). Step g clusters o stamp said c d) (sym (none_after c sized)) step));
  draft = λ some. (let none = ap length k.none in absurd (omega (arith, some, none)));
}

pub answer_sound : (content : Option Content) (o : Op) (said : Reply) (plan : ChangePlan) → is_given_up said ≡ false → IsAnswer said plan → IsSound content o plan
answer_sound content o said plan given k = record {
  changes_are = subst (λ (l : List Change). AreChanges content l) (sym k.none) (none_changed content);
  stays = λ undone. k.none;
  kept_on = ap is_given_up k.reply_is ∙ given;
}

-- ---- a draft that is finished

done_is : (o : Op) → is_data_change o ≡ true → answer_of o (change_reply o) ≡ Done
done_is (op.Write path offset bytes) is = refl
done_is (op.Fill path offset count byte) is = refl
done_is (op.Truncate path size) is = refl
done_is other is = absurd cc

pub kept_on : (o : Op) → is_data_change o ≡ true → is_given_up (change_reply o) ≡ false
kept_on (op.Write path offset bytes) is = refl
kept_on (op.Fill path offset count byte) is = refl
kept_on (op.Truncate path size) is = refl
kept_on other is = absurd cc

finished_sound : (content : Option Content) (o : Op) (touched : List Touched) (plan : ChangePlan) → is_data_change o ≡ true → IsFinished content o touched plan → IsSound content o plan
finished_sound content o touched plan changes k = record {
  changes_are = k.changes_are;
  stays = λ undone. absurd (undone (ap (answer_of o) k.reply_is ∙ done_is o changes));
  kept_on = ap is_given_up k.reply_is ∙ kept_on o changes;
}

finished_plans : (c : Content) (g : Geometry) (clusters : ℕ) (v : Volume) (s : VolumeStreams) (o : Op) (stamp number : ℕ) (a : Node) (r : Record) (new : List Touched) (plan : ChangePlan) → Step g clusters o stamp (change_reply o) c (drafted new c) → IsWritten c g clusters v s o number stamp a r (record_with_data r) new
    → IsFinished (Some c) o new plan → IsPlan c g clusters v s o stamp plan
finished_plans c g clusters v s o stamp number a r new plan step written k = record {
  step =
      subst (λ (x : Reply). Step g clusters o stamp x c (content_after plan.changes.items c)) (sym k.reply_is)
      (subst (λ (d : Content). Step g clusters o stamp (change_reply o) c d) (sym k.after) step);
  draft = λ some. record {
    number = number;
    r = r;
    a = a;
    touched = new;
    in_order = k.over.in_order;
    whole = k.over.whole;
    olds = k.over.olds;
    are = k.are;
    written = written;
  };
}

-- ---- all ends

same_end : (c : Content) (g : Geometry) (clusters : ℕ) (v : Volume) (s : VolumeStreams) (o : Op) (stamp : ℕ) (x result : Result ChangePlan PlanFault) → result ≡ x → Plans x c g clusters v s o stamp → Plans result c g clusters v s o stamp
same_end c g clusters v s o stamp x result is plans = subst (λ (y : Result ChangePlan PlanFault). Plans y c g clusters v s o stamp) (sym is) plans

memory_plans : (c : Content) (g : Geometry) (clusters : ℕ) (v : Volume) (s : VolumeStreams) (o : Op) (stamp : ℕ) (e : PlanFault) → e ≡ Memory → Step g clusters o stamp reply.Memory c c → Plans (Err e) c g clusters v s o stamp
memory_plans c g clusters v s o stamp e is step = same_end c g clusters v s o stamp (Err Memory) (Err e) (ap (λ (x : PlanFault). Err x) is) step

ends_plan : ChangesAreSteps → (c : Content) (g : Geometry) (clusters : ℕ) (v : Volume) (s : VolumeStreams) (o : Op) (stamp : ℕ) (node a : Node) (r : Record) (bits : List Bool) (new : List Touched) (written : Result (Unit {0}) WriteFault) (result : Result ChangePlan PlanFault)
    → IsAsked c g clusters v s o node a r bits → StepsTo written c g clusters o stamp new → OnOk written (IsWritten c g clusters v s o node.number stamp a r (record_with_data r) new) → Ends (Some c) o new written result → Plans result c g clusters v s o stamp
ends_plan steps c g clusters v s o stamp node a r bits new (Ok u) (Ok plan) asked step has ends = finished_plans c g clusters v s o stamp node.number a r new plan step has ends
ends_plan steps c g clusters v s o stamp node a r bits new (Ok u) (Err e) asked step has ends = memory_plans c g clusters v s o stamp e ends (steps.given_up c g clusters v o stamp reply.Memory asked.has refl)
ends_plan steps c g clusters v s o stamp node a r bits new (Err (write.Full used)) (Ok plan) asked step has ends = answer_plans c g clusters v s o stamp (reply.RecordFull used) plan asked.sized step ends
ends_plan steps c g clusters v s o stamp node a r bits new (Err (write.Full used)) (Err e) asked step has ends = absurd ends
ends_plan steps c g clusters v s o stamp node a r bits new (Err (write.Short room)) result asked step has ends = absurd step
ends_plan steps c g clusters v s o stamp node a r bits new (Err write.Fault) result asked step has ends = same_end c g clusters v s o stamp (Err Fault) result ends step
ends_plan steps c g clusters v s o stamp node a r bits new (Err write.Memory) result asked step has ends = same_end c g clusters v s o stamp (Err Memory) result ends step

pub plans_asked : ChangesAreSteps → (content : Option Content) (s : VolumeStreams) (o : Op) (node : Node) (stamp : ℕ) (r : Record) (bits : List Bool) (old new : List Touched) (written : Result (Unit {0}) WriteFault) (result : Result ChangePlan PlanFault) → old ≡ []
    → IfSome content (StepsFrom s o node stamp r bits old new written) → IfSome content (WrittenFrom s o node stamp r (record_with_data r) bits old new written) → Ends content o new written result → IfSome content (PlansAsked s o node stamp r bits result)
plans_asked steps None s o node stamp r bits old new written result none step has ends = tt
plans_asked steps (Some c) s o node stamp r bits old new written result none step has ends =
    λ g clusters v a asked. ends_plan steps c g clusters v s o stamp node a r bits new written result asked (step g clusters v a asked none) (has g clusters v a asked none) ends

-- ---- what is always so

pub ends_sound : (content : Option Content) (o : Op) (new : List Touched) (written : Result (Unit {0}) WriteFault) (result : Result ChangePlan PlanFault) → is_data_change o ≡ true → Ends content o new written result → IfOk result (IsSound content o)
ends_sound content o new (Ok u) (Ok plan) changes ends = finished_sound content o new plan changes ends
ends_sound content o new (Ok u) (Err e) changes ends = tt
ends_sound content o new (Err (write.Full used)) (Ok plan) changes ends = answer_sound content o (reply.RecordFull used) plan refl ends
ends_sound content o new (Err (write.Full used)) (Err e) changes ends = tt
ends_sound content o new (Err (write.Short room)) result changes ends = subst (λ (y : Result ChangePlan PlanFault). IfOk y (IsSound content o)) (sym ends) tt
ends_sound content o new (Err write.Fault) result changes ends = subst (λ (y : Result ChangePlan PlanFault). IfOk y (IsSound content o)) (sym ends) tt
ends_sound content o new (Err write.Memory) result changes ends = subst (λ (y : Result ChangePlan PlanFault). IfOk y (IsSound content o)) (sym ends) tt

same_counts : (before now : ℕ) (x result : Result ChangePlan PlanFault) → result ≡ x → Counts plan_cause before now x → Counts plan_cause before now result
same_counts before now x result is counts = subst (λ (y : Result ChangePlan PlanFault). Counts plan_cause before now y) (sym is) counts

pub ends_count : (content : Option Content) (o : Op) (new : List Touched) (written : Result (Unit {0}) WriteFault) (result : Result ChangePlan PlanFault) (before now : ℕ) → Ends content o new written result → Counts write_cause before now written → Counts plan_cause before now result
ends_count content o new (Ok u) (Ok plan) before now ends counts = counts
ends_count content o new (Ok u) (Err e) before now ends counts = same_counts before now (Err Memory) (Err e) (ap (λ (x : PlanFault). Err x) ends) counts
ends_count content o new (Err (write.Full used)) (Ok plan) before now ends counts = counts
ends_count content o new (Err (write.Full used)) (Err e) before now ends counts = absurd ends
ends_count content o new (Err (write.Short room)) result before now ends counts = same_counts before now (Err Unknown) result ends counts
ends_count content o new (Err write.Fault) result before now ends counts = same_counts before now (Err Fault) result ends counts
ends_count content o new (Err write.Memory) result before now ends counts = same_counts before now (Err Memory) result ends counts

-- where clusters don't lack, something is known
ends_known : (c : Content) (g : Geometry) (clusters : ℕ) (o : Op) (stamp : ℕ) (new : List Touched) (written : Result (Unit {0}) WriteFault) (result : Result ChangePlan PlanFault) → StepsTo written c g clusters o stamp new → Ends (Some c) o new written result → IsKnown result
ends_known c g clusters o stamp new (Ok u) (Ok plan) step ends = tt
ends_known c g clusters o stamp new (Ok u) (Err e) step ends = subst (λ (x : PlanFault). IsKnown (Err x)) (sym ends) tt
ends_known c g clusters o stamp new (Err (write.Full used)) (Ok plan) step ends = tt
ends_known c g clusters o stamp new (Err (write.Full used)) (Err e) step ends = absurd ends
ends_known c g clusters o stamp new (Err (write.Short room)) result step ends = absurd step
ends_known c g clusters o stamp new (Err write.Fault) result step ends = subst IsKnown (sym ends) tt
ends_known c g clusters o stamp new (Err write.Memory) result step ends = subst IsKnown (sym ends) tt

-- ---- a failure

fault_plans : ChangesAreSteps → (c : Content) (g : Geometry) (clusters : ℕ) (v : Volume) (s : VolumeStreams) (o : Op) (stamp : ℕ) (e : PlanFault) → HasChange c g clusters v o → Plans (Err e) c g clusters v s o stamp
fault_plans steps c g clusters v s o stamp Fault has = steps.given_up c g clusters v o stamp reply.Fault has refl
fault_plans steps c g clusters v s o stamp Memory has = steps.given_up c g clusters v o stamp reply.Memory has refl
fault_plans steps c g clusters v s o stamp Unknown has = tt

pub fault_asked : ChangesAreSteps → (content : Option Content) (s : VolumeStreams) (o : Op) (node : Node) (stamp : ℕ) (r : Record) (bits : List Bool) (e : PlanFault) → IfSome content (PlansAsked s o node stamp r bits (Err e))
fault_asked steps None s o node stamp r bits e = tt
fault_asked steps (Some c) s o node stamp r bits e = λ g clusters v a asked. fault_plans steps c g clusters v s o stamp e asked.has

pub fault_found : ChangesAreSteps → (content : Option Content) (s : VolumeStreams) (o : Op) (node : Node) (stamp : ℕ) (bits : List Bool) (e : PlanFault) → IfSome content (PlansFound s o node stamp bits (Err e))
fault_found steps None s o node stamp bits e = tt
fault_found steps (Some c) s o node stamp bits e = λ r g clusters v a asked. fault_plans steps c g clusters v s o stamp e asked.has

is_fault : (x result : Result ChangePlan PlanFault) → result ≡ x → IsKnown x → IsKnown result
is_fault x result is known = subst IsKnown (sym is) known

pub fault_known : (content : Option Content) (s : VolumeStreams) (o : Op) (node : Node) (r : Record) (bits : List Bool) (result : Result ChangePlan PlanFault) → IsKnown result → IfSome content (KnowsAsked s o node r bits result)
fault_known None s o node r bits result known = tt
fault_known (Some c) s o node r bits result known = λ g clusters v a asked sizes. known

pub ends_known_asked : (content : Option Content) (s : VolumeStreams) (o : Op) (node : Node) (stamp : ℕ) (r : Record) (bits : List Bool) (old new : List Touched) (written : Result (Unit {0}) WriteFault) (result : Result ChangePlan PlanFault) → old ≡ []
    → IfSome content (StepsFrom s o node stamp r bits old new written) → Ends content o new written result → IfSome content (KnowsAsked s o node r bits result)
ends_known_asked None s o node stamp r bits old new written result none step ends = tt
ends_known_asked (Some c) s o node stamp r bits old new written result none step ends = λ g clusters v a asked sizes. ends_known c g clusters o stamp new written result (step g clusters v a asked none) ends

-- ---- the record that is read

-- it is the one that the state has
read_is : (c : Content) (s : VolumeStreams) (v : Volume) (per n : ℕ) (touched : List Touched) (file : Option Record) (r : Record) → HasSizes c → touched ≡ [] → per ≡ v.per → s.table ≡ v.table → file_of c v.per v.table n ≡ Some r → file ≡ file_of (drafted touched c) per s.table n → file ≡ Some r
read_is c s v per n touched file r sized none same_per same_table there read =
    read
    ∙ ap (λ (l : List Touched). file_of (drafted l c) per s.table n) none
    ∙ ap (λ (d : Content). file_of d per s.table n) (none_drafted c sized)
    ∙ ap (λ (x : ℕ). file_of c x s.table n) same_per
    ∙ ap (λ (e : Extents). file_of c v.per e n) same_table
    ∙ there

module _ (read : FilesAreRead) (c : Content) (g : Geometry) (clusters : ℕ) (v : Volume) (s : VolumeStreams) (o : Op) (node a : Node) (r : Record) (bits : List Bool) (per : ℕ) (touched : List Touched) (file : Option Record) (asked : IsAsked c g clusters v s o node a r bits)
    (eight : per ≡ 8) (none : touched ≡ []) (is_read : file ≡ file_of (drafted touched c) per s.table node.number) where
  per_now : per ≡ v.per
  per_now = eight ∙ sym asked.has.eight ∙ (volume_parts c g clusters v asked.has.stands.loaded).per

  same : file ≡ Some r
  same = read_is c s v per node.number touched file r asked.sized none per_now asked.streams.table (read c g clusters v node.number r a asked.has.stands asked.file).0 is_read

none_read : (file : Option Record) (r : Record) → file ≡ None → file ≡ Some r → ⊥
none_read file r none is = cc

same_record : (file : Option Record) (x r : Record) → file ≡ Some x → file ≡ Some r → x ≡ r
same_record file x r first second = cc

pub record_plans : FilesAreRead → (content : Option Content) (s : VolumeStreams) (o : Op) (node : Node) (stamp : ℕ) (bits : List Bool) (per : ℕ) (touched : List Touched) (file : Option Record) (x : Record) (result : Result ChangePlan PlanFault) → per ≡ 8 → touched ≡ []
    → IfSome content (λ c. file ≡ file_of (drafted touched c) per s.table node.number) → file ≡ Some x → IfSome content (PlansAsked s o node stamp x bits result) → IfSome content (PlansFound s o node stamp bits result)
record_plans read None s o node stamp bits per touched file x result eight none is_read some plans = tt
record_plans read (Some c) s o node stamp bits per touched file x result eight none is_read some plans =
    λ r g clusters v a asked.
    (let here = same_record file x r some (same read c g clusters v s o node a r bits per touched file asked eight none is_read) in
    plans g clusters v a (subst (λ (y : Record). IsAsked c g clusters v s o node a y bits) (sym here) asked))

pub record_known : FilesAreRead → (content : Option Content) (s : VolumeStreams) (o : Op) (node : Node) (bits : List Bool) (per : ℕ) (touched : List Touched) (file : Option Record) (x : Record) (result : Result ChangePlan PlanFault) → per ≡ 8 → touched ≡ []
    → IfSome content (λ c. file ≡ file_of (drafted touched c) per s.table node.number) → file ≡ Some x → IfSome content (KnowsAsked s o node x bits result) → IfSome content (KnowsFound s o node bits result)
record_known read None s o node bits per touched file x result eight none is_read some known = tt
record_known read (Some c) s o node bits per touched file x result eight none is_read some known =
    λ r g clusters v a asked sizes.
    (let here = same_record file x r some (same read c g clusters v s o node a r bits per touched file asked eight none is_read) in
    known g clusters v a (subst (λ (y : Record). IsAsked c g clusters v s o node a y bits) (sym here) asked) sizes)

-- there is a record
pub no_record : FilesAreRead → (content : Option Content) (s : VolumeStreams) (o : Op) (node : Node) (bits : List Bool) (per : ℕ) (touched : List Touched) (file : Option Record) (result : Result ChangePlan PlanFault) → per ≡ 8 → touched ≡ []
    → IfSome content (λ c. file ≡ file_of (drafted touched c) per s.table node.number) → file ≡ None → IfSome content (KnowsFound s o node bits result)
no_record read None s o node bits per touched file result eight none is_read lacks = tt
no_record read (Some c) s o node bits per touched file result eight none is_read lacks =
    λ r g clusters v a asked sizes. absurd (none_read file r lacks (same read c g clusters v s o node a r bits per touched file asked eight none is_read))

pub found_known_fault : (content : Option Content) (s : VolumeStreams) (o : Op) (node : Node) (bits : List Bool) (result : Result ChangePlan PlanFault) → IsKnown result → IfSome content (KnowsFound s o node bits result)
found_known_fault None s o node bits result known = tt
found_known_fault (Some c) s o node bits result known = λ r g clusters v a asked sizes. known
