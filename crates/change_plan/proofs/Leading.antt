-- What is found of an operation leads to its plan.
use Rattle.std.proofs.Common.{◌≡◌, ℕ, ◌<◌, ◌^◌, Bool, true, false, List, [], length, Option, Some, None, Result, Ok, Err, refl, sym, ap, subst, ◌∙◌}
use Rattle.std.specs.Prelude.{IfSome, IfOk, IsOkAnd}
use Rattle.host_base.specs.declared.file_ref.FileRef.{FileRef}
use Rattle.host_base.specs.Causes.{Counts}
use Rattle.disk_model.specs.Content.{Content, HasSizes}
use Rattle.record_model.specs.Records.{Record}
use Rattle.file_tree.specs.declared.node.Node.{Node}
use Rattle.file_tree.specs.declared.tree.Tree.{Tree}
use Rattle.state_model.specs.declared.geometry.Geometry.{Geometry}
use Rattle.volume_model.specs.Volumes.{Volume, upper_of}
use Rattle.found_files.specs.volume_state.Trees.{tree_of}
use Rattle.found_files.specs.volume_map.declared.map.VolumeMap.{VolumeMap}
use Rattle.found_files.specs.volume_map.Maps.{IsMapOf, volume_in}
use Rattle.stream_laws.proofs.Rewriting.{volume_parts}
use Rattle.found_files.specs.plan_owners.States.{Stands}
use Rattle.tree_model.specs.declared.script.Op.{Op}
use Rattle.tree_model.specs.declared.script.Op.TheVariants as op
use Rattle.tree_model.specs.declared.reply.Reply.{Reply}
use Rattle.tree_model.specs.declared.reply.Reply.TheVariants as reply
use Rattle.tree_model.specs.Walks.{reached}
use Rattle.tree_model.specs.Needs.{changes_file}
use Rattle.tree_model.specs.Steps.{step_refusal}
use Rattle.tree_lookup.specs.declared.fault.LookupFault.{LookupFault}
use Rattle.tree_lookup.specs.declared.fault.LookupFault.TheVariants as lookup
use Rattle.tree_lookup.specs.Asked.{lookup_cause, AnswersOrFails}
use Rattle.tree_lookup.specs.Answered.{bare_result}
use Rattle.change_lookup.specs.declared.found.Found.{Found}
use Rattle.change_lookup.specs.declared.found.Found.TheVariants.{Refused, File, Place}
use Rattle.change_lookup.specs.Comes.{ComesTo}
use Rattle.volume_census.specs.volume_lookup.Known.{known_tree}
use Rattle.volume_census.proofs.volume_lookup.Asking.{known_where}
use Rattle.found_files.specs.plan_changes.Files.{IsChangeable}
use Rattle.found_files.specs.file_puts.declared.streams.VolumeStreams.{VolumeStreams}
use Rattle.found_files.specs.file_puts.Written.{AreStreamsOf}
use Rattle.found_files.specs.file_changes.Calls.{IsAsked}
use Rattle.found_files.specs.step_model.Steps.{Step}
use Rattle.found_files.specs.change_steps.Found.{HasChange, Finds, IsFileFound, FoundIsThere}
use Rattle.found_files.specs.change_steps.Changes.{change_reply, ChangesAreSteps}
use Rattle.found_files.proofs.change_steps.Rows.{place_by}
use Rattle.found_files.proofs.written_clusters.Taking.{length-cluster_bits}
use Rattle.change_plan.specs.declared.plan.ChangePlan.{ChangePlan}
use Rattle.change_plan.specs.declared.fault.PlanFault.{PlanFault}
use Rattle.change_plan.specs.declared.fault.PlanFault.TheVariants.{Fault, Memory, Unknown}
use Rattle.change_plan.specs.Faults.{plan_cause, of_lookup}
use Rattle.change_plan.specs.States.{is_data_change, IsPlannable, HasFewClusters}
use Rattle.change_plan.specs.Plans.{Plans, PlansFrom, IsKnown, KnowsFrom}
use Rattle.change_plan.specs.Drafting.{IsAnswer, PlansFound, KnowsFound, PlansBy, KnowsBy}
use Rattle.change_plan.specs.Laws.{FilesAreRead}
use Rattle.change_plan.proofs.DataChanges.{file_change}
use Rattle.change_plan.proofs.Ending.{answer_plans}

-- ---- an answer

pub refused_plans : ChangesAreSteps → (content : Option Content) (m : VolumeMap) (s : VolumeStreams) (o : Op) (said : Reply) (stamp : ℕ) (plan : ChangePlan) → IsAnswer said plan → IfSome content (PlansBy m s o (Refused said) stamp (Ok plan))
refused_plans steps None m s o said stamp plan k = tt
refused_plans steps (Some c) m s o said stamp plan k =
    λ g clusters mapped sized has finds streams. answer_plans c g clusters (volume_in m) s o stamp said plan sized (steps.refused c g clusters (volume_in m) o stamp said has finds) k

pub stays_plans : ChangesAreSteps → (content : Option Content) (m : VolumeMap) (s : VolumeStreams) (o : Op) (node : Node) (changes : Bool) (stamp : ℕ) (plan : ChangePlan) → changes ≡ false → IsAnswer (change_reply o) plan → IfSome content (PlansBy m s o (File node changes) stamp (Ok plan))
stays_plans steps None m s o node changes stamp plan is k = tt
stays_plans steps (Some c) m s o node true stamp plan is k = absurd cc
stays_plans steps (Some c) m s o node false stamp plan is k =
    λ g clusters mapped sized has finds streams. answer_plans c g clusters (volume_in m) s o stamp (change_reply o) plan sized (steps.stays c g clusters (volume_in m) o stamp node has finds) k

pub answer_known : (content : Option Content) (m : VolumeMap) (s : VolumeStreams) (o : Op) (found : Found) (plan : ChangePlan) → IfSome content (KnowsBy m s o found (Ok plan))
answer_known None m s o found plan = tt
answer_known (Some c) m s o found plan = λ g clusters mapped sized has finds streams sizes. tt

-- ---- a file that is changed

asked_of : (c : Content) (g : Geometry) (clusters : ℕ) (m : VolumeMap) (s : VolumeStreams) (o : Op) (node : Node) → IsMapOf c m → HasSizes c → HasChange c g clusters (volume_in m) o → Finds c (volume_in m) o (File node true) → AreStreamsOf (volume_in m) s
    → (f : IsFileFound c (volume_in m) o node true) → IsAsked c g clusters (volume_in m) s o node f.a f.r m.cluster_bits
asked_of c g clusters m s o node mapped sized has finds streams f = record {
  has = has;
  finds = finds;
  bare = f.bare;
  file = f.changeable;
  changes = sym f.same;
  streams = streams;
  of_volume = mapped.clusters;
  count = ap length mapped.clusters ∙ length-cluster_bits c (volume_in m) ∙ sym (volume_parts c g clusters (volume_in m) has.stands.loaded).count;
  sized = sized;
}

pub file_plans : FoundIsThere → (content : Option Content) (m : VolumeMap) (s : VolumeStreams) (o : Op) (node : Node) (changes : Bool) (stamp : ℕ) (result : Result ChangePlan PlanFault) → changes ≡ true → IfSome content (PlansFound s o node stamp m.cluster_bits result)
    → IfSome content (PlansBy m s o (File node changes) stamp result)
file_plans there None m s o node changes stamp result is plans = tt
file_plans there (Some c) m s o node false stamp result is plans = absurd cc
file_plans there (Some c) m s o node true stamp result is plans =
    λ g clusters mapped sized has finds streams.
    (let f = there.file c g clusters (volume_in m) o node true has finds in plans f.r g clusters (volume_in m) f.a (asked_of c g clusters m s o node mapped sized has finds streams f))

pub file_known : FoundIsThere → FilesAreRead → (content : Option Content) (m : VolumeMap) (s : VolumeStreams) (o : Op) (node : Node) (changes : Bool) (result : Result ChangePlan PlanFault) → changes ≡ true
    → (m.per_cluster ≡ 8 → node.number < 2 ^ 48 → IfSome content (KnowsFound s o node m.cluster_bits result)) → IfSome content (KnowsBy m s o (File node changes) result)
file_known there read None m s o node changes result is known = tt
file_known there read (Some c) m s o node false result is known = absurd cc
file_known there read (Some c) m s o node true result is known =
    λ g clusters mapped sized has finds streams sizes.
    (let f = there.file c g clusters (volume_in m) o node true has finds in
    let eight : m.per_cluster ≡ 8 = sym (volume_parts c g clusters (volume_in m) has.stands.loaded).per ∙ has.eight in
    let small = (read c g clusters (volume_in m) node.number f.r f.a has.stands f.changeable).1 in
    known eight small f.r g clusters (volume_in m) f.a (asked_of c g clusters m s o node mapped sized has finds streams f) sizes)

-- ---- no place

no_place_there : (walked : Result Node Reply) (o : Op) (directory : Node) (name : List ℕ) (number : FileRef) → IsOkAnd (bare_result walked) (λ node. Place directory name number ≡ File node (changes_file o node)) → ⊥
no_place_there (Ok n) o directory name number is = absurd cc
no_place_there (Err said) o directory name number is = absurd is

no_place : (c : Content) (v : Volume) (o : Op) (directory : Node) (name : List ℕ) (number : FileRef) → is_data_change o ≡ true → Finds c v o (Place directory name number) → ⊥
no_place c v (op.Write path offset bytes) directory name number is finds =
    let t = tree_of c v in
    no_place_there (reached (upper_of c v) t.nodes t.links path) (op.Write path offset bytes) directory name number (place_by (step_refusal (upper_of c v) t 0 [] (op.Write path offset bytes)) _ directory name number finds).1
no_place c v (op.Fill path offset count byte) directory name number is finds =
    let t = tree_of c v in
    no_place_there (reached (upper_of c v) t.nodes t.links path) (op.Fill path offset count byte) directory name number (place_by (step_refusal (upper_of c v) t 0 [] (op.Fill path offset count byte)) _ directory name number finds).1
no_place c v (op.Truncate path size) directory name number is finds =
    let t = tree_of c v in
    no_place_there (reached (upper_of c v) t.nodes t.links path) (op.Truncate path size) directory name number (place_by (step_refusal (upper_of c v) t 0 [] (op.Truncate path size)) _ directory name number finds).1
no_place c v other directory name number is finds = absurd cc

pub place_known : (content : Option Content) (m : VolumeMap) (s : VolumeStreams) (o : Op) (directory : Node) (name : List ℕ) (number : FileRef) (result : Result ChangePlan PlanFault) → is_data_change o ≡ true → IfSome content (KnowsBy m s o (Place directory name number) result)
place_known None m s o directory name number result is = tt
place_known (Some c) m s o directory name number result is = λ g clusters mapped sized has finds streams sizes. absurd (no_place c (volume_in m) o directory name number is finds)

-- ---- from the tree

has_change : (c : Content) (g : Geometry) (clusters : ℕ) (v : Volume) (upper : List ℕ) (s : VolumeStreams) (o : Op) → is_data_change o ≡ true → IsPlannable c g clusters v upper s → HasChange c g clusters v o
has_change c g clusters v upper s o changes state = record { stands = state.stands; eight = state.eight; journal = state.journal; changes = file_change o changes }

Answered : List ℕ → Op → Result Found LookupFault → Tree → Type 0
Answered upper o answer t = AnswersOrFails answer (λ found. ComesTo upper o t found)

on_tree : (c : Content) (g : Geometry) (clusters : ℕ) (v : Volume) (upper : List ℕ) (s : VolumeStreams) (P : Tree → Type 0) → IsPlannable c g clusters v upper s → IfSome (known_tree upper v (Some c)) P → P (tree_of c v)
on_tree c g clusters v upper s P state holds = subst (λ (x : Option Tree). IfSome x P) (known_where (Some c) upper v state.stands.kept state.table) holds

finds_there : (c : Content) (g : Geometry) (clusters : ℕ) (v : Volume) (upper : List ℕ) (s : VolumeStreams) (o : Op) (found : Found) → IsPlannable c g clusters v upper s → IfSome (known_tree upper v (Some c)) (λ t. ComesTo upper o t found) → Finds c v o found
finds_there c g clusters v upper s o found state holds =
    subst (λ (u : List ℕ). ComesTo u o (tree_of c v) found) state.table (on_tree c g clusters v upper s (λ (t : Tree). ComesTo upper o t found) state holds)

pub found_plans : (content : Option Content) (upper : List ℕ) (m : VolumeMap) (s : VolumeStreams) (o : Op) (stamp : ℕ) (found : Found) (result : Result ChangePlan PlanFault) → is_data_change o ≡ true → IfSome content HasSizes → IfSome content (λ c. IsMapOf c m)
    → IfSome (known_tree upper (volume_in m) content) (λ t. ComesTo upper o t found) → IfSome content (PlansBy m s o found stamp result) → IfSome content (PlansFrom upper (volume_in m) s o stamp result)
found_plans None upper m s o stamp found result changes sized mapped finds plans = tt
found_plans (Some c) upper m s o stamp found result changes sized mapped finds plans =
    λ g clusters state. plans g clusters mapped sized (has_change c g clusters (volume_in m) upper s o changes state) (finds_there c g clusters (volume_in m) upper s o found state finds) state.streams

pub found_known : (content : Option Content) (upper : List ℕ) (m : VolumeMap) (s : VolumeStreams) (o : Op) (found : Found) (result : Result ChangePlan PlanFault) → is_data_change o ≡ true → IfSome content HasSizes → IfSome content (λ c. IsMapOf c m)
    → IfSome (known_tree upper (volume_in m) content) (λ t. ComesTo upper o t found) → IfSome content (KnowsBy m s o found result) → IfSome content (KnowsFrom upper (volume_in m) s result)
found_known None upper m s o found result changes sized mapped finds known = tt
found_known (Some c) upper m s o found result changes sized mapped finds known =
    λ g clusters state sizes. known g clusters mapped sized (has_change c g clusters (volume_in m) upper s o changes state) (finds_there c g clusters (volume_in m) upper s o found state finds) state.streams sizes

-- ---- a failure

fault_plans : ChangesAreSteps → (c : Content) (g : Geometry) (clusters : ℕ) (v : Volume) (s : VolumeStreams) (o : Op) (stamp : ℕ) (e : LookupFault) → HasChange c g clusters v o → Plans (Err (of_lookup e)) c g clusters v s o stamp
fault_plans steps c g clusters v s o stamp lookup.Outside has = steps.given_up c g clusters v o stamp reply.Fault has refl
fault_plans steps c g clusters v s o stamp lookup.Memory has = steps.given_up c g clusters v o stamp reply.Memory has refl
fault_plans steps c g clusters v s o stamp lookup.Broken has = tt

pub failed_plans : ChangesAreSteps → (content : Option Content) (upper : List ℕ) (v : Volume) (s : VolumeStreams) (o : Op) (stamp : ℕ) (e : LookupFault) → is_data_change o ≡ true → IfSome content (PlansFrom upper v s o stamp (Err (of_lookup e)))
failed_plans steps None upper v s o stamp e changes = tt
failed_plans steps (Some c) upper v s o stamp e changes = λ g clusters state. fault_plans steps c g clusters v s o stamp e (has_change c g clusters v upper s o changes state)

fault_known : (e : LookupFault) (holds : Found → Type 0) → AnswersOrFails (Err e) holds → IsKnown (Err (of_lookup e))
fault_known lookup.Outside holds answered = tt
fault_known lookup.Memory holds answered = tt
fault_known lookup.Broken holds answered = absurd cc

pub failed_known : (content : Option Content) (upper : List ℕ) (v : Volume) (s : VolumeStreams) (o : Op) (e : LookupFault) → IfSome (known_tree upper v content) (λ t. AnswersOrFails (Err e) (λ found. ComesTo upper o t found)) → IfSome content (KnowsFrom upper v s (Err (of_lookup e)))
failed_known None upper v s o e answered = tt
failed_known (Some c) upper v s o e answered =
    λ g clusters state sizes. fault_known e (λ found. ComesTo upper o (tree_of c v) found) (on_tree c g clusters v upper s (λ (t : Tree). AnswersOrFails {X = Found} (Err e) (λ found. ComesTo upper o t found)) state answered)

pub failed_count : (T : Type 0) (e : LookupFault) (before now : ℕ) → Counts {T = T} lookup_cause before now (Err e) → Counts {T = ChangePlan} plan_cause before now (Err (of_lookup e))
failed_count T lookup.Outside before now counts = counts
failed_count T lookup.Memory before now counts = counts
failed_count T lookup.Broken before now counts = counts
