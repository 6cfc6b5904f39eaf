-- What an operation makes of the tree of a volume.
use Rattle.std.proofs.Common.{◌≡◌, subst, ℕ, true, List, Option, Some, None, Result, Ok, Err, sym, ap, ap₂, ◌∙◌}
use Rattle.std.specs.Prelude.{IfSome, unwrap_or}
use Rattle.std.specs.Option.{option_map}
use Rattle.host_base.specs.Answers.{◌>>=◌}
use Rattle.host_base.proofs.Known.{one}
use Rattle.disk_model.specs.declared.block.Change.{Change}
use Rattle.disk_model.specs.Content.{Content}
use Rattle.block_view.specs.Changes.{content_after}
use Rattle.file_tree.specs.declared.tree.Tree.{Tree}
use Rattle.sector_device.specs.Moments.{Changes}
use Rattle.state_model.specs.declared.geometry.Geometry.{Geometry}
use Rattle.state_model.specs.declared.geometry.MapRefusal.{MapRefusal}
use Rattle.volume_model.specs.Volumes.{Volume, volume_of}
use Rattle.volume_state.specs.Trees.{tree_of}
use Rattle.working_volume.specs.map_change.Parts.{MapParts, parts_of, map_of}
use Rattle.working_volume.specs.plan_owners.States.{Stands}
use Rattle.tree_model.specs.declared.script.Op.{Op}
use Rattle.tree_model.specs.declared.script.Op.TheVariants as op
use Rattle.tree_model.specs.declared.reply.Reply.{Reply}
use Rattle.tree_model.specs.Steps.{HasStep, IsStep}
use Rattle.working_volume.specs.step_model.Steps.{Step}
use Rattle.working_volume.specs.step_model.StepLaws.{StepsStay, StepsOfTrees}
use Rattle.working_volume.specs.change_plan.States.{is_data_change}
use Rattle.working_volume.specs.file_puts.declared.streams.VolumeStreams.{VolumeStreams}
use Rattle.txn_state.specs.States.{StateOf, facts_of}
use Rattle.working_volume.specs.txn_core.Views.{present_content}
use Rattle.working_volume.specs.state_store.declared.fault.PutFault.{PutFault}
use Rattle.working_volume.specs.state_store.Puts.{PutsContent, PutsMap}
use Rattle.working_volume.specs.state_store.Volumes.{geometry_of, IsStateOf, HoldsState}
use Rattle.working_volume.proofs.state_store.Following.{has_map}
use Rattle.working_volume.specs.declared.fault.DoFault.{DoFault}
use Rattle.working_volume.specs.Ready.{IsReady}
use Rattle.working_volume.specs.Doing.{DoesStep, Does}
use Rattle.volume_core.specs.Volumes.{present_tree}
use Rattle.volume_core.specs.Trees.{StepsTree}

one_content : (c d : Content) → Some d ≡ Some c → d ≡ c
one_content c d is = ap (λ (o : Option Content). unwrap_or o c) is

one_map : (a b : MapParts) (r : Result MapParts MapRefusal) → r ≡ Ok a → r ≡ Ok b → b ≡ a
one_map a b r one two = cc

loaded_map : (c : Content) (g : Geometry) (clusters : ℕ) (v : Volume) → volume_of c g clusters ≡ Ok v → map_of c g clusters ≡ Ok (parts_of c v)
loaded_map c g clusters v is = ap (λ (r : Result Volume MapRefusal). r >>= λ w. Ok (parts_of c w)) is

-- an operation that writes, fills or cuts a file has a step where there is no change journal
has_step : (o : Op) (t : Tree) → is_data_change o ≡ true → t.journal ≡ None → HasStep o t
has_step (op.Write path offset bytes) t is none = none
has_step (op.Fill path offset count byte) t is none = none
has_step (op.Truncate path size) t is none = none
has_step other t is none = absurd cc

-- ---- the map behind it

maps_on : (m next : MapParts) (table : List ℕ) (put : Result (Unit {0}) PutFault) (list : List Change) (old new : Option Content) → PutsContent put list old new → PutsMap put list old m next → IfSome old (IsStateOf m table) → IfSome new (λ d. map_of d (geometry_of m) m.volume.clusters ≡ Ok next)
maps_on m next table put list old None content map state = tt
maps_on m next table (Ok tt) list (Some c) (Some d) content map state = ap (λ (x : Content). map_of x (geometry_of m) m.volume.clusters) (one_content (content_after list c) d content) ∙ map
maps_on m next table (Ok tt) list None (Some d) content map state = absurd cc
maps_on m next table (Err why) list (Some c) (Some d) content map state = ap (λ (x : Content). map_of x (geometry_of m) m.volume.clusters) (one_content c d content) ∙ has_map m table c state ∙ ap (λ (x : MapParts). Ok x) (sym map)
maps_on m next table (Err why) list None (Some d) content map state = absurd cc

-- ---- the tree behind it

module _ (steps : StepsOfTrees) (still : StepsStay) (o : Op) (stamp : ℕ) (m next : MapParts) (table : List ℕ) (changes : is_data_change o ≡ true) where
  stands_next : (said : Reply) (c d : Content) → Step (geometry_of m) m.volume.clusters o stamp said c d → map_of d (geometry_of m) m.volume.clusters ≡ Ok next → Stands d (geometry_of m) m.volume.clusters next.volume
  stands_next said c d step map =
      let stands = still.state (geometry_of m) m.volume.clusters o stamp said c d step in
      let is : next ≡ parts_of d stands.0 = one_map (parts_of d stands.0) next (map_of d (geometry_of m) m.volume.clusters) (loaded_map d (geometry_of m) m.volume.clusters stands.0 stands.1.loaded) map in
      subst (Stands d (geometry_of m) m.volume.clusters) (sym (ap (λ (x : MapParts). x.volume) is)) stands.1

  steps_tree : (result : Result Reply DoFault) (old new : Option Content) → DoesStep o stamp m result old new → IfSome old (IsStateOf m table) → IfSome old (λ c. (tree_of c m.volume).journal ≡ None) → IfSome new (λ d. map_of d (geometry_of m) m.volume.clusters ≡ Ok next)
      → StepsTree table o stamp result (option_map (λ c. tree_of c m.volume) old) (option_map (λ d. tree_of d next.volume) new)
  steps_tree (Ok said) (Some c) (Some d) step state none map = record {
    step = λ shown.
        subst (λ (units : List ℕ). IsStep units o stamp said (tree_of c m.volume) (tree_of d next.volume)) (sym state.upper)
        (steps.step (geometry_of m) m.volume.clusters o stamp said c d m.volume next.volume step state.stands (stands_next said c d step map) (has_step o (tree_of c m.volume) changes none) shown);
    stays = λ isnt. still.tree (geometry_of m) m.volume.clusters o stamp said c d m.volume next.volume step isnt state.stands (stands_next said c d step map);
  }
  steps_tree (Err why) (Some c) (Some d) same state none map =
      ap₂ tree_of same (ap (λ (x : MapParts). x.volume) (one_map m next (map_of c (geometry_of m) m.volume.clusters) (has_map m table c state) (ap (λ (x : Content). map_of x (geometry_of m) m.volume.clusters) (sym same) ∙ map)))
  steps_tree (Ok said) (Some c) None step state none map = absurd step
  steps_tree (Err why) (Some c) None step state none map = absurd step
  steps_tree (Ok said) None (Some d) step state none map = absurd step
  steps_tree (Err why) None (Some d) step state none map = absurd step
  steps_tree (Ok said) None None step state none map = tt
  steps_tree (Err why) None None step state none map = tt

  pub tree_steps : (s : VolumeStreams) (result : Result Reply DoFault) (gives gave : Option (List (List ℕ))) (old new : StateOf) (before now : Changes) → Does o stamp table s result gives gave old new before now m next → HoldsState gives before old m table → IfSome (present_content gives old) (IsReady (facts_of old) m table s)
      → StepsTree table o stamp result (present_tree gives old m) (present_tree gave new next)
  tree_steps s result gives gave old new before now does holds ready =
      steps_tree result (present_content gives old) (present_content gave new) does.step holds.shown
      (one (present_content gives old) (IsReady (facts_of old) m table s) (λ c. (tree_of c m.volume).journal ≡ None) (λ c r. r.plannable.journal) ready)
      (maps_on m next table does.puts.put does.puts.list (present_content gives old) (present_content gave new) does.puts.over.content does.puts.over.map holds.shown)
