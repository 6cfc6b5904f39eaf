-- A place that is full in an index that may get a level, and in one that has sixteen.
use Rattle.std.proofs.Common.{◌≡◌, ℕ, Bool, false, List, length, ap, subst, inl, inr, arith}
use Rattle.std.proofs.lemmas.Bool.{cases_Bool}
use Rattle.disk_model.specs.Content.{Content}
use Rattle.record_model.specs.Records.{Record, used_of}
use Rattle.file_tree.specs.declared.node.Node.{Node}
use Rattle.index_model.specs.Trees.{Tree, levels, one_if}
use Rattle.index_model.specs.Indexes.{node_of_block, nodes_of, most_levels}
use Rattle.index_model.specs.Laws.{HoldsIndex}
use Rattle.index_change.specs.declared.nodes_plan.NodesPlan.{NodesPlan}
use Rattle.index_change.specs.Plans.{root_room, seventeen, needs_level}
use Rattle.state_model.specs.declared.geometry.Geometry.{Geometry}
use Rattle.volume_model.specs.Indexes.{index_place}
use Rattle.volume_model.specs.Volumes.{Volume, upper_of}
use Rattle.tree_model.specs.declared.script.Op.TheVariants.{Create}
use Rattle.tree_model.specs.declared.reply.Reply.TheVariants.{IndexDeep}
use Rattle.node_spreads.specs.Nodes.{IsSpreadBy}
use Rattle.node_spreads.proofs.Fitting.{nodes_spread}
use Rattle.place_makes.specs.made_trees.new_files.Laws.{NewFileReads}
use Rattle.place_makes.specs.made_trees.file_makes.declared.newfile.NewFile.{NewFile}
use Rattle.place_makes.specs.made_trees.made_files.Made.{made_key}
use Rattle.place_makes.specs.made_trees.step_model.Spreads.{IsSpread}
use Rattle.place_makes.specs.made_trees.step_model.Steps.{Step}
use Rattle.made_steps.specs.Behind.{MayRise, RisesWhereNeeded}
use Rattle.made_steps.specs.Refused.{NotMadeIsStep}
use Rattle.place_makes.specs.found_places.Laws.{PlacesAreThere}
use Rattle.refused_places.specs.Refused.{HasNoneFree, RefusesInPlace, DeepPlacesAreSteps}
use Rattle.refused_places.proofs.Finding as finding
use Rattle.refused_places.proofs.Full as full

module _ (there : PlacesAreThere) (new_reads : NewFileReads) (c : Content) (g : Geometry) (clusters : ℕ) (v : Volume) (path : List (List ℕ)) (directory : Node) (m : NewFile) (r : Record) (used : ℕ) (k : RefusesInPlace c g clusters v path directory m r used) (t : Tree)
    (holds : HoldsIndex c (index_place v.per r) (upper_of c v) k.full.plans.value t) (crowded : HasNoneFree m r) where
  abbrev value : List ℕ
  value = k.full.plans.value

  abbrev fresh : List ℕ
  fresh = k.full.plans.fresh

  abbrev nodes : NodesPlan
  nodes = k.full.nodes

  abbrev more : ℕ
  more = length k.full.nodes.taken.items

  abbrev Level : Bool → Type 0
  Level up = needs_level (upper_of c v) (root_room (used_of r.attrs) k.full.plans.value) (made_key m) (seventeen k.full.plans.fresh) t ≡ up

  by : IsSpreadBy c (index_place v.per r) (upper_of c v) value (used_of r.attrs) (made_key m) fresh t nodes
  by =
      nodes_spread c (index_place v.per r) (upper_of c v) value (used_of r.attrs) (made_key m) fresh t nodes (full.new there new_reads c g clusters v path directory m r used k t holds) (full.fit there new_reads c g clusters v path directory m r used k t holds) k.full.plans.front k.full.plans.lie.enough
      (full.once there new_reads c g clusters v path directory m r used k t holds)

  -- without a level, a block is split and the record is too full
  rise_split : (n : ℕ) → Level false → MayRise c v n r value (made_key m) t
  rise_split n flat =
      let count = full.counts there new_reads c g clusters v path directory m r used k t holds n by.tree by.root in
      let same = count.0 in
      let high = count.1 in
      let blocks = by.blocks in
      let some = k.full.takes in
      let spread : IsSpread (nodes_of (node_of_block c (index_place v.per r))) (upper_of c v) (root_room (used_of r.attrs) value) (made_key m) t false by.tree more =
      subst (λ (up : Bool). IsSpread (nodes_of (node_of_block c (index_place v.per r))) (upper_of c v) (root_room (used_of r.attrs) value) (made_key m) t up by.tree more) flat (by.spread more (omega arith)) in
      record {
        flat = by.tree;
        behind = more;
        spread = spread;
        may = inl (full.crowded_by there new_reads c g clusters v path directory m r used k t holds crowded, inr ((omega (arith, blocks, some)), (omega (arith, same, high))));
      }

  pub may_rise : RisesWhereNeeded → (n : ℕ) → MayRise c v n r value (made_key m) t
  may_rise rises n = elim (cases_Bool (needs_level (upper_of c v) (root_room (used_of r.attrs) value) (made_key m) (seventeen fresh) t)) [
    | inl up ↦ full.rise_of there new_reads c g clusters v path directory m r used k t holds rises n up
    | inr flat ↦ rise_split n flat
  ]

  -- an index of sixteen levels gets none
  flat_level : levels t ≡ most_levels → Level false
  flat_level height = elim (cases_Bool (needs_level (upper_of c v) (root_room (used_of r.attrs) value) (made_key m) (seventeen fresh) t)) [
    | inl up ↦
        (let low = (full.new there new_reads c g clusters v path directory m r used k t holds).low in
        let one = ap one_if up in
        absurd (omega (arith, low, one, height)))
    | inr flat ↦ flat
  ]

  abbrev a : Node
  a = finding.a there new_reads c g clusters v path directory m r k.finds

  pub deep_step : NotMadeIsStep → levels t ≡ most_levels → Step g clusters (Create path) m.stamp (IndexDeep most_levels) c c
  unfolding rise_split
  deep_step not_made height =
      let count = full.counts there new_reads c g clusters v path directory m r used k t holds a.number by.tree by.root in
      let same = count.0 in
      let high = count.1 in
      subst (λ (h : ℕ). Step g clusters (Create path) m.stamp (IndexDeep h) c c) height
      (not_made.deep c g clusters v path m.stamp directory a m.name m.file r value t (made_key m) (full.directory_is there new_reads c g clusters v path directory m r used k t holds) (finding.none_grows there new_reads c g clusters v path directory m r k.finds) (rise_split a.number (flat_level height)) height
      (omega (arith, same, high)))

pub deep_places : PlacesAreThere → NewFileReads → NotMadeIsStep → RisesWhereNeeded → DeepPlacesAreSteps
deep_places there new_reads not_made rises = record {
  rises = λ c g clusters v path directory m r used k crowded t holds.
      may_rise there new_reads c g clusters v path directory m r used k t (finding.by_eight there new_reads c g clusters v path directory m r k.finds (λ (per : ℕ). HoldsIndex c (index_place per r) (upper_of c v) k.full.plans.value t) holds) crowded rises m.parent.number;
  deep = λ c g clusters v path directory m r used k crowded height.
      (let own = finding.names there new_reads c g clusters v path directory m r k.finds k.full.plans.value k.full.plans.root in
      deep_step there new_reads c g clusters v path directory m r used k own.0 own.1 crowded not_made (height own.0 (subst (λ (per : ℕ). HoldsIndex c (index_place per r) (upper_of c v) k.full.plans.value own.0) (finding.eight there new_reads c g clusters v path directory m r k.finds) own.1)));
}
