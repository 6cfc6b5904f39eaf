-- A place that is full, without a level that a step allows, or with one that the plan needs.
use Rattle.std.proofs.Common.{◌≡◌, ℕ, ◌+◌, ◌<◌, ◌≤◌, Bool, true, false, List, ◌∷◌, length, insert, take, drop, Option, None, Some, Ok, sym, ap, subst, ◌∙◌, inl, inr, arith}
use Rattle.std.specs.Prelude.{IfSome}
use Rattle.std.proofs.lemmas.Bool.{cases_Bool, both_ways}
use Rattle.std.proofs.lemmas.List.{length-append, length-take, length-drop}
use Rattle.disk_model.specs.Content.{Content}
use Rattle.record_model.specs.declared.entry.Entry.{Entry as Raw}
use Rattle.record_model.specs.Nodes.{entries_length}
use Rattle.record_model.specs.Records.{Record, used_of}
use Rattle.file_tree.specs.declared.node.Node.{Node}
use Rattle.index_model.specs.Trees.{Tree, Leaf, Down, Entry, DownEntry, raws_of}
use Rattle.index_model.specs.Laws.{HoldsIndex}
use Rattle.index_plan.specs.Laws.{Once}
use Rattle.index_change.specs.declared.nodes_plan.NodesPlan.{NodesPlan}
use Rattle.index_change.specs.NodePlans.{NewNodes, PlansNodes}
use Rattle.index_change.specs.Plans.{root_room, seventeen, needs_level, bytes_more}
use Rattle.index_change.proofs.Counting.{once_fewer}
use Rattle.state_model.specs.declared.geometry.Geometry.{Geometry}
use Rattle.volume_model.specs.Indexes.{index_place, root_value}
use Rattle.volume_model.specs.Volumes.{Volume, upper_of}
use Rattle.tree_model.specs.declared.script.Op.TheVariants.{Create}
use Rattle.tree_model.specs.declared.reply.Reply.TheVariants.{RecordFull}
use Rattle.node_spreads.specs.Nodes.{WritesFit}
use Rattle.node_spreads.proofs.Raising.{roots_grow}
use Rattle.place_makes.specs.made_trees.new_files.Laws.{NewFileReads}
use Rattle.place_makes.specs.made_trees.file_makes.declared.newfile.NewFile.{NewFile}
use Rattle.place_makes.specs.made_trees.made_files.Made.{made_key}
use Rattle.place_makes.specs.made_trees.step_model.Used.{most_used}
use Rattle.place_makes.specs.made_trees.step_model.Spreads.{MayAddLevel}
use Rattle.place_makes.specs.made_trees.step_model.Plans.{spread_used}
use Rattle.place_makes.specs.made_trees.step_model.Steps.{Step}
use Rattle.made_steps.specs.Behind.{MayRise, RisesWhereNeeded}
use Rattle.made_steps.specs.Refused.{FindsDirectory, PlansKey, NotMadeIsStep}
use Rattle.place_makes.specs.found_places.Laws.{PlacesAreThere}
use Rattle.refused_places.specs.Refused.{more_bytes, HasFree, HasNoneFree, IsRaisedBy, RefusesInPlace, FullPlacesAreSteps}
use Rattle.refused_places.proofs.Counting.{counted, more_is}
use Rattle.refused_places.proofs.Finding as finding

pub of_value : (o : Option (List ℕ)) (value : List ℕ) (P : List ℕ → Type 0) → o ≡ Some value → IfSome o P → P value
of_value (Some x) value P is holds = (let same : x ≡ value = cc in subst P same holds)
of_value None value P is holds = absurd cc

-- ---- a root with one entry more has two at least

some_raws : (t : Tree) → 1 ≤ length (raws_of t)
some_raws Leaf = omega arith
some_raws (Down v t) = omega arith
some_raws (Entry key rest) = omega arith
some_raws (DownEntry v t key rest) = omega arith

one_longer : (xs : List Raw) (at : ℕ) (e : Raw) → length (insert xs at e) ≡ length xs + 1
one_longer xs at e =
    let all = length-append (take at xs) (e ∷ drop at xs) in
    let front = length-take at xs in
    let behind = length-drop at xs in
    omega (arith, all, front, behind)

not_grown : (t : Tree) (root : List Raw) (at : ℕ) (e : Raw) → root ≡ insert (raws_of t) at e → length root ≡ 1 → ⊥
not_grown t root at e is one =
    let some = some_raws t in
    let more = one_longer (raws_of t) at e in
    let same = ap (λ (l : List Raw). length l) is in
    omega (arith, some, more, same, one)

module _ (there : PlacesAreThere) (new_reads : NewFileReads) (c : Content) (g : Geometry) (clusters : ℕ) (v : Volume) (path : List (List ℕ)) (directory : Node) (m : NewFile) (r : Record) (used : ℕ) (k : RefusesInPlace c g clusters v path directory m r used) (t : Tree)
    (holds : HoldsIndex c (index_place v.per r) (upper_of c v) k.full.plans.value t) where
  abbrev value : List ℕ
  value = k.full.plans.value

  abbrev fresh : List ℕ
  fresh = k.full.plans.fresh

  abbrev nodes : NodesPlan
  nodes = k.full.nodes

  abbrev more : ℕ
  more = length k.full.nodes.taken.items

  abbrev pub a : Node
  a = finding.a there new_reads c g clusters v path directory m r k.finds

  abbrev pub Level : Bool → Type 0
  Level up = needs_level (upper_of c v) (root_room (used_of r.attrs) k.full.plans.value) (made_key m) (seventeen k.full.plans.fresh) t ≡ up

  once_all : Once t fresh
  once_all = finding.once_of there new_reads c g clusters v path directory m r k.finds value t fresh holds k.full.plans.lie

  pub once : Once t (seventeen fresh)
  once = once_fewer t 17 fresh once_all

  pub planned : PlansNodes c (index_place v.per r) (upper_of c v) value (used_of r.attrs) (made_key m) fresh (Ok nodes)
  planned =
      finding.by_eight there new_reads c g clusters v path directory m r k.finds (λ (per : ℕ). PlansNodes c (index_place per r) (upper_of c v) value (used_of r.attrs) (made_key m) fresh (Ok nodes))
      (subst (λ (d : Content). PlansNodes d (index_place 8 r) (upper_of c v) value (used_of r.attrs) (made_key m) fresh (Ok nodes)) (finding.start there new_reads c g clusters v path directory m r k.finds) k.full.plans.planned)

  pub new : NewNodes c (index_place v.per r) (upper_of c v) value (used_of r.attrs) (made_key m) fresh t nodes
  new = planned.1 t holds once

  pub fit : WritesFit nodes
  fit = finding.fit_of there new_reads c g clusters v path directory m r k.finds value t (used_of r.attrs) fresh nodes k.full.plans.root holds k.full.plans.lie.enough new

  pub key_is : PlansKey c v r value (used_of r.attrs) t (made_key m) fresh nodes more
  key_is = record { planned = planned; least = omega arith; front = k.full.plans.front; enough = k.full.plans.lie.enough; once = once; fit = fit; taken = omega arith }

  pub directory_is : FindsDirectory c g clusters v path directory a m.name m.file r value t (made_key m)
  directory_is = finding.directory_is there new_reads c g clusters v path directory m r k.finds value t k.full.plans.root holds

  -- ---- the count

  pub counts : (n : ℕ) (x : Tree) → nodes.root ≡ raws_of x → (spread_used c v n r x more ≡ used) × (most_used < used)
  counts n x is =
      counted c v n r x (0x20 + entries_length nodes.root) more used (finding.none_grows there new_reads c g clusters v path directory m r k.finds) k.full.full (ap (λ (l : List Raw). 0x20 + entries_length l) is)

  pub over : most_used < used
  over = (counts a.number new.becomes.tree new.becomes.root).1

  pub more_by : bytes_more (made_key m) t ≡ more_bytes (made_key m) value
  more_by = more_is c (index_place v.per r) (upper_of c v) value (made_key m) t holds

  free_by : HasFree m r → used_of r.attrs + more_bytes (made_key m) value ≤ most_used
  free_by free = of_value (root_value r) value (λ (y : List ℕ). used_of r.attrs + more_bytes (made_key m) y ≤ most_used) k.full.plans.root free

  pub crowded_by : HasNoneFree m r → most_used < used_of r.attrs + bytes_more (made_key m) t
  crowded_by crowded =
      let high = of_value (root_value r) value (λ (y : List ℕ). most_used < used_of r.attrs + more_bytes (made_key m) y) k.full.plans.root crowded in
      let same = more_by in
      omega (arith, high, same)

  -- ---- without a level

  never : HasFree m r → most_used < used_of r.attrs + bytes_more (made_key m) t → ⊥
  never free high = (let low = free_by free in let same = more_by in omega (arith, low, same, high))

  flat_level : HasFree m r → Level false
  flat_level free = elim (cases_Bool (needs_level (upper_of c v) (root_room (used_of r.attrs) value) (made_key m) (seventeen fresh) t)) [
    | inl up ↦ absurd (never free (new.level up))
    | inr flat ↦ flat
  ]

  no_level : HasFree m r → (x : Tree) → MayAddLevel (upper_of c v) (made_key m) r (used_of r.attrs) t x used → ⊥
  no_level free x (inl may) = never free may.0
  no_level free x (inr informs) = both_ways _ informs.0 k.full.info

  pub full_step : NotMadeIsStep → HasFree m r → Step g clusters (Create path) m.stamp (RecordFull used) c c
  full_step not_made free = not_made.full c g clusters v path m.stamp directory a m.name m.file r value t (made_key m) (used_of r.attrs) fresh nodes more used directory_is key_is (flat_level free) (λ x is. (counts a.number x is).0) over (λ x is may. no_level free x may)

  -- ---- with a level

  raised_level : IsRaisedBy value nodes → Level true
  raised_level raised = elim (cases_Bool (needs_level (upper_of c v) (root_room (used_of r.attrs) value) (made_key m) (seventeen fresh) t)) [
    | inl up ↦ up
    | inr flat ↦ elim (roots_grow c (index_place v.per r) (upper_of c v) value (used_of r.attrs) (made_key m) fresh t nodes new flat) [
      | inl stays ↦ absurd (raised.1 holds.entries holds.root_read (stays ∙ sym holds.is_index.root_is))
      | inr grown ↦ absurd (not_grown t nodes.root grown.1 grown.0 grown.2 raised.0)
    ]
  ]

  pub rise_of : RisesWhereNeeded → (n : ℕ) → Level true → MayRise c v n r value (made_key m) t
  rise_of rises n up = rises c v n r value (made_key m) fresh t (finding.lawful there new_reads c g clusters v path directory m r k.finds) holds once k.full.plans.lie.enough up

  pub raised_step : NotMadeIsStep → RisesWhereNeeded → IsRaisedBy value nodes → Step g clusters (Create path) m.stamp (RecordFull used) c c
  raised_step not_made rises raised =
      let up = raised_level raised in
      not_made.full_raised c g clusters v path m.stamp directory a m.name m.file r value t (made_key m) (used_of r.attrs) fresh nodes more used directory_is key_is up (rise_of rises a.number up) (λ x is. (counts a.number x is).0) over

pub full_places : PlacesAreThere → NewFileReads → NotMadeIsStep → RisesWhereNeeded → FullPlacesAreSteps
full_places there new_reads not_made rises = record {
  flat = λ c g clusters v path directory m r used k free. (let own = finding.names there new_reads c g clusters v path directory m r k.finds k.full.plans.value k.full.plans.root in full_step there new_reads c g clusters v path directory m r used k own.0 own.1 not_made free);
  raised = λ c g clusters v path directory m r used k raised. (let own = finding.names there new_reads c g clusters v path directory m r k.finds k.full.plans.value k.full.plans.root in raised_step there new_reads c g clusters v path directory m r used k own.0 own.1 not_made rises raised);
}
