-- A place that is full with a level more too: the root of the index that is spread without one goes down as a whole.
use Rattle.std.proofs.Common.{◌≡◌, ◌⊎◌, ℕ, ◌+◌, ◌<◌, ◌≤◌, Bool, true, false, cond, List, [], ◌∷◌, length, Option, Some, None, Ok, refl, sym, ap, ap₂, subst, ◌∙◌, inl, inr, arith}
use Rattle.std.proofs.lemmas.Bool.{cases_Bool, le-ltb, lt-ltb}
use Rattle.host_base.specs.declared.file_ref.FileRef.{FileRef}
use Rattle.disk_model.specs.Content.{Content}
use Rattle.record_model.specs.declared.entry.Entry.{Entry as Raw}
use Rattle.record_model.specs.Nodes.{entries_length, entry_length, node_used, node_room}
use Rattle.record_model.specs.Records.{Record, used_of}
use Rattle.file_tree.specs.declared.link.Link.{Link}
use Rattle.file_tree.specs.declared.node.Node.{Node}
use Rattle.index_model.specs.declared.key.Key.{Key}
use Rattle.index_model.specs.Trees.{Tree, Down, held, levels, raws_of}
use Rattle.index_model.specs.Indexes.{node_of_block, nodes_of}
use Rattle.index_model.specs.Laws.{HoldsIndex}
use Rattle.index_plan.specs.Growth.{fits_in}
use Rattle.index_plan.specs.Laws.{Once}
use Rattle.index_plan.proofs.Fitting.{bytes_is}
use Rattle.index_plan.proofs.Halves.{fits_bytes}
use Rattle.index_plan.proofs.Standing.{same_self}
use Rattle.index_change.specs.declared.nodes_plan.NodesPlan.{NodesPlan}
use Rattle.index_change.specs.NodePlans.{NewNodes, PlansNodes}
use Rattle.index_change.specs.Plans.{root_room, seventeen, needs_level}
use Rattle.index_change.proofs.Counting.{once_fewer}
use Rattle.state_model.specs.declared.geometry.Geometry.{Geometry}
use Rattle.volume_model.specs.Indexes.{index_place}
use Rattle.volume_model.specs.Volumes.{Volume, file_in, table_file, upper_of}
use Rattle.volume_state.specs.Trees.{tree_of}
use Rattle.tree_model.specs.declared.script.Op.TheVariants.{Create}
use Rattle.tree_model.specs.declared.reply.Reply.{Reply}
use Rattle.tree_model.specs.declared.reply.Reply.TheVariants.{RecordFull}
use Rattle.tree_model.specs.Refusals.{new_name, first_of}
use Rattle.tree_model.specs.Effects.{numbers_to_take, least_ref, new_link}
use Rattle.node_spreads.specs.Nodes.{WritesFit}
use Rattle.place_makes.specs.made_trees.new_files.Laws.{NewFileReads}
use Rattle.place_makes.specs.made_trees.file_makes.declared.newfile.NewFile.{NewFile}
use Rattle.place_makes.specs.made_trees.made_files.Made.{made_key}
use Rattle.place_makes.specs.made_trees.step_model.Used.{most_used}
use Rattle.place_makes.specs.made_trees.step_model.Spreads.{blocks_in, IsKeyOf, IsSpread, Outcome, Raised, MayBecome}
use Rattle.place_makes.specs.made_trees.step_model.Plans.{Plan, made_plan, spread_used, full_row, new_file_attrs, grows_table, table_change, used_in, used_if, IsMadePlan}
use Rattle.place_makes.specs.made_trees.step_model.Steps.{Step}
use Rattle.place_makes.proofs.made_trees.step_model.NeverFull.{never_full}
use Rattle.place_makes.specs.made_trees.change_steps.Found.{IsPlaceFound, FoundIsThere}
use Rattle.place_makes.specs.made_trees.change_steps.Makings.{MakingsAreSteps}
use Rattle.made_steps.specs.Behind.{MayRise}
use Rattle.made_steps.specs.Refused.{FindsDirectory}
use Rattle.place_makes.specs.found_places.Laws.{PlacesAreThere}
use Rattle.directory_growth.specs.Growing.{root_bytes}
use Rattle.refused_places.specs.Refused.{RefusesRaised, RaisedFullAreSteps}
use Rattle.refused_places.proofs.Counting.{counted, more_few}
use Rattle.refused_places.proofs.Topping.{levels_topped}
use Rattle.refused_places.proofs.Finding as finding
use Rattle.refused_places.proofs.Spreading as spreading

same_ref : (o : Option FileRef) (x y : FileRef) → o ≡ Some x → o ≡ Some y → x ≡ y
same_ref o x y one two = cc

same_path : (path other : List (List ℕ)) → Create path ≡ Create other → other ≡ path
same_path path other is = cc

-- ---- what is refused with a level more

module _ (there_is : FoundIsThere) (makings : MakingsAreSteps) (c : Content) (g : Geometry) (clusters : ℕ) (v : Volume) (path : List (List ℕ)) (stamp : ℕ) (directory a : Node) (name : List ℕ) (ref : FileRef) (r : Record) (value : List ℕ) (t : Tree) (key : Key)
    (k : FindsDirectory c g clusters v path directory a name ref r value t key) where
  at : IsPlaceFound c v path directory name ref
  at = (let found = there_is.place c g clusters v (Create path) directory name ref k.has k.finds in subst (λ (y : List (List ℕ)). IsPlaceFound c v y directory name ref) (same_path path found.0 found.1) found.2)

  key_of_link : (other : FileRef) → least_ref (numbers_to_take (tree_of c v)) ≡ Some other → IsKeyOf (new_link a (new_name path) other) key
  key_of_link other least =
      let same = same_ref (least_ref (numbers_to_take (tree_of c v))) ref other at.least least in
      subst (λ (l : Link). IsKeyOf l key) (ap₂ (λ (l : List ℕ) (y : FileRef). new_link a l y) at.named same) k.is_key

  abbrev table : List ℕ
  table = used_if (grows_table (tree_of c v)) (used_in (file_in v table_file) (table_change c v))

  new_low : used_of (new_file_attrs (new_name path)) ≤ most_used
  new_low = never_full.made (new_name path) (subst (λ (l : List ℕ). length l ≤ 255) at.named k.short)

  above : (new bytes used : ℕ) (more : List ℕ) → new ≤ most_used → bytes ≡ used → most_used < used → first_of (full_row (new ∷ bytes ∷ more) ∷ None ∷ None ∷ []) ≡ Some (RecordFull used)
  above new bytes used more low same high =
      let second : full_row (bytes ∷ more) ≡ Some (RecordFull used) = ap (λ (u : ℕ). full_row (u ∷ more)) same ∙ ap (λ (b : Bool). cond b (Some (RecordFull used)) (full_row more)) (lt-ltb most_used used high) in
      let first : full_row (new ∷ bytes ∷ more) ≡ Some (RecordFull used) = ap (λ (b : Bool). cond b (Some (RecordFull new)) (full_row (bytes ∷ more))) (le-ltb most_used new low) ∙ second in
      ap (λ (o : Option Reply). first_of (o ∷ None ∷ None ∷ [])) first

  pub raised_full : (s : Tree) (more : ℕ) (u : Tree) (further used : ℕ) → MayBecome (nodes_of (node_of_block c (index_place v.per r))) (upper_of c v) (root_room (used_of r.attrs) value) key r (used_of r.attrs) t (spread_used c v a.number r) (Raised s more u further)
      → spread_used c v a.number r u further ≡ used → most_used < used → Step g clusters (Create path) stamp (RecordFull used) c c
  raised_full s more u further used may same high =
      let o : Outcome = Raised s more u further in
      let p : Plan = made_plan c v (new_name path) a.number r (levels t) o in
      let own : IsMadePlan c v path a p = record { r = r; file = k.file; value = value; root = k.root; t = t; holds = k.holds; key = key; is_key = key_of_link; outcome = o; may = may; is = refl } in
      makings.full c g clusters v path stamp directory a name ref p (RecordFull used) k.has k.finds k.node own (above (used_of (new_file_attrs (new_name path))) (spread_used c v a.number r u further) used table new_low same high)

-- ---- the root of the plan

room_in : (value : List ℕ) (root old : List Raw) → length value ≤ 1024 → entries_length old ≤ 1024 → (fits_in (root_room 0 value) root ≡ true) ⊎ (root ≡ old) → node_used root ≤ node_room
unfolding node_used root_room
room_in value root old short low (inl fits) =
    let most = (fits_bytes (root_room 0 value) root).0 fits in
    let is = bytes_is root in
    omega (arith, most, is, short)
room_in value root old short low (inr same) = (let is = ap entries_length same in omega (arith, is, low))

one_entry : (f : ℕ) (s : Tree) → 56 ≡ root_bytes (Down f s)
unfolding entry_length
one_entry f s = omega arith

module _ (there : PlacesAreThere) (new_reads : NewFileReads) (there_is : FoundIsThere) (makings : MakingsAreSteps) (c : Content) (g : Geometry) (clusters : ℕ) (v : Volume) (path : List (List ℕ)) (directory : Node) (m : NewFile) (r : Record) (used : ℕ)
    (k : RefusesRaised c g clusters v path directory m r used) (t : Tree) (holds : HoldsIndex c (index_place v.per r) (upper_of c v) k.value t) where
  abbrev value : List ℕ
  value = k.value

  abbrev fresh : List ℕ
  fresh = k.fresh

  abbrev nodes : NodesPlan
  nodes = k.nodes

  abbrev more : ℕ
  more = length k.nodes.taken.items

  abbrev f : ℕ
  f = k.kept

  abbrev a : Node
  a = finding.a there new_reads c g clusters v path directory m r k.finds

  once_all : Once t (f ∷ seventeen fresh)
  once_all = once_fewer t 18 (f ∷ fresh) (finding.once_of there new_reads c g clusters v path directory m r k.finds value t (f ∷ fresh) holds k.lie)

  once : Once t (seventeen fresh)
  once x = (let all = once_all x in omega (arith, all))

  planned : PlansNodes c (index_place v.per r) (upper_of c v) value 0 (made_key m) fresh (Ok nodes)
  planned = finding.by_eight there new_reads c g clusters v path directory m r k.finds (λ (per : ℕ). PlansNodes c (index_place per r) (upper_of c v) value 0 (made_key m) fresh (Ok nodes)) k.planned

  new : NewNodes c (index_place v.per r) (upper_of c v) value 0 (made_key m) fresh t nodes
  new = planned.1 t holds once

  fit : WritesFit nodes
  fit = finding.fit_of there new_reads c g clusters v path directory m r k.finds value t 0 fresh nodes k.root holds k.enough new

  -- for a record without other used bytes the root has room
  flat : needs_level (upper_of c v) (root_room 0 value) (made_key m) (seventeen fresh) t ≡ false
  flat = elim (cases_Bool (needs_level (upper_of c v) (root_room 0 value) (made_key m) (seventeen fresh) t)) [
    | inl up ↦ (let high = new.level up in let few = more_few (made_key m) t (finding.lawful there new_reads c g clusters v path directory m r k.finds) in absurd (omega (arith, high, few)))
    | inr none ↦ none
  ]

  abbrev s : Tree
  s = new.becomes.tree

  abbrev Spread : ℕ → Bool → Tree → ℕ → Type 0
  Spread room up x many = IsSpread (nodes_of (node_of_block c (index_place v.per r))) (upper_of c v) room (made_key m) t up x many

  spread : Spread (root_room 0 value) false s more
  spread = spreading.spread c (index_place v.per r) (upper_of c v) value 0 (made_key m) fresh t nodes new fit k.front once flat

  blocks : blocks_in t ≤ blocks_in s
  blocks = (let count = spreading.blocks c (index_place v.per r) (upper_of c v) value 0 (made_key m) fresh t nodes new fit k.front once flat in omega (arith, count))

  not_held : held f s ≡ 0
  not_held =
      let numbers = new.becomes.numbers f in
      let all = once_all f in
      let own = same_self f in
      omega (arith, numbers, all, own)

  fits : node_used (raws_of s) ≤ node_room
  fits =
      let root_low = finding.root_room_low there new_reads c g clusters v path directory m r k.finds value t k.root holds in
      let has_room : (fits_in (root_room 0 value) (raws_of s) ≡ true) ⊎ (raws_of s ≡ raws_of t) = elim (new.becomes.has_room flat) [
        | inl room ↦ inl (subst (λ (l : List Raw). fits_in (root_room 0 value) l ≡ true) new.becomes.root room)
        | inr stays ↦ inr (sym new.becomes.root ∙ stays)
      ] in
      room_in value (raws_of s) (raws_of t) (finding.value_short there new_reads c g clusters v path directory m r k.finds value k.root) root_low has_room

  raised : Spread (root_room (used_of r.attrs) value) true (Down f s) (1 + more)
  raised = (levels_topped (nodes_of (node_of_block c (index_place v.per r))) (upper_of c v) (root_room 0 value) (root_room (used_of r.attrs) value) (made_key m) t s f more spread not_held blocks fits).0

  count : (spread_used c v a.number r (Down f s) (1 + more) ≡ used) × (most_used < used)
  count = counted c v a.number r (Down f s) 56 (1 + more) used (finding.none_grows there new_reads c g clusters v path directory m r k.finds) k.full (one_entry f s)

  holds_eight : HoldsIndex c (index_place 8 r) (upper_of c v) value t
  holds_eight = subst (λ (per : ℕ). HoldsIndex c (index_place per r) (upper_of c v) value t) (finding.eight there new_reads c g clusters v path directory m r k.finds) holds

  rise : MayRise c v a.number r value (made_key m) t
  rise = subst (λ (n : ℕ). MayRise c v n r value (made_key m) t) (finding.a_number there new_reads c g clusters v path directory m r k.finds) (k.may t holds_eight)

  pub raised_full_step : Step g clusters (Create path) m.stamp (RecordFull used) c c
  raised_full_step =
      let finds : FindsDirectory c g clusters v path directory a m.name m.file r value t (made_key m) = finding.directory_is there new_reads c g clusters v path directory m r k.finds value t k.root holds in
      raised_full there_is makings c g clusters v path m.stamp directory a m.name m.file r value t (made_key m) finds rise.flat rise.behind (Down f s) (1 + more) used (rise.spread, rise.may, k.low t holds_eight, raised) count.0 count.1

pub raised_full_places : PlacesAreThere → NewFileReads → FoundIsThere → MakingsAreSteps → RaisedFullAreSteps
raised_full_places there new_reads there_is makings c g clusters v path directory m r used k =
    let own = finding.names there new_reads c g clusters v path directory m r k.finds k.value k.root in
    raised_full_step there new_reads there_is makings c g clusters v path directory m r used k own.0 own.1
