-- A plan of a directory's index that a step refuses.
use Rattle.std.proofs.Common.{◌≡◌, ℕ, ◌<◌, ◌≤◌, Bool, true, false, cond, List, [], ◌∷◌, length, Option, Some, None, refl, ap, ap₂, subst, ◌∙◌, arith}
use Rattle.std.proofs.lemmas.Bool.{le-ltb, lt-ltb}
use Rattle.host_base.specs.declared.file_ref.FileRef.{FileRef}
use Rattle.disk_model.specs.Content.{Content}
use Rattle.record_model.specs.Records.{Record, used_of}
use Rattle.file_tree.specs.declared.link.Link.{Link}
use Rattle.file_tree.specs.declared.node.Node.{Node}
use Rattle.index_model.specs.declared.key.Key.{Key}
use Rattle.index_model.specs.Trees.{Tree, levels, one_if, raws_of}
use Rattle.index_model.specs.Indexes.{node_of_block, nodes_of, most_levels}
use Rattle.index_change.specs.declared.nodes_plan.NodesPlan.{NodesPlan}
use Rattle.index_change.specs.Plans.{root_room, seventeen, needs_level}
use Rattle.state_model.specs.declared.geometry.Geometry.{Geometry}
use Rattle.volume_model.specs.Indexes.{index_place}
use Rattle.volume_model.specs.Volumes.{Volume, file_in, table_file, upper_of}
use Rattle.volume_state.specs.Trees.{tree_of}
use Rattle.tree_model.specs.declared.script.Op.TheVariants.{Create}
use Rattle.tree_model.specs.declared.reply.Reply.{Reply}
use Rattle.tree_model.specs.declared.reply.Reply.TheVariants.{IndexDeep, RecordFull}
use Rattle.tree_model.specs.Refusals.{new_name, first_of}
use Rattle.tree_model.specs.Effects.{numbers_to_take, least_ref, new_link}
use Rattle.node_spreads.specs.Nodes.{IsSpreadBy}
use Rattle.node_spreads.proofs.Fitting.{nodes_spread}
use Rattle.node_spreads.proofs.Widening.{spreads_wider}
use Rattle.made_trees.specs.step_model.Used.{most_used}
use Rattle.made_trees.specs.step_model.Spreads.{IsKeyOf, IsSpread, MayAddLevel, Outcome, Flat, Raised, TooDeep, MayBecome}
use Rattle.made_trees.specs.step_model.Plans.{Plan, made_plan, spread_used, content_rows, full_row, new_file_attrs, grows_table, table_change, used_in, used_if, IsMadePlan}
use Rattle.made_trees.specs.step_model.Steps.{Step}
use Rattle.made_trees.proofs.step_model.NeverFull.{never_full}
use Rattle.made_trees.specs.change_steps.Found.{IsPlaceFound, FoundIsThere}
use Rattle.made_trees.specs.change_steps.Makings.{MakingsAreSteps}
use Rattle.made_steps.specs.Behind.{MayRise}
use Rattle.made_steps.specs.Refused.{FindsDirectory, PlansKey, NotMadeIsStep}
use Rattle.made_steps.proofs.Rows.{not_full, same_ref, same_path}

module _ (there_is : FoundIsThere) (makings : MakingsAreSteps) (c : Content) (g : Geometry) (clusters : ℕ) (v : Volume) (path : List (List ℕ)) (stamp : ℕ) (directory a : Node) (name : List ℕ) (ref : FileRef) (r : Record) (value : List ℕ) (t : Tree) (key : Key)
    (k : FindsDirectory c g clusters v path directory a name ref r value t key) where
  abbrev May : Outcome → Type 0
  May o = MayBecome (nodes_of (node_of_block c (index_place v.per r))) (upper_of c v) (root_room (used_of r.attrs) value) key r (used_of r.attrs) t (spread_used c v a.number r) o

  abbrev plan_of : Outcome → Plan
  plan_of o = made_plan c v (new_name path) a.number r (levels t) o

  at : IsPlaceFound c v path directory name ref
  at = (let found = there_is.place c g clusters v (Create path) directory name ref k.has k.finds in subst (λ (y : List (List ℕ)). IsPlaceFound c v y directory name ref) (same_path path found.0 found.1) found.2)

  key_is : (other : FileRef) → least_ref (numbers_to_take (tree_of c v)) ≡ Some other → IsKeyOf (new_link a (new_name path) other) key
  key_is other least =
      let same = same_ref (least_ref (numbers_to_take (tree_of c v))) ref other at.least least in
      subst (λ (l : Link). IsKeyOf l key) (ap₂ (λ (l : List ℕ) (y : FileRef). new_link a l y) at.named same) k.is_key

  pub refused : (o : Outcome) (said : Reply) → May o → first_of (content_rows (plan_of o)) ≡ Some said → Step g clusters (Create path) stamp said c c
  refused o said may row =
      let own : IsMadePlan c v path a (plan_of o) = record { r = r; file = k.file; value = value; root = k.root; t = t; holds = k.holds; key = key; is_key = key_is; outcome = o; may = may; is = refl } in
      makings.full c g clusters v path stamp directory a name ref (plan_of o) said k.has k.finds k.node own row

  -- ---- rows

  new_low : used_of (new_file_attrs (new_name path)) ≤ most_used
  new_low = never_full.made (new_name path) (subst (λ (l : List ℕ). length l ≤ 255) at.named k.short)

  over : (new used bytes : ℕ) (more : List ℕ) → new ≤ most_used → used ≡ bytes → most_used < bytes → first_of (full_row (new ∷ used ∷ more) ∷ None ∷ None ∷ []) ≡ Some (RecordFull bytes)
  over new used bytes more low same high =
      let second : full_row (used ∷ more) ≡ Some (RecordFull bytes) = ap (λ (u : ℕ). full_row (u ∷ more)) same ∙ ap (λ (b : Bool). cond b (Some (RecordFull bytes)) (full_row more)) (lt-ltb most_used bytes high) in
      let first : full_row (new ∷ used ∷ more) ≡ Some (RecordFull bytes) = ap (λ (b : Bool). cond b (Some (RecordFull new)) (full_row (used ∷ more))) (le-ltb most_used new low) ∙ second in
      ap (λ (o : Option Reply). first_of (o ∷ None ∷ None ∷ [])) first

  pub deep : grows_table (tree_of c v) ≡ false → (rise : MayRise c v a.number r value key t) → levels t ≡ most_levels → most_used < spread_used c v a.number r rise.flat rise.behind → Step g clusters (Create path) stamp (IndexDeep (levels t)) c c
  deep grows rise height high =
      let rest : full_row (used_if (grows_table (tree_of c v)) (used_in (file_in v table_file) (table_change c v))) ≡ None = ap (λ (b : Bool). full_row (used_if b (used_in (file_in v table_file) (table_change c v)))) grows in
      let free : full_row (used_of (new_file_attrs (new_name path)) ∷ used_if (grows_table (tree_of c v)) (used_in (file_in v table_file) (table_change c v))) ≡ None = not_full (used_of (new_file_attrs (new_name path))) (used_if (grows_table (tree_of c v)) (used_in (file_in v table_file) (table_change c v))) new_low rest in
      refused (TooDeep rise.flat rise.behind) (IndexDeep (levels t)) (rise.spread, rise.may, height, high) (ap (λ (o : Option Reply). first_of (o ∷ Some (IndexDeep (levels t)) ∷ None ∷ [])) free)

  -- ---- plans of nodes

  abbrev Spread : Bool → Tree → ℕ → Type 0
  Spread level x more = IsSpread (nodes_of (node_of_block c (index_place v.per r))) (upper_of c v) (root_room (used_of r.attrs) value) key t level x more

  spread_by : (used : ℕ) (fresh : List ℕ) (nodes : NodesPlan) (more : ℕ) → PlansKey c v r value used t key fresh nodes more → (x : Tree) × (nodes.root ≡ raws_of x) × Spread (needs_level (upper_of c v) (root_room used value) key (seventeen fresh) t) x more
  spread_by used fresh nodes more p =
      let by : IsSpreadBy c (index_place v.per r) (upper_of c v) value used key fresh t nodes = nodes_spread c (index_place v.per r) (upper_of c v) value used key fresh t nodes (p.planned.1 t k.holds p.once) p.fit p.front p.enough p.once in
      let wide = spreads_wider (nodes_of (node_of_block c (index_place v.per r))) (upper_of c v) (used_of r.attrs) used value key t (needs_level (upper_of c v) (root_room used value) key (seventeen fresh) t) by.tree more p.least (by.spread more p.taken) in
      (by.tree, by.root, wide)

  pub full : (used : ℕ) (fresh : List ℕ) (nodes : NodesPlan) (more bytes : ℕ) → PlansKey c v r value used t key fresh nodes more → needs_level (upper_of c v) (root_room used value) key (seventeen fresh) t ≡ false
      → ((x : Tree) → nodes.root ≡ raws_of x → spread_used c v a.number r x more ≡ bytes) → most_used < bytes → ((x : Tree) → nodes.root ≡ raws_of x → MayAddLevel (upper_of c v) key r (used_of r.attrs) t x bytes → ⊥) → Step g clusters (Create path) stamp (RecordFull bytes) c c
  full used fresh nodes more bytes p flat counts high never =
      let by = spread_by used fresh nodes more p in
      let same : spread_used c v a.number r by.0 more ≡ bytes = counts by.0 by.1 in
      let none : MayAddLevel (upper_of c v) key r (used_of r.attrs) t by.0 (spread_used c v a.number r by.0 more) → ⊥ = λ may. never by.0 by.1 (subst (λ (b : ℕ). MayAddLevel (upper_of c v) key r (used_of r.attrs) t by.0 b) same may) in
      refused (Flat by.0 more) (RecordFull bytes) (subst (λ (up : Bool). Spread up by.0 more) flat by.2, (λ over may. none may))
      (over (used_of (new_file_attrs (new_name path))) (spread_used c v a.number r by.0 more) bytes (used_if (grows_table (tree_of c v)) (used_in (file_in v table_file) (table_change c v))) new_low same high)

  pub full_raised : (used : ℕ) (fresh : List ℕ) (nodes : NodesPlan) (more bytes : ℕ) → PlansKey c v r value used t key fresh nodes more → needs_level (upper_of c v) (root_room used value) key (seventeen fresh) t ≡ true → MayRise c v a.number r value key t → levels t < most_levels
      → ((x : Tree) → nodes.root ≡ raws_of x → spread_used c v a.number r x more ≡ bytes) → most_used < bytes → Step g clusters (Create path) stamp (RecordFull bytes) c c
  full_raised used fresh nodes more bytes p up rise low counts high =
      let by = spread_by used fresh nodes more p in
      let same : spread_used c v a.number r by.0 more ≡ bytes = counts by.0 by.1 in
      refused (Raised rise.flat rise.behind by.0 more) (RecordFull bytes) (rise.spread, rise.may, low, subst (λ (level : Bool). Spread level by.0 more) up by.2)
      (over (used_of (new_file_attrs (new_name path))) (spread_used c v a.number r by.0 more) bytes (used_if (grows_table (tree_of c v)) (used_in (file_in v table_file) (table_change c v))) new_low same high)

pub not_made : FoundIsThere → MakingsAreSteps → NotMadeIsStep
not_made there_is makings = record {
  full = λ c g clusters v path stamp directory a name ref r value t key used fresh nodes more bytes k p flat counts high never. full there_is makings c g clusters v path stamp directory a name ref r value t key k used fresh nodes more bytes p flat counts high never;
  full_raised = λ c g clusters v path stamp directory a name ref r value t key used fresh nodes more bytes k p up rise counts high.
      full_raised there_is makings c g clusters v path stamp directory a name ref r value t key k used fresh nodes more bytes p up rise (let low = (p.planned.1 t k.holds p.once).low in let one = ap one_if up in omega (arith, low, one)) counts high;
  deep = λ c g clusters v path stamp directory a name ref r value t key k grows rise height high. deep there_is makings c g clusters v path stamp directory a name ref r value t key k grows rise height high;
}
