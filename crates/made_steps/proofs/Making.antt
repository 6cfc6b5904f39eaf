-- What a draft has put of a new file, as the step of the plan by which its index became what it is.
use Rattle.std.proofs.Common.{◌≡◌, ℕ, ◌≤◌, List, [], ◌∷◌, length, Option, Some, None, Ok, refl, sym, ap, ap₂, subst, ◌∙◌, arith}
use Rattle.std.proofs.lemmas.Bool.{and_parts}
use Rattle.host_base.specs.declared.file_ref.FileRef.{FileRef}
use Rattle.disk_model.specs.Content.{Content, HasSizes}
use Rattle.record_model.specs.Records.{Record, used_of}
use Rattle.file_tree.specs.declared.node.Node.{Node}
use Rattle.file_tree.specs.declared.link.Link.{Link}
use Rattle.index_model.specs.declared.key.Key.{Key}
use Rattle.index_model.specs.Trees.{Tree}
use Rattle.index_model.specs.Laws.{HoldsIndex}
use Rattle.index_change.specs.declared.nodes_plan.NodesPlan.{NodesPlan}
use Rattle.index_change.specs.declared.plan.DirPlan.{DirPlan}
use Rattle.state_model.specs.declared.geometry.Geometry.{Geometry}
use Rattle.state_model.specs.declared.stream.Extents.{Extents}
use Rattle.volume_model.specs.Indexes.{index_place}
use Rattle.volume_model.specs.Volumes.{Volume, file_in, upcase_file, upper_of}
use Rattle.volume_state.specs.Trees.{tree_of}
use Rattle.tree_laws.specs.Contents.{SameUpper}
use Rattle.tree_model.specs.declared.script.Op.TheVariants.{Create}
use Rattle.tree_model.specs.declared.reply.Reply.{Reply}
use Rattle.tree_model.specs.declared.reply.Reply.TheVariants.{Created}
use Rattle.tree_model.specs.Needs.{needed}
use Rattle.tree_model.specs.Refusals.{new_name, parent_path, first_of}
use Rattle.tree_model.specs.Effects.{numbers_to_take, least_ref, new_link}
use Rattle.plan_owners.specs.States.{Stands}
use Rattle.plan_bodies.proofs.Putting.{sized_with}
use Rattle.plan_draft.specs.declared.touched.Touched.{Touched}
use Rattle.plan_draft.specs.Touching.{bodies_of}
use Rattle.plan_draft.specs.Drafts.{drafted}
use Rattle.made_trees.specs.plan_model.Informed.{with_record}
use Rattle.made_trees.proofs.plan_model.Making.{leads_to_made}
use Rattle.made_trees.specs.record_times.Times.{timed_record}
use Rattle.made_trees.specs.record_times.Laws.{TimesAreSet}
use Rattle.made_trees.specs.step_model.Plans.{Plan, made_spread, spread_used, content_rows, full_row, new_file_attrs, no_plan, IsMadePlan, IsPlan}
use Rattle.made_trees.specs.step_model.Placing.{Growth, wanted_by}
use Rattle.made_trees.specs.step_model.Spreads.{IsKeyOf}
use Rattle.made_trees.specs.step_model.Steps.{HasIndex, Step}
use Rattle.made_trees.specs.step_model.Contents.{IsLeft}
use Rattle.made_trees.specs.step_model.Used.{most_used}
use Rattle.made_trees.proofs.step_model.NeverFull.{never_full}
use Rattle.made_trees.proofs.change_steps.Planning.{without_journal, at_node}
use Rattle.made_trees.proofs.made_files.Roots.{OneRoot, one_root, rooted_value}
use Rattle.plan_owners.proofs.Standing.{streams_at}
use Rattle.volume_model.specs.Sizes.{keeps_streams}
use Rattle.tree_model.specs.Walks.{reached_directory}
use Rattle.made_trees.specs.change_steps.Found.{IsPlaceFound, FoundIsThere}
use Rattle.made_trees.specs.change_steps.Makings.{IsMade, MakingsAreSteps}
use Rattle.made_trees.specs.new_files.Laws.{NewFileReads}
use Rattle.made_trees.specs.file_puts.declared.streams.VolumeStreams.{VolumeStreams}
use Rattle.made_trees.proofs.written_values.Sparing.{elsewhere}
use Rattle.made_trees.specs.file_makes.declared.newfile.NewFile.{NewFile}
use Rattle.made_trees.specs.file_makes.Making.{made_record}
use Rattle.made_trees.specs.made_files.Made.{made_link, made_key, rooted_directory, IsMadeEdit}
use Rattle.made_trees.specs.Created.{timed_directory, timed_volume, made_volume}
use Rattle.made_trees.proofs.Going as going
use Rattle.made_trees.proofs.Leaving as leaving
use Rattle.made_steps.specs.Steps.{HasRootOf}
use Rattle.made_trees.specs.Behind.{MakesFileBehind}
use Rattle.made_trees.specs.change_steps.Found.{HasChange, Finds}
use Rattle.change_lookup.specs.declared.found.Found.TheVariants.{Place as PlaceFound}
use Rattle.file_tree.specs.Trees.{node_at as node_by_number}
use Rattle.made_steps.specs.Behind.{table_used}
use Rattle.made_steps.proofs.Timing.{upper_by}
use Rattle.made_steps.proofs.Rows.{not_full, same_ref, same_path}

same_node_of : (o : Option Node) (x y : Node) → o ≡ Some x → o ≡ Some y → x ≡ y
same_node_of o x y one two = cc

-- ---- what is put

-- What is asked for, but for what becomes of the index, and what is left of the content.
pub record Makes (c : Content) (g : Geometry) (clusters : ℕ) (v : Volume) (s : VolumeStreams) (numbers : Extents) (path : List (List ℕ)) (m : NewFile) (directory a : Node) (r : Record) (growths : List Growth) (u : Volume) (now : Record) (grown : List Touched) (value : List ℕ) (used : ℕ) (t : Tree) (fresh : List ℕ) (nodes : NodesPlan) (timed new : List Touched) : Type 0 where
  pub has : HasChange c g clusters v (Create path)
  pub finds : Finds c v (Create path) (PlaceFound directory m.name m.file)
  pub node : node_by_number (tree_of c v).nodes directory.number ≡ Some a
  pub by : MakesFileBehind c g clusters v s numbers m a r growths u now grown value used t fresh nodes timed new
  pub short : length m.name ≤ 255
  pub enough : wanted_by growths ≤ needed (tree_of c v) 0 (Create path) a
  pub table : full_row (table_used c v) ≡ None

module _ (times_set : TimesAreSet) (reads : NewFileReads) (there_is : FoundIsThere) (makings : MakingsAreSteps) (c : Content) (g : Geometry) (clusters : ℕ) (v : Volume) (s : VolumeStreams) (numbers : Extents) (path : List (List ℕ)) (m : NewFile) (directory a : Node) (r : Record) (growths : List Growth) (u : Volume) (now : Record) (grown : List Touched) (more : ℕ) (value : List ℕ) (used : ℕ) (t : Tree) (fresh : List ℕ) (nodes : NodesPlan) (timed new : List Touched)
    (k : Makes c g clusters v s numbers path m directory a r growths u now grown value used t fresh nodes timed new) where
  abbrev pub n : ℕ
  n = m.file.number

  abbrev pub dir : ℕ
  dir = m.parent.number

  abbrev pub first : Content
  first = drafted grown c

  abbrev pub middle : Content
  middle = drafted timed c

  abbrev pub last : Content
  last = drafted new c

  abbrev pub p : Record
  p = timed_record m.stamp now

  abbrev pub q : Record
  q = timed_directory m.stamp now

  abbrev pub x : Volume
  x = timed_volume u m now

  abbrev pub plan : DirPlan
  plan = k.by.made.put.plan

  abbrev pub z : Record
  z = rooted_directory k.by.made.put.plan (timed_directory m.stamp now)

  abbrev pub f : Record
  f = made_record (drafted timed c) s.table m

  abbrev pub w : Volume
  w = made_volume c u s m now k.by.made.put.plan timed

  abbrev pub key : Key
  key = made_key m

  pub two : IsMadeEdit c x s m q value used t fresh k.by.made.put.plan timed new
  two = going.made times_set reads c g clusters v s numbers m a r growths u now grown value used t fresh nodes timed new k.by

  abbrev pub tree : Tree
  tree = two.index.tree

  pub sized_middle : HasSizes middle
  sized_middle = sized_with c (bodies_of timed) k.by.sized

  pub state_x : Stands middle g clusters x
  state_x = going.stands times_set reads c g clusters v s numbers m a r growths u now grown value used t fresh nodes timed new k.by

  upper_last : upper_of last w ≡ upper_of middle x
  upper_last =
      let bytes : SameUpper middle last x = subst (λ (y : Content). SameUpper middle y x) two.edits.content (leads_to_made middle g clusters x n dir f q z (made_link m) two.bodies sized_middle state_x two.makes).agrees.upper in
      let user = two.makes.user in
      let file : file_in w upcase_file ≡ file_in x upcase_file = elsewhere (with_record x n f) dir upcase_file z (λ same. two.makes.apart.upcase (sym same)) ∙ elsewhere x n upcase_file f (λ same. omega (arith, same, user)) in
      upper_by middle last x w refl file bytes

  -- ---- the index behind

  pub has_root : HasRootOf value nodes tree
  has_root = sym two.index.root ∙ k.by.made.put.laid.root

  one_root_is : OneRoot q value
  unfolding keeps_streams
  one_root_is = one_root x.per x.clusters q value (and_parts _ _ (and_parts _ _ (and_parts _ _ (streams_at middle g clusters x dir q state_x two.makes.file)).0).0).0 k.by.made.entry.root

  pub a_number : dir ≡ a.number
  a_number = ap (λ (ref : FileRef). ref.number) k.by.referred

  has_index : HasIndex last w a.number tree
  has_index = record {
    r = z;
    file = ap (file_in w) (sym a_number) ∙ leaving.dir_w times_set reads c g clusters v s numbers m a r growths u now grown value used t fresh nodes timed new k.by;
    value = plan.root;
    root = rooted_value q value plan.root one_root_is k.by.made.directory.written;
    holds = subst (λ (l : List ℕ). HoldsIndex last (index_place u.per z) l plan.root tree) (sym upper_last) two.holds;
  }

  -- ---- the plan

  found : (other : List (List ℕ)) × (Create path ≡ Create other) × IsPlaceFound c v other directory m.name m.file
  found = there_is.place c g clusters v (Create path) directory m.name m.file k.has k.finds

  at : IsPlaceFound c v path directory m.name m.file
  at = subst (λ (y : List (List ℕ)). IsPlaceFound c v y directory m.name m.file) (same_path path found.0 found.1) found.2

  abbrev pub own : Plan
  own = made_spread c v (new_name path) a.number r two.index.tree more

  abbrev pub HasRoom : Type 0
  HasRoom = spread_used c v a.number r tree more ≤ most_used

  pub file_a : file_in v a.number ≡ Some r
  file_a = ap (file_in v) (sym a_number) ∙ k.by.own.file

  pub key_of_link : (ref : FileRef) → least_ref (numbers_to_take (tree_of c v)) ≡ Some ref → IsKeyOf (new_link a (new_name path) ref) key
  key_of_link ref least =
      let same = same_ref (least_ref (numbers_to_take (tree_of c v))) m.file ref at.least least in
      let link : made_link m ≡ new_link a (new_name path) ref = going.same_link times_set reads c g clusters v s numbers m a r growths u now grown value used t fresh nodes timed new k.by ∙ ap₂ (λ (l : List ℕ) (y : FileRef). new_link a l y) at.named same in
      subst (λ (l : Link). IsKeyOf l key) link (going.reads_file times_set reads c g clusters v s numbers m a r growths u now grown value used t fresh nodes timed new k.by).key

  pub is_plan : IsMadePlan c v path a own → IsPlan c v (Create path) 0 own
  is_plan planned = record {
    own = own;
    is_own = at_node (reached_directory (upper_of c v) (tree_of c v).nodes (tree_of c v).links (parent_path path)) a (λ (y : Node). IsMadePlan c v path y own) (own ≡ no_plan) (at.walked ∙ ap (λ (y : Node). Ok y) (same_node_of _ at.a a at.node k.node)) planned;
    is = sym (without_journal c v 0 own k.has.journal refl);
  }

  free : HasRoom → first_of (content_rows own) ≡ None
  free low =
      let short : length (new_name path) ≤ 255 = subst (λ (l : List ℕ). length l ≤ 255) at.named k.short in
      let full : full_row own.used ≡ None = not_full (used_of (new_file_attrs (new_name path))) (spread_used c v a.number r tree more ∷ table_used c v) (never_full.made (new_name path) short) (not_full (spread_used c v a.number r tree more) (table_used c v) low k.table) in
      ap (λ (o : Option Reply). first_of (o ∷ None ∷ None ∷ [])) full

  -- ---- the step

  abbrev pub Leaves : Type 0
  Leaves = IsLeft c v clusters (n ∷ dir ∷ []) own.growths last w

  pub leaves : growths ≡ own.growths → Leaves
  leaves same = subst (λ (l : List Growth). IsLeft c v clusters (n ∷ dir ∷ []) l last w) same (leaving.left times_set reads c g clusters v s numbers m a r growths u now grown value used t fresh nodes timed new k.by)

  is_made : Leaves → IsMade c g clusters v path m.stamp a m.name m.file own last
  is_made left =
      let reached = going.reaches times_set reads c g clusters v s numbers m a r growths u now grown value used t fresh nodes timed new k.by in
      record {
        after = w;
        stands = subst (λ (y : Content). Stands y g clusters w) reached.content reached.draft.stands;
        tree = (going.has_made_file times_set reads c g clusters v s numbers m a r growths u now grown value used t fresh nodes timed new k.by).tree (needed (tree_of c v) 0 (Create path) a) k.enough;
        left = subst (λ (i : ℕ). IsLeft c v clusters (n ∷ i ∷ []) own.growths last w) a_number left;
        index = has_index;
      }

  pub stepped : IsMadePlan c v path a own → HasRoom → Leaves → Step g clusters (Create path) m.stamp (Created m.file.number m.file.seq) c last
  stepped planned low left = makings.made c g clusters v path m.stamp directory a m.name m.file own last k.has k.finds k.node planned (free low) (is_made left)
