-- What a draft has put of a new file behind the growth of its directory's index is the step of its content.
use Rattle.std.proofs.Common.{◌≡◌, ℕ, ◌+◌, ◌-◌, ◌<◌, ◌≤◌, Bool, true, false, List, [], ◌++◌, length, Option, Some, None, refl, sym, ap, subst, ◌∙◌, arith}
use Rattle.std.specs.List.{AllByRecursion}
use Rattle.std.proofs.lemmas.Bool.{both_ways}
use Rattle.disk_model.specs.Content.{Content, HasSizes}
use Rattle.record_model.specs.declared.entry.Entry.{Entry as Raw}
use Rattle.record_model.specs.Records.{Record, used_of}
use Rattle.file_tree.specs.declared.node.Node.{Node}
use Rattle.index_model.specs.declared.key.Key.{Key}
use Rattle.index_model.specs.Trees.{Tree, levels}
use Rattle.index_model.specs.Indexes.{node_of_block, nodes_of, most_levels}
use Rattle.index_model.specs.Laws.{HoldsIndex}
use Rattle.index_change.specs.declared.nodes_plan.NodesPlan.{NodesPlan}
use Rattle.index_change.specs.declared.plan.DirPlan.{DirPlan}
use Rattle.index_change.specs.Plans.{root_room, seventeen, needs_level}
use Rattle.state_model.specs.declared.geometry.Geometry.{Geometry}
use Rattle.state_model.specs.declared.stream.Extents.{Extents}
use Rattle.volume_model.specs.Indexes.{index_place, root_value}
use Rattle.volume_model.specs.Volumes.{Volume, file_in, table_file, upper_of, cluster_bits}
use Rattle.volume_state.specs.Trees.{tree_of}
use Rattle.tree_model.specs.declared.script.Op.TheVariants.{Create}
use Rattle.tree_model.specs.declared.reply.Reply.TheVariants.{Created}
use Rattle.tree_model.specs.Needs.{needed}
use Rattle.tree_model.specs.Refusals.{new_name}
use Rattle.plan_bodies.proofs.Putting.{sized_with}
use Rattle.plan_draft.specs.declared.touched.Touched.{Touched}
use Rattle.plan_draft.specs.Touching.{bodies_of}
use Rattle.plan_draft.specs.Drafts.{drafted}
use Rattle.made_trees.specs.record_times.Laws.{TimesAreSet}
use Rattle.made_trees.specs.step_model.Plans.{Plan, made_plan, spread_comes, spread_used, full_row, grows_table, table_in, table_change, used_in, used_if, IsMadePlan, IsPlan}
use Rattle.made_trees.specs.step_model.Placing.{Growth, AllPlaced, wanted_by}
use Rattle.made_trees.specs.step_model.Spreads.{blocks_in, IsSpread, Outcome, Flat, Raised, MayBecome}
use Rattle.made_trees.specs.step_model.Steps.{Step}
use Rattle.made_trees.proofs.step_model.Spreading.{plans_spread}
use Rattle.made_trees.specs.change_steps.Found.{FoundIsThere}
use Rattle.made_trees.specs.change_steps.Makings.{MakingsAreSteps}
use Rattle.made_trees.specs.new_files.Laws.{NewFileReads}
use Rattle.made_trees.specs.file_puts.declared.streams.VolumeStreams.{VolumeStreams}
use Rattle.made_trees.specs.file_makes.declared.newfile.NewFile.{NewFile}
use Rattle.made_trees.specs.made_files.Made.{made_key, IsMadeEdit}
use Rattle.made_trees.specs.Created.{timed_directory, timed_volume, MakesFileBy}
use Rattle.made_trees.proofs.Going as going
use Rattle.made_steps.specs.Steps.{HasRootOf, TakesStep, MadeFilesAreSteps}
use Rattle.made_trees.proofs.Nothing.{room_differs_not, index_stays, behind_nothing, file_leaves}
use Rattle.made_trees.specs.Behind.{MakesFileBehind}
use Rattle.made_trees.specs.Left.{StaysGrown}
use Rattle.made_trees.specs.change_steps.Found.{HasChange, Finds}
use Rattle.change_lookup.specs.declared.found.Found.TheVariants.{Place as PlaceFound}
use Rattle.file_tree.specs.Trees.{node_at as node_by_number}
use Rattle.made_trees.proofs.step_model.Planning.{plans_placed}
use Rattle.made_steps.specs.Behind.{MayRise, table_used, TakesStepBehind, MadeBehindAreSteps}
use Rattle.node_spreads.proofs.Counting.{blocks_counted}
use Rattle.node_spreads.proofs.Widening.{spreads_wider}
use Rattle.made_trees.specs.Grown.{KeepsIndex}
use Rattle.made_steps.proofs.Timing.{moved, same_read, times_keep}
use Rattle.made_steps.proofs.Making.{Makes}
use Rattle.made_steps.proofs.Making as making

-- ---- what is put

-- What is asked for, but for the room of the directory's record and what is left of the content.
pub record Takes (c : Content) (g : Geometry) (clusters : ℕ) (v : Volume) (s : VolumeStreams) (numbers : Extents) (path : List (List ℕ)) (m : NewFile) (directory a : Node) (r : Record) (growths : List Growth) (u : Volume) (now : Record) (grown : List Touched) (more : ℕ) (value : List ℕ) (used : ℕ) (t : Tree) (fresh : List ℕ) (nodes : NodesPlan) (timed new : List Touched) : Type 0 where
  pub has : HasChange c g clusters v (Create path)
  pub finds : Finds c v (Create path) (PlaceFound directory m.name m.file)
  pub node : node_by_number (tree_of c v).nodes directory.number ≡ Some a
  pub by : MakesFileBehind c g clusters v s numbers m a r growths u now grown value used t fresh nodes timed new
  pub index : KeepsIndex c v r (drafted grown c) u now
  pub short : length m.name ≤ 255
  pub least : used_of r.attrs ≤ used
  pub taken : more ≤ length nodes.taken.items
  pub enough : wanted_by growths ≤ needed (tree_of c v) 0 (Create path) a
  pub table : full_row (table_used c v) ≡ None
  pub level : needs_level (upper_of c v) (root_room used value) (made_key m) (seventeen fresh) t ≡ true → MayRise c v a.number r value (made_key m) t

module _ (times_set : TimesAreSet) (reads : NewFileReads) (there_is : FoundIsThere) (makings : MakingsAreSteps) (c : Content) (g : Geometry) (clusters : ℕ) (v : Volume) (s : VolumeStreams) (numbers : Extents) (path : List (List ℕ)) (m : NewFile) (directory a : Node) (r : Record) (growths : List Growth) (u : Volume) (now : Record) (grown : List Touched) (more : ℕ) (value : List ℕ) (used : ℕ) (t : Tree) (fresh : List ℕ) (nodes : NodesPlan) (timed new : List Touched)
    (k : Takes c g clusters v s numbers path m directory a r growths u now grown more value used t fresh nodes timed new) where
  abbrev dir : ℕ
  dir = m.parent.number

  abbrev middle : Content
  middle = drafted timed c

  abbrev q : Record
  q = timed_directory m.stamp now

  abbrev x : Volume
  x = timed_volume u m now

  abbrev plan : DirPlan
  plan = k.by.made.put.plan

  abbrev key : Key
  key = made_key m

  abbrev made : Makes c g clusters v s numbers path m directory a r growths u now grown value used t fresh nodes timed new
  made = record { has = k.has; finds = k.finds; node = k.node; by = k.by; short = k.short; enough = k.enough; table = k.table }

  abbrev pub two : IsMadeEdit c x s m q value used t fresh k.by.made.put.plan timed new
  two = making.two times_set reads there_is makings c g clusters v s numbers path m directory a r growths u now grown more value used t fresh nodes timed new made

  abbrev pub tree : Tree
  tree = making.tree times_set reads there_is makings c g clusters v s numbers path m directory a r growths u now grown more value used t fresh nodes timed new made

  abbrev pub own : Plan
  own = making.own times_set reads there_is makings c g clusters v s numbers path m directory a r growths u now grown more value used t fresh nodes timed new made

  abbrev pub HasRoom : Type 0
  HasRoom = making.HasRoom times_set reads there_is makings c g clusters v s numbers path m directory a r growths u now grown more value used t fresh nodes timed new made

  abbrev pub Leaves : Type 0
  Leaves = making.Leaves times_set reads there_is makings c g clusters v s numbers path m directory a r growths u now grown more value used t fresh nodes timed new made

  sized_middle : HasSizes middle
  sized_middle = sized_with c (bodies_of timed) k.by.sized

  -- ---- the index before

  keeps : KeepsIndex c v r middle x q
  keeps = times_keep times_set c g clusters v s dir m.stamp r growths u now grown timed (record {
    sized = k.by.sized;
    eight = k.by.eight;
    before = k.by.before;
    index = k.index;
    streams = k.by.streams;
    info = k.by.info;
    mirrored_none = k.by.made.directory.mirrored_none;
    kept = k.by.made.kept;
    times = k.by.times;
  })

  upper_middle : upper_of middle x ≡ upper_of c v
  upper_middle = keeps.upper

  nodes_same : nodes_of (node_of_block middle (index_place u.per q)) ≡ nodes_of (node_of_block c (index_place v.per r))
  nodes_same = same_read c middle v x r q keeps

  value_is : root_value r ≡ Some value
  value_is = sym keeps.root ∙ k.by.made.entry.root

  holds_before : HoldsIndex c (index_place v.per r) (upper_of c v) value t
  holds_before = moved middle c (index_place u.per q) (index_place v.per r) (upper_of middle x) (upper_of c v) value t upper_middle nodes_same k.by.made.entry.holds

  -- ---- the index behind

  blocks_more : more ≤ blocks_in tree - blocks_in t
  blocks_more =
      let come : blocks_in tree + length plan.freed.items ≡ blocks_in t + length plan.taken.items = blocks_counted tree t plan.freed.items plan.taken.items two.index.numbers in
      let none = ap (λ (l : List ℕ). length l) k.by.made.put.laid.freed in
      let same = ap (λ (l : List ℕ). length l) k.by.made.put.laid.taken in
      let most = k.taken in
      omega (arith, come, none, same, most)

  abbrev level : Bool
  level = needs_level (upper_of c v) (root_room used value) (made_key m) (seventeen fresh) t

  abbrev Spread : ℕ → Bool → Tree → ℕ → Type 0
  Spread room up y many = IsSpread (nodes_of (node_of_block c (index_place v.per r))) (upper_of c v) room (made_key m) t up y many

  spread : Spread (root_room (used_of r.attrs) value) level tree more
  spread =
      let raw = plans_spread middle (index_place u.per q) (upper_of middle x) value used t fresh key _ plan more sized_middle k.by.made.entry.laid two.index two.little blocks_more in
      let by_upper = subst (λ (y : List ℕ). IsSpread (nodes_of (node_of_block middle (index_place u.per q))) y (root_room used value) key t (needs_level y (root_room used value) key (seventeen fresh) t) tree more) upper_middle raw in
      let by_nodes = subst (λ (y : ℕ → Option (List Raw)). IsSpread y (upper_of c v) (root_room used value) key t level tree more) nodes_same by_upper in
      spreads_wider (nodes_of (node_of_block c (index_place v.per r))) (upper_of c v) (used_of r.attrs) used value key t level tree more k.least by_nodes

  -- ---- the plan

  low_levels : needs_level (upper_of middle x) (root_room used value) key (seventeen fresh) t ≡ true → levels t < most_levels
  low_levels up = (two.index.one_entry up).0

  MayBe : Outcome → Type 0
  MayBe o = MayBecome (nodes_of (node_of_block c (index_place v.per r))) (upper_of c v) (root_room (used_of r.attrs) value) key r (used_of r.attrs) t (spread_used c v a.number r) o × (own ≡ made_plan c v (new_name path) a.number r (levels t) o)

  may : HasRoom → (b : Bool) → level ≡ b → (o : Outcome) × MayBe o
  unfolding MayBe
  may low false is = (Flat tree more, ((subst (λ (up : Bool). Spread (root_room (used_of r.attrs) value) up tree more) is spread, (λ over rises. (let small = low in absurd (omega (arith, over, small))))), refl))
  may low true is =
      let rises : MayRise c v a.number r value key t = k.level is in
      let few : levels t < most_levels = low_levels (ap (λ (y : List ℕ). needs_level y (root_room used value) key (seventeen fresh) t) upper_middle ∙ is) in
      (Raised rises.flat rises.behind tree more, ((rises.spread, rises.may, few, subst (λ (up : Bool). Spread (root_room (used_of r.attrs) value) up tree more) is spread), refl))

  becomes : HasRoom → (o : Outcome) × MayBe o
  becomes low = may low level refl

  pub is_own : HasRoom → IsMadePlan c v path a own
  unfolding MayBe
  is_own low = record {
    r = r;
    file = making.file_a times_set reads there_is makings c g clusters v s numbers path m directory a r growths u now grown more value used t fresh nodes timed new made;
    value = value;
    root = value_is;
    t = t;
    holds = holds_before;
    key = key;
    is_key = making.key_of_link times_set reads there_is makings c g clusters v s numbers path m directory a r growths u now grown more value used t fresh nodes timed new made;
    outcome = (becomes low).0;
    may = (becomes low).1.0;
    is = (becomes low).1.1;
  }

  pub has_root : HasRootOf value nodes tree
  has_root = making.has_root times_set reads there_is makings c g clusters v s numbers path m directory a r growths u now grown more value used t fresh nodes timed new made

  pub is_plan : HasRoom → IsPlan c v (Create path) 0 own
  is_plan low = making.is_plan times_set reads there_is makings c g clusters v s numbers path m directory a r growths u now grown more value used t fresh nodes timed new made (is_own low)

  pub leaves : growths ≡ own.growths → Leaves
  leaves same = making.leaves times_set reads there_is makings c g clusters v s numbers path m directory a r growths u now grown more value used t fresh nodes timed new made same

  pub stepped : HasRoom → Leaves → Step g clusters (Create path) m.stamp (Created m.file.number m.file.seq) c (drafted new c)
  stepped low left = making.stepped times_set reads there_is makings c g clusters v s numbers path m directory a r growths u now grown more value used t fresh nodes timed new made (is_own low) low left

-- ---- behind an index that has grown

behind_takes : (c : Content) (g : Geometry) (clusters : ℕ) (v : Volume) (s : VolumeStreams) (numbers : Extents) (path : List (List ℕ)) (m : NewFile) (directory a : Node) (r : Record) (growths : List Growth) (u : Volume) (now : Record) (grown : List Touched) (more : ℕ) (value : List ℕ) (used : ℕ) (t : Tree) (fresh : List ℕ) (nodes : NodesPlan) (timed new : List Touched)
    → TakesStepBehind c g clusters v s numbers path m directory a r growths u now grown more value used t fresh nodes timed new → Takes c g clusters v s numbers path m directory a r growths u now grown more value used t fresh nodes timed new
behind_takes c g clusters v s numbers path m directory a r growths u now grown more value used t fresh nodes timed new k = record {
  has = k.has;
  finds = k.finds;
  node = k.node;
  by = k.by;
  index = k.index;
  short = k.short;
  least = k.least;
  taken = k.taken;
  enough = k.little;
  table = k.table;
  level = k.level;
}

pub behind_steps : TimesAreSet → NewFileReads → FoundIsThere → MakingsAreSteps → MadeBehindAreSteps
unfolding behind_takes
behind_steps times_set reads there_is makings c g clusters v s numbers path m directory a r growths u now grown more value used t fresh nodes timed new k =
    let takes : Takes c g clusters v s numbers path m directory a r growths u now grown more value used t fresh nodes timed new = behind_takes c g clusters v s numbers path m directory a r growths u now grown more value used t fresh nodes timed new k in
    let same : growths ≡ (own times_set reads there_is makings c g clusters v s numbers path m directory a r growths u now grown more value used t fresh nodes timed new takes).growths =
    sym (k.comes (tree times_set reads there_is makings c g clusters v s numbers path m directory a r growths u now grown more value used t fresh nodes timed new takes) (has_root times_set reads there_is makings c g clusters v s numbers path m directory a r growths u now grown more value used t fresh nodes timed new takes))
    in
    stepped times_set reads there_is makings c g clusters v s numbers path m directory a r growths u now grown more value used t fresh nodes timed new takes
    (k.room (tree times_set reads there_is makings c g clusters v s numbers path m directory a r growths u now grown more value used t fresh nodes timed new takes) (has_root times_set reads there_is makings c g clusters v s numbers path m directory a r growths u now grown more value used t fresh nodes timed new takes))
    (leaves times_set reads there_is makings c g clusters v s numbers path m directory a r growths u now grown more value used t fresh nodes timed new takes same)

-- ---- behind a draft that touched nothing

-- some number was spare, so the file table stays
pub none_grows : TimesAreSet → NewFileReads → (c : Content) (g : Geometry) (clusters : ℕ) (v : Volume) (s : VolumeStreams) (numbers : Extents) (m : NewFile) (a : Node) (r : Record) (value : List ℕ) (used : ℕ) (t : Tree) (fresh : List ℕ) (nodes : NodesPlan) (timed new : List Touched)
    → MakesFileBy c g clusters v s numbers m a r value used t fresh nodes timed new → grows_table (tree_of c v) ≡ false
unfolding grows_table behind_nothing
none_grows times_set reads c g clusters v s numbers m a r value used t fresh nodes timed new k =
    going.some_left times_set reads c g clusters v s numbers m a r [] v r [] value used t fresh nodes timed new (behind_nothing c g clusters v s numbers m a r value used t fresh nodes timed new [] k tt tt) (room_differs_not c v k.sized)

pub no_table : (c : Content) (v : Volume) → grows_table (tree_of c v) ≡ false → (table_change c v).growths ≡ []
no_table c v stays = ap (λ (b : Bool). (table_in b (cluster_bits c v) v (file_in v table_file)).growths) stays

pub none_used : (c : Content) (v : Volume) → grows_table (tree_of c v) ≡ false → full_row (table_used c v) ≡ None
none_used c v stays = ap (λ (b : Bool). full_row (used_if b (used_in (file_in v table_file) (table_change c v)))) stays

file_takes : TimesAreSet → NewFileReads → (c : Content) (g : Geometry) (clusters : ℕ) (v : Volume) (s : VolumeStreams) (numbers : Extents) (path : List (List ℕ)) (m : NewFile) (directory a : Node) (r : Record) (value : List ℕ) (t : Tree) (fresh : List ℕ) (nodes : NodesPlan) (timed new : List Touched)
    → TakesStep c g clusters v s numbers path m directory a r value t fresh nodes timed new → Takes c g clusters v s numbers path m directory a r [] v r [] 0 value (used_of r.attrs) t fresh nodes timed new
file_takes times_set reads c g clusters v s numbers path m directory a r value t fresh nodes timed new k = record {
  has = k.has;
  finds = k.finds;
  node = k.node;
  by = behind_nothing c g clusters v s numbers m a r value (used_of r.attrs) t fresh nodes timed new [] k.by tt tt;
  index = index_stays c v r k.by.sized;
  short = k.short;
  least = omega arith;
  taken = omega arith;
  enough = omega arith;
  table = none_used c v (none_grows times_set reads c g clusters v s numbers m a r value (used_of r.attrs) t fresh nodes timed new k.by);
  level = λ up. absurd (both_ways _ k.flat up);
}

pub file_steps : TimesAreSet → NewFileReads → FoundIsThere → MakingsAreSteps → MadeFilesAreSteps
unfolding file_takes behind_nothing
file_steps times_set reads there_is makings c g clusters v s numbers path m directory a r value t fresh nodes timed new k =
    let takes : Takes c g clusters v s numbers path m directory a r [] v r [] 0 value (used_of r.attrs) t fresh nodes timed new = file_takes times_set reads c g clusters v s numbers path m directory a r value t fresh nodes timed new k in
    let root = has_root times_set reads there_is makings c g clusters v s numbers path m directory a r [] v r [] 0 value (used_of r.attrs) t fresh nodes timed new takes in
    let low = k.room (tree times_set reads there_is makings c g clusters v s numbers path m directory a r [] v r [] 0 value (used_of r.attrs) t fresh nodes timed new takes) root in
    let plan : Plan = own times_set reads there_is makings c g clusters v s numbers path m directory a r [] v r [] 0 value (used_of r.attrs) t fresh nodes timed new takes in
    let placed : AllPlaced (cluster_bits c v) plan.growths = plans_placed c v (Create path) 0 plan (is_plan times_set reads there_is makings c g clusters v s numbers path m directory a r [] v r [] 0 value (used_of r.attrs) t fresh nodes timed new takes low) in
    let stay : AllByRecursion (StaysGrown v m.parent.number) plan.growths =
    subst (λ (l : List Growth). AllByRecursion (StaysGrown v m.parent.number) (l ++ (spread_comes c v a.number r (tree times_set reads there_is makings c g clusters v s numbers path m directory a r [] v r [] 0 value (used_of r.attrs) t fresh nodes timed new takes) 0).growths))
    (sym (no_table c v (none_grows times_set reads c g clusters v s numbers m a r value (used_of r.attrs) t fresh nodes timed new k.by))) (k.stay (tree times_set reads there_is makings c g clusters v s numbers path m directory a r [] v r [] 0 value (used_of r.attrs) t fresh nodes timed new takes) root)
    in
    stepped times_set reads there_is makings c g clusters v s numbers path m directory a r [] v r [] 0 value (used_of r.attrs) t fresh nodes timed new takes low (file_leaves times_set reads c g clusters v s numbers m a r value (used_of r.attrs) t fresh nodes timed new plan.growths k.by placed stay)
