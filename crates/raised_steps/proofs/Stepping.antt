-- What a draft has put of a new file behind a level more of its directory's index is the step of its content.
use Rattle.std.proofs.Common.{◌≡◌, ◌≢◌, ℕ, ◌+◌, ◌-◌, ◌<◌, ◌≤◌, Bool, true, false, List, [], ◌∷◌, length, Option, Some, Result, Ok, refl, sym, ap, subst, ◌∙◌, arith}
use Rattle.disk_model.specs.Content.{Content, HasSizes}
use Rattle.record_model.specs.declared.entry.Entry.{Entry as Raw}
use Rattle.record_model.specs.Nodes.{last_entry, root_at}
use Rattle.record_model.specs.Records.{Record, used_of}
use Rattle.record_model.specs.Values.{is_file_name}
use Rattle.file_tree.specs.declared.node.Node.{Node}
use Rattle.index_model.specs.declared.key.Key.{Key}
use Rattle.index_model.specs.Trees.{Tree, Down, levels, raws_of}
use Rattle.index_model.specs.Indexes.{node_of_block, nodes_of, most_levels}
use Rattle.index_node.proofs.RootSpelled.{root_law}
use Rattle.index_change.proofs.Counting.{once_fewer}
use Rattle.index_change.specs.index_plan.Laws.{Once}
use Rattle.index_change.specs.declared.nodes_plan.NodesPlan.{NodesPlan}
use Rattle.index_change.specs.declared.plan.DirPlan.{DirPlan}
use Rattle.index_change.specs.NodePlans.{NewNodes}
use Rattle.index_change.specs.Plans.{clusters_of, root_room, seventeen, needs_level}
use Rattle.state_model.specs.declared.geometry.Geometry.{Geometry}
use Rattle.state_model.specs.declared.stream.Extents.{Extents}
use Rattle.volume_model.specs.Indexes.{index_place}
use Rattle.volume_model.specs.Volumes.{Volume, upper_of}
use Rattle.tree_model.specs.declared.script.Op.TheVariants.{Create}
use Rattle.tree_model.specs.declared.reply.Reply.TheVariants.{Created}
use Rattle.plan_bodies.proofs.Putting.{sized_with}
use Rattle.plan_draft.specs.declared.touched.Touched.{Touched}
use Rattle.plan_draft.specs.Touching.{bodies_of}
use Rattle.plan_draft.specs.Drafts.{drafted}
use Rattle.made_trees.specs.record_times.Laws.{TimesAreSet}
use Rattle.made_trees.specs.step_model.Plans.{Plan, IsMadePlan}
use Rattle.made_trees.specs.step_model.Placing.{Growth}
use Rattle.made_trees.specs.step_model.Spreads.{blocks_in, IsSpread, Raised}
use Rattle.made_trees.specs.step_model.Steps.{Step}
use Rattle.made_trees.proofs.step_model.Spreading.{plans_spread}
use Rattle.made_trees.specs.change_steps.Found.{FoundIsThere}
use Rattle.made_trees.specs.change_steps.Makings.{MakingsAreSteps}
use Rattle.made_trees.specs.new_files.Laws.{NewFileReads}
use Rattle.made_trees.specs.file_puts.declared.streams.VolumeStreams.{VolumeStreams}
use Rattle.made_trees.specs.file_makes.declared.newfile.NewFile.{NewFile}
use Rattle.made_trees.specs.made_files.Made.{made_key, IsMadeEdit}
use Rattle.made_trees.specs.Created.{timed_directory, timed_volume}
use Rattle.made_trees.specs.Grown.{KeepsIndex}
use Rattle.made_trees.proofs.Going as going
use Rattle.made_steps.proofs.Making.{Makes}
use Rattle.made_steps.proofs.Making as making
use Rattle.made_steps.proofs.Timing.{times_keep_grown}
use Rattle.node_spreads.proofs.Counting.{blocks_counted}
use Rattle.node_spreads.proofs.Raising.{roots_stay, levels_lift}
use Rattle.raised_steps.specs.Steps.{raised_root, HasOneChild, TakesStepRaised, RaisedAreSteps}

same_read : (read : Result (List Raw) ℕ) (x y : List Raw) → read ≡ Ok x → read ≡ Ok y → x ≡ y
same_read read x y one two = cc

module _ (times_set : TimesAreSet) (reads : NewFileReads) (there_is : FoundIsThere) (makings : MakingsAreSteps) (c : Content) (g : Geometry) (clusters : ℕ) (v : Volume) (s : VolumeStreams) (numbers : Extents) (path : List (List ℕ)) (m : NewFile) (directory a : Node) (r : Record) (growths : List Growth) (u : Volume) (now : Record) (grown : List Touched) (more : ℕ) (value : List ℕ) (used : ℕ) (t : Tree) (f : ℕ) (fresh : List ℕ) (nodes : NodesPlan) (timed new : List Touched)
    (k : TakesStepRaised c g clusters v s numbers path m directory a r growths u now grown more value used t f fresh nodes timed new) where
  abbrev middle : Content
  middle = drafted timed c

  abbrev q : Record
  q = timed_directory m.stamp now

  abbrev x : Volume
  x = timed_volume u m now

  abbrev plan : DirPlan
  plan = k.by.made.put.plan

  abbrev key : Key
  key = made_key m

  abbrev made : Makes c g clusters v s numbers path m directory a r growths u now grown (raised_root value f) used (Down f t) fresh nodes timed new
  made = record { has = k.has; finds = k.finds; node = k.node; by = k.by; short = k.short; enough = k.little; table = k.table }

  abbrev two : IsMadeEdit c x s m q (raised_root value f) used (Down f t) fresh k.by.made.put.plan timed new
  two = making.two times_set reads there_is makings c g clusters v s numbers path m directory a r growths u now grown more (raised_root value f) used (Down f t) fresh nodes timed new made

  abbrev tree : Tree
  tree = making.tree times_set reads there_is makings c g clusters v s numbers path m directory a r growths u now grown more (raised_root value f) used (Down f t) fresh nodes timed new made

  abbrev own : Plan
  own = making.own times_set reads there_is makings c g clusters v s numbers path m directory a r growths u now grown more (raised_root value f) used (Down f t) fresh nodes timed new made

  sized_middle : HasSizes middle
  sized_middle = sized_with c (bodies_of timed) k.by.sized

  -- ---- the index with the level

  keeps : KeepsIndex (drafted grown c) u now middle x q
  keeps = times_keep_grown times_set c g clusters v s m.parent.number m.stamp r growths u now grown timed (record {
    sized = k.by.sized;
    eight = k.by.eight;
    before = k.by.before;
    streams = k.by.streams;
    info = k.by.info;
    mirrored_none = k.by.made.directory.mirrored_none;
    kept = k.by.made.kept;
    times = k.by.times;
  })

  upper_middle : upper_of middle x ≡ upper_of c v
  upper_middle = keeps.upper ∙ k.raised.upper

  abbrev before : ℕ → Option (List Raw)
  before = nodes_of (node_of_block c (index_place v.per r))

  abbrev with_level : ℕ → Option (List Raw)
  with_level = nodes_of (node_of_block middle (index_place u.per q))

  child : with_level f ≡ Some (raws_of t)
  child = keeps.nodes f ∙ k.raised.child

  others : (i : ℕ) → i ≢ f → with_level i ≡ before i
  others i other = keeps.nodes i ∙ k.raised.others i other

  once : Once (Down f t) (seventeen fresh)
  once = once_fewer (Down f t) 17 fresh k.by.made.entry.once

  becomes : NewNodes middle (index_place u.per q) (upper_of middle x) (raised_root value f) used key fresh (Down f t) nodes
  becomes = k.by.made.entry.planned.1 (Down f t) k.by.made.entry.holds once

  lawful : is_file_name key.value ≡ true
  lawful = (going.reads_file times_set reads c g clusters v s numbers m a r growths u now grown (raised_root value f) used (Down f t) fresh nodes timed new k.by).key.lawful

  stays : (needs_level (upper_of middle x) (root_room used (raised_root value f)) key (seventeen fresh) (Down f t) ≡ false) × (nodes.root ≡ last_entry (Some f) ∷ [])
  stays = roots_stay middle (index_place u.per q) (upper_of middle x) (raised_root value f) used key fresh f t nodes lawful k.by.made.entry.holds k.loose k.by.made.entry.enough becomes

  -- ---- the index behind

  one_child : HasOneChild f tree
  one_child =
      let laid = k.by.made.put.laid in
      let read : root_at plan.root ≡ Ok nodes.root = ap root_at laid.root ∙ root_law.read (clusters_of (raised_root value f)) nodes.root laid.spelled in
      sym two.holds.is_index.root_is ∙ same_read (root_at plan.root) two.holds.entries nodes.root two.holds.root_read read ∙ stays.1

  blocks : blocks_in tree ≡ blocks_in (Down f t) + length nodes.taken.items
  blocks =
      let come : blocks_in tree + length plan.freed.items ≡ blocks_in (Down f t) + length plan.taken.items = blocks_counted tree (Down f t) plan.freed.items plan.taken.items two.index.numbers in
      let none = ap (λ (l : List ℕ). length l) k.by.made.put.laid.freed in
      let same = ap (λ (l : List ℕ). length l) k.by.made.put.laid.taken in
      omega (arith, come, none, same)

  spread_below : IsSpread with_level (upper_of c v) (root_room used (raised_root value f)) key (Down f t) false tree (length nodes.taken.items)
  spread_below =
      let all : length nodes.taken.items ≤ blocks_in tree - blocks_in (Down f t) = (let count = blocks in omega (arith, count)) in
      let raw = plans_spread middle (index_place u.per q) (upper_of middle x) (raised_root value f) used (Down f t) fresh key _ plan (length nodes.taken.items) sized_middle k.by.made.entry.laid two.index two.little all in
      let flat = subst (λ (b : Bool). IsSpread with_level (upper_of middle x) (root_room used (raised_root value f)) key (Down f t) b tree (length nodes.taken.items)) stays.0 raw in
      subst (λ (y : List ℕ). IsSpread with_level y (root_room used (raised_root value f)) key (Down f t) false tree (length nodes.taken.items)) upper_middle flat

  lifted : IsSpread before (upper_of c v) (root_room (used_of r.attrs) value) key t true tree (1 + length nodes.taken.items)
  lifted = levels_lift before with_level (upper_of c v) (root_room (used_of r.attrs) value) (root_room used (raised_root value f)) key f t tree (length nodes.taken.items) child others k.loose one_child blocks spread_below

  spread : IsSpread before (upper_of c v) (root_room (used_of r.attrs) value) key t true tree more
  spread = record {
    keys = lifted.keys;
    once = lifted.once;
    fit = lifted.fit;
    root = lifted.root;
    height = lifted.height;
    fresh = lifted.fresh;
    behind = (let all = lifted.behind in let some = k.taken in omega (arith, all, some));
  }

  -- ---- the plan

  few : levels t < most_levels
  few = (let high : 1 + levels t ≤ most_levels = k.raised.holds.is_index.height in omega (arith, high))

  planned : IsMadePlan c v path a own
  planned = record {
    r = r;
    file = making.file_a times_set reads there_is makings c g clusters v s numbers path m directory a r growths u now grown more (raised_root value f) used (Down f t) fresh nodes timed new made;
    value = value;
    root = k.root;
    t = t;
    holds = k.holds;
    key = key;
    is_key = making.key_of_link times_set reads there_is makings c g clusters v s numbers path m directory a r growths u now grown more (raised_root value f) used (Down f t) fresh nodes timed new made;
    outcome = Raised k.level.flat k.level.behind tree more;
    may = (k.level.spread, k.level.may, few, spread);
    is = refl;
  }

  pub stepped : Step g clusters (Create path) m.stamp (Created m.file.number m.file.seq) c (drafted new c)
  stepped = making.stepped times_set reads there_is makings c g clusters v s numbers path m directory a r growths u now grown more (raised_root value f) used (Down f t) fresh nodes timed new made planned (k.room tree one_child) (making.leaves times_set reads there_is makings c g clusters v s numbers path m directory a r growths u now grown more (raised_root value f) used (Down f t) fresh nodes timed new made (sym (k.comes tree one_child)))

pub raised_steps : TimesAreSet → NewFileReads → FoundIsThere → MakingsAreSteps → RaisedAreSteps
raised_steps times_set reads there_is makings c g clusters v s numbers path m directory a r growths u q grown more value used t f fresh nodes timed new k =
    stepped times_set reads there_is makings c g clusters v s numbers path m directory a r growths u q grown more value used t f fresh nodes timed new k
