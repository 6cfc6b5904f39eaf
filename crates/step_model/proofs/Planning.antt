-- The streams of a plan take the clusters that are chosen for them.
use Rattle.std.proofs.Common.{◌≡◌, ℕ, Bool, true, false, cond, List, [], ◌∷◌, ◌++◌, Option, Some, None, Result, Ok, Err, refl, sym, subst}
use Rattle.std.specs.Prelude.{◌==◌, nat_lt}
use Rattle.record_writer.specs.disk_model.Content.{Content}
use Rattle.plan_model.specs.record_model.declared.attribute.Attr.{Attr}
use Rattle.plan_model.specs.record_model.declared.runs.Run.{Run}
use Rattle.plan_model.specs.record_model.Records.{Record}
use Rattle.plan_model.specs.file_tree.declared.node.Node.{Node}
use Rattle.plan_model.specs.file_tree.declared.journal.Journal.{Journal}
use Rattle.plan_model.specs.index_model.Trees.{Tree, levels}
use Rattle.space_model.specs.Choosing.{chosen, chosen_anywhere, with_runs, with_clusters}
use Rattle.plan_model.specs.volume_model.Volumes.{Volume, file_in, table_file, cluster_bits, upper_of}
use Rattle.plan_model.specs.volume_state.Trees.{tree_of}
use Rattle.plan_model.specs.tree_laws.Parts.{journal_number}
use Rattle.run_model.specs.tree_model.declared.script.Op.{Op}
use Rattle.run_model.specs.tree_model.declared.script.Op.TheVariants as op
use Rattle.run_model.specs.tree_model.declared.reply.Reply.{Reply}
use Rattle.run_model.specs.tree_model.Walks.{reached, reached_directory}
use Rattle.run_model.specs.tree_model.Needs.{changes_file}
use Rattle.run_model.specs.tree_model.Refusals.{parent_path, new_name}
use Rattle.stream_runs.specs.Runs.{last_cluster}
use Rattle.step_model.specs.Placing.{Growth, more_of, AllPlaced, taken_runs}
use Rattle.step_model.specs.Used.{used_after, value_attr, stays_in}
use Rattle.step_model.specs.Streams.{Wanted, stream_in, attr_in, as_value, in_clusters, comes, data_comes, wanted_data, is_value_cut, wanted_bits, wanted_table, table_comes, wanted_blocks, wanted_used, own_comes, used_behind, with_own, no_change, one_change, blocks_size, index_comes, wanted_entries, entries_come}
use Rattle.step_model.specs.Spreads.{Outcome, Flat, Raised, TooDeep}
use Rattle.step_model.specs.Plans.{Plan, no_plan, number_or, journal_comes, with_journal, data_in, change_plan, table_in, grows_table, table_change, bits_left, spread_comes, made_plan, IsMadePlan, AtNode, change_or_none, IsOwnPlan}
use Rattle.step_model.specs.PlanLaws.{PlansPlaced}

-- ---- one behind the other

with_runs_both : (runs others : List Run) (bits : List Bool) → with_runs (runs ++ others) bits ≡ with_runs others (with_runs runs bits)
unfolding with_runs
with_runs_both [] others bits = refl
with_runs_both (r ∷ runs) others bits = with_runs_both runs others (with_clusters r.lcn r.len bits)

both_placed : (bits : List Bool) (growths others : List Growth) → AllPlaced bits growths → AllPlaced (with_runs (taken_runs growths) bits) others → AllPlaced bits (growths ++ others)
unfolding with_runs
both_placed bits [] others placed then = then
both_placed bits (g ∷ growths) others placed then =
    (placed.0, both_placed (with_runs g.runs bits) growths others placed.1 (subst (λ b. AllPlaced b others) (with_runs_both g.runs (taken_runs growths) bits) then))

-- ---- one stream

IsPlaced : List Bool → Growth → Type 0
IsPlaced bits g = g.runs ≡ chosen bits (last_cluster g.old) (more_of g)

in_clusters_placed : (bits : List Bool) (r : Record) (w : Wanted) → IsPlaced bits (in_clusters bits r w).growth
unfolding IsPlaced in_clusters
in_clusters_placed bits r w = refl

none_chosen : (bits : List Bool) → [] ≡ chosen bits None 0
unfolding chosen chosen_anywhere
none_chosen bits = refl

comes_placed_by : (bits : List Bool) (r : Record) (w : Wanted) (b : Bool) → IsPlaced bits (cond b (as_value r w) (in_clusters bits r w)).growth
unfolding IsPlaced
comes_placed_by bits r w true = none_chosen bits
comes_placed_by bits r w false = in_clusters_placed bits r w

comes_placed : (bits : List Bool) (r : Record) (others : List Attr) (w : Wanted) → IsPlaced bits (comes bits r others w).growth
unfolding comes
comes_placed bits r others w = comes_placed_by bits r w (stays_in (stream_in r w.stream) w.real (used_after (value_attr w.real (attr_in r w.stream) ∷ others) r))

-- ---- streams of one record

two_placed : (bits : List Bool) (a b : Growth) → IsPlaced bits a → IsPlaced (with_runs a.runs bits) b → AllPlaced bits (a ∷ b ∷ [])
unfolding IsPlaced
two_placed bits a b first second = (first, (second, tt))

one_placed : (bits : List Bool) (a : Growth) → IsPlaced bits a → AllPlaced bits (a ∷ [])
unfolding IsPlaced
one_placed bits a first = (first, tt)

data_placed_by : (bits : List Bool) (r : Record) (w : Wanted) (b : Bool) → IsPlaced bits (cond b (as_value r w) (comes bits r [] w)).growth
unfolding IsPlaced
data_placed_by bits r w true = none_chosen bits
data_placed_by bits r w false = comes_placed bits r [] w

data_placed : (bits : List Bool) (file : Option Record) (o : Op) (node : Node) → AllPlaced bits (data_in bits file o node).growths
unfolding data_comes
data_placed bits None o node = tt
data_placed bits (Some r) o node = one_placed bits (data_comes bits r o node).growth (data_placed_by bits r (wanted_data o node) (is_value_cut r o node))

table_placed : (bits : List Bool) (v : Volume) (r : Record) → AllPlaced bits (table_comes bits v r).growths
unfolding table_comes
table_placed bits v r =
    let table = in_clusters bits r (wanted_table v) in
    two_placed bits table.growth (comes (with_runs table.growth.runs bits) r table.attrs (wanted_bits v)).growth (in_clusters_placed bits r (wanted_table v)) (comes_placed (with_runs table.growth.runs bits) r table.attrs (wanted_bits v))

table_in_placed : (b : Bool) (bits : List Bool) (v : Volume) (file : Option Record) → AllPlaced bits (table_in b bits v file).growths
table_in_placed true bits v (Some r) = table_placed bits v r
table_in_placed true bits v None = tt
table_in_placed false bits v file = tt

index_placed_by : (b : Bool) (bits : List Bool) (n : ℕ) (r : Record) (t : Tree) (more : ℕ) → AllPlaced bits (cond b (with_own r t no_change) (with_own r t (used_behind bits n r t more (in_clusters bits r (wanted_blocks n r more))))).growths
index_placed_by true bits n r t more = tt
index_placed_by false bits n r t more =
    let blocks = in_clusters bits r (wanted_blocks n r more) in
    two_placed bits blocks.growth (comes (with_runs blocks.growth.runs bits) r (blocks.attrs ++ own_comes r t) (wanted_used n r more)).growth (in_clusters_placed bits r (wanted_blocks n r more)) (comes_placed (with_runs blocks.growth.runs bits) r (blocks.attrs ++ own_comes r t) (wanted_used n r more))

index_placed : (bits : List Bool) (n : ℕ) (r : Record) (t : Tree) (more : ℕ) → AllPlaced bits (index_comes bits n r t more).growths
unfolding index_comes
index_placed bits n r t more = index_placed_by (blocks_size n r more == 0) bits n r t more

entries_placed_by : (b : Bool) (bits : List Bool) (n : ℕ) (r : Record) (j : Journal) (end : ℕ) → AllPlaced bits (cond b (one_change (in_clusters bits r (wanted_entries n r j end))) no_change).growths
entries_placed_by true bits n r j end = one_placed bits (in_clusters bits r (wanted_entries n r j end)).growth (in_clusters_placed bits r (wanted_entries n r j end))
entries_placed_by false bits n r j end = tt

journal_placed : (bits : List Bool) (n : ℕ) (file : Option Record) (journal : Option Journal) (end : ℕ) → AllPlaced bits (journal_comes bits n file journal end).growths
unfolding entries_come
journal_placed bits n None journal end = tt
journal_placed bits n (Some r) None end = tt
journal_placed bits n (Some r) (Some j) end = entries_placed_by (nat_lt j.reach end) bits n r j end

-- ---- plans

no_plan_placed : (bits : List Bool) (p : Plan) → p ≡ no_plan → AllPlaced bits p.growths
no_plan_placed bits p is = subst (λ (q : Plan). AllPlaced bits q.growths) (sym is) tt

change_placed : (b : Bool) (c : Content) (v : Volume) (o : Op) (node : Node) → AllPlaced (cluster_bits c v) (change_or_none b c v o node).growths
unfolding change_plan
change_placed true c v o node = data_placed (cluster_bits c v) (file_in v node.number) o node
change_placed false c v o node = tt

change_plan_placed : (walked : Result Node Reply) (c : Content) (v : Volume) (o : Op) (p : Plan) → AtNode walked (λ node. p ≡ change_or_none (changes_file o node) c v o node) (p ≡ no_plan) → AllPlaced (cluster_bits c v) p.growths
change_plan_placed (Ok node) c v o p is = subst (λ (q : Plan). AllPlaced (cluster_bits c v) q.growths) (sym is) (change_placed (changes_file o node) c v o node)
change_plan_placed (Err row) c v o p is = no_plan_placed (cluster_bits c v) p is

table_change_placed : (c : Content) (v : Volume) → AllPlaced (cluster_bits c v) (table_change c v).growths
table_change_placed c v = table_in_placed (grows_table (tree_of c v)) (cluster_bits c v) v (file_in v table_file)

spread_placed : (c : Content) (v : Volume) (directory : ℕ) (r : Record) (s : Tree) (more : ℕ) → AllPlaced (cluster_bits c v) ((table_change c v).growths ++ (spread_comes c v directory r s more).growths)
spread_placed c v directory r s more = both_placed (cluster_bits c v) (table_change c v).growths (spread_comes c v directory r s more).growths (table_change_placed c v) (index_placed (bits_left c v) directory r s more)

made_placed : (c : Content) (v : Volume) (name : List ℕ) (directory : ℕ) (r : Record) (height : ℕ) (outcome : Outcome) → AllPlaced (cluster_bits c v) (made_plan c v name directory r height outcome).growths
made_placed c v name directory r height (Flat s more) = spread_placed c v directory r s more
made_placed c v name directory r height (Raised s more u further) = spread_placed c v directory r u further
made_placed c v name directory r height (TooDeep s more) = table_change_placed c v

made_plan_placed : (walked : Result Node Reply) (c : Content) (v : Volume) (path : List (List ℕ)) (p : Plan) → AtNode walked (λ directory. IsMadePlan c v path directory p) (p ≡ no_plan) → AllPlaced (cluster_bits c v) p.growths
made_plan_placed (Ok directory) c v path p plan = subst (λ (q : Plan). AllPlaced (cluster_bits c v) q.growths) (sym plan.is) (made_placed c v (new_name path) directory.number plan.r (levels plan.t) plan.outcome)
made_plan_placed (Err row) c v path p is = no_plan_placed (cluster_bits c v) p is

own_placed : (c : Content) (v : Volume) (o : Op) (p : Plan) → IsOwnPlan c v o p → AllPlaced (cluster_bits c v) p.growths
own_placed c v (op.Create path) p is = made_plan_placed (reached_directory (upper_of c v) (tree_of c v).nodes (tree_of c v).links (parent_path path)) c v path p is
own_placed c v (op.Write path offset bytes) p is = change_plan_placed (reached (upper_of c v) (tree_of c v).nodes (tree_of c v).links path) c v (op.Write path offset bytes) p is
own_placed c v (op.Fill path offset count byte) p is = change_plan_placed (reached (upper_of c v) (tree_of c v).nodes (tree_of c v).links path) c v (op.Fill path offset count byte) p is
own_placed c v (op.Truncate path size) p is = change_plan_placed (reached (upper_of c v) (tree_of c v).nodes (tree_of c v).links path) c v (op.Truncate path size) p is
own_placed c v other p is = no_plan_placed (cluster_bits c v) p is

with_journal_placed : (c : Content) (v : Volume) (end : ℕ) (p : Plan) → AllPlaced (cluster_bits c v) p.growths → AllPlaced (cluster_bits c v) (with_journal c v end p).growths
unfolding with_journal
with_journal_placed c v end p placed =
    let n = number_or (journal_number (upper_of c v) v) in
    let bits = with_runs (taken_runs p.growths) (cluster_bits c v) in
    both_placed (cluster_bits c v) p.growths (journal_comes bits n (file_in v n) (tree_of c v).journal end).growths placed (journal_placed bits n (file_in v n) (tree_of c v).journal end)

pub plans_placed : PlansPlaced
plans_placed c v o end p plan = subst (λ (q : Plan). AllPlaced (cluster_bits c v) q.growths) (sym plan.is) (with_journal_placed c v end plan.own (own_placed c v o plan.own plan.is_own))
