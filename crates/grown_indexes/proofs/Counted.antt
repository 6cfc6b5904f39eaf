-- The growths of a step, by runs.
use Rattle.std.proofs.Common.{◌≡◌, ℕ, ◌+◌, ◌-◌, max, Bool, true, false, cond, List, [], ◌∷◌, ◌++◌, Option, Some, None, refl, sym, ap, ap₂, ◌∙◌, arith}
use Rattle.std.specs.Prelude.{◌==◌}
use Rattle.record_model.specs.declared.attribute.Attr.{Attr}
use Rattle.record_model.specs.declared.runs.Run.{Run}
use Rattle.record_model.specs.Records.{Record}
use Rattle.index_model.specs.Trees.{Tree}
use Rattle.space_model.specs.Choosing.{with_runs}
use Rattle.state_model.specs.declared.stream.Stream.{Stream}
use Rattle.state_model.specs.declared.stream.Stream.TheVariants.{Held, Placed}
use Rattle.state_model.specs.Loads.{total_clusters}
use Rattle.stream_laws.specs.Sharing.{runs_in}
use Rattle.volume_model.specs.Indexes.{index_stream}
use Rattle.volume_model.specs.Nodes.{clusters_or}
use Rattle.plan_blocks.specs.Blocks.{blocks_before}
use Rattle.plan_blocks.proofs.Handing.{runs_are}
use Rattle.made_trees.specs.step_model.tree_model.Needs.{clusters_for}
use Rattle.made_trees.specs.step_model.Placing.{Growth, more_of}
use Rattle.made_trees.specs.step_model.Used.{used_after, value_attr, stays_in}
use Rattle.made_trees.specs.step_model.Streams.{Comes, Wanted, attr_in, stream_in, as_value, blocks_key, blocks_size, comes, in_clusters, in_record, index_comes, no_change, own_comes, used_behind, wanted_blocks, wanted_used, with_own}
use Rattle.grown_indexes.specs.First.{blocks_by, growths_by}
use Rattle.grown_indexes.specs.Counted.{CountsGrowths}

-- a stream that stands in the record takes nothing
value_by : (b : Bool) (bits : List Bool) (r : Record) (w : Wanted) → (cond b (as_value r w) (in_clusters bits r w)).growth.stands ≡ true → (cond b (as_value r w) (in_clusters bits r w)).growth ≡ in_record w.stream
unfolding in_clusters
value_by true bits r w stands = refl
value_by false bits r w stands = absurd cc

value_is : (bits : List Bool) (r : Record) (others : List Attr) (w : Wanted) → (comes bits r others w).growth.stands ≡ true → (comes bits r others w).growth ≡ in_record w.stream
unfolding comes
value_is bits r others w stands = value_by (stays_in (stream_in r w.stream) w.real (used_after (value_attr w.real (attr_in r w.stream) ∷ others) r)) bits r w stands

-- a stream has at least its clusters
own_clusters : (o : Option Stream) (wanted : ℕ) → max (clusters_or o) wanted ≡ total_clusters (runs_in o) + (max (clusters_or o) wanted - total_clusters (runs_in o))
own_clusters None wanted = omega arith
own_clusters (Some (Held value)) wanted = omega arith
own_clusters (Some (Placed e)) wanted = omega arith

abbrev pub first_by : Growth → List Growth → Growth
first_by x [] = x
first_by x (y ∷ l) = y

abbrev second_by : Growth → List Growth → Growth
second_by x [] = x
second_by x (y ∷ l) = first_by x l

module _ (bits : List Bool) (n : ℕ) (r : Record) (t : Tree) (more : ℕ) (x y : Growth) (stands : y.stands ≡ true) (count : total_clusters x.runs ≡ more_of x) where
  abbrev blocks : Comes
  blocks = in_clusters bits r (wanted_blocks n r more)

  abbrev bitmap : Comes
  bitmap = comes (with_runs (in_clusters bits r (wanted_blocks n r more)).growth.runs bits) r ((in_clusters bits r (wanted_blocks n r more)).attrs ++ own_comes r t) (wanted_used n r more)

  old_is : runs_in (stream_in r (blocks_key n)) ≡ (blocks_before r).runs
  unfolding index_stream
  old_is = runs_are (index_stream r)

  grows : blocks.growth ≡ x → blocks.growth ≡ blocks_by n r x.runs
  unfolding in_clusters
  grows is =
      let runs : blocks.growth.runs ≡ x.runs = ap (λ (g : Growth). g.runs) is in
      let wanted : total_clusters x.runs ≡ blocks.growth.clusters - total_clusters blocks.growth.old = count ∙ ap more_of (sym is) in
      let all = own_clusters (stream_in r (blocks_key n)) (clusters_for (blocks_size n r more)) in
      let clusters : blocks.growth.clusters ≡ total_clusters (runs_in (stream_in r (blocks_key n))) + total_clusters x.runs = omega (arith, all, wanted) in
      ap₂ (λ (c : ℕ) (l : List Run). let g : Growth = record { stream = blocks_key n; old = runs_in (stream_in r (blocks_key n)); clusters = c; runs = l; stands = false } in g) clusters runs
      ∙ ap (λ (l : List Run). let g : Growth = record { stream = blocks_key n; old = l; clusters = total_clusters l + total_clusters x.runs; runs = x.runs; stands = false } in g) old_is

  both : (b : Bool) → (cond b (with_own r t no_change) (with_own r t (used_behind bits n r t more blocks))).growths ≡ x ∷ y ∷ [] → (cond b (with_own r t no_change) (with_own r t (used_behind bits n r t more blocks))).growths ≡ growths_by n r x.runs
  both true is = absurd cc
  both false is =
      let one : blocks.growth ≡ x = ap (first_by x) is in
      let two : bitmap.growth ≡ y = ap (second_by y) is in
      ap₂ (λ (g h : Growth). g ∷ h ∷ []) (grows one) (value_is (with_runs blocks.growth.runs bits) r (blocks.attrs ++ own_comes r t) (wanted_used n r more) (ap (λ (g : Growth). g.stands) two ∙ stands))

  pub growths_are : (index_comes bits n r t more).growths ≡ x ∷ y ∷ [] → (index_comes bits n r t more).growths ≡ growths_by n r x.runs
  unfolding index_comes
  growths_are is = both (blocks_size n r more == 0) is

pub counts_growths : CountsGrowths
counts_growths bits n r t more x y is stands count = growths_are bits n r t more x y stands count is
