-- The runs of a draft's call are those of a step.
use Rattle.std.proofs.Common.{◌≡◌, ℕ, ◌+◌, ◌-◌, ◌*◌, ◌/◌, ◌≤◌, Bool, true, false, cond, List, [], ◌∷◌, Option, Some, None, refl, sym, ap, ap₂, ◌∙◌, arith}
use Rattle.std.specs.Prelude.{◌==◌, not, count_by}
use Rattle.record_model.specs.declared.runs.Run.{Run}
use Rattle.record_model.specs.Records.{Record}
use Rattle.index_model.specs.Trees.{Tree}
use Rattle.space_model.specs.Choosing.{chosen, with_runs}
use Rattle.state_model.specs.declared.stream.Extents.{Extents}
use Rattle.state_model.specs.declared.stream.Stream.{Stream}
use Rattle.state_model.specs.declared.stream.Stream.TheVariants.{Held, Placed}
use Rattle.state_model.specs.Loads.{total_clusters}
use Rattle.stream_laws.specs.Sharing.{runs_in}
use Rattle.stream_runs.specs.Runs.{last_cluster}
use Rattle.volume_model.specs.Indexes.{index_stream}
use Rattle.volume_model.specs.Nodes.{clusters_or}
use Rattle.volume_model.specs.Volumes.{cluster_bits, file_in, size_or, table_file}
use Rattle.resized_streams.specs.Resizing.{clusters_for}
use Rattle.resized_streams.proofs.Chosen.{total_chosen}
use Rattle.draft_indexes.specs.declared.blocks.IndexBlocks.{IndexBlocks}
use Rattle.draft_indexes.specs.Growing.{size_with, wanted_clusters}
use Rattle.plan_blocks.specs.Blocks.{blocks_before}
use Rattle.plan_blocks.proofs.Handing.{runs_are}
use Rattle.index_edits.specs.Grown.{index_runs}
use Rattle.made_trees.specs.step_model.Placing.{Growth, more_of, taken_runs}
use Rattle.made_trees.specs.step_model.Streams.{Changed, blocks_key, blocks_size, in_clusters, index_comes, no_change, stream_in, used_behind, wanted_blocks, with_own}
use Rattle.made_trees.specs.step_model.Plans.{bits_left, table_change, table_in}
use Rattle.grown_indexes.specs.First.{growths_by}
use Rattle.grown_indexes.specs.Steps.{CountsAmongAll, PutsAmong, PutsAsCounted}
use Rattle.grown_indexes.proofs.Counted.{first_by, counts_growths}

own_total : (o : Option Stream) → clusters_or o ≡ total_clusters (runs_in o)
own_total None = refl
own_total (Some (Held value)) = refl
own_total (Some (Placed e)) = refl

nothing_left : (bits : List Bool) (growths : List Growth) → growths ≡ [] → with_runs (taken_runs growths) bits ≡ bits
unfolding with_runs
nothing_left bits [] is = refl
nothing_left bits (x ∷ growths) is = absurd cc

pub among_all : CountsAmongAll
among_all c v n r t more spare =
    let none : (table_change c v).growths ≡ [] = ap (λ (b : Bool). (table_in b (cluster_bits c v) v (file_in v table_file)).growths) spare in
    let all : bits_left c v ≡ cluster_bits c v = nothing_left (cluster_bits c v) (table_change c v).growths none in
    ap (λ (l : List Bool). index_comes l n r t more) all

-- the first growth of an index that takes blocks is that of its blocks
first_is : (bits : List Bool) (n : ℕ) (r : Record) (t : Tree) (more : ℕ) (x y : Growth) → (index_comes bits n r t more).growths ≡ x ∷ y ∷ [] → (in_clusters bits r (wanted_blocks n r more)).growth ≡ x
unfolding index_comes
first_is bits n r t more x y is = by (blocks_size n r more == 0) is
  where
    by : (b : Bool) → (cond b (with_own r t no_change) (with_own r t (used_behind bits n r t more (in_clusters bits r (wanted_blocks n r more))))).growths ≡ x ∷ y ∷ [] → (in_clusters bits r (wanted_blocks n r more)).growth ≡ x
    by true same = absurd cc
    by false same = ap (first_by x) same

module _ (bits : List Bool) (per : ℕ) (r : Record) (i : IndexBlocks) (more : ℕ) (t : Tree) (x y : Growth) (eight : per ≡ 8) (before : blocks_before r ≡ i.extents) (size : size_or (index_stream r) ≡ i.extents.real) (enough : wanted_clusters per more i.extents ≤ count_by not bits)
    (growths : (index_comes bits i.number r t more).growths ≡ x ∷ y ∷ []) where
  abbrev n : ℕ
  n = i.number

  abbrev e : Extents
  e = i.extents

  abbrev wanted : ℕ
  wanted = wanted_clusters per more i.extents

  abbrev own : Growth
  own = (in_clusters bits r (wanted_blocks n r more)).growth

  own_is : own ≡ x
  own_is = first_is bits n r t more x y growths

  old_is : runs_in (stream_in r (blocks_key n)) ≡ e.runs
  unfolding index_stream
  old_is = runs_are (index_stream r) ∙ ap (λ (z : Extents). z.runs) before

  size_is : blocks_size n r more ≡ size_with more e
  unfolding index_stream
  size_is = ap (λ (z : ℕ). z + 4096 * more) size

  wanted_is : more_of own ≡ wanted
  unfolding in_clusters
  wanted_is =
      let total = own_total (stream_in r (blocks_key n)) in
      let same = ap total_clusters old_is in
      let sized = size_is in
      let lacks : wanted ≡ (size_with more e + 4095) / 4096 - total_clusters e.runs = ap (λ (p : ℕ). clusters_for p (size_with more e) - total_clusters e.runs) eight in
      omega (arith, total, same, sized, lacks)

  runs_same : x.runs ≡ index_runs per bits more i
  unfolding in_clusters
  runs_same = ap (λ (g : Growth). g.runs) (sym own_is) ∙ ap₂ (λ (l : List Run) (k : ℕ). chosen bits (last_cluster l) k) old_is wanted_is

  count : total_clusters x.runs ≡ more_of x
  count = ap total_clusters runs_same ∙ total_chosen bits (last_cluster e.runs) wanted enough ∙ sym wanted_is ∙ ap more_of own_is

  pub among_bits : y.stands ≡ true → (index_comes bits n r t more).growths ≡ growths_by n r (index_runs per bits more i)
  among_bits stands = counts_growths bits n r t more x y growths stands count ∙ ap (growths_by n r) runs_same

pub puts_among : PutsAmong
puts_among bits per r i more t x y eight streams size enough growths stands = among_bits bits per r i more t x y eight streams.before size enough growths stands

pub puts_as_counted : PutsAsCounted
puts_as_counted c v r i more t x y eight streams size spare enough growths stands =
    ap (λ (x : Changed). x.growths) (among_all c v i.number r t more spare) ∙ among_bits (cluster_bits c v) v.per r i more t x y eight streams.before size enough growths stands
