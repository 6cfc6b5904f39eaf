-- The clusters that a file's data takes, as a step counts them.
use Rattle.std.proofs.Common.{◌≡◌, ℕ, ◌+◌, ◌*◌, ◌<◌, ◌≤◌, max, Bool, true, false, cond, eqb, ltb, List, [], ◌∷◌, length, Option, Some, None, refl, ap, ◌∙◌, inl, inr, arith}
use Rattle.std.specs.Prelude.{not, count_by}
use Rattle.std.proofs.lemmas.Bool.{cases_lt, both_ways, ltb-true, ltb-false, eq-eqb}
use Rattle.disk_model.specs.declared.block.BlockKind.{BlockKind}
use Rattle.disk_model.specs.Content.{Content}
use Rattle.bit_set.proofs.Views.{length-bits_of_bytes}
use Rattle.written_values.specs.volume_model.Volumes.{Volume, cluster_bits, cluster_bitmap, bytes_or}
use Rattle.record_model.specs.declared.runs.Run.{Run}
use Rattle.file_tree.specs.declared.node.Node.{Node}
use Rattle.state_model.specs.Loads.{total_clusters}
use Rattle.space_model.specs.Choosing.{chosen}
use Rattle.space_model.specs.Laws.{clusters_of}
use Rattle.space_model.proofs.Lawful.{chosen_are_free}
use Rattle.tree_model.specs.declared.script.Op.{Op}
use Rattle.tree_model.specs.declared.script.Op.TheVariants as op
use Rattle.tree_model.specs.Needs.{size_after, shrinks, changes_file, clusters_for}
use Rattle.tree_model.specs.Effects.{clusters_after}
use Rattle.written_values.specs.plan_changes.Bytes.{GrowsFile}

-- two words for one sum
pub total_same : (runs : List Run) → total_clusters runs ≡ clusters_of runs
total_same [] = refl
total_same (r ∷ runs) = ap (λ (k : ℕ). r.len + k) (total_same runs)

-- so many are chosen as are wanted
pub total_chosen : (bits : List Bool) (last : Option ℕ) (n : ℕ) → n ≤ count_by not bits → total_clusters (chosen bits last n) ≡ n
total_chosen bits last n enough = total_same (chosen bits last n) ∙ chosen_are_free.count bits last n enough

greater : (size old : ℕ) → not (eqb size old) ≡ true → ltb size old ≡ false → old < size
greater size old differ least = (let ge : old ≤ size = ltb-false size old least in elim (cases_lt old size) [
  | inl less ↦ less
  | inr le ↦ absurd (both_ways (not (eqb size old)) (ap not (eq-eqb size old (omega (arith, ge, le)))) differ)
])

-- an operation that changes a file and doesn't cut it lets it grow
pub grows_file : (o : Op) (a : Node) → changes_file o a ≡ true → shrinks o a ≡ false → GrowsFile o a
grows_file (op.Write path offset bytes) a changes longer = tt
grows_file (op.Fill path offset count byte) a changes longer = tt
grows_file (op.Truncate path size) a changes longer = greater size a.size changes longer
grows_file other a changes longer = absurd cc

pub clusters_are : (o : Op) (a : Node) → shrinks o a ≡ false → clusters_after false o a ≡ max a.clusters (clusters_for (size_after o a))
clusters_are o a longer = ap (λ (t : Bool). cond t (clusters_for (size_after o a)) (max a.clusters (clusters_for (size_after o a)))) longer

-- data that is cut is to have no more clusters than had room for it
shrinks_less : (o : Op) (a : Node) → shrinks o a ≡ true → size_after o a < a.size
shrinks_less (op.Truncate path size) a cut = ltb-true size a.size cut
shrinks_less other a cut = absurd cc

pub cut_takes : (o : Op) (a : Node) (total : ℕ) → shrinks o a ≡ true → a.size ≤ total * 4096 → clusters_after false o a ≤ total
cut_takes o a total cut within =
    let is = ap (λ (t : Bool). cond t (clusters_for (size_after o a)) (max a.clusters (clusters_for (size_after o a)))) cut in
    let less = shrinks_less o a cut in
    omega (arith, is, less, within)

-- nothing was given
pub never_given : (kind : BlockKind) → None ≡ Some kind → ⊥
never_given kind given = cc

pub length-cluster_bits : (c : Content) (v : Volume) → length (cluster_bits c v) ≡ v.clusters
unfolding cluster_bits
length-cluster_bits c v = length-bits_of_bytes (bytes_or c v.per (cluster_bitmap v)) v.clusters
