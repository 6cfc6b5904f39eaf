-- What a step says of the clusters of a file's data.
use Rattle.std.proofs.Common.{◌≡◌, ℕ, ◌<◌, ◌≤◌, min, max, Bool, true, false, cond, List, [], Option, Some, None, refl, sym, ap, subst, ◌∙◌, inl, inr, arith}
use Rattle.std.proofs.lemmas.Bool.{both_ways, cases_Bool, cases_lt}
use Rattle.record_model.specs.Records.{Record}
use Rattle.file_tree.specs.declared.node.Node.{Node}
use Rattle.change_steps.specs.state_model.declared.stream.Extents.{Extents}
use Rattle.change_steps.specs.state_model.declared.stream.Stream.{Stream}
use Rattle.change_steps.specs.state_model.declared.stream.Stream.TheVariants.{Held, Placed}
use Rattle.change_steps.specs.state_model.Loads.{total_clusters}
use Rattle.change_steps.specs.stream_laws.Sharing.{runs_in}
use Rattle.change_steps.specs.stream_runs.Runs.{front, last_cluster}
use Rattle.change_steps.proofs.stream_runs.Merging.{total-merged}
use Rattle.change_steps.proofs.stream_runs.Parts.{total-front}
use Rattle.change_steps.specs.space_model.Choosing.{chosen}
use Rattle.tree_model.specs.declared.script.Op.{Op}
use Rattle.tree_model.specs.Needs.{size_after, shrinks, clusters_for}
use Rattle.tree_model.specs.Effects.{clusters_after}
use Rattle.change_steps.specs.step_model.Placing.{Growth, more_of, runs_after}
use Rattle.change_steps.specs.step_model.Used.{is_in_record}
use Rattle.change_steps.specs.step_model.Streams.{Comes, in_record, placed_among, data_of, wanted_data}
use Rattle.change_steps.specs.data_plan.Changes.{data_in, growth_of}
use Rattle.change_steps.proofs.data_plan.Cases.{StaysIn, comes_by, stays_held, clusters_by, placed_comes, chosen_none, runs_cut, runs_same}

-- ---- all growths

-- what is said of the stream, of its clusters of before, and of those that it takes
pub record IsOf (bits : List Bool) (r : Record) (a : Node) (g : Growth) : Type 0 where
  pub stream : g.stream ≡ data_of a.number
  pub old : g.old ≡ runs_in (data_in r)
  pub placed : g.runs ≡ chosen bits (last_cluster g.old) (more_of g)

no_runs : (o : Option Stream) → is_in_record o ≡ true → runs_in o ≡ []
no_runs None is = refl
no_runs (Some (Held value)) is = refl
no_runs (Some (Placed e)) is = absurd cc

pub growth_is : (bits : List Bool) (r : Record) (op : Op) (a : Node) → IsOf bits r a (growth_of bits r op a)
growth_is bits r op a = elim (cases_Bool (StaysIn r op a)) [
  | inl stays ↦
      subst (λ (x : Comes). IsOf bits r a x.growth) (sym (comes_by bits r op a true stays))
      (record { stream = refl; old = sym (no_runs (data_in r) (stays_held r op a stays)); placed = sym (chosen_none bits None 0 refl) })
  | inr leaves ↦ subst (λ (x : Comes). IsOf bits r a x.growth) (sym (clusters_by bits r op a (data_in r) leaves refl)) (record { stream = refl; old = refl; placed = refl })
]

-- ---- data that stays in its record

pub stays_none : (bits : List Bool) (r : Record) (op : Op) (a : Node) → (growth_of bits r op a).stands ≡ true → runs_after (growth_of bits r op a) ≡ []
stays_none bits r op a stands = elim (cases_Bool (StaysIn r op a)) [
  | inl stays ↦ ap (λ (x : Comes). runs_after x.growth) (comes_by bits r op a true stays) ∙ runs_same (in_record (data_of a.number)) refl
  | inr leaves ↦ absurd (both_ways (growth_of bits r op a).stands (ap (λ (x : Comes). x.growth.stands) (clusters_by bits r op a (data_in r) leaves refl)) stands)
]

-- ---- data that is shorter in its clusters

shorter_clusters : (size real total : ℕ) → size < real → clusters_for real ≤ total → clusters_for size ≤ total
shorter_clusters size real total less enough = omega (arith, less, enough)

wants : (op : Op) (a : Node) → shrinks op a ≡ true → clusters_after false op a ≡ clusters_for (size_after op a)
wants op a is = ap (λ (t : Bool). cond t (clusters_for (size_after op a)) (max a.clusters (clusters_for (size_after op a)))) is

-- where its runs stay, it has as many clusters as its size needs
pub same_clusters : (bits : List Bool) (r : Record) (op : Op) (a : Node) (e : Extents) → data_in r ≡ Some (Placed e) → shrinks op a ≡ true → size_after op a < e.real → clusters_for e.real ≤ total_clusters e.runs → e.runs ≡ runs_after (growth_of bits r op a) → total_clusters e.runs ≡ clusters_after false op a
same_clusters bits r op a e placed is less enough same =
    let g : Growth = placed_among bits e.runs (wanted_data op a) in
    let runs : e.runs ≡ runs_after g = same ∙ ap (λ (x : Comes). runs_after x.growth) (placed_comes bits r op a e placed) in
    let few : clusters_after false op a ≤ total_clusters e.runs = subst (λ (k : ℕ). k ≤ total_clusters e.runs) (sym (wants op a is)) (shorter_clusters (size_after op a) e.real (total_clusters e.runs) less enough) in
    elim (cases_lt (clusters_after false op a) (total_clusters e.runs)) [
      | inl fewer ↦
          (let cut : total_clusters e.runs ≡ min (clusters_after false op a) (total_clusters e.runs) = ap total_clusters (runs ∙ runs_cut g fewer) ∙ total-merged (front (clusters_after false op a) e.runs) ∙ total-front (clusters_after false op a) e.runs in
          absurd (omega (arith, fewer, cut)))
      | inr all ↦ omega (arith, few, all)
    ]
