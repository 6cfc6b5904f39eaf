-- The clusters by which a step lets an index grow, where its bitmap stands in the record.
use Rattle.std.specs.Prelude.{◌≡◌, ℕ, Bool, true, List, [], ◌∷◌}
use Rattle.record_model.specs.Records.{Record}
use Rattle.index_model.specs.Trees.{Tree}
use Rattle.state_model.specs.Loads.{total_clusters}
use Rattle.made_trees.specs.step_model.Placing.{Growth, more_of}
use Rattle.made_trees.specs.step_model.Streams.{index_comes}
use Rattle.grown_indexes.specs.First.{growths_by}

-- They are the growth of the blocks by the runs that a step chooses, where these are as many clusters as it wants.
abbrev pub CountsGrowths : Type 0
CountsGrowths = (bits : List Bool) (n : ℕ) (r : Record) (t : Tree) (more : ℕ) (x y : Growth) → (index_comes bits n r t more).growths ≡ x ∷ y ∷ [] → y.stands ≡ true → total_clusters x.runs ≡ more_of x → (index_comes bits n r t more).growths ≡ growths_by n r x.runs
