-- The clusters that a draft's call takes for an index are those that a step counts.
use Rattle.std.specs.Prelude.{◌≡◌, ℕ, ◌≤◌, Bool, true, false, not, List, [], ◌∷◌, count_by}
use Rattle.disk_model.specs.Content.{Content}
use Rattle.record_model.specs.Records.{Record}
use Rattle.index_model.specs.Trees.{Tree}
use Rattle.volume_model.specs.Indexes.{index_stream}
use Rattle.volume_model.specs.Volumes.{Volume, cluster_bits, size_or}
use Rattle.volume_state.specs.Trees.{tree_of}
use Rattle.draft_indexes.specs.declared.blocks.IndexBlocks.{IndexBlocks}
use Rattle.draft_indexes.specs.Growing.{wanted_clusters}
use Rattle.index_edits.specs.Grown.{HasStreams, index_runs}
use Rattle.made_trees.specs.step_model.Placing.{Growth}
use Rattle.made_trees.specs.step_model.Streams.{index_comes}
use Rattle.made_trees.specs.step_model.Plans.{grows_table, spread_comes}
use Rattle.grown_indexes.specs.First.{growths_by}

-- At eight sectors a cluster: where so many of these bits are clear as the blocks lack, and the bitmap stands in the record, an index that is spread so takes
-- in a step the runs that the call takes. Behind a file table that grows these are the bits that it left.
abbrev pub PutsAmong : Type 0
PutsAmong = (bits : List Bool) (per : ℕ) (r : Record) (i : IndexBlocks) (more : ℕ) (t : Tree) (x y : Growth) → per ≡ 8 → HasStreams r i → size_or (index_stream r) ≡ i.extents.real → wanted_clusters per more i.extents ≤ count_by not bits → (index_comes bits i.number r t more).growths ≡ x ∷ y ∷ [] → y.stands ≡ true
    → (index_comes bits i.number r t more).growths ≡ growths_by i.number r (index_runs per bits more i)

-- In a volume of eight sectors a cluster of which some number is spare: where so many clusters are clear as the blocks lack, and the bitmap stands in
-- the record, an index that is spread so takes in a step the runs that the call takes.
abbrev pub PutsAsCounted : Type 0
PutsAsCounted = (c : Content) (v : Volume) (r : Record) (i : IndexBlocks) (more : ℕ) (t : Tree) (x y : Growth) → v.per ≡ 8 → HasStreams r i → size_or (index_stream r) ≡ i.extents.real → grows_table (tree_of c v) ≡ false
    → wanted_clusters v.per more i.extents ≤ count_by not (cluster_bits c v) → (index_comes (cluster_bits c v) i.number r t more).growths ≡ x ∷ y ∷ [] → y.stands ≡ true
    → (spread_comes c v i.number r t more).growths ≡ growths_by i.number r (index_runs v.per (cluster_bits c v) more i)

-- Where some number is spare, a step counts the index's clusters among all that are clear in the volume.
abbrev pub CountsAmongAll : Type 0
CountsAmongAll = (c : Content) (v : Volume) (n : ℕ) (r : Record) (t : Tree) (more : ℕ) → grows_table (tree_of c v) ≡ false → spread_comes c v n r t more ≡ index_comes (cluster_bits c v) n r t more
