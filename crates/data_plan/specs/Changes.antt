-- What comes of a file's unnamed data, in the words of a step.
use Rattle.std.specs.Prelude.{◌≡◌, ⊤, ℕ, ◌+◌, ◌^◌, ◌<◌, ◌≤◌, Bool, true, false, not, List, [], ◌∷◌, All, length, count_by, Option, Some, None, Result, Ok, Err, IfSome, IfOk, OnErr}
use Rattle.used_laws.specs.record_model.declared.attribute.Attr.{Attr}
use Rattle.used_laws.specs.record_model.Constants.{data_type}
use Rattle.used_laws.specs.record_model.Pairs.{cluster_limit, HasSpelling}
use Rattle.used_laws.specs.record_model.Records.{Record}
use Rattle.used_laws.specs.file_tree.declared.node.Node.{Node}
use Rattle.used_laws.specs.state_model.declared.stream.Extents.{Extents}
use Rattle.used_laws.specs.state_model.declared.stream.Stream.{Stream}
use Rattle.used_laws.specs.state_model.declared.stream.Stream.TheVariants.{Held, Placed}
use Rattle.used_laws.specs.state_model.Loads.{total_clusters, has_all_pairs}
use Rattle.used_laws.specs.state_model.Streams.{first_vcn, attributes_of, stream_of}
use Rattle.used_laws.specs.volume_model.Volumes.{size_or}
use Rattle.used_laws.specs.volume_model.Nodes.{valid_or, clusters_or}
use Rattle.used_laws.specs.tree_model.declared.script.Op.{Op}
use Rattle.used_laws.specs.tree_model.declared.reply.Reply.{Reply}
use Rattle.used_laws.specs.tree_model.Needs.{clusters_for, size_after, shrinks}
use Rattle.used_laws.specs.tree_model.Effects.{valid_after, clusters_after}
use Rattle.used_laws.specs.space_model.Choosing.{with_runs}
use Rattle.used_laws.specs.plan_space.Choices.{TakesFirst}
use Rattle.used_laws.specs.stream_runs.Runs.{last_cluster, IsNear}
use Rattle.used_laws.specs.record_streams.Fitting.{FitsButRoom}
use Rattle.used_laws.specs.record_values.Values.{valued_record}
use Rattle.used_laws.specs.resized_streams.declared.resized.Resized.{Resized}
use Rattle.used_laws.specs.resized_streams.Resizing.{unplaced, IsGrown, IsCut, IsSized}
use Rattle.used_laws.specs.draft_records.Records.{written_bytes}
use Rattle.used_laws.specs.step_model.Placing.{Growth, more_of, runs_after}
use Rattle.used_laws.specs.step_model.Used.{used_after, own_attr, value_attr}
use Rattle.used_laws.specs.step_model.Streams.{data_comes, one_change}
use Rattle.used_laws.specs.step_model.Plans.{full_row, used_in}
use Rattle.data_plan.specs.declared.change.DataChange.{DataChange}
use Rattle.data_plan.specs.declared.change.DataChange.TheVariants as change
use Rattle.data_plan.specs.declared.fault.DataFault.{DataFault}
use Rattle.data_plan.specs.declared.fault.DataFault.TheVariants as fault
use Rattle.data_plan.specs.Faults.{IsShortOf, HasRow}

-- ---- the file

-- its unnamed data
abbrev pub data_in : Record → Option Stream
data_in r = stream_of data_type [] r.attrs

-- the node shows the sizes and the clusters of the data
pub record ShowsData (node : Node) (r : Record) : Type 0 where
  pub size : node.size ≡ size_or (data_in r)
  pub valid : node.valid ≡ valid_or (data_in r)
  pub clusters : node.clusters ≡ clusters_or (data_in r)

-- the attributes of a stream that is there, the first of them from VCN 0 on
abbrev pub BeginsAtZero : List Attr → Type 0
BeginsAtZero [] = ⊥
BeginsAtZero (a ∷ others) = first_vcn a ≡ 0

-- a stream in clusters that have room for its size, in not too many runs, the last cluster below so many
pub record LiesBelow (clusters : ℕ) (e : Extents) : Type 0 where
  pub spelled : HasSpelling 0 e.runs
  pub few : length e.runs ≤ 2 ^ 15
  pub last : IfSome (last_cluster e.runs) (λ at. at < clusters)
  pub enough : clusters_for e.real ≤ total_clusters e.runs

abbrev pub StandsBelow : ℕ → Option Stream → Type 0
StandsBelow clusters None = ⊤
StandsBelow clusters (Some (Held value)) = ⊤
StandsBelow clusters (Some (Placed e)) = LiesBelow clusters e

-- A file that has unnamed data, in a volume of so many clusters.
pub record HasData (clusters : ℕ) (r : Record) : Type 0 where
  pub fits : FitsButRoom r
  pub pairs : has_all_pairs r ≡ true
  pub begins : BeginsAtZero (attributes_of data_type [] r.attrs)
  pub stands : StandsBelow clusters (data_in r)

-- the data comes to have not too many clusters, and not too many more
pub record GrowsLittle (op : Op) (node : Node) : Type 0 where
  pub few : clusters_after false op node ≤ cluster_limit
  pub more : clusters_after false op node ≤ node.clusters + 2 ^ 15

-- the data stands in its record
abbrev pub IsHeld : Option Stream → Type 0
IsHeld None = ⊥
IsHeld (Some (Held value)) = ⊤
IsHeld (Some (Placed e)) = ⊥

-- as a value of its new size it has no room there, and it isn't cut
pub record MustLeave (r : Record) (op : Op) (node : Node) : Type 0 where
  pub some : 0 < size_after op node
  pub grows : shrinks op node ≡ false
  pub full : 1024 < used_after (value_attr (size_after op node) (own_attr data_type [] r) ∷ []) r

-- a value of this size stays in a record that has room with it
abbrev pub IsKept : ℕ → ℕ → Result DataChange DataFault → Type 0
IsKept size used (Ok c) = (c ≡ change.Stays size) × (used ≤ 1024)
IsKept size used (Err (fault.Full bytes)) = (bytes ≡ used) × (1024 < used)
IsKept size used (Err (fault.Short room)) = ⊥
IsKept size used (Err fault.Memory) = ⊥

-- ---- what the step says

abbrev pub growth_of : List Bool → Record → Op → Node → Growth
growth_of bits r op node = (data_comes bits r op node).growth

-- the row of the record that would be too full
abbrev pub row_of : List Bool → Record → Op → Node → Option Reply
row_of bits r op node = full_row (used_in (Some r) (one_change (data_comes bits r op node)))

-- ---- what comes of it

-- The runs that it took, and its runs then, are those of the step, and its record has room.
pub record IsTaken (g : Growth) (z : Resized) : Type 0 where
  pub clusters : g.stands ≡ false
  pub taken : z.taken.items ≡ g.runs
  pub runs : z.extents.runs ≡ runs_after g
  pub room : written_bytes z.file ≤ 1024

-- it stays in its record as a value of this size, with which that has room
pub record Stays (g : Growth) (r : Record) (op : Op) (node : Node) (size : ℕ) : Type 0 where
  pub stands : g.stands ≡ true
  pub size_is : size ≡ size_after op node
  pub room : (value : List ℕ) → length value ≡ size → written_bytes (valued_record data_type [] value r) ≤ 1024

-- its value leaves the record for clusters
pub record Leaves (g : Growth) (r : Record) (op : Op) (node : Node) (z : Resized) : Type 0 where
  pub value : List ℕ
  pub held : data_in r ≡ Some (Held value)
  pub takes : IsTaken g z
  pub grown : IsGrown 8 data_type [] (unplaced (size_after op node)) r g.runs z

-- it takes clusters behind its own; its sizes stay for now
pub record Grows (g : Growth) (r : Record) (z : Resized) : Type 0 where
  pub e : Extents
  pub placed : data_in r ≡ Some (Placed e)
  pub more : total_clusters e.runs < g.clusters
  pub takes : IsTaken g z
  pub grown : IsGrown 8 data_type [] e r g.runs z

-- it is cut, and gives back the clusters that its size doesn't need
pub record IsCutOff (g : Growth) (r : Record) (op : Op) (node : Node) (z : Resized) : Type 0 where
  pub e : Extents
  pub placed : data_in r ≡ Some (Placed e)
  pub less : size_after op node < e.real
  pub takes : IsTaken g z
  pub cut : IsCut 8 data_type [] e r (size_after op node) z

-- only its sizes change
pub record ChangesSizes (g : Growth) (r : Record) (op : Op) (node : Node) (z : Resized) : Type 0 where
  pub e : Extents
  pub placed : data_in r ≡ Some (Placed e)
  pub takes : IsTaken g z
  pub sized : IsSized 8 data_type [] e r (size_after op node) (valid_after op node) z

abbrev pub IsChange : Growth → Record → Op → Node → DataChange → Type 0
IsChange g r op node (change.Stays size) = Stays g r op node size
IsChange g r op node (change.Leaves z) = Leaves g r op node z
IsChange g r op node (change.Grows z) = Grows g r z
IsChange g r op node (change.Cut z) = IsCutOff g r op node z
IsChange g r op node (change.Sized z) = ChangesSizes g r op node z

-- ---- what a draft asks of it

-- its record has a spelling but for its room, and its runs, those that come and those that go aren't too many or too far
pub record IsReady (z : Resized) : Type 0 where
  pub fits : FitsButRoom z.file
  pub taken : All IsNear z.taken.items
  pub freed : All IsNear z.freed.items
  pub spelled : HasSpelling 0 z.extents.runs
  pub few : length z.extents.runs ≤ 2 ^ 16

abbrev pub IsReadyChange : DataChange → Type 0
IsReadyChange (change.Stays size) = ⊤
IsReadyChange (change.Leaves z) = IsReady z
IsReadyChange (change.Grows z) = IsReady z
IsReadyChange (change.Cut z) = IsReady z
IsReadyChange (change.Sized z) = IsReady z

-- ---- the answer

-- What comes of the data is what the step says, and the bits of the runs that it takes are set. It is Short where fewer bits are clear than
-- it wants, and none is set then; else it is Full exactly where the record would be too full.
pub record DataAfter (bits new : List Bool) (r : Record) (op : Op) (node : Node) (result : Result DataChange DataFault) : Type 0 where
  pub is_change : IfOk result (IsChange (growth_of bits r op node) r op node)
  pub taken : IfOk result (λ _. new ≡ with_runs (growth_of bits r op node).runs bits)
  pub short : count_by not bits < more_of (growth_of bits r op node) → IsShortOf (count_by not bits) result
  pub unchanged : count_by not bits < more_of (growth_of bits r op node) → new ≡ bits
  pub full : more_of (growth_of bits r op node) ≤ count_by not bits → HasRow (row_of bits r op node) result
  pub first : OnErr result (TakesFirst (growth_of bits r op node).runs bits new)
