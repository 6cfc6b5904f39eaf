-- A file that is written or cut in a draft.
use Rattle.std.specs.Prelude.{◌≡◌, ℕ, ◌<◌, ◌≤◌, ◌^◌, true, Bool, List, [], ◌∷◌, Some}
use Rattle.disk_model.specs.Content.{Content}
use Rattle.record_model.specs.declared.attribute.Attr.{Attr}
use Rattle.record_model.specs.Constants.{standard_information, data_type}
use Rattle.record_model.specs.Pairs.{cluster_limit}
use Rattle.record_model.specs.Records.{Record}
use Rattle.file_puts.specs.record_streams.Fitting.{FitsButRoom}
use Rattle.file_puts.specs.record_streams.Placing.{placed_record}
use Rattle.file_puts.specs.resized_streams.declared.resized.Resized.{Resized}
use Rattle.file_puts.specs.resized_streams.Resizing.{IsSized}
use Rattle.file_tree.specs.declared.node.Node.{Node}
use Rattle.state_model.specs.declared.stream.Extents.{Extents}
use Rattle.state_model.specs.declared.stream.Stream.TheVariants.{Placed}
use Rattle.state_model.specs.Files.{has_type}
use Rattle.state_model.specs.Streams.{attributes_of}
use Rattle.tree_model.specs.declared.script.Op.{Op}
use Rattle.tree_model.specs.Needs.{size_after, shrinks}
use Rattle.tree_model.specs.Effects.{valid_after}
use Rattle.tree_model.specs.Steps.{IsWithinBounds}
use Rattle.plan_draft.specs.declared.touched.Touched.{Touched}
use Rattle.file_puts.specs.draft_records.Records.{written_bytes}
use Rattle.file_puts.specs.data_plan.declared.change.DataChange.{DataChange}
use Rattle.file_puts.specs.data_plan.Changes.{data_in, ShowsData, HasData, GrowsLittle, growth_of, IsChange}
use Rattle.file_puts.specs.declared.streams.VolumeStreams.{VolumeStreams}
use Rattle.file_puts.specs.Puts.{PutsSizes, PutsSized, PutsChange}

-- The record has standard information, and it has room as it is written.
pub record HasRoom (r : Record) : Type 0 where
  pub fits : FitsButRoom r
  pub room : written_bytes r ≤ 1024
  pub info : has_type standard_information r ≡ true

-- The record has the data in these clusters, in one attribute.
pub record HasPlacedData (z : Resized) : Type 0 where
  pub before : Record
  pub first : Attr
  pub others : List Attr
  pub some : attributes_of data_type [] before.attrs ≡ first ∷ others
  pub file : z.file ≡ placed_record 8 data_type [] z.extents before

-- A file with standard information, of this number in a volume of so many clusters, whose unnamed data the node shows. The operation has
-- numbers within bounds, and the data grows little.
pub record MayWrite (clusters n : ℕ) (s : VolumeStreams) (r : Record) (op : Op) (a : Node) : Type 0 where
  pub few : clusters ≤ cluster_limit
  pub number : n < 2 ^ 48
  pub bitmap : s.bitmap.initialised < 2 ^ 63
  pub bounds : IsWithinBounds op
  pub has : HasData clusters r
  pub shows : ShowsData a r
  pub little : GrowsLittle op a
  pub valid : a.valid ≤ a.size
  pub info : has_type standard_information r ≡ true

-- so many bytes of it were initialised, and it has the sizes after the operation, whichever data it is
abbrev pub SizesPut : Content → VolumeStreams → ℕ → Op → Node → ℕ → Resized → List Touched → List Touched → Type 0
SizesPut c s n op a stamp z old new = (e : Extents) (r : Record) → e.initialised ≡ a.valid → IsSized 8 data_type [] e r (size_after op a) (valid_after op a) z → PutsSizes c s n op a stamp e r old new

-- the same where it stays in its clusters, shorter or longer
abbrev pub SizedPut : Content → VolumeStreams → ℕ → Op → Node → ℕ → Resized → List Touched → List Touched → Type 0
SizedPut c s n op a stamp z old new =
    (e : Extents) (r : Record) → data_in r ≡ Some (Placed e) → e.initialised ≡ a.valid → IsSized 8 data_type [] e r (size_after op a) (valid_after op a) z → PutsSized (shrinks op a) c s n op a stamp r z old new

-- What is put is what comes of the file's data where these clusters are free.
pub record PutsWrite (c : Content) (bits : List Bool) (s : VolumeStreams) (n : ℕ) (op : Op) (a : Node) (stamp : ℕ) (r : Record) (old new : List Touched) : Type 0 where
  pub change : DataChange
  pub is : IsChange (growth_of bits r op a) r op a change
  pub put : PutsChange c s n op a stamp r change old new
