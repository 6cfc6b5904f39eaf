-- The streams of a record: their attributes, where their clusters lie, and their bytes.
use Rattle.std.specs.Prelude.{ℕ, ◌+◌, ◌-◌, ◌*◌, ◌/◌, ◌%◌, Bool, not, ◌&&◌, ◌||◌, ◌==◌, nat_le, nat_lt, nat_eq, if◌then◌else◌, List, [], ◌∷◌, length, map, find, filter, slice_index, Option, Some, None, option_map, Result, Ok, Err}
use Rattle.std.specs.List.{flat_map, list_any, range_with_len}
use Rattle.std.specs.Cmp.Lexicographic.{pointwise}
use Rattle.record_model.specs.disk_model.declared.block.Block.{Block}
use Rattle.record_model.specs.disk_model.declared.block.BlockKind.{BlockKind}
use Rattle.record_model.specs.disk_model.declared.block.BlockKind.TheVariants.{Plain}
use Rattle.record_model.specs.disk_model.Sectors.{sectors, zero_sector}
use Rattle.record_model.specs.disk_model.Content.{Content}
use Rattle.record_model.specs.declared.attribute.OwnForm.{OwnForm}
use Rattle.record_model.specs.declared.attribute.OwnForm.TheVariants.{Resident, Mapped}
use Rattle.record_model.specs.declared.attribute.Attr.{Attr}
use Rattle.record_model.specs.declared.runs.Run.{Run}
use Rattle.record_model.specs.declared.runs.PairsFault.{PairsFault}
use Rattle.record_model.specs.Pairs.{runs_of}
use Rattle.state_model.specs.declared.stream.Extents.{Extents}
use Rattle.state_model.specs.declared.stream.Stream.{Stream}
use Rattle.state_model.specs.declared.stream.Stream.TheVariants.{Held, Placed}

-- ---- attributes

-- the first VCN of an attribute; a value in the record begins at 0
abbrev pub form_first : OwnForm → ℕ
form_first (Resident value indexed) = 0
form_first (Mapped sizes pairs) = sizes.first

abbrev pub first_vcn : Attr → ℕ
first_vcn a = form_first a.form

-- an attribute of the stream with this type and name
unfoldable pub is_attribute_of : ℕ → List ℕ → Attr → Bool
is_attribute_of kind name a = a.head.kind == kind && pointwise nat_eq a.name name

-- an attribute before those with a greater first VCN
abbrev pub with_attribute : Attr → List Attr → List Attr
with_attribute a [] = a ∷ []
with_attribute a (b ∷ attributes) = if nat_lt (first_vcn a) (first_vcn b) then a ∷ b ∷ attributes else b ∷ with_attribute a attributes

-- attributes put in one after the other
abbrev pub sorted_into : List Attr → List Attr → List Attr
sorted_into attributes [] = attributes
sorted_into attributes (a ∷ attrs) = sorted_into (with_attribute a attributes) attrs

-- the attributes of a stream by rising first VCN; those with one first VCN stand as before
unfoldable pub attributes_of : ℕ → List ℕ → List Attr → List Attr
attributes_of kind name attrs = sorted_into [] (filter (is_attribute_of kind name) attrs)

abbrev pub runs_or : Result (List Run) PairsFault → List Run
runs_or (Ok runs) = runs
runs_or (Err fault) = []

abbrev pub form_runs : OwnForm → List Run
form_runs (Resident value indexed) = []
form_runs (Mapped sizes pairs) = runs_or (runs_of sizes.first pairs)

unfoldable pub attribute_runs : Attr → List Run
attribute_runs a = form_runs a.form

-- a stream by the form of its first attribute, which has its sizes
abbrev pub form_stream : OwnForm → List Run → Stream
form_stream (Resident value indexed) runs = Held value
form_stream (Mapped sizes pairs) runs = Placed (record { runs = runs; allocated = sizes.allocated; real = sizes.real; initialised = sizes.initialised })

abbrev pub joined : List Attr → Option Stream
joined [] = None
joined (a ∷ attributes) = Some (form_stream a.form (flat_map attribute_runs (a ∷ attributes)))

-- the stream with this type and name among attributes, if there is one
unfoldable pub stream_of : ℕ → List ℕ → List Attr → Option Stream
stream_of kind name attrs = joined (attributes_of kind name attrs)

-- the real size, in bytes
abbrev pub real_size : Stream → ℕ
real_size (Held value) = length value
real_size (Placed e) = e.real

-- ---- places

-- the run holds the VCNs from the first to the last one
abbrev pub holds : ℕ → ℕ → Run → Bool
holds first last r = nat_le r.vcn first && nat_lt last (r.vcn + r.len)

abbrev pub lcn_in : ℕ → Option Run → Option ℕ
lcn_in v None = None
lcn_in v (Some r) = option_map (λ lcn. lcn + (v - r.vcn)) r.lcn

-- The block of this kind that begins at a stream's n-th place of its size: it lies in the first run that holds all its
-- clusters. There is none where no run does, and in a sparse run.
unfoldable pub block_at : ℕ → List Run → BlockKind → ℕ → Option Block
block_at per runs kind n =
    let first = sectors kind * n in
    let v = first / per in
    let w = (first + sectors kind - 1) / per in
    option_map (λ lcn. record { first = lcn * per + first % per; kind = kind }) (lcn_in v (find (holds v w) runs))

-- a place in sectors lies inside a block of this kind below so many
abbrev pub is_inside_block : BlockKind → ℕ → ℕ → Bool
is_inside_block kind count s = not (s % sectors kind == 0) && nat_lt (s / sectors kind) count

-- a run begins or ends inside one of the first so many blocks of a stream: that block lies in two runs
abbrev pub cuts_block : ℕ → BlockKind → ℕ → Run → Bool
cuts_block per kind count r = is_inside_block kind count (r.vcn * per) || is_inside_block kind count ((r.vcn + r.len) * per)

unfoldable pub has_cut_block : ℕ → BlockKind → ℕ → List Run → Bool
has_cut_block per kind count runs = list_any (cuts_block per kind count) runs

-- ---- bytes

abbrev pub sector_bytes : Content → Option Block → List ℕ
sector_bytes c None = zero_sector
sector_bytes c (Some b) = (c b).bytes

-- the bytes of a stream's sector
abbrev pub sector_in : Content → ℕ → List Run → ℕ → List ℕ
sector_in c per runs s = sector_bytes c (block_at per runs Plain s)

-- the byte at a place: zero from the initialised size on, in a sparse run, and where no run is
unfoldable pub byte_at : Content → ℕ → Extents → ℕ → ℕ
byte_at c per e i = if nat_lt i e.initialised then slice_index (sector_in c per e.runs (i / 512)) (i % 512) else 0

-- the bytes of a stream in clusters, as many as its real size
unfoldable pub extent_bytes : Content → ℕ → Extents → List ℕ
extent_bytes c per e = map (byte_at c per e) (range_with_len 0 e.real)

abbrev pub stream_bytes : Content → ℕ → Stream → List ℕ
stream_bytes c per (Held value) = value
stream_bytes c per (Placed e) = extent_bytes c per e
