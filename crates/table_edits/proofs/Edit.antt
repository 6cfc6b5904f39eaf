-- What a draft has put of a file table that grew is an edit of a plan.
use Rattle.std.proofs.Common.{◌≡◌, ◌≢◌, ◌⊎◌, ℕ, ◌+◌, ◌-◌, ◌*◌, ◌/◌, ◌%◌, ◌^◌, ◌<◌, ◌≤◌, Bool, true, false, ◌&&◌, ◌||◌, cond, eqb, leb, ltb, List, [], ◌∷◌, length, Option, Some, None, Ok, refl, sym, ap, ap₂, subst, ◌∙◌, inl, inr, arith}
use Rattle.std.specs.Prelude.{find, All, not, slice_index}
use Rattle.std.specs.List.{list_all, list_any, AllByRecursion}
use Rattle.std.specs.Option.{is_some, option_map, option_or}
use Rattle.std.proofs.lemmas.Bool.{cases_lt, and_parts, and_from, and_right, or_parts, both_ways, false_from_ne_true, le-leb, lt-ltb, lt-leb, le-ltb}
use Rattle.std.proofs.lemmas.List.Elements.{All-nil, All-cons, All-head, All-tail}
use Rattle.std.proofs.lemmas.List.FromFn.{get_or-map-range_with_len}
use Rattle.disk_model.specs.declared.block.Block.{Block}
use Rattle.disk_model.specs.declared.block.BlockKind.{BlockKind}
use Rattle.disk_model.specs.declared.block.BlockKind.TheVariants.{Plain, FileRec}
use Rattle.disk_model.specs.Bytes.{zeros}
use Rattle.disk_model.specs.Numbers.{field}
use Rattle.volume_model.specs.Nodes.{spare_sequence}
use Rattle.disk_model.specs.Content.{Content, HasSizes, is_signed}
use Rattle.disk_model.specs.Sectors.{overlap, same_block, same_kind}
use Rattle.record_model.specs.declared.attribute.Attr.{Attr}
use Rattle.record_model.specs.declared.runs.Run.{Run}
use Rattle.record_model.specs.Constants.{bitmap_type, data_type}
use Rattle.record_model.specs.Pairs.{cluster_limit, Follow, HasSpelling}
use Rattle.record_model.specs.Records.{Record}
use Rattle.bit_set.specs.Bits.{bit}
use Rattle.bit_set.specs.Words.{byte_bit, is_one}
use Rattle.space_model.specs.Choosing.{with_runs}
use Rattle.state_model.specs.declared.geometry.Geometry.{Geometry}
use Rattle.state_model.specs.declared.stream.Extents.{Extents}
use Rattle.state_model.specs.declared.stream.Stream.{Stream}
use Rattle.state_model.specs.declared.stream.Stream.TheVariants.{Held, Placed}
use Rattle.state_model.specs.Loads.{boot_block, extents_or, has_all_pairs, has_fitting_pairs, record_count, total_clusters}
use Rattle.state_model.specs.Streams.{attributes_of, block_at, byte_at, extent_bytes, holds, lcn_in, real_size, sector_bytes, stream_bytes, stream_of}
use Rattle.volume_model.specs.Volumes.{Volume, block_bytes, bytes_or, cluster_bits, count_of, file_stream, record_bitmap, record_bits, size_or, table_file}
use Rattle.volume_model.specs.Owners.{uses, volume_runs}
use Rattle.volume_model.specs.Sizes.{fits_volume, has_hole, is_hole}
use Rattle.stream_laws.specs.Owners.{initialised_in, stream_kind}
use Rattle.stream_laws.specs.Places.{AreOnce}
use Rattle.stream_laws.specs.Sharing.{runs_in, stream_at, StreamKey}
use Rattle.stream_laws.specs.Tables.{BeginsAtBoot, table_key}
use Rattle.stream_laws.proofs.Bitmapping.{bit_filled, past_records, record_bit}
use Rattle.stream_laws.proofs.Leaving.{free_apart}
use Rattle.stream_laws.proofs.Placing.{lists_apart, one_place}
use Rattle.stream_laws.proofs.Rewriting.{count_is, zeros_blank}
use Rattle.stream_laws.proofs.Sharing.{stream_of_volume, streams_apart}
use Rattle.stream_map.proofs.Reading.{kind-block_at}
use Rattle.plan_edits.specs.record_streams.Placing.{placed_record}
use Rattle.plan_edits.proofs.record_streams.Kept.{all_with, but_room_fits}
use Rattle.plan_table.specs.record_values.Values.{valued_attr, valued_first}
use Rattle.plan_edits.specs.resized_streams.Resizing.{clusters_for, lengthened, unplaced}
use Rattle.draft_streams.specs.Parts.{touch_bytes}
use Rattle.draft_streams.proofs.Effecting.{effects as bytes_effects}
use Rattle.stream_runs.specs.Runs.{grown}
use Rattle.stream_runs.proofs.Places.{places-grown}
use Rattle.plan_owners.specs.States.{Stands}
use Rattle.plan_owners.proofs.Outside.{once}
use Rattle.plan_owners.proofs.Standing.{begins, records_marked, some_file}
use Rattle.plan_bodies.specs.Bodies.{NewBody, body_in, content_with}
use Rattle.plan_bodies.proofs.Putting.{block_itself, either}
use Rattle.plan_draft.specs.declared.touched.Touched.{Touched}
use Rattle.plan_draft.specs.Touching.{bodies_of}
use Rattle.plan_draft.specs.Drafts.{drafted}
use Rattle.plan_draft.proofs.Parts.{zeros_long}
use Rattle.plan_edits.specs.plan_model.Drafts.{IsPut}
use Rattle.plan_edits.specs.plan_model.Edits.{IsOwnedIn}
use Rattle.plan_edits.specs.plan_model.Made.{ReadsAs}
use Rattle.plan_edits.proofs.plan_model.Drafting.{per_is}
use Rattle.plan_edits.proofs.plan_model.OneRecord.{OwnRecord, slot_begins}
use Rattle.plan_edits.specs.plan_growth.Streams.{IsWritten, marks_streams, MayTake}
use Rattle.plan_edits.proofs.plan_growth.Growing.{uses-grown}
use Rattle.plan_edits.proofs.plan_growth.Ruled.{sizes_lawful}
use Rattle.plan_table.specs.Growing.{BitmapBecomes, GrowsVolumeTable, IsOfTable, IsPutBlank, longer_table, numbers_key, table_record, with_bitmap}
use Rattle.plan_table.proofs.Behind.{in_one, was_free}
use Rattle.plan_table.proofs.Bits.{becomes_wider, IsWider}
use Rattle.plan_table.proofs.Table.{numbers_fit, numbers_whole, table_fits, table_own, table_records}
use Rattle.stream_runs.proofs.Merging.{follow-grown}
use Rattle.stream_laws.proofs.Tabling.{inside_list, table_runs as runs_of_table}
use Rattle.plan_edits.proofs.record_streams.Streams.{placed_others}
use Rattle.plan_edits.proofs.plan_growth.Placed.{some_attributes}
use Rattle.disk_model.proofs.Frames.{same_block-is}
use Rattle.draft_streams.specs.Effects.{HasOwnSectors}
use Rattle.draft_bits.specs.Effects.{IsKept, stream_bit}
use Rattle.draft_bits.proofs.BitEffects.{byte_of, byte_there, drafted_body, same_bit}
use Rattle.draft_growth.specs.draft_numbers.Numbers.{new_sequence}
use Rattle.plan_edits.specs.draft_records.Records.{fits_room, is_past, has_mirror, record_block, written_record}
use Rattle.draft_runs.specs.Clusters.{PutsRuns}
use Rattle.draft_runs.proofs.RunEffects.{runs_put}
use Rattle.draft_growth.specs.draft_bitmaps.declared.bitmap.Bitmap.{Bitmap}
use Rattle.draft_growth.specs.draft_bitmaps.Bitmaps.{bitmap_bit, own_bytes, PutsInto, with_record}
use Rattle.draft_growth.specs.draft_bitmaps.Effects.{HasApartSectors, LiesInRun, PutsBitmap}
use Rattle.draft_growth.proofs.draft_bitmaps.BitmapEffects.{bitmap_put, record_here}
use Rattle.draft_growth.specs.declared.table.Table.{Table}
use Rattle.draft_growth.specs.Effects.{HasOwnRecords}
use Rattle.draft_growth.specs.Growing.{behind_records, bitmap_behind, bitmap_size, filled_up, in_file, larger, leaving, MayGrow, more_for, numbers_bytes, numbers_in, PutsOwners, PutsTable, roomier, standing, with_empty_records, with_leaving, with_room}
use Rattle.draft_growth.proofs.Standing.{standing_grows}
use Rattle.draft_growth.proofs.Tables.{at_least}
use Rattle.draft_growth.proofs.GrownEffects.{grown_read}
use Rattle.plan_edits.specs.Edits.{bitmap_key, mirror_key}
use Rattle.plan_edits.specs.Moves.{EditsDraft}
use Rattle.plan_edits.specs.Puts.{IsMirrored, IsSectorOf}
use Rattle.plan_edits.specs.Written.{IsInUse}
use Rattle.plan_edits.proofs.Bitmap.{shares_itself, state_bitmap}
use Rattle.plan_edits.proofs.Editing.{bit_is}
use Rattle.plan_edits.proofs.Putting.{content_goes, Goes}
use Rattle.plan_edits.proofs.Reading.{written_read}
use Rattle.table_edits.specs.Grown.{AreBegun, GrownIsEdit, GrownIsKept, GrowsOfVolume, LongerTable, NewSequences, NumbersAreBegun, numbers_runs, table_runs}
use Rattle.table_edits.proofs.Again.{placed_again}
use Rattle.table_edits.proofs.Chosen.{both_apart, numbers_count, numbers_size, numbers_taken, own_count, own_size, own_taken}
use Rattle.table_edits.proofs.Numbers.{IsLongerNumbers, longer_numbers, MayBecome}
use Rattle.table_edits.proofs.Spelled.{both_spelled, IsSpelled, MayBeLonger}
use Rattle.plan_edits.specs.record_streams.Fitting.{FitsButRoom, HasFields, IsPlaceable}
use Rattle.plan_edits.proofs.record_streams.Fits.{fits_placed}
use Rattle.plan_edits.proofs.resized_streams.Chosen.{grown_count, total_grown}
use Rattle.draft_growth.specs.draft_bitmaps.Bitmaps.{IsBitmap}
use Rattle.draft_growth.proofs.Fulls.{record_grown}
use Rattle.table_edits.proofs.Steps.{away, behind, bitmap_file_goes, bitmap_goes, empties_go, in_zeros, IsComing, IsLeft, IsNone, IsOfBitmap, IsRecordFrom, leaving_goes, none_leaving, runs_as, runs_go, turned}
use Rattle.table_edits.proofs.Ways.{becomes_of, filled_long, held_short, Leaves, size_small, Stays, ways}

-- ---- small facts

some_of : {A : Type 0} (o : Option A) → is_some o ≡ true → (x : A) × (o ≡ Some x)
some_of None is = absurd cc
some_of (Some x) is = (x, refl)

same_bytes : (o rest : Option (List ℕ)) (bytes found : List ℕ) → option_or o rest ≡ Some bytes → o ≡ Some found → o ≡ Some bytes
same_bytes None rest bytes found all one = absurd cc
same_bytes (Some x) rest bytes found all one = all

file_apart : (a b : Block) → a.kind ≡ Plain → b.kind ≡ FileRec → same_block b a ≡ false
file_apart a b plain file = and_right _ (same_kind b.kind a.kind) (ap₂ same_kind file plain)

plain_apart : (a b : Block) → a.kind ≡ Plain → b.kind ≡ FileRec → same_block a b ≡ false
plain_apart a b plain file = and_right _ (same_kind a.kind b.kind) (ap₂ same_kind plain file)

sector_kind : (per : ℕ) (runs : List Run) (m : ℕ) (a : Block) → block_at per runs Plain m ≡ Some a → a.kind ≡ Plain
sector_kind per runs m a lies = kind-block_at per runs Plain m a (sym lies)

record_kind : (per : ℕ) (e : Extents) (m : ℕ) (a : Block) → record_block per e m ≡ Some a → a.kind ≡ FileRec
record_kind per e m a lies = kind-block_at per e.runs FileRec m a (sym lies)

-- two places of runs in which no cluster lies twice
places_apart : (per : ℕ) (runs : List Run) (kind : BlockKind) (m n : ℕ) (a b : Block) → 0 < per → AreOnce runs → m ≢ n → block_at per runs kind m ≡ Some a → block_at per runs kind n ≡ Some b → same_block a b ≡ false
places_apart per runs kind m n a b some all other first second = false_from_ne_true (same_block a b) (λ same. other (one_place per runs kind m n a b some all first second (shares_itself a b same)))

mirror_kind : stream_kind mirror_key ≡ FileRec
unfolding stream_kind
mirror_kind = refl

bitmap_kind : stream_kind bitmap_key ≡ Plain
unfolding stream_kind
bitmap_kind = refl

same_runs : (o : Option Stream) (e : Extents) → extents_or o ≡ e → runs_in o ≡ e.runs
same_runs None e is = ap (λ (x : Extents). x.runs) is
same_runs (Some (Held value)) e is = ap (λ (x : Extents). x.runs) is
same_runs (Some (Placed f)) e is = ap (λ (x : Extents). x.runs) is

-- ---- a place in runs that follow one another, none of them sparse

is_there : (v : ℕ) (r : Run) → is_hole r ≡ false → is_some (lcn_in v (Some r)) ≡ true
is_there v r whole = by_lcn r.lcn whole
  where
    by_lcn : (o : Option ℕ) → not (is_some o) ≡ false → is_some (option_map (λ (lcn : ℕ). lcn + (v - r.vcn)) o) ≡ true
    by_lcn None is = absurd cc
    by_lcn (Some lcn) is = refl

taken_here : (v : ℕ) (r : Run) (t : Bool) (rest : Option Run) → t ≡ true → is_hole r ≡ false → is_some (lcn_in v (cond t (Some r) rest)) ≡ true
taken_here v r true rest here whole = is_there v r whole
taken_here v r false rest here whole = absurd cc

taken_there : (v : ℕ) (r : Run) (t : Bool) (rest : Option Run) → is_hole r ≡ false → is_some (lcn_in v rest) ≡ true → is_some (lcn_in v (cond t (Some r) rest)) ≡ true
taken_there v r true rest whole there = is_there v r whole
taken_there v r false rest whole there = there

found_at : (runs : List Run) (n v : ℕ) → Follow 0 n runs → list_any is_hole runs ≡ false → n ≤ v → v < n + total_clusters runs → is_some (lcn_in v (find (holds v v) runs)) ≡ true
found_at [] n v follow whole low high = absurd (omega (arith, low, high))
found_at (r ∷ runs) n v follow whole low high =
    let parts = or_parts (is_hole r) (list_any is_hole runs) whole in
    let within = follow.0.within in
    let starts : r.vcn ≡ n = follow.0.vcn ∙ omega (arith, within) in
    elim (cases_lt v (n + r.len)) [
      | inl less ↦ taken_here v r (holds v v r) (find (holds v v) runs) (and_from (leb r.vcn v) (ltb v (r.vcn + r.len)) (le-leb r.vcn v (omega (arith, starts, low))) (lt-ltb v (r.vcn + r.len) (omega (arith, starts, less)))) parts.0
      | inr ge ↦ taken_there v r (holds v v r) (find (holds v v) runs) parts.0 (found_at runs (n + r.len) v follow.1 parts.1 ge (omega (arith, high)))
    ]

mapped : (f : ℕ → Block) (o : Option ℕ) → is_some o ≡ true → is_some (option_map f o) ≡ true
mapped f None is = absurd cc
mapped f (Some x) is = refl

lies_by : (per s : ℕ) (runs : List Run) → HasSpelling 0 runs → list_any is_hole runs ≡ false → 1 * s / per < total_clusters runs → is_some (block_at per runs Plain s) ≡ true
unfolding block_at
lies_by per s runs spelled whole below =
    let last : 1 * s + 1 - 1 ≡ 1 * s = omega arith in
    mapped (λ lcn. record { first = lcn * per + 1 * s % per; kind = Plain }) (lcn_in (1 * s / per) (find (holds (1 * s / per) ((1 * s + 1 - 1) / per)) runs))
    (ap (λ (x : ℕ). is_some (lcn_in (1 * s / per) (find (holds (1 * s / per) (x / per)) runs))) last ∙ found_at runs 0 (1 * s / per) spelled whole (omega arith) (omega (arith, below)))

in_clusters : (per total real i : ℕ) → per ≡ 8 → real ≤ total * (512 * per) → i / 8 < real → 1 * (i / 8 / 512) / per < total
in_clusters per total real i eight = subst (λ (p : ℕ). real ≤ total * (512 * p) → i / 8 < real → 1 * (i / 8 / 512) / p < total) (sym eight) (λ least low. omega (arith, least, low))

-- the first record lies in a cluster
some_total : (per total real : ℕ) → per ≡ 8 → real ≤ total * (512 * per) → 0 < real → 2 * 0 / per < total
some_total per total real eight = subst (λ (p : ℕ). real ≤ total * (512 * p) → 0 < real → 2 * 0 / p < total) (sym eight) (λ least some. omega (arith, least, some))

-- ---- the bits of a bitmap, wherever it stands

none_past : (c : Content) (per : ℕ) (e : Extents) (k : ℕ) → e.initialised ≤ k → byte_at c per e k ≡ 0
unfolding byte_at
none_past c per e k past = ap (λ (t : Bool). cond t (slice_index (sector_bytes c (block_at per e.runs Plain (k / 512))) (k % 512)) 0) (le-ltb k e.initialised past)

as_bits : (c : Content) (per : ℕ) (s : Stream) (i : ℕ) → i / 8 < real_size s → byte_bit (stream_bytes c per s) i ≡ bitmap_bit c per s i
unfolding extent_bytes
as_bits c per (Held value) i within = refl
as_bits c per (Placed e) i within = ap (λ (y : ℕ). is_one y (i % 8)) (get_or-map-range_with_len (byte_at c per e) 0 e.real (i / 8) (i / 8) 0 within (omega arith))

-- drafts that have the same in each of its sectors
same_numbers : (c : Content) (per : ℕ) (s : Stream) (i : ℕ) (old new : List Touched) → HasSizes c → IsKept old → IsKept new → ((m : ℕ) (b : Block) → block_at per (runs_in (Some s)) Plain m ≡ Some b → body_in (bodies_of new) b ≡ body_in (bodies_of old) b)
    → bitmap_bit (drafted new c) per s i ≡ bitmap_bit (drafted old c) per s i
same_numbers c per (Held value) i old new sized kept kept_new same = refl
same_numbers c per (Placed e) i old new sized kept kept_new same = elim (cases_lt (i / 8) e.initialised) [
  | inl low ↦ same_bit c per e i old new sized kept kept_new low (λ b lies. same (i / 8 / 512) b lies)
  | inr past ↦ ap (λ (y : ℕ). is_one y (i % 8)) (none_past (drafted new c) per e (i / 8) past ∙ sym (none_past (drafted old c) per e (i / 8) past))
]

-- ---- a record in use

abbrev Fits : Attr → Type 0
Fits a = has_fitting_pairs a ≡ true

all_fit : (attrs : List Attr) → list_all has_fitting_pairs attrs ≡ true → All Fits attrs
all_fit [] all = All-nil Fits
all_fit (a ∷ attrs) all = (let parts = and_parts (has_fitting_pairs a) (list_all has_fitting_pairs attrs) all in All-cons Fits a attrs parts.0 (all_fit attrs parts.1))

fit_all : (attrs : List Attr) → All Fits attrs → list_all has_fitting_pairs attrs ≡ true
fit_all [] all = refl
fit_all (a ∷ attrs) all = and_from (has_fitting_pairs a) (list_all has_fitting_pairs attrs) (All-head Fits a attrs all) (fit_all attrs (All-tail Fits a attrs all))

valued_by : (kind : ℕ) (name value : List ℕ) (r : Record) (attributes : List Attr) → IsInUse r → IsInUse (valued_first kind name value r attributes)
unfolding has_all_pairs
valued_by kind name value r [] used = used
valued_by kind name value r (a ∷ others) used = record {
  flag = used.flag;
  pairs = fit_all (valued_first kind name value r (a ∷ others)).attrs (all_with Fits kind name (valued_attr value a) r.attrs refl (all_fit r.attrs used.pairs));
}

-- the new bitmap in clusters has a spelling
bitmap_in_use : (per : ℕ) (more : List Run) (old new : Stream) (q : Record) → BitmapBecomes per more old new → HasSpelling 0 more → IsInUse q → IsInUse (with_bitmap per new q)
bitmap_in_use per more (Held value) (Held bytes) q becomes spelled used = valued_by bitmap_type [] bytes q (attributes_of bitmap_type [] q.attrs) used
bitmap_in_use per more (Held value) (Placed f) q k spelled used = written_read.placed per bitmap_type [] f q (subst (HasSpelling 0) (sym k.runs) (follow-grown [] more tt spelled k.few)) used
bitmap_in_use per more (Placed e) (Held bytes) q becomes spelled used = absurd becomes
bitmap_in_use per more (Placed e) (Placed f) q k spelled used = written_read.placed per bitmap_type [] f q (subst (HasSpelling 0) (sym k.runs) (follow-grown e.runs more k.spelled spelled k.few)) used

-- ---- the edit

module _ (c : Content) (g : Geometry) (clusters : ℕ) (v : Volume) (bits : List Bool) (bitmap mirror : Extents) (t : Table) (b : Bitmap) (old new : List Touched) (after : Table) (marked : Bitmap) (eight : g.per_cluster ≡ 8) (state : Stands (drafted old c) g clusters v)
    (k : GrowsOfVolume c v bits bitmap mirror t b old new after marked) where
  abbrev d : Content
  d = drafted old c

  abbrev per : ℕ
  per = v.per

  abbrev more : List Run
  more = table_runs bits t

  abbrev bits_more : List Run
  bits_more = numbers_runs v.per bits t

  abbrev f : Extents
  f = longer_table v.per more v.table

  abbrev count : ℕ
  count = record_count v.table

  abbrev lb : Bitmap
  lb = k.grows.longer.bitmap

  abbrev was : Stream
  was = t.bitmap.stream

  -- the stream that gets room: the old one, or that of the value that leaves
  abbrev taking : Stream
  taking = numbers_in per bits t

  abbrev left : List ℕ
  left = k.grows.longer.leaving

  which : Stays (bitmap_size t) (bitmap_behind per bits t) was ⊎ Leaves (bitmap_size t) (bitmap_behind per bits t) was
  which = ways (bitmap_size t) (bitmap_behind per bits t) was

  abbrev is : Stream
  is = after.bitmap.stream

  abbrev s : Record
  s = written_record after.bitmap.file

  per_8 : v.per ≡ 8
  per_8 = per_is d g clusters v eight state

  start : BeginsAtBoot d g clusters v
  start = begins d g clusters v state

  counted : count_of v ≡ count
  counted = count_is d g clusters v state.loaded

  -- ---- the table of the volume

  spelled : HasSpelling 0 v.table.runs
  spelled = subst (λ (e : Extents). HasSpelling 0 e.runs) k.table k.stands.records.spelled

  room : total_clusters v.table.runs + 2048 ≤ cluster_limit
  room = subst (λ (e : Extents). total_clusters e.runs + 2048 ≤ cluster_limit) k.table k.stands.records.total

  own : OwnRecord d v table_file t.bitmap.file
  own = table_own d g clusters v t.bitmap.file state k.file

  records_were : stream_of data_type [] t.bitmap.file.attrs ≡ Some (Placed v.table)
  records_were = table_records d g clusters v t.bitmap.file state k.file

  data_fits : fits_volume v.per v.clusters (Some (Placed v.table)) ≡ true
  data_fits = table_fits d g clusters v t.bitmap.file state k.file

  bitmap_fits : fits_volume v.per v.clusters (Some was) ≡ true
  bitmap_fits = (numbers_fit d g clusters v t.bitmap.file state k.file was k.stream).1

  sizes_old : (v.table.initialised ≤ v.table.real) × (v.table.real ≤ total_clusters v.table.runs * (512 * v.per))
  sizes_old = sizes_lawful v.per v.clusters v.table data_fits

  -- ---- the clusters that came

  few : length bits ≤ cluster_limit
  few = k.stands.few

  size_of : numbers_bytes t ≡ (count + 256 + 7) / 8
  size_of = ap (λ (e : Extents). (record_count e + 256 + 7) / 8) k.table

  large : (count + 256 + 7) / 8 ≤ bitmap_size t
  large = (let least = at_least (numbers_bytes t) was in let is_size = size_of in omega (arith, least, is_size))

  small : bitmap_size t ≤ 131072
  small = (let most = k.few in let is_size = size_of in size_small (length bits) (numbers_bytes t) 131072 was k.stands.stream (omega (arith, is_size, most)) (omega arith))

  -- the bitmap of numbers wants few clusters
  wants_few : (e : Extents) → taking ≡ Placed e → clusters_for per (bitmap_size t) ≤ cluster_limit
  wants_few e same =
      ap_le (bitmap_size t) small
    where
      ap_le : (n : ℕ) → n ≤ 131072 → clusters_for per n ≤ cluster_limit
      ap_le n low = subst (λ (p : ℕ). clusters_for p n ≤ cluster_limit) (sym per_8) (omega (arith, low))

  taken : MayTake v.clusters (cluster_bits d v) more
  taken = subst (λ (n : ℕ). MayTake n (cluster_bits d v) more) k.count (own_taken per bits (cluster_bits d v) t few k.free k.space k.stands)

  bits_taken : MayTake v.clusters (cluster_bits d v) bits_more
  bits_taken = subst (λ (n : ℕ). MayTake n (cluster_bits d v) bits_more) k.count (numbers_taken per bits (cluster_bits d v) t few k.free k.space k.stands wants_few)

  size : total_clusters more ≡ 64
  size = own_size per bits (cluster_bits d v) t few k.free k.space k.stands

  few_clusters : clusters_for per (bitmap_size t) ≤ 2048
  few_clusters = (let most = small in subst (λ (p : ℕ). clusters_for p (bitmap_size t) ≤ 2048) (sym per_8) (omega (arith, most)))

  bytes_few : (runs : List Run) → total_clusters runs ≤ cluster_limit → total_clusters runs * (512 * per) < 2 ^ 64
  bytes_few runs low = subst (λ (p : ℕ). total_clusters runs * (512 * p) < 2 ^ 64) (sym per_8) (omega (arith, low))

  -- the sizes of the stream that gets room, where it has clusters or gets its first ones
  sizes_by : (e : Extents) → taking ≡ Placed e → (e.initialised ≤ e.real) × ((e.real ≤ total_clusters e.runs * (512 * per)) ⊎ (e.real ≤ bitmap_size t))
  sizes_by e same = elim which [
    | inl stays ↦
        (let fits : fits_volume v.per v.clusters (Some (Placed e)) ≡ true = subst (λ (x : Stream). fits_volume v.per v.clusters (Some x) ≡ true) (sym stays.same ∙ same) bitmap_fits in
        let sizes = sizes_lawful v.per v.clusters e fits in
        (sizes.0, inl sizes.1))
    | inr leaves ↦
        (let new : Placed (unplaced (bitmap_size t)) ≡ Placed e = sym leaves.stands ∙ same in
        let its : unplaced (bitmap_size t) ≡ e = cc in
        subst (λ (x : Extents). (x.initialised ≤ x.real) × ((x.real ≤ total_clusters x.runs * (512 * per)) ⊎ (x.real ≤ bitmap_size t))) its (omega arith, inr (omega arith)))
  ]

  grows_by : (e : Extents) → taking ≡ Placed e → MayGrow (length bits) e
  grows_by e same = standing_grows (length bits) (numbers_bytes t) (bitmap_behind per bits t) e k.stands.stream same

  may_by : (x : Stream) → taking ≡ x → MayBecome per (bitmap_size t) (more_for per (bitmap_size t) (behind_records bits t) x) x
  may_by (Held value) same = refl
  may_by (Placed e) same =
      let grows = grows_by e same in
      let sizes = sizes_by e same in
      let total = numbers_size per bits (cluster_bits d v) t few k.free k.space k.stands e same in
      record {
        spelled = grows.spelled;
        few = (let all = grows.total in let least = wants_few e same in let few_more = few_clusters in omega (arith, all, total, few_more));
        total = total;
        lawful = sizes.0;
        room = sizes.1;
      }

  may : MayBecome per (bitmap_size t) bits_more taking
  may = may_by taking refl

  -- ---- what was put, in these words

  records_are : k.grows.records.extents ≡ f
  records_are = k.grows.is_records.extents ∙ ap (λ (e : Extents). larger (lengthened per more e)) k.table

  abbrev file_1 : Record
  file_1 = placed_record per data_type [] f (placed_record per data_type [] (lengthened per more v.table) t.bitmap.file)

  abbrev q : Record
  q = placed_record per data_type [] f t.bitmap.file

  some_data : (a : Attr) × (others : List Attr) × (attributes_of data_type [] t.bitmap.file.attrs ≡ a ∷ others)
  unfolding stream_of
  some_data = some_attributes (attributes_of data_type [] t.bitmap.file.attrs) (Placed v.table) records_were

  file_1_is : k.grows.records.file ≡ q
  file_1_is =
      k.grows.is_records.file
      ∙ ap (λ (e : Extents). placed_record per data_type [] (larger (lengthened per more e)) (placed_record per data_type [] (lengthened per more e) t.bitmap.file)) k.table
      ∙ placed_again per data_type [] (lengthened per more v.table) f t.bitmap.file some_data.0 some_data.1 some_data.2

  some_bits : (a : Attr) × (others : List Attr) × (attributes_of bitmap_type [] q.attrs ≡ a ∷ others)
  unfolding stream_of
  some_bits =
      let first : (a : Attr) × (others : List Attr) × (attributes_of bitmap_type [] t.bitmap.file.attrs ≡ a ∷ others) = some_attributes (attributes_of bitmap_type [] t.bitmap.file.attrs) was k.stream in
      (first.0, first.1, placed_others per data_type bitmap_type [] [] f t.bitmap.file (inl (λ e. omega (arith, e))) ∙ first.2)

  abbrev base : Bitmap
  base = in_file k.grows.records.file t.bitmap

  stands_as : standing (bitmap_size t) base ≡ taking
  stands_as = ap (λ (r : Record). standing (bitmap_size t) (in_file r t.bitmap)) k.grows.is_records.file

  longer_is : lb ≡ with_room per (bitmap_size t) bits_more taking base
  longer_is = k.grows.is_longer.bitmap ∙ ap₂ (λ (runs : List Run) (x : Stream). with_room per (bitmap_size t) (more_for per (bitmap_size t) (with_runs runs bits) x) x base) k.grows.is_records.taken stands_as

  more_are : k.grows.longer.taken.items ≡ bits_more
  more_are = k.grows.is_longer.taken ∙ ap₂ (λ (runs : List Run) (x : Stream). more_for per (bitmap_size t) (with_runs runs bits) x) k.grows.is_records.taken stands_as

  left_are : left ≡ leaving was taking (bitmap_size t)
  left_are = k.grows.is_longer.leaves ∙ ap (λ (x : Stream). leaving was x (bitmap_size t)) stands_as

  number : lb.number ≡ 0
  number = ap (λ (x : Bitmap). x.number) longer_is ∙ same_number taking ∙ k.stands.number
    where
      same_number : (x : Stream) → (with_room per (bitmap_size t) bits_more x base).number ≡ t.bitmap.number
      same_number (Held value) = refl
      same_number (Placed e) = refl

  -- the drafts between: record 0 is put, then what left it, the numbers' bits are clear, the clusters' set one after the other
  abbrev first : List Touched
  first = with_record c per f mirror lb old

  abbrev moved : List Touched
  moved = with_leaving c per lb.stream left first

  abbrev cleared : List Touched
  cleared = k.grows.put.0

  abbrev marks : List Touched
  marks = k.grows.put.1

  put_numbers : PutsInto lb.stream c per f mirror lb count 256 false moved cleared after.bitmap
  put_numbers =
      subst (λ (n : ℕ). PutsInto lb.stream c per f mirror lb n 256 false moved cleared after.bitmap) (ap record_count k.table)
      (subst (λ (e : Extents). PutsTable c per e mirror lb left (record_count t.extents) old cleared after.bitmap) records_are k.grows.put.2)

  -- ---- record 0 has a spelling, each time that it is put

  first_room : fits_room lb.file ≡ Ok tt
  first_room =
      ap fits_room (record_grown per bits (with_runs k.grows.records.taken.items bits) t k.grows.records (in_file k.grows.records.file t.bitmap) k.grows.longer k.grows.is_records (ap (λ (runs : List Run). with_runs runs bits) k.grows.is_records.taken) refl k.grows.is_longer)
      ∙ k.room

  is_data : IsPlaceable data_type
  is_data = record { not_info = refl; not_name = refl }

  table_spelled : HasSpelling 0 f.runs
  table_spelled = follow-grown v.table.runs more spelled taken.spelled (let few_all = room in let sum = size in omega (arith, few_all, sum))

  table_fields : HasFields f
  table_fields =
      let real : v.table.real < 2 ^ 31 = subst (λ (e : Extents). e.real < 2 ^ 31) k.table k.stands.records.real in
      let initialised : v.table.initialised < 2 ^ 31 = subst (λ (e : Extents). e.initialised < 2 ^ 31) k.table k.stands.records.initialised in
      record { allocated = bytes_few (grown v.table.runs more) (let few_all = room in let sum = size in omega (arith, total_grown v.table.runs more, few_all, sum)); real = omega (arith, real); initialised = omega (arith, initialised) }

  table_count : length f.runs ≤ 2 ^ 16
  table_count =
      let few_runs : length v.table.runs + 2048 ≤ 2 ^ 16 = subst (λ (e : Extents). length e.runs + 2048 ≤ 2 ^ 16) k.table k.stands.records.few in
      let came = own_count per bits (cluster_bits d v) t few k.free k.space k.stands in
      omega (arith, few_runs, came, grown_count v.table.runs more)

  base_is : IsBitmap base
  base_is = record {
    number = k.stands.bitmap.number;
    kind = k.stands.bitmap.kind;
    fits = subst FitsButRoom (sym file_1_is) (fits_placed per data_type [] f t.bitmap.file (let eight_is = per_8 in omega (arith, eight_is)) table_spelled table_count table_fields is_data k.stands.bitmap.fits);
    stream = k.stands.bitmap.stream;
  }

  -- a value that stays is the old one
  held_was : (value : List ℕ) → taking ≡ Held value → was ≡ Held value
  held_was value same = elim which [
    | inl stays ↦ sym stays.same ∙ same
    | inr leaves ↦ (let other : Placed (unplaced (bitmap_size t)) ≡ Held value = sym leaves.stands ∙ same in absurd cc)
  ]

  longer_by : (x : Stream) → taking ≡ x → MayBecome per (bitmap_size t) (more_for per (bitmap_size t) (behind_records bits t) x) x → HasSpelling 0 (more_for per (bitmap_size t) (behind_records bits t) x) → MayBeLonger per (bitmap_size t) (more_for per (bitmap_size t) (behind_records bits t) x) x
  longer_by (Held value) same became follow = (held_short (length bits) (numbers_bytes t) value was (held_was value same) k.stands.stream).0
  longer_by (Placed e) same became follow =
      let grows = grows_by e same in
      let most = wants_few e same in
      let came = numbers_count per bits (cluster_bits d v) t few k.free k.space k.stands e same most in
      let few_runs = grows.few in
      let few_more = few_clusters in
      record {
        spelled = follow-grown e.runs (more_for per (bitmap_size t) (behind_records bits t) (Placed e)) grows.spelled follow became.few;
        few = omega (arith, few_runs, came, few_more, grown_count e.runs (more_for per (bitmap_size t) (behind_records bits t) (Placed e)));
        allocated = bytes_few (grown e.runs (more_for per (bitmap_size t) (behind_records bits t) (Placed e))) (let all_few = became.few in omega (arith, total_grown e.runs (more_for per (bitmap_size t) (behind_records bits t) (Placed e)), all_few));
        real = grows.real;
        initialised = grows.initialised;
      }

  short_for : (value : List ℕ) → taking ≡ Held value → bitmap_size t ≤ 2 ^ 16
  short_for value same = (held_short (length bits) (numbers_bytes t) value was (held_was value same) k.stands.stream).1

  spelled_both : IsSpelled per count lb after.bitmap
  spelled_both =
      both_spelled c per f mirror (bitmap_size t) count bits_more base some_bits.0 some_bits.1 (ap₂ (λ (kind : ℕ) (x : Record). attributes_of kind [] x.attrs) k.kind file_1_is ∙ some_bits.2) per_8 moved cleared (let most = small in omega (arith, most)) base_is large taking lb
      after.bitmap longer_is (longer_by taking refl may bits_taken.spelled) short_for first_room put_numbers

  put_owners : PutsOwners c per f mirror more bits_more b cleared marks marked
  put_owners =
      subst (λ (l : List Run). PutsOwners c per f mirror more l b cleared marks marked) more_are
      (subst (λ (l : List Run). PutsOwners c per f mirror l k.grows.longer.taken.items b cleared marks marked) k.grows.is_records.taken
      (subst (λ (e : Extents). PutsOwners c per e mirror k.grows.records.taken.items k.grows.longer.taken.items b cleared marks marked) records_are k.grows.put.3))

  put_empties : new ≡ with_empty_records c per f (zeros 1024) count 256 marks
  put_empties = k.grows.put.4 ∙ ap₂ (λ (e : Extents) (n : ℕ). with_empty_records c per e (zeros 1024) n 256 marks) records_are (ap record_count k.table)

  abbrev between : List Touched
  between = put_owners.1

  own_runs : PutsRuns c per bitmap true more cleared between × (put_owners.0 ≡ b)
  own_runs = runs_as c per f mirror bitmap true v.clusters k.marks.below more b cleared between put_owners.0 k.marks_are taken.inside put_owners.2

  other_runs : PutsRuns c per bitmap true bits_more between marks × (marked ≡ put_owners.0)
  other_runs = runs_as c per f mirror bitmap true v.clusters k.marks.below bits_more put_owners.0 between marks marked (ap (λ (x : Bitmap). x.stream) own_runs.1 ∙ k.marks_are) bits_taken.inside put_owners.3

  numbers : IsLongerNumbers per (count + 256) bits_more taking q lb after.bitmap
  numbers =
      longer_numbers c per f mirror (count + 256) count (bitmap_size t) bits_more q some_bits.0 some_bits.1 some_bits.2 per_8 moved cleared refl large base k.kind file_1_is taking lb after.bitmap longer_is may first_room spelled_both.room put_numbers

  becomes_now : BitmapBecomes per bits_more was is
  becomes_now = becomes_of per bits_more (bitmap_size t) (bitmap_behind per bits t) was is which numbers.becomes

  wider : IsWider v bits_more was is
  wider = becomes_wider d g clusters v bits_more eight state bits_taken was is becomes_now bitmap_fits

  -- ---- clusters lie once

  table_apart_once : AreOnce f.runs
  table_apart_once x =
      let sum = uses-grown v.table.runs more x in
      let own_once = taken.once x in
      let all_once = once d g clusters v state x in
      let some = subst (λ (l : List Run). uses l x ≤ uses (volume_runs v.files) x) (runs_of_table d g clusters v start) (stream_of_volume v table_key x) in
      elim (cases_lt 0 (uses more x)) [
        | inl came ↦ (let free = was_free d g clusters v more eight state taken x (omega (arith, came)) in omega (arith, sum, own_once, some, free))
        | inr none ↦ omega (arith, sum, all_once, some, none)
      ]

  is_numbers : stream_at v numbers_key ≡ Some was
  is_numbers = ap (file_stream bitmap_type []) k.file ∙ k.stream

  numbers_once : AreOnce (runs_in (Some is))
  numbers_once x =
      let sum = wider.balance x in
      let own_once = bits_taken.once x in
      let all_once = once d g clusters v state x in
      let some = subst (λ (o : Option Stream). uses (runs_in o) x ≤ uses (volume_runs v.files) x) is_numbers (stream_of_volume v numbers_key x) in
      elim (cases_lt 0 (uses bits_more x)) [
        | inl came ↦ (let free = was_free d g clusters v bits_more eight state bits_taken x (omega (arith, came)) in omega (arith, sum, own_once, some, free))
        | inr none ↦ omega (arith, sum, all_once, some, none)
      ]

  own_sectors : HasApartSectors per lb.stream
  own_sectors = apart_by lb.stream (subst AreOnce numbers.runs numbers_once)
    where
      apart_by : (x : Stream) → AreOnce (runs_in (Some x)) → HasApartSectors per x
      apart_by (Held value) all = tt
      apart_by (Placed e) all = λ m n a a2 other one two. places_apart per e.runs Plain m n a a2 state.some all other one two

  -- ---- what is put, as bodies

  step_1 : Goes (IsMirrored per f mirror 0) (IsMirrored per f mirror 0) old first
  step_1 = subst (λ (n : ℕ). Goes (IsMirrored per f mirror n) (IsMirrored per f mirror n) old first) number (bitmap_file_goes c per f mirror lb old k.sized k.kept spelled_both.first_is first_room)

  step_left : Goes (IsSectorOf per (runs_in (Some lb.stream))) (IsLeft per lb.stream (length left)) first moved
  step_left = leaving_goes c per lb.stream left first k.sized step_1.kept

  step_2 : Goes (IsOfBitmap per f mirror 0 lb.stream) (IsComing per lb.stream is) moved cleared
  step_2 = subst (λ (n : ℕ). Goes (IsOfBitmap per f mirror n lb.stream) (IsComing per lb.stream is) moved cleared) number (bitmap_goes c per f mirror lb count 256 false moved cleared k.sized step_left.kept lb.stream after.bitmap refl spelled_both.last_is spelled_both.room put_numbers)

  step_3 : Goes (IsSectorOf per bitmap.runs) IsNone cleared between
  step_3 = runs_go c per bitmap true more cleared between k.sized step_2.kept own_runs.0

  step_4 : Goes (IsSectorOf per bitmap.runs) IsNone between marks
  step_4 = runs_go c per bitmap true bits_more between marks k.sized step_3.kept other_runs.0

  step_5 : Goes (IsRecordFrom per f count 256) (IsRecordFrom per f count 256) marks new
  step_5 = subst (Goes (IsRecordFrom per f count 256) (IsRecordFrom per f count 256) marks) (sym put_empties) (empties_go c per f (zeros 1024) count 256 marks k.sized (zeros_long 1024) step_4.kept)

  abbrev IsAmong : Block → Type 0
  IsAmong a = IsMirrored per f mirror 0 a ⊎ IsSectorOf per (runs_in (Some lb.stream)) a ⊎ IsSectorOf per bitmap.runs a ⊎ IsRecordFrom per f count 256 a

  abbrev IsSure : Block → Type 0
  IsSure a = IsMirrored per f mirror 0 a ⊎ IsLeft per lb.stream (length left) a ⊎ IsComing per lb.stream is a ⊎ IsRecordFrom per f count 256 a

  of_bitmap : (a : Block) → IsOfBitmap per f mirror 0 lb.stream a → IsAmong a
  of_bitmap a (inl own) = inl own
  of_bitmap a (inr sector) = inr (inl sector)

  all : Goes IsAmong IsSure old new
  all =
      let marking : Block → Type 0 = IsSectorOf per bitmap.runs in
      let fresh : Block → Type 0 = IsRecordFrom per f count 256 in
      let coming : Block → Type 0 = IsComing per lb.stream is in
      let leaves : Block → Type 0 = IsLeft per lb.stream (length left) in
      behind IsAmong (IsMirrored per f mirror 0) (λ a. leaves a ⊎ coming a ⊎ fresh a) IsSure old first new (λ a x. x) (turned (IsMirrored per f mirror 0) IsAmong (IsMirrored per f mirror 0) (IsMirrored per f mirror 0) old first (λ a x. inl x) (λ a x. x) step_1)
      (behind IsAmong leaves (λ a. coming a ⊎ fresh a) (λ a. leaves a ⊎ coming a ⊎ fresh a) first moved new (λ a x. x) (turned (IsSectorOf per (runs_in (Some lb.stream))) IsAmong leaves leaves first moved (λ a x. inr (inl x)) (λ a x. x) step_left)
      (behind IsAmong coming fresh (λ a. coming a ⊎ fresh a) moved cleared new (λ a x. x) (turned (IsOfBitmap per f mirror 0 lb.stream) IsAmong coming coming moved cleared of_bitmap (λ a x. x) step_2)
      (behind IsAmong IsNone fresh fresh cleared between new (λ a x. inr x) (turned marking IsAmong IsNone IsNone cleared between (λ a x. inr (inr (inl x))) (λ a x. x) step_3)
      (behind IsAmong IsNone fresh fresh between marks new (λ a x. inr x) (turned marking IsAmong IsNone IsNone between marks (λ a x. inr (inr (inl x))) (λ a x. x) step_4)
      (turned fresh IsAmong fresh fresh marks new (λ a x. inr (inr (inr x))) (λ a x. x) step_5)))))

  abbrev bodies : List NewBody
  bodies = all.blocks.bodies

  content_is : content_with d bodies ≡ drafted new c
  content_is = content_goes c bodies old new k.sized k.kept all.kept all.blocks.whole all.blocks.same

  -- what the draft has of a block that is surely put is what is put there
  put_here : (a : Block) (bytes : List ℕ) → IsSure a → body_in (bodies_of new) a ≡ Some bytes → body_in bodies a ≡ Some bytes
  put_here a bytes sure final =
      let there = all.blocks.put a sure in
      same_bytes (body_in bodies a) (body_in (bodies_of old) a) bytes there.0 (sym (all.blocks.same a ∙ either (bodies_of old) bodies a all.blocks.whole.own) ∙ final) there.1

  -- ---- where it lies

  places_0 : block_at per f.runs FileRec 0 ≡ block_at per v.table.runs FileRec 0
  places_0 = places-grown v.per v.table.runs more FileRec 0 spelled taken.spelled (let few_all = room in let sum = size in omega (arith, few_all, sum)) (in_one d g clusters v more eight state taken FileRec 0) below_0
    where
      below_0 : 2 * 0 / v.per < total_clusters v.table.runs
      below_0 = (let begun = slot_begins d v table_file t.bitmap.file own.slot in let low = sizes_old.0 in some_total v.per (total_clusters v.table.runs) v.table.real per_8 sizes_old.1 (omega (arith, begun, low)))

  in_mirror : (a : Block) → record_block per mirror 0 ≡ Some a → IsOwnedIn marks_streams v a
  in_mirror a there = record {
    stream = mirror_key;
    chosen = refl;
    number = 0;
    lies = ap₂ (λ (runs : List Run) (kind : BlockKind). block_at per runs kind 0) (same_runs (stream_at v mirror_key) mirror k.mirror_is) mirror_kind ∙ there;
  }

  in_marks : (a : Block) → IsSectorOf per bitmap.runs a → IsOwnedIn marks_streams v a
  in_marks a there = record {
    stream = bitmap_key;
    chosen = refl;
    number = there.0;
    lies = ap₂ (λ (o : Option Stream) (kind : BlockKind). block_at per (runs_in o) kind there.0) k.marks.stream bitmap_kind ∙ there.1;
  }

  of_table : (a : Block) → IsAmong a → IsOfTable v more is a
  of_table a (inl (inl own)) = inr (inl (sym places_0 ∙ own))
  of_table a (inl (inr other)) = inl (in_mirror a other.1)
  of_table a (inr (inl sector)) = inr (inr (inr (sector.0, ap (λ (l : List Run). block_at per l Plain sector.0) numbers.runs ∙ sector.1)))
  of_table a (inr (inr (inl mark))) = inl (in_marks a mark)
  of_table a (inr (inr (inr fresh))) = inr (inr (inl (fresh.0, fresh.1.0, fresh.1.1.0, fresh.1.1.1)))

  -- ---- record 0

  boot : Block
  boot = boot_block g 0

  boot_lies : record_block per f 0 ≡ Some boot
  unfolding boot
  boot_lies = places_0 ∙ start.first

  some_records : 0 < count
  some_records = (let low = inside_list v.files table_file t.bitmap.file (some_file v table_file t.bitmap.file k.file) in omega (arith, low, counted))

  boot_kind : boot.kind ≡ FileRec
  boot_kind = record_kind per f 0 boot boot_lies

  numbers_bitmap : PutsBitmap c per f mirror lb count 256 false moved cleared after.bitmap
  numbers_bitmap = record { sized = k.sized; kept = step_left.kept; stands = spelled_both.last_is; room = spelled_both.room; own = own_sectors; put = put_numbers }

  lies_0 : record_block per f lb.number ≡ Some boot
  lies_0 = ap (record_block per f) number ∙ boot_lies

  boot_cleared : body_in (bodies_of cleared) boot ≡ Some (own_bytes after.bitmap)
  boot_cleared = elim (bitmap_put.own c per f mirror lb after.bitmap count 256 false moved cleared boot numbers_bitmap lies_0) [
    | inl there ↦ there
    | inr stays ↦
        stays.1
        ∙ away (IsSectorOf per (runs_in (Some lb.stream))) (IsLeft per lb.stream (length left)) first moved boot step_left (λ a there. file_apart a boot (sector_kind per (runs_in (Some lb.stream)) there.0 a there.1) boot_kind)
        ∙ record_here c per f mirror lb.number (own_bytes lb) old (has_mirror mirror lb.number) boot lies_0 ∙ ap (λ (x : Bitmap). Some (own_bytes x)) (sym stays.0)
  ]

  boot_now : body_in (bodies_of new) boot ≡ Some (own_bytes after.bitmap)
  boot_now =
      away (IsRecordFrom per f count 256) (IsRecordFrom per f count 256) marks new boot step_5 (λ a there. places_apart per f.runs FileRec 0 there.0 boot a state.some table_apart_once (λ same. (let low = there.1.0 in omega (arith, same, low, some_records))) boot_lies there.1.1.1)
      ∙ away (IsSectorOf per bitmap.runs) IsNone between marks boot step_4 (λ a there. file_apart a boot (sector_kind per bitmap.runs there.0 a there.1) boot_kind)
      ∙ away (IsSectorOf per bitmap.runs) IsNone cleared between boot step_3 (λ a there. file_apart a boot (sector_kind per bitmap.runs there.0 a there.1) boot_kind)
      ∙ boot_cleared

  used_0 : IsInUse t.bitmap.file
  used_0 = written_read.used d per v.table 0 t.bitmap.file own.slot

  used : IsInUse after.bitmap.file
  used =
      subst IsInUse (sym numbers.file)
      (bitmap_in_use per bits_more was is q becomes_now bits_taken.spelled (written_read.placed per data_type [] f t.bitmap.file (follow-grown v.table.runs more spelled taken.spelled (let few_all = room in let sum = size in omega (arith, few_all, sum))) used_0))

  anew : ReadsAs v bodies table_file s
  unfolding boot
  anew = record {
    block = boot;
    place = start.first;
    bytes = own_bytes after.bitmap;
    put = put_here boot (own_bytes after.bitmap) (inl (inl boot_lies)) boot_now;
    reads = written_read.reads after.bitmap.file (but_room_fits after.bitmap.file spelled_both.last_is.fits) numbers.room used;
  }

  written : IsWritten (table_record per f is t.bitmap.file) s
  written = subst (λ (x : Record). IsWritten x s) numbers.file (written_read.written after.bitmap.file)

  -- ---- the new records

  own_records : HasOwnRecords per after.extents
  own_records = subst (HasOwnRecords per) (sym (k.grows.lies ∙ records_are)) (λ m n a a2 other one two. places_apart per f.runs FileRec m n a a2 state.some table_apart_once other one two)

  empty_now : (m : ℕ) (a : Block) → count ≤ m → m < count + 256 → record_block per f m ≡ Some a → body_in (bodies_of new) a ≡ Some (zeros 1024)
  empty_now m a low high there =
      let same : count ≡ record_count t.extents = ap record_count (sym k.table) in
      grown_read.records c per m bits mirror t after b marked old new a k.grows own_records (omega (arith, same, low)) (omega (arith, same, high)) (subst (λ (e : Extents). record_block per e m ≡ Some a) (sym (k.grows.lies ∙ records_are)) there)

  below_new : (m : ℕ) → 1024 * m < f.initialised → m < count + 256
  below_new m begins_at = (let low = sizes_old.0 in let whole = k.whole in omega (arith, begins_at, low, whole))

  records : (m : ℕ) (a : Block) → count ≤ m → 1024 * m < f.initialised → block_at per f.runs FileRec m ≡ Some a → IsPutBlank bodies a
  records m a past begins_at there =
      let high = below_new m begins_at in
      record { bytes = zeros 1024; put = put_here a (zeros 1024) (inr (inr (inr (m, (past, (high, there)))))) (empty_now m a past high there); unsigned = (zeros_blank 1024).unsigned }

  -- a sector that wasn't initialised, and lies below the initialised size that the bitmap has at first, has some of the bytes that left
  left_below : (m : ℕ) → initialised_in (Some was) ≤ 512 * m → 512 * m < initialised_in (Some taking) → 512 * m < length left
  left_below m low high = elim which [
    | inl stays ↦ (let same : initialised_in (Some taking) ≡ initialised_in (Some was) = ap (λ (x : Stream). initialised_in (Some x)) stays.same in absurd (omega (arith, low, high, same)))
    | inr leaves ↦
        (let same : initialised_in (Some taking) ≡ bitmap_size t = ap (λ (x : Stream). initialised_in (Some x)) leaves.stands in
        let long = filled_long (bitmap_size t) leaves.value in
        let all : length left ≡ length (filled_up (bitmap_size t) leaves.value) = ap length (left_are ∙ leaves.bytes) in
        omega (arith, high, same, long, all))
  ]

  covers : (m : ℕ) (a : Block) → block_at per (runs_in (Some is)) Plain m ≡ Some a → initialised_in (Some was) ≤ 512 * m → 512 * m < initialised_in (Some is) → IsPut bodies a
  covers m a there low high =
      let here : block_at per (runs_in (Some lb.stream)) Plain m ≡ Some a = sym (ap (λ (l : List Run). block_at per l Plain m) numbers.runs) ∙ there in
      elim (cases_lt (512 * m) (initialised_in (Some lb.stream))) [
        | inl less ↦
            (let same = numbers.begins in
            let within = left_below m low (omega (arith, less, same)) in
            let place = in_zeros 0 (length left) m (omega arith) (omega (arith, within)) in
            all.blocks.put a (inr (inl (m, (place.0, place.1, here)))))
        | inr ge ↦ all.blocks.put a (inr (inr (inl (m, (here, (ge, high))))))
      ]

  -- ---- the bits of clusters

  -- no sector of the one bitmap is one of the other
  sectors_apart : (m n : ℕ) (a a2 : Block) → block_at per bitmap.runs Plain m ≡ Some a → block_at per (runs_in (Some is)) Plain n ≡ Some a2 → overlap a a2 ≡ false
  sectors_apart m n a a2 mark sector =
      let in_bitmap : block_at per (runs_in (stream_at v bitmap_key)) Plain m ≡ Some a = ap (λ (o : Option Stream). block_at per (runs_in o) Plain m) k.marks.stream ∙ mark in
      elim (wider.sectors n a2 sector) [
        | inl there ↦ lists_apart per (runs_in (stream_at v bitmap_key)) (runs_in (stream_at v numbers_key)) Plain Plain m n a a2 state.some (streams_apart v bitmap_key numbers_key (once d g clusters v state) (λ same. (let kinds = ap (λ (x : StreamKey). x.kind) same in omega (arith, kinds)))) in_bitmap (ap (λ (o : Option Stream). block_at per (runs_in o) Plain n) is_numbers ∙ there)
        | inr free ↦ free_apart v bitmap_key Plain m a a2 state.some free in_bitmap
      ]

  mark_apart : (m : ℕ) (a : Block) → block_at per bitmap.runs Plain m ≡ Some a → (a2 : Block) → IsOfBitmap per f mirror 0 lb.stream a2 → same_block a a2 ≡ false
  mark_apart m a mark a2 (inl (inl own)) = plain_apart a a2 (sector_kind per bitmap.runs m a mark) (record_kind per f 0 a2 own)
  mark_apart m a mark a2 (inl (inr other)) = plain_apart a a2 (sector_kind per bitmap.runs m a mark) (record_kind per mirror 0 a2 other.1)
  mark_apart m a mark a2 (inr sector) = false_from_ne_true (same_block a a2) (λ same. both_ways (overlap a a2) (sectors_apart m sector.0 a a2 mark (ap (λ (l : List Run). block_at per l Plain sector.0) numbers.runs ∙ sector.1)) (shares_itself a a2 same))

  mark_file : (m : ℕ) (a : Block) → block_at per bitmap.runs Plain m ≡ Some a → (a2 : Block) → IsMirrored per f mirror 0 a2 → same_block a a2 ≡ false
  mark_file m a mark a2 its = mark_apart m a mark a2 (inl its)

  own_marks : HasOwnSectors per bitmap.runs
  own_marks = state_bitmap.own d g clusters v bitmap state k.marks.stream

  lies_at : (x : ℕ) → x < v.clusters → (a : Block) × (block_at per bitmap.runs Plain (x / 8 / 512) ≡ Some a)
  lies_at x low = (let below = k.marks.below in some_of (block_at per bitmap.runs Plain (x / 8 / 512)) (k.marks.lies (x / 8 / 512) (omega (arith, below, low))))

  in_bits : (x : ℕ) → x < v.clusters → x / 8 < bitmap.initialised
  in_bits x low = (let below = k.marks.below in omega (arith, below, low))

  before_marks : (x : ℕ) → x < v.clusters → stream_bit (drafted cleared c) per bitmap x ≡ stream_bit (drafted old c) per bitmap x
  before_marks x low =
      same_bit c per bitmap x moved cleared k.sized step_left.kept step_2.kept (in_bits x low) (λ a there. away (IsOfBitmap per f mirror 0 lb.stream) (IsComing per lb.stream is) moved cleared a step_2 (mark_apart (x / 8 / 512) a there))
      ∙ same_bit c per bitmap x first moved k.sized step_1.kept step_left.kept (in_bits x low)
      (λ a there. away (IsSectorOf per (runs_in (Some lb.stream))) (IsLeft per lb.stream (length left)) first moved a step_left (λ a2 sector. mark_apart (x / 8 / 512) a there a2 (inr sector)))
      ∙ same_bit c per bitmap x old first k.sized k.kept step_1.kept (in_bits x low) (λ a there. away (IsMirrored per f mirror 0) (IsMirrored per f mirror 0) old first a step_1 (mark_file (x / 8 / 512) a there))

  behind_marks : (x : ℕ) → x < v.clusters → stream_bit (drafted new c) per bitmap x ≡ stream_bit (drafted marks c) per bitmap x
  behind_marks x low =
      same_bit c per bitmap x marks new k.sized step_4.kept step_5.kept (in_bits x low)
      (λ a there. away (IsRecordFrom per f count 256) (IsRecordFrom per f count 256) marks new a step_5 (λ a2 fresh. plain_apart a a2 (sector_kind per bitmap.runs (x / 8 / 512) a there) (record_kind per f fresh.0 a2 fresh.1.1.1)))

  -- the bits of runs become set, and the others stay
  set_by : (runs : List Run) (one two : List Touched) (x : ℕ) → IsKept one → PutsRuns c per bitmap true runs one two → x < v.clusters → stream_bit (drafted two c) per bitmap x ≡ (leb 1 (uses runs x) || stream_bit (drafted one c) per bitmap x)
  set_by runs one two x kept put low = elim (cases_lt 0 (uses runs x)) [
    | inl some ↦
        (let at = lies_at x low in
        runs_put.inside c per bitmap x true runs one two at.0 k.sized kept own_marks put (in_bits x low) at.1 some ∙ sym (ap (λ (y : Bool). y || stream_bit (drafted one c) per bitmap x) (le-leb 1 (uses runs x) some)))
    | inr none ↦
        runs_put.others c per bitmap x true runs one two k.sized kept own_marks put (in_bits x low) (omega (arith, none)) ∙ sym (ap (λ (y : Bool). y || stream_bit (drafted one c) per bitmap x) (lt-leb 1 (uses runs x) (omega (arith, none))))
  ]

  swapped : (x y z : Bool) → (y || (x || z)) ≡ (x || y || z)
  swapped true true z = refl
  swapped true false z = refl
  swapped false true z = refl
  swapped false false z = refl

  marked_now : (x : ℕ) → x < v.clusters → bit (cluster_bits (content_with d bodies) v) x ≡ (leb 1 (uses more x) || leb 1 (uses bits_more x) || bit (cluster_bits d v) x)
  marked_now x low =
      ap (λ (y : Content). bit (cluster_bits y v) x) content_is
      ∙ bit_is (drafted new c) v bitmap x k.marks low
      ∙ behind_marks x low
      ∙ set_by bits_more between marks x step_3.kept other_runs.0 low
      ∙ ap (λ (y : Bool). leb 1 (uses bits_more x) || y) (set_by more cleared between x step_2.kept own_runs.0 low)
      ∙ ap (λ (y : Bool). leb 1 (uses bits_more x) || (leb 1 (uses more x) || y)) (before_marks x low ∙ sym (bit_is d v bitmap x k.marks low))
      ∙ swapped (leb 1 (uses more x)) (leb 1 (uses bits_more x)) (bit (cluster_bits d v) x)

  -- ---- the bits of numbers

  number_mark : (m : ℕ) (a : Block) → block_at per (runs_in (Some is)) Plain m ≡ Some a → (a2 : Block) → IsSectorOf per bitmap.runs a2 → same_block a a2 ≡ false
  number_mark m a sector a2 mark = false_from_ne_true (same_block a a2) (λ same. both_ways (overlap a2 a) (sectors_apart mark.0 m a2 a mark.1 sector) (ap (overlap a2) (same_block-is a a2 same) ∙ shares_itself a2 a2 (block_itself a2)))

  same_behind : (i : ℕ) → bitmap_bit (drafted new c) per is i ≡ bitmap_bit (drafted cleared c) per is i
  same_behind i =
      same_numbers c per is i marks new k.sized step_4.kept step_5.kept (λ m a there. away (IsRecordFrom per f count 256) (IsRecordFrom per f count 256) marks new a step_5 (λ a2 fresh. plain_apart a a2 (sector_kind per (runs_in (Some is)) m a there) (record_kind per f fresh.0 a2 fresh.1.1.1)))
      ∙ same_numbers c per is i between marks k.sized step_3.kept step_4.kept (λ m a there. away (IsSectorOf per bitmap.runs) IsNone between marks a step_4 (number_mark m a there))
      ∙ same_numbers c per is i cleared between k.sized step_2.kept step_3.kept (λ m a there. away (IsSectorOf per bitmap.runs) IsNone cleared between a step_3 (number_mark m a there))

  same_before : (i : ℕ) → bitmap_bit (drafted first c) per lb.stream i ≡ bitmap_bit (drafted old c) per lb.stream i
  same_before i =
      same_numbers c per lb.stream i old first k.sized k.kept step_1.kept
      (λ m a there. away (IsMirrored per f mirror 0) (IsMirrored per f mirror 0) old first a step_1 (λ a2 its. file_away m a there a2 its))
    where
      file_away : (m : ℕ) (a : Block) → block_at per (runs_in (Some lb.stream)) Plain m ≡ Some a → (a2 : Block) → IsMirrored per f mirror 0 a2 → same_block a a2 ≡ false
      file_away m a there a2 (inl own) = plain_apart a a2 (sector_kind per (runs_in (Some lb.stream)) m a there) (record_kind per f 0 a2 own)
      file_away m a there a2 (inr other) = plain_apart a a2 (sector_kind per (runs_in (Some lb.stream)) m a there) (record_kind per mirror 0 a2 other.1)

  -- a bitmap that stays where it is has the bits of the old one when it is longer
  same_longer : (i : ℕ) → taking ≡ was → bitmap_bit d per lb.stream i ≡ bitmap_bit d per was i
  same_longer i stays = ap (λ (x : Bitmap). bitmap_bit d per x.stream i) longer_is ∙ ap (λ (x : Stream). bitmap_bit d per (with_room per (bitmap_size t) bits_more x base).stream i) stays ∙ by_stream was refl
    where
      by_stream : (x : Stream) → was ≡ x → bitmap_bit d per (with_room per (bitmap_size t) bits_more x base).stream i ≡ bitmap_bit d per x i
      by_stream (Held value) same = bit_filled (bitmap_size t) value i
      by_stream (Placed e) same = elim (cases_lt (i / 8) e.initialised) [
        | inl low ↦
            (let o = block_at per e.runs Plain (i / 8 / 512) in
            ap (λ (y : ℕ). is_one y (i % 8))
            (byte_of d per (roomier per (bitmap_size t) bits_more e) (i / 8) o low (sym (runs_where e same i) ∙ old_place e same (i / 8 / 512) (omega (arith, low))) ∙ sym (byte_of d per e (i / 8) o low refl)))
        | inr past ↦ ap (λ (y : ℕ). is_one y (i % 8)) (none_past d per (roomier per (bitmap_size t) bits_more e) (i / 8) past ∙ sym (none_past d per e (i / 8) past))
      ]
        where
          runs_where : (x : Extents) → was ≡ Placed x → (j : ℕ) → block_at per (runs_in (Some is)) Plain (j / 8 / 512) ≡ block_at per (grown x.runs bits_more) Plain (j / 8 / 512)
          runs_where x at j = ap (λ (l : List Run). block_at per l Plain (j / 8 / 512)) (numbers.runs ∙ ap (λ (y : Bitmap). runs_in (Some y.stream)) longer_is ∙ ap (λ (y : Stream). runs_in (Some (with_room per (bitmap_size t) bits_more y base).stream)) (stays ∙ at))

          old_place : (x : Extents) → was ≡ Placed x → (m : ℕ) → 512 * m < x.initialised → block_at per (runs_in (Some is)) Plain m ≡ block_at per x.runs Plain m
          old_place x at m low = wider.stays m (subst (λ (y : Stream). 512 * m < initialised_in (Some y)) (sym at) low) ∙ ap (λ (y : Stream). block_at per (runs_in (Some y)) Plain m) at

  bitmap_whole : has_hole (Some was) ≡ false
  bitmap_whole = numbers_whole d g clusters v t.bitmap.file state k.file was k.stream

  -- the new bits lie in its clusters
  lies_in : (i : ℕ) → i < count + 256 → LiesInRun per lb.stream i
  lies_in i low = subst (λ (x : Bitmap). LiesInRun per x.stream i) (sym longer_is) (by_streams taking is refl refl numbers.becomes)
    where
      by_streams : (x y : Stream) → taking ≡ x → is ≡ y → BitmapBecomes per bits_more x y → LiesInRun per (with_room per (bitmap_size t) bits_more x base).stream i
      by_streams (Held value) y at now becomes = tt
      by_streams (Placed e) (Held bytes) at now becomes = absurd becomes
      by_streams (Placed e) (Placed x) at now becomes =
          let fits : fits_volume v.per v.clusters (Some (Placed x)) ≡ true = subst (λ (z : Stream). fits_volume v.per v.clusters (Some z) ≡ true) now wider.fits in
          let enough : count + 256 ≤ 8 * x.real = subst (λ (z : Stream). count + 256 ≤ 8 * real_size z) now numbers.enough in
          let high = (sizes_lawful v.per v.clusters x fits).1 in
          let whole : list_any is_hole x.runs ≡ false = subst (λ (z : Stream). has_hole (Some z) ≡ false) now (wider.holes bitmap_whole) in
          let follow : HasSpelling 0 x.runs = subst (HasSpelling 0) (sym becomes.runs) (follow-grown e.runs bits_more becomes.spelled bits_taken.spelled becomes.few) in
          let there = lies_by per (i / 8 / 512) x.runs follow whole (in_clusters per (total_clusters x.runs) x.real i per_8 high (omega (arith, enough, low))) in
          some_of (block_at per (grown e.runs bits_more) Plain (i / 8 / 512)) (ap (λ (l : List Run). is_some (block_at per l Plain (i / 8 / 512))) (sym becomes.runs) ∙ there)

  -- a value that left stands in its clusters
  abbrev left_extents : Extents
  left_extents = roomier per (bitmap_size t) bits_more (unplaced (bitmap_size t))

  abbrev all_left : List Touched
  all_left = touch_bytes c per left_extents.runs 0 0 left first

  from_first : (n : ℕ) → n - 0 ≡ n
  from_first n = omega arith

  module _ (leaves : Leaves (bitmap_size t) (bitmap_behind per bits t) was) (i : ℕ) (low : i < count + 256) where
    in_place : lb.stream ≡ Placed left_extents
    in_place = ap (λ (x : Bitmap). x.stream) longer_is ∙ ap (λ (x : Stream). (with_room per (bitmap_size t) bits_more x base).stream) leaves.stands

    left_kept : IsKept all_left
    left_kept = subst (λ (x : Stream). IsKept (with_leaving c per x left first)) in_place step_left.kept

    left_lies : LiesInRun per (Placed left_extents) i
    left_lies = subst (λ (x : Stream). LiesInRun per x i) in_place (lies_in i low)

    left_apart : HasOwnSectors per left_extents.runs
    left_apart = subst (λ (x : Stream). HasApartSectors per x) in_place own_sectors

    left_is : left ≡ filled_up (bitmap_size t) leaves.value
    left_is = left_are ∙ leaves.bytes

    left_begun : i / 8 < bitmap_size t
    left_begun = (let least = large in omega (arith, low, least))

    left_within : i / 8 < length left
    left_within = (let long = filled_long (bitmap_size t) leaves.value in let least = left_begun in let same : length left ≡ length (filled_up (bitmap_size t) leaves.value) = ap length left_is in omega (arith, long, least, same))

    left_byte : byte_at (drafted all_left c) per left_extents (i / 8) ≡ slice_index (filled_up (bitmap_size t) leaves.value) (i / 8)
    left_byte =
        byte_there c per left_extents all_left left_lies.0 (i / 8) (slice_index left (i / 8 - 0)) k.sized left_kept left_begun left_lies.1
        (bytes_effects.inside c per left_extents.runs 0 0 (i / 8) left first left_lies.0 k.sized step_1.kept.rises step_1.kept.whole left_apart left_lies.1 (omega arith) (let within = left_within in omega (arith, within)))
        ∙ ap (slice_index left) (from_first (i / 8))
        ∙ ap (λ (l : List ℕ). slice_index l (i / 8)) left_is

    left_bits : bitmap_bit (drafted moved c) per lb.stream i ≡ bitmap_bit d per was i
    left_bits =
        subst (λ (x : Stream). bitmap_bit (drafted (with_leaving c per x left first) c) per x i ≡ bitmap_bit d per was i) (sym in_place)
        (ap (λ (y : ℕ). is_one y (i % 8)) left_byte ∙ bit_filled (bitmap_size t) leaves.value i ∙ sym (ap (λ (x : Stream). bitmap_bit d per x i) leaves.held))

  moved_bits : (i : ℕ) → i < count + 256 → bitmap_bit (drafted moved c) per lb.stream i ≡ bitmap_bit d per was i
  moved_bits i low = elim which [
    | inl stays ↦
        (let none : left ≡ [] = left_are ∙ stays.none in
        ap (λ (l : List Touched). bitmap_bit (drafted l c) per lb.stream i) (none_leaving c per lb.stream left first none) ∙ same_before i ∙ same_longer i stays.same)
    | inr leaves ↦ left_bits leaves i low
  ]

  was_bits : (m : ℕ) → m < count → bitmap_bit d per was m ≡ bit (record_bits d v) m
  was_bits m low =
      let many = records_marked d g clusters v state in
      let sized_as : size_or (record_bitmap v) ≡ real_size was = ap size_or is_numbers in
      sym (as_bits d per was m (omega (arith, low, many, counted, sized_as)))
      ∙ ap (λ (o : Option Stream). byte_bit (bytes_or d per o) m) (sym is_numbers)
      ∙ sym (record_bit d v m (omega (arith, low, counted)))

  numbers_now : (m : ℕ) → m < count + 256 → byte_bit (stream_bytes (content_with d bodies) per is) m ≡ bit (record_bits d v) m
  numbers_now m low =
      let enough = numbers.enough in
      ap (λ (y : Content). byte_bit (stream_bytes y per is) m) content_is
      ∙ as_bits (drafted new c) per is m (omega (arith, low, enough))
      ∙ same_behind m
      ∙ elim (cases_lt m count) [
        | inl within ↦ bitmap_put.others c per f mirror lb after.bitmap count 256 m false moved cleared numbers_bitmap (inl within) ∙ moved_bits m low ∙ was_bits m within
        | inr past ↦ bitmap_put.inside c per f mirror lb after.bitmap count 256 m false moved cleared numbers_bitmap (lies_in m low) past low ∙ sym (past_records d v m (omega (arith, past, counted)))
      ]

  -- ---- all together

  each_of : (others : List NewBody) → AllByRecursion (λ p. IsAmong p.block) others → AllByRecursion (λ p. IsOfTable v more is p.block) others
  each_of [] every = tt
  each_of (p ∷ others) every = (of_table p.block every.0, each_of others every.1)

  edit : GrowsVolumeTable d v t.bitmap.file more was bits_more is s bodies
  edit = record {
    file = k.file;
    bitmap = k.stream;
    spelled = spelled;
    size = size;
    room = (let few_all = room in omega (arith, few_all));
    few = k.few;
    taken = taken;
    becomes = becomes_now;
    bits_taken = bits_taken;
    apart = both_apart per bits (cluster_bits d v) t few k.free k.space k.stands wants_few;
    enough = numbers.enough;
    written = written;
    whole = all.blocks.whole;
    anew = anew;
    each = each_of bodies all.blocks.each;
    records = records;
    covers = covers;
    marked = marked_now;
    numbers = numbers_now;
  }

  result : (others : List NewBody) × (EditsDraft c old new others × GrowsVolumeTable d v t.bitmap.file more was bits_more is s others)
  result = (bodies, (record { same = all.blocks.same; content = content_is }, edit))

  in_order : IsKept new
  in_order = all.kept

  begun : AreBegun (record_count v.table + 256) after.bitmap.stream
  begun = numbers.begun

  -- ---- the new numbers

  unsigned : (o : Option Block) → ((a : Block) → o ≡ Some a → body_in (bodies_of new) a ≡ Some (zeros 1024)) → spare_sequence (block_bytes (drafted new c) o) ≡ 1
  unfolding spare_sequence
  unsigned None zeroed = refl
  unsigned (Some a) zeroed =
      let body : (drafted new c a).bytes ≡ zeros 1024 = drafted_body c new a (zeros 1024) k.sized all.kept (zeroed a refl) in
      let none : is_signed FileRec (drafted new c a).bytes ≡ false = ap (is_signed FileRec) body ∙ (zeros_blank 1024).unsigned in
      ap (λ (t : Bool). cond (t && not (eqb (field 0x10 2 (drafted new c a).bytes) 0)) (field 0x10 2 (drafted new c a).bytes) 1) none

  past_or : (t : Bool) (o : Option Block) → spare_sequence (block_bytes (drafted new c) o) ≡ 1 → spare_sequence (cond t [] (block_bytes (drafted new c) o)) ≡ 1
  unfolding spare_sequence
  past_or true o is_one_there = refl
  past_or false o is_one_there = is_one_there

  sequence : (n : ℕ) → count ≤ n → n < count + 256 → new_sequence (drafted new c) per after.extents n ≡ 1
  sequence n low high = past_or (is_past after.extents n) (record_block per after.extents n) (unsigned (record_block per after.extents n) (λ a there. empty_now n a low high (subst (λ (e : Extents). record_block per e n ≡ Some a) (k.grows.lies ∙ records_are) there)))

pub grown_edit : GrownIsEdit
grown_edit c g clusters v bits bitmap mirror t b old new after marked eight state k = result c g clusters v bits bitmap mirror t b old new after marked eight state k

pub new_sequences : NewSequences
new_sequences c g clusters v bits bitmap mirror t b old new after marked n eight state k low high = sequence c g clusters v bits bitmap mirror t b old new after marked eight state k n low high

pub grown_kept : GrownIsKept
grown_kept c g clusters v bits bitmap mirror t b old new after marked eight state k = in_order c g clusters v bits bitmap mirror t b old new after marked eight state k

pub numbers_begun : NumbersAreBegun
numbers_begun c g clusters v bits bitmap mirror t b old new after marked eight state k = begun c g clusters v bits bitmap mirror t b old new after marked eight state k

pub longer_lies : LongerTable
longer_lies c v bits bitmap mirror t b old new after marked k = k.grows.lies ∙ k.grows.is_records.extents ∙ ap (λ (e : Extents). larger (lengthened v.per (table_runs bits t) e)) k.table
