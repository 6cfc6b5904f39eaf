-- Bits of clusters that nobody has are put, wherever they stand: the state that this leads to.
use Rattle.std.proofs.Common.{◌≡◌, ◌≢◌, ◌⊎◌, ℕ, ◌+◌, ◌*◌, ◌/◌, ◌%◌, ◌<◌, ◌≤◌, Bool, true, false, not, cond, eqb, leb, List, [], ◌∷◌, length, Option, Some, None, Ok, refl, sym, ap, subst, ◌∙◌, inl, inr, arith}
use Rattle.std.specs.Prelude.{All}
use Rattle.std.specs.List.{list_all, list_any, AllByRecursion}
use Rattle.std.specs.Option.{option_map}
use Rattle.std.proofs.lemmas.Bool.{cases_eq, cases_lt, and_parts, and_from, leb-true, le-leb, both_ways, false_from_ne_true}
use Rattle.std.proofs.lemmas.List.Elements.{All-nil, All-cons, All-head, All-tail}
use Rattle.std.proofs.lemmas.List.FromFn.{get_or-map-range_with_len}
use Rattle.disk_model.specs.declared.block.Block.{Block}
use Rattle.disk_model.specs.declared.block.BlockKind.TheVariants.{Plain}
use Rattle.disk_model.specs.Content.{Content, HasSizes}
use Rattle.disk_model.specs.Sectors.{sectors}
use Rattle.record_model.specs.declared.attribute.Attr.{Attr}
use Rattle.record_model.specs.declared.runs.Run.{Run}
use Rattle.record_model.specs.Constants.{attribute_list, data_type}
use Rattle.record_model.specs.Pairs.{HasSpelling}
use Rattle.record_model.specs.Records.{Record}
use Rattle.file_tree.specs.declared.node.Kind.{Kind}
use Rattle.file_tree.specs.declared.node.Node.{Node}
use Rattle.file_tree.specs.Trees.{node_at as node_by_number}
use Rattle.bit_set.specs.Bits.{bit}
use Rattle.bit_set.specs.Words.{is_one, byte_bit}
use Rattle.state_model.specs.declared.geometry.Geometry.{Geometry}
use Rattle.state_model.specs.declared.stream.Extents.{Extents}
use Rattle.state_model.specs.declared.stream.Stream.{Stream}
use Rattle.state_model.specs.declared.stream.Stream.TheVariants.{Held, Placed}
use Rattle.state_model.specs.Files.{has_type, is_base_record}
use Rattle.state_model.specs.Loads.{Used, data_stream, has_all_pairs, has_fitting_pairs, slot_of, table_slot, total_clusters}
use Rattle.state_model.specs.Rules.{at_file, implies}
use Rattle.state_model.specs.Streams.{attributes_of, block_at, byte_at, extent_bytes, real_size, stream_bytes, stream_of}
use Rattle.volume_model.specs.Volumes.{Volume, bitmap_file, bytes_or, cluster_bitmap, cluster_bits, count_of, file_in, file_stream, record_bitmap, size_or, table_file}
use Rattle.volume_model.specs.Nodes.{data_shown, kind_in, node_with, shows_data}
use Rattle.volume_model.specs.Owners.{uses, volume_runs}
use Rattle.volume_model.specs.Sizes.{are_joined, fits_volume, has_hole, has_sizes, is_hole, keeps_bitmaps, keeps_sizes, keeps_streams, keeps_whole, lies_inside}
use Rattle.volume_state.specs.Trees.{tree_of}
use Rattle.stream_laws.specs.Owners.{initialised_in, IsLive, Owns, stream_kind}
use Rattle.stream_laws.specs.Rewrites.{is_edited}
use Rattle.volume_state.specs.Rules.{broken_5, broken_6}
use Rattle.stream_laws.specs.Sharing.{runs_in, stream_at, StreamKey}
use Rattle.stream_laws.specs.Tables.{table_key}
use Rattle.stream_laws.proofs.Bitmapping.{cluster_bit}
use Rattle.stream_laws.proofs.Recording.{record_read}
use Rattle.stream_laws.proofs.Tabling.{inside_list}
use Rattle.tree_laws.proofs.Ascending.{all_by}
use Rattle.plan_owners.specs.States.{Stands}
use Rattle.plan_owners.proofs.Standing.{rule_4_at, some_file, streams_at}
use Rattle.plan_bodies.specs.Bodies.{body_in, content_with, NewBody}
use Rattle.plan_bodies.proofs.Putting.{sized_with}
use Rattle.plan_draft.specs.declared.touched.Touched.{Touched}
use Rattle.plan_draft.specs.Touching.{bodies_of}
use Rattle.plan_draft.specs.Drafts.{drafted}
use Rattle.plan_draft.proofs.Touching.{are_bodies}
use Rattle.table_edits.specs.plan_model.Drafts.{IsPut}
use Rattle.table_edits.specs.plan_model.Edits.{LeadsTo}
use Rattle.table_edits.specs.plan_model.Informed.{with_record}
use Rattle.table_edits.proofs.plan_model.Drafting.{per_is}
use Rattle.table_edits.proofs.plan_model.OneRecord.{own_record, OwnRecord, slot_begins, slot_put}
use Rattle.table_edits.proofs.plan_model.Quiet.{record_owned}
use Rattle.record_streams.proofs.Kept.{all_with, but_room_fits}
use Rattle.record_streams.proofs.Streams.{placed_one}
use Rattle.record_values.specs.Values.{valued_attr, valued_first, valued_record}
use Rattle.record_values.proofs.Valued.{values_put}
use Rattle.record_streams.specs.Placing.{placed_record}
use Rattle.draft_bits.specs.Filling.{PutsBits}
use Rattle.draft_bits.specs.Effects.{IsKept}
use Rattle.draft_bits.proofs.BitEffects.{bits_put, drafted_same}
use Rattle.draft_records.specs.Records.{fits_room, record_block, written_record}
use Rattle.table_edits.specs.draft_bitmaps.declared.bitmap.Bitmap.{Bitmap}
use Rattle.table_edits.specs.draft_bitmaps.Bitmaps.{bitmap_bit, byte_end, IsBitmap, IsShortStream, is_below, own_bytes, PutsInto, PutsPlacedBy, raised, with_extents, with_value}
use Rattle.table_edits.specs.draft_bitmaps.Effects.{HasApartSectors, LiesInRun, PutsBitmap, room_in}
use Rattle.table_edits.proofs.draft_bitmaps.BitmapEffects.{bitmap_put}
use Rattle.table_edits.proofs.draft_bitmaps.Room.{same_room}
use Rattle.table_edits.specs.plan_growth.Streams.{marks_streams}
use Rattle.table_edits.specs.plan_growth.Trees.{with_data}
use Rattle.table_edits.proofs.plan_growth.Placed.{some_attributes, stream_rule}
use Rattle.table_edits.proofs.plan_growth.Resizing.{no_system_shown}
use Rattle.table_edits.proofs.plan_growth.Ruled.{sizes_lawful}
use Rattle.table_edits.proofs.plan_growth.Written.{all_read, Reads}
use Rattle.table_edits.proofs.plan_table.Remade.{HasOther, IsOther, placed_other, valued_other}
use Rattle.table_edits.proofs.plan_values.Staying.{same_change}
use Rattle.table_edits.proofs.plan_values.Valued.{entries_named, limits_named}
use Rattle.table_edits.specs.plan_edits.Edits.{bitmap_key}
use Rattle.table_edits.specs.plan_edits.Moves.{EditsDraft}
use Rattle.table_edits.specs.plan_edits.Written.{IsInUse}
use Rattle.table_edits.proofs.plan_edits.Bitmap.{in_total, lies_by, state_bitmap}
use Rattle.table_edits.proofs.plan_edits.Editing.{mirror_owned, some_of, used_block}
use Rattle.table_edits.proofs.plan_edits.Putting.{content_goes, each_turned, Goes}
use Rattle.table_edits.proofs.plan_edits.Reading.{written_read}
use Rattle.table_edits.proofs.plan_edits.Recording.{no_sector}
use Rattle.table_edits.proofs.Steps.{bitmap_goes, IsComing, IsOfBitmap}
use Rattle.bitmap_edits.specs.Bitmaps.{IsClusterBitmap, KeepsOwners, PutsFreeBits, RoomDiffers, StandsAs}
use Rattle.bitmap_edits.proofs.Now.{alike_itself, alike_written, AreAlike, HasNow, now_by, now_itself}
use Rattle.bitmap_edits.proofs.Restreaming.{as_far, clusters_now, file_there, five_by, Follows, GoesTo, IsOneFile, now_leads, now_tree, one_edit, owned_once, owned_set, reads_on, same_files, six_by, which}

-- ---- records in use

pub reads_of : (p : Record) → IsInUse p → All Reads p.attrs
unfolding has_all_pairs
reads_of p used = all_read p.attrs used.pairs

abbrev Fits : Attr → Type 0
Fits a = has_fitting_pairs a ≡ true

all_fit : (attrs : List Attr) → list_all has_fitting_pairs attrs ≡ true → All Fits attrs
all_fit [] all = All-nil Fits
all_fit (a ∷ attrs) all = (let parts = and_parts (has_fitting_pairs a) (list_all has_fitting_pairs attrs) all in All-cons Fits a attrs parts.0 (all_fit attrs parts.1))

fit_all : (attrs : List Attr) → All Fits attrs → list_all has_fitting_pairs attrs ≡ true
fit_all [] all = refl
fit_all (a ∷ attrs) all = and_from (has_fitting_pairs a) (list_all has_fitting_pairs attrs) (All-head Fits a attrs all) (fit_all attrs (All-tail Fits a attrs all))

valued_used : (kind : ℕ) (name value : List ℕ) (r : Record) (attributes : List Attr) → IsInUse r → IsInUse (valued_first kind name value r attributes)
unfolding has_all_pairs
valued_used kind name value r [] used = used
valued_used kind name value r (a ∷ others) used = record {
  flag = used.flag;
  pairs = fit_all (valued_first kind name value r (a ∷ others)).attrs (all_with Fits kind name (valued_attr value a) r.attrs refl (all_fit r.attrs used.pairs));
}

pub alike_of : (per clusters : ℕ) (r p : Record) → StandsAs r p → IsInUse p → AreAlike per clusters p r
alike_of per clusters r p (inl same) used = subst (AreAlike per clusters p) (sym same) (alike_itself per clusters p)
alike_of per clusters r p (inr same) used = subst (AreAlike per clusters p) (sym same) (alike_written per clusters p (written_record p) (written_read.written p) (reads_of p used))

is_data : IsOther data_type
is_data = record { not_name = λ e. omega (arith, e); not_info = λ e. omega (arith, e); not_root = λ e. omega (arith, e) }

-- ---- what a state says of its bitmap of clusters

negated : (t : Bool) → not t ≡ true → t ≡ false
negated true none = absurd cc
negated false none = refl

module _ (c : Content) (g : Geometry) (clusters : ℕ) (v : Volume) (r : Record) (s : Stream) (state : Stands c g clusters v) (file : file_in v bitmap_file ≡ Some r) (was : stream_of data_type [] r.attrs ≡ Some s) where
  some : (a : Attr) × (others : List Attr) × (attributes_of data_type [] r.attrs ≡ a ∷ others)
  unfolding stream_of
  some = some_attributes (attributes_of data_type [] r.attrs) s was

  pub bitmap_rule : (are_joined (attributes_of data_type [] r.attrs) ≡ true) × (fits_volume v.per v.clusters (Some s) ≡ true)
  unfolding keeps_streams
  bitmap_rule =
      let all = (and_parts _ _ (and_parts _ _ (and_parts _ _ (streams_at c g clusters v bitmap_file r state file)).0).0).0 in
      let both = stream_rule v.per v.clusters data_type [] r some.0 some.1 (λ e. omega (arith, e)) some.2 all in
      (both.0, sym (ap (fits_volume v.per v.clusters) was) ∙ both.1)

  pub bitmap_whole : has_hole (Some s) ≡ false
  unfolding keeps_streams keeps_whole
  bitmap_whole =
      let holes = (and_parts _ _ (and_parts _ _ (and_parts _ _ (streams_at c g clusters v bitmap_file r state file)).0).0).1 in
      sym (ap has_hole was) ∙ negated (has_hole (stream_of data_type [] r.attrs)) (and_parts _ _ (and_parts _ _ holes).0).0

  at_bitmap : stream_at v bitmap_key ≡ Some s
  at_bitmap = ap (file_stream data_type []) file ∙ was

  pub bitmap_long : v.clusters ≤ 8 * real_size s
  unfolding keeps_sizes keeps_bitmaps
  bitmap_long =
      let kept : keeps_bitmaps v bitmap_file ≡ true = (and_parts (at_file (keeps_streams c v bitmap_file) (file_in v bitmap_file)) (keeps_bitmaps v bitmap_file) (rule_4_at c g clusters v bitmap_file state (omega arith))).1 in
      let long = leb-true v.clusters (8 * size_or (cluster_bitmap v)) (and_parts (implies (eqb bitmap_file table_file) (leb (count_of v) (8 * size_or (record_bitmap v)))) (leb v.clusters (8 * size_or (cluster_bitmap v))) kept).1 in
      subst (λ (o : Option Stream). v.clusters ≤ 8 * size_or o) at_bitmap long

-- ---- bits as they are read

as_bits : (c : Content) (per : ℕ) (s : Stream) (i : ℕ) → i / 8 < real_size s → byte_bit (stream_bytes c per s) i ≡ bitmap_bit c per s i
unfolding extent_bytes
as_bits c per (Held value) i within = refl
as_bits c per (Placed e) i within = ap (λ (y : ℕ). is_one y (i % 8)) (get_or-map-range_with_len (byte_at c per e) 0 e.real (i / 8) (i / 8) 0 within (omega arith))

pub bit_of : (c : Content) (v : Volume) (s : Stream) (x : ℕ) → stream_at v bitmap_key ≡ Some s → v.clusters ≤ 8 * real_size s → x < v.clusters → bit (cluster_bits c v) x ≡ bitmap_bit c v.per s x
bit_of c v s x is long low = cluster_bit c v x low ∙ ap (λ (o : Option Stream). byte_bit (bytes_or c v.per o) x) is ∙ as_bits c v.per s x (omega (arith, long, low))

-- ---- the bitmap's record as it is put, or as it stays

pub record IsPutAs (d : Content) (v : Volume) (b after : Bitmap) (r s : Record) : Type 0 where
  pub now : HasNow v.per v.clusters data_type [] b.stream after.stream r s
  pub slot : table_slot d v.per v.table bitmap_file ≡ Used s
  pub number : after.number ≡ b.number
  pub kind : after.kind ≡ b.kind
  pub stands_as : StandsAs s after.file
  pub no_list : has_type attribute_list after.file ≡ false
  pub used : IsInUse after.file
  pub stream : stream_of data_type [] after.file.attrs ≡ Some after.stream
  pub joined : are_joined (attributes_of data_type [] after.file.attrs) ≡ true
  pub runs : runs_in (Some after.stream) ≡ runs_in (Some b.stream)
  pub size : real_size after.stream ≡ real_size b.stream

same_hole : (s t : Stream) → runs_in (Some t) ≡ runs_in (Some s) → has_hole (Some s) ≡ false → has_hole (Some t) ≡ false
same_hole (Held value) (Held bytes) same none = refl
same_hole (Placed e) (Held bytes) same none = refl
same_hole (Held value) (Placed f) same none = ap (list_any is_hole) same
same_hole (Placed e) (Placed f) same none = ap (list_any is_hole) same ∙ none

-- the sizes of the clusters of a bitmap, where its initialised size is a greater one within the real one
raised_fits : (per clusters first len : ℕ) (e : Extents) → byte_end first len ≤ e.real → fits_volume per clusters (Some (Placed e)) ≡ true → fits_volume per clusters (Some (Placed (raised first len e))) ≡ true
raised_fits per clusters first len e within fits =
    let parts = and_parts (list_all (lies_inside clusters) e.runs) (has_sizes per e) fits in
    let sizes = and_parts _ _ parts.1 in
    let two = and_parts (leb e.initialised e.real) (leb e.real e.allocated) sizes.0 in
    let low = leb-true e.initialised e.real two.0 in
    and_from _ _ parts.0 (and_from _ _ (and_from _ _ (le-leb (raised first len e).initialised e.real (omega (arith, low, within))) two.1) sizes.1)

-- ---- one range of bits

module _ (c : Content) (g : Geometry) (clusters : ℕ) (v : Volume) (mirror : Extents) (b : Bitmap) (first len : ℕ) (value : Bool) (old new : List Touched) (after : Bitmap) (eight : g.per_cluster ≡ 8) (state : Stands (drafted old c) g clusters v) (k : PutsFreeBits c v mirror b first len value old new after) where
  abbrev d : Content
  d = drafted old c

  abbrev per : ℕ
  per = v.per

  abbrev p : Record
  p = b.file

  abbrev r : Record
  r = k.bitmap.file

  per_8 : v.per ≡ 8
  per_8 = per_is d g clusters v eight state

  alike : AreAlike v.per v.clusters p r
  alike = alike_of v.per v.clusters r p k.bitmap.stands_as k.bitmap.used

  was : stream_of data_type [] r.attrs ≡ Some b.stream
  was = alike.streams data_type [] ∙ k.bitmap.stream

  stream_was : stream_at v bitmap_key ≡ Some b.stream
  stream_was = ap (file_stream data_type []) k.bitmap.is_file ∙ was

  no_list : has_type attribute_list r ≡ false
  no_list = alike.types attribute_list ∙ k.bitmap.no_list

  its : OwnRecord d v bitmap_file r
  its = own_record d g clusters v bitmap_file r state k.bitmap.is_file no_list

  fits_was : fits_volume v.per v.clusters (Some b.stream) ≡ true
  fits_was = (bitmap_rule d g clusters v r b.stream state k.bitmap.is_file was).1

  whole_was : has_hole (Some b.stream) ≡ false
  whole_was = bitmap_whole d g clusters v r b.stream state k.bitmap.is_file was

  long : v.clusters ≤ 8 * real_size b.stream
  long = bitmap_long d g clusters v r b.stream state k.bitmap.is_file was

  own_apart : HasApartSectors v.per b.stream
  own_apart = by_stream b.stream stream_was
    where
      by_stream : (s : Stream) → stream_at v bitmap_key ≡ Some s → HasApartSectors v.per s
      by_stream (Held bytes) is = tt
      by_stream (Placed e) is = state_bitmap.own d g clusters v e state is

  bitmap_is : PutsBitmap c v.per v.table mirror b first len value old new after
  bitmap_is = record { sized = k.sized; kept = k.kept; stands = k.stands; room = k.room; own = own_apart; put = k.put }

  -- ---- what is put

  pub goes : Goes (IsOfBitmap v.per v.table mirror b.number b.stream) (IsComing v.per b.stream after.stream) old new
  goes = bitmap_goes c v.per v.table mirror b first len value old new k.sized k.kept b.stream after refl k.stands k.room k.put

  abbrev pub put_bodies_of : List NewBody
  put_bodies_of = goes.blocks.bodies

  abbrev bodies : List NewBody
  bodies = goes.blocks.bodies

  content_is : content_with d bodies ≡ drafted new c
  content_is = content_goes c bodies old new k.sized k.kept goes.kept goes.blocks.whole goes.blocks.same

  goes_to : (x : Block) → IsOfBitmap v.per v.table mirror b.number b.stream x → GoesTo v bitmap_file x
  unfolding stream_kind
  goes_to x (inl (inl own)) = inr (ap (record_block v.per v.table) (sym k.bitmap.number) ∙ own)
  goes_to x (inl (inr other)) = inl (mirror_owned v mirror b.number x k.mirror_is other.1)
  goes_to x (inr sector) = inl (record { stream = bitmap_key; chosen = refl; number = sector.0; lies = ap (λ (o : Option Stream). block_at v.per (runs_in o) Plain sector.0) stream_was ∙ sector.1 })

  each : AllByRecursion (λ q. GoesTo v bitmap_file q.block) bodies
  each = each_turned (IsOfBitmap v.per v.table mirror b.number b.stream) (GoesTo v bitmap_file) bodies goes_to goes.blocks.each

  -- ---- its record

  block : (x : Block) × (record_block v.per v.table bitmap_file ≡ Some x)
  block = some_of (record_block v.per v.table bitmap_file) (used_block d v.per v.table bitmap_file r its.slot)

  begins : 1024 * bitmap_file < v.table.initialised
  begins = slot_begins d v bitmap_file r its.slot

  lies_as : record_block v.per v.table b.number ≡ Some block.0
  lies_as = ap (record_block v.per v.table) k.bitmap.number ∙ block.1

  slot_there : (a : Bitmap) → IsBitmap a → fits_room a.file ≡ Ok tt → IsInUse a.file → body_in (bodies_of new) block.0 ≡ Some (own_bytes a) → table_slot (drafted new c) v.per v.table bitmap_file ≡ Used (written_record a.file)
  slot_there a stands room used put =
      slot_put c v bitmap_file (written_record a.file) (bodies_of new) block.0 (own_bytes a) k.sized (are_bodies new goes.kept.rises goes.kept.whole) begins block.1 put (written_read.reads a.file (but_room_fits a.file stands.fits) room used)

  slot_stays : body_in (bodies_of new) block.0 ≡ body_in (bodies_of old) block.0 → table_slot (drafted new c) v.per v.table bitmap_file ≡ Used r
  slot_stays same =
      record_read (drafted new c) v.per v.table bitmap_file block.0 begins block.1
      ∙ ap slot_of (drafted_same c old new block.0 k.sized k.kept goes.kept same)
      ∙ sym (record_read d v.per v.table bitmap_file block.0 begins block.1)
      ∙ its.slot

  stays : after ≡ b → body_in (bodies_of new) block.0 ≡ body_in (bodies_of old) block.0 → IsPutAs (drafted new c) v b after r r
  stays same body = subst (λ (a : Bitmap). IsPutAs (drafted new c) v b a r r) (sym same) (record {
    now = now_itself v.per v.clusters data_type [] b.stream r was;
    slot = slot_stays body;
    number = refl;
    kind = refl;
    stands_as = k.bitmap.stands_as;
    no_list = k.bitmap.no_list;
    used = k.bitmap.used;
    stream = k.bitmap.stream;
    joined = k.bitmap.joined;
    runs = refl;
    size = refl;
  })

  -- another stream that is put in the place of the bitmap's
  other_put : (a : Bitmap) → IsBitmap a → fits_room a.file ≡ Ok tt → a.number ≡ b.number → a.kind ≡ b.kind → HasOther v.per v.clusters data_type [] b.stream a.stream p a.file → fits_volume v.per v.clusters (Some a.stream) ≡ true → IsInUse a.file → are_joined (attributes_of data_type [] a.file.attrs) ≡ true
      → runs_in (Some a.stream) ≡ runs_in (Some b.stream) → real_size a.stream ≡ real_size b.stream → body_in (bodies_of new) block.0 ≡ Some (own_bytes a) → IsPutAs (drafted new c) v b a r (written_record a.file)
  other_put a stands room number kind other fits used joined runs size put = record {
    now = now_by v.per v.clusters data_type [] b.stream a.stream r p a.file (written_record a.file) alike k.bitmap.stream other (alike_written v.per v.clusters a.file (written_record a.file) (written_read.written a.file) (reads_of a.file used)) fits;
    slot = slot_there a stands room used put;
    number = number;
    kind = kind;
    stands_as = inr refl;
    no_list = other.types attribute_list ∙ k.bitmap.no_list;
    used = used;
    stream = other.stream;
    joined = joined;
    runs = runs;
    size = size;
  }

  abbrev Result : Bitmap → Type 0
  Result a = (s : Record) × IsPutAs (drafted new c) v b a r s

  own_body : (body_in (bodies_of new) block.0 ≡ Some (own_bytes after)) ⊎ ((after ≡ b) × (body_in (bodies_of new) block.0 ≡ body_in (bodies_of old) block.0))
  own_body = bitmap_put.own c v.per v.table mirror b after first len value old new block.0 bitmap_is lies_as

  -- ---- by where it stands

  pieces : (a : Attr) × (others : List Attr) × (attributes_of data_type [] p.attrs ≡ a ∷ others)
  unfolding stream_of
  pieces = some_attributes (attributes_of data_type [] p.attrs) b.stream k.bitmap.stream

  held : (bytes : List ℕ) (was_bytes : List ℕ) → b.stream ≡ Held was_bytes → after ≡ with_value bytes b → length bytes ≡ length was_bytes → fits_room after.file ≡ Ok tt → body_in (bodies_of new) block.0 ≡ Some (own_bytes after) → Result after
  held bytes was_bytes is becomes same room put =
      let file_is : after.file ≡ valued_record data_type [] bytes p = ap (λ (x : Bitmap). x.file) becomes ∙ ap (λ (n : ℕ). valued_record n [] bytes p) k.bitmap.kind in
      let stream_is : after.stream ≡ Held bytes = ap (λ (x : Bitmap). x.stream) becomes in
      let stream_p : stream_of data_type [] p.attrs ≡ Some (Held was_bytes) = k.bitmap.stream ∙ ap (λ (x : Stream). Some x) is in
      let one : HasOther v.per v.clusters data_type [] (Held was_bytes) (Held bytes) p (valued_record data_type [] bytes p) = valued_other v.per v.clusters data_type [] was_bytes bytes p is_data stream_p k.bitmap.joined in
      let other : HasOther v.per v.clusters data_type [] b.stream after.stream p after.file =
      subst (λ (x : Record). HasOther v.per v.clusters data_type [] b.stream after.stream p x) (sym file_is)
      (subst (λ (x : Stream). HasOther v.per v.clusters data_type [] b.stream x p (valued_record data_type [] bytes p)) (sym stream_is)
      (subst (λ (x : Stream). HasOther v.per v.clusters data_type [] x (Held bytes) p (valued_record data_type [] bytes p)) (sym is) one))
      in (
        written_record after.file,
        other_put after k.stands room (ap (λ (x : Bitmap). x.number) becomes) (ap (λ (x : Bitmap). x.kind) becomes) other (ap (λ (x : Stream). fits_volume v.per v.clusters (Some x)) stream_is)
            (subst IsInUse (sym file_is) (valued_used data_type [] bytes p (attributes_of data_type [] p.attrs) k.bitmap.used))
            (ap (λ (x : Record). are_joined (attributes_of data_type [] x.attrs)) file_is ∙ ap are_joined (values_put.one data_type [] bytes p pieces.0 pieces.1 pieces.2))
            (ap (λ (x : Stream). runs_in (Some x)) stream_is ∙ sym (ap (λ (x : Stream). runs_in (Some x)) is)) (ap real_size stream_is ∙ same ∙ sym (ap real_size is)) put,
      )

  higher : (e : Extents) → b.stream ≡ Placed e → after ≡ with_extents v.per (raised first len e) b → fits_room after.file ≡ Ok tt → body_in (bodies_of new) block.0 ≡ Some (own_bytes after) → Result after
  higher e is becomes room put =
      let f : Extents = raised first len e in
      let file_is : after.file ≡ placed_record v.per data_type [] f p = ap (λ (x : Bitmap). x.file) becomes ∙ ap (λ (n : ℕ). placed_record v.per n [] f p) k.bitmap.kind in
      let stream_is : after.stream ≡ Placed f = ap (λ (x : Bitmap). x.stream) becomes in
      let stream_p : stream_of data_type [] p.attrs ≡ Some (Placed e) = k.bitmap.stream ∙ ap (λ (x : Stream). Some x) is in
      let spelled : HasSpelling 0 e.runs = (subst IsShortStream stream_is k.stands.stream).spelled in
      let one : HasOther v.per v.clusters data_type [] (Placed e) (Placed f) p (placed_record v.per data_type [] f p) = placed_other v.per v.clusters data_type [] e f p is_data spelled stream_p in
      let other : HasOther v.per v.clusters data_type [] b.stream after.stream p after.file =
      subst (λ (x : Record). HasOther v.per v.clusters data_type [] b.stream after.stream p x) (sym file_is)
      (subst (λ (x : Stream). HasOther v.per v.clusters data_type [] b.stream x p (placed_record v.per data_type [] f p)) (sym stream_is)
      (subst (λ (x : Stream). HasOther v.per v.clusters data_type [] x (Placed f) p (placed_record v.per data_type [] f p)) (sym is) one))
      in
      let ends : byte_end first len ≤ e.real = (let few = k.inside in let most = subst (λ (x : Stream). v.clusters ≤ 8 * real_size x) is long in omega (arith, few, most)) in
      let fits : fits_volume v.per v.clusters (Some (Placed f)) ≡ true = raised_fits v.per v.clusters first len e ends (sym (ap (λ (x : Stream). fits_volume v.per v.clusters (Some x)) is) ∙ fits_was) in (
        written_record after.file,
        other_put after k.stands room (ap (λ (x : Bitmap). x.number) becomes) (ap (λ (x : Bitmap). x.kind) becomes) other (ap (λ (x : Stream). fits_volume v.per v.clusters (Some x)) stream_is ∙ fits)
            (subst IsInUse (sym file_is) (written_read.placed v.per data_type [] f p spelled k.bitmap.used))
            (ap (λ (x : Record). are_joined (attributes_of data_type [] x.attrs)) file_is ∙ ap are_joined (placed_one v.per data_type [] f p pieces.0 pieces.1 pieces.2))
            (ap (λ (x : Stream). runs_in (Some x)) stream_is ∙ sym (ap (λ (x : Stream). runs_in (Some x)) is)) (ap real_size stream_is ∙ sym (ap real_size is)) put,
      )

  below : (e : Extents) → PutsBits c v.per e first len value old new → after ≡ b → Result after
  below e put same = (r, stays same (bits_put.elsewhere c v.per e first len value old new block.0 put (no_sector v.per e.runs v.table.runs bitmap_file block.0 block.1)))

  by_below : (t : Bool) (e : Extents) → is_below e first len ≡ t → b.stream ≡ Placed e → cond t (Ok tt) (fits_room (with_extents v.per (raised first len e) b).file) ≡ Ok tt → PutsPlacedBy t c v.per v.table mirror b e first len value old new after → Result after
  by_below true e is stream room put = below e put.0 put.1
  by_below false e is stream room put = elim own_body [
    | inl there ↦ higher e stream put.1 (ap (λ (x : Bitmap). fits_room x.file) put.1 ∙ room) there
    | inr same ↦ (r, stays same.0 same.1)
  ]

  by_stream : (s : Stream) → b.stream ≡ s → room_in s v.per b first len ≡ Ok tt → PutsInto s c v.per v.table mirror b first len value old new after → Result after
  by_stream (Held bytes) stream room put = elim own_body [
    | inl there ↦ held put.0.0 bytes stream put.0.1.1 put.0.1.0.same_count (ap (λ (x : Bitmap). fits_room x.file) put.0.1.1 ∙ same_room b.kind [] put.0.0 bytes b.file put.0.1.0.same_count ∙ room) there
    | inr same ↦ (r, stays same.0 same.1)
  ]
  by_stream (Placed e) stream room put = by_below (is_below e first len) e refl stream room put

  pub put_as : Result after
  put_as = by_stream b.stream refl k.room k.put

  abbrev s : Record
  s = put_as.0

  abbrev new_is : IsPutAs (drafted new c) v b after r put_as.0
  new_is = put_as.1

  abbrev pub w : Volume
  w = with_record v bitmap_file put_as.0

  slot : table_slot (content_with d bodies) v.per v.table bitmap_file ≡ Used s
  slot = subst (λ (x : Content). table_slot x v.per v.table bitmap_file ≡ Used put_as.0) (sym content_is) new_is.slot

  sized_d : HasSizes d
  sized_d = sized_with c (bodies_of old) k.sized

  -- ---- the clusters

  base : is_base_record s ≡ true
  base = new_is.now.base ∙ its.base

  below_count : bitmap_file < count_of v
  below_count = inside_list v.files bitmap_file r (some_file v bitmap_file r k.bitmap.is_file)

  pub owners_stay : (x : ℕ) → uses (volume_runs w.files) x ≡ uses (volume_runs v.files) x
  owners_stay x =
      let sums = clusters_now v bitmap_file r put_as.0 b.stream after.stream x below_count k.bitmap.is_file (new_is.now.balance x) in
      let same : uses (runs_in (Some after.stream)) x ≡ uses (runs_in (Some b.stream)) x = ap (λ (l : List Run). uses l x) new_is.runs in
      omega (arith, sums, same)

  stream_now : stream_at w bitmap_key ≡ Some after.stream
  stream_now = ap (file_stream data_type []) (file_there v bitmap_file put_as.0 below_count base) ∙ new_is.now.stream

  long_now : v.clusters ≤ 8 * real_size after.stream
  long_now = subst (λ (n : ℕ). v.clusters ≤ 8 * n) (sym new_is.size) long

  -- ---- the bits

  lies_in_run : (x : ℕ) → x < v.clusters → LiesInRun v.per b.stream x
  lies_in_run x low = by_place b.stream fits_was whole_was long k.bitmap.stands.stream
    where
      by_place : (s : Stream) → fits_volume v.per v.clusters (Some s) ≡ true → has_hole (Some s) ≡ false → v.clusters ≤ 8 * real_size s → IsShortStream s → LiesInRun v.per s x
      by_place (Held bytes) fits whole most short = tt
      by_place (Placed e) fits whole most short =
          let high = (sizes_lawful v.per v.clusters e fits).1 in
          some_of (block_at v.per e.runs Plain (x / 8 / 512)) (lies_by v.per (x / 8 / 512) e.runs short.spelled whole (in_total v.per (total_clusters e.runs) e.real (x / 8 / 512) per_8 high (omega (arith, low, most))))

  bit_was : (x : ℕ) → x < v.clusters → bit (cluster_bits d v) x ≡ bitmap_bit d v.per b.stream x
  bit_was x low = bit_of d v b.stream x stream_was long low

  bit_is : (x : ℕ) → x < v.clusters → bit (cluster_bits (content_with d bodies) w) x ≡ bitmap_bit (drafted new c) v.per after.stream x
  bit_is x low = ap (λ (y : Content). bit (cluster_bits y w) x) content_is ∙ bit_of (drafted new c) w after.stream x stream_now long_now low

  pub inside_bit : (x : ℕ) → x < v.clusters → first ≤ x → x < first + len → bit (cluster_bits (content_with d bodies) w) x ≡ value
  inside_bit x low from to = bit_is x low ∙ bitmap_put.inside c v.per v.table mirror b after first len x value old new bitmap_is (lies_in_run x low) from to

  pub other_bit : (x : ℕ) → x < v.clusters → (x < first) ⊎ (first + len ≤ x) → bit (cluster_bits (content_with d bodies) w) x ≡ bit (cluster_bits d v) x
  other_bit x low out = bit_is x low ∙ bitmap_put.others c v.per v.table mirror b after first len x value old new bitmap_is out ∙ sym (bit_was x low)

  set_now : (x : ℕ) → x < v.clusters → 0 < uses (volume_runs w.files) x → bit (cluster_bits (content_with d bodies) w) x ≡ true
  set_now x low some =
      let same = owners_stay x in
      let before : 0 < uses (volume_runs v.files) x = omega (arith, same, some) in
      let set = owned_set d g clusters v x state low before in
      elim (cases_lt x first) [
        | inl less ↦ other_bit x low (inl less) ∙ set
        | inr from ↦ elim (cases_lt x (first + len)) [
          | inl to ↦ (let none = k.free x from to in absurd (omega (arith, before, none)))
          | inr past ↦ other_bit x low (inr past) ∙ set
        ]
      ]

  five : broken_5 w ≡ None
  five = five_by w (λ x low. (let same = owners_stay x in let once = owned_once d g clusters v x state low in omega (arith, same, once)))

  six : broken_6 (content_with d bodies) w ≡ None
  six = six_by (content_with d bodies) w set_now

  bitmaps : keeps_bitmaps w bitmap_file ≡ true
  unfolding keeps_bitmaps
  bitmaps = subst (λ (o : Option Stream). leb v.clusters (8 * size_or o) ≡ true) (sym stream_now) (le-leb v.clusters (8 * real_size after.stream) long_now)

  follows : Follows (content_with d bodies) v bitmap_file data_type [] b.stream after.stream
  follows = record {
    holes = λ none. same_hole b.stream after.stream new_is.runs none;
    records = λ same type alias none. absurd (omega (arith, same));
    nodes = λ same alias none. absurd (omega (arith, same));
    blocks = λ same alias. absurd (omega (arith, same));
    no_entries = inr entries_named;
    limits = λ same. absurd (limits_named same);
  }

  one_file : IsOneFile v bitmap_file r
  one_file = record { file = k.bitmap.is_file; table = λ e. omega (arith, e); upcase = λ e. omega (arith, e); no_list = no_list }

  leads : LeadsTo (is_edited (one_edit bitmap_file s)) d v (content_with d bodies) g clusters w
  leads = now_leads d g clusters v bitmap_file data_type [] b.stream after.stream r put_as.0 bodies sized_d eight state one_file new_is.now follows slot (as_far v bitmap_file bodies each) five six bitmaps

  which_of : (t : StreamKey) → (t ≡ bitmap_key) ⊎ (stream_at w t ≡ stream_at v t)
  which_of = which d g clusters v bitmap_file data_type [] b.stream after.stream r put_as.0 bodies sized_d eight state one_file new_is.now follows slot (as_far v bitmap_file bodies each) five six bitmaps

  runs_stay : (t : StreamKey) → runs_in (stream_at w t) ≡ runs_in (stream_at v t)
  runs_stay t = elim (which_of t) [
    | inl same ↦ ap (λ (x : StreamKey). runs_in (stream_at w x)) same ∙ ap runs_in stream_now ∙ new_is.runs ∙ sym (ap (λ (x : StreamKey). runs_in (stream_at v x)) same ∙ ap runs_in stream_was)
    | inr stays ↦ ap runs_in stays
  ]

  is_owned : (q : NewBody) → GoesTo v bitmap_file q.block → Owns v q.block
  is_owned q (inl owned) = record { stream = owned.stream; number = owned.number; lies = owned.lies }
  is_owned q (inr at) = record_owned d g clusters v bitmap_file q.block state at

  coming : (x : Block) (m : ℕ) → block_at v.per (runs_in (Some b.stream)) (stream_kind bitmap_key) m ≡ Some x → initialised_in (Some b.stream) ≤ 512 * (sectors (stream_kind bitmap_key) * m) → 512 * (sectors (stream_kind bitmap_key) * m) < initialised_in (Some after.stream) → IsPut bodies x
  unfolding stream_kind
  coming x m lies low high = goes.blocks.put x (m, (lies, (omega (arith, low), omega (arith, high))))

  covered : (x : Block) → IsLive w x → IsLive v x ⊎ IsPut bodies x
  covered x live =
      let t = live.owned.stream in
      let m = live.owned.number in
      let lies_was : block_at v.per (runs_in (stream_at v t)) (stream_kind t) m ≡ Some x = ap (λ (l : List Run). block_at v.per l (stream_kind t) m) (sym (runs_stay t)) ∙ live.owned.lies in
      elim (which_of t) [
        | inl same ↦ elim (cases_lt (512 * (sectors (stream_kind t) * m)) (initialised_in (stream_at v t))) [
          | inl before ↦ inl (record { owned = record { stream = t; number = m; lies = lies_was }; begins = before })
          | inr past ↦
              (let lies_there : block_at v.per (runs_in (Some b.stream)) (stream_kind bitmap_key) m ≡ Some x = ap (λ (o : Option Stream). block_at v.per (runs_in o) (stream_kind bitmap_key) m) (sym stream_was) ∙ subst (λ (y : StreamKey). block_at v.per (runs_in (stream_at v y)) (stream_kind y) m ≡ Some x) same lies_was in
              let low : initialised_in (Some b.stream) ≤ 512 * (sectors (stream_kind bitmap_key) * m) = subst (λ (o : Option Stream). initialised_in o ≤ 512 * (sectors (stream_kind bitmap_key) * m)) stream_was (subst (λ (y : StreamKey). initialised_in (stream_at v y) ≤ 512 * (sectors (stream_kind y) * m)) same past) in
              let high : 512 * (sectors (stream_kind bitmap_key) * m) < initialised_in (Some after.stream) = subst (λ (o : Option Stream). 512 * (sectors (stream_kind bitmap_key) * m) < initialised_in o) stream_now (subst (λ (y : StreamKey). 512 * (sectors (stream_kind y) * m) < initialised_in (stream_at w y)) same live.begins) in
              inr (coming x m lies_there low high))
        ]
        | inr stays ↦ inl (record { owned = record { stream = t; number = m; lies = lies_was }; begins = subst (λ (o : Option Stream). 512 * (sectors (stream_kind t) * m) < initialised_in o) stays live.begins })
      ]

  mark : marks_streams bitmap_key ≡ true
  mark = refl

  reads_so : (t : StreamKey) → marks_streams t ≡ false → table_key ≢ t → bytes_or (content_with d bodies) v.per (stream_at w t) ≡ bytes_or d v.per (stream_at v t)
  reads_so t apart other = elim (which_of t) [
    | inl same ↦ absurd (both_ways (marks_streams t) apart (ap marks_streams same ∙ mark))
    | inr stays ↦
        ap (bytes_or (content_with d bodies) v.per) stays
        ∙ reads_on d g clusters v bitmap_file data_type [] b.stream after.stream r put_as.0 bodies sized_d eight state one_file new_is.now follows slot (as_far v bitmap_file bodies each) five six bitmaps t apart other
  ]

  -- ---- the tree

  shown_none : (q : Record) → data_shown (kind_in v bitmap_file r) q ≡ None
  unfolding data_stream
  shown_none q = ap (λ (t : Bool). cond t (stream_of data_type [] q.attrs) None) (false_from_ne_true (shows_data (kind_in v bitmap_file r)) (λ shown. no_system_shown v bitmap_file r (omega arith) shown))

  same_node : (kind : Kind) (o : Option Stream) → o ≡ None → with_data None [] (node_with bitmap_file r kind o (bytes_or d v.per o)) ≡ node_with bitmap_file r kind o (bytes_or d v.per o)
  unfolding node_with
  same_node kind o none = ap (λ (x : Option Stream). with_data None [] (node_with bitmap_file r kind x (bytes_or d v.per x))) none ∙ sym (ap (λ (x : Option Stream). node_with bitmap_file r kind x (bytes_or d v.per x)) none)

  option_same : (o : Option Node) → option_map (λ (a : Node). a) o ≡ o
  option_same None = refl
  option_same (Some a) = refl

  node_stays : node_by_number (tree_of (content_with d bodies) w).nodes bitmap_file ≡ node_by_number (tree_of d v).nodes bitmap_file
  node_stays =
      (now_tree d g clusters v bitmap_file data_type [] b.stream after.stream r put_as.0 bodies sized_d eight state one_file new_is.now follows slot (as_far v bitmap_file bodies each) five six bitmaps whole_was).node
      ∙ ap (λ (o : Option Stream). option_map (with_data o (bytes_or (content_with d bodies) v.per o)) (node_by_number (tree_of d v).nodes bitmap_file)) (shown_none put_as.0)
      ∙ same_change d v bitmap_file r (with_data None []) (λ (a : Node). a) k.bitmap.is_file (same_node (kind_in v bitmap_file r) (data_shown (kind_in v bitmap_file r) r) (shown_none r))
      ∙ option_same (node_by_number (tree_of d v).nodes bitmap_file)

  tree_stays : RoomDiffers (tree_of d v) (tree_of (content_with d bodies) w)
  tree_stays =
      let follow = now_tree d g clusters v bitmap_file data_type [] b.stream after.stream r put_as.0 bodies sized_d eight state one_file new_is.now follows slot (as_far v bitmap_file bodies each) five six bitmaps whole_was in
      record {
        nodes = λ m. elim (cases_eq m bitmap_file) [
          | inl same ↦ subst (λ (x : ℕ). node_by_number (tree_of (content_with d bodies) w).nodes x ≡ node_by_number (tree_of d v).nodes x) (sym same) node_stays
          | inr other ↦ follow.others m other
        ];
        links = follow.links;
        spare = follow.spare;
        count = follow.count;
        journal = follow.journal;
      }

  -- ---- all together

  pub keeps_owners : KeepsOwners d g clusters v bodies w
  keeps_owners = record {
    whole = goes.blocks.whole;
    stands = leads.stands;
    per = refl;
    clusters_stay = refl;
    table = refl;
    count_stays = leads.count;
    files = same_files d g clusters v bitmap_file data_type [] b.stream after.stream r put_as.0 bodies sized_d eight state one_file new_is.now follows slot (as_far v bitmap_file bodies each) five six bitmaps;
    runs = runs_stay;
    sizes = λ t differ. elim (which_of t) [
      | inl same ↦ absurd (differ (sym same))
      | inr stays ↦ ap initialised_in stays
    ];
    owners = owners_stay;
    owned = all_by (λ q. GoesTo v bitmap_file q.block) (λ q. Owns v q.block) is_owned bodies each;
    covers = covered;
    reads = reads_so;
    tree = tree_stays;
  }

  pub edits : EditsDraft c old new bodies
  edits = record { same = goes.blocks.same; content = content_is }

  pub new_kept : IsKept new
  new_kept = goes.kept

  pub bitmap_now : IsClusterBitmap w after
  bitmap_now = record {
    number = new_is.number ∙ k.bitmap.number;
    kind = new_is.kind ∙ k.bitmap.kind;
    stands = k.stands;
    file = put_as.0;
    is_file = file_there v bitmap_file put_as.0 below_count base;
    stands_as = new_is.stands_as;
    no_list = new_is.no_list;
    used = new_is.used;
    stream = new_is.stream;
    joined = new_is.joined;
  }
