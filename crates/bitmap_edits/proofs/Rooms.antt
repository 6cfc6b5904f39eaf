-- A bitmap that may be given bits may be given others behind them, and its record has room again.
use Rattle.std.proofs.Common.{◌≡◌, ℕ, ◌+◌, ◌*◌, ◌<◌, ◌≤◌, ◌^◌, max, Bool, true, false, ◌&&◌, cond, leb, eqb, List, [], ◌∷◌, length, Option, Some, None, Result, Ok, refl, sym, ap, subst, ◌∙◌, inl, inr, arith}
use Rattle.std.specs.Prelude.{⊤}
use Rattle.std.specs.List.{list_all}
use Rattle.std.proofs.lemmas.Bool.{cases_lt, and_parts, eqb-true, le-leb, leb-false, leb-true, lt-leb}
use Rattle.disk_model.specs.Content.{Content}
use Rattle.record_model.specs.declared.attribute.Attr.{Attr}
use Rattle.record_model.specs.declared.runs.Run.{Run}
use Rattle.record_model.specs.Pairs.{cluster_limit, Follow, HasSpelling}
use Rattle.record_model.specs.Constants.{data_type}
use Rattle.state_model.specs.declared.geometry.Geometry.{Geometry}
use Rattle.state_model.specs.declared.stream.Extents.{Extents}
use Rattle.state_model.specs.declared.stream.Stream.{Stream}
use Rattle.state_model.specs.declared.stream.Stream.TheVariants.{Held, Placed}
use Rattle.state_model.specs.Loads.{total_clusters}
use Rattle.state_model.specs.Streams.{attributes_of, real_size, stream_of}
use Rattle.volume_model.specs.Volumes.{Volume}
use Rattle.volume_model.specs.Sizes.{fits_volume, has_sizes, lies_below, lies_inside}
use Rattle.plan_owners.specs.States.{Stands}
use Rattle.plan_draft.specs.declared.touched.Touched.{Touched}
use Rattle.plan_draft.specs.Drafts.{drafted}
use Rattle.table_edits.proofs.plan_model.Drafting.{per_is}
use Rattle.record_streams.specs.Placing.{placed_attr, placed_record}
use Rattle.record_streams.proofs.Fits.{fits_placed}
use Rattle.record_streams.proofs.Streams.{placed_one}
use Rattle.record_values.specs.Values.{valued_attr}
use Rattle.record_values.proofs.Valued.{fits_valued, values_put}
use Rattle.draft_records.specs.Records.{fits_room}
use Rattle.table_edits.specs.draft_bitmaps.declared.bitmap.Bitmap.{Bitmap}
use Rattle.table_edits.specs.draft_bitmaps.Bitmaps.{byte_end, IsBitmap, is_below, IsShortStream, PutsBitsOf, PutsInto, PutsPlacedBy, raised, with_extents, with_value}
use Rattle.table_edits.specs.draft_bitmaps.Effects.{room_in, room_of}
use Rattle.table_edits.proofs.draft_bitmaps.Room.{same_room}
use Rattle.table_edits.specs.draft_growth.Clusters.{PutsClustersOf, PutsRunsOf}
use Rattle.table_edits.proofs.plan_growth.Placed.{some_attributes}
use Rattle.table_edits.proofs.plan_growth.Ruled.{sizes_lawful}
use Rattle.table_edits.proofs.Again.{placed_again, valued_again}
use Rattle.bitmap_edits.specs.Bitmaps.{BitsAreEdit, IsClusterBitmap, PutsClustersIn, PutsRunsIn}
use Rattle.bitmap_edits.proofs.FreeBits.{alike_of, bitmap_long, bitmap_rule}
use Rattle.bitmap_edits.proofs.FreeRuns.{begins_so, runs_put}

-- ---- sizes

total_within : (first n : ℕ) (runs : List Run) → n ≤ cluster_limit → Follow first n runs → n + total_clusters runs ≤ cluster_limit
total_within first n [] less follow = omega (arith, less)
total_within first n (r ∷ runs) less follow = (let rest = total_within first (n + r.len) runs follow.0.within follow.1 in omega (arith, rest))

allocated_few : (per : ℕ) (e : Extents) → per ≡ 8 → HasSpelling 0 e.runs → e.allocated ≡ total_clusters e.runs * (512 * per) → e.allocated < 2 ^ 60
allocated_few per e eight spelled is =
    let most : 0 + total_clusters e.runs ≤ cluster_limit = total_within 0 0 e.runs (omega arith) spelled in
    subst (λ (n : ℕ). n < 2 ^ 60) (sym is) (subst (λ (p : ℕ). total_clusters e.runs * (512 * p) < 2 ^ 60) (sym eight) (omega (arith, most)))

-- a stream of which the initialised size may be raised, up to so many bits
abbrev pub MayRaise : ℕ → Stream → Type 0
MayRaise clusters (Held value) = ⊤
MayRaise clusters (Placed e) = (clusters ≤ 8 * e.real) × ((e.real < 2 ^ 60) × (e.allocated < 2 ^ 60))

-- what has to be known of a bitmap
pub record May (per clusters : ℕ) (b : Bitmap) : Type 0 where
  pub stands : IsBitmap b
  pub first : Attr
  pub others : List Attr
  pub pieces : attributes_of b.kind [] b.file.attrs ≡ first ∷ others
  pub room : (at len : ℕ) → at + len ≤ clusters → room_of per b at len ≡ Ok tt
  pub sizes : MayRaise clusters b.stream

-- ---- one range of bits

no_room : (t : Bool) (x : Result (Unit {0}) ℕ) → t ≡ false → cond t (Ok tt) x ≡ Ok tt → x ≡ Ok tt
no_room true x is room = absurd cc
no_room false x is room = room

-- raised twice, where the second time is no less, is raised once
raised_twice : (first len at more : ℕ) (e : Extents) → (raised first len e).initialised < byte_end at more → raised at more (raised first len e) ≡ raised at more e
raised_twice first len at more e above = ap (λ (x : ℕ). record { runs = e.runs; allocated = e.allocated; real = e.real; initialised = x }) same
  where
    same : max (max e.initialised (byte_end first len)) (byte_end at more) ≡ max e.initialised (byte_end at more)
    same = omega (arith, above)

module _ (c : Content) (per clusters : ℕ) (table mirror : Extents) (b : Bitmap) (first len : ℕ) (value : Bool) (old new : List Touched) (after : Bitmap) (eight : per ≡ 8) (few : first + len ≤ clusters) (k : May per clusters b) where
  held : (bytes was : List ℕ) → b.stream ≡ Held was → length bytes ≡ length was → May per clusters (with_value bytes b)
  held bytes was is same =
      let short : length bytes ≤ 2 ^ 16 = (let most = subst IsShortStream is k.stands.stream in omega (arith, same, most)) in
      record {
        stands = record { number = k.stands.number; kind = k.stands.kind; fits = fits_valued b.kind [] bytes b.file short k.stands.kind k.stands.fits; stream = short };
        first = valued_attr bytes k.first;
        others = [];
        pieces = values_put.one b.kind [] bytes b.file k.first k.others k.pieces;
        room = λ at more low.
            ap fits_room (valued_again b.kind [] bytes bytes b.file k.first k.others k.pieces)
            ∙ same_room b.kind [] bytes was b.file same
            ∙ sym (ap (λ (s : Stream). room_in s per b at more) is)
            ∙ k.room at more low;
        sizes = tt;
      }

  higher : (e : Extents) → b.stream ≡ Placed e → e.initialised < byte_end first len → May per clusters (with_extents per (raised first len e) b)
  higher e is above =
      let f : Extents = raised first len e in
      let short = subst IsShortStream is k.stands.stream in
      let sizes = subst (MayRaise clusters) is k.sizes in
      let most = sizes.0 in
      let real = sizes.1.0 in
      let allocated = sizes.1.1 in
      let small : f.initialised < 2 ^ 60 = (let low = few in omega (arith, above, most, real, low)) in
      record {
        stands = record {
          number = k.stands.number;
          kind = k.stands.kind;
          fits = fits_placed per b.kind [] f b.file (omega (arith, eight)) short.spelled short.few (record { allocated = omega (arith, allocated); real = omega (arith, real); initialised = omega (arith, small) }) k.stands.kind k.stands.fits;
          stream = record { spelled = short.spelled; few = short.few; size = omega (arith, small) };
        };
        first = placed_attr per f k.first;
        others = [];
        pieces = placed_one per b.kind [] f b.file k.first k.others k.pieces;
        room = λ at more low. room_again e f is refl at more low;
        sizes = sizes;
      }
    where
      room_again : (x y : Extents) → b.stream ≡ Placed x → y ≡ raised first len x → (at more : ℕ) → at + more ≤ clusters → room_of per (with_extents per y b) at more ≡ Ok tt
      room_again x y is_x is_y at more low = elim (cases_lt y.initialised (byte_end at more)) [
        | inl past ↦
            (let one : raised at more y ≡ raised at more x = ap (raised at more) is_y ∙ raised_twice first len at more x (subst (λ (z : Extents). z.initialised < byte_end at more) is_y past) in
            let past_x : x.initialised < byte_end at more = (let grows : y.initialised ≡ max x.initialised (byte_end first len) = ap (λ (z : Extents). z.initialised) is_y in omega (arith, past, grows)) in
            let room_x : fits_room (placed_record per b.kind [] (raised at more x) b.file) ≡ Ok tt = no_room (is_below x at more) _ (lt-leb (byte_end at more) x.initialised past_x) (sym (ap (λ (s : Stream). room_in s per b at more) is_x) ∙ k.room at more low) in
            either (is_below y at more) (fits_room (with_extents per (raised at more y) (with_extents per y b)).file)
            (ap fits_room (placed_again per b.kind [] y (raised at more y) b.file k.first k.others k.pieces) ∙ ap (λ (z : Extents). fits_room (placed_record per b.kind [] z b.file)) one ∙ room_x))
        | inr below ↦ ap (λ (t : Bool). cond t (Ok tt) (fits_room (with_extents per (raised at more y) (with_extents per y b)).file)) (le-leb (byte_end at more) y.initialised below)
      ]
        where
          either : (t : Bool) (o : Result (Unit {0}) ℕ) → o ≡ Ok tt → cond t (Ok tt) o ≡ Ok tt
          either true o is = refl
          either false o is = is

  by_below : (t : Bool) (e : Extents) → is_below e first len ≡ t → b.stream ≡ Placed e → PutsPlacedBy t c per table mirror b e first len value old new after → May per clusters after
  by_below true e is stream put = subst (May per clusters) (sym put.1) k
  by_below false e is stream put = subst (May per clusters) (sym put.1) (higher e stream (leb-false (byte_end first len) e.initialised is))

  by_stream : (s : Stream) → b.stream ≡ s → PutsInto s c per table mirror b first len value old new after → May per clusters after
  by_stream (Held was) stream put = subst (May per clusters) (sym put.0.1.1) (held put.0.0 was stream put.0.1.0.same_count)
  by_stream (Placed e) stream put = by_below (is_below e first len) e refl stream put

  may_again : PutsBitsOf c per table mirror b first len value old new after → May per clusters after
  may_again put = by_stream b.stream refl put

-- ---- runs, one behind the other

one_in : (c : Content) (per clusters : ℕ) (table mirror : Extents) (value : Bool) (o : Option ℕ) (len : ℕ) (b : Bitmap) (old new : List Touched) (after : Bitmap) → per ≡ 8 → lies_below clusters len o ≡ true → May per clusters b → PutsClustersOf c per table mirror value o len b old new after → PutsClustersIn c per table mirror value o len b old new after × May per clusters after
one_in c per clusters table mirror value None len b old new after eight inside k put = (put, subst (May per clusters) (sym put.1) k)
one_in c per clusters table mirror value (Some first) len b old new after eight inside k put =
    let few : first + len ≤ clusters = leb-true (first + len) clusters inside in
    let now : May per clusters after = may_again c per clusters table mirror b first len value old new after eight few k put in
    ((now.stands, k.room first len few, put), now)

runs_in_by : (c : Content) (per clusters : ℕ) (table mirror : Extents) (value : Bool) (runs : List Run) (b : Bitmap) (old new : List Touched) (after : Bitmap) → per ≡ 8 → list_all (lies_inside clusters) runs ≡ true → May per clusters b → PutsRunsOf c per table mirror value runs b old new after → PutsRunsIn c per table mirror value runs b old new after
unfolding PutsRunsOf PutsRunsIn
runs_in_by c per clusters table mirror value [] b old new after eight inside k put = put
runs_in_by c per clusters table mirror value (r ∷ runs) b old new after eight inside k put =
    let parts = and_parts (lies_inside clusters r) (list_all (lies_inside clusters) runs) inside in
    let one = one_in c per clusters table mirror value r.lcn r.len b old put.1 put.0 eight parts.0 k put.2 in
    (put.0, put.1, one.0, runs_in_by c per clusters table mirror value runs put.0 put.1 new after eight parts.1 one.1 put.3)

-- ---- of a state

module _ (c : Content) (g : Geometry) (clusters : ℕ) (v : Volume) (b : Bitmap) (eight : g.per_cluster ≡ 8) (state : Stands c g clusters v) (k : IsClusterBitmap v b) (room : (at len : ℕ) → at + len ≤ v.clusters → room_of v.per b at len ≡ Ok tt) where
  was : stream_of data_type [] k.file.attrs ≡ Some b.stream
  was = (alike_of v.per v.clusters k.file b.file k.stands_as k.used).streams data_type [] ∙ k.stream

  fits : fits_volume v.per v.clusters (Some b.stream) ≡ true
  fits = (bitmap_rule c g clusters v k.file b.stream state k.is_file was).1

  long : v.clusters ≤ 8 * real_size b.stream
  long = bitmap_long c g clusters v k.file b.stream state k.is_file was

  raises : (s : Stream) → fits_volume v.per v.clusters (Some s) ≡ true → v.clusters ≤ 8 * real_size s → IsShortStream s → MayRaise v.clusters s
  raises (Held value) fit most short = tt
  raises (Placed e) fit most short =
      let sizes = (and_parts (list_all (lies_inside v.clusters) e.runs) (has_sizes v.per e) fit).1 in
      let allocated = eqb-true e.allocated (total_clusters e.runs * (512 * v.per)) (and_parts (leb e.initialised e.real && leb e.real e.allocated) (eqb e.allocated (total_clusters e.runs * (512 * v.per))) sizes).1 in
      let few = allocated_few v.per e (per_is c g clusters v eight state) short.spelled allocated in
      let high = (sizes_lawful v.per v.clusters e fit).1 in
      (most, (omega (arith, few, high, allocated), few))

  pieces : (a : Attr) × (others : List Attr) × (attributes_of data_type [] b.file.attrs ≡ a ∷ others)
  unfolding stream_of
  pieces = some_attributes (attributes_of data_type [] b.file.attrs) b.stream k.stream

  pub may : May v.per v.clusters b
  may = record {
    stands = k.stands;
    first = pieces.0;
    others = pieces.1;
    pieces = ap (λ (n : ℕ). attributes_of n [] b.file.attrs) k.kind ∙ pieces.2;
    room = room;
    sizes = raises b.stream fits long k.stands.stream;
  }

pub runs_in_room : (c : Content) (g : Geometry) (clusters : ℕ) (v : Volume) (mirror : Extents) (b : Bitmap) (runs : List Run) (value : Bool) (old new : List Touched) (after : Bitmap) → g.per_cluster ≡ 8 → Stands (drafted old c) g clusters v → IsClusterBitmap v b → ((at len : ℕ) → at + len ≤ v.clusters → room_of v.per b at len ≡ Ok tt)
    → list_all (lies_inside v.clusters) runs ≡ true → PutsRunsOf c v.per v.table mirror value runs b old new after → PutsRunsIn c v.per v.table mirror value runs b old new after
runs_in_room c g clusters v mirror b runs value old new after eight state k room inside put =
    runs_in_by c v.per v.clusters v.table mirror value runs b old new after (per_is (drafted old c) g clusters v eight state) inside (may (drafted old c) g clusters v b eight state k room) put

pub bits_edit : BitsAreEdit
bits_edit = record { begins = begins_so; runs = runs_put; in_room = runs_in_room }
