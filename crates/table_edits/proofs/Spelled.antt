-- The bitmap of numbers has a record with a spelling each time that it is put, and room for it where it had at first.
use Rattle.std.proofs.Common.{◌≡◌, ℕ, ◌+◌, ◌-◌, ◌*◌, ◌/◌, ◌^◌, ◌<◌, ◌≤◌, Bool, true, false, cond, List, [], ◌∷◌, ◌++◌, length, Ok, refl, sym, ap, subst, ◌∙◌, arith}
use Rattle.std.specs.Prelude.{map, nat_le}
use Rattle.std.proofs.lemmas.List.{length-append}
use Rattle.host_base.specs.Answers.{needs}
use Rattle.disk_model.specs.Bytes.{zeros}
use Rattle.disk_model.specs.Content.{Content}
use Rattle.record_model.specs.declared.attribute.Attr.{Attr}
use Rattle.record_model.specs.declared.runs.Run.{Run}
use Rattle.record_model.specs.Attributes.{filled, held_bytes, spelling}
use Rattle.record_model.specs.Pairs.{HasSpelling, pairs_of}
use Rattle.record_model.specs.Records.{Record, spelled_bytes}
use Rattle.record_writer.specs.Edits.{whole_length}
use Rattle.record_writer.specs.Normal.{normal}
use Rattle.record_writer.proofs.Measures.{length-spelling}
use Rattle.state_model.specs.declared.stream.Extents.{Extents}
use Rattle.state_model.specs.declared.stream.Stream.{Stream}
use Rattle.state_model.specs.declared.stream.Stream.TheVariants.{Held, Placed}
use Rattle.state_model.specs.Streams.{attributes_of, is_attribute_of}
use Rattle.stream_runs.specs.Runs.{grown}
use Rattle.plan_edits.specs.record_streams.Fitting.{HasFields}
use Rattle.plan_edits.specs.record_streams.Placing.{held_clusters, held_size, placed_attr, placed_first, placed_record, with_stream, without_stream}
use Rattle.plan_edits.proofs.record_streams.Fits.{fits_placed}
use Rattle.plan_table.proofs.record_values.Valued.{fits_valued}
use Rattle.plan_edits.specs.resized_streams.Resizing.{lengthened}
use Rattle.plan_draft.specs.declared.touched.Touched.{Touched}
use Rattle.plan_draft.proofs.Parts.{zeros_long}
use Rattle.plan_edits.specs.draft_records.Records.{fits_room, written_bytes}
use Rattle.draft_growth.specs.draft_bitmaps.declared.bitmap.Bitmap.{Bitmap}
use Rattle.draft_growth.specs.draft_bitmaps.Bitmaps.{is_below, IsBitmap, PutsInto, PutsPlacedBy, raised, with_extents, with_value}
use Rattle.draft_growth.specs.draft_bitmaps.Effects.{room_in}
use Rattle.draft_growth.specs.Growing.{roomier, with_room}
use Rattle.table_edits.proofs.Again.{placed_again, valued_again}

-- ---- the room of a record of which a stream has the same runs

attr_long : (per : ℕ) (e f : Extents) (a : Attr) → f.runs ≡ e.runs → length (spelling (normal (placed_attr per f a))) ≡ length (spelling (normal (placed_attr per e a)))
attr_long per e f a same =
    length-spelling (normal (placed_attr per f a))
    ∙ ap (λ (runs : List Run). whole_length (0x40 + length (held_bytes (held_size a.head.flags (held_clusters runs * (512 * per))))) (length a.name) (length (filled 0 (pairs_of runs)))) same
    ∙ sym (length-spelling (normal (placed_attr per e a)))

by_test : (t : Bool) (x y a : Attr) (xs ys rest : List Attr) → length (spelling (normal x)) ≡ length (spelling (normal y)) → spelled_bytes (map normal xs) ≡ spelled_bytes (map normal ys)
    → spelled_bytes (map normal (cond t (x ∷ rest) (a ∷ xs))) ≡ spelled_bytes (map normal (cond t (y ∷ rest) (a ∷ ys)))
by_test true x y a xs ys rest head tail = ap (λ (n : ℕ). n + spelled_bytes (map normal rest)) head
by_test false x y a xs ys rest head tail = ap (λ (n : ℕ). length (spelling (normal a)) + n) tail

all_long : (kind : ℕ) (name : List ℕ) (x y : Attr) (attrs : List Attr) → length (spelling (normal x)) ≡ length (spelling (normal y)) → spelled_bytes (map normal (with_stream kind name x attrs)) ≡ spelled_bytes (map normal (with_stream kind name y attrs))
all_long kind name x y [] same = refl
all_long kind name x y (a ∷ attrs) same =
    by_test (is_attribute_of kind name a) x y a (with_stream kind name x attrs) (with_stream kind name y attrs) (without_stream kind name attrs) same (all_long kind name x y attrs same)

first_long : (per kind : ℕ) (name : List ℕ) (e f : Extents) (r : Record) (attributes : List Attr) → f.runs ≡ e.runs → written_bytes (placed_first per kind name f r attributes) ≡ written_bytes (placed_first per kind name e r attributes)
first_long per kind name e f r [] same = refl
first_long per kind name e f r (a ∷ others) same = ap (λ (n : ℕ). 0x38 + n + 8) (all_long kind name (placed_attr per f a) (placed_attr per e a) r.attrs (attr_long per e f a same))

same_placed_room : (per kind : ℕ) (name : List ℕ) (e f : Extents) (r : Record) → f.runs ≡ e.runs → fits_room (placed_record per kind name f r) ≡ fits_room (placed_record per kind name e r)
same_placed_room per kind name e f r same = ap (λ (n : ℕ). needs (nat_le n 1024) n) (first_long per kind name e f r (attributes_of kind name r.attrs) same)

-- ---- a bitmap as another stream

valued_bitmap : (b : Bitmap) (bytes : List ℕ) → IsBitmap b → length bytes ≤ 2 ^ 16 → IsBitmap (with_value bytes b)
valued_bitmap b bytes is short = record { number = is.number; kind = is.kind; fits = fits_valued b.kind [] bytes b.file short is.kind is.fits; stream = short }

placed_bitmap : (per : ℕ) (b : Bitmap) (e : Extents) → per ≡ 8 → IsBitmap b → HasSpelling 0 e.runs → length e.runs ≤ 2 ^ 16 → HasFields e → e.initialised < 2 ^ 61 → IsBitmap (with_extents per e b)
placed_bitmap per b e eight is spelled few fields size = record {
  number = is.number;
  kind = is.kind;
  fits = fits_placed per b.kind [] e b.file (omega (arith, eight)) spelled few fields is.kind is.fits;
  stream = record { spelled = spelled; few = few; size = size };
}

-- ---- both times

-- what has to be known of a bitmap in clusters
pub record MayBeWider (per size : ℕ) (more : List Run) (e : Extents) : Type 0 where
  pub spelled : HasSpelling 0 (grown e.runs more)
  pub few : length (grown e.runs more) ≤ 2 ^ 16
  pub allocated : (lengthened per more e).allocated < 2 ^ 64
  pub real : e.real < 2 ^ 31
  pub initialised : e.initialised < 2 ^ 31

abbrev pub MayBeLonger : ℕ → ℕ → List Run → Stream → Type 0
MayBeLonger per size more (Held value) = length value ≤ 2 ^ 15
MayBeLonger per size more (Placed e) = MayBeWider per size more e

-- the records have spellings, and the second one has room where the first one had
pub record IsSpelled (per first : ℕ) (lb after : Bitmap) : Type 0 where
  pub first_is : IsBitmap lb
  pub last_is : IsBitmap after
  pub room : room_in lb.stream per lb first 256 ≡ Ok tt

module _ (c : Content) (per : ℕ) (table mirror : Extents) (size first : ℕ) (more : List Run) (base : Bitmap) (a : Attr) (others : List Attr) (some : attributes_of base.kind [] base.file.attrs ≡ a ∷ others) (eight : per ≡ 8) (mid new : List Touched) (small : size ≤ 2 ^ 18) (is_base : IsBitmap base) (ends : (first + 256 + 7) / 8 ≤ size) where
  module _ (value : List ℕ) (short : length value ≤ 2 ^ 15) (few : size ≤ 2 ^ 16) where
    abbrev all : List ℕ
    all = value ++ zeros (size - length value)

    long : length all ≤ 2 ^ 16
    long = (let total = length-append value (zeros (size - length value)) in let behind = zeros_long (size - length value) in omega (arith, short, few, total, behind))

    held_first : IsBitmap (with_value all base)
    held_first = valued_bitmap base all is_base long

    held_spelled : (bytes : List ℕ) (after : Bitmap) → length bytes ≡ length all → after ≡ with_value bytes (with_value all base) → fits_room (with_value all base).file ≡ Ok tt → IsSpelled per first (with_value all base) after
    held_spelled bytes after same is room = record {
      first_is = held_first;
      last_is = subst IsBitmap (sym is) (valued_bitmap (with_value all base) bytes held_first (let most = long in omega (arith, same, most)));
      room = ap fits_room (valued_again base.kind [] all all base.file a others some) ∙ room;
    }

  module _ (e : Extents) (k : MayBeWider per size more e) where
    abbrev wide : Extents
    wide = roomier per size more e

    abbrev lb : Bitmap
    lb = with_extents per wide (with_extents per (lengthened per more e) base)

    abbrev high : Extents
    high = raised first 256 wide

    wide_first : IsBitmap lb
    wide_first =
        let real = k.real in
        let initialised = k.initialised in
        placed_bitmap per (with_extents per (lengthened per more e) base) wide eight
        (placed_bitmap per base (lengthened per more e) eight is_base k.spelled k.few (record { allocated = k.allocated; real = omega (arith, real); initialised = omega (arith, initialised) }) (omega (arith, initialised))) k.spelled k.few
        (record { allocated = k.allocated; real = omega (arith, real, small); initialised = omega (arith, initialised) }) (omega (arith, initialised))

    high_last : IsBitmap (with_extents per high lb)
    high_last =
        let real = k.real in
        let initialised = k.initialised in
        placed_bitmap per lb high eight wide_first k.spelled k.few (record { allocated = k.allocated; real = omega (arith, real, small); initialised = omega (arith, initialised, small, ends) }) (omega (arith, initialised, small, ends))

    one_kind : lb.kind ≡ base.kind
    one_kind = refl

    high_room : fits_room lb.file ≡ Ok tt → fits_room (with_extents per high lb).file ≡ Ok tt
    high_room room =
        ap (λ (r : Record). fits_room (placed_record per base.kind [] high r)) (placed_again per base.kind [] (lengthened per more e) wide base.file a others some)
        ∙ ap fits_room (placed_again per base.kind [] wide high base.file a others some)
        ∙ same_placed_room per base.kind [] wide high base.file refl
        ∙ ap fits_room (sym (placed_again per base.kind [] (lengthened per more e) wide base.file a others some))
        ∙ room

    last_by : (t : Bool) (after : Bitmap) → PutsPlacedBy t c per table mirror lb wide first 256 false mid new after → IsBitmap after
    last_by true after put = subst IsBitmap (sym put.1) wide_first
    last_by false after put = subst IsBitmap (sym put.1) high_last

    room_by : (t : Bool) → fits_room lb.file ≡ Ok tt → cond t (Ok tt) (fits_room (with_extents per high lb).file) ≡ Ok tt
    room_by true room = refl
    room_by false room = high_room room

    wide_spelled : (after : Bitmap) → fits_room lb.file ≡ Ok tt → PutsInto (Placed wide) c per table mirror lb first 256 false mid new after → IsSpelled per first lb after
    wide_spelled after room put = record {
      first_is = wide_first;
      last_is = last_by (is_below wide first 256) after put;
      room = room_by (is_below wide first 256) room;
    }

  pub both_spelled : (s : Stream) (longer after : Bitmap) → longer ≡ with_room per size more s base → MayBeLonger per size more s → ((value : List ℕ) → s ≡ Held value → size ≤ 2 ^ 16) → fits_room longer.file ≡ Ok tt → PutsInto longer.stream c per table mirror longer first 256 false mid new after → IsSpelled per first longer after
  both_spelled (Held value) longer after is may few room put =
      let all : List ℕ = value ++ zeros (size - length value) in
      let P : Bitmap → Type 0 = λ x. (fits_room x.file ≡ Ok tt) × PutsInto x.stream c per table mirror x first 256 false mid new after in
      let at : P (with_value all base) = subst P is (room, put) in
      subst (λ (x : Bitmap). IsSpelled per first x after) (sym is) (held_spelled value may (few value refl) at.1.0.0 after at.1.0.1.0.same_count at.1.0.1.1 at.0)
  both_spelled (Placed e) longer after is may few room put =
      let P : Bitmap → Type 0 = λ x. (fits_room x.file ≡ Ok tt) × PutsInto x.stream c per table mirror x first 256 false mid new after in
      let at : P (with_extents per (roomier per size more e) (with_extents per (lengthened per more e) base)) = subst P is (room, put) in
      subst (λ (x : Bitmap). IsSpelled per first x after) (sym is) (wide_spelled e may after at.0 at.1)
