-- The bitmap of numbers behind a table that grows, wherever it stands.
use Rattle.std.proofs.Common.{◌≡◌, ◌⊎◌, ℕ, ◌+◌, ◌-◌, ◌*◌, ◌≤◌, max, Bool, true, false, cond, List, [], ◌∷◌, ◌++◌, length, Some, Ok, refl, sym, ap₂, subst, ◌∙◌, inl, inr, arith}
use Rattle.std.proofs.lemmas.Bool.{leb-true}
use Rattle.std.proofs.lemmas.List.{length-append}
use Rattle.disk_model.specs.Bytes.{zeros}
use Rattle.disk_model.specs.Content.{Content}
use Rattle.record_model.specs.declared.attribute.Attr.{Attr}
use Rattle.record_model.specs.declared.runs.Run.{Run}
use Rattle.record_model.specs.Constants.{bitmap_type}
use Rattle.record_model.specs.Pairs.{cluster_limit, HasSpelling}
use Rattle.record_model.specs.Records.{Record}
use Rattle.state_model.specs.declared.stream.Extents.{Extents}
use Rattle.state_model.specs.declared.stream.Stream.{Stream}
use Rattle.state_model.specs.declared.stream.Stream.TheVariants.{Held, Placed}
use Rattle.state_model.specs.Loads.{total_clusters}
use Rattle.state_model.specs.Streams.{attributes_of, real_size}
use Rattle.stream_laws.specs.Owners.{initialised_in}
use Rattle.stream_laws.specs.Sharing.{runs_in}
use Rattle.plan_edits.specs.record_streams.Placing.{placed_record}
use Rattle.plan_table.specs.record_values.Values.{valued_record}
use Rattle.plan_edits.specs.resized_streams.Resizing.{clusters_for, lengthened, with_sizes}
use Rattle.plan_draft.specs.declared.touched.Touched.{Touched}
use Rattle.plan_draft.proofs.Parts.{zeros_long}
use Rattle.plan_edits.proofs.plan_growth.Growing.{total-grown}
use Rattle.plan_table.specs.Growing.{BitmapBecomes, TakesBits, with_bitmap}
use Rattle.plan_edits.specs.draft_records.Records.{fits_room}
use Rattle.draft_growth.specs.draft_bitmaps.declared.bitmap.Bitmap.{Bitmap}
use Rattle.draft_growth.specs.draft_bitmaps.Bitmaps.{byte_end, is_below, raised, with_value, with_extents, PutsPlacedBy, PutsInto}
use Rattle.draft_growth.specs.draft_bitmaps.Effects.{room_in}
use Rattle.draft_growth.proofs.draft_bitmaps.Room.{same_room}
use Rattle.draft_growth.specs.Growing.{bytes_for, placed_in, roomier, with_room}
use Rattle.table_edits.specs.Grown.{AreBegun}
use Rattle.table_edits.proofs.Again.{placed_again, valued_again}

-- What the bitmap has become in a record with this one, behind the longer one. The sizes are those of so many numbers.
pub record IsLongerNumbers (per count : ℕ) (more : List Run) (old : Stream) (q : Record) (longer after : Bitmap) : Type 0 where
  pub becomes : BitmapBecomes per more old after.stream
  pub enough : count ≤ 8 * real_size after.stream
  pub runs : runs_in (Some after.stream) ≡ runs_in (Some longer.stream)
  pub begins : initialised_in (Some longer.stream) ≡ initialised_in (Some old)
  pub file : after.file ≡ with_bitmap per after.stream q
  pub room : fits_room after.file ≡ Ok tt
  pub begun : AreBegun count after.stream

-- what has to be known of a bitmap in clusters
pub record MayBeRoomier (per size : ℕ) (more : List Run) (e : Extents) : Type 0 where
  pub spelled : HasSpelling 0 e.runs
  pub few : total_clusters e.runs + total_clusters more ≤ cluster_limit
  pub total : total_clusters more ≡ clusters_for per size - total_clusters e.runs
  pub lawful : e.initialised ≤ e.real
  pub room : (e.real ≤ total_clusters e.runs * (512 * per)) ⊎ (e.real ≤ size)

abbrev pub MayBecome : ℕ → ℕ → List Run → Stream → Type 0
MayBecome per size more (Held value) = more ≡ []
MayBecome per size more (Placed e) = MayBeRoomier per size more e

size_fits : (per size total more : ℕ) → per ≡ 8 → more ≡ clusters_for per size - total → size ≤ (total + more) * (512 * per)
size_fits per size total more eight is = subst (λ (p : ℕ). more ≡ clusters_for p size - total → size ≤ (total + more) * (512 * p)) (sym eight) (λ same. omega (arith, same)) is

still_fits : (per total more real : ℕ) → per ≡ 8 → real ≤ total * (512 * per) → real ≤ (total + more) * (512 * per)
still_fits per total more real eight = subst (λ (p : ℕ). real ≤ total * (512 * p) → real ≤ (total + more) * (512 * p)) (sym eight) (λ least. omega (arith, least))

module _ (c : Content) (per : ℕ) (table mirror : Extents) (count first size : ℕ) (more : List Run) (q : Record) (a : Attr) (others : List Attr) (some : attributes_of bitmap_type [] q.attrs ≡ a ∷ others) (eight : per ≡ 8) (mid new : List Touched) (ends : first + 256 ≡ count) (large : bytes_for count ≤ size) where
  -- the bitmap in a record with this one, as it was
  module _ (base : Bitmap) (kind : base.kind ≡ bitmap_type) (in_q : base.file ≡ q) where
    held_file : (value : List ℕ) → valued_record base.kind [] value base.file ≡ valued_record bitmap_type [] value q
    held_file value = ap₂ (λ (k : ℕ) (r : Record). valued_record k [] value r) kind in_q

    held_longer : (value bytes : List ℕ) (after : Bitmap) → length bytes ≡ length (value ++ zeros (size - length value)) → after ≡ with_value bytes (with_value (value ++ zeros (size - length value)) base)
        → room_in (Held (value ++ zeros (size - length value))) per (with_value (value ++ zeros (size - length value)) base) first 256 ≡ Ok tt → more ≡ [] → IsLongerNumbers per count more (Held value) q (with_value (value ++ zeros (size - length value)) base) after
    held_longer value bytes after long is room none =
        let all : List ℕ = value ++ zeros (size - length value) in
        let lb : Bitmap = with_value all base in
        let total : length all ≡ length value + length (zeros (size - length value)) = length-append value (zeros (size - length value)) in
        let behind = zeros_long (size - length value) in
        subst (IsLongerNumbers per count more (Held value) q lb) (sym is)
        (record {
          becomes = none;
          enough = omega (arith, long, total, behind, large);
          runs = refl;
          begins = refl;
          file = ap₂ (λ (k : ℕ) (r : Record). valued_record k [] bytes r) kind (held_file all) ∙ valued_again bitmap_type [] all bytes q a others some;
          room = same_room base.kind [] bytes all lb.file long ∙ room;
          begun = tt;
        })

    abbrev wide : Extents → Extents
    wide e = roomier per size more e

    placed_file : (e : Extents) → placed_record per base.kind [] (wide e) (placed_record per base.kind [] (lengthened per more e) base.file) ≡ placed_record per bitmap_type [] (wide e) q
    placed_file e =
        ap₂ (λ (k : ℕ) (r : Record). placed_record per k [] (wide e) (placed_record per k [] (lengthened per more e) r)) kind in_q
        ∙ placed_again per bitmap_type [] (lengthened per more e) (wide e) q a others some

    lb_of : (e : Extents) → Bitmap
    lb_of e = placed_in per (wide e) (placed_record per base.kind [] (lengthened per more e) base.file) base

    takes : (e : Extents) (initialised : ℕ) → MayBeRoomier per size more e → e.initialised ≤ initialised → initialised ≤ max e.real size → TakesBits per more e (with_sizes (max e.real size) initialised (lengthened per more e))
    takes e initialised k low high =
        let total = total-grown e.runs more in
        let fits = size_fits per size (total_clusters e.runs) (total_clusters more) eight k.total in
        let most : max e.real size ≤ (total_clusters e.runs + total_clusters more) * (512 * per) = elim k.room [
          | inl lies ↦ (let still = still_fits per (total_clusters e.runs) (total_clusters more) e.real eight lies in omega (arith, fits, still))
          | inr low ↦ omega (arith, fits, low)
        ] in
        record {
          spelled = k.spelled;
          few = k.few;
          runs = refl;
          allocated = refl;
          initialised = low;
          lawful = high;
          room = subst (λ (n : ℕ). max e.real size ≤ n * (512 * per)) (sym total) most;
        }

    same_longer : (e : Extents) → MayBeRoomier per size more e → is_below (wide e) first 256 ≡ true → fits_room (lb_of e).file ≡ Ok tt → IsLongerNumbers per count more (Placed e) q (lb_of e) (lb_of e)
    unfolding lb_of
    same_longer e k below room = record {
      becomes = takes e e.initialised k (omega arith) (let low = k.lawful in omega (arith, low));
      enough = omega (arith, large);
      runs = refl;
      begins = refl;
      file = placed_file e;
      room = room;
      begun = (let end : byte_end first 256 ≤ e.initialised = leb-true (byte_end first 256) e.initialised below in omega (arith, end, ends));
    }

    raised_longer : (e : Extents) → MayBeRoomier per size more e → fits_room (with_extents per (raised first 256 (wide e)) (lb_of e)).file ≡ Ok tt → IsLongerNumbers per count more (Placed e) q (lb_of e) (with_extents per (raised first 256 (wide e)) (lb_of e))
    unfolding lb_of
    raised_longer e k room = record {
      becomes = takes e (max e.initialised (byte_end first 256)) k (omega arith) (let low = k.lawful in omega (arith, low, ends, large));
      enough = omega (arith, large);
      runs = refl;
      begins = refl;
      file =
          ap₂ (λ (x : ℕ) (r : Record). placed_record per x [] (raised first 256 (wide e)) r) kind (placed_file e)
          ∙ placed_again per bitmap_type [] (wide e) (raised first 256 (wide e)) q a others some;
      room = room;
      begun = omega (arith, ends);
    }

    by_below : (t : Bool) (e : Extents) (after : Bitmap) → is_below (wide e) first 256 ≡ t → MayBeRoomier per size more e → fits_room (lb_of e).file ≡ Ok tt → cond t (Ok tt) (fits_room (with_extents per (raised first 256 (wide e)) (lb_of e)).file) ≡ Ok tt
        → PutsPlacedBy t c per table mirror (lb_of e) (wide e) first 256 false mid new after → IsLongerNumbers per count more (Placed e) q (lb_of e) after
    by_below true e after below k first_room room put = subst (IsLongerNumbers per count more (Placed e) q (lb_of e)) (sym put.1) (same_longer e k below first_room)
    by_below false e after below k first_room room put = subst (IsLongerNumbers per count more (Placed e) q (lb_of e)) (sym put.1) (raised_longer e k room)

    pub longer_numbers : (s : Stream) (lb after : Bitmap) → lb ≡ with_room per size more s base → MayBecome per size more s → fits_room lb.file ≡ Ok tt → room_in lb.stream per lb first 256 ≡ Ok tt → PutsInto lb.stream c per table mirror lb first 256 false mid new after → IsLongerNumbers per count more s q lb after
    unfolding lb_of
    longer_numbers (Held value) lb after is may first_room room put =
        let all : List ℕ = value ++ zeros (size - length value) in
        let P : Bitmap → Type 0 = λ x. (room_in x.stream per x first 256 ≡ Ok tt) × PutsInto x.stream c per table mirror x first 256 false mid new after in
        let at : P (with_value all base) = subst P is (room, put) in
        subst (λ (x : Bitmap). IsLongerNumbers per count more (Held value) q x after) (sym is) (held_longer value at.1.0.0 after at.1.0.1.0.same_count at.1.0.1.1 at.0 may)
    longer_numbers (Placed e) lb after is may first_room room put =
        let P : Bitmap → Type 0 = λ x. (fits_room x.file ≡ Ok tt) × (room_in x.stream per x first 256 ≡ Ok tt) × PutsInto x.stream c per table mirror x first 256 false mid new after in
        let at : P (lb_of e) = subst P is (first_room, room, put) in
        subst (λ (x : Bitmap). IsLongerNumbers per count more (Placed e) q x after) (sym is) (by_below (is_below (wide e) first 256) e after refl may at.0 at.1 at.2)
