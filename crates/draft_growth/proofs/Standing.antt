-- The bounds of the stream that takes clusters, also where that is of a value that leaves its record.
use Rattle.std.proofs.Common.{◌≡◌, ℕ, ◌^◌, ◌≤◌, max, List, length, subst, arith}
use Rattle.std.specs.Prelude.{Result, Ok, Err}
use Rattle.draft_bitmaps.specs.state_model.declared.stream.Extents.{Extents}
use Rattle.draft_bitmaps.specs.state_model.declared.stream.Stream.{Stream}
use Rattle.draft_bitmaps.specs.state_model.declared.stream.Stream.TheVariants.{Held, Placed}
use Rattle.draft_bitmaps.specs.resized_streams.Resizing.{unplaced}
use Rattle.draft_numbers.specs.draft_records.Records.{fits_room}
use Rattle.draft_bitmaps.specs.declared.bitmap.Bitmap.{Bitmap}
use Rattle.draft_bitmaps.specs.Bitmaps.{with_value}
use Rattle.draft_growth.specs.Growing.{filled_up, size_in, standing, standing_in, stays_or_leaves, MayGrow, MayGrowIn}

unplaced_grows : (clusters size : ℕ) → size ≤ 2 ^ 16 → MayGrow clusters (unplaced size)
unplaced_grows clusters size few = record { spelled = tt; few = omega arith; total = omega arith; last = tt; real = omega (arith, few); initialised = omega (arith, few) }

grows_by : (clusters size : ℕ) (m : Result (Unit {0}) ℕ) (value : List ℕ) (e : Extents) → size ≤ 2 ^ 16 → stays_or_leaves m value size ≡ Placed e → MayGrow clusters e
grows_by clusters size (Ok done) value e few is = absurd cc
grows_by clusters size (Err used) value e few is = (let same : unplaced size ≡ e = cc in subst (MayGrow clusters) same (unplaced_grows clusters size few))

grows_in_stream : (clusters size : ℕ) (s : Stream) (b : Bitmap) (e : Extents) → MayGrowIn clusters size s → standing_in s (size_in s size) b ≡ Placed e → MayGrow clusters e
grows_in_stream clusters size (Held value) b e may is =
    let short = may.0 in
    let few = may.1 in
    let most : max (length value) size ≤ 2 ^ 16 = omega (arith, short, few) in
    grows_by clusters (max (length value) size) (fits_room (with_value (filled_up (max (length value) size) value) b).file) value e most is
grows_in_stream clusters size (Placed f) b e may is = (let same : f ≡ e = cc in subst (MayGrow clusters) same may)

pub standing_grows : (clusters size : ℕ) (b : Bitmap) (e : Extents) → MayGrowIn clusters size b.stream → standing (size_in b.stream size) b ≡ Placed e → MayGrow clusters e
standing_grows clusters size b e = grows_in_stream clusters size b.stream b e
