-- A table that grows, and the room that it gets.
use Rattle.std.proofs.Common.{◌≡◌, ℕ, ◌-◌, ◌≤◌, Bool, List, [], ◌∷◌, length, Option, Some, None, refl, sym, subst, ◌∙◌, arith, length-append}
use Rattle.std.specs.Prelude.{All}
use Rattle.std.proofs.lemmas.List.{length-replicate}
use Rattle.std.proofs.lemmas.List.Elements.{All-nil}
use Rattle.disk_model.specs.Bytes.{zeros}
use Rattle.record_model.specs.declared.runs.Run.{Run}
use Rattle.draft_bitmaps.specs.state_model.declared.stream.Stream.{Stream}
use Rattle.draft_bitmaps.specs.state_model.declared.stream.Stream.TheVariants.{Held, Placed}
use Rattle.draft_bitmaps.specs.space_model.Choosing.{with_clusters, with_runs}
use Rattle.draft_bitmaps.proofs.space_model.Searching.{length-with_run}
use Rattle.draft_bitmaps.specs.declared.bitmap.Bitmap.{Bitmap}
use Rattle.draft_bitmaps.specs.Bitmaps.{bit_count}
use Rattle.draft_growth.specs.Clusters.{IsInside}
use Rattle.draft_growth.specs.declared.longer.Longer.{Longer}
use Rattle.draft_growth.specs.Growing.{bytes_for, more_for, size_in, standing, with_room, MayGrowIn, IsLonger}
use Rattle.draft_growth.proofs.Chosen.{chosen_inside}

zeros_long : (n : ℕ) → length (zeros n) ≡ n
unfolding zeros
zeros_long n = length-replicate n 0

-- the bitmap has a bit for each number
pub room_for : (per size count : ℕ) (more : List Run) (s : Stream) (b : Bitmap) → bytes_for count ≤ size → count ≤ bit_count (with_room per size more s b).stream
room_for per size count more (Held value) b is = omega (arith, is, length-append value (zeros (size - length value)), zeros_long (size - length value))
room_for per size count more (Placed e) b is = omega (arith, is)

pub more_inside : (limit per size : ℕ) (bits : List Bool) (s : Stream) → length bits ≤ limit → All (IsInside limit) (more_for per size bits s)
more_inside limit per size bits (Held value) few = All-nil (IsInside limit)
more_inside limit per size bits (Placed e) few = chosen_inside limit bits _ _ few

length-clusters : (o : Option ℕ) (len : ℕ) (bits : List Bool) → length (with_clusters o len bits) ≡ length bits
length-clusters None len bits = refl
length-clusters (Some first) len bits = length-with_run first len bits

pub length-with_runs : (runs : List Run) (bits : List Bool) → length (with_runs runs bits) ≡ length bits
unfolding with_runs
length-with_runs [] bits = refl
length-with_runs (r ∷ runs) bits = length-with_runs runs (with_clusters r.lcn r.len bits) ∙ length-clusters r.lcn r.len bits

-- the bounds on a bitmap are those of the bits behind the runs that were taken, and of its stream wherever the bitmap is named
pub grows_in : (m n size : ℕ) (s t : Stream) → m ≡ n → s ≡ t → MayGrowIn n size t → MayGrowIn m size s
grows_in m n size s t is same grows = subst (λ (k : ℕ). MayGrowIn k size s) (sym is) (subst (λ (x : Stream). MayGrowIn n size x) (sym same) grows)

pub has_room : (per size count : ℕ) (bits : List Bool) (b : Bitmap) (l : Longer) → bytes_for count ≤ size → IsLonger per size bits b l → count ≤ bit_count l.bitmap.stream
has_room per size count bits b l is longer = subst (λ (x : Bitmap). count ≤ bit_count x.stream) (sym longer.bitmap) (room_for per size count (more_for per size bits (standing size b)) (standing size b) b is)

-- a size that a bitmap has to have room for is at least this one
pub at_least : (size : ℕ) (s : Stream) → size ≤ size_in s size
at_least size (Held value) = omega arith
at_least size (Placed e) = omega arith

pub taken_inside : (limit : ℕ) (runs more : List Run) → runs ≡ more → All (IsInside limit) more → All (IsInside limit) runs
taken_inside limit runs more is inside = subst (λ (r : List Run). All (IsInside limit) r) (sym is) inside
