-- What is put of the blocks, over a content that may be known.
use Rattle.std.proofs.Common.{◌≡◌, ℕ, ◌*◌, ◌/◌, ◌<◌, ◌≤◌, Bool, true, false, not, List, Option, Some, None, Result, Ok, Err, refl, count_by, length, leb, subst}
use Rattle.std.specs.Prelude.{IfSome}
use Rattle.std.proofs.lemmas.Bool.{leb-true}
use Rattle.disk_model.specs.Content.{Content}
use Rattle.record_model.specs.Records.{Record}
use Rattle.host_base.specs.Answers.{needs}
use Rattle.plan_draft.specs.declared.touched.Touched.{Touched}
use Rattle.draft_growth.specs.Growing.{space_for}
use Rattle.draft_indexes.specs.declared.blocks.IndexBlocks.{IndexBlocks}
use Rattle.draft_indexes.specs.Growing.{wanted_clusters, taken_for, grown_file, MayGrowBlocks, GrowsBlocks}
use Rattle.record_streams.specs.Fitting.{FitsButRoom}
use Rattle.draft_records.specs.Records.{fits_room, written_record}
use Rattle.resized_streams.specs.declared.resized.Resized.{Resized}
use Rattle.file_puts.specs.declared.streams.VolumeStreams.{VolumeStreams}
use Rattle.index_edits.specs.Grown.{HasStreams}
use Rattle.index_grows.specs.Counted.{file_with_streams, CountsOf}
use Rattle.index_grows.specs.Growing.{GrowsInto, GrowsCounted}

has_space : (b : Bool) (room : ℕ) → needs b room ≡ Ok tt → b ≡ true
has_space true room is = refl
has_space false room is = absurd cc

space_is : (wanted : ℕ) (bits : List Bool) → space_for wanted bits ≡ Ok tt → wanted ≤ count_by not bits
space_is wanted bits is = leb-true wanted (count_by not bits) (has_space (leb wanted (count_by not bits)) (count_by not bits) is)

pub put_into : (o : Option Content) (per : ℕ) (bits : List Bool) (s : VolumeStreams) (index : IndexBlocks) (more : ℕ) (old new : List Touched) (z : Resized) (q : Record) → per ≡ 8 → space_for (wanted_clusters per more index.extents) bits ≡ Ok tt
    → fits_room (grown_file per (taken_for per bits more index.extents) more index) ≡ Ok tt → q ≡ written_record z.file → FitsButRoom q → IfSome o (λ c. GrowsBlocks c per bits s.bitmap s.table s.mirror index more old new z) → IfSome o (λ c. GrowsInto c bits s index more old new q)
put_into None per bits s index more old new z q eight space room is fits put = tt
put_into (Some c) per bits s index more old new z q eight space room is fits put = record {
  z = z;
  grows = subst (λ (p : ℕ). GrowsBlocks c p bits s.bitmap s.table s.mirror index more old new z) eight put;
  space = space_is (wanted_clusters 8 more index.extents) bits (subst (λ (p : ℕ). space_for (wanted_clusters p more index.extents) bits ≡ Ok tt) eight space);
  room = subst (λ (p : ℕ). fits_room (grown_file p (taken_for p bits more index.extents) more index) ≡ Ok tt) eight room;
  is = is;
  fits = fits;
}

pub put_counted : (o : Option Content) (bits : List Bool) (s : VolumeStreams) (n : ℕ) (r : Record) (root more : ℕ) (old new : List Touched) (q : Record) (index : IndexBlocks) → index.number ≡ n → HasStreams r index → index.file ≡ file_with_streams r → index.extents.real ≡ 4096 * (index.extents.real / 4096)
    → 0 < wanted_clusters 8 more index.extents → MayGrowBlocks 8 (length bits) more index → CountsOf bits r root more → IfSome o (λ c. GrowsInto c bits s index more old new q) → IfSome o (λ c. GrowsCounted c bits s n r root more old new q)
put_counted None bits s n r root more old new q index number streams file whole some stands counts put = tt
put_counted (Some c) bits s n r root more old new q index number streams file whole some stands counts put = record { index = index; number = number; streams = streams; file = file; whole = whole; some = some; stands = stands; into = put; counts = counts }
