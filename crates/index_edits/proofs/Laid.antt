-- What a growing index puts is the edit by which it has more blocks, below the root from before or another one.
use Rattle.std.proofs.Common.{◌≡◌, ◌⊎◌, ℕ, ◌+◌, ◌-◌, ◌*◌, ◌/◌, ◌%◌, ◌<◌, ◌≤◌, Bool, true, false, List, [], ◌∷◌, Option, Some, None, Ok, refl, sym, ap, subst, ◌∙◌, arith}
use Rattle.std.specs.Prelude.{All}
use Rattle.std.specs.List.{list_all}
use Rattle.std.proofs.lemmas.Bool.{and_parts, and_from}
use Rattle.std.proofs.lemmas.List.Elements.{All-nil, All-cons, All-head, All-tail}
use Rattle.disk_model.specs.declared.block.Block.{Block}
use Rattle.disk_model.specs.declared.block.BlockKind.TheVariants.{Index}
use Rattle.disk_model.specs.Content.{Content}
use Rattle.record_model.specs.declared.attribute.Attr.{Attr}
use Rattle.record_model.specs.declared.runs.Run.{Run}
use Rattle.record_model.specs.Constants.{bitmap_type, index_allocation, names_index}
use Rattle.record_model.specs.Pairs.{cluster_limit, HasSpelling}
use Rattle.record_model.specs.Records.{Record}
use Rattle.index_model.specs.Indexes.{is_index_body}
use Rattle.state_model.specs.declared.geometry.Geometry.{Geometry}
use Rattle.state_model.specs.declared.stream.Extents.{Extents}
use Rattle.state_model.specs.declared.stream.Stream.{Stream}
use Rattle.state_model.specs.declared.stream.Stream.TheVariants.{Held, Placed}
use Rattle.state_model.specs.Loads.{extents_or, total_clusters, has_fitting_pairs, has_all_pairs}
use Rattle.state_model.specs.Streams.{attributes_of, stream_of, block_at}
use Rattle.volume_model.specs.Indexes.{void_block, index_stream}
use Rattle.volume_model.specs.Volumes.{Volume, cluster_bits, file_in}
use Rattle.stream_runs.specs.Runs.{last_cluster}
use Rattle.stream_runs.proofs.Merging.{follow-grown}
use Rattle.plan_bodies.specs.Bodies.{NewBody}
use Rattle.plan_owners.specs.States.{Stands}
use Rattle.plan_draft.specs.declared.touched.Touched.{Touched}
use Rattle.plan_draft.specs.Drafts.{drafted}
use Rattle.plan_blocks.proofs.plan_model.Drafting.{per_is}
use Rattle.plan_blocks.proofs.plan_model.OneRecord.{OwnRecord, own_record}
use Rattle.draft_bits.specs.Effects.{IsKept}
use Rattle.draft_records.specs.Records.{fits_room, written_record}
use Rattle.record_streams.specs.Fitting.{FitsButRoom}
use Rattle.record_streams.specs.Placing.{placed_record}
use Rattle.record_streams.proofs.Kept.{all_with, but_room_fits}
use Rattle.record_values.specs.Values.{valued_attr, valued_first}
use Rattle.resized_streams.specs.declared.resized.Resized.{Resized}
use Rattle.resized_streams.specs.Resizing.{lengthened, with_sizes}
use Rattle.resized_streams.proofs.Chosen.{total_chosen}
use Rattle.plan_blocks.specs.draft_resized.Effects.{PutsWhole}
use Rattle.plan_blocks.proofs.draft_resized.FileEffects.{resized_put}
use Rattle.draft_indexes.specs.declared.blocks.IndexBlocks.{IndexBlocks}
use Rattle.draft_indexes.specs.Growing.{size_with, wanted_clusters, taken_for, blocks_with, bits_with, grown_file, blocks_in}
use Rattle.state_streams.specs.plan_growth.Streams.{MayTake}
use Rattle.state_streams.proofs.plan_growth.Choosing.{may_be_taken}
use Rattle.state_streams.proofs.plan_growth.Growing.{total-grown}
use Rattle.state_streams.proofs.plan_growth.Placed.{some_attributes}
use Rattle.state_streams.specs.Streams.{IsPlacedIn}
use Rattle.state_streams.proofs.Lying.{sizes_are}
use Rattle.plan_blocks.specs.plan_edits.Edits.{IsEdit}
use Rattle.plan_blocks.specs.plan_edits.Moves.{EditsDraft}
use Rattle.plan_blocks.specs.plan_edits.Puts.{PutsBlocks}
use Rattle.plan_blocks.specs.plan_edits.Written.{IsInUse}
use Rattle.plan_blocks.proofs.plan_edits.Bitmap.{state_bitmap}
use Rattle.plan_blocks.proofs.plan_edits.Editing.{edit_is, used_block}
use Rattle.plan_blocks.proofs.plan_edits.Putting.{Goes}
use Rattle.plan_blocks.proofs.plan_edits.Reading.{written_read}
use Rattle.plan_blocks.specs.Blocks.{blocks_before, blocks_behind, IsFreshBlock, SizesRise}
use Rattle.plan_blocks.specs.Drafted.{IsBegunBlock}
use Rattle.plan_blocks.specs.Levels.{is_index_root, PutsRooted}
use Rattle.plan_blocks.specs.Rooted.{MakesRooted}
use Rattle.plan_blocks.specs.Written.{MakesBlocks}
use Rattle.plan_blocks.specs.draft_resized.Resized.{PutsResized}
use Rattle.plan_blocks.specs.plan_model.Attributes.{RewritesValues}
use Rattle.plan_blocks.proofs.Handing.{rooted_edit}
use Rattle.plan_blocks.proofs.Making.{blocks_written}
use Rattle.index_edits.specs.Grown.{HasStreams}
use Rattle.index_edits.specs.Raised.{MayGrowDrafted}
use Rattle.index_edits.proofs.Fresh.{IsBlockFrom, puts_turned}

-- ---- a record in use with another value

abbrev Fits : Attr → Type 0
Fits a = has_fitting_pairs a ≡ true

all_fit : (attrs : List Attr) → list_all has_fitting_pairs attrs ≡ true → All Fits attrs
all_fit [] all = All-nil Fits
all_fit (a ∷ attrs) all = (let parts = and_parts (has_fitting_pairs a) (list_all has_fitting_pairs attrs) all in All-cons Fits a attrs parts.0 (all_fit attrs parts.1))

fit_all : (attrs : List Attr) → All Fits attrs → list_all has_fitting_pairs attrs ≡ true
fit_all [] all = refl
fit_all (a ∷ attrs) all = and_from (has_fitting_pairs a) (list_all has_fitting_pairs attrs) (All-head Fits a attrs all) (fit_all attrs (All-tail Fits a attrs all))

valued_by : (kind : ℕ) (name value : List ℕ) (r : Record) (attributes : List Attr) → IsInUse r → IsInUse (valued_first kind name value r attributes)
unfolding has_all_pairs
valued_by kind name value r [] used = used
valued_by kind name value r (a ∷ others) used = record {
  flag = used.flag;
  pairs = fit_all (valued_first kind name value r (a ∷ others)).attrs (all_with Fits kind name (valued_attr value a) r.attrs refl (all_fit r.attrs used.pairs));
}

-- ---- room for the size

room_by : (per had came size : ℕ) → per ≡ 8 → came ≡ (size + (512 * per - 1)) / (512 * per) - had → size ≤ (had + came) * (512 * per)
room_by per had came size eight = subst (λ (p : ℕ). came ≡ (size + (512 * p - 1)) / (512 * p) - had → size ≤ (had + came) * (512 * p)) (sym eight) (λ is. omega (arith, is))

some_of_stream : (kind : ℕ) (name : List ℕ) (attrs : List Attr) (s : Stream) → stream_of kind name attrs ≡ Some s → (a : Attr) × (others : List Attr) × (attributes_of kind name attrs ≡ a ∷ others)
unfolding stream_of
some_of_stream kind name attrs s is = some_attributes (attributes_of kind name attrs) s is

-- ---- the sizes of the blocks that are there

module _ (d : Content) (g : Geometry) (clusters : ℕ) (v : Volume) (r : Record) (i : IndexBlocks) (state : Stands d g clusters v) (file : file_in v i.number ≡ Some r) (streams : HasStreams r i) where
  placed_in : (x : Extents) → index_stream r ≡ Some (Placed x) → IsPlacedIn v i.number index_allocation names_index x
  unfolding index_stream
  placed_in x is = record { file = r; is_file = file; no_name = (λ same. absurd (omega (arith, same))); stream = is }

  lawful_by : (o : Option Stream) → index_stream r ≡ o → (extents_or o).initialised ≤ (extents_or o).real
  lawful_by None is = omega arith
  lawful_by (Some (Held bytes)) is = omega arith
  lawful_by (Some (Placed x)) is = (sizes_are d g clusters v i.number index_allocation names_index x state (placed_in x is)).initialised

  pub lawful_sizes : i.extents.initialised ≤ i.extents.real
  lawful_sizes = subst (λ (x : Extents). x.initialised ≤ x.real) streams.before (lawful_by (index_stream r) refl)

-- ---- what is put

-- The record that is put is the one with the blocks, but for the root of its index, which may be another one; and the blocks that come to be initialised
-- are put behind it.
pub record IsLaid (c : Content) (v : Volume) (bits : List Bool) (bitmap mirror : Extents) (r : Record) (i : IndexBlocks) (more : ℕ) (old new : List Touched) (z : Resized) : Type 0 where
  pub may : MayGrowDrafted c v bits bitmap mirror r i more old
  pub extents : z.extents ≡ blocks_with v.per (taken_for v.per bits more i.extents) more i.extents
  pub came : z.taken.items ≡ taken_for v.per bits more i.extents
  pub none : z.freed.items ≡ []
  pub fits : FitsButRoom z.file
  pub room : fits_room z.file ≡ Ok tt
  pub mid : List Touched
  pub put : PutsResized c v.per bitmap v.table mirror i.number z old mid
  pub went : IsKept mid → Goes (IsBlockFrom v.per z.extents (blocks_in i.extents.initialised) (blocks_in (size_with more i.extents) - blocks_in i.extents.initialised)) (IsBlockFrom v.per z.extents (blocks_in i.extents.initialised) (blocks_in (size_with more i.extents) - blocks_in i.extents.initialised)) mid new
  pub values : MakesBlocks r (grown_file v.per (taken_for v.per bits more i.extents) more i) (blocks_behind v.per r (taken_for v.per bits more i.extents) (size_with more i.extents) (size_with more i.extents)) → RewritesValues is_index_root (written_record (grown_file v.per (taken_for v.per bits more i.extents) more i)) (written_record z.file)
  pub used : MakesBlocks r (grown_file v.per (taken_for v.per bits more i.extents) more i) (blocks_behind v.per r (taken_for v.per bits more i.extents) (size_with more i.extents) (size_with more i.extents)) → IsInUse (grown_file v.per (taken_for v.per bits more i.extents) more i) → IsInUse z.file

module _ (c : Content) (g : Geometry) (clusters : ℕ) (v : Volume) (bits : List Bool) (bitmap mirror : Extents) (r : Record) (i : IndexBlocks) (more : ℕ) (old new : List Touched) (z : Resized) (eight : g.per_cluster ≡ 8) (state : Stands (drafted old c) g clusters v)
    (k : IsLaid c v bits bitmap mirror r i more old new z) where
  abbrev d : Content
  d = drafted old c

  abbrev n : ℕ
  n = i.number

  abbrev e : Extents
  e = i.extents

  abbrev wanted : ℕ
  wanted = wanted_clusters v.per more e

  abbrev runs : List Run
  runs = taken_for v.per bits more e

  abbrev size : ℕ
  size = size_with more e

  abbrev f : Extents
  f = blocks_with v.per runs more e

  abbrev p : Record
  p = placed_record v.per index_allocation names_index f i.file

  abbrev value : List ℕ
  value = bits_with more e i.bits

  abbrev behind : Extents
  behind = blocks_behind v.per r runs size size

  pub per_8 : v.per ≡ 8
  per_8 = per_is d g clusters v eight state

  pub before : blocks_before r ≡ e
  before = k.may.streams.before

  same_blocks : f ≡ behind
  same_blocks = ap (λ (x : Extents). with_sizes size size (lengthened v.per runs x)) (sym before)

  pub same_extents : z.extents ≡ behind
  same_extents = k.extents ∙ same_blocks

  -- ---- the clusters

  count : total_clusters runs ≡ wanted
  count = total_chosen bits (last_cluster e.runs) wanted k.may.space

  few : total_clusters runs ≤ cluster_limit
  few = let total = k.may.stands.total in let is = count in omega (arith, total, is)

  taken : MayTake v.clusters (cluster_bits d v) runs
  taken = subst (λ (m : ℕ). MayTake m (cluster_bits d v) runs) k.may.count (may_be_taken bits (cluster_bits d v) (last_cluster e.runs) wanted k.may.free k.may.stands.clusters_few few)

  room : total_clusters e.runs + total_clusters runs ≤ cluster_limit
  room = let total = k.may.stands.total in let is = count in omega (arith, total, is)

  follow : HasSpelling 0 f.runs
  follow = follow-grown e.runs runs k.may.stands.spelled taken.spelled room

  -- ---- the file

  its_own : OwnRecord d v n r
  its_own = own_record d g clusters v n r state k.may.file k.may.no_list

  was_used : IsInUse r
  was_used = written_read.used d v.per v.table n r its_own.slot

  now_used : IsInUse i.file
  now_used = record { flag = subst (λ (x : ℕ). x % 2 ≡ 1) (sym k.may.streams.flags) was_used.flag; pairs = k.may.streams.pairs was_used.pairs }

  made_used : IsInUse (grown_file v.per runs more i)
  made_used = valued_by bitmap_type names_index value p (attributes_of bitmap_type names_index p.attrs) (written_read.placed v.per index_allocation names_index f i.file follow now_used)

  -- ---- the record

  own_made : MakesBlocks i.file (grown_file v.per runs more i) f
  unfolding index_stream
  own_made =
      let a = some_of_stream index_allocation names_index i.file.attrs (Placed e) k.may.streams.blocks in
      let b = some_of_stream bitmap_type names_index i.file.attrs (Held i.bits) k.may.streams.used in
      blocks_written.made v.per i.file f value a.0 b.0 a.1 b.1 follow a.2 b.2

  from_own : MakesBlocks r (grown_file v.per runs more i) f
  from_own = record {
    seq = own_made.seq ∙ k.may.streams.seq;
    flags = own_made.flags ∙ k.may.streams.flags;
    base = own_made.base ∙ k.may.streams.base;
    others = own_made.others ∙ k.may.streams.others;
    blocks = own_made.blocks;
    one = own_made.one;
    first = own_made.first;
    placed = own_made.placed;
    bits = own_made.bits;
    one_value = own_made.one_value;
    first_value = own_made.first_value;
    value = own_made.value;
    held = own_made.held;
  }

  pub made : MakesBlocks r (grown_file v.per runs more i) behind
  made = subst (MakesBlocks r (grown_file v.per runs more i)) same_blocks from_own

  in_use : IsInUse z.file
  in_use = k.used made made_used

  abbrev mid : List Touched
  mid = k.mid

  whole : PutsWhole c v.per bitmap v.table mirror n z old mid
  whole = record {
    sized = k.may.sized;
    kept = k.may.kept;
    fits = but_room_fits z.file k.fits;
    room = k.room;
    own = state_bitmap.own d g clusters v bitmap state k.may.marks.stream;
    put = k.put;
  }

  edit : IsEdit c v n z old mid
  edit = edit_is c v bitmap mirror n z old mid (record { bits = k.may.marks; mirror_is = k.may.mirror_is; put = whole }) in_use (used_block d v.per v.table n r its_own.slot)

  -- ---- the blocks

  abbrev first : ℕ
  first = blocks_in e.initialised

  abbrev many : ℕ
  many = blocks_in size - first

  went : Goes (IsBlockFrom v.per z.extents first many) (IsBlockFrom v.per z.extents first many) mid new
  went = k.went (resized_put.whole c v.per bitmap v.table mirror n z old mid whole)

  pub new_kept : IsKept new
  new_kept = went.kept

  as_fresh : (b : Block) → IsBlockFrom v.per z.extents first many b → IsFreshBlock v r behind b
  as_fresh b is =
      let low = is.1.0 in
      let past : e.initialised ≤ 4096 * is.0 = omega (arith, low) in
      record {
        number = is.0;
        lies = sym (ap (λ (x : Extents). block_at v.per x.runs Index is.0) same_extents) ∙ is.1.1.1;
        past = subst (λ (x : Extents). x.initialised ≤ 4096 * is.0) (sym before) past;
      }

  as_begun : (b : Block) → IsBegunBlock v r behind b → IsBlockFrom v.per z.extents first many b
  as_begun b is =
      let past : e.initialised ≤ 4096 * is.0 = subst (λ (x : Extents). x.initialised ≤ 4096 * is.0) before is.1.1 in
      let low : 4096 * is.0 < size = is.1.2 in
      (is.0, (omega (arith, past), (omega (arith, past, low), ap (λ (x : Extents). block_at v.per x.runs Index is.0) same_extents ∙ is.1.0)))

  blocks : PutsBlocks (IsFreshBlock v r behind) (IsBegunBlock v r behind) mid new
  blocks = puts_turned (IsBlockFrom v.per z.extents first many) (IsFreshBlock v r behind) (IsBlockFrom v.per z.extents first many) (IsBegunBlock v r behind) mid new as_fresh as_begun went.blocks

  -- ---- the index

  pub lawful : e.initialised ≤ e.real
  lawful = lawful_sizes d g clusters v r i state k.may.file k.may.streams

  sizes : SizesRise (blocks_before r) behind
  sizes =
      let sum = total-grown e.runs runs in
      let up = lawful in
      let high : size ≤ (total_clusters e.runs + total_clusters runs) * (512 * v.per) = room_by v.per (total_clusters e.runs) (total_clusters runs) size per_8 count in
      let own : SizesRise e f = record {
        real = omega arith;
        initialised = omega (arith, up);
        lawful = omega arith;
        room = subst (λ (t : ℕ). size ≤ t * (512 * v.per)) (sym sum) high;
      } in
      subst (λ (x : Extents). SizesRise x (with_sizes size size (lengthened v.per runs x))) (sym before) own

  makes : MakesRooted d v n r runs size size (grown_file v.per runs more i) z
  makes = record {
    file = k.may.file;
    apart = k.may.apart;
    no_list = k.may.no_list;
    directory = k.may.directory;
    spelled = subst (λ (x : Extents). HasSpelling 0 x.runs) (sym before) k.may.stands.spelled;
    taken = taken;
    room = subst (λ (x : Extents). total_clusters x.runs + total_clusters runs ≤ cluster_limit) (sym before) room;
    sizes = sizes;
    begun = subst (λ (x : Extents). (x.real ≤ x.initialised) ⊎ (is_index_body (d void_block) ≡ false)) (sym before) k.may.begun;
    no_place = k.may.streams.no_place;
    made = made;
    in_use = made_used;
    values = k.values made;
    came = k.came;
    none = k.none;
    ends = (let same = k.may.count in let low = k.may.stands.clusters_few in omega (arith, same, low));
  }

  pub laid_edit : (bodies : List NewBody) × (EditsDraft c old new bodies × PutsRooted d v n r runs size size (written_record (grown_file v.per runs more i)) (written_record z.file) bodies)
  laid_edit = rooted_edit c g clusters v n r runs size size (grown_file v.per runs more i) z old mid new k.may.sized eight k.may.kept new_kept state makes edit blocks
