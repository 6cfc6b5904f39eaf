-- A value that left its record, put into a draft, is an edit of a plan.
use Rattle.std.proofs.Common.{◌≡◌, ◌≢◌, ◌⊎◌, ℕ, ◌+◌, ◌-◌, ◌*◌, ◌/◌, ◌<◌, ◌≤◌, Bool, true, false, ◌&&◌, ◌||◌, eqb, leb, List, [], ◌∷◌, length, get_or, cond, Option, Some, None, refl, sym, ap, ap₂, subst, ◌∙◌, inl, inr, arith}
use Rattle.std.specs.Prelude.{All}
use Rattle.std.specs.List.{AllByRecursion, list_all}
use Rattle.std.specs.Option.{option_or}
use Rattle.std.proofs.lemmas.Bool.{cases_lt, both_ways, eqb-true, false_from_ne_true}
use Rattle.host_base.specs.declared.file_ref.FileRef.{FileRef}
use Rattle.disk_model.specs.declared.block.Block.{Block}
use Rattle.disk_model.specs.declared.block.BlockKind.{BlockKind}
use Rattle.disk_model.specs.declared.block.BlockKind.TheVariants.{Plain, FileRec}
use Rattle.disk_model.specs.Content.{Content}
use Rattle.disk_model.specs.Sectors.{sectors, same_block, overlap}
use Rattle.plan_values.specs.record_model.declared.attribute.Attr.{Attr}
use Rattle.plan_values.specs.record_model.declared.record.RecHead.{RecHead}
use Rattle.plan_values.specs.record_model.declared.runs.Run.{Run}
use Rattle.plan_values.specs.record_model.Constants.{index_allocation}
use Rattle.plan_values.specs.record_model.Pairs.{cluster_limit, HasSpelling}
use Rattle.plan_values.specs.record_model.Records.{Record}
use Rattle.bit_set.specs.Bits.{bit}
use Rattle.plan_values.specs.state_model.declared.geometry.Geometry.{Geometry}
use Rattle.plan_values.specs.state_model.declared.stream.Extents.{Extents}
use Rattle.plan_values.specs.state_model.declared.stream.Stream.{Stream}
use Rattle.plan_values.specs.state_model.declared.stream.Stream.TheVariants.{Held, Placed}
use Rattle.plan_values.specs.state_model.Files.{file_at, is_base_record}
use Rattle.plan_values.specs.state_model.Loads.{total_clusters, has_fitting_pairs, has_all_pairs}
use Rattle.plan_values.specs.state_model.Streams.{attributes_of, stream_of, block_at}
use Rattle.plan_values.specs.volume_model.Volumes.{Volume, file_in, file_stream, cluster_bits}
use Rattle.plan_values.specs.volume_model.Owners.{volume_runs, uses}
use Rattle.plan_values.specs.volume_state.Journals.{limits_name}
use Rattle.plan_values.specs.stream_laws.Leaving.{LiesFree}
use Rattle.plan_values.specs.stream_laws.Owners.{stream_kind, Owns}
use Rattle.plan_values.specs.stream_laws.Replacing.{FileEdit, with_edits}
use Rattle.plan_values.specs.stream_laws.Sharing.{stream_at, runs_in}
use Rattle.plan_values.proofs.stream_laws.Editing.{edited_files}
use Rattle.plan_values.proofs.stream_laws.Leaving.{free_apart, free_in_runs}
use Rattle.plan_values.proofs.stream_laws.Placing.{unused}
use Rattle.plan_values.proofs.stream_laws.Tabling.{inside_list}
use Rattle.plan_values.proofs.stream_runs.Merging.{follow-grown}
use Rattle.plan_values.specs.plan_owners.States.{Stands}
use Rattle.plan_values.proofs.plan_owners.ByKind.{marked_if_used}
use Rattle.plan_values.proofs.plan_owners.Standing.{some_file, as_file}
use Rattle.plan_values.specs.plan_bodies.Bodies.{NewBody, AreBodies, body_in, put_bodies, content_with}
use Rattle.plan_values.proofs.plan_bodies.Putting.{all_in_both, are_bodies as both_are}
use Rattle.draft_resized.specs.plan_draft.declared.touched.Touched.{Touched}
use Rattle.draft_resized.specs.plan_draft.Touching.{bodies_of}
use Rattle.draft_resized.specs.plan_draft.Drafts.{drafted}
use Rattle.draft_resized.specs.plan_draft.Same.{PutSame}
use Rattle.plan_values.specs.plan_model.Drafts.{IsPut}
use Rattle.plan_values.specs.plan_model.Edits.{IsOwnedIn}
use Rattle.plan_values.specs.plan_model.Informed.{with_record}
use Rattle.plan_values.specs.plan_model.Made.{ReadsAs}
use Rattle.plan_values.proofs.plan_model.OneRecord.{OwnRecord, own_record}
use Rattle.plan_values.proofs.plan_model.Quiet.{record_owned}
use Rattle.draft_resized.specs.draft_streams.Parts.{first_sector}
use Rattle.draft_resized.specs.draft_bits.Effects.{stream_bit, IsKept, IsNoSector}
use Rattle.draft_resized.proofs.draft_bits.BitEffects.{same_bit}
use Rattle.draft_resized.specs.draft_records.Records.{written_record}
use Rattle.plan_values.specs.record_streams.Placing.{placed_record}
use Rattle.plan_values.specs.resized_streams.declared.resized.Resized.{Resized}
use Rattle.plan_values.specs.resized_streams.Resizing.{lengthened, unplaced, clusters_for, IsGrown}
use Rattle.draft_resized.proofs.FileEffects.{resized_put}
use Rattle.draft_resized.proofs.MovedEffects.{moved_put}
use Rattle.plan_values.specs.plan_growth.Streams.{IsOwnStream, IsWritten, MayTake, key_of, marks_streams, IsFreshIn}
use Rattle.plan_values.specs.plan_growth.Leaving.{MovesValue}
use Rattle.plan_values.proofs.plan_growth.Growing.{uses-grown}
use Rattle.plan_values.proofs.plan_growth.Placed.{some_attributes, placed_head, placed_all, placed_is_there}
use Rattle.plan_values.proofs.plan_growth.Written.{Reads, all_read, placed_reads, written_stream}
use Rattle.plan_edits.specs.Written.{IsInUse}
use Rattle.plan_edits.specs.Puts.{PutsBlocks, IsSectorOf, IsSectorWith}
use Rattle.plan_edits.specs.Edits.{PutsOfVolume, IsEdit}
use Rattle.plan_edits.specs.Moves.{MovesOfVolume, EditsDraft, MovedIsEdit}
use Rattle.plan_edits.proofs.Reading.{written_read}
use Rattle.plan_edits.proofs.Putting.{each_turned, found_in, joined_same, bytes_go, content_goes}
use Rattle.plan_edits.proofs.Editing.{bit_is, edit_is, in_bitmap, used_block, only_came}
use Rattle.plan_edits.proofs.Bitmap.{shares_itself}

uses-none : (x : ℕ) → uses [] x ≡ 0
unfolding uses
uses-none x = refl

-- a sector that begins below so many bytes is among those of the bytes
in_count : (m size : ℕ) (t : Bool) → eqb size 0 ≡ t → 512 * (1 * m) < size → m < first_sector 0 + cond t 0 ((0 + size + 511) / 512 - 0 / 512)
in_count m size true none low = (let empty : size ≡ 0 = eqb-true size 0 none in absurd (omega (arith, low, empty)))
in_count m size false some low = omega (arith, low)

pub none_in : (per : ℕ) (runs : List Run) (bodies : List NewBody) (b : Block) → AllByRecursion (λ p. IsSectorOf per runs p.block) bodies → IsNoSector per runs b → body_in bodies b ≡ None
none_in per runs [] b each apart = refl
none_in per runs (w ∷ bodies) b each apart = ap (λ (t : Bool). cond t (Some w.bytes) (body_in bodies b)) (apart each.0.0 w.block each.0.1) ∙ none_in per runs bodies b each.1 apart

module _ (c : Content) (g : Geometry) (clusters : ℕ) (v : Volume) (bitmap mirror : Extents) (n kind : ℕ) (name was value : List ℕ) (r : Record) (more : List Run) (z : Resized) (old new : List Touched) (state : Stands (drafted old c) g clusters v)
    (own : IsOwnStream v n kind name r (Held was)) (plain : stream_kind (key_of n kind name) ≡ Plain) (grown : IsGrown v.per kind name (unplaced (length value)) r more z) (taken : MayTake v.clusters (cluster_bits (drafted old c) v) more) (room : total_clusters more ≤ cluster_limit)
    (is : MovesOfVolume c v bitmap mirror n z value old new) where
  abbrev d : Content
  d = drafted old c

  abbrev mid : List Touched
  mid = is.put.mid

  abbrev s : Record
  s = written_record z.file

  abbrev f : Extents
  f = lengthened v.per more (unplaced (length value))

  abbrev p : Record
  p = placed_record v.per kind name f r

  -- ---- the file

  follow : HasSpelling 0 f.runs
  follow = follow-grown [] more tt taken.spelled (omega (arith, room))

  its_own : OwnRecord d v n r
  its_own = own_record d g clusters v n r state own.file own.no_list

  in_use : IsInUse r
  in_use = written_read.used d v.per v.table n r its_own.slot

  of_file : PutsOfVolume c v bitmap mirror n z old mid
  of_file = record { bits = is.bits; mirror_is = is.mirror_is; put = is.put.file }

  edit : IsEdit c v n z old mid
  edit = edit_is c v bitmap mirror n z old mid of_file (subst IsInUse (sym grown.file) (written_read.placed v.per kind name f r follow in_use)) (used_block d v.per v.table n r its_own.slot)

  mid_kept : IsKept mid
  mid_kept = resized_put.whole c v.per bitmap v.table mirror n z old mid is.put.file

  new_kept : IsKept new
  new_kept = moved_put.whole c v.per bitmap v.table mirror n z value old new is.put

  bytes : PutsBlocks (IsSectorOf v.per z.extents.runs) (IsSectorWith v.per z.extents.runs 0 (length value)) mid new
  bytes = subst (PutsBlocks (IsSectorOf v.per z.extents.runs) (IsSectorWith v.per z.extents.runs 0 (length value)) mid) (sym is.put.put) (bytes_go c v.per z.extents.runs 0 0 value mid is.put.file.sized mid_kept).blocks

  abbrev bodies : List NewBody
  bodies = put_bodies bytes.bodies edit.bodies

  whole : AreBodies bodies
  whole = both_are edit.bodies bytes.bodies edit.puts.whole bytes.whole

  same : PutSame (bodies_of new) (put_bodies bodies (bodies_of old))
  same = joined_same edit.bodies bytes.bodies old mid new edit.puts.whole bytes.whole edit.same bytes.same

  content : content_with d bodies ≡ drafted new c
  content = content_goes c bodies old new is.put.file.sized is.put.file.kept new_kept whole same

  -- ---- its clusters were free

  used_by : (x : ℕ) → uses z.extents.runs x ≡ uses more x
  used_by x = ap (λ (e : Extents). uses e.runs x) grown.extents ∙ uses-grown [] more x ∙ ap (λ (k : ℕ). k + uses more x) (uses-none x) ∙ omega arith

  was_free : (x : ℕ) → 1 ≤ uses z.extents.runs x → uses (volume_runs v.files) x ≡ 0
  was_free x some =
      let now = used_by x in
      elim (cases_lt x v.clusters) [
        | inr past ↦ (let none = unused v.clusters x more taken.inside past in absurd (omega (arith, some, now, none)))
        | inl low ↦ elim (cases_lt 0 (uses (volume_runs v.files) x)) [
          | inl owned ↦ absurd (both_ways (bit (cluster_bits d v) x) (taken.clear x (omega (arith, some, now))) (marked_if_used d g clusters v x state low owned))
          | inr none ↦ omega (arith, none)
        ]
      ]

  lies_free : (t : ℕ) (a : Block) → block_at v.per z.extents.runs Plain t ≡ Some a → LiesFree v a
  lies_free t a there = free_in_runs v z.extents.runs Plain t a state.some was_free there

  apart : (b : Block) → Owns v b → IsNoSector v.per z.extents.runs b
  apart b owned = λ t a there. false_from_ne_true (same_block b a) (λ one. both_ways (overlap b a) (free_apart v owned.stream (stream_kind owned.stream) owned.number b a state.some (lies_free t a there) owned.lies) (shares_itself b a one))

  -- ---- the stream

  some : (a : Attr) × (others : List Attr) × (attributes_of kind name r.attrs ≡ a ∷ others)
  unfolding stream_of
  some = some_attributes (attributes_of kind name r.attrs) (Held was) own.stream

  written : IsWritten p s
  written = subst (λ (x : Record). IsWritten x s) grown.file (written_read.written z.file)

  fit : list_all has_fitting_pairs r.attrs ≡ true
  unfolding has_all_pairs
  fit = in_use.pairs

  reads : All Reads p.attrs
  reads = placed_all v.per kind name f r some.0 some.1 some.2 follow Reads (placed_reads v.per f some.0 follow) (all_read r.attrs fit)

  base : is_base_record s ≡ true
  base =
      ap (λ (x : FileRef). eqb x.number 0 && eqb x.seq 0) written.base
      ∙ ap (λ (h : RecHead). eqb h.base.number 0 && eqb h.base.seq 0) (placed_head v.per kind name f r some.0 some.1 some.2 follow)
      ∙ its_own.base

  abbrev edits : List FileEdit
  edits = record { number = n; file = Some s } ∷ []

  at_n : file_in (with_record v n s) n ≡ Some s
  unfolding file_at
  at_n = as_file (get_or (with_edits edits v.files) n None) s (edited_files v.files edits (inside_list v.files n r (some_file v n r own.file), tt, tt)).0 base

  stream_now : stream_at (with_record v n s) (key_of n kind name) ≡ Some (Placed z.extents)
  stream_now =
      ap (file_stream kind name) at_n
      ∙ written_stream p s written reads kind name
      ∙ placed_is_there v.per kind name f r some.0 some.1 some.2 follow
      ∙ ap (λ (e : Extents). Some (Placed e)) (sym grown.extents)

  fresh : (b : Block) → IsSectorOf v.per z.extents.runs b → IsFreshIn v (with_record v n s) (key_of n kind name) b
  fresh b lies = record {
    number = lies.0;
    lies = ap₂ (λ (o : Option Stream) (k : BlockKind). block_at v.per (runs_in o) k lies.0) stream_now plain ∙ lies.1;
    free = lies_free lies.0 b lies.1;
  }

  -- ---- what is put

  abbrev goes_to : Block → Type 0
  goes_to b = IsOwnedIn marks_streams v b ⊎ (block_at v.per v.table.runs FileRec n ≡ Some b) ⊎ (IsFreshIn v (with_record v n s) (key_of n kind name) b × (index_allocation ≢ kind))

  as_before : (b : Block) → IsOwnedIn marks_streams v b ⊎ (block_at v.per v.table.runs FileRec n ≡ Some b) → goes_to b
  as_before b (inl owned) = inl owned
  as_before b (inr its) = inr (inl its)

  each : index_allocation ≢ kind → AllByRecursion (λ q. goes_to q.block) bodies
  each no_index =
      all_in_both (λ q. goes_to q.block) edit.bodies bytes.bodies
      (each_turned (λ b. IsOwnedIn marks_streams v b ⊎ (block_at v.per v.table.runs FileRec n ≡ Some b)) goes_to edit.bodies as_before edit.puts.each)
      (each_turned (IsSectorOf v.per z.extents.runs) goes_to bytes.bodies (λ b lies. inr (inr (fresh b lies, no_index))) bytes.each)

  anew : ReadsAs v bodies n s
  anew =
      let file = edit.puts.anew in
      record {
        block = file.block;
        place = file.place;
        bytes = file.bytes;
        put =
            found_in edit.bodies bytes.bodies file.block bytes.whole
            ∙ ap (λ (o : Option (List ℕ)). option_or o (body_in edit.bodies file.block)) (none_in v.per z.extents.runs bytes.bodies file.block bytes.each (apart file.block (record_owned d g clusters v n file.block state file.place)))
            ∙ file.put;
        reads = file.reads;
      }

  covers : (m : ℕ) (b : Block) → block_at v.per z.extents.runs (stream_kind (key_of n kind name)) m ≡ Some b → 512 * (sectors (stream_kind (key_of n kind name)) * m) < length value → IsPut bodies b
  covers m b lies begins =
      let there : block_at v.per z.extents.runs Plain m ≡ Some b = ap (λ (k : BlockKind). block_at v.per z.extents.runs k m) (sym plain) ∙ lies in
      let low : 512 * (1 * m) < length value = subst (λ (k : BlockKind). 512 * (sectors k * m) < length value) plain begins in
      put_there b (bytes.put b (m, (omega arith, in_count m (length value) (eqb (length value) 0) refl low, there)))
    where
      put_there : (b : Block) → IsPut bytes.bodies b → IsPut bodies b
      put_there b put = (put.0, found_in edit.bodies bytes.bodies b bytes.whole ∙ ap (λ (o : Option (List ℕ)). option_or o (body_in edit.bodies b)) put.1)

  -- ---- the bits

  owns_sector : (b : Block) → IsSectorOf v.per bitmap.runs b → Owns v b
  owns_sector b lies = (let there = in_bitmap c v bitmap mirror n z old mid of_file b lies in record { stream = there.stream; number = there.number; lies = there.lies })

  bit_stays : (x : ℕ) → x < v.clusters → stream_bit (drafted new c) v.per bitmap x ≡ stream_bit (drafted mid c) v.per bitmap x
  bit_stays x low =
      let below = is.bits.below in
      same_bit c v.per bitmap x mid new is.put.file.sized mid_kept new_kept (omega (arith, below, low)) (λ b lies. moved_put.rest c v.per bitmap v.table mirror n z value old new b is.put (apart b (owns_sector b (x / 8 / 512, lies))))

  marked : (x : ℕ) → x < v.clusters → bit (cluster_bits (content_with d bodies) v) x ≡ (leb 1 (uses more x) || bit (cluster_bits d v) x)
  marked x low =
      ap (λ (y : Content). bit (cluster_bits y v) x) content
      ∙ bit_is (drafted new c) v bitmap x is.bits low
      ∙ bit_stays x low
      ∙ sym (bit_is (drafted mid c) v bitmap x is.bits low)
      ∙ sym (ap (λ (y : Content). bit (cluster_bits y v) x) edit.content)
      ∙ edit.marked x low
      ∙ only_came z more x (bit (cluster_bits d v) x) grown.taken grown.freed

  moved_is : index_allocation ≢ kind → limits_name ≢ name → clusters_for v.per (length value) ≤ total_clusters more → (all : List NewBody) × (EditsDraft c old new all × MovesValue d v n kind name value r more z s all)
  moved_is no_index no_limits enough = (
    bodies,
    (
      record { same = same; content = content },
      record {
        was = was;
        own = own;
        no_index = no_index;
        no_limits = no_limits;
        grown = grown;
        taken = taken;
        enough = enough;
        room = room;
        written = written_read.written z.file;
        puts = record { whole = whole; anew = anew; each = each no_index };
        covers = covers;
        marked = marked;
      },
    ),
  )

pub moved_edit : MovedIsEdit
moved_edit c g clusters v bitmap mirror n kind name was value r more z old new state own no_index no_limits plain grown taken enough room is = moved_is c g clusters v bitmap mirror n kind name was value r more z old new state own plain grown taken room is no_index no_limits enough
