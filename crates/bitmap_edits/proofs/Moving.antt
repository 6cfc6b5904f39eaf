-- A value that leaves its record for clusters, put into a draft with their bits, wherever these stand.
use Rattle.std.proofs.Common.{◌≡◌, ◌≢◌, ◌⊎◌, ℕ, ◌+◌, ◌-◌, ◌*◌, ◌/◌, ◌<◌, ◌≤◌, Bool, true, false, cond, eqb, leb, List, [], length, Option, Some, refl, sym, ap, ap₂, subst, ◌∙◌, inl, inr, arith}
use Rattle.std.specs.List.{list_all, AllByRecursion}
use Rattle.std.proofs.lemmas.Bool.{both_ways}
use Rattle.disk_model.specs.declared.block.Block.{Block}
use Rattle.disk_model.specs.declared.block.BlockKind.{BlockKind}
use Rattle.disk_model.specs.Content.{Content, HasSizes}
use Rattle.record_model.specs.declared.runs.Run.{Run}
use Rattle.record_model.specs.Constants.{data_type}
use Rattle.record_model.specs.Pairs.{HasSpelling}
use Rattle.record_model.specs.Records.{Record, record_spelling}
use Rattle.bit_set.specs.Bits.{bit}
use Rattle.state_model.specs.declared.geometry.Geometry.{Geometry}
use Rattle.state_model.specs.declared.stream.Extents.{Extents}
use Rattle.state_model.specs.declared.stream.Stream.{Stream}
use Rattle.state_model.specs.declared.stream.Stream.TheVariants.{Held, Placed}
use Rattle.state_model.specs.Loads.{extents_or, total_clusters}
use Rattle.state_model.specs.Streams.{block_at}
use Rattle.volume_model.specs.Volumes.{Volume, bytes_or, cluster_bits, file_in, file_stream, mirror_file}
use Rattle.volume_model.specs.Owners.{uses, volume_runs}
use Rattle.volume_model.specs.Sizes.{lies_inside}
use Rattle.stream_laws.specs.Owners.{IsLive, Owns, stream_kind}
use Rattle.stream_laws.specs.Places.{AreOnce}
use Rattle.stream_laws.specs.Sharing.{runs_in, stream_at, StreamKey}
use Rattle.stream_runs.proofs.Merging.{follow-grown}
use Rattle.tree_laws.proofs.Ascending.{all_by}
use Rattle.resized_streams.specs.declared.resized.Resized.{Resized}
use Rattle.resized_streams.specs.Resizing.{clusters_for, IsGrown, lengthened}
use Rattle.plan_owners.specs.States.{Stands}
use Rattle.plan_owners.specs.Kinds.{OwnsAs}
use Rattle.plan_bodies.specs.Bodies.{content_with, NewBody, put_bodies}
use Rattle.plan_bodies.proofs.Putting.{all_in_both, are_bodies as both_are, sized_with}
use Rattle.plan_draft.specs.declared.touched.Touched.{Touched}
use Rattle.plan_draft.specs.Touching.{bodies_of}
use Rattle.plan_draft.specs.Drafts.{drafted}
use Rattle.table_edits.specs.plan_model.Drafts.{FollowsOwners, GoesOn, gives_runs, IsPut}
use Rattle.table_edits.specs.plan_model.Informed.{with_record}
use Rattle.table_edits.proofs.plan_model.OneRecord.{own_record}
use Rattle.table_edits.proofs.plan_model.Quiet.{record_owned, given_before, given_clear, given_here}
use Rattle.draft_bits.specs.Effects.{IsKept}
use Rattle.draft_records.specs.Records.{touch_record, written_record}
use Rattle.table_edits.specs.draft_bitmaps.declared.bitmap.Bitmap.{Bitmap}
use Rattle.table_edits.specs.plan_growth.Growing.{MayGive}
use Rattle.table_edits.specs.plan_growth.Streams.{IsOwnStream, key_of}
use Rattle.table_edits.specs.plan_growth.Trees.{TreeFollows}
use Rattle.table_edits.proofs.plan_growth.Growing.{uses-grown}
use Rattle.table_edits.proofs.plan_growth.Resizing.{clusters_are}
use Rattle.table_edits.specs.plan_edits.Edits.{bitmap_key}
use Rattle.table_edits.specs.plan_edits.Moves.{EditsDraft}
use Rattle.table_edits.specs.plan_edits.Records.{IsRecordEdit, PutsRecordOf}
use Rattle.table_edits.specs.plan_edits.Written.{IsInUse}
use Rattle.table_edits.proofs.plan_edits.Reading.{written_read}
use Rattle.table_edits.proofs.plan_edits.Recording.{record_edit}
use Rattle.bitmap_edits.specs.Bitmaps.{PutsFreeRuns, PutsOwnersKept}
use Rattle.bitmap_edits.proofs.FreeRuns.{both_edit, owns_back, put_first, put_second, runs_put}
use Rattle.bitmap_edits.proofs.OwnRuns.{bits_stay, file_now, files_stay, leads, live_before, MovesRuns, owned_or_new, owners, stream_now, tree}
use Rattle.bitmap_edits.proofs.Between.{bitmap_beside, clear_free, mirror_between, out_of, own_between, owned_as_before, set_in}
use Rattle.std.specs.Option.{option_or}
use Rattle.std.proofs.lemmas.Bool.{eqb-true, false_from_ne_true}
use Rattle.disk_model.specs.declared.block.BlockKind.TheVariants.{Plain}
use Rattle.disk_model.specs.Sectors.{overlap, same_block}
use Rattle.stream_laws.specs.Leaving.{LiesFree}
use Rattle.stream_laws.proofs.Leaving.{free_apart, free_in_runs}
use Rattle.draft_streams.specs.Parts.{first_sector, touch_bytes}
use Rattle.plan_bodies.specs.Bodies.{AreBodies, body_in}
use Rattle.table_edits.specs.plan_model.Made.{ReadsAs}
use Rattle.resized_streams.specs.Resizing.{unplaced}
use Rattle.table_edits.specs.plan_edits.Puts.{IsSectorOf, IsSectorWith}
use Rattle.table_edits.proofs.plan_edits.Bitmap.{shares_itself}
use Rattle.table_edits.proofs.plan_edits.Moving.{none_in}
use Rattle.table_edits.proofs.plan_edits.Putting.{bytes_go, content_goes, each_turned, found_in, Goes}
use Rattle.table_edits.proofs.plan_edits.Recording.{bits_stay as record_bits_stay, no_sector}
use Rattle.table_edits.proofs.Steps.{away}
use Rattle.std.specs.Prelude.{map, slice_index}
use Rattle.std.specs.List.{range_with_len}
use Rattle.std.proofs.lemmas.List.{ext_get_or}
use Rattle.std.proofs.lemmas.List.FromFn.{length-map-range_with_len, get_or-map-range_with_len}
use Rattle.state_model.specs.Streams.{byte_at, extent_bytes}
use Rattle.volume_model.specs.Sizes.{fits_volume}
use Rattle.draft_streams.specs.Effects.{byte_put, HasOwnSectors}
use Rattle.draft_streams.proofs.Effecting.{effects}
use Rattle.draft_bits.proofs.BitEffects.{byte_there}
use Rattle.table_edits.proofs.plan_model.Drafting.{per_is}
use Rattle.table_edits.proofs.plan_growth.Ruled.{sizes_lawful}
use Rattle.table_edits.proofs.plan_growth.Runs.{grown_whole}
use Rattle.table_edits.proofs.plan_edits.Bitmap.{in_total, lies_by, own_by}
use Rattle.table_edits.proofs.plan_edits.Editing.{some_of}
use Rattle.bitmap_edits.specs.Streams.{HasMoved, IsDraftOf, MovesWithBits}
use Rattle.bitmap_edits.proofs.Leaving.{leaves_runs, LeavesSet, used_by}
use Rattle.bitmap_edits.proofs.Restreaming.{GoesTo}

none_used : (x : ℕ) → uses [] x ≡ 0
unfolding uses
none_used x = refl

-- a sector that begins below so many bytes is among those of the bytes
in_count : (m size : ℕ) (t : Bool) → eqb size 0 ≡ t → 512 * m < size → m < first_sector 0 + cond t 0 ((0 + size + 511) / 512 - 0 / 512)
in_count m size true none low = (let empty : size ≡ 0 = eqb-true size 0 none in absurd (omega (arith, low, empty)))
in_count m size false some low = omega (arith, low)

module _ (c : Content) (g : Geometry) (clusters : ℕ) (v : Volume) (mirror : Extents) (b : Bitmap) (n kind : ℕ) (name was value : List ℕ) (r : Record) (more : List Run) (z : Resized) (old mid last new : List Touched) (after : Bitmap) (eight : g.per_cluster ≡ 8) (state : Stands (drafted old c) g clusters v) (k : MovesWithBits c v mirror b n kind name was value r more z old mid last new after) where
  abbrev s : Record
  s = written_record z.file

  abbrev key : StreamKey
  key = key_of n kind name

  abbrev block_kind : BlockKind
  block_kind = stream_kind (key_of n kind name)

  free : (x : ℕ) → 0 < uses more x → uses (volume_runs v.files) x ≡ 0
  free x some = clear_free (drafted old c) g clusters v x state (k.taken.clear x some)

  first : PutsFreeRuns c v mirror b more true old mid after
  first = record {
    sized = k.draft.sized;
    kept = k.draft.kept;
    bitmap = k.draft.bitmap;
    mirror_is = k.draft.mirror_is;
    inside = k.taken.inside;
    free = free;
    put = k.bits;
  }

  bits : PutsOwnersKept c g clusters v more true old mid after
  bits = runs_put c g clusters v mirror b more true old mid after eight state first

  abbrev w : Volume
  w = bits.volume

  abbrev u : Volume
  u = with_record bits.volume n s

  state_w : Stands (drafted mid c) g clusters w
  state_w = subst (λ (y : Content). Stands y g clusters bits.volume) bits.edits.content bits.keeps.stands

  own : IsOwnStream w n kind name r (Held was)
  own = own_between (drafted old c) g clusters v bits.bodies bits.volume n kind name r (Held was) bits.keeps k.own

  put_file : PutsRecordOf c w mirror n z.file mid last
  put_file = record {
    sized = k.draft.sized;
    kept = bits.kept;
    mirror_is = mirror_between (drafted old c) g clusters v bits.bodies bits.volume mirror bits.keeps k.draft.mirror_is;
    fits = k.file.fits;
    room = k.file.room;
    put = subst (λ (p : ℕ). last ≡ touch_record c p bits.volume.table mirror n (record_spelling s) mid) (sym bits.keeps.per) (subst (λ (x : Extents). last ≡ touch_record c v.per x mirror n (record_spelling s) mid) (sym bits.keeps.table) k.file.put);
  }

  grown_w : IsGrown w.per kind name (unplaced (length value)) r more z
  grown_w = subst (λ (p : ℕ). IsGrown p kind name (unplaced (length value)) r more z) (sym bits.keeps.per) k.grown

  used : IsInUse z.file
  used =
      subst IsInUse (sym k.grown.file)
      (written_read.placed v.per kind name (lengthened v.per more (unplaced (length value))) r (follow-grown [] more tt k.taken.spelled (let few = k.room in omega (arith, few)))
      (written_read.used (drafted old c) v.per v.table n r (own_record (drafted old c) g clusters v n r state k.own.file k.own.no_list).slot))

  edit : IsRecordEdit c w n z.file mid last
  edit = record_edit.edit c g clusters bits.volume mirror n r z.file mid last state_w own.file own.no_list used put_file

  last_kept : IsKept last
  last_kept = record_edit.kept c bits.volume mirror n z.file mid last put_file

  -- ---- the value's bytes

  put_bytes : new ≡ touch_bytes c w.per z.extents.runs 0 0 value last
  put_bytes = subst (λ (p : ℕ). new ≡ touch_bytes c p z.extents.runs 0 0 value last) (sym bits.keeps.per) k.put

  bytes : Goes (IsSectorOf w.per z.extents.runs) (IsSectorWith w.per z.extents.runs 0 (length value)) last new
  bytes = subst (Goes (IsSectorOf bits.volume.per z.extents.runs) (IsSectorWith bits.volume.per z.extents.runs 0 (length value)) last) (sym put_bytes) (bytes_go c bits.volume.per z.extents.runs 0 0 value last k.draft.sized last_kept)

  abbrev file_bodies : List NewBody
  file_bodies = put_bodies bytes.blocks.bodies edit.bodies

  whole : AreBodies file_bodies
  whole = both_are edit.bodies bytes.blocks.bodies edit.puts.whole bytes.blocks.whole

  bytes_edit : EditsDraft c last new bytes.blocks.bodies
  bytes_edit = record { same = bytes.blocks.same; content = content_goes c bytes.blocks.bodies last new k.draft.sized last_kept bytes.kept bytes.blocks.whole bytes.blocks.same }

  file_edit : EditsDraft c mid new file_bodies
  file_edit = both_edit c edit.bodies bytes.blocks.bodies mid last new k.draft.sized edit.puts.whole bytes.blocks.whole edit.edits bytes_edit

  abbrev goes_to : Block → Type 0
  goes_to x = GoesTo w n x ⊎ IsSectorOf w.per z.extents.runs x

  each : AllByRecursion (λ q. goes_to q.block) file_bodies
  each =
      all_in_both (λ q. goes_to q.block) edit.bodies bytes.blocks.bodies
      (each_turned (GoesTo bits.volume n) goes_to edit.bodies (λ x is. inl is) edit.puts.each)
      (each_turned (IsSectorOf bits.volume.per z.extents.runs) goes_to bytes.blocks.bodies (λ x is. inr is) bytes.blocks.each)

  anew : ReadsAs w file_bodies n s
  anew =
      let file = edit.puts.anew in
      record {
        block = file.block;
        place = file.place;
        bytes = file.bytes;
        put =
            found_in edit.bodies bytes.blocks.bodies file.block bytes.blocks.whole
            ∙ ap (λ (o : Option (List ℕ)). option_or o (body_in edit.bodies file.block)) (none_in bits.volume.per z.extents.runs bytes.blocks.bodies file.block bytes.blocks.each (no_sector bits.volume.per z.extents.runs bits.volume.table.runs n file.block file.place))
            ∙ file.put;
        reads = file.reads;
      }

  covers : (m : ℕ) (x : Block) → block_at w.per z.extents.runs Plain m ≡ Some x → 512 * m < length value → IsPut file_bodies x
  covers m x lies low =
      let there = bytes.blocks.put x (m, (omega arith, in_count m (length value) (eqb (length value) 0) refl low, lies)) in
      put_second edit.bodies bytes.blocks.bodies x bytes.blocks.whole there

  -- ---- the bits of clusters

  used_there : (x : ℕ) → uses z.extents.runs x ≡ uses more x
  used_there x = ap (λ (e : Extents). uses e.runs x) k.grown.extents ∙ uses-grown [] more x ∙ ap (λ (m : ℕ). m + uses more x) (none_used x) ∙ omega arith

  lies_free : (m : ℕ) (x : Block) → block_at w.per z.extents.runs Plain m ≡ Some x → LiesFree w x
  lies_free m x there = free_in_runs bits.volume z.extents.runs Plain m x state_w.some (λ y some. bits.keeps.owners y ∙ free y (let same = used_there y in omega (arith, same, some))) there

  sector_stays : (x : Block) (m : ℕ) → block_at w.per (runs_in (stream_at w bitmap_key)) Plain m ≡ Some x → body_in (bodies_of new) x ≡ body_in (bodies_of last) x
  sector_stays x m there =
      away (IsSectorOf bits.volume.per z.extents.runs) (IsSectorWith bits.volume.per z.extents.runs 0 (length value)) last new x bytes
      (λ a is. false_from_ne_true (same_block x a) (λ one. both_ways (overlap x a) (free_apart bits.volume bitmap_key Plain m x a state_w.some (lies_free is.0 a is.1) there) (shares_itself x a one)))

  marked : (x : ℕ) → x < w.clusters → bit (cluster_bits (content_with (drafted mid c) file_bodies) w) x ≡ bit (cluster_bits (drafted mid c) w) x
  marked x low =
      ap (λ (l : List Bool). bit l x)
      (ap (λ (y : Content). cluster_bits y bits.volume) file_edit.content
      ∙ record_bits_stay c bits.volume last new k.draft.sized last_kept bytes.kept sector_stays
      ∙ ap (λ (y : Content). cluster_bits y bits.volume) (sym edit.edits.content)
      ∙ edit.marked)

  sized_mid : HasSizes (drafted mid c)
  sized_mid = sized_with c (bodies_of mid) k.draft.sized

  low_w : (x : ℕ) → x < w.clusters → x < v.clusters
  low_w x low = subst (λ (y : ℕ). x < y) bits.keeps.clusters_stay low

  bit_between : (x : ℕ) → x < v.clusters → bit (cluster_bits (drafted mid c) w) x ≡ cond (leb 1 (uses more x)) true (bit (cluster_bits (drafted old c) v) x)
  bit_between x low = ap (λ (y : Content). bit (cluster_bits y bits.volume) x) (sym bits.edits.content) ∙ bits.bits x low

  leaves : LeavesSet (drafted mid c) w n kind name was value r more z s file_bodies
  leaves = record {
    own = own;
    no_index = k.no_index;
    no_limits = k.no_limits;
    plain = k.plain;
    grown = grown_w;
    more_spelled = k.taken.spelled;
    hole_free = k.taken.whole;
    inside = subst (λ (y : ℕ). list_all (lies_inside y) more ≡ true) (sym bits.keeps.clusters_stay) k.taken.inside;
    once = k.taken.once;
    free = λ x some. bits.keeps.owners x ∙ free x some;
    set = λ x low some. bit_between x (low_w x low) ∙ set_in (uses more x) (bit (cluster_bits (drafted old c) v) x) some;
    enough = subst (λ (p : ℕ). clusters_for p (length value) ≤ total_clusters more) (sym bits.keeps.per) k.enough;
    room = k.room;
    written = written_read.written z.file;
    whole = whole;
    anew = anew;
    each = each;
    covers = covers;
    marked = marked;
  }

  abbrev f : Extents
  f = lengthened w.per more (unplaced (length value))

  moves : MovesRuns (drafted mid c) w n kind name (Held was) f r z.file s file_bodies
  moves = leaves_runs (drafted mid c) g clusters bits.volume n kind name was value r more z s file_bodies sized_mid eight state_w leaves

  f_is : z.extents ≡ f
  f_is = grown_w.extents

  -- ---- as one edit

  abbrev bodies : List NewBody
  bodies = put_bodies file_bodies bits.bodies

  edits : EditsDraft c old new bodies
  edits = both_edit c bits.bodies file_bodies old mid new k.draft.sized bits.keeps.whole whole bits.edits file_edit

  stands_there : Stands (content_with (drafted mid c) file_bodies) g clusters u
  stands_there = (leads (drafted mid c) g clusters bits.volume n kind name (Held was) f r z.file s file_bodies sized_mid eight state_w moves).stands

  stands_new : Stands (drafted new c) g clusters u
  stands_new = subst (λ (y : Content). Stands y g clusters (with_record bits.volume n s)) file_edit.content stands_there

  stream_there : stream_at u key ≡ Some (Placed f)
  stream_there = stream_now (drafted mid c) g clusters bits.volume n kind name (Held was) f r z.file s file_bodies sized_mid eight state_w moves

  owners_now : (x : ℕ) → uses (volume_runs u.files) x ≡ uses (volume_runs v.files) x + uses more x
  owners_now x =
      let sums = owners (drafted mid c) g clusters bits.volume n kind name (Held was) f r z.file s file_bodies sized_mid eight state_w moves x in
      let same = bits.keeps.owners x in
      let more_now = used_by (drafted mid c) g clusters bits.volume n kind name was value r more z s file_bodies sized_mid eight state_w leaves x in
      let none = none_used x in
      omega (arith, sums, same, more_now, none)

  bit_now : (x : ℕ) → x < v.clusters → bit (cluster_bits (content_with (drafted old c) bodies) u) x ≡ cond (leb 1 (uses more x)) true (bit (cluster_bits (drafted old c) v) x)
  bit_now x low =
      ap (λ (y : Content). bit (cluster_bits y (with_record bits.volume n s)) x) (edits.content ∙ sym file_edit.content)
      ∙ bits_stay (drafted mid c) g clusters bits.volume n kind name (Held was) f r z.file s file_bodies sized_mid eight state_w moves x (subst (λ (y : ℕ). x < y) (sym bits.keeps.clusters_stay) low)
      ∙ bit_between x low

  as_clusters : (x : ℕ) → x < clusters → x < v.clusters
  as_clusters x low = subst (λ (y : ℕ). x < y) (clusters_are (drafted old c) g clusters v state) low

  marks : FollowsOwners clusters (cluster_bits (drafted old c) v) (cluster_bits (content_with (drafted old c) bodies) u) v.files u.files
  marks = record {
    cleared = λ x low less. absurd (let sum = owners_now x in omega (arith, sum, less));
    set = λ x low rise. (let sum = owners_now x in let some : 0 < uses more x = omega (arith, sum, rise) in (k.taken.clear x some, bit_now x (as_clusters x low) ∙ set_in (uses more x) (bit (cluster_bits (drafted old c) v) x) some));
    others = λ x low equal. (let sum = owners_now x in bit_now x (as_clusters x low) ∙ out_of (uses more x) true (bit (cluster_bits (drafted old c) v) x) (omega (arith, sum, equal)));
  }

  takes_kind : (gave : ℕ → Option BlockKind) (other : BlockKind) (x : ℕ) → OwnsAs u other x → OwnsAs v other x ⊎ (gives_runs block_kind more gave x ≡ Some other)
  takes_kind gave other x owns = elim (owned_or_new (drafted mid c) g clusters bits.volume n kind name (Held was) f r z.file s file_bodies sized_mid eight state_w moves other x owns) [
    | inl before ↦ inl (owned_as_before (drafted old c) g clusters v bits.bodies bits.volume other x bits.keeps before)
    | inr is ↦
        (let same = used_by (drafted mid c) g clusters bits.volume n kind name was value r more z s file_bodies sized_mid eight state_w leaves x in
        let has_now = is.0 in
        inr (given_here block_kind more gave x (omega (arith, same, has_now)) ∙ ap (λ (y : BlockKind). Some y) is.1.1))
  ]

  covered : (x : Block) → IsLive u x → IsLive v x ⊎ IsPut bodies x
  covered x live = elim (live_before (drafted mid c) g clusters bits.volume n kind name (Held was) f r z.file s file_bodies sized_mid eight state_w moves x live) [
    | inl between ↦ elim (bits.keeps.covers x between) [
      | inl before ↦ inl before
      | inr put ↦ inr (put_first bits.bodies file_bodies x whole put)
    ]
    | inr put ↦ inr (put_second bits.bodies file_bodies x whole put)
  ]

  is_owned : (x : Block) → goes_to x → Owns v x ⊎ Owns u x
  is_owned x (inl (inl owned)) = inl (owns_back (drafted old c) g clusters v bits.bodies bits.volume x bits.keeps (record { stream = owned.stream; number = owned.number; lies = owned.lies }))
  is_owned x (inl (inr at)) = inl (owns_back (drafted old c) g clusters v bits.bodies bits.volume x bits.keeps (record_owned (drafted mid c) g clusters bits.volume n x state_w at))
  is_owned x (inr sector) = inr (record {
    stream = key;
    number = sector.0;
    lies = ap₂ (λ (o : Option Stream) (y : BlockKind). block_at bits.volume.per (runs_in o) y sector.0) (stream_there ∙ ap (λ (y : Extents). Some (Placed y)) (sym f_is)) k.plain ∙ sector.1;
  })

  owned : AllByRecursion (λ q. Owns v q.block ⊎ Owns u q.block) bodies
  owned =
      all_in_both (λ q. Owns v q.block ⊎ Owns u q.block) bits.bodies file_bodies
      (all_by (λ q. Owns v q.block) (λ q. Owns v q.block ⊎ Owns u q.block) (λ q owns. inl owns) bits.bodies bits.keeps.owned)
      (all_by (λ q. goes_to q.block) (λ q. Owns v q.block ⊎ Owns u q.block) (λ q is. is_owned q.block is) file_bodies each)

  goes_on : (begin : Content) (start : Volume) (gave : ℕ → Option BlockKind) → MayGive begin start block_kind more gave → GoesOn begin start (drafted old c) g clusters v bodies u gave (gives_runs block_kind more gave)
  goes_on begin start gave may = record {
    whole = both_are bits.bodies file_bodies bits.keeps.whole whole;
    stands = subst (λ (y : Content). Stands y g clusters (with_record bits.volume n s)) (sym edits.content) stands_new;
    marks = marks;
    kept = given_before block_kind more gave may.same;
    takes = takes_kind gave;
    clear = given_clear block_kind more gave (cluster_bits begin start) may.taken may.before;
    touched = owned;
    covers = covered;
  }

  -- ---- what the stream reads

  fits_now : fits_volume w.per w.clusters (Some (Placed f)) ≡ true
  fits_now = moves.fits

  spelled_now : HasSpelling 0 f.runs
  spelled_now = follow-grown [] more tt k.taken.spelled (let few = k.room in omega (arith, few))

  once_now : AreOnce f.runs
  once_now x = (let same = used_by (drafted mid c) g clusters bits.volume n kind name was value r more z s file_bodies sized_mid eight state_w leaves x in let one = k.taken.once x in omega (arith, same, one))

  apart_now : HasOwnSectors w.per f.runs
  apart_now = own_by bits.volume.per f.runs state_w.some once_now

  put_there : new ≡ touch_bytes c w.per f.runs 0 0 value last
  put_there = subst (λ (e : Extents). new ≡ touch_bytes c bits.volume.per e.runs 0 0 value last) f_is put_bytes

  lies_at : (i : ℕ) → i < length value → (x : Block) × (block_at w.per f.runs Plain (i / 512) ≡ Some x)
  lies_at i low =
      let high = (sizes_lawful bits.volume.per bits.volume.clusters f fits_now).1 in
      some_of (block_at bits.volume.per f.runs Plain (i / 512)) (lies_by bits.volume.per (i / 512) f.runs spelled_now (grown_whole [] more refl k.taken.whole) (in_total bits.volume.per (total_clusters f.runs) (length value) (i / 512) (per_is (drafted mid c) g clusters bits.volume eight state_w) high (omega (arith, low))))

  byte_now : (i : ℕ) → i < length value → byte_at (drafted new c) w.per f i ≡ slice_index value i
  byte_now i low =
      let x = lies_at i low in
      byte_there c bits.volume.per f new x.0 i (slice_index value (i - 0)) k.draft.sized bytes.kept low x.1
      (subst (λ (t : List Touched). byte_put t x.0 i (slice_index value (i - 0))) (sym put_there)
      (effects.inside c bits.volume.per f.runs 0 0 i value last x.0 k.draft.sized last_kept.rises last_kept.whole apart_now x.1 (omega arith) (omega (arith, low))))
      ∙ (let same : i - 0 ≡ i = omega arith in ap (slice_index value) same)

  all_bytes : map (byte_at (drafted new c) w.per f) (range_with_len 0 (length value)) ≡ value
  all_bytes =
      let long = length-map-range_with_len (byte_at (drafted new c) bits.volume.per f) 0 (length value) in
      ext_get_or 0 (map (byte_at (drafted new c) bits.volume.per f) (range_with_len 0 (length value))) value long
      (λ i lt. get_or-map-range_with_len (byte_at (drafted new c) bits.volume.per f) 0 (length value) i i 0 (omega (arith, lt, long)) (omega arith) ∙ byte_now i (omega (arith, lt, long)))

  reads_value : bytes_or (drafted new c) v.per (stream_at u key) ≡ value
  unfolding extent_bytes
  reads_value = ap₂ (λ (p : ℕ) (o : Option Stream). bytes_or (drafted new c) p o) (sym bits.keeps.per) stream_there ∙ all_bytes

  same_others : (m : ℕ) → m ≢ n → file_in u m ≡ file_in w m
  same_others = files_stay (drafted mid c) g clusters bits.volume n kind name (Held was) f r z.file s file_bodies sized_mid eight state_w moves

  next : n ≢ mirror_file → IsDraftOf c u mirror after new
  next other = record {
    sized = k.draft.sized;
    kept = bytes.kept;
    bitmap = bitmap_beside bits.volume (with_record bits.volume n s) n after k.own.apart.bitmap same_others bits.bitmap;
    mirror_is = ap (λ (o : Option Record). extents_or (file_stream data_type [] o)) (same_others mirror_file (λ is. other (sym is))) ∙ put_file.mirror_is;
  }

  pub has_moved : HasMoved c g clusters v mirror n kind name value r more z old mid new after
  has_moved = record {
    bits = bits;
    bodies = bodies;
    edits = edits;
    stands = stands_new;
    stream = stream_there ∙ ap (λ (x : Extents). Some (Placed x)) (sym f_is);
    files = λ m other apart. files_stay (drafted mid c) g clusters bits.volume n kind name (Held was) f r z.file s file_bodies sized_mid eight state_w moves m other ∙ bits.keeps.files m apart;
    own_file = file_now (drafted mid c) g clusters bits.volume n kind name (Held was) f r z.file s file_bodies sized_mid eight state_w moves;
    next = next;
    tree = subst (λ (y : Content). TreeFollows (drafted mid c) y bits.volume n r s) file_edit.content (tree (drafted mid c) g clusters bits.volume n kind name (Held was) f r z.file s file_bodies sized_mid eight state_w moves refl);
    bytes = reads_value;
    goes_on = goes_on;
  }
