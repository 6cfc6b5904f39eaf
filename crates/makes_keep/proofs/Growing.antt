-- An index that grows is put well.
use Rattle.std.proofs.Common.{◌≡◌, ◌≢◌, ◌⊎◌, subst, ℕ, zero, suc, ◌+◌, ◌*◌, ◌-◌, ◌/◌, ◌<◌, ◌≤◌, Bool, true, false, not, ◌&&◌, ◌||◌, eqb, ltb, List, [], ◌∷◌, Option, Some, None, Ok, refl, sym, ap, ap₂, ◌∙◌, inl, inr, arith}
use Rattle.std.specs.List.{AllByRecursion}
use Rattle.std.proofs.lemmas.Bool.{cases_eq, and_parts, or_cases, eqb-true, le-ltb, leb-false}
use Rattle.disk_model.specs.declared.block.Block.{Block}
use Rattle.disk_model.specs.declared.block.BlockKind.{BlockKind}
use Rattle.disk_model.specs.declared.block.BlockKind.TheVariants.{Plain, FileRec, Index}
use Rattle.disk_model.specs.Bytes.{zeros}
use Rattle.disk_model.specs.Content.{Content, HasSizes, is_signed}
use Rattle.disk_model.specs.Sectors.{sectors}
use Rattle.fixup_record.specs.Spellings.{is_ready, has_spelling}
use Rattle.record_model.specs.declared.runs.Run.{Run}
use Rattle.record_model.specs.Constants.{attribute_list, data_type, index_allocation, bitmap_type, names_index}
use Rattle.record_model.specs.Records.{Record}
use Rattle.record_model.specs.RecordLaws.{RecordIsBody}
use Rattle.host_base.specs.declared.file_ref.FileRef.{FileRef}
use Rattle.state_model.specs.declared.geometry.Geometry.{Geometry}
use Rattle.state_model.specs.declared.stream.Extents.{Extents}
use Rattle.state_model.specs.declared.stream.Stream.{Stream}
use Rattle.state_model.specs.declared.stream.Stream.TheVariants.{Held, Placed}
use Rattle.state_model.specs.Files.{file_at, is_base_record}
use Rattle.state_model.specs.Loads.{Used, list_stream, table_slot, table_in, used_record}
use Rattle.state_model.specs.Streams.{block_at}
use Rattle.upcase_order.specs.Tables.{upcase_of}
use Rattle.volume_model.specs.Indexes.{index_stream}
use Rattle.volume_model.specs.Owners.{volume_runs}
use Rattle.volume_model.specs.Volumes.{Volume, bytes_or, count_of, file_in, file_stream, table_file, mirror_file, log_file, bitmap_file, upcase_file, table_or_standard, upper_of}
use Rattle.stream_laws.specs.Frames.{SameRecordIn}
use Rattle.stream_laws.specs.Owners.{stream_kind, initialised_in}
use Rattle.stream_laws.specs.Places.{AreOnce}
use Rattle.stream_laws.specs.Replacing.{FileEdit}
use Rattle.stream_laws.specs.Rewrites.{is_edited}
use Rattle.stream_laws.specs.Sharing.{StreamKey, stream_at, runs_in}
use Rattle.stream_laws.specs.Tables.{table_key}
use Rattle.stream_laws.specs.Volumes.{base_record}
use Rattle.stream_laws.proofs.Editing.{edited_files, length-with_edits}
use Rattle.stream_laws.proofs.Framing.{same_slot}
use Rattle.stream_laws.proofs.Owning.{one_owner}
use Rattle.stream_laws.proofs.Placing.{lies}
use Rattle.stream_laws.proofs.Tabling.{inside_list, table_extents_is, table_runs}
use Rattle.tree_laws.specs.Contents.{SameUpper}
use Rattle.tree_laws.proofs.Agreeing.{same_upper}
use Rattle.plan_owners.specs.States.{Stands}
use Rattle.plan_owners.specs.Agreeing.{IsJudged, log_key, list_key}
use Rattle.plan_owners.proofs.Agreed.{table_begins}
use Rattle.plan_owners.proofs.Outside.{once}
use Rattle.plan_owners.proofs.Standing.{slots, slot_record, some_file, as_file, is_base, begins}
use Rattle.plan_owners.proofs.Unnamed.{slot_of_base}
use Rattle.plan_bodies.specs.Bodies.{NewBody, body_in, body_or, content_with}
use Rattle.plan_bodies.proofs.Putting.{body_put, sized_with}
use Rattle.plan_draft.specs.declared.touched.Touched.{Touched}
use Rattle.plan_draft.specs.Touching.{bodies_of, touched_at}
use Rattle.plan_draft.specs.Drafts.{drafted}
use Rattle.plans_keep.specs.plan_spares.Plans.{HasOwnLists}
use Rattle.plans_keep.proofs.Keeping.{put_found}
use Rattle.draft_indexes.specs.declared.blocks.IndexBlocks.{IndexBlocks}
use Rattle.draft_indexes.specs.Growing.{blocks_in, size_with, with_blocks, PutsIndex}
use Rattle.plan_blocks.specs.Blocks.{used_stream, HasNoPlace, blocks_behind, IsFreshBlock, GrowsIndex}
use Rattle.plan_blocks.proofs.Enlarging.{index_leads}
use Rattle.index_edits.specs.Grown.{GrowsOfVolume, index_runs}
use Rattle.index_edits.proofs.Grown.{grown_is}
use Rattle.made_files.specs.plan_growth.Streams.{marks_streams}
use Rattle.written_values.specs.plan_edits.Edits.{bitmap_key}
use Rattle.written_values.specs.plan_edits.Moves.{EditsDraft}
use Rattle.written_values.specs.plan_model.Edits.{IsOwnedIn, LeadsTo}
use Rattle.written_values.specs.plan_model.Informed.{with_record}
use Rattle.written_values.proofs.plan_model.Drafting.{per_is}
use Rattle.written_values.proofs.plan_model.OneRecord.{own_record, slot_put}
use Rattle.written_values.proofs.record_streams.Kept.{but_room_fits}
use Rattle.written_values.specs.draft_bits.Effects.{IsKept}
use Rattle.written_values.specs.draft_bits.Filling.{first_past}
use Rattle.written_values.specs.draft_records.Records.{fits_room, touch_if, written_record}
use Rattle.written_values.specs.draft_resized.Resized.{resized_bytes, with_file, PutsResized}
use Rattle.written_values.specs.draft_runs.Clusters.{PutsClusters, PutsRuns}
use Rattle.written_values.specs.resized_streams.Resizing.{lengthened, with_sizes}
use Rattle.written_values.specs.resized_streams.declared.resized.Resized.{Resized}
use Rattle.written_values.specs.step_model.Placing.{Growth}
use Rattle.written_values.specs.step_model.Streams.{blocks_key, used_key}
use Rattle.written_values.proofs.Joining.{nothing_put}
use Rattle.written_values.proofs.Sparing.{elsewhere}
use Rattle.made_trees.specs.Grown.{HasGrownBefore}
use Rattle.writes_keep.proofs.Behind.{table_kind, bitmap_kind, other_file}
use Rattle.writes_keep.proofs.Spelled.{record_spelled}
use Rattle.writes_keep.proofs.Touching.{IsWell, AreSectors, IsRecord, touch_well, resized_well}
use Rattle.makes_keep.specs.Makes.{IsPutStream, IsPutAt, PutsWell, GrowsWell}
use Rattle.makes_keep.specs.Growing.{NoneGrowsWell, IndexGrowsWell}
use Rattle.makes_keep.proofs.Fresh.{GoesBehind, itself, one_behind, record_behind, bytes_behind, if_behind, each_found}
use Rattle.makes_keep.proofs.Judging.{IsBegun, begun_since}
use Rattle.makes_keep.proofs.Making.{blocks_kind, blocks_differ, extents_are}

-- ---- nothing

pub none_grows_well : NoneGrowsWell
none_grows_well c v n sized lists = record {
  each = tt;
  others = λ m other more. refl;
  count = omega arith;
  table = λ same. refl;
  lists = subst (λ (d : Content). HasOwnLists d v) (sym (nothing_put c sized)) lists;
  upper = ap (λ (d : Content). upper_of d v) (nothing_put c sized);
}

-- ---- a list for each step

each_as : {X : Type 0} (P Q : X → Type 0) → ((x : X) → P x → Q x) → (xs : List X) → AllByRecursion P xs → AllByRecursion Q xs
each_as P Q f [] all = tt
each_as P Q f (x ∷ xs) all = (f x all.0, each_as P Q f xs all.1)

both_of : {X : Type 0} (P Q : X → Type 0) (xs : List X) → AllByRecursion P xs → AllByRecursion Q xs → AllByRecursion (λ x. P x × Q x) xs
both_of P Q [] all more = tt
both_of P Q (x ∷ xs) all more = ((all.0, more.0), both_of P Q xs all.1 more.1)

no_runs_in : (o : Option Stream) → HasNoPlace o → runs_in o ≡ []
no_runs_in None none = refl
no_runs_in (Some (Held value)) none = refl
no_runs_in (Some (Placed e)) none = absurd none

-- ---- what was fresh stays so

clusters_behind : (c : Content) (bitmap : Extents) (value : Bool) (o : Option ℕ) (len : ℕ) (old new : List Touched) → PutsClusters c 8 bitmap value o len old new → GoesBehind old new
clusters_behind c bitmap value None len old new put = subst (GoesBehind old) (sym put) (itself old)
clusters_behind c bitmap value (Some first) len old new put = subst (GoesBehind old) (sym put.1.1) (bytes_behind c bitmap.runs (first_past bitmap) (first / 8) put.0 old)

runs_behind : (c : Content) (bitmap : Extents) (value : Bool) (runs : List Run) (old new : List Touched) → PutsRuns c 8 bitmap value runs old new → GoesBehind old new
unfolding PutsRuns
runs_behind c bitmap value [] old new put = subst (GoesBehind old) (sym put) (itself old)
runs_behind c bitmap value (r ∷ runs) old new put = one_behind old put.0 new (clusters_behind c bitmap value r.lcn r.len old put.0 put.1.0) (runs_behind c bitmap value runs put.0 new put.1.1)

resized_behind : (c : Content) (bitmap table mirror : Extents) (n : ℕ) (z : Resized) (old new : List Touched) → PutsResized c 8 bitmap table mirror n z old new → GoesBehind old new
resized_behind c bitmap table mirror n z old new put =
    one_behind old (with_file c 8 table mirror n z old) new (record_behind c table mirror n (resized_bytes z) old)
    (one_behind (with_file c 8 table mirror n z old) put.0 new (runs_behind c bitmap true z.taken.items (with_file c 8 table mirror n z old) put.0 put.1.0) (runs_behind c bitmap false z.freed.items put.0 new put.1.1))

blocks_behind_them : (c : Content) (per : ℕ) (e : Extents) (body : List ℕ) (first n : ℕ) (l : List Touched) → GoesBehind l (with_blocks c per e body first n l)
unfolding with_blocks
blocks_behind_them c per e body first zero l = itself l
blocks_behind_them c per e body first (suc n) l = one_behind l (with_blocks c per e body first n l) _ (blocks_behind_them c per e body first n l) (if_behind c (block_at per e.runs Index (first + n)) true body (with_blocks c per e body first n l))

-- ---- blocks of zeros

unsigned : is_signed Index (zeros 4096) ≡ false
unfolding zeros
unsigned = refl

zeros_spelled : has_spelling Index (zeros 4096) ≡ true
unfolding has_spelling
zeros_spelled = ap (λ (t : Bool). not t || is_ready (zeros 4096)) unsigned

fresh_well : (Goes Judged : Block → Type 0) (c : Content) (o : Option Block) (body : List ℕ) (l : List Touched) → ((b : Block) → o ≡ Some b → Goes b × (has_spelling b.kind body ≡ true)) → AllByRecursion (IsWell Goes Judged) l → AllByRecursion (IsWell Goes Judged) (touch_if c o true body l)
fresh_well Goes Judged c None body l each all = all
fresh_well Goes Judged c (Some b) body l each all = touch_well Goes Judged l b true body (c b) (record { goes = (each b refl).0; begun = λ is. absurd cc; spelled = (each b refl).1 }) all

blocks_well : (Goes Judged : Block → Type 0) (c : Content) (per : ℕ) (e : Extents) (body : List ℕ) (first n : ℕ) (l : List Touched) → ((m : ℕ) (b : Block) → block_at per e.runs Index m ≡ Some b → Goes b × (has_spelling b.kind body ≡ true)) → AllByRecursion (IsWell Goes Judged) l
    → AllByRecursion (IsWell Goes Judged) (with_blocks c per e body first n l)
unfolding with_blocks
blocks_well Goes Judged c per e body first zero l each all = all
blocks_well Goes Judged c per e body first (suc n) l each all = fresh_well Goes Judged c (block_at per e.runs Index (first + n)) body (with_blocks c per e body first n l) (λ b. each (first + n) b) (blocks_well Goes Judged c per e body first n l each all)

module _ (record_body : RecordIsBody) (c : Content) (g : Geometry) (clusters : ℕ) (v : Volume) (bits : List Bool) (bitmap mirror : Extents) (r : Record) (i : IndexBlocks) (more : ℕ) (growths : List Growth) (u : Volume) (old new : List Touched) (z : Resized) (eight : g.per_cluster ≡ 8) (state : Stands c g clusters v) (high : 4 ≤ i.number)
    (before : HasGrownBefore c g clusters v i.number r growths u r old) (well : GrowsWell c v i.number u old) (no_index : AllByRecursion (λ (y : Touched). y.block.kind ≢ Index) old) (k : GrowsOfVolume c u bits bitmap mirror r i more old new z) where
  abbrev n : ℕ
  n = i.number

  abbrev q : Record
  q = written_record z.file

  abbrev w : Volume
  w = with_record u i.number (written_record z.file)

  abbrev first : Content
  first = drafted old c

  abbrev last : Content
  last = drafted new c

  abbrev runs : List Run
  runs = index_runs u.per bits more i

  abbrev size : ℕ
  size = size_with more i.extents

  first_sized : HasSizes first
  first_sized = sized_with c (bodies_of old) k.sized

  stands_u : Stands first g clusters u
  stands_u = subst (λ (y : Content). Stands y g clusters u) before.content before.draft.stands

  is : IsKept new × ((bodies : List NewBody) × (EditsDraft c old new bodies × GrowsIndex first u n r runs size size q bodies))
  is = grown_is c g clusters u bits bitmap mirror r i more old new z eight stands_u k

  abbrev bodies : List NewBody
  bodies = is.1.0

  edit : GrowsIndex first u n r runs size size q bodies
  edit = is.1.1.1

  content : content_with first bodies ≡ last
  content = is.1.1.0.content

  u_per : u.per ≡ 8
  u_per = per_is first g clusters u eight stands_u

  v_per : v.per ≡ 8
  v_per = per_is c g clusters v eight state

  leads : LeadsTo (is_edited (record { number = n; file = Some q } ∷ [])) first u (content_with first bodies) g clusters w
  leads = index_leads first g clusters u n r runs size size q bodies first_sized eight stands_u edit

  stands_w : Stands last g clusters w
  stands_w = subst (λ (y : Content). Stands y g clusters w) content leads.stands

  once_w : AreOnce (volume_runs w.files)
  once_w = once last g clusters w stands_w

  -- ---- the directory's record

  below : n < count_of u
  below = inside_list u.files n r (some_file u n r k.file)

  abbrev edits : List FileEdit
  edits = record { number = n; file = Some q } ∷ []

  base : is_base_record q ≡ true
  base = ap (λ (y : FileRef). eqb y.number 0 && eqb y.seq 0) edit.written.base ∙ (own_record first g clusters u n r stands_u k.file k.no_list).base

  file_w : file_in w n ≡ Some q
  unfolding file_at
  file_w = as_file (table_in w.files n) q (edited_files u.files edits (below, tt, tt)).0 base

  others_w : (m : ℕ) → m ≢ n → file_in w m ≡ file_in u m
  others_w m other = elsewhere u n m q other

  -- ---- streams

  others_runs : (o : StreamKey) → o.file ≢ n → runs_in (stream_at w o) ≡ runs_in (stream_at u o)
  others_runs o other = ap (λ (y : Option Record). runs_in (file_stream o.kind o.name y)) (others_w o.file other)

  low_file : (m : ℕ) → m < 4 → m ≢ n
  low_file m low same = (let above = high in omega (arith, same, low, above))

  no_bitmap : bitmap_file ≢ n
  no_bitmap same = k.apart.bitmap (sym same)

  bits_runs : runs_in (stream_at w (used_key n)) ≡ runs_in (stream_at u (used_key n))
  bits_runs =
      ap (λ (y : Option Record). runs_in (file_stream bitmap_type names_index y)) file_w
      ∙ elim edit.written.bits [
        | inl stays ↦ ap runs_in stays
        | inr held ↦ ap runs_in held.1 ∙ sym (no_runs_in (used_stream r) held.2)
      ]
      ∙ sym (ap (λ (y : Option Record). runs_in (file_stream bitmap_type names_index y)) k.file)

  now_is : runs_in (stream_at w (blocks_key n)) ≡ (blocks_behind u.per r runs size size).runs
  unfolding index_stream
  now_is = ap (λ (y : Option Record). runs_in (file_stream index_allocation names_index y)) file_w ∙ ap runs_in edit.written.blocks

  put_runs : (o : StreamKey) → IsPutStream n o → o ≢ blocks_key n → runs_in (stream_at w o) ≡ runs_in (stream_at u o)
  put_runs o (inl same) other = others_runs o (λ e. low_file table_file (omega arith) (sym (ap (λ (y : StreamKey). y.file) same) ∙ e))
  put_runs o (inr (inl same)) other = others_runs o (λ e. low_file mirror_file (omega arith) (sym (ap (λ (y : StreamKey). y.file) same) ∙ e))
  put_runs o (inr (inr (inl same))) other = others_runs o (λ e. low_file table_file (omega arith) (sym (ap (λ (y : StreamKey). y.file) same) ∙ e))
  put_runs o (inr (inr (inr (inl same)))) other = others_runs o (λ e. no_bitmap (sym (ap (λ (y : StreamKey). y.file) same) ∙ e))
  put_runs o (inr (inr (inr (inr (inl same))))) other = absurd (other same)
  put_runs o (inr (inr (inr (inr (inr same))))) other = subst (λ (y : StreamKey). runs_in (stream_at w y) ≡ runs_in (stream_at u y)) (sym same) bits_runs

  table_u : runs_in (stream_at u table_key) ≡ u.table.runs
  table_u = table_runs first g clusters u (begins first g clusters u stands_u)

  table_w : runs_in (stream_at w table_key) ≡ u.table.runs
  table_w = others_runs table_key (low_file table_file (omega arith)) ∙ table_u

  size_u : initialised_in (stream_at u table_key) ≡ u.table.initialised
  size_u = extents_are (stream_at u table_key) ∙ ap (λ (e : Extents). e.initialised) (table_extents_is first g clusters u (begins first g clusters u stands_u))

  -- ---- where it goes

  abbrev Begun : Block → Type 0
  Begun b = IsJudged v b ⊎ IsJudged u b

  abbrev AllWell : List Touched → Type 0
  AllWell l = AllByRecursion (IsWell (IsPutAt n w) Begun) l

  put_at : (o : StreamKey) (kind : BlockKind) (l : List Run) (m : ℕ) (b : Block) → runs_in (stream_at w o) ≡ l → stream_kind o ≡ kind → block_at 8 l kind m ≡ Some b → IsPutStream n o → (o ≡ table_key → m ≢ 2) → IsPutAt n w b
  put_at o kind l m b is_runs is_kind at which second = record {
    own = record { stream = o; number = m; lies = ap (λ (pr : ℕ). block_at pr (runs_in (stream_at w o)) (stream_kind o) m) u_per ∙ ap₂ (λ (x : List Run) (y : BlockKind). block_at 8 x y m) is_runs is_kind ∙ at };
    which = which;
    second = second;
  }

  judged_at : (o : StreamKey) (kind : BlockKind) (l : List Run) (initialised m : ℕ) (b : Block) → runs_in (stream_at u o) ≡ l → initialised_in (stream_at u o) ≡ initialised → stream_kind o ≡ kind → o ≢ log_key → block_at 8 l kind m ≡ Some b → 512 * (sectors kind * m) < initialised → IsJudged u b
  judged_at o kind l initialised m b is_runs is_size is_kind other at low = record {
    live = record {
      owned = record { stream = o; number = m; lies = ap (λ (pr : ℕ). block_at pr (runs_in (stream_at u o)) (stream_kind o) m) u_per ∙ ap₂ (λ (x : List Run) (y : BlockKind). block_at 8 x y m) is_runs is_kind ∙ at };
      begins = subst (λ (y : BlockKind). 512 * (sectors y * m) < initialised_in (stream_at u o)) (sym is_kind) (subst (λ (j : ℕ). 512 * (sectors kind * m) < j) (sym is_size) low);
    };
    other = other;
  }

  record_at : IsRecord (IsPutAt n w) Begun u.table mirror n
  record_at = record {
    alone = ap (λ (y : Bool). y && ltb n (mirror.real / 1024)) (le-ltb n 4 high);
    goes = λ b at. put_at table_key FileRec u.table.runs n b table_w table_kind at (inl refl) (λ same two. (let above = high in omega (arith, above, two)));
    begun = λ b at begun.
        (let low : 1024 * n < u.table.initialised = leb-false u.table.initialised (1024 * n) begun in
        inr (judged_at table_key FileRec u.table.runs u.table.initialised n b table_u size_u table_kind (other_file table_key log_key (λ e. omega (arith, e))) at (omega (arith, low))));
  }

  bits_are : AreSectors (IsPutAt n w) Begun bitmap.runs (first_past bitmap)
  bits_are m b at = (
    put_at bitmap_key Plain bitmap.runs m b (others_runs bitmap_key no_bitmap ∙ ap runs_in k.marks.stream) bitmap_kind at (inr (inr (inr (inl refl)))) (λ same. absurd (other_file bitmap_key table_key (λ e. omega (arith, e)) same)),
    λ lt. inr (judged_at bitmap_key Plain bitmap.runs bitmap.initialised m b (ap runs_in k.marks.stream) (ap initialised_in k.marks.stream) bitmap_kind (other_file bitmap_key log_key (λ e. omega (arith, e))) at (omega (arith, lt))),
  )

  same_extents : z.extents ≡ blocks_behind u.per r runs size size
  same_extents = k.grows.longer.extents ∙ ap (λ (e : Extents). with_sizes (size_with more i.extents) (size_with more i.extents) (lengthened u.per (index_runs u.per bits more i) e)) (sym k.streams.before)

  fresh_are : (m : ℕ) (b : Block) → block_at u.per z.extents.runs Index m ≡ Some b → IsPutAt n w b × (has_spelling b.kind (zeros 4096) ≡ true)
  fresh_are m b at =
      let there : block_at 8 z.extents.runs Index m ≡ Some b = ap (λ (pr : ℕ). block_at pr z.extents.runs Index m) (sym u_per) ∙ at in (
        put_at (blocks_key n) Index z.extents.runs m b (now_is ∙ sym (ap (λ (e : Extents). e.runs) same_extents)) (blocks_kind n) there (inr (inr (inr (inr (inl refl))))) (λ same. absurd (blocks_differ n same)),
        ap (λ (y : BlockKind). has_spelling y (zeros 4096)) (sym (lies 8 z.extents.runs Index m b there).kind_is) ∙ zeros_spelled,
      )

  -- what was put before
  old_well : AllWell old
  old_well =
      each_as (λ (y : Touched). PutsWell v n u y × (y.block.kind ≢ Index)) (IsWell (IsPutAt n w) Begun) (λ y put. record { goes = moved y.block put.0.goes put.1; begun = λ begun. inl (put.0.begun begun); spelled = put.0.spelled }) old
      (both_of (PutsWell v n u) (λ (y : Touched). y.block.kind ≢ Index) old well.each no_index)
    where
      moved : (b : Block) → IsPutAt n u b → b.kind ≢ Index → IsPutAt n w b
      moved b at other =
          let no_blocks : at.own.stream ≢ blocks_key n = λ same. other (sym (lies u.per (runs_in (stream_at u at.own.stream)) (stream_kind at.own.stream) at.own.number b at.own.lies).kind_is ∙ ap stream_kind same ∙ blocks_kind n) in
          record { own = record { stream = at.own.stream; number = at.own.number; lies = ap (λ (l : List Run). block_at u.per l (stream_kind at.own.stream) at.own.number) (put_runs at.own.stream at.which no_blocks) ∙ at.own.lies }; which = at.which; second = at.second }

  abbrev first_block : ℕ
  first_block = blocks_in i.extents.initialised

  abbrev many : ℕ
  many = blocks_in size - first_block

  put_of : PutsIndex c 8 bitmap u.table mirror n z first_block many old new
  put_of = subst (λ (pr : ℕ). PutsIndex c pr bitmap u.table mirror n z first_block many old new) u_per k.grows.put

  fits : fits_room z.file ≡ Ok tt
  fits = subst (λ (y : Record). fits_room y ≡ Ok tt) (sym k.grows.longer.file) k.room

  all_well : AllWell new
  all_well =
      subst AllWell (sym put_of.1.1)
      (blocks_well (IsPutAt n w) Begun c 8 z.extents (zeros 4096) first_block many put_of.0 (λ m b at. fresh_are m b (ap (λ (pr : ℕ). block_at pr z.extents.runs Index m) u_per ∙ at))
      (resized_well (IsPutAt n w) Begun c bitmap u.table mirror n z old put_of.0 bits_are record_at (record_spelled record_body z.file (but_room_fits z.file k.grows.fits) fits) put_of.1.0 old_well))

  all_goes : GoesBehind old new
  all_goes =
      one_behind old put_of.0 new (resized_behind c bitmap u.table mirror n z old put_of.0 put_of.1.0)
      (subst (GoesBehind put_of.0) (sym put_of.1.1) (blocks_behind_them c 8 z.extents (zeros 4096) first_block many put_of.0))

  log_same : runs_in (stream_at u log_key) ≡ runs_in (stream_at v log_key)
  log_same = ap (λ (o : Option Record). runs_in (file_stream data_type [] o)) (well.others log_file (low_file log_file (omega arith)) (λ e. omega (arith, e)))

  each_put : AllByRecursion (PutsWell v n w) new
  each_put =
      each_as (λ (y : Touched). IsWell (IsPutAt n w) Begun y × (touched_at new y.block ≡ Some y)) (PutsWell v n w)
      (λ y put. record {
        goes = put.0.goes;
        begun = begun_since c g clusters v u before.bodies before.gave old eight state before.draft before.same (each_as (PutsWell v n u) (IsBegun v) (λ o was. was.begun) old well.each) log_same new before.kept.rises all_goes y put.1 put.0.begun;
        spelled = put.0.spelled;
      })
      new (both_of (IsWell (IsPutAt n w) Begun) (λ (y : Touched). touched_at new y.block ≡ Some y) new all_well (each_found 0 new is.0.rises))

  -- ---- attribute lists

  abbrev Put : Block → Type 0
  Put b = IsOwnedIn marks_streams u b ⊎ (block_at u.per u.table.runs FileRec n ≡ Some b) ⊎ IsFreshBlock u r (blocks_behind u.per r runs size size) b

  marks_file : (o : StreamKey) → marks_streams o ≡ true → o.file ≢ n × o ≢ table_key
  marks_file o chosen =
      let which = (and_parts (eqb o.file bitmap_file || eqb o.file mirror_file) (eqb o.kind data_type) (and_parts ((eqb o.file bitmap_file || eqb o.file mirror_file) && eqb o.kind data_type) _ chosen).0).0 in
      elim (or_cases (eqb o.file bitmap_file) (eqb o.file mirror_file) which) [
        | inl is_bits ↦ (let file = eqb-true o.file bitmap_file is_bits in (λ e. no_bitmap (sym file ∙ e), other_file o table_key (λ e. omega (arith, file, e))))
        | inr is_mirror ↦ (let file = eqb-true o.file mirror_file is_mirror in (λ e. low_file mirror_file (omega arith) (sym file ∙ e), other_file o table_key (λ e. omega (arith, file, e))))
      ]

  record_stays : (m : ℕ) (b : Block) → m ≢ n → block_at u.per u.table.runs FileRec m ≡ Some b → last b ≡ first b
  record_stays m b other at = ap (λ (y : Content). y b) (sym content) ∙ body_put first bodies b first_sized edit.whole ∙ by (body_in bodies b) refl
    where
      owner : (o : StreamKey) (j : ℕ) → block_at u.per (runs_in (stream_at w o)) (stream_kind o) j ≡ Some b → (table_key ≡ o) × (m ≡ j)
      owner o j there = one_owner w b stands_w.some once_w (record { stream = table_key; number = m; lies = ap₂ (λ (l : List Run) (y : BlockKind). block_at u.per l y m) table_w table_kind ∙ at }) (record { stream = o; number = j; lies = there })

      never : Put b → ⊥
      never (inl owned) =
          let file = marks_file owned.stream owned.chosen in
          file.1 (sym (owner owned.stream owned.number (ap (λ (l : List Run). block_at u.per l (stream_kind owned.stream) owned.number) (others_runs owned.stream file.0) ∙ owned.lies)).0)
      never (inr (inl its)) = other (owner table_key n (ap₂ (λ (l : List Run) (y : BlockKind). block_at u.per l y n) table_w table_kind ∙ its)).1
      never (inr (inr fresh_one)) = blocks_differ n (sym (owner (blocks_key n) fresh_one.number (ap₂ (λ (l : List Run) (y : BlockKind). block_at u.per l y fresh_one.number) now_is (blocks_kind n) ∙ fresh_one.lies)).0)

      by : (o : Option (List ℕ)) → body_in bodies b ≡ o → body_or (first b) (body_in bodies b) ≡ first b
      by None none = ap (body_or (first b)) none
      by (Some bytes) some = absurd (never (put_found Put bodies b edit.each (bytes, some)))

  records_same : (m : ℕ) → m ≢ n → SameRecordIn first last u.per u.table m
  records_same m other b at = record_stays m b other at.lies

  slot_n : table_slot last u.per u.table n ≡ Used q
  slot_n = ap (λ (y : Content). table_slot y u.per u.table n) (sym content) ∙ slot_put first u n q bodies edit.anew.block edit.anew.bytes first_sized edit.whole (table_begins first g clusters u n stands_u below) edit.anew.place edit.anew.put edit.anew.reads

  list_of : stream_at w (list_key n q) ≡ list_stream q
  unfolding list_stream
  list_of = ap (file_stream attribute_list (list_key n q).name) file_w

  lists_after : HasOwnLists last w
  unfolding file_at
  lists_after m y of_base =
      let at = slot_of_base last w m y of_base in
      elim (cases_eq m n) [
        | inl same ↦
            (let here : Used q ≡ Used y = sym slot_n ∙ ap (table_slot last u.per u.table) (sym same) ∙ at.1 in
            let equal : q ≡ y = cc in
            ap₂ (λ (j : ℕ) (o : Record). stream_at w (list_key j o)) same (sym equal) ∙ list_of ∙ ap list_stream equal)
        | inr other ↦
            (let slot : table_slot first u.per u.table m ≡ Used y = sym (same_slot first last u.per u.table m (records_same m other)) ∙ at.1 in
            let held : slots first u m ≡ Some y = slot_record first u m at.0 ∙ ap used_record slot in
            let of_u : base_record first u.per u.table m ≡ Some y = as_file (slots first u m) y held (is_base (slots last w m) y of_base) in
            ap (file_stream attribute_list (list_key m y).name) (others_w m other) ∙ well.lists m y of_u)
      ]

  -- ---- the table of upper-case units

  upper_same : SameUpper first last u
  upper_same = subst (λ (y : Content). SameUpper first y u) content leads.agrees.upper

  upper_of_file : upper_of last w ≡ upper_of last u
  unfolding upper_of
  upper_of_file = ap (λ (o : Option Record). table_or_standard (upcase_of (bytes_or last u.per (file_stream data_type [] o)))) (others_w upcase_file (λ same. k.apart.upcase (sym same)))

  pub grows_well : GrowsWell c v n w new
  grows_well = record {
    each = each_put;
    others = λ m other more_other. others_w m other ∙ well.others m other more_other;
    count = (let same = length-with_edits u.files edits in let so_far = well.count in omega (arith, same, so_far));
    table = λ same. others_w table_file (low_file table_file (omega arith)) ∙ well.table (sym (length-with_edits u.files edits) ∙ same);
    lists = lists_after;
    upper = upper_of_file ∙ same_upper first last u upper_same ∙ well.upper;
  }

pub index_grows_well : RecordIsBody → IndexGrowsWell
index_grows_well record_body c g clusters v bits bitmap mirror r i more growths u old new z eight state high before well no_index k = grows_well record_body c g clusters v bits bitmap mirror r i more growths u old new z eight state high before well no_index k
