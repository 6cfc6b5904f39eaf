-- A stream that got other sizes, with bytes, put into a draft, is an edit of a plan.
use Rattle.std.proofs.Common.{◌≡◌, ◌≢◌, ◌⊎◌, ℕ, ◌+◌, ◌-◌, ◌*◌, ◌/◌, ◌%◌, ◌<◌, ◌≤◌, max, Bool, true, false, ◌&&◌, cond, eqb, nat_eq, leb, List, [], ◌∷◌, ◌++◌, length, take, drop, get_or, Option, Some, refl, sym, ap, subst, ◌∙◌, inl, inr, arith}
use Rattle.std.specs.Prelude.{slice_index, nat_le, map}
use Rattle.std.specs.List.{AllByRecursion, list_all, range_with_len}
use Rattle.std.specs.Option.{option_or}
use Rattle.std.specs.Cmp.Lexicographic.{pointwise}
use Rattle.std.proofs.lemmas.Bool.{cases_lt, and_parts, and_from, both_ways, false_from_ne_true, eqb-true, eq-eqb, or_left, or_right, lt-leb, le-ltb}
use Rattle.std.proofs.lemmas.List.{ext_get_or, get_or_append_left, get_or-append_right, get_or-take, get_or-drop, length-take, length-drop, length-append}
use Rattle.std.proofs.lemmas.List.FromFn.{length-map-range_with_len, get_or-map-range_with_len}
use Rattle.disk_model.specs.declared.block.Block.{Block}
use Rattle.disk_model.specs.declared.block.BlockKind.{BlockKind}
use Rattle.disk_model.specs.declared.block.BlockKind.TheVariants.{Plain, FileRec, Index}
use Rattle.disk_model.specs.Bodies.{BodyOf}
use Rattle.disk_model.specs.Content.{Content}
use Rattle.disk_model.specs.Sectors.{sectors, same_block, overlap}
use Rattle.plan_values.specs.record_model.Constants.{index_allocation}
use Rattle.plan_values.specs.record_model.Records.{Record}
use Rattle.bit_set.specs.Bits.{bit}
use Rattle.plan_values.specs.state_model.declared.geometry.Geometry.{Geometry}
use Rattle.plan_values.specs.state_model.declared.stream.Extents.{Extents}
use Rattle.plan_values.specs.state_model.declared.stream.Stream.{Stream}
use Rattle.plan_values.specs.state_model.declared.stream.Stream.TheVariants.{Placed}
use Rattle.plan_values.specs.state_model.Loads.{total_clusters}
use Rattle.plan_values.specs.state_model.Streams.{block_at, byte_at, extent_bytes, sector_bytes}
use Rattle.plan_values.specs.volume_model.Volumes.{Volume, file_stream, bytes_or, cluster_bits}
use Rattle.plan_values.specs.volume_model.Sizes.{has_hole, lies_inside, has_sizes}
use Rattle.plan_values.specs.stream_laws.Owners.{holds_records, stream_kind}
use Rattle.plan_values.specs.stream_laws.Places.{AreOnce}
use Rattle.plan_values.specs.stream_laws.Sharing.{StreamKey, stream_at, runs_in}
use Rattle.plan_values.proofs.stream_laws.Sharing.{stream_once, stream_blocks_apart}
use Rattle.plan_values.proofs.stream_map.Reading.{kind-block_at}
use Rattle.plan_values.specs.plan_owners.States.{Stands}
use Rattle.plan_values.proofs.plan_owners.Outside.{once}
use Rattle.plan_values.specs.plan_bodies.Bodies.{NewBody, AreBodies, body_in, put_bodies, content_with}
use Rattle.plan_values.proofs.plan_bodies.Putting.{all_in_both, are_bodies as both_are, sized_with}
use Rattle.draft_resized.specs.plan_draft.declared.touched.Touched.{Touched}
use Rattle.draft_resized.specs.plan_draft.Touching.{bodies_of}
use Rattle.draft_resized.specs.plan_draft.Drafts.{drafted}
use Rattle.draft_resized.specs.plan_draft.Same.{PutSame}
use Rattle.draft_resized.specs.plan_draft.Writing.{present}
use Rattle.plan_values.specs.plan_model.Drafts.{IsPut}
use Rattle.plan_values.specs.plan_model.Edits.{IsOwnedIn}
use Rattle.plan_values.specs.plan_model.Informed.{with_record}
use Rattle.plan_values.specs.plan_model.Made.{ReadsAs}
use Rattle.plan_values.proofs.plan_model.Drafting.{per_is}
use Rattle.plan_values.proofs.plan_model.OneRecord.{OwnRecord, own_record}
use Rattle.draft_resized.specs.draft_streams.Parts.{first_sector, sector_count, touch_bytes}
use Rattle.draft_resized.specs.draft_streams.Effects.{HasOwnSectors, byte_put}
use Rattle.draft_resized.proofs.draft_streams.Effecting.{effects}
use Rattle.draft_resized.specs.draft_bits.Effects.{IsKept}
use Rattle.draft_resized.proofs.draft_bits.BitEffects.{byte_of, byte_there, drafted_same}
use Rattle.draft_resized.specs.draft_records.Records.{written_record}
use Rattle.plan_values.specs.resized_streams.declared.resized.Resized.{Resized}
use Rattle.plan_values.specs.resized_streams.Resizing.{with_sizes}
use Rattle.plan_values.specs.plan_growth.Streams.{key_of, marks_streams}
use Rattle.plan_values.specs.plan_growth.Sizing.{marks_and, CoversNew, SizesStream}
use Rattle.plan_values.proofs.plan_growth.Ruled.{stream_fits, sizes_lawful}
use Rattle.plan_values.proofs.plan_growth.Sizing.{sized_stream}
use Rattle.plan_edits.specs.Written.{IsInUse}
use Rattle.plan_edits.specs.Puts.{PutsBlocks, IsSectorOf, IsSectorWith}
use Rattle.plan_edits.specs.Edits.{bitmap_key}
use Rattle.plan_edits.specs.Moves.{EditsDraft}
use Rattle.plan_edits.specs.Records.{IsRecordEdit}
use Rattle.plan_edits.specs.Sizes.{SizesWith, SizesOfVolume, put_over, SizedIsEdit}
use Rattle.plan_edits.proofs.Reading.{written_read}
use Rattle.plan_edits.proofs.Putting.{Goes, bytes_go, content_goes, each_turned, found_in, joined_same}
use Rattle.plan_edits.proofs.Editing.{some_of}
use Rattle.plan_edits.proofs.Bitmap.{shares_itself, own_by, lies_by, in_total}
use Rattle.plan_edits.proofs.Moving.{none_in}
use Rattle.plan_edits.proofs.Recording.{record_edit, new_kept as record_kept, sectors_stay, bits_stay, no_sector}

-- ---- kinds and keys

plain_no_index : (t : StreamKey) → stream_kind t ≡ Plain → index_allocation ≢ t.kind
unfolding stream_kind
plain_no_index t plain same = by_test (holds_records t) (eqb t.kind index_allocation) (eq-eqb t.kind index_allocation (sym same)) plain
  where
    by_test : (x y : Bool) → y ≡ true → cond x FileRec (cond y Index Plain) ≡ Plain → ⊥
    by_test true y index is = absurd cc
    by_test false true index is = absurd cc
    by_test false false index is = absurd cc

name_itself : (name : List ℕ) → pointwise nat_eq name name ≡ true
name_itself [] = refl
name_itself (x ∷ name) = and_from (eqb x x) (pointwise nat_eq name name) (eq-eqb x x refl) (name_itself name)

-- ---- sectors in which bytes fall

-- a sector that begins below the end of so many bytes from a place on, and not before the one in which they begin, is among theirs
in_count : (m at n : ℕ) (t : Bool) → eqb n 0 ≡ t → at ≤ 512 * (1 * m) → 512 * (1 * m) < at + n → m < first_sector at + cond t 0 ((at + n + 511) / 512 - at / 512)
in_count m at n true none low high = (let empty : n ≡ 0 = eqb-true n 0 none in absurd (omega (arith, low, high, empty)))
in_count m at n false some low high = omega (arith, low, high)

-- ---- bytes

-- a byte of bytes that are put over others
before_them : (at : ℕ) (bytes old : List ℕ) (i : ℕ) → at ≤ length old → i < at → get_or (put_over at bytes old) i 0 ≡ get_or old i 0
before_them at bytes old i fits less =
    let long : length (take at old) ≡ at = length-take at old ∙ omega (arith, fits) in
    get_or_append_left (take at old) (bytes ++ drop (at + length bytes) old) 0 i (omega (arith, long, less)) ∙ get_or-take at old i 0 less

behind_front : (at : ℕ) (bytes old : List ℕ) (i : ℕ) → at ≤ length old → at ≤ i → get_or (put_over at bytes old) i 0 ≡ get_or (bytes ++ drop (at + length bytes) old) (i - at) 0
behind_front at bytes old i fits low =
    let long : length (take at old) ≡ at = length-take at old ∙ omega (arith, fits) in
    get_or-append_right (take at old) (bytes ++ drop (at + length bytes) old) at i 0 long low

among_them : (at : ℕ) (bytes old : List ℕ) (i : ℕ) → at ≤ length old → at ≤ i → i < at + length bytes → get_or (put_over at bytes old) i 0 ≡ get_or bytes (i - at) 0
among_them at bytes old i fits low high = behind_front at bytes old i fits low ∙ get_or_append_left bytes (drop (at + length bytes) old) 0 (i - at) (omega (arith, low, high))

behind_them : (at : ℕ) (bytes old : List ℕ) (i : ℕ) → at ≤ length old → at + length bytes ≤ i → get_or (put_over at bytes old) i 0 ≡ get_or old i 0
behind_them at bytes old i fits past =
    let rest : at + length bytes + (i - at - length bytes) ≡ i = omega (arith, past) in
    behind_front at bytes old i fits (omega (arith, past))
    ∙ get_or-append_right bytes (drop (at + length bytes) old) (length bytes) (i - at) 0 refl (omega (arith, past))
    ∙ get_or-drop (at + length bytes) old (i - at - length bytes) 0
    ∙ ap (λ (k : ℕ). get_or old k 0) rest

pub length-put_over : (at : ℕ) (bytes old : List ℕ) → at ≤ length old → length (put_over at bytes old) ≡ max (length old) (at + length bytes)
length-put_over at bytes old fits =
    let front = length-take at old in
    let rest = length-drop (at + length bytes) old in
    let all = length-append (take at old) (bytes ++ drop (at + length bytes) old) in
    let two = length-append bytes (drop (at + length bytes) old) in
    omega (arith, fits, front, rest, all, two)

-- a byte past the initialised size
past_all : (c : Content) (per : ℕ) (e : Extents) (i : ℕ) → e.initialised ≤ i → byte_at c per e i ≡ 0
unfolding byte_at
past_all c per e i past = ap (λ (t : Bool). cond t (slice_index (sector_bytes c (block_at per e.runs Plain (i / 512))) (i % 512)) 0) (le-ltb i e.initialised past)

module _ (c : Content) (g : Geometry) (clusters : ℕ) (v : Volume) (mirror : Extents) (n kind : ℕ) (name : List ℕ) (e : Extents) (r : Record) (real initialised : ℕ) (z : Resized) (fresh at : ℕ) (bytes : List ℕ) (old new : List Touched) (state : Stands (drafted old c) g clusters v)
    (k : SizesWith v n kind name e r real initialised z at (length bytes)) (is : SizesOfVolume c v mirror n z fresh at bytes old new) where
  abbrev d : Content
  d = drafted old c

  abbrev mid : List Touched
  mid = is.mid

  abbrev s : Record
  s = written_record z.file

  abbrev key : StreamKey
  key = key_of n kind name

  -- ---- the file

  its_own : OwnRecord d v n r
  its_own = own_record d g clusters v n r state k.own.file k.own.no_list

  used : IsInUse z.file
  used = subst IsInUse (sym k.sized.file) (written_read.placed v.per kind name (with_sizes real initialised e) r k.spelled (written_read.used d v.per v.table n r its_own.slot))

  edit : IsRecordEdit c v n z.file old mid
  edit = record_edit.edit c g clusters v mirror n r z.file old mid state k.own.file k.own.no_list used is.file

  mid_kept : IsKept mid
  mid_kept = record_kept c v mirror n z.file old mid is.file

  put : new ≡ touch_bytes c v.per e.runs fresh at bytes mid
  put = is.put ∙ ap (λ (f : Extents). touch_bytes c v.per f.runs fresh at bytes mid) k.sized.extents

  goes : Goes (IsSectorOf v.per e.runs) (IsSectorWith v.per e.runs at (length bytes)) mid new
  goes = subst (Goes (IsSectorOf v.per e.runs) (IsSectorWith v.per e.runs at (length bytes)) mid) (sym put) (bytes_go c v.per e.runs fresh at bytes mid is.file.sized mid_kept)

  abbrev puts : PutsBlocks (IsSectorOf v.per e.runs) (IsSectorWith v.per e.runs at (length bytes)) mid new
  puts = goes.blocks

  abbrev bodies : List NewBody
  bodies = put_bodies puts.bodies edit.bodies

  whole : AreBodies bodies
  whole = both_are edit.bodies puts.bodies edit.puts.whole puts.whole

  same : PutSame (bodies_of new) (put_bodies bodies (bodies_of old))
  same = joined_same edit.bodies puts.bodies old mid new edit.puts.whole puts.whole edit.edits.same puts.same

  content : content_with d bodies ≡ drafted new c
  content = content_goes c bodies old new is.file.sized is.file.kept goes.kept whole same

  -- ---- what is put

  stream_was : stream_at v key ≡ Some (Placed e)
  stream_was = ap (file_stream kind name) k.own.file ∙ k.own.stream

  lies_in : (b : Block) (m : ℕ) → block_at v.per e.runs Plain m ≡ Some b → block_at v.per (runs_in (stream_at v key)) Plain m ≡ Some b
  lies_in b m there = ap (λ (o : Option Stream). block_at v.per (runs_in o) Plain m) stream_was ∙ there

  abbrev goes_to : Block → Type 0
  goes_to b = IsOwnedIn (marks_and n kind name) v b ⊎ (block_at v.per v.table.runs FileRec n ≡ Some b)

  as_mark : (b : Block) → IsOwnedIn marks_streams v b ⊎ (block_at v.per v.table.runs FileRec n ≡ Some b) → goes_to b
  as_mark b (inl owned) = inl (record { stream = owned.stream; chosen = or_left (marks_streams owned.stream) _ owned.chosen; number = owned.number; lies = owned.lies })
  as_mark b (inr its) = inr its

  as_own : (b : Block) → IsSectorOf v.per e.runs b → goes_to b
  as_own b lies =
      inl
      (record {
        stream = key;
        chosen = or_right (marks_streams key) (eqb n n && eqb kind kind && pointwise nat_eq name name) (and_from (eqb n n && eqb kind kind) (pointwise nat_eq name name) (and_from (eqb n n) (eqb kind kind) (eq-eqb n n refl) (eq-eqb kind kind refl)) (name_itself name));
        number = lies.0;
        lies = ap (λ (x : BlockKind). block_at v.per (runs_in (stream_at v key)) x lies.0) k.plain ∙ lies_in b lies.0 lies.1;
      })

  each : AllByRecursion (λ q. goes_to q.block) bodies
  each =
      all_in_both (λ q. goes_to q.block) edit.bodies puts.bodies (each_turned (λ b. IsOwnedIn marks_streams v b ⊎ (block_at v.per v.table.runs FileRec n ≡ Some b)) goes_to edit.bodies as_mark edit.puts.each)
      (each_turned (IsSectorOf v.per e.runs) goes_to puts.bodies as_own puts.each)

  anew : ReadsAs v bodies n s
  anew =
      let file = edit.puts.anew in
      record {
        block = file.block;
        place = file.place;
        bytes = file.bytes;
        put =
            found_in edit.bodies puts.bodies file.block puts.whole
            ∙ ap (λ (o : Option (List ℕ)). option_or o (body_in edit.bodies file.block)) (none_in v.per e.runs puts.bodies file.block puts.each (no_sector v.per e.runs v.table.runs n file.block file.place))
            ∙ file.put;
        reads = file.reads;
      }

  put_there : (b : Block) → IsPut puts.bodies b → IsPut bodies b
  put_there b there = (there.0, found_in edit.bodies puts.bodies b puts.whole ∙ ap (λ (o : Option (List ℕ)). option_or o (body_in edit.bodies b)) there.1)

  covers : CoversNew v key e initialised bodies
  covers m b lies old_end new_end =
      let there : block_at v.per e.runs Plain m ≡ Some b = ap (λ (x : BlockKind). block_at v.per e.runs x m) (sym k.plain) ∙ lies in
      let low : e.initialised ≤ 512 * (1 * m) = subst (λ (x : BlockKind). e.initialised ≤ 512 * (sectors x * m)) k.plain old_end in
      let high : 512 * (1 * m) < initialised = subst (λ (x : BlockKind). 512 * (sectors x * m) < initialised) k.plain new_end in
      let begins = k.begins in
      let reaches = k.reaches in
      put_there b (puts.put b (m, (omega (arith, low, begins), in_count m at (length bytes) (eqb (length bytes) 0) refl (omega (arith, low, begins)) (omega (arith, low, high, reaches)), there)))

  -- ---- the bits

  differ : bitmap_key ≢ key
  differ alike = k.own.apart.bitmap (sym (ap (λ (t : StreamKey). t.file) alike))

  untouched : (b : Block) (m : ℕ) → block_at v.per (runs_in (stream_at v bitmap_key)) Plain m ≡ Some b → body_in (bodies_of new) b ≡ body_in (bodies_of mid) b
  untouched b m there =
      ap (λ (t : List Touched). body_in (bodies_of t) b) put
      ∙ effects.others c v.per e.runs fresh at bytes mid b (λ t a low high lies.
      false_from_ne_true (same_block b a) (λ one.
      both_ways (overlap b a) (stream_blocks_apart v bitmap_key key Plain Plain m t b a state.some (once d g clusters v state) differ there (lies_in a t lies)) (shares_itself b a one)))

  marked : (x : ℕ) → x < v.clusters → bit (cluster_bits (content_with d bodies) v) x ≡ bit (cluster_bits d v) x
  marked x low =
      ap (λ (l : List Bool). bit l x)
      (ap (λ (y : Content). cluster_bits y v) content
      ∙ bits_stay c v mid new is.file.sized mid_kept goes.kept untouched
      ∙ sym (ap (λ (y : Content). cluster_bits y v) edit.edits.content)
      ∙ edit.marked)

  sizes : SizesStream d v n kind name e r real initialised z s bodies
  sizes = record {
    own = k.own;
    no_index = plain_no_index key k.plain;
    spelled = k.spelled;
    sized = k.sized;
    lawful = k.lawful;
    room = k.room;
    written = written_read.written z.file;
    puts = record { whole = whole; anew = anew; each = each };
    covers = covers;
    marked = marked;
  }

  sized_is : (all : List NewBody) × (EditsDraft c old new all × SizesStream d v n kind name e r real initialised z s all)
  sized_is = (bodies, (record { same = same; content = content }, sizes))

  -- ---- the bytes of the stream

  abbrev f : Extents
  f = with_sizes real initialised e

  own : HasOwnSectors v.per e.runs
  own = own_by v.per e.runs state.some (subst (λ (o : Option Stream). AreOnce (runs_in o)) stream_was (stream_once v key (once d g clusters v state)))

  abbrev after : Content
  after = drafted new c

  -- what the record puts spares the sectors
  record_keeps : (i : ℕ) (b : Block) → i < e.initialised → block_at v.per e.runs Plain (i / 512) ≡ Some b → byte_at (drafted mid c) v.per e i ≡ byte_at d v.per e i
  record_keeps i b below lies =
      byte_of (drafted mid c) v.per e i (Some b) below lies
      ∙ ap (λ (x : BodyOf). slice_index x.bytes (i % 512)) (drafted_same c old mid b is.file.sized is.file.kept mid_kept (sectors_stay c v mirror n z.file old mid is.file b (kind-block_at v.per e.runs Plain (i / 512) b (sym lies))))
      ∙ sym (byte_of d v.per e i (Some b) below lies)

  -- a byte beside those that are put, in one of their sectors and in another one
  near : (i : ℕ) (b : Block) → e.initialised ≤ 512 * fresh → i < e.initialised → e.initialised ≤ initialised → block_at v.per e.runs Plain (i / 512) ≡ Some b → first_sector at ≤ i / 512 → i / 512 < first_sector at + sector_count at (length bytes) → (i < at) ⊎ (at + length bytes ≤ i)
      → byte_at after v.per f i ≡ byte_at (drafted mid c) v.per e i
  near i b no_fresh below more lies low high out =
      let live : nat_le fresh (i / 512) ≡ false = lt-leb fresh (i / 512) (omega (arith, below, no_fresh)) in
      byte_there c v.per f new b i (slice_index (drafted mid c b).bytes (i % 512)) is.file.sized goes.kept (omega (arith, below, more)) lies
      (subst (λ (t : List Touched). byte_put t b i (slice_index (drafted mid c b).bytes (i % 512))) (sym put)
      (subst (λ (t : Bool). byte_put (touch_bytes c v.per e.runs fresh at bytes mid) b i (slice_index (present c (bodies_of mid) b t) (i % 512))) live
      (effects.beside c v.per e.runs fresh at i bytes mid b is.file.sized mid_kept.rises mid_kept.whole own lies low high out)))
      ∙ sym (byte_of (drafted mid c) v.per e i (Some b) below lies)

  far : (i : ℕ) (b : Block) → i < e.initialised → e.initialised ≤ initialised → block_at v.per e.runs Plain (i / 512) ≡ Some b → ((t : ℕ) → first_sector at ≤ t → t < first_sector at + sector_count at (length bytes) → i / 512 ≢ t) → byte_at after v.per f i ≡ byte_at (drafted mid c) v.per e i
  far i b below more lies apart =
      let same_body : body_in (bodies_of new) b ≡ body_in (bodies_of mid) b =
      ap (λ (t : List Touched). body_in (bodies_of t) b) put ∙ effects.others c v.per e.runs fresh at bytes mid b (λ t a low high there. own (i / 512) t b a (apart t low high) lies there)
      in
      byte_of after v.per f i (Some b) (omega (arith, below, more)) lies
      ∙ ap (λ (x : BodyOf). slice_index x.bytes (i % 512)) (drafted_same c mid new b is.file.sized mid_kept goes.kept same_body)
      ∙ sym (byte_of (drafted mid c) v.per e i (Some b) below lies)

  beside : (i : ℕ) (b : Block) → e.initialised ≤ 512 * fresh → i < e.initialised → e.initialised ≤ initialised → block_at v.per e.runs Plain (i / 512) ≡ Some b → (i < at) ⊎ (at + length bytes ≤ i) → byte_at after v.per f i ≡ byte_at d v.per e i
  beside i b no_fresh below more lies out = elim (cases_lt (i / 512) (first_sector at)) [
    | inl less ↦ far i b below more lies (λ t low high alike. absurd (omega (arith, less, low, alike)))
    | inr ge ↦ elim (cases_lt (i / 512) (first_sector at + sector_count at (length bytes))) [
      | inl within ↦ near i b no_fresh below more lies ge within out
      | inr past ↦ far i b below more lies (λ t low high alike. absurd (omega (arith, past, high, alike)))
    ]
  ] ∙ record_keeps i b below lies

  -- a byte that is put
  inside : (i : ℕ) (b : Block) → i < initialised → block_at v.per e.runs Plain (i / 512) ≡ Some b → at ≤ i → i < at + length bytes → byte_at after v.per f i ≡ slice_index bytes (i - at)
  inside i b below lies low high =
      byte_there c v.per f new b i (slice_index bytes (i - at)) is.file.sized goes.kept below lies
      (subst (λ (t : List Touched). byte_put t b i (slice_index bytes (i - at))) (sym put) (effects.inside c v.per e.runs fresh at i bytes mid b is.file.sized mid_kept.rises mid_kept.whole own lies low high))

  -- where the sectors lie
  real_fits : real ≤ total_clusters e.runs * (512 * v.per)
  real_fits =
      let parts = and_parts (list_all (lies_inside v.clusters) e.runs) (has_sizes v.per e) (stream_fits d g clusters v n kind name r (Placed e) state k.own) in
      let allocated = eqb-true e.allocated (total_clusters e.runs * (512 * v.per)) (and_parts (leb e.initialised e.real && leb e.real e.allocated) (eqb e.allocated (total_clusters e.runs * (512 * v.per))) parts.1).1 in
      subst (λ (x : ℕ). real ≤ x) allocated k.room

  was_lawful : e.initialised ≤ e.real
  was_lawful = (sizes_lawful v.per v.clusters e (stream_fits d g clusters v n kind name r (Placed e) state k.own)).0

  lies_at : g.per_cluster ≡ 8 → has_hole (Some (Placed e)) ≡ false → (i : ℕ) → i < real → (b : Block) × (block_at v.per e.runs Plain (i / 512) ≡ Some b)
  lies_at eight no_hole i low =
      some_of (block_at v.per e.runs Plain (i / 512)) (lies_by v.per (i / 512) e.runs k.spelled no_hole (in_total v.per (total_clusters e.runs) real (i / 512) (per_is d g clusters v eight state) real_fits (omega (arith, low))))

  abbrev was : List ℕ
  was = map (byte_at d v.per e) (range_with_len 0 e.real)

  was_long : length was ≡ e.real
  was_long = length-map-range_with_len (byte_at d v.per e) 0 e.real

  was_at : (i : ℕ) → i < e.real → get_or was i 0 ≡ byte_at d v.per e i
  was_at i low = get_or-map-range_with_len (byte_at d v.per e) 0 e.real i i 0 low (omega arith)

  fits : at ≤ length was
  fits = (let begins = k.begins in let lawful = was_lawful in let long = was_long in omega (arith, begins, lawful, long))

  module _ (eight : g.per_cluster ≡ 8) (no_hole : has_hole (Some (Placed e)) ≡ false) (no_fresh : e.initialised ≤ 512 * fresh) (initialised_is : initialised ≡ max e.initialised (at + length bytes)) (real_is : real ≡ max e.real (at + length bytes)) where
    -- behind the bytes
    rest : (i : ℕ) → i < real → at + length bytes ≤ i → byte_at after v.per f i ≡ byte_at d v.per e i
    rest i low past = elim (cases_lt i e.initialised) [
      | inl below ↦ (let b = lies_at eight no_hole i low in beside i b.0 no_fresh below (omega (arith, initialised_is)) b.1 (inr past))
      | inr behind ↦ past_all after v.per f i (omega (arith, initialised_is, past, behind)) ∙ sym (past_all d v.per e i behind)
    ]

    one_byte : (i : ℕ) → i < real → byte_at after v.per f i ≡ get_or (put_over at bytes was) i 0
    one_byte i low =
        let begins = k.begins in
        let lawful = was_lawful in
        let b = lies_at eight no_hole i low in
        elim (cases_lt i at) [
          | inl before ↦ beside i b.0 no_fresh (omega (arith, before, begins)) (omega (arith, initialised_is)) b.1 (inl before) ∙ sym (before_them at bytes was i fits before ∙ was_at i (omega (arith, before, begins, lawful)))
          | inr ge ↦ elim (cases_lt i (at + length bytes)) [
            | inl within ↦ inside i b.0 (omega (arith, initialised_is, within)) b.1 ge within ∙ sym (among_them at bytes was i fits ge within)
            | inr past ↦ rest i low past ∙ sym (behind_them at bytes was i fits past ∙ was_at i (omega (arith, real_is, low, past)))
          ]
        ]

    all_bytes : map (byte_at after v.per f) (range_with_len 0 real) ≡ put_over at bytes was
    all_bytes =
        let long = length-map-range_with_len (byte_at after v.per f) 0 real in
        let whole_long = length-put_over at bytes was fits in
        let old_long = was_long in
        ext_get_or 0 (map (byte_at after v.per f) (range_with_len 0 real)) (put_over at bytes was) (omega (arith, long, whole_long, old_long, real_is))
        (λ i lt. get_or-map-range_with_len (byte_at after v.per f) 0 real i i 0 (omega (arith, lt, long)) (omega arith) ∙ one_byte i (omega (arith, lt, long)))

    bytes_are : bytes_or after v.per (stream_at (with_record v n s) key) ≡ put_over at bytes (bytes_or d v.per (stream_at v key))
    unfolding extent_bytes
    bytes_are =
        ap (bytes_or after v.per) (sized_stream d g clusters v n kind name e r real initialised z s bodies (sized_with c (bodies_of old) is.file.sized) eight state sizes)
        ∙ ap (λ (x : Extents). map (byte_at after v.per x) (range_with_len 0 x.real)) k.sized.extents
        ∙ all_bytes
        ∙ sym (ap (λ (o : Option Stream). put_over at bytes (bytes_or d v.per o)) stream_was)

pub sized_edit : SizedIsEdit
sized_edit = record {
  edit = sized_is;
  bytes = λ c g clusters v mirror n kind name e r real initialised z fresh at bytes old new eight state k is no_hole no_fresh initialised_is real_is. bytes_are c g clusters v mirror n kind name e r real initialised z fresh at bytes old new state k is eight no_hole no_fresh initialised_is real_is;
}
