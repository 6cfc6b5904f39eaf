-- What a draft has put of a directory whose index gets more blocks is the edit of a plan.
use Rattle.std.proofs.Common.{◌≡◌, ◌≢◌, ◌⊎◌, ℕ, ◌*◌, ◌/◌, ◌<◌, ◌≤◌, Bool, true, false, ◌||◌, cond, eqb, leb, nat_eq, List, [], ◌∷◌, Option, Some, None, refl, sym, ap, ap₂, subst, ◌∙◌, inl, inr, arith}
use Rattle.std.specs.List.{AllByRecursion}
use Rattle.std.specs.Option.{option_or}
use Rattle.std.specs.Cmp.Lexicographic.{pointwise}
use Rattle.std.proofs.lemmas.Bool.{cases_lt, and_parts, and_left, and_right, ne_eqb, eqb-true}
use Rattle.disk_model.specs.declared.block.Block.{Block}
use Rattle.disk_model.specs.declared.block.Body.{Body}
use Rattle.disk_model.specs.declared.block.BlockKind.{BlockKind}
use Rattle.disk_model.specs.declared.block.BlockKind.TheVariants.{Plain, FileRec, Index}
use Rattle.disk_model.specs.Sectors.{sectors, same_kind, same_block}
use Rattle.disk_model.specs.Content.{Content, HasSizes}
use Rattle.record_model.specs.declared.runs.Run.{Run}
use Rattle.record_model.specs.Constants.{data_type, index_allocation, names_index}
use Rattle.record_model.specs.Records.{Record}
use Rattle.bit_set.specs.Bits.{bit}
use Rattle.state_model.specs.declared.geometry.Geometry.{Geometry}
use Rattle.state_model.specs.declared.stream.Extents.{Extents}
use Rattle.state_model.specs.declared.stream.Stream.{Stream}
use Rattle.state_model.specs.declared.stream.Stream.TheVariants.{Held, Placed}
use Rattle.state_model.specs.Loads.{extents_or}
use Rattle.state_model.specs.Streams.{block_at}
use Rattle.volume_model.specs.Indexes.{void_block, index_stream}
use Rattle.volume_model.specs.Owners.{uses}
use Rattle.volume_model.specs.Volumes.{Volume, file_stream, cluster_bitmap, cluster_bits}
use Rattle.stream_laws.specs.Frames.{SameBytesInSome}
use Rattle.stream_laws.specs.Owners.{holds_records, stream_kind}
use Rattle.stream_laws.specs.Sharing.{StreamKey, stream_at, runs_in}
use Rattle.stream_laws.proofs.Loading.{same_cluster_bits}
use Rattle.stream_laws.proofs.Placing.{lies, lies_in_used, unused}
use Rattle.stream_laws.proofs.Sharing.{stream_of_volume}
use Rattle.plan_owners.specs.States.{Stands}
use Rattle.plan_owners.proofs.Outside.{unused_outside}
use Rattle.plan_bodies.specs.Bodies.{NewBody, AreBodies, body_in, body_or, put_bodies, content_with}
use Rattle.plan_bodies.proofs.Putting.{body_put, sized_with, all_in_both, are_bodies as both_are}
use Rattle.plan_edits.specs.plan_model.Drafts.{IsPut}
use Rattle.plan_edits.specs.plan_model.Edits.{IsOwnedIn}
use Rattle.plan_edits.specs.plan_model.Made.{ReadsAs}
use Rattle.plan_edits.proofs.plan_model.Drafting.{per_is}
use Rattle.plan_edits.proofs.plan_model.Rewriting.{itself}
use Rattle.plan_draft.specs.declared.touched.Touched.{Touched}
use Rattle.plan_draft.specs.Touching.{bodies_of}
use Rattle.plan_draft.specs.Drafts.{drafted}
use Rattle.plan_draft.specs.Same.{PutSame}
use Rattle.draft_bits.specs.Effects.{IsKept}
use Rattle.plan_edits.specs.draft_records.Records.{written_record}
use Rattle.plan_edits.specs.resized_streams.declared.resized.Resized.{Resized}
use Rattle.plan_edits.specs.plan_growth.Streams.{marks_streams}
use Rattle.plan_edits.proofs.plan_growth.Growing.{uses-grown}
use Rattle.plan_edits.specs.Edits.{IsEdit}
use Rattle.plan_edits.specs.Moves.{EditsDraft}
use Rattle.plan_edits.specs.Puts.{PutsBlocks}
use Rattle.plan_edits.proofs.Reading.{written_read}
use Rattle.plan_edits.proofs.Putting.{each_turned, found_in, joined_same, content_goes}
use Rattle.plan_edits.proofs.Editing.{only_came}
use Rattle.plan_blocks.specs.Blocks.{blocks_before, blocks_behind, IsFreshBlock, GrowsIndex}
use Rattle.plan_blocks.specs.Drafted.{MakesIndex, IsBegunBlock, IndexIsEdit}
use Rattle.plan_blocks.specs.Levels.{is_index_root, PutsRooted}
use Rattle.plan_blocks.specs.Rooted.{MakesRooted, RootedIsEdit}
use Rattle.plan_blocks.proofs.Making.{has_blocks}

-- ---- kinds of blocks

not_same_kind : (a b : BlockKind) → a ≢ Index → Index ≡ b → same_kind a b ≡ false
not_same_kind Plain Plain other is = absurd cc
not_same_kind Plain FileRec other is = absurd cc
not_same_kind Plain Index other is = refl
not_same_kind FileRec Plain other is = absurd cc
not_same_kind FileRec FileRec other is = absurd cc
not_same_kind FileRec Index other is = refl
not_same_kind Index b other is = absurd (other refl)

index_not : (b : BlockKind) → b ≢ Index → same_kind Index b ≡ false
index_not Plain other = refl
index_not FileRec other = refl
index_not Index other = absurd (other refl)

-- the blocks of data are none of an index
marks_kind : (t : StreamKey) → marks_streams t ≡ true → stream_kind t ≢ Index
unfolding stream_kind
marks_kind t mark = two_kinds (holds_records t) (eqb t.kind index_allocation) (ne_eqb t.kind index_allocation (λ e. omega (arith, e, data_is)))
  where
    data_is : t.kind ≡ data_type
    data_is = eqb-true t.kind data_type (and_parts _ (eqb t.kind data_type) (and_parts _ (pointwise nat_eq t.name []) mark).0).1

    two_kinds : (x y : Bool) → y ≡ false → cond x FileRec (cond y Index Plain) ≢ Index
    two_kinds true y no_index is = absurd cc
    two_kinds false true no_index is = absurd cc
    two_kinds false false no_index is = absurd cc

pub runs_are : (o : Option Stream) → runs_in o ≡ (extents_or o).runs
runs_are None = refl
runs_are (Some (Held value)) = refl
runs_are (Some (Placed e)) = refl

module _ (c : Content) (g : Geometry) (clusters : ℕ) (v : Volume) (n : ℕ) (r : Record) (more : List Run) (real initialised : ℕ) (q : Record) (z : Resized) (old mid new : List Touched) (sized : HasSizes c) (eight : g.per_cluster ≡ 8) (old_kept : IsKept old) (new_kept : IsKept new)
    (sized_before : HasSizes (drafted old c)) (state : Stands (drafted old c) g clusters v) (k : MakesRooted (drafted old c) v n r more real initialised q z) (edit : IsEdit c v n z old mid) (blocks : PutsBlocks (IsFreshBlock v r (blocks_behind v.per r more real initialised)) (IsBegunBlock v r (blocks_behind v.per r more real initialised)) mid new) where
  abbrev d : Content
  d = drafted old c

  abbrev s : Record
  s = written_record z.file

  abbrev e : Extents
  e = blocks_before r

  abbrev f : Extents
  f = blocks_behind v.per r more real initialised

  abbrev bodies : List NewBody
  bodies = put_bodies blocks.bodies edit.bodies

  per_8 : v.per ≡ 8
  per_8 = per_is d g clusters v eight state

  whole : AreBodies bodies
  whole = both_are edit.bodies blocks.bodies edit.puts.whole blocks.whole

  same : PutSame (bodies_of new) (put_bodies bodies (bodies_of old))
  same = joined_same edit.bodies blocks.bodies old mid new edit.puts.whole blocks.whole edit.same blocks.same

  content : content_with d bodies ≡ drafted new c
  content = content_goes c bodies old new sized old_kept new_kept whole same

  -- ---- blocks of other kinds

  fresh_kind : (b : Block) → IsFreshBlock v r f b → Index ≡ b.kind
  fresh_kind b fresh = (lies v.per f.runs Index fresh.number b fresh.lies).kind_is

  none_there : (rest : List NewBody) (b : Block) → b.kind ≢ Index → AllByRecursion (λ p. IsFreshBlock v r f p.block) rest → body_in rest b ≡ None
  none_there [] b other each = refl
  none_there (p ∷ rest) b other each =
      let apart : same_block b p.block ≡ false = and_right (eqb b.first p.block.first) (same_kind b.kind p.block.kind) (not_same_kind b.kind p.block.kind other (fresh_kind p.block each.0)) in
      ap (λ (t : Bool). cond t (Some p.bytes) (body_in rest b)) apart ∙ none_there rest b other each.1

  as_before : (b : Block) → b.kind ≢ Index → body_in bodies b ≡ body_in edit.bodies b
  as_before b other = found_in edit.bodies blocks.bodies b blocks.whole ∙ ap (λ (o : Option (List ℕ)). option_or o (body_in edit.bodies b)) (none_there blocks.bodies b other blocks.each)

  same_body : (b : Block) → b.kind ≢ Index → content_with d bodies b ≡ content_with d edit.bodies b
  same_body b other = body_put d bodies b sized_before whole ∙ ap (body_or (d b)) (as_before b other) ∙ sym (body_put d edit.bodies b sized_before edit.puts.whole)

  anew : ReadsAs v bodies n s
  anew =
      let file = edit.puts.anew in
      let kind : FileRec ≡ file.block.kind = (lies v.per v.table.runs FileRec n file.block file.place).kind_is in
      record { block = file.block; place = file.place; bytes = file.bytes; put = as_before file.block (λ is. (let never : FileRec ≡ Index = kind ∙ is in absurd cc)) ∙ file.put; reads = file.reads }

  -- ---- the block past the end of every disk

  before_end : (rest : List NewBody) → AllByRecursion (λ p. IsOwnedIn marks_streams v p.block ⊎ (block_at v.per v.table.runs FileRec n ≡ Some p.block)) rest → body_in rest void_block ≡ None
  before_end [] each = refl
  before_end (p ∷ rest) each =
      let apart : same_block void_block p.block ≡ false = and_right (eqb void_block.first p.block.first) (same_kind Index p.block.kind) (index_not p.block.kind (not_index p.block each.0)) in
      ap (λ (t : Bool). cond t (Some p.bytes) (body_in rest void_block)) apart ∙ before_end rest each.1
    where
      not_index : (b : Block) → IsOwnedIn marks_streams v b ⊎ (block_at v.per v.table.runs FileRec n ≡ Some b) → b.kind ≢ Index
      not_index b (inl owned) is = marks_kind owned.stream owned.chosen ((lies v.per (runs_in (stream_at v owned.stream)) (stream_kind owned.stream) owned.number b owned.lies).kind_is ∙ is)
      not_index b (inr its) is = (let never : FileRec ≡ Index = (lies v.per v.table.runs FileRec n b its).kind_is ∙ is in absurd cc)

  runs_were : runs_in (stream_at v (record { file = n; kind = index_allocation; name = names_index })) ≡ e.runs
  unfolding index_stream
  runs_were = ap (λ o. runs_in (file_stream index_allocation names_index o)) k.file ∙ runs_are (index_stream r)

  -- clusters past the end of the volume are in none of the runs
  none_past : (x : ℕ) → v.clusters ≤ x → uses f.runs x ≡ 0
  none_past x past =
      let sum = uses-grown e.runs more x in
      let none_more = unused v.clusters x more k.taken.inside past in
      let none_had = unused_outside d g clusters v x state past in
      let some_of = stream_of_volume v (record { file = n; kind = index_allocation; name = names_index }) x in
      let had : uses (runs_in (stream_at v (record { file = n; kind = index_allocation; name = names_index }))) x ≡ uses e.runs x = ap (λ (l : List Run). uses l x) runs_were in
      omega (arith, sum, none_more, none_had, some_of, had)

  ends_before : (b : Block) → IsFreshBlock v r f b → void_block.first ≢ b.first
  ends_before b fresh same_first =
      let kind = fresh_kind b fresh in
      let sectors_are : sectors b.kind ≡ 8 = ap sectors (sym kind) in
      let some : 0 < v.per = omega (arith, per_8) in
      let used = lies_in_used v.per f.runs Index fresh.number b some fresh.lies b.first (omega arith, omega (arith, sectors_are)) in
      let low : b.first / v.per < v.clusters = elim (cases_lt (b.first / v.per) v.clusters) [
        | inl is ↦ is
        | inr past ↦ (let none = none_past (b.first / v.per) past in absurd (omega (arith, none, used)))
      ] in
      let below : b.first < 8 * v.clusters = subst (λ (p : ℕ). b.first / p < v.clusters → b.first < 8 * v.clusters) (sym per_8) (λ is. omega (arith, is)) low in
      let ends = k.ends in
      omega (arith, below, ends, same_first)

  fresh_before : (rest : List NewBody) → AllByRecursion (λ p. IsFreshBlock v r f p.block) rest → body_in rest void_block ≡ None
  fresh_before [] each = refl
  fresh_before (p ∷ rest) each =
      let apart : same_block void_block p.block ≡ false = and_left (eqb void_block.first p.block.first) (same_kind Index p.block.kind) (ne_eqb void_block.first p.block.first (ends_before p.block each.0)) in
      ap (λ (t : Bool). cond t (Some p.bytes) (body_in rest void_block)) apart ∙ fresh_before rest each.1

  void : body_in bodies void_block ≡ None
  void =
      found_in edit.bodies blocks.bodies void_block blocks.whole
      ∙ ap₂ (λ (o x : Option (List ℕ)). option_or o x) (fresh_before blocks.bodies blocks.each) (before_end edit.bodies edit.puts.each)

  -- ---- what is put

  abbrev goes_to : Block → Type 0
  goes_to b = IsOwnedIn marks_streams v b ⊎ (block_at v.per v.table.runs FileRec n ≡ Some b) ⊎ IsFreshBlock v r (blocks_behind v.per r more real initialised) b

  as_file : (b : Block) → IsOwnedIn marks_streams v b ⊎ (block_at v.per v.table.runs FileRec n ≡ Some b) → goes_to b
  as_file b (inl owned) = inl owned
  as_file b (inr its) = inr (inl its)

  each_block : AllByRecursion (λ x. goes_to x.block) bodies
  each_block =
      all_in_both (λ x. goes_to x.block) edit.bodies blocks.bodies
      (each_turned (λ b. IsOwnedIn marks_streams v b ⊎ (block_at v.per v.table.runs FileRec n ≡ Some b)) goes_to edit.bodies as_file edit.puts.each)
      (each_turned (IsFreshBlock v r f) goes_to blocks.bodies (λ b fresh. inr (inr fresh)) blocks.each)

  covers : (m : ℕ) (b : Block) → block_at v.per f.runs Index m ≡ Some b → e.initialised ≤ 4096 * m → 4096 * m < initialised → IsPut bodies b
  covers m b at past low =
      let put = blocks.put b (m, (at, past, low)) in
      (put.0, found_in edit.bodies blocks.bodies b blocks.whole ∙ ap (λ (o : Option (List ℕ)). option_or o (body_in edit.bodies b)) put.1)

  -- ---- the bits

  same_bytes : (o : Option Stream) → SameBytesInSome (content_with d edit.bodies) (content_with d bodies) v.per o
  same_bytes None = tt
  same_bytes (Some (Held value)) = tt
  same_bytes (Some (Placed x)) = λ b is.
      let kind : Plain ≡ b.kind = (lies v.per x.runs Plain is.sector b is.lies).kind_is in
      ap (λ (y : Body). y.bytes) (same_body b (λ at. (let never : Plain ≡ Index = kind ∙ at in absurd cc)))

  marked : (x : ℕ) → x < v.clusters → bit (cluster_bits (content_with d bodies) v) x ≡ (leb 1 (uses more x) || bit (cluster_bits d v) x)
  marked x low =
      ap (λ (l : List Bool). bit l x) (same_cluster_bits (content_with d edit.bodies) (content_with d bodies) v (same_bytes (cluster_bitmap v)))
      ∙ edit.marked x low
      ∙ only_came z more x (bit (cluster_bits d v) x) k.came k.none

  pub rooted_is : (all : List NewBody) × (EditsDraft c old new all × PutsRooted d v n r more real initialised (written_record q) s all)
  rooted_is = (
    bodies,
    (
      record { same = same; content = content },
      record {
        file = k.file;
        apart = k.apart;
        no_list = k.no_list;
        directory = k.directory;
        spelled = k.spelled;
        taken = k.taken;
        room = k.room;
        sizes = k.sizes;
        begun = k.begun;
        written = has_blocks r q (written_record q) f k.made k.no_place k.in_use.pairs (written_read.written q);
        values = k.values;
        whole = whole;
        anew = anew;
        each = each_block;
        void = void;
        covers = covers;
        marked = marked;
      },
    ),
  )

pub rooted_edit : RootedIsEdit
rooted_edit c g clusters v n r more real initialised p z old mid new sized eight old_kept new_kept state k edit blocks = rooted_is c g clusters v n r more real initialised p z old mid new sized eight old_kept new_kept (sized_with c (bodies_of old) sized) state k edit blocks

-- ---- with the root from before

as_rooted : (c : Content) (v : Volume) (n : ℕ) (r : Record) (more : List Run) (real initialised : ℕ) (z : Resized) → MakesIndex c v n r more real initialised z → MakesRooted c v n r more real initialised z.file z
as_rooted c v n r more real initialised z k = record {
  file = k.file;
  apart = k.apart;
  no_list = k.no_list;
  directory = k.directory;
  spelled = k.spelled;
  taken = k.taken;
  room = k.room;
  sizes = k.sizes;
  begun = k.begun;
  no_place = k.no_place;
  made = k.made;
  in_use = k.in_use;
  values = itself is_index_root (written_record z.file);
  came = k.came;
  none = k.none;
  ends = k.ends;
}

-- an edit that puts the record with the blocks itself leaves the root
pub as_index : (c : Content) (v : Volume) (n : ℕ) (r : Record) (more : List Run) (real initialised : ℕ) (s : Record) (all : List NewBody) → PutsRooted c v n r more real initialised s s all → GrowsIndex c v n r more real initialised s all
as_index c v n r more real initialised s all k = record {
  file = k.file;
  apart = k.apart;
  no_list = k.no_list;
  directory = k.directory;
  spelled = k.spelled;
  taken = k.taken;
  room = k.room;
  sizes = k.sizes;
  begun = k.begun;
  written = k.written;
  whole = k.whole;
  anew = k.anew;
  each = k.each;
  void = k.void;
  covers = k.covers;
  marked = k.marked;
}

pub index_edit : IndexIsEdit
index_edit c g clusters v n r more real initialised z old mid new sized eight old_kept new_kept state k edit blocks =
    let is = rooted_edit c g clusters v n r more real initialised z.file z old mid new sized eight old_kept new_kept state (as_rooted (drafted old c) v n r more real initialised z k) edit blocks in
    (is.0, (is.1.0, as_index (drafted old c) v n r more real initialised (written_record z.file) is.0 is.1.1))
