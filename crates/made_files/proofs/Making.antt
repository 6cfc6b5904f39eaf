-- What a draft puts of a new file is the edit of a plan that makes it.
use Rattle.std.proofs.Common.{◌≡◌, ◌≢◌, ◌⊎◌, ℕ, ◌+◌, ◌*◌, ◌/◌, ◌<◌, ◌≤◌, Bool, true, false, ◌&&◌, ◌||◌, cond, eqb, leb, ltb, List, [], ◌∷◌, length, Option, Some, None, refl, sym, ap, ap₂, subst, ◌∙◌, inl, inr, arith}
use mathlib.Core.Path.{fun_ext}
use Rattle.std.specs.Prelude.{Result}
use Rattle.std.specs.List.{AllByRecursion}
use Rattle.std.specs.Option.{option_or}
use Rattle.std.proofs.lemmas.Bool.{and_parts, and_right, eq-eqb, le-ltb, both_ways, false_from_ne_true}
use Rattle.disk_model.specs.declared.block.Block.{Block}
use Rattle.disk_model.specs.declared.block.BlockKind.{BlockKind}
use Rattle.disk_model.specs.declared.block.BlockKind.TheVariants.{Plain, FileRec, Index}
use Rattle.disk_model.specs.declared.block.Change.{Change}
use Rattle.disk_model.specs.Bodies.{BodyOf}
use Rattle.disk_model.specs.Content.{Content, HasSizes}
use Rattle.disk_model.specs.Sectors.{same_block, same_kind}
use Rattle.disk_model.proofs.Frames.{same_block-is}
use Rattle.record_model.specs.declared.attribute.Attr.{Attr}
use Rattle.record_model.specs.declared.entry.Entry.{Entry as Raw}
use Rattle.record_model.specs.Constants.{standard_information, index_root, index_allocation, names_index}
use Rattle.record_model.specs.Records.{Record, record_spelling}
use Rattle.file_tree.specs.declared.link.Link.{Link}
use Rattle.bit_set.specs.Bits.{bit}
use Rattle.block_view.specs.Changes.{content_after}
use Rattle.index_model.specs.declared.key.Key.{Key}
use Rattle.index_model.specs.Trees.{Tree, held, times, walk}
use Rattle.index_model.specs.Indexes.{Place, node_block, node_of_block, nodes_of, number_of, links_of, IsIndex}
use Rattle.index_model.specs.Laws.{HoldsIndex}
use Rattle.index_model.proofs.WalkLaw.{walk_passes}
use Rattle.index_plan.specs.Search.{put}
use Rattle.file_makes.specs.index_change.declared.nodes_plan.NodesPlan.{NodesPlan}
use Rattle.file_makes.specs.index_change.declared.plan.DirPlan.{DirPlan}
use Rattle.file_makes.specs.index_change.Changing.{uses}
use Rattle.file_makes.specs.index_change.Orders.{goes, link_of, put_link}
use Rattle.file_makes.specs.index_change.Plans.{root_room, seventeen, needs_level, NewIndex, TakesLittle}
use Rattle.file_makes.proofs.index_change.Joining.{plans_join}
use Rattle.index_places.proofs.Numbered.{in_stream, numbered}
use Rattle.state_model.specs.declared.geometry.Geometry.{Geometry}
use Rattle.state_model.specs.declared.stream.Extents.{Extents}
use Rattle.state_model.specs.declared.stream.Stream.{Stream}
use Rattle.state_model.specs.declared.stream.Stream.TheVariants.{Held, Placed}
use Rattle.state_model.specs.Files.{reference}
use Rattle.state_model.specs.Loads.{slot_of}
use Rattle.state_model.specs.Rules.{is_rising, is_index}
use Rattle.state_model.specs.Streams.{is_attribute_of, block_at}
use Rattle.stream_map.proofs.Reading.{kind-block_at}
use Rattle.volume_model.specs.Indexes.{void_block, or_void, index_block, index_stream, stream_blocks, index_place, links_read, links_below, index_links, keeps_index}
use Rattle.volume_model.specs.Volumes.{Volume, count_of, table_file, file_stream, files_by_number, record_bits, record_bitmap, upper_of}
use Rattle.volume_model.specs.Sizes.{keeps_streams}
use Rattle.volume_state.specs.Rules.{broken_3}
use Rattle.stream_laws.specs.Frames.{SameNodesIn, SameIndexIn, SameBytesInSome}
use Rattle.stream_laws.specs.Owners.{stream_kind}
use Rattle.stream_laws.specs.Places.{AreOnce}
use Rattle.stream_laws.specs.Replacing.{FileEdit}
use Rattle.stream_laws.specs.Rewrites.{is_edited}
use Rattle.stream_laws.specs.Sharing.{StreamKey, stream_at, runs_in}
use Rattle.stream_laws.specs.Tables.{table_key}
use Rattle.stream_laws.proofs.Framing.{same_node, same_place}
use Rattle.stream_laws.proofs.Loading.{same_record_bits}
use Rattle.stream_laws.proofs.Placing.{one_place}
use Rattle.stream_laws.proofs.Sharing.{stream_once}
use Rattle.stream_laws.proofs.Tabling.{inside_list, table_runs}
use Rattle.file_makes.specs.tree_laws.Planned.{IsInRecord}
use Rattle.file_makes.proofs.tree_laws.Keeping.{rules_of, passes_below}
use Rattle.file_makes.proofs.tree_laws.Listing.{index_listed}
use Rattle.file_makes.specs.plan_owners.States.{Stands}
use Rattle.file_makes.proofs.plan_owners.Outside.{once}
use Rattle.file_makes.proofs.plan_owners.Standing.{begins, some_file, streams_at}
use Rattle.plan_bodies.specs.Bodies.{NewBody, whole_write, AreBodies, body_in, content_with}
use Rattle.plan_bodies.proofs.Putting.{block_itself, sized_with, either}
use Rattle.plan_draft.specs.declared.touched.Touched.{Touched}
use Rattle.plan_draft.specs.Touching.{bodies_of}
use Rattle.plan_draft.specs.Drafts.{drafted}
use Rattle.file_makes.specs.plan_model.Attributes.{RewritesValues}
use Rattle.file_makes.specs.plan_model.Edits.{IsOwnedIn}
use Rattle.file_makes.specs.plan_model.Made.{is_info_or_root, ReadsAs, made_streams, made_edits, MakesFile}
use Rattle.file_makes.proofs.plan_model.Drafting.{per_is}
use Rattle.file_makes.proofs.plan_model.Informing.{slot_in_use, marked_in_use}
use Rattle.file_makes.proofs.plan_model.OneRecord.{OwnRecord, own_record}
use Rattle.file_makes.proofs.plan_model.PlannedIndexing.{one_put, put_rises, planned_after}
use Rattle.file_makes.proofs.plan_model.Rewriting.{same_stream}
use Rattle.draft_bits.specs.Filling.{PutsBits, first_past}
use Rattle.draft_bits.specs.Effects.{IsKept}
use Rattle.draft_bits.proofs.BitEffects.{bits_put, drafted_same}
use Rattle.file_makes.specs.draft_records.Records.{record_block, is_past, written_record, touch_if, touch_record}
use Rattle.file_makes.proofs.draft_resized.FileEffects.{long_of}
use Rattle.file_makes.proofs.record_streams.Streams.{attribute_kind}
use Rattle.file_makes.specs.plan_edits.Written.{IsInUse}
use Rattle.file_makes.specs.plan_edits.Puts.{IsSectorOf, IsSectorWith}
use Rattle.file_makes.specs.plan_edits.Moves.{EditsDraft}
use Rattle.file_makes.proofs.plan_edits.Bitmap.{shares_itself}
use Rattle.file_makes.proofs.plan_edits.Editing.{same_bytes, used_block, some_of}
use Rattle.file_makes.proofs.plan_edits.Putting.{Goes, goes_behind, bytes_go, record_goes, content_goes}
use Rattle.file_makes.proofs.plan_edits.Reading.{written_read}
use Rattle.file_makes.specs.new_files.Laws.{ReadsNewFile, NewFileReads}
use Rattle.file_makes.specs.file_puts.declared.streams.VolumeStreams.{VolumeStreams}
use Rattle.file_makes.specs.file_puts.Puts.{PutsFileRecord}
use Rattle.file_makes.specs.declared.newfile.NewFile.{NewFile}
use Rattle.file_makes.specs.Making.{touch_nodes, made_lsn, made_record, rooted_record}
use Rattle.made_files.specs.Made.{made_link, made_key, rooted_directory, MakesOfVolume, IsMadeEdit, MadeIsEdit}
use Rattle.made_files.proofs.Bits.{numbers_key, own_numbers, bit_marked}
use Rattle.made_files.proofs.Nodes.{AreWhole, IsNone, turned, after_touch, nodes_go, nodes_away, node_bodies, nodes_put, IsNodeOf, nodes_lie, AreIndexes, nodes_whole, bodies_whole, own_blocks, read_so}
use Rattle.made_files.proofs.Roots.{OneRoot, one_root, rooted_values, rooted_used, rooted_value}

-- ---- blocks of other kinds

kinds_apart : (a b : Block) → same_kind a.kind b.kind ≡ false → same_block a b ≡ false
kinds_apart a b other = and_right (eqb a.first b.first) (same_kind a.kind b.kind) other

of_kinds : (a b : Block) (x y : BlockKind) → a.kind ≡ x → b.kind ≡ y → same_kind x y ≡ false → same_block a b ≡ false
of_kinds a b x y is_a is_b other = kinds_apart a b (ap₂ same_kind is_a is_b ∙ other)

or_true : (t : Bool) → (t || true) ≡ true
or_true true = refl
or_true false = refl

-- ---- one record that is put

no_mirror : (c : Content) (per : ℕ) (table mirror : Extents) (n : ℕ) (bytes : List ℕ) (old : List Touched) → 4 ≤ n → touch_record c per table mirror n bytes old ≡ touch_if c (record_block per table n) (is_past table n) bytes old
no_mirror c per table mirror n bytes old high =
    let own : List Touched = touch_if c (record_block per table n) (is_past table n) bytes old in
    ap (λ (t : Bool). cond (t && ltb n (mirror.real / 1024)) (touch_if c (record_block per mirror n) (is_past mirror n) bytes own) own) (le-ltb n 4 high)

own_put : (c : Content) (o : Option Block) (fresh : Bool) (bytes : List ℕ) (touched : List Touched) (b : Block) → o ≡ Some b → body_in (bodies_of (touch_if c o fresh bytes touched)) b ≡ Some bytes
own_put c o fresh bytes touched b is =
    ap (λ (p : Option Block). body_in (bodies_of (touch_if c p fresh bytes touched)) b) is
    ∙ after_touch touched b b fresh bytes (c b)
    ∙ ap (λ (t : Bool). cond t (Some bytes) (body_in (bodies_of touched) b)) (block_itself b)

away_if : (c : Content) (o : Option Block) (fresh : Bool) (bytes : List ℕ) (touched : List Touched) (b : Block) → ((a : Block) → o ≡ Some a → same_block b a ≡ false) → body_in (bodies_of (touch_if c o fresh bytes touched)) b ≡ body_in (bodies_of touched) b
away_if c None fresh bytes touched b apart = refl
away_if c (Some a) fresh bytes touched b apart = after_touch touched a b fresh bytes (c a) ∙ ap (λ (t : Bool). cond t (Some bytes) (body_in (bodies_of touched) b)) (apart a refl)

-- ---- the blocks of an index

index_kind : (per : ℕ) (e : Extents) (i : ℕ) → (index_block per e i).kind ≡ Index
unfolding index_block
index_kind per e i = by_test (leb e.initialised (4096 * i)) (block_at per e.runs Index i) refl
  where
    by_test : (t : Bool) (o : Option Block) → block_at per e.runs Index i ≡ o → (cond t void_block (or_void o)).kind ≡ Index
    by_test true o same = refl
    by_test false None same = refl
    by_test false (Some b) same = kind-block_at per e.runs Index i b (sym same)

of_index : (a : Attr) → is_attribute_of index_allocation names_index a ≡ true → is_info_or_root a ≡ false
of_index a is = (let kind = (attribute_kind index_allocation names_index a is).0 in ap (λ (x : ℕ). eqb x standard_information || eqb x index_root) kind)

same_indexes : (per : ℕ) (r q : Record) → RewritesValues is_info_or_root r q → index_place per q ≡ index_place per r
unfolding index_place index_stream
same_indexes per r q values = ap (λ (o : Option Stream). record { blocks = stream_blocks per o; step = 8 / per }) (same_stream is_info_or_root r q index_allocation names_index values of_index)

module _ (reads : NewFileReads) (c : Content) (g : Geometry) (clusters : ℕ) (v : Volume) (s : VolumeStreams) (numbers : Extents) (m : NewFile) (r : Record) (value : List ℕ) (used : ℕ) (t : Tree) (fresh : List ℕ) (nodes : NodesPlan) (old new : List Touched) (eight : g.per_cluster ≡ 8)
    (state : Stands (drafted old c) g clusters v) (k : MakesOfVolume c v s numbers m r value used t fresh nodes old new) where
  abbrev d : Content
  d = drafted old c

  abbrev n : ℕ
  n = m.file.number

  abbrev dir : ℕ
  dir = m.parent.number

  abbrev plan : DirPlan
  plan = k.put.plan

  abbrev changes : List Change
  changes = k.put.plan.changes.items

  abbrev p : Record
  p = rooted_record k.put.plan.root r

  abbrev q : Record
  q = rooted_directory k.put.plan r

  abbrev f : Record
  f = made_record (drafted old c) s.table m

  abbrev place : Place
  place = index_place v.per r

  abbrev upper : List ℕ
  upper = upper_of (drafted old c) v

  abbrev key : Key
  key = made_key m

  abbrev link : Link
  link = made_link m

  abbrev rooted : List Touched
  rooted = k.put.rooted

  abbrev noded : List Touched
  noded = touch_nodes c k.put.plan.changes.items k.put.rooted

  abbrev made : List Touched
  made = k.put.behind.made

  sized_d : HasSizes d
  sized_d = sized_with c (bodies_of old) k.sized

  per_8 : v.per ≡ 8
  per_8 = per_is d g clusters v eight state

  file_reads : ReadsNewFile (made_lsn d s.table m) m.file m.parent m.name m.stamp
  file_reads = reads (made_lsn d s.table m) m.file m.parent m.name m.stamp (record {
    lsn_small = k.put.lsn;
    number = k.fields.number;
    seq = k.fields.seq;
    directory = k.fields.directory;
    directory_seq = k.fields.directory_seq;
    is_name = k.fields.is_name;
    stamp_small = k.fields.stamp_small;
  })

  -- ---- the index

  abbrev level : Bool
  level = needs_level (upper_of (drafted old c) v) (root_room used value) (made_key m) (seventeen fresh) t

  abbrev keys : List Key
  keys = put (goes (upper_of (drafted old c) v) (link_of (made_key m)).name) (made_key m) (walk t)

  abbrev links : List Link
  links = put_link (upper_of (drafted old c) v) (link_of (made_key m)) (links_of (walk t))

  joined : HoldsIndex d place upper value t × NewIndex d place upper value used t fresh level keys links plan × TakesLittle upper value used key fresh t plan
  joined = plans_join d d place place upper value used key fresh nodes plan t sized_d file_reads.key.lawful k.entry.enough k.entry.planned k.entry.front k.put.laid k.entry.holds k.entry.once (λ w entries some is. is) k.entry.laid

  pub index : NewIndex d place upper value used t fresh level keys links plan
  index = joined.1

  pub little : TakesLittle upper value used key fresh t plan
  little = joined.2

  -- a block of a node that is written
  pub record IsNodeBlock (b : Block) : Type 0 where
    pub kind : b.kind ≡ Index
    pub real : b ≢ void_block
    pub owned : IsOwnedIn (made_streams dir) v b

  index_key : StreamKey
  index_key = record { file = dir; kind = index_allocation; name = names_index }

  which : (w : ℕ) (b : Block) → node_block place w ≡ Some b → (b ≡ void_block) ⊎ (block_at v.per (runs_in (index_stream r)) Index (number_of place w) ≡ Some b)
  unfolding index_place
  which w b at = in_stream v.per (index_stream r) (number_of place w) b (numbered place w b at)

  index_is : stream_kind index_key ≡ Index
  unfolding stream_kind index_key
  index_is = ap (λ (x : Bool). cond x FileRec Index) (and_right _ false refl)

  owned_by : (w : ℕ) (b : Block) → block_at v.per (runs_in (index_stream r)) Index (number_of place w) ≡ Some b → IsOwnedIn (made_streams dir) v b
  unfolding index_stream index_key
  owned_by w b lies = record {
    stream = index_key;
    chosen = ap (λ (x : Bool). (eqb dir table_file && false) || (x && true)) (eq-eqb dir dir refl) ∙ or_true (eqb dir table_file && false);
    number = number_of place w;
    lies = ap (λ (kind : BlockKind). block_at v.per (runs_in (stream_at v index_key)) kind (number_of place w)) index_is
        ∙ ap (λ (o : Option Record). block_at v.per (runs_in (file_stream index_allocation names_index o)) Index (number_of place w)) k.directory.file
        ∙ lies;
  }

  node_block_is : (b : Block) → IsNodeOf place index.writes b → IsNodeBlock b
  node_block_is b is =
      let w : ℕ = is.0.vcn in
      let some = is.1.0 in
      let placed = index.placed w in
      let counts = index.numbers w in
      let there = k.entry.real w b (taken_used w (omega (arith, some, placed, counts))) is.1.1 in
      elim (which w b is.1.1) [
        | inl void ↦ absurd (there void)
        | inr lies ↦ record { kind = kind-block_at v.per (runs_in (index_stream r)) Index (number_of place w) b (sym lies); real = there; owned = owned_by w b lies }
      ]
    where
      taken_used : (w : ℕ) → 0 < held w t + times w plan.taken.items → 0 < uses t nodes.taken.items w
      taken_used w = subst (λ (l : List ℕ). 0 < held w t + times w l) k.put.laid.taken

  each_node : (l : List Change) → AllByRecursion (λ x. IsNodeOf place index.writes x.block) l → AllByRecursion (λ x. IsNodeBlock x.block) l
  each_node [] all = tt
  each_node (x ∷ l) all = (node_block_is x.block all.0, each_node l all.1)

  node_blocks : AllByRecursion (λ x. IsNodeBlock x.block) changes
  node_blocks = each_node changes (nodes_lie place index.writes changes index.puts)

  kinds_of : (l : List Change) → AllByRecursion (λ x. IsNodeBlock x.block) l → AreIndexes l
  kinds_of [] all = tt
  kinds_of (x ∷ l) all = (all.0.kind, kinds_of l all.1)

  whole_changes : AreWhole changes
  whole_changes = nodes_whole place index.writes changes index.puts (kinds_of changes node_blocks)

  node_bodies_are : AreBodies (node_bodies changes)
  node_bodies_are = record { whole = bodies_whole changes whole_changes; own = own_blocks changes index.apart }

  -- ---- what is put, one behind another

  abbrev among : Block → Type 0
  among b = (record_block v.per v.table dir ≡ Some b) ⊎ (record_block v.per v.table n ≡ Some b) ⊎ IsSectorOf v.per numbers.runs b ⊎ IsNodeBlock b

  abbrev of_dir : Block → Type 0
  of_dir b = record_block v.per v.table dir ≡ Some b

  abbrev of_file : Block → Type 0
  of_file b = record_block v.per v.table n ≡ Some b

  record_kind : (i : ℕ) (b : Block) → record_block v.per v.table i ≡ Some b → b.kind ≡ FileRec
  record_kind i b lies = kind-block_at v.per v.table.runs FileRec i b (sym lies)

  high : 4 ≤ n
  high = (let user = k.number.user in omega (arith, user))

  touched_in : (i : ℕ) (x : Record) (before after : List Touched) → 4 ≤ i → PutsFileRecord c s i x before after → after ≡ touch_if c (record_block v.per v.table i) (is_past v.table i) (record_spelling (written_record x)) before
  touched_in i x before after least put =
      put.put
      ∙ ap (λ (e : ℕ). touch_record c e s.table s.mirror i (record_spelling (written_record x)) before) (sym per_8)
      ∙ ap (λ (e : Extents). touch_record c v.per e s.mirror i (record_spelling (written_record x)) before) k.streams.table
      ∙ no_mirror c v.per v.table s.mirror i (record_spelling (written_record x)) before least

  rooted_is : rooted ≡ touch_if c (record_block v.per v.table dir) (is_past v.table dir) (record_spelling q) old
  rooted_is = touched_in dir p old rooted k.directory.mirrored_none k.put.root

  made_is : made ≡ touch_if c (record_block v.per v.table n) (is_past v.table n) (record_spelling (written_record f)) noded
  made_is = touched_in n f noded made high k.put.behind.file

  bit_put : PutsBits c v.per numbers n 1 true made new
  bit_put = subst (λ (e : ℕ). PutsBits c e numbers n 1 true made new) (sym per_8) k.put.behind.bit

  root_goes : Goes among of_dir old rooted
  root_goes = subst (Goes among of_dir old) (sym rooted_is) (record_goes c among (record_block v.per v.table dir) (is_past v.table dir) (record_spelling q) old k.sized (long_of p k.put.root.fits k.put.root.room) (record_kind dir) (λ b is. inl is) k.kept)

  in_among : (l : List Change) → AllByRecursion (λ x. IsNodeBlock x.block) l → AllByRecursion (λ x. among x.block) l
  in_among [] all = tt
  in_among (x ∷ l) all = (inr (inr (inr all.0)), in_among l all.1)

  nodes_there : Goes among IsNone rooted noded
  nodes_there = nodes_go c among changes rooted k.sized whole_changes (in_among changes node_blocks) root_goes.kept

  file_goes : Goes among of_file noded made
  file_goes = subst (Goes among of_file noded) (sym made_is) (record_goes c among (record_block v.per v.table n) (is_past v.table n) (record_spelling (written_record f)) noded k.sized (long_of f k.put.behind.file.fits k.put.behind.file.room) (record_kind n) (λ b is. inr (inl is)) nodes_there.kept)

  bit_goes : Goes among IsNone made new
  bit_goes =
      subst (Goes among IsNone made) (sym bit_put.1.1)
      (turned (IsSectorOf v.per numbers.runs) among (IsSectorWith v.per numbers.runs (n / 8) (length bit_put.0)) IsNone made _ (λ b is. inr (inr (inl is))) (λ b none. absurd none) (bytes_go c v.per numbers.runs (first_past numbers) (n / 8) bit_put.0 made k.sized file_goes.kept))

  pub all_go : Goes among (λ b. of_dir b ⊎ of_file b) old new
  all_go =
      let two = goes_behind among of_dir IsNone of_dir old rooted noded (λ b is. inl is) root_goes nodes_there in
      let three = goes_behind among of_dir of_file (λ b. of_dir b ⊎ of_file b) old noded made (λ b is. is) two file_goes in
      goes_behind among (λ b. of_dir b ⊎ of_file b) IsNone (λ b. of_dir b ⊎ of_file b) old made new (λ b is. inl is) three bit_goes

  pub new_kept : IsKept new
  new_kept = all_go.kept

  abbrev bodies : List NewBody
  bodies = all_go.blocks.bodies

  whole : AreBodies bodies
  whole = all_go.blocks.whole

  content : content_with d bodies ≡ drafted new c
  content = content_goes c bodies old new k.sized k.kept new_kept whole all_go.blocks.same

  -- ---- what stays where

  bit_away : (b : Block) → same_kind b.kind Plain ≡ false → body_in (bodies_of new) b ≡ body_in (bodies_of made) b
  bit_away b other = bits_put.elsewhere c v.per numbers n 1 true made new b bit_put (λ x a there. kinds_apart b a (ap (same_kind b.kind) (kind-block_at v.per numbers.runs Plain x a (sym there)) ∙ other))

  file_away : (b : Block) → same_kind b.kind FileRec ≡ false → body_in (bodies_of made) b ≡ body_in (bodies_of noded) b
  file_away b other =
      ap (λ (l : List Touched). body_in (bodies_of l) b) made_is
      ∙ away_if c (record_block v.per v.table n) (is_past v.table n) (record_spelling (written_record f)) noded b (λ a there. kinds_apart b a (ap (same_kind b.kind) (record_kind n a there) ∙ other))

  root_away : (b : Block) → same_kind b.kind FileRec ≡ false → body_in (bodies_of rooted) b ≡ body_in (bodies_of old) b
  root_away b other =
      ap (λ (l : List Touched). body_in (bodies_of l) b) rooted_is
      ∙ away_if c (record_block v.per v.table dir) (is_past v.table dir) (record_spelling q) old b (λ a there. kinds_apart b a (ap (same_kind b.kind) (record_kind dir a there) ∙ other))

  none_here : (b : Block) → same_kind b.kind Index ≡ false → (l : List Change) → AllByRecursion (λ x. IsNodeBlock x.block) l → AllByRecursion (λ x. same_block b x.block ≡ false) l
  none_here b other [] all = tt
  none_here b other (x ∷ l) all = (kinds_apart b x.block (ap (same_kind b.kind) all.0.kind ∙ other), none_here b other l all.1)

  nodes_none : (b : Block) → same_kind b.kind Index ≡ false → body_in (bodies_of noded) b ≡ body_in (bodies_of rooted) b
  nodes_none b other = nodes_away c changes rooted b (none_here b other changes node_blocks)

  -- ---- the records

  its_own : OwnRecord d v dir r
  its_own = own_record d g clusters v dir r state k.directory.file k.directory.no_list

  dir_below : dir < count_of v
  dir_below = inside_list v.files dir r (some_file v dir r k.directory.file)

  other : n ≢ dir
  other same =
      let set = marked_in_use d v dir (rules_of d v state.kept).rule_7 dir_below (slot_in_use d v dir r its_own.slot) in
      both_ways (bit (record_bits d v) dir) (ap (bit (record_bits d v)) (sym same) ∙ k.number.clear) set

  table_once : AreOnce v.table.runs
  table_once = subst AreOnce (table_runs d g clusters v (begins d g clusters v state)) (stream_once v table_key (once d g clusters v state))

  records_apart : (a b : Block) → of_dir a → of_file b → same_block a b ≡ false
  records_apart a b first second = false_from_ne_true (same_block a b) (λ same. other (sym (one_place v.per v.table.runs FileRec dir n a b state.some table_once first second (shares_itself a b same))))

  dir_put : (b : Block) → of_dir b → body_in (bodies_of new) b ≡ Some (record_spelling q)
  dir_put b lies =
      let kind = record_kind dir b lies in
      bit_away b (ap (λ (x : BlockKind). same_kind x Plain) kind)
      ∙ ap (λ (l : List Touched). body_in (bodies_of l) b) made_is
      ∙ away_if c (record_block v.per v.table n) (is_past v.table n) (record_spelling (written_record f)) noded b (λ a there. records_apart b a lies there)
      ∙ nodes_none b (ap (λ (x : BlockKind). same_kind x Index) kind)
      ∙ ap (λ (l : List Touched). body_in (bodies_of l) b) rooted_is
      ∙ own_put c (record_block v.per v.table dir) (is_past v.table dir) (record_spelling q) old b lies

  file_put : (b : Block) → of_file b → body_in (bodies_of new) b ≡ Some (record_spelling (written_record f))
  file_put b lies =
      bit_away b (ap (λ (x : BlockKind). same_kind x Plain) (record_kind n b lies))
      ∙ ap (λ (l : List Touched). body_in (bodies_of l) b) made_is
      ∙ own_put c (record_block v.per v.table n) (is_past v.table n) (record_spelling (written_record f)) noded b lies

  put_here : (b : Block) (bytes : List ℕ) → of_dir b ⊎ of_file b → body_in (bodies_of new) b ≡ Some bytes → body_in bodies b ≡ Some bytes
  put_here b bytes which_one after =
      let there = all_go.blocks.put b which_one in
      same_bytes (body_in bodies b) (body_in (bodies_of old) b) bytes there.0 (sym (all_go.blocks.same b ∙ either (bodies_of old) bodies b whole.own) ∙ after) there.1

  one : OneRoot r value
  unfolding keeps_streams
  one = one_root v.per v.clusters r value (and_parts _ _ (and_parts _ _ (and_parts _ _ (streams_at d g clusters v dir r state k.directory.file)).0).0).0 k.entry.root

  r_used : IsInUse r
  r_used = written_read.used d v.per v.table dir r its_own.slot

  dir_reads : ReadsAs v bodies dir q
  dir_reads =
      let at = some_of (record_block v.per v.table dir) (used_block d v.per v.table dir r its_own.slot) in
      record {
        block = at.0;
        place = at.1;
        bytes = record_spelling q;
        put = put_here at.0 (record_spelling q) (inl at.1) (dir_put at.0 at.1);
        reads = written_read.reads p k.put.root.fits k.put.root.room (rooted_used r value plan.root one k.directory.written r_used);
      }

  file_reads_as : ReadsAs v bodies n f
  file_reads_as =
      let at = some_of (record_block v.per v.table n) k.number.lies in
      record {
        block = at.0;
        place = at.1;
        bytes = record_spelling (written_record f);
        put = put_here at.0 (record_spelling (written_record f)) (inr at.1) (file_put at.0 at.1);
        reads = ap (λ (x : Record). slot_of (record { bytes = record_spelling x; torn = false })) file_reads.spelled.written ∙ file_reads.spelled.slot;
      }

  values : RewritesValues is_info_or_root r q
  values = rooted_values r value plan.root one k.directory.written

  -- ---- the index that stands there then

  index_bodies : (b : Block) → b.kind ≡ Index → body_in (bodies_of new) b ≡ option_or (body_in (node_bodies changes) b) (body_in (bodies_of old) b)
  index_bodies b kind =
      bit_away b (ap (λ (x : BlockKind). same_kind x Plain) kind)
      ∙ file_away b (ap (λ (x : BlockKind). same_kind x FileRec) kind)
      ∙ nodes_put c changes rooted b node_bodies_are.own
      ∙ ap (option_or (body_in (node_bodies changes) b)) (root_away b (ap (λ (x : BlockKind). same_kind x FileRec) kind))

  read_there : (b : Block) → b.kind ≡ Index → drafted new c b ≡ content_after changes d b
  read_there b kind = read_so c place index.writes changes old new b k.sized sized_d k.kept new_kept index.puts node_bodies_are (index_bodies b kind)

  same_in : (o : Option Stream) → SameIndexIn (content_after changes d) (drafted new c) v.per o
  same_in None = tt
  same_in (Some (Held bytes)) = tt
  same_in (Some (Placed e)) = λ i low. read_there (index_block v.per e i) (index_kind v.per e i)

  same_nodes : SameNodesIn (content_after changes d) (drafted new c) place
  same_nodes = same_place (content_after changes d) (drafted new c) v.per r (same_in (index_stream r))

  key_stands : link_of key ≡ link
  key_stands = file_reads.key.stands_for

  new_listed : index_links (drafted new c) v.per upper q ≡ Some (put_link upper link (links_of (walk t)))
  new_listed =
      planned_after is_info_or_root d (drafted new c) v.per upper value used t fresh level keys links plan r q index values of_index (rooted_value r value plan.root one k.directory.written) same_nodes
      ∙ ap (λ (l : Link). Some (put_link upper l (links_of (walk t)))) key_stands

  old_listed : index_links d v.per upper r ≡ Some (links_of (walk t))
  unfolding index_links
  old_listed = ap (links_below d place upper) k.entry.root ∙ ap links_read (walk_passes d place upper value t k.entry.holds)

  ruled : (l : List Link) × (index_links d v.per upper r ≡ Some l) × (is_index upper (files_by_number v) (count_of v) (reference dir r) l ≡ true)
  unfolding broken_3
  ruled = index_listed d v upper dir r k.directory.file k.directory.directory (passes_below (keeps_index d v upper) (count_of v) (rules_of d v state.kept).rule_3 dir dir_below)

  rising_of : (l : List Link) → is_index upper (files_by_number v) (count_of v) (reference dir r) l ≡ true → is_rising upper l ≡ true
  unfolding is_index
  rising_of l is = (and_parts _ _ (and_parts _ _ is).0).0

  same_list : (x y : List Link) → Some x ≡ Some y → x ≡ y
  same_list x y is = cc

  old_rises : is_rising upper (links_of (walk t)) ≡ true
  old_rises = subst (λ (l : List Link). is_rising upper l ≡ true) (same_list ruled.0 (links_of (walk t)) (sym ruled.1 ∙ old_listed)) (rising_of ruled.0 ruled.2)

  nodes_same : node_of_block (drafted new c) place ≡ node_of_block (content_after changes d) place
  nodes_same = fun_ext (λ w. same_node (content_after changes d) (drafted new c) place w same_nodes)

  pub holds : HoldsIndex (drafted new c) (index_place v.per q) upper plan.root index.tree
  holds =
      let was = index.holds in
      let here : HoldsIndex (drafted new c) place upper plan.root index.tree = record {
        entries = was.entries;
        root_read = was.root_read;
        is_index = subst (λ (x : ℕ → Result (List Raw) ℕ). IsIndex (nodes_of x) was.entries upper index.tree) (sym nodes_same) was.is_index;
      } in
      subst (λ (x : Place). HoldsIndex (drafted new c) x upper plan.root index.tree) (sym (same_indexes v.per r q values)) here

  -- ---- the bits of the numbers

  sector_stays : (b : Block) → b.kind ≡ Plain → body_in (bodies_of made) b ≡ body_in (bodies_of old) b
  sector_stays b kind =
      file_away b (ap (λ (x : BlockKind). same_kind x FileRec) kind)
      ∙ nodes_none b (ap (λ (x : BlockKind). same_kind x Index) kind)
      ∙ root_away b (ap (λ (x : BlockKind). same_kind x FileRec) kind)

  bits_before : record_bits (drafted made c) v ≡ record_bits d v
  bits_before = same_record_bits d (drafted made c) v (by_stream (record_bitmap v) refl)
    where
      by_stream : (o : Option Stream) → record_bitmap v ≡ o → SameBytesInSome d (drafted made c) v.per o
      by_stream None is = tt
      by_stream (Some (Held bytes)) is = tt
      by_stream (Some (Placed e)) is = λ b read. ap (λ (x : BodyOf). x.bytes) (drafted_same c old made b k.sized k.kept file_goes.kept (sector_stays b (kind-block_at v.per e.runs Plain read.sector b (sym read.lies))))

  marked : (i : ℕ) → i < count_of v → bit (record_bits (content_with d bodies) v) i ≡ (eqb i n || bit (record_bits d v) i)
  marked i low =
      ap (λ (x : Content). bit (record_bits x v) i) content
      ∙ bit_marked c v numbers n made new k.bits (own_numbers d g clusters v numbers state k.bits.stream) k.sized file_goes.kept bit_put i low
      ∙ ap (λ (l : List Bool). eqb i n || bit l i) bits_before

  -- ---- where it goes

  abbrev edits : List FileEdit
  edits = made_edits n f dir q

  sector_owned : (b : Block) → IsSectorOf v.per numbers.runs b → IsOwnedIn (made_streams dir) v b
  unfolding stream_kind
  sector_owned b is = record { stream = numbers_key; chosen = refl; number = is.0; lies = ap (λ (o : Option Stream). block_at v.per (runs_in o) Plain is.0) k.bits.stream ∙ is.1 }

  at_block : (x : NewBody) → among x.block → IsOwnedIn (made_streams dir) v x.block ⊎ IsInRecord (is_edited edits) v (whole_write x)
  at_block x (inl own) = inr (record { number = dir; chosen = ap (λ (b : Bool). eqb n dir || (b || false)) (eq-eqb dir dir refl) ∙ or_true (eqb n dir); lies = own })
  at_block x (inr (inl file)) = inr (record { number = n; chosen = ap (λ (b : Bool). b || (eqb dir n || false)) (eq-eqb n n refl); lies = file })
  at_block x (inr (inr (inl sector))) = inl (sector_owned x.block sector)
  at_block x (inr (inr (inr node))) = inl node.owned

  each_block : (l : List NewBody) → AllByRecursion (λ x. among x.block) l → AllByRecursion (λ x. IsOwnedIn (made_streams dir) v x.block ⊎ IsInRecord (is_edited edits) v (whole_write x)) l
  each_block [] all = tt
  each_block (x ∷ l) all = (at_block x all.0, each_block l all.1)

  not_void : (b : Block) → among b → same_block void_block b ≡ false
  not_void b (inl own) = of_kinds void_block b Index FileRec refl (record_kind dir b own) refl
  not_void b (inr (inl file)) = of_kinds void_block b Index FileRec refl (record_kind n b file) refl
  not_void b (inr (inr (inl sector))) = of_kinds void_block b Index Plain refl (kind-block_at v.per numbers.runs Plain sector.0 b (sym sector.1)) refl
  not_void b (inr (inr (inr node))) = false_from_ne_true (same_block void_block b) (λ same. node.real (sym (same_block-is void_block b same)))

  void_none : (l : List NewBody) → AllByRecursion (λ x. among x.block) l → body_in l void_block ≡ None
  void_none [] all = refl
  void_none (x ∷ l) all = ap (λ (b : Bool). cond b (Some x.bytes) (body_in l void_block)) (not_void x.block all.0) ∙ void_none l all.1

  pub makes : MakesFile d v n dir f r q link bodies
  makes = record {
    user = k.number.user;
    within = k.number.within;
    clear = k.number.clear;
    made = file_reads_as;
    base = file_reads.is_file.base;
    no_list = file_reads.is_file.no_list;
    no_directory = file_reads.is_file.no_directory;
    name = file_reads.is_file.links;
    parent = k.directory.referred;
    names = file_reads.is_file.names;
    no_clusters = file_reads.is_file.no_clusters;
    sizes = file_reads.is_file.sizes v.per v.clusters;
    file = k.directory.file;
    directory = k.directory.directory;
    lists_none = k.directory.no_list;
    apart = k.directory.apart;
    not_extend = k.directory.not_extend;
    anew = dir_reads;
    values = values;
    old = links_of (walk t);
    new = put_link upper link (links_of (walk t));
    listed = old_listed;
    lists = ap (λ (x : Content). index_links x v.per upper q) content ∙ new_listed;
    put = one_put upper link (links_of (walk t));
    rises = put_rises upper link (links_of (walk t)) old_rises k.entry.beside;
    marked = marked;
    whole = whole;
    void = void_none bodies all_go.blocks.each;
    each = each_block bodies all_go.blocks.each;
  }

  pub edits_draft : EditsDraft c old new bodies
  edits_draft = record { same = all_go.blocks.same; content = content }

  pub made_edit : IsMadeEdit c v s m r value used t fresh k.put.plan old new
  made_edit = record { kept = new_kept; bodies = bodies; edits = edits_draft; makes = makes; index = index; little = little; holds = holds }

pub file_made : NewFileReads → MadeIsEdit
file_made reads c g clusters v s numbers m r value used t fresh nodes old new eight state k = made_edit reads c g clusters v s numbers m r value used t fresh nodes old new eight state k
