-- What an index puts that grows with a level more is the edit by which it is raised.
use Rattle.std.proofs.Common.{◌≡◌, ℕ, suc, ◌+◌, ◌-◌, ◌*◌, ◌/◌, ◌<◌, ◌≤◌, Bool, true, false, not, ◌&&◌, cond, eqb, List, [], ◌∷◌, length, Some, Ok, refl, sym, ap, subst, ◌∙◌, arith}
use Rattle.std.specs.List.{list_all}
use Rattle.std.proofs.lemmas.Bool.{and_parts, and_right, lt-leb}
use Rattle.disk_model.specs.declared.block.BlockKind.TheVariants.{Index}
use Rattle.disk_model.specs.Bodies.{BodyOf}
use Rattle.disk_model.specs.Bytes.{zeros}
use Rattle.disk_model.specs.Content.{Content, HasSizes, is_signed}
use Rattle.plan_draft.proofs.Parts.{zeros_long}
use Rattle.record_model.specs.declared.runs.Run.{Run}
use Rattle.record_model.specs.Nodes.{last_entry}
use Rattle.record_model.specs.Pairs.{cluster_limit}
use Rattle.record_model.specs.Records.{Record}
use Rattle.index_model.specs.Indexes.{is_index_body, node_of_body}
use Rattle.index_model.specs.Trees.{Tree, raws_of}
use Rattle.index_change.specs.Plans.{clusters_of}
use Rattle.index_node.specs.Roots.{root_spelling}
use Rattle.index_places.proofs.Lying.{LiesThere, lies_there}
use Rattle.state_model.specs.declared.geometry.Geometry.{Geometry}
use Rattle.state_model.specs.declared.stream.Extents.{Extents}
use Rattle.state_model.specs.Loads.{total_clusters}
use Rattle.state_model.specs.Streams.{block_at}
use Rattle.volume_model.specs.Indexes.{void_block, or_void, index_block, root_value}
use Rattle.volume_model.specs.Sizes.{lies_inside, has_sizes, keeps_stream, keeps_streams}
use Rattle.volume_model.specs.Volumes.{Volume}
use Rattle.plan_bodies.specs.Bodies.{NewBody, body_in, content_with}
use Rattle.plan_bodies.proofs.Putting.{sized_with}
use Rattle.stream_laws.specs.Places.{AreOnce}
use Rattle.plan_owners.specs.States.{Stands}
use Rattle.plan_owners.proofs.Standing.{streams_at}
use Rattle.plan_draft.specs.declared.touched.Touched.{Touched}
use Rattle.plan_draft.specs.Touching.{bodies_of}
use Rattle.plan_draft.specs.Drafts.{drafted}
use Rattle.draft_bits.specs.Effects.{IsKept}
use Rattle.draft_records.specs.Records.{fits_room, written_record}
use Rattle.resized_streams.specs.declared.resized.Resized.{Resized}
use Rattle.draft_indexes.specs.declared.blocks.IndexBlocks.{IndexBlocks}
use Rattle.draft_indexes.specs.Growing.{size_with, taken_for, grown_file, blocks_in, with_block}
use Rattle.plan_blocks.specs.plan_edits.Moves.{EditsDraft}
use Rattle.plan_blocks.specs.plan_edits.Written.{IsInUse}
use Rattle.plan_blocks.specs.plan_model.Attributes.{RewritesValues}
use Rattle.plan_blocks.specs.plan_model.Informed.{with_record}
use Rattle.plan_blocks.proofs.plan_edits.Putting.{Goes}
use Rattle.plan_blocks.specs.Blocks.{blocks_before, blocks_behind}
use Rattle.plan_blocks.specs.Levels.{is_index_root, PutsRooted, RaisesIndex, IsRaised, PutsLevel}
use Rattle.plan_blocks.specs.Rooted.{rooted}
use Rattle.plan_blocks.specs.Written.{MakesBlocks}
use Rattle.plan_blocks.proofs.Levels.{level_came}
use Rattle.plan_blocks.proofs.Raising as raising
use Rattle.plan_blocks.proofs.Roots.{roots_written}
use Rattle.index_edits.specs.Raised.{RaisesOfVolume, RaisedIsEdit}
use Rattle.index_edits.proofs.Fresh.{IsBlockFrom, level_goes, all_put, one_put, body_there}
use Rattle.index_edits.proofs.Laid as of
use Rattle.index_edits.proofs.Laid.{IsLaid}

-- ---- zeros are no node

unsigned : is_signed Index (zeros 4096) ≡ false
unfolding zeros
unsigned = refl

no_index : (b : BodyOf) → b ≡ record { bytes = zeros 4096; torn = false } → is_index_body b ≡ false
no_index b is = ap is_index_body is ∙ and_right (eqb (length (zeros 4096)) 4096 && not false) (is_signed Index (zeros 4096)) unsigned

module _ (c : Content) (g : Geometry) (clusters : ℕ) (v : Volume) (bits : List Bool) (bitmap mirror : Extents) (r : Record) (i : IndexBlocks) (more : ℕ) (value : List ℕ) (t : Tree) (root node : List ℕ) (old new : List Touched) (z : Resized) (eight : g.per_cluster ≡ 8) (state : Stands (drafted old c) g clusters v)
    (k : RaisesOfVolume c v bits bitmap mirror r i more value t root node old new z) where
  abbrev d : Content
  d = drafted old c

  abbrev n : ℕ
  n = i.number

  abbrev e : Extents
  e = i.extents

  abbrev runs : List Run
  runs = taken_for v.per bits more i.extents

  abbrev size : ℕ
  size = size_with more i.extents

  abbrev behind : Extents
  behind = blocks_behind v.per r runs size size

  abbrev first : ℕ
  first = blocks_in e.initialised

  abbrev many : ℕ
  many = blocks_in size - first

  abbrev rest : ℕ
  rest = blocks_in size - (first + 1)

  abbrev mid : List Touched
  mid = k.grows.put.0

  abbrev p : Record
  p = grown_file v.per runs more i

  file_is : z.file ≡ rooted root p
  file_is = k.grows.longer.file

  -- ---- the record

  rule : list_all (keeps_stream v.per v.clusters r.attrs) r.attrs ≡ true
  unfolding keeps_streams
  rule = (and_parts _ _ (and_parts _ _ (and_parts _ _ (streams_at d g clusters v n r state k.may.file)).0).0).0

  values : MakesBlocks r p behind → RewritesValues is_index_root (written_record p) (written_record z.file)
  values made = subst (λ (x : Record). RewritesValues is_index_root (written_record p) (written_record x)) (sym file_is) (roots_written.values v.per v.clusters r p behind value root rule k.level.old_root made)

  used : MakesBlocks r p behind → IsInUse p → IsInUse z.file
  used made was = subst IsInUse (sym file_is) (roots_written.used v.per v.clusters r p behind value root rule k.level.old_root made was)

  -- ---- what is put

  lawful : e.initialised ≤ e.real
  lawful = of.lawful_sizes d g clusters v r i state k.may.file k.may.streams

  one_more : suc rest ≡ many
  one_more = let up = lawful in let some = k.level.some in omega (arith, up, some)

  went : IsKept mid → Goes (IsBlockFrom v.per z.extents first many) (IsBlockFrom v.per z.extents first many) mid new
  went kept =
      let goes = level_goes c v.per z.extents node (zeros 4096) first rest mid k.may.sized k.level.long (zeros_long 4096) kept in
      let turned : Goes (IsBlockFrom v.per z.extents first (suc rest)) (IsBlockFrom v.per z.extents first (suc rest)) mid new = subst (Goes (IsBlockFrom v.per z.extents first (suc rest)) (IsBlockFrom v.per z.extents first (suc rest)) mid) (sym k.grows.put.1.1) goes in
      subst (λ (x : ℕ). Goes (IsBlockFrom v.per z.extents first x) (IsBlockFrom v.per z.extents first x) mid new) one_more turned

  laid : IsLaid c v bits bitmap mirror r i more old new z
  laid = record {
    may = k.may;
    extents = k.grows.longer.extents;
    came = k.grows.longer.taken;
    none = k.grows.longer.freed;
    fits = k.grows.fits;
    room = subst (λ (x : Record). fits_room x ≡ Ok tt) (sym file_is) k.room;
    mid = mid;
    put = k.grows.put.1.0;
    went = went;
    values = values;
    used = used;
  }

  kept_now : IsKept new
  kept_now = of.new_kept c g clusters v bits bitmap mirror r i more old new z eight state laid

  before : blocks_before r ≡ e
  before = of.before c g clusters v bits bitmap mirror r i more old new z eight state laid

  extents_are : z.extents ≡ behind
  extents_are = of.same_extents c g clusters v bits bitmap mirror r i more old new z eight state laid

  per_8 : v.per ≡ 8
  per_8 = of.per_8 c g clusters v bits bitmap mirror r i more old new z eight state laid

  edit : (bodies : List NewBody) × (EditsDraft c old new bodies × PutsRooted d v n r runs size size (written_record p) (written_record z.file) bodies)
  edit = of.laid_edit c g clusters v bits bitmap mirror r i more old new z eight state laid

  abbrev bodies : List NewBody
  bodies = edit.0

  puts : PutsRooted d v n r runs size size (written_record p) (written_record z.file) bodies
  puts = edit.1.1

  -- ---- the blocks

  sized_before : HasSizes d
  sized_before = sized_with c (bodies_of old) k.may.sized

  few : v.clusters ≤ cluster_limit
  few = let same = k.may.count in let low = k.may.stands.clusters_few in omega (arith, same, low)

  -- a block that comes to be initialised
  there : (m : ℕ) → 4096 * (m + 1) ≤ size → LiesThere v.per behind.runs m
  there m within =
      let inside = (and_parts (list_all (lies_inside v.clusters) behind.runs) (has_sizes v.per behind) (raising.new_fits d g clusters v n r runs size size (written_record p) (written_record z.file) bodies sized_before eight state puts)).0 in
      let whole = raising.new_whole d g clusters v n r runs size size (written_record p) (written_record z.file) bodies sized_before eight state puts in
      let spelled = raising.new_spelled d g clusters v n r runs size size (written_record p) (written_record z.file) bodies sized_before eight state puts in
      lies_there v.per v.clusters behind.runs m per_8 few spelled whole inside (low_by v.per per_8 puts.sizes.room)
    where
      low_by : (per : ℕ) → per ≡ 8 → size ≤ total_clusters behind.runs * (512 * per) → m < total_clusters behind.runs
      low_by per is = subst (λ (x : ℕ). size ≤ total_clusters behind.runs * (512 * x) → m < total_clusters behind.runs) (sym is) (λ high. omega (arith, high, within))

  block_is : (m : ℕ) (within : 4096 * (m + 1) ≤ size) → index_block v.per behind m ≡ (there m within).block
  unfolding index_block
  block_is m within =
      ap (λ (x : Bool). cond x void_block (or_void (block_at v.per behind.runs Index m))) (lt-leb size (4096 * m) (omega (arith, within))) ∙ ap or_void (there m within).lies

  in_draft : (m : ℕ) (within : 4096 * (m + 1) ≤ size) → block_at v.per z.extents.runs Index m ≡ Some (there m within).block
  in_draft m within = ap (λ (x : Extents). block_at v.per x.runs Index m) extents_are ∙ (there m within).lies

  body_is : (m : ℕ) (within : 4096 * (m + 1) ≤ size) (bytes : List ℕ) → body_in (bodies_of new) (there m within).block ≡ Some bytes → content_with d bodies (index_block v.per behind m) ≡ record { bytes = bytes; torn = false }
  body_is m within bytes put = ap (content_with d bodies) (block_is m within) ∙ ap (λ (y : Content). y (there m within).block) edit.1.0.content ∙ body_there c new (there m within).block bytes k.may.sized kept_now put

  within_first : 4096 * (first + 1) ≤ size
  within_first = let up = lawful in let some = k.level.some in let entire = k.level.whole in omega (arith, up, some, entire)

  some_per : 0 < v.per
  some_per = let is = per_8 in omega (arith, is)

  node_put : body_in (bodies_of new) (there first within_first).block ≡ Some node
  node_put =
      ap (λ (l : List Touched). body_in (bodies_of l) (there first within_first).block) k.grows.put.1.1
      ∙ one_put c v.per z.extents node (zeros 4096) first rest mid (there first within_first).block some_per
      (subst (λ (x : Extents). AreOnce x.runs) (sym extents_are) (raising.new_once d g clusters v n r runs size size (written_record p) (written_record z.file) bodies sized_before eight state puts)) (in_draft first within_first)

  zeros_put : (m : ℕ) (within : 4096 * (m + 1) ≤ size) → first + 1 ≤ m → body_in (bodies_of new) (there m within).block ≡ Some (zeros 4096)
  zeros_put m within past =
      ap (λ (l : List Touched). body_in (bodies_of l) (there m within).block) k.grows.put.1.1
      ∙ all_put c v.per z.extents (zeros 4096) (first + 1) rest (with_block c v.per z.extents node first mid) m (there m within).block (in_draft m within) past (omega (arith, past, within))

  -- ---- the index

  child : node_of_body first (content_with d bodies (index_block v.per behind first)) ≡ Ok (raws_of t)
  child = ap (node_of_body first) (body_is first within_first node node_put) ∙ k.level.entries

  level : PutsLevel d v n r runs size (written_record p) (written_record z.file) bodies value t first
  level = record {
    puts = puts;
    whole = subst (λ (x : Extents). x.real ≡ 4096 * (x.real / 4096)) (sym before) k.level.whole;
    root = k.level.old_root;
    index = k.level.index;
    low = k.level.low;
    past = subst (λ (x : Extents). x.initialised ≤ 4096 * first) (sym before) (omega arith);
    within = within_first;
    new_root =
        subst (λ (x : Record). root_value (written_record x) ≡ Some (root_spelling (clusters_of value) (last_entry (Some first) ∷ []))) (sym file_is)
        (roots_written.value v.per v.clusters r p behind value root rule k.level.old_root (of.made c g clusters v bits bitmap mirror r i more old new z eight state laid) ∙ ap (λ (x : List ℕ). Some x) k.level.new_root);
    child = child;
    none = λ m other past within. (let begins : e.initialised ≤ 4096 * m = subst (λ (x : Extents). x.initialised ≤ 4096 * m) before past in no_index (content_with d bodies (index_block v.per behind m)) (body_is m within (zeros 4096) (zeros_put m within (omega (arith, begins, other)))));
  }

  pub raised_edit : (all : List NewBody) × (EditsDraft c old new all × RaisesIndex d v n r runs size size (written_record p) (written_record z.file) all × IsRaised d v r value t first (drafted new c) (with_record v n (written_record z.file)) (written_record z.file))
  raised_edit = (
    bodies,
    (
      edit.1.0,
      level_came.raises d g clusters v n r runs size (written_record p) (written_record z.file) bodies value t first sized_before eight state level,
      subst (λ (y : Content). IsRaised d v r value t first y (with_record v n (written_record z.file)) (written_record z.file)) edit.1.0.content (level_came.index d g clusters v n r runs size (written_record p) (written_record z.file) bodies value t first sized_before eight state level),
    ),
  )

pub raised_is : RaisedIsEdit
raised_is c g clusters v bits bitmap mirror r i more value t root node old new z eight state k =
    (kept_now c g clusters v bits bitmap mirror r i more value t root node old new z eight state k, raised_edit c g clusters v bits bitmap mirror r i more value t root node old new z eight state k)
