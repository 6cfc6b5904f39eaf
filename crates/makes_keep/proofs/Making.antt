-- What a file that is made leaves behind a draft: what is put goes well, and all else stays.
use Rattle.std.proofs.Common.{◌≡◌, ◌≢◌, ◌⊎◌, subst, ℕ, zero, suc, ◌+◌, ◌*◌, ◌/◌, ◌<◌, ◌≤◌, Bool, true, false, not, cond, ◌&&◌, ◌||◌, eqb, nat_eq, leb, ltb, List, [], ◌∷◌, Option, Some, None, refl, sym, ap, ap₂, ◌∙◌, inl, inr, arith}
use Rattle.std.specs.Prelude.{All, map, slice_get}
use Rattle.std.specs.List.{AllByRecursion, range_with_len}
use Rattle.std.specs.Cmp.Lexicographic.{pointwise}
use Rattle.std.proofs.lemmas.Bool.{cases_Bool, cases_eq, cases_lt, both_ways, and_parts, and_right, or_cases, eqb-true, ne_eqb, lt-ltb, le-ltb, leb-false}
use Rattle.std.proofs.lemmas.List.Elements.{All-head, All-tail}
use Rattle.disk_model.specs.declared.block.Block.{Block}
use Rattle.disk_model.specs.declared.block.Body.{Body}
use Rattle.disk_model.specs.declared.block.BlockKind.{BlockKind}
use Rattle.disk_model.specs.declared.block.BlockKind.TheVariants.{Plain, FileRec, Index}
use Rattle.disk_model.specs.declared.block.Change.{Change}
use Rattle.disk_model.specs.Bodies.{BodyOf}
use Rattle.disk_model.specs.Content.{Content, HasSizes}
use Rattle.disk_model.specs.Sectors.{sectors}
use Rattle.fixup_record.specs.Spellings.{has_spelling}
use Rattle.record_model.specs.declared.runs.Run.{Run}
use Rattle.record_model.specs.declared.attribute.Attr.{Attr}
use Rattle.record_model.specs.Constants.{standard_information, attribute_list, data_type, bitmap_type, index_allocation, names_index}
use Rattle.record_model.specs.NodeLaws.{NodeIsBody}
use Rattle.record_model.specs.Records.{Record, record_spelling}
use Rattle.record_model.specs.RecordLaws.{RecordIsBody}
use Rattle.file_tree.specs.declared.node.Kind.TheVariants.{Directory, File, Fixed, Opaque, System}
use Rattle.file_tree.specs.declared.node.Node.{Node}
use Rattle.file_tree.specs.Trees.{node_at as node_by_number}
use Rattle.file_tree.specs.Walks.{root, first_user_record, at_some, passes_system}
use Rattle.index_model.specs.Indexes.{Place, node_block, number_of}
use Rattle.index_model.specs.Trees.{Tree, held, times}
use Rattle.index_plan.specs.declared.write.Write.{Write}
use Rattle.index_node.specs.Roots.{new_node}
use Rattle.index_places.proofs.Numbered.{numbered}
use Rattle.made_files.specs.index_change.declared.nodes_plan.NodesPlan.{NodesPlan}
use Rattle.made_files.specs.index_change.declared.plan.DirPlan.{DirPlan}
use Rattle.made_files.specs.index_change.Changing.{uses as vcn_uses, PutNodes}
use Rattle.state_model.specs.declared.geometry.Geometry.{Geometry}
use Rattle.state_model.specs.declared.stream.Extents.{Extents}
use Rattle.state_model.specs.declared.stream.Stream.{Stream}
use Rattle.state_model.specs.declared.stream.Stream.TheVariants.{Held, Placed}
use Rattle.state_model.specs.Files.{file_at, is_directory_record, record_links}
use Rattle.state_model.specs.Loads.{Used, extents_or, list_stream, table_slot, used_record}
use Rattle.state_model.specs.Streams.{block_at, is_attribute_of}
use Rattle.state_model.specs.Trees.{is_nameless, is_system}
use Rattle.stream_map.proofs.Reading.{kind-block_at}
use Rattle.upcase_order.specs.Tables.{upcase_of}
use Rattle.volume_model.specs.Indexes.{void_block, or_void, index_block, block_count, blocks_of, stream_blocks, index_stream, index_place}
use Rattle.volume_model.specs.Nodes.{kind_in, is_unread, is_unchanged, node_with, node_by, some_node, node_at}
use Rattle.volume_model.specs.Owners.{volume_runs}
use Rattle.volume_model.specs.Volumes.{Volume, count_of, file_in, file_stream, files_by_number, bytes_or, table_file, mirror_file, log_file, bitmap_file, upcase_file, upper_of, table_or_standard}
use Rattle.volume_state.specs.Trees.{tree_of}
use Rattle.stream_laws.specs.Frames.{SameBytesInSome, SameRecordIn}
use Rattle.stream_laws.specs.Owners.{Owns, stream_kind, initialised_in}
use Rattle.stream_laws.specs.Places.{AreOnce}
use Rattle.stream_laws.specs.Replacing.{FileEdit}
use Rattle.stream_laws.specs.Rewrites.{is_edited}
use Rattle.stream_laws.specs.Sharing.{StreamKey, stream_at, runs_in}
use Rattle.stream_laws.specs.Tables.{table_key}
use Rattle.stream_laws.specs.Volumes.{base_record}
use Rattle.stream_laws.proofs.Editing.{length-with_edits}
use Rattle.stream_laws.proofs.Framing.{same_slot}
use Rattle.stream_laws.proofs.Owning.{one_owner}
use Rattle.stream_laws.proofs.Placing.{lies}
use Rattle.stream_laws.proofs.Sharing.{attribute_kind, same_key as one_key, same_from_test}
use Rattle.stream_laws.proofs.Tabling.{inside_list, table_extents_is, table_runs}
use Rattle.tree_laws.specs.Planned.{IsInRecord}
use Rattle.tree_laws.proofs.Agreeing.{same_upper}
use Rattle.plan_owners.specs.States.{Stands}
use Rattle.plan_owners.specs.Agreeing.{IsJudged, log_key, list_key}
use Rattle.plan_owners.proofs.Agreed.{table_begins}
use Rattle.plan_owners.proofs.Outside.{once}
use Rattle.plan_owners.proofs.Standing.{slots, slot_record, some_file, as_file, is_base, begins}
use Rattle.plan_owners.proofs.Unnamed.{slot_of_base}
use Rattle.plan_bodies.specs.Bodies.{NewBody, body_in, body_or, whole_write}
use Rattle.plan_bodies.proofs.Putting.{body_put}
use Rattle.plan_draft.specs.declared.touched.Touched.{Touched}
use Rattle.plan_draft.specs.Touching.{touched_at, IsOldOf}
use Rattle.plan_draft.specs.Drafts.{drafted}
use Rattle.plans_keep.specs.plan_spares.Plans.{HasOwnLists}
use Rattle.plans_keep.specs.state_blocks.Needing.{IsNeeded}
use Rattle.plans_keep.proofs.state_blocks.Needing.{listed_judged}
use Rattle.plans_keep.specs.Keeping.{TouchesWell}
use Rattle.plans_keep.proofs.Keeping.{put_found}
use Rattle.made_files.specs.plan_growth.Streams.{marks_streams}
use Rattle.written_values.specs.plan_edits.Edits.{mirror_key, bitmap_key}
use Rattle.written_values.specs.plan_edits.Moves.{EditsDraft}
use Rattle.written_values.specs.plan_model.Attributes.{RewritesValues}
use Rattle.written_values.specs.plan_model.Edits.{IsOwnedIn}
use Rattle.written_values.specs.plan_model.Informed.{is_info}
use Rattle.written_values.specs.plan_model.Made.{made_streams, made_edits}
use Rattle.written_values.proofs.plan_model.Drafting.{per_is}
use Rattle.written_values.proofs.plan_model.OneRecord.{slot_put}
use Rattle.written_values.proofs.plan_model.Rewriting.{same_stream, same_directory}
use Rattle.written_values.proofs.plan_model.Stepping.{tree_nodes}
use Rattle.written_values.specs.plan_changes.Going.{StandsAs}
use Rattle.written_values.specs.draft_bits.Filling.{PutsBits, first_past}
use Rattle.written_values.specs.draft_records.Records.{record_block, has_mirror, written_record}
use Rattle.written_values.specs.step_model.Contents.{IsLeft, is_among, same_key}
use Rattle.written_values.specs.step_model.Placing.{Growth, wanted_by}
use Rattle.written_values.specs.step_model.Streams.{blocks_key, used_key, bits_key}
use Rattle.written_values.specs.file_puts.declared.streams.VolumeStreams.{VolumeStreams}
use Rattle.written_values.specs.file_puts.Puts.{PutsFileRecord}
use Rattle.written_values.specs.file_puts.Written.{AreStreamsOf}
use Rattle.written_values.proofs.Sparing.{elsewhere}
use Rattle.made_files.specs.plan_values.Values.{WritesValues}
use Rattle.made_files.specs.new_files.Laws.{NewFileReads}
use Rattle.made_files.specs.record_times.Laws.{TimesAreSet}
use Rattle.made_files.specs.record_times.Times.{timed_record}
use Rattle.made_files.specs.file_makes.declared.newfile.NewFile.{NewFile}
use Rattle.made_files.specs.file_makes.Making.{made_record, rooted_record, touch_nodes}
use Rattle.made_files.specs.Made.{rooted_directory, IsMadeEdit}
use Rattle.made_files.proofs.Nodes.{IsNodeOf, nodes_lie}
use Rattle.made_trees.specs.Created.{timed_directory, timed_volume, made_volume}
use Rattle.made_trees.specs.Grown.{IsOfGrowth}
use Rattle.made_trees.specs.Behind.{MakesFileBehind, HasMadeFileBehind}
use Rattle.made_trees.proofs.Going.{first_stands}
use Rattle.made_trees.proofs.Leaving.{one as times_edit, two as file_edit, sized_first, sized_middle, state_x, rewritten, stands_as, file_w as file_behind, dir_w as directory_behind, others_w as others_behind, x_runs as runs_with_times, w_runs as runs_behind, left as is_left}
use Rattle.writes_keep.specs.Writes.{HasWholeSectors, IsWritten, IsQuiet}
use Rattle.writes_keep.proofs.Behind.{table_kind, other_file}
use Rattle.writes_keep.proofs.Leaving.{IsWrittenAt, Leads, IsAsked}
use Rattle.writes_keep.proofs.Putting.{data_plain}
use Rattle.writes_keep.proofs.Spelled.{record_spelled}
use Rattle.writes_keep.proofs.Touching.{IsWellPut, IsWell, AreSectors, IsRecord, touch_well, record_well, bits_well}
use Rattle.makes_keep.specs.Makes.{IsPutStream, IsPutAt, PutsWell, GrowsWell}
use Rattle.makes_keep.proofs.Fresh.{GoesBehind, one_behind, record_behind, bytes_behind, nodes_behind, each_found}
use Rattle.makes_keep.proofs.Judging.{IsBegun, begun_since}
use Rattle.makes_keep.proofs.Nodes.{node_spelled}
use Rattle.makes_keep.proofs.Untorn.{index_type, record_untorn, node_untorn}

-- ---- streams

pub other_kind : (o y : StreamKey) → o.kind ≢ y.kind → o ≢ y
other_kind o y differ is = differ (ap (λ (i : StreamKey). i.kind) is)

bits_kind : stream_kind bits_key ≡ Plain
unfolding stream_kind
bits_kind = refl

pub blocks_kind : (n : ℕ) → stream_kind (blocks_key n) ≡ Index
unfolding stream_kind
blocks_kind n = ap (λ (x : Bool). cond (x && pointwise nat_eq names_index []) FileRec Index) (and_right (eqb n table_file || eqb n mirror_file) (eqb index_allocation data_type) refl)

pub extents_are : (o : Option Stream) → initialised_in o ≡ (extents_or o).initialised
extents_are None = refl
extents_are (Some (Held value)) = refl
extents_are (Some (Placed e)) = refl

bits_differ : bits_key ≢ table_key
bits_differ is = other_kind bits_key table_key (λ e. omega (arith, e)) is

pub blocks_differ : (n : ℕ) → blocks_key n ≢ table_key
blocks_differ n is = other_kind (blocks_key n) table_key (λ e. omega (arith, e)) is

-- streams in which only the edits of a new file put nothing
no_marks : (t : StreamKey) → eqb t.kind data_type ≡ false → marks_streams t ≡ false
no_marks t other = ap (λ (x : Bool). x && pointwise nat_eq t.name []) (and_right (eqb t.file bitmap_file || eqb t.file mirror_file) (eqb t.kind data_type) other)

neither : (a b : Bool) → ((a && false) || (b && false)) ≡ false
neither true true = refl
neither true false = refl
neither false true = refl
neither false false = refl

not_made : (dir : ℕ) (t : StreamKey) → eqb t.kind bitmap_type ≡ false → eqb t.kind index_allocation ≡ false → made_streams dir t ≡ false
not_made dir t one two = ap₂ (λ (a b : Bool). (eqb t.file table_file && a) || (eqb t.file dir && b)) one two ∙ neither (eqb t.file table_file) (eqb t.file dir)

-- ---- a directory of a user, or the root

root_or_user : (parent : ℕ → Option ℕ) (most n : ℕ) → 0 < most → passes_system parent most n ≡ false → (n ≡ root) ⊎ (first_user_record ≤ n)
unfolding passes_system
root_or_user parent zero n some is = absurd (omega (arith, some))
root_or_user parent (suc most) n some is = elim (cases_eq n root) [
  | inl same ↦ inl same
  | inr other ↦ elim (cases_lt n first_user_record) [
    | inr user ↦ inr user
    | inl low ↦
        (let passes : (not (eqb n root) && (ltb n first_user_record || at_some (passes_system parent most) (parent n))) ≡ true =
        ap₂ (λ (a b : Bool). not a && (b || at_some (passes_system parent most) (parent n))) (ne_eqb n root other) (lt-ltb n first_user_record low)
        in absurd (both_ways _ is passes))
  ]
]

-- ---- the kind of a node

directory_kind : (d s u f : Bool) → cond d Directory (cond s System (cond u Opaque (cond f Fixed File))) ≡ Directory → d ≡ true
directory_kind true s u f is = refl
directory_kind false true u f is = absurd cc
directory_kind false false true f is = absurd cc
directory_kind false false false true is = absurd cc
directory_kind false false false false is = absurd cc

of_kind : (v : Volume) (n : ℕ) (r : Record) → kind_in v n r ≡ Directory → is_directory_record r ≡ true
unfolding kind_in
of_kind v n r is = directory_kind (is_directory_record r) (is_system (files_by_number v) (count_of v) n (record_links n r)) (is_unread r) (is_unchanged r) is

to_kind : (v : Volume) (n : ℕ) (r : Record) → is_directory_record r ≡ true → kind_in v n r ≡ Directory
unfolding kind_in
to_kind v n r is = ap (λ (t : Bool). cond t Directory (cond (is_system (files_by_number v) (count_of v) n (record_links n r)) System (cond (is_unread r) Opaque (cond (is_unchanged r) Fixed File)))) is

own_node : (t : Bool) (a b : Node) → cond t None (Some b) ≡ Some a → b ≡ a
own_node true a b is = absurd cc
own_node false a b is = cc

node_kind : (bytes : Option Stream → List ℕ) (v : Volume) (n : ℕ) (r : Record) (a : Node) → node_by bytes v n r ≡ a → kind_in v n r ≡ a.kind
unfolding node_by node_with
node_kind bytes v n r a is = ap (λ (x : Node). x.kind) is

pub node_is : (bytes : Option Stream → List ℕ) (v : Volume) (n : ℕ) (r : Record) (a : Node) → file_in v n ≡ Some r → node_at bytes v n ≡ Some a → node_by bytes v n r ≡ a
unfolding node_at
node_is bytes v n r a file is = own_node (is_nameless n r) a (node_by bytes v n r) (sym (ap (some_node bytes v n) file) ∙ is)

-- ---- blocks of an index

index_not_info : (y : Attr) → is_attribute_of index_allocation names_index y ≡ true → is_info y ≡ false
index_not_info y is = ap (λ (i : ℕ). eqb i standard_information) (attribute_kind index_allocation names_index y is).0

element : (f : ℕ → Block) (a n i : ℕ) (b : Block) → slice_get (map f (range_with_len a n)) i ≡ Some b → f (a + i) ≡ b
element f a zero i b is = absurd cc
element f a (suc n) zero b is = (let first : f a ≡ b = cc in ap f (omega arith) ∙ first)
element f a (suc n) (suc i) b is = ap f (omega arith) ∙ element f (a + 1) n i b is

-- it lies in the runs, before the initialised size
pub record IsIndexBlock (per : ℕ) (o : Option Stream) (i : ℕ) (b : Block) : Type 0 where
  pub lies : block_at per (runs_in o) Index i ≡ Some b
  pub begun : 4096 * i < initialised_in o

begun_block : (per : ℕ) (e : Extents) (i : ℕ) (b : Block) → index_block per e i ≡ b → b ≢ void_block → (block_at per e.runs Index i ≡ Some b) × (4096 * i < e.initialised)
unfolding index_block
begun_block per e i b is real = by (leb e.initialised (4096 * i)) (block_at per e.runs Index i) refl is
  where
    by : (t : Bool) (o : Option Block) → leb e.initialised (4096 * i) ≡ t → cond t void_block (or_void o) ≡ b → (o ≡ Some b) × (4096 * i < e.initialised)
    by true o past at = absurd (real (sym at))
    by false None past at = absurd (real (sym at))
    by false (Some y) past at = (ap Some at, leb-false e.initialised (4096 * i) past)

stream_block : (per : ℕ) (o : Option Stream) (i : ℕ) (b : Block) → slice_get (stream_blocks per o) i ≡ Some b → b ≢ void_block → IsIndexBlock per o i b
unfolding blocks_of
stream_block per None i b is real = absurd cc
stream_block per (Some (Held value)) i b is real = absurd cc
stream_block per (Some (Placed e)) i b is real =
    let same : i ≡ 0 + i = omega arith in
    let parts = begun_block per e i b (ap (index_block per e) same ∙ element (index_block per e) 0 (block_count per e) i b is) real in
    record { lies = parts.0; begun = parts.1 }

-- ---- nodes, one after the other

nodes_well : (Goes Judged : Block → Type 0) (c : Content) (changes : List Change) (l : List Touched) → AllByRecursion (λ (x : Change). IsWellPut Goes Judged x.block false x.new) changes → AllByRecursion (IsWell Goes Judged) l → AllByRecursion (IsWell Goes Judged) (touch_nodes c changes l)
nodes_well Goes Judged c [] l each all = all
nodes_well Goes Judged c (x ∷ changes) l each all = nodes_well Goes Judged c changes (touch_of x) each.1 (touch_well Goes Judged l x.block false x.new (c x.block) each.0 all)
  where
    touch_of : Change → List Touched
    touch_of y = touch_nodes c (y ∷ []) l

each_as : {X : Type 0} (P Q : X → Type 0) → ((x : X) → P x → Q x) → (xs : List X) → AllByRecursion P xs → AllByRecursion Q xs
each_as P Q f [] all = tt
each_as P Q f (x ∷ xs) all = (f x all.0, each_as P Q f xs all.1)

both_of : {X : Type 0} (P Q : X → Type 0) (xs : List X) → AllByRecursion P xs → AllByRecursion Q xs → AllByRecursion (λ x. P x × Q x) xs
both_of P Q [] all more = tt
both_of P Q (x ∷ xs) all more = ((all.0, more.0), both_of P Q xs all.1 more.1)

module _ (times_set : TimesAreSet) (reads : NewFileReads) (record_body : RecordIsBody) (node_body : NodeIsBody) (c : Content) (g : Geometry) (clusters : ℕ) (v : Volume) (s : VolumeStreams) (numbers : Extents) (m : NewFile) (a : Node) (r : Record) (growths : List Growth) (u : Volume) (now : Record) (grown : List Touched) (value : List ℕ) (used : ℕ) (t : Tree)
    (fresh : List ℕ) (nodes : NodesPlan) (timed new : List Touched) (k : MakesFileBehind c g clusters v s numbers m a r growths u now grown value used t fresh nodes timed new) (well : GrowsWell c v m.parent.number u grown) (h : HasMadeFileBehind c g clusters v m a growths new (made_volume c u s m now k.made.put.plan timed)) (lists : HasOwnLists c v)
    (sectors_whole : HasWholeSectors c v) where
  abbrev n : ℕ
  n = m.file.number

  abbrev dir : ℕ
  dir = m.parent.number

  abbrev first : Content
  first = drafted grown c

  abbrev middle : Content
  middle = drafted timed c

  abbrev last : Content
  last = drafted new c

  abbrev p : Record
  p = timed_record m.stamp now

  abbrev q : Record
  q = timed_directory m.stamp now

  abbrev x : Volume
  x = timed_volume u m now

  abbrev z : Record
  z = rooted_directory k.made.put.plan (timed_directory m.stamp now)

  abbrev f : Record
  f = made_record (drafted timed c) s.table m

  abbrev w : Volume
  w = made_volume c u s m now k.made.put.plan timed

  abbrev edits : List FileEdit
  edits = made_edits m.file.number (made_record (drafted timed c) s.table m) m.parent.number (rooted_directory k.made.put.plan (timed_directory m.stamp now))

  one : (bodies : List NewBody) × (EditsDraft c grown timed bodies × WritesValues first u dir now p q bodies)
  one = times_edit times_set reads c g clusters v s numbers m a r growths u now grown value used t fresh nodes timed new k

  two : IsMadeEdit c x s m q value used t fresh k.made.put.plan timed new
  two = file_edit times_set reads c g clusters v s numbers m a r growths u now grown value used t fresh nodes timed new k

  left : IsLeft c v clusters (n ∷ dir ∷ []) growths last w
  left = is_left times_set reads c g clusters v s numbers m a r growths u now grown value used t fresh nodes timed new k

  first_sized : HasSizes first
  first_sized = sized_first times_set reads c g clusters v s numbers m a r growths u now grown value used t fresh nodes timed new k

  middle_sized : HasSizes middle
  middle_sized = sized_middle times_set reads c g clusters v s numbers m a r growths u now grown value used t fresh nodes timed new k

  stands_x : Stands middle g clusters x
  stands_x = state_x times_set reads c g clusters v s numbers m a r growths u now grown value used t fresh nodes timed new k

  stands_u : Stands first g clusters u
  stands_u = first_stands times_set reads c g clusters v s numbers m a r growths u now grown value used t fresh nodes timed new k

  stands_w : Stands last g clusters w
  stands_w = subst (λ (y : Content). Stands y g clusters w) h.content h.draft.stands

  values : RewritesValues is_info now p
  values = rewritten times_set reads c g clusters v s numbers m a r growths u now grown value used t fresh nodes timed new k

  written_as : StandsAs u dir p q
  written_as = stands_as times_set reads c g clusters v s numbers m a r growths u now grown value used t fresh nodes timed new k

  file_w : file_in w n ≡ Some f
  file_w = file_behind times_set reads c g clusters v s numbers m a r growths u now grown value used t fresh nodes timed new k

  dir_w : file_in w dir ≡ Some z
  dir_w = directory_behind times_set reads c g clusters v s numbers m a r growths u now grown value used t fresh nodes timed new k

  others_w : (i : ℕ) → i ≢ n → i ≢ dir → file_in w i ≡ file_in u i
  others_w = others_behind times_set reads c g clusters v s numbers m a r growths u now grown value used t fresh nodes timed new k

  x_runs : (o : StreamKey) → runs_in (stream_at x o) ≡ runs_in (stream_at u o)
  x_runs = runs_with_times times_set reads c g clusters v s numbers m a r growths u now grown value used t fresh nodes timed new k

  w_runs : (o : StreamKey) → runs_in (stream_at w o) ≡ runs_in (stream_at u o)
  w_runs = runs_behind times_set reads c g clusters v s numbers m a r growths u now grown value used t fresh nodes timed new k

  -- ---- the volumes

  u_per : u.per ≡ 8
  u_per = per_is first g clusters u k.eight stands_u

  v_per : v.per ≡ 8
  v_per = per_is c g clusters v k.eight k.stands

  user : first_user_record ≤ n
  user = k.made.number.user

  high : 4 ≤ dir
  high = k.made.directory.mirrored_none

  table_u : runs_in (stream_at u table_key) ≡ u.table.runs
  table_u = table_runs first g clusters u (begins first g clusters u stands_u)

  size_u : initialised_in (stream_at u table_key) ≡ u.table.initialised
  size_u = extents_are (stream_at u table_key) ∙ ap (λ (e : Extents). e.initialised) (table_extents_is first g clusters u (begins first g clusters u stands_u))

  once_w : AreOnce (volume_runs w.files)
  once_w = once last g clusters w stands_w

  dir_x : file_in x dir ≡ Some q
  dir_x = written_as.own.file

  dir_below : dir < count_of x
  dir_below = inside_list x.files dir q (some_file x dir q dir_x)

  dir_v : dir < count_of v
  dir_v = inside_list v.files dir r (some_file v dir r k.own.file)

  dir_is : (dir ≡ root) ⊎ (first_user_record ≤ dir)
  dir_is = root_or_user _ (count_of v) dir (let below = dir_v in omega (arith, below)) k.outside

  dir_written : IsWritten dir
  dir_written = elim dir_is [
    | inl is ↦ inr (inr (inl is))
    | inr is ↦ inr (inr (inr (inr is)))
  ]

  -- ---- where it goes

  abbrev Begun : Block → Type 0
  Begun b = IsJudged v b ⊎ IsJudged u b

  abbrev AllWell : List Touched → Type 0
  AllWell l = AllByRecursion (IsWell (IsPutAt dir w) Begun) l

  put_at : (o : StreamKey) (kind : BlockKind) (runs : List Run) (i : ℕ) (b : Block) → runs_in (stream_at u o) ≡ runs → stream_kind o ≡ kind → block_at 8 runs kind i ≡ Some b → IsPutStream dir o → (o ≡ table_key → i ≢ 2) → IsPutAt dir w b
  put_at o kind runs i b is_runs is_kind at which second = record {
    own = record { stream = o; number = i; lies = ap (λ (pr : ℕ). block_at pr (runs_in (stream_at w o)) (stream_kind o) i) u_per ∙ ap₂ (λ (l : List Run) (y : BlockKind). block_at 8 l y i) (w_runs o ∙ is_runs) is_kind ∙ at };
    which = which;
    second = second;
  }

  judged_at : (o : StreamKey) (kind : BlockKind) (runs : List Run) (initialised i : ℕ) (b : Block) → runs_in (stream_at u o) ≡ runs → initialised_in (stream_at u o) ≡ initialised → stream_kind o ≡ kind → o ≢ log_key → block_at 8 runs kind i ≡ Some b → 512 * (sectors kind * i) < initialised → IsJudged u b
  judged_at o kind runs initialised i b is_runs is_size is_kind other at below = record {
    live = record {
      owned = record { stream = o; number = i; lies = ap (λ (pr : ℕ). block_at pr (runs_in (stream_at u o)) (stream_kind o) i) u_per ∙ ap₂ (λ (l : List Run) (y : BlockKind). block_at 8 l y i) is_runs is_kind ∙ at };
      begins = subst (λ (y : BlockKind). 512 * (sectors y * i) < initialised_in (stream_at u o)) (sym is_kind) (subst (λ (j : ℕ). 512 * (sectors kind * i) < j) (sym is_size) below);
    };
    other = other;
  }

  -- a record
  in_table : (i : ℕ) (b : Block) → record_block 8 s.table i ≡ Some b → block_at 8 u.table.runs FileRec i ≡ Some b
  in_table i b at = ap (λ (e : Extents). block_at 8 e.runs FileRec i) (sym k.streams.table) ∙ at

  no_mirror : (i : ℕ) → 4 ≤ i → has_mirror s.mirror i ≡ false
  no_mirror i at_least = ap (λ (y : Bool). y && ltb i (s.mirror.real / 1024)) (le-ltb i 4 at_least)

  record_at : (i : ℕ) → 4 ≤ i → IsRecord (IsPutAt dir w) Begun s.table s.mirror i
  record_at i at_least = record {
    alone = no_mirror i at_least;
    goes = λ b at. put_at table_key FileRec u.table.runs i b table_u table_kind (in_table i b at) (inl refl) (λ is two. omega (arith, at_least, two));
    begun = λ b at begun.
        (let below : 1024 * i < u.table.initialised = leb-false u.table.initialised (1024 * i) (ap (λ (e : Extents). leb e.initialised (1024 * i)) (sym k.streams.table) ∙ begun) in
        inr (judged_at table_key FileRec u.table.runs u.table.initialised i b table_u size_u table_kind (other_file table_key log_key (λ e. omega (arith, e))) (in_table i b at) (omega (arith, below))));
  }

  file_well : (i : ℕ) (y : Record) (old made : List Touched) → 4 ≤ i → PutsFileRecord c s i y old made → AllWell old → AllWell made
  file_well i y old made at_least put all =
      subst AllWell (sym put.put) (record_well (IsPutAt dir w) Begun c s.table s.mirror i (record_spelling (written_record y)) old (record_at i at_least) (record_spelled record_body y put.fits put.room) all)

  file_goes : (i : ℕ) (y : Record) (old made : List Touched) → PutsFileRecord c s i y old made → GoesBehind old made
  file_goes i y old made put = subst (GoesBehind old) (sym put.put) (record_behind c s.table s.mirror i (record_spelling (written_record y)) old)

  -- the bits of the numbers
  numbers_u : stream_at u bits_key ≡ Some (Placed numbers)
  numbers_u = sym (ap (file_stream bitmap_type []) (elsewhere u dir table_file q (λ is. (let above = high in omega (arith, is, above))))) ∙ k.made.bits.stream

  bits_are : AreSectors (IsPutAt dir w) Begun numbers.runs (first_past numbers)
  bits_are i b at = (
    put_at bits_key Plain numbers.runs i b (ap runs_in numbers_u) bits_kind at (inr (inr (inl refl))) (λ is. absurd (bits_differ is)),
    λ lt. inr (judged_at bits_key Plain numbers.runs numbers.initialised i b (ap runs_in numbers_u) (ap initialised_in numbers_u) bits_kind (other_file bits_key log_key (λ e. omega (arith, e))) at (omega (arith, lt))),
  )

  -- a node
  abbrev place : Place
  place = index_place u.per (timed_directory m.stamp now)

  abbrev plan : DirPlan
  plan = k.made.put.plan

  index_u : index_stream q ≡ stream_at u (blocks_key dir)
  unfolding index_stream
  index_u = written_as.streams index_allocation names_index ∙ same_stream is_info now p index_allocation names_index values index_not_info ∙ sym (ap (file_stream index_allocation names_index) k.before.own.file)

  -- a block of the index that the plan may write
  pub record IsNodeBlock (b : Block) : Type 0 where
    pub kind : b.kind ≡ Index
    pub goes : IsPutAt dir w b
    pub judged : IsJudged u b

  node_block_is : (vcn : ℕ) (b : Block) → node_block place vcn ≡ Some b → b ≢ void_block → IsNodeBlock b
  unfolding index_place
  node_block_is vcn b at real =
      let there = stream_block u.per (index_stream q) (number_of place vcn) b (numbered place vcn b at) real in
      let i : ℕ = number_of place vcn in
      let lies : block_at 8 (runs_in (stream_at u (blocks_key dir))) Index i ≡ Some b = ap (λ (pr : ℕ). block_at pr (runs_in (stream_at u (blocks_key dir))) Index i) (sym u_per) ∙ ap (λ (o : Option Stream). block_at u.per (runs_in o) Index i) (sym index_u) ∙ there.lies in
      let begun : 4096 * i < initialised_in (stream_at u (blocks_key dir)) = subst (λ (o : Option Stream). 4096 * i < initialised_in o) index_u there.begun in
      record {
        kind = kind-block_at 8 (runs_in (stream_at u (blocks_key dir))) Index i b (sym lies);
        goes = put_at (blocks_key dir) Index (runs_in (stream_at u (blocks_key dir))) i b refl (blocks_kind dir) lies (inr (inr (inr (inr (inl refl))))) (λ is. absurd (blocks_differ dir is));
        judged = judged_at (blocks_key dir) Index (runs_in (stream_at u (blocks_key dir))) (initialised_in (stream_at u (blocks_key dir))) i b refl refl (blocks_kind dir) (other_kind (blocks_key dir) log_key (λ e. omega (arith, e))) lies (omega (arith, begun));
      }

  is_written : (b : Block) → IsNodeOf place two.index.writes b → IsNodeBlock b
  is_written b is =
      let some = is.1.0 in
      let placed = two.index.placed is.0.vcn in
      let counts = two.index.numbers is.0.vcn in
      node_block_is is.0.vcn b is.1.1 (k.made.entry.real is.0.vcn b (taken_used is.0.vcn (omega (arith, some, placed, counts))) is.1.1)
    where
      taken_used : (vcn : ℕ) → 0 < held vcn t + times vcn plan.taken.items → 0 < vcn_uses t nodes.taken.items vcn
      taken_used vcn = subst (λ (l : List ℕ). 0 < held vcn t + times vcn l) k.made.put.laid.taken

  nodes_fit : (writes : List Write) (changes : List Change) → PutNodes place writes changes → AllByRecursion (λ (y : Change). IsNodeBlock y.block) changes → AllByRecursion (λ (y : Change). IsWellPut (IsPutAt dir w) Begun y.block false y.new) changes
  nodes_fit [] [] puts each = tt
  nodes_fit [] (y ∷ changes) puts each = absurd puts
  nodes_fit (o ∷ writes) [] puts each = absurd puts
  nodes_fit (o ∷ writes) (y ∷ changes) puts each = (
    record { goes = each.0.goes; begun = λ is. inr each.0.judged; spelled = ap₂ has_spelling each.0.kind puts.0.new ∙ node_spelled node_body (new_node o.vcn o.entries) puts.0.fits },
    nodes_fit writes changes puts.1 each.1,
  )

  each_node : AllByRecursion (λ (y : Change). IsWellPut (IsPutAt dir w) Begun y.block false y.new) plan.changes.items
  each_node =
      nodes_fit two.index.writes plan.changes.items two.index.puts
      (each_as (λ (y : Change). IsNodeOf place two.index.writes y.block) (λ (y : Change). IsNodeBlock y.block) (λ y. is_written y.block) plan.changes.items (nodes_lie place two.index.writes plan.changes.items two.index.puts))

  -- ---- all that is put

  grown_well : AllWell grown
  grown_well = each_as (PutsWell v dir u) (IsWell (IsPutAt dir w) Begun) (λ y is. record { goes = moved y.block is.goes; begun = λ old. inl (is.begun old); spelled = is.spelled }) grown well.each
    where
      moved : (b : Block) → IsPutAt dir u b → IsPutAt dir w b
      moved b at = record { own = record { stream = at.own.stream; number = at.own.number; lies = ap (λ (l : List Run). block_at u.per l (stream_kind at.own.stream) at.own.number) (w_runs at.own.stream) ∙ at.own.lies }; which = at.which; second = at.second }

  abbrev rooted : List Touched
  rooted = k.made.put.rooted

  abbrev noded : List Touched
  noded = touch_nodes c k.made.put.plan.changes.items k.made.put.rooted

  abbrev made : List Touched
  made = k.made.put.behind.made

  bit_put : PutsBits c 8 numbers n 1 true made new
  bit_put = k.made.put.behind.bit

  all_well : AllWell new
  all_well =
      bits_well (IsPutAt dir w) Begun c numbers n 1 true made new bits_are bit_put
      (file_well n f noded made (let low = user in omega (arith, low)) k.made.put.behind.file
      (nodes_well (IsPutAt dir w) Begun c plan.changes.items rooted each_node
      (file_well dir (rooted_record plan.root q) timed rooted high k.made.put.root (file_well dir p grown timed high k.times grown_well))))

  all_goes : GoesBehind grown new
  all_goes =
      one_behind grown timed new (file_goes dir p grown timed k.times)
      (one_behind timed rooted new (file_goes dir (rooted_record plan.root q) timed rooted k.made.put.root)
      (one_behind rooted noded new (nodes_behind c plan.changes.items rooted)
      (one_behind noded made new (file_goes n f noded made k.made.put.behind.file)
      (subst (GoesBehind made) (sym bit_put.1.1) (bytes_behind c numbers.runs (first_past numbers) (n / 8) bit_put.0 made)))))

  -- ---- blocks by which the state before is judged

  low_file : (i : ℕ) → i < first_user_record → i ≢ root → i ≢ dir
  low_file i low no_root is = elim dir_is [
    | inl same ↦ no_root (is ∙ same)
    | inr above ↦ omega (arith, is, low, above)
  ]

  log_same : runs_in (stream_at u log_key) ≡ runs_in (stream_at v log_key)
  log_same = ap (λ (o : Option Record). runs_in (file_stream data_type [] o)) (well.others log_file (low_file log_file (omega arith) (λ e. omega (arith, e))) (λ e. omega (arith, e)))

  begun_of : (y : Touched) → IsWell (IsPutAt dir w) Begun y → touched_at new y.block ≡ Some y → y.fresh ≡ false → IsJudged v y.block
  begun_of y is found =
      begun_since c g clusters v u k.before.bodies k.before.gave grown k.eight k.stands k.before.draft k.before.same (each_as (PutsWell v dir u) (IsBegun v) (λ o put. put.begun) grown well.each) log_same new k.before.kept.rises all_goes y found is.begun

  -- ---- none of them is torn

  same_nodes : node_by_number (tree_of first u).nodes dir ≡ node_by_number (tree_of c v).nodes dir
  same_nodes = elim k.before.tree [
    | inl differs ↦ differs.nodes dir
    | inr came ↦ came.nodes dir
  ]

  now_directory : is_directory_record now ≡ true
  now_directory = sym (same_directory is_info now p values) ∙ k.made.directory.directory

  directory : is_directory_record r ≡ true
  directory =
      let there = node_kind (bytes_or first u.per) u dir now a (node_is (bytes_or first u.per) u dir now a k.before.own.file (sym (tree_nodes first u dir) ∙ same_nodes ∙ k.node)) in
      let here = node_kind (bytes_or c v.per) v dir r a (node_is (bytes_or c v.per) v dir r a k.own.file (sym (tree_nodes c v dir) ∙ k.node)) in
      of_kind v dir r (here ∙ sym there ∙ to_kind u dir now now_directory)

  judged_of : (b : Block) → IsNeeded c v b → IsJudged v b
  judged_of b (inl judged) = judged
  judged_of b (inr listed) = listed_judged c v b listed (lists listed.number listed.file listed.is_file)

  -- an index block is put into the directory's index alone
  other_type : (o y : StreamKey) → o ≡ y → o.kind ≡ index_allocation → y.kind ≢ index_allocation → o ≡ blocks_key dir
  other_type o y is kind differ = absurd (differ (sym (ap (λ (i : StreamKey). i.kind) is) ∙ kind))

  in_blocks : (o : StreamKey) → IsPutStream dir o → o.kind ≡ index_allocation → o ≡ blocks_key dir
  in_blocks o (inl is) kind = other_type o table_key is kind (λ e. omega (arith, e))
  in_blocks o (inr (inl is)) kind = other_type o mirror_key is kind (λ e. omega (arith, e))
  in_blocks o (inr (inr (inl is))) kind = other_type o bits_key is kind (λ e. omega (arith, e))
  in_blocks o (inr (inr (inr (inl is)))) kind = other_type o bitmap_key is kind (λ e. omega (arith, e))
  in_blocks o (inr (inr (inr (inr (inl is))))) kind = is
  in_blocks o (inr (inr (inr (inr (inr is))))) kind = other_type o (used_key dir) is kind (λ e. omega (arith, e))

  key_is : (o y : StreamKey) → same_key o y ≡ true → o ≡ y
  key_is o y is =
      let parts = and_parts (eqb o.file y.file && eqb o.kind y.kind) (pointwise nat_eq o.name y.name) is in
      let both = and_parts (eqb o.file y.file) (eqb o.kind y.kind) parts.0 in
      one_key o y (eqb-true o.file y.file both.0) (eqb-true o.kind y.kind both.1) (same_from_test o.name y.name parts.1)

  of_growth : (l : List Growth) → AllByRecursion (IsOfGrowth dir) l → (o : StreamKey) → is_among l o ≡ true → o.kind ≡ index_allocation → o ≡ blocks_key dir
  of_growth [] all o is kind = absurd cc
  of_growth (y ∷ l) all o is kind = elim (or_cases (same_key y.stream o) (is_among l o) is) [
    | inl same ↦ by (sym (key_is y.stream o same)) all.0
    | inr more ↦ of_growth l all.1 o more kind
  ]
    where
      by : o ≡ y.stream → IsOfGrowth dir y → o ≡ blocks_key dir
      by same (inl (inl blocks)) = same ∙ blocks
      by same (inl (inr bits)) = other_type o (used_key dir) (same ∙ bits) kind (λ e. omega (arith, e))
      by same (inr (inl records)) = other_type o table_key (same ∙ records) kind (λ e. omega (arith, e))
      by same (inr (inr numbers_bits)) = other_type o bits_key (same ∙ numbers_bits) kind (λ e. omega (arith, e))

  index_stream_is : (b : Block) → b.kind ≡ Index → IsPutAt dir w b → (own : Owns v b) → own.stream ≡ blocks_key dir
  index_stream_is b is put own =
      let kind = index_type own.stream ((lies v.per (runs_in (stream_at v own.stream)) (stream_kind own.stream) own.number b own.lies).kind_is ∙ is) in
      let put_kind = index_type put.own.stream ((lies w.per (runs_in (stream_at w put.own.stream)) (stream_kind put.own.stream) put.own.number b put.own.lies).kind_is ∙ is) in
      elim (cases_Bool (is_among growths own.stream)) [
        | inl grew ↦ of_growth growths k.before.streams own.stream grew kind
        | inr stays ↦
            (let behind : Owns w b = record { stream = own.stream; number = own.number; lies = ap₂ (λ (pr : ℕ) (l : List Run). block_at pr l (stream_kind own.stream) own.number) (u_per ∙ sym v_per) (left.others own.stream stays) ∙ own.lies } in
            sym (one_owner w b stands_w.some once_w put.own behind).0 ∙ in_blocks put.own.stream put.which put_kind)
      ]

  untorn : (b : Block) → IsPutAt dir w b → IsNeeded c v b → (c b).torn ≡ false
  untorn b put needed = by b.kind refl
    where
      judged : IsJudged v b
      judged = judged_of b needed

      by : (y : BlockKind) → b.kind ≡ y → (c b).torn ≡ false
      by Plain is = sectors_whole b judged is
      by FileRec is = record_untorn c g clusters v k.stands b judged.live is
      by Index is = node_untorn c g clusters v k.stands dir r b judged.live k.own.file directory (index_stream_is b is put judged.live.owned) is

  touches_well : (l : List Touched) → All (IsOldOf c) l → AllByRecursion (λ (y : Touched). IsWell (IsPutAt dir w) Begun y × (touched_at new y.block ≡ Some y)) l → AllByRecursion (TouchesWell c v) l
  touches_well [] olds all = tt
  touches_well (y ∷ l) olds all = (
    record {
      spelled = all.0.0.spelled;
      begun = begun_of y all.0.0 all.0.1;
      whole = λ needed. sym (ap (λ (o : BodyOf). o.torn) (All-head (IsOldOf c) y l olds)) ∙ untorn y.block all.0.0.goes needed;
    },
    touches_well l (All-tail (IsOldOf c) y l olds) all.1,
  )

  pub touches : All (IsOldOf c) new → AllByRecursion (TouchesWell c v) new
  touches olds = touches_well new olds (both_of (IsWell (IsPutAt dir w) Begun) (λ (y : Touched). touched_at new y.block ≡ Some y) new all_well (each_found 0 new two.kept.rises))

  -- ---- streams in which operations write

  stream_written : (o : StreamKey) → IsPutStream dir o → IsWritten o.file
  stream_written o (inl is) = inl (ap (λ (y : StreamKey). y.file) is)
  stream_written o (inr (inl is)) = inr (inl (ap (λ (y : StreamKey). y.file) is))
  stream_written o (inr (inr (inl is))) = inl (ap (λ (y : StreamKey). y.file) is)
  stream_written o (inr (inr (inr (inl is)))) = inr (inr (inr (inl (ap (λ (y : StreamKey). y.file) is))))
  stream_written o (inr (inr (inr (inr (inl is))))) = subst (λ (y : StreamKey). IsWritten y.file) (sym is) dir_written
  stream_written o (inr (inr (inr (inr (inr is))))) = subst (λ (y : StreamKey). IsWritten y.file) (sym is) dir_written

  pub each_written : AllByRecursion (λ (y : Touched). IsWrittenAt w y.block) new
  each_written = each_as (IsWell (IsPutAt dir w) Begun) (λ (y : Touched). IsWrittenAt w y.block) (λ y is. record { own = is.goes.own; written = stream_written is.goes.own.stream is.goes.which; second = is.goes.second }) new all_well

  -- ---- all else stays

  not_dir : (i : ℕ) → IsQuiet i → i ≢ dir
  not_dir i quiet is = quiet (subst IsWritten (sym is) dir_written)

  quiet_runs : (o : StreamKey) → IsQuiet o.file → runs_in (stream_at w o) ≡ runs_in (stream_at v o)
  quiet_runs o quiet = w_runs o ∙ ap (λ (y : Option Record). runs_in (file_stream o.kind o.name y)) (well.others o.file (not_dir o.file quiet) (λ is. quiet (inl is)))

  pub leads : Leads c g clusters v h.bodies w
  leads = record { sized = k.sized; eight = k.eight; stands = k.stands; gave = h.gave; draft = h.draft; quiet = quiet_runs; takes = left.takes }

  -- a block of which the stream and the record aren't put
  module _ (b : Block) (own : Owns w b) (unmade : made_streams dir own.stream ≡ false) (unmarked : marks_streams own.stream ≡ false) (no_file : own.stream ≡ table_key → own.number ≢ n) (no_directory : own.stream ≡ table_key → own.number ≢ dir) where
    in_w : (o : StreamKey) (i : ℕ) (runs : List Run) → runs_in (stream_at w o) ≡ runs → block_at u.per runs (stream_kind o) i ≡ Some b → (own.stream ≡ o) × (own.number ≡ i)
    in_w o i runs same at = one_owner w b stands_w.some once_w own (record { stream = o; number = i; lies = ap (λ (l : List Run). block_at u.per l (stream_kind o) i) same ∙ at })

    in_record : (i : ℕ) → block_at u.per u.table.runs FileRec i ≡ Some b → (own.stream ≡ table_key) × (own.number ≡ i)
    in_record i at = in_w table_key i u.table.runs (w_runs table_key ∙ table_u) (ap (λ (y : BlockKind). block_at u.per u.table.runs y i) table_kind ∙ at)

    abbrev OfTimes : Block → Type 0
    OfTimes y = IsOwnedIn marks_streams u y ⊎ (block_at u.per u.table.runs FileRec dir ≡ Some y)

    abbrev OfFile : Block → Type 0
    OfFile y = IsOwnedIn (made_streams dir) x y ⊎ ((i : ℕ) × ((is_edited edits i ≡ true) × (block_at u.per u.table.runs FileRec i ≡ Some y)))

    not_of_times : OfTimes b → ⊥
    not_of_times (inl owned) = both_ways (marks_streams own.stream) unmarked (ap marks_streams (in_w owned.stream owned.number (runs_in (stream_at u owned.stream)) (w_runs owned.stream) owned.lies).0 ∙ owned.chosen)
    not_of_times (inr its) = (let at = in_record dir its in no_directory at.0 at.1)

    not_edited : (i : ℕ) → own.stream ≡ table_key → own.number ≡ i → is_edited edits i ≡ true → ⊥
    not_edited i stream number is = elim (or_cases (eqb n i) (eqb dir i || false) is) [
      | inl same ↦ no_file stream (number ∙ sym (eqb-true n i same))
      | inr rest ↦ elim (or_cases (eqb dir i) false rest) [
        | inl same ↦ no_directory stream (number ∙ sym (eqb-true dir i same))
        | inr never ↦ absurd cc
      ]
    ]

    not_of_file : OfFile b → ⊥
    not_of_file (inl owned) = both_ways (made_streams dir own.stream) unmade (ap (made_streams dir) (in_w owned.stream owned.number (runs_in (stream_at x owned.stream)) (w_runs owned.stream ∙ sym (x_runs owned.stream)) owned.lies).0 ∙ owned.chosen)
    not_of_file (inr its) = (let at = in_record its.0 its.1.1 in not_edited its.0 at.0 at.1 its.1.0)

    of_file : (y : NewBody) → IsOwnedIn (made_streams dir) x y.block ⊎ IsInRecord (is_edited edits) x (whole_write y) → OfFile y.block
    of_file y (inl owned) = inl owned
    of_file y (inr its) = inr (its.number, (its.chosen, its.lies))

    file_away : last b ≡ middle b
    file_away = ap (λ (y : Content). y b) (sym two.edits.content) ∙ body_put middle two.bodies b middle_sized two.makes.whole ∙ by (body_in two.bodies b) refl
      where
        by : (o : Option (List ℕ)) → body_in two.bodies b ≡ o → body_or (middle b) (body_in two.bodies b) ≡ middle b
        by None is = ap (body_or (middle b)) is
        by (Some bytes) is =
            absurd (not_of_file (put_found OfFile two.bodies b (each_as (λ (y : NewBody). IsOwnedIn (made_streams dir) x y.block ⊎ IsInRecord (is_edited edits) x (whole_write y)) (λ (y : NewBody). OfFile y.block) of_file two.bodies two.makes.each) (bytes, is)))

    times_away : middle b ≡ first b
    times_away = ap (λ (y : Content). y b) (sym one.1.0.content) ∙ body_put first one.0 b first_sized one.1.1.put.puts.whole ∙ by (body_in one.0 b) refl
      where
        by : (o : Option (List ℕ)) → body_in one.0 b ≡ o → body_or (first b) (body_in one.0 b) ≡ first b
        by None is = ap (body_or (first b)) is
        by (Some bytes) is = absurd (not_of_times (put_found OfTimes one.0 b one.1.1.put.puts.each (bytes, is)))

    body_stays : last b ≡ first b
    body_stays = file_away ∙ times_away

  record_stays : (i : ℕ) (b : Block) → i ≢ n → i ≢ dir → block_at u.per u.table.runs FileRec i ≡ Some b → last b ≡ first b
  record_stays i b other more at =
      body_stays b
      (record { stream = table_key; number = i; lies = ap₂ (λ (l : List Run) (y : BlockKind). block_at u.per l y i) (w_runs table_key ∙ table_u) table_kind ∙ at })
      (not_made dir table_key refl refl) refl (λ is. other) (λ is. more)

  records_same : (i : ℕ) → i ≢ n → i ≢ dir → SameRecordIn first last u.per u.table i
  records_same i other more b at = record_stays i b other more at.lies

  -- ---- attribute lists

  slot_n : table_slot last u.per u.table n ≡ Used f
  slot_n =
      ap (λ (y : Content). table_slot y u.per u.table n) (sym two.edits.content)
      ∙ slot_put middle x n f two.bodies two.makes.made.block two.makes.made.bytes middle_sized two.makes.whole (table_begins middle g clusters x n stands_x two.makes.within) two.makes.made.place two.makes.made.put two.makes.made.reads

  slot_dir : table_slot last u.per u.table dir ≡ Used z
  slot_dir =
      ap (λ (y : Content). table_slot y u.per u.table dir) (sym two.edits.content)
      ∙ slot_put middle x dir z two.bodies two.makes.anew.block two.makes.anew.bytes middle_sized two.makes.whole (table_begins middle g clusters x dir stands_x dir_below) two.makes.anew.place two.makes.anew.put two.makes.anew.reads

  list_of : (i : ℕ) (y : Record) → file_in w i ≡ Some y → stream_at w (list_key i y) ≡ list_stream y
  unfolding list_stream
  list_of i y is = ap (file_stream attribute_list (list_key i y).name) is

  listed_at : (i j : ℕ) (y o : Record) → i ≡ j → file_in w j ≡ Some y → table_slot last u.per u.table j ≡ Used y → table_slot last u.per u.table i ≡ Used o → stream_at w (list_key i o) ≡ list_stream o
  listed_at i j y o same file slot here =
      let one_slot : Used y ≡ Used o = sym slot ∙ ap (table_slot last u.per u.table) (sym same) ∙ here in
      let equal : y ≡ o = cc in
      ap₂ (λ (l : ℕ) (b : Record). stream_at w (list_key l b)) same (sym equal) ∙ list_of j y file ∙ ap list_stream equal

  lists_after : HasOwnLists last w
  unfolding file_at
  lists_after i y is =
      let at = slot_of_base last w i y is in
      elim (cases_eq i n) [
        | inl same ↦ listed_at i n f y same file_w slot_n at.1
        | inr other ↦ elim (cases_eq i dir) [
          | inl same ↦ listed_at i dir z y same dir_w slot_dir at.1
          | inr more ↦
              (let slot : table_slot first u.per u.table i ≡ Used y = sym (same_slot first last u.per u.table i (records_same i other more)) ∙ at.1 in
              let before : slots first u i ≡ Some y = slot_record first u i at.0 ∙ ap used_record slot in
              let base : base_record first u.per u.table i ≡ Some y = as_file (slots first u i) y before (is_base (slots last w i) y is) in
              ap (file_stream attribute_list (list_key i y).name) (others_w i other more) ∙ well.lists i y base)
        ]
      ]

  -- ---- the table of upper-case units

  low_not_n : (i : ℕ) → i < first_user_record → i ≢ n
  low_not_n i low is = (let above = user in omega (arith, is, low, above))

  no_upcase : upcase_file ≢ dir
  no_upcase is = k.made.directory.apart.upcase (sym is)

  upper_same_in : (o : Option Stream) → file_stream data_type [] (file_in u upcase_file) ≡ o → SameBytesInSome first last u.per o
  upper_same_in None is = tt
  upper_same_in (Some (Held bytes)) is = tt
  upper_same_in (Some (Placed e)) is = λ b read.
      ap (λ (y : Body). y.bytes)
      (body_stays b
      (record {
        stream = upcase_key;
        number = read.sector;
        lies = ap₂ (λ (l : List Run) (y : BlockKind). block_at u.per l y read.sector) (w_runs upcase_key ∙ ap runs_in is) (data_plain upcase_file (λ e. omega (arith, e)) (λ e. omega (arith, e))) ∙ read.lies;
      })
      (not_made dir upcase_key refl refl) refl (λ same. absurd (other_file upcase_key table_key (λ e. omega (arith, e)) same)) (λ same. absurd (other_file upcase_key table_key (λ e. omega (arith, e)) same)))
    where
      upcase_key : StreamKey
      upcase_key = record { file = upcase_file; kind = data_type; name = [] }

  upper_of_file : upper_of last w ≡ upper_of last u
  unfolding upper_of
  upper_of_file = ap (λ (o : Option Record). table_or_standard (upcase_of (bytes_or last u.per (file_stream data_type [] o)))) (others_w upcase_file (low_not_n upcase_file (omega arith)) no_upcase)

  upper_after : upper_of last w ≡ upper_of c v
  upper_after = upper_of_file ∙ same_upper first last u (upper_same_in (file_stream data_type [] (file_in u upcase_file)) refl) ∙ well.upper

  -- ---- what a draft asks of a state

  own_file_w : (i : ℕ) → i < first_user_record → i ≢ root → file_in w i ≡ file_in u i
  own_file_w i low no_root = others_w i (low_not_n i low) (low_file i low no_root)

  streams_after : AreStreamsOf w s
  streams_after = record {
    table = k.streams.table;
    mirror = ap (λ (o : Option Record). extents_or (file_stream data_type [] o)) (own_file_w mirror_file (omega arith) (λ e. omega (arith, e))) ∙ k.streams.mirror;
    bitmap = record {
      stream = ap (file_stream data_type []) (own_file_w bitmap_file (omega arith) (λ e. omega (arith, e))) ∙ k.streams.bitmap.stream;
      lawful = k.streams.bitmap.lawful;
      below = k.streams.bitmap.below;
      lies = k.streams.bitmap.lies;
    };
  }

  same_count : count_of w ≡ count_of u
  same_count = length-with_edits x.files edits ∙ length-with_edits u.files (record { number = dir; file = Some q } ∷ [])

  pub asked : (tree_of c v).journal ≡ None → IsAsked c v last w s
  asked journal = record {
    lists = lists_after;
    upper = upper_after;
    streams = streams_after;
    journal = (h.tree (wanted_by growths) (omega arith)).journal ∙ journal;
    count = (let same = same_count in let more = well.count in omega (arith, same, more));
    files = λ i low no_table no_root. own_file_w i low no_root ∙ well.others i (low_file i low no_root) no_table;
  }
