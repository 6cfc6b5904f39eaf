-- A directory's times leave its index, and what was planned over it.
use Rattle.std.proofs.Common.{◌≡◌, ℕ, ◌/◌, true, false, eqb, List, [], Option, Ok, refl, sym, ap, subst, ◌∙◌}
use mathlib.Core.Path.{fun_ext}
use Rattle.disk_model.specs.declared.block.Block.{Block}
use Rattle.disk_model.specs.declared.block.BlockKind.TheVariants.{Index}
use Rattle.disk_model.specs.Content.{Content, HasSizes}
use Rattle.record_model.specs.declared.attribute.Attr.{Attr}
use Rattle.record_model.specs.declared.entry.Entry.{Entry as Raw}
use Rattle.record_model.specs.Constants.{data_type, index_allocation, index_root, names_index, standard_information}
use Rattle.record_model.specs.Records.{Record, record_spelling}
use Rattle.index_model.specs.declared.key.Key.{Key}
use Rattle.index_model.specs.Trees.{Tree, walk}
use Rattle.index_model.specs.Indexes.{Place, node_of_block, nodes_of, IsIndex}
use Rattle.index_model.specs.Laws.{HoldsIndex}
use Rattle.index_change.specs.declared.nodes_plan.NodesPlan.{NodesPlan}
use Rattle.index_change.specs.NodePlans.{PlansNodes, NewNodes, rooted_of}
use Rattle.index_change.specs.Orders.{goes, link_of}
use Rattle.index_change.specs.Plans.{root_room, seventeen, needs_level}
use Rattle.index_change.specs.index_plan.Laws.{NewTree}
use Rattle.index_change.specs.index_plan.Search.{put}
use Rattle.state_model.specs.declared.geometry.Geometry.{Geometry}
use Rattle.state_model.specs.declared.stream.Extents.{Extents}
use Rattle.state_model.specs.declared.stream.Stream.{Stream}
use Rattle.state_model.specs.Indexes.{is_names_root}
use Rattle.state_model.specs.Streams.{is_attribute_of}
use Rattle.volume_model.specs.Indexes.{index_stream, index_place, stream_blocks}
use Rattle.volume_model.specs.Volumes.{Volume, bytes_or, file_in, file_stream, table_or_standard, upcase_file, upper_of}
use Rattle.upcase_order.specs.Tables.{upcase_of}
use Rattle.stream_laws.specs.Frames.{SameNodesIn}
use Rattle.stream_laws.proofs.Framing.{same_node, same_place}
use Rattle.tree_laws.specs.Contents.{SameUpper}
use Rattle.tree_laws.proofs.Agreeing.{same_upper}
use Rattle.plan_owners.specs.States.{Stands}
use Rattle.plan_bodies.specs.Bodies.{NewBody, body_in}
use Rattle.plan_bodies.proofs.Putting.{sized_with}
use Rattle.plan_draft.specs.declared.touched.Touched.{Touched}
use Rattle.plan_draft.specs.Touching.{bodies_of}
use Rattle.plan_draft.specs.Drafts.{drafted}
use Rattle.made_trees.specs.plan_model.Attributes.{RewritesValues}
use Rattle.made_trees.specs.plan_model.Informed.{is_info, with_record}
use Rattle.made_trees.proofs.plan_model.Drafting.{per_is}
use Rattle.made_trees.proofs.plan_model.Rewriting.{same_root, same_stream}
use Rattle.draft_bits.proofs.BitEffects.{drafted_same}
use Rattle.draft_records.specs.Records.{record_block, is_past, written_record, touch_if, touch_record}
use Rattle.record_streams.proofs.Streams.{attribute_kind}
use Rattle.made_trees.specs.record_times.Times.{timed_record}
use Rattle.made_trees.specs.record_times.Laws.{TimesAreSet}
use Rattle.made_trees.specs.made_files.plan_values.Values.{WritesValues}
use Rattle.made_trees.proofs.plan_values.Valued.{values_written}
use Rattle.made_trees.proofs.made_files.plan_informed.Informed.{values_edit}
use Rattle.made_trees.specs.step_model.Placing.{Growth}
use Rattle.made_trees.specs.change_steps.plan_edits.Moves.{EditsDraft}
use Rattle.made_trees.proofs.change_steps.plan_changes.Going.{files_going}
use Rattle.made_trees.specs.file_puts.declared.streams.VolumeStreams.{VolumeStreams}
use Rattle.made_trees.proofs.written_values.Joining.{puts_record}
use Rattle.made_trees.proofs.written_values.Sparing.{elsewhere}
use Rattle.made_trees.specs.Created.{timed_directory}
use Rattle.made_trees.specs.Grown.{KeepsIndex}
use Rattle.made_steps.specs.Timed.{PutsTimesOver, TimesKeepGrown, TimesKeepIndex, IndexesMove}
use Rattle.made_steps.proofs.Frames.{no_mirror, index_away, same_in, root_written}

info_spares : (kind : ℕ) (name : List ℕ) → eqb kind standard_information ≡ false → (a : Attr) → is_attribute_of kind name a ≡ true → is_info a ≡ false
info_spares kind name other a is = ap (λ (x : ℕ). eqb x standard_information) (attribute_kind kind name a is).0 ∙ other

root_spares : (a : Attr) → is_names_root a ≡ true → is_info a ≡ false
unfolding is_names_root is_attribute_of
root_spares a is = info_spares index_root names_index refl a is

pub upper_by : (c d : Content) (v w : Volume) → w.per ≡ v.per → file_in w upcase_file ≡ file_in v upcase_file → SameUpper c d v → upper_of d w ≡ upper_of c v
unfolding upper_of
upper_by c d v w per same bytes =
    ap (λ (o : Option Record). table_or_standard (upcase_of (bytes_or d w.per (file_stream data_type [] o)))) same
    ∙ ap (λ (e : ℕ). table_or_standard (upcase_of (bytes_or d e (file_stream data_type [] (file_in v upcase_file))))) per
    ∙ same_upper c d v bytes

-- ---- an index that stands elsewhere

pub moved : (d e : Content) (here there : Place) (low high value : List ℕ) (u : Tree) → low ≡ high → nodes_of (node_of_block d here) ≡ nodes_of (node_of_block e there) → HoldsIndex d here low value u → HoldsIndex e there high value u
moved d e here there low high value u uppers nodes h =
    let by_upper : IsIndex (nodes_of (node_of_block d here)) h.entries high u = subst (λ (y : List ℕ). IsIndex (nodes_of (node_of_block d here)) h.entries y u) uppers h.is_index in
    record { entries = h.entries; root_read = h.root_read; is_index = subst (λ (y : ℕ → Option (List Raw)). IsIndex y h.entries high u) nodes by_upper }

-- ---- the times

module _ (times_set : TimesAreSet) (c : Content) (g : Geometry) (clusters : ℕ) (v : Volume) (s : VolumeStreams) (n stamp : ℕ) (r : Record) (growths : List Growth) (u : Volume) (now : Record) (grown timed : List Touched) (k : PutsTimesOver c g clusters v s n stamp r growths u now grown timed) where
  abbrev first : Content
  first = drafted grown c

  abbrev middle : Content
  middle = drafted timed c

  abbrev p : Record
  p = timed_record stamp now

  abbrev q : Record
  q = timed_directory stamp now

  abbrev x : Volume
  x = with_record u n (timed_directory stamp now)

  sized_first : HasSizes first
  sized_first = sized_with c (bodies_of grown) k.sized

  state_first : Stands first g clusters u
  state_first = subst (λ (y : Content). Stands y g clusters u) k.before.content k.before.draft.stands

  rewritten : RewritesValues is_info now p
  rewritten = times_set.rewritten stamp now k.info

  edit : (bodies : List NewBody) × (EditsDraft c grown timed bodies × WritesValues first u n now p q bodies)
  edit = values_edit.times c g clusters u s.mirror n now p grown timed state_first k.before.own rewritten (puts_record c u s n p grown timed k.sized k.before.kept (per_is first g clusters u k.eight state_first) k.streams.table k.streams.mirror k.times)

  upper_same : upper_of middle x ≡ upper_of first u
  upper_same =
      let bytes : SameUpper first middle u = subst (λ (y : Content). SameUpper first y u) edit.1.0.content (values_written.leads first g clusters u n now p q edit.0 sized_first state_first edit.1.1).agrees.upper in
      upper_by first middle u x refl (elsewhere u n upcase_file q (λ same. k.before.own.apart.upcase (sym same))) bytes

  place_is : index_place u.per q ≡ index_place u.per now
  unfolding index_place index_stream
  place_is =
      ap (λ (o : Option Stream). record { blocks = stream_blocks u.per o; step = 8 / u.per })
      ((files_going.written first g clusters u n now p q edit.0 sized_first state_first edit.1.1).streams index_allocation names_index ∙ same_stream is_info now p index_allocation names_index rewritten (info_spares index_allocation names_index refl))

  timed_is : timed ≡ touch_if c (record_block u.per u.table n) (is_past u.table n) (record_spelling (written_record p)) grown
  timed_is =
      k.times.put
      ∙ ap (λ (e : ℕ). touch_record c e s.table s.mirror n (record_spelling (written_record p)) grown) (sym (per_is first g clusters u k.eight state_first))
      ∙ ap (λ (e : Extents). touch_record c u.per e s.mirror n (record_spelling (written_record p)) grown) k.streams.table
      ∙ no_mirror c u.per u.table s.mirror n (record_spelling (written_record p)) grown k.mirrored_none

  block_same : (b : Block) → b.kind ≡ Index → middle b ≡ first b
  block_same b kind =
      drafted_same c grown timed b k.sized k.before.kept k.kept (ap (λ (l : List Touched). body_in (bodies_of l) b) timed_is ∙ index_away c u.per u.table n (is_past u.table n) (record_spelling (written_record p)) grown b kind)

  same_nodes : SameNodesIn first middle (index_place u.per now)
  same_nodes = same_place first middle u.per now (same_in first middle u.per (index_stream now) block_same)

  nodes_same : nodes_of (node_of_block middle (index_place u.per q)) ≡ nodes_of (node_of_block first (index_place u.per now))
  nodes_same =
      ap (λ (y : Place). nodes_of (node_of_block middle y)) place_is
      ∙ ap nodes_of (fun_ext (λ i. same_node first middle (index_place u.per now) i same_nodes))

  pub keeps : KeepsIndex first u now middle x q
  keeps = record {
    upper = upper_same;
    root = root_written p ∙ same_root is_info now p rewritten root_spares;
    nodes = λ i. ap (λ (f : ℕ → Option (List Raw)). f i) nodes_same;
  }

pub times_keep_grown : TimesAreSet → TimesKeepGrown
times_keep_grown times_set c g clusters v s n stamp r growths u now grown timed k = keeps times_set c g clusters v s n stamp r growths u now grown timed k

-- an index that stands as one that stands as it stood at first
pub kept_on : (c d e : Content) (v u w : Volume) (r q z : Record) → KeepsIndex c v r d u q → KeepsIndex d u q e w z → KeepsIndex c v r e w z
kept_on c d e v u w r q z first later = record {
  upper = later.upper ∙ first.upper;
  root = later.root ∙ first.root;
  nodes = λ i. later.nodes i ∙ first.nodes i;
}

pub times_keep : TimesAreSet → TimesKeepIndex
times_keep times_set c g clusters v s n stamp r growths u now grown timed k =
    kept_on c (drafted grown c) (drafted timed c) v u (with_record u n (timed_directory stamp now)) r now (timed_directory stamp now) k.index
    (times_keep_grown times_set c g clusters v s n stamp r growths u now grown timed (record {
      sized = k.sized;
      eight = k.eight;
      before = k.before;
      streams = k.streams;
      info = k.info;
      mirrored_none = k.mirrored_none;
      kept = k.kept;
      times = k.times;
    }))

-- ---- plans

pub same_read : (c d : Content) (v u : Volume) (r q : Record) → KeepsIndex c v r d u q → nodes_of (node_of_block d (index_place u.per q)) ≡ nodes_of (node_of_block c (index_place v.per r))
same_read c d v u r q k = fun_ext (λ i. k.nodes i)

new_nodes : (c d : Content) (here there : Place) (upper value : List ℕ) (used : ℕ) (key : Key) (fresh : List ℕ) (t : Tree) (n : NodesPlan) → nodes_of (node_of_block c here) ≡ nodes_of (node_of_block d there) → NewNodes c here upper value used key fresh t n → NewNodes d there upper value used key fresh t n
new_nodes c d here there upper value used key fresh t n same k = record {
  becomes = subst (λ (f : ℕ → Option (List Raw)). NewTree f t (seventeen fresh) (put (goes upper (link_of key).name) key (walk t)) (λ x. 0) (root_room used value) (needs_level upper (root_room used value) key (seventeen fresh) t) (rooted_of (seventeen fresh) n)) same k.becomes;
  is = k.is;
  low = k.low;
  level = k.level;
  few = k.few;
}

pub indexes_move : IndexesMove
indexes_move = record {
  holds = λ c d v u r q value t k h. moved c d (index_place v.per r) (index_place u.per q) (upper_of c v) (upper_of d u) value t (sym k.upper) (sym (same_read c d v u r q k)) h;
  plans = λ c d v u r q value used key fresh nodes k plan.
      (let same = same_read c d v u r q k in
      let by : PlansNodes d (index_place u.per q) (upper_of c v) value used key fresh (Ok nodes) = (
        λ t h. plan.0 t (moved d c (index_place u.per q) (index_place v.per r) (upper_of c v) (upper_of c v) value t refl same h),
        λ t h once. new_nodes c d (index_place v.per r) (index_place u.per q) (upper_of c v) value used key fresh t nodes (sym same) (plan.1 t (moved d c (index_place u.per q) (index_place v.per r) (upper_of c v) (upper_of c v) value t refl same h) once),
      )
      in
      subst (λ (upper : List ℕ). PlansNodes d (index_place u.per q) upper value used key fresh (Ok nodes)) (sym k.upper) by);
}
