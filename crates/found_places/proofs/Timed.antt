-- A directory whose times a draft has put: what stays of the volume, of its index and of the spare numbers.
use Rattle.std.proofs.Common.{◌≡◌, ◌≢◌, ℕ, ◌+◌, ◌-◌, ◌/◌, ◌<◌, ◌≤◌, true, false, cond, eqb, List, [], ◌∷◌, ◌++◌, length, map, Option, Some, refl, sym, ap, ap₂, subst, ◌∙◌, append-nil, length-append, arith}
use mathlib.Core.Path.{fun_ext}
use Rattle.std.specs.Prelude.{Result, replicate}
use Rattle.std.proofs.lemmas.List.{length-replicate}
use Rattle.disk_model.specs.declared.block.Block.{Block}
use Rattle.disk_model.specs.declared.block.BlockKind.TheVariants.{Index}
use Rattle.disk_model.specs.Bytes.{zeros, up8}
use Rattle.disk_model.specs.Content.{Content, HasSizes}
use Rattle.record_model.specs.declared.attribute.Attr.{Attr}
use Rattle.record_model.specs.declared.attribute.OwnForm.{OwnForm}
use Rattle.record_model.specs.declared.attribute.OwnForm.TheVariants.{Resident, Mapped}
use Rattle.record_model.specs.declared.entry.Entry.{Entry as Raw}
use Rattle.record_model.specs.Attributes.{filled}
use Rattle.record_model.specs.Constants.{bitmap_type, data_type, index_allocation, index_root, names_index, standard_information}
use Rattle.record_model.specs.Records.{Record, record_spelling}
use Rattle.record_writer.specs.Normal.{normal_form, normal}
use Rattle.host_base.specs.declared.file_ref.FileRef.{FileRef}
use Rattle.index_model.specs.Trees.{Tree}
use Rattle.index_model.specs.Indexes.{Place, node_of_block, nodes_of, IsIndex}
use Rattle.index_model.specs.Laws.{HoldsIndex}
use Rattle.state_model.specs.declared.geometry.Geometry.{Geometry}
use Rattle.state_model.specs.declared.stream.Extents.{Extents}
use Rattle.state_model.specs.declared.stream.Stream.{Stream}
use Rattle.state_model.specs.Files.{info_of, is_directory_record, reference}
use Rattle.state_model.specs.Indexes.{is_names_root}
use Rattle.state_model.specs.Loads.{extents_or}
use Rattle.state_model.specs.Streams.{is_attribute_of}
use Rattle.volume_model.specs.Indexes.{index_stream, index_place, stream_blocks, root_value}
use Rattle.volume_model.specs.Volumes.{Volume, bytes_or, count_of, file_in, file_stream, table_file, mirror_file, bitmap_file, upcase_file, upper_of, table_or_standard}
use Rattle.volume_state.specs.Trees.{tree_of, tree_with}
use Rattle.upcase_order.specs.Tables.{upcase_of}
use Rattle.stream_laws.specs.Frames.{SameNodesIn}
use Rattle.stream_laws.proofs.Framing.{same_node, same_place}
use Rattle.tree_laws.specs.Contents.{SameUpper}
use Rattle.tree_laws.proofs.Agreeing.{same_upper}
use Rattle.tree_model.specs.Effects.{new_numbers, numbers_to_take, least_ref}
use Rattle.plan_owners.specs.States.{Stands}
use Rattle.plan_bodies.specs.Bodies.{NewBody, body_in}
use Rattle.plan_bodies.proofs.Putting.{sized_with}
use Rattle.plan_draft.specs.declared.touched.Touched.{Touched}
use Rattle.plan_draft.specs.Touching.{bodies_of}
use Rattle.plan_draft.specs.Drafts.{drafted}
use Rattle.draft_bits.specs.Effects.{IsKept}
use Rattle.draft_bits.proofs.BitEffects.{drafted_same}
use Rattle.draft_records.specs.Records.{record_block, is_past, written_record, touch_if, touch_record}
use Rattle.record_streams.proofs.Streams.{attribute_kind}
use Rattle.made_trees.specs.plan_model.Attributes.{RewritesValues}
use Rattle.made_trees.specs.plan_model.Informed.{is_info, InfoDiffers}
use Rattle.made_trees.specs.change_steps.plan_values.Values.{WritesValues}
use Rattle.made_trees.specs.record_times.Times.{timed_record}
use Rattle.made_trees.specs.record_times.Laws.{TimesAreSet}
use Rattle.made_trees.specs.file_puts.declared.streams.VolumeStreams.{VolumeStreams}
use Rattle.made_trees.specs.file_puts.Written.{AreStreamsOf}
use Rattle.made_trees.specs.change_steps.plan_edits.Moves.{EditsDraft}
use Rattle.made_trees.specs.change_steps.plan_edits.Records.{PutsRecordOf}
use Rattle.made_trees.specs.file_makes.declared.newfile.NewFile.{NewFile}
use Rattle.made_trees.specs.made_files.Made.{HasNumbers, IsParent, IsSpare}
use Rattle.made_trees.specs.Created.{timed_directory, timed_volume}
use Rattle.made_trees.proofs.plan_model.Drafting.{per_is}
use Rattle.made_trees.proofs.plan_model.Rewriting.{same_root, same_stream, same_directory}
use Rattle.made_trees.proofs.plan_values.Valued.{values_written}
use Rattle.made_trees.proofs.made_files.plan_informed.Informed.{values_edit}
use Rattle.made_trees.proofs.written_values.plan_changes.Going.{files_going}
use Rattle.made_trees.proofs.written_values.plan_edits.Recording.{record_edit}
use Rattle.made_trees.proofs.written_values.Joining.{nothing_put, nothing_kept, Reaches, begins, goes_behind, puts_record}
use Rattle.made_trees.proofs.written_values.Sparing.{elsewhere}
use Rattle.made_trees.specs.change_steps.plan_changes.Going.{StandsAs}
use Rattle.made_steps.proofs.Frames.{no_mirror, index_away, same_in, root_written}
use Rattle.found_places.specs.Places.{PutsDirectory, HasTimes}
use Rattle.found_places.proofs.Numbers.{number_clear}

-- ---- a record that is written is as it is written

filled_twice : (pairs : List ℕ) → filled 0 (filled 0 pairs) ≡ filled 0 pairs
unfolding filled zeros
filled_twice pairs =
    let one : List ℕ = pairs ++ replicate (up8 (0 + length pairs) - (0 + length pairs)) 0 in
    let none : up8 (0 + length one) - (0 + length one) ≡ 0 = (let size = length-append pairs (replicate (up8 (0 + length pairs) - (0 + length pairs)) 0) in let more = length-replicate {A = ℕ} (up8 (0 + length pairs) - (0 + length pairs)) 0 in omega (arith, size, more)) in
    ap (λ (n : ℕ). one ++ replicate n 0) none ∙ append-nil one

form_twice : (form : OwnForm) → normal_form (normal_form form) ≡ normal_form form
form_twice (Resident value indexed) = refl
form_twice (Mapped sizes pairs) = ap (λ (l : List ℕ). Mapped sizes l) (filled_twice pairs)

pub normal_twice : (attrs : List Attr) → map normal (map normal attrs) ≡ map normal attrs
normal_twice [] = refl
normal_twice (a ∷ attrs) = ap₂ (λ (f : OwnForm) (l : List Attr). record { head = a.head; name = a.name; form = f } ∷ l) (form_twice a.form) (normal_twice attrs)

-- ---- what standard information is not

info_spares : (kind : ℕ) (name : List ℕ) → eqb kind standard_information ≡ false → (a : Attr) → is_attribute_of kind name a ≡ true → is_info a ≡ false
info_spares kind name other a is = ap (λ (x : ℕ). eqb x standard_information) (attribute_kind kind name a is).0 ∙ other

root_spares : (a : Attr) → is_names_root a ≡ true → is_info a ≡ false
unfolding is_names_root is_attribute_of
root_spares a is = info_spares index_root names_index refl a is

upper_by : (c d : Content) (v w : Volume) → w.per ≡ v.per → file_in w upcase_file ≡ file_in v upcase_file → SameUpper c d v → upper_of d w ≡ upper_of c v
unfolding upper_of
upper_by c d v w per same bytes =
    ap (λ (o : Option Record). table_or_standard (upcase_of (bytes_or d w.per (file_stream data_type [] o)))) same
    ∙ ap (λ (e : ℕ). table_or_standard (upcase_of (bytes_or d e (file_stream data_type [] (file_in v upcase_file))))) per
    ∙ same_upper c d v bytes

-- an index that stands elsewhere
pub moved : (d e : Content) (here there : Place) (low high value : List ℕ) (u : Tree) → here ≡ there → low ≡ high → node_of_block d there ≡ node_of_block e there → HoldsIndex d here low value u → HoldsIndex e there high value u
moved d e here there low high value u places uppers nodes h =
    let first : HoldsIndex d there low value u = subst (λ (y : Place). HoldsIndex d y low value u) places h in
    let second : HoldsIndex d there high value u = subst (λ (y : List ℕ). HoldsIndex d there y value u) uppers first in
    record { entries = second.entries; root_read = second.root_read; is_index = subst (λ (y : ℕ → Result (List Raw) ℕ). IsIndex (nodes_of y) second.entries high u) nodes second.is_index }

module _ (times_set : TimesAreSet) (c : Content) (g : Geometry) (clusters : ℕ) (v : Volume) (s : VolumeStreams) (m : NewFile) (r : Record) (timed : List Touched) (k : PutsDirectory c g clusters v s m r timed) where
  abbrev dir : ℕ
  dir = m.parent.number

  abbrev first : Content
  first = drafted [] c

  abbrev middle : Content
  middle = drafted timed c

  abbrev p : Record
  p = timed_record m.stamp r

  abbrev q : Record
  q = timed_directory m.stamp r

  abbrev x : Volume
  x = timed_volume v m r

  start : first ≡ c
  start = nothing_put c k.sized

  first_sized : HasSizes first
  first_sized = sized_with c (bodies_of []) k.sized

  first_stands : Stands first g clusters v
  first_stands = subst (λ (y : Content). Stands y g clusters v) (sym start) k.stands

  anew : RewritesValues is_info r p
  anew = times_set.rewritten m.stamp r k.info

  puts : PutsRecordOf c v s.mirror dir p [] timed
  puts = puts_record c v s dir p [] timed k.sized nothing_kept (per_is c g clusters v k.eight k.stands) k.streams.table k.streams.mirror k.times

  kept : IsKept timed
  kept = record_edit.kept c v s.mirror dir p [] timed puts

  edit : (bodies : List NewBody) × (EditsDraft c [] timed bodies × WritesValues first v dir r p q bodies)
  edit = values_edit.times c g clusters v s.mirror dir r p [] timed first_stands k.own anew puts

  reaches : Reaches c g clusters v timed x
  reaches = goes_behind c g clusters v v x [] timed edit.0 k.sized k.eight k.stands (begins c g clusters v k.sized k.stands) edit.1.0 (λ gave clear. values_written.goes_on c v first g clusters v dir r p q edit.0 gave first_sized first_stands edit.1.1 clear)

  stands : Stands middle g clusters x
  stands = subst (λ (y : Content). Stands y g clusters x) reaches.content reaches.draft.stands

  pub informed : InfoDiffers dir (info_of p) (tree_of c v) (tree_of middle x)
  informed =
      let there = subst (λ (y : Content). InfoDiffers dir (info_of p) (tree_of first v) (tree_of y x)) edit.1.0.content (values_written.times_alone first g clusters v dir r p q edit.0 first_sized first_stands edit.1.1 anew) in
      subst (λ (y : Content). InfoDiffers dir (info_of p) (tree_of y v) (tree_of middle x)) start there

  -- ---- the files

  other_file : (i : ℕ) → i ≢ dir → file_in x i ≡ file_in v i
  other_file i other = elsewhere v dir i q other

  low_file : (i : ℕ) → i + 1 ≤ 4 → file_in x i ≡ file_in v i
  low_file i low = other_file i (λ same. (let high = k.high in omega (arith, same, low, high)))

  bits_file : file_in x bitmap_file ≡ file_in v bitmap_file
  bits_file = other_file bitmap_file (λ same. k.own.apart.bitmap (sym same))

  count_same : count_of x ≡ count_of v
  unfolding tree_of tree_with
  count_same = informed.count

  streams : AreStreamsOf x s
  streams = record {
    table = k.streams.table;
    mirror = ap (λ (o : Option Record). extents_or (file_stream data_type [] o)) (low_file mirror_file (omega arith)) ∙ k.streams.mirror;
    bitmap = record {
      stream = ap (file_stream data_type []) bits_file ∙ k.streams.bitmap.stream;
      lawful = k.streams.bitmap.lawful;
      below = k.streams.bitmap.below;
      lies = k.streams.bitmap.lies;
    };
  }

  -- ---- the directory

  stands_as : StandsAs v dir p q
  stands_as = files_going.written first g clusters v dir r p q edit.0 first_sized first_stands edit.1.1

  -- ---- its index

  upper_same : upper_of middle x ≡ upper_of c v
  upper_same =
      let bytes : SameUpper first middle v = subst (λ (y : Content). SameUpper first y v) edit.1.0.content (values_written.leads first g clusters v dir r p q edit.0 first_sized first_stands edit.1.1).agrees.upper in
      upper_by first middle v x refl (other_file upcase_file (λ same. k.own.apart.upcase (sym same))) bytes ∙ ap (λ (y : Content). upper_of y v) start

  place_same : index_place v.per q ≡ index_place v.per r
  unfolding index_place index_stream
  place_same =
      ap (λ (o : Option Stream). record { blocks = stream_blocks v.per o; step = 8 / v.per })
      (stands_as.streams index_allocation names_index ∙ same_stream is_info r p index_allocation names_index anew (info_spares index_allocation names_index refl))

  timed_is : timed ≡ touch_if c (record_block v.per v.table dir) (is_past v.table dir) (record_spelling (written_record p)) []
  timed_is =
      k.times.put
      ∙ ap (λ (e : ℕ). touch_record c e s.table s.mirror dir (record_spelling (written_record p)) []) (sym (per_is c g clusters v k.eight k.stands))
      ∙ ap (λ (e : Extents). touch_record c v.per e s.mirror dir (record_spelling (written_record p)) []) k.streams.table
      ∙ no_mirror c v.per v.table s.mirror dir (record_spelling (written_record p)) [] k.high

  block_same : (b : Block) → b.kind ≡ Index → middle b ≡ c b
  block_same b kind =
      drafted_same c [] timed b k.sized nothing_kept kept (ap (λ (l : List Touched). body_in (bodies_of l) b) timed_is ∙ index_away c v.per v.table dir (is_past v.table dir) (record_spelling (written_record p)) [] b kind)
      ∙ ap (λ (y : Content). y b) start

  same_nodes : SameNodesIn c middle (index_place v.per r)
  same_nodes = same_place c middle v.per r (same_in c middle v.per (index_stream r) block_same)

  nodes_same : node_of_block middle (index_place v.per r) ≡ node_of_block c (index_place v.per r)
  nodes_same = fun_ext (λ i. same_node c middle (index_place v.per r) i same_nodes)

  root_same : root_value q ≡ root_value r
  root_same = root_written p ∙ same_root is_info r p anew root_spares

  pub has_times : HasTimes c g clusters v s m r timed
  has_times = record { kept = kept; stands = stands; streams = streams; file = stands_as.own; upper = upper_same; place = place_same; nodes = nodes_same; root = root_same }

  -- ---- the numbers

  pub numbers_there : (numbers : Extents) → HasNumbers v numbers → HasNumbers x numbers
  numbers_there numbers h = record {
    stream = ap (file_stream bitmap_type []) (low_file table_file (omega arith)) ∙ h.stream;
    lawful = h.lawful;
    below = (let low = h.below in omega (arith, low, count_same));
    lies = h.lies;
  }

  spares_same : numbers_to_take (tree_of middle x) ≡ numbers_to_take (tree_of c v)
  spares_same = ap₂ (λ (l : List FileRef) (i : ℕ). cond (eqb (length l) 0) (new_numbers i) l) informed.spare informed.count

  pub spare_there : least_ref (numbers_to_take (tree_of c v)) ≡ Some m.file → IsSpare c v m.file.number → IsSpare middle x m.file.number
  spare_there least spare =
      let within : m.file.number < count_of x = (let low = spare.within in omega (arith, low, count_same)) in
      let clear = number_clear middle x m.file (ap least_ref spares_same ∙ least) within in
      record { user = spare.user; within = within; clear = clear.clear; lies = spare.lies }

  -- ---- the directory as a plan asks for it

  pub parent_there : is_directory_record r ≡ true → dir ≢ 11 → m.parent ≡ reference dir r → IsParent x m.parent q
  parent_there directory not_extend referred = record {
    file = stands_as.own.file;
    directory = directory_same ∙ directory;
    no_list = stands_as.own.no_list;
    apart = stands_as.own.apart;
    not_extend = not_extend;
    mirrored_none = k.high;
    referred = referred ∙ ap (λ (i : ℕ). record { number = dir; seq = i }) (sym anew.seq);
    written = normal_twice p.attrs;
  }
    where
      directory_same : is_directory_record q ≡ is_directory_record r
      directory_same = same_directory is_info r p anew
