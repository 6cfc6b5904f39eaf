-- The directory's times behind the growth of its index: what stands then.
use Rattle.std.proofs.Common.{◌≡◌, ◌≢◌, ℕ, ◌<◌, ◌≤◌, Bool, true, false, cond, eqb, leb, ltb, List, [], ◌∷◌, length, Option, Some, None, refl, sym, ap, ap₂, subst, ◌∙◌, inl, inr, arith}
use Rattle.std.proofs.lemmas.Bool.{and_from, both_ways, le-leb, lt-ltb, ne_eqb}
use Rattle.host_base.specs.declared.file_ref.FileRef.{FileRef}
use Rattle.disk_model.specs.Content.{Content, HasSizes}
use Rattle.record_model.specs.declared.attribute.Attr.{Attr}
use Rattle.record_model.specs.Constants.{bitmap_type, data_type, index_allocation, names_index, standard_information}
use Rattle.record_streams.proofs.Streams.{attribute_kind}
use Rattle.stream_laws.proofs.Editing.{length-with_edits}
use Rattle.record_model.specs.Records.{Record}
use Rattle.file_tree.specs.Walks.{first_user_record}
use Rattle.std.specs.Prelude.{is_some}
use Rattle.bit_set.specs.Bits.{bit}
use Rattle.disk_model.specs.declared.block.BlockKind.TheVariants.{FileRec}
use Rattle.state_model.specs.Streams.{block_at, is_attribute_of}
use Rattle.state_model.specs.declared.geometry.Geometry.{Geometry}
use Rattle.state_model.specs.declared.stream.Extents.{Extents}
use Rattle.state_model.specs.Files.{has_type, info_of, is_directory_record, reference}
use Rattle.state_model.specs.Loads.{extents_or}
use Rattle.volume_model.specs.Nodes.{spare_at}
use Rattle.volume_model.specs.Volumes.{Volume, count_of, file_stream, record_bits, table_file, mirror_file, bitmap_file}
use Rattle.volume_state.specs.Trees.{tree_of, tree_with}
use Rattle.tree_laws.specs.LookUps.{spare_of}
use Rattle.tree_laws.proofs.LookingUp.{spare_found}
use Rattle.tree_model.specs.Effects.{new_numbers, numbers_to_take, least_ref, ref_at}
use Rattle.plan_owners.specs.States.{Stands}
use Rattle.plan_bodies.specs.Bodies.{NewBody}
use Rattle.plan_bodies.proofs.Putting.{sized_with}
use Rattle.plan_draft.specs.declared.touched.Touched.{Touched}
use Rattle.plan_draft.specs.Touching.{bodies_of}
use Rattle.plan_draft.specs.Drafts.{drafted}
use Rattle.draft_bits.specs.Effects.{IsKept}
use Rattle.plan_blocks.specs.Blocks.{RoomDiffers}
use Rattle.place_makes.specs.made_trees.plan_model.Attributes.{RewritesValues}
use Rattle.place_makes.specs.made_trees.plan_model.Informed.{is_info, with_record, InfoDiffers}
use Rattle.place_makes.specs.made_trees.change_steps.plan_values.Values.{WritesValues}
use Rattle.place_makes.specs.made_trees.record_times.Times.{timed_record}
use Rattle.place_makes.specs.made_trees.record_times.Laws.{TimesAreSet}
use Rattle.place_makes.specs.made_trees.file_puts.declared.streams.VolumeStreams.{VolumeStreams}
use Rattle.place_makes.specs.made_trees.file_puts.Puts.{PutsTimes}
use Rattle.place_makes.specs.made_trees.file_puts.Written.{AreStreamsOf}
use Rattle.place_makes.specs.made_trees.change_steps.plan_edits.Moves.{EditsDraft}
use Rattle.place_makes.specs.made_trees.change_steps.plan_edits.Records.{PutsRecordOf}
use Rattle.place_makes.specs.made_trees.file_makes.declared.newfile.NewFile.{NewFile}
use Rattle.place_makes.specs.made_trees.made_files.Made.{HasNumbers, IsParent, IsSpare}
use Rattle.place_makes.specs.made_trees.step_model.Placing.{Growth}
use Rattle.place_makes.specs.made_trees.step_model.Plans.{grows_table}
use Rattle.place_makes.specs.made_trees.Created.{timed_directory, timed_volume}
use Rattle.place_makes.specs.made_trees.Grown.{HasGrownBefore}
use Rattle.place_makes.proofs.made_trees.plan_model.Drafting.{per_is}
use Rattle.place_makes.proofs.made_trees.plan_model.Rewriting.{same_directory}
use Rattle.place_makes.proofs.made_trees.plan_values.Valued.{values_written}
use Rattle.place_makes.proofs.made_trees.made_files.plan_informed.Informed.{values_edit}
use Rattle.place_makes.proofs.made_trees.written_values.plan_changes.Going.{files_going}
use Rattle.place_makes.proofs.made_trees.written_values.plan_edits.Recording.{record_edit}
use Rattle.place_makes.proofs.made_trees.written_values.Joining.{Reaches, goes_behind, puts_record}
use Rattle.place_makes.proofs.made_trees.written_values.Sparing.{elsewhere}
use Rattle.place_makes.specs.made_trees.change_steps.plan_changes.Going.{StandsAs}
use Rattle.place_makes.proofs.found_places.Numbers.{number_clear}
use Rattle.place_makes.proofs.found_places.Timed.{normal_twice}

-- ---- the streams of a volume with one record more

pub streams_with : (v : Volume) (s : VolumeStreams) (n : ℕ) (q : Record) → 4 ≤ n → n ≢ bitmap_file → AreStreamsOf v s → AreStreamsOf (with_record v n q) s
streams_with v s n q high apart k = record {
  table = k.table;
  mirror = ap (λ (o : Option Record). extents_or (file_stream data_type [] o)) (elsewhere v n mirror_file q (λ same. omega (arith, same, high))) ∙ k.mirror;
  bitmap = record {
    stream = ap (file_stream data_type []) (elsewhere v n bitmap_file q (λ same. apart (sym same))) ∙ k.bitmap.stream;
    lawful = k.bitmap.lawful;
    below = k.bitmap.below;
    lies = k.bitmap.lies;
  };
}

pub numbers_with : (v : Volume) (numbers : Extents) (n : ℕ) (q : Record) → 4 ≤ n → HasNumbers v numbers → HasNumbers (with_record v n q) numbers
numbers_with v numbers n q high h = record {
  stream = ap (file_stream bitmap_type []) (elsewhere v n table_file q (λ same. omega (arith, same, high))) ∙ h.stream;
  lawful = h.lawful;
  below = (let low = h.below in let same = length-with_edits v.files (record { number = n; file = Some q } ∷ []) in omega (arith, low, same));
  lies = h.lies;
}

-- an attribute of the blocks isn't standard information
pub not_info : (a : Attr) → is_attribute_of index_allocation names_index a ≡ true → is_info a ≡ false
not_info a is = ap (λ (x : ℕ). eqb x standard_information) (attribute_kind index_allocation names_index a is).0

-- ---- a spare number is among those of the tree

some_spare : (refs : List FileRef) (n : ℕ) (x : FileRef) → ref_at refs n ≡ Some x → eqb (length refs) 0 ≡ false
unfolding ref_at
some_spare [] n x is = absurd cc
some_spare (y ∷ refs) n x is = ne_eqb (length (y ∷ refs)) 0 (λ same. omega (arith, same))

tree_spare : (c : Content) (v : Volume) (n : ℕ) → ref_at (tree_of c v).spare n ≡ spare_of c v n
unfolding ref_at tree_of tree_with
tree_spare c v n = spare_found c v n

clear_is : (b : Bool) (ref : FileRef) → b ≡ false → cond b None (Some ref) ≡ Some ref
clear_is true ref is = absurd cc
clear_is false ref is = refl

clear_ref : (c : Content) (v : Volume) (n : ℕ) → IsSpare c v n → (x : FileRef) × (spare_at c v n ≡ Some x)
unfolding spare_at
clear_ref c v n k = (_, clear_is (bit (record_bits c v) n) _ k.clear)

-- where a number is spare, the file table doesn't grow
pub stays_table : (c : Content) (v : Volume) (n : ℕ) → IsSpare c v n → grows_table (tree_of c v) ≡ false
unfolding grows_table
stays_table c v n k =
    let ref : (x : FileRef) × (spare_at c v n ≡ Some x) = clear_ref c v n k in
    some_spare (tree_of c v).spare n ref.0
    (tree_spare c v n
    ∙ ap (λ (b : Bool). cond b (spare_at c v n) None) (and_from (leb first_user_record n) (ltb n (count_of v)) (le-leb first_user_record n k.user) (lt-ltb n (count_of v) k.within))
    ∙ ref.1)

module _ (times_set : TimesAreSet) (c : Content) (g : Geometry) (clusters : ℕ) (v : Volume) (s : VolumeStreams) (m : NewFile) (r : Record) (growths : List Growth) (u : Volume) (q : Record) (grown timed : List Touched) (sized : HasSizes c) (eight : g.per_cluster ≡ 8) (state : Stands c g clusters v)
    (before : HasGrownBefore c g clusters v m.parent.number r growths u q grown) (streams : AreStreamsOf u s) (info : has_type standard_information q ≡ true) (high : 4 ≤ m.parent.number) (times : PutsTimes c s m.parent.number m.stamp q grown timed) where
  abbrev dir : ℕ
  dir = m.parent.number

  abbrev first : Content
  first = drafted grown c

  abbrev middle : Content
  middle = drafted timed c

  abbrev p : Record
  p = timed_record m.stamp q

  abbrev z : Record
  z = timed_directory m.stamp q

  abbrev x : Volume
  x = timed_volume u m q

  first_sized : HasSizes first
  first_sized = sized_with c (bodies_of grown) sized

  pub first_stands : Stands first g clusters u
  first_stands = subst (λ (y : Content). Stands y g clusters u) before.content before.draft.stands

  anew : RewritesValues is_info q p
  anew = times_set.rewritten m.stamp q info

  puts : PutsRecordOf c u s.mirror dir p grown timed
  puts = puts_record c u s dir p grown timed sized before.kept (per_is first g clusters u eight first_stands) streams.table streams.mirror times

  pub kept : IsKept timed
  kept = record_edit.kept c u s.mirror dir p grown timed puts

  edit : (bodies : List NewBody) × (EditsDraft c grown timed bodies × WritesValues first u dir q p z bodies)
  edit = values_edit.times c g clusters u s.mirror dir q p grown timed first_stands before.own anew puts

  reaches_grown : Reaches c g clusters v grown u
  reaches_grown = record { gave = before.gave; bodies = before.bodies; same = before.same; content = before.content; draft = before.draft }

  reaches : Reaches c g clusters v timed x
  reaches = goes_behind c g clusters v u x grown timed edit.0 sized eight state reaches_grown edit.1.0 (λ gave clear. values_written.goes_on c v first g clusters u dir q p z edit.0 gave first_sized first_stands edit.1.1 clear)

  pub stands : Stands middle g clusters x
  stands = subst (λ (y : Content). Stands y g clusters x) reaches.content reaches.draft.stands

  informed : InfoDiffers dir (info_of p) (tree_of first u) (tree_of middle x)
  informed = subst (λ (y : Content). InfoDiffers dir (info_of p) (tree_of first u) (tree_of y x)) edit.1.0.content (values_written.times_alone first g clusters u dir q p z edit.0 first_sized first_stands edit.1.1 anew)

  pub stands_as : StandsAs u dir p z
  stands_as = files_going.written first g clusters u dir q p z edit.0 first_sized first_stands edit.1.1

  pub streams_there : AreStreamsOf x s
  streams_there = streams_with u s dir z high before.own.apart.bitmap streams

  -- ---- the numbers

  count_same : count_of x ≡ count_of u
  unfolding tree_of tree_with
  count_same = informed.count

  pub numbers_there : (numbers : Extents) → HasNumbers u numbers → HasNumbers x numbers
  numbers_there numbers h = record {
    stream = ap (file_stream bitmap_type []) (elsewhere u dir table_file z (λ same. omega (arith, same, high))) ∙ h.stream;
    lawful = h.lawful;
    below = (let low = h.below in omega (arith, low, count_same));
    lies = h.lies;
  }

  room_alone : grows_table (tree_of c v) ≡ false → RoomDiffers (tree_of c v) (tree_of first u)
  room_alone none = elim before.tree [
    | inl room ↦ room
    | inr came ↦ absurd (both_ways (grows_table (tree_of c v)) none came.none)
  ]

  pub count_there : grows_table (tree_of c v) ≡ false → count_of x ≡ count_of v
  unfolding tree_of tree_with
  count_there none = informed.count ∙ (room_alone none).count

  spares_same : grows_table (tree_of c v) ≡ false → numbers_to_take (tree_of middle x) ≡ numbers_to_take (tree_of c v)
  spares_same none = ap₂ (λ (l : List FileRef) (i : ℕ). cond (eqb (length l) 0) (new_numbers i) l) (informed.spare ∙ (room_alone none).spare) (informed.count ∙ (room_alone none).count)

  pub spare_there : grows_table (tree_of c v) ≡ false → least_ref (numbers_to_take (tree_of c v)) ≡ Some m.file → u.per ≡ v.per → u.table ≡ v.table → IsSpare c v m.file.number → IsSpare middle x m.file.number
  spare_there none least per table spare =
      let within : m.file.number < count_of x = (let low = spare.within in let same = count_there none in omega (arith, low, same)) in
      let clear = number_clear middle x m.file (ap least_ref (spares_same none) ∙ least) within in
      record {
        user = spare.user;
        within = within;
        clear = clear.clear;
        lies = ap₂ (λ (i : ℕ) (e : Extents). is_some (block_at i e.runs FileRec m.file.number)) per table ∙ spare.lies;
      }

  -- ---- the directory

  pub parent_there : is_directory_record q ≡ true → dir ≢ 11 → m.parent ≡ reference dir q → IsParent x m.parent z
  parent_there directory not_extend referred = record {
    file = stands_as.own.file;
    directory = same_directory is_info q p anew ∙ directory;
    no_list = stands_as.own.no_list;
    apart = stands_as.own.apart;
    not_extend = not_extend;
    mirrored_none = high;
    referred = referred ∙ ap (λ (i : ℕ). record { number = dir; seq = i }) (sym anew.seq);
    written = normal_twice p.attrs;
  }
