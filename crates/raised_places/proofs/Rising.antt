-- The directory's index, which a draft that touched nothing has given blocks and a level more.
use Rattle.std.proofs.Common.{◌≡◌, ℕ, ◌+◌, ◌<◌, ◌≤◌, true, false, not, List, [], ◌∷◌, length, count_by, Option, Some, None, Ok, eqb, sym, ap, subst, ◌∙◌, inl, arith, All}
use Rattle.disk_model.specs.Content.{Content}
use Rattle.record_model.specs.declared.attribute.Attr.{Attr}
use Rattle.record_model.specs.declared.runs.Run.{Run}
use Rattle.record_model.specs.Constants.{standard_information, index_allocation, index_root, names_index}
use Rattle.record_model.specs.Nodes.{last_entry}
use Rattle.record_model.specs.Records.{Record}
use Rattle.record_streams.proofs.Streams.{attribute_kind}
use Rattle.file_tree.specs.declared.node.Node.{Node}
use Rattle.index_node.specs.Roots.{root_spelling}
use Rattle.index_model.specs.Trees.{Tree, raws_of}
use Rattle.index_model.specs.Indexes.{node_of_body}
use Rattle.index_model.specs.Laws.{HoldsIndex}
use Rattle.index_change.specs.Plans.{clusters_of}
use Rattle.state_model.specs.declared.geometry.Geometry.{Geometry}
use Rattle.state_model.specs.declared.stream.Extents.{Extents}
use Rattle.state_model.specs.declared.stream.Stream.{Stream}
use Rattle.state_model.specs.declared.stream.Stream.TheVariants.{Held, Placed}
use Rattle.state_model.specs.Files.{has_type, is_directory_record}
use Rattle.state_model.specs.Loads.{extents_or}
use Rattle.state_model.specs.Streams.{is_attribute_of}
use Rattle.bit_set.specs.Bits.{bit}
use Rattle.volume_model.specs.Indexes.{index_place, index_stream, root_value}
use Rattle.volume_model.specs.Volumes.{Volume, cluster_bits, file_in, size_or, upper_of}
use Rattle.stream_laws.specs.Owners.{initialised_in}
use Rattle.plan_owners.specs.States.{Stands}
use Rattle.plan_bodies.specs.Bodies.{NewBody}
use Rattle.plan_draft.specs.declared.touched.Touched.{Touched}
use Rattle.plan_draft.specs.Drafts.{drafted}
use Rattle.draft_records.specs.Records.{written_record, fits_room}
use Rattle.plan_blocks.specs.Blocks.{blocks_behind, HasBlocks as BlocksOf}
use Rattle.plan_blocks.specs.Levels.{is_index_root, RaisesIndex, IsRaised}
use Rattle.plan_blocks.proofs.Beside.{same_types, same_directory}
use Rattle.plan_blocks.proofs.plan_edits.plan_growth.Written.{Reads, all_read}
use Rattle.plan_blocks.specs.plan_edits.Moves.{EditsDraft}
use Rattle.draft_indexes.specs.declared.blocks.IndexBlocks.{IndexBlocks}
use Rattle.draft_indexes.specs.Growing.{wanted_clusters, taken_for, size_with, grown_file, raised_file, MayGrowBlocks, RaisesBlocks}
use Rattle.place_steps.specs.index_edits.Grown.{index_runs}
use Rattle.place_steps.specs.index_edits.Raised.{first_fresh, IsLevelMore, RaisesOfVolume, RaisedIsEdit}
use Rattle.place_steps.specs.made_trees.plan_model.Attributes.{RewritesValues}
use Rattle.place_steps.specs.made_trees.plan_model.Informed.{IsApart, with_record}
use Rattle.place_steps.proofs.made_trees.plan_model.Rewriting as rewriting
use Rattle.place_steps.proofs.made_trees.plan_values.Valued.{old_pairs}
use Rattle.place_steps.proofs.made_trees.written_values.Joining.{nothing_kept}
use Rattle.place_steps.specs.made_trees.new_files.Laws.{NewFileReads}
use Rattle.place_steps.specs.made_trees.file_puts.declared.streams.VolumeStreams.{VolumeStreams}
use Rattle.place_steps.specs.made_trees.file_puts.Written.{AreStreamsOf}
use Rattle.place_steps.specs.made_trees.file_makes.declared.newfile.NewFile.{NewFile}
use Rattle.place_steps.specs.made_trees.step_model.Placing.{Growth}
use Rattle.place_steps.specs.made_trees.Grown.{HasGrownBefore}
use Rattle.place_steps.specs.grown_indexes.First.{growths_by}
use Rattle.place_steps.specs.grown_indexes.Raised.{PutRaises}
use Rattle.place_steps.specs.place_makes.found_places.Places.{HasPlace, HasNames}
use Rattle.place_steps.specs.place_makes.found_places.Laws.{PlacesAreThere}
use Rattle.place_raises.specs.Raising.{IsLevel, RaisesCounted}
use Rattle.place_steps.proofs.written_clusters.Taking.{length-cluster_bits}
use Rattle.place_steps.proofs.Finding.{same_value}
use Rattle.place_steps.proofs.Behind as behind
use Rattle.refused_places.proofs.Finding as finding
use Rattle.raised_places.specs.Steps.{MakesRaised}

begun_extents : (o : Option Stream) → size_or o ≤ initialised_in o → (extents_or o).real ≤ (extents_or o).initialised
begun_extents None low = omega arith
begun_extents (Some (Held value)) low = omega arith
begun_extents (Some (Placed e)) low = low

-- an attribute of the blocks isn't the root
not_root : (a : Attr) → is_attribute_of index_allocation names_index a ≡ true → is_index_root a ≡ false
not_root a is = ap (λ (x : ℕ). eqb x index_root) (attribute_kind index_allocation names_index a is).0

module _ (there : PlacesAreThere) (new_reads : NewFileReads) (raises : PutRaises) (edits : RaisedIsEdit) (c : Content) (g : Geometry) (clusters : ℕ) (v : Volume) (s : VolumeStreams) (numbers : Extents) (path : List (List ℕ)) (directory : Node) (m : NewFile) (r : Record) (new : List Touched)
    (k : MakesRaised c g clusters v s numbers path directory m r new) where
  abbrev dir : ℕ
  dir = m.parent.number

  abbrev more : ℕ
  more = 1 + length k.put.first.taken.items

  abbrev q : Record
  q = k.put.put.q

  abbrev grown : List Touched
  grown = k.put.put.grown

  abbrev first : Content
  first = drafted k.put.put.grown c

  abbrev value : List ℕ
  value = k.put.plans.value

  abbrev root : List ℕ
  root = k.put.root

  abbrev node : List ℕ
  node = k.put.node

  abbrev u : Volume
  u = with_record v m.parent.number k.put.put.q

  pub state : Stands c g clusters v
  state = k.finds.found.has.stands

  pub per : v.per ≡ 8
  per = finding.eight there new_reads c g clusters v path directory m r k.finds

  pub start : drafted [] c ≡ c
  start = finding.start there new_reads c g clusters v path directory m r k.finds

  abbrev pub a : Node
  a = finding.a there new_reads c g clusters v path directory m r k.finds

  pub place : HasPlace c v directory m a r
  place = finding.place there new_reads c g clusters v path directory m r k.finds

  abbrev own_names : (y : List ℕ) × (t : Tree) × HasNames c v m r y t
  own_names = there.names c g clusters v path directory m r k.finds.found k.finds.file place.is_directory

  abbrev pub t : Tree
  t = (there.names c g clusters v path directory m r k.finds.found k.finds.file place.is_directory).1

  pub names : HasNames c v m r value t
  names = subst (λ (y : List ℕ). HasNames c v m r y t) (same_value (root_value r) own_names.0 value own_names.2.root k.put.plans.level.old_root) own_names.2

  pub holds_eight : HoldsIndex c (index_place 8 r) (upper_of c v) value t
  holds_eight = subst (λ (p : ℕ). HoldsIndex c (index_place p r) (upper_of c v) value t) per names.holds

  abbrev h : RaisesCounted c (cluster_bits c v) s dir r root node more [] grown q
  h = k.put.put.raises

  abbrev i : IndexBlocks
  i = k.put.put.raises.index

  abbrev f : ℕ
  f = first_fresh k.put.put.raises.index

  begun_r : size_or (index_stream r) ≤ initialised_in (index_stream r)
  unfolding index_stream
  begun_r = k.put.quiet.begun

  begun : i.extents.real ≤ i.extents.initialised
  begun = subst (λ (e : Extents). e.real ≤ e.initialised) h.streams.before (begun_extents (index_stream r) begun_r)

  -- ---- the level

  own_level : IsLevel c r value root node
  own_level = subst (λ (d : Content). IsLevel d r value root node) start k.put.plans.level

  level_more : IsLevelMore c v r i more value t root node
  level_more = record {
    some = omega arith;
    whole = h.whole;
    old_root = own_level.old_root;
    index = names.holds;
    low = own_level.low (upper_of c v) t holds_eight;
    new_root = own_level.new_root ∙ ap (λ (w : ℕ). root_spelling (clusters_of value) (last_entry (Some w) ∷ [])) (sym h.first);
    long = own_level.long;
    entries = subst (λ (w : ℕ). node_of_body w (record { bytes = node; torn = false }) ≡ Ok (raws_of t)) (sym h.first) (own_level.entries (upper_of c v) t holds_eight);
  }

  grows : RaisesBlocks c v.per (cluster_bits c v) s.bitmap v.table s.mirror i more root node [] grown h.into.z
  grows =
      subst (λ (e : Extents). RaisesBlocks c v.per (cluster_bits c v) s.bitmap e s.mirror i more root node [] grown h.into.z) k.streams.table
      (subst (λ (p : ℕ). RaisesBlocks c p (cluster_bits c v) s.bitmap s.table s.mirror i more root node [] grown h.into.z) (sym per) h.into.raises)

  pub of_volume : RaisesOfVolume c v (cluster_bits c v) s.bitmap s.mirror r i more value t root node [] grown h.into.z
  of_volume = record {
    may = record {
      sized = k.finds.sized;
      kept = nothing_kept;
      count = length-cluster_bits c v;
      free = λ j clear. subst (λ (d : Content). bit (cluster_bits d v) j ≡ false) (sym start) clear;
      space = subst (λ (p : ℕ). wanted_clusters p more i.extents ≤ count_by not (cluster_bits c v)) (sym per) h.into.space;
      file = ap (file_in v) h.number ∙ k.finds.file;
      apart = subst IsApart (sym h.number) place.own.apart;
      no_list = place.own.no_list;
      directory = place.is_directory;
      streams = h.streams;
      begun = inl begun;
      stands = subst (λ (p : ℕ). MayGrowBlocks p (length (cluster_bits c v)) more i) (sym per) h.stands;
      marks = k.streams.bitmap;
      mirror_is = k.streams.mirror;
    };
    level = subst (λ (d : Content). IsLevelMore d v r i more value t root node) (sym start) level_more;
    grows = grows;
    room = subst (λ (p : ℕ). fits_room (raised_file p (taken_for p (cluster_bits c v) more i.extents) more root i) ≡ Ok tt) (sym per) h.into.room;
  }

  abbrev runs : List Run
  runs = index_runs v.per (cluster_bits c v) more k.put.put.raises.index

  abbrev pub growths : List Growth
  growths = growths_by m.parent.number r (index_runs v.per (cluster_bits c v) (1 + length k.put.first.taken.items) k.put.put.raises.index)

  some_wanted : 0 < wanted_clusters v.per more i.extents
  some_wanted = subst (λ (p : ℕ). 0 < wanted_clusters p more i.extents) (sym per) h.some

  both : HasGrownBefore c g clusters v dir r growths u q grown × IsRaised c v r value t f first u q
  both =
      subst (λ (n : ℕ). HasGrownBefore c g clusters v n r (growths_by n r runs) (with_record v n q) q grown × IsRaised c v r value t f first (with_record v n q) q) h.number
      (subst (λ (o : Record). HasGrownBefore c g clusters v i.number r (growths_by i.number r runs) (with_record v i.number o) o grown × IsRaised c v r value t f first (with_record v i.number o) o) (sym h.into.is)
      (raises.first c g clusters v s.bitmap s.mirror r i more value t root node grown h.into.z k.finds.found.has.eight state of_volume some_wanted))

  pub before : HasGrownBefore c g clusters v dir r growths u q grown
  before = both.0

  pub raised : IsRaised c v r value t f first u q
  raised = both.1

  -- ---- the record with the blocks and the level

  abbrev p : Record
  p = written_record (grown_file v.per (taken_for v.per (cluster_bits c v) more k.put.put.raises.index.extents) more k.put.put.raises.index)

  edit : (bodies : List NewBody)
      × (EditsDraft c [] grown bodies
      × RaisesIndex (drafted [] c) v i.number r runs (size_with more i.extents) (size_with more i.extents) p (written_record h.into.z.file) bodies
      × IsRaised (drafted [] c) v r value t f (drafted grown c) (with_record v i.number (written_record h.into.z.file)) (written_record h.into.z.file))
  edit = (edits c g clusters v (cluster_bits c v) s.bitmap s.mirror r i more value t root node [] grown h.into.z k.finds.found.has.eight (subst (λ (d : Content). Stands d g clusters v) (sym start) state) of_volume).1

  abbrev pub behind_blocks : Extents
  behind_blocks = blocks_behind v.per r (index_runs v.per (cluster_bits c v) (1 + length k.put.first.taken.items) k.put.put.raises.index) (size_with (1 + length k.put.first.taken.items) k.put.put.raises.index.extents) (size_with (1 + length k.put.first.taken.items) k.put.put.raises.index.extents)

  written : BlocksOf r p behind_blocks
  written = edit.1.1.puts.written

  anew : RewritesValues is_index_root p q
  anew = subst (λ (o : Record). RewritesValues is_index_root p o) (sym h.into.is) edit.1.1.puts.values

  reads : All Reads r.attrs
  reads = all_read r.attrs (old_pairs c g clusters v dir r state (record { file = k.finds.file; apart = place.own.apart; no_list = place.own.no_list }))

  pub info_q : has_type standard_information q ≡ true
  info_q = rewriting.same_types is_index_root p q standard_information anew ∙ same_types r p behind_blocks written reads standard_information (λ is. omega (arith, is)) (λ is. omega (arith, is)) ∙ k.put.info

  pub directory_q : is_directory_record q ≡ true
  directory_q = rewriting.same_directory is_index_root p q anew ∙ same_directory r p behind_blocks written reads ∙ place.is_directory

  pub seq_q : q.head.seq ≡ r.head.seq
  seq_q = anew.seq ∙ written.seq

  pub stream_q : index_stream q ≡ Some (Placed behind_blocks)
  unfolding index_stream
  stream_q = rewriting.same_stream is_index_root p q index_allocation names_index anew not_root ∙ written.blocks

  pub streams_u : AreStreamsOf u s
  streams_u = behind.streams_with v s dir q place.high place.own.apart.bitmap k.streams
