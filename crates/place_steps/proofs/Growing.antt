-- A file that is put behind the blocks that its directory's index takes.
use Rattle.std.proofs.Common.{◌≡◌, ◌≢◌, ℕ, ◌+◌, ◌*◌, ◌<◌, ◌≤◌, Bool, true, false, not, List, [], ◌++◌, length, Option, Some, None, Ok, refl, sym, ap, ap₂, subst, ◌∙◌, inl, inr, arith, All, count_by}
use Rattle.std.proofs.lemmas.Bool.{cases_lt}
use Rattle.std.proofs.lemmas.List.{length-take}
use Rattle.host_base.specs.declared.file_ref.FileRef.{FileRef}
use Rattle.disk_model.specs.declared.block.Block.{Block}
use Rattle.disk_model.specs.Content.{Content}
use Rattle.record_model.specs.declared.runs.Run.{Run}
use Rattle.record_model.specs.Constants.{standard_information, index_allocation, bitmap_type, names_index}
use Rattle.record_model.specs.Nodes.{entries_length}
use Rattle.record_model.specs.Pairs.{cluster_limit}
use Rattle.record_model.specs.Records.{Record, used_of}
use Rattle.record_model.specs.Values.{is_file_name}
use Rattle.file_tree.specs.declared.node.Node.{Node}
use Rattle.file_tree.specs.Trees.{node_at as node_by_number}
use Rattle.index_model.specs.Trees.{Tree, walk, raws_of}
use Rattle.index_model.specs.Indexes.{node_block, links_of}
use Rattle.index_plan.specs.Laws.{Once}
use Rattle.index_change.specs.Changing.{uses}
use Rattle.index_change.specs.NodePlans.{PlansNodes}
use Rattle.index_change.specs.Plans.{clusters_of, root_room, seventeen, needs_level}
use Rattle.index_change.proofs.Counting.{once_fewer}
use Rattle.state_model.specs.declared.geometry.Geometry.{Geometry}
use Rattle.state_model.specs.declared.stream.Extents.{Extents}
use Rattle.state_model.specs.declared.stream.Stream.{Stream}
use Rattle.state_model.specs.declared.stream.Stream.TheVariants.{Held, Placed}
use Rattle.state_model.specs.Files.{has_type, is_directory_record, reference}
use Rattle.state_model.specs.Loads.{extents_or, total_clusters}
use Rattle.state_model.specs.Streams.{stream_of}
use Rattle.bit_set.specs.Bits.{bit}
use Rattle.volume_model.specs.Indexes.{void_block, index_place, index_stream, root_value}
use Rattle.volume_model.specs.Volumes.{Volume, cluster_bits, file_in, size_or, table_file, upper_of}
use Rattle.volume_state.specs.Trees.{tree_of}
use Rattle.stream_laws.specs.Owners.{initialised_in}
use Rattle.stream_laws.proofs.Rewriting.{volume_parts}
use Rattle.tree_model.specs.declared.script.Op.TheVariants.{Create}
use Rattle.tree_model.specs.declared.reply.Reply.TheVariants.{Created}
use Rattle.tree_model.specs.Effects.{numbers_to_take, least_ref}
use Rattle.tree_model.specs.Needs.{clusters_for, needed}
use Rattle.plan_owners.specs.States.{Stands}
use Rattle.plan_bodies.specs.Bodies.{NewBody}
use Rattle.plan_draft.specs.declared.touched.Touched.{Touched}
use Rattle.plan_draft.specs.Drafts.{drafted}
use Rattle.draft_bits.specs.Effects.{IsKept}
use Rattle.draft_records.specs.Records.{written_record, fits_room, ReadsTheTable}
use Rattle.state_streams.specs.Streams.{StreamsOfStates, IsPlacedIn}
use Rattle.index_places.specs.Places.{IndexesAreLaidOut}
use Rattle.plan_blocks.specs.Blocks.{blocks_behind, GrowsIndex, HasBlocks as BlocksOf}
use Rattle.plan_blocks.proofs.Beside.{same_types, same_directory}
use Rattle.plan_blocks.proofs.plan_edits.plan_growth.Written.{Reads, all_read}
use Rattle.plan_blocks.specs.plan_edits.Moves.{EditsDraft}
use Rattle.draft_indexes.specs.declared.blocks.IndexBlocks.{IndexBlocks}
use Rattle.draft_indexes.specs.Growing.{wanted_clusters, taken_for, size_with, grown_file, MayGrowBlocks, GrowsBlocks}
use Rattle.index_edits.specs.Grown.{GrowsOfVolume, GrownIsEdit, index_runs}
use Rattle.place_makes.specs.made_trees.plan_model.Informed.{is_info, with_record}
use Rattle.place_makes.specs.made_trees.plan_model.PlannedIndexes.{AreBeside}
use Rattle.place_makes.proofs.made_trees.plan_model.Rewriting.{same_stream}
use Rattle.place_makes.proofs.made_trees.plan_values.Valued.{old_pairs}
use Rattle.place_makes.proofs.made_trees.written_values.Joining.{nothing_kept}
use Rattle.place_makes.specs.made_trees.change_steps.plan_changes.Going.{StandsAs}
use Rattle.place_makes.specs.made_trees.change_steps.Found.{FoundIsThere}
use Rattle.place_makes.specs.made_trees.plan_model.Informed.{IsApart}
use Rattle.place_makes.specs.made_trees.new_files.Laws.{NewFileReads}
use Rattle.place_makes.specs.made_trees.record_times.Laws.{TimesAreSet}
use Rattle.place_makes.specs.made_trees.record_times.Times.{timed_record}
use Rattle.place_makes.specs.made_trees.file_puts.declared.streams.VolumeStreams.{VolumeStreams}
use Rattle.place_makes.specs.made_trees.file_puts.Written.{AreStreamsOf}
use Rattle.place_makes.specs.made_trees.file_makes.declared.newfile.NewFile.{NewFile}
use Rattle.place_makes.specs.made_trees.file_makes.Making.{PutsMade}
use Rattle.place_makes.specs.made_trees.made_files.Made.{made_link, made_key, FitsFields, IsParent}
use Rattle.place_makes.specs.made_trees.step_model.Placing.{Growth, wanted_by}
use Rattle.place_makes.specs.made_trees.step_model.Used.{most_used, used_after}
use Rattle.place_makes.specs.made_trees.step_model.Streams.{Changed}
use Rattle.place_makes.specs.made_trees.step_model.Plans.{grows_table, table_in, table_change, used_if, used_in, full_row, spread_comes, spread_used}
use Rattle.place_makes.specs.made_trees.step_model.Steps.{Step}
use Rattle.place_makes.specs.made_trees.Created.{timed_directory, timed_volume}
use Rattle.place_makes.specs.made_trees.Grown.{KeepsIndex, HasGrownBefore}
use Rattle.place_makes.specs.made_trees.Behind.{MakesFileBehind}
use Rattle.made_steps.specs.Steps.{HasRootOf}
use Rattle.made_steps.specs.Behind.{MayRise, RisesWhereNeeded, TakesStepBehind, MadeBehindAreSteps}
use Rattle.made_steps.specs.Timed.{TimesKeepIndex, IndexesMove}
use Rattle.grown_indexes.specs.First.{growths_by}
use Rattle.grown_indexes.specs.Put.{PutGrowsFirst}
use Rattle.grown_indexes.specs.Steps.{PutsAsCounted, CountsAmongAll}
use Rattle.place_makes.specs.found_places.Steady.{HasBlocks}
use Rattle.place_makes.specs.found_places.Places.{HasPlace, HasNames, LieBehind}
use Rattle.place_makes.specs.found_places.Laws.{PlacesAreThere, PlacesTakeSteps}
use Rattle.place_makes.proofs.found_places.Rooted.{root_length}
use Rattle.place_makes.proofs.found_places.Vcns.{once_behind, real_there}
use Rattle.place_makes.specs.index_grows.Counted.{CountsFor}
use Rattle.place_makes.specs.index_grows.Growing.{GrowsCounted}
use Rattle.directory_growth.specs.Growing.{root_bytes}
use Rattle.resized_streams.proofs.Chosen.{total_chosen}
use Rattle.stream_runs.specs.Runs.{last_cluster}
use Rattle.written_clusters.proofs.Taking.{length-cluster_bits}
use Rattle.place_steps.specs.Steps.{MakesInPlace, PlacesAreSteps}
use Rattle.place_steps.proofs.Quiet.{quiet_step}
use Rattle.place_steps.proofs.Finding as finding
use Rattle.place_makes.proofs.found_places.Found as found
use Rattle.place_steps.proofs.Behind as behind

-- ---- the blocks before

begun_extents : (o : Option Stream) → size_or o ≤ initialised_in o → (extents_or o).real ≤ (extents_or o).initialised
begun_extents None low = omega arith
begun_extents (Some (Held value)) low = omega arith
begun_extents (Some (Placed e)) low = low

-- what the blocks lack is no more than the blocks that come
lack_few : (per real total more : ℕ) (e : Extents) → per ≡ 8 → e.real ≡ real → total_clusters e.runs ≡ total → clusters_for real ≤ total → wanted_clusters per more e ≤ more
lack_few per real total more e eight is all enough = subst (λ (p : ℕ). wanted_clusters p more e ≤ more) (sym eight) (omega (arith, is, all, enough))

clusters_fit : (per real total allocated : ℕ) → per ≡ 8 → real ≤ allocated → allocated ≡ total * (512 * per) → clusters_for real ≤ total
clusters_fit per real total allocated eight low is = subst (λ (p : ℕ). allocated ≡ total * (512 * p) → clusters_for real ≤ total) (sym eight) (λ sum. omega (arith, low, sum)) is

module _ (reads_table : ReadsTheTable) (there_is : FoundIsThere) (there : PlacesAreThere) (laid : IndexesAreLaidOut) (streams_of : StreamsOfStates) (times_set : TimesAreSet) (new_reads : NewFileReads) (edits : GrownIsEdit) (grows_first : PutGrowsFirst) (counted : PutsAsCounted) (among : CountsAmongAll) (moves : IndexesMove) (times_keep : TimesKeepIndex)
    (rises : RisesWhereNeeded) (steps : MadeBehindAreSteps) (c : Content) (g : Geometry) (clusters : ℕ) (v : Volume) (s : VolumeStreams) (numbers : Extents) (path : List (List ℕ)) (directory : Node) (m : NewFile) (r : Record) (new : List Touched) (k : MakesInPlace c g clusters v s numbers path directory m r new)
    (some : 0 < length k.put.nodes.taken.items) where
  abbrev dir : ℕ
  dir = m.parent.number

  abbrev more : ℕ
  more = length k.put.nodes.taken.items

  abbrev q : Record
  q = k.put.put.q

  abbrev grown : List Touched
  grown = k.put.put.grown

  abbrev timed : List Touched
  timed = k.put.put.behind.timed

  abbrev first : Content
  first = drafted k.put.put.grown c

  abbrev middle : Content
  middle = drafted k.put.put.behind.timed c

  abbrev value : List ℕ
  value = k.put.plans.value

  abbrev fresh : List ℕ
  fresh = k.put.plans.fresh

  abbrev t : Tree
  t = finding.t there c g clusters v s numbers path directory m r new k

  abbrev a : Node
  a = finding.a there c g clusters v s numbers path directory m r new k

  abbrev z : Record
  z = timed_directory m.stamp k.put.put.q

  abbrev u : Volume
  u = with_record v m.parent.number k.put.put.q

  abbrev x : Volume
  x = timed_volume (with_record v m.parent.number k.put.put.q) m k.put.put.q

  state : Stands c g clusters v
  state = k.found.has.stands

  per : v.per ≡ 8
  per = finding.eight there c g clusters v s numbers path directory m r new k

  start : drafted [] c ≡ c
  start = finding.start there c g clusters v s numbers path directory m r new k

  place : HasPlace c v directory m a r
  place = finding.place there c g clusters v s numbers path directory m r new k

  names : HasNames c v m r value t
  names = finding.names there c g clusters v s numbers path directory m r new k

  h : GrowsCounted c (cluster_bits c v) s dir r (0x20 + entries_length k.put.nodes.root) more [] grown q
  h = finding.some_come more c (cluster_bits c v) s dir r (0x20 + entries_length k.put.nodes.root) [] grown q some k.put.put.blocks

  abbrev i : IndexBlocks
  i = h.index

  few : v.clusters ≤ cluster_limit
  few = (let count = (volume_parts c g clusters v state.loaded).count in let low = k.found.few in omega (arith, count, low))

  begun_r : size_or (index_stream r) ≤ initialised_in (index_stream r)
  unfolding index_stream
  begun_r = k.put.quiet.begun

  begun : i.extents.real ≤ i.extents.initialised
  begun = subst (λ (e : Extents). e.real ≤ e.initialised) h.streams.before (begun_extents (index_stream r) begun_r)

  -- blocks that stand in a record have no bytes
  not_held : (held : List ℕ) → index_stream r ≡ Some (Held held) → length held ≡ 0
  unfolding index_stream
  not_held held is = by_steady (stream_of index_allocation names_index r.attrs) (stream_of bitmap_type names_index r.attrs) held is k.put.quiet.steady
    where
      by_steady : (o b : Option Stream) (held : List ℕ) → o ≡ Some (Held held) → HasBlocks o b → length held ≡ 0
      by_steady None b held is steady = absurd cc
      by_steady (Some (Held y)) b held is steady = (let same : y ≡ held = cc in subst (λ (l : List ℕ). length l ≡ 0) same steady)
      by_steady (Some (Placed e)) b held is steady = absurd cc

  -- ---- the index grows

  grows : GrowsBlocks c v.per (cluster_bits c v) s.bitmap v.table s.mirror i more [] grown h.into.z
  grows =
      subst (λ (e : Extents). GrowsBlocks c v.per (cluster_bits c v) s.bitmap e s.mirror i more [] grown h.into.z) k.streams.table
      (subst (λ (p : ℕ). GrowsBlocks c p (cluster_bits c v) s.bitmap s.table s.mirror i more [] grown h.into.z) (sym per) h.into.grows)

  of_volume : GrowsOfVolume c v (cluster_bits c v) s.bitmap s.mirror r i more [] grown h.into.z
  of_volume = record {
    sized = k.sized;
    kept = nothing_kept;
    count = length-cluster_bits c v;
    free = λ j clear. subst (λ (d : Content). bit (cluster_bits d v) j ≡ false) (sym start) clear;
    space = subst (λ (p : ℕ). wanted_clusters p more i.extents ≤ count_by not (cluster_bits c v)) (sym per) h.into.space;
    file = ap (file_in v) h.number ∙ k.file;
    apart = subst IsApart (sym h.number) place.own.apart;
    no_list = place.own.no_list;
    directory = place.is_directory;
    streams = h.streams;
    begun = inl begun;
    stands = subst (λ (p : ℕ). MayGrowBlocks p (length (cluster_bits c v)) more i) (sym per) h.stands;
    marks = k.streams.bitmap;
    mirror_is = k.streams.mirror;
    grows = grows;
    room = subst (λ (p : ℕ). fits_room (grown_file p (taken_for p (cluster_bits c v) more i.extents) more i) ≡ Ok tt) (sym per) h.into.room;
  }

  abbrev runs : List Run
  runs = index_runs v.per (cluster_bits c v) more h.index

  abbrev growths : List Growth
  growths = growths_by m.parent.number r (index_runs v.per (cluster_bits c v) more h.index)

  some_wanted : 0 < wanted_clusters v.per more i.extents
  some_wanted = subst (λ (p : ℕ). 0 < wanted_clusters p more i.extents) (sym per) h.some

  both : HasGrownBefore c g clusters v dir r growths u q grown × KeepsIndex c v r first u q
  both =
      subst (λ (n : ℕ). HasGrownBefore c g clusters v n r (growths_by n r runs) (with_record v n q) q grown × KeepsIndex c v r first (with_record v n q) q) h.number
      (subst (λ (o : Record). HasGrownBefore c g clusters v i.number r (growths_by i.number r runs) (with_record v i.number o) o grown × KeepsIndex c v r first (with_record v i.number o) o) (sym h.into.is)
      (grows_first c g clusters v s.bitmap s.mirror r i more grown h.into.z k.found.has.eight state of_volume some_wanted h.whole))

  before : HasGrownBefore c g clusters v dir r growths u q grown
  before = both.0

  index : KeepsIndex c v r first u q
  index = both.1

  -- ---- the record with the blocks

  edit : (bodies : List NewBody) × (EditsDraft c [] grown bodies × GrowsIndex (drafted [] c) v i.number r runs (size_with more i.extents) (size_with more i.extents) (written_record h.into.z.file) bodies)
  edit = (edits c g clusters v (cluster_bits c v) s.bitmap s.mirror r i more [] grown h.into.z k.found.has.eight (subst (λ (d : Content). Stands d g clusters v) (sym start) state) of_volume).1

  abbrev behind_blocks : Extents
  behind_blocks = blocks_behind v.per r (index_runs v.per (cluster_bits c v) more h.index) (size_with more h.index.extents) (size_with more h.index.extents)

  written : BlocksOf r q behind_blocks
  written = subst (λ (o : Record). BlocksOf r o behind_blocks) (sym h.into.is) edit.1.1.written

  reads : All Reads r.attrs
  reads = all_read r.attrs (old_pairs c g clusters v dir r state (record { file = k.file; apart = place.own.apart; no_list = place.own.no_list }))

  info_q : has_type standard_information q ≡ true
  info_q = same_types r q behind_blocks written reads standard_information (λ is. omega (arith, is)) (λ is. omega (arith, is)) ∙ k.put.info

  directory_q : is_directory_record q ≡ true
  directory_q = same_directory r q behind_blocks written reads ∙ place.is_directory

  streams_u : AreStreamsOf u s
  streams_u = behind.streams_with v s dir q place.high place.own.apart.bitmap k.streams

  -- ---- the times

  kept_timed : IsKept timed
  kept_timed = behind.kept times_set c g clusters v s m r growths u q grown timed k.sized k.found.has.eight state before streams_u info_q place.high k.put.put.behind.times

  state_x : Stands middle g clusters x
  state_x = behind.stands times_set c g clusters v s m r growths u q grown timed k.sized k.found.has.eight state before streams_u info_q place.high k.put.put.behind.times

  stands_as : StandsAs u dir (timed_record m.stamp q) z
  stands_as = behind.stands_as times_set c g clusters v s m r growths u q grown timed k.sized k.found.has.eight state before streams_u info_q place.high k.put.put.behind.times

  keeps : KeepsIndex c v r middle x z
  keeps = times_keep c g clusters v s dir m.stamp r growths u q grown timed (record { sized = k.sized; eight = k.found.has.eight; before = before; index = index; streams = streams_u; info = info_q; mirrored_none = place.high; kept = kept_timed; times = k.put.put.behind.times })

  none_grows : grows_table (tree_of c v) ≡ false
  none_grows = behind.stays_table c v m.file.number place.spare

  -- ---- the entry

  now_stream : index_stream z ≡ Some (Placed behind_blocks)
  unfolding index_stream
  now_stream = stands_as.streams index_allocation names_index ∙ same_stream is_info q (timed_record m.stamp q) index_allocation names_index (times_set.rewritten m.stamp q info_q) behind.not_info ∙ written.blocks

  begun_z : size_or (index_stream z) ≤ initialised_in (index_stream z)
  begun_z = subst (λ (o : Option Stream). size_or o ≤ initialised_in o) (sym now_stream) (omega arith)

  parent_is : IsParent x m.parent z
  parent_is = behind.parent_there times_set c g clusters v s m r growths u q grown timed k.sized k.found.has.eight state before streams_u info_q place.high k.put.put.behind.times directory_q place.not_extend by_reference
    where
      seq_same : q.head.seq ≡ r.head.seq
      seq_same = written.seq

      by_reference : m.parent ≡ reference dir q
      by_reference = place.referred ∙ ap₂ (λ (j l : ℕ). record { number = j; seq = l }) (sym (ap (λ (f : FileRef). f.number) place.referred)) (place.seq ∙ sym seq_same)

  real : (w : ℕ) (b : Block) → node_block (index_place x.per z) w ≡ Some b → b ≢ void_block
  real w b at = real_there laid middle g clusters x dir z state_x k.found.has.eight few stands_as.own.file parent_is.directory begun_z w b at

  planned_there : PlansNodes middle (index_place x.per z) (upper_of middle x) value (used_of r.attrs) (made_key m) fresh (Ok k.put.nodes)
  planned_there = moves.plans c middle v x r z value (used_of r.attrs) (made_key m) fresh k.put.nodes keeps (finding.planned there c g clusters v s numbers path directory m r new k)

  made : PutsMade c s numbers m z (index_place x.per z) value k.put.nodes timed new
  made =
      let is : k.put.put.behind.made.value ≡ value = finding.same_value (root_value z) k.put.put.behind.made.value value k.put.put.behind.made.root (keeps.root ∙ k.put.plans.root) in
      subst (λ (p : ℕ). PutsMade c s numbers m z (index_place p z) value k.put.nodes timed new) (sym per) (subst (λ (y : List ℕ). PutsMade c s numbers m z (index_place 8 z) y k.put.nodes timed new) is k.put.put.behind.made.put)

  fields : FitsFields m
  fields = record {
    number = place.low;
    seq = k.seq;
    directory = place.small;
    directory_seq = (let is : m.parent.seq ≡ r.head.seq = ap (λ (f : FileRef). f.seq) place.referred ∙ place.seq in let low = k.fits.head.seq in omega (arith, is, low));
    is_name = k.is_name;
    stamp_small = k.soon;
  }

  lie : LieBehind v.per r fresh
  lie = finding.lie there c g clusters v s numbers path directory m r new k

  once : Once t fresh
  once = once_behind c (index_place v.per r) (upper_of c v) value t names.holds fresh lie.single lie.behind

  by : MakesFileBehind c g clusters v s numbers m a r growths u q grown value (used_of r.attrs) t fresh k.put.nodes timed new
  by = record {
    sized = k.sized;
    eight = k.found.has.eight;
    stands = state;
    own = place.own;
    before = before;
    streams = streams_u;
    info = info_q;
    fits = h.into.fits;
    node = ap (node_by_number (tree_of c v).nodes) (ap (λ (f : FileRef). f.number) k.found.parent) ∙ place.node;
    referred = place.referred;
    times = k.put.put.behind.times;
    made = record {
      sized = k.sized;
      kept = kept_timed;
      streams = behind.streams_there times_set c g clusters v s m r growths u q grown timed k.sized k.found.has.eight state before streams_u info_q place.high k.put.put.behind.times;
      bits = behind.numbers_there times_set c g clusters v s m r growths u q grown timed k.sized k.found.has.eight state before streams_u info_q place.high k.put.put.behind.times numbers (behind.numbers_with v numbers dir q place.high k.numbers_are);
      fields = fields;
      number = behind.spare_there times_set c g clusters v s m r growths u q grown timed k.sized k.found.has.eight state before streams_u info_q place.high k.put.put.behind.times none_grows least refl refl place.spare;
      directory = parent_is;
      entry = record {
        root = keeps.root ∙ k.put.plans.root;
        holds = moves.holds c middle v x r z value t keeps names.holds;
        planned = planned_there;
        front = k.put.plans.front;
        enough = lie.enough;
        once = once;
        laid = laid.laid middle g clusters x dir z (uses t fresh) state_x stands_as.own.file (λ w has. inl (λ void. real w void_block void refl));
        beside = subst (λ (l : List ℕ). AreBeside l (made_link m) (links_of (walk t))) (sym keeps.upper) names.beside;
        real = λ w b used at. real w b at;
      };
      put = made;
    };
    outside = place.outside;
  }
    where
      least : least_ref (numbers_to_take (tree_of c v)) ≡ Some m.file
      least = found.least reads_table streams_of there_is c g clusters v path directory m k.found

  -- ---- what the index takes

  a_number : dir ≡ a.number
  a_number = ap (λ (f : FileRef). f.number) place.referred

  bytes_of : (y : Tree) → HasRootOf value k.put.nodes y → 0x20 + entries_length k.put.nodes.root ≡ root_bytes y
  bytes_of y is =
      let one = root_length (clusters_of value) (raws_of y) in
      let two = root_length (clusters_of value) k.put.nodes.root in
      let same = ap (λ (l : List ℕ). length l) is in
      omega (arith, one, two, same)

  counts : (y : Tree) → HasRootOf value k.put.nodes y → CountsFor (cluster_bits c v) i.number r y more
  counts y is = h.counts i.number y (bytes_of y is)

  size_is : size_or (index_stream r) ≡ i.extents.real
  size_is = size_by (index_stream r) not_held ∙ ap (λ (e : Extents). e.real) h.streams.before
    where
      size_by : (o : Option Stream) → ((value : List ℕ) → o ≡ Some (Held value) → length value ≡ 0) → size_or o ≡ (extents_or o).real
      size_by None none = refl
      size_by (Some (Held value)) none = none value refl
      size_by (Some (Placed e)) none = refl

  comes_in : (y : Tree) → HasRootOf value k.put.nodes y → (spread_comes c v i.number r y more).growths ≡ growths_by i.number r runs
  comes_in y is = (let is_counted = counts y is in counted c v r i more y is_counted.blocks is_counted.bitmap per h.streams size_is none_grows of_volume.space is_counted.growths is_counted.stands)

  number_is : i.number ≡ a.number
  number_is = h.number ∙ a_number

  no_table : (table_change c v).growths ≡ []
  no_table = ap (λ (b : Bool). (table_in b (cluster_bits c v) v (file_in v table_file)).growths) none_grows

  comes : (y : Tree) → HasRootOf value k.put.nodes y → (table_change c v).growths ++ (spread_comes c v a.number r y more).growths ≡ growths
  comes y is =
      ap (λ (l : List Growth). l ++ (spread_comes c v a.number r y more).growths) no_table
      ∙ sym (ap (λ (n : ℕ). (spread_comes c v n r y more).growths) number_is)
      ∙ comes_in y is
      ∙ ap (λ (n : ℕ). growths_by n r runs) h.number

  room : (y : Tree) → HasRootOf value k.put.nodes y → spread_used c v a.number r y more ≤ most_used
  room y is =
      let low = (counts y is).used in
      let same = ap (λ (n : ℕ). spread_used c v n r y more) number_is in
      let all = ap (λ (d : Changed). used_after d.attrs r) (among c v i.number r y more none_grows) in
      omega (arith, low, same, all)

  -- ---- no more than a name may take

  placed_in : (e : Extents) → index_stream r ≡ Some (Placed e) → clusters_for e.real ≤ total_clusters e.runs
  unfolding index_stream
  placed_in e is =
      let at : IsPlacedIn v dir index_allocation names_index e = record { file = r; is_file = k.file; no_name = λ same. omega (arith, same); stream = is } in
      let sizes = streams_of.sizes c g clusters v dir index_allocation names_index e state at in
      clusters_fit v.per e.real (total_clusters e.runs) e.allocated per sizes.real sizes.allocated

  enough_of : (o : Option Stream) → ((e : Extents) → o ≡ Some (Placed e) → clusters_for e.real ≤ total_clusters e.runs) → clusters_for (extents_or o).real ≤ total_clusters (extents_or o).runs
  enough_of None all = omega arith
  enough_of (Some (Held value)) all = omega arith
  enough_of (Some (Placed e)) all = all e refl

  lack : wanted_clusters v.per more i.extents ≤ more
  lack =
      let enough = subst (λ (e : Extents). clusters_for e.real ≤ total_clusters e.runs) h.streams.before (enough_of (index_stream r) placed_in) in
      lack_few v.per i.extents.real (total_clusters i.extents.runs) more i.extents per refl refl enough

  taken_few : more ≤ 17
  taken_few =
      let front = ap (λ (l : List ℕ). length l) k.put.plans.front in
      let one = length-take more (seventeen fresh) in
      let two = length-take 17 fresh in
      omega (arith, front, one, two)

  total_runs : total_clusters runs ≡ wanted_clusters v.per more i.extents
  total_runs = total_chosen (cluster_bits c v) (last_cluster i.extents.runs) (wanted_clusters v.per more i.extents) of_volume.space

  little : wanted_by growths ≤ needed (tree_of c v) 0 (Create path) a
  little =
      let lacks = lack in
      let many = taken_few in
      let all = total_runs in
      omega (arith, lacks, many, all)

  -- ---- the step

  lawful : is_file_name (made_key m).value ≡ true
  lawful =
      let f = by.made.fields in
      (new_reads 0 m.file m.parent m.name m.stamp (record { lsn_small = omega arith; number = f.number; seq = f.seq; directory = f.directory; directory_seq = f.directory_seq; is_name = f.is_name; stamp_small = f.stamp_small })).key.lawful

  level : needs_level (upper_of c v) (root_room (used_of r.attrs) value) (made_key m) (seventeen fresh) t ≡ true → MayRise c v a.number r value (made_key m) t
  level up = rises c v a.number r value (made_key m) fresh t lawful names.holds (once_fewer t 17 fresh once) lie.enough up

  takes_step : TakesStepBehind c g clusters v s numbers path m directory a r growths u q grown more value (used_of r.attrs) t fresh k.put.nodes timed new
  takes_step = record {
    has = k.found.has;
    finds = k.found.finds;
    node = place.node;
    by = by;
    index = index;
    short = k.is_name.within;
    least = omega arith;
    taken = omega arith;
    comes = comes;
    little = little;
    room = room;
    table = ap (λ (b : Bool). full_row (used_if b (used_in (file_in v table_file) (table_change c v)))) none_grows;
    level = level;
  }

  pub grown_step : Step g clusters (Create path) m.stamp (Created m.file.number m.file.seq) c (drafted new c)
  grown_step = steps c g clusters v s numbers path m directory a r growths u q grown more value (used_of r.attrs) t fresh k.put.nodes timed new takes_step

-- ---- both

pub places_step : ReadsTheTable → FoundIsThere → PlacesAreThere → PlacesTakeSteps → IndexesAreLaidOut → StreamsOfStates → TimesAreSet → NewFileReads → GrownIsEdit → PutGrowsFirst → PutsAsCounted → CountsAmongAll → IndexesMove → TimesKeepIndex → RisesWhereNeeded → MadeBehindAreSteps → PlacesAreSteps
places_step reads_table there_is there flat laid streams_of times_set new_reads edits grows_first counted among moves times_keep rises steps c g clusters v s numbers path directory m r new k = elim (cases_lt 0 (length k.put.nodes.taken.items)) [
  | inl some ↦ grown_step reads_table there_is there laid streams_of times_set new_reads edits grows_first counted among moves times_keep rises steps c g clusters v s numbers path directory m r new k some
  | inr none ↦ quiet_step there flat moves c g clusters v s numbers path directory m r new k (omega (arith, none))
]
