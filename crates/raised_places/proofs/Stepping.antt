-- A file that is put below a level more of its directory's index is the step of the operation.
use Rattle.std.proofs.Common.{◌≡◌, ◌≢◌, ℕ, zero, suc, ◌+◌, ◌*◌, ◌<◌, ◌≤◌, Bool, true, false, not, nat_eq, List, [], ◌∷◌, ◌++◌, length, count_by, Option, Some, None, Ok, refl, sym, ap, ap₂, subst, ◌∙◌, inl, inr, arith}
use Rattle.std.specs.List.{range_with_len}
use Rattle.std.proofs.lemmas.Bool.{cases_eq}
use Rattle.std.proofs.lemmas.List.{length-take}
use Rattle.host_base.specs.declared.file_ref.FileRef.{FileRef}
use Rattle.disk_model.specs.declared.block.Block.{Block}
use Rattle.disk_model.specs.Content.{Content}
use Rattle.record_model.specs.declared.runs.Run.{Run}
use Rattle.record_model.specs.Constants.{standard_information, index_allocation, bitmap_type, names_index}
use Rattle.record_model.specs.Nodes.{entries_length, entry_length, last_entry}
use Rattle.record_model.specs.Pairs.{cluster_limit}
use Rattle.record_model.specs.Records.{Record, used_of}
use Rattle.record_model.specs.Values.{is_file_name}
use Rattle.file_tree.specs.declared.node.Node.{Node}
use Rattle.file_tree.specs.Trees.{node_at as node_by_number}
use Rattle.index_model.specs.Trees.{Tree, Down, held, one_if, same, times, walk, raws_of}
use Rattle.index_model.specs.Indexes.{node_block, links_of}
use Rattle.index_model.specs.Laws.{HoldsIndex}
use Rattle.index_model.proofs.Marks.{same_not}
use Rattle.index_plan.specs.Laws.{Once}
use Rattle.index_plan.specs.Room.{is_tight}
use Rattle.index_change.specs.Changing.{uses}
use Rattle.index_change.specs.declared.nodes_plan.NodesPlan.{NodesPlan}
use Rattle.index_change.specs.NodePlans.{PlansNodes, NewNodes}
use Rattle.index_change.specs.Plans.{root_room, seventeen, needs_level}
use Rattle.index_change.proofs.Counting.{once_fewer}
use Rattle.state_model.specs.declared.geometry.Geometry.{Geometry}
use Rattle.state_model.specs.declared.stream.Extents.{Extents}
use Rattle.state_model.specs.declared.stream.Stream.{Stream}
use Rattle.state_model.specs.declared.stream.Stream.TheVariants.{Held, Placed}
use Rattle.state_model.specs.Files.{has_type, reference}
use Rattle.state_model.specs.Loads.{extents_or, total_clusters}
use Rattle.state_model.specs.Streams.{stream_of}
use Rattle.volume_model.specs.Indexes.{void_block, index_place, index_stream, root_value}
use Rattle.volume_model.specs.Volumes.{Volume, cluster_bits, size_or, table_file, file_in, upper_of}
use Rattle.volume_state.specs.Trees.{tree_of}
use Rattle.stream_laws.specs.Owners.{initialised_in}
use Rattle.stream_laws.proofs.Rewriting.{volume_parts}
use Rattle.tree_model.specs.declared.script.Op.TheVariants.{Create}
use Rattle.tree_model.specs.declared.reply.Reply.TheVariants.{Created}
use Rattle.tree_model.specs.Effects.{numbers_to_take, least_ref}
use Rattle.tree_model.specs.Needs.{clusters_for, needed}
use Rattle.plan_owners.specs.States.{Stands}
use Rattle.plan_draft.specs.declared.touched.Touched.{Touched}
use Rattle.plan_draft.specs.Drafts.{drafted}
use Rattle.draft_bits.specs.Effects.{IsKept}
use Rattle.draft_records.specs.Records.{ReadsTheTable}
use Rattle.state_streams.specs.Streams.{StreamsOfStates, IsPlacedIn}
use Rattle.index_places.specs.Places.{IndexesAreLaidOut}
use Rattle.plan_blocks.specs.Levels.{IsRaised}
use Rattle.draft_indexes.specs.declared.blocks.IndexBlocks.{IndexBlocks}
use Rattle.draft_indexes.specs.Growing.{wanted_clusters}
use Rattle.place_steps.specs.index_edits.Grown.{index_runs}
use Rattle.place_steps.specs.index_edits.Raised.{first_fresh, RaisedIsEdit}
use Rattle.place_steps.specs.made_trees.plan_model.Informed.{is_info, with_record}
use Rattle.place_steps.specs.made_trees.plan_model.PlannedIndexes.{AreBeside}
use Rattle.place_steps.proofs.made_trees.plan_model.Rewriting.{same_stream}
use Rattle.place_steps.specs.made_trees.change_steps.plan_changes.Going.{StandsAs}
use Rattle.place_steps.specs.made_trees.change_steps.Found.{FoundIsThere}
use Rattle.place_steps.specs.made_trees.new_files.Laws.{NewFileReads}
use Rattle.place_steps.specs.made_trees.record_times.Laws.{TimesAreSet}
use Rattle.place_steps.specs.made_trees.record_times.Times.{timed_record}
use Rattle.place_steps.specs.made_trees.file_puts.declared.streams.VolumeStreams.{VolumeStreams}
use Rattle.place_steps.specs.made_trees.file_puts.Written.{AreStreamsOf}
use Rattle.place_steps.specs.made_trees.file_makes.declared.newfile.NewFile.{NewFile}
use Rattle.place_steps.specs.made_trees.file_makes.Making.{PutsMade}
use Rattle.place_steps.specs.made_trees.made_files.Made.{made_link, made_key, FitsFields, IsParent}
use Rattle.place_steps.specs.made_trees.step_model.Placing.{Growth, wanted_by}
use Rattle.place_steps.specs.made_trees.step_model.Used.{most_used, used_after}
use Rattle.place_steps.specs.made_trees.step_model.Streams.{Changed}
use Rattle.place_steps.specs.made_trees.step_model.Plans.{grows_table, table_in, table_change, used_if, used_in, full_row, spread_comes, spread_used}
use Rattle.place_steps.specs.made_trees.step_model.Steps.{Step}
use Rattle.place_steps.specs.made_trees.Created.{timed_directory, timed_volume}
use Rattle.place_steps.specs.made_trees.Grown.{KeepsIndex, HasGrownBefore}
use Rattle.place_steps.specs.made_trees.Behind.{MakesFileBehind}
use Rattle.place_steps.specs.made_steps.Behind.{MayRise}
use Rattle.place_steps.specs.made_steps.Timed.{TimesKeepGrown, IndexesMove}
use Rattle.place_steps.specs.grown_indexes.First.{growths_by}
use Rattle.place_steps.specs.grown_indexes.Raised.{PutRaises}
use Rattle.place_steps.specs.grown_indexes.Steps.{PutsAsCounted, CountsAmongAll}
use Rattle.place_steps.specs.place_makes.found_places.Steady.{HasBlocks}
use Rattle.place_steps.specs.place_makes.found_places.Places.{HasPlace, HasNames, LieBehind}
use Rattle.place_steps.specs.place_makes.found_places.Laws.{PlacesAreThere}
use Rattle.place_steps.proofs.place_makes.found_places.Vcns.{real_there}
use Rattle.place_steps.proofs.place_makes.found_places.Found as found
use Rattle.place_steps.specs.place_makes.index_grows.Counted.{CountsFor}
use Rattle.place_raises.specs.Raising.{RaisesCounted, level_vcn, root_size}
use Rattle.directory_growth.specs.Growing.{root_bytes}
use Rattle.resized_streams.proofs.Chosen.{total_chosen}
use Rattle.stream_runs.specs.Runs.{last_cluster}
use Rattle.raised_steps.specs.Steps.{raised_root, HasOneChild, TakesStepRaised, RaisedAreSteps}
use Rattle.raised_steps.specs.Takes.{NeverNeedsLevel, RootsAreLoose, TakesAlike}
use Rattle.place_steps.proofs.Finding.{same_value}
use Rattle.place_steps.proofs.Behind as behind
use Rattle.refused_places.proofs.Finding as finding
use Rattle.raised_places.specs.Steps.{MakesRaised, RaisedPlacesAreSteps}
use Rattle.raised_places.proofs.Rising as rising

-- ---- the VCNs

below : (w a n : ℕ) → w < a → times w (range_with_len a n) ≡ 0
below w a zero low = refl
below w a (suc n) low =
    let here : same w a ≡ 0 = same_not w a (λ is. omega (arith, low, is)) in
    let rest : times w (range_with_len (a + 1) n) ≡ 0 = below w (a + 1) n (omega (arith, low)) in
    omega (arith, here, rest)

one_low : (b : Bool) → one_if b ≤ 1
one_low true = omega arith
one_low false = omega arith

same_low : (x y : ℕ) → same x y ≤ 1
unfolding same
same_low x y = one_low (nat_eq x y)

once_level : (t : Tree) (f : ℕ) (fresh : List ℕ) → held f t ≡ 0 → times f fresh ≡ 0 → Once t fresh → Once (Down f t) fresh
once_level t f fresh none other once w = elim (cases_eq w f) [
  | inl is ↦
      let held_none : held w t ≡ 0 = subst (λ (x : ℕ). held x t ≡ 0) (sym is) none in
      let times_none : times w fresh ≡ 0 = subst (λ (x : ℕ). times x fresh ≡ 0) (sym is) other in
      let one = same_low w f in
      omega (arith, held_none, times_none, one)
  | inr ne ↦
      let here : same w f ≡ 0 = same_not w f ne in
      let all = once w in
      omega (arith, here, all)
]

-- ---- the blocks before

-- what the blocks lack is no more than the blocks that come
lack_few : (per real total more : ℕ) (e : Extents) → per ≡ 8 → e.real ≡ real → total_clusters e.runs ≡ total → clusters_for real ≤ total → wanted_clusters per more e ≤ more
lack_few per real total more e eight is all enough = subst (λ (p : ℕ). wanted_clusters p more e ≤ more) (sym eight) (omega (arith, is, all, enough))

clusters_fit : (per real total allocated : ℕ) → per ≡ 8 → real ≤ allocated → allocated ≡ total * (512 * per) → clusters_for real ≤ total
clusters_fit per real total allocated eight low is = subst (λ (p : ℕ). allocated ≡ total * (512 * p) → clusters_for real ≤ total) (sym eight) (λ sum. omega (arith, low, sum)) is

-- a root with one child has as many bytes
child_bytes : (f : ℕ) (y : Tree) → HasOneChild f y → root_size ≡ root_bytes y
unfolding entry_length
child_bytes f y is =
    let all : entries_length (raws_of y) ≡ entries_length (last_entry (Some f) ∷ []) = ap entries_length is in
    let one : entries_length (last_entry (Some f) ∷ []) ≡ 24 = omega arith in
    omega (arith, all, one)

module _ (reads_table : ReadsTheTable) (there_is : FoundIsThere) (there : PlacesAreThere) (laid : IndexesAreLaidOut) (streams_of : StreamsOfStates) (times_set : TimesAreSet) (new_reads : NewFileReads) (edits : RaisedIsEdit) (raises : PutRaises) (counted : PutsAsCounted) (among : CountsAmongAll) (moves : IndexesMove) (times_keep : TimesKeepGrown)
    (never : NeverNeedsLevel) (alike : TakesAlike) (roots : RootsAreLoose) (steps : RaisedAreSteps) (c : Content) (g : Geometry) (clusters : ℕ) (v : Volume) (s : VolumeStreams) (numbers : Extents) (path : List (List ℕ)) (directory : Node) (m : NewFile) (r : Record) (new : List Touched) (k : MakesRaised c g clusters v s numbers path directory m r new) where
  abbrev dir : ℕ
  dir = m.parent.number

  abbrev more : ℕ
  more = 1 + length k.put.first.taken.items

  abbrev q : Record
  q = k.put.put.q

  abbrev grown : List Touched
  grown = k.put.put.grown

  abbrev timed : List Touched
  timed = k.put.put.behind.timed

  abbrev first : Content
  first = drafted k.put.put.grown c

  abbrev middle : Content
  middle = drafted k.put.put.behind.timed c

  abbrev value : List ℕ
  value = k.put.plans.value

  abbrev fresh : List ℕ
  fresh = k.put.fresh

  abbrev nodes : NodesPlan
  nodes = k.put.put.behind.made.nodes

  abbrev z : Record
  z = timed_directory m.stamp k.put.put.q

  abbrev u : Volume
  u = with_record v m.parent.number k.put.put.q

  abbrev x : Volume
  x = timed_volume (with_record v m.parent.number k.put.put.q) m k.put.put.q

  abbrev i : IndexBlocks
  i = k.put.put.raises.index

  abbrev f : ℕ
  f = first_fresh k.put.put.raises.index

  abbrev t : Tree
  t = rising.t there new_reads raises edits c g clusters v s numbers path directory m r new k

  abbrev a : Node
  a = finding.a there new_reads c g clusters v path directory m r k.finds

  abbrev growths : List Growth
  growths = growths_by m.parent.number r (index_runs v.per (cluster_bits c v) (1 + length k.put.first.taken.items) k.put.put.raises.index)

  abbrev raised_value : List ℕ
  raised_value = raised_root k.put.plans.value (first_fresh k.put.put.raises.index)

  state : Stands c g clusters v
  state = k.finds.found.has.stands

  per : v.per ≡ 8
  per = rising.per there new_reads raises edits c g clusters v s numbers path directory m r new k

  start : drafted [] c ≡ c
  start = rising.start there new_reads raises edits c g clusters v s numbers path directory m r new k

  place : HasPlace c v directory m a r
  place = rising.place there new_reads raises edits c g clusters v s numbers path directory m r new k

  names : HasNames c v m r value t
  names = rising.names there new_reads raises edits c g clusters v s numbers path directory m r new k

  abbrev h : RaisesCounted c (cluster_bits c v) s dir r k.put.root k.put.node more [] grown q
  h = k.put.put.raises

  before : HasGrownBefore c g clusters v dir r growths u q grown
  before = rising.before there new_reads raises edits c g clusters v s numbers path directory m r new k

  raised : IsRaised c v r value t f first u q
  raised = rising.raised there new_reads raises edits c g clusters v s numbers path directory m r new k

  abbrev behind_blocks : Extents
  behind_blocks = rising.behind_blocks there new_reads raises edits c g clusters v s numbers path directory m r new k

  few : v.clusters ≤ cluster_limit
  few = (let count = (volume_parts c g clusters v state.loaded).count in let low = k.finds.found.few in omega (arith, count, low))

  lawful : is_file_name (made_key m).value ≡ true
  lawful = finding.lawful there new_reads c g clusters v path directory m r k.finds

  -- ---- the times

  streams_u : AreStreamsOf u s
  streams_u = rising.streams_u there new_reads raises edits c g clusters v s numbers path directory m r new k

  info_q : has_type standard_information q ≡ true
  info_q = rising.info_q there new_reads raises edits c g clusters v s numbers path directory m r new k

  kept_timed : IsKept timed
  kept_timed = behind.kept times_set c g clusters v s m r growths u q grown timed k.finds.sized k.finds.found.has.eight state before streams_u info_q place.high k.put.put.behind.times

  state_x : Stands middle g clusters x
  state_x = behind.stands times_set c g clusters v s m r growths u q grown timed k.finds.sized k.finds.found.has.eight state before streams_u info_q place.high k.put.put.behind.times

  stands_as : StandsAs u dir (timed_record m.stamp q) z
  stands_as = behind.stands_as times_set c g clusters v s m r growths u q grown timed k.finds.sized k.finds.found.has.eight state before streams_u info_q place.high k.put.put.behind.times

  keeps : KeepsIndex first u q middle x z
  keeps = times_keep c g clusters v s dir m.stamp r growths u q grown timed (record { sized = k.finds.sized; eight = k.finds.found.has.eight; before = before; streams = streams_u; info = info_q; mirrored_none = place.high; kept = kept_timed; times = k.put.put.behind.times })

  none_grows : grows_table (tree_of c v) ≡ false
  none_grows = behind.stays_table c v m.file.number place.spare

  -- ---- the entry

  now_stream : index_stream z ≡ Some (Placed behind_blocks)
  unfolding index_stream
  now_stream = stands_as.streams index_allocation names_index ∙ same_stream is_info q (timed_record m.stamp q) index_allocation names_index (times_set.rewritten m.stamp q info_q) behind.not_info ∙ rising.stream_q there new_reads raises edits c g clusters v s numbers path directory m r new k

  begun_z : size_or (index_stream z) ≤ initialised_in (index_stream z)
  begun_z = subst (λ (o : Option Stream). size_or o ≤ initialised_in o) (sym now_stream) (omega arith)

  parent_is : IsParent x m.parent z
  parent_is = behind.parent_there times_set c g clusters v s m r growths u q grown timed k.finds.sized k.finds.found.has.eight state before streams_u info_q place.high k.put.put.behind.times (rising.directory_q there new_reads raises edits c g clusters v s numbers path directory m r new k) place.not_extend by_reference
    where
      seq_same : q.head.seq ≡ r.head.seq
      seq_same = rising.seq_q there new_reads raises edits c g clusters v s numbers path directory m r new k

      by_reference : m.parent ≡ reference dir q
      by_reference = place.referred ∙ ap₂ (λ (j l : ℕ). record { number = j; seq = l }) (sym (ap (λ (o : FileRef). o.number) place.referred)) (place.seq ∙ sym seq_same)

  real : (w : ℕ) (b : Block) → node_block (index_place x.per z) w ≡ Some b → b ≢ void_block
  real w b at = real_there laid middle g clusters x dir z state_x k.finds.found.has.eight few stands_as.own.file parent_is.directory begun_z w b at

  upper_same : upper_of middle x ≡ upper_of c v
  upper_same = keeps.upper ∙ raised.upper

  root_z : root_value z ≡ Some raised_value
  root_z = keeps.root ∙ raised.root

  holds : HoldsIndex middle (index_place x.per z) (upper_of middle x) raised_value (Down f t)
  holds = moves.holds first middle u x q z raised_value (Down f t) keeps raised.holds

  planned : PlansNodes middle (index_place x.per z) (upper_of middle x) raised_value (used_of z.attrs) (made_key m) fresh (Ok nodes)
  planned =
      let own = k.put.put.behind.made.plans in
      let is : own.value ≡ raised_value = same_value (root_value z) own.value raised_value own.root root_z in
      subst (λ (p : ℕ). PlansNodes middle (index_place p z) (upper_of middle x) raised_value (used_of z.attrs) (made_key m) fresh (Ok nodes)) (sym per)
      (subst (λ (l : List ℕ). PlansNodes middle (index_place 8 z) l raised_value (used_of z.attrs) (made_key m) fresh (Ok nodes)) (sym upper_same)
      (subst (λ (y : List ℕ). PlansNodes middle (index_place 8 z) (upper_of c v) y (used_of z.attrs) (made_key m) fresh (Ok nodes)) is own.planned))

  made : PutsMade c s numbers m z (index_place x.per z) raised_value nodes timed new
  made =
      let own = k.put.put.behind.made.made in
      let is : own.value ≡ raised_value = same_value (root_value z) own.value raised_value own.root root_z in
      subst (λ (p : ℕ). PutsMade c s numbers m z (index_place p z) raised_value nodes timed new) (sym per) (subst (λ (y : List ℕ). PutsMade c s numbers m z (index_place 8 z) y nodes timed new) is own.put)

  fields : FitsFields m
  fields = record {
    number = place.low;
    seq = k.finds.seq;
    directory = place.small;
    directory_seq = (let is : m.parent.seq ≡ r.head.seq = ap (λ (o : FileRef). o.seq) place.referred ∙ place.seq in let low = k.finds.fits.head.seq in omega (arith, is, low));
    is_name = k.finds.is_name;
    stamp_small = k.finds.soon;
  }

  -- ---- the VCNs

  lie : LieBehind 8 r fresh
  lie = k.put.plans.counts.lie.lie

  once : Once t fresh
  once = finding.once_of there new_reads c g clusters v path directory m r k.finds value t fresh names.holds lie

  none_fresh : times f fresh ≡ 0
  none_fresh = subst (λ (w : ℕ). times w fresh ≡ 0) (sym h.first) (ap (λ (l : List ℕ). times (level_vcn r) l) k.put.plans.counts.lie.are ∙ below (level_vcn r) (level_vcn r + 1) 17 (omega arith))

  once_now : Once (Down f t) fresh
  once_now = once_level t f fresh raised.fresh none_fresh once

  by : MakesFileBehind c g clusters v s numbers m a r growths u q grown raised_value (used_of z.attrs) (Down f t) fresh nodes timed new
  by = record {
    sized = k.finds.sized;
    eight = k.finds.found.has.eight;
    stands = state;
    own = place.own;
    before = before;
    streams = streams_u;
    info = info_q;
    fits = h.into.fits;
    node = ap (node_by_number (tree_of c v).nodes) (ap (λ (o : FileRef). o.number) k.finds.found.parent) ∙ place.node;
    referred = place.referred;
    times = k.put.put.behind.times;
    made = record {
      sized = k.finds.sized;
      kept = kept_timed;
      streams = behind.streams_there times_set c g clusters v s m r growths u q grown timed k.finds.sized k.finds.found.has.eight state before streams_u info_q place.high k.put.put.behind.times;
      bits = behind.numbers_there times_set c g clusters v s m r growths u q grown timed k.finds.sized k.finds.found.has.eight state before streams_u info_q place.high k.put.put.behind.times numbers (behind.numbers_with v numbers dir q place.high k.numbers_are);
      fields = fields;
      number = behind.spare_there times_set c g clusters v s m r growths u q grown timed k.finds.sized k.finds.found.has.eight state before streams_u info_q place.high k.put.put.behind.times none_grows least refl refl place.spare;
      directory = parent_is;
      entry = record {
        root = root_z;
        holds = holds;
        planned = planned;
        front = k.put.put.behind.made.plans.front;
        enough = lie.enough;
        once = once_now;
        laid = laid.laid middle g clusters x dir z (uses (Down f t) fresh) state_x stands_as.own.file (λ w has. inl (λ void. real w void_block void refl));
        beside = subst (λ (l : List ℕ). AreBeside l (made_link m) (links_of (walk t))) (sym upper_same) names.beside;
        real = λ w b used at. real w b at;
      };
      put = made;
    };
    outside = place.outside;
  }
    where
      least : least_ref (numbers_to_take (tree_of c v)) ≡ Some m.file
      least = found.least reads_table streams_of there_is c g clusters v path directory m k.finds.found

  -- ---- the blocks that the plans take

  loose : is_tight (raws_of t) ≡ false
  loose = roots c (index_place v.per r) (upper_of c v) value t names.holds (finding.value_short there new_reads c g clusters v path directory m r k.finds value k.put.plans.level.old_root)

  seventeen_once : Once t (seventeen fresh)
  seventeen_once = once_fewer t 17 fresh once

  counts_first : PlansNodes c (index_place v.per r) (upper_of c v) value 0 (made_key m) fresh (Ok k.put.first)
  counts_first =
      subst (λ (p : ℕ). PlansNodes c (index_place p r) (upper_of c v) value 0 (made_key m) fresh (Ok k.put.first)) (sym per)
      (subst (λ (d : Content). PlansNodes d (index_place 8 r) (upper_of c v) value 0 (made_key m) fresh (Ok k.put.first)) start k.put.plans.counts.planned)

  new_first : NewNodes c (index_place v.per r) (upper_of c v) value 0 (made_key m) fresh t k.put.first
  new_first = counts_first.1 t names.holds seventeen_once

  new_now : NewNodes middle (index_place x.per z) (upper_of c v) raised_value (used_of z.attrs) (made_key m) fresh (Down f t) nodes
  new_now = subst (λ (l : List ℕ). NewNodes middle (index_place x.per z) l raised_value (used_of z.attrs) (made_key m) fresh (Down f t) nodes) upper_same (planned.1 (Down f t) holds (once_fewer (Down f t) 17 fresh once_now))

  holds_now : HoldsIndex middle (index_place x.per z) (upper_of c v) raised_value (Down f t)
  holds_now = subst (λ (l : List ℕ). HoldsIndex middle (index_place x.per z) l raised_value (Down f t)) upper_same holds

  flat : needs_level (upper_of c v) (root_room 0 value) (made_key m) (seventeen fresh) t ≡ false
  flat = never c (index_place v.per r) (upper_of c v) value (made_key m) fresh t lawful names.holds lie.enough

  as_many : length k.put.first.taken.items ≡ length nodes.taken.items
  as_many =
      alike c middle (index_place v.per r) (index_place x.per z) (upper_of c v) value raised_value 0 (used_of z.attrs) (made_key m) fresh f t k.put.first nodes lawful holds_now loose lie.enough new_first k.put.plans.counts.front flat new_now k.put.put.behind.made.plans.front

  -- ---- what the index takes

  a_number : dir ≡ a.number
  a_number = ap (λ (o : FileRef). o.number) place.referred

  abbrev runs : List Run
  runs = index_runs v.per (cluster_bits c v) (1 + length k.put.first.taken.items) k.put.put.raises.index

  space : wanted_clusters v.per more i.extents ≤ count_by not (cluster_bits c v)
  space = subst (λ (p : ℕ). wanted_clusters p more i.extents ≤ count_by not (cluster_bits c v)) (sym per) h.into.space

  counts : (y : Tree) → HasOneChild f y → CountsFor (cluster_bits c v) i.number r y more
  counts y is = h.counts i.number y (child_bytes f y is)

  -- blocks that stand in a record have no bytes
  not_held : (held : List ℕ) → index_stream r ≡ Some (Held held) → length held ≡ 0
  unfolding index_stream
  not_held held is = by_steady (stream_of index_allocation names_index r.attrs) (stream_of bitmap_type names_index r.attrs) held is k.put.quiet.steady
    where
      by_steady : (o b : Option Stream) (held : List ℕ) → o ≡ Some (Held held) → HasBlocks o b → length held ≡ 0
      by_steady None b held is steady = absurd cc
      by_steady (Some (Held y)) b held is steady = (let same : y ≡ held = cc in subst (λ (l : List ℕ). length l ≡ 0) same steady)
      by_steady (Some (Placed e)) b held is steady = absurd cc

  size_is : size_or (index_stream r) ≡ i.extents.real
  size_is = size_by (index_stream r) not_held ∙ ap (λ (e : Extents). e.real) h.streams.before
    where
      size_by : (o : Option Stream) → ((value : List ℕ) → o ≡ Some (Held value) → length value ≡ 0) → size_or o ≡ (extents_or o).real
      size_by None none = refl
      size_by (Some (Held value)) none = none value refl
      size_by (Some (Placed e)) none = refl

  comes_in : (y : Tree) → HasOneChild f y → (spread_comes c v i.number r y more).growths ≡ growths_by i.number r runs
  comes_in y is = (let is_counted = counts y is in counted c v r i more y is_counted.blocks is_counted.bitmap per h.streams size_is none_grows space is_counted.growths is_counted.stands)

  number_is : i.number ≡ a.number
  number_is = h.number ∙ a_number

  no_table : (table_change c v).growths ≡ []
  no_table = ap (λ (b : Bool). (table_in b (cluster_bits c v) v (file_in v table_file)).growths) none_grows

  comes : (y : Tree) → HasOneChild f y → (table_change c v).growths ++ (spread_comes c v a.number r y more).growths ≡ growths
  comes y is =
      ap (λ (l : List Growth). l ++ (spread_comes c v a.number r y more).growths) no_table
      ∙ sym (ap (λ (n : ℕ). (spread_comes c v n r y more).growths) number_is)
      ∙ comes_in y is
      ∙ ap (λ (n : ℕ). growths_by n r runs) h.number

  room : (y : Tree) → HasOneChild f y → spread_used c v a.number r y more ≤ most_used
  room y is =
      let low = (counts y is).used in
      let same = ap (λ (n : ℕ). spread_used c v n r y more) number_is in
      let all = ap (λ (d : Changed). used_after d.attrs r) (among c v i.number r y more none_grows) in
      omega (arith, low, same, all)

  -- ---- no more than a name may take

  placed_in : (e : Extents) → index_stream r ≡ Some (Placed e) → clusters_for e.real ≤ total_clusters e.runs
  unfolding index_stream
  placed_in e is =
      let at : IsPlacedIn v dir index_allocation names_index e = record { file = r; is_file = k.finds.file; no_name = λ same. omega (arith, same); stream = is } in
      let sizes = streams_of.sizes c g clusters v dir index_allocation names_index e state at in
      clusters_fit v.per e.real (total_clusters e.runs) e.allocated per sizes.real sizes.allocated

  enough_of : (o : Option Stream) → ((e : Extents) → o ≡ Some (Placed e) → clusters_for e.real ≤ total_clusters e.runs) → clusters_for (extents_or o).real ≤ total_clusters (extents_or o).runs
  enough_of None all = omega arith
  enough_of (Some (Held value)) all = omega arith
  enough_of (Some (Placed e)) all = all e refl

  lack : wanted_clusters v.per more i.extents ≤ more
  lack =
      let enough = subst (λ (e : Extents). clusters_for e.real ≤ total_clusters e.runs) h.streams.before (enough_of (index_stream r) placed_in) in
      lack_few v.per i.extents.real (total_clusters i.extents.runs) more i.extents per refl refl enough

  taken_few : more ≤ 18
  taken_few =
      let front = ap (λ (l : List ℕ). length l) k.put.plans.counts.front in
      let one = length-take (length k.put.first.taken.items) (seventeen fresh) in
      let two = length-take 17 fresh in
      omega (arith, front, one, two)

  total_runs : total_clusters runs ≡ wanted_clusters v.per more i.extents
  total_runs = total_chosen (cluster_bits c v) (last_cluster i.extents.runs) (wanted_clusters v.per more i.extents) space

  little : wanted_by growths ≤ needed (tree_of c v) 0 (Create path) a
  little =
      let lacks = lack in
      let many = taken_few in
      let all = total_runs in
      omega (arith, lacks, many, all)

  -- ---- the step

  level : MayRise c v a.number r value (made_key m) t
  level = subst (λ (n : ℕ). MayRise c v n r value (made_key m) t) a_number (k.may t (rising.holds_eight there new_reads raises edits c g clusters v s numbers path directory m r new k))

  takes_step : TakesStepRaised c g clusters v s numbers path m directory a r growths u q grown more value (used_of z.attrs) t f fresh nodes timed new
  takes_step = record {
    has = k.finds.found.has;
    finds = k.finds.found.finds;
    node = place.node;
    root = k.put.plans.level.old_root;
    holds = names.holds;
    by = by;
    raised = raised;
    loose = loose;
    short = k.finds.is_name.within;
    taken = (let same = as_many in omega (arith, same));
    comes = comes;
    little = little;
    room = room;
    table = ap (λ (b : Bool). full_row (used_if b (used_in (file_in v table_file) (table_change c v)))) none_grows;
    level = level;
  }

  pub raised_step : Step g clusters (Create path) m.stamp (Created m.file.number m.file.seq) c (drafted new c)
  raised_step = steps c g clusters v s numbers path m directory a r growths u q grown more value (used_of z.attrs) t f fresh nodes timed new takes_step

pub raised_places : ReadsTheTable → FoundIsThere → PlacesAreThere → IndexesAreLaidOut → StreamsOfStates → TimesAreSet → NewFileReads → RaisedIsEdit → PutRaises → PutsAsCounted → CountsAmongAll → IndexesMove → TimesKeepGrown → NeverNeedsLevel → TakesAlike → RootsAreLoose → RaisedAreSteps → RaisedPlacesAreSteps
raised_places reads_table there_is there laid streams_of times_set new_reads edits raises counted among moves times_keep never alike roots steps c g clusters v s numbers path directory m r new k =
    raised_step reads_table there_is there laid streams_of times_set new_reads edits raises counted among moves times_keep never alike roots steps c g clusters v s numbers path directory m r new k
