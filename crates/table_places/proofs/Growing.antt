-- A file that is put behind a file table that has grown and the blocks that its directory's index takes.
use Rattle.std.proofs.Common.{◌≡◌, ℕ, ◌+◌, ◌<◌, ◌≤◌, Bool, not, List, [], ◌∷◌, ◌++◌, length, Option, Some, None, Ok, refl, sym, ap, subst, ◌∙◌, inl, inr, arith, All, count_by}
use Rattle.std.proofs.lemmas.Bool.{cases_lt}
use Rattle.std.proofs.lemmas.List.{length-take}
use Rattle.host_base.specs.declared.file_ref.FileRef.{FileRef}
use Rattle.disk_model.specs.Content.{Content}
use Rattle.record_model.specs.declared.runs.Run.{Run}
use Rattle.record_model.specs.Constants.{standard_information, index_allocation, bitmap_type, names_index}
use Rattle.record_model.specs.Nodes.{entries_length}
use Rattle.record_model.specs.Records.{Record, used_of}
use Rattle.file_tree.specs.declared.node.Node.{Node}
use Rattle.index_model.specs.Trees.{Tree, raws_of}
use Rattle.index_change.specs.Plans.{clusters_of, seventeen}
use Rattle.state_model.specs.declared.geometry.Geometry.{Geometry}
use Rattle.state_model.specs.declared.stream.Extents.{Extents}
use Rattle.state_model.specs.declared.stream.Stream.{Stream}
use Rattle.state_model.specs.declared.stream.Stream.TheVariants.{Held, Placed}
use Rattle.state_model.specs.Loads.{extents_or, total_clusters}
use Rattle.state_model.specs.Streams.{stream_of}
use Rattle.stream_runs.specs.Runs.{last_cluster}
use Rattle.volume_model.specs.Indexes.{index_stream}
use Rattle.volume_model.specs.Volumes.{Volume, cluster_bits, file_in, size_or}
use Rattle.volume_state.specs.Trees.{tree_of}
use Rattle.stream_laws.specs.Owners.{initialised_in}
use Rattle.stream_laws.proofs.Rewriting.{volume_parts}
use Rattle.tree_model.specs.declared.script.Op.TheVariants.{Create}
use Rattle.tree_model.specs.declared.reply.Reply.TheVariants.{Created}
use Rattle.tree_model.specs.Needs.{clusters_for, needed}
use Rattle.plan_owners.specs.States.{Stands}
use Rattle.plan_bodies.specs.Bodies.{NewBody}
use Rattle.plan_bodies.proofs.Putting.{sized_with}
use Rattle.plan_draft.specs.declared.touched.Touched.{Touched}
use Rattle.plan_draft.specs.Touching.{bodies_of}
use Rattle.plan_draft.specs.Drafts.{drafted}
use Rattle.draft_records.specs.Records.{written_record, fits_room}
use Rattle.draft_growth.proofs.Tables.{length-with_runs}
use Rattle.state_streams.specs.Streams.{StreamsOfStates, IsPlacedIn}
use Rattle.index_places.specs.Places.{IndexesAreLaidOut}
use Rattle.plan_blocks.specs.Blocks.{blocks_behind, GrowsIndex, HasBlocks as BlocksOf, RoomDiffers}
use Rattle.plan_blocks.proofs.Beside.{same_types, same_directory}
use Rattle.plan_blocks.proofs.Enlarging.{index_tree}
use Rattle.plan_blocks.proofs.plan_edits.plan_growth.Written.{Reads, all_read}
use Rattle.plan_blocks.specs.plan_edits.Moves.{EditsDraft}
use Rattle.draft_indexes.specs.declared.blocks.IndexBlocks.{IndexBlocks}
use Rattle.draft_indexes.specs.Growing.{wanted_clusters, taken_for, size_with, grown_file, MayGrowBlocks, GrowsBlocks}
use Rattle.index_edits.specs.Grown.{GrowsOfVolume, GrownIsEdit, index_runs}
use Rattle.table_steps.specs.made_trees.plan_model.Informed.{IsApart, with_record}
use Rattle.table_steps.proofs.made_trees.plan_values.Valued.{old_pairs}
use Rattle.table_steps.specs.made_trees.change_steps.Found.{FoundIsThere}
use Rattle.table_steps.specs.made_trees.new_files.Laws.{NewFileReads}
use Rattle.table_steps.specs.made_trees.record_times.Laws.{TimesAreSet}
use Rattle.table_steps.specs.made_trees.file_makes.declared.newfile.NewFile.{NewFile}
use Rattle.table_steps.specs.made_trees.made_files.Made.{IsSpare}
use Rattle.table_steps.specs.made_trees.step_model.Placing.{Growth, taken_runs, wanted_by}
use Rattle.table_steps.specs.made_trees.step_model.Plans.{bits_left, table_change, spread_comes, spread_used}
use Rattle.table_steps.specs.made_trees.step_model.Steps.{Step}
use Rattle.table_steps.specs.made_trees.step_model.Used.{most_used}
use Rattle.table_steps.specs.made_trees.Grown.{KeepsIndex, HasGrownBefore}
use Rattle.made_steps.specs.Steps.{HasRootOf}
use Rattle.made_steps.specs.Behind.{RisesWhereNeeded, TakesStepBehind, MadeBehindAreSteps}
use Rattle.made_steps.specs.Timed.{TimesKeepIndex, IndexesMove}
use Rattle.place_steps.specs.grown_indexes.First.{growths_by}
use Rattle.place_steps.specs.grown_indexes.Put.{PutGrowsNext}
use Rattle.place_steps.specs.grown_indexes.Steps.{PutsAmong}
use Rattle.place_steps.specs.place_makes.found_places.Steady.{HasBlocks}
use Rattle.place_steps.proofs.place_makes.found_places.Rooted.{root_length}
use Rattle.place_steps.specs.place_makes.index_grows.Counted.{CountsFor}
use Rattle.place_steps.specs.place_makes.index_grows.Growing.{GrowsCounted}
use Rattle.directory_growth.specs.Growing.{root_bytes}
use Rattle.resized_streams.proofs.Chosen.{total_chosen}
use Rattle.stream_laws.proofs.Editing.{length-with_edits}
use Rattle.written_clusters.proofs.Taking.{length-cluster_bits}
use Rattle.place_steps.proofs.Behind.{streams_with, numbers_with}
use Rattle.place_steps.proofs.Finding.{some_come}
use Rattle.table_steps.specs.table_makes.declared.grown.TableGrown.{TableGrown}
use Rattle.table_places.specs.Steps.{MakesBehindTable, PlacesBehindAreSteps}
use Rattle.table_places.proofs.Finding.{HasDirectory}
use Rattle.table_places.proofs.Left.{left_clear}
use Rattle.table_places.proofs.Making as making
use Rattle.table_places.proofs.Quiet.{clusters_fit, quiet_step, wanted_behind}

begun_extents : (o : Option Stream) → size_or o ≤ initialised_in o → (extents_or o).real ≤ (extents_or o).initialised
begun_extents None low = omega arith
begun_extents (Some (Held value)) low = omega arith
begun_extents (Some (Placed e)) low = low

-- what the blocks lack is no more than the blocks that come
lack_few : (per real total more : ℕ) (e : Extents) → per ≡ 8 → e.real ≡ real → total_clusters e.runs ≡ total → clusters_for real ≤ total → wanted_clusters per more e ≤ more
lack_few per real total more e eight is all enough = subst (λ (p : ℕ). wanted_clusters p more e ≤ more) (sym eight) (omega (arith, is, all, enough))

module _ (there_is : FoundIsThere) (streams_of : StreamsOfStates) (times_set : TimesAreSet) (laid : IndexesAreLaidOut) (new_reads : NewFileReads) (edits : GrownIsEdit) (grows_next : PutGrowsNext) (among : PutsAmong) (moves : IndexesMove) (times_keep : TimesKeepIndex) (rises : RisesWhereNeeded) (steps : MadeBehindAreSteps)
    (c : Content) (g : Geometry) (clusters : ℕ) (v : Volume) (path : List (List ℕ)) (directory : Node) (m : NewFile) (r : Record) (x : TableGrown) (bits : List Bool) (tabled new : List Touched) (k : MakesBehindTable c g clusters v path directory m r x bits tabled new) (some : 0 < length k.put.nodes.taken.items) where
  abbrev dir : ℕ
  dir = m.parent.number

  abbrev more : ℕ
  more = length k.put.nodes.taken.items

  abbrev q : Record
  q = k.put.put.q

  abbrev grown : List Touched
  grown = k.put.put.grown

  abbrev value : List ℕ
  value = k.put.plans.value

  abbrev fresh : List ℕ
  fresh = k.put.plans.fresh

  abbrev a : Node
  a = making.a there_is c g clusters v path directory m r x bits tabled new k

  abbrev t : Tree
  t = making.t there_is c g clusters v path directory m r x bits tabled new k

  abbrev u : Volume
  u = k.has.u

  abbrev w : Volume
  w = with_record k.has.u m.parent.number k.put.put.q

  abbrev left : List Bool
  left = bits_left c v

  abbrev table : List Growth
  table = (table_change c v).growths

  state : Stands c g clusters v
  state = k.found.has.stands

  place : HasDirectory c v directory m a r
  place = making.place there_is c g clusters v path directory m r x bits tabled new k

  own_table : HasGrownBefore c g clusters v dir r table u r tabled
  own_table = making.own_table there_is c g clusters v path directory m r x bits tabled new k

  index_table : KeepsIndex c v r (drafted tabled c) u r
  index_table = making.index_table there_is c g clusters v path directory m r x bits tabled new k

  per : v.per ≡ 8
  per = making.eight there_is c g clusters v path directory m r x bits tabled new k

  per_u : u.per ≡ 8
  per_u = k.has.per ∙ per

  state_u : Stands (drafted tabled c) g clusters u
  state_u = subst (λ (y : Content). Stands y g clusters u) own_table.content own_table.draft.stands

  h : GrowsCounted c left x.streams dir r (0x20 + entries_length k.put.nodes.root) more tabled grown q
  h =
      subst (λ (l : List Bool). GrowsCounted c l x.streams dir r (0x20 + entries_length k.put.nodes.root) more tabled grown q) k.has.left
      (some_come more c bits x.streams dir r (0x20 + entries_length k.put.nodes.root) tabled grown q some k.put.put.blocks)

  abbrev i : IndexBlocks
  i = h.index

  begun_r : size_or (index_stream r) ≤ initialised_in (index_stream r)
  unfolding index_stream
  begun_r = k.put.quiet.begun

  begun : i.extents.real ≤ i.extents.initialised
  begun = subst (λ (e : Extents). e.real ≤ e.initialised) h.streams.before (begun_extents (index_stream r) begun_r)

  -- blocks that stand in a record have no bytes
  not_held : (held : List ℕ) → index_stream r ≡ Some (Held held) → length held ≡ 0
  unfolding index_stream
  not_held held is = by_steady (stream_of index_allocation names_index r.attrs) (stream_of bitmap_type names_index r.attrs) held is k.put.quiet.steady
    where
      by_steady : (o b : Option Stream) (held : List ℕ) → o ≡ Some (Held held) → HasBlocks o b → length held ≡ 0
      by_steady None b held is steady = absurd cc
      by_steady (Some (Held y)) b held is steady = (let same : y ≡ held = cc in subst (λ (l : List ℕ). length l ≡ 0) same steady)
      by_steady (Some (Placed e)) b held is steady = absurd cc

  -- ---- the index grows

  grows : GrowsBlocks c u.per left x.streams.bitmap u.table x.streams.mirror i more tabled grown h.into.z
  grows =
      subst (λ (e : Extents). GrowsBlocks c u.per left x.streams.bitmap e x.streams.mirror i more tabled grown h.into.z) k.has.streams.table
      (subst (λ (p : ℕ). GrowsBlocks c p left x.streams.bitmap x.streams.table x.streams.mirror i more tabled grown h.into.z) (sym per_u) h.into.grows)

  of_volume : GrowsOfVolume c u left x.streams.bitmap x.streams.mirror r i more tabled grown h.into.z
  of_volume = record {
    sized = k.sized;
    kept = own_table.kept;
    count = length-with_runs (taken_runs table) (cluster_bits c v) ∙ length-cluster_bits c v ∙ sym k.has.count;
    free = λ j clear. left_clear c g clusters v dir r table u r tabled state own_table k.has.count (sym (volume_parts c g clusters v state.loaded).count) j clear;
    space = subst (λ (p : ℕ). wanted_clusters p more i.extents ≤ count_by not left) (sym per_u) h.into.space;
    file = ap (file_in u) h.number ∙ own_table.own.file;
    apart = subst IsApart (sym h.number) own_table.own.apart;
    no_list = own_table.own.no_list;
    directory = place.is_directory;
    streams = h.streams;
    begun = inl begun;
    stands = subst (λ (p : ℕ). MayGrowBlocks p (length left) more i) (sym per_u) h.stands;
    marks = k.has.streams.bitmap;
    mirror_is = k.has.streams.mirror;
    grows = grows;
    room = subst (λ (p : ℕ). fits_room (grown_file p (taken_for p left more i.extents) more i) ≡ Ok tt) (sym per_u) h.into.room;
  }

  abbrev runs : List Run
  runs = index_runs k.has.u.per (bits_left c v) more h.index

  abbrev growths : List Growth
  growths = (table_change c v).growths ++ growths_by m.parent.number r (index_runs k.has.u.per (bits_left c v) more h.index)

  some_wanted : 0 < wanted_clusters u.per more i.extents
  some_wanted = subst (λ (p : ℕ). 0 < wanted_clusters p more i.extents) (sym per_u) h.some

  both : HasGrownBefore c g clusters v dir r growths w q grown × KeepsIndex c v r (drafted grown c) w q
  both =
      subst (λ (n : ℕ). HasGrownBefore c g clusters v n r (table ++ growths_by n r runs) (with_record u n q) q grown × KeepsIndex c v r (drafted grown c) (with_record u n q) q) h.number
      (subst (λ (o : Record). HasGrownBefore c g clusters v i.number r (table ++ growths_by i.number r runs) (with_record u i.number o) o grown × KeepsIndex c v r (drafted grown c) (with_record u i.number o) o) (sym h.into.is)
      (grows_next c g clusters v table u tabled x.streams.bitmap x.streams.mirror r i more grown h.into.z k.found.has.eight state (subst (λ (n : ℕ). HasGrownBefore c g clusters v n r table u r tabled) (sym h.number) own_table) index_table k.has.table of_volume some_wanted h.whole))

  -- ---- the record with the blocks

  edit : (bodies : List NewBody) × (EditsDraft c tabled grown bodies × GrowsIndex (drafted tabled c) u i.number r runs (size_with more i.extents) (size_with more i.extents) (written_record h.into.z.file) bodies)
  edit = (edits c g clusters u left x.streams.bitmap x.streams.mirror r i more tabled grown h.into.z k.found.has.eight state_u of_volume).1

  abbrev behind_blocks : Extents
  behind_blocks = blocks_behind k.has.u.per r (index_runs k.has.u.per (bits_left c v) more h.index) (size_with more h.index.extents) (size_with more h.index.extents)

  written : BlocksOf r q behind_blocks
  written = subst (λ (o : Record). BlocksOf r o behind_blocks) (sym h.into.is) edit.1.1.written

  reads : All Reads r.attrs
  reads = all_read r.attrs (old_pairs c g clusters v dir r state (record { file = k.file; apart = place.own.apart; no_list = place.own.no_list }))

  now_begun : size_or (index_stream q) ≤ initialised_in (index_stream q)
  now_begun = subst (λ (o : Option Stream). size_or o ≤ initialised_in o) (sym written.blocks) (omega arith)

  -- ---- the number

  differs : RoomDiffers (tree_of (drafted tabled c) u) (tree_of (drafted grown c) w)
  differs =
      subst (λ (n : ℕ). RoomDiffers (tree_of (drafted tabled c) u) (tree_of (drafted grown c) (with_record u n q))) h.number
      (subst (λ (o : Record). RoomDiffers (tree_of (drafted tabled c) u) (tree_of (drafted grown c) (with_record u i.number o))) (sym h.into.is)
      (subst (λ (y : Content). RoomDiffers (tree_of (drafted tabled c) u) (tree_of y (with_record u i.number (written_record h.into.z.file)))) edit.1.0.content
      (index_tree (drafted tabled c) g clusters u i.number r runs (size_with more i.extents) (size_with more i.extents) (written_record h.into.z.file) edit.0 (sized_with c (bodies_of tabled) k.sized) k.found.has.eight state_u edit.1.1)))

  spare_table : IsSpare (drafted tabled c) u m.file.number
  spare_table = making.spare_table there_is c g clusters v path directory m r x bits tabled new k

  spare : IsSpare (drafted grown c) w m.file.number
  spare =
      let same = length-with_edits u.files (record { number = dir; file = Some q } ∷ []) in
      record {
        user = spare_table.user;
        within = (let low = spare_table.within in omega (arith, low, same));
        clear = making.still_clear (drafted tabled c) (drafted grown c) u w m.file.number differs.spare same spare_table;
        lies = spare_table.lies;
      }

  b : making.PutsBehind c g clusters v x m r k.put.nodes growths w q grown new
  b = record {
    before = both.0;
    index = both.1;
    streams = streams_with u x.streams dir q place.high place.own.apart.bitmap k.has.streams;
    numbers = numbers_with u x.numbers dir q place.high k.has.numbers;
    spare = spare;
    info = same_types r q behind_blocks written reads standard_information (λ is. omega (arith, is)) (λ is. omega (arith, is)) ∙ k.put.info;
    directory = same_directory r q behind_blocks written reads ∙ place.is_directory;
    fits = h.into.fits;
    seq = written.seq;
    begun = now_begun;
    behind = k.put.put.behind;
  }

  -- ---- what the index takes

  a_number : dir ≡ a.number
  a_number = ap (λ (f : FileRef). f.number) place.referred

  number_is : i.number ≡ a.number
  number_is = h.number ∙ a_number

  bytes_of : (y : Tree) → HasRootOf value k.put.nodes y → 0x20 + entries_length k.put.nodes.root ≡ root_bytes y
  bytes_of y is =
      let one = root_length (clusters_of value) (raws_of y) in
      let two = root_length (clusters_of value) k.put.nodes.root in
      let same = ap (λ (l : List ℕ). length l) is in
      omega (arith, one, two, same)

  counts : (y : Tree) → HasRootOf value k.put.nodes y → CountsFor left i.number r y more
  counts y is = h.counts i.number y (bytes_of y is)

  size_is : size_or (index_stream r) ≡ i.extents.real
  size_is = size_by (index_stream r) not_held ∙ ap (λ (e : Extents). e.real) h.streams.before
    where
      size_by : (o : Option Stream) → ((held : List ℕ) → o ≡ Some (Held held) → length held ≡ 0) → size_or o ≡ (extents_or o).real
      size_by None none = refl
      size_by (Some (Held held)) none = none held refl
      size_by (Some (Placed e)) none = refl

  comes_in : (y : Tree) → HasRootOf value k.put.nodes y → (spread_comes c v i.number r y more).growths ≡ growths_by i.number r runs
  comes_in y is = (let is_counted = counts y is in among left u.per r i more y is_counted.blocks is_counted.bitmap per_u h.streams size_is of_volume.space is_counted.growths is_counted.stands)

  comes : (y : Tree) → HasRootOf value k.put.nodes y → (table_change c v).growths ++ (spread_comes c v a.number r y more).growths ≡ growths
  comes y is =
      ap (λ (l : List Growth). (table_change c v).growths ++ l)
      (sym (ap (λ (n : ℕ). (spread_comes c v n r y more).growths) number_is)
      ∙ comes_in y is
      ∙ ap (λ (n : ℕ). growths_by n r runs) h.number)

  room : (y : Tree) → HasRootOf value k.put.nodes y → spread_used c v a.number r y more ≤ most_used
  room y is =
      let low = (counts y is).used in
      let same = ap (λ (n : ℕ). spread_used c v n r y more) number_is in
      omega (arith, low, same)

  -- ---- no more than a name may take

  placed_in : (e : Extents) → index_stream r ≡ Some (Placed e) → clusters_for e.real ≤ total_clusters e.runs
  unfolding index_stream
  placed_in e is =
      let at : IsPlacedIn v dir index_allocation names_index e = record { file = r; is_file = k.file; no_name = λ same. omega (arith, same); stream = is } in
      let sizes = streams_of.sizes c g clusters v dir index_allocation names_index e state at in
      clusters_fit v.per e.real (total_clusters e.runs) e.allocated per sizes.real sizes.allocated

  enough_of : (o : Option Stream) → ((e : Extents) → o ≡ Some (Placed e) → clusters_for e.real ≤ total_clusters e.runs) → clusters_for (extents_or o).real ≤ total_clusters (extents_or o).runs
  enough_of None all = omega arith
  enough_of (Some (Held held)) all = omega arith
  enough_of (Some (Placed e)) all = all e refl

  lack : wanted_clusters u.per more i.extents ≤ more
  lack =
      let enough = subst (λ (e : Extents). clusters_for e.real ≤ total_clusters e.runs) h.streams.before (enough_of (index_stream r) placed_in) in
      lack_few u.per i.extents.real (total_clusters i.extents.runs) more i.extents per_u refl refl enough

  taken_few : more ≤ 17
  taken_few =
      let front = ap (λ (l : List ℕ). length l) k.put.plans.front in
      let one = length-take more (seventeen fresh) in
      let two = length-take 17 fresh in
      omega (arith, front, one, two)

  total_runs : total_clusters runs ≡ wanted_clusters u.per more i.extents
  total_runs = total_chosen left (last_cluster i.extents.runs) (wanted_clusters u.per more i.extents) of_volume.space

  little : wanted_by growths ≤ needed (tree_of c v) 0 (Create path) a
  little =
      let lacks = lack in
      let many = taken_few in
      let all = total_runs in
      let own = k.has.little in
      let sum = wanted_behind table (growths_by dir r runs) in
      omega (arith, lacks, many, all, own, sum)

  -- ---- the step

  takes_step : TakesStepBehind c g clusters v x.streams x.numbers path m directory a r growths w q grown more value (used_of r.attrs) t fresh k.put.nodes k.put.put.behind.timed new
  unfolding b
  takes_step = record {
    has = k.found.has;
    finds = k.found.finds;
    node = place.node;
    by = making.by there_is c g clusters v path directory m r x bits tabled new k times_set laid new_reads moves times_keep rises growths w q grown b;
    index = both.1;
    short = k.is_name.within;
    least = omega arith;
    taken = omega arith;
    comes = comes;
    little = little;
    room = room;
    table = k.has.room;
    level = making.level there_is c g clusters v path directory m r x bits tabled new k times_set laid new_reads moves times_keep rises growths w q grown b;
  }

  pub grown_step : Step g clusters (Create path) m.stamp (Created m.file.number m.file.seq) c (drafted new c)
  grown_step = steps c g clusters v x.streams x.numbers path m directory a r growths w q grown more value (used_of r.attrs) t fresh k.put.nodes k.put.put.behind.timed new takes_step

-- ---- both

pub places_step : FoundIsThere → StreamsOfStates → TimesAreSet → IndexesAreLaidOut → NewFileReads → GrownIsEdit → PutGrowsNext → PutsAmong → IndexesMove → TimesKeepIndex → RisesWhereNeeded → MadeBehindAreSteps → PlacesBehindAreSteps
places_step there_is streams_of times_set laid new_reads edits grows_next among moves times_keep rises steps c g clusters v path directory m r x behind tabled new k = elim (cases_lt 0 (length k.put.nodes.taken.items)) [
  | inl some ↦ grown_step there_is streams_of times_set laid new_reads edits grows_next among moves times_keep rises steps c g clusters v path directory m r x behind tabled new k some
  | inr none ↦ quiet_step there_is streams_of times_set laid new_reads moves times_keep rises steps c g clusters v path directory m r x behind tabled new k (omega (arith, none))
]
