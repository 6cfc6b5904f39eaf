-- A file that is put in its place without a level or a block more is the step of the operation.
use Rattle.std.proofs.Common.{◌≡◌, ◌⊎◌, ℕ, ◌*◌, ◌≤◌, Bool, true, false, leb, List, [], ◌∷◌, ◌++◌, Some, Ok, refl, sym, ap, subst, ◌∙◌, inl, inr, arith}
use Rattle.std.specs.List.{list_all, AllByRecursion}
use Rattle.std.proofs.lemmas.Bool.{and_parts, leb-true}
use Rattle.host_base.specs.Answers.{needs}
use Rattle.host_base.specs.declared.file_ref.FileRef.{FileRef}
use Rattle.disk_model.specs.Content.{Content}
use Rattle.record_model.specs.Constants.{index_root, index_allocation, bitmap_type, names_index}
use Rattle.record_model.specs.Records.{Record, used_of}
use Rattle.record_model.specs.Values.{is_file_name}
use Rattle.file_tree.specs.declared.node.Node.{Node}
use Rattle.index_model.specs.Trees.{Tree, raws_of}
use Rattle.index_plan.specs.Laws.{Once}
use Rattle.index_change.specs.declared.nodes_plan.NodesPlan.{NodesPlan}
use Rattle.index_change.proofs.Counting.{once_fewer}
use Rattle.index_change.specs.Plans.{clusters_of, root_room, seventeen, needs_level}
use Rattle.state_model.specs.declared.geometry.Geometry.{Geometry}
use Rattle.state_model.specs.declared.stream.Extents.{Extents}
use Rattle.state_model.specs.declared.stream.Stream.TheVariants.{Placed}
use Rattle.state_model.specs.Loads.{total_clusters}
use Rattle.state_model.specs.Streams.{stream_of}
use Rattle.volume_model.specs.Sizes.{keeps_stream, keeps_streams}
use Rattle.volume_model.specs.Volumes.{Volume, cluster_bits, file_in, file_stream, upper_of}
use Rattle.volume_state.specs.Trees.{tree_of}
use Rattle.stream_laws.specs.Sharing.{StreamKey, stream_at, runs_in}
use Rattle.tree_model.specs.Needs.{clusters_for}
use Rattle.plan_owners.proofs.Standing.{streams_at}
use Rattle.plan_draft.specs.declared.touched.Touched.{Touched}
use Rattle.plan_draft.specs.Drafts.{drafted}
use Rattle.draft_records.specs.Records.{written_bytes, fits_room, ReadsTheTable}
use Rattle.step_model.specs.Placing.{Growth}
use Rattle.step_model.specs.Plans.{bits_left, grows_table, table_change, spread_comes}
use Rattle.step_model.specs.Streams.{stream_in, root_comes, blocks_key, used_key}
use Rattle.step_model.specs.Used.{most_used, used_after, is_in_record}
use Rattle.state_streams.specs.Streams.{StreamsOfStates, IsPlacedIn}
use Rattle.index_places.specs.Places.{IndexesAreLaidOut}
use Rattle.made_trees.proofs.plan_model.Drafting.{per_is}
use Rattle.made_trees.specs.change_steps.Found.{FoundIsThere}
use Rattle.made_trees.specs.new_files.Laws.{NewFileReads}
use Rattle.made_trees.specs.record_times.Times.{timed_record}
use Rattle.made_trees.specs.record_times.Laws.{TimesAreSet}
use Rattle.made_trees.specs.file_puts.declared.streams.VolumeStreams.{VolumeStreams}
use Rattle.made_trees.specs.file_makes.declared.newfile.NewFile.{NewFile}
use Rattle.made_trees.specs.file_makes.Making.{rooted_record}
use Rattle.made_trees.specs.made_files.Made.{made_key}
use Rattle.index_node.specs.Roots.{root_spelling}
use Rattle.made_trees.specs.Created.{timed_directory, timed_volume, MakesFileBy}
use Rattle.made_trees.specs.Left.{StaysGrown}
use Rattle.made_steps.specs.Steps.{HasRootOf}
use Rattle.made_steps.specs.Behind.{MayRise, RisesWhereNeeded, TakesStepBehind, MadeBehindAreSteps}
use Rattle.made_trees.proofs.Nothing.{behind_nothing, index_stays}
use Rattle.made_steps.proofs.Stepping.{none_grows, no_table, none_used}
use Rattle.found_places.proofs.Times.{timed_bytes, written_again}
use Rattle.found_places.specs.Places.{PutsFlat, HasPlace, HasTimes}
use Rattle.found_places.specs.Laws.{PlacesTakeSteps}
use Rattle.found_places.proofs.Makes as makes
use Rattle.found_places.proofs.Rooted.{own_type, root_counted, same_root}
use Rattle.found_places.proofs.Steady.{IsOneValue, Stays, IsKept, index_kept, all_placed, none_wanted, same_growths}
use Rattle.found_places.proofs.Values.{one_value, root_one}

clusters_fit : (per real total allocated : ℕ) → per ≡ 8 → real ≤ allocated → allocated ≡ total * (512 * per) → clusters_for real ≤ total
clusters_fit per real total allocated eight low is = subst (λ (p : ℕ). allocated ≡ total * (512 * p) → clusters_for real ≤ total) (sym eight) (λ sum. omega (arith, low, sum)) is

room_by : (t : Bool) (used : ℕ) → needs t used ≡ Ok tt → t ≡ true
room_by true used is = refl
room_by false used is = absurd cc

room_of : (p : Record) → fits_room p ≡ Ok tt → written_bytes p ≤ 1024
room_of p is = leb-true (written_bytes p) 1024 (room_by (leb (written_bytes p) 1024) (written_bytes p) is)

seventeen_once : (t : Tree) (fresh : List ℕ) → Once t fresh → Once t (seventeen fresh)
seventeen_once t fresh once = once_fewer t 17 fresh once

module _ (reads : ReadsTheTable) (streams : StreamsOfStates) (there_is : FoundIsThere) (times_set : TimesAreSet) (laid : IndexesAreLaidOut) (new_reads : NewFileReads) (rises : RisesWhereNeeded) (c : Content) (g : Geometry) (clusters : ℕ) (v : Volume) (s : VolumeStreams) (numbers : Extents) (path : List (List ℕ)) (directory : Node) (m : NewFile) (r : Record) (value : List ℕ) (fresh : List ℕ) (nodes : NodesPlan) (timed new : List Touched)
    (k : PutsFlat c g clusters v s numbers path directory m r value fresh nodes timed new) where
  abbrev dir : ℕ
  dir = m.parent.number

  abbrev middle : Content
  middle = drafted timed c

  abbrev q : Record
  q = timed_directory m.stamp r

  abbrev x : Volume
  x = timed_volume v m r

  abbrev a : Node
  a = makes.a reads streams there_is times_set laid c g clusters v s numbers path directory m r value (used_of r.attrs) fresh nodes timed new k.puts

  abbrev t : Tree
  t = makes.t reads streams there_is times_set laid c g clusters v s numbers path directory m r value (used_of r.attrs) fresh nodes timed new k.puts

  by : MakesFileBy c g clusters v s numbers m a r value (used_of r.attrs) t fresh nodes timed new
  by = makes.makes reads streams there_is times_set laid c g clusters v s numbers path directory m r value (used_of r.attrs) fresh nodes timed new k.puts

  place : HasPlace c v directory m a r
  place = makes.place reads streams there_is times_set laid c g clusters v s numbers path directory m r value (used_of r.attrs) fresh nodes timed new k.puts

  has : HasTimes c g clusters v s m r timed
  has = makes.has reads streams there_is times_set laid c g clusters v s numbers path directory m r value (used_of r.attrs) fresh nodes timed new k.puts

  -- ---- the records

  rule_r : list_all (keeps_stream v.per v.clusters r.attrs) r.attrs ≡ true
  unfolding keeps_streams
  rule_r = (and_parts _ _ (and_parts _ _ (and_parts _ _ (streams_at c g clusters v dir r k.puts.found.has.stands k.puts.file)).0).0).0

  rule_q : list_all (keeps_stream x.per x.clusters q.attrs) q.attrs ≡ true
  unfolding keeps_streams
  rule_q = (and_parts _ _ (and_parts _ _ (and_parts _ _ (streams_at middle g clusters x dir q has.stands has.file.file)).0).0).0

  one_r : IsOneValue index_root names_index r value
  one_r = root_one v.per v.clusters r value rule_r k.puts.root

  one_q : IsOneValue index_root names_index q value
  one_q = root_one x.per x.clusters q value rule_q (has.root ∙ k.puts.root)

  same_bytes : written_bytes q ≡ written_bytes r
  same_bytes = written_again (timed_record m.stamp r) ∙ timed_bytes m.stamp r k.puts.info

  rooted : written_bytes (rooted_record (root_spelling (clusters_of value) nodes.root) q) ≤ 1024
  rooted = subst (λ (l : List ℕ). written_bytes (rooted_record l q) ≤ 1024) k.puts.put.laid.root (room_of (rooted_record k.puts.put.plan.root q) k.puts.put.root.room)

  counted : (u : Tree) → HasRootOf value nodes u → used_after (root_comes r u ∷ []) r ≤ most_used
  counted u is = root_counted r q value one_r one_q same_bytes (clusters_of value) nodes.root rooted u is

  -- ---- the index

  blocks_fit : (e : Extents) → stream_of index_allocation names_index r.attrs ≡ Some (Placed e) → clusters_for e.real ≤ total_clusters e.runs
  blocks_fit e is =
      let placed : IsPlacedIn v dir index_allocation names_index e = record { file = r; is_file = k.puts.file; no_name = λ same. omega (arith, same); stream = is } in
      let sizes = streams.sizes c g clusters v dir index_allocation names_index e k.puts.found.has.stands placed in
      clusters_fit v.per e.real (total_clusters e.runs) e.allocated (per_is c g clusters v k.puts.found.has.eight k.puts.found.has.stands) sizes.real sizes.allocated

  kept : (u : Tree) → HasRootOf value nodes u → IsKept r u a.number (spread_comes c v a.number r u 0)
  kept u is =
      index_kept (bits_left c v) a.number r u k.puts.info (own_type index_root names_index r value one_r) (counted u is) k.steady blocks_fit
      (λ bits held. one_value v.per v.clusters bitmap_type names_index r bits (λ same. omega (arith, same)) rule_r held)

  a_number : dir ≡ a.number
  a_number = ap (λ (f : FileRef). f.number) place.referred

  stream_is : (u : StreamKey) → (u ≡ blocks_key a.number) ⊎ (u ≡ used_key a.number) → stream_at v u ≡ stream_in r u
  stream_is u (inl is) = ap (λ (i : ℕ). file_stream u.kind u.name (file_in v i)) (ap (λ (y : StreamKey). y.file) is ∙ sym a_number) ∙ ap (file_stream u.kind u.name) k.puts.file
  stream_is u (inr is) = ap (λ (i : ℕ). file_stream u.kind u.name (file_in v i)) (ap (λ (y : StreamKey). y.file) is ∙ sym a_number) ∙ ap (file_stream u.kind u.name) k.puts.file

  grown_by : (h : Growth) → Stays r a.number h → StaysGrown v dir h
  grown_by h is =
      let there = stream_is h.stream is.0 in (
        subst (λ (i : ℕ). (h.stream ≡ blocks_key i) ⊎ (h.stream ≡ used_key i)) (sym a_number) is.0,
        record { stands = ap is_in_record there ∙ is.1; old = is.2 ∙ ap runs_in (sym there); runs = ap runs_in there ∙ sym is.2 ∙ sym is.3 },
      )

  all_grown : (l : List Growth) → AllByRecursion (Stays r a.number) l → AllByRecursion (StaysGrown v dir) l
  all_grown [] all = tt
  all_grown (h ∷ l) all = (grown_by h all.0, all_grown l all.1)

  -- ---- what the index takes

  -- the tree that the plan makes of it
  pub after : (u : Tree) × (nodes.root ≡ raws_of u)
  after =
      let there = by.made.entry in
      let tree = (there.planned.1 t there.holds (seventeen_once t fresh there.once)).becomes in
      (tree.tree, tree.root)

  after_root : HasRootOf value nodes after.0
  after_root = ap (root_spelling (clusters_of value)) (sym after.1)

  abbrev growths : List Growth
  growths = (spread_comes c v a.number r after.0 0).growths

  stays : AllByRecursion (Stays r a.number) growths
  stays = (kept after.0 after_root).stays

  grows_not : grows_table (tree_of c v) ≡ false
  grows_not = none_grows times_set new_reads c g clusters v s numbers m a r value (used_of r.attrs) t fresh nodes timed new by

  comes : (u : Tree) → HasRootOf value nodes u → (table_change c v).growths ++ (spread_comes c v a.number r u 0).growths ≡ growths
  comes u is =
      ap (λ (l : List Growth). l ++ (spread_comes c v a.number r u 0).growths) (no_table c v grows_not)
      ∙ same_growths (bits_left c v) a.number r u after.0 (same_root r (clusters_of value) u after.0 (is ∙ sym after_root))

  -- ---- the step

  lawful : is_file_name (made_key m).value ≡ true
  lawful =
      let f = by.made.fields in
      (new_reads 0 m.file m.parent m.name m.stamp (record { lsn_small = omega arith; number = f.number; seq = f.seq; directory = f.directory; directory_seq = f.directory_seq; is_name = f.is_name; stamp_small = f.stamp_small })).key.lawful

  level : needs_level (upper_of c v) (root_room (used_of r.attrs) value) (made_key m) (seventeen fresh) t ≡ true → MayRise c v a.number r value (made_key m) t
  level up =
      let names = makes.names reads streams there_is times_set laid c g clusters v s numbers path directory m r value (used_of r.attrs) fresh nodes timed new k.puts in
      rises c v a.number r value (made_key m) fresh t lawful names.holds (seventeen_once t fresh by.made.entry.once) by.made.entry.enough up

  pub takes_step : TakesStepBehind c g clusters v s numbers path m directory a r growths v r [] 0 value (used_of r.attrs) t fresh nodes timed new
  takes_step = record {
    has = k.puts.found.has;
    finds = k.puts.found.finds;
    node = place.node;
    by = behind_nothing c g clusters v s numbers m a r value (used_of r.attrs) t fresh nodes timed new growths by (all_placed r a.number (cluster_bits c v) growths stays) (all_grown growths stays);
    index = index_stays c v r by.sized;
    short = k.puts.is_name.within;
    least = omega arith;
    taken = omega arith;
    comes = comes;
    little = (let none = none_wanted r a.number growths stays in omega (arith, none));
    table = none_used c v grows_not;
    room = λ u is. (let used = (kept u is).used in let low = counted u is in omega (arith, used, low));
    level = level;
  }

pub places_step : ReadsTheTable → StreamsOfStates → FoundIsThere → TimesAreSet → IndexesAreLaidOut → NewFileReads → RisesWhereNeeded → MadeBehindAreSteps → PlacesTakeSteps
places_step reads streams there_is times_set laid new_reads rises steps c g clusters v s numbers path directory m r value fresh nodes timed new k =
    let inside = takes_step reads streams there_is times_set laid new_reads rises c g clusters v s numbers path directory m r value fresh nodes timed new k in
    steps c g clusters v s numbers path m directory _ r _ v r [] 0 value (used_of r.attrs) _ fresh nodes timed new inside
