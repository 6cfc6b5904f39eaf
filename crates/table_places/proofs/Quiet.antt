-- A file that is put behind a file table that has grown, without a block more for the index.
use Rattle.std.proofs.Common.{◌≡◌, ◌⊎◌, ℕ, ◌+◌, ◌*◌, ◌<◌, ◌≤◌, Bool, true, false, ◌||◌, leb, List, [], ◌∷◌, ◌++◌, length, Some, Ok, refl, sym, ap, subst, ◌∙◌, append-nil, inl, inr, arith}
use Rattle.std.specs.List.{list_all, AllByRecursion}
use Rattle.std.proofs.lemmas.Bool.{and_parts, leb-true}
use Rattle.std.proofs.lemmas.List.Sums.{sum_by-cons}
use Rattle.std.proofs.lemmas.Grind.{flat_map-append}
use Rattle.host_base.specs.Answers.{needs}
use Rattle.host_base.specs.declared.file_ref.FileRef.{FileRef}
use Rattle.disk_model.specs.Content.{Content}
use Rattle.record_model.specs.declared.runs.Run.{Run}
use Rattle.record_model.specs.Constants.{index_root, index_allocation, bitmap_type, names_index}
use Rattle.record_model.specs.Nodes.{entries_length}
use Rattle.record_model.specs.Records.{Record, used_of}
use Rattle.file_tree.specs.declared.node.Node.{Node}
use Rattle.index_model.specs.Trees.{Tree, raws_of}
use Rattle.index_node.specs.Roots.{root_spelling}
use Rattle.index_change.specs.Plans.{clusters_of}
use Rattle.state_model.specs.declared.geometry.Geometry.{Geometry}
use Rattle.state_model.specs.declared.stream.Stream.TheVariants.{Placed}
use Rattle.state_model.specs.declared.stream.Extents.{Extents}
use Rattle.state_model.specs.Loads.{total_clusters}
use Rattle.state_model.specs.Streams.{stream_of}
use Rattle.space_model.specs.Choosing.{with_clusters, with_runs}
use Rattle.volume_model.specs.Indexes.{index_stream}
use Rattle.volume_model.specs.Owners.{uses}
use Rattle.volume_model.specs.Sizes.{keeps_stream, keeps_streams}
use Rattle.volume_model.specs.Volumes.{Volume, cluster_bits, file_in, file_stream, size_or}
use Rattle.stream_laws.specs.Owners.{initialised_in}
use Rattle.stream_laws.specs.Sharing.{StreamKey, stream_at, runs_in}
use Rattle.tree_model.specs.declared.script.Op.TheVariants.{Create}
use Rattle.tree_model.specs.declared.reply.Reply.TheVariants.{Created}
use Rattle.tree_model.specs.Needs.{clusters_for}
use Rattle.plan_owners.proofs.Standing.{streams_at}
use Rattle.plan_draft.specs.declared.touched.Touched.{Touched}
use Rattle.plan_draft.specs.Drafts.{drafted}
use Rattle.draft_records.specs.Records.{written_bytes, fits_room}
use Rattle.state_streams.specs.Streams.{StreamsOfStates, IsPlacedIn}
use Rattle.index_places.specs.Places.{IndexesAreLaidOut}
use Rattle.table_steps.specs.made_trees.change_steps.Found.{FoundIsThere}
use Rattle.table_steps.specs.made_trees.new_files.Laws.{NewFileReads}
use Rattle.table_steps.specs.made_trees.record_times.Times.{timed_record}
use Rattle.table_steps.specs.made_trees.record_times.Laws.{TimesAreSet}
use Rattle.table_steps.specs.made_trees.file_makes.declared.newfile.NewFile.{NewFile}
use Rattle.table_steps.specs.made_trees.file_makes.Making.{rooted_record}
use Rattle.table_steps.specs.made_trees.step_model.Contents.{same_key, is_among, HasGrown}
use Rattle.table_steps.specs.made_trees.step_model.Placing.{Growth, AllPlaced, more_of, taken_runs, wanted_by}
use Rattle.table_steps.specs.made_trees.step_model.Plans.{bits_left, table_change, spread_comes}
use Rattle.table_steps.specs.made_trees.step_model.Steps.{Step}
use Rattle.table_steps.specs.made_trees.step_model.Streams.{stream_in, root_comes, blocks_key, used_key}
use Rattle.table_steps.specs.made_trees.step_model.Used.{most_used, used_after, is_in_record}
use Rattle.table_steps.specs.made_trees.Created.{timed_directory, timed_volume}
use Rattle.table_steps.specs.made_trees.Grown.{IsOfGrowth, HasGrownBefore}
use Rattle.made_steps.specs.Steps.{HasRootOf}
use Rattle.made_steps.specs.Behind.{RisesWhereNeeded, TakesStepBehind, MadeBehindAreSteps}
use Rattle.made_steps.specs.Timed.{TimesKeepIndex, IndexesMove}
use Rattle.place_steps.proofs.place_makes.found_places.Rooted.{own_type, root_counted, same_root}
use Rattle.place_steps.proofs.place_makes.found_places.Steady.{IsOneValue, Stays, IsKept, index_kept, all_placed, none_wanted, same_growths}
use Rattle.place_steps.proofs.place_makes.found_places.Times.{timed_bytes, written_again}
use Rattle.place_steps.proofs.place_makes.found_places.Values.{one_value, root_one}
use Rattle.place_steps.specs.place_makes.Placing.{PutsTimed}
use Rattle.place_steps.proofs.Finding.{none_come}
use Rattle.table_steps.specs.table_makes.declared.grown.TableGrown.{TableGrown}
use Rattle.table_places.specs.Steps.{MakesBehindTable}
use Rattle.table_places.proofs.Making as making

-- ---- sizes

pub clusters_fit : (per real total allocated : ℕ) → per ≡ 8 → real ≤ allocated → allocated ≡ total * (512 * per) → clusters_for real ≤ total
clusters_fit per real total allocated eight low is = subst (λ (p : ℕ). allocated ≡ total * (512 * p) → clusters_for real ≤ total) (sym eight) (λ sum. omega (arith, low, sum)) is

room_by : (t : Bool) (used : ℕ) → needs t used ≡ Ok tt → t ≡ true
room_by true used is = refl
room_by false used is = absurd cc

room_of : (p : Record) → fits_room p ≡ Ok tt → written_bytes p ≤ 1024
room_of p is = leb-true (written_bytes p) 1024 (room_by (leb (written_bytes p) 1024) (written_bytes p) is)

-- ---- growths behind others

pub all_behind : {X : Type 0} (P : X → Type 0) (xs ys : List X) → AllByRecursion P xs → AllByRecursion P ys → AllByRecursion P (xs ++ ys)
all_behind P [] ys all more = more
all_behind P (x ∷ xs) ys all more = (all.0, all_behind P xs ys all.1 more)

pub runs_put : (xs ys : List Run) (bits : List Bool) → with_runs ys (with_runs xs bits) ≡ with_runs (xs ++ ys) bits
unfolding with_runs
runs_put [] ys bits = refl
runs_put (x ∷ xs) ys bits = runs_put xs ys (with_clusters x.lcn x.len bits)

placed_behind : (bits : List Bool) (xs ys : List Growth) → AllPlaced bits xs → AllPlaced (with_runs (taken_runs xs) bits) ys → AllPlaced bits (xs ++ ys)
unfolding with_runs
placed_behind bits [] ys placed more = more
placed_behind bits (x ∷ xs) ys placed more = (placed.0, placed_behind (with_runs x.runs bits) xs ys placed.1 (subst (λ (b : List Bool). AllPlaced b ys) (sym (runs_put x.runs (taken_runs xs) bits)) more))

pub wanted_behind : (xs ys : List Growth) → wanted_by (xs ++ ys) ≡ wanted_by xs + wanted_by ys
wanted_behind [] ys = omega arith
wanted_behind (x ∷ xs) ys = (let rest = wanted_behind xs ys in let one = sum_by-cons more_of x xs in let all = sum_by-cons more_of x (xs ++ ys) in omega (arith, rest, one, all))

neither : (a b : Bool) → (a || b) ≡ false → (a ≡ false) × (b ≡ false)
neither true b none = absurd cc
neither false b none = (refl, none)

not_among : (xs ys : List Growth) (o : StreamKey) → is_among (xs ++ ys) o ≡ false → is_among xs o ≡ false
not_among [] ys o none = refl
not_among (x ∷ xs) ys o none =
    let parts = neither (same_key x.stream o) (is_among (xs ++ ys) o) none in
    ap (λ (b : Bool). b || is_among xs o) parts.0 ∙ not_among xs ys o parts.1

no_runs : (r : Record) (n : ℕ) (l : List Growth) → AllByRecursion (Stays r n) l → taken_runs l ≡ []
no_runs r n [] all = refl
no_runs r n (h ∷ l) all = ap (λ (e : List Run). e ++ taken_runs l) all.0.4 ∙ no_runs r n l all.1

of_index : (r : Record) (n : ℕ) (l : List Growth) → AllByRecursion (Stays r n) l → AllByRecursion (IsOfGrowth n) l
of_index r n [] all = tt
of_index r n (h ∷ l) all = (inl all.0.0, of_index r n l all.1)

-- what a stream of the file with this record is
stream_is : (v : Volume) (n : ℕ) (r : Record) (o : StreamKey) → file_in v n ≡ Some r → (o ≡ blocks_key n) ⊎ (o ≡ used_key n) → stream_at v o ≡ stream_in r o
stream_is v n r o file (inl is) = ap (λ (i : ℕ). file_stream o.kind o.name (file_in v i)) (ap (λ (y : StreamKey). y.file) is) ∙ ap (file_stream o.kind o.name) file
stream_is v n r o file (inr is) = ap (λ (i : ℕ). file_stream o.kind o.name (file_in v i)) (ap (λ (y : StreamKey). y.file) is) ∙ ap (file_stream o.kind o.name) file

-- the streams of a record that stays keep their runs
grown_by : (v u : Volume) (n : ℕ) (r : Record) (h : Growth) → file_in v n ≡ Some r → file_in u n ≡ Some r → Stays r n h → HasGrown v u h
grown_by v u n r h old now is = record {
  stands = ap is_in_record (stream_is u n r h.stream now is.0) ∙ is.1;
  old = is.2 ∙ ap runs_in (sym (stream_is v n r h.stream old is.0));
  runs = ap runs_in (stream_is u n r h.stream now is.0) ∙ sym is.2 ∙ sym is.3;
}

all_grown : (v u : Volume) (n : ℕ) (r : Record) (l : List Growth) → file_in v n ≡ Some r → file_in u n ≡ Some r → AllByRecursion (Stays r n) l → AllByRecursion (λ h. HasGrown v u h) l
all_grown v u n r [] old now all = tt
all_grown v u n r (h ∷ l) old now all = (grown_by v u n r h old now all.0, all_grown v u n r l old now all.1)

-- What has grown before a file is made has grown so with streams of the directory's index behind it, of which each keeps its runs.
pub grown_with : (c : Content) (g : Geometry) (clusters : ℕ) (v : Volume) (n : ℕ) (r : Record) (growths l : List Growth) (u : Volume) (new : List Touched) → file_in v n ≡ Some r → HasGrownBefore c g clusters v n r growths u r new → AllByRecursion (Stays r n) l → HasGrownBefore c g clusters v n r (growths ++ l) u r new
grown_with c g clusters v n r growths l u new file k stay =
    let taken : taken_runs (growths ++ l) ≡ taken_runs growths =
    flat_map-append (λ (h : Growth). h.runs) growths l ∙ ap (λ (e : List Run). taken_runs growths ++ e) (no_runs r n l stay) ∙ append-nil (taken_runs growths)
    in
    record {
      kept = k.kept;
      gave = k.gave;
      bodies = k.bodies;
      same = k.same;
      content = k.content;
      draft = k.draft;
      given = λ kind x is. subst (λ (e : List Run). 0 < uses e x) (sym taken) (k.given kind x is);
      own = k.own;
      names = k.names;
      system = k.system;
      tree = k.tree;
      room = (let was = k.room in let sum = wanted_behind growths l in let none = none_wanted r n l stay in omega (arith, was, sum, none));
      streams = all_behind (IsOfGrowth n) growths l k.streams (of_index r n l stay);
      left = record {
        placed = placed_behind (cluster_bits c v) growths l k.left.placed (all_placed r n (with_runs (taken_runs growths) (cluster_bits c v)) l stay);
        grown = all_behind (λ h. HasGrown v u h) growths l k.left.grown (all_grown v u n r l file k.own.file stay);
        others = λ o apart. k.left.others o (not_among growths l o apart);
        bits = k.left.bits;
        takes = k.left.takes;
        stays = k.left.stays;
      };
    }

module _ (there_is : FoundIsThere) (streams_of : StreamsOfStates) (times_set : TimesAreSet) (laid : IndexesAreLaidOut) (new_reads : NewFileReads) (moves : IndexesMove) (times_keep : TimesKeepIndex) (rises : RisesWhereNeeded) (steps : MadeBehindAreSteps)
    (c : Content) (g : Geometry) (clusters : ℕ) (v : Volume) (path : List (List ℕ)) (directory : Node) (m : NewFile) (r : Record) (x : TableGrown) (bits : List Bool) (tabled new : List Touched) (k : MakesBehindTable c g clusters v path directory m r x bits tabled new) (none : length k.put.nodes.taken.items ≡ 0) where
  abbrev dir : ℕ
  dir = m.parent.number

  abbrev u : Volume
  u = k.has.u

  abbrev value : List ℕ
  value = k.put.plans.value

  abbrev fresh : List ℕ
  fresh = k.put.plans.fresh

  abbrev a : Node
  a = making.a there_is c g clusters v path directory m r x bits tabled new k

  abbrev t : Tree
  t = making.t there_is c g clusters v path directory m r x bits tabled new k

  came : (k.put.put.q ≡ r) × (k.put.put.grown ≡ tabled)
  came = none_come (length k.put.nodes.taken.items) c bits x.streams dir r (0x20 + entries_length k.put.nodes.root) tabled k.put.put.grown k.put.put.q none k.put.put.blocks

  put_behind : PutsTimed c x.streams x.numbers m r k.put.nodes tabled new
  put_behind = subst (λ (o : List Touched). PutsTimed c x.streams x.numbers m r k.put.nodes o new) came.1 (subst (λ (q : Record). PutsTimed c x.streams x.numbers m q k.put.nodes k.put.put.grown new) came.0 k.put.put.behind)

  begun : size_or (index_stream r) ≤ initialised_in (index_stream r)
  unfolding index_stream
  begun = k.put.quiet.begun

  behind_table : making.PutsBehind c g clusters v x m r k.put.nodes (table_change c v).growths u r tabled new
  behind_table = record {
    before = making.own_table there_is c g clusters v path directory m r x bits tabled new k;
    index = making.index_table there_is c g clusters v path directory m r x bits tabled new k;
    streams = k.has.streams;
    numbers = k.has.numbers;
    spare = making.spare_table there_is c g clusters v path directory m r x bits tabled new k;
    info = k.put.info;
    directory = (making.place there_is c g clusters v path directory m r x bits tabled new k).is_directory;
    fits = k.fits;
    seq = refl;
    begun = begun;
    behind = put_behind;
  }

  abbrev q : Record
  q = timed_directory m.stamp r

  -- ---- the records

  rule_r : list_all (keeps_stream v.per v.clusters r.attrs) r.attrs ≡ true
  unfolding keeps_streams
  rule_r = (and_parts _ _ (and_parts _ _ (and_parts _ _ (streams_at c g clusters v dir r k.found.has.stands k.file)).0).0).0

  one_r : IsOneValue index_root names_index r value
  one_r = root_one v.per v.clusters r value rule_r k.put.plans.root

  abbrev w : Volume
  w = timed_volume k.has.u m r

  abbrev middle : Content
  middle = drafted put_behind.timed c

  rule_q : list_all (keeps_stream w.per w.clusters q.attrs) q.attrs ≡ true
  unfolding keeps_streams put_behind behind_table
  rule_q =
      (and_parts _ _ (and_parts _ _ (and_parts _ _
      (streams_at middle g clusters w dir q (making.state_w there_is c g clusters v path directory m r x bits tabled new k times_set laid new_reads moves times_keep rises (table_change c v).growths u r tabled behind_table)
      (making.stands_as there_is c g clusters v path directory m r x bits tabled new k times_set laid new_reads moves times_keep rises (table_change c v).growths u r tabled behind_table).own.file)).0).0).0

  one_q : IsOneValue index_root names_index q value
  one_q = root_one w.per w.clusters q value rule_q ((making.keeps there_is c g clusters v path directory m r x bits tabled new k times_set laid new_reads moves times_keep rises (table_change c v).growths u r tabled behind_table).root ∙ k.put.plans.root)

  same_bytes : written_bytes q ≡ written_bytes r
  same_bytes = written_again (timed_record m.stamp r) ∙ timed_bytes m.stamp r k.put.info

  rooted : written_bytes (rooted_record (root_spelling (clusters_of value) k.put.nodes.root) q) ≤ 1024
  rooted =
      let made = making.made there_is c g clusters v path directory m r x bits tabled new k times_set laid new_reads moves times_keep rises (table_change c v).growths u r tabled behind_table in
      subst (λ (l : List ℕ). written_bytes (rooted_record l q) ≤ 1024) made.laid.root (room_of (rooted_record made.plan.root q) made.root.room)

  counted : (y : Tree) → HasRootOf value k.put.nodes y → used_after (root_comes r y ∷ []) r ≤ most_used
  counted y is = root_counted r q value one_r one_q same_bytes (clusters_of value) k.put.nodes.root rooted y is

  -- ---- the index

  blocks_fit : (e : Extents) → stream_of index_allocation names_index r.attrs ≡ Some (Placed e) → clusters_for e.real ≤ total_clusters e.runs
  blocks_fit e is =
      let placed : IsPlacedIn v dir index_allocation names_index e = record { file = r; is_file = k.file; no_name = λ same. omega (arith, same); stream = is } in
      let sizes = streams_of.sizes c g clusters v dir index_allocation names_index e k.found.has.stands placed in
      clusters_fit v.per e.real (total_clusters e.runs) e.allocated (making.eight there_is c g clusters v path directory m r x bits tabled new k) sizes.real sizes.allocated

  kept : (y : Tree) → HasRootOf value k.put.nodes y → IsKept r y a.number (spread_comes c v a.number r y 0)
  kept y is =
      index_kept (bits_left c v) a.number r y k.put.info (own_type index_root names_index r value one_r) (counted y is) k.put.quiet.steady blocks_fit
      (λ held at. one_value v.per v.clusters bitmap_type names_index r held (λ same. omega (arith, same)) rule_r at)

  a_number : dir ≡ a.number
  a_number = ap (λ (f : FileRef). f.number) (making.place there_is c g clusters v path directory m r x bits tabled new k).referred

  after : (y : Tree) × (k.put.nodes.root ≡ raws_of y)
  after = making.after there_is c g clusters v path directory m r x bits tabled new k times_set laid new_reads moves times_keep rises (table_change c v).growths u r tabled behind_table

  after_root : HasRootOf value k.put.nodes after.0
  after_root = ap (root_spelling (clusters_of value)) (sym after.1)

  abbrev of_index_growths : List Growth
  of_index_growths = (spread_comes c v a.number r after.0 0).growths

  abbrev growths : List Growth
  growths = (table_change c v).growths ++ (spread_comes c v a.number r after.0 0).growths

  stays : AllByRecursion (Stays r a.number) of_index_growths
  stays = (kept after.0 after_root).stays

  before : HasGrownBefore c g clusters v dir r growths u r tabled
  before = grown_with c g clusters v dir r (table_change c v).growths of_index_growths u tabled k.file behind_table.before (subst (λ (i : ℕ). AllByRecursion (Stays r i) of_index_growths) (sym a_number) stays)

  b : making.PutsBehind c g clusters v x m r k.put.nodes growths u r tabled new
  b = record { before = before; index = behind_table.index; streams = behind_table.streams; numbers = behind_table.numbers; spare = behind_table.spare; info = behind_table.info; directory = behind_table.directory; fits = behind_table.fits; seq = refl; begun = begun; behind = put_behind }

  comes : (y : Tree) → HasRootOf value k.put.nodes y → (table_change c v).growths ++ (spread_comes c v a.number r y 0).growths ≡ growths
  comes y is = ap (λ (l : List Growth). (table_change c v).growths ++ l) (same_growths (bits_left c v) a.number r y after.0 (same_root r (clusters_of value) y after.0 (is ∙ sym after_root)))

  takes_step : TakesStepBehind c g clusters v x.streams x.numbers path m directory a r growths u r tabled 0 value (used_of r.attrs) t fresh k.put.nodes put_behind.timed new
  unfolding put_behind b
  takes_step = record {
    has = k.found.has;
    finds = k.found.finds;
    node = (making.place there_is c g clusters v path directory m r x bits tabled new k).node;
    by = making.by there_is c g clusters v path directory m r x bits tabled new k times_set laid new_reads moves times_keep rises growths u r tabled b;
    index = behind_table.index;
    short = k.is_name.within;
    least = omega arith;
    taken = omega arith;
    comes = comes;
    little = (let none = none_wanted r a.number of_index_growths stays in let table = k.has.little in let sum = wanted_behind (table_change c v).growths of_index_growths in omega (arith, none, table, sum));
    room = λ y is. (let used = (kept y is).used in let low = counted y is in omega (arith, used, low));
    table = k.has.room;
    level = making.level there_is c g clusters v path directory m r x bits tabled new k times_set laid new_reads moves times_keep rises growths u r tabled b;
  }

  pub quiet_step : Step g clusters (Create path) m.stamp (Created m.file.number m.file.seq) c (drafted new c)
  quiet_step = steps c g clusters v x.streams x.numbers path m directory a r growths u r tabled 0 value (used_of r.attrs) t fresh k.put.nodes put_behind.timed new takes_step
