-- A file that is put behind a draft in which the file table, and perhaps its directory's index, has grown.
use Rattle.std.proofs.Common.{◌≡◌, ◌≢◌, ℕ, ◌<◌, ◌≤◌, ◌^◌, ◌&&◌, Bool, true, false, cond, leb, ltb, List, Option, Some, None, Ok, refl, sym, ap, ap₂, subst, ◌∙◌, inl, arith}
use Rattle.std.proofs.lemmas.Bool.{and_from, le-leb, lt-ltb}
use Rattle.host_base.specs.declared.file_ref.FileRef.{FileRef}
use Rattle.disk_model.specs.declared.block.Block.{Block}
use Rattle.disk_model.specs.Content.{Content}
use Rattle.record_model.specs.Constants.{standard_information, index_allocation, names_index}
use Rattle.record_model.specs.Pairs.{cluster_limit}
use Rattle.record_model.specs.Records.{Record, used_of}
use Rattle.record_model.specs.Values.{is_file_name}
use Rattle.file_tree.specs.declared.node.Node.{Node}
use Rattle.file_tree.specs.Trees.{node_at as node_by_number}
use Rattle.file_tree.specs.Walks.{first_user_record}
use Rattle.bit_set.specs.Bits.{bit}
use Rattle.index_model.specs.Trees.{Tree, walk, raws_of}
use Rattle.index_model.specs.Indexes.{node_block, links_of}
use Rattle.index_plan.specs.Laws.{Once}
use Rattle.index_node.specs.Roots.{root_spelling}
use Rattle.index_change.specs.declared.nodes_plan.NodesPlan.{NodesPlan}
use Rattle.index_change.specs.Changing.{uses}
use Rattle.index_change.specs.NodePlans.{PlansNodes}
use Rattle.index_change.specs.Plans.{clusters_of, root_room, seventeen, needs_level}
use Rattle.index_change.proofs.Counting.{once_fewer}
use Rattle.state_model.specs.declared.geometry.Geometry.{Geometry}
use Rattle.state_model.specs.declared.stream.Stream.{Stream}
use Rattle.state_model.specs.Files.{has_type, info_of, is_directory_record, reference}
use Rattle.volume_model.specs.Indexes.{void_block, index_place, index_stream, root_value}
use Rattle.volume_model.specs.Nodes.{spare_at}
use Rattle.volume_model.specs.Volumes.{Volume, count_of, file_in, record_bits, size_or, upper_of}
use Rattle.volume_state.specs.Trees.{tree_of, tree_with}
use Rattle.stream_laws.specs.Owners.{initialised_in}
use Rattle.stream_laws.proofs.Rewriting.{volume_parts}
use Rattle.tree_laws.specs.LookUps.{spare_of}
use Rattle.tree_laws.proofs.LookingUp.{spare_found}
use Rattle.tree_model.specs.Effects.{ref_at}
use Rattle.plan_owners.specs.States.{Stands}
use Rattle.plan_bodies.specs.Bodies.{NewBody}
use Rattle.plan_bodies.proofs.Putting.{sized_with}
use Rattle.plan_draft.specs.declared.touched.Touched.{Touched}
use Rattle.plan_draft.specs.Touching.{bodies_of}
use Rattle.plan_draft.specs.Drafts.{drafted}
use Rattle.draft_bits.specs.Effects.{IsKept}
use Rattle.index_places.specs.Places.{IndexesAreLaidOut}
use Rattle.table_steps.specs.made_trees.plan_model.Informed.{is_info, InfoDiffers}
use Rattle.table_steps.specs.made_trees.plan_model.PlannedIndexes.{AreBeside}
use Rattle.table_steps.specs.made_trees.change_steps.plan_values.Values.{WritesValues}
use Rattle.table_steps.specs.made_trees.change_steps.plan_edits.Moves.{EditsDraft}
use Rattle.table_steps.specs.made_trees.change_steps.plan_edits.Records.{PutsRecordOf}
use Rattle.table_steps.specs.made_trees.change_steps.plan_changes.Going.{StandsAs}
use Rattle.table_steps.specs.made_trees.change_steps.Found.{FoundIsThere}
use Rattle.table_steps.specs.made_trees.new_files.Laws.{NewFileReads}
use Rattle.table_steps.specs.made_trees.record_times.Laws.{TimesAreSet}
use Rattle.table_steps.specs.made_trees.record_times.Times.{timed_record}
use Rattle.table_steps.specs.made_trees.file_puts.Written.{AreStreamsOf}
use Rattle.table_steps.specs.made_trees.file_makes.declared.newfile.NewFile.{NewFile}
use Rattle.table_steps.specs.made_trees.file_makes.Making.{PutsMade}
use Rattle.table_steps.specs.made_trees.made_files.Made.{made_link, made_key, FitsFields, IsParent, IsSpare, HasNumbers}
use Rattle.record_streams.specs.Fitting.{FitsButRoom}
use Rattle.table_steps.specs.made_trees.step_model.Placing.{Growth}
use Rattle.table_steps.specs.made_trees.step_model.Plans.{table_change}
use Rattle.table_steps.specs.made_trees.Created.{timed_directory, timed_volume}
use Rattle.table_steps.specs.made_trees.Grown.{KeepsIndex, HasGrownBefore}
use Rattle.table_steps.specs.made_trees.Behind.{MakesFileBehind}
use Rattle.table_steps.proofs.made_trees.plan_model.Drafting.{per_is}
use Rattle.table_steps.proofs.made_trees.plan_model.Rewriting.{same_stream}
use Rattle.table_steps.proofs.made_trees.plan_values.Valued.{values_written}
use Rattle.table_steps.proofs.made_trees.made_files.plan_informed.Informed.{values_edit}
use Rattle.table_steps.proofs.made_trees.written_values.Joining.{puts_record}
use Rattle.made_steps.specs.Steps.{HasRootOf}
use Rattle.made_steps.specs.Behind.{MayRise, RisesWhereNeeded}
use Rattle.made_steps.specs.Timed.{TimesKeepIndex, IndexesMove}
use Rattle.place_steps.specs.place_makes.found_places.Places.{HasNames, LieBehind}
use Rattle.place_steps.proofs.place_makes.found_places.Vcns.{once_behind, real_there}
use Rattle.place_steps.specs.place_makes.Placing.{PutsTimed}
use Rattle.place_steps.proofs.Finding.{same_value}
use Rattle.place_steps.proofs.Behind as behind
use Rattle.table_steps.specs.table_makes.declared.grown.TableGrown.{TableGrown}
use Rattle.table_places.specs.Steps.{MakesBehindTable}
use Rattle.table_places.proofs.Finding as finding

-- ---- a spare number stays spare where the tree has the same spare numbers

clear_is : (b : Bool) (ref : FileRef) → b ≡ false → cond b None (Some ref) ≡ Some ref
clear_is true ref is = absurd cc
clear_is false ref is = refl

clear_from : (b : Bool) (ref other : FileRef) → cond b None (Some ref) ≡ Some other → b ≡ false
clear_from true ref other is = absurd cc
clear_from false ref other is = refl

tree_spare : (c : Content) (v : Volume) (n : ℕ) → ref_at (tree_of c v).spare n ≡ spare_of c v n
unfolding ref_at tree_of tree_with
tree_spare c v n = spare_found c v n

clear_ref : (c : Content) (v : Volume) (n : ℕ) → bit (record_bits c v) n ≡ false → (x : FileRef) × (spare_at c v n ≡ Some x)
unfolding spare_at
clear_ref c v n clear = (_, clear_is (bit (record_bits c v) n) _ clear)

clear_at : (c : Content) (v : Volume) (n : ℕ) (x : FileRef) → spare_at c v n ≡ Some x → bit (record_bits c v) n ≡ false
unfolding spare_at
clear_at c v n x is = clear_from (bit (record_bits c v) n) _ x is

inside : (n count : ℕ) → first_user_record ≤ n → n < count → (o : Option FileRef) → cond (leb first_user_record n && ltb n count) o None ≡ o
inside n count user within o = ap (λ (b : Bool). cond b o None) (and_from (leb first_user_record n) (ltb n count) (le-leb first_user_record n user) (lt-ltb n count within))

-- of two contents of which the trees have the same spare numbers
pub still_clear : (c d : Content) (v u : Volume) (n : ℕ) → (tree_of d u).spare ≡ (tree_of c v).spare → count_of u ≡ count_of v → IsSpare c v n → bit (record_bits d u) n ≡ false
still_clear c d v u n same count k =
    let ref : (x : FileRef) × (spare_at c v n ≡ Some x) = clear_ref c v n k.clear in
    let within : n < count_of u = (let low = k.within in omega (arith, low, count)) in
    clear_at d u n ref.0
    (sym (inside n (count_of u) k.user within (spare_at d u n))
    ∙ sym (tree_spare d u n)
    ∙ ap (λ (l : List FileRef). ref_at l n) same
    ∙ tree_spare c v n
    ∙ inside n (count_of v) k.user k.within (spare_at c v n)
    ∙ ref.1)

same_record : (o : Option Record) (one two : Record) → o ≡ Some one → o ≡ Some two → one ≡ two
same_record o one two first second = cc

-- an index that stands as it stood, seen from between
pub between : (c : Content) (v : Volume) (r : Record) (d : Content) (u : Volume) (p : Record) (e : Content) (w : Volume) (q : Record) → KeepsIndex c v r d u p → KeepsIndex c v r e w q → KeepsIndex d u p e w q
between c v r d u p e w q one two = record { upper = two.upper ∙ sym one.upper; root = two.root ∙ sym one.root; nodes = λ i. two.nodes i ∙ sym (one.nodes i) }

-- A draft in which all has grown that has to, and what is put behind it.
pub record PutsBehind (c : Content) (g : Geometry) (clusters : ℕ) (v : Volume) (x : TableGrown) (m : NewFile) (r : Record) (nodes : NodesPlan) (growths : List Growth) (u : Volume) (q : Record) (grown new : List Touched) : Type 0 where
  pub before : HasGrownBefore c g clusters v m.parent.number r growths u q grown
  pub index : KeepsIndex c v r (drafted grown c) u q
  pub streams : AreStreamsOf u x.streams
  pub numbers : HasNumbers u x.numbers
  pub spare : IsSpare (drafted grown c) u m.file.number
  pub info : has_type standard_information q ≡ true
  pub directory : is_directory_record q ≡ true
  pub fits : FitsButRoom q
  pub seq : q.head.seq ≡ r.head.seq
  pub begun : size_or (index_stream q) ≤ initialised_in (index_stream q)
  pub behind : PutsTimed c x.streams x.numbers m q nodes grown new

module _ (there_is : FoundIsThere) (c : Content) (g : Geometry) (clusters : ℕ) (v : Volume) (path : List (List ℕ)) (directory : Node) (m : NewFile) (r : Record) (x : TableGrown) (bits : List Bool) (tabled new : List Touched) (k : MakesBehindTable c g clusters v path directory m r x bits tabled new) where
  pub eight : v.per ≡ 8
  eight = per_is c g clusters v k.found.has.eight k.found.has.stands

  abbrev pub found : (a : Node) × (o : Record) × finding.HasDirectory c v directory m a o
  found = finding.has_directory there_is c g clusters v path directory m k.found

  abbrev pub a : Node
  a = (finding.has_directory there_is c g clusters v path directory m k.found).0

  pub place : finding.HasDirectory c v directory m a r
  place = subst (λ (o : Record). finding.HasDirectory c v directory m a o) (same_record (file_in v m.parent.number) found.1 r found.2.own.file k.file) found.2

  abbrev pub value : List ℕ
  value = k.put.plans.value

  abbrev pub fresh : List ℕ
  fresh = k.put.plans.fresh

  abbrev pub nodes : NodesPlan
  nodes = k.put.nodes

  abbrev own_names : (y : List ℕ) × (t : Tree) × HasNames c v m r y t
  own_names = finding.has_names there_is c g clusters v path directory m k.found r k.file place.is_directory

  abbrev pub t : Tree
  t = (finding.has_names there_is c g clusters v path directory m k.found r k.file place.is_directory).1

  pub names : HasNames c v m r value t
  names = subst (λ (y : List ℕ). HasNames c v m r y t) (same_value (root_value r) own_names.0 value own_names.2.root k.put.plans.root) own_names.2

  pub lie : LieBehind v.per r fresh
  lie = subst (λ (per : ℕ). LieBehind per r fresh) (sym eight) k.put.plans.lie

  pub once : Once t fresh
  once = once_behind c (index_place v.per r) (upper_of c v) value t names.holds fresh lie.single lie.behind

  pub own_table : HasGrownBefore c g clusters v m.parent.number r (table_change c v).growths k.has.u r tabled
  own_table = k.has.before m.parent.number r place.own place.is_directory

  pub index_table : KeepsIndex c v r (drafted tabled c) k.has.u r
  index_table = k.has.index m.parent.number r place.own place.is_directory

  pub planned : PlansNodes (drafted tabled c) (index_place k.has.u.per r) (upper_of (drafted tabled c) k.has.u) value (used_of r.attrs) (made_key m) fresh (Ok nodes)
  planned =
      subst (λ (l : List ℕ). PlansNodes (drafted tabled c) (index_place k.has.u.per r) l value (used_of r.attrs) (made_key m) fresh (Ok nodes)) (sym index_table.upper)
      (subst (λ (per : ℕ). PlansNodes (drafted tabled c) (index_place per r) (upper_of c v) value (used_of r.attrs) (made_key m) fresh (Ok nodes)) (sym (k.has.per ∙ eight)) k.put.plans.planned)

  -- the number is one of the longer file table
  pub spare_table : IsSpare (drafted tabled c) k.has.u m.file.number
  spare_table = k.has.spare m.file (finding.least there_is c g clusters v path directory m k.found)

  state_table : Stands (drafted tabled c) g clusters k.has.u
  state_table = subst (λ (y : Content). Stands y g clusters k.has.u) own_table.content own_table.draft.stands

  low : m.file.number < 2 ^ 32
  low = finding.number_low (drafted tabled c) g clusters k.has.u m.file.number state_table spare_table.within

  module _ (times_set : TimesAreSet) (laid : IndexesAreLaidOut) (new_reads : NewFileReads) (moves : IndexesMove) (times_keep : TimesKeepIndex) (rises : RisesWhereNeeded) (growths : List Growth) (u : Volume) (q : Record) (grown : List Touched) (b : PutsBehind c g clusters v x m r k.put.nodes growths u q grown new) where
    abbrev dir : ℕ
    dir = m.parent.number

    abbrev pub timed : List Touched
    timed = b.behind.timed

    abbrev first : Content
    first = drafted grown c

    abbrev middle : Content
    middle = drafted b.behind.timed c

    abbrev p : Record
    p = timed_record m.stamp q

    abbrev z : Record
    z = timed_directory m.stamp q

    abbrev w : Volume
    w = timed_volume u m q

    state : Stands c g clusters v
    state = k.found.has.stands

    kept_timed : IsKept timed
    kept_timed = behind.kept times_set c g clusters v x.streams m r growths u q grown timed k.sized k.found.has.eight state b.before b.streams b.info place.high b.behind.times

    pub state_w : Stands middle g clusters w
    state_w = behind.stands times_set c g clusters v x.streams m r growths u q grown timed k.sized k.found.has.eight state b.before b.streams b.info place.high b.behind.times

    pub stands_as : StandsAs u dir p z
    stands_as = behind.stands_as times_set c g clusters v x.streams m r growths u q grown timed k.sized k.found.has.eight state b.before b.streams b.info place.high b.behind.times

    pub keeps : KeepsIndex c v r middle w z
    keeps = times_keep c g clusters v x.streams dir m.stamp r growths u q grown timed (record { sized = k.sized; eight = k.found.has.eight; before = b.before; index = b.index; streams = b.streams; info = b.info; mirrored_none = place.high; kept = kept_timed; times = b.behind.times })

    -- ---- the number

    first_stands : Stands first g clusters u
    first_stands = behind.first_stands times_set c g clusters v x.streams m r growths u q grown timed k.sized k.found.has.eight state b.before b.streams b.info place.high b.behind.times

    puts : PutsRecordOf c u x.streams.mirror dir p grown timed
    puts = puts_record c u x.streams dir p grown timed k.sized b.before.kept (per_is first g clusters u k.found.has.eight first_stands) b.streams.table b.streams.mirror b.behind.times

    edit : (bodies : List NewBody) × (EditsDraft c grown timed bodies × WritesValues first u dir q p z bodies)
    edit = values_edit.times c g clusters u x.streams.mirror dir q p grown timed first_stands b.before.own (times_set.rewritten m.stamp q b.info) puts

    informed : InfoDiffers dir (info_of p) (tree_of first u) (tree_of middle w)
    informed =
        subst (λ (y : Content). InfoDiffers dir (info_of p) (tree_of first u) (tree_of y w)) edit.1.0.content
        (values_written.times_alone first g clusters u dir q p z edit.0 (sized_with c (bodies_of grown) k.sized) first_stands edit.1.1 (times_set.rewritten m.stamp q b.info))

    count_same : count_of w ≡ count_of u
    unfolding tree_of tree_with
    count_same = informed.count

    spare : IsSpare middle w m.file.number
    spare = record {
      user = b.spare.user;
      within = (let inside_u = b.spare.within in let same = count_same in omega (arith, inside_u, same));
      clear = still_clear first middle u w m.file.number informed.spare count_same b.spare;
      lies = b.spare.lies;
    }

    -- ---- the entry

    now_stream : index_stream z ≡ index_stream q
    unfolding index_stream
    now_stream = stands_as.streams index_allocation names_index ∙ same_stream is_info q p index_allocation names_index (times_set.rewritten m.stamp q b.info) behind.not_info

    begun_z : size_or (index_stream z) ≤ initialised_in (index_stream z)
    begun_z = subst (λ (o : Option Stream). size_or o ≤ initialised_in o) (sym now_stream) b.begun

    few : w.clusters ≤ cluster_limit
    few = (let count = (volume_parts middle g clusters w state_w.loaded).count in let most = k.found.few in omega (arith, count, most))

    parent_is : IsParent w m.parent z
    parent_is = behind.parent_there times_set c g clusters v x.streams m r growths u q grown timed k.sized k.found.has.eight state b.before b.streams b.info place.high b.behind.times b.directory place.not_extend by_reference
      where
        by_reference : m.parent ≡ reference dir q
        by_reference = place.referred ∙ ap₂ (λ (j l : ℕ). record { number = j; seq = l }) (sym (ap (λ (f : FileRef). f.number) place.referred)) (place.seq ∙ sym b.seq)

    real : (j : ℕ) (y : Block) → node_block (index_place w.per z) j ≡ Some y → y ≢ void_block
    real j y at = real_there laid middle g clusters w dir z state_w k.found.has.eight few stands_as.own.file parent_is.directory begun_z j y at

    planned_there : PlansNodes middle (index_place w.per z) (upper_of middle w) value (used_of r.attrs) (made_key m) fresh (Ok k.put.nodes)
    planned_there = moves.plans (drafted tabled c) middle k.has.u w r z value (used_of r.attrs) (made_key m) fresh k.put.nodes (between c v r (drafted tabled c) k.has.u r middle w z index_table keeps) planned

    pub made : PutsMade c x.streams x.numbers m z (index_place w.per z) value k.put.nodes timed new
    made =
        let is : b.behind.made.value ≡ value = same_value (root_value z) b.behind.made.value value b.behind.made.root (keeps.root ∙ k.put.plans.root) in
        subst (λ (per : ℕ). PutsMade c x.streams x.numbers m z (index_place per z) value k.put.nodes timed new) (sym (per_is middle g clusters w k.found.has.eight state_w)) (subst (λ (y : List ℕ). PutsMade c x.streams x.numbers m z (index_place 8 z) y k.put.nodes timed new) is b.behind.made.put)

    fields : FitsFields m
    fields = record {
      number = low;
      seq = k.seq;
      directory = place.small;
      directory_seq = (let is : m.parent.seq ≡ r.head.seq = ap (λ (f : FileRef). f.seq) place.referred ∙ place.seq in let small = k.fits.head.seq in omega (arith, is, small));
      is_name = k.is_name;
      stamp_small = k.soon;
    }

    pub by : MakesFileBehind c g clusters v x.streams x.numbers m a r growths u q grown value (used_of r.attrs) t fresh k.put.nodes timed new
    by = record {
      sized = k.sized;
      eight = k.found.has.eight;
      stands = state;
      own = place.own;
      before = b.before;
      streams = b.streams;
      info = b.info;
      fits = b.fits;
      node = ap (node_by_number (tree_of c v).nodes) (ap (λ (f : FileRef). f.number) k.found.parent) ∙ place.node;
      referred = place.referred;
      times = b.behind.times;
      made = record {
        sized = k.sized;
        kept = kept_timed;
        streams = behind.streams_there times_set c g clusters v x.streams m r growths u q grown timed k.sized k.found.has.eight state b.before b.streams b.info place.high b.behind.times;
        bits = behind.numbers_there times_set c g clusters v x.streams m r growths u q grown timed k.sized k.found.has.eight state b.before b.streams b.info place.high b.behind.times x.numbers b.numbers;
        fields = fields;
        number = spare;
        directory = parent_is;
        entry = record {
          root = keeps.root ∙ k.put.plans.root;
          holds = moves.holds c middle v w r z value t keeps names.holds;
          planned = planned_there;
          front = k.put.plans.front;
          enough = lie.enough;
          once = once;
          laid = laid.laid middle g clusters w dir z (uses t fresh) state_w stands_as.own.file (λ j has. inl (λ void. real j void_block void refl));
          beside = subst (λ (l : List ℕ). AreBeside l (made_link m) (links_of (walk t))) (sym keeps.upper) names.beside;
          real = λ j y used at. real j y at;
        };
        put = made;
      };
      outside = place.outside;
    }

    -- ---- a level more, and the tree that the plan makes

    lawful : is_file_name (made_key m).value ≡ true
    lawful =
        let f = fields in
        (new_reads 0 m.file m.parent m.name m.stamp (record { lsn_small = omega arith; number = f.number; seq = f.seq; directory = f.directory; directory_seq = f.directory_seq; is_name = f.is_name; stamp_small = f.stamp_small })).key.lawful

    pub level : needs_level (upper_of c v) (root_room (used_of r.attrs) value) (made_key m) (seventeen fresh) t ≡ true → MayRise c v a.number r value (made_key m) t
    level up = rises c v a.number r value (made_key m) fresh t lawful names.holds (once_fewer t 17 fresh once) lie.enough up

    -- the tree that the plan makes of it
    pub after : (y : Tree) × (k.put.nodes.root ≡ raws_of y)
    after =
        let there = by.made.entry in
        let tree = (there.planned.1 t there.holds (once_fewer t 17 fresh there.once)).becomes in
        (tree.tree, tree.root)

    pub after_root : HasRootOf value k.put.nodes after.0
    after_root = ap (root_spelling (clusters_of value)) (sym after.1)
