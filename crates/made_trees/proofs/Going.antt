-- The edits of a new file, one behind the other, over a draft in which the index of its directory has grown, and the tree that they lead to.
use Rattle.std.proofs.Common.{◌≡◌, ◌≢◌, ℕ, ◌+◌, ◌≤◌, Bool, true, false, ◌&&◌, cond, eqb, leb, ltb, List, [], ◌∷◌, ◌++◌, length, Option, Some, None, refl, sym, ap, subst, ◌∙◌, inl, inr, arith}
use Rattle.std.specs.List.Sorted.{IsPermutation}
use Rattle.std.specs.Option.{option_map}
use Rattle.std.proofs.lemmas.Bool.{cases_eq, cases_lt, eq-eqb, ne_eqb, and_from, le-leb, lt-ltb, le-ltb}
use Rattle.std.proofs.lemmas.List.Sorted.{IsPermutation-middle, IsPermutation-sym}
use Rattle.host_base.specs.declared.file_ref.FileRef.{FileRef}
use Rattle.disk_model.specs.Content.{Content, HasSizes}
use Rattle.record_model.specs.declared.values.StdInfo.{StdInfo}
use Rattle.record_model.specs.Records.{Record}
use Rattle.file_tree.specs.declared.node.Node.{Node}
use Rattle.file_tree.specs.declared.link.Link.{Link}
use Rattle.file_tree.specs.Trees.{node_at as node_by_number}
use Rattle.file_tree.specs.Walks.{first_user_record}
use Rattle.index_model.specs.Trees.{Tree}
use Rattle.made_files.specs.index_change.declared.nodes_plan.NodesPlan.{NodesPlan}
use Rattle.made_files.specs.index_change.declared.plan.DirPlan.{DirPlan}
use Rattle.state_model.specs.declared.geometry.Geometry.{Geometry}
use Rattle.state_model.specs.declared.stream.Extents.{Extents}
use Rattle.state_model.specs.Files.{info_of}
use Rattle.state_model.specs.Files.{file_links, links_at}
use Rattle.state_model.specs.Trees.{is_nameless, is_in_system}
use Rattle.tree_laws.proofs.Ascending.{in_system_kept}
use Rattle.written_values.proofs.plan_model.Rewriting.{same_links}
use Rattle.written_values.proofs.plan_changes.Going.{files_going}
use Rattle.written_values.proofs.Sparing.{elsewhere}
use Rattle.volume_model.specs.Nodes.{some_node, node_by, node_at, spare_at}
use Rattle.volume_model.specs.Volumes.{Volume, bytes_or, count_of, file_in, files_by_number, record_bits}
use Rattle.volume_state.specs.Trees.{tree_of, tree_with}
use Rattle.tree_laws.specs.LookUps.{spare_of}
use Rattle.tree_laws.proofs.LookingUp.{spare_found}
use Rattle.tree_model.specs.Effects.{ref_at, with_node, changed_node, renewed, new_file, new_numbers, numbers_to_take, count_to_take, new_link, HasCreated}
use Rattle.tree_model.specs.Refusals.{more_records}
use Rattle.bit_set.specs.Bits.{bit}
use Rattle.plan_owners.specs.States.{Stands}
use Rattle.plan_bodies.specs.Bodies.{NewBody}
use Rattle.plan_bodies.proofs.Putting.{sized_with}
use Rattle.plan_draft.specs.declared.touched.Touched.{Touched}
use Rattle.plan_draft.specs.Touching.{bodies_of}
use Rattle.plan_draft.specs.Drafts.{drafted}
use Rattle.plan_blocks.specs.Blocks.{RoomDiffers}
use Rattle.written_values.specs.plan_model.Attributes.{RewritesValues}
use Rattle.written_values.specs.plan_model.Informed.{is_info, with_info, InfoDiffers}
use Rattle.written_values.specs.plan_model.Made.{HasMade}
use Rattle.written_values.proofs.plan_model.Drafting.{per_is}
use Rattle.written_values.proofs.plan_model.Making.{goes_on_made, has_made}
use Rattle.written_values.proofs.plan_model.Stepping.{tree_nodes}
use Rattle.made_files.specs.record_times.Times.{timed_record}
use Rattle.made_files.specs.record_times.Laws.{TimesAreSet}
use Rattle.made_files.specs.plan_values.Values.{WritesValues}
use Rattle.made_files.proofs.plan_values.Valued.{values_written}
use Rattle.written_values.specs.plan_edits.Moves.{EditsDraft}
use Rattle.written_values.specs.plan_edits.Records.{PutsRecordOf}
use Rattle.made_files.proofs.plan_informed.Informed.{values_edit}
use Rattle.made_files.specs.new_files.Laws.{ReadsNewFile, NewFileReads}
use Rattle.written_values.specs.file_puts.declared.streams.VolumeStreams.{VolumeStreams}
use Rattle.written_values.proofs.Joining.{Reaches, goes_behind, puts_record}
use Rattle.made_files.specs.file_makes.declared.newfile.NewFile.{NewFile}
use Rattle.made_files.specs.file_makes.Making.{made_lsn, made_record}
use Rattle.made_files.specs.Made.{made_link, rooted_directory, IsMadeEdit}
use Rattle.made_files.proofs.Making.{file_made}
use Rattle.made_trees.specs.Behind.{MakesFileBehind, HasMadeFileBehind, MadeBehindAreTrees}
use Rattle.made_trees.specs.Created.{timed_directory, timed_volume, made_volume}
use Rattle.written_values.specs.step_model.Placing.{Growth, wanted_by}
use Rattle.made_trees.proofs.Infos.{info_written, info_rooted, links_written, names_spared}

-- ---- a node of a file

own_node : (t : Bool) (a b : Node) → cond t None (Some b) ≡ Some a → b ≡ a
own_node true a b is = absurd cc
own_node false a b is = cc

-- ---- spare numbers

some_spare : (refs : List FileRef) (n : ℕ) (x : FileRef) → ref_at refs n ≡ Some x → eqb (length refs) 0 ≡ false
unfolding ref_at
some_spare [] n x is = absurd cc
some_spare (y ∷ refs) n x is = ne_eqb (length (y ∷ refs)) 0 (λ same. omega (arith, same))

tree_spare : (c : Content) (v : Volume) (n : ℕ) → ref_at (tree_of c v).spare n ≡ spare_of c v n
unfolding ref_at tree_of tree_with
tree_spare c v n = spare_found c v n

module _ (times_set : TimesAreSet) (reads : NewFileReads) (c : Content) (g : Geometry) (clusters : ℕ) (v : Volume) (s : VolumeStreams) (numbers : Extents) (m : NewFile) (a : Node) (r : Record) (growths : List Growth) (u : Volume) (now : Record) (grown : List Touched) (value : List ℕ) (used : ℕ) (t : Tree) (fresh : List ℕ) (nodes : NodesPlan) (timed new : List Touched)
    (k : MakesFileBehind c g clusters v s numbers m a r growths u now grown value used t fresh nodes timed new) where
  abbrev n : ℕ
  n = m.file.number

  abbrev dir : ℕ
  dir = m.parent.number

  abbrev first : Content
  first = drafted grown c

  abbrev middle : Content
  middle = drafted timed c

  abbrev last : Content
  last = drafted new c

  abbrev p : Record
  p = timed_record m.stamp now

  abbrev q : Record
  q = timed_directory m.stamp now

  abbrev x : Volume
  x = timed_volume u m now

  abbrev plan : DirPlan
  plan = k.made.put.plan

  abbrev z : Record
  z = rooted_directory k.made.put.plan (timed_directory m.stamp now)

  abbrev f : Record
  f = made_record (drafted timed c) s.table m

  abbrev w : Volume
  w = made_volume c u s m now k.made.put.plan timed

  pub first_sized : HasSizes first
  first_sized = sized_with c (bodies_of grown) k.sized

  pub middle_sized : HasSizes middle
  middle_sized = sized_with c (bodies_of timed) k.sized

  pub first_stands : Stands first g clusters u
  first_stands = subst (λ (y : Content). Stands y g clusters u) k.before.content k.before.draft.stands

  -- ---- the times

  pub anew : RewritesValues is_info now p
  anew = times_set.rewritten m.stamp now k.info

  puts : PutsRecordOf c u s.mirror dir p grown timed
  puts = puts_record c u s dir p grown timed k.sized k.before.kept (per_is first g clusters u k.eight first_stands) k.streams.table k.streams.mirror k.times

  pub edit : (bodies : List NewBody) × (EditsDraft c grown timed bodies × WritesValues first u dir now p q bodies)
  edit = values_edit.times c g clusters u s.mirror dir now p grown timed first_stands k.before.own anew puts

  reaches_grown : Reaches c g clusters v grown u
  reaches_grown = record { gave = k.before.gave; bodies = k.before.bodies; same = k.before.same; content = k.before.content; draft = k.before.draft }

  reaches_times : Reaches c g clusters v timed x
  reaches_times = goes_behind c g clusters v u x grown timed edit.0 k.sized k.eight k.stands reaches_grown edit.1.0 (λ gave clear. values_written.goes_on c v first g clusters u dir now p q edit.0 gave first_sized first_stands edit.1.1 clear)

  pub stands : Stands middle g clusters x
  stands = subst (λ (y : Content). Stands y g clusters x) reaches_times.content reaches_times.draft.stands

  pub informed : InfoDiffers dir (info_of p) (tree_of first u) (tree_of middle x)
  informed = subst (λ (y : Content). InfoDiffers dir (info_of p) (tree_of first u) (tree_of y x)) edit.1.0.content (values_written.times_alone first g clusters u dir now p q edit.0 first_sized first_stands edit.1.1 anew)

  -- ---- the names stay

  dir_x : file_in x dir ≡ Some q
  dir_x = (files_going.written first g clusters u dir now p q edit.0 first_sized first_stands edit.1.1).own.file

  -- those with the times are those where the directory has grown
  names_same : (i : ℕ) → links_at (files_by_number x) i ≡ links_at (files_by_number u) i
  unfolding links_at
  names_same i = elim (cases_eq i dir) [
    | inl is ↦
        ap (λ (j : ℕ). file_links j (file_in x j)) is
        ∙ ap (file_links dir) dir_x
        ∙ links_written dir p
        ∙ same_links is_info dir now p anew names_spared
        ∙ sym (ap (λ (j : ℕ). file_links j (file_in u j)) is ∙ ap (file_links dir) k.before.own.file)
    | inr other ↦ ap (file_links i) (elsewhere u dir i q other)
  ]

  count_same : count_of x ≡ count_of u
  unfolding tree_of tree_with
  count_same = informed.count

  outside : is_in_system (files_by_number x) (count_of x) dir ≡ false
  outside =
      ap (λ (j : ℕ). is_in_system (files_by_number x) j dir) count_same
      ∙ in_system_kept (λ i. true) (files_by_number u) (files_by_number x) (count_of u) dir (record { names = λ i within. names_same i; up = λ i j within is. refl }) refl
      ∙ k.before.system
      ∙ k.outside

  -- ---- the tree where the directory has grown

  nodes_before : (i : ℕ) → node_by_number (tree_of first u).nodes i ≡ node_by_number (tree_of c v).nodes i
  nodes_before i = elim k.before.tree [
    | inl same ↦ same.nodes i
    | inr came ↦ came.nodes i
  ]

  links_before : (tree_of first u).links ≡ (tree_of c v).links
  links_before = elim k.before.tree [
    | inl same ↦ same.links
    | inr came ↦ came.links
  ]

  journal_before : (tree_of first u).journal ≡ (tree_of c v).journal
  journal_before = elim k.before.tree [
    | inl same ↦ same.journal
    | inr came ↦ came.journal
  ]

  -- ---- the file

  pub made : IsMadeEdit c x s m q value used t fresh k.made.put.plan timed new
  made = file_made reads c g clusters x s numbers m q value used t fresh nodes timed new k.eight stands k.made

  pub reaches : Reaches c g clusters v new w
  reaches = goes_behind c g clusters v x w timed new made.bodies k.sized k.eight k.stands reaches_times made.edits (λ gave clear. goes_on_made middle g clusters x n dir f q z (made_link m) made.bodies middle_sized stands made.makes c v gave clear)

  created : HasMade middle x n dir f z (made_link m) last w
  created = subst (λ (y : Content). HasMade middle x n dir f z (made_link m) y w) made.edits.content (has_made middle g clusters x n dir f q z (made_link m) made.bodies middle_sized stands made.makes)

  pub reads_file : ReadsNewFile (made_lsn middle s.table m) m.file m.parent m.name m.stamp
  reads_file = reads (made_lsn middle s.table m) m.file m.parent m.name m.stamp (record {
    lsn_small = k.made.put.lsn;
    number = k.made.fields.number;
    seq = k.made.fields.seq;
    directory = k.made.fields.directory;
    directory_seq = k.made.fields.directory_seq;
    is_name = k.made.fields.is_name;
    stamp_small = k.made.fields.stamp_small;
  })

  -- ---- the nodes

  a_number : dir ≡ a.number
  a_number = ap (λ (ref : FileRef). ref.number) k.referred

  a_is : node_by (bytes_or first u.per) u dir now ≡ a
  unfolding node_at
  a_is = own_node (is_nameless dir now) a (node_by (bytes_or first u.per) u dir now) (ap (some_node (bytes_or first u.per) u dir) (sym k.before.own.file) ∙ sym (tree_nodes first u dir) ∙ nodes_before dir ∙ k.node)

  same_info : info_of z ≡ info_of p
  same_info = info_written _ ∙ info_rooted k.made.put.plan.root q ∙ info_written p

  now_renewed : with_info (info_of z) (with_info (info_of p) a) ≡ renewed a m.stamp
  now_renewed =
      ap (λ (i : StdInfo). with_info i a) same_info
      ∙ ap (with_info (info_of p)) (sym a_is)
      ∙ times_set.node m.stamp dir now u (bytes_or first u.per) k.made.fields.stamp_small k.fits
      ∙ ap (λ (y : Node). renewed y m.stamp) a_is

  at_file : node_by_number (tree_of last w).nodes n ≡ Some (new_file m.file m.stamp)
  at_file = created.made ∙ ap Some (reads_file.node (bytes_or last w.per) w (created.system ∙ outside) refl)

  at_directory : node_by_number (tree_of last w).nodes dir ≡ Some (renewed a m.stamp)
  at_directory = created.directory ∙ ap (option_map (with_info (info_of z))) (informed.node ∙ ap (option_map (with_info (info_of p))) (nodes_before dir ∙ k.node)) ∙ ap Some now_renewed

  node_there : (i : ℕ) → node_by_number (tree_of last w).nodes i ≡ with_node (new_file m.file m.stamp) (with_node (renewed a m.stamp) (node_by_number (tree_of c v).nodes)) i
  unfolding new_file changed_node
  node_there i = elim (cases_eq i n) [
    | inl is ↦
        ap (node_by_number (tree_of last w).nodes) is ∙ at_file
        ∙ sym (ap (λ (b : Bool). cond b (Some (new_file m.file m.stamp)) (with_node (renewed a m.stamp) (node_by_number (tree_of c v).nodes) i)) (eq-eqb i n is))
    | inr not_file ↦ elim (cases_eq i dir) [
      | inl is ↦
          ap (node_by_number (tree_of last w).nodes) is ∙ at_directory
          ∙ sym (ap (λ (b : Bool). cond b (Some (new_file m.file m.stamp)) (with_node (renewed a m.stamp) (node_by_number (tree_of c v).nodes) i)) (ne_eqb i n not_file)
          ∙ ap (λ (b : Bool). cond b (Some (renewed a m.stamp)) (node_by_number (tree_of c v).nodes i)) (eq-eqb i a.number (is ∙ a_number)))
      | inr not_directory ↦
          created.others i not_file not_directory ∙ informed.others i not_directory ∙ nodes_before i
          ∙ sym (ap (λ (b : Bool). cond b (Some (new_file m.file m.stamp)) (with_node (renewed a m.stamp) (node_by_number (tree_of c v).nodes) i)) (ne_eqb i n not_file)
          ∙ ap (λ (b : Bool). cond b (Some (renewed a m.stamp)) (node_by_number (tree_of c v).nodes i)) (ne_eqb i a.number (λ same. not_directory (same ∙ sym a_number))))
    ]
  ]

  -- ---- the spare numbers

  same_count : count_of w ≡ count_of x
  unfolding tree_of tree_with
  same_count = created.count

  spare_by : (i : ℕ) → i ≢ n → spare_of last w i ≡ spare_of middle x i
  spare_by i not_file = elim (cases_lt i (count_of x)) [
    | inl low ↦
        ap (λ (y : ℕ). cond (leb first_user_record i && ltb i y) (spare_at last w i) None) same_count
        ∙ ap (λ (o : Option FileRef). cond (leb first_user_record i && ltb i (count_of x)) o None) (created.spare i low not_file)
    | inr high ↦
        ap (λ (y : ℕ). cond (leb first_user_record i && ltb i y) (spare_at last w i) None) same_count
        ∙ none_past (leb first_user_record i) (ltb i (count_of x)) (spare_at last w i) (spare_at middle x i) (past i high)
  ]
    where
      past : (i : ℕ) → count_of x ≤ i → ltb i (count_of x) ≡ false
      past i high = le-ltb i (count_of x) high

      none_past : (b d : Bool) (o u : Option FileRef) → d ≡ false → cond (b && d) o None ≡ cond (b && d) u None
      none_past true false o u is = refl
      none_past false d o u is = refl
      none_past true true o u is = absurd cc

  spare_here : spare_of last w n ≡ None
  spare_here = ap (λ (o : Option FileRef). cond (leb first_user_record n && ltb n (count_of w)) o None) created.spare_none ∙ both (leb first_user_record n && ltb n (count_of w))
    where
      both : (b : Bool) → cond {A = Option FileRef} b None None ≡ None
      both true = refl
      both false = refl

  spare_is : (b : Bool) (ref : FileRef) → b ≡ false → cond b None (Some ref) ≡ Some ref
  spare_is true ref is = absurd cc
  spare_is false ref is = refl

  was_clear : (ref : FileRef) × (spare_at middle x n ≡ Some ref)
  unfolding spare_at
  was_clear = (_, spare_is (bit (record_bits middle x) n) _ k.made.number.clear)

  was_spare : ref_at (tree_of middle x).spare n ≡ Some was_clear.0
  was_spare =
      tree_spare middle x n
      ∙ ap (λ (b : Bool). cond b (spare_at middle x n) None) (and_from (leb first_user_record n) (ltb n (count_of x)) (le-leb first_user_record n k.made.number.user) (lt-ltb n (count_of x) k.made.number.within))
      ∙ was_clear.1

  spare_before : ref_at (tree_of first u).spare n ≡ Some was_clear.0
  spare_before = ap (λ (l : List FileRef). ref_at l n) (sym informed.spare) ∙ was_spare

  -- where the file table stays, some number was spare at first
  pub some_left : RoomDiffers (tree_of c v) (tree_of first u) → eqb (length (tree_of c v).spare) 0 ≡ false
  some_left same = ap (λ (l : List FileRef). eqb (length l) 0) (sym same.spare) ∙ some_spare (tree_of first u).spare n was_clear.0 spare_before

  numbers_before : (i : ℕ) → ref_at (tree_of first u).spare i ≡ ref_at (numbers_to_take (tree_of c v)) i
  numbers_before i = elim k.before.tree [
    | inl same ↦ ap (λ (l : List FileRef). ref_at l i) (same.spare ∙ sym (ap (λ (b : Bool). cond b (new_numbers (tree_of c v).count) (tree_of c v).spare) (some_left same)))
    | inr came ↦ came.spare i
  ]

  count_before : (tree_of first u).count ≡ count_to_take (tree_of c v)
  count_before = elim k.before.tree [
    | inl same ↦ same.count ∙ sym (ap (λ (b : Bool). cond b ((tree_of c v).count + more_records) (tree_of c v).count) (some_left same))
    | inr came ↦ came.count
  ]

  spare_there : (i : ℕ) → ref_at (tree_of last w).spare i ≡ cond (eqb i n) None (ref_at (numbers_to_take (tree_of c v)) i)
  spare_there i = elim (cases_eq i n) [
    | inl is ↦
        ap (ref_at (tree_of last w).spare) is ∙ tree_spare last w n ∙ spare_here
        ∙ sym (ap (λ (b : Bool). cond b None (ref_at (numbers_to_take (tree_of c v)) i)) (eq-eqb i n is))
    | inr not_file ↦
        tree_spare last w i ∙ spare_by i not_file ∙ sym (tree_spare middle x i)
        ∙ ap (λ (l : List FileRef). ref_at l i) informed.spare
        ∙ numbers_before i
        ∙ sym (ap (λ (b : Bool). cond b None (ref_at (numbers_to_take (tree_of c v)) i)) (ne_eqb i n not_file))
  ]

  -- ---- the names

  pub same_link : made_link m ≡ new_link a m.name m.file
  same_link = ap (λ (ref : FileRef). record { parent = ref; name = m.name; space = 0; child = m.file }) k.referred

  links_there : IsPermutation (new_link a m.name m.file ∷ (tree_of c v).links) (tree_of last w).links
  links_there =
      let parts = created.links in
      let front : List Link = parts.front in
      let behind : List Link = parts.behind in
      let all : IsPermutation (made_link m ∷ (front ++ behind)) (front ++ made_link m ∷ behind) = IsPermutation-sym _ _ (IsPermutation-middle front (made_link m) behind) in
      let old : front ++ behind ≡ (tree_of c v).links = sym parts.was ∙ informed.links ∙ links_before in
      subst (λ (l : List Link). IsPermutation (new_link a m.name m.file ∷ (tree_of c v).links) l) (sym parts.is)
      (subst (λ (l : List Link). IsPermutation (new_link a m.name m.file ∷ l) (front ++ made_link m ∷ behind)) old
      (subst (λ (l : Link). IsPermutation (l ∷ (front ++ behind)) (front ++ made_link m ∷ behind)) same_link all))

  -- ---- the tree

  count_there : (tree_of last w).count ≡ count_to_take (tree_of c v)
  count_there = created.count ∙ informed.count ∙ count_before

  tree_there : (most : ℕ) → wanted_by growths ≤ most → HasCreated (tree_of c v) most m.stamp a m.name m.file (tree_of last w)
  tree_there most enough = record {
    node = node_there;
    spare = spare_there;
    links = links_there;
    count = count_there;
    journal = created.journal ∙ informed.journal ∙ journal_before;
    room = (let one = created.room in let two = informed.room in let fell = k.before.room in omega (arith, one, two, fell, enough));
  }

  pub has_made_file : HasMadeFileBehind c g clusters v m a growths new w
  has_made_file = record { gave = reaches.gave; bodies = reaches.bodies; same = reaches.same; content = reaches.content; draft = reaches.draft; tree = tree_there }

pub behind_is_there : TimesAreSet → NewFileReads → MadeBehindAreTrees
behind_is_there times_set reads c g clusters v s numbers m a r growths u now grown value used t fresh nodes timed new k = (
  made times_set reads c g clusters v s numbers m a r growths u now grown value used t fresh nodes timed new k,
  has_made_file times_set reads c g clusters v s numbers m a r growths u now grown value used t fresh nodes timed new k,
)
