-- A file's record is put with one stream as another one: the state that it leads to, where rules 5 and 6 are shown.
use Rattle.std.proofs.Common.{◌≡◌, ◌≢◌, ◌⊎◌, ℕ, ◌+◌, ◌*◌, ◌/◌, ◌<◌, ◌≤◌, Bool, true, false, not, ◌&&◌, ◌||◌, cond, eqb, nat_eq, leb, ltb, List, [], ◌∷◌, length, get_or, Option, Some, None, refl, sym, ap, ap₂, subst, ◌∙◌, inl, inr, arith}
use Rattle.std.specs.List.{list_all, list_any, AllByRecursion}
use Rattle.std.specs.Cmp.Lexicographic.{pointwise}
use Rattle.std.specs.Option.{option_or, option_map}
use Rattle.std.proofs.lemmas.Bool.{cases_Bool, cases_eq, cases_lt, le-leb, lt-leb, leb-true, and_parts, and_from, both_ways, or_left, or_from, eqb-true, eqb-false, ne_eqb, eq-eqb}
use Rattle.disk_model.specs.declared.block.Block.{Block}
use Rattle.disk_model.specs.declared.block.BlockKind.{BlockKind}
use Rattle.disk_model.specs.declared.block.BlockKind.TheVariants.{FileRec, Index}
use Rattle.disk_model.specs.Sectors.{same_block}
use Rattle.disk_model.specs.Content.{Content, HasSizes}
use Rattle.disk_model.specs.Writes.{Write}
use Rattle.record_model.specs.declared.runs.Run.{Run}
use Rattle.record_model.specs.declared.values.StdInfo.{StdInfo}
use Rattle.record_model.specs.Records.{Record}
use Rattle.record_model.specs.Constants.{attribute_list, data_type, index_allocation, bitmap_type, names_index, object_id, reparse_point}
use Rattle.file_tree.specs.declared.link.Link.{Link}
use Rattle.file_tree.specs.declared.node.Kind.{Kind}
use Rattle.file_tree.specs.declared.node.Kind.TheVariants.{Directory, File, Fixed, Opaque, System}
use Rattle.file_tree.specs.declared.node.Node.{Node}
use Rattle.file_tree.specs.declared.node.Why.{Why}
use Rattle.file_tree.specs.Walks.{first_user_record}
use Rattle.bit_set.specs.Bits.{bit}
use Rattle.index_model.specs.Indexes.{Place}
use Rattle.state_model.specs.declared.geometry.Geometry.{Geometry}
use Rattle.state_model.specs.declared.stream.Extents.{Extents}
use Rattle.state_model.specs.declared.stream.Stream.{Stream}
use Rattle.state_model.specs.declared.stream.Stream.TheVariants.{Held, Placed}
use Rattle.state_model.specs.Files.{file_at, reference, file_links, links_at, record_links, is_base_record, is_directory_record, has_type, info_of, is_encrypted, is_compressed, is_sparse, why_by}
use Rattle.state_model.specs.Loads.{Slot, Used, table_slot, table_in, data_stream, has_cut_index_block}
use Rattle.state_model.specs.Rules.{implies, at_file, is_directory_with, keeps_names, keeps_1, keeps_2, keeps_8}
use Rattle.state_model.specs.Streams.{stream_of, block_at, is_inside_block, cuts_block, has_cut_block}
use Rattle.state_model.specs.Trees.{is_system, is_nameless}
use Rattle.volume_model.specs.Volumes.{Volume, count_of, file_in, files_by_number, bytes_or, size_or, is_in_use, file_stream, record_bits, cluster_bits, table_file, mirror_file, bitmap_file, upcase_file, upper_of}
use Rattle.volume_model.specs.Indexes.{void_block, index_place, index_links, index_stream, stream_blocks, links_below, lists_names, keeps_index}
use Rattle.volume_model.specs.Nodes.{data_flags, has_sparse_run, sparse_if, why_not, is_unread, is_unchanged, kind_in, valid_or, clusters_or, shows_data, data_shown, node_with, node_by, some_node, node_at, spare_numbers}
use Rattle.volume_model.specs.Owners.{file_runs, volume_runs, uses, keeps_owner, keeps_cluster_bit, keeps_record_bit}
use Rattle.volume_model.specs.Sizes.{keeps_stream, is_whole_file, has_hole, stream_has_torn, is_initialised, keeps_streams, keeps_bitmaps, keeps_sizes}
use Rattle.volume_state.specs.Journals.{entries_name, limits_name, entries_flags, file_or_none, journal_file, journal_of_streams, journal_of_file, journal_of, fault_of, some_journal}
use Rattle.volume_state.specs.Rules.{broken_1, broken_3, broken_5, broken_6, broken_9}
use Rattle.volume_state.specs.Trees.{tree_with, tree_of, volume_journal}
use Rattle.stream_laws.specs.Leaving.{LiesFree}
use Rattle.stream_laws.specs.Owners.{stream_kind}
use Rattle.stream_laws.specs.Replacing.{FileEdit, OneFileDiffers, with_edits}
use Rattle.stream_laws.specs.Rewrites.{StandsAlone, is_edited}
use Rattle.stream_laws.specs.Sharing.{StreamKey, stream_at, runs_in}
use Rattle.stream_laws.specs.Tables.{table_key}
use Rattle.stream_laws.proofs.Changing.{bytes_stay}
use Rattle.stream_laws.proofs.Editing.{length-with_edits, other_file, edited_files}
use Rattle.stream_laws.proofs.Framing.{same_links}
use Rattle.stream_laws.proofs.Loading.{same_record_bits}
use Rattle.stream_laws.proofs.Placing.{lies}
use Rattle.stream_laws.proofs.Replacing.{clusters_replaced}
use Rattle.stream_laws.proofs.Sharing.{same_key}
use Rattle.stream_laws.proofs.Tabling.{inside_list, no_list_stream}
use Rattle.tree_laws.specs.Changed.{TouchesFiles, KeepsTouched}
use Rattle.tree_laws.specs.Contents.{AgreeBut}
use Rattle.tree_laws.specs.Keeping.{KeepsNames, KeepsDirectory}
use Rattle.tree_laws.specs.Leaves.{names_there}
use Rattle.tree_laws.specs.Parts.{journal_number}
use Rattle.tree_laws.specs.Planned.{IsInStream, IsInRecord, WritesWithin, SparesOthers}
use Rattle.tree_laws.proofs.Agreeing.{same_upper, kept_sizes, same_journal, same_spares}
use Rattle.tree_laws.proofs.Changing.{all_keep}
use Rattle.tree_laws.proofs.Climbing.{system_everywhere}
use Rattle.tree_laws.proofs.Keeping.{rules_of, passes_below, fails_nowhere}
use Rattle.tree_laws.proofs.Naming.{this_or_other, names_everywhere, file_elsewhere, links_kept}
use Rattle.tree_laws.proofs.Parting.{record_bits_stay, spare_stay, upper_stays, number_stays}
use Rattle.tree_laws.proofs.Planning.{planned_agree, planned_bytes, same_index_at}
use Rattle.tree_laws.proofs.Ruling.{same_listed, same_name_in, same_count, keeps_both, rule_7}
use Rattle.plan_owners.specs.States.{Stands}
use Rattle.plan_owners.proofs.Standing.{some_file, as_file, rule_4_at}
use Rattle.plan_bodies.specs.Bodies.{NewBody, whole_write, writes_in, content_with}
use Rattle.table_edits.specs.plan_model.Edits.{IsOwnedIn, WritesFiles, LeadsTo}
use Rattle.table_edits.specs.plan_model.Informed.{with_record}
use Rattle.table_edits.proofs.plan_model.Drafting.{per_is}
use Rattle.table_edits.proofs.plan_model.Informing.{slot_in_use, marked_in_use, implied}
use Rattle.table_edits.proofs.plan_model.OneRecord.{streams_test, by_test, OwnRecord, own_record, file_slot}
use Rattle.table_edits.proofs.plan_model.Stepping.{written_within, files_edited, tree_nodes}
use Rattle.table_edits.specs.plan_growth.Streams.{key_of, marks_streams}
use Rattle.table_edits.specs.plan_growth.Trees.{with_data, TreeFollows}
use Rattle.table_edits.proofs.plan_growth.Placed.{same_or_other}
use Rattle.table_edits.proofs.plan_growth.Resizing.{none_of_two, inside_none, not_marks, not_marked, not_named, no_system_shown, void_apart, not_allocation, mapped}
use Rattle.bitmap_edits.proofs.Now.{HasNow}

-- a file that is neither $MFT nor $UpCase, and has no attribute list
pub record IsOneFile (v : Volume) (n : ℕ) (r : Record) : Type 0 where
  pub file : file_in v n ≡ Some r
  pub table : n ≢ table_file
  pub upcase : n ≢ upcase_file
  pub no_list : has_type attribute_list r ≡ false

-- What has to be known of the new stream: it is sparse and torn only where the old one was; an index has the same blocks; it is neither the
-- records of a change journal, nor its limits as a value.
pub record Follows (d : Content) (v : Volume) (n kind : ℕ) (name : List ℕ) (old new : Stream) : Type 0 where
  pub holes : has_hole (Some old) ≡ false → has_hole (Some new) ≡ false
  pub records : n ≡ mirror_file → data_type ≡ kind → [] ≡ name → stream_has_torn d v.per FileRec 1024 (Some old) ≡ false → stream_has_torn d v.per FileRec 1024 (Some new) ≡ false
  pub nodes : index_allocation ≡ kind → names_index ≡ name → stream_has_torn d v.per Index 4096 (Some old) ≡ false → stream_has_torn d v.per Index 4096 (Some new) ≡ false
  pub blocks : index_allocation ≡ kind → names_index ≡ name → stream_blocks v.per (Some new) ≡ stream_blocks v.per (Some old)
  pub no_entries : (data_type ≢ kind) ⊎ (entries_name ≢ name)
  pub limits : limits_name ≡ name → (x : Extents) × (y : Extents) × ((old ≡ Placed x) × (new ≡ Placed y))

-- the block belongs to the bits of clusters or to the mirror, or is the record's
abbrev pub GoesTo : Volume → ℕ → Block → Type 0
GoesTo v n b = IsOwnedIn marks_streams v b ⊎ (block_at v.per v.table.runs FileRec n ≡ Some b)

-- or it lies in clusters that no stream has, and is no index block
abbrev pub GoesFar : Volume → ℕ → Block → Type 0
GoesFar v n b = GoesTo v n b ⊎ (LiesFree v b × (Index ≢ b.kind))

pub as_far : (v : Volume) (n : ℕ) (bodies : List NewBody) → AllByRecursion (λ q. GoesTo v n q.block) bodies → AllByRecursion (λ q. GoesFar v n q.block) bodies
as_far v n [] all = tt
as_far v n (q ∷ bodies) all = (inl all.0, as_far v n bodies all.1)

-- ---- the files of the new volume

abbrev pub one_edit : ℕ → Record → List FileEdit
one_edit n s = record { number = n; file = Some s } ∷ []

pub one_differs : (v : Volume) (n : ℕ) (s : Record) → OneFileDiffers n v.files (with_edits (one_edit n s) v.files)
one_differs v n s = record {
  count = length-with_edits v.files (one_edit n s);
  others = λ m other. other_file v.files (one_edit n s) m ((λ same. other (sym same)), tt);
}

pub file_there : (v : Volume) (n : ℕ) (s : Record) → n < count_of v → is_base_record s ≡ true → file_in (with_record v n s) n ≡ Some s
unfolding file_at
file_there v n s below base = as_file (get_or (with_edits (one_edit n s) v.files) n None) s (edited_files v.files (one_edit n s) (below, tt, tt)).0 base

-- what the volume has of a cluster changes by what the stream has of it
pub clusters_now : (v : Volume) (n : ℕ) (r s : Record) (old new : Stream) (x : ℕ) → n < count_of v → file_in v n ≡ Some r → uses (file_runs (Some s)) x + uses (runs_in (Some old)) x ≡ uses (file_runs (Some r)) x + uses (runs_in (Some new)) x
    → uses (volume_runs (with_record v n s).files) x + uses (runs_in (Some old)) x ≡ uses (volume_runs v.files) x + uses (runs_in (Some new)) x
clusters_now v n r s old new x below file sums =
    let files : List (Option Record) = with_edits (one_edit n s) v.files in
    let as_now : uses (file_runs (table_in files n)) x ≡ uses (file_runs (Some s)) x = ap (λ (o : Option Record). uses (file_runs o) x) (edited_files v.files (one_edit n s) (below, tt, tt)).0 in
    let as_was : uses (file_runs (table_in v.files n)) x ≡ uses (file_runs (Some r)) x = ap (λ (o : Option Record). uses (file_runs o) x) (some_file v n r file) in
    let all = clusters_replaced v.files files n x (one_differs v n s) in
    omega (arith, as_now, as_was, all, sums)

-- ---- rules 5 and 6

kept_bit : (u : ℕ) (t : Bool) → (0 < u → t ≡ true) → implies (leb 1 u) t ≡ true
kept_bit u t set = elim (cases_lt 0 u) [
  | inl some ↦ ap₂ implies (le-leb 1 u some) (set some)
  | inr none ↦ ap (λ (x : Bool). implies x t) (lt-leb 1 u (omega (arith, none)))
]

set_bit : (u : ℕ) (t : Bool) → 0 < u → implies (leb 1 u) t ≡ true → t ≡ true
set_bit u t some kept = sym (ap (λ (x : Bool). implies x t) (le-leb 1 u some)) ∙ kept

pub five_by : (w : Volume) → ((x : ℕ) → x < w.clusters → uses (volume_runs w.files) x ≤ 1) → broken_5 w ≡ None
unfolding broken_5
five_by w once = fails_nowhere (keeps_owner (volume_runs w.files)) w.clusters (λ x low. le-leb (uses (volume_runs w.files) x) 1 (once x low))

pub six_by : (d : Content) (w : Volume) → ((x : ℕ) → x < w.clusters → 0 < uses (volume_runs w.files) x → bit (cluster_bits d w) x ≡ true) → broken_6 d w ≡ None
unfolding broken_6
six_by d w set = fails_nowhere (keeps_cluster_bit (cluster_bits d w) (volume_runs w.files)) w.clusters (λ x low. kept_bit (uses (volume_runs w.files) x) (bit (cluster_bits d w) x) (set x low))

pub owned_once : (c : Content) (g : Geometry) (clusters : ℕ) (v : Volume) (x : ℕ) → Stands c g clusters v → x < v.clusters → uses (volume_runs v.files) x ≤ 1
unfolding broken_5
owned_once c g clusters v x state low = leb-true _ _ (passes_below (keeps_owner (volume_runs v.files)) v.clusters (rules_of c v state.kept).rule_5 x low)

pub owned_set : (c : Content) (g : Geometry) (clusters : ℕ) (v : Volume) (x : ℕ) → Stands c g clusters v → x < v.clusters → 0 < uses (volume_runs v.files) x → bit (cluster_bits c v) x ≡ true
unfolding broken_6
owned_set c g clusters v x state low some = set_bit (uses (volume_runs v.files) x) (bit (cluster_bits c v) x) some (passes_below (keeps_cluster_bit (cluster_bits c v) (volume_runs v.files)) v.clusters (rules_of c v state.kept).rule_6 x low)

-- ---- nodes

kind_by : Bool → Bool → Bool → Bool → Kind
kind_by directory system unread unchanged = cond directory Directory (cond system System (cond unread Opaque (cond unchanged Fixed File)))

node_of : ℕ → ℕ → Kind → Option Why → Bool → Option Stream → List ℕ → StdInfo → Node
node_of n seq kind why held shown bytes info = record {
  number = n;
  seq = seq;
  kind = kind;
  why = why;
  held = held;
  size = size_or shown;
  valid = valid_or shown;
  clusters = clusters_or shown;
  bytes = bytes;
  flags = info.flags;
  created = info.created;
  modified = info.modified;
  changed = info.changed;
  read_at = info.read_at;
}

-- a test that asks less of the new stream holds where it held of the old one
asked : (a x y : Bool) → (x ≡ false → y ≡ false) → implies a (not x) ≡ true → implies a (not y) ≡ true
asked false x y less is = refl
asked true false y less is = ap not (less refl)
asked true true y less is = absurd cc

module _ (c : Content) (g : Geometry) (clusters : ℕ) (v : Volume) (n kind : ℕ) (name : List ℕ) (old new : Stream) (r s : Record) (bodies : List NewBody) (sized : HasSizes c) (eight : g.per_cluster ≡ 8) (state : Stands c g clusters v)
    (own_file : IsOneFile v n r) (now : HasNow v.per v.clusters kind name old new r s) (k : Follows (content_with c bodies) v n kind name old new) (slot : table_slot (content_with c bodies) v.per v.table n ≡ Used s) (each : AllByRecursion (λ q. GoesFar v n q.block) bodies)
    (five : broken_5 (with_record v n s) ≡ None) (six : broken_6 (content_with c bodies) (with_record v n s) ≡ None) (bitmaps : keeps_bitmaps (with_record v n s) n ≡ true) where
  abbrev d : Content
  d = content_with c bodies

  abbrev writes : List Write
  writes = writes_in bodies

  abbrev edits : List FileEdit
  edits = record { number = n; file = Some s } ∷ []

  abbrev files : List (Option Record)
  files = with_edits edits v.files

  abbrev w : Volume
  w = with_record v n s

  abbrev touched : ℕ → Bool
  touched = is_edited edits

  abbrev inside : ℕ → Bool
  inside m = true

  per_8 : v.per ≡ 8
  per_8 = per_is c g clusters v eight state

  -- ---- its record

  its : OwnRecord c v n r
  its = own_record c g clusters v n r state own_file.file own_file.no_list

  seq_now : s.head.seq ≡ r.head.seq
  seq_now = now.seq

  directory_now : is_directory_record s ≡ is_directory_record r
  directory_now = now.directory

  links_now : record_links n s ≡ record_links n r
  links_now = now.links n

  -- what holds of a stream after it held before, where it holds of the new one so
  either : (P Q : Option Stream → Type 0) (other : ℕ) (alias : List ℕ) → (other ≡ kind → alias ≡ name → P (Some old) → Q (Some new)) → ((o : Option Stream) → P o → Q o) → P (stream_of other alias r.attrs) → Q (stream_of other alias s.attrs)
  either P Q other alias here elsewhere before = elim (same_or_other kind other name alias) [
    | inl same ↦
        (let was : stream_of other alias r.attrs ≡ Some old = ap₂ (λ (x : ℕ) (l : List ℕ). stream_of x l r.attrs) same.0 same.1 ∙ now.was in
        let is : stream_of other alias s.attrs ≡ Some new = ap₂ (λ (x : ℕ) (l : List ℕ). stream_of x l s.attrs) same.0 same.1 ∙ now.stream in
        subst Q (sym is) (here same.0 same.1 (subst P was before)))
    | inr differ ↦ subst Q (sym (now.others other alias differ)) (elsewhere (stream_of other alias r.attrs) before)
  ]

  below : n < count_of v
  below = inside_list v.files n r (some_file v n r own_file.file)

  base : is_base_record s ≡ true
  base = now.base ∙ its.base

  no_list_now : has_type attribute_list s ≡ false
  no_list_now = now.types attribute_list ∙ own_file.no_list

  -- ---- which files are touched

  at_own : touched n ≡ true
  at_own = or_left (eqb n n) false (eq-eqb n n refl)

  others_not : (m : ℕ) → m ≢ n → touched m ≡ false
  others_not m other = ap (λ (t : Bool). t || false) (ne_eqb n m (λ same. other (sym same)))

  not_other : (m : ℕ) → touched m ≡ false → m ≢ n
  not_other m is same = both_ways (touched m) is (ap touched same ∙ at_own)

  here : (P : ℕ → Type 0) → P n → (m : ℕ) → touched m ≡ true → P m
  here P holds m is = elim (cases_eq m n) [
    | inl same ↦ subst P (sym same) holds
    | inr other ↦ absurd (both_ways (touched m) (others_not m other) is)
  ]

  differs : OneFileDiffers n v.files files
  differs = one_differs v n s

  pub at_n : file_in w n ≡ Some s
  at_n = file_there v n s below base

  names : KeepsNames n (table_in v.files) (table_in files)
  unfolding links_at
  names = ap (file_links n) at_n ∙ links_now ∙ sym (ap (file_links n) own_file.file)

  all_named : (m : ℕ) → links_at (table_in files) m ≡ links_at (table_in v.files) m
  all_named = names_everywhere (table_in v.files) (table_in files) n differs.others names

  directories : (m : ℕ) → KeepsDirectory m (table_in v.files) (table_in files)
  directories m seq =
      let before = table_in v.files in
      let after = table_in files in
      this_or_other (λ (x : ℕ). is_directory_with seq (file_at after x) ≡ is_directory_with seq (file_at before x)) n m (keeps_both before after n r s own_file.file at_n seq_now directory_now seq)
      (λ other. ap (is_directory_with seq) (file_elsewhere before after n m differs.others other))

  touches : TouchesFiles touched inside v.files files
  touches = record {
    count = differs.count;
    others = λ m is. differs.others m (not_other m is);
    places = all_keep (table_in v.files) (table_in files) all_named directories;
    within = λ m is. refl;
  }

  -- ---- the writes

  as_write : (q : NewBody) → GoesFar v n q.block → IsInStream marks_streams v (whole_write q) ⊎ IsInRecord touched v (whole_write q) ⊎ LiesFree v (whole_write q).block
  as_write q (inl (inl owned)) = inl (record { stream = owned.stream; chosen = owned.chosen; kind = stream_kind owned.stream; number = owned.number; lies = owned.lies })
  as_write q (inl (inr at)) = inr (inl (record { number = n; chosen = at_own; lies = at }))
  as_write q (inr free) = inr (inr free.0)

  each_write : (more : List NewBody) → AllByRecursion (λ q. GoesFar v n q.block) more → AllByRecursion (λ x. IsInStream marks_streams v x ⊎ IsInRecord touched v x ⊎ LiesFree v x.block) (writes_in more)
  each_write [] all = tt
  each_write (q ∷ more) all = (as_write q all.0, each_write more all.1)

  no_allocation : (t : StreamKey) → marks_streams t ≡ true → eqb t.kind index_allocation ≡ false
  no_allocation t mark =
      let own_file : Bool = eqb t.file bitmap_file || eqb t.file mirror_file in
      let kind_is : eqb t.kind data_type ≡ true = (and_parts own_file (eqb t.kind data_type) (and_parts (own_file && eqb t.kind data_type) (pointwise nat_eq t.name []) mark).0).1 in
      ne_eqb t.kind index_allocation (λ e. (let data_is : t.kind ≡ data_type = eqb-true t.kind data_type kind_is in omega (arith, e, data_is)))

  not_index_kind : (q : NewBody) → GoesFar v n q.block → Index ≢ q.block.kind
  not_index_kind q (inl (inl owned)) same =
      let kind_is : stream_kind owned.stream ≡ q.block.kind = (lies v.per (runs_in (stream_at v owned.stream)) (stream_kind owned.stream) owned.number q.block owned.lies).kind_is in
      not_allocation owned.stream (no_allocation owned.stream owned.chosen) (kind_is ∙ sym same)
  not_index_kind q (inr free) same = free.1 same
  not_index_kind q (inl (inr at)) same = let kind_is : FileRec ≡ q.block.kind = (lies v.per v.table.runs FileRec n q.block at).kind_is in absurd cc

  no_void : (more : List NewBody) → AllByRecursion (λ q. GoesFar v n q.block) more → AllByRecursion (λ (x : Write). same_block void_block x.block ≡ false) (writes_in more)
  no_void [] all = tt
  no_void (q ∷ more) all = (void_apart q.block (not_index_kind q all.0), no_void more all.1)

  not_shown : (m : ℕ) (q : Record) → shows_data (kind_in v m q) ≡ true → marks_streams (record { file = m; kind = data_type; name = [] }) ≡ false
  not_shown m q shown = not_marked m [] (λ same. no_system_shown v m q (omega (arith, same)) shown) (λ same. no_system_shown v m q (omega (arith, same)) shown)

  spared_index : (m : ℕ) → marks_streams (record { file = m; kind = index_allocation; name = names_index }) ≡ false
  spared_index m = not_marks m index_allocation names_index (λ e. omega (arith, e))

  uncut_runs : (count : ℕ) (runs : List Run) → list_any (cuts_block v.per Index count) runs ≡ false
  uncut_runs count [] = refl
  uncut_runs count (x ∷ runs) =
      or_from _ _
      (or_from _ _
      (ap (is_inside_block Index count) (ap (λ (p : ℕ). x.vcn * p) per_8 ∙ omega arith) ∙ inside_none count x.vcn)
      (ap (is_inside_block Index count) (ap (λ (p : ℕ). (x.vcn + x.len) * p) per_8 ∙ omega arith) ∙ inside_none count (x.vcn + x.len)))
      (uncut_runs count runs)

  uncut_stream : (o : Option Stream) → has_cut_index_block v.per o ≡ false
  unfolding has_cut_block
  uncut_stream None = refl
  uncut_stream (Some (Held value)) = refl
  uncut_stream (Some (Placed e)) = uncut_runs _ e.runs

  alone : StandsAlone v.per (Used s)
  alone = (no_list_stream s no_list_now, none_of_two (is_directory_record s) _ (uncut_stream (stream_of index_allocation names_index s.attrs)))

  puts : WritesFiles marks_streams c v writes edits
  puts = record {
    distinct = (below, tt, tt);
    no_table = (own_file.table, tt);
    own = (inl (r, own_file.file), tt);
    alone = (subst (λ (x : Slot). StandsAlone v.per x) (sym slot) alone, tt);
    files = (sym (file_slot d v n s slot base), tt);
    each = each_write bodies each;
    table = refl;
    lists = λ m alias. not_marks m attribute_list alias (λ e. omega (arith, e));
    spares = record {
      sized = sized;
      void = no_void bodies each;
      upcase = refl;
      free = λ m low other clear. other;
      indexes = λ m q other is directory. spared_index m;
      shown = λ m q other is shown. not_shown m q shown;
    };
  }

  within : WritesWithin marks_streams touched c g clusters v writes
  within = written_within marks_streams c g clusters v writes edits state puts

  marked : bit (record_bits c v) n ≡ true
  marked = marked_in_use c v n (rules_of c v state.kept).rule_7 below (slot_in_use c v n r its.slot)

  -- no other record is written to, whether or not it is marked
  all_spared : SparesOthers (λ m. false) marks_streams touched c v writes
  all_spared = record {
    sized = sized;
    void = no_void bodies each;
    upcase = refl;
    free = λ m low other clear. others_not m (λ same. both_ways (bit (record_bits c v) m) clear (ap (bit (record_bits c v)) same ∙ marked));
    indexes = λ m q other is directory. spared_index m;
    shown = λ m q other is shown. not_shown m q shown;
  }

  agree : AgreeBut n c d v
  unfolding entries_name
  agree = planned_agree n marks_streams touched c g clusters v writes within (record {
    sized = sized;
    void = no_void bodies each;
    upcase = refl;
    free = λ m low other clear. others_not m (eqb-false m n other);
    indexes = λ m q other is directory. spared_index m;
    shown = λ m q other is shown. not_shown m q shown;
  }) marked (not_marks table_file bitmap_type [] (λ e. omega (arith, e))) (λ m is. not_named m data_type 0x24 (0x4A ∷ []))

  -- what a stream reads that isn't put to stays
  pub reads_on : (t : StreamKey) → marks_streams t ≡ false → table_key ≢ t → bytes_or d v.per (stream_at v t) ≡ bytes_or c v.per (stream_at v t)
  reads_on t apart other = bytes_stay c writes v.per (stream_at v t) (planned_bytes marks_streams touched c g clusters v writes t within apart other)

  -- ---- the parts of the volume

  upper_now : upper_of d w ≡ upper_of c v
  upper_now = upper_stays d v files n differs own_file.upcase ∙ same_upper c d v agree.upper

  bits_now : record_bits d w ≡ record_bits c v
  bits_now = record_bits_stay d v files n differs own_file.table ∙ same_record_bits c d v agree.bits

  flags_same : entries_flags s ≡ entries_flags r
  unfolding entries_flags
  flags_same = now.flags data_type entries_name

  -- limits that stand in clusters are none, wherever they lie
  limits_in_clusters : (e f : Extents) (flags : ℕ) (o : Option Stream) → journal_of_streams d v.per flags (Some (Placed f)) o ≡ journal_of_streams d v.per flags (Some (Placed e)) o
  limits_in_clusters e f flags None = refl
  limits_in_clusters e f flags (Some j) = refl

  own_journal : journal_of_file d v.per (Some s) ≡ journal_of_file d v.per (Some r)
  own_journal =
      let entries : Option Stream = stream_of data_type entries_name r.attrs in
      let flags : ℕ = entries_flags r in
      ap₂ (λ (x : ℕ) (o : Option Stream). journal_of_streams d v.per x (stream_of data_type limits_name s.attrs) o) flags_same (now.others data_type entries_name k.no_entries)
      ∙ elim (same_or_other kind data_type name limits_name) [
        | inl same ↦
            (let e = k.limits same.1 in
            ap (λ (o : Option Stream). journal_of_streams d v.per flags o entries) (ap₂ (λ (x : ℕ) (l : List ℕ). stream_of x l s.attrs) same.0 same.1 ∙ now.stream ∙ ap (λ (x : Stream). Some x) e.2.1)
            ∙ limits_in_clusters e.0 e.1 flags entries
            ∙ sym (ap (λ (o : Option Stream). journal_of_streams d v.per flags o entries) (ap₂ (λ (x : ℕ) (l : List ℕ). stream_of x l r.attrs) same.0 same.1 ∙ now.was ∙ ap (λ (x : Stream). Some x) e.2.0)))
        | inr differ ↦ ap (λ (o : Option Stream). journal_of_streams d v.per flags o entries) (now.others data_type limits_name differ)
      ]

  journal_with : (o : Option ℕ) → journal_of_file d w.per (file_or_none w o) ≡ journal_of_file d v.per (file_or_none v o)
  journal_with None = refl
  journal_with (Some m) =
      this_or_other (λ (x : ℕ). journal_of_file d v.per (file_in w x) ≡ journal_of_file d v.per (file_in v x)) n m
      (ap (journal_of_file d v.per) at_n ∙ own_journal ∙ sym (ap (journal_of_file d v.per) own_file.file))
      (λ other. ap (journal_of_file d v.per) (file_elsewhere (table_in v.files) (table_in files) n m differs.others other))

  journal_now : journal_of d (upper_of d w) w ≡ journal_of c (upper_of c v) v
  unfolding journal_of journal_file
  journal_now =
      ap (λ (u : List ℕ). journal_of d u w) upper_now
      ∙ ap (λ (o : Option ℕ). journal_of_file d w.per (file_or_none w o)) (number_stays v files (upper_of c v) n differs names)
      ∙ journal_with (journal_number (upper_of c v) v)
      ∙ same_journal c d v (upper_of c v) agree.journal

  index_now : is_directory_record r ≡ true → index_links d v.per (upper_of c v) s ≡ index_links c v.per (upper_of c v) r
  unfolding index_links index_place index_stream
  index_now directory =
      let place : List Block → Place = λ l. record { blocks = l; step = 8 / v.per } in
      ap₂ (λ (l : List Block) (x : Option (List ℕ)). links_below d (place l) (upper_of c v) x) same_blocks now.root
      ∙ same_links c d v.per (upper_of c v) r (same_index_at (λ m. false) marks_streams touched c g clusters v writes within all_spared n refl r own_file.file directory)
    where
      same_blocks : stream_blocks v.per (stream_of index_allocation names_index s.attrs) ≡ stream_blocks v.per (stream_of index_allocation names_index r.attrs)
      same_blocks = elim (same_or_other kind index_allocation name names_index) [
        | inl same ↦
            ap (stream_blocks v.per) (ap₂ (λ (x : ℕ) (l : List ℕ). stream_of x l s.attrs) same.0 same.1 ∙ now.stream)
            ∙ k.blocks same.0 same.1
            ∙ sym (ap (stream_blocks v.per) (ap₂ (λ (x : ℕ) (l : List ℕ). stream_of x l r.attrs) same.0 same.1 ∙ now.was))
        | inr differ ↦ ap (stream_blocks v.per) (now.others index_allocation names_index differ)
      ]

  -- ---- the rules

  old_1 : keeps_names n r (record_links n r) ≡ true
  unfolding broken_1 keeps_1
  old_1 = sym (ap (at_file (λ q. keeps_names n q (record_links n q))) own_file.file) ∙ passes_below (keeps_1 (files_by_number v)) (count_of v) (rules_of c v state.kept).rule_1 n below

  new_1 : keeps_1 (table_in files) n ≡ true
  unfolding keeps_1
  new_1 = ap (at_file (λ q. keeps_names n q (record_links n q))) at_n ∙ ap (keeps_names n s) links_now ∙ now.names n (record_links n r) ∙ old_1

  index_test : Content → Volume → Record → Bool
  index_test x u q = implies (is_directory_record q) (lists_names (upper_of c v) (files_by_number u) (count_of u) (reference n q) (index_links x u.per (upper_of c v) q))

  old_3 : index_test c v r ≡ true
  unfolding broken_3 keeps_index index_test
  old_3 = sym (ap (at_file (index_test c v)) own_file.file) ∙ passes_below (keeps_index c v (upper_of c v)) (count_of v) (rules_of c v state.kept).rule_3 n below

  listed_now : is_directory_record r ≡ true
      → lists_names (upper_of c v) (files_by_number w) (count_of w) (reference n s) (index_links d w.per (upper_of c v) s) ≡ lists_names (upper_of c v) (files_by_number v) (count_of v) (reference n r) (index_links c v.per (upper_of c v) r)
  listed_now directory =
      let upper = upper_of c v in
      let before = table_in v.files in
      let after = table_in files in
      ap (λ (q : ℕ). lists_names upper after (length files) (record { number = n; seq = q }) (index_links d v.per upper s)) seq_now
      ∙ ap (λ (o : Option (List Link)). lists_names upper after (length files) (reference n r) o) (index_now directory)
      ∙ ap (λ (x : ℕ). lists_names upper after x (reference n r) (index_links c v.per upper r)) differs.count
      ∙ same_listed upper before after (count_of v) (reference n r) (index_links c v.per upper r) (same_name_in before after (reference n r) all_named) (same_count before after (reference n r) (count_of v) all_named)

  new_3 : keeps_index d w (upper_of c v) n ≡ true
  unfolding keeps_index index_test
  new_3 = ap (at_file (index_test d w)) at_n ∙ elim (cases_Bool (is_directory_record r)) [
    | inl directory ↦
        ap₂ implies directory_now (listed_now directory) ∙ old_3
    | inr none ↦ ap (λ (t : Bool). implies t (lists_names (upper_of c v) (files_by_number w) (count_of w) (reference n s) (index_links d w.per (upper_of c v) s))) (directory_now ∙ none)
  ]

  -- a test of no hole in a stream, and of none torn
  hole_kept : (t : Bool) (other : ℕ) (alias : List ℕ) → implies t (not (has_hole (stream_of other alias r.attrs))) ≡ true → implies t (not (has_hole (stream_of other alias s.attrs))) ≡ true
  hole_kept t other alias was =
      either (λ o. implies t (not (has_hole o)) ≡ true) (λ o. implies t (not (has_hole o)) ≡ true) other alias (λ same alike is. asked t (has_hole (Some old)) (has_hole (Some new)) k.holes is) (λ o is. is) was

  both_kept : (t : Bool) → implies t (not (has_hole (stream_of index_allocation names_index r.attrs)) && not (has_hole (stream_of bitmap_type names_index r.attrs))) ≡ true
      → implies t (not (has_hole (stream_of index_allocation names_index s.attrs)) && not (has_hole (stream_of bitmap_type names_index s.attrs))) ≡ true
  both_kept false was = refl
  both_kept true was = let parts = and_parts _ _ was in and_from _ _ (hole_kept true index_allocation names_index parts.0) (hole_kept true bitmap_type names_index parts.1)

  streams_now : keeps_streams d v n r ≡ true → keeps_streams d w n s ≡ true
  streams_now was =
      let test = sym (by_test d v n r) ∙ was in
      let torn_parts = and_parts _ _ test in
      let table_parts = and_parts _ _ torn_parts.0 in
      let hole_parts = and_parts _ _ table_parts.0 in
      let whole_parts = and_parts _ _ hole_parts.1 in
      let first_parts = and_parts _ _ whole_parts.0 in
      let untorn = and_parts _ _ torn_parts.1 in
      by_test d w n s
      ∙ ap (λ (t : Bool). streams_test d v.per n (list_all (keeps_stream v.per v.clusters s.attrs) s.attrs) t (stream_of data_type [] s.attrs) (stream_of bitmap_type [] s.attrs) (stream_of index_allocation names_index s.attrs) (stream_of bitmap_type names_index s.attrs)) directory_now
      ∙ and_from _ _
      (and_from _ _
      (and_from _ _
      (now.sizes hole_parts.0)
      (and_from _ _ (and_from _ _ (hole_kept (is_whole_file n) data_type [] first_parts.0) (hole_kept (eqb n table_file) bitmap_type [] first_parts.1)) (both_kept (is_directory_record r) whole_parts.1)))
      (ap (λ (t : Bool). implies t (is_initialised (stream_of data_type [] s.attrs))) (ne_eqb n table_file own_file.table)))
      (and_from _ _ (torn_kept ((eqb n table_file) || (eqb n mirror_file)) FileRec 1024 data_type [] (λ mirror type alike. k.records (is_mirror mirror) type alike) untorn.0) (torn_kept (is_directory_record r) Index 4096 index_allocation names_index (λ directory. k.nodes) untorn.1))
    where
      is_mirror : (eqb n table_file || eqb n mirror_file) ≡ true → n ≡ mirror_file
      is_mirror is = eqb-true n mirror_file (sym (ap (λ (t : Bool). t || eqb n mirror_file) (ne_eqb n table_file own_file.table)) ∙ is)

      torn_kept : (t : Bool) (block_kind : BlockKind) (size other : ℕ) (alias : List ℕ) → (t ≡ true → other ≡ kind → alias ≡ name → stream_has_torn d v.per block_kind size (Some old) ≡ false → stream_has_torn d v.per block_kind size (Some new) ≡ false)
          → implies t (not (stream_has_torn d v.per block_kind size (stream_of other alias r.attrs))) ≡ true → implies t (not (stream_has_torn d v.per block_kind size (stream_of other alias s.attrs))) ≡ true
      torn_kept false block_kind size other alias less was = refl
      torn_kept true block_kind size other alias less was =
          either (λ o. implies true (not (stream_has_torn d v.per block_kind size o)) ≡ true) (λ o. implies true (not (stream_has_torn d v.per block_kind size o)) ≡ true) other alias
          (λ same alike is. asked true (stream_has_torn d v.per block_kind size (Some old)) (stream_has_torn d v.per block_kind size (Some new)) (less refl same alike) is) (λ o is. is) was

  new_4 : keeps_sizes d w n ≡ true
  unfolding keeps_sizes
  new_4 =
      let kept : keeps_sizes d v n ≡ true = kept_sizes c d v n agree.torn (rule_4_at c g clusters v n state (omega (arith, below))) in
      let was : keeps_streams d v n r ≡ true = sym (ap (at_file (keeps_streams d v n)) own_file.file) ∙ (and_parts _ _ kept).0 in
      and_from _ _ (ap (at_file (keeps_streams d w n)) at_n ∙ streams_now was) bitmaps

  new_7 : keeps_record_bit d w n ≡ true
  unfolding keeps_record_bit
  new_7 =
      rule_7 d v files n n differs own_file.table
      ∙ implied (is_in_use d v n) (bit (record_bits d v) n) (ap (λ (l : List Bool). bit l n) (same_record_bits c d v agree.bits) ∙ marked)

  new_9 : broken_9 d w ≡ None
  unfolding broken_9
  new_9 = ap fault_of journal_now ∙ (rules_of c v state.kept).rule_9

  outside : (P : Type 0) (m : ℕ) → inside m ≡ false → P
  outside P m is = absurd cc

  keeps : KeepsTouched touched inside c d v w
  keeps = record {
    upcase = others_not upcase_file (λ same. own_file.upcase (sym same));
    rule_1 = λ m low. here (λ (x : ℕ). keeps_1 (table_in files) x ≡ true) new_1 m;
    rule_2 = λ m low. outside (keeps_2 (table_in files) m ≡ true) m;
    rule_3 = λ m low. here (λ (x : ℕ). keeps_index d w (upper_of c v) x ≡ true) new_3 m;
    listed = λ m j q other is directory. outside (names_there (reference m q) (links_at (table_in files) j) ≡ names_there (reference m q) (links_at (table_in v.files) j)) j;
    rule_4 = λ m low. here (λ (x : ℕ). keeps_sizes d w x ≡ true) new_4 m;
    rule_5 = five;
    rule_6 = six;
    rule_7 = λ m low. here (λ (x : ℕ). keeps_record_bit d w x ≡ true) new_7 m;
    rule_8 = λ m low. outside (keeps_8 (table_in files) (count_of w) m ≡ true) m;
    rule_9 = new_9;
  }

  pub now_leads : LeadsTo (is_edited (record { number = n; file = Some s } ∷ [])) c v (content_with c bodies) g clusters (with_record v n s)
  now_leads = files_edited marks_streams inside c g clusters v writes edits state puts (λ m low other. ap (λ (l : List Bool). bit l m) bits_now) touches keeps

  -- ---- the streams and files of the new volume

  pub same_files : (m : ℕ) → m ≢ n → file_in w m ≡ file_in v m
  same_files m other = file_elsewhere (table_in v.files) (table_in files) n m differs.others other

  pub own_now : stream_at w (key_of n kind name) ≡ Some new
  own_now = ap (file_stream kind name) at_n ∙ now.stream

  pub own_was : stream_at v (key_of n kind name) ≡ Some old
  own_was = ap (file_stream kind name) own_file.file ∙ now.was

  -- each is the one that changes, or stays
  pub which : (t : StreamKey) → (t ≡ key_of n kind name) ⊎ (stream_at w t ≡ stream_at v t)
  which t = elim (cases_eq t.file n) [
    | inl file ↦ elim (same_or_other kind t.kind name t.name) [
      | inl same ↦ inl (same_key t (key_of n kind name) file same.0 same.1)
      | inr differ ↦
          inr
          (ap (λ (m : ℕ). file_stream t.kind t.name (file_in w m)) file
          ∙ ap (file_stream t.kind t.name) at_n
          ∙ now.others t.kind t.name differ
          ∙ sym (ap (λ (m : ℕ). file_stream t.kind t.name (file_in v m)) file ∙ ap (file_stream t.kind t.name) own_file.file))
    ]
    | inr other ↦ inr (ap (file_stream t.kind t.name) (same_files t.file other))
  ]

  -- ---- the tree

  system_now : is_system (files_by_number w) (count_of w) n (record_links n s) ≡ is_system (files_by_number v) (count_of v) n (record_links n r)
  system_now =
      ap (is_system (table_in files) (length files) n) links_now
      ∙ ap (λ (x : ℕ). is_system (table_in files) x n (record_links n r)) differs.count
      ∙ system_everywhere (table_in v.files) (table_in files) n (count_of v) n (record_links n r) differs.others names

  data_flags_now : data_flags s ≡ data_flags r
  unfolding data_flags
  data_flags_now = now.flags data_type []

  info_now : info_of s ≡ info_of r
  info_now = now.info

  spare_now : spare_numbers d w ≡ spare_numbers c v
  spare_now = spare_stay d v files n differs own_file.table ∙ same_spares c d v agree.bits agree.free

  hole_now : has_hole (Some old) ≡ false → has_sparse_run s ≡ has_sparse_run r
  unfolding data_stream
  hole_now whole = elim (same_or_other kind data_type name []) [
    | inl same ↦
        ap has_hole (ap₂ (λ (x : ℕ) (l : List ℕ). stream_of x l s.attrs) same.0 same.1 ∙ now.stream)
        ∙ k.holes whole
        ∙ sym (ap has_hole (ap₂ (λ (x : ℕ) (l : List ℕ). stream_of x l r.attrs) same.0 same.1 ∙ now.was) ∙ whole)
    | inr differ ↦ ap has_hole (now.others data_type [] differ)
  ]

  why_now : has_hole (Some old) ≡ false → why_not s ≡ why_not r
  unfolding why_not
  why_now whole =
      ap₂ (λ (a b : Bool). option_or (why_by a b (data_flags s)) (sparse_if (has_sparse_run s))) (now.types attribute_list) (now.types reparse_point)
      ∙ ap₂ (λ (x : ℕ) (t : Bool). option_or (why_by (has_type attribute_list r) (has_type reparse_point r) x) (sparse_if t)) data_flags_now (hole_now whole)

  kind_now : has_hole (Some old) ≡ false → kind_in w n s ≡ kind_in v n r
  unfolding kind_in is_unread is_unchanged kind_by
  kind_now whole =
      ap₂ (λ (a b : Bool). kind_by a b (is_unread s) (is_unchanged s)) directory_now system_now
      ∙ ap₂ (λ (t : Bool) (x : ℕ). kind_by (is_directory_record r) (is_system (files_by_number v) (count_of v) n (record_links n r)) (t || is_encrypted x || is_compressed x) (is_unchanged s)) (now.types reparse_point) data_flags_now
      ∙ ap₂ (λ (t : Bool) (x : ℕ). kind_by (is_directory_record r) (is_system (files_by_number v) (count_of v) n (record_links n r)) (is_unread r) (t || is_sparse x || has_sparse_run s)) (now.types attribute_list) data_flags_now
      ∙ ap (λ (t : Bool). kind_by (is_directory_record r) (is_system (files_by_number v) (count_of v) n (record_links n r)) (is_unread r) (has_type attribute_list r || is_sparse (data_flags r) || t)) (hole_now whole)

  one_node : (kind_is : Kind) (shown other : Option Stream) (bytes new : List ℕ) → has_hole (Some old) ≡ false → node_with n s kind_is other new ≡ with_data other new (node_with n r kind_is shown bytes)
  unfolding node_with node_of
  one_node kind_is shown other bytes new whole =
      ap₂ (λ (q : ℕ) (y : Option Why). node_of n q kind_is y (has_type object_id s) other new (info_of s)) seq_now (why_now whole)
      ∙ ap₂ (λ (h : Bool) (i : StdInfo). node_of n r.head.seq kind_is (why_not r) h other new i) (now.types object_id) info_now

  node_now : has_hole (Some old) ≡ false → node_at (bytes_or d w.per) w n ≡ option_map (with_data (data_shown (kind_in v n r) s) (bytes_or d v.per (data_shown (kind_in v n r) s))) (node_at (bytes_or c v.per) v n)
  unfolding node_at node_by
  node_now whole =
      let shown : Option Stream = data_shown (kind_in v n r) s in
      let was : Option Stream = data_shown (kind_in v n r) r in
      ap (some_node (bytes_or d v.per) w n) at_n
      ∙ ap₂ (λ (t : Bool) (x : Kind). cond t None (Some (node_with n s x (data_shown x s) (bytes_or d v.per (data_shown x s))))) (ap (λ (l : List Link). (ltb n first_user_record) && eqb (length l) 0) links_now) (kind_now whole)
      ∙ ap (λ (a : Node). cond (is_nameless n r) None (Some a)) (one_node (kind_in v n r) was shown (bytes_or c v.per was) (bytes_or d v.per shown) whole)
      ∙ mapped (with_data shown (bytes_or d v.per shown)) (is_nameless n r) (node_with n r (kind_in v n r) was (bytes_or c v.per was))
      ∙ sym (ap (λ (o : Option Record). option_map (with_data shown (bytes_or d v.per shown)) (some_node (bytes_or c v.per) v n o)) own_file.file)

  pub now_tree : has_hole (Some old) ≡ false → TreeFollows c (content_with c bodies) v n r s
  unfolding tree_of tree_with volume_journal
  now_tree whole = record {
    node = tree_nodes d w n ∙ node_now whole ∙ sym (ap (option_map (with_data (data_shown (kind_in v n r) s) (bytes_or d v.per (data_shown (kind_in v n r) s)))) (tree_nodes c v n));
    others = λ m other. now_leads.nodes m (others_not m other);
    links = links_kept v.files files n differs names;
    spare = spare_now;
    count = differs.count;
    journal = ap some_journal journal_now;
  }
