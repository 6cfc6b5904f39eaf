-- A file's record is put with all its streams in the clusters that they had: the state that it leads to.
use Rattle.std.proofs.Common.{◌≡◌, ◌≢◌, ◌⊎◌, ℕ, ◌/◌, ◌<◌, Bool, true, false, not, ◌&&◌, ◌||◌, cond, eqb, nat_eq, ltb, List, [], ◌∷◌, length, get_or, Option, Some, None, refl, sym, ap, ap₂, subst, ◌∙◌, inl, inr, arith}
use Rattle.std.specs.Prelude.{All, count_by}
use Rattle.std.specs.List.{list_all, list_any, range_with_len, AllByRecursion}
use Rattle.std.specs.Option.{option_or, option_map}
use Rattle.std.specs.Cmp.Lexicographic.{pointwise}
use Rattle.std.proofs.lemmas.Bool.{cases_Bool, cases_eq, and_parts, and_from, both_ways, or_left, eqb-true, eqb-false, ne_eqb, eq-eqb}
use Rattle.host_base.specs.declared.file_ref.FileRef.{FileRef}
use Rattle.disk_model.specs.declared.block.Block.{Block}
use Rattle.disk_model.specs.declared.block.BlockKind.{BlockKind}
use Rattle.disk_model.specs.declared.block.BlockKind.TheVariants.{FileRec, Index}
use Rattle.disk_model.specs.Sectors.{same_block}
use Rattle.disk_model.specs.Content.{Content, HasSizes}
use Rattle.disk_model.specs.Writes.{Write}
use Rattle.plan_growth.specs.record_model.declared.runs.Run.{Run}
use Rattle.plan_growth.specs.record_model.declared.values.StdInfo.{StdInfo}
use Rattle.plan_growth.specs.record_model.Records.{Record}
use Rattle.plan_growth.specs.record_model.Constants.{attribute_list, data_type, index_allocation, bitmap_type, names_index, object_id, reparse_point}
use Rattle.plan_growth.specs.file_tree.declared.link.Link.{Link}
use Rattle.plan_growth.specs.file_tree.declared.node.Kind.{Kind}
use Rattle.plan_growth.specs.file_tree.declared.node.Kind.TheVariants.{Directory, File, Fixed, Opaque, System}
use Rattle.plan_growth.specs.file_tree.declared.node.Node.{Node}
use Rattle.plan_growth.specs.file_tree.declared.node.Why.{Why}
use Rattle.plan_growth.specs.file_tree.Trees.{node_at as node_by_number}
use Rattle.plan_growth.specs.file_tree.Walks.{first_user_record}
use Rattle.bit_set.specs.Bits.{bit}
use Rattle.plan_growth.specs.index_model.Indexes.{Place}
use Rattle.plan_growth.specs.state_model.declared.geometry.Geometry.{Geometry}
use Rattle.plan_growth.specs.state_model.declared.stream.Stream.{Stream}
use Rattle.plan_growth.specs.state_model.declared.stream.Stream.TheVariants.{Held, Placed}
use Rattle.plan_growth.specs.state_model.Files.{file_at, reference, file_links, links_at, record_links, is_base_record, is_directory_record, has_type, info_of, is_encrypted, is_compressed, is_sparse, why_by}
use Rattle.plan_growth.specs.state_model.Loads.{Slot, Used, table_slot, table_in, data_stream, has_cut_index_block}
use Rattle.plan_growth.specs.state_model.Rules.{implies, at_file, is_directory_with, keeps_names, keeps_1, keeps_2, keeps_8}
use Rattle.plan_growth.specs.state_model.Streams.{attributes_of, stream_of, block_at}
use Rattle.plan_growth.specs.state_model.Trees.{is_system, is_nameless}
use Rattle.plan_growth.specs.volume_model.Volumes.{Volume, count_of, file_in, files_by_number, bytes_or, size_or, is_in_use, file_stream, record_bits, cluster_bits, table_file, mirror_file, bitmap_file, upcase_file, upper_of}
use Rattle.plan_growth.specs.volume_model.Indexes.{void_block, root_value, index_place, index_links, index_stream, stream_blocks, links_below, lists_names, keeps_index}
use Rattle.plan_growth.specs.volume_model.Nodes.{valid_or, clusters_or, data_flags, first_flags, has_sparse_run, sparse_if, why_not, is_unread, is_unchanged, kind_in, shows_data, data_shown, node_with, node_by, some_node, node_at, free_clusters}
use Rattle.plan_growth.specs.volume_model.Owners.{file_runs, volume_runs, uses, keeps_cluster_bit, keeps_record_bit}
use Rattle.plan_growth.specs.volume_model.Sizes.{keeps_stream, is_whole_file, is_hole, has_hole, begun, is_torn_at, has_torn, stream_has_torn, is_initialised, keeps_streams, keeps_sizes}
use Rattle.plan_growth.specs.volume_state.Journals.{entries_name, limits_name, entries_flags, file_or_none, journal_file, journal_of_streams, journal_of_file, journal_of, fault_of, some_journal}
use Rattle.plan_growth.specs.volume_state.Rules.{broken_1, broken_3, broken_6, broken_9}
use Rattle.plan_growth.specs.volume_state.Trees.{tree_with, tree_of, volume_journal}
use Rattle.plan_growth.specs.state_model.Rules.{first_failing}
use Rattle.plan_growth.specs.stream_laws.Leaving.{LiesFree}
use Rattle.plan_growth.specs.stream_laws.Owners.{stream_kind, initialised_in, Owns}
use Rattle.plan_growth.specs.stream_laws.Replacing.{FileEdit, OneFileDiffers, with_edits}
use Rattle.plan_growth.specs.stream_laws.Rewrites.{StandsAlone, is_edited}
use Rattle.plan_growth.specs.stream_laws.Sharing.{StreamKey, stream_at, runs_in}
use Rattle.plan_growth.proofs.stream_laws.Editing.{length-with_edits, other_file, edited_files}
use Rattle.plan_growth.proofs.stream_laws.Framing.{same_links, same_file}
use Rattle.plan_growth.proofs.stream_laws.Loading.{same_record_bits}
use Rattle.plan_growth.proofs.stream_laws.Placing.{lies}
use Rattle.plan_growth.proofs.stream_laws.Replacing.{clusters_replaced}
use Rattle.plan_growth.proofs.stream_laws.Tabling.{inside_list, no_list_stream}
use Rattle.plan_growth.specs.tree_laws.Changed.{TouchesFiles, KeepsTouched}
use Rattle.plan_growth.specs.tree_laws.Contents.{AgreeBut}
use Rattle.plan_growth.specs.tree_laws.Keeping.{KeepsNames, KeepsDirectory}
use Rattle.plan_growth.specs.tree_laws.Leaves.{names_there}
use Rattle.plan_growth.specs.tree_laws.Parts.{journal_number}
use Rattle.plan_growth.specs.tree_laws.Planned.{IsInStream, IsInRecord, WritesWithin, SparesOthers}
use Rattle.plan_growth.proofs.tree_laws.Agreeing.{same_upper, kept_sizes, same_journal, same_spares}
use Rattle.plan_growth.proofs.tree_laws.Ascending.{all_by}
use Rattle.plan_growth.proofs.tree_laws.Changing.{all_keep}
use Rattle.plan_growth.proofs.tree_laws.Climbing.{system_everywhere}
use Rattle.plan_growth.proofs.tree_laws.Keeping.{rules_of, passes_below}
use Rattle.plan_growth.proofs.tree_laws.Naming.{this_or_other, names_everywhere, file_elsewhere, links_kept}
use Rattle.plan_growth.proofs.tree_laws.Owning.{same_5, same_6}
use Rattle.plan_growth.proofs.tree_laws.Parting.{record_bits_stay, cluster_bits_stay, spare_stay, room_stays, upper_stays, number_stays}
use Rattle.plan_growth.proofs.tree_laws.Planning.{planned_agree, same_index_at, same_shown_at}
use Rattle.plan_growth.proofs.tree_laws.Ruling.{same_listed, same_name_in, same_count, keeps_both, rule_7}
use Rattle.plan_growth.specs.plan_owners.States.{Stands}
use Rattle.plan_growth.proofs.plan_owners.Standing.{some_file, as_file, rule_4_at}
use Rattle.plan_growth.specs.plan_bodies.Bodies.{NewBody, whole_write, writes_in, content_with}
use Rattle.plan_growth.specs.plan_model.Drafts.{KeepsExtents, GoesOn}
use Rattle.plan_growth.specs.plan_model.Edits.{IsOwnedIn, WritesFiles, LeadsTo}
use Rattle.plan_growth.specs.plan_model.Informed.{with_record, with_info, InfoDiffers}
use Rattle.plan_growth.proofs.plan_model.Informing.{slot_in_use, marked_in_use, implied}
use Rattle.plan_growth.proofs.plan_model.OneRecord.{by_test, sizes_from, OwnRecord, own_record, slot_begins, slot_put, uncut, file_slot}
use Rattle.plan_growth.proofs.plan_model.Quiet.{record_owned, quiet_goes_on}
use Rattle.plan_growth.proofs.plan_model.Stepping.{written_within, files_edited, tree_nodes}
use Rattle.plan_growth.specs.Streams.{marks_streams}
use Rattle.plan_growth.specs.Trees.{with_data, TreeFollows}
use Rattle.plan_growth.proofs.Resizing.{not_marks, not_marked, not_named, no_system_shown, void_apart, not_allocation, mapped}
use Rattle.plan_growth.proofs.Written.{Reads, written_types, written_directory, written_links, written_names, written_root, written_info, written_stream, written_flags, written_runs, written_sizes}
use Rattle.plan_values.specs.Trees.{FileFollows}
use Rattle.plan_values.specs.Values.{IsOwnFile, PutsWritten}

-- What a record keeps of another one: what tells a file from others, its names, its index, the records of a change journal, and of each
-- stream the clusters and the initialised size; its data has the same flags.
pub record Stays (v : Volume) (n : ℕ) (r p : Record) : Type 0 where
  pub seq : p.head.seq ≡ r.head.seq
  pub base : p.head.base ≡ r.head.base
  pub directory : is_directory_record p ≡ is_directory_record r
  pub reads : All Reads p.attrs
  pub list : has_type attribute_list p ≡ has_type attribute_list r
  pub reparse : has_type reparse_point p ≡ has_type reparse_point r
  pub object : has_type object_id p ≡ has_type object_id r
  pub links : record_links n p ≡ record_links n r
  pub names : keeps_names n p (record_links n r) ≡ keeps_names n r (record_links n r)
  pub root : root_value p ≡ root_value r
  pub blocks : stream_of index_allocation names_index p.attrs ≡ stream_of index_allocation names_index r.attrs
  pub limits : stream_of data_type limits_name p.attrs ≡ stream_of data_type limits_name r.attrs
  pub entries : stream_of data_type entries_name p.attrs ≡ stream_of data_type entries_name r.attrs
  pub entry_flags : first_flags (attributes_of data_type entries_name p.attrs) ≡ first_flags (attributes_of data_type entries_name r.attrs)
  pub flags : data_flags p ≡ data_flags r
  pub clusters : (x : ℕ) → uses (file_runs (Some p)) x ≡ uses (file_runs (Some r)) x
  pub rule : list_all (keeps_stream v.per v.clusters r.attrs) r.attrs ≡ true → list_all (keeps_stream v.per v.clusters p.attrs) p.attrs ≡ true
  pub runs : (kind : ℕ) (name : List ℕ) → runs_in (stream_of kind name p.attrs) ≡ runs_in (stream_of kind name r.attrs)
  pub sizes : (kind : ℕ) (name : List ℕ) → initialised_in (stream_of kind name p.attrs) ≡ initialised_in (stream_of kind name r.attrs)

-- ---- what hangs on the clusters and the initialised size of a stream alone

hole_in : (o : Option Stream) → has_hole o ≡ list_any is_hole (runs_in o)
hole_in None = refl
hole_in (Some (Held value)) = refl
hole_in (Some (Placed e)) = refl

pub same_hole : (o p : Option Stream) → runs_in p ≡ runs_in o → has_hole p ≡ has_hole o
same_hole o p same = hole_in p ∙ ap (list_any is_hole) same ∙ sym (hole_in o)

torn_below : Content → ℕ → BlockKind → ℕ → List Run → ℕ → Bool
torn_below c per kind size runs initialised = list_any (λ m. is_torn_at c (block_at per runs kind m)) (range_with_len 0 (begun size initialised))

torn_in : (c : Content) (per : ℕ) (kind : BlockKind) (size : ℕ) (o : Option Stream) → begun size 0 ≡ 0 → stream_has_torn c per kind size o ≡ torn_below c per kind size (runs_in o) (initialised_in o)
unfolding torn_below has_torn
torn_in c per kind size None none = sym (ap (λ (k : ℕ). list_any (λ m. is_torn_at c (block_at per [] kind m)) (range_with_len 0 k)) none)
torn_in c per kind size (Some (Held value)) none = sym (ap (λ (k : ℕ). list_any (λ m. is_torn_at c (block_at per [] kind m)) (range_with_len 0 k)) none)
torn_in c per kind size (Some (Placed e)) none = refl

same_torn : (c : Content) (per : ℕ) (kind : BlockKind) (size : ℕ) (o p : Option Stream) → begun size 0 ≡ 0 → runs_in p ≡ runs_in o → initialised_in p ≡ initialised_in o → stream_has_torn c per kind size p ≡ stream_has_torn c per kind size o
same_torn c per kind size o p none runs sizes = torn_in c per kind size p none ∙ ap₂ (torn_below c per kind size) runs sizes ∙ sym (torn_in c per kind size o none)

-- ---- nodes

kind_by : Bool → Bool → Bool → Bool → Kind
kind_by directory system unread unchanged = cond directory Directory (cond system System (cond unread Opaque (cond unchanged Fixed File)))

node_of : ℕ → ℕ → Kind → Option Why → Bool → Option Stream → List ℕ → StdInfo → Node
node_of n seq kind why held shown bytes info = record {
  number = n;
  seq = seq;
  kind = kind;
  why = why;
  held = held;
  size = size_or shown;
  valid = valid_or shown;
  clusters = clusters_or shown;
  bytes = bytes;
  flags = info.flags;
  created = info.created;
  modified = info.modified;
  changed = info.changed;
  read_at = info.read_at;
}

module _ (c : Content) (g : Geometry) (clusters : ℕ) (v : Volume) (n : ℕ) (r p s : Record) (bodies : List NewBody) (sized : HasSizes c) (state : Stands c g clusters v) (own : IsOwnFile v n r) (stays : Stays v n r p) (put : PutsWritten c v n p s bodies) where
  abbrev d : Content
  d = content_with c bodies

  abbrev writes : List Write
  writes = writes_in bodies

  abbrev edits : List FileEdit
  edits = record { number = n; file = Some s } ∷ []

  abbrev files : List (Option Record)
  files = with_edits edits v.files

  abbrev w : Volume
  w = with_record v n s

  abbrev touched : ℕ → Bool
  touched = is_edited edits

  abbrev inside : ℕ → Bool
  inside m = true

  -- ---- its record

  its : OwnRecord c v n r
  its = own_record c g clusters v n r state own.file own.no_list

  seq_now : s.head.seq ≡ r.head.seq
  seq_now = put.written.seq ∙ stays.seq

  types_now : (t : ℕ) → has_type t s ≡ has_type t p
  types_now = written_types p s put.written stays.reads

  directory_now : is_directory_record s ≡ is_directory_record r
  directory_now = written_directory p s put.written stays.reads ∙ stays.directory

  links_now : record_links n s ≡ record_links n r
  links_now = written_links p s put.written stays.reads n ∙ stays.links

  stream_now : (kind : ℕ) (name : List ℕ) → stream_of kind name s.attrs ≡ stream_of kind name p.attrs
  stream_now = written_stream p s put.written stays.reads

  no_list_now : has_type attribute_list s ≡ false
  no_list_now = types_now attribute_list ∙ stays.list ∙ own.no_list

  below : n < count_of v
  below = inside_list v.files n r (some_file v n r own.file)

  slot : table_slot d v.per v.table n ≡ Used s
  slot = slot_put c v n s bodies put.puts.anew.block put.puts.anew.bytes sized put.puts.whole (slot_begins c v n r its.slot) put.puts.anew.place put.puts.anew.put put.puts.anew.reads

  base : is_base_record s ≡ true
  base = ap (λ (x : FileRef). eqb x.number 0 && eqb x.seq 0) (put.written.base ∙ stays.base) ∙ its.base

  -- ---- which files are touched

  at_own : touched n ≡ true
  at_own = or_left (eqb n n) false (eq-eqb n n refl)

  others_not : (m : ℕ) → m ≢ n → touched m ≡ false
  others_not m other = ap (λ (t : Bool). t || false) (ne_eqb n m (λ same. other (sym same)))

  not_other : (m : ℕ) → touched m ≡ false → m ≢ n
  not_other m is same = both_ways (touched m) is (ap touched same ∙ at_own)

  here : (P : ℕ → Type 0) → P n → (m : ℕ) → touched m ≡ true → P m
  here P holds m is = elim (cases_eq m n) [
    | inl same ↦ subst P (sym same) holds
    | inr other ↦ absurd (both_ways (touched m) (others_not m other) is)
  ]

  differs : OneFileDiffers n v.files files
  differs = record {
    count = length-with_edits v.files edits;
    others = λ m other. other_file v.files edits m ((λ same. other (sym same)), tt);
  }

  pub at_n : file_in w n ≡ Some s
  unfolding file_at
  at_n = as_file (get_or (with_edits edits v.files) n None) s (edited_files v.files edits (below, tt, tt)).0 base

  names : KeepsNames n (table_in v.files) (table_in files)
  unfolding links_at
  names = ap (file_links n) at_n ∙ links_now ∙ sym (ap (file_links n) own.file)

  all_named : (m : ℕ) → links_at (table_in files) m ≡ links_at (table_in v.files) m
  all_named = names_everywhere (table_in v.files) (table_in files) n differs.others names

  directories : (m : ℕ) → KeepsDirectory m (table_in v.files) (table_in files)
  directories m seq =
      let before = table_in v.files in
      let after = table_in files in
      this_or_other (λ (x : ℕ). is_directory_with seq (file_at after x) ≡ is_directory_with seq (file_at before x)) n m (keeps_both before after n r s own.file at_n seq_now directory_now seq)
      (λ other. ap (is_directory_with seq) (file_elsewhere before after n m differs.others other))

  touches : TouchesFiles touched inside v.files files
  touches = record {
    count = differs.count;
    others = λ m is. differs.others m (not_other m is);
    places = all_keep (table_in v.files) (table_in files) all_named directories;
    within = λ m is. refl;
  }

  -- ---- the writes

  abbrev goes_to : Block → Type 0
  goes_to b = IsOwnedIn marks_streams v b ⊎ (block_at v.per v.table.runs FileRec n ≡ Some b)

  as_write : (q : NewBody) → goes_to q.block → IsInStream marks_streams v (whole_write q) ⊎ IsInRecord touched v (whole_write q) ⊎ LiesFree v (whole_write q).block
  as_write q (inl owned) = inl (record { stream = owned.stream; chosen = owned.chosen; kind = stream_kind owned.stream; number = owned.number; lies = owned.lies })
  as_write q (inr at) = inr (inl (record { number = n; chosen = at_own; lies = at }))

  each_write : (more : List NewBody) → AllByRecursion (λ q. goes_to q.block) more → AllByRecursion (λ x. IsInStream marks_streams v x ⊎ IsInRecord touched v x ⊎ LiesFree v x.block) (writes_in more)
  each_write [] all = tt
  each_write (q ∷ more) all = (as_write q all.0, each_write more all.1)

  no_allocation : (t : StreamKey) → marks_streams t ≡ true → eqb t.kind index_allocation ≡ false
  no_allocation t mark =
      let own_file : Bool = eqb t.file bitmap_file || eqb t.file mirror_file in
      let kind_is : eqb t.kind data_type ≡ true = (and_parts own_file (eqb t.kind data_type) (and_parts (own_file && eqb t.kind data_type) (pointwise nat_eq t.name []) mark).0).1 in
      ne_eqb t.kind index_allocation (λ e. (let data_is : t.kind ≡ data_type = eqb-true t.kind data_type kind_is in omega (arith, e, data_is)))

  not_index_kind : (q : NewBody) → goes_to q.block → Index ≢ q.block.kind
  not_index_kind q (inl owned) same =
      let kind_is : stream_kind owned.stream ≡ q.block.kind = (lies v.per (runs_in (stream_at v owned.stream)) (stream_kind owned.stream) owned.number q.block owned.lies).kind_is in
      not_allocation owned.stream (no_allocation owned.stream owned.chosen) (kind_is ∙ sym same)
  not_index_kind q (inr at) same = let kind_is : FileRec ≡ q.block.kind = (lies v.per v.table.runs FileRec n q.block at).kind_is in absurd cc

  no_void : (more : List NewBody) → AllByRecursion (λ q. goes_to q.block) more → AllByRecursion (λ (x : Write). same_block void_block x.block ≡ false) (writes_in more)
  no_void [] all = tt
  no_void (q ∷ more) all = (void_apart q.block (not_index_kind q all.0), no_void more all.1)

  not_shown : (m : ℕ) (q : Record) → shows_data (kind_in v m q) ≡ true → marks_streams (record { file = m; kind = data_type; name = [] }) ≡ false
  not_shown m q shown = not_marked m [] (λ same. no_system_shown v m q (omega (arith, same)) shown) (λ same. no_system_shown v m q (omega (arith, same)) shown)

  spared_index : (m : ℕ) → marks_streams (record { file = m; kind = index_allocation; name = names_index }) ≡ false
  spared_index m = not_marks m index_allocation names_index (λ e. omega (arith, e))

  alone : StandsAlone v.per (Used s)
  alone = (
    no_list_stream s no_list_now,
    ap₂ (λ (t : Bool) (o : Option Stream). t && has_cut_index_block v.per o) directory_now (stream_now index_allocation names_index ∙ stays.blocks) ∙ uncut c g clusters v n r state own.file its.below,
  )

  puts : WritesFiles marks_streams c v writes edits
  puts = record {
    distinct = (below, tt, tt);
    no_table = (own.apart.table, tt);
    own = (inl (r, own.file), tt);
    alone = (subst (λ (x : Slot). StandsAlone v.per x) (sym slot) alone, tt);
    files = (sym (file_slot d v n s slot base), tt);
    each = each_write bodies put.puts.each;
    table = refl;
    lists = λ m alias. not_marks m attribute_list alias (λ e. omega (arith, e));
    spares = record {
      sized = sized;
      void = no_void bodies put.puts.each;
      upcase = refl;
      free = λ m low other clear. other;
      indexes = λ m q other is directory. spared_index m;
      shown = λ m q other is shown. not_shown m q shown;
    };
  }

  within : WritesWithin marks_streams touched c g clusters v writes
  within = written_within marks_streams c g clusters v writes edits state puts

  marked : bit (record_bits c v) n ≡ true
  marked = marked_in_use c v n (rules_of c v state.kept).rule_7 below (slot_in_use c v n r its.slot)

  -- no other record is written to, whether or not it is marked
  all_spared : SparesOthers (λ m. false) marks_streams touched c v writes
  all_spared = record {
    sized = sized;
    void = no_void bodies put.puts.each;
    upcase = refl;
    free = λ m low other clear. others_not m (λ same. both_ways (bit (record_bits c v) m) clear (ap (bit (record_bits c v)) same ∙ marked));
    indexes = λ m q other is directory. spared_index m;
    shown = λ m q other is shown. not_shown m q shown;
  }

  agree : AgreeBut n c d v
  unfolding entries_name
  agree = planned_agree n marks_streams touched c g clusters v writes within (record {
    sized = sized;
    void = no_void bodies put.puts.each;
    upcase = refl;
    free = λ m low other clear. others_not m (eqb-false m n other);
    indexes = λ m q other is directory. spared_index m;
    shown = λ m q other is shown. not_shown m q shown;
  }) marked (not_marks table_file bitmap_type [] (λ e. omega (arith, e))) (λ m is. not_named m data_type 0x24 (0x4A ∷ []))

  -- ---- the parts of the volume

  upper_now : upper_of d w ≡ upper_of c v
  upper_now = upper_stays d v files n differs own.apart.upcase ∙ same_upper c d v agree.upper

  bits_now : record_bits d w ≡ record_bits c v
  bits_now = record_bits_stay d v files n differs own.apart.table ∙ same_record_bits c d v agree.bits

  flags_same : entries_flags s ≡ entries_flags r
  unfolding entries_flags
  flags_same = written_flags p s put.written stays.reads data_type entries_name ∙ stays.entry_flags

  own_journal : journal_of_file d v.per (Some s) ≡ journal_of_file d v.per (Some r)
  own_journal =
      ap₂ (λ (x : ℕ) (o : Option Stream). journal_of_streams d v.per x o (stream_of data_type entries_name s.attrs)) flags_same (stream_now data_type limits_name ∙ stays.limits)
      ∙ ap (journal_of_streams d v.per (entries_flags r) (stream_of data_type limits_name r.attrs)) (stream_now data_type entries_name ∙ stays.entries)

  journal_with : (o : Option ℕ) → journal_of_file d w.per (file_or_none w o) ≡ journal_of_file d v.per (file_or_none v o)
  journal_with None = refl
  journal_with (Some m) =
      this_or_other (λ (x : ℕ). journal_of_file d v.per (file_in w x) ≡ journal_of_file d v.per (file_in v x)) n m
      (ap (journal_of_file d v.per) at_n ∙ own_journal ∙ sym (ap (journal_of_file d v.per) own.file))
      (λ other. ap (journal_of_file d v.per) (file_elsewhere (table_in v.files) (table_in files) n m differs.others other))

  journal_now : journal_of d (upper_of d w) w ≡ journal_of c (upper_of c v) v
  unfolding journal_of journal_file
  journal_now =
      ap (λ (u : List ℕ). journal_of d u w) upper_now
      ∙ ap (λ (o : Option ℕ). journal_of_file d w.per (file_or_none w o)) (number_stays v files (upper_of c v) n differs names)
      ∙ journal_with (journal_number (upper_of c v) v)
      ∙ same_journal c d v (upper_of c v) agree.journal

  same_clusters : (x : ℕ) → uses (file_runs (table_in files n)) x ≡ uses (file_runs (table_in v.files n)) x
  same_clusters x =
      ap (λ (o : Option Record). uses (file_runs o) x) (edited_files v.files edits (below, tt, tt)).0
      ∙ ap (λ (l : List Run). uses l x) (written_runs p s put.written stays.reads) ∙ stays.clusters x
      ∙ sym (ap (λ (o : Option Record). uses (file_runs o) x) (some_file v n r own.file))

  index_now : is_directory_record r ≡ true → index_links d v.per (upper_of c v) s ≡ index_links c v.per (upper_of c v) r
  unfolding index_links index_place index_stream
  index_now directory =
      let place : Option Stream → Place = λ o. record { blocks = stream_blocks v.per o; step = 8 / v.per } in
      ap₂ (λ (o : Option Stream) (x : Option (List ℕ)). links_below d (place o) (upper_of c v) x) (stream_now index_allocation names_index ∙ stays.blocks) (written_root p s put.written stays.reads ∙ stays.root)
      ∙ same_links c d v.per (upper_of c v) r (same_index_at (λ m. false) marks_streams touched c g clusters v writes within all_spared n refl r own.file directory)

  -- ---- the rules

  old_1 : keeps_names n r (record_links n r) ≡ true
  unfolding broken_1 keeps_1
  old_1 = sym (ap (at_file (λ q. keeps_names n q (record_links n q))) own.file) ∙ passes_below (keeps_1 (files_by_number v)) (count_of v) (rules_of c v state.kept).rule_1 n below

  new_1 : keeps_1 (table_in files) n ≡ true
  unfolding keeps_1
  new_1 = ap (at_file (λ q. keeps_names n q (record_links n q))) at_n ∙ ap (keeps_names n s) links_now ∙ written_names p s put.written stays.reads n (record_links n r) ∙ stays.names ∙ old_1

  index_test : Content → Volume → Record → Bool
  index_test x u q = implies (is_directory_record q) (lists_names (upper_of c v) (files_by_number u) (count_of u) (reference n q) (index_links x u.per (upper_of c v) q))

  old_3 : index_test c v r ≡ true
  unfolding broken_3 keeps_index index_test
  old_3 = sym (ap (at_file (index_test c v)) own.file) ∙ passes_below (keeps_index c v (upper_of c v)) (count_of v) (rules_of c v state.kept).rule_3 n below

  listed_now : is_directory_record r ≡ true
      → lists_names (upper_of c v) (files_by_number w) (count_of w) (reference n s) (index_links d w.per (upper_of c v) s) ≡ lists_names (upper_of c v) (files_by_number v) (count_of v) (reference n r) (index_links c v.per (upper_of c v) r)
  listed_now directory =
      let upper = upper_of c v in
      let before = table_in v.files in
      let after = table_in files in
      ap (λ (q : ℕ). lists_names upper after (length files) (record { number = n; seq = q }) (index_links d v.per upper s)) seq_now
      ∙ ap (λ (o : Option (List Link)). lists_names upper after (length files) (reference n r) o) (index_now directory)
      ∙ ap (λ (x : ℕ). lists_names upper after x (reference n r) (index_links c v.per upper r)) differs.count
      ∙ same_listed upper before after (count_of v) (reference n r) (index_links c v.per upper r) (same_name_in before after (reference n r) all_named) (same_count before after (reference n r) (count_of v) all_named)

  new_3 : keeps_index d w (upper_of c v) n ≡ true
  unfolding keeps_index index_test
  new_3 = ap (at_file (index_test d w)) at_n ∙ elim (cases_Bool (is_directory_record r)) [
    | inl directory ↦
        ap₂ implies directory_now (listed_now directory) ∙ old_3
    | inr none ↦ ap (λ (t : Bool). implies t (lists_names (upper_of c v) (files_by_number w) (count_of w) (reference n s) (index_links d w.per (upper_of c v) s))) (directory_now ∙ none)
  ]

  runs_now : (kind : ℕ) (name : List ℕ) → runs_in (stream_of kind name s.attrs) ≡ runs_in (stream_of kind name r.attrs)
  runs_now kind name = ap runs_in (stream_now kind name) ∙ stays.runs kind name

  sizes_now : (kind : ℕ) (name : List ℕ) → initialised_in (stream_of kind name s.attrs) ≡ initialised_in (stream_of kind name r.attrs)
  sizes_now kind name = ap initialised_in (stream_now kind name) ∙ stays.sizes kind name

  hole_now : (kind : ℕ) (name : List ℕ) → has_hole (stream_of kind name s.attrs) ≡ has_hole (stream_of kind name r.attrs)
  hole_now kind name = same_hole (stream_of kind name r.attrs) (stream_of kind name s.attrs) (runs_now kind name)

  torn_now : (block_kind : BlockKind) (size kind : ℕ) (name : List ℕ) → begun size 0 ≡ 0 → stream_has_torn d v.per block_kind size (stream_of kind name s.attrs) ≡ stream_has_torn d v.per block_kind size (stream_of kind name r.attrs)
  torn_now block_kind size kind name none = same_torn d v.per block_kind size (stream_of kind name r.attrs) (stream_of kind name s.attrs) none (runs_now kind name) (sizes_now kind name)

  each_now : list_all (keeps_stream v.per v.clusters r.attrs) r.attrs ≡ true → list_all (keeps_stream v.per v.clusters s.attrs) s.attrs ≡ true
  each_now was = written_sizes p s put.written stays.reads v.per v.clusters ∙ stays.rule was

  streams_now : keeps_streams d v n r ≡ true → keeps_streams d w n s ≡ true
  streams_now was =
      let test = sym (by_test d v n r) ∙ was in
      let parts = and_parts _ _ test in
      let table_parts = and_parts _ _ parts.0 in
      let hole_parts = and_parts _ _ table_parts.0 in
      by_test d w n s
      ∙ ap (λ (t : Bool). t && holes_of s && implies (eqb n table_file) (is_initialised (stream_of data_type [] s.attrs)) && torn_of s) (each_now hole_parts.0)
      ∙ ap₂ (λ (x y : Bool). x && implies (eqb n table_file) (is_initialised (stream_of data_type [] s.attrs)) && y) holes_now torn_same
      ∙ ap (λ (t : Bool). holes_of r && implies t (is_initialised (stream_of data_type [] s.attrs)) && torn_of r) (ne_eqb n table_file own.apart.table)
      ∙ and_from _ _ (and_from _ _ hole_parts.1 refl) parts.1
    where
      holes_of : Record → Bool
      holes_of q =
          implies (is_whole_file n) (not (has_hole (stream_of data_type [] q.attrs)))
          && implies (eqb n table_file) (not (has_hole (stream_of bitmap_type [] q.attrs)))
          && implies (is_directory_record q) (not (has_hole (stream_of index_allocation names_index q.attrs)) && not (has_hole (stream_of bitmap_type names_index q.attrs)))

      torn_of : Record → Bool
      torn_of q =
          implies ((eqb n table_file) || (eqb n mirror_file)) (not (stream_has_torn d v.per FileRec 1024 (stream_of data_type [] q.attrs)))
          && implies (is_directory_record q) (not (stream_has_torn d v.per Index 4096 (stream_of index_allocation names_index q.attrs)))

      holes_now : holes_of s ≡ holes_of r
      holes_now =
          ap₂ (λ (x y : Bool). implies (is_whole_file n) (not x) && implies (eqb n table_file) (not y) && implies (is_directory_record s) (not (has_hole (stream_of index_allocation names_index s.attrs)) && not (has_hole (stream_of bitmap_type names_index s.attrs)))) (hole_now data_type []) (hole_now bitmap_type [])
          ∙ ap₂ (λ (x y : Bool). implies (is_whole_file n) (not (has_hole (stream_of data_type [] r.attrs))) && implies (eqb n table_file) (not (has_hole (stream_of bitmap_type [] r.attrs))) && implies (is_directory_record s) (not x && not y)) (hole_now index_allocation names_index) (hole_now bitmap_type names_index)
          ∙ ap (λ (t : Bool). implies (is_whole_file n) (not (has_hole (stream_of data_type [] r.attrs))) && implies (eqb n table_file) (not (has_hole (stream_of bitmap_type [] r.attrs))) && implies t (not (has_hole (stream_of index_allocation names_index r.attrs)) && not (has_hole (stream_of bitmap_type names_index r.attrs)))) directory_now

      torn_same : torn_of s ≡ torn_of r
      torn_same =
          ap₂ (λ (x y : Bool). implies ((eqb n table_file) || (eqb n mirror_file)) (not x) && implies (is_directory_record s) (not y)) (torn_now FileRec 1024 data_type [] refl) (torn_now Index 4096 index_allocation names_index refl)
          ∙ ap (λ (t : Bool). implies ((eqb n table_file) || (eqb n mirror_file)) (not (stream_has_torn d v.per FileRec 1024 (stream_of data_type [] r.attrs))) && implies t (not (stream_has_torn d v.per Index 4096 (stream_of index_allocation names_index r.attrs)))) directory_now

  new_4 : keeps_sizes d w n ≡ true
  unfolding keeps_sizes
  new_4 =
      let kept : keeps_sizes d v n ≡ true = kept_sizes c d v n agree.torn (rule_4_at c g clusters v n state (omega (arith, below))) in
      let was : keeps_streams d v n r ≡ true = sym (ap (at_file (keeps_streams d v n)) own.file) ∙ (and_parts _ _ kept).0 in
      sizes_from d w n s at_n own.apart.table own.apart.bitmap (streams_now was)

  new_6 : broken_6 d w ≡ None
  unfolding broken_6
  new_6 =
      same_6 d v files n differs same_clusters own.apart.bitmap
      ∙ ap (λ (l : List Bool). first_failing (keeps_cluster_bit l (volume_runs v.files)) v.clusters) put.marked
      ∙ (rules_of c v state.kept).rule_6

  new_7 : keeps_record_bit d w n ≡ true
  unfolding keeps_record_bit
  new_7 =
      rule_7 d v files n n differs own.apart.table
      ∙ implied (is_in_use d v n) (bit (record_bits d v) n) (ap (λ (l : List Bool). bit l n) (same_record_bits c d v agree.bits) ∙ marked)

  new_9 : broken_9 d w ≡ None
  unfolding broken_9
  new_9 = ap fault_of journal_now ∙ (rules_of c v state.kept).rule_9

  outside : (P : Type 0) (m : ℕ) → inside m ≡ false → P
  outside P m is = absurd cc

  keeps : KeepsTouched touched inside c d v w
  keeps = record {
    upcase = others_not upcase_file (λ same. own.apart.upcase (sym same));
    rule_1 = λ m low. here (λ (x : ℕ). keeps_1 (table_in files) x ≡ true) new_1 m;
    rule_2 = λ m low. outside (keeps_2 (table_in files) m ≡ true) m;
    rule_3 = λ m low. here (λ (x : ℕ). keeps_index d w (upper_of c v) x ≡ true) new_3 m;
    listed = λ m j q other is directory. outside (names_there (reference m q) (links_at (table_in files) j) ≡ names_there (reference m q) (links_at (table_in v.files) j)) j;
    rule_4 = λ m low. here (λ (x : ℕ). keeps_sizes d w x ≡ true) new_4 m;
    rule_5 = same_5 v files n differs same_clusters ∙ (rules_of c v state.kept).rule_5;
    rule_6 = new_6;
    rule_7 = λ m low. here (λ (x : ℕ). keeps_record_bit d w x ≡ true) new_7 m;
    rule_8 = λ m low. outside (keeps_8 (table_in files) (count_of w) m ≡ true) m;
    rule_9 = new_9;
  }

  pub stays_leads : LeadsTo (is_edited (record { number = n; file = Some s } ∷ [])) c v (content_with c bodies) g clusters (with_record v n s)
  stays_leads = files_edited marks_streams inside c g clusters v writes edits state puts (λ m low other. ap (λ (l : List Bool). bit l m) bits_now) touches keeps

  -- ---- as an edit of a plan

  with_same : (A : Type 0) (f : Option Stream → A) → ((kind : ℕ) (name : List ℕ) → f (stream_of kind name s.attrs) ≡ f (stream_of kind name r.attrs)) → (t : StreamKey) → f (stream_at w t) ≡ f (stream_at v t)
  with_same A f same t =
      this_or_other (λ (x : ℕ). f (file_stream t.kind t.name (file_in w x)) ≡ f (file_stream t.kind t.name (file_in v x))) n t.file
      (ap (λ (o : Option Record). f (file_stream t.kind t.name o)) at_n ∙ same t.kind t.name ∙ sym (ap (λ (o : Option Record). f (file_stream t.kind t.name o)) own.file))
      (λ other. ap (λ (o : Option Record). f (file_stream t.kind t.name o)) (file_elsewhere (table_in v.files) (table_in files) n t.file differs.others other))

  extents_kept : KeepsExtents v w
  extents_kept = record { per = refl; runs = with_same (List Run) runs_in runs_now; sizes = with_same ℕ initialised_in sizes_now }

  all_clusters : (x : ℕ) → uses (volume_runs files) x ≡ uses (volume_runs v.files) x
  all_clusters x = let sum = clusters_replaced v.files files n x differs in let same = same_clusters x in omega arith

  is_owned : (q : NewBody) → goes_to q.block → Owns v q.block
  is_owned q (inl owned) = record { stream = owned.stream; number = owned.number; lies = owned.lies }
  is_owned q (inr at) = record_owned c g clusters v n q.block state at

  pub stays_goes_on : (first : Content) (start : Volume) (gave : ℕ → Option BlockKind) → ((kind : BlockKind) (x : ℕ) → gave x ≡ Some kind → bit (cluster_bits first start) x ≡ false) → GoesOn first start c g clusters v bodies (with_record v n s) gave gave
  stays_goes_on first start gave clear =
      quiet_goes_on first start c g clusters v bodies w gave put.puts.whole stays_leads.stands extents_kept (λ x low. ap (λ (l : List Bool). bit l x) (cluster_bits_stay d v files n differs own.apart.bitmap ∙ put.marked)) all_clusters
      (all_by (λ q. goes_to q.block) (λ q. Owns v q.block) is_owned bodies put.puts.each) clear

  -- ---- the tree

  system_now : is_system (files_by_number w) (count_of w) n (record_links n s) ≡ is_system (files_by_number v) (count_of v) n (record_links n r)
  system_now =
      ap (is_system (table_in files) (length files) n) links_now
      ∙ ap (λ (x : ℕ). is_system (table_in files) x n (record_links n r)) differs.count
      ∙ system_everywhere (table_in v.files) (table_in files) n (count_of v) n (record_links n r) differs.others names

  data_flags_now : data_flags s ≡ data_flags r
  unfolding data_flags
  data_flags_now = written_flags p s put.written stays.reads data_type [] ∙ stays.flags

  sparse_now : has_sparse_run s ≡ has_sparse_run r
  unfolding data_stream
  sparse_now = hole_now data_type []

  reparse_now : has_type reparse_point s ≡ has_type reparse_point r
  reparse_now = types_now reparse_point ∙ stays.reparse

  list_same : has_type attribute_list s ≡ has_type attribute_list r
  list_same = types_now attribute_list ∙ stays.list

  why_now : why_not s ≡ why_not r
  unfolding why_not
  why_now =
      ap₂ (λ (a b : Bool). option_or (why_by a b (data_flags s)) (sparse_if (has_sparse_run s))) list_same reparse_now
      ∙ ap₂ (λ (x : ℕ) (t : Bool). option_or (why_by (has_type attribute_list r) (has_type reparse_point r) x) (sparse_if t)) data_flags_now sparse_now

  unread_now : is_unread s ≡ is_unread r
  unfolding is_unread
  unread_now = ap₂ (λ (t : Bool) (x : ℕ). t || is_encrypted x || is_compressed x) reparse_now data_flags_now

  unchanged_now : is_unchanged s ≡ is_unchanged r
  unfolding is_unchanged
  unchanged_now = ap₂ (λ (t : Bool) (x : ℕ). t || is_sparse x || has_sparse_run s) list_same data_flags_now ∙ ap (λ (t : Bool). has_type attribute_list r || is_sparse (data_flags r) || t) sparse_now

  pub kind_now : kind_in w n s ≡ kind_in v n r
  unfolding kind_in kind_by
  kind_now =
      ap₂ (λ (a b : Bool). kind_by a b (is_unread s) (is_unchanged s)) directory_now system_now
      ∙ ap₂ (λ (a b : Bool). kind_by (is_directory_record r) (is_system (files_by_number v) (count_of v) n (record_links n r)) a b) unread_now unchanged_now

  one_node : (kind : Kind) (shown other : Option Stream) (bytes new : List ℕ) → node_with n s kind other new ≡ with_info (info_of s) (with_data other new (node_with n r kind shown bytes))
  unfolding node_with node_of
  one_node kind shown other bytes new =
      ap₂ (λ (q : ℕ) (y : Option Why). node_of n q kind y (has_type object_id s) other new (info_of s)) seq_now why_now
      ∙ ap (λ (h : Bool). node_of n r.head.seq kind (why_not r) h other new (info_of s)) (types_now object_id ∙ stays.object)

  abbrev shown_now : Option Stream
  shown_now = data_shown (kind_in v n r) s

  change : Node → Node
  change a = with_info (info_of s) (with_data shown_now (bytes_or d v.per shown_now) a)

  node_now : node_at (bytes_or d w.per) w n ≡ option_map change (node_at (bytes_or c v.per) v n)
  unfolding node_at node_by change
  node_now =
      let was : Option Stream = data_shown (kind_in v n r) r in
      ap (some_node (bytes_or d v.per) w n) at_n
      ∙ ap₂ (λ (t : Bool) (x : Kind). cond t None (Some (node_with n s x (data_shown x s) (bytes_or d v.per (data_shown x s))))) (ap (λ (l : List Link). (ltb n first_user_record) && eqb (length l) 0) links_now) kind_now
      ∙ ap (λ (a : Node). cond (is_nameless n r) None (Some a)) (one_node (kind_in v n r) was shown_now (bytes_or c v.per was) (bytes_or d v.per shown_now))
      ∙ mapped change (is_nameless n r) (node_with n r (kind_in v n r) was (bytes_or c v.per was))
      ∙ sym (ap (λ (o : Option Record). option_map change (some_node (bytes_or c v.per) v n o)) own.file)

  pub stays_tree : FileFollows c (content_with c bodies) v n r s
  unfolding tree_of tree_with volume_journal free_clusters change
  stays_tree = record {
    node = tree_nodes d w n ∙ node_now ∙ sym (ap (option_map change) (tree_nodes c v n));
    others = λ m other. stays_leads.nodes m (others_not m other);
    links = links_kept v.files files n differs names;
    spare = spare_stay d v files n differs own.apart.table ∙ same_spares c d v agree.bits agree.free;
    count = differs.count;
    journal = ap some_journal journal_now;
    room = room_stays d v files n differs own.apart.bitmap ∙ ap (count_by not) put.marked;
  }

  -- data that reads as before
  pub shown_stays : stream_of data_type [] p.attrs ≡ stream_of data_type [] r.attrs → (data_shown (kind_in v n r) s ≡ data_shown (kind_in v n r) r) × (bytes_or d v.per (data_shown (kind_in v n r) s) ≡ bytes_or c v.per (data_shown (kind_in v n r) r))
  unfolding data_stream
  shown_stays same =
      let shown : data_shown (kind_in v n r) s ≡ data_shown (kind_in v n r) r = ap (λ (o : Option Stream). cond (shows_data (kind_in v n r)) o None) (stream_now data_type [] ∙ same) in (
        shown,
        ap (bytes_or d v.per) shown ∙ same_file c d v.per (data_shown (kind_in v n r) r) (same_shown_at (λ m. false) marks_streams touched c g clusters v writes within all_spared n refl r own.file),
      )

  pub info_now : info_of s ≡ info_of p
  info_now = written_info p s put.written stays.reads

-- ---- the tree, where the data or the information stays

-- what nodes show is shown again
shown_again : (kind : Kind) (n : ℕ) (r : Record) (shown : Option Stream) (bytes : List ℕ) (info : StdInfo) → with_info info (with_data shown bytes (node_with n r kind shown bytes)) ≡ with_info info (node_with n r kind shown bytes)
unfolding node_with
shown_again kind n r shown bytes info = refl

informed_again : (kind : Kind) (n : ℕ) (r : Record) (shown other : Option Stream) (bytes new : List ℕ) → with_info (info_of r) (with_data other new (node_with n r kind shown bytes)) ≡ with_data other new (node_with n r kind shown bytes)
unfolding node_with
informed_again kind n r shown other bytes new = refl

some_again : (f g : Node → Node) (t : Bool) (a : Node) → f a ≡ g a → option_map f (cond t None (Some a)) ≡ option_map g (cond t None (Some a))
some_again f g true a same = refl
some_again f g false a same = ap (λ (x : Node). Some x) same

-- two changes of the node of a file are one, where they agree on what it shows
pub same_change : (c : Content) (v : Volume) (n : ℕ) (r : Record) (f g : Node → Node) → file_in v n ≡ Some r
    → f (node_with n r (kind_in v n r) (data_shown (kind_in v n r) r) (bytes_or c v.per (data_shown (kind_in v n r) r))) ≡ g (node_with n r (kind_in v n r) (data_shown (kind_in v n r) r) (bytes_or c v.per (data_shown (kind_in v n r) r)))
    → option_map f (node_by_number (tree_of c v).nodes n) ≡ option_map g (node_by_number (tree_of c v).nodes n)
unfolding node_at node_by
same_change c v n r f g file same =
    ap (option_map f) (tree_nodes c v n ∙ ap (some_node (bytes_or c v.per) v n) file)
    ∙ some_again f g (is_nameless n r) (node_with n r (kind_in v n r) (data_shown (kind_in v n r) r) (bytes_or c v.per (data_shown (kind_in v n r) r))) same
    ∙ sym (ap (option_map g) (tree_nodes c v n ∙ ap (some_node (bytes_or c v.per) v n) file))

pub times_only : (c d : Content) (v : Volume) (n : ℕ) (r s : Record) → file_in v n ≡ Some r → data_shown (kind_in v n r) s ≡ data_shown (kind_in v n r) r → bytes_or d v.per (data_shown (kind_in v n r) s) ≡ bytes_or c v.per (data_shown (kind_in v n r) r) → FileFollows c d v n r s
    → InfoDiffers n (info_of s) (tree_of c v) (tree_of d (with_record v n s))
times_only c d v n r s file shown bytes k = record {
  node =
      k.node
      ∙ ap₂ (λ (o : Option Stream) (l : List ℕ). option_map (λ a. with_info (info_of s) (with_data o l a)) (node_by_number (tree_of c v).nodes n)) shown bytes
      ∙ same_change c v n r (λ a. with_info (info_of s) (with_data (data_shown (kind_in v n r) r) (bytes_or c v.per (data_shown (kind_in v n r) r)) a)) (with_info (info_of s)) file
      (shown_again (kind_in v n r) n r (data_shown (kind_in v n r) r) (bytes_or c v.per (data_shown (kind_in v n r) r)) (info_of s));
  others = k.others;
  links = k.links;
  spare = k.spare;
  count = k.count;
  journal = k.journal;
  room = k.room;
}

pub data_only : (c d : Content) (v : Volume) (n : ℕ) (r s : Record) → file_in v n ≡ Some r → info_of s ≡ info_of r → FileFollows c d v n r s → TreeFollows c d v n r s
data_only c d v n r s file info k = record {
  node =
      k.node
      ∙ ap (λ (i : StdInfo). option_map (λ a. with_info i (with_data (data_shown (kind_in v n r) s) (bytes_or d v.per (data_shown (kind_in v n r) s)) a)) (node_by_number (tree_of c v).nodes n)) info
      ∙ same_change c v n r (λ a. with_info (info_of r) (with_data (data_shown (kind_in v n r) s) (bytes_or d v.per (data_shown (kind_in v n r) s)) a)) (with_data (data_shown (kind_in v n r) s) (bytes_or d v.per (data_shown (kind_in v n r) s))) file
      (informed_again (kind_in v n r) n r (data_shown (kind_in v n r) r) (data_shown (kind_in v n r) s) (bytes_or c v.per (data_shown (kind_in v n r) r)) (bytes_or d v.per (data_shown (kind_in v n r) s)));
  others = k.others;
  links = k.links;
  spare = k.spare;
  count = k.count;
  journal = k.journal;
}
