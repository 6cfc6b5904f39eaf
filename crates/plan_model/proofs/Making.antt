-- A file is made in a directory.
use Rattle.plan_owners.specs.stream_laws.Leaving.{LiesFree}
use Rattle.plan_owners.specs.stream_laws.Owners.{stream_kind, initialised_in, Owns, IsLive}
use Rattle.plan_owners.specs.stream_laws.Sharing.{stream_at, runs_in}
use Rattle.plan_owners.proofs.stream_laws.Changing.{has_sectors}
use Rattle.plan_owners.proofs.stream_laws.Placing.{lies, lies_in_cluster, is_used}
use Rattle.plan_owners.proofs.stream_laws.Replacing.{clusters_replaced}
use Rattle.plan_owners.proofs.stream_laws.Sharing.{file_uses, stream_of_file}
use Rattle.plan_model.specs.Drafts.{GoesOn}
use Rattle.plan_model.proofs.Quiet.{record_owned}
use Rattle.plan_bodies.specs.disk_model.declared.block.Block.{Block}
use Rattle.plan_bodies.specs.disk_model.declared.block.BlockKind.{BlockKind}
use Rattle.index_change.specs.state_model.Streams.{block_at}
use Rattle.std.proofs.Common.{◌≡◌, ◌≢◌, ◌⊎◌, ℕ, ◌*◌, ◌<◌, ◌≤◌, Bool, true, false, not, ◌&&◌, ◌||◌, cond, eqb, nat_eq, List, [], ◌∷◌, ◌++◌, length, Option, Some, None, refl, sym, ap, ap₂, subst, ◌∙◌, inl, inr, arith, ◌/◌}
use Rattle.std.specs.Prelude.{count_by}
use Rattle.std.specs.List.{list_all, list_any, AllByRecursion}
use Rattle.std.specs.Option.{option_map}
use Rattle.std.specs.Cmp.Lexicographic.{pointwise}
use Rattle.std.proofs.lemmas.Bool.{cases_Bool, cases_eq, and_parts, and_from, or_from, or_left, or_right, both_ways, eqb-true, ne_eqb, eq-eqb, le-ltb}
use Rattle.index_change.specs.host_base.declared.file_ref.FileRef.{FileRef}
use Rattle.index_change.specs.host_base.FileRefs.{same_reference}
use Rattle.plan_bodies.specs.disk_model.Sectors.{sectors}
use Rattle.plan_bodies.specs.disk_model.Content.{Content, HasSizes}
use Rattle.plan_bodies.specs.disk_model.Writes.{Write}
use Rattle.index_change.specs.record_model.declared.runs.Run.{Run}
use Rattle.index_change.specs.record_model.Records.{Record}
use Rattle.index_change.specs.record_model.Constants.{standard_information, attribute_list, data_type, index_root, index_allocation, bitmap_type, names_index}
use Rattle.index_change.specs.file_tree.declared.link.Link.{Link}
use Rattle.index_change.specs.file_tree.declared.node.Kind.{Kind}
use Rattle.index_change.specs.file_tree.declared.node.Kind.TheVariants.{Directory}
use Rattle.index_change.specs.bit_set.Bits.{bit}
use Rattle.index_change.specs.state_model.declared.geometry.Geometry.{Geometry}
use Rattle.index_change.specs.state_model.declared.stream.Stream.{Stream}
use Rattle.index_change.specs.state_model.Files.{file_at, reference, file_links, links_at, record_links, is_directory_record, info_of}
use Rattle.index_change.specs.state_model.Loads.{Slot, Used, table_slot, table_in, has_cut_index_block}
use Rattle.index_change.specs.state_model.Rules.{first_failing, implies, at_file, same_link, keeps_names, keeps_1, is_directory_with, is_directory_at, keeps_2, is_name_in, is_index, keeps_8}
use Rattle.index_change.specs.state_model.Streams.{stream_of}
use Rattle.index_change.specs.file_tree.Walks.{first_user_record}
use Rattle.index_change.specs.state_model.Trees.{all_links, leads, is_system, is_in_system}
use Rattle.index_change.specs.volume_model.Volumes.{Volume, count_of, file_in, files_by_number, file_stream, bytes_or, is_in_use, record_bits, cluster_bits, table_file, mirror_file, bitmap_file, upcase_file, upper_of}
use Rattle.index_change.specs.volume_model.Indexes.{void_block, index_links, keeps_index}
use Rattle.index_change.specs.volume_model.Nodes.{first_flags, kind_in, data_shown, node_by, some_node, node_at, spare_at, free_clusters}
use Rattle.index_change.specs.volume_model.Owners.{file_runs, volume_runs, uses, keeps_cluster_bit, keeps_record_bit}
use Rattle.index_change.specs.volume_model.Sizes.{keeps_stream, keeps_whole, keeps_untorn, keeps_streams, keeps_sizes}
use Rattle.plan_owners.specs.volume_state.Journals.{entries_name, limits_name, extend_file, entries_flags, file_or_none, journal_file, journal_of_streams, journal_of_file, journal_of, fault_of, some_journal}
use Rattle.plan_owners.specs.volume_state.Rules.{broken_1, broken_3, broken_5, broken_6, broken_9}
use Rattle.plan_owners.specs.volume_state.Trees.{tree_with, tree_of, volume_journal}
use Rattle.plan_owners.specs.stream_laws.Replacing.{FileEdit, OneFileDiffers, with_edits, AreEdits}
use Rattle.plan_owners.specs.stream_laws.Rewrites.{StandsAlone, is_edited, with_files}
use Rattle.plan_owners.specs.stream_laws.Sharing.{StreamKey}
use Rattle.plan_owners.proofs.stream_laws.Changing.{bytes_agree}
use Rattle.plan_owners.proofs.stream_laws.Editing.{length-with_edits, other_file, edited_files}
use Rattle.plan_owners.proofs.stream_laws.Loading.{same_cluster_bits}
use Rattle.plan_owners.proofs.stream_laws.Tabling.{inside_list, no_list_stream}
use Rattle.plan_owners.specs.tree_laws.Changed.{KeepsPlaces, TouchesFiles, KeepsTouched}
use Rattle.plan_owners.specs.tree_laws.Contents.{SameEntries}
use Rattle.plan_owners.specs.stream_laws.Frames.{SameBytesInSome}
use Rattle.plan_owners.specs.tree_laws.Keeping.{PartReplaced, KeepsNames, KeepsDirectory, is_directory_file}
use Rattle.plan_owners.specs.tree_laws.Leaves.{names_there}
use Rattle.plan_owners.specs.tree_laws.Parts.{journal_number}
use Rattle.plan_owners.specs.tree_laws.Planned.{IsInStream, IsInRecord, WritesWithin}
use Rattle.plan_owners.specs.tree_laws.Ways.{IsOutside}
use Rattle.plan_owners.proofs.tree_laws.Agreeing.{no_more_torn, same_upper, kept_sizes, same_journal}
use Rattle.plan_owners.proofs.tree_laws.Ascending.{of_system_kept, own_children, all_by, in_system_kept}
use Rattle.plan_owners.proofs.tree_laws.Changing.{all_but, places_ways}
use Rattle.plan_owners.proofs.tree_laws.Holding.{no_index}
use Rattle.plan_owners.proofs.tree_laws.Keeping.{rules_of, passes_below}
use Rattle.plan_owners.proofs.tree_laws.Listing.{there_elsewhere, index_listed, index_kept_by, index_more}
use Rattle.plan_owners.proofs.tree_laws.Naming.{this_or_other, names_everywhere, file_elsewhere, links_of_all, links_kept}
use Rattle.plan_owners.proofs.tree_laws.Owning.{same_5, same_6}
use Rattle.plan_owners.proofs.tree_laws.Parting.{record_bits_stay, cluster_bits_stay, room_stays, upper_stays, number_stays}
use Rattle.plan_owners.proofs.tree_laws.Planning.{planned_bytes, journal_agrees}
use Rattle.plan_owners.proofs.tree_laws.Ruling.{same_index, same_name_in, same_count, keeps_both}
use Rattle.plan_owners.proofs.tree_laws.Standing.{no_directory_leaf, leaf_journal}
use Rattle.plan_owners.specs.Kinds.{OwnsAs}
use Rattle.plan_owners.specs.States.{Stands}
use Rattle.plan_owners.proofs.Agreed.{table_begins}
use Rattle.plan_owners.proofs.Standing.{file_parts, listed_file, some_file, as_file, rule_4_at}
use Rattle.plan_bodies.specs.Bodies.{NewBody, whole_write, writes_in, content_with}
use Rattle.plan_model.specs.Edits.{IsOwnedIn, WritesFiles, edited, LeadsTo}
use Rattle.plan_model.specs.Informed.{with_info}
use Rattle.plan_model.specs.Made.{is_info_or_root, made_streams, made_edits, MakesFile, HasMade}
use Rattle.plan_model.proofs.Informing.{slot_in_use, marked_in_use, implied}
use Rattle.plan_model.proofs.OneRecord.{OnlySmall, small_data, small_pieces, small_names, small_1, small_4, sizes_from, OwnRecord, own_record, slot_put, uncut, small_alone, small_base, file_slot, small_some}
use Rattle.plan_bodies.proofs.Putting.{none_elsewhere}
use Rattle.plan_model.proofs.Rewriting.{same_runs, same_initialised, same_uses, same_directory}
use Rattle.plan_model.proofs.Stepping.{written_within, files_edited, tree_nodes}

info_or_root : OnlySmall is_info_or_root
info_or_root a anew = elim (cases_Bool (eqb a.head.kind standard_information)) [
  | inl info ↦ inl (eqb-true a.head.kind standard_information info)
  | inr other ↦ inr (eqb-true a.head.kind index_root (sym (ap (λ (t : Bool). t || eqb a.head.kind index_root) other) ∙ anew))
]

none_if : (o : Option Record) → ((q : Record) → o ≡ Some q → ⊥) → o ≡ None
none_if None never = refl
none_if (Some q) never = absurd (never q refl)

-- ---- names

same_units : (xs : List ℕ) → pointwise nat_eq xs xs ≡ true
same_units [] = refl
same_units (x ∷ xs) = and_from _ _ (eq-eqb x x refl) (same_units xs)

from_references : (a b : FileRef) → a.number ≡ b.number → a.seq ≡ b.seq → same_reference a b ≡ true
from_references a b number seq = and_from _ _ (eq-eqb a.number b.number number) (eq-eqb a.seq b.seq seq)

link_itself : (l : Link) → same_link l l ≡ true
link_itself l = and_from _ _ (and_from _ _ (and_from _ _ (from_references l.child l.child refl refl) (from_references l.parent l.parent refl refl)) (eq-eqb l.space l.space refl)) (same_units l.name)

not_reference : (a b : FileRef) → a.number ≢ b.number → same_reference a b ≡ false
not_reference a b differ = ap (λ (t : Bool). t && eqb a.seq b.seq) (ne_eqb a.number b.number differ)

-- ---- a file without clusters, and no directory

plain_streams : (d : Content) (v : Volume) (n : ℕ) (f : Record) → first_user_record ≤ n → is_directory_record f ≡ false → list_all (keeps_stream v.per v.clusters f.attrs) f.attrs ≡ true → keeps_streams d v n f ≡ true
unfolding keeps_streams keeps_whole keeps_untorn
plain_streams d v n f user none sizes =
    let not_0 : eqb n table_file ≡ false = ne_eqb n table_file (λ is. omega arith) in
    let not_1 : eqb n mirror_file ≡ false = ne_eqb n mirror_file (λ is. omega arith) in
    let not_2 : eqb n 2 ≡ false = ne_eqb n 2 (λ is. omega arith) in
    let not_6 : eqb n bitmap_file ≡ false = ne_eqb n bitmap_file (λ is. omega arith) in
    rw (sizes, none, not_0, not_1, not_2, not_6) refl

module _ (c : Content) (g : Geometry) (clusters : ℕ) (v : Volume) (n dir : ℕ) (f r s : Record) (link : Link) (bodies : List NewBody) (sized : HasSizes c) (state : Stands c g clusters v) (k : MakesFile c v n dir f r s link bodies) where
  abbrev d : Content
  d = content_with c bodies

  abbrev writes : List Write
  writes = writes_in bodies

  abbrev edits : List FileEdit
  edits = made_edits n f dir s

  abbrev middle : List (Option Record)
  middle = with_edits (record { number = n; file = Some f } ∷ []) v.files

  abbrev files : List (Option Record)
  files = with_edits edits v.files

  abbrev w : Volume
  w = edited v edits

  abbrev touched : ℕ → Bool
  touched = is_edited edits

  abbrev inside : ℕ → Bool
  inside m = not (eqb m n)

  abbrev streams : StreamKey → Bool
  streams = made_streams dir

  -- ---- the numbers

  dir_below : dir < count_of v
  dir_below = inside_list v.files dir r (some_file v dir r k.file)

  no_file : file_in v n ≡ None
  no_file = none_if (file_in v n) (λ q is. never q is)
    where
      never : (q : Record) → file_in v n ≡ Some q → ⊥
      never q is =
          let parts = file_parts c g clusters v n q state.loaded (some_file v n q is) in
          both_ways (bit (record_bits c v) n) k.clear (marked_in_use c v n (rules_of c v state.kept).rule_7 k.within (slot_in_use c v n parts.base parts.slot))

  apart : n ≢ dir
  apart same = let found : None ≡ Some r = sym no_file ∙ ap (file_in v) same ∙ k.file in absurd cc

  dir_own : OwnRecord c v dir r
  dir_own = own_record c g clusters v dir r state k.file k.lists_none

  distinct : AreEdits (count_of v) edits
  distinct = (k.within, ((λ same. apart (sym same)), tt), (dir_below, tt, tt))

  at_n : touched n ≡ true
  at_n = or_left (eqb n n) _ (eq-eqb n n refl)

  at_dir : touched dir ≡ true
  at_dir = or_right (eqb n dir) _ (or_left (eqb dir dir) false (eq-eqb dir dir refl))

  others_not : (m : ℕ) → m ≢ n → m ≢ dir → touched m ≡ false
  others_not m other more = or_from _ _ (ne_eqb n m (λ same. other (sym same))) (or_from _ _ (ne_eqb dir m (λ same. more (sym same))) refl)

  not_n : (m : ℕ) → touched m ≡ false → m ≢ n
  not_n m is same = both_ways (touched m) is (ap touched same ∙ at_n)

  not_dir : (m : ℕ) → touched m ≡ false → m ≢ dir
  not_dir m is same = both_ways (touched m) is (ap touched same ∙ at_dir)

  here : (P : ℕ → Type 0) → P n → P dir → (m : ℕ) → touched m ≡ true → P m
  here P first second m is = elim (cases_eq m n) [
    | inl same ↦ subst P (sym same) first
    | inr other ↦ elim (cases_eq m dir) [
      | inl same ↦ subst P (sym same) second
      | inr more ↦ absurd (both_ways (touched m) (others_not m other more) is)
    ]
  ]

  left : (P : ℕ → Type 0) → P n → (m : ℕ) → inside m ≡ false → P m
  left P holds m is = elim (cases_eq m n) [
    | inl same ↦ subst P (sym same) holds
    | inr other ↦ absurd (both_ways (inside m) is (ap not (ne_eqb m n other)))
  ]

  -- ---- the files, one replaced and then the other

  first_differs : OneFileDiffers n v.files middle
  first_differs = record {
    count = length-with_edits v.files (record { number = n; file = Some f } ∷ []);
    others = λ m other. other_file v.files (record { number = n; file = Some f } ∷ []) m ((λ same. other (sym same)), tt);
  }

  then_differs : OneFileDiffers dir middle files
  then_differs = record {
    count = length-with_edits middle (record { number = dir; file = Some s } ∷ []);
    others = λ m other. other_file middle (record { number = dir; file = Some s } ∷ []) m ((λ same. other (sym same)), tt);
  }

  count_now : length files ≡ count_of v
  count_now = then_differs.count ∙ first_differs.count

  there : (table_in files n ≡ Some f) × (table_in files dir ≡ Some s)
  there = let both = edited_files v.files edits distinct in (both.0, both.1.0)

  made_in : file_in w n ≡ Some f
  unfolding file_at
  made_in = as_file (table_in files n) f there.0 k.base

  dir_in : file_in w dir ≡ Some s
  unfolding file_at
  dir_in = as_file (table_in files dir) s there.1 (small_base is_info_or_root r s k.values dir_own.base)

  made_middle : file_at (table_in middle) n ≡ Some f
  unfolding file_at
  made_middle = as_file (table_in middle n) f (edited_files v.files (record { number = n; file = Some f } ∷ []) (k.within, tt, tt)).0 k.base

  dir_middle : file_at (table_in middle) dir ≡ Some r
  dir_middle = file_elsewhere (table_in v.files) (table_in middle) n dir first_differs.others (λ same. apart (sym same)) ∙ k.file

  unnamed : links_at (table_in v.files) n ≡ []
  unfolding links_at
  unnamed = ap (file_links n) no_file

  named_middle : links_at (table_in middle) n ≡ link ∷ []
  unfolding links_at
  named_middle = ap (file_links n) made_middle ∙ k.name

  named_now : links_at (table_in files) n ≡ link ∷ []
  unfolding links_at
  named_now = ap (file_links n) made_in ∙ k.name

  dir_named : KeepsNames dir (table_in middle) (table_in files)
  unfolding links_at
  dir_named = ap (file_links dir) dir_in ∙ small_names is_info_or_root info_or_root r s k.values dir ∙ sym (ap (file_links dir) dir_middle)

  all_named : (m : ℕ) → links_at (table_in files) m ≡ links_at (table_in middle) m
  all_named = names_everywhere (table_in middle) (table_in files) dir then_differs.others dir_named

  middle_named : (m : ℕ) → m ≢ n → links_at (table_in middle) m ≡ links_at (table_in v.files) m
  unfolding links_at
  middle_named m other = ap (file_links m) (file_elsewhere (table_in v.files) (table_in middle) n m first_differs.others other)

  dir_kept : KeepsDirectory dir (table_in v.files) (table_in files)
  dir_kept = keeps_both (table_in v.files) (table_in files) dir r s k.file dir_in k.values.seq (same_directory is_info_or_root r s k.values)

  other_files : (m : ℕ) → m ≢ n → m ≢ dir → table_in files m ≡ table_in v.files m
  other_files m other more = then_differs.others m more ∙ first_differs.others m other

  other_file_at : (m : ℕ) → m ≢ n → m ≢ dir → file_at (table_in files) m ≡ file_at (table_in v.files) m
  other_file_at m other more = file_elsewhere (table_in middle) (table_in files) dir m then_differs.others more ∙ file_elsewhere (table_in v.files) (table_in middle) n m first_differs.others other

  directories : (m : ℕ) → m ≢ n → KeepsDirectory m (table_in v.files) (table_in files)
  directories m other = elim (cases_eq m dir) [
    | inl same ↦ subst (λ (x : ℕ). KeepsDirectory x (table_in v.files) (table_in files)) (sym same) dir_kept
    | inr more ↦ λ seq. ap (is_directory_with seq) (other_file_at m other more)
  ]

  places : KeepsPlaces inside (table_in v.files) (table_in files)
  places =
      all_but (table_in v.files) (table_in files) n (no_directory_leaf v n (rules_of c v state.kept).rule_2 (ap is_directory_file no_file)) (λ m other. all_named m ∙ middle_named m other) directories

  touches : TouchesFiles touched inside v.files files
  touches = record {
    count = count_now;
    others = λ m is. other_files m (not_n m is) (not_dir m is);
    places = places;
    within = λ m is. ap not (ne_eqb m n (not_n m is));
  }

  -- ---- the writes

  slot_n : table_slot d v.per v.table n ≡ Used f
  slot_n = slot_put c v n f bodies k.made.block k.made.bytes sized k.whole (table_begins c g clusters v n state k.within) k.made.place k.made.put k.made.reads

  slot_dir : table_slot d v.per v.table dir ≡ Used s
  slot_dir = slot_put c v dir s bodies k.anew.block k.anew.bytes sized k.whole (table_begins c g clusters v dir state dir_below) k.anew.place k.anew.put k.anew.reads

  not_stream : (m kind : ℕ) (name : List ℕ) → kind ≢ bitmap_type → kind ≢ index_allocation → streams (record { file = m; kind = kind; name = name }) ≡ false
  not_stream m kind name one two = ap₂ (λ (a b : Bool). (eqb m table_file && a) || (eqb m dir && b)) (ne_eqb kind bitmap_type one) (ne_eqb kind index_allocation two) ∙ neither (eqb m table_file) (eqb m dir)
    where
      neither : (a b : Bool) → ((a && false) || (b && false)) ≡ false
      neither true true = refl
      neither true false = refl
      neither false true = refl
      neither false false = refl

  not_index : (m : ℕ) → m ≢ dir → streams (record { file = m; kind = index_allocation; name = names_index }) ≡ false
  not_index m other = ap (λ (b : Bool). (eqb m table_file && eqb index_allocation bitmap_type) || (b && eqb index_allocation index_allocation)) (ne_eqb m dir other) ∙ neither (eqb m table_file)
    where
      neither : (a : Bool) → ((a && false) || false) ≡ false
      neither true = refl
      neither false = refl

  as_write : (p : NewBody) → IsOwnedIn streams v p.block ⊎ IsInRecord touched v (whole_write p) → IsInStream streams v (whole_write p) ⊎ IsInRecord touched v (whole_write p) ⊎ LiesFree v (whole_write p).block
  as_write p (inl owned) = inl (record { stream = owned.stream; chosen = owned.chosen; kind = stream_kind owned.stream; number = owned.number; lies = owned.lies })
  as_write p (inr its) = inr (inl its)

  each_write : (more : List NewBody) → AllByRecursion (λ p. IsOwnedIn streams v p.block ⊎ IsInRecord touched v (whole_write p)) more → AllByRecursion (λ x. IsInStream streams v x ⊎ IsInRecord touched v x ⊎ LiesFree v x.block) (writes_in more)
  each_write [] all = tt
  each_write (p ∷ more) all = (as_write p all.0, each_write more all.1)

  alone_n : StandsAlone v.per (Used f)
  alone_n = (no_list_stream f k.no_list, ap (λ (t : Bool). t && has_cut_index_block v.per (stream_of index_allocation names_index f.attrs)) k.no_directory)

  puts : WritesFiles streams c v writes edits
  puts = record {
    distinct = distinct;
    no_table = ((λ same. (let user = k.user in omega arith)), (k.apart.table, tt));
    own = (inr (k.within, k.clear), (inl (r, k.file), tt));
    alone = (
      subst (λ (x : Slot). StandsAlone v.per x) (sym slot_n) alone_n,
      (subst (λ (x : Slot). StandsAlone v.per x) (sym slot_dir) (small_alone is_info_or_root info_or_root r s k.values v.per k.lists_none (uncut c g clusters v dir r state k.file dir_own.below)), tt),
    );
    files = (sym (file_slot d v n f slot_n k.base), (sym (file_slot d v dir s slot_dir (small_base is_info_or_root r s k.values dir_own.base)), tt));
    each = each_write bodies k.each;
    table = not_stream table_file data_type [] (λ e. omega (arith, e)) (λ e. omega (arith, e));
    lists = λ m name. not_stream m attribute_list name (λ e. omega (arith, e)) (λ e. omega (arith, e));
    spares = record {
      sized = sized;
      void = none_elsewhere bodies void_block k.void;
      upcase = not_stream upcase_file data_type [] (λ e. omega (arith, e)) (λ e. omega (arith, e));
      free = λ m low other clear. other;
      indexes = λ m q other is directory. not_index m (not_dir m other);
      shown = λ m q other is shown. not_stream m data_type [] (λ e. omega (arith, e)) (λ e. omega (arith, e));
    };
  }

  within : WritesWithin streams touched c g clusters v writes
  within = written_within streams c g clusters v writes edits state puts

  -- ---- the parts of the volume

  n_apart : (m : ℕ) → m < first_user_record → n ≢ m
  n_apart m low same = let user = k.user in omega arith

  bits_now : record_bits d w ≡ record_bits d v
  bits_now = record_bits_stay d (with_files v middle) files dir then_differs k.apart.table ∙ record_bits_stay d v middle n first_differs (n_apart table_file (omega arith))

  bit_at : (m : ℕ) → m < count_of v → bit (record_bits d w) m ≡ (eqb m n || bit (record_bits c v) m)
  bit_at m low = ap (λ (l : List Bool). bit l m) bits_now ∙ k.marked m low

  set_n : bit (record_bits d w) n ≡ true
  set_n = bit_at n k.within ∙ or_left (eqb n n) _ (eq-eqb n n refl)

  marked_dir : bit (record_bits c v) dir ≡ true
  marked_dir = marked_in_use c v dir (rules_of c v state.kept).rule_7 dir_below (slot_in_use c v dir r dir_own.slot)

  set_dir : bit (record_bits d w) dir ≡ true
  set_dir = bit_at dir dir_below ∙ or_right (eqb dir n) _ marked_dir

  same_data : (m : ℕ) → table_file ≢ m → SameBytesInSome c d v.per (file_stream data_type [] (file_in v m))
  same_data m other =
      bytes_agree c writes v.per (file_stream data_type [] (file_in v m))
      (planned_bytes streams touched c g clusters v writes (record { file = m; kind = data_type; name = [] }) within (not_stream m data_type [] (λ e. omega (arith, e)) (λ e. omega (arith, e))) (λ same. other (ap (λ (x : StreamKey). x.file) same)))

  clusters_same : cluster_bits d v ≡ cluster_bits c v
  clusters_same = same_cluster_bits c d v (same_data bitmap_file (λ e. omega (arith, e)))

  upper_now : upper_of d w ≡ upper_of c v
  upper_now =
      upper_stays d (with_files v middle) files dir then_differs k.apart.upcase ∙ upper_stays d v middle n first_differs (n_apart upcase_file (omega arith))
      ∙ same_upper c d v (same_data upcase_file (λ e. omega (arith, e)))

  parent_number : link.parent.number ≡ dir
  parent_number = ap (λ (x : FileRef). x.number) k.parent

  flags_same : entries_flags s ≡ entries_flags r
  unfolding entries_flags
  flags_same = ap first_flags (small_pieces is_info_or_root info_or_root r s k.values entries_name)

  own_journal : journal_of_file d v.per (file_in w dir) ≡ journal_of_file d v.per (file_at (table_in middle) dir)
  own_journal =
      ap (journal_of_file d v.per) dir_in
      ∙ ap₂ (λ (x : ℕ) (o : Option Stream). journal_of_streams d v.per x o (stream_of data_type entries_name s.attrs)) flags_same (small_data is_info_or_root info_or_root r s k.values limits_name)
      ∙ ap (journal_of_streams d v.per (entries_flags r) (stream_of data_type limits_name r.attrs)) (small_data is_info_or_root info_or_root r s k.values entries_name)
      ∙ sym (ap (journal_of_file d v.per) dir_middle)

  journal_with : (o : Option ℕ) → journal_of_file d v.per (file_or_none w o) ≡ journal_of_file d v.per (file_or_none (with_files v middle) o)
  journal_with None = refl
  journal_with (Some m) =
      this_or_other (λ (x : ℕ). journal_of_file d v.per (file_in w x) ≡ journal_of_file d v.per (file_at (table_in middle) x)) dir m own_journal
      (λ other. ap (journal_of_file d v.per) (file_elsewhere (table_in middle) (table_in files) dir m then_differs.others other))

  outside_old : IsOutside extend_file (links_at (table_in v.files) n)
  outside_old = subst (λ (l : List Link). IsOutside extend_file l) (sym unnamed) tt

  outside_new : IsOutside extend_file (links_at (table_in middle) n)
  outside_new = subst (λ (l : List Link). IsOutside extend_file l) (sym named_middle) ((λ same. k.not_extend (sym parent_number ∙ same)), tt)

  second_journal : journal_of d (upper_of c v) w ≡ journal_of d (upper_of c v) (with_files v middle)
  unfolding journal_of journal_file
  second_journal =
      ap (λ (o : Option ℕ). journal_of_file d v.per (file_or_none w o)) (number_stays (with_files v middle) files (upper_of c v) dir then_differs dir_named) ∙ journal_with (journal_number (upper_of c v) (with_files v middle))

  entries_same : SameEntries c d (upper_of c v) v
  entries_same = journal_agrees streams touched c g clusters v writes within (λ m is. not_stream m data_type entries_name (λ e. omega (arith, e)) (λ e. omega (arith, e)))

  journal_now : journal_of d (upper_of d w) w ≡ journal_of c (upper_of c v) v
  journal_now =
      ap (λ (u : List ℕ). journal_of d u w) upper_now
      ∙ second_journal
      ∙ leaf_journal d v middle (upper_of c v) n first_differs outside_old outside_new
      ∙ same_journal c d v (upper_of c v) entries_same

  none_listed : table_in v.files n ≡ None
  none_listed = none_if (table_in v.files n) (λ q is. (let found : None ≡ Some q = sym no_file ∙ listed_file c g clusters v n q state.loaded is in absurd cc))

  first_clusters : (x : ℕ) → uses (file_runs (table_in middle n)) x ≡ uses (file_runs (table_in v.files n)) x
  first_clusters x =
      ap (λ (o : Option Record). uses (file_runs o) x) (edited_files v.files (record { number = n; file = Some f } ∷ []) (k.within, tt, tt)).0
      ∙ ap (λ (l : List Run). uses l x) k.no_clusters
      ∙ sym (ap (λ (o : Option Record). uses (file_runs o) x) none_listed)

  second_clusters : (x : ℕ) → uses (file_runs (table_in files dir)) x ≡ uses (file_runs (table_in middle dir)) x
  second_clusters x =
      ap (λ (o : Option Record). uses (file_runs o) x) there.1
      ∙ ap (λ (l : List Run). uses l x) (same_uses is_info_or_root r s k.values)
      ∙ sym (ap (λ (o : Option Record). uses (file_runs o) x) (first_differs.others dir (λ same. apart (sym same)) ∙ some_file v dir r k.file))

  -- ---- rule 3 at the directory

  names_dir : same_reference link.parent (reference dir r) ≡ true
  names_dir = from_references link.parent (reference dir r) parent_number (ap (λ (x : FileRef). x.seq) k.parent)

  old_index : (links : List Link) × (index_links c v.per (upper_of c v) r ≡ Some links) × (is_index (upper_of c v) (files_by_number v) (count_of v) (reference dir r) links ≡ true)
  unfolding broken_3
  old_index = index_listed c v (upper_of c v) dir r k.file k.directory (passes_below (keeps_index c v (upper_of c v)) (count_of v) (rules_of c v state.kept).rule_3 dir dir_below)

  old_holds : is_index (upper_of c v) (table_in v.files) (count_of v) (reference dir r) k.old ≡ true
  old_holds =
      let same : Some old_index.0 ≡ Some k.old = sym old_index.1 ∙ k.listed in
      let equal : old_index.0 ≡ k.old = some_same same in
      sym (ap (is_index (upper_of c v) (table_in v.files) (count_of v) (reference dir r)) equal) ∙ old_index.2
    where
      some_same : {xs ys : List Link} → Some xs ≡ Some ys → xs ≡ ys
      some_same e = cc

  one_there : PartReplaced [] (link ∷ []) (names_there (reference dir r) (links_at (table_in v.files) n)) (names_there (reference dir r) (links_at (table_in middle) n))
  one_there = record {
    front = [];
    behind = [];
    was = ap (names_there (reference dir r)) unnamed;
    is = ap (names_there (reference dir r)) named_middle ∙ ap (λ (t : Bool). cond t (link ∷ []) []) names_dir;
  }

  child : link.child.number ≡ n
  child = (subst (λ (l : List Link). AllByRecursion (λ x. x.child.number ≡ n) l) named_middle (own_children (table_in middle) n)).0

  name_middle : is_name_in (table_in middle) (reference dir r) link ≡ true
  unfolding is_name_in
  name_middle = and_from _ _ names_dir (ap (list_any (same_link link)) (ap (links_at (table_in middle)) child ∙ named_middle) ∙ or_left (same_link link link) false (link_itself link))

  middle_holds : is_index (upper_of c v) (table_in middle) (count_of v) (reference dir r) k.new ≡ true
  middle_holds = index_more (upper_of c v) (table_in v.files) (table_in middle) n (count_of v) (reference dir r) link link k.old k.new k.within (there_elsewhere (table_in v.files) (table_in middle) n (reference dir r) first_differs.others) one_there k.put k.rises name_middle old_holds

  index_holds : is_index (upper_of c v) (files_by_number w) (count_of w) (reference dir s) k.new ≡ true
  index_holds =
      let upper = upper_of c v in
      let old = table_in middle in
      let new = table_in files in
      ap (λ (q : ℕ). is_index upper new (length files) (record { number = dir; seq = q }) k.new) k.values.seq
      ∙ ap (λ (x : ℕ). is_index upper new x (reference dir r) k.new) count_now
      ∙ same_index upper old new (count_of v) (reference dir r) k.new (same_name_in old new (reference dir r) all_named) (same_count old new (reference dir r) (count_of v) all_named)
      ∙ middle_holds

  -- ---- the rules

  rule_1_n : keeps_1 (table_in files) n ≡ true
  unfolding keeps_1
  rule_1_n = ap (at_file (λ q. keeps_names n q (record_links n q))) made_in ∙ ap (keeps_names n f) k.name ∙ k.names

  rule_1_dir : keeps_1 (table_in files) dir ≡ true
  unfolding keeps_1 broken_1
  rule_1_dir =
      ap (at_file (λ q. keeps_names dir q (record_links dir q))) dir_in
      ∙ small_1 is_info_or_root info_or_root r s k.values dir
      ∙ sym (ap (at_file (λ q. keeps_names dir q (record_links dir q))) k.file)
      ∙ passes_below (keeps_1 (files_by_number v)) (count_of v) (rules_of c v state.kept).rule_1 dir dir_below

  parent_there : is_directory_at (table_in files) link.parent ≡ true
  unfolding is_directory_at
  parent_there =
      ap (λ (x : FileRef). is_directory_with x.seq (file_at (table_in files) x.number)) k.parent
      ∙ ap (is_directory_with r.head.seq) dir_in
      ∙ and_from _ _ (same_directory is_info_or_root r s k.values ∙ k.directory) (eq-eqb s.head.seq r.head.seq k.values.seq)

  rule_2_n : keeps_2 (table_in files) n ≡ true
  unfolding keeps_2
  rule_2_n = ap (list_all (λ (l : Link). is_directory_at (table_in files) l.parent)) named_now ∙ and_from _ _ parent_there refl

  rule_4_dir : keeps_sizes d w dir ≡ true
  unfolding keeps_sizes
  rule_4_dir =
      let kept : keeps_sizes d v dir ≡ true = kept_sizes c d v dir (no_more_torn c writes) (rule_4_at c g clusters v dir state (omega (arith, dir_below))) in
      let old : keeps_streams d v dir r ≡ true = sym (ap (at_file (keeps_streams d v dir)) k.file) ∙ (and_parts _ _ kept).0 in
      sizes_from d w dir s dir_in k.apart.table k.apart.bitmap (small_4 is_info_or_root info_or_root r s k.values d v w dir refl refl ∙ old)

  rule_5_now : broken_5 w ≡ None
  rule_5_now = same_5 (with_files v middle) files dir then_differs second_clusters ∙ same_5 v middle n first_differs first_clusters ∙ (rules_of c v state.kept).rule_5

  rule_6_now : broken_6 d w ≡ None
  unfolding broken_6
  rule_6_now =
      same_6 d (with_files v middle) files dir then_differs second_clusters k.apart.bitmap
      ∙ same_6 d v middle n first_differs first_clusters (n_apart bitmap_file (omega arith))
      ∙ ap (λ (l : List Bool). first_failing (keeps_cluster_bit l (volume_runs v.files)) v.clusters) clusters_same
      ∙ (rules_of c v state.kept).rule_6

  rule_7_at : (m : ℕ) → bit (record_bits d w) m ≡ true → keeps_record_bit d w m ≡ true
  unfolding keeps_record_bit
  rule_7_at m set = implied (is_in_use d w m) (bit (record_bits d w) m) set

  rule_8_n : keeps_8 (table_in files) (count_of w) n ≡ true
  unfolding keeps_8
  rule_8_n = ap (at_file (λ q. implies (is_directory_record q) (leads (table_in files) (count_of w) n))) made_in ∙ ap (λ (t : Bool). implies t (leads (table_in files) (count_of w) n)) k.no_directory

  rule_9_now : broken_9 d w ≡ None
  unfolding broken_9
  rule_9_now = ap fault_of journal_now ∙ (rules_of c v state.kept).rule_9

  listed_elsewhere : (m : ℕ) (q : Record) → m ≢ dir → names_there (reference m q) (links_at (table_in files) n) ≡ names_there (reference m q) (links_at (table_in v.files) n)
  listed_elsewhere m q other =
      ap (names_there (reference m q)) named_now
      ∙ ap (λ (t : Bool). cond t (link ∷ []) []) (not_reference link.parent (reference m q) (λ same. other (sym same ∙ parent_number)))
      ∙ sym (ap (names_there (reference m q)) unnamed)

  keeps : KeepsTouched touched inside c d v w
  keeps = record {
    upcase = others_not upcase_file (λ same. n_apart upcase_file (omega arith) (sym same)) (λ same. k.apart.upcase (sym same));
    rule_1 = λ m low. here (λ (x : ℕ). keeps_1 (table_in files) x ≡ true) rule_1_n rule_1_dir m;
    rule_2 = λ m low. left (λ (x : ℕ). keeps_2 (table_in files) x ≡ true) rule_2_n m;
    rule_3 = λ m low. here (λ (x : ℕ). keeps_index d w (upper_of c v) x ≡ true) (no_index d w (upper_of c v) n (ap is_directory_file made_in ∙ k.no_directory)) (index_kept_by d w (upper_of c v) dir s k.new dir_in k.lists index_holds) m;
    listed = λ m j q other is directory. left (λ (x : ℕ). names_there (reference m q) (links_at (table_in files) x) ≡ names_there (reference m q) (links_at (table_in v.files) x)) (listed_elsewhere m q (not_dir m other)) j;
    rule_4 = λ m low. here (λ (x : ℕ). keeps_sizes d w x ≡ true) (sizes_from d w n f made_in (n_apart table_file (omega arith)) (n_apart bitmap_file (omega arith)) (plain_streams d w n f k.user k.no_directory k.sizes)) rule_4_dir m;
    rule_5 = rule_5_now;
    rule_6 = rule_6_now;
    rule_7 = λ m low. here (λ (x : ℕ). keeps_record_bit d w x ≡ true) (rule_7_at n set_n) (rule_7_at dir set_dir) m;
    rule_8 = λ m low. left (λ (x : ℕ). keeps_8 (table_in files) (count_of w) x ≡ true) rule_8_n m;
    rule_9 = rule_9_now;
  }

  pub leads_to_made : LeadsTo (is_edited (made_edits n f dir s)) c v (content_with c bodies) g clusters (edited v (made_edits n f dir s))
  leads_to_made = files_edited streams inside c g clusters v writes edits state puts (λ m low other. bit_at m low ∙ ap (λ (t : Bool). t || bit (record_bits c v) m) (ne_eqb m n (not_n m other))) touches keeps

  -- ---- the tree

  made_node : node_at (bytes_or d w.per) w n ≡ Some (node_by (bytes_or d w.per) w n f)
  unfolding node_at
  made_node =
      ap (some_node (bytes_or d w.per) w n) made_in
      ∙ ap (λ (t : Bool). cond t None (Some (node_by (bytes_or d w.per) w n f))) (ap (λ (t : Bool). t && eqb (length (record_links n f)) 0) (le-ltb n first_user_record k.user))

  system_now : is_system (files_by_number w) (count_of w) dir (record_links dir r) ≡ is_system (files_by_number v) (count_of v) dir (record_links dir r)
  unfolding links_at
  system_now =
      let names : links_at (table_in v.files) dir ≡ record_links dir r = ap (file_links dir) k.file in
      let stays : inside dir ≡ true = ap not (ne_eqb dir n (λ same. apart (sym same))) in
      let above = subst (λ (l : List Link). AllByRecursion (λ x. inside x.parent.number ≡ true) l) names (places.above dir stays) in
      ap (λ (x : ℕ). is_system (table_in files) x dir (record_links dir r)) count_now
      ∙ of_system_kept inside (table_in v.files) (table_in files) (count_of v) dir (record_links dir r) (places_ways inside (table_in v.files) (table_in files) places) above

  in_system_now : is_in_system (table_in files) (length files) dir ≡ is_in_system (table_in v.files) (count_of v) dir
  in_system_now =
      let stays : inside dir ≡ true = ap not (ne_eqb dir n (λ same. apart (sym same))) in
      ap (λ (x : ℕ). is_in_system (table_in files) x dir) count_now ∙ in_system_kept inside (table_in v.files) (table_in files) (count_of v) dir (places_ways inside (table_in v.files) (table_in files) places) stays

  or_nothing : (t : Bool) → (t || false) ≡ t
  or_nothing true = refl
  or_nothing false = refl

  made_system : is_system (files_by_number w) (count_of w) n (record_links n f) ≡ is_in_system (files_by_number v) (count_of v) dir
  unfolding is_system
  made_system =
      ap (λ (t : Bool). t || list_any (λ (l : Link). is_in_system (table_in files) (length files) l.parent.number) (record_links n f)) (le-ltb n first_user_record k.user)
      ∙ ap (list_any (λ (l : Link). is_in_system (table_in files) (length files) l.parent.number)) k.name
      ∙ or_nothing (is_in_system (table_in files) (length files) link.parent.number)
      ∙ ap (is_in_system (table_in files) (length files)) parent_number
      ∙ in_system_now

  kind_dir : kind_in v dir r ≡ Directory
  unfolding kind_in
  kind_dir = rw (k.directory) refl

  dir_node : node_at (bytes_or d w.per) w dir ≡ option_map (with_info (info_of s)) (node_at (bytes_or c v.per) v dir)
  unfolding node_at
  dir_node =
      ap (some_node (bytes_or d v.per) w dir) dir_in
      ∙ small_some is_info_or_root info_or_root r s k.values (bytes_or c v.per) (bytes_or d v.per) v w dir system_now
      (ap (λ (x : Kind). bytes_or d v.per (data_shown x r)) kind_dir ∙ sym (ap (λ (x : Kind). bytes_or c v.per (data_shown x r)) kind_dir))
      ∙ sym (ap (λ (o : Option Record). option_map (with_info (info_of s)) (some_node (bytes_or c v.per) v dir o)) k.file)

  all_now : all_links (table_in files) (length files) ≡ all_links (table_in middle) (length middle)
  all_now = links_kept middle files dir then_differs dir_named

  links_now : PartReplaced [] (link ∷ []) (all_links (table_in v.files) (length v.files)) (all_links (table_in files) (length files))
  links_now =
      let parts = links_of_all v.files middle n first_differs in
      record {
        front = parts.front;
        behind = parts.behind;
        was = parts.was ∙ ap (λ (l : List Link). parts.front ++ (l ++ parts.behind)) unnamed;
        is = all_now ∙ parts.is ∙ ap (λ (l : List Link). parts.front ++ (l ++ parts.behind)) named_middle;
      }

  not_spare : (x : Content) (u : Volume) (m : ℕ) → bit (record_bits x u) m ≡ true → spare_at x u m ≡ None
  unfolding spare_at
  not_spare x u m set = rw set refl

  spare_now : (m : ℕ) → m < count_of v → m ≢ n → spare_at d w m ≡ spare_at c v m
  spare_now m low other = elim (cases_eq m dir) [
    | inl same ↦ not_spare d w m (ap (bit (record_bits d w)) same ∙ set_dir) ∙ sym (not_spare c v m (ap (bit (record_bits c v)) same ∙ marked_dir))
    | inr more ↦ leads_to_made.spare m low (others_not m other more)
  ]

  pub has_made : HasMade c v n dir f s link (content_with c bodies) (edited v (made_edits n f dir s))
  unfolding tree_of tree_with volume_journal free_clusters
  has_made = record {
    made = tree_nodes d w n ∙ made_node;
    system = made_system;
    directory = tree_nodes d w dir ∙ dir_node ∙ sym (ap (option_map (with_info (info_of s))) (tree_nodes c v dir));
    others = λ m other more. leads_to_made.nodes m (others_not m other more);
    links = links_now;
    spare = spare_now;
    spare_none = not_spare d w n set_n;
    count = count_now;
    journal = ap some_journal journal_now;
    room = room_stays d (with_files v middle) files dir then_differs k.apart.bitmap ∙ room_stays d v middle n first_differs (n_apart bitmap_file (omega arith)) ∙ ap (count_by not) clusters_same;
  }

  -- ---- as an edit of a plan

  all_clusters : (x : ℕ) → uses (volume_runs files) x ≡ uses (volume_runs v.files) x
  all_clusters x =
      let one = clusters_replaced v.files middle n x first_differs in
      let two = clusters_replaced middle files dir x then_differs in
      let first = first_clusters x in
      let second = second_clusters x in
      omega arith

  none_used : (x kind : ℕ) (name : List ℕ) → uses (runs_in (file_stream kind name (file_in w n))) x ≡ 0
  unfolding uses
  none_used x kind name =
      let part = stream_of_file kind name (file_in w n) x in
      let none : file_uses x (file_in w n) ≡ 0 = ap (file_uses x) made_in ∙ ap (λ (l : List Run). uses l x) k.no_clusters in
      omega arith

  runs_kept : (kind : ℕ) (name : List ℕ) (m : ℕ) → m ≢ n → runs_in (file_stream kind name (file_in w m)) ≡ runs_in (file_stream kind name (file_in v m))
  runs_kept kind name m other = elim (cases_eq m dir) [
    | inl same ↦
        ap (λ (x : ℕ). runs_in (file_stream kind name (file_in w x))) same
        ∙ ap (λ (o : Option Record). runs_in (file_stream kind name o)) dir_in
        ∙ same_runs is_info_or_root r s kind name k.values
        ∙ sym (ap (λ (x : ℕ). runs_in (file_stream kind name (file_in v x))) same ∙ ap (λ (o : Option Record). runs_in (file_stream kind name o)) k.file)
    | inr more ↦ ap (λ (o : Option Record). runs_in (file_stream kind name o)) (other_file_at m other more)
  ]

  sizes_kept : (kind : ℕ) (name : List ℕ) (m : ℕ) → m ≢ n → initialised_in (file_stream kind name (file_in w m)) ≡ initialised_in (file_stream kind name (file_in v m))
  sizes_kept kind name m other = elim (cases_eq m dir) [
    | inl same ↦
        ap (λ (x : ℕ). initialised_in (file_stream kind name (file_in w x))) same
        ∙ ap (λ (o : Option Record). initialised_in (file_stream kind name o)) dir_in
        ∙ same_initialised is_info_or_root r s kind name k.values
        ∙ sym (ap (λ (x : ℕ). initialised_in (file_stream kind name (file_in v x))) same ∙ ap (λ (o : Option Record). initialised_in (file_stream kind name o)) k.file)
    | inr more ↦ ap (λ (o : Option Record). initialised_in (file_stream kind name o)) (other_file_at m other more)
  ]

  not_new : (t : StreamKey) (x : ℕ) → 0 < uses (runs_in (stream_at w t)) x → t.file ≢ n
  not_new t x some same =
      let none : uses (runs_in (stream_at w t)) x ≡ 0 = ap (λ (m : ℕ). uses (runs_in (file_stream t.kind t.name (file_in w m))) x) same ∙ none_used x t.kind t.name in
      omega arith

  owned_as_before : (kind : BlockKind) (x : ℕ) → OwnsAs w kind x → OwnsAs v kind x
  owned_as_before kind x owns = record { stream = owns.stream; is_kind = owns.is_kind; has = subst (λ (l : List Run). 0 < uses l x) (runs_kept owns.stream.kind owns.stream.name owns.stream.file (not_new owns.stream x owns.has)) owns.has }

  in_stream : (b : Block) (owns : Owns w b) → owns.stream.file ≢ n
  in_stream b owns =
      let runs = runs_in (stream_at w owns.stream) in
      let kind = stream_kind owns.stream in
      let l = lies v.per runs kind owns.number b owns.lies in
      let some = has_sectors b.kind in
      let covered = lies_in_cluster v.per runs kind owns.number b l b.first state.some (omega arith) (omega arith) in
      not_new owns.stream (b.first / v.per) (is_used _ runs l.run (b.first / v.per) l.found covered)

  live_as_before : (b : Block) → IsLive w b → IsLive v b
  live_as_before b live =
      let t = live.owned.stream in
      let other = in_stream b live.owned in
      record {
        owned = record { stream = t; number = live.owned.number; lies = sym (ap (λ (l : List Run). block_at v.per l (stream_kind t) live.owned.number) (runs_kept t.kind t.name t.file other)) ∙ live.owned.lies };
        begins = subst (λ (x : ℕ). 512 * (sectors (stream_kind t) * live.owned.number) < x) (sizes_kept t.kind t.name t.file other) live.begins;
      }

  was_owned : (p : NewBody) → IsOwnedIn streams v p.block ⊎ IsInRecord touched v (whole_write p) → Owns v p.block ⊎ Owns w p.block
  was_owned p (inl owned) = inl (record { stream = owned.stream; number = owned.number; lies = owned.lies })
  was_owned p (inr its) = inl (record_owned c g clusters v its.number p.block state its.lies)

  pub goes_on_made : (first : Content) (start : Volume) (gave : ℕ → Option BlockKind) → ((kind : BlockKind) (x : ℕ) → gave x ≡ Some kind → bit (cluster_bits first start) x ≡ false) → GoesOn first start c g clusters v bodies (edited v (made_edits n f dir s)) gave gave
  goes_on_made first start gave clear = record {
    whole = k.whole;
    stands = leads_to_made.stands;
    marks = record {
      cleared = λ x low less. (let same = all_clusters x in absurd (omega arith));
      set = λ x low less. (let same = all_clusters x in absurd (omega arith));
      others = λ x low equal.
          ap (λ (l : List Bool). bit l x) (cluster_bits_stay d (with_files v middle) files dir then_differs k.apart.bitmap ∙ cluster_bits_stay d v middle n first_differs (n_apart bitmap_file (omega arith)) ∙ clusters_same);
    };
    kept = λ kind x given. given;
    takes = λ kind x owns. inl (owned_as_before kind x owns);
    clear = clear;
    touched = all_by (λ p. IsOwnedIn streams v p.block ⊎ IsInRecord touched v (whole_write p)) (λ p. Owns v p.block ⊎ Owns w p.block) was_owned bodies k.each;
    covers = λ x live. inl (live_as_before x live);
  }
