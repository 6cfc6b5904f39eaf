-- A node's times are changed.
use Rattle.std.proofs.Common.{◌≡◌, ◌≢◌, ℕ, ◌*◌, ◌/◌, ◌<◌, Bool, true, false, not, ◌&&◌, ◌||◌, cond, eqb, leb, List, [], ◌∷◌, length, get_or, Option, Some, None, refl, sym, ap, ap₂, subst, ◌∙◌, inl, inr, arith}
use Rattle.std.specs.Prelude.{count_by}
use Rattle.std.specs.Option.{option_map}
use Rattle.std.proofs.lemmas.Bool.{cases_Bool, cases_eq, and_parts, both_ways, or_left, eqb-true, eqb-false, ne_eqb, eq-eqb}
use Rattle.plan_bodies.specs.disk_model.declared.block.Block.{Block}
use Rattle.plan_bodies.specs.disk_model.declared.block.BlockKind.{BlockKind}
use Rattle.plan_bodies.specs.disk_model.declared.block.BlockKind.TheVariants.{FileRec}
use Rattle.plan_bodies.specs.disk_model.Sectors.{sectors}
use Rattle.plan_bodies.specs.disk_model.Content.{Content, HasSizes}
use Rattle.plan_bodies.specs.disk_model.Writes.{Write}
use Rattle.index_change.specs.record_model.Records.{Record}
use Rattle.index_change.specs.record_model.Constants.{standard_information, data_type, index_root, names_index}
use Rattle.index_change.specs.file_tree.declared.link.Link.{Link}
use Rattle.index_change.specs.bit_set.Bits.{bit}
use Rattle.index_change.specs.state_model.declared.geometry.Geometry.{Geometry}
use Rattle.index_change.specs.state_model.declared.stream.Stream.{Stream}
use Rattle.index_change.specs.state_model.Files.{file_at, reference, file_links, links_at, record_links, is_directory_record, info_of}
use Rattle.index_change.specs.state_model.Indexes.{is_names_root}
use Rattle.index_change.specs.state_model.Loads.{Slot, Free, Used, slot_of, slot_at, is_used, whole_record, table_slot, table_in}
use Rattle.index_change.specs.state_model.Rules.{first_failing, implies, at_file, is_directory_with, keeps_names, keeps_1, keeps_2, keeps_8}
use Rattle.index_change.specs.state_model.Trees.{is_system}
use Rattle.index_change.specs.volume_model.Volumes.{Volume, count_of, file_in, files_by_number, bytes_or, block_bytes, record_bytes, record_block, is_in_use, file_stream, cluster_bitmap, record_bits, cluster_bits, table_file, bitmap_file, upcase_file, upper_of}
use Rattle.index_change.specs.volume_model.Indexes.{index_place, index_links, index_stream, stream_blocks, links_below, lists_names, keeps_index}
use Rattle.index_change.specs.volume_model.Nodes.{first_flags, kind_in, data_shown, some_node, node_at, free_clusters}
use Rattle.index_change.specs.volume_model.Owners.{file_runs, volume_runs, uses, keeps_cluster_bit, keeps_record_bit}
use Rattle.index_change.specs.volume_model.Sizes.{keeps_streams, keeps_sizes}
use Rattle.plan_owners.specs.volume_state.Journals.{entries_name, limits_name, entries_flags, file_or_none, journal_file, journal_of_streams, journal_of_file, journal_of, fault_of, some_journal}
use Rattle.plan_owners.specs.volume_state.Rules.{broken_1, broken_3, broken_6, broken_7, broken_9}
use Rattle.plan_owners.specs.volume_state.Trees.{tree_with, tree_of, volume_journal}
use Rattle.index_change.specs.index_model.Indexes.{Place}
use Rattle.plan_owners.specs.stream_laws.Replacing.{FileEdit, OneFileDiffers, with_edits}
use Rattle.plan_owners.specs.stream_laws.Rewrites.{StandsAlone, is_edited}
use Rattle.plan_owners.specs.stream_laws.Owners.{initialised_in}
use Rattle.plan_owners.specs.stream_laws.Sharing.{StreamKey, runs_in}
use Rattle.plan_owners.proofs.stream_laws.Replacing.{clusters_replaced}
use Rattle.plan_model.specs.Drafts.{KeepsExtents, GoesOn}
use Rattle.plan_model.proofs.Quiet.{owns_as_before, live_before, record_owned}
use Rattle.plan_owners.specs.stream_laws.Tables.{table_key}
use Rattle.index_change.specs.record_model.declared.runs.Run.{Run}
use Rattle.index_change.specs.state_model.Files.{is_base_record}
use Rattle.index_change.specs.state_model.Streams.{stream_of, block_at}
use Rattle.plan_owners.proofs.stream_laws.Editing.{length-with_edits, other_file, edited_files}
use Rattle.plan_owners.proofs.stream_laws.Framing.{same_links, same_file}
use Rattle.plan_owners.proofs.stream_laws.Placing.{lies}
use Rattle.plan_owners.proofs.stream_laws.Loading.{same_cluster_bits, same_record_bits}
use Rattle.plan_owners.proofs.stream_laws.Tabling.{inside_list, read_in_use}
use Rattle.plan_owners.specs.tree_laws.Changed.{TouchesFiles, KeepsTouched}
use Rattle.plan_owners.specs.tree_laws.Contents.{AgreeBut}
use Rattle.plan_owners.specs.tree_laws.Keeping.{KeepsNames, KeepsDirectory}
use Rattle.plan_owners.specs.tree_laws.Leaves.{names_there}
use Rattle.plan_owners.specs.tree_laws.Parts.{journal_number}
use Rattle.plan_owners.specs.tree_laws.Planned.{WritesWithin, SparesOthers}
use Rattle.plan_owners.proofs.tree_laws.Agreeing.{same_upper, kept_sizes, same_journal, same_spares}
use Rattle.plan_owners.proofs.tree_laws.Changing.{all_keep}
use Rattle.plan_owners.proofs.tree_laws.Climbing.{system_everywhere}
use Rattle.plan_owners.proofs.tree_laws.Keeping.{rules_of, passes_below}
use Rattle.plan_owners.proofs.tree_laws.Naming.{this_or_other, names_everywhere, file_elsewhere, links_kept}
use Rattle.plan_owners.proofs.tree_laws.Owning.{same_5, same_6}
use Rattle.plan_owners.proofs.tree_laws.Parting.{record_bits_stay, cluster_bits_stay, spare_stay, room_stays, upper_stays, number_stays}
use Rattle.plan_owners.proofs.tree_laws.Planning.{planned_agree, planned_bytes, same_index_at, same_shown_at}
use Rattle.plan_owners.proofs.stream_laws.Changing.{bytes_agree}
use Rattle.plan_owners.proofs.tree_laws.Ruling.{same_listed, same_name_in, same_count, keeps_both, rule_7}
use Rattle.plan_owners.specs.States.{Stands}
use Rattle.plan_owners.proofs.Standing.{some_file, as_file, rule_4_at}
use Rattle.plan_model.specs.Attributes.{RewritesValues, SparesAll}
use Rattle.plan_bodies.specs.Bodies.{NewBody, content_with, writes_in, AreBodies, body_in}
use Rattle.plan_model.specs.Edits.{WritesFiles, LeadsTo}
use Rattle.plan_model.specs.Informed.{is_info, IsApart, PutsRecord, with_record, with_info, InfoDiffers}
use Rattle.plan_model.proofs.OneRecord.{OnlySmall, small_data, small_pieces, small_blocks, small_names, small_1, small_4, sizes_from, OwnRecord, own_record, slot_begins, slot_put, uncut, small_alone, small_base, file_slot, void_elsewhere, small_some}
use Rattle.plan_bodies.proofs.Putting.{block_itself}
use Rattle.plan_model.proofs.Rewriting.{same_runs, same_initialised, same_uses, same_directory, same_root}
use Rattle.plan_model.proofs.Stepping.{written_within, files_edited, tree_nodes}

only_info : OnlySmall is_info
only_info a anew = inl (eqb-true a.head.kind standard_information anew)

left_of : (s t : Bool) → (s && t) ≡ true → s ≡ true
left_of true t e = refl
left_of false t e = e

no_root : SparesAll is_info is_names_root
unfolding is_names_root
no_root a is = elim (cases_Bool (is_info a)) [
  | inl info ↦ (let one = eqb-true a.head.kind standard_information info in let two = eqb-true a.head.kind index_root (left_of (eqb a.head.kind index_root) _ is) in absurd (omega (arith, one, two)))
  | inr other ↦ other
]

-- ---- a record in use

used_body : (t : Bool) (c : Content) (o : Option Block) (r : Record) → cond t Free (slot_at c o) ≡ Used r → is_used (block_bytes c (cond t None o)) ≡ true
unfolding slot_of
used_body true c o r is = absurd cc
used_body false c None r is = absurd cc
used_body false c (Some b) r is = (read_in_use (c b).torn (is_used (c b).bytes) (whole_record (c b).bytes) r is).1

pub slot_in_use : (c : Content) (v : Volume) (n : ℕ) (r : Record) → table_slot c v.per v.table n ≡ Used r → is_in_use c v n ≡ true
unfolding is_in_use record_bytes record_block table_slot
slot_in_use c v n r is = used_body (leb v.table.initialised (1024 * n)) c (block_at v.per v.table.runs FileRec n) r is

asked : (a b : Bool) → a ≡ true → implies a b ≡ true → b ≡ true
asked true b is kept = kept
asked false b is kept = absurd cc

pub marked_in_use : (c : Content) (v : Volume) (n : ℕ) → broken_7 c v ≡ None → n < count_of v → is_in_use c v n ≡ true → bit (record_bits c v) n ≡ true
unfolding broken_7 keeps_record_bit
marked_in_use c v n none below in_use = asked (is_in_use c v n) (bit (record_bits c v) n) in_use (passes_below (keeps_record_bit c v) (count_of v) none n below)

pub implied : (a b : Bool) → b ≡ true → implies a b ≡ true
implied true b is = is
implied false b is = refl

abbrev no_streams : StreamKey → Bool
no_streams s = false

module _ (c : Content) (g : Geometry) (clusters : ℕ) (v : Volume) (n : ℕ) (r s : Record) (b : NewBody) (sized : HasSizes c) (state : Stands c g clusters v) (apart : IsApart n) (p : PutsRecord v n r s b) (k : RewritesValues is_info r s) where
  abbrev d : Content
  d = content_with c (b ∷ [])

  abbrev writes : List Write
  writes = writes_in (b ∷ [])

  abbrev edits : List FileEdit
  edits = record { number = n; file = Some s } ∷ []

  abbrev files : List (Option Record)
  files = with_edits edits v.files

  abbrev w : Volume
  w = with_record v n s

  abbrev touched : ℕ → Bool
  touched = is_edited edits

  abbrev inside : ℕ → Bool
  inside m = true

  below : n < count_of v
  below = inside_list v.files n r (some_file v n r p.file)

  own : OwnRecord c v n r
  own = own_record c g clusters v n r state p.file p.no_list

  bodies : AreBodies (b ∷ [])
  bodies = record { whole = (p.size ∙ ap (λ (x : BlockKind). 512 * sectors x) (lies v.per v.table.runs FileRec n b.block p.place).kind_is, tt); own = (tt, tt) }

  same_itself : body_in (b ∷ []) b.block ≡ Some b.bytes
  same_itself = ap (λ (t : Bool). cond t (Some b.bytes) None) (block_itself b.block)

  slot : table_slot d v.per v.table n ≡ Used s
  slot = slot_put c v n s (b ∷ []) b.block b.bytes sized bodies (slot_begins c v n r own.slot) p.place same_itself p.reads

  base : is_base_record s ≡ true
  base = small_base is_info r s k own.base

  -- ---- which files are touched

  at_own : touched n ≡ true
  at_own = or_left (eqb n n) false (eq-eqb n n refl)

  others_not : (m : ℕ) → m ≢ n → touched m ≡ false
  others_not m other = ap (λ (t : Bool). t || false) (ne_eqb n m (λ same. other (sym same)))

  not_other : (m : ℕ) → touched m ≡ false → m ≢ n
  not_other m is same = both_ways (touched m) is (ap touched same ∙ at_own)

  here : (P : ℕ → Type 0) → P n → (m : ℕ) → touched m ≡ true → P m
  here P holds m is = elim (cases_eq m n) [
    | inl same ↦ subst P (sym same) holds
    | inr other ↦ absurd (both_ways (touched m) (others_not m other) is)
  ]

  differs : OneFileDiffers n v.files files
  differs = record {
    count = length-with_edits v.files edits;
    others = λ m other. other_file v.files edits m ((λ same. other (sym same)), tt);
  }

  at_n : file_in w n ≡ Some s
  unfolding file_at
  at_n = as_file (get_or (with_edits edits v.files) n None) s (edited_files v.files edits (below, tt, tt)).0 base

  names : KeepsNames n (table_in v.files) (table_in files)
  unfolding links_at
  names = ap (file_links n) at_n ∙ small_names is_info only_info r s k n ∙ sym (ap (file_links n) p.file)

  all_named : (m : ℕ) → links_at (table_in files) m ≡ links_at (table_in v.files) m
  all_named = names_everywhere (table_in v.files) (table_in files) n differs.others names

  directories : (m : ℕ) → KeepsDirectory m (table_in v.files) (table_in files)
  directories m seq =
      let old = table_in v.files in
      let new = table_in files in
      this_or_other (λ (x : ℕ). is_directory_with seq (file_at new x) ≡ is_directory_with seq (file_at old x)) n m
      (keeps_both old new n r s p.file at_n k.seq (same_directory is_info r s k) seq)
      (λ other. ap (is_directory_with seq) (file_elsewhere old new n m differs.others other))

  touches : TouchesFiles touched inside v.files files
  touches = record {
    count = differs.count;
    others = λ m is. differs.others m (not_other m is);
    places = all_keep (table_in v.files) (table_in files) all_named directories;
    within = λ m is. refl;
  }

  -- ---- the writes

  puts : WritesFiles no_streams c v writes edits
  puts = record {
    distinct = (below, tt, tt);
    no_table = (apart.table, tt);
    own = (inl (r, p.file), tt);
    alone = (subst (λ (x : Slot). StandsAlone v.per x) (sym slot) (small_alone is_info only_info r s k v.per p.no_list (uncut c g clusters v n r state p.file own.below)), tt);
    files = (sym (file_slot d v n s slot base), tt);
    each = (inr (inl (record { number = n; chosen = at_own; lies = p.place })), tt);
    table = refl;
    lists = λ m name. refl;
    spares = record {
      sized = sized;
      void = (void_elsewhere v n b p.place, tt);
      upcase = refl;
      free = λ m low other clear. other;
      indexes = λ m q other is directory. refl;
      shown = λ m q other is shown. refl;
    };
  }

  within : WritesWithin no_streams touched c g clusters v writes
  within = written_within no_streams c g clusters v writes edits state puts

  marked : bit (record_bits c v) n ≡ true
  marked = marked_in_use c v n (rules_of c v state.kept).rule_7 below (slot_in_use c v n r own.slot)

  -- no other record is written to, whether or not it is marked
  all_spared : SparesOthers (λ m. false) no_streams touched c v writes
  all_spared = record {
    sized = sized;
    void = (void_elsewhere v n b p.place, tt);
    upcase = refl;
    free = λ m low other clear. others_not m (λ same. both_ways (bit (record_bits c v) m) clear (ap (bit (record_bits c v)) same ∙ marked));
    indexes = λ m q other is directory. refl;
    shown = λ m q other is shown. refl;
  }

  agree : AgreeBut n c d v
  agree = planned_agree n no_streams touched c g clusters v writes within (record {
    sized = sized;
    void = (void_elsewhere v n b p.place, tt);
    upcase = refl;
    free = λ m low other clear. others_not m (eqb-false m n other);
    indexes = λ m q other is directory. refl;
    shown = λ m q other is shown. refl;
  }) marked refl (λ m is. refl)

  -- ---- the parts of the volume

  upper_now : upper_of d w ≡ upper_of c v
  upper_now = upper_stays d v files n differs apart.upcase ∙ same_upper c d v agree.upper

  bits_now : record_bits d w ≡ record_bits c v
  bits_now = record_bits_stay d v files n differs apart.table ∙ same_record_bits c d v agree.bits

  clusters_same : cluster_bits d v ≡ cluster_bits c v
  clusters_same =
      same_cluster_bits c d v
      (bytes_agree c writes v.per (cluster_bitmap v)
      (planned_bytes no_streams touched c g clusters v writes (record { file = bitmap_file; kind = data_type; name = [] }) within refl (λ same. table_apart same)))
    where
      table_apart : table_key ≡ record { file = bitmap_file; kind = data_type; name = [] } → ⊥
      table_apart same = let files_differ : table_file ≡ bitmap_file = ap (λ (x : StreamKey). x.file) same in omega (arith, files_differ)

  flags_same : entries_flags s ≡ entries_flags r
  unfolding entries_flags
  flags_same = ap first_flags (small_pieces is_info only_info r s k entries_name)

  journal_with : (o : Option ℕ) → journal_of_file d w.per (file_or_none w o) ≡ journal_of_file d v.per (file_or_none v o)
  journal_with None = refl
  journal_with (Some m) =
      this_or_other (λ (x : ℕ). journal_of_file d v.per (file_in w x) ≡ journal_of_file d v.per (file_in v x)) n m own_journal
      (λ other. ap (journal_of_file d v.per) (file_elsewhere (table_in v.files) (table_in files) n m differs.others other))
    where
      own_journal : journal_of_file d v.per (file_in w n) ≡ journal_of_file d v.per (file_in v n)
      own_journal =
          ap (journal_of_file d v.per) at_n
          ∙ ap₂ (λ (f : ℕ) (o : Option Stream). journal_of_streams d v.per f o (stream_of data_type entries_name s.attrs)) flags_same (small_data is_info only_info r s k limits_name)
          ∙ ap (journal_of_streams d v.per (entries_flags r) (stream_of data_type limits_name r.attrs)) (small_data is_info only_info r s k entries_name)
          ∙ sym (ap (journal_of_file d v.per) p.file)

  journal_now : journal_of d (upper_of d w) w ≡ journal_of c (upper_of c v) v
  unfolding journal_of journal_file
  journal_now =
      ap (λ (u : List ℕ). journal_of d u w) upper_now
      ∙ ap (λ (o : Option ℕ). journal_of_file d w.per (file_or_none w o)) (number_stays v files (upper_of c v) n differs names)
      ∙ journal_with (journal_number (upper_of c v) v)
      ∙ same_journal c d v (upper_of c v) agree.journal

  same_clusters : (x : ℕ) → uses (file_runs (table_in files n)) x ≡ uses (file_runs (table_in v.files n)) x
  same_clusters x =
      ap (λ (o : Option Record). uses (file_runs o) x) (edited_files v.files edits (below, tt, tt)).0
      ∙ ap (λ (l : List Run). uses l x) (same_uses is_info r s k)
      ∙ sym (ap (λ (o : Option Record). uses (file_runs o) x) (some_file v n r p.file))

  index_now : is_directory_record r ≡ true → index_links d v.per (upper_of c v) s ≡ index_links c v.per (upper_of c v) r
  unfolding index_links index_place index_stream
  index_now directory =
      let place : Option Stream → Place = λ o. record { blocks = stream_blocks v.per o; step = 8 / v.per } in
      ap₂ (λ (o : Option Stream) (x : Option (List ℕ)). links_below d (place o) (upper_of c v) x) (small_blocks is_info only_info r s k names_index) (same_root is_info r s k no_root)
      ∙ same_links c d v.per (upper_of c v) r (same_index_at (λ m. false) no_streams touched c g clusters v writes within all_spared n refl r p.file directory)

  -- ---- the rules

  old_1 : keeps_names n r (record_links n r) ≡ true
  unfolding broken_1 keeps_1
  old_1 = sym (ap (at_file (λ q. keeps_names n q (record_links n q))) p.file) ∙ passes_below (keeps_1 (files_by_number v)) (count_of v) (rules_of c v state.kept).rule_1 n below

  new_1 : keeps_1 (table_in files) n ≡ true
  unfolding keeps_1
  new_1 = ap (at_file (λ q. keeps_names n q (record_links n q))) at_n ∙ small_1 is_info only_info r s k n ∙ old_1

  index_test : Content → Volume → Record → Bool
  index_test x u q = implies (is_directory_record q) (lists_names (upper_of c v) (files_by_number u) (count_of u) (reference n q) (index_links x u.per (upper_of c v) q))

  old_3 : index_test c v r ≡ true
  unfolding broken_3 keeps_index index_test
  old_3 = sym (ap (at_file (index_test c v)) p.file) ∙ passes_below (keeps_index c v (upper_of c v)) (count_of v) (rules_of c v state.kept).rule_3 n below

  listed_now : is_directory_record r ≡ true
      → lists_names (upper_of c v) (files_by_number w) (count_of w) (reference n s) (index_links d w.per (upper_of c v) s) ≡ lists_names (upper_of c v) (files_by_number v) (count_of v) (reference n r) (index_links c v.per (upper_of c v) r)
  listed_now directory =
      let upper = upper_of c v in
      let old = table_in v.files in
      let new = table_in files in
      ap (λ (q : ℕ). lists_names upper new (length files) (record { number = n; seq = q }) (index_links d v.per upper s)) k.seq
      ∙ ap (λ (o : Option (List Link)). lists_names upper new (length files) (reference n r) o) (index_now directory)
      ∙ ap (λ (x : ℕ). lists_names upper new x (reference n r) (index_links c v.per upper r)) differs.count
      ∙ same_listed upper old new (count_of v) (reference n r) (index_links c v.per upper r) (same_name_in old new (reference n r) all_named) (same_count old new (reference n r) (count_of v) all_named)

  new_3 : keeps_index d w (upper_of c v) n ≡ true
  unfolding keeps_index index_test
  new_3 = ap (at_file (index_test d w)) at_n ∙ elim (cases_Bool (is_directory_record r)) [
    | inl directory ↦
        ap₂ implies (same_directory is_info r s k) (listed_now directory) ∙ old_3
    | inr none ↦ ap (λ (t : Bool). implies t (lists_names (upper_of c v) (files_by_number w) (count_of w) (reference n s) (index_links d w.per (upper_of c v) s))) (same_directory is_info r s k ∙ none)
  ]

  new_4 : keeps_sizes d w n ≡ true
  unfolding keeps_sizes
  new_4 =
      let kept : keeps_sizes d v n ≡ true = kept_sizes c d v n agree.torn (rule_4_at c g clusters v n state (omega (arith, below))) in
      let streams : keeps_streams d v n r ≡ true = sym (ap (at_file (keeps_streams d v n)) p.file) ∙ (and_parts _ _ kept).0 in
      sizes_from d w n s at_n apart.table apart.bitmap (small_4 is_info only_info r s k d v w n refl refl ∙ streams)

  new_6 : broken_6 d w ≡ None
  unfolding broken_6
  new_6 =
      same_6 d v files n differs same_clusters apart.bitmap
      ∙ ap (λ (l : List Bool). first_failing (keeps_cluster_bit l (volume_runs v.files)) v.clusters) clusters_same
      ∙ (rules_of c v state.kept).rule_6

  new_7 : keeps_record_bit d w n ≡ true
  unfolding keeps_record_bit
  new_7 =
      rule_7 d v files n n differs apart.table
      ∙ implied (is_in_use d v n) (bit (record_bits d v) n) (ap (λ (l : List Bool). bit l n) (same_record_bits c d v agree.bits) ∙ marked)

  new_9 : broken_9 d w ≡ None
  unfolding broken_9
  new_9 = ap fault_of journal_now ∙ (rules_of c v state.kept).rule_9

  outside : (P : Type 0) (m : ℕ) → inside m ≡ false → P
  outside P m is = absurd cc

  keeps : KeepsTouched touched inside c d v w
  keeps = record {
    upcase = others_not upcase_file (λ same. apart.upcase (sym same));
    rule_1 = λ m low. here (λ (x : ℕ). keeps_1 (table_in files) x ≡ true) new_1 m;
    rule_2 = λ m low. outside (keeps_2 (table_in files) m ≡ true) m;
    rule_3 = λ m low. here (λ (x : ℕ). keeps_index d w (upper_of c v) x ≡ true) new_3 m;
    listed = λ m j q other is directory. outside (names_there (reference m q) (links_at (table_in files) j) ≡ names_there (reference m q) (links_at (table_in v.files) j)) j;
    rule_4 = λ m low. here (λ (x : ℕ). keeps_sizes d w x ≡ true) new_4 m;
    rule_5 = same_5 v files n differs same_clusters ∙ (rules_of c v state.kept).rule_5;
    rule_6 = new_6;
    rule_7 = λ m low. here (λ (x : ℕ). keeps_record_bit d w x ≡ true) new_7 m;
    rule_8 = λ m low. outside (keeps_8 (table_in files) (count_of w) m ≡ true) m;
    rule_9 = new_9;
  }

  pub leads_to : LeadsTo (is_edited (record { number = n; file = Some s } ∷ [])) c v (content_with c (b ∷ [])) g clusters (with_record v n s)
  leads_to = files_edited no_streams inside c g clusters v writes edits state puts (λ m low other. ap (λ (l : List Bool). bit l m) bits_now) touches keeps

  -- ---- the tree

  system_now : is_system (files_by_number w) (count_of w) n (record_links n r) ≡ is_system (files_by_number v) (count_of v) n (record_links n r)
  system_now =
      ap (λ (x : ℕ). is_system (table_in files) x n (record_links n r)) differs.count ∙ system_everywhere (table_in v.files) (table_in files) n (count_of v) n (record_links n r) differs.others names

  node_now : node_at (bytes_or d w.per) w n ≡ option_map (with_info (info_of s)) (node_at (bytes_or c v.per) v n)
  unfolding node_at
  node_now =
      ap (some_node (bytes_or d v.per) w n) at_n
      ∙ small_some is_info only_info r s k (bytes_or c v.per) (bytes_or d v.per) v w n system_now (same_file c d v.per (data_shown (kind_in v n r) r) (same_shown_at (λ m. false) no_streams touched c g clusters v writes within all_spared n refl r p.file))
      ∙ sym (ap (λ (o : Option Record). option_map (with_info (info_of s)) (some_node (bytes_or c v.per) v n o)) p.file)

  pub tree_differs : InfoDiffers n (info_of s) (tree_of c v) (tree_of (content_with c (b ∷ [])) (with_record v n s))
  unfolding tree_of tree_with volume_journal free_clusters
  tree_differs = record {
    node = tree_nodes d w n ∙ node_now ∙ sym (ap (option_map (with_info (info_of s))) (tree_nodes c v n));
    others = λ m other. leads_to.nodes m (others_not m other);
    links = links_kept v.files files n differs names;
    spare = spare_stay d v files n differs apart.table ∙ same_spares c d v agree.bits agree.free;
    count = differs.count;
    journal = ap some_journal journal_now;
    room = room_stays d v files n differs apart.bitmap ∙ ap (count_by not) clusters_same;
  }

  -- ---- as an edit of a plan

  with_same : (kind : ℕ) (name : List ℕ) (m : ℕ) → runs_in (file_stream kind name (file_in w m)) ≡ runs_in (file_stream kind name (file_in v m))
  with_same kind name m =
      this_or_other (λ (x : ℕ). runs_in (file_stream kind name (file_in w x)) ≡ runs_in (file_stream kind name (file_in v x))) n m
      (ap (λ (o : Option Record). runs_in (file_stream kind name o)) at_n ∙ same_runs is_info r s kind name k ∙ sym (ap (λ (o : Option Record). runs_in (file_stream kind name o)) p.file))
      (λ other. ap (λ (o : Option Record). runs_in (file_stream kind name o)) (file_elsewhere (table_in v.files) (table_in files) n m differs.others other))

  sizes_same : (kind : ℕ) (name : List ℕ) (m : ℕ) → initialised_in (file_stream kind name (file_in w m)) ≡ initialised_in (file_stream kind name (file_in v m))
  sizes_same kind name m =
      this_or_other (λ (x : ℕ). initialised_in (file_stream kind name (file_in w x)) ≡ initialised_in (file_stream kind name (file_in v x))) n m
      (ap (λ (o : Option Record). initialised_in (file_stream kind name o)) at_n ∙ same_initialised is_info r s kind name k ∙ sym (ap (λ (o : Option Record). initialised_in (file_stream kind name o)) p.file))
      (λ other. ap (λ (o : Option Record). initialised_in (file_stream kind name o)) (file_elsewhere (table_in v.files) (table_in files) n m differs.others other))

  extents_kept : KeepsExtents v w
  extents_kept = record { per = refl; runs = λ t. with_same t.kind t.name t.file; sizes = λ t. sizes_same t.kind t.name t.file }

  all_clusters : (x : ℕ) → uses (volume_runs files) x ≡ uses (volume_runs v.files) x
  all_clusters x = let sum = clusters_replaced v.files files n x differs in let same = same_clusters x in omega arith

  pub goes_on_informed : (first : Content) (start : Volume) (gave : ℕ → Option BlockKind) → ((kind : BlockKind) (x : ℕ) → gave x ≡ Some kind → bit (cluster_bits first start) x ≡ false) → GoesOn first start c g clusters v (b ∷ []) (with_record v n s) gave gave
  goes_on_informed first start gave clear = record {
    whole = bodies;
    stands = leads_to.stands;
    marks = record {
      cleared = λ x low less. (let same = all_clusters x in absurd (omega arith));
      set = λ x low less. (let same = all_clusters x in absurd (omega arith));
      others = λ x low equal. ap (λ (l : List Bool). bit l x) (cluster_bits_stay d v files n differs apart.bitmap ∙ clusters_same);
    };
    kept = λ kind x given. given;
    takes = λ kind x owns. inl (owns_as_before v w extents_kept kind x owns);
    clear = clear;
    touched = (inl (record_owned c g clusters v n b.block state p.place), tt);
    covers = λ x live. inl (live_before v w extents_kept x live);
  }

pub times_go_on : (c : Content) (v : Volume) (d : Content) (g : Geometry) (clusters : ℕ) (w : Volume) (n : ℕ) (r s : Record) (p : NewBody) (gave : ℕ → Option BlockKind) → HasSizes d → Stands d g clusters w → IsApart n → PutsRecord w n r s p
    → RewritesValues is_info r s → ((kind : BlockKind) (x : ℕ) → gave x ≡ Some kind → bit (cluster_bits c v) x ≡ false) → GoesOn c v d g clusters w (p ∷ []) (with_record w n s) gave gave
times_go_on c v d g clusters w n r s p gave sized state apart puts_it k clear = goes_on_informed d g clusters w n r s p sized state apart puts_it k c v gave clear
