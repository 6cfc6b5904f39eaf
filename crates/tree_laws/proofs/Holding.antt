-- The tree of a volume where a user's file that is no directory is replaced.
use Rattle.std.proofs.Common.{◌≡◌, ◌≢◌, ℕ, ◌<◌, Bool, true, false, not, eqb, List, length, Option, Some, None, refl, sym, ap, subst, ◌∙◌, arith}
use Rattle.std.specs.Prelude.{count_by}
use Rattle.std.proofs.lemmas.Bool.{eqb-true, eqb-false, ne_eqb}
use Rattle.volume_state.specs.disk_model.Content.{Content}
use Rattle.volume_state.specs.record_model.Records.{Record}
use Rattle.volume_state.specs.file_tree.declared.tree.Tree.{Tree}
use Rattle.volume_state.specs.bit_set.Bits.{bit}
use Rattle.volume_state.specs.state_model.Files.{file_at, links_at, reference, is_directory_record}
use Rattle.volume_state.specs.state_model.Loads.{table_in}
use Rattle.volume_state.specs.state_model.Rules.{implies, at_file, is_directory_with, keeps_1, keeps_2, keeps_8}
use Rattle.volume_state.specs.volume_model.Volumes.{Volume, count_of, file_in, files_by_number, bytes_or, cluster_bitmap, record_bits, table_file, bitmap_file, upcase_file, upper_of}
use Rattle.volume_state.specs.volume_model.Nodes.{node_at, free_clusters}
use Rattle.volume_state.specs.volume_model.Indexes.{index_links, lists_names, keeps_index}
use Rattle.volume_state.specs.volume_model.Sizes.{keeps_sizes}
use Rattle.volume_state.specs.volume_model.Owners.{keeps_record_bit}
use Rattle.volume_state.specs.Journals.{journal_of, fault_of, some_journal}
use Rattle.volume_state.specs.Rules.{broken_7, broken_9}
use Rattle.volume_state.specs.Trees.{Holds, volume_journal, tree_with, tree_of}
use Rattle.stream_laws.specs.Frames.{SameBytesInSome}
use Rattle.stream_laws.specs.Rewrites.{with_files}
use Rattle.stream_laws.proofs.Loading.{same_cluster_bits, same_record_bits}
use Rattle.tree_laws.specs.Keeping.{KeepsDirectory, is_directory_file}
use Rattle.tree_laws.specs.Contents.{AgreeBut}
use Rattle.tree_laws.specs.Leaves.{names_there}
use Rattle.tree_laws.specs.Trees.{ReplacesFile, NodeDiffers}
use Rattle.tree_laws.specs.Changed.{TouchesFiles, AgreesElsewhere, KeepsTouched}
use Rattle.tree_laws.proofs.Naming.{this_or_other, names_everywhere, file_elsewhere, links_kept}
use Rattle.tree_laws.proofs.Climbing.{node_elsewhere, nodes_by_others}
use Rattle.tree_laws.proofs.Ruling.{keeps_none, rule_7}
use Rattle.tree_laws.proofs.Parting.{record_bits_stay, spare_stay, room_stays, upper_stays, journal_stays}
use Rattle.tree_laws.proofs.Agreeing.{same_upper, kept_bit, same_journal, same_node, same_spares}
use Rattle.tree_laws.proofs.Keeping.{KeepsAll, rules_of, passes_below}
use Rattle.tree_laws.proofs.Changing.{all_keep, changed_holds}

-- what is asked of directories holds of a file that is none
pub not_asked : (o : Option Record) (test : Record → Bool) → is_directory_file o ≡ false → at_file (λ r. implies (is_directory_record r) (test r)) o ≡ true
not_asked None test is = refl
not_asked (Some r) test is = ap (λ (t : Bool). implies t (test r)) is

pub no_index : (c : Content) (v : Volume) (upper : List ℕ) (n : ℕ) → is_directory_file (file_in v n) ≡ false → keeps_index c v upper n ≡ true
unfolding keeps_index
no_index c v upper n is = not_asked (file_in v n) (λ r. lists_names upper (files_by_number v) (count_of v) (reference n r) (index_links c v.per upper r)) is

-- one file is touched, and all keep their places
module _ (c d : Content) (v : Volume) (files : List (Option Record)) (n : ℕ) (agree : AgreeBut n c d v) (k : ReplacesFile c d v files n) where
  not_table : n ≢ table_file
  not_table is = let user = k.user in omega arith

  not_upcase : n ≢ upcase_file
  not_upcase is = let user = k.user in omega arith

  upper_now : upper_of d (with_files v files) ≡ upper_of c v
  upper_now = upper_stays d v files n k.differs not_upcase ∙ same_upper c d v agree.upper

  journal_now : journal_of d (upper_of d (with_files v files)) (with_files v files) ≡ journal_of c (upper_of c v) v
  journal_now =
      ap (λ (u : List ℕ). journal_of d u (with_files v files)) upper_now
      ∙ journal_stays d v files (upper_of c v) n k.differs k.names k.apart
      ∙ same_journal c d v (upper_of c v) agree.journal

  bits_now : record_bits d (with_files v files) ≡ record_bits c v
  bits_now = record_bits_stay d v files n k.differs not_table ∙ same_record_bits c d v agree.bits

  same_directory : (m : ℕ) → KeepsDirectory m (table_in v.files) (table_in files)
  same_directory m seq =
      let p = table_in v.files in
      let q = table_in files in
      this_or_other (λ (x : ℕ). is_directory_with seq (file_at q x) ≡ is_directory_with seq (file_at p x)) n m (keeps_none p q n k.before k.after seq) (λ other. ap (is_directory_with seq) (file_elsewhere p q n m k.differs.others other))

  touches : TouchesFiles (λ m. eqb m n) (λ m. true) v.files files
  touches = record {
    count = k.differs.count;
    others = λ m is. k.differs.others m (eqb-false m n is);
    places = all_keep (table_in v.files) (table_in files) (names_everywhere (table_in v.files) (table_in files) n k.differs.others k.names) same_directory;
    within = λ m is. refl;
  }

  agrees : AgreesElsewhere (λ m. eqb m n) c d v (with_files v files)
  agrees = record {
    torn = agree.torn;
    upper = agree.upper;
    indexes = λ m is. agree.indexes m (eqb-false m n is);
    bits = λ m below is. ap (λ (bits : List Bool). bit bits m) bits_now;
    free = λ m below is clear. agree.free m below clear;
  }

  here : (P : ℕ → Type 0) → P n → (m : ℕ) → eqb m n ≡ true → P m
  here P own m is = subst P (sym (eqb-true m n is)) own

  -- no number leaves its place
  all_inside : (P : Type 0) → true ≡ false → P
  all_inside P is = absurd cc

  rule_7_now : broken_7 c v ≡ None → (m : ℕ) → m < count_of v → keeps_record_bit d (with_files v files) m ≡ true
  unfolding broken_7
  rule_7_now none m below = rule_7 d v files n m k.differs not_table ∙ kept_bit c d v m agree.bits agree.free below (passes_below (keeps_record_bit c v) (count_of v) none m below)

  rule_9_now : broken_9 c v ≡ None → broken_9 d (with_files v files) ≡ None
  unfolding broken_9
  rule_9_now none = ap fault_of journal_now ∙ none

  keeps : KeepsAll c v → KeepsTouched (λ m. eqb m n) (λ m. true) c d v (with_files v files)
  keeps old = record {
    upcase = ne_eqb upcase_file n (λ is. not_upcase (sym is));
    rule_1 = λ m below. here (λ (x : ℕ). keeps_1 (table_in files) x ≡ true) k.rule_1 m;
    rule_2 = λ m below. all_inside (keeps_2 (table_in files) m ≡ true);
    rule_3 = λ m below. here (λ (x : ℕ). keeps_index d (with_files v files) (upper_of c v) x ≡ true) (no_index d (with_files v files) (upper_of c v) n k.after) m;
    listed = λ m j r other is directory. all_inside (names_there (reference m r) (links_at (table_in files) j) ≡ names_there (reference m r) (links_at (table_in v.files) j));
    rule_4 = λ m below. here (λ (x : ℕ). keeps_sizes d (with_files v files) x ≡ true) k.rule_4 m;
    rule_5 = k.rule_5;
    rule_6 = k.rule_6;
    rule_7 = λ m below is. rule_7_now old.rule_7 m below;
    rule_8 = λ m below. all_inside (keeps_8 (table_in files) (length files) m ≡ true);
    rule_9 = rule_9_now old.rule_9;
  }

  node_now : (m : ℕ) → m < count_of v → m ≢ n → node_at (bytes_or d v.per) (with_files v files) m ≡ node_at (bytes_or c v.per) v m
  node_now m below other = node_elsewhere (bytes_or d v.per) v files n m k.differs k.names other ∙ same_node c d v m (agree.shown m other)

  trees_differ : NodeDiffers (node_at (bytes_or c v.per) v n) (node_at (bytes_or d v.per) (with_files v files) n) (tree_of c v) (tree_of d (with_files v files))
  unfolding tree_of tree_with volume_journal
  trees_differ = record {
    nodes = nodes_by_others (bytes_or c v.per) (bytes_or d v.per) v (with_files v files) n k.differs.count node_now;
    links = links_kept v.files files n k.differs k.names;
    spare = spare_stay d v files n k.differs not_table ∙ same_spares c d v agree.bits agree.free;
    count = k.differs.count;
    journal = ap some_journal journal_now;
  }

pub tree_holds : (c d : Content) (v : Volume) (files : List (Option Record)) (n : ℕ) (t : Tree) → Holds c v t → AgreeBut n c d v → ReplacesFile c d v files n → Holds d (with_files v files) (tree_of d (with_files v files))
tree_holds c d v files n t holds agree k =
    changed_holds (λ m. eqb m n) (λ m. true) c d v files t holds (touches c d v files n agree k) (agrees c d v files n agree k) (keeps c d v files n agree k (rules_of c v holds.kept))

pub tree_replaced : (c d : Content) (v : Volume) (files : List (Option Record)) (n : ℕ) (t : Tree) → Holds c v t → AgreeBut n c d v → ReplacesFile c d v files n
    → NodeDiffers (node_at (bytes_or c v.per) v n) (node_at (bytes_or d v.per) (with_files v files) n) t (tree_of d (with_files v files))
tree_replaced c d v files n t holds agree k = rw holds.tree (trees_differ c d v files n agree k)

same_room : (c d : Content) (v : Volume) → SameBytesInSome c d v.per (cluster_bitmap v) → free_clusters d v ≡ free_clusters c v
unfolding free_clusters
same_room c d v same = ap (count_by not) (same_cluster_bits c d v same)

pub room_now : (c d : Content) (v : Volume) (files : List (Option Record)) (n : ℕ) (t : Tree) → Holds c v t → ReplacesFile c d v files n → SameBytesInSome c d v.per (cluster_bitmap v) → (tree_of d (with_files v files)).room ≡ t.room
unfolding tree_of tree_with
room_now c d v files n t holds k same =
    let not_bitmap : n ≢ bitmap_file = λ is. (let user = k.user in omega (arith, is)) in
    room_stays d v files n k.differs not_bitmap ∙ same_room c d v same ∙ ap (λ (x : Tree). x.room) (sym holds.tree)
