-- The names of a volume with a file more.
use Rattle.std.proofs.Common.{◌≡◌, ◌≢◌, subst, ℕ, ◌<◌, Bool, true, false, ◌||◌, eqb, List, [], ◌∷◌, length, Option, Some, None, refl, sym, ap, ◌∙◌, inl, inr}
use Rattle.std.proofs.lemmas.Bool.{cases_eq, eqb-true, eq-eqb}
use Rattle.host_base.specs.declared.file_ref.FileRef.{FileRef}
use Rattle.disk_model.specs.Content.{Content}
use Rattle.record_model.specs.declared.attribute.Attr.{Attr}
use Rattle.record_model.specs.Constants.{standard_information, index_root, file_name}
use Rattle.record_model.specs.Records.{Record}
use Rattle.file_tree.specs.declared.node.Node.{Node}
use Rattle.file_tree.specs.Trees.{node_at as node_by_number}
use Rattle.index_model.specs.Trees.{Tree}
use Rattle.made_files.specs.index_change.declared.nodes_plan.NodesPlan.{NodesPlan}
use Rattle.state_model.specs.declared.geometry.Geometry.{Geometry}
use Rattle.state_model.specs.declared.stream.Extents.{Extents}
use Rattle.state_model.specs.Files.{file_at, file_links, links_at, record_links, is_directory_record}
use Rattle.state_model.specs.Loads.{table_in}
use Rattle.state_model.specs.Rules.{implies, at_file, keeps_8}
use Rattle.state_model.specs.Trees.{leads}
use Rattle.volume_model.specs.Nodes.{node_with, node_by}
use Rattle.volume_model.specs.Volumes.{Volume, bytes_or, count_of, file_in, files_by_number, table_file}
use Rattle.volume_state.specs.Rules.{broken_8}
use Rattle.volume_state.specs.Trees.{tree_of}
use Rattle.stream_laws.specs.Replacing.{FileEdit}
use Rattle.stream_laws.proofs.Editing.{edited_files, other_file, length-with_edits}
use Rattle.stream_laws.proofs.Tabling.{inside_list}
use Rattle.tree_laws.specs.Keeping.{is_directory_file}
use Rattle.tree_laws.specs.Leaves.{IsLeaf}
use Rattle.tree_laws.specs.Ways.{IsOutside}
use Rattle.tree_laws.proofs.Keeping.{rules_of, passes_below}
use Rattle.tree_laws.proofs.Naming.{file_elsewhere}
use Rattle.tree_laws.proofs.Standing.{no_directory_leaf}
use Rattle.plan_owners.specs.States.{Stands}
use Rattle.plan_owners.proofs.Standing.{as_file, some_file}
use Rattle.plan_draft.specs.declared.touched.Touched.{Touched}
use Rattle.plan_draft.specs.Drafts.{drafted}
use Rattle.record_rules.specs.Counts.{has_sequence, has_reference}
use Rattle.written_values.specs.plan_model.Attributes.{RewritesValues}
use Rattle.written_values.specs.plan_model.Informed.{is_info}
use Rattle.written_values.specs.plan_model.Made.{is_info_or_root, made_edits}
use Rattle.written_values.proofs.plan_model.Rewriting.{same_directory, same_links}
use Rattle.written_values.proofs.plan_model.Stepping.{tree_nodes}
use Rattle.written_values.specs.step_model.Placing.{Growth}
use Rattle.written_values.specs.file_puts.declared.streams.VolumeStreams.{VolumeStreams}
use Rattle.made_files.specs.new_files.Laws.{NewFileReads}
use Rattle.made_files.specs.record_times.Laws.{TimesAreSet}
use Rattle.made_files.specs.record_times.Times.{timed_record}
use Rattle.made_files.specs.file_makes.declared.newfile.NewFile.{NewFile}
use Rattle.made_files.specs.file_makes.Making.{made_record}
use Rattle.made_files.specs.Made.{made_link, rooted_directory, IsMadeEdit}
use Rattle.made_trees.specs.Created.{timed_directory, timed_volume, made_volume}
use Rattle.made_trees.specs.Behind.{MakesFileBehind}
use Rattle.made_trees.proofs.Infos.{links_written, names_spared}
use Rattle.made_trees.proofs.Going.{first_stands}
use Rattle.made_trees.proofs.Leaving.{two as file_edit, rewritten, none_u as none_before, file_w as file_behind, dir_w as directory_behind, others_w as others_behind}
use Rattle.made_names.specs.Made.{MakesName, with_file}
use Rattle.same_names.specs.Names.{IsNamedAlike, SameNames}
use Rattle.same_names.proofs.Alike.{alike_itself}
use Rattle.same_names.proofs.Naming.{tell_same}
use Rattle.makes_keep.specs.Makes.{GrowsWell}
use Rattle.makes_keep.specs.Naming.{HasOneMore, MakesKeepNames}
use Rattle.makes_keep.proofs.Making.{node_is}

names_unrooted : (y : Attr) → eqb y.head.kind file_name ≡ true → is_info_or_root y ≡ false
names_unrooted y is = ap (λ (i : ℕ). eqb i standard_information || eqb i index_root) (eqb-true y.head.kind file_name is)

-- ---- files that are named alike

alike_then : (n : ℕ) (o p q : Option Record) → IsNamedAlike n o p → IsNamedAlike n p q → IsNamedAlike n o q
alike_then n None None q first then = then
alike_then n None (Some b) q first then = absurd first
alike_then n (Some a) None q first then = absurd first
alike_then n (Some a) (Some b) None first then = absurd then
alike_then n (Some a) (Some b) (Some c) first then = (then.0 ∙ first.0, then.1 ∙ first.1)

alike_at : (n : ℕ) (o p a b : Option Record) → o ≡ a → p ≡ b → IsNamedAlike n a b → IsNamedAlike n o p
alike_at n o p a b is that alike = rw (is, that) alike

none_alike : (n : ℕ) (o p : Option Record) → p ≡ None → IsNamedAlike n o p → o ≡ None
none_alike n None p none alike = refl
none_alike n (Some a) None none alike = absurd alike
none_alike n (Some a) (Some b) none alike = absurd cc

sequence_alike : (n seq : ℕ) (o p : Option Record) → IsNamedAlike n o p → has_sequence seq p ≡ true → has_sequence seq o ≡ true
sequence_alike n seq None None alike is = is
sequence_alike n seq None (Some b) alike is = absurd alike
sequence_alike n seq (Some a) None alike is = absurd alike
sequence_alike n seq (Some a) (Some b) alike is = ap (eqb seq) (sym alike.0) ∙ is

implied : (a b : Bool) → implies a b ≡ true → a ≡ true → b ≡ true
implied true b is holds = is
implied false b is holds = absurd cc

node_seq : (bytes : _) (v : Volume) (n : ℕ) (r : Record) (a : Node) → node_by bytes v n r ≡ a → r.head.seq ≡ a.seq
unfolding node_by node_with
node_seq bytes v n r a is = ap (λ (y : Node). y.seq) is

-- ---- a list with a file more

module _ (records : List (Option Record)) (n : ℕ) (f : Record) (below : n < length records) where
  abbrev one_edit : List FileEdit
  one_edit = record { number = n; file = Some f } ∷ []

  pub one_count : length (with_file n f records) ≡ length records
  one_count = length-with_edits records one_edit

  pub one_there : table_in (with_file n f records) n ≡ Some f
  one_there = (edited_files records one_edit (below, tt, tt)).0

  pub others_there : (i : ℕ) → i ≢ n → file_at (table_in (with_file n f records)) i ≡ file_at (table_in records) i
  others_there i other = file_elsewhere (table_in records) (table_in (with_file n f records)) n i (λ j more. other_file records one_edit j ((λ same. more (sym same)), tt)) other

module _ (times_set : TimesAreSet) (reads : NewFileReads) (c : Content) (g : Geometry) (clusters : ℕ) (v : Volume) (s : VolumeStreams) (numbers : Extents) (m : NewFile) (a : Node) (r : Record) (growths : List Growth) (u : Volume) (now : Record) (grown : List Touched) (value : List ℕ) (used : ℕ) (t : Tree) (fresh : List ℕ) (nodes : NodesPlan) (timed new : List Touched)
    (k : MakesFileBehind c g clusters v s numbers m a r growths u now grown value used t fresh nodes timed new) (well : GrowsWell c v m.parent.number u grown) where
  abbrev n : ℕ
  n = m.file.number

  abbrev dir : ℕ
  dir = m.parent.number

  abbrev first : Content
  first = drafted grown c

  abbrev p : Record
  p = timed_record m.stamp now

  abbrev q : Record
  q = timed_directory m.stamp now

  abbrev x : Volume
  x = timed_volume u m now

  abbrev z : Record
  z = rooted_directory k.made.put.plan (timed_directory m.stamp now)

  abbrev f : Record
  f = made_record (drafted timed c) s.table m

  abbrev w : Volume
  w = made_volume c u s m now k.made.put.plan timed

  abbrev edits : List FileEdit
  edits = made_edits m.file.number (made_record (drafted timed c) s.table m) m.parent.number (rooted_directory k.made.put.plan (timed_directory m.stamp now))

  two : IsMadeEdit c x s m q value used t fresh k.made.put.plan timed new
  two = file_edit times_set reads c g clusters v s numbers m a r growths u now grown value used t fresh nodes timed new k

  values : RewritesValues is_info now p
  values = rewritten times_set reads c g clusters v s numbers m a r growths u now grown value used t fresh nodes timed new k

  none_u : file_in u n ≡ None
  none_u = none_before times_set reads c g clusters v s numbers m a r growths u now grown value used t fresh nodes timed new k

  file_w : file_in w n ≡ Some f
  file_w = file_behind times_set reads c g clusters v s numbers m a r growths u now grown value used t fresh nodes timed new k

  dir_w : file_in w dir ≡ Some z
  dir_w = directory_behind times_set reads c g clusters v s numbers m a r growths u now grown value used t fresh nodes timed new k

  others_w : (i : ℕ) → i ≢ n → i ≢ dir → file_in w i ≡ file_in u i
  others_w = others_behind times_set reads c g clusters v s numbers m a r growths u now grown value used t fresh nodes timed new k

  stands_u : Stands first g clusters u
  stands_u = first_stands times_set reads c g clusters v s numbers m a r growths u now grown value used t fresh nodes timed new k

  -- ---- behind what was put before

  count_x : count_of x ≡ count_of u
  count_x = length-with_edits u.files (record { number = dir; file = Some q } ∷ [])

  count_w : count_of w ≡ count_of u
  count_w = length-with_edits x.files edits ∙ count_x

  within : n < count_of u
  within = subst (λ (i : ℕ). n < i) count_x k.made.number.within

  dir_below : dir < count_of u
  dir_below = inside_list u.files dir now (some_file u dir now k.before.own.file)

  dir_alike : IsNamedAlike dir (file_in u dir) (file_in w dir)
  dir_alike =
      alike_at dir (file_in u dir) (file_in w dir) (Some now) (Some z) k.before.own.file dir_w
      (two.makes.values.seq ∙ values.seq, same_links is_info_or_root dir q z two.makes.values names_unrooted ∙ links_written dir p ∙ same_links is_info dir now p values names_spared)

  alike_w : (i : ℕ) → i ≢ n → IsNamedAlike i (file_in u i) (file_in w i)
  alike_w i other = elim (cases_eq i dir) [
    | inl is ↦ subst (λ (j : ℕ). IsNamedAlike j (file_in u j) (file_in w j)) (sym is) dir_alike
    | inr more ↦ subst (λ (o : Option Record). IsNamedAlike i (file_in u i) o) (sym (others_w i other more)) (alike_itself i (file_in u i))
  ]

  now_directory : is_directory_record now ≡ true
  now_directory = sym (same_directory is_info now p values) ∙ k.made.directory.directory

  way_up : leads (files_by_number u) (count_of u) dir ≡ true
  unfolding keeps_8 broken_8
  way_up =
      let rule = passes_below (keeps_8 (files_by_number u) (count_of u)) (count_of u) (rules_of first u stands_u.kept).rule_8 dir dir_below in
      implied (is_directory_record now) (leads (files_by_number u) (count_of u) dir) (sym (ap (at_file (λ (y : Record). implies (is_directory_record y) (leads (files_by_number u) (count_of u) dir))) k.before.own.file) ∙ rule) now_directory

  there : has_reference (files_by_number u) m.parent ≡ true
  unfolding has_reference
  there = ap (has_sequence m.parent.seq) k.before.own.file ∙ eq-eqb m.parent.seq now.head.seq (ap (λ (y : FileRef). y.seq) k.made.directory.referred ∙ values.seq)

  leaf : IsLeaf n (files_by_number u)
  leaf = no_directory_leaf u n (rules_of first u stands_u.kept).rule_2 (ap is_directory_file none_u)

  makes_u : MakesName u.files n f (made_link m)
  makes_u = record { within = within; user = k.made.number.user; none = none_u; leaf = leaf; base = two.makes.base; one = two.makes.name; there = there; leads = way_up }

  -- files that are named alike but for the new one, in a list with it
  with_one : (records : List (Option Record)) → length records ≡ count_of u → ((i : ℕ) → i ≢ n → IsNamedAlike i (file_at (table_in records) i) (file_in u i)) → SameNames (with_file n f records) w.files
  unfolding file_at
  with_one records count alike = record {
    count = count_w ∙ sym count ∙ sym (one_count records n f below);
    each = λ i. elim (cases_eq i n) [
      | inl is ↦ subst (λ (j : ℕ). IsNamedAlike j (file_at (table_in (with_file n f records)) j) (file_in w j)) (sym is) (alike_at n _ _ (Some f) (Some f) (as_file (table_in (with_file n f records) n) f (one_there records n f below) two.makes.base) file_w (alike_itself n (Some f)))
      | inr other ↦ alike_then i (file_at (table_in (with_file n f records)) i) (file_in u i) (file_in w i) (subst (λ (o : Option Record). IsNamedAlike i o (file_in u i)) (sym (others_there records n f below i other)) (alike i other)) (alike_w i other)
    ];
  }
    where
      below : n < length records
      below = subst (λ (i : ℕ). n < i) (sym count) within

  pub behind : HasOneMore u.files w.files n f (made_link m)
  behind = record { makes = makes_u; names = with_one u.files refl (λ i other. alike_itself i (file_in u i)) }

  -- ---- behind the volume before all

  same_seq : now.head.seq ≡ r.head.seq
  same_seq =
      let there = node_seq (bytes_or first u.per) u dir now a (node_is (bytes_or first u.per) u dir now a k.before.own.file (sym (tree_nodes first u dir) ∙ nodes_same ∙ k.node)) in
      let here = node_seq (bytes_or c v.per) v dir r a (node_is (bytes_or c v.per) v dir r a k.own.file (sym (tree_nodes c v dir) ∙ k.node)) in
      there ∙ sym here
    where
      nodes_same : node_by_number (tree_of first u).nodes dir ≡ node_by_number (tree_of c v).nodes dir
      nodes_same = elim k.before.tree [
        | inl differs ↦ differs.nodes dir
        | inr came ↦ came.nodes dir
      ]

  same_links_of : record_links dir now ≡ record_links dir r
  unfolding links_at
  same_links_of = sym (ap (file_links dir) k.before.own.file) ∙ k.before.names dir ∙ ap (file_links dir) k.own.file

  module _ (same : count_of u ≡ count_of v) where
    alike_v : (i : ℕ) → IsNamedAlike i (file_in v i) (file_in u i)
    alike_v i = elim (cases_eq i dir) [
      | inl is ↦ subst (λ (j : ℕ). IsNamedAlike j (file_in v j) (file_in u j)) (sym is) (alike_at dir (file_in v dir) (file_in u dir) (Some r) (Some now) k.own.file k.before.own.file (same_seq, same_links_of))
      | inr other ↦ elim (cases_eq i table_file) [
        | inl is ↦ subst (λ (j : ℕ). IsNamedAlike j (file_in v j) (file_in u j)) (sym is) (subst (λ (o : Option Record). IsNamedAlike table_file (file_in v table_file) o) (sym (well.table same)) (alike_itself table_file (file_in v table_file)))
        | inr more ↦ subst (λ (o : Option Record). IsNamedAlike i (file_in v i) o) (sym (well.others i other more)) (alike_itself i (file_in v i))
      ]
    ]

    names_v : SameNames v.files u.files
    names_v = record { count = same; each = alike_v }

    makes_v : MakesName v.files n f (made_link m)
    unfolding has_reference
    makes_v = record {
      within = subst (λ (i : ℕ). n < i) same within;
      user = k.made.number.user;
      none = none_alike n (file_in v n) (file_in u n) none_u (alike_v n);
      leaf = λ i other. subst (IsOutside n) (k.before.names i) (leaf i other);
      base = two.makes.base;
      one = two.makes.name;
      there = sequence_alike dir m.parent.seq (file_in v dir) (file_in u dir) (alike_v dir) there;
      leads = sym (ap (λ (way : ℕ → Bool). way dir) (tell_same.rooted v.files u.files names_v)) ∙ way_up;
    }

    pub before_all : HasOneMore v.files w.files n f (made_link m)
    before_all = record { makes = makes_v; names = with_one v.files (sym same) (λ i other. alike_v i) }

pub names_kept : TimesAreSet → NewFileReads → MakesKeepNames
names_kept times_set reads c g clusters v s numbers m a r growths u q grown value used t fresh nodes timed new k well = (
  behind times_set reads c g clusters v s numbers m a r growths u q grown value used t fresh nodes timed new k well,
  λ same. before_all times_set reads c g clusters v s numbers m a r growths u q grown value used t fresh nodes timed new k well same,
)
