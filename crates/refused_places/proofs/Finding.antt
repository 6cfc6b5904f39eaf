-- The place of a file that isn't made, and plans of its directory's index.
use Rattle.std.proofs.Common.{◌≡◌, ℕ, ◌≤◌, true, false, List, [], length, Option, Some, sym, ap, subst, ◌∙◌, arith}
use Rattle.host_base.specs.declared.file_ref.FileRef.{FileRef}
use Rattle.disk_model.specs.Content.{Content}
use Rattle.record_model.specs.Nodes.{entries_length}
use Rattle.record_model.specs.Records.{Record}
use Rattle.record_model.specs.Values.{is_file_name}
use Rattle.file_tree.specs.declared.link.Link.{Link}
use Rattle.file_tree.specs.declared.node.Node.{Node}
use Rattle.index_model.specs.declared.key.Key.{Key}
use Rattle.index_model.specs.Trees.{Tree, raws_of}
use Rattle.index_model.specs.Laws.{HoldsIndex}
use Rattle.index_plan.specs.Laws.{Once}
use Rattle.index_plan.specs.Room.{RootSized}
use Rattle.index_change.specs.declared.nodes_plan.NodesPlan.{NodesPlan}
use Rattle.index_change.specs.NodePlans.{NewNodes}
use Rattle.state_model.specs.declared.geometry.Geometry.{Geometry}
use Rattle.volume_model.specs.Indexes.{index_place, root_value}
use Rattle.volume_model.specs.Volumes.{Volume, file_in, upper_of}
use Rattle.volume_state.specs.Trees.{tree_of}
use Rattle.tree_model.specs.Effects.{new_link}
use Rattle.plan_draft.specs.Drafts.{drafted}
use Rattle.node_spreads.specs.Nodes.{WritesFit}
use Rattle.node_spreads.proofs.Raising.{plans_fit}
use Rattle.place_makes.specs.made_trees.new_files.Laws.{NewFileReads, HasFields}
use Rattle.place_makes.specs.made_trees.new_files.NewFiles.{link_in}
use Rattle.place_makes.specs.made_trees.file_makes.declared.newfile.NewFile.{NewFile}
use Rattle.place_makes.specs.made_trees.made_files.Made.{made_key}
use Rattle.place_makes.specs.made_trees.step_model.Plans.{grows_table}
use Rattle.place_makes.specs.made_trees.step_model.Spreads.{IsKeyOf}
use Rattle.place_makes.proofs.made_trees.plan_model.Drafting.{per_is}
use Rattle.place_makes.proofs.made_trees.written_values.Joining.{nothing_put}
use Rattle.made_steps.specs.Refused.{FindsDirectory}
use Rattle.place_makes.specs.found_places.Places.{HasPlace, HasNames, LieBehind}
use Rattle.place_makes.specs.found_places.Laws.{PlacesAreThere}
use Rattle.place_makes.proofs.found_places.Vcns.{once_behind}
use Rattle.refused_places.specs.Refused.{FindsPlace}
use Rattle.refused_places.proofs.Spare.{stays_table}
use Rattle.refused_places.proofs.Roots.{value_low, root_sized}

same_value : (o : Option (List ℕ)) (one two : List ℕ) → o ≡ Some one → o ≡ Some two → one ≡ two
same_value o one two first second = cc

same_record : (o : Option Record) (one two : Record) → o ≡ Some one → o ≡ Some two → one ≡ two
same_record o one two first second = cc

module _ (there : PlacesAreThere) (new_reads : NewFileReads) (c : Content) (g : Geometry) (clusters : ℕ) (v : Volume) (path : List (List ℕ)) (directory : Node) (m : NewFile) (r : Record) (k : FindsPlace c g clusters v path directory m r) where
  pub start : drafted [] c ≡ c
  start = nothing_put c k.sized

  pub eight : v.per ≡ 8
  eight = per_is c g clusters v k.found.has.eight k.found.has.stands

  abbrev found : (a : Node) × (o : Record) × HasPlace c v directory m a o
  found = there.place c g clusters v path directory m k.found

  abbrev pub a : Node
  a = (there.place c g clusters v path directory m k.found).0

  pub place : HasPlace c v directory m a r
  place = subst (λ (o : Record). HasPlace c v directory m a o) (same_record (file_in v m.parent.number) found.1 r found.2.own.file k.file) found.2

  pub none_grows : grows_table (tree_of c v) ≡ false
  none_grows = stays_table c v m.file.number place.spare

  pub a_number : m.parent.number ≡ a.number
  a_number = ap (λ (f : FileRef). f.number) place.referred

  abbrev key : Key
  key = made_key m

  has_fields : HasFields 0 m.file m.parent m.name m.stamp
  has_fields = record {
    lsn_small = omega arith;
    number = place.low;
    seq = k.seq;
    directory = place.small;
    directory_seq = (let is : m.parent.seq ≡ r.head.seq = ap (λ (f : FileRef). f.seq) place.referred ∙ place.seq in let low = k.fits.head.seq in omega (arith, is, low));
    is_name = k.is_name;
    stamp_small = k.soon;
  }

  pub is_key : IsKeyOf (new_link a m.name m.file) (made_key m)
  is_key = subst (λ (l : Link). IsKeyOf l (made_key m)) (ap (λ (f : FileRef). link_in f m.name m.file) place.referred) (new_reads 0 m.file m.parent m.name m.stamp has_fields).key

  pub lawful : is_file_name (made_key m).value ≡ true
  lawful = is_key.lawful

  -- ---- its index

  pub value_short : (value : List ℕ) → root_value r ≡ Some value → length value ≤ 1024
  value_short value root = value_low c g clusters v m.parent.number r value k.found.has.stands k.file place.own.no_list root

  pub names : (value : List ℕ) → root_value r ≡ Some value → (t : Tree) × HoldsIndex c (index_place v.per r) (upper_of c v) value t
  names value root =
      let own : (y : List ℕ) × (t : Tree) × HasNames c v m r y t = there.names c g clusters v path directory m r k.found k.file place.is_directory in
      let same : own.0 ≡ value = same_value (root_value r) own.0 value own.2.root root in
      (own.1, subst (λ (y : List ℕ). HoldsIndex c (index_place v.per r) (upper_of c v) y own.1) same own.2.holds)

  pub directory_is : (value : List ℕ) (t : Tree) → root_value r ≡ Some value → HoldsIndex c (index_place v.per r) (upper_of c v) value t → FindsDirectory c g clusters v path directory a m.name m.file r value t (made_key m)
  directory_is value t root holds = record {
    has = k.found.has;
    finds = k.found.finds;
    node = place.node;
    file = ap (file_in v) (sym a_number) ∙ k.file;
    root = root;
    holds = holds;
    is_key = is_key;
    short = k.is_name.within;
  }

  pub by_eight : (P : ℕ → Type 0) → P 8 → P v.per
  by_eight P x = subst P (sym eight) x

  pub once_of : (value : List ℕ) (t : Tree) (fresh : List ℕ) → HoldsIndex c (index_place v.per r) (upper_of c v) value t → LieBehind 8 r fresh → Once t fresh
  once_of value t fresh holds lie =
      let behind : LieBehind v.per r fresh = by_eight (λ (per : ℕ). LieBehind per r fresh) lie in
      once_behind c (index_place v.per r) (upper_of c v) value t holds fresh behind.single behind.behind

  sized : (value : List ℕ) (t : Tree) → root_value r ≡ Some value → HoldsIndex c (index_place v.per r) (upper_of c v) value t → RootSized (raws_of t)
  sized value t root holds = subst RootSized holds.is_index.root_is (root_sized value holds.entries holds.root_read (value_short value root))

  pub root_room_low : (value : List ℕ) (t : Tree) → root_value r ≡ Some value → HoldsIndex c (index_place v.per r) (upper_of c v) value t → entries_length (raws_of t) ≤ 1024
  root_room_low value t root holds = (sized value t root holds).room

  pub fit_of : (value : List ℕ) (t : Tree) (used : ℕ) (fresh : List ℕ) (nodes : NodesPlan) → root_value r ≡ Some value → HoldsIndex c (index_place v.per r) (upper_of c v) value t → 17 ≤ length fresh → NewNodes c (index_place v.per r) (upper_of c v) value used (made_key m) fresh t nodes → WritesFit nodes
  fit_of value t used fresh nodes root holds enough new =
      plans_fit c (index_place v.per r) (upper_of c v) value used (made_key m) fresh t nodes lawful holds (sized value t root holds) enough new
