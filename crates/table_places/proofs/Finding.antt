-- An operation that was found to make a file: its directory, at whatever number the file comes.
use Rattle.std.proofs.Common.{◌≡◌, ◌≢◌, ◌⊎◌, ℕ, ◌<◌, ◌≤◌, ◌^◌, true, false, not, leb, List, [], Option, Some, None, Ok, refl, sym, ap, ap₂, subst, ◌∙◌, inl, inr, arith}
use Rattle.std.proofs.lemmas.Bool.{leb-true}
use Rattle.host_base.specs.Answers.{◌>>=◌, needs}
use Rattle.host_base.specs.declared.file_ref.FileRef.{FileRef}
use Rattle.disk_model.specs.Content.{Content}
use Rattle.record_model.specs.Constants.{attribute_list}
use Rattle.record_model.specs.Records.{Record, record_at}
use Rattle.record_model.proofs.Answering.{steps_from_ok, needs_from_ok}
use Rattle.file_tree.specs.declared.node.Node.{Node}
use Rattle.file_tree.specs.Trees.{node_at as node_by_number}
use Rattle.file_tree.specs.Walks.{root, first_user_record}
use Rattle.index_model.specs.Trees.{Tree, walk}
use Rattle.index_model.specs.Indexes.{links_of}
use Rattle.state_model.specs.declared.geometry.Geometry.{Geometry}
use Rattle.state_model.specs.declared.geometry.MapRefusal.TheVariants.{BadRecord, MftList, MftLarge}
use Rattle.state_model.specs.declared.stream.Extents.{Extents}
use Rattle.state_model.specs.Files.{has_type, is_directory_record}
use Rattle.state_model.specs.Loads.{has_all_pairs, slot_by, judged, boot_block, no_extents, record_count, most_records, table_extents, extents_in, table_of}
use Rattle.state_model.specs.Trees.{is_in_system, all_links}
use Rattle.volume_model.specs.Volumes.{Volume, count_of, files_by_number, file_in, upper_of}
use Rattle.volume_state.specs.Trees.{tree_of, tree_with}
use Rattle.stream_laws.proofs.Tabling.{inside_list}
use Rattle.stream_laws.proofs.Rewriting.{volume_parts, count_is}
use Rattle.tree_model.specs.declared.script.Op.TheVariants.{Create}
use Rattle.tree_model.specs.Refusals.{new_name, has_same_name}
use Rattle.tree_model.specs.Steps.{step_refusal}
use Rattle.tree_model.specs.Effects.{numbers_to_take, least_ref}
use Rattle.plan_owners.specs.States.{Stands}
use Rattle.plan_owners.proofs.Standing.{some_file}
use Rattle.table_steps.specs.made_trees.change_steps.Found.{IsPlaceFound, FoundIsThere}
use Rattle.table_steps.specs.made_trees.change_steps.plan_values.Values.{IsOwnFile}
use Rattle.table_steps.specs.made_trees.file_makes.declared.newfile.NewFile.{NewFile}
use Rattle.table_steps.specs.made_trees.made_files.Made.{made_link}
use Rattle.table_steps.proofs.made_trees.change_steps.Rows.{place_by}
use Rattle.place_steps.specs.place_makes.found_places.Places.{HasNames}
use Rattle.place_steps.proofs.place_makes.found_places.Rows.{IsUnrefused, unrefused}
use Rattle.place_steps.proofs.place_makes.found_places.Directory.{IsDirectoryThere, directory_there}
use Rattle.place_steps.proofs.place_makes.found_places.Names.{HasIndexOf, index_there, are_beside}
use Rattle.table_places.specs.Steps.{IsFoundBehind}

-- ---- a file table has not too many records

count_low : (o : Option Record) (e : Extents) → extents_in o ≡ Ok e → record_count e ≤ most_records
unfolding extents_in
count_low None e is = (let same : no_extents ≡ e = cc in subst (λ (x : Extents). record_count x ≤ most_records) same (omega arith))
count_low (Some r) e is =
    let count = record_count (table_extents r) in
    let unlisted = needs_from_ok (not (has_type attribute_list r)) MftList (λ _. needs (leb count most_records) (MftLarge count) >>= λ _. needs (has_all_pairs r) (BadRecord 0 7) >>= λ _. Ok (table_extents r)) e is in
    let low = needs_from_ok (leb count most_records) (MftLarge count) (λ _. needs (has_all_pairs r) (BadRecord 0 7) >>= λ _. Ok (table_extents r)) e unlisted.1 in
    let pairs = needs_from_ok (has_all_pairs r) (BadRecord 0 7) (λ _. Ok (table_extents r)) e low.1 in
    let same : table_extents r ≡ e = (let x = pairs.1 in cc) in
    subst (λ (x : Extents). record_count x ≤ most_records) same (leb-true count most_records low.0)

table_low : (c : Content) (g : Geometry) (e : Extents) → table_of c g ≡ Ok e → record_count e ≤ most_records
unfolding table_of
table_low c g e is = (let read = steps_from_ok (judged 0 (slot_by record_at (c (boot_block g 0)))) extents_in e is in count_low read.0 e read.2)

pub number_low : (c : Content) (g : Geometry) (clusters : ℕ) (v : Volume) (n : ℕ) → Stands c g clusters v → n < count_of v → n < 2 ^ 32
number_low c g clusters v n state within =
    let count = count_is c g clusters v state.loaded in
    let low = table_low c g v.table (volume_parts c g clusters v state.loaded).table in
    omega (arith, within, count, low)

-- ---- its directory

not_low : (n i : ℕ) → (n ≡ root) ⊎ (first_user_record ≤ n) → i < 24 → i ≢ 5 → n ≢ i
not_low n i (inl is) low other same = other (sym same ∙ is)
not_low n i (inr user) low other same = omega (arith, user, low, same)

high_enough : (n : ℕ) → (n ≡ root) ⊎ (first_user_record ≤ n) → 4 ≤ n
high_enough n (inl is) = omega (arith, is)
high_enough n (inr user) = omega (arith, user)

same_path : (path other : List (List ℕ)) → Create path ≡ Create other → other ≡ path
same_path path other is = cc

-- The directory has this node and this record; none of the volume's own but the root is it or above it.
pub record HasDirectory (c : Content) (v : Volume) (directory : Node) (m : NewFile) (a : Node) (r : Record) : Type 0 where
  pub node : node_by_number (tree_of c v).nodes directory.number ≡ Some a
  pub referred : m.parent ≡ record { number = a.number; seq = a.seq }
  pub seq : a.seq ≡ r.head.seq
  pub own : IsOwnFile v m.parent.number r
  pub is_directory : is_directory_record r ≡ true
  pub high : 4 ≤ m.parent.number
  pub not_extend : m.parent.number ≢ 11
  pub outside : is_in_system (files_by_number v) (count_of v) m.parent.number ≡ false
  pub small : m.parent.number < 2 ^ 48

module _ (there_is : FoundIsThere) (c : Content) (g : Geometry) (clusters : ℕ) (v : Volume) (path : List (List ℕ)) (directory : Node) (m : NewFile) (k : IsFoundBehind c g clusters v path directory m) where
  abbrev dir : ℕ
  dir = m.parent.number

  found : (other : List (List ℕ)) × (Create path ≡ Create other) × IsPlaceFound c v other directory m.name m.file
  found = there_is.place c g clusters v (Create path) directory m.name m.file k.has k.finds

  at : IsPlaceFound c v path directory m.name m.file
  at = subst (λ (y : List (List ℕ)). IsPlaceFound c v y directory m.name m.file) (same_path path found.0 found.1) found.2

  free : IsUnrefused (upper_of c v) (tree_of c v) at.a (new_name path)
  free = unrefused (upper_of c v) (tree_of c v) path at.a at.walked (place_by (step_refusal (upper_of c v) (tree_of c v) 0 [] (Create path)) _ directory m.name m.file k.finds).0

  dir_is : dir ≡ directory.number
  dir_is = ap (λ (f : FileRef). f.number) k.parent

  its : IsDirectoryThere c v directory.number at.a
  its = directory_there c g clusters v directory.number at.a k.has.stands at.node at.is_directory free.system free.unfixed

  which : (dir ≡ root) ⊎ (first_user_record ≤ dir)
  which = subst (λ (i : ℕ). (i ≡ root) ⊎ (first_user_record ≤ i)) (sym dir_is) its.which

  file : file_in v dir ≡ Some its.r
  file = ap (file_in v) dir_is ∙ its.file

  small : dir < 2 ^ 32
  small = number_low c g clusters v dir k.has.stands (inside_list v.files dir its.r (some_file v dir its.r file))

  referred : m.parent ≡ record { number = at.a.number; seq = at.a.seq }
  referred = k.parent ∙ ap₂ (λ (x y : ℕ). record { number = x; seq = y }) (sym its.number) (ap (λ (x : Node). x.seq) at.bare)

  pub least : least_ref (numbers_to_take (tree_of c v)) ≡ Some m.file
  least = at.least

  pub has_directory : (a : Node) × (r : Record) × HasDirectory c v directory m a r
  has_directory = (
    at.a,
    its.r,
    record {
      node = at.node;
      referred = referred;
      seq = its.seq;
      own = record { file = file; apart = record { table = not_low dir 0 which (omega arith) (λ same. omega (arith, same)); bitmap = not_low dir 6 which (omega arith) (λ same. omega (arith, same)); upcase = not_low dir 10 which (omega arith) (λ same. omega (arith, same)) }; no_list = its.no_list };
      is_directory = its.directory;
      high = high_enough dir which;
      not_extend = not_low dir 11 which (omega arith) (λ same. omega (arith, same));
      outside = ap (is_in_system (files_by_number v) (count_of v)) dir_is ∙ its.outside;
      small = omega (arith, small);
    },
  )

  no_name : has_same_name (upper_of c v) (tree_of c v).links dir m.name ≡ false
  no_name = ap₂ (has_same_name (upper_of c v) (tree_of c v).links) (dir_is ∙ sym its.number) at.named ∙ free.no_name

  pub has_names : (r : Record) → file_in v dir ≡ Some r → is_directory_record r ≡ true → (value : List ℕ) × (t : Tree) × HasNames c v m r value t
  unfolding tree_of tree_with
  has_names r is kind =
      let index : HasIndexOf c v dir r = index_there c g clusters v dir r k.has.stands is kind in
      (index.value, index.t, record { root = index.root; holds = index.holds; beside = are_beside (upper_of c v) (all_links (files_by_number v) (count_of v)) dir m.name (made_link m) refl no_name (links_of (walk index.t)) index.names })
