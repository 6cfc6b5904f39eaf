-- An operation that was found to make a file: its directory, and the number of the file.
use Rattle.std.proofs.Common.{◌≡◌, ◌≢◌, ◌⊎◌, ℕ, ◌<◌, ◌≤◌, ◌^◌, Bool, true, false, not, leb, List, [], Option, Some, None, Ok, refl, sym, ap, ap₂, subst, ◌∙◌, inl, inr, arith}
use Rattle.std.specs.Prelude.{is_some}
use Rattle.std.proofs.lemmas.Bool.{leb-true, and_parts}
use Rattle.host_base.specs.Answers.{◌>>=◌, needs}
use Rattle.host_base.specs.declared.file_ref.FileRef.{FileRef}
use Rattle.disk_model.specs.Content.{Content}
use Rattle.disk_model.specs.declared.block.BlockKind.TheVariants.{FileRec}
use Rattle.record_model.specs.Constants.{attribute_list, data_type}
use Rattle.record_model.specs.Pairs.{cluster_limit}
use Rattle.record_model.specs.Records.{Record, record_at}
use Rattle.record_model.proofs.Answering.{steps_from_ok, needs_from_ok}
use Rattle.file_tree.specs.declared.node.Node.{Node}
use Rattle.file_tree.specs.Walks.{root, first_user_record}
use Rattle.index_model.specs.Trees.{Tree, walk}
use Rattle.index_model.specs.Indexes.{links_of}
use Rattle.state_model.specs.declared.geometry.Geometry.{Geometry}
use Rattle.state_model.specs.declared.geometry.MapRefusal.TheVariants.{BadRecord, MftList, MftLarge}
use Rattle.state_model.specs.declared.stream.Extents.{Extents}
use Rattle.state_model.specs.declared.stream.Stream.TheVariants.{Placed}
use Rattle.state_model.specs.Files.{has_type, is_directory_record}
use Rattle.state_model.specs.Loads.{has_all_pairs, slot_by, judged, boot_block, no_extents, record_count, most_records, table_extents, extents_in, table_of, used_record}
use Rattle.state_model.specs.Trees.{is_in_system, all_links}
use Rattle.state_model.specs.Streams.{stream_of, block_at}
use Rattle.volume_model.specs.Sizes.{has_hole, keeps_streams, keeps_whole}
use Rattle.volume_model.specs.Volumes.{Volume, count_of, files_by_number, file_in, file_stream, table_file, upper_of}
use Rattle.volume_state.specs.Trees.{tree_of, tree_with}
use Rattle.stream_laws.proofs.Tabling.{inside_list}
use Rattle.stream_laws.proofs.Rewriting.{volume_parts, count_is}
use Rattle.tree_model.specs.declared.script.Op.TheVariants.{Create}
use Rattle.tree_model.specs.Refusals.{new_name, has_same_name}
use Rattle.tree_model.specs.Steps.{step_refusal}
use Rattle.tree_model.specs.Effects.{numbers_to_take, least_ref}
use Rattle.plan_owners.specs.States.{Stands}
use Rattle.plan_owners.proofs.Standing.{streams_at, some_file}
use Rattle.draft_records.specs.Records.{ReadsTheTable}
use Rattle.made_trees.specs.change_steps.Found.{IsPlaceFound, FoundIsThere}
use Rattle.made_trees.specs.file_makes.declared.newfile.NewFile.{NewFile}
use Rattle.made_trees.specs.made_files.Made.{made_link, IsSpare}
use Rattle.made_trees.proofs.change_steps.Rows.{place_by}
use Rattle.made_trees.proofs.plan_model.Drafting.{per_is}
use Rattle.made_trees.proofs.plan_model.OneRecord.{own_record}
use Rattle.state_streams.specs.Streams.{IsPlacedIn, StreamsOfStates}
use Rattle.found_places.specs.Places.{IsFoundPlace, HasPlace, HasNames}
use Rattle.found_places.proofs.Rows.{IsUnrefused, unrefused}
use Rattle.found_places.proofs.Directory.{IsDirectoryThere, directory_there}
use Rattle.found_places.proofs.Names.{HasIndexOf, index_there, are_beside}
use Rattle.found_places.proofs.Numbers.{IsClear, number_clear, table_placed, record_lies}

-- ---- a file table has not too many records

count_low : (o : Option Record) (e : Extents) → extents_in o ≡ Ok e → record_count e ≤ most_records
unfolding extents_in
count_low None e is = (let same : no_extents ≡ e = cc in subst (λ (x : Extents). record_count x ≤ most_records) same (omega arith))
count_low (Some r) e is =
    let count = record_count (table_extents r) in
    let unlisted = needs_from_ok (not (has_type attribute_list r)) MftList (λ _. needs (leb count most_records) (MftLarge count) >>= λ _. needs (has_all_pairs r) (BadRecord 0 7) >>= λ _. Ok (table_extents r)) e is in
    let low = needs_from_ok (leb count most_records) (MftLarge count) (λ _. needs (has_all_pairs r) (BadRecord 0 7) >>= λ _. Ok (table_extents r)) e unlisted.1 in
    let pairs = needs_from_ok (has_all_pairs r) (BadRecord 0 7) (λ _. Ok (table_extents r)) e low.1 in
    let same : table_extents r ≡ e = (let x = pairs.1 in cc) in
    subst (λ (x : Extents). record_count x ≤ most_records) same (leb-true count most_records low.0)

table_low : (c : Content) (g : Geometry) (e : Extents) → table_of c g ≡ Ok e → record_count e ≤ most_records
unfolding table_of
table_low c g e is = (let read = steps_from_ok (judged 0 (slot_by record_at (c (boot_block g 0)))) extents_in e is in count_low read.0 e read.2)

number_low : (c : Content) (g : Geometry) (clusters : ℕ) (v : Volume) (n : ℕ) → Stands c g clusters v → n < count_of v → n < 2 ^ 32
number_low c g clusters v n state within =
    let count = count_is c g clusters v state.loaded in
    let low = table_low c g v.table (volume_parts c g clusters v state.loaded).table in
    omega (arith, within, count, low)

-- ---- a spare number

file_of_stream : (o : Option Record) (e : Extents) → file_stream data_type [] o ≡ Some (Placed e) → (r : Record) × ((o ≡ Some r) × (stream_of data_type [] r.attrs ≡ Some (Placed e)))
file_of_stream None e is = absurd cc
file_of_stream (Some r) e is = (r, (refl, is))

denied : (t : Bool) → not t ≡ true → t ≡ false
denied true is = absurd cc
denied false is = refl

module _ (streams : StreamsOfStates) (c : Content) (g : Geometry) (clusters : ℕ) (v : Volume) (n : ℕ) (state : Stands c g clusters v) (eight : g.per_cluster ≡ 8) (few : clusters ≤ cluster_limit) (within : n < count_of v) where
  below : n < record_count v.table
  below = (let count = count_is c g clusters v state.loaded in omega (arith, count, within))

  first : (r : Record) × ((file_in v table_file ≡ Some r) × (stream_of data_type [] r.attrs ≡ Some (Placed v.table)))
  first = file_of_stream (file_in v table_file) v.table (table_placed c g clusters v n state below)

  placed : IsPlacedIn v table_file data_type [] v.table
  placed = record { file = first.0; is_file = first.1.0; no_name = λ same. omega (arith, same); stream = first.1.1 }

  whole : has_hole (Some (Placed v.table)) ≡ false
  unfolding keeps_streams keeps_whole
  whole =
      let rules = (and_parts _ _ (and_parts _ _ (and_parts _ _ (streams_at c g clusters v table_file first.0 state first.1.0)).0).0).1 in
      let first_test = (and_parts _ _ (and_parts _ _ rules).0).0 in
      sym (ap has_hole first.1.1) ∙ denied (has_hole (stream_of data_type [] first.0.attrs)) first_test

  lies : is_some (block_at v.per v.table.runs FileRec n) ≡ true
  lies =
      let count = (volume_parts c g clusters v state.loaded).count in
      let total = streams.total c g clusters v table_file data_type [] v.table state placed whole in
      let spelled = streams.spelled c g clusters v table_file data_type [] v.table state placed (omega (arith, total, count, few)) in
      let sizes = streams.sizes c g clusters v table_file data_type [] v.table state placed in
      let real = sizes.real in
      let allocated = sizes.allocated in
      record_lies v.per v.table n (per_is c g clusters v eight state) spelled whole (omega (arith, real, allocated)) below

  pub spare : (x : FileRef) → x.number ≡ n → least_ref (numbers_to_take (tree_of c v)) ≡ Some x → IsSpare c v n
  spare x is least =
      let clear = subst (λ (i : ℕ). i < count_of v → IsClear c v i) is (number_clear c v x least) within in
      record { user = clear.user; within = within; clear = clear.clear; lies = lies }

-- ---- its directory

not_low : (n i : ℕ) → (n ≡ root) ⊎ (first_user_record ≤ n) → i < 24 → i ≢ 5 → n ≢ i
not_low n i (inl is) low other same = other (sym same ∙ is)
not_low n i (inr user) low other same = omega (arith, user, low, same)

high_enough : (n : ℕ) → (n ≡ root) ⊎ (first_user_record ≤ n) → 4 ≤ n
high_enough n (inl is) = omega (arith, is)
high_enough n (inr user) = omega (arith, user)

same_path : (path other : List (List ℕ)) → Create path ≡ Create other → other ≡ path
same_path path other is = cc

module _ (reads : ReadsTheTable) (streams : StreamsOfStates) (there_is : FoundIsThere) (c : Content) (g : Geometry) (clusters : ℕ) (v : Volume) (path : List (List ℕ)) (directory : Node) (m : NewFile) (k : IsFoundPlace c g clusters v path directory m) where
  abbrev dir : ℕ
  dir = m.parent.number

  found : (other : List (List ℕ)) × (Create path ≡ Create other) × IsPlaceFound c v other directory m.name m.file
  found = there_is.place c g clusters v (Create path) directory m.name m.file k.has k.finds

  at : IsPlaceFound c v path directory m.name m.file
  at = subst (λ (y : List (List ℕ)). IsPlaceFound c v y directory m.name m.file) (same_path path found.0 found.1) found.2

  free : IsUnrefused (upper_of c v) (tree_of c v) at.a (new_name path)
  free = unrefused (upper_of c v) (tree_of c v) path at.a at.walked (place_by (step_refusal (upper_of c v) (tree_of c v) 0 [] (Create path)) _ directory m.name m.file k.finds).0

  dir_is : dir ≡ directory.number
  dir_is = ap (λ (f : FileRef). f.number) k.parent

  its : IsDirectoryThere c v directory.number at.a
  its = directory_there c g clusters v directory.number at.a k.has.stands at.node at.is_directory free.system free.unfixed

  which : (dir ≡ root) ⊎ (first_user_record ≤ dir)
  which = subst (λ (i : ℕ). (i ≡ root) ⊎ (first_user_record ≤ i)) (sym dir_is) its.which

  file : file_in v dir ≡ Some its.r
  file = ap (file_in v) dir_is ∙ its.file

  small : dir < 2 ^ 32
  small = number_low c g clusters v dir k.has.stands (inside_list v.files dir its.r (some_file v dir its.r file))

  referred : m.parent ≡ record { number = at.a.number; seq = at.a.seq }
  referred = k.parent ∙ ap₂ (λ (x y : ℕ). record { number = x; seq = y }) (sym its.number) (ap (λ (x : Node). x.seq) at.bare)

  pub least : least_ref (numbers_to_take (tree_of c v)) ≡ Some m.file
  least = at.least

  pub has_place : (a : Node) × (r : Record) × HasPlace c v directory m a r
  has_place = (
    at.a,
    its.r,
    record {
      node = at.node;
      referred = referred;
      number = its.number;
      seq = its.seq;
      own = record { file = file; apart = record { table = not_low dir 0 which (omega arith) (λ same. omega (arith, same)); bitmap = not_low dir 6 which (omega arith) (λ same. omega (arith, same)); upcase = not_low dir 10 which (omega arith) (λ same. omega (arith, same)) }; no_list = its.no_list };
      is_directory = its.directory;
      high = high_enough dir which;
      not_extend = not_low dir 11 which (omega arith) (λ same. omega (arith, same));
      outside = ap (is_in_system (files_by_number v) (count_of v)) dir_is ∙ its.outside;
      reads = reads c v.per v.table dir its.r (ap used_record (own_record c g clusters v dir its.r k.has.stands file its.no_list).slot);
      small = omega (arith, small);
      spare = spare streams c g clusters v m.file.number k.has.stands k.has.eight k.few k.within m.file refl at.least;
      low = number_low c g clusters v m.file.number k.has.stands k.within;
    },
  )

  no_name : has_same_name (upper_of c v) (tree_of c v).links dir m.name ≡ false
  no_name = ap₂ (has_same_name (upper_of c v) (tree_of c v).links) (dir_is ∙ sym its.number) at.named ∙ free.no_name

  pub has_names : (r : Record) → file_in v dir ≡ Some r → is_directory_record r ≡ true → (value : List ℕ) × (t : Tree) × HasNames c v m r value t
  unfolding tree_of tree_with
  has_names r is kind =
      let index : HasIndexOf c v dir r = index_there c g clusters v dir r k.has.stands is kind in
      (index.value, index.t, record { root = index.root; holds = index.holds; beside = are_beside (upper_of c v) (all_links (files_by_number v) (count_of v)) dir m.name (made_link m) refl no_name (links_of (walk index.t)) index.names })
