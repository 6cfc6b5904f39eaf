-- What a state says of a file that an operation may change.
use Rattle.std.proofs.Common.{◌≡◌, ℕ, ◌≤◌, Bool, true, false, not, ◌&&◌, ◌||◌, cond, ltb, List, [], Some, refl, sym, ap, ap₂, ◌∙◌, inr, arith}
use Rattle.std.proofs.lemmas.Bool.{and_parts, or_parts, le-leb, ltb-false}
use Rattle.disk_model.specs.Content.{Content}
use Rattle.record_model.specs.Records.{Record}
use Rattle.record_model.specs.Constants.{attribute_list, data_type, standard_information}
use Rattle.file_tree.specs.declared.link.Link.{Link}
use Rattle.file_tree.specs.declared.node.Kind.TheVariants.{Directory, File, Fixed, Opaque, System}
use Rattle.file_tree.specs.declared.node.Node.{Node}
use Rattle.file_tree.specs.Walks.{first_user_record}
use Rattle.change_steps.specs.state_model.declared.geometry.Geometry.{Geometry}
use Rattle.change_steps.specs.state_model.declared.stream.Stream.{Stream}
use Rattle.change_steps.specs.state_model.Files.{Table, record_links, is_directory_record, has_type, is_sparse}
use Rattle.change_steps.specs.state_model.Loads.{data_stream}
use Rattle.change_steps.specs.state_model.Rules.{at_file, keeps_names, keeps_1}
use Rattle.change_steps.specs.state_model.Trees.{is_system}
use Rattle.change_steps.specs.volume_model.Volumes.{Volume, count_of, file_in, files_by_number}
use Rattle.change_steps.specs.volume_model.Nodes.{data_flags, is_unread, is_unchanged, kind_in}
use Rattle.change_steps.specs.volume_model.Sizes.{has_hole}
use Rattle.change_steps.specs.volume_state.Rules.{broken_1}
use Rattle.change_steps.proofs.stream_laws.Tabling.{inside_list}
use Rattle.change_steps.proofs.tree_laws.Keeping.{rules_of, passes_below}
use Rattle.change_steps.specs.plan_owners.States.{Stands}
use Rattle.change_steps.proofs.plan_owners.Standing.{some_file}
use Rattle.change_steps.specs.plan_growth.Streams.{IsOwnStream}
use Rattle.change_steps.specs.plan_values.Values.{IsOwnFile}
use Rattle.change_steps.proofs.plan_values.Valued.{entries_named}
use Rattle.change_steps.specs.plan_changes.Files.{IsChangeable}
use Rattle.change_steps.proofs.plan_changes.Showing.{files_are}
use Rattle.change_steps.specs.data_plan.Changes.{data_in}

-- ---- its kind

-- no directory, no file of the volume itself, and its bytes can be changed
record IsPlain (v : Volume) (n : ℕ) (r : Record) : Type 0 where
  pub directory : is_directory_record r ≡ false
  pub system : is_system (files_by_number v) (count_of v) n (record_links n r) ≡ false
  pub unchanged : is_unchanged r ≡ false

none_of_them : (directory system unread unchanged : Bool) → cond directory Directory (cond system System (cond unread Opaque (cond unchanged Fixed File))) ≡ File → (directory ≡ false) × (system ≡ false) × (unchanged ≡ false)
none_of_them true system unread unchanged is = absurd cc
none_of_them false true unread unchanged is = absurd cc
none_of_them false false true unchanged is = absurd cc
none_of_them false false false true is = absurd cc
none_of_them false false false false is = (refl, refl, refl)

plain : (v : Volume) (n : ℕ) (r : Record) → kind_in v n r ≡ File → IsPlain v n r
unfolding kind_in
plain v n r is =
    let three = none_of_them (is_directory_record r) (is_system (files_by_number v) (count_of v) n (record_links n r)) (is_unread r) (is_unchanged r) is in
    record { directory = three.0; system = three.1; unchanged = three.2 }

user_number : (p : Table) (count n : ℕ) (links : List Link) → is_system p count n links ≡ false → first_user_record ≤ n
unfolding is_system
user_number p count n links is = ltb-false n first_user_record (or_parts (ltb n first_user_record) _ is).0

bytes_change : (r : Record) → is_unchanged r ≡ false → (has_type attribute_list r ≡ false) × (has_hole (data_in r) ≡ false)
unfolding is_unchanged data_stream
bytes_change r is =
    let last = or_parts (has_type attribute_list r || is_sparse (data_flags r)) (has_hole (data_in r)) is in
    ((or_parts (has_type attribute_list r) (is_sparse (data_flags r)) last.0).0, last.1)

-- ---- its names

names_kept : (c : Content) (g : Geometry) (clusters : ℕ) (v : Volume) (n : ℕ) (r : Record) → Stands c g clusters v → file_in v n ≡ Some r → keeps_names n r (record_links n r) ≡ true
unfolding broken_1 keeps_1
names_kept c g clusters v n r state file =
    sym (ap (at_file (λ q. keeps_names n q (record_links n q))) file) ∙ passes_below (keeps_1 (files_by_number v)) (count_of v) (rules_of c v state.kept).rule_1 n (inside_list v.files n r (some_file v n r file))

-- a file of a user has standard information
info_there : (n : ℕ) (r : Record) → keeps_names n r (record_links n r) ≡ true → first_user_record ≤ n → is_directory_record r ≡ false → has_type standard_information r ≡ true
unfolding keeps_names
info_there n r rule low file =
    let four = (and_parts _ _ rule).0 in
    let three = (and_parts _ _ four).0 in
    let third = (and_parts _ _ three).1 in
    sym (ap₂ (λ (x y : Bool). not (x && not y) || has_type standard_information r) (le-leb first_user_record n low) file) ∙ third

-- ---- all of it

-- A file of a user, of one record of its own, which has standard information; its data has no sparse run.
pub record IsOwned (v : Volume) (n : ℕ) (r : Record) : Type 0 where
  pub user : first_user_record ≤ n
  pub own : IsOwnFile v n r
  pub info : has_type standard_information r ≡ true
  pub whole : has_hole (data_in r) ≡ false

pub is_owned : (c : Content) (g : Geometry) (clusters : ℕ) (v : Volume) (n : ℕ) (r : Record) (a : Node) → Stands c g clusters v → IsChangeable c v n r a → IsOwned v n r
is_owned c g clusters v n r a state k =
    let is = plain v n r (files_are.shows c v n r a k).kind in
    let low : first_user_record ≤ n = user_number (files_by_number v) (count_of v) n (record_links n r) is.system in
    let both = bytes_change r is.unchanged in
    record {
      user = low;
      own = record { file = k.file; apart = record { table = λ same. omega (arith, same, low); bitmap = λ same. omega (arith, same, low); upcase = λ same. omega (arith, same, low) }; no_list = both.0 };
      info = info_there n r (names_kept c g clusters v n r state k.file) low is.directory;
      whole = both.1;
    }

-- its data as a stream that may come to have other clusters or sizes
pub own_stream : (v : Volume) (n : ℕ) (r : Record) (old : Stream) → IsOwned v n r → data_in r ≡ Some old → IsOwnStream v n data_type [] r old
own_stream v n r old k is = record {
  file = k.own.file;
  apart = k.own.apart;
  no_list = k.own.no_list;
  placeable = record { not_info = refl; not_name = refl };
  no_root = λ e. omega (arith, e);
  no_entries = inr entries_named;
  stream = is;
}
