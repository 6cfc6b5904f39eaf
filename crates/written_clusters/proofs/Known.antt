-- What is known of a file whose bytes can be changed: its number, its record and its unnamed data.
use Rattle.std.proofs.Common.{◌≡◌, ◌≢◌, ℕ, ◌<◌, ◌≤◌, Bool, true, false, not, ◌&&◌, ◌||◌, cond, eqb, nat_eq, leb, [], Some, refl, sym, ap, ap₂, ◌∙◌, inl, inr, arith}
use Rattle.std.specs.Cmp.Lexicographic.{pointwise}
use Rattle.std.proofs.lemmas.Bool.{cases_lt, and_parts, or_parts, ne_eqb, le-leb}
use Rattle.disk_model.specs.declared.block.BlockKind.TheVariants.{Plain, FileRec, Index}
use Rattle.disk_model.specs.Content.{Content}
use Rattle.record_model.specs.Constants.{attribute_list, data_type, index_allocation, standard_information}
use Rattle.record_model.specs.Records.{Record}
use Rattle.file_tree.specs.declared.node.Kind.TheVariants.{Directory, File, Fixed, Opaque, System}
use Rattle.file_tree.specs.declared.node.Node.{Node}
use Rattle.file_tree.specs.Walks.{first_user_record}
use Rattle.state_model.specs.declared.geometry.Geometry.{Geometry}
use Rattle.state_model.specs.declared.stream.Stream.{Stream}
use Rattle.state_model.specs.Files.{is_directory_record, has_type, record_links}
use Rattle.state_model.specs.Loads.{data_stream}
use Rattle.state_model.specs.Rules.{implies, at_file, keeps_names, keeps_1}
use Rattle.state_model.specs.Trees.{is_system}
use Rattle.written_values.specs.volume_model.Volumes.{Volume, count_of, files_by_number, table_file, mirror_file}
use Rattle.written_values.specs.volume_model.Nodes.{data_flags, has_sparse_run, is_unread, is_unchanged, kind_in, shows_data}
use Rattle.state_model.specs.Files.{is_sparse}
use Rattle.written_values.specs.volume_model.Sizes.{has_hole}
use Rattle.written_values.specs.volume_state.Rules.{broken_1}
use Rattle.written_values.specs.stream_laws.Owners.{stream_kind}
use Rattle.written_values.proofs.stream_laws.Tabling.{inside_list}
use Rattle.written_values.proofs.tree_laws.Keeping.{rules_of, passes_below}
use Rattle.written_values.specs.plan_owners.States.{Stands}
use Rattle.written_values.proofs.plan_owners.Standing.{some_file}
use Rattle.written_values.specs.plan_model.Informed.{IsApart}
use Rattle.state_streams.specs.plan_growth.Streams.{IsOwnStream, key_of}
use Rattle.state_streams.proofs.plan_growth.Resizing.{no_system_shown}
use Rattle.written_values.specs.plan_values.Values.{IsOwnFile}
use Rattle.written_values.proofs.plan_values.Valued.{entries_named}
use Rattle.written_values.specs.plan_changes.Files.{IsChangeable, own_data, Shows}
use Rattle.written_values.proofs.plan_changes.Showing.{files_are}

-- a kind is that of a file where none of the others applies
file_tests : (d s u x : Bool) → cond d Directory (cond s System (cond u Opaque (cond x Fixed File))) ≡ File → (d ≡ false) × (x ≡ false)
file_tests true s u x is = absurd cc
file_tests false true u x is = absurd cc
file_tests false false true x is = absurd cc
file_tests false false false true is = absurd cc
file_tests false false false false is = (refl, refl)

from_implied : (a b : Bool) → a ≡ true → implies a b ≡ true → b ≡ true
from_implied true b is all = all
from_implied false b is all = absurd cc

module _ (c : Content) (g : Geometry) (clusters : ℕ) (v : Volume) (n : ℕ) (r : Record) (a : Node) (state : Stands c g clusters v) (k : IsChangeable c v n r a) where
  pub shown : Shows c v n r a
  shown = files_are.shows c v n r a k

  tests : (is_directory_record r ≡ false) × (is_unchanged r ≡ false)
  unfolding kind_in
  tests = file_tests (is_directory_record r) (is_system (files_by_number v) (count_of v) n (record_links n r)) (is_unread r) (is_unchanged r) shown.kind

  pub user : first_user_record ≤ n
  user = elim (cases_lt n first_user_record) [
    | inl below ↦ absurd (no_system_shown v n r below (ap shows_data shown.kind))
    | inr least ↦ least
  ]

  pub apart : IsApart n
  apart = (let least = user in record { table = λ same. omega (arith, same, least); bitmap = λ same. omega (arith, same, least); upcase = λ same. omega (arith, same, least) })

  pub no_mirror : n ≢ mirror_file
  no_mirror same = (let least = user in omega (arith, same, least))

  unchanged : (has_type attribute_list r ≡ false) × (has_sparse_run r ≡ false)
  unfolding is_unchanged
  unchanged =
      let parts = or_parts (has_type attribute_list r || is_sparse (data_flags r)) (has_sparse_run r) tests.1 in
      ((or_parts (has_type attribute_list r) (is_sparse (data_flags r)) parts.0).0, parts.1)

  -- its data has no sparse run
  pub whole : has_hole (own_data r) ≡ false
  unfolding data_stream
  whole = unchanged.1

  below : n < count_of v
  below = inside_list v.files n r (some_file v n r k.file)

  rule_1 : keeps_names n r (record_links n r) ≡ true
  unfolding broken_1 keeps_1
  rule_1 = sym (ap (at_file (λ (x : Record). keeps_names n x (record_links n x))) k.file) ∙ passes_below (keeps_1 (files_by_number v)) (count_of v) (rules_of c v state.kept).rule_1 n below

  -- a file of a user has standard information
  pub informed : has_type standard_information r ≡ true
  unfolding keeps_names
  informed =
      let parts = (and_parts _ _ (and_parts _ _ (and_parts _ _ rule_1).0).0).1 in
      from_implied (leb first_user_record n && not (is_directory_record r)) (has_type standard_information r) (ap₂ (λ (x y : Bool). x && not y) (le-leb first_user_record n user) tests.0) parts

  pub own_file : IsOwnFile v n r
  own_file = record { file = k.file; apart = apart; no_list = unchanged.0 }

  pub own_stream : (s : Stream) → own_data r ≡ Some s → IsOwnStream v n data_type [] r s
  own_stream s is = record {
    file = k.file;
    apart = apart;
    no_list = unchanged.0;
    placeable = record { not_info = refl; not_name = refl };
    no_root = λ same. omega (arith, same);
    no_entries = inr entries_named;
    stream = is;
  }

  -- its data is sectors
  pub plain : stream_kind (key_of n data_type []) ≡ Plain
  unfolding stream_kind
  plain = ap₂ (λ (x y : Bool). cond ((x || y) && eqb data_type data_type && pointwise nat_eq [] []) FileRec (cond (eqb data_type index_allocation) Index Plain)) (ne_eqb n table_file apart.table) (ne_eqb n mirror_file no_mirror)
