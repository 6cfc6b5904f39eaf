-- The units of a key.
use Rattle.std.proofs.Common.{◌≡◌, true, ℕ, ◌+◌, ◌*◌, List, length, drop, refl, ◌∙◌}
use Rattle.std.proofs.lemmas.List.FromFn.{fill_by_all}
use Rattle.byteorder.specs.Endian.{IsRead, little_number}
use Rattle.record_model.specs.disk_model.Numbers.{field}
use Rattle.index_node.proofs.disk_model.Fields.{field-drop}
use Rattle.record_model.specs.Attributes.{units_at}
use Rattle.record_model.specs.Values.{is_file_name}
use Rattle.record_model.proofs.FileNames.{lawful_parts}

pub read_units : (key values : List ℕ) → IsRead little_number 2 (drop 0x42 key) values → values ≡ units_at 0x42 (length values) key
unfolding units_at field
read_units key values read = fill_by_all (λ i. field (0x42 + 2 * i) 2 key) values (length values) 0 refl (λ k lt. read k lt ∙ field-drop (2 * k) 2 0x42 key)

-- how long a key is
pub key_size : (key : List ℕ) → is_file_name key ≡ true → length key ≡ 0x42 + 2 * field 0x40 1 key
key_size key h = (lawful_parts key h).size
