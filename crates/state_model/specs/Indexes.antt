-- The index of a directory, where it stands in its record.
use Rattle.std.specs.Prelude.{Bool, ◌&&◌, ◌==◌, nat_eq}
use Rattle.std.specs.Cmp.Lexicographic.{pointwise}
use Rattle.record_model.specs.declared.attribute.Attr.{Attr}
use Rattle.record_model.specs.Constants.{index_root, names_index}

unfoldable pub is_names_root : Attr → Bool
is_names_root a = a.head.kind == index_root && pointwise nat_eq a.name names_index
