-- Layouts of devices, and arrays that are in shape.
use Rattle.std.proofs.Common.{◌≡◌, ℕ, ◌+◌, ◌≤◌, true, List, ◌++◌, length, refl, ap, ◌∙◌, add-one, arith}
use Rattle.disk_model.specs.Fixups.{array_at, array_count, is_in_shape}
use Rattle.disk_model.proofs.Protection.{shape_from}
use Rattle.record_model.specs.Nodes.{Node, node_spelling}
use Rattle.record_model.proofs.NodeSpelling.{node_place, node_count}
use Rattle.volume_format.specs.declared.layout.Layout.{Layout}
use Rattle.volume_format.specs.Layouts.{IsLayout, layout_of, clusters_of}
use Rattle.volume_format.specs.Files.{record_bytes, table_bytes}

-- a device that isn't refused has a layout
pub layout_fits : (device : ℕ) → clusters_of device ≤ 16777216 → 4537 ≤ device → IsLayout (layout_of device)
unfolding layout_of
layout_fits device small large = record {
  inside = omega arith;
  clusters = refl;
  small = small;
  log_some = omega arith;
  log_small = omega arith;
  bitmap_some = omega arith;
  bitmap_small = omega arith;
  bitmap_whole = omega arith;
}

-- the array of a written block is in shape
pub node_shape : (n : Node) (out : List ℕ) → out ≡ node_spelling n → length out ≡ 4096 → is_in_shape out ≡ true
node_shape n out e size =
    let place : array_at out ≡ 0x28 = ap array_at e ∙ node_place n in
    let count : array_count out ≡ 9 = ap array_count e ∙ node_count n in
    shape_from out (omega arith) (omega arith) (omega arith)

-- one record more
pub table_more : (v : Layout) (time n : ℕ) → table_bytes v time (n + 1) ≡ table_bytes v time n ++ record_bytes v time n
unfolding table_bytes
table_more v time n = rw add-one refl
