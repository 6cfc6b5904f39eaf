-- How many attribute lists a file has that an operation writes or cuts, and all others.
use Rattle.std.specs.Prelude.{◌≡◌, ℕ, ◌==◌, Bool, List, count_by, Option, Some, None}
use Rattle.disk_model.specs.Content.{Content}
use Rattle.record_model.specs.declared.attribute.Attr.{Attr}
use Rattle.record_model.specs.Constants.{attribute_list}
use Rattle.record_model.specs.Records.{Record}
use Rattle.file_tree.specs.declared.node.Node.{Node}
use Rattle.state_model.specs.declared.geometry.Geometry.{Geometry}
use Rattle.volume_model.specs.Volumes.{Volume, file_in, cluster_bits}
use Rattle.tree_model.specs.declared.script.Op.{Op}
use Rattle.plan_draft.specs.declared.touched.Touched.{Touched}
use Rattle.made_data.specs.data_plan.declared.change.DataChange.{DataChange}
use Rattle.made_data.specs.data_plan.Changes.{growth_of}
use Rattle.made_data.specs.Made.{record_with_data}
use Rattle.written_values.specs.file_puts.declared.streams.VolumeStreams.{VolumeStreams}
use Rattle.written_values.specs.file_puts.Written.{WritesBy, HasWritten}

abbrev pub is_list : Attr → Bool
is_list a = a.head.kind == attribute_list

-- how many of them are attribute lists
abbrev pub lists_of : List Attr → ℕ
lists_of attrs = count_by is_list attrs

-- how many attribute lists a file has
abbrev pub lists_in : Option Record → ℕ
lists_in None = 0
lists_in (Some r) = lists_of r.attrs

-- Where a draft has put what comes of a file's data, by its record or by that with data which is empty, and the operation is done, each file of the volume behind it has as many attribute
-- lists as before.
abbrev pub WritesKeepLists : Type 0
WritesKeepLists = (c : Content) (g : Geometry) (clusters : ℕ) (v : Volume) (s : VolumeStreams) (op : Op) (n stamp : ℕ) (a : Node) (r : Record) (change : DataChange) (new : List Touched) → WritesBy c g clusters v s op n stamp a r (record_with_data r) change new
    → (h : HasWritten c g clusters v op n stamp a (growth_of (cluster_bits c v) r op a) new) → (m : ℕ) → lists_in (file_in h.after m) ≡ lists_in (file_in v m)
