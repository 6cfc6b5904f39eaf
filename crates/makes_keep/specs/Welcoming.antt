-- What a mount asks of a volume's attribute lists and names, beside its rules: a volume with a file more has it too.
use Rattle.std.specs.Prelude.{◌≡◌, ℕ, ◌≤◌, List, None}
use Rattle.disk_model.specs.Content.{Content}
use Rattle.record_model.specs.Records.{Record}
use Rattle.file_tree.specs.declared.node.Node.{Node}
use Rattle.file_tree.specs.Walks.{child_in}
use Rattle.index_model.specs.Trees.{Tree}
use Rattle.made_trees.specs.made_files.index_change.declared.nodes_plan.NodesPlan.{NodesPlan}
use Rattle.state_model.specs.declared.geometry.Geometry.{Geometry}
use Rattle.state_model.specs.declared.stream.Extents.{Extents}
use Rattle.state_model.specs.Trees.{all_links}
use Rattle.volume_model.specs.Volumes.{Volume, count_of, file_in, files_by_number}
use Rattle.volume_state.specs.Journals.{extend_file, journal_name}
use Rattle.plan_draft.specs.declared.touched.Touched.{Touched}
use Rattle.written_values.specs.step_model.Placing.{Growth}
use Rattle.written_values.specs.file_puts.declared.streams.VolumeStreams.{VolumeStreams}
use Rattle.writes_keep.specs.names_stay.Lists.{lists_in}
use Rattle.made_trees.specs.file_makes.declared.newfile.NewFile.{NewFile}
use Rattle.made_trees.specs.Created.{made_volume}
use Rattle.made_trees.specs.Behind.{MakesFileBehind, HasMadeFileBehind}
use Rattle.makes_keep.specs.Makes.{GrowsWell}

-- No file of the second volume has more attribute lists than of the first; and where by this table of upper-case units no name in the one leads to a change journal, none does in the other.
pub record StaysWelcome (v w : Volume) : Type 0 where
  pub lists : (i : ℕ) → lists_in (file_in w i) ≤ lists_in (file_in v i)
  pub journal : (upper : List ℕ) → child_in upper (all_links (files_by_number v) (count_of v)) extend_file journal_name ≡ None → child_in upper (all_links (files_by_number w) (count_of w)) extend_file journal_name ≡ None

-- The volume behind a new file stays so.
abbrev pub MadeStaysWelcome : Type 0
MadeStaysWelcome = (c : Content) (g : Geometry) (clusters : ℕ) (v : Volume) (s : VolumeStreams) (numbers : Extents) (m : NewFile) (a : Node) (r : Record) (growths : List Growth) (u : Volume) (q : Record) (grown : List Touched) (value : List ℕ) (used : ℕ) (t : Tree) (fresh : List ℕ) (nodes : NodesPlan) (timed new : List Touched)
    → (k : MakesFileBehind c g clusters v s numbers m a r growths u q grown value used t fresh nodes timed new) → GrowsWell c v m.parent.number u grown → HasMadeFileBehind c g clusters v m a growths new (made_volume c u s m q k.made.put.plan timed) → StaysWelcome v (made_volume c u s m q k.made.put.plan timed)
