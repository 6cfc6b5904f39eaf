-- What a walk over an index comes to.
use Rattle.std.specs.Prelude.{List, Option, Some, None, Result, Ok, Err}
use Rattle.index_tree.specs.block_view.declared.fault.ViewFault.TheVariants as views
use Rattle.state_model.specs.file_tree.declared.link.Link.{Link}
use Rattle.index_tree.specs.declared.fault.TreeFault.{TreeFault}
use Rattle.index_tree.specs.declared.fault.TreeFault.TheVariants.{Node, Present, Absent, Deep, View}
use Rattle.directory_index.specs.declared.fault.IndexFault.{IndexFault}
use Rattle.directory_index.specs.declared.fault.IndexFault.TheVariants as faults

-- its links; none where a node is at fault
abbrev pub answer_of : Result (List Link) TreeFault → Result (Option (List Link)) IndexFault
answer_of (Ok links) = Ok (Some links)
answer_of (Err (Node vcn rule)) = Ok None
answer_of (Err Present) = Ok None
answer_of (Err Absent) = Ok None
answer_of (Err (Deep height)) = Ok None
answer_of (Err (View views.Fault)) = Err faults.View
answer_of (Err (View views.Memory)) = Err faults.Memory
