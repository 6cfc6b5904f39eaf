-- What the answers of the calls below come to.
use Rattle.std.specs.Prelude.{List, Option, Some, None, Result, Ok, Err}
use Rattle.block_view.specs.declared.fault.ViewFault.TheVariants as views
use Rattle.file_tree.specs.declared.link.Link.{Link}
use Rattle.directory_index.specs.index_tree.declared.fault.TreeFault.{TreeFault}
use Rattle.directory_index.specs.index_tree.declared.fault.TreeFault.TheVariants.{Node, Present, Absent, Deep, View}
use Rattle.directory_index.specs.index_tree.declared.place.DirPlace.{DirPlace}
use Rattle.directory_index.specs.index_tree.Places.{place_of}
use Rattle.directory_index.specs.declared.fault.IndexFault.{IndexFault}
use Rattle.directory_index.specs.declared.fault.IndexFault.TheVariants as indexes
use Rattle.tree_lookup.specs.declared.fault.LookupFault.{LookupFault}
use Rattle.tree_lookup.specs.declared.fault.LookupFault.TheVariants as faults
use Rattle.volume_lookup.specs.Found.{Rooted}

abbrev pub rooted_of : DirPlace → Rooted
rooted_of dir = record { place = place_of dir; root = dir.root }

-- what a search of an index comes to; a node at fault is part of no tree
abbrev pub answer_of : Result (List Link) TreeFault → Result (List Link) LookupFault
answer_of (Ok links) = Ok links
answer_of (Err (Node vcn rule)) = Err faults.Broken
answer_of (Err Present) = Err faults.Broken
answer_of (Err Absent) = Err faults.Broken
answer_of (Err (Deep height)) = Err faults.Broken
answer_of (Err (View views.Fault)) = Err faults.Outside
answer_of (Err (View views.Memory)) = Err faults.Memory

-- what a walk over an index comes to
abbrev pub walk_answer : Result (Option (List Link)) IndexFault → Result (List Link) LookupFault
walk_answer (Ok None) = Err faults.Broken
walk_answer (Ok (Some links)) = Ok links
walk_answer (Err indexes.View) = Err faults.Outside
walk_answer (Err indexes.Memory) = Err faults.Memory
