use Rattle.std.proofs.Common.{◌≡◌, take}
use Rattle.std.specs.Prelude.{filter, not, ◌==◌}
use Rattle.file_tree.specs.host_base.declared.file_ref.FileRef.{FileRef}
use Rattle.tree_model.proofs.making.others.Given as goal

abbrev pub invariant-loop-reference : goal.invariant-loop-reference
invariant-loop-reference l = l.list ≡ filter (λ (r : FileRef). not (r.number == l.number)) (take l.reference-index l.refs)
