use Rattle.file_tree.specs.declared.tree.Tree.{Tree}
use Rattle.host_base.specs.Answers.{GivesOrFails}
use Rattle.volume_tree.specs.volume_map.Maps.{volume_in}
use Rattle.volume_state.specs.Trees.{checked}
use Rattle.volume_check.specs.Errors.{check_cause}
use Rattle.volume_check.proofs.Chain.{known_parts}
use Rattle.volume_check.proofs.checking.check_named.Goals as goal

pub returns-clause-value : goal.returns-clause-value
returns-clause-value g c =
    known_parts _ c.args.volume.now.map.now c.in_ok-upper.upper (λ content. GivesOrFails (λ (t : Tree). t) check_cause c.check_ordered.result (checked content (volume_in c.args.volume.now.map.now))) c.in_ok-upper.ensures.value
    (rw c.in_ok-upper.ensures.kept.same at c.check_ordered.ensures.value)
