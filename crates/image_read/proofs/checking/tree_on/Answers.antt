use Rattle.file_tree.specs.declared.tree.Tree.{Tree}
use Rattle.image_open.specs.volume_map.Maps.{volume_in, IsMapOf}
use Rattle.volume_check.specs.volume_state.Trees.{checked}
use Rattle.image_read.specs.Checks.{tree_on}
use Rattle.image_read.proofs.Rules.{check_error, check_value}
use Rattle.image_read.proofs.checking.tree_on.Goals as goal

pub returns-in-Ok-clause-answer : goal.returns-in-Ok-clause-answer
unfolding tree_on
returns-in-Ok-clause-answer g c = check_value _ (λ content. IsMapOf content c.args.map.now) _ (λ content. checked content (volume_in c.args.map.now)) c.in-Ok.ensures.value

pub returns-in-Err-clause-answer : goal.returns-in-Err-clause-answer
unfolding tree_on
returns-in-Err-clause-answer g c =
    check_error _ (λ content. IsMapOf content c.args.map.now) (λ (t : Tree). t) (λ (t : Tree). t) _ _ (λ content. checked content (volume_in c.args.map.now)) c.error_of.ensures.value c.in-Err.ensures.value
