use Rattle.std.proofs.lemmas.Result.{err_from_is_err_and}
use Rattle.file_tree.specs.declared.tree.Tree.{Tree}
use Rattle.image_open.specs.volume_map.Maps.{volume_in, IsMapOf}
use Rattle.image_open.proofs.volume_map.Mapped.{met}
use Rattle.image_open.proofs.Steps.{fails_at_once, goes_on_at_once}
use Rattle.image_read.specs.Checks.{has_version, tree_on, volume_tree}
use Rattle.image_read.proofs.checking.volume_tree.Goals as goal

pub returns-in_err-check_version-clause-answer : goal.returns-in_err-check_version-clause-answer
unfolding volume_tree
returns-in_err-check_version-clause-answer g c =
    let p = err_from_is_err_and c.from_residual.result c.from_residual.ensures.1 in
    rw (p.1, p.2) (fails_at_once _ (λ (x : Unit {0}). x) (λ (t : Tree). t) _ (has_version (volume_in c.args.map.now)) (λ content _. tree_on content (volume_in c.args.map.now)) c.in_err-check_version.ensures.answer)

pub returns-clause-answer : goal.returns-clause-answer
unfolding volume_tree
returns-clause-answer g c =
    goes_on_at_once _ (λ (t : Tree). t) c.in_ok-check_version.field-0 c.tree_on.result (has_version (volume_in c.args.map.now)) (λ content _. tree_on content (volume_in c.args.map.now)) c.in_ok-check_version.ensures.answer
    (met _ (λ content. IsMapOf content c.args.map.now) _ c.requires.parts c.tree_on.ensures.answer)
