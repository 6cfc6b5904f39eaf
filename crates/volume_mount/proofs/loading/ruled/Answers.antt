use Rattle.std.proofs.lemmas.Result.{err_from_is_err_and}
use Rattle.file_tree.specs.declared.tree.Tree.{Tree}
use Rattle.image_read.specs.volume_map.Maps.{volume_in, IsMapOf}
use Rattle.image_read.proofs.volume_map.Mapped.{met}
use Rattle.image_read.proofs.image_open.Steps.{fails_first, okay}
use Rattle.image_read.specs.Checks.{tree_on}
use Rattle.volume_mount.specs.Mounts.{ruled}
use Rattle.volume_mount.proofs.Chained.{ruled_is}
use Rattle.volume_mount.proofs.loading.ruled.Goals as goal

pub returns-in_err-tree_on-clause-answer : goal.returns-in_err-tree_on-clause-answer
unfolding ruled
returns-in_err-tree_on-clause-answer g c =
    let p = err_from_is_err_and c.from_residual.result c.from_residual.ensures.1 in
    rw (p.1, p.2) (fails_first _ (λ (t : Tree). t) (λ (_ : Unit {0}). volume_in c.args.map.now) _ (λ content. tree_on content (volume_in c.args.map.now)) (λ _ _. okay (volume_in c.args.map.now))
    (met _ (λ content. IsMapOf content c.args.map.now) _ c.requires.parts c.in_err-tree_on.ensures.answer))

pub returns-clause-answer : goal.returns-clause-answer
returns-clause-answer g c = ruled_is _ (volume_in c.args.map.now) c.in_ok-tree_on.field-0 (met _ (λ content. IsMapOf content c.args.map.now) _ c.requires.parts c.in_ok-tree_on.ensures.answer)
