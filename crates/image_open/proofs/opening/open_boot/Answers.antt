use Rattle.std.proofs.Common.{Ok}
use Rattle.std.proofs.lemmas.Result.{err_from_is_err_and}
use Rattle.disk_model.specs.Content.{Content}
use Rattle.boot_sector.specs.BootSectors.{clusters}
use Rattle.image_open.specs.Volumes.{geometry_of, recovered_in, Opened, opened_by}
use Rattle.image_open.proofs.Steps.{fails_first, opened}
use Rattle.image_open.proofs.opening.open_boot.Goals as goal

pub returns-in_err-blocks-clause-answer : goal.returns-in_err-blocks-clause-answer
unfolding opened_by
returns-in_err-blocks-clause-answer g c =
    let p = err_from_is_err_and c.from_residual.result c.from_residual.ensures.1 in
    rw (p.1, p.2) (fails_first _ (λ (content : Content). content) (λ (o : Opened). o) _ (λ content. recovered_in content (geometry_of c.args.boot.now) (clusters c.args.boot.now) c.args.sectors)
    (λ _ content. Ok (record { geometry = geometry_of c.args.boot.now; total = clusters c.args.boot.now; content = content })) (rw (c.geometry_of-geometry.ensures.value, c.clusters_of-total.ensures.value) at c.in_err-blocks.ensures.answer))

pub returns-clause-answer : goal.returns-clause-answer
returns-clause-answer g c = opened _ (record { geometry = c.geometry_of-geometry.result; total = c.clusters_of-total.result; blocks = c.in_ok-blocks.blocks }) c.args.boot.now c.args.sectors c.geometry_of-geometry.ensures.value c.clusters_of-total.ensures.value c.in_ok-blocks.ensures.answer
