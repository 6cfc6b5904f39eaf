use Rattle.std.proofs.Common.{sym, ap, ◌∙◌, ◌*◌}
use Rattle.disk_model.specs.declared.block.BlockKind.{BlockKind}
use Rattle.disk_model.specs.Sectors.{sectors}
use Rattle.volume_map.proofs.Steps.{block_kind}
use Rattle.volume_links.proofs.scanning.read_body.Goals as goal

pub returns-in_ok-body-in-Some-clause-size : goal.returns-in_ok-body-in-Some-clause-size
returns-in_ok-body-in-Some-clause-size g c = λ _.
    c.in_ok-body-in-Some.ensures.size ∙ ap (λ (k : BlockKind). 512 * sectors k) (block_kind _ _ _ _ _ (sym c.block_at.ensures ∙ c.in-Some.is))
