use Rattle.std.proofs.Common.{sym, ◌∙◌}
use Rattle.volume_map.proofs.Steps.{block_kind}
use Rattle.volume_map.proofs.walk.table_found.Goals as goal

pub read_found-requires : goal.read_found-requires
read_found-requires g c = block_kind _ _ _ _ _ (sym c.block_at.ensures ∙ c.in-Some.is)
