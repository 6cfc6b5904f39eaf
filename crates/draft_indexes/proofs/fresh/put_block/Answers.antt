use Rattle.std.proofs.Common.{length}
use Rattle.disk_model.specs.declared.block.BlockKind.TheVariants.{Index}
use Rattle.stream_map.proofs.Reading.{kind-block_at}
use Rattle.draft_indexes.proofs.Empty.{kind_of_size}
use Rattle.draft_indexes.proofs.fresh.put_block.Goals as goal

pub put-requires : goal.put-requires
put-requires g c = record { size = kind_of_size (length c.args.body.now) c.in-Some.block.kind (kind-block_at c.args.per _ Index _ c.in-Some.block c.in-Some.ensures) c.requires.size }
