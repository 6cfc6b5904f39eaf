use Rattle.std.proofs.Common.{length}
use Rattle.disk_model.specs.declared.block.BlockKind.TheVariants.{FileRec}
use Rattle.draft_bitmaps.proofs.stream_map.Reading.{kind-block_at}
use Rattle.draft_numbers.proofs.draft_records.Steps.{kind_of_size}
use Rattle.draft_growth.proofs.zeros.put_empty.Goals as goal

pub put-requires : goal.put-requires
put-requires g c = record { size = kind_of_size (length c.args.body.now) c.in-Some.block.kind (kind-block_at c.args.per _ FileRec _ c.in-Some.block c.in-Some.ensures) c.requires.size }
