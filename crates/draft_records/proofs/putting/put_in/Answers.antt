use Rattle.std.proofs.Common.{length}
use Rattle.record_model.specs.disk_model.declared.block.BlockKind.TheVariants.{FileRec}
use Rattle.resized_streams.proofs.stream_map.Reading.{kind-block_at}
use Rattle.draft_records.proofs.Steps.{kind_of_size}
use Rattle.draft_records.proofs.putting.put_in.Goals as goal

pub put-requires : goal.put-requires
put-requires g c = record { size = kind_of_size (length c.args.bytes.now) c.in-Some.block.kind (kind-block_at c.args.per _ FileRec _ c.in-Some.block c.in-Some.ensures) c.requires.size }
