use Rattle.record_model.specs.disk_model.declared.block.BlockKind.TheVariants.{FileRec}
use Rattle.resized_streams.proofs.stream_map.Reading.{kind-block_at}
use Rattle.draft_records.proofs.reading.file.Goals as goal

pub read_in-requires : goal.read_in-requires
read_in-requires g c = kind-block_at c.args.per _ FileRec _ c.in-Some.block c.in-Some.ensures
