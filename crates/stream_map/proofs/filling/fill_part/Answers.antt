use Rattle.std.proofs.Common.{length}
use Rattle.disk_model.specs.declared.block.BlockKind.TheVariants.{Plain}
use Rattle.stream_map.proofs.Reading.{kind-block_at, block_filled, nothing_filled}
use Rattle.stream_map.proofs.filling.fill_part.Goals as goal

pub read_part-requires-clause-plain : goal.read_part-requires-clause-plain
read_part-requires-clause-plain g c = kind-block_at c.args.per c.as_slice.result.now Plain _ c.in-Some.block c.in-Some.ensures

pub returns-in-None-clause-bytes : goal.returns-in-None-clause-bytes
returns-in-None-clause-bytes g c = nothing_filled (g.V.View.content c.args.v.now) c.args.per c.args.runs.now c.args.at (length c.args.out.now) c.clear.new.bytes (rw c.as_slice.ensures.value at c.in-None.ensures) c.requires.sector c.clear.ensures

pub returns-in-Some-clause-bytes : goal.returns-in-Some-clause-bytes
returns-in-Some-clause-bytes g c = block_filled (g.V.View.content c.args.v.now) c.read_part.result c.args.per c.args.runs.now c.args.at (length c.args.out.now) c.in-Some.block c.read_part.new.out (g.met.V.View.sized c.args.v.now) (rw c.as_slice.ensures.value at c.in-Some.ensures) c.requires.sector c.read_part.ensures.bytes
