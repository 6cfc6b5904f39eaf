use Rattle.stream_rules.proofs.Steps.{streams_shapeless, streams_shaped}
use Rattle.stream_rules.proofs.streams.keeps_streams.Goals as goal

pub returns-then-not-branch-clause-value : goal.returns-then-not-branch-clause-value
returns-then-not-branch-clause-value g c = streams_shapeless _ c.args.per c.args.clusters c.args.number c.args.file.now c.in_ok-keeps_shape.field-0 c.in_ok-keeps_shape.ensures c.if-not-branch.true

pub returns-clause-value : goal.returns-clause-value
returns-clause-value g c = streams_shaped _ c.args.per c.args.clusters c.args.number c.args.file.now c.in_ok-keeps_shape.field-0 _ c.in_ok-keeps_shape.ensures c.if-not-branch.false c.keeps_untorn.ensures.value
