use Rattle.stream_rules.proofs.Steps.{bitmap_short, bitmap_long}
use Rattle.stream_rules.proofs.volume.keeps_sizes.Goals as goal

pub returns-then-not-branch-clause-value : goal.returns-then-not-branch-clause-value
returns-then-not-branch-clause-value g c = bitmap_short _ c.args.per c.args.clusters c.args.number c.args.files.now c.in_ok-keeps_bitmaps.field-0 c.in_ok-keeps_bitmaps.ensures c.if-not-branch.true

pub returns-clause-value : goal.returns-clause-value
returns-clause-value g c = bitmap_long _ c.args.per c.args.clusters c.args.number c.args.files.now c.in_ok-keeps_bitmaps.field-0 _ c.in_ok-keeps_bitmaps.ensures c.if-not-branch.false c.keeps_file.ensures.value
