use Rattle.file_writes.proofs.Cases.{sized_to, sized_again}
use Rattle.file_writes.proofs.clusters.with_sizes.Goals as goal

pub returns-clause-value : goal.returns-clause-value
returns-clause-value c =
    sized_to c.args.per c.size_after-real.result c.valid_after-initialised.result c.args.grown.now.extents c.in_ok-file.file _ c.args.op.now c.args.node.now c.in_ok-new.new c.requires.per c.in_ok-file.ensures.value c.size_after-real.ensures c.valid_after-initialised.ensures c.in_ok-new.ensures.value

pub returns-clause-room : goal.returns-clause-room
returns-clause-room c =
    sized_again c.args.grown.now c.in_ok-new.new _ _ c.requires.room c.requires.lies
    (sized_to c.args.per c.size_after-real.result c.valid_after-initialised.result c.args.grown.now.extents c.in_ok-file.file _ c.args.op.now c.args.node.now c.in_ok-new.new c.requires.per c.in_ok-file.ensures.value c.size_after-real.ensures c.valid_after-initialised.ensures c.in_ok-new.ensures.value)
    c.in_ok-new.ensures.fits
