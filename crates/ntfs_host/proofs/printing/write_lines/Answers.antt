use Rattle.std.proofs.Common.{◌∙◌}
use Rattle.std.proofs.lemmas.List.{take-append-drop}
use Rattle.host_base.proofs.Appending.{one_more, part_behind}
use Rattle.ntfs_host.proofs.printing.write_lines.Goals as goal

pub loop-rest-preserved : goal.loop-rest-preserved
loop-rest-preserved g c = (
  rw c.split_at.ensures.back (one_more _ _ _ _ _ c.line_length.result c.loop-rest.invariant.0 (rw c.split_at.ensures.front at c.in-Ok.ensures.ok)),
  c.in-Ok.ensures.cause.unfailed ∙ c.loop-rest.invariant.1,
)

pub returns-in-Err-clause-err : goal.returns-in-Err-clause-err
returns-in-Err-clause-err g c =
    part_behind _ _ _ c.loop-rest.invariant.0.front c.split_at.result.0.now c.split_at.result.1.now c.args.text.now
    (rw (c.split_at.ensures.front, c.split_at.ensures.back, take-append-drop c.line_length.result c.loop-rest.rest.now) c.loop-rest.invariant.0.whole)
    c.loop-rest.invariant.0.appended c.in-Err.ensures.err
