use Rattle.std.proofs.Common.{arith}
use Rattle.system_files.proofs.Fronts.{standard_known}
use Rattle.system_files.proofs.upper.stream_table.Goals as goal

pub returns-then-real_size-clause-value : goal.returns-then-real_size-clause-value
returns-then-real_size-clause-value g c = standard_known _ c.args.per c.args.stream.now _ (λ h. omega (arith, h)) c.in_ok-standard.ensures.value
