use Rattle.std.proofs.Common.{ap, arith}
use Rattle.writing_run.proofs.running.run_opened.Goals as goal

pub returns : goal.returns
returns g c = record {
  behind = c.run_turns.new.volume;
  closed = c.close-closed.result.0;
  runs = c.run_turns.ensures;
  closes = c.close-closed.ensures.closes;
  few = omega (arith, ap g.D.Device.fault_count c.device.ensures, c.faults-faults.ensures, c.faults-faults.type_inv);
  cause = c.close-closed.ensures.cause;
  flushes = c.is_flushed.ensures;
}
