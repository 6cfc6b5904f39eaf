use Rattle.log_reading.proofs.Ahead.{IsSought}
use Rattle.log_reading.proofs.laps.next_page.Given as goal

abbrev pub invariant-loop-run : goal.invariant-loop-run
invariant-loop-run l = IsSought l.place l.page l.run-index l.sought
