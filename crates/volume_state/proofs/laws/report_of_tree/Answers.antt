use Rattle.volume_state.proofs.Reports.{holds, reports, breaks}
use Rattle.volume_state.proofs.laws.report_of_tree.Goals as goal

pub returns : goal.returns
returns c = record { holds = holds; reports = reports; breaks = breaks }
