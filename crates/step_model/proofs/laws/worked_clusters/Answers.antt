use Rattle.std.proofs.Common.{refl}
use Rattle.space_model.specs.Choosing.{clear_front, longest_clear, lowest_fit, with_run, at_once, chosen_anywhere, behind, chosen, with_runs}
use Rattle.stream_runs.specs.Runs.{merged, grown, front}
use Rattle.step_model.specs.Placing.{runs_after}
use Rattle.step_model.proofs.laws.worked_clusters.Goals as goal

pub returns : goal.returns
unfolding clear_front longest_clear lowest_fit with_run at_once chosen_anywhere behind chosen with_runs merged grown front runs_after
returns c = record {
  placed = (refl, (refl, tt));
  behind = refl;
  new = refl;
  cut = refl;
}
