use Rattle.stream_runs.proofs.Parts.{total-front, total-back, uses_parts, follow-front}
use Rattle.stream_runs.proofs.Places.{places-front, past-front}
use Rattle.stream_runs.proofs.laws.streams_shrink.Goals as goal

pub returns : goal.returns
returns c = record {
  total = total-front;
  rest = total-back;
  clusters = uses_parts;
  spelled = λ clusters runs spelled. follow-front 0 0 clusters runs spelled;
  places = places-front;
  past = past-front;
}
