use Rattle.volume_links.specs.Plain.{Grows}
use Rattle.volume_links.proofs.Declining.{AsTheRest}
use Rattle.volume_links.proofs.Plainly.{Plainly}
use Rattle.volume_links.proofs.plain.take_all.Given as goal

abbrev pub invariant-loop : goal.invariant-loop
invariant-loop l = record {
  plainly : Plainly l.child l.bytes l.rest l.counter l.least l.initial.links.items l.links.items;
  judged : AsTheRest l.bytes l.rest l.counter l.least;
  grows : Grows l.initial.links.items l.links.items;
}
