use Rattle.area_laws.proofs.Joined.{writes, sends}
use Rattle.area_laws.proofs.Naming.{restart_names, restart_fails}
use Rattle.area_laws.proofs.laws.calls_are_followed.Goals as goal

pub returns : goal.returns
returns g c = record {
  written = λ s a r q pages fields disk word old new known stands lt sent. writes _ _ _ s a r q pages fields disk word old new known stands lt sent;
  failed = λ s a r q pages fields disk word old new known stands lt fault sent. sends _ _ _ fault s a r q pages fields disk word old new known stands lt sent;
  named = λ s a r q pages fields disk oldest clean word old new known stands may sent. restart_names _ _ _ s a r q pages fields disk oldest clean word old new known stands may sent;
  not_named = λ s a r q pages fields disk oldest clean word old new known stands may fault sent. restart_fails _ _ _ fault s a r q pages fields disk oldest clean word old new known stands may sent;
}
