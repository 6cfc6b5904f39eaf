use Rattle.volume_tree.specs.volume_map.Maps.{volume_in}
use Rattle.volume_check.specs.Parts.{AreParts}
use Rattle.volume_check.proofs.Chain.{known_breaks, known_goes_on}
use Rattle.volume_check.proofs.checking.check_ordered.Goals as goal

pub returns-in-Some-clause-value : goal.returns-in-Some-clause-value
returns-in-Some-clause-value g c = known_breaks _ (λ content. AreParts content c.args.volume.now.map.now c.args.upper.now) (volume_in c.args.volume.now.map.now) c.in_ok-broken.field-0 c.in-Some.broken c.in-Some.is c.in_ok-broken.ensures.value

pub returns-in-None-clause-value : goal.returns-in-None-clause-value
returns-in-None-clause-value g c =
    known_goes_on _ (λ content. AreParts content c.args.volume.now.map.now c.args.upper.now) (volume_in c.args.volume.now.map.now) c.in_ok-broken.field-0 c.report.result c.in-None.is c.in_ok-broken.ensures.value (rw c.in_ok-broken.ensures.kept.same at c.report.ensures.value)
