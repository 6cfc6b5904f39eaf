use Rattle.volume_check.proofs.Steps.{four_stops, four_goes_on}
use Rattle.volume_check.proofs.rules.from_4.Goals as goal

pub returns-in-Some-clause-value : goal.returns-in-Some-clause-value
returns-in-Some-clause-value g c = four_stops _ c.args.volume.now.map.now c.in_ok-number.field-0 c.in-Some.number c.in-Some.is c.in_ok-number.ensures.value

pub returns-in_ok-from_5-in-None-clause-value : goal.returns-in_ok-from_5-in-None-clause-value
returns-in_ok-from_5-in-None-clause-value g c =
    four_goes_on _ c.args.volume.now.map.now c.in_ok-number.field-0 c.in_ok-from_5-in-None.field-0 c.in-None.is c.in_ok-from_5-in-None.ensures c.in_ok-number.ensures.value
