use Rattle.std.proofs.Common.{length, ◌∙◌}
use Rattle.state_model.specs.Trees.{is_in_system}
use Rattle.state_model.specs.Loads.{table_in}
use Rattle.record_rules.proofs.Ascents.{made_here}
use Rattle.record_rules.proofs.Climbs.{system_past}
use Rattle.record_rules.proofs.climbing.Climber.is_in_system.Goals as goal

pub returns-in-Some : goal.returns-in-Some
returns-in-Some c = (let records = c.args.self.now.records.now in made_here (is_in_system (table_in records) (length records)) (length records) c.args.directory c.in-Some.in_system.now c.deref.result.now (c.deref.ensures.value ∙ c.args.self.now.climbed.in_system) c.in-Some.ensures.lookup.3.0 c.in-Some.ensures.lookup.1)

pub returns-in-None : goal.returns-in-None
returns-in-None c = c.is_own_past.ensures ∙ system_past c.args.self.now.records.now c.deref.result.now c.args.directory (c.deref.ensures.value ∙ c.args.self.now.climbed.in_system) c.in-None.ensures.lookup.3
