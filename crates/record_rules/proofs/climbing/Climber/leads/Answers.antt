use Rattle.std.proofs.Common.{length, ◌∙◌}
use Rattle.state_model.specs.Trees.{leads}
use Rattle.state_model.specs.Loads.{table_in}
use Rattle.record_rules.proofs.Ascents.{made_here}
use Rattle.record_rules.proofs.Climbs.{rooted_past}
use Rattle.record_rules.proofs.climbing.Climber.leads.Goals as goal

pub returns-in-Some : goal.returns-in-Some
returns-in-Some c = record {
  value = (let records = c.args.self.now.records.now in made_here (leads (table_in records) (length records)) (length records) c.args.number c.in-Some.rooted.now c.deref.result.now (c.deref.ensures.value ∙ c.args.self.now.climbed.rooted) c.in-Some.ensures.lookup.3.0 c.in-Some.ensures.lookup.1);
}

pub returns-in-None : goal.returns-in-None
returns-in-None c = record { value = rooted_past c.args.self.now.records.now c.deref.result.now c.args.number (c.deref.ensures.value ∙ c.args.self.now.climbed.rooted) c.in-None.ensures.lookup.3 }
