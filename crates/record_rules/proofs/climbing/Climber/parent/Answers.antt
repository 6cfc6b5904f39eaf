use Rattle.std.proofs.Common.{◌∙◌}
use Rattle.record_rules.proofs.Ascents.{parent_here, parent_past}
use Rattle.record_rules.proofs.climbing.Climber.parent.Goals as goal

pub returns-in-Some : goal.returns-in-Some
returns-in-Some c = record { value = parent_here c.args.self.now.records.now c.deref.result.now c.args.number c.in-Some.parent.now (c.deref.ensures.value ∙ c.args.self.now.climbed.parents) c.in-Some.ensures.lookup.3.0 c.in-Some.ensures.lookup.1 }

pub returns-in-None : goal.returns-in-None
returns-in-None c = record { value = parent_past c.args.self.now.records.now c.deref.result.now c.args.number (c.deref.ensures.value ∙ c.args.self.now.climbed.parents) c.in-None.ensures.lookup.3 }
