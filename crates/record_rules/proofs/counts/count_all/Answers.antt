use Rattle.std.proofs.Common.{length, ap, ◌∙◌}
use Rattle.std.proofs.lemmas.List.{length-replicate}
use Rattle.state_model.specs.Loads.{table_in}
use Rattle.record_rules.proofs.Tallies.{starts_at_zero}
use Rattle.record_rules.proofs.counts.count_all.Goals as goal

pub loop-list-init : goal.loop-list-init
loop-list-init c = record {
  size = ap length c.requires.zeros ∙ length-replicate (length c.args.records.now) 0;
  counted = λ n lt. starts_at_zero (table_in c.args.records.now) c.args.counts.now (length c.args.records.now) n c.requires.zeros lt;
}
