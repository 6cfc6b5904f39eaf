use Rattle.log_record.proofs.Checked.{answer_fits, answer_inside}
use Rattle.log_record.proofs.reading.read.Goals as goal

pub returns-clause-fits : goal.returns-clause-fits
returns-clause-fits c = answer_fits c.args.bytes.now c.entry.result (λ k. (c.type_inv.bytes k).fits) c.entry.ensures

pub returns-clause-inside : goal.returns-clause-inside
returns-clause-inside c = answer_inside c.args.bytes.now c.entry.result c.entry.ensures
