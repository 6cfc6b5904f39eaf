use Rattle.bit_set.specs.Words.{word_bit}
use Rattle.bit_set.proofs.Searches.{first_met}
use Rattle.bit_set.proofs.summary.step.Goals as goal

pub returns-clause-met : goal.returns-clause-met
returns-clause-met c = λ from met.
    let added = c.stretch.ensures (word_bit c.args.words.now) c.run_end-first.ensures.same c.run_end-end.ensures.same in
    let whole = c.merge.ensures (word_bit c.args.words.now) from c.run_end-end.result met.runs added in
    record {
      runs = whole;
      lowest = λ long. first_met (word_bit c.args.words.now) from c.args.met.to c.run_end-first.result c.run_end-end.result c.args.want.len c.args.met.runs c.merge.result met.runs whole c.requires.short long c.run_end-first.ensures.same c.run_end-end.ensures.same c.run_end-end.ensures.order;
    }
