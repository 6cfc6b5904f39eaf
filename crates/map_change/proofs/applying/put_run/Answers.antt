use Rattle.std.proofs.Common.{sym, ◌∙◌, arith}
use Rattle.map_change.proofs.Marked.{run_put}
use Rattle.map_change.proofs.applying.put_run.Goals as goal

pub returns-then-run : goal.returns-then-run
returns-then-run c =
    run_put c.args.run c.args.bits.now c.set_run.new.self c.min-len.result
    (record { same_count = c.set_run.ensures.same_count; inside = λ i low high. c.set_run.ensures.inside i low high ∙ sym c.if-run.true; others = c.set_run.ensures.others })
    (λ i below inside. omega (arith, below, inside, c.min-len.ensures, c.bits-count.ensures)) (omega (arith, c.min-len.ensures))

pub returns-else-run : goal.returns-else-run
returns-else-run c =
    run_put c.args.run c.args.bits.now c.clear_run.new.self c.min-len.result
    (record { same_count = c.clear_run.ensures.same_count; inside = λ i low high. c.clear_run.ensures.inside i low high ∙ sym c.if-run.false; others = c.clear_run.ensures.others })
    (λ i below inside. omega (arith, below, inside, c.min-len.ensures, c.bits-count.ensures)) (omega (arith, c.min-len.ensures))
