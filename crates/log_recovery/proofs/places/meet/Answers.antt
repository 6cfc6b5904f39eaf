use Rattle.std.proofs.Common.{ℕ, true, cond, ap, ◌∙◌}
use Rattle.std.specs.Ordering.{eq_by_cmp}
use Rattle.std.specs.BTreeSet.{contains}
use Rattle.log_recovery.specs.Places.{key_of, key_order}
use Rattle.log_recovery.proofs.Placing.{met_at}
use Rattle.log_recovery.proofs.places.meet.Goals as goal

pub returns-clause-met : goal.returns-clause-met
returns-clause-met c = λ b.
    let old = contains key_order c.args.met.now (key_of b) in
    met_at c.args.block b old (contains key_order c.insert.new.self (key_of b))
    (c.in_ok-insert.ensures.updates.0 (key_of b) ∙ ap (λ (key : ℕ × ℕ). cond (eq_by_cmp key_order key (key_of b)) true old) c.key_of.ensures)
