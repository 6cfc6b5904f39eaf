use Rattle.std.proofs.Common.{ℕ, cond, Some, ap, ◌∙◌}
use Rattle.std.specs.Ordering.{eq_by_cmp}
use Rattle.std.specs.BTreeMap.{get}
use Rattle.log_recovery.specs.Places.{key_of, key_order}
use Rattle.log_recovery.proofs.Placing.{put_at}
use Rattle.log_recovery.proofs.places.put.Goals as goal

pub returns : goal.returns
returns c = λ b.
    let old = get key_order c.args.places.now (key_of b) in
    put_at c.args.block b old (get key_order c.insert.new.self (key_of b)) c.args.place
    (c.in_ok-insert.ensures.updates.0 (key_of b) ∙ ap (λ (key : ℕ × ℕ). cond (eq_by_cmp key_order key (key_of b)) (Some c.args.place) old) c.key_of.ensures)
