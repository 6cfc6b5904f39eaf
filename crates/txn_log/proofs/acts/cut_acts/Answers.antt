use Rattle.std.proofs.Common.{◌+◌, ◌-◌, refl, arith}
use Rattle.store_pools.specs.txn_model.Pieces.{update_of_piece}
use Rattle.txn_log.proofs.Cuts.{one_more, no_more}
use Rattle.txn_log.proofs.acts.cut_acts.Goals as goal
use Rattle.txn_log.proofs.acts.cut_acts.Goals.{then-left-gt0+in_ok-piece_act+in_ok-push, else-left-gt0}

pub pieces-preserved : goal.pieces-preserved
pieces-preserved c =
    elim c.if-left-gt0.branch [
      | then-left-gt0+in_ok-piece_act+in_ok-push w ↦ record {
        made = one_more (update_of_piece c.args.block c.args.before.now c.args.after.now) _ c.pieces.acts.items (3 - c.pieces.counter) c.pieces.from c.pieces.left c.if-left-gt0.acts.items w.in_ok-piece_act.field-0 (3 - (c.pieces.counter + 1)) c.if-left-gt0.from c.if-left-gt0.left
            w.min-count.result (omega arith) (omega arith) w.min-count.ensures w.from-is w.left-is w.in_ok-piece_act.ensures (rw w.acts-is w.in_ok-push.ensures.items) c.pieces.invariant.made;
        in_before = omega arith;
        in_after = omega arith;
      }
      | else-left-gt0 w ↦ record {
        made = no_more (update_of_piece c.args.block c.args.before.now c.args.after.now) _ c.pieces.acts.items (3 - c.pieces.counter) c.pieces.from c.pieces.left c.if-left-gt0.acts.items (3 - (c.pieces.counter + 1)) c.if-left-gt0.from c.if-left-gt0.left
            (omega arith) w.from-is w.left-is (rw w.acts-is refl) c.pieces.invariant.made;
        in_before = omega arith;
        in_after = omega arith;
      }
    ]
