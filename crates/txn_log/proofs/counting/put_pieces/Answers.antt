use Rattle.std.proofs.Common.{◌+◌, ◌-◌, refl, ◌∙◌, arith}
use Rattle.txn_log.proofs.Counts.{piece_more, no_piece}
use Rattle.txn_log.proofs.counting.put_pieces.Goals as goal
use Rattle.txn_log.proofs.counting.put_pieces.Goals.{then-left-gt0, else-left-gt0}

pub pieces-preserved : goal.pieces-preserved
pieces-preserved c =
    elim c.if-left-gt0.branch [
      | then-left-gt0 w ↦ record {
        below = rw w.filled-is w.put-filled.ensures.below;
        counted = λ sizes.
            piece_more c.pieces.filled.pages c.pieces.filled.free c.if-left-gt0.filled.pages c.if-left-gt0.filled.free w.update_size.result (3 - c.pieces.counter) (3 - (c.pieces.counter + 1)) c.pieces.left c.if-left-gt0.left w.min-count.result
            (omega arith) (omega arith) w.min-count.ensures w.left-is w.update_size.ensures.value (rw w.filled-is w.put-filled.ensures.free) (rw w.filled-is w.put-filled.ensures.pages) sizes
            ∙ c.pieces.invariant.counted sizes;
      }
      | else-left-gt0 w ↦ record {
        below = rw w.filled-is c.pieces.invariant.below;
        counted = λ sizes.
            no_piece c.pieces.filled.pages c.pieces.filled.free c.if-left-gt0.filled.pages c.if-left-gt0.filled.free (3 - c.pieces.counter) (3 - (c.pieces.counter + 1)) c.pieces.left c.if-left-gt0.left
            (omega arith) w.left-is (rw w.filled-is refl) (rw w.filled-is refl) sizes
            ∙ c.pieces.invariant.counted sizes;
      }
    ]
