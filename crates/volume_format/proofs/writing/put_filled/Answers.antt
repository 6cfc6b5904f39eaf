use Rattle.std.proofs.Common.{◌+◌, ◌*◌, ◌/◌, length, arith}
use Rattle.std.proofs.lemmas.Result.{on_ok_weaker}
use Rattle.volume_format.proofs.Pieces.{piece_more}
use Rattle.std.proofs.lemmas.Result.{on_err_weaker}
use Rattle.volume_format.proofs.Stopping.{any_err, piece_torn, front_torn}
use Rattle.volume_format.proofs.Calls.{began_more}
use Rattle.std.proofs.Common.{refl}
use Rattle.volume_format.proofs.Crashing.{stays_above, stays_then}
use Rattle.volume_format.proofs.writing.put_filled.Goals as goal

pub returns-clause-image : goal.returns-clause-image
returns-clause-image g c =
    on_ok_weaker c.put_piece.result
    (λ put. piece_more c.args.filling c.args.cluster (65536 * (c.args.bytes / 65536)) (length c.split_at_mut.result.0.now) c.args.bytes _ _ _ (omega arith) (omega (arith, c.split_at_mut.ensures.front_len)) c.in_ok-put_pieces.ensures.image put)
    c.put_piece.ensures.image

pub returns-clause-moment : goal.returns-clause-moment
returns-clause-moment g c = on_ok_weaker c.put_piece.result (λ e. omega (arith, e, c.in_ok-put_pieces.ensures.moment)) c.put_piece.ensures.moment

pub returns-in_err-put_pieces-clause-torn : goal.returns-in_err-put_pieces-clause-torn
returns-in_err-put_pieces-clause-torn g c =
    any_err c.from_residual.result
    (front_torn c.args.filling c.args.cluster (65536 * (c.args.bytes / 65536)) c.args.bytes _ _ (omega arith) (omega arith) c.in_err-put_pieces.ensures.torn)

pub returns-clause-torn : goal.returns-clause-torn
returns-clause-torn g c =
    on_err_weaker c.put_piece.result
    (λ torn. piece_torn c.args.filling c.args.cluster (65536 * (c.args.bytes / 65536)) (length c.split_at_mut.result.0.now) c.args.bytes _ _ _
    (omega arith) (omega (arith, c.split_at_mut.ensures.front_len, c.requires.whole)) (omega (arith, c.split_at_mut.ensures.front_len)) c.in_ok-put_pieces.ensures.image torn)
    c.put_piece.ensures.torn

pub returns-clause-changes : goal.returns-clause-changes
returns-clause-changes g c =
    on_ok_weaker c.put_piece.result (λ e. began_more (c.args.bytes / 65536) 0 1 0 _ 0 _ _ _ (omega arith) refl c.in_ok-put_pieces.ensures.changes e) c.put_piece.ensures.changes

pub returns-in_err-put_pieces-clause-above : goal.returns-in_err-put_pieces-clause-above
returns-in_err-put_pieces-clause-above g c = stays_above _ _ _ _ _ (omega arith) c.in_err-put_pieces.ensures.above

pub returns-clause-above : goal.returns-clause-above
returns-clause-above g c =
    stays_then _ (8 * c.args.cluster + 65536 * (c.args.bytes / 65536) / 512 + length c.split_at_mut.result.0.now / 512) _ _ _ _ _ _
    (omega arith) (omega (arith, c.split_at_mut.ensures.front_len, c.requires.whole)) (omega (arith, c.in_ok-put_pieces.ensures.moment)) c.in_ok-put_pieces.ensures.above c.put_piece.ensures.above
