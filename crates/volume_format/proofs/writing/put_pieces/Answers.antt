use Rattle.std.proofs.Common.{◌+◌, ◌*◌, ◌/◌, length, refl, ◌∙◌, arith}
use Rattle.volume_format.proofs.Calls.{began_none, began_more}
use Rattle.volume_format.proofs.Pieces.{piece_more, no_piece}
use Rattle.volume_format.proofs.Stopping.{any_err, piece_torn}
use Rattle.volume_format.proofs.Crashing.{none_stays, stays_then}
use Rattle.volume_format.proofs.writing.put_pieces.Goals as goal

pub loop-piece-init : goal.loop-piece-init
loop-piece-init g c = record { image = no_piece c.args.filling c.args.cluster (g.D.Device.gives c.args.device.now); sectors = refl; moment = omega arith; changes = began_none (g.D.Device.changes_of c.args.device.now); above = none_stays _ _ _; counted = refl }

pub loop-piece-preserved : goal.loop-piece-preserved
loop-piece-preserved g c = record {
  image =
      piece_more c.args.filling c.args.cluster (65536 * c.loop-piece.piece) (length c.loop-piece.room) (65536 * (c.loop-piece.piece + 1)) _ _ _
      (omega arith) (omega (arith, c.loop-piece.auto.room, c.requires.room)) c.loop-piece.invariant.image c.in_ok-put_piece.ensures.image;
  sectors = c.put_piece.ensures.sectors ∙ c.loop-piece.invariant.sectors;
  moment = omega (arith, c.loop-piece.invariant.moment, c.in_ok-put_piece.ensures.moment);
  changes = began_more c.loop-piece.piece 0 1 0 (c.loop-piece.piece + 1) 0 _ _ _ (omega arith) refl c.loop-piece.invariant.changes c.in_ok-put_piece.ensures.changes;
  above =
      stays_then (8 * c.args.cluster + 128 * c.args.count) (8 * c.args.cluster + 65536 * c.loop-piece.piece / 512 + length c.loop-piece.room / 512) _ _ _ _ _ _
      (omega arith) (omega (arith, c.loop-piece.auto.room, c.requires.room, c.loop-piece-test.true)) (omega (arith, c.loop-piece.invariant.moment)) c.loop-piece.invariant.above c.in_ok-put_piece.ensures.above;
  counted = c.in_ok-put_piece.ensures.cause.unfailed ∙ c.loop-piece.invariant.counted;
}

pub returns-in_err-put_piece-clause-torn : goal.returns-in_err-put_piece-clause-torn
returns-in_err-put_piece-clause-torn g c =
    any_err c.from_residual.result
    (piece_torn c.args.filling c.args.cluster (65536 * c.loop-piece.piece) (length c.loop-piece.room) (65536 * c.args.count) _ _ _
    (omega arith) (omega (arith, c.loop-piece.auto.room, c.requires.room)) (omega (arith, c.loop-piece.auto.room, c.requires.room, c.loop-piece-test.true)) c.loop-piece.invariant.image c.in_err-put_piece.ensures.torn)

pub returns-in_err-put_piece-clause-above : goal.returns-in_err-put_piece-clause-above
returns-in_err-put_piece-clause-above g c =
    stays_then (8 * c.args.cluster + 128 * c.args.count) (8 * c.args.cluster + 65536 * c.loop-piece.piece / 512 + length c.loop-piece.room / 512) _ _ _ _ _ _
    (omega arith) (omega (arith, c.loop-piece.auto.room, c.requires.room, c.loop-piece-test.true)) (omega (arith, c.loop-piece.invariant.moment)) c.loop-piece.invariant.above c.in_err-put_piece.ensures.above
