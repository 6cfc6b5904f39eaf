use Rattle.std.proofs.Common.{◌+◌, ◌-◌, length, refl}
use Rattle.disk_model.specs.Bytes.{zeros, up8}
use Rattle.record_model.specs.Attributes.{filled}
use Rattle.record_model.proofs.UnitBytes.{length-zeros}
use Rattle.index_node.proofs.Placing.{put_first, put_next}
use Rattle.index_node.proofs.writing.put_key.Goals as goal

pub returns : goal.returns
unfolding filled
returns c =
    let key = c.args.key.now in
    let count = up8 (0x10 + length key) - (0x10 + length key) in
    (put_next (zeros count) count (c.args.at + length key) (put_first key (length key) refl c.put_bytes.ensures) (length-zeros count) refl c.put_zeros.ensures).put
