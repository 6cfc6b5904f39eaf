use Rattle.std.proofs.Common.{◌+◌, ◌/◌, length, refl, ap, ◌∙◌, arith}
use Rattle.file_writes.proofs.Lengths.{reach}
use Rattle.file_writes.proofs.Joins.{sizes_put}
use Rattle.file_writes.proofs.sizes.put_sizes.Goals as goal

pub put_bytes-requires : goal.put_bytes-requires
put_bytes-requires g c = record {
  place =
      let is = c.deref.ensures.value ∙ c.in_ok-bytes.ensures in
      omega (arith, ap length is, c.place_of-at.ensures, reach c.args.op.now c.args.node.now, c.requires.ends);
}

pub returns-clause-put : goal.returns-clause-put
returns-clause-put g c =
    sizes_put (g.V.View.content c.args.draft.now.view.now) c.args.per c.args.streams.now c.args.number c.args.op.now c.args.node.now c.args.stamp c.args.resized.now ((c.args.node.now.valid + 511) / 512) c.place_of-at.result c.deref.result.now c.args.draft.now.touched.items _ _ _
    c.requires.per refl c.place_of-at.ensures (c.deref.ensures.value ∙ c.in_ok-bytes.ensures) c.in_ok-put_record.ensures.put
    (rw c.in_ok-put_record.ensures.asks.same at c.in_ok-put_bytes.ensures.touched)
    (rw (c.in_ok-put_bytes.ensures.asks.same, c.in_ok-put_record.ensures.asks.same) at c.in_ok-put_times_behind.ensures.put)
