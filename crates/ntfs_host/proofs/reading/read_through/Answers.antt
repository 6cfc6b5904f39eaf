use Rattle.std.proofs.Common.{◌∙◌, refl, arith, take}
use Rattle.std.proofs.KnownBytes.{Consumes-nil, Consumes-trans}
use Rattle.std.proofs.lemmas.List.{length-append, length-take}
use Rattle.ntfs_host.proofs.Losses.{loses_more}
use Rattle.ntfs_host.proofs.reading.read_through.Goals as goal

pub loop-bytes-init : goal.loop-bytes-init
loop-bytes-init g c = (rw c.new-bytes.ensures.items (Consumes-nil _), rw c.new-bytes.ensures.items (omega arith), c.requires, refl)

pub returns-then-count-eq0-clause-consumed : goal.returns-then-count-eq0-clause-consumed
returns-then-count-eq0-clause-consumed g c = rw c.in_ok-count.ensures.grown (Consumes-trans _ _ _ _ _ c.loop-bytes.invariant.0 c.in_ok-count.ensures.consumed)

pub loop-bytes-preserved : goal.loop-bytes-preserved
loop-bytes-preserved g c = (
  rw c.in_ok-count.ensures.grown (Consumes-trans _ _ _ _ _ c.loop-bytes.invariant.0 c.in_ok-count.ensures.consumed),
  rw (c.in_ok-count.ensures.grown, length-append c.loop-bytes.bytes.items (take c.in_ok-count.count c.read_more.new.chunk), length-take c.in_ok-count.count c.read_more.new.chunk) (omega (arith, c.in_ok-count.ensures.few, c.min-room.ensures)),
  omega (arith, c.read_more.auto.chunk, c.loop-bytes.invariant.2),
  c.in_ok-count.ensures.counted ∙ c.loop-bytes.invariant.3,
)

pub returns-in_err-count-clause-most_read : goal.returns-in_err-count-clause-most_read
returns-in_err-count-clause-most_read g c = loses_more _ _ _ _ _ _ c.loop-bytes.invariant.0 (omega (arith, c.min-room.ensures)) c.in_err-count.ensures.most_read
