use Rattle.std.proofs.Common.{ℕ, List, ◌++◌, ap, ◌∙◌, arith}
use Rattle.file_record.proofs.attr_codec.Pushed.{no_zero, zero_pushed}
use Rattle.record_writer.proofs.Filling.{filled_by}
use Rattle.record_writer.proofs.normal.filled.Goals as goal

pub loop-init : goal.loop-init
loop-init c = c.in_ok-extend_from_slice.ensures.items ∙ ap (λ (l : List ℕ). l ++ c.args.pairs.now) c.new-bytes.ensures.items ∙ no_zero c.args.pairs.now

pub loop-preserved : goal.loop-preserved
loop-preserved c = zero_pushed c.args.pairs.now c.loop.bytes.items _ c.loop.counter c.loop.invariant c.in_ok-push.ensures.items

pub returns : goal.returns
returns c = record { value = c.from.ensures ∙ filled_by c.args.pairs.now c.loop.bytes.items c.loop.counter c.loop.invariant (omega (arith, c.lacking-end.ensures, c.loop-test.false, c.loop.auto.counter-end)) }
