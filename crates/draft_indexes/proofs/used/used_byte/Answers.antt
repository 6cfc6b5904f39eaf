use Rattle.std.proofs.Common.{◌+◌, ◌^◌, cond, ap, ◌∙◌, Bool, arith}
use Rattle.draft_indexes.specs.Growing.{is_used}
use Rattle.draft_indexes.proofs.Bits.{no_bits, bit_more, byte_fits}
use Rattle.draft_indexes.proofs.used.used_byte.Goals as goal

pub loop-k-init : goal.loop-k-init
loop-k-init c = record { sum = no_bits (λ k. is_used c.args.first c.args.end c.args.bits.now (c.args.at + k)) }

pub overflow_add-byte : goal.overflow_add-byte
overflow_add-byte c =
    let small = byte_fits (λ k. is_used c.args.first c.args.end c.args.bits.now (c.args.at + k)) c.loop-k.k c.loop-k.byte c.low_bit-byte.result c.loop-k-test.true c.loop-k.invariant.sum (c.low_bit-byte.ensures ∙ ap (λ (t : Bool). cond t (2 ^ c.loop-k.k) 0) c.is_used.ensures) in
    omega (arith, small)

pub loop-k-preserved : goal.loop-k-preserved
loop-k-preserved c = record {
  sum =
      bit_more (λ k. is_used c.args.first c.args.end c.args.bits.now (c.args.at + k)) c.loop-k.k c.loop-k.byte c.low_bit-byte.result c.loop-k.invariant.sum (c.low_bit-byte.ensures ∙ ap (λ (t : Bool). cond t (2 ^ c.loop-k.k) 0) c.is_used.ensures);
}
