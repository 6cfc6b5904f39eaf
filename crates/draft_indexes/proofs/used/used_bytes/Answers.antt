use Rattle.std.proofs.Common.{length, refl, ap, ◌∙◌, arith}
use Rattle.draft_indexes.specs.Growing.{is_used}
use Rattle.draft_indexes.proofs.Bits.{no_bytes, byte_more, bytes_count}
use Rattle.draft_indexes.proofs.used.used_bytes.Goals as goal

pub loop-j-init : goal.loop-j-init
loop-j-init c = record { value = c.in_ok-bytes.ensures.items ∙ no_bytes (is_used c.args.first c.args.end c.args.bits.now) }

pub loop-j-preserved : goal.loop-j-preserved
loop-j-preserved c = record { value = c.in_ok-push.ensures.items ∙ byte_more (is_used c.args.first c.args.end c.args.bits.now) c.loop-j.j c.loop-j.j _ _ refl c.loop-j.invariant.value c.used_byte.ensures }

pub returns-clause-short : goal.returns-clause-short
returns-clause-short c =
    let long = ap length (c.from.ensures ∙ c.loop-j.invariant.value) ∙ bytes_count (is_used c.args.first c.args.end c.args.bits.now) c.loop-j.j in
    omega (arith, long, c.loop-j.auto.j-end, c.max-count.ensures, c.requires.short, c.requires.size)
