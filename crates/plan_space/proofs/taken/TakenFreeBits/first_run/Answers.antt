use Rattle.std.proofs.Common.{◌+◌, sym, ◌∙◌, arith}
use Rattle.plan_space.proofs.Spanning.{first_with, passed_more, no_first_with, is_barrier, as_slice}
use Rattle.plan_space.proofs.taken.TakenFreeBits.first_run.Goals as goal

pub returns-in-None : goal.returns-in-None
returns-in-None c = first_with c.args.self.now.spans.items c.args.self.now.base.now c.loop-first.from c.args.len c.bits-end.result c.in-Some.first c.bits-end.ensures c.loop-first.invariant c.in-Some.ensures (as_slice _ _ c.in-Some.first (c.in-Some.first + c.args.len) c.deref.ensures.value ∙ sym c.in-None.ensures)

pub loop-first-preserved : goal.loop-first-preserved
loop-first-preserved c = passed_more c.args.self.now.spans.items c.args.self.now.base.now c.loop-first.from c.args.len c.bits-end.result c.in-Some.first c.in-Some-barrier.next c.bits-end.ensures c.requires c.args.self.now.some c.loop-first.invariant c.in-Some.ensures (as_slice _ _ c.in-Some.first (c.in-Some.first + c.args.len) c.deref.ensures.value ∙ sym c.in-Some-barrier.ensures)

pub loop-first-smaller : goal.loop-first-smaller
loop-first-smaller c =
    (let b = is_barrier c.args.self.now.spans.items c.in-Some.first (c.in-Some.first + c.args.len) c.in-Some-barrier.next c.args.self.now.some (as_slice _ _ c.in-Some.first (c.in-Some.first + c.args.len) c.deref.ensures.value ∙ sym c.in-Some-barrier.ensures) in
    let found = c.in-Some.ensures in
    omega (arith, b.behind, found.behind, found.inside, c.requires, c.bits-end.ensures))

pub returns : goal.returns
returns c = no_first_with c.args.self.now.spans.items c.args.self.now.base.now c.loop-first.from c.args.len c.loop-first.invariant (λ i from inside. c.in_default.ensures i from (omega (arith, inside, c.bits-end.ensures)))
