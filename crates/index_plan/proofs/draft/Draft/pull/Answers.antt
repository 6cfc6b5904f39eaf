use Rattle.std.proofs.Common.{◌≡◌, ℕ, ◌∷◌, List, Some, sym, ap, ◌∙◌, length, arith, ◌≤◌, ◌<◌}
use Rattle.index_plan.specs.Takings.{drawn, taken_from}
use Rattle.index_plan.proofs.Chains.{begun, more, less}
use Rattle.index_plan.proofs.draft.Draft.pull.Goals as goal

pub returns-then-len-gt1-clause-key : goal.returns-then-len-gt1-clause-key
returns-then-len-gt1-clause-key c =
    let many : 1 < length c.in-Some.link.entries = omega arith in
    let all : drawn (begun c.args.freed.now) c.args.chain.items ≡ record { taken = Some (taken_from c.in-Some.link); freed = c.loop-link.freed } = sym c.loop-link.invariant.drawn ∙ more c.loop-link.freed c.loop-link.chain.items c.pop.new.self.items c.in-Some.link many c.in-Some.ensures.items in
    rw all (rw c.in_ok-left.ensures.key (rw c.len-at.ensures))

pub returns-then-len-gt1-clause-plan : goal.returns-then-len-gt1-clause-plan
returns-then-len-gt1-clause-plan c =
    let many : 1 < length c.in-Some.link.entries = omega arith in
    let all : drawn (begun c.args.freed.now) c.args.chain.items ≡ record { taken = Some (taken_from c.in-Some.link); freed = c.loop-link.freed } = sym c.loop-link.invariant.drawn ∙ more c.loop-link.freed c.loop-link.chain.items c.pop.new.self.items c.in-Some.link many c.in-Some.ensures.items in
    rw all (rw c.in_ok-write.ensures (rw c.in_ok-left.ensures.left (rw c.len-at.ensures (rw c.loop-link.invariant.plan))))

pub returns-then-len-gt1-clause-freed : goal.returns-then-len-gt1-clause-freed
returns-then-len-gt1-clause-freed c =
    let many : 1 < length c.in-Some.link.entries = omega arith in
    let all : drawn (begun c.args.freed.now) c.args.chain.items ≡ record { taken = Some (taken_from c.in-Some.link); freed = c.loop-link.freed } = sym c.loop-link.invariant.drawn ∙ more c.loop-link.freed c.loop-link.chain.items c.pop.new.self.items c.in-Some.link many c.in-Some.ensures.items in
    rw all

pub loop-link-preserved : goal.loop-link-preserved
loop-link-preserved c =
    let few : length c.in-Some.link.entries ≤ 1 = omega arith in
    let put : c.put.new.self ≡ c.in-Some.link.vcn ∷ c.loop-link.freed = c.in_ok-put.ensures.put in
    record {
      drawn = ap (λ (l : List ℕ). drawn (begun l) c.pop.new.self.items) put ∙ sym (less c.loop-link.freed c.loop-link.chain.items c.pop.new.self.items c.in-Some.link few c.in-Some.ensures.items) ∙ c.loop-link.invariant.drawn;
      plan = c.loop-link.invariant.plan;
    }
