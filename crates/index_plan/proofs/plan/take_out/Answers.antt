use Rattle.std.proofs.Common.{◌≡◌, ◌≤◌, ◌<◌, Bool, IfOk, IfErr, OnOk, IsTrue, subst}
use Rattle.index_plan.specs.declared.plan.Rooted.{Rooted}
use Rattle.index_plan.specs.Faults.{OnlyDeep}
use Rattle.index_plan.specs.Lists.{settle}
use Rattle.index_plan.specs.Takings.{instead}
use Rattle.index_plan.proofs.Chains.{removed_is, full_is}
use Rattle.index_plan.proofs.plan.take_out.Goals as goal

pub returns-in_ok-pending-in-Some-2-clause-plan : goal.returns-in_ok-pending-in-Some-2-clause-plan
returns-in_ok-pending-in-Some-2-clause-plan c =
    let settled : settle c.in-Some.frame.vcn (instead c.in-Some.frame.at c.in-Some.frame.node c.args.key) c.args.draft ≡ record { pending = c.in_ok-pending-in-Some.pending; plan = c.settle.new.self } = cc (c.in_ok-pending-in-Some.ensures, c.put_instead-in-Some.ensures, c.into_parts-vcn.ensures.vcn, c.into_parts-vcn.ensures.node, c.into_parts-vcn.ensures.at) in
    subst (λ (r : Rooted). IfOk c.take_root.result (λ p. p ≡ r))
    (removed_is c.args.room c.args.root c.args.at c.args.path.items c.pop.new.self.items c.in-Some.frame c.args.key c.args.draft _ _ c.in-Some.ensures.items settled c.in_ok-pending-in-Some-2.ensures)
    c.take_root.ensures.plan

pub returns-in_ok-pending-in-Some-2-clause-deep : goal.returns-in_ok-pending-in-Some-2-clause-deep
returns-in_ok-pending-in-Some-2-clause-deep c =
    let settled : settle c.in-Some.frame.vcn (instead c.in-Some.frame.at c.in-Some.frame.node c.args.key) c.args.draft ≡ record { pending = c.in_ok-pending-in-Some.pending; plan = c.settle.new.self } = cc (c.in_ok-pending-in-Some.ensures, c.put_instead-in-Some.ensures, c.into_parts-vcn.ensures.vcn, c.into_parts-vcn.ensures.node, c.into_parts-vcn.ensures.at) in
    subst (λ (b : Bool). IfErr c.take_root.result (λ e. OnlyDeep e (λ h. (h ≡ c.args.height) × (16 ≤ c.args.height) × IsTrue b)))
    (full_is c.args.room c.args.root c.args.at c.args.path.items c.pop.new.self.items c.in-Some.frame c.args.key c.args.draft _ _ c.in-Some.ensures.items settled c.in_ok-pending-in-Some-2.ensures)
    c.take_root.ensures.deep

pub returns-in_ok-pending-in-Some-2-clause-level : goal.returns-in_ok-pending-in-Some-2-clause-level
returns-in_ok-pending-in-Some-2-clause-level c =
    let settled : settle c.in-Some.frame.vcn (instead c.in-Some.frame.at c.in-Some.frame.node c.args.key) c.args.draft ≡ record { pending = c.in_ok-pending-in-Some.pending; plan = c.settle.new.self } = cc (c.in_ok-pending-in-Some.ensures, c.put_instead-in-Some.ensures, c.into_parts-vcn.ensures.vcn, c.into_parts-vcn.ensures.node, c.into_parts-vcn.ensures.at) in
    subst (λ (b : Bool). OnOk c.take_root.result (IsTrue b → c.args.height < 16))
    (full_is c.args.room c.args.root c.args.at c.args.path.items c.pop.new.self.items c.in-Some.frame c.args.key c.args.draft _ _ c.in-Some.ensures.items settled c.in_ok-pending-in-Some-2.ensures)
    c.take_root.ensures.level
