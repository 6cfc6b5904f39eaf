use Rattle.std.proofs.Common.{◌∙◌, arith, subst}
use Rattle.turn_laws.specs.txn_state.States.{StateOf, facts_of, IsStore}
use Rattle.state_store.proofs.Going.{may_here, goes_here, stops_here, ends_here}
use Rattle.state_store.proofs.logging.change_all.Goals as goal

pub change-requires : goal.change-requires
change-requires g c = record {
  may = may_here _ _ _ _ _ c.args.changes.now c.loop-change.change-index c.change-item.result c.as_slice.result.now c.pages_are_enough.ensures c.loop-change.invariant.gives
      (subst (λ (s : StateOf). IsStore (facts_of s)) c.state.ensures c.known.ensures) c.is_near.ensures c.as_slice.ensures c.loop-change-test.true c.change-item.is c.loop-change.invariant.goes;
}

pub returns-in-Err-clause-windows : goal.returns-in-Err-clause-windows
returns-in-Err-clause-windows g c =
    (stops_here _ _ _ _ _ _ _ _ _ c.args.changes.now c.loop-change.change-index c.change-item.result c.in-Err.fault c.loop-change.invariant.changes c.in-Err.ensures.changes c.loop-change-test.true c.change-item.is c.in-Err.ensures.facts c.in-Err.ensures.step c.loop-change.invariant.goes).1

pub loop-change-preserved : goal.loop-change-preserved
loop-change-preserved g c = record {
  goes = goes_here _ _ _ _ _ _ _ _ _ _ c.args.changes.now c.loop-change.change-index c.change-item.result c.as_slice.result.now c.pages_are_enough.ensures c.loop-change.invariant.gives c.loop-change.invariant.changes c.in-Ok.ensures.changes
      (subst (λ (s : StateOf). IsStore (facts_of s)) c.state-in-loop-change.ensures c.known-in-loop-change.ensures) c.is_near.ensures c.as_slice.ensures c.loop-change-test.true c.change-item.is c.in-Ok.ensures.facts c.in-Ok.ensures.step c.loop-change.invariant.goes;
  gives = c.in-Ok.ensures.gives ∙ c.loop-change.invariant.gives;
  changes = c.in-Ok.ensures.changes ∙ c.loop-change.invariant.changes;
  sectors = c.in-Ok.ensures.sectors ∙ c.loop-change.invariant.sectors;
  faults = c.in-Ok.ensures.cause ∙ c.loop-change.invariant.faults;
  onwards = omega (arith, c.loop-change.invariant.onwards, c.in-Ok.ensures.onwards.onwards);
}

pub returns-clause-windows : goal.returns-clause-windows
returns-clause-windows g c =
    (ends_here _ _ _ _ c.args.changes.now c.loop-change.change-index (let e = c.loop-change-test.false in omega (arith, e)) c.loop-change.invariant.goes).1
