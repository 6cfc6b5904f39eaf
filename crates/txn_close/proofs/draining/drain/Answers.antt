use Rattle.std.proofs.Common.{sym, refl, ◌∙◌}
use Rattle.found_stays.specs.txn_state.States.{facts_of}
use Rattle.found_stays.specs.txn_core.Leading.{dirty_blocks}
use Rattle.found_stays.proofs.txn_core.Leading.{steps_lead_on}
use Rattle.txn_close.proofs.Passing.{fewer_same, goes_none, goes_joined}
use Rattle.txn_close.proofs.Turning.{goes_turned}
use Rattle.txn_close.proofs.Drained.{may_turn, stays_shut, less_to_do, is_drained}
use Rattle.txn_close.proofs.draining.drain.Goals as goal

pub loop-step-init : goal.loop-step-init
loop-step-init g c = (
  c.facts-facts.ensures.but_next,
  c.facts-facts.ensures.kept,
  c.facts-facts.ensures.marked,
  c.facts-facts.ensures.steps,
  record { closed = c.requires.closed; empty = c.requires.empty },
  refl,
  goes_none g.D.Device.sector_count g.D.Device.moment_of g.D.Device.changes_of (facts_of c.args.store.now.state) c.args.store.now (fewer_same (facts_of c.args.store.now.state)),
)

pub turn-requires : goal.turn-requires
turn-requires g c =
    let i = c.loop-step.invariant in
    record { may = may_turn (facts_of c.loop-step.store.state) c.loop-step.facts c.in-Some.step i.3 i.0 i.4.closed (sym c.in-Some.ensures) }

pub returns-in-Err-clause-goes : goal.returns-in-Err-clause-goes
returns-in-Err-clause-goes g c =
    let i = c.loop-step.invariant in
    let may = may_turn (facts_of c.loop-step.store.state) c.loop-step.facts c.in-Some.step i.3 i.0 i.4.closed (sym c.in-Some.ensures) in
    goes_joined g.D.Device.sector_count g.D.Device.moment_of g.D.Device.changes_of (facts_of c.args.store.now.state) c.args.store.now c.loop-step.store c.turn.new.self i.6
    (goes_turned g.D.Device.gives g.D.Device.sector_count g.D.Device.moment_of g.D.Device.changes_of c.loop-step.store c.turn.new.self c.in-Some.step c.turn.result i.3.kept may c.turn.ensures.facts c.turn.ensures.sent c.turn.ensures.sectors c.turn.ensures.step)

pub loop-step-smaller : goal.loop-step-smaller
loop-step-smaller g c =
    let i = c.loop-step.invariant in
    less_to_do c.loop-step.store.state c.turn.new.self.state c.loop-step.facts c.facts-facts-in-Some.result c.in-Some.step i.1 i.4.closed i.0 c.facts-facts-in-Some.ensures.but_next (sym c.in-Some.ensures) c.in-Ok.ensures.facts

pub loop-step-preserved : goal.loop-step-preserved
loop-step-preserved g c =
    let i = c.loop-step.invariant in
    let may = may_turn (facts_of c.loop-step.store.state) c.loop-step.facts c.in-Some.step i.3 i.0 i.4.closed (sym c.in-Some.ensures) in (
      c.facts-facts-in-Some.ensures.but_next,
      c.facts-facts-in-Some.ensures.kept,
      c.facts-facts-in-Some.ensures.marked,
      c.facts-facts-in-Some.ensures.steps,
      stays_shut c.loop-step.facts c.in-Some.step (facts_of c.loop-step.store.state) (facts_of c.turn.new.self.state) (sym c.in-Some.ensures) may c.in-Ok.ensures.facts i.4,
      c.in-Ok.ensures.cause.unfailed ∙ i.5,
      goes_joined g.D.Device.sector_count g.D.Device.moment_of g.D.Device.changes_of (facts_of c.args.store.now.state) c.args.store.now c.loop-step.store c.turn.new.self i.6
          (goes_turned g.D.Device.gives g.D.Device.sector_count g.D.Device.moment_of g.D.Device.changes_of c.loop-step.store c.turn.new.self c.in-Some.step c.turn.result i.3.kept may c.turn.ensures.facts c.turn.ensures.sent c.turn.ensures.sectors c.turn.ensures.step),
    )

pub returns-clause-drained : goal.returns-clause-drained
returns-clause-drained g c =
    let i = c.loop-step.invariant in
    is_drained (facts_of c.loop-step.store.state) c.loop-step.facts (dirty_blocks c.loop-step.store.state) i.1 i.2 i.3 i.0 (steps_lead_on.dirty c.loop-step.store.state) i.4 (sym c.in_default.ensures)
