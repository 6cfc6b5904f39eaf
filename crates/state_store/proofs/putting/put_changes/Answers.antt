use Rattle.std.proofs.Common.{subst, sym, ◌∙◌}
use Rattle.std.proofs.lemmas.Bool.{eqb-true}
use Rattle.std.proofs.lemmas.List.{nil_from_length}
use Rattle.std.proofs.lemmas.List.Elements.{recursion_from_All}
use Rattle.same_names.specs.map_change.Parts.{live_parts}
use Rattle.turn_laws.specs.txn_state.States.{StateOf, facts_of, IsStore}
use Rattle.turn_laws.specs.txn_core.Views.{present_content}
use Rattle.state_store.specs.Changes.{MayLog}
use Rattle.state_store.proofs.Sparing.{some_length}
use Rattle.state_store.proofs.Outcomes.{nothing_put, all_maps, all_writable, holds_again}
use Rattle.state_store.proofs.putting.put_changes.Goals as goal

pub returns-then-is_empty-clause-put : goal.returns-then-is_empty-clause-put
returns-then-is_empty-clause-put g c =
    nothing_put c.args.changes.now (g.D.Device.gives c.args.store.now.device) (g.D.Device.sector_count c.args.store.now.device) c.args.store.now.state (g.D.Device.changes_of c.args.store.now.device) (live_parts c.args.live.now) c.args.upper.now (nil_from_length _ (eqb-true _ _ (sym c.is_empty.ensures ∙ c.if-is_empty.true)))
    c.requires.holds.closed (subst (λ (s : StateOf). IsStore (facts_of s)) c.state.ensures c.known.ensures) (g.met.D.Device.whole c.args.store.now.device) c.requires.holds.shown

pub put_some-requires-clause-maps : goal.put_some-requires-clause-maps
put_some-requires-clause-maps g c = all_maps (g.R.NamesRule.may c.args.rule.now) (live_parts c.args.live.now) c.args.upper.now c.args.changes.now (present_content (g.D.Device.gives c.args.store.now.device) c.args.store.now.state) c.requires.holds.shown c.requires.leads c.requires.allowed

pub put_some-requires-clause-writable : goal.put_some-requires-clause-writable
put_some-requires-clause-writable g c = all_writable (live_parts c.args.live.now) c.args.upper.now c.args.changes.now (present_content (g.D.Device.gives c.args.store.now.device) c.args.store.now.state) c.requires.leads

pub returns-clause-holds : goal.returns-clause-holds
returns-clause-holds g c =
    holds_again c.put_some.result c.args.changes.now _ _ _ _ _ _ (live_parts c.args.live.now) (live_parts c.put_some.new.live) c.args.upper.now
    (some_length c.args.changes.now (sym c.is_empty.ensures ∙ c.if-is_empty.false)) (c.known-2.ensures.shut c.requires.holds.closed) (recursion_from_All (MayLog (facts_of c.args.store.now.state)) c.args.changes.now c.requires.each) c.requires.apart c.requires.holds c.requires.leads c.put_some.ensures.put
