use Rattle.std.proofs.Common.{subst, List, length, ◌<◌, sym, ◌∙◌, refl}
use Rattle.std.proofs.lemmas.Bool.{eqb-true}
use Rattle.std.proofs.lemmas.List.{nil_from_length}
use Rattle.disk_model.specs.declared.block.Change.{Change}
use Rattle.plans_lead.specs.map_change.Parts.{live_parts}
use Rattle.plans_lead.specs.txn_state.States.{StateOf, facts_of, IsStore}
use Rattle.put_checks.proofs.state_store.Sparing.{some_length}
use Rattle.working_volume.proofs.Putting.{none_to_put}
use Rattle.working_volume.proofs.changing.put_plan.Goals as goal

pub returns-then-is_empty : goal.returns-then-is_empty
returns-then-is_empty g c =
    record {
      puts = none_to_put g.D.Device.gives g.D.Device.sector_count g.D.Device.changes_of g.D.Device.fault_count g.D.Device.moment_of c.args.plan.reply c.args.plan c.args.store.now (live_parts c.args.live.now) c.args.upper.now
          (sym c.as_slice.ensures.value ∙ nil_from_length c.as_slice.result.now (eqb-true (length c.as_slice.result.now) 0 (sym c.is_empty.ensures ∙ c.if-is_empty.true))) refl
          c.requires.kept_on c.requires.holds (subst (λ (s : StateOf). IsStore (facts_of s)) c.state.ensures c.known.ensures) (g.met.D.Device.whole c.args.store.now.device);
    }

pub put_some-requires-clause-some : goal.put_some-requires-clause-some
put_some-requires-clause-some g c = subst (λ (xs : List Change). 0 < length xs) c.as_slice.ensures.value (some_length c.as_slice.result.now (sym c.is_empty.ensures ∙ c.if-is_empty.false))
