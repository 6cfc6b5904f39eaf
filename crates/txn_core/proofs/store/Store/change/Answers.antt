use Rattle.std.proofs.Common.{◌≡◌, None, refl, sym, subst, arith}
use Rattle.std.specs.Prelude.{OnOk, IfErr}
use Rattle.device_blocks.specs.device_view.Devices.{CountsOnDevice}
use Rattle.txn_state.specs.States.{facts_of}
use Rattle.txn_core.specs.declared.fault.ChangeFault.TheVariants.{Unspelled}
use Rattle.txn_core.specs.Changes.{change_cause, WordIsPut, MayChangeNow, HasChanged, AfterChanging}
use Rattle.txn_core.specs.Seen.{Seen}
use Rattle.txn_core.proofs.AfterCalls.{changing_kept, changing_told}
use Rattle.txn_core.proofs.Keeping.{step_of, stands_after}
use Rattle.txn_core.proofs.ChangeSteps.{unspelled_unknown, is_found, may_asked, changing_step, has_changed, word_is_put, changing_cause, changing_worded, changing_fit}
use Rattle.txn_core.proofs.store.Store.change.Goals as goal

pub find_present-asked-requires : goal.find_present-asked-requires
find_present-asked-requires g c = let inside = (subst (λ (s : Seen _). MayChangeNow (g.D.Device.gives s.device) (facts_of s.state) c.args.block c.args.at c.args.new.now) (sym c.self.view_is) c.requires.may).inside in omega (arith, inside, c.self.invariant.0.place)

pub change_asked-result-requires-clause-opened : goal.change_asked-result-requires-clause-opened
change_asked-result-requires-clause-opened g c = (subst (λ (s : Seen _). MayChangeNow (g.D.Device.gives s.device) (facts_of s.state) c.args.block c.args.at c.args.new.now) (sym c.self.view_is) c.requires.may).opened

pub change_asked-result-requires-clause-may : goal.change_asked-result-requires-clause-may
change_asked-result-requires-clause-may g c = may_asked (g.D.Device.gives c.self.inside.device) (facts_of c.self.inside.state) c.args.block c.args.at c.args.new.now c.find_present-asked.result (subst (λ (s : Seen _). MayChangeNow (g.D.Device.gives s.device) (facts_of s.state) c.args.block c.args.at c.args.new.now) (sym c.self.view_is) c.requires.may) c.find_present-asked.ensures.size

pub returns-clause-facts : goal.returns-clause-facts
returns-clause-facts g c =
    subst (λ (s : Seen _). HasChanged c.change_asked-result.result (g.D.Device.gives s.device) (facts_of s.state) (facts_of c.change_asked-result.new.state) c.args.block c.args.at c.args.new.now) c.self.view_is
    (has_changed (g.D.Device.gives c.self.inside.device) (facts_of c.self.inside.state) (facts_of c.change_asked-result.new.state) c.args.block c.args.at c.args.new.now c.self.inside.words c.change_asked-result.new.words c.find_present-asked.result c.change_asked-result.result (is_found (g.D.Device.gives c.self.inside.device) (facts_of c.self.inside.state) c.args.block c.self.inside.words c.find_present-asked.result c.find_present-asked.ensures.body c.find_present-asked.ensures.size c.find_present-asked.ensures.fit c.find_present-asked.ensures.changed c.find_present-asked.ensures.read) c.change_asked-result.ensures.done)

pub returns-clause-words : goal.returns-clause-words
returns-clause-words g c =
    subst (λ (s : Seen _). OnOk c.change_asked-result.result (WordIsPut (g.D.Device.gives s.device) (facts_of s.state) c.args.block s.words c.change_asked-result.new.words)) c.self.view_is
    (word_is_put (g.D.Device.gives c.self.inside.device) (facts_of c.self.inside.state) (facts_of c.change_asked-result.new.state) c.args.block c.args.at c.args.new.now c.self.inside.words c.change_asked-result.new.words c.find_present-asked.result c.change_asked-result.result (is_found (g.D.Device.gives c.self.inside.device) (facts_of c.self.inside.state) c.args.block c.self.inside.words c.find_present-asked.result c.find_present-asked.ensures.body c.find_present-asked.ensures.size c.find_present-asked.ensures.fit c.find_present-asked.ensures.changed c.find_present-asked.ensures.read) c.change_asked-result.ensures.done)

pub returns-clause-cause : goal.returns-clause-cause
returns-clause-cause g c =
    subst (λ (s : Seen _). CountsOnDevice change_cause (g.D.Device.fault_count s.device) (g.D.Device.fault_count c.find_present-asked.new.device) (g.D.Device.moment_of c.find_present-asked.new.device) c.change_asked-result.result) c.self.view_is
    (changing_cause (g.D.Device.fault_count c.self.inside.device) (g.D.Device.fault_count c.find_present-asked.new.device) (g.D.Device.moment_of c.find_present-asked.new.device) (facts_of c.self.inside.state) (facts_of c.change_asked-result.new.state) c.args.block c.args.at c.args.new.now c.self.inside.words c.change_asked-result.new.words c.find_present-asked.result c.change_asked-result.result c.change_asked-result.ensures.done c.find_present-asked.ensures.cause)

pub returns-clause-step : goal.returns-clause-step
returns-clause-step g c =
    step_of g.D.Device.sector_count g.D.Device.moment_of g.D.Device.changes_of (λ s. AfterChanging c.change_asked-result.result c.args.block c.args.at c.args.new.now) (record { device = c.self.inside.device; state = c.self.inside.state; words = c.self.inside.words }) c.args.self.now
    (record { device = c.find_present-asked.new.device; state = c.change_asked-result.new.state; words = c.change_asked-result.new.words }) (facts_of c.change_asked-result.new.state) c.self.view_is refl
    (changing_step (g.D.Device.sector_count c.self.inside.device) (g.D.Device.moment_of c.self.inside.device) (g.D.Device.changes_of c.self.inside.device) (g.D.Device.changes_of c.find_present-asked.new.device) (g.D.Device.gives c.self.inside.device) (facts_of c.self.inside.state) (facts_of c.change_asked-result.new.state) c.args.block c.args.at c.args.new.now c.self.inside.words c.change_asked-result.new.words c.find_present-asked.result c.change_asked-result.result
    c.find_present-asked.ensures.changes (subst (λ (s : Seen _). MayChangeNow (g.D.Device.gives s.device) (facts_of s.state) c.args.block c.args.at c.args.new.now) (sym c.self.view_is) c.requires.may) (g.met.D.Device.seen c.self.inside.device) (is_found (g.D.Device.gives c.self.inside.device) (facts_of c.self.inside.state) c.args.block c.self.inside.words c.find_present-asked.result c.find_present-asked.ensures.body c.find_present-asked.ensures.size c.find_present-asked.ensures.fit c.find_present-asked.ensures.changed c.find_present-asked.ensures.read) c.change_asked-result.ensures.done)

pub invariant_of-self : goal.invariant_of-self
invariant_of-self g c = (
  stands_after (g.D.Device.sector_count c.self.inside.device) (g.D.Device.sector_count c.find_present-asked.new.device) (g.D.Device.moment_of c.self.inside.device) (g.D.Device.changes_of c.self.inside.device) (g.D.Device.changes_of c.find_present-asked.new.device)
      c.self.inside.state c.change_asked-result.new.state c.self.inside.words c.change_asked-result.new.words (facts_of c.change_asked-result.new.state) (AfterChanging c.change_asked-result.result c.args.block c.args.at c.args.new.now) c.find_present-asked.ensures.sectors c.self.invariant.0 refl
      (changing_step (g.D.Device.sector_count c.self.inside.device) (g.D.Device.moment_of c.self.inside.device) (g.D.Device.changes_of c.self.inside.device) (g.D.Device.changes_of c.find_present-asked.new.device) (g.D.Device.gives c.self.inside.device) (facts_of c.self.inside.state) (facts_of c.change_asked-result.new.state) c.args.block c.args.at c.args.new.now c.self.inside.words c.change_asked-result.new.words c.find_present-asked.result c.change_asked-result.result
      c.find_present-asked.ensures.changes (subst (λ (s : Seen _). MayChangeNow (g.D.Device.gives s.device) (facts_of s.state) c.args.block c.args.at c.args.new.now) (sym c.self.view_is) c.requires.may) (g.met.D.Device.seen c.self.inside.device) (is_found (g.D.Device.gives c.self.inside.device) (facts_of c.self.inside.state) c.args.block c.self.inside.words c.find_present-asked.result c.find_present-asked.ensures.body c.find_present-asked.ensures.size c.find_present-asked.ensures.fit c.find_present-asked.ensures.changed c.find_present-asked.ensures.read) c.change_asked-result.ensures.done)
      (changing_kept (g.D.Device.gives c.self.inside.device) (facts_of c.self.inside.state) (facts_of c.change_asked-result.new.state) c.args.block c.args.at c.args.new.now c.self.inside.words c.change_asked-result.new.words c.find_present-asked.result c.change_asked-result.result c.self.invariant.0.kept c.known.ensures (subst (λ (s : Seen _). MayChangeNow (g.D.Device.gives s.device) (facts_of s.state) c.args.block c.args.at c.args.new.now) (sym c.self.view_is) c.requires.may) c.find_present-asked.ensures.size c.change_asked-result.ensures.done)
      (changing_worded (facts_of c.self.inside.state) (facts_of c.change_asked-result.new.state) c.args.block c.args.at c.args.new.now c.self.inside.words c.change_asked-result.new.words c.find_present-asked.result c.change_asked-result.result c.known.ensures c.change_asked-result.ensures.done c.self.invariant.0.worded)
      (changing_fit (g.D.Device.gives c.self.inside.device) (facts_of c.self.inside.state) (facts_of c.change_asked-result.new.state) c.args.block c.args.at c.args.new.now c.self.inside.words c.change_asked-result.new.words c.find_present-asked.result c.change_asked-result.result (is_found (g.D.Device.gives c.self.inside.device) (facts_of c.self.inside.state) c.args.block c.self.inside.words c.find_present-asked.result c.find_present-asked.ensures.body c.find_present-asked.ensures.size c.find_present-asked.ensures.fit c.find_present-asked.ensures.changed c.find_present-asked.ensures.read) c.change_asked-result.ensures.done c.self.invariant.0.fit),
  changing_told (g.D.Device.gives c.self.inside.device) (facts_of c.self.inside.state) (facts_of c.change_asked-result.new.state) c.args.block c.args.at c.args.new.now c.self.inside.words c.change_asked-result.new.words c.find_present-asked.result c.change_asked-result.result c.is_ok.result c.self.inside.told c.after_change.new.self c.self.invariant.0.kept (subst (λ (s : Seen _). MayChangeNow (g.D.Device.gives s.device) (facts_of s.state) c.args.block c.args.at c.args.new.now) (sym c.self.view_is) c.requires.may) c.find_present-asked.ensures.size c.change_asked-result.ensures.done c.is_ok.ensures.value c.after_change.ensures.changed c.after_change.ensures.given_up c.after_change.ensures.rest c.self.invariant.1,
)

pub returns-clause-unspelled : goal.returns-clause-unspelled
returns-clause-unspelled g c =
    subst (λ (s : Seen _). IfErr c.change_asked-result.result (λ fault. fault ≡ Unspelled → g.D.Device.gives s.device ≡ None)) c.self.view_is
    (unspelled_unknown (g.D.Device.gives c.self.inside.device) (facts_of c.self.inside.state) (facts_of c.change_asked-result.new.state) c.args.block c.args.at c.args.new.now c.self.inside.words c.change_asked-result.new.words c.find_present-asked.result c.change_asked-result.result (subst (λ (s : Seen _). MayChangeNow (g.D.Device.gives s.device) (facts_of s.state) c.args.block c.args.at c.args.new.now) (sym c.self.view_is) c.requires.may) (is_found (g.D.Device.gives c.self.inside.device) (facts_of c.self.inside.state) c.args.block c.self.inside.words c.find_present-asked.result c.find_present-asked.ensures.body c.find_present-asked.ensures.size c.find_present-asked.ensures.fit c.find_present-asked.ensures.changed c.find_present-asked.ensures.read) c.change_asked-result.ensures.done)
