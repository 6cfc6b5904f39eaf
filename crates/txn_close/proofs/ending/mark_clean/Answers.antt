use Rattle.std.proofs.Common.{◌≡◌, true, false, None, Some, sym, ap, subst, refl, ◌∙◌}
use Rattle.std.specs.Prelude.{IsSome}
use Rattle.store_model.proofs.Told.{true≢false}
use Rattle.found_stays.specs.txn_core.Turns.{HasNext, IsLast}
use Rattle.found_stays.specs.txn_model.Values.{StoreFacts}
use Rattle.found_stays.specs.txn_model.Calls.{noted_facts}
use Rattle.found_stays.specs.txn_state.States.{facts_of}
use Rattle.found_stays.specs.txn_laws.Windows.{AfterWrite}
use Rattle.found_stays.specs.txn_core.Seen.{Seen}
use Rattle.txn_close.specs.Rests.{IsDrained}
use Rattle.txn_close.specs.Passing.{Goes}
use Rattle.txn_close.proofs.Passing.{goes_joined, goes_to_end, goes_from}
use Rattle.txn_close.proofs.Turning.{fewer_at, spares_written, seal_rises, rises_at, seal_begins, goes_in_memory}
use Rattle.txn_close.proofs.Ended.{begun_drained, begun_last, then_at_rest, at_ok, never_unmarked}
use Rattle.txn_close.proofs.Clean.{then_ends_clean, then_leaves_clean}
use Rattle.txn_close.proofs.ending.mark_clean.Goals as goal

pub end_last-result-requires-clause-drained : goal.end_last-result-requires-clause-drained
end_last-result-requires-clause-drained g c =
    subst (λ (s : Seen _). IsDrained (facts_of s.state)) (sym c.closing-closing.ensures) (subst IsDrained (sym c.begin_checkpoint.ensures.facts) (begun_drained (facts_of c.args.store.state) c.requires.drained))

pub end_last-result-requires-clause-begun : goal.end_last-result-requires-clause-begun
end_last-result-requires-clause-begun g c =
    subst (λ (s : Seen _). IsSome s.state.noted) (sym c.closing-closing.ensures) (subst (λ (x : StoreFacts). IsSome x.noted) (sym c.begin_checkpoint.ensures.facts) refl)

pub end_last-result-requires-clause-next : goal.end_last-result-requires-clause-next
end_last-result-requires-clause-next g c =
    let yes : c.has_next.result ≡ true = search in
    subst (λ (s : Seen _). HasNext s.state.log) (sym c.closing-closing.ensures) (c.has_next.ensures.0 yes)

pub end_last-result-requires-clause-last : goal.end_last-result-requires-clause-last
end_last-result-requires-clause-last g c = subst (λ (s : Seen _). IsLast (facts_of s.state)) (sym c.closing-closing.ensures) (subst IsLast (sym c.begin_checkpoint.ensures.facts) (begun_last (facts_of c.args.store.state) c.requires.drained))

pub returns-then-not-has_next-clause-marks : goal.returns-then-not-has_next-clause-marks
returns-then-not-has_next-clause-marks g c = let none : c.has_next.result ≡ false = search in record {
  last = c.begin_checkpoint.new.self;
  gave = search;
  rests = tt;
  clean = tt;
  leaves = tt;
  unmarked = λ e. record { drained = subst IsDrained (sym c.begin_checkpoint.ensures.facts) (begun_drained (facts_of c.args.store.state) c.requires.drained); last = λ next. true≢false (sym (c.has_next.ensures.1 next) ∙ none) };
  goes = goes_to_end g.D.Device.sector_count g.D.Device.moment_of g.D.Device.changes_of (facts_of c.args.store.state) c.args.store c.begin_checkpoint.new.self
      (goes_in_memory g.D.Device.gives g.D.Device.sector_count g.D.Device.moment_of g.D.Device.changes_of c.args.store c.begin_checkpoint.new.self (facts_of c.args.store.state) AfterWrite c.begin_checkpoint.ensures.device
      (fewer_at (facts_of c.args.store.state) (facts_of c.begin_checkpoint.new.self.state) _ c.begin_checkpoint.ensures.facts (record { dirty = λ b is. is; dead = λ b is. is })) (spares_written (facts_of c.args.store.state))
      (rises_at (facts_of c.args.store.state) (facts_of c.begin_checkpoint.new.self.state) _ c.begin_checkpoint.ensures.facts (seal_rises c.args.store.state.log))
      (seal_begins (facts_of c.args.store.state) (facts_of c.begin_checkpoint.new.self.state) _ c.begin_checkpoint.ensures.facts refl) c.begin_checkpoint.ensures.step);
}

pub returns-clause-marks : goal.returns-clause-marks
returns-clause-marks g c =
    let old = c.args.store in
    let mid = c.closing-closing.result in
    let last = c.end_last-result.new.closing in
    let same = c.closing-closing.ensures in
    let begun : facts_of mid.state ≡ noted_facts (facts_of old.state) = ap (λ (s : Seen _). facts_of s.state) same ∙ c.begin_checkpoint.ensures.facts in
    let unsent : mid.state.log.sent ≡ None = ap (λ (s : Seen _). s.state.log.sent) same ∙ c.begin_checkpoint.ensures.unsent in
    let drained = subst IsDrained (sym begun) (begun_drained (facts_of old.state) c.requires.drained) in
    let noted = subst (λ (x : StoreFacts). x.noted ≡ Some x.log.sealed) (sym begun) refl in
    let first = subst (λ (s : Seen _). Goes g.D.Device.sector_count g.D.Device.moment_of g.D.Device.changes_of (facts_of old.state) old s) (sym same)
    (goes_in_memory g.D.Device.gives g.D.Device.sector_count g.D.Device.moment_of g.D.Device.changes_of old c.begin_checkpoint.new.self (facts_of old.state) AfterWrite c.begin_checkpoint.ensures.device
    (fewer_at (facts_of old.state) (facts_of c.begin_checkpoint.new.self.state) _ c.begin_checkpoint.ensures.facts (record { dirty = λ b is. is; dead = λ b is. is })) (spares_written (facts_of old.state))
    (rises_at (facts_of old.state) (facts_of c.begin_checkpoint.new.self.state) _ c.begin_checkpoint.ensures.facts (seal_rises old.state.log))
    (seal_begins (facts_of old.state) (facts_of c.begin_checkpoint.new.self.state) _ c.begin_checkpoint.ensures.facts refl) c.begin_checkpoint.ensures.step) in
    record {
      last = last;
      gave = search;
      rests = then_at_rest c.end_last-result.result (facts_of old.state) (facts_of mid.state) (facts_of last.state) c.requires.drained c.known.ensures.order.pages_some c.known.ensures.order.pages_few begun c.end_last-result.ensures.facts;
      clean = then_ends_clean g.D.Device.gives g.D.Device.sector_count g.D.Device.moment_of g.D.Device.changes_of old mid last drained noted unsent c.end_last-result.result c.end_last-result.ensures.ends c.end_last-result.ensures.facts;
      leaves = then_leaves_clean g.D.Device.gives g.D.Device.sector_count g.D.Device.moment_of g.D.Device.changes_of old mid last drained noted unsent (facts_of old.state) c.end_last-result.result (g.met.D.Device.seen mid.device) first c.end_last-result.ensures.ends
          (at_ok c.end_last-result.result (let yes : c.has_next.result ≡ true = search in subst (λ (s : Seen _). HasNext s.state.log) (sym same) (c.has_next.ensures.0 yes)));
      unmarked = never_unmarked c.end_last-result.result (facts_of last.state) c.end_last-result.ensures.fault;
      goes = goes_joined g.D.Device.sector_count g.D.Device.moment_of g.D.Device.changes_of (facts_of old.state) old mid last first (goes_from g.D.Device.sector_count g.D.Device.moment_of g.D.Device.changes_of (facts_of mid.state) mid last c.end_last-result.ensures.goes);
    }
