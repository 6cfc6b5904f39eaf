use Rattle.std.proofs.Common.{ap, ◌∙◌, arith}
use Rattle.txn_log.specs.log_area.Areas.{place_at}
use Rattle.txn_log.specs.txn_model.Calls.{durable_after}
use Rattle.txn_state.specs.States.{StateOf}
use Rattle.txn_state.proofs.Marking.{last_told}
use Rattle.txn_state.proofs.state.StoreState.durable_after.Goals as goal

pub index-requires : goal.index-requires
index-requires c = let counted = c.self.invariant.on_log.counted in omega (arith, c.slot.ensures.below, counted)

pub returns : goal.returns
returns c =
    let a = c.self.inside in
    let counted = c.self.invariant.on_log.counted in
    last_told a.log a.ends.items a.durable c.durable_pages.result c.written_pages-done.result c.index.result.now c.slot.result c.index.result.now c.durable_pages.ensures.value c.written_pages-done.ensures.value c.if-durable_pages-done.false
    (c.slot.ensures.value ∙ ap (place_at a.log) c.saturating_sub.ensures) (omega (arith, c.slot.ensures.below, counted)) c.index.ensures
    ∙ ap (λ (s : StateOf). durable_after s.log s.ends s.durable) c.self.view_is
