use Rattle.std.proofs.Common.{◌≡◌, Bool, true, List, sym, ap, subst, ◌∙◌}
use Rattle.std.specs.Prelude.{is_ok, is_some, IfSome}
use Rattle.device_blocks.specs.disk_model.declared.block.Block.{Block}
use Rattle.device_blocks.specs.disk_model.Sectors.{are_rivals}
use Rattle.txn_laws.specs.block_pool.Pools.{held}
use Rattle.txn_laws.specs.txn_model.Calls.{is_ready}
use Rattle.txn_state.specs.States.{facts_of}
use Rattle.txn_laws.specs.Windows.{MovesTo}
use Rattle.device_blocks.specs.declared.word.CheckWord.{CheckWord}
use Rattle.device_blocks.specs.Words.{IsFitWord}
use Rattle.txn_core.specs.Calls.{is_spelled, out_facts, out_words, WritesOut, IsOut}
use Rattle.txn_core.specs.Seen.{Seen}
use Rattle.txn_core.proofs.Keeping.{step_of, stands_after}
use Rattle.txn_laws.specs.txn_model.Values.{StoreFacts}
use Rattle.txn_state.proofs.Stores.{dirty_grid}
use Rattle.txn_core.proofs.Outs.{ready_dirty, ready_kept, word_fit, out_step, out_worded, out_fit}
use Rattle.txn_core.proofs.Tellings.{WroteOut, out_told}
use Rattle.txn_core.proofs.AfterCalls.{out_kept, out_wrote, out_log}
use Rattle.txn_core.proofs.store.Store.write_out.Goals as goal

pub returns-clause-out : goal.returns-clause-out
returns-clause-out g c =
    subst (λ (s : Seen _). IsOut g.D.Device.gives g.D.Device.changes_of g.D.Device.moment_of (facts_of s.state) (facts_of c.settle_out.new.state) c.args.block s.words c.settle_word.new.words c.send_out-result.result s.device c.send_out-result.new.device) c.self.view_is
    (record {
      now = c.send_out-result.new.word;
      facts = (c.settle_out.ensures ∙ ap (λ (v : Bool). out_facts c.is_spelled-spelled.result v c.send_out-result.new.word c.args.block (facts_of c.self.inside.state)) c.is_ok-ok.ensures.value) ∙ ap (λ (v : Bool). out_facts v (is_ok c.send_out-result.result) c.send_out-result.new.word c.args.block (facts_of c.self.inside.state)) c.is_spelled-spelled.ensures;
      kept = c.settle_word.ensures ∙ ap (λ (v : Bool). out_words v c.send_out-result.new.word c.args.block c.self.inside.words) c.is_ok-ok.ensures.value;
      sent = λ x is. subst (λ (w : CheckWord). WritesOut g.D.Device.gives g.D.Device.changes_of g.D.Device.moment_of (is_spelled (facts_of c.self.inside.state) c.args.block) w c.send_out-result.new.word c.args.block x.bytes c.send_out-result.result c.self.inside.device c.send_out-result.new.device) c.word_of-word.ensures
          (subst (λ (v : Bool). WritesOut g.D.Device.gives g.D.Device.changes_of g.D.Device.moment_of v c.word_of-word.result c.send_out-result.new.word c.args.block x.bytes c.send_out-result.result c.self.inside.device c.send_out-result.new.device) c.is_spelled-spelled.ensures (c.send_out-result.ensures.sent x is));
    })

pub returns-clause-step : goal.returns-clause-step
returns-clause-step g c =
    step_of g.D.Device.sector_count g.D.Device.moment_of g.D.Device.changes_of (λ s. MovesTo (are_rivals c.args.block)) (record { device = c.self.inside.device; state = c.self.inside.state; words = c.self.inside.words }) c.args.self.now
    (record { device = c.send_out-result.new.device; state = c.settle_out.new.state; words = c.settle_word.new.words }) (out_facts c.is_spelled-spelled.result (is_ok c.send_out-result.result) c.send_out-result.new.word c.args.block (facts_of c.self.inside.state)) c.self.view_is (c.settle_out.ensures ∙ ap (λ (v : Bool). out_facts c.is_spelled-spelled.result v c.send_out-result.new.word c.args.block (facts_of c.self.inside.state)) c.is_ok-ok.ensures.value)
    (out_step g.D.Device.gives g.D.Device.changes_of g.D.Device.moment_of (g.D.Device.sector_count c.self.inside.device) (g.D.Device.sector_count c.self.inside.device) (facts_of c.self.inside.state) c.args.block c.is_spelled-spelled.result c.word_of-word.result c.send_out-result.new.word c.send_out-result.result c.self.inside.device c.send_out-result.new.device
    c.known.ensures (subst (λ (s : Seen _). is_ready (facts_of s.state) c.args.block ≡ true) (sym c.self.view_is) c.requires.ready) c.is_spelled-spelled.ensures (g.met.D.Device.seen c.self.inside.device) (g.met.D.Device.values c.send_out-result.new.device) (g.met.D.Device.whole c.self.inside.device)
    (subst (λ (w : CheckWord). IsFitWord w) (sym c.word_of-word.ensures) (word_fit c.self.inside.words c.args.block c.self.invariant.0.fit)) c.send_out-result.ensures.sent)

pub invariant_of-self : goal.invariant_of-self
invariant_of-self g c = (
  stands_after (g.D.Device.sector_count c.self.inside.device) (g.D.Device.sector_count c.send_out-result.new.device) (g.D.Device.moment_of c.self.inside.device) (g.D.Device.changes_of c.self.inside.device) (g.D.Device.changes_of c.send_out-result.new.device)
      c.self.inside.state c.settle_out.new.state c.self.inside.words c.settle_word.new.words (out_facts c.is_spelled-spelled.result (is_ok c.send_out-result.result) c.send_out-result.new.word c.args.block (facts_of c.self.inside.state)) (MovesTo (are_rivals c.args.block)) c.send_out-result.ensures.sectors c.self.invariant.0 (c.settle_out.ensures ∙ ap (λ (v : Bool). out_facts c.is_spelled-spelled.result v c.send_out-result.new.word c.args.block (facts_of c.self.inside.state)) c.is_ok-ok.ensures.value)
      (out_step g.D.Device.gives g.D.Device.changes_of g.D.Device.moment_of (g.D.Device.sector_count c.self.inside.device) (g.D.Device.sector_count c.self.inside.device) (facts_of c.self.inside.state) c.args.block c.is_spelled-spelled.result c.word_of-word.result c.send_out-result.new.word c.send_out-result.result c.self.inside.device c.send_out-result.new.device
      c.known.ensures (subst (λ (s : Seen _). is_ready (facts_of s.state) c.args.block ≡ true) (sym c.self.view_is) c.requires.ready) c.is_spelled-spelled.ensures (g.met.D.Device.seen c.self.inside.device) (g.met.D.Device.values c.send_out-result.new.device) (g.met.D.Device.whole c.self.inside.device)
      (subst (λ (w : CheckWord). IsFitWord w) (sym c.word_of-word.ensures) (word_fit c.self.inside.words c.args.block c.self.invariant.0.fit)) c.send_out-result.ensures.sent)
      (out_kept c.is_spelled-spelled.result (is_ok c.send_out-result.result) c.send_out-result.new.word c.args.block (facts_of c.self.inside.state) c.self.invariant.0.kept)
      (λ b is. subst (λ (ws : List (Block × CheckWord)). is_some (held ws b) ≡ true) (sym (c.settle_word.ensures ∙ ap (λ (v : Bool). out_words v c.send_out-result.new.word c.args.block c.self.inside.words) c.is_ok-ok.ensures.value))
      (out_worded c.is_spelled-spelled.result (is_ok c.send_out-result.result) c.send_out-result.new.word c.args.block (facts_of c.self.inside.state) c.self.inside.words c.self.invariant.0.worded b is))
      (λ b. subst (λ (ws : List (Block × CheckWord)). IfSome (held ws b) IsFitWord) (sym (c.settle_word.ensures ∙ ap (λ (v : Bool). out_words v c.send_out-result.new.word c.args.block c.self.inside.words) c.is_ok-ok.ensures.value))
      (out_fit (is_ok c.send_out-result.result) c.send_out-result.new.word c.args.block c.self.inside.words
      (c.send_out-result.ensures.fit (subst (λ (w : CheckWord). IsFitWord w) (sym c.word_of-word.ensures) (word_fit c.self.inside.words c.args.block c.self.invariant.0.fit))) c.self.invariant.0.fit b)),
  out_told (facts_of c.self.inside.state) (facts_of c.settle_out.new.state) c.args.block c.owes_rival-anew.result c.self.inside.told c.after_write.new.self
      (ap (λ (f : StoreFacts). f.log) (c.settle_out.ensures ∙ ap (λ (v : Bool). out_facts c.is_spelled-spelled.result v c.send_out-result.new.word c.args.block (facts_of c.self.inside.state)) c.is_ok-ok.ensures.value) ∙ (out_log c.is_spelled-spelled.result (is_ok c.send_out-result.result) c.send_out-result.new.word c.args.block (facts_of c.self.inside.state)).0) (ap (λ (f : StoreFacts). f.noted) (c.settle_out.ensures ∙ ap (λ (v : Bool). out_facts c.is_spelled-spelled.result v c.send_out-result.new.word c.args.block (facts_of c.self.inside.state)) c.is_ok-ok.ensures.value) ∙ (out_log c.is_spelled-spelled.result (is_ok c.send_out-result.result) c.send_out-result.new.word c.args.block (facts_of c.self.inside.state)).1)
      (subst (λ (f : StoreFacts). WroteOut (facts_of c.self.inside.state) f c.args.block) (sym (c.settle_out.ensures ∙ ap (λ (v : Bool). out_facts c.is_spelled-spelled.result v c.send_out-result.new.word c.args.block (facts_of c.self.inside.state)) c.is_ok-ok.ensures.value)) (out_wrote c.is_spelled-spelled.result (is_ok c.send_out-result.result) c.send_out-result.new.word c.args.block (facts_of c.self.inside.state) c.known.ensures (dirty_grid (facts_of c.self.inside.state) c.args.block c.known.ensures (ready_dirty (facts_of c.self.inside.state) c.args.block (subst (λ (s : Seen _). is_ready (facts_of s.state) c.args.block ≡ true) (sym c.self.view_is) c.requires.ready)))))
      c.owes_rival-anew.ensures c.after_write.ensures.wrote c.after_write.ensures.counted c.after_write.ensures.left c.after_write.ensures.lowest c.after_write.ensures.front c.self.invariant.1,
)

pub settle_word-requires : goal.settle_word-requires
settle_word-requires g c = c.self.invariant.0.worded c.args.block (ready_kept (facts_of c.self.inside.state) c.args.block c.known.ensures (subst (λ (s : Seen _). is_ready (facts_of s.state) c.args.block ≡ true) (sym c.self.view_is) c.requires.ready))

pub owes_rival-anew-requires : goal.owes_rival-anew-requires
owes_rival-anew-requires g c = (dirty_grid (facts_of c.self.inside.state) c.args.block c.known.ensures (ready_dirty (facts_of c.self.inside.state) c.args.block (subst (λ (s : Seen _). is_ready (facts_of s.state) c.args.block ≡ true) (sym c.self.view_is) c.requires.ready)))
