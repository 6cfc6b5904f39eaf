use Rattle.std.proofs.Common.{subst, sym, List}
use Rattle.std.specs.Prelude.{IfSome, is_some}
use Rattle.device_blocks.specs.disk_model.declared.block.Block.{Block}
use Rattle.txn_laws.specs.block_pool.Pools.{held}
use Rattle.device_blocks.specs.declared.word.CheckWord.{CheckWord}
use Rattle.device_blocks.specs.Words.{IsFitWord}
use Rattle.txn_laws.specs.txn_model.Values.{StoreFacts}
use Rattle.txn_laws.specs.txn_model.Calls.{first_facts}
use Rattle.txn_core.specs.declared.telling.Telling.{Telling}
use Rattle.txn_core.specs.Kept.{IsKept}
use Rattle.txn_core.specs.Tells.{IsTold}
use Rattle.txn_core.proofs.Kepts.{first_kept}
use Rattle.txn_core.proofs.Tellings.{first_told}
use Rattle.txn_core.proofs.Beginnings.{has_start, has_machine, no_body}
use Rattle.txn_core.proofs.store.Store.on.Goals as goal

pub invariant_of-result : goal.invariant_of-result
invariant_of-result g c = (
  record {
    place = c.requires.place;
    kept = subst IsKept (sym c.requires.first) (first_kept c.args.state.place c.args.state.log c.args.state.found c.requires.begun);
    worded = λ b is. no_body c.args.state b (is_some (held c.new-words.result b)) c.requires.first is;
    fit = λ b. subst (λ (ws : List (Block × CheckWord)). IfSome (held ws b) IsFitWord) (sym c.new-words.ensures) tt;
    machine = has_machine g.D.Device.changes_of c.args.device c.args.state c.requires.first c.requires.starts;
  },
  subst (λ (f : StoreFacts). IsTold f c.new.result) (sym c.requires.first) (subst (λ (t : Telling). IsTold (first_facts c.args.state.place c.args.state.log c.args.state.found) t) (sym c.new.ensures) (first_told c.args.state.place c.args.state.log c.args.state.found c.requires.begun)),
)

pub returns-clause-starts : goal.returns-clause-starts
returns-clause-starts g c = has_start g.D.Device.changes_of c.args.device c.args.state c.requires.first c.requires.starts
