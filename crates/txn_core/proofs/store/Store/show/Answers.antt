use Rattle.txn_core.proofs.Keeping.{read_stands}
use Rattle.txn_core.proofs.store.Store.show.Goals as goal

pub invariant_of-self : goal.invariant_of-self
invariant_of-self g c = (
  read_stands (g.D.Device.sector_count c.self.inside.device) (g.D.Device.sector_count c.show_body.new.device) (g.D.Device.changes_of c.self.inside.device) (g.D.Device.changes_of c.show_body.new.device) c.self.inside.state c.self.inside.words
      c.show_body.ensures.kept.sectors c.show_body.ensures.kept.unchanged c.self.invariant.0,
  c.self.invariant.1,
)
