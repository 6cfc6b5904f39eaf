use Rattle.txn_laws.proofs.Syncs.{is_synced}
use Rattle.txn_laws.proofs.Naming.{may_rename, front_is_oldest, names_page, fails_to_name}
use Rattle.txn_laws.proofs.laws.checkpoint_steps.Goals as goal

pub returns : goal.returns
returns g c = record {
  renames = λ ends f page disk m h may. may_rename f page disk m h may;
  front = λ ends f page disk m h may. front_is_oldest f page disk m h may;
  name = λ ends count page word clean f old new sees sized may close sent. names_page _ g.D.Device.changes_of g.D.Device.moment_of count page word ends clean f old new sees sized may close sent;
  name_fails = λ ends count page word clean f old new sees sized may close fault sent. fails_to_name _ g.D.Device.changes_of g.D.Device.moment_of count page word ends clean f old new sees sized may close fault sent;
  sync = λ ends count f old new sized syncs. is_synced g.D.Device.changes_of g.D.Device.moment_of count f old new sized syncs;
}
