use Rattle.std.proofs.Common.{refl}
use Rattle.txn_laws.proofs.Telling.{by_read, sync_fails}
use Rattle.txn_laws.proofs.PageWrites.{page_goes_out, page_goes_badly}
use Rattle.txn_laws.proofs.Syncs.{is_synced}
use Rattle.txn_laws.proofs.WriteOuts.{is_written_out, is_not_written_out}
use Rattle.txn_laws.proofs.Agains.{is_written_again, is_not_written_again}
use Rattle.txn_laws.proofs.Openings.{opens_log}
use Rattle.txn_laws.proofs.laws.device_steps.Goals as goal

pub returns : goal.returns
returns g c = record {
  open_log = λ place found lap restart opens r q fields disk word old mid new is sees sized stands may sent syncs. opens_log _ g.D.Device.changes_of g.D.Device.moment_of place found lap restart opens r q fields disk word old mid new is sees sized stands may sent syncs;
  read = λ ends count f old new asked. by_read count _ _ _ f _ (λ w. record { same = refl }) asked.unchanged;
  page = λ count f word old new sees sized lt sent. page_goes_out _ _ _ count f word old new sees sized lt sent;
  page_fails = λ count f word old new sees sized lt fault sent. page_goes_badly _ _ _ count f word old new sees sized lt fault sent;
  sync = λ ends count f old new sized unnamed syncs. is_synced g.D.Device.changes_of g.D.Device.moment_of count f old new sized syncs;
  sync_fails = λ ends count f old new fault syncs. sync_fails count _ fault _ _ f syncs;
  write_out = λ count begun check f b x old new kept ready spells small sized later sent. is_written_out _ _ _ count begun check f b x old new kept ready spells small sized later sent;
  write_out_fails = λ count begun check f b x old new kept ready spells sized later fault sent. is_not_written_out _ _ _ count begun check f b x old new kept ready spells sized later fault sent;
  again = λ count begun f b x bytes old new there sees sized later sent. is_written_again _ _ _ count begun f b x bytes old new there.kept there.dirty there.free there.bare there.size sees there.same sized later sent;
  again_fails = λ count begun f b x bytes old new there sees sized later fault sent. is_not_written_again _ _ _ count begun f b x bytes old new there.kept there.dirty there.free there.bare there.size sees there.same sized later fault sent;
}
