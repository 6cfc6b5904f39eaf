use Rattle.std.proofs.Common.{ℕ, List, sym, subst}
use Rattle.record_model.specs.Records.{IsFileRecord}
use Rattle.record_model.proofs.RecordSpelling.{record_spells}
use Rattle.record_writer.proofs.written.FileRecWrittenRecord.write.Goals as goal

pub returns-clause-table : goal.returns-clause-table
returns-clause-table c = subst (λ (body : List ℕ). IsFileRecord body c.args.self.now) (sym c.put_record.ensures) (record_spells c.args.self.now c.requires.fits)
