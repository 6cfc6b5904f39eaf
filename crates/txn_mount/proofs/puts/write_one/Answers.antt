use Rattle.txn_mount.proofs.puts.write_one.Goals as goal

pub returns-clause-put : goal.returns-clause-put
returns-clause-put g c = record { now = c.write_body.new.word; fit = c.write_body.ensures.fit tt; put = rw c.bytes.ensures at c.write_body.ensures.put }
