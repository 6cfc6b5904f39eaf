use Rattle.ntfs_host.proofs.Running.{ran_answers, ran_causes, ran_leaves}
use Rattle.ntfs_host.proofs.changing.change_volume.Goals as goal

pub returns-clause-answers : goal.returns-clause-answers
returns-clause-answers g c = ran_answers g.D.Device.gives g.D.Device.sector_count g.D.Device.moment_of g.D.Device.fault_count g.D.Device.changes_of c.args.script.now c.args.time _ _ _ c.args.device _ _ _ c.run_text-text.ensures c.tell-status.ensures.writes

pub returns-clause-leaves : goal.returns-clause-leaves
returns-clause-leaves g c = ran_leaves g.D.Device.gives g.D.Device.sector_count g.D.Device.moment_of g.D.Device.fault_count g.D.Device.changes_of c.args.script.now c.args.time _ _ _ c.args.device _ _ _ c.run_text-text.ensures c.tell-status.ensures.writes

pub returns-clause-device_causes : goal.returns-clause-device_causes
returns-clause-device_causes g c = ran_causes g.D.Device.gives g.D.Device.sector_count g.D.Device.moment_of g.D.Device.fault_count g.D.Device.changes_of c.args.script.now c.args.time _ _ _ c.args.device _ _ _ c.run_text-text.ensures c.tell-status.ensures.writes
