use Rattle.std.proofs.Common.{refl, inr}
use Rattle.ntfs_host.proofs.Scripted.{none_answers, none_order, whole_run}
use Rattle.ntfs_host.proofs.script_run.run_command.Goals as goal

pub returns-in-Ok-clause-whole : goal.returns-in-Ok-clause-whole
returns-in-Ok-clause-whole g c = λ may. whole_run g.D.Device.gives g.D.Device.sector_count g.D.Device.moment_of g.D.Device.fault_count g.D.Device.changes_of c.in-Ok.script c.args.time _ c.args.device _ _ _ (g.S.Source.left c.args.source.now) c.in-Ok.ensures.answer c.run_script.ensures.answers may

pub returns-in-Err-clause-answers : goal.returns-in-Err-clause-answers
returns-in-Err-clause-answers g c = inr (refl, none_answers _ _ _ c.in-Err.error _ c.in-Err.ensures.answer c.tell_no_script-status.ensures.writes)

pub returns-in-Err-clause-order : goal.returns-in-Err-clause-order
returns-in-Err-clause-order g c = none_order g.S.Source.left _ _ _ _ c.args.device g.K.Sink.taken c.read_script.ensures.most_read c.in-Err.error _ c.tell_no_script-status.ensures.writes c.tell_no_script-status.ensures.calls c.in-Err.ensures.whole
