-- The changes of a file that is made are some that a volume takes.
use Rattle.std.proofs.Common.{subst, sym}
use Rattle.disk_model.specs.Content.{Content}
use Rattle.record_model.specs.NodeLaws.{NodeIsBody}
use Rattle.record_model.specs.RecordLaws.{RecordIsBody}
use Rattle.plans_keep.specs.Keeping.{PlansKeep}
use Rattle.made_files.specs.new_files.Laws.{NewFileReads}
use Rattle.made_files.specs.record_times.Laws.{TimesAreSet}
use Rattle.made_trees.specs.Created.{made_volume}
use Rattle.writes_keep.proofs.Leaving.{IsAsked, all_led}
use Rattle.makes_keep.specs.Makes.{MakesKeep}
use Rattle.makes_keep.proofs.Making.{touches, each_written, leads, asked}

pub all_kept : TimesAreSet → NewFileReads → PlansKeep → RecordIsBody → NodeIsBody → MakesKeep
all_kept times_set reads keeps record_body node_body c g clusters v s numbers m a r growths u q grown value used t fresh nodes timed new changes k well done lists whole journal h =
    all_led c g clusters v h.bodies (made_volume c u s m q k.made.put.plan timed)
    (leads times_set reads record_body node_body c g clusters v s numbers m a r growths u q grown value used t fresh nodes timed new k well h lists whole) keeps s new changes h.same done
    (each_written times_set reads record_body node_body c g clusters v s numbers m a r growths u q grown value used t fresh nodes timed new k well h lists whole)
    (touches times_set reads record_body node_body c g clusters v s numbers m a r growths u q grown value used t fresh nodes timed new k well h lists whole done.olds) lists
    (subst (λ (d : Content). IsAsked c v d (made_volume c u s m q k.made.put.plan timed) s) (sym h.content) (asked times_set reads record_body node_body c g clusters v s numbers m a r growths u q grown value used t fresh nodes timed new k well h lists whole journal))
