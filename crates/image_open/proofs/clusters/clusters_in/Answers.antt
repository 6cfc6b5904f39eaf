use Rattle.image_open.proofs.Steps.{clusters_read}
use Rattle.image_open.proofs.clusters.clusters_in.Goals as goal

pub returns-clause-answer : goal.returns-clause-answer
returns-clause-answer g c = clusters_read _ c.body.new.out c.bytes.result.now c.check_clusters.result c.bytes.ensures c.in_ok-body.ensures.body c.check_clusters.ensures.answer
