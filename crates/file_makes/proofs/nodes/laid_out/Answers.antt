use Rattle.file_puts.specs.index_change.Plans.{clusters_of}
use Rattle.file_puts.specs.index_tree.Places.{place_of}
use Rattle.file_makes.proofs.Fitting.{laid_whole}
use Rattle.file_makes.proofs.nodes.laid_out.Goals as goal

pub returns-clause-whole : goal.returns-clause-whole
returns-clause-whole g c = laid_whole (place_of c.args.dir.now) (clusters_of c.args.dir.now.root) c.args.nodes c.lay_out.result c.lay_out.ensures.laid
