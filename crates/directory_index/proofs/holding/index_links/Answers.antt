use Rattle.directory_index.proofs.Links.{links_placed, links_nowhere}
use Rattle.directory_index.proofs.holding.index_links.Goals as goal

pub returns-in-Some-clause-value : goal.returns-in-Some-clause-value
returns-in-Some-clause-value g c = links_placed _ c.args.per c.args.up.now c.args.file.now c.in-Some.dir _ (rw c.in-Some.is at c.in_ok-dir.ensures.place) (rw c.in-Some.is at c.in_ok-dir.ensures.root) c.links_at.ensures.value

pub returns-in-None-clause-value : goal.returns-in-None-clause-value
returns-in-None-clause-value g c = links_nowhere _ c.args.per c.args.up.now c.args.file.now (rw c.in-None.is at c.in_ok-dir.ensures.root)
