use Rattle.std.proofs.Common.{◌+◌, length}
use Rattle.index_node.proofs.RootSpelled.{root_put}
use Rattle.index_node.proofs.root_writing.put_root.Goals as goal

pub returns : goal.returns
returns c = root_put c.args.clusters (0x10 + length c.args.entries.now) c.args.flag c.args.entries.now c.args.out.now c.put_head.new.out c.put_bytes.new.bytes c.put_head.ensures c.put_bytes.ensures c.requires.room
