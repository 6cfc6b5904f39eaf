use Rattle.std.proofs.Common.{◌≡◌, ◌+◌, take}
use Rattle.std.specs.List.{flat_map}
use Rattle.disk_model.specs.Bytes.{written}
use Rattle.record_model.specs.Nodes.{entry_spelling, entries_length}
use Rattle.index_node.proofs.writing.put_entries.Given as goal

abbrev pub invariant-loop-entry : goal.invariant-loop-entry
invariant-loop-entry l = record {
  put : l.out ≡ written 0x40 (flat_map entry_spelling (take l.entry-index l.entries)) l.initial.out;
  end : l.at ≡ 0x40 + entries_length (take l.entry-index l.entries);
}
