use Rattle.std.proofs.Common.{◌≡◌, ◌+◌, take}
use Rattle.std.specs.List.{flat_map}
use Rattle.disk_model.specs.Bytes.{written}
use Rattle.record_model.specs.Attributes.{spelling}
use Rattle.record_model.specs.Records.{spelled_bytes}
use Rattle.record_writer.proofs.attrs.put_attrs.Given as goal

abbrev pub invariant-loop-attr : goal.invariant-loop-attr
invariant-loop-attr l = record {
  place : l.place ≡ l.at + spelled_bytes (take l.attr-index l.attrs);
  bytes : l.out ≡ written l.at (flat_map spelling (take l.attr-index l.attrs)) l.initial.out;
}
