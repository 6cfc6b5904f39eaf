use Rattle.std.proofs.Common.{sym, ◌∙◌}
use Rattle.stream_laws.proofs.Tabling.{no_list_stream}
use Rattle.map_change.proofs.alone.used_alone.Goals as goal

pub returns : goal.returns
returns c = record {
  number = c.base_change.ensures.number;
  file = c.base_change.ensures.file;
  head = c.base_change.ensures.head;
  alone = (no_list_stream c.args.file (sym c.has_type-listed.ensures ∙ c.if-listed.false), sym c.in_ok-cut.ensures ∙ c.if-cut.false);
}
