use Rattle.std.proofs.Common.{sym, ◌∙◌, arith}
use Rattle.index_node.proofs.Keys.{own_key_inside}
use Rattle.index_node.proofs.entries.entry_of.Goals as goal

pub split_at-requires-2 : goal.split_at-requires-2
split_at-requires-2 c =
    omega (arith, own_key_inside c.args.e.now (sym c.is_last.ensures ∙ c.if-is_last.false) c.requires.key c.requires.own_length, c.from.ensures, c.u16_at.ensures, c.split_at.ensures.back_len)
