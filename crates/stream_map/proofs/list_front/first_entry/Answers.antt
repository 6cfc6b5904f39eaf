use Rattle.std.proofs.Common.{sym, ◌∙◌}
use Rattle.stream_map.proofs.ListFronts.{none_found, first_found}
use Rattle.stream_map.proofs.list_front.first_entry.Goals as goal

pub returns-then-not-has_entry-clause-value : goal.returns-then-not-has_entry-clause-value
returns-then-not-has_entry-clause-value c bytes e l = none_found bytes c.args.front.now c.args.left e l (sym c.has_entry.ensures.value ∙ c.if-not-has_entry.true)

pub returns-clause-value : goal.returns-clause-value
returns-clause-value c bytes e l = first_found bytes c.args.front.now c.args.left c.in_ok-entry.entry c.u16_at.result e l (sym c.has_entry.ensures.value ∙ c.if-not-has_entry.false) c.has_entry.ensures.name c.in_ok-entry.ensures.value c.u16_at.ensures
