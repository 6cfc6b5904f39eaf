use Rattle.std.proofs.Common.{[], sym, ap, ◌∙◌}
use Rattle.std.proofs.lemmas.Result.{err_from_is_err_and}
use Rattle.used_laws.specs.record_model.Constants.{data_type}
use Rattle.used_laws.specs.state_model.Streams.{stream_of}
use Rattle.data_plan.proofs.Cases.{memory_err}
use Rattle.data_plan.proofs.Taking.{some_data}
use Rattle.data_plan.proofs.planning.data_after.Goals as goal

pub returns-in_err-stream-clause-after : goal.returns-in_err-stream-clause-after
returns-in_err-stream-clause-after g c =
    let p = err_from_is_err_and c.from_residual.result c.from_residual.ensures.1 in rw (p.1, p.2) (memory_err (g.B.FreeBits.bits c.args.bits.now) c.args.file.now c.args.op.now c.args.node.now)

pub held_after-requires-in-None-clause-held : goal.held_after-requires-in-None-clause-held
held_after-requires-in-None-clause-held g c =
    absurd (some_data c.args.file.now c.requires.has.begins (sym (c.in_ok-stream.ensures.value ∙ ap (stream_of data_type []) (c.as_slice.ensures ∙ c.attrs.ensures.value)) ∙ c.in-None.is))
