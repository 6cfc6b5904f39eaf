use Rattle.std.proofs.Common.{max, length, Some, refl, ap, ◌∙◌, subst, arith}
use Rattle.std.proofs.lemmas.Result.{err_from_is_err_and}
use Rattle.record_model.specs.Records.{Record, used_of}
use Rattle.state_model.specs.declared.stream.Stream.TheVariants.{Held}
use Rattle.tree_model.specs.Needs.{clusters_for}
use Rattle.data_plan.specs.step_model.Streams.{wanted_size, used_key}
use Rattle.directory_growth.specs.declared.change.BitsChange.TheVariants as change
use Rattle.directory_growth.specs.Bitmap.{MustLeave}
use Rattle.directory_growth.proofs.Coming.{at_size, valued_used, kept_ok, memory_err}
use Rattle.directory_growth.proofs.bitmap.held_after.Goals as goal

pub returns-in_err-with-clause-after : goal.returns-in_err-with-clause-after
returns-in_err-with-clause-after g c = λ n.
    let bits = g.B.FreeBits.bits c.args.bits.now in
    let p = err_from_is_err_and c.from_residual.result c.from_residual.ensures.1 in
    rw (p.1, p.2) (memory_err bits c.args.beside c.args.file.now (Some (Held c.args.value.now)) (wanted_size (used_key n) (Some (Held c.args.value.now)) c.args.least))

pub leaves-requires-clause-full : goal.leaves-requires-clause-full
leaves-requires-clause-full g c =
    let size = c.size_then-size.result in
    let is = valued_used c.args.beside size c.used-used.result c.requires.begins (c.used-used.ensures ∙ ap (λ (r : Record). used_of r.attrs) c.in_ok-with.ensures.value) in
    subst (MustLeave c.args.beside) c.size_then-size.ensures (omega (arith, is))

pub returns-in_err-new-clause-after : goal.returns-in_err-new-clause-after
returns-in_err-new-clause-after g c = λ n.
    let bits = g.B.FreeBits.bits c.args.bits.now in
    let p = err_from_is_err_and c.from_residual-in_err-new.result c.from_residual-in_err-new.ensures.1 in
    rw (p.1, p.2) (memory_err bits c.args.beside c.args.file.now (Some (Held c.args.value.now)) (wanted_size (used_key n) (Some (Held c.args.value.now)) c.args.least))

pub returns-clause-after : goal.returns-clause-after
returns-clause-after g c = λ n.
    let bits = g.B.FreeBits.bits c.args.bits.now in
    let value = c.args.value.now in
    let size = c.size_then-size.result in
    let clusters = max 0 (clusters_for c.args.least) in
    let is = valued_used c.args.beside size c.used-used.result c.requires.begins (c.used-used.ensures ∙ ap (λ (r : Record). used_of r.attrs) c.in_ok-with.ensures.value) in
    at_size bits bits c.args.beside c.args.file.now (Some (Held value)) n size (max (length value) c.args.least) clusters _ c.size_then-size.ensures
    (kept_ok bits c.args.beside c.args.file.now n size clusters value c.in_ok-new.new (record { bits = change.Stays c.in_ok-new.new; used = c.used-used.result }) (omega (arith, c.size_then-size.ensures, c.requires.some)) c.requires.held refl is (omega arith) c.in_ok-new.ensures.value)
