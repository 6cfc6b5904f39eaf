use Rattle.std.proofs.Common.{◌≡◌, ℕ, length, sym, ap, ◌∙◌, arith}
use Rattle.record_model.specs.Attributes.{spelling}
use Rattle.record_writer.specs.Edits.{form_length}
use Rattle.record_writer.proofs.Measures.{length-spelling}
use Rattle.record_writer.proofs.lengths.spelled_length.Goals as goal

pub form_length-requires : goal.form_length-requires
form_length-requires c =
    let e : form_length c.len.result c.args.attr.now.form ≡ length (spelling c.args.attr.now) = ap (λ (n : ℕ). form_length n c.args.attr.now.form) c.len.ensures ∙ sym (length-spelling c.args.attr.now) in
    omega (arith, e, c.requires)

pub returns : goal.returns
returns c = c.form_length.ensures ∙ ap (λ (n : ℕ). form_length n c.args.attr.now.form) c.len.ensures ∙ sym (length-spelling c.args.attr.now)
