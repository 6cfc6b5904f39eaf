use Rattle.std.proofs.Common.{ℕ, ◌+◌, ◌*◌, ◌/◌, ap, ◌∙◌}
use Rattle.used_laws.specs.record_model.Records.{Record, used_of}
use Rattle.data_plan.proofs.Taking.{as_value_bytes}
use Rattle.data_plan.proofs.held.used_as_value.Goals as goal

pub returns : goal.returns
returns c = ap (λ (n : ℕ). n + 8 * ((c.args.size + 7) / 8)) (c.used.ensures.value ∙ ap (λ (s : Record). used_of s.attrs) c.in_ok-empty.ensures.value) ∙ as_value_bytes c.args.file.now c.args.size c.requires.there
