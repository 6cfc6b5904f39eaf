use Rattle.std.proofs.Common.{ℕ, ◌++◌, take, drop, ap, ◌∙◌, add-one}
use Rattle.record_model.specs.Records.{Record}
use Rattle.record_writer.proofs.written.FileRecWrittenRecord.without_attr.Goals as goal

pub returns : goal.returns
returns c =
    let without : ℕ → Record = λ (n : ℕ). record { head = c.args.self.now.head; attrs = take c.args.at c.args.self.now.attrs ++ drop n c.args.self.now.attrs } in
    record { value = c.in_ok-removed.ensures ∙ ap without (add-one c.args.at) }
