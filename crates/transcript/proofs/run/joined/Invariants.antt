use Rattle.std.proofs.Common.{◌≡◌, take, string_bytes}
use Rattle.std.specs.List.{flat_map}
use Rattle.run_model.specs.Texts.{Line}
use Rattle.transcript.proofs.run.joined.Given as goal

abbrev pub invariant-loop-line : goal.invariant-loop-line
invariant-loop-line l = string_bytes l.text ≡ flat_map (λ (x : Line). x.text) (take l.line-index l.lines)
