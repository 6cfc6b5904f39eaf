use Rattle.std.proofs.Common.{◌≡◌, map}
use Rattle.script_text.specs.Paths.{parts_of}
use Rattle.script_text.proofs.Parts.{with_parts, parts_from}
use Rattle.script_text.proofs.path.parts.Given as goal

abbrev pub invariant-loop-text : goal.invariant-loop-text
invariant-loop-text l = with_parts l.path (parts_from l.text-index l.texts) ≡ parts_of (map (λ text. text.now) l.texts)
