use Rattle.std.proofs.Common.{◌≡◌, ◌++◌, take, codes, string_bytes}
use Rattle.std.specs.List.{flat_map}
use Rattle.std.specs.Fmt.{decimal}
use Rattle.run_model.specs.Texts.{hit_text}
use Rattle.transcript.proofs.reply.found_text.Given as goal

abbrev pub invariant-loop-hit : goal.invariant-loop-hit
invariant-loop-hit l = string_bytes l.text ≡ codes "found " ++ (decimal l.count ++ flat_map hit_text (take l.hit-index l.hits))
