use Rattle.std.proofs.Common.{◌≡◌, ◌++◌, take, codes, string_bytes}
use Rattle.std.specs.Fmt.{decimal}
use Rattle.run_model.specs.Texts.{listed_names}
use Rattle.transcript.proofs.reply.names_text.Given as goal

abbrev pub invariant-loop-name : goal.invariant-loop-name
invariant-loop-name l = string_bytes l.text ≡ codes "names " ++ (decimal l.count ++ listed_names (take l.name-index l.names))
