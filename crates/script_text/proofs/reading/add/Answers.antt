use Rattle.std.proofs.Common.{◌-◌, ◌+◌, ◌<◌, length, ap, arith}
use Rattle.std.specs.Prelude.{◌==◌}
use Rattle.std.proofs.lemmas.List.Elements.{All-push}
use Rattle.std.proofs.lemmas.List.Sums.{count_by-le-length}
use Rattle.tree_model.specs.declared.script.Command.{Command}
use Rattle.script_text.specs.Asking.{IsAsked}
use Rattle.script_text.proofs.reading.add.Goals as goal

pub overflow_add-number : goal.overflow_add-number
overflow_add-number c =
    let client = c.args.request.client in
    let place : client - 1 < length c.args.counts.now = omega arith in
    let count = c.requires.counts (client - 1) place in
    omega (arith, count, ap length c.as_slice.ensures, count_by-le-length (λ (command : Command). command.client == client - 1 + 1) c.args.commands.now)

pub returns-clause-asked : goal.returns-clause-asked
returns-clause-asked c = rw c.in_ok-push.ensures.ok (All-push (λ (x : Command). IsAsked x.what) c.args.commands.now _ c.requires.asked c.requires.client.2)
