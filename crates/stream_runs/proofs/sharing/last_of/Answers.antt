use Rattle.std.proofs.Common.{◌≡◌, ℕ, ◌+◌, ◌-◌, Option, Some, None, sym, ap, ◌∙◌}
use Rattle.std.specs.Prelude.{option_map}
use Rattle.stream_runs.proofs.Looping.{last_is}
use Rattle.stream_runs.proofs.sharing.last_of.Goals as goal

pub returns-in_err-lcn : goal.returns-in_err-lcn
returns-in_err-lcn c =
    let run = c.in_ok-run.run'.now in
    let none : run.lcn ≡ None = cc in
    let last = last_is c.args.runs.now run (sym c.in_ok-run.ensures.value) in
    cc (last ∙ ap (λ (o : Option ℕ). option_map (λ (lcn : ℕ). lcn + run.len - 1) o) none)

pub returns : goal.returns
returns c =
    let run = c.in_ok-run.run'.now in
    let some : run.lcn ≡ Some c.in_ok-lcn.lcn = cc in
    let last = last_is c.args.runs.now run (sym c.in_ok-run.ensures.value) in
    ap Some c.saturating_sub.ensures ∙ sym (last ∙ ap (λ (o : Option ℕ). option_map (λ (lcn : ℕ). lcn + run.len - 1) o) some)
