use Rattle.std.proofs.Common.{rules, ◌≡◌, ◌∙◌, ap, ap₂, codes, true}
use Rattle.std.proofs.lemmas.Result.{IfOk-weaker}
use Rattle.clap.specs.Words.{App, app_of, rule_of, with_rule}
use Rattle.clap.specs.Simple.{app_of_fields, on_top}
use Rattle.command_line.specs.Lines.{bare_app, option_rule, place_rule}
use Rattle.command_line.proofs.matching.line.Goals as goal

without_help : App → App
without_help = on_top (λ s. record s { disable_help_flag = true })

without_version : App → App
without_version = on_top (λ s. record s { disable_version_flag = true })

pub returns : goal.returns
unfolding without_help without_version
returns c =
    let bare : app_of c.disable_version_flag-line.result ≡ bare_app =
    ap app_of_fields c.disable_version_flag-line.ensures ∙ ap without_version (ap app_of_fields c.disable_help_flag.ensures ∙ ap without_help c.new.ensures.app) in
    let image_is : rule_of c.place.result ≡ place_rule (codes "image") = search rules in
    let command_is : rule_of c.place-2.result ≡ place_rule (codes "command") = search rules in
    let time_is : rule_of c.option.result ≡ option_rule (codes "time") (codes "0") = search rules in
    let seed_is : rule_of c.option-2.result ≡ option_rule (codes "seed") (codes "1") = search rules in
    let journal_is : rule_of c.option-3.result ≡ option_rule (codes "journal") (codes "262144") = search rules in
    let one = c.in_ok-line.ensures.shape (search rules) ∙ ap₂ with_rule bare image_is in
    let two = c.in_ok-line-2.ensures.shape (search rules) ∙ ap₂ with_rule one command_is in
    let three = c.in_ok-line-3.ensures.shape (search rules) ∙ ap₂ with_rule two time_is in
    let four = c.in_ok-line-4.ensures.shape (search rules) ∙ ap₂ with_rule three seed_is in
    IfOk-weaker c.arg-5.result _ _ (λ line adds. adds.shape (search rules) ∙ ap₂ with_rule four journal_is) c.arg-5.ensures
