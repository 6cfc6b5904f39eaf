use Rattle.std.proofs.Common.{◌≡◌, ◌∙◌, List, ap, map, sym, string_bytes, subst, ℕ}
use Rattle.host_base.specs.Answers.{Explains}
use Rattle.clap.specs.Words.{App, HasKind, app_of, fault_of, is_simple, is_simple_and_free, matches_of}
use Rattle.command_line.specs.declared.fault.LineFault.{LineFault}
use Rattle.command_line.specs.Faults.{line_cause}
use Rattle.command_line.specs.Lines.{line_app}
use Rattle.command_line.specs.Texts.{texts_of}
use Rattle.command_line.proofs.Ends.{is_free, is_plain, matched, unmatched}
use Rattle.command_line.proofs.matching.matches.Goals as goal

pub returns-in-Ok : goal.returns-in-Ok
returns-in-Ok c =
    let is : app_of c.in_ok-line.line ≡ line_app = c.in_ok-line.ensures in
    let words : List (List ℕ) = map (λ word. string_bytes word) c.args.words.now in
    matched c.args.words.now c.in-Ok.matches
    (ap (λ (a : App). fault_of a words) (sym is) ∙ c.in-Ok.ensures.kinds (ap is_simple_and_free is ∙ is_free))
    ((c.in-Ok.ensures.matches (ap is_simple is ∙ is_plain)).0 ∙ ap (λ (a : App). matches_of a words) is)

pub returns-in-Err : goal.returns-in-Err
returns-in-Err c =
    let is : app_of c.in_ok-line.line ≡ line_app = c.in_ok-line.ensures in
    let words : List (List ℕ) = map (λ word. string_bytes word) c.args.words.now in
    let fails = c.in-Err.ensures.kinds (ap is_simple_and_free is ∙ is_free) in
    subst (λ (f : LineFault). Explains (line_cause f) (texts_of words)) (sym c.fault.ensures)
    (unmatched c.args.words.now c.in-Err.error (subst (λ (a : App). HasKind (fault_of a words) c.in-Err.error) is fails))
