use Rattle.std.proofs.Common.{arith, ap, sym, ◌∙◌, List, ℕ}
use Rattle.std.proofs.lemmas.Result.{err_from_is_err_and}
use Rattle.std.specs.Prelude.{◌==◌}
use Rattle.std.specs.List.{slice_split}
use Rattle.script_text.specs.Scripts.{commands_from, commands_in}
use Rattle.script_text.proofs.LineSteps.{next_line, line_at_fault, some_piece}
use Rattle.script_text.proofs.reading.commands_in.Goals as goal

pub returns-in_err-add_line : goal.returns-in_err-add_line
returns-in_err-add_line c =
    let p = err_from_is_err_and c.from_residual.result c.from_residual.ensures.1 in
    let number = c.loop-line.number in
    let commands = c.loop-line.commands in
    let pieces = slice_split (λ (b : ℕ). b == 10) c.in-Some.behind.now in
    let so_far = ap (λ (lines : List (List ℕ)). commands_from number commands lines) (sym c.in-Some.ensures.0) ∙ c.loop-line.invariant.read in
    rw (p.1, p.2) (record {
      value = line_at_fault number commands c.in-Some.line.now pieces c.in_err-add_line.field-0.0 (commands_in c.args.bytes.now) (some_piece c.in-Some.behind.now) c.in_err-add_line.ensures.err so_far;
      asked = tt;
      few = tt;
    })

pub loop-line-preserved : goal.loop-line-preserved
loop-line-preserved c =
    let number = c.loop-line.number in
    let commands = c.loop-line.commands in
    let pieces = slice_split (λ (b : ℕ). b == 10) c.in-Some.behind.now in
    let so_far = ap (λ (lines : List (List ℕ)). commands_from number commands lines) (sym c.in-Some.ensures.0) ∙ c.loop-line.invariant.read in
    record {
      read = next_line number commands c.add_line.new.commands c.in-Some.line.now pieces (commands_in c.args.bytes.now) (some_piece c.in-Some.behind.now) c.in_ok-add_line.ensures.ok so_far;
      counts = c.in_ok-add_line.ensures.counts;
      asked = c.in_ok-add_line.ensures.asked;
      few = c.in_ok-add_line.ensures.few;
      lines = omega (arith, c.in-Some.ensures.1);
    }
