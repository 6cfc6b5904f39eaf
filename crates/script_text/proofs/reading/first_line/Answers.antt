use Rattle.std.proofs.Common.{◌≡◌, ◌+◌, List, ℕ, drop, length, sym, ap, ◌∙◌, arith, length-drop}
use Rattle.std.proofs.lemmas.List.{drop-drop}
use Rattle.script_text.proofs.LineSteps.{one_piece, first_piece}
use Rattle.script_text.proofs.reading.first_line.Goals as goal

pub returns-in_default : goal.returns-in_default
returns-in_default c = one_piece c.args.bytes.now (sym c.in_default.ensures)

pub returns : goal.returns
returns c =
    let bytes = c.args.bytes.now in
    let end = c.in-Some.end in
    let piece = first_piece bytes end (sym c.in-Some.ensures) in
    let rest : c.split_at-2.result.1.now ≡ drop (end + 1) bytes = c.split_at-2.ensures.back ∙ ap (λ (xs : List ℕ). drop 1 xs) c.split_at.ensures.back ∙ drop-drop 1 end bytes in
    (rw (c.split_at.ensures.front, rest) piece.1, omega (arith, piece.0, ap length rest, length-drop (end + 1) bytes))
