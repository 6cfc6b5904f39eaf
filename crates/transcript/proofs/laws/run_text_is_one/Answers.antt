use Rattle.std.proofs.Common.{sym, ap, ◌∙◌}
use Rattle.std.specs.List.{flat_map}
use Rattle.std.proofs.lemmas.List.MinMax.{ranks_by}
use Rattle.run_model.specs.Texts.{Line, line_before}
use Rattle.transcript.proofs.Lines.{line_order_total}
use Rattle.transcript.proofs.OneOrder.{in_order, one_order}
use Rattle.transcript.proofs.laws.run_text_is_one.Goals as goal

pub returns : goal.returns
returns c = λ turns finds a b s t.
    let o = ranks_by line_order_total (λ (l : Line). l) in
    let order = one_order line_before o s.order t.order (in_order line_before o s.order s.sorted) (in_order line_before o t.order t.sorted) (λ x. s.ties x ∙ sym (t.ties x)) in
    s.printed ∙ ap (flat_map (λ (line : Line). line.text)) order ∙ sym t.printed
