use Rattle.std.proofs.Common.{ap, rules}
use Rattle.std.specs.Ordering.{is_lt}
use Rattle.std.proofs.lemmas.List.MinMax.{ranks_by}
use Rattle.std.proofs.lemmas.List.Sorted.{answers_always}
use Rattle.std.proofs.lemmas.Result.{on_ok_weaker}
use Rattle.run_model.specs.Texts.{Line, line_before}
use Rattle.transcript.proofs.Lines.{line_order_total}
use Rattle.transcript.proofs.line.sort.Goals as goal

pub returns : goal.returns
returns c = on_ok_weaker c.sort_by.result (λ sorted. record {
  same = c.sort_by.ensures.permutation;
  sorted = sorted line_before (ranks_by line_order_total (λ (l : Line). l)) (answers_always _ _ _ (λ f a r k called. ap is_lt (search rules)));
  ties = c.sort_by.ensures.stable line_before (ranks_by line_order_total (λ (l : Line). l)) (answers_always _ _ _ (λ f a r k called. ap is_lt (search rules)));
}) c.sort_by.ensures.sorted
