use Rattle.std.proofs.Common.{ap, rules}
use Rattle.std.specs.Ordering.{is_lt}
use Rattle.std.proofs.lemmas.Cmp.{on_total}
use Rattle.std.proofs.lemmas.List.MinMax.{ranks_by}
use Rattle.std.proofs.lemmas.Fn.{always_returns_same}
use Rattle.std.proofs.lemmas.Result.{on_ok_weaker}
use Rattle.file_tree.specs.declared.link.Link.{Link}
use Rattle.file_tree.specs.Trees.{stands_before}
use Rattle.file_tree.proofs.NameOrders.{name_order_total}
use Rattle.file_tree.proofs.choosing.sort_links.Goals as goal

pub returns-clause-value : goal.returns-clause-value
returns-clause-value c =
    on_ok_weaker c.sort_by.result (λ sorted. (
      c.sort_by.ensures.permutation,
      sorted (stands_before c.args.upper.now) (ranks_by (on_total (λ (l : Link). l.name) (name_order_total c.args.upper.now)) (λ (l : Link). l)) (always_returns_same _ _ _ (λ a r k called. (ap is_lt (search rules), search rules))),
    ))
    c.sort_by.ensures.sorted
