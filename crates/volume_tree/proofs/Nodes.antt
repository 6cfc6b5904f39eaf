-- The nodes of the files so far.
use Rattle.std.proofs.Common.{◌≡◌, ℕ, ◌+◌, List, [], ◌∷◌, ◌++◌, Option, refl, sym, ap, ◌∙◌, arith}
use Rattle.std.specs.List.{range_with_len, filter_map, cons_option}
use Rattle.std.proofs.lemmas.List.Elements.{filter_map-append}
use Rattle.record_rules.proofs.Ascents.{range_more}
use Rattle.state_model.specs.file_tree.declared.node.Node.{Node}

pub nodes_more : (f : ℕ → Option Node) (n : ℕ) → filter_map f (range_with_len 0 (n + 1)) ≡ filter_map f (range_with_len 0 n) ++ cons_option (f n) []
nodes_more f n =
    let e : 0 + n ≡ n = omega arith in
    ap (filter_map f) (range_more 0 n) ∙ filter_map-append f (range_with_len 0 n) ((0 + n) ∷ []) ∙ ap (λ (k : ℕ). filter_map f (range_with_len 0 n) ++ cons_option (f k) []) e
