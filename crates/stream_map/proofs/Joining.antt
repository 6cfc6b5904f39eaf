-- The runs of attributes, one after the other.
use Rattle.std.proofs.Common.{◌≡◌, ℕ, ◌+◌, ◌<◌, List, ◌++◌, length, get_or, drop, Bor, sym, ap, ◌∙◌}
use Rattle.std.specs.List.{flat_map}
use Rattle.std.proofs.lemmas.List.{append_assoc}
use Rattle.std.proofs.lemmas.List.Concat.{flat_map-cons}
use Rattle.record_model.specs.declared.runs.Run.{Run}
use Rattle.record_model.specs.declared.attribute.Attr.{Attr}
use Rattle.state_model.specs.Streams.{form_runs, attribute_runs}
use Rattle.stream_map.specs.Attributes.{behind}
use Rattle.stream_map.proofs.Inserting.{behind-item}

-- one attribute more
pub joined_more : (refs : List (Bor Attr)) (i : ℕ) (r : Bor Attr) (runs after all : List Run) → i < length refs → r ≡ get_or refs i r → after ≡ runs ++ form_runs r.now.form → runs ++ flat_map attribute_runs (drop i (behind refs)) ≡ all → after ++ flat_map attribute_runs (drop (i + 1) (behind refs)) ≡ all
unfolding attribute_runs
joined_more refs i r runs after all lt is pushed so_far =
    let rest = drop (i + 1) (behind refs) in
    ap (λ (l : List Run). l ++ flat_map attribute_runs rest) pushed
    ∙ append_assoc runs (attribute_runs r.now) (flat_map attribute_runs rest)
    ∙ sym (ap (λ (l : List Run). runs ++ l) (flat_map-cons attribute_runs r.now rest))
    ∙ sym (ap (λ (l : List Attr). runs ++ flat_map attribute_runs l) (behind-item refs i r lt is))
    ∙ so_far
