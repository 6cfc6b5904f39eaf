-- The runs of attributes and files, one after the other.
use Rattle.std.proofs.Common.{◌≡◌, ℕ, ◌+◌, ◌<◌, List, ◌∷◌, ◌++◌, length, get_or, drop, sym, ap, ◌∙◌}
use Rattle.std.specs.List.{flat_map}
use Rattle.std.proofs.lemmas.List.{append_assoc, drop_more}
use Rattle.std.proofs.lemmas.List.Concat.{flat_map-cons}
use Rattle.stream_map.specs.record_model.declared.runs.Run.{Run}
use Rattle.stream_map.specs.record_model.declared.attribute.Attr.{Attr}
use Rattle.state_model.specs.Streams.{form_runs, attribute_runs}

-- one more of a list whose items have runs
pub runs_more : {X : Type 0} (runs_of : X → List Run) (items : List X) (i : ℕ) (x : X) (runs after all : List Run) → i < length items → x ≡ get_or items i x → after ≡ runs ++ runs_of x → runs ++ flat_map runs_of (drop i items) ≡ all → after ++ flat_map runs_of (drop (i + 1) items) ≡ all
runs_more {X} runs_of items i x runs after all lt is pushed so_far =
    let rest = drop (i + 1) items in
    let here : drop i items ≡ x ∷ rest = drop_more items i x lt ∙ ap (λ (y : X). y ∷ rest) (sym is) in
    ap (λ (l : List Run). l ++ flat_map runs_of rest) pushed
    ∙ append_assoc runs (runs_of x) (flat_map runs_of rest)
    ∙ sym (ap (λ (l : List Run). runs ++ l) (flat_map-cons runs_of x rest))
    ∙ sym (ap (λ (l : List X). runs ++ flat_map runs_of l) here)
    ∙ so_far

pub attr_more : (attrs : List Attr) (i : ℕ) (a : Attr) (runs after all : List Run) → i < length attrs → a ≡ get_or attrs i a → after ≡ runs ++ form_runs a.form → runs ++ flat_map attribute_runs (drop i attrs) ≡ all → after ++ flat_map attribute_runs (drop (i + 1) attrs) ≡ all
unfolding attribute_runs
attr_more attrs i a runs after all lt is pushed so_far = runs_more attribute_runs attrs i a runs after all lt is pushed so_far
