-- Runs that go on, and join.
use Rattle.std.proofs.Common.{List, [], ◌∷◌, ◌++◌, refl, sym, subst}
use Rattle.std.proofs.lemmas.List.{append-nil, append_assoc}
use Rattle.run_model.specs.declared.turn.Turn.{Turn}
use Rattle.run_model.specs.Runs.{Segment}

pub segment_push : {S : Type 0} (step : List Turn → Turn → S → S → Type 0) (past turns : List Turn) (t : Turn) (x y z : S) → Segment step past turns x y → step (past ++ turns) t y z → Segment step past (turns ++ t ∷ []) x z
segment_push {S} step past [] t x y z run turn =
    let here : step past t y z = subst (λ (p : List Turn). step p t y z) (append-nil past) turn in
    (z, subst (λ (s : S). step past t s z) run here, refl)
segment_push step past (u ∷ turns) t x y z run turn =
    (run.0, run.1, segment_push step (past ++ u ∷ []) turns t run.0 y z run.2 (subst (λ (p : List Turn). step p t y z) (sym (append_assoc past (u ∷ []) turns)) turn))

pub segment_join : {S : Type 0} (step : List Turn → Turn → S → S → Type 0) (past turns more : List Turn) (x y z : S) → Segment step past turns x y → Segment step (past ++ turns) more y z → Segment step past (turns ++ more) x z
segment_join {S} step past [] more x y z run rest =
    subst (λ (s : S). Segment step past more s z) run (subst (λ (p : List Turn). Segment step p more y z) (append-nil past) rest)
segment_join step past (u ∷ turns) more x y z run rest =
    (run.0, run.1, segment_join step (past ++ u ∷ []) turns more run.0 y z run.2 (subst (λ (p : List Turn). Segment step p more y z) (sym (append_assoc past (u ∷ []) turns)) rest))
