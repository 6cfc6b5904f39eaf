use Rattle.std.proofs.Common.{◌≡◌, ◌++◌, List, [], ◌∷◌, Some, refl, sym, ap, ◌∙◌, subst, arith}
use Rattle.record_model.specs.declared.runs.Run.{Run}
use Rattle.record_model.specs.Pairs.{HasSpelling, first_vcn}
use Rattle.codec_rows.proofs.runs.writes_runs.Goals as goal

pub write-requires : goal.write-requires
write-requires g c =
    let only : Run = record { vcn = 0; lcn = Some 5; len = 200 } in
    let alone : c.push.new.self ≡ only ∷ [] = c.in_ok-push.ensures.pushed ∙ ap (λ (l : List Run). l ++ c.run.result ∷ []) c.new-runs.ensures ∙ ap (λ (r : Run). r ∷ []) c.run.ensures in
    record { spelling = subst (λ (l : List Run). HasSpelling (first_vcn l) l) (sym alone) (record { vcn = refl; some = omega arith; within = omega arith; lcn = omega arith }, tt) }
