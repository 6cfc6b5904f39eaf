-- The steps of putting new records.
use Rattle.std.proofs.Common.{◌≡◌, ℕ, suc, ◌+◌, List, Option, Some, None, refl, sym, ap, subst, ◌∙◌, arith}
use Rattle.std.specs.Prelude.{IfSome}
use Rattle.disk_model.specs.Content.{Content}
use Rattle.draft_bitmaps.specs.state_model.declared.stream.Extents.{Extents}
use Rattle.draft_bitmaps.specs.plan_draft.declared.touched.Touched.{Touched}
use Rattle.draft_growth.specs.Growing.{with_empty, with_empty_records}

none_yet : (c : Content) (per : ℕ) (e : Extents) (body : List ℕ) (first : ℕ) (old : List Touched) → old ≡ with_empty_records c per e body first 0 old
unfolding with_empty_records
none_yet c per e body first old = refl

one_more : (c : Content) (per : ℕ) (e : Extents) (body : List ℕ) (first n : ℕ) (old : List Touched) → with_empty_records c per e body first (suc n) old ≡ with_empty c per e body (first + n) (with_empty_records c per e body first n old)
unfolding with_empty_records
one_more c per e body first n old = refl

pub begins : (content : Option Content) (per : ℕ) (e : Extents) (body : List ℕ) (first : ℕ) (old : List Touched) → IfSome content (λ c. old ≡ with_empty_records c per e body first 0 old)
begins None per e body first old = tt
begins (Some c) per e body first old = none_yet c per e body first old

pub step : (content : Option Content) (per : ℕ) (e : Extents) (body : List ℕ) (first i : ℕ) (old mid new : List Touched) → IfSome content (λ c. mid ≡ with_empty_records c per e body first i old)
    → IfSome content (λ c. new ≡ with_empty c per e body (first + i) mid) → IfSome content (λ c. new ≡ with_empty_records c per e body first (i + 1) old)
step None per e body first i old mid new before after = tt
step (Some c) per e body first i old mid new before after =
    let next : suc i ≡ i + 1 = omega arith in
    after ∙ ap (with_empty c per e body (first + i)) before ∙ sym (one_more c per e body first i old) ∙ ap (λ (n : ℕ). with_empty_records c per e body first n old) next

pub ends : (content : Option Content) (per : ℕ) (e : Extents) (body : List ℕ) (first i n : ℕ) (old new : List Touched) → i ≡ n → IfSome content (λ c. new ≡ with_empty_records c per e body first i old) → IfSome content (λ c. new ≡ with_empty_records c per e body first n old)
ends content per e body first i n old new is put = subst (λ (k : ℕ). IfSome content (λ c. new ≡ with_empty_records c per e body first k old)) is put
