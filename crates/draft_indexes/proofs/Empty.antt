-- The steps of putting the blocks that come to be initialised.
use Rattle.std.proofs.Common.{◌≡◌, ℕ, suc, ◌+◌, ◌*◌, List, Option, Some, None, refl, sym, ap, subst, ◌∙◌, arith}
use Rattle.std.specs.Prelude.{IfSome}
use Rattle.disk_model.specs.declared.block.BlockKind.{BlockKind}
use Rattle.disk_model.specs.declared.block.BlockKind.TheVariants.{Index}
use Rattle.disk_model.specs.Content.{Content}
use Rattle.disk_model.specs.Sectors.{sectors}
use Rattle.state_model.specs.declared.stream.Extents.{Extents}
use Rattle.plan_draft.specs.declared.touched.Touched.{Touched}
use Rattle.draft_indexes.specs.Growing.{with_block, with_blocks}

pub kind_of_size : (n : ℕ) (kind : BlockKind) → kind ≡ Index → n ≡ 4096 → n ≡ 512 * sectors kind
kind_of_size n kind is size = size ∙ sym (ap (λ (k : BlockKind). 512 * sectors k) is)

none_yet : (c : Content) (per : ℕ) (e : Extents) (body : List ℕ) (first : ℕ) (old : List Touched) → old ≡ with_blocks c per e body first 0 old
unfolding with_blocks
none_yet c per e body first old = refl

one_more : (c : Content) (per : ℕ) (e : Extents) (body : List ℕ) (first n : ℕ) (old : List Touched) → with_blocks c per e body first (suc n) old ≡ with_block c per e body (first + n) (with_blocks c per e body first n old)
unfolding with_blocks
one_more c per e body first n old = refl

pub begins : (content : Option Content) (per : ℕ) (e : Extents) (body : List ℕ) (first : ℕ) (old : List Touched) → IfSome content (λ c. old ≡ with_blocks c per e body first 0 old)
begins None per e body first old = tt
begins (Some c) per e body first old = none_yet c per e body first old

pub step : (content : Option Content) (per : ℕ) (e : Extents) (body : List ℕ) (first i : ℕ) (old mid new : List Touched) → IfSome content (λ c. mid ≡ with_blocks c per e body first i old)
    → IfSome content (λ c. new ≡ with_block c per e body (first + i) mid) → IfSome content (λ c. new ≡ with_blocks c per e body first (i + 1) old)
step None per e body first i old mid new before after = tt
step (Some c) per e body first i old mid new before after =
    let next : suc i ≡ i + 1 = omega arith in
    after ∙ ap (with_block c per e body (first + i)) before ∙ sym (one_more c per e body first i old) ∙ ap (λ (n : ℕ). with_blocks c per e body first n old) next

pub ends : (content : Option Content) (per : ℕ) (e : Extents) (body : List ℕ) (first i n : ℕ) (old new : List Touched) → i ≡ n → IfSome content (λ c. new ≡ with_blocks c per e body first i old) → IfSome content (λ c. new ≡ with_blocks c per e body first n old)
ends content per e body first i n old new is put = subst (λ (k : ℕ). IfSome content (λ c. new ≡ with_blocks c per e body first k old)) is put
