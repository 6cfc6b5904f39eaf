-- What is then read of a file table that grew.
use Rattle.std.proofs.Common.{◌≡◌, ℕ, zero, suc, ◌+◌, ◌*◌, ◌/◌, ◌<◌, ◌≤◌, Bool, true, false, cond, List, Option, Some, None, refl, sym, ap, subst, ◌∙◌, inl, inr, arith}
use Rattle.std.proofs.lemmas.Bool.{cases_lt}
use Rattle.disk_model.specs.declared.block.Block.{Block}
use Rattle.disk_model.specs.Bodies.{BodyOf}
use Rattle.disk_model.specs.Bytes.{zeros}
use Rattle.disk_model.specs.Content.{Content}
use Rattle.disk_model.specs.Sectors.{same_block}
use Rattle.draft_bitmaps.specs.state_model.declared.stream.Extents.{Extents}
use Rattle.plan_bodies.specs.Bodies.{NewBody, body_in}
use Rattle.plan_bodies.proofs.Putting.{block_itself}
use Rattle.draft_bitmaps.specs.plan_draft.declared.touched.Touched.{Touched}
use Rattle.draft_bitmaps.specs.plan_draft.Touching.{bodies_of, touch}
use Rattle.draft_bitmaps.proofs.plan_draft.Puts.{bodies_touch}
use Rattle.draft_bitmaps.proofs.plan_draft.Same.{one_in_order}
use Rattle.draft_numbers.specs.draft_records.Records.{record_block, touch_if}
use Rattle.draft_growth.specs.Growing.{table_records, record_count, with_empty_records}
use Rattle.draft_growth.specs.Effects.{HasOwnRecords, GrownIsRead}

after_touch : (touched : List Touched) (a b : Block) (fresh : Bool) (bytes : List ℕ) (old : BodyOf) → body_in (bodies_of (touch a fresh bytes old touched)) b ≡ cond (same_block b a) (Some bytes) (body_in (bodies_of touched) b)
after_touch touched a b fresh bytes old = ap (λ (l : List NewBody). body_in l b) (bodies_touch touched a fresh bytes old) ∙ one_in_order (record { block = a; bytes = bytes }) (bodies_of touched) b

away : (c : Content) (o : Option Block) (bytes : List ℕ) (touched : List Touched) (b : Block) → ((a : Block) → o ≡ Some a → same_block b a ≡ false) → body_in (bodies_of (touch_if c o true bytes touched)) b ≡ body_in (bodies_of touched) b
away c None bytes touched b apart = refl
away c (Some a) bytes touched b apart = after_touch touched a b true bytes (c a) ∙ ap (λ (t : Bool). cond t (Some bytes) (body_in (bodies_of touched) b)) (apart a refl)

here : (c : Content) (o : Option Block) (bytes : List ℕ) (touched : List Touched) (b : Block) → o ≡ Some b → body_in (bodies_of (touch_if c o true bytes touched)) b ≡ Some bytes
here c o bytes touched b is =
    ap (λ (p : Option Block). body_in (bodies_of (touch_if c p true bytes touched)) b) is
    ∙ after_touch touched b b true bytes (c b)
    ∙ ap (λ (t : Bool). cond t (Some bytes) (body_in (bodies_of touched) b)) (block_itself b)

last_empty : (c : Content) (per : ℕ) (e : Extents) (body : List ℕ) (first k : ℕ) (touched : List Touched) (block : Block) → record_block per e (first + k) ≡ Some block → body_in (bodies_of (with_empty_records c per e body first (suc k) touched)) block ≡ Some body
unfolding with_empty_records
last_empty c per e body first k touched block lies = here c (record_block per e (first + k)) body (with_empty_records c per e body first k touched) block lies

one_away : (c : Content) (per : ℕ) (e : Extents) (body : List ℕ) (first k : ℕ) (touched : List Touched) (block : Block) → ((a : Block) → record_block per e (first + k) ≡ Some a → same_block block a ≡ false)
    → body_in (bodies_of (with_empty_records c per e body first (suc k) touched)) block ≡ body_in (bodies_of (with_empty_records c per e body first k touched)) block
unfolding with_empty_records
one_away c per e body first k touched block apart = away c (record_block per e (first + k)) body (with_empty_records c per e body first k touched) block apart

each_empty : (c : Content) (per : ℕ) (e : Extents) (body : List ℕ) (first k n : ℕ) (touched : List Touched) (block : Block) → HasOwnRecords per e → first ≤ n → n < first + k → record_block per e n ≡ Some block
    → body_in (bodies_of (with_empty_records c per e body first k touched)) block ≡ Some body
each_empty c per e body first zero n touched block own low high lies = absurd (omega (arith, low, high))
each_empty c per e body first (suc k) n touched block own low high lies = elim (cases_lt n (first + k)) [
  | inl less ↦
      one_away c per e body first k touched block (λ a there. own n (first + k) block a (λ is. absurd (omega (arith, is, less))) lies there) ∙ each_empty c per e body first k n touched block own low less lies
  | inr ge ↦
      (let same : n ≡ first + k = omega (arith, ge, high) in
      last_empty c per e body first k touched block (sym (ap (record_block per e) same) ∙ lies))
]

counted : (real : ℕ) → (real + 1024 * table_records) / 1024 ≡ real / 1024 + table_records
counted real = omega arith

pub grown_read : GrownIsRead
grown_read = record {
  count = λ c per bits mirror t after b clusters old new is. ap record_count is.lies ∙ ap record_count is.is_records.extents ∙ counted t.extents.real;
  records = λ c per n bits mirror t after b clusters old new block is own low high lies.
      (let e = is.records.extents in
      ap (λ (l : List Touched). body_in (bodies_of l) block) is.put.4
      ∙ each_empty c per e (zeros 1024) (record_count t.extents) table_records n is.put.1 block (subst (HasOwnRecords per) is.lies own) low high (subst (λ (x : Extents). record_block per x n ≡ Some block) is.lies lies));
}
