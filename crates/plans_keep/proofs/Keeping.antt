-- The changes of a draft that puts the bodies of a plan.
use Rattle.std.proofs.Common.{◌≡◌, subst, ℕ, suc, ◌<◌, ◌≤◌, Bool, true, false, ◌||◌, cond, List, [], ◌∷◌, ◌++◌, length, Option, Some, None, refl, sym, ap, ap₂, ◌∙◌, inl, inr, arith}
use Rattle.std.specs.Prelude.{◌⊎◌, All}
use Rattle.std.specs.List.{AllByRecursion}
use Rattle.std.proofs.lemmas.Bool.{cases_Bool, cases_lt, lt-ltb, le-ltb, or_left, or_right}
use Rattle.std.proofs.lemmas.List.Elements.{All-head, All-tail}
use Rattle.disk_model.specs.declared.block.Block.{Block}
use Rattle.disk_model.specs.declared.block.BlockKind.{BlockKind}
use Rattle.disk_model.specs.declared.block.BlockKind.TheVariants.{Plain, FileRec, Index}
use Rattle.disk_model.specs.declared.block.Body.{Body}
use Rattle.disk_model.specs.declared.block.Change.{Change}
use Rattle.disk_model.specs.Bodies.{BodyOf}
use Rattle.disk_model.specs.Content.{Content, HasSizes}
use Rattle.disk_model.specs.Sectors.{sectors, same_block, are_rivals}
use Rattle.disk_model.proofs.Frames.{same_block-is}
use Rattle.fixup_record.specs.Spellings.{has_spelling}
use Rattle.state_model.specs.declared.geometry.Geometry.{Geometry}
use Rattle.volume_model.specs.Volumes.{Volume}
use Rattle.stream_laws.specs.Owners.{Owns}
use Rattle.stream_laws.specs.Sharing.{stream_at, runs_in}
use Rattle.plan_spares.specs.plan_owners.States.{Stands}
use Rattle.plan_spares.specs.plan_owners.Agreeing.{IsJudged, log_key}
use Rattle.plan_spares.specs.state_blocks.Needing.{IsListed, IsNeeded}
use Rattle.plan_spares.specs.state_blocks.Drafts.{is_changed}
use Rattle.plan_bodies.specs.Bodies.{NewBody, content_with, body_in, body_or}
use Rattle.plan_bodies.proofs.Putting.{block_itself, body_put}
use Rattle.plan_draft.specs.declared.touched.Touched.{Touched}
use Rattle.plan_draft.specs.Touching.{block_key, rises, bodies_of, new_body, IsWhole, IsOldOf}
use Rattle.plan_draft.specs.Finishing.{is_whole_change, change_start, change_end, change_of, changes_in, changes_of, change_keys}
use Rattle.plan_draft.specs.Same.{PutSame}
use Rattle.plan_draft.proofs.Finished.{finished, fits, in_order}
use Rattle.plan_draft.proofs.Placing.{rises_head, rises_tail, other_block}
use Rattle.plan_draft.proofs.Ranges.{spans, length-part}
use Rattle.plan_draft.proofs.Same.{same_content}
use Rattle.plan_draft.proofs.Touching.{are_bodies}
use Rattle.plan_spares.specs.plan_model.Drafts.{IsPut, DraftIn as PlanIn, DraftsGoOn}
use Rattle.plan_spares.specs.Plans.{HasOwnLists, AreOf, PlanKeeps, PlansSpare}
use Rattle.plans_keep.specs.Keeping.{AreFinished, TouchesWell, AreAside, AreAllAside, IsSpelled, ChangesKeep}

each_as : {X : Type 0} (P Q : X → Type 0) → ((x : X) → P x → Q x) → (xs : List X) → AllByRecursion P xs → AllByRecursion Q xs
each_as P Q f [] all = tt
each_as P Q f (x ∷ xs) all = (f x all.0, each_as P Q f xs all.1)

-- ---- bodies that are put

-- what holds of the block of each body holds of a block into which one is put
pub put_found : (P : Block → Type 0) (bodies : List NewBody) (b : Block) → AllByRecursion (λ (p : NewBody). P p.block) bodies → IsPut bodies b → P b
put_found P [] b all put = absurd (none_some put.0 put.1)
  where
    none_some : (bytes : List ℕ) → None ≡ Some bytes → ⊥
    none_some bytes is = absurd cc
put_found P (p ∷ bodies) b all put = by (same_block b p.block) refl put.1 (λ there. put_found P bodies b all.1 (put.0, there))
  where
    by : (t : Bool) → same_block b p.block ≡ t → cond t (Some p.bytes) (body_in bodies b) ≡ Some put.0 → (body_in bodies b ≡ Some put.0 → P b) → P b
    by true is there more = subst P (sym (same_block-is b p.block is)) all.0
    by false is there more = more there

put_more : (x : NewBody) (bodies : List NewBody) (b : Block) → IsPut bodies b → IsPut (x ∷ bodies) b
put_more x bodies b put = by (same_block b x.block) refl
  where
    by : (t : Bool) → same_block b x.block ≡ t → IsPut (x ∷ bodies) b
    by true is = (x.bytes, ap (λ (t : Bool). cond t (Some x.bytes) (body_in bodies b)) is)
    by false is = (put.0, ap (λ (t : Bool). cond t (Some x.bytes) (body_in bodies b)) is ∙ put.1)

-- into each touched block one is put
each_put : (touched : List Touched) → AllByRecursion (λ (t : Touched). IsPut (bodies_of touched) t.block) touched
each_put [] = tt
each_put (t ∷ touched) = (
  (t.new, ap (λ (s : Bool). cond s (Some t.new) (body_in (bodies_of touched) t.block)) (block_itself t.block)),
  each_as (λ (s : Touched). IsPut (bodies_of touched) s.block) (λ (s : Touched). IsPut (bodies_of (t ∷ touched)) s.block) (λ s is. put_more (new_body t) (bodies_of touched) s.block is) touched (each_put touched),
)

-- ---- the changes of what is touched

-- a change more, or none
with_change : (t : Touched) (changes : List Change) (P : List Change → Type 0) → (change_start t < change_end t → P (change_of t (change_start t) (change_end t) ∷ changes)) → (change_end t ≤ change_start t → P changes) → P (changes_in t ++ changes)
with_change t changes P some none = elim (cases_lt (change_start t) (change_end t)) [
  | inl lt ↦ rw (lt-ltb (change_start t) (change_end t) lt) (some lt)
  | inr le ↦ rw (le-ltb (change_start t) (change_end t) le) (none le)
]

-- what holds of the change of each touched block that has one
pub each_change : (Q : Change → Type 0) (touched : List Touched) → AllByRecursion (λ (t : Touched). change_start t < change_end t → Q (change_of t (change_start t) (change_end t))) touched → AllByRecursion Q (changes_of touched)
each_change Q [] all = tt
each_change Q (t ∷ touched) all = with_change t (changes_of touched) (AllByRecursion Q) (λ lt. (all.0 lt, each_change Q touched all.1)) (λ le. each_change Q touched all.1)

-- a fresh block is changed whole
fresh_changes : (t : Touched) → IsWhole t → t.fresh ≡ true → change_start t < change_end t
fresh_changes t whole fresh =
    let is : is_whole_change t ≡ true = ap (λ (s : Bool). s || t.torn) fresh in
    let size = whole.new in
    let some = some_sectors t.block.kind in
    rw is (omega (arith, size, some))
  where
    some_sectors : (k : BlockKind) → 0 < sectors k
    some_sectors Plain = omega arith
    some_sectors FileRec = omega arith
    some_sectors Index = omega arith

module _ (c : Content) (v : Volume) where
  -- a block into which a body is put is changed, or one by which the state is judged
  changed_or : (touched : List Touched) (b : Block) → All IsWhole touched → AllByRecursion (TouchesWell c v) touched → IsPut (bodies_of touched) b → IsNeeded c v b ⊎ (is_changed (changes_of touched) b ≡ true)
  changed_or [] b whole well put = absurd (none_some put.0 put.1)
    where
      none_some : (bytes : List ℕ) → None ≡ Some bytes → ⊥
      none_some bytes is = absurd cc
  changed_or (t ∷ touched) b whole well put = by (same_block b t.block) refl put.1 (λ more. changed_or touched b (All-tail IsWhole t touched whole) well.1 more)
    where
      here : same_block b t.block ≡ true → IsNeeded c v b ⊎ (is_changed (changes_of (t ∷ touched)) b ≡ true)
      here is = elim (cases_lt (change_start t) (change_end t)) [
        | inl lt ↦
            inr
            (with_change t (changes_of touched) (λ xs. is_changed xs b ≡ true) (λ more. or_left (same_block b t.block) (is_changed (changes_of touched) b) is)
            (λ le. absurd (omega (arith, lt, le))))
        | inr le ↦ elim (cases_Bool t.fresh) [
          | inl fresh ↦ (let lt = fresh_changes t (All-head IsWhole t touched whole) fresh in absurd (omega (arith, lt, le)))
          | inr begun ↦ inl (inl (subst (IsJudged v) (sym (same_block-is b t.block is)) (well.0.begun begun)))
        ]
      ]

      there : IsNeeded c v b ⊎ (is_changed (changes_of touched) b ≡ true) → IsNeeded c v b ⊎ (is_changed (changes_of (t ∷ touched)) b ≡ true)
      there (inl needed) = inl needed
      there (inr some) = inr (with_change t (changes_of touched) (λ xs. is_changed xs b ≡ true) (λ lt. or_right (same_block b t.block) (is_changed (changes_of touched) b) some) (λ le. some))

      by : (s : Bool) → same_block b t.block ≡ s → cond s (Some t.new) (body_in (bodies_of touched) b) ≡ Some put.0 → (IsPut (bodies_of touched) b → IsNeeded c v b ⊎ (is_changed (changes_of touched) b ≡ true))
          → IsNeeded c v b ⊎ (is_changed (changes_of (t ∷ touched)) b ≡ true)
      by true is at rest = here is
      by false is at rest = there (rest (put.0, at))

  -- what is put there has a spelling
  spelled_there : (touched : List Touched) (b : Block) (bytes : List ℕ) → AllByRecursion (TouchesWell c v) touched → body_in (bodies_of touched) b ≡ Some bytes → has_spelling b.kind bytes ≡ true
  spelled_there [] b bytes well is = absurd cc
  spelled_there (t ∷ touched) b bytes well is = by (same_block b t.block) refl is (λ later. spelled_there touched b bytes well.1 later)
    where
      one : (l : List ℕ) → Some l ≡ Some bytes → l ≡ bytes
      one l e = cc

      by : (s : Bool) → same_block b t.block ≡ s → cond s (Some t.new) (body_in (bodies_of touched) b) ≡ Some bytes → (body_in (bodies_of touched) b ≡ Some bytes → has_spelling b.kind bytes ≡ true) → has_spelling b.kind bytes ≡ true
      by true same at rest = ap₂ (λ (x : Block) (l : List ℕ). has_spelling x.kind l) (same_block-is b t.block same) (sym (one t.new at)) ∙ well.0.spelled
      by false same at rest = rest at

  -- none that is needed was torn
  whole_changes : (touched : List Touched) → All (IsOldOf c) touched → AllByRecursion (TouchesWell c v) touched → AllByRecursion (λ (t : Touched). change_start t < change_end t → IsNeeded c v t.block → (c t.block).torn ≡ false) touched
  whole_changes [] olds well = tt
  whole_changes (t ∷ touched) olds well = (
    λ lt needed. ap (λ (x : BodyOf). x.torn) (All-head (IsOldOf c) t touched olds) ∙ well.0.whole needed,
    whole_changes touched (All-tail (IsOldOf c) t touched olds) well.1,
  )

-- each brings some bytes
some_bytes : (touched : List Touched) → All IsWhole touched → AllByRecursion (λ (t : Touched). change_start t < change_end t → 0 < length (change_of t (change_start t) (change_end t)).new) touched
some_bytes [] whole = tt
some_bytes (t ∷ touched) whole = (
  λ lt. (let long = length-part t.new (change_start t) (change_end t) (spans t (All-head IsWhole t touched whole)).within in omega (arith, long, lt)),
  some_bytes touched (All-tail IsWhole t touched whole),
)

-- ---- changes apart

module _ (bodies : List NewBody) (each : AllByRecursion (λ (p : NewBody). AllByRecursion (λ (q : NewBody). are_rivals p.block q.block ≡ false) bodies) bodies) where
  no_rivals : (a b : Block) → IsPut bodies a → IsPut bodies b → are_rivals a b ≡ false
  no_rivals a b first second = put_found (λ x. are_rivals a x ≡ false) bodies b (put_found (λ x. AllByRecursion (λ (q : NewBody). are_rivals x q.block ≡ false) bodies) bodies a each first) second

  beside : (x : Change) (least : ℕ) (xs : List Change) → rises least (change_keys xs) ≡ true → block_key x.block < least → IsPut bodies x.block → AllByRecursion (λ (y : Change). IsPut bodies y.block) xs → AllByRecursion (AreAside x) xs
  beside x least [] up lt put puts = tt
  beside x least (y ∷ xs) up lt put puts =
      let head = rises_head least (block_key y.block) (change_keys xs) up in (
        record { other = other_block x.block y.block (λ e. absurd (omega (arith, head, lt, e))); no_rival = no_rivals x.block y.block put puts.0 },
        beside x (suc (block_key y.block)) xs (rises_tail least (block_key y.block) (change_keys xs) up) (omega (arith, head, lt)) put puts.1,
      )

  all_beside : (least : ℕ) (xs : List Change) → rises least (change_keys xs) ≡ true → AllByRecursion (λ (y : Change). IsPut bodies y.block) xs → AreAllAside xs
  all_beside least [] up puts = tt
  all_beside least (x ∷ xs) up puts =
      let tail = rises_tail least (block_key x.block) (change_keys xs) up in
      (beside x (suc (block_key x.block)) xs tail (omega arith) puts.0 puts.1, all_beside (suc (block_key x.block)) xs tail puts.1)

-- ---- all of it

body_with : List ℕ → Bool → Body
body_with bytes torn = record { bytes = bytes; torn = torn }

module _ (drafts : DraftsGoOn) (spares : PlansSpare) (c : Content) (g : Geometry) (clusters : ℕ) (v w : Volume) (bodies : List NewBody) (gave : ℕ → Option BlockKind) (touched : List Touched) (changes : List Change) (sized : HasSizes c) (eight : g.per_cluster ≡ 8) (s : Stands c g clusters v)
    (plan : PlanIn c g clusters v bodies w gave) (same : PutSame (bodies_of touched) bodies) (done : AreFinished c touched changes) (well : AllByRecursion (TouchesWell c v) touched) (log : runs_in (stream_at w log_key) ≡ runs_in (stream_at v log_key)) (lists : HasOwnLists c v)
    (then : (b : Block) → IsListed (content_with c bodies) w b → IsNeeded c v b ⊎ IsJudged w b) where
  puts : AllByRecursion (λ (x : Change). IsPut bodies x.block) (changes_of touched)
  puts =
      each_change (λ (x : Change). IsPut bodies x.block) touched
      (each_as (λ (t : Touched). IsPut (bodies_of touched) t.block) (λ (t : Touched). change_start t < change_end t → IsPut bodies t.block) (λ t put lt. (put.0, sym (same t.block) ∙ put.1)) touched (each_put touched))

  are : AreOf c v (changes_of touched) bodies
  are = record { each = puts; all = λ b put. changed_or c v touched b done.whole well (put.0, same b ∙ put.1) }

  keeps : PlanKeeps c v (changes_of touched) (content_with c bodies) w
  keeps = record { log = log; lists = lists; then = then; whole = each_change (λ (x : Change). IsNeeded c v x.block → (c x.block).torn ≡ false) touched (whole_changes c v touched done.olds well) }

  spelled_at : (x : Change) → IsPut bodies x.block → IsSpelled (content_with c bodies) x.block
  unfolding body_with
  spelled_at x put =
      let there : content_with c bodies x.block ≡ body_with put.0 false = body_put c bodies x.block sized plan.whole ∙ ap (body_or (c x.block)) put.1 in
      record {
        spelled = ap (λ (y : Body). has_spelling x.block.kind y.bytes) there ∙ spelled_there c v touched x.block put.0 well (same x.block ∙ put.1);
        untorn = ap (λ (y : Body). y.torn) there;
      }

  no_two : AllByRecursion (λ (p : NewBody). AllByRecursion (λ (q : NewBody). are_rivals p.block q.block ≡ false) bodies) bodies
  no_two =
      each_as (λ (p : NewBody). ((r : Block) → Owns v r → are_rivals p.block r ≡ false) × AllByRecursion (λ q. are_rivals p.block q.block ≡ false) bodies) (λ (p : NewBody). AllByRecursion (λ (q : NewBody). are_rivals p.block q.block ≡ false) bodies) (λ p is. is.1) bodies
      (drafts.rivals c g clusters v w bodies gave eight s plan)

  of_touched : ChangesKeep c v bodies (changes_of touched) w
  of_touched = record {
    content = finished c touched sized done.rises done.whole done.olds ∙ same_content c (bodies_of touched) bodies sized (are_bodies touched done.rises done.whole) plan.whole same;
    draft = spares c g clusters v w bodies gave (changes_of touched) eight s plan are keeps;
    written = each_as (λ (x : Change). IsPut bodies x.block) (λ (x : Change). IsSpelled (content_with c bodies) x.block) spelled_at (changes_of touched) puts;
    apart = all_beside bodies no_two 0 (changes_of touched) (in_order 0 touched done.rises) puts;
    fits = fits touched done.whole;
    some = each_change (λ (x : Change). 0 < length x.new) touched (some_bytes touched done.whole);
  }

  pub kept : ChangesKeep c v bodies changes w
  kept = subst (λ (xs : List Change). ChangesKeep c v bodies xs w) (sym done.are) of_touched
