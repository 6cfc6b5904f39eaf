-- The changes of a plan's draft among the blocks from which states are read.
use Rattle.std.proofs.Common.{◌≡◌, subst, ℕ, Bool, true, false, cond, List, [], ◌∷◌, Option, Some, None, refl, sym, ap, ap₂, ◌∙◌, inl, inr}
use Rattle.std.specs.Prelude.{◌⊎◌}
use Rattle.std.specs.List.{AllByRecursion}
use Rattle.disk_model.specs.declared.block.Block.{Block}
use Rattle.disk_model.specs.declared.block.BlockKind.{BlockKind}
use Rattle.disk_model.specs.declared.block.Change.{Change}
use Rattle.disk_model.specs.Content.{Content}
use Rattle.disk_model.specs.Sectors.{same_block, are_rivals}
use Rattle.disk_model.proofs.Frames.{same_block-is}
use Rattle.record_model.specs.declared.runs.Run.{Run}
use Rattle.plan_model.specs.state_model.declared.geometry.Geometry.{Geometry}
use Rattle.plan_model.specs.state_model.Streams.{block_at}
use Rattle.plan_model.specs.volume_model.Volumes.{Volume}
use Rattle.plan_model.specs.stream_laws.Owners.{stream_kind, Owns, IsLive, OwnedOnce}
use Rattle.plan_model.specs.stream_laws.Sharing.{StreamKey, stream_at, runs_in}
use Rattle.plan_model.proofs.stream_laws.Rewriting.{volume_parts}
use Rattle.plan_model.specs.plan_owners.States.{Stands, StatesStand}
use Rattle.plan_model.specs.plan_owners.Agreeing.{IsJudged, log_key}
use Rattle.state_blocks.specs.Needing.{IsNeeded}
use Rattle.state_blocks.specs.Drafts.{is_changed, DraftIn}
use Rattle.state_blocks.proofs.Needing.{listed_judged}
use Rattle.plan_bodies.specs.Bodies.{NewBody, content_with, body_in}
use Rattle.plan_model.specs.Drafts.{IsPut, DraftIn as PlanIn, DraftsGoOn}
use Rattle.plan_spares.specs.Plans.{HasOwnLists, AreOf, PlanKeeps}

-- what holds of the block of each body holds of a block into which one is put
put_found : (P : Block → Type 0) (bodies : List NewBody) (b : Block) → AllByRecursion (λ (p : NewBody). P p.block) bodies → IsPut bodies b → P b
put_found P [] b all put = absurd (none_some put.0 put.1)
  where
    none_some : (bytes : List ℕ) → None ≡ Some bytes → ⊥
    none_some bytes is = absurd cc
put_found P (p ∷ bodies) b all put = by (same_block b p.block) refl put.1 (λ there. put_found P bodies b all.1 (put.0, there))
  where
    by : (t : Bool) → same_block b p.block ≡ t → cond t (Some p.bytes) (body_in bodies b) ≡ Some put.0 → (body_in bodies b ≡ Some put.0 → P b) → P b
    by true is there more = subst P (sym (same_block-is b p.block is)) all.0
    by false is there more = more there

each_as : {X : Type 0} (P Q : X → Type 0) → ((x : X) → P x → Q x) → (xs : List X) → AllByRecursion P xs → AllByRecursion Q xs
each_as P Q f [] all = tt
each_as P Q f (x ∷ xs) all = (f x all.0, each_as P Q f xs all.1)

judged_of : (c : Content) (v : Volume) (b : Block) → HasOwnLists c v → IsNeeded c v b → IsJudged v b
judged_of c v b lists (inl judged) = judged
judged_of c v b lists (inr listed) = listed_judged c v b listed (lists listed.number listed.file listed.is_file)

module _ (drafts : DraftsGoOn) (once : OwnedOnce) (states : StatesStand) (c : Content) (g : Geometry) (clusters : ℕ) (v w : Volume) (bodies : List NewBody) (gave : ℕ → Option BlockKind) (changes : List Change) (eight : g.per_cluster ≡ 8) (s : Stands c g clusters v) (plan : PlanIn c g clusters v bodies w gave)
    (are : AreOf c v changes bodies) (keeps : PlanKeeps c v changes (content_with c bodies) w) where
  same_per : w.per ≡ v.per
  same_per = sym (volume_parts (content_with c bodies) g clusters w plan.stands.loaded).per ∙ (volume_parts c g clusters v s.loaded).per

  -- no rival of an owned block
  rivals : AllByRecursion (λ (x : Change). (b : Block) → IsNeeded c v b → are_rivals x.block b ≡ false) changes
  rivals =
      let apart : AllByRecursion (λ (p : NewBody). (r : Block) → Owns v r → are_rivals p.block r ≡ false) bodies =
      each_as (λ (p : NewBody). ((r : Block) → Owns v r → are_rivals p.block r ≡ false) × AllByRecursion (λ q. are_rivals p.block q.block ≡ false) bodies) (λ (p : NewBody). (r : Block) → Owns v r → are_rivals p.block r ≡ false) (λ p is. is.0) bodies
      (drafts.rivals c g clusters v w bodies gave eight s plan) in
      each_as (λ (x : Change). IsPut bodies x.block) (λ (x : Change). (b : Block) → IsNeeded c v b → are_rivals x.block b ≡ false)
      (λ x put b needed. put_found (λ y. (r : Block) → Owns v r → are_rivals y r ≡ false) bodies x.block apart put b (judged_of c v b keeps.lists needed).live.owned) changes are.each

  -- a block of the log is one behind the plan too
  log_stays : (b : Block) (owned : Owns v b) → owned.stream ≡ log_key → Owns w b
  log_stays b owned is = record {
    stream = log_key;
    number = owned.number;
    lies = ap₂ (λ (per : ℕ) (l : List Run). block_at per l (stream_kind log_key) owned.number) same_per keeps.log
        ∙ ap (λ (k : StreamKey). block_at v.per (runs_in (stream_at v k)) (stream_kind k) owned.number) (sym is) ∙ owned.lies;
  }

  was_judged : (b : Block) → IsJudged w b → IsLive v b → IsJudged v b
  unfolding log_stays
  was_judged b judged live = record {
    live = live;
    other = λ is. judged.other ((once.place w b plan.stands.some (states.once (content_with c bodies) g clusters w plan.stands) judged.live.owned (log_stays b live.owned is)).0);
  }

  owned_covers : (b : Block) → IsJudged w b → IsNeeded c v b ⊎ (is_changed changes b ≡ true)
  owned_covers b judged = elim (plan.covers b judged.live) [
    | inl live ↦ inl (inl (was_judged b judged live))
    | inr put ↦ are.all b put
  ]

  covers : (b : Block) → IsNeeded (content_with c bodies) w b → IsNeeded c v b ⊎ (is_changed changes b ≡ true)
  covers b (inl judged) = owned_covers b judged
  covers b (inr listed) = elim (keeps.then b listed) [
    | inl old ↦ inl old
    | inr judged ↦ owned_covers b judged
  ]

  pub planned : DraftIn c v changes (content_with c bodies) w
  planned = record { rivals = rivals; whole = keeps.whole; covers = covers }
