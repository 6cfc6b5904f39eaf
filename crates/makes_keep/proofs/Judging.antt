-- A block by which a later state is judged is one of the first state's, or was put as a fresh one between them.
use Rattle.std.proofs.Common.{◌≡◌, subst, ℕ, true, false, List, Option, Some, None, refl, sym, ap, ap₂, ◌∙◌, inl, inr}
use Rattle.std.specs.Prelude.{◌⊎◌}
use Rattle.std.specs.List.{AllByRecursion}
use Rattle.std.specs.Option.{option_map}
use Rattle.std.proofs.lemmas.Bool.{cases_Bool, both_ways}
use Rattle.disk_model.specs.declared.block.Block.{Block}
use Rattle.disk_model.specs.declared.block.BlockKind.{BlockKind}
use Rattle.disk_model.specs.Content.{Content}
use Rattle.record_model.specs.declared.runs.Run.{Run}
use Rattle.state_model.specs.declared.geometry.Geometry.{Geometry}
use Rattle.state_model.specs.Streams.{block_at}
use Rattle.volume_model.specs.Owners.{volume_runs}
use Rattle.volume_model.specs.Volumes.{Volume}
use Rattle.stream_laws.specs.Owners.{Owns, stream_kind}
use Rattle.stream_laws.specs.Places.{AreOnce}
use Rattle.stream_laws.specs.Sharing.{StreamKey, stream_at, runs_in}
use Rattle.stream_laws.proofs.Owning.{one_owner}
use Rattle.plan_owners.specs.States.{Stands}
use Rattle.plan_owners.specs.Agreeing.{IsJudged, log_key}
use Rattle.plan_owners.proofs.Outside.{once}
use Rattle.plan_bodies.specs.Bodies.{NewBody, content_with}
use Rattle.plan_draft.specs.declared.touched.Touched.{Touched}
use Rattle.plan_draft.specs.Touching.{bodies_of, rises, keys_of, touched_at}
use Rattle.plan_draft.specs.Same.{PutSame}
use Rattle.plan_draft.proofs.Touching.{body_touched}
use Rattle.written_values.specs.plan_model.Drafts.{DraftIn}
use Rattle.written_values.proofs.plan_model.Drafting.{per_is}
use Rattle.makes_keep.proofs.Fresh.{IsFreshIn, GoesBehind, found_of}

-- the first state is judged by it, where it isn't fresh
abbrev pub IsBegun : Volume → Touched → Type 0
IsBegun v y = y.fresh ≡ false → IsJudged v y.block

module _ (c : Content) (g : Geometry) (clusters : ℕ) (v u : Volume) (bodies : List NewBody) (gave : ℕ → Option BlockKind) (grown : List Touched) (eight : g.per_cluster ≡ 8) (state : Stands c g clusters v) (draft : DraftIn c g clusters v bodies u gave) (same : PutSame (bodies_of grown) bodies) (each : AllByRecursion (IsBegun v) grown)
    (log : runs_in (stream_at u log_key) ≡ runs_in (stream_at v log_key)) where
  pers : u.per ≡ v.per
  pers = per_is (content_with c bodies) g clusters u eight draft.stands ∙ sym (per_is c g clusters v eight state)

  once_u : AreOnce (volume_runs u.files)
  once_u = once (content_with c bodies) g clusters u draft.stands

  in_log : (o : StreamKey) (i : ℕ) (b : Block) → o ≡ log_key → block_at v.per (runs_in (stream_at v o)) (stream_kind o) i ≡ Some b → Owns u b
  in_log o i b is at = record {
    stream = log_key;
    number = i;
    lies = ap₂ (λ (pr : ℕ) (l : List Run). block_at pr l (stream_kind log_key) i) pers log ∙ subst (λ (y : StreamKey). block_at v.per (runs_in (stream_at v y)) (stream_kind y) i ≡ Some b) is at;
  }

  pub judged_or_fresh : (b : Block) → IsJudged u b → IsJudged v b ⊎ IsFreshIn grown b
  unfolding in_log
  judged_or_fresh b judged = elim (draft.covers b judged.live) [
    | inl live ↦ inl (record { live = live; other = λ is. judged.other (one_owner u b draft.stands.some once_u judged.live.owned (in_log live.owned.stream live.owned.number b is live.owned.lies)).0 })
    | inr put ↦ by (touched_at grown b) refl put.0 (sym (body_touched grown b) ∙ same b ∙ put.1)
  ]
    where
      by : (o : Option Touched) → touched_at grown b ≡ o → (bytes : List ℕ) → option_map (λ (y : Touched). y.new) (touched_at grown b) ≡ Some bytes → IsJudged v b ⊎ IsFreshIn grown b
      by None is bytes put = (let clash : None ≡ Some bytes = sym (ap (option_map (λ (y : Touched). y.new)) is) ∙ put in absurd cc)
      by (Some y) is bytes put =
          let found = found_of (IsBegun v) grown b y each is in
          elim (cases_Bool y.fresh) [
            | inl fresh_one ↦ inr (record { at = y; found = is; is_fresh = fresh_one })
            | inr begun ↦ inl (subst (IsJudged v) (sym found.1) (found.0 begun))
          ]

  -- of what is put behind, where one of both states is judged by each block that isn't fresh
  pub begun_since : (new : List Touched) → rises 0 (keys_of grown) ≡ true → GoesBehind grown new → (y : Touched) → touched_at new y.block ≡ Some y → (y.fresh ≡ false → IsJudged v y.block ⊎ IsJudged u y.block) → IsBegun v y
  begun_since new up behind y found is begun = elim (is begun) [
    | inl judged ↦ judged
    | inr judged ↦ elim (judged_or_fresh y.block judged) [
      | inl before ↦ before
      | inr fresh_one ↦ absurd (never (behind.fresh up y.block fresh_one))
    ]
  ]
    where
      never : IsFreshIn new y.block → ⊥
      never there =
          let both : Some y ≡ Some there.at = sym found ∙ there.found in
          let one : y ≡ there.at = cc in
          both_ways y.fresh begun (ap (λ (o : Touched). o.fresh) one ∙ there.is_fresh)
