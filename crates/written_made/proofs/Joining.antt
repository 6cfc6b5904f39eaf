-- A plan that is made over the content with the first edit of another one.
use Rattle.std.proofs.Common.{◌≡◌, ◌⊎◌, ℕ, ◌/◌, Bool, List, Option, Some, None, refl, sym, ap, subst, ◌∙◌, inl, inr}
use Rattle.std.specs.Option.{option_or}
use Rattle.disk_model.specs.declared.block.Block.{Block}
use Rattle.disk_model.specs.declared.block.BlockKind.{BlockKind}
use Rattle.disk_model.specs.Content.{Content, HasSizes}
use Rattle.bit_set.specs.Bits.{bit}
use Rattle.state_model.specs.declared.geometry.Geometry.{Geometry}
use Rattle.volume_model.specs.Volumes.{Volume, cluster_bits}
use Rattle.file_changes.specs.stream_laws.Owners.{IsLive}
use Rattle.file_changes.proofs.tree_laws.Ascending.{all_by}
use Rattle.file_changes.specs.plan_owners.States.{Stands}
use Rattle.file_changes.specs.plan_owners.Kinds.{OwnsAs}
use Rattle.plan_bodies.specs.Bodies.{NewBody, content_with, body_in, put_bodies}
use Rattle.plan_bodies.proofs.Putting.{contents_put, are_bodies, either, all_in_both}
use Rattle.file_changes.specs.plan_model.Drafts.{FollowsOwners, MayChange, IsPut, DraftIn, gives_none}
use Rattle.file_changes.proofs.plan_model.Drafting.{marks_twice}

none_given : (kind : BlockKind) → None ≡ Some kind → ⊥
none_given kind given = cc

left_put : (o p : Option (List ℕ)) (bytes : List ℕ) → o ≡ Some bytes → option_or o p ≡ Some bytes
left_put None p bytes is = absurd cc
left_put (Some x) p bytes is = is

right_put : (o p : Option (List ℕ)) → (bytes : List ℕ) × (p ≡ Some bytes) → (bytes : List ℕ) × (option_or o p ≡ Some bytes)
right_put None p put = put
right_put (Some x) p put = (x, refl)

module _ (c d : Content) (g : Geometry) (clusters : ℕ) (v x w : Volume) (bodies more : List NewBody) (gave : ℕ → Option BlockKind) (sized : HasSizes c) (state : Stands c g clusters v) (first : DraftIn c g clusters v bodies x gives_none) (content : content_with c bodies ≡ d)
    (same : cluster_bits d x ≡ cluster_bits c v) (second : DraftIn d g clusters x more w gave) where
  abbrev e : Content
  e = content_with d more

  -- the content with both
  pub joined_content : content_with c (put_bodies more bodies) ≡ content_with d more
  joined_content = contents_put c bodies more sized first.whole second.whole ∙ ap (λ (y : Content). content_with y more) content

  of_first : (kind : BlockKind) (n : ℕ) → OwnsAs x kind n → OwnsAs v kind n
  of_first kind n owns = elim (first.kinds kind n owns) [
    | inl was ↦ was
    | inr given ↦ absurd (none_given kind given)
  ]

  kinds : (kind : BlockKind) (n : ℕ) → OwnsAs w kind n → OwnsAs v kind n ⊎ (gave n ≡ Some kind)
  kinds kind n owns = elim (second.kinds kind n owns) [
    | inl before ↦ inl (of_first kind n before)
    | inr given ↦ inr given
  ]

  early : (p : NewBody) → MayChange v gives_none p.block → MayChange v gave p.block
  early p may = (
    may.0,
    elim may.1 [
      | inl owns ↦ inl owns
      | inr given ↦ absurd (none_given p.block.kind given)
    ],
  )

  late : (p : NewBody) → MayChange x gave p.block → MayChange v gave p.block
  late p may = (
    may.0,
    elim may.1 [
      | inl owns ↦ inl (of_first p.block.kind (p.block.first / 8) owns)
      | inr given ↦ inr given
    ],
  )

  stands_first : Stands d g clusters x
  stands_first = subst (λ (y : Content). Stands y g clusters x) content first.stands

  marks_first : FollowsOwners clusters (cluster_bits c v) (cluster_bits d x) v.files x.files
  marks_first = subst (λ (y : Content). FollowsOwners clusters (cluster_bits c v) (cluster_bits y x) v.files x.files) content first.marks

  either_put : (b : Block) → (bytes : List ℕ) × (option_or (body_in more b) (body_in bodies b) ≡ Some bytes) → IsPut (put_bodies more bodies) b
  either_put b put = (put.0, either bodies more b second.whole.own ∙ put.1)

  covers : (b : Block) → IsLive w b → IsLive v b ⊎ IsPut (put_bodies more bodies) b
  covers b live = elim (second.covers b live) [
    | inl before ↦ elim (first.covers b before) [
      | inl was ↦ inl was
      | inr put ↦ inr (either_put b (right_put (body_in more b) (body_in bodies b) put))
    ]
    | inr put ↦ inr (either_put b (put.0, left_put (body_in more b) (body_in bodies b) put.0 put.1))
  ]

  -- both are one plan
  pub joined : DraftIn c g clusters v (put_bodies more bodies) w gave
  joined = record {
    whole = are_bodies bodies more first.whole second.whole;
    stands = subst (λ (y : Content). Stands y g clusters w) (sym joined_content) second.stands;
    marks = subst (λ (y : Content). FollowsOwners clusters (cluster_bits c v) (cluster_bits y w) v.files w.files) (sym joined_content) (marks_twice c d e g clusters v x w state stands_first second.stands marks_first second.marks);
    clear = λ kind n given. sym (ap (λ (l : List Bool). bit l n) same) ∙ second.clear kind n given;
    kinds = kinds;
    changes = all_in_both (λ p. MayChange v gave p.block) bodies more
        (all_by (λ p. MayChange v gives_none p.block) (λ p. MayChange v gave p.block) early bodies first.changes)
        (all_by (λ p. MayChange x gave p.block) (λ p. MayChange v gave p.block) late more second.changes);
    covers = covers;
  }
