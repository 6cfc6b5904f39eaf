-- Plans that are made edit by edit.
use Rattle.std.proofs.Common.{◌≡◌, ◌⊎◌, ℕ, ◌≤◌, true, false, List, [], Option, Some, None, refl, sym, ap, subst, ◌∙◌, inl, inr, arith}
use mathlib.Core.Path.{fun_ext}
use Rattle.std.specs.List.{AllByRecursion}
use Rattle.std.specs.Option.{option_or}
use Rattle.std.proofs.lemmas.Bool.{cases_lt, both_ways, false_from_ne_true}
use Rattle.plan_bodies.specs.disk_model.declared.block.Block.{Block}
use Rattle.plan_bodies.specs.disk_model.declared.block.BlockKind.{BlockKind}
use Rattle.plan_bodies.specs.disk_model.Sectors.{are_rivals}
use Rattle.plan_bodies.specs.disk_model.Content.{Content, HasSizes}
use Rattle.index_change.specs.bit_set.Bits.{bit}
use Rattle.index_change.specs.state_model.declared.geometry.Geometry.{Geometry}
use Rattle.index_change.specs.volume_model.Volumes.{Volume, cluster_bits}
use Rattle.index_change.specs.volume_model.Owners.{volume_runs, uses}
use Rattle.plan_owners.specs.stream_laws.Owners.{Owns}
use Rattle.plan_owners.proofs.stream_laws.Rewriting.{volume_parts}
use Rattle.plan_owners.proofs.tree_laws.Ascending.{all_by}
use Rattle.plan_owners.specs.States.{Stands}
use Rattle.plan_owners.specs.Kinds.{cluster_of, OwnsAs}
use Rattle.plan_owners.proofs.ByKind.{in_grid, owned_as, one_kind, marked_if_used, marked, one_cluster, two_kinds}
use Rattle.plan_owners.proofs.Outside.{once}
use Rattle.plan_bodies.specs.Bodies.{NewBody, content_with, body_in, put_bodies}
use Rattle.plan_model.specs.Drafts.{FollowsOwners, MayChange, IsPut, DraftIn, GoesOn, gives_none}
use Rattle.plan_bodies.proofs.Putting.{body_put, contents_put, are_bodies, either, all_in_both}

-- ---- a plan begins

nothing_put : (c : Content) → HasSizes c → content_with c [] ≡ c
nothing_put c sized =
    let each : (b : Block) → content_with c [] b ≡ c b = λ b. body_put c [] b sized (record { whole = tt; own = tt }) in
    fun_ext each

pub begins_empty : (c : Content) (g : Geometry) (clusters : ℕ) (v : Volume) → HasSizes c → Stands c g clusters v → DraftIn c g clusters v [] v gives_none
begins_empty c g clusters v sized s =
    let same = nothing_put c sized in
    record {
      whole = record { whole = tt; own = tt };
      stands = subst (λ (x : Content). Stands x g clusters v) (sym same) s;
      marks = record { cleared = λ x below less. absurd (omega arith); set = λ x below less. absurd (omega arith); others = λ x below equal. ap (λ (x' : Content). bit (cluster_bits x' v) x) same };
      clear = λ kind x given. absurd (none_given kind given);
      kinds = λ kind x owns. inl owns;
      changes = tt;
      covers = λ b live. inl live;
    }
  where
    none_given : (kind : BlockKind) → None ≡ Some kind → ⊥
    none_given kind given = cc

-- ---- the bits

clusters_are : (c : Content) (g : Geometry) (clusters : ℕ) (v : Volume) → Stands c g clusters v → clusters ≡ v.clusters
clusters_are c g clusters v s = (volume_parts c g clusters v s.loaded).count

pub per_is : (c : Content) (g : Geometry) (clusters : ℕ) (v : Volume) → g.per_cluster ≡ 8 → Stands c g clusters v → v.per ≡ 8
per_is c g clusters v eight s = sym (volume_parts c g clusters v s.loaded).per ∙ eight

module _ (c d e : Content) (g : Geometry) (clusters : ℕ) (v w u : Volume) (sv : Stands c g clusters v) (sw : Stands d g clusters w) (su : Stands e g clusters u) (a : FollowsOwners clusters (cluster_bits c v) (cluster_bits d w) v.files w.files) (b : FollowsOwners clusters (cluster_bits d w) (cluster_bits e u) w.files u.files) where
  abbrev P : ℕ → ℕ
  P = uses (volume_runs v.files)

  abbrev Q : ℕ → ℕ
  Q = uses (volume_runs w.files)

  abbrev R : ℕ → ℕ
  R = uses (volume_runs u.files)

  most_v : (x : ℕ) → P x ≤ 1
  most_v = once c g clusters v sv

  most_w : (x : ℕ) → Q x ≤ 1
  most_w = once d g clusters w sw

  most_u : (x : ℕ) → R x ≤ 1
  most_u = once e g clusters u su

  pub marks_twice : FollowsOwners clusters (cluster_bits c v) (cluster_bits e u) v.files u.files
  marks_twice = record {
    cleared = λ x below less. elim (cases_lt (R x) (Q x)) [
      | inl drops ↦ b.cleared x below drops
      | inr le ↦ (let one = most_v x in let two = most_u x in let even : R x ≡ Q x = omega arith in b.others x below even ∙ a.cleared x below (omega arith))
    ];
    set = λ x below more. elim (cases_lt (P x) (Q x)) [
      | inl rises ↦ (let one = most_w x in let two = most_u x in let even : R x ≡ Q x = omega arith in let was = a.set x below rises in (was.0, b.others x below even ∙ was.1))
      | inr le ↦ (let two = most_u x in let even : Q x ≡ P x = omega arith in let now = b.set x below (omega arith) in (sym (a.others x below even) ∙ now.0, now.1))
    ];
    others = λ x below same. elim (cases_lt (P x) (Q x)) [
      | inl rises ↦ (let was = a.set x below rises in b.cleared x below (omega arith) ∙ sym was.0)
      | inr le ↦ elim (cases_lt (Q x) (P x)) [
        | inl drops ↦
            (let now = b.set x below (omega arith) in
            let count = clusters_are c g clusters v sv in
            let set = marked_if_used c g clusters v x sv (omega arith) (omega arith) in
            now.1 ∙ sym set)
        | inr ge ↦ (let even : Q x ≡ P x = omega arith in let more : R x ≡ Q x = omega arith in b.others x below more ∙ a.others x below even)
      ]
    ];
  }

-- ---- one more edit

some_or : (o p : Option (List ℕ)) (bytes : List ℕ) → o ≡ Some bytes → option_or o p ≡ Some bytes
some_or None p bytes is = absurd cc
some_or (Some x) p bytes is = is

put_or : (o p : Option (List ℕ)) → (bytes : List ℕ) × (p ≡ Some bytes) → (bytes : List ℕ) × (option_or o p ≡ Some bytes)
put_or None p put = put
put_or (Some x) p put = (x, refl)

pub goes_on : (c : Content) (g : Geometry) (clusters : ℕ) (v w u : Volume) (bodies more : List NewBody) (gave gives : ℕ → Option BlockKind) → HasSizes c → g.per_cluster ≡ 8 → Stands c g clusters v → DraftIn c g clusters v bodies w gave
    → GoesOn c v (content_with c bodies) g clusters w more u gave gives → DraftIn c g clusters v (put_bodies more bodies) u gives
goes_on c g clusters v w u bodies more gave gives sized eight s draft edit =
    let d = content_with c bodies in
    let e = content_with d more in
    let same : content_with c (put_bodies more bodies) ≡ e = contents_put c bodies more sized draft.whole edit.whole in
    let kinds : (kind : BlockKind) (x : ℕ) → OwnsAs u kind x → OwnsAs v kind x ⊎ (gives x ≡ Some kind) = λ kind x owns. elim (edit.takes kind x owns) [
      | inl before ↦ of_before kind x before
      | inr given ↦ inr given
    ] in
    let touched : (p : NewBody) → Owns w p.block ⊎ Owns u p.block → MayChange v gives p.block = λ p one. elim one [
      | inl before ↦
          (let eight_w = per_is d g clusters w eight draft.stands in
          (in_grid w p.block eight_w before, of_before p.block.kind (cluster_of p.block) (owned_as w p.block eight_w before)))
      | inr after ↦
          (let eight_u = per_is e g clusters u eight edit.stands in
          (in_grid u p.block eight_u after, kinds p.block.kind (cluster_of p.block) (owned_as u p.block eight_u after)))
    ] in
    let carried : (p : NewBody) → MayChange v gave p.block → MayChange v gives p.block = λ p may. (may.0, elim may.1 [ inl owns ↦ inl owns | inr given ↦ inr (edit.kept p.block.kind (cluster_of p.block) given) ]) in
    record {
      whole = are_bodies bodies more draft.whole edit.whole;
      stands = subst (λ (x : Content). Stands x g clusters u) (sym same) edit.stands;
      marks = subst (λ (x : Content). FollowsOwners clusters (cluster_bits c v) (cluster_bits x u) v.files u.files) (sym same) (marks_twice c d e g clusters v w u s draft.stands edit.stands draft.marks edit.marks);
      clear = edit.clear;
      kinds = kinds;
      changes = all_in_both (λ p. MayChange v gives p.block) bodies more
          (all_by (λ p. MayChange v gave p.block) (λ p. MayChange v gives p.block) carried bodies draft.changes)
          (all_by (λ p. Owns w p.block ⊎ Owns u p.block) (λ p. MayChange v gives p.block) touched more edit.touched);
      covers = λ b live. elim (edit.covers b live) [
        | inl before ↦ elim (draft.covers b before) [
          | inl first ↦ inl first
          | inr put ↦ inr (of_either b (put_or (body_in more b) (body_in bodies b) put))
        ]
        | inr put ↦ inr (of_either b (put.0, some_or (body_in more b) (body_in bodies b) put.0 put.1))
      ];
    }
  where
    of_before : (kind : BlockKind) (x : ℕ) → OwnsAs w kind x → OwnsAs v kind x ⊎ (gives x ≡ Some kind)
    of_before kind x owns = elim (draft.kinds kind x owns) [ inl first ↦ inl first | inr given ↦ inr (edit.kept kind x given) ]

    of_either : (b : Block) → (bytes : List ℕ) × (option_or (body_in more b) (body_in bodies b) ≡ Some bytes) → IsPut (put_bodies more bodies) b
    of_either b put = (put.0, either bodies more b edit.whole.own ∙ put.1)

-- ---- rivals

module _ (c : Content) (g : Geometry) (clusters : ℕ) (v : Volume) (gave : ℕ → Option BlockKind) (s : Stands c g clusters v) (clear : (kind : BlockKind) (x : ℕ) → gave x ≡ Some kind → bit (cluster_bits c v) x ≡ false) where
  -- what was given was owned by none
  not_both : (kind other : BlockKind) (x y : ℕ) → x ≡ y → gave x ≡ Some kind → OwnsAs v other y → ⊥
  not_both kind other x y same given owns = both_ways (bit (cluster_bits c v) y) (ap (bit (cluster_bits c v)) (sym same) ∙ clear kind x given) (marked c g clusters v other y s owns)

  one_given : (kind other : BlockKind) (x y : ℕ) → x ≡ y → gave x ≡ Some kind → gave y ≡ Some other → kind ≡ other
  one_given kind other x y same given more = let equal : Some kind ≡ Some other = sym given ∙ ap gave same ∙ more in cc

  clash : (a b : Block) → MayChange v gave a → MayChange v gave b → are_rivals a b ≡ true → ⊥
  clash a b mine its rivals =
      let cluster = one_cluster a b mine.0 its.0 rivals in
      let differ = two_kinds a b rivals in
      elim mine.1 [
        | inl owns ↦ elim its.1 [
          | inl also ↦ differ (one_kind c g clusters v a.kind b.kind (cluster_of b) s (subst (λ (x : ℕ). OwnsAs v a.kind x) cluster owns) also)
          | inr given ↦ not_both b.kind a.kind (cluster_of b) (cluster_of a) (sym cluster) given owns
        ]
        | inr given ↦ elim its.1 [
          | inl owns ↦ not_both a.kind b.kind (cluster_of a) (cluster_of b) cluster given owns
          | inr also ↦ differ (one_given a.kind b.kind (cluster_of a) (cluster_of b) cluster given also)
        ]
      ]

  no_rivals : (a b : Block) → MayChange v gave a → MayChange v gave b → are_rivals a b ≡ false
  no_rivals a b mine its = false_from_ne_true (are_rivals a b) (clash a b mine its)

pub no_rivals_in : (c : Content) (g : Geometry) (clusters : ℕ) (v w : Volume) (bodies : List NewBody) (gave : ℕ → Option BlockKind) → g.per_cluster ≡ 8 → Stands c g clusters v → DraftIn c g clusters v bodies w gave
    → AllByRecursion (λ p. ((r : Block) → Owns v r → are_rivals p.block r ≡ false) × AllByRecursion (λ q. are_rivals p.block q.block ≡ false) bodies) bodies
no_rivals_in c g clusters v w bodies gave eight s draft =
    let eight_v = per_is c g clusters v eight s in
    all_by (λ p. MayChange v gave p.block) (λ p. ((r : Block) → Owns v r → are_rivals p.block r ≡ false) × AllByRecursion (λ q. are_rivals p.block q.block ≡ false) bodies) (λ p mine. (
      λ r owns. no_rivals c g clusters v gave s draft.clear p.block r mine (in_grid v r eight_v owns, inl (owned_as v r eight_v owns)),
      all_by (λ q. MayChange v gave q.block) (λ q. are_rivals p.block q.block ≡ false) (λ q its. no_rivals c g clusters v gave s draft.clear p.block q.block mine its) bodies draft.changes,
    )) bodies draft.changes
