-- Whose clusters an operation takes, and how the bodies of its plan leave all others.
use Rattle.std.proofs.Common.{◌≡◌, ℕ, zero, suc, ◌+◌, ◌<◌, Bool, true, false, cond, List, [], ◌∷◌, Some, None, refl, ap, ◌∙◌, arith}
use Rattle.std.specs.Prelude.{◌==◌, nat_lt}
use Rattle.std.specs.List.{AllByRecursion}
use Rattle.std.proofs.lemmas.Bool.{and_parts, and_from, lt-ltb}
use Rattle.std.proofs.lemmas.Bool.Decides.{nat_tests}
use Rattle.record_writer.specs.disk_model.declared.block.Block.{Block}
use Rattle.record_writer.specs.disk_model.declared.block.BlockKind.{BlockKind}
use Rattle.record_writer.specs.disk_model.declared.block.BlockKind.TheVariants.{Plain, FileRec, Index}
use Rattle.record_writer.specs.disk_model.Sectors.{sectors, same_kind, same_block, overlap}
use Rattle.record_writer.specs.disk_model.Content.{Content, HasSizes}
use Rattle.plan_model.specs.bit_set.Bits.{bit}
use Rattle.plan_model.specs.state_model.declared.geometry.Geometry.{Geometry}
use Rattle.plan_model.specs.volume_model.Volumes.{Volume, cluster_bits}
use Rattle.plan_model.specs.volume_model.Owners.{uses}
use Rattle.plan_model.specs.stream_laws.Owners.{stream_kind}
use Rattle.plan_model.specs.stream_laws.Sharing.{StreamKey, stream_at, runs_in}
use Rattle.plan_model.specs.plan_owners.States.{Stands}
use Rattle.plan_model.proofs.plan_owners.ByKind.{marked}
use Rattle.plan_model.specs.plan_bodies.Bodies.{NewBody, content_with, AreBodies, body_in, body_or}
use Rattle.plan_model.proofs.plan_bodies.Putting.{body_put}
use Rattle.step_model.specs.Placing.{Growth}
use Rattle.step_model.specs.Contents.{MayDiffer, IsLeft}
use Rattle.step_model.specs.ContentLaws.{ContentsLeft}

-- ---- clusters

both : (b : Bool) → b ≡ true → b ≡ false → ⊥
both b set clear = cc

taken : (g : Geometry) (clusters : ℕ) (c d : Content) (v w : Volume) (files : List ℕ) (growths : List Growth) → Stands c g clusters v → IsLeft c v clusters files growths d w
    → (s t : StreamKey) (x : ℕ) → uses (runs_in (stream_at v s)) x < uses (runs_in (stream_at w s)) x → uses (runs_in (stream_at v t)) x ≡ 0
taken g clusters c d v w files growths stands left s t x more = by (uses (runs_in (stream_at v t)) x) refl
  where
    by : (n : ℕ) → uses (runs_in (stream_at v t)) x ≡ n → n ≡ 0
    by zero is = refl
    by (suc n) is = absurd (both (bit (cluster_bits c v) x) (marked c g clusters v (stream_kind t) x stands (record { stream = t; is_kind = refl; has = omega (arith, is) })) (left.takes s x more))

-- ---- bodies

some_sectors : (kind : BlockKind) → 0 < sectors kind
some_sectors Plain = omega arith
some_sectors FileRec = omega arith
some_sectors Index = omega arith

is_equal : (n m : ℕ) → (n == m) ≡ true → n ≡ m
is_equal n m e = grind (arith, nat_tests)

same_overlap : (a b : Block) → same_block a b ≡ true → overlap a b ≡ true
same_overlap a b same =
    let first = is_equal a.first b.first (and_parts (a.first == b.first) (same_kind a.kind b.kind) same).0 in
    let n = some_sectors a.kind in
    let m = some_sectors b.kind in
    and_from (nat_lt a.first (b.first + sectors b.kind)) (nat_lt b.first (a.first + sectors a.kind)) (lt-ltb a.first (b.first + sectors b.kind) (omega (arith, first, m))) (lt-ltb b.first (a.first + sectors a.kind) (omega (arith, first, n)))

no_body : (v w : Volume) (files : List ℕ) (bodies : List NewBody) (b : Block) → AllByRecursion (λ p. MayDiffer files v w p.block) bodies → ((x : Block) → MayDiffer files v w x → overlap b x ≡ false) → body_in bodies b ≡ None
no_body v w files [] b inside apart = refl
no_body v w files (p ∷ bodies) b inside apart =
    by (same_block b p.block) refl (no_body v w files bodies b inside.1 apart)
  where
    by : (same : Bool) → same_block b p.block ≡ same → body_in bodies b ≡ None → cond same (Some p.bytes) (body_in bodies b) ≡ None
    by true same rest = absurd (both (overlap b p.block) (same_overlap b p.block same) (apart p.block inside.0))
    by false same rest = rest

stays : (c : Content) (v w : Volume) (files : List ℕ) (bodies : List NewBody) → HasSizes c → AreBodies bodies → AllByRecursion (λ p. MayDiffer files v w p.block) bodies
    → (b : Block) → ((x : Block) → MayDiffer files v w x → overlap b x ≡ false) → content_with c bodies b ≡ c b
stays c v w files bodies sized are inside b apart = body_put c bodies b sized are ∙ ap (body_or (c b)) (no_body v w files bodies b inside apart)

pub contents_left : ContentsLeft
contents_left = record { taken = taken; stays = stays }
