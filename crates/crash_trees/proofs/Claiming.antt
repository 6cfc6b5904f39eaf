-- The log's own sectors stay claimed.
use Rattle.std.proofs.Common.{◌≡◌, ℕ, zero, suc, ◌/◌, ◌<◌, ◌≤◌, Bool, true, false, List, [], ◌∷◌, Some, Result, Ok, Err, subst, refl, sym, ap, ◌∙◌, inl, arith}
use Rattle.std.specs.List.{AllByRecursion}
use Rattle.std.proofs.lemmas.Bool.{and_parts, false_from_ne_true}
use Rattle.disk_model.specs.declared.block.Block.{Block}
use Rattle.disk_model.specs.declared.block.BlockKind.{BlockKind}
use Rattle.disk_model.specs.declared.block.BlockKind.TheVariants.{Plain}
use Rattle.disk_model.specs.declared.block.Change.{Change}
use Rattle.disk_model.specs.Sectors.{are_rivals}
use Rattle.record_model.specs.declared.runs.Run.{Run}
use Rattle.volume_model.specs.Volumes.{Volume}
use Rattle.volume_model.specs.Owners.{uses}
use Rattle.stream_laws.specs.Owners.{stream_kind, IsLive}
use Rattle.stream_laws.specs.Sharing.{StreamKey, stream_at, runs_in}
use Rattle.stream_laws.proofs.Changing.{has_sectors}
use Rattle.stream_laws.proofs.Placing.{lies, lies_in_used}
use Rattle.state_model.specs.Streams.{block_at}
use Rattle.crash_mounts.specs.plan_owners.Agreeing.{log_key}
use Rattle.crash_mounts.specs.plan_owners.Kinds.{cluster_of}
use Rattle.crash_mounts.proofs.plan_owners.ByKind.{one_cluster}
use Rattle.log_model.specs.declared.entry.Entry.{Entry}
use Rattle.log_model.specs.Logs.{may_begin, is_in_grid, is_shadowed}
use Rattle.store_model.specs.Volumes.{is_free}
use Rattle.store_claims.specs.Claims.{ClaimWindow}
use Rattle.store_claims.specs.Moves.{ClaimsStay}
use Rattle.store_claims.specs.Windows.{StoreWindow}
use Rattle.crash_mounts.specs.txn_model.Values.{StoreFacts, own_of}
use Rattle.crash_mounts.specs.txn_laws.Windows.{ClaimsAll}
use Rattle.crash_mounts.specs.state_store.declared.fault.PutFault.{PutFault}
use Rattle.crash_mounts.specs.state_store.Changes.{MayLog}
use Rattle.crash_mounts.specs.state_store.Claims.{NoRival, ClaimsAfterLeft, ClaimsAfterPut}
use Rattle.crash_mounts.specs.state_store.Windows.{AfterPutting}
use Rattle.crash_mounts.specs.Clearing.{IsLogClear}
use Rattle.crash_trees.specs.Trees.{HasLog, ClaimsLog}

-- ---- windows that follow

-- each block is claimed at first
pub all_claimed : (v : Volume) (c : ClaimWindow) → ClaimsAll c → ClaimsLog v c
all_claimed v c all = record { claims = λ k b plain has. all.claims k b; will = λ b plain has. all.will b }

-- what was claimed is
pub still_claimed : (v : Volume) (c d : ClaimWindow) → ClaimsStay c d → ClaimsLog v c → ClaimsLog v d
still_claimed v c d stay log = record { claims = λ k b plain has. stay.claims k b (log.claims k b plain has); will = λ b plain has. stay.will b (log.will b plain has) }

-- no change is of a rival of one of the log's sectors
abbrev pub NoLogRival : Volume → List Change → Type 0
NoLogRival v xs = (b : Block) → b.kind ≡ Plain → 0 < uses (runs_in (stream_at v log_key)) (cluster_of b) → NoRival xs b

put_claimed : (v : Volume) (xs : List Change) (c d : ClaimWindow) → NoLogRival v xs → ClaimsAfterPut xs c d → ClaimsLog v c → ClaimsLog v d
put_claimed v xs c d none after log = record { claims = back; will = λ b plain has. after.will b (none b plain has) (inl (log.claims 0 b plain has)) }
  where
    back : (k : ℕ) → HasLog v (d.claims k)
    back zero b plain has = after.newest b (none b plain has) (inl (log.claims 0 b plain has))
    back (suc zero) b plain has = after.before b (none b plain has) (log.claims 0 b plain has)
    back (suc (suc k)) b plain has = after.older k b (log.claims (suc k) b plain has)

left_claimed : (v : Volume) (xs : List Change) (c d : ClaimWindow) → NoLogRival v xs → ClaimsAfterLeft xs c d → ClaimsLog v c → ClaimsLog v d
left_claimed v xs c d none after log = record { claims = back; will = λ b plain has. after.will b (none b plain has) (log.claims 0 b plain has) (log.will b plain has) }
  where
    back : (k : ℕ) → HasLog v (d.claims k)
    back zero b plain has = after.newest b (none b plain has) (log.claims 0 b plain has)
    back (suc k) b plain has = after.older k b (log.claims (suc k) b plain has)

pub putting_claimed : (result : Result (Unit {0}) PutFault) (v : Volume) (xs : List Change) (w u : StoreWindow) → NoLogRival v xs → AfterPutting result xs w u → ClaimsLog v w.claimed → ClaimsLog v u.claimed
putting_claimed (Ok tt) v [] w u none after log = left_claimed v [] w.claimed u.claimed none after.claimed log
putting_claimed (Ok tt) v (x ∷ xs) w u none after log = put_claimed v (x ∷ xs) w.claimed u.claimed none after.claimed log
putting_claimed (Err e) v xs w u none after log = left_claimed v xs w.claimed u.claimed none after.claimed log

-- ---- changes off the log

-- a change of a block in no cluster of these
plain_grid : (b : Block) → b.kind ≡ Plain → is_in_grid b ≡ true
plain_grid b plain = ap (λ (kind : BlockKind). may_begin kind b.first) plain

beside : (f : StoreFacts) (runs : List Run) (x : Change) (b : Block) → MayLog f x → uses runs (cluster_of x.block) ≡ 0 → b.kind ≡ Plain → 0 < uses runs (cluster_of b) → are_rivals x.block b ≡ false
beside f runs x b may apart plain has = false_from_ne_true (are_rivals x.block b) (λ rivals.
    let grid : is_in_grid x.block ≡ true = (and_parts (is_in_grid x.block) (is_free (own_of f) x.block) may.known).0 in
    let none : uses runs (cluster_of b) ≡ 0 = ap (uses runs) (sym (one_cluster x.block b grid (plain_grid b plain) rivals)) ∙ apart in
    absurd (omega (arith, has, none)))

all_beside : (f : StoreFacts) (runs : List Run) (xs : List Change) (b : Block) → AllByRecursion (MayLog f) xs → AllByRecursion (λ (x : Change). uses runs (cluster_of x.block) ≡ 0) xs → b.kind ≡ Plain → 0 < uses runs (cluster_of b) → NoRival xs b
all_beside f runs [] b each apart plain has = tt
all_beside f runs (x ∷ xs) b each apart plain has = (beside f runs x b each.0 apart.0 plain has, all_beside f runs xs b each.1 apart.1 plain has)

pub none_on_log : (f : StoreFacts) (v u : Volume) (xs : List Change) → runs_in (stream_at u log_key) ≡ runs_in (stream_at v log_key) → AllByRecursion (MayLog f) xs → AllByRecursion (λ (x : Change). uses (runs_in (stream_at u log_key)) (cluster_of x.block) ≡ 0) xs → NoLogRival v xs
none_on_log f v u xs same each apart b plain has = all_beside f (runs_in (stream_at u log_key)) xs b each apart plain (subst (λ (runs : List Run). 0 < uses runs (cluster_of b)) (sym same) has)

-- ---- lists that shadow nothing claimed

plain_log : stream_kind log_key ≡ Plain
unfolding stream_kind
plain_log = refl

-- a live block of the log is a sector in one of its clusters
pub live_log : (v : Volume) (b : Block) → v.per ≡ 8 → (live : IsLive v b) → live.owned.stream ≡ log_key → (b.kind ≡ Plain) × (0 < uses (runs_in (stream_at v log_key)) (cluster_of b))
live_log v b per live log =
    let lying : block_at v.per (runs_in (stream_at v log_key)) (stream_kind log_key) live.owned.number ≡ Some b = subst (λ (key : StreamKey). block_at v.per (runs_in (stream_at v key)) (stream_kind key) live.owned.number ≡ Some b) log live.owned.lies in
    let place = lies v.per (runs_in (stream_at v log_key)) (stream_kind log_key) live.owned.number b lying in
    let some = has_sectors b.kind in
    let used = lies_in_used v.per (runs_in (stream_at v log_key)) (stream_kind log_key) live.owned.number b (omega (arith, per)) lying b.first (omega arith, omega (arith, some)) in
    (sym place.kind_is ∙ plain_log, subst (λ (p : ℕ). 1 ≤ uses (runs_in (stream_at v log_key)) (b.first / p)) per used)

pub log_is_clear : (first v : Volume) (list : List Entry) (claims : Block → Bool) → v.per ≡ 8 → runs_in (stream_at v log_key) ≡ runs_in (stream_at first log_key) → HasLog first claims → ((b : Block) → claims b ≡ true → is_shadowed list b ≡ false) → IsLogClear list v
log_is_clear first v list claims per same has clear b live log =
    let at = live_log v b per live log in
    clear b (has b at.0 (subst (λ (runs : List Run). 0 < uses runs (cluster_of b)) same at.1))
