-- Whose each block is, at eight sectors a cluster.
use Rattle.std.proofs.Common.{◌≡◌, ◌≢◌, ◌⊎◌, ℕ, ◌+◌, ◌*◌, ◌/◌, ◌%◌, ◌<◌, ◌≤◌, Bool, true, false, not, ltb, leb, List, refl, sym, ap, subst, ◌∙◌, inl, inr, arith}
use Rattle.std.proofs.lemmas.Bool.{cases_lt, and_parts, eqb-true, eq-eqb, ltb-true, le-leb}
use Rattle.log_model.specs.disk_model.declared.block.Block.{Block}
use Rattle.log_model.specs.disk_model.declared.block.BlockKind.{BlockKind}
use Rattle.log_model.specs.disk_model.declared.block.BlockKind.TheVariants.{Plain, FileRec, Index}
use Rattle.log_model.specs.disk_model.Sectors.{sectors, same_kind, overlap, are_rivals}
use Rattle.log_model.specs.disk_model.Content.{Content}
use Rattle.tree_laws.specs.bit_set.Bits.{bit}
use Rattle.log_model.specs.Logs.{may_begin, is_in_grid}
use Rattle.tree_laws.specs.record_model.declared.runs.Run.{Run}
use Rattle.tree_laws.specs.state_model.declared.geometry.Geometry.{Geometry}
use Rattle.tree_laws.specs.state_model.Rules.{implies}
use Rattle.tree_laws.specs.volume_model.Volumes.{Volume, cluster_bits}
use Rattle.tree_laws.specs.volume_model.Owners.{volume_runs, uses, keeps_cluster_bit}
use Rattle.tree_laws.specs.volume_state.Rules.{broken_6}
use Rattle.tree_laws.specs.stream_laws.Owners.{stream_kind, Owns}
use Rattle.tree_laws.specs.stream_laws.Sharing.{stream_at, runs_in}
use Rattle.tree_laws.proofs.stream_laws.Placing.{Lies, lies, lies_straight, lies_in_cluster, is_used}
use Rattle.tree_laws.proofs.stream_laws.Sharing.{stream_of_volume, streams_apart}
use Rattle.tree_laws.proofs.Keeping.{rules_of, passes_below}
use Rattle.plan_owners.specs.States.{Stands}
use Rattle.plan_owners.specs.Kinds.{cluster_of, OwnsAs}
use Rattle.plan_owners.proofs.Outside.{once, unused_outside}

-- ---- the grid

begins_there : (kind : BlockKind) (first vcn lcn n : ℕ) → first + vcn * 8 ≡ lcn * 8 + sectors kind * n → may_begin kind first ≡ true
begins_there Plain first vcn lcn n at = refl
begins_there FileRec first vcn lcn n at = eq-eqb (first % 2) 0 (omega arith)
begins_there Index first vcn lcn n at = eq-eqb (first % 8) 0 (omega arith)

straight_at : (per : ℕ) (runs : List Run) (kind : BlockKind) (n : ℕ) (b : Block) (l : Lies per runs kind n b) → per ≡ 8 → b.first + l.run.vcn * 8 ≡ l.lcn * 8 + sectors kind * n
straight_at per runs kind n b l eight =
    sym (ap (λ (p : ℕ). b.first + l.run.vcn * p) eight) ∙ lies_straight per runs kind n b l ∙ ap (λ (p : ℕ). l.lcn * p + sectors kind * n) eight

pub in_grid : (v : Volume) (b : Block) → v.per ≡ 8 → Owns v b → is_in_grid b ≡ true
in_grid v b eight owns =
    let l = lies v.per (runs_in (stream_at v owns.stream)) (stream_kind owns.stream) owns.number b owns.lies in
    ap (λ (k : BlockKind). may_begin k b.first) (sym l.kind_is)
    ∙ begins_there (stream_kind owns.stream) b.first l.run.vcn l.lcn owns.number (straight_at v.per (runs_in (stream_at v owns.stream)) (stream_kind owns.stream) owns.number b l eight)

has_sectors : (k : BlockKind) → 0 < sectors k
has_sectors Plain = omega arith
has_sectors FileRec = omega arith
has_sectors Index = omega arith

pub owned_as : (v : Volume) (b : Block) → v.per ≡ 8 → Owns v b → OwnsAs v b.kind (cluster_of b)
owned_as v b eight owns =
    let runs = runs_in (stream_at v owns.stream) in
    let kind = stream_kind owns.stream in
    let l = lies v.per runs kind owns.number b owns.lies in
    let some = has_sectors b.kind in
    let covered = lies_in_cluster v.per runs kind owns.number b l b.first (omega (arith, eight)) (omega arith) (omega arith) in
    let has : 1 ≤ uses runs (b.first / v.per) = is_used _ runs l.run (b.first / v.per) l.found covered in
    record { stream = owns.stream; is_kind = l.kind_is; has = subst (λ (p : ℕ). 1 ≤ uses runs (b.first / p)) eight has }

-- ---- one kind

different : (k l : BlockKind) → (k ≡ l) ⊎ (k ≢ l)
different Plain Plain = inl refl
different FileRec FileRec = inl refl
different Index Index = inl refl
different Plain FileRec = inr (λ e. absurd cc)
different Plain Index = inr (λ e. absurd cc)
different FileRec Plain = inr (λ e. absurd cc)
different FileRec Index = inr (λ e. absurd cc)
different Index Plain = inr (λ e. absurd cc)
different Index FileRec = inr (λ e. absurd cc)

pub one_kind : (c : Content) (g : Geometry) (clusters : ℕ) (v : Volume) (kind other : BlockKind) (x : ℕ) → Stands c g clusters v → OwnsAs v kind x → OwnsAs v other x → kind ≡ other
one_kind c g clusters v kind other x s a b = elim (different kind other) [
  | inl same ↦ same
  | inr differ ↦
      (let apart : a.stream ≢ b.stream = λ same. differ (sym a.is_kind ∙ ap stream_kind same ∙ b.is_kind) in
      let most = streams_apart v a.stream b.stream (once c g clusters v s) apart x in
      let mine = a.has in
      let its = b.has in
      absurd (omega arith))
]

pub used_by : (v : Volume) (kind : BlockKind) (x : ℕ) → OwnsAs v kind x → 0 < uses (volume_runs v.files) x
used_by v kind x a = let mine = a.has in omega (arith, stream_of_volume v a.stream x, mine)

pub inside : (c : Content) (g : Geometry) (clusters : ℕ) (v : Volume) (kind : BlockKind) (x : ℕ) → Stands c g clusters v → OwnsAs v kind x → x < v.clusters
inside c g clusters v kind x s a = elim (cases_lt x v.clusters) [
  | inl below ↦ below
  | inr past ↦ (let none = unused_outside c g clusters v x s past in let some = used_by v kind x a in absurd (omega arith))
]

asked : (a b : Bool) → a ≡ true → implies a b ≡ true → b ≡ true
asked true b is kept = kept
asked false b is kept = absurd cc

pub marked_if_used : (c : Content) (g : Geometry) (clusters : ℕ) (v : Volume) (x : ℕ) → Stands c g clusters v → x < v.clusters → 0 < uses (volume_runs v.files) x → bit (cluster_bits c v) x ≡ true
unfolding broken_6
marked_if_used c g clusters v x s below some =
    asked (leb 1 (uses (volume_runs v.files) x)) (bit (cluster_bits c v) x) (le-leb 1 (uses (volume_runs v.files) x) some)
    (passes_below (keeps_cluster_bit (cluster_bits c v) (volume_runs v.files)) v.clusters (rules_of c v s.kept).rule_6 x below)

pub marked : (c : Content) (g : Geometry) (clusters : ℕ) (v : Volume) (kind : BlockKind) (x : ℕ) → Stands c g clusters v → OwnsAs v kind x → bit (cluster_bits c v) x ≡ true
marked c g clusters v kind x s a = marked_if_used c g clusters v x s (inside c g clusters v kind x s a) (used_by v kind x a)

-- ---- rivals

near : (k l : BlockKind) (a b : ℕ) → may_begin k a ≡ true → may_begin l b ≡ true → a < b + sectors l → b < a + sectors k → a / 8 ≡ b / 8
near Plain Plain a b at to left right = omega arith
near Plain FileRec a b at to left right = let even = eqb-true (b % 2) 0 to in omega arith
near Plain Index a b at to left right = let even = eqb-true (b % 8) 0 to in omega arith
near FileRec Plain a b at to left right = let even = eqb-true (a % 2) 0 at in omega arith
near FileRec FileRec a b at to left right = let even = eqb-true (a % 2) 0 at in let also = eqb-true (b % 2) 0 to in omega arith
near FileRec Index a b at to left right = let even = eqb-true (a % 2) 0 at in let also = eqb-true (b % 8) 0 to in omega arith
near Index Plain a b at to left right = let even = eqb-true (a % 8) 0 at in omega arith
near Index FileRec a b at to left right = let even = eqb-true (a % 8) 0 at in let also = eqb-true (b % 2) 0 to in omega arith
near Index Index a b at to left right = let even = eqb-true (a % 8) 0 at in let also = eqb-true (b % 8) 0 to in omega arith

pub one_cluster : (a b : Block) → is_in_grid a ≡ true → is_in_grid b ≡ true → are_rivals a b ≡ true → cluster_of a ≡ cluster_of b
one_cluster a b at to rivals =
    let over = and_parts (ltb a.first (b.first + sectors b.kind)) (ltb b.first (a.first + sectors a.kind)) (and_parts (not (same_kind a.kind b.kind)) (overlap a b) rivals).1 in
    near a.kind b.kind a.first b.first at to (ltb-true _ _ over.0) (ltb-true _ _ over.1)

not_both : (t : Bool) → not t ≡ true → t ≡ true → ⊥
not_both true is also = absurd cc
not_both false is also = absurd cc

kind_itself : (k : BlockKind) → same_kind k k ≡ true
kind_itself Plain = refl
kind_itself FileRec = refl
kind_itself Index = refl

pub two_kinds : (a b : Block) → are_rivals a b ≡ true → a.kind ≢ b.kind
two_kinds a b rivals same =
    not_both (same_kind a.kind b.kind) (and_parts (not (same_kind a.kind b.kind)) (overlap a b) rivals).0 (ap (λ (k : BlockKind). same_kind k b.kind) same ∙ kind_itself b.kind)
