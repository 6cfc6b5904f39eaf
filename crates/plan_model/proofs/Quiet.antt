-- A node's times changed, as an edit of a plan.
use Rattle.plan_model.specs.Drafts.{KeepsExtents, GoesOn, gives_runs}
use Rattle.plan_bodies.specs.Bodies.{NewBody, content_with, AreBodies}
use Rattle.plan_bodies.specs.disk_model.Content.{Content}
use Rattle.std.specs.List.{AllByRecursion}
use Rattle.std.proofs.lemmas.Bool.{cases_lt, le-leb, lt-leb}
use Rattle.index_change.specs.volume_model.Owners.{volume_runs, uses}
use Rattle.index_change.specs.volume_model.Volumes.{cluster_bits, Volume}
use Rattle.index_change.specs.bit_set.Bits.{bit}
use Rattle.plan_owners.proofs.tree_laws.Ascending.{all_by}
use Rattle.std.proofs.Common.{refl, ◌≡◌, ℕ, ◌*◌, ◌<◌, List, Some, sym, ap, ap₂, subst, ◌∙◌, ◌⊎◌, inl, inr, cond, leb, Bool, true, false, Option, arith}
use Rattle.plan_bodies.specs.disk_model.declared.block.Block.{Block}
use Rattle.plan_bodies.specs.disk_model.declared.block.BlockKind.{BlockKind}
use Rattle.plan_bodies.specs.disk_model.declared.block.BlockKind.TheVariants.{FileRec}
use Rattle.plan_bodies.specs.disk_model.Sectors.{sectors}
use Rattle.index_change.specs.record_model.declared.runs.Run.{Run}
use Rattle.index_change.specs.state_model.declared.geometry.Geometry.{Geometry}
use Rattle.index_change.specs.state_model.Streams.{block_at}
use Rattle.plan_owners.specs.stream_laws.Owners.{stream_kind, Owns, IsLive}
use Rattle.plan_owners.specs.stream_laws.Tables.{table_key}
use Rattle.plan_owners.proofs.stream_laws.Tabling.{table_runs}
use Rattle.plan_owners.specs.States.{Stands}
use Rattle.plan_owners.specs.Kinds.{OwnsAs}
use Rattle.plan_owners.proofs.Standing.{begins}

module _ (v w : Volume) (k : KeepsExtents v w) where
  pub owns_as_before : (kind : BlockKind) (x : ℕ) → OwnsAs w kind x → OwnsAs v kind x
  owns_as_before kind x owns = record { stream = owns.stream; is_kind = owns.is_kind; has = subst (λ (l : List Run). 0 < uses l x) (k.runs owns.stream) owns.has }

  pub owns_before : (b : Block) → Owns w b → Owns v b
  owns_before b owns = record {
    stream = owns.stream;
    number = owns.number;
    lies = sym (ap₂ (λ (p : ℕ) (l : List Run). block_at p l (stream_kind owns.stream) owns.number) k.per (k.runs owns.stream)) ∙ owns.lies;
  }

  pub live_before : (b : Block) → IsLive w b → IsLive v b
  unfolding owns_before
  live_before b live = record { owned = owns_before b live.owned; begins = subst (λ (x : ℕ). 512 * (sectors (stream_kind live.owned.stream) * live.owned.number) < x) (k.sizes live.owned.stream) live.begins }

-- a file record is a block of the table
pub record_owned : (c : Content) (g : Geometry) (clusters : ℕ) (v : Volume) (n : ℕ) (b : Block) → Stands c g clusters v → block_at v.per v.table.runs FileRec n ≡ Some b → Owns v b
unfolding stream_kind
record_owned c g clusters v n b s place = record { stream = table_key; number = n; lies = ap (λ (l : List Run). block_at v.per l FileRec n) (table_runs c g clusters v (begins c g clusters v s)) ∙ place }

-- an edit that takes no cluster and gives none
pub quiet_goes_on : (first : Content) (start : Volume) (c : Content) (g : Geometry) (clusters : ℕ) (v : Volume) (bodies : List NewBody) (u : Volume) (gave : ℕ → Option BlockKind) → AreBodies bodies → Stands (content_with c bodies) g clusters u → KeepsExtents v u
    → ((x : ℕ) → x < clusters → bit (cluster_bits (content_with c bodies) u) x ≡ bit (cluster_bits c v) x) → ((x : ℕ) → uses (volume_runs u.files) x ≡ uses (volume_runs v.files) x) → AllByRecursion (λ p. Owns v p.block) bodies
    → ((kind : BlockKind) (x : ℕ) → gave x ≡ Some kind → bit (cluster_bits first start) x ≡ false) → GoesOn first start c g clusters v bodies u gave gave
quiet_goes_on first start c g clusters v bodies u gave are state k bits same owned clear = record {
  whole = are;
  stands = state;
  marks = record {
    cleared = λ x low less. (let equal = same x in absurd (omega arith));
    set = λ x low less. (let equal = same x in absurd (omega arith));
    others = λ x low equal. bits x low;
  };
  kept = λ kind x given. given;
  takes = λ kind x owns. inl (owns_as_before v u k kind x owns);
  clear = clear;
  touched = all_by (λ p. Owns v p.block) (λ p. Owns v p.block ⊎ Owns u p.block) (λ p owns. inl owns) bodies owned;
  covers = λ b live. inl (live_before v u k b live);
}

-- ---- clusters that are given

taken_or : (t : Bool) (kind : BlockKind) (o : Option BlockKind) → t ≡ true → cond t (Some kind) o ≡ Some kind
taken_or true kind o is = refl
taken_or false kind o is = absurd cc

module _ (kind : BlockKind) (runs : List Run) (gave : ℕ → Option BlockKind) where
  pub given_here : (x : ℕ) → 0 < uses runs x → gives_runs kind runs gave x ≡ Some kind
  given_here x some = taken_or (leb 1 (uses runs x)) kind (gave x) (le-leb 1 (uses runs x) some)

  pub given_before : ((x : ℕ) (other : BlockKind) → 0 < uses runs x → gave x ≡ Some other → other ≡ kind) → (other : BlockKind) (x : ℕ) → gave x ≡ Some other → gives_runs kind runs gave x ≡ Some other
  given_before same other x given = elim (cases_lt 0 (uses runs x)) [
    | inl some ↦ given_here x some ∙ ap (λ (k : BlockKind). Some k) (sym (same x other some given))
    | inr none ↦ ap (λ (t : Bool). cond t (Some kind) (gave x)) (lt-leb 1 (uses runs x) (omega arith)) ∙ given
  ]

  pub given_clear : (bits : List Bool) → ((x : ℕ) → 0 < uses runs x → bit bits x ≡ false) → ((other : BlockKind) (x : ℕ) → gave x ≡ Some other → bit bits x ≡ false) → (other : BlockKind) (x : ℕ) → gives_runs kind runs gave x ≡ Some other → bit bits x ≡ false
  given_clear bits here before other x given = elim (cases_lt 0 (uses runs x)) [
    | inl some ↦ here x some
    | inr none ↦ before other x (sym (ap (λ (t : Bool). cond t (Some kind) (gave x)) (lt-leb 1 (uses runs x) (omega arith))) ∙ given)
  ]
