-- Streams that have their blocks where they had them, as far as they are initialised.
use Rattle.std.proofs.Common.{◌≡◌, ℕ, zero, suc, ◌+◌, ◌-◌, ◌*◌, ◌/◌, ◌<◌, ◌≤◌, Bool, false, ◌||◌, refl, sym, ap, ap₂, ◌∙◌, arith}
use Rattle.std.specs.List.{list_any, range_with_len}
use Rattle.std.proofs.lemmas.Bool.{or_parts}
use Rattle.plan_model.specs.disk_model.declared.block.BlockKind.{BlockKind}
use Rattle.plan_model.specs.disk_model.declared.block.BlockKind.TheVariants.{Plain, FileRec, Index}
use Rattle.plan_model.specs.disk_model.Sectors.{sectors}
use Rattle.plan_model.specs.disk_model.Content.{Content}
use Rattle.plan_model.specs.state_model.declared.stream.Extents.{Extents}
use Rattle.plan_model.specs.state_model.Streams.{block_at}
use Rattle.plan_model.specs.volume_model.Sizes.{is_torn_at, begun, has_torn}

-- ---- blocks in one cluster, at eight sectors a cluster

pub one_cluster : (kind : BlockKind) (m : ℕ) → (sectors kind * m + sectors kind - 1) / 8 ≡ sectors kind * m / 8
one_cluster Plain m = omega arith
one_cluster FileRec m = omega arith
one_cluster Index m = omega arith

-- ---- lists that are read alike

-- what no place of a list has none of a shorter one has, whose places are the same
any_less : (p q : ℕ → Bool) (a n more : ℕ) → ((i : ℕ) → a ≤ i → i < a + n → p i ≡ q i) → list_any q (range_with_len a (n + more)) ≡ false → list_any p (range_with_len a n) ≡ false
any_less p q a zero more same none = refl
any_less p q a (suc n) more same none =
    let next : suc n + more ≡ suc (n + more) = omega arith in
    let parts = or_parts (q a) (list_any q (range_with_len (a + 1) (n + more))) (sym (ap (λ (x : ℕ). list_any q (range_with_len a x)) next) ∙ none) in
    ap₂ (λ (s t : Bool). s || t) (same a (omega arith) (omega arith) ∙ parts.0) (any_less p q (a + 1) n more (λ i low high. same i (omega (arith, low)) (omega (arith, high))) parts.1)

-- places that begin below the initialised size have their blocks where they had them
abbrev pub SamePlaces : ℕ → Extents → Extents → Type 0
SamePlaces per e f = (kind : BlockKind) (m : ℕ) → 512 * (sectors kind * m) < f.initialised → block_at per f.runs kind m ≡ block_at per e.runs kind m

pub begun_in : (kind : BlockKind) (m initialised : ℕ) → m < begun (512 * sectors kind) initialised → 512 * (sectors kind * m) < initialised
begun_in Plain m initialised below = omega (arith, below)
begun_in FileRec m initialised below = omega (arith, below)
begun_in Index m initialised below = omega (arith, below)

begun_less : (kind : BlockKind) (less initialised : ℕ) → less ≤ initialised → begun (512 * sectors kind) less ≤ begun (512 * sectors kind) initialised
begun_less Plain less initialised le = omega (arith, le)
begun_less FileRec less initialised le = omega (arith, le)
begun_less Index less initialised le = omega (arith, le)

torn_at : (d : Content) (per : ℕ) (kind : BlockKind) (e f : Extents) → f.initialised ≤ e.initialised → ((m : ℕ) → 512 * (sectors kind * m) < f.initialised → block_at per f.runs kind m ≡ block_at per e.runs kind m) → has_torn d per kind (512 * sectors kind) e ≡ false
    → has_torn d per kind (512 * sectors kind) f ≡ false
unfolding has_torn
torn_at d per kind e f less places none =
    let short : ℕ = begun (512 * sectors kind) f.initialised in
    let long : ℕ = begun (512 * sectors kind) e.initialised in
    let le : short ≤ long = begun_less kind f.initialised e.initialised less in
    let whole : long ≡ short + (long - short) = omega (arith, le) in
    any_less (λ m. is_torn_at d (block_at per f.runs kind m)) (λ m. is_torn_at d (block_at per e.runs kind m)) 0 short (long - short)
    (λ m low high. ap (is_torn_at d) (places m (begun_in kind m f.initialised (omega (arith, high)))))
    (sym (ap (λ (x : ℕ). list_any (λ m. is_torn_at d (block_at per e.runs kind m)) (range_with_len 0 x)) whole) ∙ none)

-- no block is torn that wasn't
pub untorn_alike : (d : Content) (per : ℕ) (kind : BlockKind) (size : ℕ) (e f : Extents) → size ≡ 512 * sectors kind → f.initialised ≤ e.initialised → SamePlaces per e f → has_torn d per kind size e ≡ false → has_torn d per kind size f ≡ false
untorn_alike d per kind size e f is less places none = ap (λ (x : ℕ). has_torn d per kind x f) is ∙ torn_at d per kind e f less (places kind) (sym (ap (λ (x : ℕ). has_torn d per kind x e) is) ∙ none)
