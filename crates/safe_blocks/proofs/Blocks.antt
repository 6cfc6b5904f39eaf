-- A block from which a state is read is one that its store may change, or one by which the log is found.
use Rattle.std.proofs.Common.{◌≡◌, ℕ, ◌+◌, ◌*◌, ◌/◌, Bool, true, false, ◌||◌, eqb, ltb, List, Option, Some, None, refl, sym, ap, subst, ◌∙◌, inl, inr, arith}
use Rattle.std.specs.Prelude.{◌⊎◌}
use Rattle.std.specs.List.{list_any}
use Rattle.std.proofs.lemmas.Bool.{cases_Bool, and_parts, and_from, eqb-true, eq-eqb, ltb-true}
use Rattle.disk_model.specs.declared.block.Block.{Block}
use Rattle.disk_model.specs.declared.block.BlockKind.{BlockKind}
use Rattle.disk_model.specs.declared.block.BlockKind.TheVariants.{Plain, FileRec}
use Rattle.disk_model.specs.Sectors.{sectors, same_kind, same_block, overlap}
use Rattle.disk_model.specs.Content.{Content}
use Rattle.record_model.specs.declared.runs.Run.{Run}
use Rattle.log_page.specs.declared.places.LogPlace.{LogPlace}
use Rattle.state_model.specs.declared.geometry.Geometry.{Geometry}
use Rattle.state_model.specs.Streams.{block_at}
use Rattle.state_model.specs.Loads.{boot_block}
use Rattle.volume_model.specs.Volumes.{Volume}
use Rattle.volume_model.specs.Sizes.{is_at, placed_record, keeps_place}
use Rattle.stream_laws.specs.Owners.{stream_kind, Owns}
use Rattle.stream_laws.specs.Sharing.{StreamKey}
use Rattle.stream_laws.specs.Tables.{table_key}
use Rattle.stream_laws.proofs.Owning.{one_block}
use Rattle.stream_laws.proofs.Placing.{lies}
use Rattle.stream_laws.proofs.Rewriting.{volume_parts}
use Rattle.stream_laws.proofs.Tabling.{table_runs}
use Rattle.spares_at_mount.proofs.tree_laws.Keeping.{rules_of}
use Rattle.spares_at_mount.specs.plan_owners.States.{Stands}
use Rattle.spares_at_mount.specs.plan_owners.Agreeing.{IsJudged}
use Rattle.spares_at_mount.specs.plan_owners.Kinds.{OwnsAs}
use Rattle.spares_at_mount.proofs.plan_owners.ByKind.{owned_as}
use Rattle.spares_at_mount.proofs.plan_owners.Outside.{once}
use Rattle.spares_at_mount.proofs.plan_owners.Standing.{begins, rule_4_parts}
use Rattle.spares_at_mount.proofs.plan_model.Drafting.{per_is}
use Rattle.spares_at_mount.specs.state_blocks.Needing.{IsNeeded}
use Rattle.spares_at_mount.proofs.state_blocks.Needing.{listed_judged}
use Rattle.spares_at_mount.specs.image_open.Volumes.{boot_place}
use Rattle.spares_at_mount.specs.image_open.Writing.{found_by}
use Rattle.store_model.specs.Volumes.{is_known}
use Rattle.spares_at_mount.specs.txn_model.Values.{StoreFacts, is_own}
use Rattle.member_states.specs.Members.{base_of, is_found, IsSafe}
use Rattle.spares_at_mount.proofs.Mounting.{judged_apart, apart_known}
use Rattle.spares_at_mount.specs.volume_mount.Boot.{boot_key}
use Rattle.safe_blocks.specs.Safe.{SuitsStore}

-- ---- record 2

at_place : (first : ℕ) (o : Option Block) → is_at first o ≡ true → (b : Block) × (o ≡ Some b) × (b.first ≡ first)
at_place first None at = absurd cc
at_place first (Some b) at = (b, refl, eqb-true b.first first at)

block_with : ℕ → BlockKind → Block
block_with first kind = record { first = first; kind = kind }

second_place : (v : Volume) → keeps_place v ≡ true → is_at (v.mft * v.per + 2 * 2) (placed_record v 2) ≡ true
unfolding keeps_place
second_place v placed = (and_parts _ _ (and_parts _ _ (and_parts _ _ placed).1).1).0

-- it lies, by the runs of the file table, where the boot sector says
second_block : (c : Content) (g : Geometry) (clusters : ℕ) (v : Volume) → Stands c g clusters v → block_at v.per v.table.runs FileRec 2 ≡ Some (boot_block g 2)
unfolding block_with
second_block c g clusters v s =
    let p = volume_parts c g clusters v s.loaded in
    let at = at_place (v.mft * v.per + 2 * 2) (placed_record v 2) (second_place v (rule_4_parts c v (rules_of c v s.kept).rule_4).0) in
    let kind = (lies v.per v.table.runs FileRec 2 at.0 at.1).kind_is in
    let first : at.0.first ≡ g.mft * g.per_cluster + 2 * 2 = at.2 ∙ ap (λ (x : ℕ). x * v.per + 2 * 2) (sym p.place) ∙ ap (λ (x : ℕ). g.mft * x + 2 * 2) (sym p.per) in
    at.1 ∙ ap (λ (x : ℕ). Some (block_with x at.0.kind)) first ∙ ap (λ (k : BlockKind). Some (block_with (g.mft * g.per_cluster + 2 * 2) k)) (sym kind)

pub owns_second : (c : Content) (g : Geometry) (clusters : ℕ) (v : Volume) → Stands c g clusters v → Owns v (boot_block g 2)
unfolding stream_kind
owns_second c g clusters v s = record { stream = table_key; number = 2; lies = ap (λ (l : List Run). block_at v.per l FileRec 2) (table_runs c g clusters v (begins c g clusters v s)) ∙ second_block c g clusters v s }

-- ---- one or the other

clash : false ≡ true → ⊥
clash e = cc

first_passes : (t u : Bool) → t ≡ true → (t || (u || false)) ≡ true
first_passes true u is = refl
first_passes false u is = absurd cc

second_passes : (t u : Bool) → u ≡ true → (t || (u || false)) ≡ true
second_passes true u is = refl
second_passes false true is = refl
second_passes false false is = absurd cc

-- the blocks of $Boot's data are sectors
boot_kind : (s : StreamKey) → s ≡ boot_key → stream_kind s ≡ Plain
unfolding stream_kind
boot_kind s is = ap stream_kind is

module _ (c : Content) (g : Geometry) (clusters : ℕ) (place : LogPlace) (v : Volume) (suits : SuitsStore c g clusters place v) where
  judged_of : (b : Block) → IsNeeded c v b → IsJudged v b
  judged_of b (inl judged) = judged
  judged_of b (inr listed) = listed_judged c v b listed (suits.lists listed.number listed.file listed.is_file)

  -- one in the first cluster is $Boot's
  is_boot : (b : Block) → Owns v b → overlap b boot_place ≡ true → same_block b boot_place ≡ true
  is_boot b owns over =
      let low = ltb-true b.first (0 + 1) (and_parts (ltb b.first (0 + 1)) (ltb 0 (b.first + sectors b.kind)) over).0 in
      let first : b.first ≡ 0 = omega (arith, low) in
      let its : OwnsAs v b.kind 0 = subst (λ (x : ℕ). OwnsAs v b.kind (x / 8)) first (owned_as v b (per_is c g clusters v suits.eight suits.stands) owns) in
      let as_boot : its.stream ≡ boot_key → same_block b boot_place ≡ true = λ is. and_from (eqb b.first 0) (same_kind b.kind Plain) (eq-eqb b.first 0 first) (ap (λ (k : BlockKind). same_kind k Plain) (sym its.is_kind ∙ boot_kind its.stream is)) in
      elim (cases_Bool (same_block b boot_place)) [
        | inl same ↦ same
        | inr other ↦ (let none = suits.boot its.stream (λ is. clash (sym other ∙ as_boot is)) in let has = its.has in absurd (omega (arith, none, has)))
      ]

  is_second : (b : Block) → Owns v b → overlap b (boot_block g 2) ≡ true → same_block b (boot_block g 2) ≡ true
  is_second b owns over =
      let same : b ≡ boot_block g 2 = one_block v b (boot_block g 2) suits.stands.some (once c g clusters v suits.stands) owns (owns_second c g clusters v suits.stands) over in
      ap (λ (x : Block). same_block x (boot_block g 2)) same ∙ and_from (eqb (boot_block g 2).first (boot_block g 2).first) true (eq-eqb (boot_block g 2).first (boot_block g 2).first refl) refl

  pub known_or_found : (b : Block) → IsNeeded c v b → (is_known (is_own place (found_by g)) b ≡ true) ⊎ (list_any (same_block b) (found_by g) ≡ true)
  known_or_found b needed =
      let judged = judged_of b needed in
      elim (cases_Bool (overlap b boot_place)) [
        | inl over ↦ inr (first_passes (same_block b boot_place) (same_block b (boot_block g 2)) (is_boot b judged.live.owned over))
        | inr apart ↦ elim (cases_Bool (overlap b (boot_block g 2))) [
          | inl over ↦ inr (second_passes (same_block b boot_place) (same_block b (boot_block g 2)) (is_second b judged.live.owned over))
          | inr off ↦ inl (apart_known place (found_by g) v b suits.ring suits.lies (judged_apart c g clusters v b suits.eight suits.stands judged) (apart, (off, tt)))
        ]
      ]

pub is_safe : (f : StoreFacts) (lies c : Content) (g : Geometry) (clusters : ℕ) (v : Volume) (b : Block) → SuitsStore c g clusters f.place v → f.found ≡ found_by g → ((x : Block) → is_found (base_of f lies g clusters) x ≡ true → c x ≡ lies x) → IsNeeded c v b → IsSafe (base_of f lies g clusters) c b
is_safe f lies c g clusters v b suits found agrees needed = by (known_or_found c g clusters f.place v suits b needed)
  where
    by : (is_known (is_own f.place (found_by g)) b ≡ true) ⊎ (list_any (same_block b) (found_by g) ≡ true) → IsSafe (base_of f lies g clusters) c b
    by (inl known) = inl (subst (λ (l : List Block). is_known (is_own f.place l) b ≡ true) (sym found) known)
    by (inr is) = (let there : list_any (same_block b) f.found ≡ true = ap (list_any (same_block b)) found ∙ is in inr (there, agrees b there))
