-- States in a window behind a list of changes.
use Rattle.std.proofs.Common.{◌≡◌, not, ℕ, zero, suc, ◌+◌, ◌^◌, ◌≤◌, Bool, true, false, ◌&&◌, ◌||◌, subst, List, [], ◌∷◌, Result, Ok, Err, refl, sym, ap, ◌∙◌, inl, inr, arith}
use mathlib.Core.Path.{fun_ext}
use Rattle.std.specs.Prelude.{◌⊎◌, nat_lt}
use Rattle.std.specs.List.{AllByRecursion}
use Rattle.std.proofs.lemmas.Bool.{cases_Bool, and_parts, false_from_ne_true, or_from, ltb-true}
use Rattle.disk_model.specs.declared.block.Block.{Block}
use Rattle.disk_model.specs.declared.block.Change.{Change}
use Rattle.disk_model.specs.declared.block.BlockKind.{BlockKind}
use Rattle.disk_model.specs.declared.block.BlockKind.TheVariants.{Plain, FileRec, Index}
use Rattle.disk_model.specs.Sectors.{sectors, same_kind, same_block, are_rivals}
use Rattle.disk_model.specs.Content.{Content}
use Rattle.disk_model.proofs.Frames.{same_block-is}
use Rattle.state_store.specs.state_model.declared.geometry.Geometry.{Geometry}
use Rattle.state_store.proofs.stream_laws.Changing.{has_sectors}
use Rattle.state_store.specs.volume_model.Volumes.{Volume, volume_of}
use Rattle.state_store.specs.state_model.declared.geometry.MapRefusal.{MapRefusal}
use Rattle.state_store.specs.volume_model.Indexes.{void_block}
use Rattle.state_store.specs.plan_owners.States.{Stands}
use Rattle.state_store.specs.state_blocks.Needing.{IsNeeded}
use Rattle.state_store.specs.state_blocks.Drafts.{is_changed}
use Rattle.state_store.specs.store_model.Volumes.{is_known}
use Rattle.state_store.proofs.store_model.Told.{true≢false, rivals_both}
use Rattle.state_store.specs.store_claims.Windows.{StoreWindow}
use Rattle.state_store.specs.txn_model.Values.{StoreFacts, own_of}
use Rattle.state_store.specs.declared.fault.PutFault.{PutFault}
use Rattle.state_store.specs.Claims.{NoRival}
use Rattle.state_store.specs.Changes.{MayLog, AreBeside, AreApart}
use Rattle.state_store.specs.Windows.{changed_by, AfterPut, StaysWindow, AfterPutting}
use Rattle.state_store.proofs.Lists.{each_weaker, unchanged_by, changed_found}
use Rattle.member_states.specs.Members.{base_of, IsSafe, IsClaimedState, MembersAre}
use Rattle.member_states.specs.Puts.{MayPut}
use Rattle.member_states.proofs.Staying.{stays}

-- ---- the block past the end of every disk

-- the block ends before it
abbrev pub EndsBefore : Block → Type 0
EndsBefore b = b.first + sectors b.kind ≤ 2 ^ 62

last_false : (s t u : Bool) → u ≡ false → (s && (t && u)) ≡ false
last_false s t u none = false_from_ne_true (s && (t && u)) (λ both. true≢false (sym (and_parts t u (and_parts s (t && u) both).1).1 ∙ none))

no_rival_past : (b : Block) → EndsBefore b → are_rivals b void_block ≡ false
no_rival_past b ends =
    last_false _ _ (nat_lt (2 ^ 62) (b.first + sectors b.kind)) (false_from_ne_true (nat_lt (2 ^ 62) (b.first + sectors b.kind)) (λ low. (let below = ltb-true (2 ^ 62) (b.first + sectors b.kind) low in absurd (omega (arith, below, ends)))))

not_past : (b : Block) → EndsBefore b → same_block void_block b ≡ false
not_past b ends = false_from_ne_true (same_block void_block b) (λ same.
    let first : 2 ^ 62 ≡ b.first = ap (λ (x : Block). x.first) (same_block-is void_block b same) in
    let some = has_sectors b.kind in
    absurd (omega (arith, first, some, ends)))

none_past : (xs : List Change) → AllByRecursion (λ x. EndsBefore x.block) xs → NoRival xs void_block
none_past xs all = each_weaker (λ (x : Change). EndsBefore x.block) (λ (x : Change). are_rivals x.block void_block ≡ false) (λ x ends. no_rival_past x.block ends) xs all

pub unchanged_past : (xs : List Change) → AllByRecursion (λ x. EndsBefore x.block) xs → is_changed xs void_block ≡ false
unchanged_past [] all = refl
unchanged_past (x ∷ xs) all = or_from (same_block void_block x.block) (is_changed xs void_block) (not_past x.block all.0) (unchanged_past xs all.1)

-- ---- a block that was changed has no rival that was

beside_none : (x : Change) (b : Block) (xs : List Change) → b ≡ x.block → AllByRecursion (λ (y : Change). AreBeside x.block y.block) xs → NoRival xs b
beside_none x b xs is all =
    each_weaker (λ (y : Change). AreBeside x.block y.block) (λ (y : Change). are_rivals y.block b ≡ false) (λ y beside. rivals_both y.block b ∙ ap (λ (c : Block). are_rivals c y.block) is ∙ beside.no_rival) xs all

kind_self : (kind : BlockKind) → same_kind kind kind ≡ true
kind_self Plain = refl
kind_self FileRec = refl
kind_self Index = refl

not_own : (b : Block) → are_rivals b b ≡ false
not_own b = false_from_ne_true (are_rivals b b) (λ rivals. no_kind (same_kind b.kind b.kind) _ (kind_self b.kind) rivals)
  where
    no_kind : (t u : Bool) → t ≡ true → (not t && u) ≡ true → ⊥
    no_kind true u is both = absurd (true≢false (sym both))
    no_kind false u is both = absurd (true≢false (sym is))

apart_of : (x : Change) (b : Block) (xs : List Change) → AllByRecursion (λ (y : Change). AreBeside x.block y.block) xs → is_changed xs b ≡ true → are_rivals x.block b ≡ false
apart_of x b xs all some = changed_found (λ c. are_rivals x.block c ≡ false) xs b some (each_weaker (λ (y : Change). AreBeside x.block y.block) (λ (y : Change). are_rivals x.block y.block ≡ false) (λ y beside. beside.no_rival) xs all)

changed_alone : (xs : List Change) (b : Block) → AreApart xs → is_changed xs b ≡ true → NoRival xs b
changed_alone [] b apart some = tt
changed_alone (x ∷ xs) b apart some = by (same_block b x.block) refl some (λ later. changed_alone xs b apart.1 later)
  where
    by : (t : Bool) → same_block b x.block ≡ t → (t || is_changed xs b) ≡ true → (is_changed xs b ≡ true → NoRival xs b) → NoRival (x ∷ xs) b
    by true same some later = (let is = same_block-is b x.block same in (ap (are_rivals x.block) is ∙ not_own x.block, beside_none x b xs is apart.0))
    by false same some later = (apart_of x b xs apart.0 some, later some)

-- ---- the volume of a state

one_value : (r : Result Volume MapRefusal) (v x : Volume) → r ≡ Ok v → r ≡ Ok x → v ≡ x
one_value r v x one two = cc

pub one_volume : (c : Content) (g : Geometry) (clusters : ℕ) (v x : Volume) → Stands c g clusters v → Stands c g clusters x → v ≡ x
one_volume c g clusters v x one two = one_value (volume_of c g clusters) v x one.loaded two.loaded

-- ---- the windows behind the changes

module _ (f : StoreFacts) (lies : Content) (g : Geometry) (clusters : ℕ) (xs : List Change) (w u : StoreWindow) (may : MayPut f g clusters xs w) (are : MembersAre (base_of f lies g clusters) w) where
  abbrev Is : (Block → Bool) → Content → Volume → Type 0
  Is claims c v = IsClaimedState (base_of f lies g clusters) claims c v

  ends : AllByRecursion (λ x. EndsBefore x.block) xs
  ends = each_weaker (MayLog f) (λ (x : Change). EndsBefore x.block) (λ x is. (let inside = is.inside in let near = may.near in omega (arith, inside, near))) xs may.each

  free : (b : Block) → IsNeeded w.present may.volume b → NoRival xs b
  free b needed = each_weaker (λ (x : Change). (r : Block) → IsNeeded w.present may.volume r → are_rivals x.block r ≡ false) (λ (x : Change). are_rivals x.block b ≡ false) (λ x is. is b needed) xs may.draft.rivals

  past_free : NoRival xs void_block
  past_free = none_past xs ends

  -- the present content, and the newest of those that a crash may bring back, which is the same
  shown : Is w.claimed.will w.present may.volume
  shown = subst (Is w.claimed.will w.present) (one_volume w.present g clusters are.volume may.volume are.present.stands may.stands) are.present

  newest : Is (w.claimed.claims 0) w.present may.volume
  newest =
      let first = are.members 0 (omega arith) in
      let same : Is (w.claimed.claims 0) w.present first.0 = subst (λ (c : Content). Is (w.claimed.claims 0) c first.0) (fun_ext may.newest) first.1 in
      subst (Is (w.claimed.claims 0) w.present) (one_volume w.present g clusters first.0 may.volume same.stands may.stands) same

  -- the content with the changes
  with_changes : (claims : Block → Bool) → ((b : Block) → NoRival xs b → (w.claimed.claims 0 b ≡ true) ⊎ (is_changed xs b ≡ true) → claims b ≡ true) → Is claims (changed_by xs w.present) may.next
  with_changes claims more = record {
    stands = may.leads;
    claimed = λ b needed. claimed b (may.draft.covers b needed);
    safe = λ b needed. safe b (may.draft.covers b needed);
    past = more void_block past_free (inl newest.past);
    void = unchanged_by xs w.present void_block (unchanged_past xs ends) ∙ newest.void;
  }
    where
      claimed : (b : Block) → IsNeeded w.present may.volume b ⊎ (is_changed xs b ≡ true) → claims b ≡ true
      claimed b (inl needed) = more b (free b needed) (inl (newest.claimed b needed))
      claimed b (inr some) = more b (changed_alone xs b may.apart some) (inr some)

      changed : (b : Block) → is_changed xs b ≡ true → is_known (own_of f) b ≡ true
      changed b some = changed_found (λ c. is_known (own_of f) c ≡ true) xs b some (each_weaker (MayLog f) (λ (x : Change). is_known (own_of f) x.block ≡ true) (λ x is. is.known) xs may.each)

      unchanged : (b : Block) → is_changed xs b ≡ false → IsSafe (base_of f lies g clusters) w.present b → IsSafe (base_of f lies g clusters) (changed_by xs w.present) b
      unchanged b none (inl known) = inl known
      unchanged b none (inr still) = inr (still.0, unchanged_by xs w.present b none ∙ still.1)

      safe : (b : Block) → IsNeeded w.present may.volume b ⊎ (is_changed xs b ≡ true) → IsSafe (base_of f lies g clusters) (changed_by xs w.present) b
      safe b (inr some) = inl (changed b some)
      safe b (inl needed) = elim (cases_Bool (is_changed xs b)) [
        | inl some ↦ inl (changed b some)
        | inr none ↦ unchanged b none (newest.safe b needed)
      ]

  -- one of the contents of before stays
  older : (k j : ℕ) (v : Volume) → Is (w.claimed.claims k) (w.before k) v → ((b : Block) → u.before j b ≡ w.before k b) → ((b : Block) → w.claimed.claims k b ≡ true → u.claimed.claims j b ≡ true) → Is (u.claimed.claims j) (u.before j) v
  older k j v is same more =
      stays (base_of f lies g clusters) (w.claimed.claims k) (u.claimed.claims j) (w.before k) (u.before j) v is (λ b needed. same b) (same void_block) (λ b needed. more b (is.claimed b needed)) (more void_block is.past)

  -- and the newest one does, where it is claimed but for rivals of the changes
  newest_stays : (j : ℕ) → ((b : Block) → u.before j b ≡ w.before 0 b) → ((b : Block) → NoRival xs b → w.claimed.claims 0 b ≡ true → u.claimed.claims j b ≡ true) → Is (u.claimed.claims j) (u.before j) may.volume
  newest_stays j same more =
      stays (base_of f lies g clusters) (w.claimed.claims 0) (u.claimed.claims j) w.present (u.before j) may.volume newest (λ b needed. same b ∙ may.newest b) (same void_block ∙ may.newest void_block)
      (λ b needed. more b (free b needed) (newest.claimed b needed)) (more void_block past_free newest.past)

  pub put_stays : AfterPut xs w u → MembersAre (base_of f lies g clusters) u
  put_stays after = record {
    volume = may.next;
    present = subst (λ (c : Content). Is u.claimed.will c may.next) (sym (fun_ext after.present)) (with_changes u.claimed.will after.claimed.will);
    members = each;
  }
    where
      low : (k : ℕ) → suc k ≤ u.waiting → k ≤ w.waiting
      low k fits = (let waits = after.waiting in omega (arith, fits, waits))

      each : (k : ℕ) → k ≤ u.waiting → (v : Volume) × Is (u.claimed.claims k) (u.before k) v
      each zero fits = (may.next, subst (λ (c : Content). Is (u.claimed.claims 0) c may.next) (sym (fun_ext (λ b. after.newest b ∙ after.present b))) (with_changes (u.claimed.claims 0) after.claimed.newest))
      each (suc zero) fits = (may.volume, newest_stays 1 (after.others 0 (low 0 fits)) after.claimed.before)
      each (suc (suc k)) fits = (let old = are.members (suc k) (low (suc k) fits) in (old.0, older (suc k) (suc (suc k)) old.0 old.1 (after.others (suc k) (low (suc k) fits)) (after.claimed.older k)))

  pub left_stays : StaysWindow xs w u → MembersAre (base_of f lies g clusters) u
  left_stays after = record {
    volume = may.volume;
    present =
        stays (base_of f lies g clusters) w.claimed.will u.claimed.will w.present u.present may.volume shown (λ b needed. after.present b) (after.present void_block)
        (λ b needed. after.claimed.will b (free b needed) (newest.claimed b needed) (shown.claimed b needed)) (after.claimed.will void_block past_free newest.past shown.past);
    members = each;
  }
    where
      low : (k : ℕ) → k ≤ u.waiting → k ≤ w.waiting
      low k fits = (let waits = after.waiting in omega (arith, fits, waits))

      each : (k : ℕ) → k ≤ u.waiting → (v : Volume) × Is (u.claimed.claims k) (u.before k) v
      each zero fits = (may.volume, newest_stays 0 (after.others 0 (low 0 fits)) after.claimed.newest)
      each (suc k) fits = (let old = are.members (suc k) (low (suc k) fits) in (old.0, older (suc k) (suc k) old.0 old.1 (after.others (suc k) (low (suc k) fits)) (after.claimed.older k)))

pub put_keeps : (f : StoreFacts) (lies : Content) (g : Geometry) (clusters : ℕ) (xs : List Change) (w u : StoreWindow) → MayPut f g clusters xs w → AfterPut xs w u → MembersAre (base_of f lies g clusters) w → MembersAre (base_of f lies g clusters) u
put_keeps f lies g clusters xs w u may after are = put_stays f lies g clusters xs w u may are after

pub left_keeps : (f : StoreFacts) (lies : Content) (g : Geometry) (clusters : ℕ) (xs : List Change) (w u : StoreWindow) → MayPut f g clusters xs w → StaysWindow xs w u → MembersAre (base_of f lies g clusters) w → MembersAre (base_of f lies g clusters) u
left_keeps f lies g clusters xs w u may after are = left_stays f lies g clusters xs w u may are after

pub putting_keeps : (result : Result (Unit {0}) PutFault) (f : StoreFacts) (lies : Content) (g : Geometry) (clusters : ℕ) (xs : List Change) (w u : StoreWindow) → MayPut f g clusters xs w → AfterPutting result xs w u → MembersAre (base_of f lies g clusters) w → MembersAre (base_of f lies g clusters) u
putting_keeps (Ok tt) f lies g clusters [] w u may after are = left_keeps f lies g clusters [] w u may after are
putting_keeps (Ok tt) f lies g clusters (x ∷ xs) w u may after are = put_keeps f lies g clusters (x ∷ xs) w u may after are
putting_keeps (Err e) f lies g clusters xs w u may after are = left_keeps f lies g clusters xs w u may after are
