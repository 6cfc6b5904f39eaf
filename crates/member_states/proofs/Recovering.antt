-- What recovery makes of an image is a state.
use Rattle.std.proofs.Common.{not, ◌≡◌, ℕ, ◌+◌, ◌*◌, ◌/◌, ◌^◌, ◌<◌, ◌≤◌, Bool, true, false, ◌||◌, List, [], ◌∷◌, ◌++◌, length, Option, Some, None, refl, sym, ap, subst, ◌∙◌, inl, inr, arith}
use Rattle.std.specs.Prelude.{◌⊎◌, IfSome, nat_le, nat_lt, find, if◌then◌else◌}
use Rattle.std.specs.List.{AllByRecursion}
use Rattle.std.specs.Option.{option_map}
use Rattle.record_model.proofs.UnitBytes.{length-zeros}
use Rattle.std.proofs.lemmas.Bool.{cases_Bool, and_parts, false_from_ne_true, or_from, le-leb}
use Rattle.disk_model.specs.declared.block.Block.{Block}
use Rattle.disk_model.specs.declared.block.Body.{Body}
use Rattle.disk_model.specs.declared.block.BlockKind.TheVariants.{Index}
use Rattle.disk_model.specs.Bytes.{zeros}
use Rattle.disk_model.specs.Sectors.{sector_of, sectors, same_block}
use Rattle.disk_model.specs.Content.{Content, body_of, content_of}
use Rattle.disk_model.specs.Laws.{IsElsewhere}
use Rattle.disk_model.specs.Writes.{Write, cover_all}
use Rattle.disk_model.proofs.Frames.{same_block-is, bytes_elsewhere, overlay_elsewhere}
use Rattle.disk_model.proofs.Sectors.{length-body_of}
use Rattle.sector_device.specs.Disks.{Disk, MayLeave}
use Rattle.sector_device.specs.Moments.{Changes, MayLeaveNow, LeftSince}
use Rattle.state_store.proofs.device_view.SectorsRead.{raw_from-past}
use Rattle.log_model.specs.declared.entry.Entry.{Entry}
use Rattle.log_model.specs.declared.entry.Act.{Act}
use Rattle.log_model.specs.declared.entry.Act.TheVariants.{Update, Commit}
use Rattle.log_model.specs.Logs.{kind_of, block_of_kind, is_misplaced, first_misplaced, updates, is_ended, is_shadowed, undo_of, redo_of, undos_back, redos, recovery_of, recovered}
use Rattle.log_model.proofs.Recovering.{stays, changes}
use Rattle.state_store.specs.log_page.declared.places.LogPlace.{LogPlace}
use Rattle.state_store.specs.state_model.declared.geometry.Geometry.{Geometry}
use Rattle.state_store.specs.volume_model.Volumes.{Volume}
use Rattle.state_store.specs.volume_model.Indexes.{void_block}
use Rattle.state_store.proofs.plan_owners.Agreed.{stands_now, tree_now}
use Rattle.state_store.specs.state_blocks.Needing.{IsNeeded, AgreeOnNeeded}
use Rattle.state_store.proofs.state_blocks.Needing.{agree_owned}
use Rattle.state_store.specs.store_model.Logs.{has_update}
use Rattle.state_store.specs.store_model.Volumes.{is_known}
use Rattle.state_store.proofs.store_model.Told.{true≢false}
use Rattle.state_store.specs.store_claims.Windows.{StoreWindow}
use Rattle.state_store.specs.txn_model.Values.{StoreFacts, own_of}
use Rattle.state_store.specs.txn_laws.Windows.{HasWindow, RecoversWithin, During}
use Rattle.state_store.proofs.txn_laws.Telling.{at_return}
use Rattle.member_states.specs.Members.{VolumeBase, base_of, is_found, BearsFound, IsSafe, void_body, MemberIs, MembersAre}
use Rattle.member_states.specs.Crashes.{RecoversToState}

-- ---- the block past the end of every disk

pub void_is : (image : List (List ℕ)) → length image ≤ 2 ^ 62 → content_of (sector_of image) void_block ≡ void_body
void_is image few = ap (body_of Index) (raw_from-past image (2 ^ 62) 8 few)

or_none : (u v : Bool) → (u || v) ≡ false → (u ≡ false) × (v ≡ false)
or_none true v e = absurd cc
or_none false v e = (refl, e)

some_void : 0 < length void_body.bytes
some_void = (let size = length-body_of Index (zeros (512 * 8)) in let whole = length-zeros (512 * 8) in omega (arith, size, whole))

-- no entry in its place updates it
untouched : (clusters : ℕ) (act : Act) (b : Block) → clusters ≤ b.first / 8 → is_misplaced clusters act ≡ false → updates b act ≡ false
unfolding is_misplaced
untouched clusters (Update first kind at redo undo) b past placed = false_from_ne_true (same_block b (block_of_kind first kind)) (λ same.
    let here : b.first ≡ first = ap (λ (x : Block). x.first) (same_block-is b (block_of_kind first kind) same) in
    let low : clusters ≤ first / 8 = omega (arith, past, here) in
    true≢false (sym (le-leb clusters (first / 8) low) ∙ (or_none (nat_le clusters (first / 8)) (nat_lt (512 * sectors (kind_of kind)) (at + length redo)) placed).0))
untouched clusters Commit b past placed = refl

none_first : (t : Bool) (x : Entry) (more : Option Entry) → option_map (λ (e : Entry). e.lsn) (if t then Some x else more) ≡ None → (t ≡ false) × (option_map (λ (e : Entry). e.lsn) more ≡ None)
none_first true x more e = absurd cc
none_first false x more e = (refl, e)

none_updates : (clusters : ℕ) (log : List Entry) (b : Block) → clusters ≤ b.first / 8 → first_misplaced log clusters ≡ None → has_update log b ≡ false
none_updates clusters [] b past placed = refl
none_updates clusters (x ∷ log) b past placed =
    let parts = none_first (is_misplaced clusters x.act) x (find (λ (e : Entry). is_misplaced clusters e.act) log) placed in
    or_from (updates b x.act) (has_update log b) (untouched clusters x.act b past parts.0) (none_updates clusters log b past parts.1)

-- ---- a block that no entry updates

all_append : (b : Block) (xs ys : List Write) → AllByRecursion (IsElsewhere b) xs → AllByRecursion (IsElsewhere b) ys → AllByRecursion (IsElsewhere b) (xs ++ ys)
all_append b [] ys all more = more
all_append b (x ∷ xs) ys all more = (all.0, all_append b xs ys all.1 more)

undo_elsewhere : (b : Block) (act : Act) → updates b act ≡ false → AllByRecursion (IsElsewhere b) (undo_of act)
undo_elsewhere b (Update first kind at redo undo) e = (e, tt)
undo_elsewhere b Commit e = tt

redo_elsewhere : (b : Block) (ended : Bool) (act : Act) → updates b act ≡ false → AllByRecursion (IsElsewhere b) (redo_of ended act)
redo_elsewhere b true (Update first kind at redo undo) e = (e, tt)
redo_elsewhere b true Commit e = tt
redo_elsewhere b false act e = tt

undos_elsewhere : (log : List Entry) (b : Block) → has_update log b ≡ false → AllByRecursion (IsElsewhere b) (undos_back log)
undos_elsewhere [] b e = tt
undos_elsewhere (x ∷ log) b e =
    let parts = or_none (updates b x.act) (has_update log b) e in
    all_append b (undos_back log) (undo_of x.act) (undos_elsewhere log b parts.1) (undo_elsewhere b x.act parts.0)

redos_elsewhere : (ended : ℕ → Bool) (log : List Entry) (b : Block) → has_update log b ≡ false → AllByRecursion (IsElsewhere b) (redos ended log)
redos_elsewhere ended [] b e = tt
redos_elsewhere ended (x ∷ log) b e =
    let parts = or_none (updates b x.act) (has_update log b) e in
    all_append b (redo_of (ended x.tx) x.act) (redos ended log) (redo_elsewhere b (ended x.tx) x.act parts.0) (redos_elsewhere ended log b parts.1)

-- recovery leaves it
left_in : (c : Content) (log : List Entry) (b : Block) → 0 < length (c b).bytes → has_update log b ≡ false → recovered c log b ≡ c b
left_in c log b some none = elim (cases_Bool (is_shadowed log b)) [
  | inl shadowed ↦ stays c log b shadowed
  | inr seen ↦ changes c log b seen ∙ overlay_elsewhere c (recovery_of log) b some (all_append b (undos_back log) (redos (is_ended log) log) (undos_elsewhere log b none) (redos_elsewhere (is_ended log) log b none))
]

-- the second body has the first one's bytes, and is torn at most where that is
abbrev Agrees : Body → Body → Type 0
Agrees x y = (y.bytes ≡ x.bytes) × (y.torn ≡ true → x.torn ≡ true)

-- so it leaves a body of any size
left_body : (c : Content) (log : List Entry) (b : Block) → has_update log b ≡ false → Agrees (c b) (recovered c log b)
left_body c log b none = elim (cases_Bool (is_shadowed log b)) [
  | inl shadowed ↦ subst (Agrees (c b)) (sym (stays c log b shadowed)) (refl, λ torn. torn)
  | inr seen ↦ subst (Agrees (c b)) (sym (changes c log b seen)) (bytes_elsewhere (recovery_of log) b (c b).bytes all, λ torn. (and_parts (c b).torn (not (cover_all (recovery_of log) b (length (c b).bytes))) torn).0)
]
  where
    all : AllByRecursion (IsElsewhere b) (recovery_of log)
    all = all_append b (undos_back log) (redos (is_ended log) log) (undos_elsewhere log b none) (redos_elsewhere (is_ended log) log b none)

-- ---- the recovered content

module _ (place : LogPlace) (base : VolumeBase) (w : StoreWindow) (image : List (List ℕ)) (inside : place.clusters ≤ 2 ^ 59) (few : length image ≤ 2 ^ 62) (bears : BearsFound base (sector_of image)) (are : MembersAre base w) (r : RecoversWithin place base.own w (sector_of image)) where
  volume : Volume
  volume = (are.members r.back r.within).0

  member : MemberIs base w r.back volume
  unfolding volume
  member = (are.members r.back r.within).1

  void_left : recovered (content_of (sector_of image)) r.list void_block ≡ w.before r.back void_block
  void_left =
      let zero = void_is image few in
      let some : 0 < length (content_of (sector_of image) void_block).bytes = subst (λ (y : Body). 0 < length y.bytes) (sym zero) some_void in
      left_in (content_of (sector_of image)) r.list void_block some (none_updates place.clusters r.list void_block (omega (arith, inside)) r.placed) ∙ zero ∙ sym member.void

  agrees : AgreeOnNeeded (w.before r.back) (recovered (content_of (sector_of image)) r.list) volume
  unfolding volume
  agrees = record { bodies = λ b needed. by b needed (is_known base.own b) refl (member.safe b needed); void = void_left }
    where
      known_body : (b : Block) → IsNeeded (w.before r.back) volume b → is_known base.own b ≡ true → Agrees (w.before r.back b) (recovered (content_of (sector_of image)) r.list b)
      known_body b needed known = (let is = r.recovers b known (r.clear b (member.claimed b needed)) in (is.bytes, is.torn))

      found_body : (b : Block) → is_known base.own b ≡ false → is_found base b ≡ true → w.before r.back b ≡ base.lies b → Agrees (w.before r.back b) (recovered (content_of (sector_of image)) r.list b)
      found_body b unknown found lies =
          let none : has_update r.list b ≡ false = false_from_ne_true (has_update r.list b) (λ some. true≢false (sym (r.updates b some) ∙ unknown)) in
          subst (λ (x : Body). Agrees x (recovered (content_of (sector_of image)) r.list b)) (bears b found ∙ sym lies) (left_body (content_of (sector_of image)) r.list b none)

      by : (b : Block) → IsNeeded (w.before r.back) volume b → (t : Bool) → is_known base.own b ≡ t → IsSafe base (w.before r.back) b → Agrees (w.before r.back b) (recovered (content_of (sector_of image)) r.list b)
      by b needed true known safe = known_body b needed known
      by b needed false unknown (inl known) = known_body b needed known
      by b needed false unknown (inr lies) = found_body b unknown lies.0 lies.1

  pub to_state : RecoversToState place base w (sector_of image)
  to_state =
      let owned = agree_owned (w.before r.back) (recovered (content_of (sector_of image)) r.list) volume agrees in
      record {
        restart = r.restart;
        chosen = r.chosen;
        list = r.list;
        reads = r.reads;
        back = r.back;
        within = r.within;
        volume = volume;
        member = member;
        agrees = agrees;
        stands = stands_now (w.before r.back) (recovered (content_of (sector_of image)) r.list) base.geometry base.clusters volume member.stands owned;
        tree = tree_now (w.before r.back) (recovered (content_of (sector_of image)) r.list) base.geometry base.clusters volume member.stands owned;
      }

-- ---- between two calls, and inside one

counted : (count : ℕ) (changes : Changes) (f : StoreFacts) (w : StoreWindow) (image : List (List ℕ)) → HasWindow changes f w → MayLeaveNow count changes image → length image ≡ count
counted count changes f w image has may = by changes.disk has.0 has.1 may
  where
    by : (o : Option Disk) (disk : Disk) → o ≡ Some disk → IfSome o (λ d. MayLeave count d image) → length image ≡ count
    by (Some d) disk is may = may.counted
    by None disk is may = absurd cc

pub now_to_state : (count : ℕ) (changes : Changes) (f : StoreFacts) (lies : Content) (g : Geometry) (clusters : ℕ) (w : StoreWindow) (image : List (List ℕ)) → f.place.clusters ≤ 2 ^ 59 → count ≤ 2 ^ 62 → BearsFound (base_of f lies g clusters) (sector_of image) → MembersAre (base_of f lies g clusters) w
    → HasWindow changes f w → MayLeaveNow count changes image → RecoversToState f.place (base_of f lies g clusters) w (sector_of image)
now_to_state count changes f lies g clusters w image inside few bears are has may =
    let length_is = counted count changes f w image has may in
    to_state f.place (base_of f lies g clusters) w image inside (omega (arith, few, length_is)) bears are (at_return count changes f w image has may)

pub during_to_state : (count moment : ℕ) (old now : Changes) (f : StoreFacts) (lies : Content) (g : Geometry) (clusters : ℕ) (w v : StoreWindow) (t : ℕ) (image : List (List ℕ)) → f.place.clusters ≤ 2 ^ 59 → length image ≤ 2 ^ 62 → BearsFound (base_of f lies g clusters) (sector_of image) → MembersAre (base_of f lies g clusters) w
    → MembersAre (base_of f lies g clusters) v → During count moment old now f w v → t ≤ moment → LeftSince count now t image
    → LeftSince count old t image ⊎ (RecoversToState f.place (base_of f lies g clusters) w (sector_of image) ⊎ RecoversToState f.place (base_of f lies g clusters) v (sector_of image))
during_to_state count moment old now f lies g clusters w v t image inside few bears are will during before left = by (during t image before left)
  where
    by : LeftSince count old t image ⊎ (RecoversWithin f.place (own_of f) w (sector_of image) ⊎ RecoversWithin f.place (own_of f) v (sector_of image))
        → LeftSince count old t image ⊎ (RecoversToState f.place (base_of f lies g clusters) w (sector_of image) ⊎ RecoversToState f.place (base_of f lies g clusters) v (sector_of image))
    by (inl was) = inl was
    by (inr (inl r)) = inr (inl (to_state f.place (base_of f lies g clusters) w image inside few bears are r))
    by (inr (inr r)) = inr (inr (to_state f.place (base_of f lies g clusters) v image inside few bears will r))
