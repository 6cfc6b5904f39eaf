-- What recovery makes of an image that a stopped start left agrees with what it makes of the first sectors.
use Rattle.std.proofs.Common.{◌≡◌, ℕ, suc, ◌^◌, ◌≤◌, Bool, true, false, ◌||◌, List, [], ◌∷◌, length, Some, Result, Ok, refl, sym, ap, subst, ◌∙◌, inl, inr, arith}
use Rattle.std.specs.Prelude.{◌⊎◌, if◌then◌else◌}
use Rattle.std.specs.List.{list_any}
use Rattle.std.proofs.lemmas.Bool.{or_cases}
use Rattle.std.proofs.lemmas.List.Elements.{All-nil}
use Rattle.disk_model.specs.declared.block.Block.{Block}
use Rattle.disk_model.specs.declared.block.Body.{Body}
use Rattle.disk_model.specs.Sectors.{sector_of, same_block, overlap}
use Rattle.disk_model.specs.Content.{Content, HasSizes, content_of}
use Rattle.disk_model.specs.Writes.{overlay}
use Rattle.disk_model.proofs.Frames.{same_block-is}
use Rattle.device_view.specs.Sizes.{sized_sectors}
use Rattle.volume_model.specs.Indexes.{void_block}
use Rattle.stream_laws.proofs.Changing.{itself}
use Rattle.log_model.specs.declared.entry.Entry.{Entry}
use Rattle.log_model.specs.Logs.{IsLevel, is_shadowed, is_written_out, recovery_of, recovered}
use Rattle.log_page.specs.declared.places.LogPlace.{LogPlace}
use Rattle.log_area.specs.Areas.{new_area}
use Rattle.log_reading.specs.declared.fault.LogRefusal.{LogRefusal}
use Rattle.log_reading.specs.declared.front.RestartFront.{RestartFront}
use Rattle.log_recovery.specs.LogStates.{LogState, live_entries_in}
use Rattle.log_recovery.specs.Own.{is_in_log}
use Rattle.log_recovery.specs.Own.{is_own as is_own_block}
use Rattle.log_recovery.specs.Writing.{to_write_in}
use Rattle.log_recovery.proofs.Ending.{not_written}
use Rattle.safe_blocks.specs.image_open.Writing.{found_by}
use Rattle.safe_blocks.proofs.image_open.Alike.{to_write_alike}
use Rattle.safe_blocks.specs.plan_owners.Agreeing.{IsJudged}
use Rattle.safe_blocks.specs.plan_owners.States.{Stands}
use Rattle.safe_blocks.specs.state_blocks.Needing.{IsNeeded, AgreeOnNeeded}
use Rattle.safe_blocks.proofs.state_blocks.Needing.{listed_judged}
use Rattle.safe_blocks.specs.volume_mount.Mounts.{MountedVolume, mounted_in}
use Rattle.safe_blocks.proofs.spares_at_mount.Mounting.{judged_apart}
use Rattle.safe_blocks.specs.Safe.{SuitsStore, NeededAreSafe, IsStoreOf, MountsHoldStates}
use Rattle.store_model.specs.Volumes.{is_known}
use Rattle.txn_model.specs.Calls.{first_facts}
use Rattle.txn_model.specs.Values.{StoreFacts, is_own}
use Rattle.txn_mount.specs.Contents.{mounted_content, stays_torn, ReadsLog}
use Rattle.txn_mount.specs.Mountable.{IsMountable, StoppedMountsMount}
use Rattle.txn_mount.proofs.Reading.{read_log}
use Rattle.member_states.proofs.Recovering.{void_is}
use Rattle.mounted_states.proofs.Opened.{MountedBy, mounted_parts, on_sectors}
use Rattle.mounted_states.proofs.Placed.{void_unwritten}
use Rattle.mounted_states.proofs.Bodies.{IsAlike, own_same, unwritten_same, mounted_alike, live_clear}
use Rattle.start_mounts.specs.Stopped.{IsLeftInStart}

or_true : (t : Bool) → (t || true) ≡ true
or_true true = refl
or_true false = refl

or_first : (t u : Bool) → t ≡ true → (t || u) ≡ true
or_first true u is = refl
or_first false u is = absurd cc

-- ---- a block by which a log is found is one of the log's own

any_own : (b : Block) (found : List Block) → list_any (same_block b) found ≡ true → list_any (overlap b) found ≡ true
any_own b [] some = absurd cc
any_own b (y ∷ found) some = elim (or_cases (same_block b y) (list_any (same_block b) found) some) [
  | inl same ↦ ap (λ (t : Bool). t || list_any (overlap b) found) (ap (overlap b) (sym (same_block-is b y same)) ∙ itself b)
  | inr rest ↦ ap (λ (t : Bool). overlap b y || t) (any_own b found rest) ∙ or_true (overlap b y)
]

found_own : (place : LogPlace) (found : List Block) (b : Block) → list_any (same_block b) found ≡ true → is_own_block place found b ≡ true
found_own place found b some = ap (λ (t : Bool). is_in_log place b || t) (any_own b found some) ∙ or_true (is_in_log place b)

-- ---- recovery, block by block

-- what it makes of a block depends on this block alone
recovered_alike : (c d : Content) (log : List Entry) (b : Block) → d b ≡ c b → recovered d log b ≡ recovered c log b
unfolding recovered
recovered_alike c d log b same = ap (λ (y : Body). if is_shadowed log b then y else overlay (λ x. y) (recovery_of log) b) same

-- without entries it leaves each block
none_written : (c : Content) (b : Block) → is_written_out c [] b ≡ false
unfolding is_written_out
none_written c b = refl

none_recovers : (c : Content) (b : Block) → HasSizes c → recovered c [] b ≡ c b
none_recovers c b sized = not_written c [] b sized (All-nil IsLevel) (none_written c b)

same_front : (x y : RestartFront) → ◌≡◌ {A = Result RestartFront LogRefusal} (Ok x) (Ok y) → x ≡ y
same_front x y is = cc

same_entries : (x y : List Entry) → ◌≡◌ {A = Result (List Entry) LogRefusal} (Ok x) (Ok y) → x ≡ y
same_entries x y is = cc

module _ (mounts : MountsHoldStates) (safe : NeededAreSafe) (mountable : StoppedMountsMount) (first image : List (List ℕ)) (m : MountedVolume) (place : LogPlace) (x : IsLeftInStart first image m place) where
  abbrev c : Content
  c = content_of (sector_of first)

  abbrev d : Content
  d = content_of (sector_of image)

  abbrev kept : List Block
  kept = found_by m.opened.geometry

  abbrev list : List Entry
  list = m.opened.state.log

  -- ---- the first mount

  is : mounted_in (content_of (sector_of first)) (length first) ≡ Ok m
  is = on_sectors first m x.mounted

  pub parts : MountedBy (content_of (sector_of first)) m
  parts = mounted_parts (content_of (sector_of first)) (length first) m is

  -- a store with its log there
  abbrev f : StoreFacts
  f = first_facts place (new_area place 0 0 0) (found_by m.opened.geometry)

  store : IsStoreOf f m
  store = record { place = x.alike; found = refl; small = x.ring.small }

  pub stands_first : Stands m.content m.opened.geometry m.opened.total m.volume
  stands_first = mounts.stands c (length first) m f is store

  suits : SuitsStore m.content m.opened.geometry m.opened.total place m.volume
  suits = mounts.suits c (length first) m f m.content is store stands_first

  sized : HasSizes (content_of (sector_of first))
  sized = sized_sectors (Some first) (length first) (record { counted = refl; whole = x.whole })

  read : to_write_in (content_of (sector_of first)) place (found_by m.opened.geometry) ≡ Ok m.opened.state
  read = to_write_alike c place m.opened.place x.alike (found_by m.opened.geometry) ∙ parts.read

  log : ReadsLog (content_of (sector_of first)) place (found_by m.opened.geometry) m.opened.state
  log = read_log c place kept m.opened.state read

  -- ---- what a mount reads of the image

  mounts_again : IsMountable place (found_by m.opened.geometry) (suc m.opened.state.next_lap) (sector_of image)
  mounts_again = mountable place kept list (mounted_content c list) m.opened.state.next_lap (sector_of image) x.ring x.recovers x.updates x.far

  -- what the log of it says
  pub found : LogState
  found = mounts_again.state

  pub found_is : to_write_in (content_of (sector_of image)) place (found_by m.opened.geometry) ≡ Ok found
  unfolding found
  found_is = mounts_again.read

  again : ReadsLog (content_of (sector_of image)) place (found_by m.opened.geometry) found
  again = read_log d place kept found found_is

  front_is : again.front ≡ x.recovers.front
  front_is = same_front again.front x.recovers.front (sym again.fronted ∙ x.recovers.fronted)

  entries_are : found.log ≡ x.recovers.entries
  entries_are = same_entries found.log x.recovers.entries (sym again.entries ∙ ap (λ (r : RestartFront). live_entries_in d place r.chosen) front_is ∙ x.recovers.reads)

  -- these are the first mount's, or none
  pub log_is : (found.log ≡ m.opened.state.log) ⊎ (found.log ≡ [])
  log_is = by x.recovers.same
    where
      by : (x.recovers.entries ≡ list) ⊎ (x.recovers.entries ≡ []) → (found.log ≡ list) ⊎ (found.log ≡ [])
      by (inl same) = inl (entries_are ∙ same)
      by (inr none) = inr (entries_are ∙ none)

  -- ---- block by block

  -- a block that is as it was, and that recovery left, is left again
  left_alike : (b : Block) → content_of (sector_of image) b ≡ content_of (sector_of first) b → recovered (content_of (sector_of first)) m.opened.state.log b ≡ content_of (sector_of first) b
      → recovered (content_of (sector_of image)) found.log b ≡ recovered (content_of (sector_of first)) m.opened.state.log b
  left_alike b same left = by log_is
    where
      by : (found.log ≡ list) ⊎ (found.log ≡ []) → recovered d found.log b ≡ recovered c list b
      by (inl all) = ap (λ (l : List Entry). recovered d l b) all ∙ recovered_alike c d list b same
      by (inr none) = ap (λ (l : List Entry). recovered d l b) none ∙ recovered_alike c d [] b same ∙ none_recovers c b sized ∙ sym left

  judged_of : (b : Block) → IsNeeded m.content m.volume b → IsJudged m.volume b
  judged_of b (inl judged) = judged
  judged_of b (inr listed) = listed_judged m.content m.volume b listed (suits.lists listed.number listed.file listed.is_file)

  claimed : (b : Block) → IsNeeded m.content m.volume b → is_shadowed m.opened.state.log b ≡ false
  claimed b needed =
      let judged = judged_of b needed in
      let apart = judged_apart m.content m.opened.geometry m.opened.total m.volume b suits.eight stands_first judged in
      live_clear m.opened.state.log m.volume b parts.clear judged.live apart.grid

  known_body : (b : Block) → IsNeeded m.content m.volume b → is_known (is_own place (found_by m.opened.geometry)) b ≡ true → IsAlike (recovered c m.opened.state.log b) (recovered d found.log b)
  known_body b needed own =
      let as_first = x.recovers.recovers b own (claimed b needed) in
      let alike : IsAlike (mounted_content c list b) (recovered d x.recovers.entries b) =
      (as_first.bytes, λ torn. as_first.torn (or_first (recovered d x.recovers.entries b).torn (stays_torn d x.recovers.entries b) torn))
      in
      subst (λ (l : List Entry). IsAlike (recovered c m.opened.state.log b) (recovered d l b)) (sym entries_are) (mounted_alike c list b (recovered d x.recovers.entries b) (x.untorn b needed) alike)

  found_body : (b : Block) → IsNeeded m.content m.volume b → list_any (same_block b) (found_by m.opened.geometry) ≡ true → IsAlike (recovered c m.opened.state.log b) (recovered d found.log b)
  found_body b needed some =
      let left : recovered c m.opened.state.log b ≡ c b = own_same c place kept m.opened.state sized read b (found_own place kept b some) (x.untorn b needed) in
      subst (IsAlike (recovered c m.opened.state.log b)) (sym (left_alike b (x.bears b some) left)) (refl, λ torn. torn)

  body : (b : Block) → IsNeeded m.content m.volume b → IsAlike (m.content b) (recovered d found.log b)
  body b needed = subst (λ (y : Content). IsAlike (y b) (recovered d found.log b)) (sym parts.content) (by (safe.known m.content m.opened.geometry m.opened.total place m.volume b suits needed))
    where
      by : (is_known (is_own place (found_by m.opened.geometry)) b ≡ true) ⊎ (list_any (same_block b) (found_by m.opened.geometry) ≡ true) → IsAlike (recovered c m.opened.state.log b) (recovered d found.log b)
      by (inl own) = known_body b needed own
      by (inr some) = found_body b needed some

  -- ---- the block past the end of every disk

  inside : place.clusters ≤ 2 ^ 59
  inside =
      let few : m.opened.total ≤ 16777216 = parts.few in
      let same = parts.clusters in
      let alike = x.alike.clusters in
      omega (arith, few, same, alike)

  short : length first ≤ 2 ^ 62
  short = (let near = x.near in let long = x.long in omega (arith, near, long))

  void_left : recovered (content_of (sector_of first)) m.opened.state.log void_block ≡ content_of (sector_of first) void_block
  void_left = unwritten_same c place kept m.opened.state sized read void_block (void_unwritten c place list log.front.chosen inside log.entries)

  void : recovered d found.log void_block ≡ m.content void_block
  void = left_alike void_block (void_is image x.near ∙ sym (void_is first short)) void_left ∙ sym (ap (λ (y : Content). y void_block) parts.content)

  -- ---- the whole

  pub agrees : AgreeOnNeeded m.content (recovered (content_of (sector_of image)) found.log) m.volume
  agrees = record { bodies = body; void = void }
