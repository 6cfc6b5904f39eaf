-- What a store shows that was mounted where a volume was: the state of the volume.
use Rattle.std.proofs.Common.{◌≡◌, ℕ, ◌^◌, ◌≤◌, Bool, true, false, ◌||◌, List, [], ◌∷◌, length, map, Option, Some, None, Ok, refl, sym, ap, subst, ◌∙◌, inl, inr, arith}
use mathlib.Core.Path.{fun_ext}
use Rattle.std.specs.Prelude.{◌⊎◌, IfSome, unwrap_or}
use Rattle.std.specs.List.{list_any, range_with_len}
use Rattle.std.proofs.lemmas.Bool.{or_cases}
use Rattle.disk_model.specs.declared.block.Block.{Block}
use Rattle.disk_model.specs.declared.block.Body.{Body}
use Rattle.disk_model.specs.Sectors.{sector_of, same_block, overlap}
use Rattle.disk_model.specs.Content.{Content, HasSizes, content_of}
use Rattle.disk_model.proofs.Frames.{same_block-is}
use Rattle.sector_device.specs.Disks.{Disk, IsSettled, SeesDisk, seen}
use Rattle.sector_device.specs.Moments.{Changes}
use Rattle.device_view.specs.Sizes.{sized_sectors}
use Rattle.volume_model.specs.Volumes.{Volume, count_of, record_bits, cluster_bits}
use Rattle.volume_model.specs.Indexes.{void_block}
use Rattle.safe_blocks.specs.volume_map.declared.head.Head.{Head}
use Rattle.safe_blocks.specs.volume_map.Heads.{head_of, head_at, heads_of}
use Rattle.safe_blocks.specs.map_change.Parts.{MapParts}
use Rattle.stream_laws.proofs.Changing.{itself}
use Rattle.safe_blocks.specs.plan_owners.States.{Stands}
use Rattle.safe_blocks.specs.plan_owners.Agreeing.{IsJudged}
use Rattle.safe_blocks.specs.state_blocks.Needing.{IsNeeded, AgreeOnNeeded, NeededIsAll}
use Rattle.safe_blocks.proofs.state_blocks.Needing.{listed_judged}
use Rattle.log_model.specs.Logs.{is_shadowed, recovered}
use Rattle.log_page.specs.declared.places.LogPlace.{LogPlace}
use Rattle.log_recovery.specs.Own.{is_in_log}
use Rattle.log_recovery.specs.Own.{is_own as is_own_block}
use Rattle.log_recovery.specs.Writing.{to_write_in}
use Rattle.safe_blocks.specs.image_open.Writing.{found_by}
use Rattle.safe_blocks.proofs.image_open.Alike.{to_write_alike}
use Rattle.safe_blocks.specs.volume_mount.Mounts.{MountedVolume, mounted_in}
use Rattle.store_model.specs.Geometry.{SectorBytes}
use Rattle.store_model.specs.Volumes.{is_known}
use Rattle.txn_model.specs.Values.{StoreFacts, is_own, own_of}
use Rattle.safe_blocks.specs.txn_laws.Laws.{WindowsTell}
use Rattle.safe_blocks.specs.txn_laws.Mounting.{HasMounted}
use Rattle.safe_blocks.specs.txn_laws.Windows.{IsShown}
use Rattle.safe_blocks.specs.txn_core.Views.{present_on}
use Rattle.stays_at_mount.specs.txn_mount.Contents.{mounted_content, ReadsLog}
use Rattle.stays_at_mount.specs.txn_mount.Mounts.{ReadsOn}
use Rattle.stays_at_mount.proofs.txn_mount.Reading.{read_log}
use Rattle.safe_blocks.proofs.spares_at_mount.Mounting.{judged_apart}
use Rattle.safe_blocks.proofs.member_states.Recovering.{void_is}
use Rattle.resting_states.proofs.Finding.{found_body}
use Rattle.safe_blocks.specs.Safe.{SuitsStore, NeededAreSafe, IsStoreOf, MountsHoldStates}
use Rattle.mounted_states.specs.Shown.{AreBothMounted, ShowsMounted, StoresShowMounted}
use Rattle.mounted_states.proofs.Opened.{MountedBy, mounted_parts, on_sectors}
use Rattle.mounted_states.proofs.Placed.{void_unwritten}
use Rattle.mounted_states.proofs.Bodies.{IsAlike, own_same, unwritten_same, mounted_alike, live_clear}

-- ---- a block by which a log is found is one of the log's own

any_own : (b : Block) (found : List Block) → list_any (same_block b) found ≡ true → list_any (overlap b) found ≡ true
any_own b [] some = absurd cc
any_own b (y ∷ found) some = elim (or_cases (same_block b y) (list_any (same_block b) found) some) [
  | inl same ↦ ap (λ (t : Bool). t || list_any (overlap b) found) (ap (overlap b) (sym (same_block-is b y same)) ∙ itself b)
  | inr rest ↦ ap (λ (t : Bool). overlap b y || t) (any_own b found rest) ∙ or_later (overlap b y)
]
  where
    or_later : (t : Bool) → (t || true) ≡ true
    or_later true = refl
    or_later false = refl

found_own : (place : LogPlace) (found : List Block) (b : Block) → list_any (same_block b) found ≡ true → is_own_block place found b ≡ true
found_own place found b some = ap (λ (t : Bool). is_in_log place b || t) (any_own b found some) ∙ or_later (is_in_log place b)
  where
    or_later : (t : Bool) → (t || true) ≡ true
    or_later true = refl
    or_later false = refl

-- ---- maps of one volume

parts_with : Volume → List Head → List Bool → List Bool → MapParts
parts_with v heads records clusters = record { volume = v; heads = heads; records = records; clusters = clusters }

parts_alike : (v : Volume) (h k : List Head) (r s : List Bool) (a b : List Bool) → h ≡ k → r ≡ s → a ≡ b → parts_with v h r a ≡ parts_with v k s b
parts_alike v h k r s a b heads records clusters = ap (λ (x : List Head). parts_with v x r a) heads ∙ ap (λ (x : List Bool). parts_with v k x a) records ∙ ap (λ (x : List Bool). parts_with v k s x) clusters

module _ (mounts : MountsHoldStates) (safe : NeededAreSafe) (all : NeededIsAll) (tells : WindowsTell) (count : ℕ) (first disk : List (List ℕ)) (m : MountedVolume) (old now : Changes) (f : StoreFacts) (x : AreBothMounted count first disk m old now f) where
  abbrev c : Content
  c = content_of (sector_of first)

  abbrev d : Content
  d = present_on disk f

  is : mounted_in (content_of (sector_of first)) (length first) ≡ Ok m
  is = on_sectors first m x.mounted

  parts : MountedBy (content_of (sector_of first)) m
  parts = mounted_parts (content_of (sector_of first)) (length first) m is

  store : IsStoreOf f m
  store = record { place = x.alike; found = x.found; small = x.small }

  stands_first : Stands m.content m.opened.geometry m.opened.total m.volume
  stands_first = mounts.stands c (length first) m f is store

  suits : SuitsStore m.content m.opened.geometry m.opened.total f.place m.volume
  suits = mounts.suits c (length first) m f m.content is store stands_first

  sized : HasSizes (content_of (sector_of first))
  sized = sized_sectors (Some first) count x.whole

  read : to_write_in (content_of (sector_of first)) f.place f.found ≡ Ok m.opened.state
  read = ap (to_write_in c f.place) x.found ∙ to_write_alike c f.place m.opened.place x.alike (found_by m.opened.geometry) ∙ parts.read

  log : ReadsLog (content_of (sector_of first)) f.place f.found m.opened.state
  log = read_log c f.place f.found m.opened.state read

  -- ---- what the mount of the store shows

  module _ (raw : Disk) (known : old.disk ≡ Some raw) where
    saw : sector_of first ≡ seen raw
    saw = fun_ext (subst (λ (o : Option Disk). SeesDisk (Some first) o) known x.before)

    on : ReadsOn f.place f.found m.opened.state old raw
    on = record { known = known; read = ap (λ (at : SectorBytes). to_write_in (content_of at) f.place f.found) (sym saw) ∙ read }

    shows_raw : HasMounted now f m.opened.state.log (mounted_content (content_of (seen raw)) m.opened.state.log)
    shows_raw = x.shows raw m.opened.state on (subst (λ (o : Option Disk). IfSome o IsSettled) known x.settled)

    shows_then : HasMounted now f m.opened.state.log (mounted_content (content_of (sector_of first)) m.opened.state.log)
    shows_then = subst (λ (at : SectorBytes). HasMounted now f m.opened.state.log (mounted_content (content_of at) m.opened.state.log)) (sym saw) shows_raw

  shows : HasMounted now f m.opened.state.log (mounted_content (content_of (sector_of first)) m.opened.state.log)
  shows = by old.disk refl x.before
    where
      by : (o : Option Disk) → old.disk ≡ o → SeesDisk (Some first) o → HasMounted now f m.opened.state.log (mounted_content (content_of (sector_of first)) m.opened.state.log)
      by (Some raw) known sees = shows_then raw known
      by None known sees = absurd sees

  -- ---- block by block

  judged_of : (b : Block) → IsNeeded m.content m.volume b → IsJudged m.volume b
  judged_of b (inl judged) = judged
  judged_of b (inr listed) = listed_judged m.content m.volume b listed (suits.lists listed.number listed.file listed.is_file)

  claimed : (b : Block) → IsNeeded m.content m.volume b → is_shadowed m.opened.state.log b ≡ false
  claimed b needed =
      let judged = judged_of b needed in
      let apart = judged_apart m.content m.opened.geometry m.opened.total m.volume b suits.eight stands_first judged in
      live_clear m.opened.state.log m.volume b parts.clear judged.live apart.grid

  known_body : (b : Block) → IsNeeded m.content m.volume b → is_known (own_of f) b ≡ true → IsAlike (recovered c m.opened.state.log b) (d b)
  known_body b needed own =
      let shown : IsShown shows.window b (d b) = tells.present now f shows.window (Some disk) shows.has x.after b own in
      let mounted = shows.present b own (claimed b needed) in
      mounted_alike c m.opened.state.log b (d b) (x.untorn b needed) (shown.bytes ∙ mounted.0, λ torn. mounted.1 (shown.torn torn))

  found_same : (b : Block) → IsNeeded m.content m.volume b → list_any (same_block b) f.found ≡ true → IsAlike (recovered c m.opened.state.log b) (d b)
  found_same b needed found =
      let here : d b ≡ c b = found_body now f (sector_of first) disk shows.window shows.has x.after x.stays b found in
      let same : recovered c m.opened.state.log b ≡ c b = own_same c f.place f.found m.opened.state sized read b (found_own f.place f.found b found) (x.untorn b needed) in
      subst (λ (y : Body). IsAlike y (d b)) (sym same) (subst (IsAlike (c b)) (sym here) (refl, λ torn. torn))

  body : (b : Block) → IsNeeded m.content m.volume b → IsAlike (m.content b) (d b)
  body b needed =
      let either = safe.known m.content m.opened.geometry m.opened.total f.place m.volume b suits needed in
      subst (λ (y : Content). IsAlike (y b) (d b)) (sym parts.content) (by (subst (λ (l : List Block). (is_known (is_own f.place l) b ≡ true) ⊎ (list_any (same_block b) l ≡ true)) (sym x.found) either))
    where
      by : (is_known (own_of f) b ≡ true) ⊎ (list_any (same_block b) f.found ≡ true) → IsAlike (recovered c m.opened.state.log b) (d b)
      by (inl own) = known_body b needed own
      by (inr found) = found_same b needed found

  -- ---- the block past the end of every disk

  no_body : (b : Block) → f.body b ≡ None
  no_body b = ap (λ (h : StoreFacts). h.body b) x.facts

  pub read_is : present_on disk f ≡ content_of (sector_of disk)
  read_is = fun_ext (λ b. ap (λ (o : Option Body). unwrap_or o (content_of (sector_of disk) b)) (no_body b))

  short : (image : List (List ℕ)) → length image ≡ count → length image ≤ 2 ^ 62
  short image long = (let few = x.few in omega (arith, few, long))

  void : d void_block ≡ m.content void_block
  void =
      let inside = x.inside in
      let few = x.few in
      let unwritten = void_unwritten c f.place m.opened.state.log log.front.chosen (omega (arith, inside, few)) log.entries in
      ap (λ (y : Content). y void_block) read_is
      ∙ void_is disk (short disk x.given.counted)
      ∙ sym (void_is first (short first x.whole.counted))
      ∙ sym (unwritten_same c f.place f.found m.opened.state sized read void_block unwritten)
      ∙ sym (ap (λ (y : Content). y void_block) parts.content)

  -- ---- the whole

  agrees : AgreeOnNeeded m.content (present_on disk f) m.volume
  agrees = record { bodies = body; void = void }

  heads : heads_of d m.volume ≡ heads_of m.content m.volume
  unfolding heads_of head_at
  heads = ap (λ (h : ℕ → Head). map h (range_with_len 0 (count_of m.volume))) (fun_ext (λ n. ap head_of (all.bytes m.content d m.opened.geometry m.opened.total m.volume n stands_first agrees)))

  pub shows_mounted : ShowsMounted m (present_on disk f)
  unfolding parts_with
  shows_mounted = record {
    agrees = agrees;
    stands = all.stands m.content d m.opened.geometry m.opened.total m.volume stands_first agrees;
    tree = all.tree m.content d m.opened.geometry m.opened.total m.volume stands_first agrees;
    upper = all.upper m.content d m.volume agrees;
    map = parts_alike m.volume (heads_of d m.volume) (heads_of m.content m.volume) (record_bits d m.volume) (record_bits m.content m.volume) (cluster_bits d m.volume) (cluster_bits m.content m.volume) heads (all.records m.content d m.volume agrees) (all.clusters m.content d m.volume agrees);
  }

pub all_show : MountsHoldStates → NeededAreSafe → NeededIsAll → WindowsTell → StoresShowMounted
all_show mounts safe all tells count first disk m old now f x = shows_mounted mounts safe all tells count first disk m old now f x
