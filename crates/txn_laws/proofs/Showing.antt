-- What a window shows: the present bodies, and the laps that an image says.
use Rattle.std.proofs.Common.{◌≡◌, subst, ℕ, ◌+◌, ◌-◌, ◌/◌, ◌≤◌, true, Bool, List, Option, Some, None, refl, sym, ap₂, arith}
use Rattle.std.specs.Prelude.{IfSome, unwrap_or}
use mathlib.Core.Path.{fun_ext}
use Rattle.area_laws.specs.disk_model.declared.block.Block.{Block}
use Rattle.area_laws.specs.disk_model.Sectors.{sector_of}
use Rattle.area_laws.specs.disk_model.Content.{content_of}
use Rattle.area_laws.specs.sector_device.Disks.{Disk, MayLeave, SeesDisk, seen}
use Rattle.area_laws.specs.sector_device.Moments.{Changes, MayLeaveNow}
use Rattle.area_laws.specs.log_page.Places.{lap_of}
use Rattle.area_laws.specs.log_page.LiveLogs.{said_lsn}
use Rattle.area_laws.specs.log_area.Areas.{lap_at}
use Rattle.store_claims.specs.store_model.Geometry.{SectorBytes}
use Rattle.store_claims.specs.store_model.Stores.{Store}
use Rattle.store_claims.specs.store_model.Volumes.{is_known}
use Rattle.store_claims.specs.Windows.{StoreWindow, store_window}
use Rattle.area_laws.specs.ring_laws.Numbers.{IsInRing, lap_of_page}
use Rattle.area_laws.specs.ring_laws.PageBytes.{raw_page}
use Rattle.area_laws.proofs.ring_laws.RingFacts.{laps_climb}
use Rattle.area_laws.proofs.ring_laws.RingReads.{laps_said}
use Rattle.txn_model.specs.Values.{StoreFacts, own_of}
use Rattle.txn_laws.specs.Standing.{StandsBehindAs, session_of}
use Rattle.txn_laws.specs.Windows.{HasWindowAs, IsShown}
use Rattle.txn_laws.proofs.Changes.{is_present}
use Rattle.txn_laws.proofs.Laps.{sent_below}

shown_of : {ends : Bool} (f : StoreFacts) (disk : Disk) (m : Store) → StandsBehindAs ends f disk m → (b : Block) → is_known (own_of f) b ≡ true → IsShown (store_window m) b (unwrap_or (f.body b) (content_of (seen disk) b))
shown_of f disk m h b known = let x = is_present f disk m h b (unwrap_or (f.body b) (content_of (seen disk) b)) known refl in record { bytes = x.bytes; torn = x.torn }

pub present_shown : {ends : Bool} (changes : Changes) (f : StoreFacts) (w : StoreWindow) (gives : Option (List (List ℕ))) → HasWindowAs ends changes f w → SeesDisk gives changes.disk → (b : Block) → is_known (own_of f) b ≡ true
    → IfSome gives (λ disk. IsShown w b (unwrap_or (f.body b) (content_of (sector_of disk) b)))
present_shown changes f w None has sees b known = tt
present_shown changes f w (Some d) has sees b known =
    let same : sector_of d ≡ seen has.0 = fun_ext (subst (λ (o : Option Disk). SeesDisk (Some d) o) has.1 sees) in
    subst (λ (at : SectorBytes). IsShown w b (unwrap_or (f.body b) (content_of at b))) (sym same)
    (subst (λ (v : StoreWindow). IsShown v b (unwrap_or (f.body b) (content_of (seen has.0) b))) has.4 (shown_of f has.0 has.2 has.3 b known))

-- no image says a lap above that of the page that is filled
pub laps_shown : {ends : Bool} (count : ℕ) (changes : Changes) (f : StoreFacts) (w : StoreWindow) (image : List (List ℕ)) → HasWindowAs ends changes f w → MayLeaveNow count changes image
    → (k lsn : ℕ) → IsInRing f.place k → said_lsn (raw_page f.place (sector_of image) k) ≡ Some lsn → lap_of f.place.pages lsn ≤ lap_at f.log f.log.sealed
laps_shown count changes f w image has left k lsn inside said =
    let may : MayLeave count has.0 image = subst (λ (o : Option Disk). IfSome o (λ d. MayLeave count d image)) has.1 left in
    let h = has.3 in
    let s = session_of f h.lap in
    let ring = h.stands.ring.ring in
    let low = laps_said s h.ring f.log.check h.pages has.0 ring (sector_of image) may.each k lsn inside said in
    let sent : h.ring.sent ≤ f.log.sealed = sent_below f has.0 has.2 h f.log.check refl in
    let climb = laps_climb s ring.lies h.ring.sent f.log.sealed sent in
    let same : lap_of_page s f.log.sealed ≡ lap_at f.log f.log.sealed = ap₂ (λ (p : ℕ) (l : ℕ). l + f.log.sealed / (p - 4)) (sym h.stands.ring.session.pages) (sym h.stands.ring.session.lap) in
    omega (arith, low, climb, same)
