-- A session is opened: a restart page that names its first page is written, and synced.
use Rattle.std.proofs.Common.{◌≡◌, subst, ℕ, zero, suc, ◌-◌, false, List, [], drop, Option, Some, Ok, refl, sym, ap, ◌∙◌}
use Rattle.std.specs.Prelude.{IfSome}
use Rattle.std.specs.Option.{option_map}
use Rattle.area_laws.specs.disk_model.declared.block.Block.{Block}
use Rattle.area_laws.specs.sector_device.Disks.{Disk, IsSized, SeesDisk, settled}
use Rattle.area_laws.specs.sector_device.Moments.{Changes}
use Rattle.area_laws.specs.log_model.declared.entry.Entry.{Entry}
use Rattle.area_laws.specs.log_page.declared.places.LogPlace.{LogPlace}
use Rattle.area_laws.specs.log_area.Areas.{LogAreaOf, new_area, number_of, page_to_send, named_area}
use Rattle.store_claims.specs.store_model.Rings.{Ring, Restarts, synced_places}
use Rattle.area_laws.specs.ring_laws.Numbers.{LogSession, lsn_of_page}
use Rattle.area_laws.specs.ring_laws.RestartPages.{RestartFields, restart_written, restart_synced}
use Rattle.area_laws.specs.Standing.{Stands, freed_to}
use Rattle.area_laws.specs.Laws.{IsKnown, SendsRestart, MayName}
use Rattle.area_laws.proofs.Joined.{syncs_all}
use Rattle.area_laws.proofs.Naming.{restart_names}
use Rattle.area_laws.proofs.Reading.{is_first, number_is}
use Rattle.txn_laws.specs.Laws.{SyncsNow, first_lsn, opened_area, StartsOn}
use Rattle.txn_laws.proofs.Starts.{starts_window}
use Rattle.txn_laws.proofs.Telling.{sized_of}
use Rattle.txn_laws.proofs.Mountable.{own_to_send}

drop_none : (k : ℕ) → ◌≡◌ {A = List (List Entry)} (drop k []) []
drop_none zero = refl
drop_none (suc k) = refl

-- the ring of a new session, and that after its first restart page
abbrev first_area : LogPlace → ℕ → ℕ → ℕ → LogAreaOf
first_area place lap restart opens = new_area place lap restart opens

pub opens_log : {D : Type 0} (gives : D → Option (List (List ℕ))) (changes : D → Changes) (moment : D → ℕ) (place : LogPlace) (found : List Block) (lap restart opens : ℕ) (r : Ring) (q : Restarts) (fields : RestartFields) (disk : Disk)
    (word : ℕ) (old mid new : D) → (changes old).disk ≡ Some disk → SeesDisk (gives old) (changes old).disk → IfSome (changes new).disk IsSized
    → Stands (record { place = place; lap = lap }) (new_area place lap restart opens) r q [] fields disk → MayName (new_area place lap restart opens) q fields (first_lsn place lap restart opens) false
    → SendsRestart gives changes moment (new_area place lap restart opens) (first_lsn place lap restart opens) false word (Ok tt) old mid → SyncsNow changes moment (Ok tt) mid new → StartsOn changes place (opened_area place lap restart opens) found new
opens_log gives changes moment place found lap restart opens r q fields disk word old mid new is sees sized stands may sent syncs =
    let s : LogSession = record { place = place; lap = lap } in
    let a = first_area place lap restart opens in
    let oldest = first_lsn place lap restart opens in
    let known : IsKnown gives changes old disk = record { known = is; sees = sees } in
    let named = restart_names gives changes moment s a r q [] fields disk oldest false word old mid known stands may sent in
    let now : (changes new).disk ≡ Some (settled named.disk) = syncs.ok ∙ ap (option_map settled) named.known in
    let ring : Ring = record r { oldest = freed_to (named_area oldest a); synced = r.done; places = synced_places r.places } in
    let alone : Stands s (opened_area place lap restart opens) ring (restart_synced (restart_written q named.places)) [] named.told (settled named.disk)
    = subst (λ (ps : List (List Entry)). Stands s (opened_area place lap restart opens) ring (restart_synced (restart_written q named.places)) ps named.told (settled named.disk)) (drop_none (freed_to (named_area oldest a) - (named_area oldest a).oldest))
    (syncs_all s (named_area oldest a) r (restart_written q named.places) [] named.told named.disk named.stands) in
    let first : oldest ≡ lsn_of_page s 0 = is_first s a r q [] fields disk stands 0 in
    let number : number_of a oldest ≡ 0 = number_is s a r q [] fields disk stands 0 in
    record {
      disk = settled named.disk;
      known = now;
      start = starts_window place (opened_area place lap restart opens) found lap ring (restart_synced (restart_written q named.places)) named.told (settled named.disk)
          (page_to_send a oldest false) alone refl named.said (first ∙ ap (lsn_of_page s) (sym number)) (own_to_send a oldest false stands.ring.area) refl refl (λ n. refl) (sized_of (changes new) (settled named.disk) now sized) (changes new) now;
    }
