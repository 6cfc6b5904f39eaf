-- What stands of a store's log so that no mount refuses it: whose the restart pages are, and where the updates lie.
use Rattle.std.proofs.Common.{◌≡◌, ◌≢◌, subst, ℕ, suc, ◌+◌, ◌*◌, ◌/◌, ◌<◌, Bool, true, false, cond, List, [], ◌∷◌, length, map, Option, Some, None, refl, sym, ap, ap₂, ◌∙◌, arith}
use Rattle.std.specs.Prelude.{◌||◌, find, IfSome, option_map}
use Rattle.std.specs.List.{AllByRecursion}
use Rattle.std.proofs.lemmas.Bool.{lt-leb, le-ltb}
use Rattle.area_laws.specs.disk_model.declared.block.Block.{Block}
use Rattle.area_laws.specs.disk_model.declared.block.BlockKind.{BlockKind}
use Rattle.area_laws.specs.disk_model.Bytes.{part}
use Rattle.area_laws.specs.disk_model.Sectors.{sectors}
use Rattle.txn_model.specs.block_pool.Numbers.{kind_number}
use Rattle.area_laws.specs.log_model.declared.entry.Entry.{Entry}
use Rattle.area_laws.specs.log_model.declared.entry.Act.TheVariants.{Commit}
use Rattle.area_laws.specs.log_model.Logs.{kind_of, is_misplaced, first_misplaced}
use Rattle.area_laws.specs.log_page.declared.restart.Restart.{Restart}
use Rattle.area_laws.specs.log_page.Restarts.{FitsRestart}
use Rattle.area_laws.specs.log_area.declared.restart.SentRestart.{SentRestart}
use Rattle.area_laws.specs.log_area.Areas.{LogAreaOf, IsLogArea, IsSpelled, appended, naming_page, page_to_send}
use Rattle.store_claims.specs.store_model.Rings.{PagePlaces, Restarts, AreRestarts, synced_places}
use Rattle.store_claims.proofs.store_model.Told.{true≢false}
use Rattle.area_laws.specs.ring_laws.RestartPages.{RestartFields, restart_written, restart_sent, restart_synced}
use Rattle.txn_model.specs.Pieces.{Piece, update_of_piece, next_entry, entries_of}
use Rattle.txn_laws.specs.Standing.{AreOwnPages, ArePlaced}
use Rattle.txn_laws.proofs.Cutting.{IsPiece, length-part, same_kind_of}

-- ---- restart pages

module _ (q : Restarts) (places : PagePlaces) (fields told : RestartFields) (page : Restart) (own : AreOwnPages q fields) (said : told (suc q.sure) ≡ Some page) (others : (i : ℕ) → i ≢ suc q.sure → told i ≡ fields i) (fits : FitsRestart page) where
  sure_now : IfSome (told q.sure) FitsRestart
  sure_now = subst (λ (o : Option Restart). IfSome o FitsRestart) (sym (others q.sure (λ e. omega (arith, e)))) own.sure

  next_now : IfSome (told (suc q.sure)) FitsRestart
  next_now = subst (λ (o : Option Restart). IfSome o FitsRestart) (sym said) fits

  pub own_written : AreOwnPages (restart_written q places) told
  own_written = record { sure = sure_now; next = λ begun. next_now }

  pub own_sent : AreOwnPages (restart_sent q places) told
  own_sent = record { sure = sure_now; next = λ begun. next_now }

abbrev moved : Restarts → Bool → Restarts
moved q v = cond v (record q { sure = suc q.sure; begun = false; done = false; places = synced_places q.places }) (record q { places = synced_places q.places })

pub own_synced : (q : Restarts) (fields : RestartFields) → AreRestarts q → AreOwnPages q fields → AreOwnPages (restart_synced q) fields
own_synced q fields are own = by_done q.done refl
  where
    by_done : (v : Bool) → q.done ≡ v → AreOwnPages (moved q q.done) fields
    by_done true is = subst (λ (v : Bool). AreOwnPages (moved q v) fields) (sym is) (record { sure = own.next (are.begun is); next = λ begun. absurd (true≢false (sym begun)) })
    by_done false is = subst (λ (v : Bool). AreOwnPages (moved q v) fields) (sym is) (record { sure = own.sure; next = own.next })

-- the page that goes out is this host's
pub own_to_send : (a : LogAreaOf) (oldest : ℕ) (clean : Bool) → IsLogArea a → FitsRestart (page_to_send a oldest clean)
own_to_send a oldest clean k = by_sent a.sent refl
  where
    by_sent : (o : Option SentRestart) → a.sent ≡ o → FitsRestart (page_to_send a oldest clean)
    by_sent (Some x) is =
        let page : page_to_send a oldest clean ≡ x.page = ap (λ (o : Option SentRestart). page_to_send (record a { sent = o }) oldest clean) is in
        let spelled = subst (λ (o : Option SentRestart). IfSome o IsSpelled) is k.spelled in
        subst FitsRestart (sym page) spelled.0
    by_sent None is =
        let page : page_to_send a oldest clean ≡ naming_page a oldest clean = ap (λ (o : Option SentRestart). page_to_send (record a { sent = o }) oldest clean) is in
        subst FitsRestart (sym page) (record { major = refl; minor = refl; own = refl })

-- ---- entries

pub commit_placed : (clusters : ℕ) → is_misplaced clusters Commit ≡ false
unfolding is_misplaced
commit_placed clusters = refl

module _ (clusters : ℕ) (c : Block) (before after : List ℕ) (n : ℕ) (size_after : length after ≡ n) (size : n ≡ 512 * sectors c.kind) (inside : c.first / 8 < clusters) where
  piece_placed : (p : Piece) → IsPiece 0 n p → is_misplaced clusters (update_of_piece c before after p) ≡ false
  unfolding is_misplaced
  piece_placed p is =
      let count = length-part p.at p.count after (omega (arith, is.high, size_after)) in
      let most : 512 * sectors (kind_of (kind_number c.kind)) ≡ 512 * sectors c.kind = ap (λ (k : BlockKind). 512 * sectors k) (same_kind_of c.kind) in
      ap₂ (λ (u : Bool) (v : Bool). u || v) (lt-leb clusters (c.first / 8) inside)
      (le-ltb (512 * sectors (kind_of (kind_number c.kind))) (p.at + length (part p.at p.count after)) (omega (arith, count, most, size, is.high)))

  pub placed_pieces : (ps : List Piece) → AllByRecursion (IsPiece 0 n) ps → (log : LogAreaOf) (tx last : ℕ) → ArePlaced clusters (entries_of log tx last (map (update_of_piece c before after) ps))
  placed_pieces [] all log tx last = tt
  placed_pieces (p ∷ ps) (is, all) log tx last =
      let e = next_entry log tx last (update_of_piece c before after p) in (piece_placed p is, placed_pieces ps all (appended e log) tx e.lsn)

none_found : (clusters : ℕ) (log : List Entry) → ArePlaced clusters log → find (λ (e : Entry). is_misplaced clusters e.act) log ≡ None
none_found clusters [] all = refl
none_found clusters (e ∷ log) (is, all) = ap (λ (v : Bool). cond v (Some e) (find (λ (x : Entry). is_misplaced clusters x.act) log)) is ∙ none_found clusters log all

pub none_misplaced : (clusters : ℕ) (log : List Entry) → ArePlaced clusters log → first_misplaced log clusters ≡ None
none_misplaced clusters log all = ap (λ (o : Option Entry). option_map (λ (e : Entry). e.lsn) o) (none_found clusters log all)
