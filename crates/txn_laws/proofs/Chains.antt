-- The updates of a change on the pages of a log, one behind the other.
use Rattle.std.proofs.Common.{◌≡◌, ◌≢◌, ◌⊎◌, subst, ℕ, suc, ◌+◌, ◌<◌, ◌≤◌, Bool, true, false, List, [], ◌∷◌, ◌++◌, length, map, get_or, refl, sym, ap, ◌∙◌, inl, inr, arith}
use Rattle.std.specs.Prelude.{◌||◌, slice_set}
use Rattle.std.proofs.lemmas.List.{append-nil, append_assoc, length-set}
use Rattle.area_laws.specs.disk_model.declared.block.Block.{Block}
use Rattle.area_laws.specs.sector_device.Disks.{Disk}
use Rattle.area_laws.specs.log_model.declared.entry.Entry.{Entry}
use Rattle.area_laws.specs.log_model.Logs.{updates}
use Rattle.area_laws.specs.log_area.Areas.{LogAreaOf, place_at, appended, sent_word}
use Rattle.store_claims.specs.store_model.Logs.{has_update}
use Rattle.store_claims.specs.store_model.Stores.{Store}
use Rattle.store_claims.specs.store_model.Rings.{Ring, Restarts, entries_on}
use Rattle.store_claims.proofs.store_model.Told.{or_left, or_right}
use Rattle.area_laws.specs.ring_laws.Numbers.{LogSession, ring_size}
use Rattle.area_laws.specs.ring_laws.RestartPages.{RestartFields}
use Rattle.area_laws.specs.ring_laws.StoreLogs.{HoldsLog}
use Rattle.area_laws.specs.Standing.{Stands, pages_with}
use Rattle.txn_model.specs.Pieces.{Piece, update_of_piece, next_entry, entries_of, log_with, ends_with}
use Rattle.txn_model.specs.Appending.{MayAppendAll}
use Rattle.txn_laws.specs.Standing.{IsKilled, TellsEnds}
use Rattle.txn_laws.proofs.Growing.{Grows, grows_low, grows_all, pages_grow, placed}
use Rattle.txn_laws.proofs.Appended.{still_some, on_page, still_killed, stands_more, holds_more, ends_more, number}

-- The entries stand on the pages, one behind the other.
pub data GrowsBy : List Entry → List (List Entry) → List (List Entry) → Type 0 where
  none : (pages : List (List Entry)) → GrowsBy [] pages pages
  next : (e : Entry) (es : List Entry) (pages mid more : List (List Entry)) → Grows e pages mid → GrowsBy es mid more → GrowsBy (e ∷ es) pages more

pub by_low : (es : List Entry) (pages more : List (List Entry)) → GrowsBy es pages more → length pages ≤ length more
by_low es pages more (none ps) = omega arith
by_low es pages more (next e rest ps mid ms g gs) = omega (arith, grows_low e ps mid g, by_low rest mid ms gs)

pub by_all : (es : List Entry) (pages more : List (List Entry)) → GrowsBy es pages more → entries_on more ≡ entries_on pages ++ es
by_all es pages more (none ps) = sym (append-nil (entries_on ps))
by_all es pages more (next e rest ps mid ms g gs) =
    by_all rest mid ms gs ∙ ap (λ (l : List Entry). l ++ rest) (grows_all e ps mid g) ∙ append_assoc (entries_on ps) (e ∷ []) rest

pub by_some : (es : List Entry) (pages more : List (List Entry)) → GrowsBy es pages more → ((k : ℕ) → k < length pages → get_or pages k [] ≢ []) → (k : ℕ) → k < length more → get_or more k [] ≢ []
by_some es pages more (none ps) some = some
by_some es pages more (next e rest ps mid ms g gs) some = by_some rest mid ms gs (still_some e ps mid g some)

-- an update on a page stood there, or is one of these
pub by_page : (es : List Entry) (pages more : List (List Entry)) → GrowsBy es pages more → (b : Block) (k : ℕ) → k < length more → has_update (get_or more k []) b ≡ true
    → ((k < length pages) × (has_update (get_or pages k []) b ≡ true)) ⊎ (has_update es b ≡ true)
by_page es pages more (none ps) b k lt has = inl (lt, has)
by_page es pages more (next e rest ps mid ms g gs) b k lt has = elim (by_page rest mid ms gs b k lt has) [
  | inl there ↦ elim (on_page e ps mid g b k there.0 there.1) [
    | inl before ↦ inl before
    | inr own ↦ inr (or_first (updates b e.act) (has_update rest b) own.1)
  ]
  | inr behind ↦ inr (or_second (updates b e.act) (has_update rest b) behind)
]
  where
    or_first : (u v : Bool) → u ≡ true → (u || v) ≡ true
    or_first true v is = refl
    or_first false v is = absurd cc

    or_second : (u v : Bool) → v ≡ true → (u || v) ≡ true
    or_second true v is = refl
    or_second false v is = is

pub by_killed : (es : List Entry) (pages more : List (List Entry)) → GrowsBy es pages more → (oldest killed : ℕ) (b : Block) → has_update es b ≡ false → IsKilled pages oldest killed b → IsKilled more oldest killed b
by_killed es pages more (none ps) oldest killed b other x = x
by_killed es pages more (next e rest ps mid ms g gs) oldest killed b other x =
    by_killed rest mid ms gs oldest killed b (or_right (updates b e.act) (has_update rest b) other)
    (still_killed e ps mid g oldest killed b (or_left (updates b e.act) (has_update rest b) other) x)

-- What is left where the updates of these pieces were appended.
pub record Chained (s : LogSession) (r : Ring) (q : Restarts) (fields : RestartFields) (noted : ℕ) (disk : Disk) (m : Store) (pages : List (List Entry)) (a log : LogAreaOf) (es : List Entry) (ends : List ℕ) (total some : ℕ) : Type 0 where
  pub more : List (List Entry)
  pub grows : GrowsBy es pages more
  pub stands : Stands s log r q more fields disk
  pub holds : HoldsLog s (record { ring = r; check = log.check; pages = more; restarts = q; word = sent_word log.sent; fields = fields; noted = noted }) (record m { log = m.log ++ es }) disk
  pub rises : a.sealed ≤ log.sealed
  pub number : 0 < some → log.oldest + length more ≡ suc log.sealed
  pub counted : length ends ≡ ring_size s
  pub tells : TellsEnds s r more ends total

module _ (s : LogSession) (r : Ring) (q : Restarts) (fields : RestartFields) (noted : ℕ) (disk : Disk) (c : Block) (before after : List ℕ) (tx : ℕ) where
  -- where so many were appended already
  pub chain : (ps : List Piece) (have : ℕ) (a : LogAreaOf) (last : ℕ) (pages : List (List Entry)) (m : Store) (ends : List ℕ) (total : ℕ) → Stands s a r q pages fields disk
      → HoldsLog s (record { ring = r; check = a.check; pages = pages; restarts = q; word = sent_word a.sent; fields = fields; noted = noted }) m disk → (m.begun ≡ true → noted ≤ a.sealed)
      → MayAppendAll a tx last (map (update_of_piece c before after) ps) → length ends ≡ ring_size s → TellsEnds s r pages ends total → (0 < have → a.oldest + length pages ≡ suc a.sealed)
      → Chained s r q fields noted disk m pages a (log_with a tx last (map (update_of_piece c before after) ps)) (entries_of a tx last (map (update_of_piece c before after) ps))
      (ends_with a tx last total ends (map (update_of_piece c before after) ps)) total (have + length ps)
  chain [] have a last pages m ends total stands holds below may counted tells here = record {
    more = pages;
    grows = none pages;
    stands = stands;
    holds = subst (λ (es : List Entry). HoldsLog s (record { ring = r; check = a.check; pages = pages; restarts = q; word = sent_word a.sent; fields = fields; noted = noted }) (record m { log = es }) disk) (sym (append-nil m.log)) holds;
    rises = omega arith;
    number = λ some. here (omega (arith, some));
    counted = counted;
    tells = tells;
  }
  chain (p ∷ ps) have a last pages m ends total stands holds below (may, rest) counted tells here =
      let e = next_entry a tx last (update_of_piece c before after p) in
      let es = entries_of (appended e a) tx e.lsn (map (update_of_piece c before after) ps) in
      let log = log_with (appended e a) tx e.lsn (map (update_of_piece c before after) ps) in
      let at = place_at (appended e a) (appended e a).sealed in
      let from = (placed s a r pages disk stands.ring e may).from in
      let told : TellsEnds s r (pages_with e a pages) (slice_set ends at total) total = subst (λ (t : ℕ). TellsEnds s r (pages_with e a pages) (slice_set ends at t) t) (let t : total + 0 ≡ total = omega arith in t)
      (ends_more s a r q pages fields noted m disk stands e may refl ends total counted tells) in
      let next_holds = holds_more s a r q pages fields noted m disk stands e may refl holds below (record m { log = m.log ++ e ∷ [] })
      (record { log_is = refl; synced_is = refl; done_is = refl; sent_is = refl; place_is = refl; begun_is = refl; renamed_is = refl; replaced_is = refl }) in
      let x = chain ps (suc have) (appended e a) e.lsn (pages_with e a pages) (record m { log = m.log ++ e ∷ [] }) (slice_set ends at total) total (stands_more s a r q pages fields noted m disk stands e may refl) next_holds
      (λ begun. omega (arith, below begun, from)) rest (length-set ends at total ∙ counted) told (λ some. number s a r q pages fields noted m disk stands e may refl) in
      record {
        more = x.more;
        grows = next e es pages (pages_with e a pages) x.more (pages_grow s a r pages disk stands.ring e may) x.grows;
        stands = x.stands;
        holds = subst (λ (l : List Entry). HoldsLog s (record { ring = r; check = log.check; pages = x.more; restarts = q; word = sent_word log.sent; fields = fields; noted = noted }) (record m { log = l }) disk)
            (append_assoc m.log (e ∷ []) es) x.holds;
        rises = omega (arith, x.rises, from);
        number = λ some. x.number (omega arith);
        counted = x.counted;
        tells = x.tells;
      }
