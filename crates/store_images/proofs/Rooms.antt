-- Room for what is logged, and changes that may be made.
use Rattle.std.proofs.Common.{◌≡◌, subst, ℕ, ◌-◌, ◌^◌, ◌<◌, ◌≤◌, List, [], ◌∷◌, Option, Some, None, arith}
use Rattle.std.specs.Prelude.{IfSome, unwrap_or}
use Rattle.disk_model.specs.declared.block.Block.{Block}
use Rattle.disk_model.specs.declared.block.Body.{Body}
use Rattle.log_model.specs.Logs.{is_in_grid}
use Rattle.log_area.specs.Areas.{free_pages}
use Rattle.store_model.specs.Volumes.{is_free}
use Rattle.txn_core.specs.txn_model.Values.{StoreFacts, own_of}
use Rattle.txn_core.specs.txn_model.Calls.{body_before}
use Rattle.txn_core.specs.txn_state.States.{HasSize, IsStore}
use Rattle.txn_core.proofs.txn_laws.Syncs.{and_left}
use Rattle.txn_core.specs.txn_log.Counts.{capped}
use Rattle.txn_core.specs.txn_log.Laws.{HasRoom, PagesAreEnough}
use Rattle.store_images.specs.Running.{IsRunning, MayBegin, CanLie, MayMake, change_of, pages_of_changes}

-- where no entry of the transaction is asked for, so many pages may be begun
pub may_begin : (turns : ℕ) (f : StoreFacts) (pages : ℕ) → IsRunning turns f → HasRoom f.log f.tx 0 pages → MayBegin f pages
may_begin turns f pages r room = record { ring = room.ring; room = room.room; laps = room.laps; numbered = room.numbered; tx_small = room.tx_small; last_small = r.small }

-- there is room for all pages that were counted, where there is for the count
pub uncapped : (f : StoreFacts) (n pages : ℕ) → pages ≡ capped n → MayBegin f pages → MayBegin f n
uncapped f n pages is room =
    let within : pages ≤ free_pages f.log = room.room in
    let free : free_pages f.log ≤ f.log.pages = omega arith in
    let few = room.ring.few in
    let all : pages ≡ n = below n pages is (omega arith) in
    subst (λ (m : ℕ). MayBegin f m) all room
  where
    below : (n pages : ℕ) → pages ≡ capped n → pages < 2 ^ 64 - 1 → pages ≡ n
    below n pages is small = omega (arith, is)

before_sized : (c : Block) (o : Option Body) (x : Body) → IfSome o (HasSize c) → HasSize c x → HasSize c (unwrap_or o x)
before_sized c (Some y) x sized size = sized
before_sized c None x sized size = size

pub may_make : (f : StoreFacts) (c : Block) (at : ℕ) (new : List ℕ) → PagesAreEnough → IsStore f → CanLie f c at new → MayBegin f (pages_of_changes f (change_of c at new ∷ [])) → MayMake f c at new
may_make f c at new enough k lie room = record {
  may = record {
    opened = lie.opened;
    known = lie.known;
    volume = lie.volume;
    inside = lie.inside;
    some = lie.some;
    fits = lie.fits;
    spelled = λ x size present. tt;
    alone = lie.alone;
    room = λ x size. enough.change f.log (λ b. (f.mark b).imaged) (change_of c at new) [] f.tx f.last (body_before f c x).bytes x.bytes
        (record {
          grid = and_left (is_in_grid c) (is_free (own_of f) c) lie.known;
          wide = lie.near;
          some = lie.some;
          fits = lie.fits;
          size_before = before_sized c (f.before c) x (k.blocks.sized_before c) size;
          size = size;
        }) room;
  };
  near = lie.near;
  room = room;
}
