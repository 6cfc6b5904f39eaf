-- The blocks that are put out, by their places.
use Rattle.std.proofs.Common.{◌≡◌, subst, ℕ, zero, suc, ◌+◌, ◌<◌, ◌≤◌, List, [], ◌∷◌, length, drop, get_or, Option, Result, Ok, Err, refl, sym, ap, ap₂, ◌∙◌, inl, inr, arith, add-one, drop-cons}
use Rattle.std.specs.Prelude.{All}
use Rattle.std.proofs.lemmas.List.{get_or_read}
use Rattle.std.proofs.lemmas.List.Elements.{All-get_or}
use Rattle.host_base.specs.declared.outside.Failed.{Failed}
use Rattle.sector_device.specs.Moments.{Changes}
use Rattle.log_recovery.specs.declared.found.RecoveredBlock.{RecoveredBlock}
use Rattle.txn_mount.specs.declared.puts.PutOut.{PutOut}
use Rattle.txn_mount.specs.Calls.{PutsBack, PutsAll}
use Rattle.txn_mount.specs.Puts.{no_block, item_of, items_of, MayPut, MayPutAt}

item_is : (bodies : List RecoveredBlock) (k : PutOut) (x : RecoveredBlock) → k.place < length bodies → x ≡ get_or bodies k.place x → x ≡ item_of bodies k
item_is bodies k x lt is = get_or_read bodies k.place x lt is no_block

pub may_item : (count count' : ℕ) (bodies : List RecoveredBlock) (keys : List PutOut) (i : ℕ) (d : PutOut) (x : RecoveredBlock) → All (MayPutAt count bodies) keys → i < length keys → x ≡ get_or bodies (get_or keys i d).place x → count' ≡ count → MayPut count' x
may_item count count' bodies keys i d x all lt is same =
    let m = All-get_or (MayPutAt count bodies) keys i d lt all in
    subst (λ (n : ℕ). MayPut n x) (sym same) (subst (λ (y : RecoveredBlock). MayPut count y) (sym (item_is bodies (get_or keys i d) x m.there is)) m.may)

pub rest_items : (count : ℕ) (bodies : List RecoveredBlock) (keys : List PutOut) (i : ℕ) (d : PutOut) (x : RecoveredBlock) → All (MayPutAt count bodies) keys → i < length keys → x ≡ get_or bodies (get_or keys i d).place x → items_of bodies (drop i keys) ≡ x ∷ items_of bodies (drop (i + 1) keys)
rest_items count bodies keys i d x all lt is =
    let m = All-get_or (MayPutAt count bodies) keys i d lt all in
    ap (items_of bodies) (drop-cons keys i d lt) ∙ ap₂ (λ (y : RecoveredBlock) (rest : List PutOut). y ∷ items_of bodies rest) (sym (item_is bodies (get_or keys i d) x m.there is)) (ap (λ (n : ℕ). drop n keys) (sym (add-one i)))

module _ {D : Type 0} (gives : D → Option (List (List ℕ))) (changes : D → Changes) (moment : D → ℕ) where
  pub put_then : (xs rest : List RecoveredBlock) (x : RecoveredBlock) (old mid new : D) (result : Result (Unit {0}) Failed) → xs ≡ x ∷ rest → PutsBack gives changes moment x (Ok tt) old mid → PutsAll gives changes moment rest result mid new → PutsAll gives changes moment xs result old new
  put_then xs rest x old mid new (Ok u) is one more = subst (λ (l : List RecoveredBlock). PutsAll gives changes moment l (Ok u) old new) (sym is) (mid, one, more)
  put_then xs rest x old mid new (Err e) is one more = subst (λ (l : List RecoveredBlock). PutsAll gives changes moment l (Err e) old new) (sym is) (inr (mid, one, more))

  pub put_stops : (xs rest : List RecoveredBlock) (x : RecoveredBlock) (old new : D) (fault : Failed) → xs ≡ x ∷ rest → PutsBack gives changes moment x (Err fault) old new → PutsAll gives changes moment xs (Err fault) old new
  put_stops xs rest x old new fault is one = subst (λ (l : List RecoveredBlock). PutsAll gives changes moment l (Err fault) old new) (sym is) (inl one)

  pub none_more : (bodies : List RecoveredBlock) (keys : List PutOut) (i : ℕ) (device : D) → drop i keys ≡ [] → PutsAll gives changes moment (items_of bodies (drop i keys)) (Ok tt) device device
  none_more bodies keys i device none = subst (λ (l : List PutOut). PutsAll gives changes moment (items_of bodies l) (Ok tt) device device) (sym none) refl

pub drop_none : (i : ℕ) (keys : List PutOut) → length keys ≤ i → drop i keys ≡ []
drop_none zero [] le = refl
drop_none (suc i) [] le = refl
drop_none zero (k ∷ keys) le = absurd (omega (arith, le))
drop_none (suc i) (k ∷ keys) le = drop_none i keys (omega (arith, le))
