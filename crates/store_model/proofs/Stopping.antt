-- A recovery that is stopped and begun again, any number of times.
use Rattle.std.proofs.Common.{◌≡◌, ◌⊎◌, inl, inr, ⊎_elim, ℕ, Bool, List, [], refl, sym, ◌∙◌, ap, subst, arith}
use Rattle.std.specs.Prelude.{Contains}
use Rattle.log_model.specs.disk_model.declared.block.Block.{Block}
use Rattle.sector_device.specs.Disks.{seen}
use Rattle.log_model.specs.declared.entry.Entry.{Entry}
use Rattle.store_model.specs.Logs.{AllBytes, IsClaimed, has_update}
use Rattle.store_model.specs.Geometry.{SectorBytes, Geometry, CanLeave}
use Rattle.store_model.specs.Stores.{Restores}
use Rattle.store_model.specs.Recovery.{Recovering, Recovers, Recovery, MayStop, Begins, recovering, disk_with, IsStopped}
use Rattle.store_model.specs.Recovery.Recovers.{restore, settle, rename, replace}
use Rattle.store_model.specs.Recovery.Recovery.{start, on}
use Rattle.store_model.specs.Recovery.IsStopped.{never, again}
use Rattle.store_model.proofs.Told.{true≢false}
use Rattle.store_model.proofs.Disks.{leaves_seen, leaves_synced}
use Rattle.store_model.proofs.Recovery.{alike, stopped_recovery_lem}

step_list : (geometry : Geometry) (content : AllBytes) (torn : Block → Bool) (r r' : Recovering) → Recovers geometry content torn r r' → r'.list ≡ r.list
step_list geometry content torn r r' (restore b new disk may spells puts) = refl
step_list geometry content torn r r' settle = refl
step_list geometry content torn r r' (rename restored) = refl
step_list geometry content torn r r' (replace renamed) = refl

same_list : (geometry : Geometry) (content : AllBytes) (torn : Block → Bool) (r t : Recovering) → Recovery geometry content torn r t → t.list ≡ r.list
same_list geometry content torn r t start = refl
same_list geometry content torn r t (on u v run step) = step_list geometry content torn u t step ∙ same_list geometry content torn r u run

one_left : (at f : SectorBytes) → CanLeave (disk_with at) f → (s : ℕ) → f s ≡ at s
one_left at f left s = go (left s)
  where
    go : (f s ≡ at s) ⊎ Contains [] (f s) → f s ≡ at s
    go (inl e) = e
    go (inr m) = absurd (omega (arith, m.1))

-- a recovery by an empty list writes no block out
same_disk : (geometry : Geometry) (content : AllBytes) (torn : Block → Bool) (at : SectorBytes) (list : List Entry) (t : Recovering) → list ≡ [] → Recovery geometry content torn (recovering list (disk_with at)) t
    → (f : SectorBytes) → CanLeave t.disk f → (s : ℕ) → f s ≡ at s
same_disk geometry content torn at list t e start f left s = one_left at f left s
same_disk geometry content torn at list t e (on u v run (restore b new disk may spells puts)) f left s =
    absurd (true≢false (sym may.updated ∙ ap (λ (l : List Entry). has_update l b) (same_list geometry content torn (recovering list (disk_with at)) u run ∙ e)))
same_disk geometry content torn at list t e (on u v run settle) f left s = leaves_synced u.disk f left s ∙ same_disk geometry content torn at list u e run (seen u.disk) (leaves_seen u.disk) s
same_disk geometry content torn at list t e (on u v run (rename restored)) f left s = same_disk geometry content torn at list u e run f left s
same_disk geometry content torn at list t e (on u v run (replace renamed)) f left s = leaves_synced u.disk f left s ∙ same_disk geometry content torn at list u e run (seen u.disk) (leaves_seen u.disk) s

-- what each stop keeps: the list is the first one or empty, and the content comes back
record IsGood (geometry : Geometry) (content : AllBytes) (torn : Block → Bool) (first list : List Entry) (at : SectorBytes) : Type 0 where
  same : (b : Block) → IsClaimed first b → Restores geometry list at b content torn
  which : (list ≡ first) ⊎ (list ≡ [])

module _ (geometry : Geometry) (content : AllBytes) (torn : Block → Bool) (first list : List Entry) (at : SectorBytes) (good : IsGood geometry content torn first list at) (r : Recovering)
    (run : Recovery geometry content torn (recovering list (disk_with at)) r) (list' : List Entry) (at' : SectorBytes) (stop : MayStop r list' at') where
  kept : r.list ≡ list
  kept = same_list geometry content torn (recovering list (disk_with at)) r run

  of_first : list ≡ first → IsGood geometry content torn first list' at'
  of_first e = record {
    same = λ b claimed. stopped_recovery_lem geometry content torn list (disk_with at) begins r run list' at' stop b (subst (λ (l : List Entry). IsClaimed l b) (sym (kept ∙ e)) claimed);
    which = ⊎_elim (λ h. inl (h.1 ∙ kept ∙ e)) (λ h. inr h.1) stop.list;
  }
    where
      begins : Begins geometry list (disk_with at) content torn
      begins f left b claimed = alike geometry list content torn b at f (λ s h. one_left at f left s) (good.same b (subst (λ (l : List Entry). IsClaimed l b) e claimed))

  of_none : list ≡ [] → IsGood geometry content torn first list' at'
  of_none e = record {
    same = λ b claimed. alike geometry list' content torn b at at' (λ s h. same_disk geometry content torn at list r e run at' stop.disk s) (subst (λ (l : List Entry). Restores geometry l at b content torn) (e ∙ sym empty) (good.same b claimed));
    which = inr empty;
  }
    where
      empty : list' ≡ []
      empty = ⊎_elim (λ h. h.1 ∙ kept ∙ e) (λ h. h.1) stop.list

  good_step : IsGood geometry content torn first list' at'
  good_step = ⊎_elim of_first of_none good.which

good_stops : (geometry : Geometry) (content : AllBytes) (torn : Block → Bool) (first : List Entry) (sectors : SectorBytes) → ((b : Block) → IsClaimed first b → Restores geometry first sectors b content torn)
    → (list : List Entry) (at : SectorBytes) → IsStopped geometry content torn first sectors list at → IsGood geometry content torn first list at
good_stops geometry content torn first sectors begins list at never = record { same = begins; which = inl refl }
good_stops geometry content torn first sectors begins list at (again list0 at0 stops r run l a stop) =
    good_step geometry content torn first list0 at0 (good_stops geometry content torn first sectors begins list0 at0 stops) r run list at stop

pub stops_restore : (geometry : Geometry) (content : AllBytes) (torn : Block → Bool) (first : List Entry) (sectors : SectorBytes) → ((b : Block) → Restores geometry first sectors b content torn)
    → (list : List Entry) (at : SectorBytes) → IsStopped geometry content torn first sectors list at → ((b : Block) → IsClaimed first b → Restores geometry list at b content torn) × ((list ≡ first) ⊎ (list ≡ []))
stops_restore geometry content torn first sectors begins list at stops = let good = good_stops geometry content torn first sectors (λ b claimed. begins b) list at stops in (good.same, good.which)
