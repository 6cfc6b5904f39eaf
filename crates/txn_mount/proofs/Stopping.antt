-- Mounts that were stopped, one behind the other.
use Rattle.std.proofs.Common.{◌≡◌, ◌⊎◌, subst, ℕ, Bool, true, false, List, [], Result, Ok, refl, sym, ap, ◌∙◌, inl, inr}
use Rattle.std.specs.Prelude.{◌&&◌, not}
use Rattle.disk_model.specs.declared.block.Block.{Block}
use Rattle.disk_model.specs.Content.{Content, content_of}
use Rattle.log_model.specs.declared.entry.Entry.{Entry}
use Rattle.log_model.specs.Logs.{is_shadowed}
use Rattle.txn_core.specs.log_page.declared.places.LogPlace.{LogPlace}
use Rattle.log_recovery.specs.log_reading.declared.fault.LogRefusal.{LogRefusal}
use Rattle.log_recovery.specs.log_reading.declared.front.RestartFront.{RestartFront}
use Rattle.log_recovery.specs.LogStates.{LogState, live_entries_in}
use Rattle.log_recovery.specs.Writing.{to_write_in}
use Rattle.store_model.specs.Geometry.{SectorBytes}
use Rattle.store_model.specs.Volumes.{is_known}
use Rattle.txn_core.proofs.txn_laws.Syncs.{and_left, and_right}
use Rattle.txn_core.specs.txn_model.Values.{is_own}
use Rattle.txn_mount.specs.Contents.{mounted_content}
use Rattle.txn_mount.specs.Images.{RecoversAlike, IsMountedAs}
use Rattle.txn_mount.specs.Laws.{Recovers, StoppedMounts}
use Rattle.txn_mount.proofs.Reading.{read_log}

none_shadowed : (b : Block) → is_shadowed [] b ≡ false
unfolding is_shadowed
none_shadowed b = refl

not_true : (x : Bool) → not x ≡ true → x ≡ false
not_true true is = absurd cc
not_true false is = refl

-- the list that was read shadows no more
clear : (list entries : List Entry) (b : Block) → (entries ≡ list) ⊎ (entries ≡ []) → is_shadowed list b ≡ false → is_shadowed entries b ≡ false
clear list entries b (inl is) none = ap (λ (l : List Entry). is_shadowed l b) is ∙ none
clear list entries b (inr is) none = ap (λ (l : List Entry). is_shadowed l b) is ∙ none_shadowed b

first_stop : (place : LogPlace) (kept : List Block) (list : List Entry) (content : Content) (lap : ℕ) (at : SectorBytes) → RecoversAlike place kept list content lap at → Recovers place (λ b. is_known (is_own place kept) b && not (is_shadowed list b)) content at
first_stop place kept list content lap at x = record {
  front = x.front;
  fronted = x.fronted;
  entries = x.entries;
  reads = x.reads;
  claimed = λ b such. clear list x.entries b x.same (not_true (is_shadowed list b) (and_right (is_known (is_own place kept) b) (not (is_shadowed list b)) such));
  mounts = λ b such. x.recovers b (and_left (is_known (is_own place kept) b) (not (is_shadowed list b)) such) (not_true (is_shadowed list b) (and_right (is_known (is_own place kept) b) (not (is_shadowed list b)) such));
}

front_same : (a b : RestartFront) → ◌≡◌ {A = Result RestartFront LogRefusal} (Ok a) (Ok b) → a ≡ b
front_same a b e = cc

list_same : (a b : List Entry) → ◌≡◌ {A = Result (List Entry) LogRefusal} (Ok a) (Ok b) → a ≡ b
list_same a b e = cc

stop_again : (place : LogPlace) (kept : List Block) (such : Block → Bool) (content : Content) (state : LogState) (at later : SectorBytes) → ((b : Block) → such b ≡ true → is_known (is_own place kept) b ≡ true) → Recovers place such content at
    → to_write_in (content_of at) place kept ≡ Ok state → RecoversAlike place kept state.log (mounted_content (content_of at) state.log) state.next_lap later → Recovers place such content later
stop_again place kept such content state at later known x read y = record {
  front = y.front;
  fronted = y.fronted;
  entries = y.entries;
  reads = y.reads;
  claimed = λ b is. clear state.log y.entries b y.same (claimed b is);
  mounts = λ b is. (let m = y.recovers b (known b is) (claimed b is) in let n = there b is in record { bytes = m.bytes ∙ n.bytes; torn = λ torn. n.torn (m.torn torn) });
}
  where
    same : x.entries ≡ state.log
    same =
        let r = read_log (content_of at) place kept state read in
        let front = front_same x.front r.front (sym x.fronted ∙ r.fronted) in
        list_same x.entries state.log (sym x.reads ∙ ap (λ (f : RestartFront). live_entries_in (content_of at) place f.chosen) front ∙ r.entries)

    claimed : (b : Block) → such b ≡ true → is_shadowed state.log b ≡ false
    claimed b is = ap (λ (l : List Entry). is_shadowed l b) (sym same) ∙ x.claimed b is

    there : (b : Block) → such b ≡ true → IsMountedAs state.log at content b
    there b is = subst (λ (l : List Entry). IsMountedAs l at content b) same (x.mounts b is)

pub stopped_mounts_law : StoppedMounts
stopped_mounts_law = record { first = first_stop; again = stop_again }
