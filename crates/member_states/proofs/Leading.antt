-- The changes that a volume takes, in its store's window.
use Rattle.std.proofs.Common.{◌≡◌, ℕ, true, false, subst, List, Some, sym, ap, ◌∙◌, inl, inr, arith}
use Rattle.std.specs.Prelude.{◌⊎◌}
use Rattle.std.specs.List.{AllByRecursion}
use Rattle.std.proofs.lemmas.Bool.{cases_Bool, false_from_ne_true}
use Rattle.disk_model.specs.declared.block.Block.{Block}
use Rattle.disk_model.specs.declared.block.Body.{Body}
use Rattle.disk_model.specs.declared.block.Change.{Change}
use Rattle.disk_model.specs.Sectors.{are_rivals}
use Rattle.disk_model.specs.Content.{Content}
use Rattle.disk_model.specs.Writes.{bytes_after}
use Rattle.sector_device.specs.Moments.{Changes}
use Rattle.state_store.specs.state_model.declared.geometry.Geometry.{Geometry}
use Rattle.block_view.specs.Changes.{writes_of, content_after}
use Rattle.state_store.specs.volume_model.Indexes.{void_block}
use Rattle.state_store.specs.map_change.Parts.{MapParts}
use Rattle.state_store.specs.plan_owners.States.{Stands}
use Rattle.state_store.proofs.plan_owners.Agreed.{stands_now}
use Rattle.state_store.specs.state_blocks.Needing.{IsNeeded, AgreeOnNeeded}
use Rattle.state_store.specs.state_blocks.Drafts.{is_changed, DraftIn}
use Rattle.state_store.proofs.state_blocks.Needing.{agree_owned, needed_before}
use Rattle.state_store.specs.store_model.Volumes.{is_known}
use Rattle.state_store.proofs.store_model.Told.{true≢false}
use Rattle.state_store.specs.store_claims.Windows.{StoreWindow}
use Rattle.state_store.specs.txn_model.Values.{StoreFacts, own_of}
use Rattle.state_store.specs.txn_laws.Windows.{IsShown}
use Rattle.state_store.proofs.txn_laws.Showing.{present_shown}
use Rattle.state_store.specs.txn_core.Views.{present_on}
use Rattle.state_store.specs.Volumes.{geometry_of}
use Rattle.state_store.specs.Changes.{MayLog, AreApart, LeadsOn}
use Rattle.state_store.specs.Windows.{changed_by}
use Rattle.state_store.proofs.Lists.{each_weaker, bytes_by, same_after, unchanged_by, changed_whole, changed_found}
use Rattle.state_store.proofs.Windowed.{newest_is_present}
use Rattle.member_states.specs.Members.{base_of, IsSafe}
use Rattle.member_states.specs.Puts.{MayPut}
use Rattle.member_states.specs.Leads.{IsAtRest}
use Rattle.member_states.proofs.Putting.{EndsBefore, unchanged_past, one_volume}

module _ (changes : Changes) (f : StoreFacts) (lies : Content) (m : MapParts) (table : List ℕ) (disk : List (List ℕ)) (w : StoreWindow) (xs : List Change) (rest : IsAtRest changes f lies m disk w) (state : Stands (present_on disk f) (geometry_of m) m.volume.clusters m.volume)
    (leads : LeadsOn m table xs (present_on disk f)) (each : AllByRecursion (MayLog f) xs) (apart : AreApart xs) where
  abbrev g : Geometry
  g = geometry_of m

  abbrev clusters : ℕ
  clusters = m.volume.clusters

  abbrev read : Content
  read = present_on disk f

  shown : (b : Block) → is_known (own_of f) b ≡ true → IsShown w b (read b)
  shown b known = present_shown changes f w (Some disk) rest.has rest.sees b known

  -- ---- what the volume reads is what the window shows

  read_agrees : AgreeOnNeeded w.present read rest.members.volume
  read_agrees = record { bodies = λ b needed. by b (rest.members.present.safe b needed); void = rest.void ∙ sym rest.members.present.void }
    where
      by : (b : Block) → IsSafe (base_of f lies g clusters) w.present b → ((read b).bytes ≡ (w.present b).bytes) × ((read b).torn ≡ true → (w.present b).torn ≡ true)
      by b (inl known) = (let is = shown b known in (is.bytes, is.torn))
      by b (inr still) = (let same : read b ≡ w.present b = rest.found b still.0 ∙ sym still.1 in (ap (λ (y : Body). y.bytes) same, λ torn. ap (λ (y : Body). y.torn) (sym same) ∙ torn))

  one : rest.members.volume ≡ m.volume
  one = one_volume read g clusters rest.members.volume m.volume (stands_now w.present read g clusters rest.members.volume rest.members.present.stands (agree_owned w.present read rest.members.volume read_agrees)) state

  agrees_one : AgreeOnNeeded w.present read m.volume
  agrees_one = subst (AgreeOnNeeded w.present read) one read_agrees

  stands_one : Stands w.present g clusters m.volume
  stands_one = subst (Stands w.present g clusters) one rest.members.present.stands

  to_window : (b : Block) → IsNeeded read m.volume b → IsNeeded w.present m.volume b
  to_window b needed = needed_before w.present read g clusters m.volume stands_one agrees_one b needed

  window_agrees : AgreeOnNeeded read w.present m.volume
  window_agrees = record {
    bodies = λ b needed. (sym (agrees_one.bodies b (to_window b needed)).0, (rest.spared b needed).shown);
    void = sym agrees_one.void;
  }

  to_read : (b : Block) → IsNeeded w.present m.volume b → IsNeeded read m.volume b
  to_read b needed = needed_before read w.present g clusters m.volume state window_agrees b needed

  -- ---- and so are the contents with the changes

  after : changed_by xs read ≡ content_after xs read
  after = same_after xs read rest.sized leads.writable

  stands_after : Stands (changed_by xs read) g clusters leads.volume
  stands_after = subst (λ (c : Content). Stands c g clusters leads.volume) (sym after) leads.stands

  covers : (b : Block) → IsNeeded (changed_by xs read) leads.volume b → IsNeeded read m.volume b ⊎ (is_changed xs b ≡ true)
  covers b needed = leads.draft.covers b (subst (λ (c : Content). IsNeeded c leads.volume b) after needed)

  ends : AllByRecursion (λ x. EndsBefore x.block) xs
  ends = each_weaker (MayLog f) (λ (x : Change). EndsBefore x.block) (λ x is. (let inside = is.inside in let near = rest.near in omega (arith, inside, near))) xs each

  changed_known : (b : Block) → is_changed xs b ≡ true → is_known (own_of f) b ≡ true
  changed_known b some = changed_found (λ c. is_known (own_of f) c ≡ true) xs b some (each_weaker (MayLog f) (λ (x : Change). is_known (own_of f) x.block ≡ true) (λ x is. is.known) xs each)

  same_bytes : (b : Block) → (w.present b).bytes ≡ (read b).bytes → (changed_by xs w.present b).bytes ≡ (changed_by xs read b).bytes
  same_bytes b same = bytes_by xs w.present b ∙ ap (bytes_after (writes_of xs) b) same ∙ sym (bytes_by xs read b)

  bytes_of : (b : Block) → IsNeeded read m.volume b ⊎ (is_changed xs b ≡ true) → (changed_by xs w.present b).bytes ≡ (changed_by xs read b).bytes
  bytes_of b (inl needed) = same_bytes b (window_agrees.bodies b needed).0
  bytes_of b (inr some) = same_bytes b (sym (shown b (changed_known b some)).bytes)

  torn_changed : (b : Block) → is_changed xs b ≡ true → (changed_by xs w.present b).torn ≡ true → (changed_by xs read b).torn ≡ true
  torn_changed b some torn = absurd (true≢false (sym torn ∙ changed_whole xs w.present b some))

  torn_of : (b : Block) → IsNeeded read m.volume b ⊎ (is_changed xs b ≡ true) → (changed_by xs w.present b).torn ≡ true → (changed_by xs read b).torn ≡ true
  torn_of b (inr some) torn = torn_changed b some torn
  torn_of b (inl needed) torn = elim (cases_Bool (is_changed xs b)) [
    | inl some ↦ torn_changed b some torn
    | inr none ↦ ap (λ (y : Body). y.torn) (unchanged_by xs read b none) ∙ (window_agrees.bodies b needed).1 (ap (λ (y : Body). y.torn) (sym (unchanged_by xs w.present b none)) ∙ torn)
  ]

  after_agrees : AgreeOnNeeded (changed_by xs read) (changed_by xs w.present) leads.volume
  after_agrees = record {
    bodies = λ b needed. (bytes_of b (covers b needed), torn_of b (covers b needed));
    void = unchanged_by xs w.present void_block (unchanged_past xs ends) ∙ window_agrees.void ∙ sym (unchanged_by xs read void_block (unchanged_past xs ends));
  }

  -- ---- so the changes lead on in the window

  covered : (b : Block) → IsNeeded read m.volume b ⊎ (is_changed xs b ≡ true) → IsNeeded w.present m.volume b ⊎ (is_changed xs b ≡ true)
  covered b (inl needed) = inl (to_window b needed)
  covered b (inr some) = inr some

  draft : DraftIn w.present m.volume xs (changed_by xs w.present) leads.volume
  draft = record {
    rivals = each_weaker (λ (x : Change). (b : Block) → IsNeeded read m.volume b → are_rivals x.block b ≡ false) (λ (x : Change). (b : Block) → IsNeeded w.present m.volume b → are_rivals x.block b ≡ false) (λ x is b needed. is b (to_read b needed)) xs leads.draft.rivals;
    whole = each_weaker (λ (x : Change). IsNeeded read m.volume x.block → (read x.block).torn ≡ false) (λ (x : Change). IsNeeded w.present m.volume x.block → (w.present x.block).torn ≡ false) (λ x is needed. whole x (to_read x.block needed) is) xs leads.draft.whole;
    covers = λ b needed. covered b (covers b (needed_before (changed_by xs read) (changed_by xs w.present) g clusters leads.volume stands_after after_agrees b needed));
  }
    where
      whole : (x : Change) → IsNeeded read m.volume x.block → (IsNeeded read m.volume x.block → (read x.block).torn ≡ false) → (w.present x.block).torn ≡ false
      whole x needed is = false_from_ne_true (w.present x.block).torn (λ torn. true≢false (sym ((window_agrees.bodies x.block needed).1 torn) ∙ is needed))

  pub may_put : MayPut f (geometry_of m) m.volume.clusters xs w
  may_put = record {
    near = rest.near;
    each = each;
    apart = apart;
    newest = newest_is_present changes f w rest.has rest.closed;
    volume = m.volume;
    stands = stands_one;
    next = leads.volume;
    leads = stands_now (changed_by xs read) (changed_by xs w.present) g clusters leads.volume stands_after (agree_owned (changed_by xs read) (changed_by xs w.present) leads.volume after_agrees);
    draft = draft;
  }
