-- What is always so of a volume, behind its calls.
use Rattle.std.proofs.Common.{◌≡◌, subst, ℕ, List, length, take, drop, ◌++◌, Option, Some, None, Result, refl, sym, ap, ◌∙◌}
use Rattle.std.specs.Prelude.{IfSome}
use Rattle.std.specs.Option.{option_map}
use Rattle.std.proofs.lemmas.List.{take_at}
use Rattle.disk_model.specs.Content.{Content}
use Rattle.sector_device.specs.Moments.{Changes}
use Rattle.log_reading.specs.Rings.{IsRingPlace}
use Rattle.volume_state.specs.Trees.{tree_of}
use Rattle.working_volume.specs.volume_lookup.Known.{known_tree}
use Rattle.working_volume.proofs.volume_lookup.Asking.{known_where}
use Rattle.working_volume.specs.volume_tree.declared.names.Names.{Names}
use Rattle.working_volume.specs.volume_tree.Named.{AreNamesOf}
use Rattle.working_volume.specs.map_change.Parts.{MapParts}
use Rattle.working_volume.specs.state_blocks.Needing.{NeededIsAll}
use Rattle.working_volume.specs.file_puts.declared.streams.VolumeStreams.{VolumeStreams}
use Rattle.tree_model.specs.declared.script.Op.{Op}
use Rattle.tree_model.specs.declared.reply.Reply.{Reply}
use Rattle.txn_state.specs.States.{StateOf, facts_of}
use Rattle.working_volume.specs.txn_core.Views.{present_on, present_content}
use Rattle.working_volume.specs.txn_laws.Windows.{Simulates}
use Rattle.store_claims.specs.Windows.{StoreWindow}
use Rattle.working_volume.specs.state_store.Volumes.{geometry_of, IsStateOf, HoldsState}
use Rattle.working_volume.specs.state_store.Turns.{AgreeWhereKnown, TurnsVolume}
use Rattle.working_volume.proofs.state_store.Sparing.{place_stays}
use Rattle.working_volume.specs.declared.fault.DoFault.{DoFault}
use Rattle.working_volume.specs.Ready.{IsReady}
use Rattle.working_volume.specs.Doing.{Does}
use Rattle.volume_core.specs.Volumes.{present_tree, IsWorking}
use Rattle.volume_core.specs.Staying.{ReadyStays}

-- ---- the tree

-- the tree of a state is known
pub tree_known : (gives : Option (List (List ℕ))) (state : StateOf) (m : MapParts) (table : List ℕ) → IfSome (present_content gives state) (IsStateOf m table) → known_tree table m.volume (present_content gives state) ≡ present_tree gives state m
tree_known None state m table shown = refl
tree_known (Some disk) state m table shown = known_where (Some (present_on disk (facts_of state))) table m.volume shown.stands.kept shown.upper

-- ---- behind an operation

pub place_kept : (op : Op) (stamp : ℕ) (table : List ℕ) (s : VolumeStreams) (result : Result Reply DoFault) (gives gave : Option (List (List ℕ))) (old new : StateOf) (before now : Changes) (m next : MapParts) → Does op stamp table s result gives gave old new before now m next → new.place ≡ old.place
place_kept op stamp table s result gives gave old new before now m next does = place_stays does.puts.put does.puts.list gives (facts_of old) (facts_of new) does.puts.over.facts

pub done : (op : Op) (stamp : ℕ) (table : List ℕ) (s : VolumeStreams) (result : Result Reply DoFault) (gives gave : Option (List (List ℕ))) (old new : StateOf) (before now : Changes) (m next : MapParts) (names : Names) (room : List ℕ) → Does op stamp table s result gives gave old new before now m next
    → IsRingPlace old.place → HoldsState gave now new next table → AreNamesOf names next.volume.files → IfSome (present_content gave new) (IsReady (facts_of new) next table s) → length room ≡ 65536 → IsWorking gave now new next table s names room
done op stamp table s result gives gave old new before now m next names room does ring holds named ready sized =
    record { holds = holds; ring = subst IsRingPlace (sym (place_kept op stamp table s result gives gave old new before now m next does)) ring; named = named; ready = ready; sized = sized }

-- the room keeps its length
pub room_stays : (n : ℕ) (new old : List ℕ) → n ≡ 65536 → length new ≡ 65536 → length (take n (new ++ drop (length new) old)) ≡ 65536
room_stays n new old is sized = ap length (take_at new (drop (length new) old) n (sized ∙ sym is)) ∙ sized

-- ---- behind a step of the store

ready_where : ReadyStays → (old new : Option Content) (before now : StateOf) (m : MapParts) (table : List ℕ) (s : VolumeStreams) → (facts_of now).place ≡ (facts_of before).place → (facts_of now).found ≡ (facts_of before).found → AgreeWhereKnown m.volume old new
    → IfSome old (IsReady (facts_of before) m table s) → IfSome new (IsReady (facts_of now) m table s)
ready_where law (Some c) (Some d) before now m table s place found agree ready = law (facts_of before) (facts_of now) m table s c d place found agree ready
ready_where law (Some c) None before now m table s place found agree ready = tt
ready_where law None (Some d) before now m table s place found agree ready = absurd agree
ready_where law None None before now m table s place found agree ready = tt

tree_where : NeededIsAll → (old new : Option Content) (m : MapParts) (table : List ℕ) → AgreeWhereKnown m.volume old new → IfSome old (IsStateOf m table) → option_map (λ c. tree_of c m.volume) new ≡ option_map (λ c. tree_of c m.volume) old
tree_where law (Some c) (Some d) m table agree state = ap Some (law.tree c d (geometry_of m) m.volume.clusters m.volume state.stands agree)
tree_where law (Some c) None m table agree state = absurd agree
tree_where law None (Some d) m table agree state = absurd agree
tree_where law None None m table agree state = refl

pub tree_stays : NeededIsAll → (gives gave : Option (List (List ℕ))) (before now : Changes) (old new : StateOf) (m : MapParts) (table : List ℕ) → HoldsState gives before old m table → TurnsVolume gives gave now old new m table → present_tree gave new m ≡ present_tree gives old m
tree_stays law gives gave before now old new m table holds turns = tree_where law (present_content gives old) (present_content gave new) m table turns.content holds.shown

pub turned : ReadyStays → (count moment : ℕ) (gives gave : Option (List (List ℕ))) (before now : Changes) (old new : StateOf) (m : MapParts) (table : List ℕ) (s : VolumeStreams) (names : Names) (room : List ℕ) (After : StoreWindow → StoreWindow → Type 0) → Simulates count moment before now (facts_of old) (facts_of new) After
    → TurnsVolume gives gave now old new m table → IsWorking gives before old m table s names room → IsWorking gave now new m table s names room
turned law count moment gives gave before now old new m table s names room After step turns is = record {
  holds = turns.holds;
  ring = subst IsRingPlace (sym step.place) is.ring;
  named = is.named;
  ready = ready_where law (present_content gives old) (present_content gave new) old new m table s step.place step.found turns.content is.ready;
  sized = is.sized;
}
