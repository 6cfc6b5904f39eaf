-- What is put of a file, one behind the other, over a content that may be known.
use Rattle.std.proofs.Common.{◌≡◌, ℕ, zero, suc, ◌+◌, ◌<◌, Bool, true, List, Option, Some, None, Result, Ok, Err, IfSome, IfOk, IfErr, refl, subst, arith, length}
use Rattle.std.specs.Prelude.{OnOk}
use Rattle.disk_model.specs.Content.{Content}
use Rattle.record_model.specs.Constants.{standard_information}
use Rattle.record_model.specs.Nodes.{entries_length}
use Rattle.record_model.specs.Records.{Record, used_of}
use Rattle.index_model.specs.Indexes.{Place}
use Rattle.index_change.specs.declared.nodes_plan.NodesPlan.{NodesPlan}
use Rattle.index_change.specs.NodePlans.{PlansNodes, TakesFront}
use Rattle.state_model.specs.declared.stream.Extents.{Extents}
use Rattle.state_model.specs.Files.{has_type}
use Rattle.volume_model.specs.Indexes.{index_place, root_value}
use Rattle.plan_draft.specs.declared.touched.Touched.{Touched}
use Rattle.plan_draft.specs.Drafts.{drafted}
use Rattle.made_trees.specs.file_puts.declared.streams.VolumeStreams.{VolumeStreams}
use Rattle.made_trees.specs.file_puts.Puts.{PutsTimes}
use Rattle.made_trees.specs.file_makes.declared.newfile.NewFile.{NewFile}
use Rattle.made_trees.specs.file_makes.Making.{PutsMade}
use Rattle.made_trees.specs.made_files.Made.{made_key}
use Rattle.made_trees.specs.Created.{timed_directory}
use Rattle.found_places.specs.Places.{LieBehind}
use Rattle.index_grows.specs.Counted.{IsTooFull}
use Rattle.index_grows.specs.Growing.{GrowsCounted}
use Rattle.place_makes.specs.declared.fault.PlaceFault.{PlaceFault}
use Rattle.place_makes.specs.declared.fault.PlaceFault.TheVariants.{Fault, Full, Memory, Unplanned}
use Rattle.place_makes.specs.Faults.{OnFull}
use Rattle.place_makes.specs.Placing.{IsQuiet, HasBlocksFor, PutsMadeIn, PutsTimed, PutsNodes, PlansPlace, PutsInPlace, IsPlaceFull}

pub made_in : (o : Option Content) (s : VolumeStreams) (numbers : Extents) (m : NewFile) (q : Record) (nodes : NodesPlan) (p : Place) (value : List ℕ) (old new : List Touched) → p ≡ index_place 8 q → root_value q ≡ Some value → IfSome o (λ c. PutsMade c s numbers m q p value nodes old new) → IfSome o (λ c. PutsMadeIn c s numbers m q nodes old new)
made_in None s numbers m q nodes p value old new place root put = tt
made_in (Some c) s numbers m q nodes p value old new place root put = record { value = value; root = root; put = subst (λ (x : Place). PutsMade c s numbers m q x value nodes old new) place put }

pub timed_made : (o : Option Content) (s : VolumeStreams) (numbers : Extents) (m : NewFile) (q d : Record) (nodes : NodesPlan) (old mid new : List Touched) → d ≡ timed_directory m.stamp q → IfSome o (λ c. PutsTimes c s m.parent.number m.stamp q old mid) → IfSome o (λ c. PutsMadeIn c s numbers m d nodes mid new)
    → IfSome o (λ c. PutsTimed c s numbers m q nodes old new)
timed_made None s numbers m q d nodes old mid new is times made = tt
timed_made (Some c) s numbers m q d nodes old mid new is times made = record { timed = mid; times = times; made = subst (λ (x : Record). PutsMadeIn c s numbers m x nodes mid new) is made }

some_blocks : (n : ℕ) (c : Content) (bits : List Bool) (s : VolumeStreams) (d : ℕ) (r : Record) (root : ℕ) (old new : List Touched) (q : Record) → 0 < n → GrowsCounted c bits s d r root n old new q → HasBlocksFor n c bits s d r root old new q
some_blocks zero c bits s d r root old new q some grows = absurd (omega (arith, some))
some_blocks (suc n) c bits s d r root old new q some grows = grows

none_blocks : (n : ℕ) (c : Content) (bits : List Bool) (s : VolumeStreams) (d : ℕ) (r : Record) (root : ℕ) (old : List Touched) → n ≡ 0 → HasBlocksFor n c bits s d r root old old r
none_blocks zero c bits s d r root old is = (refl, refl)
none_blocks (suc n) c bits s d r root old is = absurd (omega (arith, is))

pub grown_nodes : (o : Option Content) (bits : List Bool) (s : VolumeStreams) (numbers : Extents) (m : NewFile) (r q : Record) (nodes : NodesPlan) (root more : ℕ) (old mid new : List Touched) → root ≡ 0x20 + entries_length nodes.root → more ≡ length nodes.taken.items → 0 < length nodes.taken.items
    → IfSome o (λ c. GrowsCounted c bits s m.parent.number r root more old mid q) → IfSome o (λ c. PutsTimed c s numbers m q nodes mid new) → IfSome o (λ c. PutsNodes c bits s numbers m r nodes old new)
grown_nodes None bits s numbers m r q nodes root more old mid new root_is more_is some grows put = tt
grown_nodes (Some c) bits s numbers m r q nodes root more old mid new root_is more_is some grows put = record {
  q = q;
  grown = mid;
  blocks =
      some_blocks (length nodes.taken.items) c bits s m.parent.number r (0x20 + entries_length nodes.root) old mid q some
      (subst (λ (i : ℕ). GrowsCounted c bits s m.parent.number r i (length nodes.taken.items) old mid q) root_is (subst (λ (i : ℕ). GrowsCounted c bits s m.parent.number r root i old mid q) more_is grows));
  behind = put;
}

pub quiet_nodes : (o : Option Content) (bits : List Bool) (s : VolumeStreams) (numbers : Extents) (m : NewFile) (r : Record) (nodes : NodesPlan) (old new : List Touched) → length nodes.taken.items ≡ 0 → IfSome o (λ c. PutsTimed c s numbers m r nodes old new) → IfSome o (λ c. PutsNodes c bits s numbers m r nodes old new)
quiet_nodes None bits s numbers m r nodes old new none put = tt
quiet_nodes (Some c) bits s numbers m r nodes old new none put = record { q = r; grown = old; blocks = none_blocks (length nodes.taken.items) c bits s m.parent.number r (0x20 + entries_length nodes.root) old none; behind = put }

pub place_planned : (o : Option Content) (upper : List ℕ) (m : NewFile) (r : Record) (p : Place) (value : List ℕ) (used : ℕ) (fresh : List ℕ) (nodes : NodesPlan) (old : List Touched) → p ≡ index_place 8 r → root_value r ≡ Some value → used ≡ used_of r.attrs → LieBehind 8 r fresh → TakesFront fresh nodes
    → IfSome o (λ c. PlansNodes (drafted old c) p upper value used (made_key m) fresh (Ok nodes)) → IfSome o (λ c. PlansPlace c upper m r old nodes)
place_planned None upper m r p value used fresh nodes old place root as_used lie front planned = tt
place_planned (Some c) upper m r p value used fresh nodes old place root as_used lie front planned = record {
  value = value;
  root = root;
  fresh = fresh;
  lie = lie;
  planned = subst (λ (x : Place). PlansNodes (drafted old c) x upper value (used_of r.attrs) (made_key m) fresh (Ok nodes)) place (subst (λ (n : ℕ). PlansNodes (drafted old c) p upper value n (made_key m) fresh (Ok nodes)) as_used planned);
  front = front;
}

pub in_place : (o : Option Content) (bits : List Bool) (s : VolumeStreams) (numbers : Extents) (upper : List ℕ) (m : NewFile) (r : Record) (nodes : NodesPlan) (old mid new : List Touched) → has_type standard_information r ≡ true → IsQuiet r → mid ≡ old → IfSome o (λ c. PlansPlace c upper m r old nodes)
    → IfSome o (λ c. PutsNodes c bits s numbers m r nodes mid new) → IfSome o (λ c. PutsInPlace c bits s numbers upper m r old new)
in_place None bits s numbers upper m r nodes old mid new info quiet same plans put = tt
in_place (Some c) bits s numbers upper m r nodes old mid new info quiet same plans put = record { info = info; quiet = quiet; nodes = nodes; plans = plans; put = subst (λ (l : List Touched). PutsNodes c bits s numbers m r nodes l new) same put }

pub place_full : (o : Option Content) (bits : List Bool) (upper : List ℕ) (m : NewFile) (r : Record) (nodes : NodesPlan) (old : List Touched) (used : ℕ) → has_type standard_information r ≡ true → IsQuiet r → 0 < length nodes.taken.items → IsTooFull bits r (0x20 + entries_length nodes.root) (length nodes.taken.items) used → IfSome o (λ c. PlansPlace c upper m r old nodes)
    → IfSome o (λ c. IsPlaceFull c bits upper m r old used)
place_full None bits upper m r nodes old used info quiet some full plans = tt
place_full (Some c) bits upper m r nodes old used info quiet some full plans = record { info = info; quiet = quiet; nodes = nodes; plans = plans; takes = some; full = full }

-- ---- below a result

pub on_ok : (x : Result (Unit {0}) PlaceFault) (P Q : Type 0) → (P → Q) → OnOk x P → OnOk x Q
on_ok (Ok u) P Q to holds = to holds
on_ok (Err e) P Q to holds = holds

on_full : (P Q : ℕ → Type 0) (e : PlaceFault) → ((used : ℕ) → P used → Q used) → OnFull P e → OnFull Q e
on_full P Q Fault to holds = tt
on_full P Q (Full used) to holds = to used holds
on_full P Q Memory to holds = tt
on_full P Q Unplanned to holds = tt

pub if_full : (x : Result (Unit {0}) PlaceFault) (P Q : ℕ → Type 0) → ((used : ℕ) → P used → Q used) → IfErr x (OnFull P) → IfErr x (OnFull Q)
if_full (Ok u) P Q to holds = holds
if_full (Err e) P Q to holds = on_full P Q e to holds

pub planned_there : (o : Option Content) (x : Result NodesPlan PlaceFault) (upper : List ℕ) (m : NewFile) (r : Record) (p : Place) (value : List ℕ) (used : ℕ) (fresh : List ℕ) (old : List Touched) → p ≡ index_place 8 r → root_value r ≡ Some value → used ≡ used_of r.attrs → LieBehind 8 r fresh
    → IfOk x (TakesFront fresh) → IfSome o (λ c. IfOk x (λ nodes. PlansNodes (drafted old c) p upper value used (made_key m) fresh (Ok nodes))) → IfOk x (λ nodes. IfSome o (λ c. PlansPlace c upper m r old nodes))
planned_there None (Ok nodes) upper m r p value used fresh old place root as_used lie front planned = tt
planned_there None (Err e) upper m r p value used fresh old place root as_used lie front planned = tt
planned_there (Some c) (Ok nodes) upper m r p value used fresh old place root as_used lie front planned = place_planned (Some c) upper m r p value used fresh nodes old place root as_used lie front planned
planned_there (Some c) (Err e) upper m r p value used fresh old place root as_used lie front planned = tt
