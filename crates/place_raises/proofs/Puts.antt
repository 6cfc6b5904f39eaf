-- What is planned and put below a level more, one behind the other, over a content that may be known.
use Rattle.std.proofs.Common.{◌≡◌, ℕ, ◌+◌, ◌*◌, ◌/◌, ◌<◌, ◌≤◌, Bool, true, false, not, List, Option, Some, None, Result, Ok, Err, IfErr, refl, count_by, length, leb, subst}
use Rattle.std.specs.Prelude.{IfSome, OnOk}
use Rattle.std.proofs.lemmas.Bool.{leb-true}
use Rattle.host_base.specs.Answers.{needs}
use Rattle.disk_model.specs.Content.{Content}
use Rattle.record_model.specs.Constants.{standard_information}
use Rattle.record_model.specs.Records.{Record, used_of}
use Rattle.index_model.specs.Indexes.{Place}
use Rattle.index_change.specs.declared.nodes_plan.NodesPlan.{NodesPlan}
use Rattle.index_change.specs.NodePlans.{PlansNodes, TakesFront}
use Rattle.state_model.specs.declared.stream.Extents.{Extents}
use Rattle.state_model.specs.Files.{has_type}
use Rattle.volume_model.specs.Indexes.{index_place, root_value}
use Rattle.plan_draft.specs.declared.touched.Touched.{Touched}
use Rattle.plan_draft.specs.Drafts.{drafted}
use Rattle.record_streams.specs.Fitting.{FitsButRoom}
use Rattle.draft_records.specs.Records.{fits_room, written_record}
use Rattle.draft_growth.specs.Growing.{space_for}
use Rattle.draft_indexes.specs.declared.blocks.IndexBlocks.{IndexBlocks}
use Rattle.draft_indexes.specs.Growing.{wanted_clusters, taken_for, raised_file, MayGrowBlocks, RaisesBlocks}
use Rattle.resized_streams.specs.declared.resized.Resized.{Resized}
use Rattle.place_makes.specs.made_trees.file_puts.declared.streams.VolumeStreams.{VolumeStreams}
use Rattle.place_makes.specs.made_trees.file_puts.Puts.{PutsTimes}
use Rattle.place_makes.specs.made_trees.file_makes.declared.newfile.NewFile.{NewFile}
use Rattle.place_makes.specs.made_trees.made_files.Made.{made_key}
use Rattle.place_makes.specs.made_trees.Created.{timed_directory}
use Rattle.index_edits.specs.Grown.{HasStreams}
use Rattle.index_edits.specs.Raised.{first_fresh}
use Rattle.place_makes.specs.index_grows.Counted.{file_with_streams, CountsOf, IsTooFull}
use Rattle.place_makes.specs.Placing.{IsQuiet, PutsMadeIn}
use Rattle.place_raises.specs.declared.fault.RaiseFault.{RaiseFault}
use Rattle.place_raises.specs.declared.fault.RaiseFault.TheVariants.{Deep, Fault, Full, Memory, Unplanned}
use Rattle.place_raises.specs.Faults.{OnFull, OnDeep}
use Rattle.place_raises.specs.Raising.{CountsNodes, IsLevel, IsRaisedFull, LieBehindLevel, PlansBehind, PlansLevel, PutsBehind, PutsLevel, PutsPlanned, PutsRaised, RaisesCounted, RaisesInto, level_vcn}

-- ---- what is planned

pub nodes_counted : (o : Option Content) (upper : List ℕ) (m : NewFile) (r : Record) (p : Place) (value : List ℕ) (used : ℕ) (fresh : List ℕ) (nodes : NodesPlan) (old : List Touched) → p ≡ index_place 8 r → root_value r ≡ Some value → used ≡ 0 → LieBehindLevel r fresh → TakesFront fresh nodes
    → IfSome o (λ c. PlansNodes (drafted old c) p upper value used (made_key m) fresh (Ok nodes)) → IfSome o (λ c. CountsNodes c upper m r value fresh old nodes)
nodes_counted None upper m r p value used fresh nodes old place root none lie front planned = tt
nodes_counted (Some c) upper m r p value used fresh nodes old place root none lie front planned = record {
  root = root;
  lie = lie;
  planned = subst (λ (q : Place). PlansNodes (drafted old c) q upper value 0 (made_key m) fresh (Ok nodes)) place (subst (λ (n : ℕ). PlansNodes (drafted old c) p upper value n (made_key m) fresh (Ok nodes)) none planned);
  front = front;
}

pub level_planned : (o : Option Content) (upper : List ℕ) (m : NewFile) (r : Record) (value root node fresh : List ℕ) (nodes : NodesPlan) (old mid : List Touched) → mid ≡ old → IfSome o (λ c. IsLevel (drafted old c) r value root node) → IfSome o (λ c. CountsNodes c upper m r value fresh mid nodes)
    → IfSome o (λ c. PlansLevel c upper m r old root node fresh nodes)
level_planned None upper m r value root node fresh nodes old mid same level counts = tt
level_planned (Some c) upper m r value root node fresh nodes old mid same level counts = record { value = value; level = level; counts = subst (λ (l : List Touched). CountsNodes c upper m r value fresh l nodes) same counts }

pub nodes_behind : (o : Option Content) (upper : List ℕ) (m : NewFile) (r : Record) (p : Place) (value : List ℕ) (used : ℕ) (fresh : List ℕ) (nodes : NodesPlan) (old : List Touched) → p ≡ index_place 8 r → root_value r ≡ Some value → used ≡ used_of r.attrs → TakesFront fresh nodes
    → IfSome o (λ c. PlansNodes (drafted old c) p upper value used (made_key m) fresh (Ok nodes)) → IfSome o (λ c. PlansBehind c upper m r fresh old nodes)
nodes_behind None upper m r p value used fresh nodes old place root as_used front planned = tt
nodes_behind (Some c) upper m r p value used fresh nodes old place root as_used front planned = record {
  value = value;
  root = root;
  planned = subst (λ (q : Place). PlansNodes (drafted old c) q upper value (used_of r.attrs) (made_key m) fresh (Ok nodes)) place (subst (λ (n : ℕ). PlansNodes (drafted old c) p upper value n (made_key m) fresh (Ok nodes)) as_used planned);
  front = front;
}

-- ---- the file

pub planned_put : (o : Option Content) (s : VolumeStreams) (numbers : Extents) (upper : List ℕ) (m : NewFile) (r : Record) (fresh : List ℕ) (nodes : NodesPlan) (old mid new : List Touched) → mid ≡ old → IfSome o (λ c. PlansBehind c upper m r fresh old nodes) → IfSome o (λ c. PutsMadeIn c s numbers m r nodes mid new)
    → IfSome o (λ c. PutsPlanned c s numbers upper m r fresh old new)
planned_put None s numbers upper m r fresh nodes old mid new same plans made = tt
planned_put (Some c) s numbers upper m r fresh nodes old mid new same plans made = record { nodes = nodes; plans = plans; made = subst (λ (l : List Touched). PutsMadeIn c s numbers m r nodes l new) same made }

pub behind_put : (o : Option Content) (s : VolumeStreams) (numbers : Extents) (upper : List ℕ) (m : NewFile) (q d : Record) (fresh : List ℕ) (old mid new : List Touched) → d ≡ timed_directory m.stamp q → IfSome o (λ c. PutsTimes c s m.parent.number m.stamp q old mid) → IfSome o (λ c. PutsPlanned c s numbers upper m d fresh mid new)
    → IfSome o (λ c. PutsBehind c s numbers upper m q fresh old new)
behind_put None s numbers upper m q d fresh old mid new is times made = tt
behind_put (Some c) s numbers upper m q d fresh old mid new is times made = record { timed = mid; times = times; made = subst (λ (x : Record). PutsPlanned c s numbers upper m x fresh mid new) is made }

-- ---- the blocks and the level

has_space : (b : Bool) (room : ℕ) → needs b room ≡ Ok tt → b ≡ true
has_space true room is = refl
has_space false room is = absurd cc

space_is : (wanted : ℕ) (bits : List Bool) → space_for wanted bits ≡ Ok tt → wanted ≤ count_by not bits
space_is wanted bits is = leb-true wanted (count_by not bits) (has_space (leb wanted (count_by not bits)) (count_by not bits) is)

pub raised_into : (o : Option Content) (per : ℕ) (bits : List Bool) (s : VolumeStreams) (index : IndexBlocks) (more : ℕ) (bytes root body node : List ℕ) (old new : List Touched) (z : Resized) (q : Record) → per ≡ 8 → bytes ≡ root → body ≡ node → space_for (wanted_clusters per more index.extents) bits ≡ Ok tt
    → fits_room (raised_file per (taken_for per bits more index.extents) more bytes index) ≡ Ok tt → q ≡ written_record z.file → FitsButRoom q → IfSome o (λ c. RaisesBlocks c per bits s.bitmap s.table s.mirror index more bytes body old new z) → IfSome o (λ c. RaisesInto c bits s index more root node old new q)
raised_into None per bits s index more bytes root body node old new z q eight root_is node_is space room is fits put = tt
raised_into (Some c) per bits s index more bytes root body node old new z q eight root_is node_is space room is fits put = record {
  z = z;
  raises =
      subst (λ (p : ℕ). RaisesBlocks c p bits s.bitmap s.table s.mirror index more root node old new z) eight
      (subst (λ (x : List ℕ). RaisesBlocks c per bits s.bitmap s.table s.mirror index more x node old new z) root_is (subst (λ (x : List ℕ). RaisesBlocks c per bits s.bitmap s.table s.mirror index more bytes x old new z) node_is put));
  space = space_is (wanted_clusters 8 more index.extents) bits (subst (λ (p : ℕ). space_for (wanted_clusters p more index.extents) bits ≡ Ok tt) eight space);
  room = subst (λ (p : ℕ). fits_room (raised_file p (taken_for p bits more index.extents) more root index) ≡ Ok tt) eight (subst (λ (x : List ℕ). fits_room (raised_file per (taken_for per bits more index.extents) more x index) ≡ Ok tt) root_is room);
  is = is;
  fits = fits;
}

pub raised_counted : (o : Option Content) (bits : List Bool) (s : VolumeStreams) (n : ℕ) (r : Record) (root node : List ℕ) (more : ℕ) (old new : List Touched) (q : Record) (index : IndexBlocks) → index.number ≡ n → HasStreams r index → index.file ≡ file_with_streams r → index.extents.real ≡ 4096 * (index.extents.real / 4096)
    → 0 < wanted_clusters 8 more index.extents → first_fresh index ≡ level_vcn r → MayGrowBlocks 8 (length bits) more index → CountsOf bits r 56 more → IfSome o (λ c. RaisesInto c bits s index more root node old new q) → IfSome o (λ c. RaisesCounted c bits s n r root node more old new q)
raised_counted None bits s n r root node more old new q index number streams file whole some first stands counts put = tt
raised_counted (Some c) bits s n r root node more old new q index number streams file whole some first stands counts put = record { index = index; number = number; streams = streams; file = file; whole = whole; some = some; first = first; stands = stands; into = put; counts = counts }

-- ---- all of it

pub level_put : (o : Option Content) (bits : List Bool) (s : VolumeStreams) (numbers : Extents) (upper : List ℕ) (m : NewFile) (r q : Record) (root node got fresh : List ℕ) (more count : ℕ) (old mid new : List Touched) → got ≡ fresh → more ≡ count → IfSome o (λ c. RaisesCounted c bits s m.parent.number r root node more old mid q)
    → IfSome o (λ c. PutsBehind c s numbers upper m q got mid new) → IfSome o (λ c. PutsLevel c bits s numbers upper m r root node fresh count old new)
level_put None bits s numbers upper m r q root node got fresh more count old mid new same is raises put = tt
level_put (Some c) bits s numbers upper m r q root node got fresh more count old mid new same is raises put = record {
  q = q;
  grown = mid;
  raises = subst (λ (n : ℕ). RaisesCounted c bits s m.parent.number r root node n old mid q) is raises;
  behind = subst (λ (l : List ℕ). PutsBehind c s numbers upper m q l mid new) same put;
}

pub raised_put : (o : Option Content) (bits : List Bool) (s : VolumeStreams) (numbers : Extents) (upper : List ℕ) (m : NewFile) (r : Record) (root node fresh : List ℕ) (nodes : NodesPlan) (old mid new : List Touched) → has_type standard_information r ≡ true → IsQuiet r → mid ≡ old → IfSome o (λ c. PlansLevel c upper m r old root node fresh nodes)
    → IfSome o (λ c. PutsLevel c bits s numbers upper m r root node fresh (1 + length nodes.taken.items) mid new) → IfSome o (λ c. PutsRaised c bits s numbers upper m r old new)
raised_put None bits s numbers upper m r root node fresh nodes old mid new info quiet same plans put = tt
raised_put (Some c) bits s numbers upper m r root node fresh nodes old mid new info quiet same plans put = record {
  info = info;
  quiet = quiet;
  root = root;
  node = node;
  fresh = fresh;
  first = nodes;
  plans = plans;
  put = subst (λ (l : List Touched). PutsLevel c bits s numbers upper m r root node fresh (1 + length nodes.taken.items) l new) same put;
}

pub raised_full : (o : Option Content) (bits : List Bool) (upper : List ℕ) (m : NewFile) (r : Record) (root node fresh : List ℕ) (nodes : NodesPlan) (old : List Touched) (used : ℕ) → IsTooFull bits r 56 (1 + length nodes.taken.items) used → IfSome o (λ c. PlansLevel c upper m r old root node fresh nodes)
    → IfSome o (λ c. IsRaisedFull c bits upper m r old used)
raised_full None bits upper m r root node fresh nodes old used full plans = tt
raised_full (Some c) bits upper m r root node fresh nodes old used full plans = record { root = root; node = node; fresh = fresh; first = nodes; plans = plans; full = full }

-- ---- below a result

pub on_ok : (x : Result (Unit {0}) RaiseFault) (P Q : Type 0) → (P → Q) → OnOk x P → OnOk x Q
on_ok (Ok u) P Q to holds = to holds
on_ok (Err e) P Q to holds = holds

on_full : (P Q : ℕ → Type 0) (e : RaiseFault) → ((used : ℕ) → P used → Q used) → OnFull P e → OnFull Q e
on_full P Q (Deep height) to holds = tt
on_full P Q Fault to holds = tt
on_full P Q (Full used) to holds = to used holds
on_full P Q Memory to holds = tt
on_full P Q Unplanned to holds = tt

pub if_full : (x : Result (Unit {0}) RaiseFault) (P Q : ℕ → Type 0) → ((used : ℕ) → P used → Q used) → IfErr x (OnFull P) → IfErr x (OnFull Q)
if_full (Ok u) P Q to holds = holds
if_full (Err e) P Q to holds = on_full P Q e to holds

on_deep : (P Q : ℕ → Type 0) (e : RaiseFault) → ((height : ℕ) → P height → Q height) → OnDeep P e → OnDeep Q e
on_deep P Q (Deep height) to holds = to height holds
on_deep P Q Fault to holds = tt
on_deep P Q (Full used) to holds = tt
on_deep P Q Memory to holds = tt
on_deep P Q Unplanned to holds = tt

pub if_deep : (x : Result (Unit {0}) RaiseFault) (P Q : ℕ → Type 0) → ((height : ℕ) → P height → Q height) → IfErr x (OnDeep P) → IfErr x (OnDeep Q)
if_deep (Ok u) P Q to holds = holds
if_deep (Err e) P Q to holds = on_deep P Q e to holds
