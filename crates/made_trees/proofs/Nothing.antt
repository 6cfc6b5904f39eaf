-- A draft that touched nothing, and a file that is made behind it.
use Rattle.std.proofs.Common.{◌≡◌, ℕ, List, [], ◌∷◌, Some, None, refl, sym, ap, subst, inl, arith}
use Rattle.std.specs.List.{AllByRecursion}
use Rattle.disk_model.specs.declared.block.BlockKind.{BlockKind}
use Rattle.disk_model.specs.Content.{Content, HasSizes}
use Rattle.record_model.specs.Records.{Record}
use Rattle.file_tree.specs.declared.node.Node.{Node}
use Rattle.index_model.specs.Trees.{Tree}
use Rattle.made_files.specs.index_change.declared.nodes_plan.NodesPlan.{NodesPlan}
use Rattle.state_model.specs.declared.geometry.Geometry.{Geometry}
use Rattle.state_model.specs.declared.stream.Extents.{Extents}
use Rattle.volume_model.specs.Volumes.{Volume, cluster_bits}
use Rattle.volume_state.specs.Trees.{tree_of}
use Rattle.plan_draft.specs.declared.touched.Touched.{Touched}
use Rattle.plan_draft.specs.Drafts.{drafted}
use Rattle.plan_blocks.specs.Blocks.{RoomDiffers}
use Rattle.written_values.specs.plan_model.Drafts.{gives_none}
use Rattle.written_values.proofs.plan_model.Drafting.{begins_empty}
use Rattle.written_values.specs.step_model.Placing.{Growth, AllPlaced}
use Rattle.written_values.specs.step_model.Contents.{HasGrown, IsLeft}
use Rattle.written_values.specs.file_puts.declared.streams.VolumeStreams.{VolumeStreams}
use Rattle.written_values.proofs.Joining.{nothing_put, nothing_kept}
use Rattle.made_files.specs.file_makes.declared.newfile.NewFile.{NewFile}
use Rattle.made_files.specs.record_times.Laws.{TimesAreSet}
use Rattle.made_files.specs.new_files.Laws.{NewFileReads}
use Rattle.made_trees.specs.Created.{MakesFileBy, MadeFilesAreTrees}
use Rattle.made_trees.specs.Left.{StaysGrown, MadeFilesAreLeft}
use Rattle.made_trees.specs.Grown.{IsOfGrowth, KeepsIndex, NoneHasGrown}
use Rattle.made_trees.specs.Behind.{MakesFileBehind}
use Rattle.made_trees.proofs.Going.{made, has_made_file}
use Rattle.made_trees.proofs.Leaving.{left}

all_of_growth : (v : Volume) (n : ℕ) (l : List Growth) → AllByRecursion (StaysGrown v n) l → AllByRecursion (IsOfGrowth n) l
all_of_growth v n [] all = tt
all_of_growth v n (h ∷ l) all = (inl all.0.0, all_of_growth v n l all.1)

all_stay : (v : Volume) (n : ℕ) (l : List Growth) → AllByRecursion (StaysGrown v n) l → AllByRecursion (λ h. HasGrown v v h) l
all_stay v n [] all = tt
all_stay v n (h ∷ l) all = (all.0.1, all_stay v n l all.1)

pub room_differs_not : (c : Content) (v : Volume) → HasSizes c → RoomDiffers (tree_of c v) (tree_of (drafted [] c) v)
room_differs_not c v sized = (let tree : RoomDiffers (tree_of c v) (tree_of c v) = record { nodes = λ m. refl; links = refl; spare = refl; count = refl; journal = refl } in subst (λ (y : Content). RoomDiffers (tree_of c v) (tree_of y v)) (sym (nothing_put c sized)) tree)

pub index_stays : (c : Content) (v : Volume) (r : Record) → HasSizes c → KeepsIndex c v r (drafted [] c) v r
index_stays c v r sized = (let index : KeepsIndex c v r c v r = record { upper = refl; root = refl; nodes = λ i. refl } in subst (λ (y : Content). KeepsIndex c v r y v r) (sym (nothing_put c sized)) index)

none_given : (kind : BlockKind) → None ≡ Some kind → ⊥
none_given kind is = cc

pub none_grown : NoneHasGrown
none_grown c g clusters v n r growths sized state own placed stay =
    let same : drafted [] c ≡ c = nothing_put c sized in
    let left : IsLeft c v clusters (n ∷ []) growths c v = record {
      placed = placed;
      grown = all_stay v n growths stay;
      others = λ s apart. refl;
      bits = record { cleared = λ x low less. absurd (omega (arith, less)); set = λ x low less. absurd (omega (arith, less)); others = λ x low equal. refl };
      takes = λ s x more. absurd (omega (arith, more));
      stays = λ b apart. refl;
    }
    in
    record {
      kept = nothing_kept;
      gave = gives_none;
      bodies = [];
      same = λ b. refl;
      content = refl;
      draft = begins_empty c g clusters v sized state;
      given = λ kind x is. absurd (none_given kind is);
      own = own;
      names = λ i. refl;
      system = refl;
      tree = inl (room_differs_not c v sized);
      room = (let rooms = ap (λ (y : Content). (tree_of y v).room) same in omega (arith, rooms));
      streams = all_of_growth v n growths stay;
      left = subst (λ (y : Content). IsLeft c v clusters (n ∷ []) growths y v) (sym same) left;
    }

-- ---- a file

unfoldable pub behind_nothing : (c : Content) (g : Geometry) (clusters : ℕ) (v : Volume) (s : VolumeStreams) (numbers : Extents) (m : NewFile) (a : Node) (r : Record) (value : List ℕ) (used : ℕ) (t : Tree) (fresh : List ℕ) (nodes : NodesPlan) (timed new : List Touched) (growths : List Growth)
    → MakesFileBy c g clusters v s numbers m a r value used t fresh nodes timed new → AllPlaced (cluster_bits c v) growths → AllByRecursion (StaysGrown v m.parent.number) growths
    → MakesFileBehind c g clusters v s numbers m a r growths v r [] value used t fresh nodes timed new
behind_nothing c g clusters v s numbers m a r value used t fresh nodes timed new growths k placed stay = record {
  sized = k.sized;
  eight = k.eight;
  stands = k.stands;
  own = k.own;
  before = none_grown c g clusters v m.parent.number r growths k.sized k.stands k.own placed stay;
  streams = k.streams;
  info = k.info;
  fits = k.fits;
  node = k.node;
  referred = k.referred;
  times = k.times;
  made = k.made;
  outside = k.outside;
}

pub file_is_there : TimesAreSet → NewFileReads → MadeFilesAreTrees
unfolding behind_nothing
file_is_there times_set reads c g clusters v s numbers m a r value used t fresh nodes timed new k =
    let by : MakesFileBehind c g clusters v s numbers m a r [] v r [] value used t fresh nodes timed new = behind_nothing c g clusters v s numbers m a r value used t fresh nodes timed new [] k tt tt in
    let is = has_made_file times_set reads c g clusters v s numbers m a r [] v r [] value used t fresh nodes timed new by in (
      made times_set reads c g clusters v s numbers m a r [] v r [] value used t fresh nodes timed new by,
      record { gave = is.gave; bodies = is.bodies; same = is.same; content = is.content; draft = is.draft; tree = λ most. is.tree most (omega arith) },
    )

pub file_leaves : TimesAreSet → NewFileReads → MadeFilesAreLeft
unfolding behind_nothing
file_leaves times_set reads c g clusters v s numbers m a r value used t fresh nodes timed new growths k placed stay =
    left times_set reads c g clusters v s numbers m a r growths v r [] value used t fresh nodes timed new (behind_nothing c g clusters v s numbers m a r value used t fresh nodes timed new growths k placed stay)
