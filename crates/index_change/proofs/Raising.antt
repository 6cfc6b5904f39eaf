-- The index after a plan of one level more.
use Rattle.std.proofs.Common.{◌≡◌, ℕ, ◌<◌, ◌≤◌, true, List, [], ◌∷◌, ◌++◌, append-nil, Option, Some, None, Ok, Err, refl, sym, ap, ◌∙◌, subst, arith}
use Rattle.std.specs.Prelude.{IfSome}
use Rattle.record_model.specs.disk_model.Content.{Content, HasSizes}
use Rattle.record_model.specs.declared.entry.Entry.{Entry as Raw}
use Rattle.record_model.specs.Nodes.{root_at}
use Rattle.index_tree.specs.index_model.Trees.{Tree, Down, walk, levels, raws_of, Stands}
use Rattle.index_tree.specs.index_model.Indexes.{Place, node_of_block, links_of}
use Rattle.index_tree.specs.index_model.Laws.{HoldsIndex}
use Rattle.index_plan.specs.declared.plan.Rooted.{Rooted}
use Rattle.index_plan.specs.declared.write.Write.{Write}
use Rattle.index_plan.specs.Laws.{NewTree, Once}
use Rattle.index_plan.specs.Lists.{topped}
use Rattle.index_plan.specs.Paths.{over}
use Rattle.index_plan.specs.Plans.{Plan}
use Rattle.index_plan.specs.Reading.{nodes_of as plan_nodes}
use Rattle.index_plan.proofs.Standing.{over_here, over_there, stands_frame}
use Rattle.index_tree.specs.declared.fault.TreeFault.{TreeFault}
use Rattle.index_tree.specs.declared.fault.TreeFault.TheVariants.{Node, Present, Absent, Deep, View}
use Rattle.index_tree.specs.Calls.{WalkGives}
use Rattle.index_change.specs.declared.nodes_plan.NodesPlan.{NodesPlan}
use Rattle.index_change.specs.declared.plan.DirPlan.{DirPlan}
use Rattle.index_change.specs.Changing.{IsLaidOut, uses}
use Rattle.index_change.specs.Heights.{height_of}
use Rattle.index_change.specs.Levels.{CanGoDown, Raised, LevelGives}
use Rattle.index_change.specs.NodePlans.{rooted_of, IsDrawn, LaysOut}
use Rattle.index_change.specs.Plans.{clusters_of, root_room}
use Rattle.index_change.proofs.Joining.{drawn_is, drawn_front, laid_made}
use Rattle.index_change.proofs.NewIndexes.{as_plan, made_index}
use Rattle.index_change.proofs.Tall.{root_raws, index_height}

-- a plan that writes nothing yet, and may take this block
unwritten : ℕ → Plan
unwritten f = record { writes = []; fresh = f ∷ [] }

-- the root's entries in that block
abbrev pub raised : ℕ → List Raw → Rooted
raised f root = topped root (record { writes = []; fresh = f ∷ [] }) (f ∷ [])

node_in : ℕ → List Raw → Write
node_in f root = record { vcn = f; entries = root }

raised_tree : (nodes : ℕ → Option (List Raw)) (t : Tree) (f room : ℕ) → Stands nodes t → Once t (f ∷ []) → NewTree nodes t (f ∷ []) (walk t) (λ x. 0) room true (raised f (raws_of t))
unfolding node_in
raised_tree nodes t f room st once = record {
  tree = Down f t;
  root = refl;
  stands = (
    over_here nodes f (raws_of t) [],
    stands_frame nodes (over nodes (node_in f (raws_of t) ∷ [])) t st (λ x in_it. over_there nodes x (node_in f (raws_of t)) [] (let o = once x in omega arith)),
  );
  walked = refl;
  numbers = λ x. omega arith;
  placed = λ x. omega arith;
  height = omega arith;
  has_room = λ m. absurd cc;
  one_entry = λ m enough. (f, refl);
  written = omega arith;
  taken = omega arith;
}

module _ (p : Place) (upper value : List ℕ) (used f : ℕ) (root : List Raw) where
  -- the index with a level more
  raised_index : (c : Content) (n : NodesPlan) (plan : DirPlan) (t : Tree) → HasSizes c → root_at value ≡ Ok root → IsDrawn (f ∷ []) (raised f root) n → LaysOut p (clusters_of value) n plan → levels t < 16 → HoldsIndex c p upper value t → Once t (f ∷ []) → IsLaidOut p (uses t (f ∷ [])) → Raised c p upper value used f t plan
  raised_index c n plan t sized read drawn laid low h once places =
      let same_root : root ≡ raws_of t = root_raws c p upper value root t read h in
      let form : raised f root ≡ rooted_of (f ∷ []) n = drawn_is (f ∷ []) (raised f root) n drawn in
      let form_t : raised f (raws_of t) ≡ rooted_of (f ∷ []) n = ap (raised f) (sym same_root) ∙ form in
      let becomes = subst (λ (r : Rooted). NewTree (plan_nodes (node_of_block c p)) t (f ∷ []) (walk t) (λ x. 0) (root_room used value) true r) form_t (raised_tree (plan_nodes (node_of_block c p)) t f (root_room used value) (as_plan (node_of_block c p) t h.is_index.stands) once) in
      record {
        index =
            made_index c p upper value used t (f ∷ []) (f ∷ []) [] (rooted_of (f ∷ []) n) plan true (walk t) (λ x. 0) (links_of (walk t)) sized places (laid_made p (clusters_of value) (f ∷ []) n plan (drawn_front (f ∷ []) (raised f root) n drawn) laid) once (omega arith) (λ m. (f, drawn.root)) (λ x. omega arith) becomes (λ x. refl) (omega arith) refl h.is_index.ordered;
        taken = laid.taken ∙ taken_is n.taken.items drawn.taken;
      }
    where
      taken_is : (taken : List ℕ) → taken ++ [] ≡ f ∷ [] → taken ≡ f ∷ []
      taken_is taken e = sym (append-nil taken) ∙ e

  -- whether the root's entries can go into a block, as those of the tree
  can_of : (c : Content) (t : Tree) → root_at value ≡ Ok root → HoldsIndex c p upper value t → CanGoDown root → CanGoDown (raws_of t)
  can_of c t read h can = subst CanGoDown (root_raws c p upper value root t read h) can

  pub level_known : (known now : Option Content) (n : NodesPlan) (plan : DirPlan) (height : ℕ) → now ≡ known → IfSome known HasSizes → root_at value ≡ Ok root → CanGoDown root → height < 16 → IfSome now (λ c. height ≡ height_of (node_of_block c p) root) → IsDrawn (f ∷ []) (raised f root) n → LaysOut p (clusters_of value) n plan → IfSome known (λ c. LevelGives c p upper value used f (Ok (Some plan)))
  level_known None now n plan height e sized read can low is drawn laid = tt
  level_known (Some c) now n plan height e sized read can low is drawn laid = λ t h.
      let counted : height ≡ levels t = subst (λ (o : Option Content). IfSome o (λ c. height ≡ height_of (node_of_block c p) root)) e is ∙ index_height c p upper value root t read h in
      (can_of c t read h can, λ once places. raised_index c n plan t sized read drawn laid (omega arith) h once places)

  pub none_known : (known : Option Content) → root_at value ≡ Ok root → (CanGoDown root → ⊥) → IfSome known (λ c. LevelGives c p upper value used f (Ok None))
  none_known None read cannot = tt
  none_known (Some c) read cannot = λ t h can. cannot (subst CanGoDown (sym (root_raws c p upper value root t read h)) can)

  pub deep_known : (known now : Option Content) (height : ℕ) → now ≡ known → root_at value ≡ Ok root → CanGoDown root → 16 ≤ height → IfSome now (λ c. height ≡ height_of (node_of_block c p) root) → IfSome known (λ c. LevelGives c p upper value used f (Err (Deep height)))
  deep_known None now height e read can high is = tt
  deep_known (Some c) now height e read can high is = λ t h.
      let counted : height ≡ levels t = subst (λ (o : Option Content). IfSome o (λ c. height ≡ height_of (node_of_block c p) root)) e is ∙ index_height c p upper value root t read h in
      let low = h.is_index.height in
      (sym counted, omega arith, can_of c t read h can)

  stopped : (c : Content) (e : TreeFault) → WalkGives c p upper value (Err e) → LevelGives c p upper value used f (Err e)
  stopped c (Node vcn rule) h = h
  stopped c Present h = absurd h
  stopped c Absent h = absurd h
  stopped c (Deep height) h = absurd h
  stopped c (View cause) h = tt

  pub walk_stopped : (known : Option Content) (e : TreeFault) → IfSome known (λ c. WalkGives c p upper value (Err e)) → IfSome known (λ c. LevelGives c p upper value used f (Err e))
  walk_stopped None e h = tt
  walk_stopped (Some c) e h = stopped c e h
