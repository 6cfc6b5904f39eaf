-- A removal at the place that was found.
use Rattle.std.proofs.Common.{◌≡◌, ℕ, ◌<◌, ◌≤◌, Bool, List, [], ◌++◌, Option, Some, None, Result, Ok, Err, sym, ap, ◌∙◌, subst, arith, IsTrue, ◌+◌, length, refl}
use Rattle.record_model.specs.declared.entry.Entry.{Entry as Raw}
use Rattle.index_model.specs.declared.key.Key.{Key}
use Rattle.index_model.specs.Trees.{Tree, times, levels, raws_of, Stands, one_if}
use Rattle.index_model.specs.Walks.{Broken, root_vcn}
use Rattle.index_plan.specs.declared.write.Write.{Write}
use Rattle.index_plan.specs.declared.side.KeySide.{KeySide}
use Rattle.std.specs.Prelude.{IfSome, IfOk, OnOk}
use Rattle.index_plan.specs.declared.fault.PlanFault.{PlanFault}
use Rattle.index_plan.specs.declared.place.Place.{Place}
use Rattle.index_plan.specs.declared.plan.Rooted.{Rooted}
use Rattle.index_plan.specs.Plans.{Plan, Spot}
use Rattle.index_plan.specs.Lists.{place, way}
use Rattle.index_plan.specs.Takings.{Drawn, drawn, none_drawn, key_of, plan_with, removed, too_full, first_chain}
use Rattle.index_plan.specs.Reading.{NodeReads, nodes_of}
use Rattle.index_plan.specs.Seeking.{seek_of}
use Rattle.index_plan.specs.Room.{tight_count}
use Rattle.index_plan.proofs.Growing.{some_is}
use Rattle.index_plan.specs.Laws.{NewTree, Sought, full_without, RemovesFrom, NeedsLevelWithout, HasNone, TakesFewOut}
use Rattle.index_plan.proofs.Sought.{Finds, TheHit, seeks}
use Rattle.index_plan.proofs.Whole.{remove_law}
use Rattle.index_plan.proofs.Steps.{by_one}

ok_is : (x y : Option Place) → ◌≡◌ {A = Result (Option Place) Broken} (Ok x) (Ok y) → x ≡ y
ok_is x y e = cc

-- what a search says of an index that the nodes stand for
found_in : (reads : NodeReads) (side : Key → KeySide) (root : List Raw) (o : Option Place) (t : Tree) → seek_of reads side root ≡ Ok o → root ≡ raws_of t → Stands (nodes_of reads) t → levels t ≤ 16 → Finds side t 0 o
found_in reads side root o t is root_is st low =
    let s = seeks reads side t 15 root_vcn 0 st low in
    subst (λ (x : Option Place). Finds side t 0 x) (ok_is s.0 o (sym s.1 ∙ ap (seek_of reads side) (sym root_is) ∙ is)) s.2

pub has_none : (reads : NodeReads) (side : Key → KeySide) (root : List Raw) → seek_of reads side root ≡ Ok None → HasNone (nodes_of reads) side root
has_none reads side root is t root_is st low = found_in reads side root None t is root_is st low

abbrev sought_of : (side : Key → KeySide) (t : Tree) (p : Place) → TheHit side t 0 p → Sought side t
sought_of side t p f = record { key = f.key; here = f.here; way_to = f.way_to; part = f.part; leads = f.leads; starts = f.starts }

-- what is planned at the place that was found
abbrev pub out_of : List Write → Drawn
out_of chain = drawn none_drawn chain

abbrev pub removed_at : ℕ → List Raw → ℕ → List Spot → List Write → Plan → Rooted
removed_at room root at path chain plan = removed room root at path (key_of (out_of chain).taken) (plan_with plan (out_of chain).taken)

abbrev pub full_at : ℕ → List Raw → ℕ → List Spot → List Write → Plan → Bool
full_at room root at path chain plan = too_full room root at path (key_of (out_of chain).taken) (plan_with plan (out_of chain).taken)

full_is : (side : Key → KeySide) (room : ℕ) (root : List Raw) (t : Tree) (plan : Plan) (p : Place) (f : TheHit side t 0 p) → plan.writes ≡ [] → root ≡ raws_of t → full_at room root p.at p.trail.path p.trail.chain plan ≡ full_without room t f.way_to f.part plan.fresh
full_is side room root t plan p f empty root_is =
    let at_is : p.at ≡ place f.way_to = let a = f.at in omega arith in
    ap (λ (l : List Raw). full_at room l p.at p.trail.path p.trail.chain plan) root_is
    ∙ ap (λ (i : ℕ). full_at room (raws_of t) i p.trail.path p.trail.chain plan) at_is
    ∙ ap (λ (l : List Spot). full_at room (raws_of t) (place f.way_to) l p.trail.chain plan) f.path
    ∙ ap (λ (l : List Write). full_at room (raws_of t) (place f.way_to) (way f.way_to t) l plan) f.chain
    ∙ ap (λ (w : List Write). full_at room (raws_of t) (place f.way_to) (way f.way_to t) (first_chain f.part) (record { writes = w; fresh = plan.fresh })) empty

removed_is : (side : Key → KeySide) (room : ℕ) (root : List Raw) (t : Tree) (plan : Plan) (p : Place) (f : TheHit side t 0 p) → plan.writes ≡ [] → root ≡ raws_of t → removed_at room root p.at p.trail.path p.trail.chain plan ≡ removed_at room (raws_of t) (place f.way_to) (way f.way_to t) (first_chain f.part) (record { writes = []; fresh = plan.fresh })
removed_is side room root t plan p f empty root_is =
    let at_is : p.at ≡ place f.way_to = let a = f.at in omega arith in
    ap (λ (l : List Raw). removed_at room l p.at p.trail.path p.trail.chain plan) root_is
    ∙ ap (λ (i : ℕ). removed_at room (raws_of t) i p.trail.path p.trail.chain plan) at_is
    ∙ ap (λ (l : List Spot). removed_at room (raws_of t) (place f.way_to) l p.trail.chain plan) f.path
    ∙ ap (λ (l : List Write). removed_at room (raws_of t) (place f.way_to) (way f.way_to t) l plan) f.chain
    ∙ ap (λ (w : List Write). removed_at room (raws_of t) (place f.way_to) (way f.way_to t) (first_chain f.part) (record { writes = w; fresh = plan.fresh })) empty

pub removes : (reads : NodeReads) (side : Key → KeySide) (root : List Raw) (room height : ℕ) (plan : Plan) (p : Place) (planned : Rooted) (freed : List ℕ) → plan.writes ≡ [] → planned ≡ removed_at room root p.at p.trail.path p.trail.chain plan → freed ≡ (out_of p.trail.chain).freed → (IsTrue (full_at room root p.at p.trail.path p.trail.chain plan) → height < 16) → seek_of reads side root ≡ Ok (Some p) → RemovesFrom (nodes_of reads) side plan.fresh root room height planned freed
removes reads side root room height plan p planned freed empty is freed_is level sought t root_is st once low =
    let f : TheHit side t 0 p = found_in reads side root (Some p) t sought root_is st low in
    let fresh : List ℕ = plan.fresh in
    let law = remove_law (nodes_of reads) f.key fresh f.way_to t f.part room st once low f.leads f.starts in
    let more : Bool = full_without room t f.way_to f.part fresh in
    let same_freed : freed ≡ (out_of (first_chain f.part)).freed = freed_is ∙ ap (λ (l : List Write). (out_of l).freed) f.chain in
    let same_plan = is ∙ removed_is side room root t plan p f empty root_is in
    record {
      sought = sought_of side t p f;
      before = law.0;
      behind = law.1;
      had = law.2;
      new = subst (λ (r : Rooted). NewTree (nodes_of reads) t fresh (law.0 ++ law.1) (λ x. times x freed) room more r) (sym same_plan)
          (subst (λ (l : List ℕ). NewTree (nodes_of reads) t fresh (law.0 ++ law.1) (λ x. times x l) room more (removed_at room (raws_of t) (place f.way_to) (way f.way_to t) (first_chain f.part) (record { writes = []; fresh = fresh }))) (sym same_freed) law.3);
      level = subst (λ (b : Bool). IsTrue b → height < 16) (full_is side room root t plan p f empty root_is) level;
    }

pub needs_level : (reads : NodeReads) (side : Key → KeySide) (root : List Raw) (room : ℕ) (plan : Plan) (p : Place) → plan.writes ≡ [] → IsTrue (full_at room root p.at p.trail.path p.trail.chain plan) → seek_of reads side root ≡ Ok (Some p) → NeedsLevelWithout (nodes_of reads) side plan.fresh root room
needs_level reads side root room plan p empty full sought t root_is st low =
    let f : TheHit side t 0 p = found_in reads side root (Some p) t sought root_is st low in
    (sought_of side t p f, subst (λ (b : Bool). IsTrue b) (full_is side room root t plan p f empty root_is) full)

-- ---- the same over a plan's answer

removed_same : (room : ℕ) (root : List Raw) (at : ℕ) (path path' : List Spot) (chain chain' : List Write) (plan : Plan) → path ≡ path' → chain ≡ chain' → removed_at room root at path chain plan ≡ removed_at room root at path' chain' plan
removed_same room root at path path' chain chain' plan e f = ap (λ (l : List Spot). removed_at room root at l chain plan) e ∙ ap (λ (l : List Write). removed_at room root at path' l plan) f

full_same : (room : ℕ) (root : List Raw) (at : ℕ) (path path' : List Spot) (chain chain' : List Write) (plan : Plan) → path ≡ path' → chain ≡ chain' → full_at room root at path chain plan ≡ full_at room root at path' chain' plan
full_same room root at path path' chain chain' plan e f = ap (λ (l : List Spot). full_at room root at l chain plan) e ∙ ap (λ (l : List Write). full_at room root at path' l plan) f

pub answer : (r : Result (Rooted × List ℕ) PlanFault) (known first : Option NodeReads) (side : Key → KeySide) (root : List Raw) (room height : ℕ) (plan : Plan) (o : Option Place) (p : Place) (path : List Spot) (chain : List Write) → first ≡ known → plan.writes ≡ [] → o ≡ Some p → path ≡ p.trail.path → chain ≡ p.trail.chain
    → IfOk r (λ x. x.0 ≡ removed_at room root p.at path chain plan) → IfOk r (λ x. x.1 ≡ (out_of chain).freed) → OnOk r (IsTrue (full_at room root p.at path chain plan) → height < 16)
    → IfSome first (λ reads. seek_of reads side root ≡ Ok o) → IfOk r (λ x. IfSome known (λ reads. RemovesFrom (nodes_of reads) side plan.fresh root room height x.0 x.1))
answer (Err e) known first side root room height plan o p path chain same empty is_some is_path is_chain planned freed level found = tt
answer (Ok x) known first side root room height plan o p path chain same empty is_some is_path is_chain planned freed level found =
    by_one known first (λ reads. seek_of reads side root ≡ Ok o) (λ reads. RemovesFrom (nodes_of reads) side plan.fresh root room height x.0 x.1) same
    (λ reads w. removes reads side root room height plan p x.0 x.1 empty
    (planned ∙ removed_same room root p.at path p.trail.path chain p.trail.chain plan is_path is_chain)
    (freed ∙ ap (λ (l : List Write). (out_of l).freed) is_chain)
    (subst (λ (b : Bool). IsTrue b → height < 16) (full_same room root p.at path p.trail.path chain p.trail.chain plan is_path is_chain) level)
    (w ∙ ap (λ (y : Option Place). Ok y) is_some)) found

pub answer_deep : (known first : Option NodeReads) (side : Key → KeySide) (root : List Raw) (room : ℕ) (plan : Plan) (o : Option Place) (p : Place) (path : List Spot) (chain : List Write) → first ≡ known → plan.writes ≡ [] → o ≡ Some p → path ≡ p.trail.path → chain ≡ p.trail.chain → IfSome first (λ reads. seek_of reads side root ≡ Ok o) → IsTrue (full_at room root p.at path chain plan) → IfSome known (λ reads. NeedsLevelWithout (nodes_of reads) side plan.fresh root room)
answer_deep known first side root room plan o p path chain same empty is_some is_path is_chain found full =
    by_one known first (λ reads. seek_of reads side root ≡ Ok o) (λ reads. NeedsLevelWithout (nodes_of reads) side plan.fresh root room) same
    (λ reads w. needs_level reads side root room plan p empty (subst (λ (b : Bool). IsTrue b) (full_same room root p.at path p.trail.path chain p.trail.chain plan is_path is_chain) full) (w ∙ ap (λ (y : Option Place). Ok y) is_some)) found

pub answer_none : (known first : Option NodeReads) (side : Key → KeySide) (root : List Raw) (o : Option Place) → first ≡ known → o ≡ None → IfSome first (λ reads. seek_of reads side root ≡ Ok o) → IfSome known (λ reads. HasNone (nodes_of reads) side root)
answer_none known first side root o same is_none found =
    by_one known first (λ reads. seek_of reads side root ≡ Ok o) (λ reads. HasNone (nodes_of reads) side root) same
    (λ reads w. has_none reads side root (w ∙ ap (λ (y : Option Place). Ok y) is_none)) found

pub answer_few : (known : Option NodeReads) (side : Key → KeySide) (root : List Raw) (room : ℕ) (plan : Plan) (o : Option Place) (p : Place) (path : List Spot) (chain : List Write) (planned : Rooted) → o ≡ Some p → path ≡ p.trail.path → chain ≡ p.trail.chain → length plan.fresh ≤ length planned.plan.fresh + tight_count path + one_if (full_at room root p.at path chain plan) → IfSome known (λ reads. seek_of reads side root ≡ Ok o) → IfSome known (λ reads. TakesFewOut reads side plan root room planned)
answer_few known side root room plan o p path chain planned is_some is_path is_chain h found =
    by_one known known (λ reads. seek_of reads side root ≡ Ok o) (λ reads. TakesFewOut reads side plan root room planned) refl
    (λ reads w q is.
    let same : Some p ≡ Some q = sym is_some ∙ ok_is _ _ (sym w ∙ is) in
    subst (λ (y : Place). length plan.fresh ≤ length planned.plan.fresh + tight_count y.trail.path + one_if (full_at room root y.at y.trail.path y.trail.chain plan)) (some_is p q same)
    (subst (λ (l : List Write). length plan.fresh ≤ length planned.plan.fresh + tight_count p.trail.path + one_if (full_at room root p.at p.trail.path l plan)) is_chain
    (subst (λ (l : List Spot). length plan.fresh ≤ length planned.plan.fresh + tight_count l + one_if (full_at room root p.at l chain plan)) is_path h))) found
