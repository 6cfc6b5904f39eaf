-- A plan along the way that was read.
use Rattle.std.proofs.Common.{◌≡◌, ℕ, Bool, List, [], Some, None, Result, Ok, sym, ap, ◌∙◌, subst, ◌≤◌, ◌+◌, length}
use Rattle.index_model.specs.declared.key.Key.{Key}
use Rattle.record_model.specs.declared.entry.Entry.{Entry as Raw}
use Rattle.index_plan.specs.declared.write.Write.{Write}
use Rattle.index_plan.specs.declared.plan.Rooted.{Rooted}
use Rattle.index_model.specs.Trees.{raw, raws_of, walk, one_if}
use Rattle.index_model.specs.Walks.{Broken}
use Rattle.index_plan.specs.Search.{path_to, put}
use Rattle.index_plan.specs.Plans.{Plan, Spot}
use Rattle.index_plan.specs.Lists.{rise, rooted, overfull, place, way}
use Rattle.index_plan.specs.Reading.{NodeReads, nodes_of, way_of, first_stop}
use Rattle.index_plan.specs.Room.{tight_count}
use Rattle.index_plan.specs.Laws.{NewTree, InsertsInto, AsLevel, PlansAlong, inserted_by}
use Rattle.index_plan.proofs.Ways.{first_place, read_way}
use Rattle.index_plan.proofs.Whole.{insert_law}

ok_is : (x y : List Spot) → ◌≡◌ {A = Result (List Spot) Broken} (Ok x) (Ok y) → x ≡ y
ok_is x y e = cc

pub inserts : (reads : NodeReads) (goes : Key → Bool) (new : Key) (root : List Raw) (room at : ℕ) (path : List Spot) (plan : Plan) (planned : Rooted) → plan.writes ≡ [] → at ≡ first_stop goes root → way_of reads goes root ≡ Ok path → planned ≡ rooted room root at (rise path (record { pending = Some (raw new None); plan = plan })) → InsertsInto (nodes_of reads) goes new plan.fresh root room planned
inserts reads goes new root room at path plan planned empty is_at is_path is t root_is st once rises low =
    let fresh : List ℕ = plan.fresh in
    let spots : path ≡ way (path_to goes t) t = ok_is _ _ (sym is_path ∙ ap (way_of reads goes) root_is ∙ read_way reads goes t st low) in
    let place_is : at ≡ place (path_to goes t) = is_at ∙ ap (first_stop goes) root_is ∙ first_place goes t in
    let whole : planned ≡ rooted room (raws_of t) (place (path_to goes t)) (inserted_by (path_to goes t) new fresh t) =
    is ∙ ap (λ (l : List Raw). rooted room l at (rise path (record { pending = Some (raw new None); plan = plan }))) root_is
    ∙ ap (λ (i : ℕ). rooted room (raws_of t) i (rise path (record { pending = Some (raw new None); plan = plan }))) place_is
    ∙ ap (λ (l : List Spot). rooted room (raws_of t) (place (path_to goes t)) (rise l (record { pending = Some (raw new None); plan = plan }))) spots
    ∙ ap (λ (w : List Write). rooted room (raws_of t) (place (path_to goes t)) (rise (way (path_to goes t) t) (record { pending = Some (raw new None); plan = record { writes = w; fresh = fresh } }))) empty in
    subst (λ (r : Rooted). NewTree (nodes_of reads) t fresh (put goes new (walk t)) (λ x. 0) room (overfull room (raws_of t) (place (path_to goes t)) (inserted_by (path_to goes t) new fresh t)) r) (sym whole) (insert_law (nodes_of reads) goes new fresh t room st once rises low)

pub as_level : (reads : NodeReads) (goes : Key → Bool) (new : Key) (root : List Raw) (room at : ℕ) (path : List Spot) (plan : Plan) (P : Bool → Type 0) → plan.writes ≡ [] → at ≡ first_stop goes root → way_of reads goes root ≡ Ok path → P (overfull room root at (rise path (record { pending = Some (raw new None); plan = plan }))) → AsLevel (nodes_of reads) goes new plan.fresh root room P
as_level reads goes new root room at path plan P empty is_at is_path full t root_is st low =
    let fresh : List ℕ = plan.fresh in
    let spots : path ≡ way (path_to goes t) t = ok_is _ _ (sym is_path ∙ ap (way_of reads goes) root_is ∙ read_way reads goes t st low) in
    let place_is : at ≡ place (path_to goes t) = is_at ∙ ap (first_stop goes) root_is ∙ first_place goes t in
    let whole : overfull room root at (rise path (record { pending = Some (raw new None); plan = plan })) ≡ overfull room (raws_of t) (place (path_to goes t)) (inserted_by (path_to goes t) new fresh t) =
    ap (λ (l : List Raw). overfull room l at (rise path (record { pending = Some (raw new None); plan = plan }))) root_is
    ∙ ap (λ (i : ℕ). overfull room (raws_of t) i (rise path (record { pending = Some (raw new None); plan = plan }))) place_is
    ∙ ap (λ (l : List Spot). overfull room (raws_of t) (place (path_to goes t)) (rise l (record { pending = Some (raw new None); plan = plan }))) spots
    ∙ ap (λ (w : List Write). overfull room (raws_of t) (place (path_to goes t)) (rise (way (path_to goes t) t) (record { pending = Some (raw new None); plan = record { writes = w; fresh = fresh } }))) empty in
    subst P whole full

pub plans_along : (reads : NodeReads) (goes : Key → Bool) (root : List Raw) (room at : ℕ) (path : List Spot) (new : Key) (plan : Plan) (planned : Rooted) → at ≡ first_stop goes root → way_of reads goes root ≡ Ok path → planned ≡ rooted room root at (rise path (record { pending = Some (raw new None); plan = plan }))
    → length plan.fresh ≤ length planned.plan.fresh + tight_count path + one_if (overfull room root at (rise path (record { pending = Some (raw new None); plan = plan }))) → PlansAlong reads goes new plan root room planned
plans_along reads goes root room at path new plan planned is_at is_path is few spots is_way =
    let same : path ≡ spots = ok_is _ _ (sym is_path ∙ is_way) in (
      is ∙ ap (λ (i : ℕ). rooted room root i (rise path (record { pending = Some (raw new None); plan = plan }))) is_at ∙ ap (λ (l : List Spot). rooted room root (first_stop goes root) (rise l (record { pending = Some (raw new None); plan = plan }))) same,
      subst (λ (l : List Spot). length plan.fresh ≤ length planned.plan.fresh + tight_count l + one_if (overfull room root (first_stop goes root) (rise l (record { pending = Some (raw new None); plan = plan })))) same
          (subst (λ (i : ℕ). length plan.fresh ≤ length planned.plan.fresh + tight_count path + one_if (overfull room root i (rise path (record { pending = Some (raw new None); plan = plan })))) is_at few),
    )
