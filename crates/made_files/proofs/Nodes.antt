-- Nodes of a directory's index that a draft puts into their blocks.
use Rattle.std.proofs.Common.{◌≡◌, ℕ, ◌+◌, ◌*◌, ◌≤◌, Bool, true, false, cond, List, [], ◌∷◌, length, map, Option, Some, None, refl, sym, ap, ap₂, ◌∙◌, inl, inr, arith}
use Rattle.std.specs.List.{AllByRecursion}
use Rattle.std.specs.Option.{option_or}
use Rattle.std.proofs.lemmas.Bool.{cases_Bool, eq-eqb}
use Rattle.disk_model.specs.declared.block.Block.{Block}
use Rattle.disk_model.specs.declared.block.BlockKind.TheVariants.{Index}
use Rattle.disk_model.specs.declared.block.Change.{Change}
use Rattle.disk_model.specs.Bodies.{BodyOf}
use Rattle.disk_model.specs.Content.{Content, HasSizes}
use Rattle.disk_model.specs.Sectors.{sectors, same_block}
use Rattle.disk_model.specs.Writes.{Write as BlockWrite, overlay}
use Rattle.record_model.proofs.NodeSpelling.{length-node_spelling}
use Rattle.block_view.specs.Changes.{writes_of, content_after}
use Rattle.index_model.specs.Trees.{same, times, one_if}
use Rattle.index_model.specs.Indexes.{Place, node_block}
use Rattle.index_plan.specs.declared.write.Write.{Write}
use Rattle.index_plan.specs.Paths.{written_vcns}
use Rattle.index_node.specs.Roots.{new_node}
use Rattle.file_makes.specs.index_change.Changing.{PutNodes, changes_in}
use Rattle.plan_bodies.specs.Bodies.{NewBody, AreBodies, AreOfOwnBlocks, AreWhole as AreWholeBodies, body_in, body_or, writes_in}
use Rattle.plan_bodies.proofs.Putting.{body_put, block_itself, same_through}
use Rattle.plan_draft.specs.declared.touched.Touched.{Touched}
use Rattle.plan_draft.specs.Touching.{bodies_of, touch}
use Rattle.plan_draft.specs.Drafts.{drafted}
use Rattle.plan_draft.proofs.Puts.{bodies_touch}
use Rattle.plan_draft.proofs.Same.{one_in_order}
use Rattle.plan_draft.proofs.Touching.{are_bodies}
use Rattle.draft_bits.specs.Effects.{IsKept}
use Rattle.file_makes.proofs.plan_edits.Putting.{Goes, goes_behind, touches, each_turned}
use Rattle.file_makes.specs.Making.{touch_nodes, IsWhole}

-- ---- what is put, said of more blocks and of fewer

abbrev pub IsNone : Block → Type 0
IsNone b = ⊥

pub turned : (among more puts fewer : Block → Type 0) (old new : List Touched) → ((b : Block) → among b → more b) → ((b : Block) → fewer b → puts b) → Goes among puts old new → Goes more fewer old new
turned among more puts fewer old new turn less is = record {
  blocks = record {
    bodies = is.blocks.bodies;
    whole = is.blocks.whole;
    each = each_turned among more is.blocks.bodies turn is.blocks.each;
    put = λ b some. is.blocks.put b (less b some);
    same = is.blocks.same;
  };
  kept = is.kept;
}

pub nothing_goes : (among : Block → Type 0) (old : List Touched) → IsKept old → Goes among IsNone old old
nothing_goes among old kept = record { blocks = record { bodies = []; whole = record { whole = tt; own = tt }; each = tt; put = λ b none. absurd none; same = λ b. refl }; kept = kept }

-- ---- a touched block

pub after_touch : (touched : List Touched) (a b : Block) (fresh : Bool) (bytes : List ℕ) (old : BodyOf) → body_in (bodies_of (touch a fresh bytes old touched)) b ≡ cond (same_block b a) (Some bytes) (body_in (bodies_of touched) b)
after_touch touched a b fresh bytes old = ap (λ (l : List NewBody). body_in l b) (bodies_touch touched a fresh bytes old) ∙ one_in_order (record { block = a; bytes = bytes }) (bodies_of touched) b

-- ---- nodes one after the other

abbrev pub AreWhole : List Change → Type 0
AreWhole changes = AllByRecursion IsWhole changes

pub nodes_go : (c : Content) (among : Block → Type 0) (changes : List Change) (old : List Touched) → HasSizes c → AreWhole changes → AllByRecursion (λ x. among x.block) changes → IsKept old → Goes among IsNone old (touch_nodes c changes old)
nodes_go c among [] old sized whole each kept = nothing_goes among old kept
nodes_go c among (x ∷ changes) old sized whole each kept =
    let first : Goes among (λ b. x.block ≡ b) old (touch x.block false x.new (c x.block) old) = touches among old x.block false x.new (c x.block) each.0 whole.0 (sized x.block) kept in
    goes_behind among (λ b. x.block ≡ b) IsNone IsNone old (touch x.block false x.new (c x.block) old) (touch_nodes c (x ∷ changes) old) (λ b none. inr none) first (nodes_go c among changes (touch x.block false x.new (c x.block) old) sized whole.1 each.1 first.kept)

-- blocks that none of them has keep their bodies
pub nodes_away : (c : Content) (changes : List Change) (old : List Touched) (b : Block) → AllByRecursion (λ x. same_block b x.block ≡ false) changes → body_in (bodies_of (touch_nodes c changes old)) b ≡ body_in (bodies_of old) b
nodes_away c [] old b apart = refl
nodes_away c (x ∷ changes) old b apart =
    nodes_away c changes (touch x.block false x.new (c x.block) old) b apart.1
    ∙ after_touch old x.block b false x.new (c x.block)
    ∙ ap (λ (t : Bool). cond t (Some x.new) (body_in (bodies_of old) b)) apart.0

-- ---- as bodies

abbrev pub node_body : Change → NewBody
node_body x = record { block = x.block; bytes = x.new }

abbrev pub node_bodies : List Change → List NewBody
node_bodies changes = map node_body changes

no_body : (bodies : List NewBody) (a b : Block) → same_block b a ≡ true → AllByRecursion (λ y. same_block a y.block ≡ false) bodies → body_in bodies b ≡ None
no_body [] a b same apart = refl
no_body (y ∷ bodies) a b same apart = ap (λ (t : Bool). cond t (Some y.bytes) (body_in bodies b)) (same_through b a y.block same ∙ apart.0) ∙ no_body bodies a b same apart.1

pub nodes_put : (c : Content) (changes : List Change) (old : List Touched) (b : Block) → AreOfOwnBlocks (node_bodies changes) → body_in (bodies_of (touch_nodes c changes old)) b ≡ option_or (body_in (node_bodies changes) b) (body_in (bodies_of old) b)
nodes_put c [] old b own = refl
nodes_put c (x ∷ changes) old b own =
    let rest = nodes_put c changes (touch x.block false x.new (c x.block) old) b own.1 in
    let here = after_touch old x.block b false x.new (c x.block) in
    let was : Option (List ℕ) = body_in (bodies_of old) b in
    rest ∙ ap (option_or (body_in (node_bodies changes) b)) here ∙ elim (cases_Bool (same_block b x.block)) [
      | inl same ↦
          ap (λ (t : Bool). option_or (body_in (node_bodies changes) b) (cond t (Some x.new) was)) same
          ∙ ap (λ (o : Option (List ℕ)). option_or o (Some x.new)) (no_body (node_bodies changes) x.block b same own.0)
          ∙ sym (ap (λ (t : Bool). option_or (cond t (Some x.new) (body_in (node_bodies changes) b)) was) same)
      | inr other ↦
          ap (λ (t : Bool). option_or (body_in (node_bodies changes) b) (cond t (Some x.new) was)) other
          ∙ sym (ap (λ (t : Bool). option_or (cond t (Some x.new) (body_in (node_bodies changes) b)) was) other)
    ]

-- ---- changes of a plan

-- a block of a node that the plan writes
abbrev pub IsNodeOf : Place → List Write → Block → Type 0
IsNodeOf p writes b = (w : Write) × ((1 ≤ times w.vcn (written_vcns writes)) × (node_block p w.vcn ≡ Some b))

more_written : (p : Place) (v : Write) (writes : List Write) (changes : List Change) → AllByRecursion (λ x. IsNodeOf p writes x.block) changes → AllByRecursion (λ x. IsNodeOf p (v ∷ writes) x.block) changes
more_written p v writes [] all = tt
more_written p v writes (x ∷ changes) all = ((all.0.0, ((let some = all.0.1.0 in omega (arith, some)), all.0.1.1)), more_written p v writes changes all.1)

same_itself : (v : ℕ) (vcns : List ℕ) → 1 ≤ times v (v ∷ vcns)
unfolding same
same_itself v vcns = (let one = ap one_if (eq-eqb v v refl) in omega (arith, one))

pub nodes_lie : (p : Place) (writes : List Write) (changes : List Change) → PutNodes p writes changes → AllByRecursion (λ x. IsNodeOf p writes x.block) changes
nodes_lie p [] [] puts = tt
nodes_lie p [] (x ∷ changes) puts = absurd puts
nodes_lie p (w ∷ writes) [] puts = absurd puts
nodes_lie p (w ∷ writes) (x ∷ changes) puts = ((w, (same_itself w.vcn (written_vcns writes), puts.0.block)), more_written p w writes changes (nodes_lie p writes changes puts.1))

-- each is the whole body of an index block
abbrev pub AreIndexes : List Change → Type 0
AreIndexes changes = AllByRecursion (λ x. x.block.kind ≡ Index) changes

sectors_of : (b : Block) → b.kind ≡ Index → 512 * sectors b.kind ≡ 4096
sectors_of b is = ap (λ k. 512 * sectors k) is

pub nodes_whole : (p : Place) (writes : List Write) (changes : List Change) → PutNodes p writes changes → AreIndexes changes → AreWhole changes
nodes_whole p [] [] puts kinds = tt
nodes_whole p [] (x ∷ changes) puts kinds = absurd puts
nodes_whole p (w ∷ writes) [] puts kinds = absurd puts
nodes_whole p (w ∷ writes) (x ∷ changes) puts kinds = (ap length puts.0.new ∙ length-node_spelling (new_node w.vcn w.entries) puts.0.fits ∙ sym (sectors_of x.block kinds.0), nodes_whole p writes changes puts.1 kinds.1)

pub bodies_whole : (changes : List Change) → AreWhole changes → AreWholeBodies (node_bodies changes)
bodies_whole [] whole = tt
bodies_whole (x ∷ changes) whole = (whole.0, bodies_whole changes whole.1)

none_if : (t : Bool) (n : ℕ) → one_if t + n ≡ 0 → t ≡ false
none_if true n is = absurd (omega (arith, is))
none_if false n is = refl

none_of : (b : Block) (changes : List Change) → changes_in b changes ≡ 0 → AllByRecursion (λ y. same_block b y.block ≡ false) (node_bodies changes)
none_of b [] none = tt
none_of b (x ∷ changes) none = (none_if (same_block b x.block) (changes_in b changes) none, none_of b changes (rest (same_block b x.block) none))
  where
    rest : (t : Bool) → one_if t + changes_in b changes ≡ 0 → changes_in b changes ≡ 0
    rest true is = absurd (omega (arith, is))
    rest false is = omega (arith, is)

pub own_blocks : (changes : List Change) → ((b : Block) → changes_in b changes ≤ 1) → AreOfOwnBlocks (node_bodies changes)
own_blocks [] once = tt
own_blocks (x ∷ changes) once = (
  none_of x.block changes (first (same_block x.block x.block) (block_itself x.block) (once x.block)),
  own_blocks changes (λ b. (let all = once b in at_most (same_block b x.block) (changes_in b changes) all)),
)
  where
    first : (t : Bool) → t ≡ true → one_if t + changes_in x.block changes ≤ 1 → changes_in x.block changes ≡ 0
    first true is le = omega (arith, le)
    first false is le = absurd cc

    at_most : (t : Bool) (n : ℕ) → one_if t + n ≤ 1 → n ≤ 1
    at_most true n le = omega (arith, le)
    at_most false n le = omega (arith, le)

pub as_writes : (p : Place) (writes : List Write) (changes : List Change) → PutNodes p writes changes → writes_of changes ≡ writes_in (node_bodies changes)
as_writes p [] [] puts = refl
as_writes p [] (x ∷ changes) puts = absurd puts
as_writes p (w ∷ writes) [] puts = absurd puts
as_writes p (w ∷ writes) (x ∷ changes) puts = ap₂ (λ (k : ℕ) (l : List BlockWrite). record { block = x.block; at = k; bytes = x.new } ∷ l) puts.0.whole (as_writes p writes changes puts.1)

-- ---- what is read there

or_both : (body : BodyOf) (x y : Option (List ℕ)) → body_or (body_or body y) x ≡ body_or body (option_or x y)
or_both body None y = refl
or_both body (Some bytes) None = refl
or_both body (Some bytes) (Some was) = refl

-- where what is put elsewhere leaves a block, it is read as after the plan's changes
pub read_so : (c : Content) (p : Place) (writes : List Write) (changes : List Change) (old new : List Touched) (b : Block) → HasSizes c → HasSizes (drafted old c) → IsKept old → IsKept new → PutNodes p writes changes → AreBodies (node_bodies changes)
    → body_in (bodies_of new) b ≡ option_or (body_in (node_bodies changes) b) (body_in (bodies_of old) b) → drafted new c b ≡ content_after changes (drafted old c) b
read_so c p writes changes old new b sized there old_is new_is puts are same =
    body_put c (bodies_of new) b sized (are_bodies new new_is.rises new_is.whole)
    ∙ ap (body_or (c b)) same
    ∙ sym (or_both (c b) (body_in (node_bodies changes) b) (body_in (bodies_of old) b))
    ∙ ap (λ (x : BodyOf). body_or x (body_in (node_bodies changes) b)) (sym (body_put c (bodies_of old) b sized (are_bodies old old_is.rises old_is.whole)))
    ∙ sym (body_put (drafted old c) (node_bodies changes) b there are)
    ∙ ap (λ (l : List BlockWrite). overlay (drafted old c) l b) (sym (as_writes p writes changes puts))
