-- The nodes of a content after changes that put nodes into it.
use Rattle.std.proofs.Common.{◌≡◌, ℕ, zero, suc, ◌+◌, ◌*◌, ◌<◌, ◌≤◌, Bool, true, false, not, ◌&&◌, ◌||◌, List, [], ◌∷◌, ◌++◌, length, Option, Some, None, Ok, refl, sym, ap, ◌∙◌, inl, inr, arith}
use Rattle.std.specs.Prelude.{reverse, nat_eq, nat_le, nat_lt, ◌==◌, if◌then◌else◌}
use Rattle.std.specs.List.{list_all, range_with_len}
use Rattle.std.proofs.lemmas.List.{reverse-append}
use Rattle.std.proofs.lemmas.Bool.{cases_eq, eqb-true, eq-eqb, ne_eqb, le-leb, lt-ltb}
use Rattle.index_tree.specs.host_base.Answers.{◌>>=◌, needs}
use Rattle.record_model.specs.disk_model.declared.block.Block.{Block}
use Rattle.record_model.specs.disk_model.declared.block.Change.{Change}
use Rattle.record_model.specs.disk_model.declared.block.BlockKind.{BlockKind}
use Rattle.record_model.specs.disk_model.declared.block.BlockKind.TheVariants.{Plain, FileRec, Index}
use Rattle.record_model.specs.disk_model.Numbers.{field}
use Rattle.record_model.specs.disk_model.Bodies.{BodyOf}
use Rattle.record_model.specs.disk_model.Bytes.{written}
use Rattle.record_model.specs.disk_model.Sectors.{same_block, same_kind, sectors}
use Rattle.record_model.specs.disk_model.Content.{Content, HasSizes, is_signed}
use Rattle.record_model.specs.disk_model.Writes.{Write as Put, bytes_after, is_covered, cover_all}
use Rattle.index_node.proofs.disk_model.Frames.{same_block-is}
use Rattle.index_tree.specs.block_view.Changes.{write_of, writes_of, content_after}
use Rattle.record_model.specs.declared.entry.Entry.{Entry as Raw}
use Rattle.record_model.specs.Nodes.{Node, node_at, node_spelling, FitsNode}
use Rattle.record_model.proofs.NodeSpelling.{node_signed, length-node_spelling, node_spells}
use Rattle.record_model.proofs.NodeTables.{ok_from_node}
use Rattle.index_node.proofs.Placing.{all_put}
use Rattle.index_node.specs.Roots.{new_node}
use Rattle.index_tree.specs.index_model.Indexes.{Place, node_block, entries_of_node, is_index_body, node_of_body, node_of_part, node_of_block, nodes_of, some_entries}
use Rattle.index_plan.specs.declared.write.Write.{Write}
use Rattle.index_plan.specs.Paths.{chosen, over}
use Rattle.index_change.specs.Changing.{IsLaidOut, PutsNode, PutNodes}

-- ---- covers

covered_all : (writes : List Put) (b : Block) (a n : ℕ) → ((i : ℕ) → a ≤ i → i < a + n → is_covered writes b i ≡ true) → list_all (is_covered writes b) (range_with_len a n) ≡ true
covered_all writes b a zero each = refl
covered_all writes b a (suc n) each = ap (λ (x : Bool). x && list_all (is_covered writes b) (range_with_len (a + 1) n)) (each a (omega arith) (omega arith)) ∙ covered_all writes b (a + 1) n (λ i le lt. each i (omega arith) (omega arith))

all_covered : (w : Put) (writes : List Put) (b : Block) (n : ℕ) → same_block b w.block ≡ true → w.at ≡ 0 → n ≤ length w.bytes → cover_all (w ∷ writes) b n ≡ true
unfolding cover_all
all_covered w writes b n same at long = covered_all (w ∷ writes) b 0 n (λ i le lt.
    ap (λ (x : Bool). (x && nat_le w.at i && nat_lt i (w.at + length w.bytes)) || is_covered writes b i) same
    ∙ ap (λ (x : Bool). (x && nat_lt i (w.at + length w.bytes)) || is_covered writes b i) (le-leb w.at i (omega (arith, at)))
    ∙ ap (λ (x : Bool). x || is_covered writes b i) (lt-ltb i (w.at + length w.bytes) (omega (arith, at, long))))

list_all_alike : (f g : ℕ → Bool) (xs : List ℕ) → ((i : ℕ) → f i ≡ g i) → list_all f xs ≡ list_all g xs
list_all_alike f g [] same = refl
list_all_alike f g (x ∷ xs) same = ap (λ (b : Bool). b && list_all f xs) (same x) ∙ ap (λ (b : Bool). g x && b) (list_all_alike f g xs same)

cover_next : (w : Put) (writes : List Put) (b : Block) (n : ℕ) → same_block b w.block ≡ false → cover_all (w ∷ writes) b n ≡ cover_all writes b n
unfolding cover_all
cover_next w writes b n other = list_all_alike (is_covered (w ∷ writes) b) (is_covered writes b) (range_with_len 0 n) (λ i. ap (λ (x : Bool). (x && nat_le w.at i && nat_lt i (w.at + length w.bytes)) || is_covered writes b i) other)

cover_none : (b : Block) (n : ℕ) → 0 < n → cover_all [] b n ≡ false
unfolding cover_all
cover_none b zero pos = absurd (omega arith)
cover_none b (suc n) pos = refl

-- ---- a block's body after changes

-- a body after puts
abbrev after : List Put → Block → BodyOf → BodyOf
after writes b x = record { bytes = bytes_after writes b x.bytes; torn = x.torn && not (cover_all writes b (length x.bytes)) }

-- the body that the last change of the block puts, else what it was
abbrev last_body : List Change → Block → BodyOf → BodyOf
last_body [] b x = x
last_body (c ∷ changes) b x = last_body changes b (if same_block b c.block then record { bytes = c.new; torn = false } else x)

make : List ℕ → Bool → BodyOf
make bytes torn = record { bytes = bytes; torn = torn }

nothing_after : (b : Block) (x : BodyOf) → 0 < length x.bytes → after [] b x ≡ x
unfolding make
nothing_after b x pos = ap (λ (t : Bool). make x.bytes t) (ap (λ (y : Bool). x.torn && not y) (cover_none b (length x.bytes) pos) ∙ and_true x.torn)
  where
    and_true : (t : Bool) → (t && true) ≡ t
    and_true true = refl
    and_true false = refl

no_longer : (t : Bool) → (t && false) ≡ false
no_longer true = refl
no_longer false = refl

here_after : (c : Change) (writes : List Put) (b : Block) (x : BodyOf) → same_block b c.block ≡ true → c.offset ≡ 0 → length c.new ≡ length x.bytes → after (write_of c ∷ writes) b x ≡ after writes b (record { bytes = c.new; torn = false })
unfolding make
here_after c writes b x same at long =
    let w = write_of c in
    let put : written c.offset c.new x.bytes ≡ c.new = ap (λ (k : ℕ). written k c.new x.bytes) at ∙ all_put c.new x.bytes long in
    let bytes : bytes_after (w ∷ writes) b x.bytes ≡ bytes_after writes b c.new = ap (λ (s : Bool). bytes_after writes b (if s then written c.offset c.new x.bytes else x.bytes)) same ∙ ap (bytes_after writes b) put in
    let torn : (x.torn && not (cover_all (w ∷ writes) b (length x.bytes))) ≡ false = ap (λ (y : Bool). x.torn && not y) (all_covered w writes b (length x.bytes) same at (omega (arith, long))) ∙ no_longer x.torn in
    ap (λ (l : List ℕ). make l (x.torn && not (cover_all (w ∷ writes) b (length x.bytes)))) bytes ∙ ap (λ (t : Bool). make (bytes_after writes b c.new) t) torn

other_after : (c : Change) (writes : List Put) (b : Block) (x : BodyOf) → same_block b c.block ≡ false → after (write_of c ∷ writes) b x ≡ after writes b x
unfolding make
other_after c writes b x other =
    let w = write_of c in
    let bytes : bytes_after (w ∷ writes) b x.bytes ≡ bytes_after writes b x.bytes = ap (λ (s : Bool). bytes_after writes b (if s then written c.offset c.new x.bytes else x.bytes)) other in
    let torn : (x.torn && not (cover_all (w ∷ writes) b (length x.bytes))) ≡ (x.torn && not (cover_all writes b (length x.bytes))) = ap (λ (y : Bool). x.torn && not y) (cover_next w writes b (length x.bytes) other) in
    ap (λ (l : List ℕ). make l (x.torn && not (cover_all (w ∷ writes) b (length x.bytes)))) bytes ∙ ap (λ (t : Bool). make (bytes_after writes b x.bytes) t) torn

new_size : (p : Place) (w : Write) (c : Change) → PutsNode p w c → length c.new ≡ 4096
new_size p w c put = ap length put.new ∙ length-node_spelling (new_node w.vcn w.entries) put.fits

pub last_after : (p : Place) (writes : List Write) (changes : List Change) (b : Block) (x : BodyOf) → PutNodes p writes changes → length x.bytes ≡ 4096 → after (writes_of changes) b x ≡ last_body changes b x
last_after p [] [] b x put size = nothing_after b x (omega (arith, size))
last_after p [] (c ∷ changes) b x put size = absurd put
last_after p (w ∷ writes) [] b x put size = absurd put
last_after p (w ∷ writes) (c ∷ changes) b x put size = choose (λ y n. last_after p writes changes b y put.1 n) (same_block b c.block) refl
  where
    choose : ((y : BodyOf) → length y.bytes ≡ 4096 → after (writes_of changes) b y ≡ last_body changes b y) → (s : Bool) → same_block b c.block ≡ s → after (write_of c ∷ writes_of changes) b x ≡ last_body changes b (if s then record { bytes = c.new; torn = false } else x)
    choose later true e = here_after c (writes_of changes) b x e put.0.whole (new_size p w c put.0 ∙ sym size) ∙ later (record { bytes = c.new; torn = false }) (new_size p w c put.0)
    choose later false e = other_after c (writes_of changes) b x e ∙ later x size

-- ---- nodes

-- the entries that the last write of a VCN says, else what there was
abbrev last_node : List Write → ℕ → Option (List Raw) → Option (List Raw)
last_node [] v o = o
last_node (w ∷ writes) v o = last_node writes v (chosen (nat_eq v w.vcn) w.entries o)

over_append : (nodes : ℕ → Option (List Raw)) (xs ys : List Write) (v : ℕ) → over nodes (xs ++ ys) v ≡ over (over nodes ys) xs v
over_append nodes [] ys v = refl
over_append nodes (x ∷ xs) ys v = ap (chosen (nat_eq v x.vcn) x.entries) (over_append nodes xs ys v)

pub over_last : (nodes : ℕ → Option (List Raw)) (writes : List Write) (v : ℕ) → over nodes (reverse writes) v ≡ last_node writes v (nodes v)
over_last nodes [] v = refl
over_last nodes (w ∷ writes) v =
    ap (λ (l : List Write). over nodes l v) (reverse-append (w ∷ []) writes) ∙ over_append nodes (reverse writes) (w ∷ []) v ∙ over_last (over nodes (w ∷ [])) writes v

-- what a node's spelling is read as
spelled_node : (v : ℕ) (entries : List Raw) (torn : Bool) → torn ≡ false → FitsNode (new_node v entries) → node_of_body v (record { bytes = node_spelling (new_node v entries); torn = torn }) ≡ Ok entries
unfolding node_of_body
spelled_node v entries torn whole fits =
    let n : Node = new_node v entries in
    let body : BodyOf = record { bytes = node_spelling n; torn = torn } in
    let spells = node_spells n fits in
    let size : (length (node_spelling n) == 4096) ≡ true = eq-eqb (length (node_spelling n)) 4096 (length-node_spelling n fits) in
    let is_one : is_index_body body ≡ true =
    ap (λ (b : Bool). b && not torn && is_signed Index (node_spelling n)) size ∙ ap (λ (b : Bool). not b && is_signed Index (node_spelling n)) whole ∙ node_signed n in
    let own : (field 0x10 8 (node_spelling n) == v) ≡ true = eq-eqb (field 0x10 8 (node_spelling n)) v spells.vcn in
    ap (λ (b : Bool). needs b 1 >>= λ _. needs (field 0x10 8 (node_spelling n) == v) 2 >>= λ _. entries_of_node (node_at (node_spelling n))) is_one
    ∙ ap (λ (b : Bool). needs b 2 >>= λ _. entries_of_node (node_at (node_spelling n))) own
    ∙ ap entries_of_node (ok_from_node (node_spelling n) n spells)

change_node : (p : Place) (v : ℕ) (w : Write) (c : Change) → v ≡ w.vcn → PutsNode p w c → some_entries (node_of_body v (record { bytes = c.new; torn = false })) ≡ Some w.entries
change_node p v w c is put =
    ap (λ (k : ℕ). some_entries (node_of_body k (record { bytes = c.new; torn = false }))) is
    ∙ ap (λ (l : List ℕ). some_entries (node_of_body w.vcn (record { bytes = l; torn = false }))) put.new
    ∙ ap some_entries (spelled_node w.vcn w.entries false refl put.fits)

some_block : (o : Option Block) (b c : Block) → o ≡ Some b → o ≡ Some c → b ≡ c
some_block o b c e f = let g : ◌≡◌ {A = Option Block} (Some b) (Some c) = sym e ∙ f in cc

same_kind-self : (k : BlockKind) → same_kind k k ≡ true
same_kind-self Plain = refl
same_kind-self FileRec = refl
same_kind-self Index = refl

same_block-self : (b : Block) → same_block b b ≡ true
same_block-self b = ap (λ (x : Bool). x && same_kind b.kind b.kind) (eq-eqb b.first b.first refl) ∙ same_kind-self b.kind

block_same : (b c : Block) → b ≡ c → same_block b c ≡ true
block_same b c e = ap (same_block b) (sym e) ∙ same_block-self b

-- a change is of a node's block exactly where it is of the node
pub same_place : (p : Place) (n : ℕ → ℕ) (v : ℕ) (b : Block) (w : Write) (c : Change) → IsLaidOut p n → 0 < n v → 0 < n w.vcn → node_block p v ≡ Some b → PutsNode p w c → same_block b c.block ≡ nat_eq v w.vcn
same_place p n v b w c laid here there at put =
    elim (cases_eq v w.vcn) [
      | inl e ↦ block_same b c.block (some_block (node_block p v) b c.block at (ap (node_block p) e ∙ put.block)) ∙ sym (eq-eqb v w.vcn e)
      | inr ne ↦ other (same_block b c.block) refl ne ∙ sym (ne_eqb v w.vcn ne)
    ]
  where
    other : (s : Bool) → same_block b c.block ≡ s → (v ≡ w.vcn → ⊥) → same_block b c.block ≡ false
    other true e ne = absurd (ne (laid.apart v w.vcn c.block here there (at ∙ ap (λ (x : Block). Some x) (same_block-is b c.block e)) put.block))
    other false e ne = e

-- each node that is written has a VCN that is used
abbrev pub AreUsed : (ℕ → ℕ) → List Write → Type 0
AreUsed n [] = Unit {0}
AreUsed n (w ∷ writes) = (0 < n w.vcn) × AreUsed n writes

nodes_last : (p : Place) (n : ℕ → ℕ) (v : ℕ) (b : Block) (writes : List Write) (changes : List Change) (x : BodyOf) → IsLaidOut p n → 0 < n v → AreUsed n writes → node_block p v ≡ Some b → PutNodes p writes changes → some_entries (node_of_body v (last_body changes b x)) ≡ last_node writes v (some_entries (node_of_body v x))
nodes_last p n v b [] [] x laid here each at put = refl
nodes_last p n v b [] (c ∷ changes) x laid here each at put = absurd put
nodes_last p n v b (w ∷ writes) [] x laid here each at put = absurd put
nodes_last p n v b (w ∷ writes) (c ∷ changes) x laid here each at put =
    nodes_last p n v b writes changes (if same_block b c.block then record { bytes = c.new; torn = false } else x) laid here each.1 at put.1
    ∙ ap (last_node writes v) (choose (nat_eq v w.vcn) refl)
  where
    choose : (s : Bool) → nat_eq v w.vcn ≡ s → some_entries (node_of_body v (if same_block b c.block then record { bytes = c.new; torn = false } else x)) ≡ chosen s w.entries (some_entries (node_of_body v x))
    choose true e =
        ap (λ (s : Bool). some_entries (node_of_body v (if s then record { bytes = c.new; torn = false } else x))) (same_place p n v b w c laid here each.0 at put.0 ∙ e)
        ∙ change_node p v w c (eqb-true v w.vcn e) put.0
    choose false e = ap (λ (s : Bool). some_entries (node_of_body v (if s then record { bytes = c.new; torn = false } else x))) (same_place p n v b w c laid here each.0 at put.0 ∙ e)

nowhere : (p : Place) (v : ℕ) (writes : List Write) (changes : List Change) → node_block p v ≡ None → PutNodes p writes changes → last_node writes v None ≡ None
nowhere p v [] [] at put = refl
nowhere p v [] (c ∷ changes) at put = absurd put
nowhere p v (w ∷ writes) [] at put = absurd put
nowhere p v (w ∷ writes) (c ∷ changes) at put =
    ap (λ (s : Bool). last_node writes v (chosen s w.entries None)) (ne_eqb v w.vcn (λ e. let g : ◌≡◌ {A = Option Block} None (Some c.block) = sym at ∙ ap (node_block p) e ∙ put.0.block in cc))
    ∙ nowhere p v writes changes at put.1

nodes_at : (p : Place) (n : ℕ → ℕ) (v : ℕ) (o : Option Block) (c : Content) (writes : List Write) (changes : List Change) → IsLaidOut p n → 0 < n v → AreUsed n writes → HasSizes c → node_block p v ≡ o → PutNodes p writes changes → some_entries (node_of_part (content_after changes c) v o) ≡ last_node writes v (some_entries (node_of_part c v o))
nodes_at p n v None c writes changes laid here each sized at put = sym (nowhere p v writes changes at put)
nodes_at p n v (Some b) c writes changes laid here each sized at put =
    let size : length (c b).bytes ≡ 4096 = sized b ∙ ap (λ k. 512 * sectors k) (laid.index v b here at) in
    ap (λ (x : BodyOf). some_entries (node_of_body v x)) (last_after p writes changes b (c b) put size) ∙ nodes_last p n v b writes changes (c b) laid here each at put

-- the nodes of a content after the changes are those after the writes, at the VCNs that are used
pub nodes_after : (p : Place) (n : ℕ → ℕ) (c : Content) (writes : List Write) (changes : List Change) → IsLaidOut p n → AreUsed n writes → HasSizes c → PutNodes p writes changes → (v : ℕ) → 0 < n v → nodes_of (node_of_block (content_after changes c) p) v ≡ over (nodes_of (node_of_block c p)) (reverse writes) v
unfolding node_of_block
nodes_after p n c writes changes laid each sized put v here = nodes_at p n v (node_block p v) c writes changes laid here each sized refl put ∙ sym (over_last (nodes_of (node_of_block c p)) writes v)
