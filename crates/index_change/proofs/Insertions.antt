-- Steps of an insertion over a content that may be known.
use Rattle.std.proofs.Common.{◌≡◌, ℕ, zero, suc, ◌-◌, ◌≤◌, Bool, true, false, List, Option, Some, None, Result, Ok, Err, refl, sym, ap, ◌∙◌, subst, ◌⊎◌, inl, inr, arith}
use Rattle.std.specs.Prelude.{IfSome, IfOk, IfErr, if◌then◌else◌}
use Rattle.std.specs.Option.{option_map, ForSome}
use Rattle.std.specs.List.{filter, list_any}
use Rattle.std.specs.Ordering.{nat_cmp}
use Rattle.std.specs.BTreeMap.{BTreeMap, get}
use Rattle.index_tree.specs.host_base.Answers.{GivesOrFails}
use Rattle.index_tree.specs.host_base.Causes.{CountsCause}
use Rattle.record_model.specs.disk_model.Content.{Content}
use Rattle.record_model.specs.declared.entry.Entry.{Entry as Raw}
use Rattle.record_model.specs.Nodes.{Node as NodeOf}
use Rattle.record_model.specs.StdValues.{file_name_of, file_name_fields, file_name_fault}
use Rattle.record_model.specs.Values.{is_file_name}
use Rattle.index_tree.specs.file_tree.declared.link.Link.{Link}
use Rattle.index_tree.specs.index_model.declared.key.Key.{Key}
use Rattle.index_tree.specs.index_model.Trees.{Tree, walk}
use Rattle.index_tree.specs.index_model.Indexes.{Place, node_of_block, entry_link, links_of}
use Rattle.index_tree.specs.state_model.Files.{named}
use Rattle.index_tree.specs.index_model.Laws.{HoldsIndex}
use Rattle.index_tree.specs.block_view.declared.fault.ViewFault.{ViewFault}
use Rattle.index_plan.specs.declared.fault.ReadFault.{ReadFault}
use Rattle.index_plan.specs.declared.fault.ReadFault.TheVariants as reading
use Rattle.index_plan.specs.Faults.{ReadFails, read_cause}
use Rattle.index_plan.specs.Lists.{own_key}
use Rattle.index_plan.specs.Reading.{NodeReads}
use Rattle.index_tree.specs.declared.fault.TreeFault.{TreeFault}
use Rattle.index_tree.specs.declared.fault.TreeFault.TheVariants.{Node, Present, Absent, Deep, View}
use Rattle.index_change.specs.declared.nodes_plan.NodesPlan.{NodesPlan}
use Rattle.index_tree.specs.Calls.{FindGives, is_sought}
use Rattle.index_tree.specs.Faults.{IsRead}
use Rattle.index_change.specs.Heights.{tallest, if_read, height_below, height_of}
use Rattle.index_change.specs.Holding.{HoldsNodesOf}
use Rattle.index_change.specs.Orders.{names_file, link_of, has_entry}
use Rattle.index_change.specs.NodePlans.{PlansNew, PlansNodes}
use Rattle.index_change.specs.Plans.{InsertGives}
use Rattle.index_change.proofs.Lawful.{link_child}

-- ---- nodes that are held

holds_at : (f : Content → NodeReads) (c : Content) (vcn : ℕ) (held : BTreeMap ℕ NodeOf) (node : NodeOf) (result : Result (List Raw) ReadFault) → HoldsNodesOf (f c) held → get nat_cmp held vcn ≡ Some node → IfOk result (λ copy. copy ≡ node.entries) → IfErr result (λ e. e ≡ reading.Memory) → GivesOrFails (λ (n : List Raw). n) read_cause result (f c vcn)
holds_at f c vcn held node (Ok copy) holds got ok err = holds vcn node got ∙ ap (λ (l : List Raw). made l) (sym ok)
  where
    made : List Raw → Result (List Raw) ℕ
    made l = Ok l
holds_at f c vcn held node (Err e) holds got ok err = subst (λ (x : ReadFault). GivesOrFails {X = List Raw} {Y = List Raw} (λ (n : List Raw). n) read_cause (Err x) (f c vcn)) (sym err) tt

pub read_known : (known : Option Content) (f : Content → NodeReads) (vcn : ℕ) (held : BTreeMap ℕ NodeOf) (node : NodeOf) (result : Result (List Raw) ReadFault) → ForSome known (λ c. HoldsNodesOf (f c) held) → get nat_cmp held vcn ≡ Some node → IfOk result (λ copy. copy ≡ node.entries) → IfErr result (λ e. e ≡ reading.Memory) → IfSome (option_map f known) (λ r. GivesOrFails (λ (n : List Raw). n) read_cause result (r vcn))
read_known None f vcn held node result holds got ok err = tt
read_known (Some c) f vcn held node result holds got ok err = holds_at f c vcn held node result (holds c refl) got ok err

pub read_quiet : {T : Type 0} (result : Result T ReadFault) → IfErr result (λ e. e ≡ reading.Memory) → ReadFails 0 0 result
read_quiet (Ok x) err = record { later = omega arith; counted = refl }
read_quiet (Err e) err = record { later = omega arith; counted = subst (λ (x : ReadFault). CountsCause 0 0 (read_cause x)) (sym err) refl }

abbrev pub Adds : (Content → NodeReads) → BTreeMap ℕ NodeOf → BTreeMap ℕ NodeOf → Content → Type 0
Adds f old new c = HoldsNodesOf (f c) old → HoldsNodesOf (f c) new

pub adds_both : (known now : Option Content) (f : Content → NodeReads) (a b d : BTreeMap ℕ NodeOf) → now ≡ known → IfSome known (Adds f a b) → IfSome now (Adds f b d) → IfSome known (Adds f a d)
adds_both None now f a b d same first second = tt
adds_both (Some c) now f a b d same first second = λ h. subst (λ (o : Option Content). IfSome o (Adds f b d)) same second (first h)

pub adds_node : (known now : Option Content) (f : Content → NodeReads) (child : ℕ) (node : NodeOf) (o : Option NodeOf) (a b d : BTreeMap ℕ NodeOf) → now ≡ known → o ≡ Some node → IfSome known (λ c. IsRead (f c child) o) → IfSome now (Adds f a b) → ((read : NodeReads) → read child ≡ Ok node.entries → HoldsNodesOf read b → HoldsNodesOf read d) → IfSome known (Adds f a d)
adds_node None now f child node o a b d same is read first last = tt
adds_node (Some c) now f child node o a b d same is read first last = λ h. last (f c) (subst (IsRead (f c child)) is read) (subst (λ (k : Option Content). IfSome k (Adds f a b)) same first h)

-- ---- levels

height_at : (read : ℕ → Result (List Raw) ℕ) (levels child : ℕ) (down : Option ℕ) (node : NodeOf) (entries : List Raw) (h : ℕ) → 1 ≤ levels → down ≡ Some child → entries ≡ node.entries → read child ≡ Ok node.entries → h ≡ tallest (height_below read (levels - 1)) entries → h ≡ height_below read levels down
height_at read zero child down node entries h pos is same ok e = absurd (omega arith)
height_at read (suc n) child down node entries h pos is same ok e =
    let count : suc n - 1 ≡ n = omega arith in
    e ∙ ap (λ (k : ℕ). tallest (height_below read k) entries) count ∙ ap (tallest (height_below read n)) same ∙ sym (ap (if_read (tallest (height_below read n))) ok) ∙ sym (ap (height_below read (suc n)) is)

height_ok : (read : ℕ → Result (List Raw) ℕ) (levels child : ℕ) (down : Option ℕ) (node : NodeOf) (entries : List Raw) (r : Result ℕ ViewFault) → 1 ≤ levels → down ≡ Some child → entries ≡ node.entries → read child ≡ Ok node.entries → IfOk r (λ h. h ≡ tallest (height_below read (levels - 1)) entries) → IfOk r (λ h. h ≡ height_below read levels down)
height_ok read levels child down node entries (Ok h) pos is same ok e = height_at read levels child down node entries h pos is same ok e
height_ok read levels child down node entries (Err _) pos is same ok e = tt

pub height_known : (known now : Option Content) (f : Content → ℕ → Result (List Raw) ℕ) (levels child : ℕ) (down : Option ℕ) (node : NodeOf) (o : Option NodeOf) (entries : List Raw) (r : Result ℕ ViewFault) → now ≡ known → 1 ≤ levels → down ≡ Some child → o ≡ Some node → entries ≡ node.entries → IfSome known (λ c. IsRead (f c child) o) → IfSome now (λ c. IfOk r (λ h. h ≡ tallest (height_below (f c) (levels - 1)) entries)) → IfSome known (λ c. IfOk r (λ h. h ≡ height_below (f c) levels down))
height_known None now f levels child down node o entries r same pos is some e read h = tt
height_known (Some c) now f levels child down node o entries r same pos is some e read h =
    height_ok (f c) levels child down node entries r pos is e (subst (IsRead (f c child)) some read) (subst (λ (k : Option Content). IfSome k (λ c. IfOk r (λ h. h ≡ tallest (height_below (f c) (levels - 1)) entries))) same h)

pub judged_known : (now before : Option Content) (p : Place) (root entries : List Raw) (height : ℕ) → now ≡ before → entries ≡ root → IfSome before (λ c. height ≡ height_of (node_of_block c p) entries) → IfSome now (λ c. height ≡ height_of (node_of_block c p) root)
judged_known None before p root entries height same e h = tt
judged_known (Some c) before p root entries height same e h = subst (λ (o : Option Content). IfSome o (λ c. height ≡ height_of (node_of_block c p) entries)) (sym same) h ∙ ap (height_of (node_of_block c p)) e

pub by_height : (now : Option Content) (p : Place) (root : List Raw) (height : ℕ) → IfSome now (λ c. height ≡ height_of (node_of_block c p) root) → IfSome now (λ c. (height ≡ 16) ⊎ (height ≡ height_of (node_of_block c p) root))
by_height None p root height h = tt
by_height (Some c) p root height h = inr h

pub by_most : (now : Option Content) (p : Place) (root : List Raw) → let most : ℕ = 16 in IfSome now (λ c. (most ≡ most) ⊎ (most ≡ height_of (node_of_block c p) root))
by_most None p root = tt
by_most (Some c) p root = inl refl

-- ---- the entry that is put in

entry_link_is : (e : Raw) → is_file_name e.key ≡ true → entry_link e ≡ Some (link_of (own_key e))
unfolding entry_link file_name_of link_of file_name_fields
entry_link_is e h = ap (λ (b : Bool). named e.child (if b then Ok (file_name_fields e.key) else Err (file_name_fault e.key))) h

pub link_known : (e : Raw) (o : Option Link) (l : Link) → is_file_name e.key ≡ true → o ≡ entry_link e → o ≡ Some l → l ≡ link_of (own_key e)
link_known e o l lawful is some = let g : ◌≡◌ {A = Option Link} (Some l) (Some (link_of (own_key e))) = sym some ∙ is ∙ entry_link_is e lawful in cc

module _ (p : Place) (upper value name : List ℕ) (used : ℕ) (key : Key) (fresh : List ℕ) (same : name ≡ (link_of key).name) where
  find_failed : (c : Content) (e : TreeFault) → FindGives c p upper (link_of key).name value (Err e) → InsertGives c p upper value used key fresh (Err e)
  find_failed c (Node vcn rule) h = (inl h.0, h.1)
  find_failed c Present h = absurd h
  find_failed c Absent h = absurd h
  find_failed c (Deep height) h = absurd h
  find_failed c (View cause) h = tt

  pub not_found : (known : Option Content) (e : TreeFault) → IfSome known (λ c. FindGives c p upper name value (Err e)) → IfSome known (λ c. InsertGives c p upper value used key fresh (Err e))
  not_found None e h = tt
  not_found (Some c) e h = find_failed c e (subst (λ (n : List ℕ). FindGives c p upper n value (Err e)) same h)

  -- whether the index has the entry
  abbrev pub Has : Bool → Content → Type 0
  Has b c = (t : Tree) → HoldsIndex c p upper value t → has_entry upper (link_of key) (links_of (walk t)) ≡ b

  pub has_known : (known : Option Content) (links : List Link) (b : Bool) → list_any (names_file key.child) links ≡ b → IfSome known (λ c. FindGives c p upper name value (Ok links)) → IfSome known (Has b)
  has_known None links b is h = tt
  has_known (Some c) links b is h = λ t held.
      let found : links ≡ filter (is_sought upper (link_of key).name) (links_of (walk t)) = h t held ∙ ap (λ (n : List ℕ). filter (is_sought upper n) (links_of (walk t))) same in
      ap (list_any (names_file (link_of key).child)) (sym found) ∙ ap (λ f. list_any (names_file f) links) (link_child key) ∙ is

  insert_at : (c : Content) (result : Result NodesPlan TreeFault) → Has false c → PlansNew c p upper value used key fresh result → PlansNodes c p upper value used key fresh result
  insert_at c (Ok n) none h = (none, h)
  insert_at c (Err (Node vcn rule)) none h = h
  insert_at c (Err Present) none h = absurd h
  insert_at c (Err Absent) none h = absurd h
  insert_at c (Err (Deep height)) none h = (none, h)
  insert_at c (Err (View cause)) none h = tt

  pub insert_known : (known now : Option Content) (result : Result NodesPlan TreeFault) → now ≡ known → IfSome known (Has false) → IfSome now (λ c. PlansNew c p upper value used key fresh result) → IfSome known (λ c. PlansNodes c p upper value used key fresh result)
  insert_known None now result e none h = tt
  insert_known (Some c) now result e none h = insert_at c result none (subst (λ (o : Option Content). IfSome o (λ c. PlansNew c p upper value used key fresh result)) e h)
