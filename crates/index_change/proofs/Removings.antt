-- The index after a removal, over a content that may be known.
use Rattle.std.proofs.Common.{◌≡◌, ℕ, suc, ◌+◌, ◌<◌, ◌≤◌, min, Bool, true, false, List, [], ◌∷◌, ◌++◌, length, length-append, Option, Some, None, Result, Ok, Err, refl, sym, ap, ◌∙◌, subst, ◌⊎◌, inl, inr, arith}
use Rattle.std.specs.Prelude.{IfSome, IfOk, IfErr, IsTrue, reverse}
use Rattle.std.specs.Option.{ForSome}
use Rattle.std.specs.List.{filter}
use Rattle.std.proofs.lemmas.List.{length-take}
use Rattle.record_model.specs.disk_model.declared.block.Change.{Change}
use Rattle.record_model.specs.disk_model.Content.{Content, HasSizes}
use Rattle.index_tree.specs.block_view.Changes.{content_after}
use Rattle.record_model.specs.declared.entry.Entry.{Entry as Raw}
use Rattle.record_model.specs.Nodes.{root_at, last_entry}
use Rattle.index_tree.specs.file_tree.declared.link.Link.{Link}
use Rattle.index_tree.specs.index_model.Trees.{Tree, Leaf, walk, times, levels, one_if}
use Rattle.index_tree.specs.index_model.Indexes.{Place, node_of_block, links_of, rises}
use Rattle.index_tree.specs.index_model.Walks.{Broken}
use Rattle.index_tree.specs.index_model.Laws.{HoldsIndex}
use Rattle.index_tree.proofs.index_model.Complete.{some_levels}
use Rattle.index_tree.proofs.index_model.WalkLaw.{walk_passes}
use Rattle.index_node.proofs.RootSpelled.{root_law}
use Rattle.index_plan.specs.declared.plan.Rooted.{Rooted}
use Rattle.index_plan.specs.Laws.{Once, RemovesFrom, TakesFewOut, full_without, NeedsLevelWithout as NeedsWithout}
use Rattle.index_plan.specs.Reading.{nodes_of}
use Rattle.index_plan.specs.Removal.{vcns}
use Rattle.index_plan.proofs.Removing.{held_vcns}
use Rattle.index_tree.specs.declared.fault.TreeFault.{TreeFault}
use Rattle.index_tree.specs.declared.fault.TreeFault.TheVariants.{Node, Present, Absent, Deep, View}
use Rattle.index_tree.specs.Calls.{FindGives, is_sought}
use Rattle.index_change.specs.declared.plan.DirPlan.{DirPlan}
use Rattle.index_change.specs.Amounts.{keys_of, blocks_of}
use Rattle.index_change.specs.Changing.{IsLaidOut, uses, PutNodes, changes_in}
use Rattle.index_change.specs.Faults.{IsOfView}
use Rattle.index_change.specs.Heights.{height_of}
use Rattle.index_change.specs.Orders.{stands, link_of, has_link, LacksOne}
use Rattle.index_change.specs.Plans.{clusters_of, root_room, seventeen, NewIndex, IsMade}
use Rattle.index_change.specs.Removals.{NeedsLevelWithout, WithoutLink, IsEmptied, TakesLittleOut, TakesLink, RemoveGives}
use Rattle.index_change.proofs.Amounting.{index_keys, index_blocks}
use Rattle.index_change.proofs.Counting.{once_fewer, times-back, times-take}
use Rattle.index_change.proofs.Lacking.{rises_without, links_around, links_both, length_links, only_link, only_key}
use Rattle.index_change.proofs.Lawful.{AreNames, index_names}
use Rattle.index_change.proofs.Lookups.{found_link, here_link}
use Rattle.index_change.proofs.NewIndexes.{new_index, as_plan}
use Rattle.index_change.proofs.Tightening.{tight_if_higher_without, few_taken_out}
use Rattle.index_change.proofs.Sizing.{bare_fits}
use Rattle.index_change.proofs.Tall.{root_raws, index_height}

listed : List Link → Result (List Link) Broken
listed links = Ok links

module _ (p : Place) (upper value : List ℕ) (used : ℕ) (l : Link) (fresh : List ℕ) (root : List Raw) where
  abbrev room : ℕ
  room = root_room used value

  abbrev pub clusters : ℕ
  clusters = clusters_of value

  -- of each index, the plan takes the link out
  abbrev pub Removes : ℕ → Rooted → List ℕ → Content → Type 0
  Removes height r freed c = RemovesFrom (nodes_of (node_of_block c p)) (stands upper l) (seventeen fresh) root room height r freed

  abbrev pub NeedsIn : Content → Type 0
  NeedsIn c = NeedsWithout (nodes_of (node_of_block c p)) (stands upper l) (seventeen fresh) root room

  -- the number by which a level is judged: the most, or that of the index
  abbrev pub Judged : ℕ → Content → Type 0
  Judged height c = (height ≡ 16) ⊎ (height ≡ height_of (node_of_block c p) root)

  -- blocks are taken only where there is no room
  abbrev pub FewIn : Rooted → Content → Type 0
  FewIn r c = TakesFewOut (node_of_block c p) (stands upper l) (record { writes = []; fresh = seventeen fresh }) root room r

  -- the index has another link
  abbrev pub HasTwo : Content → Type 0
  HasTwo c = 2 ≤ keys_of (node_of_block c p) root

  low_enough : (more : Bool) (n height : ℕ) → (IsTrue more → height < 16) → n ≤ 16 → (height ≡ 16) ⊎ (height ≡ n) → n + one_if more ≤ 16
  low_enough true n height fits low (inl e) = let f = fits refl in absurd (omega arith)
  low_enough true n height fits low (inr e) = let f = fits refl in omega arith
  low_enough false n height fits low j = omega arith

  judged : (c : Content) (height : ℕ) (t : Tree) → root_at value ≡ Ok root → HoldsIndex c p upper value t → Judged height c → (height ≡ 16) ⊎ (height ≡ levels t)
  judged c height t read h (inl e) = inl e
  judged c height t read h (inr e) = inr (e ∙ index_height c p upper value root t read h)

  -- the index without the link
  without_link : (c : Content) (r : Rooted) (gone freed : List ℕ) (plan : DirPlan) (height : ℕ) (t : Tree) → HasSizes c → 17 ≤ length fresh → root_at value ≡ Ok root → Removes height r freed c → reverse gone ≡ freed → IsMade p clusters (seventeen fresh) gone r plan
      → HoldsIndex c p upper value t → (height ≡ 16) ⊎ (height ≡ levels t) → Once t fresh → IsLaidOut p (uses t fresh) → FewIn r c → WithoutLink c p upper value used l t fresh plan × TakesLittleOut upper room l (seventeen fresh) t plan
  without_link c r gone freed plan height t sized enough read removes back made h j once laid takes =
      let few : Once t (seventeen fresh) = once_fewer t 17 fresh once in
      let o = removes t (root_raws c p upper value root t read h) (as_plan (node_of_block c p) t h.is_index.stands) few h.is_index.height in
      let more : Bool = full_without room t o.sought.way_to o.sought.part (seventeen fresh) in
      let names : AreNames (o.before ++ o.sought.key ∷ o.behind) = subst AreNames o.had (index_names c p upper value t h) in
      let around : links_of (walk t) ≡ links_of o.before ++ link_of o.sought.key ∷ links_of o.behind = ap links_of o.had ∙ links_around o.before o.sought.key o.behind names in
      let left : List Link = links_of o.before ++ links_of o.behind in
      let low : levels t + one_if more ≤ 16 = low_enough more (levels t) height o.level h.is_index.height j in (
        record {
          left = left;
          lacks = record {
            before = links_of o.before;
            behind = links_of o.behind;
            had = around ∙ ap (λ (m : Link). links_of o.before ++ m ∷ links_of o.behind) (here_link upper l o.sought.key o.sought.here);
            left_is = refl;
          };
          key = o.sought.key;
          before = o.before;
          behind = o.behind;
          had = o.had;
          stands_for = here_link upper l o.sought.key o.sought.here;
          more = more;
          needed = λ m. record { sought = o.sought; full = m };
          tight = λ m. tight_if_higher_without c p upper value used fresh root t read h enough l (record { sought = o.sought; full = m });
          index =
              new_index c p upper value used t fresh (seventeen fresh) gone r plan more (o.before ++ o.behind) (λ x. times x freed) left sized laid made few
              (omega (arith, enough, length-take 17 fresh)) (λ x. times-take x 17 fresh) o.new (λ x. omega (arith, times-back x gone, ap (times x) back)) low
              (links_both o.before o.behind o.sought.key names) (rises_without upper (links_of o.before) (link_of o.sought.key) (links_of o.behind) (sym (ap (rises upper) around) ∙ h.is_index.ordered));
        },
        few_taken_out c p upper value used fresh root t read h enough clusters l gone r plan o.before o.sought.key o.behind o.sought.here o.had takes made,
      )

  -- an index of two links has one that is left
  some_left : (links left : List Link) → 2 ≤ length links → LacksOne l links left → (left ≡ [] → ⊥)
  some_left links left two lacks e =
      let n : length links ≡ length lacks.before + suc (length lacks.behind) = ap length lacks.had ∙ length-append lacks.before (l ∷ lacks.behind) in
      let m : length left ≡ length lacks.before + length lacks.behind = ap length lacks.left_is ∙ length-append lacks.before lacks.behind in
      let none : length left ≡ 0 = ap length e in
      omega arith

  two_links : (c : Content) (t : Tree) → root_at value ≡ Ok root → HoldsIndex c p upper value t → HasTwo c → 2 ≤ length (links_of (walk t))
  two_links c t read h two = let k = index_keys c p upper value root t read h in let n = length_links (walk t) (index_names c p upper value t h) in omega (arith, two, k, n)

  takes : (c : Content) (r : Rooted) (gone freed : List ℕ) (plan : DirPlan) (height : ℕ) → HasSizes c → 17 ≤ length fresh → root_at value ≡ Ok root → Removes height r freed c → FewIn r c → reverse gone ≡ freed → Judged height c → HasTwo c → IsMade p clusters (seventeen fresh) gone r plan → TakesLink c p upper value used l fresh (Ok plan)
  takes c r gone freed plan height sized enough read removes few back j two made t h has once laid =
      let w = without_link c r gone freed plan height t sized enough read removes back made h (judged c height t read h j) once laid few in
      (w.0, λ e. absurd (some_left (links_of (walk t)) w.0.left (two_links c t read h two) w.0.lacks e), λ some. w.1)

  -- a plan that is finished
  pub takes_known : (known now : Option Content) (r : Rooted) (gone freed : List ℕ) (result : Result DirPlan TreeFault) (height : ℕ) → now ≡ known → IfSome known HasSizes → 17 ≤ length fresh → root_at value ≡ Ok root
      → IfSome now (Removes height r freed) → IfSome now (FewIn r) → reverse gone ≡ freed → IfSome now (Judged height) → ForSome known HasTwo → IfOk result (IsMade p clusters (seventeen fresh) gone r) → IfErr result IsOfView → IfSome known (λ c. TakesLink c p upper value used l fresh result)
  takes_known None now r gone freed result height e sized enough read a f back j two made only = tt
  takes_known (Some c) now r gone freed (Ok plan) height e sized enough read a f back j two made only =
      takes c r gone freed plan height sized enough read (subst (λ (o : Option Content). IfSome o (Removes height r freed)) e a) (subst (λ (o : Option Content). IfSome o (FewIn r)) e f) back (subst (λ (o : Option Content). IfSome o (Judged height)) e j) (two c refl) made
  takes_known (Some c) now r gone freed (Err (View cause)) height e sized enough read a f back j two made only = tt
  takes_known (Some c) now r gone freed (Err (Node vcn rule)) height e sized enough read a f back j two made only = absurd only
  takes_known (Some c) now r gone freed (Err Present) height e sized enough read a f back j two made only = absurd only
  takes_known (Some c) now r gone freed (Err Absent) height e sized enough read a f back j two made only = absurd only
  takes_known (Some c) now r gone freed (Err (Deep h)) height e sized enough read a f back j two made only = absurd only

  deep : (c : Content) (height : ℕ) → 17 ≤ length fresh → root_at value ≡ Ok root → 16 ≤ height → NeedsIn c → height ≡ height_of (node_of_block c p) root → TakesLink c p upper value used l fresh (Err (Deep height))
  deep c height enough read high needs is t h =
      let levels_are : levels t ≡ height = sym (is ∙ index_height c p upper value root t read h) in
      let low = h.is_index.height in
      let n = needs t (root_raws c p upper value root t read h) (as_plan (node_of_block c p) t h.is_index.stands) low in
      let needed : NeedsLevelWithout upper room l (seventeen fresh) t = record { sought = n.0; full = n.1 } in
      (levels_are, omega (arith, levels_are, low, high), needed, tight_if_higher_without c p upper value used fresh root t read h enough l needed)

  -- there are sixteen levels
  pub deep_known : (known now : Option Content) (height h : ℕ) → now ≡ known → 17 ≤ length fresh → root_at value ≡ Ok root → h ≡ height → 16 ≤ height → IfSome now NeedsIn → IfSome now (λ c. height ≡ height_of (node_of_block c p) root) → IfSome known (λ c. TakesLink c p upper value used l fresh (Err (Deep h)))
  deep_known None now height h e enough read is high needs j = tt
  deep_known (Some c) now height h e enough read is high needs j =
      subst (λ (k : ℕ). TakesLink c p upper value used l fresh (Err (Deep k))) (sym is)
      (deep c height enough read high (subst (λ (o : Option Content). IfSome o NeedsIn) e needs) (subst (λ (o : Option Content). IfSome o (λ c. height ≡ height_of (node_of_block c p) root)) e j))

  -- ---- an index whose only link goes

  bare : (c : Content) (t : Tree) (plan : DirPlan) → IsEmptied clusters (vcns t) plan → HoldsIndex (content_after plan.changes.items c) p upper plan.root Leaf
  bare c t plan made = record {
    entries = last_entry None ∷ [];
    root_read = ap root_at made.root ∙ root_law.read clusters (last_entry None ∷ []) made.spelled;
    is_index = record { root_is = refl; stands = tt; once = λ v. omega arith; height = omega arith; ordered = refl };
  }

  bare_index : (c : Content) (t : Tree) (plan : DirPlan) → root_at value ≡ Ok root → IsEmptied clusters (vcns t) plan → (i : NewIndex c p upper value used t fresh false [] [] plan) × (i.tree ≡ Leaf)
  unfolding listed
  bare_index c t plan read made = (
    record {
      tree = Leaf;
      holds = bare c t plan made;
      root = made.root;
      writes = [];
      puts = subst (λ (changes : List Change). PutNodes p [] changes) (sym made.unchanged) tt;
      placed = λ v. omega arith;
      has_keys = refl;
      links = refl;
      walked = walk_passes (content_after plan.changes.items c) p upper plan.root Leaf (bare c t plan made);
      numbers = λ v. omega (arith, ap (times v) made.freed, ap (times v) made.none_taken, held_vcns v t);
      height = omega (arith, some_levels t);
      has_room = λ m. inl (bare_fits used value root read);
      one_entry = λ m. absurd cc;
      written = omega (arith, ap length made.unchanged);
      apart = λ b. omega (arith, ap (changes_in b) made.unchanged);
      few = omega (arith, ap length made.none_taken);
      among = λ v. omega (arith, ap (times v) made.none_taken);
    },
    refl,
  )

  empties : (c : Content) (n : ℕ) (blocks : List ℕ) (plan : DirPlan) → root_at value ≡ Ok root → n < 2 → n ≡ min 2 (keys_of (node_of_block c p) root) → blocks ≡ blocks_of (node_of_block c p) root → IsEmptied clusters blocks plan → TakesLink c p upper value used l fresh (Ok plan)
  empties c n blocks plan read few count are made t h has once laid =
      let keys = index_keys c p upper value root t read h in
      let all = length_links (walk t) (index_names c p upper value t h) in
      let one : links_of (walk t) ≡ l ∷ [] = only_link l (links_of (walk t)) (omega (arith, few, count, keys, all)) has in
      let emptied : IsEmptied clusters (vcns t) plan = subst (λ (b : List ℕ). IsEmptied clusters b plan) (are ∙ index_blocks c p upper value root t read h) made in
      let i = bare_index c t plan read emptied in
      let only = only_key l (walk t) (index_names c p upper value t h) one in (
        record {
          left = [];
          lacks = record { before = []; behind = []; had = one; left_is = refl };
          key = only.0;
          before = [];
          behind = [];
          had = only.1;
          stands_for = only.2;
          more = false;
          needed = λ m. absurd cc;
          tight = λ m. absurd cc;
          index = i.0;
        },
        λ e. i.1,
        λ some. absurd (omega (arith, ap length made.none_taken)),
      )

  pub empties_known : (known : Option Content) (n : ℕ) (old blocks : List ℕ) (given : List Raw) (plan : DirPlan) → root_at value ≡ Ok root → n < 2 → old ≡ [] → given ≡ root
      → IfSome known (λ c. n ≡ min 2 (keys_of (node_of_block c p) given)) → IfSome known (λ c. n < 2 → blocks ≡ old ++ blocks_of (node_of_block c p) given) → IsEmptied clusters blocks plan → IfSome known (λ c. TakesLink c p upper value used l fresh (Ok plan))
  empties_known None n old blocks given plan read few none is count are made = tt
  empties_known (Some c) n old blocks given plan read few none is count are made =
      let k : n ≡ min 2 (keys_of (node_of_block c p) root) = count ∙ ap (λ (r : List Raw). min 2 (keys_of (node_of_block c p) r)) is in
      let b : blocks ≡ blocks_of (node_of_block c p) root = are few ∙ ap (λ (o : List ℕ). o ++ blocks_of (node_of_block c p) given) none ∙ ap (blocks_of (node_of_block c p)) is in
      empties c n blocks plan read few k b made

  two_at : (c : Content) (n : ℕ) → 2 ≤ n → n ≡ min 2 (keys_of (node_of_block c p) root) → HasTwo c
  two_at c n more count = omega (arith, more, count)

  pub two_known : (known now : Option Content) (n : ℕ) (given : List Raw) → now ≡ known → given ≡ root → 2 ≤ n → IfSome known (λ c. n ≡ min 2 (keys_of (node_of_block c p) given)) → ForSome now HasTwo
  two_known None None n given e is more count = λ c some. absurd cc
  two_known None (Some d) n given e is more count = λ c some. absurd cc
  two_known (Some b) None n given e is more count = λ c some. absurd cc
  two_known (Some b) (Some d) n given e is more count = λ c some.
      let g : ◌≡◌ {A = Option Content} (Some b) (Some c) = sym e ∙ some in
      let h : b ≡ c = cc in
      subst HasTwo h (two_at b n more (count ∙ ap (λ (r : List Raw). min 2 (keys_of (node_of_block b p) r)) is))

  -- ---- the whole call

  find_failed : (c : Content) (e : TreeFault) → FindGives c p upper l.name value (Err e) → RemoveGives c p upper value used l fresh (Err e)
  find_failed c (Node vcn rule) h = (inl h.0, h.1)
  find_failed c Present h = absurd h
  find_failed c Absent h = absurd h
  find_failed c (Deep height) h = absurd h
  find_failed c (View cause) h = tt

  pub not_found : (known : Option Content) (m : Link) (e : TreeFault) → m ≡ l → IfSome known (λ c. FindGives c p upper m.name value (Err e)) → IfSome known (λ c. RemoveGives c p upper value used l fresh (Err e))
  not_found None m e is h = tt
  not_found (Some c) m e is h = find_failed c e (subst (λ (k : Link). FindGives c p upper k.name value (Err e)) is h)

  -- whether the index has the link
  abbrev pub Has : Bool → Content → Type 0
  Has b c = (t : Tree) → HoldsIndex c p upper value t → has_link l (links_of (walk t)) ≡ b

  pub has_known : (known : Option Content) (m : Link) (links : List Link) (b : Bool) → m ≡ l → has_link m links ≡ b → IfSome known (λ c. FindGives c p upper m.name value (Ok links)) → IfSome known (Has b)
  has_known None m links b is e h = tt
  has_known (Some c) m links b is e h = λ t holds.
      let found : links ≡ filter (is_sought upper l.name) (links_of (walk t)) = h t holds ∙ ap (λ (k : Link). filter (is_sought upper k.name) (links_of (walk t))) is in
      sym (found_link upper l (links_of (walk t))) ∙ sym (ap (has_link l) found) ∙ sym (ap (λ (k : Link). has_link k links) is) ∙ e

  remove_at : (c : Content) (result : Result DirPlan TreeFault) → Has true c → TakesLink c p upper value used l fresh result → RemoveGives c p upper value used l fresh result
  remove_at c (Ok plan) has h = (has, h)
  remove_at c (Err (Node vcn rule)) has h = h
  remove_at c (Err Present) has h = absurd h
  remove_at c (Err Absent) has h = absurd h
  remove_at c (Err (Deep height)) has h = (has, h)
  remove_at c (Err (View cause)) has h = tt

  pub remove_known : (known now : Option Content) (m : Link) (result : Result DirPlan TreeFault) → now ≡ known → m ≡ l → IfSome known (Has true) → IfSome now (λ c. TakesLink c p upper value used m fresh result) → IfSome known (λ c. RemoveGives c p upper value used l fresh result)
  remove_known None now m result e is has h = tt
  remove_known (Some c) now m result e is has h =
      remove_at c result has (subst (λ (k : Link). TakesLink c p upper value used k fresh result) is (subst (λ (o : Option Content). IfSome o (λ c. TakesLink c p upper value used m fresh result)) e h))
