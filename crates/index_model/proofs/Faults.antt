-- A node that a fault names breaks that rule.
use Rattle.std.proofs.Common.{◌≡◌, ℕ, zero, suc, ◌+◌, Bool, true, false, List, [], ◌∷◌, ◌++◌, get_or, Option, Some, None, Result, Ok, Err, refl, sym, ap, ◌∙◌, subst, inl, inr, arith}
use Rattle.std.specs.Prelude.{◌⊎◌, ◌&&◌, not, is_some}
use Rattle.std.proofs.lemmas.Bool.{cases_eq}
use Rattle.std.proofs.lemmas.List.{append_assoc}
use Rattle.state_model.specs.host_base.Answers.{◌>>=◌, needs}
use Rattle.state_model.specs.disk_model.declared.block.Block.{Block}
use Rattle.state_model.specs.disk_model.Content.{Content}
use Rattle.state_model.specs.record_model.declared.entry.Entry.{Entry}
use Rattle.state_model.specs.record_model.Nodes.{root_at}
use Rattle.state_model.specs.file_tree.declared.link.Link.{Link}
use Rattle.index_model.specs.declared.side.Side.{Side}
use Rattle.index_model.specs.declared.side.Side.TheVariants.{Unnamed, Before, Same, Behind}
use Rattle.index_model.specs.Trees.{one_if, same}
use Rattle.index_model.specs.Indexes.{Place, number_of, node_block, node_of_part, node_of_block, entry_link, precedes}
use Rattle.index_model.specs.Walks.{Broken, root_vcn, Event, Child, Deep, Faulty, Named, Found, Met, final, follows, is_fresh, with_mark, with_link, entered, keyed, judged, all_judged, nothing_met, below, inside, at_child, at_deep, named_event, entry_met, entries_met, kid_met, met_in, met_from, beside, found_event, entry_sought, behind, side_of, entries_sought, kid_sought, sought_in, walk_of, find_of}
use Rattle.index_model.specs.Breaks.{HasChild, HasLink, Hangs, at_root, below_node, HasMet, links_met, Breaks, by_bytes, by_child, by_depth, by_order, BreaksBelow, BreaksWalk, BreaksSearch}
use Rattle.index_model.proofs.Marks.{met_before, marked, nothing_before, same_not}
use Rattle.index_model.proofs.Steps.{bind_ok, needs_true}

-- ---- the first fault

record Fault (p : Place) (upper : List ℕ) (m : Met) (events : List Event) (b : Broken) : Type 0 where
  pub before : List Event
  pub event : Event
  pub later : List Event
  pub state : Met
  pub placed : events ≡ before ++ event ∷ later
  pub passed : all_judged p upper m before ≡ Ok state
  pub faulty : judged p upper state event ≡ Err b

fault_in : (p : Place) (upper : List ℕ) (m : Met) (events : List Event) (b : Broken) → all_judged p upper m events ≡ Err b → Fault p upper m events b
fault_in p upper m [] b h = absurd cc
fault_in p upper m (e ∷ events) b h = at_first (λ n. fault_in p upper n events b) (judged p upper m e) refl h
  where
    at_first : ((n : Met) → all_judged p upper n events ≡ Err b → Fault p upper n events b) → (r : Result Met Broken) → judged p upper m e ≡ r → (r >>= λ n. all_judged p upper n events) ≡ Err b → Fault p upper m (e ∷ events) b
    at_first rec (Ok n) is k =
        let f = rec n k in
        record { before = e ∷ f.before; event = f.event; later = f.later; state = f.state; placed = ap (λ l. e ∷ l) f.placed; passed = ap (λ (r : Result Met Broken). r >>= λ n. all_judged p upper n f.before) is ∙ f.passed; faulty = f.faulty }
    at_first rec (Err d) is k = record { before = []; event = e; later = events; state = m; placed = refl; passed = refl; faulty = is ∙ k }

-- ---- what passed events leave

-- what was met, as the events say
record Left (p : Place) (m n : Met) (events : List Event) : Type 0 where
  pub links : n.links ≡ m.links ++ links_met events
  pub marks : (x : ℕ) → met_before p n x ≡ true → (met_before p m x ≡ true) ⊎ HasMet x events
  pub inside_all : (x : ℕ) → HasMet x events → is_some (node_block p x) ≡ true

met_one : (b d : Bool) (n : ℕ) → one_if b ≡ one_if d + n → n ≡ 0 → b ≡ true → d ≡ true
met_one b true n e z h = refl
met_one b false n e z h = absurd (let one : one_if b ≡ 1 = ap one_if h in omega arith)

fresh_inside : (p : Place) (m : Met) (v : ℕ) → is_fresh p m v ≡ true → (o : Bool) → is_some (node_block p v) ≡ o → o ≡ true
fresh_inside p m v h true is = refl
fresh_inside p m v h false is = let a = rw is at h in cc

left : (p : Place) (upper : List ℕ) (m n : Met) (events : List Event) → all_judged p upper m events ≡ Ok n → Left p m n events
left p upper m n [] h =
    let same : m ≡ n = cc in
    let P : Met → Type 0 = λ k. Left p m k [] in
    subst P same (record { links = sym (nil_end m.links); marks = λ x k. inl k; inside_all = λ x k. absurd k })
  where
    nil_end : (ls : List Link) → ls ++ [] ≡ ls
    nil_end [] = refl
    nil_end (l ∷ ls) = ap (λ t. l ∷ t) (nil_end ls)
left p upper m n (Child v child ∷ events) h =
    let b = bind_ok (entered p m v child) (λ k. all_judged p upper k events) n h in
    let f = needs_true (is_fresh p m child) (record { vcn = v; rule = 7 }) (Ok (with_mark p m child)) b.0 b.1 in
    let is : with_mark p m child ≡ b.0 = let s = f.1 in cc in
    let rest = left p upper (with_mark p m child) n events (let P : Met → Type 0 = λ k. all_judged p upper k events ≡ Ok n in subst P (sym is) b.2) in
    record {
      links = rest.links;
      marks = λ x k. elim (rest.marks x k) [
        | inl before ↦ elim (cases_eq x child) [
          | inl e ↦ inr (inl e)
          | inr ne ↦ inl (met_one (met_before p (with_mark p m child) x) (met_before p m x) (same x child) (marked p m child x f.0) (same_not x child ne) before)
        ]
        | inr later ↦ inr (inr later)
      ];
      inside_all = λ x k. elim k [
        | inl e ↦ let P : ℕ → Type 0 = λ y. is_some (node_block p y) ≡ true in subst P (sym e) (fresh_inside p m child f.0 _ refl)
        | inr later ↦ rest.inside_all x later
      ];
    }
left p upper m n (Deep v ∷ events) h = absurd cc
left p upper m n (Faulty v rule ∷ events) h = absurd cc
left p upper m n (Named v l ∷ events) h =
    let b = bind_ok (keyed upper m v l) (λ k. all_judged p upper k events) n h in
    let f = needs_true (follows upper (final m.links) l) (record { vcn = v; rule = 8 }) (Ok (with_link m l)) b.0 b.1 in
    let is : with_link m l ≡ b.0 = let s = f.1 in cc in
    let rest = left p upper (with_link m l) n events (let P : Met → Type 0 = λ k. all_judged p upper k events ≡ Ok n in subst P (sym is) b.2) in
    record { links = rest.links ∙ append_assoc m.links (l ∷ []) (links_met events); marks = rest.marks; inside_all = rest.inside_all }
left p upper m n (Found l ∷ events) h =
    let rest = left p upper (with_link m l) n events h in
    record { links = rest.links ∙ append_assoc m.links (l ∷ []) (links_met events); marks = rest.marks; inside_all = rest.inside_all }

-- ---- what events say is true

abbrev Reader : Type 0
Reader = ℕ → Result (List Entry) ℕ

abbrev HungChild : Reader → List Entry → ℕ → ℕ → Type 0
HungChild read root v child = (level : ℕ) × (entries : List Entry) × Hangs read root level v entries × HasChild child entries

abbrev HungBelow : Reader → List Entry → ℕ → Type 0
HungBelow read root v = (above : ℕ) × HungChild read root above v

abbrev HungLink : Reader → List Entry → ℕ → Link → Type 0
HungLink read root v l = (level : ℕ) × (entries : List Entry) × Hangs read root level v entries × HasLink l entries

abbrev LowChild : Reader → List Entry → ℕ → Type 0
LowChild read root v = (child : ℕ) × (entries : List Entry) × Hangs read root 16 v entries × HasChild child entries

-- each event is true, where these nodes were met before
abbrev True : Reader → List Entry → (ℕ → Type 0) → List Event → Type 0
True read root seen [] = Unit {0}
True read root seen (Child v child ∷ events) = HungChild read root v child × True read root (λ x. seen x ⊎ (x ≡ child)) events
True read root seen (Deep v ∷ events) = LowChild read root v × True read root seen events
True read root seen (Faulty v rule ∷ events) = seen v × HungBelow read root v × (read v ≡ Err rule) × True read root seen events
True read root seen (Named v l ∷ events) = HungLink read root v l × True read root seen events
True read root seen (Found l ∷ events) = True read root seen events

still_true : (read : Reader) (root : List Entry) (seen more : ℕ → Type 0) → ((x : ℕ) → seen x → more x) → (events : List Event) → True read root seen events → True read root more events
still_true read root seen more f [] t = tt
still_true read root seen more f (Child v child ∷ events) t = (t.0, still_true read root (λ x. seen x ⊎ (x ≡ child)) (λ x. more x ⊎ (x ≡ child)) (λ x h. elim h [ inl a ↦ inl (f x a) | inr b ↦ inr b ]) events t.1)
still_true read root seen more f (Deep v ∷ events) t = (t.0, still_true read root seen more f events t.1)
still_true read root seen more f (Faulty v rule ∷ events) t = (f v t.0, t.1, t.2, still_true read root seen more f events t.3)
still_true read root seen more f (Named v l ∷ events) t = (t.0, still_true read root seen more f events t.1)
still_true read root seen more f (Found l ∷ events) t = still_true read root seen more f events t

both_true : (read : Reader) (root : List Entry) (seen : ℕ → Type 0) (xs ys : List Event) → True read root seen xs → True read root seen ys → True read root seen (xs ++ ys)
both_true read root seen [] ys t u = u
both_true read root seen (Child v child ∷ xs) ys t u = (t.0, both_true read root (λ x. seen x ⊎ (x ≡ child)) xs ys t.1 (still_true read root seen (λ x. seen x ⊎ (x ≡ child)) (λ x h. inl h) ys u))
both_true read root seen (Deep v ∷ xs) ys t u = (t.0, both_true read root seen xs ys t.1 u)
both_true read root seen (Faulty v rule ∷ xs) ys t u = (t.0, t.1, t.2, both_true read root seen xs ys t.3 u)
both_true read root seen (Named v l ∷ xs) ys t u = (t.0, both_true read root seen xs ys t.1 u)
both_true read root seen (Found l ∷ xs) ys t u = both_true read root seen xs ys t u

true_later : (read : Reader) (root : List Entry) (seen : ℕ → Type 0) (before : List Event) (later : List Event) → True read root seen (before ++ later) → True read root (λ x. seen x ⊎ HasMet x before) later
true_later read root seen [] later t = still_true read root seen (λ x. seen x ⊎ ⊥) (λ x h. inl h) later t
true_later read root seen (Child v child ∷ before) later t =
    still_true read root (λ x. (seen x ⊎ (x ≡ child)) ⊎ HasMet x before) (λ x. seen x ⊎ ((x ≡ child) ⊎ HasMet x before))
    (λ x h. elim h [ inl a ↦ elim a [ inl s ↦ inl s | inr e ↦ inr (inl e) ] | inr b ↦ inr (inr b) ]) later (true_later read root (λ x. seen x ⊎ (x ≡ child)) before later t.1)
true_later read root seen (Deep v ∷ before) later t = true_later read root seen before later t.1
true_later read root seen (Faulty v rule ∷ before) later t = true_later read root seen before later t.3
true_later read root seen (Named v l ∷ before) later t = true_later read root seen before later t.1
true_later read root seen (Found l ∷ before) later t = true_later read root seen before later t

-- ---- the events of a walk, and of a search, are true

abbrev KidsTrue : Reader → List Entry → (ℕ → Type 0) → (ℕ → List Event) → List Entry → Type 0
KidsTrue read root seen kid entries = (child : ℕ) → HasChild child entries → True read root seen (kid child)

below_true : (read : Reader) (root : List Entry) (seen : ℕ → Type 0) (kid : ℕ → List Event) (down : Option ℕ) → ((child : ℕ) → down ≡ Some child → True read root seen (kid child)) → True read root seen (below kid down)
below_true read root seen kid None f = tt
below_true read root seen kid (Some child) f = f child refl

named_true : (read : Reader) (root : List Entry) (seen : ℕ → Type 0) (v : ℕ) (link : Option Link) → ((l : Link) → link ≡ Some l → HungLink read root v l) → True read root seen (named_event v link)
named_true read root seen v None f = tt
named_true read root seen v (Some l) f = (f l refl, tt)

entries_true : (read : Reader) (root : List Entry) (seen : ℕ → Type 0) (kid : ℕ → List Event) (v : ℕ) (entries : List Entry) → KidsTrue read root seen kid entries → ((l : Link) → HasLink l entries → HungLink read root v l) → True read root seen (entries_met kid v entries)
entries_true read root seen kid v [] kids links = tt
entries_true read root seen kid v (e ∷ entries) kids links =
    both_true read root seen (entry_met kid v e) (entries_met kid v entries)
    (both_true read root seen (below kid e.down) (named_event v (entry_link e)) (below_true read root seen kid e.down (λ child is. kids child (inl is))) (named_true read root seen v (entry_link e) (λ l is. links l (inl is))))
    (entries_true read root seen kid v entries (λ child h. kids child (inr h)) (λ l h. links l (inr h)))

met_by : (read : Reader) (levels v : ℕ) (entries : List Entry) → met_in read levels v entries ≡ entries_met (kid_met read levels v) v entries
unfolding met_in
met_by read zero v entries = refl
met_by read (suc levels) v entries = refl

-- what is met at a child is true, where what is met in its node is
child_true : (read : Reader) (root : List Entry) (seen : ℕ → Type 0) (met : ℕ → List Entry → List Event) (level v child : ℕ) (entries : List Entry) → Hangs read root level v entries → HasChild child entries
    → ((lower : List Entry) → Hangs read root (suc level) child lower → True read root (λ x. seen x ⊎ (x ≡ child)) (met child lower)) → True read root seen (at_child read met v child)
child_true read root seen met level v child entries hangs has low = ((level, entries, hangs, has), inside_true (read child) refl)
  where
    inside_true : (r : Result (List Entry) ℕ) → read child ≡ r → True read root (λ x. seen x ⊎ (x ≡ child)) (inside child (met child) r)
    inside_true (Ok lower) is = low lower (below_node level v child entries lower hangs has is)
    inside_true (Err rule) is = (inr refl, (v, (level, entries, hangs, has)), is, tt)

met_by_kids : (read : Reader) (root : List Entry) (levels level v : ℕ) (entries : List Entry) → Hangs read root level v entries → (seen : ℕ → Type 0) → KidsTrue read root seen (kid_met read levels v) entries → True read root seen (met_in read levels v entries)
met_by_kids read root levels level v entries hangs seen kids =
    let P : List Event → Type 0 = λ es. True read root seen es in
    subst P (sym (met_by read levels v entries)) (entries_true read root seen (kid_met read levels v) v entries kids (λ l h. (level, entries, hangs, h)))

-- a child on the level behind the last one
deep_true : (read : Reader) (root : List Entry) (level v child : ℕ) (entries : List Entry) → level + 0 ≡ 16 → Hangs read root level v entries → HasChild child entries → (seen : ℕ → Type 0) → True read root seen (at_deep v child)
deep_true read root level v child entries sum hangs has seen =
    let deep : level ≡ 16 = omega arith in
    let P : ℕ → Type 0 = λ n. Hangs read root n v entries in
    ((child, entries, subst P deep hangs, has), tt)

kids_true : (read : Reader) (root : List Entry) (levels level v : ℕ) (entries : List Entry) → level + levels ≡ 16 → Hangs read root level v entries → (seen : ℕ → Type 0) → KidsTrue read root seen (kid_met read levels v) entries
kids_true read root zero level v entries sum hangs seen child has = deep_true read root level v child entries sum hangs has seen
kids_true read root (suc levels) level v entries sum hangs seen child has =
    child_true read root seen (met_in read levels) level v child entries hangs has
    (λ lower h. met_by_kids read root levels (suc level) child lower h (λ x. seen x ⊎ (x ≡ child)) (kids_true read root levels (suc level) child lower (omega arith) h (λ x. seen x ⊎ (x ≡ child))))

met_true : (read : Reader) (root : List Entry) → True read root (λ x. ⊥) (met_in read 15 root_vcn root)
met_true read root = met_by_kids read root 15 1 root_vcn root at_root (λ x. ⊥) (kids_true read root 15 1 root_vcn root refl at_root (λ x. ⊥))

beside_true : (read : Reader) (root : List Entry) (seen : ℕ → Type 0) (side : Side) (child : List Event) → True read root seen child → True read root seen (beside side child)
beside_true read root seen Unnamed child t = t
beside_true read root seen Before child t = tt
beside_true read root seen Same child t = t
beside_true read root seen Behind child t = t

found_true : (read : Reader) (root : List Entry) (seen : ℕ → Type 0) (side : Side) (link : Option Link) → True read root seen (found_event side link)
found_true read root seen side None = tt
found_true read root seen Unnamed (Some l) = tt
found_true read root seen Before (Some l) = tt
found_true read root seen Same (Some l) = tt
found_true read root seen Behind (Some l) = tt

behind_true : (read : Reader) (root : List Entry) (seen : ℕ → Type 0) (side : Side) (later : List Event) → True read root seen later → True read root seen (behind side later)
behind_true read root seen Unnamed later t = t
behind_true read root seen Before later t = t
behind_true read root seen Same later t = t
behind_true read root seen Behind later t = tt

sought_true_by : (upper name : List ℕ) (read : Reader) (root : List Entry) (seen : ℕ → Type 0) (kid : ℕ → List Event) (entries : List Entry) → KidsTrue read root seen kid entries → True read root seen (entries_sought upper name kid entries)
sought_true_by upper name read root seen kid [] kids = tt
sought_true_by upper name read root seen kid (e ∷ entries) kids =
    let side = side_of upper name (entry_link e) in
    both_true read root seen (entry_sought side (entry_link e) (below kid e.down)) (behind side (entries_sought upper name kid entries))
    (both_true read root seen (beside side (below kid e.down)) (found_event side (entry_link e)) (beside_true read root seen side (below kid e.down) (below_true read root seen kid e.down (λ child is. kids child (inl is)))) (found_true read root seen side (entry_link e)))
    (behind_true read root seen side (entries_sought upper name kid entries) (sought_true_by upper name read root seen kid entries (λ child h. kids child (inr h))))

sought_by_kids : (upper name : List ℕ) (read : Reader) (levels v : ℕ) (entries : List Entry) → sought_in upper name read levels v entries ≡ entries_sought upper name (kid_sought upper name read levels v) entries
unfolding sought_in
sought_by_kids upper name read zero v entries = refl
sought_by_kids upper name read (suc levels) v entries = refl

sought_true_in : (upper name : List ℕ) (read : Reader) (root : List Entry) (levels v : ℕ) (entries : List Entry) (seen : ℕ → Type 0) → KidsTrue read root seen (kid_sought upper name read levels v) entries → True read root seen (sought_in upper name read levels v entries)
sought_true_in upper name read root levels v entries seen kids =
    let P : List Event → Type 0 = λ es. True read root seen es in
    subst P (sym (sought_by_kids upper name read levels v entries)) (sought_true_by upper name read root seen (kid_sought upper name read levels v) entries kids)

kids_sought_true : (upper name : List ℕ) (read : Reader) (root : List Entry) (levels level v : ℕ) (entries : List Entry) → level + levels ≡ 16 → Hangs read root level v entries → (seen : ℕ → Type 0) → KidsTrue read root seen (kid_sought upper name read levels v) entries
kids_sought_true upper name read root zero level v entries sum hangs seen child has = deep_true read root level v child entries sum hangs has seen
kids_sought_true upper name read root (suc levels) level v entries sum hangs seen child has =
    child_true read root seen (sought_in upper name read levels) level v child entries hangs has
    (λ lower h. sought_true_in upper name read root levels child lower (λ x. seen x ⊎ (x ≡ child)) (kids_sought_true upper name read root levels (suc level) child lower (omega arith) h (λ x. seen x ⊎ (x ≡ child))))

sought_true : (upper name : List ℕ) (read : Reader) (root : List Entry) → True read root (λ x. ⊥) (sought_in upper name read 15 root_vcn root)
sought_true upper name read root = sought_true_in upper name read root 15 root_vcn root (λ x. ⊥) (kids_sought_true upper name read root 15 1 root_vcn root refl at_root (λ x. ⊥))

-- ---- the rule that is broken

needs_false : {A : Type 0} (x : Bool) (r b : Broken) (y : A) → (needs x r >>= λ _. Ok y) ≡ Err b → (x ≡ false) × (r ≡ b)
needs_false true r b y h = absurd cc
needs_false false r b y h = (refl, cc)

not_fresh : (p : Place) (m : Met) (v : ℕ) (o : Option Block) → node_block p v ≡ o → is_fresh p m v ≡ false → (node_block p v ≡ None) ⊎ (met_before p m v ≡ true)
not_fresh p m v None is h = inl is
not_fresh p m v (Some b) is h = inr (rw is (was_met (get_or m.marks (number_of p v) true) (rw is at h)))
  where
    was_met : (t : Bool) → (true && not t) ≡ false → (true && t) ≡ true
    was_met true k = refl
    was_met false k = absurd cc

none_first : (p : Place) (x : ℕ) → met_before p (nothing_met p) x ≡ true → ⊥
none_first p x h = let one : one_if (met_before p (nothing_met p) x) ≡ 1 = ap one_if h in let none = nothing_before p x in omega arith

met_among : (p : Place) (n : Met) (before : List Event) → Left p (nothing_met p) n before → (x : ℕ) → met_before p n x ≡ true → HasMet x before
met_among p n before left x h = elim (left.marks x h) [ inl first ↦ absurd (none_first p x first) | inr later ↦ later ]

by_own_bytes : (c : Content) (p : Place) (upper : List ℕ) (root : List Entry) (events : List Event) (v rule : ℕ) (o : Option Block) → HungBelow (node_of_block c p) root v → node_block p v ≡ o → is_some o ≡ true → node_of_part c v o ≡ Err rule → Breaks c p upper root events (record { vcn = v; rule = rule })
by_own_bytes c p upper root events v rule None hung is h e = absurd cc
by_own_bytes c p upper root events v rule (Some b) hung is h e = let a = hung.1 in by_bytes a.0 hung.0 v rule a.1 b a.2 a.3 is e

read_part : (c : Content) (p : Place) (v rule : ℕ) → node_of_block c p v ≡ Err rule → node_of_part c v (node_block p v) ≡ Err rule
unfolding node_of_block
read_part c p v rule e = e

not_following : (upper : List ℕ) (o : Option Link) (l : Link) → follows upper o l ≡ false → (k : Link) × (o ≡ Some k) × (precedes upper k l ≡ false)
not_following upper None l h = absurd cc
not_following upper (Some k) l h = (k, refl, h)

breaks_at : (c : Content) (p : Place) (upper : List ℕ) (root : List Entry) (events before : List Event) (e : Event) (later : List Event) (m : Met) (b : Broken) → events ≡ before ++ e ∷ later → Left p (nothing_met p) m before
    → True (node_of_block c p) root (λ x. ⊥ ⊎ HasMet x before) (e ∷ later) → judged p upper m e ≡ Err b → Breaks c p upper root events b
breaks_at c p upper root events before (Child v child) later m b placed left t h =
    let f = needs_false (is_fresh p m child) (record { vcn = v; rule = 7 }) b (with_mark p m child) h in
    let P : Broken → Type 0 = λ d. Breaks c p upper root events d in
    let cause : (node_block p child ≡ None) ⊎ HasMet child before = elim (not_fresh p m child _ refl f.0) [ inl out ↦ inl out | inr met ↦ inr (met_among p m before left child met) ] in
    let a = t.0 in
    subst P f.1 (by_child a.0 v child a.1 before later a.2 a.3 placed cause)
breaks_at c p upper root events before (Deep v) later m b placed left t h =
    let is : record { vcn = v; rule = 7 } ≡ b = cc in
    let P : Broken → Type 0 = λ d. Breaks c p upper root events d in
    let a = t.0 in
    subst P is (by_depth v a.0 a.1 a.2 a.3)
breaks_at c p upper root events before (Faulty v rule) later m b placed left t h =
    let is : record { vcn = v; rule = rule } ≡ b = cc in
    let P : Broken → Type 0 = λ d. Breaks c p upper root events d in
    let met : HasMet v before = elim t.0 [ inl none ↦ absurd none | inr here ↦ here ] in
    subst P is (by_own_bytes c p upper root events v rule (node_block p v) t.1 refl (left.inside_all v met) (read_part c p v rule t.2))
breaks_at c p upper root events before (Named v l) later m b placed left t h =
    let f = needs_false (follows upper (final m.links) l) (record { vcn = v; rule = 8 }) b (with_link m l) h in
    let P : Broken → Type 0 = λ d. Breaks c p upper root events d in
    let o = not_following upper (final m.links) l f.0 in
    let a = t.0 in
    subst P f.1 (by_order a.0 v l o.0 a.1 before later a.2 a.3 placed (ap final (sym left.links) ∙ o.1) o.2)
breaks_at c p upper root events before (Found l) later m b placed left t h = absurd cc

breaks_first : (c : Content) (p : Place) (upper : List ℕ) (root : List Entry) (events : List Event) (b : Broken) → True (node_of_block c p) root (λ x. ⊥) events → all_judged p upper (nothing_met p) events ≡ Err b → Breaks c p upper root events b
breaks_first c p upper root events b t h =
    let f = fault_in p upper (nothing_met p) events b h in
    let P : List Event → Type 0 = λ es. True (node_of_block c p) root (λ x. ⊥) es in
    breaks_at c p upper root events f.before f.event f.later f.state b f.placed (left p upper (nothing_met p) f.state f.before f.passed) (true_later (node_of_block c p) root (λ x. ⊥) f.before (f.event ∷ f.later) (subst P f.placed t)) f.faulty

bind_err : (r : Result Met Broken) (b : Broken) → (r >>= λ m. Ok m.links) ≡ Err b → r ≡ Err b
bind_err (Ok m) b h = absurd cc
bind_err (Err d) b h = cc

below_root : (c : Content) (p : Place) (upper : List ℕ) (met : List Entry → List Event) → ((root : List Entry) → True (node_of_block c p) root (λ x. ⊥) (met root)) → (r : Result (List Entry) ℕ) (b : Broken) → met_from p upper met r ≡ Err b → BreaksBelow c p upper met r b
below_root c p upper met t (Ok entries) b h = breaks_first c p upper entries (met entries) b (t entries) (bind_err (all_judged p upper (nothing_met p) (met entries)) b h)
below_root c p upper met t (Err rule) b h = cc

pub walk_breaks : (c : Content) (p : Place) (upper value : List ℕ) (b : Broken) → walk_of c p upper value ≡ Err b → BreaksWalk c p upper value b
unfolding walk_of
walk_breaks c p upper value b h = below_root c p upper (met_in (node_of_block c p) 15 root_vcn) (met_true (node_of_block c p)) (root_at value) b h

pub find_breaks : (c : Content) (p : Place) (upper name value : List ℕ) (b : Broken) → find_of c p upper name value ≡ Err b → BreaksSearch c p upper name value b
unfolding find_of
find_breaks c p upper name value b h = below_root c p upper (sought_in upper name (node_of_block c p) 15 root_vcn) (sought_true upper name (node_of_block c p)) (root_at value) b h
