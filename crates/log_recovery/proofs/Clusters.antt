-- The shadows of more and more blocks: of one block, of those of a sector and of a cluster, and of all clusters with a group.
use Rattle.std.proofs.Common.{◌≡◌, ℕ, ◌+◌, ◌*◌, ◌/◌, Bool, true, false, ◌||◌, ◌&&◌, List, [], ◌∷◌, ◌++◌, Option, Some, None, Vec, refl, sym, ap, ◌∙◌, subst, arith}
use Rattle.std.specs.Prelude.{if◌then◌else◌, ◌==◌, nat_le, nat_lt, map}
use Rattle.std.specs.declared.cmp.Ordering.{Ordering}
use Rattle.std.specs.declared.cmp.Ordering.TheVariants.{Less}
use Rattle.std.specs.Ordering.{is_eq, eq_by_cmp, nat_cmp}
use Rattle.std.specs.Option.{option_or, is_some}
use Rattle.std.specs.List.{AllByRecursion, IsDistinct}
use Rattle.std.specs.List.Sorted.{IsStrictlySortedBy}
use Rattle.std.specs.Set.{is_member}
use Rattle.std.specs.BTreeMap.{BTreeMap, get}
use Rattle.std.specs.Borrow.{Bor}
use Rattle.std.proofs.lemmas.Bool.{eqb-true}
use Rattle.std.proofs.lemmas.Bool.Decides.{nat_tests}
use Rattle.std.proofs.lemmas.Map.Keys.{sorted_head, sorted_tail}
use Rattle.log_reading.specs.disk_model.declared.block.Block.{Block}
use Rattle.log_reading.specs.disk_model.declared.block.BlockKind.{BlockKind}
use Rattle.log_reading.specs.disk_model.declared.block.BlockKind.TheVariants.{Plain, FileRec, Index}
use Rattle.log_reading.specs.disk_model.Sectors.{same_block, same_kind}
use Rattle.log_reading.proofs.disk_model.Frames.{same_block-is}
use Rattle.log_model.specs.Logs.{is_in_grid}
use Rattle.log_model.specs.declared.entry.Entry.{Entry}
use Rattle.log_recovery.specs.declared.found.Shadow.{Shadow}
use Rattle.log_recovery.specs.Blocks.{shadowed_by}
use Rattle.log_recovery.specs.Groups.{held_group}
use Rattle.log_recovery.specs.Recovering.{held_lsn, shadow_block}
use Rattle.log_recovery.specs.Shadows.{shadow_by, shadow_in, AddsShadows}
use Rattle.log_recovery.proofs.Walking.{number_equal}
use Rattle.log_recovery.proofs.Steps.{same_self_block, distinct_none, held-push, pushed_once}

clash : {X : Type 0} → true ≡ false → X
clash e = absurd cc

or_none : (o : Option ℕ) → o ≡ option_or o None
or_none None = refl
or_none (Some x) = refl

-- ---- one block

one_value : (s : Bool) (w : Option ℕ) (v : Option ℕ) → (s ≡ true → w ≡ v) → (if s then v else None) ≡ (if s then w else None)
one_value true w v e = sym (e refl)
one_value false w v e = refl

nothing : (s : Bool) (o : Option ℕ) → o ≡ None → o ≡ (if s then o else None)
nothing true o e = refl
nothing false o e = e

-- the block isn't shadowed
pub none_noted : (meant : Block → Option ℕ) (block : Block) (old : List Shadow) → meant block ≡ None → AddsShadows meant (λ b. same_block b block) old old
none_noted meant block old none = record {
  held = λ b. or_none (held_lsn old b) ∙ ap (option_or (held_lsn old b)) (nothing (same_block b block) None refl ∙ one_value (same_block b block) (meant b) None (λ same. ap meant (same_block-is b block same) ∙ none));
  once = λ fresh distinct. distinct;
}

-- it is
pub one_noted : (meant : Block → Option ℕ) (block : Block) (lsn : ℕ) (old : List Shadow) → meant block ≡ Some lsn → AddsShadows meant (λ b. same_block b block) old (old ++ record { block = block; lsn = lsn } ∷ [])
one_noted meant block lsn old is = record {
  held = λ b. held-push shadow_block (λ (s : Shadow). s.lsn) old (record { block = block; lsn = lsn }) b
      ∙ ap (option_or (held_lsn old b)) (one_value (same_block b block) (meant b) (Some lsn) (λ same. ap meant (same_block-is b block same) ∙ is));
  once = λ fresh distinct. pushed_once shadow_block (λ (s : Shadow). s.lsn) old (record { block = block; lsn = lsn }) distinct (fresh block (same_self_block block));
}

-- ---- some blocks, and then others

or_left : (s t : Bool) → s ≡ true → (s || t) ≡ true
or_left true t e = refl
or_left false t e = clash (sym e)

or_right : (s t : Bool) → t ≡ true → (s || t) ≡ true
or_right true t e = refl
or_right false t e = e

both : (s t : Bool) (o w : Option ℕ) → (s ≡ true → t ≡ true → ⊥) → option_or (option_or o (if s then w else None)) (if t then w else None) ≡ option_or o (if s || t then w else None)
both true true o w apart = absurd (apart refl refl)
both true false o w apart = sym (or_none (option_or o w))
both false t o w apart = ap (λ (p : Option ℕ). option_or p (if t then w else None)) (sym (or_none o))

other : (s t : Bool) (o w : Option ℕ) → (s ≡ true → t ≡ true → ⊥) → t ≡ true → o ≡ None → option_or o (if s then w else None) ≡ None
other true t o w apart is none = absurd (apart refl is)
other false t o w apart is none = sym (or_none o) ∙ none

pub then_more : (meant : Block → Option ℕ) (these those all : Block → Bool) (old now new : List Shadow) → ((b : Block) → these b ≡ true → those b ≡ true → ⊥) → ((b : Block) → all b ≡ (these b || those b))
    → AddsShadows meant these old now → AddsShadows meant those now new → AddsShadows meant all old new
then_more meant these those all old now new apart is x y = record {
  held = λ b. y.held b ∙ ap (λ (o : Option ℕ). option_or o (if those b then meant b else None)) (x.held b) ∙ both (these b) (those b) (held_lsn old b) (meant b) (apart b)
      ∙ ap (λ (t : Bool). option_or (held_lsn old b) (if t then meant b else None)) (sym (is b));
  once = λ fresh distinct.
      y.once (λ b here. x.held b ∙ other (these b) (those b) (held_lsn old b) (meant b) (apart b) here (fresh b (is b ∙ or_right (these b) (those b) here)))
      (x.once (λ b here. fresh b (is b ∙ or_left (these b) (those b) here)) distinct);
}

-- no block
pub no_blocks : (meant : Block → Option ℕ) (here : Block → Bool) (old : List Shadow) → ((b : Block) → here b ≡ false) → AddsShadows meant here old old
no_blocks meant here old none = record {
  held = λ b. or_none (held_lsn old b) ∙ ap (λ (t : Bool). option_or (held_lsn old b) (if t then meant b else None)) (sym (none b));
  once = λ fresh distinct. distinct;
}

-- the same blocks
pub same_blocks : (meant : Block → Option ℕ) (here there : Block → Bool) (old new : List Shadow) → ((b : Block) → there b ≡ here b) → AddsShadows meant here old new → AddsShadows meant there old new
same_blocks meant here there old new is x = record {
  held = λ b. x.held b ∙ ap (λ (t : Bool). option_or (held_lsn old b) (if t then meant b else None)) (sym (is b));
  once = λ fresh distinct. x.once (λ b here_is. fresh b (is b ∙ here_is)) distinct;
}

-- ---- those of a sector

abbrev of_kind : ℕ → BlockKind → Block → Bool
of_kind first kind b = same_block b (record { first = first; kind = kind })

plain_or_record : (s : Bool) (k : BlockKind) → (s && same_kind k Plain) ≡ true → (s && same_kind k FileRec) ≡ true → ⊥
plain_or_record true Plain p q = cc
plain_or_record true FileRec p q = cc
plain_or_record true Index p q = cc
plain_or_record false k p q = cc

or_index : (s : Bool) (k : BlockKind) → ((s && same_kind k Plain) || (s && same_kind k FileRec)) ≡ true → (s && same_kind k Index) ≡ true → ⊥
or_index true Plain p q = cc
or_index true FileRec p q = cc
or_index true Index p q = cc
or_index false k p q = cc

each_kind : (s : Bool) (k : BlockKind) → s ≡ (((s && same_kind k Plain) || (s && same_kind k FileRec)) || (s && same_kind k Index))
each_kind true Plain = refl
each_kind true FileRec = refl
each_kind true Index = refl
each_kind false k = refl

pub sector_noted : (meant : Block → Option ℕ) (first : ℕ) (old plain records new : List Shadow) → AddsShadows meant (λ b. same_block b (record { first = first; kind = Plain })) old plain → AddsShadows meant (λ b. same_block b (record { first = first; kind = FileRec })) plain records
    → AddsShadows meant (λ b. same_block b (record { first = first; kind = Index })) records new → AddsShadows meant (λ b. b.first == first) old new
sector_noted meant first old plain records new x y z =
    then_more meant (λ b. of_kind first Plain b || of_kind first FileRec b) (of_kind first Index) (λ b. b.first == first) old records new (λ b p q. or_index (b.first == first) b.kind p q) (λ b. each_kind (b.first == first) b.kind)
    (then_more meant (of_kind first Plain) (of_kind first FileRec) (λ b. of_kind first Plain b || of_kind first FileRec b) old plain records (λ b p q. plain_or_record (b.first == first) b.kind p q) (λ b. refl) x y) z

-- ---- those of a cluster

abbrev pub is_between : ℕ → ℕ → Block → Bool
is_between first end b = nat_le first b.first && nat_lt b.first end

none_between : (first x : ℕ) → (nat_le first x && nat_lt x (first + 0)) ≡ false
none_between first x = grind (arith, nat_tests)

past_those : (first n x : ℕ) → (nat_le first x && nat_lt x (first + n)) ≡ true → (x == first + n) ≡ true → ⊥
past_those first n x p q = grind (arith, nat_tests)

one_sector_more : (first n x : ℕ) → (nat_le first x && nat_lt x (first + (n + 1))) ≡ ((nat_le first x && nat_lt x (first + n)) || (x == first + n))
one_sector_more first n x = grind (arith, nat_tests)

eight_sectors : (cluster x : ℕ) → (x / 8 == cluster) ≡ (nat_le (8 * cluster) x && nat_lt x (8 * cluster + 8))
eight_sectors cluster x = grind (arith, nat_tests)

pub no_sectors : (meant : Block → Option ℕ) (first : ℕ) (old : List Shadow) → AddsShadows meant (is_between first (first + 0)) old old
no_sectors meant first old = no_blocks meant (is_between first (first + 0)) old (λ b. none_between first b.first)

pub more_sectors : (meant : Block → Option ℕ) (first n : ℕ) (old now new : List Shadow) → AddsShadows meant (is_between first (first + n)) old now → AddsShadows meant (λ b. b.first == first + n) now new → AddsShadows meant (is_between first (first + (n + 1))) old new
more_sectors meant first n old now new x y =
    then_more meant (is_between first (first + n)) (λ b. b.first == first + n) (is_between first (first + (n + 1))) old now new (λ b. past_those first n b.first) (λ b. one_sector_more first n b.first) x y

pub cluster_noted : (meant : Block → Option ℕ) (cluster first : ℕ) (old new : List Shadow) → first ≡ 8 * cluster → AddsShadows meant (is_between first (first + 8)) old new → AddsShadows meant (λ b. b.first / 8 == cluster) old new
cluster_noted meant cluster first old new is x =
    same_blocks meant (is_between first (first + 8)) (λ b. b.first / 8 == cluster) old new (λ b. eight_sectors cluster b.first ∙ ap (λ (n : ℕ). is_between n (n + 8) b) (sym is)) x

-- ---- those of all clusters with a group

abbrev is_among : List ℕ → ℕ → Bool
is_among clusters q = is_member (eq_by_cmp nat_cmp) clusters q

-- only the shadows of these clusters are left
pub record Leaves {A : Type 0} (ended : ℕ → Bool) (groups : BTreeMap ℕ (Vec (Bor Entry) A)) (left : List ℕ) (shadows : List Shadow) : Type 0 where
  pub held : (b : Block) → held_lsn shadows b ≡ (if is_member (eq_by_cmp nat_cmp) left (b.first / 8) then None else shadow_in ended groups b)
  pub once : IsDistinct same_block (map shadow_block shadows)
  pub ordered : IsStrictlySortedBy nat_cmp left

never : (t : Bool) (o : Option ℕ) → o ≡ None → (if t then o else None) ≡ None
never true o e = e
never false o e = refl

nothing_said : (ended : ℕ → Bool) (b : Block) → shadow_by ended [] b ≡ None
nothing_said ended b = never (is_in_grid b && shadowed_by ended [] b) None refl

no_group : {A : Type 0} (ended : ℕ → Bool) (group : Option (Vec (Bor Entry) A)) (b : Block) (among : Bool) → is_some group ≡ among → None ≡ (if among then None else shadow_by ended (held_group group) b)
no_group ended None b true e = refl
no_group ended None b false e = sym (nothing_said ended b)
no_group ended (Some group) b true e = refl
no_group ended (Some group) b false e = clash e

pub none_done : {A : Type 0} (ended : ℕ → Bool) (groups : BTreeMap ℕ (Vec (Bor Entry) A)) (left : List ℕ) (shadows : List Shadow) → shadows ≡ [] → ((q : ℕ) → is_some (get nat_cmp groups q) ≡ is_member (eq_by_cmp nat_cmp) left q) → IsStrictlySortedBy nat_cmp left
    → Leaves ended groups left shadows
none_done ended groups left shadows empty has sorted = record {
  held = λ b. ap (λ (s : List Shadow). held_lsn s b) empty ∙ no_group ended (get nat_cmp groups (b.first / 8)) b (is_among left (b.first / 8)) (has (b.first / 8));
  once = subst (λ (s : List Shadow). IsDistinct same_block (map shadow_block s)) (sym empty) distinct_none;
  ordered = sorted;
}

not_among : (k : ℕ) (rest : List ℕ) → AllByRecursion (λ y. nat_cmp k y ≡ Less) rest → is_among rest k ≡ false
not_among k [] all = refl
not_among k (y ∷ rest) all = ap (λ (o : Ordering). is_eq o || is_among rest k) all.0 ∙ not_among k rest all.1

pub cluster_done : {A : Type 0} (ended : ℕ → Bool) (groups : BTreeMap ℕ (Vec (Bor Entry) A)) (k : ℕ) (left rest : List ℕ) (group : List Entry) (old new : List Shadow) → left ≡ k ∷ rest → group ≡ held_group (get nat_cmp groups k)
    → AddsShadows (shadow_by ended group) (λ b. b.first / 8 == k) old new → Leaves ended groups left old → Leaves ended groups rest new
cluster_done {A} ended groups k left rest group old new is group_is adds so_far = record {
  held = λ b. by_cluster b (b.first / 8 == k) refl;
  once = adds.once (λ b here. was b ∙ ap (λ (t : Bool). if t || is_among rest (b.first / 8) then None else shadow_in ended groups b) here) so_far.once;
  ordered = sorted_tail nat_cmp k rest sorted;
}
  where
    sorted : IsStrictlySortedBy nat_cmp (k ∷ rest)
    sorted = subst (IsStrictlySortedBy nat_cmp) is so_far.ordered

    was : (b : Block) → held_lsn old b ≡ (if (b.first / 8 == k) || is_among rest (b.first / 8) then None else shadow_in ended groups b)
    was b = so_far.held b ∙ ap (λ (l : List ℕ). if is_among l (b.first / 8) then None else shadow_in ended groups b) is
        ∙ ap (λ (t : Bool). if t || is_among rest (b.first / 8) then None else shadow_in ended groups b) (number_equal (b.first / 8) k)

    by_cluster : (b : Block) (t : Bool) → (b.first / 8 == k) ≡ t → held_lsn new b ≡ (if is_among rest (b.first / 8) then None else shadow_in ended groups b)
    by_cluster b true here =
        let same = eqb-true (b.first / 8) k here in
        adds.held b
        ∙ ap (λ (o : Option ℕ). option_or o (if b.first / 8 == k then shadow_by ended group b else None)) (was b ∙ ap (λ (t : Bool). if t || is_among rest (b.first / 8) then None else shadow_in ended groups b) here)
        ∙ ap (λ (t : Bool). if t then shadow_by ended group b else None) here
        ∙ ap (λ (es : List Entry). shadow_by ended es b) (group_is ∙ ap (λ (q : ℕ). held_group (get nat_cmp groups q)) (sym same))
        ∙ sym (ap (λ (t : Bool). if t then None else shadow_in ended groups b) (ap (is_among rest) same ∙ not_among k rest (sorted_head nat_cmp k rest sorted)))
    by_cluster b false here =
        adds.held b ∙ ap (λ (t : Bool). option_or (held_lsn old b) (if t then shadow_by ended group b else None)) here ∙ sym (or_none (held_lsn old b))
        ∙ was b ∙ ap (λ (t : Bool). if t || is_among rest (b.first / 8) then None else shadow_in ended groups b) here
