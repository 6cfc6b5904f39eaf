-- A block that was fresh in a draft stays so, whatever is put behind.
use Rattle.std.proofs.Common.{◌≡◌, ℕ, zero, suc, ◌+◌, ◌≤◌, Bool, true, false, cond, leb, List, [], ◌∷◌, length, Option, Some, None, sym, ap, subst, ◌∙◌, inl, inr, arith}
use Rattle.std.specs.Prelude.{◌⊎◌}
use Rattle.std.specs.List.{AllByRecursion}
use Rattle.std.proofs.lemmas.Bool.{cases_Bool, cases_lt, lt-ltb, le-ltb, or_right, both_ways}
use Rattle.disk_model.specs.declared.block.Block.{Block}
use Rattle.disk_model.specs.declared.block.BlockKind.TheVariants.{Plain}
use Rattle.disk_model.specs.declared.block.Change.{Change}
use Rattle.disk_model.specs.Bodies.{BodyOf}
use Rattle.disk_model.specs.Content.{Content}
use Rattle.disk_model.specs.Sectors.{same_block}
use Rattle.disk_model.proofs.Frames.{same_block-is}
use Rattle.record_model.specs.declared.runs.Run.{Run}
use Rattle.state_model.specs.declared.stream.Extents.{Extents}
use Rattle.state_model.specs.Streams.{block_at}
use Rattle.plan_bodies.proofs.Putting.{block_itself}
use Rattle.plan_draft.specs.declared.touched.Touched.{Touched}
use Rattle.plan_draft.specs.Touching.{block_key, keys_of, rises, touch, touch_again, first_touch, touched_at}
use Rattle.plan_draft.proofs.Placing.{rises_head, rises_tail, other_block, none_behind}
use Rattle.plan_draft.proofs.Puts.{rises_touch}
use Rattle.written_values.specs.draft_streams.Parts.{touch_part, touch_sectors, touch_bytes, offset_in, bytes_in, first_sector, sector_count}
use Rattle.written_values.specs.draft_records.Records.{record_block, is_past, has_mirror, touch_if, touch_record}
use Rattle.made_trees.specs.file_makes.Making.{touch_nodes}

pub record IsFreshIn (touched : List Touched) (b : Block) : Type 0 where
  pub at : Touched
  pub found : touched_at touched b ≡ Some at
  pub is_fresh : at.fresh ≡ true

-- ---- at the head or behind it

none_some : (t : Touched) → None ≡ Some t → ⊥
none_some t is = absurd cc

one_touched : (t s : Touched) → Some t ≡ Some s → t ≡ s
one_touched t s is = cc

at_head : (t : Touched) (l : List Touched) (b : Block) → same_block b t.block ≡ true → t.fresh ≡ true → IsFreshIn (t ∷ l) b
at_head t l b same fresh = record { at = t; found = ap (λ (x : Bool). cond x (Some t) (touched_at l b)) same; is_fresh = fresh }

in_tail : (t : Touched) (l : List Touched) (b : Block) → same_block b t.block ≡ false → IsFreshIn l b → IsFreshIn (t ∷ l) b
in_tail t l b other there = record { at = there.at; found = ap (λ (x : Bool). cond x (Some t) (touched_at l b)) other ∙ there.found; is_fresh = there.is_fresh }

head_or : (t : Touched) (l : List Touched) (b : Block) → IsFreshIn (t ∷ l) b → ((same_block b t.block ≡ true) × (t.fresh ≡ true)) ⊎ ((same_block b t.block ≡ false) × IsFreshIn l b)
head_or t l b is = elim (cases_Bool (same_block b t.block)) [
  | inl same ↦
      (let here : Some t ≡ Some is.at = sym (ap (λ (x : Bool). cond x (Some t) (touched_at l b)) same) ∙ is.found in
      inl (same, ap (λ (x : Touched). x.fresh) (one_touched t is.at here) ∙ is.is_fresh))
  | inr other ↦ inr (other, record { at = is.at; found = sym (ap (λ (x : Bool). cond x (Some t) (touched_at l b)) other) ∙ is.found; is_fresh = is.is_fresh })
]

-- ---- one more that is touched

abbrev behind_or : Bool → Bool → List Touched → List Touched → List Touched → List Touched
behind_or less same far again first = cond less far (cond same again first)

touch_fresh : (least : ℕ) (l : List Touched) (a b : Block) (fresh : Bool) (bytes : List ℕ) (old : BodyOf) → rises least (keys_of l) ≡ true → IsFreshIn l b → IsFreshIn (touch a fresh bytes old l) b
touch_fresh least [] a b fresh bytes old up is = absurd (none_some is.at is.found)
touch_fresh least (t ∷ l) a b fresh bytes old up is =
    let tail = rises_tail least (block_key t.block) (keys_of l) up in
    let far : List Touched = t ∷ touch a fresh bytes old l in
    let again : List Touched = touch_again t fresh bytes ∷ l in
    let first : List Touched = first_touch a fresh bytes old ∷ t ∷ l in
    let more : IsFreshIn l b → IsFreshIn (touch a fresh bytes old l) b = touch_fresh (suc (block_key t.block)) l a b fresh bytes old tail in
    elim (cases_lt (block_key t.block) (block_key a)) [
      | inl less ↦
          subst (λ (x : Bool). IsFreshIn (behind_or x (same_block a t.block) far again first) b) (sym (lt-ltb (block_key t.block) (block_key a) less))
          (elim (head_or t l b is) [
            | inl here ↦ at_head t (touch a fresh bytes old l) b here.0 here.1
            | inr there ↦ in_tail t (touch a fresh bytes old l) b there.0 (more there.1)
          ])
      | inr ge ↦
          subst (λ (x : Bool). IsFreshIn (behind_or x (same_block a t.block) far again first) b) (sym (le-ltb (block_key t.block) (block_key a) ge))
          (elim (cases_Bool (same_block a t.block)) [
            | inl same ↦
                subst (λ (x : Bool). IsFreshIn (cond x again first) b) (sym same)
                (elim (head_or t l b is) [
                  | inl here ↦ at_head (touch_again t fresh bytes) l b here.0 (or_right fresh t.fresh here.1)
                  | inr there ↦ in_tail (touch_again t fresh bytes) l b there.0 there.1
                ])
            | inr other ↦
                subst (λ (x : Bool). IsFreshIn (cond x again first) b) (sym other)
                (elim (cases_Bool (same_block b a)) [
                  | inl is_it ↦ absurd (never tail ge other is_it (head_or t l b is))
                  | inr differ ↦ in_tail (first_touch a fresh bytes old) (t ∷ l) b differ is
                ])
          ])
    ]
  where
    never : rises (suc (block_key t.block)) (keys_of l) ≡ true → block_key a ≤ block_key t.block → same_block a t.block ≡ false → same_block b a ≡ true → ((same_block b t.block ≡ true) × (t.fresh ≡ true)) ⊎ ((same_block b t.block ≡ false) × IsFreshIn l b) → ⊥
    never tail le other same (inl here) = both_ways (same_block a t.block) other (subst (λ (x : Block). same_block x t.block ≡ true) (same_block-is b a same) here.0)
    never tail le other same (inr there) =
        let key : block_key b ≡ block_key a = ap block_key (same_block-is b a same) in
        none_some there.1.at (sym (none_behind (suc (block_key t.block)) l b tail (omega (arith, key, le))) ∙ there.1.found)

-- ---- one draft behind another

-- In the order of blocks one comes of the other, and what was fresh stays so.
pub record GoesBehind (old new : List Touched) : Type 0 where
  pub in_order : rises 0 (keys_of old) ≡ true → rises 0 (keys_of new) ≡ true
  pub fresh : rises 0 (keys_of old) ≡ true → (b : Block) → IsFreshIn old b → IsFreshIn new b

pub itself : (l : List Touched) → GoesBehind l l
itself l = record { in_order = λ up. up; fresh = λ up b is. is }

pub one_behind : (old mid new : List Touched) → GoesBehind old mid → GoesBehind mid new → GoesBehind old new
one_behind old mid new first then = record { in_order = λ up. then.in_order (first.in_order up); fresh = λ up b is. then.fresh (first.in_order up) b (first.fresh up b is) }

pub touch_behind : (l : List Touched) (b : Block) (fresh : Bool) (bytes : List ℕ) (old : BodyOf) → GoesBehind l (touch b fresh bytes old l)
touch_behind l b fresh bytes old = record { in_order = λ up. rises_touch 0 l b fresh bytes old up (omega arith); fresh = λ up x is. touch_fresh 0 l b x fresh bytes old up is }

pub if_behind : (c : Content) (o : Option Block) (fresh : Bool) (bytes : List ℕ) (l : List Touched) → GoesBehind l (touch_if c o fresh bytes l)
if_behind c None fresh bytes l = itself l
if_behind c (Some b) fresh bytes l = touch_behind l b fresh bytes (c b)

pub record_behind : (c : Content) (table mirror : Extents) (n : ℕ) (bytes : List ℕ) (l : List Touched) → GoesBehind l (touch_record c 8 table mirror n bytes l)
record_behind c table mirror n bytes l = by (has_mirror mirror n)
  where
    own : List Touched
    own = touch_if c (record_block 8 table n) (is_past table n) bytes l

    by : (t : Bool) → GoesBehind l (cond t (touch_if c (record_block 8 mirror n) (is_past mirror n) bytes (touch_if c (record_block 8 table n) (is_past table n) bytes l)) (touch_if c (record_block 8 table n) (is_past table n) bytes l))
    by true = one_behind l (touch_if c (record_block 8 table n) (is_past table n) bytes l) _ (if_behind c (record_block 8 table n) (is_past table n) bytes l) (if_behind c (record_block 8 mirror n) (is_past mirror n) bytes (touch_if c (record_block 8 table n) (is_past table n) bytes l))
    by false = if_behind c (record_block 8 table n) (is_past table n) bytes l

part_behind : (c : Content) (o : Option Block) (fresh : Bool) (offset : ℕ) (bytes : List ℕ) (l : List Touched) → GoesBehind l (touch_part c o fresh offset bytes l)
part_behind c None fresh offset bytes l = itself l
part_behind c (Some b) fresh offset bytes l = touch_behind l b fresh _ (c b)

sectors_behind : (c : Content) (runs : List Run) (fresh at : ℕ) (bytes : List ℕ) (first n : ℕ) (l : List Touched) → GoesBehind l (touch_sectors c 8 runs fresh at bytes first n l)
unfolding touch_sectors
sectors_behind c runs fresh at bytes first zero l = itself l
sectors_behind c runs fresh at bytes first (suc n) l =
    one_behind l (touch_sectors c 8 runs fresh at bytes first n l) _ (sectors_behind c runs fresh at bytes first n l)
    (part_behind c (block_at 8 runs Plain (first + n)) (leb fresh (first + n)) (offset_in at (first + n)) (bytes_in at (first + n) bytes) (touch_sectors c 8 runs fresh at bytes first n l))

pub bytes_behind : (c : Content) (runs : List Run) (fresh at : ℕ) (bytes : List ℕ) (l : List Touched) → GoesBehind l (touch_bytes c 8 runs fresh at bytes l)
bytes_behind c runs fresh at bytes l = sectors_behind c runs fresh at bytes (first_sector at) (sector_count at (length bytes)) l

pub nodes_behind : (c : Content) (changes : List Change) (l : List Touched) → GoesBehind l (touch_nodes c changes l)
nodes_behind c [] l = itself l
nodes_behind c (x ∷ changes) l = one_behind l (touch x.block false x.new (c x.block) l) _ (touch_behind l x.block false x.new (c x.block)) (nodes_behind c changes (touch x.block false x.new (c x.block) l))

-- ---- each that is touched is found

each_as : {X : Type 0} (P Q : X → Type 0) → ((x : X) → P x → Q x) → (xs : List X) → AllByRecursion P xs → AllByRecursion Q xs
each_as P Q f [] all = tt
each_as P Q f (x ∷ xs) all = (f x all.0, each_as P Q f xs all.1)

both_of : {X : Type 0} (P Q : X → Type 0) (xs : List X) → AllByRecursion P xs → AllByRecursion Q xs → AllByRecursion (λ x. P x × Q x) xs
both_of P Q [] all more = tt
both_of P Q (x ∷ xs) all more = ((all.0, more.0), both_of P Q xs all.1 more.1)

keys_above : (least : ℕ) (l : List Touched) → rises least (keys_of l) ≡ true → AllByRecursion (λ (t : Touched). least ≤ block_key t.block) l
keys_above least [] up = tt
keys_above least (t ∷ l) up =
    let head = rises_head least (block_key t.block) (keys_of l) up in
    (head, each_as (λ (s : Touched). suc (block_key t.block) ≤ block_key s.block) (λ (s : Touched). least ≤ block_key s.block) (λ s above. omega (arith, head, above)) l (keys_above (suc (block_key t.block)) l (rises_tail least (block_key t.block) (keys_of l) up)))

pub each_found : (least : ℕ) (l : List Touched) → rises least (keys_of l) ≡ true → AllByRecursion (λ (t : Touched). touched_at l t.block ≡ Some t) l
each_found least [] up = tt
each_found least (t ∷ l) up =
    let tail = rises_tail least (block_key t.block) (keys_of l) up in (
      ap (λ (x : Bool). cond x (Some t) (touched_at l t.block)) (block_itself t.block),
      each_as (λ (s : Touched). (suc (block_key t.block) ≤ block_key s.block) × (touched_at l s.block ≡ Some s)) (λ (s : Touched). touched_at (t ∷ l) s.block ≡ Some s)
          (λ s is. ap (λ (x : Bool). cond x (Some t) (touched_at l s.block)) (other_block s.block t.block (λ same. (let above = is.0 in omega (arith, above, same)))) ∙ is.1) l
          (both_of (λ (s : Touched). suc (block_key t.block) ≤ block_key s.block) (λ (s : Touched). touched_at l s.block ≡ Some s) l (keys_above (suc (block_key t.block)) l tail) (each_found (suc (block_key t.block)) l tail)),
    )

-- what holds of each holds of the one that is found
pub found_of : (P : Touched → Type 0) (l : List Touched) (b : Block) (t : Touched) → AllByRecursion P l → touched_at l b ≡ Some t → P t × (b ≡ t.block)
found_of P [] b t all is = absurd (none_some t is)
found_of P (s ∷ l) b t all is = elim (cases_Bool (same_block b s.block)) [
  | inl same ↦
      (let here : s ≡ t = one_touched s t (sym (ap (λ (x : Bool). cond x (Some s) (touched_at l b)) same) ∙ is) in
      (subst P here all.0, same_block-is b s.block same ∙ ap (λ (x : Touched). x.block) here))
  | inr other ↦ found_of P l b t all.1 (sym (ap (λ (x : Bool). cond x (Some s) (touched_at l b)) other) ∙ is)
]
