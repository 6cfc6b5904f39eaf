-- Steps of a count of keys, and of a list of blocks.
use Rattle.std.proofs.Common.{◌≡◌, ℕ, zero, suc, ◌+◌, ◌-◌, ◌<◌, ◌≤◌, min, List, [], ◌∷◌, ◌++◌, length, get_or, drop, drop-cons, append_assoc, append-nil, Option, Some, None, Result, Ok, Err, refl, sym, ap, ◌∙◌, subst, add-one, arith}
use Rattle.std.specs.Prelude.{IfSome, IfOk}
use Rattle.std.proofs.lemmas.List.{drop_all}
use Rattle.record_model.specs.disk_model.Content.{Content}
use Rattle.record_model.specs.declared.entry.Entry.{Entry as Raw}
use Rattle.record_model.specs.Nodes.{Node as NodeOf}
use Rattle.index_tree.specs.block_view.declared.fault.ViewFault.{ViewFault}
use Rattle.index_tree.specs.Faults.{IsRead}
use Rattle.index_change.specs.Heights.{if_read}
use Rattle.index_change.specs.Amounts.{key_before, keys_in, keys_below, blocks_in, block_and, blocks_below}

abbrev Read : Type 0
Read = ℕ → Result (List Raw) ℕ

-- ---- from a node to the entry that it hangs below

keys_at : (read : Read) (levels child : ℕ) (down : Option ℕ) (node : NodeOf) (entries : List Raw) → 1 ≤ levels → down ≡ Some child → entries ≡ node.entries → read child ≡ Ok node.entries → keys_in (keys_below read (levels - 1)) entries ≡ keys_below read levels down
keys_at read zero child down node entries pos is same ok = absurd (omega arith)
keys_at read (suc n) child down node entries pos is same ok =
    let count : suc n - 1 ≡ n = omega arith in
    ap (λ (k : ℕ). keys_in (keys_below read k) entries) count ∙ ap (keys_in (keys_below read n)) same ∙ sym (ap (if_read (keys_in (keys_below read n))) ok) ∙ sym (ap (keys_below read (suc n)) is)

blocks_at : (read : Read) (levels child : ℕ) (down : Option ℕ) (node : NodeOf) (entries : List Raw) → 1 ≤ levels → down ≡ Some child → entries ≡ node.entries → read child ≡ Ok node.entries → child ∷ blocks_in (blocks_below read (levels - 1)) entries ≡ blocks_below read levels down
blocks_at read zero child down node entries pos is same ok = absurd (omega arith)
blocks_at read (suc n) child down node entries pos is same ok =
    let count : suc n - 1 ≡ n = omega arith in
    ap (λ (k : ℕ). child ∷ blocks_in (blocks_below read k) entries) count ∙ ap (λ (es : List Raw). child ∷ blocks_in (blocks_below read n) es) same ∙ sym (ap (block_and child (blocks_in (blocks_below read n))) ok) ∙ sym (ap (blocks_below read (suc n)) is)

keys_ok : (a b : ℕ) (r : Result ℕ ViewFault) → a ≡ b → IfOk r (λ n. n ≡ min 2 a) → IfOk r (λ n. n ≡ min 2 b)
keys_ok a b (Ok n) e h = h ∙ ap (min 2) e
keys_ok a b (Err _) e h = tt

blocks_ok : (old mid new below all : List ℕ) (child : ℕ) (r : Result ℕ ViewFault) → mid ≡ old ++ child ∷ [] → child ∷ below ≡ all → IfOk r (λ n. n < 2 → new ≡ mid ++ below) → IfOk r (λ n. n < 2 → new ≡ old ++ all)
blocks_ok old mid new below all child (Ok n) m e h = λ few. h few ∙ ap (λ (l : List ℕ). l ++ below) m ∙ append_assoc old (child ∷ []) below ∙ ap (λ (l : List ℕ). old ++ l) e
blocks_ok old mid new below all child (Err _) m e h = tt

pub keys_known : (known now : Option Content) (f : Content → Read) (levels child : ℕ) (down : Option ℕ) (node : NodeOf) (o : Option NodeOf) (entries : List Raw) (r : Result ℕ ViewFault) → now ≡ known → 1 ≤ levels → down ≡ Some child → o ≡ Some node → entries ≡ node.entries → IfSome known (λ c. IsRead (f c child) o)
    → IfSome now (λ c. IfOk r (λ n. n ≡ min 2 (keys_in (keys_below (f c) (levels - 1)) entries))) → IfSome known (λ c. IfOk r (λ n. n ≡ min 2 (keys_below (f c) levels down)))
keys_known None now f levels child down node o entries r same pos is some e read h = tt
keys_known (Some c) now f levels child down node o entries r same pos is some e read h =
    keys_ok (keys_in (keys_below (f c) (levels - 1)) entries) (keys_below (f c) levels down) r (keys_at (f c) levels child down node entries pos is e (subst (IsRead (f c child)) some read))
    (subst (λ (k : Option Content). IfSome k (λ c. IfOk r (λ n. n ≡ min 2 (keys_in (keys_below (f c) (levels - 1)) entries)))) same h)

pub blocks_known : (known now : Option Content) (f : Content → Read) (levels child : ℕ) (down : Option ℕ) (node : NodeOf) (o : Option NodeOf) (entries : List Raw) (r : Result ℕ ViewFault) (old mid new : List ℕ) → now ≡ known → 1 ≤ levels → down ≡ Some child → o ≡ Some node → entries ≡ node.entries → mid ≡ old ++ child ∷ [] → IfSome known (λ c. IsRead (f c child) o)
    → IfSome now (λ c. IfOk r (λ n. n < 2 → new ≡ mid ++ blocks_in (blocks_below (f c) (levels - 1)) entries)) → IfSome known (λ c. IfOk r (λ n. n < 2 → new ≡ old ++ blocks_below (f c) levels down))
blocks_known None now f levels child down node o entries r old mid new same pos is some e m read h = tt
blocks_known (Some c) now f levels child down node o entries r old mid new same pos is some e m read h =
    blocks_ok old mid new (blocks_in (blocks_below (f c) (levels - 1)) entries) (blocks_below (f c) levels down) child r m (blocks_at (f c) levels child down node entries pos is e (subst (IsRead (f c child)) some read))
    (subst (λ (k : Option Content). IfSome k (λ c. IfOk r (λ n. n < 2 → new ≡ mid ++ blocks_in (blocks_below (f c) (levels - 1)) entries))) same h)

-- ---- one entry more

next_entry : (entries : List Raw) (i : ℕ) (e : Raw) → i < length entries → e ≡ get_or entries i e → drop i entries ≡ e ∷ drop (i + 1) entries
next_entry entries i e inside is = rw (add-one) (drop-cons entries i e inside ∙ ap (λ (x : Raw). x ∷ drop (suc i) entries) (sym is))

-- an entry more of the keys
pub keys_more : (kid : Option ℕ → ℕ) (entries : List Raw) (i : ℕ) (e : Raw) (so_far below key all : ℕ) → i < length entries → e ≡ get_or entries i e → key ≡ key_before (drop (i + 1) entries) → below ≡ kid e.down → so_far + keys_in kid (drop i entries) ≡ all → so_far + (below + key) + keys_in kid (drop (i + 1) entries) ≡ all
keys_more kid entries i e so_far below key all inside is k b h =
    let d = ap (keys_in kid) (next_entry entries i e inside is) in omega (arith, d, k, b, h)

-- two keys are met
pub two_met : (kid : Option ℕ → ℕ) (entries : List Raw) (i : ℕ) (e : Raw) (so_far below key all : ℕ) → i < length entries → e ≡ get_or entries i e → key ≡ key_before (drop (i + 1) entries) → below ≡ min 2 (kid e.down) → so_far + keys_in kid (drop i entries) ≡ all → 2 ≤ so_far + (below + key) → 2 ≤ all
two_met kid entries i e so_far below key all inside is k b h two =
    let d = ap (keys_in kid) (next_entry entries i e inside is) in omega (arith, d, k, b, h, two)

pub blocks_more : (kid : Option ℕ → List ℕ) (entries : List Raw) (i : ℕ) (e : Raw) (so_far new all : List ℕ) → i < length entries → e ≡ get_or entries i e → new ≡ so_far ++ kid e.down → so_far ++ blocks_in kid (drop i entries) ≡ all → new ++ blocks_in kid (drop (i + 1) entries) ≡ all
blocks_more kid entries i e so_far new all inside is n h =
    ap (λ (l : List ℕ). l ++ blocks_in kid (drop (i + 1) entries)) n ∙ append_assoc so_far (kid e.down) (blocks_in kid (drop (i + 1) entries)) ∙ sym (ap (λ (es : List Raw). so_far ++ blocks_in kid es) (next_entry entries i e inside is)) ∙ h

-- ---- the same over a content that may be known

pub count_next : (known now : Option Content) (kid : Content → Option ℕ → ℕ) (entries : List Raw) (i : ℕ) (e : Raw) (so_far below key next : ℕ) → now ≡ known → i < length entries → e ≡ get_or entries i e → key ≡ key_before (drop (i + 1) entries) → next ≡ so_far + (below + key) → next < 2
    → IfSome known (λ c. so_far + keys_in (kid c) (drop i entries) ≡ keys_in (kid c) entries) → IfSome now (λ c. below ≡ min 2 (kid c e.down)) → IfSome known (λ c. next + keys_in (kid c) (drop (i + 1) entries) ≡ keys_in (kid c) entries)
count_next None now kid entries i e so_far below key next same inside is k step few rest here = tt
count_next (Some c) now kid entries i e so_far below key next same inside is k step few rest here =
    let h : below ≡ min 2 (kid c e.down) = subst (λ (o : Option Content). IfSome o (λ c. below ≡ min 2 (kid c e.down))) same here in
    let b : below ≡ kid c e.down = omega (arith, h, step, few) in
    let m = keys_more (kid c) entries i e so_far below key (keys_in (kid c) entries) inside is k b rest in
    omega (arith, m, step)

pub count_two : (known now : Option Content) (kid : Content → Option ℕ → ℕ) (entries : List Raw) (i : ℕ) (e : Raw) (so_far below key next : ℕ) → now ≡ known → i < length entries → e ≡ get_or entries i e → key ≡ key_before (drop (i + 1) entries) → next ≡ so_far + (below + key) → 2 ≤ next
    → IfSome known (λ c. so_far + keys_in (kid c) (drop i entries) ≡ keys_in (kid c) entries) → IfSome now (λ c. below ≡ min 2 (kid c e.down)) → IfSome known (λ c. let two : ℕ = 2 in two ≡ min 2 (keys_in (kid c) entries))
count_two None now kid entries i e so_far below key next same inside is k step more rest here = tt
count_two (Some c) now kid entries i e so_far below key next same inside is k step more rest here =
    let h : below ≡ min 2 (kid c e.down) = subst (λ (o : Option Content). IfSome o (λ c. below ≡ min 2 (kid c e.down))) same here in
    let m = two_met (kid c) entries i e so_far below key (keys_in (kid c) entries) inside is k h rest (omega (arith, step, more)) in
    omega (arith, m)

pub count_end : (known : Option Content) (kid : Content → Option ℕ → ℕ) (entries : List Raw) (i keys : ℕ) → length entries ≤ i → keys ≤ 1 → IfSome known (λ c. keys + keys_in (kid c) (drop i entries) ≡ keys_in (kid c) entries) → IfSome known (λ c. keys ≡ min 2 (keys_in (kid c) entries))
count_end None kid entries i keys long few rest = tt
count_end (Some c) kid entries i keys long few rest =
    let t : keys_in (kid c) (drop i entries) ≡ 0 = ap (keys_in (kid c)) (drop_all i entries long) in
    omega (arith, t, rest, few)

pub met_next : (known now : Option Content) (kid : Content → Option ℕ → List ℕ) (entries : List Raw) (i : ℕ) (e : Raw) (start so_far new : List ℕ) (below : ℕ) → now ≡ known → i < length entries → e ≡ get_or entries i e → below < 2
    → IfSome known (λ c. so_far ++ blocks_in (kid c) (drop i entries) ≡ start ++ blocks_in (kid c) entries) → IfSome now (λ c. below < 2 → new ≡ so_far ++ kid c e.down) → IfSome known (λ c. new ++ blocks_in (kid c) (drop (i + 1) entries) ≡ start ++ blocks_in (kid c) entries)
met_next None now kid entries i e start so_far new below same inside is few rest here = tt
met_next (Some c) now kid entries i e start so_far new below same inside is few rest here =
    blocks_more (kid c) entries i e so_far new (start ++ blocks_in (kid c) entries) inside is (subst (λ (o : Option Content). IfSome o (λ c. below < 2 → new ≡ so_far ++ kid c e.down)) same here few) rest

pub met_end : (known : Option Content) (kid : Content → Option ℕ → List ℕ) (entries : List Raw) (i keys : ℕ) (start met : List ℕ) → length entries ≤ i → IfSome known (λ c. met ++ blocks_in (kid c) (drop i entries) ≡ start ++ blocks_in (kid c) entries) → IfSome known (λ c. keys < 2 → met ≡ start ++ blocks_in (kid c) entries)
met_end None kid entries i keys start met long rest = tt
met_end (Some c) kid entries i keys start met long rest =
    λ few. sym (append-nil met) ∙ sym (ap (λ (es : List Raw). met ++ blocks_in (kid c) es) (drop_all i entries long)) ∙ rest

pub met_start : (known : Option Content) (kid : Content → List ℕ) (start : List ℕ) → IfSome known (λ c. start ++ kid c ≡ start ++ kid c)
met_start None kid start = tt
met_start (Some c) kid start = refl
