-- The records that are in use and not marked, and the spare numbers, by heads and bits.
use Rattle.std.proofs.Common.{◌≡◌, ℕ, zero, suc, ◌+◌, ◌-◌, ◌<◌, ◌≤◌, Bool, List, [], ◌∷◌, ◌++◌, length, Option, Some, None, Result, Ok, Err, refl, sym, ap, ◌∙◌, arith}
use Rattle.std.specs.Prelude.{not, find, if◌then◌else◌}
use Rattle.std.specs.List.{range_with_len, filter_map, cons_option}
use Rattle.std.specs.Prelude.{IfSome, OnOk}
use Rattle.std.proofs.lemmas.List.FromFn.{length-map-range_with_len, get_or-map-range_with_len, map-range_with_len_more}
use Rattle.std.proofs.lemmas.List.Elements.{filter_map-append}
use Rattle.volume_model.proofs.host_base.Known.{both, one, always}
use Rattle.state_model.specs.declared.stream.Extents.{Extents}
use Rattle.volume_map.specs.declared.fault.MapFault.{MapFault}
use Rattle.volume_model.specs.host_base.declared.file_ref.FileRef.{FileRef}
use Rattle.stream_map.specs.disk_model.Content.{Content}
use Rattle.volume_model.specs.bit_set.Bits.{bit}
use Rattle.state_model.specs.file_tree.Walks.{first_user_record}
use Rattle.state_model.specs.Rules.{implies, first_failing}
use Rattle.volume_model.specs.Volumes.{Volume, count_of, record_bits, is_in_use}
use Rattle.volume_model.specs.Owners.{keeps_record_bit}
use Rattle.volume_model.specs.Nodes.{spare_at, spare_numbers}
use Rattle.volume_map.specs.declared.head.Head.{Head}
use Rattle.volume_map.specs.Heads.{head_of, head_at, heads_of, table_head, table_heads, no_head, head_in, keeps_head, spare_of, spares_of}

-- tests that agree on numbers below an end find the same
find_below : (f g : ℕ → Bool) (end : ℕ) → ((i : ℕ) → i < end → f i ≡ g i) → (a n : ℕ) → a + n ≤ end → find f (range_with_len a n) ≡ find g (range_with_len a n)
find_below f g end same a zero le = refl
find_below f g end same a (suc n) le = ap (λ (b : Bool). if b then Some a else find f (range_with_len (a + 1) n)) (same a (omega (arith, le))) ∙ ap (λ (o : Option ℕ). if g a then Some a else o) (find_below f g end same (a + 1) n (omega (arith, le)))

-- and functions that agree give the same
some_within : (f g : ℕ → Option FileRef) (a n : ℕ) → ((i : ℕ) → a ≤ i → i < a + n → f i ≡ g i) → filter_map f (range_with_len a n) ≡ filter_map g (range_with_len a n)
some_within f g a zero same = refl
some_within f g a (suc n) same = ap (λ (o : Option FileRef). cons_option o (filter_map f (range_with_len (a + 1) n))) (same a (omega arith) (omega arith)) ∙ ap (λ (xs : List FileRef). cons_option (g a) xs) (some_within f g (a + 1) n (λ i from to. same i (omega (arith, from)) (omega (arith, to))))

head_there : (c : Content) (v : Volume) (n : ℕ) → n < count_of v → head_in (heads_of c v) n ≡ head_at c v n
unfolding heads_of
head_there c v n lt = get_or-map-range_with_len (head_at c v) 0 (count_of v) n n no_head lt (omega arith)

count_there : (c : Content) (v : Volume) → length (heads_of c v) ≡ count_of v
unfolding heads_of
count_there c v = length-map-range_with_len (head_at c v) 0 (count_of v)

in_use_there : (c : Content) (v : Volume) (n : ℕ) → (head_at c v n).in_use ≡ is_in_use c v n
unfolding head_at head_of is_in_use
in_use_there c v n = refl

keeps_there : (c : Content) (v : Volume) (n : ℕ) → n < count_of v → keeps_head (heads_of c v) (record_bits c v) n ≡ keeps_record_bit c v n
unfolding keeps_head keeps_record_bit
keeps_there c v n lt = ap (λ (b : Bool). implies b (bit (record_bits c v) n)) (ap (λ (h : Head). h.in_use) (head_there c v n lt) ∙ in_use_there c v n)

spare_there : (c : Content) (v : Volume) (n : ℕ) → n < count_of v → spare_of (heads_of c v) (record_bits c v) n ≡ spare_at c v n
unfolding spare_of spare_at head_at head_of
spare_there c v n lt = ap (λ (h : Head). if bit (record_bits c v) n then None else Some (record { number = n; seq = h.sequence })) (head_there c v n lt)

unmarked_by : (c : Content) (v : Volume) → first_failing (keeps_head (heads_of c v) (record_bits c v)) (length (heads_of c v)) ≡ first_failing (keeps_record_bit c v) (count_of v)
unfolding first_failing
unmarked_by c v =
    ap (λ (n : ℕ). find (λ n. not (keeps_head (heads_of c v) (record_bits c v) n)) (range_with_len 0 n)) (count_there c v)
    ∙ find_below (λ n. not (keeps_head (heads_of c v) (record_bits c v) n)) (λ n. not (keeps_record_bit c v n)) (count_of v) (λ i lt. ap not (keeps_there c v i lt)) 0 (count_of v) (omega arith)

pub unmarked : (heads : List Head) (bits : List Bool) (c : Content) (v : Volume) → heads ≡ heads_of c v → bits ≡ record_bits c v → first_failing (keeps_head heads bits) (length heads) ≡ first_failing (keeps_record_bit c v) (count_of v)
unmarked heads bits c v hs bs = rw hs (rw bs (unmarked_by c v))

spares_by : (c : Content) (v : Volume) → filter_map (spare_of (heads_of c v) (record_bits c v)) (range_with_len first_user_record (length (heads_of c v) - first_user_record)) ≡ spare_numbers c v
unfolding spare_numbers
spares_by c v =
    ap (λ (n : ℕ). filter_map (spare_of (heads_of c v) (record_bits c v)) (range_with_len first_user_record (n - first_user_record))) (count_there c v)
    ∙ some_within (spare_of (heads_of c v) (record_bits c v)) (spare_at c v) first_user_record (count_of v - first_user_record) (λ i from to. spare_there c v i (omega (arith, from, to)))

pub spares : (heads : List Head) (bits : List Bool) (c : Content) (v : Volume) → heads ≡ heads_of c v → bits ≡ record_bits c v → spares_of heads bits ≡ spare_numbers c v
spares heads bits c v hs bs = rw hs (rw bs (spares_by c v))

-- ---- the walk

-- the heads so far
pub heads_first : (known : Option Content) (per : ℕ) (e : Extents) (heads : List Head) → heads ≡ [] → IfSome known (λ c. heads ≡ table_heads c per e 0)
unfolding table_heads
heads_first known per e heads is = always known _ (λ c. is)

pub heads_more : (known : Option Content) (per : ℕ) (e : Extents) (n : ℕ) (heads now : List Head) → IfSome known (λ c. heads ≡ table_heads c per e n) → IfSome known (λ c. now ≡ heads ++ table_head c per e n ∷ [])
    → IfSome known (λ c. now ≡ table_heads c per e (n + 1))
unfolding table_heads
heads_more known per e n heads now before pushed =
    both known _ _ _ (λ c b p. p ∙ ap (λ (xs : List Head). xs ++ table_head c per e n ∷ []) b ∙ sym (map-range_with_len_more (table_head c per e) 0 n n (omega arith))) before pushed

pub heads_all : (known : Option Content) (per : ℕ) (e : Extents) (n count : ℕ) (heads : List Head) → n ≡ count → IfSome known (λ c. heads ≡ table_heads c per e n) → IfSome known (λ c. heads ≡ table_heads c per e count)
heads_all known per e n count heads is before = one known _ _ (λ c b. b ∙ ap (table_heads c per e) is) before

noted_by : (result : Result (Unit {0}) MapFault) (old new : List Head) (found head : Head) → OnOk result (new ≡ old ++ found ∷ []) → found ≡ head → OnOk result (new ≡ old ++ head ∷ [])
noted_by (Ok x) old new found head pushed is = pushed ∙ ap (λ (h : Head). old ++ h ∷ []) is
noted_by (Err e) old new found head pushed is = tt

-- the head that was noted is the one that was found
pub head_noted : (known : Option Content) (per : ℕ) (e : Extents) (n : ℕ) (result : Result (Unit {0}) MapFault) (old new : List Head) (found : Head) → OnOk result (new ≡ old ++ found ∷ []) → IfSome known (λ c. found ≡ table_head c per e n)
    → IfSome known (λ c. OnOk result (new ≡ old ++ table_head c per e n ∷ []))
head_noted known per e n result old new found pushed is = one known _ _ (λ c h. noted_by result old new found (table_head c per e n) pushed h) is

-- ---- the spare numbers so far

range_more : (a n : ℕ) → range_with_len a (n + 1) ≡ range_with_len a n ++ (a + n) ∷ []
range_more a zero = let e : a ≡ a + 0 = omega arith in ap (λ (k : ℕ). k ∷ []) e
range_more a (suc n) =
    let e : suc n + 1 ≡ suc (n + 1) = omega arith in
    let f : (a + 1) + n ≡ a + suc n = omega arith in
    ap (range_with_len a) e ∙ ap (λ (ks : List ℕ). a ∷ ks) (range_more (a + 1) n ∙ ap (λ (k : ℕ). range_with_len (a + 1) n ++ k ∷ []) f)

pub spare_more : (f : ℕ → Option FileRef) (n : ℕ) → first_user_record ≤ n → filter_map f (range_with_len first_user_record (n + 1 - first_user_record)) ≡ filter_map f (range_with_len first_user_record (n - first_user_record)) ++ cons_option (f n) []
spare_more f n from =
    let e : n + 1 - first_user_record ≡ n - first_user_record + 1 = omega (arith, from) in
    let k : first_user_record + (n - first_user_record) ≡ n = omega (arith, from) in
    ap (λ (count : ℕ). filter_map f (range_with_len first_user_record count)) e
    ∙ ap (filter_map f) (range_more first_user_record (n - first_user_record))
    ∙ filter_map-append f (range_with_len first_user_record (n - first_user_record)) ((first_user_record + (n - first_user_record)) ∷ [])
    ∙ ap (λ (m : ℕ). filter_map f (range_with_len first_user_record (n - first_user_record)) ++ cons_option (f m) []) k

pub spare_next : (f : ℕ → Option FileRef) (n : ℕ) (spare now : List FileRef) (found : Option FileRef) → first_user_record ≤ n → spare ≡ filter_map f (range_with_len first_user_record (n - first_user_record)) → found ≡ f n → now ≡ spare ++ cons_option found []
    → now ≡ filter_map f (range_with_len first_user_record (n + 1 - first_user_record))
spare_next f n spare now found from before is pushed = pushed ∙ ap (λ (xs : List FileRef). xs ++ cons_option found []) before ∙ ap (λ (o : Option FileRef). filter_map f (range_with_len first_user_record (n - first_user_record)) ++ cons_option o []) is ∙ sym (spare_more f n from)
