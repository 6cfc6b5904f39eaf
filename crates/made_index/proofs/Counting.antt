-- What a step says of a directory whose index has its root alone, and once it has blocks and a bitmap.
use Rattle.std.proofs.Common.{◌≡◌, ℕ, zero, suc, ◌+◌, ◌*◌, ◌/◌, ◌<◌, Bool, true, false, cond, List, [], ◌∷◌, ◌++◌, length, Option, Some, None, refl, sym, ap, ◌∙◌, arith}
use Rattle.std.specs.Prelude.{not, nat_eq, ◌==◌, ◌||◌, ◌&&◌}
use Rattle.std.specs.Cmp.Lexicographic.{pointwise}
use Rattle.std.specs.List.{filter}
use Rattle.std.proofs.lemmas.Bool.Decides.{nat_tests}
use Rattle.record_model.specs.declared.attribute.Attr.{Attr}
use Rattle.record_model.specs.declared.attribute.OwnForm.{OwnForm}
use Rattle.record_model.specs.Attributes.{spelling}
use Rattle.record_model.specs.Constants.{standard_information, index_root, index_allocation, bitmap_type, names_index}
use Rattle.record_model.specs.Pairs.{pairs_of, pairs_from}
use Rattle.record_model.specs.Records.{Record, spelled_bytes, used_of}
use Rattle.record_writer.specs.Normal.{normal}
use Rattle.record_writer.proofs.Measures.{length-spelling}
use Rattle.index_model.specs.Trees.{Tree}
use Rattle.state_model.specs.declared.stream.Stream.{Stream}
use Rattle.state_model.specs.declared.stream.Stream.TheVariants.{Held, Placed}
use Rattle.state_model.specs.Files.{has_type}
use Rattle.state_model.specs.Loads.{total_clusters}
use Rattle.state_model.specs.Streams.{is_attribute_of, attributes_of}
use Rattle.space_model.specs.Choosing.{with_runs}
use Rattle.stream_laws.specs.Sharing.{runs_in}
use Rattle.resized_streams.specs.Resizing.{unplaced}
use Rattle.record_streams.proofs.Streams.{attribute_kind, first_passes}
use Rattle.volume_model.specs.Volumes.{size_or}
use Rattle.made_data.specs.step_model.Placing.{Growth, runs_after}
use Rattle.made_data.specs.step_model.Used.{is_replaced, attrs_with, used_after, new_attr, first_or, own_attr, value_attr, placed_attr, stays_in}
use Rattle.made_data.specs.step_model.Streams.{Wanted, Comes, Changed, in_record, placed_among, in_clusters, comes, root_comes, info_comes, own_comes, blocks_key, used_key, wanted_size, wanted_blocks, wanted_used, index_comes}
use Rattle.made_data.specs.step_model.Plans.{full_row}
use Rattle.made_data.proofs.used_laws.Lengths.{bytes-append}
use Rattle.made_data.specs.Ids.{place_of, new_id, with_id}
use Rattle.made_data.proofs.Counting.{used_kept}
use Rattle.made_data.proofs.Standing.{others_pass, kept_put}
use Rattle.directory_growth.specs.Growing.{blocks_in, bits_in, blocks_growth, growths_of, used_with, row_of}
use Rattle.directory_growth.proofs.Coming.{come_by}
use Rattle.made_index.specs.Made.{HasNoStreams, empty_blocks, empty_bits, with_empty_index, indexed_record}
use Rattle.made_index.specs.Laws.{IndexIsCounted}
use Rattle.made_index.proofs.Having.{with_blocks, own_blocks, own_bits, none_there, no_stream, no_attr, one_blocks, one_bits, blocks_placed, bits_held, blocks_attr, bits_attr, types_still, own_same, made_fits, has_made}

-- ---- what comes, by the streams, their attributes and the used bytes

abbrev size_with : Option Stream → ℕ → ℕ
size_with o more = size_or o + 4096 * more

abbrev want : ℕ → Option Stream → ℕ → Wanted
want n o more = wanted_size (blocks_key n) o (size_with o more)

abbrev want_bits : ℕ → Option Stream → Option Stream → ℕ → Wanted
want_bits n o p more = wanted_size (used_key n) p (8 * ((size_with o more / 4096 + 63) / 64))

abbrev placed_come : Attr → Wanted → Growth → Comes
placed_come a w g = record { attrs = cond (w.clusters == total_clusters g.old) [] (placed_attr w.real w.initialised (runs_after g) a ∷ []); growth = g }

abbrev first_come : List Bool → ℕ → Option Stream → Attr → ℕ → Comes
first_come bits n o a more = placed_come a (want n o more) (placed_among bits (runs_in o) (want n o more))

abbrev then_come : List Bool → ℕ → Option Stream → Option Stream → Attr → Attr → List Attr → (List Attr → ℕ) → ℕ → Comes
then_come bits n o p a b own used more =
    come_by (with_runs (first_come bits n o a more).growth.runs bits) (want_bits n o p more) p b (used (value_attr (want_bits n o p more).real b ∷ ((first_come bits n o a more).attrs ++ own)))

abbrev both_come : List Bool → ℕ → Option Stream → Option Stream → Attr → Attr → List Attr → (List Attr → ℕ) → ℕ → Changed
both_come bits n o p a b own used more =
    cond {A = Changed} (size_with o more == 0)
    (record { attrs = own; growths = [] })
    (record { attrs = ((then_come bits n o p a b own used more).attrs ++ (first_come bits n o a more).attrs) ++ own; growths = (first_come bits n o a more).growth ∷ (then_come bits n o p a b own used more).growth ∷ [] })

both_is : (bits : List Bool) (n : ℕ) (r : Record) (t : Tree) (more : ℕ) → index_comes bits n r t more ≡ both_come bits n (blocks_in r) (bits_in r) (own_attr index_allocation names_index r) (own_attr bitmap_type names_index r) (own_comes r t) (λ l. used_after l r) more
unfolding index_comes in_clusters comes
both_is bits n r t more = refl

-- neither is there
abbrev none_come : List Bool → ℕ → Attr → Attr → List Attr → (List Attr → ℕ) → ℕ → Changed
none_come bits n a b own used more = both_come bits n None None a b own used more

by_parts : (bits : List Bool) (n : ℕ) (r : Record) (t : Tree) (more : ℕ) (o p : Option Stream) (a b : Attr) (own : List Attr) → blocks_in r ≡ o → bits_in r ≡ p → own_attr index_allocation names_index r ≡ a → own_attr bitmap_type names_index r ≡ b → own_comes r t ≡ own
    → index_comes bits n r t more ≡ both_come bits n o p a b own (λ l. used_after l r) more
by_parts bits n r t more o p a b own blocks bitmap first second own_is =
    let used : List Attr → ℕ = λ l. used_after l r in
    both_is bits n r t more
    ∙ ap (λ (x : Option Stream). both_come bits n x (bits_in r) (own_attr index_allocation names_index r) (own_attr bitmap_type names_index r) (own_comes r t) used more) blocks
    ∙ ap (λ (x : Option Stream). both_come bits n o x (own_attr index_allocation names_index r) (own_attr bitmap_type names_index r) (own_comes r t) used more) bitmap
    ∙ ap (λ (x : Attr). both_come bits n o p x (own_attr bitmap_type names_index r) (own_comes r t) used more) first
    ∙ ap (λ (x : Attr). both_come bits n o p a x (own_comes r t) used more) second
    ∙ ap (λ (x : List Attr). both_come bits n o p a b x used more) own_is

come_without : (bits : List Bool) (n : ℕ) (r : Record) (t : Tree) (more : ℕ) → HasNoStreams r → index_comes bits n r t more ≡ none_come bits n (new_attr index_allocation names_index) empty_bits (own_comes r t) (λ l. used_after l r) more
come_without bits n r t more none =
    by_parts bits n r t more None None (new_attr index_allocation names_index) empty_bits (own_comes r t) (no_stream index_allocation r none.blocks) (no_stream bitmap_type r none.bits) (no_attr index_allocation r none.blocks) (no_attr bitmap_type r none.bits) refl

-- streams without bytes and clusters come as those that aren't there
come_with : (bits : List Bool) (n : ℕ) (r : Record) (t : Tree) (more : ℕ) → HasNoStreams r → index_comes bits n (indexed_record r) t more ≡ none_come bits n (normal (own_blocks r)) (own_bits r) (own_comes r t) (λ l. used_after l (indexed_record r)) more
come_with bits n r t more none =
    by_parts bits n (indexed_record r) t more (Some (Placed (unplaced 0))) (Some (Held [])) (normal (own_blocks r)) (own_bits r) (own_comes r t) (blocks_placed r none) (bits_held r none) (blocks_attr r none) (bits_attr r none) (own_same r t)

-- ---- some blocks come

abbrev grows : List Bool → ℕ → ℕ → Growth
grows bits n more = placed_among bits [] (want n None more)

abbrev comes_first : List Bool → ℕ → ℕ → Attr → Attr
comes_first bits n more a = placed_attr (want n None more).real (want n None more).initialised (runs_after (grows bits n more)) a

abbrev as_bytes : ℕ → ℕ → Attr → Attr
as_bytes n more b = value_attr (want_bits n None None more).real b

abbrev bits_grow : List Bool → ℕ → ℕ → Growth
bits_grow bits n more = placed_among (with_runs (grows bits n more).runs bits) [] (want_bits n None None more)

abbrev in_runs : List Bool → ℕ → ℕ → Attr → Attr
in_runs bits n more b = placed_attr (want_bits n None None more).real (want_bits n None None more).initialised (runs_after (bits_grow bits n more)) b

-- the bitmap stays in the record, by the used bytes with it
abbrev stays : ℕ → ℕ → ℕ → Bool
stays n more used = stays_in None (want_bits n None None more).real used

abbrev used_so : List Bool → ℕ → ℕ → Attr → Attr → List Attr → (List Attr → ℕ) → ℕ
used_so bits n more a b own used = used (as_bytes n more b ∷ comes_first bits n more a ∷ own)

abbrev come_so : List Bool → ℕ → ℕ → Attr → Attr → List Attr → Bool → Changed
come_so bits n more a b own t = record {
  attrs = cond t (as_bytes n more b) (in_runs bits n more b) ∷ comes_first bits n more a ∷ own;
  growths = grows bits n more ∷ cond t (in_record (used_key n)) (bits_grow bits n more) ∷ [];
}

unequal : (n : ℕ) → 0 < n → (n == 0) ≡ false
unequal n some = grind (arith, nat_tests)

by_tests : (bits : List Bool) (n more : ℕ) (a b : Attr) (own : List Attr) (used : List Attr → ℕ) (x y z t : Bool) → x ≡ false → y ≡ false → z ≡ false → stays n more (used_so bits n more a b own used) ≡ t
    → cond {A = Changed} x (record { attrs = own; growths = [] }) (let first : List Attr = cond y [] (comes_first bits n more a ∷ []) in
    let c : Comes = cond {A = Comes} (stays n more (used (as_bytes n more b ∷ (first ++ own)))) (record { attrs = as_bytes n more b ∷ []; growth = in_record (used_key n) }) (record { attrs = cond z [] (in_runs bits n more b ∷ []); growth = bits_grow bits n more }) in
    record { attrs = (c.attrs ++ first) ++ own; growths = grows bits n more ∷ c.growth ∷ [] })
    ≡ come_so bits n more a b own t
by_tests bits n more a b own used true y z t is second third test = absurd cc
by_tests bits n more a b own used false true z t is second third test = absurd cc
by_tests bits n more a b own used false false true t is second third test = absurd cc
by_tests bits n more a b own used false false false t is second third test =
    ap (λ (s : Bool). let c : Comes = cond {A = Comes} s (record { attrs = as_bytes n more b ∷ []; growth = in_record (used_key n) }) (record { attrs = in_runs bits n more b ∷ []; growth = bits_grow bits n more }) in
    record { attrs = (c.attrs ++ comes_first bits n more a ∷ []) ++ own; growths = grows bits n more ∷ c.growth ∷ [] }) test
    ∙ as_one t
  where
    as_one : (s : Bool) → (let c : Comes = cond {A = Comes} s (record { attrs = as_bytes n more b ∷ []; growth = in_record (used_key n) }) (record { attrs = in_runs bits n more b ∷ []; growth = bits_grow bits n more }) in
        record { attrs = (c.attrs ++ comes_first bits n more a ∷ []) ++ own; growths = grows bits n more ∷ c.growth ∷ [] }) ≡ come_so bits n more a b own s
    as_one true = refl
    as_one false = refl

some_come : (bits : List Bool) (n more : ℕ) (a b : Attr) (own : List Attr) (used : List Attr → ℕ) → 0 < more → none_come bits n a b own used more ≡ come_so bits n more a b own (stays n more (used_so bits n more a b own used))
some_come bits n more a b own used some =
    by_tests bits n more a b own used (size_with None more == 0) ((want n None more).clusters == 0) ((want_bits n None None more).clusters == 0) (stays n more (used_so bits n more a b own used))
    (unequal (size_with None more) (omega (arith, some))) (unequal (want n None more).clusters (omega (arith, some))) (unequal (want_bits n None None more).clusters (omega (arith, some))) refl

-- ---- used bytes

-- what comes in the place of both
used_without : (new : List Attr) (r : Record) → is_replaced new (own_blocks r) ≡ true → is_replaced new (own_bits r) ≡ true → used_after new (indexed_record r) ≡ used_after new r
unfolding used_after attrs_with
used_without new r blocks bits =
    let q : Attr → Bool = λ a. not (is_replaced new a) in
    let left = others_pass q (place_of bitmap_type names_index (with_blocks r).attrs) (own_bits r) (with_blocks r).attrs (ap not bits) ∙ others_pass q (place_of index_allocation names_index r.attrs) (own_blocks r) r.attrs (ap not blocks) in
    used_kept new (with_empty_index r) ∙ ap (λ (l : List Attr). used_of (new ++ l)) left

-- ids take as many bytes, whatever they are
id_length : (id : ℕ) (a : Attr) → length (spelling (with_id id a)) ≡ length (spelling a)
id_length id a = length-spelling (with_id id a) ∙ sym (length-spelling a)

two_ids : (i j : ℕ) (a b : Attr) (own : List Attr) (r : Record) → used_after (with_id j b ∷ with_id i a ∷ own) r ≡ used_after (b ∷ a ∷ own) r
unfolding used_after attrs_with
two_ids i j a b own r =
    let left = spelled_bytes (own ++ filter (λ (x : Attr). not (is_replaced (b ∷ a ∷ own) x)) r.attrs) in
    ap (λ (n : ℕ). 0x38 + (n + (length (spelling (with_id i a)) + left)) + 8) (id_length j b) ∙ ap (λ (n : ℕ). 0x38 + (length (spelling b) + (n + left)) + 8) (id_length i a)

abbrev blocks_as : ℕ → OwnForm → Attr
blocks_as id form = record { head = record { kind = index_allocation; flags = 0; id = id }; name = names_index; form = form }

abbrev bits_as : ℕ → OwnForm → Attr
bits_as id form = record { head = record { kind = bitmap_type; flags = 0; id = id }; name = names_index; form = form }

blocks_replaced : (i j id : ℕ) (f g : OwnForm) (own : List Attr) → is_replaced (bits_as j g ∷ blocks_as i f ∷ own) (with_id id empty_blocks) ≡ true
unfolding is_attribute_of
blocks_replaced i j id f g own = refl

bits_replaced : (i j id : ℕ) (f g : OwnForm) (own : List Attr) → is_replaced (bits_as j g ∷ blocks_as i f ∷ own) (with_id id empty_bits) ≡ true
unfolding is_attribute_of
bits_replaced i j id f g own = refl

-- both come, of any forms
used_both : (i j : ℕ) (f g : OwnForm) (own : List Attr) (r : Record) → used_after (bits_as j g ∷ blocks_as i f ∷ own) (indexed_record r) ≡ used_after (bits_as 0 g ∷ blocks_as 0 f ∷ own) r
used_both i j f g own r =
    used_without (bits_as j g ∷ blocks_as i f ∷ own) r (blocks_replaced i j (new_id r) f g own) (bits_replaced i j (new_id (with_blocks r)) f g own) ∙ two_ids i j (blocks_as 0 f) (bits_as 0 g) own r

-- the same used bytes with a bitmap that stays, and so the same test
test_same : (bits : List Bool) (n more : ℕ) (r : Record) (own : List Attr)
    → used_so bits n more (normal (own_blocks r)) (own_bits r) own (λ l. used_after l (indexed_record r)) ≡ used_so bits n more (new_attr index_allocation names_index) empty_bits own (λ l. used_after l r)
test_same bits n more r own =
    used_both (new_id r) (new_id (with_blocks r)) (comes_first bits n more (new_attr index_allocation names_index)).form (as_bytes n more empty_bits).form own r

come_same : (bits : List Bool) (n more : ℕ) (r : Record) (own : List Attr) (t : Bool)
    → used_after (come_so bits n more (normal (own_blocks r)) (own_bits r) own t).attrs (indexed_record r) ≡ used_after (come_so bits n more (new_attr index_allocation names_index) empty_bits own t).attrs r
come_same bits n more r own true = used_both (new_id r) (new_id (with_blocks r)) (comes_first bits n more (new_attr index_allocation names_index)).form (as_bytes n more empty_bits).form own r
come_same bits n more r own false = used_both (new_id r) (new_id (with_blocks r)) (comes_first bits n more (new_attr index_allocation names_index)).form (in_runs bits n more empty_bits).form own r

-- ---- the step

-- of the record as it is, and of that with both
come_to : (bits : List Bool) (n : ℕ) (r : Record) (t : Tree) (more : ℕ) → HasNoStreams r → 0 < more
    → index_comes bits n r t more ≡ come_so bits n more (new_attr index_allocation names_index) empty_bits (own_comes r t) (stays n more (used_so bits n more (new_attr index_allocation names_index) empty_bits (own_comes r t) (λ l. used_after l r)))
come_to bits n r t more none some = come_without bits n r t more none ∙ some_come bits n more (new_attr index_allocation names_index) empty_bits (own_comes r t) (λ l. used_after l r) some

come_to_made : (bits : List Bool) (n : ℕ) (r : Record) (t : Tree) (more : ℕ) → HasNoStreams r → 0 < more
    → index_comes bits n (indexed_record r) t more ≡ come_so bits n more (normal (own_blocks r)) (own_bits r) (own_comes r t) (stays n more (used_so bits n more (new_attr index_allocation names_index) empty_bits (own_comes r t) (λ l. used_after l r)))
come_to_made bits n r t more none some =
    come_with bits n r t more none
    ∙ some_come bits n more (normal (own_blocks r)) (own_bits r) (own_comes r t) (λ l. used_after l (indexed_record r)) some
    ∙ ap (λ (used : ℕ). come_so bits n more (normal (own_blocks r)) (own_bits r) (own_comes r t) (stays n more used)) (test_same bits n more r (own_comes r t))

growths_by : (bits : List Bool) (n : ℕ) (r : Record) (t : Tree) (more : ℕ) → HasNoStreams r → growths_of bits n (indexed_record r) t more ≡ growths_of bits n r t more
growths_by bits n r t zero none =
    ap (λ (c : Changed). c.growths) (come_with bits n r t 0 none) ∙ sym (ap (λ (c : Changed). c.growths) (come_without bits n r t 0 none))
growths_by bits n r t (suc more) none =
    ap (λ (c : Changed). c.growths) (come_to_made bits n r t (suc more) none (omega arith)) ∙ sym (ap (λ (c : Changed). c.growths) (come_to bits n r t (suc more) none (omega arith)))

used_by : (bits : List Bool) (n : ℕ) (r : Record) (t : Tree) (more : ℕ) → HasNoStreams r → 0 < more → used_with bits n (indexed_record r) t more ≡ used_with bits n r t more
used_by bits n r t more none some =
    let test = stays n more (used_so bits n more (new_attr index_allocation names_index) empty_bits (own_comes r t) (λ l. used_after l r)) in
    ap (λ (c : Changed). used_after c.attrs (indexed_record r)) (come_to_made bits n r t more none some)
    ∙ come_same bits n more r (own_comes r t) test
    ∙ sym (ap (λ (c : Changed). used_after c.attrs r) (come_to bits n r t more none some))

row_by : (bits : List Bool) (n : ℕ) (r : Record) (t : Tree) (more : ℕ) → HasNoStreams r → 0 < more → row_of bits n (indexed_record r) t more ≡ row_of bits n r t more
row_by bits n r t more none some = ap (λ (used : ℕ). full_row (used ∷ [])) (used_by bits n r t more none some)

wants_by : (n : ℕ) (r : Record) (more : ℕ) → HasNoStreams r → wanted_blocks n (indexed_record r) more ≡ wanted_blocks n r more
wants_by n r more none = ap (λ (o : Option Stream). want n o more) (blocks_placed r none) ∙ sym (ap (λ (o : Option Stream). want n o more) (no_stream index_allocation r none.blocks))

wants_bits_by : (n : ℕ) (r : Record) (more : ℕ) → HasNoStreams r → wanted_used n (indexed_record r) more ≡ wanted_used n r more
wants_bits_by n r more none =
    ap (λ (o : Option Stream). want_bits n o (bits_in (indexed_record r)) more) (blocks_placed r none)
    ∙ ap (λ (p : Option Stream). want_bits n (Some (Placed (unplaced 0))) p more) (bits_held r none)
    ∙ sym (ap (λ (p : Option Stream). want_bits n None p more) (no_stream bitmap_type r none.bits))
    ∙ sym (ap (λ (o : Option Stream). want_bits n o (bits_in r) more) (no_stream index_allocation r none.blocks))

takes_by : (bits : List Bool) (n : ℕ) (r : Record) (more : ℕ) → HasNoStreams r → blocks_growth bits n (indexed_record r) more ≡ blocks_growth bits n r more
unfolding in_clusters
takes_by bits n r more none =
    ap (λ (o : Option Stream). placed_among bits (runs_in o) (want n o more)) (blocks_placed r none)
    ∙ sym (ap (λ (o : Option Stream). placed_among bits (runs_in o) (want n o more)) (no_stream index_allocation r none.blocks))

-- ---- no blocks come

-- the root's attribute is of its type, whether it is there or a new one
root_kind : (kind : ℕ) (name : List ℕ) (r : Record) (l : List Attr) → attributes_of kind name r.attrs ≡ l → (first_or (new_attr kind name) l).head.kind ≡ kind
root_kind kind name r [] is = refl
root_kind kind name r (a ∷ others) is = (attribute_kind kind name a (first_passes kind name r.attrs a others is)).0

root_is : (r : Record) (t : Tree) → (root_comes r t).head.kind ≡ index_root
unfolding own_attr
root_is r t = root_kind index_root names_index r (attributes_of index_root names_index r.attrs) refl

-- of another type than the root's and standard information
spared : (r : Record) (t : Tree) (kind : ℕ) (a : Attr) → a.head.kind ≡ kind → (kind == index_root) ≡ false → (kind == standard_information) ≡ false → is_replaced (own_comes r t) a ≡ false
unfolding is_attribute_of
spared r t kind a is not_root not_info =
    ap (λ (k : ℕ). ((a.head.kind == k) && pointwise nat_eq a.name (root_comes r t).name) || is_replaced (info_comes r) a) (root_is r t)
    ∙ ap (λ (k : ℕ). ((k == index_root) && pointwise nat_eq a.name (root_comes r t).name) || is_replaced (info_comes r) a) is
    ∙ ap (λ (b : Bool). (b && pointwise nat_eq a.name (root_comes r t).name) || is_replaced (info_comes r) a) not_root
    ∙ by_type (has_type standard_information r)
  where
    by_type : (b : Bool) → is_replaced (cond b [] (value_attr 72 (new_attr standard_information []) ∷ [])) a ≡ false
    by_type true = refl
    by_type false = ap (λ (k : ℕ). ((k == standard_information) && pointwise nat_eq a.name []) || false) is ∙ ap (λ (b : Bool). (b && pointwise nat_eq a.name []) || false) not_info

-- the bytes of both attributes
blocks_length : (id : ℕ) → length (spelling (with_id id empty_blocks)) ≡ 0x50
unfolding pairs_of pairs_from
blocks_length id = length-spelling (with_id id empty_blocks)

bits_length : (id : ℕ) → length (spelling (with_id id empty_bits)) ≡ 0x20
bits_length id = length-spelling (with_id id empty_bits)

used_more : (new : List Attr) (r : Record) → is_replaced new (own_blocks r) ≡ false → is_replaced new (own_bits r) ≡ false → used_after new (indexed_record r) ≡ used_after new r + 0x70
unfolding used_after attrs_with
used_more new r blocks bits =
    let q : Attr → Bool = λ a. not (is_replaced new a) in
    let first = kept_put q (place_of index_allocation names_index r.attrs) (own_blocks r) r.attrs (ap not blocks) in
    let second = kept_put q (place_of bitmap_type names_index (with_blocks r).attrs) (own_bits r) (with_blocks r).attrs (ap not bits) in
    let kept = used_kept new (with_empty_index r) in
    let one = bytes-append new (filter q (with_empty_index r).attrs) in
    let two = bytes-append new (filter q r.attrs) in
    let long = blocks_length (new_id r) in
    let short = bits_length (new_id (with_blocks r)) in
    omega (arith, first, second, kept, one, two, long, short)

alone_by : (bits : List Bool) (n : ℕ) (r : Record) (t : Tree) → HasNoStreams r → used_with bits n (indexed_record r) t 0 ≡ used_with bits n r t 0 + 0x70
alone_by bits n r t none =
    ap (λ (c : Changed). used_after c.attrs (indexed_record r)) (come_with bits n r t 0 none)
    ∙ used_more (own_comes r t) r (spared r t index_allocation (own_blocks r) refl refl refl) (spared r t bitmap_type (own_bits r) refl refl refl)
    ∙ sym (ap (λ (c : Changed). used_after c.attrs r + 0x70) (come_without bits n r t 0 none))

pub counted : IndexIsCounted
counted = record {
  no_blocks = λ r none. none_there index_allocation r none.blocks;
  no_bits = λ r none. none_there bitmap_type r none.bits;
  blocks = one_blocks;
  bits = one_bits;
  placed = blocks_placed;
  held = bits_held;
  wants = wants_by;
  wants_bits = wants_bits_by;
  takes = takes_by;
  growths = growths_by;
  used = used_by;
  row = row_by;
  alone = alone_by;
  fits = made_fits;
  has = has_made;
  types = types_still;
}
