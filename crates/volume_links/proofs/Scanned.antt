-- What a scan of all records found is what a load means, where no file has an attribute list.
use Rattle.std.proofs.Common.{◌≡◌, ℕ, zero, suc, ◌+◌, ◌<◌, ◌≤◌, ◌==◌, ◌&&◌, ◌||◌, Bool, true, false, not, List, [], ◌∷◌, ◌++◌, Option, Some, None, Result, Ok, Err, refl, sym, ap, ◌∙◌, subst, arith, below_more}
use Rattle.std.specs.Prelude.{nat_eq, IfSome, if◌then◌else◌}
use Rattle.std.specs.Cmp.Lexicographic.{pointwise}
use Rattle.std.specs.List.{filter, flat_map, range_with_len, list_any}
use Rattle.std.proofs.lemmas.List.{append-nil}
use Rattle.std.proofs.lemmas.List.Concat.{flat_map-append}
use Rattle.std.proofs.lemmas.List.FromFn.{get_or-map-range_with_len, length-map-range_with_len}
use Rattle.host_base.specs.Answers.{◌>>=◌, ExplainsOrFails, Gives, GivesOrFails}
use Rattle.host_base.proofs.Known.{both, one, always}
use Rattle.host_base.specs.FileRefs.{same_reference}
use Rattle.disk_model.specs.declared.block.BlockKind.TheVariants.{FileRec}
use Rattle.disk_model.specs.Content.{Content}
use Rattle.record_model.specs.declared.attribute.Attr.{Attr}
use Rattle.record_model.specs.ListEntries.{ReadEntries}
use Rattle.record_model.specs.Records.{Record}
use Rattle.record_model.specs.Constants.{attribute_list}
use Rattle.file_tree.specs.declared.link.Link.{Link}
use Rattle.file_tree.specs.Trees.{is_long}
use Rattle.state_model.specs.declared.geometry.Geometry.{Geometry}
use Rattle.state_model.specs.declared.geometry.MapRefusal.{MapRefusal}
use Rattle.state_model.specs.declared.stream.Extents.{Extents}
use Rattle.state_model.specs.Files.{Table, is_base_record, only_base, file_at, reference, file_links, links_at, has_type}
use Rattle.state_model.specs.Trees.{all_links}
use Rattle.state_model.specs.Streams.{has_cut_block, is_attribute_of, attributes_of, stream_of}
use Rattle.state_model.specs.Loads.{Slot, table_slot, table_in, records_of, used_record, broken_rule, record_count, list_stream, no_entries, entries_of, named_attrs, all_attrs, whole_file, joined_file, has_held_list, breaks_9, breaks_10, breaks_list, cuts_index, or_rule, rule_at, torn_refusal, rule_refusal, first_of, first_some, unless, files_of, files_in, table_of, loaded}
use Rattle.volume_map.specs.declared.fault.MapFault.{MapFault}
use Rattle.volume_map.specs.declared.fault.MapFault.TheVariants as faults
use Rattle.volume_links.specs.declared.scanning.Scan.{Scan}
use Rattle.volume_links.specs.declared.scanning.Seen.{Seen}
use Rattle.volume_links.specs.declared.scanning.Seen.TheVariants as seens
use Rattle.volume_map.specs.Errors.{map_cause, NeverRefused}
use Rattle.volume_links.specs.Names.{long_links, links_in, loaded_links}
use Rattle.volume_links.specs.Scans.{has_list, file_of, names_of, own_rule, full_rule, IsSeen, Judges, ScannedBelow, HasListBelow, ScansOrFails, ScansAll, verdict_of}
use Rattle.volume_links.proofs.Growing.{range_more, long_files}
use Rattle.volume_map.proofs.Loaded.{first_same, bound_fails, never}
use Rattle.volume_map.proofs.Steps.{okay, gives_or_fails, refused_more}

abbrev Files : Type 0
Files = List (Option Record)

-- ---- a file with no attribute list

no_attribute : (kind : ℕ) (name : List ℕ) (attrs : List Attr) → list_any (λ (a : Attr). a.head.kind == kind) attrs ≡ false → filter (is_attribute_of kind name) attrs ≡ []
unfolding is_attribute_of
no_attribute kind name [] h = refl
no_attribute kind name (a ∷ attrs) h = by_test a (filter (is_attribute_of kind name) attrs) (a.head.kind == kind) (pointwise nat_eq a.name name) (list_any (λ (b : Attr). b.head.kind == kind) attrs) h (λ e. no_attribute kind name attrs e)
  where
    by_test : (x : Attr) (xs : List Attr) (b c d : Bool) → (b || d) ≡ false → (d ≡ false → xs ≡ []) → (if (b && c) then x ∷ xs else xs) ≡ []
    by_test x xs true c d h f = absurd cc
    by_test x xs false c d h f = f h

pub no_stream : (kind : ℕ) (name : List ℕ) (attrs : List Attr) → list_any (λ (a : Attr). a.head.kind == kind) attrs ≡ false → stream_of kind name attrs ≡ None
unfolding stream_of attributes_of
no_stream kind name attrs h = rw (no_attribute kind name attrs h) refl

nothing_listed : (c : Content) (per : ℕ) (r : Record) → has_type attribute_list r ≡ false → entries_of c per r ≡ no_entries
unfolding entries_of list_stream has_type
nothing_listed c per r h = rw (no_stream attribute_list _ r.attrs h) refl

no_attr : (xs : List Attr) → filter (λ (a : Attr). false) xs ≡ []
no_attr [] = refl
no_attr (x ∷ xs) = no_attr xs

none_if : (b : Bool) (xs : List Attr) → xs ≡ [] → (if b then xs else []) ≡ []
none_if true xs e = e
none_if false xs e = refl

none_named : (n : ℕ) (r : Record) (m : ℕ) (q : Option Record) → named_attrs [] n r m q ≡ []
none_named n r m None = refl
none_named n r m (Some q) = none_if (not (m == n) && same_reference q.head.base (reference n r)) _ (no_attr q.attrs)

none_extra : (p : Table) (n : ℕ) (r : Record) (ms : List ℕ) → flat_map (λ m. named_attrs [] n r m (p m)) ms ≡ []
none_extra p n r [] = refl
none_extra p n r (m ∷ ms) = rw (none_named n r m (p m), none_extra p n r ms) refl

attrs_are : (c : Content) (per : ℕ) (p : Table) (count n : ℕ) (r : Record) → has_type attribute_list r ≡ false → all_attrs c per p count n r ≡ r.attrs
unfolding all_attrs
attrs_are c per p count n r h =
    ap (λ (e : ReadEntries). r.attrs ++ flat_map (λ m. named_attrs e.entries n r m (p m)) (range_with_len 0 count)) (nothing_listed c per r h)
    ∙ ap (λ (xs : List Attr). r.attrs ++ xs) (none_extra p n r (range_with_len 0 count)) ∙ append-nil r.attrs

whole_is : (c : Content) (per : ℕ) (p : Table) (count n : ℕ) (o : Option Record) → has_list o ≡ false → whole_file c per p count n o ≡ o
whole_is c per p count n None h = refl
whole_is c per p count n (Some r) h = ap (λ (xs : List Attr). Some (record { head = r.head; attrs = xs })) (attrs_are c per p count n r h)

joined_is : (c : Content) (per : ℕ) (p : Table) (count n : ℕ) → has_list (file_at p n) ≡ false → joined_file c per p count n ≡ file_at p n
unfolding joined_file
joined_is c per p count n h = whole_is c per p count n (file_at p n) h

keeps_ten : (c : Content) (per : ℕ) (p : Table) (n : ℕ) (o : Option Record) → has_list o ≡ false → breaks_list c per p n o ≡ false
unfolding has_held_list
keeps_ten c per p n None h = refl
keeps_ten c per p n (Some r) h = rw (nothing_listed c per r h) refl

ten_is : (c : Content) (per : ℕ) (p : Table) (n : ℕ) → has_list (file_at p n) ≡ false → breaks_10 c per p n ≡ false
unfolding breaks_10
ten_is c per p n h = keeps_ten c per p n (file_at p n) h

or_twice : (b : Option ℕ) (cuts cut : Bool) → or_rule b (cut || cuts) false ≡ or_rule (or_rule b cuts false) cut false
or_twice (Some rule) cuts cut = refl
or_twice None true true = refl
or_twice None true false = refl
or_twice None false true = refl
or_twice None false false = refl

-- the file of a number is that of its slot
file_is : (slot : ℕ → Slot) (count n : ℕ) → n < count → file_at (table_in (records_of slot count)) n ≡ file_of (slot n)
unfolding file_at records_of
file_is slot count n lt = ap only_base (get_or-map-range_with_len (λ k. used_record (slot k)) 0 count n n None lt (omega arith))

rule_is : (c : Content) (per : ℕ) (e : Extents) (n : ℕ) → n < record_count e → has_list (file_of (table_slot c per e n)) ≡ false → rule_at c per e n ≡ full_rule per (has_cut_block per FileRec (record_count e) e.runs) (table_slot c per e) n
unfolding rule_at breaks_9 full_rule own_rule
rule_is c per e n lt h =
    let p : Table = table_in (records_of (table_slot c per e) (record_count e)) in
    let cut : Bool = (n == 0) && has_cut_block per FileRec (record_count e) e.runs in
    let same : file_at p n ≡ file_of (table_slot c per e n) = file_is (table_slot c per e) (record_count e) n lt in
    let listed : has_list (file_at p n) ≡ false = ap has_list same ∙ h in
    ap (λ (b : Bool). or_rule (broken_rule (table_slot c per e n)) (cut || cuts_index per (joined_file c per p (record_count e) n)) b) (ten_is c per p n listed)
    ∙ ap (λ (o : Option Record). or_rule (broken_rule (table_slot c per e n)) (cut || cuts_index per o) false) (joined_is c per p (record_count e) n listed ∙ same)
    ∙ or_twice (broken_rule (table_slot c per e n)) (cuts_index per (file_of (table_slot c per e n))) cut

-- ---- all of them

flat_more : (f : ℕ → List Link) (n : ℕ) → flat_map f (range_with_len 0 (n + 1)) ≡ flat_map f (range_with_len 0 n) ++ f n
flat_more f n =
    let e : 0 + n ≡ n = omega arith in
    ap (flat_map f) (range_more 0 n) ∙ flat_map-append f (range_with_len 0 n) ((0 + n) ∷ []) ∙ ap (λ ls. flat_map f (range_with_len 0 n) ++ ls) (append-nil (f (0 + n)) ∙ ap f e)

suc_is : (n : ℕ) → suc n ≡ n + 1
suc_is n = omega arith

long_same : (f g : ℕ → List Link) (count : ℕ) → ((n : ℕ) → n < count → filter is_long (f n) ≡ g n) → filter is_long (flat_map f (range_with_len 0 count)) ≡ flat_map g (range_with_len 0 count)
long_same f g zero each = refl
long_same f g (suc count) each =
    ap (λ (n : ℕ). filter is_long (flat_map f (range_with_len 0 n))) (suc_is count) ∙ long_files is_long f count
    ∙ ap (λ (ls : List Link). ls ++ filter is_long (f count)) (long_same f g count (λ n lt. each n (omega arith)))
    ∙ ap (λ (ls : List Link). flat_map g (range_with_len 0 count) ++ ls) (each count (omega arith))
    ∙ sym (ap (λ (n : ℕ). flat_map g (range_with_len 0 n)) (suc_is count) ∙ flat_more g count)

base_again : (o : Option Record) → only_base (only_base o) ≡ only_base o
base_again None = refl
base_again (Some r) = by_test (is_base_record r) r refl
  where
    by_test : (b : Bool) (r : Record) → is_base_record r ≡ b → only_base (if b then Some r else None) ≡ (if b then Some r else None)
    by_test true r e = rw e refl
    by_test false r e = refl

names_are : (c : Content) (per : ℕ) (e : Extents) (n : ℕ) → n < record_count e → has_list (file_of (table_slot c per e n)) ≡ false
    → filter is_long (links_at (table_in (files_of c per (table_in (records_of (table_slot c per e) (record_count e))) (record_count e))) n) ≡ names_of n (table_slot c per e n)
unfolding links_at file_at files_of names_of
names_are c per e n lt h =
    let p : Table = table_in (records_of (table_slot c per e) (record_count e)) in
    let same : file_at p n ≡ file_of (table_slot c per e n) = file_is (table_slot c per e) (record_count e) n lt in
    let here : table_in (files_of c per p (record_count e)) n ≡ file_of (table_slot c per e n) = get_or-map-range_with_len (joined_file c per p (record_count e)) 0 (record_count e) n n None lt (omega arith) ∙ joined_is c per p (record_count e) n (ap has_list same ∙ h) ∙ same in
    ap (λ (o : Option Record). filter is_long (file_links n (only_base o))) here
    ∙ ap (λ (o : Option Record). filter is_long (file_links n o)) (base_again (used_record (table_slot c per e n)))

links_are : (c : Content) (per : ℕ) (e : Extents) → ((n : ℕ) → n < record_count e → has_list (file_of (table_slot c per e n)) ≡ false)
    → long_links (files_of c per (table_in (records_of (table_slot c per e) (record_count e))) (record_count e)) ≡ flat_map (λ n. names_of n (table_slot c per e n)) (range_with_len 0 (record_count e))
unfolding long_links all_links files_of
links_are c per e unlisted =
    let p : Table = table_in (records_of (table_slot c per e) (record_count e)) in
    let files : Files = files_of c per p (record_count e) in
    ap (λ (k : ℕ). filter is_long (flat_map (links_at (table_in files)) (range_with_len 0 k))) (length-map-range_with_len (joined_file c per p (record_count e)) 0 (record_count e))
    ∙ long_same (links_at (table_in files)) (λ n. names_of n (table_slot c per e n)) (record_count e) (λ n lt. names_are c per e n lt (unlisted n lt))

bound_twice : (o : Option MapRefusal) (files : Files) → ((unless o >>= λ _. okay files) >>= λ fs. okay (long_links fs)) ≡ (unless o >>= λ _. okay (long_links files))
bound_twice None files = refl
bound_twice (Some r) files = refl

-- what was found of all records
scan_is : (c : Content) (per : ℕ) (e : Extents) (scan : Scan) → ScannedBelow per (has_cut_block per FileRec (record_count e) e.runs) (table_slot c per e) (record_count e) scan → links_in c per e ≡ (verdict_of scan)
unfolding links_in files_in
scan_is c per e scan below =
    let files : Files = files_of c per (table_in (records_of (table_slot c per e) (record_count e))) (record_count e) in
    let rules : first_of (λ n. rule_refusal n (rule_at c per e n)) (record_count e) ≡ scan.refusal =
    first_same (λ n. rule_refusal n (rule_at c per e n)) _ (record_count e) (λ n lt. ap (rule_refusal n) (rule_is c per e n lt (below.unlisted n lt))) ∙ sym below.refusal_is in
    ap (λ (o : Option MapRefusal). (unless o >>= λ _. unless (first_of (λ n. rule_refusal n (rule_at c per e n)) (record_count e)) >>= λ _. okay files) >>= λ fs. okay (long_links fs)) below.whole
    ∙ ap (λ (o : Option MapRefusal). (unless o >>= λ _. okay files) >>= λ fs. okay (long_links fs)) rules
    ∙ bound_twice scan.refusal files
    ∙ ap (λ (ls : List Link). unless scan.refusal >>= λ _. okay ls) (links_are c per e below.unlisted ∙ sym below.links_are)

pub scan_answers : {X : Type 0} (known : Option Content) (view : X → List Link) (per : ℕ) (e : Extents) (cut : Bool) (scan : Scan) (result : Result X MapFault) → cut ≡ has_cut_block per FileRec (record_count e) e.runs
    → IfSome known (λ c. ScannedBelow per cut (table_slot c per e) (record_count e) scan) → Gives view map_cause result (verdict_of scan) → IfSome known (λ c. GivesOrFails view map_cause result (links_in c per e))
scan_answers known view per e cut scan result is below h =
    one known _ _ (λ c b. rw (scan_is c per e scan (subst (λ (k : Bool). ScannedBelow per k (table_slot c per e) (record_count e) scan) is b)) (gives_or_fails view result (verdict_of scan) h)) below

-- a scan that fails
scan_failed : (c : Content) (per : ℕ) (e : Extents) (fault : MapFault) → ExplainsOrFails (map_cause fault) (unless (first_of (λ n. torn_refusal n (table_slot c per e n)) (record_count e))) → ExplainsOrFails (map_cause fault) (links_in c per e)
unfolding links_in files_in
scan_failed c per e (faults.Refused r) h = rw h refl
scan_failed c per e faults.View h = tt
scan_failed c per e faults.Memory h = tt

pub scan_fails : (known : Option Content) (per : ℕ) (e : Extents) (cut : Bool) (fault : MapFault) → IfSome known (λ c. ScansAll per cut (table_slot c per e) (record_count e) (Err fault)) → IfSome known (λ c. ExplainsOrFails (map_cause fault) (links_in c per e))
scan_fails known per e cut fault h = one known _ _ (λ c p. scan_failed c per e fault p) h

-- ---- by the files

pub files_fail : (known : Option Content) (per : ℕ) (e : Extents) (fault : MapFault) → IfSome known (λ c. ExplainsOrFails (map_cause fault) (files_in c per e)) → IfSome known (λ c. ExplainsOrFails (map_cause fault) (links_in c per e))
unfolding links_in
files_fail known per e fault h = one known _ _ (λ c p. bound_fails fault (files_in c per e) (λ files. okay (long_links files)) p) h

pub files_answer : (known : Option Content) (per : ℕ) (e : Extents) (files : Files) (links : List Link) → IfSome known (λ c. files_in c per e ≡ Ok files) → links ≡ long_links files → IfSome known (λ c. links_in c per e ≡ Ok links)
unfolding links_in
files_answer known per e files links read is = one known _ _ (λ c p. rw p (ap okay (sym is))) read

-- ---- the table, and then the links

linked_by : (c : Content) (g : Geometry) (read : Result Extents MapRefusal) → table_of c g ≡ read → loaded_links c g ≡ (read >>= λ e. links_in c g.per_cluster e)
unfolding loaded_links loaded links_in
linked_by c g (Ok e) is = rw is refl
linked_by c g (Err r) is = rw is refl

pub links_fail : (known : Option Content) (g : Geometry) (e : MapFault) → IfSome known (λ c. ExplainsOrFails (map_cause e) (table_of c g)) → IfSome known (λ c. ExplainsOrFails (map_cause e) (loaded_links c g))
links_fail known g e h = one known _ _ (λ c p. rw (linked_by c g (table_of c g) refl) (bound_fails e (table_of c g) (links_in c g.per_cluster) p)) h

pub links_go_on : {X : Type 0} (known : Option Content) (view : X → List Link) (g : Geometry) (e : Extents) (result : Result X MapFault) → IfSome known (λ c. table_of c g ≡ Ok e) → IfSome known (λ c. GivesOrFails view map_cause result (links_in c g.per_cluster e))
    → IfSome known (λ c. GivesOrFails view map_cause result (loaded_links c g))
links_go_on known view g e result first second = both known _ _ _ (λ c p h. rw (linked_by c g (Ok e) p) h) first second

-- ---- one record more

pub scan_begins : (known : Option Content) (per : ℕ) (cut : Bool) (slot : Content → ℕ → Slot) (scan : Scan) → scan.links.items ≡ [] → scan.refusal ≡ None → IfSome known (λ c. ScannedBelow per cut (slot c) 0 scan)
unfolding first_of
scan_begins known per cut slot scan links refusal = always known _ (λ c. record { whole = refl; unlisted = λ n lt. absurd (omega arith); refusal_is = refusal; links_are = links })

first_next : {A : Type 0} (at : ℕ → Option A) (n : ℕ) → first_of at (n + 1) ≡ first_some (first_of at n) (at n)
unfolding first_of
first_next at n = ap (first_of at) (sym (suc_is n))

torn_by : (at : ℕ → Option MapRefusal) (n : ℕ) (r : MapRefusal) → first_of at n ≡ None → at n ≡ Some r → unless (first_of at (n + 1)) ≡ Err r
torn_by at n r none is = ap unless (first_next at n) ∙ rw (none, is) refl

unlisted_more : (slot : ℕ → Slot) (n : ℕ) → ((k : ℕ) → k < n → has_list (file_of (slot k)) ≡ false) → has_list (file_of (slot n)) ≡ false → (k : ℕ) → k < n + 1 → has_list (file_of (slot k)) ≡ false
unlisted_more slot n each here = below_more (λ k. has_list (file_of (slot k)) ≡ false) n each here

list_here : (slot : ℕ → Slot) (n : ℕ) → has_list (file_of (slot n)) ≡ true → HasListBelow slot (n + 1)
list_here slot n listed = record { number = n; below = omega arith; listed = listed }

next_step : (per : ℕ) (cut : Bool) (slot : ℕ → Slot) (n : ℕ) (seen : Seen) (result : Result Bool MapFault) (old new : Scan) → IsSeen per n (slot n) old.links.items new.links.items seen → Judges cut n seen result old.refusal new.refusal
    → ScannedBelow per cut slot n old → ScansOrFails per cut slot (n + 1) result new
unfolding full_rule
next_step per cut slot n seens.Torn result old new seen judged below =
    rw judged (torn_by (λ k. torn_refusal k (slot k)) n _ below.whole (ap (torn_refusal n) seen))
next_step per cut slot n seens.Listed result old new seen judged below = rw judged (list_here slot n seen)
next_step per cut slot n (seens.Judged rule) result old new seen judged below =
    rw judged.0 record {
      whole = first_next (λ k. torn_refusal k (slot k)) n ∙ rw (below.whole, seen.whole) refl;
      unlisted = unlisted_more slot n below.unlisted seen.unlisted;
      refusal_is = judged.1 ∙ rw (below.refusal_is, seen.rule_is) (sym (first_next (λ k. rule_refusal k (full_rule per cut slot k)) n));
      links_are = seen.links ∙ rw below.links_are (sym (flat_more (λ k. names_of k (slot k)) n));
    }

pub scans_on : (known : Option Content) (per : ℕ) (cut : Bool) (slot : Content → ℕ → Slot) (n : ℕ) (seen : Seen) (result : Result Bool MapFault) (old new : Scan) → IfSome known (λ c. IsSeen per n (slot c n) old.links.items new.links.items seen)
    → Judges cut n seen result old.refusal new.refusal → IfSome known (λ c. ScannedBelow per cut (slot c) n old → ScansOrFails per cut (slot c) (n + 1) result new)
scans_on known per cut slot n seen result old new is judged = one known _ _ (λ c s. λ below. next_step per cut (slot c) n seen result old new s judged below) is

-- a record that isn't read
pub unscanned : (X : Type 0) (known : Option Content) (per : ℕ) (cut : Bool) (slot : Content → ℕ → Slot) (n : ℕ) (e : MapFault) (old new : Scan) → NeverRefused {X = X} (Err e)
    → IfSome known (λ c. ScannedBelow per cut (slot c) n old → ScansOrFails per cut (slot c) (n + 1) (Err e) new)
unscanned X known per cut slot n e old new h = always known _ (λ c. λ below. never X e (unless (first_of (λ k. torn_refusal k (slot c k)) (n + 1))) h)

-- the walk over all

pub scan_more : (known : Option Content) (per : ℕ) (cut : Bool) (slot : Content → ℕ → Slot) (n : ℕ) (more : Bool) (old new : Scan) → more ≡ true → IfSome known (λ c. ScannedBelow per cut (slot c) n old)
    → IfSome known (λ c. ScannedBelow per cut (slot c) n old → ScansOrFails per cut (slot c) (n + 1) (Ok more) new) → IfSome known (λ c. ScannedBelow per cut (slot c) (n + 1) new)
scan_more known per cut slot n more old new is below next = both known _ _ _ (λ c b f. subst (λ (m : Bool). ScansOrFails per cut (slot c) (n + 1) (Ok m) new) is (f b)) below next

pub scan_ends : (known : Option Content) (per : ℕ) (cut : Bool) (slot : Content → ℕ → Slot) (n count : ℕ) (e : MapFault) (old new : Scan) → n < count → IfSome known (λ c. ScannedBelow per cut (slot c) n old)
    → IfSome known (λ c. ScannedBelow per cut (slot c) n old → ScansOrFails per cut (slot c) (n + 1) (Err e) new) → IfSome known (λ c. ScansAll per cut (slot c) count (Err e))
scan_ends known per cut slot n count e old new lt below next = both known _ _ _ (λ c b f. refused_more e (λ k. torn_refusal k (slot c k)) (n + 1) count (omega arith) (f b)) below next

list_below : (slot : ℕ → Slot) (n count : ℕ) → n ≤ count → HasListBelow slot n → HasListBelow slot count
list_below slot n count le has = record { number = has.number; below = omega (arith, has.below); listed = has.listed }

-- a file with an attribute list
pub scan_stops : (known : Option Content) (per : ℕ) (cut : Bool) (slot : Content → ℕ → Slot) (n count : ℕ) (more : Bool) (old new : Scan) → n < count → more ≡ false → IfSome known (λ c. ScannedBelow per cut (slot c) n old)
    → IfSome known (λ c. ScannedBelow per cut (slot c) n old → ScansOrFails per cut (slot c) (n + 1) (Ok more) new) → IfSome known (λ c. HasListBelow (slot c) count)
scan_stops known per cut slot n count more old new lt is below next =
    both known _ _ _ (λ c b f. list_below (slot c) (n + 1) count (omega arith) (subst (λ (m : Bool). ScansOrFails per cut (slot c) (n + 1) (Ok m) new) is (f b))) below next
