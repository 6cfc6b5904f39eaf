-- A list read step by step, and the lists of all files.
use Rattle.std.proofs.Common.{◌≡◌, ℕ, ◌+◌, Bool, true, false, List, [], ◌∷◌, ◌++◌, map, drop, Option, sym, ap, ◌∙◌, arith}
use Rattle.std.specs.Prelude.{IfSome}
use Rattle.std.specs.List.{range_with_len}
use Rattle.std.proofs.lemmas.List.{append-nil, append_assoc, map-append}
use Rattle.std.proofs.lemmas.List.FromFn.{map-range_with_len_more}
use Rattle.volume_model.proofs.host_base.Known.{both, one, always}
use Rattle.stream_map.specs.disk_model.Content.{Content}
use Rattle.record_model.specs.declared.list_entry.ListEntry.{ListEntry}
use Rattle.record_model.specs.ListEntries.{ReadEntries, list_entries, with_entry}
use Rattle.stream_map.specs.declared.list_step.Step.{Step}
use Rattle.stream_map.specs.declared.list_step.Step.TheVariants.{End, Fault, Entry}
use Rattle.stream_map.specs.ListSteps.{IsStep}
use Rattle.state_model.specs.Files.{Table}
use Rattle.volume_map.specs.declared.list_read.ListRead.{ListRead}
use Rattle.volume_map.specs.Lists.{read_of, with_more, Takes, GoesOn, ReadUpTo, list_at, lists_of}

-- one step
with_none : (entries : List ListEntry) (whole : Bool) → with_more entries (record { entries = []; whole = whole }) ≡ record { entries = entries; whole = whole }
with_none entries whole = ap (λ (es : List ListEntry). record { entries = es; whole = whole }) (append-nil entries)

with_one : (entries : List ListEntry) (e : ListEntry) (read : ReadEntries) → with_more entries (with_entry e read) ≡ with_more (entries ++ e ∷ []) read
with_one entries e read = ap (λ (es : List ListEntry). record { entries = es; whole = read.whole }) (sym (append_assoc entries (e ∷ []) read.entries))

entries_is : (a : ListRead) (es : List ListEntry) (w : Bool) → read_of a ≡ record { entries = es; whole = w } → a.entries.items ≡ es
entries_is a es w e = ap (λ (r : ReadEntries). r.entries) e

whole_is : (a : ListRead) (es : List ListEntry) (w : Bool) → read_of a ≡ record { entries = es; whole = w } → a.whole ≡ w
whole_is a es w e = ap (λ (r : ReadEntries). r.whole) e

read_is : (a : ListRead) (w : Bool) → a.whole ≡ w → read_of a ≡ record { entries = a.entries.items; whole = w }
read_is a w e = ap (λ (b : Bool). record { entries = a.entries.items; whole = b }) e

pub one_step : (bytes : List ℕ) (before now : ℕ) (step : Step) (old new : ListRead) (more : Bool) → IsStep bytes before now step → Takes step old new more → GoesOn bytes before now old new more
one_step bytes before now End old new true is takes = absurd cc
one_step bytes before now End old new false is takes = λ whole. rw is (with_none old.entries.items true) ∙ sym (read_is old true whole) ∙ sym takes.1
one_step bytes before now Fault old new true is takes = absurd cc
one_step bytes before now Fault old new false is takes = λ whole. rw is (with_none old.entries.items false) ∙ sym takes.1
one_step bytes before now (Entry e) old new true is takes =
    λ whole. (whole_is new _ _ takes.1 ∙ whole, ap (with_more old.entries.items) is.0 ∙ with_one old.entries.items e (list_entries (drop now bytes)) ∙ ap (λ (es : List ListEntry). with_more es (list_entries (drop now bytes))) (sym (entries_is new _ _ takes.1)))
one_step bytes before now (Entry e) old new false is takes = absurd cc

-- one step more of a list
up_to_more : (bytes : List ℕ) (before now : ℕ) (old new : ListRead) (more : Bool) → ReadUpTo bytes before old true → GoesOn bytes before now old new more → ReadUpTo bytes now new more
up_to_more bytes before now old new true up goes = let g = goes up.0 in (g.0, up.1 ∙ g.1)
up_to_more bytes before now old new false up goes = up.1 ∙ goes up.0

pub reads_more : (known : Option Content) (bytes : Content → List ℕ) (before now : ℕ) (old new : ListRead) (was more : Bool) → was ≡ true → IfSome known (λ c. ReadUpTo (bytes c) before old was) → IfSome known (λ c. GoesOn (bytes c) before now old new more)
    → IfSome known (λ c. ReadUpTo (bytes c) now new more)
reads_more known bytes before now old new true more is up goes = both known _ _ _ (λ c u g. up_to_more (bytes c) before now old new more u g) up goes
reads_more known bytes before now old new false more is up goes = absurd cc

pub reads_first : (known : Option Content) (bytes : Content → List ℕ) (list : ListRead) → read_of list ≡ record { entries = []; whole = true } → IfSome known (λ c. ReadUpTo (bytes c) 0 list true)
reads_first known bytes list is = always known _ (λ c. (whole_is list [] true is, ap (λ (es : List ListEntry). with_more es (list_entries (bytes c))) (sym (entries_is list [] true is))))

pub reads_last : (known : Option Content) (bytes : Content → List ℕ) (at : ℕ) (list : ListRead) (more : Bool) → more ≡ false → IfSome known (λ c. ReadUpTo (bytes c) at list more) → IfSome known (λ c. read_of list ≡ list_entries (bytes c))
reads_last known bytes at list true is up = absurd cc
reads_last known bytes at list false is up = one known _ _ (λ c e. sym e) up

list_more : (c : Content) (per : ℕ) (p : Table) (n : ℕ) (old new : List ListRead) (list : ListRead) → new ≡ old ++ list ∷ [] → map read_of old ≡ lists_of c per p n → read_of list ≡ list_at c per p n → map read_of new ≡ lists_of c per p (n + 1)
unfolding lists_of
list_more c per p n old new list so was is =
    ap (map read_of) so ∙ map-append read_of old (list ∷ []) ∙ ap (λ (xs : List ReadEntries). xs ++ read_of list ∷ []) was
    ∙ ap (λ (x : ReadEntries). map (list_at c per p) (range_with_len 0 n) ++ x ∷ []) is ∙ sym (map-range_with_len_more (list_at c per p) 0 n n (omega arith))

-- the list of one file more
pub lists_more : (known : Option Content) (per : ℕ) (p : Table) (n : ℕ) (old new : List ListRead) (list : ListRead) → IfSome known (λ c. map read_of old ≡ lists_of c per p n) → IfSome known (λ c. read_of list ≡ list_at c per p n) → new ≡ old ++ list ∷ []
    → IfSome known (λ c. map read_of new ≡ lists_of c per p (n + 1))
lists_more known per p n old new list was is so = both known _ _ _ (λ c w e. list_more c per p n old new list so w e) was is

pub lists_first : (known : Option Content) (per : ℕ) (p : Table) (lists : List ListRead) → lists ≡ [] → IfSome known (λ c. map read_of lists ≡ lists_of c per p 0)
unfolding lists_of
lists_first known per p lists is = always known _ (λ c. ap (map read_of) is)
