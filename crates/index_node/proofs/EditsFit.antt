-- What an edit of a node that has a spelling leaves.
use Rattle.std.proofs.Common.{◌≡◌, ℕ, zero, suc, ◌+◌, ◌^◌, ◌<◌, ◌≤◌, List, [], ◌∷◌, ◌++◌, length, take, drop, get_or, None, refl, arith}
use Rattle.std.specs.Prelude.{insert}
use Rattle.std.specs.List.{AllByRecursion}
use Rattle.std.proofs.lemmas.List.Elements.{All-from_recursion, recursion_from_All, All-get_or}
use Rattle.record_model.specs.declared.entry.Entry.{Entry}
use Rattle.record_model.specs.Nodes.{Node, down_flag, node_used, node_room, children_of, FitsEntry, FitEntries, FitsNode, last_entry}
use Rattle.record_model.proofs.NodeFits.{flags_fit}
use Rattle.index_node.specs.Edits.{with_entries, without_entry, down_at, left_half, right_half}
use Rattle.index_node.proofs.Sizes.{used_removed, used_left, used_right}

-- ---- lists

all_append : {X : Type 0} (P : X → Type 0) (xs ys : List X) → AllByRecursion P xs → AllByRecursion P ys → AllByRecursion P (xs ++ ys)
all_append P [] ys all more = more
all_append P (x ∷ xs) ys all more = (all.0, all_append P xs ys all.1 more)

all_take : {X : Type 0} (P : X → Type 0) (n : ℕ) (xs : List X) → AllByRecursion P xs → AllByRecursion P (take n xs)
all_take P zero xs all = tt
all_take P (suc n) [] all = tt
all_take P (suc n) (x ∷ xs) all = (all.0, all_take P n xs all.1)

all_drop : {X : Type 0} (P : X → Type 0) (n : ℕ) (xs : List X) → AllByRecursion P xs → AllByRecursion P (drop n xs)
all_drop P zero xs all = all
all_drop P (suc n) [] all = tt
all_drop P (suc n) (x ∷ xs) all = all_drop P n xs all.1

-- ---- entries

fit_cons : (e : Entry) (entries : List Entry) → FitsEntry e → FitEntries entries → FitEntries (e ∷ entries)
fit_cons e [] fits fit = absurd fit
fit_cons e (f ∷ entries) fits fit = (fits, fit)

fit_more : (front entries : List Entry) → AllByRecursion FitsEntry front → FitEntries entries → FitEntries (front ++ entries)
fit_more [] entries all fit = fit
fit_more (e ∷ front) entries all fit = fit_cons e (front ++ entries) all.0 (fit_more front entries all.1 fit)

fit_front : (i : ℕ) (entries : List Entry) → FitEntries entries → i < length entries → AllByRecursion FitsEntry (take i entries)
fit_front zero entries fit lt = tt
fit_front (suc i) [] fit lt = absurd fit
fit_front (suc i) (e ∷ []) fit lt = absurd (omega arith)
fit_front (suc i) (e ∷ f ∷ entries) fit lt = (fit.0, fit_front i (f ∷ entries) fit.1 (omega arith))

fit_back : (i : ℕ) (entries : List Entry) → FitEntries entries → i < length entries → FitEntries (drop i entries)
fit_back zero entries fit lt = fit
fit_back (suc i) [] fit lt = absurd fit
fit_back (suc i) (e ∷ []) fit lt = absurd (omega arith)
fit_back (suc i) (e ∷ f ∷ entries) fit lt = fit_back i (f ∷ entries) fit.1 (omega arith)

-- an entry before the last fits
pub fit_at : (i : ℕ) (d : Entry) (entries : List Entry) → FitEntries entries → i + 1 < length entries → FitsEntry (get_or entries i d)
fit_at i d [] fit lt = absurd fit
fit_at i d (e ∷ []) fit lt = absurd (omega arith)
fit_at zero d (e ∷ f ∷ entries) fit lt = fit.0
fit_at (suc i) d (e ∷ f ∷ entries) fit lt = fit_at i d (f ∷ entries) fit.1 (omega arith)

-- ---- nodes

abbrev HasFlag : ℕ → Entry → Type 0
HasFlag flag e = down_flag e.down ≡ flag

fits_with : (n m : Node) → FitsNode n → m.vcn < 2 ^ 64 → m.lsn < 2 ^ 64 → FitEntries m.entries → AllByRecursion (HasFlag (children_of n.entries)) m.entries → node_used m.entries ≤ node_room → FitsNode m
fits_with n m fits vcn lsn entries flags used = record {
  vcn = vcn;
  lsn = lsn;
  entries = entries;
  flags = All-from_recursion (HasFlag (children_of m.entries)) m.entries (flags_fit (children_of n.entries) m.entries flags);
  used = used;
}

flags_of : (n : Node) → FitsNode n → AllByRecursion (HasFlag (children_of n.entries)) n.entries
flags_of n fits = recursion_from_All (HasFlag (children_of n.entries)) n.entries fits.flags

pub fits_put_in : (n : Node) (at : ℕ) (e : Entry) → FitsNode n → at < length n.entries → FitsEntry e → down_flag e.down ≡ children_of n.entries → node_used (insert n.entries at e) ≤ node_room → FitsNode (with_entries n (insert n.entries at e))
fits_put_in n at e fits lt fit flag room =
    let P = HasFlag (children_of n.entries) in
    fits_with n (with_entries n (insert n.entries at e)) fits fits.vcn fits.lsn
    (fit_more (take at n.entries) (e ∷ drop at n.entries) (fit_front at n.entries fits.entries lt) (fit_cons e (drop at n.entries) fit (fit_back at n.entries fits.entries lt)))
    (all_append P (take at n.entries) (e ∷ drop at n.entries) (all_take P at n.entries (flags_of n fits)) (flag, all_drop P at n.entries (flags_of n fits)))
    room

pub fits_taken_out : (n : Node) (at : ℕ) → FitsNode n → at + 1 < length n.entries → FitsNode (without_entry n at)
fits_taken_out n at fits lt =
    let P = HasFlag (children_of n.entries) in
    let here : at < length n.entries = omega arith in
    fits_with n (without_entry n at) fits fits.vcn fits.lsn
    (fit_more (take at n.entries) (drop (suc at) n.entries) (fit_front at n.entries fits.entries here) (fit_back (suc at) n.entries fits.entries (omega arith)))
    (all_append P (take at n.entries) (drop (suc at) n.entries) (all_take P at n.entries (flags_of n fits)) (all_drop P (suc at) n.entries (flags_of n fits)))
    (omega (arith, used_removed n.entries at here, fits.used))

pub fits_left : (n : Node) (at : ℕ) → FitsNode n → at + 1 < length n.entries → FitsNode (left_half n at)
fits_left n at fits lt =
    let P = HasFlag (children_of n.entries) in
    let here : at < length n.entries = omega arith in
    let last = last_entry (down_at n.entries at) in
    let cut = fit_at at (last_entry None) n.entries fits.entries lt in
    fits_with n (left_half n at) fits (omega arith) (omega arith)
    (fit_more (take at n.entries) (last ∷ []) (fit_front at n.entries fits.entries here) (record { no_reference = refl; no_key = refl; down = cut.down }))
    (all_append P (take at n.entries) (last ∷ []) (all_take P at n.entries (flags_of n fits)) (All-get_or P n.entries at (last_entry None) here fits.flags, tt))
    (omega (arith, used_left n.entries at here, fits.used))

pub fits_right : (n : Node) (at : ℕ) → FitsNode n → at + 1 < length n.entries → FitsNode (right_half n at)
fits_right n at fits lt =
    let P = HasFlag (children_of n.entries) in
    fits_with n (right_half n at) fits fits.vcn fits.lsn
    (fit_back (at + 1) n.entries fits.entries lt)
    (all_drop P (at + 1) n.entries (flags_of n fits))
    (omega (arith, used_right n.entries at, fits.used))
