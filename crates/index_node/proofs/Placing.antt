-- Pieces that are put one behind the other.
use Rattle.std.proofs.Common.{◌≡◌, ℕ, zero, suc, ◌+◌, ◌-◌, ◌*◌, ◌%◌, ◌<◌, ◌≤◌, ◌^◌, List, [], ◌∷◌, ◌++◌, length, take, get_or, All, refl, sym, ap, ◌∙◌, arith}
use Rattle.std.specs.List.{flat_map, AllByRecursion}
use Rattle.std.proofs.lemmas.List.{length-append, append-nil, drop_all, take_more}
use Rattle.std.proofs.lemmas.List.Elements.{All-from_recursion}
use Rattle.std.proofs.lemmas.Grind.{flat_map-append}
use borrow.Rule.Slice.PartMut.{put_mid}
use Rattle.disk_model.specs.host_base.declared.file_ref.FileRef.{FileRef}
use Rattle.disk_model.specs.Numbers.{spell}
use Rattle.disk_model.specs.Bytes.{written, zeros, up8}
use Rattle.disk_model.proofs.Puts.{written_parts, written_behind_written}
use Rattle.record_model.specs.declared.entry.Entry.{Entry}
use Rattle.record_model.specs.Attributes.{filled}
use Rattle.record_model.specs.Nodes.{Node, down_flag, down_bytes, entry_length, entries_length, entry_spelling, node_used, node_room, children_of, node_head, node_spelling, FitEntries, FitsNode}
use Rattle.record_model.proofs.UnitBytes.{length-zeros, length-filled}
use Rattle.record_model.proofs.NodeSpelling.{length-entry_spelling, length-entry_spellings, length-node_spelling}
use Rattle.index_node.specs.Spelling.{entry_head}

-- so many bytes were put from a place on
pub record IsPut (at n : ℕ) (xs before out : List ℕ) : Type 0 where
  pub size : length xs ≡ n
  pub put : out ≡ written at xs before

pub put_first : {at : ℕ} {before next : List ℕ} (ys : List ℕ) (m : ℕ) → length ys ≡ m → next ≡ written at ys before → IsPut at m ys before next
put_first ys m size put = record { size = size; put = put }

-- more is put behind it
pub put_next : {at n : ℕ} {xs before prev next : List ℕ} (ys : List ℕ) (m place : ℕ) → IsPut at n xs before prev → length ys ≡ m → place ≡ at + n → next ≡ written place ys prev → IsPut at (n + m) (xs ++ ys) before next
put_next {at} {n} {xs} {before} {prev} {next} ys m place done size here put = record {
  size = omega (arith, length-append xs ys, done.size, size);
  put =
      let behind : place ≡ at + length xs = omega (arith, here, done.size) in
      put ∙ ap (λ (k : ℕ). written k ys prev) behind ∙ ap (written (at + length xs) ys) done.put ∙ written_behind_written at xs ys before;
}

-- nothing that is put changes nothing
pub nothing_put : (at : ℕ) (bytes : List ℕ) → written at [] bytes ≡ bytes
nothing_put at [] = refl
nothing_put zero (b ∷ bytes) = refl
nothing_put (suc at) (b ∷ bytes) = ap (λ (l : List ℕ). b ∷ l) (nothing_put at bytes)

-- as many bytes as there are, from the first on
pub all_put : (new bytes : List ℕ) → length new ≡ length bytes → written 0 new bytes ≡ new
all_put new bytes same =
    written_parts 0 new bytes (omega (arith, same)) ∙ ap (λ (x : List ℕ). new ++ x) (drop_all (length new) bytes (omega (arith, same))) ∙ append-nil new

-- a part that was filled with zeros
pub zeros_put : (at n : ℕ) (bytes part : List ℕ) → part ≡ zeros n → at + n ≤ length bytes → put_mid at (at + n - at) bytes part ≡ written at (zeros n) bytes
zeros_put at n bytes part same fits =
    let size = length-zeros n in
    let count : at + n - at ≡ length (zeros n) = omega (arith, size) in
    ap (put_mid at (at + n - at) bytes) same ∙ ap (λ (k : ℕ). put_mid at k bytes (zeros n)) count ∙ sym (written_parts at (zeros n) bytes (omega (arith, size)))

-- ---- an entry

pub one_byte : (value : ℕ) → value < 256 → value ∷ [] ≡ spell 1 value
unfolding spell
one_byte value small = let low : value ≡ value % 256 = omega arith in ap (λ (x : ℕ). x ∷ []) low

pub key_size : (key : List ℕ) → length (filled 0x10 key) ≡ up8 (0x10 + length key) - 0x10
key_size key = length-filled 0x10 key

pub entry_room : (e : Entry) → entry_length e ≡ up8 (0x10 + length e.key) + 8 * down_flag e.down
unfolding entry_length
entry_room e = refl

-- how long the parts of an entry are
pub ruleset entry_sizes = (entry_room, key_size)

length-entry_head : (e : Entry) (n : ℕ) → length (entry_head e n) ≡ 0x10
unfolding entry_head spell zeros
length-entry_head e n = refl

entry_parts : (e : Entry) → entry_spelling e ≡ (entry_head e (entry_length e) ++ filled 0x10 e.key) ++ down_bytes e.down
unfolding entry_spelling entry_head
entry_parts e = refl

pub entry_put : (at : ℕ) (e : Entry) (out a b c : List ℕ) → a ≡ written at (entry_head e (entry_length e)) out → b ≡ written (at + 0x10) (filled 0x10 e.key) a → c ≡ written (at + up8 (0x10 + length e.key)) (down_bytes e.down) b → c ≡ written at (entry_spelling e) out
entry_put at e out a b c p q r =
    let first = put_first (entry_head e (entry_length e)) 0x10 (length-entry_head e (entry_length e)) p in
    let second = put_next (filled 0x10 e.key) (up8 (0x10 + length e.key) - 0x10) (at + 0x10) first (key_size e.key) refl q in
    let place : at + up8 (0x10 + length e.key) ≡ at + (0x10 + (up8 (0x10 + length e.key) - 0x10)) = omega arith in
    (put_next (down_bytes e.down) (length (down_bytes e.down)) (at + up8 (0x10 + length e.key)) second refl place r).put ∙ ap (λ (x : List ℕ). written at x out) (sym (entry_parts e))

-- ---- all entries

pub entries_put : (entries : List Entry) (i : ℕ) (d : Entry) (at : ℕ) (out prev next : List ℕ) → i < length entries → at ≡ 0x40 + entries_length (take i entries) → prev ≡ written 0x40 (flat_map entry_spelling (take i entries)) out → next ≡ written at (entry_spelling (get_or entries i d)) prev → next ≡ written 0x40 (flat_map entry_spelling (take (i + 1) entries)) out
entries_put entries i d at out prev next lt here done put =
    let e = get_or entries i d in
    let first = put_first (flat_map entry_spelling (take i entries)) (entries_length (take i entries)) (length-entry_spellings (take i entries)) done in
    let more : flat_map entry_spelling (take i entries) ++ entry_spelling e ≡ flat_map entry_spelling (take (i + 1) entries) =
    ap (λ (x : List ℕ). flat_map entry_spelling (take i entries) ++ x) (sym (append-nil (entry_spelling e))) ∙ sym (flat_map-append entry_spelling (take i entries) (e ∷ [])) ∙ ap (flat_map entry_spelling) (sym (take_more entries i d lt)) in
    (put_next (entry_spelling e) (entry_length e) at first (length-entry_spelling e) here put).put ∙ ap (λ (x : List ℕ). written 0x40 x out) more

-- ---- a block

length-node_head : (lsn vcn used flag : ℕ) → length (node_head lsn vcn used flag) ≡ 0x40
unfolding node_head spell zeros
length-node_head lsn vcn used flag = refl

node_parts : (n : Node) → node_spelling n ≡ (node_head n.lsn n.vcn (node_used n.entries) (children_of n.entries) ++ flat_map entry_spelling n.entries) ++ zeros (node_room - node_used n.entries)
unfolding node_spelling
node_parts n = refl

used_is : (entries : List Entry) → node_used entries ≡ 0x28 + entries_length entries
unfolding node_used
used_is entries = refl

pub node_put : (n : Node) (place count : ℕ) (out a b c : List ℕ) → FitsNode n → length out ≡ 4096 → a ≡ written 0 (node_head n.lsn n.vcn (node_used n.entries) (children_of n.entries)) out → b ≡ written 0x40 (flat_map entry_spelling n.entries) a → c ≡ written place (zeros count) b → place ≡ 0x40 + entries_length n.entries → count ≡ 4096 - place → c ≡ node_spelling n
node_put n place count out a b c fits long p q r here left =
    let first = put_first (node_head n.lsn n.vcn (node_used n.entries) (children_of n.entries)) 0x40 (length-node_head n.lsn n.vcn (node_used n.entries) (children_of n.entries)) p in
    let second = put_next (flat_map entry_spelling n.entries) (entries_length n.entries) 0x40 first (length-entry_spellings n.entries) refl q in
    let same : count ≡ node_room - node_used n.entries = omega (arith, used_is n.entries, here, left) in
    let third = put_next (zeros count) count place second (length-zeros count) (omega (arith, here)) r in
    third.put
    ∙ ap (λ (k : ℕ). written 0 ((node_head n.lsn n.vcn (node_used n.entries) (children_of n.entries) ++ flat_map entry_spelling n.entries) ++ zeros k) out) same
    ∙ ap (λ (x : List ℕ). written 0 x out) (sym (node_parts n))
    ∙ all_put (node_spelling n) out (length-node_spelling n fits ∙ sym long)

-- ---- what fits

numbers_of : (entries : List Entry) → FitEntries entries → AllByRecursion (λ e. e.child.number < 2 ^ 48) entries
numbers_of [] fit = tt
numbers_of (e ∷ []) fit = (omega (arith, ap (λ (f : FileRef). f.number) fit.no_reference), tt)
numbers_of (e ∷ f ∷ entries) fit = (fit.0.number, numbers_of (f ∷ entries) fit.1)

pub numbers_small : (entries : List Entry) → FitEntries entries → All (λ (e : Entry). e.child.number < 2 ^ 48) entries
numbers_small entries fit = All-from_recursion (λ (e : Entry). e.child.number < 2 ^ 48) entries (numbers_of entries fit)

pub entries_short : (n : Node) → FitsNode n → entries_length n.entries ≤ 4032
entries_short n fits = omega (arith, used_is n.entries, fits.used)
