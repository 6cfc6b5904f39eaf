-- Pieces of an entry that are put one behind the other.
use Rattle.std.proofs.Common.{◌≡◌, ℕ, ◌+◌, ◌-◌, ◌≤◌, List, ◌++◌, length, sym, ap, ◌∙◌, refl, arith}
use Rattle.std.proofs.lemmas.List.{append_assoc, append-nil, length-append}
use borrow.Rule.Slice.PartMut.{put_mid}
use Rattle.disk_model.specs.Numbers.{spell}
use Rattle.disk_model.specs.Bytes.{up8, zeros, written}
use Rattle.disk_model.proofs.Puts.{written_parts, written_behind_written}
use Rattle.log_model.specs.declared.entry.Entry.{Entry}
use Rattle.log_model.specs.declared.entry.Act.{Act}
use Rattle.log_model.specs.declared.entry.Act.TheVariants.{Update, Commit}
use Rattle.log_model.specs.Entries.{act_spelling, bytes_spelling, commit_spelling, update_spelling, front_spelling, entry_spelling, filled}
use Rattle.log_model.proofs.EntrySpelled.{length-zeros, length-filled}

-- a copy of zeros into a part is a write
pub zeros_put : (at n len count : ℕ) (old copy : List ℕ) → copy ≡ zeros len → len ≡ count → n ≡ count → at + count ≤ length old → put_mid at n old copy ≡ written at (zeros count) old
zeros_put at n len count old copy same size e fits =
    let all = length-zeros count in
    ap (put_mid at n old) (same ∙ ap zeros size) ∙ ap (λ (k : ℕ). put_mid at k old (zeros count)) (e ∙ sym all) ∙ sym (written_parts at (zeros count) old (omega arith))

-- two pieces, the second where the first ends
behind : (at at' : ℕ) (xs ys old mid new : List ℕ) → mid ≡ written at xs old → at' ≡ at + length xs → new ≡ written at' ys mid → new ≡ written at (xs ++ ys) old
behind at at' xs ys old mid new e place f = f ∙ ap (λ (k : ℕ). written k ys mid) place ∙ ap (written (at + length xs) ys) e ∙ written_behind_written at xs ys old

-- bytes and the zeros behind them
pub filled_put : (at n : ℕ) (bytes old mid new : List ℕ) → mid ≡ written at bytes old → n ≡ up8 (length bytes) - length bytes → new ≡ written (at + length bytes) (zeros n) mid → new ≡ written at (filled bytes) old
unfolding filled
filled_put at n bytes old mid new e size f = behind at (at + length bytes) bytes (zeros (up8 (length bytes) - length bytes)) old mid new e refl (f ∙ ap (λ (k : ℕ). written (at + length bytes) (zeros k) mid) size)

length-update_spelling : (first kind place n : ℕ) → length (update_spelling first kind place n) ≡ 0x28
unfolding update_spelling spell
length-update_spelling first kind place n = refl

length-front_spelling : (e : Entry) → length (front_spelling e) ≡ 0x30
unfolding front_spelling spell zeros
length-front_spelling e = refl

-- the fields of an update, and its redo and undo bytes
pub update_put : (at first kind place n m k : ℕ) (redo undo redone undone fields old a b new : List ℕ) (act : Act) → act ≡ Update first kind place redo undo → redone ≡ redo → undone ≡ undo → n ≡ length redo → m ≡ length redo → k ≡ up8 m → fields ≡ update_spelling first kind place n
    → a ≡ written at fields old → b ≡ written (at + 0x28) (filled redone) a → new ≡ written (at + 0x28 + k) (filled undone) b → new ≡ written at (act_spelling act ++ bytes_spelling act) old
update_put at first kind place n m k redo undo redone undone fields old a b new act is same other few again up made e f g =
    let named : fields ≡ update_spelling first kind place (length redo) = made ∙ ap (update_spelling first kind place) few in
    let size = length-update_spelling first kind place (length redo) in
    let two = length-filled redo in
    let up' : k ≡ up8 (length redo) = up ∙ ap up8 again in
    let both = length-append (update_spelling first kind place (length redo)) (filled redo) in
    let first_two = behind at (at + 0x28) (update_spelling first kind place (length redo)) (filled redo) old a b (e ∙ ap (λ (x : List ℕ). written at x old) named) (omega arith) (f ∙ ap (λ (x : List ℕ). written (at + 0x28) (filled x) a) same) in
    behind at (at + 0x28 + k) (update_spelling first kind place (length redo) ++ filled redo) (filled undo) old b new first_two (omega arith) (g ∙ ap (λ (x : List ℕ). written (at + 0x28 + k) (filled x) b) other)
    ∙ ap (λ (x : List ℕ). written at x old) (append_assoc (update_spelling first kind place (length redo)) (filled redo) (filled undo))
    ∙ ap (λ (x : Act). written at (act_spelling x ++ bytes_spelling x) old) (sym is)

-- a commit is its fields
pub commit_put : (at : ℕ) (fields old new : List ℕ) (act : Act) → act ≡ Commit → fields ≡ commit_spelling → new ≡ written at fields old → new ≡ written at (act_spelling act ++ bytes_spelling act) old
unfolding zeros
commit_put at fields old new act is made e =
    let none : act_spelling Commit ++ zeros 0 ≡ commit_spelling = append-nil commit_spelling in
    e ∙ ap (λ (x : List ℕ). written at x old) (made ∙ sym none) ∙ ap (λ (a : Act). written at (act_spelling a ++ bytes_spelling a) old) (sym is)

-- the header, and what stands after it
pub entry_put : (e : Entry) (at : ℕ) (front old mid new : List ℕ) → front ≡ front_spelling e → mid ≡ written at front old → new ≡ written (at + 0x30) (act_spelling e.act ++ bytes_spelling e.act) mid → new ≡ written at (entry_spelling e) old
unfolding entry_spelling
entry_put e at front old mid new is put more =
    let size = length-front_spelling e in
    behind at (at + 0x30) (front_spelling e) (act_spelling e.act ++ bytes_spelling e.act) old mid new (put ∙ ap (λ (x : List ℕ). written at x old) is) (omega arith) more
    ∙ ap (λ (x : List ℕ). written at x old) (sym (append_assoc (front_spelling e) (act_spelling e.act) (bytes_spelling e.act)))
