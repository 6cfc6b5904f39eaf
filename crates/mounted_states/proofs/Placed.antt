-- The entries of a log that isn't refused lie in the volume; so recovery by them leaves the block past the end of every disk.
use Rattle.std.proofs.Common.{◌≡◌, ℕ, ◌+◌, ◌*◌, ◌/◌, ◌^◌, ◌≤◌, Bool, true, false, ◌||◌, List, [], ◌∷◌, Option, Some, None, Result, Ok, refl, sym, ap, subst, ◌∙◌, arith}
use Rattle.std.specs.Prelude.{find, if◌then◌else◌, nat_le, nat_lt, length}
use Rattle.std.specs.Option.{option_map, option_or}
use Rattle.std.proofs.lemmas.Bool.{false_from_ne_true, or_from, le-leb}
use Rattle.host_base.specs.Answers.{◌>>=◌, needs}
use Rattle.disk_model.specs.declared.block.Block.{Block}
use Rattle.disk_model.specs.Sectors.{sectors, same_block}
use Rattle.disk_model.specs.Content.{Content}
use Rattle.disk_model.proofs.Frames.{same_block-is}
use Rattle.volume_model.specs.Indexes.{void_block}
use Rattle.log_model.specs.declared.entry.Entry.{Entry}
use Rattle.log_model.specs.declared.entry.Act.{Act}
use Rattle.log_model.specs.declared.entry.Act.TheVariants.{Update, Commit}
use Rattle.log_model.specs.Logs.{kind_of, block_of_kind, is_misplaced, first_misplaced, updates, is_written_out}
use Rattle.log_page.specs.declared.places.LogPlace.{LogPlace}
use Rattle.log_page.specs.declared.restart.Restart.{Restart}
use Rattle.log_page.specs.LiveLogs.{live_log}
use Rattle.log_page.specs.RecordPages.{Reading}
use Rattle.log_page.specs.Restarts.{is_clean}
use Rattle.log_reading.specs.declared.fault.LogRefusal.{LogRefusal}
use Rattle.log_reading.specs.declared.fault.LogRefusal.TheVariants.{ForeignLog}
use Rattle.log_reading.specs.LogPages.{page_in}
use Rattle.log_recovery.specs.LogStates.{own_entries, entries_by, live_entries_in}
use Rattle.store_model.specs.Logs.{has_update}
use Rattle.store_model.proofs.Told.{true≢false}
use Rattle.safe_blocks.proofs.ring_laws.SeenDisks.{written_updated}
use Rattle.stays_at_mount.proofs.txn_mount.Reading.{ok_then, all_ok}

-- ---- none is misplaced

none_or : {A : Type 0} (o p : Option A) → option_or o p ≡ None → o ≡ None
none_or None p is = refl
none_or (Some x) p is = absurd cc

own_placed : (reading : Reading) (clusters : ℕ) (l : List Entry) → own_entries reading clusters ≡ Ok l → first_misplaced l clusters ≡ None
own_placed reading clusters l e =
    let a = all_ok (option_or (first_misplaced reading.entries clusters) reading.foreign) reading.entries l e in
    subst (λ (es : List Entry). first_misplaced es clusters ≡ None) a.1 (none_or (first_misplaced reading.entries clusters) reading.foreign a.0)

no_entries : (clusters : ℕ) (l : List Entry) → ◌≡◌ {A = Result (List Entry) LogRefusal} (Ok []) (Ok l) → first_misplaced l clusters ≡ None
no_entries clusters l e = (let none : [] ≡ l = cc in subst (λ (es : List Entry). first_misplaced es clusters ≡ None) none refl)

by_placed : (c : Content) (place : LogPlace) (r : Restart) (l : List Entry) → entries_by c place r ≡ Ok l → first_misplaced l place.clusters ≡ None
unfolding entries_by
by_placed c place r l e = go (is_clean r) e
  where
    go : (v : Bool) → (if v then Ok [] else (needs r.own (ForeignLog r.current) >>= λ _. own_entries (live_log place.pages (page_in c place) r.oldest) place.clusters)) ≡ Ok l → first_misplaced l place.clusters ≡ None
    go true h = no_entries place.clusters l h
    go false h = own_placed (live_log place.pages (page_in c place) r.oldest) place.clusters l (ok_then (needs r.own (ForeignLog r.current)) (λ _. own_entries (live_log place.pages (page_in c place) r.oldest) place.clusters) l h).2

read_placed : (c : Content) (place : LogPlace) (chosen : Option Restart) (l : List Entry) → live_entries_in c place chosen ≡ Ok l → first_misplaced l place.clusters ≡ None
read_placed c place None l e = no_entries place.clusters l e
read_placed c place (Some r) l e = by_placed c place r l e

-- ---- so none updates a block past the volume

or_none : (u v : Bool) → (u || v) ≡ false → (u ≡ false) × (v ≡ false)
or_none true v e = absurd cc
or_none false v e = (refl, e)

untouched : (clusters : ℕ) (act : Act) (b : Block) → clusters ≤ b.first / 8 → is_misplaced clusters act ≡ false → updates b act ≡ false
unfolding is_misplaced
untouched clusters (Update first kind at redo undo) b past placed = false_from_ne_true (same_block b (block_of_kind first kind)) (λ same.
    let here : b.first ≡ first = ap (λ (x : Block). x.first) (same_block-is b (block_of_kind first kind) same) in
    let low : clusters ≤ first / 8 = omega (arith, past, here) in
    true≢false (sym (le-leb clusters (first / 8) low) ∙ (or_none (nat_le clusters (first / 8)) (nat_lt (512 * sectors (kind_of kind)) (at + length redo)) placed).0))
untouched clusters Commit b past placed = refl

none_first : (t : Bool) (x : Entry) (more : Option Entry) → option_map (λ (e : Entry). e.lsn) (if t then Some x else more) ≡ None → (t ≡ false) × (option_map (λ (e : Entry). e.lsn) more ≡ None)
none_first true x more e = absurd cc
none_first false x more e = (refl, e)

none_updates : (clusters : ℕ) (log : List Entry) (b : Block) → clusters ≤ b.first / 8 → first_misplaced log clusters ≡ None → has_update log b ≡ false
none_updates clusters [] b past placed = refl
none_updates clusters (x ∷ log) b past placed =
    let parts = none_first (is_misplaced clusters x.act) x (find (λ (e : Entry). is_misplaced clusters e.act) log) placed in
    or_from (updates b x.act) (has_update log b) (untouched clusters x.act b past parts.0) (none_updates clusters log b past parts.1)

pub void_unwritten : (c : Content) (place : LogPlace) (log : List Entry) (chosen : Option Restart) → place.clusters ≤ 2 ^ 59 → live_entries_in c place chosen ≡ Ok log → is_written_out c log void_block ≡ false
void_unwritten c place log chosen inside read = false_from_ne_true (is_written_out c log void_block) (λ out.
    let none = none_updates place.clusters log void_block (omega (arith, inside)) (read_placed c place chosen log read) in
    true≢false (sym (written_updated log void_block c out) ∙ none))
