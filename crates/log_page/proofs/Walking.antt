-- Steps of a walk over the pages of the ring: what was read before, and what is left to read.
use Rattle.std.proofs.Common.{◌≡◌, ℕ, zero, suc, Bool, true, false, cond, List, ◌++◌, Option, Some, None, Result, Ok, Err, refl, sym, ap, ◌∙◌, append_assoc}
use Rattle.std.proofs.lemmas.List.{append-nil}
use Rattle.log_record.specs.log_model.declared.entry.Entry.{Entry}
use Rattle.log_page.specs.declared.fault.PageFault.{PageFault}
use Rattle.log_page.specs.declared.fault.PageFault.TheVariants.{NotWhole, Foreign}
use Rattle.log_page.specs.Places.{entries_at, page_lsn, page_after, lap_after}
use Rattle.log_page.specs.RecordPages.{Reading, no_reading, is_whole_page, page_reading, AppendsPage}
use Rattle.log_page.specs.LiveLogs.{followed_by, log_from}
use Rattle.log_page.proofs.Readings.{with_front}

done : Result (Unit {0}) PageFault
done = Ok tt

-- what the page and its entries before, and the reading after it, come to
goes_by : (whole : Bool) (reading next live : Reading) (old new : List Entry) → AppendsPage whole reading old new (Ok tt)
    → with_front old (cond whole (followed_by reading next) no_reading) ≡ live → with_front new next ≡ live
goes_by false reading next live old new (is, same) read = absurd cc
goes_by true reading next live old new (none, grown) read =
    ap (λ (l : List Entry). with_front l next) grown ∙ ap (λ (l : List Entry). made l next.foreign) (append_assoc old reading.entries next.entries) ∙ sym (ap (with_front old) (after reading next none)) ∙ read
  where
    made : List Entry → Option ℕ → Reading
    made entries foreign = record { entries = entries; foreign = foreign }

    after : (r n : Reading) → r.foreign ≡ None → followed_by r n ≡ made (r.entries ++ n.entries) n.foreign
    after r n e = rw e refl

stops_by : (whole : Bool) (reading next live : Reading) (old new : List Entry) (lsn : ℕ) → AppendsPage whole reading old new (Err (Foreign lsn))
    → with_front old (cond whole (followed_by reading next) no_reading) ≡ live → (live.foreign ≡ Some lsn) × (live.entries ≡ new)
stops_by false reading next live old new lsn (is, same) read = absurd cc
stops_by true reading next live old new lsn (foreign, grown) read =
    let here : with_front old reading ≡ live = sym (ap (with_front old) (stays reading next lsn foreign)) ∙ read in
    (sym (ap (λ (r : Reading). r.foreign) here) ∙ foreign, sym (ap (λ (r : Reading). r.entries) here) ∙ sym grown)
  where
    stays : (r n : Reading) (lsn : ℕ) → r.foreign ≡ Some lsn → followed_by r n ≡ r
    stays r n lsn e = rw e refl

ends_by : (whole : Bool) (reading next live : Reading) (old new : List Entry) → AppendsPage whole reading old new (Err NotWhole)
    → with_front old (cond whole (followed_by reading next) no_reading) ≡ live → (live.foreign ≡ None) × (live.entries ≡ new)
ends_by true reading next live old new none read = absurd none
ends_by false reading next live old new (is, same) read =
    (sym (ap (λ (r : Reading). r.foreign) read), sym (ap (λ (r : Reading). r.entries) read) ∙ append-nil old ∙ sym same)

module _ (pages : ℕ) (raw : ℕ → List ℕ) (most lap page at : ℕ) (old new : List Entry) (live : Reading) where
  -- the page was read to its end
  pub walked : AppendsPage (is_whole_page pages (raw page) (page_lsn pages lap page)) (page_reading (raw page) (page_lsn pages lap page) at) old new (Ok tt)
      → with_front old (log_from pages raw (suc most) lap page at) ≡ live → with_front new (log_from pages raw most (lap_after pages lap page) (page_after pages page) entries_at) ≡ live
  unfolding log_from
  walked step read = goes_by (is_whole_page pages (raw page) (page_lsn pages lap page)) (page_reading (raw page) (page_lsn pages lap page) at) (log_from pages raw most (lap_after pages lap page) (page_after pages page) entries_at) live old new step read

  -- it has an entry of another shape
  pub walk_stopped : (lsn : ℕ) → AppendsPage (is_whole_page pages (raw page) (page_lsn pages lap page)) (page_reading (raw page) (page_lsn pages lap page) at) old new (Err (Foreign lsn))
      → with_front old (log_from pages raw (suc most) lap page at) ≡ live → (live.foreign ≡ Some lsn) × (live.entries ≡ new)
  unfolding log_from
  walk_stopped lsn step read = stops_by (is_whole_page pages (raw page) (page_lsn pages lap page)) (page_reading (raw page) (page_lsn pages lap page) at) (log_from pages raw most (lap_after pages lap page) (page_after pages page) entries_at) live old new lsn step read

  -- it isn't whole
  pub walk_ended : AppendsPage (is_whole_page pages (raw page) (page_lsn pages lap page)) (page_reading (raw page) (page_lsn pages lap page) at) old new (Err NotWhole)
      → with_front old (log_from pages raw (suc most) lap page at) ≡ live → (live.foreign ≡ None) × (live.entries ≡ new)
  unfolding log_from
  walk_ended step read = ends_by (is_whole_page pages (raw page) (page_lsn pages lap page)) (page_reading (raw page) (page_lsn pages lap page) at) (log_from pages raw most (lap_after pages lap page) (page_after pages page) entries_at) live old new step read

-- the walk went once round the ring
pub walk_round : (pages : ℕ) (raw : ℕ → List ℕ) (lap page at : ℕ) (old : List Entry) (live : Reading) → with_front old (log_from pages raw zero lap page at) ≡ live → (live.foreign ≡ None) × (live.entries ≡ old)
unfolding log_from
walk_round pages raw lap page at old live read = (sym (ap (λ (r : Reading). r.foreign) read), sym (ap (λ (r : Reading). r.entries) read) ∙ append-nil old)
