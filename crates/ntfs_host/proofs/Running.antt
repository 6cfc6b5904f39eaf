-- What a run answers, by what was written.
use Rattle.std.proofs.Common.{◌≡◌, ◌⊎◌, ℕ, zero, suc, ◌≤◌, ◌<◌, Bool, true, false, List, [], Option, Some, None, Result, Ok, Err, refl, sym, ap, ◌∙◌, inl, inr, arith}
use Rattle.std.specs.Prelude.{◌≢◌, IfSome, String, string_bytes}
use Rattle.std.specs.Global.{Global}
use Rattle.std.specs.Io.KnownBytes.{Appends}
use Rattle.host_base.specs.Causes.{Rose, HasFailed, AppendsPart, last_moment}
use Rattle.sector_device.specs.Moments.{Changes}
use Rattle.device_view.specs.Devices.{KeepsDevice, CountsCauseOnDevice}
use Rattle.tree_model.specs.declared.script.Command.{Command}
use Rattle.volume_run.specs.image_open.declared.refusal.Refusal.{Refusal}
use Rattle.volume_run.specs.image_open.declared.refusal.Refusal.TheVariants.{Short, Unbuilt}
use Rattle.volume_run.specs.volume_mount.Mounts.{mounted_of}
use Rattle.writing_run.specs.volume_start.declared.fault.StartFault.{StartFault}
use Rattle.writing_run.specs.volume_start.declared.fault.StartFault.TheVariants as starts
use Rattle.writing_run.specs.volume_start.Faults.{count_cause}
use Rattle.writing_run.specs.volume_start.Starts.{UnfitOn, UnfitAs, UnknownOn, UnknownAs}
use Rattle.writing_run.specs.Runs.{StopsRun, RunsScript}
use Rattle.ntfs_host.specs.Answers.{known_mount}
use Rattle.ntfs_host.specs.Text.{refusal_line}
use Rattle.ntfs_host.specs.Runs.{RefusesRun, flushed_status, WritesText, WritesRefusal, WritesNothing, WritesFault, WritesRan, LeavesRefused, TellsRun, TellsRefusal, AnswersChanges}
use Rattle.ntfs_host.specs.Outcomes.{HasRunCauses, LeavesRun}

-- ---- statuses

flushed_zero : (flushed : Bool) → flushed_status flushed ≡ 0 → flushed ≡ true
flushed_zero true is = refl
flushed_zero false is = absurd cc

refused_low : (status n : ℕ) → (status ≡ 3) ⊎ ((status ≡ 6) ⊎ (status ≡ 7)) → status ≡ n → (n ≡ 4) ⊎ (n ≡ 5) → ⊥
refused_low status n (inl a) is (inl b) = omega (arith, a, b, is)
refused_low status n (inl a) is (inr b) = omega (arith, a, b, is)
refused_low status n (inr (inl a)) is (inl b) = omega (arith, a, b, is)
refused_low status n (inr (inl a)) is (inr b) = omega (arith, a, b, is)
refused_low status n (inr (inr a)) is (inl b) = omega (arith, a, b, is)
refused_low status n (inr (inr a)) is (inr b) = omega (arith, a, b, is)

flushed_eight : (flushed : Bool) → flushed_status flushed ≡ 8 → flushed ≡ false
flushed_eight true is = absurd cc
flushed_eight false is = refl

module _ {D : Type 0} (gives : D → Option (List (List ℕ))) (count moment faults : D → ℕ) (changes : D → Changes) (script : List Command) (time : ℕ) where
  abbrev Answers : ℕ → D → D → Option (List ℕ) → Option (List ℕ) → Type 0
  Answers status old new sink sink_now = AnswersChanges gives count moment faults changes script time status old new sink sink_now

  abbrev Ran : Result (String Global) StartFault → Bool → D → D → Type 0
  Ran text flushed old new = RunsScript gives count moment faults changes script time text flushed old new

  -- ---- a text

  module _ (text : String Global) (flushed : Bool) (status : ℕ) (old new : D) (sink sink_now : Option (List ℕ)) (r : Ran (Ok text) flushed old new) (w : WritesText flushed status (string_bytes text) sink sink_now) where
    tells : (Holds : List ℕ → Type 0) → Holds (string_bytes text) → TellsRun script (faults old) (moment old) r.start flushed (faults new) (moment new) r.turns Holds
    tells Holds holds = (string_bytes text, r.told, holds)

    ends_done : (flushed : Bool) → status ≡ flushed_status flushed → (status ≡ 0) ⊎ (status ≡ 8)
    ends_done true is = inl is
    ends_done false is = inr is

    not_written : {A : Type 0} (n : ℕ) → n ≢ 0 → n ≢ 7 → n ≢ 8 → status ≡ n → A
    not_written {A = A} n none seven eight is = by w.ends
      where
        by : (status ≡ flushed_status flushed) ⊎ (status ≡ 7) → A
        by (inl e) = of (ends_done flushed e)
          where
            of : (status ≡ 0) ⊎ (status ≡ 8) → A
            of (inl z) = absurd (none (sym is ∙ z))
            of (inr z) = absurd (eight (sym is ∙ z))
        by (inr e) = absurd (seven (sym is ∙ e))

    done_flushed : status ≡ 0 → flushed ≡ true
    done_flushed is = by w.ends
      where
        by : (status ≡ flushed_status flushed) ⊎ (status ≡ 7) → flushed ≡ true
        by (inl e) = flushed_zero flushed (sym e ∙ is)
        by (inr e) = absurd cc

    failed_unflushed : status ≡ 8 → flushed ≡ false
    failed_unflushed is = by w.ends
      where
        by : (status ≡ flushed_status flushed) ⊎ (status ≡ 7) → flushed ≡ false
        by (inl e) = flushed_eight flushed (sym e ∙ is)
        by (inr e) = absurd cc

    text_ends : (status ≡ 0) ⊎ ((status ≡ 3) ⊎ ((status ≡ 6) ⊎ ((status ≡ 7) ⊎ (status ≡ 8))))
    text_ends = by w.ends
      where
        of : (status ≡ 0) ⊎ (status ≡ 8) → (status ≡ 0) ⊎ ((status ≡ 3) ⊎ ((status ≡ 6) ⊎ ((status ≡ 7) ⊎ (status ≡ 8))))
        of (inl z) = inl z
        of (inr z) = inr (inr (inr (inr z)))

        by : (status ≡ flushed_status flushed) ⊎ (status ≡ 7) → (status ≡ 0) ⊎ ((status ≡ 3) ⊎ ((status ≡ 6) ⊎ ((status ≡ 7) ⊎ (status ≡ 8))))
        by (inl e) = of (ends_done flushed e)
        by (inr e) = inr (inr (inr (inl e)))

    pub text_answers : Answers status old new sink sink_now
    text_answers = record {
      turns = r.turns;
      start = r.start;
      flushed = flushed;
      ends = text_ends;
      runs = r.runs;
      mounts = λ is. r.mounts;
      done = λ is. (done_flushed is, tells (Appends sink sink_now) (w.whole (λ seven. cc)));
      refused = λ is. not_written 3 (λ e. cc) (λ e. cc) (λ e. cc) is;
      memory = λ is. not_written 6 (λ e. cc) (λ e. cc) (λ e. cc) is;
      part = λ is. inr (tells (AppendsPart sink sink_now) (w.part is));
      failed = λ is. inr (failed_unflushed is, tells (Appends sink sink_now) (w.whole (λ seven. cc)));
    }

  -- ---- a fault

  module _ (e : StartFault) (flushed : Bool) (status : ℕ) (old new : D) (sink sink_now : Option (List ℕ)) (r : Ran (Err e) flushed old new) where
    -- ---- a refusal

    module _ (refusal : Refusal) (w : WritesRefusal status refusal sink sink_now) (refuses : RefusesRun (count old) (gives old) refusal) (leaves : LeavesRefused gives changes old new) where
      tells_refusal : (Holds : List ℕ → Type 0) → Holds (refusal_line refusal) → TellsRefusal (count old) (gives old) Holds
      tells_refusal Holds holds = (refusal, refuses, holds)

      refusal_ends : (status ≡ 0) ⊎ ((status ≡ 3) ⊎ ((status ≡ 6) ⊎ ((status ≡ 7) ⊎ (status ≡ 8))))
      refusal_ends = by w.ends
        where
          by : (status ≡ 3) ⊎ ((status ≡ 6) ⊎ (status ≡ 7)) → (status ≡ 0) ⊎ ((status ≡ 3) ⊎ ((status ≡ 6) ⊎ ((status ≡ 7) ⊎ (status ≡ 8))))
          by (inl is) = inr (inl is)
          by (inr (inl is)) = inr (inr (inl is))
          by (inr (inr is)) = inr (inr (inr (inl is)))

      never : {A : Type 0} (n : ℕ) → n ≢ 3 → n ≢ 6 → n ≢ 7 → status ≡ n → A
      never {A = A} n three six seven is = by w.ends
        where
          by : (status ≡ 3) ⊎ ((status ≡ 6) ⊎ (status ≡ 7)) → A
          by (inl at) = absurd (three (sym is ∙ at))
          by (inr (inl at)) = absurd (six (sym is ∙ at))
          by (inr (inr at)) = absurd (seven (sym is ∙ at))

      refusal_answers : Answers status old new sink sink_now
      refusal_answers = record {
        turns = r.turns;
        start = r.start;
        flushed = flushed;
        ends = refusal_ends;
        runs = r.runs;
        mounts = λ is. never 0 (λ x. cc) (λ x. cc) (λ x. cc) is;
        done = λ is. never 0 (λ x. cc) (λ x. cc) (λ x. cc) is;
        refused = λ is. (leaves, tells_refusal (Appends sink sink_now) (w.whole is));
        memory = λ is. inr (tells_refusal (AppendsPart sink sink_now) (w.part (inl is)));
        part = λ is. inl (tells_refusal (AppendsPart sink sink_now) (w.part (inr is)));
        failed = λ is. never 8 (λ x. cc) (λ x. cc) (λ x. cc) is;
      }

    -- ---- nothing is written

    module _ (its : ℕ) (w : WritesNothing its status sink sink_now) where
      not_it : {A : Type 0} (n : ℕ) → n ≢ its → status ≡ n → A
      not_it n other is = absurd (other (sym is ∙ w.ends))

    memory_answers : WritesNothing 6 status sink sink_now → Answers status old new sink sink_now
    memory_answers w = record {
      turns = r.turns;
      start = r.start;
      flushed = flushed;
      ends = inr (inr (inl w.ends));
      runs = r.runs;
      mounts = λ is. not_it 6 w 0 (λ x. cc) is;
      done = λ is. not_it 6 w 0 (λ x. cc) is;
      refused = λ is. not_it 6 w 3 (λ x. cc) is;
      memory = λ is. inl w.same;
      part = λ is. not_it 6 w 7 (λ x. cc) is;
      failed = λ is. not_it 6 w 8 (λ x. cc) is;
    }

    device_answers : r.turns ≡ [] → WritesNothing 8 status sink sink_now → Answers status old new sink sink_now
    device_answers none w = record {
      turns = r.turns;
      start = r.start;
      flushed = flushed;
      ends = inr (inr (inr (inr w.ends)));
      runs = r.runs;
      mounts = λ is. not_it 8 w 0 (λ x. cc) is;
      done = λ is. not_it 8 w 0 (λ x. cc) is;
      refused = λ is. not_it 8 w 3 (λ x. cc) is;
      memory = λ is. not_it 8 w 6 (λ x. cc) is;
      part = λ is. not_it 8 w 7 (λ x. cc) is;
      failed = λ is. inl (w.same, none);
    }

  -- ---- what refuses

  on_sectors : (n : ℕ) (gave : Option (List (List ℕ))) (refusal : Refusal) → (n ≡ 0 → refusal ≡ Short 1 0) → ((n ≡ 0 → ⊥) → IfSome gave (λ first. mounted_of first ≡ Err refusal)) → IfSome (known_mount n gave) (λ m. m ≡ Err refusal)
  unfolding known_mount mounted_of
  on_sectors zero gave refusal empty refused = (let is = empty refl in rw is refl)
  on_sectors (suc n) None refusal empty refused = tt
  on_sectors (suc n) (Some first) refusal empty refused = refused (λ none. cc)

  same_refusal : (a b : Refusal) → starts.Refused a ≡ starts.Refused b → a ≡ b
  same_refusal a b is = cc

  refused_only : (e : StartFault) (flushed : Bool) (old new : D) → Ran (Err e) flushed old new → e ≢ starts.Memory → e ≢ starts.Device → LeavesRefused gives changes old new
  refused_only e flushed old new r memory device = by (r.stopped memory).0
    where
      by : StopsRun gives count moment faults changes e old new → LeavesRefused gives changes old new
      by (inl (fails, counts)) = record {
        same = (fails.unwritten device).same;
        writes = (fails.unwritten device).writes;
        known = known (gives old) fails.read;
      }
        where
          known : (gave : Option (List (List ℕ))) → IfSome gave (λ first. e ≢ starts.Device → e ≢ starts.Memory → KeepsDevice gives count changes faults moment old new) → IfSome gave (λ first. changes new ≡ changes old)
          known None read = tt
          known (Some first) read = (read device memory).unchanged
      by (inr (same, why)) = record { same = ap gives same; writes = ap (λ (d : D). (changes d).writes) same; known = known (gives old) }
        where
          known : (gave : Option (List (List ℕ))) → IfSome gave (λ first. changes new ≡ changes old)
          known None = tt
          known (Some first) = ap changes same

  refuses_mount : (refusal : Refusal) (flushed : Bool) (old new : D) → Ran (Err (starts.Refused refusal)) flushed old new → RefusesRun (count old) (gives old) refusal
  refuses_mount refusal flushed old new r = inl (on_sectors (count old) (gives old) refusal (λ none. by_empty (r.empty none)) (λ some. by some (r.stopped (λ x. cc)).0))
    where
      by_empty : (starts.Refused refusal ≡ starts.Memory) ⊎ (starts.Refused refusal ≡ starts.Refused (Short 1 0)) → refusal ≡ Short 1 0
      by_empty (inl is) = absurd cc
      by_empty (inr is) = same_refusal refusal (Short 1 0) is

      known : (gave : Option (List (List ℕ))) → IfSome gave (λ first. (q : Refusal) → starts.Refused refusal ≡ starts.Refused q → mounted_of first ≡ Err q) → IfSome gave (λ first. mounted_of first ≡ Err refusal)
      known None refused = tt
      known (Some first) refused = refused refusal refl

      by : (count old ≡ 0 → ⊥) → StopsRun gives count moment faults changes (starts.Refused refusal) old new → IfSome (gives old) (λ first. mounted_of first ≡ Err refusal)
      by some (inl (fails, counts)) = known (gives old) fails.refused
      by some (inr (same, inl (device, last))) = absurd cc
      by some (inr (same, inr (is, none))) = absurd (some none)

  refuses_unfit : (flushed : Bool) (old new : D) → Ran (Err starts.Unfit) flushed old new → RefusesRun (count old) (gives old) (Unbuilt 8)
  refuses_unfit flushed old new r = inr (inl (refl, by (r.stopped (λ x. cc)).0))
    where
      known : (gave : Option (List (List ℕ))) → IfSome gave (λ first. UnfitAs first starts.Unfit) → IfSome gave UnfitOn
      known None unfit = tt
      known (Some first) unfit = unfit refl

      by : StopsRun gives count moment faults changes starts.Unfit old new → IfSome (gives old) UnfitOn
      by (inl (fails, counts)) = known (gives old) fails.unfit
      by (inr (same, inl (device, last))) = absurd cc
      by (inr (same, inr (is, none))) = absurd cc

  refuses_unknown : (flushed : Bool) (old new : D) → Ran (Err starts.Unknown) flushed old new → RefusesRun (count old) (gives old) (Unbuilt 9)
  refuses_unknown flushed old new r = inr (inr (refl, by (r.stopped (λ x. cc)).0))
    where
      known : (gave : Option (List (List ℕ))) → IfSome gave (λ first. UnknownAs (count old) first starts.Unknown) → IfSome gave (UnknownOn (count old))
      known None unknown = tt
      known (Some first) unknown = unknown refl

      by : StopsRun gives count moment faults changes starts.Unknown old new → IfSome (gives old) (UnknownOn (count old))
      by (inl (fails, counts)) = known (gives old) fails.unknown
      by (inr (same, inl (device, last))) = absurd cc
      by (inr (same, inr (is, none))) = absurd cc

  -- ---- what a fault is answered

  fault_answers : (e : StartFault) (flushed : Bool) (status : ℕ) (old new : D) (sink sink_now : Option (List ℕ)) → Ran (Err e) flushed old new → WritesFault e status sink sink_now → Answers status old new sink sink_now
  fault_answers (starts.Refused refusal) flushed status old new sink sink_now r w =
      refusal_answers (starts.Refused refusal) flushed status old new sink sink_now r refusal w (refuses_mount refusal flushed old new r) (refused_only (starts.Refused refusal) flushed old new r (λ x. cc) (λ x. cc))
  fault_answers starts.Unfit flushed status old new sink sink_now r w =
      refusal_answers starts.Unfit flushed status old new sink sink_now r (Unbuilt 8) w (refuses_unfit flushed old new r) (refused_only starts.Unfit flushed old new r (λ x. cc) (λ x. cc))
  fault_answers starts.Unknown flushed status old new sink sink_now r w =
      refusal_answers starts.Unknown flushed status old new sink sink_now r (Unbuilt 9) w (refuses_unknown flushed old new r) (refused_only starts.Unknown flushed old new r (λ x. cc) (λ x. cc))
  fault_answers starts.Memory flushed status old new sink sink_now r w = memory_answers starts.Memory flushed status old new sink sink_now r w
  fault_answers starts.Device flushed status old new sink sink_now r w = device_answers starts.Device flushed status old new sink sink_now r (r.stopped (λ x. cc)).1 w

  -- ---- the causes of faults

  rose_more : (a b now : ℕ) → a ≤ b → Rose b now → Rose a now
  rose_more a b now le rose = omega (arith, le, rose)

  failed_more : (a b now end : ℕ) → a ≤ b → HasFailed b now end → HasFailed a now end
  failed_more a b now end le (inl rose) = inl (rose_more a b now le rose)
  failed_more a b now end le (inr over) = inr over

  text_causes : (text : String Global) (flushed : Bool) (status : ℕ) (old new : D) (sink sink_now : Option (List ℕ)) → Ran (Ok text) flushed old new → WritesText flushed status (string_bytes text) sink sink_now → HasRunCauses status faults moment old new
  text_causes text flushed status old new sink sink_now r w = record {
    failed = λ is.
        let told = r.told in
        let later = told.later in
        let more = told.taken.later in
        failed_more (faults old) told.behind (faults new) (moment new) (omega (arith, later, more)) (told.failed (failed_unflushed text flushed status old new sink sink_now r w is));
    counted = λ early is. elim is [
      | inl three ↦ not_written text flushed status old new sink sink_now r w 3 (λ x. cc) (λ x. cc) (λ x. cc) three
      | inr other ↦ elim other [ inl four ↦ not_written text flushed status old new sink sink_now r w 4 (λ x. cc) (λ x. cc) (λ x. cc) four | inr five ↦ not_written text flushed status old new sink sink_now r w 5 (λ x. cc) (λ x. cc) (λ x. cc) five ]
    ];
    later = r.later;
  }

  -- the status of a refusal
  refusal_status : (status : ℕ) (refusal : Refusal) (sink sink_now : Option (List ℕ)) → WritesRefusal status refusal sink sink_now → status ≢ 8
  refusal_status status refusal sink sink_now w is = by w.ends
    where
      by : (status ≡ 3) ⊎ ((status ≡ 6) ⊎ (status ≡ 7)) → ⊥
      by (inl at) = (let bad : 3 ≡ 8 = sym at ∙ is in cc)
      by (inr (inl at)) = (let bad : 6 ≡ 8 = sym at ∙ is in cc)
      by (inr (inr at)) = (let bad : 7 ≡ 8 = sym at ∙ is in cc)

  failed_status : (e : StartFault) (status : ℕ) (sink sink_now : Option (List ℕ)) → WritesFault e status sink sink_now → status ≡ 8 → e ≡ starts.Device
  failed_status (starts.Refused refusal) status sink sink_now w is = absurd (refusal_status status refusal sink sink_now w is)
  failed_status starts.Unfit status sink sink_now w is = absurd (refusal_status status (Unbuilt 8) sink sink_now w is)
  failed_status starts.Unknown status sink sink_now w is = absurd (refusal_status status (Unbuilt 9) sink sink_now w is)
  failed_status starts.Memory status sink sink_now w is = absurd (let bad : 6 ≡ 8 = sym w.ends ∙ is in cc)
  failed_status starts.Device status sink sink_now w is = refl

  device_failed : (e : StartFault) (flushed : Bool) (old new : D) → Ran (Err e) flushed old new → e ≡ starts.Device → HasFailed (faults old) (faults new) (moment new)
  device_failed e flushed old new r is = by (r.stopped (λ memory. (let bad : starts.Device ≡ starts.Memory = sym is ∙ memory in cc))).0
    where
      by : StopsRun gives count moment faults changes e old new → HasFailed (faults old) (faults new) (moment new)
      by (inl (fails, counts)) = fails.fault is
      by (inr (same, inl (device, last))) = inr (let at : moment new ≡ moment old = ap moment same in omega (arith, at, last))
      by (inr (same, inr (refused, none))) = absurd (let bad : starts.Device ≡ starts.Refused (Short 1 0) = sym is ∙ refused in cc)

  -- a refusal, or want of memory before a run, counts no failure
  count_same : (e : StartFault) → e ≢ starts.Memory → e ≢ starts.Device → (old new : D) → CountsCauseOnDevice (faults old) (faults new) (moment new) (count_cause e) → faults new ≡ faults old
  count_same (starts.Refused refusal) memory device old new counts = counts
  count_same starts.Unfit memory device old new counts = counts
  count_same starts.Unknown memory device old new counts = counts
  count_same starts.Memory memory device old new counts = absurd (memory refl)
  count_same starts.Device memory device old new counts = absurd (device refl)

  refused_counts : (e : StartFault) (flushed : Bool) (old new : D) → Ran (Err e) flushed old new → e ≢ starts.Memory → e ≢ starts.Device → moment old < last_moment → faults new ≡ faults old
  refused_counts e flushed old new r memory device early = by (r.stopped memory).0
    where
      by : StopsRun gives count moment faults changes e old new → faults new ≡ faults old
      by (inl (fails, counts)) = count_same e memory device old new (counts early)
      by (inr (same, why)) = ap faults same

  three_only : (e : StartFault) (status n : ℕ) (sink sink_now : Option (List ℕ)) → WritesFault e status sink sink_now → status ≡ n → (n ≡ 3) ⊎ ((n ≡ 4) ⊎ (n ≡ 5)) → (e ≢ starts.Memory) × (e ≢ starts.Device)
  three_only (starts.Refused refusal) status n sink sink_now w is at = ((λ x. cc), (λ x. cc))
  three_only starts.Unfit status n sink sink_now w is at = ((λ x. cc), (λ x. cc))
  three_only starts.Unknown status n sink sink_now w is at = ((λ x. cc), (λ x. cc))
  three_only starts.Memory status n sink sink_now w is at = absurd (let six : status ≡ 6 = w.ends in elim at [ inl a ↦ omega (arith, a, is, six) | inr b ↦ elim b [ inl a ↦ omega (arith, a, is, six) | inr a ↦ omega (arith, a, is, six) ] ])
  three_only starts.Device status n sink sink_now w is at = absurd (let eight : status ≡ 8 = w.ends in elim at [ inl a ↦ omega (arith, a, is, eight) | inr b ↦ elim b [ inl a ↦ omega (arith, a, is, eight) | inr a ↦ omega (arith, a, is, eight) ] ])

  fault_causes : (e : StartFault) (flushed : Bool) (status : ℕ) (old new : D) (sink sink_now : Option (List ℕ)) → Ran (Err e) flushed old new → WritesFault e status sink sink_now → HasRunCauses status faults moment old new
  fault_causes e flushed status old new sink sink_now r w = record {
    failed = λ is. device_failed e flushed old new r (failed_status e status sink sink_now w is);
    counted = λ early is. (let other = three_only e status status sink sink_now w refl is in refused_counts e flushed old new r other.0 other.1 early);
    later = r.later;
  }

  -- ---- what is left

  text_leaves : (text : String Global) (flushed : Bool) (status : ℕ) (old new : D) (sink sink_now : Option (List ℕ)) → Ran (Ok text) flushed old new → WritesText flushed status (string_bytes text) sink sink_now → LeavesRun status gives changes old new
  text_leaves text flushed status old new sink sink_now r w = record {
    unread = λ is. elim is [ inl four ↦ not_written text flushed status old new sink sink_now r w 4 (λ x. cc) (λ x. cc) (λ x. cc) four | inr five ↦ not_written text flushed status old new sink sink_now r w 5 (λ x. cc) (λ x. cc) (λ x. cc) five ];
    refused = λ is. not_written text flushed status old new sink sink_now r w 3 (λ x. cc) (λ x. cc) (λ x. cc) is;
  }

  -- no fault of a start is answered by the statuses of a script that is refused
  no_script_status : {A : Type 0} (e : StartFault) (status n : ℕ) (sink sink_now : Option (List ℕ)) → WritesFault e status sink sink_now → status ≡ n → (n ≡ 4) ⊎ (n ≡ 5) → A
  no_script_status (starts.Refused refusal) status n sink sink_now w is at = absurd (refused_low status n w.ends is at)
  no_script_status starts.Unfit status n sink sink_now w is at = absurd (refused_low status n w.ends is at)
  no_script_status starts.Unknown status n sink sink_now w is at = absurd (refused_low status n w.ends is at)
  no_script_status starts.Memory status n sink sink_now w is at = absurd (let six : status ≡ 6 = w.ends in elim at [ inl a ↦ omega (arith, a, is, six) | inr a ↦ omega (arith, a, is, six) ])
  no_script_status starts.Device status n sink sink_now w is at = absurd (let eight : status ≡ 8 = w.ends in elim at [ inl a ↦ omega (arith, a, is, eight) | inr a ↦ omega (arith, a, is, eight) ])

  fault_leaves : (e : StartFault) (flushed : Bool) (status : ℕ) (old new : D) (sink sink_now : Option (List ℕ)) → Ran (Err e) flushed old new → WritesFault e status sink sink_now → LeavesRun status gives changes old new
  fault_leaves e flushed status old new sink sink_now r w = record {
    unread = λ is. no_script_status e status status sink sink_now w refl is;
    refused = λ is. (let other = three_only e status status sink sink_now w refl (inl is) in refused_only e flushed old new r other.0 other.1);
  }

  -- ---- both

  pub ran_answers : (text : Result (String Global) StartFault) (flushed : Bool) (status : ℕ) (old new : D) (sink sink_now : Option (List ℕ)) → Ran text flushed old new → WritesRan text flushed status sink sink_now → Answers status old new sink sink_now
  ran_answers (Ok text) flushed status old new sink sink_now r w = text_answers text flushed status old new sink sink_now r w
  ran_answers (Err e) flushed status old new sink sink_now r w = fault_answers e flushed status old new sink sink_now r w

  pub ran_causes : (text : Result (String Global) StartFault) (flushed : Bool) (status : ℕ) (old new : D) (sink sink_now : Option (List ℕ)) → Ran text flushed old new → WritesRan text flushed status sink sink_now → HasRunCauses status faults moment old new
  ran_causes (Ok text) flushed status old new sink sink_now r w = text_causes text flushed status old new sink sink_now r w
  ran_causes (Err e) flushed status old new sink sink_now r w = fault_causes e flushed status old new sink sink_now r w

  pub ran_leaves : (text : Result (String Global) StartFault) (flushed : Bool) (status : ℕ) (old new : D) (sink sink_now : Option (List ℕ)) → Ran text flushed old new → WritesRan text flushed status sink sink_now → LeavesRun status gives changes old new
  ran_leaves (Ok text) flushed status old new sink sink_now r w = text_leaves text flushed status old new sink sink_now r w
  ran_leaves (Err e) flushed status old new sink sink_now r w = fault_leaves e flushed status old new sink sink_now r w
