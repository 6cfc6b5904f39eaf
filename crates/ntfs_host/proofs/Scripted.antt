-- What a run is answered, by whether its source has a script.
use Rattle.std.proofs.Common.{◌≡◌, ◌⊎◌, ℕ, Bool, true, false, List, Option, Some, None, Result, Ok, Err, refl, sym, subst, inl, inr, arith}
use Rattle.std.specs.Prelude.{IfSome, IsSomeAnd, IsErrAnd, IsOk}
use Rattle.std.specs.Io.KnownBytes.{Appends}
use Rattle.host_base.specs.Causes.{AppendsPart}
use Rattle.sector_device.specs.Moments.{Changes}
use Rattle.tree_model.specs.declared.script.Command.{Command}
use Rattle.script_text.specs.declared.fault.ScriptFault.{ScriptFault}
use Rattle.script_text.specs.Scripts.{script_of}
use Rattle.volume_run.specs.image_open.declared.refusal.Refusal.{Refusal}
use Rattle.volume_run.specs.volume_mount.Mounts.{MountedVolume}
use Rattle.host_base.specs.Answers.{ExplainsOrFails}
use Rattle.ntfs_host.specs.declared.scripts.ScriptError.{ScriptError}
use Rattle.ntfs_host.specs.declared.scripts.ScriptError.TheVariants as errors
use Rattle.ntfs_host.specs.Answers.{known_mount}
use Rattle.ntfs_host.specs.Scripts.{script_line, script_error_cause, IsReadWhole, ReadsWhole, LosesAtMost}
use Rattle.ntfs_host.specs.Outcomes.{RunsInOrder}
use Rattle.ntfs_host.specs.Runs.{WritesNothing, WritesScriptFault, WritesNoScript, CallsForLine, AnswersNoScript, AnswersScript, NothingRefuses, MayRun, only_looks}

-- ---- without a script

-- what refuses the bytes that a source has left
abbrev RefusesBytes : ScriptFault → List ℕ → Type 0
RefusesBytes fault bytes = script_of bytes ≡ Err fault

module _ (left sink sink_now : Option (List ℕ)) where
  abbrev Answers : ℕ → Type 0
  Answers status = AnswersNoScript status left sink sink_now

  told : (fault : ScriptFault) → IfSome left (RefusesBytes fault) → (Holds : List ℕ → Type 0) → Holds (script_line fault) → IfSome left (λ bytes. IsErrAnd (script_of bytes) (λ f. Holds (script_line f)))
  told fault refuses Holds holds = go left refuses
    where
      go : (l : Option (List ℕ)) → IfSome l (RefusesBytes fault) → IfSome l (λ bytes. IsErrAnd (script_of bytes) (λ f. Holds (script_line f)))
      go (Some bytes) is = subst (λ r. IsErrAnd r (λ f. Holds (script_line f))) (sym is) holds
      go None is = is

  line_answers : (fault : ScriptFault) (status : ℕ) → IfSome left (RefusesBytes fault) → WritesScriptFault status fault sink sink_now → Answers status
  line_answers fault status refuses w = go w.ends
    where
      front : AppendsPart sink sink_now (script_line fault) → IfSome left (λ bytes. IsErrAnd (script_of bytes) (λ f. AppendsPart sink sink_now (script_line f)))
      front p = told fault refuses (AppendsPart sink sink_now) p

      go : (status ≡ 4) ⊎ ((status ≡ 6) ⊎ (status ≡ 7)) → Answers status
      go (inl at) = record { ends = inl at; refused = λ _. told fault refuses (Appends sink sink_now) (w.whole at); silent = λ five. absurd cc; memory = λ six. absurd cc; part = λ seven. absurd cc }
      go (inr (inl at)) = record { ends = inr (inr (inl at)); refused = λ four. absurd cc; silent = λ five. absurd cc; memory = λ _. inr (front (w.part (inl at))); part = λ seven. absurd cc }
      go (inr (inr at)) = record { ends = inr (inr (inr at)); refused = λ four. absurd cc; silent = λ five. absurd cc; memory = λ six. absurd cc; part = λ _. front (w.part (inr at)) }

  memory_answers : (status : ℕ) → WritesNothing 6 status sink sink_now → Answers status
  memory_answers status w = record { ends = inr (inr (inl w.ends)); refused = λ four. absurd (let is = w.ends in cc); silent = λ five. absurd (let is = w.ends in cc); memory = λ _. inl w.same; part = λ seven. absurd (let is = w.ends in cc) }

  failed_answers : (status : ℕ) → WritesNothing 5 status sink sink_now → Answers status
  failed_answers status w = record { ends = inr (inl w.ends); refused = λ four. absurd (let is = w.ends in cc); silent = λ _. w.same; memory = λ six. absurd (let is = w.ends in cc); part = λ seven. absurd (let is = w.ends in cc) }

  pub none_answers : (error : ScriptError) (status : ℕ) → IfSome left (λ bytes. ExplainsOrFails (script_error_cause error) (script_of bytes)) → WritesNoScript error status sink sink_now → Answers status
  none_answers (errors.Refused fault) status refuses w = line_answers fault status refuses w
  none_answers errors.Memory status refuses w = memory_answers status w
  none_answers errors.Source status refuses w = failed_answers status w

-- ---- the order of calls

module _ {S K D : Type 0} (left : S → Option (List ℕ)) (source source_now : S) (sink sink_now : K) (device : D) (taken : K → Option (List ℕ)) (most : LosesAtMost 16777217 (left source) (left source_now)) where
  none_ends : (error : ScriptError) (status : ℕ) → WritesNoScript error status (taken sink) (taken sink_now) → (status ≡ 4) ⊎ ((status ≡ 5) ⊎ ((status ≡ 6) ⊎ (status ≡ 7)))
  none_ends (errors.Refused fault) status w = by w.ends
    where
      by : (status ≡ 4) ⊎ ((status ≡ 6) ⊎ (status ≡ 7)) → (status ≡ 4) ⊎ ((status ≡ 5) ⊎ ((status ≡ 6) ⊎ (status ≡ 7)))
      by (inl is) = inl is
      by (inr is) = inr (inr is)
  none_ends errors.Memory status w = inr (inr (inl w.ends))
  none_ends errors.Source status w = inr (inl w.ends)

  unaccepted : (status : ℕ) → (status ≡ 4) ⊎ ((status ≡ 5) ⊎ ((status ≡ 6) ⊎ (status ≡ 7))) → (status ≡ 0) ⊎ ((status ≡ 3) ⊎ (status ≡ 8)) → ⊥
  unaccepted status (inl a) (inl b) = omega (arith, a, b)
  unaccepted status (inl a) (inr (inl b)) = omega (arith, a, b)
  unaccepted status (inl a) (inr (inr b)) = omega (arith, a, b)
  unaccepted status (inr (inl a)) (inl b) = omega (arith, a, b)
  unaccepted status (inr (inl a)) (inr (inl b)) = omega (arith, a, b)
  unaccepted status (inr (inl a)) (inr (inr b)) = omega (arith, a, b)
  unaccepted status (inr (inr (inl a))) (inl b) = omega (arith, a, b)
  unaccepted status (inr (inr (inl a))) (inr (inl b)) = omega (arith, a, b)
  unaccepted status (inr (inr (inl a))) (inr (inr b)) = omega (arith, a, b)
  unaccepted status (inr (inr (inr a))) (inl b) = omega (arith, a, b)
  unaccepted status (inr (inr (inr a))) (inr (inl b)) = omega (arith, a, b)
  unaccepted status (inr (inr (inr a))) (inr (inr b)) = omega (arith, a, b)

  read_whole : (error : ScriptError) (status : ℕ) → WritesNoScript error status (taken sink) (taken sink_now) → ReadsWhole {A = List Command} (Err error) (left source) (left source_now) → (status ≡ 4) ⊎ (status ≡ 7) → IsReadWhole (left source) (left source_now)
  read_whole (errors.Refused fault) status w whole is = whole
  read_whole errors.Memory status w whole (inl is) = absurd (let at = w.ends in cc)
  read_whole errors.Memory status w whole (inr is) = absurd (let at = w.ends in cc)
  read_whole errors.Source status w whole (inl is) = absurd (let at = w.ends in cc)
  read_whole errors.Source status w whole (inr is) = absurd (let at = w.ends in cc)

  after : (error : ScriptError) → CallsForLine error sink sink_now → ReadsWhole {A = List Command} (Err error) (left source) (left source_now) → (sink_now ≡ sink) ⊎ IsReadWhole (left source) (left source_now)
  after (errors.Refused fault) calls whole = inr whole
  after errors.Memory calls whole = inl calls
  after errors.Source calls whole = inl calls

  pub none_order : (error : ScriptError) (status : ℕ)
      → WritesNoScript error status (taken sink) (taken sink_now)
      → CallsForLine error sink sink_now
      → ReadsWhole {A = List Command} (Err error) (left source) (left source_now)
      → RunsInOrder status left source source_now sink sink_now device device
  none_order error status w calls whole = record {
    accepted = λ is. absurd (unaccepted status (none_ends error status w) is);
    whole = read_whole error status w whole;
    sink_after = after error calls whole;
    device_after = inl refl;
    most_read = most;
    untouched = λ _. refl;
  }

-- ---- with one that nothing refuses

module _ {D : Type 0} (gives : D → Option (List (List ℕ))) (count moment faults : D → ℕ) (changes : D → Changes) (script : List Command) (time status : ℕ) (old new : D) (sink sink_now : Option (List ℕ)) where
  abbrev Ends : Type 0
  Ends = (status ≡ 0) ⊎ ((status ≡ 5) ⊎ ((status ≡ 6) ⊎ ((status ≡ 7) ⊎ (status ≡ 8))))

  ends : (status ≡ 0) ⊎ ((status ≡ 3) ⊎ ((status ≡ 6) ⊎ ((status ≡ 7) ⊎ (status ≡ 8)))) → (status ≡ 3 → ⊥) → Ends
  ends (inl is) never = inl is
  ends (inr (inl is)) never = absurd (never is)
  ends (inr (inr (inl is))) never = inr (inr (inl is))
  ends (inr (inr (inr (inl is)))) never = inr (inr (inr (inl is)))
  ends (inr (inr (inr (inr is)))) never = inr (inr (inr (inr is)))

  mounted : (m : Option (Result MountedVolume Refusal)) (Holds : Refusal → Type 0) → IsSomeAnd m IsOk → IfSome m (λ r. IsErrAnd r Holds) → ⊥
  mounted (Some (Ok volume)) Holds is refused = refused
  mounted (Some (Err refusal)) Holds is refused = absurd cc
  mounted None Holds is refused = is

  unrefused : (b : Bool) → AnswersScript gives count moment faults changes script b time status old new sink sink_now → NothingRefuses (count old) (gives old) b → Ends
  unrefused true a nothing = ends a.0.ends (λ three. mounted (known_mount (count old) (gives old)) _ nothing (a.0.refused three))
  unrefused false a nothing = ends a.ends (λ three. (let told = (a.refused three).1 in nothing told.0 told.1))

  may_run : (left : Option (List ℕ)) → IfSome left (λ bytes. script_of bytes ≡ Ok script) → IsSomeAnd left (λ bytes. MayRun (count old) (gives old) (script_of bytes)) → NothingRefuses (count old) (gives old) (only_looks script)
  may_run (Some bytes) is may = subst (λ r. MayRun (count old) (gives old) r) is may
  may_run None is may = absurd may

  pub whole_run : (left : Option (List ℕ)) → IfSome left (λ bytes. script_of bytes ≡ Ok script) → AnswersScript gives count moment faults changes script (only_looks script) time status old new sink sink_now → IsSomeAnd left (λ bytes. MayRun (count old) (gives old) (script_of bytes)) → Ends
  whole_run left is answers may = unrefused (only_looks script) answers (may_run left is may)
