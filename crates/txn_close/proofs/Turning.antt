-- What one step of a store does to its marks, to its window and to the moment.
use Rattle.std.proofs.Common.{◌≡◌, subst, ℕ, zero, suc, ◌+◌, ◌/◌, ◌≤◌, Bool, true, false, cond, List, Option, Some, None, Result, Ok, Err, refl, sym, ap, ◌∙◌, inl, inr, arith}
use Rattle.std.specs.Prelude.{◌&&◌, if◌then◌else◌, is_ok, is_some, nat_le, nat_lt}
use Rattle.std.proofs.Math.Nat.{div-zero, div-mul-le_self}
use Rattle.std.proofs.lemmas.Nat.{le-div}
use Rattle.host_base.specs.Causes.{last_moment}
use Rattle.host_base.specs.declared.outside.Failed.{Failed}
use Rattle.disk_model.specs.declared.block.Block.{Block}
use Rattle.disk_model.specs.declared.block.Body.{Body}
use Rattle.disk_model.specs.Sectors.{same_block, are_rivals}
use Rattle.sector_device.specs.Moments.{moment_after, Changes, Syncs}
use Rattle.found_stays.specs.log_area.declared.restart.SentRestart.{SentRestart}
use Rattle.found_stays.specs.log_area.Areas.{LogAreaOf, ring_size, is_filling, fits, lap_at, next_number, sealed_area}
use Rattle.found_stays.specs.log_area.Calls.{sending_moment, IsSentOrNot}
use Rattle.store_claims.specs.Windows.{StoreWindow}
use Rattle.store_model.proofs.Told.{true≢false}
use Rattle.flush_policy.specs.declared.facts.StoreStep.{StoreStep}
use Rattle.flush_policy.specs.declared.facts.StoreStep.TheVariants.{SealPage, WritePage, SyncDevice, WriteOut, BeginCheckpoint, WriteRestart}
use Rattle.found_stays.specs.txn_model.declared.mark.Mark.{Mark}
use Rattle.found_stays.specs.txn_model.Values.{StoreFacts}
use Rattle.found_stays.specs.txn_model.Calls.{is_ready, is_buried}
use Rattle.found_stays.specs.txn_laws.Windows.{lap_behind, AfterWrite, MovesTo}
use Rattle.found_stays.proofs.txn_laws.PageWrites.{sends_later}
use Rattle.found_stays.specs.device_blocks.declared.word.CheckWord.{CheckWord}
use Rattle.found_stays.specs.device_blocks.declared.word.CheckWord.TheVariants.{Unread, Missing, Stands, Sent}
use Rattle.found_stays.specs.device_blocks.Words.{known_word}
use Rattle.found_stays.specs.device_blocks.Calls.{IsPutOrNot, IsPutAgainOrNot}
use Rattle.found_stays.specs.txn_core.Calls.{out_facts, is_spelled, AfterSync, sync_facts, WritesOut}
use Rattle.found_stays.specs.txn_core.Steps.{MayTurn, HasTurned, TurnsDevice, AfterTurn}
use Rattle.found_stays.proofs.txn_core.Outs.{ready_dirty}
use Rattle.found_stays.specs.txn_state.States.{facts_of}
use Rattle.found_stays.specs.txn_laws.Windows.{AfterGiveUp}
use Rattle.found_stays.specs.txn_core.Seen.{Seen, TakesStepAs, TakesStep}
use Rattle.found_stays.specs.txn_core.Turns.{restart_facts, SendsRestartPage}
use Rattle.found_stays.proofs.txn_core.AfterCalls.{out_log}
use Rattle.txn_close.specs.Passing.{IsSpared, Spares, BeginsNoPage, Fewer, GoesAs, Goes}
use Rattle.found_stays.proofs.Bearing.{none_stays}
use Rattle.found_stays.proofs.Writing.{sync_stays}
use Rattle.found_stays.proofs.Turning.{restart_stays, turn_stays, window_machine}
use Rattle.txn_close.proofs.Passing.{fewer_same, goes_step}

-- ---- marks

-- a mark of three kinds of blocks: the block itself, its rivals, and others
of_three : (test : Mark → Bool) (t r : Bool) (own rival m : Mark) → (test own ≡ true → test m ≡ true) → (test rival ≡ true → test m ≡ true) → test (cond t own (cond r rival m)) ≡ true → test m ≡ true
of_three test true r own rival m one two is = one is
of_three test false true own rival m one two is = two is
of_three test false false own rival m one two is = is

of_two : (test : Mark → Bool) (t : Bool) (own m : Mark) → (test own ≡ true → test m ≡ true) → test (cond t own m) ≡ true → test m ≡ true
of_two test true own m one is = one is
of_two test false own m one is = is

never : {A : Type 0} → false ≡ true → A
never is = absurd (true≢false (sym is))

abbrev is_dirty : Mark → Bool
is_dirty m = m.dirty

abbrev is_dead : Mark → Bool
is_dead m = m.dead

fewer_out : (spells ok : Bool) (now : CheckWord) (b : Block) (f : StoreFacts) → Fewer f (out_facts spells ok now b f)
fewer_out true true now b f = record {
  dirty = λ c is. of_three is_dirty (same_block c b) (are_rivals b c) _ _ (f.mark c) (λ no_more. never no_more) (λ same. same) is;
  dead = λ c is. of_three is_dead (same_block c b) (are_rivals b c) _ _ (f.mark c) (λ same. same) (λ no_more. never no_more) is;
}
fewer_out true false (Sent check) b f = record {
  dirty = λ c is. of_three is_dirty (same_block c b) (are_rivals b c) _ _ (f.mark c) (λ same. same) (λ same. same) is;
  dead = λ c is. of_three is_dead (same_block c b) (are_rivals b c) _ _ (f.mark c) (λ same. same) (λ no_more. never no_more) is;
}
fewer_out true false Unread b f = fewer_same f
fewer_out true false Missing b f = fewer_same f
fewer_out true false (Stands check) b f = fewer_same f
fewer_out false true now b f = record {
  dirty = λ c is. of_two is_dirty (same_block c b) _ (f.mark c) (λ no_more. never no_more) is;
  dead = λ c is. of_two is_dead (same_block c b) _ (f.mark c) (λ same. same) is;
}
fewer_out false false now b f = fewer_same f

left_of : (a b : Bool) → (a && b) ≡ true → a ≡ true
left_of true b is = refl
left_of false b is = is

pub fewer_synced : (result : Result (Unit {0}) Failed) (f : StoreFacts) → Fewer f (sync_facts result f)
fewer_synced (Ok tt) f = record { dirty = λ b is. is; dead = λ b is. left_of (f.mark b).dead _ is }
fewer_synced (Err e) f = fewer_same f

abbrev at_facts : (f g h : StoreFacts) → g ≡ h → Fewer f h → Fewer f g
at_facts f g h is fewer = subst (λ (x : StoreFacts). Fewer f x) (sym is) fewer

same_marks : (f g : StoreFacts) → ((b : Block) → g.mark b ≡ f.mark b) → Fewer f g
same_marks f g same = record { dirty = λ b is. ap is_dirty (sym (same b)) ∙ is; dead = λ b is. ap is_dead (sym (same b)) ∙ is }

pub fewer_turned : (step : StoreStep) (result : Result (Unit {0}) Failed) (f g : StoreFacts) → HasTurned step result f g → Fewer f g
fewer_turned SealPage result f g turned = at_facts f g _ turned.1 (record { dirty = λ b is. is; dead = λ b is. is })
fewer_turned WritePage (Ok tt) f g turned = at_facts f g _ turned (record { dirty = λ b is. is; dead = λ b is. is })
fewer_turned WritePage (Err e) f g turned = at_facts f g _ turned (record { dirty = λ b is. is; dead = λ b is. is })
fewer_turned SyncDevice result f g turned = at_facts f g _ turned (fewer_synced result f)
fewer_turned (WriteOut b) result f g turned = at_facts f g _ turned.1 (fewer_out (is_spelled f b) (is_ok result) turned.0 b f)
fewer_turned BeginCheckpoint result f g turned = at_facts f g _ turned.1 (record { dirty = λ b is. is; dead = λ b is. is })
fewer_turned WriteRestart (Ok tt) f g turned = at_facts f g _ turned (record { dirty = λ b is. is; dead = λ b is. is })
fewer_turned WriteRestart (Err e) f g turned = at_facts f g _ turned (record { dirty = λ b is. is; dead = λ b is. is })

-- ---- windows

pub spares_written : (base : StoreFacts) (w v : StoreWindow) → AfterWrite w v → Spares base w v
spares_written base w v after = subst (λ (u : StoreWindow). Spares base w u) (sym after.same) (record { waiting = omega arith; others = λ k le b spared. refl; claims = λ k b is. is; kept = λ k le b is. refl })

spares_moved : (base : StoreFacts) (lost : Block → Bool) (w v : StoreWindow) → ((b : Block) → IsSpared base b → lost b ≡ false) → MovesTo lost w v → Spares base w v
spares_moved base lost w v none moved = record { waiting = moved.waiting; others = λ k le b spared. moved.others k le b (none b spared); claims = moved.claimed.claims; kept = moved.kept }

not_buried : (done : ℕ) (m : Mark) → m.dead ≡ false → is_buried done m ≡ false
not_buried done m alive = ap (λ (t : Bool). t && nat_le m.killed done) alive

dead_not : (base f : StoreFacts) → Fewer base f → (b : Block) → IsSpared base b → (f.mark b).dead ≡ false
dead_not base f fewer b spared = by (f.mark b).dead refl
  where
    by : (t : Bool) → (f.mark b).dead ≡ t → t ≡ false
    by true is = absurd (true≢false (sym (fewer.dead b is) ∙ spared.alive))
    by false is = refl

pub spares_synced : (base f : StoreFacts) (result : Result (Unit {0}) Failed) → Fewer base f → (w v : StoreWindow) → AfterSync result f w v → Spares base w v
spares_synced base f (Ok tt) fewer w v moved = spares_moved base _ w v (λ b spared. not_buried f.log.done (f.mark b) (dead_not base f fewer b spared)) moved
spares_synced base f (Err e) fewer w v after = spares_written base w v after

no_rival : (base f : StoreFacts) (c : Block) → Fewer base f → is_ready f c ≡ true → (b : Block) → IsSpared base b → are_rivals c b ≡ false
no_rival base f c fewer ready b spared = by (are_rivals c b) refl
  where
    by : (t : Bool) → are_rivals c b ≡ t → t ≡ false
    by true is = absurd (true≢false (sym (fewer.dirty c (ready_dirty f c ready)) ∙ spared.alone c is))
    by false is = refl

pub spares_turned : (base f : StoreFacts) (step : StoreStep) (result : Result (Unit {0}) Failed) → Fewer base f → MayTurn f step → (w v : StoreWindow) → AfterTurn step result f w v → Spares base w v
spares_turned base f SealPage result fewer may w v after = spares_written base w v after
spares_turned base f WritePage result fewer may w v after = spares_written base w v after
spares_turned base f SyncDevice result fewer may w v after = spares_synced base f result fewer w v after
spares_turned base f (WriteOut b) result fewer may w v after = spares_moved base _ w v (no_rival base f b fewer may) after
spares_turned base f BeginCheckpoint result fewer may w v after = spares_written base w v after
spares_turned base f WriteRestart result fewer may w v after = spares_written base w v after

-- ---- laps

div_rises : (k n m : ℕ) → n ≤ m → n / k ≤ m / k
div_rises zero n m le = (let none = div-zero n in omega (arith, none))
div_rises (suc k) n m le = le-div (n / suc k) m (suc k) (omega arith) (let part = div-mul-le_self n (suc k) in omega (arith, part, le))

abbrev lap_next : LogAreaOf → ℕ
lap_next a = suc (lap_at a (next_number a 0x58))

at_most_next : (t : Bool) (n : ℕ) → (if t then n else n + 1) ≤ n + 1
at_most_next true n = omega arith
at_most_next false n = omega arith

sealing_rises : (t : Bool) (a : LogAreaOf) → lap_next a ≤ lap_next (if t then record a { free = 0x40; sealed = a.sealed + 1 } else a)
sealing_rises true a = (let less = div_rises (ring_size a) (next_number a 0x58) (a.sealed + 1) (at_most_next (fits a 0x58) a.sealed) in omega (arith, less))
sealing_rises false a = omega arith

-- the page that is filled is sealed, if it has an entry
pub seal_rises : (a : LogAreaOf) → lap_next a ≤ lap_next (sealed_area a)
seal_rises a = sealing_rises (is_filling a) a

pub rises_at : (f g h : StoreFacts) → g ≡ h → lap_behind f ≤ lap_behind h → lap_behind f ≤ lap_behind g
rises_at f g h is rises = subst (λ (x : StoreFacts). lap_behind f ≤ lap_behind x) (sym is) rises

rises_out : (spells ok : Bool) (now : CheckWord) (b : Block) (f : StoreFacts) → lap_behind f ≤ lap_behind (out_facts spells ok now b f)
rises_out true true now b f = omega arith
rises_out true false (Sent check) b f = omega arith
rises_out true false Unread b f = omega arith
rises_out true false Missing b f = omega arith
rises_out true false (Stands check) b f = omega arith
rises_out false true now b f = omega arith
rises_out false false now b f = omega arith

rises_synced : (result : Result (Unit {0}) Failed) (f : StoreFacts) → lap_behind f ≤ lap_behind (sync_facts result f)
rises_synced (Ok tt) f = omega arith
rises_synced (Err e) f = omega arith

rises_restarted : (result : Result (Unit {0}) Failed) (sent : Option SentRestart) (f : StoreFacts) → lap_behind f ≤ lap_behind (restart_facts result sent f)
rises_restarted (Ok tt) sent f = omega arith
rises_restarted (Err e) sent f = omega arith

rises_turned : (step : StoreStep) (result : Result (Unit {0}) Failed) (f g : StoreFacts) → HasTurned step result f g → lap_behind f ≤ lap_behind g
rises_turned SealPage result f g turned = rises_at f g _ turned.1 (seal_rises f.log)
rises_turned WritePage (Ok tt) f g turned = rises_at f g _ turned (omega arith)
rises_turned WritePage (Err e) f g turned = rises_at f g _ turned (omega arith)
rises_turned SyncDevice result f g turned = rises_at f g _ turned (rises_synced result f)
rises_turned (WriteOut b) result f g turned = rises_at f g _ turned.1 (rises_out (is_spelled f b) (is_ok result) turned.0 b f)
rises_turned BeginCheckpoint result f g turned = rises_at f g _ turned.1 (seal_rises f.log)
rises_turned WriteRestart result f g turned = rises_at f g _ turned (rises_restarted result g.log.sent f)

-- ---- pages of the log

-- the pages end before this one, where this is the log
abbrev end_of : LogAreaOf → ℕ
end_of a = a.sealed + cond (is_filling a) 1 0

sealing_ends : (t : Bool) (a : LogAreaOf) → is_filling a ≡ t → end_of (cond t (record a { free = 0x40; sealed = a.sealed + 1 }) a) ≡ end_of a
sealing_ends true a is = (let one = ap (λ (u : Bool). cond {A = ℕ} u 1 0) is in omega (arith, one))
sealing_ends false a is = refl

sealing_keeps : {A : Type 0} (field : LogAreaOf → A) (t : Bool) (a b : LogAreaOf) → field b ≡ field a → field (cond t b a) ≡ field a
sealing_keeps field true a b same = same
sealing_keeps field false a b same = refl

begins_at : (f g h : StoreFacts) → g ≡ h → BeginsNoPage f h → BeginsNoPage f g
begins_at f g h is begins = subst (λ (x : StoreFacts). BeginsNoPage f x) (sym is) begins

-- the page that is filled is sealed, if it has an entry
pub seal_begins : (f g h : StoreFacts) → g ≡ h → h.log ≡ sealed_area f.log → BeginsNoPage f g
seal_begins f g h is log =
    begins_at f g h is
    (record {
      pages = ap (λ (a : LogAreaOf). a.pages) log ∙ sealing_keeps (λ (a : LogAreaOf). a.pages) (is_filling f.log) f.log (record f.log { free = 0x40; sealed = f.log.sealed + 1 }) refl;
      lap = ap (λ (a : LogAreaOf). a.lap) log ∙ sealing_keeps (λ (a : LogAreaOf). a.lap) (is_filling f.log) f.log (record f.log { free = 0x40; sealed = f.log.sealed + 1 }) refl;
      begun = ap end_of log ∙ sealing_ends (is_filling f.log) f.log refl;
    })

-- the log stays
pub same_begins : (f g h : StoreFacts) → g ≡ h → h.log ≡ f.log → BeginsNoPage f g
same_begins f g h is log = begins_at f g h is (record { pages = ap (λ (a : LogAreaOf). a.pages) log; lap = ap (λ (a : LogAreaOf). a.lap) log; begun = ap end_of log })

begins_synced : (result : Result (Unit {0}) Failed) (f : StoreFacts) → BeginsNoPage f (sync_facts result f)
begins_synced (Ok tt) f = record { pages = refl; lap = refl; begun = refl }
begins_synced (Err e) f = record { pages = refl; lap = refl; begun = refl }

begins_restarted : (result : Result (Unit {0}) Failed) (sent : Option SentRestart) (f : StoreFacts) → BeginsNoPage f (restart_facts result sent f)
begins_restarted (Ok tt) sent f = record { pages = refl; lap = refl; begun = refl }
begins_restarted (Err e) sent f = record { pages = refl; lap = refl; begun = refl }

-- a step begins no page
pub begins_turned : (step : StoreStep) (result : Result (Unit {0}) Failed) (f g : StoreFacts) → HasTurned step result f g → BeginsNoPage f g
begins_turned SealPage result f g turned = seal_begins f g _ turned.1 refl
begins_turned WritePage (Ok tt) f g turned = begins_at f g _ turned (record { pages = refl; lap = refl; begun = refl })
begins_turned WritePage (Err e) f g turned = begins_at f g _ turned (record { pages = refl; lap = refl; begun = refl })
begins_turned SyncDevice result f g turned = begins_at f g _ turned (begins_synced result f)
begins_turned (WriteOut b) result f g turned = same_begins f g _ turned.1 (out_log (is_spelled f b) (is_ok result) turned.0 b f).0
begins_turned BeginCheckpoint result f g turned = seal_begins f g _ turned.1 refl
begins_turned WriteRestart result f g turned = begins_at f g _ turned (begins_restarted result g.log.sent f)

-- ---- moments

pub later_after : (n : ℕ) → n ≤ moment_after n
later_after n = by (nat_lt n last_moment)
  where
    by : (t : Bool) → n ≤ cond t (n + 2) n
    by true = omega arith
    by false = omega arith

-- a call that began at this moment or later
begun_later : (early begun late : ℕ) → early ≤ begun → late ≡ moment_after begun → early ≤ late
begun_later early begun late le is = let rises = later_after begun in omega (arith, le, is, rises)

module _ {D : Type 0} (gives : D → Option (List (List ℕ))) (changes : D → Changes) (moment : D → ℕ) (old new : D) where
  pub later_sent : (check now : Option ℕ) (first : ℕ) (bytes : ℕ → List ℕ) (result : Result (Unit {0}) Failed) → IsSentOrNot gives changes moment check now first bytes result old new → moment old ≤ moment new
  later_sent check now first bytes (Ok tt) sent = begun_later (moment old) (sending_moment check (moment old)) (moment new) (sends_later check (moment old)) sent.sent.1.sends.later
  later_sent check (Some word) first bytes (Err e) sent = begun_later (moment old) (sending_moment check (moment old)) (moment new) (sends_later check (moment old)) sent.failed.sends.later
  later_sent check None first bytes (Err e) sent = begun_later (moment old) (moment old) (moment new) (omega arith) sent.failed.1.later

  later_put : (word now : CheckWord) (b : Block) (bytes : List ℕ) (result : Result (Unit {0}) Failed) → IsPutOrNot gives changes moment word now b bytes result old new → moment old ≤ moment new
  later_put word now b bytes (Ok tt) put = begun_later (moment old) (sending_moment (known_word word) (moment old)) (moment new) (sends_later (known_word word) (moment old)) put.ok.1.put.sends.later
  later_put word (Sent check) b bytes (Err e) put = begun_later (moment old) (sending_moment (known_word word) (moment old)) (moment new) (sends_later (known_word word) (moment old)) put.failed.sends.later
  later_put word Unread b bytes (Err e) put = begun_later (moment old) (moment old) (moment new) (omega arith) put.failed.1.later
  later_put word Missing b bytes (Err e) put = absurd put.failed
  later_put word (Stands check) b bytes (Err e) put = absurd put.failed

  later_again : (b : Block) (result : Result (Unit {0}) Failed) → IsPutAgainOrNot gives changes moment b result old new → moment old ≤ moment new
  later_again b (Ok tt) put = begun_later (moment old) (moment_after (moment old)) (moment new) (later_after (moment old)) put.ok.1.sends.later
  later_again b (Err e) put =
      elim put.failed [
        | inl asked ↦ begun_later (moment old) (moment old) (moment new) (omega arith) asked.later
        | inr sent ↦ begun_later (moment old) (moment_after (moment old)) (moment new) (later_after (moment old)) sent.1.sends.later
      ]

  later_out : (spells : Bool) (word now : CheckWord) (b : Block) (bytes : List ℕ) (result : Result (Unit {0}) Failed) → WritesOut gives changes moment spells word now b bytes result old new → moment old ≤ moment new
  later_out true word now b bytes result out = later_put word now b bytes result out
  later_out false word now b bytes result out = later_again b result out.1

  -- a block that is ready has a body
  has_body : (f : StoreFacts) (b : Block) → ((c : Block) → (f.mark c).dirty ≡ true → is_some (f.body c) ≡ true) → is_ready f b ≡ true → (x : Body) × (f.body b ≡ Some x)
  has_body f b kept ready = by (f.body b) refl (kept b (ready_dirty f b ready))
    where
      by : (o : Option Body) → f.body b ≡ o → is_some o ≡ true → (x : Body) × (f.body b ≡ Some x)
      by (Some x) is some = (x, is)
      by None is some = never some

  pub later_turned : (step : StoreStep) (result : Result (Unit {0}) Failed) (f g : StoreFacts) (words left : List (Block × CheckWord)) → ((c : Block) → (f.mark c).dirty ≡ true → is_some (f.body c) ≡ true) → MayTurn f step
      → TurnsDevice gives changes moment step result f g words left old new → moment old ≤ moment new
  later_turned SealPage result f g words left kept may same = let e = ap moment same in omega (arith, e)
  later_turned WritePage result f g words left kept may sent = later_sent _ _ _ _ result sent
  later_turned SyncDevice result f g words left kept may synced = begun_later (moment old) (moment old) (moment new) (omega arith) synced.2
  later_turned (WriteOut b) result f g words left kept may out = let x = has_body f b kept may in later_out _ _ _ b _ result (out.sent x.0 x.1)
  later_turned BeginCheckpoint result f g words left kept may same = let e = ap moment same in omega (arith, e)
  later_turned WriteRestart result f g words left kept may sent = later_sent _ _ _ _ result sent

-- ---- calls of a store

pub fewer_at : (f g h : StoreFacts) → g ≡ h → Fewer f h → Fewer f g
fewer_at f g h is fewer = at_facts f g h is fewer

pub spares_given_up : (base : StoreFacts) (w v : StoreWindow) → AfterGiveUp w v → Spares base w v
spares_given_up base w v after = record {
  waiting = (let e = after.waiting in omega (arith, e));
  others = λ k le b spared. after.others k b;
  claims = λ k b is. subst (λ (claims : ℕ → Block → Bool). claims k b ≡ true) (sym after.claimed.claims) is;
  kept = λ k le b is. after.others k b;
}

module _ {D : Type 0} (gives : D → Option (List (List ℕ))) (count moment : D → ℕ) (changes : D → Changes) (old new : Seen D) where
  abbrev f : StoreFacts
  f = facts_of old.state

  abbrev g : StoreFacts
  g = facts_of new.state

  pub goes_in_memory : (base : StoreFacts) (After : StoreWindow → StoreWindow → Type 0) → new.device ≡ old.device → Fewer base g → ((w v : StoreWindow) → After w v → Spares base w v) → lap_behind f ≤ lap_behind g → BeginsNoPage f g → TakesStep count moment changes After old new → Goes count moment changes base old new
  goes_in_memory base After same fewer spares rises begins step = goes_step count moment changes base After old new (let e = ap moment same in omega (arith, e)) (ap count same) fewer spares rises begins (λ w first has off. none_stays (count old.device) f.found first (changes old.device) (changes new.device) (ap changes same)) step

  pub goes_turned : (step : StoreStep) (result : Result (Unit {0}) Failed) → ((c : Block) → (f.mark c).dirty ≡ true → is_some (f.body c) ≡ true) → MayTurn f step → HasTurned step result f g
      → TurnsDevice gives changes moment step result f g old.words new.words old.device new.device → count new.device ≡ count old.device → TakesStep count moment changes (AfterTurn step result f) old new → Goes count moment changes f old new
  goes_turned step result kept may turned sent sectors takes =
      goes_step count moment changes f (AfterTurn step result f) old new (later_turned gives changes moment old.device new.device step result f g old.words new.words kept may sent) sectors (fewer_turned step result f g turned)
      (spares_turned f f step result (fewer_same f) may) (rises_turned step result f g turned) (begins_turned step result f g turned)
      (λ w first has off. turn_stays gives changes moment (count old.device) first f g old.device new.device (window_machine (changes old.device) f w has) off step result old.words new.words kept may sent) takes

  pub goes_restarted : {ends : Bool} (clean : Bool) (result : Result (Unit {0}) Failed) → g ≡ restart_facts result new.state.log.sent f → SendsRestartPage gives changes moment clean f g result old.device new.device → count new.device ≡ count old.device
      → TakesStepAs ends count moment changes AfterWrite old new → GoesAs ends ends count moment changes f old new
  goes_restarted clean result facts sent sectors takes =
      goes_step count moment changes f AfterWrite old new (later_sent gives changes moment old.device new.device _ _ _ _ result sent) sectors (fewer_turned WriteRestart result f g facts) (spares_written f) (rises_turned WriteRestart result f g facts) (begins_turned WriteRestart result f g facts)
      (λ w first has off. restart_stays gives changes moment (count old.device) first f g old.device new.device (window_machine (changes old.device) f w has) off clean result sent) takes

  pub goes_synced : {ends : Bool} (result : Result (Unit {0}) Failed) → g ≡ sync_facts result f → Syncs (moment old.device) result (changes old.device) (changes new.device) → moment new.device ≡ moment_after (moment old.device) → count new.device ≡ count old.device → TakesStepAs ends count moment changes (AfterSync result f) old new → GoesAs ends ends count moment changes f old new
  goes_synced result facts syncs later sectors takes =
      goes_step count moment changes f (AfterSync result f) old new (begun_later (moment old.device) (moment old.device) (moment new.device) (omega arith) later) sectors (fewer_turned SyncDevice result f g facts) (spares_synced f f result (fewer_same f)) (rises_turned SyncDevice result f g facts) (begins_turned SyncDevice result f g facts)
      (λ w first has off. sync_stays (count old.device) (moment old.device) result f.found first (changes old.device) (changes new.device) syncs) takes
