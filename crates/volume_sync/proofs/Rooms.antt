-- The steps that make room may be taken, and come to an end.
use Rattle.std.proofs.Common.{◌≡◌, ◌↔◌, subst, ℕ, ◌+◌, ◌-◌, ◌<◌, ◌≤◌, Bool, true, false, not, cond, length, Option, Some, None, Ok, refl, sym, ap, ◌∙◌, arith}
use Rattle.std.specs.Prelude.{◌&&◌, nat_le, nat_lt, is_some, unwrap_or}
use Rattle.std.proofs.lemmas.Bool.Decides.{nat_tests}
use Rattle.log_area.specs.Areas.{next_lsn, used_pages, free_pages}
use Rattle.flush_policy.specs.declared.facts.Facts.{Facts}
use Rattle.flush_policy.specs.declared.facts.StoreStep.{StoreStep}
use Rattle.flush_policy.specs.declared.facts.StoreStep.TheVariants.{SealPage, WritePage, SyncDevice, WriteOut, BeginCheckpoint, WriteRestart}
use Rattle.flush_policy.specs.Choice.{next_step}
use Rattle.flush_policy.specs.Steps.{to_do}
use Rattle.store_model.proofs.Told.{true≢false}
use Rattle.txn_model.specs.Values.{StoreFacts}
use Rattle.txn_model.specs.Told.{MayTakeStep}
use Rattle.txn_state.specs.States.{StateOf, facts_of}
use Rattle.txn_laws.proofs.Choosing.{next_may_be_taken}
use Rattle.volume_core.specs.txn_core.Leading.{dirty_blocks}
use Rattle.volume_core.specs.txn_core.Steps.{MayTurn, HasTurned}
use Rattle.volume_core.specs.txn_core.Turns.{HasNext}
use Rattle.volume_core.proofs.txn_core.Leading.{steps_lead_on}
use Rattle.volume_core.proofs.txn_close.Drained.{same_next}
use Rattle.volume_sync.specs.Rooms.{has_room, may_come, room_step, IsTelling, IsRoomMade}

-- ---- which step it is

only : (a b : StoreStep) → Some a ≡ Some b → a ≡ b
only a b e = cc

comes : (next : Bool) (o : Option StoreStep) (step : StoreStep) → may_come next o ≡ Some step → o ≡ Some step
comes next None step is = absurd cc
comes next (Some SealPage) step is = is
comes next (Some WritePage) step is = is
comes next (Some SyncDevice) step is = is
comes next (Some (WriteOut b)) step is = is
comes next (Some BeginCheckpoint) step is = is
comes true (Some WriteRestart) step is = is
comes false (Some WriteRestart) step is = absurd cc

-- a restart page can be made where one is needed
needs_next : (next : Bool) (o : Option StoreStep) → may_come next o ≡ Some WriteRestart → next ≡ true
needs_next true o is = refl
needs_next false None is = absurd cc
needs_next false (Some SealPage) is = absurd cc
needs_next false (Some WritePage) is = absurd cc
needs_next false (Some SyncDevice) is = absurd cc
needs_next false (Some (WriteOut b)) is = absurd cc
needs_next false (Some BeginCheckpoint) is = absurd cc
needs_next false (Some WriteRestart) is = absurd cc

none_comes : (o : Option StoreStep) → may_come true o ≡ None → o ≡ None
none_comes None is = refl
none_comes (Some SealPage) is = absurd cc
none_comes (Some WritePage) is = absurd cc
none_comes (Some SyncDevice) is = absurd cc
none_comes (Some (WriteOut b)) is = absurd cc
none_comes (Some BeginCheckpoint) is = absurd cc
none_comes (Some WriteRestart) is = absurd cc

some_by : (t : Bool) (o : Option StoreStep) (step : StoreStep) → cond t None o ≡ Some step → o ≡ Some step
some_by true o step is = absurd cc
some_by false o step is = is

none_by : (t : Bool) (o : Option StoreStep) → t ≡ false → cond t None o ≡ None → o ≡ None
none_by true o none is = absurd (true≢false none)
none_by false o none is = is

chosen : (pages : ℕ) (next : Bool) (told : Facts) (step : StoreStep) → room_step pages next told ≡ Some step → may_come next (next_step told) ≡ Some step
chosen pages next told step is = some_by (has_room pages told) (may_come next (next_step told)) step is

is_next : (pages : ℕ) (next : Bool) (told : Facts) (step : StoreStep) → room_step pages next told ≡ Some step → next_step told ≡ Some step
is_next pages next told step is = comes next (next_step told) step (chosen pages next told step is)

-- ---- it may be taken

pub may_room : (f : StoreFacts) (pages : ℕ) (next : Bool) (told : Facts) (step : StoreStep) → IsTelling f told → (next ≡ true) ↔ HasNext f.log → room_step pages next told ≡ Some step → MayTurn f step
may_room f pages next told step t has is =
    by step (chosen pages next told step is) (next_may_be_taken f (record told { next = next_lsn f.log 0x58 }) step t.steps t.says t.closed (same_next told (next_lsn f.log 0x58) ∙ is_next pages next told step is))
  where
    by : (s : StoreStep) → may_come next (next_step told) ≡ Some s → MayTakeStep f s → MayTurn f s
    by SealPage is may = may
    by WritePage is may = may
    by SyncDevice is may = tt
    by (WriteOut b) is may = may.0
    by BeginCheckpoint is may = (t.closed, may.1)
    by WriteRestart is may = (may, has.0 (needs_next next (next_step told) is))

-- ---- less is left to do

pub less_to_do : (s u : StateOf) (pages : ℕ) (next : Bool) (told later : Facts) (step : StoreStep) → IsTelling (facts_of s) told → IsTelling (facts_of u) later → room_step pages next told ≡ Some step → HasTurned step (Ok tt) (facts_of s) (facts_of u)
    → to_do (length (dirty_blocks u)) later < to_do (length (dirty_blocks s)) told
less_to_do s u pages next told later step t now is turned =
    steps_lead_on.less (facts_of s) (facts_of u) (record told { next = next_lsn s.log 0x58 }) (record later { next = next_lsn u.log 0x58 }) step (dirty_blocks s) (dirty_blocks u) t.kept t.closed t.says now.says (steps_lead_on.dirty s) (steps_lead_on.dirty u)
    (same_next told (next_lsn s.log 0x58) ∙ is_next pages next told step is) turned

-- ---- nothing is left

none_noted : (o : Option ℕ) (t : Bool) → t ≡ false → (is_some o && not t) ≡ false → o ≡ None
none_noted (Some n) true none is = absurd (true≢false none)
none_noted (Some n) false none is = absurd (true≢false is)
none_noted None t none is = refl

none_used : (o : Option ℕ) (oldest used : ℕ) → o ≡ None → nat_lt (unwrap_or o oldest) (oldest + used) ≡ false → used ≡ 0
none_used (Some n) oldest used none is = absurd cc
none_used None oldest used none is = grind (arith, nat_tests, is)

all_free : (s : StateOf) (pages : ℕ) (told : Facts) → IsTelling (facts_of s) told → has_room pages told ≡ false → room_step pages true told ≡ None → used_pages s.log ≡ 0
all_free s pages told t full is =
    let f = facts_of s in
    let says = t.says in
    let none = none_comes (next_step told) (none_by (has_room pages told) (may_come true (next_step told)) full is) in
    let done = (steps_lead_on.rests f (record told { next = next_lsn s.log 0x58 }) (dirty_blocks s) t.kept t.closed says (steps_lead_on.dirty s)).0 (same_next told (next_lsn s.log 0x58) ∙ none) in
    let synced = says.synced done.synced.unsynced in
    let noted = none_noted f.noted (is_some f.log.named) (ap is_some synced.unnamed) (sym says.begun ∙ done.begun) in
    none_used f.noted f.log.oldest (used_pages f.log) noted (sym says.fresh ∙ done.fresh)

pub is_made : (s : StateOf) (pages : ℕ) (next : Bool) (told : Facts) (made : Bool) → IsTelling (facts_of s) told → (next ≡ true) ↔ HasNext s.log → made ≡ has_room pages told → room_step pages next told ≡ None → IsRoomMade pages (Ok made) (facts_of s)
is_made s pages next told made t has made_is is = (
  (λ said. from (sym made_is ∙ said), λ le. made_is ∙ into le),
  λ full there. all_free s pages told t (sym made_is ∙ full) (subst (λ (n : Bool). room_step pages n told ≡ None) (has.1 there) is),
)
  where
    same : told.pages - told.pages_used ≡ free_pages s.log
    same = let all = t.says.pages in let used = t.says.used in omega (arith, all, used)

    from : nat_le pages (told.pages - told.pages_used) ≡ true → pages ≤ free_pages s.log
    from said = let e = same in grind (arith, nat_tests, said, e)

    into : pages ≤ free_pages s.log → nat_le pages (told.pages - told.pages_used) ≡ true
    into le = let e = same in grind (arith, nat_tests, le, e)
