-- A checkpoint of a drained store begins and ends.
use Rattle.std.proofs.Common.{◌≡◌, subst, ℕ, ◌+◌, ◌-◌, ◌*◌, ◌/◌, ◌%◌, ◌^◌, ◌<◌, ◌≤◌, Bool, true, false, cond, Option, Some, None, Result, Ok, Err, refl, sym, ap, ap₂, ◌∙◌, arith}
use Rattle.std.specs.Prelude.{IfSome, IfErr, OnOk, IsSome, unwrap_or, slice_index, ◌&&◌, ◌||◌, ◌==◌}
use Rattle.std.proofs.lemmas.Bool.Decides.{nat_tests}
use Rattle.std.proofs.lemmas.Nat.{div-add-mod'}
use Rattle.log_page.specs.declared.places.LogPlace.{LogPlace}
use Rattle.found_stays.specs.log_area.Areas.{LogAreaOf, is_filling, ring_size, place_at, number_of, sealed_area}
use Rattle.found_stays.specs.ring_laws.Numbers.{LogSession}
use Rattle.found_stays.proofs.ring_laws.Numbering.{says_lap, says_page}
use Rattle.found_stays.specs.txn_model.declared.mark.Mark.{Mark}
use Rattle.found_stays.specs.txn_model.Values.{StoreFacts}
use Rattle.found_stays.specs.txn_model.Calls.{given_up_facts, sealed_facts, front_lsn, named_facts, noted_facts, synced_facts, synced_mark, noted_mark}
use Rattle.found_stays.specs.txn_core.Turns.{HasNext, MayRestart, IsLast}
use Rattle.txn_close.specs.declared.fault.CloseFault.{CloseFault}
use Rattle.txn_close.specs.declared.fault.CloseFault.TheVariants.{Fault, Unmarked}
use Rattle.txn_close.specs.Rests.{IsPlain, IsDrained, IsAtRest, IsUnmarked, stopped_facts}

-- ---- the number of the page that an LSN says

module _ (place : LogPlace) (a : LogAreaOf) (some : 4 < a.pages) (few : a.pages < 2 ^ 52) (n : ℕ) where
  abbrev s : LogSession
  s = record { place = record place { pages = a.pages }; lap = a.lap }

  small : 4096 * a.pages < 2 ^ 64
  small = omega (arith, few)

  pub number_is : number_of a (front_lsn a n) ≡ n
  number_is =
      ap₂ (λ (l : ℕ) (p : ℕ). (l - a.lap) * ring_size a + (p - 4)) (says_lap s some small n) (says_page s some small n)
      ∙ ap₂ (λ (l : ℕ) (p : ℕ). l * ring_size a + p) (let e : a.lap + n / ring_size a - a.lap ≡ n / ring_size a = omega arith in e) (let e : 4 + n % ring_size a - 4 ≡ n % ring_size a = omega arith in e)
      ∙ div-add-mod' n (ring_size a)

-- ---- a restart page may go out

page_there : (o : Option ℕ) → IsSome o → (n : ℕ) × (o ≡ Some n)
page_there (Some n) is = (n, refl)
page_there None is = absurd cc

pub may_restart : (f : StoreFacts) → IsDrained f → IsSome f.noted → HasNext f.log → MayRestart f
may_restart f d begun next =
    let page = page_there f.noted begun in (
      (
        page.0,
        record {
          noted = page.1;
          paid = λ b. ((d.plain b).paid, (d.plain b).past);
          durable = (let le = subst (λ (o : Option ℕ). IfSome o (λ n. n ≤ f.log.sealed)) page.1 d.noted in let same = d.synced in omega (arith, le, same));
          unnamed = d.unnamed;
        },
      ),
      next,
    )

-- ---- it went out, and the device was synced

plain_synced : (synced : ℕ) (m : Mark) → IsPlain m → IsPlain (synced_mark synced m)
plain_synced synced m p = record {
  clean = p.clean;
  alive = none_of m.dead _ p.alive;
  dry = refl;
  paid = none_of m.owed _ p.paid;
  past = refl;
}
  where
    none_of : (a b : Bool) → a ≡ false → (a && b) ≡ false
    none_of a b is = ap (λ (t : Bool). t && b) is

pub ended_drained : (f : StoreFacts) (page : ℕ) → IsDrained f → IsDrained (synced_facts (named_facts page f))
ended_drained f page d = record {
  closed = d.closed;
  durable = ap (λ (t : Bool). cond {A = ℕ} t f.durable (slice_index f.ends (place_at f.log (f.log.done - 1)))) (same f.log.synced f.log.done (d.synced ∙ sym d.written)) ∙ d.durable;
  empty = d.empty;
  written = d.written;
  synced = d.written;
  unnamed = refl;
  plain = λ b. plain_synced f.log.done (f.mark b) (d.plain b);
  noted = tt;
}
  where
    same : (m n : ℕ) → m ≡ n → (m == n) ≡ true
    same m n is = grind (arith, nat_tests, is)

pub ended_noted : (f : StoreFacts) (page : ℕ) → (synced_facts (named_facts page f)).noted ≡ None
ended_noted f page = refl

-- ---- a checkpoint begins

not_filling : (a : LogAreaOf) → is_filling a ≡ false → sealed_area a ≡ a
not_filling a empty = ap (λ (t : Bool). cond t (record a { free = 0x40; sealed = a.sealed + 1 }) a) empty

pub begun_log : (f : StoreFacts) → IsDrained f → (noted_facts f).log ≡ f.log
begun_log f d = not_filling f.log d.empty

pub begun_noted : (f : StoreFacts) → IsDrained f → (noted_facts f).noted ≡ Some f.log.sealed
begun_noted f d = ap (λ (a : LogAreaOf). Some a.sealed) (begun_log f d)

plain_noted : (m : Mark) → IsPlain m → IsPlain (noted_mark m)
plain_noted m p = record {
  clean = p.clean;
  alive = p.alive;
  dry = p.dry;
  paid = ap₂ (λ (a : Bool) (b : Bool). a || b) p.clean p.alive;
  past = p.dry;
}

abbrev with_log : StoreFacts → LogAreaOf → StoreFacts
with_log f a = record (noted_facts f) { log = a; noted = Some a.sealed }

pub begun_drained : (f : StoreFacts) → IsDrained f → IsDrained (noted_facts f)
begun_drained f d =
    subst (λ (a : LogAreaOf). IsDrained (with_log f a)) (sym (begun_log f d))
    (record {
      closed = d.closed;
      durable = d.durable;
      empty = d.empty;
      written = d.written;
      synced = d.synced;
      unnamed = d.unnamed;
      plain = λ b. plain_noted (f.mark b) (d.plain b);
      noted = omega arith;
    })

-- no page of entries stands from the noted one on
pub begun_last : (f : StoreFacts) → IsDrained f → IsLast (noted_facts f)
begun_last f d =
    subst (λ (a : LogAreaOf). IsLast (with_log f a)) (sym (begun_log f d))
    (let none : cond {A = ℕ} (is_filling f.log) 1 0 ≡ 0 = ap (λ (t : Bool). cond {A = ℕ} t 1 0) d.empty in omega (arith, none))

-- ---- the last checkpoint leaves no page

none_used : (a : LogAreaOf) (n : ℕ) → n ≡ a.sealed → is_filling a ≡ false → ◌≡◌ {A = ℕ} (a.sealed - n + cond (is_filling a) 1 0) 0
none_used a n is empty = ap (λ (t : Bool). a.sealed - n + cond {A = ℕ} t 1 0) empty ∙ omega (arith, is)

pub ended_at_rest : (f : StoreFacts) → IsDrained f → 4 < f.log.pages → f.log.pages < 2 ^ 52 → f.noted ≡ Some f.log.sealed → IsAtRest (synced_facts (named_facts (unwrap_or f.noted 0) f))
ended_at_rest f d some few noted =
    let page : unwrap_or f.noted 0 ≡ f.log.sealed = ap (λ (o : Option ℕ). unwrap_or o 0) noted in
    record {
      drained = ended_drained f (unwrap_or f.noted 0) d;
      ended = refl;
      free = none_used f.log (number_of f.log (front_lsn f.log (unwrap_or f.noted 0))) (number_is f.place f.log some few (unwrap_or f.noted 0) ∙ page) d.empty;
    }

-- ---- by what the calls answer

pub then_drained : (result : Result (Unit {0}) CloseFault) (f h : StoreFacts) → IsDrained f → OnOk result (h ≡ synced_facts (named_facts (unwrap_or f.noted 0) f)) → OnOk result (IsDrained h)
then_drained (Ok tt) f h d is = subst IsDrained (sym is) (ended_drained f (unwrap_or f.noted 0) d)
then_drained (Err e) f h d is = tt

pub then_at_rest : (result : Result (Unit {0}) CloseFault) (f g h : StoreFacts) → IsDrained f → 4 < f.log.pages → f.log.pages < 2 ^ 52 → g ≡ noted_facts f → OnOk result (h ≡ synced_facts (named_facts (unwrap_or g.noted 0) g)) → OnOk result (IsAtRest h)
then_at_rest (Ok tt) f g h d some few begun is =
    let pages : g.log.pages ≡ f.log.pages = ap (λ (x : StoreFacts). x.log.pages) begun ∙ ap (λ (a : LogAreaOf). a.pages) (begun_log f d) in
    subst IsAtRest (sym is)
    (ended_at_rest g (subst IsDrained (sym begun) (begun_drained f d)) (omega (arith, some, pages)) (omega (arith, few, pages)) (subst (λ (x : StoreFacts). x.noted ≡ Some x.log.sealed) (sym begun) refl))
then_at_rest (Err e) f g h d some few begun is = tt

-- what was stopped
pub stopped_closed : (f : StoreFacts) → f.is_open ≡ false → stopped_facts f ≡ f
stopped_closed f is = ap (λ (t : Bool). cond t (given_up_facts f) f) is

pub stopped_open : (f : StoreFacts) → f.is_open ≡ true → stopped_facts f ≡ given_up_facts f
stopped_open f is = ap (λ (t : Bool). cond t (given_up_facts f) f) is

closed_by : (f : StoreFacts) (t : Bool) → f.is_open ≡ t → (stopped_facts f).is_open ≡ false
closed_by f true is = ap (λ (g : StoreFacts). g.is_open) (stopped_open f is)
closed_by f false is = ap (λ (g : StoreFacts). g.is_open) (stopped_closed f is) ∙ is

pub sealed_closed : (f g : StoreFacts) → g ≡ sealed_facts (stopped_facts f) → g.is_open ≡ false
sealed_closed f g is = ap (λ (h : StoreFacts). h.is_open) is ∙ closed_by f f.is_open refl

empty_by : (a : LogAreaOf) (t : Bool) → is_filling a ≡ t → is_filling (cond t (record a { free = 0x40; sealed = a.sealed + 1 }) a) ≡ false
empty_by a true is = refl
empty_by a false is = is

pub sealed_empty : (f g : StoreFacts) → g ≡ sealed_facts (stopped_facts f) → is_filling g.log ≡ false
sealed_empty f g is = ap (λ (h : StoreFacts). is_filling h.log) is ∙ empty_by (stopped_facts f).log (is_filling (stopped_facts f).log) refl

-- ---- by the answer alone

pub at_ok : {A : Type 0} (result : Result (Unit {0}) CloseFault) → A → OnOk result A
at_ok (Ok tt) is = is
at_ok (Err e) is = tt

-- a failure of the device isn't want of a restart page
pub never_unmarked : (result : Result (Unit {0}) CloseFault) (f : StoreFacts) → IfErr result (λ e. e ≡ Fault) → IfErr result (λ e. e ≡ Unmarked → IsUnmarked f)
never_unmarked (Ok tt) f is = tt
never_unmarked (Err e) f is = λ un. absurd (let both = sym is ∙ un in cc)
