-- What a store tells of itself, call by call.
use Rattle.std.proofs.Common.{◌≡◌, ◌⊎◌, subst, ℕ, suc, ◌+◌, ◌-◌, ◌*◌, ◌/◌, ◌%◌, ◌^◌, ◌<◌, ◌≤◌, Bool, true, false, not, cond, List, [], Option, Some, None, refl, sym, ap, ◌∙◌, inl, inr, arith}
use Rattle.std.specs.Prelude.{◌&&◌, ◌||◌, nat_le, IfSome, is_some}
use Rattle.std.specs.List.{list_any}
use Rattle.std.proofs.lemmas.Bool.{cases_Bool, cases_lt, lt-leb, lt-ltb}
use Rattle.device_blocks.specs.disk_model.declared.block.Block.{Block}
use Rattle.device_blocks.specs.disk_model.declared.block.Body.{Body}
use Rattle.device_blocks.specs.disk_model.Sectors.{same_block, are_rivals}
use Rattle.device_blocks.proofs.disk_model.Frames.{same_block-is}
use Rattle.txn_laws.specs.log_model.Logs.{is_in_grid}
use Rattle.txn_laws.specs.log_page.declared.places.LogPlace.{LogPlace}
use Rattle.txn_laws.specs.log_page.Places.{sequence_bits, lsn_at}
use Rattle.device_blocks.specs.log_area.declared.restart.SentRestart.{SentRestart}
use Rattle.device_blocks.specs.log_area.Areas.{LogAreaOf, lap_at, next_number, next_lsn, number_lsn, is_filling, sealed_area, synced_area, named_area}
use Rattle.txn_laws.proofs.store_model.Told.{true≢false}
use Rattle.txn_state.proofs.txn_log.Sharing.{among_rivals}
use Rattle.txn_laws.specs.txn_model.declared.mark.Mark.{Mark}
use Rattle.txn_laws.specs.txn_model.Values.{StoreFacts}
use Rattle.txn_laws.specs.txn_model.Calls.{first_facts, begun_facts, changed_mark, rival_mark, changed_facts, committed_facts, given_up_facts, sealed_facts, noted_facts, written_facts, front_lsn, synced_facts, rivals_of, is_noted, is_ready, written_out_facts, sent_out_facts, again_facts}
use Rattle.txn_laws.specs.txn_model.Told.{is_left}
use Rattle.txn_state.specs.States.{IsStore}
use Rattle.txn_core.specs.declared.telling.Telling.{Telling}
use Rattle.txn_core.specs.Kept.{IsKept, IsBegun}
use Rattle.txn_core.specs.Tells.{TellsWet, TellsLeft, IsLowest, StaysLowest, TellsFront, LeavesOpen, IsTold}
use Rattle.txn_core.proofs.KeptLogs.{Appends, seal_appends}

-- ---- frames

pub wet_same : (mark now : Block → Mark) (wrote : Bool) → ((b : Block) → (now b).wet ≡ (mark b).wet) → TellsWet mark wrote → TellsWet now wrote
wet_same mark now wrote same t = record { dry = λ e b. same b ∙ t.dry e b; some = λ e. let one = t.some e in (one.0, same one.0 ∙ one.1) }

pub left_same : (mark now : Block → Mark) (count : ℕ) → ((b : Block) → is_left (now b) ≡ is_left (mark b)) → TellsLeft mark count → TellsLeft now count
left_same mark now count same t = record { blocks = t.blocks; each = λ b. t.each b ∙ ap (λ (v : Bool). cond {A = ℕ} v 1 0) (sym (same b)); counted = t.counted }

lowest_same : (ready now : Block → Bool) (o : Option Block) → ((b : Block) → now b ≡ ready b) → IsLowest ready o → IsLowest now o
lowest_same ready now (Some b) same t = (t.0, same b ∙ t.1, λ c le is. t.2 c le (sym (same c) ∙ is))
lowest_same ready now None same t = λ c le. same c ∙ t c le

-- the log is the same but for what was appended, and nothing was noted
page_same : (a b : LogAreaOf) (noted : Option ℕ) (front : ℕ) → b.pages ≡ a.pages → b.lap ≡ a.lap → IfSome noted (λ n. lap_at a n < 2 ^ sequence_bits a.pages → front ≡ front_lsn a n) → IfSome noted (λ n. lap_at b n < 2 ^ sequence_bits b.pages → front ≡ front_lsn b n)
page_same a b (Some n) front pages lap is =
    subst (λ (l : ℕ). l + n / (b.pages - 4) < 2 ^ sequence_bits b.pages → front ≡ lsn_at b.pages (l + n / (b.pages - 4)) (4096 * (4 + n % (b.pages - 4)) + 0x40)) (sym lap)
    (subst (λ (p : ℕ). a.lap + n / (p - 4) < 2 ^ sequence_bits p → front ≡ lsn_at p (a.lap + n / (p - 4)) (4096 * (4 + n % (p - 4)) + 0x40)) (sym pages) is)
page_same a b None front pages lap is = tt

pub front_same : (a b : LogAreaOf) (noted : Option ℕ) (front : ℕ) → b.pages ≡ a.pages → b.lap ≡ a.lap → b.sent ≡ a.sent → b.named ≡ a.named → TellsFront a noted front → TellsFront b noted front
front_same a b noted front pages lap sent named t = record {
  page = page_same a b noted front pages lap t.page;
  sent = subst (λ (o : Option SentRestart). IfSome o (λ x. (is_some noted ≡ true) × (x.page.oldest ≡ front))) (sym sent) t.sent;
  apart = λ is. sent ∙ t.apart (ap (λ (o : Option ℕ). is_some o) (sym named) ∙ is);
}

front_appends : (a b : LogAreaOf) (noted : Option ℕ) (front : ℕ) → Appends a b → TellsFront a noted front → TellsFront b noted front
front_appends a b noted front on t = front_same a b noted front on.pages_same on.lap_same on.sent_same on.named_same t

open_same : (a b : LogAreaOf) → b.sent ≡ a.sent → LeavesOpen a → LeavesOpen b
open_same a b same is = subst (λ (o : Option SentRestart). IfSome o (λ x. x.page.clean ≡ false)) (sym same) is

abbrev ready_of : Mark → Bool → ℕ → ℕ → Bool
ready_of m changed durable synced = m.dirty && not changed && nat_le m.commit durable && nat_le m.until synced

-- ---- a store at its start

pub first_told : (place : LogPlace) (log : LogAreaOf) (found : List Block) → IsBegun log → IsTold (first_facts place log found) (record { wrote = false; left = 0; ready = None; front = 0 })
first_told place log found new = record {
  wet = record { dry = λ e b. refl; some = λ e. absurd (true≢false (sym e)) };
  left = record { blocks = []; each = λ b. refl; counted = omega arith };
  ready = λ c le. refl;
  front = record {
    page = tt;
    sent = subst (λ (o : Option SentRestart). IfSome o (λ x. ◌≡◌ {A = Bool} false true × (x.page.oldest ≡ 0))) (sym new.sent) tt;
    apart = λ is. new.sent;
  };
  unmarked = subst (λ (o : Option SentRestart). IfSome o (λ x. x.page.clean ≡ false)) (sym new.sent) tt;
}

-- ---- transactions

pub begun_told : (f : StoreFacts) (t : Telling) → IsTold f t → IsTold (begun_facts f) t
begun_told f t k = record { wet = k.wet; left = k.left; ready = k.ready; front = k.front; unmarked = k.unmarked }

committed_wet : (m : Mark) (t : Bool) (n : ℕ) → (cond t (record m { commit = n }) m).wet ≡ m.wet
committed_wet m true n = refl
committed_wet m false n = refl

committed_left : (m : Mark) (t : Bool) (n : ℕ) → is_left (cond t (record m { commit = n }) m) ≡ is_left m
committed_left m true n = refl
committed_left m false n = refl

-- neither a block that the transaction changed is ready, nor one of a commit that isn't durable
neither : (p q r s : Bool) → r ≡ false → (p && true && r && s) ≡ (p && false && q && s)
neither true q r s e = ap (λ (v : Bool). v && s) e
neither false q r s e = refl

committed_ready : (m : Mark) (t : Bool) (n durable synced late : ℕ) → durable < n → late ≡ synced → ready_of (cond t (record m { commit = n }) m) false durable late ≡ ready_of m t durable synced
committed_ready m true n durable synced late lt same = neither m.dirty (nat_le m.commit durable) (nat_le n durable) (nat_le m.until late) (lt-leb n durable lt) ∙ ap (λ (s : ℕ). ready_of m true durable s) same
committed_ready m false n durable synced late lt same = ap (λ (s : ℕ). ready_of m false durable s) same

pub committed_told : (f : StoreFacts) (t : Telling) → IsKept f → Appends f.log (committed_facts f).log → IsTold f t → IsTold (committed_facts f) t
committed_told f t kept on k = record {
  wet = wet_same f.mark (committed_facts f).mark t.wrote (λ b. committed_wet (f.mark b) (is_some (f.before b)) (suc f.commits)) k.wet;
  left = left_same f.mark (committed_facts f).mark t.left (λ b. committed_left (f.mark b) (is_some (f.before b)) (suc f.commits)) k.left;
  ready = lowest_same (is_ready f) (is_ready (committed_facts f)) t.ready
      (λ b. committed_ready (f.mark b) (is_some (f.before b)) (suc f.commits) f.durable f.log.synced (committed_facts f).log.synced (let le = kept.commits_are.few in omega (arith, le)) on.synced_same) k.ready;
  front = front_appends f.log (committed_facts f).log f.noted t.front on k.front;
  unmarked = open_same f.log (committed_facts f).log on.sent_same k.unmarked;
}

given_up_wet : (m : Mark) (t : Bool) → (cond t (record m { dirty = true; dead = false; imaged = false }) m).wet ≡ m.wet
given_up_wet m true = refl
given_up_wet m false = refl

given_up_left : (m : Mark) (t : Bool) → is_left (cond t (record m { dirty = true; dead = false; imaged = false }) m) ≡ is_left m
given_up_left m true = refl
given_up_left m false = refl

pub given_up_told : (f : StoreFacts) (t now : Telling) → now ≡ record t { ready = now.ready } → IsLowest (is_ready (given_up_facts f)) now.ready → IsTold f t → IsTold (given_up_facts f) now
given_up_told f t now same lowest k =
    subst (λ (x : Telling). IsTold (given_up_facts f) x) (sym same)
    (record {
      wet = wet_same f.mark (given_up_facts f).mark t.wrote (λ b. given_up_wet (f.mark b) (is_some (f.before b))) k.wet;
      left = left_same f.mark (given_up_facts f).mark t.left (λ b. given_up_left (f.mark b) (is_some (f.before b))) k.left;
      ready = lowest;
      front = k.front;
      unmarked = k.unmarked;
    })

changed_wet : (m : Mark) (u r : Bool) (n : ℕ) → (cond u (changed_mark n m) (cond r (rival_mark n m) m)).wet ≡ m.wet
changed_wet m true r n = refl
changed_wet m false true n = refl
changed_wet m false false n = refl

changed_left : (m : Mark) (u r : Bool) (n : ℕ) → is_left (cond u (changed_mark n m) (cond r (rival_mark n m) m)) ≡ is_left m
changed_left m true r n = refl
changed_left m false true n = refl
changed_left m false false n = refl

changed_ready : (m : Mark) (u r : Bool) (n durable synced late : ℕ) (o : Option Body) (x : Body) → late ≡ synced
    → ready_of (cond u (changed_mark n m) (cond r (rival_mark n m) m)) (is_some (cond u (Some x) o)) durable late ≡ true → ready_of m (is_some o) durable synced ≡ true
changed_ready m true r n durable synced late o x same is = absurd cc
changed_ready m false true n durable synced late o x same is = absurd cc
changed_ready m false false n durable synced late o x same is = ap (λ (s : ℕ). ready_of m (is_some o) durable s) (sym same) ∙ is

pub changed_told : (f : StoreFacts) (c : Block) (at : ℕ) (new : List ℕ) (x : Body) (t now : Telling) → Appends f.log (changed_facts c at new x f).log → now ≡ record t { ready = now.ready }
    → StaysLowest (is_ready (changed_facts c at new x f)) t.ready now.ready → IsTold f t → IsTold (changed_facts c at new x f) now
changed_told f c at new x t now on same lowest k =
    let g = changed_facts c at new x f in
    subst (λ (y : Telling). IsTold g y) (sym same)
    (record {
      wet = wet_same f.mark g.mark t.wrote (λ b. changed_wet (f.mark b) (same_block b c) (are_rivals c b) (suc g.log.sealed)) k.wet;
      left = left_same f.mark g.mark t.left (λ b. changed_left (f.mark b) (same_block b c) (are_rivals c b) (suc g.log.sealed)) k.left;
      ready = lowest (is_ready f) k.ready (λ b is. changed_ready (f.mark b) (same_block b c) (are_rivals c b) (suc g.log.sealed) f.durable f.log.synced g.log.synced (f.before b) _ on.synced_same is);
      front = front_appends f.log g.log f.noted t.front on k.front;
      unmarked = open_same f.log g.log on.sent_same k.unmarked;
    })

-- ---- steps of the log

pub sealed_told : (f : StoreFacts) (t : Telling) → IsKept f → IsTold f t → IsTold (sealed_facts f) t
sealed_told f t kept k =
    let on = seal_appends f.log f.noted kept.order in
    record {
      wet = k.wet;
      left = k.left;
      ready = lowest_same (is_ready f) (is_ready (sealed_facts f)) t.ready (λ b. ap (λ (s : ℕ). ready_of (f.mark b) (is_some (f.before b)) f.durable s) on.synced_same) k.ready;
      front = front_appends f.log (sealed_area f.log) f.noted t.front on k.front;
      unmarked = open_same f.log (sealed_area f.log) on.sent_same k.unmarked;
    }

-- the place that is noted is that of the next entry
next_is : (a : LogAreaOf) → a.free ≡ 64 → (next_number a 0x58 ≡ a.sealed) × (next_lsn a 0x58 ≡ front_lsn a a.sealed)
next_is a empty = (
  ap (λ (n : ℕ). cond (nat_le (n + 0x58) 4096) a.sealed (a.sealed + 1)) empty,
  ap (λ (n : ℕ). number_lsn a (cond (nat_le (n + 0x58) 4096) a.sealed (a.sealed + 1)) (cond (nat_le (n + 0x58) 4096) n 64)) empty,
)

sealed_free : (a : LogAreaOf) → 64 ≤ a.free → (sealed_area a).free ≡ 64
sealed_free a low = by (is_filling a) refl
  where
    by : (t : Bool) → is_filling a ≡ t → (cond t (record a { free = 64; sealed = a.sealed + 1 }) a).free ≡ 64
    by true is = refl
    by false is = elim (cases_lt 64 a.free) [
      | inl lt ↦ absurd (true≢false (sym (lt-ltb 64 a.free lt) ∙ is))
      | inr le ↦ omega (arith, low, le)
    ]

none_sent : (o : Option SentRestart) (front : ℕ) → IfSome o (λ x. ◌≡◌ {A = Bool} false true × (x.page.oldest ≡ front)) → o ≡ None
none_sent (Some x) front is = absurd (true≢false (sym is.0))
none_sent None front is = refl

pub noted_told : (f : StoreFacts) (t now : Telling) → IsKept f → f.noted ≡ None → now ≡ record t { left = now.left; front = now.front } → TellsLeft (noted_facts f).mark now.left
    → (lap_at (sealed_area f.log) (next_number (sealed_area f.log) 0x58) < 2 ^ sequence_bits (sealed_area f.log).pages → now.front ≡ next_lsn (sealed_area f.log) 0x58) → IsTold f t → IsTold (noted_facts f) now
noted_told f t now kept none same left front k =
    let a = sealed_area f.log in
    let on = seal_appends f.log f.noted kept.order in
    let empty : a.free ≡ 64 = sealed_free f.log kept.order.free_from in
    let next = next_is a empty in
    let unsent : a.sent ≡ None = on.sent_same ∙ none_sent f.log.sent t.front (subst (λ (o : Option ℕ). IfSome f.log.sent (λ x. (is_some o ≡ true) × (x.page.oldest ≡ t.front))) none k.front.sent) in
    subst (λ (y : Telling). IsTold (noted_facts f) y) (sym same)
    (record {
      wet = wet_same f.mark (noted_facts f).mark t.wrote (λ b. refl) k.wet;
      left = left;
      ready = lowest_same (is_ready f) (is_ready (noted_facts f)) t.ready (λ b. ap (λ (s : ℕ). ready_of (f.mark b) (is_some (f.before b)) f.durable s) on.synced_same) k.ready;
      front = record {
        page = λ lap. front (subst (λ (n : ℕ). lap_at a n < 2 ^ sequence_bits a.pages) (sym next.0) lap) ∙ next.1;
        sent = subst (λ (o : Option SentRestart). IfSome o (λ x. ◌≡◌ {A = Bool} true true × (x.page.oldest ≡ now.front))) (sym unsent) tt;
        apart = λ is. unsent;
      };
      unmarked = open_same f.log a on.sent_same k.unmarked;
    })

pub written_told : (f : StoreFacts) (t : Telling) → IsTold f t → IsTold (written_facts f) t
written_told f t k = record { wet = k.wet; left = k.left; ready = k.ready; front = record { page = k.front.page; sent = k.front.sent; apart = k.front.apart }; unmarked = k.unmarked }

pub checked_told : (f : StoreFacts) (check : Option ℕ) (t : Telling) → IsTold f t → IsTold (record f { log = record f.log { check = check } }) t
checked_told f check t k = record { wet = k.wet; left = k.left; ready = k.ready; front = record { page = k.front.page; sent = k.front.sent; apart = k.front.apart }; unmarked = k.unmarked }

pub named_front : (f : StoreFacts) (lsn front : ℕ) → TellsFront f.log f.noted front → TellsFront (named_area lsn f.log) f.noted front
named_front f lsn front k = record { page = k.page; sent = tt; apart = λ is. refl }

pub sent_front : (f : StoreFacts) (sent : Option SentRestart) (front : ℕ) → f.log.named ≡ None → IfSome sent (λ x. (is_some f.noted ≡ true) × (x.page.oldest ≡ front)) → TellsFront f.log f.noted front → TellsFront (record f.log { sent = sent }) f.noted front
sent_front f sent front unnamed names k = record { page = k.page; sent = names; apart = λ is. absurd (true≢false (sym is ∙ ap (λ (o : Option ℕ). is_some o) unnamed)) }

-- ---- a sync

synced_page : (a : LogAreaOf) (noted named : Option ℕ) (front : ℕ) → IfSome noted (λ n. lap_at a n < 2 ^ sequence_bits a.pages → front ≡ front_lsn a n)
    → IfSome (cond (is_some named) None noted) (λ n. lap_at (synced_area a) n < 2 ^ sequence_bits (synced_area a).pages → front ≡ front_lsn (synced_area a) n)
synced_page a noted (Some n) front is = tt
synced_page a (Some n) None front is = is
synced_page a None None front is = tt

synced_sent : (sent : Option SentRestart) (noted named : Option ℕ) (front : ℕ) → (is_some named ≡ true → sent ≡ None) → IfSome sent (λ x. (is_some noted ≡ true) × (x.page.oldest ≡ front))
    → IfSome sent (λ x. (is_some (cond (is_some named) None noted) ≡ true) × (x.page.oldest ≡ front))
synced_sent sent noted (Some n) front apart is = subst (λ (o : Option SentRestart). IfSome o (λ x. ◌≡◌ {A = Bool} false true × (x.page.oldest ≡ front))) (sym (apart refl)) tt
synced_sent sent noted None front apart is = is

pub synced_front : (f : StoreFacts) (front : ℕ) → TellsFront f.log f.noted front → TellsFront (synced_area f.log) (synced_facts f).noted front
synced_front f front k = record { page = synced_page f.log f.noted f.log.named front k.page; sent = synced_sent f.log.sent f.noted f.log.named front k.apart k.sent; apart = λ is. absurd (true≢false (sym is)) }

pub synced_told : (f : StoreFacts) (t now : Telling) → now.wrote ≡ false → TellsLeft (synced_facts f).mark now.left → IsLowest (is_ready (synced_facts f)) now.ready → now.front ≡ t.front → IsTold f t → IsTold (synced_facts f) now
synced_told f t now dry left lowest front k = record {
  wet = record { dry = λ e b. refl; some = λ e. absurd (true≢false (sym e ∙ dry)) };
  left = left;
  ready = lowest;
  front = subst (λ (n : ℕ). TellsFront (synced_area f.log) (synced_facts f).noted n) (sym front) (synced_front f t.front k.front);
  unmarked = k.unmarked;
}

-- ---- write-outs

-- What a write-out makes of marks: no block is dry that was wet, and only this one was written; where no rival is owed, the same blocks are left; and no more are ready.
pub record WroteOut (f g : StoreFacts) (b : Block) : Type 0 where
  pub wet_stays : (c : Block) → (g.mark c).wet ≡ false → (f.mark c).wet ≡ false
  pub wet_own : (c : Block) → (g.mark c).wet ≡ true → ((f.mark c).wet ≡ true) ⊎ (same_block c b ≡ true)
  pub left_stays : list_any (λ c. (f.mark c).owed) (rivals_of b) ≡ false → (c : Block) → is_left (g.mark c) ≡ is_left (f.mark c)
  pub fewer : (c : Block) → is_ready g c ≡ true → is_ready f c ≡ true

or_true : (u v : Bool) → (u || v) ≡ true → (u ≡ true) ⊎ (v ≡ true)
or_true true v e = inl refl
or_true false v e = inr e

or_false_both : (u v : Bool) → (u || v) ≡ false → (u ≡ false) × (v ≡ false)
or_false_both true v e = absurd (true≢false e)
or_false_both false v e = (refl, e)

out_wet : (f g : StoreFacts) (b : Block) (wrote : Bool) → WroteOut f g b → TellsWet f.mark wrote → TellsWet g.mark (wrote || (g.mark b).wet)
out_wet f g b wrote w t = record { dry = λ e. let both = or_false_both wrote (g.mark b).wet e in (λ c. all_dry both c (g.mark c).wet refl); some = λ e. by_test (or_true wrote (g.mark b).wet e) }
  where
    all_dry : (wrote ≡ false) × ((g.mark b).wet ≡ false) → (c : Block) (v : Bool) → (g.mark c).wet ≡ v → v ≡ false
    all_dry both c true e = elim (w.wet_own c e) [
      | inl old ↦ absurd (true≢false (sym old ∙ t.dry both.0 c))
      | inr own ↦ absurd (true≢false (sym e ∙ ap (λ (x : Block). (g.mark x).wet) (same_block-is c b own) ∙ both.1))
    ]
    all_dry both c false e = refl

    wet_now : (c : Block) (v : Bool) → (g.mark c).wet ≡ v → (f.mark c).wet ≡ true → v ≡ true
    wet_now c true e old = refl
    wet_now c false e old = absurd (true≢false (sym old ∙ w.wet_stays c e))

    by_test : (wrote ≡ true) ⊎ ((g.mark b).wet ≡ true) → (c : Block) × ((g.mark c).wet ≡ true)
    by_test (inl old) = let one = t.some old in (one.0, wet_now one.0 (g.mark one.0).wet refl one.1)
    by_test (inr new) = (b, new)

left_after_out : (f g : StoreFacts) (b : Block) (anew : Bool) (old now : ℕ) → anew ≡ list_any (λ c. (f.mark c).owed) (rivals_of b) → WroteOut f g b → (anew ≡ true → TellsLeft g.mark now) → (anew ≡ false → now ≡ old) → TellsLeft f.mark old → TellsLeft g.mark now
left_after_out f g b true old now is w again same t = again refl
left_after_out f g b false old now is w again same t = subst (λ (n : ℕ). TellsLeft g.mark n) (sym (same refl)) (left_same f.mark g.mark old (w.left_stays (sym is)) t)

pub out_told : (f g : StoreFacts) (b : Block) (anew : Bool) (t now : Telling) → g.log ≡ f.log → g.noted ≡ f.noted → WroteOut f g b → anew ≡ list_any (λ c. (f.mark c).owed) (rivals_of b)
    → now.wrote ≡ (t.wrote || (g.mark b).wet) → (anew ≡ true → TellsLeft g.mark now.left) → (anew ≡ false → now.left ≡ t.left) → StaysLowest (is_ready g) t.ready now.ready → now.front ≡ t.front → IsTold f t → IsTold g now
out_told f g b anew t now log noted w is wrote again same lowest front k = record {
  wet = subst (λ (v : Bool). TellsWet g.mark v) (sym wrote) (out_wet f g b t.wrote w k.wet);
  left = left_after_out f g b anew t.left now.left is w again same k.left;
  ready = lowest (is_ready f) k.ready w.fewer;
  front = subst (λ (n : ℕ). TellsFront g.log g.noted n) (sym front) (subst (λ (a : LogAreaOf). TellsFront a g.noted t.front) (sym log) (subst (λ (o : Option ℕ). TellsFront f.log o t.front) (sym noted) k.front));
  unmarked = subst LeavesOpen (sym log) k.unmarked;
}

-- nothing was sent
pub asked_wrote : (f : StoreFacts) (b : Block) → WroteOut f f b
asked_wrote f b = record { wet_stays = λ c e. e; wet_own = λ c e. inl e; left_stays = λ e c. refl; fewer = λ c is. is }

-- ---- the marks of the block itself and of its rivals

-- where no rival is owed
none_owed : (f : StoreFacts) (b c : Block) → IsStore f → is_in_grid b ≡ true → list_any (λ x. (f.mark x).owed) (rivals_of b) ≡ false → are_rivals b c ≡ true → (f.mark c).owed ≡ false
none_owed f b c store grid none rivals = elim (cases_Bool (f.mark c).owed) [
  | inl is ↦ elim (cases_Bool (is_in_grid c)) [
    | inl inside ↦ absurd (true≢false (sym (among_rivals b c (λ x. (f.mark x).owed) rivals grid inside is) ∙ none))
    | inr off ↦ absurd (true≢false (sym is ∙ ap (λ (m : Mark). m.owed) (store.blocks.marked c off)))
  ]
  | inr isnt ↦ isnt
]

wet_by : (m own rival : Mark) (t r : Bool) → own.wet ≡ true → rival.wet ≡ m.wet → (cond t own (cond r rival m)).wet ≡ false → m.wet ≡ false
wet_by m own rival true r new same e = absurd (true≢false (sym new ∙ e))
wet_by m own rival false true new same e = sym same ∙ e
wet_by m own rival false false new same e = e

wet_of : (m own rival : Mark) (t r : Bool) → rival.wet ≡ m.wet → (cond t own (cond r rival m)).wet ≡ true → (m.wet ≡ true) ⊎ (t ≡ true)
wet_of m own rival true r same e = inr refl
wet_of m own rival false true same e = inl (sym same ∙ e)
wet_of m own rival false false same e = inl e

left_of : (m own rival : Mark) (t r : Bool) → (t ≡ true → is_left own ≡ is_left m) → (r ≡ true → is_left rival ≡ is_left m) → is_left (cond t own (cond r rival m)) ≡ is_left m
left_of m own rival true r here there = here refl
left_of m own rival false true here there = there refl
left_of m own rival false false here there = refl

ready_by : (m own rival : Mark) (t r changed : Bool) (durable synced : ℕ) → (ready_of own changed durable synced ≡ true → ready_of m changed durable synced ≡ true) → (ready_of rival changed durable synced ≡ true → ready_of m changed durable synced ≡ true)
    → ready_of (cond t own (cond r rival m)) changed durable synced ≡ true → ready_of m changed durable synced ≡ true
ready_by m own rival true r changed durable synced here there is = here is
ready_by m own rival false true changed durable synced here there is = there is
ready_by m own rival false false changed durable synced here there is = is

-- a rival that isn't owed is left as before
rival_left : (owed due : Bool) → owed ≡ false → (false || due) ≡ (owed || due)
rival_left true due e = absurd (true≢false e)
rival_left false due e = refl

written_left : (owed due any noted : Bool) → noted ≡ (owed || any) → any ≡ false → (false || (due || noted)) ≡ (owed || due)
written_left true true any noted is none = refl
written_left true false any noted is none = is
written_left false true any noted is none = refl
written_left false false any noted is none = is ∙ none

sent_left : (owed due any noted : Bool) → noted ≡ (owed || any) → any ≡ false → (owed || (due || noted)) ≡ (owed || due)
sent_left true due any noted is none = refl
sent_left false true any noted is none = refl
sent_left false false any noted is none = is ∙ none

noted_of : (f : StoreFacts) (b c : Block) → same_block c b ≡ true → is_noted f.mark b ≡ ((f.mark c).owed || list_any (λ x. (f.mark x).owed) (rivals_of b))
noted_of f b c e = ap (λ (x : Block). (f.mark x).owed || list_any (λ y. (f.mark y).owed) (rivals_of b)) (sym (same_block-is c b e))

module _ (f : StoreFacts) (b : Block) (store : IsStore f) (grid : is_in_grid b ≡ true) where
  abbrev freed_at : Block → Mark
  freed_at c = record (f.mark c) { dead = false; owed = false }

  abbrev written_at : Block → Mark
  written_at c = record (f.mark c) { dirty = false; wet = true; owed = false; due = (f.mark c).due || is_noted f.mark b }

  abbrev sent_at : Block → Mark
  sent_at c = record (f.mark c) { wet = true; due = (f.mark c).due || is_noted f.mark b }

  freed_left : list_any (λ x. (f.mark x).owed) (rivals_of b) ≡ false → (c : Block) → are_rivals b c ≡ true → is_left (freed_at c) ≡ is_left (f.mark c)
  freed_left none c rivals = rival_left (f.mark c).owed (f.mark c).due (none_owed f b c store grid none rivals)

  pub written_wrote : WroteOut f (written_out_facts b f) b
  written_wrote = record {
    wet_stays = λ c. wet_by (f.mark c) (written_at c) (freed_at c) (same_block c b) (are_rivals b c) refl refl;
    wet_own = λ c. wet_of (f.mark c) (written_at c) (freed_at c) (same_block c b) (are_rivals b c) refl;
    left_stays = λ none c.
        left_of (f.mark c) (written_at c) (freed_at c) (same_block c b) (are_rivals b c)
        (λ e. written_left (f.mark c).owed (f.mark c).due (list_any (λ x. (f.mark x).owed) (rivals_of b)) (is_noted f.mark b) (noted_of f b c e) none) (freed_left none c);
    fewer = λ c. ready_by (f.mark c) (written_at c) (freed_at c) (same_block c b) (are_rivals b c) (is_some (f.before c)) f.durable f.log.synced (λ e. absurd (true≢false (sym e))) (λ e. e);
  }

  pub sent_wrote : WroteOut f (sent_out_facts b f) b
  sent_wrote = record {
    wet_stays = λ c. wet_by (f.mark c) (sent_at c) (freed_at c) (same_block c b) (are_rivals b c) refl refl;
    wet_own = λ c. wet_of (f.mark c) (sent_at c) (freed_at c) (same_block c b) (are_rivals b c) refl;
    left_stays = λ none c.
        left_of (f.mark c) (sent_at c) (freed_at c) (same_block c b) (are_rivals b c)
        (λ e. sent_left (f.mark c).owed (f.mark c).due (list_any (λ x. (f.mark x).owed) (rivals_of b)) (is_noted f.mark b) (noted_of f b c e) none) (freed_left none c);
    fewer = λ c. ready_by (f.mark c) (sent_at c) (freed_at c) (same_block c b) (are_rivals b c) (is_some (f.before c)) f.durable f.log.synced (λ e. e) (λ e. e);
  }

again_left : (owed due : Bool) → (false || (due || owed)) ≡ (owed || due)
again_left true true = refl
again_left true false = refl
again_left false true = refl
again_left false false = refl

pub again_wrote : (f : StoreFacts) (b : Block) → WroteOut f (again_facts b f) b
again_wrote f b = record {
  wet_stays = λ c. stays (f.mark c) (same_block c b);
  wet_own = λ c. own (f.mark c) (same_block c b);
  left_stays = λ none c. left (f.mark c) (same_block c b);
  fewer = λ c. ready (f.mark c) (same_block c b) (is_some (f.before c));
}
  where
    stays : (m : Mark) (t : Bool) → (cond t (record m { dirty = false; wet = true; owed = false; due = m.due || m.owed }) m).wet ≡ false → m.wet ≡ false
    stays m true e = absurd (true≢false e)
    stays m false e = e

    own : (m : Mark) (t : Bool) → (cond t (record m { dirty = false; wet = true; owed = false; due = m.due || m.owed }) m).wet ≡ true → (m.wet ≡ true) ⊎ (t ≡ true)
    own m true e = inr refl
    own m false e = inl e

    left : (m : Mark) (t : Bool) → is_left (cond t (record m { dirty = false; wet = true; owed = false; due = m.due || m.owed }) m) ≡ is_left m
    left m true = again_left m.owed m.due
    left m false = refl

    ready : (m : Mark) (t changed : Bool) → ready_of (cond t (record m { dirty = false; wet = true; owed = false; due = m.due || m.owed }) m) changed f.durable f.log.synced ≡ true → ready_of m changed f.durable f.log.synced ≡ true
    ready m true changed e = absurd (true≢false (sym e))
    ready m false changed e = e
