-- The calls in memory: a begin, a give-up, and a page that is sealed.
use Rattle.std.proofs.Common.{◌≡◌, subst, ℕ, suc, ◌+◌, ◌-◌, ◌*◌, ◌≤◌, Bool, true, false, cond, List, length, drop, Option, Some, None, refl, sym, ap, ap₂, ◌∙◌, inl, inr, arith}
use Rattle.std.specs.Prelude.{◌&&◌, ◌||◌, is_some, IfSome, unwrap_or}
use Rattle.std.specs.Option.{option_or}
use Rattle.std.proofs.lemmas.Bool.{cases_Bool}
use mathlib.Core.Path.{fun_ext}
use Rattle.area_laws.specs.disk_model.declared.block.Block.{Block}
use Rattle.area_laws.specs.disk_model.declared.block.Body.{Body}
use Rattle.area_laws.specs.disk_model.Sectors.{sectors}
use Rattle.area_laws.specs.sector_device.Disks.{Disk}
use Rattle.area_laws.specs.log_model.declared.entry.Entry.{Entry}
use Rattle.area_laws.specs.log_area.Areas.{LogAreaOf, is_filling, sealed_area, sent_word}
use Rattle.area_laws.specs.log_area.declared.restart.SentRestart.{SentRestart}
use Rattle.store_claims.specs.store_model.Logs.{BodyBytes, undone, has_update}
use Rattle.store_claims.specs.store_model.Geometry.{Geometry}
use Rattle.store_claims.specs.store_model.Stores.{Window, Store, Tells}
use Rattle.store_claims.specs.store_model.Events.{after_begin, after_give_up, given_up}
use Rattle.store_claims.specs.store_model.Events.Step.{begin, give_up}
use Rattle.store_claims.specs.store_model.Volumes.{is_known, first_bytes}
use Rattle.store_claims.specs.Windows.{store_window}
use Rattle.store_claims.proofs.store_model.Told.{true≢false, or_right}
use Rattle.store_claims.proofs.store_model.Lost.{none_covered, said_unmine, unnamed_by}
use Rattle.store_claims.proofs.store_model.Sound.{sound-step}
use Rattle.store_claims.proofs.store_model.Moving.{windows_move_law}
use Rattle.store_claims.proofs.Moving.{claims_move}
use Rattle.area_laws.proofs.ring_laws.StoreEvents.{log_kept}
use Rattle.area_laws.specs.ring_laws.StoreLogs.{HoldsLog}
use Rattle.area_laws.proofs.Joined.{seals}
use Rattle.txn_model.specs.declared.mark.Mark.{Mark}
use Rattle.txn_model.specs.Values.{StoreFacts, own_of}
use Rattle.txn_model.specs.Calls.{begun_facts, given_up_facts, sealed_facts}
use Rattle.txn_laws.specs.Standing.{HasBytes, IsMarked, IsImaged, IsKilled, CloseNone, StandsBehind, session_of, numbers_of}
use Rattle.txn_laws.specs.Windows.{AfterBegin, AfterGiveUp, AfterWrite}
use Rattle.txn_laws.proofs.Claiming.{after_beginning}

-- ---- a begin

pub begins : (f : StoreFacts) (disk : Disk) (m : Store) → f.is_open ≡ false → StandsBehind f disk m → (n : Store) × StandsBehind (begun_facts f) disk n × AfterBegin (store_window m) (store_window n)
begins f disk m closed h = (record m { window = after_begin m.window }, stands, after_beginning h.geometry m h.sound (h.window.is_open ∙ closed))
  where
    stands : StandsBehind (begun_facts f) disk (record m { window = after_begin m.window })
    stands = record {
      geometry = h.geometry;
      volume = h.volume;
      lap = h.lap;
      ring = h.ring;
      pages = h.pages;
      restarts = h.restarts;
      fields = h.fields;
      noted = h.noted;
      stands = h.stands;
      holds = log_kept (session_of f h.lap) (numbers_of f h.ring h.pages h.restarts h.fields h.noted) m disk h.holds (record m { window = after_begin m.window }) disk
          (record { log_is = refl; synced_is = refl; done_is = refl; sent_is = refl; place_is = refl; begun_is = refl; renamed_is = refl; replaced_is = refl })
          (record { durable = λ k i a b c. refl; written = λ k i a b c. refl });
      below = h.below;
      note = h.note;
      same = h.same;
      sized = h.sized;
      own_pages = h.own_pages;
      closes = h.closes;
      placed = h.placed;
      sound = sound-step h.geometry m (record m { window = after_begin m.window }) (begin (h.window.is_open ∙ closed)) h.sound;
      window = record { is_open = refl; tx = h.window.tx; waiting = h.window.waiting; body = h.window.body; changed = h.window.changed; before = h.window.before };
      marks = record { dirty = h.marks.dirty; dead = h.marks.dead; kept = h.marks.kept; apart = h.marks.apart; lone = h.marks.lone; known = h.marks.known; changed = h.marks.changed; wet = h.marks.wet; owed = h.marks.owed; due = h.marks.due };
      by_pages = record {
        some = h.by_pages.some;
        imaged = λ b is. let x = h.by_pages.imaged b is in (record { has = x.0.has; last = x.0.last }, λ e. record { has = (x.1 e).has; last = (x.1 e).last });
        until = h.by_pages.until;
        commit = h.by_pages.commit;
        killed = h.by_pages.killed;
        counted = h.by_pages.counted;
        ends = h.by_pages.ends;
        begun = h.by_pages.begun;
      };
    }

-- ---- a page is sealed

sealed_check : (a : LogAreaOf) → (sealed_area a).check ≡ a.check
sealed_check a = elim (cases_Bool (is_filling a)) [
  | inl filling ↦ ap (λ (b : Bool). (cond b (record a { free = 64; sealed = a.sealed + 1 }) a).check) filling
  | inr empty ↦ ap (λ (b : Bool). (cond b (record a { free = 64; sealed = a.sealed + 1 }) a).check) empty
]

sealed_sent : (a : LogAreaOf) → (sealed_area a).sent ≡ a.sent
sealed_sent a = elim (cases_Bool (is_filling a)) [
  | inl filling ↦ ap (λ (b : Bool). (cond b (record a { free = 64; sealed = a.sealed + 1 }) a).sent) filling
  | inr empty ↦ ap (λ (b : Bool). (cond b (record a { free = 64; sealed = a.sealed + 1 }) a).sent) empty
]

sealed_rises : (a : LogAreaOf) → a.sealed ≤ (sealed_area a).sealed
sealed_rises a = elim (cases_Bool (is_filling a)) [
  | inl filling ↦ subst (λ (b : Bool). a.sealed ≤ (cond b (record a { free = 64; sealed = a.sealed + 1 }) a).sealed) (sym filling) (omega arith)
  | inr empty ↦ subst (λ (b : Bool). a.sealed ≤ (cond b (record a { free = 64; sealed = a.sealed + 1 }) a).sealed) (sym empty) (omega arith)
]

pub sealed_behind : (f : StoreFacts) (disk : Disk) (m : Store) → StandsBehind f disk m → StandsBehind (sealed_facts f) disk m
sealed_behind f disk m h = record {
  geometry = h.geometry;
  volume = h.volume;
  lap = h.lap;
  ring = h.ring;
  pages = h.pages;
  restarts = h.restarts;
  fields = h.fields;
  noted = h.noted;
  stands = seals (session_of f h.lap) f.log h.ring h.restarts h.pages h.fields disk h.stands;
  holds =
      subst (λ (c : Option ℕ). HoldsLog (session_of f h.lap) (record { ring = h.ring; check = c; pages = h.pages; restarts = h.restarts; word = sent_word (sealed_area f.log).sent; fields = h.fields; noted = h.noted }) m disk) (sym (sealed_check f.log))
      (subst (λ (c : Option SentRestart). HoldsLog (session_of f h.lap) (record { ring = h.ring; check = f.log.check; pages = h.pages; restarts = h.restarts; word = sent_word c; fields = h.fields; noted = h.noted }) m disk) (sym (sealed_sent f.log)) h.holds);
  below = λ begun. omega (arith, h.below begun, sealed_rises f.log);
  note = h.note;
  same = h.same;
  sized = h.sized;
  own_pages = h.own_pages;
  closes = subst (λ (o : Option SentRestart). CloseNone false o h.restarts h.fields (length h.pages) (h.ring.oldest + length h.pages - h.noted)) (sym (sealed_sent f.log)) h.closes;
  placed = h.placed;
  sound = h.sound;
  window = record { is_open = h.window.is_open; tx = h.window.tx; waiting = h.window.waiting; body = h.window.body; changed = h.window.changed; before = h.window.before };
  marks = record { dirty = h.marks.dirty; dead = h.marks.dead; kept = h.marks.kept; apart = h.marks.apart; lone = h.marks.lone; known = h.marks.known; changed = h.marks.changed; wet = h.marks.wet; owed = h.marks.owed; due = h.marks.due };
  by_pages = record {
    some = h.by_pages.some;
    imaged = h.by_pages.imaged;
    until = h.by_pages.until;
    commit = h.by_pages.commit;
    killed = h.by_pages.killed;
    counted = h.by_pages.counted;
    ends = h.by_pages.ends;
    begun = h.by_pages.begun;
  };
}

pub seals_page : (f : StoreFacts) (disk : Disk) (m : Store) → StandsBehind f disk m → (n : Store) × StandsBehind (sealed_facts f) disk n × AfterWrite (store_window m) (store_window n)
seals_page f disk m h = (m, sealed_behind f disk m h, record { same = refl })

-- ---- a give-up

-- what a transaction didn't change is as it was before it
pub undone_none : (us : List Entry) (body : Block → BodyBytes) (b : Block) → has_update us b ≡ false → undone us body b ≡ body b
undone_none us body b none = fun_ext (λ i. ap (λ (o : Option ℕ). unwrap_or o (body b i)) (none_covered us b i none))

-- a block that stands whole in a list, and that the open transaction didn't change, does so after it
imaged_on : (geometry : Geometry) (w : Window) (l : List Entry) (d : ℕ) (b : Block) → Tells geometry w l d → has_update w.draft b ≡ false → IsImaged w l b → IsImaged (after_give_up w) l b
imaged_on geometry w l d b tells none x = record {
  has = x.has;
  last = said_unmine (suc w.tx) l b (unnamed_by l (suc w.tx) b (tells.fresh (suc w.tx) (omega arith))) ∙ sym (said_unmine w.tx l b (tells.mine b none)) ∙ x.last;
}

module _ (f : StoreFacts) (disk : Disk) (m : Store) (opened : f.is_open ≡ true) (h : StandsBehind f disk m) where
  abbrev g : StoreFacts
  g = given_up_facts f

  abbrev n : Store
  n = given_up h.geometry m

  abbrev spelled : Block → BodyBytes → Bool
  spelled b bytes = h.geometry.has_spelling b bytes

  same_body : (b : Block) → is_some (f.before b) ≡ false → undone m.window.draft m.window.body b ≡ m.window.body b
  same_body b none = undone_none m.window.draft m.window.body b (h.window.changed b ∙ none)

  -- of a block that the transaction changed the body from before it, and of another one the present body
  body_given : (b : Block) (x : Option Body) → f.before b ≡ x → IfSome (option_or x (f.body b)) (HasBytes b (n.window.body b) (n.window.is_torn b))
  body_given b (Some x) is = subst (λ (o : Option Body). IfSome o (HasBytes b (undone m.window.draft m.window.body b) (m.window.was_torn 0 b))) is (h.window.before b)
  body_given b None is = by_body (f.body b) (h.window.body b)
    where
      none : is_some (f.before b) ≡ false
      none = ap (λ (o : Option Body). is_some o) is

      by_body : (x : Option Body) → IfSome x (HasBytes b (m.window.body b) (m.window.is_torn b)) → IfSome x (HasBytes b (n.window.body b) (n.window.is_torn b))
      by_body None has = tt
      by_body (Some x) has = record {
        bytes = has.bytes ∙ ap (λ (bytes : BodyBytes). first_bytes (512 * sectors b.kind) bytes) (sym (same_body b none));
        torn = λ e. h.sound.even b (h.window.changed b ∙ none) ∙ has.torn e;
      }

  -- the marks of a block that the transaction changed, and of another one
  was_changed : (b : Block) → is_some (f.before b) ≡ true → g.mark b ≡ record (f.mark b) { dirty = true; dead = false; imaged = false }
  was_changed b some = ap (λ (c : Bool). cond c (record (f.mark b) { dirty = true; dead = false; imaged = false }) (f.mark b)) some

  was_other : (b : Block) → is_some (f.before b) ≡ false → g.mark b ≡ f.mark b
  was_other b none = ap (λ (c : Bool). cond c (record (f.mark b) { dirty = true; dead = false; imaged = false }) (f.mark b)) none

  -- what the give-up leaves of each mark
  same_mark : {X : Type 0} (of : Mark → X) → ((x : Mark) → of (record x { dirty = true; dead = false; imaged = false }) ≡ of x) → (b : Block) → of (g.mark b) ≡ of (f.mark b)
  same_mark of same b = elim (cases_Bool (is_some (f.before b))) [
    | inl some ↦ ap of (was_changed b some) ∙ same (f.mark b)
    | inr none ↦ ap of (was_other b none)
  ]

  is_marked : (test : Mark → Bool) → ((x : Mark) → test (record x { dirty = true; dead = false; imaged = false }) ≡ test x) → (b : Block) → IsMarked test f b → IsMarked test g b
  is_marked test same b (inl is) = inl (same_mark test same b ∙ is)
  is_marked test same b (inr x) = inr (x.0, x.1, same_mark test same x.0 ∙ x.2)

  dirty_changed : (b : Block) → is_some (f.before b) ≡ true → n.dirty b ≡ ((g.mark b).dirty && spelled b (n.window.body b))
  dirty_changed b some =
      let has : has_update m.window.draft b ≡ true = h.window.changed b ∙ some in
      ap (λ (c : Bool). cond c (m.stale b || spelled b (undone m.window.draft m.window.body b)) (m.dirty b)) has
      ∙ stale_or (m.stale b) (spelled b (undone m.window.draft m.window.body b)) (λ stale. h.sound.spelled_before b has stale)
      ∙ sym (ap (λ (x : Mark). x.dirty && spelled b (n.window.body b)) (was_changed b some))
    where
      stale_or : (a c : Bool) → (a ≡ true → c ≡ true) → (a || c) ≡ c
      stale_or true c e = sym (e refl)
      stale_or false c e = refl

  dirty_other : (b : Block) → is_some (f.before b) ≡ false → n.dirty b ≡ ((g.mark b).dirty && spelled b (n.window.body b))
  dirty_other b none =
      let has : has_update m.window.draft b ≡ false = h.window.changed b ∙ none in
      ap (λ (c : Bool). cond c (m.stale b || spelled b (undone m.window.draft m.window.body b)) (m.dirty b)) has
      ∙ h.marks.dirty b
      ∙ ap₂ (λ (x : Mark) (bytes : BodyBytes). x.dirty && spelled b bytes) (sym (was_other b none)) (sym (same_body b none))

  not_dead : (b : Block) → is_some (f.before b) ≡ true → m.dead b ≡ false
  not_dead b some = by_dead (m.dead b) refl
    where
      by_dead : (v : Bool) → m.dead b ≡ v → m.dead b ≡ false
      by_dead false is = is
      by_dead true is = absurd (true≢false (sym (h.window.changed b ∙ some) ∙ or_right (m.dirty b) (has_update m.window.draft b) (h.sound.still b is)))

  dead_now : (b : Block) → n.dead b ≡ ((g.mark b).dead && spelled b (n.window.body b))
  dead_now b = elim (cases_Bool (is_some (f.before b))) [
    | inl some ↦ not_dead b some ∙ sym (ap (λ (x : Mark). x.dead && spelled b (n.window.body b)) (was_changed b some))
    | inr none ↦ h.marks.dead b ∙ ap₂ (λ (x : Mark) (bytes : BodyBytes). x.dead && spelled b bytes) (sym (was_other b none)) (sym (same_body b none))
  ]

  body_some : (b : Block) (x : Option Body) → f.before b ≡ x → is_some (option_or x (f.body b)) ≡ ((g.mark b).dirty || (g.mark b).dead)
  body_some b (Some x) is = sym (ap (λ (x : Mark). x.dirty || x.dead) (was_changed b (ap (λ (o : Option Body). is_some o) is)))
  body_some b None is = h.marks.kept b ∙ sym (ap (λ (x : Mark). x.dirty || x.dead) (was_other b (ap (λ (o : Option Body). is_some o) is)))

  body_known : (b : Block) (x : Option Body) → f.before b ≡ x → is_some (option_or x (f.body b)) ≡ true → is_known (own_of f) b ≡ true
  body_known b (Some x) is some =
      h.marks.known b (h.marks.kept b ∙ ap (λ (c : Bool). c || (f.mark b).dead) (h.marks.changed b (ap (λ (o : Option Body). is_some o) is)))
  body_known b None is some = h.marks.known b some

  same_dirty : (b : Block) → (g.mark b).dirty ≡ (f.mark b).dirty
  same_dirty b = elim (cases_Bool (is_some (f.before b))) [
    | inl some ↦ ap (λ (x : Mark). x.dirty) (was_changed b some) ∙ sym (h.marks.changed b some)
    | inr none ↦ ap (λ (x : Mark). x.dirty) (was_other b none)
  ]

  apart_now : (b : Block) → (g.mark b).dead ≡ true → (g.mark b).dirty ≡ false
  apart_now b is = elim (cases_Bool (is_some (f.before b))) [
    | inl some ↦ absurd (true≢false (sym is ∙ ap (λ (x : Mark). x.dead) (was_changed b some)))
    | inr none ↦ ap (λ (x : Mark). x.dirty) (was_other b none) ∙ h.marks.apart b (sym (ap (λ (x : Mark). x.dead) (was_other b none)) ∙ is)
  ]

  imaged_now : (b : Block) → (g.mark b).imaged ≡ true → IsImaged n.window n.log b × (n.begun ≡ true → IsImaged n.window (drop n.place n.log) b)
  imaged_now b is = elim (cases_Bool (is_some (f.before b))) [
    | inl some ↦ absurd (true≢false (sym is ∙ ap (λ (x : Mark). x.imaged) (was_changed b some)))
    | inr none ↦
        let x = h.by_pages.imaged b (sym (ap (λ (x : Mark). x.imaged) (was_other b none)) ∙ is) in
        let has : has_update m.window.draft b ≡ false = h.window.changed b ∙ none in (
          imaged_on h.geometry m.window m.log m.synced b h.sound.oldest.tells has x.0,
          λ begun. imaged_on h.geometry m.window (drop m.place m.log) (m.synced - m.place) b (h.sound.next begun).tells has (x.1 begun),
        )
  ]

  pub gives_up : (n : Store) × StandsBehind (given_up_facts f) disk n × AfterGiveUp (store_window m) (store_window n)
  gives_up = (
    given_up h.geometry m,
    stands,
    record {
      present = windows_move_law.give_up m.window;
      is_open = refl;
      waiting = refl;
      others = λ k b. refl;
      claimed = claims_move.step h.geometry m (given_up h.geometry m) (give_up (h.window.is_open ∙ opened)) h.sound;
    },
  )
    where
      stands : StandsBehind g disk n
      stands = record {
        geometry = h.geometry;
        volume = h.volume;
        lap = h.lap;
        ring = h.ring;
        pages = h.pages;
        restarts = h.restarts;
        fields = h.fields;
        noted = h.noted;
        stands = h.stands;
        holds = log_kept (session_of f h.lap) (numbers_of f h.ring h.pages h.restarts h.fields h.noted) m disk h.holds n disk
            (record { log_is = refl; synced_is = refl; done_is = refl; sent_is = refl; place_is = refl; begun_is = refl; renamed_is = refl; replaced_is = refl })
            (record { durable = λ k i a b c. refl; written = λ k i a b c. refl });
        below = h.below;
        note = h.note;
        same = h.same;
        sized = h.sized;
        own_pages = h.own_pages;
        closes = h.closes;
        placed = h.placed;
        sound = sound-step h.geometry m n (give_up (h.window.is_open ∙ opened)) h.sound;
        window = record {
          is_open = refl;
          tx = ap (λ (t : ℕ). suc t) h.window.tx;
          waiting = h.window.waiting;
          body = λ b. body_given b (f.before b) refl;
          changed = λ b. refl;
          before = λ b. tt;
        };
        marks = record {
          dirty = λ b. elim (cases_Bool (is_some (f.before b))) [
            | inl some ↦ dirty_changed b some
            | inr none ↦ dirty_other b none
          ];
          dead = dead_now;
          kept = λ b. body_some b (f.before b) refl;
          apart = apart_now;
          lone = λ b c rival dirty. same_dirty c ∙ h.marks.lone b c rival (sym (same_dirty b) ∙ dirty);
          known = λ b. body_known b (f.before b) refl;
          changed = λ b none. absurd (true≢false (sym none));
          wet = λ b is. is_marked (λ (x : Mark). x.wet) (λ x. refl) b (h.marks.wet b is);
          owed = λ begun b is. same_mark (λ (x : Mark). x.owed) (λ x. refl) b ∙ h.marks.owed begun b is;
          due = λ begun b is. is_marked (λ (x : Mark). x.due) (λ x. refl) b (h.marks.due begun b is);
        };
        by_pages = record {
          some = h.by_pages.some;
          imaged = imaged_now;
          until = λ b k lt has. subst (λ (u : ℕ). h.ring.oldest + suc k ≤ u) (sym (same_mark (λ (x : Mark). x.until) (λ x. refl) b)) (h.by_pages.until b k lt has);
          commit = λ b k lt has. subst (λ (u : ℕ). f.commits ≤ k + u) (sym (same_mark (λ (x : Mark). x.commit) (λ x. refl) b)) (h.by_pages.commit b k lt has);
          killed = λ b dead. subst (λ (u : ℕ). IsKilled h.pages h.ring.oldest u b) (sym (same_mark (λ (x : Mark). x.killed) (λ x. refl) b)) (h.by_pages.killed b dead);
          counted = h.by_pages.counted;
          ends = h.by_pages.ends;
          begun = h.by_pages.begun;
        };
      }
