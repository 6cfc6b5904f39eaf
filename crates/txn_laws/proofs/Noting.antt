-- A checkpoint begins.
use Rattle.std.proofs.Common.{◌≡◌, ℕ, ◌+◌, ◌-◌, Bool, true, false, cond, length, Option, None, refl, sym, ap, ◌∙◌, inl, inr, arith}
use Rattle.std.specs.Prelude.{◌||◌, is_some}
use Rattle.std.proofs.lemmas.Bool.{cases_Bool}
use Rattle.area_laws.specs.disk_model.declared.block.Block.{Block}
use Rattle.area_laws.specs.sector_device.Disks.{Disk}
use Rattle.area_laws.specs.log_area.Areas.{LogAreaOf, is_filling, used_pages, sealed_area}
use Rattle.store_claims.specs.store_model.Stores.{Store}
use Rattle.store_claims.specs.store_model.Events.{checkpoint_begun}
use Rattle.store_claims.specs.store_model.Events.Step.{begin_checkpoint}
use Rattle.store_claims.specs.Windows.{store_window}
use Rattle.store_claims.proofs.store_model.Told.{true≢false, or-true}
use Rattle.store_claims.proofs.store_model.Sound.{sound-step}
use Rattle.area_laws.proofs.ring_laws.StoreEvents.{log_noted}
use Rattle.txn_model.specs.declared.mark.Mark.{Mark}
use Rattle.txn_model.specs.Values.{StoreFacts}
use Rattle.txn_model.specs.Calls.{noted_facts, sealed_facts}
use Rattle.txn_laws.proofs.Closed.{goes_on}
use Rattle.txn_laws.specs.Standing.{IsMarked, StandsBehind, session_of, numbers_of}
use Rattle.txn_laws.specs.Windows.{AfterWrite}
use Rattle.txn_laws.proofs.Memory.{sealed_behind}
use Rattle.txn_laws.proofs.Syncs.{and_left}
use Rattle.txn_laws.proofs.Claiming.{after_noting}

not_filling : (a : LogAreaOf) → is_filling (sealed_area a) ≡ false
not_filling a = elim (cases_Bool (is_filling a)) [
  | inl filling ↦ ap (λ (b : Bool). is_filling (cond b (record a { free = 64; sealed = a.sealed + 1 }) a)) filling
  | inr empty ↦ ap (λ (b : Bool). is_filling (cond b (record a { free = 64; sealed = a.sealed + 1 }) a)) empty ∙ empty
]

pub notes : (f : StoreFacts) (disk : Disk) (m : Store) → f.is_open ≡ false → f.noted ≡ None → StandsBehind f disk m → (n : Store) × StandsBehind (noted_facts f) disk n × AfterWrite (store_window m) (store_window n)
notes f disk m closed unnoted h = (checkpoint_begun m, stands, after_noting it.geometry m it.sound early (it.window.is_open ∙ closed))
  where
    it : StandsBehind (sealed_facts f) disk m
    it = sealed_behind f disk m h

    early : m.begun ≡ false
    early = h.by_pages.begun ∙ ap (λ (o : Option ℕ). is_some o) unnoted

    all : (sealed_area f.log).sealed ≡ it.ring.oldest + length it.pages
    all =
        let used : used_pages (sealed_area f.log) ≡ (sealed_area f.log).sealed - (sealed_area f.log).oldest + 0 = ap (λ (b : Bool). (sealed_area f.log).sealed - (sealed_area f.log).oldest + cond b 1 0) (not_filling f.log) in
        let area = it.stands.ring.area in
        omega (arith, used, it.stands.ring.counted, it.stands.ring.oldest, area.durable_pages, area.written_pages, area.sealed_pages)

    held : (b : Block) → (m.dirty b || m.dead b) ≡ true → ((f.mark b).dirty || (f.mark b).dead) ≡ true
    held b is = either (m.dirty b) (m.dead b) refl refl is
      where
        either : (u v : Bool) → m.dirty b ≡ u → m.dead b ≡ v → (u || v) ≡ true → ((f.mark b).dirty || (f.mark b).dead) ≡ true
        either true v one two or = ap (λ (x : Bool). x || (f.mark b).dead) (and_left (f.mark b).dirty (it.geometry.has_spelling b (m.window.body b)) (sym (it.marks.dirty b) ∙ one))
        either false true one two or = or-true (f.mark b).dirty (f.mark b).dead (and_left (f.mark b).dead (it.geometry.has_spelling b (m.window.body b)) (sym (it.marks.dead b) ∙ two))
        either false false one two or = absurd (true≢false (sym or))

    due_of : (b : Block) → IsMarked (λ (x : Mark). x.wet) f b → IsMarked (λ (x : Mark). x.due) (noted_facts f) b
    due_of b (inl is) = inl is
    due_of b (inr x) = inr (x.0, x.1, x.2)

    stands : StandsBehind (noted_facts f) disk (checkpoint_begun m)
    stands = record {
      geometry = it.geometry;
      volume = it.volume;
      lap = it.lap;
      ring = it.ring;
      pages = it.pages;
      restarts = it.restarts;
      fields = it.fields;
      noted = it.ring.oldest + length it.pages;
      stands = it.stands;
      holds = log_noted (session_of f it.lap) (numbers_of (sealed_facts f) it.ring it.pages it.restarts it.fields it.noted) m disk it.holds (checkpoint_begun m) early
          (record { log_is = refl; synced_is = refl; done_is = refl; sent_is = refl; place_is = refl; begun_is = refl; renamed_is = not_renamed; replaced_is = refl });
      below = λ begun. (let e = all in omega (arith, e));
      note = all;
      same = it.same;
      sized = it.sized;
      own_pages = it.own_pages;
      closes = goes_on (sealed_area f.log).sent it.restarts it.fields (length it.pages) (it.ring.oldest + length it.pages - it.noted) (length it.pages) (it.ring.oldest + length it.pages - (it.ring.oldest + length it.pages)) it.closes;
      placed = it.placed;
      sound = sound-step it.geometry m (checkpoint_begun m) (begin_checkpoint early (it.window.is_open ∙ closed)) it.sound;
      window = record { is_open = it.window.is_open; tx = it.window.tx; waiting = it.window.waiting; body = it.window.body; changed = it.window.changed; before = it.window.before };
      marks = record {
        dirty = it.marks.dirty;
        dead = it.marks.dead;
        kept = it.marks.kept;
        apart = it.marks.apart;
        lone = it.marks.lone;
        known = it.marks.known;
        changed = it.marks.changed;
        wet = λ b is. wet_of b (it.marks.wet b is);
        owed = λ begun b is. held b is;
        due = λ begun b is. due_of b (it.marks.wet b is);
      };
      by_pages = record {
        some = it.by_pages.some;
        imaged = λ b is. absurd (true≢false (sym is));
        until = it.by_pages.until;
        commit = it.by_pages.commit;
        killed = it.by_pages.killed;
        counted = it.by_pages.counted;
        ends = it.by_pages.ends;
        begun = refl;
      };
    }
      where
        not_renamed : m.renamed ≡ false
        not_renamed = by_value m.renamed refl
          where
            by_value : (v : Bool) → m.renamed ≡ v → m.renamed ≡ false
            by_value false e = e
            by_value true e = absurd (true≢false (sym (it.holds.renamed e) ∙ early))

        wet_of : (b : Block) → IsMarked (λ (x : Mark). x.wet) f b → IsMarked (λ (x : Mark). x.wet) (noted_facts f) b
        wet_of b (inl is) = inl is
        wet_of b (inr x) = inr (x.0, x.1, x.2)
