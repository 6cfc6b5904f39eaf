-- A commit.
use Rattle.std.proofs.Common.{◌≡◌, subst, ℕ, zero, suc, ◌+◌, ◌-◌, ◌<◌, ◌≤◌, Bool, true, false, cond, List, [], ◌∷◌, ◌++◌, length, drop, get_or, refl, sym, ap, ap₂, ◌∙◌, inl, inr, arith}
use Rattle.std.specs.Prelude.{◌&&◌, ◌||◌, is_some, slice_set}
use Rattle.std.proofs.lemmas.Bool.{cases_Bool}
use Rattle.std.proofs.lemmas.List.{drop-append-le, length-set}
use Rattle.area_laws.specs.disk_model.declared.block.Block.{Block}
use Rattle.area_laws.specs.sector_device.Disks.{Disk}
use Rattle.area_laws.specs.log_model.declared.entry.Entry.{Entry}
use Rattle.area_laws.specs.log_model.declared.entry.Act.TheVariants.{Commit}
use Rattle.area_laws.specs.log_model.Logs.{is_ended, is_misplaced, last_said}
use Rattle.area_laws.proofs.log_model.Telling.{last_said-append}
use Rattle.area_laws.specs.log_area.Areas.{next_lsn, place_at, appended}
use Rattle.store_claims.specs.store_model.Logs.{commit_by, has_update}
use Rattle.store_claims.specs.store_model.Geometry.{Geometry}
use Rattle.store_claims.specs.store_model.Stores.{Window, Store, Tells}
use Rattle.store_claims.specs.store_model.Events.{after_commit}
use Rattle.store_claims.specs.store_model.Events.Step.{commit}
use Rattle.store_claims.specs.Windows.{store_window}
use Rattle.store_claims.proofs.store_model.Told.{true≢false, all_append, ends-commit, said_unnamed, names_more, apart}
use Rattle.store_claims.proofs.store_model.Lost.{has_update-append}
use Rattle.store_claims.proofs.store_model.Sound.{sound-step}
use Rattle.store_claims.proofs.store_model.Moving.{windows_move_law}
use Rattle.area_laws.specs.ring_laws.Numbers.{LogSession}
use Rattle.area_laws.specs.Standing.{pages_with}
use Rattle.txn_model.specs.declared.mark.Mark.{Mark}
use Rattle.txn_model.specs.Values.{StoreFacts}
use Rattle.txn_model.specs.Pieces.{next_entry}
use Rattle.txn_model.specs.Calls.{committed_facts}
use Rattle.txn_model.specs.Appending.{MayAppend}
use Rattle.txn_laws.proofs.Mountable.{commit_placed}
use Rattle.txn_laws.specs.Standing.{IsMarked, IsImaged, IsKilled, TellsEnds, StandsBehind, session_of}
use Rattle.txn_laws.specs.Windows.{AfterCommit}
use Rattle.txn_laws.proofs.Growing.{Grows, pages_grow, placed}
use Rattle.txn_laws.proofs.Closed.{goes_on}
use Rattle.txn_laws.proofs.Appended.{still_some, on_page, still_killed, stands_more, holds_more, ends_more}
use Rattle.store_claims.proofs.Moving.{claims_move}

-- a block that stands whole in a list does so with a commit behind it
imaged_behind : (geometry : Geometry) (w : Window) (l : List Entry) (d lsn previous : ℕ) (b : Block) → Tells geometry w l d → IsImaged w l b → IsImaged (after_commit w) (l ++ commit_by lsn previous w.tx ∷ []) b
imaged_behind geometry w l d lsn previous b tells x =
    let more = l ++ commit_by lsn previous w.tx ∷ [] in
    record {
      has = has_update-append l (commit_by lsn previous w.tx ∷ []) b ∙ ap (λ (v : Bool). v || has_update (commit_by lsn previous w.tx ∷ []) b) x.has;
      last = said_unnamed (suc w.tx) more b (names_more l (commit_by lsn previous w.tx) (suc w.tx) (tells.fresh (suc w.tx) (omega arith)) (apart (suc w.tx) w.tx (omega arith)))
          ∙ last_said-append (is_ended more) l (commit_by lsn previous w.tx ∷ []) b ∙ ap (λ (f : ℕ → Bool). last_said f l b) (ends-commit l lsn previous w.tx) ∙ x.last;
    }

module _ (f : StoreFacts) (disk : Disk) (m : Store) (opened : f.is_open ≡ true) (may : MayAppend f.log (next_entry f.log f.tx f.last Commit)) (h : StandsBehind f disk m) where
  abbrev s : LogSession
  s = session_of f h.lap

  abbrev e : Entry
  e = next_entry f.log f.tx f.last Commit

  abbrev g : StoreFacts
  g = committed_facts f

  abbrev more : List (List Entry)
  more = pages_with e f.log h.pages

  abbrev mine : Entry
  mine = commit_by e.lsn f.last m.window.tx

  abbrev n : Store
  n = record m { window = after_commit m.window; log = m.log ++ mine ∷ [] }

  mine_is : mine ≡ e
  mine_is = ap (λ (t : ℕ). commit_by (next_lsn f.log 0x58) f.last t) h.window.tx

  grows : Grows e h.pages more
  grows = pages_grow s f.log h.ring h.pages disk h.stands.ring e may

  same_mark : {X : Type 0} (of : Mark → X) → ((x : Mark) → of (record x { commit = suc f.commits }) ≡ of x) → (b : Block) → of (g.mark b) ≡ of (f.mark b)
  same_mark of same b = elim (cases_Bool (is_some (f.before b))) [
    | inl some ↦ ap (λ (c : Bool). of (cond c (record (f.mark b) { commit = suc f.commits }) (f.mark b))) some ∙ same (f.mark b)
    | inr none ↦ ap (λ (c : Bool). of (cond c (record (f.mark b) { commit = suc f.commits }) (f.mark b))) none
  ]

  is_marked : (test : Mark → Bool) → ((x : Mark) → test (record x { commit = suc f.commits }) ≡ test x) → (b : Block) → IsMarked test f b → IsMarked test g b
  is_marked test same b (inl is) = inl (same_mark test same b ∙ is)
  is_marked test same b (inr x) = inr (x.0, x.1, same_mark test same x.0 ∙ x.2)

  -- the marks tell the last commit of each block
  told_commit : (b : Block) (k : ℕ) → k < length (m.window.draft ∷ m.window.waiting) → has_update (get_or (m.window.draft ∷ m.window.waiting) k []) b ≡ true → suc f.commits ≤ k + (g.mark b).commit
  told_commit b zero lt has =
      let some : is_some (f.before b) ≡ true = sym (h.window.changed b) ∙ has in
      let e : (g.mark b).commit ≡ suc f.commits = ap (λ (c : Bool). (cond c (record (f.mark b) { commit = suc f.commits }) (f.mark b)).commit) some in
      omega (arith, e)
  told_commit b (suc k) lt has = elim (cases_Bool (is_some (f.before b))) [
    | inl some ↦ (let e : (g.mark b).commit ≡ suc f.commits = ap (λ (c : Bool). (cond c (record (f.mark b) { commit = suc f.commits }) (f.mark b)).commit) some in omega (arith, e))
    | inr none ↦
        let e : (g.mark b).commit ≡ (f.mark b).commit = ap (λ (c : Bool). (cond c (record (f.mark b) { commit = suc f.commits }) (f.mark b)).commit) none in
        let old = h.by_pages.commit b k (omega (arith, lt)) has in
        omega (arith, e, old)
  ]

  imaged_now : (b : Block) → (g.mark b).imaged ≡ true → IsImaged n.window n.log b × (n.begun ≡ true → IsImaged n.window (drop n.place n.log) b)
  imaged_now b is =
      let x = h.by_pages.imaged b (sym (same_mark (λ (x : Mark). x.imaged) (λ x. refl) b) ∙ is) in (
        imaged_behind h.geometry m.window m.log m.synced e.lsn f.last b h.sound.oldest.tells x.0,
        λ begun. subst (λ (l : List Entry). IsImaged (after_commit m.window) l b) (sym (drop-append-le m.place m.log (mine ∷ []) (h.sound.place begun)))
            (imaged_behind h.geometry m.window (drop m.place m.log) (m.synced - m.place) e.lsn f.last b (h.sound.next begun).tells (x.1 begun)),
      )

  until_now : (b : Block) (k : ℕ) → k < length more → has_update (get_or more k []) b ≡ true → h.ring.oldest + suc k ≤ (g.mark b).until
  until_now b k lt has = elim (on_page e h.pages more grows b k lt has) [
    | inl (within, old) ↦ (let e = same_mark (λ (x : Mark). x.until) (λ x. refl) b in omega (arith, h.by_pages.until b k within old, e))
    | inr (last, own) ↦ absurd (true≢false (sym own))
  ]

  pub commits_now : (n : Store) × StandsBehind (committed_facts f) disk n × AfterCommit (store_window m) (store_window n)
  commits_now = (n, stands, record { present = refl; is_open = refl; waiting = refl; newest = windows_move_law.commit m.window; others = λ k b. refl; claimed = claims_move.step h.geometry m n (commit e.lsn f.last (h.window.is_open ∙ opened)) h.sound })
    where
      stands : StandsBehind g disk n
      stands = record {
        geometry = h.geometry;
        volume = h.volume;
        lap = h.lap;
        ring = h.ring;
        pages = more;
        restarts = h.restarts;
        fields = h.fields;
        noted = h.noted;
        stands = stands_more s f.log h.ring h.restarts h.pages h.fields h.noted m disk h.stands e may refl;
        holds = holds_more s f.log h.ring h.restarts h.pages h.fields h.noted m disk h.stands e may refl h.holds h.below n
            (record { log_is = ap (λ (x : Entry). m.log ++ x ∷ []) mine_is; synced_is = refl; done_is = refl; sent_is = refl; place_is = refl; begun_is = refl; renamed_is = refl; replaced_is = refl });
        below = λ begun. omega (arith, h.below begun, (placed s f.log h.ring h.pages disk h.stands.ring e may).from);
        note = h.note;
        same = h.same;
        sized = h.sized;
        own_pages = h.own_pages;
        closes = goes_on f.log.sent h.restarts h.fields (length h.pages) (h.ring.oldest + length h.pages - h.noted) (length more) (h.ring.oldest + length more - h.noted) h.closes;
        placed = all_append (λ (x : Entry). is_misplaced f.place.clusters x.act ≡ false) m.log (mine ∷ []) h.placed (commit_placed f.place.clusters, tt);
        sound = sound-step h.geometry m n (commit e.lsn f.last (h.window.is_open ∙ opened)) h.sound;
        window = record {
          is_open = refl;
          tx = ap (λ (t : ℕ). suc t) h.window.tx;
          waiting = (let w = h.window.waiting in omega (arith, w));
          body = h.window.body;
          changed = λ b. refl;
          before = λ b. tt;
        };
        marks = record {
          dirty = λ b. h.marks.dirty b ∙ ap (λ (v : Bool). v && h.geometry.has_spelling b (m.window.body b)) (sym (same_mark (λ (x : Mark). x.dirty) (λ x. refl) b));
          dead = λ b. h.marks.dead b ∙ ap (λ (v : Bool). v && h.geometry.has_spelling b (m.window.body b)) (sym (same_mark (λ (x : Mark). x.dead) (λ x. refl) b));
          kept = λ b. h.marks.kept b ∙ ap₂ (λ (v : Bool) (u : Bool). v || u) (sym (same_mark (λ (x : Mark). x.dirty) (λ x. refl) b)) (sym (same_mark (λ (x : Mark). x.dead) (λ x. refl) b));
          apart = λ b is. same_mark (λ (x : Mark). x.dirty) (λ x. refl) b ∙ h.marks.apart b (sym (same_mark (λ (x : Mark). x.dead) (λ x. refl) b) ∙ is);
          lone = λ b c rival dirty. same_mark (λ (x : Mark). x.dirty) (λ x. refl) c ∙ h.marks.lone b c rival (sym (same_mark (λ (x : Mark). x.dirty) (λ x. refl) b) ∙ dirty);
          known = h.marks.known;
          changed = λ b none. absurd (true≢false (sym none));
          wet = λ b is. is_marked (λ (x : Mark). x.wet) (λ x. refl) b (h.marks.wet b is);
          owed = λ begun b is. same_mark (λ (x : Mark). x.owed) (λ x. refl) b ∙ h.marks.owed begun b is;
          due = λ begun b is. is_marked (λ (x : Mark). x.due) (λ x. refl) b (h.marks.due begun b is);
        };
        by_pages = record {
          some = still_some e h.pages more grows h.by_pages.some;
          imaged = imaged_now;
          until = until_now;
          commit = told_commit;
          killed = λ b dead. subst (λ (u : ℕ). IsKilled more h.ring.oldest u b) (sym (same_mark (λ (x : Mark). x.killed) (λ x. refl) b))
              (still_killed e h.pages more grows h.ring.oldest (f.mark b).killed b refl (h.by_pages.killed b dead));
          counted = length-set f.ends (place_at (appended e f.log) (appended e f.log).sealed) (suc f.commits) ∙ h.by_pages.counted;
          ends = subst (λ (t : ℕ). TellsEnds s h.ring more (slice_set f.ends (place_at (appended e f.log) (appended e f.log).sealed) t) t) (let t : f.commits + 1 ≡ suc f.commits = omega arith in t)
              (ends_more s f.log h.ring h.restarts h.pages h.fields h.noted m disk h.stands e may refl f.ends f.commits h.by_pages.counted h.by_pages.ends);
          begun = h.by_pages.begun;
        };
      }
