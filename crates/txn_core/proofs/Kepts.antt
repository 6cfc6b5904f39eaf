-- What is always so of a store stays so in each call.
use Rattle.std.proofs.Common.{◌≡◌, subst, ℕ, zero, suc, ◌*◌, ◌%◌, ◌+◌, ◌-◌, ◌<◌, ◌≤◌, Bool, true, false, cond, List, [], ◌∷◌, length, get_or, Option, None, refl, sym, ap, ap₂, ◌∙◌, inl, inr, arith, Some}
use Rattle.std.specs.Prelude.{◌||◌, ◌==◌, IfSome, is_some, slice_index, replicate}
use Rattle.std.proofs.lemmas.Bool.{cases_Bool, cases_lt, eqb-true, eq-eqb}
use Rattle.std.proofs.lemmas.List.{length-map}
use Rattle.device_blocks.specs.disk_model.declared.block.Block.{Block}
use Rattle.device_blocks.specs.disk_model.declared.block.Body.{Body}
use Rattle.device_blocks.specs.disk_model.declared.block.BlockKind.{BlockKind}
use Rattle.device_blocks.specs.disk_model.declared.block.BlockKind.TheVariants.{Plain, FileRec, Index}
use Rattle.device_blocks.specs.disk_model.Bytes.{written}
use Rattle.device_blocks.specs.disk_model.Sectors.{sectors, same_block, are_rivals}
use Rattle.txn_laws.specs.log_model.declared.entry.Act.{Act}
use Rattle.txn_laws.specs.log_model.declared.entry.Act.TheVariants.{Commit}
use Rattle.txn_laws.specs.log_page.declared.places.LogPlace.{LogPlace}
use Rattle.device_blocks.specs.log_area.declared.restart.SentRestart.{SentRestart}
use Rattle.device_blocks.specs.log_area.Areas.{LogAreaOf, ring_size, place_at, is_filling, sealed_area, number_of, IsOldest, named_area}
use Rattle.txn_laws.specs.txn_model.declared.mark.Mark.{Mark}
use Rattle.txn_laws.specs.txn_model.Values.{StoreFacts}
use Rattle.txn_laws.specs.txn_model.Pieces.{Piece, logged_pieces, update_of_piece, next_entry, log_with, ends_with}
use Rattle.txn_laws.specs.txn_model.Appending.{MayAppend, MayAppendAll}
use Rattle.txn_laws.specs.txn_model.Calls.{first_facts, begun_facts, body_before, change_acts, changed_facts, committed_facts, given_up_facts, sealed_facts, noted_facts, written_facts, synced_facts, written_out_facts, sent_out_facts, again_facts, is_noted}
use Rattle.txn_laws.specs.txn_model.Told.{pages_end, KeepsMarked, KeepsSteps}
use Rattle.txn_state.specs.States.{IsStore}
use Rattle.txn_laws.proofs.store_model.Told.{true≢false}
use Rattle.txn_core.specs.Kept.{KeepsOrder, KeepsMark, KeepsCommits, IsKept, IsBegun}
use Rattle.txn_core.proofs.KeptMarks.{raised, clean_keeps, changed_by, committed_by, given_up_by, noted_keeps, synced_keeps, written_by, sent_by, again_by}
use Rattle.txn_core.proofs.KeptLogs.{end_of, Appends, order_appends, log_appends, log_fills, ends_told, ends_latest, seal_appends, seal_ends, order_noted, order_written, order_checked, order_sent, order_synced, order_named}

-- ---- what the laws of the next step ask for

pub keeps_marked : (f : StoreFacts) → IsKept f → KeepsMarked f
keeps_marked f k = record {
  owed = λ b. (k.marks b).owed_is;
  due = λ b. (k.marks b).due_is;
  commit = λ b. (k.marks b).commit_is;
  until = λ b. (k.marks b).until_is;
  killed = λ b. (k.marks b).killed_is;
  closed = k.shut;
  all = λ empty durable. k.commits_are.all_durable (subst (λ (t : Bool). f.log.sealed + cond t 1 0 ≤ f.log.synced) (sym empty) (omega (arith, durable)));
}

pub keeps_steps : (f : StoreFacts) → IsStore f → KeepsSteps f
keeps_steps f store = record { kept = λ b dirty. store.blocks.kept b ∙ ap (λ (t : Bool). t || (f.mark b).dead) dirty; noted = store.on_log.noted_page }

-- ---- a store at its start

first_order : (a : LogAreaOf) → IsBegun a → KeepsOrder a None
first_order a new = record {
  pages_some = new.some;
  pages_few = new.few;
  free_from = omega (arith, new.free);
  free_upto = omega (arith, new.free);
  freed_pages = omega (arith, new.oldest, new.synced);
  synced_pages = omega (arith, new.synced, new.done);
  done_pages = omega (arith, new.done, new.sealed);
  within = subst (λ (t : Bool). a.sealed - a.oldest + cond t 1 0 ≤ ring_size a) (sym (none_filled a new)) (omega (arith, new.sealed));
  names_page = subst (λ (o : Option ℕ). IfSome o (λ n. (a.oldest ≤ n) × (n ≤ a.synced))) (sym new.named) tt;
  notes_page = tt;
  names_noted = subst (λ (o : Option ℕ). IfSome o (λ n. ◌≡◌ {A = Option ℕ} None (Some n))) (sym new.named) tt;
}
  where
    none_filled : (b : LogAreaOf) → IsBegun b → is_filling b ≡ false
    none_filled b new = ap (λ (n : ℕ). is_filling (record b { free = n })) new.free

zeros_told : (n k : ℕ) → ◌≡◌ {A = ℕ} (get_or (replicate n 0) k 0) 0
zeros_told zero k = refl
zeros_told (suc n) zero = refl
zeros_told (suc n) (suc k) = zeros_told n k

pub first_kept : (place : LogPlace) (log : LogAreaOf) (found : List Block) → IsBegun log → IsKept (first_facts place log found)
first_kept place log found new = record {
  order = first_order log new;
  marks = λ b. clean_keeps log.synced (end_of log) 0;
  commits_are = record {
    few = omega arith;
    told = λ k. let none = zeros_told (ring_size log) k in omega (arith, none);
    latest = λ lt. zeros_told (ring_size log) (place_at log (end_of log - 1));
    all_durable = λ le. refl;
  };
  shut = λ e b. refl;
}

-- ---- entries are appended

-- the log and what its places tell, with entries of so many commits more
record Grown (f : StoreFacts) (log : LogAreaOf) (ends : List ℕ) (commits most : ℕ) : Type 0 where
  pub order_now : KeepsOrder log f.noted
  pub rises : end_of f.log ≤ end_of log
  pub last_is : end_of log ≡ suc log.sealed
  pub same_synced : log.synced ≡ f.log.synced
  pub under : log.synced < suc log.sealed
  pub latest_now : slice_index ends (place_at log (end_of log - 1)) ≡ commits
  pub told_now : (k : ℕ) → slice_index ends k ≤ most

grown : (f : StoreFacts) (acts : List Act) (commits most : ℕ) → IsKept f → length f.ends ≡ ring_size f.log → MayAppendAll f.log f.tx f.last acts → 0 < length acts → f.commits ≤ most → commits ≤ most
    → Grown f (log_with f.log f.tx f.last acts) (ends_with f.log f.tx f.last commits f.ends acts) commits most
grown f [] commits most k counted may some old le = absurd (omega (arith, some))
grown f (act ∷ acts) commits most k counted may some old le =
    let log = log_with f.log f.tx f.last (act ∷ acts) in
    let on = log_appends f.log f.noted f.tx f.last (act ∷ acts) k.order may in
    let now : KeepsOrder log f.noted = order_appends f.log log f.noted k.order on in
    let fills = log_fills f.log f.noted f.tx f.last act acts k.order may in
    let last : end_of log ≡ suc log.sealed = ap (λ (t : Bool). log.sealed + cond t 1 0) fills ∙ (let e : log.sealed + 1 ≡ suc log.sealed = omega arith in e) in
    let there : end_of log - 1 ≡ log.sealed = omega (arith, last) in
    record {
      order_now = now;
      rises = on.end_more;
      last_is = last;
      same_synced = on.synced_same;
      under = omega (arith, now.synced_pages, now.done_pages);
      latest_now = ap (λ (n : ℕ). slice_index (ends_with f.log f.tx f.last commits f.ends (act ∷ acts)) (place_at log n)) there ∙ ends_latest f.log f.tx f.last commits f.ends act acts k.order.pages_some counted;
      told_now = ends_told f.log f.tx f.last commits f.ends (act ∷ acts) most k.order.pages_some counted (λ n. let told = k.commits_are.told n in omega (arith, told, old)) le;
    }

-- ---- a change

some_pieces : (n : ℕ) (t : Bool) (p : Piece) (ps : List Piece) → t ≡ false → 0 < length (cond t [] (p ∷ ps))
some_pieces n true p ps e = absurd cc
some_pieces n false p ps e = omega arith

not_none : (n : ℕ) → 0 < n → (n == 0) ≡ false
not_none n some = elim (cases_Bool (n == 0)) [
  | inl is ↦ absurd (let e = eqb-true n 0 is in omega (arith, e, some))
  | inr none ↦ none
]

some_sectors : (k : BlockKind) → 0 < 512 * sectors k
some_sectors Plain = omega arith
some_sectors FileRec = omega arith
some_sectors Index = omega arith

pieces_some : (imaged : Bool) (c : Block) (at n : ℕ) → 0 < n → 0 < length (logged_pieces imaged c at n)
pieces_some true c at n some = some_pieces n (n == 0) _ _ (not_none n some)
pieces_some false c at n some = some_pieces (512 * sectors c.kind) (512 * sectors c.kind == 0) _ _ (not_none (512 * sectors c.kind) (some_sectors c.kind))

pub acts_some : (f : StoreFacts) (c : Block) (at : ℕ) (new : List ℕ) (x : Body) → 0 < length new → 0 < length (change_acts f c at new x)
acts_some f c at new x some =
    let pieces = pieces_some (f.mark c).imaged c at (length new) some in
    let same = length-map (logged_pieces (f.mark c).imaged c at (length new)) (update_of_piece c (body_before f c x).bytes (written at new x.bytes)) in
    omega (arith, pieces, same)

pub changed_kept : (f : StoreFacts) (c : Block) (at : ℕ) (new : List ℕ) (x : Body) → IsKept f → IsStore f → f.is_open ≡ true → 0 < length new → MayAppendAll f.log f.tx f.last (change_acts f c at new x) → IsKept (changed_facts c at new x f)
changed_kept f c at new x k store opened some may =
    let acts = change_acts f c at new x in
    let log = log_with f.log f.tx f.last acts in
    let g = grown f acts f.commits f.commits k store.on_log.counted may (acts_some f c at new x some) (omega arith) (omega arith) in
    record {
      order = g.order_now;
      marks = λ b.
          subst (λ (e : ℕ). KeepsMark log.synced e f.commits ((changed_facts c at new x f).mark b)) (sym g.last_is)
          (changed_by log.synced (suc log.sealed) f.commits (f.mark b) (same_block b c) (are_rivals c b) g.under
          (raised log.synced (pages_end f) (suc log.sealed) f.commits f.commits (f.mark b) (subst (λ (s : ℕ). KeepsMark s (pages_end f) f.commits (f.mark b)) (sym g.same_synced) (k.marks b)) (omega (arith, g.rises, g.last_is)) (omega arith)));
      commits_are = record {
        few = k.commits_are.few;
        told = g.told_now;
        latest = λ lt. g.latest_now;
        all_durable = λ le. absurd (omega (arith, le, g.last_is, g.under));
      };
      shut = λ e b. absurd (true≢false (sym opened ∙ e));
    }

-- ---- transactions begin and end

pub begun_kept : (f : StoreFacts) → IsKept f → IsKept (begun_facts f)
begun_kept f k = record {
  order = k.order;
  marks = k.marks;
  commits_are = record { few = k.commits_are.few; told = k.commits_are.told; latest = k.commits_are.latest; all_durable = k.commits_are.all_durable };
  shut = λ e b. absurd (true≢false e);
}

pub committed_kept : (f : StoreFacts) → IsKept f → IsStore f → MayAppend f.log (next_entry f.log f.tx f.last Commit) → IsKept (committed_facts f)
committed_kept f k store may =
    let log = log_with f.log f.tx f.last (Commit ∷ []) in
    let g = grown f (Commit ∷ []) (suc f.commits) (suc f.commits) k store.on_log.counted (may, tt) (omega arith) (omega arith) (omega arith) in
    record {
      order = g.order_now;
      marks = λ b.
          committed_by log.synced (end_of log) (suc f.commits) (f.mark b) (is_some (f.before b))
          (raised log.synced (pages_end f) (end_of log) f.commits (suc f.commits) (f.mark b) (subst (λ (s : ℕ). KeepsMark s (pages_end f) f.commits (f.mark b)) (sym g.same_synced) (k.marks b)) g.rises (omega arith));
      commits_are = record {
        few = (let le = k.commits_are.few in omega (arith, le));
        told = g.told_now;
        latest = λ lt. g.latest_now;
        all_durable = λ le. absurd (omega (arith, le, g.last_is, g.under));
      };
      shut = λ e b. refl;
    }

pub given_up_kept : (f : StoreFacts) → IsKept f → IsKept (given_up_facts f)
given_up_kept f k = record {
  order = k.order;
  marks = λ b. given_up_by f.log.synced (pages_end f) f.commits (f.mark b) (is_some (f.before b)) (k.marks b);
  commits_are = record { few = k.commits_are.few; told = k.commits_are.told; latest = k.commits_are.latest; all_durable = k.commits_are.all_durable };
  shut = λ e b. refl;
}

-- ---- steps of the log

-- a page is sealed: the pages end where they did
sealed_commits : (f g : StoreFacts) → g.log ≡ sealed_area f.log → g.ends ≡ f.ends → g.commits ≡ f.commits → g.durable ≡ f.durable → Appends f.log (sealed_area f.log) → KeepsCommits f → KeepsCommits g
sealed_commits f g log ends commits durable on k =
    let last : pages_end g ≡ pages_end f = ap end_of log ∙ (seal_ends f.log).0 in
    let synced : g.log.synced ≡ f.log.synced = ap (λ (a : LogAreaOf). a.synced) log ∙ on.synced_same in
    let pages : g.log.pages ≡ f.log.pages = ap (λ (a : LogAreaOf). a.pages) log ∙ on.pages_same in
    record {
      few = (let le = k.few in omega (arith, le, commits, durable));
      told = λ n. (let le = k.told n in let same : slice_index g.ends n ≡ slice_index f.ends n = ap (λ (xs : List ℕ). slice_index xs n) ends in omega (arith, le, same, commits));
      latest = λ lt.
          ap₂ (λ (xs : List ℕ) (n : ℕ). slice_index xs ((n - 1) % (g.log.pages - 4))) ends last ∙ ap (λ (p : ℕ). slice_index f.ends ((pages_end f - 1) % (p - 4))) pages ∙ k.latest (omega (arith, lt, last, synced)) ∙ sym commits;
      all_durable = λ le. durable ∙ k.all_durable (omega (arith, le, last, synced)) ∙ sym commits;
    }

sealed_marks : (f : StoreFacts) (b : Block) (m : Mark) → Appends f.log (sealed_area f.log) → KeepsMark f.log.synced (pages_end f) f.commits m → KeepsMark (sealed_area f.log).synced (end_of (sealed_area f.log)) f.commits m
sealed_marks f b m on is = subst (λ (s : ℕ). KeepsMark s (end_of (sealed_area f.log)) f.commits m) (sym on.synced_same) (subst (λ (e : ℕ). KeepsMark f.log.synced e f.commits m) (sym (seal_ends f.log).0) is)

pub sealed_kept : (f : StoreFacts) → IsKept f → IsKept (sealed_facts f)
sealed_kept f k =
    let on = seal_appends f.log f.noted k.order in
    record {
      order = order_appends f.log (sealed_area f.log) f.noted k.order on;
      marks = λ b. sealed_marks f b (f.mark b) on (k.marks b);
      commits_are = sealed_commits f (sealed_facts f) refl refl refl refl on k.commits_are;
      shut = k.shut;
    }

pub noted_kept : (f : StoreFacts) → f.noted ≡ None → IsKept f → IsKept (noted_facts f)
noted_kept f none k =
    let on = seal_appends f.log f.noted k.order in
    record {
      order = order_noted f.log f.noted none k.order;
      marks = λ b. noted_keeps (sealed_area f.log).synced (end_of (sealed_area f.log)) f.commits (f.mark b) (sealed_marks f b (f.mark b) on (k.marks b));
      commits_are = sealed_commits f (noted_facts f) refl refl refl refl on k.commits_are;
      shut = k.shut;
    }

pub written_kept : (f : StoreFacts) → IsKept f → f.log.done < f.log.sealed → IsKept (written_facts f)
written_kept f k lt = record {
  order = order_written f.log f.noted k.order lt;
  marks = k.marks;
  commits_are = record { few = k.commits_are.few; told = k.commits_are.told; latest = k.commits_are.latest; all_durable = k.commits_are.all_durable };
  shut = k.shut;
}

pub checked_kept : (f : StoreFacts) (check : Option ℕ) → IsKept f → IsKept (record f { log = record f.log { check = check } })
checked_kept f check k = record {
  order = order_checked f.log f.noted check k.order;
  marks = k.marks;
  commits_are = record { few = k.commits_are.few; told = k.commits_are.told; latest = k.commits_are.latest; all_durable = k.commits_are.all_durable };
  shut = k.shut;
}

pub sent_kept : (f : StoreFacts) (sent : Option SentRestart) → IsKept f → IsKept (record f { log = record f.log { sent = sent } })
sent_kept f sent k = record {
  order = order_sent f.log f.noted sent k.order;
  marks = k.marks;
  commits_are = record { few = k.commits_are.few; told = k.commits_are.told; latest = k.commits_are.latest; all_durable = k.commits_are.all_durable };
  shut = k.shut;
}

pub named_kept : (f : StoreFacts) (lsn : ℕ) → IsKept f → IsOldest f.log lsn → f.noted ≡ Some (number_of f.log lsn) → IsKept (record f { log = named_area lsn f.log })
named_kept f lsn k at is = record {
  order = order_named f.log f.noted lsn k.order at is;
  marks = k.marks;
  commits_are = record { few = k.commits_are.few; told = k.commits_are.told; latest = k.commits_are.latest; all_durable = k.commits_are.all_durable };
  shut = k.shut;
}

-- ---- a sync

few_after : (t : Bool) (durable told commits : ℕ) → durable ≤ commits → told ≤ commits → cond t durable told ≤ commits
few_after true durable told commits one two = one
few_after false durable told commits one two = two

all_after : (t : Bool) (durable told commits : ℕ) → (t ≡ true → durable ≡ commits) → (t ≡ false → told ≡ commits) → cond t durable told ≡ commits
all_after true durable told commits one two = one refl
all_after false durable told commits one two = two refl

pub synced_kept : (f : StoreFacts) → IsKept f → IsKept (synced_facts f)
synced_kept f k =
    let c = k.commits_are in
    let low = k.order.synced_pages in
    let high = k.order.done_pages in
    record {
      order = order_synced f.log f.noted k.order;
      marks = λ b. synced_keeps f.log.done f.log.synced (pages_end f) f.commits (f.mark b) (k.marks b);
      commits_are = record {
        few = few_after (f.log.synced == f.log.done) f.durable (slice_index f.ends (place_at f.log (f.log.done - 1))) f.commits c.few (c.told (place_at f.log (f.log.done - 1)));
        told = c.told;
        latest = λ lt. c.latest (omega (arith, lt, low));
        all_durable = λ le.
            all_after (f.log.synced == f.log.done) f.durable (slice_index f.ends (place_at f.log (f.log.done - 1))) f.commits
            (λ same. c.all_durable (let e = eqb-true f.log.synced f.log.done same in omega (arith, e, le)))
            (λ apart. ends_there le (λ e. true≢false (sym (eq-eqb f.log.synced f.log.done e) ∙ apart)));
      };
      shut = k.shut;
    }
  where
    ends_there : pages_end f ≤ f.log.done → (f.log.synced ≡ f.log.done → ⊥) → slice_index f.ends (place_at f.log (f.log.done - 1)) ≡ f.commits
    ends_there le apart =
        let high = k.order.done_pages in
        let low = k.order.synced_pages in
        let last : f.log.done ≡ pages_end f = omega (arith, le, high) in
        let lt : f.log.synced < pages_end f = elim (cases_lt f.log.synced f.log.done) [ inl less ↦ omega (arith, less, last) | inr over ↦ absurd (apart (omega (arith, over, low))) ] in
        ap (λ (n : ℕ). slice_index f.ends (place_at f.log (n - 1))) last ∙ k.commits_are.latest lt

-- ---- write-outs

pub written_out_kept : (f : StoreFacts) (b : Block) → IsKept f → IsKept (written_out_facts b f)
written_out_kept f b k = record {
  order = k.order;
  marks = λ c. written_by f.log.synced (pages_end f) f.commits (f.mark c) (is_noted f.mark b) (same_block c b) (are_rivals b c) (k.marks c);
  commits_are = record { few = k.commits_are.few; told = k.commits_are.told; latest = k.commits_are.latest; all_durable = k.commits_are.all_durable };
  shut = k.shut;
}

pub sent_out_kept : (f : StoreFacts) (b : Block) → IsKept f → IsKept (sent_out_facts b f)
sent_out_kept f b k = record {
  order = k.order;
  marks = λ c. sent_by f.log.synced (pages_end f) f.commits (f.mark c) (is_noted f.mark b) (same_block c b) (are_rivals b c) (k.marks c);
  commits_are = record { few = k.commits_are.few; told = k.commits_are.told; latest = k.commits_are.latest; all_durable = k.commits_are.all_durable };
  shut = k.shut;
}

pub again_kept : (f : StoreFacts) (b : Block) → IsKept f → IsKept (again_facts b f)
again_kept f b k = record {
  order = k.order;
  marks = λ c. again_by f.log.synced (pages_end f) f.commits (f.mark c) (same_block c b) (k.marks c);
  commits_are = record { few = k.commits_are.few; told = k.commits_are.told; latest = k.commits_are.latest; all_durable = k.commits_are.all_durable };
  shut = k.shut;
}
