-- Changes that the open transaction may make, one after the other.
use Rattle.std.proofs.Common.{◌≡◌, subst, ℕ, suc, ◌*◌, ◌^◌, ◌<◌, Bool, true, false, cond, List, [], ◌∷◌, length, Option, Some, None, refl, sym, ap, ◌∙◌}
use Rattle.std.specs.Prelude.{IfSome, is_some, unwrap_or}
use Rattle.std.specs.List.{AllByRecursion}
use Rattle.disk_model.specs.declared.block.Block.{Block}
use Rattle.disk_model.specs.declared.block.Body.{Body}
use Rattle.disk_model.specs.declared.block.Change.{Change}
use Rattle.disk_model.specs.Bytes.{written}
use Rattle.disk_model.specs.Content.{Content}
use Rattle.disk_model.specs.Laws.{IsElsewhere}
use Rattle.disk_model.specs.Sectors.{sectors, same_block, are_rivals}
use Rattle.disk_model.specs.Writes.{bytes_after}
use Rattle.disk_model.proofs.Frames.{same_block-is, length-written, bytes_elsewhere}
use Rattle.fixup_record.specs.Spellings.{has_spelling}
use Rattle.block_view.specs.Changes.{writes_of, content_after}
use Rattle.log_model.specs.Logs.{is_in_grid}
use Rattle.turn_laws.specs.store_model.Volumes.{is_free}
use Rattle.turn_laws.proofs.store_model.Told.{true≢false, rivals_both}
use Rattle.turn_laws.specs.txn_model.Values.{StoreFacts, own_of}
use Rattle.turn_laws.specs.txn_model.Calls.{begun_facts, body_before, changed_facts}
use Rattle.turn_laws.specs.txn_state.States.{HasSize, IsStore}
use Rattle.turn_laws.proofs.txn_laws.Syncs.{and_left}
use Rattle.turn_laws.specs.txn_log.Counts.{pages_needed}
use Rattle.turn_laws.specs.txn_log.Laws.{HasRoom, IsLogged, PagesAreEnough}
use Rattle.turn_laws.proofs.txn_log.Sharing.{same_self}
use Rattle.turn_laws.specs.txn_core.Changes.{IsPresent, MayChangeNow}
use Rattle.turn_laws.specs.txn_core.Views.{present_on}
use Rattle.state_store.specs.Changes.{MayLog, AreBeside, AreApart}
use Rattle.state_store.specs.Rooms.{pages_of_changes}
use Rattle.state_store.specs.Logging.{AreSpelled, MayLogAll}
use Rattle.state_store.proofs.Lists.{each_weaker, each_both, bytes_changed}
use Rattle.state_store.proofs.Contents.{content_changed}

-- ---- the first of them

own_some : {X : Type 0} (t : Bool) (x : X) (o : Option X) → t ≡ true → cond t (Some x) o ≡ Some x
own_some t x o e = ap (λ (v : Bool). cond v (Some x) o) e

module _ (f : StoreFacts) (x : Change) (p : Body) where
  abbrev next : StoreFacts
  next = changed_facts x.block x.offset x.new p f

  sized_present : IsStore next → length p.bytes ≡ 512 * sectors x.block.kind
  sized_present k =
      let there : next.body x.block ≡ Some (record { bytes = written x.offset x.new p.bytes; torn = false }) = own_some (same_block x.block x.block) (record { bytes = written x.offset x.new p.bytes; torn = false }) (f.body x.block) (same_self x.block) in
      sym (length-written x.offset x.new p.bytes) ∙ subst (λ (o : Option Body). IfSome o (HasSize x.block)) there (k.blocks.sized x.block)

  sized_before : IsStore next → length (body_before f x.block p).bytes ≡ 512 * sectors x.block.kind
  sized_before k =
      let there : next.before x.block ≡ Some (body_before f x.block p) = own_some (same_block x.block x.block) (body_before f x.block p) (f.before x.block) (same_self x.block) in
      subst (λ (o : Option Body). IfSome o (HasSize x.block)) there (k.blocks.sized_before x.block)

logged : (f : StoreFacts) (x : Change) (before present : List ℕ) → MayLog f x → x.block.first < 2 ^ 64 → length before ≡ 512 * sectors x.block.kind → length present ≡ 512 * sectors x.block.kind → IsLogged x before present
logged f x before present may near size_before size = record {
  grid = and_left (is_in_grid x.block) (is_free (own_of f) x.block) may.known;
  wide = near;
  some = may.some;
  fits = may.fits.inside;
  size_before = size_before;
  size = size;
}

before_sized : (c : Block) (o : Option Body) (x : Body) → IfSome o (HasSize c) → HasSize c x → HasSize c (unwrap_or o x)
before_sized c (Some y) x sized size = sized
before_sized c None x sized size = size

others : (x : Change) (xs : List Change) → AllByRecursion (λ (y : Change). AreBeside x.block y.block) xs → AllByRecursion (IsElsewhere x.block) (writes_of xs)
others x [] all = tt
others x (y ∷ xs) all = (all.0.other, others x xs all.1)

-- its block's body after all of them is the one after itself
own_bytes : (x : Change) (xs : List Change) (c : Content) → AreApart (x ∷ xs) → (content_after (x ∷ xs) c x.block).bytes ≡ written x.offset x.new (c x.block).bytes
own_bytes x xs c apart =
    ap (λ (t : Bool). bytes_after (writes_of xs) x.block (cond t (written x.offset x.new (c x.block).bytes) (c x.block).bytes)) (same_self x.block)
    ∙ bytes_elsewhere (writes_of xs) x.block (written x.offset x.new (c x.block).bytes) (others x xs apart.0)

first_spelled : (gives : Option (List (List ℕ))) (f : StoreFacts) (x : Change) (xs : List Change) (q : Body) → AreApart (x ∷ xs) → IfSome gives (AreSpelled f (x ∷ xs)) → IsPresent gives f x.block q → IfSome gives (λ disk. has_spelling x.block.kind (written x.offset x.new q.bytes) ≡ true)
first_spelled None f x xs q apart spelled present = tt
first_spelled (Some disk) f x xs q apart spelled present =
    ap (λ (y : Body). has_spelling x.block.kind (written x.offset x.new y.bytes)) (sym present)
    ∙ ap (has_spelling x.block.kind) (sym (own_bytes x xs (present_on disk f) apart))
    ∙ spelled.0

pub may_change_first : (gives : Option (List (List ℕ))) (f : StoreFacts) (x : Change) (xs : List Change) → PagesAreEnough → IsStore f → x.block.first < 2 ^ 64 → MayLogAll gives f (x ∷ xs) → MayChangeNow gives f x.block x.offset x.new
may_change_first gives f x xs enough k near may = record {
  opened = may.opened;
  known = may.each.0.known;
  volume = may.each.0.volume;
  inside = may.each.0.inside;
  some = may.each.0.some;
  fits = may.each.0.fits.inside;
  spelled = λ q size present. first_spelled gives f x xs q may.apart may.spelled present;
  alone = may.alone.0;
  room = λ q size. enough.change f.log (λ b. (f.mark b).imaged) x xs f.tx f.last (body_before f x.block q).bytes q.bytes
      (logged f x (body_before f x.block q).bytes q.bytes may.each.0 near (before_sized x.block (f.before x.block) q (k.blocks.sized_before x.block) size) size) may.room;
}

-- ---- and then the rest

module _ (gives : Option (List (List ℕ))) (f : StoreFacts) (x : Change) (xs : List Change) (p : Body) (may : MayLogAll gives f (x ∷ xs)) where
  rest_each : AllByRecursion (MayLog (next f x p)) xs
  rest_each = each_weaker (MayLog f) (MayLog (next f x p)) (λ y is. record { known = is.known; volume = is.volume; inside = is.inside; some = is.some; fits = is.fits }) xs may.each.1

  apart_block : (y : Change) (b : Block) → AreBeside x.block y.block → are_rivals y.block b ≡ true → same_block b x.block ≡ false
  apart_block y b beside rival = by (same_block b x.block) refl
    where
      by : (t : Bool) → same_block b x.block ≡ t → t ≡ false
      by true is =
          let there : are_rivals x.block y.block ≡ true = rivals_both x.block y.block ∙ ap (are_rivals y.block) (sym (same_block-is b x.block is)) ∙ rival in
          absurd (true≢false (sym there ∙ beside.no_rival))
      by false is = refl

  rest_alone : AllByRecursion (λ y. (b : Block) → are_rivals y.block b ≡ true → (next f x p).before b ≡ None) xs
  rest_alone =
      each_both (λ (y : Change). AreBeside x.block y.block) (λ (y : Change). (b : Block) → are_rivals y.block b ≡ true → f.before b ≡ None) (λ (y : Change). (b : Block) → are_rivals y.block b ≡ true → (next f x p).before b ≡ None)
      (λ y beside alone b rival. ap (λ (t : Bool). cond t (Some (body_before f x.block p)) (f.before b)) (apart_block y b beside rival) ∙ alone b rival) xs may.apart.0 may.alone.1

  rest_room : PagesAreEnough → IsStore (next f x p) → x.block.first < 2 ^ 64 → HasRoom (next f x p).log (next f x p).tx (next f x p).last (pages_of_changes (next f x p) xs)
  rest_room enough k near =
      let there = enough.rest f.log (λ b. (f.mark b).imaged) x xs f.tx f.last (body_before f x.block p).bytes p.bytes (logged f x (body_before f x.block p).bytes p.bytes may.each.0 near (sized_before f x p k) (sized_present f x p k)) may.room in
      subst (λ (imaged : Block → Bool). HasRoom (next f x p).log f.tx (next f x p).last (pages_needed (next f x p).log.free imaged xs)) (sym (enough.marks x.block (suc (next f x p).log.sealed) f.mark)) there

rest_bytes : (disk : List (List ℕ)) (f : StoreFacts) (x : Change) (xs : List Change) (p : Body) (b : Block) → IsPresent (Some disk) f x.block p
    → (content_after xs (present_on disk (next f x p)) b).bytes ≡ (content_after (x ∷ xs) (present_on disk f) b).bytes
rest_bytes disk f x xs p b present =
    ap (λ (c : Content). bytes_after (writes_of xs) b (c b).bytes) (content_changed disk f x p present)
    ∙ ap (bytes_after (writes_of xs) b) (bytes_changed x (present_on disk f) b)

rest_spelled : (gives : Option (List (List ℕ))) (f : StoreFacts) (x : Change) (xs : List Change) (p : Body) → IsPresent gives f x.block p → IfSome gives (AreSpelled f (x ∷ xs)) → IfSome gives (AreSpelled (next f x p) xs)
rest_spelled None f x xs p present spelled = tt
rest_spelled (Some disk) f x xs p present spelled =
    each_weaker (λ (y : Change). has_spelling y.block.kind (content_after (x ∷ xs) (present_on disk f) y.block).bytes ≡ true) (λ (y : Change). has_spelling y.block.kind (content_after xs (present_on disk (next f x p)) y.block).bytes ≡ true)
    (λ y is. ap (has_spelling y.block.kind) (rest_bytes disk f x xs p y.block present) ∙ is) xs spelled.1

pub may_log_rest : (gives : Option (List (List ℕ))) (f : StoreFacts) (x : Change) (xs : List Change) (p : Body) → PagesAreEnough → IsStore (next f x p) → x.block.first < 2 ^ 64 → IsPresent gives f x.block p → MayLogAll gives f (x ∷ xs) → MayLogAll gives (next f x p) xs
may_log_rest gives f x xs p enough k near present may = record {
  opened = may.opened;
  each = rest_each gives f x xs p may;
  apart = may.apart.1;
  alone = rest_alone gives f x xs p may;
  spelled = rest_spelled gives f x xs p present may.spelled;
  room = rest_room gives f x xs p may enough k near;
}

-- ---- at the beginning

none_some : (o : Option Body) → is_some o ≡ false → o ≡ None
none_some (Some x) is = absurd (true≢false is)
none_some None is = refl

pub may_log_begun : (gives : Option (List (List ℕ))) (f : StoreFacts) (xs : List Change) → ((b : Block) → is_some (f.before b) ≡ false) → AllByRecursion (MayLog f) xs → AreApart xs → IfSome gives (AreSpelled f xs) → HasRoom f.log f.tx 0 (pages_of_changes f xs)
    → MayLogAll gives (begun_facts f) xs
may_log_begun gives f xs shut each apart spelled room = record {
  opened = refl;
  each = each_weaker (MayLog f) (MayLog (begun_facts f)) (λ y is. record { known = is.known; volume = is.volume; inside = is.inside; some = is.some; fits = is.fits }) xs each;
  apart = apart;
  alone = all_none xs;
  spelled = still gives spelled;
  room = room;
}
  where
    all_none : (ys : List Change) → AllByRecursion (λ (y : Change). (b : Block) → are_rivals y.block b ≡ true → (begun_facts f).before b ≡ None) ys
    all_none [] = tt
    all_none (y ∷ ys) = (λ b rival. none_some (f.before b) (shut b), all_none ys)

    still : (o : Option (List (List ℕ))) → IfSome o (AreSpelled f xs) → IfSome o (AreSpelled (begun_facts f) xs)
    still None is = tt
    still (Some disk) is = is
