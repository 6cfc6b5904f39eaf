-- The disk that a store sees of a device.
use mathlib.Core.Path.{fun_ext}
use Rattle.std.proofs.Common.{◌≡◌, ◌⊎◌, ℕ, zero, suc, ◌+◌, ◌-◌, ◌<◌, ◌≤◌, Bool, true, false, List, [], ◌∷◌, length, refl, sym, ap, ◌∙◌, inl, inr, arith}
use Rattle.std.specs.Cmp.Lexicographic.{pointwise}
use Rattle.std.specs.Prelude.{Contains, nat_eq, ◌||◌, ◌&&◌, if◌then◌else◌, not, nat_le, nat_lt, replicate}
use Rattle.std.specs.List.{list_all, list_any, range_with_len}
use Rattle.std.proofs.lemmas.Bool.{and_parts, leb-true, ltb-true}
use Rattle.std.proofs.lemmas.List.{length-replicate}
use Rattle.log_reading.specs.disk_model.declared.block.Block.{Block}
use Rattle.log_reading.specs.disk_model.declared.block.Body.{Body}
use Rattle.log_reading.specs.disk_model.declared.block.BlockKind.TheVariants.{Plain}
use Rattle.log_reading.specs.disk_model.Sectors.{zero_sector, sectors, sector_of, same_kind}
use Rattle.log_reading.specs.disk_model.Content.{Content, content_of}
use Rattle.log_reading.specs.disk_model.Writes.{bytes_after, cover_all}
use Rattle.store_model.specs.log_model.declared.entry.Entry.{Entry}
use Rattle.store_model.specs.log_model.Logs.{is_in_grid, updates, is_shadowed, recovery_of, recovered, is_covered_whole, is_other, is_written_out, is_partial}
use Rattle.store_model.specs.sector_device.Disks.{Disk, newest, seen, MayHold, is_within, put, settled, IsBetween}
use Rattle.store_model.specs.Geometry.{SectorBytes, CanLeave, Geometry, Puts, PutsAll}
use Rattle.store_model.specs.Events.{StandsAs}
use Rattle.store_model.specs.Volumes.{is_free, is_known, sectors_from, IsVolume, BearsContent, AreWhole, IsRecovered}
use Rattle.store_model.proofs.Known.{own_content}
use Rattle.store_model.proofs.Devices.{put_is, torn_is}
use Rattle.ring_laws.specs.StoreDisks.{sectors_without, disk_without}
use Rattle.ring_laws.proofs.RingFacts.{true_false}

-- ---- known blocks have no own sector

all_at : (p : ℕ → Bool) (a n i : ℕ) → list_all p (range_with_len a n) ≡ true → i < n → p (a + i) ≡ true
all_at p a zero i h lt = absurd (omega (arith, lt))
all_at p a (suc n) zero h lt = ap p (let e : a + 0 ≡ a = omega arith in e) ∙ (and_parts (p a) (list_all p (range_with_len (a + 1) n)) h).0
all_at p a (suc n) (suc i) h lt = ap p (let e : a + suc i ≡ a + 1 + i = omega arith in e) ∙ all_at p (a + 1) n i (and_parts (p a) (list_all p (range_with_len (a + 1) n)) h).1 (omega (arith, lt))

not_true : (v : Bool) → not v ≡ true → v ≡ false
not_true true e = absurd (true_false (sym e))
not_true false e = refl

pub not_own : (own : ℕ → Bool) (b : Block) (n : ℕ) → is_known own b ≡ true → is_within b.first (sectors b.kind) n ≡ true → own n ≡ false
not_own own b n known within =
    let free = (and_parts (is_in_grid b) (is_free own b) known).1 in
    let at = and_parts (nat_le b.first n) (nat_lt n (b.first + sectors b.kind)) within in
    let low : b.first ≤ n = leb-true b.first n at.0 in
    let high : n < b.first + sectors b.kind = ltb-true n (b.first + sectors b.kind) at.1 in
    ap own (let e : n ≡ b.first + (n - b.first) = omega (arith, low) in e) ∙ not_true (own (b.first + (n - b.first))) (all_at (λ s. not (own s)) b.first (sectors b.kind) (n - b.first) free (omega (arith, low, high)))

-- a recovered body hangs on the block's own body alone
recovered_same : (list : List Entry) (b : Block) (c d : Content) → c b ≡ d b → recovered c list b ≡ recovered d list b
unfolding recovered
recovered_same list b c d same = ap of_body same
  where
    of_body : Body → Body
    of_body body = if is_shadowed list b then body else record { bytes = bytes_after (recovery_of list) b body.bytes; torn = body.torn && not (cover_all (recovery_of list) b (length body.bytes)) }

pub other_same : (list : List Entry) (b : Block) (c d : Content) → c b ≡ d b → is_other c list b ≡ is_other d list b
unfolding is_other
other_same list b c d same = ap (λ (body : Body). not (pointwise nat_eq body.bytes (c b).bytes)) (recovered_same list b c d same) ∙ ap (λ (body : Body). not (pointwise nat_eq (recovered d list b).bytes body.bytes)) same

pub partial_same : (list : List Entry) (b : Block) (c d : Content) → c b ≡ d b → is_partial c list b ≡ is_partial d list b
unfolding is_partial
partial_same list b c d same = ap (λ (v : Bool). not (same_kind b.kind Plain) && not (is_shadowed list b) && not (is_covered_whole list b) && v) (other_same list b c d same)

pub written_same : (list : List Entry) (b : Block) (c d : Content) → c b ≡ d b → is_written_out c list b ≡ is_written_out d list b
unfolding is_written_out
written_same list b c d same =
    ap (λ (v : Bool). list_any (λ (e : Entry). updates b e.act) list && not (is_shadowed list b) && (v || ((c b).torn && is_covered_whole list b))) (other_same list b c d same)
    ∙ ap (λ (body : Body). list_any (λ (e : Entry). updates b e.act) list && not (is_shadowed list b) && (is_other d list b || (body.torn && is_covered_whole list b))) same

-- what is written out has an update
pub written_updated : (list : List Entry) (b : Block) (c : Content) → is_written_out c list b ≡ true → list_any (λ (e : Entry). updates b e.act) list ≡ true
unfolding is_written_out
written_updated list b c out = (and_parts (list_any (λ (e : Entry). updates b e.act) list) (not (is_shadowed list b)) (and_parts (list_any (λ (e : Entry). updates b e.act) list && not (is_shadowed list b)) (is_other c list b || ((c b).torn && is_covered_whole list b)) out).0).0

module _ (own : ℕ → Bool) where
  -- ---- sector by sector

  durable_at : (disk : Disk) (n : ℕ) → own n ≡ false → (disk_without own disk).durable n ≡ disk.durable n
  durable_at disk n e = ap (λ (v : Bool). if v then zero_sector else disk.durable n) e

  written_at : (disk : Disk) (n : ℕ) → own n ≡ false → (disk_without own disk).written n ≡ disk.written n
  written_at disk n e = ap (λ (v : Bool). if v then [] else disk.written n) e

  pub same_without : (before now : Disk) → ((n : ℕ) → own n ≡ false → now.durable n ≡ before.durable n) → ((n : ℕ) → own n ≡ false → now.written n ≡ before.written n) → disk_without own now ≡ disk_without own before
  same_without before now durable written =
      ap (λ (f : ℕ → List ℕ). record { durable = f; written = (disk_without own now).written }) (fun_ext durable_same) ∙ ap (λ (f : ℕ → List (List ℕ)). record { durable = (disk_without own before).durable; written = f }) (fun_ext written_same)
    where
      durable_same : (n : ℕ) → (disk_without own now).durable n ≡ (disk_without own before).durable n
      durable_same n = go (own n) refl
        where
          go : (v : Bool) → own n ≡ v → (if v then zero_sector else now.durable n) ≡ (if v then zero_sector else before.durable n)
          go true e = refl
          go false e = durable n e

      written_same : (n : ℕ) → (disk_without own now).written n ≡ (disk_without own before).written n
      written_same n = go (own n) refl
        where
          go : (v : Bool) → own n ≡ v → ◌≡◌ {A = List (List ℕ)} (if v then [] else now.written n) (if v then [] else before.written n)
          go true e = refl
          go false e = written n e

  -- ---- images

  pub without_left : (disk : Disk) (image : SectorBytes) → CanLeave disk image → CanLeave (disk_without own disk) (sectors_without own image)
  without_left disk image left n = go (own n)
    where
      go : (v : Bool) → ((if v then zero_sector else image n) ≡ (if v then zero_sector else disk.durable n)) ⊎ Contains (if v then [] else disk.written n) (if v then zero_sector else image n)
      go true = inl refl
      go false = left n

  pub without_content : (at : SectorBytes) (b : Block) → is_known own b ≡ true → content_of (sectors_without own at) b ≡ content_of at b
  without_content at b known = own_content b (sectors_without own at) at (λ n within. ap (λ (v : Bool). if v then zero_sector else at n) (not_own own b n known within))

  pub without_recovered : (at : SectorBytes) (list : List Entry) (content : Content) (b : Block) → is_known own b ≡ true → IsRecovered list (sectors_without own at) content b → IsRecovered list at content b
  without_recovered at list content b known h =
      let same : recovered (content_of at) list b ≡ recovered (content_of (sectors_without own at)) list b = recovered_same list b (content_of at) (content_of (sectors_without own at)) (sym (without_content at b known)) in
      record { bytes = ap (λ (body : Body). body.bytes) same ∙ h.bytes; torn = λ torn. h.torn (ap (λ (body : Body). body.torn) (sym same) ∙ torn) }

  pub without_seen : (disk : Disk) → seen (disk_without own disk) ≡ sectors_without own (seen disk)
  without_seen disk = fun_ext (λ n. go n (own n))
    where
      go : (n : ℕ) (v : Bool) → newest (if v then [] else disk.written n) (if v then zero_sector else disk.durable n) ≡ (if v then zero_sector else seen disk n)
      go n true = refl
      go n false = refl

  pub without_whole : (at : SectorBytes) → AreWhole at → AreWhole (sectors_without own at)
  unfolding zero_sector
  without_whole at whole n = go (own n)
    where
      go : (v : Bool) → length (if v then replicate 512 0 else at n) ≡ 512
      go true = length-replicate {A = ℕ} 512 0
      go false = whole n

  -- an image of what a store sees, put back over own sectors
  abbrev over : Disk → SectorBytes → SectorBytes
  over disk at n = if own n then disk.durable n else at n

  over_left : (disk : Disk) (at : SectorBytes) → CanLeave (disk_without own disk) at → CanLeave disk (over disk at)
  over_left disk at left n = go (own n) refl (left n)
    where
      go : (v : Bool) → own n ≡ v → (at n ≡ (if v then zero_sector else disk.durable n)) ⊎ Contains (if v then [] else disk.written n) (at n) → MayHold disk n (if v then disk.durable n else at n)
      go true e holds = inl refl
      go false e holds = holds

  over_content : (disk : Disk) (at : SectorBytes) (b : Block) → is_known own b ≡ true → content_of (over disk at) b ≡ content_of at b
  over_content disk at b known = own_content b (over disk at) at (λ n within. ap (λ (v : Bool). if v then disk.durable n else at n) (not_own own b n known within))

  pub without_bears : (disk : Disk) (content : Content) → BearsContent own disk content → BearsContent own (disk_without own disk) content
  without_bears disk content bears at b left known =
      let it = bears (over disk at) b (over_left disk at left) known in
      let same = over_content disk at b known in
      (ap (λ (body : Body). body.bytes) (sym same) ∙ it.0, λ torn. it.1 (ap (λ (body : Body). body.torn) same ∙ torn))

  -- ---- calls

  pub own_put : (first : ℕ) (new : List (List ℕ)) (disk now : Disk) → ((n : ℕ) → is_within first (length new) n ≡ true → own n ≡ true) → IsBetween disk (put first new disk) now → disk_without own now ≡ disk_without own disk
  own_put first new disk now inside between = same_without disk now (λ n e. between.durable n) (λ n e. go n e (is_within first (length new) n) refl (between.written n))
    where
      go : (n : ℕ) → own n ≡ false → (v : Bool) → is_within first (length new) n ≡ v → (now.written n ≡ disk.written n) ⊎ (now.written n ≡ (put first new disk).written n) → now.written n ≡ disk.written n
      go n e v within (inl same) = same
      go n e true within (inr same) = absurd (true_false (sym (inside n within) ∙ e))
      go n e false within (inr same) = same ∙ ap (λ (v : Bool). if v then sector_of new (n - first) ∷ disk.written n else disk.written n) within

  pub without_synced : (disk : Disk) → disk_without own (settled disk) ≡ settled (disk_without own disk)
  without_synced disk =
      ap (λ (f : ℕ → List ℕ). record { durable = f; written = (disk_without own (settled disk)).written }) (sym (without_seen disk))
      ∙ ap (λ (f : ℕ → List (List ℕ)). record { durable = seen (disk_without own disk); written = f }) (fun_ext (λ n. go (own n)))
    where
      go : (v : Bool) → ◌≡◌ {A = List (List ℕ)} (if v then [] else []) []
      go true = refl
      go false = refl

  pub without_again : (disk now : Disk) → StandsAs disk now → StandsAs (disk_without own disk) (disk_without own now)
  without_again disk now stands = record {
    seen = λ n. ap (λ (f : SectorBytes). f n) (without_seen now) ∙ go n (own n) ∙ ap (λ (f : SectorBytes). f n) (sym (without_seen disk));
    leaves = λ at left n. back at n (own n) refl (left n) (stands.leaves (over now at) (over_left now at left) n);
  }
    where
      go : (n : ℕ) (v : Bool) → (if v then zero_sector else seen now n) ≡ (if v then zero_sector else seen disk n)
      go n true = refl
      go n false = stands.seen n

      back : (at : SectorBytes) (n : ℕ) (v : Bool) → own n ≡ v → (at n ≡ (if v then zero_sector else now.durable n)) ⊎ Contains (if v then [] else now.written n) (at n) → MayHold disk n (if v then now.durable n else at n)
          → (at n ≡ (if v then zero_sector else disk.durable n)) ⊎ Contains (if v then [] else disk.written n) (at n)
      back at n true e (inl is) holds = inl is
      back at n true e (inr m) holds = absurd (omega (arith, m.1))
      back at n false e left holds = holds

  module _ (geometry : Geometry) (volume : IsVolume own geometry) (b : Block) (new : List (List ℕ)) (known : is_known own b ≡ true) (sized : length new ≡ sectors b.kind) where
    here : (n : ℕ) → geometry.has b n ≡ true → own n ≡ false
    here n has = not_own own b n known (sym (volume.has b n) ∙ has)

    pub without_failed : (disk now : Disk) → IsBetween disk (put b.first new disk) now → Puts geometry b (sectors_from b.first new) (disk_without own disk) (disk_without own now)
    without_failed disk now between =
        let puts = torn_is own geometry volume b new disk now sized between in
        record {
          durable = λ n. durable n (own n) (puts.durable n);
          own = λ n has. put_one n (here n has) (puts.own n has);
          other = λ n has. other n (own n) (puts.other n has);
        }
      where
        durable : (n : ℕ) (v : Bool) → now.durable n ≡ disk.durable n → (if v then zero_sector else now.durable n) ≡ (if v then zero_sector else disk.durable n)
        durable n true e = refl
        durable n false e = e

        other : (n : ℕ) (v : Bool) → now.written n ≡ disk.written n → ◌≡◌ {A = List (List ℕ)} (if v then [] else now.written n) (if v then [] else disk.written n)
        other n true e = refl
        other n false e = e

        put_one : (n : ℕ) → own n ≡ false → (now.written n ≡ disk.written n) ⊎ (now.written n ≡ sectors_from b.first new n ∷ disk.written n)
            → ((disk_without own now).written n ≡ (disk_without own disk).written n) ⊎ ((disk_without own now).written n ≡ sectors_from b.first new n ∷ (disk_without own disk).written n)
        put_one n e (inl same) = inl (written_at now n e ∙ same ∙ sym (written_at disk n e))
        put_one n e (inr more) = inr (written_at now n e ∙ more ∙ ap (λ (vs : List (List ℕ)). sectors_from b.first new n ∷ vs) (sym (written_at disk n e)))

    pub without_written : (disk : Disk) → PutsAll geometry b (sectors_from b.first new) (disk_without own disk) (disk_without own (put b.first new disk))
    without_written disk =
        let puts = put_is own geometry volume b new disk sized in
        record {
          durable = λ n. refl;
          own = λ n has. written_at (put b.first new disk) n (here n has) ∙ puts.own n has ∙ ap (λ (vs : List (List ℕ)). sectors_from b.first new n ∷ vs) (sym (written_at disk n (here n has)));
          other = λ n has. other n (own n) (puts.other n has);
        }
      where
        other : (n : ℕ) (v : Bool) → (put b.first new disk).written n ≡ disk.written n → ◌≡◌ {A = List (List ℕ)} (if v then [] else (put b.first new disk).written n) (if v then [] else disk.written n)
        other n true e = refl
        other n false e = e
