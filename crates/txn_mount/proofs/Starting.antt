-- A mount begins on a settled disk.
use Rattle.std.proofs.Common.{◌≡◌, ℕ, Bool, true, false, List, [], ◌∷◌, refl, sym, ap, ap₂, ◌∙◌}
use Rattle.std.specs.Prelude.{◌&&◌, ◌||◌, not, All, nat_eq}
use Rattle.std.specs.Cmp.Lexicographic.{pointwise}
use Rattle.std.proofs.lemmas.Bool.{eqb-true}
use Rattle.disk_model.specs.declared.block.Block.{Block}
use Rattle.disk_model.specs.Content.{Content, content_of}
use Rattle.sector_device.specs.Disks.{Disk, IsSettled, IsSized, newest, seen}
use Rattle.log_model.specs.declared.entry.Entry.{Entry}
use Rattle.log_model.specs.Logs.{IsLevel, is_shadowed, is_other, is_written_out, recovered}
use Rattle.txn_core.specs.log_page.declared.places.LogPlace.{LogPlace}
use Rattle.log_recovery.specs.Writing.{is_spelled, is_put_out}
use Rattle.store_model.specs.Volumes.{is_known}
use Rattle.txn_core.specs.txn_laws.Mounting.{StandsAt, IsMounting}
use Rattle.txn_core.proofs.txn_laws.Mounting.{mounts_go_on_law}
use Rattle.txn_core.proofs.txn_laws.Syncs.{and_left, and_right}
use Rattle.txn_core.specs.txn_model.Values.{is_own}
use Rattle.store_model.proofs.Told.{true≢false}
use Rattle.txn_mount.specs.Contents.{mounted_content, stays_torn}
use Rattle.txn_mount.specs.Images.{MountsOn}

same_bytes : (xs ys : List ℕ) → pointwise nat_eq xs ys ≡ true → xs ≡ ys
same_bytes [] [] h = refl
same_bytes [] (y ∷ ys) h = absurd (true≢false (sym h))
same_bytes (x ∷ xs) [] h = absurd (true≢false (sym h))
same_bytes (x ∷ xs) (y ∷ ys) h = ap₂ (λ (n : ℕ) (l : List ℕ). n ∷ l) (eqb-true x y (and_left (nat_eq x y) (pointwise nat_eq xs ys) h)) (same_bytes xs ys (and_right (nat_eq x y) (pointwise nat_eq xs ys) h))

pub not_other : (c : Content) (list : List Entry) (b : Block) → is_other c list b ≡ false → (recovered c list b).bytes ≡ (c b).bytes
unfolding is_other
not_other c list b is = go (pointwise nat_eq (recovered c list b).bytes (c b).bytes) refl is
  where
    go : (v : Bool) → pointwise nat_eq (recovered c list b).bytes (c b).bytes ≡ v → not v ≡ false → (recovered c list b).bytes ≡ (c b).bytes
    go true same h = same_bytes (recovered c list b).bytes (c b).bytes same
    go false same h = absurd cc

-- it is written out, and not put out
pub out_parts : (c : Content) (list : List Entry) (b : Block) → is_put_out c list b ≡ false → is_written_out c list b ≡ true → (is_spelled c list b ≡ false) × (is_other c list b ≡ false)
unfolding is_put_out
out_parts c list b none out = go (is_spelled c list b) refl (is_other c list b) refl (sym (ap (λ (v : Bool). v && (is_spelled c list b || is_other c list b)) out) ∙ none)
  where
    go : (u : Bool) → is_spelled c list b ≡ u → (v : Bool) → is_other c list b ≡ v → (u || v) ≡ false → (is_spelled c list b ≡ false) × (is_other c list b ≡ false)
    go false spelled false other h = (spelled, other)
    go true spelled v other h = absurd cc
    go false spelled true other h = absurd cc

pub out_written : (c : Content) (list : List Entry) (b : Block) → is_put_out c list b ≡ true → is_written_out c list b ≡ true
unfolding is_put_out
out_written c list b out = and_left (is_written_out c list b) (is_spelled c list b || is_other c list b) out

or_left : (x y : Bool) → x ≡ true → (x || y) ≡ true
or_left true y is = refl
or_left false y is = absurd cc

or_right : (x y : Bool) → y ≡ true → (x || y) ≡ true
or_right true y is = refl
or_right false y is = is

module _ (place : LogPlace) (kept : List Block) (list : List Entry) (first : Disk) (level : All IsLevel list) (still : IsSettled first) (sized : IsSized first) where
  abbrev own : ℕ → Bool
  own = is_own place kept

  abbrev c : Content
  c = content_of (seen first)

  abbrev t : Content
  t = mounted_content (content_of (seen first)) list

  begun : IsMounting own list (recovered (content_of (seen first)) list) (is_written_out (content_of (seen first)) list) first
  begun = mounts_go_on_law.start own list first level still sized

  torn_stays : (b : Block) → (recovered (content_of (seen first)) list b).torn ≡ true → (t b).torn ≡ true
  torn_stays b is = or_left (recovered (content_of (seen first)) list b).torn (stays_torn (content_of (seen first)) list b) is

  stands_first : (b : Block) → is_known own b ≡ true → is_shadowed list b ≡ false → is_put_out (content_of (seen first)) list b ≡ false → StandsAt t (seen first) b
  stands_first b known claimed none = go (is_written_out c list b) refl
    where
      go : (v : Bool) → is_written_out c list b ≡ v → StandsAt t (seen first) b
      go false out = let was = begun.stands b known claimed out in record { bytes = was.bytes; torn = λ is. torn_stays b (was.torn is) }
      go true out = let parts = out_parts c list b none out in record {
        bytes = sym (not_other c list b parts.1);
        torn = λ is. or_right (recovered c list b).torn (stays_torn c list b) (ap₂ (λ (x : Bool) (y : Bool). x && not y) out none);
      }

  mounting_first : IsMounting own list t (is_put_out (content_of (seen first)) list) first
  mounting_first = record {
    geometry = begun.geometry;
    volume = begun.volume;
    level = begun.level;
    sized = begun.sized;
    begins = λ at left b claimed. (let was = begun.begins at left b claimed in record { same = was.same; torn_most = λ i lt k none torn. torn_stays b (was.torn_most i lt k none torn) });
    stands = stands_first;
  }

  pub mount_begins : MountsOn place kept list first 0 (is_put_out (content_of (seen first)) list) first
  mount_begins = record {
    mounting = mounting_first;
    pages = record { durable = λ k i low lt few. refl; written = λ k i low lt few. refl };
    spares = record { spared = λ b known has claimed none s within. (still s, sym (ap (λ (vs : List (List ℕ)). newest vs (first.durable s)) (still s))) };
  }
