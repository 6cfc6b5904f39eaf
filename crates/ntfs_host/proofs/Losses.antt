-- How much of a source was read.
use Rattle.std.proofs.Common.{ℕ, ◌+◌, ◌≤◌, List, [], ◌++◌, length, Option, arith}
use Rattle.std.specs.Io.KnownBytes.{Consumes, Keeps}
use Rattle.std.proofs.KnownBytes.{Consumes-nil, Consumes-kept, Consumes-trans}
use Rattle.std.proofs.lemmas.List.{length-append}
use Rattle.ntfs_host.specs.Scripts.{LosesAtMost}

pub loses_none : (most : ℕ) (left : Option (List ℕ)) → LosesAtMost most left left
loses_none most left = record { front = []; few = omega arith; lost = Consumes-nil left }

pub loses_kept : (most : ℕ) (left left_now : Option (List ℕ)) → Keeps left left_now → LosesAtMost most left left_now
loses_kept most left left_now kept = record { front = []; few = omega arith; lost = Consumes-kept left left left_now [] (Consumes-nil left) kept }

pub loses_front : (most : ℕ) (left left_now : Option (List ℕ)) (front : List ℕ) → Consumes left left_now front → length front ≤ most → LosesAtMost most left left_now
loses_front most left left_now front lost few = record { front = front; few = few; lost = lost }

pub loses_more : (most more : ℕ) (left left_mid left_now : Option (List ℕ)) (front : List ℕ) → Consumes left left_mid front → length front + more ≤ most
    → LosesAtMost more left_mid left_now → LosesAtMost most left left_now
loses_more most more left left_mid left_now front lost few then = record {
  front = front ++ then.front;
  few = rw (length-append front then.front) (omega (arith, few, then.few));
  lost = Consumes-trans left left_mid left_now front then.front lost then.lost;
}
