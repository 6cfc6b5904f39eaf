-- Journals page by page.
use Rattle.std.proofs.Common.{◌≡◌, ℕ, zero, suc, ◌+◌, ◌-◌, ◌*◌, ◌/◌, ◌%◌, ◌<◌, ◌≤◌, List, [], ◌∷◌, ◌++◌, map, take, drop, Ok, refl, sym, ap, ◌∙◌, arith}
use Rattle.std.specs.Prelude.{min}
use Rattle.std.specs.List.{range_with_len}
use Rattle.record_model.specs.host_base.Answers.{◌>>=◌}
use Rattle.journal_model.specs.UsnRecords.{page_size}
use Rattle.journal_model.specs.Pages.{page_records, records_of}
use Rattle.journal_model.specs.Journals.{bytes_between, placed, page_from, page_to, page_entries, joined, pages_before, journal_from, journal_in}

-- ---- numbers in a row

next_range : (k n : ℕ) → range_with_len k (suc n) ≡ k ∷ range_with_len (k + 1) n
next_range k n = refl

pub range_same : {X : Type 0} (f g : ℕ → X) (a n : ℕ) → ((i : ℕ) → a ≤ i → i < a + n → f i ≡ g i) → map f (range_with_len a n) ≡ map g (range_with_len a n)
range_same f g a zero same = refl
range_same {X} f g a (suc n) same =
    let here : f a ≡ g a = same a (omega arith) (omega arith) in
    let rest : map f (range_with_len (a + 1) n) ≡ map g (range_with_len (a + 1) n) = range_same f g (a + 1) n (λ i le lt. same i (omega arith) (omega arith)) in
    ap (λ (x : X). x ∷ map f (range_with_len (a + 1) n)) here ∙ ap (λ (l : List X). g a ∷ l) rest

range_dropped : {X : Type 0} (f : ℕ → X) (j a n : ℕ) → drop j (map f (range_with_len a n)) ≡ map f (range_with_len (a + j) (n - j))
range_dropped f zero a n =
    let e : a + zero ≡ a = omega arith in
    let m : n - zero ≡ n = omega arith in
    sym (ap (λ (i : ℕ). map f (range_with_len i (n - zero))) e ∙ ap (λ (i : ℕ). map f (range_with_len a i)) m)
range_dropped f (suc j) a zero = let m : zero - suc j ≡ zero = omega arith in sym (ap (λ (i : ℕ). map f (range_with_len (a + suc j) i)) m)
range_dropped f (suc j) a (suc n) =
    let e : a + 1 + j ≡ a + suc j = omega arith in
    let m : n - j ≡ suc n - suc j = omega arith in
    range_dropped f j (a + 1) n ∙ ap (λ (i : ℕ). map f (range_with_len i (n - j))) e ∙ ap (λ (i : ℕ). map f (range_with_len (a + suc j) i)) m

range_taken : {X : Type 0} (f : ℕ → X) (j a n : ℕ) → take j (map f (range_with_len a n)) ≡ map f (range_with_len a (min j n))
range_taken f zero a n = let m : min zero n ≡ zero = omega arith in sym (ap (λ (i : ℕ). map f (range_with_len a i)) m)
range_taken f (suc j) a zero = let m : min (suc j) zero ≡ zero = omega arith in sym (ap (λ (i : ℕ). map f (range_with_len a i)) m)
range_taken {X} f (suc j) a (suc n) =
    let m : min (suc j) (suc n) ≡ suc (min j n) = omega arith in
    ap (λ (l : List X). f a ∷ l) (range_taken f j (a + 1) n) ∙ sym (ap (λ (i : ℕ). map f (range_with_len a i)) m)

-- ---- pages

pub journal_next : (byte : ℕ → ℕ) (first next k : ℕ) → k < pages_before next → journal_from byte first next k ≡ (page_entries byte first next k >>= λ here. journal_from byte first next (k + 1) >>= λ behind. Ok (here ++ behind))
unfolding journal_from joined
journal_next byte first next k lt =
    let count : pages_before next - k ≡ suc (pages_before next - (k + 1)) = omega arith in
    ap (λ (n : ℕ). joined (map (page_entries byte first next) (range_with_len k n))) count
    ∙ ap (λ (l : List ℕ). joined (map (page_entries byte first next) l)) (next_range k (pages_before next - (k + 1)))

pub journal_last : (byte : ℕ → ℕ) (first next k : ℕ) → pages_before next ≤ k → journal_from byte first next k ≡ Ok []
unfolding journal_from joined
journal_last byte first next k le =
    let count : pages_before next - k ≡ 0 = omega arith in
    ap (λ (n : ℕ). joined (map (page_entries byte first next) (range_with_len k n))) count

bytes_same : (byte byte' : ℕ → ℕ) (from to : ℕ) → ((i : ℕ) → from ≤ i → i < to → byte i ≡ byte' i) → bytes_between byte from to ≡ bytes_between byte' from to
unfolding bytes_between
bytes_same byte byte' from to same = range_same byte byte' from (to - from) (λ i le lt. same i le (omega arith))

page_same : (byte byte' : ℕ → ℕ) (first next k : ℕ) → ((i : ℕ) → first ≤ i → i < next → byte i ≡ byte' i) → page_entries byte first next k ≡ page_entries byte' first next k
unfolding page_entries
page_same byte byte' first next k same =
    ap (λ (l : List ℕ). placed (records_of l (page_from first k))) (bytes_same byte byte' (page_from first k) (page_to next k) (λ i le lt. same i (omega arith) (omega arith)))

pub journal_same : (byte byte' : ℕ → ℕ) (first next : ℕ) → ((i : ℕ) → first ≤ i → i < next → byte i ≡ byte' i) → journal_in byte first next ≡ journal_in byte' first next
unfolding journal_in journal_from
journal_same byte byte' first next same =
    ap joined (range_same (page_entries byte first next) (page_entries byte' first next) (first / page_size) (pages_before next - first / page_size) (λ k le lt. page_same byte byte' first next k same))

-- a page's bytes from an offset on, up to its end
pub page_from_min : (byte : ℕ → ℕ) (k at to : ℕ) → page_size * k ≤ at → at < page_size * k + page_size → page_records (bytes_between byte (page_size * k) to) at ≡ records_of (bytes_between byte at (min to (page_size * k + page_size))) at
unfolding page_records bytes_between
page_from_min byte k at to low high =
    let n = min page_size (to - page_size * k) in
    let place : at % page_size ≡ at - page_size * k = omega arith in
    let start : page_size * k + (at - page_size * k) ≡ at = omega arith in
    let count : n - (at - page_size * k) ≡ min to (page_size * k + page_size) - at = omega arith in
    ap (λ (l : List ℕ). records_of l at)
    (ap (drop (at % page_size)) (range_taken byte page_size (page_size * k) (to - page_size * k))
    ∙ ap (λ (j : ℕ). drop j (map byte (range_with_len (page_size * k) n))) place
    ∙ range_dropped byte (at - page_size * k) (page_size * k) n
    ∙ ap (λ (i : ℕ). map byte (range_with_len i (n - (at - page_size * k)))) start
    ∙ ap (λ (m : ℕ). map byte (range_with_len at m)) count)

-- the same where no byte is given behind the page
pub page_from_offset : (byte : ℕ → ℕ) (k at to : ℕ) → page_size * k ≤ at → at < page_size * k + page_size → to ≤ page_size * k + page_size → page_records (bytes_between byte (page_size * k) to) at ≡ records_of (bytes_between byte at to) at
page_from_offset byte k at to low high inside =
    let e : min to (page_size * k + page_size) ≡ to = omega arith in
    page_from_min byte k at to low high ∙ ap (λ (m : ℕ). records_of (bytes_between byte at m) at) e
