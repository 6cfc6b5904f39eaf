-- Journals in two parts, and zeros behind them.
use Rattle.std.proofs.Common.{◌≡◌, ℕ, zero, suc, ◌+◌, ◌-◌, ◌*◌, ◌/◌, ◌<◌, ◌≤◌, List, [], ◌∷◌, ◌++◌, map, Result, Ok, Err, refl, sym, ap, ◌∙◌, append_assoc, inl, inr, arith}
use Rattle.std.specs.List.{range_with_len}
use Rattle.std.proofs.lemmas.Bool.{cases_lt}
use Rattle.std.proofs.lemmas.List.{map-append, append-nil, get_or_past}
use Rattle.std.proofs.lemmas.List.FromFn.{get_or-map-range_with_len, length-map-range_with_len}
use Rattle.record_model.specs.host_base.Answers.{◌>>=◌}
use Rattle.record_model.specs.disk_model.Bytes.{AreBytes, zeros, all_zeros}
use Rattle.file_tree.specs.declared.journal.Usn.{Usn}
use Rattle.journal_model.specs.declared.fault.UsnFault.{UsnFault}
use Rattle.journal_model.specs.UsnRecords.{page_size}
use Rattle.journal_model.specs.Pages.{records_of}
use Rattle.journal_model.specs.Journals.{bytes_between, placed, page_from, page_to, page_entries, joined, pages_before, journal_from, journal_in}
use Rattle.journal_model.proofs.PageRead.{records_end}
use Rattle.journal_model.proofs.RecordsBehind.{zeros_behind}
use Rattle.journal_model.proofs.JournalPages.{range_same}

-- ---- two parts

range_joined : (a m n : ℕ) → range_with_len a (m + n) ≡ range_with_len a m ++ range_with_len (a + m) n
range_joined a zero n =
    let e : zero + n ≡ n = omega arith in
    let f : a ≡ a + zero = omega arith in
    ap (range_with_len a) e ∙ ap (λ (i : ℕ). range_with_len i n) f
range_joined a (suc m) n =
    let e : suc m + n ≡ suc (m + n) = omega arith in
    let f : a + 1 + m ≡ a + suc m = omega arith in
    ap (range_with_len a) e ∙ ap (λ (l : List ℕ). a ∷ l) (range_joined (a + 1) m n) ∙ ap (λ (i : ℕ). a ∷ (range_with_len (a + 1) m ++ range_with_len i n)) f

abbrev after : Result (List Usn) ℕ → Result (List Usn) ℕ → Result (List Usn) ℕ
after front rest = front >>= λ a. rest >>= λ b. Ok (a ++ b)

after_assoc : (x y z : Result (List Usn) ℕ) → after x (after y z) ≡ after (after x y) z
after_assoc (Err fault) y z = refl
after_assoc (Ok a) (Err fault) z = refl
after_assoc (Ok a) (Ok b) (Err fault) = refl
after_assoc (Ok a) (Ok b) (Ok c) = ap (λ (l : List Usn). Ok l) (sym (append_assoc a b c))

after_none : (y : Result (List Usn) ℕ) → y ≡ after (Ok []) y
after_none (Ok b) = refl
after_none (Err fault) = refl

joined-append : (xs ys : List (Result (List Usn) ℕ)) → joined (xs ++ ys) ≡ after (joined xs) (joined ys)
unfolding joined
joined-append [] ys = after_none (joined ys)
joined-append (x ∷ xs) ys = ap (after x) (joined-append xs ys) ∙ after_assoc x (joined xs) (joined ys)

module _ (byte : ℕ → ℕ) (first next k : ℕ) (low : first ≤ page_size * k) (high : page_size * k ≤ next) where
  front_page : (j : ℕ) → j < k → page_entries byte first next j ≡ page_entries byte first (page_size * k) j
  unfolding page_entries
  front_page j lt =
      let to : page_to next j ≡ page_to (page_size * k) j = omega arith in
      ap (λ (t : ℕ). placed (records_of (bytes_between byte (page_from first j) t) (page_from first j))) to

  last_page : (j : ℕ) → k ≤ j → page_entries byte first next j ≡ page_entries byte (page_size * k) next j
  unfolding page_entries
  last_page j le =
      let from : page_from first j ≡ page_from (page_size * k) j = omega arith in
      ap (λ (f : ℕ). placed (records_of (bytes_between byte f (page_to next j)) f)) from

  pub journal_split : journal_in byte first next ≡ (journal_in byte first (page_size * k) >>= λ front. journal_in byte (page_size * k) next >>= λ behind. Ok (front ++ behind))
  unfolding journal_in journal_from
  journal_split =
      let a = first / page_size in
      let m = k - a in
      let n = pages_before next - k in
      let count : pages_before next - a ≡ m + n = omega arith in
      let begin : a + m ≡ k = omega arith in
      let front_count : m ≡ pages_before (page_size * k) - a = omega arith in
      let last_begin : k ≡ page_size * k / page_size = omega arith in
      let f = page_entries byte first next in
      ap (λ (c : ℕ). joined (map f (range_with_len a c))) count
      ∙ ap (λ (l : List ℕ). joined (map f l)) (range_joined a m n)
      ∙ ap joined (map-append f (range_with_len a m) (range_with_len (a + m) n))
      ∙ joined-append (map f (range_with_len a m)) (map f (range_with_len (a + m) n))
      ∙ ap (λ (l : List (Result (List Usn) ℕ)). after (joined l) (joined (map f (range_with_len (a + m) n)))) (range_same f (page_entries byte first (page_size * k)) a m (λ j le lt. front_page j (omega arith)))
      ∙ ap (λ (l : List (Result (List Usn) ℕ)). after (joined (map (page_entries byte first (page_size * k)) (range_with_len a m))) (joined l)) (range_same f (page_entries byte (page_size * k) next) (a + m) n (λ j le lt. last_page j (omega arith)))
      ∙ ap (λ (c : ℕ). after (joined (map (page_entries byte first (page_size * k)) (range_with_len a c))) (joined (map (page_entries byte (page_size * k) next) (range_with_len (a + m) n)))) front_count
      ∙ ap (λ (i : ℕ). after (joined (map (page_entries byte first (page_size * k)) (range_with_len a (pages_before (page_size * k) - a)))) (joined (map (page_entries byte (page_size * k) next) (range_with_len i n)))) begin
      ∙ ap (λ (i : ℕ). after (joined (map (page_entries byte first (page_size * k)) (range_with_len a (pages_before (page_size * k) - a)))) (joined (map (page_entries byte (page_size * k) next) (range_with_len i (pages_before next - i))))) last_begin

-- ---- zeros

zeros_between : (byte : ℕ → ℕ) (a n : ℕ) → ((i : ℕ) → a ≤ i → i < a + n → byte i ≡ 0) → map byte (range_with_len a n) ≡ zeros n
unfolding zeros
zeros_between byte a zero none = refl
zeros_between byte a (suc n) none =
    ap (λ (x : ℕ). x ∷ map byte (range_with_len (a + 1) n)) (none a (omega arith) (omega arith)) ∙ ap (λ (l : List ℕ). 0 ∷ l) (zeros_between byte (a + 1) n (λ i le lt. none i (omega arith) (omega arith)))

pub bytes_are : (byte : ℕ → ℕ) (from to : ℕ) → ((i : ℕ) → byte i < 256) → AreBytes (bytes_between byte from to)
unfolding bytes_between
bytes_are byte from to each i =
    elim (cases_lt i (to - from)) [
      | inl lt ↦ (let e = get_or-map-range_with_len byte from (to - from) i (from + i) 0 lt refl in omega (arith, e, each (from + i)))
      | inr le ↦ (let e = get_or_past (map byte (range_with_len from (to - from))) i 0 (omega (arith, length-map-range_with_len byte from (to - from))) in omega (arith, e))
    ]

-- bytes up to a later offset, where zeros stand between
bytes_filled : (byte : ℕ → ℕ) (from to to' : ℕ) → to ≤ to' → ((i : ℕ) → from ≤ i → to ≤ i → i < to' → byte i ≡ 0) → bytes_between byte from to' ≡ bytes_between byte from to ++ zeros (to' - from - (to - from))
unfolding bytes_between
bytes_filled byte from to to' le none =
    let m = to - from in
    let n = to' - from - m in
    let count : to' - from ≡ m + n = omega arith in
    ap (λ (c : ℕ). map byte (range_with_len from c)) count
    ∙ ap (map byte) (range_joined from m n)
    ∙ map-append byte (range_with_len from m) (range_with_len (from + m) n)
    ∙ ap (λ (l : List ℕ). map byte (range_with_len from m) ++ l) (zeros_between byte (from + m) n (λ i ge lt. none i (omega arith) (omega arith) (omega arith)))

pub placed_ok : (r : Result (List Usn) UsnFault) (entries : List Usn) → placed r ≡ Ok entries → r ≡ Ok entries
placed_ok (Ok x) entries e = cc
placed_ok (Err fault) entries e = absurd cc

after_ok : (x y : Result (List Usn) ℕ) (entries : List Usn) → after x y ≡ Ok entries → (a : List Usn) × (b : List Usn) × (x ≡ Ok a) × (y ≡ Ok b) × (a ++ b ≡ entries)
after_ok (Err fault) y entries e = absurd cc
after_ok (Ok a) (Err fault) entries e = absurd cc
after_ok (Ok a) (Ok b) entries e = (a, b, refl, refl, cc)

-- pages that are read stay so
pages_stay : (f g : ℕ → Result (List Usn) ℕ) (a n : ℕ) (entries : List Usn) → ((j : ℕ) (es : List Usn) → f j ≡ Ok es → g j ≡ Ok es) → joined (map f (range_with_len a n)) ≡ Ok entries → joined (map g (range_with_len a n)) ≡ Ok entries
unfolding joined
pages_stay f g a zero entries same e = e
pages_stay f g a (suc n) entries same e =
    let p = after_ok (f a) (joined (map f (range_with_len (a + 1) n))) entries e in
    let x : g a ≡ Ok p.0 = same a p.0 p.2 in
    let y : joined (map g (range_with_len (a + 1) n)) ≡ Ok p.1 = pages_stay f g (a + 1) n p.1 same p.3 in
    ap (λ (r : Result (List Usn) ℕ). after r (joined (map g (range_with_len (a + 1) n)))) x ∙ ap (after (Ok p.0)) y ∙ ap (λ (l : List Usn). Ok l) p.4

-- pages of no entries add none
no_pages : (g : ℕ → Result (List Usn) ℕ) (a n : ℕ) → ((j : ℕ) → a ≤ j → g j ≡ Ok []) → joined (map g (range_with_len a n)) ≡ Ok []
unfolding joined
no_pages g a zero none = refl
no_pages g a (suc n) none =
    ap (λ (r : Result (List Usn) ℕ). after r (joined (map g (range_with_len (a + 1) n)))) (none a (omega arith)) ∙ ap (after (Ok [])) (no_pages g (a + 1) n (λ j le. none j (omega arith)))

module _ (byte : ℕ → ℕ) (first next next' : ℕ) (entries : List Usn) (each : (i : ℕ) → byte i < 256) (le : next ≤ next') (none : (i : ℕ) → next ≤ i → i < next' → byte i ≡ 0) where
  page_stays : (j : ℕ) (es : List Usn) → page_entries byte first next j ≡ Ok es → page_entries byte first next' j ≡ Ok es
  unfolding page_entries
  page_stays j es e =
      let from = page_from first j in
      let more = bytes_filled byte from (page_to next j) (page_to next' j) (omega arith) (λ i ge to lt. none i (omega arith) (omega arith)) in
      let was = placed_ok (records_of (bytes_between byte from (page_to next j)) from) es e in
      ap (λ (l : List ℕ). placed (records_of l from)) more
      ∙ ap placed (zeros_behind (bytes_between byte from (page_to next j)) from (page_to next' j - from - (page_to next j - from)) es (bytes_are byte from (page_to next j) each) was)

  no_page : (j : ℕ) → pages_before next ≤ j → page_entries byte first next j ≡ Ok []
  unfolding page_entries bytes_between all_zeros
  no_page j ge =
      let count : page_to next j - page_from first j ≡ 0 = omega arith in
      ap (λ (n : ℕ). placed (records_of (map byte (range_with_len (page_from first j) n)) (page_from first j))) count ∙ ap placed (records_end [] (page_from first j) refl)

  pub journal_filled : journal_in byte first next ≡ Ok entries → journal_in byte first next' ≡ Ok entries
  unfolding journal_in journal_from
  journal_filled e =
      let a = first / page_size in
      let m = pages_before next - a in
      let n = pages_before next' - a - m in
      let count : pages_before next' - a ≡ m + n = omega arith in
      let g = page_entries byte first next' in
      ap (λ (c : ℕ). joined (map g (range_with_len a c))) count
      ∙ ap (λ (l : List ℕ). joined (map g l)) (range_joined a m n)
      ∙ ap joined (map-append g (range_with_len a m) (range_with_len (a + m) n))
      ∙ joined-append (map g (range_with_len a m)) (map g (range_with_len (a + m) n))
      ∙ ap (λ (r : Result (List Usn) ℕ). after r (joined (map g (range_with_len (a + m) n)))) (pages_stay (page_entries byte first next) g a m entries page_stays e)
      ∙ ap (after (Ok entries)) (no_pages g (a + m) n (λ j ge. page_stays j [] (no_page j (omega arith))))
      ∙ ap (λ (l : List Usn). Ok l) (append-nil entries)
