-- The tests of a record one after the other: what each says of the record, and of its length.
use Rattle.std.proofs.Common.{◌≡◌, ℕ, Bool, true, false, not, List, take, Option, Some, None, Result, Ok, Err, refl, sym, ap, ◌∙◌}
use Rattle.std.specs.Prelude.{◌&&◌, ◌==◌, if◌then◌else◌}
use Rattle.host_base.specs.Answers.{◌>>=◌, needs, Explains}
use Rattle.disk_model.specs.Numbers.{field}
use Rattle.file_tree.specs.declared.journal.Usn.{Usn}
use Rattle.journal_model.specs.declared.fault.UsnFault.{UsnFault}
use Rattle.journal_model.specs.declared.fault.UsnFault.TheVariants.{Cut, Shape, Memory}
use Rattle.journal_model.specs.UsnRecords.{usn_cause, known_version, is_whole, is_length, own_bytes, is_usn, usn_of, entry_in, usn_in}
use Rattle.usn_record.specs.Checking.{length_in}

abbrev by_version : Bool → Bool → Usn → ℕ → Result (Option Usn) UsnFault
by_version v s entry at = if v then (needs s (Shape at) >>= λ _. Ok (Some entry)) else Ok None

abbrev chain : Bool → Bool → Bool → Bool → Usn → ℕ → ℕ → Result (Option Usn × ℕ) UsnFault
chain w l v s entry n at = needs w (Cut at) >>= λ _. needs l (Shape at) >>= λ _. by_version v s entry at >>= λ found. Ok (found, n)

abbrev lengths : Result (Option Usn × ℕ) UsnFault → Result ℕ UsnFault
lengths r = r >>= λ found. Ok found.1

chain_cut : (w l v s : Bool) (entry : Usn) (n at : ℕ) → w ≡ false → lengths (chain w l v s entry n at) ≡ Err (Cut at)
chain_cut true l v s entry n at e = absurd cc
chain_cut false l v s entry n at e = refl

chain_short : (w l v s : Bool) (entry : Usn) (n at : ℕ) → w ≡ true → l ≡ false → lengths (chain w l v s entry n at) ≡ Err (Shape at)
chain_short false l v s entry n at e f = absurd cc
chain_short true true v s entry n at e f = absurd cc
chain_short true false v s entry n at e f = refl

chain_wrong : (w l v s : Bool) (entry : Usn) (n at : ℕ) → w ≡ true → l ≡ true → (v && not s) ≡ true → lengths (chain w l v s entry n at) ≡ Err (Shape at)
chain_wrong false l v s entry n at e f g = absurd cc
chain_wrong true false v s entry n at e f g = absurd cc
chain_wrong true true false s entry n at e f g = absurd cc
chain_wrong true true true true entry n at e f g = absurd cc
chain_wrong true true true false entry n at e f g = refl

chain_right : (w l v s : Bool) (entry : Usn) (n at : ℕ) → w ≡ true → l ≡ true → (v && not s) ≡ false → lengths (chain w l v s entry n at) ≡ Ok n
chain_right false l v s entry n at e f g = absurd cc
chain_right true false v s entry n at e f g = absurd cc
chain_right true true false s entry n at e f g = refl
chain_right true true true true entry n at e f g = refl
chain_right true true true false entry n at e f g = absurd cc

module _ (bytes : List ℕ) (at : ℕ) where
  abbrev w : Bool
  w = is_whole bytes

  abbrev l : Bool
  l = is_length (field 0x00 4 bytes)

  abbrev v : Bool
  v = field 0x04 2 (own_bytes bytes) == known_version

  abbrev s : Bool
  s = is_usn at (own_bytes bytes)

  pub not_whole : is_whole bytes ≡ false → length_in bytes at ≡ Err (Cut at)
  unfolding length_in usn_in entry_in
  not_whole e = chain_cut w l v s (usn_of (own_bytes bytes)) (field 0x00 4 bytes) at e

  pub no_length : is_whole bytes ≡ true → is_length (field 0x00 4 bytes) ≡ false → length_in bytes at ≡ Err (Shape at)
  unfolding length_in usn_in entry_in
  no_length e f = chain_short w l v s (usn_of (own_bytes bytes)) (field 0x00 4 bytes) at e f

  pub out_of_shape : (own : List ℕ) → is_whole bytes ≡ true → is_length (field 0x00 4 bytes) ≡ true → own ≡ own_bytes bytes → ((field 0x04 2 own == known_version) && not (is_usn at own)) ≡ true → length_in bytes at ≡ Err (Shape at)
  unfolding length_in usn_in entry_in
  out_of_shape own e f is g = chain_wrong w l v s (usn_of (own_bytes bytes)) (field 0x00 4 bytes) at e f (ap (λ (o : List ℕ). (field 0x04 2 o == known_version) && not (is_usn at o)) (sym is) ∙ g)

  pub in_shape : (own : List ℕ) (n : ℕ) → is_whole bytes ≡ true → is_length (field 0x00 4 bytes) ≡ true → own ≡ own_bytes bytes → ((field 0x04 2 own == known_version) && not (is_usn at own)) ≡ false → n ≡ field 0x00 4 bytes → length_in bytes at ≡ Ok n
  unfolding length_in usn_in entry_in
  in_shape own n e f is g size = chain_right w l v s (usn_of (own_bytes bytes)) (field 0x00 4 bytes) at e f (ap (λ (o : List ℕ). (field 0x04 2 o == known_version) && not (is_usn at o)) (sym is) ∙ g) ∙ ap (λ (k : ℕ). Ok k) (sym size)

-- ---- from the length to the record

chain_known : (w l v s : Bool) (entry : Usn) (n at m : ℕ) → lengths (chain w l v s entry n at) ≡ Ok m → v ≡ true → (chain w l v s entry n at ≡ Ok (Some entry, n)) × (s ≡ true) × (n ≡ m)
chain_known false l v s entry n at m e k = absurd cc
chain_known true false v s entry n at m e k = absurd cc
chain_known true true false s entry n at m e k = absurd cc
chain_known true true true false entry n at m e k = absurd cc
chain_known true true true true entry n at m e k = (refl, refl, cc)

chain_other : (w l v s : Bool) (entry : Usn) (n at m : ℕ) → lengths (chain w l v s entry n at) ≡ Ok m → v ≡ false → (chain w l v s entry n at ≡ Ok (None, n)) × (n ≡ m)
chain_other false l v s entry n at m e k = absurd cc
chain_other true false v s entry n at m e k = absurd cc
chain_other true true true s entry n at m e k = absurd cc
chain_other true true false s entry n at m e k = (refl, cc)

chain_length : (w l v s : Bool) (entry : Usn) (n at m : ℕ) → lengths (chain w l v s entry n at) ≡ Ok m → n ≡ m
chain_length false l v s entry n at m e = absurd cc
chain_length true false v s entry n at m e = absurd cc
chain_length true true true false entry n at m e = absurd cc
chain_length true true true true entry n at m e = cc
chain_length true true false s entry n at m e = cc

module _ (bytes : List ℕ) (at n : ℕ) (is : length_in bytes at ≡ Ok n) where
  abbrev own : List ℕ
  own = own_bytes bytes

  size : field 0x00 4 bytes ≡ n
  unfolding length_in usn_in entry_in
  size = chain_length (is_whole bytes) (is_length (field 0x00 4 bytes)) (field 0x04 2 own == known_version) (is_usn at own) (usn_of own) (field 0x00 4 bytes) at n is

  own_is : own ≡ take n bytes
  own_is = ap (λ (k : ℕ). take k bytes) size

  pub known_is : (o : List ℕ) → o ≡ take n bytes → (field 0x04 2 o == known_version) ≡ true → (usn_in bytes at ≡ Ok (Some (usn_of o), n)) × (is_usn at o ≡ true)
  unfolding length_in usn_in entry_in
  known_is o e k =
      let same : own ≡ o = own_is ∙ sym e in
      let c = chain_known (is_whole bytes) (is_length (field 0x00 4 bytes)) (field 0x04 2 own == known_version) (is_usn at own) (usn_of own) (field 0x00 4 bytes) at n is (ap (λ (x : List ℕ). field 0x04 2 x == known_version) same ∙ k) in
      (c.0 ∙ ap (λ (x : List ℕ). Ok (Some (usn_of x), field 0x00 4 bytes)) same ∙ ap (λ (m : ℕ). Ok (Some (usn_of o), m)) size, ap (is_usn at) (sym same) ∙ c.1)

  pub other_is : (o : List ℕ) → o ≡ take n bytes → (field 0x04 2 o == known_version) ≡ false → usn_in bytes at ≡ Ok (None, n)
  unfolding length_in usn_in entry_in
  other_is o e k =
      let same : own ≡ o = own_is ∙ sym e in
      let c = chain_other (is_whole bytes) (is_length (field 0x00 4 bytes)) (field 0x04 2 own == known_version) (is_usn at own) (usn_of own) (field 0x00 4 bytes) at n is (ap (λ (x : List ℕ). field 0x04 2 x == known_version) same ∙ k) in
      c.0 ∙ ap (λ (m : ℕ). Ok (None, m)) size

pub length_refused : (r : Result (Option Usn × ℕ) UsnFault) (fault : UsnFault) → lengths r ≡ Err fault → r ≡ Err fault
length_refused (Ok (found, n)) fault e = absurd cc
length_refused (Err other) fault e = cc

-- a refusal of the length is that of the record
pub refused_too : (bytes : List ℕ) (at : ℕ) (fault : UsnFault) → Explains (usn_cause fault) (length_in bytes at) → Explains (usn_cause fault) (usn_in bytes at)
unfolding length_in
refused_too bytes at (Cut k) e = length_refused (usn_in bytes at) (Cut k) e
refused_too bytes at (Shape k) e = length_refused (usn_in bytes at) (Shape k) e
refused_too bytes at Memory e = tt

abbrev answered : Usn → Result Usn UsnFault
answered entry = Ok entry

-- the answer of an entry that was read
pub entry_read : (bytes : List ℕ) (at n : ℕ) (meant entry : Usn) → usn_in bytes at ≡ Ok (Some meant, n) → answered meant ≡ Ok entry → usn_in bytes at ≡ Ok (Some entry, n)
entry_read bytes at n meant entry is e = let same : meant ≡ entry = cc in is ∙ ap (λ (u : Usn). Ok (Some u, n)) same
