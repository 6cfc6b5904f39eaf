-- The content before a log's updates, and what a disk recovers to.
use Rattle.std.proofs.Common.{◌≡◌, ℕ, ◌+◌, ◌*◌, ◌<◌, Bool, true, false, List, [], ◌∷◌, ◌++◌, length, get_or, Option, Some, None, refl, sym, ap, ◌∙◌, arith}
use Rattle.std.specs.Prelude.{unwrap_or, ◌&&◌, ◌||◌, ◌==◌, if◌then◌else◌, slice_index}
use Rattle.std.specs.List.{list_any, range_with_len, AllByRecursion}
use Rattle.std.specs.Option.{option_or}
use Rattle.std.proofs.lemmas.List.{ext_get_or, append-nil, append_assoc}
use Rattle.std.proofs.lemmas.List.FromFn.{length-range_with_len, get_or-range_with_len}
use Rattle.std.proofs.lemmas.List.Folds.{list_all_at}
use Rattle.disk_model.specs.declared.block.Block.{Block}
use Rattle.disk_model.specs.declared.block.Body.{Body}
use Rattle.disk_model.specs.Sectors.{sectors}
use Rattle.disk_model.specs.Content.{Content}
use Rattle.disk_model.specs.Writes.{Write, overlay}
use Rattle.disk_model.proofs.Frames.{byte_after, length-bytes_after}
use Rattle.log_model.specs.declared.entry.Entry.{Entry}
use Rattle.log_model.specs.Logs.{covers, redo_byte, undo_byte, is_commit, IsLevel, is_ended, last_redo, first_undo, is_shadowed, redo_of, redos, undos_back, recovery_of, recovered, is_covered_whole}
use Rattle.log_model.specs.StoreLaws.{origin, IsOther}
use Rattle.log_model.proofs.Recovering.{last_put-undos_back, last_put-redos, last_put-recovery_of, redo_is, changes}
use Rattle.log_model.proofs.Telling.{first_undo-append, is_ended-append, none_left}

pub level_front : (xs ys : List Entry) → AllByRecursion IsLevel (xs ++ ys) → AllByRecursion IsLevel xs
level_front [] ys level = tt
level_front (x ∷ xs) ys level = (level.0, level_front xs ys level.1)

pub origin_at : (present : Content) (log : List Entry) (b : Block) (i : ℕ) → AllByRecursion IsLevel log → i < length (present b).bytes → slice_index (origin present log b).bytes i ≡ unwrap_or (first_undo log b i) (slice_index (present b).bytes i)
origin_at present log b i level lt = byte_after (undos_back log) b (present b).bytes i lt ∙ ap (λ (o : Option ℕ). unwrap_or o (slice_index (present b).bytes i)) (last_put-undos_back log b i level)

-- ---- an update more

and_true : (c : Bool) → (c && true) ≡ c
and_true true = refl
and_true false = refl

pub origin_stays : (present : Content) (log : List Entry) (e : Entry) (b : Block) → AllByRecursion IsLevel (log ++ e ∷ []) → ((i : ℕ) → covers b i e.act ≡ true → first_undo log b i ≡ None → undo_byte e.act i ≡ slice_index (present b).bytes i) → (origin (overlay present (redo_of true e.act)) (log ++ e ∷ []) b).bytes ≡ (origin present log b).bytes
origin_stays present log e b level old =
    let now : Content = overlay present (redo_of true e.act) in
    let size_now : length (now b).bytes ≡ length (present b).bytes = length-bytes_after (redo_of true e.act) b (present b).bytes in
    let size_new : length (origin now (log ++ e ∷ []) b).bytes ≡ length (now b).bytes = length-bytes_after (undos_back (log ++ e ∷ [])) b (now b).bytes in
    let size_old : length (origin present log b).bytes ≡ length (present b).bytes = length-bytes_after (undos_back log) b (present b).bytes in
    ext_get_or 0 (origin now (log ++ e ∷ []) b).bytes (origin present log b).bytes (size_new ∙ size_now ∙ sym size_old) (λ i lt.
    let short : i < length (present b).bytes = omega (arith, lt, size_new, size_now) in
    let after : slice_index (now b).bytes i ≡ unwrap_or (if covers b i e.act then Some (redo_byte e.act i) else None) (slice_index (present b).bytes i) =
    byte_after (redo_of true e.act) b (present b).bytes i short ∙ ap (λ (o : Option ℕ). unwrap_or o (slice_index (present b).bytes i)) (redo_is true e.act b i ∙ ap (λ (c : Bool). if c then Some (redo_byte e.act i) else None) (and_true (covers b i e.act))) in
    origin_at now (log ++ e ∷ []) b i level (omega (arith, short, size_now))
    ∙ ap (λ (o : Option ℕ). unwrap_or o (slice_index (now b).bytes i)) (first_undo-append log (e ∷ []) b i)
    ∙ ap (λ (x : ℕ). unwrap_or (option_or (first_undo log b i) (first_undo (e ∷ []) b i)) x) after
    ∙ same (first_undo log b i) (covers b i e.act) (undo_byte e.act i) (redo_byte e.act i) (slice_index (present b).bytes i) (λ c n. old i c n)
    ∙ sym (origin_at present log b i (level_front log (e ∷ []) level) short))
  where
    same : (o : Option ℕ) (c : Bool) (undo redo was : ℕ) → (c ≡ true → o ≡ None → undo ≡ was) → unwrap_or (option_or o (if c then Some undo else None)) (unwrap_or (if c then Some redo else None) was) ≡ unwrap_or o was
    same (Some v) c undo redo was h = refl
    same None true undo redo was h = h refl refl
    same None false undo redo was h = refl

-- ---- what a disk recovers to

untouched : (log : List Entry) (b : Block) (i : ℕ) → first_undo log b i ≡ None → list_any (λ (e : Entry). covers b i e.act) log ≡ false
untouched [] b i none = refl
untouched (e ∷ log) b i none = go (covers b i e.act) none (untouched log b i)
  where
    go : (c : Bool) → (if c then Some (undo_byte e.act i) else first_undo log b i) ≡ None → (first_undo log b i ≡ None → list_any (λ (e : Entry). covers b i e.act) log ≡ false) → (c || list_any (λ (e : Entry). covers b i e.act) log) ≡ false
    go true h rest = absurd cc
    go false h rest = rest h

-- a block of which the log tells no byte at some place isn't covered whole
pub not_whole : (log : List Entry) (b : Block) (i : ℕ) → i < 512 * sectors b.kind → first_undo log b i ≡ None → is_covered_whole log b ≡ false
unfolding is_covered_whole
not_whole log b i lt none =
    let test : ℕ → Bool = λ k. list_any (λ (e : Entry). covers b k e.act) log in
    let n = 512 * sectors b.kind in
    let place : get_or (range_with_len 0 n) i 0 ≡ i = get_or-range_with_len 0 n i 0 lt ∙ zero_more i in
    list_all_at test (range_with_len 0 n) i 0 (omega (arith, lt, length-range_with_len 0 n)) (ap test place ∙ untouched log b i none)
  where
    zero_more : (k : ℕ) → 0 + k ≡ k
    zero_more k = omega arith

chosen : (r u : Option ℕ) (disk first : ℕ) → ((v : ℕ) → u ≡ Some v → first ≡ v) → (u ≡ None → disk ≡ first) → unwrap_or (option_or r u) disk ≡ unwrap_or r first
chosen (Some x) u disk first h k = refl
chosen None (Some v) disk first h k = sym (h v refl)
chosen None None disk first h k = k refl

pub kernel : (disk present : Content) (durable rest more : List Entry) (b : Block) → AllByRecursion IsLevel ((durable ++ rest) ++ more) → length (disk b).bytes ≡ 512 * sectors b.kind → length (present b).bytes ≡ 512 * sectors b.kind
    → (is_covered_whole durable b ≡ false → (disk b).bytes ≡ (origin present ((durable ++ rest) ++ more) b).bytes) → is_shadowed (durable ++ rest) b ≡ false
    → (recovered disk (durable ++ rest) b).bytes ≡ (overlay (origin present ((durable ++ rest) ++ more)) (redos (is_ended (durable ++ rest)) (durable ++ rest)) b).bytes
kernel disk present durable rest more b level size_disk size_present quiet unshadowed =
    let log = durable ++ rest in
    let first : Content = origin present (log ++ more) in
    let winners = redos (is_ended log) log in
    let own : AllByRecursion IsLevel log = level_front log more level in
    let first_size : length (first b).bytes ≡ length (present b).bytes = length-bytes_after (undos_back (log ++ more)) b (present b).bytes in
    let left : length (overlay disk (recovery_of log) b).bytes ≡ length (disk b).bytes = length-bytes_after (recovery_of log) b (disk b).bytes in
    let right : length (overlay first winners b).bytes ≡ length (first b).bytes = length-bytes_after winners b (first b).bytes in
    ap (λ (body : Body). body.bytes) (changes disk log b unshadowed)
    ∙ ext_get_or 0 (overlay disk (recovery_of log) b).bytes (overlay first winners b).bytes (left ∙ size_disk ∙ sym size_present ∙ sym first_size ∙ sym right) (λ i lt.
    let in_disk : i < length (disk b).bytes = omega (arith, lt, left) in
    let in_present : i < length (present b).bytes = omega (arith, in_disk, size_disk, size_present) in
    let in_first : i < length (first b).bytes = omega (arith, in_present, first_size) in
    let first_byte : slice_index (first b).bytes i ≡ unwrap_or (option_or (first_undo log b i) (first_undo more b i)) (slice_index (present b).bytes i) =
    origin_at present (log ++ more) b i level in_present ∙ ap (λ (o : Option ℕ). unwrap_or o (slice_index (present b).bytes i)) (first_undo-append log more b i) in
    byte_after (recovery_of log) b (disk b).bytes i in_disk
    ∙ ap (λ (o : Option ℕ). unwrap_or o (slice_index (disk b).bytes i)) (last_put-recovery_of log b i own)
    ∙ chosen (last_redo (is_ended log) log b i) (first_undo log b i) (slice_index (disk b).bytes i) (slice_index (first b).bytes i)
    (λ v is. first_byte ∙ ap (λ (o : Option ℕ). unwrap_or (option_or o (first_undo more b i)) (slice_index (present b).bytes i)) is)
    (λ none. ap (λ (bytes : List ℕ). slice_index bytes i) (quiet (not_whole durable b i (omega (arith, in_disk, size_disk)) (none_left (first_undo durable b i) (first_undo rest b i) (sym (first_undo-append durable rest b i) ∙ none)))))
    ∙ sym (byte_after winners b (first b).bytes i in_first ∙ ap (λ (o : Option ℕ). unwrap_or o (slice_index (first b).bytes i)) (last_put-redos (is_ended log) log b i)))

-- ---- the tail

no_commits : (log tail : List Entry) → AllByRecursion (IsOther log) tail → (tx : ℕ) → is_ended tail tx ≡ false
no_commits log [] others tx = refl
no_commits log (e ∷ tail) others tx = go (e.tx == tx) (is_commit e.act) others.0.1 (no_commits log tail others.1 tx)
  where
    go : (x c : Bool) → c ≡ false → is_ended tail tx ≡ false → ((x && c) || is_ended tail tx) ≡ false
    go x true h rest = absurd cc
    go true false h rest = rest
    go false false h rest = rest

or_false : (a c : Bool) → c ≡ false → (a || c) ≡ a
or_false a true h = absurd cc
or_false true false h = refl
or_false false false h = refl

redos-append : (f : ℕ → Bool) (log tail : List Entry) → redos f (log ++ tail) ≡ redos f log ++ redos f tail
redos-append f [] tail = refl
redos-append f (e ∷ log) tail = ap (λ (l : List Write). redo_of (f e.tx) e.act ++ l) (redos-append f log tail) ∙ sym (append_assoc (redo_of (f e.tx) e.act) (redos f log) (redos f tail))

redos_same : (f g : ℕ → Bool) (log : List Entry) → ((tx : ℕ) → f tx ≡ g tx) → redos f log ≡ redos g log
redos_same f g [] same = refl
redos_same f g (e ∷ log) same = ap (λ (c : Bool). redo_of c e.act ++ redos f log) (same e.tx) ∙ ap (λ (l : List Write). redo_of (g e.tx) e.act ++ l) (redos_same f g log same)

none_redone : (log tail : List Entry) → AllByRecursion (IsOther log) tail → redos (is_ended log) tail ≡ []
none_redone log [] others = refl
none_redone log (e ∷ tail) others = ap (λ (c : Bool). redo_of c e.act ++ redos (is_ended log) tail) others.0.0 ∙ none_redone log tail others.1

pub tail_nothing : (log tail : List Entry) → AllByRecursion (IsOther log) tail → redos (is_ended (log ++ tail)) (log ++ tail) ≡ redos (is_ended log) log
tail_nothing log tail others =
    redos_same (is_ended (log ++ tail)) (is_ended log) (log ++ tail) (λ tx. is_ended-append log tail tx ∙ or_false (is_ended log tx) (is_ended tail tx) (no_commits log tail others tx))
    ∙ redos-append (is_ended log) log tail ∙ ap (λ (l : List Write). redos (is_ended log) log ++ l) (none_redone log tail others) ∙ append-nil (redos (is_ended log) log)
