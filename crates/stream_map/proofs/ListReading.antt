-- What was read of a stream, and the step that it tells.
use Rattle.std.proofs.Common.{◌≡◌, ℕ, ◌+◌, ◌-◌, ◌<◌, Bool, true, false, List, [], length, drop, Option, Some, None, refl, sym, ap, ◌∙◌, arith}
use Rattle.std.specs.Prelude.{IfSome, if◌then◌else◌}
use Rattle.std.proofs.lemmas.List.{length-drop, drop-drop}
use Rattle.std.proofs.lemmas.List.FromFn.{length-map-range_with_len}
use Rattle.disk_model.proofs.host_base.Known.{one, always}
use Rattle.disk_model.specs.Content.{Content}
use Rattle.disk_model.specs.Numbers.{field}
use Rattle.record_model.specs.ListEntries.{has_entry, entry_of, with_entry, list_entries}
use Rattle.state_model.specs.declared.stream.Stream.{Stream}
use Rattle.state_model.specs.declared.stream.Stream.TheVariants.{Held, Placed}
use Rattle.state_model.specs.Streams.{byte_at, real_size, extent_bytes, stream_bytes}
use Rattle.stream_map.specs.declared.list_front.FirstEntry.{FirstEntry}
use Rattle.stream_map.specs.ListFronts.{front_of, first_entry}
use Rattle.stream_map.proofs.ListEntries.{own_bytes, list_ended, list_faulty, list_next}

-- ---- how many bytes there are

pub length-stream_bytes : (c : Content) (per : ℕ) (stream : Stream) → length (stream_bytes c per stream) ≡ real_size stream
unfolding extent_bytes
length-stream_bytes c per (Held value) = refl
length-stream_bytes c per (Placed e) = length-map-range_with_len (byte_at c per e) 0 e.real

-- the bytes from a place on
abbrev pub bytes_from : ℕ → Stream → ℕ → Content → List ℕ
bytes_from per stream at c = drop at (stream_bytes c per stream)

length_from : (per : ℕ) (stream : Stream) (at : ℕ) (c : Content) → length (bytes_from per stream at c) ≡ real_size stream - at
length_from per stream at c = length-drop at (stream_bytes c per stream) ∙ ap (λ (n : ℕ). n - at) (length-stream_bytes c per stream)

-- ---- the step

by_some : (b : Bool) (x f : FirstEntry) → Some f ≡ (if b then Some x else None) → (b ≡ true) × (f ≡ x)
by_some true x f h = (refl, cc)
by_some false x f h = cc

by_none : (b : Bool) (x : FirstEntry) → None ≡ (if b then Some x else None) → b ≡ false
by_none true x h = cc
by_none false x h = refl

first_is : (bytes : List ℕ) (f : FirstEntry) → Some f ≡ first_entry bytes → (has_entry bytes ≡ true) × (f ≡ record { entry = entry_of (own_bytes bytes); length = field 0x04 2 bytes })
unfolding first_entry
first_is bytes f h = by_some (has_entry bytes) (record { entry = entry_of (own_bytes bytes); length = field 0x04 2 bytes }) f h

none_is : (bytes : List ℕ) → None ≡ first_entry bytes → has_entry bytes ≡ false
unfolding first_entry
none_is bytes h = by_none (has_entry bytes) (record { entry = entry_of (own_bytes bytes); length = field 0x04 2 bytes }) h

-- what a front tells of the bytes
pub told : (known : Option Content) (per : ℕ) (stream : Stream) (at left : ℕ) (front : List ℕ) (found : Option FirstEntry) → left ≡ real_size stream - at
    → IfSome known (λ c. front ≡ front_of (bytes_from per stream at c)) → ((bytes : List ℕ) → front ≡ front_of bytes → left ≡ length bytes → found ≡ first_entry bytes)
    → IfSome known (λ c. found ≡ first_entry (bytes_from per stream at c))
told known per stream at left front found size read tells =
    one known _ _ (λ c p. tells (bytes_from per stream at c) p (size ∙ sym (length_from per stream at c))) read

pub step_ended : (known : Option Content) (per : ℕ) (stream : Stream) (at : ℕ) → real_size stream - at ≡ 0
    → IfSome known (λ c. list_entries (bytes_from per stream at c) ≡ record { entries = []; whole = true })
step_ended known per stream at e = always known _ (λ c. list_ended (bytes_from per stream at c) (length_from per stream at c ∙ e))

pub step_faulty : (known : Option Content) (per : ℕ) (stream : Stream) (at : ℕ) (found : Option FirstEntry) → 0 < real_size stream - at → found ≡ None
    → IfSome known (λ c. found ≡ first_entry (bytes_from per stream at c)) → IfSome known (λ c. list_entries (bytes_from per stream at c) ≡ record { entries = []; whole = false })
step_faulty known per stream at found some none tells =
    one known _ _ (λ c p. list_faulty (bytes_from per stream at c) (omega (arith, length_from per stream at c, some)) (none_is (bytes_from per stream at c) (sym none ∙ p))) tells

next_by : (bytes : List ℕ) (at : ℕ) (f : FirstEntry) → Some f ≡ first_entry (drop at bytes) → list_entries (drop at bytes) ≡ with_entry f.entry (list_entries (drop (at + f.length) bytes))
next_by bytes at f h =
    let p = first_is (drop at bytes) f h in
    list_next (drop at bytes) p.0
    ∙ ap (λ (xs : List ℕ). with_entry (entry_of (own_bytes (drop at bytes))) (list_entries xs)) (drop-drop (field 0x04 2 (drop at bytes)) at bytes)
    ∙ ap (λ (g : FirstEntry). with_entry g.entry (list_entries (drop (at + g.length) bytes))) (sym p.1)

pub step_next : (known : Option Content) (per : ℕ) (stream : Stream) (at : ℕ) (found : Option FirstEntry) (f : FirstEntry) (n : ℕ) → found ≡ Some f → n ≡ f.length
    → IfSome known (λ c. found ≡ first_entry (bytes_from per stream at c))
    → IfSome known (λ c. (list_entries (bytes_from per stream at c) ≡ with_entry f.entry (list_entries (bytes_from per stream (at + n) c))) × (at + n ≡ at + field 4 2 (bytes_from per stream at c)))
step_next known per stream at found f n is size tells =
    one known _ _ (λ c p. (rw size (next_by (stream_bytes c per stream) at f (sym is ∙ p)), ap (λ (k : ℕ). at + k) (size ∙ ap (λ (g : FirstEntry). g.length) (first_is (bytes_from per stream at c) f (sym is ∙ p)).1))) tells
