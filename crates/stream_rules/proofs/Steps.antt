-- Steps of the calls over a view, whose content may be known.
use Rattle.std.proofs.Common.{◌≡◌, ℕ, ◌*◌, Bool, true, false, not, List, find, Option, Some, Result, Ok, Err, refl, sym, ap, subst, ◌∙◌}
use Rattle.std.specs.Prelude.{IfSome, IfOk, ◌&&◌}
use Rattle.std.specs.List.{list_any, list_all, range_with_len}
use Rattle.host_base.specs.Answers.{GivesOrFails}
use Rattle.host_base.proofs.Known.{one, always}
use Rattle.disk_model.specs.Content.{Content}
use Rattle.disk_model.specs.declared.block.BlockKind.{BlockKind}
use Rattle.disk_model.specs.Sectors.{sectors}
use Rattle.stream_map.specs.record_model.Records.{Record}
use Rattle.state_model.specs.declared.stream.Extents.{Extents}
use Rattle.state_model.specs.declared.stream.Stream.{Stream}
use Rattle.state_model.specs.declared.stream.Stream.TheVariants.{Placed}
use Rattle.state_model.specs.Streams.{block_at}
use Rattle.state_model.specs.Files.{file_at}
use Rattle.state_model.specs.Loads.{table_in}
use Rattle.state_model.specs.Rules.{at_file, first_failing}
use Rattle.volume_model.specs.Sizes.{is_torn_at, begun, has_torn, stream_has_torn, keeps_stream, keeps_whole, keeps_table, keeps_untorn, keeps_streams, keeps_bitmaps, keeps_sizes}
use Rattle.stream_rules.specs.declared.fault.SizesFault.{SizesFault}
use Rattle.stream_rules.specs.declared.fault.SizesFault.TheVariants as faults
use Rattle.stream_rules.specs.Errors.{sizes_cause}
use Rattle.stream_rules.specs.Volumes.{TablePlace, volume_with}

-- ---- answers

-- what was answered is what is meant, and nothing is refused
gives : (result : Result Bool SizesFault) (known meant : Bool) → meant ≡ known → IfOk result (λ x. x ≡ known) → GivesOrFails (λ (x : Bool). x) sizes_cause result (Ok meant)
gives (Ok x) known meant e h = ap Ok (e ∙ sym h)
gives (Err faults.View) known meant e h = tt
gives (Err faults.Memory) known meant e h = tt

answered : (result : Result Bool SizesFault) (known meant : Bool) → meant ≡ known → GivesOrFails (λ (x : Bool). x) sizes_cause result (Ok known) → IfOk result (λ x. x ≡ meant)
answered (Ok x) known meant e h = let same : known ≡ x = cc in sym (e ∙ same)
answered (Err fault) known meant e h = tt

also : (result : Result Bool SizesFault) (known meant : Bool) → meant ≡ known → IfOk result (λ x. x ≡ known) → IfOk result (λ x. x ≡ meant)
also (Ok x) known meant e h = h ∙ sym e
also (Err fault) known meant e h = tt

-- ---- torn blocks

-- a stream in clusters, by its first blocks
pub torn_placed : (known : Option Content) (per : ℕ) (kind : BlockKind) (s : Stream) (e : Extents) (count : ℕ) (result : Result Bool SizesFault) → s ≡ Placed e → count ≡ begun (512 * sectors kind) e.initialised
    → IfSome known (λ c. IfOk result (λ torn. torn ≡ list_any (λ n. is_torn_at c (block_at per e.runs kind n)) (range_with_len 0 count))) → IfSome known (λ c. IfOk result (λ torn. torn ≡ stream_has_torn c per kind (512 * sectors kind) (Some s)))
unfolding has_torn
torn_placed known per kind s e count result placed counted h =
    let P : Stream → Type 0 = λ x. IfSome known (λ c. IfOk result (λ torn. torn ≡ stream_has_torn c per kind (512 * sectors kind) (Some x))) in
    let Q : ℕ → Type 0 = λ k. IfSome known (λ c. IfOk result (λ torn. torn ≡ list_any (λ n. is_torn_at c (block_at per e.runs kind n)) (range_with_len 0 k))) in
    subst P (sym placed) (subst Q counted h)

-- ---- the streams of a file

abbrev pub shape : ℕ → ℕ → ℕ → Record → Bool
shape per clusters n r = list_all (keeps_stream per clusters r.attrs) r.attrs && keeps_whole n r && keeps_table n r

streams_are : (c : Content) (per clusters : ℕ) (e : TablePlace) (files : List (Option Record)) (n : ℕ) (r : Record) (kept : Bool) → kept ≡ shape per clusters n r → keeps_streams c (volume_with per clusters e files) n r ≡ (kept && keeps_untorn c per n r)
unfolding keeps_streams
streams_are c per clusters e files n r kept is = ap (λ (b : Bool). b && keeps_untorn c per n r) (sym is)

pub streams_shapeless : (known : Option Content) (per clusters n : ℕ) (r : Record) (kept : Bool) → kept ≡ shape per clusters n r → kept ≡ false → (e : TablePlace) (files : List (Option Record)) → IfSome known (λ c. GivesOrFails (λ (x : Bool). x) sizes_cause (Ok false) (Ok (keeps_streams c (volume_with per clusters e files) n r)))
streams_shapeless known per clusters n r kept is out e files = always known (λ c. GivesOrFails (λ (x : Bool). x) sizes_cause (Ok false) (Ok (keeps_streams c (volume_with per clusters e files) n r))) (λ c. ap Ok (streams_are c per clusters e files n r kept is ∙ ap (λ (b : Bool). b && keeps_untorn c per n r) out))

pub streams_shaped : (known : Option Content) (per clusters n : ℕ) (r : Record) (kept : Bool) (result : Result Bool SizesFault) → kept ≡ shape per clusters n r → kept ≡ true → IfSome known (λ c. IfOk result (λ x. x ≡ keeps_untorn c per n r)) → (e : TablePlace) (files : List (Option Record)) → IfSome known (λ c. GivesOrFails (λ (x : Bool). x) sizes_cause result (Ok (keeps_streams c (volume_with per clusters e files) n r)))
streams_shaped known per clusters n r kept result is whole h e files = one known (λ c. IfOk result (λ x. x ≡ keeps_untorn c per n r)) (λ c. GivesOrFails (λ (x : Bool). x) sizes_cause result (Ok (keeps_streams c (volume_with per clusters e files) n r))) (λ c p. gives result (keeps_untorn c per n r) (keeps_streams c (volume_with per clusters e files) n r) (streams_are c per clusters e files n r kept is ∙ ap (λ (b : Bool). b && keeps_untorn c per n r) whole) p) h

-- ---- a number

-- the file with that number
pub file_kept : (known : Option Content) (per clusters n : ℕ) (files : List (Option Record)) (r : Record) (result : Result Bool SizesFault) → Some r ≡ file_at (table_in files) n
    → ((e : TablePlace) (files : List (Option Record)) → IfSome known (λ c. GivesOrFails (λ (x : Bool). x) sizes_cause result (Ok (keeps_streams c (volume_with per clusters e files) n r))))
    → (e : TablePlace) → IfSome known (λ c. IfOk result (λ x. x ≡ at_file (keeps_streams c (volume_with per clusters e files) n) (file_at (table_in files) n)))
file_kept known per clusters n files r result is h e = one known (λ c. GivesOrFails (λ (x : Bool). x) sizes_cause result (Ok (keeps_streams c (volume_with per clusters e files) n r))) (λ c. IfOk result (λ x. x ≡ at_file (keeps_streams c (volume_with per clusters e files) n) (file_at (table_in files) n))) (λ c p. answered result (keeps_streams c (volume_with per clusters e files) n r) (at_file (keeps_streams c (volume_with per clusters e files) n) (file_at (table_in files) n)) (ap (at_file (keeps_streams c (volume_with per clusters e files) n)) (sym is)) p) (h e files)

and_false : (b : Bool) → (b && false) ≡ false
and_false true = refl
and_false false = refl

and_true : (b : Bool) → (b && true) ≡ b
and_true true = refl
and_true false = refl

abbrev file_keeps : Content → ℕ → ℕ → List (Option Record) → TablePlace → ℕ → Bool
file_keeps c per clusters files e n = at_file (keeps_streams c (volume_with per clusters e files) n) (file_at (table_in files) n)

sizes_are : (c : Content) (per clusters : ℕ) (files : List (Option Record)) (e : TablePlace) (n : ℕ) (kept : Bool) → kept ≡ keeps_bitmaps (volume_with per clusters e files) n → keeps_sizes c (volume_with per clusters e files) n ≡ (file_keeps c per clusters files e n && kept)
unfolding keeps_sizes
sizes_are c per clusters files e n kept is = ap (λ (b : Bool). file_keeps c per clusters files e n && b) (sym is)

pub bitmap_short : (known : Option Content) (per clusters n : ℕ) (files : List (Option Record)) (kept : Bool) → ((e : TablePlace) → kept ≡ keeps_bitmaps (volume_with per clusters e files) n) → kept ≡ false → (e : TablePlace) → IfSome known (λ c. false ≡ keeps_sizes c (volume_with per clusters e files) n)
bitmap_short known per clusters n files kept is out e = always known (λ c. false ≡ keeps_sizes c (volume_with per clusters e files) n) (λ c. sym (sizes_are c per clusters files e n kept (is e) ∙ ap (λ (b : Bool). file_keeps c per clusters files e n && b) out ∙ and_false (file_keeps c per clusters files e n)))

pub bitmap_long : (known : Option Content) (per clusters n : ℕ) (files : List (Option Record)) (kept : Bool) (result : Result Bool SizesFault) → ((e : TablePlace) → kept ≡ keeps_bitmaps (volume_with per clusters e files) n) → kept ≡ true
    → ((e : TablePlace) → IfSome known (λ c. IfOk result (λ x. x ≡ at_file (keeps_streams c (volume_with per clusters e files) n) (file_at (table_in files) n))))
    → (e : TablePlace) → IfSome known (λ c. IfOk result (λ x. x ≡ keeps_sizes c (volume_with per clusters e files) n))
bitmap_long known per clusters n files kept result is whole h e = one known (λ c. IfOk result (λ x. x ≡ file_keeps c per clusters files e n)) (λ c. IfOk result (λ x. x ≡ keeps_sizes c (volume_with per clusters e files) n)) (λ c p. also result (file_keeps c per clusters files e n) (keeps_sizes c (volume_with per clusters e files) n) (sizes_are c per clusters files e n kept (is e) ∙ ap (λ (b : Bool). file_keeps c per clusters files e n && b) whole ∙ and_true (file_keeps c per clusters files e n)) p) (h e)

-- ---- all numbers

-- the first that fails, by what was found
pub first_found : (known : Option Content) (test : Content → ℕ → Bool) (count all : ℕ) (number : Option ℕ) → count ≡ all → IfSome known (λ c. find (λ k. not (test c k)) (range_with_len 0 count) ≡ number) → IfSome known (λ c. GivesOrFails {E = SizesFault} (λ (x : Option ℕ). x) sizes_cause (Ok number) (Ok (first_failing (test c) all)))
unfolding first_failing
first_found known test count all number is h = one known (λ c. find (λ k. not (test c k)) (range_with_len 0 count) ≡ number) (λ c. GivesOrFails {E = SizesFault} (λ (x : Option ℕ). x) sizes_cause (Ok number) (Ok (first_failing (test c) all))) (λ c p. ap Ok (ap (λ (k : ℕ). find (λ m. not (test c m)) (range_with_len 0 k)) (sym is) ∙ p)) h
