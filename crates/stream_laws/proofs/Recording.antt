-- Writes to the blocks of file records.
use Rattle.std.proofs.Common.{◌≡◌, ◌≢◌, ℕ, zero, suc, ◌+◌, ◌*◌, ◌<◌, Bool, cond, List, [], ◌∷◌, map, set, Option, Some, refl, sym, ap, ◌∙◌, arith}
use Rattle.std.specs.List.{range_with_len}
use Rattle.std.proofs.lemmas.Bool.{lt-leb, false_from_ne_true}
use Rattle.volume_model.specs.disk_model.declared.block.Block.{Block}
use Rattle.volume_model.specs.disk_model.declared.block.BlockKind.TheVariants.{FileRec}
use Rattle.volume_model.specs.disk_model.Sectors.{overlap}
use Rattle.volume_model.specs.disk_model.Content.{Content, HasSizes}
use Rattle.volume_model.specs.disk_model.Writes.{Write, overlay}
use Rattle.volume_model.specs.record_model.declared.runs.Run.{Run}
use Rattle.volume_model.specs.record_model.Records.{Record}
use Rattle.volume_model.specs.state_model.declared.stream.Extents.{Extents}
use Rattle.volume_model.specs.state_model.Streams.{block_at}
use Rattle.volume_model.specs.state_model.Loads.{Free, slot_at, slot_of, table_slot, used_record, records_of}
use Rattle.volume_model.specs.Volumes.{Volume, record_bytes}
use Rattle.stream_laws.specs.Changes.{AreElsewhere, LeavesRecord}
use Rattle.stream_laws.specs.Places.{AreOnce}
use Rattle.stream_laws.specs.Records.{AreInOthers, AreInRecord}
use Rattle.stream_laws.proofs.Changing.{apart_elsewhere, slot_stays, record_bytes_stay}
use Rattle.stream_laws.proofs.Framing.{same_map}
use Rattle.stream_laws.proofs.Placing.{one_place}

other_elsewhere : (per : ℕ) (runs : List Run) (m : ℕ) (b : Block) (writes : List Write) → 0 < per → AreOnce runs → block_at per runs FileRec m ≡ Some b → AreInOthers per runs m writes → AreElsewhere writes b
other_elsewhere per runs m b [] some once is all = tt
other_elsewhere per runs m b (w ∷ writes) some once is all =
    let in_other = all.0 in (
      apart_elsewhere b w (false_from_ne_true (overlap b w.block) (λ both. in_other.differs (sym (one_place per runs FileRec m in_other.number b w.block some once is in_other.lies both)))),
      other_elsewhere per runs m b writes some once is all.1,
    )

pub leaves : (per : ℕ) (e : Extents) (m : ℕ) (writes : List Write) → 0 < per → AreOnce e.runs → AreInOthers per e.runs m writes → LeavesRecord writes per e m
leaves per e m writes some once all = λ b is. other_elsewhere per e.runs m b writes some once is.lies all

pub other_slot : (c : Content) (writes : List Write) (per : ℕ) (e : Extents) (m : ℕ) → HasSizes c → 0 < per → AreOnce e.runs → AreInOthers per e.runs m writes → table_slot (overlay c writes) per e m ≡ table_slot c per e m
other_slot c writes per e m sized some once all = slot_stays c writes per e m sized (leaves per e m writes some once all)

pub other_body : (c : Content) (writes : List Write) (v : Volume) (m : ℕ) → HasSizes c → 0 < v.per → AreOnce v.table.runs → AreInOthers v.per v.table.runs m writes → record_bytes (overlay c writes) v m ≡ record_bytes c v m
other_body c writes v m sized some once all = record_bytes_stay c writes v m sized (leaves v.per v.table m writes some once all)

-- ---- one record

pub in_others : (per : ℕ) (runs : List Run) (n m : ℕ) (writes : List Write) → m ≢ n → AreInRecord per runs n writes → AreInOthers per runs m writes
in_others per runs n m [] differs all = tt
in_others per runs n m (w ∷ writes) differs all = (record { number = n; differs = λ is. differs (sym is); lies = all.0 }, in_others per runs n m writes differs all.1)

pub others_stay : (c : Content) (writes : List Write) (per : ℕ) (e : Extents) (n m : ℕ) → HasSizes c → 0 < per → AreOnce e.runs → AreInRecord per e.runs n writes → m ≢ n → table_slot (overlay c writes) per e m ≡ table_slot c per e m
others_stay c writes per e n m sized some once all differs = other_slot c writes per e m sized some once (in_others per e.runs n m writes differs all)

-- a list of values, where the value at one place alone changes
map_set : {X : Type 0} (f g : ℕ → X) (a k n : ℕ) (x : X) → ((i : ℕ) → i ≢ a + n → g i ≡ f i) → x ≡ g (a + n) → map g (range_with_len a k) ≡ set (map f (range_with_len a k)) n x
map_set f g a zero n x others here = refl
map_set {X} f g a (suc k) zero x others here =
    let place : a + 0 ≡ a = omega arith in
    ap (λ (y : X). y ∷ map g (range_with_len (a + 1) k)) (sym (here ∙ ap g place))
    ∙ ap (λ (l : List X). x ∷ l) (same_map g f (a + 1) k (λ i low high. others i (λ is. omega (arith, is))))
map_set {X} f g a (suc k) (suc n) x others here =
    let place : a + suc n ≡ a + 1 + n = omega arith in
    ap (λ (y : X). y ∷ map g (range_with_len (a + 1) k)) (others a (λ is. omega (arith, is)))
    ∙ ap (λ (l : List X). f a ∷ l) (map_set f g (a + 1) k n x (λ i not. others i (λ is. not (is ∙ place))) (here ∙ ap g place))

pub records_set : (c : Content) (writes : List Write) (per : ℕ) (e : Extents) (n count : ℕ) → HasSizes c → 0 < per → AreOnce e.runs → AreInRecord per e.runs n writes → records_of (table_slot (overlay c writes) per e) count ≡ set (records_of (table_slot c per e) count) n (used_record (table_slot (overlay c writes) per e n))
unfolding records_of
records_set c writes per e n count sized some once all =
    let now : ℕ → Option Record = λ m. used_record (table_slot (overlay c writes) per e m) in
    let before : ℕ → Option Record = λ m. used_record (table_slot c per e m) in
    let place : n ≡ 0 + n = omega arith in
    map_set before now 0 count n (now n) (λ m not. ap used_record (others_stay c writes per e n m sized some once all (λ is. not (is ∙ place)))) (ap now place)

pub record_read : (c : Content) (per : ℕ) (e : Extents) (n : ℕ) (b : Block) → 1024 * n < e.initialised → block_at per e.runs FileRec n ≡ Some b → table_slot c per e n ≡ slot_of (c b)
unfolding table_slot
record_read c per e n b below is = ap (λ (t : Bool). cond t Free (slot_at c (block_at per e.runs FileRec n))) (lt-leb e.initialised (1024 * n) below) ∙ ap (slot_at c) is
