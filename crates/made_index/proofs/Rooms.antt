-- What was made of an index that may grow has room where the step says so.
use Rattle.std.proofs.Common.{ℕ, zero, suc, List, [], ◌∷◌, ◌++◌, inl, inr, arith}
use Rattle.std.specs.Prelude.{All, insert}
use Rattle.std.proofs.lemmas.List.Elements.{All-head, All-tail, All-cons, All-map, All-weaker}
use Rattle.disk_model.specs.Bytes.{zeros, AreBytes}
use Rattle.record_model.specs.declared.attribute.Attr.{Attr}
use Rattle.record_model.specs.declared.attribute.OwnForm.{OwnForm}
use Rattle.record_model.specs.declared.attribute.OwnForm.TheVariants.{Resident, Mapped}
use Rattle.record_model.specs.Attributes.{filled}
use Rattle.record_model.specs.Constants.{index_allocation, bitmap_type, names_index}
use Rattle.record_model.specs.Pairs.{pairs_of, pairs_from}
use Rattle.record_model.specs.Records.{Record}
use Rattle.record_writer.specs.Normal.{normal, normal_form}
use Rattle.made_data.specs.used_laws.Laws.{AreFormBytes, HasBytes}
use Rattle.made_data.specs.Ids.{place_of}
use Rattle.directory_growth.specs.Growing.{root_bytes}
use Rattle.directory_growth.specs.Laws.{IndexHasRoom}
use Rattle.made_index.specs.Made.{with_empty_index, indexed_record}
use Rattle.made_index.specs.Laws.{AnyIndexHasRoom}
use Rattle.made_index.proofs.Having.{with_blocks, own_blocks, own_bits, has_made}
use Rattle.made_index.proofs.Turning.{has_there, some_more, little_made, change_own, change_made}

-- ---- mapping pairs are bytes

joined_bytes : (xs ys : List ℕ) → AreBytes xs → AreBytes ys → AreBytes (xs ++ ys)
joined_bytes [] ys first second i = second i
joined_bytes (x ∷ xs) ys first second zero = first 0
joined_bytes (x ∷ xs) ys first second (suc i) = joined_bytes xs ys (λ j. first (suc j)) second i

zero_bytes : (n : ℕ) → AreBytes (zeros n)
unfolding zeros
zero_bytes zero i = omega arith
zero_bytes (suc n) zero = omega arith
zero_bytes (suc n) (suc i) = zero_bytes n i

form_bytes : (form : OwnForm) → AreFormBytes form → AreFormBytes (normal_form form)
unfolding filled
form_bytes (Resident value indexed) bytes = tt
form_bytes (Mapped sizes pairs) bytes = joined_bytes pairs _ bytes (zero_bytes _)

put_bytes : (p : ℕ) (new : Attr) (attrs : List Attr) → HasBytes new → All HasBytes attrs → All HasBytes (insert attrs p new)
put_bytes zero new attrs one all = All-cons HasBytes new attrs one all
put_bytes (suc p) new [] one all = All-cons HasBytes new [] one all
put_bytes (suc p) new (a ∷ attrs) one all = All-cons HasBytes a (insert attrs p new) (All-head HasBytes a attrs all) (put_bytes p new attrs one (All-tail HasBytes a attrs all))

none_bytes : AreBytes (pairs_of [])
unfolding pairs_of pairs_from
none_bytes zero = omega arith
none_bytes (suc i) = omega arith

made_bytes : (r : Record) → All HasBytes r.attrs → All HasBytes (indexed_record r).attrs
made_bytes r all =
    let blocks = put_bytes (place_of index_allocation names_index r.attrs) (own_blocks r) r.attrs none_bytes all in
    let both = put_bytes (place_of bitmap_type names_index (with_blocks r).attrs) (own_bits r) (with_blocks r).attrs tt blocks in
    All-map HasBytes normal (with_empty_index r).attrs (All-weaker HasBytes (λ (a : Attr). HasBytes (normal a)) (λ a bytes. form_bytes a.form bytes) (with_empty_index r).attrs both)

-- ---- the law

pub any_has_room : IndexHasRoom → AnyIndexHasRoom
any_has_room law clusters bits n r t more a value (inl has) little bytes is long = law clusters bits n r t more a value has little bytes (change_own bits n r t more a (has_there clusters r has) is) long
any_has_room law clusters bits n r t more a value (inr root) little bytes is long =
    law clusters bits n (indexed_record r) t more a value (has_made clusters r root) (little_made r (root_bytes t) more root.none little) (made_bytes r bytes) (change_made bits n r t more a root.none (some_more r (root_bytes t) more root.none little) is) long
