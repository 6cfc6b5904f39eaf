use Rattle.std.proofs.Common.{◌≡◌, ℕ, ◌+◌, ◌/◌, ◌<◌, ◌≤◌, length, Err, sym, subst, inr, arith}
use Rattle.record_model.specs.Pairs.{cluster_limit}
use Rattle.draft_records.specs.Records.{fits_room}
use Rattle.state_model.specs.declared.stream.Stream.TheVariants.{Placed}
use Rattle.draft_growth.specs.Growing.{numbers_bytes, MayGrow, MayGrowIn}
use Rattle.table_makes.specs.Growing.{lacking, IsTooFullAs}
use Rattle.table_makes.proofs.Counted.{full_by, lacking_is, longer_is, same_count}
use Rattle.table_makes.proofs.counting.count_placed.Goals as goal

pub longer_bitmap-requires-clause-clusters : goal.longer_bitmap-requires-clause-clusters
longer_bitmap-requires-clause-clusters g c = subst (λ (n : ℕ). n ≤ cluster_limit) (sym (same_count (g.B.FreeBits.bits c.args.bits.now) _ c.args.table.now c.in_ok-file.ensures.bits)) c.requires.table.few

pub longer_bitmap-requires-clause-extents : goal.longer_bitmap-requires-clause-extents
longer_bitmap-requires-clause-extents g c =
    subst (λ (n : ℕ). MayGrow n c.args.extents.now) (sym (same_count (g.B.FreeBits.bits c.args.bits.now) _ c.args.table.now c.in_ok-file.ensures.bits))
    (subst (MayGrowIn (length (g.B.FreeBits.bits c.args.bits.now)) (numbers_bytes c.args.table.now)) c.requires.stream c.requires.table.stream)

pub returns-clause-full : goal.returns-clause-full
returns-clause-full g c =
    let t = c.args.table.now in
    let bits = g.B.FreeBits.bits c.args.bits.now in
    let size : (t.extents.real / 1024 + 263) / 8 ≡ numbers_bytes t = omega arith in
    let lack = lacking_is ((t.extents.real / 1024 + 263) / 8) t c.args.extents.now c.requires.stream size in
    let some : 0 < lacking t = (let no = c.if-wanted-eq0.false in let is = c.lacking-wanted.ensures.value in omega (arith, no, is, lack)) in
    let longer =
    longer_is c.args.per ((t.extents.real / 1024 + 263) / 8) c.lacking-wanted.result bits _ t c.args.extents.now c.in_ok-file.file c.in_ok-longer.longer c.requires.per c.requires.stream size c.lacking-wanted.ensures.value c.in_ok-file.ensures.bits c.in_ok-file.ensures.value c.in_ok-longer.ensures.value
    in
    full_by c.has_room.result (λ used. fits_room c.in_ok-longer.longer ≡ Err used) (λ used. IsTooFullAs bits t used (Placed c.args.extents.now))
    (λ used full. inr (some, subst (λ r. fits_room r ≡ Err used) longer full)) c.has_room.ensures.full
