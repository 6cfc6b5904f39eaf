use Rattle.std.proofs.Common.{rules, ◌≡◌, true, false, sym}
use Rattle.record_model.specs.Records.{has_first, has_size, is_base}
use Rattle.volume_links.proofs.Declining.{no_first, no_size, no_base, exactly_in}
use Rattle.volume_links.proofs.Plainly.{plain_in}
use Rattle.volume_links.proofs.plain.take_plain.Goals.{then-not-has_first-via-then-not-has_first, then-not-has_first-via-else-not-has_first+then-not-has_size, then-not-has_first-via-else-not-has_first+else-not-has_size+then-not-is_base}
use Rattle.volume_links.proofs.plain.take_plain.Goals as goal

pub returns-then-not-has_first-clause-exact : goal.returns-then-not-has_first-clause-exact
returns-then-not-has_first-clause-exact c =
    elim c.then-not-has_first.branch [
      | then-not-has_first-via-then-not-has_first w ↦ (let isnt : has_first c.args.body.now ≡ false = search rules in sym (no_first c.args.body.now isnt))
      | then-not-has_first-via-else-not-has_first+then-not-has_size w ↦ (let isnt : has_size c.args.body.now ≡ false = search rules in sym (no_size c.args.body.now isnt))
      | then-not-has_first-via-else-not-has_first+else-not-has_size+then-not-is_base w ↦ (let isnt : is_base c.args.body.now ≡ false = search rules in sym (no_base c.args.body.now isnt))
    ]

pub returns-clause-plain : goal.returns-clause-plain
returns-clause-plain c =
    let first : has_first c.args.body.now ≡ true = search rules in
    let size : has_size c.args.body.now ≡ true = search rules in
    let base : is_base c.args.body.now ≡ true = search rules in
    plain_in c.take_all.result c.args.number c.u16_at.result c.args.body.now c.args.links.now.items c.take_all.new.links.items first size base c.u16_at.ensures (rw c.attribute_bytes.ensures at c.take_all.ensures.plain)

pub returns-clause-exact : goal.returns-clause-exact
returns-clause-exact c =
    exactly_in c.take_all.result c.args.number c.args.body.now c.args.links.now.items c.take_all.new.links.items (rw c.attribute_bytes.ensures at c.take_all.ensures.exact) (returns-clause-plain c)
