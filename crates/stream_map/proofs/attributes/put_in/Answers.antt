use Rattle.std.proofs.Common.{◌≡◌, sym, ap, ◌∙◌, subst, arith}
use Rattle.state_model.specs.Streams.{with_attribute}
use Rattle.stream_map.specs.Attributes.{behind, BeginUpTo}
use Rattle.stream_map.proofs.Inserting.{behind-push, behind-insert, with_attribute_last, BeginUpTo_up, BeginUpTo-with_attribute}
use Rattle.stream_map.proofs.attributes.put_in.Goals as goal

pub returns-then-most-first-clause-attributes : goal.returns-then-most-first-clause-attributes
returns-then-most-first-clause-attributes c =
    let refs = c.args.attributes.now.items in
    ap behind c.in_ok-push.ensures.items ∙ behind-push refs c.args.attr ∙ sym (with_attribute_last c.args.attr.now (behind refs) c.args.most c.requires (omega (arith, c.first_vcn-first.ensures)))

pub returns-then-most-first-clause-most : goal.returns-then-most-first-clause-most
returns-then-most-first-clause-most c =
    let refs = c.args.attributes.now.items in
    let m = c.first_vcn-first.result in
    let all : behind c.push.new.self.items ≡ with_attribute c.args.attr.now (behind refs) = ap behind c.in_ok-push.ensures.items ∙ behind-push refs c.args.attr ∙ sym (with_attribute_last c.args.attr.now (behind refs) c.args.most c.requires (omega (arith, c.first_vcn-first.ensures))) in
    subst (BeginUpTo m) (sym all) (BeginUpTo-with_attribute c.args.attr.now (behind refs) m (omega (arith, c.first_vcn-first.ensures)) (BeginUpTo_up (behind refs) c.args.most m c.if-most-first.true c.requires))

pub returns-clause-attributes : goal.returns-clause-attributes
returns-clause-attributes c =
    let refs = c.args.attributes.now.items in
    let at = c.place_of-at.result in
    let place = c.place_of-at.ensures.place in
    ap behind c.in_ok-insert.ensures.items ∙ behind-insert refs at c.args.attr ∙ sym (rw c.deref.ensures.value at place)

pub returns-clause-most : goal.returns-clause-most
returns-clause-most c =
    let refs = c.args.attributes.now.items in
    let place = c.place_of-at.ensures.place in
    let all : behind c.insert.new.self.items ≡ with_attribute c.args.attr.now (behind refs) = ap behind c.in_ok-insert.ensures.items ∙ behind-insert refs c.place_of-at.result c.args.attr ∙ sym (rw c.deref.ensures.value at place) in
    subst (BeginUpTo c.args.most) (sym all) (BeginUpTo-with_attribute c.args.attr.now (behind refs) c.args.most (omega (arith, c.first_vcn-first.ensures)) c.requires)
