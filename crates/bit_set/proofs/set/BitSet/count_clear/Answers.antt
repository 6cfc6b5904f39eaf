use Rattle.std.proofs.Common.{List, Bool, sym, ap, ◌∙◌}
use Rattle.std.specs.Prelude.{not, count_by}
use Rattle.bit_set.proofs.Views.{count_by-bits_of}
use Rattle.bit_set.proofs.set.BitSet.count_clear.Goals as goal

pub returns : goal.returns
returns c = c.self.invariant.counted.count ∙ sym (count_by-bits_of c.self.inside.words.items c.self.inside.bits) ∙ ap (λ (bits : List Bool). count_by not bits) c.self.view_is
