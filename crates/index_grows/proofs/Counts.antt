-- What a step counts, from what comes of the index in memory.
use Rattle.std.proofs.Common.{◌≡◌, ℕ, ◌≤◌, Bool, List, Ok, subst, arith}
use Rattle.record_model.specs.Records.{Record}
use Rattle.index_model.specs.Trees.{Tree}
use Rattle.directory_growth.specs.declared.change.BitsChange.{BitsChange}
use Rattle.directory_growth.specs.declared.change.BitsChange.TheVariants.{Stays}
use Rattle.directory_growth.specs.declared.change.IndexChange.{IndexChange}
use Rattle.directory_growth.specs.Growing.{root_bytes, bits_in, BitsCome}
use Rattle.step_model.specs.Streams.{wanted_used}
use Rattle.made_index.specs.Growing.{with_streams, AnyIndexAfter}
use Rattle.index_grows.specs.Counted.{CountsFor, CountsOf}

pub counts_by : (bits new : List Bool) (r : Record) (root more : ℕ) (a : IndexChange) (file : Record) → ((n : ℕ) (t : Tree) → root ≡ root_bytes t → AnyIndexAfter bits new n r t more (Ok a)) → a.bits ≡ Stays file → CountsOf bits r root more
counts_by bits new r root more a file after stays n t same =
    let k = (after n t same).is_change in
    let in_record = subst (λ (b : BitsChange). BitsCome k.bits_grow (bits_in (with_streams r)) a.blocks.file (wanted_used n r more).real b) stays k.bitmap in
    record {
      used = (let low = k.room in let is = k.used in omega (arith, low, is));
      blocks = k.blocks_grow;
      bitmap = k.bits_grow;
      growths = k.growths;
      stands = in_record.stands;
    }
