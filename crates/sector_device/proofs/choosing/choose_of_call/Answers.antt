use Rattle.std.proofs.Common.{subst, [], ◌∷◌}
use Rattle.sector_device.specs.Sectors.{sectors_of}
use Rattle.sector_device.specs.Left.{IsFair}
use Rattle.sector_device.specs.declared.memory.KeptCall.{KeptCall}
use Rattle.sector_device.proofs.Leaving.{read_passes, failure_passes}
use Rattle.sector_device.proofs.choosing.choose_of_call.Goals as goal

pub returns-in-Read : goal.returns-in-Read
returns-in-Read c = λ disk calls fair.
    read_passes disk (sectors_of c.args.image.now) c.args.decided.now calls (subst (λ (k : KeptCall). IsFair disk (sectors_of c.args.image.now) c.args.decided.now 0 [] (k ∷ calls)) c.in-Read.is fair)

pub returns-in-Failed : goal.returns-in-Failed
returns-in-Failed c = λ disk calls fair.
    failure_passes disk (sectors_of c.args.image.now) c.args.decided.now calls (subst (λ (k : KeptCall). IsFair disk (sectors_of c.args.image.now) c.args.decided.now 0 [] (k ∷ calls)) c.in-Failed.is fair)
