use Rattle.store_model.proofs.Devices.{put_is, torn_is, again_is, spells_body, settled_bears}
use Rattle.store_model.proofs.laws.device_calls.Goals as goal

pub returns : goal.returns
returns c = record { written = put_is; failed = torn_is; again = again_is; spelled = spells_body; settled = settled_bears }
