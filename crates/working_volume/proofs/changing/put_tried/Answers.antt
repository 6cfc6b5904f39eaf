use Rattle.plans_lead.specs.map_change.Parts.{live_parts}
use Rattle.working_volume.proofs.Putting.{tried}
use Rattle.working_volume.proofs.changing.put_tried.Goals as goal

pub returns : goal.returns
returns g c =
    record {
      puts = tried c.names_stay.ensures g.D.Device.gives g.D.Device.sector_count g.D.Device.changes_of g.D.Device.fault_count g.D.Device.moment_of c.answered.result c.args.plan c.args.store.now c.put_changes-put.new.store (live_parts c.args.live.now) (live_parts c.put_changes-put.new.live) c.args.upper.now c.put_changes-put.result
          c.requires.some c.requires.each c.requires.apart c.requires.leads c.requires.kept_on c.answered.ensures c.put_changes-put.ensures.holds (rw c.deref.ensures.value at c.put_changes-put.ensures.put) c.put_changes-put.ensures.sectors ((rw c.deref.ensures.value at c.put_changes-put.ensures.answer) c.requires.some) c.put_changes-put.ensures.broken c.put_changes-put.ensures.causes ((rw c.deref.ensures.value at c.put_changes-put.ensures.names) c.requires.some) c.put_changes-put.ensures.stays;
    }
