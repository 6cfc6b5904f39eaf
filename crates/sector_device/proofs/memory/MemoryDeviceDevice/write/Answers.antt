use Rattle.std.proofs.Common.{◌≡◌, ℕ, List, ◌/◌, length, take, ap, arith}
use Rattle.std.proofs.lemmas.List.{take_all}
use Rattle.sector_device.specs.Sectors.{sectors_of}
use Rattle.sector_device.specs.WholeSectors.{length-sectors_of}
use Rattle.sector_device.proofs.SectorParts.{sectors_of_front}
use Rattle.sector_device.proofs.KeptCalls.{changes_by, write_done_of, torn_of}
use Rattle.sector_device.proofs.Keeping.{write_keeps}
use Rattle.sector_device.proofs.memory.MemoryDeviceDevice.write.Goals as goal

pub returns-clause-changes : goal.returns-clause-changes
returns-clause-changes c =
    let old = c.args.self.now in
    let begun = c.begin-fails.new.self in
    let laid = c.lay-done.new.self in
    let now = c.answer.new.self in
    write_done_of c.args.self.now.moment c.args.first (c.taken_of-taken.result / 512) c.begin-fails.result (sectors_of c.args.bytes.now) (sectors_of (take c.taken_of-taken.result c.args.bytes.now)) c.lay-done.result c.answer.result
    (changes_by old.writes old.syncs (sectors_of old.bytes.items) old.done.items)
    (changes_by begun.writes begun.syncs (sectors_of begun.bytes.items) begun.done.items)
    (changes_by laid.writes laid.syncs (sectors_of laid.bytes.items) laid.done.items)
    (changes_by now.writes now.syncs (sectors_of now.bytes.items) now.done.items)
    (omega arith) (sectors_of_front c.taken_of-taken.result c.args.bytes.now c.taken_of-taken.ensures.whole c.taken_of-taken.ensures.within)
    c.begin-fails.ensures.changes c.lay-done.ensures.ok c.lay-done.ensures.err c.answer.ensures.changes
    (λ no_fail. ap (λ (l : List ℕ). sectors_of l) (take_all c.taken_of-taken.result c.args.bytes.now (omega (arith, c.taken_of-taken.ensures.all no_fail))))
    c.answer.ensures.fails c.answer.ensures.failed

pub returns-clause-torn : goal.returns-clause-torn
returns-clause-torn c =
    let same : sectors_of c.begin-fails.new.self.bytes.items ≡ sectors_of c.args.self.now.bytes.items = ap (λ (l : List ℕ). sectors_of l) c.begin-fails.ensures.bytes in
    let kept : sectors_of c.answer.new.self.bytes.items ≡ sectors_of c.lay-done.new.self.bytes.items = ap (λ (l : List ℕ). sectors_of l) c.answer.ensures.bytes in
    let count : length (sectors_of c.args.bytes.now) ≡ length c.args.bytes.now / 512 = length-sectors_of c.args.bytes.now in
    let all : length (sectors_of c.args.self.now.bytes.items) ≡ length c.args.self.now.bytes.items / 512 = length-sectors_of c.args.self.now.bytes.items in
    torn_of c.args.first (c.taken_of-taken.result / 512) (sectors_of c.args.bytes.now) (sectors_of (take c.taken_of-taken.result c.args.bytes.now)) (sectors_of c.args.self.now.bytes.items) (sectors_of c.begin-fails.new.self.bytes.items)
    (sectors_of c.lay-done.new.self.bytes.items) (sectors_of c.answer.new.self.bytes.items) c.lay-done.result c.answer.result
    (sectors_of_front c.taken_of-taken.result c.args.bytes.now c.taken_of-taken.ensures.whole c.taken_of-taken.ensures.within)
    (omega (arith, count, all, c.requires.within)) same c.lay-done.ensures.written c.lay-done.ensures.same kept

pub returns-clause-kept : goal.returns-clause-kept
returns-clause-kept c =
    write_keeps c.args.self.now.moment c.args.first c.taken_of-taken.result c.begin-fails.new.self.tearing c.args.self.now.tearing c.begin-fails.result c.args.bytes.now c.args.self.now.bytes.items c.begin-fails.new.self.bytes.items c.lay-done.result c.answer.result
    c.args.self.now.done.items c.begin-fails.new.self.done.items c.lay-done.new.self.done.items c.answer.new.self.done.items
    c.begin-fails.ensures.done c.begin-fails.ensures.bytes c.begin-fails.ensures.tearing c.taken_of-taken.ensures.within c.taken_of-taken.ensures.all c.taken_of-taken.ensures.torn c.requires.whole c.requires.within
    c.lay-done.ensures.done c.answer.ensures.done c.answer.ensures.fails c.answer.ensures.failed c.answer.ensures.only
