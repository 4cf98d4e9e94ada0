-- The field and the entry together are the seed.
use Rattle.std.proofs.Common.{arith}
use Rattle.shared_table.proofs.SeedWrites.{set-low, set-high, at_most, room_for}
use Rattle.shared_table.proofs.seeds.set_seed.Goals as goal

pub free_entry-requires : goal.free_entry-requires
free_entry-requires c = at_most c.args.seeds.now c.args.overflow.now c.requires.matched c.args.bucket

pub put_entry-requires : goal.put_entry-requires
put_entry-requires c = record {
  once = at_most c.args.seeds.now c.args.overflow.now c.requires.matched c.args.bucket;
  room = room_for c.args.seeds.now c.args.overflow.now c.requires.matched c.args.bucket c.args.seed (omega arith) c.requires.room;
}

pub returns-then-seed-lt31 : goal.returns-then-seed-lt31
returns-then-seed-lt31 c =
    set-low c.args.seeds.now c.args.overflow.now c.requires.matched c.write_field.new.area c.free_entry.new.entries
    c.args.bucket c.args.seed (omega arith) c.write_field.ensures.is c.write_field.ensures.bits c.free_entry.ensures

pub returns-else-seed-lt31 : goal.returns-else-seed-lt31
returns-else-seed-lt31 c =
    set-high c.args.seeds.now c.args.overflow.now c.requires.matched c.write_field-else-seed-lt31.new.area c.put_entry.new.entries
    c.args.bucket c.args.seed (omega arith) c.write_field-else-seed-lt31.ensures.is c.write_field-else-seed-lt31.ensures.bits c.put_entry.ensures
