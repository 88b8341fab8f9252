use Rattle.client_desk.proofs.Telling.{written_told}
use Rattle.client_desk.proofs.reading.tell_slots.Goals as goal

pub returns : goal.returns
returns g c = record {
  counts = c.slots-counts.result;
  counted = c.slots-counts.ensures.counts;
  looked = c.slots-counts.ensures.looked;
  pin = c.slots-counts.ensures.pin;
  same = c.slots-counts.ensures.same;
  told = written_told c.print_slots.result _ c.args.bytes.now.items c.print_slots.new.out.items _ c.requires
      c.print_slots.ensures c.wrote.ensures.ok c.wrote.ensures.err;
}
