use Rattle.client_desk.proofs.Asking.{one_done}
use Rattle.client_desk.proofs.drafts.write_drafted.Goals as goal

pub loop-write-preserved : goal.loop-write-preserved
loop-write-preserved g c =
    let l = c.loop-write in
    one_done c.args.writes.now l.write-index c.write-item.result c.args.asking.now l.asking c.do_write.new.asking
    c.loop-write-test.true c.write-item.is l.invariant c.in_default.ensures.done
