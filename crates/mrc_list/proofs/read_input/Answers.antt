-- Where more may come, what came stands behind the bytes that were there.
use Rattle.std.proofs.Common.{arith, rules}
use Rattle.mrc_list.proofs.Known.{read_on}
use Rattle.mrc_list.proofs.read_input.Goals as goal

pub loop-filled-preserved : goal.loop-filled-preserved
loop-filled-preserved g c =
    let l = c.loop-filled in
    record {
      within = search rules;
      bytes = read_on _ _ _ l.room c.read.new.buf l.there _ _ c.read.result c.in-Continue.ensures c.read.ensures.bound c.read.ensures.bytes (omega arith) l.invariant.bytes;
    }
