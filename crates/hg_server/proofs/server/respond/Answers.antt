use Rattle.hg_server.proofs.server.respond.Goals as goal

pub returns-in-Ok-clause-responds : goal.returns-in-Ok-clause-responds
returns-in-Ok-clause-responds g c = record {
  out = c.run.new.out.bytes;
  err = c.run.new.err.bytes;
  status = c.in_ok-status.status;
  run = c.in_ok-status.ensures;
  puts = rw (c.bytes.ensures, c.bytes-2.ensures) at c.in-Ok.ensures.all;
}
