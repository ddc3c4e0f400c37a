use Rattle.std.proofs.Common.{inl, inr, arith}
use Rattle.tab_journal.proofs.Causes.{same_refusal, rose_before, is_err_of}
use Rattle.tab_journal.proofs.disks.read_both.Goals as goal

pub returns-in-Err-clause-causes : goal.returns-in-Err-clause-causes
returns-in-Err-clause-causes g c = record {
  later_a = omega (arith, c.sync.ensures.cause.later, c.read_all.ensures.cause.later);
  later_b = c.sync-2.ensures.cause.later;
  fault = λ area is.
      let f = c.refusal.ensures.fault area (same_refusal _ _ is) in
      inl (f.0, rose_before _ _ _ c.sync.ensures.cause.later (c.in-Err.ensures.cause.failed (is_err_of _ _ f.1)));
}

pub returns-in-Err-read_all-clause-causes : goal.returns-in-Err-read_all-clause-causes
returns-in-Err-read_all-clause-causes g c = record {
  later_a = omega (arith, c.sync.ensures.cause.later, c.read_all.ensures.cause.later);
  later_b = omega (arith, c.sync-2.ensures.cause.later, c.read_all-2.ensures.cause.later);
  fault = λ area is.
      let f = c.refusal-in-Err-read_all.ensures.fault area (same_refusal _ _ is) in
      inr (f.0, rose_before _ _ _ c.sync-2.ensures.cause.later (c.in-Err-read_all.ensures.cause.failed (is_err_of _ _ f.1)));
}
