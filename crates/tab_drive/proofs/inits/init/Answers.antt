use Rattle.std.proofs.Common.{refl, ap, Some, Err}
use Rattle.tab_core.specs.declared.cores.InitRefused.TheVariants.{NotEmpty, DiskFault, Memory}
use Rattle.tab_drive.proofs.InitCauses.{not_ok, not_memory, fault_before}
use Rattle.tab_drive.proofs.inits.init.Goals as goal

pub returns-in-Ok-clause-not_empty : goal.returns-in-Ok-clause-not_empty
returns-in-Ok-clause-not_empty g c told disk first = absurd (not_ok _ disk (c.in-Ok.ensures.first told disk first))

pub returns-in-Err-NotEmpty-clause-inits : goal.returns-in-Err-NotEmpty-clause-inits
returns-in-Err-NotEmpty-clause-inits g c left = record {
  refused = Some (NotEmpty c.in-Err-NotEmpty.disk);
  cause = λ told. c.in-Err-NotEmpty.ensures.not_empty told c.in-Err-NotEmpty.disk (ap (λ e. Err e) c.in-Err-NotEmpty.field-0-is);
  status_is = c.said_of_disk.ensures.status;
  said = record { unread = refl; line = c.said_of_disk.ensures.line; history_is = c.said_of_disk.ensures.history; counted = c.said_of_disk.ensures.done };
}

pub returns-in-Err-DiskFault-clause-inits : goal.returns-in-Err-DiskFault-clause-inits
returns-in-Err-DiskFault-clause-inits g c left = record {
  refused = Some (DiskFault c.in-Err-DiskFault.disk);
  cause = (
    c.in-Err-DiskFault.ensures.fault c.in-Err-DiskFault.disk (ap (λ e. Err e) c.in-Err-DiskFault.field-0-is),
    λ told k first. fault_before c.in-Err-DiskFault.field-0 c.in-Err-DiskFault.disk k c.in-Err-DiskFault.field-0-is (c.in-Err-DiskFault.ensures.first told k first),
  );
  status_is = c.said_of_disk-in-Err-DiskFault.ensures.status;
  said = record {
    unread = refl;
    line = c.said_of_disk-in-Err-DiskFault.ensures.line;
    history_is = c.said_of_disk-in-Err-DiskFault.ensures.history;
    counted = c.said_of_disk-in-Err-DiskFault.ensures.done;
  };
}

pub returns-in-Err-Memory-clause-inits : goal.returns-in-Err-Memory-clause-inits
returns-in-Err-Memory-clause-inits g c left = record {
  refused = Some Memory;
  cause = tt;
  status_is = c.said_only.ensures.status;
  said = record { unread = refl; line = c.said_only.ensures.line; history_is = c.said_only.ensures.history; counted = c.said_only.ensures.done };
}

pub returns-in-Err-Memory-clause-not_empty : goal.returns-in-Err-Memory-clause-not_empty
returns-in-Err-Memory-clause-not_empty g c told disk first = absurd (not_memory c.in-Err-Memory.field-0 disk c.in-Err-Memory.field-0-is (c.in-Err-Memory.ensures.first told disk first))
