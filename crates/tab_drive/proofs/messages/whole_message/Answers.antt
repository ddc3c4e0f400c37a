use Rattle.std.proofs.Common.{refl, ap, arith, [], Err}
use Rattle.tab_drive.specs.Messages.{alone}
use Rattle.tab_drive.proofs.Whole.{read_alone, refused_alone, read_message, read_refusal}
use Rattle.tab_drive.proofs.messages.whole_message.Goals as goal

pub returns-in-Ok : goal.returns-in-Ok
returns-in-Ok c =
    let behind = c.read_message.new.carry.items in
    let read = read_alone c.args.bytes c.into_vec-carry.result.items behind c.in-Ok.message c.into_vec-carry.ensures (c.in-Ok.ensures.all [] refl) in
    record {
      read = rw (c.alone.ensures, c.deref.ensures.value) (read_message c.args.bytes (alone c.in-Ok.message behind) read);
      refused = rw (c.alone.ensures, c.deref.ensures.value) (read_refusal c.args.bytes (alone c.in-Ok.message behind) read);
    }

pub returns : goal.returns
returns c = record {
  read = tt;
  refused = rw c.inside.ensures
      (refused_alone c.args.bytes c.into_vec-carry.result.items c.read_message.new.carry.items c.in-Err.refused c.into_vec-carry.ensures
      (λ is. let rose = c.in-Err.ensures.fault (ap Err is) in omega (arith, rose)) (c.in-Err.ensures.all [] refl));
}
