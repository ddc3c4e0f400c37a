use Rattle.std.proofs.Common.{rules, get_or}
use Rattle.tab_cli.proofs.Parts.{parted}
use Rattle.tab_cli.proofs.invocations.read_invocation.Goals as goal

pub returns-clause-some : goal.returns-clause-some
returns-clause-some c = record {
  program = get_or c.args.arguments.now 0 c.folder-item.result;
  place = c.folder-item.result;
  count = c.servers-item.result;
  order = parted c.args.arguments.now c.folder-item.result c.servers-item.result c.in-len3-up.len_at_least c.folder-item.is c.servers-item.is;
  named = search rules;
  counted = search rules;
  least = search rules;
  most = search rules;
}
