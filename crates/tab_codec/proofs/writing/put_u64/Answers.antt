use Rattle.tab_codec.proofs.Sums.{appended}
use Rattle.std.proofs.Common.{List, ℕ, ◌≡◌, ◌++◌, OnOk, subst}
use Rattle.tab_codec.proofs.writing.put_u64.Goals as goal

pub returns : goal.returns
returns c = rw (← c.to_be_bytes.ensures) (appended c.extend_from_slice.result c.args.out.now.items c.to_be_bytes.result c.extend_from_slice.new.self.items c.extend_from_slice.ensures.items)
