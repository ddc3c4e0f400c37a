use Rattle.std.proofs.Common.{rules}
use Rattle.httparse.specs.Grammar.{trim_ows}
use Rattle.tab_http.specs.Headers.{is_close}
use Rattle.tab_http.proofs.header_fields.is_close.Goals as goal

pub returns : goal.returns
unfolding is_close trim_ows
returns c = search rules
