use Rattle.std.proofs.Common.{rules, refl}
use Rattle.tab_http.proofs.HeadLemmas.{token_text, names_text, front_head}
use Rattle.tab_http.proofs.heads.Head.read_front.Goals as goal

pub text_of-requires : goal.text_of-requires
text_of-requires c =
    let at = (rw c.in-Ok-Complete.field-0-is at c.in-Ok-Complete.ensures.complete) in
    rw (c.of.ensures, at.1.method) (token_text _ at.1.reads.0.method)

pub headers_of-requires-clause-names : goal.headers_of-requires-clause-names
headers_of-requires-clause-names c =
    let at = (rw c.in-Ok-Complete.field-0-is at c.in-Ok-Complete.ensures.complete) in
    names_text c.args.bytes.now _ at.0.fields at.1.fields at.1.reads.0.fields

pub returns : goal.returns
returns c =
    let at = (rw c.in-Ok-Complete.field-0-is at c.in-Ok-Complete.ensures.complete) in (
      at.0,
      front_head c.args.bytes.now c.parse_request.new.headers c.in-Ok-Complete.found at.0 _ (rw c.in-Ok-Complete.field-0-is at c.in-Ok-Complete.ensures.within) at.1 (search rules)
          (search rules) (search rules) refl (search rules) refl,
    )
