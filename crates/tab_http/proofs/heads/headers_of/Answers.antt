use Rattle.tab_http.proofs.heads.headers_of.Goals as goal

pub text_of-requires : goal.text_of-requires
text_of-requires c = rw c.of.ensures (c.requires.names c.loop-span.span-index _ c.loop-span-test.true)
