use Rattle.tab_codec.proofs.FrontLaws.{refused_within}
use Rattle.tab_codec.proofs.laws.a_refusal_is_within_the_bytes.Goals as goal

pub returns : goal.returns
returns c = refused_within
