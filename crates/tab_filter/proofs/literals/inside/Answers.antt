use Rattle.std.proofs.Common.{sym, ◌∙◌}
use Rattle.std.specs.Prelude.{string_bytes}
use Rattle.std.proofs.lemmas.Bool.{ne_eqb}
use Rattle.std.proofs.lemmas.Bool.Decides.{Decides-eqb}
use Rattle.tab_filter.proofs.LiteralSteps.{inside_char, inside_end}
use Rattle.tab_filter.proofs.literals.inside.Goals as goal

pub loop-c-preserved-then-c-ne39 : goal.loop-c-preserved-then-c-ne39
loop-c-preserved-then-c-ne39 c =
    inside_char (string_bytes c.loop-c.inside) (string_bytes c.push.new.self) c.loop-c.text.now c.in-Some.rest.now c.args.text.now c.in-Some.c c.loop-c.invariant c.in-Some.ensures (ne_eqb c.in-Some.c 39 c.if-c-ne39.true) c.in_ok-push.ensures.bytes

pub returns-else-starts : goal.returns-else-starts
returns-else-starts c =
    inside_end (string_bytes c.loop-c.inside) c.loop-c.text.now c.in-Some.rest.now c.args.text.now c.in-Some.c c.loop-c.invariant c.in-Some.ensures ((Decides-eqb c.in-Some.c 39).1 c.if-c-ne39.false) (sym c.starts.ensures ∙ c.if-starts.false)
