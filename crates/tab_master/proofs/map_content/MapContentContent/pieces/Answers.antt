use Rattle.std.proofs.Common.{List, [], ◌∷◌, ◌++◌, ap, ◌∙◌}
use Rattle.tab_codec.specs.declared.frames.Frame.{Frame}
use Rattle.tab_master.proofs.MapFits.{map_checks_out}
use Rattle.tab_master.proofs.map_content.MapContentContent.pieces.Goals as goal

pub returns : goal.returns
returns c =
    map_checks_out c.args.self.now.servers c.push.new.self.items c.in_ok-frame.field-0 c.args.self.now.told c.frame.ensures.over
    (c.in_ok-push.ensures.items ∙ ap (λ (l : List Frame). l ++ c.in_ok-frame.field-0 ∷ []) c.new-pieces.ensures.items) c.in_ok-frame.ensures.is c.in_ok-frame.ensures.spelled
