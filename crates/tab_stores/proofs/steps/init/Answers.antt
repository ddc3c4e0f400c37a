use Rattle.std.proofs.Common.{◌≡◌, true, sym, subst, ◌∙◌, arith}
use Rattle.std.specs.List.{AllByRecursion}
use Rattle.tab_codec.specs.Frames.{IsShort}
use Rattle.tab_codec.specs.Spelling.{body}
use Rattle.tab_journal.specs.Fitting.{takes_all, told_first, told_by, is_whole_store}
use Rattle.tab_stores.specs.CountLaws.{are_frames}
use Rattle.tab_stores.proofs.steps.init.Goals as goal

pub init-requires-clause-short : goal.init-requires-clause-short
init-requires-clause-short c =
    subst (λ fs. AllByRecursion (λ frame. IsShort (body frame)) fs) (sym (c.deref.ensures.value ∙ c.in_ok-base.ensures)) ((are_frames 1 (omega arith)).spelled.0.short, tt)

pub init-requires-clause-fit : goal.init-requires-clause-fit
init-requires-clause-fit c = subst (λ fs. takes_all (told_first 2) fs ≡ true) (sym (c.deref.ensures.value ∙ c.in_ok-base.ensures)) (are_frames 1 (omega arith)).fit

pub init-requires-clause-whole : goal.init-requires-clause-whole
init-requires-clause-whole c = subst (λ fs. is_whole_store (told_by 2 fs) ≡ true) (sym (c.deref.ensures.value ∙ c.in_ok-base.ensures)) (are_frames 1 (omega arith)).whole
