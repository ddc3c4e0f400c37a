-- What the example of a split comes to.
use Rattle.std.proofs.Common.{◌≡◌, [], ◌∷◌, ◌++◌, refl}
use Rattle.std.specs.Str.{chars}
use Rattle.tab_keys.specs.KeyTexts.{units_of}
use Rattle.tab_keys.specs.Order.{text_cmp, key_cmp}
use Rattle.tab_keys.specs.declared.bounds.Bound.TheVariants.{At}
use Rattle.tab_history.specs.Configurations.{bounds_of, row_with, replaced, plan_numbered, next_tick_of, next_tick_at, config_after_all}
use Rattle.tab_history.specs.Example.{opening, row_of}
use Rattle.tab_history.specs.DoubtsExample.{commit_in_doubt, commit_that_stood}
use Rattle.tab_history.specs.SplitExample.{whole_range, before_split, reopening}

pub still_whole : (config_after_all before_split opening (commit_in_doubt ++ reopening)).rows ≡ whole_range ∷ []
still_whole = refl

pub parted : bounds_of (config_after_all before_split opening (commit_in_doubt ++ commit_that_stood)).rows ≡ At 0 [] ∷ At 1 (98 ∷ []) ∷ []
unfolding replaced plan_numbered
parted = refl

pub ticks_stay : next_tick_at (config_after_all before_split opening (commit_in_doubt ++ commit_that_stood)) (row_of 100 7).key ≡ 8
unfolding replaced plan_numbered row_with next_tick_of key_cmp text_cmp units_of chars
ticks_stay = refl

pub plans_end : (config_after_all before_split opening (commit_in_doubt ++ commit_that_stood ++ reopening)).plans ≡ []
unfolding replaced plan_numbered
plans_end = refl

pub numbers_kept : (config_after_all before_split opening (commit_in_doubt ++ commit_that_stood ++ reopening)).next_range ≡ 4
unfolding replaced plan_numbered
numbers_kept = refl
