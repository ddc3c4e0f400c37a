-- The first refusal of a list of properties, property by property.
use Rattle.std.proofs.Common.{◌≡◌, ℕ, zero, suc, ◌+◌, ◌<◌, List, [], ◌∷◌, length, drop, get_or, Option, Some, None, Ok, Err, ◌≤◌, refl, sym, ap, ◌∙◌, arith, drop-cons, add-one}
use Rattle.std.proofs.lemmas.Bool.{lt-ltb, le-ltb}
use Rattle.std.proofs.lemmas.List.{get_or_default}
use Rattle.std.proofs.lemmas.Option.{none-some}
use Rattle.std.proofs.Math.Seq.{drop-length}
use Rattle.std.specs.List.{All}
use Rattle.std.specs.Option.{option_or}
use Rattle.tab_edm.specs.Entities.{refused, property_refusal, first_refusal, entity_refusal, entity_size, made}
use Rattle.tab_edm.specs.declared.values.Property.{Property}
use Rattle.tab_edm.specs.declared.values.PropertyFault.{PropertyFault}
use Rattle.tab_edm.specs.declared.entities.EdmRefused.{EdmRefused}
use Rattle.tab_edm.specs.declared.entities.EdmRefused.TheVariants.{TooMany, TooLarge}

first_refusal-drop : (ps : List Property) (i : ℕ) (d : Property) → i < length ps → first_refusal (drop i ps) ≡ option_or (property_refusal (get_or ps i d)) (first_refusal (drop (i + 1) ps))
unfolding first_refusal
first_refusal-drop ps i d h = rw (add-one, drop-cons ps i d) refl

-- a property without a fault hands over to those after it
pub passes : (ps : List Property) (i : ℕ) (p : Property) → i < length ps → p ≡ get_or ps i p → property_refusal p ≡ None → first_refusal ps ≡ first_refusal (drop i ps) → first_refusal ps ≡ first_refusal (drop (i + 1) ps)
passes ps i p h is none so_far = so_far ∙ first_refusal-drop ps i p h ∙ rw (← is, none) refl

-- the first with a fault decides
pub stops : (ps : List Property) (i : ℕ) (p d : Property) (fault : PropertyFault) → i < length ps → p ≡ get_or ps i p → property_refusal p ≡ Some (refused fault p) → first_refusal ps ≡ first_refusal (drop i ps) → first_refusal ps ≡ Some (refused fault (get_or ps i d))
stops ps i p d fault h is some so_far =
    let here : p ≡ get_or ps i d = is ∙ get_or_default ps i p d h in
    so_far ∙ first_refusal-drop ps i d h ∙ rw (← here, some) refl

-- of two refusals in turn there is none where both are none
pub first_none : {R : Type 0} (r later : Option R) → option_or r later ≡ None → r ≡ None
first_none None later e = refl
first_none (Some why) later e = absurd (none-some why (sym e))

pub later_none : {R : Type 0} (r later : Option R) → option_or r later ≡ None → later ≡ None
later_none None later e = e
later_none (Some why) later e = absurd (none-some why (sym e))

-- where no property is refused, each is allowed
pub each_allowed : (ps : List Property) → first_refusal ps ≡ None → All (λ p. property_refusal p ≡ None) ps
unfolding first_refusal
each_allowed [] e k d h = absurd (omega arith)
each_allowed (p ∷ ps) e zero d h = first_none _ _ e
each_allowed (p ∷ ps) e (suc k) d h = each_allowed ps (later_none (property_refusal p) (first_refusal ps) e) k d (omega arith)

-- at the end nothing was refused
pub passed_all : (ps : List Property) (i : ℕ) → i ≡ length ps → first_refusal ps ≡ first_refusal (drop i ps) → first_refusal ps ≡ None
unfolding first_refusal
passed_all ps i h so_far = so_far ∙ rw (h, drop-length ps) refl

-- the first refusal, as it is told of a list that was lent, with the property taken out
pub told : (ps lent : List Property) (i : ℕ) (fault : PropertyFault) (p : Property) (why : EdmRefused) → lent ≡ ps → ((d : Property) → first_refusal lent ≡ Some (refused fault (get_or lent i d))) → p ≡ get_or ps i p → why ≡ refused fault p → first_refusal ps ≡ Some why
told ps lent i fault p why same first here is =
    let taken : get_or lent i p ≡ p = rw same (sym here) in
    ap first_refusal (sym same) ∙ first p ∙ rw (taken, is) refl

refused_first : (pk_units rk_units : ℕ) (ps : List Property) (why : EdmRefused) → first_refusal ps ≡ Some why → entity_refusal pk_units rk_units ps ≡ Some why
unfolding entity_refusal
refused_first pk_units rk_units ps why e = rw e refl

refused_many : (pk_units rk_units : ℕ) (ps : List Property) → first_refusal ps ≡ None → 252 < length ps → entity_refusal pk_units rk_units ps ≡ Some TooMany
unfolding entity_refusal
refused_many pk_units rk_units ps none many = rw (none, lt-ltb 252 (length ps) many) refl

refused_large : (pk_units rk_units : ℕ) (ps : List Property) → first_refusal ps ≡ None → length ps ≤ 252 → 1_048_576 < entity_size pk_units rk_units ps → entity_refusal pk_units rk_units ps ≡ Some TooLarge
unfolding entity_refusal
refused_large pk_units rk_units ps none few large = rw (none, le-ltb 252 (length ps) few, lt-ltb 1_048_576 (entity_size pk_units rk_units ps) large) refl

pub refused_not : (pk_units rk_units : ℕ) (ps : List Property) → first_refusal ps ≡ None → length ps ≤ 252 → entity_size pk_units rk_units ps ≤ 1_048_576 → entity_refusal pk_units rk_units ps ≡ None
unfolding entity_refusal
refused_not pk_units rk_units ps none few small = rw (none, le-ltb 252 (length ps) few, le-ltb 1_048_576 (entity_size pk_units rk_units ps) small) refl

made-Some : (pk_units rk_units : ℕ) (ps : List Property) (why : EdmRefused) → entity_refusal pk_units rk_units ps ≡ Some why → Err why ≡ made pk_units rk_units ps
unfolding made
made-Some pk_units rk_units ps why e = rw e refl

-- a refusal of a property, and that of too many, and of too large a size
pub made-first : (pk_units rk_units : ℕ) (ps : List Property) (why : EdmRefused) → first_refusal ps ≡ Some why → Err why ≡ made pk_units rk_units ps
made-first pk_units rk_units ps why e = made-Some pk_units rk_units ps why (refused_first pk_units rk_units ps why e)

pub made-many : (pk_units rk_units : ℕ) (ps : List Property) → first_refusal ps ≡ None → 252 < length ps → Err TooMany ≡ made pk_units rk_units ps
made-many pk_units rk_units ps none many = made-Some pk_units rk_units ps TooMany (refused_many pk_units rk_units ps none many)

pub made-large : (pk_units rk_units : ℕ) (ps : List Property) → first_refusal ps ≡ None → length ps ≤ 252 → 1_048_576 < entity_size pk_units rk_units ps → Err TooLarge ≡ made pk_units rk_units ps
made-large pk_units rk_units ps none few large = made-Some pk_units rk_units ps TooLarge (refused_large pk_units rk_units ps none few large)

pub made-None : (pk_units rk_units : ℕ) (ps : List Property) → entity_refusal pk_units rk_units ps ≡ None → Ok (record { properties = ps; pk_units = pk_units; rk_units = rk_units }) ≡ made pk_units rk_units ps
unfolding made
made-None pk_units rk_units ps e = rw e refl
